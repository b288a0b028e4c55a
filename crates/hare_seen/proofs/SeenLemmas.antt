-- A store, of whose definitions of names only some are seen, is a store.
use Rattle.std.proofs.Common.{◌≡◌, ℕ, Bool, true, false, cond, List, [], ◌∷◌, map, Option, Some, None, refl, ap, sym, ◌∙◌, subst, nat_eq}
use Rattle.std.specs.Prelude.{option_map, option_and_then}
use Rattle.std.specs.Map.{lookup}
use Rattle.std.proofs.lemmas.Bool.{eqb-true}
use Rattle.std.proofs.lemmas.List.{append-nil}
use Rattle.hare_types.specs.declared.declared.Declared.{Declared}
use Rattle.hare_types.specs.Numbering.{Continues}
use Rattle.hare_types.specs.Trees.{Tree}
use Rattle.hare_types.specs.Store.{Store, tree_at, sized_of, definition_of, meaning_of}
use Rattle.hare_types.specs.Sound.{IsStore}
use Rattle.hare_types.specs.ByValue.{has_size, has_size_by, Leads}
use Rattle.hare_types.specs.Later.{IsLater}
use Rattle.hare_seen.specs.Seen.{masked, seen_by}
use Rattle.hare_seen.specs.Laws.{IsSeen}

-- ---- what is entered of a name

-- what is entered of each name is masked as the choice says
lookup-masked : (chosen : ℕ → Bool) (d : ℕ) (es : List (ℕ × Declared))
    → lookup (nat_eq d) (map (λ e. (e.0, masked (chosen e.0) e.1)) es) ≡ option_map (masked (chosen d)) (lookup (nat_eq d) es)
lookup-masked chosen d [] = refl
lookup-masked chosen d (e ∷ es) = by (nat_eq d e.0) refl (lookup-masked chosen d es)
  where
    by : (b : Bool) → nat_eq d e.0 ≡ b
        → lookup (nat_eq d) (map (λ x. (x.0, masked (chosen x.0) x.1)) es) ≡ option_map (masked (chosen d)) (lookup (nat_eq d) es)
        → cond (nat_eq d e.0) (Some (masked (chosen e.0) e.1)) (lookup (nat_eq d) (map (λ x. (x.0, masked (chosen x.0) x.1)) es))
        ≡ option_map (masked (chosen d)) (cond (nat_eq d e.0) (Some e.1) (lookup (nat_eq d) es))
    by true h rest = rw h (ap (λ k. Some (masked (chosen k) e.1)) (sym (eqb-true d e.0 h)))
    by false h rest = rw h rest

definition-masked : (b : Bool) (o : Option Declared) →
    option_and_then (λ x. x.definition) (option_map (masked b) o) ≡ cond b (option_and_then (λ x. x.definition) o) None
definition-masked true None = refl
definition-masked false None = refl
definition-masked true (Some x) = refl
definition-masked false (Some x) = refl

sized-masked : (b : Bool) (o : Option Declared) → option_map (λ x. x.sized) (option_map (masked b) o) ≡ option_map (λ x. x.sized) o
sized-masked b None = refl
sized-masked true (Some x) = refl
sized-masked false (Some x) = refl

Continues-all : {A : Type 0} (xs : List A) → Continues xs xs
Continues-all xs = ([], sym (append-nil xs))

-- a way goes on to lead there
Leads-more : (old new : ℕ → Option Tree) → ((d : ℕ) (u : Tree) → old d ≡ Some u → new d ≡ Some u)
    → (t : Tree) (way : List ℕ) (d : ℕ) → Leads old t way d → Leads new t way d
Leads-more old new more t [] d h = h
Leads-more old new more t (e ∷ way) d h = (h.0, (h.1.0, more e h.1.0 h.1.1, Leads-more old new more h.1.0 way d h.1.2))

-- ---- the store

module _ (chosen : ℕ → Bool) (l : Store) (v : IsStore l) where
  definition-seen : (d : ℕ) → definition_of (seen_by chosen l) d ≡ cond (chosen d) (definition_of l d) None
  definition-seen d = ap (option_and_then (λ x. x.definition)) (lookup-masked chosen d l.declared) ∙ definition-masked (chosen d)
      (lookup (nat_eq d) l.declared)

  sized-seen : (d : ℕ) → sized_of (seen_by chosen l) d ≡ sized_of l d
  sized-seen d = ap (option_map (λ x. x.sized)) (lookup-masked chosen d l.declared) ∙ sized-masked (chosen d) (lookup (nat_eq d) l.declared)

  -- what is seen is there
  definition_there : (d t : ℕ) → definition_of (seen_by chosen l) d ≡ Some t → definition_of l d ≡ Some t
  definition_there d t e = by (chosen d) (sym (definition-seen d) ∙ e)
    where
      by : (b : Bool) → cond b (definition_of l d) None ≡ Some t → definition_of l d ≡ Some t
      by true h = h
      by false h = absurd cc

  -- what is there and chosen is seen
  definition_chosen : (d t : ℕ) → chosen d ≡ true → definition_of l d ≡ Some t → definition_of (seen_by chosen l) d ≡ Some t
  definition_chosen d t c e = definition-seen d ∙ ap (λ b. cond b (definition_of l d) None) c ∙ e

  meaning_there : (d : ℕ) (u : Tree) → meaning_of (seen_by chosen l) d ≡ Some u → meaning_of l d ≡ Some u
  meaning_there d u e = by (definition_of (seen_by chosen l) d) refl e
    where
      by : (o : Option ℕ) → definition_of (seen_by chosen l) d ≡ o → option_and_then (tree_at l) o ≡ Some u → meaning_of l d ≡ Some u
      by None f g = absurd cc
      by (Some t) f g = ap (option_and_then (tree_at l)) (definition_there d t f) ∙ g

  seen_sound : IsStore (seen_by chosen l)
  seen_sound = record {
    names_once = v.names_once;
    names_few = v.names_few;
    rows_sound = v.rows_sound;
    rows_few = v.rows_few;
    fields_named = v.fields_named;
    listed_once = v.listed_once;
    listed_few = v.listed_few;
    defined_within = λ d t e. v.defined_within d t (definition_there d t e);
    defined_sized = sized;
    defined_finite = λ d u e h. v.defined_finite d u (meaning_there d u e)
        (h.0, Leads-more (meaning_of (seen_by chosen l)) (meaning_of l) meaning_there u h.0 d h.1);
  }
    where
      sizes : sized_of l ≡ sized_of (seen_by chosen l)
      sizes = λ k d. sym (sized-seen d) k

      sized : (d : ℕ) (u : Tree) → meaning_of (seen_by chosen l) d ≡ Some u
          → (b : Bool) × (sized_of (seen_by chosen l) d ≡ Some b) × (has_size (seen_by chosen l) u ≡ Some b)
      sized d u e =
          let h = v.defined_sized d u (meaning_there d u e) in
          (h.0, sized-seen d ∙ h.1, subst (λ f. has_size_by f u ≡ Some h.0) sizes h.2)

  seen_later : IsLater (seen_by chosen l) l
  seen_later = record {
    grows = record {
      names = Continues-all l.names;
      rows = Continues-all l.rows;
      listed = (l.listed, refl);
      sized = λ d b e. sym (sized-seen d) ∙ e;
      defined = definition_there;
    };
    sound = v;
  }

  seen_behind : (s : Store) → IsLater s l → ((d t : ℕ) → definition_of s d ≡ Some t → chosen d ≡ true) → IsLater s (seen_by chosen l)
  seen_behind s h knows = record {
    grows = record {
      names = h.grows.names;
      rows = h.grows.rows;
      listed = h.grows.listed;
      sized = λ d b e. sized-seen d ∙ h.grows.sized d b e;
      defined = λ d t e. definition_chosen d t (knows d t e) (h.grows.defined d t e);
    };
    sound = seen_sound;
  }

  pub seen_stores : IsSeen chosen l
  seen_stores = record { sound = seen_sound; definitions = definition-seen; sized = sized-seen; later = seen_later; behind = seen_behind }
