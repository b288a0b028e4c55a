-- Which types are too large, and what the checks before that say of the whole.
use Rattle.std.proofs.Common.{◌≡◌, ℕ, ◌<◌, ◌≤◌, ◌⊎◌, Bool, true, false, nat_lt, List, [], ◌∷◌, ◌++◌, length, Ok, Err, Option, Some, None, refl, ap, sym, ◌∙◌, subst, arith, inl, inr}
use Rattle.std.specs.Prelude.{MatchOption, IfNone, IsTrue, ◌↔◌, option_and_then}
use Rattle.std.proofs.lemmas.Bool.{cases_lt}
use Rattle.std.proofs.lemmas.Bool.Decides.{nat_tests}
use Rattle.hare_tree.specs.declared.place.Place.{Place}
use Rattle.hare_tree.specs.declared.place.Fault.{Fault}
use Rattle.hare_tree.specs.declared.stop.Stop.{Stop}
use Rattle.hare_tree.specs.declared.stop.Stop.TheVariants as stop
use Rattle.hare_types.specs.declared.extent.Extent.{Extent}
use Rattle.hare_types.specs.declared.row.Row.{Row}
use Rattle.hare_types.specs.Trees.{Tree}
use Rattle.hare_types.specs.Rows.{tree_in, tree_of, trees}
use Rattle.hare_types.specs.Store.{Store, tree_at, definition_of, meaning_of, Extends}
use Rattle.hare_types.specs.Sound.{IsStore}
use Rattle.hare_types.specs.Kept.{LiesIn, IsToldOf}
use Rattle.hare_types.specs.Layout.{extent_with, HasExtent}
use Rattle.hare_types.specs.ByIds.{extent_at}
use Rattle.hare_types.proofs.CallerLemmas.{tree_at-Extends}
use Rattle.hare_types.proofs.DefinitionLemmas.{meaning_kept}
use Rattle.hare_types.proofs.GrowthLemmas.{extent_with-more, following-more}
use Rattle.hare_types.proofs.IdLemmas.{extent_tells}
use Rattle.hare_layout.specs.declared.spelled.Spelled.{Spelled}
use Rattle.hare_layout.specs.declared.reduce.Reduced.{Reduced}
use Rattle.hare_layout.specs.declared.reduce.Reduced.TheVariants.{Known, Fresh}
use Rattle.hare_layout.specs.Small.{IsSmall}
use Rattle.hare_layout.specs.Reduction.{written, place_of, AreLeft, type_of, IsReducedTo}
use Rattle.hare_layout.specs.Admission.{Check, Spreading, Sized, Inhabited, Narrow, Small, PassesAll, IsFirstOf, IsTooLarge, IsFault, IsAdmitted, StopsAt, TellsFault, Fails, checks}
use Rattle.hare_layout.specs.Reduced.{IsReduction, StopsEarly, IsHere, tree_of_reduced, IsLarge}
use Rattle.hare_layout.proofs.GrowthLemmas.{one_extent}
use Rattle.hare_layout.proofs.ReduceLemmas.{one_left}
use Rattle.hare_layout.proofs.SpreadLemmas.{tree_at-id, id-tree_at}

-- ---- sizes

large-some : (s : Store) (u : Tree) (x : Extent) → IsToldOf s u x → 67108864 < x.size → IsLarge s u
large-some s u x h l =
    let size = ap (λ y. y.size) h.2 in
    (h.0, h.1, omega arith)

some-large : (s : Store) (u : Tree) (x : Extent) → IsToldOf s u x → IsLarge s u → 67108864 < x.size
some-large s u x h k =
    let one = ap (λ y. y.size) (one_extent s u h.0 k.0 h.1 k.1) in
    let size = ap (λ y. y.size) h.2 in
    let large = k.2 in
    omega arith

pub none-large : (s : Store) (u : Tree) → ((y : Extent) → ¬ HasExtent s u y) → ¬ IsLarge s u
none-large s u none h = none h.0 h.1

-- the type of an id has no extent where none lies there
pub none-known : (s : Store) (i : ℕ) (o : Option Extent) → i < length s.rows → IfNone o ((y : Extent) → ¬ LiesIn s i y)
    → IfNone o ((y : Extent) → ¬ HasExtent s (tree_in (trees s.rows) i) y)
none-known s i None l h = λ y k. h y (tree_in (trees s.rows) i, tree_at-id s i l, k)
none-known s i (Some x) l h = tt

less : (a b : ℕ) → nat_lt a b ≡ true → a < b
less a b h = grind (arith, nat_tests)

neither : (a b : ℕ) → nat_lt a b ≡ false → nat_lt b a ≡ false → a ≡ b
neither a b h k = grind (arith, nat_tests)

-- what the test of the size says
pub tells-large : (s : Store) (u : Tree) (x : Extent) → IsToldOf s u x → IsTrue (nat_lt 67108864 x.size) ↔ IsLarge s u
tells-large s u x e = (λ h. large-some s u x e (less 67108864 x.size h), λ h. more 67108864 x.size (some-large s u x e h))
  where
    more : (a b : ℕ) → a < b → nat_lt a b ≡ true
    more a b h = grind (arith, nat_tests)

-- ---- the reduced type

pub reduction-here : (s : Store) (r : Spelled) (q : Reduced) → IsReduction s r q → IsHere s q
reduction-here s r (Known t) h = (id-tree_at s t h.0 h.1).0
reduction-here s r (Fresh q) h = h.0

reduction-tree : (s : Store) (r : Spelled) (q : Reduced) → IsReduction s r q → IsReducedTo s r (tree_of_reduced s q)
reduction-tree s r (Known t) h = subst (λ u. IsReducedTo s r u) (sym (id-tree_at s t h.0 h.1).1) h.2
reduction-tree s r (Fresh q) h = h.2

one_reduced : (s : Store) → IsStore s → (r : Spelled) (u w : Tree) → IsReducedTo s r u → IsReducedTo s r w → u ≡ w
one_reduced s v r u w = by (written r.row)
  where
    of_members : ((is : List ℕ) × AreLeft s r is × (type_of s is ≡ Some u)) → ((is : List ℕ) × AreLeft s r is × (type_of s is ≡ Some w))
        → u ≡ w
    of_members a b =
        let same : Some u ≡ Some w = sym a.2 ∙ ap (type_of s) (one_left s v r a.0 b.0 a.1 b.1) ∙ b.2 in
        cc

    by : (o : Option (List ℕ))
        → MatchOption o (tree_of (trees s.rows) r.row ≡ u) (λ _. (is : List ℕ) × AreLeft s r is × (type_of s is ≡ Some u))
        → MatchOption o (tree_of (trees s.rows) r.row ≡ w) (λ _. (is : List ℕ) × AreLeft s r is × (type_of s is ≡ Some w)) → u ≡ w
    by None a b = sym a ∙ b
    by (Some is) a b = of_members a b

too_large : (s : Store) (r : Spelled) (q : Reduced) → IsReduction s r q → IsLarge s (tree_of_reduced s q) → IsTooLarge s r
too_large s r q h l = (tree_of_reduced s q, l.0, reduction-tree s r q h, l.1, l.2)

not_too_large : (s : Store) → IsStore s → (r : Spelled) (q : Reduced) → IsReduction s r q → ¬ IsLarge s (tree_of_reduced s q)
    → ¬ IsTooLarge s r
not_too_large s v r q h small (u, x, reduced, extent, large) =
    small (x, subst (λ w. HasExtent s w x) (one_reduced s v r u (tree_of_reduced s q) reduced (reduction-tree s r q h)) extent, large)

-- ---- the type that is given

not_large : (s : Store) (u : Tree) (x : Extent) → ¬ IsLarge s u → HasExtent s u x → x.size ≤ 67108864
not_large s u x small h = by (cases_lt 67108864 x.size)
  where
    by : (67108864 < x.size) ⊎ (x.size ≤ 67108864) → x.size ≤ 67108864
    by (inl l) = absurd (small (x, h, l))
    by (inr l) = l

-- one that the store had
pub small_known : (s : Store) (q : Reduced) (t : ℕ) → q ≡ Known t → ¬ IsLarge s (tree_of_reduced s q) → (x : Extent) → LiesIn s t x
    → x.size ≤ 67108864
small_known s q t e small x h =
    let here = (id-tree_at s t h.0 h.1).1 in
    let tree : h.0 ≡ tree_of_reduced s q = sym here ∙ ap (tree_of_reduced s) (sym e) in
    not_large s (tree_of_reduced s q) x small (subst (λ u. HasExtent s u x) tree h.2)

-- one that is new to it: names mean what they meant
module _ (old new : Store) (v : IsStore old) (rest : new ≡ record old { rows = new.rows }) (grows : Extends old new) where
  meaning_back : (d : ℕ) (u : Tree) → meaning_of new d ≡ Some u → meaning_of old d ≡ Some u
  meaning_back d u e =
      let definitions : definition_of new d ≡ definition_of old d = ap (λ s. definition_of s d) rest in
      sym (ap (option_and_then (tree_at new)) definitions ∙ meaning_kept old.rows new.rows (tree_at-Extends old new grows)
      (definition_of old d) (v.defined_within d)) ∙ e

  pub small_fresh : (q : Reduced) (r : Row) (t : ℕ) → q ≡ Fresh r → tree_at new t ≡ Some (tree_of (trees old.rows) r)
      → ¬ IsLarge old (tree_of_reduced old q) → (x : Extent) → LiesIn new t x → x.size ≤ 67108864
  small_fresh q r t e stands small x h =
      let both = sym h.1 ∙ stands in
      let same : h.0 ≡ tree_of (trees old.rows) r = cc in
      let tree : h.0 ≡ tree_of_reduced old q = same ∙ ap (tree_of_reduced old) (sym e) in
      let back = following-more extent_with extent_with-more (meaning_of new) (meaning_of old) meaning_back h.2.0 h.0 x h.2.1 in
      not_large old (tree_of_reduced old q) x small (subst (λ u. HasExtent old u x) tree (h.2.0, back))

-- such a type is small where its extent is known
pub fits : (s : Store) → IsStore s → (t : ℕ) → ((x : Extent) → LiesIn s t x → x.size ≤ 67108864) → (x : Extent) → extent_at s t ≡ Some x
    → IsSmall s t
fits s v t low x e = record { extent = x; at = e; few = low x ((extent_tells s v t x).0 e) }

-- ---- the checks

module _ (s : Store) (r : Spelled) (place : Place) where
  first_of_more : (cs ds : List Check) (f : Fault) → IsFirstOf s r place cs f → IsFirstOf s r place (cs ++ ds) f
  first_of_more [] ds f h = absurd h
  first_of_more (c ∷ cs) ds f (inl h) = inl h
  first_of_more (c ∷ cs) ds f (inr h) = inr (h.0, first_of_more cs ds f h.1)

  pub stops-early : (e : Stop Fault) → StopsEarly s r place e → StopsAt s r place e
  stops-early (stop.Fault f) h = first_of_more (Spreading ∷ Sized ∷ Inhabited ∷ Narrow ∷ []) (Small ∷ []) f h
  stops-early stop.Memory h = tt

  pub stops-large : (q : Reduced) → PassesAll s r place (Spreading ∷ Sized ∷ Inhabited ∷ Narrow ∷ []) → IsReduction s r q
      → IsLarge s (tree_of_reduced s q) → IsFault s r place (record { number = 18; place = place })
  stops-large q p h l = inr (p.0, inr (p.1.0, inr (p.1.1.0, inr (p.1.1.1.0, inl (refl, (too_large s r q h l, refl))))))

  pub admitted : IsStore s → (q : Reduced) → PassesAll s r place (Spreading ∷ Sized ∷ Inhabited ∷ Narrow ∷ []) → IsReduction s r q
      → ¬ IsLarge s (tree_of_reduced s q) → IsAdmitted s r place
  admitted v q p h small = (p.0, (p.1.0, (p.1.1.0, (p.1.1.1.0, ((λ place h'. not_too_large s v r q h small h'.0), tt)))))

-- ---- one fault

-- each check fails at one place
one_place : (s : Store) (r : Spelled) (place : Place) (c : Check) (p q : Place) → Fails s r place c p → Fails s r place c q → p ≡ q
one_place s r place Spreading p q h k = h.3 ∙ ap (place_of r place) (by (nat_lt h.0 k.0) refl (nat_lt k.0 h.0) refl) ∙ sym k.3
  where
    by : (b : Bool) → nat_lt h.0 k.0 ≡ b → (d : Bool) → nat_lt k.0 h.0 ≡ d → h.0 ≡ k.0
    by true e d g = absurd (k.2 h.0 (less h.0 k.0 e) h.1)
    by false e true g = absurd (h.2 k.0 (less k.0 h.0 g) k.1)
    by false e false g = neither h.0 k.0 e g
one_place s r place Sized p q h k = h.1 ∙ sym k.1
one_place s r place Inhabited p q h k = h.1 ∙ sym k.1
one_place s r place Narrow p q h k = h.1 ∙ sym k.1
one_place s r place Small p q h k = h.1 ∙ sym k.1

same_fault : (f g : Fault) → f.number ≡ g.number → f.place ≡ g.place → f ≡ g
same_fault f g a b = λ i. record { number = a i; place = b i }

one_first : (s : Store) (r : Spelled) (place : Place) (cs : List Check) (f g : Fault) → IsFirstOf s r place cs f → IsFirstOf s r place cs g
    → f ≡ g
one_first s r place [] f g h k = absurd h
one_first s r place (c ∷ cs) f g (inl h) (inl k) = same_fault f g (h.0 ∙ sym k.0) (one_place s r place c f.place g.place h.1 k.1)
one_first s r place (c ∷ cs) f g (inl h) (inr k) = absurd (k.0 f.place h.1)
one_first s r place (c ∷ cs) f g (inr h) (inl k) = absurd (h.0 g.place k.1)
one_first s r place (c ∷ cs) f g (inr h) (inr k) = one_first s r place cs f g h.1 k.1

none_first : (s : Store) (r : Spelled) (place : Place) (cs : List Check) (f : Fault) → PassesAll s r place cs → ¬ IsFirstOf s r place cs f
none_first s r place [] f h k = k
none_first s r place (c ∷ cs) f h (inl k) = h.0 f.place k.1
none_first s r place (c ∷ cs) f h (inr k) = none_first s r place cs f h.1 k.1

-- a type with a fault is not admitted
pub only-ok : (s : Store) (r : Spelled) (place : Place) (t : ℕ) → IsAdmitted s r place → (f : Fault) → IsFault s r place f
    → TellsFault (Ok t) f
only-ok s r place t h f k = absurd (none_first s r place checks f h k)

-- and has one fault
pub only-err : (s : Store) (r : Spelled) (place : Place) (e : Stop Fault) → StopsAt s r place e → (f : Fault) → IsFault s r place f
    → TellsFault (Err e) f
only-err s r place (stop.Fault g) h f k = inl (ap (λ x. Err (stop.Fault x)) (one_first s r place checks g f h k))
only-err s r place stop.Memory h f k = inr refl
