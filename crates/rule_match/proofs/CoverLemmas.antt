-- What patterns cover.
use Rattle.std.proofs.Common.{◌≡◌, ℕ, ◌+◌, ◌<◌, ◌≤◌, Bool, true, false, ◌||◌, ◌&&◌, nat_eq, List, [], ◌∷◌, length, map, drop, Option, Some, refl, ap, ap₂, sym, ◌∙◌}
use Rattle.std.specs.List.{list_all, list_any}
use Rattle.indexmap.specs.IndexSet.{contains}
use Rattle.hare_types.specs.ByIds.{row_at}
use Rattle.hare_types.specs.declared.coercion.Ty.{Ty}
use Rattle.hare_types.specs.declared.row.Row.{Row}
use Rattle.hare_types.specs.declared.row.Row.TheVariants as row
use Rattle.hare_types.specs.Store.{Store}
use Rattle.hare_typed.specs.Cover.{is_pointer_to, covers_row, match_covers}
use Rattle.hare_typed.specs.Given.{base_row}
use Rattle.hare_typed.specs.Typed.{TypedNode}
use Rattle.hare_typed.specs.Order.{tree_from_front}
use Rattle.hare_rules.specs.Control.{Pattern, Default, NullPointer, Member, Lacking, pattern_of, stands_among, members_listed}
use Rattle.rule_judge.proofs.KidLemmas.{drop_front, drop_past}
use Rattle.rule_match.specs.declared.listed.Patterns.{Patterns}
use Rattle.rule_match.specs.Patterns.{AreListed, points_to, as_cover}

-- ---- the first case of which something is so

module _ (p : Pattern → Bool) (xs : List TypedNode) (i : ℕ) (all : Bool) (e : all ≡ list_any p (map pattern_of (drop i xs))) where
  pub some_here : (x : Pattern) → i < length xs → x ≡ pattern_of (tree_from_front i xs) → p x ≡ true → true ≡ all
  some_here x l g h =
      sym (e ∙ ap (λ ys. list_any p (map pattern_of ys)) (drop_front xs i l)
      ∙ ap (λ b. b || list_any p (map pattern_of (drop (i + 1) xs))) (ap p (sym g) ∙ h))

  pub some_later : (x : Pattern) → i < length xs → x ≡ pattern_of (tree_from_front i xs) → p x ≡ false
      → all ≡ list_any p (map pattern_of (drop (i + 1) xs))
  some_later x l g h =
      e ∙ ap (λ ys. list_any p (map pattern_of ys)) (drop_front xs i l)
      ∙ ap (λ b. b || list_any p (map pattern_of (drop (i + 1) xs))) (ap p (sym g) ∙ h)

  pub some_nowhere : length xs ≤ i → false ≡ all
  some_nowhere l = sym (e ∙ ap (λ ys. list_any p (map pattern_of ys)) (drop_past xs i l))

-- ---- patterns and the types among them

member_listed : (t : ℕ) (ps : List Pattern) → stands_among ps (Member t) ≡ list_any (nat_eq t) (members_listed ps)
member_listed t [] = refl
member_listed t (Default ∷ ps) = member_listed t ps
member_listed t (NullPointer ∷ ps) = member_listed t ps
member_listed t (Member u ∷ ps) = ap (λ b. nat_eq t u || b) (member_listed t ps)
member_listed t (Lacking ∷ ps) = member_listed t ps

pointer_listed : (f : Store) (u : ℕ) (ps : List Pattern)
    → list_any (points_to f u) ps ≡ list_any (λ t. is_pointer_to u (row_at f t)) (members_listed ps)
pointer_listed f u [] = refl
pointer_listed f u (Default ∷ ps) = pointer_listed f u ps
pointer_listed f u (NullPointer ∷ ps) = pointer_listed f u ps
pointer_listed f u (Member t ∷ ps) = ap (λ b. is_pointer_to u (row_at f t) || b) (pointer_listed f u ps)
pointer_listed f u (Lacking ∷ ps) = pointer_listed f u ps

-- ---- by the row of the base

module _ (f : Store) (q : Patterns) (ps : List Pattern) (h : AreListed q ps) where
  each_listed : (is : List ℕ) → list_all (contains nat_eq q.types) is ≡ list_all (λ i. list_any (nat_eq i) (members_listed ps)) is
  each_listed [] = refl
  each_listed (i ∷ is) = ap₂ (λ a b. a && b) (h (Member i) ∙ member_listed i ps) (each_listed is)

  pub covers_default : (a : Ty) → q.has_default ≡ true → true ≡ match_covers f a (as_cover ps)
  covers_default a e = sym (ap (λ b. b || covers_row f (base_row f a) (as_cover ps)) (sym (h Default) ∙ e))

  module _ (a : Ty) (without : q.has_default ≡ false) (o : Option Row) (base : o ≡ base_row f a) where
    pub covers_by : (b : Bool) → b ≡ covers_row f o (as_cover ps) → b ≡ match_covers f a (as_cover ps)
    covers_by b e =
        e ∙ ap (λ r. covers_row f r (as_cover ps)) base
        ∙ sym (ap (λ d. d || covers_row f (base_row f a) (as_cover ps)) (sym (h Default) ∙ without))

    pub covers_union : (is : List ℕ) (b : Bool) → o ≡ Some (row.Union is) → b ≡ list_all (contains nat_eq q.types) is
        → b ≡ match_covers f a (as_cover ps)
    covers_union is b g e = covers_by b (e ∙ each_listed is ∙ sym (ap (λ r. covers_row f r (as_cover ps)) g))

    pub covers_nullable : (u : ℕ) (b : Bool) → o ≡ Some (row.Nullable u) → b ≡ (q.has_null && list_any (points_to f u) ps)
        → b ≡ match_covers f a (as_cover ps)
    covers_nullable u b g e =
        covers_by b (e ∙ ap₂ (λ n k. n && k) (h NullPointer) (pointer_listed f u ps) ∙ sym (ap (λ r. covers_row f r (as_cover ps)) g))
