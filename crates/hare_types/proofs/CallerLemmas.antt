-- What crates above cite of a store: what an id stands for, and that it goes on to as the store grows.
use Rattle.std.proofs.Common.{◌≡◌, ℕ, ◌≤◌, Bool, List, [], ◌++◌, length, Option, Some, None, refl, ap, sym, ◌∙◌, arith, append_assoc, length-append}
use Rattle.std.specs.Prelude.{slice_get, option_and_then}
use Rattle.std.proofs.lemmas.List.{append-nil}
use Rattle.hare_types.specs.declared.row.Row.{Row}
use Rattle.hare_types.specs.Numbering.{Continues}
use Rattle.hare_types.specs.Trees.{Tree, Same}
use Rattle.hare_types.specs.Rows.{tree_of, trees}
use Rattle.hare_types.specs.Store.{Store, tree_at, sized_of, definition_of, meaning_of, Extends}
use Rattle.hare_types.specs.Sound.{IsStore}
use Rattle.hare_types.specs.ByValue.{has_size, HoldsByValue}
use Rattle.hare_types.proofs.TreeLemmas.{tree_of_row, tree_kept}
use Rattle.hare_types.proofs.SameLemmas.{same_once}
use Rattle.hare_types.proofs.DefinitionLemmas.{has_size_by-more, Leads-more}

-- an id stands for the tree of its row
pub tree_at_row : (s : Store) → IsStore s → (t : ℕ) (r : Row) → slice_get s.rows t ≡ Some r → tree_at s t ≡ Some (tree_of (trees s.rows) r)
tree_at_row s v t r e = tree_of_row s.rows v.rows_sound.within t r e

-- one type has one id
pub one_id : (s : Store) → IsStore s → (i j : ℕ) (t u : Tree) → tree_at s i ≡ Some t → tree_at s j ≡ Some u → Same t u → i ≡ j
one_id s v i j t u a b h = same_once s.rows v.rows_sound i j t u a b h

-- ---- growth

pub Continues-refl : {A : Type 0} (xs : List A) → Continues xs xs
Continues-refl xs = ([], sym (append-nil xs))

pub Continues-trans : {A : Type 0} (xs ys zs : List A) → Continues xs ys → Continues ys zs → Continues xs zs
Continues-trans xs ys zs a b = (a.0 ++ b.0, b.1 ∙ ap (λ l. l ++ b.0) a.1 ∙ append_assoc xs a.0 b.0)

pub Extends-refl : (s : Store) → Extends s s
Extends-refl s = record {
  names = Continues-refl s.names;
  rows = Continues-refl s.rows;
  listed = Continues-refl s.listed;
  sized =
      λ d b e. e;
  defined = λ d t e. e;
}

pub Extends-trans : (a b c : Store) → Extends a b → Extends b c → Extends a c
Extends-trans a b c h k = record {
  names = Continues-trans a.names b.names c.names h.names k.names;
  rows = Continues-trans a.rows b.rows c.rows h.rows k.rows;
  listed = Continues-trans a.listed b.listed c.listed h.listed k.listed;
  sized = λ d x e. k.sized d x (h.sized d x e);
  defined = λ d t e. k.defined d t (h.defined d t e);
}

module _ (old new : Store) (grows : Extends old new) where
  -- ids stay in the store
  pub rows-Extends : length old.rows ≤ length new.rows
  rows-Extends = omega (arith, ap length grows.rows.1, length-append old.rows grows.rows.0)

  -- ids keep their trees
  pub tree_at-Extends : (i : ℕ) (u : Tree) → tree_at old i ≡ Some u → tree_at new i ≡ Some u
  tree_at-Extends i u e = ap (λ l. slice_get (trees l) i) grows.rows.1 ∙ tree_kept old.rows grows.rows.0 i u e

  -- names keep their meanings
  pub meaning_of-Extends : (d : ℕ) (u : Tree) → meaning_of old d ≡ Some u → meaning_of new d ≡ Some u
  meaning_of-Extends d u e = by (definition_of old d) refl e
    where
      by : (o : Option ℕ) → definition_of old d ≡ o → option_and_then (tree_at old) o ≡ Some u → meaning_of new d ≡ Some u
      by None f g = absurd cc
      by (Some t) f g = ap (option_and_then (tree_at new)) (grows.defined d t f) ∙ tree_at-Extends t u g

  -- what has a size goes on to have one
  pub has_size-Extends : (t : Tree) (b : Bool) → has_size old t ≡ Some b → has_size new t ≡ Some b
  has_size-Extends = has_size_by-more (sized_of old) (sized_of new) grows.sized

  -- what is held by value goes on to be
  pub HoldsByValue-Extends : (t : Tree) (d : ℕ) → HoldsByValue old t d → HoldsByValue new t d
  HoldsByValue-Extends t d h = (h.0, Leads-more (meaning_of old) (meaning_of new) meaning_of-Extends t h.0 d h.1)
