-- What the coercions of a verdict come to: those that the node settles of its kids, and of what was yielded to it.
use Rattle.std.specs.Prelude.{◌≡◌, ◌≢◌, ℕ, suc, Bool, true, false, List, [], ◌∷◌, ◌++◌, map, slice_get, Option, Some}
use Rattle.hare_tree.specs.declared.kind.Kind.TheVariants as ki
use Rattle.hare_types.specs.declared.coercion.Coercion.{Coercion}
use Rattle.hare_types.specs.declared.coercion.Ty.{Ty}
use Rattle.hare_typed.specs.Typed.{TypedNode}
use Rattle.hare_typed.specs.Copies.{has_defers as takes_yields}
use Rattle.hare_typed.specs.Numbers.{kind_of, number_of}
use Rattle.hare_rules.specs.declared.hint.Hint.TheVariants as hint
use Rattle.hare_rules.specs.declared.declared.Local.{Local}
use Rattle.hare_rules.specs.declared.declared.DeclType.{DeclType}
use Rattle.hare_rules.specs.declared.judged.Case.{Case}
use Rattle.hare_rules.specs.Context.{Context, Given, own_type, store_of}
use Rattle.hare_rules.specs.Control.{block_values}
use Rattle.hare_rules.specs.Settles.{Settled, same, kid_coercion, joined_target, settles_kids, settles_late}
use Rattle.hare_rules.specs.Flow.{write_each}
use Rattle.hare_rules.specs.Judged.{was_hinted, hands_on, coercions_from, yield_coercions}
use Rattle.hare_rules.specs.Types.{type_of}
use Rattle.hare_told.specs.Told.{IsTold}
use Rattle.hare_told.specs.Enough.{told}

-- ---- kids

abbrev pub unless_hinted : Bool → Settled → List Settled
unless_hinted true s = []
unless_hinted false s = s ∷ []

-- the coercion that a verdict has for kid number i, under the kid's own number
abbrev pub listed_kid : Context → (i : ℕ) → TypedNode → Settled
listed_kid j i x = record { node = number_of x; coercion = kid_coercion j i }

-- what a verdict lists for the kids from number i on: for those that were asked for no type
abbrev pub listed_from : Context → (i : ℕ) → List TypedNode → List Settled
listed_from j i [] = []
listed_from j i (x ∷ xs) = unless_hinted (was_hinted j i) (listed_kid j i x) ++ listed_from j (suc i) xs

-- no kid has the number of another
abbrev pub HasNone : ℕ → List TypedNode → Type 0
HasNone n [] = Unit {0}
HasNone n (x ∷ xs) = (n ≢ number_of x) × HasNone n xs

abbrev pub AreApart : List TypedNode → Type 0
AreApart [] = Unit {0}
AreApart (x ∷ xs) = HasNone (number_of x) xs × AreApart xs

-- a kid that was asked for no type has been left as it is
abbrev pub AreAsIs : Context → ℕ → List TypedNode → List Coercion → Type 0
AreAsIs j i [] cs = Unit {0}
AreAsIs j i (x ∷ xs) cs = (was_hinted j i ≡ false → slice_get cs (number_of x) ≡ Some (same (own_type x))) × AreAsIs j (suc i) xs cs

-- none of them is the list of values of a case
abbrev pub HandNothingOn : List TypedNode → Type 0
HandNothingOn [] = Unit {0}
HandNothingOn (x ∷ xs) = (hands_on (kind_of x) ≡ false) × HandNothingOn xs

-- ---- yielded values

abbrev pub late_where : Option ℕ → Option Ty → Coercion → List Settled
late_where (Some n) (Some a) r = record { node = n; coercion = r } ∷ []
late_where _ _ r = []

-- the coercions that a verdict lists for what was yielded, each under the number of its node, where there is one
abbrev pub listed_late : List Given → List Coercion → List Settled
listed_late (g ∷ gs) (r ∷ rs) = late_where g.node g.ty r ++ listed_late gs rs
listed_late _ _ = []

-- ---- the law

-- To write what is listed for the kids is to write what the node settles of them. Of the kid of a `yield` nothing is settled, whatever is
-- listed: the judge is not told what its label asks for. What is settled late is what is listed for yielded values, where nothing is asked
-- of the node; else nothing is.
pub record IsAllSettled (c j : Context) (q : Case) : Type 0 where
  pub listed : map (λ (s : Settled). s.coercion) (listed_from j 0 j.kids) ≡ coercions_from j 0 j.kids
  pub kids : (cs : List Coercion) → HandNothingOn c.kids → AreApart c.kids → AreAsIs j 0 c.kids cs →
      write_each (settles_kids c) cs ≡ write_each (listed_from j 0 c.kids) cs
  pub of_yield : c.head.kind ≡ ki.Yield → settles_kids c ≡ []
  pub late : (a : Ty) → takes_yields c.head.kind ≡ true → c.hint ≡ hint.None → type_of c ≡ Some a →
      settles_late c c.head.kind
      ≡ listed_late c.yields (yield_coercions (store_of j) j.hint (joined_target (store_of j) j.hint (block_values j)) q.yields)
  pub asked : (t : ℕ) → c.hint ≡ hint.Of t → settles_late c c.head.kind ≡ []
  pub dropped : c.hint ≡ hint.Drop → settles_late c c.head.kind ≡ []
  pub others : takes_yields c.head.kind ≡ false → settles_late c c.head.kind ≡ []

abbrev pub VerdictsSettle : Type 0
VerdictsSettle =
    (c : Context) (decls : List DeclType) (locals : List Local) (q : Case) → IsTold c decls locals q →
    IsAllSettled c (told c decls locals q) q
