-- What it means that a judge's answer is right: the node's context, made of what the judge is told, in each store that may come later.
use Rattle.std.specs.Prelude.{◌≡◌, ℕ, suc, Bool, true, false, List, [], ◌∷◌, ◌++◌, map, take, drop, Option, Some, None}
use Rattle.hare_tree.specs.declared.kind.Kind.{Kind}
use Rattle.hare_tree.specs.declared.kind.Kind.TheVariants as ki
use Rattle.hare_tree.specs.declared.place.Fault.{Fault}
use Rattle.hare_tree.specs.declared.token.Meaning.TheVariants as means
use Rattle.hare_tree.specs.Node.{Head}
use Rattle.hare_types.specs.declared.coercion.Coercion.{Coercion}
use Rattle.hare_types.specs.Store.{Store}
use Rattle.hare_typed.specs.Typed.{TypedNode, typed_nodes}
use Rattle.hare_typed.specs.Erased.{erase, erase_each}
use Rattle.hare_rules.specs.declared.hint.Hint.{Hint}
use Rattle.hare_rules.specs.declared.hint.Hint.TheVariants as hint
use Rattle.hare_rules.specs.declared.row_id.RowId.{RowId}
use Rattle.hare_rules.specs.declared.inside.Label.{Label}
use Rattle.hare_rules.specs.declared.inside.Inside.{Inside as Told}
use Rattle.hare_rules.specs.declared.declared.Local.{Local}
use Rattle.hare_rules.specs.declared.declared.DeclType.{DeclType}
use Rattle.hare_rules.specs.declared.judged.Case.{Case}
use Rattle.hare_rules.specs.declared.judged.Yielded.{Yielded}
use Rattle.hare_rules.specs.declared.judged.Verdict.{Verdict}
use Rattle.hare_rules.specs.Context.{Context, Known, Inside, Open, Given, Ordinary, kid, store_of}
use Rattle.hare_typed.specs.Numbers.{kind_of}
use Rattle.hare_rules.specs.Above.{hint_of, unless_bare}
use Rattle.hare_rules.specs.Control.{block_values}
use Rattle.hare_rules.specs.Settles.{to_type, kid_coercion, own_coercion, joined_target}
use Rattle.hare_rules.specs.Types.{type_of}
use Rattle.hare_rules.specs.Rows.{first_failing, fault_of}

-- ---- the context that a judge is told

-- A judge is not told what a label's own hint is.
abbrev pub open_of : Label → Open
open_of l = record { target = l.target; name = l.name; node = l.node; deferred = l.deferred; hint = hint.None }

abbrev pub inside_of : Told → Inside
inside_of i = record {
  own = i.own;
  result = i.result;
  labels = map open_of i.labels;
  deferred = i.deferred;
  body = i.body;
  role =
      Ordinary;
}

-- a yielded value, with its place among them as its number
abbrev pub givens_from : ℕ → List Yielded → List Given
givens_from n [] = []
givens_from n (y ∷ ys) = record { place = y.place; ty = Some y.ty; node = Some n } ∷ givens_from (suc n) ys

abbrev pub context_of : Store → List DeclType → List Local → Case → Head → List TypedNode → Context
context_of s decls locals c h xs =
    record {
      setting = record { store = s; decls = decls; means = λ p. means.None };
      locals = map Known locals;
      head = h;
      node = 0;
      meaning = c.meaning;
      hint = c.hint;
      inside = inside_of c.inside;
      kids = xs;
      yields = givens_from 0 c.yields;
    }

-- ---- which kids were given no hint of a type

-- the hint that kid number i was given
abbrev pub kid_hint : Context → ℕ → Hint
kid_hint c i =
    unless_bare (kind_of (kid c i))
    (hint_of c.setting c.head c.hint hint.None c.inside.labels c.inside.result (take i c.kids) (erase (kid c i))
    (erase_each (typed_nodes (drop (suc i) c.kids))) c.head.kind)

abbrev pub is_type_hint : Hint → Bool
is_type_hint (hint.Of t) = true
is_type_hint hint.Drop = false
is_type_hint hint.None = false

-- the values of a case have been given the type of the operand, and hand it on
abbrev pub hands_on : Kind → Bool
hands_on ki.Values = true
hands_on _ = false

abbrev pub was_hinted : Context → ℕ → Bool
was_hinted c i = hinted_or (hands_on (kind_of (kid c i))) (is_type_hint (kid_hint c i))
  where
    hinted_or : Bool → Bool → Bool
    hinted_or true b = true
    hinted_or false b = b

abbrev pub unless : Bool → Coercion → List Coercion
unless true r = []
unless false r = r ∷ []

abbrev pub coercions_from : Context → ℕ → List TypedNode → List Coercion
coercions_from c i [] = []
coercions_from c i (x ∷ xs) = unless (was_hinted c i) (kid_coercion c i) ++ coercions_from c (suc i) xs

-- what was yielded without a hint of a type
abbrev pub yield_coercions : Store → Hint → Option ℕ → List Yielded → List Coercion
yield_coercions s (hint.Of t) o ys = []
yield_coercions s h o ys = map (λ y. to_type s y.ty o) ys

-- ---- the answer

-- The node meets its whole list, and this is its type, its coercion, and those of its kids and yields.
pub record IsVerdict (c : Context) (ys : List Yielded) (v : Verdict) : Type 0 where
  pub rows : first_failing c ≡ None
  pub type : type_of c ≡ Some v.ty
  pub own : v.own ≡ own_coercion (store_of c) c.hint v.ty
  pub coerce : v.coerce ≡ coercions_from c 0 c.kids ++ yield_coercions (store_of c) c.hint
      (joined_target (store_of c) c.hint (block_values c)) ys

-- This is the fault of the first row that the node fails.
pub record IsRefusal (c : Context) (e : Fault) : Type 0 where
  pub row : RowId
  pub first : first_failing c ≡ Some row
  pub is : fault_of row c ≡ e
