-- What a settled tree says of control: branches, loops, jumps, blocks, and the cases of `match` and `switch`. In each, t is the node.
use Rattle.std.specs.Prelude.{◌≡◌, ◌⊎◌, ℕ, Bool, true, false, ◌||◌, bytes_eq, codes, List, map, filter, flat_map, Option, Some, None, IsSome, ℤ}
use Rattle.std.specs.List.{list_any}
use Rattle.hare_tree.specs.declared.kind.Kind.{Kind}
use Rattle.hare_tree.specs.declared.kind.Kind.TheVariants as kind
use Rattle.hare_types.specs.declared.row.Scalar.TheVariants as keyword
use Rattle.hare_types.specs.declared.coercion.Ty.{Ty}
use Rattle.hare_types.specs.Store.{Store}
use Rattle.hare_types.specs.ByIds.{members_at}
use Rattle.hare_typed.specs.Typed.{TypedNode, TypedNodes, typed_none, typed_more, head_of, mark_of, kids_of}
use Rattle.hare_typed.specs.Order.{kid_from_front}
use Rattle.hare_typed.specs.Constants.{own_kind}
use Rattle.hare_typed.specs.Cover.{Patterns, match_covers, SwitchCovers}
use Rattle.hare_typed.specs.Given.{given, element, is_str}
use Rattle.hare_typed.specs.Coercions.{number_of_value}
use Rattle.hare_typed.specs.ConstantForms.{own_type, type_of_kid, id_in}
use Rattle.hare_meaning.specs.Code.{Code, cells_of_constant}
use Rattle.hare_meaning.specs.Steps.{is_absent, is_written, is_void}
use Rattle.hare_meaning.specs.Choices.{cases_of, head_of_case, pattern_type, is_null_pattern, is_type_pattern, values_of}
use Rattle.hare_meaning.specs.Around.{Around, loop_for, block_for}
use Rattle.hare_meaning.specs.Each.{Each}
use Rattle.hare_meaning.specs.SettledTypes.{AreValues, is_word, is_integer, is_never, nullable, takes_void}
use Rattle.hare_meaning.specs.SettledValues.{store_of, IsConstantOf}
use Rattle.hare_meaning.specs.SettledParts.{stays, IsMemberOf}

-- ---- ends

-- `abort`, with a message or none
pub record IsAbort (s : Store) (t : TypedNode) : Type 0 where
  pub never : is_never s (own_type t) ≡ true

pub record IsAssert (s : Store) (t : TypedNode) : Type 0 where
  pub bool : is_word keyword.Bool s (type_of_kid 0 t) ≡ true
  pub void : is_void s (own_type t) ≡ true

-- ---- branches

-- What a branch or a case gives has the type of the whole, or the whole is void and it is dropped.
abbrev pub Gives : Store → (whole : Ty) → Ty → Type 0
Gives s f g = (g ≡ f) ⊎ (is_void s f ≡ true)

-- without an `else` it is void
abbrev pub ElseFits : Store → TypedNode → Bool → Type 0
ElseFits s t false = is_void s (own_type t) ≡ true
ElseFits s t true = Gives s (own_type t) (type_of_kid 2 t)

pub record IsIf (s : Store) (t : TypedNode) : Type 0 where
  pub bool : is_word keyword.Bool s (type_of_kid 0 t) ≡ true
  pub first : Gives s (own_type t) (type_of_kid 1 t)
  pub second : ElseFits s t (is_written 2 t)

-- ---- loops

-- the word `true` alone
abbrev pub is_true_by : Kind → List ℕ → Bool
is_true_by kind.Bool x = bytes_eq x (codes "true")
is_true_by _ x = false

abbrev pub is_true_word : TypedNode → Bool
is_true_word t = is_true_by (own_kind t) (head_of t).text

-- Where the condition ends it, or a `break`, a loop gives nothing. It is of type never where neither can be.
abbrev pub IsLoopType : Store → Ty → (condition : TypedNode) → Type 0
IsLoopType s f c = (is_void s f ≡ true) ⊎ ((is_never s f ≡ true) × (is_true_word c ≡ true))

pub record IsFor (s : Store) (t : TypedNode) : Type 0 where
  pub bool : is_word keyword.Bool s (type_of_kid 1 t) ≡ true
  pub gives : IsLoopType s (own_type t) (kid_from_front 1 t)

-- over the elements of an array or slice
pub record IsForEach (s : Store) (t : TypedNode) : Type 0 where
  pub stays : stays (kid_from_front 1 t) ≡ true
  pub values : AreValues s (element s (type_of_kid 1 t))
  pub void : is_void s (own_type t) ≡ true

-- ---- jumps

-- a loop that is left by a `break` gives nothing
abbrev pub GivesNothing : Store → Option Ty → Type 0
GivesNothing s None = ⊥
GivesNothing s (Some f) = is_void s f ≡ true

-- out of a loop that stands round it
pub record IsBreak (a : Around) (t : TypedNode) : Type 0 where
  pub target : GivesNothing (store_of a) (loop_for (head_of t).text a.goals)
  pub never : is_never (store_of a) (own_type t) ≡ true

-- to the next turn of one
pub record IsContinue (a : Around) (t : TypedNode) : Type 0 where
  pub target : IsSome (loop_for (head_of t).text a.goals)
  pub never : is_never (store_of a) (own_type t) ≡ true

-- a value of the type where one is written, else void where that can be assigned to it
abbrev pub HandsOver : Store → TypedNode → Ty → Bool → Type 0
HandsOver s t f true = Gives s f (type_of_kid 0 t)
HandsOver s t f false = takes_void s f ≡ true

abbrev pub GoesTo : Store → TypedNode → Option Ty → Type 0
GoesTo s t None = ⊥
GoesTo s t (Some f) = HandsOver s t f (is_written 0 t)

-- to a block or case that stands round it
pub record IsYield (a : Around) (t : TypedNode) : Type 0 where
  pub target : GoesTo (store_of a) t (block_for (head_of t).text a.goals)
  pub never : is_never (store_of a) (own_type t) ≡ true

-- a value of just the type that the function gives
abbrev pub Returns : Store → TypedNode → Ty → Bool → Type 0
Returns s t r true = type_of_kid 0 t ≡ r
Returns s t r false = takes_void s r ≡ true

abbrev pub ReturnsTo : Store → TypedNode → Option Ty → Type 0
ReturnsTo s t None = ⊥
ReturnsTo s t (Some r) = Returns s t r (is_written 0 t)

pub record IsReturn (a : Around) (t : TypedNode) : Type 0 where
  pub result : ReturnsTo (store_of a) t a.result
  pub never : is_never (store_of a) (own_type t) ≡ true

-- ---- blocks

-- one of them is of type never, so that what stands behind it is not reached
abbrev pub is_left : Store → TypedNodes → Bool
is_left s typed_none = false
is_left s (typed_more t ts) = is_never s (own_type t) || is_left s ts

-- An end that is reached gives void, which can be assigned to the type of the whole.
abbrev pub EndsWell : Store → Ty → TypedNodes → Type 0
EndsWell s f ts = (is_left s ts ≡ true) ⊎ (takes_void s f ≡ true)

pub record IsBlock (s : Store) (t : TypedNode) : Type 0 where
  pub ends : EndsWell s (own_type t) (kids_of t)

-- the statements of a case stand behind its head
abbrev pub behind_head : TypedNodes → TypedNodes
behind_head typed_none = typed_none
behind_head (typed_more t ts) = ts

pub record IsCase (s : Store) (t : TypedNode) : Type 0 where
  pub ends : EndsWell s (own_type t) (behind_head (kids_of t))

pub record IsDefer (s : Store) (t : TypedNode) : Type 0 where
  pub void : is_void s (own_type t) ≡ true

-- ---- match

-- a union, or a pointer that may be null
abbrev pub IsTagged : Store → Ty → Type 0
IsTagged s f = IsSome (nullable s f) ⊎ IsSome (members_at s (id_in f))

-- what stands for all others, `null` of a nullable pointer, or a member
abbrev pub IsPattern : Store → Ty → TypedNode → Kind → Type 0
IsPattern s f p kind.None = Unit {0}
IsPattern s f p kind.PatternNull = IsSome (nullable s f)
IsPattern s f p _ = IsMemberOf s f (pattern_type p) (nullable s f)

-- the patterns of the cases: whether one is left out, whether one is `null`, and the types of the others
abbrev pub patterns_in : TypedNode → Patterns
patterns_in t =
    let ps = map head_of_case (cases_of t) in
    record {
      has_default = list_any (λ p. is_absent (own_kind p)) ps;
      has_null = list_any (λ p. is_null_pattern (own_kind p)) ps;
      types = map (λ p. id_in (pattern_type p)) (filter (λ p. is_type_pattern (own_kind p)) ps);
    }

pub record IsMatch (s : Store) (t : TypedNode) : Type 0 where
  pub tagged : IsTagged s (type_of_kid 0 t)
  pub patterns : Each (λ c. IsPattern s (type_of_kid 0 t) (head_of_case c) (own_kind (head_of_case c))) (cases_of t)
  pub gives : Each (λ c. Gives s (own_type t) (given c)) (cases_of t)
  pub covered : match_covers s (type_of_kid 0 t) (patterns_in t) ≡ true

-- ---- switch

-- the value has a constant of the type that is switched on
pub record IsCaseValue (c : Code) (f : Ty) (v : TypedNode) : Type 0 where
  pub same : given v ≡ f
  pub constant : IsConstantOf c f (mark_of v).value

abbrev pub numbers_of : Store → List TypedNode → List ℤ
numbers_of s vs = map (λ v. number_of_value s (given v) (cells_of_constant (mark_of v).value)) vs

-- integers, runes, bools and texts are switched on
abbrev pub is_switched : Store → Ty → Bool
is_switched s f = is_integer s f || is_word keyword.Rune s f || is_word keyword.Bool s f || is_str s f

pub record IsSwitch (c : Code) (t : TypedNode) : Type 0 where
  pub scalar : is_switched c.types (type_of_kid 0 t) ≡ true
  pub values : Each (λ x. Each (IsCaseValue c (type_of_kid 0 t)) (values_of x)) (cases_of t)
  pub gives : Each (λ x. Gives c.types (own_type t) (given x)) (cases_of t)
  pub covered :
      SwitchCovers c.types (type_of_kid 0 t) (list_any (λ x. is_absent (own_kind (head_of_case x))) (cases_of t))
      (numbers_of c.types (flat_map values_of (cases_of t)))
