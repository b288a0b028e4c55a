-- What the rows of bindings, control and cases ask, and the types of these nodes.
use Rattle.std.specs.Prelude.{ℕ, suc, Bool, true, false, cond, not, ◌&&◌, ◌||◌, nat_eq, List, [], ◌∷◌, ◌++◌, codes, bytes_eq, drop, find, map, reverse, Option, Some, None, is_some}
use Rattle.std.specs.List.{list_any}
use Rattle.hare_tree.specs.declared.kind.Kind.{Kind}
use Rattle.hare_tree.specs.declared.kind.Kind.TheVariants as ki
use Rattle.hare_tree.specs.declared.place.Place.{Place}
use Rattle.hare_types.specs.declared.coercion.Ty.{Ty}
use Rattle.hare_types.specs.declared.coercion.Ty.TheVariants as ty
use Rattle.hare_types.specs.declared.row.Scalar.{Scalar as Keyword}
use Rattle.hare_types.specs.declared.row.Scalar.TheVariants as keyword
use Rattle.hare_types.specs.Store.{Store}
use Rattle.hare_types.specs.Assign.{signed}
use Rattle.hare_typed.specs.Typed.{TypedNode, TypedNodes, marked, typed_none, typed_more}
use Rattle.hare_typed.specs.Order.{kid_from_front}
use Rattle.hare_typed.specs.Copies.{is_unlabelled as is_nameless, means as is_meant}
use Rattle.hare_rules.specs.declared.hint.Hint.{Hint}
use Rattle.hare_rules.specs.declared.hint.Hint.TheVariants as hint
use Rattle.hare_rules.specs.declared.inside.Target.{Target}
use Rattle.hare_rules.specs.declared.inside.Target.TheVariants as target
use Rattle.hare_rules.specs.Words.{id_in, word_id, typed_as, word_of, nullable_pointee, default_in, has_default, is_never}
use Rattle.hare_typed.specs.Given.{base_row, element_in}
use Rattle.hare_typed.specs.Cover.{match_covers}
use Rattle.hare_rules.specs.Context.{Context, Inside, Open, Given, store_of, kid, place_of, text_of, is_there, own_type, behind_first}
use Rattle.hare_typed.specs.Numbers.{kind_of}
use Rattle.hare_typed.specs.Given.{given as seen}
use Rattle.hare_rules.specs.Operators.{is_member_at}
use Rattle.hare_rules.specs.Joined.{joined, given_by, void_at, void_fits}

-- ---- bindings, and declarations with a value

-- the kid that stands for the written type, and the value
abbrev pub type_kid_of : Kind → ℕ
type_kid_of ki.Let = 0
type_kid_of ki.Const = 0
type_kid_of _ = 2

abbrev pub type_kid : Context → TypedNode
type_kid c = kid c (type_kid_of c.head.kind)

abbrev pub value_kid : Context → TypedNode
value_kid c = kid c (suc (type_kid_of c.head.kind))

abbrev pub has_written_type : Context → Bool
has_written_type c = is_there (type_kid c)

-- the written type, or the default of the value
abbrev pub binding_type : Context → Option ℕ
binding_type c = cond (has_written_type c) (id_in (own_type (type_kid c))) (default_in (store_of c) (own_type (value_kid c)))

abbrev pub binding_has_default : Context → Bool
binding_has_default c = has_written_type c || has_default (own_type (value_kid c))

abbrev pub binding_place : Context → Place
binding_place c = cond (has_written_type c) (place_of (type_kid c)) c.head.place

-- integer types, bool, rune and str
abbrev pub is_scalar_word : Option Keyword → Bool
is_scalar_word None = false
is_scalar_word (Some keyword.Bool) = true
is_scalar_word (Some keyword.Rune) = true
is_scalar_word (Some keyword.Str) = true
is_scalar_word (Some k) = is_some (signed k)

-- The base of the type is one of them; of a whole number without a suffix it is that of its default, int or i64, where it has one.
abbrev pub is_scalar : Store → Ty → Bool
is_scalar s (ty.Of t) = is_scalar_word (word_of (base_row s (ty.Of t)))
is_scalar s (ty.Iconst v) = has_default (ty.Iconst v)
is_scalar s ty.Null = false
is_scalar s ty.Empty = false

-- the written type, or that of the value
abbrev pub declared_type : Context → Ty
declared_type c = own_type (cond (has_written_type c) (type_kid c) (value_kid c))

-- ---- what a jump means

abbrev pub is_loop : Target → Bool
is_loop target.Loop = true
is_loop target.Block = false
is_loop target.Case = false

-- a loop with this name, or any loop where no name is given
abbrev pub is_loop_named : List ℕ → Open → Bool
is_loop_named name l = is_loop l.target && is_meant name l.name

abbrev pub is_block_named : List ℕ → Target → List ℕ → Bool
is_block_named name target.Block own = is_meant name own
is_block_named name target.Case own = is_nameless name
is_block_named name target.Loop own = false

-- a block with this name, or any block or case where no name is given
abbrev pub takes_yield : List ℕ → Open → Bool
takes_yield name l = is_block_named name l.target l.name

abbrev pub nearest : (Open → Bool) → List Open → Option Open
nearest p ls = find p (reverse ls)

-- what a `break` or `continue` with this name means
abbrev pub loop_meant : List ℕ → List Open → Option Open
loop_meant name = nearest (is_loop_named name)

-- what a `yield` with this name means
abbrev pub block_meant : List ℕ → List Open → Option Open
block_meant name = nearest (takes_yield name)

-- It stands inside the same deferred expression as the jump: none is open, or the innermost one that is open stands round both.
abbrev pub is_inside : Inside → Option Open → Bool
is_inside i None = true
is_inside i (Some l) = not i.deferred || l.deferred

-- the number of labels round the nearest of which it is so
abbrev pub level_from : (Open → Bool) → ℕ → List Open → Option ℕ → Option ℕ
level_from p n [] best = best
level_from p n (l ∷ ls) best = level_from p (suc n) ls (cond (p l) (Some n) best)

-- how many labels stand round the block or case that a `yield` with this name means
abbrev pub yield_level : List ℕ → List Open → Option ℕ
yield_level name ls = level_from (takes_yield name) 0 ls None

-- ---- values that leave

-- Without a value, void goes to the target: it fits what is asked of it.
abbrev pub void_fits_hint : Store → Hint → Bool
void_fits_hint s (hint.Of t) = void_fits s t
void_fits_hint s _ = true

abbrev pub hint_of_open : Option Open → Hint
hint_of_open None = hint.None
hint_of_open (Some l) = l.hint

abbrev pub return_fits : Context → Bool
return_fits c = is_there (kid c 0) || void_fits (store_of c) c.inside.result

abbrev pub yield_fits : Context → Bool
yield_fits c = is_there (kid c 0) || void_fits_hint (store_of c) (hint_of_open (block_meant c.head.text c.inside.labels))

-- ---- loops

-- a `break` without a name, or with this one
abbrev pub is_break_of : List ℕ → Kind → List ℕ → Bool
is_break_of name ki.Break text = is_meant text name
is_break_of name _ text = false

abbrev pub is_loop_kind : Kind → Bool
is_loop_kind ki.For = true
is_loop_kind ki.ForEach = true
is_loop_kind _ = false

abbrev pub is_break_out : List ℕ → Kind → List ℕ → Bool
is_break_out name ki.Break text = bytes_eq text name && not (is_nameless text)
is_break_out name _ text = false

abbrev mutual
  -- Whether a `break` in this tree means the loop with this name that stands right round it. Inside another loop a `break` without a
  -- name means that one, and so does one with the name of both.
  pub breaks : List ℕ → Bool → TypedNode → Bool
  breaks name is_nearest (marked h m ts) =
      cond (is_nearest) (is_break_of name h.kind h.text) (is_break_out name h.kind h.text)
      || breaks_in name (is_nearest && not (is_loop_kind h.kind)) (is_loop_kind h.kind && bytes_eq h.text name && not (is_nameless name)) ts

  -- the same of kids; `is_hidden` where a loop of the same name stands between
  pub breaks_in : List ℕ → Bool → Bool → TypedNodes → Bool
  breaks_in name is_nearest is_hidden typed_none = false
  breaks_in name is_nearest is_hidden (typed_more t ts) =
      (not is_hidden && breaks name is_nearest t) || breaks_in name is_nearest is_hidden ts

abbrev pub some_breaks : List ℕ → List TypedNode → Bool
some_breaks name ts = list_any (breaks name true) ts

-- the literal `true`, and not in parentheses
abbrev pub is_true_by : Kind → List ℕ → Bool
is_true_by ki.Bool text = bytes_eq text (codes "true")
is_true_by _ text = false

abbrev pub is_true : TypedNode → Bool
is_true x = is_true_by (kind_of x) (text_of x)

-- a `for` that no jump inside leaves
abbrev pub is_endless : Context → Bool
is_endless c = is_true (kid c 1) && not (some_breaks c.head.text c.kids)

abbrev pub for_type : Context → Option Ty
for_type c = typed_as (word_id (store_of c) (cond (is_endless c) keyword.Never keyword.Void))

-- the element of the array or slice that a for-each goes over
abbrev pub each_element : Store → TypedNode → Option ℕ
each_element s x = element_in (base_row s (seen x))

-- ---- blocks and cases

-- the statements of a block, and those of a case
abbrev pub statements_by : Kind → List TypedNode → List TypedNode
statements_by ki.Case ts = drop 1 ts
statements_by ki.SwitchCase ts = drop 1 ts
statements_by _ ts = ts

abbrev pub statements : Context → List TypedNode
statements c = statements_by c.head.kind c.kids

-- the end is reached: no statement has the type never
abbrev pub is_open : Context → Bool
is_open c = not (list_any (λ x. is_never (store_of c) (own_type x)) (statements c))

abbrev pub end_of : Bool → Place → List Given
end_of true p = void_at p ∷ []
end_of false p = []

-- the void of the end, where anything was yielded and the end is reached
abbrev pub end_behind : Context → List Given → List Given
end_behind c [] = []
end_behind c (v ∷ vs) = end_of (is_open c) c.head.place

-- what comes together in a block or a case: what was yielded to it, and then its end
abbrev pub block_values : Context → List Given
block_values c = c.yields ++ end_behind c c.yields

abbrev pub block_type_by : Context → List Given → Option ℕ
block_type_by c [] = word_id (store_of c) (cond (is_open c) keyword.Void keyword.Never)
block_type_by c (v ∷ vs) = joined (store_of c) c.hint (v ∷ vs)

-- of nothing yielded void where the end is reached, and never where it is not
abbrev pub block_type : Context → Option Ty
block_type c = typed_as (block_type_by c (block_values c))

-- where it is the body of a function and its end is reached, void may be given as the result
abbrev pub body_returns : Context → Bool
body_returns c = not (c.inside.body && is_open c) || void_fits (store_of c) c.inside.result

-- ---- branches

abbrev pub has_else : Context → Bool
has_else c = is_there (kid c 2)

-- the values of the two branches, where there are two
abbrev pub branches : Context → List Given
branches c = cond (has_else c) (given_by (kid c 1) ∷ given_by (kid c 2) ∷ []) []

abbrev pub if_type : Context → Option Ty
if_type c = typed_as (cond (has_else c) (joined (store_of c) c.hint (branches c)) (word_id (store_of c) keyword.Void))

-- the cases of a `match` or a `switch`
abbrev pub cases : Context → List TypedNode
cases c = behind_first c

abbrev pub case_values : Context → List Given
case_values c = map given_by (cases c)

abbrev pub cases_type : Context → Option Ty
cases_type c = typed_as (joined (store_of c) c.hint (case_values c))

-- ---- patterns

-- what a case of a `match` is for
pub data Pattern : Type 0 where
  Default : Pattern  -- all that no other case is for
  NullPointer : Pattern
  Member : ℕ → Pattern
  Lacking : Pattern  -- a type that the store lacks

abbrev pub member_pattern : Option ℕ → Pattern
member_pattern None = Lacking
member_pattern (Some t) = Member t

abbrev pub pattern_by : Kind → TypedNode → Pattern
pattern_by ki.None x = Default
pattern_by ki.PatternNull x = NullPointer
pattern_by ki.PatternLet x = member_pattern (id_in (own_type (kid_from_front 0 x)))
pattern_by _ x = member_pattern (id_in (own_type x))

-- the pattern that stands at the front of a case
abbrev pub pattern_kid : TypedNode → TypedNode
pattern_kid x = kid_from_front 0 x

abbrev pub pattern_of : TypedNode → Pattern
pattern_of x = pattern_by (kind_of (pattern_kid x)) (pattern_kid x)

abbrev pub same_pattern : Pattern → Pattern → Bool
same_pattern Default Default = true
same_pattern NullPointer NullPointer = true
same_pattern (Member t) (Member u) = nat_eq t u
same_pattern _ _ = false

-- a member of the union, or, of a pointer that may be null, `null` or the pointer that cannot be
abbrev pub fits_pattern : Store → Ty → Pattern → Bool
fits_pattern s a Default = true
fits_pattern s a NullPointer = is_some (nullable_pointee (base_row s a))
fits_pattern s a (Member t) = is_member_at s a (Some t)
fits_pattern s a Lacking = false

-- the first case whose pattern is none of the operand's type
abbrev pub odd_case : Context → Option TypedNode
odd_case c = find (λ x. not (fits_pattern (store_of c) (seen (kid c 0)) (pattern_of x))) (cases c)

abbrev pub place_of_pattern : Place → Option TypedNode → Place
place_of_pattern p None = p
place_of_pattern p (Some x) = place_of (pattern_kid x)

-- the first of these cases whose pattern stands among the earlier ones or those
abbrev pub repeated_pattern : List Pattern → List TypedNode → Option TypedNode
repeated_pattern ps [] = None
repeated_pattern ps (x ∷ xs) = cond (list_any (same_pattern (pattern_of x)) ps) (Some x) (repeated_pattern (pattern_of x ∷ ps) xs)

abbrev pub patterns : Context → List Pattern
patterns c = map pattern_of (cases c)

abbrev pub stands_among : List Pattern → Pattern → Bool
stands_among ps p = list_any (same_pattern p) ps

abbrev pub members_listed : List Pattern → List ℕ
members_listed [] = []
members_listed (Member t ∷ ps) = t ∷ members_listed ps
members_listed (Default ∷ ps) = members_listed ps
members_listed (NullPointer ∷ ps) = members_listed ps
members_listed (Lacking ∷ ps) = members_listed ps

-- the cases cover the base of the operand's type
abbrev pub is_matched : Context → Bool
is_matched c =
    match_covers (store_of c) (seen (kid c 0))
    (record {
      has_default = stands_among (patterns c) Default;
      has_null = stands_among (patterns c) NullPointer;
      types = members_listed
          (patterns c);
    })
