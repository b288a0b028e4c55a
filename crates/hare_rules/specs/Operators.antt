-- What the rows of literals, paths and operators ask, and the types of these nodes.
use Rattle.std.specs.Prelude.{ℕ, ℤ, pos, Bool, true, false, cond, ◌&&◌, ◌||◌, nat_eq, List, [], ◌∷◌, codes, slice_get, Option, Some, None, is_some, option_map, option_and_then}
use Rattle.hare_tree.specs.declared.kind.Kind.{Kind}
use Rattle.hare_tree.specs.declared.kind.Kind.TheVariants as ki
use Rattle.hare_tree.specs.declared.token.Meaning.{Meaning}
use Rattle.hare_tree.specs.declared.token.Meaning.TheVariants as means
use Rattle.hare_tree.specs.declared.token.Suffix.{Suffix}
use Rattle.hare_tree.specs.declared.token.Suffix.TheVariants as suffix
use Rattle.hare_tree.specs.Words.{is_listed}
use Rattle.hare_types.specs.declared.coercion.Ty.{Ty}
use Rattle.hare_types.specs.declared.coercion.Ty.TheVariants as ty
use Rattle.hare_types.specs.declared.row.Row.TheVariants as row
use Rattle.hare_types.specs.declared.row.Scalar.{Scalar as Keyword}
use Rattle.hare_types.specs.declared.row.Scalar.TheVariants as keyword
use Rattle.hare_types.specs.Store.{Store}
use Rattle.hare_types.specs.Assign.{holds, is_castable, value_at, type_at}
use Rattle.hare_types.specs.ByIds.{has_size_at}
use Rattle.hare_types.specs.Unions.{id_of}
use Rattle.hare_rules.specs.declared.declared.Local.{Local}
use Rattle.hare_rules.specs.declared.declared.DeclType.{DeclType}
use Rattle.hare_rules.specs.Words.{id_in, row_in, word_id, typed_as, is_word, nullable_pointee, members_in, is_among, has_integer_base, is_integer, are_iconsts, same_id, is_same_type, has_default, default_in, Common, Typed, Exact, common, common_type, nomem}
use Rattle.hare_typed.specs.Given.{base_row, pointee_in}
use Rattle.hare_typed.specs.Constancy.{is_address_row as is_any_pointer}
use Rattle.hare_rules.specs.Exact.{exact_of, negated, complemented}
use Rattle.hare_rules.specs.Context.{Setting, Context, Entry, Odd, known_local, declaration, store_of, kid, own_type}
use Rattle.hare_typed.specs.Given.{given as seen}

-- ---- numbers

-- the type that a suffix names
abbrev pub suffix_word : Suffix → Option Keyword
suffix_word suffix.None = None
suffix_word suffix.I8 = Some keyword.I8
suffix_word suffix.I16 = Some keyword.I16
suffix_word suffix.I32 = Some keyword.I32
suffix_word suffix.I64 = Some keyword.I64
suffix_word suffix.U8 = Some keyword.U8
suffix_word suffix.U16 = Some keyword.U16
suffix_word suffix.U32 = Some keyword.U32
suffix_word suffix.U64 = Some keyword.U64
suffix_word suffix.I = Some keyword.Int
suffix_word suffix.U = Some keyword.Uint
suffix_word suffix.Z = Some keyword.Size

abbrev pub word_holds : Option Keyword → ℕ → Bool
word_holds None n = true
word_holds (Some k) n = holds k (pos n)

-- the type of the suffix, where there is one, holds the number
abbrev pub number_fits : Context → Bool
number_fits c = word_holds (suffix_word c.head.suffix) c.head.number

abbrev pub number_type_by : Store → Option Keyword → ℕ → Option Ty
number_type_by s None n = Some (ty.Iconst (pos n))
number_type_by s (Some k) n = typed_as (word_id s k)

abbrev pub number_type : Context → Option Ty
number_type c = number_type_by (store_of c) (suffix_word c.head.suffix) c.head.number

-- ---- paths

abbrev pub entry_is_known : Option Entry → Bool
entry_is_known (Some (Odd p)) = false
entry_is_known _ = true

-- the local that the path means, if it means one, is not that of a for-each over what is no array and no slice
abbrev pub binding_known : Context → Meaning → Bool
binding_known c (means.Local n) = entry_is_known (slice_get c.locals n)
binding_known c _ = true

abbrev pub is_value_kind : Kind → Bool
is_value_kind ki.Def = true
is_value_kind ki.GlobalLet = true
is_value_kind ki.GlobalConst = true
is_value_kind _ = false

abbrev pub is_type_decl : Kind → Bool
is_type_decl ki.TypeDecl = true
is_type_decl _ = false

-- whether the declaration is a type: that of `rt::nomem` is one, and stands in no list
abbrev pub declares_type : Option DeclType → ℕ → Bool
declares_type None n = nat_eq n nomem
declares_type (Some d) n = is_type_decl d.kind

abbrev pub declares_value : Option DeclType → Bool
declares_value None = false
declares_value (Some d) = is_value_kind d.kind

-- the id of the named type
abbrev pub named_id : Setting → ℕ → Option ℕ
named_id w n = id_of w.store (row.Named n)

abbrev pub has_void_base : Store → Option ℕ → Bool
has_void_base s None = false
has_void_base s (Some t) = is_word keyword.Void (base_row s (ty.Of t))

-- A local, a global or a def; or a type whose base is void, whose one value is written by its name.
abbrev pub names_value : Setting → Meaning → Bool
names_value w (means.Local n) = true
names_value w (means.Decl n) = declares_value (declaration w n) ||
    (declares_type (declaration w n) n && has_void_base w.store (named_id w n))
names_value w _ = false

abbrev pub type_of_declaration : Setting → Option DeclType → ℕ → Option Ty
type_of_declaration w None n = typed_as (named_id w n)
type_of_declaration w (Some d) n = cond (is_type_decl d.kind) (typed_as (named_id w n)) (Some (ty.Of d.ty))

abbrev pub type_of_local : Option Local → Option Ty
type_of_local None = None
type_of_local (Some l) = Some (ty.Of l.ty)

abbrev pub path_type : Context → Meaning → Option Ty
path_type c (means.Local n) = type_of_local (known_local (slice_get c.locals n))
path_type c (means.Decl n) = type_of_declaration c.setting (declaration c.setting n) n
path_type c _ = None

-- ---- one operand

abbrev pub first_seen : Context → Ty
first_seen c = seen (kid c 0)

abbrev pub second_seen : Context → Ty
second_seen c = seen (kid c 1)

abbrev pub is_minus : Kind → Bool
is_minus ki.Neg = true
is_minus _ = false

-- the operator of one whole number without a suffix
abbrev pub unary : Kind → ℤ → Option ℤ
unary k v = cond (is_minus k) (negated v) (complemented v)

abbrev pub unary_in_range : Kind → Ty → Bool
unary_in_range k (ty.Iconst v) = is_some (unary k v)
unary_in_range k _ = true

abbrev pub unary_type : Kind → Ty → Option Ty
unary_type k (ty.Iconst v) = option_map ty.Iconst (unary k v)
unary_type k a = Some a

-- the type to which the operand points, where that has a size
abbrev pub pointed : Store → Ty → Option ℕ
pointed s a = option_and_then (λ t. cond (has_size_at s t) (Some t) None) (pointee_in (base_row s a))

-- ---- two operands

abbrev pub operands_common : Context → Option Common
operands_common c = common (store_of c) (first_seen c) (second_seen c)

-- where both are whole numbers without a suffix, the operator gives one
abbrev pub in_range : Context → Bool
in_range c = cond (are_iconsts (first_seen c) (second_seen c)) (is_some (exact_of c.head.kind c.head.text (first_seen c) (second_seen c)))
    true

abbrev pub exact_type : Context → Option Ty
exact_type c = option_map ty.Iconst (exact_of c.head.kind c.head.text (first_seen c) (second_seen c))

abbrev pub arith_type_by : Context → Option Common → Option Ty
arith_type_by c None = None
arith_type_by c (Some (Typed t)) = Some (ty.Of t)
arith_type_by c (Some Exact) = exact_type c

abbrev pub arith_type : Context → Option Ty
arith_type c = arith_type_by c (operands_common c)

abbrev pub shift_left_has_default : Context → Bool
shift_left_has_default c = are_iconsts (first_seen c) (second_seen c) || has_default (first_seen c)

abbrev pub shift_type : Context → Option Ty
shift_type c = cond (are_iconsts (first_seen c) (second_seen c)) (exact_type c) (typed_as (default_in (store_of c) (first_seen c)))

-- both have one type, and the word is its base
abbrev pub both_of_word : Keyword → Store → Ty → Ty → Bool
both_of_word k s a b = is_same_type a b && is_word k (base_row s a)

abbrev pub are_ordered : Store → Ty → Ty → Bool
are_ordered s a b = is_some (common s a b) || both_of_word keyword.Rune s a b

abbrev pub is_null : Ty → Bool
is_null ty.Null = true
is_null _ = false

-- one is `null`, and the base of the other a pointer that may be null
abbrev pub null_meets : Store → Ty → Ty → Bool
null_meets s a b = is_null a && is_some (nullable_pointee (base_row s b))

-- one is `*X` and the other `nullable *X`: the types themselves, and not names of them
abbrev pub pointer_meets : Store → Ty → Ty → Bool
pointer_meets s a b = same_id (pointee_in (row_in s a)) (nullable_pointee (row_in s b))

-- the first operand goes to the type of the second
abbrev pub goes_to_other : Store → Ty → Ty → Bool
goes_to_other s a b = null_meets s a b || pointer_meets s a b

-- both have one type, whose values can be compared
abbrev pub are_comparable : Store → Ty → Ty → Bool
are_comparable s a b =
    both_of_word keyword.Bool s a b || both_of_word keyword.Rune s a b || both_of_word keyword.Str s a b
    || (is_same_type a b && is_any_pointer (base_row s a))

abbrev pub are_equatable : Store → Ty → Ty → Bool
are_equatable s a b = is_some (common s a b) || are_comparable s a b || goes_to_other s a b || goes_to_other s b a

-- ---- assignments with an operator

-- `<<=` and `>>=`
abbrev pub is_shift_sign : List ℕ → Bool
is_shift_sign = is_listed (codes "<<=" ∷ codes ">>=" ∷ [])

abbrev pub fits_left : Store → List ℕ → Ty → Ty → Bool
fits_left s sign a b = cond (is_shift_sign sign) (has_integer_base s a && is_integer s b) (same_id (common_type (common s a b)) (id_in a))

-- ---- types as operands

-- the type that is written as kid number i
abbrev pub written : Context → ℕ → Option ℕ
written c i = id_in (own_type (kid c i))

abbrev pub castable_to : Store → Ty → Option ℕ → Bool
castable_to s a None = false
castable_to s a (Some t) = is_castable s (value_at s a) (type_at s t)

-- the type is a member of the union that is the base of the operand; of `nullable *X` that is `*X` itself
abbrev pub member_of : Store → Option (List ℕ) → Option ℕ → ℕ → Bool
member_of s (Some ts) o t = is_among t ts
member_of s None o t = same_id o (pointee_in (row_in s (ty.Of t)))

abbrev pub is_member_at : Store → Ty → Option ℕ → Bool
is_member_at s a None = false
is_member_at s a (Some t) = member_of s (members_in s a) (nullable_pointee (base_row s a)) t

abbrev pub has_size_of : Store → Option ℕ → Bool
has_size_of s None = false
has_size_of s (Some t) = has_size_at s t
