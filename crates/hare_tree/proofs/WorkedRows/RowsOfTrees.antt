-- Rows of the grammar, by computing: spellings, shapes and limits of small trees.
use Rattle.std.proofs.Common.{◌≡◌, ℕ, zero, suc, List, [], ◌∷◌, ◌++◌, Bool, true, false, codes, length, map, refl}
use Rattle.hare_tree.specs.declared.token.Suffix.TheVariants as suffix
use Rattle.hare_tree.specs.declared.kind.Kind.{Kind}
use Rattle.hare_tree.specs.declared.kind.Kind.TheVariants as ki
use Rattle.hare_tree.specs.declared.form.Sort.TheVariants as so
use Rattle.hare_tree.specs.Node.{Node, branch, nodes_of}
use Rattle.hare_tree.specs.declared.tree.FileTree.{FileTree}
use Rattle.hare_tree.specs.Spell.{start_of, spell, spell_file}
use Rattle.hare_tree.specs.Grammar.{joined}
use Rattle.hare_tree.specs.Shape.{is_shaped, stops, begins_labelled}
use Rattle.hare_tree.specs.Depth.{deep, deep_root, fits_file, height}

-- ---- trees in few words

-- a tree of the kind with this text and these kids
abbrev tree : Kind → List ℕ → List Node → Node
tree k x ts = branch record { kind = k; place = start_of 0; text = x; number = 0; suffix = suffix.None } (nodes_of ts)

abbrev absent : Node
absent = tree ki.None [] []

abbrev comma : Node
comma = tree ki.TrailingComma [] []

abbrev path : List ℕ → Node
path x = tree ki.Path x []

abbrev a : Node
a = path (codes "a")

abbrev b : Node
b = path (codes "b")

abbrev c : Node
c = path (codes "c")

abbrev two : Kind → List ℕ → Node → Node → Node
two k x l r = tree k x (l ∷ r ∷ [])

-- `yield :a`
abbrev labelled : Node
labelled = tree ki.Yield (codes "a") (absent ∷ [])

-- `if (a) t`, `if (a) t else e`
abbrev branching : Node → Node → Node
branching t e = tree ki.If [] (a ∷ t ∷ e ∷ [])

abbrev expression : Node → Bool
expression t = is_shaped (so.Level 1) t

abbrev words : Node → List (List ℕ)
words t = map (λ u. u.text) (spell 0 t)

-- ---- spellings

-- `a::b(c,)`
call_words : words (tree ki.Call [] (path (codes "a::b") ∷ c ∷ comma ∷ [])) ≡ codes "a" ∷ codes "::" ∷ codes "b" ∷ codes "(" ∷ codes "c" ∷
    codes "," ∷ codes ")" ∷ []
unfolding spell
call_words = refl

-- `[a, b...]`
array_words : words (tree ki.Array [] (a ∷ b ∷ tree ki.Dots [] [] ∷ absent ∷ [])) ≡ codes "[" ∷ codes "a" ∷ codes "," ∷ codes "b" ∷
    codes "..." ∷ codes "]" ∷ []
unfolding spell
array_words = refl

-- `yield :a, b`
yield_words : words (tree ki.Yield (codes "a") (b ∷ [])) ≡ codes "yield" ∷ codes ":" ∷ codes "a" ∷ codes "," ∷ codes "b" ∷ []
unfolding spell
yield_words = refl

-- `for (a; b) c`
for_words : words (tree ki.For [] (absent ∷ a ∷ b ∷ c ∷ [])) ≡ codes "for" ∷ codes "(" ∷ codes "a" ∷ codes ";" ∷ codes "b" ∷ codes ")" ∷
    codes "c" ∷ []
unfolding spell
for_words = refl

-- ---- precedence and left association

-- `a - b - c` is `(a - b) - c`
minus_left : expression (two ki.Arith (codes "-") (two ki.Arith (codes "-") a b) c) ≡ true
unfolding is_shaped stops begins_labelled
minus_left = refl

minus_right : expression (two ki.Arith (codes "-") a (two ki.Arith (codes "-") b c)) ≡ false
unfolding is_shaped stops begins_labelled
minus_right = refl

-- `a & b == c` is `(a & b) == c`
and_first : expression (two ki.Equal (codes "==") (two ki.Arith (codes "&") a b) c) ≡ true
unfolding is_shaped stops begins_labelled
and_first = refl

equal_first : expression (two ki.Arith (codes "&") a (two ki.Equal (codes "==") b c)) ≡ false
unfolding is_shaped stops begins_labelled
equal_first = refl

-- `a < b == c` is `(a < b) == c`
less_first : expression (two ki.Equal (codes "==") (two ki.Less (codes "<") a b) c) ≡ true
unfolding is_shaped stops begins_labelled
less_first = refl

-- an operator of another kind
minus_is_not_less : expression (two ki.Less (codes "-") a b) ≡ false
unfolding is_shaped stops begins_labelled
minus_is_not_less = refl

-- `a = b = c` is `a = (b = c)`; `a + b = c` is nothing
assign_right : expression (two ki.Assign [] a (two ki.Assign [] b c)) ≡ true
unfolding is_shaped stops begins_labelled
assign_right = refl

assign_to_sum : expression (two ki.Assign [] (two ki.Arith (codes "+") a b) c) ≡ false
unfolding is_shaped stops begins_labelled
assign_to_sum = refl

-- ---- edges

-- `if (a) if (a) b else c` has the `else` with the inner `if`
else_inner : expression (branching (branching b c) absent) ≡ true
unfolding is_shaped stops begins_labelled
else_inner = refl

else_outer : expression (branching (branching b absent) c) ≡ false
unfolding is_shaped stops begins_labelled
else_outer = refl

-- `if (a) b = if (a) b else c`: also through the right side of an assignment
else_outer_behind : expression (branching (two ki.Assign [] b (branching b absent)) c) ≡ false
unfolding is_shaped stops begins_labelled
else_outer_behind = refl

-- `a(yield :a)`, and no `a(yield :a,)`
yield_last : expression (tree ki.Call [] (a ∷ labelled ∷ absent ∷ [])) ≡ true
unfolding is_shaped stops begins_labelled
yield_last = refl

yield_before_comma : expression (tree ki.Call [] (a ∷ labelled ∷ comma ∷ [])) ≡ false
unfolding is_shaped stops begins_labelled
yield_before_comma = refl

-- `a(if (a) yield :a, b)`
yield_inside : expression (tree ki.Call [] (a ∷ branching labelled absent ∷ b ∷ absent ∷ [])) ≡ false
unfolding is_shaped stops begins_labelled
yield_inside = refl

-- the value of a `yield` without a label is no labelled block
yield_block : expression (tree ki.Yield [] (tree ki.Block (codes "a") [] ∷ [])) ≡ false
unfolding is_shaped stops begins_labelled
yield_block = refl

yield_plain_block : expression (tree ki.Yield [] (tree ki.Block [] [] ∷ [])) ≡ true
unfolding is_shaped stops begins_labelled
yield_plain_block = refl

-- ---- kids and names

-- `(a,)` is no tuple
tuple_of_one : expression (tree ki.Tuple [] (a ∷ comma ∷ [])) ≡ false
unfolding is_shaped stops begins_labelled
tuple_of_one = refl

-- `nomem` is a name behind `::` alone
nomem_behind : expression (path (codes "rt::nomem")) ≡ true
unfolding is_shaped stops begins_labelled
nomem_behind = refl

nomem_alone : expression (path (codes "nomem")) ≡ false
unfolding is_shaped stops begins_labelled
nomem_alone = refl

keyword_is_no_name : expression (path (codes "if")) ≡ false
unfolding is_shaped stops begins_labelled
keyword_is_no_name = refl

-- ---- limits

-- so many parentheses round `a`
abbrev parens : ℕ → Node
parens zero = a
parens (suc n) = tree ki.Paren [] (parens n ∷ [])

-- with 255 nodes open `a` fits, and with 256 it does not
parens_fit : deep_root (parens 255) ≡ []
unfolding deep spell height
parens_fit = refl

parens_deep : deep_root (parens 256) ≡ 256 ∷ []
unfolding deep spell height
parens_deep = refl

-- `a + b` with 255 open is too deep at `a`: the sum is open round its left operand
abbrev sum_within : ℕ → Node
sum_within zero = two ki.Arith (codes "+") a b
sum_within (suc n) = tree ki.Paren [] (sum_within n ∷ [])

sum_fits : deep_root (sum_within 254) ≡ []
unfolding deep spell height
sum_fits = refl

sum_deep : deep_root (sum_within 255) ≡ 255 ∷ 257 ∷ []
unfolding deep spell height
sum_deep = refl

-- `a.b.b` and so on: 256 of them are too high for one more
abbrev members : ℕ → Node
members zero = a
members (suc n) = tree ki.Field (codes "b") (members n ∷ [])

members_fit : deep_root (members 255) ≡ []
unfolding deep spell height
members_fit = refl

members_deep : deep_root (members 256) ≡ 511 ∷ []
unfolding deep spell height
members_deep = refl

-- ---- files

-- `fn a() void = { a; };`
abbrev function : Node
function =
    tree ki.Fn [] (absent ∷ tree ki.Name (codes "a") [] ∷ tree ki.Params [] (absent ∷ []) ∷ tree ki.TypeScalar (codes "void") [] ∷
    tree ki.Block [] (a ∷ []) ∷ [])

-- `use rt::{a, b,};`
abbrev imports : Node
imports =
    tree ki.UseNames [] (tree ki.ImportPath [] (tree ki.Name (codes "rt") [] ∷ []) ∷ tree ki.Name (codes "a") [] ∷
    tree ki.Name (codes "b") [] ∷ comma ∷ [])

abbrev file_of : List Node → List Node → FileTree
file_of us ds = record { file = 0; uses = us; decls = ds }

file_words : map (λ u. u.text) (spell_file (file_of (imports ∷ []) (function ∷ []))) ≡ codes "use" ∷ codes "rt" ∷ codes "::" ∷ codes "{" ∷
    codes "a" ∷ codes "," ∷ codes "b" ∷ codes "," ∷ codes "}" ∷ codes ";" ∷ codes "fn" ∷ codes "a" ∷ codes "(" ∷ codes ")" ∷ codes "void" ∷
    codes "=" ∷ codes "{" ∷ codes "a" ∷ codes ";" ∷ codes "}" ∷ codes ";" ∷ [] ∷ []
unfolding spell
file_words = refl

file_fits : fits_file (file_of (imports ∷ []) (function ∷ [])) ≡ true
unfolding is_shaped stops begins_labelled deep spell height
file_fits = refl

-- an import is no declaration
import_as_declaration : fits_file (file_of [] (imports ∷ [])) ≡ false
unfolding is_shaped stops begins_labelled deep spell height
import_as_declaration = refl

-- two strings side by side are one
joined_strings : length (joined (spell 0 (tree ki.Str (codes "a") []) ++ spell 0 (tree ki.Str (codes "b") []))) ≡ 1
unfolding spell
joined_strings = refl
