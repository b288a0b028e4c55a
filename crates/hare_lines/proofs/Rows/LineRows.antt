-- Rows of the layout, by computing: where no blank stands on a line.
use Rattle.std.specs.Prelude.{◌≡◌, [], ◌∷◌, codes}
use Rattle.std.proofs.Common.{refl}
use Rattle.hare_tree.specs.declared.kind.Kind.TheVariants as ki
use Rattle.hare_tree.specs.Spell.{spell}
use Rattle.hare_tree.specs.Shape.{stops}
use Rattle.hare_ways.specs.Ways.{ways}
use Rattle.hare_lines.specs.Layout.{layout}
use Rattle.hare_lines.proofs.Rows.RowWords.{text, pieces, node, named, none, dots, name, path, a, b, c, number, scalar, int, file, set}
use Rattle.hare_lines.proofs.Rows.RowWords.{type, laid_out}

-- ---- types

marks_of_types : laid_out (type (node ki.TypeNullable (node ki.TypeError (node ki.TypeSlice (scalar (codes "u8") ∷ []) ∷ []) ∷ [])))
    (codes "type x = nullable * ! [ ] u8 ;")
    ≡ text (codes "type x = nullable *![]u8;@")
unfolding ways spell stops
marks_of_types = refl

arrays : laid_out (type (node ki.TypeArray (number (codes "2") ∷ node ki.TypePointer (int ∷ []) ∷ []))) (codes "type x = [ 2 ] * int ;")
    ≡ text (codes "type x = [2]*int;@")
unfolding ways spell stops
arrays = refl

unions : laid_out (type (node ki.TypeUnion (int ∷ node ki.Spread (named ki.TypePath (codes "a::b") [] ∷ []) ∷ none ∷ [])))
    (codes "type x = ( int | ... a :: b ) ;")
    ≡ text (codes "type x = (int | ...a::b);@")
unfolding ways spell stops
unions = refl

-- ---- prefix operators, and the two places where a blank is kept

signs : laid_out (set (node ki.Neg (node ki.Paren (node ki.Neg (a ∷ []) ∷ []) ∷ []))) (codes "let x = - ( - a ) ;") ≡ text
    (codes "let x = -(-a);@")
unfolding ways spell stops
signs = refl

signs_side_by_side : laid_out (set (node ki.Neg (node ki.Neg (a ∷ []) ∷ []))) (codes "let x = - - a ;") ≡ text (codes "let x = --a;@")
unfolding ways spell stops
signs_side_by_side = refl

addresses : laid_out (set (node ki.Addr (node ki.Addr (a ∷ []) ∷ []))) (codes "let x = & & a ;") ≡ text (codes "let x = & &a;@")
unfolding ways spell stops
addresses = refl

member_of_number : laid_out (set (named ki.Field (codes "0") (number (codes "1") ∷ []))) (codes "let x = 1 . 0 ;") ≡ text
    (codes "let x = 1. 0;@")
unfolding ways spell stops
member_of_number = refl

members_of_members : laid_out (set (named ki.Field (codes "1") (named ki.Field (codes "0") (a ∷ []) ∷ []))) (codes "let x = a . 0 . 1 ;")
    ≡ text (codes "let x = a.0. 1;@")
unfolding ways spell stops
members_of_members = refl

-- with a comment between them the number and the `.` do not stand side by side
member_behind_comment : laid_out (set (named ki.Field (codes "0") (number (codes "1") ∷ []))) (codes "let x = 1 //c @ . 0 ;")
    ≡ text (codes "let x = 1 //c@#.0;@")
unfolding ways spell stops
member_behind_comment = refl

-- ---- postfix forms and paths

postfix_forms : laid_out (set
    (named ki.Field (codes "c") (node ki.Force (node ki.Try (node ki.Call (path (codes "a::nomem") ∷ a ∷ b ∷ none ∷ []) ∷ []) ∷ []) ∷ [])))
    (codes "let x = a :: nomem ( a , b ) ? ! . c ;")
    ≡ text (codes "let x = a::nomem(a, b)?!.c;@")
unfolding ways spell stops
postfix_forms = refl

slices : laid_out (set (node ki.Slice (a ∷ number (codes "1") ∷ number (codes "2") ∷ []))) (codes "let x = a [ 1 .. 2 ] ;") ≡ text
    (codes "let x = a[1..2];@")
unfolding ways spell stops
slices = refl

indices : laid_out (set (node ki.Index (a ∷ node ki.Array (b ∷ none ∷ none ∷ []) ∷ []))) (codes "let x = a [ [ b ] ] ;") ≡ text
    (codes "let x = a[[b]];@")
unfolding ways spell stops
indices = refl

casts : laid_out (set (node ki.As (node ki.Cast (a ∷ int ∷ []) ∷ scalar (codes "u8") ∷ []))) (codes "let x = a : int as u8 ;") ≡ text
    (codes "let x = a: int as u8;@")
unfolding ways spell stops
casts = refl

-- ---- operators and brackets

operators : laid_out (set (named ki.Arith (codes "*") (node ki.Paren (named ki.Arith (codes "+") (a ∷ b ∷ []) ∷ []) ∷ c ∷ [])))
    (codes "let x = ( a + b ) * c ;")
    ≡ text (codes "let x = (a + b) * c;@")
unfolding ways spell stops
operators = refl

built_in : laid_out (set (node ki.Append (a ∷ node ki.Len (b ∷ []) ∷ dots ∷ []))) (codes "let x = append ( a , len ( b ) ... ) ;") ≡ text
    (codes "let x = append(a, len(b)...);@")
unfolding ways spell stops
built_in = refl

elements : laid_out (set (node ki.Array (a ∷ b ∷ dots ∷ none ∷ []))) (codes "let x = [ a , b ... ] ;") ≡ text (codes "let x = [a, b...];@")
unfolding ways spell stops
elements = refl

fields : laid_out (set (node ki.StructLit (named ki.TypePath (codes "a") [] ∷ named ki.FieldValue (codes "b") (c ∷ []) ∷ none ∷ [])))
    (codes "let x = a { b = c } ;")
    ≡ text (codes "let x = a { b = c };@")
unfolding ways spell stops
fields = refl

tuples : laid_out (set (node ki.Tuple (a ∷ b ∷ none ∷ []))) (codes "let x = ( a , b ) ;") ≡ text (codes "let x = (a, b);@")
unfolding ways spell stops
tuples = refl

-- ---- labels, loops and branches

labels : laid_out (set (named ki.Block (codes "l") [])) (codes "let x = : l { } ;") ≡ text (codes "let x = :l {};@")
unfolding ways spell stops
labels = refl

branches : laid_out (set (node ki.If (a ∷ b ∷ c ∷ []))) (codes "let x = if ( a ) b else c ;") ≡ text (codes "let x = if (a) b else c;@")
unfolding ways spell stops
branches = refl

loops : laid_out (set (named ki.For (codes "l") (named ki.Let (codes "i") (none ∷ a ∷ []) ∷ b ∷ c ∷ named ki.Break (codes "l") [] ∷ [])))
    (codes "let x = for : l ( let i = a ; b ; c ) break : l ;")
    ≡ text (codes "let x = for :l (let i = a; b; c) break :l;@")
unfolding ways spell stops
loops = refl

loops_over : laid_out (set (node ki.ForEach (named ki.Binding (codes "e") (node ki.ByRef [] ∷ []) ∷ a ∷ b ∷ [])))
    (codes "let x = for ( let e & .. a ) b ;")
    ≡ text (codes "let x = for (let e &.. a) b;@")
unfolding ways spell stops
loops_over = refl

loops_over_values : laid_out (set (node ki.ForEach (named ki.Binding (codes "e") (none ∷ []) ∷ a ∷ b ∷ [])))
    (codes "let x = for ( let e .. a ) b ;")
    ≡ text (codes "let x = for (let e .. a) b;@")
unfolding ways spell stops
loops_over_values = refl

yields : laid_out (set (named ki.Yield (codes "l") (a ∷ []))) (codes "let x = yield : l , a ;") ≡ text (codes "let x = yield :l, a;@")
unfolding ways spell stops
yields = refl

-- ---- imports and functions

imports : layout (file (node ki.UseNames
    (node ki.ImportPath (name (codes "a") ∷ name (codes "b") ∷ []) ∷ name (codes "c") ∷ name (codes "d") ∷ none ∷ []) ∷ []) [])
    (pieces (codes "use a :: b :: { c , d } ;"))
    ≡ text (codes "use a::b::{c, d};@")
unfolding ways spell stops
imports = refl

functions : laid_out (node ki.Fn
    (node ki.Export [] ∷ name (codes "f") ∷ node ki.Params (named ki.Param (codes "a") (int ∷ []) ∷ none ∷ []) ∷ int ∷ a ∷ []))
    (codes "export fn f ( a : int ) int = a ;")
    ≡ text (codes "export fn f(a: int) int = a;@")
unfolding ways spell stops
functions = refl
