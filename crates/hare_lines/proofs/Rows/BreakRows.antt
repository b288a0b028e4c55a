-- Rows of the layout, by computing: broken lists, braces and cases.
use Rattle.std.specs.Prelude.{◌≡◌, [], ◌∷◌, codes}
use Rattle.std.proofs.Common.{refl}
use Rattle.hare_tree.specs.declared.kind.Kind.TheVariants as ki
use Rattle.hare_tree.specs.Spell.{spell}
use Rattle.hare_tree.specs.Shape.{stops}
use Rattle.hare_ways.specs.Ways.{ways}
use Rattle.hare_lines.specs.Layout.{layout}
use Rattle.hare_lines.proofs.Rows.RowWords.{text, pieces, node, named, none, comma, dots, name, a, b, c, number, int, labelled, file, set}
use Rattle.hare_lines.proofs.Rows.RowWords.{type, laid_out}

-- ---- broken comma lists

broken_by_a_comma : laid_out (set (node ki.Array (a ∷ b ∷ none ∷ comma ∷ []))) (codes "let x = [ a , b , ] ;") ≡ text
    (codes "let x = [@#a,@#b,@];@")
unfolding ways spell stops
broken_by_a_comma = refl

broken_by_a_comment : laid_out (set (node ki.Call (a ∷ b ∷ none ∷ []))) (codes "let x = a ( b //c @ ) ;") ≡ text
    (codes "let x = a(@#b, //c@);@")
unfolding ways spell stops
broken_by_a_comment = refl

without_items : laid_out (set (node ki.Call (a ∷ none ∷ []))) (codes "let x = a ( //c @ ) ;") ≡ text (codes "let x = a( //c@);@")
unfolding ways spell stops
without_items = refl

struct_types : laid_out (type
    (node ki.TypeStruct (named ki.StructField (codes "a") (int ∷ []) ∷ named ki.StructField (codes "b") (int ∷ []) ∷ none ∷ [])))
    (codes "type x = struct { a : int , b : int } ;")
    ≡ text (codes "type x = struct {@#a: int,@#b: int,@};@")
unfolding ways spell stops
struct_types = refl

lists_in_lists : laid_out (set (node ki.Tuple (node ki.Call (a ∷ b ∷ comma ∷ []) ∷ node ki.Array (c ∷ none ∷ none ∷ []) ∷ none ∷ [])))
    (codes "let x = ( a ( b , ) , [ c ] ) ;")
    ≡ text (codes "let x = (a(@#b,@), [c]);@")
unfolding ways spell stops
lists_in_lists = refl

imports : layout (file (node ki.UseNames (node ki.ImportPath (name (codes "a") ∷ []) ∷ name (codes "b") ∷ comma ∷ []) ∷ []) [])
    (pieces (codes "use a :: { b , } ;"))
    ≡ text (codes "use a::{@#b,@};@")
unfolding ways spell stops
imports = refl

no_comma_behind_a_bare_yield : laid_out (set (node ki.Array (labelled ∷ none ∷ none ∷ []))) (codes "let x = [ yield : l //c @ ] ;")
    ≡ text (codes "let x = [@#yield :l //c@];@")
unfolding ways spell stops
no_comma_behind_a_bare_yield = refl

a_comma_behind_dots : laid_out (set (node ki.Array (labelled ∷ dots ∷ none ∷ []))) (codes "let x = [ yield : l ... //c @ ] ;")
    ≡ text (codes "let x = [@#yield :l..., //c@];@")
unfolding ways spell stops
a_comma_behind_dots = refl

strings_side_by_side : laid_out (set (node ki.Call (a ∷ named ki.Str (codes "ab") [] ∷ none ∷ []))) (codes "let x = a ( `a` //c @ `b` ) ;")
    ≡ text (codes "let x = a(@#`a` //c@##`b`,@);@")
unfolding ways spell stops
strings_side_by_side = refl

-- ---- braces

blocks : laid_out (set (node ki.Block (a ∷ node ki.Block (b ∷ []) ∷ []))) (codes "let x = { a ; { b ; } ; } ;") ≡ text
    (codes "let x = {@#a;@#{@##b;@#};@};@")
unfolding ways spell stops
blocks = refl

empty_braces : laid_out (set (node ki.Match (a ∷ []))) (codes "let x = match ( a ) { } ;") ≡ text (codes "let x = match (a) {};@")
unfolding ways spell stops
empty_braces = refl

braces_round_a_comment : laid_out (set (node ki.Block [])) (codes "let x = { //c @ } ;") ≡ text (codes "let x = { //c@};@")
unfolding ways spell stops
braces_round_a_comment = refl

-- ---- cases

one_statement : laid_out (set
    (node ki.Match (a ∷ node ki.Case (node ki.PatternNull [] ∷ b ∷ []) ∷ node ki.Case
    (named ki.PatternLet (codes "n") (int ∷ []) ∷ node ki.Block (c ∷ []) ∷ []) ∷ [])))
    (codes "let x = match ( a ) { case null => b ; case let n : int => { c ; } ; } ;")
    ≡ text (codes "let x = match (a) {@case null => b;@case let n: int => {@##c;@#};@};@")
unfolding ways spell stops
one_statement = refl

more_statements : laid_out
    (set (node ki.Switch (a ∷ node ki.SwitchCase
    (node ki.Values (number (codes "1") ∷ number (codes "2") ∷ none ∷ []) ∷ []) ∷ node ki.SwitchCase (none ∷ b ∷ c ∷ []) ∷ [])))
    (codes "let x = switch ( a ) { case 1 , 2 => case => b ; c ; } ;")
    ≡ text (codes "let x = switch (a) {@case 1, 2 =>@case =>@#b;@#c;@};@")
unfolding ways spell stops
more_statements = refl

a_comment_in_a_case : laid_out (set (node ki.Match (a ∷ node ki.Case (none ∷ b ∷ []) ∷ [])))
    (codes "let x = match ( a ) { case => //c @ b ; } ;")
    ≡ text (codes "let x = match (a) {@case => //c@#b;@};@")
unfolding ways spell stops
a_comment_in_a_case = refl

a_comment_before_a_case : laid_out (set (node ki.Match (a ∷ node ki.Case (none ∷ b ∷ []) ∷ [])))
    (codes "let x = match ( a ) { @ //c @ case => b ; @ //d @ } ;")
    ≡ text (codes "let x = match (a) {@#//c@case => b;@#//d@};@")
unfolding ways spell stops
a_comment_before_a_case = refl
