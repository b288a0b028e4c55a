-- Rows of the layout, by computing: comments, empty lines, and whole texts.
use Rattle.std.specs.Prelude.{◌≡◌, ℕ, List, [], ◌∷◌, ◌++◌, codes, true, false}
use Rattle.std.proofs.Common.{refl}
use Rattle.hare_tree.specs.declared.kind.Kind.TheVariants as ki
use Rattle.hare_tree.specs.Spell.{spell}
use Rattle.hare_tree.specs.Shape.{stops}
use Rattle.hare_pieces.specs.declared.piece.Piece.{Piece}
use Rattle.hare_ways.specs.Ways.{ways}
use Rattle.hare_lines.specs.Read.{Seen, seen}
use Rattle.hare_lines.specs.Layout.{layout, layout_of}
use Rattle.hare_lines.proofs.Rows.RowWords.{text, pieces, node, named, none, comma, name, path, a, b, c, number, scalar, int, file, set}
use Rattle.hare_lines.proofs.Rows.RowWords.{laid_out}

-- ---- comments

first_on_its_line : laid_out (set a) (codes "//c @ let x = a ; @ //d") ≡ text (codes "//c@let x = a;@//d@")
unfolding ways spell stops
first_on_its_line = refl

behind_a_piece : laid_out (set a) (codes "let x = a ; //c") ≡ text (codes "let x = a; //c@")
unfolding ways spell stops
behind_a_piece = refl

within_a_line : laid_out (set (named ki.Arith (codes "+") (a ∷ b ∷ []))) (codes "let x = a //c @ //d @ + b ;") ≡ text
    (codes "let x = a //c@#//d@#+ b;@")
unfolding ways spell stops
within_a_line = refl

before_a_written_comma : laid_out (set (node ki.Call (a ∷ b ∷ c ∷ none ∷ []))) (codes "let x = a ( b //c @ , c ) ;") ≡ text
    (codes "let x = a(@#b //c@##,@#c,@);@")
unfolding ways spell stops
before_a_written_comma = refl

-- ---- empty lines

between_declarations : layout (file [] (set a ∷ set b ∷ [])) (pieces (codes "@@ let x = a ; @@ let x = b ;")) ≡ text
    (codes "let x = a;@@let x = b;@")
unfolding ways spell stops
between_declarations = refl

in_a_block : laid_out (set (node ki.Block (a ∷ b ∷ []))) (codes "let x = { @@ a ; @@ b ; @@ } ;") ≡ text (codes "let x = {@#a;@@#b;@@};@")
unfolding ways spell stops
in_a_block = refl

-- a line that ends in a comment ends in no bracket
behind_a_comment : laid_out (set (node ki.Block (a ∷ []))) (codes "let x = { //c @@ a ; @@ //d @ } ;") ≡ text
    (codes "let x = { //c@@#a;@@#//d@};@")
unfolding ways spell stops
behind_a_comment = refl

-- ---- files

nothing : layout (file [] []) [] ≡ []
unfolding ways spell stops
nothing = refl

comments_alone : layout (file [] []) (pieces (codes "//c @ //d @@ //e")) ≡ text (codes "//c@//d@@//e@")
unfolding ways spell stops
comments_alone = refl

-- ---- from the text

abbrev token : ℕ → ℕ → Piece
token from to = record { from = from; to = to; comment = false }

-- the pieces of a function
abbrev seen_pieces : List Seen
seen_pieces = pieces (codes "use rt ; export fn main ( ) void = { rt :: puts ( %a% ) ; //~x @ } ;")

-- the blanks at the end of a comment are dropped
function_is_read : seen (text (codes "use rt;export fn main()void={rt::puts(%a%);// x @};"))
    (token 0 3 ∷ token 4 6 ∷ token 6 7 ∷ token 7 13 ∷ token 14 16 ∷ token 17 21 ∷ token 21 22 ∷ token 22 23
    ∷ token 23 27 ∷ token 27 28 ∷ token 28 29
    ∷ token 29 31 ∷ token 31 33 ∷ token 33 37 ∷ token 37 38 ∷ token 38 41 ∷ token 41 42 ∷ token 42 43 ∷ record {
      from = 43;
      to = 48;
      comment = true;
    }
    ∷ token 49 50 ∷ token 50 51 ∷ [])
    ≡ seen_pieces
function_is_read = refl

function_is_laid_out : layout
    (file (node ki.Use (node ki.ImportPath (name (codes "rt") ∷ []) ∷ []) ∷ [])
    (node ki.Fn (node ki.Export [] ∷ name (codes "main") ∷ node ki.Params (none ∷ []) ∷ scalar (codes "void")
    ∷ node ki.Block (node ki.Call (path (codes "rt::puts") ∷ named ki.Str (codes "a") [] ∷ none ∷ []) ∷ []) ∷ []) ∷ []))
    seen_pieces
    ≡ text (codes "use rt;@export fn main() void = {@#rt::puts(%a%); // x@};@")
unfolding ways spell stops
function_is_laid_out = refl

of_a_list : layout_of (text (codes "let a: [2]int = [1, 2,];"))
    (file [] (node ki.GlobalLet (none ∷ name (codes "a") ∷ node ki.TypeArray (number (codes "2") ∷ int ∷ [])
    ∷ node ki.Array (number (codes "1") ∷ number (codes "2") ∷ none ∷ comma ∷ []) ∷ []) ∷ []))
    (token 0 3 ∷ token 4 5 ∷ token 5 6 ∷ token 7 8 ∷ token 8 9 ∷ token 9 10 ∷ token 10 13 ∷ token 14 15 ∷ token 16 17 ∷ token 17 18
    ∷ token 18 19
    ∷ token 20 21 ∷ token 21 22 ∷ token 22 23 ∷ token 23 24 ∷ [])
    ≡ text (codes "let a: [2]int = [@#1,@#2,@];@")
unfolding ways spell stops
of_a_list = refl

-- the file of docs/LAYOUT.md
page_is_laid_out : layout
    (file (node ki.Use (node ki.ImportPath (name (codes "rt") ∷ []) ∷ []) ∷ [])
    (node ki.Fn (node ki.Export [] ∷ name (codes "main") ∷ node ki.Params (none ∷ []) ∷ scalar (codes "void")
    ∷ node ki.Block
    (named ki.Let (codes "names")
    (none ∷ node ki.Array (named ki.Str (codes "Ada") [] ∷ named ki.Str (codes "Bob") [] ∷ none ∷ none ∷ []) ∷ [])
    ∷ node ki.ForEach (named ki.Binding (codes "n") (none ∷ []) ∷ path (codes "names") ∷ node ki.Call
    (path (codes "rt::puts") ∷ path (codes "n") ∷ none ∷ []) ∷ [])
    ∷ []) ∷ []) ∷ []))
    (pieces (codes "use rt ; export fn main ( ) void = { //~greets @ let names = [ %Ada% , %Bob% //~both @ ] ; @@ "
    ++ codes "for ( let n .. names ) rt :: puts ( n ) ; } ;"))
    ≡ text (codes "use rt;@export fn main() void = {~//~greets@#let names = [@##%Ada%,@##%Bob%, //~both@#];@@"
    ++ codes "#for (let n .. names) rt::puts(n);@};@")
unfolding ways spell stops
page_is_laid_out = refl
