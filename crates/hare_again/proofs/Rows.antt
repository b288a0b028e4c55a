-- Rows, by computing: what is read of the layout of a small file, and that it is laid out as before.
use Rattle.std.specs.Prelude.{◌≡◌, [], ◌∷◌, codes}
use Rattle.std.proofs.Common.{refl}
use Rattle.hare_tree.specs.declared.kind.Kind.TheVariants as ki
use Rattle.hare_tree.specs.Spell.{spell}
use Rattle.hare_tree.specs.Shape.{stops}
use Rattle.hare_ways.specs.Ways.{ways}
use Rattle.hare_lines.proofs.Rows.RowWords.{text, pieces, node, named, none, comma, a, b, file, set, laid_out}
use Rattle.hare_again.specs.Again.{layout_seen, comments_of}

a_comma_is_read : layout_seen (file [] (set (node ki.Call (a ∷ b ∷ none ∷ [])) ∷ [])) (pieces (codes "let x = a ( b //c @ ) ;"))
    ≡ pieces (codes "let x = a ( @ b , //c @ ) ;")
unfolding ways spell stops
a_comma_is_read = refl

it_stays : laid_out (set (node ki.Call (a ∷ b ∷ comma ∷ []))) (codes "let x = a ( @ b , //c @ ) ;") ≡ text
    (codes "let x = a(@#b, //c@);@")
unfolding ways spell stops
it_stays = refl

strings_are_read : layout_seen (file [] (set (node ki.Call (a ∷ named ki.Str (codes "ab") [] ∷ none ∷ [])) ∷ []))
    (pieces (codes "let x = a ( `a` //c @ `b` ) ;"))
    ≡ pieces (codes "let x = a ( @ `a` //c @ `b` , @ ) ;")
unfolding ways spell stops
strings_are_read = refl

empty_lines_are_read : layout_seen (file [] (set (node ki.Block (a ∷ b ∷ [])) ∷ [])) (pieces (codes "@@ let x = { @@ a ; @@ b ; @@ } ;"))
    ≡ pieces (codes "let x = { @ a ; @@ b ; @@ } ;")
unfolding ways spell stops
empty_lines_are_read = refl

comments_are_read : comments_of (pieces (codes "a //c @ b @ //d")) ≡ codes "//c" ∷ codes "//d" ∷ []
comments_are_read = refl
