-- What of a tree is broken. No public clause cites it.
use Rattle.std.specs.Prelude.{ℕ, List, Bool, false, ◌&&◌}
use Rattle.hare_tree.specs.declared.form.Sign.TheVariants as si
use Rattle.hare_tree.specs.Node.{Node, head, kids_of}
use Rattle.hare_tree.specs.Forms.{form_of}
use Rattle.hare_tree.specs.Spell.{kids_spelled}
use Rattle.hare_ways.specs.Breaks.{is_list, opening, kids_behind, is_broken, has_comment, has_case_comment, has_own_lines, wants_comma}
use Rattle.hare_ways.specs.Parts.{items_of}

abbrev pub is_broken_node : List ℕ → ℕ → Node → Bool
is_broken_node comments n t =
    is_broken (head t).kind (kids_behind (opening (head t).kind) (form_of (head t).kind) (items_of (kids_of t)))
    (has_comment comments (head t) n (kids_spelled 0 t))

abbrev pub case_has_own_lines : List ℕ → ℕ → Node → Bool
case_has_own_lines comments n t =
    has_own_lines (kids_behind si.Arrow (form_of (head t).kind) (items_of (kids_of t))) (has_case_comment comments (head t) n
    (kids_spelled 0 t))

abbrev pub adds_comma : Bool → Node → Bool
adds_comma brackets t =
    brackets && is_list (head t).kind && wants_comma false (kids_behind (opening (head t).kind) (form_of (head t).kind) (items_of
    (kids_of t)))
