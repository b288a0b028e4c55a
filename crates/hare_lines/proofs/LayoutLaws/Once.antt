-- A source has one layout.
use Rattle.std.proofs.Common.{◌≡◌, Ok, sym, ap, ◌∙◌, subst}
use Rattle.hare_tree.specs.Grammar.{IsFileTree}
use Rattle.hare_lex.proofs.Whole.Unique.{only_tokens}
use Rattle.hare_automaton.proofs.Spelled.Files.{tokens_have_one_file}
use Rattle.hare_pieces.proofs.OneList.Once.{one_list_of_pieces}
use Rattle.hare_lines.specs.Layout.{SourcesHaveOneLayout, layout_of}

pub sources_have_one_layout : SourcesHaveOneLayout
sources_have_one_layout src text other h g =
    let tokens : g.tokens ≡ h.tokens = only_tokens 0 src (Ok g.tokens) g.are tt h.tokens h.are in
    let tree : h.tree ≡ g.tree = tokens_have_one_file 0 h.tokens h.tree g.tree h.file_is
    (subst (λ ts. IsFileTree 0 ts g.tree) tokens g.file_is) in
    let pieces : h.pieces ≡ g.pieces = one_list_of_pieces src h.pieces g.pieces h.cut g.cut in
    h.text_is ∙ ap (λ t. layout_of src t h.pieces) tree ∙ ap (layout_of src g.tree) pieces ∙ sym g.text_is
