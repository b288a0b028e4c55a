use Rattle.std.proofs.Common.{sym, ap, ◌∙◌, [], take, subst}
use Rattle.hare_tree.specs.declared.place.Place.{Place}
use Rattle.hare_tree.specs.Tokens.{place_at}
use Rattle.hare_lex.specs.Lexing.{advanced}
use Rattle.hare_lex.specs.Stops.{Stopped}
use Rattle.hare_lex.proofs.Turns.Progress.{place_more}
use Rattle.hare_lex.proofs.lexer.not_utf8.Goals as goal

pub returns : goal.returns
returns c =
    let here = c.advanced-place.ensures ∙ ap (λ p. advanced p c.split_at.result.0.now) c.start_of.ensures ∙ ap
    (λ s. advanced (place_at c.args.file []) s) c.split_at.ensures.front ∙ sym
    (place_more c.args.file [] (take c.args.valid c.args.src.now)) in
    subst (λ (p : Place). Stopped [] 3 p c.broken.result) here
    (subst (λ ts. Stopped ts 3 c.advanced-place.result c.broken.result) c.new.ensures c.broken.ensures)
