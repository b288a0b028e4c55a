use Rattle.std.proofs.Common.{◌∙◌, ◌++◌, List, ℕ, sym, ap}
use Rattle.hare_lex.specs.Lexing.{unescaped}
use Rattle.hare_lex.proofs.Turns.Steps.{unescaped_more}
use Rattle.hare_lex.proofs.string.unescaped.Goals as goal

pub loop-first-preserved-in-Some-escape_at : goal.loop-first-preserved-in-Some-escape_at
loop-first-preserved-in-Some-escape_at c =
    let word = c.loop-first.word in
    let more = c.extend.new.self in
    let grown = c.in_ok-extend-in-Some-escape_at.ensures.ok ∙ ap (λ (l : List ℕ). word ++ l)
    (c.as_bytes.ensures.value ∙ c.encode_utf8.ensures.value) in
    let same = sym (ap (λ (l : List ℕ). word ++ unescaped 0 l) c.in-Some.ensures.cases.0) ∙ c.loop-first.invariant in
    ap (λ (l : List ℕ). more ++ unescaped 0 l) c.split_at.ensures.back
    ∙ unescaped_more word more _ c.in-Some.first.now c.in-Some.behind.now c.in-Some-escape_at.character c.in-Some-escape_at.len
    (sym c.in-Some-escape_at.ensures.value) grown same
