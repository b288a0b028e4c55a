use Rattle.std.proofs.Common.{◌∙◌, sym, ap, arith}
use Rattle.hare_lex.specs.Lexing.{bad_escape}
use Rattle.hare_lex.proofs.Turns.Steps.{bad_escape_at}
use Rattle.hare_lex.proofs.string.bad_escape.Goals as goal

pub loop-first-preserved : goal.loop-first-preserved
loop-first-preserved c =
    let behind = c.in-Some.behind.now in
    let n = c.in-Some-escape.len in
    let at = bad_escape_at c.in-Some.first.now behind c.in-Some-escape.field-0-0 n (omega arith) (sym c.in-Some-escape.ensures.value) in
    record {
      same = ap (bad_escape 0) c.split_at.ensures.back ∙ sym at ∙ sym (ap (bad_escape 0) c.in-Some.ensures.cases.0) ∙
          c.loop-first.invariant.same;
      within = omega (arith, c.in-Some.ensures.cases.1, c.loop-first.invariant.within, c.split_at.ensures.back_len);
    }
