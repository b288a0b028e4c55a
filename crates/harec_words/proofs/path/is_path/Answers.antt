use Rattle.std.proofs.Common.{sym, ◌∙◌}
use Rattle.harec_words.proofs.PartsOfWords.Paths.{is_path-none, directory_less, directory_more}
use Rattle.harec_words.proofs.path.is_path.Goals as goal

pub returns-then-not-is_name : goal.returns-then-not-is_name
returns-then-not-is_name c =
    let named = rw c.before-in-Some.ensures at (sym c.is_name.ensures ∙ c.if-not-is_name.true) in
    directory_less c.loop-end.rest.now c.in-Some.end c.in-Some.ensures.value named ∙ c.loop-end.invariant

pub loop-end-preserved : goal.loop-end-preserved
loop-end-preserved c =
    let named = rw c.before-in-Some.ensures at (sym c.is_name.ensures ∙ c.if-not-is_name.false) in
    directory_more c.loop-end.rest.now _ c.in-Some.end c.in-Some.ensures.value named c.behind-rest.ensures ∙ c.loop-end.invariant

pub returns : goal.returns
returns c = c.ends_in_ha.ensures ∙ sym (is_path-none c.loop-end.rest.now c.in_default.ensures.value) ∙ c.loop-end.invariant
