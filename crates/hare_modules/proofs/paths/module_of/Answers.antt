use Rattle.std.proofs.Common.{◌++◌, [], sym, ap, ◌∙◌, append-nil}
use Rattle.hare_modules.specs.Modules.{directories_behind, without_dot}
use Rattle.hare_modules.proofs.SpelledLemmas.{more, spelled-more, directory-none, directory_more}
use Rattle.hare_modules.proofs.paths.module_of.Goals as goal

pub loop-end-init : goal.loop-end-init
loop-end-init c =
    rw (c.new-module.ensures.items, c.without_dot-rest.ensures) (sym (spelled-more (directories_behind [] (without_dot c.args.path.now))))

pub loop-end-preserved : goal.loop-end-preserved
loop-end-preserved c =
    directory_more c.loop-end.rest.now c.behind-rest.result.now c.in-Some.end c.loop-end.is_first c.before-in-Some.result.now
    c.loop-end.module.items c.put_name.new.path.items _ c.in-Some.ensures.value c.before-in-Some.ensures c.behind-rest.ensures
    c.in_ok-put_name.ensures c.loop-end.invariant

pub returns : goal.returns
returns c =
    let left = directory-none c.loop-end.rest.now [] c.in_default.ensures.value in
    sym (append-nil c.loop-end.module.items) ∙ sym (ap (λ ds. c.loop-end.module.items ++ more c.loop-end.is_first ds) left) ∙
    c.loop-end.invariant
