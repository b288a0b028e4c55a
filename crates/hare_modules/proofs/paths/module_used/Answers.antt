use Rattle.std.proofs.Common.{◌≡◌, ◌++◌, ◌==◌, ◌≤◌, length, map, sym, ap, ◌∙◌, append-nil, arith}
use Rattle.hare_modules.specs.Modules.{spelled}
use Rattle.hare_modules.specs.Uses.{text_of, kids, path_in}
use Rattle.hare_modules.proofs.ListLemmas.{drop-past}
use Rattle.hare_modules.proofs.SpelledLemmas.{more, spelled-more, one_more}
use Rattle.hare_modules.proofs.Trees.{kids-seen}
use Rattle.hare_modules.proofs.paths.module_used.Goals as goal

pub loop-i-init : goal.loop-i-init
loop-i-init c = rw c.new-module.ensures.items (sym (spelled-more (map text_of c.behind-u.inside.kids)))

pub loop-i-preserved : goal.loop-i-preserved
loop-i-preserved c =
    let t = c.bytes.ensures ∙ ap text_of c.name.view_is in
    one_more text_of c.behind-u.inside.kids c.loop-i.i c.in-Some.name.now c.bytes.result.now c.loop-i.module.items c.put_name.new.path.items
    (spelled (map text_of c.behind-u.inside.kids)) c.in-Some.ensures.found t c.in_ok-put_name.ensures c.loop-i.invariant

pub returns : goal.returns
returns c =
    let past : length c.behind-u.inside.kids ≤ c.loop-i.i = omega (arith, c.len-i-end.ensures, c.loop-i-test.false) in
    let seen : kids (path_in c.args.u.now) ≡ c.behind-u.inside.kids =
    ap kids (sym c.path_in.ensures) ∙ kids-seen _ _ _ c.behind-u.view_is in
    sym (append-nil c.loop-i.module.items)
    ∙ sym (ap (λ ts. c.loop-i.module.items ++ more (c.loop-i.i == 0) (map text_of ts)) (drop-past c.behind-u.inside.kids c.loop-i.i past))
    ∙ c.loop-i.invariant
    ∙ ap (λ ts. spelled (map text_of ts)) (sym seen)
