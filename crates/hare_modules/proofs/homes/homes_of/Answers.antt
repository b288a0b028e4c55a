use Rattle.std.proofs.Common.{◌≡◌, [], ◌∷◌, ◌++◌, map, take, sym, ap, ◌∙◌}
use Rattle.hare_modules.specs.Modules.{runtime, module_of}
use Rattle.hare_modules.proofs.ListLemmas.{map-push}
use Rattle.hare_modules.proofs.CircleLemmas.{take-on}
use Rattle.hare_modules.proofs.NumberLemmas.{numbering-start, numbering-on}
use Rattle.hare_modules.proofs.homes.homes_of.Goals as goal

pub loop-path-init : goal.loop-path-init
loop-path-init c =
    let word : c.extend_from_slice.new.self.items ≡ runtime =
    c.in_ok-extend_from_slice.ensures.items ∙ ap (λ s. s ++ runtime) c.new-runtime.ensures.items in
    numbering-start c.new-known.result c.enter.new.self c.new-homes.result.items c.extend_from_slice.new.self.items c.new-known.ensures word
    c.in_ok-enter.ensures.ok c.new-homes.ensures.items

pub loop-path-preserved : goal.loop-path-preserved
loop-path-preserved c =
    let ms = map module_of (take c.loop-path.path-index c.args.paths.now) in
    let all = ap (map module_of) (take-on c.args.paths.now c.loop-path.path-index c.path-item.result c.loop-path-test.true c.path-item.is) ∙
    map-push module_of (take c.loop-path.path-index c.args.paths.now) c.path-item.result in
    let m = c.in_ok-module.ensures ∙ ap module_of c.bytes.ensures in
    numbering-on ms _ c.loop-path.known c.enter-in-loop-path.new.self c.loop-path.homes.items c.push.new.self.items
    c.in_ok-module.module.items c.in_ok-number.number c.loop-path.invariant (all ∙ ap (λ x. ms ++ x ∷ []) (sym m))
    c.in_ok-number.ensures.ok c.in_ok-number.ensures.number c.in_ok-push.ensures.items
