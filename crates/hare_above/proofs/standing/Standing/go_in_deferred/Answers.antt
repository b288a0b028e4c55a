use Rattle.std.proofs.Common.{◌≡◌, map, refl, sym, ◌∙◌, arith}
use Rattle.std.proofs.lemmas.List.{take_all}
use Rattle.hare_above.specs.Frames.{unmarked}
use Rattle.hare_above.proofs.FrameLemmas.{outer-push, opens-outside}
use Rattle.hare_above.proofs.standing.Standing.go_in_deferred.Goals as goal

pub returns : goal.returns
returns c =
    let ls = c.self.inside.case.inside.labels in
    let hs = c.self.inside.hints in
    let inner : c.replace-kept.new.dest ≡ map unmarked ls = c.replace-kept.ensures.after ∙ c.in_ok-inner.ensures in
    let all = take_all c.len-labels.result hs (omega (arith, c.len-labels.ensures, c.self.invariant.hints)) in
    rw (
      sym c.self.view_is,
      outer-push c.self.inside.case.inside.own c.self.inside.case.inside.result c.self.inside.frames.items c.push.new.self.items _ ls
          c.replace-kept.new.dest hs c.in_ok-push.ensures.items c.replace-kept.ensures.value all,
      c.replace-kept.ensures.value,
      all,
      inner,
      opens-outside ls hs,
    ) refl
