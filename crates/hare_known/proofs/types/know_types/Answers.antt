use Rattle.std.proofs.Common.{◌≡◌, subst}
use Rattle.std.specs.Prelude.{IfSome}
use Rattle.hare_tree.specs.declared.kind.Kind.TheVariants as ki
use Rattle.hare_rules.specs.declared.declared.DeclType.{DeclType}
use Rattle.hare_known.proofs.OneMore.Declarations.{AreDefsDefined-push, AreDefsDefined-grown}
use Rattle.hare_known.proofs.types.know_types.Goals as goal

pub returns-in_err-d-clause-defs : goal.returns-in_err-d-clause-defs
returns-in_err-d-clause-defs c =
    let s = c.known_by_types.new.s in
    let g = c.known_by_types.ensures in
    AreDefsDefined-grown c.args.s.now s c.declarations-law.ensures.sound g.grown g.sound c.args.known.now c.requires.defs

pub returns-in-None-clause-defs : goal.returns-in-None-clause-defs
returns-in-None-clause-defs c =
    let s = c.known_by_types.new.s in
    let g = c.known_by_types.ensures in
    AreDefsDefined-grown c.args.s.now s c.declarations-law.ensures.sound g.grown g.sound c.args.known.now c.requires.defs

pub returns-in-Some-clause-defs : goal.returns-in-Some-clause-defs
returns-in-Some-clause-defs c =
    let s = c.known_by_types.new.s in
    let g = c.known_by_types.ensures in
    let no_def = subst (λ o. IfSome o (λ (d : DeclType). ¬ (d.kind ≡ ki.Def))) c.in-Some.is c.in_ok-d.ensures.kind in
    AreDefsDefined-push c.push.result s c.args.known.now c.push.new.self c.in-Some.d c.push.ensures.ok c.push.ensures.err
    (AreDefsDefined-grown c.args.s.now s c.declarations-law.ensures.sound g.grown g.sound c.args.known.now c.requires.defs)
    (λ e. absurd (no_def e))
