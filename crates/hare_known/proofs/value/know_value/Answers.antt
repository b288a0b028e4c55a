use Rattle.hare_known.proofs.OneMore.Declarations.{AreDefsDefined-push, AreDefsDefined-grown, AreDefined-grown}
use Rattle.hare_known.proofs.value.know_value.Goals as goal

pub returns-in_err-ty-clause-defined : goal.returns-in_err-ty-clause-defined
returns-in_err-ty-clause-defined c =
    let s = c.declared_id.new.s in
    let g = c.declared_id.ensures in
    AreDefined-grown c.args.s.now s c.declarations-law.ensures.sound g.grown g.sound c.law_defined_types_stay.ensures
    c.args.defined.now c.requires.defined

pub returns-in_err-ty-clause-defs : goal.returns-in_err-ty-clause-defs
returns-in_err-ty-clause-defs c =
    let s = c.declared_id.new.s in
    let g = c.declared_id.ensures in
    AreDefsDefined-grown c.args.s.now s c.declarations-law.ensures.sound g.grown g.sound c.args.known.now c.requires.defs

pub constant_known-requires : goal.constant_known-requires
constant_known-requires c =
    let s = c.declared_id.new.s in
    let g = c.declared_id.ensures in
    AreDefined-grown c.args.s.now s c.declarations-law.ensures.sound g.grown g.sound c.law_defined_types_stay.ensures
    c.args.defined.now c.requires.defined

pub returns-in_err-d-clause-defs : goal.returns-in_err-d-clause-defs
returns-in_err-d-clause-defs c =
    let s = c.declared_id.new.s in
    let g = c.declared_id.ensures in
    AreDefsDefined-grown c.args.s.now s c.declarations-law.ensures.sound g.grown g.sound c.args.known.now c.requires.defs

pub returns-clause-defs : goal.returns-clause-defs
returns-clause-defs c =
    let s = c.declared_id.new.s in
    let g = c.declared_id.ensures in
    AreDefsDefined-push c.push.result s c.args.known.now c.push.new.self c.in_ok-d.d c.push.ensures.ok c.push.ensures.err
    (AreDefsDefined-grown c.args.s.now s c.declarations-law.ensures.sound g.grown g.sound c.args.known.now c.requires.defs)
    c.in_ok-d.ensures.ty
