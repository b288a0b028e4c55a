use Rattle.std.proofs.Common.{refl}
use Rattle.hare_tree.specs.Node.{head}
use Rattle.hare_walk.proofs.Steps.{err_same}
use Rattle.rule_types.specs.declared.written.Written.{Written}
use Rattle.rule_types.specs.Contexts.{role_of}
use Rattle.hare_written.specs.Program.{program_of, program_over}
use Rattle.hare_written.specs.Turns.{IsTurnedBack}
use Rattle.hare_written.proofs.PartOfType.Found.{type-found, type-back}
use Rattle.hare_written.proofs.PartOfType.Known.{type-shaped}
use Rattle.hare_written.proofs.JudgedWhole.Parts.{all-erased}
use Rattle.hare_written.proofs.finding.find_type.Goals as goal

pub judge-requires-clause-told : goal.judge-requires-clause-told
judge-requires-clause-told c =
    let a = c.requires.kids.1 in
    record {
      shaped = type-shaped c.args.node.now c.requires.part c.requires.kind;
      kids = all-erased (program_of c.args.env.now) c.args.s.now c.args.node.now c.requires.kids.0 c.args.kids.now a;
      parts = a.judged.known;
      meant = c.means_type.ensures c.if-not-means_type.false;
      length = a.judged.counted;
    }

pub returns-in_err-u-clause-err : goal.returns-in_err-u-clause-err
returns-in_err-u-clause-err c =
    let env = c.args.env.now in
    let t : Written = record {
      decls = env.decls;
      meaning = c.own_meaning-meaning.result;
      bound = c.args.bound;
      node = c.args.node;
      kids =
          c.args.kids;
    } in
    let e = c.in_err-u.field-0.0 in
    err_same c.from_residual.result e (IsTurnedBack (program_of env) c.judge.new.s (role_of c.args.bound) (head c.args.node.now)
    c.args.kids.now)
    c.from_residual.ensures.1
    (type-back env.names.now c.judge.new.s t c.requires.kind (λ f. c.own_meaning-meaning.ensures (program_of env f) refl) e
    c.in_err-u.ensures.err)

pub returns-clause-ok : goal.returns-clause-ok
returns-clause-ok c =
    let env = c.args.env.now in
    let t : Written = record {
      decls = env.decls;
      meaning = c.own_meaning-meaning.result;
      bound = c.args.bound;
      node = c.args.node;
      kids =
          c.args.kids;
    } in
    type-found env.names.now c.judge.new.s t c.requires.kind (λ f. c.own_meaning-meaning.ensures (program_of env f) refl) c.in_ok-u.u
    c.in_ok-u.ensures.known
    c.in_ok-u.ensures.ok
