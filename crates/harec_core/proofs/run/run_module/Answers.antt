use Rattle.harec_core.proofs.EndsOfRuns.Unread.{start_input}
use Rattle.harec_core.proofs.run.run_module.Goals as goal

pub new-requires : goal.new-requires
new-requires g c = record { valid = c.requires.valid; few = record { count = c.requires.few.few; bytes = c.requires.few.small } }

pub returns-clause-ran : goal.returns-clause-ran
returns-clause-ran g c =
    let stands = c.in_ok-machine.ensures.stands in
    let ran = c.run-end.ensures in
    record {
      counts = ran.counts;
      told = λ bytes left. ran.done c.args.m.now _ (stands bytes) (rw (start_input c.args.m.now c.args.args.now c.args.fill bytes) left);
      any = λ bytes. ran.any c.args.m.now _ (stands bytes);
    }
