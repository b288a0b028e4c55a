use Rattle.type_bench.proofs.AliasLemmas.{held-marked, sized-marked}
use Rattle.type_bench.proofs.aliases.marked.Goals as goal

pub returns-clause-held : goal.returns-clause-held
returns-clause-held c =
    held-marked c.args.store.now c.intern.new.self c.args.inner c.in_ok-t.t c.requires.within c.requires.held c.in_ok-t.ensures.stands

pub returns-clause-sized : goal.returns-clause-sized
returns-clause-sized c =
    sized-marked c.args.store.now c.intern.new.self c.in_ok-t.ensures.grows c.args.inner c.in_ok-t.t c.requires.within c.requires.sized
    c.in_ok-t.ensures.stands
