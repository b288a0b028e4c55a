use Rattle.hare_const.proofs.StaticLemmas.{tables_first, tables_more, tables_all}
use Rattle.hare_const.proofs.table.table_of.Goals as goal

pub loop-o-init : goal.loop-o-init
loop-o-init c = tables_first c.args.objects c.new-table.result c.new-table.ensures.empty

pub loop-o-preserved-in_ok-insert : goal.loop-o-preserved-in_ok-insert
loop-o-preserved-in_ok-insert c =
    tables_more c.args.objects c.loop-o.objects c.pop.new.self c.in-Some.o c.loop-o.table c.insert.new.self c.in-Some.ensures.rest
    c.in_ok-insert.ensures.updates.0 c.loop-o.invariant

pub loop-o-preserved : goal.loop-o-preserved
loop-o-preserved c =
    tables_more c.args.objects c.loop-o.objects c.pop.new.self c.in-Some.o c.loop-o.table c.insert.new.self c.in-Some.ensures.rest
    c.in_ok-insert.ensures.updates.0 c.loop-o.invariant

pub returns : goal.returns
returns c = tables_all c.args.objects c.loop-o.objects c.loop-o.table c.in_default.ensures.some.1 c.loop-o.invariant
