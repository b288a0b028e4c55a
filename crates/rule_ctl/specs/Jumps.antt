-- What jumps mean, by what they can mean.
use Rattle.std.specs.Prelude.{ℕ, Bool, List}
use Rattle.hare_rules.specs.Context.{Open}
use Rattle.hare_rules.specs.Control.{is_loop_named, takes_yield}
use Rattle.rule_ctl.specs.declared.jumps.Wanted.{Wanted}
use Rattle.rule_ctl.specs.declared.jumps.Wanted.TheVariants as wanted

-- whether a jump with this name can mean what stands round it
abbrev pub may_mean : Wanted → List ℕ → Open → Bool
may_mean wanted.Loop name l = is_loop_named name l
may_mean wanted.Block name l = takes_yield name l
