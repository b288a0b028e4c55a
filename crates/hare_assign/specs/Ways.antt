-- In which ways a member is looked for. No public clause cites it.
use Rattle.std.specs.Prelude.{Bool}
use Rattle.hare_types.specs.Trees.{Tree}
use Rattle.hare_types.specs.Store.{Store}
use Rattle.hare_types.specs.Assign.{Value, is_same, is_const, is_lone}
use Rattle.hare_assign.specs.declared.chosen.Way.{Way}
use Rattle.hare_assign.specs.declared.chosen.Way.TheVariants.{Own, Default, Number, Lone}
use Rattle.hare_assign.specs.Chosen.{is_its_default}

-- the value goes to the type in this way
abbrev pub passes : Store → Way → Value → Tree → Bool
passes s Own f t = is_same f t
passes s Default f t = is_its_default f t
passes s Number f t = is_const s f t
passes s Lone f t = is_lone s f t
