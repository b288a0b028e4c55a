-- The laws of the gauge.
use Rattle.std.proofs.Common.{[], ◌∷◌}
use Rattle.hare_tree.specs.Grammar.{trees_of, files}
use Rattle.hare_automaton.specs.Rows.{of}
use Rattle.hare_automaton.specs.OneTree.{file_symbols}
use Rattle.hare_nesting.specs.Depth.{GaugesTell, FileGaugesTell, GaugedTreesFit, GaugedFilesFit}
use Rattle.hare_nesting.proofs.Steps.StepGains.{steps_gain, steps_end}
use Rattle.hare_nesting.proofs.LeastFault.Told.{told_faults}
use Rattle.hare_nesting.proofs.LeastFault.Least.{least_faults}
use Rattle.hare_nesting.proofs.OverFiles.TreesRead.{reads_trees}
use Rattle.hare_nesting.proofs.OverFiles.FilesRead.{reads_files}
use Rattle.hare_nesting.proofs.LeastFault.Shallow.{trees_fit, files_fit}

pub gauges_tell : GaugesTell
gauges_tell s c ts = record {
  told = told_faults steps_gain steps_end (trees_of s) (of s ∷ []) (reads_trees s c) ts;
  least = least_faults steps_gain steps_end (trees_of s) (of s ∷ []) (reads_trees s c) ts;
}

pub file_gauges_tell : FileGaugesTell
file_gauges_tell ts = record {
  told = told_faults steps_gain steps_end files file_symbols reads_files ts;
  least = least_faults steps_gain steps_end files file_symbols reads_files ts;
}

pub gauged_trees_fit : GaugedTreesFit
gauged_trees_fit = trees_fit steps_gain steps_end

pub gauged_files_fit : GaugedFilesFit
gauged_files_fit = files_fit steps_gain steps_end
