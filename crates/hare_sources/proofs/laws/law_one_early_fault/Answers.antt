use Rattle.hare_sources.proofs.OnceLemmas.{early_faults_are_one, named_or_faulty, trees_are_one}
use Rattle.hare_sources.proofs.laws.law_one_early_fault.Goals as goal

pub returns-clause-one : goal.returns-clause-one
returns-clause-one c = early_faults_are_one

pub returns-clause-none : goal.returns-clause-none
returns-clause-none c = named_or_faulty

pub returns-clause-trees : goal.returns-clause-trees
returns-clause-trees c = trees_are_one
