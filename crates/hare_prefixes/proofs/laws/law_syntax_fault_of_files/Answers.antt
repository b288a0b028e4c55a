-- Where the run over a file is done, by the lemma on such runs.
use Rattle.hare_prefixes.proofs.FirstFault.FileFaults.{file_runs_are_over}
use Rattle.hare_prefixes.proofs.laws.law_syntax_fault_of_files.Goals as goal

pub returns-clause-over : goal.returns-clause-over
returns-clause-over c = file_runs_are_over
