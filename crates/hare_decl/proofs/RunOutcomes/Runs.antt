-- What the tokens of a file come to, from what the machine's run over them says.
use Rattle.std.proofs.Common.{◌≡◌, ℕ, suc, ◌<◌, List, [], ◌∷◌, length}
use Rattle.hare_tree.specs.declared.token.Token.{Token}
use Rattle.hare_tree.specs.Grammar.{files, IsDepthFault, IsFirstFault, IsFileTree, joined, StandsAt}
use Rattle.hare_tree.proofs.Low.Fitting.{fits_file_parts, file_fits}
use Rattle.hare_automaton.specs.Engine.{Group, Outcome, Done, Fails, run, bottom}
use Rattle.hare_automaton.specs.OneTree.{file_symbols}
use Rattle.hare_automaton.proofs.Spelled.Files.{tokens_have_one_file}
use Rattle.hare_prefixes.specs.Whole.{MakesFile}
use Rattle.hare_prefixes.proofs.Outcomes.Whole.{whole_runs_make_files, files_have_whole_runs}
use Rattle.hare_prefixes.proofs.FirstFault.FileFaults.{file_runs_fault, file_runs_are_over, file_runs_use_all}
use Rattle.hare_nesting.proofs.LeastFault.Firsts.{first_syntax, viable_no_first}
use Rattle.hare_decl.specs.Answers.{IsEnd, IsFile, IsCut}

-- no limit is passed
abbrev pub IsShallow : List Token → Type 0
IsShallow ts = (m : ℕ) → IsDepthFault files ts m → ⊥

-- ---- tokens that are no file

-- where the run fails at a token
pub stuck_first : (file : ℕ) (ts : List Token) (n : ℕ) (t : Token) (rest : List Token) → IsShallow ts →
    run file (joined ts) file_symbols bottom ≡ Fails (t ∷ rest) → StandsAt ts n (t ∷ rest) → IsFirstFault files ts 8 n
stuck_first file ts n t rest d e s = first_syntax files ts n (file_runs_fault file ts n t rest e s) d

-- where it is done at a token that is not End
pub no_end_first : (file : ℕ) (ts : List Token) (n : ℕ) (t : Token) (rest : List Token) (made : List Group) → IsShallow ts →
    run file (joined ts) file_symbols bottom ≡ Done (t ∷ rest) made → StandsAt ts n (t ∷ rest) → (IsEnd t → ⊥) → IsFirstFault files ts 8 n
no_end_first file ts n t rest made d e s i = first_syntax files ts n ((file_runs_are_over file ts n t rest made e s).no_end i) d

-- where a token stands behind End
pub behind_end_first : (file : ℕ) (ts : List Token) (n : ℕ) (t : Token) (rest : List Token) (made : List Group) → IsShallow ts →
    run file (joined ts) file_symbols bottom ≡ Done (t ∷ rest) made → StandsAt ts n (t ∷ rest) → IsEnd t → suc n < length ts →
    IsFirstFault files ts 8 (suc n)
behind_end_first file ts n t rest made d e s i h = first_syntax files ts (suc n) ((file_runs_are_over file ts n t rest made e s).more i h) d

-- a run has one outcome
done_not_fails : (o : Outcome) (u v : List Token) (gs : List Group) → o ≡ Done u gs → o ≡ Fails v → ⊥
done_not_fails o u v gs a b = cc

-- where the tokens are used up
pub used_up_cut : (file : ℕ) (ts : List Token) → IsShallow ts → run file (joined ts) file_symbols bottom ≡ Fails [] → IsCut file ts
used_up_cut file ts d e =
    record {
      no_fault = λ number n. viable_no_first files ts number n (file_runs_use_all file ts e) d;
      no_file = λ tree t. let w = files_have_whole_runs file ts tree (fits_file_parts tree t.fits).0 t.spelled in done_not_fails _ _ _ _
          w.whole.done e;
    }

-- ---- whole files

-- what a run makes that is done in front of End alone
pub whole_made : (file : ℕ) (ts : List Token) (t : Token) (made : List Group) →
    run file (joined ts) file_symbols bottom ≡ Done (t ∷ []) made → IsEnd t → MakesFile file ts made
whole_made file ts t made e i = whole_runs_make_files file ts made (record { end = t; done = e; is_end = i })

-- it is the one file with these tokens, where it keeps the limits
pub whole_is_file : (file : ℕ) (ts : List Token) (made : List Group) (m : MakesFile file ts made) → files.deep_of m.tree ≡ [] →
    IsFile file ts m.tree
whole_is_file file ts made m d =
    let t : IsFileTree file ts m.tree = record
    { file_is = m.spells.file_is; fits = file_fits m.tree m.spells.shaped d; spelled = m.spells.spelled; placed = m.spells.placed } in
    record { read = t; only = λ other o. tokens_have_one_file file ts other m.tree o t }
