-- What the tokens of a file come to where a limit on depth is passed, and where the machine cannot go on.
use Rattle.std.proofs.Common.{◌≡◌, ℕ, ◌-◌, ◌<◌, ◌≤◌, List, [], ◌∷◌, Option, Some, None, drop, length, refl, ap, sym, ◌∙◌, subst, arith}
use Rattle.std.proofs.lemmas.List.{drop_all}
use Rattle.hare_tree.specs.declared.token.Token.{Token}
use Rattle.hare_tree.specs.Tokens.{end_at}
use Rattle.hare_tree.specs.Grammar.{files, IsDepthFault, IsFirstFault, joined, StandsAt}
use Rattle.hare_automaton.specs.Engine.{Fails, run, bottom}
use Rattle.hare_automaton.specs.OneTree.{file_symbols}
use Rattle.hare_prefixes.proofs.Joining.Joined.{head}
use Rattle.hare_prefixes.proofs.Joining.Places.{cut}
use Rattle.hare_prefixes.proofs.FirstFault.FileFaults.{file_runs_use_no_end}
use Rattle.hare_nesting.proofs.LeastFault.Firsts.{first_depth}
use Rattle.hare_recogniser.specs.Limits.{IsFirstDepth}
use Rattle.hare_decl.specs.Answers.{IsCut, HasEnd}
use Rattle.hare_decl.proofs.RunOutcomes.Runs.{IsShallow, stuck_first, used_up_cut}

-- ---- depth

-- where a limit is passed, the first fault is there
pub depth_first : (ts : List Token) (d : Option ℕ) (n : ℕ) → IsFirstDepth files ts 0 d → d ≡ Some n → IsFirstFault files ts 9 n
depth_first ts None n h e = cc
depth_first ts (Some m) n h e =
    let i : m ≡ n = cc in
    let z : m - 0 ≡ n = omega (arith, i) in
    first_depth files ts n (subst (λ k. IsDepthFault files ts k) z h.1) (λ k l. h.2 k (omega (arith, l, z)))

-- where none is passed, none is
pub no_depth : (ts : List Token) (d : Option ℕ) → IsFirstDepth files ts 0 d → d ≡ None → IsShallow ts
no_depth ts None h e = h
no_depth ts (Some m) h e = cc

-- ---- the machine cannot go on

-- at a token
pub stuck_at_token : (file : ℕ) (ts : List Token) (n : ℕ) → IsShallow ts →
    run file (joined ts) file_symbols bottom ≡ Fails (joined (drop n ts)) → StandsAt ts n (joined (drop n ts)) → n < length ts →
    IsFirstFault files ts 8 n
stuck_at_token file ts n d e s h =
    let c = cut ts n h in
    let x = head c.first c.behind in
    let us : joined (drop n ts) ≡ x.first ∷ x.rest = ap joined c.rest ∙ x.is in
    stuck_first file ts n x.first x.rest d (e ∙ ap Fails us) (subst (StandsAt ts n) us s)

-- behind all tokens nothing is left
used_up : (file : ℕ) (ts : List Token) (n : ℕ) → run file (joined ts) file_symbols bottom ≡ Fails (joined (drop n ts)) → length ts ≤ n →
    run file (joined ts) file_symbols bottom ≡ Fails []
used_up file ts n e h = e ∙ ap (λ l. Fails (joined l)) (drop_all n ts h)

-- the tokens are used up
pub stuck_at_end : (file : ℕ) (ts : List Token) (n : ℕ) → IsShallow ts →
    run file (joined ts) file_symbols bottom ≡ Fails (joined (drop n ts)) → length ts ≤ n → IsCut file ts
stuck_at_end file ts n d e h = used_up_cut file ts d (used_up file ts n e h)

-- no tokens are used up of which the last is End
pub end_not_used : (file : ℕ) (ts : List Token) (n : ℕ) → run file (joined ts) file_symbols bottom ≡ Fails (joined (drop n ts)) →
    length ts ≤ n → HasEnd ts → ⊥
end_not_used file ts n e h k =
    file_runs_use_no_end file k.0 (end_at k.1) [] refl (ap (λ l. run file (joined l) file_symbols bottom) (sym k.2) ∙ used_up file ts n e h)
