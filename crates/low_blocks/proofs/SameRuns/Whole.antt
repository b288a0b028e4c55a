-- The lowered program does the same as the program.
use Rattle.std.proofs.Common.{◌≡◌, ℕ, ◌+◌, ◌≤◌, List, [], length, refl, ap, arith}
use Rattle.hx_base.specs.Runtime.{World, arguments_start, data_start}
use Rattle.flat_code.specs.State as flat
use Rattle.flat_code.specs.State.{stepped, caught}
use Rattle.flat_code.specs.Run as flat_run
use Rattle.flat_code.specs.Run.{start_world, before_calls}
use Rattle.hare_blocks.specs.Trees.{Program, exit_of, block_of}
use Rattle.hare_blocks.specs.Evaluation.{End, State, Result, does, ended, run}
use Rattle.low_blocks.specs.Expressions.{Scope}
use Rattle.low_blocks.specs.Programs.{body_of, start, program_texts, lowered}
use Rattle.low_blocks.specs.Agreement.{flat_end, DoesTheSame}
use Rattle.low_blocks.proofs.SameRuns.Meets.{World_after, Meets, goes_on, exits, spent}
use Rattle.low_blocks.proofs.SameRuns.Same.{all_meet}
use Rattle.low_blocks.proofs.SameRuns.Start.{texts_size, start_texts}

-- a program that ends as flat code does
record EndsAlike (w : World) (r : End × List ℕ) (r' : flat.Result) : Type 0 where
  ends : r'.0 ≡ flat_end r.0
  world : r'.1.world ≡ World_after w r.1

meets_ends : (w : World) (scope : Scope) (r : Result) (r' : flat.Result) → Meets w scope r r' →
    EndsAlike w (ended r) (flat_run.ended (caught r'))
meets_ends w scope r r' (goes_on v s e f h) = rw (e, f) (record { ends = refl; world = h.world })
meets_ends w scope r r' (exits k v s e f h) = rw (e, f) (record { ends = refl; world = h })
meets_ends w scope r r' (spent v s e f h) = rw (e, f) (record { ends = refl; world = h })

-- nothing was declared or put out yet
abbrev nothing_done : State
nothing_done = record { variables = []; output = [] }

run_does : (args : ℕ) (p : Program) (n : ℕ) → run args p n ≡ ended (does args n (body_of p) nothing_done)
run_does args (exit_of e) n = refl
run_does args (block_of ss) n = refl

-- the strings end below the arguments
abbrev pub HasFewTexts : Program → Type 0
HasFewTexts p = data_start + texts_size (program_texts p) ≤ arguments_start

module _ (p : Program) (few : HasFewTexts p) (args : List (List ℕ)) (input : List ℕ) (fill n : ℕ) where
  abbrev w : World
  w = start_world (lowered p) args input fill

  alike : EndsAlike w (run (length args) p n) (flat_run.run (lowered p) args input fill n)
  alike =
      let s : flat.State = record (before_calls w) { cost = _; most = _ } in
      rw (run_does (length args) p n)
      (meets_ends w _ _ _ (all_meet (lowered p) w (length args) refl refl refl refl n start (body_of p) nothing_done (stepped 1 s)
      (record { some = omega arith; below = tt }) (start_texts (lowered p).functions (program_texts p) fill args few)
      (record { holds = tt; world = refl })))

pub does_the_same : (p : Program) → HasFewTexts p → DoesTheSame p (lowered p)
does_the_same p few = record {
  ends = λ args input fill n. (alike p few args input fill n).ends;
  outputs = λ args input fill n. ap (λ (x : World). x.output) (alike p few args input fill n).world;
  inputs = λ args input fill n. ap (λ (x : World). x.input) (alike p few args input fill n).world;
}
