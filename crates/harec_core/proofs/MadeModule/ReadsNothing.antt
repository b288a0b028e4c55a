-- The module of a program of the class reads nothing: wherever the program comes, all of the input is left.
use Rattle.std.proofs.Common.{◌≡◌, ℕ, ◌+◌, ◌<◌, ◌≤◌, List, [], ◌∷◌, ◌++◌, length, refl, sym, ap, ◌∙◌, subst, inl, inr, arith, length-append}
use Rattle.flat_code.specs.declared.program.FlatProgram.{FlatProgram}
use Rattle.flat_code.specs.Run as flat
use Rattle.hare_blocks.specs.Evaluation.{End, Exit, Spent, run}
use Rattle.hare_blocks.specs.Trees.{Program}
use Rattle.il_code.specs.declared.types.Module.{Module}
use Rattle.il_code.specs.Machine as machine
use Rattle.il_code.specs.MachineLaws.{InputIsTaken, MeetsEnd, input_of, with_input}
use Rattle.il_code.specs.Run.{Run, machine, run_to, start}
use Rattle.il_code.proofs.Budgets.{less, most, order_of, run_to-on}
use Rattle.il_code.proofs.Steps.{done_is_kept}
use Rattle.il_emit.specs.Reaches.{Reaches, Arrives, end_for}
use Rattle.low_blocks.specs.Agreement.{DoesTheSame, flat_end}
use Rattle.low_blocks.specs.Shape.{CostsLittle}
use Rattle.harec_core.specs.Jobs.{ReadsNothing}
use Rattle.harec_core.proofs.MadeModule.Backward.{later_same, none_begun}
use Rattle.harec_core.proofs.EndsOfRuns.Unread.{none_in_front, start_input, start_other}

-- an input with a byte
abbrev byte : List ℕ
byte = 0 ∷ []

module _ (law : InputIsTaken) (m : Module) (args : List (List ℕ)) (fill : ℕ) where
  -- what is left with some budget was left with every smaller one
  left_before :
      (n k : ℕ) → n ≤ k → input_of (machine m args byte fill k) ≡ byte → input_of (machine m args byte fill n) ≡ byte
  left_before n k l kept =
      let s = start m args byte fill in
      let r = run_to m n s in
      let a = law m s n in
      let b = law m r k in
      let on : input_of (run_to m k r) ≡ byte = ap input_of (run_to-on m n k s l) ∙ kept in
      let all : length a.taken + length (input_of r) ≡ 1 =
      sym (length-append a.taken (input_of r)) ∙ ap length (a.rest ∙ start_input m args fill byte) in
      let rest : length b.taken + 1 ≡ length (input_of r) =
      ap (λ (y : List ℕ). length b.taken + length y) (sym on) ∙ sym (length-append b.taken (input_of (run_to m k r))) ∙ ap length b.rest in
      let none = no_bytes a.taken (omega (arith, all, rest)) in
      let here : [] ++ input_of r ≡ input_of s = subst (λ (y : List ℕ). y ++ input_of r ≡ input_of s) none a.rest in
      here ∙ start_input m args fill byte
    where
      no_bytes : (ys : List ℕ) → length ys ≡ 0 → ys ≡ []
      no_bytes [] e = refl
      no_bytes (y ∷ ys) e = absurd (omega (arith, e))

  -- a run that leaves it all is the same on every input
  same_on_any :
      (n : ℕ) → input_of (machine m args byte fill n) ≡ byte → (other : List ℕ)
      → machine m args other fill n ≡ with_input (machine m args byte fill n) other
  same_on_any n kept other =
      let s = start m args byte fill in
      let a = law m s n in
      let first = start_input m args fill byte in
      let whole : a.taken ++ byte ≡ byte = ap (λ (y : List ℕ). a.taken ++ y) (sym kept) ∙ a.rest ∙ first in
      let none = none_in_front a.taken byte whole in
      let never : ¬ MeetsEnd m n s = λ met. some (sym kept ∙ a.all met) in
      let same : run_to m n (with_input s ([] ++ other)) ≡ with_input (run_to m n s) other =
      subst (λ (y : List ℕ). run_to m n (with_input s (y ++ other)) ≡ with_input (run_to m n s) other) none (a.same never other) in
      ap (run_to m n) (sym (start_other m args fill byte other)) ∙ same
    where
      some : byte ≡ [] → ⊥
      some e = cc

-- the module of flat code that does what the program does reads nothing
pub reads_nothing :
    InputIsTaken → (p : Program) (f : FlatProgram) (m : Module) → CostsLittle f → DoesTheSame p f → Reaches f m → ReadsNothing m
reads_nothing law p f m costs does reaches args input other fill n =
    same_on_any law m args fill n kept other
    ∙ ap (λ (r : Run). with_input r other) (sym (same_on_any law m args fill n kept input))
  where
    -- where the program's run of so many turns comes, the input is left
    arrived : Arrives m args byte fill (n + 1) (flat.run f args byte fill (n + 1)) → input_of (machine m args byte fill n) ≡ byte
    arrived a = elim (order_of m a.budget n) [
      | most l ↦ left_before law m args fill n a.budget l left
      | less l ↦ over (run (length args) p (n + 1)).0 (does.ends args byte fill (n + 1)) l
    ]
      where
        left : input_of (machine m args byte fill a.budget) ≡ byte
        left = sym a.world.input ∙ does.inputs args byte fill (n + 1)

        over :
            (end : End) → (flat.run f args byte fill (n + 1)).0 ≡ flat_end end → a.budget < n
            → input_of (machine m args byte fill n) ≡ byte
        over (Exit status) e l =
            let ended = a.ended ∙ ap end_for e in
            ap input_of (later_same m args byte fill a.budget n (machine.Exit status) (omega (arith, l)) ended) ∙ left
        over Spent e l =
            let few = done_is_kept.few m (start m args byte fill) a.budget in
            absurd (omega (arith, few, none_begun m args byte fill, a.jumps e, l))

    kept : input_of (machine m args byte fill n) ≡ byte
    kept = elim (reaches args byte fill (n + 1)) [
      | inl a ↦ arrived a
      | inr o ↦ absurd (omega (arith, o.cost, costs.most args byte fill (n + 1)))
    ]
