-- What a call comes to by the function that it calls, whose arguments are those at their places.
use Rattle.std.proofs.Common.{◌≡◌, ℕ, List, [], ◌∷◌, Option, sym, subst}
use Rattle.std.specs.Prelude.{slice_index_or, Result, Ok}
use Rattle.std.specs.declared.alloc.AllocError.{AllocError}
use Rattle.hx_base.specs.Runtime.{World}
use Rattle.hx_runtime.specs.declared.runtime.RuntimeFunction.{RuntimeFunction}
use Rattle.hx_runtime.specs.declared.runtime.RuntimeFunction.TheVariants as function
use Rattle.il_mem.specs.Kept.{Kept}
use Rattle.il_acts.specs.declared.acted.Acted.{Acted}
use Rattle.il_acts.specs.Blocks.{Blocks}
use Rattle.il_acts.specs.Outside.{Streams}
use Rattle.il_acts.specs.Acts.{IsKept, Left, Answers, AnswersAlone, AnswersCounting, AnswersByPutting, AnswersByTaking}

-- what is answered for some arguments is so for others
abbrev pub Carries : RuntimeFunction → (xs args : List ℕ) → Type 0
Carries f xs args = (l : Left) (w : World) (r : Result Acted AllocError) → Answers l f xs w r → Answers l f args w r

-- ---- arguments at their places

module _ (args : List ℕ) (a : ℕ) (one : a ≡ slice_index_or args 0 0) where
  pub malloc_args : Carries function.Malloc (a ∷ []) args
  malloc_args l w r h = subst (λ (x : ℕ). Answers l function.Malloc (x ∷ []) w r) one h

  pub free_args : Carries function.Free (a ∷ []) args
  free_args l w r h = subst (λ (x : ℕ). Answers l function.Free (x ∷ []) w r) one h

  pub exit_args : Carries function.Exit (a ∷ []) args
  exit_args l w r h = subst (λ (x : ℕ). Answers l function.Exit (x ∷ []) w r) one h

  pub arg_args : Carries function.Arg (a ∷ []) args
  arg_args l w r h = subst (λ (x : ℕ). Answers l function.Arg (x ∷ []) w r) one h

  module _ (b : ℕ) (two : b ≡ slice_index_or args 1 0) where
    pub puts_args : Carries function.Puts (a ∷ b ∷ []) args
    puts_args l w r h =
        subst (λ (y : ℕ). Answers l function.Puts (slice_index_or args 0 0 ∷ y ∷ []) w r) two
        (subst (λ (x : ℕ). Answers l function.Puts (x ∷ b ∷ []) w r) one h)

    pub write_args : Carries function.Write (a ∷ b ∷ []) args
    write_args l w r h =
        subst (λ (y : ℕ). Answers l function.Write (slice_index_or args 0 0 ∷ y ∷ []) w r) two
        (subst (λ (x : ℕ). Answers l function.Write (x ∷ b ∷ []) w r) one h)

    pub read_args : Carries function.Read (a ∷ b ∷ []) args
    read_args l w r h =
        subst (λ (y : ℕ). Answers l function.Read (slice_index_or args 0 0 ∷ y ∷ []) w r) two
        (subst (λ (x : ℕ). Answers l function.Read (x ∷ b ∷ []) w r) one h)

    pub abort_args : Carries function.Abort (a ∷ b ∷ []) args
    abort_args l w r h =
        subst (λ (y : ℕ). Answers l function.Abort (slice_index_or args 0 0 ∷ y ∷ []) w r) two
        (subst (λ (x : ℕ). Answers l function.Abort (x ∷ b ∷ []) w r) one h)

    module _ (c : ℕ) (three : c ≡ slice_index_or args 2 0) where
      pub move_args : Carries function.Move (a ∷ b ∷ c ∷ []) args
      move_args l w r h =
          subst (λ (z : ℕ). Answers l function.Move (slice_index_or args 0 0 ∷ slice_index_or args 1 0 ∷ z ∷ []) w r) three
          (subst (λ (y : ℕ). Answers l function.Move (slice_index_or args 0 0 ∷ y ∷ c ∷ []) w r) two
          (subst (λ (x : ℕ). Answers l function.Move (x ∷ b ∷ c ∷ []) w r) one h))

      pub same_args : Carries function.Same (a ∷ b ∷ c ∷ []) args
      same_args l w r h =
          subst (λ (z : ℕ). Answers l function.Same (slice_index_or args 0 0 ∷ slice_index_or args 1 0 ∷ z ∷ []) w r) three
          (subst (λ (y : ℕ). Answers l function.Same (slice_index_or args 0 0 ∷ y ∷ c ∷ []) w r) two
          (subst (λ (x : ℕ). Answers l function.Same (x ∷ b ∷ c ∷ []) w r) one h))

-- ---- the function that is called

module _ (f g : RuntimeFunction) (called : f ≡ g) (xs args : List ℕ) (carries : Carries g xs args) where
  named : (l : Left) (w : World) (r : Result Acted AllocError) → Answers l g xs w r → Answers l f args w r
  named l w r h = subst (λ (x : RuntimeFunction). Answers l x args w r) (sym called) (carries l w r h)

  pub called_alone : (it it' : Kept) (h h' : Blocks) (s : Streams) (k : ℕ) (r : Result Acted AllocError) → AnswersAlone it it' h h' g xs r →
      (w : World) → IsKept it h k w →
      Answers (record { memory = it'; heap = h'; arguments = k; before = s; now = s }) f args w r
  called_alone it it' h h' s k r answers w kept =
      named (record { memory = it'; heap = h'; arguments = k; before = s; now = s }) w r (answers s k w kept)

  pub called_counting : (it : Kept) (h : Blocks) (s : Streams) (k : ℕ) (a : Acted) → AnswersCounting k g xs a → (w : World) →
      IsKept it h k w → Answers (record { memory = it; heap = h; arguments = k; before = s; now = s }) f args w (Ok a)
  called_counting it h s k a answers w kept =
      named (record { memory = it; heap = h; arguments = k; before = s; now = s }) w (Ok a) (answers it h s w kept)

  pub called_taking : (it it' : Kept) (h : Blocks) (left left' written : Option (List ℕ)) (k : ℕ) (r : Result Acted AllocError) →
      AnswersByTaking it it' left left' g xs r → (w : World) → IsKept it h k w → Answers (record {
        memory = it';
        heap = h;
        arguments = k;
        before = record { left = left; written = written };
        now = record { left = left'; written = written };
      }) f args w r
  called_taking it it' h left left' written k r answers w kept = named (record {
    memory = it';
    heap = h;
    arguments = k;
    before = record { left = left; written = written };
    now = record { left = left'; written = written };
  }) w r (answers written h k w kept)

  pub called_putting : (it : Kept) (h : Blocks) (left written written' : Option (List ℕ)) (k : ℕ) (a : Acted) →
      AnswersByPutting it written written' g xs a → (w : World) → IsKept it h k w → Answers (record {
        memory = it;
        heap = h;
        arguments = k;
        before = record { left = left; written = written };
        now = record { left = left; written = written' };
      }) f args w (Ok a)
  called_putting it h left written written' k a answers w kept = named (record {
    memory = it;
    heap = h;
    arguments = k;
    before = record { left = left; written = written };
    now = record { left = left; written = written' };
  }) w (Ok a) (answers left h k w kept)
