-- What comes of a run: how it ended, or why it did not.
use Rattle.std.proofs.Common.{◌≡◌, ℕ, ◌+◌, ◌≤◌, List, [], ◌++◌, Option, None, Some, refl, sym, ap, ◌∙◌, subst, inl, inr, arith}
use Rattle.std.specs.Prelude.{Ok}
use Rattle.std.specs.Io.KnownBytes.{Appends, Consumes}
use Rattle.il_code.specs.declared.types.Module.{Module}
use Rattle.il_code.specs.Machine as machine
use Rattle.il_code.specs.MachineLaws.{input_of, output_of, with_input}
use Rattle.il_code.specs.Run.{Run, end_of, resumed}
use Rattle.il_step.specs.declared.end.End.{End}
use Rattle.il_step.specs.declared.end.End.TheVariants.{Exit, Abort, Fault, StackFull, Spent, ReadFault, WriteFault, Memory}
use Rattle.il_step.specs.declared.progress.Progress.{Progress}
use Rattle.il_step.specs.declared.progress.Progress.TheVariants as progress
use Rattle.il_step.specs.Ends.{answer_of, abort_text, text_of}
use Rattle.il_step.specs.Runs.{NoneFailed, IsLeft, IsRead, IsWritten, Arrives, Pauses, Leads, IsAnswerAt, AreBegun, after_inputs}
use Rattle.il_step.specs.Stands.{Reached, StandsAt, IsAt}
use Rattle.harec_core.specs.declared.done.Done.TheVariants as done
use Rattle.harec_core.specs.Answers.{Call, IsJobOf, EndedIn}
use Rattle.harec_core.specs.Jobs.{Job, begun, result_on, ReadsNothing, outside_before, outside_now, EndsOn, LeadsTo, Answered}
use Rattle.harec_core.specs.Outside.{Received, Sent}
use Rattle.harec_core.specs.Stages.{IsFound}
use Rattle.harec_core.proofs.EndsOfRuns.Unread.{none_in_front, start_input, start_output, start_used, resumed_start, led_to}

-- ---- ends

-- the end for an answer, with this text where it is an abort
abbrev end_with : End → List ℕ → machine.End
end_with (Exit status) text = machine.Exit status
end_with Abort text = machine.Abort text
end_with (Fault f) text = machine.Fault f
end_with StackFull text = machine.StackFull
end_with Spent text = machine.Spent
end_with ReadFault text = machine.Spent
end_with WriteFault text = machine.Spent
end_with Memory text = machine.Spent

-- a run with this answer and this text of an abort ends so
same_end : (e : End) (text : List ℕ) (r : Run) → e ≡ answer_of (end_of r) → abort_text r ≡ text → end_of r ≡ end_with e text
same_end e text r a t = pick r.ended refl
  where
    pick : (o : Option machine.End) → r.ended ≡ o → end_of r ≡ end_with e text
    pick None h =
        let x : end_of r ≡ machine.Spent = ap (λ (o : Option machine.End). end_of (record r { ended = o })) h in
        let q : e ≡ Spent = a ∙ ap answer_of x in
        rw q x
    pick (Some (machine.Exit k)) h =
        let x : end_of r ≡ machine.Exit k = ap (λ (o : Option machine.End). end_of (record r { ended = o })) h in
        let q : e ≡ Exit k = a ∙ ap answer_of x in
        rw q x
    pick (Some (machine.Abort s)) h =
        let x : end_of r ≡ machine.Abort s = ap (λ (o : Option machine.End). end_of (record r { ended = o })) h in
        let q : e ≡ Abort = a ∙ ap answer_of x in
        let same : s ≡ text = sym (ap text_of h) ∙ t in
        rw q (x ∙ ap machine.Abort same)
    pick (Some (machine.Fault f)) h =
        let x : end_of r ≡ machine.Fault f = ap (λ (o : Option machine.End). end_of (record r { ended = o })) h in
        let q : e ≡ Fault f = a ∙ ap answer_of x in
        rw q x
    pick (Some machine.StackFull) h =
        let x : end_of r ≡ machine.StackFull = ap (λ (o : Option machine.End). end_of (record r { ended = o })) h in
        let q : e ≡ StackFull = a ∙ ap answer_of x in
        rw q x
    pick (Some machine.Spent) h =
        let x : end_of r ≡ machine.Spent = ap (λ (o : Option machine.End). end_of (record r { ended = o })) h in
        let q : e ≡ Spent = a ∙ ap answer_of x in
        rw q x

-- runs at which one machine stands have aborted with one text
same_text : (m : Module) (a : Reached) (r s : Run) → StandsAt m a r → StandsAt m a s → abort_text r ≡ abort_text s
same_text m a r s h k = pick a.progress h.at k.at
  where
    pick : (p : Progress) → IsAt m p r → IsAt m p s → abort_text r ≡ abort_text s
    pick (progress.Live l) x y = ap text_of x.0 ∙ sym (ap text_of y.0)
    pick (progress.Ended e) x y = ap text_of x ∙ sym (ap text_of y)
    pick (progress.Aborted text) x y = ap text_of x ∙ sym (ap text_of y)
    pick progress.Broken x y = absurd x

-- ---- bytes

-- what is added to no output is all of it
all_added : (from to : Run) (bytes : List ℕ) → output_of from ≡ [] → output_of from ++ bytes ≡ output_of to → bytes ≡ output_of to
all_added from to bytes none added = rw none at added

-- an input loses nothing if it loses nothing where it tells what it has left
nothing_lost :
    (before now : Option (List ℕ))
    → ((left : List ℕ) → before ≡ Some left → (bytes : List ℕ) × (bytes ++ left ≡ left) × Consumes before now bytes)
    → Consumes before now []
nothing_lost None now told = tt
nothing_lost (Some left) now told =
    let (bytes, same, lost) = told left refl in
    subst (Consumes (Some left) now) (none_in_front bytes left same) lost

-- ---- a run that came to an end

module _ (j : Job) (input : Received) (out : Sent) (a : Reached) (e : End) where
  -- what is told of a machine that answered an end
  record IsOver : Type 0 where
    none : NoneFailed (outside_before input out) (outside_now input out)
    arrives :
        (bytes : List ℕ) → IsLeft input.before bytes
        → Arrives (StandsAt j.program a) j.program j.units (begun j bytes) e (outside_before input out) (outside_now input out)
    leads :
        (bytes : List ℕ)
        → Leads (StandsAt j.program a) j.program j.units (begun j bytes) e (outside_before input out) (outside_now input out)
    fits : (n : ℕ) (r : Run) → IsAnswerAt j.program n r e → (e ≡ answer_of (end_of r)) × (r.ended ≡ None → n ≤ r.used)
    back : (text : List ℕ) (n : ℕ) (r : Run) → IsAnswerAt j.program n r e → IsAnswerAt j.program n r (answer_of (end_with e text))

  module _ (o : IsOver) where
    -- a run at which the machine stands, and the text of its abort
    abbrev led : Run
    led = after_inputs j.program (o.leads []).inputs (begun j [])

    abbrev led_text : List ℕ
    led_text = abort_text led

    -- each run at which it stands, and whose answer this is, has this end
    ends_so : (r : Run) → StandsAt j.program a r → e ≡ answer_of (end_of r) → end_of r ≡ end_with e led_text
    ends_so r s is = same_end e led_text r is (same_text j.program a r led s (o.leads []).stands)

    -- on the input that is left
    ends_told : (bytes : List ℕ) → IsLeft input.before bytes → EndsOn j input out (end_with e led_text) bytes
    ends_told bytes left =
        let arr = o.arrives bytes left in
        let same : resumed j.program j.units (begun j bytes) ≡ result_on j bytes = resumed_start j.program j.args j.fill bytes j.units in
        let stands = subst (StandsAt j.program a) same arr.stands in
        let answer = subst (λ (r : Run). e ≡ answer_of (end_of r)) same arr.answer in
        let written = subst (λ (r : Run). IsWritten (begun j bytes) r (outside_before input out) (outside_now input out)) same
        arr.happens.written in
        let read = subst (λ (r : Run). IsRead (begun j bytes) r (outside_before input out) (outside_now input out)) same
        arr.happens.read in
        let all = all_added (begun j bytes) (result_on j bytes) written.bytes (start_output j.program j.args j.fill bytes) written.added in
        record {
          is = ends_so (result_on j bytes) stands answer;
          sent = record { stands = o.none.write; written = subst (Appends out.before out.now) all written.put };
          taken = read.bytes;
          front = read.taken ∙ start_input j.program j.args j.fill bytes;
          lost = read.lost;
        }

    module _ (unread : ReadsNothing j.program) where
      -- a module that reads nothing took none of the input that is left
      none_taken : Consumes input.before input.now []
      none_taken = nothing_lost input.before input.now told
        where
          told :
              (left : List ℕ) → input.before ≡ Some left
              → (bytes : List ℕ) × (bytes ++ left ≡ left) × Consumes input.before input.now bytes
          told left is =
              let read = ends_told left is in
              let kept : input_of (result_on j left) ≡ left = ap input_of (unread j.args [] left j.fill j.units) in
              (read.taken, ap (λ (l : List ℕ). read.taken ++ l) (sym kept) ∙ read.front, read.lost)

      -- and it ends so on every input
      ends_alike : (bytes : List ℕ) → EndsOn j input out (end_with e led_text) bytes
      ends_alike bytes =
          let l = o.leads bytes in
          let to = after_inputs j.program l.inputs (begun j bytes) in
          let none = start_used j.program j.args j.fill bytes in
          let sum : (begun j bytes).used + j.units ≡ j.units = omega (arith, none) in
          let begins = subst (λ (n : ℕ). AreBegun j.program n l.inputs (begun j bytes)) sum l.begun in
          let fits = o.fits _ to l.answer in
          let over : to.ended ≡ None → j.units ≤ to.used = λ h. subst (λ (n : ℕ). n ≤ to.used) sum (fits.1 h) in
          let same : result_on j bytes ≡ with_input to bytes =
          led_to j.program j.args j.fill unread j.units l.inputs bytes bytes begins over in
          let all = all_added (begun j bytes) to l.written.bytes (start_output j.program j.args j.fill bytes) l.written.added in
          let put = subst (Appends out.before out.now) (all ∙ sym (ap output_of same)) l.written.put in
          record {
            is = ap end_of same ∙ ends_so to l.stands fits.0;
            sent = record { stands = o.none.write; written = put };
            taken = [];
            front = ap input_of same;
            lost = none_taken;
          }

    -- whatever the input tells, steps lead to this end
    leads_so : LeadsTo j input out (end_with e led_text)
    leads_so bytes =
        let l = o.leads bytes in
        let to = after_inputs j.program l.inputs (begun j bytes) in
        record {
          inputs = l.inputs;
          begun = l.begun;
          stands = ends_so to l.stands (o.fits _ to l.answer).0;
          answer = o.back led_text _ to l.answer;
          written = l.written;
        }

-- the run of a command ended so
ended_in :
    (c : Call) (j : Job) (a : Reached) (e : End) → IsJobOf c j → (o : IsOver j c.input c.out a e)
    → EndedIn c (end_with e (led_text j c.input c.out a e o))
ended_in c j a e asked o = record {
  job = j;
  asked = asked;
  input = o.none.read;
  out = o.none.write;
  ends = λ bytes h. elim h [ inl left ↦ ends_told j c.input c.out a e o bytes left | inr unread ↦ ends_alike j c.input c.out a e o unread bytes ];
  leads = leads_so j c.input c.out a e o;
}

-- ---- a run that did not

-- the machine wanted memory; where it stands does not matter any more
paused :
    (j : Job) (input : Received) (out : Sent) (a : Reached) → Answered j input out (StandsAt j.program a) Memory
    → Answered j input out (λ (r : Run). Unit {0}) Memory
paused j input out a h = record { counts = h.counts; told = told; any = any }
  where
    told :
        (bytes : List ℕ) → IsLeft input.before bytes
        → Pauses (λ (r : Run). Unit {0}) j.program j.units (begun j bytes) (outside_before input out) (outside_now input out)
    told bytes left =
        let p = h.told bytes left in
        record { count = p.count; going = p.going; wants = p.wants; stands = tt; happens = p.happens }

    any :
        (bytes : List ℕ)
        → Leads (λ (r : Run). Unit {0}) j.program j.units (begun j bytes) Memory (outside_before input out) (outside_now input out)
    any bytes =
        let l = h.any bytes in
        record { inputs = l.inputs; begun = l.begun; stands = tt; answer = l.answer; written = l.written }

-- ---- what is found of a run

module _ (c : Call) (paths : List (List ℕ)) (j : Job) (asked : IsJobOf c j) (a : Reached) where
  -- what a machine answered is the cause of what is found
  pub run_found :
      (e : End) → Answered j c.input c.out (StandsAt j.program a) e
      → IsFound c paths (Ok (done.Ended (record { end = e; machine = a })))
  run_found (Exit status) h =
      let o : IsOver j c.input c.out a (Exit status) =
      record { none = h.counts; arrives = h.told; leads = h.any; fits = λ n r k. k; back = λ text n r k. k } in
      record { cause = ended_in c j a (Exit status) asked o; text = []; line = tt; aborts = tt }
  run_found Abort h =
      let o : IsOver j c.input c.out a Abort =
      record { none = h.counts; arrives = h.told; leads = h.any; fits = λ n r k. k; back = λ text n r k. k } in
      let ended = ended_in c j a Abort asked o in
      record {
        cause = (led_text j c.input c.out a Abort o, ended);
        text = led_text j c.input c.out a Abort o;
        line = (j.program, led j c.input c.out a Abort o, (o.leads []).stands, refl);
        aborts = ended;
      }
  run_found (Fault f) h =
      let o : IsOver j c.input c.out a (Fault f) =
      record { none = h.counts; arrives = h.told; leads = h.any; fits = λ n r k. k; back = λ text n r k. k } in
      record { cause = ended_in c j a (Fault f) asked o; text = []; line = tt; aborts = tt }
  run_found StackFull h =
      let o : IsOver j c.input c.out a StackFull =
      record { none = h.counts; arrives = h.told; leads = h.any; fits = λ n r k. k; back = λ text n r k. k } in
      record { cause = ended_in c j a StackFull asked o; text = []; line = tt; aborts = tt }
  run_found Spent h =
      let o : IsOver j c.input c.out a Spent =
      record { none = h.counts; arrives = h.told; leads = h.any; fits = λ n r k. k; back = λ text n r k. k } in
      record { cause = ended_in c j a Spent asked o; text = []; line = tt; aborts = tt }
  run_found ReadFault h = record {
    cause = record { job = j; asked = asked; answered = record { counts = h.counts; told = h.told; any = h.any } };
    text = [];
    line = tt;
    aborts = tt;
  }
  run_found WriteFault h = record {
    cause = inr (inl (record { job = j; asked = asked; answered = record { counts = h.counts; told = h.told; any = h.any } }));
    text = [];
    line = tt;
    aborts = tt;
  }
  run_found Memory h = record {
    cause = inr (record { job = j; asked = asked; answered = paused j c.input c.out a h });
    text = [];
    line = tt;
    aborts = tt;
  }
