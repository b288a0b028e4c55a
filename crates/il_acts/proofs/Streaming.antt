-- What the calls that put to the output or take of the input come to.
use Rattle.std.proofs.Common.{◌≡◌, ◌≢◌, ℕ, ◌+◌, ◌-◌, ◌<◌, ◌≤◌, Bool, true, false, List, [], ◌∷◌, ◌++◌, length, drop, Option, Some, refl, sym, ap, ◌∙◌, subst, arith}
use Rattle.std.proofs.lemmas.List.{length-append}
use Rattle.std.specs.Prelude.{Result, Ok, Err, OnOk, OnErr, is_err}
use Rattle.std.specs.declared.alloc.AllocError.{AllocError}
use Rattle.std.specs.Io.KnownBytes.{Appends, Consumes, IsAtEnd}
use Rattle.std.proofs.KnownBytes.{Appends-trans, Consumes-trans, Keeps-refl}
use Rattle.hx_base.specs.Memory.{Memory, all_mapped, bytes_at, write, move}
use Rattle.hx_base.specs.Runtime as runtime
use Rattle.hx_base.specs.Runtime.{World, Act, put, read}
use Rattle.hx_base.proofs.Memory.Ranges.{length-bytes_at, bytes_at-append, all_mapped-part}
use Rattle.hx_base.proofs.Memory.Mapped.{all_mapped-write}
use Rattle.hx_io.specs.Fronts.{AppendsFront}
use Rattle.hx_runtime.specs.declared.runtime.RuntimeFunction.TheVariants as function
use Rattle.il_mem.specs.declared.stop.MemStop.{MemStop}
use Rattle.il_mem.specs.declared.stop.MemStop.TheVariants as stop
use Rattle.il_mem.specs.Kept.{Kept}
use Rattle.il_mem.specs.Holds as memory
use Rattle.il_mem.specs.Holds.{Holds, Changes, AllHeld, AddsPages}
use Rattle.il_mem.specs.Touched.{HoldsTouched}
use Rattle.il_mem.proofs.TouchedLemmas.{written_held, lacks_one, fresh}
use Rattle.il_acts.specs.declared.acted.Acted.{Acted}
use Rattle.il_acts.specs.declared.acted.Acted.TheVariants as acted
use Rattle.il_acts.specs.declared.acted.RuntimeFault.TheVariants as fault
use Rattle.il_acts.specs.Acts.{Does, AnswersByPutting, AnswersByTaking}
use Rattle.il_acts.specs.Filling.{Filled, FilledAll}
use Rattle.il_acts.proofs.Parts.{holds_over, holds_two, move_over}
use Rattle.il_acts.proofs.Touched.{touched_two}
use Rattle.il_acts.proofs.Passing.{finds_any, takes_none, puts_none, input_of, front_more, front_wider}
use Rattle.il_acts.proofs.Answering.{with_input, kept_input}

-- ---- output

-- the part of a range behind so many bytes
pub bytes_more : (m : Memory) (at done len : ℕ) (xs ys : List ℕ) → xs ≡ bytes_at m at done → ys ≡ bytes_at m (at + done) len →
    xs ++ ys ≡ bytes_at m at (done + len)
bytes_more m at done len xs ys e f = rw (e, f) (sym (bytes_at-append m at done len))

-- a piece more was put
pub appends_more : (a b c : Option (List ℕ)) (m : Memory) (at done len : ℕ) (piece : List ℕ) → Appends a b (bytes_at m at done) →
    Appends b c piece → piece ≡ bytes_at m (at + done) len → Appends a c (bytes_at m at (done + len))
appends_more a b c m at done len piece p q e =
    subst (Appends a c) (bytes_more m at done len (bytes_at m at done) piece refl e) (Appends-trans a b c (bytes_at m at done) piece p q)

-- a front of a piece more was put
pub appends_front : (a b c : Option (List ℕ)) (m : Memory) (at done len n : ℕ) (piece : List ℕ) → Appends a b (bytes_at m at done) →
    AppendsFront b c piece → piece ≡ bytes_at m (at + done) len → done + len ≤ n → AppendsFront a c (bytes_at m at n)
appends_front a b c m at done len n piece p q e few =
    let front = subst (AppendsFront a c) (bytes_more m at done len (bytes_at m at done) piece refl e)
    (front_more a b c (bytes_at m at done) piece p q) in
    let wider = front_wider a c (bytes_at m at (done + len)) (bytes_at m (at + (done + len)) (n - (done + len))) front in
    let all : done + len + (n - (done + len)) ≡ n = omega (arith, few) in
    let whole : bytes_at m at (done + len) ++ bytes_at m (at + (done + len)) (n - (done + len)) ≡ bytes_at m at n =
    sym (bytes_at-append m at (done + len) (n - (done + len))) ∙ ap (bytes_at m at) all in
    subst (AppendsFront a c) whole wider

-- a piece of a mapped range is mapped
pub piece_mapped : (m : Memory) (at n done len : ℕ) → all_mapped m at n ≡ true → done + len ≤ n → all_mapped m (at + done) len ≡ true
piece_mapped m at n done len e few = all_mapped-part m at n (at + done) len e (omega arith) (omega (arith, few))

module _ (it : Kept) (written written' : Option (List ℕ)) (at n : ℕ) where
  pub put_done : ((m : Memory) → Holds it m → (all_mapped m at n ≡ true) × Appends written written' (bytes_at m at n)) →
      AnswersByPutting it written written' function.Puts (at ∷ n ∷ []) (acted.Gives 0 n)
  put_done does left h k w kept =
      let d = does w.memory kept.memory in
      finds_any left (λ input. Does (record {
        memory = it;
        heap = h;
        arguments = k;
        before = record { left = left; written = written };
        now = record { left = left; written = written' };
      }) function.Puts (at ∷ n ∷ []) (with_input w input) (acted.Gives 0 n)) (λ input. record {
        to = record w { input = input; output = w.output ++ bytes_at w.memory at n };
        is = rw d.0 refl;
        leaves = record {
          kept = record { memory = kept.memory; pages = kept.pages; heap = kept.heap; arguments = kept.arguments };
          read = takes_none input left;
          written = record { bytes = bytes_at w.memory at n; added = refl; put = d.1 };
        };
      })

  -- a write failed
  pub put_fails : 0 < n → ((m : Memory) → Holds it m → (all_mapped m at n ≡ true) × AppendsFront written written' (bytes_at m at n)) →
      AnswersByPutting it written written' function.Puts (at ∷ n ∷ []) acted.WriteFault
  put_fails some does left h k w kept =
      let d = does w.memory kept.memory in
      finds_any left (λ input. Does (record {
        memory = it;
        heap = h;
        arguments = k;
        before = record { left = left; written = written };
        now = record { left = left; written = written' };
      }) function.Puts (at ∷ n ∷ []) (with_input w input) acted.WriteFault) (λ input. record {
        value = 0;
        moved = n;
        to = record w { input = input; output = w.output ++ bytes_at w.memory at n };
        is = rw d.0 refl;
        bytes = bytes_at w.memory at n;
        some = λ none. (let size = length-bytes_at w.memory at n in let zero = ap length none in absurd (omega (arith, size, zero, some)));
        added = refl;
        front = d.1;
        taken = Keeps-refl left;
      })

-- not all bytes are mapped
pub put_wild : (it : Kept) (written : Option (List ℕ)) (at n : ℕ) → ((m : Memory) → Holds it m → all_mapped m at n ≡ false) →
    AnswersByPutting it written written function.Puts (at ∷ n ∷ []) (acted.Faults fault.Wild)
put_wild it written at n does left h k w kept =
    let d = does w.memory kept.memory in
    finds_any left (λ input. Does (record {
      memory = it;
      heap = h;
      arguments = k;
      before = record { left = left; written = written };
      now = record { left = left; written = written };
    }) function.Puts (at ∷ n ∷ []) (with_input w input) (acted.Faults fault.Wild)) (λ input. record {
      is = rw d refl;
      leaves = record {
        kept = kept_input it h k w input kept;
        read = takes_none input left;
        written = puts_none w.output written;
      };
    })

-- what cannot come
pub put_never : (it : Kept) (written written' : Option (List ℕ)) (at n : ℕ) (a : Acted) → ((m : Memory) → Holds it m → ⊥) →
    AnswersByPutting it written written' function.Puts (at ∷ n ∷ []) a
put_never it written written' at n a never left h k w kept = absurd (never w.memory kept.memory)

-- ---- input

-- nothing is read yet
pub fills_none : (it : Kept) (left : Option (List ℕ)) (at n : ℕ) → Consumes left left [] → Filled it it left left at n 0
fills_none it left at n none = record {
  bytes = [];
  sized = refl;
  fills = record { holds = λ m h e. h; pages = λ m h. h };
  lost = none;
}

-- an answer that is not an error is the one value of its kind, and what holds there is known
pub on_ok : {E P : Type 0} (r : Result (Unit {0}) E) → is_err r ≡ false → OnOk r P → P
on_ok (Ok x) e h = h
on_ok (Err x) e h = cc

pub on_err : {T E P : Type 0} (r : Result T E) → is_err r ≡ true → OnErr r P → P
on_err (Ok x) e h = cc
on_err (Err x) e h = h

-- what a write of a piece came to, where all of it is mapped
put_changes : (it : Kept) (m : Memory) (at : ℕ) (bs : List ℕ) (r : Result (Unit {0}) MemStop) → all_mapped m at (length bs) ≡ true →
    Changes it (memory.put m at bs) r → Changes it (Some (write m at bs)) r
put_changes it m at bs r e c =
    let is : memory.put m at bs ≡ Some (write m at bs) = rw e refl in
    subst (λ (o : Option Memory). Changes it o r) is c

wrote : (it : Kept) (m : Memory) (r : Result (Unit {0}) MemStop) → is_err r ≡ false → Changes it (Some m) r → Holds it m
wrote it m (Ok done) e c = c
wrote it m (Err x) e c = cc

-- a piece more is read and written
pub fills_more : (it it' it'' : Kept) (left left' left'' : Option (List ℕ)) (at n done : ℕ) (piece : List ℕ)
    (r : Result (Unit {0}) MemStop) →
    Filled it it' left left' at n done → done + length piece ≤ n → is_err r ≡ false →
    ((m : Memory) → Holds it' m → Changes it'' (memory.put m (at + done) piece) r) → AddsPages it' it'' (at + done) (length piece) →
    Consumes left' left'' piece → Filled it it'' left left'' at n (done + length piece)
fills_more it it' it'' left left' left'' at n done piece r f few ok changes adds lost =
    let size : at + length f.bytes ≡ at + done = ap (λ (x : ℕ). at + x) f.sized in
    record {
      bytes = f.bytes ++ piece;
      sized = length-append f.bytes piece ∙ ap (λ (x : ℕ). x + length piece) f.sized;
      fills = record {
        holds = λ m h e. holds_two m at f.bytes piece it''
            (subst (λ (x : ℕ). Holds it'' (write (write m at f.bytes) x piece)) (sym size)
            (wrote it'' (write (write m at f.bytes) (at + done) piece) r ok
            (put_changes it'' (write m at f.bytes) (at + done) piece r
            (all_mapped-write m at f.bytes (at + done) (length piece) ∙ piece_mapped m at n done (length piece) e few)
            (changes (write m at f.bytes) (f.fills.holds m h e)))));
        pages = λ m h. touched_two it'' m at f.bytes piece
            (subst (λ (x : ℕ). HoldsTouched it'' (write (write m at f.bytes) x piece)) (sym size)
            (written_held it' it'' (write m at f.bytes) (at + done) (length piece) piece refl (f.fills.pages m h) adds));
      };
      lost = Consumes-trans left left' left'' f.bytes piece f.lost lost;
    }

-- a write of a piece does not stop, where its pages are held
pub write_goes : (it it' it'' : Kept) (left left' : Option (List ℕ)) (at n done : ℕ) (piece : List ℕ) (r : Result (Unit {0}) MemStop) →
    Filled it it' left left' at n done → done + length piece ≤ n → is_err r ≡ true →
    ((m : Memory) → Holds it' m → Changes it'' (memory.put m (at + done) piece) r) → r ≢ Err stop.Memory →
    (m : Memory) → Holds it m → all_mapped m at n ≡ true → ⊥
write_goes it it' it'' left left' at n done piece r f few failed changes held m h mapped =
    stops r failed held
    (put_changes it'' (write m at f.bytes) (at + done) piece r
    (all_mapped-write m at f.bytes (at + done) (length piece) ∙ piece_mapped m at n done (length piece) mapped few)
    (changes (write m at f.bytes) (f.fills.holds m h mapped)))
  where
    stops : (x : Result (Unit {0}) MemStop) → is_err x ≡ true → x ≢ Err stop.Memory →
        Changes it'' (Some (write (write m at f.bytes) (at + done) piece)) x → ⊥
    stops (Ok done) e held c = cc
    stops (Err stop.Wild) e held c = c
    stops (Err stop.Memory) e held c = absurd (held refl)

-- pages of a piece are held where those of the range are
pub piece_held : (it it' : Kept) (at n done len : ℕ) → AllHeld it at n → AddsPages it it' (at + done) len → AllHeld it' at n
piece_held it it' at n done len h adds p met = adds p ∙ rw (h p met) refl

module _ (it it' : Kept) (left left' : Option (List ℕ)) (at n : ℕ) where
  -- the input was read
  pub read_done : (count : ℕ) → ((m : Memory) → Holds it m → all_mapped m at n ≡ true) → FilledAll it it' left left' at n count →
      AnswersByTaking it it' left left' function.Read (at ∷ n ∷ []) (Ok (acted.Gives count count))
  read_done count mapped all written h k w kept =
      let f = all.filled in
      let m = mapped w.memory kept.memory in
      let few : length f.bytes ≤ n = subst (λ (x : ℕ). x ≤ n) (sym f.sized) all.few in
      let end : length f.bytes < n → IsAtEnd left' = λ l. all.end (subst (λ (x : ℕ). x < n) f.sized l) in
      let i = input_of left left' n f.bytes f.lost few end in
      record {
        input = i.input;
        told = i.told;
        does = record {
          to = record w { input = drop n i.input; memory = write w.memory at f.bytes };
          is = rw m (ap (gave w i.input) i.next ∙ counted w i.input f.bytes count f.sized);
          leaves = record {
            kept = record {
              memory = f.fills.holds w.memory kept.memory m;
              pages = f.fills.pages w.memory kept.pages;
              heap = kept.heap;
              arguments = kept.arguments;
            };
            read = record { bytes = f.bytes; taken = i.rest; lost = f.lost };
            written = puts_none w.output written;
          };
        };
      }
    where
      gave : World → List ℕ → List ℕ → Act
      gave w input bytes =
          runtime.Gives (length bytes) (length bytes) (record w { input = drop n input; memory = write w.memory at bytes })

      counted : (w : World) (input bytes : List ℕ) (x : ℕ) → length bytes ≡ x →
          runtime.Gives (length bytes) (length bytes) (record w { input = drop n input; memory = write w.memory at bytes })
          ≡ runtime.Gives x x (record w { input = drop n input; memory = write w.memory at bytes })
      counted w input bytes x e = rw e refl

  -- a read failed
  pub read_fails : 0 < n → ((m : Memory) → Holds it m → all_mapped m at n ≡ true) →
      AnswersByTaking it it' left left' function.Read (at ∷ n ∷ []) (Ok acted.ReadFault)
  read_fails some mapped written h k w kept =
      let m = mapped w.memory kept.memory in
      finds_any left (λ input. Does (record {
        memory = it';
        heap = h;
        arguments = k;
        before = record { left = left; written = written };
        now = record { left = left'; written = written };
      }) function.Read (at ∷ n ∷ []) (with_input w input) acted.ReadFault)
      (λ input. record { asks = rw m some; put = Keeps-refl written })

  -- what cannot come
  pub read_never : (a : Acted) → ((m : Memory) → Holds it m → ⊥) → AnswersByTaking it it' left left' function.Read (at ∷ n ∷ []) (Ok a)
  read_never a never written h k w kept = absurd (never w.memory kept.memory)

-- not all bytes are mapped where they go
pub read_wild : (it : Kept) (left : Option (List ℕ)) (at n : ℕ) → ((m : Memory) → Holds it m → all_mapped m at n ≡ false) →
    AnswersByTaking it it left left function.Read (at ∷ n ∷ []) (Ok (acted.Faults fault.Wild))
read_wild it left at n does written h k w kept =
    let d = does w.memory kept.memory in
    finds_any left (λ input. Does (record {
      memory = it;
      heap = h;
      arguments = k;
      before = record { left = left; written = written };
      now = record { left = left; written = written };
    }) function.Read (at ∷ n ∷ []) (with_input w input) (acted.Faults fault.Wild)) (λ input. record {
      is = rw d refl;
      leaves = record {
        kept = kept_input it h k w input kept;
        read = takes_none input left;
        written = puts_none w.output written;
      };
    })

-- memory is wanted
pub read_wants : (it : Kept) (left : Option (List ℕ)) (at n : ℕ) (e : AllocError) → ((m : Memory) → Holds it m → all_mapped m at n ≡ true) →
    ¬ (AllHeld it at n) → AnswersByTaking it it left left function.Read (at ∷ n ∷ []) (Err e)
read_wants it left at n e mapped lacks written h k w kept =
    let one = lacks_one it at n lacks in
    let m = mapped w.memory kept.memory in
    record {
      kept = kept;
      wants = record { goes = rw m tt; page = one.page; met = one.met; fresh = fresh it at n w.memory kept.pages one };
    }

-- ---- a range copied to where it is

pub over_mapped : (it : Kept) (m : Memory) (at n : ℕ) → Changes it (move m at at n) (Ok tt) → all_mapped m at n ≡ true
over_mapped it m at n c = pick (all_mapped m at n) refl
  where
    pick : (b : Bool) → all_mapped m at n ≡ b → b ≡ true
    pick true e = refl
    pick false e = absurd (subst (λ (o : Option Memory). Changes it o (Ok tt)) (move_over m at n false e) c)

pub over_holds : (it : Kept) (m : Memory) (at n : ℕ) → Changes it (move m at at n) (Ok tt) → Holds it m
over_holds it m at n c =
    holds_over it m at n (subst (λ (o : Option Memory). Changes it o (Ok tt)) (move_over m at n true (over_mapped it m at n c)) c)

pub over_wild : (it : Kept) (m : Memory) (at n : ℕ) → Changes it (move m at at n) (Err stop.Wild) → all_mapped m at n ≡ false
over_wild it m at n c = pick (all_mapped m at n) refl
  where
    pick : (b : Bool) → all_mapped m at n ≡ b → b ≡ false
    pick false e = refl
    pick true e = absurd (subst (λ (o : Option Memory). Changes it o (Err stop.Wild)) (move_over m at n true e) c)

pub over_wants : (it : Kept) (m : Memory) (at n : ℕ) → Changes it (move m at at n) (Err stop.Memory) → all_mapped m at n ≡ true
over_wants it m at n c = pick (all_mapped m at n) refl
  where
    pick : (b : Bool) → all_mapped m at n ≡ b → b ≡ true
    pick true e = refl
    pick false e = absurd (subst (λ (o : Option Memory). Changes it o (Err stop.Memory)) (move_over m at n false e) c)
