-- What a read comes to: the range copied to where it is, and then the loop.
use Rattle.std.proofs.Common.{◌≡◌, ℕ, ◌+◌, ◌≤◌, Bool, true, false, ◌||◌, List, [], ◌∷◌, Option, append-nil, refl, sym, subst, arith, ◌∙◌}
use Rattle.std.specs.Prelude.{Ok}
use Rattle.std.specs.Io.KnownBytes.{Consumes}
use Rattle.std.proofs.KnownBytes.{Consumes-trans}
use Rattle.std.proofs.lemmas.Bool.Decides.{nat_tests}
use Rattle.hx_base.specs.Memory.{Memory, all_mapped, move}
use Rattle.hx_runtime.specs.declared.runtime.RuntimeFunction.TheVariants as function
use Rattle.il_mem.specs.Kept.{Kept, is_held, meets}
use Rattle.il_mem.specs.Holds.{Holds, Changes, AllHeld, AddsPages}
use Rattle.il_acts.specs.declared.acted.Acted.{Acted}
use Rattle.il_acts.specs.declared.acted.Acted.TheVariants as acted
use Rattle.il_acts.specs.Acts.{AnswersByTaking}
use Rattle.il_acts.specs.Filling.{Filled, FilledAll, FillsOr}
use Rattle.il_acts.proofs.Touched.{touched_more}
use Rattle.il_acts.proofs.Streaming.{read_done, read_fails, read_never, over_mapped, over_holds}

-- ---- pages of a range

or_true : (b : Bool) → (b || true) ≡ true
or_true true = refl
or_true false = refl

-- pages that are made are held
pub adds_held : (it it' : Kept) (at n : ℕ) → AddsPages it it' at n → AllHeld it' at n
adds_held it it' at n adds p met = adds p ∙ rw met (or_true (is_held it.held p))

meets_part : (at n i k page : ℕ) → i + k ≤ n → meets (at + i) k page ≡ true → meets at n page ≡ true
meets_part at n i k page l h = grind (arith, nat_tests)

-- those of a part are held where those of the range are
pub part_held : (it : Kept) (at n done len : ℕ) → AllHeld it at n → done + len ≤ n → AllHeld it (at + done) len
part_held it at n done len h few p met = h p (meets_part at n done len p few met)

-- ---- the whole read

-- no bytes more are taken
pub fills_end : (it it' : Kept) (left left' left'' : Option (List ℕ)) (at n done : ℕ) → Filled it it' left left' at n done →
    Consumes left' left'' [] → Filled it it' left left'' at n done
fills_end it it' left left' left'' at n done f none = record {
  bytes = f.bytes;
  sized = f.sized;
  fills = f.fills;
  lost = subst (Consumes left left'') (append-nil f.bytes) (Consumes-trans left left' left'' f.bytes [] f.lost none);
}

module _ (it it1 it' : Kept) (left left' : Option (List ℕ)) (at n : ℕ)
    (over : (m : Memory) → Holds it m → Changes it1 (move m at at n) (Ok tt))
    (adds : AddsPages it it1 at n) where
  from_over : (count : ℕ) → FilledAll it1 it' left left' at n count → FilledAll it it' left left' at n count
  from_over count all = record {
    filled = record {
      bytes = all.filled.bytes;
      sized = all.filled.sized;
      fills = record {
        holds = λ m h e. all.filled.fills.holds m (over_holds it1 m at n (over m h)) e;
        pages = λ m h. all.filled.fills.pages m (touched_more it it1 m at n h adds);
      };
      lost = all.filled.lost;
    };
    few = all.few;
    end = all.end;
  }

  mapped_by : (m : Memory) → Holds it m → all_mapped m at n ≡ true
  mapped_by m h = over_mapped it1 m at n (over m h)

  -- what a read comes to, by what the loop answers behind the copy
  pub read_by : (a : Acted) → FillsOr it1 it' left left' at n a → AnswersByTaking it it' left left' function.Read (at ∷ n ∷ []) (Ok a)
  read_by (acted.Gives value moved) f =
      subst (λ (v : ℕ). AnswersByTaking it it' left left' function.Read (at ∷ n ∷ []) (Ok (acted.Gives value v))) (sym f.1)
      (read_done it it' left left' at n value mapped_by (from_over value f.0))
  read_by (acted.Exits status) f = absurd f
  read_by (acted.Aborts text) f = absurd f
  read_by (acted.Faults x) f =
      read_never it it' left left' at n (acted.Faults x) (λ m h. f m (over_holds it1 m at n (over m h)) (mapped_by m h))
  read_by acted.Full f = absurd f
  read_by acted.ReadFault f = read_fails it it' left left' at n f mapped_by
  read_by acted.WriteFault f = absurd f
