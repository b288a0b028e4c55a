-- The lowered program has one function and a global for each string.
use Rattle.std.proofs.Common.{◌≡◌, ℕ, suc, List, [], ◌∷◌, map, Option, refl, ap, arith}
use Rattle.std.specs.Prelude.{codes}
use Rattle.flat_code.specs.declared.program.Data.{Data}
use Rattle.flat_code.specs.declared.value.Value.{Value}
use Rattle.flat_code.specs.Code.{Code, Codes, none, more, Seq, Set, Load, Store, Move, If, Loop, Leave, Call, Ret, codes_of}
use Rattle.flat_code.specs.Contents.{calls_in, calls_in_all}
use Rattle.hare_blocks.specs.Trees.{Program}
use Rattle.low_blocks.specs.Programs.{text_name, text_globals, body_of, start, body_code, program_texts, lowered_main, lowered}
use Rattle.low_blocks.specs.Shape.{text_names, HasShape}
use Rattle.low_blocks.proofs.ShapeAndCosts.Fits.{IsFitCall, IsFit, AreFit, statements_fit}
use Rattle.low_blocks.proofs.ShapeAndCosts.Fits as fit

call_is_none : (temp : Option ℕ) (name : List ℕ) (args : List Value) → IsFitCall temp name args →
    calls_in (codes "main") (Call temp name args) ≡ 0
call_is_none temp name args (fit.counts t) = refl
call_is_none temp name args (fit.leaves v h) = refl
call_is_none temp name args (fit.puts_out i n) = refl

mutual
  no_calls : (c : Code) → IsFit c → calls_in (codes "main") c ≡ 0
  no_calls (Seq cs) h = no_calls_in cs h
  no_calls (Set t class o a b) h = refl
  no_calls (Load t how at) h = absurd h
  no_calls (Store width value at) h = absurd h
  no_calls (Move to from bytes) h = absurd h
  no_calls (If cond a b) h = omega (arith, no_calls a h.1, no_calls b h.2)
  no_calls (Loop c) h = no_calls c h
  no_calls (Leave k) h = refl
  no_calls (Call temp name args) h = call_is_none temp name args h
  no_calls (Ret value) h = absurd h

  no_calls_in : (cs : Codes) → AreFit cs → calls_in_all (codes "main") cs ≡ 0
  no_calls_in none h = refl
  no_calls_in (more c cs) h = omega (arith, no_calls c h.0, no_calls_in cs h.1)

names_are : (i : ℕ) (ts : List (List ℕ)) → map (λ (d : Data). d.name) (text_globals i ts) ≡ text_names i ts
names_are i [] = refl
names_are i (t ∷ ts) = ap (λ names. text_name i ∷ names) (names_are (suc i) ts)

pub has_shape : (p : Program) → HasShape p (lowered p)
has_shape p = record {
  main = lowered_main (body_code p);
  only = refl;
  name = refl;
  unframed = refl;
  calls = no_calls (Seq (codes_of (body_code p).code)) (statements_fit start (body_of p));
  globals = names_are 0 (program_texts p);
}
