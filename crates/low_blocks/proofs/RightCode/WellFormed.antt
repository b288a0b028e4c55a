-- The lowered program of a file of the class is well formed.
use Rattle.std.proofs.Common.{◌≡◌, ℕ, ◌^◌, ◌<◌, ◌≤◌, Bool, true, false, List, [], ◌∷◌, length, refl, arith}
use Rattle.std.specs.Prelude.{nat_le, ◌==◌}
use Rattle.std.proofs.lemmas.Bool.Decides.{nat_tests}
use Rattle.std.proofs.lemmas.List.Sums.{sum_by-cons}
use Rattle.hx_base.specs.Runtime.{argument_size}
use Rattle.hx_base.specs.declared.Class.TheVariants.{W, L}
use Rattle.flat_code.specs.declared.program.FlatFn.{FlatFn}
use Rattle.flat_code.specs.Temps.{is_set}
use Rattle.flat_code.specs.WellFormed.{IsWellFormed, how_many, is_function_right, is_right, most}
use Rattle.hare_blocks.specs.Trees.{Program}
use Rattle.hare_blocks.specs.Class.{statements_blocks, IsSource}
use Rattle.low_blocks.specs.Statements.{seq}
use Rattle.low_blocks.specs.Programs.{body_of, start, body_code, program_texts, text_name, lowered_main, lowered}
use Rattle.low_blocks.proofs.Temporaries.Sites.{IsSited, statements_behind}
use Rattle.low_blocks.proofs.RightCode.Plain.{IsFree, and_both, statements_plain}
use Rattle.low_blocks.proofs.RightCode.Nests.{statements_nest}
use Rattle.low_blocks.proofs.RightCode.RightStatements.{AreShort, statements_right}
use Rattle.low_blocks.proofs.SameRuns.Start.{texts_size}
use Rattle.low_blocks.proofs.RightCode.Sources.{source_texts, source_blocks}
use Rattle.low_blocks.proofs.RightCode.Globals.{texts_not_main, one_named, each_text, text_right, length-text_globals, size-text_globals}
use Rattle.low_blocks.proofs.RightCode.Globals.{length_le-texts_size}

le_true : (a b : ℕ) → a ≤ b → nat_le a b ≡ true
le_true a b l = pick (nat_le a b) refl
  where
    pick : (x : Bool) → nat_le a b ≡ x → x ≡ true
    pick true e = refl
    pick false e = absurd (grind (arith, nat_tests))

short : (ts : List (List ℕ)) → texts_size ts < 2 ^ 64 → AreShort ts
short [] l = tt
short (t ∷ ts) l = (omega (arith, sum_by-cons argument_size t ts), short ts (omega (arith, sum_by-cons argument_size t ts)))

begins : IsSited start
begins = record { some = omega arith; below = tt }

module _ (p : Program) (few : texts_size (program_texts p) ≤ 65536) (shallow : statements_blocks (body_of p) ≤ 15) where
  abbrev texts : List (List ℕ)
  texts = program_texts p

  abbrev main : FlatFn
  main = lowered_main (body_code p)

  count : length texts ≤ 65536
  count = omega (arith, few, length_le-texts_size texts)

  free : IsFree (lowered p)
  free = record { nargs = refl; puts = refl; exit = refl }

  words : (t : ℕ) → 0 < t → is_set (lowered p) main t W ≡ false
  words t l = (statements_plain (lowered p) free start (body_of p) begins).words t l

  longs : is_set (lowered p) main 0 L ≡ false
  longs = (statements_plain (lowered p) free start (body_of p) begins).longs

  body_right : is_right (lowered p) main 0 (seq (body_code p).code) ≡ true
  body_right =
      let counts = (statements_behind start (body_of p) begins).counts in
      and_both _ _ refl (statements_right (lowered p) free main words longs start (body_of p) 1 begins tt (λ t class e. e) (omega arith)
      (omega (arith, counts, length-text_globals 0 texts)) (short texts (omega (arith, few))) (omega (arith, shallow))).right

  main_right : is_function_right (lowered p) main ≡ true
  main_right =
      and_both _ _ refl (and_both _ _ refl (and_both _ _ (le_true 0 main.temps (omega arith))
      (and_both _ _ (statements_nest start (body_of p) 65535 (omega (arith, shallow))) (and_both _ _ refl body_right))))

  once : (j : ℕ) → j < length texts → (how_many (lowered p) (text_name j) == 1) ≡ true
  once j l = rw (one_named j 0 texts (omega (arith, count)) (omega arith) (omega arith)) refl

  pub is_well_formed : IsWellFormed (lowered p)
  is_well_formed = record {
    functions_differ = and_both _ _ (rw (texts_not_main 0 texts) refl) refl;
    globals_differ = each_text _ 0 texts (λ j t l m. once j (omega arith));
    main = refl;
    functions = and_both _ _ main_right refl;
    globals = each_text _ 0 texts (λ j t l m. text_right (lowered p) j t (omega (arith, count)));
    few_functions = refl;
    few_globals = le_true _ most (omega (arith, count, length-text_globals 0 texts));
    few_bytes = le_true _ most (omega (arith, few, size-text_globals 0 texts));
  }

pub well_formed : (text : List ℕ) (p : Program) → IsSource text p → IsWellFormed (lowered p)
well_formed text p h = is_well_formed p (source_texts text p h) (source_blocks text p h)
