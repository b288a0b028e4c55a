-- The code of a condition gives a number that is not 0 exactly where the condition holds.
use Rattle.std.proofs.Common.{◌≡◌, ℕ, ◌-◌, ◌^◌, ◌<◌, Bool, true, false, [], ◌∷◌, ◌++◌, None, refl, ◌∙◌, arith}
use Rattle.std.specs.Prelude.{codes, not, nat_lt, nat_le, nat_eq, ◌==◌}
use Rattle.hx_base.specs.declared.Class.TheVariants.{W, L}
use Rattle.hx_base.specs.Operations.{truth}
use Rattle.flat_code.specs.declared.op.Op.TheVariants.{Cultl, Culel, Ceql, Cnel}
use Rattle.flat_code.specs.declared.program.FlatProgram.{FlatProgram}
use Rattle.flat_code.specs.declared.value.Value.{Value}
use Rattle.flat_code.specs.State.{State, cut, value_of, set_temp, stepped}
use Rattle.flat_code.specs.Evaluation.{Less, function_named}
use Rattle.hare_blocks.specs.Trees.{Relation, less, less_equal, greater, greater_equal, equal, differ, Condition, always, compares}
use Rattle.hare_blocks.specs.Evaluation.{Variables, relates, holds}
use Rattle.low_blocks.specs.Expressions.{Scope, Piece, test_temp, comparison, expr_piece, condition_piece}
use Rattle.low_blocks.proofs.Temporaries.Runs.{temp_of-same, temp_of-other, Keeps, keeps_on, operand_kept, Reaches, reaches_none}
use Rattle.low_blocks.proofs.Temporaries.Runs.{reaches_on, reaches_set}
use Rattle.low_blocks.proofs.Temporaries.Scopes.{Below}
use Rattle.low_blocks.proofs.Temporaries.Pieces.{piece_from}
use Rattle.low_blocks.proofs.SameValues.Values.{Ready, ready_on, piece_gives}

-- ---- comparisons

truth_test : (b : Bool) → (cut W (truth b) == 0) ≡ not b
truth_test true = refl
truth_test false = refl

untruth_test : (b : Bool) → (cut W (1 - truth b) == 0) ≡ not (not b)
untruth_test true = refl
untruth_test false = refl

cut_fits : (v : ℕ) → v < 2 ^ 64 → cut L v ≡ v
cut_fits v h = omega arith

module _ (p : FlatProgram) (n : ℕ) (below : Less) where
  -- the temporary of tests is set to a number that is not 0 exactly where this holds
  record Compares (s : State) (r : Relation) (a b : Value) (holds : Bool) : Type 0 where
    given : ℕ
    reaches : Reaches p n below (comparison r a b ∷ []) s (set_temp (stepped 1 s) test_temp W given)
    test : (cut W given == 0) ≡ not holds

  comparison_tests : (args : ℕ) (s : State) (r : Relation) (a b : Value) (x y : ℕ) → value_of p s a ≡ x → value_of p s b ≡ y → x < 2 ^ 64 →
      y < 2 ^ 64 → Compares s r a b (relates args r x y)
  comparison_tests args s less a b x y e f h k =
      record {
        given = _;
        reaches = reaches_set p n below s test_temp W Cultl a b _ refl;
        test =
            rw (e, f, cut_fits x h, cut_fits y k) (truth_test (nat_lt x y));
      }
  comparison_tests args s less_equal a b x y e f h k =
      record {
        given = _;
        reaches = reaches_set p n below s test_temp W Culel a b _ refl;
        test =
            rw (e, f, cut_fits x h, cut_fits y k) (truth_test (nat_le x y));
      }
  comparison_tests args s greater a b x y e f h k =
      record {
        given = _;
        reaches = reaches_set p n below s test_temp W Cultl b a _ refl;
        test =
            rw (e, f, cut_fits x h, cut_fits y k) (truth_test (nat_lt y x));
      }
  comparison_tests args s greater_equal a b x y e f h k =
      record {
        given = _;
        reaches = reaches_set p n below s test_temp W Culel b a _ refl;
        test =
            rw (e, f, cut_fits x h, cut_fits y k) (truth_test (nat_le y x));
      }
  comparison_tests args s equal a b x y e f h k =
      record {
        given = _;
        reaches = reaches_set p n below s test_temp W Ceql a b _ refl;
        test =
            rw (e, f, cut_fits x h, cut_fits y k) (truth_test (nat_eq x y));
      }
  comparison_tests args s differ a b x y e f h k =
      record {
        given = _;
        reaches = reaches_set p n below s test_temp W Cnel a b _ refl;
        test =
            rw (e, f, cut_fits x h, cut_fits y k) (untruth_test (nat_eq x y));
      }

  -- ---- conditions

  -- from this state the piece runs through, and its operand is not 0 exactly where this holds
  pub record Tells (s : State) (piece : Piece) (holds : Bool) (t : ℕ) : Type 0 where
    pub after : State
    pub reaches : Reaches p n below piece.code s after
    pub test : (cut W (value_of p after piece.value) == 0) ≡ not holds
    pub world : after.world ≡ s.world
    pub keeps : Keeps t s after

  test_keeps : (s : State) (t v : ℕ) → Keeps t s (set_temp (stepped 1 s) test_temp W v)
  test_keeps s t v u pos l = temp_of-other (stepped 1 s) test_temp W v u (λ e. omega arith)

  module _ (args : ℕ) (nargs : function_named p.functions (codes "rt.nargs") ≡ None) (scope : Scope) (vs : Variables) (bound : ℕ)
      (pos : 0 < bound) (under : Below bound scope) where
    pub condition_tells : (c : Condition) (s : State) → Ready p n below args nargs scope vs bound pos under s →
        Tells s (condition_piece scope bound c) (holds args vs c) bound
    condition_tells always s r = record { after = s; reaches = reaches_none p n below s; test = refl; world = refl; keeps = λ u l k. refl }
    condition_tells (compares a r b) s ready =
        let x = expr_piece scope bound a in
        let y = expr_piece scope x.next b in
        let fx = piece_from scope bound pos under bound a (omega arith) in
        let fy = piece_from scope bound pos under x.next b fx.grows in
        let gx = piece_gives p n below args nargs scope vs bound pos under bound a s (omega arith) ready in
        let gy = piece_gives p n below args nargs scope vs bound pos under x.next b gx.after fx.grows
        (ready_on p n below args nargs scope vs bound pos under s gx.after bound (omega arith) ready gx.world gx.keeps) in
        let left = operand_kept p x.next gx.after gy.after x.value fx.value gy.keeps ∙ gx.value in
        let k = comparison_tests args gy.after r x.value y.value _ _ left gy.value gx.fits gy.fits in
        let end = set_temp (stepped 1 gy.after) test_temp W k.given in
        record {
          after = end;
          reaches = reaches_on p n below x.code (y.code ++ comparison r x.value y.value ∷ []) s gx.after end gx.reaches
              (reaches_on p n below y.code (comparison r x.value y.value ∷ []) gx.after gy.after end gy.reaches k.reaches);
          test = rw (temp_of-same (stepped 1 gy.after) test_temp W k.given) (rw (cut_again k.given) k.test);
          world = gy.world ∙ gx.world;
          keeps = keeps_on bound x.next s gx.after end fx.grows gx.keeps
              (keeps_on x.next x.next gx.after gy.after end (omega arith) gy.keeps (test_keeps gy.after x.next k.given));
        }
      where
        cut_again : (v : ℕ) → cut W (cut W v) ≡ cut W v
        cut_again v = omega arith
