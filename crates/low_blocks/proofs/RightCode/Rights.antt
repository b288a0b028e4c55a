-- Lowered code keeps the rules of statements: operands are set at the classes that are wanted, and leaves are of loops round them.
use Rattle.std.proofs.Common.{◌≡◌, ℕ, suc, ◌^◌, ◌<◌, ◌≤◌, Bool, true, false, ◌&&◌, List, [], ◌∷◌, ◌++◌, Some, refl, ap, ◌∙◌, arith}
use Rattle.std.specs.Prelude.{codes, nat_lt, ◌||◌, ◌==◌, bytes_eq}
use Rattle.std.proofs.lemmas.Bool.Decides.{nat_tests}
use Rattle.hx_base.specs.declared.Class.{Class}
use Rattle.hx_base.specs.declared.Class.TheVariants.{W, L}
use Rattle.flat_code.specs.declared.kinds.OpKind.TheVariants.{Arithmetic, CompareLongs}
use Rattle.flat_code.specs.declared.op.Op.{Op}
use Rattle.flat_code.specs.declared.op.Op.TheVariants.{Copy, Cultl, Culel, Ceql, Cnel}
use Rattle.flat_code.specs.declared.program.FlatFn.{FlatFn}
use Rattle.flat_code.specs.declared.program.FlatProgram.{FlatProgram}
use Rattle.flat_code.specs.declared.value.Value.{Value}
use Rattle.flat_code.specs.declared.value.Value.TheVariants.{Temp, Number, Symbol, Frame}
use Rattle.flat_code.specs.Code.{Code, Set, Call, codes_of}
use Rattle.flat_code.specs.Kinds.{op_kind}
use Rattle.flat_code.specs.Temps.{is_set, code_sets, one_sets}
use Rattle.flat_code.specs.WellFormed.{is_operand, is_target, is_right, are_right}
use Rattle.hare_blocks.specs.Trees.{Expr, Terms, Term, Factors, Factor, sum_of, no_term, plus, minus, product_of, no_factor, times, number, arg_count, variable, group, Relation, less, less_equal, greater, greater_equal, equal, differ, Condition, always, compares}
use Rattle.hare_blocks.specs.Scopes.{number_of}
use Rattle.low_blocks.specs.declared.last.Last.{Last}
use Rattle.low_blocks.specs.declared.last.Last.TheVariants.{Operand, Operation, ArgCount}
use Rattle.low_blocks.specs.Expressions.{Scope, held, last_set, Steps, Piece, settled, operand_of, operated, comparison, expr_steps, terms_steps, term_steps, factors_steps, factor_steps, expr_piece, condition_piece}
use Rattle.low_blocks.proofs.Temporaries.Scopes.{Below}
use Rattle.low_blocks.proofs.Temporaries.Pieces.{AreFrom, operand_from, joined_from, after_operand, expr_from, term_from, factor_from}
use Rattle.low_blocks.proofs.Temporaries.Pieces.{piece_from}
use Rattle.low_blocks.proofs.RightCode.Plain.{IsFree, sets_append, and_assoc, and_both}

pub less_true : (a b : ℕ) → a < b → nat_lt a b ≡ true
less_true a b l = pick (nat_lt a b) refl
  where
    pick : (x : Bool) → nat_lt a b ≡ x → x ≡ true
    pick true e = refl
    pick false e = absurd (grind (arith, nat_tests))

pub same_number : (a : ℕ) → (a == a) ≡ true
same_number a = pick (a == a) refl
  where
    pick : (x : Bool) → (a == a) ≡ x → x ≡ true
    pick true e = refl
    pick false e = absurd (grind (arith, nat_tests))

pub or_right : (a b : Bool) → b ≡ true → (a || b) ≡ true
or_right true b e = refl
or_right false b e = e

pub or_left : (a b : Bool) → a ≡ true → (a || b) ≡ true
or_left true b e = refl
or_left false b e = absurd (cc)

-- a function in a program, which sets words at the temporary of tests alone and longs at all others
module _ (p : FlatProgram) (free : IsFree p) (f : FlatFn) (words : (t : ℕ) → 0 < t → is_set p f t W ≡ false)
    (longs : is_set p f 0 L ≡ false) where
  right_append : (around : ℕ) (a b : List Code) → are_right p f around (codes_of (a ++ b)) ≡
      (are_right p f around (codes_of a) && are_right p f around (codes_of b))
  right_append around [] b = refl
  right_append around (c ∷ a) b =
      ap (λ x. is_right p f around c && x) (right_append around a b) ∙ and_assoc (is_right p f around c) _ _

  -- statements keep the rules, with so many Seqs and Loops round them
  abbrev pub AreRight : ℕ → List Code → Type 0
  AreRight around cs = are_right p f around (codes_of cs) ≡ true

  pub right_parts : (around : ℕ) (a b : List Code) → AreRight around a → AreRight around b → AreRight around (a ++ b)
  right_parts around a b h k = right_append around a b ∙ and_both _ _ h k

  pub right_one : (around : ℕ) (c : Code) → is_right p f around c ≡ true → AreRight around (c ∷ [])
  right_one around c h = and_both _ _ h refl

  -- ---- parts of the function

  -- what the code sets, the function sets
  abbrev pub IsPart : List Code → Type 0
  IsPart cs = (t : ℕ) (class : Class) → one_sets p t class (codes_of cs) ≡ true → is_set p f t class ≡ true

  pub part_front : (a b : List Code) → IsPart (a ++ b) → IsPart a
  part_front a b h t class e = h t class (sets_append p free t class a b ∙ or_left _ _ e)

  pub part_back : (a b : List Code) → IsPart (a ++ b) → IsPart b
  part_back a b h t class e = h t class (sets_append p free t class a b ∙ or_right _ _ e)

  pub part_set : (t : ℕ) (class : Class) (c : Code) → code_sets p t class c ≡ true → IsPart (c ∷ []) → is_set p f t class ≡ true
  part_set t class c e h = h t class (or_left _ _ e)

  -- ---- operands

  -- a number, or a long that the function sets
  abbrev pub IsOperand : Value → Type 0
  IsOperand (Temp t) = (0 < t) × (is_set p f t L ≡ true)
  IsOperand (Number n) = n < 2 ^ 64
  IsOperand (Symbol i offset) = ⊥
  IsOperand (Frame offset) = ⊥

  pub operand_long : (v : Value) → IsOperand v → is_operand p f L v ≡ true
  operand_long (Temp t) h = rw (h.1, words t h.0) refl
  operand_long (Number n) h = less_true n (2 ^ 64) h
  operand_long (Symbol i offset) h = absurd h
  operand_long (Frame offset) h = absurd h

  pub operand_word : (v : Value) → IsOperand v → is_operand p f W v ≡ true
  operand_word (Temp t) h = or_right _ _ h.1
  operand_word (Number n) h = less_true n (2 ^ 64) h
  operand_word (Symbol i offset) h = absurd h
  operand_word (Frame offset) h = absurd h

  -- the temporaries of variables are set
  abbrev pub AreSet : Scope → Type 0
  AreSet [] = Unit {0}
  AreSet (x ∷ xs) = (0 < x.1) × (is_set p f x.1 L ≡ true) × AreSet xs

  held_operand : (x : List ℕ) (scope : Scope) → AreSet scope → IsOperand (held (number_of x scope))
  held_operand x [] h = omega arith
  held_operand x (y ∷ ys) h = pick (bytes_eq y.0 x) refl (held_operand x ys h.2)
    where
      pick : (b : Bool) → bytes_eq y.0 x ≡ b → IsOperand (held (number_of x ys)) → IsOperand (held (number_of x (y ∷ ys)))
      pick true e on = rw e (h.0, h.1)
      pick false e on = rw e on

  -- ---- targets

  pub long_target : (t : ℕ) → 0 < t → t < f.temps → is_target p f t L ≡ true
  long_target t pos l = and_both _ _ (less_true t f.temps l) (rw (words t pos) refl)

  word_target : 0 < f.temps → is_target p f 0 W ≡ true
  word_target l = and_both _ _ (less_true 0 f.temps l) (rw longs refl)

  -- ---- last steps

  -- what the operands of a last step keep to
  abbrev pub AreOperands : Last → Type 0
  AreOperands (Operand v) = IsOperand v
  AreOperands (Operation op a b) = (op_kind op ≡ Arithmetic) × IsOperand a × IsOperand b
  AreOperands ArgCount = Unit {0}

  pub right_last : (around t : ℕ) (last : Last) → 0 < t → t < f.temps → AreOperands last → AreRight around (last_set t last ∷ [])
  right_last around t (Operand v) pos l h =
      right_one around (Set t L Copy v (Number 0)) (rw (long_target t pos l, operand_long v h) refl)
  right_last around t (Operation op a b) pos l h =
      right_one around (Set t L op a b) (rw (h.0, long_target t pos l, operand_long a h.1, operand_long b h.2) refl)
  right_last around t ArgCount pos l h = right_one around (Call (Some t) (codes "rt.nargs") []) (rw free.nargs (long_target t pos l))

  -- it sets the temporary
  pub last_is_set : (t : ℕ) (last : Last) → IsPart (last_set t last ∷ []) → is_set p f t L ≡ true
  last_is_set t (Operand v) h = part_set t L (Set t L Copy v (Number 0)) (rw (same_number t) refl) h
  last_is_set t (Operation op a b) h = part_set t L (Set t L op a b) (rw (same_number t) refl) h
  last_is_set t ArgCount h = part_set t L (Call (Some t) (codes "rt.nargs") []) (rw (free.nargs, same_number t) refl) h

  -- ---- expressions

  -- code that is a part of the function, and whose temporaries are the function's
  abbrev Fits : List Code → ℕ → Type 0
  Fits cs next = IsPart cs × (next ≤ f.temps)

  pub record IsRightPiece (piece : Piece) : Type 0 where
    pub code : (around : ℕ) → AreRight around piece.code
    pub value : IsOperand piece.value

  pub record AreRightSteps (steps : Steps) : Type 0 where
    pub code : (around : ℕ) → AreRight around steps.code
    pub operands : AreOperands steps.last

  -- the next temporary is set by the last step
  taken_right : (cs : List Code) (last : Last) (next : ℕ) → 0 < next →
      (Fits cs next → AreRightSteps (record { code = cs; last = last; next = next })) → Fits (cs ++ last_set next last ∷ []) (suc next) →
      IsRightPiece (record { code = cs ++ last_set next last ∷ []; value = Temp next; next = suc next })
  taken_right cs last next pos h fits =
      let r = h (part_front cs (last_set next last ∷ []) fits.0, omega (arith, fits.1)) in
      record {
        code = λ around. right_parts around cs _ (r.code around) (right_last around next last pos (omega (arith, fits.1)) r.operands);
        value = (pos, last_is_set next last (part_back cs (last_set next last ∷ []) fits.0));
      }

  settled_right : (last : Last) (cs : List Code) (next : ℕ) → 0 < next →
      (Fits cs next → AreRightSteps (record { code = cs; last = last; next = next })) →
      Fits (settled last cs next).code (settled last cs next).next → IsRightPiece (settled last cs next)
  settled_right (Operand v) cs next pos h fits = let r = h fits in record { code = r.code; value = r.operands }
  settled_right (Operation op a b) cs next pos h fits = taken_right cs (Operation op a b) next pos h fits
  settled_right ArgCount cs next pos h fits = taken_right cs ArgCount next pos h fits

  operand_right : (steps : Steps) → 0 < steps.next → (Fits steps.code steps.next → AreRightSteps steps) →
      Fits (operand_of steps).code (operand_of steps).next → IsRightPiece (operand_of steps)
  operand_right steps pos h fits = settled_right steps.last steps.code steps.next pos h fits

  -- an operation on what two steps give
  joined_right : (t : ℕ) (op : Op) (left right : Steps) → op_kind op ≡ Arithmetic → 0 < t → AreFrom t left →
      AreFrom (operand_of left).next right → (Fits left.code left.next → AreRightSteps left) →
      (Fits right.code right.next → AreRightSteps right) →
      Fits (operated op (operand_of left) (operand_of right)).code (operated op (operand_of left) (operand_of right)).next →
      AreRightSteps (operated op (operand_of left) (operand_of right))
  joined_right t op left right e pos i j hl hr fits =
      let x = operand_of left in
      let y = operand_of right in
      let fx = operand_from t left pos i in
      let fy = operand_from x.next right (omega (arith, fx.grows)) j in
      let rx = operand_right left (omega (arith, i.grows)) hl (part_front x.code y.code fits.0, omega (arith, fy.grows, fits.1)) in
      let ry = operand_right right (omega (arith, fx.grows, j.grows)) hr (part_back x.code y.code fits.0, fits.1) in
      record {
        code = λ around. right_parts around x.code y.code (rx.code around) (ry.code around);
        operands = (e, rx.value, ry.value);
      }

  module _ (scope : Scope) (bound : ℕ) (pos : 0 < bound) (below : Below bound scope) (set : AreSet scope) where
    mutual
      pub expr_right : (t : ℕ) (e : Expr) → bound ≤ t → Fits (expr_steps scope t e).code (expr_steps scope t e).next →
          AreRightSteps (expr_steps scope t e)
      expr_right t (sum_of a ts) le fits =
          terms_right t (term_steps scope t a) ts le (term_from scope bound pos below t a le) (term_right t a le) fits

      terms_right : (t : ℕ) (left : Steps) (ts : Terms) → bound ≤ t → AreFrom t left → (Fits left.code left.next → AreRightSteps left) →
          Fits (terms_steps scope left ts).code (terms_steps scope left ts).next → AreRightSteps (terms_steps scope left ts)
      terms_right t left no_term le i h fits = h fits
      terms_right t left (plus a ts) le i h fits =
          let x = operand_of left in
          let l = after_operand scope bound pos below t left le i in
          let j = term_from scope bound pos below x.next a l in
          terms_right t _ ts le (joined_from t _ left _ (omega arith) i j)
          (joined_right t _ left _ refl (omega arith) i j h (term_right x.next a l)) fits
      terms_right t left (minus a ts) le i h fits =
          let x = operand_of left in
          let l = after_operand scope bound pos below t left le i in
          let j = term_from scope bound pos below x.next a l in
          terms_right t _ ts le (joined_from t _ left _ (omega arith) i j)
          (joined_right t _ left _ refl (omega arith) i j h (term_right x.next a l)) fits

      term_right : (t : ℕ) (a : Term) → bound ≤ t → Fits (term_steps scope t a).code (term_steps scope t a).next →
          AreRightSteps (term_steps scope t a)
      term_right t (product_of g gs) le fits =
          factors_right t (factor_steps scope t g) gs le (factor_from scope bound pos below t g le) (factor_right t g le) fits

      factors_right : (t : ℕ) (left : Steps) (gs : Factors) → bound ≤ t → AreFrom t left → (Fits left.code left.next → AreRightSteps left) →
          Fits (factors_steps scope left gs).code (factors_steps scope left gs).next → AreRightSteps (factors_steps scope left gs)
      factors_right t left no_factor le i h fits = h fits
      factors_right t left (times g gs) le i h fits =
          let x = operand_of left in
          let l = after_operand scope bound pos below t left le i in
          let j = factor_from scope bound pos below x.next g l in
          factors_right t _ gs le (joined_from t _ left _ (omega arith) i j)
          (joined_right t _ left _ refl (omega arith) i j h (factor_right x.next g l)) fits

      factor_right : (t : ℕ) (g : Factor) → bound ≤ t → Fits (factor_steps scope t g).code (factor_steps scope t g).next →
          AreRightSteps (factor_steps scope t g)
      factor_right t (number n) le fits = record { code = λ around. refl; operands = omega arith }
      factor_right t arg_count le fits = record { code = λ around. refl; operands = tt }
      factor_right t (variable x) le fits = record { code = λ around. refl; operands = held_operand x scope set }
      factor_right t (group e) le fits = expr_right t e le fits

    pub piece_right : (t : ℕ) (e : Expr) → bound ≤ t → Fits (expr_piece scope t e).code (expr_piece scope t e).next →
        IsRightPiece (expr_piece scope t e)
    piece_right t e le fits =
        let i = expr_from scope bound pos below t e le in
        operand_right (expr_steps scope t e) (omega (arith, i.grows)) (expr_right t e le) fits

    -- ---- conditions

    pub record IsRightTest (piece : Piece) : Type 0 where
      pub code : (around : ℕ) → AreRight around piece.code
      pub value : is_operand p f W piece.value ≡ true

    right_test : (around : ℕ) (op : Op) (a b : Value) → op_kind op ≡ CompareLongs → 0 < f.temps → IsOperand a → IsOperand b →
        AreRight around (Set 0 W op a b ∷ [])
    right_test around op a b e l h k = right_one around (Set 0 W op a b) (rw (e, word_target l, operand_long a h, operand_long b k) refl)

    right_comparison : (around : ℕ) (r : Relation) (a b : Value) → 0 < f.temps → IsOperand a → IsOperand b →
        AreRight around (comparison r a b ∷ [])
    right_comparison around less a b l h k = right_test around Cultl a b refl l h k
    right_comparison around less_equal a b l h k = right_test around Culel a b refl l h k
    right_comparison around greater a b l h k = right_test around Cultl b a refl l k h
    right_comparison around greater_equal a b l h k = right_test around Culel b a refl l k h
    right_comparison around equal a b l h k = right_test around Ceql a b refl l h k
    right_comparison around differ a b l h k = right_test around Cnel a b refl l h k

    sets_test : (r : Relation) (a b : Value) → code_sets p 0 W (comparison r a b) ≡ true
    sets_test less a b = refl
    sets_test less_equal a b = refl
    sets_test greater a b = refl
    sets_test greater_equal a b = refl
    sets_test equal a b = refl
    sets_test differ a b = refl

    pub condition_right : (t : ℕ) (c : Condition) → bound ≤ t → IsPart (condition_piece scope t c).code →
        (condition_piece scope t c).next ≤ f.temps → IsRightTest (condition_piece scope t c)
    condition_right t always le part fits = record { code = λ around. refl; value = refl }
    condition_right t (compares a r b) le part fits =
        let x = expr_piece scope t a in
        let y = expr_piece scope x.next b in
        let fx = piece_from scope bound pos below t a le in
        let fy = piece_from scope bound pos below x.next b (omega (arith, fx.grows)) in
        let c = comparison r x.value y.value in
        let back = part_back x.code (y.code ++ c ∷ []) part in
        let rx = piece_right t a le (part_front x.code (y.code ++ c ∷ []) part, omega (arith, fy.grows)) in
        let ry = piece_right x.next b (omega (arith, fx.grows)) (part_front y.code (c ∷ []) back, fits) in
        record {
          code = λ around. right_parts around x.code _ (rx.code around)
              (right_parts around y.code _ (ry.code around)
              (right_comparison around r x.value y.value (omega (arith, fx.grows, fy.grows)) rx.value ry.value));
          value = or_left _ _ (part_set 0 W c (sets_test r x.value y.value) (part_back y.code (c ∷ []) back));
        }
