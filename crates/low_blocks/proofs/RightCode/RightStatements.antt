-- Lowered statements keep the rules of statements.
use Rattle.std.proofs.Common.{◌≡◌, ℕ, suc, ◌+◌, ◌*◌, ◌^◌, ◌<◌, ◌≤◌, Bool, true, false, List, [], ◌∷◌, ◌++◌, length, Option, Some, None, refl, sym, ap, ◌∙◌, arith}
use Rattle.std.specs.Prelude.{codes, bytes_eq}
use Rattle.hx_base.specs.declared.Class.TheVariants.{W, L}
use Rattle.flat_code.specs.declared.program.FlatFn.{FlatFn}
use Rattle.flat_code.specs.declared.program.FlatProgram.{FlatProgram}
use Rattle.flat_code.specs.declared.value.Value.{Value}
use Rattle.flat_code.specs.declared.value.Value.TheVariants.{Number, Symbol}
use Rattle.flat_code.specs.Code.{Code, If, Loop, Leave, Call}
use Rattle.flat_code.specs.Temps.{is_set}
use Rattle.flat_code.specs.WellFormed.{deepest, is_operand, is_right}
use Rattle.hare_blocks.specs.Trees.{Condition, always, compares, Statement, Statements, declares, assigns, chooses, chooses_one, repeats, puts, exits, nothing, first}
use Rattle.hare_blocks.specs.Class.{statement_blocks, statements_blocks}
use Rattle.hare_blocks.specs.Scopes.{number_of}
use Rattle.low_blocks.specs.declared.last.Last.{Last}
use Rattle.low_blocks.specs.Expressions.{Scope, last_set, Piece, expr_steps, expr_piece, condition_piece}
use Rattle.low_blocks.specs.Statements.{Site, past, outside, variable_set, seq, turn, statement_code, statements_code, statement_texts, statements_texts}
use Rattle.low_blocks.proofs.Temporaries.Scopes.{place_under}
use Rattle.low_blocks.proofs.Temporaries.Pieces.{expr_from, condition_grows}
use Rattle.low_blocks.proofs.Temporaries.Sites.{IsSited, sited_past, sited_outside, statement_behind, statements_behind}
use Rattle.low_blocks.proofs.RightCode.Plain.{IsFree, and_both}
use Rattle.low_blocks.proofs.RightCode.Rights.{less_true, or_left, or_right, AreRight, right_parts, right_one, IsPart, part_front}
use Rattle.low_blocks.proofs.RightCode.Rights.{part_back, operand_word, AreSet, AreOperands, right_last, last_is_set, expr_right}
use Rattle.low_blocks.proofs.RightCode.Rights.{piece_right, condition_right}

-- strings whose lengths are numbers of 64 bits
abbrev pub AreShort : List (List ℕ) → Type 0
AreShort [] = Unit {0}
AreShort (t ∷ ts) = (length t < 2 ^ 64) × AreShort ts

short_front : (a b : List (List ℕ)) → AreShort (a ++ b) → AreShort a
short_front [] b h = tt
short_front (t ∷ a) b h = (h.0, short_front a b h.1)

short_back : (a b : List (List ℕ)) → AreShort (a ++ b) → AreShort b
short_back [] b h = h
short_back (t ∷ a) b h = short_back a b h.1

module _ (p : FlatProgram) (free : IsFree p) (f : FlatFn) (words : (t : ℕ) → 0 < t → is_set p f t W ≡ false)
    (longs : is_set p f 0 L ≡ false) where
  abbrev Part : List Code → Type 0
  Part = IsPart p free f words longs

  abbrev Right : ℕ → List Code → Type 0
  Right = AreRight p free f words longs

  abbrev Placed : Scope → Type 0
  Placed = AreSet p free f words longs

  -- ---- variables

  set_place : (x : List ℕ) (scope : Scope) (t : ℕ) → Placed scope → number_of x scope ≡ Some t → (0 < t) × (is_set p f t L ≡ true)
  set_place x [] t h e = absurd (cc)
  set_place x (y ∷ ys) t h e = pick (bytes_eq y.0 x) refl (set_place x ys t h.2)
    where
      pick : (b : Bool) → bytes_eq y.0 x ≡ b → (number_of x ys ≡ Some t → (0 < t) × (is_set p f t L ≡ true)) →
          (0 < t) × (is_set p f t L ≡ true)
      pick true g on =
          let k : number_of x (y ∷ ys) ≡ Some y.1 = rw g refl in
          let i : y.1 ≡ t = cc in
          (omega (arith, h.0), ap (λ u. is_set p f u L) (sym i) ∙ h.1)
      pick false g on = let k : number_of x (y ∷ ys) ≡ number_of x ys = rw g refl in on (sym k ∙ e)

  -- a variable's temporary is one of the function's, since it stands below the next one
  right_variable : (around : ℕ) (site : Site) (x : List ℕ) (last : Last) (o : Option ℕ) → IsSited site → site.next ≤ f.temps →
      Placed site.scope → number_of x site.scope ≡ o → AreOperands p free f words longs last → Right around (variable_set o last)
  right_variable around site x last None h l set e k = refl
  right_variable around site x last (Some t) h l set e k = right_last p free f words longs around t last (set_place x site.scope t set e).0
      (omega (arith, place_under site.next t x site.scope h.below e)) k

  -- ---- parts of branches and loops

  part_if : (v : Value) (does other : List Code) → Part (If v (seq does) (seq other) ∷ []) → Part does × Part other
  part_if v does other h = ((λ t class e. h t class (or_left _ _ (or_left _ _ e))), (λ t class e. h t class (or_left _ _ (or_right _ _ e))))

  part_turn : (c : Condition) (test : Piece) (body : List Code) → Part (Loop (turn c test body) ∷ []) → Part body
  part_turn always test body h t class e = h t class (or_left _ _ e)
  part_turn (compares a r b) test body h t class e =
      let inside : Part (test.code ++ If test.value (seq body) (Leave 1) ∷ []) = λ u k i. h u k (or_left _ _ i) in
      part_back p free f words longs test.code (If test.value (seq body) (Leave 1) ∷ []) inside t class (or_left _ _ (or_left _ _ e))

  part_test : (site : Site) (c : Condition) (body : List Code) → Part (Loop (turn c (condition_piece site.scope site.next c) body) ∷ []) →
      Part (condition_piece site.scope site.next c).code
  part_test site always body h = λ t class e. absurd (cc)
  part_test site (compares a r b) body h =
      let test = condition_piece site.scope site.next (compares a r b) in
      let inside : Part (test.code ++ If test.value (seq body) (Leave 1) ∷ []) = λ u k i. h u k (or_left _ _ i) in
      part_front p free f words longs test.code (If test.value (seq body) (Leave 1) ∷ []) inside

  right_seq : (around : ℕ) (cs : List Code) → around < deepest → Right (suc around) cs → is_right p f around (seq cs) ≡ true
  right_seq around cs l h = and_both _ _ (less_true around deepest l) h

  right_turn : (around : ℕ) (c : Condition) (test : Piece) (body : List Code) → around + 3 ≤ deepest → ((k : ℕ) → Right k test.code) →
      is_operand p f W test.value ≡ true → ((k : ℕ) → k ≤ around + 3 → Right k body) → Right around (Loop (turn c test body) ∷ [])
  right_turn around always test body l h v k =
      right_one p free f words longs around (Loop (turn always test body))
      (and_both _ _ (less_true around deepest (omega arith))
      (right_seq (suc around) body (omega arith) (k (suc (suc around)) (omega arith))))
  right_turn around (compares a r b) test body l h v k =
      let cond = right_one p free f words longs (suc (suc around)) (If test.value (seq body) (Leave 1))
      (and_both _ _ v (and_both _ _ (right_seq (suc (suc around)) body (omega arith) (k (suc (suc (suc around))) (omega arith)))
      (less_true 1 (suc (suc around)) (omega arith)))) in
      right_one p free f words longs around (Loop (turn (compares a r b) test body))
      (and_both _ _ (less_true around deepest (omega arith))
      (right_seq (suc around) (test.code ++ If test.value (seq body) (Leave 1) ∷ []) (omega arith)
      (right_parts p free f words longs (suc (suc around)) test.code _ (h (suc (suc around))) cond)))

  -- ---- statements

  -- the statements keep the rules, and the variables behind them are set
  pub record AreKept (around : ℕ) (cs : List Code) (scope : Scope) : Type 0 where
    pub right : Right around cs
    pub set : Placed scope

  mutual
    statement_right : (site : Site) (s : Statement) (around : ℕ) → IsSited site → Placed site.scope → Part (statement_code site s).code →
        (statement_code site s).behind.next ≤ f.temps → (statement_code site s).behind.texts ≤ length p.globals →
        AreShort (statement_texts s) →
        around + 3 * statement_blocks s ≤ deepest →
        AreKept around (statement_code site s).code (statement_code site s).behind.scope
    statement_right site (declares x e) around h set part temps texts short deep =
        let v = expr_steps site.scope site.next e in
        let g = expr_from site.scope site.next h.some h.below site.next e (omega arith) in
        let sets = last_set v.next v.last in
        let r = expr_right p free f words longs site.scope site.next h.some h.below set site.next e (omega arith)
        (part_front p free f words longs v.code (sets ∷ []) part, omega arith) in
        let is = last_is_set p free f words longs v.next v.last (part_back p free f words longs v.code (sets ∷ []) part) in
        record {
          right = right_parts p free f words longs around v.code (sets ∷ []) (r.code around)
              (right_last p free f words longs around v.next v.last (omega (arith, g.grows, h.some)) (omega arith) r.operands);
          set = (omega (arith, g.grows, h.some), is, set);
        }
    statement_right site (assigns x e) around h set part temps texts short deep =
        let v = expr_steps site.scope site.next e in
        let g = expr_from site.scope site.next h.some h.below site.next e (omega arith) in
        let o = number_of x site.scope in
        let r = expr_right p free f words longs site.scope site.next h.some h.below set site.next e (omega arith)
        (part_front p free f words longs v.code (variable_set o v.last) part, temps) in
        record {
          right = right_parts p free f words longs around v.code (variable_set o v.last) (r.code around)
              (right_variable around site x v.last o h (omega (arith, g.grows)) set refl r.operands);
          set = set;
        }
    statement_right site (chooses c body) around h set part temps texts short deep =
        let test = condition_piece site.scope site.next c in
        let g = condition_grows site.scope site.next h.some h.below site.next c (omega arith) in
        let inner = sited_past site test.next h g in
        let low = statements_code (past site test.next) body in
        let b = statements_behind (past site test.next) body inner in
        let cond = If test.value (seq low.code) (seq []) in
        let rt = condition_right p free f words longs site.scope site.next h.some h.below set site.next c (omega arith)
        (part_front p free f words longs test.code (cond ∷ []) part) (omega (arith, b.grows)) in
        let parts = part_if test.value low.code [] (part_back p free f words longs test.code (cond ∷ []) part) in
        let rb = statements_right (past site test.next) body (suc around) inner set parts.0 temps texts short (omega arith) in
        let both = right_one p free f words longs around cond
        (and_both _ _ rt.value (and_both _ _ (right_seq around low.code (omega arith) rb.right)
        (right_seq around [] (omega arith) refl))) in
        record { right = right_parts p free f words longs around test.code (cond ∷ []) (rt.code around) both; set = set }
    statement_right site (chooses_one c body other) around h set part temps texts short deep =
        let test = condition_piece site.scope site.next c in
        let g = condition_grows site.scope site.next h.some h.below site.next c (omega arith) in
        let inner = sited_past site test.next h g in
        let low = statements_code (past site test.next) body in
        let b = statements_behind (past site test.next) body inner in
        let inner' = sited_outside site low.behind h (omega (arith, g, b.grows)) in
        let low' = statements_code (outside site low.behind) other in
        let o = statements_behind (outside site low.behind) other inner' in
        let cond = If test.value (seq low.code) (seq low'.code) in
        let rt = condition_right p free f words longs site.scope site.next h.some h.below set site.next c (omega arith)
        (part_front p free f words longs test.code (cond ∷ []) part) (omega (arith, b.grows, o.grows)) in
        let parts = part_if test.value low.code low'.code (part_back p free f words longs test.code (cond ∷ []) part) in
        let rb = statements_right (past site test.next) body (suc around) inner set parts.0 (omega (arith, o.grows))
        (omega (arith, o.counts)) (short_front (statements_texts body) (statements_texts other) short) (omega arith) in
        let ro = statements_right (outside site low.behind) other (suc around) inner' set parts.1 temps texts
        (short_back (statements_texts body) (statements_texts other) short) (omega arith) in
        let both = right_one p free f words longs around cond
        (and_both _ _ rt.value (and_both _ _ (right_seq around low.code (omega arith) rb.right)
        (right_seq around low'.code (omega arith) ro.right))) in
        record { right = right_parts p free f words longs around test.code (cond ∷ []) (rt.code around) both; set = set }
    statement_right site (repeats c body) around h set part temps texts short deep =
        let test = condition_piece site.scope site.next c in
        let g = condition_grows site.scope site.next h.some h.below site.next c (omega arith) in
        let inner = sited_past site test.next h g in
        let low = statements_code (past site test.next) body in
        let b = statements_behind (past site test.next) body inner in
        let rt = condition_right p free f words longs site.scope site.next h.some h.below set site.next c (omega arith)
        (part_test site c low.code part) (omega (arith, b.grows)) in
        let pb = part_turn c test low.code part in
        record {
          right = right_turn around c test low.code (omega arith) rt.code rt.value
              (λ k l. (statements_right (past site test.next) body k inner set pb temps texts short (omega arith)).right);
          set = set;
        }
    statement_right site (puts text) around h set part temps texts short deep =
        record {
          right = right_one p free f words longs around
              (Call None (codes "rt.puts") (Symbol site.texts 0 ∷ Number (length text) ∷ []))
              (rw (free.puts, less_true site.texts (length p.globals) (omega arith), less_true (length text) (2 ^ 64) short.0) refl);
          set = set;
        }
    statement_right site (exits e) around h set part temps texts short deep =
        let v = expr_piece site.scope site.next e in
        let exit = Call None (codes "rt.exit") (v.value ∷ []) in
        let r = piece_right p free f words longs site.scope site.next h.some h.below set site.next e (omega arith)
        (part_front p free f words longs v.code (exit ∷ []) part, temps) in
        record {
          right = right_parts p free f words longs around v.code (exit ∷ []) (r.code around)
              (right_one p free f words longs around exit (rw (free.exit, operand_word p free f words longs v.value r.value) refl));
          set = set;
        }

    pub statements_right : (site : Site) (ss : Statements) (around : ℕ) → IsSited site → Placed site.scope →
        Part (statements_code site ss).code → (statements_code site ss).behind.next ≤ f.temps →
        (statements_code site ss).behind.texts ≤ length p.globals → AreShort (statements_texts ss) →
        around + 3 * statements_blocks ss ≤ deepest →
        AreKept around (statements_code site ss).code (statements_code site ss).behind.scope
    statements_right site nothing around h set part temps texts short deep = record { right = refl; set = set }
    statements_right site (first s ss) around h set part temps texts short deep =
        let low = statement_code site s in
        let b = statement_behind site s h in
        let low' = statements_code low.behind ss in
        let o = statements_behind low.behind ss b.sited in
        let r = statement_right site s around h set (part_front p free f words longs low.code low'.code part) (omega (arith, o.grows))
        (omega (arith, o.counts)) (short_front (statement_texts s) (statements_texts ss) short) (omega arith) in
        let q = statements_right low.behind ss around b.sited r.set (part_back p free f words longs low.code low'.code part) temps texts
        (short_back (statement_texts s) (statements_texts ss) short) (omega arith) in
        record { right = right_parts p free f words longs around low.code low'.code r.right q.right; set = q.set }
