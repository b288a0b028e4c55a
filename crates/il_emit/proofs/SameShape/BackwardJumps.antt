-- The blocks of a function jump back no more often than its code has Loops.
use Rattle.std.proofs.Common.{◌≡◌, ℕ, zero, suc, ◌+◌, ◌-◌, ◌<◌, ◌≤◌, Bool, true, false, not, ◌&&◌, ◌||◌, List, [], ◌∷◌, ◌++◌, length, Option, None, Some, refl, ap, ◌∙◌, arith, append_assoc, length-append}
use Rattle.std.specs.Prelude.{bytes_eq, slice_index_or, nat_lt, ◌==◌, if◌then◌else◌}
use Rattle.std.specs.List.{list_all}
use Rattle.std.proofs.lemmas.Bool.{and_parts}
use Rattle.std.proofs.lemmas.Bool.Decides.{nat_tests}
use Rattle.flat_code.specs.declared.program.FlatFn.{FlatFn}
use Rattle.flat_code.specs.declared.program.FlatProgram.{FlatProgram}
use Rattle.flat_code.specs.declared.value.Value.{Value}
use Rattle.flat_code.specs.declared.value.Value.TheVariants.{Temp, Number, Symbol, Frame}
use Rattle.flat_code.specs.Code.{Code, Codes, none, more, Seq, Set, Load, Store, Move, If, Loop, Leave, Call, Ret}
use Rattle.flat_code.specs.Costs.{addressed}
use Rattle.flat_code.specs.Shape.{code_of}
use Rattle.flat_code.specs.WellFormed.{deepest, is_right, are_right, is_operand}
use Rattle.il_code.specs.declared.types.Block.{Block}
use Rattle.il_code.specs.declared.types.Jump.{Jump}
use Rattle.il_code.specs.declared.types.Jump.TheVariants as jump
use Rattle.il_code.specs.Rules.{has_label, targets_pass}
use Rattle.hx_base.specs.declared.Class.TheVariants.{W}
use Rattle.il_emit.specs.declared.goal.Goal.{Goal}
use Rattle.il_emit.specs.declared.goal.Goal.TheVariants.{Next, Near, Far}
use Rattle.il_emit.specs.Names.{label_name}
use Rattle.il_emit.specs.Lines.{Line, Label, Do, End, operand, address_lines, arg_lines, is_next, fresh, is_more, has_lines, goal_label, inner, in_front, first_goal, go_lines, own_label, side, seq_end, target, way, named_call_lines, set_lines, load_lines, store_lines, move_lines, leave_lines, return_lines, exit_at, code_lines, each_lines, frame_lines, end_value, function_lines, labels_in, addresses_in}
use Rattle.il_emit.specs.Emitted.{blocks_of}
use Rattle.flat_code.specs.Contents.{loops_in, loops_in_all}
use Rattle.il_emit.specs.Shape.{backward_jumps}
use Rattle.il_emit.proofs.Lines.Counts.{both_true, all_append, all_more, or_true}
use Rattle.il_emit.proofs.NamesAndNumbers.NumberedNames.{bytes_same}
use Rattle.il_emit.proofs.Lines.Places.{jump_of, line_blocks, function_blocks, five_parts}

-- ---- jumps back, counted over lines

-- 1 where a jump names a block that is not among these
abbrev back : List Block → Jump → ℕ
back behind j = if targets_pass (has_label behind) j then 0 else 1

abbrev back_of : List Line → ℕ
back_of [] = 0
back_of (Label n ∷ ls) = back_of ls
back_of (Do i ∷ ls) = back_of ls
back_of (End j ∷ ls) = back (line_blocks ls) j + back_of ls

-- the block that is being written, and those behind it
back_blocks : (ls : List Line) → back (line_blocks ls) (jump_of ls) + backward_jumps (line_blocks ls) ≤ back_of ls
back_blocks [] = omega arith
back_blocks (Label n ∷ ls) = omega (arith, back_blocks ls)
back_blocks (Do i ∷ ls) = back_blocks ls
back_blocks (End j ∷ ls) = omega (arith, back_blocks ls)

-- a label that stands in lines
abbrev stands : List Line → ℕ → Bool
stands ls n = has_label (line_blocks ls) (label_name n)

stands_here : (n : ℕ) (ls : List Line) → stands (Label n ∷ ls) n ≡ true
stands_here n ls = ap (λ (b : Bool). b || stands ls n) (bytes_same (label_name n))

stands_behind : (n : ℕ) (xs ls : List Line) → stands ls n ≡ true → stands (xs ++ ls) n ≡ true
stands_behind n [] ls h = h
stands_behind n (Label x ∷ xs) ls h = or_true (bytes_eq (label_name x) (label_name n)) _ (stands_behind n xs ls h)
stands_behind n (Do i ∷ xs) ls h = stands_behind n xs ls h
stands_behind n (End j ∷ xs) ls h = stands_behind n xs ls h

all_behind : (es : List ℕ) (xs ls : List Line) → list_all (stands ls) es ≡ true → list_all (stands (xs ++ ls)) es ≡ true
all_behind es xs ls h = all_more (stands ls) (stands (xs ++ ls)) (λ n. stands_behind n xs ls) es h

exit_stands : (q : ℕ → Bool) (es : List ℕ) (i : ℕ) → i < length es → list_all q es ≡ true → q (slice_index_or es i 0) ≡ true
exit_stands q [] i l h = absurd (omega arith)
exit_stands q (e ∷ es) zero l h = (and_parts (q e) (list_all q es) h).0
exit_stands q (e ∷ es) (suc i) l h = exit_stands q es i (omega arith) (and_parts (q e) (list_all q es) h).1

back_least : (behind : List Block) (j : Jump) → back behind j ≤ 1
back_least behind j = pick (targets_pass (has_label behind) j)
  where
    pick : (b : Bool) → (if b then 0 else 1) ≤ 1
    pick true = omega arith
    pick false = omega arith

back_none : (behind : List Block) (j : Jump) → targets_pass (has_label behind) j ≡ true → back behind j ≡ 0
back_none behind j h = rw h refl

module _ (p : FlatProgram) (f : FlatFn) where
  address_back : (v : Value) (k : ℕ) (ls : List Line) → back_of (address_lines p.globals v k ++ ls) ≡ back_of ls
  address_back (Temp t) k ls = refl
  address_back (Number n) k ls = refl
  address_back (Frame offset) k ls = refl
  address_back (Symbol i offset) k ls = pick (offset == 0) refl
    where
      pick : (b : Bool) → (offset == 0) ≡ b → back_of (address_lines p.globals (Symbol i offset) k ++ ls) ≡ back_of ls
      pick true e = rw e refl
      pick false e = rw e refl

  args_back : (vs : List Value) (k : ℕ) (ls : List Line) → back_of (arg_lines p.globals vs k ++ ls) ≡ back_of ls
  args_back [] k ls = refl
  args_back (v ∷ vs) k ls =
      ap back_of (append_assoc (address_lines p.globals v k) (arg_lines p.globals vs (k + addressed v)) ls)
      ∙ address_back v k (arg_lines p.globals vs (k + addressed v) ++ ls) ∙ args_back vs (k + addressed v) ls

  -- ---- goals

  -- the label of a goal stands among lines
  abbrev goal_stands : List Line → Goal → Bool
  goal_stands ls Next = true
  goal_stands ls (Near x) = stands ls x
  goal_stands ls (Far x) = stands ls x

  label_stands : (g : Goal) (n : ℕ) (rest : List Line) → goal_stands rest g ≡ true → stands (own_label g n ++ rest) (goal_label g n) ≡ true
  label_stands Next n rest h = stands_here n rest
  label_stands (Near x) n rest h = h
  label_stands (Far x) n rest h = h

  inner_stands : (g : Goal) (n : ℕ) (ls : List Line) → stands ls (goal_label g n) ≡ true → goal_stands ls (inner g n) ≡ true
  inner_stands Next n ls h = h
  inner_stands (Near x) n ls h = h
  inner_stands (Far x) n ls h = h

  first_stands : (b : Bool) (g : Goal) (n : ℕ) (ls : List Line) → stands ls (goal_label g n) ≡ true →
      goal_stands ls (first_goal b g n) ≡ true
  first_stands true g n ls h = h
  first_stands false g n ls h = inner_stands g n ls h

  own_back : (g : Goal) (n : ℕ) (rest : List Line) → back_of (own_label g n ++ rest) ≡ back_of rest
  own_back Next n rest = refl
  own_back (Near x) n rest = refl
  own_back (Far x) n rest = refl

  go_back : (g : Goal) (rest : List Line) → goal_stands rest g ≡ true → back_of (go_lines g ++ rest) ≡ back_of rest
  go_back Next rest h = refl
  go_back (Near x) rest h = refl
  go_back (Far x) rest h = omega (arith, back_none (line_blocks rest) (jump.Jmp (label_name x)) h)

  -- the end of a Seq
  end_stands : (b : Bool) (g : Goal) (n y : ℕ) (rest : List Line) → stands (own_label g n ++ rest) y ≡ true →
      stands (seq_end b g n ++ rest) y ≡ true
  end_stands false g n y rest h = h
  end_stands true g n y rest h =
      ap (λ (ls : List Line). stands ls y) (append_assoc (go_lines (inner g n)) (own_label g n) rest)
      ∙ stands_behind y (go_lines (inner g n)) (own_label g n ++ rest) h

  end_back : (b : Bool) (g : Goal) (n : ℕ) (rest : List Line) → goal_stands rest g ≡ true → back_of (seq_end b g n ++ rest) ≡ back_of rest
  end_back false g n rest h = own_back g n rest
  end_back true g n rest h =
      ap back_of (append_assoc (go_lines (inner g n)) (own_label g n) rest)
      ∙ go_back (inner g n) (own_label g n ++ rest) (inner_stands g n (own_label g n ++ rest) (label_stands g n rest h))
      ∙ own_back g n rest

  leave_back : (x : ℕ) (g : Goal) (n : ℕ) (rest : List Line) → stands rest x ≡ true → back_of (leave_lines x g n ++ rest) ≡ back_of rest
  leave_back x Next n rest h =
      omega (arith, back_none (line_blocks (Label n ∷ rest)) (jump.Jmp (label_name x)) (stands_behind x (Label n ∷ []) rest h))
  leave_back x (Far y) n rest h = omega (arith, back_none (line_blocks rest) (jump.Jmp (label_name x)) h)
  leave_back x (Near y) n rest h = pick (x == y)
    where
      pick : (b : Bool) → back_of ((if b then [] else End (jump.Jmp (label_name x)) ∷ []) ++ rest) ≡ back_of rest
      pick true = refl
      pick false = omega (arith, back_none (line_blocks rest) (jump.Jmp (label_name x)) h)

  return_back : (value : Option Value) (g : Goal) (n k : ℕ) (rest : List Line) →
      back_of (return_lines p.globals value g n k ++ rest) ≡ back_of rest
  return_back None g n k rest = omega (arith, own_back g n rest)
  return_back (Some v) g n k rest =
      ap back_of (append_assoc (address_lines p.globals v k) _ rest) ∙ address_back v k _ ∙ omega (arith, own_back g n rest)

  -- the lines of a single statement, and then the way to its goal
  then_back : (g : Goal) (xs rest : List Line) → goal_stands rest g ≡ true →
      back_of (xs ++ (go_lines g ++ rest)) ≡ back_of (go_lines g ++ rest)
      → back_of ((xs ++ go_lines g) ++ rest) ≡ back_of rest
  then_back g xs rest h e = ap back_of (append_assoc xs (go_lines g) rest) ∙ e ∙ go_back g rest h

  -- ---- sides

  target_stands : (c : Code) (around : ℕ) (es : List ℕ) (x : ℕ) (ls : List Line) → is_right p f around c ≡ true → length es ≡ around →
      list_all (stands ls) es ≡ true → stands ls x ≡ true → stands ls (target c es x) ≡ true
  target_stands (Seq cs) around es x ls r d h k = k
  target_stands (Set t class o a b) around es x ls r d h k = k
  target_stands (Load t how at) around es x ls r d h k = k
  target_stands (Store width value at) around es x ls r d h k = k
  target_stands (Move to from bytes) around es x ls r d h k = k
  target_stands (If cond a b) around es x ls r d h k = k
  target_stands (Loop c) around es x ls r d h k = k
  target_stands (Leave j) around es x ls r d h k =
      let lt : j < around = grind (arith, nat_tests) in exit_stands (stands ls) es (length es - suc j) (omega arith) h
  target_stands (Call temp name args) around es x ls r d h k = k
  target_stands (Ret value) around es x ls r d h k = k

  way_stands : (c : Code) (around : ℕ) (es : List ℕ) (x own : ℕ) (lines ls : List Line) → is_right p f around c ≡ true →
      length es ≡ around →
      list_all (stands ls) es ≡ true → stands ls x ≡ true → stands (side (has_lines c) own lines ++ ls) (way c es x own) ≡ true
  way_stands c around es x own lines ls r d h k = pick (has_lines c)
    where
      pick : (b : Bool) → stands (side b own lines ++ ls) (if b then own else target c es x) ≡ true
      pick true = stands_here own (lines ++ ls)
      pick false = target_stands c around es x ls r d h k

  side_back : (b : Bool) (m loops : ℕ) (lines ls : List Line) → back_of (lines ++ ls) ≤ loops + back_of ls →
      back_of (side b m lines ++ ls) ≤ loops + back_of ls
  side_back true m loops lines ls h = h
  side_back false m loops lines ls h = omega arith

  mutual
    -- where the exits of code and its goal stand behind it, only its Loops jump back
    code_back : (c : Code) (g : Goal) (around n k : ℕ) (es : List ℕ) (rest : List Line) → is_right p f around c ≡ true →
        length es ≡ around → list_all (stands rest) es ≡ true → goal_stands rest g ≡ true
        → back_of (code_lines p c g n k es ++ rest) ≤ loops_in c + back_of rest
    code_back (Seq cs) g around n k es rest r d h i =
        let q = and_parts (nat_lt around deepest) (are_right p f (suc around) cs) r in
        let m = n + fresh (is_next g) in
        let b = not (is_more cs) in
        let tail = seq_end b g n ++ rest in
        let x = end_stands b g n (goal_label g n) rest (label_stands g n rest i) in
        let exits = all_append (stands tail) es (goal_label g n ∷ []) (all_behind es (seq_end b g n) rest h)
        (both_true (stands tail (goal_label g n)) true x refl) in
        omega (
          arith,
          ap back_of (append_assoc (each_lines p cs (inner g n) m k (es ++ goal_label g n ∷ [])) (seq_end b g n) rest),
          each_back cs (inner g n) (suc around) m k (es ++ goal_label g n ∷ []) tail q.1
              (omega (arith, length-append es (goal_label g n ∷ [])))
              exits (inner_stands g n tail x),
          end_back b g n rest i,
        )
    code_back (Set t class o a b) g around n k es rest r d h i =
        let ls = go_lines g ++ rest in
        let same = then_back g (set_lines p.globals t class o a b k) rest i
        (ap back_of (append_assoc (address_lines p.globals a k) _ ls) ∙ address_back a k _
        ∙ ap back_of (append_assoc (address_lines p.globals b (k + addressed a)) _ ls) ∙ address_back b (k + addressed a) _) in
        omega (arith, same)
    code_back (Load t how at) g around n k es rest r d h i =
        let ls = go_lines g ++ rest in
        let same = then_back g (load_lines p.globals t how at k) rest i
        (ap back_of (append_assoc (address_lines p.globals at k) _ ls) ∙ address_back at k _) in
        omega (arith, same)
    code_back (Store width value at) g around n k es rest r d h i =
        let ls = go_lines g ++ rest in
        let same = then_back g (store_lines p.globals width value at k) rest i
        (ap back_of (append_assoc (address_lines p.globals value k) _ ls) ∙ address_back value k _
        ∙ ap back_of (append_assoc (address_lines p.globals at (k + addressed value)) _ ls) ∙ address_back at (k + addressed value) _) in
        omega (arith, same)
    code_back (Move to from bytes) g around n k es rest r d h i =
        let ls = go_lines g ++ rest in
        let same = then_back g (move_lines p.globals to from bytes k) rest i
        (ap back_of (append_assoc (address_lines p.globals to k) _ ls) ∙ address_back to k _
        ∙ ap back_of (append_assoc (address_lines p.globals from (k + addressed to)) _ ls) ∙ address_back from (k + addressed to) _) in
        omega (arith, same)
    code_back (If v a b) g around n k es rest r d h i =
        let q = and_parts (is_operand p f W v) (is_right p f around a && is_right p f around b)
        r in
        let w = and_parts (is_right p f around a) (is_right p f around b) q.1 in
        let x = goal_label g n in
        let one = n + fresh (is_next g) in
        let other = one + fresh (has_lines a) in
        let m = other + fresh (has_lines b) in
        let A = code_lines p a (first_goal (has_lines b) g n) m (k + addressed v) es in
        let B = code_lines p b (inner g n) (m + labels_in a false) (k + addressed v + addresses_in a) es in
        let tail = own_label g n ++ rest in
        let behind_a = side (has_lines b) other B ++ tail in
        let behind = side (has_lines a) one A ++ behind_a in
        let branch = jump.Jnz (operand p.globals v k) (label_name (way a es x one)) (label_name (way b es x other)) in
        let same : code_lines p (If v a b) g n k es ++ rest ≡ address_lines p.globals v k ++ (End branch ∷ behind) =
        five_parts (address_lines p.globals v k) (End branch ∷ []) (side (has_lines a) one A) (side (has_lines b) other B)
        (own_label g n) rest in
        let at_tail = all_behind es (own_label g n) rest h in
        let x_tail = label_stands g n rest i in
        let at_a = all_behind es (side (has_lines b) other B) tail at_tail in
        let x_a = stands_behind x (side (has_lines b) other B) tail x_tail in
        let to_a = way_stands a around es x one A behind_a w.0 d at_a x_a in
        let to_b = stands_behind (way b es x other) (side (has_lines a) one A) behind_a
        (way_stands b around es x other B tail w.1 d at_tail x_tail) in
        omega (
          arith,
          ap back_of same,
          address_back v k (End branch ∷ behind),
          back_none (line_blocks behind) branch (both_true _ _ to_a to_b),
          side_back (has_lines a) one (loops_in a) A behind_a
              (code_back a (first_goal (has_lines b) g n) around m (k + addressed v) es behind_a w.0 d at_a
              (first_stands (has_lines b) g n behind_a x_a)),
          side_back (has_lines b) other (loops_in b) B tail
              (code_back b (inner g n) around (m + labels_in a false) (k + addressed v + addresses_in a) es tail w.1 d at_tail
              (inner_stands g n tail x_tail)),
          own_back g n rest,
        )
    code_back (Loop c) g around n k es rest r d h i =
        let q = and_parts (nat_lt around deepest) (is_right p f (suc around) c) r in
        let begin = n + fresh (is_next g) in
        let body = code_lines p c Next (suc begin) k (es ++ goal_label g n ∷ []) in
        let own = own_label g n ++ rest in
        let tail : List Line = End (jump.Jmp (label_name begin)) ∷ own in
        let same = append_assoc body (End (jump.Jmp (label_name begin)) ∷ own_label g n) rest in
        let enters = back_none (line_blocks (Label begin ∷ (body ++ tail))) (jump.Jmp (label_name begin))
        (stands_here begin (body ++ tail)) in
        let enters' = ap (λ (x : List Line). back (line_blocks (Label begin ∷ x)) (jump.Jmp (label_name begin))) same in
        let turns = back_least (line_blocks own) (jump.Jmp (label_name begin)) in
        let exits = all_append (stands tail) es (goal_label g n ∷ [])
        (all_behind es (End (jump.Jmp (label_name begin)) ∷ own_label g n) rest h)
        (both_true (stands tail (goal_label g n)) true (label_stands g n rest i) refl) in
        omega (
          arith,
          enters,
          enters',
          turns,
          ap back_of same,
          code_back c Next (suc around) (suc begin) k (es ++ goal_label g n ∷ []) tail q.1
              (omega (arith, length-append es (goal_label g n ∷ []))) exits refl,
          own_back g n rest,
        )
    code_back (Leave j) g around n k es rest r d h i =
        let lt : j < around = grind (arith, nat_tests) in
        omega (arith, leave_back (exit_at es j) g n rest (exit_stands (stands rest) es (length es - suc j) (omega arith) h))
    code_back (Call temp name args) g around n k es rest r d h i =
        let ls = go_lines g ++ rest in
        let same = then_back g (named_call_lines p temp name args k) rest i
        (ap back_of (append_assoc (arg_lines p.globals args k) _ ls) ∙ args_back args k _) in
        omega (arith, same)
    code_back (Ret value) g around n k es rest r d h i = omega (arith, return_back value g n k rest)

    each_back : (cs : Codes) (g : Goal) (around n k : ℕ) (es : List ℕ) (rest : List Line) → are_right p f around cs ≡ true →
        length es ≡ around → list_all (stands rest) es ≡ true → goal_stands rest g ≡ true
        → back_of (each_lines p cs g n k es ++ rest) ≤ loops_in_all cs + back_of rest
    each_back none g around n k es rest r d h i = omega arith
    each_back (more c cs) g around n k es rest r d h i =
        let q = and_parts (is_right p f around c) (are_right p f around cs) r in
        let others = each_lines p cs g (n + labels_in c (is_more cs)) (k + addresses_in c) es in
        omega (
          arith,
          ap back_of (append_assoc (code_lines p c (in_front cs g) n k es) others rest),
          code_back c (in_front cs g) around n k es (others ++ rest) q.0 d (all_behind es others rest h)
              (front_stands cs g (n + labels_in c (is_more cs)) (k + addresses_in c) es rest i),
          each_back cs g around (n + labels_in c (is_more cs)) (k + addresses_in c) es rest q.1 d h i,
        )

    front_stands : (cs : Codes) (g : Goal) (n k : ℕ) (es : List ℕ) (rest : List Line) → goal_stands rest g ≡ true →
        goal_stands (each_lines p cs g n k es ++ rest) (in_front cs g) ≡ true
    front_stands none g n k es rest h = h
    front_stands (more c cs) g n k es rest h = refl

  frame_back : (n : ℕ) (ls : List Line) → back_of (frame_lines n ++ ls) ≡ back_of ls
  frame_back zero ls = refl
  frame_back (suc n) ls = refl

  pub jumps_few : is_right p f 0 (code_of f.body) ≡ true → backward_jumps (blocks_of p f) ≤ loops_in (code_of f.body)
  jumps_few r =
      let last : List Line = End (jump.Ret (end_value f.result)) ∷ [] in
      omega (
        arith,
        ap backward_jumps (function_blocks p f),
        back_blocks (function_lines p f),
        ap back_of (append_assoc (frame_lines f.frame) (code_lines p (code_of f.body) Next 1 0 []) last),
        frame_back f.frame (code_lines p (code_of f.body) Next 1 0 [] ++ last),
        code_back (code_of f.body) Next 0 1 0
            [] last r refl refl refl,
      )
