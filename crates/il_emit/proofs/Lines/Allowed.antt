-- The lines of well formed code pass a test that the lines of each form pass.
use Rattle.std.proofs.Common.{◌≡◌, ℕ, zero, suc, ◌+◌, ◌-◌, ◌<◌, ◌≤◌, Bool, true, false, not, ◌&&◌, List, [], ◌∷◌, ◌++◌, length, Option, None, Some, refl, arith, length-append}
use Rattle.std.specs.Prelude.{nat_lt, nat_le, ◌==◌, slice_index_or, if◌then◌else◌}
use Rattle.std.specs.List.{list_all}
use Rattle.std.proofs.lemmas.Bool.{and_parts}
use Rattle.std.proofs.lemmas.Bool.Decides.{nat_tests}
use Rattle.hx_base.specs.declared.Class.{Class}
use Rattle.hx_base.specs.declared.Class.TheVariants.{W, L}
use Rattle.flat_code.specs.declared.op.LoadKind.{LoadKind}
use Rattle.flat_code.specs.declared.op.Op.{Op}
use Rattle.flat_code.specs.declared.program.FlatFn.{FlatFn}
use Rattle.flat_code.specs.declared.program.FlatProgram.{FlatProgram}
use Rattle.flat_code.specs.declared.value.Value.{Value}
use Rattle.flat_code.specs.declared.value.Value.TheVariants.{Temp, Number, Symbol, Frame}
use Rattle.flat_code.specs.Code.{Code, Codes, none, more, Seq, Set, Load, Store, Move, If, Loop, Leave, Call, Ret}
use Rattle.flat_code.specs.Costs.{addressed}
use Rattle.flat_code.specs.Kinds.{op_kind, takes_two, first_class, second_class, may_give}
use Rattle.flat_code.specs.Evaluation.{function_named}
use Rattle.flat_code.specs.Shape.{code_of}
use Rattle.flat_code.specs.Temps.{result_class}
use Rattle.flat_code.specs.WellFormed.{deepest, most, is_bits, is_operand, is_second, is_target, is_width, stored_class, is_right, are_right, are_args, is_return, is_long}
use Rattle.il_code.specs.declared.types.Inst.TheVariants as inst
use Rattle.il_code.specs.declared.types.Jump.TheVariants as jump
use Rattle.il_emit.specs.declared.goal.Goal.{Goal}
use Rattle.il_emit.specs.declared.goal.Goal.TheVariants.{Next, Near, Far}
use Rattle.il_emit.specs.Names.{temp_name, label_name}
use Rattle.il_emit.specs.Ops.{il_op, load_op}
use Rattle.il_emit.specs.Lines.{Line, Label, Do, End, operand, address_inst, place_inst, second, called_params, result_param, args_of, exit_at, is_next, fresh, is_more, has_lines, goal_label, inner, in_front, first_goal, go_lines, own_label, side, seq_end, target, way, if_branch, named_call_lines, address_lines, arg_lines, set_lines, load_lines, store_lines, move_lines, branch_lines, leave_lines, return_lines, code_lines, each_lines, labels_in, labels_in_all, addresses_in, addresses_in_all, addresses_of, all_addressed, frame_lines, inner_lines}
use Rattle.il_emit.proofs.Lines.Calls.{called_args}
use Rattle.il_emit.proofs.Lines.Counts.{both_true, all_append}
use Rattle.il_emit.proofs.NamesAndNumbers.Numbering.{inner_next, first_next, front_next}

-- lines of each form pass, where labels are below `most_labels`, no jump goes to the first, and addresses are below `most_addresses`
pub record LinesPass (p : FlatProgram) (f : FlatFn) (good : Line → Bool) (most_labels most_addresses : ℕ) : Type 0 where
  pub label : (n : ℕ) → n < most_labels → good (Label n) ≡ true
  pub goes : (n : ℕ) → 0 < n → n < most_labels → good (End (jump.Jmp (label_name n))) ≡ true
  pub branch : (v : Value) (k n m : ℕ) → is_operand p f W v ≡ true → k + addressed v ≤ most_addresses → 0 < n →
      n < most_labels → 0 < m → m < most_labels
      → good (End (jump.Jnz (operand p.globals v k) (label_name n) (label_name m))) ≡ true
  pub returns : is_return p f f.result None ≡ true → good (End (jump.Ret None)) ≡ true
  pub returns_value : (v : Value) (k : ℕ) → is_return p f f.result (Some v) ≡ true → k + addressed v ≤ most_addresses →
      good (End (jump.Ret (Some (operand p.globals v k)))) ≡ true
  pub set : (t : ℕ) (class : Class) (o : Op) (a b : Value) (k : ℕ) → is_right p f 0 (Set t class o a b) ≡ true →
      k + addressed a + addressed b ≤ most_addresses
      → good (Do (inst.Set (temp_name t) class (il_op o) (operand p.globals a k)
      (second (takes_two (op_kind o)) (operand p.globals b (k + addressed a))))) ≡ true
  pub load : (t : ℕ) (how : LoadKind) (at : Value) (k : ℕ) → is_right p f 0 (Load t how at) ≡ true → k + addressed at ≤ most_addresses
      → good (Do (inst.Set (temp_name t) L (load_op how) (operand p.globals at k) None)) ≡ true
  pub store : (width : ℕ) (value at : Value) (k : ℕ) → is_right p f 0 (Store width value at) ≡ true →
      k + addressed value + addressed at ≤ most_addresses
      → good (Do (inst.Store width (operand p.globals value k) (operand p.globals at (k + addressed value)))) ≡ true
  pub move : (to from : Value) (bytes k : ℕ) → is_right p f 0 (Move to from bytes) ≡ true →
      k + addressed to + addressed from ≤ most_addresses
      → good (Do (inst.Blit (operand p.globals from (k + addressed to)) (operand p.globals to k) bytes)) ≡ true
  pub call : (temp : Option ℕ) (name : List ℕ) (args : List Value) (k : ℕ) → is_right p f 0 (Call temp name args) ≡ true →
      k + all_addressed args ≤ most_addresses
      → good (Do (inst.Call (result_param temp (result_class p name)) name
      (args_of p.globals (called_params (function_named p.functions name) name) args k))) ≡ true
  pub place : (offset k : ℕ) → offset < f.frame → k < most_addresses → good (Do (place_inst offset k)) ≡ true
  pub address : (i offset k : ℕ) → i < length p.globals → is_bits offset ≡ true → k < most_addresses →
      good (Do (address_inst p.globals i offset k)) ≡ true

module _ (p : FlatProgram) (f : FlatFn) (good : Line → Bool) (most_labels most_addresses : ℕ)
    (pass : LinesPass p f good most_labels most_addresses) where
  address_good : (class : Class) (v : Value) (k : ℕ) → is_operand p f class v ≡ true → k + addressed v ≤ most_addresses →
      list_all good (address_lines p.globals v k) ≡ true
  address_good class (Temp t) k r u = refl
  address_good class (Number n) k r u = refl
  address_good class (Frame offset) k r u =
      let q = (and_parts (is_long class) (nat_lt offset f.frame) r).1 in
      let lt : offset < f.frame = grind (arith, nat_tests) in
      both_true _ true (pass.place offset k lt (omega arith)) refl
  address_good class (Symbol i offset) k r u = pick (offset == 0) refl
    where
      pick : (b : Bool) → (offset == 0) ≡ b → list_all good (address_lines p.globals (Symbol i offset) k) ≡ true
      pick true e = rw e refl
      pick false e =
          let both = and_parts (is_long class) _ r in
          let q = and_parts (nat_lt i (length p.globals)) (is_bits offset) both.1 in
          let lt : i < length p.globals = let z = q.0 in grind (arith, nat_tests) in
          let room : k + 1 ≤ most_addresses = rw e at u in
          rw e (both_true _ true (pass.address i offset k lt q.1 (omega arith)) refl)

  second_good : (class : Class) (two : Bool) (v : Value) (k : ℕ) → is_second p f class two v ≡ true →
      k + addressed v ≤ most_addresses → list_all good (address_lines p.globals v k) ≡ true
  second_good class true v k r u = address_good class v k r u
  second_good class false (Temp t) k r u = refl
  second_good class false (Number n) k r u = refl
  second_good class false (Frame offset) k r u = cc
  second_good class false (Symbol i offset) k r u = cc

  args_good : (cs : List Class) (vs : List Value) (k : ℕ) → are_args p f cs vs ≡ true →
      k + all_addressed vs ≤ most_addresses → list_all good (arg_lines p.globals vs k) ≡ true
  args_good [] [] k r u = refl
  args_good (c ∷ cs) [] k r u = refl
  args_good [] (v ∷ vs) k r u = cc
  args_good (c ∷ cs) (v ∷ vs) k r u =
      let both = and_parts (is_operand p f c v) (are_args p f cs vs) r in
      all_append good (address_lines p.globals v k) _ (address_good c v k both.0 (omega arith))
      (args_good cs vs (k + addressed v) both.1 (omega arith))

  returned_good : (class : Option Class) (v : Value) (k : ℕ) → is_return p f class (Some v) ≡ true →
      k + addressed v ≤ most_addresses → list_all good (address_lines p.globals v k) ≡ true
  returned_good None v k r u = cc
  returned_good (Some c) v k r u = address_good c v k r u

  abbrev inside : ℕ → Bool
  inside e = nat_lt 0 e && nat_lt e most_labels

  inside_is : (e : ℕ) → 0 < e → e < most_labels → inside e ≡ true
  inside_is e l u = let a : nat_lt 0 e ≡ true = grind (arith, nat_tests) in let b : nat_lt e most_labels ≡ true =
      grind (arith, nat_tests) in both_true _ _ a b

  exit_inside : (es : List ℕ) (i : ℕ) → i < length es → list_all inside es ≡ true → inside (slice_index_or es i 0) ≡ true
  exit_inside [] i l h = absurd (omega arith)
  exit_inside (e ∷ es) zero l h = (and_parts (inside e) (list_all inside es) h).0
  exit_inside (e ∷ es) (suc i) l h = exit_inside es i (omega arith) (and_parts (inside e) (list_all inside es) h).1

  goes_good : (e : ℕ) → inside e ≡ true → good (End (jump.Jmp (label_name e))) ≡ true
  goes_good e h =
      let both = and_parts (nat_lt 0 e) (nat_lt e most_labels) h in
      let a : 0 < e = let z = both.0 in grind (arith, nat_tests) in
      let b : e < most_labels = let z = both.1 in grind (arith, nat_tests) in
      pass.goes e a b

  more_exits : (es : List ℕ) (e : ℕ) → list_all inside es ≡ true → inside e ≡ true → list_all inside (es ++ e ∷ []) ≡ true
  more_exits es e h k = all_append inside es (e ∷ []) h (both_true (inside e) true k refl)

  -- ---- goals

  -- the label of a goal is one of the function
  abbrev goal_inside : Goal → Bool
  goal_inside Next = true
  goal_inside (Near x) = inside x
  goal_inside (Far x) = inside x

  label_inside : (g : Goal) (n : ℕ) → goal_inside g ≡ true → 0 < n → n + fresh (is_next g) ≤ most_labels → inside (goal_label g n) ≡ true
  label_inside Next n h z u = inside_is n z (omega arith)
  label_inside (Near x) n h z u = h
  label_inside (Far x) n h z u = h

  inner_inside : (g : Goal) (n : ℕ) → goal_inside g ≡ true → 0 < n → n + fresh (is_next g) ≤ most_labels →
      goal_inside (inner g n) ≡ true
  inner_inside Next n h z u = inside_is n z (omega arith)
  inner_inside (Near x) n h z u = h
  inner_inside (Far x) n h z u = h

  first_inside : (b : Bool) (g : Goal) (n : ℕ) → goal_inside g ≡ true → 0 < n → n + fresh (is_next g) ≤ most_labels →
      goal_inside (first_goal b g n) ≡ true
  first_inside true g n h z u = label_inside g n h z u
  first_inside false g n h z u = inner_inside g n h z u

  front_inside : (cs : Codes) (g : Goal) → goal_inside g ≡ true → goal_inside (in_front cs g) ≡ true
  front_inside none g h = h
  front_inside (more c cs) g h = refl

  own_good : (g : Goal) (n : ℕ) → n + fresh (is_next g) ≤ most_labels → list_all good (own_label g n) ≡ true
  own_good Next n u = both_true _ true (pass.label n (omega arith)) refl
  own_good (Near x) n u = refl
  own_good (Far x) n u = refl

  go_good : (g : Goal) → goal_inside g ≡ true → list_all good (go_lines g) ≡ true
  go_good Next h = refl
  go_good (Near x) h = refl
  go_good (Far x) h = both_true _ true (goes_good x h) refl

  end_good : (b : Bool) (g : Goal) (n : ℕ) → goal_inside g ≡ true → 0 < n → n + fresh (is_next g) ≤ most_labels →
      list_all good (seq_end b g n) ≡ true
  end_good true g n h z u =
      all_append good (go_lines (inner g n)) (own_label g n) (go_good (inner g n) (inner_inside g n h z u)) (own_good g n u)
  end_good false g n h z u = own_good g n u

  leave_good : (e : ℕ) (g : Goal) (n : ℕ) → inside e ≡ true → n + fresh (is_next g) ≤ most_labels →
      list_all good (leave_lines e g n) ≡ true
  leave_good e Next n h u = both_true _ _ (goes_good e h) (both_true _ true (pass.label n (omega arith)) refl)
  leave_good e (Far y) n h u = both_true _ true (goes_good e h) refl
  leave_good e (Near y) n h u = pick (e == y)
    where
      pick : (b : Bool) → list_all good (if b then [] else End (jump.Jmp (label_name e)) ∷ []) ≡ true
      pick true = refl
      pick false = both_true _ true (goes_good e h) refl

  return_good : (value : Option Value) (g : Goal) (n k : ℕ) → is_return p f f.result value ≡ true → n + fresh (is_next g) ≤ most_labels →
      k + addresses_of value ≤ most_addresses → list_all good (return_lines p.globals value g n k) ≡ true
  return_good None g n k r l u = both_true _ _ (pass.returns r) (own_good g n l)
  return_good (Some v) g n k r l u =
      all_append good (address_lines p.globals v k) _ (returned_good f.result v k r u)
      (both_true _ _ (pass.returns_value v k r u) (own_good g n l))

  target_inside : (c : Code) (around : ℕ) (es : List ℕ) (x : ℕ) → is_right p f around c ≡ true → length es ≡ around →
      list_all inside es ≡ true → inside x ≡ true → inside (target c es x) ≡ true
  target_inside (Seq cs) around es x r d h k = k
  target_inside (Set t class o a b) around es x r d h k = k
  target_inside (Load t how at) around es x r d h k = k
  target_inside (Store width value at) around es x r d h k = k
  target_inside (Move to from bytes) around es x r d h k = k
  target_inside (If cond a b) around es x r d h k = k
  target_inside (Loop c) around es x r d h k = k
  target_inside (Leave j) around es x r d h k =
      let lt : j < around = grind (arith, nat_tests) in exit_inside es (length es - suc j) (omega arith) h
  target_inside (Call temp name args) around es x r d h k = k
  target_inside (Ret value) around es x r d h k = k

  way_inside : (c : Code) (around : ℕ) (es : List ℕ) (x own : ℕ) → is_right p f around c ≡ true → length es ≡ around →
      list_all inside es ≡ true → inside x ≡ true → 0 < own → own + fresh (has_lines c) ≤ most_labels → inside (way c es x own) ≡ true
  way_inside c around es x own r d h k z u = pick (has_lines c) u
    where
      pick : (b : Bool) → own + fresh b ≤ most_labels → inside (if b then own else target c es x) ≡ true
      pick true l = inside_is own z (omega arith)
      pick false l = target_inside c around es x r d h k

  side_good : (b : Bool) (m : ℕ) (ls : List Line) → m + fresh b ≤ most_labels → list_all good ls ≡ true → list_all good (side b m ls) ≡ true
  side_good true m ls u h = both_true _ _ (pass.label m (omega arith)) h
  side_good false m ls u h = refl

  branch_good : (v : Value) (x y k : ℕ) → is_operand p f W v ≡ true → k + addressed v ≤ most_addresses → inside x ≡ true → inside y ≡ true →
      list_all good (branch_lines p.globals v x y k) ≡ true
  branch_good v x y k r u hx hy =
      let p' = and_parts (nat_lt 0 x) (nat_lt x most_labels) hx in
      let q = and_parts (nat_lt 0 y) (nat_lt y most_labels) hy in
      let a : 0 < x = let z = p'.0 in grind (arith, nat_tests) in
      let b : x < most_labels = let z = p'.1 in grind (arith, nat_tests) in
      let c : 0 < y = let z = q.0 in grind (arith, nat_tests) in
      let d : y < most_labels = let z = q.1 in grind (arith, nat_tests) in
      all_append good (address_lines p.globals v k) _ (address_good W v k r u)
      (both_true _ true (pass.branch v k x y r u a b c d) refl)

  then_good : (g : Goal) (xs : List Line) → goal_inside g ≡ true → list_all good xs ≡ true → list_all good (xs ++ go_lines g) ≡ true
  then_good g xs i h = all_append good xs (go_lines g) h (go_good g i)

  mutual
    pub code_good : (c : Code) (g : Goal) (around n k : ℕ) (es : List ℕ) → is_right p f around c ≡ true → length es ≡ around →
        list_all inside es ≡ true → goal_inside g ≡ true → 0 < n → n + labels_in c (is_next g) ≤ most_labels →
        k + addresses_in c ≤ most_addresses
        → list_all good (code_lines p c g n k es) ≡ true
    code_good (Seq cs) g around n k es r d h i z l u =
        let both = and_parts (nat_lt around deepest) (are_right p f (suc around) cs) r in
        all_append good (each_lines p cs (inner g n) (n + fresh (is_next g)) k (es ++ goal_label g n ∷ [])) _
        (each_good cs (inner g n) (suc around) (n + fresh (is_next g)) k (es ++ goal_label g n ∷ []) both.1
        (omega (arith, length-append es (goal_label g n ∷ [])))
        (more_exits es (goal_label g n) h (label_inside g n i z (omega arith))) (inner_inside g n i z (omega arith)) (inner_next g n)
        (omega arith) (omega arith) u)
        (end_good (not (is_more cs)) g n i z (omega arith))
    code_good (Set t class o a b) g around n k es r d h i z l u =
        let both = and_parts (is_target p f t class) _ r in
        let q = and_parts (may_give (op_kind o) class) _ both.1 in
        let s = and_parts (is_operand p f (first_class (op_kind o) class) a)
        (is_second p f (second_class (op_kind o) class) (takes_two (op_kind o)) b) q.1 in
        then_good g (set_lines p.globals t class o a b k) i
        (all_append good (address_lines p.globals a k) _ (address_good (first_class (op_kind o) class) a k s.0 (omega arith))
        (all_append good (address_lines p.globals b (k + addressed a)) _
        (second_good (second_class (op_kind o) class) (takes_two (op_kind o)) b (k + addressed a) s.1 (omega arith))
        (both_true _ true (pass.set t class o a b k r (omega arith)) refl)))
    code_good (Load t how at) g around n k es r d h i z l u =
        let both = and_parts (is_target p f t L) (is_operand p f L at) r in
        then_good g (load_lines p.globals t how at k) i
        (all_append good (address_lines p.globals at k) _ (address_good L at k both.1 u)
        (both_true _ true (pass.load t how at k r u) refl))
    code_good (Store width value at) g around n k es r d h i z l u =
        let s = and_parts (is_operand p f (stored_class width) value) (is_operand p f L at) (and_parts (is_width width) _ r).1 in
        then_good g (store_lines p.globals width value at k) i
        (all_append good (address_lines p.globals value k) _ (address_good (stored_class width) value k s.0 (omega arith))
        (all_append good (address_lines p.globals at (k + addressed value)) _ (address_good L at (k + addressed value) s.1 (omega arith))
        (both_true _ true (pass.store width value at k r (omega arith)) refl)))
    code_good (Move to from bytes) g around n k es r d h i z l u =
        let s = and_parts (is_operand p f L to) (is_operand p f L from) (and_parts (nat_le bytes most) _ r).1 in
        then_good g (move_lines p.globals to from bytes k) i
        (all_append good (address_lines p.globals to k) _ (address_good L to k s.0 (omega arith))
        (all_append good (address_lines p.globals from (k + addressed to)) _ (address_good L from (k + addressed to) s.1 (omega arith))
        (both_true _ true (pass.move to from bytes k r (omega arith)) refl)))
    code_good (If cond a b) g around n k es r d h i z l u =
        let both = and_parts (is_operand p f W cond)
        (is_right p f around a && is_right p f around b) r in
        let s = and_parts (is_right p f around a) (is_right p f around b) both.1 in
        let one = n + fresh (is_next g) in
        let other = one + fresh (has_lines a) in
        let m = other + fresh (has_lines b) in
        let fa = first_next (has_lines b) g n in
        let fb = inner_next g n in
        let x = label_inside g n i z (omega arith) in
        let A = code_lines p a (first_goal (has_lines b) g n) m (k + addressed cond) es in
        let B = code_lines p b (inner g n) (m + labels_in a false) (k + addressed cond + addresses_in a) es in
        all_append good (if_branch p.globals cond a b g n k es) _
        (branch_good cond _ _ k both.0 (omega arith)
        (way_inside a around es (goal_label g n) one s.0 d h x (omega arith) (omega arith))
        (way_inside b around es (goal_label g n) other s.1 d h x (omega arith) (omega arith)))
        (all_append good (side (has_lines a) one A) _
        (side_good (has_lines a) one A (omega arith)
        (code_good a (first_goal (has_lines b) g n) around m (k + addressed cond) es s.0 d h
        (first_inside (has_lines b) g n i z (omega arith))
        (omega arith) (rw fa (omega arith)) (omega arith)))
        (all_append good (side (has_lines b) other B) _
        (side_good (has_lines b) other B (omega arith)
        (code_good b (inner g n) around (m + labels_in a false) (k + addressed cond + addresses_in a) es s.1 d h
        (inner_inside g n i z (omega arith))
        (omega arith) (rw fb (omega arith)) (omega arith)))
        (own_good g n (omega arith))))
    code_good (Loop c) g around n k es r d h i z l u =
        let both = and_parts (nat_lt around deepest) (is_right p f (suc around) c) r in
        let begin = n + fresh (is_next g) in
        both_true _ _ (pass.goes begin (omega arith) (omega arith))
        (both_true _ _ (pass.label begin (omega arith))
        (all_append good (code_lines p c Next (suc begin) k (es ++ goal_label g n ∷ [])) _
        (code_good c Next (suc around) (suc begin) k (es ++ goal_label g n ∷ []) both.1
        (omega (arith, length-append es (goal_label g n ∷ [])))
        (more_exits es (goal_label g n) h (label_inside g n i z (omega arith))) refl (omega arith) (omega arith) u)
        (both_true _ _ (pass.goes begin (omega arith) (omega arith)) (own_good g n (omega arith)))))
    code_good (Leave j) g around n k es r d h i z l u =
        let lt : j < around = grind (arith, nat_tests) in
        leave_good (exit_at es j) g n (exit_inside es (length es - suc j) (omega arith) h) l
    code_good (Call temp name args) g around n k es r d h i z l u =
        then_good g (named_call_lines p temp name args k) i
        (all_append good (arg_lines p.globals args k) _
        (args_good (called_params (function_named p.functions name) name) args k
        (called_args p f temp args name (function_named p.functions name) r) u)
        (both_true _ true (pass.call temp name args k r u) refl))
    code_good (Ret value) g around n k es r d h i z l u = return_good value g n k r l u

    each_good : (cs : Codes) (g : Goal) (around n k : ℕ) (es : List ℕ) → are_right p f around cs ≡ true → length es ≡ around →
        list_all inside es ≡ true → goal_inside g ≡ true → is_next g ≡ false → 0 < n → n + labels_in_all cs ≤ most_labels →
        k + addresses_in_all cs ≤ most_addresses
        → list_all good (each_lines p cs g n k es) ≡ true
    each_good none g around n k es r d h i e z l u = refl
    each_good (more c cs) g around n k es r d h i e z l u =
        let both = and_parts (is_right p f around c) (are_right p f around cs) r in
        let front = front_next cs g e in
        all_append good (code_lines p c (in_front cs g) n k es) _
        (code_good c (in_front cs g) around n k es both.0 d h (front_inside cs g i) z (rw front (omega arith)) (omega arith))
        (each_good cs g around (n + labels_in c (is_more cs)) (k + addresses_in c) es both.1 d h i e (omega arith) (omega arith)
        (omega arith))

  pub inner_good : is_right p f 0 (code_of f.body) ≡ true → suc (labels_in (code_of f.body) true) ≤ most_labels →
      addresses_in (code_of f.body) ≤ most_addresses → list_all good (frame_lines f.frame) ≡ true → list_all good (inner_lines p f) ≡ true
  inner_good r l u h = all_append good (frame_lines f.frame) _ h
      (code_good (code_of f.body) Next 0 1 0 [] r refl refl refl (omega arith) (omega arith) (omega arith))
