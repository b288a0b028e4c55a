-- The blocks of a function call no more often than its code has Calls.
use Rattle.std.proofs.Common.{◌≡◌, ℕ, zero, suc, ◌+◌, ◌≤◌, Bool, true, false, cond, not, List, [], ◌∷◌, ◌++◌, Option, None, Some, refl, ap, ◌∙◌, arith}
use Rattle.std.specs.Prelude.{bytes_eq, count_by, ◌==◌, if◌then◌else◌}
use Rattle.flat_code.specs.declared.program.FlatFn.{FlatFn}
use Rattle.flat_code.specs.declared.program.FlatProgram.{FlatProgram}
use Rattle.flat_code.specs.declared.value.Value.{Value}
use Rattle.flat_code.specs.declared.value.Value.TheVariants.{Temp, Number, Symbol, Frame}
use Rattle.flat_code.specs.Code.{Code, Codes, none, more, Seq, Set, Load, Store, Move, If, Loop, Leave, Call, Ret}
use Rattle.flat_code.specs.Costs.{addressed}
use Rattle.flat_code.specs.Shape.{code_of}
use Rattle.il_code.specs.declared.types.Block.{Block}
use Rattle.il_code.specs.declared.types.Inst.{Inst}
use Rattle.il_code.specs.declared.types.Jump.TheVariants as jump
use Rattle.il_emit.specs.declared.goal.Goal.{Goal}
use Rattle.il_emit.specs.declared.goal.Goal.TheVariants.{Next, Near, Far}
use Rattle.il_emit.specs.Names.{label_name}
use Rattle.il_emit.specs.Lines.{Line, Label, Do, End, exit_at, is_next, fresh, is_more, has_lines, goal_label, inner, in_front, first_goal, go_lines, own_label, side, seq_end, if_branch, named_call_lines, address_lines, arg_lines, set_lines, load_lines, store_lines, move_lines, leave_lines, return_lines, code_lines, each_lines, frame_lines, inner_lines, end_value, function_lines, labels_in, addresses_in}
use Rattle.il_emit.specs.Emitted.{blocks_of}
use Rattle.flat_code.specs.Contents.{calls_in, calls_in_all}
use Rattle.il_emit.specs.Shape.{is_call_of, calls_of}
use Rattle.il_emit.proofs.Lines.Blocks.{block}
use Rattle.il_emit.proofs.Lines.Counts.{sum_cons}
use Rattle.il_emit.proofs.Lines.Places.{insts_of, jump_of, line_blocks, function_blocks}

-- ---- calls, counted over lines

abbrev one_call : List ℕ → Inst → ℕ
one_call name i = cond (is_call_of name i) 1 0

abbrev line_calls : List ℕ → List Line → ℕ
line_calls name [] = 0
line_calls name (Label n ∷ ls) = line_calls name ls
line_calls name (Do i ∷ ls) = one_call name i + line_calls name ls
line_calls name (End j ∷ ls) = line_calls name ls

call_blocks : (name : List ℕ) (ls : List Line) → count_by (is_call_of name) (insts_of ls) + calls_of name (line_blocks ls) ≤ line_calls name
    ls
call_blocks name [] = omega arith
call_blocks name (Label n ∷ ls) =
    omega (
      arith,
      call_blocks name ls,
      sum_cons (λ (b : Block). count_by (is_call_of name) b.insts)
          (block (label_name n) (insts_of ls) (jump_of ls)) (line_blocks ls),
    )
call_blocks name (Do i ∷ ls) = omega (arith, call_blocks name ls, sum_cons (λ (x : Inst). one_call name x) i (insts_of ls))
call_blocks name (End j ∷ ls) = omega (arith, call_blocks name ls)

calls_append : (name : List ℕ) (xs ys : List Line) → line_calls name (xs ++ ys) ≡ line_calls name xs + line_calls name ys
calls_append name [] ys = omega arith
calls_append name (Label n ∷ xs) ys = calls_append name xs ys
calls_append name (Do i ∷ xs) ys = omega (arith, calls_append name xs ys)
calls_append name (End j ∷ xs) ys = calls_append name xs ys

module _ (p : FlatProgram) (name : List ℕ) where
  address_calls : (v : Value) (k : ℕ) → line_calls name (address_lines p.globals v k) ≡ 0
  address_calls (Temp t) k = refl
  address_calls (Number n) k = refl
  address_calls (Frame offset) k = refl
  address_calls (Symbol i offset) k = pick (offset == 0) refl
    where
      pick : (b : Bool) → (offset == 0) ≡ b → line_calls name (address_lines p.globals (Symbol i offset) k) ≡ 0
      pick true e = rw e refl
      pick false e = rw e refl

  behind_calls : (v : Value) (k : ℕ) (ls : List Line) → line_calls name (address_lines p.globals v k ++ ls) ≡ line_calls name ls
  behind_calls v k ls = calls_append name (address_lines p.globals v k) ls ∙ omega (arith, address_calls v k)

  args_calls : (vs : List Value) (k : ℕ) → line_calls name (arg_lines p.globals vs k) ≡ 0
  args_calls [] k = refl
  args_calls (v ∷ vs) k = omega (
    arith,
    calls_append name (address_lines p.globals v k) (arg_lines p.globals vs (k + addressed v)),
    address_calls v k,
    args_calls vs (k + addressed v),
  )

  own_calls : (g : Goal) (n : ℕ) → line_calls name (own_label g n) ≡ 0
  own_calls Next n = refl
  own_calls (Near x) n = refl
  own_calls (Far x) n = refl

  go_calls : (g : Goal) → line_calls name (go_lines g) ≡ 0
  go_calls Next = refl
  go_calls (Near x) = refl
  go_calls (Far x) = refl

  end_calls : (b : Bool) (g : Goal) (n : ℕ) → line_calls name (seq_end b g n) ≡ 0
  end_calls true g n =
      calls_append name (go_lines (inner g n)) (own_label g n) ∙ omega (arith, go_calls (inner g n), own_calls g n)
  end_calls false g n = own_calls g n

  leave_calls : (x : ℕ) (g : Goal) (n : ℕ) → line_calls name (leave_lines x g n) ≡ 0
  leave_calls x Next n = refl
  leave_calls x (Far y) n = refl
  leave_calls x (Near y) n = pick (x == y)
    where
      pick : (b : Bool) → line_calls name (if b then [] else End (jump.Jmp (label_name x)) ∷ []) ≡ 0
      pick true = refl
      pick false = refl

  side_calls : (b : Bool) (m : ℕ) (ls : List Line) → line_calls name (side b m ls) ≤ line_calls name ls
  side_calls true m ls = omega arith
  side_calls false m ls = omega arith

  return_calls : (value : Option Value) (g : Goal) (n k : ℕ) → line_calls name (return_lines p.globals value g n k) ≡ 0
  return_calls None g n k = own_calls g n
  return_calls (Some v) g n k = behind_calls v k _ ∙ own_calls g n

  -- the lines of a single statement, and then the way to its goal
  then_calls : (g : Goal) (xs : List Line) → line_calls name (xs ++ go_lines g) ≡ line_calls name xs
  then_calls g xs = calls_append name xs (go_lines g) ∙ omega (arith, go_calls g)

  counted : (b : Bool) → cond b 1 0 + 0 ≡ (if b then 1 else 0)
  counted true = refl
  counted false = refl

  mutual
    code_calls : (c : Code) (g : Goal) (n k : ℕ) (es : List ℕ) → line_calls name (code_lines p c g n k es) ≤ calls_in name c
    code_calls (Seq cs) g n k es =
        let each = each_lines p cs (inner g n) (n + fresh (is_next g)) k (es ++ goal_label g n ∷ []) in
        omega (
          arith,
          calls_append name each (seq_end (not (is_more cs)) g n),
          each_calls cs (inner g n) (n + fresh (is_next g)) k (es ++ goal_label g n ∷ []),
          end_calls (not (is_more cs)) g n,
        )
    code_calls (Set t class o a b) g n k es =
        let same : line_calls name (code_lines p (Set t class o a b) g n k es) ≡ 0 =
        then_calls g (set_lines p.globals t class o a b k) ∙ behind_calls a k _ ∙ behind_calls b (k + addressed a) _ in
        omega (arith, same)
    code_calls (Load t how at) g n k es =
        let same : line_calls name (code_lines p (Load t how at) g n k es) ≡ 0 =
        then_calls g (load_lines p.globals t how at k) ∙ behind_calls at k _ in
        omega (arith, same)
    code_calls (Store width value at) g n k es =
        let same : line_calls name (code_lines p (Store width value at) g n k es) ≡ 0 =
        then_calls g (store_lines p.globals width value at k) ∙ behind_calls value k _ ∙ behind_calls at (k + addressed value) _ in
        omega (arith, same)
    code_calls (Move to from bytes) g n k es =
        let same : line_calls name (code_lines p (Move to from bytes) g n k es) ≡ 0 =
        then_calls g (move_lines p.globals to from bytes k) ∙ behind_calls to k _ ∙ behind_calls from (k + addressed to) _ in
        omega (arith, same)
    code_calls (If v a b) g n k es =
        let one = n + fresh (is_next g) in
        let other = one + fresh (has_lines a) in
        let m = other + fresh (has_lines b) in
        let A = code_lines p a (first_goal (has_lines b) g n) m (k + addressed v) es in
        let B = code_lines p b (inner g n) (m + labels_in a false) (k + addressed v + addresses_in a) es in
        let branch : line_calls name (if_branch p.globals v a b g n k es) ≡ 0 = behind_calls v k _ in
        omega (
          arith,
          branch,
          calls_append name (if_branch p.globals v a b g n k es)
              (side (has_lines a) one A ++ (side (has_lines b) other B ++ own_label g n)),
          calls_append name (side (has_lines a) one A) (side (has_lines b) other B ++ own_label g n),
          calls_append name (side (has_lines b) other B) (own_label g n),
          side_calls (has_lines a) one A,
          side_calls (has_lines b) other B,
          own_calls g n,
          code_calls a (first_goal (has_lines b) g n) m (k + addressed v) es,
          code_calls b (inner g n) (m + labels_in a false) (k + addressed v + addresses_in a) es,
        )
    code_calls (Loop c) g n k es =
        let begin = n + fresh (is_next g) in
        omega (
          arith,
          calls_append name (code_lines p c Next (suc begin) k (es ++ goal_label g n ∷ []))
              (End (jump.Jmp (label_name begin)) ∷ own_label g n),
          own_calls g n,
          code_calls c Next (suc begin) k (es ++ goal_label g n ∷ []),
        )
    code_calls (Leave j) g n k es = omega (arith, leave_calls (exit_at es j) g n)
    code_calls (Call temp target args) g n k es =
        let same : line_calls name (code_lines p (Call temp target args) g n k es) ≡ line_calls name (arg_lines p.globals args k) +
        (cond (bytes_eq target name) 1 0 + 0) =
        then_calls g (named_call_lines p temp target args k) ∙ calls_append name (arg_lines p.globals args k) _ in
        omega (arith, same, args_calls args k, counted (bytes_eq target name))
    code_calls (Ret value) g n k es = omega (arith, return_calls value g n k)

    each_calls : (cs : Codes) (g : Goal) (n k : ℕ) (es : List ℕ) → line_calls name (each_lines p cs g n k es) ≤ calls_in_all name cs
    each_calls none g n k es = omega arith
    each_calls (more c cs) g n k es =
        omega (
          arith,
          calls_append name (code_lines p c (in_front cs g) n k es)
              (each_lines p cs g (n + labels_in c (is_more cs)) (k + addresses_in c) es),
          code_calls c (in_front cs g) n k es,
          each_calls cs g (n + labels_in c (is_more cs)) (k + addresses_in c) es,
        )

  frame_calls : (n : ℕ) → line_calls name (frame_lines n) ≡ 0
  frame_calls zero = refl
  frame_calls (suc n) = refl

  pub calls_few : (f : FlatFn) → calls_of name (blocks_of p f) ≤ calls_in name (code_of f.body)
  calls_few f =
      let last : List Line = End (jump.Ret (end_value f.result)) ∷ [] in
      omega (
        arith,
        ap (calls_of name) (function_blocks p f),
        call_blocks name (function_lines p f),
        calls_append name (inner_lines p f) last,
        calls_append name (frame_lines f.frame) (code_lines p (code_of f.body) Next 1 0 []),
        frame_calls f.frame,
        code_calls (code_of f.body) Next 1 0 [],
      )
