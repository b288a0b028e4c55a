-- Which labels, temporaries and addresses the lines of code have.
use Rattle.std.proofs.Common.{◌≡◌, ℕ, zero, suc, ◌+◌, ◌<◌, ◌≤◌, ◌^◌, Bool, true, false, cond, not, ◌&&◌, ◌||◌, List, [], ◌∷◌, ◌++◌, length, Option, None, Some, refl, sym, ap, ◌∙◌, arith, inl, inr}
use Rattle.std.specs.Prelude.{bytes_eq, nat_eq, nat_lt, nat_le, ◌==◌, if◌then◌else◌}
use Rattle.std.specs.List.{list_any}
use Rattle.std.proofs.lemmas.Bool.{and_parts, cases_lt, or_cases}
use Rattle.std.proofs.lemmas.Bool.Decides.{nat_tests}
use Rattle.hx_base.specs.declared.Class.{Class}
use Rattle.hx_base.specs.declared.Class.TheVariants.{W, L}
use Rattle.flat_code.specs.declared.program.FlatFn.{FlatFn}
use Rattle.flat_code.specs.declared.program.FlatProgram.{FlatProgram}
use Rattle.flat_code.specs.declared.value.Value.{Value}
use Rattle.flat_code.specs.declared.value.Value.TheVariants.{Temp, Number, Symbol, Frame}
use Rattle.flat_code.specs.Code.{Code, Codes, codes_of, none, more, Seq, Set, Load, Store, Move, If, Loop, Leave, Call, Ret}
use Rattle.flat_code.specs.Costs.{addressed}
use Rattle.flat_code.specs.Shape.{code_of}
use Rattle.flat_code.specs.Kinds.{op_kind, takes_two, first_class, second_class, may_give}
use Rattle.flat_code.specs.Evaluation.{function_named}
use Rattle.flat_code.specs.Temps.{result_class, call_sets, code_sets, one_sets, params_set, same_class, has_one_class, is_temp_of}
use Rattle.flat_code.specs.WellFormed.{deepest, most, is_operand, is_second, is_target, is_width, stored_class, is_right, are_right, are_args, takes_result, is_return}
use Rattle.il_code.specs.declared.types.IlParam.{IlParam}
use Rattle.il_code.specs.declared.types.Inst.{Inst}
use Rattle.il_code.specs.declared.types.Jump.TheVariants as jump
use Rattle.il_code.specs.Rules.{sets, result_sets, inst_sets}
use Rattle.il_emit.specs.declared.goal.Goal.{Goal}
use Rattle.il_emit.specs.declared.goal.Goal.TheVariants.{Next, Near, Far}
use Rattle.il_emit.specs.Names.{temp_name, address_name, frame_name, label_name}
use Rattle.il_emit.specs.Lines.{Line, End, is_next, fresh, is_more, has_lines, goal_label, inner, in_front, first_goal, go_lines, own_label, side, seq_end, way, if_branch, named_call_lines, exit_at, address_lines, arg_lines, set_lines, load_lines, store_lines, move_lines, branch_lines, leave_lines, return_lines, code_lines, each_lines, labels_in, labels_in_all, addresses_in, addresses_in_all, addresses_of, all_addressed, result_param, called_params, frame_lines, inner_lines}
use Rattle.il_emit.specs.Emitted.{params_of}
use Rattle.il_emit.proofs.Lines.Calls.{called_args, called_takes}
use Rattle.il_emit.proofs.Lines.Counts.{or_true, either}
use Rattle.il_emit.proofs.NamesAndNumbers.NumberedNames.{bytes_same, temp_eq, label_eq}
use Rattle.il_emit.proofs.Lines.Blocks.{tidy, tidy_to, tidy_append, lines_any, any_append, lines_labelled, labelled_append}

-- ---- goals

-- what stands last within a statement never has the next lines as its goal
pub inner_next : (g : Goal) (n : ℕ) → is_next (inner g n) ≡ false
inner_next Next n = refl
inner_next (Near x) n = refl
inner_next (Far x) n = refl

pub first_next : (b : Bool) (g : Goal) (n : ℕ) → is_next (first_goal b g n) ≡ false
first_next true g n = refl
first_next false g n = inner_next g n

pub front_next : (cs : Codes) (g : Goal) → is_next g ≡ false → is_next (in_front cs g) ≡ is_more cs
front_next none g h = h
front_next (more c cs) g h = refl

-- ---- sides without lines

pub more_is : (cs : List Code) → not (length cs == 0) ≡ is_more (codes_of cs)
more_is [] = refl
more_is (c ∷ cs) = grind (arith, nat_tests)

pub no_labels : (c : Code) → has_lines c ≡ false → labels_in c false ≡ 0
no_labels (Seq none) h = refl
no_labels (Seq (more c cs)) h = cc
no_labels (Set t class o a b) h = refl
no_labels (Load t how at) h = refl
no_labels (Store width value at) h = refl
no_labels (Move to from bytes) h = refl
no_labels (If cond a b) h = cc
no_labels (Loop c) h = cc
no_labels (Leave j) h = refl
no_labels (Call temp name args) h = refl
no_labels (Ret value) h = refl

pub no_addresses : (c : Code) → has_lines c ≡ false → addresses_in c ≡ 0
no_addresses (Seq none) h = refl
no_addresses (Seq (more c cs)) h = cc
no_addresses (Set t class o a b) h = cc
no_addresses (Load t how at) h = cc
no_addresses (Store width value at) h = cc
no_addresses (Move to from bytes) h = cc
no_addresses (If cond a b) h = cc
no_addresses (Loop c) h = cc
no_addresses (Leave j) h = refl
no_addresses (Call temp name args) h = cc
no_addresses (Ret value) h = cc

no_sets : (p : FlatProgram) (t : ℕ) (class : Class) (c : Code) → has_lines c ≡ false → code_sets p t class c ≡ false
no_sets p t class (Seq none) h = refl
no_sets p t class (Seq (more c cs)) h = cc
no_sets p t class (Set u d o a b) h = cc
no_sets p t class (Load u how at) h = cc
no_sets p t class (Store width value at) h = cc
no_sets p t class (Move to from bytes) h = cc
no_sets p t class (If cond a b) h = cc
no_sets p t class (Loop c) h = cc
no_sets p t class (Leave j) h = refl
no_sets p t class (Call temp name args) h = cc
no_sets p t class (Ret value) h = cc

-- ---- nothing but a label stands behind a jump

own_tidy : (g : Goal) (n : ℕ) → tidy_to (is_next g) false (own_label g n) ≡ true
own_tidy Next n = refl
own_tidy (Near x) n = refl
own_tidy (Far x) n = refl

go_tidy : (g : Goal) → tidy_to (is_next g) true (go_lines g) ≡ true
go_tidy Next = refl
go_tidy (Near x) = refl
go_tidy (Far x) = refl

empty_tidy : (g : Goal) (n : ℕ) → tidy_to (is_next g) true (seq_end true g n) ≡ true
empty_tidy Next n = refl
empty_tidy (Near x) n = refl
empty_tidy (Far x) n = refl

leave_tidy : (x : ℕ) (g : Goal) (n : ℕ) → tidy_to (is_next g) true (leave_lines x g n) ≡ true
leave_tidy x Next n = refl
leave_tidy x (Far y) n = refl
leave_tidy x (Near y) n = pick (x == y)
  where
    pick : (b : Bool) → tidy_to false true (if b then [] else End (jump.Jmp (label_name x)) ∷ []) ≡ true
    pick true = refl
    pick false = refl

side_tidy : (b : Bool) (m : ℕ) (ls : List Line) → tidy_to false true ls ≡ true → tidy_to false false (side b m ls) ≡ true
side_tidy true m ls h = h
side_tidy false m ls h = refl

module _ (p : FlatProgram) where
  address_tidy : (v : Value) (k : ℕ) → tidy true (address_lines p.globals v k) ≡ true
  address_tidy (Temp t) k = refl
  address_tidy (Number n) k = refl
  address_tidy (Frame offset) k = refl
  address_tidy (Symbol i offset) k = pick (offset == 0) refl
    where
      pick : (b : Bool) → (offset == 0) ≡ b → tidy true (address_lines p.globals (Symbol i offset) k) ≡ true
      pick true e = rw e refl
      pick false e = rw e refl

  args_tidy : (vs : List Value) (k : ℕ) → tidy true (arg_lines p.globals vs k) ≡ true
  args_tidy [] k = refl
  args_tidy (v ∷ vs) k = tidy_append true true true (address_lines p.globals v k) (arg_lines p.globals vs (k + addressed v))
      (address_tidy v k)
      (args_tidy vs (k + addressed v))

  return_tidy : (value : Option Value) (g : Goal) (n k : ℕ) → tidy_to (is_next g) true (return_lines p.globals value g n k) ≡ true
  return_tidy None g n k = own_tidy g n
  return_tidy (Some v) g n k = tidy_append true (is_next g) true (address_lines p.globals v k) _ (address_tidy v k) (own_tidy g n)

  -- the lines of a single statement, and then the way to its goal
  then_go : (g : Goal) (xs : List Line) → tidy true xs ≡ true → tidy_to (is_next g) true (xs ++ go_lines g) ≡ true
  then_go g xs h = tidy_append true (is_next g) true xs (go_lines g) h (go_tidy g)

  branch_tidy : (v : Value) (x y k : ℕ) → tidy_to false true (branch_lines p.globals v x y k) ≡ true
  branch_tidy v x y k = tidy_append true false true (address_lines p.globals v k) _ (address_tidy v k) refl

  ended : (g : Goal) (ls : List Line) → is_next g ≡ false → tidy_to (is_next g) true ls ≡ true → tidy_to false true ls ≡ true
  ended g ls e h = rw e at h

  seq_tidy : (cs : Codes) (g : Goal) (n k : ℕ) (es : List ℕ) →
      tidy_to false true (each_lines p cs (inner g n) (n + fresh (is_next g)) k (es ++ goal_label g n ∷ [])) ≡ true →
      tidy_to (is_next g) true (code_lines p (Seq cs) g n k es) ≡ true
  seq_tidy none g n k es h = empty_tidy g n
  seq_tidy (more c cs) g n k es h =
      tidy_append false (is_next g) true
      (each_lines p (more c cs) (inner g n) (n + fresh (is_next g)) k (es ++ goal_label g n ∷ [])) (own_label g n) h (own_tidy g n)

  behind_tidy : (cs : Codes) (g : Goal) (n k : ℕ) (es : List ℕ) → tidy_to false true (each_lines p cs g n k es) ≡ true →
      tidy_to false (is_next (in_front cs g)) (each_lines p cs g n k es) ≡ true
  behind_tidy none g n k es h = refl
  behind_tidy (more c cs) g n k es h = h

  mutual
    pub code_tidy : (c : Code) (g : Goal) (n k : ℕ) (es : List ℕ) → tidy_to (is_next g) true (code_lines p c g n k es) ≡ true
    code_tidy (Seq cs) g n k es =
        seq_tidy cs g n k es (each_tidy cs (inner g n) (n + fresh (is_next g)) k (es ++ goal_label g n ∷ []))
    code_tidy (Set t class o a b) g n k es =
        then_go g (set_lines p.globals t class o a b k)
        (tidy_append true true true (address_lines p.globals a k) _ (address_tidy a k)
        (tidy_append true true true (address_lines p.globals b (k + addressed a)) _ (address_tidy b (k + addressed a)) refl))
    code_tidy (Load t how at) g n k es =
        then_go g (load_lines p.globals t how at k) (tidy_append true true true (address_lines p.globals at k) _ (address_tidy at k) refl)
    code_tidy (Store width value at) g n k es =
        then_go g (store_lines p.globals width value at k)
        (tidy_append true true true (address_lines p.globals value k) _ (address_tidy value k)
        (tidy_append true true true (address_lines p.globals at (k + addressed value)) _ (address_tidy at (k + addressed value)) refl))
    code_tidy (Move to from bytes) g n k es =
        then_go g (move_lines p.globals to from bytes k)
        (tidy_append true true true (address_lines p.globals to k) _ (address_tidy to k)
        (tidy_append true true true (address_lines p.globals from (k + addressed to)) _ (address_tidy from (k + addressed to)) refl))
    code_tidy (If cond a b) g n k es =
        let one = n + fresh (is_next g) in
        let other = one + fresh (has_lines a) in
        let m = other + fresh (has_lines b) in
        let A = code_lines p a (first_goal (has_lines b) g n) m (k + addressed cond) es in
        let B = code_lines p b (inner g n) (m + labels_in a false) (k + addressed cond + addresses_in a) es in
        tidy_append false (is_next g) true (if_branch p.globals cond a b g n k es) _ (branch_tidy cond _ _ k)
        (tidy_append false (is_next g) false (side (has_lines a) one A) _
        (side_tidy (has_lines a) one A (ended (first_goal (has_lines b) g n) A (first_next (has_lines b) g n)
        (code_tidy a (first_goal (has_lines b) g n) m (k + addressed cond) es)))
        (tidy_append false (is_next g) false (side (has_lines b) other B) _
        (side_tidy (has_lines b) other B (ended (inner g n) B (inner_next g n)
        (code_tidy b (inner g n) (m + labels_in a false) (k + addressed cond + addresses_in a) es)))
        (own_tidy g n)))
    code_tidy (Loop c) g n k es =
        tidy_append true (is_next g) true (code_lines p c Next (suc (n + fresh (is_next g))) k (es ++ goal_label g n ∷ [])) _
        (code_tidy c Next (suc (n + fresh (is_next g))) k (es ++ goal_label g n ∷ [])) (own_tidy g n)
    code_tidy (Leave j) g n k es = leave_tidy (exit_at es j) g n
    code_tidy (Call temp name args) g n k es =
        then_go g (named_call_lines p temp name args k) (tidy_append true true true (arg_lines p.globals args k) _ (args_tidy args k) refl)
    code_tidy (Ret value) g n k es = return_tidy value g n k

    each_tidy : (cs : Codes) (g : Goal) (n k : ℕ) (es : List ℕ) → tidy_to false true (each_lines p cs g n k es) ≡ true
    each_tidy none g n k es = refl
    each_tidy (more c cs) g n k es =
        let others = each_lines p cs g (n + labels_in c (is_more cs)) (k + addresses_in c) es in
        tidy_append (is_next (in_front cs g)) false true (code_lines p c (in_front cs g) n k es) others (code_tidy c (in_front cs g) n k es)
        (behind_tidy cs g (n + labels_in c (is_more cs)) (k + addresses_in c) es
        (each_tidy cs g (n + labels_in c (is_more cs)) (k + addresses_in c) es))

  frame_tidy : (n : ℕ) → tidy true (frame_lines n) ≡ true
  frame_tidy zero = refl
  frame_tidy (suc n) = refl

  pub inner_tidy : (f : FlatFn) → tidy true (inner_lines p f) ≡ true
  inner_tidy f = tidy_append true true true (frame_lines f.frame) (code_lines p (code_of f.body) Next 1 0 []) (frame_tidy f.frame)
      (code_tidy (code_of f.body) Next 1 0 [])

-- ---- each label stands once

-- 1 for the number itself
abbrev pub one : ℕ → ℕ → ℕ
one x n = cond (nat_eq n x) 1 0

-- how often `x` stands among `m` numbers from `n` on
abbrev pub within : ℕ → ℕ → ℕ → ℕ
within x n zero = 0
within x n (suc m) = one x n + within x (suc n) m

within_at : (x m n n' : ℕ) → n ≡ n' → within x n m ≡ within x n' m
within_at x m n n' e = ap (λ (s : ℕ). within x s m) e

within_by : (x n m m' : ℕ) → m ≡ m' → within x n m ≡ within x n m'
within_by x n m m' e = ap (λ (s : ℕ). within x n s) e

within_add : (x n a b : ℕ) → within x n (a + b) ≡ within x n a + within x (n + a) b
within_add x n zero b = omega (arith, within_by x n (0 + b) b (omega arith), within_at x b n (n + 0) (omega arith))
within_add x n (suc a) b =
    omega (
      arith,
      within_by x n (suc a + b) (suc (a + b)) (omega arith),
      within_add x (suc n) a b,
      within_at x b (suc n + a) (n + suc a)
          (omega arith),
    )

within_past : (x n m : ℕ) → x < n → within x n m ≡ 0
within_past x n zero h = refl
within_past x n (suc m) h =
    let e : nat_eq n x ≡ false = grind (arith, nat_tests) in
    rw e (omega (arith, within_past x (suc n) m (omega arith)))

pub within_in : (x n m : ℕ) → n ≤ x → x < n + m → within x n m ≡ 1
within_in x n zero h k = absurd (omega arith)
within_in x n (suc m) h k = pick (nat_eq n x) refl (λ lt. within_in x (suc n) m lt (omega arith))
  where
    pick : (b : Bool) → nat_eq n x ≡ b → (suc n ≤ x → within x (suc n) m ≡ 1) → within x n (suc m) ≡ 1
    pick true e on = let s : n ≡ x = grind (arith, nat_tests) in rw e (omega (arith, within_past x (suc n) m (omega arith)))
    pick false e on = let lt : suc n ≤ x = grind (arith, nat_tests) in rw e (omega (arith, on lt))

module _ (p : FlatProgram) (x : ℕ) (small : x < 2 ^ 64) where
  hit : (n : ℕ) → n < 2 ^ 64 → cond (bytes_eq (label_name n) (label_name x)) 1 0 ≡ one x n
  hit n h = ap (λ (b : Bool). cond b 1 0) (label_eq n x h small)

  one_at : (m n : ℕ) → m ≡ n → one x m ≡ one x n
  one_at m n e = ap (λ (s : ℕ). one x s) e

  address_labels : (v : Value) (k : ℕ) → lines_labelled (label_name x) (address_lines p.globals v k) ≡ 0
  address_labels (Temp t) k = refl
  address_labels (Number n) k = refl
  address_labels (Frame offset) k = refl
  address_labels (Symbol i offset) k = pick (offset == 0) refl
    where
      pick : (b : Bool) → (offset == 0) ≡ b → lines_labelled (label_name x) (address_lines p.globals (Symbol i offset) k) ≡ 0
      pick true e = rw e refl
      pick false e = rw e refl

  behind_labels : (v : Value) (k : ℕ) (ys : List Line) (m : ℕ) → lines_labelled (label_name x) ys ≡ m →
      lines_labelled (label_name x) (address_lines p.globals v k ++ ys) ≡ m
  behind_labels v k ys m h = labelled_append (label_name x) (address_lines p.globals v k) ys ∙ omega (arith, address_labels v k, h)

  arg_labels : (vs : List Value) (k : ℕ) → lines_labelled (label_name x) (arg_lines p.globals vs k) ≡ 0
  arg_labels [] k = refl
  arg_labels (v ∷ vs) k = labelled_append (label_name x) (address_lines p.globals v k) (arg_lines p.globals vs (k + addressed v)) ∙ omega
      (arith, address_labels v k, arg_labels vs (k + addressed v))

  own_labels : (g : Goal) (n : ℕ) → n + fresh (is_next g) ≤ 2 ^ 64 →
      lines_labelled (label_name x) (own_label g n) ≡ within x n (fresh (is_next g))
  own_labels Next n h = omega (arith, hit n (omega arith))
  own_labels (Near y) n h = refl
  own_labels (Far y) n h = refl

  go_labels : (g : Goal) → lines_labelled (label_name x) (go_lines g) ≡ 0
  go_labels Next = refl
  go_labels (Near y) = refl
  go_labels (Far y) = refl

  end_labels : (b : Bool) (g : Goal) (n : ℕ) → n + fresh (is_next g) ≤ 2 ^ 64 →
      lines_labelled (label_name x) (seq_end b g n) ≡ within x n (fresh (is_next g))
  end_labels true g n h =
      labelled_append (label_name x) (go_lines (inner g n)) (own_label g n) ∙ omega (arith, go_labels (inner g n), own_labels g n h)
  end_labels false g n h = own_labels g n h

  leave_labels : (y : ℕ) (g : Goal) (n : ℕ) → n + fresh (is_next g) ≤ 2 ^ 64 →
      lines_labelled (label_name x) (leave_lines y g n) ≡ within x n (fresh (is_next g))
  leave_labels y Next n h = omega (arith, hit n (omega arith))
  leave_labels y (Far z) n h = refl
  leave_labels y (Near z) n h = pick (y == z)
    where
      pick : (b : Bool) → lines_labelled (label_name x) (if b then [] else End (jump.Jmp (label_name y)) ∷ []) ≡ 0
      pick true = refl
      pick false = refl

  return_labels : (value : Option Value) (g : Goal) (n k : ℕ) → n + fresh (is_next g) ≤ 2 ^ 64 →
      lines_labelled (label_name x) (return_lines p.globals value g n k) ≡ within x n (fresh (is_next g))
  return_labels None g n k h = own_labels g n h
  return_labels (Some v) g n k h =
      labelled_append (label_name x) (address_lines p.globals v k) _ ∙ omega (arith, address_labels v k, own_labels g n h)

  then_go_labels : (g : Goal) (xs : List Line) → lines_labelled (label_name x) xs ≡ 0 →
      lines_labelled (label_name x) (xs ++ go_lines g) ≡ 0
  then_go_labels g xs h = labelled_append (label_name x) xs (go_lines g) ∙ omega (arith, h, go_labels g)

  branch_labels : (v : Value) (y z k : ℕ) → lines_labelled (label_name x) (branch_lines p.globals v y z k) ≡ 0
  branch_labels v y z k = behind_labels v k _ 0 refl

  side_labelled : (b : Bool) (m l : ℕ) (ls : List Line) → m + fresh b ≤ 2 ^ 64 → lines_labelled (label_name x) ls ≡ l →
      (b ≡ false → l ≡ 0) →
      lines_labelled (label_name x) (side b m ls) ≡ within x m (fresh b) + l
  side_labelled true m l ls h k z = omega (arith, hit m (omega arith), k)
  side_labelled false m l ls h k z = omega (arith, z refl)

  mutual
    pub code_labels : (c : Code) (g : Goal) (n k : ℕ) (es : List ℕ) → n + labels_in c (is_next g) ≤ 2 ^ 64 →
        lines_labelled (label_name x) (code_lines p c g n k es) ≡ within x n (labels_in c (is_next g))
    code_labels (Seq cs) g n k es h =
        let own = fresh (is_next g) in
        let each = each_lines p cs (inner g n) (n + own) k (es ++ goal_label g n ∷ []) in
        labelled_append (label_name x) each (seq_end (not (is_more cs)) g n)
        ∙ omega (
          arith,
          each_labels cs (inner g n) (n + own) k (es ++ goal_label g n ∷ []) (inner_next g n) (omega arith),
          end_labels (not (is_more cs)) g n (omega arith),
          within_add x n own (labels_in_all cs),
        )
    code_labels (Set t class o a b) g n k es h =
        then_go_labels g (set_lines p.globals t class o a b k) (behind_labels a k _ 0 (behind_labels b (k + addressed a) _ 0 refl))
    code_labels (Load t how at) g n k es h = then_go_labels g (load_lines p.globals t how at k) (behind_labels at k _ 0 refl)
    code_labels (Store width value at) g n k es h =
        then_go_labels g (store_lines p.globals width value at k)
        (behind_labels value k _ 0 (behind_labels at (k + addressed value) _ 0 refl))
    code_labels (Move to from bytes) g n k es h =
        then_go_labels g (move_lines p.globals to from bytes k) (behind_labels to k _ 0 (behind_labels from (k + addressed to) _ 0 refl))
    code_labels (If cond a b) g n k es h =
        let own = fresh (is_next g) in
        let one = n + own in
        let other = one + fresh (has_lines a) in
        let m = other + fresh (has_lines b) in
        let la = labels_in a false in
        let lb = labels_in b false in
        let A = code_lines p a (first_goal (has_lines b) g n) m (k + addressed cond) es in
        let B = code_lines p b (inner g n) (m + la) (k + addressed cond + addresses_in a) es in
        let in_a : lines_labelled (label_name x) A ≡ within x m la =
        rw (first_next (has_lines b) g n) at (code_labels a (first_goal (has_lines b) g n) m (k + addressed cond) es
        (rw (first_next (has_lines b) g n) (omega arith))) in
        let in_b : lines_labelled (label_name x) B ≡ within x (m + la) lb =
        rw (inner_next g n) at (code_labels b (inner g n) (m + la) (k + addressed cond + addresses_in a) es
        (rw (inner_next g n) (omega arith))) in
        let on_a = side_labelled (has_lines a) one (within x m la) A (omega arith) in_a (λ e. within_by x m la 0 (no_labels a e)) in
        let on_b = side_labelled (has_lines b) other (within x (m + la) lb) B (omega arith) in_b
        (λ e. within_by x (m + la) lb 0 (no_labels b e)) in
        labelled_append (label_name x) (if_branch p.globals cond a b g n k es) _
        ∙ omega (
          arith,
          branch_labels cond (way a es (goal_label g n) one) (way b es (goal_label g n) other) k,
          labelled_append (label_name x) (side (has_lines a) one A) (side (has_lines b) other B ++ own_label g n),
          labelled_append (label_name x) (side (has_lines b) other B) (own_label g n),
          on_a,
          on_b,
          own_labels g n (omega arith),
          within_add x n (own + fresh (has_lines a) + fresh (has_lines b) + la) lb,
          within_add x n (own + fresh (has_lines a) + fresh (has_lines b)) la,
          within_add x n (own + fresh (has_lines a)) (fresh (has_lines b)),
          within_add x n own (fresh (has_lines a)),
          within_at x lb (n + (own + fresh (has_lines a) + fresh (has_lines b) + la)) (m + la) (omega arith),
          within_at x la (n + (own + fresh (has_lines a) + fresh (has_lines b))) m (omega arith),
          within_at x (fresh (has_lines b)) (n + (own + fresh (has_lines a))) other (omega arith),
        )
    code_labels (Loop c) g n k es h =
        let own = fresh (is_next g) in
        let begin = n + own in
        let A = code_lines p c Next (suc begin) k (es ++ goal_label g n ∷ []) in
        omega (
          arith,
          hit begin (omega arith),
          labelled_append (label_name x) A (End (jump.Jmp (label_name begin)) ∷ own_label g n),
          code_labels c Next (suc begin) k (es ++ goal_label g n ∷ []) (omega arith),
          own_labels g n (omega arith),
          within_add x n own (suc (labels_in c true)),
        )
    code_labels (Leave j) g n k es h = leave_labels (exit_at es j) g n h
    code_labels (Call temp name args) g n k es h =
        then_go_labels g (named_call_lines p temp name args k)
        (labelled_append (label_name x) (arg_lines p.globals args k) _ ∙ omega (arith, arg_labels args k))
    code_labels (Ret value) g n k es h = return_labels value g n k h

    each_labels : (cs : Codes) (g : Goal) (n k : ℕ) (es : List ℕ) → is_next g ≡ false → n + labels_in_all cs ≤ 2 ^ 64 →
        lines_labelled (label_name x) (each_lines p cs g n k es) ≡ within x n (labels_in_all cs)
    each_labels none g n k es e h = refl
    each_labels (more c cs) g n k es e h =
        let front = front_next cs g e in
        let first : lines_labelled (label_name x) (code_lines p c (in_front cs g) n k es) ≡ within x n (labels_in c (is_more cs)) =
        rw front at (code_labels c (in_front cs g) n k es (rw front (omega arith))) in
        labelled_append (label_name x) (code_lines p c (in_front cs g) n k es) _
        ∙ omega (
          arith,
          first,
          each_labels cs g (n + labels_in c (is_more cs)) (k + addresses_in c) es e (omega arith),
          within_add x n (labels_in c (is_more cs)) (labels_in_all cs),
        )

  frame_labels : (n : ℕ) → lines_labelled (label_name x) (frame_lines n) ≡ 0
  frame_labels zero = refl
  frame_labels (suc n) = refl

  pub inner_labels : (f : FlatFn) → 1 + labels_in (code_of f.body) true ≤ 2 ^ 64 →
      lines_labelled (label_name x) (inner_lines p f) ≡ within x 1 (labels_in (code_of f.body) true)
  inner_labels f h =
      labelled_append (label_name x) (frame_lines f.frame) (code_lines p (code_of f.body) Next 1 0 [])
      ∙ omega (arith, frame_labels f.frame, code_labels (code_of f.body) Next 1 0 [] h)

-- ---- the temporaries that are set

or_none : (a b c : Bool) → a ≡ false → b ≡ c → (a || b) ≡ c
or_none a b c h k = rw h k

none_right : (a : Bool) → (a || false) ≡ a
none_right true = refl
none_right false = refl

module _ (p : FlatProgram) (f : FlatFn) (few : f.temps < 2 ^ 64) (t : ℕ) (small : t < 2 ^ 64) (class : Class) where
  abbrev here : Inst → Bool
  here i = inst_sets (temp_name t) class i

  address_sets : (v : Value) (k : ℕ) → lines_any here (address_lines p.globals v k) ≡ false
  address_sets (Temp u) k = refl
  address_sets (Number n) k = refl
  address_sets (Frame offset) k = refl
  address_sets (Symbol i offset) k = pick (offset == 0) refl
    where
      pick : (b : Bool) → (offset == 0) ≡ b → lines_any here (address_lines p.globals (Symbol i offset) k) ≡ false
      pick true e = rw e refl
      pick false e = rw e refl

  behind : (v : Value) (k : ℕ) (ys : List Line) (b : Bool) → lines_any here ys ≡ b → lines_any here (address_lines p.globals v k ++ ys) ≡ b
  behind v k ys b h =
      any_append here (address_lines p.globals v k) ys ∙ or_none (lines_any here (address_lines p.globals v k)) _ b (address_sets v k) h

  arg_sets : (vs : List Value) (k : ℕ) → lines_any here (arg_lines p.globals vs k) ≡ false
  arg_sets [] k = refl
  arg_sets (v ∷ vs) k = behind v k _ false (arg_sets vs (k + addressed v))

  own_sets : (g : Goal) (n : ℕ) → lines_any here (own_label g n) ≡ false
  own_sets Next n = refl
  own_sets (Near y) n = refl
  own_sets (Far y) n = refl

  go_sets : (g : Goal) → lines_any here (go_lines g) ≡ false
  go_sets Next = refl
  go_sets (Near y) = refl
  go_sets (Far y) = refl

  end_sets : (b : Bool) (g : Goal) (n : ℕ) → lines_any here (seq_end b g n) ≡ false
  end_sets true g n = any_append here (go_lines (inner g n)) (own_label g n) ∙ either _ _ false false (go_sets (inner g n)) (own_sets g n)
  end_sets false g n = own_sets g n

  leave_sets : (y : ℕ) (g : Goal) (n : ℕ) → lines_any here (leave_lines y g n) ≡ false
  leave_sets y Next n = refl
  leave_sets y (Far z) n = refl
  leave_sets y (Near z) n = pick (y == z)
    where
      pick : (b : Bool) → lines_any here (if b then [] else End (jump.Jmp (label_name y)) ∷ []) ≡ false
      pick true = refl
      pick false = refl

  then_none : (xs ys : List Line) (b : Bool) → lines_any here xs ≡ b → lines_any here ys ≡ false → lines_any here (xs ++ ys) ≡ b
  then_none xs ys b h k = any_append here xs ys ∙ either _ _ b false h k ∙ none_right b

  then_go_sets : (g : Goal) (xs : List Line) (b : Bool) → lines_any here xs ≡ b → lines_any here (xs ++ go_lines g) ≡ b
  then_go_sets g xs b h = then_none xs (go_lines g) b h (go_sets g)

  side_sets : (b : Bool) (m : ℕ) (ls : List Line) (q : Bool) → lines_any here ls ≡ q → (b ≡ false → q ≡ false) →
      lines_any here (side b m ls) ≡ q
  side_sets true m ls q h z = h
  side_sets false m ls q h z = sym (z refl)

  return_sets : (value : Option Value) (g : Goal) (n k : ℕ) → lines_any here (return_lines p.globals value g n k) ≡ false
  return_sets None g n k = own_sets g n
  return_sets (Some v) g n k = behind v k _ false (own_sets g n)

  target_sets : (u : ℕ) (c : Class) → is_target p f u c ≡ true → sets (temp_name t) class (temp_name u) c ≡ is_temp_of t class u c
  target_sets u c h =
      let both = and_parts (nat_lt u f.temps) (has_one_class p f u c) h in
      let lt : u < f.temps = grind (arith, nat_tests) in
      ap (λ (b : Bool). b && same_class c class) (temp_eq u t (omega arith) small)

  kept_sets : (temp : Option ℕ) (given : Option Class) → takes_result p f temp given ≡ true →
      result_sets (temp_name t) class (result_param temp given) ≡ call_sets t class temp given
  kept_sets None given h = refl
  kept_sets (Some u) None h = cc
  kept_sets (Some u) (Some c) h = target_sets u c h

  mutual
    pub code_sets_is : (c : Code) (g : Goal) (around n k : ℕ) (es : List ℕ) → is_right p f around c ≡ true →
        lines_any here (code_lines p c g n k es) ≡ code_sets p t class c
    code_sets_is (Seq cs) g around n k es r =
        let both = and_parts (nat_lt around deepest) (are_right p f (suc around) cs) r in
        then_none (each_lines p cs (inner g n) (n + fresh (is_next g)) k (es ++ goal_label g n ∷ [])) (seq_end (not (is_more cs)) g n) _
        (each_sets_is cs (inner g n) (suc around) (n + fresh (is_next g)) k (es ++ goal_label g n ∷ []) both.1)
        (end_sets (not (is_more cs)) g n)
    code_sets_is (Set v c o a b) g around n k es r =
        let both = and_parts (is_target p f v c) _ r in
        then_go_sets g (set_lines p.globals v c o a b k) _
        (behind a k _ _ (behind b (k + addressed a) _ _ (none_right (sets (temp_name t) class (temp_name v) c) ∙ target_sets v c both.0)))
    code_sets_is (Load v how at) g around n k es r =
        let both = and_parts (is_target p f v L) (is_operand p f L at) r in
        then_go_sets g (load_lines p.globals v how at k) _
        (behind at k _ _ (none_right (sets (temp_name t) class (temp_name v) L) ∙ target_sets v L both.0))
    code_sets_is (Store width value at) g around n k es r =
        then_go_sets g (store_lines p.globals width value at k) _ (behind value k _ _ (behind at (k + addressed value) _ _ refl))
    code_sets_is (Move to from bytes) g around n k es r =
        then_go_sets g (move_lines p.globals to from bytes k) _ (behind to k _ _ (behind from (k + addressed to) _ _ refl))
    code_sets_is (If cond a b) g around n k es r =
        let both = and_parts (is_operand p f W cond) (is_right p f around a && is_right p f around b) r in
        let s = and_parts (is_right p f around a) (is_right p f around b) both.1 in
        let one = n + fresh (is_next g) in
        let other = one + fresh (has_lines a) in
        let m = other + fresh (has_lines b) in
        let A = code_lines p a (first_goal (has_lines b) g n) m (k + addressed cond) es in
        let B = code_lines p b (inner g n) (m + labels_in a false) (k + addressed cond + addresses_in a) es in
        let in_a = side_sets (has_lines a) one A _ (code_sets_is a (first_goal (has_lines b) g n) around m (k + addressed cond) es s.0)
        (no_sets p t class a) in
        let in_b = side_sets (has_lines b) other B _
        (code_sets_is b (inner g n) around (m + labels_in a false) (k + addressed cond + addresses_in a) es s.1) (no_sets p t class b) in
        any_append here (if_branch p.globals cond a b g n k es) _
        ∙ or_none (lines_any here (if_branch p.globals cond a b g n k es)) _ _ (behind cond k _ false refl)
        (any_append here (side (has_lines a) one A) _
        ∙ either _ _ _ _ in_a (then_none (side (has_lines b) other B) (own_label g n) _ in_b (own_sets g n)))
    code_sets_is (Loop c) g around n k es r =
        let both = and_parts (nat_lt around deepest) (is_right p f (suc around) c) r in
        then_none (code_lines p c Next (suc (n + fresh (is_next g))) k (es ++ goal_label g n ∷ [])) _ _
        (code_sets_is c Next (suc around) (suc (n + fresh (is_next g))) k (es ++ goal_label g n ∷ []) both.1) (own_sets g n)
    code_sets_is (Leave j) g around n k es r = leave_sets (exit_at es j) g n
    code_sets_is (Call temp name args) g around n k es r =
        then_go_sets g (named_call_lines p temp name args k) _
        (any_append here (arg_lines p.globals args k) _ ∙ or_none (lines_any here (arg_lines p.globals args k)) _ _ (arg_sets args k)
        (none_right _ ∙ kept_sets temp (result_class p name) (called_takes p f temp args name (function_named p.functions name) r)))
    code_sets_is (Ret value) g around n k es r = return_sets value g n k

    each_sets_is : (cs : Codes) (g : Goal) (around n k : ℕ) (es : List ℕ) → are_right p f around cs ≡ true →
        lines_any here (each_lines p cs g n k es) ≡ one_sets p t class cs
    each_sets_is none g around n k es r = refl
    each_sets_is (more c cs) g around n k es r =
        let both = and_parts (is_right p f around c) (are_right p f around cs) r in
        any_append here (code_lines p c (in_front cs g) n k es) _
        ∙ either _ _ _ _ (code_sets_is c (in_front cs g) around n k es both.0)
        (each_sets_is cs g around (n + labels_in c (is_more cs)) (k + addresses_in c) es both.1)

  frame_sets : (n : ℕ) → lines_any here (frame_lines n) ≡ false
  frame_sets zero = refl
  frame_sets (suc n) = refl

  pub inner_sets_is : is_right p f 0 (code_of f.body) ≡ true → lines_any here (inner_lines p f) ≡ code_sets p t class (code_of f.body)
  inner_sets_is r =
      any_append here (frame_lines f.frame) _ ∙ or_none (lines_any here (frame_lines f.frame)) _ _ (frame_sets f.frame)
      (code_sets_is (code_of f.body) Next 0 1 0 [] r)

  pub params_sets_is : (at : ℕ) (cs : List Class) → at + length cs ≤ 2 ^ 64 →
      list_any (λ (p : IlParam). sets (temp_name t) class p.name p.class) (params_of at cs) ≡ params_set t class at cs
  params_sets_is at [] h = refl
  params_sets_is at (c ∷ cs) h = either _ _ _ _ (ap (λ (b : Bool). b && same_class c class) (temp_eq at t (omega arith) small))
      (params_sets_is (suc at) cs (omega arith))

-- ---- only temporaries of the function are set

module _ (p : FlatProgram) (f : FlatFn) (t : ℕ) (class : Class) where
  target_below : (u : ℕ) (c : Class) → is_target p f u c ≡ true → is_temp_of t class u c ≡ true → t < f.temps
  target_below u c h e =
      let both = and_parts (nat_lt u f.temps) (has_one_class p f u c) h in
      let q = and_parts (nat_eq u t) (same_class c class) e in
      let s : u ≡ t = let z = q.0 in grind (arith, nat_tests) in
      let lt : u < f.temps = let z = both.0 in grind (arith, nat_tests) in
      omega arith

  kept_below : (temp : Option ℕ) (given : Option Class) → takes_result p f temp given ≡ true → call_sets t class temp given ≡ true →
      t < f.temps
  kept_below None given h e = cc
  kept_below (Some u) None h e = cc
  kept_below (Some u) (Some c) h e = target_below u c h e

  mutual
    pub code_below : (c : Code) (around : ℕ) → is_right p f around c ≡ true → code_sets p t class c ≡ true → t < f.temps
    code_below (Seq cs) around r e =
        each_below cs (suc around) (and_parts (nat_lt around deepest) (are_right p f (suc around) cs) r).1 e
    code_below (Set v c o a b) around r e = target_below v c (and_parts (is_target p f v c) _ r).0 e
    code_below (Load v how at) around r e = target_below v L (and_parts (is_target p f v L) _ r).0 e
    code_below (Store width value at) around r e = cc
    code_below (Move to from bytes) around r e = cc
    code_below (If cond a b) around r e =
        let both = and_parts (is_operand p f W cond) (is_right p f around a && is_right p f around b) r in
        let s = and_parts (is_right p f around a) (is_right p f around b) both.1 in
        elim (or_cases (code_sets p t class a) (code_sets p t class b) e) [
          | inl h ↦ code_below a around s.0 h
          | inr h ↦ code_below b around s.1 h
        ]
    code_below (Loop c) around r e =
        code_below c (suc around) (and_parts (nat_lt around deepest) (is_right p f (suc around) c) r).1 e
    code_below (Leave j) around r e = cc
    code_below (Call temp name args) around r e =
        kept_below temp (result_class p name) (called_takes p f temp args name (function_named p.functions name) r) e
    code_below (Ret value) around r e = cc

    each_below : (cs : Codes) (around : ℕ) → are_right p f around cs ≡ true → one_sets p t class cs ≡ true → t < f.temps
    each_below none around r e = cc
    each_below (more c cs) around r e =
        let both = and_parts (is_right p f around c) (are_right p f around cs) r in
        elim (or_cases (code_sets p t class c) (one_sets p t class cs) e) [
          | inl h ↦ code_below c around both.0 h
          | inr h ↦ each_below cs around both.1 h
        ]

  pub params_below : (at : ℕ) (cs : List Class) → params_set t class at cs ≡ true → t < at + length cs
  params_below at [] e = cc
  params_below at (c ∷ cs) e = elim (or_cases (is_temp_of t class at c) (params_set t class (suc at) cs) e) [
    | inl h ↦ let s : at ≡ t = let z = (and_parts (nat_eq at t) (same_class c class) h).0 in grind (arith, nat_tests) in omega arith
    | inr h ↦ let k = params_below (suc at) cs h in omega (arith, k)
  ]

-- ---- each address that is used is computed

module _ (p : FlatProgram) (f : FlatFn) (x : ℕ) where
  abbrev computes : Inst → Bool
  computes i = inst_sets (address_name x) L i

  left : (xs ys : List Line) → lines_any computes xs ≡ true → lines_any computes (xs ++ ys) ≡ true
  left xs ys h = any_append computes xs ys ∙ ap (λ (b : Bool). b || lines_any computes ys) h

  right : (xs ys : List Line) → lines_any computes ys ≡ true → lines_any computes (xs ++ ys) ≡ true
  right xs ys h = any_append computes xs ys ∙ or_true (lines_any computes xs) (lines_any computes ys) h

  address_there : (class : Class) (v : Value) (k : ℕ) → is_operand p f class v ≡ true → k ≤ x → x < k + addressed v →
      lines_any computes (address_lines p.globals v k) ≡ true
  address_there class (Temp t) k r l u = absurd (omega arith)
  address_there class (Number n) k r l u = absurd (omega arith)
  address_there class (Frame offset) k r l u =
      let s : k ≡ x = omega arith in
      rw s (ap (λ (b : Bool). (b && true) || false) (bytes_same (address_name x)))
  address_there class (Symbol i offset) k r l u = pick (offset == 0) refl
    where
      pick : (b : Bool) → (offset == 0) ≡ b → lines_any computes (address_lines p.globals (Symbol i offset) k) ≡ true
      pick true e = let lt : x < k + 0 = rw e at u in absurd (omega arith)
      pick false e =
          let lt : x < k + 1 = rw e at u in
          let s : k ≡ x = omega arith in
          rw (e, s) (ap (λ (b : Bool). (b && true) || false) (bytes_same (address_name x)))

  args_there : (cs : List Class) (vs : List Value) (k : ℕ) → are_args p f cs vs ≡ true → k ≤ x → x < k + all_addressed vs →
      lines_any computes (arg_lines p.globals vs k) ≡ true
  args_there [] [] k r l u = absurd (omega arith)
  args_there [] (v ∷ vs) k r l u = cc
  args_there (c ∷ cs) [] k r l u = absurd (omega arith)
  args_there (c ∷ cs) (v ∷ vs) k r l u =
      let both = and_parts (is_operand p f c v) (are_args p f cs vs) r in
      elim (cases_lt x (k + addressed v)) [
        | inl h ↦ left (address_lines p.globals v k) _ (address_there c v k both.0 l h)
        | inr h ↦ right (address_lines p.globals v k) _ (args_there cs vs (k + addressed v) both.1 h (omega arith))
      ]

  second_there : (class : Class) (two : Bool) (v : Value) (k : ℕ) → is_second p f class two v ≡ true → k ≤ x → x < k + addressed v →
      lines_any computes (address_lines p.globals v k) ≡ true
  second_there class true v k r l u = address_there class v k r l u
  second_there class false (Temp t) k r l u = cc
  second_there class false (Number n) k r l u = absurd (omega arith)
  second_there class false (Symbol i offset) k r l u = cc
  second_there class false (Frame offset) k r l u = cc

  two_there : (c d : Class) (a b : Value) (k : ℕ) (ls : List Line) → is_operand p f c a ≡ true → is_operand p f d b ≡ true → k ≤ x →
      x < k + (addressed a + addressed b) →
      lines_any computes (address_lines p.globals a k ++ (address_lines p.globals b (k + addressed a) ++ ls)) ≡ true
  two_there c d a b k ls ra rb l u = elim (cases_lt x (k + addressed a)) [
    | inl h ↦ left (address_lines p.globals a k) _ (address_there c a k ra l h)
    | inr h ↦ right (address_lines p.globals a k) _
        (left (address_lines p.globals b (k + addressed a)) ls (address_there d b (k + addressed a) rb h (omega arith)))
  ]

  return_there : (class : Option Class) (value : Option Value) (g : Goal) (n k : ℕ) → is_return p f class value ≡ true → k ≤ x →
      x < k + addresses_of value → lines_any computes (return_lines p.globals value g n k) ≡ true
  return_there class None g n k r l u = absurd (omega arith)
  return_there None (Some v) g n k r l u = cc
  return_there (Some c) (Some v) g n k r l u = left (address_lines p.globals v k) _ (address_there c v k r l u)

  side_there : (c : Code) (m k : ℕ) (ls : List Line) → k ≤ x → x < k + addresses_in c → lines_any computes ls ≡ true →
      lines_any computes (side (has_lines c) m ls) ≡ true
  side_there c m k ls l u h = pick (has_lines c) refl
    where
      pick : (b : Bool) → has_lines c ≡ b → lines_any computes (side b m ls) ≡ true
      pick true e = h
      pick false e = absurd (omega (arith, l, u, no_addresses c e))

  mutual
    pub code_there : (c : Code) (g : Goal) (around n k : ℕ) (es : List ℕ) → is_right p f around c ≡ true → k ≤ x →
        x < k + addresses_in c → lines_any computes (code_lines p c g n k es) ≡ true
    code_there (Seq cs) g around n k es r l u =
        left (each_lines p cs (inner g n) (n + fresh (is_next g)) k (es ++ goal_label g n ∷ [])) _
        (each_there cs (inner g n) (suc around) (n + fresh (is_next g)) k (es ++ goal_label g n ∷ [])
        (and_parts (nat_lt around deepest) (are_right p f (suc around) cs) r).1 l u)
    code_there (Set t class o a b) g around n k es r l u =
        let both = and_parts (is_target p f t class) _ r in
        let q = and_parts (may_give (op_kind o) class) _ both.1 in
        let s = and_parts (is_operand p f (first_class (op_kind o) class) a)
        (is_second p f (second_class (op_kind o) class) (takes_two (op_kind o)) b) q.1 in
        left (set_lines p.globals t class o a b k) _ (elim (cases_lt x (k + addressed a)) [
          | inl h ↦ left (address_lines p.globals a k) _ (address_there (first_class (op_kind o) class) a k s.0 l h)
          | inr h ↦ right (address_lines p.globals a k) _
              (left (address_lines p.globals b (k + addressed a)) _
              (second_there (second_class (op_kind o) class) (takes_two (op_kind o)) b (k + addressed a) s.1 h (omega arith)))
        ])
    code_there (Load t how at) g around n k es r l u =
        left (load_lines p.globals t how at k) _
        (left (address_lines p.globals at k) _ (address_there L at k (and_parts (is_target p f t L) (is_operand p f L at) r).1 l u))
    code_there (Store width value at) g around n k es r l u =
        let s = and_parts (is_operand p f (stored_class width) value) (is_operand p f L at) (and_parts (is_width width) _ r).1 in
        left (store_lines p.globals width value at k) _ (two_there (stored_class width) L value at k _ s.0 s.1 l u)
    code_there (Move to from bytes) g around n k es r l u =
        let s = and_parts (is_operand p f L to) (is_operand p f L from) (and_parts (nat_le bytes most) _ r).1 in
        left (move_lines p.globals to from bytes k) _ (two_there L L to from k _ s.0 s.1 l u)
    code_there (If cond a b) g around n k es r l u =
        let both = and_parts (is_operand p f W cond) (is_right p f around a && is_right p f around b) r in
        let s = and_parts (is_right p f around a) (is_right p f around b) both.1 in
        let one = n + fresh (is_next g) in
        let other = one + fresh (has_lines a) in
        let m = other + fresh (has_lines b) in
        let A = code_lines p a (first_goal (has_lines b) g n) m (k + addressed cond) es in
        let B = code_lines p b (inner g n) (m + labels_in a false) (k + addressed cond + addresses_in a) es in
        elim (cases_lt x (k + addressed cond)) [
          | inl h ↦ left (if_branch p.globals cond a b g n k es) _
              (left (address_lines p.globals cond k) _ (address_there W cond k both.0 l h))
          | inr h ↦ right (if_branch p.globals cond a b g n k es) _ (elim (cases_lt x (k + addressed cond + addresses_in a)) [
            | inl i ↦ left (side (has_lines a) one A) _ (side_there a one (k + addressed cond) A h i
                (code_there a (first_goal (has_lines b) g n) around m (k + addressed cond) es s.0 h i))
            | inr i ↦ right (side (has_lines a) one A) _ (left (side (has_lines b) other B) _
                (side_there b other (k + addressed cond + addresses_in a) B i (omega arith)
                (code_there b (inner g n) around (m + labels_in a false) (k + addressed cond + addresses_in a) es s.1 i (omega arith))))
          ])
        ]
    code_there (Loop c) g around n k es r l u =
        left (code_lines p c Next (suc (n + fresh (is_next g))) k (es ++ goal_label g n ∷ [])) _
        (code_there c Next (suc around) (suc (n + fresh (is_next g))) k (es ++ goal_label g n ∷ [])
        (and_parts (nat_lt around deepest) (is_right p f (suc around) c) r).1 l u)
    code_there (Leave j) g around n k es r l u = absurd (omega arith)
    code_there (Call temp name args) g around n k es r l u =
        left (named_call_lines p temp name args k) _
        (left (arg_lines p.globals args k) _ (args_there (called_params (function_named p.functions name) name) args k
        (called_args p f temp args name (function_named p.functions name) r) l u))
    code_there (Ret value) g around n k es r l u = return_there f.result value g n k r l u

    each_there : (cs : Codes) (g : Goal) (around n k : ℕ) (es : List ℕ) → are_right p f around cs ≡ true → k ≤ x →
        x < k + addresses_in_all cs → lines_any computes (each_lines p cs g n k es) ≡ true
    each_there none g around n k es r l u = absurd (omega arith)
    each_there (more c cs) g around n k es r l u =
        let both = and_parts (is_right p f around c) (are_right p f around cs) r in
        elim (cases_lt x (k + addresses_in c)) [
          | inl h ↦ left (code_lines p c (in_front cs g) n k es) _ (code_there c (in_front cs g) around n k es both.0 l h)
          | inr h ↦ right (code_lines p c (in_front cs g) n k es) _
              (each_there cs g around (n + labels_in c (is_more cs)) (k + addresses_in c) es both.1 h (omega arith))
        ]

  pub inner_there : is_right p f 0 (code_of f.body) ≡ true → x < addresses_in (code_of f.body) →
      lines_any computes (inner_lines p f) ≡ true
  inner_there r u = right (frame_lines f.frame) _ (code_there (code_of f.body) Next 0 1 0 [] r (omega arith) (omega arith))

-- ---- the address of the frame is computed where there is one

pub frame_there : (p : FlatProgram) (f : FlatFn) → 0 < f.frame → lines_any (inst_sets frame_name L) (inner_lines p f) ≡ true
frame_there p f h =
    any_append (inst_sets frame_name L) (frame_lines f.frame) _
    ∙ ap (λ (b : Bool). b || lines_any (inst_sets frame_name L) (code_lines p (code_of f.body) Next 1 0 [])) (there f.frame h)
  where
    there : (n : ℕ) → 0 < n → lines_any (inst_sets frame_name L) (frame_lines n) ≡ true
    there zero l = absurd (omega arith)
    there (suc n) l = refl
