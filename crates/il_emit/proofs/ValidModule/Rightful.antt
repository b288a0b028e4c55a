-- Each line of a function of a well formed program is one that the intermediate language admits.
use Rattle.std.proofs.Common.{◌≡◌, ℕ, suc, ◌+◌, ◌<◌, ◌≤◌, ◌^◌, Bool, true, false, not, ◌&&◌, List, [], ◌∷◌, length, Option, None, Some, refl, sym, ap, ◌∙◌, subst, arith, inl, inr}
use Rattle.std.specs.Prelude.{bytes_eq, nat_eq, nat_lt, nat_le, ◌==◌}
use Rattle.std.specs.List.{list_all}
use Rattle.std.proofs.lemmas.Bool.{and_parts, or_cases}
use Rattle.std.proofs.lemmas.Bool.Decides.{nat_tests}
use Rattle.hx_base.specs.declared.Class.{Class}
use Rattle.hx_base.specs.declared.Class.TheVariants.{W, L}
use Rattle.flat_code.specs.declared.op.LoadKind.{LoadKind}
use Rattle.flat_code.specs.declared.op.Op.{Op}
use Rattle.flat_code.specs.declared.program.FlatFn.{FlatFn}
use Rattle.flat_code.specs.declared.program.FlatProgram.{FlatProgram}
use Rattle.flat_code.specs.declared.value.Value.{Value}
use Rattle.flat_code.specs.declared.value.Value.TheVariants.{Temp, Number, Symbol, Frame}
use Rattle.flat_code.specs.Code.{Set, Load, Store, Move}
use Rattle.flat_code.specs.Costs.{addressed}
use Rattle.flat_code.specs.Evaluation as evaluation
use Rattle.flat_code.specs.Kinds.{op_kind, takes_two, first_class, second_class, may_give}
use Rattle.hx_runtime.specs.Functions.{runtime_params, runtime_result, runtime_function}
use Rattle.hx_runtime.specs.declared.runtime.RuntimeFunction.{RuntimeFunction}
use Rattle.flat_code.specs.Temps.{call_class, called_class, other_class, has_one_class}
use Rattle.flat_code.specs.Temps as flat
use Rattle.flat_code.specs.WellFormed.{most, is_bits, is_width, is_operand, is_second, is_target, stored_class, is_right, are_args, takes_result, is_call, is_return, is_long}
use Rattle.flat_code.specs.WellFormed as well
use Rattle.il_code.specs.declared.types.Block.{Block}
use Rattle.il_code.specs.declared.types.IlArg.{IlArg}
use Rattle.il_code.specs.declared.types.IlItem.{IlItem}
use Rattle.il_code.specs.declared.types.IlParam.{IlParam}
use Rattle.il_code.specs.declared.types.IlValue.{IlValue}
use Rattle.il_code.specs.declared.types.IlValue.TheVariants as value
use Rattle.il_code.specs.declared.types.Inst.{Inst}
use Rattle.il_code.specs.declared.types.Inst.TheVariants as inst
use Rattle.il_code.specs.declared.types.Jump.{Jump}
use Rattle.il_code.specs.declared.types.Jump.TheVariants as jump
use Rattle.il_code.specs.Rules as rule
use Rattle.il_code.specs.Items.{Code, function_named}
use Rattle.il_code.specs.Rules.{item_name, has_named, has_label, targets_pass, is_set, inst_has_one_class, each_has_class, each_has_class_of, has_classes, has_classes_of, is_call_right, is_call_of, is_runtime_call, call_is_right, second_is_right, inst_is_right, return_is_right, jump_is_right}
use Rattle.il_code.specs.Shaped.{is_value, is_arg, is_result, is_inst, is_jump}
use Rattle.il_code.specs.Shaped as shape
use Rattle.il_code.specs.Tokens.{is_identifier}
use Rattle.il_emit.specs.Names.{temp_name, address_name, frame_name, label_name}
use Rattle.il_emit.specs.Ops.{il_op, load_op}
use Rattle.il_emit.specs.Lines.{operand, address_inst, place_inst, name_at, second, call_params, called_params, result_param, args_of, all_addressed}
use Rattle.il_emit.specs.Emitted.{params_of, blocks_of}
use Rattle.il_emit.proofs.Lines.Allowed.{LinesPass}
use Rattle.il_emit.proofs.Lines.Blocks.{line_passes}
use Rattle.il_emit.proofs.Lines.Counts.{both_true, either}
use Rattle.il_emit.proofs.NamesAndNumbers.NamedFunctions.{emitted}
use Rattle.il_emit.proofs.ValidModule.Operations.{takes_is, first_is, second_is, may_is, load_is, stored_is, named_call}
use Rattle.il_emit.proofs.NamesAndNumbers.NumberedNames.{temp_identifier, address_identifier, label_identifier, label_eq}

-- ---- tests of lines

module _ (items : List IlItem) (params : List IlParam) (blocks : List Block) (class : Option Class) where
  abbrev pub good_inst : Inst → Bool
  good_inst i = is_inst i && (inst_has_one_class params blocks i && inst_is_right items params blocks i)

  abbrev pub good_jump : Jump → Bool
  good_jump j = is_jump j && (targets_pass (has_label blocks) j &&
      (targets_pass (λ l. not (bytes_eq l (label_name 0))) j && jump_is_right items params blocks class j))

abbrev pub good_label : ℕ → ℕ → Bool
good_label most n = nat_lt n most

-- ---- what is known of the names of a function

pub record Names (p : FlatProgram) (f : FlatFn) (items : List IlItem) (params : List IlParam) (blocks : List Block)
    (most_labels most_addresses : ℕ) : Type 0 where
  pub few_labels : most_labels ≤ 2 ^ 64
  pub few_addresses : most_addresses ≤ 2 ^ 64
  pub few_temps : f.temps < 2 ^ 64
  pub few_frame : f.frame < 2 ^ 64
  pub set_is : (t : ℕ) (class : Class) → t < f.temps → is_set params blocks (temp_name t) class ≡ flat.is_set p f t class
  pub below : (t : ℕ) (class : Class) → flat.is_set p f t class ≡ true → t < f.temps
  pub computed : (k : ℕ) → k < most_addresses → is_set params blocks (address_name k) L ≡ true
  pub no_word : (k : ℕ) → is_set params blocks (address_name k) W ≡ false
  pub framed : 0 < f.frame → is_set params blocks frame_name L ≡ true
  pub no_frame_word : is_set params blocks frame_name W ≡ false
  pub labels : (n : ℕ) → n < most_labels → has_label blocks (label_name n) ≡ true
  pub identifiers : (i : ℕ) → i < length p.globals → is_identifier (name_at p.globals i) ≡ true
  pub symbols : (i : ℕ) → i < length p.globals → has_named item_name (name_at p.globals i) items ≡ true
  pub functions : (name : List ℕ) → function_named items name ≡ emitted p (evaluation.function_named p.functions name)
  pub called : (name : List ℕ) (g : FlatFn) → evaluation.function_named p.functions name ≡ Some g → is_identifier name ≡ true

pub record ArgsFine (items : List IlItem) (params : List IlParam) (blocks : List Block) (classes : List Class) (args : List IlArg) : Type
    0 where
  pub as_many : length args ≡ length classes
  pub classed : each_has_class args classes ≡ true
  pub spelled : list_all is_arg args ≡ true
  pub right : list_all (λ (a : IlArg). rule.is_right items params blocks a.class a.value) args ≡ true

pub record ResultFine (params : List IlParam) (blocks : List Block) (given : Option Class) (result : Option IlParam) : Type 0 where
  pub taken : rule.takes_result result given ≡ true
  pub spelled : is_result result ≡ true
  pub one_class : (name : List ℕ) (args : List IlArg) → inst_has_one_class params blocks (inst.Call result name args) ≡ true

class_same : (x : Class) → rule.same_class x x ≡ true
class_same W = refl
class_same L = refl

-- a number of 64 bits
bits_of : (n : ℕ) → n < 2 ^ 64 → is_bits n ≡ true
bits_of n h = grind (arith, nat_tests)

few_bits : (n : ℕ) → nat_le n most ≡ true → is_bits n ≡ true
few_bits n h = let l : n ≤ most = grind (arith, nat_tests) in bits_of n (omega arith)

-- parameters have the classes that they are made of
pub params_length : (at : ℕ) (cs : List Class) → length (params_of at cs) ≡ length cs
params_length at [] = refl
params_length at (c ∷ cs) = omega (arith, params_length (suc at) cs)

params_classes : (at : ℕ) (cs : List Class) (args : List IlArg) → each_has_class_of args (params_of at cs) ≡ each_has_class args cs
params_classes at [] [] = refl
params_classes at [] (a ∷ args) = refl
params_classes at (c ∷ cs) [] = refl
params_classes at (c ∷ cs) (a ∷ args) = ap (λ (b : Bool). rule.same_class a.class c && b) (params_classes (suc at) cs args)

one_only : (a b c d : Bool) → a ≡ c → b ≡ d → (a && not b) ≡ (c && not d)
one_only a b c d h k = rw (h, k) refl

module _ (p : FlatProgram) (f : FlatFn) (items : List IlItem) (params : List IlParam) (blocks : List Block)
    (most_labels most_addresses : ℕ) (n : Names p f items params blocks most_labels most_addresses) where
  -- ---- operands

  abbrev Fine : Class → IlValue → Type 0
  Fine class v = (is_value v ≡ true) × (rule.is_right items params blocks class v ≡ true)

  address_fine : (k : ℕ) → k < most_addresses → Fine L (value.Temp (address_name k))
  address_fine k h =
      let few = n.few_addresses in
      (address_identifier k (omega arith), one_only _ _ true false (n.computed k h) (n.no_word k))

  operand_fine : (class : Class) (v : Value) (k : ℕ) → is_operand p f class v ≡ true → k + addressed v ≤ most_addresses →
      Fine class (operand p.globals v k)
  operand_fine class (Number m) k r u = (r, refl)
  operand_fine W (Temp t) k r u =
      let lt : t < f.temps = elim (or_cases (flat.is_set p f t W) (flat.is_set p f t L) r)
      [ inl h ↦ n.below t W h | inr h ↦ n.below t L h ] in
      let few = n.few_temps in
      (temp_identifier t (omega arith), either _ _ _ _ (n.set_is t W lt) (n.set_is t L lt) ∙ r)
  operand_fine L (Temp t) k r u =
      let lt : t < f.temps = n.below t L (and_parts (flat.is_set p f t L) (not (flat.is_set p f t W)) r).0 in
      let few = n.few_temps in
      (temp_identifier t (omega arith), one_only _ _ _ _ (n.set_is t L lt) (n.set_is t W lt) ∙ r)
  operand_fine W (Symbol i offset) k r u = cc
  operand_fine L (Symbol i offset) k r u = pick (offset == 0) refl
    where
      pick : (b : Bool) → (offset == 0) ≡ b → Fine L (operand p.globals (Symbol i offset) k)
      pick true e =
          let both = and_parts (nat_lt i (length p.globals)) (is_bits offset) r in
          let lt : i < length p.globals = let z = both.0 in grind (arith, nat_tests) in
          let s : operand p.globals (Symbol i offset) k ≡ value.Symbol (name_at p.globals i) = rw e refl in
          subst (Fine L) (sym s) (n.identifiers i lt, n.symbols i lt)
      pick false e =
          let room : k + 1 ≤ most_addresses = rw e at u in
          let s : operand p.globals (Symbol i offset) k ≡ value.Temp (address_name k) = rw e refl in
          subst (Fine L) (sym s) (address_fine k (omega arith))
  operand_fine W (Frame offset) k r u = cc
  operand_fine L (Frame offset) k r u = address_fine k (omega arith)

  -- ---- single instructions

  target_fine : (t : ℕ) (class : Class) → is_target p f t class ≡ true → (is_identifier (temp_name t) ≡ true) ×
      (rule.has_one_class params blocks (temp_name t) class ≡ true)
  target_fine t class h =
      let both = and_parts (nat_lt t f.temps) (has_one_class p f t class) h in
      let lt : t < f.temps = let z = both.0 in grind (arith, nat_tests) in
      let few = n.few_temps in
      (temp_identifier t (omega arith), ap not (n.set_is t (other_class class) lt) ∙ both.1)

  abbrev SecondFine : Class → Bool → Option IlValue → Type 0
  SecondFine class two v = (shape.is_second two v ≡ true) × (second_is_right items params blocks class v ≡ true)

  second_fine : (class : Class) (two : Bool) (v : Value) (k : ℕ) → is_second p f class two v ≡ true →
      k + addressed v ≤ most_addresses → SecondFine class two (second two (operand p.globals v k))
  second_fine class true v k r u = operand_fine class v k r u
  second_fine class false v k r u = (refl, refl)

  abbrev good : Inst → Type 0
  good i = good_inst items params blocks f.result i ≡ true

  set_good : (t : ℕ) (class : Class) (o : Op) (a b : Value) (k : ℕ) → is_right p f 0 (Set t class o a b) ≡ true →
      k + addressed a + addressed b ≤ most_addresses
      → good (inst.Set (temp_name t) class (il_op o) (operand p.globals a k)
      (second (takes_two (op_kind o)) (operand p.globals b (k + addressed a))))
  set_good t class o a b k r u =
      let both = and_parts (is_target p f t class) _ r in
      let q = and_parts (may_give (op_kind o) class) _ both.1 in
      let s = and_parts (is_operand p f (first_class (op_kind o) class) a)
      (is_second p f (second_class (op_kind o) class) (takes_two (op_kind o)) b) q.1 in
      let to = target_fine t class both.0 in
      let one = operand_fine (first_class (op_kind o) class) a k s.0 (omega arith) in
      let two = second_fine (second_class (op_kind o) class) (takes_two (op_kind o)) b (k + addressed a) s.1 (omega arith) in
      let v = second (takes_two (op_kind o)) (operand p.globals b (k + addressed a)) in
      both_true _ _
      (both_true _ _ to.0 (both_true _ _ one.0 (subst (λ (x : Bool). shape.is_second x v ≡ true) (sym (takes_is o)) two.0)))
      (both_true _ _ to.1
      (both_true _ _ (may_is o class ∙ q.0)
      (both_true _ _ (subst (λ (c : Class). rule.is_right items params blocks c (operand p.globals a k) ≡ true) (sym (first_is o class))
      one.1)
      (subst (λ (c : Class). second_is_right items params blocks c v ≡ true) (sym (second_is o class)) two.1))))

  address_good : (i offset k : ℕ) → i < length p.globals → is_bits offset ≡ true → k < most_addresses →
      good (address_inst p.globals i offset k)
  address_good i offset k h b l =
      let few = n.few_addresses in
      both_true _ _
      (both_true _ _ (address_identifier k (omega arith)) (both_true _ _ (n.identifiers i h) b))
      (both_true _ _ (ap not (n.no_word k)) (both_true _ true (n.symbols i h) refl))

  load_good : (t : ℕ) (how : LoadKind) (at : Value) (k : ℕ) → is_right p f 0 (Load t how at) ≡ true → k + addressed at ≤ most_addresses
      → good (inst.Set (temp_name t) L (load_op how) (operand p.globals at k) None)
  load_good t how at k r u =
      let both = and_parts (is_target p f t L) (is_operand p f L at) r in
      let to = target_fine t L both.0 in
      let one = operand_fine L at k both.1 u in
      let is = load_is how in
      both_true _ _
      (both_true _ _ to.0 (both_true _ _ one.0 is.one))
      (both_true _ _ to.1
      (both_true _ _ is.gives
      (both_true _ true (subst (λ (c : Class). rule.is_right items params blocks c (operand p.globals at k) ≡ true) (sym is.wants) one.1)
      refl)))

  store_good : (width : ℕ) (value at : Value) (k : ℕ) → is_right p f 0 (Store width value at) ≡ true →
      k + addressed value + addressed at ≤ most_addresses
      → good (inst.Store width (operand p.globals value k) (operand p.globals at (k + addressed value)))
  store_good width value at k r u =
      let both = and_parts (is_width width) _ r in
      let s = and_parts (is_operand p f (stored_class width) value) (is_operand p f L at) both.1 in
      let one = operand_fine (stored_class width) value k s.0 (omega arith) in
      let two = operand_fine L at (k + addressed value) s.1 (omega arith) in
      both_true _ _
      (both_true _ _ both.0 (both_true _ _ one.0 two.0))
      (both_true _ _
      (subst (λ (c : Class). rule.is_right items params blocks c (operand p.globals value k) ≡ true) (sym (stored_is width both.0)) one.1)
      two.1)

  move_good : (to from : Value) (bytes k : ℕ) → is_right p f 0 (Move to from bytes) ≡ true →
      k + addressed to + addressed from ≤ most_addresses
      → good (inst.Blit (operand p.globals from (k + addressed to)) (operand p.globals to k) bytes)
  move_good to from bytes k r u =
      let both = and_parts (nat_le bytes most) _ r in
      let s = and_parts (is_operand p f L to) (is_operand p f L from) both.1 in
      let one = operand_fine L to k s.0 (omega arith) in
      let two = operand_fine L from (k + addressed to) s.1 (omega arith) in
      both_true _ _ (both_true _ _ two.0 (both_true _ _ one.0 (few_bits bytes both.0))) (both_true _ _ two.1 one.1)

  place_good : (offset k : ℕ) → offset < f.frame → k < most_addresses → good (place_inst offset k)
  place_good offset k h l =
      let few = n.few_addresses in
      let bytes = n.few_frame in
      both_true _ _
      (both_true _ _ (address_identifier k (omega arith)) (bits_of offset (omega arith)))
      (both_true _ _ (ap not (n.no_word k)) (both_true _ true (one_only _ _ true false (n.framed (omega arith)) n.no_frame_word) refl))

  -- ---- calls

  args_fine : (cs : List Class) (vs : List Value) (k : ℕ) → are_args p f cs vs ≡ true →
      k + all_addressed vs ≤ most_addresses → ArgsFine items params blocks cs (args_of p.globals cs vs k)
  args_fine [] [] k r u = record { as_many = refl; classed = refl; spelled = refl; right = refl }
  args_fine [] (v ∷ vs) k r u = cc
  args_fine (c ∷ cs) [] k r u = cc
  args_fine (c ∷ cs) (v ∷ vs) k r u =
      let both = and_parts (is_operand p f c v) (are_args p f cs vs) r in
      let one = operand_fine c v k both.0 (omega arith) in
      let rest = args_fine cs vs (k + addressed v) both.1 (omega arith) in
      record {
        as_many = omega (arith, rest.as_many);
        classed = both_true _ _ (class_same c) rest.classed;
        spelled = both_true _ _ one.0 rest.spelled;
        right = both_true _ _ one.1 rest.right;
      }

  classes_fine : (cs : List Class) (args : List IlArg) → ArgsFine items params blocks cs args → has_classes args cs ≡ true
  classes_fine cs args a =
      let h : (length args == length cs) ≡ true = let z = a.as_many in grind (arith, nat_tests) in both_true _ _ h a.classed

  result_fine : (temp : Option ℕ) (given : Option Class) → takes_result p f temp given ≡ true →
      ResultFine params blocks given (result_param temp given)
  result_fine None given h = record { taken = refl; spelled = refl; one_class = λ name args. refl }
  result_fine (Some t) None h = cc
  result_fine (Some t) (Some c) h =
      let both = target_fine t c h in
      record { taken = class_same c; spelled = both.0; one_class = λ name args. both.1 }

  call_right : (result : Option IlParam) (name : List ℕ) (args : List IlArg) → function_named items name ≡ None →
      is_runtime_call result name args ≡ true → list_all (λ (a : IlArg). rule.is_right items params blocks a.class a.value) args ≡ true →
      call_is_right items params blocks result name args ≡ true
  unfolding call_is_right
  call_right result name args none h k = both_true _ _ (ap (is_call_of result name args) none ∙ h) k

  runtime_good : (temp : Option ℕ) (name : List ℕ) (args : List Value) (k : ℕ) (g : Option RuntimeFunction) → runtime_function name ≡ g →
      function_named items name ≡ None → well.is_runtime_call p f temp args g ≡ true → k + all_addressed args ≤ most_addresses
      → good (inst.Call (result_param temp (call_class g)) name (args_of p.globals (call_params g) args k))
  runtime_good temp name args k None e none r u = cc
  runtime_good temp name args k (Some g) e none r u =
      let both = and_parts (are_args p f (runtime_params g) args) (takes_result p f temp (runtime_result g)) r in
      let xs = args_fine (runtime_params g) args k both.0 u in
      let to = result_fine temp (runtime_result g) both.1 in
      let known = named_call name g e in
      let x = args_of p.globals (runtime_params g) args k in
      let t = result_param temp (runtime_result g) in
      both_true _ _
      (both_true _ _ to.spelled (both_true _ _ known.identifier xs.spelled))
      (both_true _ _ (to.one_class name x)
      (call_right t name x none (known.call t x (both_true _ _ to.taken (classes_fine (runtime_params g) x xs)))
      xs.right))

  program_right : (result : Option IlParam) (name : List ℕ) (args : List IlArg) (c : Code) → function_named items name ≡ Some c →
      (rule.takes_result result c.class && has_classes_of args c.params) ≡ true →
      list_all (λ (a : IlArg). rule.is_right items params blocks a.class a.value) args ≡ true →
      call_is_right items params blocks result name args ≡ true
  unfolding call_is_right
  program_right result name args c some h k = both_true _ _ (ap (is_call_of result name args) some ∙ h) k

  called_good : (temp : Option ℕ) (name : List ℕ) (args : List Value) (k : ℕ) (g : Option FlatFn) →
      evaluation.function_named p.functions name ≡ g →
      is_call p f temp name args g ≡ true → k + all_addressed args ≤ most_addresses
      → good (inst.Call (result_param temp (called_class g name)) name (args_of p.globals (called_params g name) args k))
  called_good temp name args k None e r u =
      runtime_good temp name args k (runtime_function name) refl (n.functions name ∙ ap (emitted p) e) r u
  called_good temp name args k (Some g) e r u =
      let both = and_parts (are_args p f g.params args) (takes_result p f temp g.result) r in
      let xs = args_fine g.params args k both.0 u in
      let to = result_fine temp g.result both.1 in
      let x = args_of p.globals g.params args k in
      let t = result_param temp g.result in
      let c : Code = record { name = g.name; class = g.result; params = params_of 0 g.params; blocks = blocks_of p g } in
      let many : (length x == length (params_of 0 g.params)) ≡ true =
      ap (λ (m : ℕ). length x == m) (params_length 0 g.params) ∙
      (and_parts (length x == length g.params) _ (classes_fine g.params x xs)).0 in
      both_true _ _
      (both_true _ _ to.spelled (both_true _ _ (n.called name g e) xs.spelled))
      (both_true _ _ (to.one_class name x)
      (program_right t name x c (n.functions name ∙ ap (emitted p) e)
      (both_true _ _ to.taken (both_true _ _ many (params_classes 0 g.params x ∙ xs.classed))) xs.right))

  -- ---- jumps

  abbrev leads : Jump → Type 0
  leads j = good_jump items params blocks f.result j ≡ true

  label_fine : (m : ℕ) → m < most_labels → is_identifier (label_name m) ≡ true
  label_fine m h = let few = n.few_labels in label_identifier m (omega arith)

  not_first : (m : ℕ) → 0 < m → m < most_labels → not (bytes_eq (label_name m) (label_name 0)) ≡ true
  not_first m l u =
      let few = n.few_labels in
      let e : nat_eq m 0 ≡ false = grind (arith, nat_tests) in
      ap not (label_eq m 0 (omega arith) (omega arith) ∙ e)

  jump_good : (m : ℕ) → 0 < m → m < most_labels → leads (jump.Jmp (label_name m))
  jump_good m l u = both_true _ _ (label_fine m u) (both_true _ _ (n.labels m u) (both_true _ true (not_first m l u) refl))

  branch_good : (v : Value) (k a b : ℕ) → is_operand p f W v ≡ true → k + addressed v ≤ most_addresses → 0 < a →
      a < most_labels → 0 < b → b < most_labels → leads (jump.Jnz (operand p.globals v k) (label_name a) (label_name b))
  branch_good v k a b r u la ua lb ub =
      let one = operand_fine W v k r u in
      both_true _ _ (both_true _ _ one.0 (both_true _ _ (label_fine a ua) (label_fine b ub)))
      (both_true _ _ (both_true _ _ (n.labels a ua) (n.labels b ub))
      (both_true _ _ (both_true _ _ (not_first a la ua) (not_first b lb ub)) one.1))

  return_good : (class : Option Class) → is_return p f class None ≡ true →
      return_is_right items params blocks class None ≡ true
  return_good None r = refl
  return_good (Some c) r = cc

  value_good : (class : Option Class) (v : Value) (k : ℕ) → is_return p f class (Some v) ≡ true →
      k + addressed v ≤ most_addresses
      → (is_value (operand p.globals v k) ≡ true) × (return_is_right items params blocks class (Some (operand p.globals v k)) ≡ true)
  value_good None v k r u = cc
  value_good (Some c) v k r u = operand_fine c v k r u

  pub lines_pass : LinesPass p f
      (line_passes (good_label most_labels) (good_inst items params blocks f.result) (good_jump items params blocks f.result)) most_labels
      most_addresses
  lines_pass = record {
    label = λ m h. grind (arith, nat_tests);
    goes = jump_good;
    branch = branch_good;
    returns = λ r. return_good f.result r;
    returns_value = λ v k r u. let both = value_good f.result v k r u in both_true _ _ both.0 both.1;
    set = set_good;
    load = load_good;
    store = store_good;
    move = move_good;
    call = λ temp name args k r u. called_good temp name args k (evaluation.function_named p.functions name) refl r u;
    place = place_good;
    address = address_good;
  }
