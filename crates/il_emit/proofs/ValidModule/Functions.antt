-- A function of a well formed program becomes one that keeps the rules of the intermediate language.
use Rattle.std.proofs.Common.{◌≡◌, ℕ, zero, suc, ◌+◌, ◌<◌, ◌≤◌, ◌^◌, Bool, true, false, cond, not, ◌&&◌, ◌||◌, List, [], ◌∷◌, ◌++◌, length, Option, None, Some, refl, sym, ap, ◌∙◌, subst, arith, inl, inr}
use Rattle.std.specs.Prelude.{bytes_eq, codes, count_by, nat_le, nat_lt, ◌==◌}
use Rattle.std.specs.List.{list_all, list_any}
use Rattle.std.proofs.lemmas.Bool.{and_parts, or_cases}
use Rattle.std.proofs.lemmas.Bool.Decides.{nat_tests}
use Rattle.hx_base.specs.declared.Class.{Class}
use Rattle.hx_base.specs.declared.Class.TheVariants.{W, L}
use Rattle.flat_code.specs.declared.program.FlatFn.{FlatFn}
use Rattle.flat_code.specs.declared.program.FlatProgram.{FlatProgram}
use Rattle.flat_code.specs.Code.{Code}
use Rattle.flat_code.specs.Evaluation as evaluation
use Rattle.flat_code.specs.Shape.{code_of}
use Rattle.flat_code.specs.Temps.{params_set, code_sets, has_one_class, other_class}
use Rattle.flat_code.specs.Temps as flat
use Rattle.flat_code.specs.WellFormed.{deepest, is_symbol, is_identifier, is_reserved, is_main_right, is_function_right, nests_within, is_right, params_have_one_class}
use Rattle.il_code.specs.declared.types.Block.{Block}
use Rattle.il_code.specs.declared.types.IlItem.{IlItem}
use Rattle.il_code.specs.declared.types.IlParam.{IlParam}
use Rattle.il_code.specs.declared.types.Inst.{Inst}
use Rattle.il_code.specs.declared.types.Jump.{Jump}
use Rattle.il_code.specs.declared.types.Jump.TheVariants as jump
use Rattle.il_code.specs.Rules as rule
use Rattle.il_code.specs.Items.{function_named}
use Rattle.il_code.specs.Rules.{item_name, how_many, are_distinct, has_named, has_label, labels_known, block_labels_known, targets_pass, start_is_no_target, phis_are_placed, is_set, sets, result_sets, inst_sets, block_sets, inst_has_one_class, block_has_one_class, each_has_one_class, inst_is_right, jump_is_right, return_is_right, block_is_right, has_own_names, flow_is_right, item_is_right}
use Rattle.il_code.specs.Shaped.{is_param, is_inst, is_jump, is_block, is_item}
use Rattle.il_emit.specs.Names.{temp_name, address_name, frame_name, label_name}
use Rattle.il_emit.specs.Lines.{Line, Label, Do, End, name_at, end_value, result_param, frame_lines, inner_lines, labels_in, addresses_in}
use Rattle.il_emit.specs.Emitted.{params_of, blocks_of, function_item}
use Rattle.il_emit.specs.Numbered.{HasFewNames}
use Rattle.il_emit.proofs.Lines.Allowed.{LinesPass, inner_good}
use Rattle.il_emit.proofs.Lines.Blocks.{block, tidy, line_passes, lines_any, blocks_pass, any_open, count_open, starts_open, no_target}
use Rattle.il_emit.proofs.Lines.Blocks.{blocks_end, no_phis_placed}
use Rattle.il_emit.proofs.Lines.Counts.{both_true, or_true, all_append, all_more, sum_cons, weight, either}
use Rattle.il_emit.proofs.Lines.EachInst.{passes}
use Rattle.il_emit.proofs.NamesAndNumbers.NamedFunctions.{emitted}
use Rattle.il_emit.proofs.NamesAndNumbers.NumberedNames.{temp_identifier, label_identifier, temp_eq, label_eq}
use Rattle.il_emit.proofs.NamesAndNumbers.Numbering.{inner_tidy, within, within_in, inner_labels, inner_sets_is, params_sets_is, code_below}
use Rattle.il_emit.proofs.NamesAndNumbers.Numbering.{params_below, inner_there, frame_there}
use Rattle.il_emit.proofs.ValidModule.Rightful.{Names, good_inst, good_jump, good_label, params_length, lines_pass}

-- what is not there is not counted
nowhere : {A : Type 0} (q : A → Bool) (ys : List A) → list_any q ys ≡ false → count_by q ys ≡ 0
nowhere q [] e = refl
nowhere q (y ∷ ys) e = pick (q y) refl e (nowhere q ys)
  where
    pick : (b : Bool) → q y ≡ b → (b || list_any q ys) ≡ false → (list_any q ys ≡ false → count_by q ys ≡ 0) → count_by q (y ∷ ys) ≡ 0
    pick true k e' on = cc
    pick false k e' on = sum_cons (λ x. cond (q x) 1 0) y ys ∙ omega (arith, ap weight k, on e')

-- what is counted is there
counted : {A : Type 0} (q : A → Bool) (xs : List A) → count_by q xs ≡ 1 → list_any q xs ≡ true
counted q xs h = pick (list_any q xs) refl
  where
    pick : (b : Bool) → list_any q xs ≡ b → b ≡ true
    pick true e = refl
    pick false e = absurd (omega (arith, h, nowhere q xs e))

-- ---- neither an address nor that of the frame is a word

-- no temporary of flat code has the name
abbrev IsApart : List ℕ → Type 0
IsApart name = (t : ℕ) → bytes_eq (temp_name t) name ≡ false

abbrev no_word : List ℕ → Inst → Bool
no_word name i = not (inst_sets name W i)

set_no_word : (name : List ℕ) → IsApart name → (t : ℕ) (class : Class) → not (sets name W (temp_name t) class) ≡ true
set_no_word name apart t class = ap (λ (b : Bool). not (b && rule.same_class class W)) (apart t)

result_no_word : (name : List ℕ) → IsApart name → (temp : Option ℕ) (given : Option Class) →
    not (result_sets name W (result_param temp given)) ≡ true
result_no_word name apart None given = refl
result_no_word name apart (Some t) None = refl
result_no_word name apart (Some t) (Some c) = set_no_word name apart t c

and_false : (b : Bool) → not (b && false) ≡ true
and_false true = refl
and_false false = refl

no_word_lines : (p : FlatProgram) (f : FlatFn) (name : List ℕ) → IsApart name → (most_labels most_addresses : ℕ) →
    LinesPass p f (passes (no_word name)) most_labels most_addresses
no_word_lines p f name apart most_labels most_addresses = record {
  label = λ n h. refl;
  goes = λ n l u. refl;
  branch = λ v j n m r u a b c d. refl;
  returns = λ r. refl;
  returns_value = λ v j r u. refl;
  set = λ t class o a b j r u. set_no_word name apart t class;
  load = λ t how at j r u. set_no_word name apart t L;
  store = λ width value at j r u. refl;
  move = λ to from bytes j r u. refl;
  call = λ temp target args j r u. result_no_word name apart temp _;
  place = λ offset j h l. and_false (bytes_eq (address_name j) name);
  address = λ i offset j h b l. and_false (bytes_eq (address_name j) name);
}

frame_no_word : (name : List ℕ) (n : ℕ) → list_all (passes (no_word name)) (frame_lines n) ≡ true
frame_no_word name zero = refl
frame_no_word name (suc n) = both_true _ true (and_false (bytes_eq frame_name name)) refl

none_any : (q : Inst → Bool) (lines : List Line) → list_all (passes (λ i. not (q i))) lines ≡ true → lines_any q lines ≡ false
none_any q [] h = refl
none_any q (Label n ∷ lines) h = none_any q lines h
none_any q (End j ∷ lines) h = none_any q lines h
none_any q (Do i ∷ lines) h = pick (q i) (and_parts (not (q i)) _ h).0 (none_any q lines (and_parts (not (q i)) _ h).1)
  where
    pick : (b : Bool) → not b ≡ true → lines_any q lines ≡ false → (b || lines_any q lines) ≡ false
    pick true e on = cc
    pick false e on = on

params_no_word : (name : List ℕ) → IsApart name → (at : ℕ) (cs : List Class) →
    list_any (λ (p : IlParam). sets name W p.name p.class) (params_of at cs) ≡ false
params_no_word name apart at [] = refl
params_no_word name apart at (c ∷ cs) =
    either _ _ false false (ap (λ (b : Bool). b && rule.same_class c W) (apart at)) (params_no_word name apart (suc at) cs)

-- ---- parameters

params_spelled : (at : ℕ) (cs : List Class) → at + length cs ≤ 2 ^ 64 → list_all is_param (params_of at cs) ≡ true
params_spelled at [] h = refl
params_spelled at (c ∷ cs) h = both_true _ _ (temp_identifier at (omega arith)) (params_spelled (suc at) cs (omega arith))

params_count : (t at : ℕ) (cs : List Class) → t < 2 ^ 64 → at + length cs ≤ 2 ^ 64 →
    how_many (λ (p : IlParam). p.name) (temp_name t) (params_of at cs) ≡ within t at (length cs)
params_count t at [] s h = refl
params_count t at (c ∷ cs) s h =
    sum_cons (λ (p : IlParam). cond (bytes_eq p.name (temp_name t)) 1 0) (record { name = temp_name at; class = c }) (params_of (suc at) cs)
    ∙ omega (arith, ap weight (temp_eq at t (omega arith) s), params_count t (suc at) cs s (omega arith))

params_each : (test : IlParam → Bool) (at : ℕ) (cs : List Class) →
    ((t : ℕ) (c : Class) → at ≤ t → t < at + length cs → test (record { name = temp_name t; class = c }) ≡ true) →
    list_all test (params_of at cs) ≡ true
params_each test at [] h = refl
params_each test at (c ∷ cs) h =
    both_true _ _ (h at c (omega arith) (omega arith)) (params_each test (suc at) cs (λ t d l u. h t d (omega arith) (omega arith)))

-- ---- one function

-- the parts of the test of a jump
record JumpParts (items : List IlItem) (params : List IlParam) (blocks : List Block) (class : Option Class) (j : Jump) : Type 0 where
  spelled : is_jump j ≡ true
  known : targets_pass (has_label blocks) j ≡ true
  no_start : targets_pass (λ l. not (bytes_eq l (label_name 0))) j ≡ true
  fits : jump_is_right items params blocks class j ≡ true

-- the parts of the test of a function
record Parts (p : FlatProgram) (f : FlatFn) : Type 0 where
  symbol : is_symbol f.name ≡ true
  main : is_main_right f ≡ true
  few_params : nat_le (length f.params) f.temps ≡ true
  one_class : params_have_one_class p f 0 f.params ≡ true
  code : is_right p f 0 (code_of f.body) ≡ true

module _ (p : FlatProgram) (f : FlatFn) (items : List IlItem) (right : is_function_right p f ≡ true) (few : HasFewNames f)
    (identifiers : (i : ℕ) → i < length p.globals → is_identifier (name_at p.globals i) ≡ true)
    (symbols : (i : ℕ) → i < length p.globals → has_named item_name (name_at p.globals i) items ≡ true)
    (functions : (name : List ℕ) → function_named items name ≡ emitted p (evaluation.function_named p.functions name))
    (called : (name : List ℕ) (g : FlatFn) → evaluation.function_named p.functions name ≡ Some g → is_identifier name ≡ true) where
  abbrev body : Code
  body = code_of f.body

  abbrev most_labels : ℕ
  most_labels = suc (labels_in body true)

  abbrev lines : List Line
  lines = inner_lines p f

  abbrev last : Jump
  last = jump.Ret (end_value f.result)

  abbrev params : List IlParam
  params = params_of 0 f.params

  abbrev blocks : List Block
  blocks = blocks_of p f

  parts : Parts p f
  parts =
      let a = and_parts (is_symbol f.name) _ right in
      let b = and_parts (is_main_right f) _ a.1 in
      let c = and_parts (nat_le (length f.params) f.temps) _ b.1 in
      let d = and_parts (nests_within body deepest) _ c.1 in
      let g = and_parts (params_have_one_class p f 0 f.params) (is_right p f 0 body) d.1 in
      record { symbol = a.0; main = b.0; few_params = c.0; one_class = g.0; code = g.1 }

  params_few : length f.params ≤ f.temps
  params_few = let z = parts.few_params in grind (arith, nat_tests)

  tidy_lines : tidy true lines ≡ true
  tidy_lines = inner_tidy p f

  label_count : (n : ℕ) → n < most_labels → how_many (λ (b : Block). b.label) (label_name n) blocks ≡ 1
  label_count n h =
      let s = few.labels in
      count_open (label_name n) [] (label_name 0) [] lines last tidy_lines
      ∙ omega (
        arith,
        ap weight (label_eq 0 n (omega arith) (omega arith)),
        inner_labels p n (omega arith) f (omega arith),
        within_in n 0 most_labels (omega arith) (omega arith),
      )

  set_is : (t : ℕ) (class : Class) → t < f.temps → is_set params blocks (temp_name t) class ≡ flat.is_set p f t class
  set_is t class h =
      let s = few.temps in
      let z = params_few in
      either _ _ _ _ (params_sets_is p f s t (omega arith) class 0 f.params (omega arith))
      (any_open (inst_sets (temp_name t) class) (block_sets (temp_name t) class) (λ l is j. refl) [] (label_name 0) [] lines last tidy_lines
      ∙ inner_sets_is p f s t (omega arith) class parts.code)

  below : (t : ℕ) (class : Class) → flat.is_set p f t class ≡ true → t < f.temps
  below t class e =
      let z = params_few in
      elim (or_cases (params_set t class 0 f.params) (code_sets p t class body) e) [
        | inl h ↦ let k = params_below p f t class 0 f.params h in omega (arith, k)
        | inr h ↦ code_below p f t class body 0 parts.code h
      ]

  computed : (k : ℕ) → k < addresses_in body → is_set params blocks (address_name k) L ≡ true
  computed k h =
      or_true _ _ (any_open (inst_sets (address_name k) L) (block_sets (address_name k) L) (λ l is j. refl) [] (label_name 0) [] lines last
      tidy_lines
      ∙ inner_there p f k parts.code h)

  framed : 0 < f.frame → is_set params blocks frame_name L ≡ true
  framed h =
      or_true _ _ (any_open (inst_sets frame_name L) (block_sets frame_name L) (λ l is j. refl) [] (label_name 0) [] lines last
      tidy_lines
      ∙ frame_there p f h)

  never_word : (name : List ℕ) → IsApart name → is_set params blocks name W ≡ false
  never_word name apart =
      either _ _ false false (params_no_word name apart 0 f.params)
      (any_open (inst_sets name W) (block_sets name W) (λ l is j. refl) [] (label_name 0) [] lines last tidy_lines
      ∙ none_any (inst_sets name W) lines
      (inner_good p f (passes (no_word name)) most_labels (addresses_in body) (no_word_lines p f name apart most_labels (addresses_in body))
      parts.code (omega arith) (omega arith) (frame_no_word name f.frame)))

  names : Names p f items params blocks most_labels (addresses_in body)
  names = record {
    few_labels = let s = few.labels in omega arith;
    few_addresses = let s = few.addresses in omega arith;
    few_temps = few.temps;
    few_frame = few.frame;
    set_is = set_is;
    below = below;
    computed = computed;
    no_word = λ k. never_word (address_name k) (λ t. refl);
    framed = framed;
    no_frame_word = never_word frame_name (λ t. refl);
    labels = λ n h. counted (λ (b : Block). bytes_eq b.label (label_name n)) blocks (label_count n h);
    identifiers = identifiers;
    symbols = symbols;
    functions = functions;
    called = called;
  }

  abbrev inst_good : Inst → Bool
  inst_good = good_inst items params blocks f.result

  abbrev jump_good : Jump → Bool
  jump_good = good_jump items params blocks f.result

  last_right : (class : Option Class) → (is_jump (jump.Ret (end_value class)) ≡ true) ×
      (return_is_right items params blocks class (end_value class) ≡ true)
  last_right None = (refl, refl)
  last_right (Some c) = (refl, refl)

  frame_good : (n : ℕ) → n < 2 ^ 64 → list_all (line_passes (good_label most_labels) inst_good jump_good) (frame_lines n) ≡ true
  frame_good zero h = refl
  frame_good (suc n) h =
      let bits : nat_lt (suc n) (2 ^ 64) ≡ true = grind (arith, nat_tests) in
      both_true _ true
      (both_true _ _ (both_true _ true bits refl)
      (both_true _ true (ap not (never_word frame_name (λ t. refl))) refl)) refl

  all_lines : list_all (line_passes (good_label most_labels) inst_good jump_good) (lines ++ End last ∷ []) ≡ true
  all_lines =
      let e = last_right f.result in
      all_append _ lines (End last ∷ [])
      (inner_good p f (line_passes (good_label most_labels) inst_good jump_good) most_labels (addresses_in body)
      (lines_pass p f items params blocks most_labels (addresses_in body) names) parts.code (omega arith) (omega arith)
      (frame_good f.frame few.frame))
      (both_true _ true (both_true _ _ e.0 e.1) refl)

  -- a test that blocks of good lines pass
  each_block : (test : Block → Bool) →
      ((n : ℕ) (is : List Inst) (j : Jump) → n < most_labels → list_all inst_good is ≡ true → jump_good j ≡ true →
      test (block (label_name n) is j) ≡ true) → list_all test blocks ≡ true
  each_block test on =
      blocks_pass (good_label most_labels) inst_good jump_good refl test
      (λ s n is j e l h k. let lt : n < most_labels = grind (arith, nat_tests) in subst (λ (t : List ℕ). test (block t is j) ≡ true) (sym e)
      (on n is j lt h k))
      [] (label_name 0) 0 [] true (lines ++ End last ∷ []) refl first refl refl all_lines
    where
      first : good_label most_labels 0 ≡ true
      first = grind (arith, nat_tests)

  jump_parts : (j : Jump) → jump_good j ≡ true → JumpParts items params blocks f.result j
  jump_parts j h =
      let a = and_parts (is_jump j) _ h in
      let b = and_parts (targets_pass (has_label blocks) j) _ a.1 in
      let c = and_parts (targets_pass (λ l. not (bytes_eq l (label_name 0))) j) _ b.1 in
      record { spelled = a.0; known = b.0; no_start = c.0; fits = c.1 }

  pub shaped : is_item (function_item p f) ≡ true
  shaped =
      let z = params_few in
      let s = few.temps in
      both_true _ _ (and_parts (is_identifier f.name) (not (is_reserved f.name)) parts.symbol).0
      (both_true _ _ (params_spelled 0 f.params (omega arith))
      (both_true _ _ (each_block is_block on) (blocks_end _ lines last refl)))
    where
      on : (n : ℕ) (is : List Inst) (j : Jump) → n < most_labels → list_all inst_good is ≡ true → jump_good j ≡ true →
          is_block (block (label_name n) is j) ≡ true
      on n is j l h k =
          let s = few.labels in
          both_true _ _ (label_identifier n (omega arith))
          (both_true _ _ (all_more inst_good is_inst (λ i e. (and_parts (is_inst i) _ e).0) is h) (jump_parts j k).spelled)

  pub own_names : has_own_names (function_item p f) ≡ true
  own_names =
      let z = params_few in
      let s = few.temps in
      both_true _ _ (and_parts (is_identifier f.name) (not (is_reserved f.name)) parts.symbol).1
      (both_true _ _ (params_each (λ (p : IlParam). how_many (λ (q : IlParam). q.name) p.name params == 1) 0 f.params
      (λ t c l u. ap (λ (m : ℕ). m == 1) (params_count t 0 f.params (omega arith) (omega arith) ∙ within_in t 0 (length f.params) l u)))
      (each_block (λ (b : Block). how_many (λ (x : Block). x.label) b.label blocks == 1)
      (λ n is j l h k. ap (λ (m : ℕ). m == 1) (label_count n l))))

  pub flows : flow_is_right (function_item p f) ≡ true
  flows =
      both_true _ _ (each_block (block_labels_known blocks) (λ n is j l h k. both_true _ _ (jump_parts j k).known refl))
      (both_true _ _ (no_target (label_name 0) blocks (starts_open (label_name 0) [] lines last)
      (each_block (λ (b : Block). targets_pass (λ l. not (bytes_eq l (label_name 0))) b.jump)
      (λ n is j l h k. (jump_parts j k).no_start)))
      (no_phis_placed blocks (each_block (λ (b : Block). length b.phis == 0) (λ n is j l h k. refl))))

  params_one_class : (at : ℕ) (cs : List Class) → at + length cs ≤ f.temps → params_have_one_class p f at cs ≡ true →
      list_all (λ (p : IlParam). rule.has_one_class params blocks p.name p.class) (params_of at cs) ≡ true
  params_one_class at [] u h = refl
  params_one_class at (c ∷ cs) u h =
      let both = and_parts (has_one_class p f at c) (params_have_one_class p f (suc at) cs) h in
      both_true _ _ (ap not (set_is at (other_class c) (omega arith)) ∙ both.0) (params_one_class (suc at) cs (omega arith) both.1)

  pub rightful : item_is_right items (function_item p f) ≡ true
  rightful =
      both_true _ _ (ap (λ (m : ℕ). not (bytes_eq f.name (codes "main")) || (m == 0 && rule.no_long f.result)) (params_length 0 f.params) ∙
      parts.main)
      (both_true _ _ (both_true _ _ (params_one_class 0 f.params (omega (arith, params_few)) parts.one_class)
      (each_block (block_has_one_class params blocks)
      (λ n is j l h k. all_more inst_good (inst_has_one_class params blocks)
      (λ i e. (and_parts (inst_has_one_class params blocks i) _ (and_parts (is_inst i) _ e).1).0) is h)))
      (each_block (block_is_right items params blocks f.result) (λ n is j l h k.
      both_true _ _ (all_more inst_good (inst_is_right items params blocks)
      (λ i e. (and_parts (inst_has_one_class params blocks i) _ (and_parts (is_inst i) _ e).1).1) is h) (jump_parts j k).fits)))
