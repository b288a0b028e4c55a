-- A module with tight functions is valid where it was valid before.
use Rattle.std.proofs.Common.{◌≡◌, ℕ, ◌+◌, Bool, true, false, cond, not, ◌&&◌, ◌||◌, inl, inr, List, [], ◌∷◌, ◌++◌, map, length, Option, None, Some, refl, sym, ap, ◌∙◌, subst, arith}
use Rattle.std.specs.Prelude.{bytes_eq, count_by, sum_by, ◌==◌}
use Rattle.std.specs.List.{list_all, list_any}
use Rattle.std.proofs.lemmas.Bool.{and_parts, or_cases}
use Rattle.std.proofs.lemmas.List.Folds.{list_all-append, list_any-append}
use Rattle.std.proofs.lemmas.List.Sums.{sum_by-append}
use Rattle.hx_base.specs.declared.Class.{Class}
use Rattle.hx_base.specs.declared.Class.TheVariants.{W, L}
use Rattle.il_code.specs.declared.types.Block.{Block}
use Rattle.il_code.specs.declared.types.IlArg.{IlArg}
use Rattle.il_code.specs.declared.types.IlItem.{IlItem}
use Rattle.il_code.specs.declared.types.IlItem.TheVariants.{Data, Function}
use Rattle.il_code.specs.declared.types.IlParam.{IlParam}
use Rattle.il_code.specs.declared.types.IlValue.{IlValue}
use Rattle.il_code.specs.declared.types.IlValue.TheVariants as value
use Rattle.il_code.specs.declared.types.Inst.{Inst}
use Rattle.il_code.specs.declared.types.Inst.TheVariants.{Set, Store, Blit, Call}
use Rattle.il_code.specs.declared.types.Jump.{Jump}
use Rattle.il_code.specs.declared.types.Jump.TheVariants.{Fall, Jmp, Jnz, Ret, Hlt}
use Rattle.il_code.specs.declared.types.Module.{Module}
use Rattle.il_code.specs.declared.types.Part.{Part}
use Rattle.il_code.specs.declared.types.Part.TheVariants.{Values, Zero}
use Rattle.il_code.specs.declared.types.PartValue.{PartValue}
use Rattle.il_code.specs.declared.types.PartValue.TheVariants as part
use Rattle.il_code.specs.declared.types.Phi.{Phi}
use Rattle.il_code.specs.Classes.{first_class, may_give, op_kind, second_class}
use Rattle.il_code.specs.Items.{Code, function_named, item_name}
use Rattle.il_code.specs.Rules as rule
use Rattle.il_code.specs.Rules.{how_many, are_distinct, has_named, has_own_names, has_label, targets_pass, block_labels_known, labels_known, start_is_no_target, phis_are_placed, is_set, inst_has_one_class, block_has_one_class, has_one_class, each_has_one_class, inst_is_right, second_is_right, call_is_right, is_call_right, is_call_of, return_is_right, jump_is_right, block_is_right, block_sets, part_value_is_right, part_is_right, item_is_right, flow_is_right, is_main, is_main_right, inst_is_small, item_is_small, item_size, is_function, is_small, IsValid}
use Rattle.il_code.specs.Shaped.{is_block, is_inst, is_item, is_jump, is_lawful, is_param, is_phi, is_shaped, ends, falls}
use Rattle.il_code.specs.Tokens.{is_identifier}
use Rattle.il_code.proofs.Validates.{valid_is}
use Rattle.hx_table.proofs.TableLemmas.{same_name, bytes_eq-same}
use Rattle.il_tight.specs.Tight.{is_known, is_closed, dropped, keeps_settings, reached, read_by, staying, zero, unset, tight, tight_item, tight_module}
use Rattle.il_tight.proofs.KeptBlocks.Behind.{Apart, unset_apart, stops_ends}
use Rattle.il_tight.proofs.KeptBlocks.Kept.{kept, tight_is}
use Rattle.il_tight.proofs.StillValid.Lacking.{Settles, any_split, settings_at, unset_few, unset_passes, unset_sets}
use Rattle.il_tight.proofs.TightBlocks.Passing.{both_true, all_two, all_more, all_reached, reached_pass, stays_kept, targets_kept}
use Rattle.il_tight.proofs.TightBlocks.Passing.{label_kept, count_kept, whole_ends, ends_more}
use Rattle.il_tight.proofs.StillValid.ReadTemps.{value_passes, option_passes, args_pass, inst_passes, jump_passes, block_passes}
use Rattle.il_tight.proofs.StillValid.ReadTemps.{reads_known}
use Rattle.il_tight.proofs.SameRuns.Runs.{NoPhis, functions_same}
use Rattle.il_tight.proofs.TightBlocks.Settings.{AtClass, or_left, or_right, sets_reached, all_reached_set, any_reached, set_at}
use Rattle.il_tight.proofs.SameRuns.Twins.{Plain, plain_kept, plain_append, unset_plain, SameCode, no_code, one_code}
use Rattle.il_tight.proofs.KeptBlocks.Staying.{staying_first, staying_closed}

-- ---- what is right

call_same : (result : Option IlParam) (target : List ℕ) (args : List IlArg) (o o' : Option Code) → SameCode o o' →
    is_call_of result target args o' ≡ is_call_of result target args o
call_same result target args _ _ no_code = refl
call_same result target args _ _ (one_code f stays last w) = refl

module _ (items items' : List IlItem) (named : (s : List ℕ) → has_named item_name s items' ≡ has_named item_name s items)
    (functions : (name : List ℕ) → SameCode (function_named items name) (function_named items' name))
    (params : List IlParam) (bs ks : List Block)
    (few : (name : List ℕ) (class : Class) → is_set params ks name class ≡ true → is_set params bs name class ≡ true)
    (test : List ℕ → Bool)
    (sound : (name : List ℕ) → test name ≡ true → (class : Class) → is_set params bs name class ≡ true →
    AtClass (λ c. is_set params ks name c)) where
  few_none : (name : List ℕ) (class : Class) → not (is_set params bs name class) ≡ true → not (is_set params ks name class) ≡ true
  few_none name class h = pick (is_set params ks name class) refl
    where
      pick : (z : Bool) → is_set params ks name class ≡ z → not (is_set params ks name class) ≡ true
      pick true e = absurd (let k = few name class e in cc)
      pick false e = rw e refl

  word_right : (t : List ℕ) → AtClass (λ c. is_set params ks t c) → (is_set params ks t W || is_set params ks t L) ≡ true
  word_right t h = pick h.class h.is
    where
      pick : (c : Class) → is_set params ks t c ≡ true → (is_set params ks t W || is_set params ks t L) ≡ true
      pick W e = or_left _ _ e
      pick L e = or_right (is_set params ks t W) _ e

  long_right : (t : List ℕ) → not (is_set params bs t W) ≡ true → AtClass (λ c. is_set params ks t c) →
      (is_set params ks t L && not (is_set params ks t W)) ≡ true
  long_right t h k = pick k.class k.is
    where
      pick : (c : Class) → is_set params ks t c ≡ true → (is_set params ks t L && not (is_set params ks t W)) ≡ true
      pick W e = absurd (let x = few t W e in cc)
      pick L e = both_true _ _ e (few_none t W h)

  value_right : (class : Class) (v : IlValue) → value_passes test v ≡ true → rule.is_right items params bs class v ≡ true →
      rule.is_right items' params ks class v ≡ true
  value_right class (value.Number n) e h = refl
  value_right W (value.Temp t) e h = elim (or_cases (is_set params bs t W) (is_set params bs t L) h) [
    | inl x ↦ word_right t (sound t e W x)
    | inr x ↦ word_right t (sound t e L x)
  ]
  value_right L (value.Temp t) e h =
      let k = and_parts (is_set params bs t L) (not (is_set params bs t W)) h in long_right t k.1 (sound t e L k.0)
  value_right W (value.Symbol s) e h = h
  value_right L (value.Symbol s) e h = named s ∙ h

  second_right : (class : Class) (v : Option IlValue) → option_passes test v ≡ true →
      second_is_right items params bs class v ≡ true → second_is_right items' params ks class v ≡ true
  second_right class None e h = refl
  second_right class (Some v) e h = value_right class v e h

  args_right : (args : List IlArg) → args_pass test args ≡ true →
      list_all (λ (a : IlArg). rule.is_right items params bs a.class a.value) args ≡ true →
      list_all (λ (a : IlArg). rule.is_right items' params ks a.class a.value) args ≡ true
  args_right args e h =
      all_two (λ (a : IlArg). value_passes test a.value) (λ (a : IlArg). rule.is_right items params bs a.class a.value)
      (λ (a : IlArg). rule.is_right items' params ks a.class a.value) (λ a x y. value_right a.class a.value x y) args e h

  call_right : (result : Option IlParam) (target : List ℕ) (args : List IlArg) → args_pass test args ≡ true →
      call_is_right items params bs result target args ≡ true → call_is_right items' params ks result target args ≡ true
  unfolding call_is_right
  call_right result target args e h =
      let k = and_parts (is_call_right items result target args) _ h in
      both_true _ _
      (call_same result target args (function_named items target) (function_named items' target) (functions target) ∙ k.0)
      (args_right args e k.1)

  inst_right : (i : Inst) → inst_passes test i ≡ true → inst_is_right items params bs i ≡ true → inst_is_right items' params ks i ≡ true
  inst_right (Set temp class o a b) e h =
      let x = and_parts (value_passes test a) (option_passes test b) e in
      let k = and_parts (may_give (op_kind o) class) _ h in
      let y = and_parts (rule.is_right items params bs (first_class (op_kind o) class) a) _ k.1 in
      both_true _ _ k.0 (both_true _ _ (value_right (first_class (op_kind o) class) a x.0 y.0)
      (second_right (second_class (op_kind o) class) b x.1 y.1))
  inst_right (Store width v at) e h =
      let x = and_parts (value_passes test v) (value_passes test at) e in
      let y = and_parts (rule.is_right items params bs (rule.stored_class width) v) _ h in
      both_true _ _ (value_right (rule.stored_class width) v x.0 y.0) (value_right L at x.1 y.1)
  inst_right (Blit from to bytes) e h =
      let x = and_parts (value_passes test from) (value_passes test to) e in
      let y = and_parts (rule.is_right items params bs L from) _ h in
      both_true _ _ (value_right L from x.0 y.0) (value_right L to x.1 y.1)
  inst_right (Call result target args) e h = call_right result target args e h

  class_right : (name : List ℕ) (class : Class) → has_one_class params bs name class ≡ true → has_one_class params ks name class ≡ true
  class_right name class h = few_none name (rule.other_class class) h

  one_class : (i : Inst) → inst_has_one_class params bs i ≡ true → inst_has_one_class params ks i ≡ true
  one_class (Set temp class o a b) h = class_right temp class h
  one_class (Store width v at) h = refl
  one_class (Blit from to bytes) h = refl
  one_class (Call None target args) h = refl
  one_class (Call (Some p) target args) h = class_right p.name p.class h

  return_right : (class : Option Class) (v : Option IlValue) → option_passes test v ≡ true →
      return_is_right items params bs class v ≡ true → return_is_right items' params ks class v ≡ true
  return_right None None e h = refl
  return_right None (Some v) e h = cc
  return_right (Some c) None e h = cc
  return_right (Some c) (Some v) e h = value_right c v e h

  jump_right : (class : Option Class) (j : Jump) → jump_passes test j ≡ true → jump_is_right items params bs class j ≡ true →
      jump_is_right items' params ks class j ≡ true
  jump_right class Fall e h = refl
  jump_right class (Jmp l) e h = refl
  jump_right class (Jnz v a b) e h = value_right W v e h
  jump_right class (Ret v) e h = return_right class v e h
  jump_right class Hlt e h = refl

-- ---- how many blocks have a label

abbrev weight : Bool → ℕ
weight b = cond b 1 0

how_many_append : (l : List ℕ) (xs ys : List Block) →
    how_many (λ (b : Block). b.label) l (xs ++ ys) ≡ how_many (λ (b : Block). b.label) l xs + how_many (λ (b : Block). b.label) l ys
how_many_append l xs ys = sum_by-append (λ (b : Block). cond (bytes_eq b.label l) 1 0) xs ys

one_more : (l : List ℕ) (x : Block) (xs : List Block) →
    how_many (λ (b : Block). b.label) l (x ∷ xs) ≡ weight (bytes_eq x.label l) + how_many (λ (b : Block). b.label) l xs
one_more l x xs = how_many_append l (x ∷ []) xs ∙ omega arith

one_alone : (b : Block) → how_many (λ (b : Block). b.label) b.label (b ∷ []) ≡ 1
one_alone b = let s = bytes_eq-same b.label in one_more b.label b [] ∙ rw s refl

none_named : (l : List ℕ) (x : Block) (xs : List Block) → bytes_eq x.label l ≡ false → how_many (λ (b : Block). b.label) l xs ≡ 0 →
    how_many (λ (b : Block). b.label) l (x ∷ xs) ≡ 0
none_named l x xs e on =
    let w : weight (bytes_eq x.label l) ≡ 0 = ap weight e in omega (arith, one_more l x xs, w, on)

-- a label that stays is none of those that do not, and the other way round
none_apart : (stays : List ℕ → Bool) (l : List ℕ) → stays l ≡ true → (xs : List Block) → Apart stays xs → how_many (λ (b : Block). b.label) l xs ≡ 0
none_apart stays l s [] h = refl
none_apart stays l s (x ∷ xs) h =
    let k = and_parts (not (stays x.label)) (list_all (λ (b : Block). not (stays b.label)) xs) h in
    pick (bytes_eq x.label l) refl k.0 (none_apart stays l s xs k.1)
  where
    pick : (z : Bool) → bytes_eq x.label l ≡ z → not (stays x.label) ≡ true → how_many (λ (b : Block). b.label) l xs ≡ 0 →
        how_many (λ (b : Block). b.label) l (x ∷ xs) ≡ 0
    pick true e n on = absurd (let r : false ≡ true = sym (ap not (ap stays (same_name x.label l e) ∙ s)) ∙ n in cc)
    pick false e n on = none_named l x xs e on

none_stay : (stays : List ℕ → Bool) (l : List ℕ) → stays l ≡ false → (xs : List Block) →
    list_all (λ (b : Block). stays b.label) xs ≡ true → how_many (λ (b : Block). b.label) l xs ≡ 0
none_stay stays l s [] h = refl
none_stay stays l s (x ∷ xs) h =
    let k = and_parts (stays x.label) (list_all (λ (b : Block). stays b.label) xs) h in
    pick (bytes_eq x.label l) refl k.0 (none_stay stays l s xs k.1)
  where
    pick : (z : Bool) → bytes_eq x.label l ≡ z → stays x.label ≡ true → how_many (λ (b : Block). b.label) l xs ≡ 0 → how_many (λ (b : Block). b.label) l (x ∷ xs) ≡ 0
    pick true e n on = absurd (let q = ap stays (same_name x.label l e) in cc)
    pick false e n on = none_named l x xs e on

-- ---- a function

targets_two : (f g h : List ℕ → Bool) → ((l : List ℕ) → f l ≡ true → g l ≡ true → h l ≡ true) → (j : Jump) →
    targets_pass f j ≡ true → targets_pass g j ≡ true → targets_pass h j ≡ true
targets_two f g h on Fall a b = refl
targets_two f g h on (Jmp l) a b = on l a b
targets_two f g h on (Jnz v x y) a b =
    let p = and_parts (f x) (f y) a in
    let q = and_parts (g x) (g y) b in
    both_true (h x) (h y) (on x p.0 q.0) (on y p.1 q.1)
targets_two f g h on (Ret v) a b = refl
targets_two f g h on Hlt a b = refl

-- what holds of the blocks of a function in a valid module
record IsRight (items : List IlItem) (params : List IlParam) (class : Option Class) (bs : List Block) : Type 0 where
  shaped : list_all is_block bs ≡ true
  ended : ends bs ≡ true
  distinct : are_distinct (λ (b : Block). b.label) bs ≡ true
  known : labels_known bs ≡ true
  start : start_is_no_target bs ≡ true
  placed : phis_are_placed bs ≡ true
  params_one : list_all (λ (p : IlParam). has_one_class params bs p.name p.class) params ≡ true
  one : list_all (block_has_one_class params bs) bs ≡ true
  right : list_all (block_is_right items params bs class) bs ≡ true
  small : list_all (λ (b : Block). list_all inst_is_small b.insts) bs ≡ true

module _ (items items' : List IlItem) (named : (s : List ℕ) → has_named item_name s items' ≡ has_named item_name s items)
    (functions : (name : List ℕ) → SameCode (function_named items name) (function_named items' name))
    (params : List IlParam) (class : Option Class) (first : Block) (rest : List Block)
    (plain : Plain (first ∷ rest)) (is : IsRight items params class (first ∷ rest)) where
  abbrev bs : List Block
  bs = first ∷ rest

  abbrev stays : List ℕ → Bool
  stays = staying bs

  abbrev ks : List Block
  ks = kept stays bs

  abbrev last : List Block
  last = unset params stays bs

  -- the tight ones
  abbrev ts : List Block
  ts = ks ++ last

  starts : stays first.label ≡ true
  starts = staying_first bs

  closed : is_closed stays false bs ≡ true
  closed = staying_closed bs

  apart : Apart stays last
  apart = unset_apart params stays bs

  abbrev param_sets : List ℕ → Class → Bool
  param_sets name c = list_any (λ (p : IlParam). rule.sets name c p.name p.class) params

  -- what kept blocks set is what blocks set that stay
  kept_set : (name : List ℕ) (c : Class) → list_any (block_sets name c) ks ≡ list_any (block_sets name c) (reached stays false bs)
  kept_set name c = sets_reached stays name c false bs plain

  tight_set : (name : List ℕ) (c : Class) → list_any (block_sets name c) ts ≡
      (list_any (block_sets name c) ks || list_any (block_sets name c) last)
  tight_set name c = list_any-append (block_sets name c) ks last

  few : (name : List ℕ) (c : Class) → is_set params ts name c ≡ true → is_set params bs name c ≡ true
  few name c h = elim (or_cases (param_sets name c) (list_any (block_sets name c) ts) h) [
    | inl x ↦ or_left _ (list_any (block_sets name c) bs) x
    | inr x ↦ or_right (param_sets name c) _
        (elim (or_cases (list_any (block_sets name c) ks) (list_any (block_sets name c) last) (sym (tight_set name c) ∙ x)) [
          | inl y ↦ any_reached stays (block_sets name c) false bs (sym (kept_set name c) ∙ y)
          | inr y ↦ unset_few name c params stays bs y
        ])
  ]

  -- what parameters set, and blocks that stay
  by_reached : (name : List ℕ) (c : Class) → is_set params (reached stays false bs) name c ≡ true → is_set params ts name c ≡ true
  by_reached name c h = elim (or_cases (param_sets name c) (list_any (block_sets name c) (reached stays false bs)) h) [
    | inl x ↦ or_left _ (list_any (block_sets name c) ts) x
    | inr x ↦ or_right (param_sets name c) _ (tight_set name c ∙ or_left _ _ (kept_set name c ∙ x))
  ]

  by_last : (name : List ℕ) (c : Class) → list_any (block_sets name c) last ≡ true → is_set params ts name c ≡ true
  by_last name c h = or_right (param_sets name c) _ (tight_set name c ∙ or_right (list_any (block_sets name c) ks) _ h)

  abbrev test : List ℕ → Bool
  test = is_known (read_by stays bs)

  -- a temporary that is read and set is still set
  sound : (name : List ℕ) → test name ≡ true → (c : Class) → is_set params bs name c ≡ true → AtClass (λ c'. is_set params ts name c')
  sound name r c h = elim (or_cases (param_sets name c) (list_any (block_sets name c) bs) h) [
    | inl x ↦ record { class = c; is = or_left _ (list_any (block_sets name c) ts) x }
    | inr x ↦ elim (any_split stays (block_sets name c) false bs x) [
      | inl y ↦ record { class = c; is = by_reached name c (or_right (param_sets name c) _ y) }
      | inr y ↦ lost (keeps_settings stays false bs) refl x y
    ]
  ]
    where
      lost : (z : Bool) → keeps_settings stays false bs ≡ z → list_any (block_sets name c) bs ≡ true →
          list_any (block_sets name c) (dropped stays false bs) ≡ true → AtClass (λ c'. is_set params ts name c')
      lost true e x y = record {
        class = c;
        is = by_reached name c (or_right (param_sets name c) _ (all_reached_set stays name c false bs e plain ∙ x));
      }
      lost false e x y =
          elim (unset_sets name c params stays bs plain (stops_ends first rest false is.ended) e r y) [
            | inl z ↦ let a = set_at name params stays bs z in record { class = a.class; is = by_reached name a.class a.is }
            | inr z ↦ record { class = z.class; is = by_last name z.class z.is }
          ]

  abbrev once : List ℕ → Bool
  once l = how_many (λ (b : Block). b.label) l bs == 1

  abbrev good_label : List ℕ → Bool
  good_label l = is_identifier l && once l

  abbrev good_inst : Inst → Bool
  good_inst i = (is_inst i && inst_is_small i) && (inst_has_one_class params bs i && inst_is_right items params bs i)

  abbrev read_inst : Inst → Bool
  read_inst i = good_inst i && inst_passes test i

  abbrev no_start : Jump → Bool
  no_start j = targets_pass (λ l. not (bytes_eq l first.label)) j

  abbrev good_jump : Jump → Bool
  good_jump j = (is_jump j && targets_pass (has_label bs) j) && (no_start j && jump_is_right items params bs class j)

  abbrev read_jump : Jump → Bool
  read_jump j = good_jump j && jump_passes test j

  abbrev good : Block → Bool
  good b = good_label b.label && (list_all good_inst b.insts && good_jump b.jump)

  abbrev read : Block → Bool
  read b = good_label b.label && (list_all read_inst b.insts && read_jump b.jump)

  one_read : (b : Block) → good b ≡ true → block_passes test b ≡ true → read b ≡ true
  one_read b g e =
      let x = and_parts (good_label b.label) _ g in
      let y = and_parts (list_all good_inst b.insts) (good_jump b.jump) x.1 in
      let z = and_parts (list_all (inst_passes test) b.insts) (jump_passes test b.jump) e in
      both_true _ _ x.0 (both_true _ _
      (all_two good_inst (inst_passes test) read_inst (λ i u v. both_true _ _ u v) b.insts y.0 z.0) (both_true _ _ y.1 z.1))

  one_good : (b : Block) → is_block b ≡ true → once b.label ≡ true → block_labels_known bs b ≡ true → no_start b.jump ≡ true →
      block_has_one_class params bs b ≡ true → block_is_right items params bs class b ≡ true → list_all inst_is_small b.insts ≡ true →
      good b ≡ true
  one_good b s o k n c r m =
      let s1 = and_parts (is_identifier b.label) _ s in
      let s2 = and_parts (list_all is_phi b.phis) _ s1.1 in
      let s3 = and_parts (list_all is_inst b.insts) (is_jump b.jump) s2.1 in
      let k1 = and_parts (targets_pass (has_label bs) b.jump) _ k in
      let c1 = and_parts (list_all (λ (p : Phi). has_one_class params bs p.temp p.class) b.phis)
      (list_all (inst_has_one_class params bs) b.insts) c in
      let r1 = and_parts (list_all (rule.phi_is_right items params bs) b.phis) _ r in
      let r2 = and_parts (list_all (inst_is_right items params bs) b.insts) (jump_is_right items params bs class b.jump) r1.1 in
      both_true _ _ (both_true _ _ s1.0 o)
      (both_true _ _
      (all_two (λ (i : Inst). is_inst i && inst_is_small i)
      (λ (i : Inst). inst_has_one_class params bs i && inst_is_right items params bs i) good_inst (λ i x y. both_true _ _ x y) b.insts
      (all_two is_inst inst_is_small _ (λ i x y. both_true _ _ x y) b.insts s3.0 m)
      (all_two (inst_has_one_class params bs) (inst_is_right items params bs) _ (λ i x y. both_true _ _ x y) b.insts c1.1 r2.0))
      (both_true _ _ (both_true _ _ s3.1 k1.0) (both_true _ _ n r2.1)))

  gather : (xs : List Block) → list_all is_block xs ≡ true → list_all (λ (b : Block). once b.label) xs ≡ true →
      list_all (block_labels_known bs) xs ≡ true → list_all (λ (b : Block). no_start b.jump) xs ≡ true →
      list_all (block_has_one_class params bs) xs ≡ true → list_all (block_is_right items params bs class) xs ≡ true →
      list_all (λ (b : Block). list_all inst_is_small b.insts) xs ≡ true → list_all good xs ≡ true
  gather [] s o k n c r m = refl
  gather (x ∷ xs) s o k n c r m =
      let s1 = and_parts (is_block x) (list_all is_block xs) s in
      let o1 = and_parts (once x.label) _ o in
      let k1 = and_parts (block_labels_known bs x) (list_all (block_labels_known bs) xs) k in
      let n1 = and_parts (no_start x.jump) _ n in
      let c1 = and_parts (block_has_one_class params bs x) (list_all (block_has_one_class params bs) xs) c in
      let r1 = and_parts (block_is_right items params bs class x) (list_all (block_is_right items params bs class) xs) r in
      let m1 = and_parts (list_all inst_is_small x.insts) _ m in
      both_true _ _ (one_good x s1.0 o1.0 k1.0 n1.0 c1.0 r1.0 m1.0) (gather xs s1.1 o1.1 k1.1 n1.1 c1.1 r1.1 m1.1)

  all_good : list_all good bs ≡ true
  all_good = gather bs is.shaped is.distinct is.known is.start is.one is.right is.small

  kept_read : list_all read ks ≡ true
  kept_read = reached_pass stays good_label read_inst read_jump refl false bs
      (all_two good (block_passes test) read one_read (reached stays false bs) (all_reached stays good false bs all_good)
      (reads_known stays bs))

  -- a setting of a temporary to 0 is as good as what set it before, and reads nothing
  zero_read : (temp : List ℕ) (class : Class) → is_identifier temp ≡ true → has_one_class params bs temp class ≡ true →
      read_inst (zero temp class) ≡ true
  zero_read temp W h k =
      both_true _ true (both_true _ _ (both_true _ true (both_true _ true h refl) refl) (both_true _ true k refl)) refl
  zero_read temp L h k =
      both_true _ true (both_true _ _ (both_true _ true (both_true _ true h refl) refl) (both_true _ true k refl)) refl

  settles : Settles good_inst read_inst
  settles = record {
    set = λ temp c op a b h. let k = spelled (Set temp c op a b) h in zero_read temp c (and_parts (is_identifier temp) _ k.0).0 k.1;
    call = λ r target args h. let k = spelled (Call (Some r) target args) h in
        zero_read r.name r.class (and_parts (is_param r) _ k.0).0 k.1;
  }
    where
      spelled : (i : Inst) → good_inst i ≡ true → (is_inst i ≡ true) × (inst_has_one_class params bs i ≡ true)
      spelled i h =
          let a = and_parts (is_inst i && inst_is_small i) _ h in
          ((and_parts (is_inst i) (inst_is_small i) a.0).0, (and_parts (inst_has_one_class params bs i) (inst_is_right items params bs i) a.1).0)

  -- a test that the last block passes
  each_last : (q : Block → Bool) →
      ((d : Block) (is : List Inst) → last ≡ settings_at d is ∷ [] → good d ≡ true → stays d.label ≡ false →
      list_all read_inst is ≡ true → q (settings_at d is) ≡ true) → list_all q last ≡ true
  each_last q on =
      unset_passes good_inst read_inst settles good (λ b g. (and_parts (list_all good_inst b.insts) _ (and_parts (good_label b.label) _ g).1).0)
      params stays bs all_good q on

  -- a test of the tight blocks
  each : (q : Block → Bool) →
      ((b : Block) → b.phis ≡ [] → read b ≡ true → targets_pass stays b.jump ≡ true → q b ≡ true) → list_all q ts ≡ true
  each q on =
      list_all-append q ks last
      ∙ both_true _ _ (go ks (plain_kept stays bs plain) kept_read (targets_kept stays false bs closed))
      (each_last q (λ d is e g n h. on (settings_at d is) refl
      (both_true _ _ (and_parts (good_label d.label) _ g).0 (both_true _ true h refl)) refl))
    where
      go : (xs : List Block) → Plain xs → list_all read xs ≡ true → list_all (λ (b : Block). targets_pass stays b.jump) xs ≡ true →
          list_all q xs ≡ true
      go [] p g t = refl
      go (x ∷ xs) p g t =
          let g1 = and_parts (read x) (list_all read xs) g in
          let t1 = and_parts (targets_pass stays x.jump) _ t in
          both_true (q x) (list_all q xs) (on x p.0 g1.0 t1.0) (go xs p.1 g1.1 t1.1)

  -- the parts of what is known of a kept block
  record Parts (b : Block) : Type 0 where
    spelled : is_identifier b.label ≡ true
    once_all : once b.label ≡ true
    insts : list_all read_inst b.insts ≡ true
    jump_spelled : is_jump b.jump ≡ true
    jump_known : targets_pass (has_label bs) b.jump ≡ true
    jump_start : no_start b.jump ≡ true
    jump_fits : jump_is_right items params bs class b.jump ≡ true
    jump_reads : jump_passes test b.jump ≡ true

  parts : (b : Block) → read b ≡ true → Parts b
  parts b g =
      let a = and_parts (good_label b.label) _ g in
      let l = and_parts (is_identifier b.label) (once b.label) a.0 in
      let c = and_parts (list_all read_inst b.insts) (read_jump b.jump) a.1 in
      let r = and_parts (good_jump b.jump) (jump_passes test b.jump) c.1 in
      let j = and_parts (is_jump b.jump && targets_pass (has_label bs) b.jump) _ r.0 in
      let j1 = and_parts (is_jump b.jump) (targets_pass (has_label bs) b.jump) j.0 in
      let j2 = and_parts (no_start b.jump) (jump_is_right items params bs class b.jump) j.1 in
      record {
        spelled = l.0;
        once_all = l.1;
        insts = c.0;
        jump_spelled = j1.0;
        jump_known = j1.1;
        jump_start = j2.0;
        jump_fits = j2.1;
        jump_reads = r.1;
      }

  record InstParts (i : Inst) : Type 0 where
    spelled : is_inst i ≡ true
    small : inst_is_small i ≡ true
    one : inst_has_one_class params bs i ≡ true
    fits : inst_is_right items params bs i ≡ true
    reads : inst_passes test i ≡ true

  inst_parts : (i : Inst) → read_inst i ≡ true → InstParts i
  inst_parts i g =
      let r = and_parts (good_inst i) (inst_passes test i) g in
      let a = and_parts (is_inst i && inst_is_small i) _ r.0 in
      let x = and_parts (is_inst i) (inst_is_small i) a.0 in
      let y = and_parts (inst_has_one_class params bs i) (inst_is_right items params bs i) a.1 in
      record { spelled = x.0; small = x.1; one = y.0; fits = y.1; reads = r.1 }

  none_left : {A : Type 0} (test : A → Bool) (xs : List A) → xs ≡ [] → list_all test xs ≡ true
  none_left test xs e = ap (list_all test) e

  -- each label stands once
  once_kept : list_all (λ (b : Block). how_many (λ (x : Block). x.label) b.label ts == 1) ks ≡ true
  once_kept =
      all_two read (λ (b : Block). stays b.label) _
      (λ b g s. ap (λ (n : ℕ). n == 1)
      (how_many_append b.label ks last ∙ omega (arith, count_kept stays b.label s bs, none_apart stays b.label s last apart))
      ∙ (parts b g).once_all) ks kept_read (stays_kept stays bs)

  once_last : list_all (λ (b : Block). how_many (λ (x : Block). x.label) b.label ts == 1) last ≡ true
  once_last = each_last _ (λ d is e g n h.
      let alone : how_many (λ (x : Block). x.label) d.label last ≡ 1 =
      ap (λ (xs : List Block). how_many (λ (x : Block). x.label) d.label xs) e ∙ one_alone (settings_at d is) in
      let all : how_many (λ (x : Block). x.label) d.label ts ≡ 1 =
      how_many_append d.label ks last ∙ omega (arith, alone, none_stay stays d.label n ks (stays_kept stays bs)) in
      ap (λ (k : ℕ). k == 1) all)

  blocks_right : IsRight items' params class ts
  blocks_right = record {
    shaped = each is_block (λ b p g t. let q = parts b g in
        both_true _ _ q.spelled (both_true _ _ (none_left _ b.phis p)
        (both_true _ _ (all_more read_inst is_inst (λ i e. (inst_parts i e).spelled) b.insts q.insts) q.jump_spelled)));
    ended = ends_more ks last (rw starts (whole_ends stays first rest is.ended))
        (each_last (λ (b : Block). not (falls b.jump)) (λ d is e g n h. refl));
    distinct = list_all-append _ ks last ∙ both_true _ _ once_kept once_last;
    known = each (block_labels_known ts) (λ b p g t. both_true _ _
        (targets_two stays (has_label bs) (has_label ts)
        (λ l e h. list_any-append (λ (x : Block). bytes_eq x.label l) ks last ∙ or_left _ _ (label_kept stays l e bs ∙ h))
        b.jump t (parts b g).jump_known)
        (none_left _ b.phis p));
    start = start;
    placed = placed ts (plain_append ks last (plain_kept stays bs plain) (unset_plain params stays bs));
    params_one = params_same params is.params_one;
    one = each (block_has_one_class params ts) (λ b p g t. both_true _ _ (none_left _ b.phis p)
        (all_more read_inst (inst_has_one_class params ts)
        (λ i e. one_class items items' named functions params bs ts few test sound i (inst_parts i e).one) b.insts
        (parts b g).insts));
    right = each (block_is_right items' params ts class) (λ b p g t. both_true _ _ (none_left _ b.phis p)
        (both_true _ _ (all_more read_inst (inst_is_right items' params ts)
        (λ i e. let q = inst_parts i e in
        inst_right items items' named functions params bs ts few test sound i q.reads q.fits) b.insts (parts b g).insts)
        (let q = parts b g in
        jump_right items items' named functions params bs ts few test sound class b.jump q.jump_reads q.jump_fits)));
    small = each (λ (b : Block). list_all inst_is_small b.insts) (λ b p g t.
        all_more read_inst inst_is_small (λ i e. (inst_parts i e).small) b.insts (parts b g).insts);
  }
    where
      no_targets : list_all (λ (b : Block). no_start b.jump) ts ≡ true
      no_targets = each (λ (b : Block). no_start b.jump) (λ b p g t. (parts b g).jump_start)

      start : start_is_no_target ts ≡ true
      start = let h = no_targets in rw starts (rw starts at h)

      placed : (xs : List Block) → Plain xs → phis_are_placed xs ≡ true
      placed [] p = refl
      placed (x ∷ xs) p =
          both_true _ _ (ap (λ (ps : List Phi). length ps == 0) p.0) (others xs p.1)
        where
          others : (ys : List Block) → Plain ys →
              list_all (λ (b : Block). list_all (rule.phi_is_placed (x ∷ xs) b.label) b.phis) ys ≡ true
          others [] q = refl
          others (y ∷ ys) q = both_true _ _ (none_left _ y.phis q.0) (others ys q.1)

      params_same : (ps : List IlParam) → list_all (λ (p : IlParam). has_one_class params bs p.name p.class) ps ≡ true →
          list_all (λ (p : IlParam). has_one_class params ts p.name p.class) ps ≡ true
      params_same ps h =
          all_more _ _
          (λ (p : IlParam) e. class_right items items' named functions params bs ts few test sound p.name p.class e) ps h

-- ---- a module

-- what holds of an item in a valid module
record IsGood (items : List IlItem) (i : IlItem) : Type 0 where
  shaped : is_item i ≡ true
  own : has_own_names i ≡ true
  flow : flow_is_right i ≡ true
  right : item_is_right items i ≡ true
  small : item_is_small i ≡ true

-- a function has a block
nothing_ends : (bs : List Block) → ends bs ≡ true → bs ≡ [] → ⊥
nothing_ends [] h e = cc
nothing_ends (b ∷ bs) h e = cc

module _ (items items' : List IlItem) (named : (s : List ℕ) → has_named item_name s items' ≡ has_named item_name s items)
    (functions : (name : List ℕ) → SameCode (function_named items name) (function_named items' name)) where
  part_value_same : (width : ℕ) (v : PartValue) → part_value_is_right items' width v ≡ part_value_is_right items width v
  part_value_same width (part.Number n) = refl
  part_value_same width (part.Str s) = refl
  part_value_same width (part.Symbol s n) = ap (λ (b : Bool). width == 8 && b) (named s)

  part_good : (p : Part) → part_is_right items p ≡ true → part_is_right items' p ≡ true
  part_good (Values width vs) h = all_more _ _ (λ (v : PartValue) e. part_value_same width v ∙ e) vs h
  part_good (Zero n) h = refl

  function_good : (export : Bool) (class : Option Class) (name : List ℕ) (params : List IlParam) (bs : List Block) → Plain bs →
      IsGood items (Function export class name params bs) → IsGood items' (Function export class name params (tight params bs))
  function_good export class name params [] p g =
      absurd (let a = and_parts (is_identifier name) _ g.shaped in
      let b = and_parts (list_all is_param params) _ a.1 in
      nothing_ends [] (and_parts (list_all is_block []) (ends []) b.1).1 refl)
  function_good export class name params (first ∷ rest) p g =
      let bs = first ∷ rest in
      let a1 = and_parts (is_identifier name) _ g.shaped in
      let a2 = and_parts (list_all is_param params) _ a1.1 in
      let a3 = and_parts (list_all is_block bs) (ends bs) a2.1 in
      let o1 = and_parts _ (are_distinct (λ (p : IlParam). p.name) params && are_distinct (λ (b : Block). b.label) bs) g.own in
      let o2 = and_parts (are_distinct (λ (p : IlParam). p.name) params) (are_distinct (λ (b : Block). b.label) bs) o1.1 in
      let f1 = and_parts (labels_known bs) (start_is_no_target bs && phis_are_placed bs) g.flow in
      let f2 = and_parts (start_is_no_target bs) (phis_are_placed bs) f1.1 in
      let r1 = and_parts (is_main_right name class params) _ g.right in
      let r2 = and_parts (each_has_one_class params bs) (list_all (block_is_right items params bs class) bs) r1.1 in
      let r3 = and_parts (list_all (λ (p : IlParam). has_one_class params bs p.name p.class) params)
      (list_all (block_has_one_class params bs) bs) r2.0 in
      let k = blocks_right items items' named functions params class first rest p (record {
        shaped = a3.0;
        ended = a3.1;
        distinct = o2.1;
        known = f1.0;
        start = f2.0;
        placed = f2.1;
        params_one = r3.0;
        one = r3.1;
        right = r2.1;
        small = g.small;
      }) in
      subst (λ (ks : List Block). IsGood items' (Function export class name params ks)) (sym (tight_is params bs)) (record {
        shaped = both_true _ _ a1.0 (both_true _ _ a2.0 (both_true _ _ k.shaped k.ended));
        own = both_true _ _ o1.0 (both_true _ _ o2.0 k.distinct);
        flow = both_true _ _ k.known (both_true _ _ k.start k.placed);
        right = both_true _ _ r1.0 (both_true _ _ (both_true _ _ k.params_one k.one) k.right);
        small = k.small;
      })

  data_good : (export : Bool) (name : List ℕ) (align : ℕ) (parts : List Part) → IsGood items (Data export name align parts) →
      IsGood items' (Data export name align parts)
  data_good export name align parts g = record {
    shaped = g.shaped;
    own = g.own;
    flow = g.flow;
    right = all_more (part_is_right items) (part_is_right items') part_good parts g.right;
    small = g.small;
  }

  each_good : (xs : List IlItem) → NoPhis xs → list_all is_item xs ≡ true → list_all has_own_names xs ≡ true →
      list_all flow_is_right xs ≡ true → list_all (item_is_right items) xs ≡ true → list_all item_is_small xs ≡ true →
      (test : IlItem → Bool) → ((i : IlItem) → IsGood items' i → test i ≡ true) → list_all test (map tight_item xs) ≡ true
  each_good [] p a b c d e test on = refl
  each_good (x ∷ xs) p a b c d e test on =
      let a1 = and_parts (is_item x) (list_all is_item xs) a in
      let b1 = and_parts (has_own_names x) (list_all has_own_names xs) b in
      let c1 = and_parts (flow_is_right x) (list_all flow_is_right xs) c in
      let d1 = and_parts (item_is_right items x) (list_all (item_is_right items) xs) d in
      let e1 = and_parts (item_is_small x) (list_all item_is_small xs) e in
      pick x p (record { shaped = a1.0; own = b1.0; flow = c1.0; right = d1.0; small = e1.0 })
      (λ q. each_good xs q a1.1 b1.1 c1.1 d1.1 e1.1 test on)
    where
      pick : (i : IlItem) → NoPhis (i ∷ xs) → IsGood items i → (NoPhis xs → list_all test (map tight_item xs) ≡ true) →
          list_all test (map tight_item (i ∷ xs)) ≡ true
      pick (Data export name align parts) q g rest = both_true _ _ (on _ (data_good export name align parts g)) (rest q)
      pick (Function export class name params bs) q g rest =
          both_true _ _ (on _ (function_good export class name params bs q.0 g)) (rest q.1)

-- ---- all items

module _ {A : Type 0} (value : IlItem → A) (same : (i : IlItem) → value (tight_item i) ≡ value i) where
  pub values_same : (xs : List IlItem) → map value (map tight_item xs) ≡ map value xs
  values_same [] = refl
  values_same (x ∷ xs) = let one = same x in let others = values_same xs in rw (one, others) refl

any_same : (q : IlItem → Bool) → ((i : IlItem) → q (tight_item i) ≡ q i) → (xs : List IlItem) →
    list_any q (map tight_item xs) ≡ list_any q xs
any_same q same [] = refl
any_same q same (x ∷ xs) = let one = same x in let others = any_same q same xs in rw (one, others) refl

sum_same : (f : IlItem → ℕ) → ((i : IlItem) → f (tight_item i) ≡ f i) → (xs : List IlItem) → sum_by f (map tight_item xs) ≡ sum_by f xs
sum_same f same [] = refl
sum_same f same (x ∷ xs) =
    sum_by-append f (tight_item x ∷ []) (map tight_item xs)
    ∙ omega (arith, same x, sum_same f same xs, sum_by-append f (x ∷ []) xs)

count_same : (q : IlItem → Bool) → ((i : IlItem) → q (tight_item i) ≡ q i) → (xs : List IlItem) →
    count_by q (map tight_item xs) ≡ count_by q xs
count_same q same xs = sum_same (λ (i : IlItem). cond (q i) 1 0) (λ (i : IlItem). ap (λ (b : Bool). cond b 1 0) (same i)) xs

name_same : (i : IlItem) → item_name (tight_item i) ≡ item_name i
name_same (Data export name align parts) = refl
name_same (Function export class name params blocks) = refl

function_same : (i : IlItem) → is_function (tight_item i) ≡ is_function i
function_same (Data export name align parts) = refl
function_same (Function export class name params blocks) = refl

main_same : (i : IlItem) → is_main (tight_item i) ≡ is_main i
main_same (Data export name align parts) = refl
main_same (Function export class name params blocks) = refl

size_same : (i : IlItem) → item_size (tight_item i) ≡ item_size i
size_same (Data export name align parts) = refl
size_same (Function export class name params blocks) = refl

module _ (items : List IlItem) where
  named_same : (s : List ℕ) → has_named item_name s (map tight_item items) ≡ has_named item_name s items
  named_same s = any_same (λ (i : IlItem). bytes_eq (item_name i) s)
      (λ (i : IlItem). ap (λ (n : List ℕ). bytes_eq n s) (name_same i)) items

  many_same : (s : List ℕ) → how_many item_name s (map tight_item items) ≡ how_many item_name s items
  many_same s = count_same (λ (i : IlItem). bytes_eq (item_name i) s)
      (λ (i : IlItem). ap (λ (n : List ℕ). bytes_eq n s) (name_same i)) items

  once_same : (xs : List IlItem) → list_all (λ (i : IlItem). how_many item_name (item_name i) items == 1) xs ≡ true →
      list_all (λ (i : IlItem). how_many item_name (item_name i) (map tight_item items) == 1) (map tight_item xs) ≡ true
  once_same [] h = refl
  once_same (x ∷ xs) h =
      let k = and_parts (how_many item_name (item_name x) items == 1) _ h in
      both_true _ _ (ap (λ (n : List ℕ). how_many item_name n (map tight_item items) == 1) (name_same x)
      ∙ ap (λ (n : ℕ). n == 1) (many_same (item_name x)) ∙ k.0) (once_same xs k.1)

  small_same : is_small (map tight_item items) ≡ is_small items
  small_same =
      let a = count_same is_function function_same items in
      let b = count_same (λ (i : IlItem). not (is_function i)) (λ (i : IlItem). ap not (function_same i)) items in
      let c = sum_same item_size size_same items in
      rw (a, b, c) refl

-- what holds of all items of a valid module
record AllRight (items : List IlItem) : Type 0 where
  shaped : list_all is_item items ≡ true
  once : are_distinct item_name items ≡ true
  own : list_all has_own_names items ≡ true
  flow : list_all flow_is_right items ≡ true
  right : list_all (item_is_right items) items ≡ true
  main : list_any is_main items ≡ true
  numbers : list_all item_is_small items ≡ true
  small : is_small items ≡ true

all_right : (m : Module) → (is_shaped m && is_lawful m.items) ≡ true → AllRight m.items
unfolding is_shaped is_lawful
all_right m h =
    let a = and_parts (list_all is_item m.items) _ h in
    let b = and_parts (are_distinct item_name m.items) _ a.1 in
    let c = and_parts (list_all has_own_names m.items) _ b.1 in
    let d = and_parts (list_all flow_is_right m.items) _ c.1 in
    let e = and_parts (list_all (item_is_right m.items) m.items) _ d.1 in
    let f = and_parts (list_any is_main m.items) _ e.1 in
    let g = and_parts (list_all item_is_small m.items) (is_small m.items) f.1 in
    record { shaped = a.0; once = b.0; own = c.0; flow = d.0; right = e.0; main = f.0; numbers = g.0; small = g.1 }

all_valid : (m : Module) → AllRight m.items → (is_shaped m && is_lawful m.items) ≡ true
unfolding is_shaped is_lawful
all_valid m r =
    both_true _ _ r.shaped
    (both_true _ _ r.once
    (both_true _ _ r.own
    (both_true _ _ r.flow (both_true _ _ r.right (both_true _ _ r.main (both_true _ _ r.numbers r.small))))))

tight_right : (items : List IlItem) → NoPhis items → AllRight items → AllRight (map tight_item items)
tight_right items p r =
    let each = each_good items (map tight_item items) (named_same items) (functions_same items p) items p r.shaped r.own r.flow r.right
    r.numbers in
    record {
      shaped = each is_item (λ i g. g.shaped);
      once = once_same items items r.once;
      own = each has_own_names (λ i g. g.own);
      flow = each flow_is_right (λ i g. g.flow);
      right = each (item_is_right (map tight_item items)) (λ i g. g.right);
      main = any_same is_main main_same items ∙ r.main;
      numbers = each item_is_small (λ i g. g.small);
      small = small_same items ∙ r.small;
    }

pub valid_same : (m : Module) → NoPhis m.items → IsValid m → IsValid (tight_module m)
valid_same m p v = (valid_is (tight_module m)).0 (all_valid (tight_module m) (tight_right m.items p (all_right m ((valid_is m).1 v))))
