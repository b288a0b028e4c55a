-- A call of a function that was emitted and whose blocks are tight costs the stack no more than flat code says.
use Rattle.std.proofs.Common.{◌≡◌, ℕ, zero, suc, ◌+◌, ◌*◌, ◌<◌, ◌≤◌, Bool, true, false, ◌&&◌, ◌||◌, List, [], ◌∷◌, ◌++◌, map, length, Option, None, Some, refl, sym, ap, ◌∙◌, arith, length-append}
use Rattle.std.specs.Prelude.{bytes_eq, count_by, sum_by, max, nat_lt, ◌==◌, if◌then◌else◌}
use Rattle.std.specs.List.{flat_map, list_all}
use Rattle.std.proofs.lemmas.Bool.{and_parts}
use Rattle.std.proofs.lemmas.Bool.Decides.{nat_tests}
use Rattle.std.proofs.lemmas.Slice.Eq.{bytes_eq-Decides}
use Rattle.hx_base.specs.declared.Class.{Class}
use Rattle.hx_base.specs.declared.Class.TheVariants.{L}
use Rattle.hx_base.specs.Memory.{round_up}
use Rattle.flat_code.specs.declared.program.FlatFn.{FlatFn}
use Rattle.flat_code.specs.declared.program.FlatProgram.{FlatProgram}
use Rattle.flat_code.specs.declared.value.Value.{Value}
use Rattle.flat_code.specs.Code.{Code, Codes, none, more, Seq, Set, Load, Store, Move, If, Loop, Leave, Call, Ret}
use Rattle.flat_code.specs.Costs as flat
use Rattle.flat_code.specs.Costs.{addressed, addressed_in, addressed_in_all}
use Rattle.flat_code.specs.Shape.{code_of}
use Rattle.flat_code.specs.Evaluation.{function_named}
use Rattle.flat_code.specs.Temps.{result_class, has_one_class}
use Rattle.flat_code.specs.WellFormed.{is_right, is_target, takes_result}
use Rattle.il_code.specs.declared.types.Block.{Block}
use Rattle.il_code.specs.declared.types.IlParam.{IlParam}
use Rattle.il_code.specs.declared.types.IlArg.{IlArg}
use Rattle.il_code.specs.declared.types.Inst.{Inst}
use Rattle.il_code.specs.declared.types.Inst.TheVariants as inst
use Rattle.il_code.specs.declared.types.Jump.{Jump}
use Rattle.il_code.specs.declared.types.Jump.TheVariants as jump
use Rattle.il_code.specs.declared.types.Phi.{Phi}
use Rattle.il_code.specs.Machine.{assigned, block_assigned, all_assigned, is_among, distinct}
use Rattle.il_code.specs.Step.{taken}
use Rattle.il_tight.specs.Tight.{staying, unset}
use Rattle.il_tight.proofs.KeptBlocks.Kept.{kept}
use Rattle.il_tight.proofs.StillValid.Lacking.{Settles, unset_passes}
use Rattle.il_tight.proofs.SameRuns.Light.{price}
use Rattle.il_tight.proofs.TightBlocks.Passing.{kept_pass}
use Rattle.il_tight.proofs.SameRuns.Twins.{Plain, plain_append, plain_kept, unset_plain}
use Rattle.il_tight.proofs.SameRuns.Wholes.{price_is}
use Rattle.il_emit.specs.Names.{temp_name, address_name, frame_name, label_name}
use Rattle.il_emit.specs.Lines.{Line, End, all_addressed, addresses_in, addresses_in_all, labels_in, frame_lines, inner_lines, end_value, result_param}
use Rattle.il_emit.specs.Emitted.{params_of, blocks_of}
use Rattle.il_emit.proofs.Lines.Allowed.{LinesPass, inner_good}
use Rattle.il_emit.proofs.Lines.Blocks.{line_passes, blocks_pass}
use Rattle.il_emit.proofs.Lines.Calls.{called_takes}
use Rattle.il_emit.proofs.Lines.Counts.{both_true, all_append, sum_cons, weight, or_true}
use Rattle.il_emit.proofs.NamesAndNumbers.NumberedNames.{bytes_same}
use Rattle.il_emit.proofs.SameShape.Phis.{blocks_plain}

-- ---- names that differ stand among as many

count_cons : {A : Type 0} (q : A → Bool) (x : A) (xs : List A) → count_by q (x ∷ xs) ≡ weight (q x) + count_by q xs
count_cons q x xs = sum_cons (λ y. weight (q y)) x xs

weight_more : (a b : Bool) → weight b ≤ weight (a || b)
weight_more true true = omega arith
weight_more true false = omega arith
weight_more false b = omega arith

weight_one : (b : Bool) → weight b ≤ 1
weight_one true = omega arith
weight_one false = omega arith

count_length : {A : Type 0} (q : A → Bool) (xs : List A) → count_by q xs ≤ length xs
count_length q [] = omega arith
count_length q (x ∷ xs) = omega (arith, count_cons q x xs, weight_one (q x), count_length q xs)

module _ (x : List ℕ) (xs : List (List ℕ)) where
  count_more : (ys : List (List ℕ)) → count_by (λ (y : List ℕ). is_among y xs) ys ≤ count_by (λ (y : List ℕ). bytes_eq y x || is_among y xs)
      ys
  count_more [] = omega arith
  count_more (y ∷ ys) = omega (
    arith,
    count_cons (λ (z : List ℕ). is_among z xs) y ys,
    count_cons
        (λ (z : List ℕ). bytes_eq z x || is_among z xs) y ys,
    weight_more (bytes_eq y x) (is_among y xs),
    count_more ys,
  )

  one_more : (ys : List (List ℕ)) → is_among x xs ≡ false → is_among x ys ≡ true →
      1 + count_by (λ (y : List ℕ). is_among y xs) ys ≤ count_by (λ (y : List ℕ). bytes_eq y x || is_among y xs) ys
  one_more [] h k = cc
  one_more (y ∷ ys) h k = pick (bytes_eq x y) refl k (λ k'. one_more ys h k')
    where
      pick : (b : Bool) → bytes_eq x y ≡ b → (b || is_among x ys) ≡ true →
          (is_among x ys ≡ true → 1 + count_by (λ (z : List ℕ). is_among z xs) ys ≤ count_by (λ (z : List ℕ). bytes_eq z x || is_among z xs)
          ys)
          → 1 + count_by (λ (z : List ℕ). is_among z xs) (y ∷ ys) ≤ count_by (λ (z : List ℕ). bytes_eq z x || is_among z xs) (y ∷ ys)
      pick true e k' on =
          let same : x ≡ y = (bytes_eq-Decides x y).0 e in
          let none' : weight (is_among y xs) ≡ 0 = ap (λ (z : List ℕ). weight (is_among z xs)) (sym same) ∙ ap weight h in
          let own : weight (bytes_eq y x || is_among y xs) ≡ 1 = ap (λ (z : List ℕ). weight (bytes_eq z x || is_among z xs)) (sym same) ∙ ap
          (λ (b : Bool). weight (b || is_among x xs)) (bytes_same x) in
          omega (
            arith,
            count_cons (λ (z : List ℕ). is_among z xs) y ys,
            count_cons (λ (z : List ℕ). bytes_eq z x || is_among z xs) y ys,
            none',
            own,
            count_more ys,
          )
      pick false e k' on = omega (
        arith,
        count_cons (λ (z : List ℕ). is_among z xs) y ys,
        count_cons
            (λ (z : List ℕ). bytes_eq z x || is_among z xs) y ys,
        weight_more (bytes_eq y x) (is_among y xs),
        on k',
      )

distinct_count : (xs ys : List (List ℕ)) → list_all (λ (x : List ℕ). is_among x ys) xs ≡ true →
    length (distinct xs) ≤ count_by (λ (y : List ℕ). is_among y xs) ys
distinct_count [] ys h = omega arith
distinct_count (x ∷ xs) ys h =
    let k = and_parts (is_among x ys) (list_all (λ (z : List ℕ). is_among z ys) xs) h in
    pick (is_among x xs) refl k.0 (distinct_count xs ys k.1)
  where
    pick : (b : Bool) → is_among x xs ≡ b → is_among x ys ≡ true → length (distinct xs) ≤ count_by (λ (y : List ℕ). is_among y xs) ys
        → length (if b then distinct xs else x ∷ distinct xs) ≤ count_by (λ (y : List ℕ). bytes_eq y x || is_among y xs) ys
    pick true e there on = omega (arith, on, count_more x xs ys)
    pick false e there on = omega (arith, on, one_more x xs ys e there)

distinct_length : (xs ys : List (List ℕ)) → list_all (λ (x : List ℕ). is_among x ys) xs ≡ true → length (distinct xs) ≤ length ys
distinct_length xs ys h = omega (arith, distinct_count xs ys h, count_length (λ (y : List ℕ). is_among y xs) ys)

-- ---- names with numbers

-- so many names from a number on
numbered : (ℕ → List ℕ) → (at count : ℕ) → List (List ℕ)
numbered name at zero = []
numbered name at (suc count) = name at ∷ numbered name (suc at) count

numbered_length : (name : ℕ → List ℕ) (at count : ℕ) → length (numbered name at count) ≡ count
unfolding numbered
numbered_length name at zero = refl
numbered_length name at (suc count) = omega (arith, numbered_length name (suc at) count)

left_of : (a b : Bool) → a ≡ true → (a || b) ≡ true
left_of true b h = refl
left_of false b h = cc

numbered_among : (name : ℕ → List ℕ) (at count t : ℕ) → at ≤ t → t < at + count → is_among (name t) (numbered name at count) ≡ true
unfolding numbered
numbered_among name at zero t l u = absurd (omega arith)
numbered_among name at (suc count) t l u = pick (at == t) refl (λ k. numbered_among name (suc at) count t k (omega arith))
  where
    pick : (b : Bool) → (at == t) ≡ b → (suc at ≤ t → is_among (name t) (numbered name (suc at) count) ≡ true) →
        (bytes_eq (name t) (name at) || is_among (name t) (numbered name (suc at) count)) ≡ true
    pick true e on = let same : at ≡ t = grind (arith, nat_tests) in left_of (bytes_eq (name t) (name at)) _
        (ap (λ (z : ℕ). bytes_eq (name t) (name z)) same ∙ bytes_same (name t))
    pick false e on = or_true (bytes_eq (name t) (name at)) _ (on (grind (arith, nat_tests)))

among_left : (x : List ℕ) (xs ys : List (List ℕ)) → is_among x xs ≡ true → is_among x (xs ++ ys) ≡ true
among_left x [] ys h = cc
among_left x (z ∷ xs) ys h = pick (bytes_eq x z) h (among_left x xs ys)
  where
    pick : (b : Bool) → (b || is_among x xs) ≡ true → (is_among x xs ≡ true → is_among x (xs ++ ys) ≡ true) →
        (b || is_among x (xs ++ ys)) ≡ true
    pick true k on = refl
    pick false k on = on k

among_right : (x : List ℕ) (xs ys : List (List ℕ)) → is_among x ys ≡ true → is_among x (xs ++ ys) ≡ true
among_right x [] ys h = h
among_right x (z ∷ xs) ys h = or_true (bytes_eq x z) _ (among_right x xs ys h)

-- ---- the names that a function assigns

all_flat : {A : Type 0} (q : List ℕ → Bool) (g : A → List (List ℕ)) (xs : List A) → list_all (λ (x : A). list_all q (g x)) xs ≡ true →
    list_all q (flat_map g xs) ≡ true
all_flat q g [] h = refl
all_flat q g (x ∷ xs) h = let k = and_parts (list_all q (g x)) (list_all (λ y. list_all q (g y)) xs) h in all_append q (g x) (flat_map g xs)
    k.0 (all_flat q g xs k.1)

module _ (p : FlatProgram) (f : FlatFn) (right : is_right p f 0 (code_of f.body) ≡ true) (few_params : length f.params ≤ f.temps) where
  abbrev known : List (List ℕ)
  known = (numbered temp_name 0 f.temps ++ numbered address_name 0 (addresses_in (code_of f.body))) ++ frame_name ∷ []

  abbrev is_known : List ℕ → Bool
  is_known x = is_among x known

  abbrev good_inst : Inst → Bool
  good_inst i = list_all is_known (assigned i)

  abbrev good : Line → Bool
  good = line_passes (λ n. true) good_inst (λ j. true)

  temp_known : (t : ℕ) → t < f.temps → is_known (temp_name t) ≡ true
  temp_known t h =
      among_left (temp_name t) (numbered temp_name 0 f.temps ++ numbered address_name 0 (addresses_in (code_of f.body))) _
      (among_left (temp_name t) (numbered temp_name 0 f.temps) _ (numbered_among temp_name 0 f.temps t (omega arith) (omega arith)))

  address_known : (k : ℕ) → k < addresses_in (code_of f.body) → is_known (address_name k) ≡ true
  address_known k h =
      among_left (address_name k) (numbered temp_name 0 f.temps ++ numbered address_name 0 (addresses_in (code_of f.body))) _
      (among_right (address_name k) (numbered temp_name 0 f.temps) _
      (numbered_among address_name 0 (addresses_in (code_of f.body)) k (omega arith) (omega arith)))

  frame_known : is_known frame_name ≡ true
  frame_known = among_right frame_name (numbered temp_name 0 f.temps ++ numbered address_name 0 (addresses_in (code_of f.body))) _ refl

  target_known : (t : ℕ) (class : Class) → is_target p f t class ≡ true → is_known (temp_name t) ≡ true
  target_known t class h =
      let q = (and_parts (nat_lt t f.temps) (has_one_class p f t class) h).0 in
      let lt : t < f.temps = grind (arith, nat_tests) in
      temp_known t lt

  result_known : (temp : Option ℕ) (class : Option Class) (name : List ℕ) (is : List IlArg) → takes_result p f temp class ≡ true →
      good_inst (inst.Call (result_param temp class) name is) ≡ true
  result_known None class name is h = refl
  result_known (Some t) None name is h = cc
  result_known (Some t) (Some class) name is h = both_true _ true (target_known t class h) refl

  lines_known : LinesPass p f good (suc (labels_in (code_of f.body) true)) (addresses_in (code_of f.body))
  lines_known = record {
    label = λ n h. refl;
    goes = λ n l u. refl;
    branch = λ v k n m r u a b c d. refl;
    returns = λ r. refl;
    returns_value = λ v k r u. refl;
    set = λ t class o a b k r u. both_true _ true (target_known t class (and_parts (is_target p f t class) _ r).0) refl;
    load = λ t how at k r u. both_true _ true (target_known t L (and_parts (is_target p f t L) _ r).0) refl;
    store = λ width value at k r u. refl;
    move = λ to from bytes k r u. refl;
    call = λ temp name args k r u. result_known temp (result_class p name) name _
        (called_takes p f temp args name (function_named p.functions name) r);
    place = λ offset k h l. both_true _ true (address_known k l) refl;
    address = λ i offset k h b l. both_true _ true (address_known k l) refl;
  }

  frame_lines_known : (n : ℕ) → list_all good (frame_lines n) ≡ true
  frame_lines_known zero = refl
  frame_lines_known (suc n) = both_true _ true (both_true _ true frame_known refl) refl

  abbrev stays : List ℕ → Bool
  stays = staying (blocks_of p f)

  abbrev last : List Block
  last = unset (params_of 0 f.params) stays (blocks_of p f)

  abbrev tight_ones : List Block
  tight_ones = kept stays (blocks_of p f) ++ last

  abbrev passing : Block → Bool
  passing b = true && (list_all good_inst b.insts && true)

  passing_known : list_all passing (blocks_of p f) ≡ true
  passing_known =
      blocks_pass (λ n. true) good_inst (λ j. true) refl passing
      (λ s n is j e l h k. both_true (list_all good_inst is) true h refl)
      [] (label_name 0) 0 [] true (inner_lines p f ++ End (jump.Ret (end_value f.result)) ∷ []) refl refl refl refl
      (all_append good (inner_lines p f) _
      (inner_good p f good (suc (labels_in (code_of f.body) true)) (addresses_in (code_of f.body)) lines_known right (omega arith)
      (omega arith)
      (frame_lines_known f.frame)) refl)

  one_known : (b : Block) → b.phis ≡ [] → passing b ≡ true → list_all is_known (block_assigned b) ≡ true
  one_known b e h =
      ap (λ (ps : List Phi). list_all is_known (map (λ (q : Phi). q.temp) ps ++ flat_map assigned b.insts)) e
      ∙ all_flat is_known assigned b.insts (and_parts (list_all good_inst b.insts) true h).0

  all_known : (bs : List Block) → Plain bs → list_all passing bs ≡ true →
      list_all (λ (b : Block). list_all is_known (block_assigned b)) bs ≡ true
  all_known [] e h = refl
  all_known (b ∷ bs) e h =
      let k = and_parts (passing b) (list_all passing bs) h in both_true _ _ (one_known b e.0 k.0) (all_known bs e.1 k.1)

  -- a setting of a temporary to 0 assigns what was assigned before
  settles : Settles good_inst good_inst
  settles = record { set = λ temp class o a b h. h; call = λ r target args h. h }

  last_known : list_all passing last ≡ true
  last_known = unset_passes good_inst good_inst settles passing (λ b g. (and_parts (list_all good_inst b.insts) true g).0)
      (params_of 0 f.params) stays (blocks_of p f) passing_known passing (λ d is e g n h. both_true (list_all good_inst is) true h refl)

  blocks_known : list_all (λ (b : Block). list_all is_known (block_assigned b)) tight_ones ≡ true
  blocks_known =
      all_known tight_ones
      (plain_append (kept stays (blocks_of p f)) last (plain_kept stays (blocks_of p f) (blocks_plain p f))
      (unset_plain (params_of 0 f.params) stays (blocks_of p f)))
      (all_append passing (kept stays (blocks_of p f)) last
      (kept_pass stays (λ (l : List ℕ). true) good_inst (λ (j : Jump). true) refl (blocks_of p f) passing_known) last_known)

  params_known : (at : ℕ) (cs : List Class) → at + length cs ≤ f.temps → list_all is_known (map (λ (p : IlParam). p.name) (params_of at cs))
      ≡ true
  params_known at [] h = refl
  params_known at (c ∷ cs) h = both_true _ _ (temp_known at (omega arith)) (params_known (suc at) cs (omega arith))

  -- ---- addresses

  args_addressed : (vs : List Value) → all_addressed vs ≡ sum_by addressed vs
  args_addressed [] = refl
  args_addressed (v ∷ vs) = omega (arith, args_addressed vs, sum_cons addressed v vs)

  mutual
    addresses_few : (c : Code) → addresses_in c ≤ addressed_in c
    addresses_few (Seq cs) = all_few cs
    addresses_few (Set temp class op a b) = omega arith
    addresses_few (Load temp how at) = omega arith
    addresses_few (Store width value at) = omega arith
    addresses_few (Move to from bytes) = omega arith
    addresses_few (If cond' a b) = omega (arith, addresses_few a, addresses_few b)
    addresses_few (Loop c) = addresses_few c
    addresses_few (Leave j) = omega arith
    addresses_few (Call temp name args) = omega (arith, args_addressed args)
    addresses_few (Ret None) = omega arith
    addresses_few (Ret (Some v)) = omega arith

    all_few : (cs : Codes) → addresses_in_all cs ≤ addressed_in_all cs
    all_few none = omega arith
    all_few (more c cs) = omega (arith, addresses_few c, all_few cs)

  -- ---- the cost

  -- without the frame itself
  pub costs_no_more : price (params_of 0 f.params) (blocks_of p f) ≤ 64 + 8 * (f.temps + addressed_in (code_of f.body) + 1)
  costs_no_more =
      let names = all_append is_known (map (λ (p : IlParam). p.name) (params_of 0 f.params)) (flat_map block_assigned tight_ones)
      (params_known 0 f.params (omega arith)) (all_flat is_known block_assigned tight_ones blocks_known) in
      omega (
        arith,
        price_is (params_of 0 f.params) (blocks_of p f),
        distinct_length (all_assigned (params_of 0 f.params) tight_ones) known names,
        length-append
            (numbered temp_name 0 f.temps ++ numbered address_name 0 (addresses_in (code_of f.body))) (frame_name ∷ []),
        length-append
            (numbered temp_name 0 f.temps) (numbered address_name 0 (addresses_in (code_of f.body))),
        numbered_length temp_name 0 f.temps,
        numbered_length address_name 0 (addresses_in (code_of f.body)),
        addresses_few (code_of f.body),
      )

-- what a frame takes of the stack: nothing where it has no bytes
abbrev pub frame_cost : ℕ → ℕ
frame_cost zero = 0
frame_cost (suc n) = taken (suc n)

pub full_costs : (p : FlatProgram) (f : FlatFn) → is_right p f 0 (code_of f.body) ≡ true → length f.params ≤ f.temps →
    price (params_of 0 f.params) (blocks_of p f) + frame_cost f.frame ≤ flat.call_cost f
full_costs p f right few = let c = costs_no_more p f right few in let k = at_most f.frame in omega arith
  where
    at_most : (n : ℕ) → frame_cost n ≤ round_up (max 1 n) 16
    at_most zero = omega arith
    at_most (suc n) = omega arith
