-- The last block: it sets temporaries that are read, and that only blocks set which are dropped.
use Rattle.std.proofs.Common.{◌≡◌, ℕ, Bool, true, false, not, ◌&&◌, ◌||◌, ◌⊎◌, inl, inr, List, [], ◌∷◌, ◌++◌, Option, None, Some, refl, sym, ap, ◌∙◌}
use Rattle.std.specs.Prelude.{bytes_eq, if◌then◌else◌}
use Rattle.std.specs.List.{list_all, list_any}
use Rattle.std.proofs.lemmas.Bool.{and_parts, or_cases}
use Rattle.std.proofs.lemmas.List.Folds.{list_all-append, list_any-append}
use Rattle.hx_base.specs.declared.Class.{Class}
use Rattle.hx_table.proofs.TableLemmas.{same_name}
use Rattle.il_code.specs.declared.op.IlOp.{IlOp}
use Rattle.il_code.specs.declared.types.Block.{Block}
use Rattle.il_code.specs.declared.types.IlArg.{IlArg}
use Rattle.il_code.specs.declared.types.IlParam.{IlParam}
use Rattle.il_code.specs.declared.types.IlValue.{IlValue}
use Rattle.il_code.specs.declared.types.Inst.{Inst}
use Rattle.il_code.specs.declared.types.Inst.TheVariants.{Set, Store, Blit, Call}
use Rattle.il_code.specs.declared.types.Jump.TheVariants.{Hlt}
use Rattle.il_code.specs.Rules as rule
use Rattle.il_code.specs.Rules.{block_sets, inst_sets, same_class}
use Rattle.il_code.specs.Shaped.{falls}
use Rattle.il_tight.specs.Tight.{Known, is_known, with_setting, with_settings, reached, dropped, keeps_settings, set_by, read_by, zero, lacking_one, lacking_at, lacking, all_lacking, stops, last_block, unset}
use Rattle.il_tight.proofs.KeptBlocks.Behind.{Apart, dropped_apart}
use Rattle.il_tight.proofs.TightBlocks.Passing.{both_true}
use Rattle.il_tight.proofs.TightBlocks.Settings.{AtClass, or_left, or_right, block_plain, one_setting, settings}
use Rattle.il_tight.proofs.SameRuns.Twins.{Plain}

-- ---- blocks that stay, and the others

module _ (stays : List ℕ → Bool) where
  -- what blocks pass, those pass that are dropped
  all_dropped : (q : Block → Bool) (into : Bool) (bs : List Block) → list_all q bs ≡ true → list_all q (dropped stays into bs) ≡ true
  all_dropped q into [] h = refl
  all_dropped q into (b ∷ bs) h =
      let k = and_parts (q b) (list_all q bs) h in
      pick (into || stays b.label) k.0 (all_dropped q (falls b.jump) bs k.1) (all_dropped q false bs k.1)
    where
      pick : (z : Bool) → q b ≡ true → list_all q (dropped stays (falls b.jump) bs) ≡ true → list_all q (dropped stays false bs) ≡ true →
          list_all q (if z then dropped stays (falls b.jump) bs else b ∷ dropped stays false bs) ≡ true
      pick true a on off = on
      pick false a on off = both_true (q b) _ a off

  plain_dropped : (into : Bool) (bs : List Block) → Plain bs → Plain (dropped stays into bs)
  plain_dropped into [] p = tt
  plain_dropped into (b ∷ bs) p =
      pick (into || stays b.label) (plain_dropped (falls b.jump) bs p.1) (plain_dropped false bs p.1)
    where
      pick : (z : Bool) → Plain (dropped stays (falls b.jump) bs) → Plain (dropped stays false bs) →
          Plain (if z then dropped stays (falls b.jump) bs else b ∷ dropped stays false bs)
      pick true on off = on
      pick false on off = (p.0, off)

  -- what some block does, one does that stays or one that is dropped
  pub any_split : (q : Block → Bool) (into : Bool) (bs : List Block) → list_any q bs ≡ true →
      (list_any q (reached stays into bs) ≡ true) ⊎ (list_any q (dropped stays into bs) ≡ true)
  any_split q into [] h = cc
  any_split q into (b ∷ bs) h = pick (into || stays b.label) (λ i k. any_split q i bs k)
    where
      Rest : Type 0
      Rest = (i : Bool) → list_any q bs ≡ true →
          (list_any q (reached stays i bs) ≡ true) ⊎ (list_any q (dropped stays i bs) ≡ true)

      pick : (z : Bool) → Rest →
          (list_any q (if z then b ∷ reached stays (falls b.jump) bs else reached stays false bs) ≡ true) ⊎
          (list_any q (if z then dropped stays (falls b.jump) bs else b ∷ dropped stays false bs) ≡ true)
      pick true on = elim (or_cases (q b) (list_any q bs) h) [
        | inl x ↦ inl (or_left (q b) _ x)
        | inr x ↦ elim (on (falls b.jump) x) [ inl y ↦ inl (or_right (q b) _ y) | inr y ↦ inr y ]
      ]
      pick false on = elim (or_cases (q b) (list_any q bs) h) [
        | inl x ↦ inr (or_left (q b) _ x)
        | inr x ↦ elim (on false x) [ inl y ↦ inl y | inr y ↦ inr (or_right (q b) _ y) ]
      ]

  any_dropped : (q : Block → Bool) (into : Bool) (bs : List Block) → list_any q (dropped stays into bs) ≡ true → list_any q bs ≡ true
  any_dropped q into [] h = h
  any_dropped q into (b ∷ bs) h = pick (into || stays b.label) refl (λ i k. any_dropped q i bs k)
    where
      Rest : Type 0
      Rest = (i : Bool) → list_any q (dropped stays i bs) ≡ true → list_any q bs ≡ true

      pick : (z : Bool) → (into || stays b.label) ≡ z → Rest → list_any q (b ∷ bs) ≡ true
      pick true e on = let h' = rw e at h in or_right (q b) _ (on (falls b.jump) h')
      pick false e on =
          let h' = rw e at h in
          elim (or_cases (q b) (list_any q (dropped stays false bs)) h') [
            | inl x ↦ or_left (q b) _ x
            | inr x ↦ or_right (q b) _ (on false x)
          ]

-- ---- what the settings of the last block pass

-- settings pass one test where what sets the same temporary passes another
pub record Settles (p q : Inst → Bool) : Type 0 where
  pub set : (temp : List ℕ) (class : Class) (op : IlOp) (a : IlValue) (b : Option IlValue) → p (Set temp class op a b) ≡ true →
      q (zero temp class) ≡ true
  pub call : (r : IlParam) (target : List ℕ) (args : List IlArg) → p (Call (Some r) target args) ≡ true →
      q (zero r.name r.class) ≡ true

module _ (p q : Inst → Bool) (on : Settles p q) (read : Known) where
  one_passes : (set : Known) (n : List ℕ) (k : Class) → q (zero n k) ≡ true → list_all q (lacking_one read set n k) ≡ true
  one_passes set n k h = pick (is_known read n && not (is_known set n))
    where
      pick : (z : Bool) → list_all q (if z then zero n k ∷ [] else []) ≡ true
      pick true = both_true _ true h refl
      pick false = refl

  at_passes : (set : Known) (i : Inst) → p i ≡ true → list_all q (lacking_at read set i) ≡ true
  at_passes set (Set temp class op a b) h = one_passes set temp class (on.set temp class op a b h)
  at_passes set (Store width v at) h = refl
  at_passes set (Blit from to bytes) h = refl
  at_passes set (Call None target args) h = refl
  at_passes set (Call (Some r) target args) h = one_passes set r.name r.class (on.call r target args h)

  each_passes : (set : Known) (is : List Inst) → list_all p is ≡ true → list_all q (lacking read set is) ≡ true
  each_passes set [] h = refl
  each_passes set (i ∷ is) h =
      let k = and_parts (p i) (list_all p is) h in
      list_all-append q (lacking_at read set i) (lacking read (with_setting set i) is)
      ∙ both_true _ _ (at_passes set i k.0) (each_passes (with_setting set i) is k.1)

  all_pass : (set : Known) (ds : List Block) → list_all (λ (d : Block). list_all p d.insts) ds ≡ true →
      list_all q (all_lacking read set ds) ≡ true
  all_pass set [] h = refl
  all_pass set (d ∷ ds) h =
      let k = and_parts (list_all p d.insts) (list_all (λ (x : Block). list_all p x.insts) ds) h in
      list_all-append q (lacking read set d.insts) (all_lacking read (with_settings set d.insts) ds)
      ∙ both_true _ _ (each_passes set d.insts k.0) (all_pass (with_settings set d.insts) ds k.1)

-- a block of settings under the label of another
abbrev pub settings_at : Block → List Inst → Block
settings_at d is = record { label = d.label; phis = []; insts = is; jump = Hlt }

-- what holds of the settings under the label of each block that is dropped, holds of the last block
pub unset_passes : (p q : Inst → Bool) → Settles p q → (good : Block → Bool) →
    ((b : Block) → good b ≡ true → list_all p b.insts ≡ true) → (params : List IlParam) (stays : List ℕ → Bool) (bs : List Block) →
    list_all good bs ≡ true → (test : Block → Bool) →
    ((d : Block) (is : List Inst) → unset params stays bs ≡ settings_at d is ∷ [] → good d ≡ true → stays d.label ≡ false →
    list_all q is ≡ true → test (settings_at d is) ≡ true) → list_all test (unset params stays bs) ≡ true
unset_passes p q on good insts params stays bs h test each =
    pick (stops false bs && not (keeps_settings stays false bs)) refl
  where
    ds : List Block
    ds = dropped stays false bs

    is : List Inst
    is = all_lacking (read_by stays bs) (set_by params stays bs) ds

    several : (xs : List Block) → list_all good xs ≡ true → list_all (λ (b : Block). list_all p b.insts) xs ≡ true
    several [] k = refl
    several (x ∷ xs) k =
        let z = and_parts (good x) (list_all good xs) k in both_true _ _ (insts x z.0) (several xs z.1)

    staying_not : (l : List ℕ) → not (stays l) ≡ true → stays l ≡ false
    staying_not l k = by (stays l) refl
      where
        by : (z : Bool) → stays l ≡ z → stays l ≡ false
        by true e = absurd (let r : false ≡ true = sym (ap not e) ∙ k in cc)
        by false e = e

    one : (xs : List Block) (ys : List Inst) → unset params stays bs ≡ last_block xs ys → list_all good xs ≡ true → Apart stays xs →
        list_all q ys ≡ true → list_all test (last_block xs ys) ≡ true
    one [] ys u a b c = refl
    one (x ∷ xs) [] u a b c = refl
    one (x ∷ xs) (y ∷ ys) u a b c =
        both_true _ true
        (each x (y ∷ ys) u (and_parts (good x) (list_all good xs) a).0
        (staying_not x.label (and_parts (not (stays x.label)) (list_all (λ (z : Block). not (stays z.label)) xs) b).0) c) refl

    pick : (z : Bool) → (stops false bs && not (keeps_settings stays false bs)) ≡ z → list_all test (if z then last_block ds is else []) ≡ true
    pick true e =
        let k = all_dropped stays good false bs h in
        one ds is (rw e refl) k (dropped_apart stays false bs)
        (all_pass p q on (read_by stays bs) (set_by params stays bs) ds (several ds k))
    pick false e = refl

-- ---- what they set

module _ (t : List ℕ) (read : Known) where
  -- they set nothing that is not set there

  one_few : (class : Class) (set : Known) (n : List ℕ) (k : Class) →
      list_any (inst_sets t class) (lacking_one read set n k) ≡ true → rule.sets t class n k ≡ true
  one_few class set n k = pick (is_known read n && not (is_known set n))
    where
      pick : (z : Bool) → list_any (inst_sets t class) (if z then zero n k ∷ [] else []) ≡ true → rule.sets t class n k ≡ true
      pick true h = elim (or_cases (rule.sets t class n k) false h) [ inl x ↦ x | inr x ↦ cc ]
      pick false h = cc

  at_few : (class : Class) (set : Known) (i : Inst) → list_any (inst_sets t class) (lacking_at read set i) ≡ true →
      inst_sets t class i ≡ true
  at_few class set (Set temp c op a b) h = one_few class set temp c h
  at_few class set (Store width v at) h = cc
  at_few class set (Blit from to bytes) h = cc
  at_few class set (Call None target args) h = cc
  at_few class set (Call (Some r) target args) h = one_few class set r.name r.class h

  each_few : (class : Class) (set : Known) (is : List Inst) → list_any (inst_sets t class) (lacking read set is) ≡ true →
      list_any (inst_sets t class) is ≡ true
  each_few class set [] h = h
  each_few class set (i ∷ is) h =
      elim (or_cases (list_any (inst_sets t class) (lacking_at read set i)) _
      (sym (list_any-append (inst_sets t class) (lacking_at read set i) (lacking read (with_setting set i) is)) ∙ h)) [
        | inl x ↦ or_left (inst_sets t class i) _ (at_few class set i x)
        | inr x ↦ or_right (inst_sets t class i) _ (each_few class (with_setting set i) is x)
      ]

  all_few : (class : Class) (set : Known) (ds : List Block) → list_any (inst_sets t class) (all_lacking read set ds) ≡ true →
      list_any (block_sets t class) ds ≡ true
  all_few class set [] h = h
  all_few class set (d ∷ ds) h =
      elim (or_cases (list_any (inst_sets t class) (lacking read set d.insts)) _
      (sym (list_any-append (inst_sets t class) (lacking read set d.insts) (all_lacking read (with_settings set d.insts) ds)) ∙ h)) [
        | inl x ↦ or_left (block_sets t class d) _ (or_right _ (list_any (inst_sets t class) d.insts) (each_few class set d.insts x))
        | inr x ↦ or_right (block_sets t class d) _ (all_few class (with_settings set d.insts) ds x)
      ]

  -- a temporary that is read and set there is set already, or they set it

  module _ (is_read : is_known read t ≡ true) where
    abbrev Set_or : Known → (Class → Bool) → Type 0
    Set_or set q = (is_known set t ≡ true) ⊎ AtClass q

    one_sets : (class : Class) (set : Known) (n : List ℕ) (k : Class) → rule.sets t class n k ≡ true →
        Set_or set (λ c. list_any (inst_sets t c) (lacking_one read set n k))
    one_sets class set n k h = pick (is_known set t) refl
      where
        same : n ≡ t
        same = same_name n t (and_parts (bytes_eq n t) (same_class k class) h).0

        pick : (z : Bool) → is_known set t ≡ z → Set_or set (λ c. list_any (inst_sets t c) (lacking_one read set n k))
        pick true e = inl e
        pick false e =
            let r : is_known read n ≡ true = ap (is_known read) same ∙ is_read in
            let s : is_known set n ≡ false = ap (is_known set) same ∙ e in
            inr (record { class = class; is = rw (r, s) (or_left (rule.sets t class n k) false h) })

    at_sets : (class : Class) (set : Known) (i : Inst) → inst_sets t class i ≡ true →
        Set_or set (λ c. list_any (inst_sets t c) (lacking_at read set i))
    at_sets class set (Set temp c op a b) h = one_sets class set temp c h
    at_sets class set (Store width v at) h = cc
    at_sets class set (Blit from to bytes) h = cc
    at_sets class set (Call None target args) h = cc
    at_sets class set (Call (Some r) target args) h = one_sets class set r.name r.class h

    -- in front of others, or behind them
    in_front : (set : Known) (xs ys : List Inst) → Set_or set (λ c. list_any (inst_sets t c) xs) →
        Set_or set (λ c. list_any (inst_sets t c) (xs ++ ys))
    in_front set xs ys h = elim h [
      | inl x ↦ inl x
      | inr x ↦ inr (record { class = x.class; is = list_any-append (inst_sets t x.class) xs ys ∙ or_left _ _ x.is })
    ]

    each_sets : (class : Class) (set : Known) (is : List Inst) → list_any (inst_sets t class) is ≡ true →
        Set_or set (λ c. list_any (inst_sets t c) (lacking read set is))
    each_sets class set [] h = cc
    each_sets class set (i ∷ is) h = elim (or_cases (inst_sets t class i) (list_any (inst_sets t class) is) h) [
      | inl x ↦ in_front set (lacking_at read set i) (lacking read (with_setting set i) is) (at_sets class set i x)
      | inr x ↦ elim (each_sets class (with_setting set i) is x) [
        | inr y ↦ inr (record {
          class = y.class;
          is = list_any-append (inst_sets t y.class) (lacking_at read set i) (lacking read (with_setting set i) is) ∙ or_right _ _ y.is;
        })
        | inl y ↦ elim (one_setting t set i y) [
          | inl z ↦ inl z
          | inr z ↦ in_front set (lacking_at read set i) (lacking read (with_setting set i) is) (at_sets z.class set i z.is)
        ]
      ]
    ]

    all_set : (class : Class) (set : Known) (ds : List Block) → Plain ds → list_any (block_sets t class) ds ≡ true →
        Set_or set (λ c. list_any (inst_sets t c) (all_lacking read set ds))
    all_set class set [] p h = cc
    all_set class set (d ∷ ds) p h = elim (or_cases (block_sets t class d) (list_any (block_sets t class) ds) h) [
      | inl x ↦ in_front set (lacking read set d.insts) (all_lacking read (with_settings set d.insts) ds)
          (each_sets class set d.insts (sym (block_plain (λ l. true) t class d p.0) ∙ x))
      | inr x ↦ elim (all_set class (with_settings set d.insts) ds p.1 x) [
        | inr y ↦ inr (record {
          class = y.class;
          is = list_any-append (inst_sets t y.class) (lacking read set d.insts) (all_lacking read (with_settings set d.insts) ds)
              ∙ or_right _ _ y.is;
        })
        | inl y ↦ elim (settings t set d.insts y) [
          | inl z ↦ inl z
          | inr z ↦ in_front set (lacking read set d.insts) (all_lacking read (with_settings set d.insts) ds)
              (each_sets z.class set d.insts z.is)
        ]
      ]
    ]

module _ (t : List ℕ) (class : Class) (params : List IlParam) (stays : List ℕ → Bool) (bs : List Block) where
  -- the last block sets what blocks set
  pub unset_few : list_any (block_sets t class) (unset params stays bs) ≡ true → list_any (block_sets t class) bs ≡ true
  unset_few = pick (stops false bs && not (keeps_settings stays false bs))
    where
      one : (ds : List Block) (is : List Inst) → list_any (block_sets t class) (last_block ds is) ≡ true →
          list_any (inst_sets t class) is ≡ true
      one [] is h = cc
      one (d ∷ ds) [] h = cc
      one (d ∷ ds) (i ∷ is) h = elim (or_cases (list_any (inst_sets t class) (i ∷ is)) false h) [ inl x ↦ x | inr x ↦ cc ]

      pick : (z : Bool) → list_any (block_sets t class) (if z
          then last_block (dropped stays false bs) (all_lacking (read_by stays bs) (set_by params stays bs) (dropped stays false bs))
          else []) ≡ true → list_any (block_sets t class) bs ≡ true
      pick true h =
          any_dropped stays (block_sets t class) false bs
          (all_few t (read_by stays bs) class (set_by params stays bs) (dropped stays false bs)
          (one (dropped stays false bs) _ h))
      pick false h = cc

  -- a temporary that is read, and that a block sets which is dropped, is set by what stays or by the last block
  pub unset_sets : Plain bs → stops false bs ≡ true → keeps_settings stays false bs ≡ false → is_known (read_by stays bs) t ≡ true →
      list_any (block_sets t class) (dropped stays false bs) ≡ true →
      (is_known (set_by params stays bs) t ≡ true) ⊎ AtClass (λ c. list_any (block_sets t c) (unset params stays bs))
  unset_sets p e k r h =
      elim (all_set t (read_by stays bs) r class (set_by params stays bs) (dropped stays false bs) (plain_dropped stays false bs p) h) [
        | inl x ↦ inl x
        | inr x ↦ inr (record {
          class = x.class;
          is = rw (e, k) (one (dropped stays false bs) _ h x.class x.is);
        })
      ]
    where
      one : (ds : List Block) (is : List Inst) → list_any (block_sets t class) ds ≡ true → (c : Class) →
          list_any (inst_sets t c) is ≡ true → list_any (block_sets t c) (last_block ds is) ≡ true
      one [] is a c b = cc
      one (d ∷ ds) [] a c b = cc
      one (d ∷ ds) (i ∷ is) a c b = or_left (list_any (inst_sets t c) (i ∷ is)) false b
