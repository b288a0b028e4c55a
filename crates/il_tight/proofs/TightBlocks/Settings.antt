-- What temporaries the blocks set that stay.
use Rattle.std.proofs.Common.{◌≡◌, ℕ, Bool, true, false, not, ◌||◌, ◌⊎◌, inl, inr, List, [], ◌∷◌, ◌++◌, Option, None, Some, refl, sym, ap, ◌∙◌}
use Rattle.std.specs.Prelude.{bytes_eq, is_some}
use Rattle.std.specs.List.{list_any}
use Rattle.std.proofs.lemmas.Bool.{and_parts, or_cases}
use Rattle.std.proofs.lemmas.List.Folds.{list_any-append}
use Rattle.hx_base.specs.declared.Class.{Class}
use Rattle.hx_base.specs.declared.Class.TheVariants.{W, L}
use Rattle.hx_base.specs.Runtime.{lookup}
use Rattle.hx_table.proofs.TableLemmas.{lookup-with_entry}
use Rattle.il_code.specs.declared.types.Block.{Block}
use Rattle.il_code.specs.declared.types.IlParam.{IlParam}
use Rattle.il_code.specs.declared.types.Inst.{Inst}
use Rattle.il_code.specs.declared.types.Inst.TheVariants.{Set, Store, Blit, Call}
use Rattle.il_code.specs.declared.types.Phi.{Phi}
use Rattle.il_code.specs.Rules as rule
use Rattle.il_code.specs.Rules.{block_sets, inst_sets, is_set, same_class}
use Rattle.il_code.specs.Shaped.{falls}
use Rattle.il_tight.specs.Tight.{Known, is_known, with_name, assigns, block_assigns, with_setting, with_settings, with_all_settings, with_params, set_by, reached, keeps_settings}
use Rattle.il_tight.proofs.KeptBlocks.Kept.{into_insts, whole, kept}
use Rattle.il_tight.proofs.TightBlocks.Passing.{both_true}
use Rattle.il_tight.proofs.SameRuns.Twins.{Plain}

-- ---- two ways to be true

either : (a b c d : Bool) → a ≡ c → b ≡ d → (a || b) ≡ (c || d)
either a b c d h k = rw (h, k) refl

or_assoc : (a b c : Bool) → ((a || b) || c) ≡ (a || (b || c))
or_assoc true b c = refl
or_assoc false b c = refl

pub or_left : (a b : Bool) → a ≡ true → (a || b) ≡ true
or_left a b h = rw h refl

pub or_right : (a b : Bool) → b ≡ true → (a || b) ≡ true
or_right true b h = refl
or_right false b h = h

-- ---- at one class

-- instructions that set nothing set no temporary
none_set : (name : List ℕ) (class : Class) (is : List Inst) → not (list_any assigns is) ≡ true →
    list_any (inst_sets name class) is ≡ false
none_set name class [] h = refl
none_set name class (Set temp c op a b ∷ is) h = cc
none_set name class (Store width value at ∷ is) h = none_set name class is h
none_set name class (Blit from to bytes ∷ is) h = none_set name class is h
none_set name class (Call None target args ∷ is) h = none_set name class is h
none_set name class (Call (Some p) target args ∷ is) h = cc

module _ (stays : List ℕ → Bool) (name : List ℕ) (class : Class) where
  pub block_plain : (b : Block) → b.phis ≡ [] → block_sets name class b ≡ list_any (inst_sets name class) b.insts
  block_plain b e =
      ap (λ (ps : List Phi). list_any (λ (p : Phi). rule.sets name class p.temp p.class) ps || list_any (inst_sets name class) b.insts) e

  block_whole : (b : Block) (bs : List Block) → b.phis ≡ [] → block_sets name class (whole stays b bs) ≡
      (list_any (inst_sets name class) b.insts || list_any (inst_sets name class) (into_insts stays (falls b.jump) bs))
  block_whole b bs e =
      ap (λ (ps : List Phi). list_any (λ (p : Phi). rule.sets name class p.temp p.class) ps ||
      list_any (inst_sets name class) (b.insts ++ into_insts stays (falls b.jump) bs)) e
      ∙ list_any-append (inst_sets name class) b.insts (into_insts stays (falls b.jump) bs)

  -- what is joined and what is kept sets what the blocks set that stay
  pub sets_reached : (into : Bool) (bs : List Block) → Plain bs →
      (list_any (inst_sets name class) (into_insts stays into bs) || list_any (block_sets name class) (kept stays bs)) ≡
      list_any (block_sets name class) (reached stays into bs)
  sets_reached false [] p = refl
  sets_reached true [] p = refl
  sets_reached into (b ∷ bs) p = pick (stays b.label) refl into (λ i. sets_reached i bs p.1)
    where
      Rest : Type 0
      Rest = (i : Bool) →
          (list_any (inst_sets name class) (into_insts stays i bs) || list_any (block_sets name class) (kept stays bs)) ≡
          list_any (block_sets name class) (reached stays i bs)

      regroup : Rest →
          ((list_any (inst_sets name class) b.insts || list_any (inst_sets name class) (into_insts stays (falls b.jump) bs)) ||
          list_any (block_sets name class) (kept stays bs)) ≡ list_any (block_sets name class) (b ∷ reached stays (falls b.jump) bs)
      regroup on =
          or_assoc (list_any (inst_sets name class) b.insts) _ _ ∙ either _ _ _ _ (sym (block_plain b p.0)) (on (falls b.jump))

      pick : (z : Bool) → stays b.label ≡ z → (i : Bool) → Rest →
          (list_any (inst_sets name class) (into_insts stays i (b ∷ bs)) || list_any (block_sets name class) (kept stays (b ∷ bs))) ≡
          list_any (block_sets name class) (reached stays i (b ∷ bs))
      pick true e true on = rw e (either _ _ _ _ (block_whole b bs p.0) refl ∙ regroup on)
      pick true e false on = rw e (either _ _ _ _ (block_whole b bs p.0) refl ∙ regroup on)
      pick false e true on =
          rw e (either _ _ _ _ (list_any-append (inst_sets name class) b.insts (into_insts stays (falls b.jump) bs)) refl ∙ regroup on)
      pick false e false on = rw e (on false)

  -- which is all that blocks set, where what does not stay sets nothing
  pub all_reached_set : (into : Bool) (bs : List Block) → keeps_settings stays into bs ≡ true → Plain bs →
      list_any (block_sets name class) (reached stays into bs) ≡ list_any (block_sets name class) bs
  all_reached_set into [] h p = refl
  all_reached_set into (b ∷ bs) h p = pick (into || stays b.label) refl (λ i k. all_reached_set i bs k p.1)
    where
      Rest : Type 0
      Rest = (i : Bool) → keeps_settings stays i bs ≡ true →
          list_any (block_sets name class) (reached stays i bs) ≡ list_any (block_sets name class) bs

      pick : (z : Bool) → (into || stays b.label) ≡ z → Rest →
          list_any (block_sets name class) (reached stays into (b ∷ bs)) ≡ list_any (block_sets name class) (b ∷ bs)
      pick true e on = let h' = rw e at h in rw e (ap (λ (x : Bool). block_sets name class b || x) (on (falls b.jump) h'))
      pick false e on =
          let h' = rw e at h in
          let k = and_parts (not (block_assigns b)) (keeps_settings stays false bs) h' in
          let z : block_sets name class b ≡ false = block_plain b p.0 ∙ none_set name class b.insts k.0 in
          rw e (on false k.1 ∙ sym (ap (λ (x : Bool). x || list_any (block_sets name class) bs) z))

-- what some of the blocks that stay do, some of the blocks do
pub any_reached : (stays : List ℕ → Bool) (q : Block → Bool) (into : Bool) (bs : List Block) →
    list_any q (reached stays into bs) ≡ true → list_any q bs ≡ true
any_reached stays q into [] h = h
any_reached stays q into (b ∷ bs) h =
    pick (into || stays b.label) refl (λ i k. any_reached stays q i bs k)
  where
    Rest : Type 0
    Rest = (i : Bool) → list_any q (reached stays i bs) ≡ true → list_any q bs ≡ true

    pick : (z : Bool) → (into || stays b.label) ≡ z → Rest → list_any q (b ∷ bs) ≡ true
    pick true e on =
        let h' = rw e at h in
        elim (or_cases (q b) (list_any q (reached stays (falls b.jump) bs)) h') [
          | inl x ↦ or_left (q b) _ x
          | inr x ↦ or_right (q b) _ (on (falls b.jump) x)
        ]
    pick false e on = let h' = rw e at h in or_right (q b) _ (on false h')

-- ---- by name

-- it is so at some class
pub record AtClass (q : Class → Bool) : Type 0 where
  pub class : Class
  pub is : q class ≡ true

module _ (t : List ℕ) where
  pub named_added : (known : Known) (n : List ℕ) → is_known (with_name known n) t ≡ true → (is_known known t ≡ true) ⊎ (bytes_eq n t ≡ true)
  named_added known n h = pick (lookup t known) (bytes_eq n t) refl refl
    where
      pick : (o : Option (Unit {0})) (z : Bool) → lookup t known ≡ o → bytes_eq n t ≡ z →
          (is_known known t ≡ true) ⊎ (bytes_eq n t ≡ true)
      pick (Some u) z e f = inl (ap is_some e)
      pick None true e f = inr f
      pick None false e f =
          absurd (let k : is_known (with_name known n) t ≡ false = ap is_some (lookup-with_entry t known n tt) ∙ rw (e, f) refl in cc)

  -- what sets a temporary sets it at its own class
  own_class : (c : Class) (n : List ℕ) → bytes_eq n t ≡ true → rule.sets t c n c ≡ true
  own_class W n h = both_true _ true h refl
  own_class L n h = both_true _ true h refl

  abbrev pub Either : Known → (Class → Bool) → Type 0
  Either known q = (is_known known t ≡ true) ⊎ AtClass q

  pub one_setting : (known : Known) (i : Inst) → is_known (with_setting known i) t ≡ true → Either known (λ c. inst_sets t c i)
  one_setting known (Set temp class op a b) h = elim (named_added known temp h) [
    | inl x ↦ inl x
    | inr x ↦ inr (record { class = class; is = own_class class temp x })
  ]
  one_setting known (Store width value at) h = inl h
  one_setting known (Blit from to bytes) h = inl h
  one_setting known (Call None target args) h = inl h
  one_setting known (Call (Some p) target args) h = elim (named_added known p.name h) [
    | inl x ↦ inl x
    | inr x ↦ inr (record { class = p.class; is = own_class p.class p.name x })
  ]

  pub settings : (known : Known) (is : List Inst) → is_known (with_settings known is) t ≡ true →
      Either known (λ c. list_any (inst_sets t c) is)
  settings known [] h = inl h
  settings known (i ∷ is) h = elim (settings (with_setting known i) is h) [
    | inr x ↦ inr (record { class = x.class; is = or_right (inst_sets t x.class i) _ x.is })
    | inl x ↦ elim (one_setting known i x) [
      | inl y ↦ inl y
      | inr y ↦ inr (record { class = y.class; is = or_left _ (list_any (inst_sets t y.class) is) y.is })
    ]
  ]

  all_settings : (known : Known) (bs : List Block) → is_known (with_all_settings known bs) t ≡ true →
      Either known (λ c. list_any (block_sets t c) bs)
  all_settings known [] h = inl h
  all_settings known (b ∷ bs) h = elim (all_settings (with_settings known b.insts) bs h) [
    | inr x ↦ inr (record { class = x.class; is = or_right (block_sets t x.class b) _ x.is })
    | inl x ↦ elim (settings known b.insts x) [
      | inl y ↦ inl y
      | inr y ↦ inr (record {
        class = y.class;
        is = or_left (block_sets t y.class b) (list_any (block_sets t y.class) bs)
            (or_right (list_any (λ (p : Phi). rule.sets t y.class p.temp p.class) b.phis) (list_any (inst_sets t y.class) b.insts) y.is);
      })
    ]
  ]

  params_set : (known : Known) (ps : List IlParam) → is_known (with_params known ps) t ≡ true →
      Either known (λ c. list_any (λ (p : IlParam). rule.sets t c p.name p.class) ps)
  params_set known [] h = inl h
  params_set known (p ∷ ps) h = elim (params_set (with_name known p.name) ps h) [
    | inr x ↦ inr (record { class = x.class; is = or_right (rule.sets t x.class p.name p.class) _ x.is })
    | inl x ↦ elim (named_added known p.name x) [
      | inl y ↦ inl y
      | inr y ↦ inr (record { class = p.class; is = or_left _ _ (own_class p.class p.name y) })
    ]
  ]

  -- what is known as set is set
  pub set_at : (params : List IlParam) (stays : List ℕ → Bool) (bs : List Block) → is_known (set_by params stays bs) t ≡ true →
      AtClass (λ c. is_set params (reached stays false bs) t c)
  set_at params stays bs h = elim (all_settings (with_params [] params) (reached stays false bs) h) [
    | inr x ↦ record { class = x.class; is = or_right _ (list_any (block_sets t x.class) (reached stays false bs)) x.is }
    | inl x ↦ elim (params_set [] params x) [
      | inr y ↦ record { class = y.class; is = or_left _ (list_any (block_sets t y.class) (reached stays false bs)) y.is }
      | inl y ↦ cc
    ]
  ]
