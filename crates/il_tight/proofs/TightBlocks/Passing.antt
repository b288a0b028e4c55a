-- What the blocks of a function pass, the kept ones pass.
use Rattle.std.proofs.Common.{◌≡◌, ℕ, ◌+◌, Bool, true, false, cond, not, ◌&&◌, ◌||◌, List, [], ◌∷◌, ◌++◌, refl, sym, ap, ◌∙◌, arith}
use Rattle.std.specs.Prelude.{bytes_eq, count_by, if◌then◌else◌}
use Rattle.std.specs.List.{list_all}
use Rattle.std.proofs.lemmas.Bool.{and_parts}
use Rattle.std.proofs.lemmas.List.Folds.{list_all-append}
use Rattle.std.proofs.lemmas.List.Sums.{sum_by-append}
use Rattle.il_code.specs.declared.types.Block.{Block}
use Rattle.il_code.specs.declared.types.Inst.{Inst}
use Rattle.il_code.specs.declared.types.Jump.{Jump}
use Rattle.il_code.specs.declared.types.Jump.TheVariants.{Fall, Jmp, Jnz, Ret, Hlt}
use Rattle.il_code.specs.Rules.{how_many, has_label, targets_pass}
use Rattle.il_code.specs.Shaped.{ends, falls}
use Rattle.hx_table.proofs.TableLemmas.{same_name}
use Rattle.il_tight.specs.Tight.{reached, is_closed}
use Rattle.il_tight.proofs.KeptBlocks.Kept.{into_insts, into_jump, whole, kept}

pub both_true : (a b : Bool) → a ≡ true → b ≡ true → (a && b) ≡ true
both_true a b ha hb = rw (ha, hb) refl

pub all_two : {A : Type 0} (f g h : A → Bool) → ((x : A) → f x ≡ true → g x ≡ true → h x ≡ true) → (xs : List A) →
    list_all f xs ≡ true → list_all g xs ≡ true → list_all h xs ≡ true
all_two f g h on [] a b = refl
all_two f g h on (x ∷ xs) a b =
    let p = and_parts (f x) (list_all f xs) a in
    let q = and_parts (g x) (list_all g xs) b in
    both_true (h x) (list_all h xs) (on x p.0 q.0) (all_two f g h on xs p.1 q.1)

pub all_more : {A : Type 0} (f h : A → Bool) → ((x : A) → f x ≡ true → h x ≡ true) → (xs : List A) → list_all f xs ≡ true →
    list_all h xs ≡ true
all_more f h on xs a = all_two f f h (λ x p q. on x p) xs a a

abbrev weight : Bool → ℕ
weight b = cond b 1 0

-- what blocks pass, those pass that stay
pub all_reached : (stays : List ℕ → Bool) (q : Block → Bool) (into : Bool) (bs : List Block) → list_all q bs ≡ true →
    list_all q (reached stays into bs) ≡ true
all_reached stays q into [] h = refl
all_reached stays q into (b ∷ bs) h =
    let k = and_parts (q b) (list_all q bs) h in
    pick (into || stays b.label) k.0 (all_reached stays q (falls b.jump) bs k.1) (all_reached stays q false bs k.1)
  where
    pick : (z : Bool) → q b ≡ true → list_all q (reached stays (falls b.jump) bs) ≡ true → list_all q (reached stays false bs) ≡ true →
        list_all q (if z then b ∷ reached stays (falls b.jump) bs else reached stays false bs) ≡ true
    pick true a on off = both_true (q b) _ a on
    pick false a on off = off

module _ (stays : List ℕ → Bool) where
  module _ (label : List ℕ → Bool) (inst : Inst → Bool) (jump : Jump → Bool) (falling : jump Fall ≡ true) where
    abbrev pub passes : Block → Bool
    passes b = label b.label && (list_all inst b.insts && jump b.jump)

    pub into_pass : (j : Jump) (bs : List Block) → jump j ≡ true → list_all passes (reached stays (falls j) bs) ≡ true →
        (list_all inst (into_insts stays (falls j) bs) ≡ true) × (jump (into_jump stays j bs) ≡ true)
    into_pass (Jmp l) bs e h = (refl, e)
    into_pass (Jnz v a b) bs e h = (refl, e)
    into_pass (Ret v) bs e h = (refl, e)
    into_pass Hlt bs e h = (refl, e)
    into_pass Fall [] e h = (refl, e)
    into_pass Fall (b ∷ bs) e h =
        let p = and_parts (passes b) (list_all passes (reached stays (falls b.jump) bs)) h in
        let q = and_parts (label b.label) _ p.0 in
        let r = and_parts (list_all inst b.insts) (jump b.jump) q.1 in
        pick (stays b.label) r.0 (into_pass b.jump bs r.1 p.1)
      where
        pick : (z : Bool) → list_all inst b.insts ≡ true →
            (list_all inst (into_insts stays (falls b.jump) bs) ≡ true) × (jump (into_jump stays b.jump bs) ≡ true) →
            (list_all inst (if z then [] else b.insts ++ into_insts stays (falls b.jump) bs) ≡ true) ×
            (jump (if z then Fall else into_jump stays b.jump bs) ≡ true)
        pick true a on = (refl, falling)
        pick false a on =
            (list_all-append inst b.insts (into_insts stays (falls b.jump) bs) ∙ both_true (list_all inst b.insts) _ a on.0, on.1)

    -- what the blocks pass that stay
    pub reached_pass : (into : Bool) (bs : List Block) → list_all passes (reached stays into bs) ≡ true →
        list_all passes (kept stays bs) ≡ true
    reached_pass into [] h = refl
    reached_pass into (b ∷ bs) h = pick (stays b.label) refl into h (λ i k. reached_pass i bs k)
      where
        Rest : Type 0
        Rest = (i : Bool) → list_all passes (reached stays i bs) ≡ true → list_all passes (kept stays bs) ≡ true

        here : list_all passes (b ∷ reached stays (falls b.jump) bs) ≡ true →
            (passes (whole stays b bs) ≡ true) × (list_all passes (reached stays (falls b.jump) bs) ≡ true)
        here k =
            let p = and_parts (passes b) (list_all passes (reached stays (falls b.jump) bs)) k in
            let q = and_parts (label b.label) _ p.0 in
            let r = and_parts (list_all inst b.insts) (jump b.jump) q.1 in
            let on = into_pass b.jump bs r.1 p.1 in (
              both_true (label b.label) _ q.0
                  (both_true _ _
                  (list_all-append inst b.insts (into_insts stays (falls b.jump) bs) ∙ both_true (list_all inst b.insts) _ r.0 on.0) on.1),
              p.1,
            )

        pick : (z : Bool) → stays b.label ≡ z → (i : Bool) → list_all passes (reached stays i (b ∷ bs)) ≡ true → Rest →
            list_all passes (kept stays (b ∷ bs)) ≡ true
        pick true e true k on = let h' = here k in rw e (both_true _ _ h'.0 (on (falls b.jump) h'.1))
        pick true e false k on = let k' = rw e at k in let h' = here k' in rw e (both_true _ _ h'.0 (on (falls b.jump) h'.1))
        pick false e true k on = rw e (on (falls b.jump) (here k).1)
        pick false e false k on = let k' = rw e at k in rw e (on false k')

    pub kept_pass : (bs : List Block) → list_all passes bs ≡ true → list_all passes (kept stays bs) ≡ true
    kept_pass bs h = reached_pass false bs (all_reached stays passes false bs h)

  -- ---- labels

  pub stays_kept : (bs : List Block) → list_all (λ (b : Block). stays b.label) (kept stays bs) ≡ true
  stays_kept [] = refl
  stays_kept (b ∷ bs) = pick (stays b.label) refl (stays_kept bs)
    where
      pick : (z : Bool) → stays b.label ≡ z → list_all (λ (x : Block). stays x.label) (kept stays bs) ≡ true →
          list_all (λ (x : Block). stays x.label) (if z then whole stays b bs ∷ kept stays bs else kept stays bs) ≡ true
      pick true e on = both_true _ _ e on
      pick false e on = on

  into_targets : (j : Jump) (bs : List Block) → targets_pass stays j ≡ true → is_closed stays (falls j) bs ≡ true →
      targets_pass stays (into_jump stays j bs) ≡ true
  into_targets (Jmp l) bs e h = e
  into_targets (Jnz v a b) bs e h = e
  into_targets (Ret v) bs e h = e
  into_targets Hlt bs e h = e
  into_targets Fall [] e h = e
  into_targets Fall (b ∷ bs) e h =
      let k = and_parts (targets_pass stays b.jump) _ h in pick (stays b.label) (into_targets b.jump bs k.0 k.1)
    where
      pick : (z : Bool) → targets_pass stays (into_jump stays b.jump bs) ≡ true →
          targets_pass stays (if z then Fall else into_jump stays b.jump bs) ≡ true
      pick true on = refl
      pick false on = on

  pub targets_kept : (into : Bool) (bs : List Block) → is_closed stays into bs ≡ true →
      list_all (λ (b : Block). targets_pass stays b.jump) (kept stays bs) ≡ true
  targets_kept into [] h = refl
  targets_kept into (b ∷ bs) h = pick (stays b.label) refl into h (λ i c. targets_kept i bs c)
    where
      Rest : Type 0
      Rest = (i : Bool) → is_closed stays i bs ≡ true → list_all (λ (x : Block). targets_pass stays x.jump) (kept stays bs) ≡ true

      here : (targets_pass stays b.jump && is_closed stays (falls b.jump) bs) ≡ true → Rest →
          (targets_pass stays (into_jump stays b.jump bs) ≡ true) ×
          (list_all (λ (x : Block). targets_pass stays x.jump) (kept stays bs) ≡ true)
      here c on =
          let k = and_parts (targets_pass stays b.jump) _ c in
          (into_targets b.jump bs k.0 k.1, on (falls b.jump) k.1)

      pick : (z : Bool) → stays b.label ≡ z → (i : Bool) → is_closed stays i (b ∷ bs) ≡ true → Rest →
          list_all (λ (x : Block). targets_pass stays x.jump) (kept stays (b ∷ bs)) ≡ true
      pick true e true c on = let k = here c on in rw e (both_true _ _ k.0 k.1)
      pick true e false c on = let c' = rw e at c in let k = here c' on in rw e (both_true _ _ k.0 k.1)
      pick false e true c on = rw e (here c on).1
      pick false e false c on =
          let c' = rw e at c in rw e (on false c')

  pub label_kept : (l : List ℕ) → stays l ≡ true → (bs : List Block) → has_label (kept stays bs) l ≡ has_label bs l
  label_kept l s [] = refl
  label_kept l s (b ∷ bs) = pick (stays b.label) (bytes_eq b.label l) refl refl (label_kept l s bs)
    where
      pick : (z y : Bool) → stays b.label ≡ z → bytes_eq b.label l ≡ y → has_label (kept stays bs) l ≡ has_label bs l →
          has_label (kept stays (b ∷ bs)) l ≡ has_label (b ∷ bs) l
      pick true y e f on = rw e (ap (λ (x : Bool). bytes_eq b.label l || x) on)
      pick false false e f on = rw (e, f) on
      pick false true e f on = absurd (let q = same_name b.label l f in let r = sym e ∙ ap stays q ∙ s in cc)

  count_cons : {A : Type 0} (q : A → Bool) (x : A) (xs : List A) → count_by q (x ∷ xs) ≡ weight (q x) + count_by q xs
  count_cons q x xs = sum_by-append (λ y. cond (q y) 1 0) (x ∷ []) xs ∙ omega arith

  pub count_kept : (l : List ℕ) → stays l ≡ true → (bs : List Block) →
      how_many (λ (b : Block). b.label) l (kept stays bs) ≡ how_many (λ (b : Block). b.label) l bs
  count_kept l s [] = refl
  count_kept l s (b ∷ bs) = pick (stays b.label) (bytes_eq b.label l) refl refl (count_kept l s bs)
    where
      named : Block → Bool
      named x = bytes_eq x.label l

      pick : (z y : Bool) → stays b.label ≡ z → bytes_eq b.label l ≡ y →
          how_many (λ (x : Block). x.label) l (kept stays bs) ≡ how_many (λ (x : Block). x.label) l bs →
          how_many (λ (x : Block). x.label) l (kept stays (b ∷ bs)) ≡ how_many (λ (x : Block). x.label) l (b ∷ bs)
      pick true y e f on =
          rw e (count_cons named (whole stays b bs) (kept stays bs) ∙ ap (λ (n : ℕ). weight (bytes_eq b.label l) + n) on
          ∙ sym (count_cons named b bs))
      pick false false e f on =
          let w : weight (bytes_eq b.label l) ≡ 0 = ap weight f in
          rw e (on ∙ omega (arith, w, count_cons named b bs))
      pick false true e f on = absurd (let q = same_name b.label l f in let r = sym e ∙ ap stays q ∙ s in cc)

  -- ---- the end

  ends_alike : (x y : Block) (xs : List Block) → not (falls y.jump) ≡ true → ends (x ∷ xs) ≡ true → ends (y ∷ xs) ≡ true
  ends_alike x y [] e h = e
  ends_alike x y (z ∷ xs) e h = h

  ends_same : (x y : Block) (xs : List Block) → y.jump ≡ x.jump → ends (x ∷ xs) ≡ true → ends (y ∷ xs) ≡ true
  ends_same x y [] e h = ap (λ (j : Jump). not (falls j)) e ∙ h
  ends_same x y (z ∷ xs) e h = h

  last_ends : (j : Jump) → not (falls j) ≡ true → not (falls (into_jump stays j [])) ≡ true
  last_ends (Jmp l) h = refl
  last_ends (Jnz v a b) h = refl
  last_ends (Ret v) h = refl
  last_ends Hlt h = refl
  last_ends Fall h = cc

  pub whole_ends : (b : Block) (bs : List Block) → ends (b ∷ bs) ≡ true → ends (whole stays b bs ∷ kept stays bs) ≡ true
  whole_ends b [] h = last_ends b.jump h
  whole_ends b (c ∷ bs) h = pick (stays c.label) refl (whole_ends c bs h)
    where
      skip : (j : Jump) → b.jump ≡ j → stays c.label ≡ false → ends (whole stays c bs ∷ kept stays bs) ≡ true →
          ends (whole stays b (c ∷ bs) ∷ kept stays bs) ≡ true
      skip Fall f e on =
          let same : into_jump stays b.jump (c ∷ bs) ≡ into_jump stays c.jump bs = rw (f, e) refl in
          ends_same (whole stays c bs) (whole stays b (c ∷ bs)) (kept stays bs) same on
      skip (Jmp l) f e on = ends_alike (whole stays c bs) (whole stays b (c ∷ bs)) (kept stays bs) (rw f refl) on
      skip (Jnz v x y) f e on = ends_alike (whole stays c bs) (whole stays b (c ∷ bs)) (kept stays bs) (rw f refl) on
      skip (Ret v) f e on = ends_alike (whole stays c bs) (whole stays b (c ∷ bs)) (kept stays bs) (rw f refl) on
      skip Hlt f e on = ends_alike (whole stays c bs) (whole stays b (c ∷ bs)) (kept stays bs) (rw f refl) on

      pick : (z : Bool) → stays c.label ≡ z → ends (whole stays c bs ∷ kept stays bs) ≡ true →
          ends (whole stays b (c ∷ bs) ∷ kept stays (c ∷ bs)) ≡ true
      pick true e on = rw e on
      pick false e on = rw e (skip b.jump refl e on)

all_stop : (x : Block) (xs : List Block) → list_all (λ (b : Block). not (falls b.jump)) (x ∷ xs) ≡ true → ends (x ∷ xs) ≡ true
all_stop x [] h = (and_parts (not (falls x.jump)) true h).0
all_stop x (y ∷ xs) h = all_stop y xs (and_parts (not (falls x.jump)) _ h).1

-- the same with others behind, none of which falls
pub ends_more : (xs ys : List Block) → ends xs ≡ true → list_all (λ (b : Block). not (falls b.jump)) ys ≡ true → ends (xs ++ ys) ≡ true
ends_more [] ys h k = cc
ends_more (x ∷ []) [] h k = h
ends_more (x ∷ []) (y ∷ ys) h k = all_stop y ys k
ends_more (x ∷ z ∷ xs) ys h k = ends_more (z ∷ xs) ys h k
