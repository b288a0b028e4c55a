-- Blocks are tight that begin only where what is reached names them.
use Rattle.std.proofs.Common.{◌≡◌, ℕ, Bool, true, false, not, ◌&&◌, ◌⊎◌, inl, inr, List, [], ◌∷◌, ◌++◌, map, refl, sym, ap, ◌∙◌, subst, append_assoc}
use Rattle.std.specs.Prelude.{bytes_eq, if◌then◌else◌}
use Rattle.std.specs.List.{list_all, AllByRecursion}
use Rattle.std.proofs.lemmas.Bool.{and_parts}
use Rattle.hx_table.proofs.TableLemmas.{same_name}
use Rattle.il_code.specs.declared.types.Block.{Block}
use Rattle.il_code.specs.declared.types.IlItem.{IlItem}
use Rattle.il_code.specs.declared.types.IlItem.TheVariants.{Data, Function}
use Rattle.il_code.specs.declared.types.IlParam.{IlParam}
use Rattle.il_code.specs.declared.types.Inst.{Inst}
use Rattle.il_code.specs.declared.types.Jump.{Jump}
use Rattle.il_code.specs.declared.types.Jump.TheVariants.{Fall, Jmp, Jnz, Ret, Hlt}
use Rattle.il_code.specs.Rules.{targets_pass}
use Rattle.il_code.specs.Shaped.{ends, falls}
use Rattle.il_tight.specs.Tight.{Known, is_known, with_name, with_targets, wanted_from, closed_from, is_closed, dropped, keeps_settings, set_by, read_by, all_lacking, stops, last_block, unset, staying, tight, tight_item}
use Rattle.il_tight.specs.Tightness.{names, is_named, IsLed, starts, falls_in, jumps_in, AreLed, IsZero, AreUnset, no_block, one_block, IsTight, ItemIsTight}
use Rattle.il_tight.proofs.KeptBlocks.Behind.{Apart, all_zeros, dropped_apart, ends_stops}
use Rattle.il_tight.proofs.KeptBlocks.Kept.{into_jump, whole, kept, tight_is}
use Rattle.il_tight.proofs.TightBlocks.Passing.{stays_kept, targets_kept, whole_ends}
use Rattle.il_tight.proofs.TightBlocks.Settings.{or_left, or_right, named_added}
use Rattle.il_tight.proofs.KeptBlocks.Staying.{wanted_grows, closed_grows, staying_first, staying_closed}

-- ---- what is known holds

module _ (l : List ℕ) where
  -- a target is named
  target_named : (known : Known) (j : Jump) → is_known (with_targets known j) l ≡ true → (is_known known l ≡ true) ⊎ (names j l ≡ true)
  target_named known Fall h = inl h
  target_named known (Jmp a) h = named_added l known a h
  target_named known (Jnz v a b) h = elim (named_added l (with_name known a) b h) [
    | inr x ↦ inr (or_right (bytes_eq a l) _ x)
    | inl x ↦ elim (named_added l known a x) [
      | inl y ↦ inl y
      | inr y ↦ inr (or_left _ (bytes_eq b l) y)
    ]
  ]
  target_named known (Ret v) h = inl h
  target_named known Hlt h = inl h

-- ---- the labels that stay

module _ (first : List ℕ) (stays : List ℕ → Bool) (ks : List Block) where
  pub record Holds (l : List ℕ) : Type 0 where
    pub led : IsLed ks l
    pub named : (l ≡ first) ⊎ (is_named ks l ≡ true)

  abbrev Known_hold : Known → Type 0
  Known_hold known = (l : List ℕ) → is_known known l ≡ true → Holds l

  -- a block that falls, and what it falls into
  pub record Falling (out : List Block) (xs : List Block) : Type 0 where
    pub front : List Block
    pub block : Block
    pub last : out ≡ front ++ (block ∷ [])
    pub jump : block.jump ≡ into_jump stays Fall xs
    pub led : IsLed ks block.label

  abbrev MayFall : Bool → List Block → List Block → Type 0
  MayFall true out xs = Falling out xs
  MayFall false out xs = Unit {0}

  any_at : (front behind : List Block) (a : Block) (l : List ℕ) → names a.jump l ≡ true → is_named (front ++ (a ∷ behind)) l ≡ true
  any_at [] behind a l h = or_left _ _ h
  any_at (x ∷ front) behind a l h = or_right (names x.jump l) _ (any_at front behind a l h)

  -- a kept block to which control comes holds up what it names
  holds_up : (front behind : List Block) (a : Block) → ks ≡ front ++ (a ∷ behind) → IsLed ks a.label → (l : List ℕ) →
      names a.jump l ≡ true → Holds l
  holds_up front behind a e h l k = record {
    led = jumps_in front behind a l e k h;
    named = inr (ap (λ (xs : List Block). is_named xs l) e ∙ any_at front behind a l k);
  }

  -- what is known behind a block whose jump a kept block has
  behind_jump : (known : Known) (j : Jump) (front behind : List Block) (a : Block) (xs : List Block) → Known_hold known →
      ks ≡ front ++ (a ∷ behind) → IsLed ks a.label → a.jump ≡ into_jump stays j xs → Known_hold (with_targets known j)
  behind_jump known Fall front behind a xs on e h k l there = on l there
  behind_jump known (Jmp x) front behind a xs on e h k l there = elim (target_named l known (Jmp x) there) [
    | inl y ↦ on l y
    | inr y ↦ holds_up front behind a e h l (ap (λ (j : Jump). names j l) k ∙ y)
  ]
  behind_jump known (Jnz v x y) front behind a xs on e h k l there = elim (target_named l known (Jnz v x y) there) [
    | inl z ↦ on l z
    | inr z ↦ holds_up front behind a e h l (ap (λ (j : Jump). names j l) k ∙ z)
  ]
  behind_jump known (Ret v) front behind a xs on e h k l there = on l there
  behind_jump known Hlt front behind a xs on e h k l there = on l there

  may_fall : (j : Jump) (out front : List Block) (a : Block) (xs : List Block) → out ≡ front ++ (a ∷ []) →
      a.jump ≡ into_jump stays j xs → IsLed ks a.label → MayFall (falls j) out xs
  may_fall Fall out front a xs e k h = record { front = front; block = a; last = e; jump = k; led = h }
  may_fall (Jmp x) out front a xs e k h = tt
  may_fall (Jnz v x y) out front a xs e k h = tt
  may_fall (Ret v) out front a xs e k h = tt
  may_fall Hlt out front a xs e k h = tt

  shift : (front behind : List Block) (a : Block) → (front ++ (a ∷ [])) ++ behind ≡ front ++ (a ∷ behind)
  shift front behind a = append_assoc front (a ∷ []) behind

  -- all that is known at the end holds, where what is known in front of some blocks does
  abbrev AllHold : List Block → Type 0
  AllHold xs = (known : Known) (into : Bool) (out : List Block) → ks ≡ out ++ kept stays xs → Known_hold known →
      MayFall into out xs → ((l : List ℕ) → is_known (wanted_from known into xs) l ≡ true → stays l ≡ true) →
      Known_hold (wanted_from known into xs)

  pub all_hold : (xs : List Block) → AllHold xs
  all_hold [] known into out e on f fits = on
  all_hold (x ∷ xs) known into out e on f fits =
      pick (stays x.label) (is_known known x.label) into refl refl e f fits (all_hold xs)
    where
      -- where the block begins, and control comes to it
      begins : (known' : Known) → Known_hold known' → stays x.label ≡ true → ks ≡ out ++ (whole stays x xs ∷ kept stays xs) →
          IsLed ks x.label →
          ((l : List ℕ) → is_known (wanted_from (with_targets known' x.jump) (falls x.jump) xs) l ≡ true → stays l ≡ true) →
          AllHold xs → Known_hold (wanted_from (with_targets known' x.jump) (falls x.jump) xs)
      begins known' on' s e' h fits' rest =
          rest (with_targets known' x.jump) (falls x.jump) (out ++ (whole stays x xs ∷ []))
          (e' ∙ sym (shift out (kept stays xs) (whole stays x xs)))
          (behind_jump known' x.jump out (kept stays xs) (whole stays x xs) xs on' e' h refl)
          (may_fall x.jump (out ++ (whole stays x xs ∷ [])) out (whole stays x xs) xs refl refl h) fits'

      -- where it is joined to the one in front
      joins : Falling out (x ∷ xs) → stays x.label ≡ false → ks ≡ out ++ kept stays xs →
          ((l : List ℕ) → is_known (wanted_from (with_targets known x.jump) (falls x.jump) xs) l ≡ true → stays l ≡ true) →
          AllHold xs → Known_hold (wanted_from (with_targets known x.jump) (falls x.jump) xs)
      joins a s e' fits' rest =
          let k : a.block.jump ≡ into_jump stays x.jump xs = a.jump ∙ rw s refl in
          let there : ks ≡ a.front ++ (a.block ∷ kept stays xs) =
          e' ∙ ap (λ (ys : List Block). ys ++ kept stays xs) a.last ∙ shift a.front (kept stays xs) a.block in
          rest (with_targets known x.jump) (falls x.jump) out e'
          (behind_jump known x.jump a.front (kept stays xs) a.block xs on there a.led k)
          (may_fall x.jump out a.front a.block xs a.last k a.led) fits'

      fallen : Falling out (x ∷ xs) → stays x.label ≡ true → ks ≡ out ++ (whole stays x xs ∷ kept stays xs) → IsLed ks x.label
      fallen a s e' =
          let k : a.block.jump ≡ Fall = a.jump ∙ rw s refl in
          let there : ks ≡ a.front ++ (a.block ∷ whole stays x xs ∷ kept stays xs) =
          e' ∙ ap (λ (ys : List Block). ys ++ (whole stays x xs ∷ kept stays xs)) a.last
          ∙ shift a.front (whole stays x xs ∷ kept stays xs) a.block in
          falls_in a.front (kept stays xs) a.block (whole stays x xs) there (ap falls k) a.led

      Fits : Bool → Type 0
      Fits i = (l : List ℕ) → is_known (wanted_from known i (x ∷ xs)) l ≡ true → stays l ≡ true

      Goal : Bool → Type 0
      Goal i = Known_hold (wanted_from known i (x ∷ xs))

      pick : (z there i : Bool) → stays x.label ≡ z → is_known known x.label ≡ there → ks ≡ out ++ kept stays (x ∷ xs) →
          MayFall i out (x ∷ xs) → Fits i → AllHold xs → Goal i
      pick true there true s k e' a fits' rest =
          let e1 : ks ≡ out ++ (whole stays x xs ∷ kept stays xs) = rw s at e' in
          begins known on s e1 (fallen a s e1) fits' rest
      pick false there true s k e' a fits' rest =
          let e1 : ks ≡ out ++ kept stays xs = rw s at e' in joins a s e1 fits' rest
      pick true true false s k e' a fits' rest =
          let e1 : ks ≡ out ++ (whole stays x xs ∷ kept stays xs) = rw s at e' in
          let f1 = rw k at fits' in
          rw k (begins known on s e1 (on x.label k).led f1 rest)
      pick false true false s k e' a fits' rest =
          absurd (let f1 : stays x.label ≡ true = fits' x.label (wanted_grows known false (x ∷ xs) x.label k) in cc)
      pick true false false s k e' a fits' rest =
          let e1 : ks ≡ out ++ (whole stays x xs ∷ kept stays xs) = rw s at e' in
          let f1 = rw k at fits' in
          rw k (rest known false (out ++ (whole stays x xs ∷ [])) (e1 ∙ sym (shift out (kept stays xs) (whole stays x xs))) on tt f1)
      pick false false false s k e' a fits' rest =
          let e1 : ks ≡ out ++ kept stays xs = rw s at e' in
          let f1 = rw k at fits' in
          rw k (rest known false out e1 on tt f1)

  closed_hold : (turns : List Block) (known : Known) (bs : List Block) → ks ≡ kept stays bs → Known_hold known →
      ((l : List ℕ) → is_known (closed_from turns known bs) l ≡ true → stays l ≡ true) → Known_hold (closed_from turns known bs)
  closed_hold [] known bs e on fits = on
  closed_hold (t ∷ turns) known bs e on fits = pick (is_closed (is_known known) false bs) fits
      (λ fits'. closed_hold turns (wanted_from known false bs) bs e
      (all_hold bs known false [] e on tt (λ l h. fits' l (closed_grows turns (wanted_from known false bs) bs l h))) fits')
    where
      pick : (z : Bool) →
          ((l : List ℕ) → is_known (if z then known else closed_from turns (wanted_from known false bs) bs) l ≡ true → stays l ≡ true) →
          (((l : List ℕ) → is_known (closed_from turns (wanted_from known false bs) bs) l ≡ true → stays l ≡ true) →
          Known_hold (closed_from turns (wanted_from known false bs) bs)) →
          Known_hold (if z then known else closed_from turns (wanted_from known false bs) bs)
      pick true fits' rest = on
      pick false fits' rest = rest fits'

-- ---- a function

all_at : (q : Block → Bool) (front behind : List Block) (b : Block) → list_all q (front ++ (b ∷ behind)) ≡ true → q b ≡ true
all_at q [] behind b h = (and_parts (q b) (list_all q behind) h).0
all_at q (x ∷ front) behind b h = all_at q front behind b (and_parts (q x) _ h).1

kept_led : (b : Block) (bs : List Block) → AreLed (kept (staying (b ∷ bs)) (b ∷ bs))
kept_led b bs =
    record {
      led = λ front behind x e. (at x.label (all_at (λ (y : Block). stays y.label) front behind x (subst (λ (ys : List Block).
          list_all (λ (y : Block). stays y.label) ys ≡ true) e (stays_kept stays (b ∷ bs))))).led;
      named = λ front behind f x e. elim (at x.label (all_at (λ (y : Block). stays y.label) (f ∷ front) behind x (subst (λ (ys : List Block).
          list_all (λ (y : Block). stays y.label) ys ≡ true) e (stays_kept stays (b ∷ bs))))).named [
            | inr y ↦ inr y
            | inl y ↦ inl (y ∙ heads e)
          ];
    }
  where
    stays : List ℕ → Bool
    stays = staying (b ∷ bs)

    ks : List Block
    ks = kept stays (b ∷ bs)

    is : ks ≡ whole stays b bs ∷ kept stays bs
    is = let s = staying_first (b ∷ bs) in rw s refl

    front_label : List Block → List ℕ
    front_label [] = []
    front_label (x ∷ xs) = x.label

    heads : {f : Block} {ys : List Block} → ks ≡ f ∷ ys → b.label ≡ f.label
    heads e = ap front_label (sym is ∙ e)

    begins : Holds b.label stays ks b.label
    begins = record { led = starts (whole stays b bs) (kept stays bs) is; named = inl refl }

    one : (l : List ℕ) → is_known (with_name [] b.label) l ≡ true → Holds b.label stays ks l
    one l h = elim (named_added l [] b.label h) [ inl x ↦ cc | inr x ↦ subst (Holds b.label stays ks) (same_name b.label l x) begins ]

    known : Known
    known = wanted_from (with_name [] b.label) false (b ∷ bs)

    first : (l : List ℕ) → is_known known l ≡ true → Holds b.label stays ks l
    first = all_hold b.label stays ks (b ∷ bs) (with_name [] b.label) false [] refl one tt
        (λ l h. closed_grows (b ∷ bs) known (b ∷ bs) l h)

    at : (l : List ℕ) → stays l ≡ true → Holds b.label stays ks l
    at l h = closed_hold b.label stays ks (b ∷ bs) known (b ∷ bs) refl first (λ x k. k) l h

-- ---- the last block

-- blocks whose jumps name labels that stay name no other
module _ (stays : List ℕ → Bool) (l : List ℕ) (n : stays l ≡ false) where
  other : (a : List ℕ) → stays a ≡ true → bytes_eq a l ≡ false
  other a s = pick (bytes_eq a l) refl
    where
      pick : (z : Bool) → bytes_eq a l ≡ z → bytes_eq a l ≡ false
      pick true e = absurd (let q = ap stays (same_name a l e) in cc)
      pick false e = e

  not_named : (j : Jump) → targets_pass stays j ≡ true → names j l ≡ false
  not_named Fall h = refl
  not_named (Jmp a) h = other a h
  not_named (Jnz v a b) h =
      let k = and_parts (stays a) (stays b) h in
      let x = other a k.0 in
      let y = other b k.1 in
      rw (x, y) refl
  not_named (Ret v) h = refl
  not_named Hlt h = refl

  none_named : (bs : List Block) → list_all (λ (b : Block). targets_pass stays b.jump) bs ≡ true → is_named bs l ≡ false
  none_named [] h = refl
  none_named (b ∷ bs) h =
      let k = and_parts (targets_pass stays b.jump) _ h in
      let x = not_named b.jump k.0 in
      let y = none_named bs k.1 in
      rw (x, y) refl

unset_is : (params : List IlParam) (b : Block) (bs : List Block) →
    AreUnset (kept (staying (b ∷ bs)) (b ∷ bs)) (unset params (staying (b ∷ bs)) (b ∷ bs))
unset_is params b bs = pick (stops false (b ∷ bs)) (keeps_settings stays false (b ∷ bs)) refl
  where
    stays : List ℕ → Bool
    stays = staying (b ∷ bs)

    ks : List Block
    ks = kept stays (b ∷ bs)

    ended : stops false (b ∷ bs) ≡ true → ends ks ≡ true
    ended h =
        let s = staying_first (b ∷ bs) in
        rw s (whole_ends stays b bs (ends_stops b bs false h))

    staying_not : (l : List ℕ) → not (stays l) ≡ true → stays l ≡ false
    staying_not l k = by (stays l) refl
      where
        by : (z : Bool) → stays l ≡ z → stays l ≡ false
        by true e = absurd (let r : false ≡ true = sym (ap not e) ∙ k in cc)
        by false e = e

    make : (ds : List Block) (is : List Inst) → Apart stays ds → AllByRecursion IsZero is → ends ks ≡ true →
        AreUnset ks (last_block ds is)
    make [] is a z e = no_block
    make (d ∷ ds) [] a z e = no_block
    make (d ∷ ds) (i ∷ is) a z e = one_block (record { label = d.label; phis = []; insts = i ∷ is; jump = Hlt }) (record {
      ended = e;
      apart = none_named stays d.label
          (staying_not d.label (and_parts (not (stays d.label)) (list_all (λ (x : Block). not (stays x.label)) ds) a).0) ks
          (targets_kept stays false (b ∷ bs) (staying_closed (b ∷ bs)));
      plain = refl;
      settings = z;
      halts = refl;
    })

    ds : List Block
    ds = dropped stays false (b ∷ bs)

    pick : (z k : Bool) → stops false (b ∷ bs) ≡ z → AreUnset ks (if z && not k
        then last_block ds (all_lacking (read_by stays (b ∷ bs)) (set_by params stays (b ∷ bs)) ds)
        else [])
    pick true true e = no_block
    pick true false e = make ds _ (dropped_apart stays false (b ∷ bs))
        (all_zeros (read_by stays (b ∷ bs)) (set_by params stays (b ∷ bs)) ds) (ended e)
    pick false k e = no_block

no_led : AreLed []
no_led = record { led = λ front behind x e. absurd (nothing front behind x e); named = λ front behind f x e. cc }
  where
    nothing : (front behind : List Block) (x : Block) → [] ≡ front ++ (x ∷ behind) → ⊥
    nothing [] behind x e = cc
    nothing (y ∷ front) behind x e = cc

pub tight_is_tight : (params : List IlParam) (bs : List Block) → IsTight (tight params bs)
tight_is_tight params [] = record { reached = []; behind = []; all = refl; led = no_led; unset = no_block }
tight_is_tight params (b ∷ bs) = record {
  reached = kept (staying (b ∷ bs)) (b ∷ bs);
  behind = unset params (staying (b ∷ bs)) (b ∷ bs);
  all = tight_is params (b ∷ bs);
  led = kept_led b bs;
  unset = unset_is params b bs;
}

pub all_tight : (items : List IlItem) → AllByRecursion ItemIsTight (map tight_item items)
all_tight [] = tt
all_tight (Data export name align parts ∷ items) = (tt, all_tight items)
all_tight (Function export class name params blocks ∷ items) = (tight_is_tight params blocks, all_tight items)
