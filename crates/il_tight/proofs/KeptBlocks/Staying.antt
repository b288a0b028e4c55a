-- The labels that stay: what is known stays known, and jumps of what stays name only labels that do.
use Rattle.std.proofs.Common.{◌≡◌, ℕ, ◌+◌, ◌≤◌, Bool, true, false, cond, not, ◌&&◌, ◌||◌, List, [], ◌∷◌, length, Option, None, Some, refl, ap, ◌∙◌, arith}
use Rattle.std.specs.Prelude.{count_by, is_some, if◌then◌else◌}
use Rattle.std.proofs.lemmas.Bool.{and_parts}
use Rattle.std.proofs.lemmas.List.Sums.{sum_by-append}
use Rattle.hx_base.specs.Runtime.{lookup}
use Rattle.hx_table.proofs.TableLemmas.{bytes_eq-same, lookup-with_entry}
use Rattle.il_code.specs.declared.types.Block.{Block}
use Rattle.il_code.specs.declared.types.Jump.{Jump}
use Rattle.il_code.specs.declared.types.Jump.TheVariants.{Fall, Jmp, Jnz, Ret, Hlt}
use Rattle.il_code.specs.Rules.{targets_pass}
use Rattle.il_code.specs.Shaped.{falls}
use Rattle.il_tight.specs.Tight.{Known, is_known, with_name, with_targets, wanted_from, closed_from, is_closed, staying}

-- the first block stays
abbrev pub first_stays : (List ℕ → Bool) → List Block → Bool
first_stays stays [] = true
first_stays stays (first ∷ rest) = stays first.label

-- all that is known here is known there
abbrev pub Grows : Known → Known → Type 0
Grows known known' = (l : List ℕ) → is_known known l ≡ true → is_known known' l ≡ true

-- ---- what is known stays known

pub name_grows : (known : Known) (n : List ℕ) → Grows known (with_name known n)
name_grows known n l h = pick (lookup l known) refl
  where
    pick : (o : Option (Unit {0})) → lookup l known ≡ o → is_known (with_name known n) l ≡ true
    pick (Some u) e = ap is_some (lookup-with_entry l known n tt) ∙ rw e refl
    pick None e = absurd (let k : is_known known l ≡ false = ap is_some e in cc)

pub targets_grow : (known : Known) (j : Jump) → Grows known (with_targets known j)
targets_grow known Fall l h = h
targets_grow known (Jmp a) l h = name_grows known a l h
targets_grow known (Jnz v a b) l h = name_grows (with_name known a) b l (name_grows known a l h)
targets_grow known (Ret v) l h = h
targets_grow known Hlt l h = h

pub wanted_grows : (known : Known) (into : Bool) (bs : List Block) → Grows known (wanted_from known into bs)
wanted_grows known into [] l h = h
wanted_grows known into (b ∷ bs) l h =
    pick (into || is_known known b.label)
    (wanted_grows (with_targets known b.jump) (falls b.jump) bs l (targets_grow known b.jump l h)) (wanted_grows known false bs l h)
  where
    pick : (z : Bool) → is_known (wanted_from (with_targets known b.jump) (falls b.jump) bs) l ≡ true →
        is_known (wanted_from known false bs) l ≡ true →
        is_known (if z then wanted_from (with_targets known b.jump) (falls b.jump) bs else wanted_from known false bs) l ≡ true
    pick true on off = on
    pick false on off = off

pub closed_grows : (turns : List Block) (known : Known) (bs : List Block) → Grows known (closed_from turns known bs)
closed_grows [] known bs l h = h
closed_grows (t ∷ turns) known bs l h =
    pick (is_closed (is_known known) false bs)
    (closed_grows turns (wanted_from known false bs) bs l (wanted_grows known false bs l h))
  where
    pick : (z : Bool) → is_known (closed_from turns (wanted_from known false bs) bs) l ≡ true →
        is_known (if z then known else closed_from turns (wanted_from known false bs) bs) l ≡ true
    pick true on = h
    pick false on = on

-- ---- what is named is known

pub name_known : (known : Known) (n : List ℕ) → is_known (with_name known n) n ≡ true
name_known known n = pick (lookup n known) refl
  where
    pick : (o : Option (Unit {0})) → lookup n known ≡ o → is_known (with_name known n) n ≡ true
    pick (Some u) e = ap is_some (lookup-with_entry n known n tt) ∙ rw e refl
    pick None e = let s = bytes_eq-same n in ap is_some (lookup-with_entry n known n tt) ∙ rw (e, s) refl

both : (a b : Bool) → a ≡ true → b ≡ true → (a && b) ≡ true
both a b h k = rw (h, k) refl

targets_known : (known : Known) (j : Jump) → targets_pass (is_known (with_targets known j)) j ≡ true
targets_known known Fall = refl
targets_known known (Jmp a) = name_known known a
targets_known known (Jnz v a b) =
    both _ _ (name_grows (with_name known a) b a (name_known known a)) (name_known (with_name known a) b)
targets_known known (Ret v) = refl
targets_known known Hlt = refl

targets_more : (known known' : Known) → Grows known known' → (j : Jump) → targets_pass (is_known known) j ≡ true →
    targets_pass (is_known known') j ≡ true
targets_more known known' on Fall h = refl
targets_more known known' on (Jmp a) h = on a h
targets_more known known' on (Jnz v a b) h =
    let k = and_parts (is_known known a) (is_known known b) h in both _ _ (on a k.0) (on b k.1)
targets_more known known' on (Ret v) h = refl
targets_more known known' on Hlt h = refl

-- ---- how many jumps name a label that is not known

abbrev is_open : Known → Block → Bool
is_open known b = not (targets_pass (is_known known) b.jump)

abbrev weight : Bool → ℕ
weight b = cond b 1 0

abbrev opens : Known → List Block → ℕ
opens known bs = count_by (is_open known) bs

opens_cons : (known : Known) (b : Block) (bs : List Block) → opens known (b ∷ bs) ≡ weight (is_open known b) + opens known bs
opens_cons known b bs = sum_by-append (λ (x : Block). weight (is_open known x)) (b ∷ []) bs ∙ omega arith

weight_few : (x : Bool) → weight x ≤ 1
weight_few true = omega arith
weight_few false = omega arith

opens_length : (known : Known) (bs : List Block) → opens known bs ≤ length bs
opens_length known [] = omega arith
opens_length known (b ∷ bs) = omega (arith, opens_cons known b bs, weight_few (is_open known b), opens_length known bs)

weight_passed : (known : Known) (b : Block) → targets_pass (is_known known) b.jump ≡ true → weight (is_open known b) ≡ 0
weight_passed known b h = ap (λ (x : Bool). weight (not x)) h

weight_less : (known known' : Known) → Grows known known' → (b : Block) → weight (is_open known' b) ≤ weight (is_open known b)
weight_less known known' on b = pick (targets_pass (is_known known) b.jump) refl
  where
    pick : (z : Bool) → targets_pass (is_known known) b.jump ≡ z → weight (is_open known' b) ≤ weight (is_open known b)
    pick true e = omega (arith, weight_passed known' b (targets_more known known' on b.jump e))
    pick false e =
        let w : weight (is_open known b) ≡ 1 = ap (λ (x : Bool). weight (not x)) e in
        omega (arith, w, weight_few (is_open known' b))

opens_less : (known known' : Known) → Grows known known' → (bs : List Block) → opens known' bs ≤ opens known bs
opens_less known known' on [] = omega arith
opens_less known known' on (b ∷ bs) =
    omega (arith, opens_cons known b bs, opens_cons known' b bs, weight_less known known' on b, opens_less known known' on bs)

left : (a b : Bool) → a ≡ true → (a || b) ≡ true
left a b h = rw h refl

right : (a b : Bool) → b ≡ true → (a || b) ≡ true
right true b h = refl
right false b h = h

-- where a jump of what stays names a label that is not known, fewer do once blocks were gone through
module _ (first : Known) where
  abbrev Fewer : (known : Known) (into into' : Bool) → List Block → Type 0
  Fewer known into into' bs =
      Grows first known → (into ≡ true → into' ≡ true) → is_closed (is_known first) into bs ≡ false →
      1 + opens (wanted_from known into' bs) bs ≤ opens first bs

  fewer : (bs : List Block) (known : Known) (into into' : Bool) → Fewer known into into' bs
  fewer [] known into into' on at h = cc
  fewer (b ∷ bs) known into into' on at h =
      pick (into || is_known first b.label) (into' || is_known known b.label) refl refl (λ k i i'. fewer bs k i i')
    where
      Rest : Type 0
      Rest = (k : Known) (i i' : Bool) → Fewer k i i' bs

      grown : (k : Known) (i : Bool) → Grows first k → Grows first (wanted_from k i bs)
      grown k i more l e = wanted_grows k i bs l (more l e)

      named : Grows first (with_targets known b.jump)
      named l e = targets_grow known b.jump l (on l e)

      -- where control comes to the block
      here : Rest → (targets_pass (is_known first) b.jump && is_closed (is_known first) (falls b.jump) bs) ≡ false →
          1 + opens (wanted_from (with_targets known b.jump) (falls b.jump) bs) (b ∷ bs) ≤ opens first (b ∷ bs)
      here rest e = by (targets_pass (is_known first) b.jump) refl
        where
          last : Known
          last = wanted_from (with_targets known b.jump) (falls b.jump) bs

          passed : weight (is_open last b) ≡ 0
          passed = weight_passed last b (targets_more (with_targets known b.jump) last
              (wanted_grows (with_targets known b.jump) (falls b.jump) bs) b.jump (targets_known known b.jump))

          by : (z : Bool) → targets_pass (is_known first) b.jump ≡ z → 1 + opens last (b ∷ bs) ≤ opens first (b ∷ bs)
          by true f =
              let e' : is_closed (is_known first) (falls b.jump) bs ≡ false = rw f at e in
              omega (
                arith,
                passed,
                opens_cons last b bs,
                opens_cons first b bs,
                rest (with_targets known b.jump) (falls b.jump) (falls b.jump) named (λ x. x) e',
              )
          by false f =
              let w : weight (is_open first b) ≡ 1 = ap (λ (x : Bool). weight (not x)) f in
              omega (
                arith,
                w,
                passed,
                opens_cons last b bs,
                opens_cons first b bs,
                opens_less first last (grown (with_targets known b.jump) (falls b.jump) named) bs,
              )

      -- where it does not, but did when blocks were gone through
      behind : (k : Known) (i : Bool) → Grows first k → Rest → is_closed (is_known first) false bs ≡ false →
          1 + opens (wanted_from k i bs) (b ∷ bs) ≤ opens first (b ∷ bs)
      behind k i more rest e = omega (
        arith,
        opens_cons (wanted_from k i bs) b bs,
        opens_cons first b bs,
        weight_less first (wanted_from k i bs) (grown k i more) b,
        rest k false i more (λ x. cc) e,
      )

      comes : (into || is_known first b.label) ≡ true → (into' || is_known known b.label) ≡ true
      comes e = by into refl e
        where
          by : (z : Bool) → into ≡ z → (z || is_known first b.label) ≡ true → (into' || is_known known b.label) ≡ true
          by true f e' = left into' _ (at f)
          by false f e' = right into' _ (on b.label e')

      pick : (z z' : Bool) → (into || is_known first b.label) ≡ z → (into' || is_known known b.label) ≡ z' → Rest →
          1 + opens (if z' then wanted_from (with_targets known b.jump) (falls b.jump) bs else wanted_from known false bs) (b ∷ bs) ≤
          opens first (b ∷ bs)
      pick true true e f rest = let h' = rw e at h in here rest h'
      pick true false e f rest = absurd (let k = comes e in cc)
      pick false true e f rest = let h' = rw e at h in behind (with_targets known b.jump) (falls b.jump) named rest h'
      pick false false e f rest = let h' = rw e at h in behind known false on rest h'

-- ---- jumps of what stays name only labels that do

none_open : (known : Known) (into : Bool) (bs : List Block) → opens known bs ≤ 0 → is_closed (is_known known) into bs ≡ true
none_open known into [] h = refl
none_open known into (b ∷ bs) h =
    pick (into || is_known known b.label) (targets_pass (is_known known) b.jump) refl
    (none_open known (falls b.jump) bs (omega (arith, h, opens_cons known b bs)))
    (none_open known false bs (omega (arith, h, opens_cons known b bs)))
  where
    pick : (z y : Bool) → targets_pass (is_known known) b.jump ≡ y → is_closed (is_known known) (falls b.jump) bs ≡ true →
        is_closed (is_known known) false bs ≡ true →
        (if z then targets_pass (is_known known) b.jump && is_closed (is_known known) (falls b.jump) bs
        else is_closed (is_known known) false bs) ≡ true
    pick true true e on off = both _ _ e on
    pick true false e on off =
        absurd (let w : weight (is_open known b) ≡ 1 = ap (λ (x : Bool). weight (not x)) e in omega (arith, w, h, opens_cons known b bs))
    pick false y e on off = off

closes : (turns : List Block) (known : Known) (bs : List Block) → opens known bs ≤ length turns →
    is_closed (is_known (closed_from turns known bs)) false bs ≡ true
closes [] known bs h = none_open known false bs h
closes (t ∷ turns) known bs h = pick (is_closed (is_known known) false bs) refl
    (λ k. closes turns (wanted_from known false bs) bs k)
  where
    pick : (z : Bool) → is_closed (is_known known) false bs ≡ z →
        (opens (wanted_from known false bs) bs ≤ length turns →
        is_closed (is_known (closed_from turns (wanted_from known false bs) bs)) false bs ≡ true) →
        is_closed (is_known (if z then known else closed_from turns (wanted_from known false bs) bs)) false bs ≡ true
    pick true e on = e
    pick false e on = on (omega (arith, h, fewer known bs known false false (λ l k. k) (λ x. x) e))

pub staying_first : (bs : List Block) → first_stays (staying bs) bs ≡ true
staying_first [] = refl
staying_first (b ∷ bs) =
    closed_grows (b ∷ bs) (wanted_from (with_name [] b.label) false (b ∷ bs)) (b ∷ bs) b.label
    (wanted_grows (with_name [] b.label) false (b ∷ bs) b.label (name_known [] b.label))

pub staying_closed : (bs : List Block) → is_closed (staying bs) false bs ≡ true
staying_closed [] = refl
staying_closed (b ∷ bs) =
    let known = wanted_from (with_name [] b.label) false (b ∷ bs) in
    closes (b ∷ bs) known (b ∷ bs) (opens_length known (b ∷ bs))
