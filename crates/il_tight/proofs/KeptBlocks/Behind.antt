-- What stands behind the blocks that stay.
use Rattle.std.proofs.Common.{◌≡◌, ℕ, Bool, true, false, not, ◌&&◌, ◌||◌, List, [], ◌∷◌, ◌++◌, None, Some, refl, sym, ap, ◌∙◌}
use Rattle.std.specs.Prelude.{bytes_eq, if◌then◌else◌}
use Rattle.std.specs.List.{list_all, AllByRecursion}
use Rattle.std.proofs.lemmas.Bool.{and_parts}
use Rattle.hx_base.specs.declared.Class.{Class}
use Rattle.hx_table.proofs.TableLemmas.{same_name}
use Rattle.il_code.specs.declared.types.Block.{Block}
use Rattle.il_code.specs.declared.types.IlParam.{IlParam}
use Rattle.il_code.specs.declared.types.Inst.{Inst}
use Rattle.il_code.specs.declared.types.Inst.TheVariants.{Set, Store, Blit, Call}
use Rattle.il_code.specs.declared.types.Jump.TheVariants.{Hlt}
use Rattle.il_code.specs.Shaped.{ends, falls}
use Rattle.il_code.specs.State.{blocks_from}
use Rattle.il_tight.specs.Tight.{Known, is_known, with_setting, with_settings, dropped, keeps_settings, zero, lacking_one, lacking_at, lacking, all_lacking, read_by, set_by, stops, last_block, unset}
use Rattle.il_tight.specs.Tightness.{IsZero, sets_zero}

abbrev pub no_blocks : List Block → Bool
no_blocks [] = true
no_blocks (b ∷ bs) = false

-- control does not fall into what stands behind: there is nothing, or it does not fall out of the blocks in front
abbrev pub Sealed : (tail : List Block) → (stopped : Bool) → List Block → Type 0
Sealed tail stopped bs = (no_blocks tail || stops stopped bs) ≡ true

pub or_true : (a : Bool) → (a || true) ≡ true
or_true true = refl
or_true false = refl

-- the label of no block stays
abbrev pub Apart : (List ℕ → Bool) → List Block → Type 0
Apart stays bs = list_all (λ (b : Block). not (stays b.label)) bs ≡ true

pub dropped_apart : (stays : List ℕ → Bool) (into : Bool) (bs : List Block) → Apart stays (dropped stays into bs)
dropped_apart stays into [] = refl
dropped_apart stays into (b ∷ bs) =
    pick into (stays b.label) refl (dropped_apart stays (falls b.jump) bs) (dropped_apart stays false bs)
  where
    pick : (i z : Bool) → stays b.label ≡ z → Apart stays (dropped stays (falls b.jump) bs) → Apart stays (dropped stays false bs) →
        Apart stays (if i || z then dropped stays (falls b.jump) bs else b ∷ dropped stays false bs)
    pick true z e on off = on
    pick false true e on off = on
    pick false false e on off = let k : not (stays b.label) ≡ true = ap not e in rw k off

last_apart : (stays : List ℕ → Bool) (ds : List Block) (is : List Inst) → Apart stays ds → Apart stays (last_block ds is)
last_apart stays [] is h = refl
last_apart stays (d ∷ ds) [] h = refl
last_apart stays (d ∷ ds) (i ∷ is) h =
    let k = (and_parts (not (stays d.label)) (list_all (λ (b : Block). not (stays b.label)) ds) h).0 in rw k refl

pub unset_apart : (params : List IlParam) (stays : List ℕ → Bool) (bs : List Block) → Apart stays (unset params stays bs)
unset_apart params stays bs =
    pick (stops false bs && not (keeps_settings stays false bs))
  where
    set : List Block
    set = last_block (dropped stays false bs) (all_lacking (read_by stays bs) (set_by params stays bs) (dropped stays false bs))

    pick : (z : Bool) → Apart stays (if z then set else [])
    pick true = last_apart stays (dropped stays false bs) _ (dropped_apart stays false bs)
    pick false = refl

pub unset_sealed : (params : List IlParam) (stays : List ℕ → Bool) (bs : List Block) → Sealed (unset params stays bs) false bs
unset_sealed params stays bs = pick (stops false bs) (keeps_settings stays false bs)
  where
    set : List Block
    set = last_block (dropped stays false bs) (all_lacking (read_by stays bs) (set_by params stays bs) (dropped stays false bs))

    pick : (z k : Bool) → (no_blocks (if z && not k then set else []) || z) ≡ true
    pick true k = or_true (no_blocks (if not k then set else []))
    pick false k = refl

-- no label that stays is found there
pub from_apart : (stays : List ℕ → Bool) (x : List ℕ) → stays x ≡ true → (bs : List Block) → Apart stays bs → blocks_from x bs ≡ []
from_apart stays x s [] h = refl
from_apart stays x s (b ∷ bs) h =
    let k = and_parts (not (stays b.label)) (list_all (λ (y : Block). not (stays y.label)) bs) h in
    pick (bytes_eq b.label x) refl k.0 (from_apart stays x s bs k.1)
  where
    pick : (z : Bool) → bytes_eq b.label x ≡ z → not (stays b.label) ≡ true → blocks_from x bs ≡ [] → blocks_from x (b ∷ bs) ≡ []
    pick true e n on = absurd (let r : false ≡ true = sym (ap not (ap stays (same_name b.label x e) ∙ s)) ∙ n in cc)
    pick false e n on = rw e on

pub stops_ends : (b : Block) (bs : List Block) (stopped : Bool) → ends (b ∷ bs) ≡ true → stops stopped (b ∷ bs) ≡ true
stops_ends b [] stopped h = h
stops_ends b (c ∷ bs) stopped h = stops_ends c bs (not (falls b.jump)) h

pub ends_stops : (b : Block) (bs : List Block) (stopped : Bool) → stops stopped (b ∷ bs) ≡ true → ends (b ∷ bs) ≡ true
ends_stops b [] stopped h = h
ends_stops b (c ∷ bs) stopped h = ends_stops c bs (not (falls b.jump)) h

-- ---- they are settings

zeros_append : (xs ys : List Inst) → AllByRecursion IsZero xs → AllByRecursion IsZero ys → AllByRecursion IsZero (xs ++ ys)
zeros_append [] ys h k = k
zeros_append (x ∷ xs) ys h k = (h.0, zeros_append xs ys h.1 k)

module _ (read : Known) where
  one_zero : (set : Known) (n : List ℕ) (k : Class) → AllByRecursion IsZero (lacking_one read set n k)
  one_zero set n k = pick (is_known read n && not (is_known set n))
    where
      pick : (z : Bool) → AllByRecursion IsZero (if z then zero n k ∷ [] else [])
      pick true = (sets_zero n k, tt)
      pick false = tt

  at_zeros : (set : Known) (i : Inst) → AllByRecursion IsZero (lacking_at read set i)
  at_zeros set (Set temp class op a b) = one_zero set temp class
  at_zeros set (Store width v at) = tt
  at_zeros set (Blit from to bytes) = tt
  at_zeros set (Call None target args) = tt
  at_zeros set (Call (Some r) target args) = one_zero set r.name r.class

  each_zeros : (set : Known) (is : List Inst) → AllByRecursion IsZero (lacking read set is)
  each_zeros set [] = tt
  each_zeros set (i ∷ is) = zeros_append (lacking_at read set i) _ (at_zeros set i) (each_zeros (with_setting set i) is)

  pub all_zeros : (set : Known) (ds : List Block) → AllByRecursion IsZero (all_lacking read set ds)
  all_zeros set [] = tt
  all_zeros set (d ∷ ds) = zeros_append (lacking read set d.insts) _ (each_zeros set d.insts) (all_zeros (with_settings set d.insts) ds)

-- a block of settings, out of which control does not fall
abbrev pub IsZeros : Block → Type 0
IsZeros b = (b.jump ≡ Hlt) × AllByRecursion IsZero b.insts

pub unset_zeros : (params : List IlParam) (stays : List ℕ → Bool) (bs : List Block) → AllByRecursion IsZeros (unset params stays bs)
unset_zeros params stays bs = pick (stops false bs && not (keeps_settings stays false bs))
  where
    one : (ds : List Block) (is : List Inst) → AllByRecursion IsZero is → AllByRecursion IsZeros (last_block ds is)
    one [] is z = tt
    one (d ∷ ds) [] z = tt
    one (d ∷ ds) (i ∷ is) z = ((refl, z), tt)

    pick : (z : Bool) → AllByRecursion IsZeros (if z
        then last_block (dropped stays false bs) (all_lacking (read_by stays bs) (set_by params stays bs) (dropped stays false bs))
        else [])
    pick true = one (dropped stays false bs) _ (all_zeros (read_by stays bs) (set_by params stays bs) (dropped stays false bs))
    pick false = tt

-- what holds of every setting, holds of all of theirs
module _ (P : Inst → Type 0) (on : (n : List ℕ) (k : Class) → P (zero n k)) where
  pub zero_holds : (i : Inst) → IsZero i → P i
  zero_holds _ (sets_zero n k) = on n k
