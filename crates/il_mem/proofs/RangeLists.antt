-- Lists of ranges in the order of their addresses.
use Rattle.std.proofs.Common.{◌≡◌, ◌≢◌, ℕ, ◌+◌, ◌^◌, ◌<◌, ◌≤◌, Bool, true, false, ◌&&◌, ◌||◌, List, [], ◌∷◌, ◌++◌, refl, sym, ap, ◌∙◌, subst, arith, ◌⊎◌, inl, inr}
use Rattle.std.specs.Prelude.{not, filter, slice_index_or, IsSome, nat_eq, nat_le, nat_lt, if◌then◌else◌}
use Rattle.std.specs.List.{All}
use Rattle.std.proofs.lemmas.List.Elements.{All-nil, All-cons, All-tail}
use Rattle.hx_base.proofs.Memory.Ranges.{Inside, inside, outside, inside_of}
use Rattle.std.specs.Ordering.{nat_cmp}
use Rattle.std.specs.Map.{lookup, remove_entry}
use Rattle.std.specs.BTreeMap.{insert_entry, is_at}
use Rattle.std.specs.BTreeMap.Range.{range_contains}
use Rattle.std.specs.declared.ops.Bound.TheVariants.{Unbounded, Included}
use Rattle.std.proofs.lemmas.Bool.Decides.{nat_tests}
use Rattle.hx_base.specs.Memory.{in_range}
use Rattle.il_mem.specs.Kept.{range_has, covers, IsWhole}
use Rattle.il_mem.specs.Laid.{are_laid}

-- ---- what the order says

-- the parts of the test
pub record Laid (low : ℕ) (r : ℕ × ℕ) (rs : List (ℕ × ℕ)) : Type 0 where
  pub from : low ≤ r.0
  pub some : r.0 < r.1
  pub short : r.1 < 2 ^ 64
  pub rest : are_laid r.1 rs ≡ true

pub laid_parts : (low : ℕ) (r : ℕ × ℕ) (rs : List (ℕ × ℕ)) → are_laid low (r ∷ rs) ≡ true → Laid low r rs
laid_parts low r rs h = pick (nat_le low r.0) (nat_lt r.0 r.1) (nat_lt r.1 (2 ^ 64)) refl refl refl h
  where
    pick : (b c d : Bool) → nat_le low r.0 ≡ b → nat_lt r.0 r.1 ≡ c → nat_lt r.1 (2 ^ 64) ≡ d → (b && c && d && are_laid r.1 rs) ≡ true →
        Laid low r rs
    pick true true true e f g h = record {
      from = grind (arith, nat_tests);
      some = grind (arith, nat_tests);
      short =
          grind (arith, nat_tests);
      rest = h;
    }
    pick true true false e f g h = cc
    pick true false d e f g h = cc
    pick false c d e f g h = cc

pub laid_from : (low : ℕ) (r : ℕ × ℕ) (rs : List (ℕ × ℕ)) → Laid low r rs → are_laid low (r ∷ rs) ≡ true
laid_from low r rs h = pick (nat_le low r.0) (nat_lt r.0 r.1) (nat_lt r.1 (2 ^ 64)) refl refl refl
  where
    pick : (b c d : Bool) → nat_le low r.0 ≡ b → nat_lt r.0 r.1 ≡ c → nat_lt r.1 (2 ^ 64) ≡ d → (b && c && d && are_laid r.1 rs) ≡ true
    pick true true true e f g = h.rest
    pick true true false e f g = absurd (let s = h.short in grind (arith, nat_tests))
    pick true false d e f g = absurd (let s = h.some in grind (arith, nat_tests))
    pick false c d e f g = absurd (let s = h.from in grind (arith, nat_tests))

-- what is in order from an address on is so from each below
pub laid_lower : (low low' : ℕ) (rs : List (ℕ × ℕ)) → low' ≤ low → are_laid low rs ≡ true → are_laid low' rs ≡ true
laid_lower low low' [] h l = refl
laid_lower low low' (r ∷ rs) h l =
    let p = laid_parts low r rs l in
    laid_from low' r rs (record { from = omega (arith, h, p.from); some = p.some; short = p.short; rest = p.rest })

-- ---- whether a range has an address

has_yes : (a : ℕ) (r : ℕ × ℕ) → r.0 ≤ a → a < r.1 → range_has a r ≡ true
has_yes a r l u = pick (nat_le r.0 a) (nat_lt a r.1) refl refl
  where
    pick : (b c : Bool) → nat_le r.0 a ≡ b → nat_lt a r.1 ≡ c → (b && c) ≡ true
    pick true true e f = refl
    pick true false e f = absurd (grind (arith, nat_tests))
    pick false c e f = absurd (grind (arith, nat_tests))

pub has_no : (a : ℕ) (r : ℕ × ℕ) → (a < r.0) ⊎ (r.1 ≤ a) → range_has a r ≡ false
has_no a r h = pick (nat_le r.0 a) (nat_lt a r.1) refl refl h
  where
    pick : (b c : Bool) → nat_le r.0 a ≡ b → nat_lt a r.1 ≡ c → (a < r.0) ⊎ (r.1 ≤ a) → (b && c) ≡ false
    pick true true e f (inl x) = absurd (grind (arith, nat_tests))
    pick true true e f (inr x) = absurd (grind (arith, nat_tests))
    pick true false e f h = refl
    pick false c e f h = refl

-- an address of the first range
pub covers-first : (a : ℕ) (r : ℕ × ℕ) (rs : List (ℕ × ℕ)) → r.0 ≤ a → a < r.1 → covers (r ∷ rs) a ≡ true
covers-first a r rs l u = let e = has_yes a r l u in rw e refl

-- any other
pub covers-rest : (a : ℕ) (r : ℕ × ℕ) (rs : List (ℕ × ℕ)) → (a < r.0) ⊎ (r.1 ≤ a) → covers (r ∷ rs) a ≡ covers rs a
covers-rest a r rs h = let e = has_no a r h in rw e refl

-- nothing below is covered
pub covers-below : (low a : ℕ) (rs : List (ℕ × ℕ)) → are_laid low rs ≡ true → a < low → covers rs a ≡ false
covers-below low a [] h l = refl
covers-below low a (r ∷ rs) h l =
    let p = laid_parts low r rs h in
    covers-rest a r rs (inl (omega (arith, p.from, l))) ∙ covers-below r.1 a rs p.rest (omega (arith, p.from, p.some, l))

-- nor is the last address that a host's word has, or any above
pub covers-above : (low a : ℕ) (rs : List (ℕ × ℕ)) → are_laid low rs ≡ true → 2 ^ 64 ≤ a + 1 → covers rs a ≡ false
covers-above low a [] h l = refl
covers-above low a (r ∷ rs) h l =
    let p = laid_parts low r rs h in
    covers-rest a r rs (inr (omega (arith, p.short, l))) ∙ covers-above r.1 a rs p.rest l

-- ---- the last range that begins at an address or below it

begins_by : (at s : ℕ) → range_contains nat_cmp Unbounded (Included at) s ≡ nat_le s at
begins_by at s = pick (nat_lt at s) (nat_eq at s) (nat_le s at) refl refl refl
  where
    pick : (b c d : Bool) → nat_lt at s ≡ b → nat_eq at s ≡ c → nat_le s at ≡ d →
        range_contains nat_cmp Unbounded (Included at) s ≡ nat_le s at
    pick true c true e f g = absurd (grind (arith, nat_tests))
    pick true c false e f g = rw (e, g) refl
    pick false true true e f g = rw (e, f, g) refl
    pick false true false e f g = absurd (grind (arith, nat_tests))
    pick false false true e f g = rw (e, f, g) refl
    pick false false false e f g = absurd (grind (arith, nat_tests))

begins_from : (at s : ℕ) → range_contains nat_cmp (Included at) Unbounded s ≡ nat_le at s
begins_from at s = pick (nat_lt at s) (nat_eq at s) (nat_le at s) refl refl refl
  where
    pick : (b c d : Bool) → nat_lt at s ≡ b → nat_eq at s ≡ c → nat_le at s ≡ d →
        range_contains nat_cmp (Included at) Unbounded s ≡ nat_le at s
    pick true c true e f g = rw (e, g) refl
    pick true c false e f g = absurd (grind (arith, nat_tests))
    pick false true true e f g = rw (e, f, g) refl
    pick false true false e f g = absurd (grind (arith, nat_tests))
    pick false false true e f g = absurd (grind (arith, nat_tests))
    pick false false false e f g = rw (e, f, g) refl

filter-alike : (p q : ℕ × ℕ → Bool) (rs : List (ℕ × ℕ)) → ((r : ℕ × ℕ) → p r ≡ q r) → filter p rs ≡ filter q rs
filter-alike p q [] h = refl
filter-alike p q (r ∷ rs) h = rw (h r, filter-alike p q rs h) refl

-- what the last of them says
pub record Last (low at s end : ℕ) (rs : List (ℕ × ℕ)) : Type 0 where
  pub from : low ≤ s
  pub begins : s ≤ at
  pub covered : (a : ℕ) → s ≤ a → a < end → covers rs a ≡ true
  pub bare : end ≤ at → covers rs at ≡ false

none_begins : (at : ℕ) (rs : List (ℕ × ℕ)) → filter (λ r. nat_le r.0 at) rs ≡ [] → covers rs at ≡ false
none_begins at [] h = refl
none_begins at (r ∷ rs) h = pick (nat_le r.0 at) refl (none_begins at rs)
  where
    pick : (b : Bool) → nat_le r.0 at ≡ b → (filter (λ x. nat_le x.0 at) rs ≡ [] → covers rs at ≡ false) → covers (r ∷ rs) at ≡ false
    pick true e on = let x = rw e at h in cc
    pick false e on = let x = rw e at h in covers-rest at r rs (inl (grind (arith, nat_tests))) ∙ on x

last_begins : (low at s end : ℕ) (rs front : List (ℕ × ℕ)) → are_laid low rs ≡ true →
    filter (λ r. nat_le r.0 at) rs ≡ front ++ (s, end) ∷ [] → Last low at s end rs
last_begins low at s end [] [] h e = cc
last_begins low at s end [] (f ∷ fs) h e = cc
last_begins low at s end (r ∷ rs) front h e = pick (nat_le r.0 at) front refl e (last_begins r.1 at s end rs)
  where
    p : Laid low r rs
    p = laid_parts low r rs h

    pick : (b : Bool) (front : List (ℕ × ℕ)) → nat_le r.0 at ≡ b → filter (λ x. nat_le x.0 at) (r ∷ rs) ≡ front ++ (s, end) ∷ [] →
        ((fs : List (ℕ × ℕ)) → are_laid r.1 rs ≡ true → filter (λ x. nat_le x.0 at) rs ≡ fs ++ (s, end) ∷ [] → Last r.1 at s end rs) →
        Last low at s end (r ∷ rs)
    pick true [] t e on =
        let x = rw t at e in
        let first : r ≡ (s, end) = cc in
        let none : filter (λ x. nat_le x.0 at) rs ≡ [] = cc in
        let last : r.1 ≡ end = ap (λ (x : ℕ × ℕ). x.1) first in
        let start : r.0 ≡ s = ap (λ (x : ℕ × ℕ). x.0) first in
        let begins : r.0 ≤ at = grind (arith, nat_tests) in
        record {
          from = omega (arith, p.from, start);
          begins = omega (arith, begins, start);
          covered = λ a l u. covers-first a r rs (omega (arith, start, l)) (omega (arith, last, u));
          bare = λ l. covers-rest at r rs (inr (omega (arith, last, l))) ∙ none_begins at rs none;
        }
    pick true (f ∷ fs) t e on =
        let x = rw t at e in
        let more : filter (λ x. nat_le x.0 at) rs ≡ fs ++ (s, end) ∷ [] = cc in
        let i = on fs p.rest more in
        record {
          from = omega (arith, p.from, p.some, i.from);
          begins = i.begins;
          covered = λ a l u. covers-rest a r rs (inr (omega (arith, i.from, l))) ∙ i.covered a l u;
          bare = λ l. covers-rest at r rs (inr (omega (arith, i.from, i.begins))) ∙ i.bare l;
        }
    pick false front t e on =
        let i = on front p.rest (rw t at e) in
        let above : at < r.0 = grind (arith, nat_tests) in
        absurd (omega (arith, i.from, i.begins, p.some, above))

-- the same of what the map lends
pub last_range : (at s end : ℕ) (rs front : List (ℕ × ℕ)) → are_laid 0 rs ≡ true →
    filter (λ r. range_contains nat_cmp Unbounded (Included at) r.0) rs ≡ front ++ (s, end) ∷ [] → Last 0 at s end rs
last_range at s end rs front h e =
    last_begins 0 at s end rs front h (sym (filter-alike (λ r. range_contains nat_cmp Unbounded (Included at) r.0) (λ r. nat_le r.0 at) rs
    (λ r. begins_by at r.0)) ∙ e)

pub no_range : (at : ℕ) (rs : List (ℕ × ℕ)) → filter (λ r. range_contains nat_cmp Unbounded (Included at) r.0) rs ≡ [] →
    covers rs at ≡ false
no_range at rs e =
    none_begins at rs (sym (filter-alike (λ r. range_contains nat_cmp Unbounded (Included at) r.0) (λ r. nat_le r.0 at) rs
    (λ r. begins_by at r.0)) ∙ e)

-- ---- a range is put in

-- what the list with a new range says
pub record Inserted (low at end : ℕ) (rs : List (ℕ × ℕ)) : Type 0 where
  pub laid : are_laid low (insert_entry nat_cmp rs at end) ≡ true
  pub covers : (a : ℕ) → covers (insert_entry nat_cmp rs at end) a ≡ (range_has a (at, end) || covers rs a)

swapped : (x y z : Bool) → (x || (y || z)) ≡ (y || (x || z))
swapped true true z = refl
swapped true false z = refl
swapped false y z = refl

pub inserted : (low at end : ℕ) (rs : List (ℕ × ℕ)) → are_laid low rs ≡ true → low ≤ at → at < end → end < 2 ^ 64 →
    ((a : ℕ) → at ≤ a → a < end → covers rs a ≡ false) → Inserted low at end rs
inserted low at end [] h l s short bare = record {
  laid = laid_from low (at, end) [] (record { from = l; some = s; short = short; rest = refl });
  covers = λ a. refl;
}
inserted low at end (r ∷ rs) h l s short bare = pick (nat_lt at r.0) (nat_eq at r.0) refl refl (inserted r.1 at end rs p.rest)
  where
    p : Laid low r rs
    p = laid_parts low r rs h

    -- the first address of the first range is not in the new one
    beside : (at < end) → (at ≤ r.0) → end ≤ r.0
    beside s l = pick (nat_lt r.0 end) refl
      where
        pick : (b : Bool) → nat_lt r.0 end ≡ b → end ≤ r.0
        pick true e =
            let x : covers (r ∷ rs) r.0 ≡ false = bare r.0 l (grind (arith, nat_tests)) in
            let y : covers (r ∷ rs) r.0 ≡ true = covers-first r.0 r rs (omega arith) p.some in
            absurd cc
        pick false e = grind (arith, nat_tests)

    -- the new one begins behind it
    behind : r.0 < at → r.1 ≤ at
    behind l = pick (nat_lt at r.1) refl
      where
        pick : (b : Bool) → nat_lt at r.1 ≡ b → r.1 ≤ at
        pick true e =
            let x : covers (r ∷ rs) at ≡ false = bare at (omega arith) s in
            let y : covers (r ∷ rs) at ≡ true = covers-first at r rs (omega arith) (grind (arith, nat_tests)) in
            absurd cc
        pick false e = grind (arith, nat_tests)

    pick : (t u : Bool) → nat_lt at r.0 ≡ t → nat_eq at r.0 ≡ u →
        (r.1 ≤ at → at < end → end < 2 ^ 64 → ((a : ℕ) → at ≤ a → a < end → covers rs a ≡ false) → Inserted r.1 at end rs) →
        Inserted low at end (r ∷ rs)
    pick true u e f on =
        let next : end ≤ r.0 = beside s (grind (arith, nat_tests)) in
        let rest : are_laid end (r ∷ rs) ≡ true =
        laid_from end r rs (record { from = next; some = p.some; short = p.short; rest = p.rest }) in
        record {
          laid = rw e (laid_from low (at, end) (r ∷ rs) (record { from = l; some = s; short = short; rest = rest }));
          covers = λ a. rw e refl;
        }
    pick false true e f on =
        let same : at ≡ r.0 = grind (arith, nat_tests) in
        let next = beside s (omega (arith, same)) in
        absurd (omega (arith, same, next, s))
    pick false false e f on =
        let below : r.0 < at = grind (arith, nat_tests) in
        let next = behind below in
        let i = on next s short (λ a x y. sym (covers-rest a r rs (inr (omega (arith, next, x)))) ∙ bare a x y) in
        record {
          laid = rw (e, f) (laid_from low r (insert_entry nat_cmp rs at end)
              (record { from = p.from; some = p.some; short = p.short; rest = i.laid }));
          covers = λ a. rw (e, f) (
              ap (λ (b : Bool). range_has a r || b) (i.covers a) ∙ swapped (range_has a r) (range_has a (at, end)) (covers rs a));
        }

-- ---- ranges are given up

-- what stands in order does so without some of it
pub laid-filter : (p : ℕ × ℕ → Bool) (low : ℕ) (rs : List (ℕ × ℕ)) → are_laid low rs ≡ true → are_laid low (filter p rs) ≡ true
laid-filter p low [] h = refl
laid-filter p low (r ∷ rs) h = pick (p r) refl (laid-filter p r.1 rs)
  where
    q : Laid low r rs
    q = laid_parts low r rs h

    pick : (b : Bool) → p r ≡ b → (are_laid r.1 rs ≡ true → are_laid r.1 (filter p rs) ≡ true) → are_laid low (filter p (r ∷ rs)) ≡ true
    pick true e on = rw e (laid_from low r (filter p rs) (record { from = q.from; some = q.some; short = q.short; rest = on q.rest }))
    pick false e on = rw e (laid_lower r.1 low (filter p rs) (omega (arith, q.from, q.some)) (on q.rest))

pub laid-remove_entry : (t : ℕ → Bool) (low : ℕ) (rs : List (ℕ × ℕ)) → are_laid low rs ≡ true → are_laid low (remove_entry t rs) ≡ true
laid-remove_entry t low [] h = refl
laid-remove_entry t low (r ∷ rs) h = pick (t r.0) refl (laid-remove_entry t r.1 rs)
  where
    q : Laid low r rs
    q = laid_parts low r rs h

    pick : (b : Bool) → t r.0 ≡ b → (are_laid r.1 rs ≡ true → are_laid r.1 (remove_entry t rs) ≡ true) →
        are_laid low (remove_entry t (r ∷ rs)) ≡ true
    pick true e on = rw e (laid_lower r.1 low rs (omega (arith, q.from, q.some)) q.rest)
    pick false e on = rw e (laid_from low r (remove_entry t rs)
        (record { from = q.from; some = q.some; short = q.short; rest = on q.rest }))

-- one that would be left out anyway may be removed before
pub filter-remove_entry : (p : ℕ × ℕ → Bool) (s : ℕ) (rs : List (ℕ × ℕ)) → ((e : ℕ) → p (s, e) ≡ false) →
    filter p (remove_entry (is_at (nat_cmp s)) rs) ≡ filter p rs
filter-remove_entry p s [] h = refl
filter-remove_entry p s (r ∷ rs) h = pick (nat_lt s r.0) (nat_eq s r.0) (p r) refl refl refl (filter-remove_entry p s rs h)
  where
    pick : (t u v : Bool) → nat_lt s r.0 ≡ t → nat_eq s r.0 ≡ u → p r ≡ v → filter p (remove_entry (is_at (nat_cmp s)) rs) ≡ filter p rs →
        filter p (remove_entry (is_at (nat_cmp s)) (r ∷ rs)) ≡ filter p (r ∷ rs)
    pick true u true e f g i = rw (e, g, i) refl
    pick true u false e f g i = rw (e, g, i) refl
    pick false true true e f g i =
        let same : s ≡ r.0 = grind (arith, nat_tests) in
        let x : p (r.0, r.1) ≡ false = subst (λ (y : ℕ). p (y, r.1) ≡ false) same (h r.1) in
        absurd cc
    pick false true false e f g i = rw (e, f, g) refl
    pick false false true e f g i = rw (e, f, g, i) refl
    pick false false false e f g i = rw (e, f, g, i) refl

-- none is left out where each passes
pub filter-all : (p : ℕ × ℕ → Bool) (rs : List (ℕ × ℕ)) → All (λ r. p r ≡ true) rs → filter p rs ≡ rs
filter-all p [] h = refl
filter-all p (r ∷ rs) h =
    let first : p r ≡ true = h 0 r (omega arith) in
    rw (first, filter-all p rs (All-tail (λ x. p x ≡ true) r rs h)) refl

-- what begins in a part of the addresses is left out
pub filter-out : (at n : ℕ) (rs : List (ℕ × ℕ)) → All (λ r. at ≤ r.0 → at + n ≤ r.0) rs → filter (λ r. not (in_range at n r.0)) rs ≡ rs
filter-out at n rs h = filter-all (λ r. not (in_range at n r.0)) rs (λ k d l. kept (slice_index_or rs k d) (h k d l))
  where
    kept : (r : ℕ × ℕ) → (at ≤ r.0 → at + n ≤ r.0) → not (in_range at n r.0) ≡ true
    kept r h = pick (inside_of at n r.0)
      where
        pick : Inside at n r.0 → not (in_range at n r.0) ≡ true
        pick (inside e l u) = absurd (let x = h l in omega arith)
        pick (outside e _) = rw e refl

-- a range that begins there ends there
ends_inside : (at n : ℕ) (r : ℕ × ℕ) → IsWhole at n r → r.0 < r.1 → at ≤ r.0 → r.0 < at + n → r.1 ≤ at + n
ends_inside at n r w s l u = grind arith

-- any other ends before or begins behind
ends_before : (at n : ℕ) (r : ℕ × ℕ) → 0 < n → IsWhole at n r → r.0 < r.1 → (r.0 < at) ⊎ (at + n ≤ r.0) → (r.1 ≤ at) ⊎ (at + n ≤ r.0)
ends_before at n r m w s (inl x) = pick (nat_le r.1 at) refl
  where
    pick : (b : Bool) → nat_le r.1 at ≡ b → (r.1 ≤ at) ⊎ (at + n ≤ r.0)
    pick true e = inl (grind (arith, nat_tests))
    pick false e = let above : at < r.1 = grind (arith, nat_tests) in absurd (grind arith)
ends_before at n r m w s (inr x) = inr x

-- what is covered without the ranges that begin there, where each lies wholly there or not at all
pub covers-out : (at n low : ℕ) (rs : List (ℕ × ℕ)) → are_laid low rs ≡ true → All (IsWhole at n) rs → (a : ℕ) →
    covers (filter (λ r. not (in_range at n r.0)) rs) a ≡ (if in_range at n a then false else covers rs a)
covers-out at n low [] h whole a = pick (in_range at n a)
  where
    pick : (b : Bool) → false ≡ (if b then false else false)
    pick true = refl
    pick false = refl
covers-out at n low (r ∷ rs) h whole a =
    pick (inside_of at n r.0) (inside_of at n a) (whole 0 r (omega arith))
    (covers-out at n r.1 rs q.rest (All-tail (IsWhole at n) r rs whole) a)
  where
    q : Laid low r rs
    q = laid_parts low r rs h

    kept : List (ℕ × ℕ)
    kept = filter (λ x. not (in_range at n x.0)) rs

    pick : Inside at n r.0 → Inside at n a → IsWhole at n r → covers kept a ≡ (if in_range at n a then false else covers rs a) →
        covers (filter (λ x. not (in_range at n x.0)) (r ∷ rs)) a ≡ (if in_range at n a then false else covers (r ∷ rs) a)
    pick (inside e l u) (inside f x y) w i = rw (e, f) (rw f at i)
    pick (inside e l u) (outside f x) w i =
        let end = ends_inside at n r w q.some l u in
        rw (e, f) (rw f at i ∙ sym (covers-rest a r rs (elim x [ inl y ↦ inl (omega arith) | inr y ↦ inr (omega (arith, end)) ])))
    pick (outside e x) (inside f l u) w i =
        let bare = ends_before at n r (omega arith) w q.some x in
        let apart : (a < r.0) ⊎ (r.1 ≤ a) = elim bare [ inl y ↦ inr (omega arith) | inr y ↦ inl (omega arith) ] in
        let none = has_no a r apart in
        rw (e, f, none) (rw f at i)
    pick (outside e x) (outside f y) w i = rw (e, f) (ap (λ (b : Bool). range_has a r || b) (rw f at i))

-- ---- the first range from an address on

pub laid_above : (low : ℕ) (rs : List (ℕ × ℕ)) → are_laid low rs ≡ true → All (λ r. low ≤ r.0) rs
laid_above low [] h = All-nil (λ r. low ≤ r.0)
laid_above low (r ∷ rs) h =
    let p = laid_parts low r rs h in
    let rest = laid_above r.1 rs p.rest in
    All-cons (λ x. low ≤ x.0) r rs p.from (λ k d l. omega (arith, p.from, p.some, rest k d l))

-- a range begins below the last address that a host's word has
pub laid_short : (low : ℕ) (rs : List (ℕ × ℕ)) → are_laid low rs ≡ true → All (λ r. r.0 + 1 < 2 ^ 64) rs
laid_short low [] h = All-nil (λ r. r.0 + 1 < 2 ^ 64)
laid_short low (r ∷ rs) h =
    let p = laid_parts low r rs h in
    All-cons (λ x. x.0 + 1 < 2 ^ 64) r rs (omega (arith, p.some, p.short)) (laid_short r.1 rs p.rest)

-- what the first of them says
pub record First (at s : ℕ) (rs : List (ℕ × ℕ)) : Type 0 where
  pub from : at ≤ s
  pub found : IsSome (lookup (is_at (nat_cmp s)) rs)
  pub first : All (λ r. at ≤ r.0 → s ≤ r.0) rs

first_begins : (low at s end : ℕ) (rs rest : List (ℕ × ℕ)) → are_laid low rs ≡ true → filter (λ r. nat_le at r.0) rs ≡ (s, end) ∷ rest →
    First at s rs
first_begins low at s end [] rest h e = cc
first_begins low at s end (r ∷ rs) rest h e = pick (nat_le at r.0) refl (first_begins r.1 at s end rs rest)
  where
    q : Laid low r rs
    q = laid_parts low r rs h

    found : (t u : Bool) → nat_lt s r.0 ≡ t → nat_eq s r.0 ≡ u → s ≢ r.0 →
        lookup (is_at (nat_cmp s)) (r ∷ rs) ≡ lookup (is_at (nat_cmp s)) rs
    found true u e f h = rw e refl
    found false true e f h = absurd (h (grind (arith, nat_tests)))
    found false false e f h = rw (e, f) refl

    here : (t u : Bool) → nat_lt s r.0 ≡ t → nat_eq s r.0 ≡ u → s ≡ r.0 → IsSome (lookup (is_at (nat_cmp s)) (r ∷ rs))
    here true u e f h = absurd (grind (arith, nat_tests))
    here false true e f h = rw (e, f) refl
    here false false e f h = absurd (grind (arith, nat_tests))

    pick : (b : Bool) → nat_le at r.0 ≡ b → (are_laid r.1 rs ≡ true → filter (λ x. nat_le at x.0) rs ≡ (s, end) ∷ rest → First at s rs) →
        First at s (r ∷ rs)
    pick true t on =
        let x = rw t at e in
        let this : r ≡ (s, end) = cc in
        let start : s ≡ r.0 = ap (λ (y : ℕ × ℕ). y.0) (sym this) in
        let above = laid_above r.1 rs q.rest in
        record {
          from = rw start (grind (arith, nat_tests));
          found = here (nat_lt s r.0) (nat_eq s r.0) refl refl start;
          first = All-cons (λ y. at ≤ y.0 → s ≤ y.0) r rs (λ l. omega (arith, start))
              (λ k d l m. omega (arith, start, q.some, above k d l));
        }
    pick false t on =
        let i = on q.rest (rw t at e) in
        let below : r.0 < at = grind (arith, nat_tests) in
        record {
          from = i.from;
          found = rw (found (nat_lt s r.0) (nat_eq s r.0) refl refl (λ (y : s ≡ r.0). omega (arith, i.from, below, y))) i.found;
          first = All-cons (λ y. at ≤ y.0 → s ≤ y.0) r rs (λ l. absurd (omega (arith, l, below))) i.first;
        }

none_from : (at : ℕ) (rs : List (ℕ × ℕ)) → filter (λ r. nat_le at r.0) rs ≡ [] → All (λ r. r.0 < at) rs
none_from at [] h = All-nil (λ r. r.0 < at)
none_from at (r ∷ rs) h = pick (nat_le at r.0) refl (none_from at rs)
  where
    pick : (b : Bool) → nat_le at r.0 ≡ b → (filter (λ x. nat_le at x.0) rs ≡ [] → All (λ x. x.0 < at) rs) → All (λ x. x.0 < at) (r ∷ rs)
    pick true e on = let x = rw e at h in absurd cc
    pick false e on = All-cons (λ x. x.0 < at) r rs (grind (arith, nat_tests)) (on (rw e at h))

-- the same of what the map lends
pub first_range : (at s end : ℕ) (rs rest : List (ℕ × ℕ)) → are_laid 0 rs ≡ true →
    filter (λ r. range_contains nat_cmp (Included at) Unbounded r.0) rs ≡ (s, end) ∷ rest → First at s rs
first_range at s end rs rest h e =
    first_begins 0 at s end rs rest h (sym (filter-alike (λ r. range_contains nat_cmp (Included at) Unbounded r.0) (λ r. nat_le at r.0) rs
    (λ r. begins_from at r.0)) ∙ e)

pub no_range_from : (at : ℕ) (rs : List (ℕ × ℕ)) → filter (λ r. range_contains nat_cmp (Included at) Unbounded r.0) rs ≡ [] →
    All (λ r. r.0 < at) rs
no_range_from at rs e =
    none_from at rs (sym (filter-alike (λ r. range_contains nat_cmp (Included at) Unbounded r.0) (λ r. nat_le at r.0) rs
    (λ r. begins_from at r.0)) ∙ e)
