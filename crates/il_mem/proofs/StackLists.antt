-- Ranges of a stack, which stand in a list of their own beside the others.
use Rattle.std.proofs.Common.{◌≡◌, ◌≢◌, ℕ, zero, suc, ◌+◌, ◌-◌, ◌^◌, ◌<◌, ◌≤◌, Bool, true, false, ◌||◌, List, [], ◌∷◌, ◌++◌, length, Option, Some, None, refl, sym, ap, ◌∙◌, subst, arith, ◌⊎◌, inl, inr}
use Rattle.std.specs.Prelude.{IfSome, IfNone, not, filter, slice_index_or, nat_eq, nat_le, nat_lt}
use Rattle.std.specs.List.{All}
use Rattle.std.specs.Ordering.{nat_cmp}
use Rattle.std.specs.BTreeMap.{insert_entry}
use Rattle.std.proofs.lemmas.Bool.Decides.{nat_tests}
use Rattle.std.proofs.lemmas.List.Elements.{All-nil, All-cons, All-tail}
use Rattle.hx_base.specs.Memory.{in_range}
use Rattle.il_mem.specs.Kept.{range_has, covers}
use Rattle.il_mem.specs.Laid.{are_laid, AreApart, LeavesOut, EndsBy, with_all}
use Rattle.il_mem.proofs.RangeLists.{Laid, laid_parts, laid_from, laid_above, laid_short, laid-filter, filter-out, has_no, covers-first, covers-rest, covers-below, inserted}

-- ---- a range is put in

-- one that begins below all others stands first
insert-first : (low at end : ℕ) (es : List (ℕ × ℕ)) → are_laid low es ≡ true → at < low →
    insert_entry nat_cmp es at end ≡ (at, end) ∷ es
insert-first low at end [] h l = refl
insert-first low at end (r ∷ rs) h l = pick (nat_lt at r.0) refl
  where
    p : Laid low r rs
    p = laid_parts low r rs h

    pick : (b : Bool) → nat_lt at r.0 ≡ b → insert_entry nat_cmp (r ∷ rs) at end ≡ (at, end) ∷ r ∷ rs
    pick true e = rw e refl
    pick false e = let from = p.from in absurd (grind (arith, nat_tests))

-- two that begin apart may be put in in either order
insert-two : (j v k w : ℕ) (es : List (ℕ × ℕ)) → nat_lt j k ≡ true → nat_lt k j ≡ false → nat_eq k j ≡ false →
    insert_entry nat_cmp (insert_entry nat_cmp es j v) k w ≡ insert_entry nat_cmp (insert_entry nat_cmp es k w) j v
insert-two j v k w [] less more same = rw (more, same, less) refl
insert-two j v k w (r ∷ rs) less more same =
    pick (nat_lt j r.0) (nat_eq j r.0) (nat_lt k r.0) (nat_eq k r.0) refl refl refl refl (insert-two j v k w rs less more same)
  where
    pick : (s t u x : Bool) → nat_lt j r.0 ≡ s → nat_eq j r.0 ≡ t → nat_lt k r.0 ≡ u → nat_eq k r.0 ≡ x →
        insert_entry nat_cmp (insert_entry nat_cmp rs j v) k w ≡ insert_entry nat_cmp (insert_entry nat_cmp rs k w) j v →
        insert_entry nat_cmp (insert_entry nat_cmp (r ∷ rs) j v) k w ≡ insert_entry nat_cmp (insert_entry nat_cmp (r ∷ rs) k w) j v
    pick true t true x e f g h i = rw (e, g, more, same, less) refl
    pick true t false true e f g h i = rw (e, g, h, more, same, e) refl
    pick true t false false e f g h i = rw (e, g, h, more, same, e) refl
    pick false true true x e f g h i = absurd (grind (arith, nat_tests))
    pick false true false true e f g h i = absurd (grind (arith, nat_tests))
    pick false true false false e f g h i = rw (e, f, g, h, e, f) refl
    pick false false true x e f g h i = absurd (grind (arith, nat_tests))
    pick false false false true e f g h i = absurd (grind (arith, nat_tests))
    pick false false false false e f g h i = rw (e, f, g, h, e, f, i) refl

insert-insert : (j v k w : ℕ) (es : List (ℕ × ℕ)) → j ≢ k →
    insert_entry nat_cmp (insert_entry nat_cmp es j v) k w ≡ insert_entry nat_cmp (insert_entry nat_cmp es k w) j v
insert-insert j v k w es ne = pick (nat_lt j k) (nat_lt k j) (nat_eq j k) (nat_eq k j) refl refl refl refl
  where
    pick : (s t u x : Bool) → nat_lt j k ≡ s → nat_lt k j ≡ t → nat_eq j k ≡ u → nat_eq k j ≡ x →
        insert_entry nat_cmp (insert_entry nat_cmp es j v) k w ≡ insert_entry nat_cmp (insert_entry nat_cmp es k w) j v
    pick true false u false e f g h = insert-two j v k w es e f h
    pick true true u x e f g h = absurd (grind (arith, nat_tests))
    pick true false u true e f g h = absurd (grind (arith, nat_tests))
    pick false true false x e f g h = sym (insert-two k w j v es f e g)
    pick false true true x e f g h = absurd (grind (arith, nat_tests))
    pick false false u x e f g h = absurd (grind (arith, nat_tests))

-- ---- those that are left behind a test of where they begin

filter-insert_out : (q : ℕ → Bool) (k v : ℕ) (es : List (ℕ × ℕ)) → q k ≡ false →
    filter (λ r. q r.0) (insert_entry nat_cmp es k v) ≡ filter (λ r. q r.0) es
filter-insert_out q k v [] h = rw h refl
filter-insert_out q k v (r ∷ rs) h = pick (nat_lt k r.0) (nat_eq k r.0) refl refl (filter-insert_out q k v rs h)
  where
    pick : (t u : Bool) → nat_lt k r.0 ≡ t → nat_eq k r.0 ≡ u →
        filter (λ x. q x.0) (insert_entry nat_cmp rs k v) ≡ filter (λ x. q x.0) rs →
        filter (λ x. q x.0) (insert_entry nat_cmp (r ∷ rs) k v) ≡ filter (λ x. q x.0) (r ∷ rs)
    pick true u e f i = rw (e, h) refl
    pick false true e f i =
        let is : k ≡ r.0 = grind (arith, nat_tests) in
        let out : q r.0 ≡ false = subst (λ (y : ℕ). q y ≡ false) is h in
        rw (e, f, out) refl
    pick false false e f i = rw (e, f, i) refl

filter-insert_in : (q : ℕ → Bool) (low k v : ℕ) (es : List (ℕ × ℕ)) → are_laid low es ≡ true → q k ≡ true →
    filter (λ r. q r.0) (insert_entry nat_cmp es k v) ≡ insert_entry nat_cmp (filter (λ r. q r.0) es) k v
filter-insert_in q low k v [] l h = rw h refl
filter-insert_in q low k v (r ∷ rs) l h =
    pick (nat_lt k r.0) (nat_eq k r.0) (q r.0) refl refl refl (filter-insert_in q r.1 k v rs p.rest h)
  where
    p : Laid low r rs
    p = laid_parts low r rs l

    own : are_laid r.0 (r ∷ rs) ≡ true
    own = laid_from r.0 r rs (record { from = omega arith; some = p.some; short = p.short; rest = p.rest })

    first : k < r.0 → (k, v) ∷ filter (λ x. q x.0) (r ∷ rs) ≡ insert_entry nat_cmp (filter (λ x. q x.0) (r ∷ rs)) k v
    first less =
        sym (insert-first r.0 k v (filter (λ x. q x.0) (r ∷ rs)) (laid-filter (λ x. q x.0) r.0 (r ∷ rs) own) less)

    pick : (t u b : Bool) → nat_lt k r.0 ≡ t → nat_eq k r.0 ≡ u → q r.0 ≡ b →
        filter (λ x. q x.0) (insert_entry nat_cmp rs k v) ≡ insert_entry nat_cmp (filter (λ x. q x.0) rs) k v →
        filter (λ x. q x.0) (insert_entry nat_cmp (r ∷ rs) k v) ≡ insert_entry nat_cmp (filter (λ x. q x.0) (r ∷ rs)) k v
    pick true u b e f g i = rw (e, h) (first (grind (arith, nat_tests)))
    pick false true true e f g i = rw (e, f, g, e, f) refl
    pick false true false e f g i =
        let is : k ≡ r.0 = grind (arith, nat_tests) in
        let in' : q r.0 ≡ true = subst (λ (y : ℕ). q y ≡ true) is h in
        absurd cc
    pick false false true e f g i = rw (e, f, g, i, e, f) refl
    pick false false false e f g i = rw (e, f, g, i) refl

-- ---- ranges beside others

or_second : (b c : Bool) → (b || c) ≡ false → c ≡ false
or_second true c h = cc
or_second false c h = h

or_first : (b c : Bool) → (b || c) ≡ false → b ≡ false
or_first true c h = h
or_first false c h = refl

or_true : (b : Bool) → (b || true) ≡ true
or_true true = refl
or_true false = refl

joined_or : (x y z : Bool) → (y || (x || z)) ≡ ((x || y) || z)
joined_or true true z = refl
joined_or true false z = refl
joined_or false y z = refl

-- the others with the first range still have no address in common with the rest
record Next (r : ℕ × ℕ) (rs es : List (ℕ × ℕ)) : Type 0 where
  laid : are_laid 0 (insert_entry nat_cmp es r.0 r.1) ≡ true
  both : (a : ℕ) → covers (insert_entry nat_cmp es r.0 r.1) a ≡ (range_has a r || covers es a)
  apart : (a : ℕ) → covers rs a ≡ true → covers (insert_entry nat_cmp es r.0 r.1) a ≡ false

next : (low : ℕ) (r : ℕ × ℕ) (rs es : List (ℕ × ℕ)) → are_laid low (r ∷ rs) ≡ true → are_laid 0 es ≡ true →
    ((a : ℕ) → covers (r ∷ rs) a ≡ true → covers es a ≡ false) → Next r rs es
next low r rs es h l d =
    let i = inserted 0 r.0 r.1 es l (omega arith) p.some p.short (λ a x y. d a (covers-first a r rs x y)) in
    record {
      laid = i.laid;
      both = i.covers;
      apart = λ a c. i.covers a ∙ outside a c (nat_lt a r.1) refl;
    }
  where
    p : Laid low r rs
    p = laid_parts low r rs h

    outside : (a : ℕ) → covers rs a ≡ true → (b : Bool) → nat_lt a r.1 ≡ b → (range_has a r || covers es a) ≡ false
    outside a c true e =
        let none : covers rs a ≡ false = covers-below r.1 a rs p.rest (grind (arith, nat_tests)) in
        absurd cc
    outside a c false e =
        let behind : r.1 ≤ a = grind (arith, nat_tests) in
        let not_here : range_has a r ≡ false = has_no a r (inr behind) in
        rw not_here (d a (covers-rest a r rs (inr behind) ∙ c))

-- what all of them say
pub record Joined (ss es : List (ℕ × ℕ)) : Type 0 where
  pub laid : are_laid 0 (with_all ss es) ≡ true
  pub covers : (a : ℕ) → covers (with_all ss es) a ≡ (covers ss a || covers es a)

joined_from : (low : ℕ) (ss es : List (ℕ × ℕ)) → are_laid low ss ≡ true → are_laid 0 es ≡ true →
    ((a : ℕ) → covers ss a ≡ true → covers es a ≡ false) → Joined ss es
joined_from low [] es h l d = record { laid = l; covers = λ a. refl }
joined_from low (r ∷ rs) es h l d =
    let n = next low r rs es h l d in
    let p = laid_parts low r rs h in
    let j = joined_from r.1 rs (insert_entry nat_cmp es r.0 r.1) p.rest n.laid n.apart in
    record {
      laid = j.laid;
      covers = λ a. j.covers a ∙ ap (λ (b : Bool). covers rs a || b) (n.both a) ∙ joined_or (range_has a r) (covers rs a) (covers es a);
    }

pub joined : (ss es : List (ℕ × ℕ)) → AreApart ss es → Joined ss es
joined ss es a = joined_from 0 ss es a.stack a.ends a.apart

-- what covers none of them covers neither
pub neither : (ss es : List (ℕ × ℕ)) → AreApart ss es → (a : ℕ) → covers (with_all ss es) a ≡ false →
    (covers ss a ≡ false) × (covers es a ≡ false)
neither ss es h a none =
    let e : (covers ss a || covers es a) ≡ false = sym ((joined ss es h).covers a) ∙ none in
    (or_first (covers ss a) (covers es a) e, or_second (covers ss a) (covers es a) e)

pub of_stack : (ss es : List (ℕ × ℕ)) → AreApart ss es → (a : ℕ) → covers ss a ≡ true → covers (with_all ss es) a ≡ true
of_stack ss es h a e = (joined ss es h).covers a ∙ rw e refl

pub of_others : (ss es : List (ℕ × ℕ)) → AreApart ss es → (a : ℕ) → covers es a ≡ true → covers (with_all ss es) a ≡ true
of_others ss es h a e = (joined ss es h).covers a ∙ rw e (or_true (covers ss a))

pub of_none : (ss es : List (ℕ × ℕ)) → AreApart ss es → (a : ℕ) → covers ss a ≡ false → covers es a ≡ false →
    covers (with_all ss es) a ≡ false
of_none ss es h a e f = (joined ss es h).covers a ∙ rw (e, f) refl

-- what holds of a range that was found, and where none was, in other words
pub some_also : (P Q : ℕ × ℕ → Type 0) (o : Option (ℕ × ℕ)) → ((r : ℕ × ℕ) → P r → Q r) → IfSome o P → IfSome o Q
some_also P Q None f h = tt
some_also P Q (Some r) f h = f r h

pub none_also : (P Q : Type 0) (o : Option (ℕ × ℕ)) → (P → Q) → IfNone o P → IfNone o Q
none_also P Q None f h = f h
none_also P Q (Some r) f h = tt

-- ---- a range is mapped

-- behind the others of the stack
pub with_all-push : (ss es : List (ℕ × ℕ)) (k v : ℕ) →
    with_all (ss ++ (k, v) ∷ []) es ≡ insert_entry nat_cmp (with_all ss es) k v
with_all-push [] es k v = refl
with_all-push (s ∷ ss) es k v = with_all-push ss (insert_entry nat_cmp es s.0 s.1) k v

laid-push : (low at end : ℕ) (ss : List (ℕ × ℕ)) → are_laid low ss ≡ true → low ≤ at → EndsBy at ss → at < end → end < 2 ^ 64 →
    are_laid low (ss ++ (at, end) ∷ []) ≡ true
laid-push low at end [] h l by some short = laid_from low (at, end) [] (record { from = l; some = some; short = short; rest = refl })
laid-push low at end (r ∷ rs) h l by some short =
    let p = laid_parts low r rs h in
    let first : r.1 ≤ at = by 0 r (omega arith) in
    laid_from low r (rs ++ (at, end) ∷ []) (record {
      from = p.from;
      some = p.some;
      short = p.short;
      rest = laid-push r.1 at end rs p.rest first (All-tail (λ x. x.1 ≤ at) r rs by) some short;
    })

either : (ss : List (ℕ × ℕ)) (at end a : ℕ) → covers (ss ++ (at, end) ∷ []) a ≡ true →
    (covers ss a ≡ true) ⊎ ((at ≤ a) × (a < end))
either [] at end a h = pick (nat_le at a) (nat_lt a end) refl refl
  where
    pick : (b c : Bool) → nat_le at a ≡ b → nat_lt a end ≡ c → (false ≡ true) ⊎ ((at ≤ a) × (a < end))
    pick true true e f = inr (grind (arith, nat_tests), grind (arith, nat_tests))
    pick true false e f =
        let none : covers ((at, end) ∷ []) a ≡ false = covers-rest a (at, end) [] (inr (grind (arith, nat_tests))) in
        absurd cc
    pick false c e f =
        let none : covers ((at, end) ∷ []) a ≡ false = covers-rest a (at, end) [] (inl (grind (arith, nat_tests))) in
        absurd cc
either (r ∷ rs) at end a h = pick (range_has a r) refl (either rs at end a)
  where
    pick : (b : Bool) → range_has a r ≡ b →
        (covers (rs ++ (at, end) ∷ []) a ≡ true → (covers rs a ≡ true) ⊎ ((at ≤ a) × (a < end))) →
        (covers (r ∷ rs) a ≡ true) ⊎ ((at ≤ a) × (a < end))
    pick true e on = inl (rw e refl)
    pick false e on = elim (on (rw e at h)) [ inl x ↦ inl (rw e x) | inr x ↦ inr x ]

pub apart-push : (ss es : List (ℕ × ℕ)) (at end : ℕ) → AreApart ss es → EndsBy at ss → at < end → end < 2 ^ 64 →
    ((a : ℕ) → at ≤ a → a < end → covers (with_all ss es) a ≡ false) → AreApart (ss ++ (at, end) ∷ []) es
apart-push ss es at end h by some short bare = record {
  stack = laid-push 0 at end ss h.stack (omega arith) by some short;
  ends = h.ends;
  apart = λ a c. elim (either ss at end a c) [ inl x ↦ h.apart a x | inr x ↦ (neither ss es h a (bare a x.0 x.1)).1 ];
}

-- among the others
with_all-insert : (low k v : ℕ) (ss es : List (ℕ × ℕ)) → are_laid low ss ≡ true → covers ss k ≡ false →
    with_all ss (insert_entry nat_cmp es k v) ≡ insert_entry nat_cmp (with_all ss es) k v
with_all-insert low k v [] es h bare = refl
with_all-insert low k v (r ∷ rs) es h bare =
    let p = laid_parts low r rs h in
    let some = p.some in
    let apart : k ≢ r.0 = λ (e : k ≡ r.0). let here : covers (r ∷ rs) k ≡ true = covers-first k r rs (omega (arith, e)) (omega (arith, e, some)) in cc in
    ap (λ (xs : List (ℕ × ℕ)). with_all rs xs) (insert-insert k v r.0 r.1 es apart)
    ∙ with_all-insert r.1 k v rs (insert_entry nat_cmp es r.0 r.1) p.rest (or_second (range_has k r) (covers rs k) bare)

pub with_all-other : (ss es : List (ℕ × ℕ)) (k v : ℕ) → AreApart ss es → covers (with_all ss es) k ≡ false →
    with_all ss (insert_entry nat_cmp es k v) ≡ insert_entry nat_cmp (with_all ss es) k v
with_all-other ss es k v h bare = with_all-insert 0 k v ss es h.stack (neither ss es h k bare).0

pub apart-other : (ss es : List (ℕ × ℕ)) (at end : ℕ) → AreApart ss es → at < end → end < 2 ^ 64 →
    ((a : ℕ) → at ≤ a → a < end → covers (with_all ss es) a ≡ false) → AreApart ss (insert_entry nat_cmp es at end)
apart-other ss es at end h some short bare =
    let i = inserted 0 at end es h.ends (omega arith) some short (λ a l u. (neither ss es h a (bare a l u)).1) in
    record {
      stack = h.stack;
      ends = i.laid;
      apart = λ a c. i.covers a ∙ outside a c (nat_le at a) (nat_lt a end) refl refl;
    }
  where
    outside : (a : ℕ) → covers ss a ≡ true → (b d : Bool) → nat_le at a ≡ b → nat_lt a end ≡ d → (range_has a (at, end) || covers es a) ≡ false
    outside a c true true e f =
        let none : covers ss a ≡ false = (neither ss es h a (bare a (grind (arith, nat_tests)) (grind (arith, nat_tests)))).0 in
        absurd cc
    outside a c true false e f =
        let none : range_has a (at, end) ≡ false = has_no a (at, end) (inr (grind (arith, nat_tests))) in
        rw none (h.apart a c)
    outside a c false d e f =
        let none : range_has a (at, end) ≡ false = has_no a (at, end) (inl (grind (arith, nat_tests))) in
        rw none (h.apart a c)

-- one that begins elsewhere
pub leaves_out-insert : (from end to k v : ℕ) (es : List (ℕ × ℕ)) → LeavesOut from end es → to ≤ end → (k < from) ⊎ (to ≤ k) →
    LeavesOut from to (insert_entry nat_cmp es k v)
leaves_out-insert from end to k v [] h l x = (x, tt)
leaves_out-insert from end to k v (r ∷ rs) h l x = pick (nat_lt k r.0) (nat_eq k r.0) refl refl (leaves_out-insert from end to k v rs h.1 l x)
  where
    first : (r.0 < from) ⊎ (to ≤ r.0)
    first = elim h.0 [ inl y ↦ inl y | inr y ↦ inr (omega (arith, y, l)) ]

    pick : (t u : Bool) → nat_lt k r.0 ≡ t → nat_eq k r.0 ≡ u → LeavesOut from to (insert_entry nat_cmp rs k v) →
        LeavesOut from to (insert_entry nat_cmp (r ∷ rs) k v)
    pick true u e f i = rw e (x, (first, less rs h.1))
      where
        less : (xs : List (ℕ × ℕ)) → LeavesOut from end xs → LeavesOut from to xs
        less [] y = tt
        less (z ∷ zs) y = (elim y.0 [ inl w ↦ inl w | inr w ↦ inr (omega (arith, w, l)) ], less zs y.1)
    pick false true e f i = rw (e, f) (first, less rs h.1)
      where
        less : (xs : List (ℕ × ℕ)) → LeavesOut from end xs → LeavesOut from to xs
        less [] y = tt
        less (z ∷ zs) y = (elim y.0 [ inl w ↦ inl w | inr w ↦ inr (omega (arith, w, l)) ], less zs y.1)
    pick false false e f i = rw (e, f) (first, i)

-- ---- ranges are given up

pub leaves_out-filter : (p : ℕ × ℕ → Bool) (from end : ℕ) (es : List (ℕ × ℕ)) → LeavesOut from end es → LeavesOut from end (filter p es)
leaves_out-filter p from end [] h = tt
leaves_out-filter p from end (r ∷ rs) h = pick (p r) refl (leaves_out-filter p from end rs h.1)
  where
    pick : (b : Bool) → p r ≡ b → LeavesOut from end (filter p rs) → LeavesOut from end (filter p (r ∷ rs))
    pick true e i = rw e (h.0, i)
    pick false e i = rw e i

-- where none begins among some addresses none of these goes
pub leaves_out-none : (from end at n : ℕ) (es : List (ℕ × ℕ)) → are_laid 0 es ≡ true → LeavesOut from end es → from ≤ at →
    ((s : ℕ) → s + 1 < 2 ^ 64 → end ≤ s → at + n ≤ s) → filter (λ r. not (in_range at n r.0)) es ≡ es
leaves_out-none from end at n es laid h l behind = filter-out at n es (none es (laid_short 0 es laid) h)
  where
    none : (rs : List (ℕ × ℕ)) → All (λ r. r.0 + 1 < 2 ^ 64) rs → LeavesOut from end rs → All (λ r. at ≤ r.0 → at + n ≤ r.0) rs
    none [] short h = All-nil (λ r. at ≤ r.0 → at + n ≤ r.0)
    none (r ∷ rs) short h =
        All-cons (λ x. at ≤ x.0 → at + n ≤ x.0) r rs
        (λ m. elim h.0 [ inl x ↦ absurd (omega (arith, x, l, m)) | inr x ↦ behind r.0 (short 0 r (omega arith)) x ])
        (none rs (All-tail (λ x. x.0 + 1 < 2 ^ 64) r rs short) h.1)

covers-filter : (p : ℕ × ℕ → Bool) (rs : List (ℕ × ℕ)) (a : ℕ) → covers rs a ≡ false → covers (filter p rs) a ≡ false
covers-filter p [] a h = refl
covers-filter p (r ∷ rs) a h =
    pick (p r) refl (or_first (range_has a r) (covers rs a) h) (covers-filter p rs a (or_second (range_has a r) (covers rs a) h))
  where
    pick : (b : Bool) → p r ≡ b → range_has a r ≡ false → covers (filter p rs) a ≡ false → covers (filter p (r ∷ rs)) a ≡ false
    pick true e f i = rw (e, f) i
    pick false e f i = rw e i

pub apart-filter : (p : ℕ × ℕ → Bool) (ss es : List (ℕ × ℕ)) → AreApart ss es → AreApart (filter p ss) (filter p es)
apart-filter p ss es h = record {
  stack = laid-filter p 0 ss h.stack;
  ends = laid-filter p 0 es h.ends;
  apart = λ a c. covers-filter p es a (h.apart a (was a c (covers ss a) refl));
}
  where
    was : (a : ℕ) → covers (filter p ss) a ≡ true → (b : Bool) → covers ss a ≡ b → covers ss a ≡ true
    was a c true e = e
    was a c false e = let none : covers (filter p ss) a ≡ false = covers-filter p ss a e in absurd cc

filter-with_all_from : (q : ℕ → Bool) (low : ℕ) (ss es : List (ℕ × ℕ)) → are_laid low ss ≡ true → are_laid 0 es ≡ true →
    ((a : ℕ) → covers ss a ≡ true → covers es a ≡ false) →
    filter (λ r. q r.0) (with_all ss es) ≡ with_all (filter (λ r. q r.0) ss) (filter (λ r. q r.0) es)
filter-with_all_from q low [] es h l d = refl
filter-with_all_from q low (r ∷ rs) es h l d =
    let n = next low r rs es h l d in
    let p = laid_parts low r rs h in
    filter-with_all_from q r.1 rs (insert_entry nat_cmp es r.0 r.1) p.rest n.laid n.apart ∙ pick (q r.0) refl
  where
    pick : (b : Bool) → q r.0 ≡ b →
        with_all (filter (λ x. q x.0) rs) (filter (λ x. q x.0) (insert_entry nat_cmp es r.0 r.1))
        ≡ with_all (filter (λ x. q x.0) (r ∷ rs)) (filter (λ x. q x.0) es)
    pick true e = rw (e, filter-insert_in q 0 r.0 r.1 es l e) refl
    pick false e = rw (e, filter-insert_out q r.0 r.1 es e) refl

pub filter-with_all : (q : ℕ → Bool) (ss es : List (ℕ × ℕ)) → AreApart ss es →
    filter (λ r. q r.0) (with_all ss es) ≡ with_all (filter (λ r. q r.0) ss) (filter (λ r. q r.0) es)
filter-with_all q ss es h = filter-with_all_from q 0 ss es h.stack h.ends h.apart

-- ---- ranges by their places

pub laid_starts : (low : ℕ) (rs : List (ℕ × ℕ)) (j k : ℕ) (d e : ℕ × ℕ) → are_laid low rs ≡ true → j ≤ k → k < length rs →
    (slice_index_or rs j d).0 ≤ (slice_index_or rs k e).0
laid_starts low [] j k d e h l u = absurd (omega (arith, u))
laid_starts low (r ∷ rs) zero zero d e h l u = omega arith
laid_starts low (r ∷ rs) (suc j) zero d e h l u = absurd (omega (arith, l))
laid_starts low (r ∷ rs) zero (suc k) d e h l u =
    let p = laid_parts low r rs h in
    let some = p.some in
    let above = laid_above r.1 rs p.rest k e (omega (arith, u)) in omega (arith, some, above)
laid_starts low (r ∷ rs) (suc j) (suc k) d e h l u =
    let p = laid_parts low r rs h in laid_starts r.1 rs j k d e p.rest (omega (arith, l)) (omega (arith, u))

laid_some : (low : ℕ) (rs : List (ℕ × ℕ)) (k : ℕ) (d : ℕ × ℕ) → are_laid low rs ≡ true → k < length rs →
    (slice_index_or rs k d).0 < (slice_index_or rs k d).1
laid_some low [] k d h u = absurd (omega (arith, u))
laid_some low (r ∷ rs) zero d h u = let p = laid_parts low r rs h in p.some
laid_some low (r ∷ rs) (suc k) d h u = let p = laid_parts low r rs h in laid_some r.1 rs k d p.rest (omega (arith, u))

pub laid_ends : (low : ℕ) (rs : List (ℕ × ℕ)) (j k : ℕ) (d e : ℕ × ℕ) → are_laid low rs ≡ true → j ≤ k → k < length rs →
    (slice_index_or rs j d).1 ≤ (slice_index_or rs k e).1
laid_ends low [] j k d e h l u = absurd (omega (arith, u))
laid_ends low (r ∷ rs) zero zero d e h l u = omega arith
laid_ends low (r ∷ rs) (suc j) zero d e h l u = absurd (omega (arith, l))
laid_ends low (r ∷ rs) zero (suc k) d e h l u =
    let p = laid_parts low r rs h in
    let some = laid_some r.1 rs k e p.rest (omega (arith, u)) in
    let above = laid_above r.1 rs p.rest k e (omega (arith, u)) in omega (arith, some, above)
laid_ends low (r ∷ rs) (suc j) (suc k) d e h l u =
    let p = laid_parts low r rs h in laid_ends r.1 rs j k d e p.rest (omega (arith, l)) (omega (arith, u))

-- all end where the last of them does, or before
pub ends_by_last : (rs : List (ℕ × ℕ)) (at : ℕ) (e : ℕ × ℕ) → are_laid 0 rs ≡ true → 0 < length rs →
    (slice_index_or rs (length rs - 1) e).1 ≤ at → EndsBy at rs
ends_by_last rs at e h some last k d l =
    let under = laid_ends 0 rs k (length rs - 1) d e h (omega (arith, l)) (omega (arith, some)) in omega (arith, under, last)

pub covers-at : (rs : List (ℕ × ℕ)) (k : ℕ) (d : ℕ × ℕ) (a : ℕ) → k < length rs → (slice_index_or rs k d).0 ≤ a →
    a < (slice_index_or rs k d).1 → covers rs a ≡ true
covers-at [] k d a u l h = absurd (omega (arith, u))
covers-at (r ∷ rs) zero d a u l h = covers-first a r rs l h
covers-at (r ∷ rs) (suc k) d a u l h =
    let rest = covers-at rs k d a (omega (arith, u)) l h in rw rest (or_true (range_has a r))

pub covers-none : (rs : List (ℕ × ℕ)) (a : ℕ) →
    ((k : ℕ) (d : ℕ × ℕ) → k < length rs → (a < (slice_index_or rs k d).0) ⊎ ((slice_index_or rs k d).1 ≤ a)) → covers rs a ≡ false
covers-none [] a h = refl
covers-none (r ∷ rs) a h =
    covers-rest a r rs (h 0 r (omega arith)) ∙ covers-none rs a (λ k d l. h (suc k) d (omega (arith, l)))
