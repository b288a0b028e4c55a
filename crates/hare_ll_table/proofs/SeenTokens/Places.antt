-- Places of a list at which tokens may be apart: no two strings that stand side by side come apart.
use Rattle.std.proofs.Common.{◌≡◌, ℕ, zero, suc, zero-add, suc-add, ◌+◌, ◌-◌, ◌<◌, ◌≤◌, List, [], ◌∷◌, drop, take, length, length-drop, Bool, true, false, refl, sym, ap, ◌∙◌, inl, inr, arith}
use Rattle.std.specs.Prelude.{slice_get, Some, None, ◌&&◌}
use Rattle.std.proofs.lemmas.List.{drop-drop}
use Rattle.std.proofs.lemmas.Option.{slice_get_within}
use Rattle.hare_tree.specs.declared.token.Token.{Token}
use Rattle.hare_tree.specs.Grammar.{is_proper_string, joined, ends_in_string, begins_with_string, StandsAt}
use Rattle.hare_ll_table.specs.Joined.{BeginsWith}
use Rattle.hare_ll_table.specs.Places.{IsPlace}
use Rattle.hare_ll_table.proofs.SeenTokens.Joining.{read_drop, drop_past, joined_at, join_no}

pub and_false : (b : Bool) → (b && false) ≡ false
and_false true = refl
and_false false = refl

-- what is dropped from one place to another
pub drop_to : (ts : List Token) (a b : ℕ) → a ≤ b → drop (b - a) (drop a ts) ≡ drop b ts
drop_to ts a b h = let e : a + (b - a) ≡ b = omega arith in drop-drop (b - a) a ts ∙ ap (λ i. drop i ts) e

-- in front of a token that is no such string
stands_before : (ts : List Token) (at next : ℕ) → at < next → begins_with_string (drop next ts) ≡ false →
    StandsAt (drop at ts) (next - at) (joined (drop next ts))
stands_before ts at next h e =
    let d = drop_to ts at next (omega arith) in
    record { behind = ap joined (sym d); apart = rw (d, e) (and_false (ends_in_string (take (next - at) (drop at ts)))) }

-- behind a token that is no such string
stands_behind : (us vs : List Token) (n : ℕ) (t : Token) → us ≡ t ∷ vs → n ≡ 1 → is_proper_string t ≡ false → StandsAt us n (joined vs)
stands_behind us vs n t e k p = rw (e, k) (record { behind = refl; apart = rw p refl })

-- ---- the first of the joined tokens from a place on

pub strings_end_at : (ts : List Token) (at next : ℕ) (s t : Token) → joined (drop at ts) ≡ s ∷ joined (drop next ts) →
    Some t ≡ slice_get ts next → is_proper_string t ≡ false →
    at < next → next ≤ length ts → BeginsWith ts at s next
strings_end_at ts at next s t e h p a b =
    let f : begins_with_string (drop next ts) ≡ false = ap begins_with_string (read_drop ts next t h) ∙ p in
    record { joins = e; further = a; within = b; stands = stands_before ts at next a f }

pub strings_end_past : (ts : List Token) (at next : ℕ) (s : Token) → joined (drop at ts) ≡ s ∷ joined (drop next ts) →
    None ≡ slice_get ts next → at < next → next ≤ length ts →
    BeginsWith ts at s next
strings_end_past ts at next s e h a b =
    let f : begins_with_string (drop next ts) ≡ false = ap begins_with_string (drop_past ts next h) in
    record { joins = e; further = a; within = b; stands = stands_before ts at next a f }

pub begins_with_other : (ts : List Token) (at next : ℕ) (t : Token) → Some t ≡ slice_get ts at → is_proper_string t ≡ false →
    next ≡ at + 1 → BeginsWith ts at t next
begins_with_other ts at next t h p n =
    let w : at < length ts = slice_get_within ts at t (sym h) in
    let one : at + 1 - at ≡ 1 = omega arith in
    rw n
    (record {
      joins = joined_at ts at t h ∙ join_no t (joined (drop (at + 1) ts)) p;
      further = omega arith;
      within = omega arith;
      stands = stands_behind (drop at ts) (drop (at + 1) ts) (at + 1 - at) t (read_drop ts at t h) one p;
    })

-- ---- places

-- a front ends as the tokens behind the first of it do
ends_behind : (n m : ℕ) (ts : List Token) → n + m < length ts →
    ends_in_string (take (suc (n + m)) ts) ≡ ends_in_string (take (suc m) (drop n ts))
ends_behind zero m ts h = rw (zero-add m) refl
ends_behind (suc n) m [] h = absurd (omega arith)
ends_behind (suc n) m (t ∷ []) h = absurd (omega arith)
ends_behind (suc n) m (t ∷ u ∷ us) h = rw (suc-add n m) (ends_behind n m (u ∷ us) (omega arith))

ends_between : (ts : List Token) (from at next : ℕ) → from ≤ at → at < next → next ≤ length ts →
    ends_in_string (take (next - from) (drop from ts)) ≡ ends_in_string (take (next - at) (drop at ts))
ends_between ts from at next a b c = by (at - from) (next - at - 1) (omega arith) (omega arith) (omega arith)
  where
    by : (n m : ℕ) → at - from ≡ n → next - from ≡ suc (n + m) → next - at ≡ suc m →
        ends_in_string (take (next - from) (drop from ts)) ≡ ends_in_string (take (next - at) (drop at ts))
    by n m d p q =
        let l : n + m < length (drop from ts) = rw (length-drop from ts) (omega arith) in
        let e : drop n (drop from ts) ≡ drop at ts = ap (λ i. drop i (drop from ts)) (sym d) ∙ drop_to ts from at a in
        rw (p, q) (ends_behind n m (drop from ts) l ∙ ap (λ us. ends_in_string (take (suc m) us)) e)

pub place_here : (ts : List Token) (from : ℕ) → IsPlace ts from from
place_here ts from =
    let z : from - from ≡ 0 = omega arith in
    record { behind = omega arith; within = inl refl; stands = rw z (record { behind = refl; apart = refl }) }

pub place_further : (ts : List Token) (from at next : ℕ) (t : Token) → IsPlace ts from at → BeginsWith ts at t next → IsPlace ts from next
place_further ts from at next t p b =
    let a = p.behind in
    let c = b.further in
    let d : drop (next - from) (drop from ts) ≡ drop (next - at) (drop at ts) =
    drop_to ts from next (omega arith) ∙ sym (drop_to ts at next (omega arith)) in
    record {
      behind = omega arith;
      within = inr b.within;
      stands = record {
        behind = b.stands.behind ∙ ap joined (sym d);
        apart = rw (ends_between ts from at next a c b.within, d)
            b.stands.apart;
      };
    }

pub place_from_start : (ts : List Token) (n : ℕ) → IsPlace ts 0 n → StandsAt ts n (joined (drop n ts))
place_from_start ts n p =
    let e : n - 0 ≡ n = omega arith in
    rw e at p.stands
