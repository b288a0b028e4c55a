-- The objects that are reached from cells: met one behind another, they are those of the definition.
use Rattle.std.proofs.Common.{◌≡◌, ◌∙◌, sym, ap, ap₂, subst, refl, ℕ, zero, suc, ◌+◌, ◌<◌, ◌≤◌, ◌⊎◌, inl, inr, arith, true, List, [], ◌∷◌, ◌++◌, length, get_or, take, append_assoc, append-nil, Option, Some, None}
use Rattle.std.specs.Prelude.{Contains, ◌↔◌, slice_get, slice_index_or, flat_map}
use Rattle.std.specs.declared.cmp.Ordering.TheVariants.{Less, Equal, Greater}
use Rattle.std.specs.Ordering.{nat_cmp, match_ordering}
use Rattle.std.specs.Cmp.{nat_cmp_is}
use Rattle.std.specs.BTreeSet.{BTreeSet, insert_key, contains}
use Rattle.std.proofs.lemmas.Bool.{cases_order}
use Rattle.std.proofs.lemmas.Cmp.{nat_cmp_total}
use Rattle.std.proofs.lemmas.List.{take_all}
use Rattle.std.proofs.lemmas.Option.{slice_get-get_or, slice_get_within}
use Rattle.std.proofs.lemmas.List.Elements.{Contains-append_left, Contains-append_right, Contains-append_cases}
use Rattle.std.proofs.lemmas.Map.Lookups.{exact_unsigned}
use Rattle.std.proofs.lemmas.Map.Views.{btree_set_contains_iff}
use Rattle.hare_types.specs.Rows.{Ascends}
use Rattle.hare_types.specs.Unions.{put, put_all, ascending}
use Rattle.hare_types.proofs.AscendingLemmas.{In, In-from, In-to, put-before, put-at, put-behind, Ascends-put_all, ascending-sound, ascending-whole, one_ascending}
use Rattle.hare_typed.specs.declared.cell.Cell.{Cell}
use Rattle.hare_typed.specs.declared.constant.ConstObject.{ConstObject}
use Rattle.hare_typed.specs.Leads.{led_to, leads}
use Rattle.hare_typed.proofs.KidLemmas.{take-get}
use Rattle.hare_const.specs.Statics.{cells_by, reached_by, listed_by, led_from, Adds}

-- ---- what a list has

none_in : (n : ℕ) → Contains [] n → ⊥
none_in n h = absurd (In-from n [] h)

same_in : (m n : ℕ) → Contains (m ∷ []) n → m ≡ n
same_in m n h = by (In-from n (m ∷ []) h)
  where
    by : (m ≡ n) ⊎ ⊥ → m ≡ n
    by (inl e) = e
    by (inr e) = absurd e

taken_in : (k : ℕ) (ns : List ℕ) (n : ℕ) → Contains (take k ns) n → Contains ns n
taken_in k ns n h = In-to n ns (by k ns (In-from n (take k ns) h))
  where
    by : (j : ℕ) (ms : List ℕ) → In n (take j ms) → In n ms
    by zero ms g = absurd g
    by (suc j) [] g = g
    by (suc j) (m ∷ ms) (inl e) = inl e
    by (suc j) (m ∷ ms) (inr g) = inr (by j ms g)

got_in : (ns : List ℕ) (i n : ℕ) → slice_get ns i ≡ Some n → Contains ns n
got_in ns i n h = In-to n ns (by ns i h)
  where
    by : (ms : List ℕ) (j : ℕ) → slice_get ms j ≡ Some n → In n ms
    by [] j e = absurd cc
    by (m ∷ ms) zero e = inl cc
    by (m ∷ ms) (suc j) e = inr (by ms j e)

-- so many of a list with others behind it
taken_front : (ns others : List ℕ) (i n : ℕ) → slice_get ns i ≡ Some n → take (suc i) (ns ++ others) ≡ take i ns ++ n ∷ []
taken_front [] others i n e = absurd cc
taken_front (m ∷ ms) others zero n e = let same : m ≡ n = cc in ap (λ x. x ∷ []) same
taken_front (m ∷ ms) others (suc i) n e = ap (λ l. m ∷ l) (taken_front ms others i n e)

-- ---- the numbers of a set

insert_put : (n : ℕ) (ns : List ℕ) → insert_key nat_cmp ns n ≡ put n ns
insert_put n [] = refl
insert_put n (m ∷ ms) = by (insert_put n ms) (cases_order n m)
  where
    by : insert_key nat_cmp ms n ≡ put n ms → (n ≡ m) ⊎ ((n < m) ⊎ (m < n)) → insert_key nat_cmp (m ∷ ms) n ≡ put n (m ∷ ms)
    by ih (inl e) =
        ap (λ r. match_ordering r (n ∷ m ∷ ms) (m ∷ ms) (m ∷ insert_key nat_cmp ms n)) (sym (nat_cmp_is n m Equal e)) ∙ sym
        (put-at n m ms (sym e))
    by ih (inr (inl l)) =
        ap (λ r. match_ordering r (n ∷ m ∷ ms) (m ∷ ms) (m ∷ insert_key nat_cmp ms n)) (sym (nat_cmp_is n m Less l)) ∙ sym
        (put-before n m ms l)
    by ih (inr (inr l)) =
        ap (λ r. match_ordering r (n ∷ m ∷ ms) (m ∷ ms) (m ∷ insert_key nat_cmp ms n)) (sym (nat_cmp_is n m Greater l))
        ∙ ap (λ xs. m ∷ xs) ih ∙ sym (put-behind n m ms l)

put_each : (xs ys v : List ℕ) → put_all (xs ++ ys) v ≡ put_all ys (put_all xs v)
put_each [] ys v = refl
put_each (x ∷ xs) ys v = put_each xs ys _

-- a number that is new
pub met_numbers : (keys order new more : List ℕ) (n : ℕ) → keys ≡ ascending order → new ≡ insert_key nat_cmp keys n →
    more ≡ order ++ n ∷ [] →
    new ≡ ascending more
met_numbers keys order new more n e f g =
    f ∙ insert_put n keys ∙ ap (put n) e ∙ sym (put_each order (n ∷ []) []) ∙ sym (ap ascending g)

-- ---- what is added

adds_none : (ns order : List ℕ) → ((n : ℕ) → Contains ns n → Contains order n) → Adds ns order order
adds_none ns order h = record {
  others = [];
  behind = sym (append-nil order);
  all = h;
  only = λ n k. absurd (none_in n k);
}

pub adds_nothing : (order : List ℕ) → Adds [] order order
adds_nothing order = adds_none [] order (λ n h. absurd (none_in n h))

-- one that is there already
pub adds_there : (order : List ℕ) (n : ℕ) → Contains order n → Adds (n ∷ []) order order
adds_there order n here = adds_none (n ∷ []) order (λ m k. subst (λ x. Contains order x) (same_in n m k) here)

-- one that stands at some place is there
pub newest_there : (order : List ℕ) (k n m : ℕ) → Some m ≡ slice_get order k → m ≡ n → Contains order n
newest_there order k n m e f =
    let at : slice_get order k ≡ Some n = sym e ∙ ap Some f in (
      k,
      slice_get_within order k n at,
      (let same : Some (slice_index_or order k n) ≡ Some n = sym (slice_get-get_or order k n (slice_get_within order k n at)) ∙ at in cc),
    )

-- one that was met before
pub adds_again : (s : BTreeSet ℕ) (order : List ℕ) (n : ℕ) → s.keys ≡ ascending order → contains nat_cmp s n ≡ true →
    Adds (n ∷ []) order order
adds_again s order n e h = adds_there order n here
  where
    here : Contains order n
    here =
        ascending-sound order n
        (subst (λ ks. Contains ks n) e ((btree_set_contains_iff nat_cmp_total exact_unsigned s n).0 h))

pub adds_one : (order more : List ℕ) (n : ℕ) → more ≡ order ++ n ∷ [] → Adds (n ∷ []) order more
adds_one order more n e = record {
  others = n ∷ [];
  behind = e;
  all = λ m h. subst (λ ns. Contains ns m) (sym e) (Contains-append_right order (n ∷ []) m h);
  only = λ m h. h;
}

adds_both : (xs ys a b c : List ℕ) → Adds xs a b → Adds ys b c → Adds (xs ++ ys) a c
adds_both xs ys a b c p q = record {
  others = p.others ++ q.others;
  behind = q.behind ∙ ap (λ l. l ++ q.others) p.behind ∙ append_assoc a p.others q.others;
  all = λ n h. all_of n (Contains-append_cases xs ys n h);
  only = λ n h. only_of n (Contains-append_cases p.others q.others n h);
}
  where
    all_of : (n : ℕ) → Contains xs n ⊎ Contains ys n → Contains c n
    all_of n (inl h) = subst (λ l. Contains l n) (sym q.behind) (Contains-append_left b q.others n (p.all n h))
    all_of n (inr h) = q.all n h

    only_of : (n : ℕ) → Contains p.others n ⊎ Contains q.others n → Contains (xs ++ ys) n
    only_of n (inl h) = Contains-append_left xs ys n (p.only n h)
    only_of n (inr h) = Contains-append_right xs ys n (q.only n h)

leads-append : (cs ds : List Cell) → leads (cs ++ ds) ≡ leads cs ++ leads ds
leads-append [] ds = refl
leads-append (c ∷ cs) ds = ap (λ l. led_to c ++ l) (leads-append cs ds) ∙ sym (append_assoc (led_to c) (leads cs) (leads ds))

-- those to which the cells lead up to one, and those to which this leads
pub adds_more : (cs : List Cell) (i : ℕ) (x : Cell) (a b c : List ℕ) → slice_get cs i ≡ Some x → Adds (leads (take i cs)) a b →
    Adds (led_to x) b c → Adds (leads (take (i + 1) cs)) a c
adds_more cs i x a b c e p q =
    let more : leads (take (i + 1) cs) ≡ leads (take i cs) ++ led_to x
    = ap leads (take-get cs i x e) ∙ leads-append (take i cs) (x ∷ []) ∙ ap (λ l. leads (take i cs) ++ l) (append-nil (led_to x)) in
    subst (λ ns. Adds ns a c) (sym more) (adds_both (leads (take i cs)) (led_to x) a b c p q)

-- a cell leads to what those lead to among which it is
leads_one : (cs : List Cell) (c : Cell) (n : ℕ) → Contains cs c → Contains (led_to c) n → Contains (leads cs) n
leads_one [] c n (k, l, e) h = absurd (omega (arith, l))
leads_one (x ∷ cs) c n (zero, l, e) h = Contains-append_left (led_to x) (leads cs) n (subst (λ y. Contains (led_to y) n) (sym e) h)
leads_one (x ∷ cs) c n (suc k, l, e) h = Contains-append_right (led_to x) (leads cs) n (leads_one cs c n (k, omega (arith, l), e) h)

led_by_one : (cs : List Cell) (n : ℕ) → Contains (leads cs) n → (c : Cell) × Contains cs c × Contains (led_to c) n
led_by_one [] n (k, l, e) = absurd (omega (arith, l))
led_by_one (x ∷ cs) n h = by (led_by_one cs n) (Contains-append_cases (led_to x) (leads cs) n h)
  where
    by : (Contains (leads cs) n → (c : Cell) × Contains cs c × Contains (led_to c) n) → Contains (led_to x) n ⊎ Contains (leads cs) n →
        (c : Cell) × Contains (x ∷ cs) c × Contains (led_to c) n
    by rest (inl g) = (x, (0, omega arith, refl), g)
    by rest (inr g) = let r = rest g in (r.0, (suc r.1.0, omega (arith, r.1.1), r.1.2), r.2)

leads_within : (xs ys : List Cell) → ((c : Cell) → Contains xs c → Contains ys c) → (n : ℕ) → Contains (leads xs) n → Contains (leads ys) n
leads_within xs ys f n h = let r = led_by_one xs n h in leads_one ys r.0 n (f r.0 r.1) r.2

-- two lists with the same cells add the same
pub adds_alike : (xs ys : List Cell) (i : ℕ) (a b : List ℕ) → length xs ≤ i → ((c : Cell) → Contains xs c ↔ Contains ys c) →
    Adds (leads (take i xs)) a b → Adds (leads ys) a b
adds_alike xs ys i a b l f h =
    let p = subst (λ cs. Adds (leads cs) a b) (take_all i xs l) h in
    record {
      others = p.others;
      behind = p.behind;
      all = λ n k. p.all n (leads_within ys xs (λ c. (f c).1) n k);
      only = λ n k. leads_within xs ys (λ c. (f c).0) n (p.only n k);
    }

-- ---- what is reached

sorted_put : (is js : List ℕ) → Ascends js → put_all is js ≡ ascending (js ++ is)
sorted_put is js a =
    ap (put_all is)
    (one_ascending js (ascending js) a (Ascends-put_all js [] tt)
    (λ n h. In-from n (ascending js) (ascending-whole js n (In-to n js h)))
    (λ n h. In-from n js (ascending-sound js n (In-to n (ascending js) h))))
    ∙ sym (put_each js is [])

put_old : (is js : List ℕ) (n : ℕ) → Ascends js → Contains js n → Contains (put_all is js) n
put_old is js n a h = subst (λ l. Contains l n) (sym (sorted_put is js a)) (ascending-whole (js ++ is) n (Contains-append_left js is n h))

put_new : (is js : List ℕ) (n : ℕ) → Ascends js → Contains is n → Contains (put_all is js) n
put_new is js n a h = subst (λ l. Contains l n) (sym (sorted_put is js a)) (ascending-whole (js ++ is) n (Contains-append_right js is n h))

put_only : (is js : List ℕ) (n : ℕ) → Ascends js → Contains (put_all is js) n → Contains js n ⊎ Contains is n
put_only is js n a h =
    Contains-append_cases js is n (ascending-sound (js ++ is) n (subst (λ l. Contains l n) (sorted_put is js a) h))

module _ (find : ℕ → Option (List Cell)) where
  -- to what the objects with these numbers lead
  abbrev led : List ℕ → List ℕ
  led ns = flat_map (λ n. leads (cells_by find n)) ns

  led_in : (ns : List ℕ) (n m : ℕ) → Contains ns n → Contains (leads (cells_by find n)) m → Contains (led ns) m
  led_in ns n m h k = by ns (In-from n ns h)
    where
      by : (l : List ℕ) → In n l → Contains (led l) m
      by [] g = absurd g
      by (x ∷ xs) (inl e) =
          Contains-append_left (leads (cells_by find x)) (led xs) m (subst (λ y. Contains (leads (cells_by find y)) m) (sym e) k)
      by (x ∷ xs) (inr g) = Contains-append_right (leads (cells_by find x)) (led xs) m (by xs g)

  -- where each of some leads only to others, what they lead to is among these
  led_out : (ns order : List ℕ) (m : ℕ) → ((n : ℕ) → In n ns → Contains (leads (cells_by find n)) m → Contains order m) →
      Contains (led ns) m → Contains order m
  led_out [] order m h k = absurd (none_in m k)
  led_out (x ∷ xs) order m h k = by (led_out xs order m (λ n g. h n (inr g))) (Contains-append_cases (leads (cells_by find x)) (led xs) m k)
    where
      by : (Contains (led xs) m → Contains order m) → Contains (leads (cells_by find x)) m ⊎ Contains (led xs) m → Contains order m
      by rest (inl g) = h x (inl refl) g
      by rest (inr g) = rest g

  abbrev step : List ℕ → List ℕ
  step ns = put_all (led ns) ns

  reached_last : (k : ℕ) (ns : List ℕ) → reached_by find (suc k) ns ≡ step (reached_by find k ns)
  reached_last zero ns = refl
  reached_last (suc k) ns = reached_last k (step ns)

  Ascends-reached : (k : ℕ) (ns : List ℕ) → Ascends ns → Ascends (reached_by find k ns)
  Ascends-reached zero ns a = a
  Ascends-reached (suc k) ns a = Ascends-reached k (step ns) (Ascends-put_all (led ns) ns a)

  -- all that is reached is in a list that has the first ones and to what each of its own leads
  reached_within : (k : ℕ) (ns order : List ℕ) → Ascends ns → ((n : ℕ) → Contains ns n → Contains order n) →
      ((n : ℕ) → Contains order n → (m : ℕ) → Contains (leads (cells_by find n)) m → Contains order m) →
      (n : ℕ) → Contains (reached_by find k ns) n → Contains order n
  reached_within zero ns order a h closed n g = h n g
  reached_within (suc k) ns order a h closed n g =
      reached_within k (step ns) order (Ascends-put_all (led ns) ns a) (λ m i. by m (put_only (led ns) ns m a i)) closed n g
    where
      by : (m : ℕ) → Contains ns m ⊎ Contains (led ns) m → Contains order m
      by m (inl i) = h m i
      by m (inr i) = led_out ns order m (λ x j. closed x (h x (In-to x ns j)) m) i

  -- so many of those that were met have met the ones to which they lead
  pub record Reaches (cs : List Cell) (i : ℕ) (order : List ℕ) : Type 0 where
    pub start : (n : ℕ) → Contains (leads cs) n → Contains order n
    pub closed : (n : ℕ) → Contains (take i order) n → (m : ℕ) → Contains (leads (cells_by find n)) m → Contains order m
    pub reach : (n : ℕ) → Contains order n → Contains (reached_by find i (ascending (leads cs))) n

  sorted_start : (cs : List Cell) → Ascends (ascending (leads cs))
  sorted_start cs = Ascends-put_all (leads cs) [] tt

  pub reaches_first : (cs : List Cell) (order : List ℕ) → Adds (leads cs) [] order → Reaches cs 0 order
  reaches_first cs order p = record {
    start = p.all;
    closed = λ n h. absurd (none_in n h);
    reach = λ n h. ascending-whole (leads cs) n (p.only n (subst (λ l. Contains l n) p.behind h));
  }

  module _ (cs : List Cell) (i : ℕ) (order new : List ℕ) (r : Reaches cs i order) where
    abbrev all : List ℕ
    all = reached_by find i (ascending (leads cs))

    later : (n : ℕ) → Contains (step all) n → Contains (reached_by find (i + 1) (ascending (leads cs))) n
    later n h =
        let next : i + 1 ≡ suc i = omega arith in
        subst (λ k. Contains (reached_by find k (ascending (leads cs))) n) (sym next)
        (subst (λ l. Contains l n) (sym (reached_last i (ascending (leads cs)))) h)

    still : (n : ℕ) → Contains order n → Contains (reached_by find (i + 1) (ascending (leads cs))) n
    still n h = later n (put_old (led all) all n (Ascends-reached i (ascending (leads cs)) (sorted_start cs)) (r.reach n h))

    module _ (ns : List ℕ) (p : Adds ns order new) where
      kept : (n : ℕ) → Contains order n → Contains new n
      kept n h = subst (λ l. Contains l n) (sym p.behind) (Contains-append_left order p.others n h)

      of_new : (n : ℕ) → Contains new n → Contains order n ⊎ Contains ns n
      of_new n h = by (Contains-append_cases order p.others n (subst (λ l. Contains l n) p.behind h))
        where
          by : Contains order n ⊎ Contains p.others n → Contains order n ⊎ Contains ns n
          by (inl g) = inl g
          by (inr g) = inr (p.only n g)

    past : (ns : List ℕ) (k : ℕ) → slice_get ns k ≡ None → length ns ≤ k
    past [] k f = omega arith
    past (n ∷ ns) zero f = absurd cc
    past (n ∷ ns) (suc k) f = let l = past ns k f in omega arith

    -- where there is no other to look at
    none_more : slice_get order i ≡ None → Adds [] order new → Reaches cs (i + 1) new
    none_more e p = record {
      start = λ n h. kept [] p n (r.start n h);
      closed = λ n h m k. kept [] p m (r.closed n
          (subst (λ l. Contains l n) (sym (take_all i order (past order i e))) (old n (taken_in (i + 1) new n h))) m k);
      reach = λ n h. still n (old n h);
    }
      where
        old : (n : ℕ) → Contains new n → Contains order n
        old n h = by (of_new [] p n h)
          where
            by : Contains order n ⊎ Contains [] n → Contains order n
            by (inl g) = g
            by (inr g) = absurd (none_in n g)

    one_more : (x : ℕ) → slice_get order i ≡ Some x → Adds (leads (cells_by find x)) order new → Reaches cs (i + 1) new
    one_more x e p = record {
      start = λ n h. kept (leads (cells_by find x)) p n (r.start n h);
      closed = λ n h m k. closed_by n m (Contains-append_cases (take i order) (x ∷ []) n (subst (λ l. Contains l n) front h)) k;
      reach = λ n h. reach_by n (of_new (leads (cells_by find x)) p n h);
    }
      where
        front : take (i + 1) new ≡ take i order ++ x ∷ []
        front =
            let next : i + 1 ≡ suc i = omega arith in
            ap₂ take next p.behind ∙ taken_front order p.others i x e

        closed_by : (n m : ℕ) → Contains (take i order) n ⊎ Contains (x ∷ []) n → Contains (leads (cells_by find n)) m → Contains new m
        closed_by n m (inl g) k = kept (leads (cells_by find x)) p m (r.closed n g m k)
        closed_by n m (inr g) k = p.all m (subst (λ y. Contains (leads (cells_by find y)) m) (sym (same_in x n g)) k)

        reach_by : (n : ℕ) → Contains order n ⊎ Contains (leads (cells_by find x)) n →
            Contains (reached_by find (i + 1) (ascending (leads cs))) n
        reach_by n (inl g) = still n g
        reach_by n (inr g) =
            later n (put_new (led all) all n (Ascends-reached i (ascending (leads cs)) (sorted_start cs))
            (led_in all x n (r.reach x (got_in order i x e)) g))

    pub reaches_more : (o : Option ℕ) → slice_get order i ≡ o → Adds (led_from find o) order new → Reaches cs (i + 1) new
    reaches_more None e p = none_more e p
    reaches_more (Some x) e p = one_more x e p

  -- where all have been looked at
  pub reaches_all : (cs : List Cell) (i : ℕ) (order keys : List ℕ) → Reaches cs i order → length order ≤ i → keys ≡ ascending order →
      keys ≡ reached_by find i (ascending (leads cs))
  reaches_all cs i order keys r l e =
      e
      ∙ one_ascending (ascending order) (reached_by find i (ascending (leads cs))) (Ascends-put_all order [] tt)
      (Ascends-reached i (ascending (leads cs)) (sorted_start cs))
      (λ n h. In-from n (reached_by find i (ascending (leads cs))) (r.reach n (ascending-sound order n (In-to n (ascending order) h))))
      (λ n h. In-from n (ascending order) (ascending-whole order n
      (reached_within i (ascending (leads cs)) order (sorted_start cs) (λ m k. r.start m (ascending-sound (leads cs) m k)) closed n
      (In-to n (reached_by find i (ascending (leads cs))) h))))
    where
      closed : (n : ℕ) → Contains order n → (m : ℕ) → Contains (leads (cells_by find n)) m → Contains order m
      closed n h m k = r.closed n (subst (λ x. Contains x n) (sym (take_all i order l)) h) m k

  -- ---- the list

  pub listed_more : (ns more : List ℕ) (n : ℕ) (cs : List Cell) (os new : List ConstObject) → more ≡ ns ++ n ∷ [] → cs ≡ cells_by find n →
      new ≡ os ++ record { object = n; cells = cs } ∷ [] → os ≡ listed_by find ns → new ≡ listed_by find more
  listed_more ns more n cs os new e f g h =
      g ∙ ap₂ (λ xs ds. xs ++ record { object = n; cells = ds } ∷ []) h f ∙ sym (push ns) ∙ sym (ap (listed_by find) e)
    where
      push : (ms : List ℕ) → listed_by find (ms ++ n ∷ []) ≡ listed_by find ms ++ record { object = n; cells = cells_by find n } ∷ []
      push [] = refl
      push (m ∷ ms) = ap (λ l. record { object = m; cells = cells_by find m } ∷ l) (push ms)

-- ---- a list by its places

-- an element of a list is the same whatever stands for those past its end
pub get_or_any : (ns : List ℕ) (i x y : ℕ) → i < length ns → get_or ns i x ≡ get_or ns i y
get_or_any [] i x y h = absurd (omega arith)
get_or_any (n ∷ ns) zero x y h = refl
get_or_any (n ∷ ns) (suc i) x y h = get_or_any ns i x y (omega arith)
