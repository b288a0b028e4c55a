-- What a verdict lists is what the node settles.
use Rattle.std.proofs.Common.{◌≡◌, ◌≢◌, ◌⊎◌, inl, inr, ℕ, zero, suc, ◌<◌, Bool, true, false, List, [], ◌∷◌, ◌++◌, map, length, drop, refl, ap, sym, ◌∙◌, subst, arith}
use Rattle.std.specs.Prelude.{slice_get, slice_set, Option, Some, None}
use Rattle.hare_tree.specs.declared.kind.Kind.{Kind}
use Rattle.hare_tree.specs.declared.kind.Kind.TheVariants as ki
use Rattle.hare_types.specs.declared.coercion.Ty.{Ty}
use Rattle.hare_types.specs.declared.coercion.Coercion.{Coercion}
use Rattle.hare_types.specs.Store.{Store}
use Rattle.hare_typed.specs.Typed.{TypedNode}
use Rattle.hare_typed.specs.Order.{tree_from_front}
use Rattle.hare_typed.specs.Copies.{has_defers as takes_yields}
use Rattle.hare_typed.specs.Numbers.{kind_of, number_of}
use Rattle.hare_rules.specs.declared.hint.Hint.TheVariants as hint
use Rattle.hare_rules.specs.declared.declared.Local.{Local}
use Rattle.hare_rules.specs.declared.judged.Case.{Case}
use Rattle.hare_rules.specs.declared.judged.Yielded.{Yielded}
use Rattle.hare_rules.specs.Context.{Context, Given, store_of, kid, own_type}
use Rattle.hare_rules.specs.Settles.{Settled, same, to_type, target_of, kid_coercion, settled_where, settles_from, settles_late, given_to, each_given_to, joined_target}
use Rattle.hare_rules.specs.Flow.{write_each}
use Rattle.hare_rules.specs.Judged.{was_hinted, hands_on, unless, coercions_from, yield_coercions}
use Rattle.hare_rules.specs.Words.{typed_as}
use Rattle.hare_rules.specs.Joined.{joined}
use Rattle.hare_rules.specs.Control.{block_values, end_behind, block_type_by}
use Rattle.hare_rules.specs.Types.{type_by}
use Rattle.hare_told.specs.Told.{IsToldType, AreToldYields, has_judge}
use Rattle.hare_told.specs.Settled.{unless_hinted, listed_from, HasNone, AreApart, AreAsIs, HandNothingOn, late_where, listed_late, IsAllSettled, VerdictsSettle}
use Rattle.hare_told.proofs.Yields.{joined-told}
use Rattle.hare_told.proofs.Verdicts.{seen, told-seen, type_in_role-judge}
use Rattle.hare_told.proofs.Targets.{target_unhinted}

-- ---- where kids go

pub target_of-seen : (k : Kind) (ls : List Local) (ys : List Yielded) (c : Context) (i : ℕ) → target_of (seen ls ys c) k i ≡ target_of c k i
target_of-seen ki.Arith ls ys c i = refl
target_of-seen _ ls ys c i = refl

pub kid_coercion-seen : (ls : List Local) (ys : List Yielded) (c : Context) (i : ℕ) → kid_coercion (seen ls ys c) i ≡ kid_coercion c i
kid_coercion-seen ls ys c i = ap (to_type (store_of c) (own_type (kid c i))) (target_of-seen c.head.kind ls ys c i)

-- ---- lists

set_same : (cs : List Coercion) (n : ℕ) (r : Coercion) → slice_get cs n ≡ Some r → slice_set cs n r ≡ cs
set_same [] n r e = cc
set_same (c ∷ cs) zero r e = let s : c ≡ r = cc in ap (λ x. x ∷ cs) (sym s)
set_same (c ∷ cs) (suc n) r e = ap (λ l. c ∷ l) (set_same cs n r e)

get_other : (cs : List Coercion) (i j : ℕ) (r : Coercion) → i ≢ j → slice_get (slice_set cs i r) j ≡ slice_get cs j
get_other [] i j r h = refl
get_other (y ∷ ys) zero zero r h = absurd (h refl)
get_other (y ∷ ys) zero (suc j) r h = refl
get_other (y ∷ ys) (suc i) zero r h = refl
get_other (y ∷ ys) (suc i) (suc j) r h = get_other ys i j r (λ e. h (ap suc e))

as_is-set : (j : Context) (i n : ℕ) (xs : List TypedNode) (cs : List Coercion) (r : Coercion) → HasNone n xs → AreAsIs j i xs cs →
    AreAsIs j i xs (slice_set cs n r)
as_is-set j i n [] cs r h k = tt
as_is-set j i n (x ∷ xs) cs r h k = (λ e. get_other cs n (number_of x) r h.0 ∙ k.0 e, as_is-set j (suc i) n xs cs r h.1 k.1)

pub first_left : (xs ys : List TypedNode) (i : ℕ) (x : TypedNode) → drop i xs ≡ x ∷ ys → tree_from_front i xs ≡ x
first_left [] ys zero x e = cc
first_left [] ys (suc i) x e = cc
first_left (y ∷ xs) ys zero x e = cc
first_left (y ∷ xs) ys (suc i) x e = first_left xs ys i x e

pub left_within : (xs ys : List TypedNode) (i : ℕ) (x : TypedNode) → drop i xs ≡ x ∷ ys → i < length xs
left_within [] ys zero x e = cc
left_within [] ys (suc i) x e = cc
left_within (y ∷ xs) ys zero x e = omega arith
left_within (y ∷ xs) ys (suc i) x e = let h = left_within xs ys i x e in omega (arith, h)

pub next_left : (xs ys : List TypedNode) (i : ℕ) (x : TypedNode) → drop i xs ≡ x ∷ ys → drop (suc i) xs ≡ ys
next_left [] ys zero x e = cc
next_left [] ys (suc i) x e = cc
next_left (y ∷ xs) ys zero x e = cc
next_left (y ∷ xs) ys (suc i) x e = next_left xs ys i x e

-- ---- kids

-- one kid, and then the others
kid_written : (c : Context) (b : Bool) (i : ℕ) (x : TypedNode) (o : Option ℕ) (ss ts : List Settled) (r : Coercion) (cs : List Coercion) →
    r ≡ to_type (store_of c) (own_type x) o → kid_coercion c i ≡ r → ((t : ℕ) → o ≡ Some t → b ≡ false) →
    (b ≡ false → slice_get cs (number_of x) ≡ Some (same (own_type x))) →
    ((ds : List Coercion) → (ds ≡ cs) ⊎ (ds ≡ slice_set cs (number_of x) r) → write_each ss ds ≡ write_each ts ds) →
    write_each (settled_where c x i o ++ ss) cs ≡ write_each (unless_hinted b (record { node = number_of x; coercion = r }) ++ ts) cs
kid_written c true i x None ss ts r cs p q h k n = n cs (inl refl)
kid_written c false i x None ss ts r cs p q h k n =
    let e : slice_set cs (number_of x) r ≡ cs = ap (slice_set cs (number_of x)) p
    ∙ set_same cs (number_of x) (same (own_type x)) (k refl) in
    n cs (inl refl) ∙ ap (write_each ts) (sym e)
kid_written c true i x (Some t) ss ts r cs p q h k n = let e = h t refl in cc
kid_written c false i x (Some t) ss ts r cs p q h k n =
    ap (λ y. write_each ss (slice_set cs (number_of x) y)) q ∙ n (slice_set cs (number_of x) r) (inr refl)

pub kids_written : (c : Context) (ls : List Local) (ys : List Yielded) (i : ℕ) (xs : List TypedNode) (cs : List Coercion) →
    drop i c.kids ≡ xs →
    HandNothingOn xs → AreApart xs → AreAsIs (seen ls ys c) i xs cs →
    write_each (settles_from c i xs) cs ≡ write_each (listed_from (seen ls ys c) i xs) cs
kids_written c ls ys i [] cs e h a k = refl
kids_written c ls ys i (x ∷ xs) cs e h a k =
    let j = seen ls ys c in
    let f : kid c i ≡ x = first_left c.kids xs i x e in
    let o = target_of c c.head.kind i in
    let p : kid_coercion j i ≡ to_type (store_of c) (own_type x) o =
    kid_coercion-seen ls ys c i ∙ ap (λ y. to_type (store_of c) (own_type y) o) f in
    let hands : hands_on (kind_of (kid c i)) ≡ false = ap (λ y. hands_on (kind_of y)) f ∙ h.0 in
    let next = next_left c.kids xs i x e in
    kid_written c (was_hinted j i) i x o (settles_from c (suc i) xs) (listed_from j (suc i) xs) (kid_coercion j i) cs p
    (sym (kid_coercion-seen ls ys c i))
    (λ t w. target_unhinted j i t (left_within c.kids xs i x e) hands (target_of-seen c.head.kind ls ys c i ∙ w))
    k.0
    (λ ds w. by_write ds w (λ (m : AreAsIs j (suc i) xs ds). kids_written c ls ys (suc i) xs ds next h.1 a.1 m) (as_is-set j (suc i)
    (number_of x) xs cs (kid_coercion j i) a.0 k.1))
  where
    by_write : (ds : List Coercion) → (ds ≡ cs) ⊎ (ds ≡ slice_set cs (number_of x) (kid_coercion (seen ls ys c) i)) →
        (AreAsIs (seen ls ys c) (suc i) xs ds → write_each (settles_from c (suc i) xs) ds ≡ write_each (listed_from (seen ls ys c)
        (suc i) xs) ds) →
        AreAsIs (seen ls ys c) (suc i) xs (slice_set cs (number_of x) (kid_coercion (seen ls ys c) i)) →
        write_each (settles_from c (suc i) xs) ds ≡ write_each (listed_from (seen ls ys c) (suc i) xs) ds
    by_write ds (inl w) g m = g (subst (λ (es : List Coercion). AreAsIs (seen ls ys c) (suc i) xs es) (sym w) k.1)
    by_write ds (inr w) g m = g (subst (λ (es : List Coercion). AreAsIs (seen ls ys c) (suc i) xs es) (sym w) m)

-- what is listed for kids is what the verdict lists
listed-one : (b : Bool) (n : ℕ) (r : Coercion) (ss : List Settled) (rs : List Coercion) → map (λ (s : Settled). s.coercion) ss ≡ rs →
    map (λ (s : Settled). s.coercion) (unless_hinted b (record { node = n; coercion = r }) ++ ss) ≡ unless b r ++ rs
listed-one true n r ss rs e = e
listed-one false n r ss rs e = ap (λ l. r ∷ l) e

pub listed-coercions : (j : Context) (i : ℕ) (xs : List TypedNode) →
    map (λ (s : Settled). s.coercion) (listed_from j i xs) ≡ coercions_from j i xs
listed-coercions j i [] = refl
listed-coercions j i (x ∷ xs) =
    listed-one (was_hinted j i) (number_of x) (kid_coercion j i) (listed_from j (suc i) xs) (coercions_from j (suc i) xs)
    (listed-coercions j (suc i) xs)

-- nothing is settled of the kid of a `yield`
settled_none : (c : Context) (i : ℕ) (xs : List TypedNode) → c.head.kind ≡ ki.Yield → settles_from c i xs ≡ []
settled_none c i [] e = refl
settled_none c i (x ∷ xs) e = rw e (settled_none c (suc i) xs e)

-- ---- yielded values

each_none : (s : Store) (gs : List Given) → each_given_to s None gs ≡ []
each_none s [] = refl
each_none s (g ∷ gs) = each_none s gs

given_late : (s : Store) (t : ℕ) (o : Option ℕ) (p : Option Ty) (b : Ty) → IsToldType s p b →
    given_to s (Some t) o p ≡ late_where o p (to_type s b (Some t))
given_late s t None p b h = refl
given_late s t (Some n) None b h = refl
given_late s t (Some n) (Some a) b h = ap (λ x. record { node = n; coercion = to_type s x (Some t) } ∷ []) (sym h)

each_late : (s : Store) (t : ℕ) (gs : List Given) (ys : List Yielded) → AreToldYields s gs ys →
    each_given_to s (Some t) gs ≡ listed_late gs (map (λ y. to_type s y.ty (Some t)) ys)
each_late s t [] [] h = refl
each_late s t [] (y ∷ ys) h = absurd h
each_late s t (g ∷ gs) [] h = absurd h
each_late s t (g ∷ gs) (y ∷ ys) h = rw (given_late s t g.node g.ty y.ty h.0.1, each_late s t gs ys h.1) refl

-- where the node has a type, what was yielded to it comes together in one
late_by : (s : Store) (o : Option ℕ) (gs : List Given) (ys : List Yielded) → AreToldYields s gs ys →
    ((gs ≡ []) ⊎ ((t : ℕ) × (o ≡ Some t))) →
    each_given_to s o gs ≡ listed_late gs (map (λ y. to_type s y.ty o) ys)
late_by s o gs ys h (inl e) = rw e (each_none s [])
late_by s o gs ys h (inr (t, e)) = rw e (each_late s t gs ys h)

-- the type of a block, in which something was yielded, is what it comes together in
joined_there : (c : Context) (a : Ty) → typed_as (block_type_by c (block_values c)) ≡ Some a →
    (c.yields ≡ []) ⊎ ((t : ℕ) × (joined (store_of c) c.hint (block_values c) ≡ Some t))
joined_there c a e = by_yields c.yields refl e where
  by_type : (o : Option ℕ) → typed_as o ≡ Some a → (t : ℕ) × (o ≡ Some t)
  by_type None h = cc
  by_type (Some t) h = (t, refl)

  by_yields : (gs : List Given) → c.yields ≡ gs → typed_as (block_type_by c (gs ++ end_behind c gs)) ≡ Some a →
      (c.yields ≡ []) ⊎ ((t : ℕ) × (joined (store_of c) c.hint (block_values c) ≡ Some t))
  by_yields [] h k = inl h
  by_yields (g ∷ gs) h k =
      let p = by_type (joined (store_of c) c.hint ((g ∷ gs) ++ end_behind c (g ∷ gs))) k in
      inr (p.0, ap (λ vs. joined (store_of c) c.hint (vs ++ end_behind c vs)) h ∙ p.1)

-- what is settled late of a block or a case
late_block : (c : Context) (ls : List Local) (ys : List Yielded) (a : Ty) → AreToldYields (store_of c) c.yields ys → c.hint ≡ hint.None →
    typed_as (block_type_by c (block_values c)) ≡ Some a →
    each_given_to (store_of c) (joined_target (store_of c) c.hint (block_values c)) c.yields
    ≡ listed_late c.yields (yield_coercions (store_of c) c.hint (joined_target (store_of c) c.hint (block_values (seen ls ys c))) ys)
late_block c ls ys a h e k =
    let s = store_of c in
    let o = joined s hint.None (block_values c) in
    let p = joined_there c a k in
    let q : joined s hint.None (block_values (seen ls ys c)) ≡ o = joined-told c hint.None ys h in
    let r : (c.yields ≡ []) ⊎ ((t : ℕ) × (o ≡ Some t)) = rw e at p in
    rw (e, q) (late_by s o c.yields ys h r)

has_type : (c : Context) (k : Kind) (a : Ty) → takes_yields k ≡ true → type_by c k ≡ Some a →
    typed_as (block_type_by c (block_values c)) ≡ Some a
has_type c ki.Block a e h = h
has_type c ki.Case a e h = h
has_type c ki.SwitchCase a e h = h
has_type c _ a e h = cc

late_kind : (c : Context) (k : Kind) → takes_yields k ≡ true →
    settles_late c k ≡ each_given_to (store_of c) (joined_target (store_of c) c.hint (block_values c)) c.yields
late_kind c ki.Block e = refl
late_kind c ki.Case e = refl
late_kind c ki.SwitchCase e = refl
late_kind c _ e = cc

late_other : (c : Context) (k : Kind) → takes_yields k ≡ false → settles_late c k ≡ []
late_other c ki.Block e = cc
late_other c ki.Case e = cc
late_other c ki.SwitchCase e = cc
late_other c _ e = refl

-- where the node is asked for something, each value has been judged by that
late_asked : (c : Context) (k : Kind) → joined_target (store_of c) c.hint (block_values c) ≡ None → settles_late c k ≡ []
late_asked c k e = by_kind (takes_yields k) refl where
  by_kind : (b : Bool) → takes_yields k ≡ b → settles_late c k ≡ []
  by_kind true h = late_kind c k h ∙ ap (λ o. each_given_to (store_of c) o c.yields) e ∙ each_none (store_of c) c.yields
  by_kind false h = late_other c k h

-- ---- all of it

all_settled_as : (c : Context) (ls : List Local) (q : Case) → AreToldYields (store_of c) c.yields q.yields →
    has_judge c.inside.role ≡ true →
    IsAllSettled c (seen ls q.yields c) q
all_settled_as c ls q y r =
    record {
      listed = listed-coercions (seen ls q.yields c) 0 c.kids;
      kids = λ cs h a k. kids_written c ls q.yields 0 c.kids cs refl h a k;
      of_yield = λ e. settled_none c 0 c.kids e;
      late = λ a e h t.
          late_kind c c.head.kind e
          ∙ late_block c ls q.yields a y h (has_type c c.head.kind a e (sym (type_in_role-judge c c.inside.role r) ∙ t));
      asked = λ t e. late_asked c c.head.kind (ap (λ h. joined_target (store_of c) h (block_values c)) e);
      dropped = λ e. late_asked c c.head.kind (ap (λ h. joined_target (store_of c) h (block_values c)) e);
      others = λ e. late_other c c.head.kind e;
    }

pub verdicts_settle : VerdictsSettle
verdicts_settle c ds ls q t =
    subst (λ (j : Context). IsAllSettled c j q) (sym (told-seen c ds ls q t)) (all_settled_as c ls q t.yields t.role)
