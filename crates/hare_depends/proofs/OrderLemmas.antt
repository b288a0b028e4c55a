-- There is one order, and one fault of circles.
use Rattle.std.proofs.Common.{◌≡◌, ℕ, ◌+◌, ◌<◌, ◌≤◌, List, [], ◌∷◌, ◌++◌, ◌⊎◌, inl, inr, length, slice_get, take, Option, Some, None, refl, sym, ap, ◌∙◌, subst, zero, suc, arith}
use Rattle.std.specs.Prelude.{Contains}
use Rattle.std.proofs.lemmas.Bool.{cases_lt}
use Rattle.hare_tree.specs.declared.place.Place.{Place}
use Rattle.hare_tree.specs.declared.place.Fault.{Fault}
use Rattle.hare_depends.specs.declared.said.Said.{Said}
use Rattle.hare_depends.specs.Dependence.{DependsOn, LeadsTo, at_once, further}
use Rattle.hare_depends.specs.Circles.{IsCircular, CircleNumber, of_constant, of_type, IsCircleFault}
use Rattle.hare_depends.specs.Order.{IsReady, IsFirstLeft, Descends, arrives, goes_on, IsAny, IsNext, IsOrder}
use Rattle.hare_depends.proofs.FindLemmas.{depends-there}

-- ---- fronts of lists

front-there : {A : Type 0} (xs : List A) (i : ℕ) (x : A) → slice_get xs i ≡ Some x → take (suc i) xs ≡ take i xs ++ x ∷ []
front-there [] i x e = absurd cc
front-there (y ∷ ys) zero x e = let h : y ≡ x = cc in ap (λ z. z ∷ []) h
front-there (y ∷ ys) (suc i) x e = ap (λ zs. y ∷ zs) (front-there ys i x e)

front-none : {A : Type 0} (xs : List A) (i : ℕ) → slice_get xs i ≡ None → take i xs ≡ xs
front-none [] zero e = refl
front-none [] (suc i) e = refl
front-none (y ∷ ys) zero e = absurd cc
front-none (y ∷ ys) (suc i) e = ap (λ zs. y ∷ zs) (front-none ys i e)

front-past : {A : Type 0} (xs : List A) (i : ℕ) → length xs ≤ i → take i xs ≡ xs
front-past [] zero l = refl
front-past [] (suc i) l = refl
front-past (y ∷ ys) zero l = absurd (omega arith)
front-past (y ∷ ys) (suc i) l = ap (λ zs. y ∷ zs) (front-past ys i (omega arith))

-- behind the end a front is the whole list
front-ended : {A : Type 0} (xs : List A) (i : ℕ) → slice_get xs i ≡ None → take (suc i) xs ≡ take i xs
front-ended [] zero e = refl
front-ended [] (suc i) e = refl
front-ended (y ∷ ys) zero e = absurd cc
front-ended (y ∷ ys) (suc i) e = ap (λ zs. y ∷ zs) (front-ended ys i e)

-- where an element of a front stands
front-place : {A : Type 0} (xs : List A) (k : ℕ) (x : A) → Contains (take k xs) x → (j : ℕ) × (j < k) × (slice_get xs j ≡ Some x)
front-place [] zero x c = absurd (omega (arith, c.1))
front-place [] (suc k) x c = absurd (omega (arith, c.1))
front-place (y ∷ ys) zero x c = absurd (omega (arith, c.1))
front-place (y ∷ ys) (suc k) x (zero, l, e) = (zero, omega arith, ap Some e)
front-place (y ∷ ys) (suc k) x (suc i, l, e) =
    let p = front-place ys k x (i, omega (arith, l), e) in (suc p.0, omega (arith, p.1), p.2)

place-of : {A : Type 0} (xs : List A) (x : A) → Contains xs x → (k : ℕ) × (slice_get xs k ≡ Some x)
place-of [] x c = absurd (omega (arith, c.1))
place-of (y ∷ ys) x (zero, l, e) = (zero, ap Some e)
place-of (y ∷ ys) x (suc i, l, e) = let p = place-of ys x (i, omega (arith, l), e) in (suc p.0, p.1)

in-front : {A : Type 0} (xs : List A) (j k : ℕ) (x : A) → j < k → slice_get xs j ≡ Some x → Contains (take k xs) x
in-front [] j k x l e = absurd cc
in-front (y ∷ ys) j zero x l e = absurd (omega arith)
in-front (y ∷ ys) zero (suc k) x l e = let h : y ≡ x = cc in (zero, omega arith, h)
in-front (y ∷ ys) (suc j) (suc k) x l e = let c = in-front ys j k x (omega arith) e in (suc c.0, omega (arith, c.1), c.2)

-- ---- the next is one

module _ (ds : List Said) (done : List ℕ) where
  first-once : (P : ℕ → Type 0) (d e : ℕ) → IsFirstLeft ds done P d → IsFirstLeft ds done P e → d ≡ e
  first-once P d e a b = by (cases_lt d e) (cases_lt e d)
    where
      by : (d < e) ⊎ (e ≤ d) → (e < d) ⊎ (d ≤ e) → d ≡ e
      by (inl l) k = absurd (b.first d l a.is_left a.holds)
      by (inr l) (inl k) = absurd (a.first e k b.is_left b.holds)
      by (inr l) (inr k) = omega arith

  descends-once : (c d e : ℕ) → Descends ds done c d → Descends ds done c e → d ≡ e
  descends-once c d e (arrives x r) (arrives y q) = refl
  descends-once c d e (arrives x r) (goes_on y u z f w) = absurd (f.is_left (r u f.holds))
  descends-once c d e (goes_on x u z f w) (arrives y q) = absurd (f.is_left (q u f.holds))
  descends-once c d e (goes_on x u z f w) (goes_on y v z' g w') =
      let s : u ≡ v = first-once (DependsOn ds c) u v f g in
      descends-once u d e w (subst (λ n. Descends ds done n e) (sym s) w')

  next-once : (d e : ℕ) → IsNext ds done d → IsNext ds done e → d ≡ e
  next-once d e a b =
      let s : a.from ≡ b.from = first-once IsAny a.from b.from a.first b.first in
      descends-once a.from d e a.descends (subst (λ n. Descends ds done n e) (sym s) b.descends)

  -- what is next is one of those that are left, and all on which it depends is done
  record IsTaken (d : ℕ) : Type 0 where
    is_there : d < length ds
    is_left : ¬ Contains done d
    ready : IsReady ds done d

  descends-taken : (c d : ℕ) → c < length ds → ¬ Contains done c → Descends ds done c d → IsTaken d
  descends-taken c d l n (arrives x r) = record { is_there = l; is_left = n; ready = r }
  descends-taken c d l n (goes_on x u z f w) = descends-taken u d f.is_there f.is_left w

  next-taken : (d : ℕ) → IsNext ds done d → IsTaken d
  next-taken d a = descends-taken a.from d a.first.is_there a.first.is_left a.descends

module _ (ds : List Said) (xs ys : List ℕ) (a : IsOrder ds xs) (b : IsOrder ds ys) where
  -- where one has ended, the other has not gone on
  none-left : (us vs : List ℕ) (n d : ℕ) → IsOrder ds vs → take n us ≡ take n vs → slice_get vs n ≡ None → IsNext ds (take n us) d → ⊥
  none-left us vs n d o e q i =
      (next-taken ds (take n us) d i).is_left
      (subst (λ zs. Contains zs d) (sym (e ∙ front-none vs n q)) (o.all d (next-taken ds (take n us) d i).is_there))

  fronts-agree : (n : ℕ) → take n xs ≡ take n ys
  fronts-agree zero = refl
  fronts-agree (suc n) = by (fronts-agree n) (slice_get xs n) (slice_get ys n) refl refl
    where
      by : take n xs ≡ take n ys → (o p : Option ℕ) → slice_get xs n ≡ o → slice_get ys n ≡ p → take (suc n) xs ≡ take (suc n) ys
      by f (Some d) (Some e) q r =
          let i : IsNext ds (take n ys) d = subst (λ zs. IsNext ds zs d) f (a.in_turn n d q) in
          let s : d ≡ e = next-once ds (take n ys) d e i (b.in_turn n e r) in
          front-there xs n d q ∙ ap (λ zs. zs ++ d ∷ []) f ∙ ap (λ z. take n ys ++ z ∷ []) s ∙ sym (front-there ys n e r)
      by f (Some d) None q r = absurd (none-left xs ys n d b f r (a.in_turn n d q))
      by f None (Some e) q r = absurd (none-left ys xs n e a (sym f) q (b.in_turn n e r))
      by f None None q r = front-ended xs n q ∙ f ∙ sym (front-ended ys n r)

  one-order : xs ≡ ys
  one-order =
      sym (front-past xs (length xs + length ys) (omega arith)) ∙ fronts-agree (length xs + length ys)
      ∙ front-past ys (length xs + length ys) (omega arith)

pub orders_are_one : (ds : List Said) (xs ys : List ℕ) → IsOrder ds xs → IsOrder ds ys → xs ≡ ys
orders_are_one ds xs ys a b = one-order ds xs ys a b

-- ---- no declaration is behind itself

module _ (ds : List Said) (xs : List ℕ) (a : IsOrder ds xs) where
  depends-earlier : (d e k : ℕ) → slice_get xs k ≡ Some d → DependsOn ds d e → (j : ℕ) × (j < k) × (slice_get xs j ≡ Some e)
  depends-earlier d e k q h = front-place xs k e ((next-taken ds (take k xs) d (a.in_turn k d q)).ready e h)

  leads-earlier : (d e k : ℕ) → slice_get xs k ≡ Some d → LeadsTo ds d e → (j : ℕ) × (j < k) × (slice_get xs j ≡ Some e)
  leads-earlier d e k q (at_once f h) = depends-earlier d e k q h
  leads-earlier d e k q (further f u l h) =
      let p = leads-earlier d f k q l in
      let r = depends-earlier f e p.0 p.2 h in (r.0, omega (arith, p.1, r.1), r.2)

  next-there : (d e : ℕ) → LeadsTo ds d e → d < length ds
  next-there d e (at_once f h) = depends-there ds d e h
  next-there d e (further f u l h) = next-there d f l

  no-circle : (d : ℕ) → LeadsTo ds d d → ⊥
  no-circle d l =
      let p = place-of xs d (a.all d (next-there d d l)) in
      let r = leads-earlier d d p.0 p.1 l in
      (next-taken ds (take p.0 xs) d (a.in_turn p.0 d p.1)).is_left (in-front xs r.0 p.0 d r.1 r.2)

pub orders_have_no_circles : (ds : List Said) (xs : List ℕ) (d : ℕ) → IsOrder ds xs → IsCircular ds d → ⊥
orders_have_no_circles ds xs d a l = no-circle ds xs a d l

-- ---- the fault of circles

number-once : (ds : List Said) (d n m : ℕ) → CircleNumber ds d n → CircleNumber ds d m → n ≡ m
number-once ds d n m (of_constant h) (of_constant k) = refl
number-once ds d n m (of_constant h) (of_type k) = absurd (k h)
number-once ds d n m (of_type h) (of_constant k) = absurd (h k)
number-once ds d n m (of_type h) (of_type k) = refl

abbrev fault_of : ℕ → Place → Fault
fault_of n p = record { number = n; place = p }

pub circle_faults_are_one : (ds : List Said) (f g : Fault) → IsCircleFault ds f → IsCircleFault ds g → f ≡ g
circle_faults_are_one ds f g a b = by (cases_lt a.decl b.decl) (cases_lt b.decl a.decl)
  where
    same-said : (s t : Said) → Some s ≡ Some t → s.place ≡ t.place
    same-said s t e = let h : s ≡ t = cc in ap (λ (x : Said). x.place) h

    equal : a.decl ≡ b.decl → f ≡ g
    equal e =
        let n : f.number ≡ g.number = number-once ds b.decl f.number g.number (subst (λ d. CircleNumber ds d f.number) e a.number)
        b.number in
        let s : Some a.said ≡ Some b.said = sym a.is_there ∙ ap (slice_get ds) e ∙ b.is_there in
        let p : f.place ≡ g.place = a.place ∙ same-said a.said b.said s ∙ sym b.place in
        ap (λ z. fault_of z f.place) n ∙ ap (λ z. fault_of g.number z) p

    by : (a.decl < b.decl) ⊎ (b.decl ≤ a.decl) → (b.decl < a.decl) ⊎ (a.decl ≤ b.decl) → f ≡ g
    by (inl l) k = absurd (b.first a.decl l a.circular)
    by (inr l) (inl k) = absurd (a.first b.decl k b.circular)
    by (inr l) (inr k) = equal (omega arith)
