-- The order of faults, and the first of them.
use Rattle.std.proofs.Common.{◌≡◌, ℕ, ◌<◌, ◌≤◌, Bool, true, false, ◌||◌, ◌&&◌, ◌==◌, nat_lt, List, [], ◌∷◌, fold, Option, Some, None, if◌then◌else◌, ◌⊎◌, inl, inr, refl, sym, ◌∙◌, subst, arith}
use Rattle.std.proofs.lemmas.Bool.{cases_lt, ltb-true, lt-ltb, and_parts, eqb-true, eq-eqb}
use Rattle.hare_tree.specs.declared.place.Fault.{Fault}
use Rattle.std.specs.Prelude.{Contains}
use Rattle.hare_graph.proofs.Elements.{Contains-none, Contains-cases, Contains-here, Contains-behind}
use Rattle.hare_modules.specs.Order.{decides, counts_before, earlier, earlier_of, first_in, IsFirst, TellsFirst}

-- ---- the order

or-cases : (a b : Bool) → (a || b) ≡ true → (a ≡ true) ⊎ (b ≡ true)
or-cases true b e = inl refl
or-cases false b e = inr e

or-right : (a b : Bool) → b ≡ true → (a || b) ≡ true
or-right true b e = refl
or-right false b e = e

or-left : (a b : Bool) → a ≡ true → (a || b) ≡ true
or-left a b e = rw e refl

pub decided : (a b : ℕ) (n : Bool) → decides a b n ≡ true → (a < b) ⊎ ((a ≡ b) × (n ≡ true))
decided a b n e = by (or-cases (nat_lt a b) (a == b && n) e)
  where
    by : (nat_lt a b ≡ true) ⊎ ((a == b && n) ≡ true) → (a < b) ⊎ ((a ≡ b) × (n ≡ true))
    by (inl h) = inl (ltb-true a b h)
    by (inr h) = let p = and_parts (a == b) n h in inr (eqb-true a b p.0, p.1)

decides-less : (a b : ℕ) (n : Bool) → a < b → decides a b n ≡ true
decides-less a b n l = or-left (nat_lt a b) (a == b && n) (lt-ltb a b l)

decides-next : (a b : ℕ) (n : Bool) → a ≡ b → n ≡ true → decides a b n ≡ true
decides-next a b n e h = or-right (nat_lt a b) (a == b && n) (rw (eq-eqb a b e, h) refl)

-- what decides in turn, decides over one between
decides-through : (a b c : ℕ) (n m r : Bool) → (n ≡ true → m ≡ true → r ≡ true) → decides a b n ≡ true → decides b c m ≡ true →
    decides a c r ≡ true
decides-through a b c n m r f x y = by (decided a b n x) (decided b c m y)
  where
    by : (a < b) ⊎ ((a ≡ b) × (n ≡ true)) → (b < c) ⊎ ((b ≡ c) × (m ≡ true)) → decides a c r ≡ true
    by (inl l) (inl k) = decides-less a c r (omega arith)
    by (inl l) (inr k) = let e : b ≡ c = k.0 in decides-less a c r (omega arith)
    by (inr l) (inl k) = let e : a ≡ b = l.0 in decides-less a c r (omega arith)
    by (inr l) (inr k) = decides-next a c r (l.0 ∙ k.0) (f l.1 k.1)

less-through : (a b c : ℕ) → nat_lt a b ≡ true → nat_lt b c ≡ true → nat_lt a c ≡ true
less-through a b c x y = let l : a < b = ltb-true a b x in let k : b < c = ltb-true b c y in lt-ltb a c (omega arith)

pub before-through : (f g h : Fault) → counts_before f g ≡ true → counts_before g h ≡ true → counts_before f h ≡ true
before-through f g h =
    decides-through f.place.file g.place.file h.place.file _ _ _
    (decides-through f.place.line g.place.line h.place.line _ _ _
    (decides-through f.place.column g.place.column h.place.column _ _ _ (less-through f.number g.number h.number)))

-- what comes before another comes before any third one, or the third one before the other
decides-between : (a b c : ℕ) (n m r : Bool) → (r ≡ true → (n ≡ true) ⊎ (m ≡ true)) → decides a c r ≡ true →
    (decides a b n ≡ true) ⊎ (decides b c m ≡ true)
decides-between a b c n m r f x = by (decided a c r x) (cases_lt a b) (cases_lt b a)
  where
    equal : a ≡ b → a ≡ c → (n ≡ true) ⊎ (m ≡ true) → (decides a b n ≡ true) ⊎ (decides b c m ≡ true)
    equal e k (inl h) = inl (decides-next a b n e h)
    equal e k (inr h) = inr (decides-next b c m (sym e ∙ k) h)

    by : (a < c) ⊎ ((a ≡ c) × (r ≡ true)) → (a < b) ⊎ (b ≤ a) → (b < a) ⊎ (a ≤ b) → (decides a b n ≡ true) ⊎ (decides b c m ≡ true)
    by h (inl l) k = inl (decides-less a b n l)
    by (inl l) (inr i) k = inr (decides-less b c m (omega arith))
    by (inr e) (inr i) (inl l) = let q : a ≡ c = e.0 in inr (decides-less b c m (omega arith))
    by (inr e) (inr i) (inr j) = let q : a ≡ b = omega arith in equal q e.0 (f e.1)

less-between : (a b c : ℕ) → nat_lt a c ≡ true → (nat_lt a b ≡ true) ⊎ (nat_lt b c ≡ true)
less-between a b c x = by (ltb-true a c x) (cases_lt a b)
  where
    by : a < c → (a < b) ⊎ (b ≤ a) → (nat_lt a b ≡ true) ⊎ (nat_lt b c ≡ true)
    by h (inl l) = inl (lt-ltb a b l)
    by h (inr l) = inr (lt-ltb b c (omega arith))

pub before-between : (f g h : Fault) → counts_before f h ≡ true → (counts_before f g ≡ true) ⊎ (counts_before g h ≡ true)
before-between f g h =
    decides-between f.place.file g.place.file h.place.file _ _ _
    (decides-between f.place.line g.place.line h.place.line _ _ _
    (decides-between f.place.column g.place.column h.place.column _ _ _ (less-between f.number g.number h.number)))

not-self : (a : ℕ) (n : Bool) → n ≡ false → decides a a n ≡ false
not-self a n e = by (decides a a n) refl
  where
    by : (b : Bool) → decides a a n ≡ b → b ≡ false
    by false h = refl
    by true h = by-true (decided a a n h)
      where
        by-true : (a < a) ⊎ ((a ≡ a) × (n ≡ true)) → true ≡ false
        by-true (inl l) = absurd (omega arith)
        by-true (inr k) = sym k.1 ∙ e

not-less : (a : ℕ) → nat_lt a a ≡ false
not-less a = by (nat_lt a a) refl
  where
    by : (b : Bool) → nat_lt a a ≡ b → b ≡ false
    by false h = refl
    by true h = let l : a < a = ltb-true a a h in absurd (omega arith)

pub not-before-itself : (f : Fault) → counts_before f f ≡ false
not-before-itself f = not-self f.place.file _ (not-self f.place.line _ (not-self f.place.column _ (not-less f.number)))

-- ---- the first of two sorts

the-some : {A : Type 0} {a b : A} → Some a ≡ Some b → a ≡ b
the-some e = cc

not-true : (b : Bool) → (b ≡ true → ⊥) → b ≡ false
not-true true h = absurd (h refl)
not-true false h = refl

-- a fault that counts before the first of a sort is before all of it
pub sooner : (f g h : Fault) → counts_before f g ≡ true → counts_before h g ≡ false → counts_before h f ≡ false
sooner f g h e n = not-true (counts_before h f) (λ x. let y : counts_before h g ≡ true = before-through h f g x e in absurd cc)

module _ (P Q R : Fault → Type 0) (split : (f : Fault) → R f → P f ⊎ Q f) (left : (f : Fault) → P f → R f)
    (right : (f : Fault) → Q f → R f) where
  none_both : (found other : Option Fault) → TellsFirst P found → TellsFirst Q other → found ≡ None → other ≡ None → (f : Fault) → R f → ⊥
  none_both found other t u e d f r = by (split f r)
    where
      by : P f ⊎ Q f → ⊥
      by (inl p) = t.none e f p
      by (inr q) = u.none d f q

  first_left : (g : Fault) → IsFirst P g → ((f : Fault) → Q f → counts_before f g ≡ false) → IsFirst R g
  first_left g t n = record { stands = left g t.stands; none_before = λ f r. by f (split f r) }
    where
      by : (f : Fault) → P f ⊎ Q f → counts_before f g ≡ false
      by f (inl p) = t.none_before f p
      by f (inr q) = n f q

  first_right : (g : Fault) → IsFirst Q g → ((f : Fault) → P f → counts_before f g ≡ false) → IsFirst R g
  first_right g t n = record { stands = right g t.stands; none_before = λ f r. by f (split f r) }
    where
      by : (f : Fault) → P f ⊎ Q f → counts_before f g ≡ false
      by f (inl p) = n f p
      by f (inr q) = t.none_before f q

  both : (f g : Fault) → IsFirst P f → IsFirst Q g → IsFirst R (if counts_before g f then g else f)
  both f g t u = by (counts_before g f) refl
    where
      by : (b : Bool) → counts_before g f ≡ b → IsFirst R (if b then g else f)
      by true e = first_right g u (λ h p. sooner g f h e (t.none_before h p))
      by false e = first_left f t (λ h q. later h q)
        where
          later : (h : Fault) → Q h → counts_before h f ≡ false
          later h q = not-true (counts_before h f) (λ x. by-between (before-between h g f x))
            where
              by-between : (counts_before h g ≡ true) ⊎ (counts_before g f ≡ true) → ⊥
              by-between (inl y) = let z : counts_before h g ≡ false = u.none_before h q in absurd cc
              by-between (inr y) = absurd cc

  pub first-of-both : (found other : Option Fault) → TellsFirst P found → TellsFirst Q other → TellsFirst R (earlier_of found other)
  first-of-both None None t u = record { first = λ f e. absurd cc; none = λ e f r. none_both None None t u refl refl f r }
  first-of-both None (Some g) t u = record {
    first = λ f e. subst (IsFirst R) (the-some e) (first_right g (u.first g refl) (λ h p. absurd (t.none refl h p)));
    none = λ e. absurd cc;
  }
  first-of-both (Some g) None t u = record {
    first = λ f e. subst (IsFirst R) (the-some e) (first_left g (t.first g refl) (λ h q. absurd (u.none refl h q)));
    none = λ e. absurd cc;
  }
  first-of-both (Some g) (Some h) t u = record {
    first = λ f e. subst (IsFirst R) (the-some e) (both g h (t.first g refl) (u.first h refl));
    none = λ e. absurd cc;
  }

-- ---- the faults of a list

pub first-of-none : (P : Fault → Type 0) → ((f : Fault) → P f → ⊥) → TellsFirst P None
first-of-none P n = record { first = λ f e. absurd cc; none = λ e f p. n f p }

pub first-of-one : (g : Fault) → TellsFirst (λ f. f ≡ g) (Some g)
first-of-one g = record {
  first = λ f e. record { stands = sym (the-some e); none_before = λ h k. by f h (the-some e) k };
  none = λ e. absurd cc;
}
  where
    by : (f h : Fault) → g ≡ f → h ≡ g → counts_before h f ≡ false
    by f h e k = rw (k, ← e) (not-before-itself g)

-- the same sort of faults, said otherwise
pub first-of-same : (P Q : Fault → Type 0) → ((f : Fault) → P f → Q f) → ((f : Fault) → Q f → P f) → (found : Option Fault) →
    TellsFirst P found → TellsFirst Q found
first-of-same P Q to from found t = record {
  first = λ f e. record { stands = to f (t.first f e).stands; none_before = λ g q. (t.first f e).none_before g (from g q) };
  none = λ e f q. t.none e f (from f q);
}

-- a sort of faults, and those of a list
abbrev Either : (Fault → Type 0) → List Fault → Fault → Type 0
Either P fs f = P f ⊎ Contains fs f

abbrev Also : (Fault → Type 0) → Fault → Fault → Type 0
Also P g f = P f ⊎ (f ≡ g)

moved : (P : Fault → Type 0) (g : Fault) (fs : List Fault) (f : Fault) → Either (Also P g) fs f → Either P (g ∷ fs) f
moved P g fs f (inl (inl p)) = inl p
moved P g fs f (inl (inr e)) = inr (subst (λ h. Contains (g ∷ fs) h) (sym e) (Contains-here g fs))
moved P g fs f (inr c) = inr (Contains-behind g f fs c)

moved-back : (P : Fault → Type 0) (g : Fault) (fs : List Fault) (f : Fault) → Either P (g ∷ fs) f → Either (Also P g) fs f
moved-back P g fs f (inl p) = inl (inl p)
moved-back P g fs f (inr c) = by (Contains-cases g f fs c)
  where
    by : (g ≡ f) ⊎ Contains fs f → Either (Also P g) fs f
    by (inl e) = inl (inr (sym e))
    by (inr d) = inr d

without : (P : Fault → Type 0) (f : Fault) → Either P [] f → P f
without P f (inl p) = p
without P f (inr c) = absurd (Contains-none f c)

pub first-of-list : (P : Fault → Type 0) (found : Option Fault) (fs : List Fault) → TellsFirst P found →
    TellsFirst (Either P fs) (fold earlier found fs)
first-of-list P found [] t = first-of-same P (Either P []) (λ f p. inl p) (without P) found t
first-of-list P found (g ∷ fs) t =
    first-of-same (Either (Also P g) fs) (Either P (g ∷ fs)) (moved P g fs) (moved-back P g fs) (fold earlier (earlier found g) fs)
    (first-of-list (Also P g) (earlier found g) fs (also found t))
  where
    also : (o : Option Fault) → TellsFirst P o → TellsFirst (Also P g) (earlier o g)
    also None u = first-of-both P (λ f. f ≡ g) (Also P g) (λ f r. r) (λ f p. inl p) (λ f q. inr q) None (Some g) u (first-of-one g)
    also (Some h) u = first-of-both P (λ f. f ≡ g) (Also P g) (λ f r. r) (λ f p. inl p) (λ f q. inr q) (Some h) (Some g) u (first-of-one g)

-- what is found in a list is its first fault
pub first-in : (fs : List Fault) → TellsFirst (λ f. Contains fs f) (first_in fs)
first-in fs =
    first-of-same (Either (λ f. ⊥) fs) (λ f. Contains fs f) (λ f r. by f r) (λ f c. inr c) (first_in fs)
    (first-of-list (λ f. ⊥) None fs (first-of-none (λ f. ⊥) (λ f p. p)))
  where
    by : (f : Fault) → ⊥ ⊎ Contains fs f → Contains fs f
    by f (inl p) = absurd p
    by f (inr c) = c
