-- The first fault of a list of tokens: what makes it the first, and that there is one at most.
use Rattle.std.proofs.Common.{◌≡◌, ℕ, suc, ◌+◌, ◌-◌, ◌<◌, ◌≤◌, ◌⊎◌, inl, inr, List, ◌++◌, take, drop, length, refl, ap, sym, ◌∙◌, subst, arith, append_assoc}
use Rattle.std.proofs.lemmas.Bool.{cases_order}
use Rattle.std.proofs.lemmas.List.{take_all}
use Rattle.std.proofs.Math.Seq.{take-add}
use Rattle.hare_tree.specs.declared.token.Token.{Token}
use Rattle.hare_tree.specs.Grammar.{Language, Spells, IsViable, IsSyntaxFault, IsDepthFault, IsFirstFault}

-- ---- fronts

-- a front, and in it a shorter one
front_split : (ts : List Token) (m n : ℕ) → m ≤ n → take n ts ≡ take m ts ++ take (n - m) (drop m ts)
front_split ts m n h =
    let e : n ≡ m + (n - m) = omega (arith, h) in
    ap (λ k. take k ts) e ∙ take-add m (n - m) ts

-- the fronts of what is viable are viable
pub viable_front : {T : Type 0} (l : Language T) (ts : List Token) (m n : ℕ) → m ≤ n → IsViable l (take n ts) → IsViable l (take m ts)
viable_front l ts m n h v =
    let g = v.1 in
    let x = take (n - m) (drop m ts) in
    let e : take n ts ++ g.behind ≡ take m ts ++ (x ++ g.behind) =
    ap (λ y. y ++ g.behind) (front_split ts m n h) ∙ append_assoc (take m ts) x g.behind in
    (v.0, record { shaped = g.shaped; behind = x ++ g.behind; spelled = subst (λ y. Spells (l.tokens_of v.0) y) e g.spelled })

-- no syntax fault stands in what is viable
pub viable_no_syntax : {T : Type 0} (l : Language T) (ts : List Token) (n m : ℕ) → IsViable l (take n ts) → m < n → IsSyntaxFault l ts m → ⊥
viable_no_syntax l ts n m v h f = f.ends (viable_front l ts (suc m) n (omega (arith, h)) v)

-- ---- the first fault

pub first_syntax : {T : Type 0} (l : Language T) (ts : List Token) (n : ℕ) → IsSyntaxFault l ts n → ((m : ℕ) → IsDepthFault l ts m → ⊥) →
    IsFirstFault l ts 8 n
first_syntax l ts n f d =
    record { fault = inl (refl, f); no_syntax = λ m h. viable_no_syntax l ts n m f.before h; no_depth = λ m h. d m }

pub first_depth : {T : Type 0} (l : Language T) (ts : List Token) (n : ℕ) → IsDepthFault l ts n →
    ((m : ℕ) → m < n → IsDepthFault l ts m → ⊥) → IsFirstFault l ts 9 n
first_depth l ts n f d =
    record {
      fault = inr (refl, f, λ s. viable_no_syntax l ts f.read n f.viable f.holds s);
      no_syntax = λ m h s. viable_no_syntax l ts f.read m f.viable (omega (arith, h, f.holds)) s;
      no_depth = d;
    }

-- where all tokens begin a tree and no limit is passed, there is no fault
pub viable_no_first : {T : Type 0} (l : Language T) (ts : List Token) (number n : ℕ) → IsViable l ts → ((m : ℕ) → IsDepthFault l ts m → ⊥) →
    IsFirstFault l ts number n → ⊥
viable_no_first l ts number n v d f = by f.fault
  where
    by : ((number ≡ 8) × IsSyntaxFault l ts n) ⊎ ((number ≡ 9) × IsDepthFault l ts n × (IsSyntaxFault l ts n → ⊥)) → ⊥
    by (inl s) = s.1.ends (viable_front l ts (suc n) (length ts) (omega (arith, s.1.within))
        (subst (λ y. IsViable l y) (sym (take_all (length ts) ts (omega arith))) v))
    by (inr s) = d n s.1

-- of two places of which neither is the lesser
pub same_place : (n m : ℕ) → (n < m → ⊥) → (m < n → ⊥) → n ≡ m
same_place n m a b = by (cases_order n m)
  where
    by : (n ≡ m) ⊎ ((n < m) ⊎ (m < n)) → n ≡ m
    by (inl e) = e
    by (inr (inl h)) = absurd (a h)
    by (inr (inr h)) = absurd (b h)

-- a syntax fault and a depth fault that is none are not at one place
pub apart_places : {T : Type 0} (l : Language T) (ts : List Token) (n m : ℕ) → IsSyntaxFault l ts n → (IsSyntaxFault l ts m → ⊥) → n ≡ m → ⊥
apart_places l ts n m s r e = r (subst (λ k. IsSyntaxFault l ts k) e s)

-- one list has one first fault
pub one_first : {T : Type 0} (l : Language T) (ts : List Token) (a n b m : ℕ) → IsFirstFault l ts a n → IsFirstFault l ts b m → (a ≡ b) ×
    (n ≡ m)
one_first l ts a n b m f g = by f.fault g.fault
  where
    by : ((a ≡ 8) × IsSyntaxFault l ts n) ⊎ ((a ≡ 9) × IsDepthFault l ts n × (IsSyntaxFault l ts n → ⊥)) →
        ((b ≡ 8) × IsSyntaxFault l ts m) ⊎ ((b ≡ 9) × IsDepthFault l ts m × (IsSyntaxFault l ts m → ⊥)) → (a ≡ b) × (n ≡ m)
    by (inl s) (inl r) = (s.0 ∙ sym r.0, same_place n m (λ h. g.no_syntax n h s.1) (λ h. f.no_syntax m h r.1))
    by (inl s) (inr r) = absurd (apart_places l ts n m s.1 r.2 (same_place n m (λ h. g.no_syntax n h s.1) (λ h. f.no_depth m h r.1)))
    by (inr s) (inl r) = absurd (apart_places l ts m n r.1 s.2 (same_place m n (λ h. f.no_syntax m h r.1) (λ h. g.no_depth n h s.1)))
    by (inr s) (inr r) = (s.0 ∙ sym r.0, same_place n m (λ h. g.no_depth n h s.1) (λ h. f.no_depth m h r.1))
