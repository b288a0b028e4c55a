-- The tests that a number is told, by the letter and as it is read, of a tree that is no operator and of an operator.
use Rattle.std.proofs.Common.{◌≡◌, ℕ, suc, ◌≤◌, List, [], ◌∷◌, ◌++◌, Bool, true, false, inl, inr, ◌&&◌, map, refl, ap, sym, ◌∙◌, arith, if◌then◌else◌}
use Rattle.std.specs.Prelude.{◌||◌, ◌==◌, nat_le}
use Rattle.std.proofs.lemmas.Bool.{cases_lt}
use Rattle.hare_automaton.proofs.Machine.Edges.{lt_false, le_true, true_le}
use Rattle.hare_nesting.proofs.ByTheLetter.OnList.{on, on_append, on_one, on_map, map_one, alone, map_alone, same_or}

-- ---- a tree that is no operator

-- by the letter a left operand has one more node open round it
pub one_more : (o : ℕ) → nat_le 256 (suc o) ≡ nat_le 255 o
one_more o = elim (cases_lt o 255) [
  | inl e ↦ lt_false 256 (suc o) (omega arith) ∙ sym (lt_false 255 o e)
  | inr e ↦ le_true 256 (suc o) (omega arith) ∙ sym (le_true 255 o e)
]

pub more_holds : (o : ℕ) → nat_le 256 o ≡ true → nat_le 255 o ≡ true
more_holds o e = let h : 256 ≤ o = true_le 256 o e in le_true 255 o (omega arith)

-- the tree by itself: `ds` are told in its kids by the letter, and `ks` as they are read
pub plain_agrees : (f : ℕ → ℕ) (b : Bool) (n p o x : ℕ) (ds ks : List ℕ) → (b ≡ true → p ≡ f n) → on x (map f ds) ≡ on x ks →
    on x (map f (((if b && nat_le 256 o then n ∷ [] else []) ++ []) ++ ds)) ≡
    on x (((if b && nat_le 256 o then p ∷ [] else []) ++ []) ++ ks)
plain_agrees f false n p o x ds ks e k = k
plain_agrees f true n p o x ds ks e k = by (nat_le 256 o)
  where
    by : (c : Bool) → on x (map f (((if c then n ∷ [] else []) ++ []) ++ ds)) ≡ on x (((if c then p ∷ [] else []) ++ []) ++ ks)
    by true = rw (e refl, k) refl
    by false = k

-- by the letter `c` says that the limit is passed at the left operand, and as it is read `d`, which implies it
left_test : (c d q k : Bool) → (d ≡ true → c ≡ true) → ((c && q) || k) ≡ (((d && q) || k) || (c && q))
left_test false true q k e = let i = e refl in cc
left_test false false q true e = refl
left_test false false q false e = refl
left_test true true true k e = refl
left_test true false true true e = refl
left_test true false true false e = refl
left_test true true false true e = refl
left_test true true false false e = refl
left_test true false false true e = refl
left_test true false false false e = refl

-- the tree as a left operand
pub plain_left : (f : ℕ → ℕ) (n p o x : ℕ) (ds ks : List ℕ) → p ≡ f n → on x (map f ds) ≡ on x ks →
    on x (map f (((if nat_le 256 (suc o) then n ∷ [] else []) ++ []) ++ ds)) ≡
    (on x (((if nat_le 256 o then p ∷ [] else []) ++ []) ++ ks) || (nat_le 255 o && x == f n))
plain_left f n p o x ds ks e k =
    let c = nat_le 255 o in
    let d = nat_le 256 o in
    let l : on x (map f (((if nat_le 256 (suc o) then n ∷ [] else []) ++ []) ++ ds)) ≡ ((c && x == f n) || on x ks) =
    ap (λ b. on x (map f (((if b then n ∷ [] else []) ++ []) ++ ds))) (one_more o) ∙ on_map f x ((if c then n ∷ [] else []) ++ []) ds ∙
    same_or _ _ _ _ (map_alone f x n c) k in
    let r : on x (((if d then p ∷ [] else []) ++ []) ++ ks) ≡ ((d && x == f n) || on x ks) =
    on_append x ((if d then p ∷ [] else []) ++ []) ks ∙ ap (λ b. b || on x ks)
    (ap (λ z. on x ((if d then z ∷ [] else []) ++ [])) e ∙ alone x (f n) d) in
    l ∙ left_test c d (x == f n) (on x ks) (more_holds o) ∙ ap (λ b. b || (c && x == f n)) (sym r)

-- ---- an operator

-- `a` tells the operator's first token, `b` the left operand's, which is the same, `c` the operator; `d` and `k` tell what is in the left
-- operand and in the other kids
pub rejoin : (a b c d k : Bool) → ((a || c) || ((d || b) || k)) ≡ ((a || (b || c)) || (d || k))
rejoin true b c d k = refl
rejoin false true true d k = refl
rejoin false false true d k = refl
rejoin false true false true k = refl
rejoin false true false false k = refl
rejoin false false false true k = refl
rejoin false false false false k = refl

pub rejoin_left : (a b c d k : Bool) → (a ≡ true → b ≡ true) → ((b || c) || ((d || b) || k)) ≡ (((a || (b || c)) || (d || k)) || b)
rejoin_left true false c d k e = let i = e refl in cc
rejoin_left true true c d k e = refl
rejoin_left false true c d k e = refl
rejoin_left false false true d k e = refl
rejoin_left false false false true k e = refl
rejoin_left false false false false true e = refl
rejoin_left false false false false false e = refl

-- the limit on the operator implies that on its left operand
pub further : (f g q : Bool) → (f ≡ true → g ≡ true) → (f && q) ≡ true → (g && q) ≡ true
further true g q e i = rw (e refl) i
further false g q e i = cc

-- what is said of an operator: by the letter, and as it is read
pub operator_letter : (f : ℕ → ℕ) (x n m : ℕ) (a c : Bool) (ds es : List ℕ) →
    on x (map f (((if a then n ∷ [] else []) ++ (if c then m ∷ [] else [])) ++ (ds ++ es))) ≡
    (((a && x == f n) || (c && x == f m)) || (on x (map f ds) || on x (map f es)))
operator_letter f x n m a c ds es =
    on_map f x ((if a then n ∷ [] else []) ++ (if c then m ∷ [] else [])) (ds ++ es)
    ∙ same_or _ _ _ _ (on_map f x (if a then n ∷ [] else []) (if c then m ∷ [] else []) ∙ same_or _ _ _ _ (map_one f x n a)
    (map_one f x m c)) (on_map f x ds es)

pub operator_read : (x n p : ℕ) (a b c : Bool) (ds es : List ℕ) →
    on x (((if a then n ∷ [] else []) ++ ((if b then n ∷ [] else []) ++ (if c then p ∷ [] else []))) ++ (ds ++ es)) ≡
    (((a && x == n) || ((b && x == n) || (c && x == p))) || (on x ds || on x es))
operator_read x n p a b c ds es =
    on_append x ((if a then n ∷ [] else []) ++ ((if b then n ∷ [] else []) ++ (if c then p ∷ [] else []))) (ds ++ es)
    ∙ same_or _ _ _ _ (on_append x (if a then n ∷ [] else []) ((if b then n ∷ [] else []) ++ (if c then p ∷ [] else [])) ∙ same_or _ _ _ _
    (on_one x n a) (on_append x (if b then n ∷ [] else []) (if c then p ∷ [] else []) ∙ same_or _ _ _ _ (on_one x n b) (on_one x p c)))
    (on_append x ds es)
