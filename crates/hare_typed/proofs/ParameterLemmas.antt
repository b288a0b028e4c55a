-- Parameters and bodies, found by number.
use Rattle.std.proofs.Common.{◌≡◌, ℕ, zero, suc, ◌+◌, ◌≤◌, Bool, true, false, cond, List, [], ◌∷◌, ◌++◌, length, map, drop, min, Some, None, Option, ◌⊎◌, inl, inr, refl, ap, sym, ◌∙◌, arith}
use Rattle.std.specs.Prelude.{find, ◌==◌, slice_get, flat_map}
use Rattle.std.specs.Option.{option_or}
use Rattle.std.proofs.lemmas.List.{append-nil}
use Rattle.std.proofs.lemmas.List.Folds.{find-append}
use Rattle.hare_tree.specs.declared.kind.Kind.TheVariants as kind
use Rattle.hare_tree.specs.Node.{Head}
use Rattle.hare_typed.specs.Typed.{TypedNode, Mark, marked, typed_nodes, listed_nodes, kids_of}
use Rattle.hare_typed.specs.Order.{missing, tree_from_front}
use Rattle.hare_typed.specs.Numbers.{kind_of, number_of, is_param, params_among, parameters_of, last_of, body_of}
use Rattle.hare_typed.specs.Copies.{Copied, copied, once, counted, counted_by, copies_of, has_number, times_of}
use Rattle.hare_typed.specs.Rounds.{most, capped}
use Rattle.hare_typed.proofs.ExitLemmas.{drop-get}

-- ---- parameters

abbrev pub parameter_times : ℕ → List TypedNode → ℕ
parameter_times n ts = times_of (find (has_number n) (map once (params_among (typed_nodes ts))))

first-parameter : (n : ℕ) (t : TypedNode) (ts : List TypedNode) (b d : Bool) → is_param (kind_of t) ≡ b → (number_of t == n) ≡ d
    → parameter_times n (t ∷ ts) ≡ cond b (cond d 1 (parameter_times n ts)) (parameter_times n ts)
first-parameter n t ts true true e f =
    ap (λ b. times_of (find (has_number n) (map once (cond b (t ∷ []) [] ++ params_among (typed_nodes ts))))) e
    ∙ ap (λ d. times_of (cond d (Some (once t)) (find (has_number n) (map once (params_among (typed_nodes ts)))))) f
first-parameter n t ts true false e f =
    ap (λ b. times_of (find (has_number n) (map once (cond b (t ∷ []) [] ++ params_among (typed_nodes ts))))) e
    ∙ ap (λ d. times_of (cond d (Some (once t)) (find (has_number n) (map once (params_among (typed_nodes ts)))))) f
first-parameter n t ts false d e f = ap (λ b. times_of
    (find (has_number n) (map once (cond b (t ∷ []) [] ++ params_among (typed_nodes ts))))) e

pub parameter-here : (n : ℕ) (ts : List TypedNode) (i : ℕ) (t x : TypedNode) → slice_get ts i ≡ Some t → x ≡ t →
    is_param (kind_of x) ≡ true → (number_of x == n) ≡ true
    → parameter_times n (drop i ts) ≡ parameter_times n ts → 1 ≡ parameter_times n ts
parameter-here n ts i t x e v p q w =
    sym (first-parameter n t (drop (i + 1) ts) true true (ap (λ u. is_param (kind_of u)) (sym v) ∙ p)
    (ap (λ u. number_of u == n) (sym v) ∙ q))
    ∙ sym (ap (parameter_times n) (drop-get ts i t e)) ∙ w

choice-same : (b d : Bool) (a : ℕ) → (b ≡ false) ⊎ (d ≡ false) → cond b (cond d 1 a) a ≡ a
choice-same b d a (inl e) = ap (λ c. cond c (cond d 1 a) a) e
choice-same true d a (inr e) = ap (λ c. cond c 1 a) e
choice-same false d a (inr e) = refl

pub parameter-later : (n : ℕ) (ts : List TypedNode) (i : ℕ) (t x : TypedNode) → slice_get ts i ≡ Some t → x ≡ t →
    (is_param (kind_of x) ≡ false) ⊎ ((number_of x == n) ≡ false)
    → parameter_times n (drop i ts) ≡ parameter_times n ts → parameter_times n (drop (i + 1) ts) ≡ parameter_times n ts
parameter-later n ts i t x e v p w =
    sym (choice-same (is_param (kind_of x)) (number_of x == n) (parameter_times n (drop (i + 1) ts)) p)
    ∙ sym (first-parameter n t (drop (i + 1) ts) (is_param (kind_of x)) (number_of x == n) (ap (λ u. is_param (kind_of u)) (sym v))
    (ap (λ u. number_of u == n) (sym v)))
    ∙ sym (ap (parameter_times n) (drop-get ts i t e)) ∙ w

-- ---- the third kid of a function

abbrev pub third_times : ℕ → TypedNode → ℕ
third_times n f = times_of (find (has_number n) (map once (parameters_of f)))

listed-typed : (ts : List TypedNode) → listed_nodes (typed_nodes ts) ≡ ts
listed-typed [] = refl
listed-typed (t ∷ ts) = ap (λ us. t ∷ us) (listed-typed ts)

front-get : (ts : List TypedNode) (i : ℕ) (t : TypedNode) → slice_get ts i ≡ Some t → tree_from_front i ts ≡ t
front-get [] i t e = cc
front-get (u ∷ us) zero t e = cc
front-get (u ∷ us) (suc i) t e = front-get us i t e

front-past : (ts : List TypedNode) (i : ℕ) → length ts ≤ i → tree_from_front i ts ≡ missing
front-past [] i e = refl
front-past (u ∷ us) zero e = absurd (omega arith)
front-past (u ∷ us) (suc i) e = front-past us i (omega arith)

third-of : (n : ℕ) (h : Head) (m : Mark) (ks : List TypedNode) (f t : TypedNode) → marked h m (typed_nodes ks) ≡ f →
    tree_from_front 2 ks ≡ t
    → times_of (find (has_number n) (map once (params_among (kids_of t)))) ≡ third_times n f
third-of n h m ks f t v e =
    ap (λ u. times_of (find (has_number n) (map once (params_among (kids_of u))))) (sym e ∙ sym (ap (tree_from_front 2) (listed-typed ks)))
    ∙ ap (third_times n) v

pub third-get : (n : ℕ) (h : Head) (m : Mark) (ks : List TypedNode) (f : TypedNode) (x : Head) (y : Mark) (us : List TypedNode)
    (t : TypedNode) → marked h m (typed_nodes ks) ≡ f
    → slice_get ks 2 ≡ Some t → marked x y (typed_nodes us) ≡ t → parameter_times n us ≡ third_times n f
third-get n h m ks f x y us t v e w =
    ap (λ u. times_of (find (has_number n) (map once (params_among (kids_of u))))) w ∙ third-of n h m ks f t v (front-get ks 2 t e)

pub third-past : (n : ℕ) (h : Head) (m : Mark) (ks : List TypedNode) (f : TypedNode) → marked h m (typed_nodes ks) ≡ f → length ks ≤ 2 →
    0 ≡ third_times n f
third-past n h m ks f v e = third-of n h m ks f missing v (front-past ks 2 e)

-- ---- bodies

last-get : (ts : List TypedNode) (i : ℕ) (t : TypedNode) → i + 1 ≡ length ts → slice_get ts i ≡ Some t → last_of ts ≡ t ∷ []
last-get [] i t h e = absurd (omega arith)
last-get (u ∷ []) zero t h e = let k : u ≡ t = cc in ap (λ x. x ∷ []) k
last-get (u ∷ []) (suc i) t h e = absurd (omega arith)
last-get (u ∷ v ∷ vs) zero t h e = absurd (omega arith)
last-get (u ∷ v ∷ vs) (suc i) t h e = last-get (v ∷ vs) i t (omega arith) e

abbrev pub body_times : ℕ → TypedNode → Option ℕ
body_times n f = capped (find (has_number n) (flat_map (copied 1 1) (body_of f)))

-- what is found in the last kid is found in the body
pub body-last : (n : ℕ) (h : Head) (m : Mark) (ks : List TypedNode) (f : TypedNode) (i : ℕ) (t : TypedNode) →
    marked h m (typed_nodes ks) ≡ f → i + 1 ≡ length ks → slice_get ks i ≡ Some t
    → capped (find (has_number n) (copied 1 1 t)) ≡ body_times n f
body-last n h m ks f i t v w e =
    ap (λ xs. capped (find (has_number n) xs)) (sym (append-nil (copied 1 1 t)))
    ∙ ap (λ us. capped (find (has_number n) (flat_map (copied 1 1) us))) (sym (last-get ks i t w e) ∙ sym (ap last_of (listed-typed ks)))
    ∙ ap (body_times n) v

-- ---- declarations

capped-min : (o : Option Copied) (k : ℕ) → Some k ≡ capped o → k ≡ min (times_of o) most
capped-min None k e = cc
capped-min (Some x) k e = cc

capped-zero : (o : Option Copied) → None ≡ capped o → 0 ≡ min (times_of o) most
capped-zero None e = refl
capped-zero (Some x) e = cc

or-found : (a b : Option Copied) (k : ℕ) → Some k ≡ capped a → Some k ≡ capped (option_or a b)
or-found None b k e = cc
or-found (Some x) b k e = e

or-other : (a b : Option Copied) → None ≡ capped a → times_of b ≡ times_of (option_or a b)
or-other None b e = refl
or-other (Some x) b e = cc

-- a function's body comes before its parameters
function-found : (n : ℕ) (f : TypedNode) → kind_of f ≡ kind.Fn
    → find (has_number n) (counted f) ≡ option_or (find (has_number n) (flat_map (copied 1 1) (body_of f)))
    (find (has_number n) (map once (parameters_of f)))
function-found n f e = ap (λ k. find (has_number n) (counted_by k f)) e ∙ find-append (has_number n) (flat_map (copied 1 1) (body_of f))
    (map once (parameters_of f))

pub copies-body : (n k : ℕ) (f : TypedNode) → kind_of f ≡ kind.Fn → Some k ≡ body_times n f → k ≡ min (copies_of f n) most
copies-body n k f e g =
    let body = find (has_number n) (flat_map (copied 1 1) (body_of f)) in
    let others = find (has_number n) (map once (parameters_of f)) in
    capped-min (option_or body others) k (or-found body others k g) ∙ ap (λ o. min (times_of o) most) (sym (function-found n f e))

one-or-other : (b : Bool) (t : TypedNode) (o : Option Copied) → times_of o ≤ 1 → times_of (cond b (Some (once t)) o) ≤ 1
one-or-other true t o e = omega arith
one-or-other false t o e = e

one-at-most : (n : ℕ) (ts : List TypedNode) → times_of (find (has_number n) (map once ts)) ≤ 1
one-at-most n [] = omega arith
one-at-most n (t ∷ ts) = one-or-other (number_of t == n) t (find (has_number n) (map once ts)) (one-at-most n ts)

pub copies-parameter : (n k : ℕ) (f : TypedNode) → kind_of f ≡ kind.Fn → None ≡ body_times n f → k ≡ third_times n f →
    k ≡ min (copies_of f n) most
copies-parameter n k f e g p =
    let body = find (has_number n) (flat_map (copied 1 1) (body_of f)) in
    let others = find (has_number n) (map once (parameters_of f)) in
    let few : third_times n f ≤ 1 = one-at-most n (parameters_of f) in
    let all : copies_of f n ≡ third_times n f = ap times_of (function-found n f e) ∙ sym (or-other body others g) in
    omega arith
