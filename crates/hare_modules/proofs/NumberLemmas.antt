-- Numbers of modules, as they are entered.
use Rattle.std.proofs.Common.{◌≡◌, ◌⊎◌, inl, inr, ℕ, ◌+◌, ◌<◌, List, [], ◌∷◌, ◌++◌, Bool, true, false, cond, not, ◌||◌, length, slice_get, position, bytes_eq, Some, None, nat_lt, refl, sym, ap, ◌∙◌, subst, suc, zero, arith}
use Rattle.std.specs.Prelude.{Contains}
use Rattle.std.specs.List.{list_any, position_or_len}
use Rattle.std.proofs.lemmas.Bool.{ltb-true, lt-ltb}
use Rattle.std.proofs.lemmas.Slice.Eq.{bytes_eq-Decides}
use Rattle.std.proofs.lemmas.List.Elements.{Contains-push, Contains-append_left}
use Rattle.hare_modules.specs.Modules.{Module, runtime}
use Rattle.hare_modules.specs.Tables.{entered}
use Rattle.hare_modules.specs.Numbering.{AreHomes, IsNumbering}

-- ---- lists

pub get-push : {A : Type 0} (xs : List A) (y x : A) (i : ℕ) → slice_get xs i ≡ Some x → slice_get (xs ++ y ∷ []) i ≡ Some x
get-push [] y x i e = absurd cc
get-push (z ∷ zs) y x zero e = e
get-push (z ∷ zs) y x (suc i) e = get-push zs y x i e

pub get-end : {A : Type 0} (xs : List A) (y : A) → slice_get (xs ++ y ∷ []) (length xs) ≡ Some y
get-end [] y = refl
get-end (z ∷ zs) y = get-end zs y

-- an element of a longer list stands in the list, or is the last
pub get-push_cases : {A : Type 0} (xs : List A) (y x : A) (i : ℕ) → slice_get (xs ++ y ∷ []) i ≡ Some x →
    (slice_get xs i ≡ Some x) ⊎ ((i ≡ length xs) × (x ≡ y))
get-push_cases [] y x zero e = let h : x ≡ y = cc in inr (refl, h)
get-push_cases [] y x (suc i) e = absurd cc
get-push_cases (z ∷ zs) y x zero e = inl e
get-push_cases (z ∷ zs) y x (suc i) e = by (get-push_cases zs y x i e)
  where
    by : (slice_get zs i ≡ Some x) ⊎ ((i ≡ length zs) × (x ≡ y)) →
        (slice_get (z ∷ zs) (suc i) ≡ Some x) ⊎ ((suc i ≡ length (z ∷ zs)) × (x ≡ y))
    by (inl h) = inl h
    by (inr h) = inr (ap suc h.0, h.1)

-- ---- places of names

abbrev first : Module → List Module → ℕ
first m ks = position_or_len (bytes_eq m) ks

same-name : (x y : List ℕ) → bytes_eq x y ≡ true → x ≡ y
same-name x y e = (bytes_eq-Decides x y).0 e

there : (m : Module) (ks : List Module) → list_any (bytes_eq m) ks ≡ true → slice_get ks (first m ks) ≡ Some m
there m [] e = absurd cc
there m (k ∷ ks) e = by (there m ks) (bytes_eq m k) refl e
  where
    by : (list_any (bytes_eq m) ks ≡ true → slice_get ks (first m ks) ≡ Some m) → (b : Bool) → bytes_eq m k ≡ b →
        (b || list_any (bytes_eq m) ks) ≡ true → slice_get (k ∷ ks) (cond (not b) (1 + first m ks) 0) ≡ Some m
    by more true h e = ap Some (sym (same-name m k h))
    by more false h e = let s : 1 + first m ks ≡ suc (first m ks) = omega arith in rw s (more e)

absent : (m : Module) (ks : List Module) → list_any (bytes_eq m) ks ≡ false → first m ks ≡ length ks
absent m [] e = refl
absent m (k ∷ ks) e = by (absent m ks) (bytes_eq m k) e
  where
    by : (list_any (bytes_eq m) ks ≡ false → first m ks ≡ length ks) → (b : Bool) → (b || list_any (bytes_eq m) ks) ≡ false →
        cond (not b) (1 + first m ks) 0 ≡ suc (length ks)
    by more true e = absurd cc
    by more false e = let h : first m ks ≡ length ks = more e in omega arith

not-there : (m : Module) (ks : List Module) (i : ℕ) → list_any (bytes_eq m) ks ≡ false → slice_get ks i ≡ Some m → ⊥
not-there m [] i e g = absurd cc
not-there m (k ∷ ks) zero e g = by (bytes_eq m k) refl e
  where
    by : (b : Bool) → bytes_eq m k ≡ b → (b || list_any (bytes_eq m) ks) ≡ false → ⊥
    by true h e = absurd cc
    by false h e = let same : m ≡ k = cc in let t : bytes_eq m k ≡ true = (bytes_eq-Decides m k).1 same in absurd cc
not-there m (k ∷ ks) (suc i) e g = by (not-there m ks i) (bytes_eq m k) e g
  where
    by : (list_any (bytes_eq m) ks ≡ false → slice_get ks i ≡ Some m → ⊥) → (b : Bool) → (b || list_any (bytes_eq m) ks) ≡ false →
        slice_get ks i ≡ Some m → ⊥
    by more true e g = absurd cc
    by more false e g = more e g

-- ---- a module more

AreHomes-grow : (known known' ms : List Module) (hs : List ℕ) →
    ((i : ℕ) (m : Module) → slice_get known i ≡ Some m → slice_get known' i ≡ Some m) → AreHomes known ms hs → AreHomes known' ms hs
AreHomes-grow known known' [] [] g h = h
AreHomes-grow known known' [] (x ∷ hs) g h = h
AreHomes-grow known known' (m ∷ ms) [] g h = h
AreHomes-grow known known' (m ∷ ms) (x ∷ hs) g h = (g x m h.0, AreHomes-grow known known' ms hs g h.1)

AreHomes-push : (known ms : List Module) (hs : List ℕ) (m : Module) (x : ℕ) → AreHomes known ms hs → slice_get known x ≡ Some m →
    AreHomes known (ms ++ m ∷ []) (hs ++ x ∷ [])
AreHomes-push known [] [] m x h e = (e, tt)
AreHomes-push known [] (y ∷ hs) m x h e = absurd h
AreHomes-push known (n ∷ ms) [] m x h e = absurd h
AreHomes-push known (n ∷ ms) (y ∷ hs) m x h e = (h.0, AreHomes-push known ms hs m x h.1 e)

only-first : (i j : ℕ) (m : Module) → slice_get (runtime ∷ []) i ≡ Some m → slice_get (runtime ∷ []) j ≡ Some m → i ≡ j
only-first zero zero m a b = refl
only-first zero (suc j) m a b = absurd cc
only-first (suc i) j m a b = absurd cc

is-runtime : (i : ℕ) (m : Module) → slice_get (runtime ∷ []) i ≡ Some m → (m ≡ runtime) ⊎ Contains [] m
is-runtime zero m a = let e : m ≡ runtime = cc in inl e
is-runtime (suc i) m a = absurd cc

start-numbering : IsNumbering [] (runtime ∷ []) []
start-numbering = record { first = refl; once = only-first; only = is-runtime; homes_are = tt }

pub numbering-start : (none known : List Module) (homes : List ℕ) (rt : List ℕ) → none ≡ [] → rt ≡ runtime → known ≡ entered none rt →
    homes ≡ [] → IsNumbering [] known homes
numbering-start none known homes rt n r k h =
    let e : known ≡ runtime ∷ [] = k ∙ ap (λ x. entered x rt) n ∙ ap (entered []) r in
    subst (λ ks. IsNumbering [] ks homes) (sym e) (subst (λ hs. IsNumbering [] (runtime ∷ []) hs) (sym h) start-numbering)

module _ (ms known : List Module) (homes : List ℕ) (m : Module) (t : IsNumbering ms known homes) where
  more-only : (n : Module) → (n ≡ runtime) ⊎ Contains ms n → (n ≡ runtime) ⊎ Contains (ms ++ m ∷ []) n
  more-only n (inl e) = inl e
  more-only n (inr c) = inr (Contains-append_left ms (m ∷ []) n c)

  -- where it is known already
  known-on : list_any (bytes_eq m) known ≡ true → IsNumbering (ms ++ m ∷ []) known (homes ++ first m known ∷ [])
  known-on e = record {
    first = t.first;
    once = t.once;
    only = λ i n a. more-only n (t.only i n a);
    homes_are = AreHomes-push known ms homes m (first m known) t.homes_are (there m known e);
  }

  new-once : list_any (bytes_eq m) known ≡ false → (i j : ℕ) (n : Module) → (slice_get known i ≡ Some n) ⊎ ((i ≡ length known) × (n ≡ m)) →
      (slice_get known j ≡ Some n) ⊎ ((j ≡ length known) × (n ≡ m)) → i ≡ j
  new-once e i j n (inl a) (inl b) = t.once i j n a b
  new-once e i j n (inl a) (inr b) = absurd (not-there m known i e (a ∙ ap Some b.1))
  new-once e i j n (inr a) (inl b) = absurd (not-there m known j e (b ∙ ap Some a.1))
  new-once e i j n (inr a) (inr b) = a.0 ∙ sym b.0

  new-only : (i : ℕ) (n : Module) → (slice_get known i ≡ Some n) ⊎ ((i ≡ length known) × (n ≡ m)) →
      (n ≡ runtime) ⊎ Contains (ms ++ m ∷ []) n
  new-only i n (inl a) = more-only n (t.only i n a)
  new-only i n (inr a) = inr (subst (λ k. Contains (ms ++ m ∷ []) k) (sym a.1) (Contains-push ms m))

  new-on : list_any (bytes_eq m) known ≡ false → IsNumbering (ms ++ m ∷ []) (known ++ m ∷ []) (homes ++ first m known ∷ [])
  new-on e = record {
    first = get-push known m runtime 0 t.first;
    once = λ i j n a b. new-once e i j n (get-push_cases known m n i a) (get-push_cases known m n j b);
    only = λ i n a. new-only i n (get-push_cases known m n i a);
    homes_are = AreHomes-push (known ++ m ∷ []) ms homes m (first m known)
        (AreHomes-grow known (known ++ m ∷ []) ms homes (λ i n a. get-push known m n i a) t.homes_are)
        (subst (λ x. slice_get (known ++ m ∷ []) x ≡ Some m) (sym (absent m known e)) (get-end known m));
  }

  both-on : IsNumbering (ms ++ m ∷ []) (entered known m) (homes ++ first m known ∷ [])
  both-on = by (list_any (bytes_eq m) known) refl
    where
      by : (b : Bool) → list_any (bytes_eq m) known ≡ b →
          IsNumbering (ms ++ m ∷ []) (cond b known (known ++ m ∷ [])) (homes ++ first m known ∷ [])
      by true e = known-on e
      by false e = new-on e

-- a file more
pub numbering-on : (ms all known known' : List Module) (homes homes' : List ℕ) (m : Module) (n : ℕ) → IsNumbering ms known homes →
    all ≡ ms ++ m ∷ [] → known' ≡ entered known m → n ≡ position_or_len (bytes_eq m) known → homes' ≡ homes ++ n ∷ [] →
    IsNumbering all known' homes'
numbering-on ms all known known' homes homes' m n t a k e h = rw (a, k, h, e) (both-on ms known homes m t)

-- ---- numbers of modules

pub some-module : (ms known : List Module) (homes : List ℕ) → IsNumbering ms known homes → 0 < length known
some-module ms [] homes t = let e : None ≡ Some runtime = t.first in absurd cc
some-module ms (k ∷ ks) homes t = omega arith

pub get-within : {A : Type 0} (xs : List A) (i : ℕ) (x : A) → slice_get xs i ≡ Some x → i < length xs
get-within [] i x e = absurd cc
get-within (y ∷ ys) zero x e = omega arith
get-within (y ∷ ys) (suc i) x e = let l : i < length ys = get-within ys i x e in omega arith

-- the number of a module is the place at which it stands
pub position-is : (known : List Module) (m : Module) (n : ℕ) → position (bytes_eq m) known ≡ Some n → slice_get known n ≡ Some m
position-is known m n e = by (list_any (bytes_eq m) known) refl
  where
    some : (b : Bool) → nat_lt (first m known) (length known) ≡ b → cond b (Some (first m known)) None ≡ Some n → first m known ≡ n
    some true h k = cc
    some false h k = absurd cc

    none : first m known ≡ length known → (b : Bool) → nat_lt (first m known) (length known) ≡ b →
        cond b (Some (first m known)) None ≡ Some n → ⊥
    none f true h k = let l : first m known < length known = ltb-true _ _ h in absurd (omega arith)
    none f false h k = absurd cc

    by : (b : Bool) → list_any (bytes_eq m) known ≡ b → slice_get known n ≡ Some m
    by true a = subst (λ i. slice_get known i ≡ Some m) (some _ refl e) (there m known a)
    by false a = absurd (none (absent m known a) _ refl e)

-- and a module that stands there has that number
pub position-of : (ms known : List Module) (homes : List ℕ) (m : Module) (n : ℕ) → IsNumbering ms known homes → slice_get known n ≡ Some m →
    position (bytes_eq m) known ≡ Some n
position-of ms known homes m n t e = by (list_any (bytes_eq m) known) refl
  where
    by : (b : Bool) → list_any (bytes_eq m) known ≡ b → position (bytes_eq m) known ≡ Some n
    by false a = absurd (not-there m known n a e)
    by true a =
        let h : slice_get known (first m known) ≡ Some m = there m known a in
        let i : first m known ≡ n = t.once (first m known) n m h e in
        let l : first m known < length known = get-within known (first m known) m h in
        rw (lt-ltb (first m known) (length known) l) (ap Some i)
