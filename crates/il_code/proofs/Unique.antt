-- Patterns of which a list of tokens tells what was written and where it ends.
use Rattle.std.proofs.Common.{◌≡◌, List, [], ◌∷◌, ◌++◌, Option, None, Some, Bool, true, false, cond, not, ◌&&◌, refl, sym, ap, ◌∙◌, inl, inr, ◌⊎◌, subst, append_assoc}
use Rattle.std.specs.List.{list_all, flat_map, AllByRecursion}
use Rattle.std.proofs.lemmas.Bool.{and_parts, false≢true}
use Rattle.std.proofs.lemmas.List.Folds.{list_all-append}
use Rattle.std.proofs.lemmas.Option.{some_pair_parts}
use Rattle.il_code.specs.Tokens.{IlToken}
use Rattle.il_code.specs.Grammar.{Pattern, never, nothing, token, both, either, many, Fits}

-- what stands in front of a rest that passes the test is written for one `x` alone, and ends in one place alone
pub record Unique (A : Type 0) (P : A → Pattern) (F : List IlToken → Bool) : Type 0 where
  pub same : (x y : A) (a b r s : List IlToken) → Fits (P x) a → Fits (P y) b → a ++ r ≡ b ++ s → F r ≡ true → F s ≡ true → (x ≡ y) ×
      (r ≡ s)

-- ---- what stands next

abbrev pub any : List IlToken → Bool
any ts = true

-- the next token passes, or there is none
abbrev pub ahead : (IlToken → Bool) → List IlToken → Bool
ahead f [] = true
ahead f (t ∷ ts) = f t

-- there is a next token, and it passes
abbrev pub begins : (IlToken → Bool) → List IlToken → Bool
begins f [] = false
begins f (t ∷ ts) = f t

-- what stands behind the tokens in front that pass
abbrev pub skip : (IlToken → Bool) → List IlToken → List IlToken
skip f [] = []
skip f (t ∷ ts) = cond (f t) (skip f ts) (t ∷ ts)

abbrev pub fails : (IlToken → Bool) → IlToken → Bool
fails f t = not (f t)

-- each token that fits the pattern passes
abbrev pub has_only : (IlToken → Bool) → Pattern → Bool
has_only f never = true
has_only f nothing = true
has_only f (token t) = f t
has_only f (both p q) = has_only f p && has_only f q
has_only f (either p q) = has_only f p && has_only f q
has_only f (many p) = has_only f p

both_pass : (a b : Bool) → a ≡ true → b ≡ true → (a && b) ≡ true
both_pass a b ha hb = rw (ha, hb) refl

pub list_all-from_Fits : (f : IlToken → Bool) (p : Pattern) (a : List IlToken) → has_only f p ≡ true → Fits p a → list_all f a ≡ true
list_all-from_Fits f never a h k = absurd k
list_all-from_Fits f nothing a h k = rw k refl
list_all-from_Fits f (token t) a h k = rw (k, h) refl
list_all-from_Fits f (both p q) a h k =
    let parts = and_parts (has_only f p) (has_only f q) h in
    rw (k.2, list_all-append f k.0 k.1) (both_pass _ _ (list_all-from_Fits f p k.0 parts.0 k.3) (list_all-from_Fits f q k.1 parts.1 k.4))
list_all-from_Fits f (either p q) a h (inl k) = list_all-from_Fits f p a (and_parts (has_only f p) (has_only f q) h).0 k
list_all-from_Fits f (either p q) a h (inr k) = list_all-from_Fits f q a (and_parts (has_only f p) (has_only f q) h).1 k
list_all-from_Fits f (many p) a h k = ap (list_all f) k.1 ∙ each (λ part m. list_all-from_Fits f p part h m) k.0 k.2
  where
    each : ((part : List IlToken) → Fits p part → list_all f part ≡ true) → (parts : List (List IlToken)) → AllByRecursion (Fits p) parts →
        list_all f (flat_map (λ part. part) parts) ≡ true
    each g [] m = refl
    each g (part ∷ parts) m = list_all-append f part (flat_map (λ x. x) parts) ∙ both_pass _ _ (g part m.0) (each g parts m.1)

pub false_from_not : (b : Bool) → not b ≡ true → b ≡ false
false_from_not true e = absurd (false≢true e)
false_from_not false e = refl

pub true_and_false : (b : Bool) → b ≡ true → b ≡ false → ⊥
true_and_false b h k = false≢true (sym k ∙ h)

pub ahead-begins : (f : IlToken → Bool) (r : List IlToken) → ahead (fails f) r ≡ true → begins f r ≡ false
ahead-begins f [] h = refl
ahead-begins f (t ∷ r) h = false_from_not (f t) h

pub skip_ahead : (f : IlToken → Bool) (r : List IlToken) → ahead (fails f) r ≡ true → skip f r ≡ r
skip_ahead f [] h = refl
skip_ahead f (t ∷ r) h = rw (false_from_not (f t) h) refl

skip_all : (f : IlToken → Bool) (a r : List IlToken) → list_all f a ≡ true → skip f (a ++ r) ≡ skip f r
skip_all f [] r h = refl
skip_all f (t ∷ a) r h = let k = and_parts (f t) (list_all f a) h in rw (k.0) (skip_all f a r k.1)

pub skip-append : (f : IlToken → Bool) (p : Pattern) (a r : List IlToken) → has_only f p ≡ true → Fits p a → ahead (fails f) r ≡ true →
    skip f (a ++ r) ≡ r
skip-append f p a r h k stop = skip_all f a r (list_all-from_Fits f p a h k) ∙ skip_ahead f r stop

-- what fits a pattern that begins with a token
pub first_of_token : (t : IlToken) (q : Pattern) (b r : List IlToken) → Fits (both (token t) q) b → (c : List IlToken) × (b ++ r ≡ t ∷ c)
first_of_token t q b r h = (h.1 ++ r, ap (λ z. z ++ r) (h.2 ∙ ap (λ z. z ++ h.1) h.3))

pub ahead-first : (f : IlToken → Bool) (t : IlToken) (q : Pattern) (b r : List IlToken) → f t ≡ true → Fits (both (token t) q) b →
    ahead f (b ++ r) ≡ true
ahead-first f t q b r h k = let x = first_of_token t q b r k in ap (ahead f) x.1 ∙ h

pub begins-first : (f : IlToken → Bool) (t : IlToken) (q : Pattern) (b r : List IlToken) → f t ≡ true → Fits (both (token t) q) b →
    begins f (b ++ r) ≡ true
begins-first f t q b r h k = let x = first_of_token t q b r k in ap (begins f) x.1 ∙ h

-- what is told by the tokens in front, of a pattern that begins with another
pub front_both : {V : Type 0} (E : List IlToken → V) (v : V) (p q : Pattern) → ((a r : List IlToken) → Fits p a → E (a ++ r) ≡ v) →
    (b r : List IlToken) → Fits (both p q) b → E (b ++ r) ≡ v
front_both E v p q k b r h = ap (λ z. E (z ++ r)) h.2 ∙ ap E (append_assoc h.0 h.1 r) ∙ k h.0 (h.1 ++ r) h.3

pub front_token : {V : Type 0} (E : List IlToken → V) (v : V) (t : IlToken) → ((r : List IlToken) → E (t ∷ r) ≡ v) → (a r : List IlToken) →
    Fits (token t) a → E (a ++ r) ≡ v
front_token E v t k a r h = ap (λ z. E (z ++ r)) h ∙ k r

pub front_nothing : {V : Type 0} (E : List IlToken → V) (v : V) (q : Pattern) → ((a r : List IlToken) → Fits q a → E (a ++ r) ≡ v) →
    (b r : List IlToken) → Fits (both nothing q) b → E (b ++ r) ≡ v
front_nothing E v q k b r h = ap (λ z. E (z ++ r)) (h.2 ∙ ap (λ z. z ++ h.1) h.3) ∙ k h.1 r h.4

-- ---- one construct

-- where a reader finds it and the rest
pub by_reader : {A : Type 0} (P : A → Pattern) (F : List IlToken → Bool) (read : List IlToken → Option (A × List IlToken)) →
    ((x : A) (a r : List IlToken) → Fits (P x) a → F r ≡ true → read (a ++ r) ≡ Some (x, r)) → Unique A P F
by_reader P F read h = record {
  same = λ x y a b r s fx fy e fr fs. some_pair_parts x y r s
      (sym (h x a r fx fr) ∙ ap read e ∙ h y b s fy fs);
}

pub weaker : {A : Type 0} {P : A → Pattern} {F : List IlToken → Bool} (G : List IlToken → Bool) →
    ((r : List IlToken) → G r ≡ true → F r ≡ true) → Unique A P F → Unique A P G
weaker G w u = record { same = λ x y a b r s fx fy e fr fs. u.same x y a b r s fx fy e (w r fr) (w s fs) }

-- another view of it, with patterns that are fit by more
pub seen_as : {A B : Type 0} {P : A → Pattern} {F : List IlToken → Bool} (Q : B → Pattern) (view : B → A) (back : A → B) →
    ((y : B) (b : List IlToken) → Fits (Q y) b → Fits (P (view y)) b × (back (view y) ≡ y)) → Unique A P F → Unique B Q F
seen_as Q view back h u = record {
  same = λ x y a b r s fx fy e fr fs. let k = h x a fx in let l = h y b fy in let z = u.same (view x)
      (view y) a b r s k.0 l.0 e fr fs in (sym k.1 ∙ ap back z.0 ∙ l.1, z.1);
}

-- ---- one behind the other

-- two parts each, in front of rests
pub behind_seam : (a b r c d s x y : List IlToken) → x ≡ a ++ b → y ≡ c ++ d → x ++ r ≡ y ++ s → a ++ (b ++ r) ≡ c ++ (d ++ s)
behind_seam a b r c d s x y ex ey e = sym (append_assoc a b r) ∙ ap (λ z. z ++ r) (sym ex) ∙ e ∙ ap (λ z. z ++ s) ey ∙ append_assoc c d s

-- what the second is may depend on the first
pub then : {A B : Type 0} {P : A → Pattern} {F : List IlToken → Bool} (Q : A → B → Pattern) (G : List IlToken → Bool) → Unique A P F →
    ((x : A) → Unique B (Q x) G) → ((x : A) (y : B) (b r : List IlToken) → Fits (Q x y) b → G r ≡ true → F (b ++ r) ≡ true) →
    Unique (A × B) (λ z. both (P z.0) (Q z.0 z.1)) G
then {P} {F} Q G u v lead = record {
  same = λ x y a b r s fx fy e fr fs.
      let seam = behind_seam fx.0 fx.1 r fy.0 fy.1 s a b fx.2 fy.2 e in
      let one = u.same x.0 y.0 fx.0 fy.0 (fx.1 ++ r) (fy.1 ++ s) fx.3 fy.3 seam (lead x.0 x.1 fx.1 r fx.4 fr)
      (lead y.0 y.1 fy.1 s fy.4 fs) in
      let moved : Fits (Q x.0 y.1) fy.1 = subst (λ z. Fits (Q z y.1) fy.1) (sym one.0) fy.4 in
      let two = (v x.0).same x.1 y.1 fx.1 fy.1 r s fx.4 moved one.1 fr fs in
      (ap (λ z. (z, x.1)) one.0 ∙ ap (λ z. (y.0, z)) two.0, two.1);
}

pub next : {A B : Type 0} {P : A → Pattern} {Q : B → Pattern} {G : List IlToken → Bool} → Unique A P any → Unique B Q G →
    Unique (A × B) (λ z. both (P z.0) (Q z.1)) G
next {Q} {G} u v = then (λ _. Q) G u (λ _. v) (λ x y b r h k. refl)

-- what is always the same stands in front
pub behind : {B : Type 0} {Q : B → Pattern} {G : List IlToken → Bool} (p : Pattern) (F : List IlToken → Bool) →
    Unique (Unit {0}) (λ u. p) F → Unique B Q G → ((y : B) (b r : List IlToken) → Fits (Q y) b → G r ≡ true → F (b ++ r) ≡ true) →
    Unique B (λ y. both p (Q y)) G
behind {Q} {G} p F u v lead = seen_as (λ y. both p (Q y)) (λ y. (tt, y)) (λ z. z.1) (λ y b h. (h, refl))
    (then (λ _. Q) G u (λ _. v) (λ _. lead))

-- what is always the same stands behind
pub closed : {A : Type 0} {P : A → Pattern} {F : List IlToken → Bool} (q : Pattern) (G : List IlToken → Bool) → Unique A P F →
    Unique (Unit {0}) (λ u. q) G → ((b r : List IlToken) → Fits q b → G r ≡ true → F (b ++ r) ≡ true) → Unique A (λ x. both (P x) q) G
closed {P} q G u v lead = seen_as (λ x. both (P x) q) (λ x. (x, tt)) (λ z. z.0) (λ y b h. (h, refl))
    (then (λ _ _. q) G u (λ _. v) (λ _ _. lead))

-- ---- what is always the same

tail : List IlToken → List IlToken
tail [] = []
tail (t ∷ ts) = ts

pub one_token : (t : IlToken) → Unique (Unit {0}) (λ u. token t) any
unfolding tail
one_token t = record { same = λ x y a b r s fx fy e fr fs. (refl, ap tail (ap (λ z. z ++ r) (sym fx) ∙ e ∙ ap (λ z. z ++ s) fy)) }

pub no_token : (F : List IlToken → Bool) → Unique (Unit {0}) (λ u. nothing) F
no_token F = record { same = λ x y a b r s fx fy e fr fs. (refl, ap (λ z. z ++ r) (sym fx) ∙ e ∙ ap (λ z. z ++ s) fy) }

-- a pattern of tokens that pass, in front of one that does not
pub skipped : (f : IlToken → Bool) (p : Pattern) → has_only f p ≡ true → Unique (Unit {0}) (λ u. p) (ahead (fails f))
skipped f p h = record {
  same = λ x y a b r s fx fy e fr fs.
      (refl, sym (skip-append f p a r h fx fr) ∙ ap (skip f) e ∙ skip-append f p b s h fy fs);
}

-- a token in front
pub begun : {B : Type 0} {Q : B → Pattern} {G : List IlToken → Bool} (t : IlToken) → Unique B Q G → Unique B (λ y. both (token t) (Q y)) G
begun t v = behind (token t) any (one_token t) v (λ y b r h k. refl)

-- the last of a row
pub last : {A : Type 0} {P : A → Pattern} {F : List IlToken → Bool} → Unique A P F → Unique A (λ x. both (P x) nothing) F
last {F} u = closed nothing F u (no_token F) (λ b r h k. ap (λ z. F (z ++ r)) h ∙ k)

-- a token at the end of a row
pub ended : {A : Type 0} {P : A → Pattern} {F : List IlToken → Bool} (t : IlToken) → ((r : List IlToken) → F (t ∷ r) ≡ true) →
    Unique A P F → Unique A (λ x. both (P x) (both (token t) nothing)) any
ended {F} t h u = closed (both (token t) nothing) any u (last (one_token t))
    (λ b r k l. let x = first_of_token t nothing b r k in ap F x.1 ∙ h x.0)

-- ---- one of two

-- the one or the other, as a test of the tokens tells
abbrev pub choice : {A B : Type 0} → (A → Pattern) → (B → Pattern) → A ⊎ B → Pattern
choice P Q (inl x) = P x
choice P Q (inr y) = Q y

pub or_else : {A B : Type 0} {P : A → Pattern} {Q : B → Pattern} {F : List IlToken → Bool} (test : List IlToken → Bool) →
    ((x : A) (a r : List IlToken) → Fits (P x) a → F r ≡ true → test (a ++ r) ≡ true) →
    ((y : B) (b r : List IlToken) → Fits (Q y) b → F r ≡ true → test (b ++ r) ≡ false) → Unique A P F → Unique B Q F →
    Unique (A ⊎ B) (choice P Q) F
or_else {A} {B} {P} {Q} {F} test met unmet u v = record { same = cases }
  where
    cases : (x y : A ⊎ B) (a b r s : List IlToken) → Fits (choice P Q x) a → Fits (choice P Q y) b → a ++ r ≡ b ++ s → F r ≡ true →
        F s ≡ true → (x ≡ y) × (r ≡ s)
    cases (inl x) (inl y) a b r s fx fy e fr fs = let z = u.same x y a b r s fx fy e fr fs in (ap inl z.0, z.1)
    cases (inl x) (inr y) a b r s fx fy e fr fs = absurd (true_and_false _ (sym (ap test e) ∙ met x a r fx fr) (unmet y b s fy fs))
    cases (inr x) (inl y) a b r s fx fy e fr fs = absurd (true_and_false _ (ap test e ∙ met y b s fy fs) (unmet x a r fx fr))
    cases (inr x) (inr y) a b r s fx fy e fr fs = let z = v.same x y a b r s fx fy e fr fs in (ap inr z.0, z.1)

-- what may be absent
abbrev pub if_there : {A : Type 0} → (A → Pattern) → Option A → Pattern
if_there P None = nothing
if_there P (Some x) = P x

abbrev there : {A : Type 0} → Option A → A ⊎ Unit {0}
there None = inr tt
there (Some x) = inl x

abbrev if_some : {A : Type 0} → A ⊎ Unit {0} → Option A
if_some (inl x) = Some x
if_some (inr y) = None

fits_there : {A : Type 0} (P : A → Pattern) (y : Option A) (b : List IlToken) → Fits (if_there P y) b →
    Fits (choice P (λ (u : Unit {0}). nothing) (there y)) b × (if_some (there y) ≡ y)
fits_there P None b h = (h, refl)
fits_there P (Some x) b h = (h, refl)

pub maybe : {A : Type 0} {P : A → Pattern} {F : List IlToken → Bool} (test : List IlToken → Bool) →
    ((x : A) (a r : List IlToken) → Fits (P x) a → F r ≡ true → test (a ++ r) ≡ true) → ((r : List IlToken) → F r ≡ true → test r ≡ false) →
    Unique A P F → Unique (Option A) (if_there P) F
maybe {P} {F} test met unmet u = seen_as (if_there P) there if_some (fits_there P)
    (or_else test met (λ y b r h k. ap (λ z. test (z ++ r)) h ∙ unmet r k) u (no_token F))

-- what need not be written where it is the usual one
pub or_default : {A : Type 0} {P : A → Pattern} {F : List IlToken → Bool} (Q : A → Pattern) (d : A) (test : List IlToken → Bool) →
    ((x : A) (a : List IlToken) → Fits (Q x) a → Fits (P x) a ⊎ ((x ≡ d) × (a ≡ []))) →
    ((x : A) (a r : List IlToken) → Fits (P x) a → F r ≡ true → test (a ++ r) ≡ true) → ((r : List IlToken) → F r ≡ true → test r ≡ false) →
    Unique A P F → Unique A Q F
or_default {A} {P} {F} Q d test split met unmet u =
    record { same = λ x y a b r s fx fy e fr fs. cases x y a b r s (split x a fx) (split y b fy) e fr fs }
  where
    cases : (x y : A) (a b r s : List IlToken) → Fits (P x) a ⊎ ((x ≡ d) × (a ≡ [])) → Fits (P y) b ⊎ ((y ≡ d) × (b ≡ [])) →
        a ++ r ≡ b ++ s → F r ≡ true → F s ≡ true → (x ≡ y) × (r ≡ s)
    cases x y a b r s (inl fx) (inl fy) e fr fs = u.same x y a b r s fx fy e fr fs
    cases x y a b r s (inl fx) (inr fy) e fr fs =
        absurd (true_and_false _ (sym (ap test (e ∙ ap (λ z. z ++ s) fy.1)) ∙ met x a r fx fr) (unmet s fs))
    cases x y a b r s (inr fx) (inl fy) e fr fs =
        absurd (true_and_false _ (ap test (ap (λ z. z ++ r) (sym fx.1) ∙ e) ∙ met y b s fy fs) (unmet r fr))
    cases x y a b r s (inr fx) (inr fy) e fr fs = (fx.0 ∙ sym fy.0, ap (λ z. z ++ r) (sym fx.1) ∙ e ∙ ap (λ z. z ++ s) fy.1)
