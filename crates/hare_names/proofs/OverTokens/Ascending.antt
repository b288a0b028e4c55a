-- The tokens of a file stand in their order, and so do those that are joined; so do places by their numbers.
use Rattle.std.proofs.Common.{◌≡◌, ◌⊎◌, inl, inr, ℕ, ◌<◌, List, [], ◌∷◌, ◌++◌, Bool, true, false, ◌==◌, length, get_or, refl, sym, ap, ◌∙◌}
use Rattle.std.proofs.Common.{subst, suc, zero, arith, if◌then◌else◌}
use Rattle.std.specs.Prelude.{Contains}
use Rattle.std.specs.List.{list_all}
use Rattle.std.proofs.lemmas.Bool.{and_parts, eqb-true}
use Rattle.hare_tree.specs.declared.token.Token.{Token}
use Rattle.hare_tree.specs.Grammar.{place_of, joined, joined_to, is_proper_string, string_at}
use Rattle.hare_lex.specs.Order.{is_before, AreOfFile}
use Rattle.hare_graph.proofs.Elements.{Contains-none, Contains-cases, Contains-here, Contains-behind}

-- the tokens are of the file, and each stands before those behind it
abbrev pub Up : ℕ → List Token → Type 0
Up f [] = Unit {0}
Up f (t ∷ ts) = (t.place.file ≡ f) × ((u : Token) → Contains ts u → is_before t.place u.place ≡ true) × Up f ts

record At (ts : List Token) (u : Token) : Type 0 where
  number : ℕ
  within : number < length ts
  is : (d : Token) → get_or ts number d ≡ u

contained-at : (ts : List Token) (u : Token) → Contains ts u → At ts u
contained-at [] u c = absurd (Contains-none u c)
contained-at (t ∷ ts) u c = by (λ d. contained-at ts u d) (Contains-cases t u ts c)
  where
    by : (Contains ts u → At ts u) → (t ≡ u) ⊎ Contains ts u → At (t ∷ ts) u
    by go (inl e) = record { number = 0; within = omega arith; is = λ d. e }
    by go (inr c) = let a = go c in let l : a.number < length ts =
        a.within in record { number = suc a.number; within = omega arith; is = a.is }

pub up-from : (f : ℕ) (ts : List Token) → AreOfFile f ts →
    ((i j : ℕ) (d : Token) → i < j → j < length ts → is_before (get_or ts i d).place (get_or ts j d).place ≡ true) → Up f ts
up-from f [] o a = tt
up-from f (t ∷ ts) o a =
    let p = and_parts (t.place.file == f) (list_all (λ u. u.place.file == f) ts) o in
    (eqb-true t.place.file f p.0, first, up-from f ts p.1 (λ i j d l k. a (suc i) (suc j) d (omega arith) (omega arith)))
  where
    first : (u : Token) → Contains ts u → is_before t.place u.place ≡ true
    first u c =
        let at = contained-at ts u c in
        let l : at.number < length ts = at.within in
        subst (λ v. is_before t.place v.place ≡ true) (at.is t) (a 0 (suc at.number) t (omega arith) (omega arith))

-- a joined token stands where one of the tokens does
joined-place : (ts : List Token) (u : Token) → Contains (joined ts) u → (v : Token) × Contains ts v × (v.place ≡ u.place)
joined-place [] u c = absurd (Contains-none u c)
joined-place (t ∷ ts) u c = by (joined ts) (λ x. joined-place ts x) c
  where
    behind : (x : Token) → ((v : Token) × Contains ts v × (v.place ≡ x.place)) → (v : Token) × Contains (t ∷ ts) v × (v.place ≡ x.place)
    behind x h = (h.0, Contains-behind t h.0 ts h.1, h.2)

    by : (js : List Token) → ((x : Token) → Contains js x → (v : Token) × Contains ts v × (v.place ≡ x.place)) →
        Contains (joined_to t js) u → (v : Token) × Contains (t ∷ ts) v × (v.place ≡ u.place)
    by [] go d = by-first (Contains-cases t u [] d)
      where
        by-first : (t ≡ u) ⊎ Contains [] u → (v : Token) × Contains (t ∷ ts) v × (v.place ≡ u.place)
        by-first (inl e) = (t, Contains-here t ts, ap (λ x. x.place) e)
        by-first (inr e) = absurd (Contains-none u e)
    by (j ∷ js) go d = by-strings (is_proper_string t) (is_proper_string j) d
      where
        own : (x : Token) → x.place ≡ t.place → (x ≡ u) ⊎ Contains js u → (v : Token) × Contains (t ∷ ts) v × (v.place ≡ u.place)
        own x e (inl h) = (t, Contains-here t ts, sym e ∙ ap (λ y. y.place) h)
        own x e (inr h) = behind u (go u (Contains-behind j u js h))

        apart : (t ≡ u) ⊎ Contains (j ∷ js) u → (v : Token) × Contains (t ∷ ts) v × (v.place ≡ u.place)
        apart (inl h) = (t, Contains-here t ts, ap (λ y. y.place) h)
        apart (inr h) = behind u (go u h)

        by-strings : (a b : Bool) →
            Contains (if a then (if b then string_at t.place (t.text ++ j.text) ∷ js else t ∷ j ∷ js) else t ∷ j ∷ js) u →
            (v : Token) × Contains (t ∷ ts) v × (v.place ≡ u.place)
        by-strings true true e = own (string_at t.place (t.text ++ j.text)) refl
            (Contains-cases (string_at t.place (t.text ++ j.text)) u js e)
        by-strings true false e = apart (Contains-cases t u (j ∷ js) e)
        by-strings false b e = apart (Contains-cases t u (j ∷ js) e)

pub joined-up : (f : ℕ) (ts : List Token) → Up f ts → Up f (joined ts)
joined-up f [] h = tt
joined-up f (t ∷ ts) h = by (joined ts) (joined-up f ts h.2) later
  where
    later : (u : Token) → Contains (joined ts) u → is_before t.place u.place ≡ true
    later u c = let p = joined-place ts u c in subst (λ x. is_before t.place x ≡ true) p.2 (h.1 p.0 p.1)

    by : (js : List Token) → Up f js → ((u : Token) → Contains js u → is_before t.place u.place ≡ true) → Up f (joined_to t js)
    by [] u l = (h.0, (λ v c. absurd (Contains-none v c)), tt)
    by (j ∷ js) u l = by-strings (is_proper_string t) (is_proper_string j)
      where
        by-strings : (a b : Bool) → Up f (if a then (if b then string_at t.place (t.text ++ j.text) ∷ js else t ∷ j ∷ js) else t ∷ j ∷ js)
        by-strings true true = (h.0, (λ v c. l v (Contains-behind j v js c)), u.2)
        by-strings true false = (h.0, l, u)
        by-strings false b = (h.0, l, u)

-- ---- places by numbers

there : (f : ℕ) (ts : List Token) (k : ℕ) → Up f ts → k < length ts → (u : Token) × Contains ts u × (place_of ts k ≡ u.place)
there f [] k h l = absurd (omega arith)
there f (t ∷ ts) zero h l = (t, Contains-here t ts, refl)
there f (t ∷ ts) (suc k) h l = let p = there f ts k h.2 (omega arith) in (p.0, Contains-behind t p.0 ts p.1, p.2)

pub file-place_of : (f : ℕ) (ts : List Token) (k : ℕ) → Up f ts → k < length ts → (place_of ts k).file ≡ f
file-place_of f [] k h l = absurd (omega arith)
file-place_of f (t ∷ ts) zero h l = h.0
file-place_of f (t ∷ ts) (suc k) h l = file-place_of f ts k h.2 (omega arith)

pub is_before-place_of : (f : ℕ) (ts : List Token) (j k : ℕ) → Up f ts → j < k → k < length ts →
    is_before (place_of ts j) (place_of ts k) ≡ true
is_before-place_of f [] j k h l m = absurd (omega arith)
is_before-place_of f (t ∷ ts) j zero h l m = absurd (omega arith)
is_before-place_of f (t ∷ ts) zero (suc k) h l m = let p = there f ts k h.2 (omega arith) in subst (λ x. is_before t.place x ≡ true)
    (sym p.2) (h.1 p.0 p.1)
is_before-place_of f (t ∷ ts) (suc j) (suc k) h l m = is_before-place_of f ts j k h.2 (omega arith) (omega arith)
