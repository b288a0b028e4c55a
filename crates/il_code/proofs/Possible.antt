-- Which patterns tokens fit, and the tokens that are printed for them.
use Rattle.std.proofs.Common.{◌≡◌, ℕ, List, [], ◌∷◌, ◌++◌, Bool, true, false, cond, ◌&&◌, ◌||◌, refl, sym, ap, ◌∙◌, inl, inr, append_assoc, append-nil}
use Rattle.std.specs.List.{list_all}
use Rattle.std.proofs.lemmas.Bool.{and_parts, false≢true}
use Rattle.std.proofs.lemmas.List.Folds.{list_all-append}
use Rattle.il_code.specs.Tokens.{IlToken, is_token, Tokens}
use Rattle.il_code.specs.Grammar.{Pattern, never, nothing, token, both, either, many, Fits}

-- some tokens that can be spelled fit the pattern
abbrev pub can : Pattern → Bool
can never = false
can nothing = true
can (token t) = is_token t
can (both p q) = can p && can q
can (either p q) = can p || can q
can (many p) = true

-- the tokens that are printed, in front of others: the first way that can be taken, and as few as may be
abbrev pub printed : Pattern → List IlToken → List IlToken
printed never ts = ts
printed nothing ts = ts
printed (token t) ts = t ∷ ts
printed (both p q) ts = printed p (printed q ts)
printed (either p q) ts = cond (can p) (printed p ts) (printed q ts)
printed (many p) ts = ts

-- these tokens, in front of others, fit the pattern
abbrev Front : Pattern → List IlToken → List IlToken → Type 0
Front p all ts = (xs : List IlToken) × (all ≡ xs ++ ts) × Fits p xs

front_either : (p q : Pattern) (b : Bool) (ts : List IlToken) → (b || can q) ≡ true → (b ≡ true → Front p (printed p ts) ts) →
    (can q ≡ true → Front q (printed q ts) ts) → Front (either p q) (cond b (printed p ts) (printed q ts)) ts
front_either p q true ts h one other = let x = one refl in (x.0, x.1, inl x.2)
front_either p q false ts h one other = let x = other h in (x.0, x.1, inr x.2)

front_both : (p q : Pattern) (ts : List IlToken) → Front p (printed p (printed q ts)) (printed q ts) → Front q (printed q ts) ts →
    Front (both p q) (printed p (printed q ts)) ts
front_both p q ts x y = (x.0 ++ y.0, x.1 ∙ ap (λ z. x.0 ++ z) y.1 ∙ sym (append_assoc x.0 y.0 ts), (x.0, y.0, refl, x.2, y.2))

pub front_printed : (p : Pattern) (ts : List IlToken) → can p ≡ true → Front p (printed p ts) ts
front_printed never ts h = absurd (false≢true h)
front_printed nothing ts h = ([], refl, refl)
front_printed (token t) ts h = (t ∷ [], refl, refl)
front_printed (both p q) ts h =
    let k = and_parts (can p) (can q) h in front_both p q ts (front_printed p (printed q ts) k.0) (front_printed q ts k.1)
front_printed (either p q) ts h = front_either p q (can p) ts h (λ k. front_printed p ts k) (λ k. front_printed q ts k)
front_printed (many p) ts h = ([], refl, ([], refl, tt))

-- the tokens that are printed fit the pattern
pub Fits-printed : (p : Pattern) → can p ≡ true → Fits p (printed p [])
Fits-printed p h =
    let x = front_printed p [] h in let e : printed p [] ≡ x.0 = x.1 ∙ append-nil x.0 in subst_fits p (printed p []) x.0 e x.2
  where
    subst_fits : (p : Pattern) (ts xs : List IlToken) → ts ≡ xs → Fits p xs → Fits p ts
    subst_fits p ts xs e h = rw e h

or_left : (a b : Bool) → a ≡ true → (a || b) ≡ true
or_left a b h = rw h refl

or_right : (a b : Bool) → b ≡ true → (a || b) ≡ true
or_right true b h = refl
or_right false b h = h

-- only patterns that can be fit are fit by tokens that can be spelled
pub can-from_Fits : (p : Pattern) (ts : List IlToken) → Fits p ts → list_all is_token ts ≡ true → can p ≡ true
can-from_Fits never ts h w = absurd h
can-from_Fits nothing ts h w = refl
can-from_Fits (token t) ts h w = let k : list_all is_token (t ∷ []) ≡ true = rw h at w in (and_parts (is_token t) true k).0
can-from_Fits (both p q) ts h w =
    let k : (list_all is_token h.0 && list_all is_token h.1) ≡ true =
    sym (list_all-append is_token h.0 h.1) ∙ (ap (list_all is_token) (sym h.2) ∙ w) in
    let parts = and_parts _ _ k in
    rw (can-from_Fits p h.0 h.3 parts.0) (can-from_Fits q h.1 h.4 parts.1)
can-from_Fits (either p q) ts (inl h) w = or_left (can p) (can q) (can-from_Fits p ts h w)
can-from_Fits (either p q) ts (inr h) w = or_right (can p) (can q) (can-from_Fits q ts h w)
can-from_Fits (many p) ts h w = refl

-- the tokens of a text can be spelled
pub list_all-from_Tokens : (text : List ℕ) (ts : List IlToken) → Tokens text ts → list_all is_token ts ≡ true
list_all-from_Tokens text [] h = refl
list_all-from_Tokens text (t ∷ ts) h = rw (h.3.0) (list_all-from_Tokens h.1 ts h.5)
