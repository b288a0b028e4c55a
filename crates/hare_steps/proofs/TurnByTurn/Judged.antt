-- The table of which declarations have been judged, and the list of them.
use Rattle.std.proofs.Common.{◌≡◌, ◌≢◌, ℕ, zero, suc, ◌<◌, Bool, true, false, cond, List, [], ◌∷◌, ◌++◌, length, replicate, get_or, set, Some, refl, ap, sym, ◌∙◌, nat_eq, true≢false, is_some, arith}
use Rattle.std.specs.Prelude.{Contains}
use Rattle.std.specs.List.{find}
use Rattle.std.specs.Cmp.{unsigned_Decides}
use Rattle.std.proofs.lemmas.List.{get_or-set_same, get_or-set_other}
use Rattle.std.proofs.Math.ListN.{length-set}
use Rattle.hare_rules.specs.Words.{is_among}
use Rattle.hare_steps.specs.Taken.{is_judged, with_judged, with_all_judged, Tells}

pub tells-none : (n : ℕ) → Tells (replicate n false) []
tells-none zero g = refl
tells-none (suc n) zero = refl
tells-none (suc n) (suc g) = tells-none n g

among-more : (g n : ℕ) (ns : List ℕ) (b : Bool) → nat_eq g n ≡ b → is_among g (n ∷ ns) ≡ cond b true (is_among g ns)
among-more g n ns true e = ap (λ c. is_some (cond c (Some n) (find (nat_eq g) ns))) e
among-more g n ns false e = ap (λ c. is_some (cond c (Some n) (find (nat_eq g) ns))) e

pub tells-with : (js : List Bool) (ns : List ℕ) (n : ℕ) → Tells js ns → n < length js → Tells (with_judged js n) (n ∷ ns)
tells-with js ns n t h g = by (nat_eq g n) refl
  where
    by : (b : Bool) → nat_eq g n ≡ b → is_judged (with_judged js n) g ≡ is_among g (n ∷ ns)
    by true e =
        let same : g ≡ n = (unsigned_Decides g n).0 e in
        ap (λ k. get_or (set js n true) k false) same ∙ get_or-set_same js n true false h ∙ sym (among-more g n ns true e)
    by false e =
        let other : g ≢ n = λ s. true≢false (sym ((unsigned_Decides g n).1 s) ∙ e) in
        get_or-set_other js n g true false other ∙ t g ∙ sym (among-more g n ns false e)

-- it does not matter where in the list a declaration stands
among-middle : (g n : ℕ) (gs ns : List ℕ) → is_among g (gs ++ n ∷ ns) ≡ is_among g (n ∷ gs ++ ns)
among-middle g n [] ns = refl
among-middle g n (x ∷ gs) ns = by (nat_eq g x) refl (nat_eq g n) refl (among-middle g n gs ns)
  where
    by : (b : Bool) → nat_eq g x ≡ b → (c : Bool) → nat_eq g n ≡ c → is_among g (gs ++ n ∷ ns) ≡ is_among g (n ∷ gs ++ ns)
        → is_among g (x ∷ gs ++ n ∷ ns) ≡ is_among g (n ∷ x ∷ gs ++ ns)
    by true e true k h = among-more g x (gs ++ n ∷ ns) true e ∙ sym (among-more g n (x ∷ gs ++ ns) true k)
    by true e false k h = among-more g x (gs ++ n ∷ ns) true e ∙ sym
        (among-more g n (x ∷ gs ++ ns) false k ∙ among-more g x (gs ++ ns) true e)
    by false e true k h = among-more g x (gs ++ n ∷ ns) false e ∙ h ∙ among-more g n (gs ++ ns) true k ∙ sym
        (among-more g n (x ∷ gs ++ ns) true k)
    by false e false k h =
        among-more g x (gs ++ n ∷ ns) false e ∙ h ∙ among-more g n (gs ++ ns) false k
        ∙ sym (among-more g n (x ∷ gs ++ ns) false k ∙ among-more g x (gs ++ ns) false e)

pub tells-middle : (js : List Bool) (gs ns : List ℕ) (n : ℕ) → Tells js (gs ++ n ∷ ns) → Tells js (n ∷ gs ++ ns)
tells-middle js gs ns n t g = t g ∙ among-middle g n gs ns

pub length-with_all : (js : List Bool) (gs : List ℕ) → length (with_all_judged js gs) ≡ length js
length-with_all js [] = refl
length-with_all js (g ∷ gs) = length-with_all (with_judged js g) gs ∙ length-set js g true

pub tells-with_all : (js : List Bool) (ns gs : List ℕ) → Tells js ns → ((g : ℕ) → Contains gs g → g < length js) →
    Tells (with_all_judged js gs) (gs ++ ns)
tells-with_all js ns [] t h = t
tells-with_all js ns (n ∷ gs) t h =
    tells-middle (with_all_judged (with_judged js n) gs) gs ns n
    (tells-with_all (with_judged js n) (n ∷ ns) gs (tells-with js ns n t (h n (0, omega arith, refl)))
    (λ g c. let k = h g (suc c.0, omega (arith, c.1), c.2) in rw (length-set js n true) k))
