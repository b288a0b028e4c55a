-- What a `yield` means among the labels round it.
use Rattle.std.proofs.Common.{◌≡◌, ℕ, zero, suc, ◌+◌, ◌≤◌, Bool, true, false, cond, List, [], ◌∷◌, ◌++◌, drop, length, Option, Some, None, refl, ap, sym, ◌∙◌, subst, arith, add-one}
use Rattle.std.specs.Prelude.{slice_get, reverse, find}
use Rattle.std.proofs.lemmas.List.{reverse-append}
use Rattle.hare_rules.specs.declared.hint.Hint.{Hint}
use Rattle.hare_rules.specs.declared.hint.Hint.TheVariants as hint
use Rattle.hare_rules.specs.declared.inside.Label.{Label}
use Rattle.hare_rules.specs.Context.{Open}
use Rattle.hare_rules.specs.Control.{level_from, hint_of_open}
use Rattle.hare_types.specs.Store.{Store}
use Rattle.rule_judge.specs.Defined.{IsDefinedHint}
use Rattle.hare_above.specs.Frames.{open_of, opens}
use Rattle.hare_above.specs.Ready.{AreDefinedOpens}

opens-at : (ls : List Label) (hs : List Hint) (i : ℕ) (l : Label) → length hs ≡ length ls → slice_get ls i ≡ Some l →
    (h : Hint) × (slice_get hs i ≡ Some h) × (drop i (opens ls hs) ≡ open_of l h ∷ drop (suc i) (opens ls hs))
opens-at [] hs i l e g = cc
opens-at (u ∷ us) [] i l e g = absurd (omega (arith, e))
opens-at (u ∷ us) (h ∷ hs) zero l e g = let same : u ≡ l = cc in (h, refl, ap (λ x. open_of x h ∷ opens us hs) same)
opens-at (u ∷ us) (h ∷ hs) (suc i) l e g = opens-at us hs i l (omega (arith, e)) g

-- one label more is looked at
pub level-next : (p : Open → Bool) (ls : List Label) (hs : List Hint) (i : ℕ) (l : Label) (best next all : Option ℕ) →
    length hs ≡ length ls →
    slice_get ls i ≡ Some l → ((h : Hint) → next ≡ cond (p (open_of l h)) (Some i) best) →
    level_from p i (drop i (opens ls hs)) best ≡ all →
    level_from p (i + 1) (drop (i + 1) (opens ls hs)) next ≡ all
level-next p ls hs i l best next all e g n k =
    let o = opens-at ls hs i l e g in
    rw add-one
    (ap (level_from p (suc i) (drop (suc i) (opens ls hs))) (n o.0) ∙ sym (ap (λ x. level_from p i x best) o.2) ∙ k)

-- the last hint of those that can be meant
abbrev pub last_hint : (Open → Bool) → Hint → List Open → Hint
last_hint p h [] = h
last_hint p h (l ∷ ls) = last_hint p (cond (p l) l.hint h) ls

abbrev pub hint_or : Option Open → Hint → Hint
hint_or None h = h
hint_or (Some l) h = l.hint

or-last : (b : Bool) (l : Open) (h : Hint) → hint_or (cond b (Some l) None) h ≡ cond b l.hint h
or-last true l h = refl
or-last false l h = refl

or-next : (b : Bool) (u : Open) (x y : Option Open) (h g : Hint) → hint_or x h ≡ hint_or y g →
    hint_or (cond b (Some u) x) h ≡ hint_or (cond b (Some u) y) g
or-next true u x y h g e = refl
or-next false u x y h g e = e

find-append : (p : Open → Bool) (ls : List Open) (l : Open) (h : Hint) →
    hint_or (find p (ls ++ l ∷ [])) h ≡ hint_or (find p ls) (cond (p l) l.hint h)
find-append p [] l h = or-last (p l) l h
find-append p (u ∷ us) l h = or-next (p u) u (find p (us ++ l ∷ [])) (find p us) h (cond (p l) l.hint h) (find-append p us l h)

last-found : (p : Open → Bool) (ls : List Open) (h : Hint) → last_hint p h ls ≡ hint_or (find p (reverse ls)) h
last-found p [] h = refl
last-found p (l ∷ ls) h =
    last-found p ls (cond (p l) l.hint h)
    ∙ sym (ap (λ x. hint_or (find p x) h) (reverse-append (l ∷ []) ls) ∙ find-append p (reverse ls) l h)

or-none : (o : Option Open) → hint_or o hint.None ≡ hint_of_open o
or-none None = refl
or-none (Some l) = refl

pub last-meant : (p : Open → Bool) (ls : List Open) → last_hint p hint.None ls ≡ hint_of_open (find p (reverse ls))
last-meant p ls = last-found p ls hint.None ∙ or-none (find p (reverse ls))

pub hint-next : (p : Open → Bool) (ls : List Label) (hs : List Hint) (i : ℕ) (l : Label) (h best next all : Hint) → length hs ≡ length ls →
    slice_get ls i ≡ Some l → slice_get hs i ≡ Some h → next ≡ cond (p (open_of l h)) h best →
    last_hint p best (drop i (opens ls hs)) ≡ all →
    last_hint p next (drop (i + 1) (opens ls hs)) ≡ all
hint-next p ls hs i l h best next all e g k n a =
    let o = opens-at ls hs i l e g in
    let same : o.0 ≡ h = let both : Some o.0 ≡ Some h = sym o.1 ∙ k in cc in
    rw add-one
    (ap (λ x. last_hint p x (drop (suc i) (opens ls hs))) (n ∙ ap (λ x. cond (p (open_of l x)) x best) (sym same))
    ∙ sym (ap (last_hint p best) o.2) ∙ a)

pub opens-none : (ls : List Label) (hs : List Hint) (i : ℕ) → length ls ≤ i → drop i (opens ls hs) ≡ []
opens-none [] hs zero h = refl
opens-none [] hs (suc i) h = refl
opens-none (l ∷ ls) [] zero h = refl
opens-none (l ∷ ls) [] (suc i) h = refl
opens-none (l ∷ ls) (x ∷ hs) zero h = absurd (omega arith)
opens-none (l ∷ ls) (x ∷ hs) (suc i) h = opens-none ls hs i (omega arith)

last-defined : (s : Store) (p : Open → Bool) (h : Hint) (ls : List Open) → IsDefinedHint s h → AreDefinedOpens s ls →
    IsDefinedHint s (last_hint p h ls)
last-defined s p h [] d k = d
last-defined s p h (l ∷ ls) d k = last-defined s p (cond (p l) l.hint h) ls (by (p l)) k.1
  where
    by : (b : Bool) → IsDefinedHint s (cond b l.hint h)
    by true = k.0
    by false = d

pub meant-defined : (s : Store) (p : Open → Bool) (ls : List Open) → AreDefinedOpens s ls →
    IsDefinedHint s (hint_of_open (find p (reverse ls)))
meant-defined s p ls k = subst (IsDefinedHint s) (last-meant p ls) (last-defined s p hint.None ls tt k)
