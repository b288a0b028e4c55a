-- A text of a module is valid exactly where no rule is broken at one of its places.
use Rattle.std.proofs.Common.{◌≡◌, ℕ, zero, suc, ◌+◌, ◌<◌, List, [], ◌∷◌, Some, Bool, true, false, cond, length, refl, sym, ap, ◌∙◌, subst, arith}
use Rattle.std.specs.Prelude.{count_by, slice_get, Contains}
use Rattle.std.specs.List.{list_all, list_any}
use Rattle.std.proofs.lemmas.Bool.{and_parts, false≢true}
use Rattle.std.proofs.lemmas.List.Sums.{sum_by-cons}
use Rattle.il_code.specs.declared.types.Module.{Module}
use Rattle.il_code.specs.Tokens.{IlToken, behind_gap, Tokens}
use Rattle.il_code.specs.Rules.{is_main, item_is_small, is_small, IsValidText}
use Rattle.il_code.specs.Loose.{settled, loose}
use Rattle.il_code.specs.Marks.{Numbers, bears, marks}
use Rattle.il_code.specs.Faults.{Stands, Front}
use Rattle.il_code.specs.MarkLaws.{is_clean, IsFaultlessText, FaultsAreTheRules}
use Rattle.il_code.proofs.MarkFunctions.{settled-loose}
use Rattle.il_code.proofs.MarksAndRules.{marks_are_the_rules}
use Rattle.il_code.proofs.BearingItems.{bears-module}

-- ---- the token that bears the marks of a number

-- the text's bearing token behind so many others
record Found (text : List ℕ) (k : ℕ) : Type 0 where
  before : List IlToken
  token : IlToken
  here : List ℕ
  after : List ℕ
  front : Front text before here
  stands : Stands here token after
  bearing : bears token ≡ true
  count : count_by bears before ≡ k

count_by-cons : (t : IlToken) (ts : List IlToken) → count_by bears (t ∷ ts) ≡ cond (bears t) 1 0 + count_by bears ts
count_by-cons t ts = sum_by-cons (λ x. cond (bears x) 1 0) t ts

further : (text : List ℕ) (t : IlToken) (rest : List ℕ) (j k : ℕ) → Stands (behind_gap text) t rest → cond (bears t) 1 0 + j ≡ k →
    Found rest j → Found text k
further text t rest j k here e f = record {
  before = t ∷ f.before;
  token = f.token;
  here = f.here;
  after = f.after;
  front = (rest, here, f.front);
  stands = f.stands;
  bearing = f.bearing;
  count = count_by-cons t f.before ∙ ap (λ n. cond (bears t) 1 0 + n) f.count ∙ e;
}

found_in : (text : List ℕ) (t : IlToken) (rest : List ℕ) (ts : List IlToken) → Stands (behind_gap text) t rest →
    ((j : ℕ) → j < count_by bears ts → Found rest j) → (b : Bool) → bears t ≡ b → (k : ℕ) → k < cond b 1 0 + count_by bears ts →
    Found text k
found_in text t rest ts here more true e zero lt =
    record { before = []; token = t; here = behind_gap text; after = rest; front = refl; stands = here; bearing = e; count = refl }
found_in text t rest ts here more true e (suc k) lt =
    further text t rest k (suc k) here (ap (λ b. cond b 1 0 + k) e ∙ omega arith) (more k (omega arith))
found_in text t rest ts here more false e k lt =
    further text t rest k k here (ap (λ b. cond b 1 0 + k) e ∙ omega arith) (more k (omega arith))

found : (text : List ℕ) (ts : List IlToken) → Tokens text ts → (k : ℕ) → k < count_by bears ts → Found text k
found text [] r k lt = absurd (omega arith)
found text (t ∷ ts) r k lt =
    found_in text t r.1 ts (record { spelling = r.0; splits = r.2; spelled = r.3; longest = r.4 }) (λ j h. found r.1 ts r.5 j h) (bears t)
    refl k (subst (λ n. k < n) (count_by-cons t ts) lt)

-- ---- marks

within : {A : Type 0} (xs : List A) (k : ℕ) (x : A) → slice_get xs k ≡ Some x → k < length xs
within [] k x h = absurd cc
within (y ∷ xs) zero x h = omega arith
within (y ∷ xs) (suc k) x h = let e = within xs k x h in omega arith

all_clean : (ms : List Numbers) → ((k : ℕ) (ns : Numbers) → slice_get ms k ≡ Some ns → is_clean ns ≡ true) → list_all is_clean ms ≡ true
all_clean [] h = refl
all_clean (m ∷ ms) h = let rest = all_clean ms (λ k ns e. h (suc k) ns e) in rw (h 0 m refl, rest) refl

clean_at : (ms : List Numbers) (k : ℕ) (ns : Numbers) → list_all is_clean ms ≡ true → slice_get ms k ≡ Some ns → is_clean ns ≡ true
clean_at [] k ns h e = absurd cc
clean_at (m ∷ ms) zero ns h e =
    let same : m ≡ ns = cc in subst (λ x. is_clean x ≡ true) same (and_parts (is_clean m) (list_all is_clean ms) h).0
clean_at (m ∷ ms) (suc k) ns h e = clean_at ms k ns (and_parts (is_clean m) (list_all is_clean ms) h).1 e

none_in_clean : (ns : Numbers) (n : ℕ) → is_clean ns ≡ true → Contains ns n → ⊥
none_in_clean [] n h c = omega (arith, c.1)
none_in_clean (m ∷ ns) n h c = false≢true h

-- ---- texts

mark_is_clean : (text : List ℕ) (m : Module) → IsFaultlessText text m → (k : ℕ) (ns : Numbers) →
    slice_get (marks (loose m.items)) k ≡ Some ns → is_clean ns ≡ true
mark_is_clean text m f k [] e = refl
mark_is_clean text m f k (n ∷ ns) e =
    let many = (bears-module m).count f.spells.tokens f.spells.fits in
    let at = found text f.spells.tokens f.spells.read k (subst (λ c. k < c) (sym many) (within (marks (loose m.items)) k (n ∷ ns) e)) in
    absurd (f.unbroken n at.here (record {
      tokens = at.before;
      token = at.token;
      after = at.after;
      front = at.front;
      stands = at.stands;
      bearing = at.bearing;
      numbers = n ∷ ns;
      marked = ap (λ c. slice_get (marks (loose m.items)) c) at.count ∙ e;
      broken = (0, omega arith, refl);
    }))

has_main : (text : List ℕ) (m : Module) → IsFaultlessText text m → (b : Bool) → list_any is_main (settled (loose m.items)) ≡ b → b ≡ true
has_main text m f true e = refl
has_main text m f false e = absurd (f.main 9 [] (record { nine = refl; end = refl; none = e }))

valid_text : (text : List ℕ) (m : Module) → IsFaultlessText text m → IsValidText text m
valid_text text m f =
    let e = sym (settled-loose m.items) in
    record {
      spells = f.spells;
      lawful = (marks_are_the_rules m).0 (record {
        unmarked = all_clean (marks (loose m.items)) (mark_is_clean text m f);
        main = has_main text m f (list_any is_main (settled (loose m.items))) refl;
        numbers = subst (λ items. list_all item_is_small items ≡ true) e f.numbers;
        small = subst (λ items. is_small items ≡ true) e f.small;
      });
    }

faultless_text : (text : List ℕ) (m : Module) → IsValidText text m → IsFaultlessText text m
faultless_text text m v =
    let f = (marks_are_the_rules m).1 v.lawful in
    record {
      spells = v.spells;
      unbroken = λ number here b. none_in_clean b.numbers number
          (clean_at (marks (loose m.items)) (count_by bears b.tokens) b.numbers f.unmarked b.marked) b.broken;
      main = λ number here l. false≢true (sym l.none ∙ f.main);
      numbers = v.lawful.numbers;
      small = v.lawful.small;
    }

pub faults_are_the_rules : FaultsAreTheRules
faults_are_the_rules text m = (valid_text text m, faultless_text text m)
