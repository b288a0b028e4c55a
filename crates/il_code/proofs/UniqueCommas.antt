-- Lists with commas between are told by their tokens.
use Rattle.std.proofs.Common.{◌≡◌, ℕ, List, [], ◌∷◌, ◌++◌, Bool, true, false, not, ◌&&◌, ◌||◌, refl, sym, ap, ◌∙◌, inl, inr, ◌⊎◌, append_assoc, append-nil, map, eqb, arith}
use Rattle.std.proofs.lemmas.Bool.{and_parts, false≢true}
use Rattle.std.proofs.lemmas.Bool.Decides.{nat_tests}
use Rattle.std.proofs.lemmas.Grind.{common_steps}
use Rattle.il_code.specs.Tokens.{IlToken, Word, TempName, SymbolName, LabelName, Numeral, Quoted, Mark, LineEnd}
use Rattle.il_code.specs.Grammar.{Pattern, nothing, both, row, comma, optional, spaced, may_lines, behind_comma, listed, parts_behind, Fits}
use Rattle.il_code.proofs.Unique.{false_from_not, Unique, ahead, begins, skip, fails, skip-append, seen_as, then, behind, closed, no_token, skipped, choice, or_else, weaker, front_both}
use Rattle.il_code.proofs.UniqueLists.{Repeats, row_leads, unique_row, is_line, no_line, unique_spaced}

-- ---- what stands next

abbrev pub is_word : IlToken → Bool
is_word (Word w) = true
is_word t = false

abbrev pub is_comma : IlToken → Bool
is_comma (Mark c) = eqb c 44
is_comma t = false

-- the mark behind the last of a list: `)` or `}`
abbrev pub is_close : IlToken → Bool
is_close (Mark c) = eqb c 41 || eqb c 125
is_close t = false

abbrev pub closes : List IlToken → Bool
closes = ahead is_close

-- behind one of a list
abbrev pub is_end : IlToken → Bool
is_end t = is_comma t || is_close t

abbrev pub at_end : List IlToken → Bool
at_end = ahead is_end

-- a comma, and behind it one more
abbrev pub goes_on : List IlToken → Bool
goes_on [] = false
goes_on (t ∷ ts) = is_comma t && begins is_word (skip is_line ts)

-- behind the last, where a comma may stand too
abbrev pub runs_out : List IlToken → Bool
runs_out ts = at_end ts && not (goes_on ts)

-- a comma and one more
abbrev pub further : {A : Type 0} → (A → Pattern) → A → Pattern
further P x = both (spaced (Mark 44)) (P x)

-- with commas between, and maybe one behind the last
abbrev pub separated : {A : Type 0} → (A → Pattern) → List A → Pattern
separated P [] = nothing
separated P (x ∷ xs) = both (both (P x) (row (map (further P) xs))) (optional (spaced (Mark 44)))

-- ---- what stands next, in other words

pub word_no_line : (ts : List IlToken) → begins is_word ts ≡ true → no_line ts ≡ true
word_no_line [] h = refl
word_no_line (LineEnd ∷ ts) h = absurd (false≢true h)
word_no_line (t ∷ ts) h = refl

close_no_comma : (c : ℕ) → (eqb c 41 || eqb c 125) ≡ true → eqb c 44 ≡ false
close_no_comma c h = grind (arith, nat_tests, common_steps)

or_true : (b : Bool) → (b || true) ≡ true
or_true true = refl
or_true false = refl

-- commas and NLs
abbrev is_gap : IlToken → Bool
is_gap t = is_comma t || is_line t

close_no_gap : (t : IlToken) → is_close t ≡ true → is_gap t ≡ false
close_no_gap (Mark c) h = rw (close_no_comma c h) refl
close_no_gap (Word w) h = absurd (false≢true h)
close_no_gap (TempName w) h = absurd (false≢true h)
close_no_gap (SymbolName w) h = absurd (false≢true h)
close_no_gap (LabelName w) h = absurd (false≢true h)
close_no_gap (Numeral w) h = absurd (false≢true h)
close_no_gap (Quoted w) h = absurd (false≢true h)
close_no_gap LineEnd h = absurd (false≢true h)

closes-no_gap : (r : List IlToken) → closes r ≡ true → ahead (fails is_gap) r ≡ true
closes-no_gap [] h = refl
closes-no_gap (t ∷ r) h = rw (close_no_gap t h) refl

pub closes-no_word : (r : List IlToken) → closes r ≡ true → begins is_word r ≡ false
closes-no_word [] h = refl
closes-no_word (Word w ∷ r) h = absurd (false≢true h)
closes-no_word (t ∷ r) h = refl

pub closes-no_line : (r : List IlToken) → closes r ≡ true → no_line r ≡ true
closes-no_line [] h = refl
closes-no_line (LineEnd ∷ r) h = absurd (false≢true h)
closes-no_line (t ∷ r) h = refl

closes-runs_out : (r : List IlToken) → closes r ≡ true → runs_out r ≡ true
closes-runs_out [] h = refl
closes-runs_out (Mark c ∷ r) h = rw (close_no_comma c h, h) refl
closes-runs_out (Word w ∷ r) h = absurd (false≢true h)
closes-runs_out (TempName w ∷ r) h = absurd (false≢true h)
closes-runs_out (SymbolName w ∷ r) h = absurd (false≢true h)
closes-runs_out (LabelName w ∷ r) h = absurd (false≢true h)
closes-runs_out (Numeral w ∷ r) h = absurd (false≢true h)
closes-runs_out (Quoted w ∷ r) h = absurd (false≢true h)
closes-runs_out (LineEnd ∷ r) h = absurd (false≢true h)

goes_on-at_end : (r : List IlToken) → goes_on r ≡ true → at_end r ≡ true
goes_on-at_end [] h = refl
goes_on-at_end (t ∷ r) h = let k = and_parts (is_comma t) (begins is_word (skip is_line r)) h in rw (k.0) refl

-- what stands behind a comma and NLs
comma_then : (b r : List IlToken) → Fits (spaced (Mark 44)) b → no_line r ≡ true → goes_on (b ++ r) ≡ begins is_word r
comma_then b r h stop = ap (λ z. goes_on (z ++ r)) (h.2 ∙ ap (λ z. z ++ h.1) h.3) ∙ ap (begins is_word)
    (skip-append is_line may_lines h.1 r refl h.4 stop)

comma_end : (b r : List IlToken) → Fits (spaced (Mark 44)) b → at_end (b ++ r) ≡ true
comma_end b r h = ap (λ z. at_end (z ++ r)) (h.2 ∙ ap (λ z. z ++ h.1) h.3)

-- ---- the lists

-- what may be so listed: it ends where a comma or a bracket stands next, and begins with a word
pub record Listed (A : Type 0) (P : A → Pattern) : Type 0 where
  pub one : Unique A P at_end
  pub opens : (x : A) (a r : List IlToken) → Fits (P x) a → begins is_word (a ++ r) ≡ true

further_opens : {A : Type 0} {P : A → Pattern} → Listed A P → (x : A) (a r : List IlToken) → Fits (further P x) a → goes_on (a ++ r) ≡ true
further_opens k x a r h =
    let starts = k.opens x h.1 r h.4 in
    ap (λ z. goes_on (z ++ r)) h.2 ∙ ap goes_on (append_assoc h.0 h.1 r) ∙ comma_then h.0 (h.1 ++ r) h.3 (word_no_line (h.1 ++ r) starts) ∙
    starts

pub repeats_further : {A : Type 0} {P : A → Pattern} → Listed A P → Repeats A (further P) at_end goes_on runs_out
repeats_further k = record {
  one = behind (spaced (Mark 44)) no_line (unique_spaced (Mark 44)) k.one (λ y b r h g. word_no_line (b ++ r) (k.opens y b r h));
  opens = further_opens k;
  apart = λ r g. false_from_not (goes_on r) (and_parts (at_end r) (not (goes_on r)) g).1;
  inside = goes_on-at_end;
  over = λ r g. (and_parts (at_end r) (not (goes_on r)) g).0;
}

unique_last_comma : Unique (Unit {0}) (λ u. optional (spaced (Mark 44))) closes
unique_last_comma = weaker closes closes-no_gap (skipped is_gap (optional (spaced (Mark 44))) refl)

last_comma_leads : (b r : List IlToken) → Fits (optional (spaced (Mark 44))) b → closes r ≡ true → runs_out (b ++ r) ≡ true
last_comma_leads b r (inl h) k = ap (λ z. runs_out (z ++ r)) h ∙ closes-runs_out r k
last_comma_leads b r (inr h) k = rw (comma_end b r h, comma_then b r h (closes-no_line r k), closes-no_word r k) refl

abbrev some_listed : {A : Type 0} → (A → Pattern) → A × List A → Pattern
some_listed P z = both (both (P z.0) (row (map (further P) z.1))) (optional (spaced (Mark 44)))

unique_some : {A : Type 0} {P : A → Pattern} → Listed A P → Unique (A × List A) (some_listed P) closes
unique_some {P} k =
    let rep = repeats_further k in
    closed (optional (spaced (Mark 44))) closes
    (then (λ _ xs. row (map (further P) xs)) runs_out k.one (λ _. unique_row rep)
    (λ x xs b r h g. row_leads rep at_end rep.inside rep.over xs b r h g)) unique_last_comma last_comma_leads

abbrev pub parted : {A : Type 0} → List A → (A × List A) ⊎ Unit {0}
parted [] = inr tt
parted (x ∷ xs) = inl (x, xs)

abbrev pub joined : {A : Type 0} → (A × List A) ⊎ Unit {0} → List A
joined (inl z) = z.0 ∷ z.1
joined (inr u) = []

fits_parted : {A : Type 0} (P : A → Pattern) (xs : List A) (b : List IlToken) → Fits (separated P xs) b →
    Fits (choice (some_listed P) (λ (u : Unit {0}). nothing) (parted xs)) b × (joined (parted xs) ≡ xs)
fits_parted P [] b h = (h, refl)
fits_parted P (x ∷ xs) b h = (h, refl)

some_opens : {A : Type 0} {P : A → Pattern} → Listed A P → (z : A × List A) (a r : List IlToken) → Fits (some_listed P z) a →
    begins is_word (a ++ r) ≡ true
some_opens k z a r h =
    let first = h.3 in
    ap (λ x. begins is_word (x ++ r)) (h.2 ∙ ap (λ x. x ++ h.1) first.2) ∙ ap (begins is_word)
    (append_assoc (first.0 ++ first.1) h.1 r ∙ append_assoc first.0 first.1 (h.1 ++ r)) ∙ k.opens z.0 first.0 (first.1 ++ (h.1 ++ r))
    first.3

pub unique_separated : {A : Type 0} {P : A → Pattern} → Listed A P → Unique (List A) (separated P) closes
unique_separated {P} k = seen_as (separated P) parted joined (fits_parted P)
    (or_else (begins is_word) (λ z a r h g. some_opens k z a r h) (λ u b r h g. ap (λ z. begins is_word (z ++ r)) h ∙ closes-no_word r g)
    (unique_some k) (no_token closes))

-- ---- the forms of the grammar

spaced_comma : (b : List IlToken) → Fits comma b → Fits (spaced (Mark 44)) b
spaced_comma b h = (b, [], sym (append-nil b), h, ([], refl, tt))

pub row_fits : {A : Type 0} (P Q : A → Pattern) → ((x : A) (a : List IlToken) → Fits (P x) a → Fits (Q x) a) →
    (xs : List A) (b : List IlToken) → Fits (row (map P xs)) b → Fits (row (map Q xs)) b
row_fits P Q f [] b h = h
row_fits P Q f (x ∷ xs) b h = (h.0, h.1, h.2, f x h.0 h.3, row_fits P Q f xs h.1 h.4)

-- a row of what stands behind a comma each
pub behind_comma_fits : {A : Type 0} (P : A → Pattern) (xs : List A) (b : List IlToken) → Fits (behind_comma (map P xs)) b →
    Fits (row (map (λ x. both comma (P x)) xs)) b
behind_comma_fits P [] b h = h
behind_comma_fits P (x ∷ xs) b h =
    let next = h.4 in (
      h.0 ++ next.0,
      next.1,
      h.2 ∙ ap (λ z. h.0 ++ z) next.2 ∙ sym (append_assoc h.0 next.0 next.1),
      (h.0, next.0, refl, h.3, next.3),
      behind_comma_fits P xs next.1 next.4,
    )

parts_behind_fits : {A : Type 0} (P : A → Pattern) (xs : List A) (b : List IlToken) → Fits (parts_behind (map P xs)) b →
    Fits (row (map (further P) xs)) b
parts_behind_fits P [] b h = h
parts_behind_fits P (x ∷ xs) b h =
    let next = h.4 in (
      h.0 ++ next.0,
      next.1,
      h.2 ∙ ap (λ z. h.0 ++ z) next.2 ∙ sym (append_assoc h.0 next.0 next.1),
      (h.0, next.0, refl, h.3, next.3),
      parts_behind_fits P xs next.1 next.4,
    )

last_comma_fits : (b : List IlToken) → Fits (optional comma) b → Fits (optional (spaced (Mark 44))) b
last_comma_fits b (inl h) = inl h
last_comma_fits b (inr h) = inr (spaced_comma b h)

further_fits : {A : Type 0} (P : A → Pattern) (x : A) (b : List IlToken) → Fits (both comma (P x)) b → Fits (further P x) b
further_fits P x b h = (h.0, h.1, h.2, spaced_comma h.0 h.3, h.4)

listed_fits : {A : Type 0} (P : A → Pattern) (xs : List A) (b : List IlToken) → Fits (listed (map P xs)) b → Fits (separated P xs) b
listed_fits P [] b h = h
listed_fits P (x ∷ xs) b h =
    let some = h.3 in
    let more = row_fits (λ y. both comma (P y)) (further P) (further_fits P) xs some.1 (behind_comma_fits P xs some.1 some.4) in
    (h.0, h.1, h.2, (some.0, some.1, some.2, some.3, more), last_comma_fits h.1 h.4)

pub unique_listed : {A : Type 0} {P : A → Pattern} → Listed A P → Unique (List A) (λ xs. listed (map P xs)) closes
unique_listed {P} k = seen_as (λ xs. listed (map P xs)) (λ xs. xs) (λ xs. xs) (λ xs b h. (listed_fits P xs b h, refl)) (unique_separated k)

-- the parts of a data item, where an NL is a blank
abbrev pub spaced_parts : {A : Type 0} → (A → Pattern) → List A → Pattern
spaced_parts P [] = nothing
spaced_parts P (x ∷ xs) = both (both (P x) (parts_behind (map P xs))) (optional (spaced (Mark 44)))

parts_fits : {A : Type 0} (P : A → Pattern) (xs : List A) (b : List IlToken) → Fits (spaced_parts P xs) b → Fits (separated P xs) b
parts_fits P [] b h = h
parts_fits P (x ∷ xs) b h = let some = h.3 in (h.0, h.1, h.2, (some.0, some.1, some.2, some.3, parts_behind_fits P xs some.1 some.4), h.4)

pub unique_parts_of : {A : Type 0} {P : A → Pattern} → Listed A P → Unique (List A) (spaced_parts P) closes
unique_parts_of {P} k = seen_as (spaced_parts P) (λ xs. xs) (λ xs. xs) (λ xs b h. (parts_fits P xs b h, refl)) (unique_separated k)

-- what holds where a word stands next and behind the list holds in front of it
pub parts_lead : {A : Type 0} {P : A → Pattern} → Listed A P → (H : List IlToken → Bool) →
    ((r : List IlToken) → begins is_word r ≡ true → H r ≡ true) → ((r : List IlToken) → closes r ≡ true → H r ≡ true) →
    (xs : List A) (b r : List IlToken) → Fits (spaced_parts P xs) b → closes r ≡ true → H (b ++ r) ≡ true
parts_lead k H w g [] b r h c = ap (λ z. H (z ++ r)) h ∙ g r c
parts_lead {P} k H w g (x ∷ xs) b r h c = w (b ++ r)
    (front_both (begins is_word) true (both (P x) (parts_behind (map P xs))) (optional (spaced (Mark 44)))
    (front_both (begins is_word) true (P x) (parts_behind (map P xs)) (k.opens x)) b r h)
