-- What is noted of a program, as lists of faults and of meanings.
use Rattle.std.proofs.Common.{◌≡◌, ℕ, ◌+◌, List, [], ◌∷◌, ◌++◌, Bool, true, false, cond, ◌&&◌, ◌==◌, true≢false, fold, Option, Some, None, is_some, refl, sym, ap, ◌∙◌, if◌then◌else◌}
use Rattle.std.specs.List.{flat_map}
use Rattle.std.specs.Option.{option_or}
use Rattle.std.proofs.lemmas.Bool.{and_parts, eqb-true, eq-eqb}
use Rattle.std.proofs.lemmas.List.Sums.{fold-append}
use Rattle.hare_tree.specs.declared.place.Place.{Place}
use Rattle.hare_tree.specs.declared.place.Fault.{Fault}
use Rattle.hare_tree.specs.declared.token.Meaning.{Meaning}
use Rattle.hare_tree.specs.declared.tree.FileTree.{FileTree}
use Rattle.hare_tree.specs.Node.{Node}
use Rattle.hare_modules.specs.Order.{fault, earlier, same_place}
use Rattle.hare_modules.specs.Directory.{Directory}
use Rattle.hare_directory.proofs.TakenNames.First.{option_or-none}
use Rattle.hare_names.specs.declared.notes.Notes.{Notes}
use Rattle.hare_names.specs.declared.verdict.Verdict.{Verdict}
use Rattle.hare_names.specs.declared.verdict.Verdict.TheVariants.{Means, Fails}
use Rattle.hare_names.specs.Tables.{verdict, meaning_at, put}
use Rattle.hare_names.specs.Spots.{Spot, noted, noted_as, spots_in}
use Rattle.hare_names.specs.Noted.{decl_noted, files_noted}

abbrev pub Meanings : Type 0
Meanings = List (Place × Meaning)

-- ---- one path

abbrev pub faults_by : Place → Verdict → List Fault
faults_by p (Means m) = []
faults_by p (Fails n) = fault n p ∷ []

abbrev pub meanings_by : Place → Verdict → Meanings
meanings_by p (Means m) = (p, m) ∷ []
meanings_by p (Fails n) = []

abbrev pub spot_faults : Directory → ℕ → Spot → List Fault
spot_faults d f s = faults_by s.place (verdict d f s.is_type s.locals s.names)

abbrev pub spot_meanings : Directory → ℕ → Spot → Meanings
spot_meanings d f s = meanings_by s.place (verdict d f s.is_type s.locals s.names)

abbrev pub put_one : Meanings → Place × Meaning → Meanings
put_one es e = put es e.0 e.1

-- ---- lists of paths

module _ (d : Directory) (f : ℕ) where
  abbrev pub decl_faults : Node → List Fault
  decl_faults t = flat_map (spot_faults d f) (spots_in 0 [] t)

  abbrev pub decl_meanings : Node → Meanings
  decl_meanings t = flat_map (spot_meanings d f) (spots_in 0 [] t)

  spots-first : (n : Notes) (ss : List Spot) → (fold (noted d f) n ss).first ≡ fold earlier n.first (flat_map (spot_faults d f) ss)
  spots-first n [] = refl
  spots-first n (s ∷ ss) = by (verdict d f s.is_type s.locals s.names) (λ m. spots-first m ss)
    where
      by : (v : Verdict) → ((m : Notes) → (fold (noted d f) m ss).first ≡ fold earlier m.first (flat_map (spot_faults d f) ss)) →
          (fold (noted d f) (noted_as n s.place v) ss).first ≡ fold earlier n.first (faults_by s.place v ++ flat_map (spot_faults d f) ss)
      by (Means m) h = h (record n { places = put n.places s.place m })
      by (Fails k) h = h (record n { first = earlier n.first (fault k s.place) })

  spots-places : (n : Notes) (ss : List Spot) → (fold (noted d f) n ss).places ≡ fold put_one n.places (flat_map (spot_meanings d f) ss)
  spots-places n [] = refl
  spots-places n (s ∷ ss) = by (verdict d f s.is_type s.locals s.names) (λ m. spots-places m ss)
    where
      by : (v : Verdict) → ((m : Notes) → (fold (noted d f) m ss).places ≡ fold put_one m.places (flat_map (spot_meanings d f) ss)) →
          (fold (noted d f) (noted_as n s.place v) ss).places ≡ fold put_one n.places
          (meanings_by s.place v ++ flat_map (spot_meanings d f) ss)
      by (Means m) h = h (record n { places = put n.places s.place m })
      by (Fails k) h = h (record n { first = earlier n.first (fault k s.place) })

  decls-first : (n : Notes) (ts : List Node) → (fold (decl_noted d f) n ts).first ≡ fold earlier n.first (flat_map decl_faults ts)
  decls-first n [] = refl
  decls-first n (t ∷ ts) =
      decls-first (decl_noted d f n t) ts
      ∙ ap (λ o. fold earlier o (flat_map decl_faults ts)) (spots-first n (spots_in 0 [] t))
      ∙ sym (fold-append earlier n.first (decl_faults t) (flat_map decl_faults ts))

  decls-places : (n : Notes) (ts : List Node) → (fold (decl_noted d f) n ts).places ≡ fold put_one n.places (flat_map decl_meanings ts)
  decls-places n [] = refl
  decls-places n (t ∷ ts) =
      decls-places (decl_noted d f n t) ts
      ∙ ap (λ es. fold put_one es (flat_map decl_meanings ts)) (spots-places n (spots_in 0 [] t))
      ∙ sym (fold-append put_one n.places (decl_meanings t) (flat_map decl_meanings ts))

-- ---- files

abbrev pub faults_from : Directory → ℕ → List FileTree → List Fault
faults_from d f [] = []
faults_from d f (t ∷ ts) = flat_map (decl_faults d f) t.decls ++ faults_from d (f + 1) ts

abbrev pub meanings_from : Directory → ℕ → List FileTree → Meanings
meanings_from d f [] = []
meanings_from d f (t ∷ ts) = flat_map (decl_meanings d f) t.decls ++ meanings_from d (f + 1) ts

pub files-first : (d : Directory) (f : ℕ) (n : Notes) (ts : List FileTree) →
    (files_noted d f n ts).first ≡ fold earlier n.first (faults_from d f ts)
files-first d f n [] = refl
files-first d f n (t ∷ ts) =
    files-first d (f + 1) (fold (decl_noted d f) n t.decls) ts
    ∙ ap (λ o. fold earlier o (faults_from d (f + 1) ts)) (decls-first d f n t.decls)
    ∙ sym (fold-append earlier n.first (flat_map (decl_faults d f) t.decls) (faults_from d (f + 1) ts))

pub files-places : (d : Directory) (f : ℕ) (n : Notes) (ts : List FileTree) →
    (files_noted d f n ts).places ≡ fold put_one n.places (meanings_from d f ts)
files-places d f n [] = refl
files-places d f n (t ∷ ts) =
    files-places d (f + 1) (fold (decl_noted d f) n t.decls) ts
    ∙ ap (λ es. fold put_one es (meanings_from d (f + 1) ts)) (decls-places d f n t.decls)
    ∙ sym (fold-append put_one n.places (flat_map (decl_meanings d f) t.decls) (meanings_from d (f + 1) ts))

-- ---- look-ups

meaning-push : (q p : Place) (m : Meaning) (es : Meanings) →
    meaning_at q (es ++ (p, m) ∷ []) ≡ option_or (meaning_at q es) (cond (same_place q p) (Some m) None)
meaning-push q p m [] = refl
meaning-push q p m (e ∷ es) = by (same_place q e.0) (meaning-push q p m es)
  where
    by : (b : Bool) → meaning_at q (es ++ (p, m) ∷ []) ≡ option_or (meaning_at q es) (cond (same_place q p) (Some m) None) →
        cond b (Some e.1) (meaning_at q (es ++ (p, m) ∷ [])) ≡ option_or (cond b (Some e.1) (meaning_at q es))
        (cond (same_place q p) (Some m) None)
    by true h = refl
    by false h = h

option_or-assoc : {A : Type 0} (o p q : Option A) → option_or (option_or o p) q ≡ option_or o (option_or p q)
option_or-assoc None p q = refl
option_or-assoc (Some a) p q = refl

abbrev place_at : ℕ → ℕ → ℕ → Place
place_at f l c = record { file = f; line = l; column = c }

pub same-is : (p q : Place) → same_place p q ≡ true → p ≡ q
same-is p q e =
    let h = and_parts (p.file == q.file && p.line == q.line) (p.column == q.column) e in
    let g = and_parts (p.file == q.file) (p.line == q.line) h.0 in
    ap (λ f. place_at f p.line p.column) (eqb-true p.file q.file g.0)
    ∙ ap (λ l. place_at q.file l p.column) (eqb-true p.line q.line g.1)
    ∙ ap (place_at q.file q.line) (eqb-true p.column q.column h.1)

pub same-itself : (p : Place) → same_place p p ≡ true
same-itself p = rw (eq-eqb p.file p.file refl, eq-eqb p.line p.line refl, eq-eqb p.column p.column refl) refl

meaning-put : (q p : Place) (m : Meaning) (es : Meanings) →
    meaning_at q (put es p m) ≡ option_or (meaning_at q es) (cond (same_place q p) (Some m) None)
meaning-put q p m es = by (is_some (meaning_at p es)) refl
  where
    kept : is_some (meaning_at p es) ≡ true → (b : Bool) → same_place q p ≡ b → (o : Option Meaning) → meaning_at q es ≡ o →
        o ≡ option_or o (cond b (Some m) None)
    kept h b e (Some n) k = refl
    kept h false e None k = refl
    kept h true e None k = absurd (true≢false (sym h ∙ ap (λ r. is_some (meaning_at r es)) (sym (same-is q p e)) ∙ ap is_some k))

    by : (b : Bool) → is_some (meaning_at p es) ≡ b →
        meaning_at q (if b then es else es ++ (p, m) ∷ []) ≡ option_or (meaning_at q es) (cond (same_place q p) (Some m) None)
    by true h = kept h (same_place q p) refl (meaning_at q es) refl
    by false h = meaning-push q p m es

-- the first that is put at a place is found
pub meaning-all : (q : Place) (es xs : Meanings) → meaning_at q (fold put_one es xs) ≡ option_or (meaning_at q es) (meaning_at q xs)
meaning-all q es [] = sym (option_or-none (meaning_at q es))
meaning-all q es (x ∷ xs) =
    meaning-all q (put es x.0 x.1) xs ∙ ap (λ o. option_or o (meaning_at q xs)) (meaning-put q x.0 x.1 es)
    ∙ option_or-assoc (meaning_at q es) (cond (same_place q x.0) (Some x.1) None) (meaning_at q xs)
    ∙ ap (option_or (meaning_at q es)) (by (same_place q x.0))
  where
    by : (b : Bool) → option_or (cond b (Some x.1) None) (meaning_at q xs) ≡ cond b (Some x.1) (meaning_at q xs)
    by true = refl
    by false = refl

pub meaning-append : (q : Place) (xs ys : Meanings) → meaning_at q (xs ++ ys) ≡ option_or (meaning_at q xs) (meaning_at q ys)
meaning-append q [] ys = refl
meaning-append q (x ∷ xs) ys = by (same_place q x.0) (meaning-append q xs ys)
  where
    by : (b : Bool) → meaning_at q (xs ++ ys) ≡ option_or (meaning_at q xs) (meaning_at q ys) →
        cond b (Some x.1) (meaning_at q (xs ++ ys)) ≡ option_or (cond b (Some x.1) (meaning_at q xs)) (meaning_at q ys)
    by true h = refl
    by false h = h
