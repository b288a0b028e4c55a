-- Paths of files, and the words that name files.
use Rattle.std.proofs.Common.{◌≡◌, ℕ, ◌+◌, ◌<◌, List, [], ◌∷◌, ◌++◌, Bool, true, false, cond, ◌&&◌, ◌||◌, length, take, drop, position, Some, None, refl, sym, ap, subst, ◌∙◌, arith, append_assoc, append-nil, codes, inl, inr, ◌⊎◌, nat_lt, nat_le, nat_eq}
use Rattle.std.specs.Bool.{Decides}
use Rattle.std.specs.List.{slice_split, onto_first, position_or_len, before_first, after_first, All, Contains, list_all, starts_with}
use Rattle.std.proofs.lemmas.List.Splits.{slice_split_none, slice_split_at, slice_split_first}
use Rattle.std.proofs.lemmas.List.Elements.{All-nil, All-cons, All-head, All-tail, All-weaker, All-push, All-contains, All-contains_itself}
use Rattle.std.proofs.lemmas.List.Sums.{fails_before_first, AllPass-from_list_all}
use Rattle.std.proofs.lemmas.Bool.{ltb-true, ltb-false, and_parts, and_from, eqb-true, ne_eqb, leb-true, leb-false, false_from_ne_true, or_left, and_left, true≢false, false≢true}
use Rattle.std.proofs.lemmas.Bool.Decides.{Decides-eqb}
use Rattle.std.proofs.lemmas.Slice.Eq.{ends_is, starts_is}
use Rattle.hare_tree.specs.Words.{is_word, is_word_byte, is_letter, is_listed, keywords, is_left_out}
use Rattle.hare_tree.specs.Levels.{is_name}
use Rattle.harec_words.specs.Commands.{slash, spelled, IsName, IsOwnName, IsPath, IsFile}
use Rattle.harec_words.specs.Reading.{is_slash, ends_in_ha, are_parts, is_path, without_dot, is_file}

-- the byte is no slash
abbrev IsFlat : ℕ → Type 0
IsFlat c = is_slash c ≡ false

-- ---- parts between slashes

-- a part in front of others
are_parts-cons : (d : List ℕ) (parts : List (List ℕ)) → 0 < length parts → are_parts (d ∷ parts) ≡ (is_name false d && are_parts parts)
are_parts-cons d [] h = absurd (omega arith)
are_parts-cons d (e ∷ es) h = refl

some_part : (s : List ℕ) → 0 < length (slice_split is_slash s)
some_part [] = omega arith
some_part (c ∷ s) = by (is_slash c) (slice_split is_slash s)
  where
    by : (b : Bool) (parts : List (List ℕ)) → 0 < length (cond b ([] ∷ parts) (onto_first c parts))
    by true parts = omega arith
    by false [] = omega arith
    by false (part ∷ parts) = omega arith

are_parts-split : (d s : List ℕ) → are_parts (d ∷ slice_split is_slash s) ≡ (is_name false d && is_path s)
are_parts-split d s = are_parts-cons d (slice_split is_slash s) (some_part s)

-- a path with a slash: a directory stands before it
pub is_path-there : (s : List ℕ) (n : ℕ) → Some n ≡ position is_slash s → is_path s ≡ (is_name false (take n s) && is_path (drop (n + 1) s))
is_path-there s n e = by (nat_lt (position_or_len is_slash s) (length s)) refl e
  where
    by : (b : Bool) → nat_lt (position_or_len is_slash s) (length s) ≡ b → Some n ≡ cond b (Some (position_or_len is_slash s)) None →
        is_path s ≡ (is_name false (take n s) && is_path (drop (n + 1) s))
    by true h k =
        let m : n ≡ position_or_len is_slash s = cc in
        let cut = ap are_parts (slice_split_first is_slash s 0 (ltb-true _ _ h)) in
        rw m (cut ∙ are_parts-split (before_first is_slash s) (after_first is_slash s))
    by false h k = absurd cc

-- a path without a slash is a file's own name
flat_split : (s : List ℕ) → All IsFlat s → is_path s ≡ ends_in_ha s
flat_split s h = ap are_parts (slice_split_none is_slash s h)

pub is_path-none : (s : List ℕ) → None ≡ position is_slash s → is_path s ≡ ends_in_ha s
is_path-none s e = by (nat_lt (position_or_len is_slash s) (length s)) refl e
  where
    by : (b : Bool) → nat_lt (position_or_len is_slash s) (length s) ≡ b → None ≡ cond b (Some (position_or_len is_slash s)) None →
        is_path s ≡ ends_in_ha s
    by true h k = absurd cc
    by false h k = flat_split s (λ i d l. let m = ltb-false _ _ h in fails_before_first is_slash s i d (omega (arith, m)))

-- ---- directories and names

-- a byte of a word is no slash
word_byte_flat : (c : ℕ) → is_word_byte c ≡ true → is_slash c ≡ false
word_byte_flat c h = false_from_ne_true (is_slash c) (λ e. let k : c ≡ 47 = eqb-true c 47 e in true≢false (sym (rw k at h)))

word_flat : (s : List ℕ) → is_word s ≡ true → All IsFlat s
word_flat [] h = absurd cc
word_flat (c ∷ s) h =
    let parts = and_parts (is_letter c) (list_all is_word_byte s) h in
    let first : is_word_byte c ≡ true = or_left (is_letter c) _ parts.0 in
    let others = AllPass-from_list_all is_word_byte s parts.1 in
    All-cons IsFlat c s (word_byte_flat c first) (All-weaker (λ c. is_word_byte c ≡ true) IsFlat word_byte_flat s others)

pub name_flat : (d : List ℕ) → IsName d → All IsFlat d
name_flat d h = word_flat d (by (is_listed keywords d || is_left_out false d) h)
  where
    by : (b : Bool) → cond b false (is_word d) ≡ true → is_word d ≡ true
    by true e = absurd cc
    by false e = e

-- one step over a directory
pub directory_less : (s : List ℕ) (n : ℕ) → Some n ≡ position is_slash s → is_name false (take n s) ≡ false → false ≡ is_path s
directory_less s n e h = sym (is_path-there s n e ∙ and_left _ _ h)

pub directory_more : (s s' : List ℕ) (n : ℕ) → Some n ≡ position is_slash s → is_name false (take n s) ≡ true → s' ≡ drop (n + 1) s →
    is_path s' ≡ is_path s
directory_more s s' n e h k = ap is_path k ∙ sym (is_path-there s n e ∙ ap (λ b. b && is_path (drop (n + 1) s)) h)

-- ---- files

own_decides : (own : List ℕ) → Decides (ends_in_ha own) ((stem : List ℕ) × (own ≡ stem ++ codes ".ha"))
own_decides own =
    let e = ends_is Decides-eqb own (codes ".ha") (ends_in_ha own) refl in
    (λ h. (_, e.0 h), λ h. e.1 h.0 h.1)

-- nothing in it is a slash
flat_is : (own : List ℕ) → ¬ (Contains own slash) → All IsFlat own
flat_is own h =
    All-weaker (Contains own) IsFlat (λ c k. ne_eqb c 47 (λ e. h (rw e at k))) own (All-contains_itself own)

is_flat : (own : List ℕ) → All IsFlat own → ¬ (Contains own slash)
is_flat own h k = true≢false (All-contains IsFlat own slash h k)

-- a path is read
spelled_is : (ds : List (List ℕ)) (own : List ℕ) → All IsName ds → IsOwnName own → is_path (spelled ds own) ≡ true
spelled_is [] own h o = flat_split own (flat_is own o.flat) ∙ (own_decides own).1 o.ended
spelled_is (d ∷ ds) own h o =
    ap are_parts (slice_split_at is_slash d slash (spelled ds own) (name_flat d (All-head IsName d ds h)) refl)
    ∙ are_parts-split d (spelled ds own)
    ∙ and_from _ _ (All-head IsName d ds h) (spelled_is ds own (All-tail IsName d ds h) o)

-- bytes in front of the first part
onto : List ℕ → List (List ℕ) → List (List ℕ)
onto part [] = part ∷ []
onto part (e ∷ es) = (part ++ e) ∷ es

onto-first : (part : List ℕ) (c : ℕ) (parts : List (List ℕ)) → onto part (onto_first c parts) ≡ onto (part ++ c ∷ []) parts
unfolding onto
onto-first part c [] = refl
onto-first part c (e ∷ es) = ap (λ x. x ∷ es) (sym (append_assoc part (c ∷ []) e))

onto-nil : (parts : List (List ℕ)) → 0 < length parts → onto [] parts ≡ parts
unfolding onto
onto-nil [] h = absurd (omega arith)
onto-nil (e ∷ es) h = refl

-- a directory in front of a path
behind_directory : (d s : List ℕ) → IsName d → IsPath s → IsPath (d ++ slash ∷ s)
behind_directory d s h p = record {
  directories = d ∷ p.directories;
  own = p.own;
  spells = ap (λ x. d ++ slash ∷ x) p.spells;
  named = All-cons IsName d p.directories h p.named;
  file = p.file;
}

-- what is read is a path, behind bytes without a slash
read_is : (s part : List ℕ) → All IsFlat part → are_parts (onto part (slice_split is_slash s)) ≡ true → IsPath (part ++ s)
unfolding onto
read_is [] part flat h = record {
  directories = [];
  own = part;
  spells = append-nil part;
  named = All-nil IsName;
  file = record { flat = is_flat part flat; ended = (own_decides part).0 (rw append-nil at h) };
}
read_is (c ∷ s) part flat h = by (λ q f k. read_is s q f k) (is_slash c) refl h
  where
    by : ((q : List ℕ) → All IsFlat q → are_parts (onto q (slice_split is_slash s)) ≡ true → IsPath (q ++ s)) → (b : Bool) →
        is_slash c ≡ b → are_parts (onto part (cond b ([] ∷ slice_split is_slash s) (onto_first c (slice_split is_slash s)))) ≡ true →
        IsPath (part ++ c ∷ s)
    by read true e k =
        let at : c ≡ 47 = eqb-true c 47 e in
        let parts = and_parts (is_name false part) (is_path s) (sym (are_parts-split part s) ∙ (rw append-nil at k)) in
        let rest : IsPath s = read [] (All-nil IsFlat) (ap are_parts (onto-nil (slice_split is_slash s) (some_part s)) ∙ parts.1) in
        rw at (behind_directory part s parts.0 rest)
    by read false e k =
        let more : All IsFlat (part ++ c ∷ []) = All-push IsFlat part c flat e in
        let parts = ap are_parts (sym (onto-first part c (slice_split is_slash s))) in
        subst IsPath (append_assoc part (c ∷ []) s) (read (part ++ c ∷ []) more (parts ∙ k))

pub path_decides : (path : List ℕ) → Decides (is_path path) (IsPath path)
path_decides path = (
  λ h. read_is path [] (All-nil IsFlat) (ap are_parts (onto-nil (slice_split is_slash path) (some_part path)) ∙ h),
  λ p. rw p.spells (spelled_is p.directories p.own p.named p.file),
)

-- ---- words

-- no path begins with `./`
dotted_no_path : (rest : List ℕ) → IsPath (codes "./" ++ rest) → ⊥
dotted_no_path rest p = false≢true (sym (are_parts-split (46 ∷ []) rest) ∙ (path_decides (codes "./" ++ rest)).1 p)

dot_decides : (word : List ℕ) →
    Decides (is_path (without_dot word)) ((path : List ℕ) × ((word ≡ path) ⊎ (word ≡ codes "./" ++ path)) × IsPath path)
dot_decides word =
    by (starts_with nat_eq word (codes "./")) (starts_is Decides-eqb word (codes "./") (starts_with nat_eq word (codes "./")) refl)
  where
    by : (b : Bool) → ((b ≡ true → word ≡ codes "./" ++ drop 2 word) × ((rest : List ℕ) → word ≡ codes "./" ++ rest → b ≡ true)) →
        Decides (is_path (cond b (drop 2 word) word)) ((path : List ℕ) × ((word ≡ path) ⊎ (word ≡ codes "./" ++ path)) × IsPath path)
    by true h =
        let dotted : word ≡ codes "./" ++ drop 2 word = h.0 refl in (
          λ k. (drop 2 word, inr dotted, (path_decides (drop 2 word)).0 k),
          λ (path, at, p). elim at [
            | inl e ↦ absurd (dotted_no_path (drop 2 word) (subst IsPath (sym e ∙ dotted) p))
            | inr e ↦ (path_decides (drop 2 word)).1 (subst IsPath (sym (ap (λ w. drop 2 w) e)) p)
          ],
        )
    by false h = (
      λ k. (word, inl refl, (path_decides word).0 k),
      λ (path, at, p). elim at [ inl e ↦ (path_decides word).1 (subst IsPath (sym e) p) | inr e ↦ absurd (false≢true (h.1 path e)) ],
    )

pub file_decides : (word : List ℕ) → Decides (is_file word) (IsFile word)
file_decides word = by (nat_le (length word) 1024) refl
  where
    by : (b : Bool) → nat_le (length word) 1024 ≡ b → Decides (cond b (is_path (without_dot word)) false) (IsFile word)
    by true e = (
      λ k. let f = (dot_decides word).0 k in record { within = leb-true _ _ e; path = f.0; dotted = f.1; relative = f.2 },
      λ f. (dot_decides word).1 (f.path, f.dotted, f.relative),
    )
    by false e = (λ k. absurd cc, λ f. let m = leb-false _ _ e in let n = f.within in absurd (omega (arith, m, n)))
