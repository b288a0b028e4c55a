-- A text of parts has their tokens, at the places where they stand.
use Rattle.std.proofs.Common.{◌≡◌, ℕ, List, [], ◌∷◌, ◌++◌, inr, Bool, map, refl, sym, ap, ◌∙◌, subst, append_assoc, append-nil}
use Rattle.std.proofs.Math.Logic.{⊎_elim}
use Rattle.hare_tree.specs.declared.place.Place.{Place}
use Rattle.hare_tree.specs.declared.token.Token.{Token}
use Rattle.hare_tree.specs.Tokens.{IsComment, Gap, Stands, Reads, place_at, is_path_mark}
use Rattle.hare_tree.specs.Grammar.{unplaced}
use Rattle.hare_pieces.proofs.OneList.Fronts.{blank_gap}
use Rattle.hare_again.specs.Reading.{Part, text_of, AreParts}

-- ---- tokens elsewhere

abbrev pub at_place : Place → Token → Token
at_place p t = record { kind = t.kind; place = p; text = t.text; number = t.number; suffix = t.suffix }

pub stands-at : (b : Bool) (p : Place) (t : Token) (s rest : List ℕ) → Stands b t s rest → Stands b (at_place p t) s rest
stands-at b p t s rest st = record {
  fits = record { spells = st.fits.spells; longest = st.fits.longest };
  kept_word = st.kept_word;
  small = st.small;
  whole = st.whole;
}

-- ---- bytes in front of a text

-- a gap in front of which these bytes stand is a gap
abbrev Extends : List ℕ → List ℕ → Type 0
Extends p text = (gap : List (List ℕ)) (left : List ℕ) → Gap gap text left → (whole : List (List ℕ)) × Gap whole (p ++ text) left

behind-more : (before p blank s : List ℕ) → (before ++ p) ++ (blank ++ s) ≡ before ++ ((p ++ blank) ++ s)
behind-more before p blank s = append_assoc before p (blank ++ s) ∙ ap (λ l. before ++ l) (sym (append_assoc p blank s))

in-front : (file : ℕ) (before p : List ℕ) (b : Bool) (ts : List Token) (text left : List ℕ) (q : Bool) → Extends p text
    → Reads file (before ++ p) b ts text left q → Reads file before b ts (p ++ text) left q
in-front file before p b [] text left q f r = let g = f r.0 left r.1 in (g.0, g.1, r.2)
in-front file before p b (t ∷ ts) text left q f r =
    let s = r.1 in
    let rest = r.2 in
    let blank = r.3 in
    let g = f r.0 (s ++ rest) r.4 in (
      g.0,
      s,
      rest,
      p ++ blank,
      g.1,
      ap (λ l. p ++ l) r.5 ∙ sym (append_assoc p blank (s ++ rest)),
      r.6 ∙ ap (place_at file) (append_assoc before p blank),
      r.7,
      subst (λ l. Reads file l (is_path_mark t.kind t.text) ts rest left q) (behind-more before p blank s) r.8,
    )

-- ---- all parts

pub record HasTokens (file : ℕ) (before : List ℕ) (b : Bool) (text : List ℕ) (ts : List Token) : Type 0 where
  pub tokens : List Token
  pub same : map unplaced tokens ≡ map unplaced ts
  pub at_path : Bool
  pub reads : Reads file before b tokens text [] at_path

tokens-in-front : (file : ℕ) (before p : List ℕ) (b : Bool) (text : List ℕ) (ts : List Token) → Extends p text
    → HasTokens file (before ++ p) b text ts → HasTokens file before b (p ++ text) ts
tokens-in-front file before p b text ts f h =
    record { tokens = h.tokens; same = h.same; at_path = h.at_path; reads = in-front file before p b h.tokens text [] h.at_path f h.reads }

comment-extends : (s rest : List ℕ) → IsComment s rest → Extends s rest
comment-extends s rest k gap left g = (s ∷ gap, (rest, refl, inr k, g))

one-token : (file : ℕ) (before : List ℕ) (b : Bool) (t : Token) (s rest : List ℕ) (more : List Token) → Gap [] (s ++ rest) (s ++ rest)
    → Stands b t s rest → HasTokens file (before ++ s) (is_path_mark t.kind t.text) rest more →
    HasTokens file before b (s ++ rest) (t ∷ more)
one-token file before b t s rest more g st h =
    let p = place_at file (before ++ []) in
    record {
      tokens = at_place p t ∷ h.tokens;
      same = ap (λ l. unplaced t ∷ l) h.same;
      at_path = h.at_path;
      reads = ([], s, rest, [], g, refl, refl, stands-at b p t s rest st, h.reads);
    }

no-tokens : (file : ℕ) (before : List ℕ) (b : Bool) (ts : List Token) → ts ≡ [] → HasTokens file before b [] ts
no-tokens file before b ts e = record { tokens = []; same = ap (map unplaced) (sym e); at_path = b; reads = ([], (refl, refl), refl) }

pub parts-have-tokens : (file : ℕ) (before : List ℕ) (b : Bool) (xs : List Part) (end : List ℕ) (ts : List Token) → AreParts b xs end ts
    → HasTokens file before b (text_of xs end) ts
parts-have-tokens file before b [] end ts h =
    subst (λ l. HasTokens file before b l ts) (append-nil end)
    (tokens-in-front file before end b [] ts (λ gap left g. blank_gap end [] left gap h.1 g) (no-tokens file (before ++ end) b ts h.0))
parts-have-tokens file before b (x ∷ xs) end ts h =
    let rest = text_of xs end in
    let there = before ++ x.blank in
    tokens-in-front file before x.blank b (x.body ++ rest) ts (λ gap left g. blank_gap x.blank (x.body ++ rest) left gap h.0 g)
    (⊎_elim
    (λ k. tokens-in-front file there x.body b rest ts (comment-extends x.body rest k.1)
    (parts-have-tokens file (there ++ x.body) b xs end ts k.2))
    (λ k. subst (HasTokens file there b (x.body ++ rest)) (sym k.3)
    (one-token file there b k.0 x.body rest k.1 (refl, k.4) k.5
    (parts-have-tokens file (there ++ x.body) (is_path_mark k.0.kind k.0.text) xs end k.1 k.6)))
    h.1)
