-- A text of blanks, comments and tokens is read as these.
use Rattle.std.proofs.Common.{◌≡◌, ℕ, ◌+◌, List, [], ◌∷◌, ◌++◌, inl, inr, Bool, map, length, refl, ap, ◌∙◌, arith, length-append, if◌then◌else◌}
use Rattle.std.proofs.Math.Logic.{⊎_elim}
use Rattle.std.specs.Prelude.{slice_range}
use Rattle.hare_tree.specs.declared.token.Token.{Token}
use Rattle.hare_tree.specs.Tokens.{is_path_mark}
use Rattle.hare_pieces.specs.Pieces.{ConsistsOf}
use Rattle.hare_lines.specs.Read.{Seen, seen_from, feeds_in, trimmed}
use Rattle.hare_again.specs.Reading.{Part, text_of, AreParts, places, read_of, TextsAreRead}
use Rattle.hare_again.proofs.LaidAsBefore.Sources.{slice-at, piece-text, rest-text}

parts-consist : (at : ℕ) (b : Bool) (xs : List Part) (end : List ℕ) (ts : List Token) → AreParts b xs end ts
    → ConsistsOf at b (text_of xs end) ts (places at xs)
parts-consist at b [] end ts h = h
parts-consist at b (x ∷ xs) end ts h =
    let to = at + length x.blank + length x.body in (
      x.blank,
      x.body,
      text_of xs end,
      refl,
      h.0,
      refl,
      refl,
      ⊎_elim
          (λ k. inl (k.0, k.1, parts-consist to b xs end ts k.2))
          (λ k. inr (k.0, k.1, k.2, k.3, k.4, k.5, parts-consist to (is_path_mark k.0.kind k.0.text) xs end k.1 k.6)) h.1,
    )

both-lengths : (a b c : List ℕ) → length a + length b + length c ≡ length (a ++ (b ++ c))
both-lengths a b c = omega (arith, length-append a (b ++ c), length-append b c)

parts-seen : (before : List ℕ) (xs : List Part) (end : List ℕ)
    → seen_from (before ++ text_of xs end) (length before) (places (length before) xs) ≡ map read_of xs
parts-seen before [] end = refl
parts-seen before (x ∷ xs) end =
    let rest = text_of xs end in
    let src = before ++ (x.blank ++ (x.body ++ rest)) in
    let from = length before + length x.blank in
    let to = from + length x.body in
    let blank : slice_range src (length before) from ≡ x.blank = slice-at before x.blank (x.body ++ rest) in
    let body : slice_range src from to ≡ x.body =
    piece-text src before x.blank x.body rest (x.blank ++ (x.body ++ rest)) (length before) from to
    refl refl refl refl refl in
    let whole : src ≡ (before ++ (x.blank ++ x.body)) ++ rest =
    rest-text src before x.blank x.body rest (x.blank ++ (x.body ++ rest)) refl refl in
    let at : to ≡ length (before ++ (x.blank ++ x.body)) = both-lengths before x.blank x.body in
    let here : List ℕ → List ℕ → Seen = λ f o.
    record { feeds = feeds_in f; body = if x.comment then trimmed o else o; comment = x.comment } in
    let behind : seen_from src to (places to xs) ≡ map read_of xs = (λ i. seen_from (whole i) (at i) (places (at i) xs))
    ∙ parts-seen (before ++ (x.blank ++ x.body)) xs end in
    ap (λ f. here f (slice_range src from to) ∷ seen_from src to (places to xs)) blank
    ∙ ap (λ o. here x.blank o ∷ seen_from src to (places to xs)) body ∙ ap (λ l. read_of x ∷ l) behind

pub texts-are-read : TextsAreRead
texts-are-read b before xs end ts h = record {
  consists = parts-consist (length before) b xs end ts h;
  seen = parts-seen before xs end;
}
