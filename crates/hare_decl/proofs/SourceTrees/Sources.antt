-- What holds of the tree of a file with these bytes.
use Rattle.std.proofs.Common.{◌≡◌, ℕ, ◌+◌, ◌≤◌, List, [], ◌∷◌, ◌++◌, Bool, true, false, ◌&&◌, map, length, refl, sym, ap, ◌∙◌, subst, arith}
use Rattle.std.proofs.Common.{length-append, if◌then◌else◌}
use Rattle.std.proofs.lemmas.Bool.{and_parts}
use Rattle.std.proofs.lemmas.List.{length-map}
use Rattle.std.proofs.lemmas.List.Sums.{sum_by-cons}
use Rattle.hare_tree.specs.declared.token.Token.{Token}
use Rattle.hare_tree.specs.Spell.{spell_file}
use Rattle.hare_tree.specs.Shape.{has_no_suffix}
use Rattle.hare_tree.specs.Grammar.{is_string, is_proper_string, string_at, joined_to, joined, unplaced, Spells}
use Rattle.hare_tree.specs.Size.{string_bytes_in}
use Rattle.hare_tree.proofs.Low.Fitting.{fits_file_parts}
use Rattle.hare_tree.proofs.Sizes.Counts.{shaped_files_are_small}
use Rattle.hare_tree.proofs.Sizes.Texts.{texts_are_spelled}
use Rattle.hare_lex.specs.Order.{AreInOrder}
use Rattle.hare_lex.proofs.Order.Ordered.{tokens_are_in_order, tokens_are_few}
use Rattle.hare_decl.specs.Trees.{SourcesFit, SourcesStandOverTokens, SourcesHaveFewNodes, SourcesHaveFewTexts}

pub sources_fit : SourcesFit
sources_fit file text tree s = s.file_is.read.fits

-- a tree that is spelled by tokens spells as many as they are, joined
spelled_joined : (spelled ts : List Token) → Spells spelled ts → length spelled ≡ length (joined ts)
spelled_joined spelled ts e = sym (length-map spelled unplaced) ∙ ap length e ∙ length-map (joined ts) unplaced

pub sources_stand_over_tokens : SourcesStandOverTokens
sources_stand_over_tokens file text tree s =
    let read = s.file_is.read in
    let o = tokens_are_in_order file text s.tokens s.are in (
      s.tokens,
      s.are,
      record {
        in_order = subst (λ n. AreInOrder n s.tokens) (sym read.file_is) o;
        placed = read.placed;
        enough = omega (arith, spelled_joined (spell_file tree) s.tokens read.spelled);
      },
    )

-- ---- how many tokens the grammar sees

joined_to_length : (t : Token) (us : List Token) → length (joined_to t us) ≤ 1 + length us
joined_to_length t [] = omega arith
joined_to_length t (u ∷ us) = by (is_proper_string t) (is_proper_string u)
  where
    by : (p q : Bool) → length (if p then (if q then string_at t.place (t.text ++ u.text) ∷ us else t ∷ u ∷ us) else t ∷ u ∷ us) ≤ 1 +
        length (u ∷ us)
    by true true = omega arith
    by true false = omega arith
    by false q = omega arith

joined_length : (ts : List Token) → length (joined ts) ≤ length ts
joined_length [] = omega arith
joined_length (t ∷ ts) = omega (arith, joined_to_length t (joined ts), joined_length ts)

spelled_length : (spelled ts : List Token) → Spells spelled ts → length spelled ≤ length ts
spelled_length spelled ts e = omega (arith, spelled_joined spelled ts e, joined_length ts)

pub sources_have_few_nodes : SourcesHaveFewNodes
sources_have_few_nodes file text tree s =
    let read = s.file_is.read in
    let shaped = (fits_file_parts tree read.fits).0 in
    omega (
      arith,
      shaped_files_are_small tree shaped,
      spelled_length (spell_file tree) s.tokens read.spelled,
      (tokens_are_few file text s.tokens s.are).tokens,
    )

-- ---- how many bytes their strings have

abbrev bytes : Token → ℕ
bytes t = if is_string t.kind then length t.text else 0

bytes_of : (t : Token) → is_proper_string t ≡ true → bytes t ≡ length t.text
bytes_of t e =
    let k : is_string t.kind ≡ true = (and_parts _ _ (and_parts (is_string t.kind && has_no_suffix t.suffix) _ e).0).0 in
    rw k refl

joined_to_bytes : (t : Token) (us : List Token) → string_bytes_in (joined_to t us) ≤ bytes t + string_bytes_in us
joined_to_bytes t [] = omega (arith, sum_by-cons bytes t [])
joined_to_bytes t (u ∷ us) = by (is_proper_string t) refl (is_proper_string u) refl
  where
    by : (p : Bool) → is_proper_string t ≡ p → (q : Bool) → is_proper_string u ≡ q →
        string_bytes_in (if p then (if q then string_at t.place (t.text ++ u.text) ∷ us else t ∷ u ∷ us) else t ∷ u ∷ us) ≤ bytes t +
        string_bytes_in (u ∷ us)
    by true a true b =
        omega (
          arith,
          bytes_of t a,
          bytes_of u b,
          length-append t.text u.text,
          sum_by-cons bytes u us,
          sum_by-cons bytes
              (string_at t.place (t.text ++ u.text)) us,
        )
    by true a false b = omega (arith, sum_by-cons bytes t (u ∷ us))
    by false a q b = omega (arith, sum_by-cons bytes t (u ∷ us))

joined_bytes : (ts : List Token) → string_bytes_in (joined ts) ≤ string_bytes_in ts
joined_bytes [] = omega arith
joined_bytes (t ∷ ts) = omega (arith, joined_to_bytes t (joined ts), joined_bytes ts, sum_by-cons bytes t ts)

unplaced_bytes : (ts : List Token) → string_bytes_in (map unplaced ts) ≡ string_bytes_in ts
unplaced_bytes [] = refl
unplaced_bytes (t ∷ ts) =
    sum_by-cons bytes (unplaced t) (map unplaced ts) ∙ ap (λ n. bytes t + n) (unplaced_bytes ts) ∙ sym (sum_by-cons bytes t ts)

spelled_bytes : (spelled ts : List Token) → Spells spelled ts → string_bytes_in spelled ≤ string_bytes_in ts
spelled_bytes spelled ts e =
    omega (arith, unplaced_bytes spelled, unplaced_bytes (joined ts), ap string_bytes_in e, joined_bytes ts)

pub sources_have_few_texts : SourcesHaveFewTexts
sources_have_few_texts file text tree s =
    let read = s.file_is.read in
    let shaped = (fits_file_parts tree read.fits).0 in
    omega (
      arith,
      texts_are_spelled tree shaped,
      spelled_bytes (spell_file tree) s.tokens read.spelled,
      (tokens_are_few file text s.tokens s.are).strings,
    )
