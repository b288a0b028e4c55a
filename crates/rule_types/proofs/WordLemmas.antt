-- Each listed word is a type.
use Rattle.std.proofs.Common.{◌≡◌, ℕ, Bool, true, false, cond, List, [], ◌∷◌, Some, None, refl, ap, sym, ◌∙◌}
use Rattle.std.specs.Prelude.{bytes_eq, ◌||◌}
use Rattle.hare_types.specs.declared.row.Scalar.{Scalar as Keyword}
use Rattle.hare_tree.specs.Shape.{scalars}
use Rattle.hare_tree.specs.Words.{is_listed}
use Rattle.hare_rules.specs.Types.{word_in, written_words}

abbrev NoneOf : List ℕ → List (List ℕ × Keyword) → Type 0
NoneOf text [] = Unit {0}
NoneOf text (w ∷ ws) = (bytes_eq w.0 text ≡ false) × NoneOf text ws

none_of : (text : List ℕ) (ws : List (List ℕ × Keyword)) → word_in ws text ≡ None → NoneOf text ws
none_of text [] e = tt
none_of text (w ∷ ws) e = by (none_of text ws) (bytes_eq w.0 text) refl e
  where
    by : (word_in ws text ≡ None → NoneOf text ws) → (b : Bool) → bytes_eq w.0 text ≡ b → cond b (Some w.1) (word_in ws text) ≡ None →
        (bytes_eq w.0 text ≡ false) × NoneOf text ws
    by ih true g h = absurd cc
    by ih false g h = (g, ih h)

abbrev NotAny : List ℕ → List (List ℕ) → Type 0
NotAny text [] = Unit {0}
NotAny text (w ∷ ws) = (bytes_eq w text ≡ false) × NotAny text ws

not_listed : (text : List ℕ) (ws : List (List ℕ)) → NotAny text ws → is_listed ws text ≡ false
not_listed text [] n = refl
not_listed text (w ∷ ws) n = ap (λ b. b || is_listed ws text) n.0 ∙ not_listed text ws n.1

unlisted : (text : List ℕ) → NoneOf text written_words → is_listed scalars text ≡ false
unlisted text n =
    not_listed text scalars (
      n.1.1.1.1.1.1.0,
      (
        n.1.1.1.1.1.1.1.0,
        (
          n.1.1.1.1.1.1.1.1.0,
          (
            n.1.1.1.1.1.1.1.1.1.0,
            (
              n.1.1.1.1.1.1.1.1.1.1.0,
              (
                n.1.1.1.1.1.1.1.1.1.1.1.0,
                (
                  n.1.1.1.1.1.1.1.1.1.1.1.1.0,
                  (
                    n.1.1.1.1.1.1.1.1.1.1.1.1.1.0,
                    (
                      n.1.1.1.1.1.1.1.1.1.1.1.1.1.1.0,
                      (
                        n.1.1.1.1.1.1.1.1.1.1.1.1.1.1.1.0,
                        (
                          n.1.1.1.1.1.1.1.1.1.1.1.1.1.1.1.1.0,
                          (n.1.1.1.0, (n.1.1.1.1.0, (n.1.1.1.1.1.0, (n.0, (n.1.0, (n.1.1.0, tt)))))),
                        ),
                      ),
                    ),
                  ),
                ),
              ),
            ),
          ),
        ),
      ),
    )

pub listed_word : (text : List ℕ) → is_listed scalars text ≡ true → word_in written_words text ≡ None → ⊥
listed_word text e h = let both : true ≡ false = sym e ∙ unlisted text (none_of text written_words h) in cc
