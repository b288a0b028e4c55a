-- What is told of types by their rows.
use Rattle.std.proofs.Common.{◌≡◌, ℕ, ◌<◌, true, length, Some, sym, ap, ◌∙◌}
use Rattle.std.specs.Prelude.{ℤ, option_and_then}
use Rattle.std.proofs.lemmas.Option.{slice_get_within}
use Rattle.hare_types.specs.declared.row.Row.{Row}
use Rattle.hare_types.specs.declared.row.Row.TheVariants as row
use Rattle.hare_types.specs.declared.row.Scalar.{Scalar as Keyword}
use Rattle.hare_types.specs.declared.coercion.Ty.TheVariants as ty
use Rattle.hare_types.specs.Assign.{default_word}
use Rattle.hare_types.specs.Bases.{IsBaseOf}
use Rattle.hare_types.specs.ByIds.{row_at}
use Rattle.hare_types.specs.KeyLaws.{scalar_eq-Decides}
use Rattle.hare_types.specs.Sound.{IsStore}
use Rattle.hare_types.specs.Store.{Store}
use Rattle.hare_types.proofs.IdLemmas.{row_of_tree, id_tells}
use Rattle.hare_rules.specs.Words.{is_word, word_id, default_in}

-- a type that has a base is in the store
pub based_within : (s : Store) (t b : ℕ) → IsBaseOf s t b → t < length s.rows
based_within s t b is = let row = row_of_tree s t is.0 is.2 in slice_get_within s.rows t row.0 row.1

-- a type whose row is that of a word is the one that is written by it
word-there : (s : Store) → IsStore s → (k : Keyword) (t : ℕ) (r : Row) → row_at s t ≡ Some r → is_word k (Some r) ≡ true
    → word_id s k ≡ Some t
word-there s v k t (row.Scalar l) e g =
    let same : k ≡ l = (scalar_eq-Decides k l).0 g in
    (id_tells s v (row.Scalar k) t).1 (e ∙ ap (λ w. Some (row.Scalar w)) (sym same))
word-there s v k t _ e g = absurd cc

pub default-there : (s : Store) → IsStore s → (n : ℤ) (k : Keyword) (t : ℕ) (r : Row) → Some k ≡ default_word n → row_at s t ≡ Some r
    → is_word k (Some r) ≡ true → default_in s (ty.Iconst n) ≡ Some t
default-there s v n k t r d e g = ap (option_and_then (word_id s)) (sym d) ∙ word-there s v k t r e g
