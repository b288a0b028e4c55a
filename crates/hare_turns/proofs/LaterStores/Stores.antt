-- Later stores, one behind another.
use Rattle.std.proofs.Common.{◌≡◌, ℕ, ◌<◌, ◌≤◌, List, [], ◌++◌, length, refl, ap, sym, ◌∙◌, append_assoc, arith}
use Rattle.std.specs.Prelude.{slice_index_or}
use Rattle.std.proofs.lemmas.List.{append-nil, length-append}
use Rattle.std.proofs.lemmas.Option.{slice_get-get_or}
use Rattle.hare_types.specs.declared.row.Row.TheVariants as row
use Rattle.hare_types.specs.declared.row.Scalar.TheVariants as keyword
use Rattle.hare_types.specs.Numbering.{Continues}
use Rattle.hare_types.specs.Store.{Store}
use Rattle.hare_types.specs.Sound.{IsStore}
use Rattle.hare_types.specs.ByIds.{row_at}
use Rattle.hare_types.specs.Later.{IsLater, TypesStay}

Continues-refl : {A : Type 0} (xs : List A) → Continues xs xs
Continues-refl xs = ([], sym (append-nil xs))

Continues-trans : {A : Type 0} (xs ys zs : List A) → Continues xs ys → Continues ys zs → Continues xs zs
Continues-trans xs ys zs h k = (h.0 ++ k.0, k.1 ∙ ap (λ z. z ++ k.0) h.1 ∙ append_assoc xs h.0 k.0)

length-le : {A : Type 0} (xs ys : List A) → Continues xs ys → length xs ≤ length ys
length-le xs ys h = omega (arith, ap length h.1, length-append xs h.0)

pub IsLater-refl : (s : Store) → IsStore s → IsLater s s
IsLater-refl s v = record {
  grows = record {
    names = Continues-refl s.names;
    rows = Continues-refl s.rows;
    listed = (s.listed, refl);
    sized = λ d b e. e;
    defined = λ d t e. e;
  };
  sound = v;
}

pub IsLater-trans : (s r f : Store) → IsLater s r → IsLater r f → IsLater s f
IsLater-trans s r f h k = record {
  grows = record {
    names = Continues-trans s.names r.names f.names h.grows.names k.grows.names;
    rows = Continues-trans s.rows r.rows f.rows h.grows.rows k.grows.rows;
    listed = k.grows.listed;
    sized = λ d b e. k.grows.sized d b (h.grows.sized d b e);
    defined = λ d t e. k.grows.defined d t (h.grows.defined d t e);
  };
  sound = k.sound;
}

-- what is in the earlier store is in the later one
pub within-later : (s f : Store) → IsLater s f → (u : ℕ) → u < length s.rows → u < length f.rows
within-later s f l u h = omega (arith, length-le s.rows f.rows l.grows.rows)

-- its types have the same rows
pub row_at-later : TypesStay → (s f : Store) → IsStore s → IsLater s f → (u : ℕ) → u < length s.rows → row_at f u ≡ row_at s u
row_at-later stay s f v l u h =
    let there = slice_get-get_or s.rows u (row.Scalar keyword.Void) h in
    (stay s f v l).row u (slice_index_or s.rows u (row.Scalar keyword.Void)) there ∙ sym there
