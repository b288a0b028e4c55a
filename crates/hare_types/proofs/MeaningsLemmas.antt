-- What is said of types by their ids is what is said of their trees: all of it in one place.
use Rattle.std.proofs.Common.{◌≡◌, ℕ, List, [], Option, Some, None, refl, ap, ◌∙◌}
use Rattle.std.specs.Prelude.{◌↔◌, option_and_then}
use Rattle.hare_types.specs.declared.row.Row.{Row}
use Rattle.hare_types.specs.declared.row.Row.TheVariants as row
use Rattle.hare_types.specs.Store.{Store}
use Rattle.hare_types.specs.Sound.{IsStore}
use Rattle.hare_types.specs.Bases.{IsBaseOf}
use Rattle.hare_types.specs.ByIds.{row_at, base_at, members_of, members_at}
use Rattle.hare_types.specs.Meanings.{MeanTrees, IsAscending}
use Rattle.hare_types.proofs.CallerLemmas.{tree_at_row}
use Rattle.hare_types.proofs.AscendingLemmas.{Ascends-put_all, ascending-sound, ascending-whole}
use Rattle.hare_types.proofs.IdLemmas.{row_of_tree, one_type, base_tells, marked_tells, sized_tells, extent_tells, id_tells, tag_tells}

-- a row with members is that of a union
union_row : (r : Row) (is : List ℕ) → members_of r ≡ Some is → r ≡ row.Union is
union_row (row.Union js) is e = cc
union_row (row.Scalar k) is e = absurd cc
union_row (row.Pointer j) is e = absurd cc
union_row (row.Nullable j) is e = absurd cc
union_row (row.Slice j) is e = absurd cc
union_row (row.Array n j) is e = absurd cc
union_row (row.Struct fs) is e = absurd cc
union_row (row.Tuple js) is e = absurd cc
union_row (row.Error j) is e = absurd cc
union_row (row.Named d) is e = absurd cc

module _ (s : Store) (v : IsStore s) where
  members_tell : (t : ℕ) (is : List ℕ) → (members_at s t ≡ Some is) ↔ ((b : ℕ) × IsBaseOf s t b × (row_at s b ≡ Some (row.Union is)))
  members_tell t is = (λ e. sound (base_at s t) refl e, whole)
    where
      of_row : (b : ℕ) → base_at s t ≡ Some b → (o : Option Row) → row_at s b ≡ o → option_and_then members_of o ≡ Some is
          → (b : ℕ) × IsBaseOf s t b × (row_at s b ≡ Some (row.Union is))
      of_row b f None g e = absurd cc
      of_row b f (Some r) g e = (b, (base_tells s v t b).0 f, g ∙ ap Some (union_row r is e))

      sound : (o : Option ℕ) → base_at s t ≡ o → option_and_then (λ b. option_and_then members_of (row_at s b)) o ≡ Some is
          → (b : ℕ) × IsBaseOf s t b × (row_at s b ≡ Some (row.Union is))
      sound None f e = absurd cc
      sound (Some b) f e = of_row b f (row_at s b) refl e

      whole : (b : ℕ) × IsBaseOf s t b × (row_at s b ≡ Some (row.Union is)) → members_at s t ≡ Some is
      whole h = ap (option_and_then (λ b. option_and_then members_of (row_at s b))) ((base_tells s v t h.0).1 h.1)
          ∙ ap (option_and_then members_of) h.2

  pub ids_mean_trees : MeanTrees s
  ids_mean_trees = record {
    tree = tree_at_row s v;
    there = row_of_tree s;
    type = one_type s v;
    base = base_tells s v;
    marked = marked_tells s v;
    sized = sized_tells s v;
    extent = extent_tells s v;
    members = members_tell;
    id = id_tells s v;
    tag = tag_tells s v;
  }

pub ids_ascend : (is : List ℕ) → IsAscending is
ids_ascend is = record { ascends = Ascends-put_all is [] tt; same = λ i. (ascending-sound is i, ascending-whole is i) }
