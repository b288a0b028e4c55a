-- Types that can stand beside the refusal of memory in a union.
use Rattle.std.proofs.Common.{◌≡◌, ◌≢◌, ℕ, List, Some, sym, ◌∙◌}
use Rattle.hare_types.specs.declared.row.Row.{Row}
use Rattle.hare_types.specs.declared.row.Row.TheVariants as row
use Rattle.hare_types.specs.declared.row.Scalar.TheVariants as keyword
use Rattle.hare_types.specs.Store.{Store}
use Rattle.hare_types.specs.Sound.{IsStore}
use Rattle.hare_types.specs.ByIds.{row_at}
use Rattle.hare_types.specs.Unions.{id_of}
use Rattle.hare_types.proofs.IdLemmas.{id_tells}
use Rattle.hare_rules.specs.Words.{nomem}
use Rattle.rule_judge.specs.Defined.{IsDefined, IsRefusable}

refusable_row : (s : Store) → IsStore s → (r : Row) (t : ℕ) → IsDefined s t → id_of s r ≡ Some t
    → r ≢ row.Scalar keyword.Never → ((is : List ℕ) → r ≢ row.Union is) → r ≢ row.Named nomem → IsRefusable s t
refusable_row s v r t d e a b c = record {
  defined = d;
  not_never = λ k. a (same (row.Scalar keyword.Never) k);
  not_union = λ is k. b is (same (row.Union is) k);
  not_nomem = λ k. c (same (row.Named nomem) k);
}
  where
    here : row_at s t ≡ Some r
    here = (id_tells s v r t).0 e

    same : (q : Row) → row_at s t ≡ Some q → r ≡ q
    same q k = let both : Some r ≡ Some q = sym here ∙ k in cc

pub refusable_pointer : (s : Store) → IsStore s → (u t : ℕ) → IsDefined s t → id_of s (row.Pointer u) ≡ Some t → IsRefusable s t
refusable_pointer s v u t d e = refusable_row s v (row.Pointer u) t d e (λ k. cc) (λ is k. cc) (λ k. cc)

pub refusable_slice : (s : Store) → IsStore s → (u t : ℕ) → IsDefined s t → id_of s (row.Slice u) ≡ Some t → IsRefusable s t
refusable_slice s v u t d e = refusable_row s v (row.Slice u) t d e (λ k. cc) (λ is k. cc) (λ k. cc)

pub refusable_void : (s : Store) → IsStore s → (t : ℕ) → IsDefined s t → id_of s (row.Scalar keyword.Void) ≡ Some t → IsRefusable s t
refusable_void s v t d e = refusable_row s v (row.Scalar keyword.Void) t d e (λ k. cc) (λ is k. cc) (λ k. cc)
