-- The test of rows decides whether they are the same row.
use Rattle.std.proofs.Common.{◌≡◌, ◌==◌, ap, rules}
use Rattle.std.specs.Bool.{Decides}
use Rattle.std.specs.Cmp.{unsigned_Decides}
use Rattle.std.specs.Cmp.Lexicographic.{pointwise_decides}
use Rattle.std.proofs.lemmas.Bool.Decides.{Decides-and}
use denote.Enum.Bare.{same_true, true_same}
use Rattle.hare_types.specs.declared.lists.Field.{Field}
use Rattle.hare_types.specs.declared.row.Row.{Row}
use Rattle.hare_types.specs.declared.row.Row.TheVariants as row
use Rattle.hare_types.specs.declared.row.Scalar.{Scalar}
use Rattle.hare_types.specs.contracts.row.Scalar.{the_type}
use Rattle.hare_types.specs.Keys.{scalar_eq, field_eq, row_eq}

pub scalar_eq-Decides : (a b : Scalar) → Decides (scalar_eq a b) (a ≡ b)
scalar_eq-Decides a b = (λ h. same_true the_type (search rules) a b h, λ e. true_same the_type a b e)

same_fields : (a b : Field) → a.name ≡ b.name → a.ty ≡ b.ty → a ≡ b
same_fields a b p q = λ i. record { name = p i; ty = q i }

pub field_eq-Decides : (a b : Field) → Decides (field_eq a b) (a ≡ b)
field_eq-Decides a b =
    let d = Decides-and (a.name == b.name) (a.ty == b.ty) (unsigned_Decides a.name b.name) (unsigned_Decides a.ty b.ty) in
    (λ h. same_fields a b (d.0 h).0 (d.0 h).1, λ e. d.1 (ap (λ f. f.name) e, ap (λ f. f.ty) e))

pub row_eq-Decides : (q r : Row) → Decides (row_eq q r) (q ≡ r)
row_eq-Decides (row.Scalar a) (row.Scalar b) = let d = scalar_eq-Decides a b in (λ h. ap row.Scalar (d.0 h), λ e. d.1 cc)
row_eq-Decides (row.Pointer a) (row.Pointer b) = let d = unsigned_Decides a b in (λ h. ap row.Pointer (d.0 h), λ e. d.1 cc)
row_eq-Decides (row.Nullable a) (row.Nullable b) = let d = unsigned_Decides a b in (λ h. ap row.Nullable (d.0 h), λ e. d.1 cc)
row_eq-Decides (row.Slice a) (row.Slice b) = let d = unsigned_Decides a b in (λ h. ap row.Slice (d.0 h), λ e. d.1 cc)
row_eq-Decides (row.Array m a) (row.Array n b) =
    let d = Decides-and (m == n) (a == b) (unsigned_Decides m n) (unsigned_Decides a b) in
    (λ h. let p = d.0 h in cc, λ e. d.1 (cc, cc))
row_eq-Decides (row.Struct a) (row.Struct b) = let d = pointwise_decides field_eq-Decides a b in (λ h. ap row.Struct (d.0 h), λ e. d.1 cc)
row_eq-Decides (row.Tuple a) (row.Tuple b) = let d = pointwise_decides unsigned_Decides a b in (λ h. ap row.Tuple (d.0 h), λ e. d.1 cc)
row_eq-Decides (row.Union a) (row.Union b) = let d = pointwise_decides unsigned_Decides a b in (λ h. ap row.Union (d.0 h), λ e. d.1 cc)
row_eq-Decides (row.Error a) (row.Error b) = let d = unsigned_Decides a b in (λ h. ap row.Error (d.0 h), λ e. d.1 cc)
row_eq-Decides (row.Named a) (row.Named b) = let d = unsigned_Decides a b in (λ h. ap row.Named (d.0 h), λ e. d.1 cc)
row_eq-Decides _ _ = (λ h. cc, λ e. cc)
