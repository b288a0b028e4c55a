use Rattle.std.proofs.Common.{◌≡◌, ℕ, List, ◌<◌, ◌∙◌, Some, subst, length, arith}
use Rattle.hare_types.specs.Store.{Store}
use Rattle.hare_types.specs.declared.extent.Extent.{Extent}
use Rattle.hare_types.specs.declared.row.Row.{Row}
use Rattle.hare_types.specs.declared.coercion.Ty.TheVariants as ty
use Rattle.hare_types.specs.ByIds.{extent_at}
use Rattle.hare_types.specs.Kept.{all_known}
use Rattle.hare_types.specs.Layout.{field_start}
use Rattle.hare_typed.specs.Given.{base_row}
use Rattle.hare_typed.specs.Sizes.{AreFew, parts_in}
use Rattle.hare_const.proofs.SizeLemmas.{Starts, starts}
use Rattle.hare_const.proofs.sizes.offset_of.Goals as goal

-- there is one row
one-row : (s : Store) (t k : ℕ) (r : Row) (p : Starts s t k) → Some r ≡ base_row s (ty.Of t) → p.row ≡ r
one-row s t k r p e = let both = e ∙ p.here in cc

-- what was found is where the part begins
found : (s : Store) (t k a : ℕ) (r : Row) (p : Starts s t k) → p.row ≡ r →
    ((xs : List Extent) → all_known (extent_at s) (parts_in r) ≡ Some xs → Some a ≡ field_start 0 xs k) → a ≡ p.start
found s t k a r p e h =
    let both = h p.extents (subst (λ q. all_known (extent_at s) (parts_in q) ≡ Some p.extents) e p.known) ∙ p.begins in
    cc

pub start_of-requires-clause-part : goal.start_of-requires-clause-part
start_of-requires-clause-part c =
    let p = starts c.args.s.now c.args.t c.args.k c.requires.fits c.requires.part in
    subst (λ r. c.args.k < length (parts_in r)) (one-row c.args.s.now c.args.t c.args.k c.in-Some.row.now p c.in-Some.ensures) p.part

pub start_of-requires-clause-few : goal.start_of-requires-clause-few
start_of-requires-clause-few c =
    let p = starts c.args.s.now c.args.t c.args.k c.requires.fits c.requires.part in
    subst (AreFew c.args.s.now) (one-row c.args.s.now c.args.t c.args.k c.in-Some.row.now p c.in-Some.ensures) p.few

pub overflow_cast-result : goal.overflow_cast-result
overflow_cast-result c =
    let p = starts c.args.s.now c.args.t c.args.k c.requires.fits c.requires.part in
    let same = found c.args.s.now c.args.t c.args.k c.in-Some-start_of.start c.in-Some.row.now p
    (one-row c.args.s.now c.args.t c.args.k c.in-Some.row.now p c.in-Some.ensures) c.in-Some-start_of.ensures in
    omega (arith, p.within, same)
