-- The trees of rows, and what a further row changes of them: nothing.
use Rattle.std.proofs.Common.{◌≡◌, ℕ, zero, suc, ◌+◌, ◌<◌, ◌≤◌, List, [], ◌∷◌, ◌++◌, length, map, Some, refl, ap, sym, ◌∙◌, subst, arith, append_assoc, length-append}
use Rattle.std.specs.Prelude.{slice_get}
use Rattle.std.proofs.lemmas.List.{append-nil}
use Rattle.std.proofs.lemmas.Option.{slice_get_within}
use Rattle.hare_types.specs.declared.lists.Field.{Field}
use Rattle.hare_types.specs.declared.row.Row.{Row}
use Rattle.hare_types.specs.declared.row.Row.TheVariants as row
use Rattle.hare_types.specs.Trees.{Tree, Pointer, Nullable, Slice, Array, Struct, Tuple, Union, Error, trees_of}
use Rattle.hare_types.specs.Rows.{tree_in, tree_of, trees_from, trees, AllBelow, FieldsBelow, IsWithin}
use Rattle.hare_types.proofs.ListLemmas.{slice_get_front, slice_get_end}

-- ---- more trees do not change the tree of a row

pub tree_in-append : (ts us : List Tree) (i : ℕ) → i < length ts → tree_in (ts ++ us) i ≡ tree_in ts i
tree_in-append [] us i h = absurd (omega arith)
tree_in-append (t ∷ ts) us zero h = refl
tree_in-append (t ∷ ts) us (suc i) h = tree_in-append ts us i (omega arith)

members-append : (ts us : List Tree) (is : List ℕ) → AllBelow (length ts) is → map (tree_in (ts ++ us)) is ≡ map (tree_in ts) is
members-append ts us [] h = refl
members-append ts us (i ∷ is) h =
    let a = tree_in-append ts us i h.0 in
    let b = members-append ts us is h.1 in
    cc

fields-append : (ts us : List Tree) (fs : List Field) → FieldsBelow (length ts) fs →
    map (λ f. tree_in (ts ++ us) f.ty) fs ≡ map (λ f. tree_in ts f.ty) fs
fields-append ts us [] h = refl
fields-append ts us (f ∷ fs) h =
    let a = tree_in-append ts us f.ty h.0 in
    let b = fields-append ts us fs h.1 in
    λ i. a i ∷ b i

pub tree_of-append : (ts us : List Tree) (r : Row) → IsWithin (length ts) r → tree_of (ts ++ us) r ≡ tree_of ts r
tree_of-append ts us (row.Scalar k) h = refl
tree_of-append ts us (row.Pointer i) h = ap Pointer (tree_in-append ts us i h)
tree_of-append ts us (row.Nullable i) h = ap Nullable (tree_in-append ts us i h)
tree_of-append ts us (row.Slice i) h = ap Slice (tree_in-append ts us i h)
tree_of-append ts us (row.Array n i) h = ap (Array n) (tree_in-append ts us i h)
tree_of-append ts us (row.Struct fs) h = ap (λ l. Struct (map (λ f. f.name) fs) (trees_of l)) (fields-append ts us fs h)
tree_of-append ts us (row.Tuple is) h = ap (λ l. Tuple (trees_of l)) (members-append ts us is h)
tree_of-append ts us (row.Union is) h = ap (λ l. Union (trees_of l)) (members-append ts us is h)
tree_of-append ts us (row.Error i) h = ap Error (tree_in-append ts us i h)
tree_of-append ts us (row.Named d) h = refl

-- ---- the trees of rows

-- the trees of further rows
pub further : List Tree → List Row → List Tree
further ts [] = []
further ts (r ∷ rs) = tree_of ts r ∷ further (ts ++ tree_of ts r ∷ []) rs

trees_from-further : (ts : List Tree) (rs : List Row) → trees_from ts rs ≡ ts ++ further ts rs
unfolding further
trees_from-further ts [] = sym (append-nil ts)
trees_from-further ts (r ∷ rs) = trees_from-further (ts ++ tree_of ts r ∷ []) rs ∙ append_assoc ts (tree_of ts r ∷ []) _

length-further : (ts : List Tree) (rs : List Row) → length (further ts rs) ≡ length rs
unfolding further
length-further ts [] = refl
length-further ts (r ∷ rs) = ap suc (length-further (ts ++ tree_of ts r ∷ []) rs)

-- there is a tree for each row
pub length-trees : (rs : List Row) → length (trees rs) ≡ length rs
length-trees rs = ap length (trees_from-further [] rs) ∙ length-further [] rs

trees_from-append : (ts : List Tree) (rs more : List Row) → trees_from ts (rs ++ more) ≡ trees_from (trees_from ts rs) more
trees_from-append ts [] more = refl
trees_from-append ts (r ∷ rs) more = trees_from-append (ts ++ tree_of ts r ∷ []) rs more

-- more rows leave the trees of those that were there
pub trees-append : (rs more : List Row) → trees (rs ++ more) ≡ trees rs ++ further (trees rs) more
trees-append rs more = trees_from-append [] rs more ∙ trees_from-further (trees rs) more

-- one more row has the tree that it has over the earlier ones
pub trees-push : (rs : List Row) (r : Row) → trees (rs ++ r ∷ []) ≡ trees rs ++ tree_of (trees rs) r ∷ []
trees-push rs r = trees_from-append [] rs (r ∷ [])

-- an id stands for the tree of its row
tree_from : (ts : List Tree) (rs : List Row) (i : ℕ) (r : Row) →
    ((j : ℕ) (q : Row) → slice_get rs j ≡ Some q → IsWithin (length ts + j) q) → slice_get rs i ≡ Some r
    → slice_get (trees_from ts rs) (length ts + i) ≡ Some (tree_of (trees_from ts rs) r)
unfolding further
tree_from ts [] i r h e = cc
tree_from ts (q ∷ rs) zero r h e =
    let same : q ≡ r = cc in
    let here : slice_get (ts ++ (tree_of ts q ∷ further (ts ++ tree_of ts q ∷ []) rs)) (length ts) ≡ Some (tree_of ts q) =
    slice_get_end ts (tree_of ts q) _ in
    let all : trees_from ts (q ∷ rs) ≡ ts ++ (tree_of ts q ∷ further (ts ++ tree_of ts q ∷ []) rs) =
    trees_from-further (ts ++ tree_of ts q ∷ []) rs ∙ append_assoc ts (tree_of ts q ∷ []) _ in
    let w : IsWithin (length ts) q = subst (λ n. IsWithin n q) (omega arith) (h zero q refl) in
    let n : length ts + 0 ≡ length ts = omega arith in
    rw (all, n, ← same) (here ∙ ap Some (sym (tree_of-append ts _ q w)))
tree_from ts (q ∷ rs) (suc i) r h e =
    let n : length ts + suc i ≡ length (ts ++ tree_of ts q ∷ []) + i = omega (arith, length-append ts (tree_of ts q ∷ [])) in
    rw n (tree_from (ts ++ tree_of ts q ∷ []) rs i r
    (λ j p g. subst (λ n. IsWithin n p) (omega (arith, length-append ts (tree_of ts q ∷ []))) (h (suc j) p g)) e)

pub tree_of_row : (rs : List Row) → ((j : ℕ) (q : Row) → slice_get rs j ≡ Some q → IsWithin j q) → (i : ℕ) (r : Row) →
    slice_get rs i ≡ Some r → slice_get (trees rs) i ≡ Some (tree_of (trees rs) r)
tree_of_row rs h i r e =
    let n : 0 + i ≡ i = omega arith in
    rw n at (tree_from [] rs i r (λ j q g. subst (λ n. IsWithin n q) (omega arith) (h j q g)) e)

-- ids that were given keep their trees
pub tree_kept : (rs more : List Row) (i : ℕ) (t : Tree) → slice_get (trees rs) i ≡ Some t → slice_get (trees (rs ++ more)) i ≡ Some t
tree_kept rs more i t e =
    ap (λ l. slice_get l i) (trees-append rs more) ∙ slice_get_front (trees rs) _ i (slice_get_within (trees rs) i t e) ∙ e

-- ---- rows among more ids

pub AllBelow-le : (n m : ℕ) → n ≤ m → (is : List ℕ) → AllBelow n is → AllBelow m is
AllBelow-le n m le [] h = tt
AllBelow-le n m le (i ∷ is) h = (omega (arith, h.0), AllBelow-le n m le is h.1)

FieldsBelow-le : (n m : ℕ) → n ≤ m → (fs : List Field) → FieldsBelow n fs → FieldsBelow m fs
FieldsBelow-le n m le [] h = tt
FieldsBelow-le n m le (f ∷ fs) h = (omega (arith, h.0), FieldsBelow-le n m le fs h.1)

pub IsWithin-le : (n m : ℕ) (r : Row) → n ≤ m → IsWithin n r → IsWithin m r
IsWithin-le n m (row.Scalar k) le h = tt
IsWithin-le n m (row.Pointer i) le h = omega arith
IsWithin-le n m (row.Nullable i) le h = omega arith
IsWithin-le n m (row.Slice i) le h = omega arith
IsWithin-le n m (row.Array k i) le h = omega arith
IsWithin-le n m (row.Struct fs) le h = FieldsBelow-le n m le fs h
IsWithin-le n m (row.Tuple is) le h = AllBelow-le n m le is h
IsWithin-le n m (row.Union is) le h = AllBelow-le n m le is h
IsWithin-le n m (row.Error i) le h = omega arith
IsWithin-le n m (row.Named d) le h = tt
