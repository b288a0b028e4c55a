-- What one more row makes of the rows of a store.
use Rattle.std.proofs.Common.{◌≡◌, ℕ, zero, suc, ◌<◌, ◌≤◌, List, [], ◌∷◌, ◌++◌, length, Some, ap, sym, ◌∙◌, subst, arith, ◌⊎◌, inl, inr}
use Rattle.std.specs.Prelude.{slice_get, slice_index_or}
use Rattle.std.proofs.lemmas.List.{append-nil}
use Rattle.std.proofs.lemmas.Option.{slice_get_within}
use Rattle.hare_types.specs.declared.row.Row.{Row}
use Rattle.hare_types.specs.declared.row.Row.TheVariants as row
use Rattle.hare_types.specs.Numbering.{IsOnce, IsNumbered, Continues}
use Rattle.hare_types.specs.Trees.{Tree, Same}
use Rattle.hare_types.specs.Rows.{tree_of, trees, AllBelow, IsWithin, IsReduced, AreRows}
use Rattle.hare_types.proofs.ListLemmas.{slice_get_front, slice_get_push}
use Rattle.hare_types.proofs.TreeLemmas.{further, length-trees, trees-append, tree_of-append, tree_of_row, tree_kept, IsWithin-le}
use Rattle.hare_types.proofs.SameLemmas.{same_once}

below_at : (n : ℕ) (is : List ℕ) (k i d : ℕ) → AllBelow n is → k < length is → slice_index_or is k d ≡ i → i < n
below_at n [] k i d h l e = absurd (omega arith)
below_at n (j ∷ is) zero i d h l e = omega (arith, h.0)
below_at n (j ∷ is) (suc k) i d h l e = below_at n is k i d h.1 (omega arith) e

-- more rows leave a row reduced
pub IsReduced-append : (rows more : List Row) (r : Row) → IsWithin (length rows) r → IsReduced rows r → IsReduced (rows ++ more) r
IsReduced-append rows more (row.Scalar k) w h = tt
IsReduced-append rows more (row.Pointer i) w h = tt
IsReduced-append rows more (row.Nullable i) w h = tt
IsReduced-append rows more (row.Slice i) w h = tt
IsReduced-append rows more (row.Array n i) w h = tt
IsReduced-append rows more (row.Struct fs) w h = tt
IsReduced-append rows more (row.Tuple is) w h = tt
IsReduced-append rows more (row.Union is) w h = record {
  several = h.several;
  ascend = h.ascend;
  not_never = λ i m e. h.not_never i m (sym (slice_get_front rows more i (below_at (length rows) is m.0 i i w m.1 m.2)) ∙ e);
  not_union = λ i js m e. h.not_union i js m (sym (slice_get_front rows more i (below_at (length rows) is m.0 i i w m.1 m.2)) ∙ e);
}
IsReduced-append rows more (row.Error i) w h = tt
IsReduced-append rows more (row.Named d) w h = tt

pub Continues-grows : {A : Type 0} (old new : List A) (x : A) → (new ≡ old) ⊎ (new ≡ old ++ x ∷ []) → Continues old new
Continues-grows old new x (inl e) = ([], e ∙ sym (append-nil old))
Continues-grows old new x (inr e) = (x ∷ [], e)

module _ (rows : List Row) (r : Row) (sound : AreRows rows) (w : IsWithin (length rows) r) (reduced : IsReduced rows r) where
  AreRows-push : IsOnce (rows ++ r ∷ []) → AreRows (rows ++ r ∷ [])
  AreRows-push o = record {
    once = o;
    within = λ i q e. within_at i q (slice_get_push rows r i q e);
    reduced = λ i q e. reduced_at i q (slice_get_push rows r i q e);
  }
    where
      within_at : (i : ℕ) (q : Row) → (slice_get rows i ≡ Some q) ⊎ ((i ≡ length rows) × (q ≡ r)) → IsWithin i q
      within_at i q (inl e) = sound.within i q e
      within_at i q (inr e) = rw (e.0, e.1) w

      reduced_at : (i : ℕ) (q : Row) → (slice_get rows i ≡ Some q) ⊎ ((i ≡ length rows) × (q ≡ r)) → IsReduced (rows ++ r ∷ []) q
      reduced_at i q (inl e) =
          let l : i ≤ length rows = omega (arith, slice_get_within rows i q e) in
          IsReduced-append rows (r ∷ []) q (IsWithin-le i (length rows) q l (sound.within i q e)) (sound.reduced i q e)
      reduced_at i q (inr e) = rw e.1 (IsReduced-append rows (r ∷ []) r w reduced)

  module _ (new : List Row) (n : ℕ) (numbered : IsNumbered rows new r n) (o : IsOnce new) where
    pub AreRows-new : AreRows new
    AreRows-new = by numbered.grows
      where
        by : (new ≡ rows) ⊎ (new ≡ rows ++ r ∷ []) → AreRows new
        by (inl e) = subst AreRows (sym e) sound
        by (inr e) = subst AreRows (sym e) (AreRows-push (subst IsOnce e o))

    -- the number stands for the tree of the row
    pub stands_new : slice_get (trees new) n ≡ Some (tree_of (trees rows) r)
    stands_new =
        let more = Continues-grows rows new r numbered.grows in
        let ts : trees new ≡ trees rows ++ further (trees rows) more.0 = ap trees more.1 ∙ trees-append rows more.0 in
        let here = tree_of_row new AreRows-new.within n r numbered.stands in
        here ∙ ap Some (ap (λ us. tree_of us r) ts ∙ tree_of-append (trees rows) (further (trees rows) more.0) r (rw length-trees w))

    -- and no other does
    pub once_new : (i : ℕ) (u : Tree) → slice_get (trees new) i ≡ Some u → Same u (tree_of (trees rows) r) → i ≡ n
    once_new i u e h = same_once new AreRows-new i n u (tree_of (trees rows) r) e stands_new h

    -- ids that were given keep their trees
    pub kept_new : (i : ℕ) (u : Tree) → slice_get (trees rows) i ≡ Some u → slice_get (trees new) i ≡ Some u
    kept_new i u e =
        let more = Continues-grows rows new r numbered.grows in
        ap (λ l. slice_get (trees l) i) more.1 ∙ tree_kept rows more.0 i u e
