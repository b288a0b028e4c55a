-- What waits, once a name is declared or defined.
use Rattle.std.proofs.Common.{◌≡◌, ℕ, zero, suc, ◌<◌, ◌≤◌, List, [], ◌∷◌, length, map, Option, Some, None, refl, ap, sym, ◌∙◌, subst, arith, ◌⊎◌, inl, inr}
use Rattle.std.specs.Prelude.{slice_get, option_and_then}
use Rattle.std.proofs.lemmas.Option.{slice_get_within}
use Rattle.std.proofs.lemmas.List.{length-map}
use Rattle.hare_types.specs.declared.declared.Declared.{Declared}
use Rattle.hare_types.specs.declared.extent.Extent.{Extent}
use Rattle.hare_types.specs.declared.kept.Kept.{Kept}
use Rattle.hare_types.specs.declared.root.Root.{Root}
use Rattle.hare_types.specs.declared.row.Row.{Row}
use Rattle.hare_types.specs.declared.row.Row.TheVariants as row
use Rattle.hare_types.specs.Numbering.{most}
use Rattle.hare_types.specs.Trees.{Named}
use Rattle.hare_types.specs.Rows.{AllBelow, IsWithin}
use Rattle.hare_types.specs.Store.{Store, tree_at, meaning_of}
use Rattle.hare_types.specs.Sound.{IsStore}
use Rattle.hare_types.specs.Layout.{following, extent_with}
use Rattle.hare_types.specs.Kept.{parts_of, defined, KeepsExtents, IsInert}
use Rattle.hare_types.specs.Roots.{root_over}
use Rattle.hare_types.specs.Waiting.{nowhere, extents, extent_at, root_at, Among, NeedsRow, Needs, IsAtRest, AreSettling, AreSettlingButName, NeedsAreWithin}
use Rattle.hare_types.proofs.RootLemmas.{TellsAll-same}
use Rattle.hare_types.proofs.TreeLemmas.{IsWithin-le}
use Rattle.hare_types.proofs.CallerLemmas.{tree_at_row}
use Rattle.hare_types.proofs.KeptLemmas.{FieldsBelow-ids}
use Rattle.hare_types.proofs.ChainLemmas.{equal_or_not, Chain-nowhere}

-- ---- what rows need is in the store

all_below : (n : ℕ) (is : List ℕ) (k p : ℕ) → AllBelow n is → slice_get is k ≡ Some p → p < n
all_below n [] k p h e = absurd cc
all_below n (i ∷ is) zero p h e =
    let same : i ≡ p = cc in
    subst (λ x. x < n) same h.0
all_below n (i ∷ is) (suc k) p h e = all_below n is k p h.1 e

needs_below : (es : List (ℕ × Declared)) (n : ℕ) (r : Row) (p : ℕ) → IsWithin n r → ((d t : ℕ) → defined es d ≡ Some t → t < n) →
    NeedsRow es r p → p < n
needs_below es n (row.Array m j) p h ids e = subst (λ x. x < n) e h
needs_below es n (row.Error j) p h ids e = subst (λ x. x < n) e h
needs_below es n (row.Named d) p h ids e = ids d p e
needs_below es n (row.Struct fs) p h ids e = all_below n (map (λ f. f.ty) fs) e.0 p (FieldsBelow-ids n fs h) e.1
needs_below es n (row.Tuple js) p h ids e = all_below n js e.0 p h e.1
needs_below es n (row.Union js) p h ids e = all_below n js e.0 p h e.1
needs_below es n (row.Scalar k) p h ids e = absurd e
needs_below es n (row.Pointer j) p h ids e = absurd e
needs_below es n (row.Nullable j) p h ids e = absurd e
needs_below es n (row.Slice j) p h ids e = absurd e

pub needs-within : (s : Store) → IsStore s → NeedsAreWithin s.rows s.declared
needs-within s v i p r g e =
    let below = slice_get_within s.rows i r g in
    needs_below s.declared (length s.rows) r p (IsWithin-le i (length s.rows) r (omega arith) (v.rows_sound.within i r g)) v.defined_within
    e

pub parts_below : (n : ℕ) (r : Row) (k p : ℕ) → IsWithin n r → slice_get (parts_of r) k ≡ Some p → p < n
parts_below n (row.Struct fs) k p h e = all_below n (map (λ f. f.ty) fs) k p (FieldsBelow-ids n fs h) e
parts_below n (row.Tuple js) k p h e = all_below n js k p h e
parts_below n (row.Union js) k p h e = all_below n js k p h e
parts_below n (row.Array m j) k p h e = absurd cc
parts_below n (row.Error j) k p h e = absurd cc
parts_below n (row.Named d) k p h e = absurd cc
parts_below n (row.Scalar w) k p h e = absurd cc
parts_below n (row.Pointer j) k p h e = absurd cc
parts_below n (row.Nullable j) k p h e = absurd cc
parts_below n (row.Slice j) k p h e = absurd cc

-- ---- under other definitions

root_same : (f g : ℕ → Option ℕ) (bs : ℕ → Option Root) → (i : ℕ) (r : Row) → ((d : ℕ) → r ≡ row.Named d → f d ≡ g d) →
    root_over f bs i r ≡ root_over g bs i r
root_same f g bs i (row.Named d) h = ap (option_and_then bs) (h d refl)
root_same f g bs i (row.Scalar k) h = refl
root_same f g bs i (row.Pointer j) h = refl
root_same f g bs i (row.Nullable j) h = refl
root_same f g bs i (row.Slice j) h = refl
root_same f g bs i (row.Array n j) h = refl
root_same f g bs i (row.Struct fs) h = refl
root_same f g bs i (row.Tuple js) h = refl
root_same f g bs i (row.Union js) h = refl
root_same f g bs i (row.Error j) h = refl

needs_same : (es new : List (ℕ × Declared)) (r : Row) (p : ℕ) → ((d : ℕ) → r ≡ row.Named d → defined new d ≡ defined es d) →
    NeedsRow es r p → NeedsRow new r p
needs_same es new (row.Named d) p h e = h d refl ∙ e
needs_same es new (row.Array n j) p h e = e
needs_same es new (row.Error j) p h e = e
needs_same es new (row.Struct fs) p h e = e
needs_same es new (row.Tuple js) p h e = e
needs_same es new (row.Union js) p h e = e
needs_same es new (row.Scalar k) p h e = e
needs_same es new (row.Pointer j) p h e = e
needs_same es new (row.Nullable j) p h e = e
needs_same es new (row.Slice j) p h e = e

inert_same : (es new : List (ℕ × Declared)) (r : Row) → ((d : ℕ) → r ≡ row.Named d → defined new d ≡ defined es d) → IsInert es r →
    IsInert new r
inert_same es new (row.Named d) h e = h d refl ∙ e
inert_same es new (row.Scalar k) h e = e
inert_same es new (row.Pointer j) h e = e
inert_same es new (row.Nullable j) h e = e
inert_same es new (row.Slice j) h e = e
inert_same es new (row.Array n j) h e = e
inert_same es new (row.Struct fs) h e = e
inert_same es new (row.Tuple js) h e = e
inert_same es new (row.Union js) h e = e
inert_same es new (row.Error j) h e = e

rest_same : (rows : List Row) (es new : List (ℕ × Declared)) (ks : List Kept) (lists : ℕ → List ℕ) (i : ℕ) →
    ((r : Row) (d : ℕ) → slice_get rows i ≡ Some r → r ≡ row.Named d → defined new d ≡ defined es d)
    → IsAtRest rows es ks lists i → IsAtRest rows new ks lists i
rest_same rows es new ks lists i same h r g u =
    let q = h r g u in
    (TellsAll-same _ _ _ _ refl (root_same (defined new) (defined es) (root_at ks) i r (λ d e. same r d g e)) q.0, by q.1)
  where
    by : IsInert es r ⊎ ((p : ℕ) × Among (lists (suc p)) i × (extent_at ks p ≡ None)) →
        IsInert new r ⊎ ((p : ℕ) × Among (lists (suc p)) i × (extent_at ks p ≡ None))
    by (inl x) = inl (inert_same es new r (λ d e. same r d g e) x)
    by (inr w) = inr w

-- with one more declaration
pub AreSettling-declared : (rows : List Row) (es new : List (ℕ × Declared)) (ks : List Kept) (pile : ℕ) (lists : ℕ → List ℕ) →
    ((d : ℕ) → defined new d ≡ defined es d) → AreSettling rows es ks pile lists
    → AreSettling rows new ks pile lists
AreSettling-declared rows es new ks pile lists same h = record {
  waiting = record {
    links = h.waiting.links;
    unknown = h.waiting.unknown;
    needs =
        λ p i a r g. needs_same es new r p (λ d e. same d) (h.waiting.needs p i a r g);
  };
  rest = λ i. by i (h.rest i);
}
  where
    by : (i : ℕ) → IsAtRest rows es ks lists i ⊎ Among (lists 0) i → IsAtRest rows new ks lists i ⊎ Among (lists 0) i
    by i (inl a) = inl (rest_same rows es new ks lists i (λ r d g e. same d) a)
    by i (inr a) = inr a

-- the extent of a name that is not defined
undefined_none : (s : Store) → IsStore s → (ks : List Kept) → KeepsExtents s (extents ks) → (d i : ℕ) → defined s.declared d ≡ None →
    slice_get s.rows i ≡ Some (row.Named d) → extent_at ks i ≡ None
undefined_none s v ks k d i fresh here = by (extent_at ks i) refl
  where
    none : (n : ℕ) (y : Extent) → following extent_with (meaning_of s) n (Named d) ≡ Some y → ⊥
    none zero y e = absurd cc
    none (suc n) y e =
        let gone = ap (λ o. option_and_then (following extent_with (meaning_of s) n) (option_and_then (tree_at s) o)) fresh in
        let both : None ≡ Some y = sym gone ∙ e in
        absurd cc

    by : (o : Option Extent) → extent_at ks i ≡ o → o ≡ None
    by None e = refl
    by (Some x) e =
        let w = k.sound i x e in
        let trees : Some (Named d) ≡ Some w.1.0 = sym (tree_at_row s v i (row.Named d) here) ∙ w.1.1 in
        let tree : Named d ≡ w.1.0 = cc in
        absurd (none w.1.2.0 w.0 (subst (λ u. following extent_with (meaning_of s) w.1.2.0 u ≡ Some w.0) (sym tree) w.1.2.1))

-- with one more definition
pub AreSettling-defined : (s : Store) (ks : List Kept) (d : ℕ) (new : List (ℕ × Declared)) (lists : ℕ → List ℕ) → IsStore s →
    KeepsExtents s (extents ks) → defined s.declared d ≡ None
    → ((q : ℕ) → (d ≡ q) ⊎ (defined new q ≡ defined s.declared q)) → AreSettling s.rows s.declared ks nowhere lists →
    AreSettlingButName d s.rows new ks lists
AreSettling-defined s ks d new lists v k fresh there h = record {
  waiting = record { links = h.waiting.links; unknown = h.waiting.unknown; needs = needs };
  out = λ i e. (undefined_none s v ks k d i fresh e, λ n a. out i e n a);
  rest = λ i. by i (h.rest i) (slice_get s.rows i) refl;
}
  where
    few : length ks ≤ most
    few = omega (arith, v.rows_few, k.as_many, length-map ks (λ x. x.extent))

    no_need : (p : ℕ) → ¬ NeedsRow s.declared (row.Named d) p
    no_need p e =
        let both : None ≡ Some p = sym fresh ∙ e in
        absurd cc

    out : (i : ℕ) → slice_get s.rows i ≡ Some (row.Named d) → (n : ℕ) → ¬ Among (lists n) i
    out i e zero a = subst (λ xs. Among xs i) (Chain-nowhere ks few (lists 0) nowhere refl (h.waiting.links.chains 0)) a
    out i e (suc p) a = no_need p (h.waiting.needs p i a (row.Named d) e)

    other : (r : Row) → ¬ (r ≡ row.Named d) → (q : ℕ) → r ≡ row.Named q → defined new q ≡ defined s.declared q
    other r away q e = on (there q)
      where
        on : (d ≡ q) ⊎ (defined new q ≡ defined s.declared q) → defined new q ≡ defined s.declared q
        on (inl f) = absurd (away (e ∙ ap row.Named (sym f)))
        on (inr f) = f

    needs : (p i : ℕ) → Among (lists (suc p)) i → Needs s.rows new i p
    needs p i a r g =
        let needed = h.waiting.needs p i a r g in
        needs_same s.declared new r p (other r (λ e. no_need p (subst (λ x. NeedsRow s.declared x p) e needed))) needed

    is_name : (r : Row) → (r ≡ row.Named d) ⊎ (¬ (r ≡ row.Named d))
    is_name (row.Named q) = on (equal_or_not q d)
      where
        on : (q ≡ d) ⊎ (¬ (q ≡ d)) → (row.Named q ≡ row.Named d) ⊎ (¬ (row.Named q ≡ row.Named d))
        on (inl e) = inl (ap row.Named e)
        on (inr away) = inr (λ e. away (cc))
    is_name (row.Scalar k) = inr (λ e. absurd cc)
    is_name (row.Pointer j) = inr (λ e. absurd cc)
    is_name (row.Nullable j) = inr (λ e. absurd cc)
    is_name (row.Slice j) = inr (λ e. absurd cc)
    is_name (row.Array n j) = inr (λ e. absurd cc)
    is_name (row.Struct fs) = inr (λ e. absurd cc)
    is_name (row.Tuple js) = inr (λ e. absurd cc)
    is_name (row.Union js) = inr (λ e. absurd cc)
    is_name (row.Error j) = inr (λ e. absurd cc)

    by : (i : ℕ) → IsAtRest s.rows s.declared ks lists i ⊎ Among (lists 0) i → (o : Option Row) → slice_get s.rows i ≡ o →
        (slice_get s.rows i ≡ Some (row.Named d)) ⊎ (IsAtRest s.rows new ks lists i ⊎ Among (lists 0) i)
    by i (inr a) o g = inr (inr a)
    by i (inl a) None g = inr (inl (λ r e u. let both : None ≡ Some r = sym g ∙ e in absurd cc))
    by i (inl a) (Some r) g = on (is_name r)
      where
        one : (q : Row) → slice_get s.rows i ≡ Some q → r ≡ q
        one q e =
            let both : Some r ≡ Some q = sym g ∙ e in
            cc

        on : (r ≡ row.Named d) ⊎ (¬ (r ≡ row.Named d)) → (slice_get s.rows i ≡ Some (row.Named d)) ⊎
            (IsAtRest s.rows new ks lists i ⊎ Among (lists 0) i)
        on (inl e) = inl (g ∙ ap Some e)
        on (inr away) = inr (inl (rest_same s.rows s.declared new ks lists i (λ q f e h. other r away f (one q e ∙ h)) a))
