-- The list of tags does not look at the list as it was.
use Rattle.std.proofs.Common.{◌≡◌, ℕ, List, [], ◌∷◌, ◌++◌, Bool, false, cond, refl, ap, ◌∙◌}
use Rattle.std.specs.List.{flat_map}
use Rattle.hare_tree.specs.declared.kind.Kind.{Kind}
use Rattle.hare_tree.specs.declared.kind.Kind.TheVariants as ki
use Rattle.hare_types.specs.declared.coercion.Ty.{Ty}
use Rattle.hare_types.specs.Store.{Store}
use Rattle.hare_typed.specs.Typed.{TypedNode, TypedNodes, marked, typed_none, typed_more, mark_of}
use Rattle.hare_typed.specs.Numbers.{kind_of}
use Rattle.hare_typed.specs.Order.{check_order}
use Rattle.hare_whole.specs.Tags.{member_listed, is_union, written_in, written_among, allocated_by, allocated_in, bodies_by, once, tag_list}

flat_map-same : {A B : Type 0} (f g : A → List B) → ((x : A) → f x ≡ g x) → (xs : List A) → flat_map f xs ≡ flat_map g xs
flat_map-same f g h [] = refl
flat_map-same f g h (x ∷ xs) = ap (λ ys. ys ++ flat_map f xs) (h x) ∙ ap (λ ys. g x ++ ys) (flat_map-same f g h xs)

module _ (s : Store) (is : List ℕ) where
  abbrev relisted : Store
  relisted = record s { listed = is }

  mutual
    written_in-relisted : (b : Bool) (t : TypedNode) → written_in relisted b t ≡ written_in s b t
    written_in-relisted b (marked h m ts) =
        ap (λ xs. cond b (member_listed s h.kind m.ty) [] ++ xs) (written_among-relisted (is_union h.kind) ts)

    written_among-relisted : (b : Bool) (ts : TypedNodes) → written_among relisted b ts ≡ written_among s b ts
    written_among-relisted b typed_none = refl
    written_among-relisted b (typed_more t ts) =
        ap (λ xs. xs ++ written_among relisted b ts) (written_in-relisted b t)
        ∙ ap (λ xs. written_in s b t ++ xs) (written_among-relisted b ts)

  allocated_by-relisted : (k : Kind) (a : Ty) → allocated_by relisted k a ≡ allocated_by s k a
  allocated_by-relisted ki.Alloc a = refl
  allocated_by-relisted ki.Append a = refl
  allocated_by-relisted _ a = refl

  allocated_in-relisted : (t : TypedNode) → allocated_in relisted t ≡ allocated_in s t
  allocated_in-relisted t =
      flat_map-same (λ u. allocated_by relisted (kind_of u) (mark_of u).ty) (λ u. allocated_by s (kind_of u) (mark_of u).ty)
      (λ u. allocated_by-relisted (kind_of u) (mark_of u).ty) (check_order t)

  pub tag_list-relisted : (ds : List TypedNode) → tag_list relisted ds ≡ tag_list s ds
  tag_list-relisted ds =
      ap (λ xs. once (xs ++ flat_map (λ d. flat_map (allocated_in relisted) (bodies_by (kind_of d) d)) ds))
      (flat_map-same (written_in relisted false) (written_in s false) (written_in-relisted false) ds)
      ∙ ap (λ xs. once (flat_map (written_in s false) ds ++ xs))
      (flat_map-same (λ d. flat_map (allocated_in relisted) (bodies_by (kind_of d) d))
      (λ d. flat_map (allocated_in s) (bodies_by (kind_of d) d))
      (λ d. flat_map-same (allocated_in relisted) (allocated_in s) allocated_in-relisted (bodies_by (kind_of d) d)) ds)
