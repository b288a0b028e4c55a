-- Lists of nodes in check order, and the coercions that they carry.
use Rattle.std.proofs.Common.{◌≡◌, ℕ, zero, suc, ◌<◌, List, [], ◌∷◌, ◌++◌, map, length, Some, refl, ap, sym, ◌∙◌, subst, ◌⊎◌, inl, inr, arith, append_assoc, append-nil, length-append, get_or}
use Rattle.std.specs.Prelude.{slice_get, slice_index_or, Contains}
use Rattle.std.proofs.lemmas.List.{map-append}
use Rattle.std.proofs.lemmas.Option.{slice_get_within, get_or_from_slice_get}
use Rattle.hare_types.specs.declared.coercion.Coercion.{Coercion}
use Rattle.hare_types.specs.Store.{Store}
use Rattle.hare_types.proofs.ListLemmas.{slice_get_front}
use Rattle.hare_typed.specs.Typed.{TypedNode, TypedNodes, marked, typed_none, typed_more, typed_nodes, mark_of}
use Rattle.hare_typed.specs.Coats.{coat, coat_each}
use Rattle.hare_typed.specs.Order.{check_order}
use Rattle.hare_seen.specs.Sizes.{FitsNode, IsLargeNode}
use Rattle.hare_walk.specs.Walks.{Each}
use Rattle.hare_written.specs.Nodes.{nodes_in, IsFirst, coercions_of, HasOwn, HaveOwn}

-- ---- what holds of each

pub each-join : (P : TypedNode → Type 0) (xs ys : List TypedNode) → Each P xs → Each P ys → Each P (xs ++ ys)
each-join P [] ys a b = b
each-join P (x ∷ xs) ys a b = (a.0, each-join P xs ys a.1 b)

pub each-left : (P : TypedNode → Type 0) (xs ys : List TypedNode) → Each P (xs ++ ys) → Each P xs
each-left P [] ys a = tt
each-left P (x ∷ xs) ys a = (a.0, each-left P xs ys a.1)

pub each-right : (P : TypedNode → Type 0) (xs ys : List TypedNode) → Each P (xs ++ ys) → Each P ys
each-right P [] ys a = a
each-right P (x ∷ xs) ys a = each-right P xs ys a.1

pub each-map : (P Q : TypedNode → Type 0) (xs : List TypedNode) → ((x : TypedNode) → P x → Q x) → Each P xs → Each Q xs
each-map P Q [] g a = tt
each-map P Q (x ∷ xs) g a = (g x a.0, each-map P Q xs g a.1)

pub each-both : (P Q R : TypedNode → Type 0) (xs : List TypedNode) → ((x : TypedNode) → P x → Q x → R x) → Each P xs → Each Q xs → Each R xs
each-both P Q R [] g a b = tt
each-both P Q R (x ∷ xs) g a b = (g x a.0 b.0, each-both P Q R xs g a.1 b.1)

pub each-from : (P : TypedNode → Type 0) (xs : List TypedNode) → ((x : TypedNode) → Contains xs x → P x) → Each P xs
each-from P [] g = tt
each-from P (x ∷ xs) g = (g x (0, omega arith, refl), each-from P xs (λ y c. g y (suc c.0, omega (arith, c.1), c.2)))

pub each-of : (P : TypedNode → Type 0) (xs : List TypedNode) → Each P xs → (x : TypedNode) → Contains xs x → P x
each-of P [] a x (k, h, e) = absurd (omega arith)
each-of P (y ∷ ys) a x (zero, h, e) = subst P e a.0
each-of P (y ∷ ys) a x (suc k, h, e) = each-of P ys a.1 x (k, omega arith, e)

-- ---- nodes of kids

pub nodes-more : (xs : List TypedNode) (x : TypedNode) → nodes_in (xs ++ x ∷ []) ≡ nodes_in xs ++ check_order x
nodes-more [] x = append-nil (check_order x)
nodes-more (y ∷ ys) x = ap (λ zs. check_order y ++ zs) (nodes-more ys x) ∙ sym (append_assoc (check_order y) (nodes_in ys) (check_order x))

-- the first kid stands among them
pub each-head : (P : TypedNode → Type 0) (x : TypedNode) (xs : List TypedNode) → Each P (nodes_in (x ∷ xs)) → P x
each-head P (marked h m ts) xs a =
    let all = each-left P (check_order (marked h m ts)) (nodes_in xs) a in
    (each-right P _ (marked h m ts ∷ []) all).0

-- ---- the first that is too large

pub first-split : (f : Store) (xs ys : List TypedNode) (y : TypedNode) → IsFirst f (xs ++ ys) y →
    IsFirst f xs y ⊎ (Each (FitsNode f) xs × IsFirst f ys y)
first-split f [] ys y h = inr (tt, h)
first-split f (x ∷ xs) ys y (inl h) = inl (inl h)
first-split f (x ∷ xs) ys y (inr h) = by (first-split f xs ys y h.1)
  where
    by : IsFirst f xs y ⊎ (Each (FitsNode f) xs × IsFirst f ys y) → IsFirst f (x ∷ xs) y ⊎ (Each (FitsNode f) (x ∷ xs) × IsFirst f ys y)
    by (inl k) = inl (inr (h.0, k))
    by (inr k) = inr ((h.0, k.0), k.1)

pub first-at : (f : Store) (xs ys : List TypedNode) (y : TypedNode) → Each (FitsNode f) xs → IsLargeNode f y → IsFirst f (xs ++ y ∷ ys) y
first-at f [] ys y a h = inl (refl, h)
first-at f (x ∷ xs) ys y a h = inr (a.0, first-at f xs ys y a.1 h)

-- ---- coercions

pub coercions-join : (cs : List Coercion) (xs ys : List TypedNode) →
    (cs ++ coercions_of xs) ++ coercions_of ys ≡ cs ++ coercions_of (xs ++ ys)
coercions-join cs xs ys =
    append_assoc cs (coercions_of xs) (coercions_of ys) ∙ ap (λ ds. cs ++ ds)
    (sym (map-append (λ (y : TypedNode). (mark_of y).coerce) xs ys))

pub coerced : (ys : List TypedNode) → length (coercions_of ys) ≡ length ys
coerced [] = refl
coerced (y ∷ ys) = ap suc (coerced ys)

got-front : (cs ds : List Coercion) (i : ℕ) (c : Coercion) → slice_get cs i ≡ Some c → slice_get (cs ++ ds) i ≡ Some c
got-front cs ds i c e = slice_get_front cs ds i (slice_get_within cs i c e) ∙ e

mutual
  pub own-front : (cs ds : List Coercion) (x : TypedNode) → HasOwn cs x → HasOwn (cs ++ ds) x
  own-front cs ds (marked h m ts) k = (got-front cs ds m.node m.coerce k.0, owns-front cs ds ts k.1)

  pub owns-front : (cs ds : List Coercion) (ts : TypedNodes) → HaveOwn cs ts → HaveOwn (cs ++ ds) ts
  owns-front cs ds typed_none k = tt
  owns-front cs ds (typed_more t ts) k = (own-front cs ds t k.0, owns-front cs ds ts k.1)

pub owns-more : (cs : List Coercion) (xs : List TypedNode) (x : TypedNode) → HaveOwn cs (typed_nodes xs) → HasOwn cs x →
    HaveOwn cs (typed_nodes (xs ++ x ∷ []))
owns-more cs [] x a h = (h, tt)
owns-more cs (y ∷ ys) x a h = (a.0, owns-more cs ys x a.1 h)

-- what has its own is as it is under them
mutual
  pub own-coat : (cs : List Coercion) (x : TypedNode) → HasOwn cs x → coat cs x ≡ x
  own-coat cs (marked h m ts) k =
      let a : slice_index_or cs m.node m.coerce ≡ m.coerce = get_or_from_slice_get cs m.node m.coerce m.coerce k.0 in
      let b = owns-coat cs ts k.1 in
      rw (a, b) refl

  pub owns-coat : (cs : List Coercion) (ts : TypedNodes) → HaveOwn cs ts → coat_each cs ts ≡ ts
  owns-coat cs typed_none k = refl
  owns-coat cs (typed_more t ts) k = rw (own-coat cs t k.0, owns-coat cs ts k.1) refl

pub owns-hand : (cs : List Coercion) (xs : List TypedNode) → HaveOwn cs (typed_nodes xs) → map (coat cs) xs ≡ xs
owns-hand cs [] k = refl
owns-hand cs (x ∷ xs) k = rw (own-coat cs x k.0, owns-hand cs xs k.1) refl
