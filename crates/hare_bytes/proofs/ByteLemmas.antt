-- The bytes of declarations, node by node.
use Rattle.std.proofs.Common.{◌≡◌, ℕ, zero, suc, ◌+◌, ◌≤◌, Bool, true, false, cond, List, [], ◌∷◌, ◌++◌, length, map, drop, take, min, Some, refl, sym, ap, ◌∙◌, arith, zero-add}
use Rattle.std.specs.Prelude.{slice_get, filter, flat_map, sum_by, not, IsTrue, option_map}
use Rattle.std.proofs.lemmas.List.{append-nil, map_push, take_all}
use Rattle.std.proofs.lemmas.List.Sums.{sum_by-append, sum_by-cons}
use Rattle.std.proofs.lemmas.Option.{slice_get-map}
use Rattle.hare_tree.specs.declared.kind.Kind.{Kind}
use Rattle.hare_tree.specs.declared.kind.Kind.TheVariants as ki
use Rattle.hare_tree.specs.Node.{Head}
use Rattle.hare_tree.specs.Shape.{is_none}
use Rattle.hare_types.specs.Store.{Store}
use Rattle.hare_typed.specs.Typed.{TypedNode, TypedNodes, Mark, marked, mark_of, typed_nodes, listed_nodes, kids_of}
use Rattle.hare_typed.specs.Order.{check_order, check_order_each, tree_from_front}
use Rattle.hare_typed.specs.Numbers.{kind_of, body_of, last_of, numbered, numbered_by}
use Rattle.hare_typed.specs.Evaluated.{makes_slice}
use Rattle.hare_typed.specs.Given.{size_in}
use Rattle.hare_typed.proofs.ExitLemmas.{drop-get}
use Rattle.hare_typed.proofs.KidLemmas.{take-get}
use Rattle.hare_rules.specs.Words.{id_in, default_in}
use Rattle.hare_rules.specs.Context.{own_type}
use Rattle.hare_costs.specs.Amounts.{most}
use Rattle.hare_whole.specs.Parts.{type_part, value_part, declared_id, id_or_zero}
use Rattle.hare_whole.specs.Limits.{is_global, slices_in}
use Rattle.hare_limits.specs.Stops.{AreBytes}
use Rattle.hare_bytes.specs.Bytes.{told_bytes, own_slice, slices_under, slices_among}

cap-sum : (a b m : ℕ) → min (min a m + min b m) m ≡ min (a + b) m
cap-sum a b m = omega arith

-- ---- trees

-- what stands in a tree, and then the tree
pub under-tree : (s : Store) (h : Head) (m : Mark) (ks : List TypedNode) (t : TypedNode) (inner own all : ℕ)
    → marked h m (typed_nodes ks) ≡ t
    → inner ≡ min (slices_among s (typed_nodes ks)) most → own ≡ min (own_slice s t) most → all ≡ min (inner + own) most
    → all ≡ min (slices_under s t) most
under-tree s h m ks t inner own all v e f g =
    let a = slices_among s (typed_nodes ks) in
    let b = own_slice s t in
    let whole : slices_under s (marked h m (typed_nodes ks)) ≡ a + own_slice s (marked h m (typed_nodes ks))
    = sum_by-append (own_slice s) (check_order_each (typed_nodes ks)) (marked h m (typed_nodes ks) ∷ []) ∙ ap (λ n. a + n) (zero-add _) in
    g ∙ ap (λ n. min (n + own) most) e ∙ ap (λ n. min (min a most + n) most) f ∙ cap-sum a b most
    ∙ sym (ap (λ n. min n most) (ap (slices_under s) (sym v) ∙ whole ∙ ap (λ u. a + own_slice s u) v))

pub among-more : (s : Store) (ks : List TypedNode) (j i : ℕ) (t : TypedNode) (one now all : ℕ) → i ≡ j + 1 → slice_get ks j ≡ Some t
    → one ≡ min (slices_under s t) most → all ≡ min (one + now) most → now ≡ min (slices_among s (typed_nodes (drop i ks))) most
    → all ≡ min (slices_among s (typed_nodes (drop j ks))) most
among-more s ks j i t one now all q e f g w =
    let a = slices_under s t in
    let b = slices_among s (typed_nodes (drop i ks)) in
    let step : drop j ks ≡ t ∷ drop i ks = drop-get ks j t e ∙ ap (λ n. t ∷ drop n ks) (sym q) in
    g ∙ ap (λ n. min (n + now) most) f ∙ ap (λ n. min (min a most + n) most) w ∙ cap-sum a b most
    ∙ sym (ap (λ n. min n most) (ap (λ us. slices_among s (typed_nodes us)) step
    ∙ sum_by-append (own_slice s) (check_order t) (check_order_each (typed_nodes (drop i ks)))))

-- ---- declarations

front-get : (ts : List TypedNode) (i : ℕ) (t : TypedNode) → slice_get ts i ≡ Some t → tree_from_front i ts ≡ t
front-get [] i t e = absurd cc
front-get (u ∷ us) zero t e = cc
front-get (u ∷ us) (suc i) t e = front-get us i t e

listed-typed : (ts : List TypedNode) → listed_nodes (typed_nodes ts) ≡ ts
listed-typed [] = refl
listed-typed (t ∷ ts) = ap (λ us. t ∷ us) (listed-typed ts)

last-get : (ts : List TypedNode) (i : ℕ) (t : TypedNode) → i + 1 ≡ length ts → slice_get ts i ≡ Some t → last_of ts ≡ t ∷ []
last-get [] i t h e = absurd cc
last-get (u ∷ []) zero t h e = let k : u ≡ t = cc in ap (λ x. x ∷ []) k
last-get (u ∷ []) (suc i) t h e = absurd cc
last-get (u ∷ v ∷ vs) zero t h e = absurd (omega arith)
last-get (u ∷ v ∷ vs) (suc i) t h e = last-get (v ∷ vs) i t (omega arith) e

numbered-global : (k : Kind) (d : TypedNode) → IsTrue (is_global k) → numbered_by k d ≡ flat_map check_order (body_of d)
numbered-global ki.GlobalLet d g = refl
numbered-global ki.GlobalConst d g = refl
numbered-global _ d g = absurd cc

-- what is no slice has no bytes
filtered : (s : Store) (ts : List TypedNode) → sum_by (λ t. size_in s (mark_of t).ty) (filter (makes_slice s) ts) ≡ sum_by (own_slice s) ts
filtered s [] = refl
filtered s (t ∷ ts) = by (makes_slice s t) refl (filtered s ts)
  where
    by : (b : Bool) → makes_slice s t ≡ b
        → sum_by (λ u. size_in s (mark_of u).ty) (filter (makes_slice s) ts) ≡ sum_by (own_slice s) ts
        → sum_by (λ u. size_in s (mark_of u).ty) (cond b (t ∷ filter (makes_slice s) ts) (filter (makes_slice s) ts))
        ≡ sum_by (own_slice s) (t ∷ ts)
    by true e r =
        sum_by-cons (λ u. size_in s (mark_of u).ty) t (filter (makes_slice s) ts) ∙ ap (λ n. size_in s (mark_of t).ty + n) r
        ∙ sym (sum_by-cons (own_slice s) t ts ∙ ap (λ b. cond b (size_in s (mark_of t).ty) 0 + sum_by (own_slice s) ts) e)
    by false e r =
        r ∙ sym (sum_by-cons (own_slice s) t ts ∙ ap (λ b. cond b (size_in s (mark_of t).ty) 0 + sum_by (own_slice s) ts) e
        ∙ zero-add (sum_by (own_slice s) ts))

module _ (s : Store) (h : Head) (m : Mark) (ks : List TypedNode) (d : TypedNode) (v : marked h m (typed_nodes ks) ≡ d) where
  kid-seen : (i : ℕ) (t : TypedNode) → slice_get ks i ≡ Some t → tree_from_front i (listed_nodes (kids_of d)) ≡ t
  kid-seen i t e = ap (λ u. tree_from_front i (listed_nodes (kids_of u))) (sym v) ∙ ap (tree_from_front i) (listed-typed ks)
      ∙ front-get ks i t e

  module _ (w x : TypedNode) (second : slice_get ks 2 ≡ Some w) (third : slice_get ks 3 ≡ Some x) where
    declared-seen : cond (not (is_none (kind_of w))) (id_or_zero (id_in (own_type w))) (id_or_zero (default_in s (own_type x)))
        ≡ declared_id s (type_part d) (value_part d)
    declared-seen =
        sym (ap (λ t. declared_id s t (value_part d)) (kid-seen 2 w second) ∙ ap (λ t. declared_id s w t) (kid-seen 3 x third))

    module _ (x' : Head) (y : Mark) (us : TypedNodes) (seen : marked x' y us ≡ w) (b : Bool) (is : b ≡ not (is_none x'.kind)) where
      told : b ≡ not (is_none (kind_of w))
      told = is ∙ ap (λ u. not (is_none (kind_of u))) seen

      pub declared-written : (t : ℕ) → b ≡ true → id_in y.ty ≡ Some t → t ≡ declared_id s (type_part d) (value_part d)
      declared-written t e g =
          sym (ap id_or_zero (ap (λ u. id_in (own_type u)) (sym seen) ∙ g))
          ∙ sym (ap (λ c. cond c (id_or_zero (id_in (own_type w))) (id_or_zero (default_in s (own_type x)))) (sym told ∙ e))
          ∙ declared-seen

      pub declared-default : (t : ℕ) → b ≡ false → default_in s (own_type x) ≡ Some t → t ≡ declared_id s (type_part d) (value_part d)
      declared-default t e g =
          sym (ap id_or_zero g)
          ∙ sym (ap (λ c. cond c (id_or_zero (id_in (own_type w))) (id_or_zero (default_in s (own_type x)))) (sym told ∙ e))
          ∙ declared-seen

  -- the value is the last kid
  pub last-slices : (i : ℕ) (t : TypedNode) → IsTrue (is_global (kind_of d)) → i + 1 ≡ length ks → slice_get ks i ≡ Some t
      → slices_under s t ≡ slices_in s d
  last-slices i t g l e =
      ap (sum_by (own_slice s)) (sym (append-nil (check_order t))
      ∙ sym (ap (flat_map check_order) (ap body_of (sym v) ∙ ap last_of (listed-typed ks) ∙ last-get ks i t l e))
      ∙ sym (numbered-global (kind_of d) d g))
      ∙ sym (filtered s (numbered d))

-- ---- all declarations

pub one-more : (f : TypedNode → ℕ) (ds : List TypedNode) (i : ℕ) (d : TypedNode) (n : ℕ) (now new : List ℕ) → slice_get ds i ≡ Some d
    → n ≡ f d
    → new ≡ now ++ n ∷ [] → now ≡ map f (take i ds) → new ≡ map f (take (i + 1) ds)
one-more f ds i d n now new e g h w =
    h ∙ ap (λ z. z ++ n ∷ []) w ∙ ap (λ z. map f (take i ds) ++ z ∷ []) g ∙ sym (ap (map f) (take-get ds i d e) ∙ map_push f (take i ds) d)

pub are-bytes : (s : Store) (ds : List TypedNode) (i : ℕ) (bs : List ℕ) → length ds ≤ i → bs ≡ map (told_bytes s) (take i ds)
    → AreBytes s ds bs
are-bytes s ds i bs h e = λ k d g.
    ap (λ xs. slice_get xs k) (e ∙ ap (map (told_bytes s)) (take_all i ds h)) ∙ slice_get-map (told_bytes s) ds k
    ∙ ap (option_map (told_bytes s)) g
