-- What the trees of declarations list, by the lists that the code reads them from.
use Rattle.std.proofs.Common.{◌≡◌, ℕ, zero, suc, ◌+◌, ◌<◌, Bool, true, false, List, [], ◌∷◌, ◌++◌, length, Some, refl, sym, ap, ◌∙◌, arith, append_assoc}
use Rattle.std.specs.Prelude.{slice_get, flat_map}
use Rattle.std.specs.Cmp.{unsigned_Decides}
use Rattle.std.proofs.lemmas.List.{append-nil}
use Rattle.std.proofs.lemmas.Grind.{flat_map-append}
use Rattle.std.proofs.lemmas.Option.{slice_get_within}
use Rattle.hare_tree.specs.declared.kind.Kind.{Kind}
use Rattle.hare_tree.specs.declared.kind.Kind.TheVariants as ki
use Rattle.hare_tree.specs.Node.{Head}
use Rattle.hare_types.specs.declared.row.Row.{Row}
use Rattle.hare_types.specs.declared.row.Row.TheVariants as row
use Rattle.hare_types.specs.Bases.{IsBaseOf}
use Rattle.hare_types.specs.ByIds.{row_at}
use Rattle.hare_types.specs.Sound.{IsStore}
use Rattle.hare_types.specs.Store.{Store}
use Rattle.hare_types.proofs.IdLemmas.{row_of_tree, id_tells}
use Rattle.hare_typed.specs.Typed.{TypedNode, Mark, marked, mark_of, typed_nodes, listed_nodes}
use Rattle.hare_typed.specs.Order.{check_order, check_order_each}
use Rattle.hare_typed.specs.Numbers.{kind_of, body_of, last_of}
use Rattle.hare_rules.specs.Words.{nomem}
use Rattle.hare_whole.specs.Tags.{written_in, written_among, allocated_by, allocated_in, nomem_id, bodies_by}
use Rattle.hare_tags.specs.Lists.{is_function, is_nomem_row, allocated_among, body_types}

-- ---- rows

-- a type that has a base is in the store
pub based_within : (s : Store) (t b : ℕ) → IsBaseOf s t b → t < length s.rows
based_within s t b is = let row = row_of_tree s t is.0 is.2 in slice_get_within s.rows t row.0 row.1

-- its row tells `rt::nomem`
pub nomem-there : (s : Store) → IsStore s → (t : ℕ) (r : Row) (b : Bool) → row_at s t ≡ Some r → b ≡ is_nomem_row r → b ≡ true
    → nomem_id s ≡ Some t
nomem-there s v t (row.Named d) b e f g =
    let same : d ≡ nomem = (unsigned_Decides d nomem).0 (sym f ∙ g) in
    (id_tells s v (row.Named nomem) t).1 (e ∙ ap (λ n. Some (row.Named n)) same)
nomem-there s v t _ b e f g = absurd cc

-- ---- trees

pub written-step : (s : Store) (b : Bool) (t : TypedNode) (ts : List TypedNode)
    → written_among s b (typed_nodes (t ∷ ts)) ≡ written_in s b t ++ written_among s b (typed_nodes ts)
written-step s b t ts = refl

-- declarations stand in no union
pub written-all : (s : Store) (ds : List TypedNode) → written_among s false (typed_nodes ds) ≡ flat_map (written_in s false) ds
written-all s [] = refl
written-all s (d ∷ ds) = ap (λ us. written_in s false d ++ us) (written-all s ds)

pub allocated-step : (s : Store) (t : TypedNode) (ts : List TypedNode)
    → allocated_among s (typed_nodes (t ∷ ts)) ≡ allocated_in s t ++ allocated_among s (typed_nodes ts)
allocated-step s t ts = flat_map-append (λ u. allocated_by s (kind_of u) (mark_of u).ty) (check_order t) (check_order_each (typed_nodes ts))

-- what stands in a tree, and then the tree
pub allocated-tree : (s : Store) (h : Head) (m : Mark) (ks : List TypedNode) (t : TypedNode) (now mid new : List ℕ)
    → marked h m (typed_nodes ks) ≡ t
    → mid ≡ now ++ allocated_among s (typed_nodes ks) → new ≡ mid ++ allocated_by s h.kind m.ty → new ≡ now ++ allocated_in s t
allocated-tree s h m ks t now mid new v e f =
    let own = allocated_by s h.kind m.ty in
    let inner = allocated_among s (typed_nodes ks) in
    f ∙ ap (λ z. z ++ own) e ∙ append_assoc now inner own
    ∙ ap (λ z. now ++ (inner ++ z)) (sym (append-nil own))
    ∙ ap (λ z. now ++ z) (sym (flat_map-append (λ u. allocated_by s (kind_of u) (mark_of u).ty) (check_order_each (typed_nodes ks))
    (marked h m (typed_nodes ks) ∷ [])))
    ∙ ap (λ z. now ++ allocated_in s z) v

-- ---- bodies

no-elements : (ts : List TypedNode) → length ts ≡ 0 → ts ≡ []
no-elements [] e = refl
no-elements (t ∷ ts) e = absurd (omega (arith, e))

last-get : (ts : List TypedNode) (i : ℕ) (t : TypedNode) → i + 1 ≡ length ts → slice_get ts i ≡ Some t → last_of ts ≡ t ∷ []
last-get [] i t e g = absurd cc
last-get (u ∷ []) zero t e g = let k : u ≡ t = cc in ap (λ x. x ∷ []) k
last-get (u ∷ []) (suc i) t e g = absurd cc
last-get (u ∷ v ∷ ts) zero t e g = absurd (omega arith)
last-get (u ∷ v ∷ ts) (suc i) t e g = last-get (v ∷ ts) i t (omega arith) g

listed-typed : (ts : List TypedNode) → listed_nodes (typed_nodes ts) ≡ ts
listed-typed [] = refl
listed-typed (t ∷ ts) = ap (λ us. t ∷ us) (listed-typed ts)

body-seen : (h : Head) (m : Mark) (ks : List TypedNode) (t : TypedNode) → marked h m (typed_nodes ks) ≡ t → body_of t ≡ last_of ks
body-seen h m ks t v = ap body_of (sym v) ∙ ap last_of (listed-typed ks)

bodies-of-other : (k : Kind) (d : TypedNode) → is_function k ≡ false → bodies_by k d ≡ []
bodies-of-other ki.Fn d e = absurd cc
bodies-of-other _ d e = refl

bodies-of-function : (k : Kind) (d : TypedNode) → is_function k ≡ true → bodies_by k d ≡ body_of d
bodies-of-function ki.Fn d e = refl
bodies-of-function _ d e = absurd cc

module _ (s : Store) (h : Head) (m : Mark) (ks : List TypedNode) (d : TypedNode) (v : marked h m (typed_nodes ks) ≡ d) where
  kind-seen : h.kind ≡ kind_of d
  kind-seen = ap kind_of v

  -- what is no function has no body
  pub other-body : (now : List ℕ) → is_function h.kind ≡ false → now ≡ now ++ body_types s d
  other-body now e =
      let none : bodies_by (kind_of d) d ≡ [] = bodies-of-other (kind_of d) d (ap is_function (sym kind-seen) ∙ e) in
      sym (append-nil now) ∙ ap (λ us. now ++ flat_map (allocated_in s) us) (sym none)

  module _ (e : is_function h.kind ≡ true) where
    bodies : bodies_by (kind_of d) d ≡ last_of ks
    bodies = bodies-of-function (kind_of d) d (ap is_function (sym kind-seen) ∙ e) ∙ body-seen h m ks d v

    pub no-body : (now : List ℕ) → length ks ≡ 0 → now ≡ now ++ body_types s d
    no-body now l = sym (append-nil now) ∙ ap (λ us. now ++ flat_map (allocated_in s) us) (sym (bodies ∙ ap last_of (no-elements ks l)))

    pub last-body : (i : ℕ) (body : TypedNode) → i + 1 ≡ length ks → slice_get ks i ≡ Some body → allocated_in s body ≡ body_types s d
    last-body i body l g =
        sym (append-nil (allocated_in s body)) ∙ ap (flat_map (allocated_in s)) (sym (bodies ∙ last-get ks i body l g))
