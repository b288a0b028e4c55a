-- The costs of a node rest on its own mark and on what its kids give, and copies on the untyped tree alone.
use Rattle.std.proofs.Common.{◌≡◌, ℕ, zero, suc, ◌+◌, ◌*◌, max, Bool, true, false, cond, not, List, [], ◌∷◌, ◌++◌, length, map, refl, ap, ap₂, sym, ◌∙◌, arith, if◌then◌else◌}
use Rattle.std.specs.Prelude.{filter, flat_map}
use Rattle.std.proofs.lemmas.List.{map-append}
use Rattle.hare_tree.specs.declared.kind.Kind.{Kind}
use Rattle.hare_tree.specs.declared.kind.Kind.TheVariants as kind
use Rattle.hare_tree.specs.Node.{Node, branch, head}
use Rattle.hare_types.specs.declared.coercion.Ty.{Ty}
use Rattle.hare_types.specs.Store.{Store}
use Rattle.hare_typed.specs.Typed.{TypedNode, TypedNodes, marked, typed_none, typed_more, kids_of, listed_nodes}
use Rattle.hare_typed.specs.Erased.{erase, erase_each}
use Rattle.hare_typed.specs.Order.{tree_from_front}
use Rattle.hare_typed.specs.Numbers.{kind_of, is_param, params_among, last_of, body_of, parameters_of}
use Rattle.hare_typed.specs.Given.{given, first_given, second_given, is_str, members_in, size_in, followed, element}
use Rattle.hare_typed.specs.Weight.{weight_of, begins_with, coerced, handled, count, items_of, passed}
use Rattle.hare_typed.specs.Copies.{Copied, way_of, exit_by, ends_at, exits, exits_each, copied, copied_each, counted_by, once, has_defers, inner_copies, deferred_copies}
use Rattle.hare_typed.specs.Frame.{node_size, bound_size, turn_size, by_reference, first_of, size_of_element}
use Rattle.hare_typed.specs.CostLaws.{SameAbove, CostsAreOfMarks}

-- ---- what kids give

abbrev givens : TypedNodes → List Ty
givens ts = map given (listed_nodes ts)

first-same : (ts us : TypedNodes) → givens ts ≡ givens us → first_given ts ≡ first_given us
first-same typed_none typed_none e = refl
first-same typed_none (typed_more u us) e = cc
first-same (typed_more t ts) typed_none e = cc
first-same (typed_more t ts) (typed_more u us) e = cc

second-same : (ts us : TypedNodes) → givens ts ≡ givens us → second_given ts ≡ second_given us
second-same typed_none typed_none e = refl
second-same typed_none (typed_more u us) e = cc
second-same (typed_more t ts) typed_none e = cc
second-same (typed_more t ts) (typed_more u us) e = let r : givens ts ≡ givens us = cc in first-same ts us r

count-same : (ts us : TypedNodes) → givens ts ≡ givens us → count ts ≡ count us
count-same typed_none typed_none e = refl
count-same typed_none (typed_more u us) e = cc
count-same (typed_more t ts) typed_none e = cc
count-same (typed_more t ts) (typed_more u us) e = let r : givens ts ≡ givens us = cc in ap (λ n. 1 + n) (count-same ts us r)

-- ---- weights

begins-same : (s : Store) (k : Kind) (ts us : TypedNodes) → first_given ts ≡ first_given us → begins_with s k ts ≡ begins_with s k us
begins-same s kind.Equal ts us e = ap (λ t. if is_str s t then 4 else 1) e
begins-same s kind.Slice ts us e = refl
begins-same s kind.ForEach ts us e = refl
begins-same s kind.Alloc ts us e = refl
begins-same s kind.Free ts us e = refl
begins-same s kind.Append ts us e = refl
begins-same s kind.Delete ts us e = refl
begins-same s _ ts us e = refl

handled-same : (s : Store) (k : Kind) (ts us : TypedNodes) → first_given ts ≡ first_given us → handled s k ts ≡ handled s k us
handled-same s kind.As ts us e = ap (members_in s) e
handled-same s kind.Is ts us e = ap (members_in s) e
handled-same s kind.Match ts us e = ap (members_in s) e
handled-same s kind.Try ts us e = ap (members_in s) e
handled-same s kind.Force ts us e = ap (members_in s) e
handled-same s _ ts us e = refl

items-same : (k : Kind) (ts us : TypedNodes) → count ts ≡ count us → items_of k ts ≡ items_of k us
items-same kind.StructLit ts us e = omega arith
items-same kind.Tuple ts us e = omega arith
items-same kind.Array ts us e = omega arith
items-same _ ts us e = refl

passed-same : (s : Store) (k : Kind) (ts us : TypedNodes) → first_given ts ≡ first_given us → passed s k ts ≡ passed s k us
passed-same s kind.Field ts us e = ap (followed s) e
passed-same s kind.Index ts us e = ap (followed s) e
passed-same s kind.Slice ts us e = ap (followed s) e
passed-same s _ ts us e = refl

sums : {a1 a2 b1 b2 c1 c2 d1 d2 e1 e2 : ℕ} → a1 ≡ a2 → b1 ≡ b2 → c1 ≡ c2 → d1 ≡ d2 → e1 ≡ e2 →
    a1 + b1 + c1 + d1 + e1 ≡ a2 + b2 + c2 + d2 + e2
sums a b c d e = omega arith

weights-same : (s : Store) (t u : TypedNode) → SameAbove t u → weight_of s t ≡ weight_of s u
weights-same s (marked h m ts) (marked g n us) e =
    let tree : branch h (erase_each ts) ≡ branch g (erase_each us) = e.trees in
    let k : h ≡ g = cc in
    let first = first-same ts us e.kids_give in
    ap (λ x. weight_of s (marked x m ts)) k
    ∙ sums (begins-same s g.kind ts us first) (ap (coerced s) e.coercions) (handled-same s g.kind ts us first)
    (items-same g.kind ts us (count-same ts us e.kids_give)) (passed-same s g.kind ts us first)

-- ---- sizes

kind-same : (t u : TypedNode) → erase t ≡ erase u → kind_of t ≡ kind_of u
kind-same (marked h m ts) (marked g n us) e = ap (λ x. (head x).kind) e

first_of-same : (ts us : TypedNodes) → erase_each ts ≡ erase_each us → erase (first_of ts) ≡ erase (first_of us)
first_of-same typed_none typed_none e = refl
first_of-same typed_none (typed_more u us) e = cc
first_of-same (typed_more t ts) typed_none e = cc
first_of-same (typed_more t ts) (typed_more u us) e = cc

by_reference-same : (t u : TypedNode) → erase t ≡ erase u → by_reference t ≡ by_reference u
by_reference-same (marked h m ts) (marked g n us) e =
    let k : branch h (erase_each ts) ≡ branch g (erase_each us) = e in
    let r : erase_each ts ≡ erase_each us = cc in
    kind-same (first_of ts) (first_of us) (first_of-same ts us r)

turn-same : (s : Store) (k : Kind) (ts us : TypedNodes) → second_given ts ≡ second_given us → turn_size s k ts ≡ turn_size s k us
turn-same s kind.ByRef ts us e = refl
turn-same s _ ts us e = ap (λ t. size_of_element s (element s t)) e

bound-same : (s : Store) (k : Kind) (ts us : TypedNodes) → erase_each ts ≡ erase_each us → givens ts ≡ givens us →
    bound_size s k ts ≡ bound_size s k us
bound-same s kind.Let ts us e f = ap (size_in s) (second-same ts us f)
bound-same s kind.Const ts us e f = ap (size_in s) (second-same ts us f)
bound-same s kind.Param ts us e f = ap (size_in s) (first-same ts us f)
bound-same s kind.PatternLet ts us e f = ap (size_in s) (first-same ts us f)
bound-same s kind.ForEach ts us e f =
    ap (λ k. turn_size s k ts) (by_reference-same (first_of ts) (first_of us) (first_of-same ts us e))
    ∙ turn-same s (by_reference (first_of us)) ts us (second-same ts us f)
bound-same s _ ts us e f = refl

sizes-same : (s : Store) (t u : TypedNode) → SameAbove t u → node_size s t ≡ node_size s u
sizes-same s (marked h m ts) (marked g n us) e =
    let tree : branch h (erase_each ts) ≡ branch g (erase_each us) = e.trees in
    let k : h ≡ g = cc in
    let r : erase_each ts ≡ erase_each us = cc in
    ap (λ x. node_size s (marked x m ts)) k
    ∙ ap (λ x. max (size_in s x) (max (size_in s m.coerce.to) (bound_size s g.kind ts))) e.types
    ∙ ap (λ x. max (size_in s n.ty) (max (size_in s x.to) (bound_size s g.kind ts))) e.coercions
    ∙ ap (λ x. max (size_in s n.ty) (max (size_in s n.coerce.to) x)) (bound-same s g.kind ts us r e.kids_give)

-- ---- copies

mutual
  exits-same : (t u : TypedNode) → erase t ≡ erase u → exits t ≡ exits u
  exits-same (marked h m ts) (marked g n us) e =
      let k : h ≡ g = cc in
      let r : erase_each ts ≡ erase_each us = cc in
      ap (λ x. filter (λ y. not (ends_at x.kind x.text y)) (exit_by (way_of x.kind) x.text ++ exits_each ts)) k
      ∙ ap (λ x. filter (λ y. not (ends_at g.kind g.text y)) (exit_by (way_of g.kind) g.text ++ x)) (exits_each-same ts us r)

  exits_each-same : (ts us : TypedNodes) → erase_each ts ≡ erase_each us → exits_each ts ≡ exits_each us
  exits_each-same typed_none typed_none e = refl
  exits_each-same typed_none (typed_more u us) e = cc
  exits_each-same (typed_more t ts) typed_none e = cc
  exits_each-same (typed_more t ts) (typed_more u us) e =
      let k : erase t ≡ erase u = cc in
      let r : erase_each ts ≡ erase_each us = cc in
      ap₂ (λ a b. a ++ b) (exits-same t u k) (exits_each-same ts us r)

abbrev times_at : Copied → ℕ
times_at x = x.times

mutual
  times-same : (own deferred : ℕ) (t u : TypedNode) → erase t ≡ erase u →
      map times_at (copied own deferred t) ≡ map times_at (copied own deferred u)
  times-same own deferred (marked h m ts) (marked g n us) e =
      let k : h ≡ g = cc in
      let r : erase_each ts ≡ erase_each us = cc in
      ap (λ x. map times_at (copied own deferred (marked x m ts))) k
      ∙ map-append times_at (copied_each (has_defers g.kind) (inner_copies g.kind own deferred) ts)
      (record { tree = marked g m ts; times = own } ∷ [])
      ∙ ap (λ x. x ++ own ∷ []) (times_each-same (has_defers g.kind) (inner_copies g.kind own deferred) ts us r)
      ∙ sym (map-append times_at (copied_each (has_defers g.kind) (inner_copies g.kind own deferred) us)
      (record { tree = marked g n us; times = own } ∷ []))

  times_each-same : (b : Bool) (own : ℕ) (ts us : TypedNodes) → erase_each ts ≡ erase_each us →
      map times_at (copied_each b own ts) ≡ map times_at (copied_each b own us)
  times_each-same b own typed_none typed_none e = refl
  times_each-same b own typed_none (typed_more u us) e = cc
  times_each-same b own (typed_more t ts) typed_none e = cc
  times_each-same b own (typed_more t ts) (typed_more u us) e =
      let k : erase t ≡ erase u = cc in
      let r : erase_each ts ≡ erase_each us = cc in
      let d = if b then deferred_copies own ts else own in
      let c = if b then deferred_copies own us else own in
      let same : d ≡ c = ap (λ x. if b then own * suc (length x) else own) (exits_each-same ts us r) in
      map-append times_at (copied own d t) (copied_each b own ts)
      ∙ ap₂ (λ x y. x ++ y) (times-same own d t u k ∙ ap (λ x. map times_at (copied own x u)) same) (times_each-same b own ts us r)
      ∙ sym (map-append times_at (copied own c u) (copied_each b own us))

-- ---- declarations

abbrev erased : List TypedNode → List Node
erased ts = map erase ts

listed-same : (ts us : TypedNodes) → erase_each ts ≡ erase_each us → erased (listed_nodes ts) ≡ erased (listed_nodes us)
listed-same typed_none typed_none e = refl
listed-same typed_none (typed_more u us) e = cc
listed-same (typed_more t ts) typed_none e = cc
listed-same (typed_more t ts) (typed_more u us) e =
    let k : erase t ≡ erase u = cc in
    let r : erase_each ts ≡ erase_each us = cc in
    ap₂ (λ x y. x ∷ y) k (listed-same ts us r)

kids-same : (t u : TypedNode) → erase t ≡ erase u → erase_each (kids_of t) ≡ erase_each (kids_of u)
kids-same (marked h m ts) (marked g n us) e =
    let k : branch h (erase_each ts) ≡ branch g (erase_each us) = e in
    cc

last-same : (ts us : List TypedNode) → erased ts ≡ erased us →
    map times_at (flat_map (copied 1 1) (last_of ts)) ≡ map times_at (flat_map (copied 1 1) (last_of us))
last-same [] [] e = refl
last-same [] (u ∷ us) e = cc
last-same (t ∷ ts) [] e = cc
last-same (t ∷ []) (u ∷ []) e =
    let k : erase t ≡ erase u = cc in
    map-append times_at (copied 1 1 t) [] ∙ ap (λ x. x ++ []) (times-same 1 1 t u k) ∙ sym (map-append times_at (copied 1 1 u) [])
last-same (t ∷ []) (u ∷ v ∷ vs) e = cc
last-same (t ∷ w ∷ ws) (u ∷ []) e = cc
last-same (t ∷ w ∷ ws) (u ∷ v ∷ vs) e = let r : erased (w ∷ ws) ≡ erased (v ∷ vs) = cc in last-same (w ∷ ws) (v ∷ vs) r

third-same : (n : ℕ) (ts us : List TypedNode) → erased ts ≡ erased us → erase (tree_from_front n ts) ≡ erase (tree_from_front n us)
third-same n [] [] e = refl
third-same n [] (u ∷ us) e = cc
third-same n (t ∷ ts) [] e = cc
third-same zero (t ∷ ts) (u ∷ us) e = cc
third-same (suc n) (t ∷ ts) (u ∷ us) e = let r : erased ts ≡ erased us = cc in third-same n ts us r

one-more : (b : Bool) (t : TypedNode) (ts : List TypedNode) →
    map times_at (map once (cond b (t ∷ []) [] ++ ts)) ≡ cond b (1 ∷ []) [] ++ map times_at (map once ts)
one-more true t ts = refl
one-more false t ts = refl

parameters-same : (ts us : TypedNodes) → erase_each ts ≡ erase_each us →
    map times_at (map once (params_among ts)) ≡ map times_at (map once (params_among us))
parameters-same typed_none typed_none e = refl
parameters-same typed_none (typed_more u us) e = cc
parameters-same (typed_more t ts) typed_none e = cc
parameters-same (typed_more t ts) (typed_more u us) e =
    let k : erase t ≡ erase u = cc in
    let r : erase_each ts ≡ erase_each us = cc in
    one-more (is_param (kind_of t)) t (params_among ts)
    ∙ ap₂ (λ x y. cond (is_param x) (1 ∷ []) [] ++ y) (kind-same t u k) (parameters-same ts us r)
    ∙ sym (one-more (is_param (kind_of u)) u (params_among us))

bodies-same : (t u : TypedNode) → erase t ≡ erase u →
    map times_at (flat_map (copied 1 1) (body_of t)) ≡ map times_at (flat_map (copied 1 1) (body_of u))
bodies-same t u e = last-same (listed_nodes (kids_of t)) (listed_nodes (kids_of u)) (listed-same (kids_of t) (kids_of u) (kids-same t u e))

counted-same : (k : Kind) (t u : TypedNode) → erase t ≡ erase u → map times_at (counted_by k t) ≡ map times_at (counted_by k u)
counted-same kind.Fn t u e =
    let params = third-same 2 (listed_nodes (kids_of t)) (listed_nodes (kids_of u))
    (listed-same (kids_of t) (kids_of u) (kids-same t u e)) in
    let third = λ (x : TypedNode). tree_from_front 2 (listed_nodes (kids_of x)) in
    map-append times_at (flat_map (copied 1 1) (body_of t)) (map once (parameters_of t))
    ∙ ap₂ (λ x y. x ++ y) (bodies-same t u e)
    (parameters-same (kids_of (third t)) (kids_of (third u)) (kids-same (third t) (third u) params))
    ∙ sym (map-append times_at (flat_map (copied 1 1) (body_of u)) (map once (parameters_of u)))
counted-same kind.Def t u e = bodies-same t u e
counted-same kind.GlobalLet t u e = bodies-same t u e
counted-same kind.GlobalConst t u e = bodies-same t u e
counted-same _ t u e = refl

pub costs_are_of_marks : CostsAreOfMarks
costs_are_of_marks = record {
  weights = weights-same;
  sizes = sizes-same;
  copies_kept = λ t u e. counted-same (kind_of t) t u e ∙ ap (λ k. map times_at (counted_by k u)) (kind-same t u e);
}
