-- The numbers of labels, and what is settled late of a node.
use Rattle.std.proofs.Common.{◌≡◌, ◌≢◌, ℕ, zero, suc, ◌+◌, ◌<◌, List, [], ◌∷◌, ◌++◌, length, refl, ap, ◌∙◌, Some, arith}
use Rattle.std.specs.Prelude.{slice_get, slice_set, All}
use Rattle.hare_tree.specs.Node.{Head, Node, Nodes}
use Rattle.hare_types.specs.declared.coercion.Coercion.{Coercion}
use Rattle.hare_typed.specs.Typed.{TypedNode, TypedNodes, Mark, marked, typed_none, typed_more, listed_nodes}
use Rattle.hare_typed.specs.Erased.{erase, erase_each}
use Rattle.hare_rules.specs.Context.{Setting}
use Rattle.hare_rules.specs.Above.{Above, over_kid, trees_in, trees_in_each, trees_of, number_above}
use Rattle.hare_rules.specs.Settles.{Settled}
use Rattle.hare_rules.specs.Flow.{Flow, count, write_each, all_settled}
use Rattle.hare_rules.specs.Finished.{bare_each, behind_each, AllCarry}
use Rattle.hare_inference.specs.Laws.{NumbersAreOrder, CoercionsAreSettled}
use Rattle.hare_inference.proofs.Orders.{length-check_order, length-write_each, length-all_settled, count-behind, count-behind_each, numbered}
use Rattle.hare_inference.proofs.Bares.{erase-bare}

-- ---- numbers

pub trees_of-bare_each : (ts : TypedNodes) → trees_of (bare_each ts) ≡ trees_in_each (erase_each ts)
trees_of-bare_each typed_none = refl
trees_of-bare_each (typed_more t ts) = rw (erase-bare t, trees_of-bare_each ts) refl

trees_of-listed_nodes : (ts : TypedNodes) → trees_of (listed_nodes ts) ≡ trees_in_each (erase_each ts)
trees_of-listed_nodes typed_none = refl
trees_of-listed_nodes (typed_more t ts) = rw (trees_of-listed_nodes ts) refl

trees_of-append : (xs ys : List TypedNode) → trees_of (xs ++ ys) ≡ trees_of xs + trees_of ys
trees_of-append [] ys = omega arith
trees_of-append (x ∷ xs) ys = omega (arith, trees_of-append xs ys)

begins : (w : Setting) (a : Above) (h : Head) (ts : TypedNodes) (f : Flow) (t : Node) (rest : Nodes) → a.begins ≡ count f →
    (over_kid w a h (bare_each ts) t rest).begins ≡ count (behind_each w a h [] ts f)
begins w a h ts f t rest e = omega (arith, e, trees_of-bare_each ts, count-behind_each w a h [] ts f)

labels : (w : Setting) (a : Above) (h : Head) (m : Mark) (ts us : TypedNodes) (t : TypedNode) (rest : TypedNodes) (f : Flow) →
    AllCarry w a (marked h m ts) f → a.begins ≡ count f → listed_nodes ts ≡ listed_nodes us ++ t ∷ listed_nodes rest →
    number_above a (bare_each us) (erase t) (erase_each rest) ≡ m.node
labels w a h m ts us t rest f k e s =
    let p : trees_of (listed_nodes ts) ≡ trees_of (listed_nodes us) + (trees_in (erase t) + trees_of (listed_nodes rest)) =
    ap trees_of s ∙ trees_of-append (listed_nodes us) (t ∷ listed_nodes rest) in
    omega (
      arith,
      e,
      p,
      k.1.node,
      trees_of-bare_each us,
      trees_of-listed_nodes ts,
      trees_of-listed_nodes us,
      trees_of-listed_nodes rest,
      count-behind_each w a h [] ts f,
    )

pub numbers : NumbersAreOrder
numbers w a f =
    record {
      numbers = λ t k. numbered w a t f k;
      nodes = length-check_order;
      behind_tree = λ t. count-behind w a t f;
      begins = λ h ts t rest. begins w a h ts f t rest;
      labels = λ h m ts us t rest. labels w a h m ts us t rest f;
    }

-- ---- coercions

slice_get-set_same : {A : Type 0} (xs : List A) (i : ℕ) (x : A) → i < length xs → slice_get (slice_set xs i x) i ≡ Some x
slice_get-set_same [] i x h = absurd (omega arith)
slice_get-set_same (y ∷ ys) zero x h = refl
slice_get-set_same (y ∷ ys) (suc i) x h = slice_get-set_same ys i x (omega arith)

slice_get-set_other : {A : Type 0} (xs : List A) (i j : ℕ) (x : A) → i ≢ j → slice_get (slice_set xs i x) j ≡ slice_get xs j
slice_get-set_other [] i j x h = refl
slice_get-set_other (y ∷ ys) zero zero x h = absurd (h refl)
slice_get-set_other (y ∷ ys) zero (suc j) x h = refl
slice_get-set_other (y ∷ ys) (suc i) zero x h = refl
slice_get-set_other (y ∷ ys) (suc i) (suc j) x h = slice_get-set_other ys i j x (λ e. h (ap suc e))

write_each-append : (xs ys : List Settled) (cs : List Coercion) → write_each (xs ++ ys) cs ≡ write_each ys (write_each xs cs)
write_each-append [] ys cs = refl
write_each-append (x ∷ xs) ys cs = write_each-append xs ys (slice_set cs x.node x.coercion)

write_each-other : (xs : List Settled) (cs : List Coercion) (n : ℕ) → All (λ (x : Settled). x.node ≢ n) xs →
    slice_get (write_each xs cs) n ≡ slice_get cs n
write_each-other [] cs n h = refl
write_each-other (x ∷ xs) cs n h =
    let p : x.node ≢ n = h 0 x (omega arith) in
    let q : All (λ (y : Settled). y.node ≢ n) xs = λ k d l. h (suc k) d (omega arith) in
    write_each-other xs (slice_set cs x.node x.coercion) n q ∙ slice_get-set_other cs x.node n x.coercion p

late : (f : Flow) (before after : List Settled) (s : Settled) → f.late ≡ before ++ s ∷ after → s.node < count f →
    All (λ (x : Settled). x.node ≢ s.node) after → slice_get (all_settled f) s.node ≡ Some s.coercion
late f before after s e h k =
    let cs = write_each before f.coercions in
    let n : s.node < length cs = omega (arith, h, length-write_each before f.coercions) in
    ap (λ xs. slice_get (write_each xs f.coercions) s.node) e
    ∙ ap (λ rs. slice_get rs s.node) (write_each-append before (s ∷ after) f.coercions)
    ∙ write_each-other after (slice_set cs s.node s.coercion) s.node k
    ∙ slice_get-set_same cs s.node s.coercion n

pub settled : CoercionsAreSettled
settled = record { each = length-all_settled; late = late }
