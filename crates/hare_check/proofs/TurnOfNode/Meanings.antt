-- What the names say of the path of a node does not rest on the coercions of its kids.
use Rattle.std.proofs.Common.{◌≡◌, List, [], ◌∷◌, map, refl, ap, ◌∙◌}
use Rattle.hare_tree.specs.declared.kind.Kind.TheVariants as ki
use Rattle.hare_tree.specs.Node.{Head}
use Rattle.hare_typed.specs.Order.{tree_from_front}
use Rattle.hare_typed.specs.Typed.{TypedNode, marked, mark_of}
use Rattle.hare_rules.specs.Aggregates.{callee_meaning}
use Rattle.hare_rules.specs.Context.{Setting}
use Rattle.hare_rules.specs.Finished.{bare}
use Rattle.hare_rules.specs.Flow.{path_meaning}

pub callee-bare : (xs : List TypedNode) → callee_meaning (tree_from_front 0 (map bare xs)) ≡ callee_meaning (tree_from_front 0 xs)
callee-bare [] = refl
callee-bare (marked h m ts ∷ xs) = refl

pub first-bare : (xs : List TypedNode) → (mark_of (tree_from_front 0 (map bare xs))).meaning ≡ (mark_of (tree_from_front 0 xs)).meaning
first-bare [] = refl
first-bare (marked h m ts ∷ xs) = refl

pub call_meaning : (w : Setting) (h : Head) (xs : List TypedNode) → h.kind ≡ ki.Call →
    path_meaning w h h.kind (map bare xs) ≡ callee_meaning (tree_from_front 0 xs)
call_meaning w h xs e = ap (λ k. path_meaning w h k (map bare xs)) e ∙ callee-bare xs

pub literal_meaning : (w : Setting) (h : Head) (xs : List TypedNode) → h.kind ≡ ki.StructLit →
    path_meaning w h h.kind (map bare xs) ≡ (mark_of (tree_from_front 0 xs)).meaning
literal_meaning w h xs e = ap (λ k. path_meaning w h k (map bare xs)) e ∙ first-bare xs
