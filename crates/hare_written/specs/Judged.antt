-- What is said of parts of a written type that have been judged, behind so many nodes.
use Rattle.std.specs.Prelude.{◌≡◌, ℕ, ◌≤◌, List, [], ◌∷◌, ◌++◌, map, take, drop, length, Ok}
use Rattle.hare_tree.specs.declared.kind.Kind.TheVariants as ki
use Rattle.hare_tree.specs.declared.place.Fault.{Fault}
use Rattle.hare_tree.specs.declared.stop.Stop.{Stop}
use Rattle.hare_tree.specs.declared.stop.Stop.TheVariants.{Fault as Refused}
use Rattle.hare_tree.specs.Node.{Head, Node, Nodes, head, kids_of, nodes_of}
use Rattle.hare_types.specs.declared.coercion.Coercion.{Coercion}
use Rattle.hare_types.specs.Store.{Store}
use Rattle.hare_types.specs.Later.{IsLater}
use Rattle.hare_modules.specs.Uses.{place_of}
use Rattle.hare_seen.specs.Seen.{MeasuresTheSame}
use Rattle.hare_seen.specs.Sizes.{FitsNode, too_large}
use Rattle.hare_typed.specs.Typed.{TypedNode, typed_nodes}
use Rattle.hare_typed.specs.Erased.{erase}
use Rattle.hare_typed.specs.Order.{check_order, tree_from_front}
use Rattle.hare_rules.specs.Context.{Setting, Role, Length, own_type}
use Rattle.hare_rules.specs.Above.{Above}
use Rattle.hare_rules.specs.Finished.{bare}
use Rattle.hare_inference.specs.Inferred.{found, infer, infer_each}
use Rattle.hare_walk.specs.Walks.{Each, IsStop}
use Rattle.rule_judge.specs.Defined.{IsDefinedTy}
use Rattle.rule_types.specs.Known.{IsKnownPart, AreKnownParts}
use Rattle.hare_written.specs.Nodes.{nodes_in, StandsIn, IsFirst, coercions_of, seen_of, HasOwn, HaveOwn}

-- the fault of a node that is too large
abbrev pub large_stop : TypedNode → Stop Fault
large_stop y = Refused (too_large (place_of (erase y)))

-- The tree of a node with this role. In each later store in which each of its nodes fits, it is what is inferred; in each other one
-- inference stops at the first that is too large.
pub record IsJudged (w : Store → Setting) (s : Store) (r : Role) (t : Node) (n : ℕ) (x : TypedNode) : Type 0 where
  pub erases : erase x ≡ t
  pub plain : bare x ≡ x
  pub own : (cs : List Coercion) → length cs ≡ n → HasOwn (cs ++ coercions_of (check_order x)) x
  pub stands : Each (StandsIn s) (check_order x)
  pub fits : Each (FitsNode s) (check_order x)
  pub known : IsKnownPart s x
  pub counted : r ≡ Length → IsDefinedTy s (own_type x)
  pub infers :
      (f : Store) → IsLater s f → Each (FitsNode f) (check_order x) → (a : Above) (cs : List Coercion) → a.inside.role ≡ r → length cs ≡ n →
      infer (w f) a t (seen_of cs) ≡ Ok (found x (seen_of (cs ++ coercions_of (check_order x))))
  pub large :
      (f : Store) (y : TypedNode) → IsLater s f → IsFirst f (check_order x) y → (a : Above) (cs : List Coercion) → a.inside.role ≡ r →
      length cs ≡ n →
      IsStop (large_stop y) (infer (w f) a t (seen_of cs))

-- Where inference stops there in each later store that knows no more of the bytes of types.
abbrev pub IsStopped : (Store → Setting) → Store → Role → Node → ℕ → Stop Fault → Type 0
IsStopped w s r t n e =
    (f : Store) → IsLater s f → MeasuresTheSame s f → (a : Above) (cs : List Coercion) → a.inside.role ≡ r → length cs ≡ n →
    IsStop e (infer (w f) a t (seen_of cs))

-- The same of the first kids of a node with this head, which has these.
pub record AreJudged (w : Store → Setting) (s : Store) (h : Head) (ts : List Node) (n : ℕ) (xs : List TypedNode) : Type 0 where
  pub erases : map erase xs ≡ take (length xs) ts
  pub plain : map bare xs ≡ xs
  pub own : (cs : List Coercion) → length cs ≡ n → HaveOwn (cs ++ coercions_of (nodes_in xs)) (typed_nodes xs)
  pub stand : Each (StandsIn s) (nodes_in xs)
  pub fit : Each (FitsNode s) (nodes_in xs)
  pub known : AreKnownParts s xs
  pub counted : h.kind ≡ ki.TypeArray → IsDefinedTy s (own_type (tree_from_front 0 xs))
  pub infers :
      (f : Store) → IsLater s f → Each (FitsNode f) (nodes_in xs) → (a : Above) (cs : List Coercion) → length cs ≡ n →
      infer_each (w f) a h [] (nodes_of ts) (seen_of cs)
      ≡ infer_each (w f) a h xs (nodes_of (drop (length xs) ts)) (seen_of (cs ++ coercions_of (nodes_in xs)))
  pub large :
      (f : Store) (y : TypedNode) → IsLater s f → IsFirst f (nodes_in xs) y → (a : Above) (cs : List Coercion) → length cs ≡ n →
      IsStop (large_stop y) (infer_each (w f) a h [] (nodes_of ts) (seen_of cs))

-- and of all
pub record AreAllJudged (w : Store → Setting) (s : Store) (t : Node) (n : ℕ) (xs : List TypedNode) : Type 0 where
  pub trees : List Node
  pub kids : kids_of t ≡ nodes_of trees
  pub many : length trees ≤ length xs
  pub judged : AreJudged w s (head t) trees n xs

abbrev pub AreStopped : (Store → Setting) → Store → Node → ℕ → Stop Fault → Type 0
AreStopped w s t n e =
    (f : Store) → IsLater s f → MeasuresTheSame s f → (a : Above) (cs : List Coercion) → length cs ≡ n →
    IsStop e (infer_each (w f) a (head t) [] (kids_of t) (seen_of cs))
