-- Where no type in a node mentions a name that is not defined, none of its parts does.
use Rattle.std.proofs.Common.{Bool, true, false, List, [], ◌∷◌}
use Rattle.hare_tree.specs.declared.kind.Kind.{Kind}
use Rattle.hare_tree.specs.declared.kind.Kind.TheVariants as ki
use Rattle.hare_types.specs.Store.{Store}
use Rattle.hare_typed.specs.Typed.{TypedNode, marked, typed_none, typed_more, typed_nodes}
use Rattle.hare_typed.specs.Numbers.{kind_of}
use Rattle.hare_typed.specs.Order.{tree_from_front, kid_from_front}
use Rattle.hare_rules.specs.Context.{own_type}
use Rattle.hare_rules.specs.Written.{part_type_by, is_spread}
use Rattle.rule_judge.specs.Defined.{IsDefinedTy, IsDefinedTree, AreDefinedTrees}
use Rattle.rule_types.specs.Parts.{ArePartsDefined}
use Rattle.rule_types.specs.Members.{IsMemberDefinedBy, AreMembersDefined}

own_defined : (s : Store) (x : TypedNode) → IsDefinedTree s x → IsDefinedTy s (own_type x)
own_defined s (marked h m ts) d = d.0

kid_defined : (s : Store) (x : TypedNode) → IsDefinedTree s x → IsDefinedTy s (own_type (kid_from_front 0 x))
kid_defined s (marked h m typed_none) d = tt
kid_defined s (marked h m (typed_more t ts)) d = own_defined s t d.2.0

pub first_defined : (s : Store) (xs : List TypedNode) → AreDefinedTrees s (typed_nodes xs) → IsDefinedTy s (own_type (tree_from_front 0 xs))
first_defined s [] d = tt
first_defined s (x ∷ xs) d = own_defined s x d.0

pub second_defined : (s : Store) (xs : List TypedNode) → AreDefinedTrees s (typed_nodes xs) →
    IsDefinedTy s (own_type (tree_from_front 1 xs))
second_defined s [] d = tt
second_defined s (x ∷ []) d = tt
second_defined s (x ∷ y ∷ ys) d = own_defined s y d.1.0

part_defined : (s : Store) (x : TypedNode) (k : Kind) → IsDefinedTree s x → IsDefinedTy s (part_type_by k x)
part_defined s x ki.StructField d = kid_defined s x d
part_defined s x _ d = own_defined s x d

pub parts_defined_struct : (s : Store) (xs : List TypedNode) → AreDefinedTrees s (typed_nodes xs) → ArePartsDefined s xs
parts_defined_struct s [] d = tt
parts_defined_struct s (x ∷ []) d = tt
parts_defined_struct s (x ∷ y ∷ ys) d = (part_defined s x (kind_of x) d.0, parts_defined_struct s (y ∷ ys) d.1)

member_defined : (s : Store) (x : TypedNode) (b : Bool) → IsDefinedTree s x → IsMemberDefinedBy s b x
member_defined s x true d = kid_defined s x d
member_defined s x false d = own_defined s x d

pub members_defined_union : (s : Store) (xs : List TypedNode) → AreDefinedTrees s (typed_nodes xs) → AreMembersDefined s xs
members_defined_union s [] d = tt
members_defined_union s (x ∷ xs) d = (member_defined s x (is_spread x) d.0, members_defined_union s xs d.1)
