-- The members of a written union.
use Rattle.std.specs.Prelude.{Bool, true, false, not, ◌&&◌, is_some, List, [], ◌∷◌}
use Rattle.hare_types.specs.Store.{Store}
use Rattle.hare_typed.specs.Typed.{TypedNode}
use Rattle.hare_typed.specs.Order.{kid_from_front}
use Rattle.hare_rules.specs.Context.{own_type}
use Rattle.hare_rules.specs.Written.{is_spread, members_spread, member_id}
use Rattle.rule_judge.specs.Defined.{IsDefinedTy}
use Rattle.rule_types.specs.Known.{IsKnownTy, IsBasedTy}

-- what a member writes is known, and of one that is spread the base
abbrev pub IsMemberKnownBy : Store → Bool → TypedNode → Type 0
IsMemberKnownBy s true x = IsBasedTy s (own_type (kid_from_front 0 x))
IsMemberKnownBy s false x = IsKnownTy s (own_type x)

abbrev pub IsMemberKnown : Store → TypedNode → Type 0
IsMemberKnown s x = IsMemberKnownBy s (is_spread x) x

abbrev pub AreMembersKnown : Store → List TypedNode → Type 0
AreMembersKnown s [] = Unit {0}
AreMembersKnown s (x ∷ xs) = IsMemberKnown s x × AreMembersKnown s xs

-- it mentions no name that is not defined
abbrev pub IsMemberDefinedBy : Store → Bool → TypedNode → Type 0
IsMemberDefinedBy s true x = IsDefinedTy s (own_type (kid_from_front 0 x))
IsMemberDefinedBy s false x = IsDefinedTy s (own_type x)

abbrev pub AreMembersDefined : Store → List TypedNode → Type 0
AreMembersDefined s [] = Unit {0}
AreMembersDefined s (x ∷ xs) = IsMemberDefinedBy s (is_spread x) x × AreMembersDefined s xs

-- it is spread, and its type is no union
abbrev pub is_odd_spread : Store → TypedNode → Bool
is_odd_spread s x = is_spread x && not (is_some (members_spread s (member_id x)))
