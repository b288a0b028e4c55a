-- Types that are written in a declaration, as they are listed, and what one of them comes to.
use Rattle.std.specs.Prelude.{ℕ, List, [], ◌∷◌, Bool, cond, filter, map, not}
use Rattle.hare_tree.specs.declared.place.Fault.{Fault}
use Rattle.hare_tree.specs.declared.stop.Stop.{Stop}
use Rattle.hare_tree.specs.declared.stop.Stop.TheVariants.{Fault as Refused, Memory}
use Rattle.hare_tree.specs.Node.{Node, head}
use Rattle.hare_tree.specs.Shape.{is_none}
use Rattle.hare_types.specs.Store.{Store}
use Rattle.hare_rules.specs.declared.declared.DeclType.{DeclType}
use Rattle.hare_rules.specs.Context.{BindingType}
use Rattle.hare_modules.specs.Uses.{kid}
use Rattle.hare_whole.specs.Listing as listing
use Rattle.hare_whole.specs.Listing.{Listing, is_param}
use Rattle.hare_turns.specs.Types.{IsTypeFaulty}
use Rattle.rule_types.specs.Contexts.{role_of}
use Rattle.hare_signatures.specs.declared.listed.Written.{Written}

-- what a listed type is to what stands above it, and its tree
abbrev pub written_of : Written → listing.Written
written_of w = (role_of w.bound, w.tree.now)

abbrev pub one_written : Bool → Node → List listing.Written
one_written b t = (role_of b, t) ∷ []

-- the type of a def or a global, where it is written
abbrev pub type_bound : Node → List listing.Written
type_bound t = cond (not (is_none (head t).kind)) ((BindingType, t) ∷ []) []

-- the types of the parameters among some trees
abbrev pub types_among : List Node → List listing.Written
types_among ts = map (λ p. (BindingType, kid p 0)) (filter (λ p. is_param (head p).kind) ts)

-- a fault that is told is that of the type as long as no more is known of the bytes of types; of want of memory nothing is said
abbrev pub IsTypeStop : Listing → List DeclType → Store → ℕ → listing.Written → Stop Fault → Type 0
IsTypeStop p ds s n r Memory = Unit {0}
IsTypeStop p ds s n r (Refused e) = IsTypeFaulty p ds s n r e
