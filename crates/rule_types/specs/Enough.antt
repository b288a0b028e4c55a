-- That what a judge of written types is told of a node is enough.
use Rattle.std.specs.Prelude.{◌≡◌, Bool, true}
use Rattle.hare_tree.specs.declared.place.Fault.{Fault}
use Rattle.hare_tree.specs.Levels.{is_type}
use Rattle.hare_rules.specs.Context.{Context, store_of}
use Rattle.hare_rules.specs.Judged.{IsRefusal}
use Rattle.hare_rules.specs.Types.{type_of}
use Rattle.hare_rules.specs.Rows.{first_failing}
use Rattle.rule_types.specs.Contexts.{role_of, context_of}

-- the context that the judge is told
abbrev pub told : Context → Bool → Context
told c bound = context_of (store_of c) c.setting.decls c.meaning bound c.head c.kids

-- The first row that fails is the same, so is its fault, and so is the type.
pub record IsSameType (c j : Context) : Type 0 where
  pub failing : first_failing j ≡ first_failing c
  pub refusal : (e : Fault) → IsRefusal j e → IsRefusal c e
  pub type : type_of j ≡ type_of c

abbrev pub TypesAreTold : Type 0
TypesAreTold = (c : Context) (bound : Bool) → is_type c.head.kind ≡ true → c.inside.role ≡ role_of bound → IsSameType c (told c bound)
