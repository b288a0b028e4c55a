-- That what a judge is told of a node is enough: its verdict is that of the node with all that is known of it.
use Rattle.std.specs.Prelude.{◌≡◌, List}
use Rattle.hare_tree.specs.declared.place.Fault.{Fault}
use Rattle.hare_rules.specs.declared.declared.Local.{Local}
use Rattle.hare_rules.specs.declared.declared.DeclType.{DeclType}
use Rattle.hare_rules.specs.declared.judged.Case.{Case}
use Rattle.hare_rules.specs.Context.{Context, store_of}
use Rattle.hare_rules.specs.Judged.{context_of, IsRefusal}
use Rattle.hare_rules.specs.Types.{type_of}
use Rattle.hare_rules.specs.Rows.{first_failing}
use Rattle.hare_told.specs.Told.{IsTold, IsLookedAt}

-- the context that the judge is told
abbrev pub told : Context → List DeclType → List Local → Case → Context
told c decls locals q = context_of (store_of c) decls locals q c.head c.kids

-- The first row that fails is the same, so is its fault, and so is the type.
pub record IsSameVerdict (c j : Context) : Type 0 where
  pub failing : first_failing j ≡ first_failing c
  pub refusal : (e : Fault) → IsRefusal j e → IsRefusal c e
  pub type : type_of j ≡ type_of c

abbrev pub ToldIsEnough : Type 0
ToldIsEnough =
    (c : Context) (decls : List DeclType) (locals : List Local) (q : Case)
    → IsTold c decls locals q
    → IsLookedAt c
    → IsSameVerdict c (told c decls locals q)
