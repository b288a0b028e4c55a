-- What the checker says of a body and of a value: it says it of each store that may come later.
use Rattle.std.specs.Prelude.{nat_eq, find, length, Option}
use Rattle.hare_tree.specs.declared.place.Fault.{Fault}
use Rattle.hare_tree.specs.declared.stop.Stop.{Stop}
use Rattle.hare_tree.specs.Node.{Node}
use Rattle.hare_types.specs.Store.{Store}
use Rattle.hare_types.specs.Later.{IsLater}
use Rattle.hare_typed.specs.Typed.{TypedNode}
use Rattle.hare_rules.specs.declared.declared.DeclType.{DeclType}
use Rattle.hare_rules.specs.declared.hint.Hint.{Hint}
use Rattle.hare_rules.specs.Above.{Above}
use Rattle.hare_rules.specs.Context.{Setting}
use Rattle.hare_rules.specs.Finished.{IsTheTree}
use Rattle.hare_rules.specs.Flow.{Flow}
use Rattle.hare_walk.specs.Walks.{IsAnswer, IsTheTreeLater, IsAnswerLater}
use Rattle.hare_whole.specs.Declared as whole
use Rattle.hare_whole.specs.Turns.{params_in, result_in}
use Rattle.hare_check.specs.declared.check.Env.{Env}
use Rattle.hare_check.specs.Walking.{program_over}

-- the program that is known, over a store
abbrev pub program_in : Env → Store → Setting
program_in e = program_over e.names.now e.decls.now

-- ---- the body of a function

-- what is known of the function: the same in each store
abbrev pub function_in : Env → Option DeclType
function_in e = find (λ d. nat_eq d.decl e.own) e.decls.now

-- what stands over its body, and what is known before it
abbrev pub over_body : Env → Above
over_body e = whole.over_body e.own (result_in (function_in e)) (length (params_in (function_in e)))

abbrev pub before_body : Env → Node → Flow
before_body e = whole.before_body (params_in (function_in e))

-- the one typed tree of its body
abbrev pub IsTreeOfBody : Env → Store → Node → TypedNode → Type 0
IsTreeOfBody e s t x = IsTheTreeLater (program_in e) s (over_body e) (before_body e t) t x

-- the first fault of its body
abbrev pub IsStopOfBody : Env → Store → Node → Stop Fault → Type 0
IsStopOfBody e s t x = IsAnswerLater (program_in e) s (over_body e) (before_body e t) t x

-- ---- the value of a def or a global

-- what stands over a value that is asked for this: `never` is a type of the store
abbrev pub over_value : Env → Hint → Store → Above
over_value e h l = whole.over_value (program_in e l) e.own h

-- the one typed tree of the value
abbrev pub IsTreeOfValue : Env → Store → Hint → Node → TypedNode → Type 0
IsTreeOfValue e s h t x = (l : Store) → IsLater s l → IsTheTree (program_in e l) (over_value e h l) (whole.before_value t) t x

-- its first fault
abbrev pub IsStopOfValue : Env → Store → Hint → Node → Stop Fault → Type 0
IsStopOfValue e s h t x = (l : Store) → IsLater s l → IsAnswer (program_in e l) (over_value e h l) (whole.before_value t) t x
