-- Declarations with a value: which these are, their rows, and what is told of a value that is not constant.
use Rattle.std.specs.Prelude.{◌≡◌, Bool, true, false, List, Option, option_map}
use Rattle.hare_tree.specs.declared.kind.Kind.{Kind}
use Rattle.hare_tree.specs.declared.kind.Kind.TheVariants as ki
use Rattle.hare_tree.specs.declared.place.Place.{Place}
use Rattle.hare_tree.specs.Node.{Head}
use Rattle.hare_types.specs.Store.{Store}
use Rattle.hare_types.specs.Later.{IsLater}
use Rattle.hare_typed.specs.Typed.{TypedNode}
use Rattle.hare_typed.specs.Folded.{inconstant}
use Rattle.hare_rules.specs.declared.declared.Local.{Local}
use Rattle.hare_rules.specs.declared.declared.DeclType.{DeclType}
use Rattle.hare_rules.specs.declared.judged.Case.{Case}
use Rattle.hare_rules.specs.declared.row_id.RowId.{RowId}
use Rattle.hare_rules.specs.declared.row_id.RowId.TheVariants as row
use Rattle.hare_rules.specs.Context.{Context, store_of, place_of}
use Rattle.hare_rules.specs.Judged.{context_of}
use Rattle.hare_rules.specs.Rows.{holds}
use Rattle.hare_rules.specs.Values.{declared_value}
use Rattle.rule_judge.specs.declared.turn.Turn.{Turn}
use Rattle.rule_judge.specs.Turns.{context_in, head_in}

abbrev pub declares : Kind → Bool
declares ki.Def = true
declares ki.GlobalLet = true
declares ki.GlobalConst = true
declares _ = false

-- the rows that they have beside those of all kinds
abbrev pub asks : RowId → Bool
asks row.BindingDefault = true
asks row.BindingHasSize = true
asks row.BindingConstant = true
asks row.DefScalar = true
asks _ = false

-- the value has a constant, in whatever store
abbrev pub IsConstant : Store → Turn → Type 0
IsConstant s t = (f : Store) → holds row.BindingConstant (context_in f t) ≡ true

-- where the first node of the value stands that is not constant or would abort, as the value is coerced in the end
abbrev pub place_found : Context → Option Place
place_found c = option_map place_of (inconstant (store_of c) c.inside.own (declared_value c))

-- This is that place in each later store, where the value has no constant.
abbrev pub IsInconstantNode : Store → List DeclType → List Local → Case → Head → List TypedNode → Option Place → Type 0
IsInconstantNode s decls locals c h xs o =
    (f : Store) → IsLater s f → holds row.BindingConstant (context_of f decls locals c h xs) ≡ false →
    o ≡ place_found (context_of f decls locals c h xs)

abbrev pub IsInconstantAt : Store → Turn → Option Place → Type 0
IsInconstantAt s t = IsInconstantNode s t.decls.now t.locals.now t.case.now (head_in t) t.kids.now
