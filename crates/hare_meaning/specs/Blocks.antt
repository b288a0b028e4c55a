-- Blocks, what is deferred in them, and the jumps that leave them.
use Rattle.std.specs.Prelude.{ℕ, zero, suc, ◌+◌, ◌-◌, Bool, true, false, List, [], ◌∷◌, Option, Some, None, if◌then◌else◌}
use Rattle.hare_tree.specs.declared.kind.Kind.{Kind}
use Rattle.hare_tree.specs.declared.kind.Kind.TheVariants as kind
use Rattle.hare_typed.specs.declared.cell.Cell.{Cell}
use Rattle.hare_typed.specs.Typed.{TypedNode, head_of, kids_of}
use Rattle.hare_typed.specs.Order.{kid_from_front}
use Rattle.hare_typed.specs.Constants.{own_kind}
use Rattle.hare_typed.specs.Weight.{count}
use Rattle.hare_typed.specs.State.{Scope, AsValue, Label, Outcome, Value, Reached, Break, Continue, Yield, Return, Exit, Abort, Undefined, Over, Spent}
use Rattle.hare_typed.specs.Acts.{Act, end, kid, part, within}
use Rattle.hare_typed.specs.World.{World}
use Rattle.hare_typed.specs.Sequence.{value}
use Rattle.hare_typed.specs.Evaluated.{ValueForm}
use Rattle.hare_typed.specs.ConstantForms.{own_type}
use Rattle.hare_meaning.specs.Steps.{bindings_before, bound, is_meant, is_written, void_at, unless_void}

-- ---- deferred expressions

-- those that were reached, the last first: which statement each is, and the scope in which it stands
abbrev pub Deferred : Type 0
Deferred = List (ℕ × Scope)

-- the outcomes that leave a block and let its deferred expressions run: those that go on within the program
abbrev pub runs_deferred : Outcome → Bool
runs_deferred (Value cs) = true
runs_deferred (Reached p) = true
runs_deferred (Break l) = true
runs_deferred (Continue l) = true
runs_deferred (Yield l cs) = true
runs_deferred (Return cs) = true
runs_deferred (Exit k) = false
runs_deferred (Abort x) = false
runs_deferred (Undefined u p) = false
runs_deferred Over = false
runs_deferred Spent = false

-- A deferred expression that ends the program, or whose turns run out, ends the block so; the value of any other is dropped.
abbrev pub run_deferred : Deferred → Outcome → Act
run_deferred [] o = end o
run_deferred (d ∷ ds) o =
    within (part d.0 0 AsValue d.1 end) λ r. if runs_deferred r then run_deferred ds o else end r

-- the outcome stands, and then they run
abbrev pub leaving : Deferred → Outcome → Act
leaving ds o = if runs_deferred o then run_deferred ds o else end o

-- ---- statements

-- what a statement adds to what stands behind it
pub data Adds : Type 0 where
  Binding Deferral Nothing : Adds

abbrev pub adds_of : Kind → Adds
adds_of kind.Let = Binding
adds_of kind.Const = Binding
adds_of kind.Defer = Deferral
adds_of _ = Nothing

-- goes on behind the statement with so many kids before it, in the scope and with what is deferred then
abbrev pub behind_statement : TypedNode → ℕ → Deferred → Scope → Adds → (Deferred → Scope → Act) → Act
behind_statement t i ds sc Binding go = bound (sc.first + bindings_before i (kids_of t)) sc (go ds)
behind_statement t i ds sc Deferral go = go ((i, sc) ∷ ds) sc
behind_statement t i ds sc Nothing go = go ds sc

abbrev pub after_statement : Deferred → Act → Outcome → Act
after_statement ds go (Value cs) = go
after_statement ds go (Reached p) = go
after_statement ds go (Break l) = leaving ds (Break l)
after_statement ds go (Continue l) = leaving ds (Continue l)
after_statement ds go (Yield l cs) = leaving ds (Yield l cs)
after_statement ds go (Return cs) = leaving ds (Return cs)
after_statement ds go (Exit k) = leaving ds (Exit k)
after_statement ds go (Abort x) = leaving ds (Abort x)
after_statement ds go (Undefined u p) = leaving ds (Undefined u p)
after_statement ds go Over = leaving ds Over
after_statement ds go Spent = leaving ds Spent

-- so many statements of a node from a kid on, their values dropped; an end that is reached gives void
abbrev pub statements : TypedNode → (n i : ℕ) → Deferred → Scope → Act
statements t zero i ds sc = leaving ds (Value [])
statements t (suc n) i ds sc =
    kid i AsValue sc
    (after_statement ds (behind_statement t i ds sc (adds_of (own_kind (kid_from_front i t))) λ ds' sc'. statements t n (suc i) ds' sc'))

-- all statements of a node but for the kids before the first
abbrev pub statements_from : ℕ → TypedNode → Scope → Act
statements_from i t sc = statements t (count (kids_of t) - i) i [] sc

-- ---- blocks

abbrev pub handed : World → TypedNode → Option (List Cell) → ValueForm
handed w t (Some cs) k = k (unless_void w (own_type t) cs)
handed w t None k = void_at w (head_of t) (own_type t) λ cs. k (unless_void w (own_type t) cs)

-- a `yield` to the block gives its value; the end that is reached gives void
abbrev pub caught : World → TypedNode → (own : Label) → (List Cell → Act) → Outcome → Act
caught w t own k (Value cs) = handed w t None k
caught w t own k (Reached p) = handed w t None k
caught w t own k (Yield l cs) = if is_meant own l then handed w t cs k else end (Yield l cs)
caught w t own k (Break l) = end (Break l)
caught w t own k (Continue l) = end (Continue l)
caught w t own k (Return cs) = end (Return cs)
caught w t own k (Exit n) = end (Exit n)
caught w t own k (Abort x) = end (Abort x)
caught w t own k (Undefined u p) = end (Undefined u p)
caught w t own k Over = end Over
caught w t own k Spent = end Spent

abbrev pub block_form : World → TypedNode → Scope → ValueForm
block_form w t sc k = within (statements_from 0 t sc) (caught w t (head_of t).text k)

-- the statements of a case are a block without a label, in a scope that is round it with what its pattern binds
abbrev pub case_form : World → TypedNode → Scope → ValueForm
case_form w t sc k = within (statements_from 1 t sc) (caught w t [] k)

-- ---- jumps

abbrev pub break_form : TypedNode → ValueForm
break_form t k = end (Break (head_of t).text)

abbrev pub continue_form : TypedNode → ValueForm
continue_form t k = end (Continue (head_of t).text)

-- the value of the first kid, where it is written
abbrev pub handing : TypedNode → Scope → (Option (List Cell) → Act) → Act
handing t sc go = if is_written 0 t then (value 0 sc λ cs. go (Some cs)) else go None

abbrev pub yield_form : TypedNode → Scope → ValueForm
yield_form t sc k = handing t sc λ cs. end (Yield (head_of t).text cs)

abbrev pub return_form : TypedNode → Scope → ValueForm
return_form t sc k = handing t sc λ cs. end (Return cs)
