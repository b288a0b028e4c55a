-- The check of rows holds of the rows of all sorts.
use Rattle.std.proofs.Common.{◌≡◌, ℕ, [], ◌∷◌, Bool, true, false, refl, if◌then◌else◌}
use Rattle.std.specs.Prelude.{nat_le}
use Rattle.hare_tree.specs.declared.kind.Kind.TheVariants as ki
use Rattle.hare_tree.specs.declared.form.Sign.TheVariants as si
use Rattle.hare_tree.specs.declared.form.Sort.{Sort}
use Rattle.hare_tree.specs.declared.form.Sort.TheVariants as so
use Rattle.hare_automaton.specs.declared.class.Class.{Class}
use Rattle.hare_automaton.specs.declared.class.Class.TheVariants as cl
use Rattle.hare_automaton.specs.declared.rule.Rule.TheVariants as ru
use Rattle.hare_automaton.specs.declared.rule.Change.TheVariants as ch
use Rattle.hare_automaton.specs.Rows.{Fault, part, before, rest_of}
use Rattle.hare_automaton.specs.TypeRows.{bare_row, type_row, member_row, length_row}
use Rattle.hare_automaton.specs.ExpressionRows.{start_row, start_level, level_row}
use Rattle.hare_automaton.specs.DeclarationRows.{of_row, decl_word_row}
use Rattle.hare_nesting.specs.Gauge.{nodes_in}
use Rattle.hare_nesting.proofs.UnderWay.Stacks.{follows}
use Rattle.hare_nesting.proofs.CheckedRows.Slots.{uses_ok, ends_row}
use Rattle.hare_nesting.proofs.CheckedRows.SlotForms.{uses_behind, uses_led, uses_climb}

-- ---- types

bare_ok : (c : Class) → uses_ok [] (bare_row c) ≡ true
unfolding nodes_in follows
bare_ok cl.Scalar = refl
bare_ok cl.Name = refl
bare_ok (cl.Sign si.Size) = refl
bare_ok (cl.Sign _) = refl
bare_ok _ = refl

pub type_ok : (c : Class) → uses_ok [] (type_row c) ≡ true
unfolding nodes_in follows
type_ok (cl.Sign si.Bang) = refl
type_ok c = bare_ok c

member_ok : (c : Class) → uses_ok [] (member_row c) ≡ true
unfolding nodes_in follows
member_ok (cl.Sign si.Dots) = refl
member_ok c = type_ok c

pub length_ok : (c : Class) → uses_ok [] (length_row c) ≡ true
unfolding nodes_in follows
length_ok cl.Number = refl
length_ok cl.Name = refl
length_ok _ = refl

-- ---- expressions

start_ok : (c : Class) → uses_ok [] (start_row c) ≡ true
unfolding nodes_in follows
start_ok cl.Name = refl
start_ok (cl.Sign si.Minus) = refl
start_ok (cl.Sign _) = refl
start_ok _ = refl

start_ends : (c : Class) → ends_row (start_row c) ≡ true
start_ends cl.Name = refl
start_ends (cl.Sign si.Minus) = refl
start_ends (cl.Sign _) = refl
start_ends _ = refl

pub level_ok : (l : ℕ) (c : Class) → uses_ok [] (level_row l c) ≡ true
level_ok l c = by (nat_le l (start_level c))
  where
    by : (z : Bool) → uses_ok [] (if z then before (start_row c) (part (ru.Climb l (start_level c)) ∷ []) else Fault) ≡ true
    by true = uses_climb (start_row c) l (start_level c) (start_ok c) (start_ends c)
    by false = refl

-- ---- all sorts

pub word_ok : (c : Class) → uses_ok (false ∷ []) (decl_word_row c) ≡ true
unfolding nodes_in follows
word_ok (cl.Sign si.Def) = refl
word_ok (cl.Sign _) = refl
word_ok _ = refl

values_ok : (c : Class) → uses_ok [] (of_row so.Values c) ≡ true
unfolding nodes_in follows
values_ok c = uses_led ch.Open (false ∷ []) [] (before (level_row 1 c) (rest_of 1 ki.Values)) refl refl
    (uses_behind (level_row 1 c) (rest_of 1 ki.Values) (level_ok 1 c) refl refl)

pub of_ok : (s : Sort) (c : Class) → uses_ok [] (of_row s c) ≡ true
unfolding nodes_in follows
of_ok so.Type c = type_ok c
of_ok so.BareType c = bare_ok c
of_ok so.Member c = member_ok c
of_ok so.Length c = length_ok c
of_ok (so.Level n) c = level_ok n c
of_ok so.Statement (cl.Sign si.Let) = refl
of_ok so.Statement (cl.Sign si.Const) = refl
of_ok so.Statement (cl.Sign si.Defer) = refl
of_ok so.Statement c = level_ok 1 c
of_ok so.Pattern (cl.Sign si.Let) = refl
of_ok so.Pattern (cl.Sign si.Null) = refl
of_ok so.Pattern c = type_ok c
of_ok so.Values c = values_ok c
of_ok so.Decl (cl.Sign si.Export) = refl
of_ok so.Decl (cl.Sign _) = refl
of_ok so.Decl _ = refl
of_ok so.Left c = refl
of_ok so.Right c = refl
of_ok _ (cl.Sign si.Use) = refl
of_ok _ (cl.Sign _) = refl
of_ok _ _ = refl
