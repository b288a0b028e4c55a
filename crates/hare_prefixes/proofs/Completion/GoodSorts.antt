-- What the rows of sorts and operators wait for can be closed, where their rules could be.
use Rattle.std.proofs.Common.{◌≡◌, ℕ, ◌+◌, List, [], ◌∷◌, ◌++◌, Bool, true, false, ◌&&◌, refl, ap, arith, if◌then◌else◌}
use Rattle.std.specs.Prelude.{nat_le}
use Rattle.hare_tree.specs.declared.kind.Kind.TheVariants as ki
use Rattle.hare_tree.specs.declared.form.Sign.{Sign}
use Rattle.hare_tree.specs.declared.form.Sign.TheVariants as si
use Rattle.hare_tree.specs.declared.form.Sort.{Sort}
use Rattle.hare_tree.specs.declared.form.Sort.TheVariants as so
use Rattle.hare_automaton.specs.declared.class.Class.{Class}
use Rattle.hare_automaton.specs.declared.class.Class.TheVariants as cl
use Rattle.hare_automaton.specs.declared.rule.Rule.TheVariants as ru
use Rattle.hare_automaton.specs.declared.rule.Symbol.{Symbol}
use Rattle.hare_automaton.specs.declared.rule.Symbol.TheVariants as sy
use Rattle.hare_automaton.specs.declared.rule.Change.{Change}
use Rattle.hare_automaton.specs.declared.rule.Change.TheVariants as ch
use Rattle.hare_automaton.specs.Rows.{Row, Fault, Skips, Uses, of, part, before, led_by, or_skips, has_sign, at_sign, rest_of}
use Rattle.hare_automaton.specs.TypeRows.{bare_row, type_row, member_row, length_row}
use Rattle.hare_automaton.specs.ExpressionRows.{start_row, start_level, level_row, climbs, assigns, binary_at, behind_operand, climb_row}
use Rattle.hare_automaton.specs.DeclarationRows.{of_row, decl_word_row}
use Rattle.hare_automaton.proofs.Spelled.Paths.{split}
use Rattle.hare_automaton.proofs.Machine.Edges.{le_true, true_le, quiet_start}
use Rattle.hare_prefixes.proofs.Completion.Endings.{quiet, quiet_pull, quiet_no_colon, is_fault, no_mark, sort_ok, ok, first_class, ending, next, good, quiet_mark, ender_quiet}

-- ---- stacks one above the other

next_append : (ss st : List Symbol) (e : Class) → next (ss ++ st) e ≡ next ss (next st e)
next_append [] st e = refl
next_append (sy.Close k ∷ ss) st e = next_append ss st e
next_append (sy.Want d ∷ ss) st e = refl
next_append (sy.Part n ∷ ss) st e = ap (first_class (ending n)) (next_append ss st e)

pub good_append : (ss st : List Symbol) (e : Class) → good ss (next st e) ≡ true → good st e ≡ true → good (ss ++ st) e ≡ true
good_append [] st e a b = b
good_append (sy.Close k ∷ ss) st e a b = good_append ss st e a b
good_append (sy.Want d ∷ ss) st e a b = good_append ss st e a b
good_append (sy.Part n ∷ ss) st e a b =
    let p = split (ok n (next ss (next st e))) (good ss (next st e)) a in
    rw (next_append ss st e, p.0, good_append ss st e p.1 b) refl

-- what a row waits for can be closed in front of the class
abbrev pub row_ok : Row → Class → Bool
row_ok Fault e = true
row_ok (Skips cs) e = true
row_ok (Uses cs ss) e = good ss e

pub before_ok : (r : Row) (ss : List Symbol) (e : Class) → row_ok r (next ss e) ≡ true → good ss e ≡ true → row_ok (before r ss) e ≡ true
before_ok Fault ss e a b = refl
before_ok (Skips cs) ss e a b = refl
before_ok (Uses cs rs) ss e a b = good_append rs ss e a b

pub led_row_ok : (ds : List Change) (r : Row) (e : Class) → row_ok r e ≡ true → row_ok (led_by ds r) e ≡ true
led_row_ok ds Fault e a = refl
led_row_ok ds (Skips cs) e a = refl
led_row_ok ds (Uses cs rs) e a = a

pub or_ok : (r : Row) (ds : List Change) (e : Class) → row_ok r e ≡ true → row_ok (or_skips r ds) e ≡ true
or_ok Fault ds e a = refl
or_ok (Skips cs) ds e a = refl
or_ok (Uses cs rs) ds e a = a

pub at_ok : (a : Sign) (c : Class) (cs ds : List Change) (ss : List Symbol) (e : Class) → good ss e ≡ true →
    row_ok (at_sign a c (Uses cs ss) (Skips ds)) e ≡ true
at_ok a c cs ds ss e g = by (has_sign a c)
  where
    by : (b : Bool) → row_ok (if b then Uses cs ss else Skips ds) e ≡ true
    by true = g
    by false = refl

-- ---- types

bare_ok : (c e : Class) → no_mark e ≡ true → row_ok (bare_row c) e ≡ true
bare_ok cl.Scalar e h = refl
bare_ok cl.Name e h = rw h refl
bare_ok (cl.Sign si.Size) e h = refl
bare_ok (cl.Sign si.Void) e h = refl
bare_ok (cl.Sign si.Star) e h = rw h refl
bare_ok (cl.Sign si.Nullable) e h = rw h refl
bare_ok (cl.Sign si.Struct) e h = refl
bare_ok (cl.Sign si.LeftBracket) e h = rw h refl
bare_ok (cl.Sign si.LeftParen) e h = refl
bare_ok (cl.Sign _) e h = refl
bare_ok _ e h = refl

pub type_ok : (c e : Class) → no_mark e ≡ true → row_ok (type_row c) e ≡ true
type_ok (cl.Sign si.Bang) e h = rw h refl
type_ok c e h = bare_ok c e h

member_ok : (c e : Class) → no_mark e ≡ true → row_ok (member_row c) e ≡ true
member_ok (cl.Sign si.Dots) e h = rw h refl
member_ok c e h = type_ok c e h

pub length_ok : (c e : Class) → no_mark e ≡ true → row_ok (length_row c) e ≡ true
length_ok cl.Number e h = refl
length_ok cl.Name e h = rw h refl
length_ok _ e h = refl

-- ---- expressions

quiet_expr : (e : Class) → quiet e ≡ true → is_fault (of_row (so.Level 1) e) ≡ true
quiet_expr e h = ap is_fault (quiet_start e (quiet_pull e h))

start_ok : (c e : Class) → quiet e ≡ true → row_ok (start_row c) e ≡ true
start_ok cl.Name e h = rw h refl
start_ok (cl.Sign si.Minus) e h = rw h refl
start_ok (cl.Sign si.Tilde) e h = rw h refl
start_ok (cl.Sign si.Bang) e h = rw h refl
start_ok (cl.Sign si.Star) e h = rw h refl
start_ok (cl.Sign si.Ampersand) e h = rw h refl
start_ok (cl.Sign si.If) e h = rw h refl
start_ok (cl.Sign si.For) e h = rw h refl
start_ok (cl.Sign si.Yield) e h = rw h refl
start_ok (cl.Sign si.Break) e h = rw (quiet_no_colon e h) refl
start_ok (cl.Sign si.Continue) e h = rw (quiet_no_colon e h) refl
start_ok (cl.Sign si.Return) e h = rw (quiet_expr e h, h) refl
start_ok (cl.Sign _) e h = refl
start_ok _ e h = refl

pub level_ok : (l : ℕ) (c e : Class) → nat_le 1 l ≡ true → nat_le l 16 ≡ true → quiet e ≡ true → row_ok (level_row l c) e ≡ true
level_ok l c e a b q = by (nat_le l (start_level c))
  where
    by : (z : Bool) → row_ok (if z then before (start_row c) (part (ru.Climb l (start_level c)) ∷ []) else Fault) e ≡ true
    by true = before_ok (start_row c) (part (ru.Climb l (start_level c)) ∷ []) e (start_ok c e q) (rw (a, b, q) refl)
    by false = refl

-- the levels of operators
abbrev pub proper : Class → Bool
proper (cl.Binary m) = nat_le m 15
proper _ = true

climbs_ok : (l h m : ℕ) (r : Row) (e : Class) → nat_le 1 l ≡ true → nat_le l 16 ≡ true → quiet e ≡ true → row_ok r e ≡ true →
    row_ok (climbs l h m r) e ≡ true
climbs_ok l h m r e a b q g = by (nat_le l m && nat_le m h)
  where
    by : (z : Bool) → row_ok (if z then before r (part (ru.Climb l m) ∷ []) else Skips []) e ≡ true
    by true = before_ok r (part (ru.Climb l m) ∷ []) e g (rw (a, b, q) refl)
    by false = refl

assigns_ok : (l h : ℕ) (r : Row) (e : Class) → nat_le 1 l ≡ true → nat_le l 16 ≡ true → quiet e ≡ true → row_ok r e ≡ true →
    row_ok (assigns l h r) e ≡ true
assigns_ok l h r e a b q g = by (nat_le l 1 && nat_le 14 h)
  where
    by : (z : Bool) → row_ok (if z then before r (part (ru.Climb l 1) ∷ []) else Skips []) e ≡ true
    by true = before_ok r (part (ru.Climb l 1) ∷ []) e g (rw (a, b, q) refl)
    by false = refl

binary_ok : (m : ℕ) (e : Class) → nat_le m 15 ≡ true → quiet e ≡ true → row_ok (binary_at m) e ≡ true
binary_ok m e p q =
    let x = true_le m 15 p in
    let a : nat_le 1 (m + 1) ≡ true = le_true 1 (m + 1) (omega arith) in
    let b : nat_le (m + 1) 16 ≡ true = le_true (m + 1) 16 (omega (arith, x)) in
    rw (a, b, q) refl

pub climb_ok : (l h : ℕ) (c e : Class) → nat_le 1 l ≡ true → nat_le l 16 ≡ true → quiet e ≡ true → proper c ≡ true →
    row_ok (climb_row l h c) e ≡ true
climb_ok l h (cl.Binary m) e a b q p = climbs_ok l h m (binary_at m) e a b q (binary_ok m e p q)
climb_ok l h cl.OpAssign e a b q p = assigns_ok l h (Uses (ch.Over ∷ ch.Take ∷ []) (of (so.Level 1) ∷ sy.Close ki.OpAssign ∷ [])) e a b q
    (rw q refl)
climb_ok l h (cl.Sign si.Equals) e a b q p = assigns_ok l h (behind_operand ki.Assign) e a b q (rw q refl)
climb_ok l h (cl.Sign si.Star) e a b q p = climbs_ok l h 12 (binary_at 12) e a b q (rw q refl)
climb_ok l h (cl.Sign si.Minus) e a b q p = climbs_ok l h 11 (binary_at 11) e a b q (rw q refl)
climb_ok l h (cl.Sign si.Ampersand) e a b q p = climbs_ok l h 9 (binary_at 9) e a b q (rw q refl)
climb_ok l h (cl.Sign si.Bar) e a b q p = climbs_ok l h 7 (binary_at 7) e a b q (rw q refl)
climb_ok l h (cl.Sign si.Colon) e a b q p = climbs_ok l h 13 (behind_operand ki.Cast) e a b q (rw (quiet_mark e q) refl)
climb_ok l h (cl.Sign si.As) e a b q p = climbs_ok l h 13 (behind_operand ki.As) e a b q (rw (quiet_mark e q) refl)
climb_ok l h (cl.Sign si.Is) e a b q p = climbs_ok l h 13 (behind_operand ki.Is) e a b q (rw (quiet_mark e q) refl)
climb_ok l h (cl.Sign si.LeftParen) e a b q p = climbs_ok l h 15 (behind_operand ki.Call) e a b q refl
climb_ok l h (cl.Sign si.LeftBracket) e a b q p = climbs_ok l h 15 (Uses (ch.Over ∷ []) (part ru.InIndex ∷ [])) e a b q refl
climb_ok l h (cl.Sign si.Dot) e a b q p = climbs_ok l h 15 (behind_operand ki.Field) e a b q refl
climb_ok l h (cl.Sign si.Question) e a b q p = climbs_ok l h 15 (behind_operand ki.Try) e a b q refl
climb_ok l h (cl.Sign si.Bang) e a b q p = climbs_ok l h 15 (behind_operand ki.Force) e a b q refl
climb_ok l h (cl.Sign _) e a b q p = refl
climb_ok l h _ e a b q p = refl

-- ---- sorts

pub word_ok : (c e : Class) → row_ok (decl_word_row c) e ≡ true
word_ok (cl.Sign si.Def) e = refl
word_ok (cl.Sign si.Let) e = refl
word_ok (cl.Sign si.Const) e = refl
word_ok (cl.Sign si.Type) e = refl
word_ok (cl.Sign si.Fn) e = refl
word_ok (cl.Sign _) e = refl
word_ok _ e = refl

statement_ok : (c e : Class) → quiet e ≡ true → row_ok (of_row so.Statement c) e ≡ true
statement_ok (cl.Sign si.Let) e h = rw h refl
statement_ok (cl.Sign si.Const) e h = rw h refl
statement_ok (cl.Sign si.Defer) e h = rw h refl
statement_ok c e h = level_ok 1 c e refl refl h

pattern_ok : (c e : Class) → no_mark e ≡ true → row_ok (of_row so.Pattern c) e ≡ true
pattern_ok (cl.Sign si.Let) e h = rw h refl
pattern_ok (cl.Sign si.Null) e h = refl
pattern_ok c e h = type_ok c e h

-- sorts whose trees begin with a name or a string
abbrev is_named : Sort → Bool
is_named so.Param = true
is_named so.StructField = true
is_named so.FieldValue = true
is_named so.ImportPath = true
is_named so.TypePath = true
is_named so.Name = true
is_named so.PathName = true
is_named so.Message = true
is_named _ = false

named_ok : (s : Sort) (c e : Class) → is_named s ≡ true → sort_ok s e ≡ true → row_ok (of_row s c) e ≡ true
named_ok so.Param cl.Name e i h = rw h refl
named_ok so.Param _ e i h = refl
named_ok so.StructField cl.Name e i h = rw h refl
named_ok so.StructField _ e i h = refl
named_ok so.FieldValue cl.Name e i h = rw h refl
named_ok so.FieldValue _ e i h = refl
named_ok so.ImportPath cl.Name e i h = rw h refl
named_ok so.ImportPath _ e i h = refl
named_ok so.TypePath cl.Name e i h = rw h refl
named_ok so.TypePath _ e i h = refl
named_ok so.Name cl.Name e i h = refl
named_ok so.Name _ e i h = refl
named_ok so.PathName cl.Name e i h = refl
named_ok so.PathName cl.PathWord e i h = refl
named_ok so.PathName _ e i h = refl
named_ok so.Message cl.Text e i h = refl
named_ok so.Message _ e i h = refl
named_ok _ c e i h = cc

-- sorts whose trees begin with one sign
abbrev is_signed : Sort → Bool
is_signed so.Use = true
is_signed so.Export = true
is_signed so.Dots = true
is_signed so.ByRef = true
is_signed so.Params = true
is_signed so.Let = true
is_signed so.Binding = true
is_signed so.Case = true
is_signed so.SwitchCase = true
is_signed _ = false

abbrev is_sign_class : Class → Bool
is_sign_class (cl.Sign d) = true
is_sign_class _ = false

signed_ok : (s : Sort) (d : Sign) (e : Class) → is_signed s ≡ true → sort_ok s e ≡ true → row_ok (of_row s (cl.Sign d)) e ≡ true
signed_ok so.Use si.Use e i h = refl
signed_ok so.Use _ e i h = refl
signed_ok so.Export si.Export e i h = refl
signed_ok so.Export _ e i h = refl
signed_ok so.Dots si.Dots e i h = refl
signed_ok so.Dots _ e i h = refl
signed_ok so.ByRef si.Ampersand e i h = refl
signed_ok so.ByRef _ e i h = refl
signed_ok so.Params si.LeftParen e i h = refl
signed_ok so.Params _ e i h = refl
signed_ok so.Let si.Let e i h = rw h refl
signed_ok so.Let _ e i h = refl
signed_ok so.Binding si.Let e i h = refl
signed_ok so.Binding _ e i h = refl
signed_ok so.Case si.Case e i h = rw h refl
signed_ok so.Case _ e i h = refl
signed_ok so.SwitchCase si.Case e i h = rw h refl
signed_ok so.SwitchCase _ e i h = refl
signed_ok _ d e i h = cc

unsigned_ok : (s : Sort) (c e : Class) → is_signed s ≡ true → is_sign_class c ≡ false → row_ok (of_row s c) e ≡ true
unsigned_ok s (cl.Sign d) e i n = cc
unsigned_ok so.Use _ e i n = refl
unsigned_ok so.Export _ e i n = refl
unsigned_ok so.Dots _ e i n = refl
unsigned_ok so.ByRef _ e i n = refl
unsigned_ok so.Params _ e i n = refl
unsigned_ok so.Let _ e i n = refl
unsigned_ok so.Binding _ e i n = refl
unsigned_ok so.Case _ e i n = refl
unsigned_ok so.SwitchCase _ e i n = refl
unsigned_ok _ c e i n = cc

by_sign : (s : Sort) (c e : Class) → is_signed s ≡ true → sort_ok s e ≡ true → row_ok (of_row s c) e ≡ true
by_sign s (cl.Sign d) e i h = signed_ok s d e i h
by_sign s c e i h = unsigned_ok s c e i refl

decl_ok : (c e : Class) → row_ok (of_row so.Decl c) e ≡ true
decl_ok (cl.Sign si.Export) e = refl
decl_ok c e = led_row_ok (ch.Open ∷ ch.Absent ∷ []) (decl_word_row c) e (word_ok c e)

pub of_ok : (s : Sort) (c e : Class) → sort_ok s e ≡ true → row_ok (of_row s c) e ≡ true
of_ok so.Type c e h = type_ok c e h
of_ok so.BareType c e h = bare_ok c e h
of_ok so.Member c e h = member_ok c e h
of_ok so.Length c e h = length_ok c e h
of_ok (so.Level l) c e h =
    let p = split (nat_le 1 l && nat_le l 16) (quiet e) h in let q = split (nat_le 1 l) (nat_le l 16) p.0 in level_ok l c e q.0 q.1 p.1
of_ok so.Left c e h = refl
of_ok so.Right c e h = refl
of_ok so.Statement c e h = statement_ok c e h
of_ok so.Pattern c e h = pattern_ok c e h
of_ok so.Values c e h = led_row_ok (ch.Open ∷ []) (before (level_row 1 c) (rest_of 1 ki.Values)) e
    (before_ok (level_row 1 c) (rest_of 1 ki.Values) e (level_ok 1 c e refl refl (ender_quiet e h)) (rw (h, ender_quiet e h) refl))
of_ok so.Decl c e h = decl_ok c e
of_ok so.Use c e h = by_sign so.Use c e refl h
of_ok so.Export c e h = by_sign so.Export c e refl h
of_ok so.Dots c e h = by_sign so.Dots c e refl h
of_ok so.ByRef c e h = by_sign so.ByRef c e refl h
of_ok so.Params c e h = by_sign so.Params c e refl h
of_ok so.Let c e h = by_sign so.Let c e refl h
of_ok so.Binding c e h = by_sign so.Binding c e refl h
of_ok so.Case c e h = by_sign so.Case c e refl h
of_ok so.SwitchCase c e h = by_sign so.SwitchCase c e refl h
of_ok s c e h = named_ok s c e refl h
