-- No rule waits for two strings side by side, and none uses a token that no tree is spelled by.
use Rattle.std.proofs.Common.{◌≡◌, ℕ, List, [], ◌∷◌, ◌++◌, Bool, true, false, ◌&&◌, refl, if◌then◌else◌}
use Rattle.std.specs.Prelude.{nat_le}
use Rattle.hare_tree.specs.declared.kind.Kind.TheVariants as ki
use Rattle.hare_tree.specs.declared.form.Sign.{Sign}
use Rattle.hare_tree.specs.declared.form.Sign.TheVariants as si
use Rattle.hare_tree.specs.declared.form.Sort.{Sort}
use Rattle.hare_tree.specs.declared.form.Sort.TheVariants as so
use Rattle.hare_automaton.specs.declared.class.Class.{Class}
use Rattle.hare_automaton.specs.declared.class.Class.TheVariants as cl
use Rattle.hare_automaton.specs.declared.rule.Rule.{Rule}
use Rattle.hare_automaton.specs.declared.rule.Rule.TheVariants as ru
use Rattle.hare_automaton.specs.declared.rule.Symbol.{Symbol}
use Rattle.hare_automaton.specs.declared.rule.Symbol.TheVariants as sy
use Rattle.hare_automaton.specs.declared.rule.Change.{Change}
use Rattle.hare_automaton.specs.declared.rule.Change.TheVariants as ch
use Rattle.hare_automaton.specs.Rows.{Row, Fault, Skips, Uses, of, part, before, led_by, or_skips, has_sign, at_sign, rest_of}
use Rattle.hare_automaton.specs.TypeRows.{bare_row, type_row, member_row, length_row}
use Rattle.hare_automaton.specs.ExpressionRows.{start_row, start_level, level_row, climbs, assigns, binary_at, behind_operand, climb_row}
use Rattle.hare_automaton.specs.DeclarationRows.{of_row, decl_word_row}
use Rattle.hare_automaton.specs.Table.{row}
use Rattle.hare_automaton.proofs.Spelled.Paths.{split}
use Rattle.hare_prefixes.proofs.Completion.Endings.{is_fault}

-- ---- stacks in front of which no string stands

abbrev pub is_text : Class → Bool
is_text cl.Text = true
is_text _ = false

-- the row uses no token, and where it is over what follows decides
abbrev pub passes : Row → Bool → Bool
passes Fault b = true
passes (Skips cs) b = b
passes (Uses cs ss) b = false

-- no string can stand here
abbrev pub refuses : List Symbol → Bool
refuses [] = true
refuses (sy.Close k ∷ st) = refuses st
refuses (sy.Want d ∷ st) = true
refuses (sy.Part n ∷ st) = passes (row n cl.Text) (refuses st)

-- a list with nothing between its items has none that begins with a string
abbrev pub apt_rule : Rule → Bool
apt_rule (ru.Each s) = is_fault (of_row s cl.Text)
apt_rule _ = true

-- behind no rule of the stack a string can stand
abbrev pub apt : List Symbol → Bool
apt [] = true
apt (sy.Close k ∷ st) = apt st
apt (sy.Want d ∷ st) = apt st
apt (sy.Part n ∷ st) = apt_rule n && (refuses st && apt st)

passed : (r : Row) (a b : Bool) → passes r a ≡ true → (a ≡ true → b ≡ true) → passes r b ≡ true
passed Fault a b e d = refl
passed (Skips cs) a b e d = d e
passed (Uses cs ss) a b e d = cc

pub refuses_append : (ss st : List Symbol) → refuses ss ≡ true → refuses st ≡ true → refuses (ss ++ st) ≡ true
refuses_append [] st a b = b
refuses_append (sy.Close k ∷ ss) st a b = refuses_append ss st a b
refuses_append (sy.Want d ∷ ss) st a b = refl
refuses_append (sy.Part n ∷ ss) st a b = passed (row n cl.Text) (refuses ss) (refuses (ss ++ st)) a (λ e. refuses_append ss st e b)

pub apt_append : (ss st : List Symbol) → apt ss ≡ true → apt st ≡ true → refuses st ≡ true → apt (ss ++ st) ≡ true
apt_append [] st a b c = b
apt_append (sy.Close k ∷ ss) st a b c = apt_append ss st a b c
apt_append (sy.Want d ∷ ss) st a b c = apt_append ss st a b c
apt_append (sy.Part n ∷ ss) st a b c =
    let p = split (apt_rule n) (refuses ss && apt ss) a in
    let q = split (refuses ss) (apt ss) p.1 in
    rw (p.0, refuses_append ss st q.0 c, apt_append ss st q.1 b c) refl

-- ---- rows

-- what the row waits for is apt
abbrev pub row_apt : Row → Bool
row_apt Fault = true
row_apt (Skips cs) = true
row_apt (Uses cs ss) = apt ss

-- where the row uses a string, no string stands behind it
abbrev pub row_refuses : Row → Bool
row_refuses Fault = true
row_refuses (Skips cs) = true
row_refuses (Uses cs ss) = refuses ss

abbrev pub no_use : Row → Bool
no_use Fault = true
no_use (Skips cs) = true
no_use (Uses cs ss) = false

pub before_apt : (r : Row) (ss : List Symbol) → row_apt r ≡ true → apt ss ≡ true → refuses ss ≡ true → row_apt (before r ss) ≡ true
before_apt Fault ss a b c = refl
before_apt (Skips cs) ss a b c = refl
before_apt (Uses cs rs) ss a b c = apt_append rs ss a b c

pub before_refuses : (r : Row) (ss : List Symbol) → row_refuses r ≡ true → refuses ss ≡ true → row_refuses (before r ss) ≡ true
before_refuses Fault ss a b = refl
before_refuses (Skips cs) ss a b = refl
before_refuses (Uses cs rs) ss a b = refuses_append rs ss a b

pub led_apt : (ds : List Change) (r : Row) → row_apt r ≡ true → row_apt (led_by ds r) ≡ true
led_apt ds Fault a = refl
led_apt ds (Skips cs) a = refl
led_apt ds (Uses cs rs) a = a

pub led_refuses : (ds : List Change) (r : Row) → row_refuses r ≡ true → row_refuses (led_by ds r) ≡ true
led_refuses ds Fault a = refl
led_refuses ds (Skips cs) a = refl
led_refuses ds (Uses cs rs) a = a

pub or_apt : (r : Row) (ds : List Change) → row_apt r ≡ true → row_apt (or_skips r ds) ≡ true
or_apt Fault ds a = refl
or_apt (Skips cs) ds a = refl
or_apt (Uses cs rs) ds a = a

pub or_refuses : (r : Row) (ds : List Change) → row_refuses r ≡ true → row_refuses (or_skips r ds) ≡ true
or_refuses Fault ds a = refl
or_refuses (Skips cs) ds a = refl
or_refuses (Uses cs rs) ds a = a

pub at_apt : (a : Sign) (c : Class) (cs ds : List Change) (ss : List Symbol) → apt ss ≡ true →
    row_apt (at_sign a c (Uses cs ss) (Skips ds)) ≡ true
at_apt a c cs ds ss g = by (has_sign a c)
  where
    by : (b : Bool) → row_apt (if b then Uses cs ss else Skips ds) ≡ true
    by true = g
    by false = refl

-- ---- types

bare_apt : (c : Class) → row_apt (bare_row c) ≡ true
bare_apt cl.Scalar = refl
bare_apt (cl.Sign si.Size) = refl
bare_apt (cl.Sign _) = refl
bare_apt _ = refl

pub type_apt : (c : Class) → row_apt (type_row c) ≡ true
type_apt (cl.Sign si.Bang) = refl
type_apt c = bare_apt c

member_apt : (c : Class) → row_apt (member_row c) ≡ true
member_apt (cl.Sign si.Dots) = refl
member_apt c = type_apt c

pub length_apt : (c : Class) → row_apt (length_row c) ≡ true
length_apt cl.Number = refl
length_apt _ = refl

-- ---- expressions

start_apt : (c : Class) → row_apt (start_row c) ≡ true
start_apt cl.Name = refl
start_apt (cl.Sign si.Minus) = refl
start_apt (cl.Sign _) = refl
start_apt _ = refl

pub level_apt : (l : ℕ) (c : Class) → row_apt (level_row l c) ≡ true
level_apt l c = by (nat_le l (start_level c))
  where
    by : (z : Bool) → row_apt (if z then before (start_row c) (part (ru.Climb l (start_level c)) ∷ []) else Fault) ≡ true
    by true = before_apt (start_row c) (part (ru.Climb l (start_level c)) ∷ []) (start_apt c) refl refl
    by false = refl

pub level_refuses : (l : ℕ) → row_refuses (level_row l cl.Text) ≡ true
level_refuses l = by (nat_le l 16)
  where
    by : (z : Bool) → row_refuses (if z then before (start_row cl.Text) (part (ru.Climb l 16) ∷ []) else Fault) ≡ true
    by true = refl
    by false = refl

pub level_junk : (l : ℕ) → level_row l cl.Junk ≡ Fault
level_junk l = by (nat_le l 16)
  where
    by : (z : Bool) → (if z then before (start_row cl.Junk) (part (ru.Climb l 16) ∷ []) else Fault) ≡ Fault
    by true = refl
    by false = refl

climbs_apt : (l h m : ℕ) (r : Row) → row_apt r ≡ true → row_apt (climbs l h m r) ≡ true
climbs_apt l h m r g = by (nat_le l m && nat_le m h)
  where
    by : (z : Bool) → row_apt (if z then before r (part (ru.Climb l m) ∷ []) else Skips []) ≡ true
    by true = before_apt r (part (ru.Climb l m) ∷ []) g refl refl
    by false = refl

assigns_apt : (l h : ℕ) (r : Row) → row_apt r ≡ true → row_apt (assigns l h r) ≡ true
assigns_apt l h r g = by (nat_le l 1 && nat_le 14 h)
  where
    by : (z : Bool) → row_apt (if z then before r (part (ru.Climb l 1) ∷ []) else Skips []) ≡ true
    by true = before_apt r (part (ru.Climb l 1) ∷ []) g refl refl
    by false = refl

pub climb_apt : (l h : ℕ) (c : Class) → row_apt (climb_row l h c) ≡ true
climb_apt l h (cl.Binary m) = climbs_apt l h m (binary_at m) refl
climb_apt l h cl.OpAssign = assigns_apt l h (Uses (ch.Over ∷ ch.Take ∷ []) (of (so.Level 1) ∷ sy.Close ki.OpAssign ∷ [])) refl
climb_apt l h (cl.Sign si.Equals) = assigns_apt l h (behind_operand ki.Assign) refl
climb_apt l h (cl.Sign si.Star) = climbs_apt l h 12 (binary_at 12) refl
climb_apt l h (cl.Sign si.Minus) = climbs_apt l h 11 (binary_at 11) refl
climb_apt l h (cl.Sign si.Ampersand) = climbs_apt l h 9 (binary_at 9) refl
climb_apt l h (cl.Sign si.Bar) = climbs_apt l h 7 (binary_at 7) refl
climb_apt l h (cl.Sign si.Colon) = climbs_apt l h 13 (behind_operand ki.Cast) refl
climb_apt l h (cl.Sign si.As) = climbs_apt l h 13 (behind_operand ki.As) refl
climb_apt l h (cl.Sign si.Is) = climbs_apt l h 13 (behind_operand ki.Is) refl
climb_apt l h (cl.Sign si.LeftParen) = climbs_apt l h 15 (behind_operand ki.Call) refl
climb_apt l h (cl.Sign si.LeftBracket) = climbs_apt l h 15 (Uses (ch.Over ∷ []) (part ru.InIndex ∷ [])) refl
climb_apt l h (cl.Sign si.Dot) = climbs_apt l h 15 (behind_operand ki.Field) refl
climb_apt l h (cl.Sign si.Question) = climbs_apt l h 15 (behind_operand ki.Try) refl
climb_apt l h (cl.Sign si.Bang) = climbs_apt l h 15 (behind_operand ki.Force) refl
climb_apt l h (cl.Sign _) = refl
climb_apt l h _ = refl

-- ---- sorts

pub word_apt : (c : Class) → row_apt (decl_word_row c) ≡ true
word_apt (cl.Sign si.Def) = refl
word_apt (cl.Sign _) = refl
word_apt _ = refl

pub of_apt : (s : Sort) (c : Class) → row_apt (of_row s c) ≡ true
of_apt so.Type c = type_apt c
of_apt so.BareType c = bare_apt c
of_apt so.Member c = member_apt c
of_apt so.Length c = length_apt c
of_apt (so.Level n) c = level_apt n c
of_apt so.Statement (cl.Sign si.Let) = refl
of_apt so.Statement (cl.Sign si.Const) = refl
of_apt so.Statement (cl.Sign si.Defer) = refl
of_apt so.Statement c = level_apt 1 c
of_apt so.Pattern (cl.Sign si.Let) = refl
of_apt so.Pattern (cl.Sign si.Null) = refl
of_apt so.Pattern c = type_apt c
of_apt so.Values c = led_apt (ch.Open ∷ []) (before (level_row 1 c) (rest_of 1 ki.Values))
    (before_apt (level_row 1 c) (rest_of 1 ki.Values) (level_apt 1 c) refl refl)
of_apt so.Decl (cl.Sign si.Export) = refl
of_apt so.Decl c = led_apt (ch.Open ∷ ch.Absent ∷ []) (decl_word_row c) (word_apt c)
of_apt so.Left c = refl
of_apt so.Right c = refl
of_apt _ (cl.Sign si.Use) = refl
of_apt _ (cl.Sign _) = refl
of_apt _ _ = refl

pub of_refuses : (s : Sort) → row_refuses (of_row s cl.Text) ≡ true
of_refuses (so.Level n) = level_refuses n
of_refuses _ = refl

pub of_junk : (s : Sort) → of_row s cl.Junk ≡ Fault
of_junk (so.Level n) = level_junk n
of_junk _ = refl
