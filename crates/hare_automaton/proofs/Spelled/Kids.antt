-- What is spelled is read, of kids side by side in expressions and statements, up to a size.
use Rattle.std.proofs.Common.{◌≡◌, ℕ, ◌≤◌, List, [], ◌∷◌, ◌++◌, Bool, true, false, refl, ap, sym, ◌∙◌, arith, append_assoc, if◌then◌else◌}
use Rattle.std.specs.Prelude.{nat_le}
use Rattle.hare_tree.specs.declared.kind.Kind.{Kind}
use Rattle.hare_tree.specs.declared.kind.Kind.TheVariants as ki
use Rattle.hare_tree.specs.declared.token.Token.{Token}
use Rattle.hare_tree.specs.declared.form.Sign.{Sign}
use Rattle.hare_tree.specs.declared.form.Sign.TheVariants as si
use Rattle.hare_tree.specs.declared.form.Own.TheVariants as ow
use Rattle.hare_tree.specs.declared.form.Sort.{Sort}
use Rattle.hare_tree.specs.declared.form.Sort.TheVariants as so
use Rattle.hare_tree.specs.declared.form.Lead.TheVariants as le
use Rattle.hare_tree.specs.Node.{Head, Node, Nodes, branch, none, more, head, size_of}
use Rattle.hare_tree.specs.Levels.{admits}
use Rattle.hare_tree.specs.Spell.{start_of, sign_token, Spelled, stands_alone, all_led, spell}
use Rattle.hare_tree.specs.Shape.{is_shaped, is_own, is_none}
use Rattle.hare_automaton.specs.declared.class.Class.{Class}
use Rattle.hare_automaton.specs.declared.class.Class.TheVariants as cl
use Rattle.hare_automaton.specs.declared.rule.Rule.{Rule}
use Rattle.hare_automaton.specs.declared.rule.Rule.TheVariants as ru
use Rattle.hare_automaton.specs.declared.rule.Symbol.{Symbol}
use Rattle.hare_automaton.specs.declared.rule.Change.{Change}
use Rattle.hare_automaton.specs.declared.rule.Change.TheVariants as ch
use Rattle.hare_automaton.specs.Classes.{class_of}
use Rattle.hare_automaton.specs.Rows.{Row, Fault, Skips, Uses, of, part, before, led_by, or_skips, rest_of}
use Rattle.hare_automaton.specs.DeclarationRows.{decl_word_row, of_row}
use Rattle.hare_automaton.specs.Table.{row}
use Rattle.hare_automaton.specs.Engine.{Group, begun, add, bare_leaf, Done, run, bottom}
use Rattle.hare_tree.specs.Signs.{is_sign}
use Rattle.hare_automaton.specs.ExpressionRows.{level_row, start_row, start_level}
use Rattle.hare_automaton.specs.OneTree.{plain, is_sort as covered}
use Rattle.hare_automaton.proofs.Machine.Steps.{run_uses, run_faults, run_done}
use Rattle.hare_automaton.proofs.Machine.Tokens.{class_sign}
use Rattle.hare_automaton.proofs.Spelled.Paths.{split}
use Rattle.hare_automaton.proofs.Machine.Edges.{pull, true_le, stops_calm, closed_by, ReadsTo, read_kid}
use Rattle.hare_automaton.proofs.Spelled.Lists.{nothing_head, Begins, type_never, never_skips as types_never, is_skips, done_not_fails, shape}
use Rattle.hare_tree.specs.Shape.{is_absent}

-- ---- the first token of a tree

-- a sign behind which nothing of the sort goes on
abbrev pub closer : Sort → Sign
closer so.Values = si.Arrow
closer _ = si.RightBrace

pub closer_faults : (s : Sort) → covered s ≡ true → of_row s (cl.Sign (closer s)) ≡ Fault
closer_faults (so.Level l) c = by (nat_le l 16)
  where
    by : (b : Bool) → (if b then before Fault (part (ru.Climb l 16) ∷ []) else Fault) ≡ Fault
    by true = refl
    by false = refl
closer_faults so.Left c = refl
closer_faults _ c = refl

pub closer_pull : (s : Sort) → pull (cl.Sign (closer s)) ≡ 0
closer_pull so.Values = refl
closer_pull _ = refl

pub closer_closes : (s : Sort) → closed_by s (cl.Sign (closer s)) ≡ true
closer_closes so.Values = refl
closer_closes so.Case = refl
closer_closes so.SwitchCase = refl
closer_closes _ = refl

pub closer_calm : (s : Sort) → (is_sign si.Else (closer s) ≡ false) × (is_sign si.Comma (closer s) ≡ false)
closer_calm so.Values = (refl, refl)
closer_calm _ = (refl, refl)

start_never : (c : Class) → is_skips (start_row c) ≡ false
start_never cl.Name = refl
start_never (cl.Sign si.Null) = refl
start_never (cl.Sign _) = refl
start_never _ = refl

pub before_never : (r : Row) (ss : List Symbol) → is_skips r ≡ false → is_skips (before r ss) ≡ false
before_never Fault ss e = refl
before_never (Skips cs) ss e = e
before_never (Uses cs rs) ss e = refl

pub level_never : (l : ℕ) (c : Class) → is_skips (level_row l c) ≡ false
level_never l c = by (nat_le l (start_level c))
  where
    by : (b : Bool) → is_skips (if b then before (start_row c) (part (ru.Climb l (start_level c)) ∷ []) else Fault) ≡ false
    by true = before_never (start_row c) _ (start_never c)
    by false = refl

pub led_never : (r : Row) (ds : List Change) → is_skips r ≡ false → is_skips (led_by ds r) ≡ false
led_never Fault ds e = refl
led_never (Skips cs) ds e = e
led_never (Uses cs rs) ds e = refl

statement_never : (c : Class) → is_skips (of_row so.Statement c) ≡ false
statement_never (cl.Sign si.Let) = refl
statement_never (cl.Sign si.Const) = refl
statement_never (cl.Sign si.Defer) = refl
statement_never c = level_never 1 c

pattern_never : (c : Class) → is_skips (of_row so.Pattern c) ≡ false
pattern_never (cl.Sign si.Let) = refl
pattern_never (cl.Sign si.Null) = refl
pattern_never c = type_never c

message_never : (c : Class) → is_skips (of_row so.Message c) ≡ false
message_never cl.Text = refl
message_never _ = refl

dots_never : (c : Class) → is_skips (of_row so.Dots c) ≡ false
dots_never (cl.Sign si.Dots) = refl
dots_never (cl.Sign _) = refl
dots_never _ = refl

by_ref_never : (c : Class) → is_skips (of_row so.ByRef c) ≡ false
by_ref_never (cl.Sign si.Ampersand) = refl
by_ref_never (cl.Sign _) = refl
by_ref_never _ = refl

field_never : (c : Class) → is_skips (of_row so.FieldValue c) ≡ false
field_never cl.Name = refl
field_never _ = refl

let_never : (c : Class) → is_skips (of_row so.Let c) ≡ false
let_never (cl.Sign si.Let) = refl
let_never (cl.Sign _) = refl
let_never _ = refl

binding_never : (c : Class) → is_skips (of_row so.Binding c) ≡ false
binding_never (cl.Sign si.Let) = refl
binding_never (cl.Sign _) = refl
binding_never _ = refl

case_never : (c : Class) → is_skips (of_row so.Case c) ≡ false
case_never (cl.Sign si.Case) = refl
case_never (cl.Sign _) = refl
case_never _ = refl

switch_case_never : (c : Class) → is_skips (of_row so.SwitchCase c) ≡ false
switch_case_never (cl.Sign si.Case) = refl
switch_case_never (cl.Sign _) = refl
switch_case_never _ = refl

use_never : (c : Class) → is_skips (of_row so.Use c) ≡ false
use_never (cl.Sign si.Use) = refl
use_never (cl.Sign _) = refl
use_never _ = refl

import_path_never : (c : Class) → is_skips (of_row so.ImportPath c) ≡ false
import_path_never cl.Name = refl
import_path_never _ = refl

name_never : (c : Class) → is_skips (of_row so.Name c) ≡ false
name_never cl.Name = refl
name_never _ = refl

path_name_never : (c : Class) → is_skips (of_row so.PathName c) ≡ false
path_name_never cl.Name = refl
path_name_never cl.PathWord = refl
path_name_never _ = refl

export_never : (c : Class) → is_skips (of_row so.Export c) ≡ false
export_never (cl.Sign si.Export) = refl
export_never (cl.Sign _) = refl
export_never _ = refl

params_never : (c : Class) → is_skips (of_row so.Params c) ≡ false
params_never (cl.Sign si.LeftParen) = refl
params_never (cl.Sign _) = refl
params_never _ = refl

param_never : (c : Class) → is_skips (of_row so.Param c) ≡ false
param_never cl.Name = refl
param_never _ = refl

word_never : (c : Class) → is_skips (decl_word_row c) ≡ false
word_never (cl.Sign si.Def) = refl
word_never (cl.Sign si.Let) = refl
word_never (cl.Sign si.Const) = refl
word_never (cl.Sign si.Type) = refl
word_never (cl.Sign si.Fn) = refl
word_never (cl.Sign _) = refl
word_never _ = refl

decl_never : (c : Class) → is_skips (of_row so.Decl c) ≡ false
decl_never (cl.Sign si.Export) = refl
decl_never c = led_never (decl_word_row c) (ch.Open ∷ ch.Absent ∷ []) (word_never c)

pub never : (s : Sort) (c : Class) → covered s ≡ true → is_skips (of_row s c) ≡ false
never (so.Level l) c e = level_never l c
never so.Statement c e = statement_never c
never so.Pattern c e = pattern_never c
never so.Message c e = message_never c
never so.Dots c e = dots_never c
never so.ByRef c e = by_ref_never c
never so.FieldValue c e = field_never c
never so.Let c e = let_never c
never so.Binding c e = binding_never c
never so.Case c e = case_never c
never so.SwitchCase c e = switch_case_never c
never so.Values c e = led_never (before (level_row 1 c) (rest_of 1 ki.Values)) (ch.Open ∷ [])
    (before_never (level_row 1 c) _ (level_never 1 c))
never so.Use c e = use_never c
never so.Decl c e = decl_never c
never so.ImportPath c e = import_path_never c
never so.Name c e = name_never c
never so.PathName c e = path_name_never c
never so.Export c e = export_never c
never so.Params c e = params_never c
never so.Param c e = param_never c
never s c e = types_never s c e

pub same_sign : (a b : Sign) → cl.Sign a ≡ cl.Sign b → a ≡ b
same_sign a b e = cc

pub begins : (f n : ℕ) → ReadsTo f n → (s : Sort) (t : Node) → size_of t ≤ n → covered s ≡ true → is_shaped s t ≡ true →
    Begins s (spell f t)
begins f n ih s t z l h =
    let d = closer s in
    let e = class_sign f d in
    let q = closer_calm s in
    first (spell f t)
    (read_kid f n ih s t z l h (sign_token f d ∷ []) [] (begun (start_of 0) []) [] (rw (e, closer_pull s) (omega arith))
    (λ r i. rw (← same_sign d r (sym e ∙ i)) (stops_calm d q.0 q.1 t)) (rw e (closer_closes s))
    ∙ run_done f (sign_token f d) [] (add (plain f t) bottom))
  where
    by_row : (t0 : Token) (u : List Token) (hs : List Group) (r : Row) → of_row s (class_of t0) ≡ r → is_skips r ≡ false →
        run f (t0 ∷ (u ++ sign_token f (closer s) ∷ [])) (of s ∷ []) bottom ≡ Done (sign_token f (closer s) ∷ []) hs → Begins s (t0 ∷ u)
    by_row t0 u hs Fault e q d = absurd (done_not_fails _ _ _ _ d (run_faults f t0 _ (ru.Of s) [] bottom e))
    by_row t0 u hs (Skips cs) e q d = cc
    by_row t0 u hs (Uses cs ss) e q d = record { head = t0; tail = u; changes = cs; symbols = ss; is = refl; uses = e }

    first : (u : List Token) → run f (u ++ sign_token f (closer s) ∷ []) (of s ∷ []) bottom ≡
        Done (sign_token f (closer s) ∷ []) (add (plain f t) bottom) → Begins s u
    first [] d = absurd (done_not_fails _ _ _ _ d
        (run_faults f (sign_token f (closer s)) [] (ru.Of s) [] bottom (rw (class_sign f (closer s)) (closer_faults s l))))
    first (t0 ∷ u) d = by_row t0 u _ (of_row s (class_of t0)) refl (never s (class_of t0) l) d

-- where a tree begins, an optional one is a wanted one
pub run_or : (f : ℕ) (s : Sort) (n : Rule) (other : List Change) (ss : List Symbol) (u v : List Token) (st : List Symbol)
    (gs : List Group) → ((c : Class) → row n c ≡ or_skips (before (of_row s c) ss) other) → (b : Begins s u) →
    run f (u ++ v) (part n ∷ st) gs ≡ run f (u ++ v) (of s ∷ (ss ++ st)) gs
run_or f s n other ss u v st gs is b =
    rw b.is
    (run_uses f b.head (b.tail ++ v) n st gs b.changes (b.symbols ++ ss)
    (is (class_of b.head) ∙ ap (λ r. or_skips (before r ss) other) b.uses)
    ∙ (rw (append_assoc b.symbols ss st) refl)
    ∙ sym (run_uses f b.head (b.tail ++ v) (ru.Of s) (ss ++ st) gs b.changes b.symbols b.uses))

-- the same of a rule with nothing else
pub run_or_none : (f : ℕ) (s : Sort) (n : Rule) (other : List Change) (u v : List Token) (st : List Symbol) (gs : List Group) →
    ((c : Class) → row n c ≡ or_skips (of_row s c) other) → (b : Begins s u) →
    run f (u ++ v) (part n ∷ st) gs ≡ run f (u ++ v) (of s ∷ st) gs
run_or_none f s n other u v st gs is b =
    rw b.is
    (run_uses f b.head (b.tail ++ v) n st gs b.changes b.symbols (is (class_of b.head) ∙ ap (λ r. or_skips r other) b.uses)
    ∙ sym (run_uses f b.head (b.tail ++ v) (ru.Of s) st gs b.changes b.symbols b.uses))

-- ---- kids that are not there

pub absent_kind : (t : Node) → is_absent t ≡ true → (head t).kind ≡ ki.None
absent_kind (branch h (more t ts)) e = cc
absent_kind (branch h none) e = none_kind h.kind (split (is_none h.kind) _ e).0
  where
    none_kind : (k : Kind) → is_none k ≡ true → k ≡ ki.None
    none_kind ki.None e = refl
    none_kind _ e = cc

pub absent_spell : (f : ℕ) (t : Node) → is_absent t ≡ true → spell f t ≡ []
unfolding spell
absent_spell f (branch h ts) e = rw (absent_kind (branch h ts) e) refl

pub absent_plain : (f : ℕ) (t : Node) → is_absent t ≡ true → plain f t ≡ bare_leaf ki.None (start_of f)
absent_plain f (branch h (more t ts)) e = cc
absent_plain f (branch h none) e = ap (λ y. branch y none)
    (nothing_head f h ki.None (absent_kind (branch h none) e) (split (is_none h.kind) (is_own ow.Nothing h) e).1)

-- the sorts of which no tree is nothing, a comma or `...`
abbrev pub stands : Sort → Bool
stands (so.Level l) = nat_le 1 l
stands so.FieldValue = true
stands so.Type = true
stands so.Message = true
stands so.Name = true
stands so.PathName = true
stands so.Param = true
stands _ = false

pub stands_not_alone : (s : Sort) (h : Head) (ts : Nodes) → stands s ≡ true → is_shaped s (branch h ts) ≡ true → stands_alone h.kind ≡ false
stands_not_alone s h ts l e = by_kind s h.kind h.text l (shape s h ts e).admitted
  where
    none_level : (l : ℕ) → nat_le 1 l ≡ true → nat_le l 0 ≡ true → ⊥
    none_level l a b = let x = true_le 1 l a in let y = true_le l 0 b in omega (arith, x, y)

    by_kind : (s : Sort) (k : Kind) (x : List ℕ) → stands s ≡ true → admits s k x ≡ true → stands_alone k ≡ false
    by_kind (so.Level l) ki.None x c e = absurd (none_level l c e)
    by_kind (so.Level l) ki.TrailingComma x c e = absurd (none_level l c e)
    by_kind (so.Level l) ki.Dots x c e = absurd (none_level l c e)
    by_kind so.FieldValue ki.None x c e = cc
    by_kind so.FieldValue ki.TrailingComma x c e = cc
    by_kind so.FieldValue ki.Dots x c e = cc
    by_kind so.Type ki.None x c e = cc
    by_kind so.Type ki.TrailingComma x c e = cc
    by_kind so.Type ki.Dots x c e = cc
    by_kind so.Message ki.None x c e = cc
    by_kind so.Message ki.TrailingComma x c e = cc
    by_kind so.Message ki.Dots x c e = cc
    by_kind _ ki.None x c e = cc
    by_kind _ ki.TrailingComma x c e = cc
    by_kind _ ki.Dots x c e = cc
    by_kind _ _ x c e = refl

-- a kid with a sign before it
pub led_kid : (f : ℕ) (a : Sign) (s : Sort) (t : Node) (us : List Spelled) → stands s ≡ true → is_shaped s t ≡ true →
    all_led f (le.Before a) (((head t).kind, spell f t) ∷ us) ≡ sign_token f a ∷ (spell f t ++ all_led f (le.Before a) us)
led_kid f a s (branch h ts) us l e = rw (stands_not_alone s h ts l e) refl

pub led_absent : (f : ℕ) (a : Sign) (t : Node) (us : List Spelled) → is_absent t ≡ true →
    all_led f (le.Before a) (((head t).kind, spell f t) ∷ us) ≡ all_led f (le.Before a) us
led_absent f a t us e = rw (absent_kind t e, absent_spell f t e) refl

pub is_none_stands : (k : Kind) → stands_alone k ≡ false → is_none k ≡ false
is_none_stands ki.None e = cc
is_none_stands _ e = refl
