-- What a run makes in front of a token does not depend on the token: a rule that is over looks at no token.
use Rattle.std.proofs.Common.{◌≡◌, ℕ, List, [], ◌∷◌, ◌++◌, Bool, true, false, ◌&&◌, refl, ap, sym, ◌∙◌, if◌then◌else◌}
use Rattle.std.specs.Prelude.{nat_le}
use Rattle.std.specs.List.{list_all}
use Rattle.hare_tree.specs.declared.kind.Kind.TheVariants as ki
use Rattle.hare_tree.specs.declared.token.Token.{Token}
use Rattle.hare_tree.specs.declared.form.Sign.{Sign}
use Rattle.hare_tree.specs.declared.form.Sign.TheVariants as si
use Rattle.hare_tree.specs.declared.form.Own.{Own}
use Rattle.hare_tree.specs.declared.form.Own.TheVariants as ow
use Rattle.hare_tree.specs.declared.form.Sort.{Sort}
use Rattle.hare_tree.specs.declared.form.Sort.TheVariants as so
use Rattle.hare_automaton.specs.declared.class.Class.{Class}
use Rattle.hare_automaton.specs.declared.class.Class.TheVariants as cl
use Rattle.hare_automaton.specs.declared.rule.Rule.{Rule}
use Rattle.hare_automaton.specs.declared.rule.Rule.TheVariants as ru
use Rattle.hare_automaton.specs.declared.rule.Symbol.{Symbol}
use Rattle.hare_automaton.specs.declared.rule.Symbol.TheVariants as sy
use Rattle.hare_automaton.specs.declared.rule.Change.{Change}
use Rattle.hare_automaton.specs.declared.rule.Change.TheVariants as ch
use Rattle.hare_automaton.specs.Rows.{Row, Fault, Skips, Uses, of, part, before, led_by, or_skips, has_sign, at_sign, rest_of}
use Rattle.hare_automaton.specs.TypeRows.{bare_row, type_row, member_row, length_row}
use Rattle.hare_automaton.specs.ExpressionRows.{start_row, start_level, level_row, climbs, assigns, binary_at, behind_operand, climb_row}
use Rattle.hare_automaton.specs.DeclarationRows.{of_row, decl_word_row}
use Rattle.hare_automaton.specs.Table.{row}
use Rattle.hare_automaton.specs.Engine.{Group, changed, all_changed, close, Goes, Ends, wanted, acted, step}
use Rattle.hare_automaton.proofs.Spelled.Paths.{split}
use Rattle.hare_prefixes.proofs.Outcomes.Breaks.{both}

-- ---- changes that look at no token

abbrev is_blind : Change → Bool
is_blind ch.Absent = true
is_blind (ch.Close k) = true
is_blind ch.Lift = true
is_blind ch.Drop = true
is_blind _ = false

blind_change : (f : ℕ) (t t' : Token) (d : Change) (gs : List Group) → is_blind d ≡ true → changed f t d gs ≡ changed f t' d gs
blind_change f t t' ch.Absent gs e = refl
blind_change f t t' (ch.Close k) gs e = refl
blind_change f t t' ch.Lift gs e = refl
blind_change f t t' ch.Drop gs e = refl
blind_change f t t' _ gs e = cc

blind_changes : (f : ℕ) (t t' : Token) (ds : List Change) (gs : List Group) → list_all is_blind ds ≡ true →
    all_changed f t ds gs ≡ all_changed f t' ds gs
blind_changes f t t' [] gs e = refl
blind_changes f t t' (d ∷ ds) gs e =
    let p = split (is_blind d) (list_all is_blind ds) e in
    blind_changes f t t' ds (changed f t d gs) p.1 ∙ ap (all_changed f t' ds) (blind_change f t t' d gs p.0)

-- where the row is over, it looks at no token
abbrev row_blind : Row → Bool
row_blind Fault = true
row_blind (Skips cs) = list_all is_blind cs
row_blind (Uses cs ss) = true

before_blind : (r : Row) (ss : List Symbol) → row_blind r ≡ true → row_blind (before r ss) ≡ true
before_blind Fault ss a = refl
before_blind (Skips cs) ss a = a
before_blind (Uses cs rs) ss a = refl

all_append : (ds cs : List Change) → list_all is_blind ds ≡ true → list_all is_blind cs ≡ true → list_all is_blind (ds ++ cs) ≡ true
all_append [] cs a b = b
all_append (d ∷ ds) cs a b =
    let p = split (is_blind d) (list_all is_blind ds) a in both (is_blind d) (list_all is_blind (ds ++ cs)) p.0 (all_append ds cs p.1 b)

led_blind : (ds : List Change) (r : Row) → list_all is_blind ds ≡ true → row_blind r ≡ true → row_blind (led_by ds r) ≡ true
led_blind ds Fault a b = refl
led_blind ds (Skips cs) a b = all_append ds cs a b
led_blind ds (Uses cs rs) a b = refl

or_blind : (r : Row) (ds : List Change) → list_all is_blind ds ≡ true → row_blind (or_skips r ds) ≡ true
or_blind Fault ds a = a
or_blind (Skips cs) ds a = a
or_blind (Uses cs rs) ds a = refl

at_blind : (a : Sign) (c : Class) (cs ds : List Change) (ss : List Symbol) → list_all is_blind ds ≡ true →
    row_blind (at_sign a c (Uses cs ss) (Skips ds)) ≡ true
at_blind a c cs ds ss g = by (has_sign a c)
  where
    by : (b : Bool) → row_blind (if b then Uses cs ss else Skips ds) ≡ true
    by true = refl
    by false = g

-- the row is not over before it uses a token
abbrev pub row_sure : Row → Bool
row_sure Fault = true
row_sure (Skips cs) = false
row_sure (Uses cs ss) = true

sure_blind : (r : Row) → row_sure r ≡ true → row_blind r ≡ true
sure_blind Fault e = refl
sure_blind (Skips cs) e = cc
sure_blind (Uses cs ss) e = refl

pub before_sure : (r : Row) (ss : List Symbol) → row_sure r ≡ true → row_sure (before r ss) ≡ true
before_sure Fault ss a = refl
before_sure (Skips cs) ss a = cc
before_sure (Uses cs rs) ss a = refl

pub led_sure : (ds : List Change) (r : Row) → row_sure r ≡ true → row_sure (led_by ds r) ≡ true
led_sure ds Fault a = refl
led_sure ds (Skips cs) a = cc
led_sure ds (Uses cs rs) a = refl

-- ---- types

bare_sure : (c : Class) → row_sure (bare_row c) ≡ true
bare_sure cl.Scalar = refl
bare_sure (cl.Sign si.Size) = refl
bare_sure (cl.Sign _) = refl
bare_sure _ = refl

pub type_sure : (c : Class) → row_sure (type_row c) ≡ true
type_sure (cl.Sign si.Bang) = refl
type_sure c = bare_sure c

member_sure : (c : Class) → row_sure (member_row c) ≡ true
member_sure (cl.Sign si.Dots) = refl
member_sure c = type_sure c

pub length_sure : (c : Class) → row_sure (length_row c) ≡ true
length_sure cl.Number = refl
length_sure _ = refl

-- ---- expressions

start_sure : (c : Class) → row_sure (start_row c) ≡ true
start_sure cl.Name = refl
start_sure (cl.Sign si.Minus) = refl
start_sure (cl.Sign _) = refl
start_sure _ = refl

pub level_sure : (l : ℕ) (c : Class) → row_sure (level_row l c) ≡ true
level_sure l c = by (nat_le l (start_level c))
  where
    by : (z : Bool) → row_sure (if z then before (start_row c) (part (ru.Climb l (start_level c)) ∷ []) else Fault) ≡ true
    by true = before_sure (start_row c) (part (ru.Climb l (start_level c)) ∷ []) (start_sure c)
    by false = refl

climbs_blind : (l h m : ℕ) (r : Row) → row_blind r ≡ true → row_blind (climbs l h m r) ≡ true
climbs_blind l h m r g = by (nat_le l m && nat_le m h)
  where
    by : (z : Bool) → row_blind (if z then before r (part (ru.Climb l m) ∷ []) else Skips []) ≡ true
    by true = before_blind r (part (ru.Climb l m) ∷ []) g
    by false = refl

assigns_blind : (l h : ℕ) (r : Row) → row_blind r ≡ true → row_blind (assigns l h r) ≡ true
assigns_blind l h r g = by (nat_le l 1 && nat_le 14 h)
  where
    by : (z : Bool) → row_blind (if z then before r (part (ru.Climb l 1) ∷ []) else Skips []) ≡ true
    by true = before_blind r (part (ru.Climb l 1) ∷ []) g
    by false = refl

climb_blind : (l h : ℕ) (c : Class) → row_blind (climb_row l h c) ≡ true
climb_blind l h (cl.Binary m) = climbs_blind l h m (binary_at m) refl
climb_blind l h cl.OpAssign = assigns_blind l h (Uses (ch.Over ∷ ch.Take ∷ []) (of (so.Level 1) ∷ sy.Close ki.OpAssign ∷ [])) refl
climb_blind l h (cl.Sign si.Equals) = assigns_blind l h (behind_operand ki.Assign) refl
climb_blind l h (cl.Sign si.Star) = climbs_blind l h 12 (binary_at 12) refl
climb_blind l h (cl.Sign si.Minus) = climbs_blind l h 11 (binary_at 11) refl
climb_blind l h (cl.Sign si.Ampersand) = climbs_blind l h 9 (binary_at 9) refl
climb_blind l h (cl.Sign si.Bar) = climbs_blind l h 7 (binary_at 7) refl
climb_blind l h (cl.Sign si.Colon) = climbs_blind l h 13 (behind_operand ki.Cast) refl
climb_blind l h (cl.Sign si.As) = climbs_blind l h 13 (behind_operand ki.As) refl
climb_blind l h (cl.Sign si.Is) = climbs_blind l h 13 (behind_operand ki.Is) refl
climb_blind l h (cl.Sign si.LeftParen) = climbs_blind l h 15 (behind_operand ki.Call) refl
climb_blind l h (cl.Sign si.LeftBracket) = climbs_blind l h 15 (Uses (ch.Over ∷ []) (part ru.InIndex ∷ [])) refl
climb_blind l h (cl.Sign si.Dot) = climbs_blind l h 15 (behind_operand ki.Field) refl
climb_blind l h (cl.Sign si.Question) = climbs_blind l h 15 (behind_operand ki.Try) refl
climb_blind l h (cl.Sign si.Bang) = climbs_blind l h 15 (behind_operand ki.Force) refl
climb_blind l h (cl.Sign _) = refl
climb_blind l h _ = refl

-- ---- sorts

pub word_sure : (c : Class) → row_sure (decl_word_row c) ≡ true
word_sure (cl.Sign si.Def) = refl
word_sure (cl.Sign _) = refl
word_sure _ = refl

pub of_sure : (s : Sort) (c : Class) → row_sure (of_row s c) ≡ true
of_sure so.Type c = type_sure c
of_sure so.BareType c = bare_sure c
of_sure so.Member c = member_sure c
of_sure so.Length c = length_sure c
of_sure (so.Level n) c = level_sure n c
of_sure so.Statement (cl.Sign si.Let) = refl
of_sure so.Statement (cl.Sign si.Const) = refl
of_sure so.Statement (cl.Sign si.Defer) = refl
of_sure so.Statement c = level_sure 1 c
of_sure so.Pattern (cl.Sign si.Let) = refl
of_sure so.Pattern (cl.Sign si.Null) = refl
of_sure so.Pattern c = type_sure c
of_sure so.Values c = led_sure (ch.Open ∷ []) (before (level_row 1 c) (rest_of 1 ki.Values))
    (before_sure (level_row 1 c) (rest_of 1 ki.Values) (level_sure 1 c))
of_sure so.Decl (cl.Sign si.Export) = refl
of_sure so.Decl c = led_sure (ch.Open ∷ ch.Absent ∷ []) (decl_word_row c) (word_sure c)
of_sure so.Left c = refl
of_sure so.Right c = refl
of_sure _ (cl.Sign si.Use) = refl
of_sure _ (cl.Sign _) = refl
of_sure _ _ = refl

-- ---- all rules

own_blind : (o : Own) (c : Class) → row_blind (row (ru.Own o) c) ≡ true
own_blind ow.Name cl.Name = refl
own_blind ow.Name _ = refl
own_blind ow.Member cl.Name = refl
own_blind ow.Member cl.Number = refl
own_blind ow.Member _ = refl
own_blind ow.Label (cl.Sign si.Colon) = refl
own_blind ow.Label (cl.Sign _) = refl
own_blind ow.Label _ = refl
own_blind _ c = refl

use_part_blind : (c : Class) → row_blind (row ru.AfterUsePart c) ≡ true
use_part_blind (cl.Sign si.PathMark) = refl
use_part_blind (cl.Sign _) = refl
use_part_blind _ = refl

row_is_blind : (n : Rule) (c : Class) → row_blind (row n c) ≡ true
row_is_blind (ru.Of s) c = sure_blind (of_row s c) (of_sure s c)
row_is_blind (ru.Own o) c = own_blind o c
row_is_blind (ru.Optional s) c = or_blind (of_row s c) (ch.Absent ∷ []) refl
row_is_blind (ru.Led a s) c = at_blind a c [] (ch.Absent ∷ []) (of s ∷ []) refl
row_is_blind (ru.Each s) c = or_blind (before (of_row s c) (part (ru.Each s) ∷ [])) [] refl
row_is_blind (ru.EachLed a s) c = at_blind a c [] [] (of s ∷ part (ru.EachLed a s) ∷ []) refl
row_is_blind (ru.EachFollowed s a) c = or_blind (before (of_row s c) (sy.Want a ∷ part (ru.EachFollowed s a) ∷ [])) [] refl
row_is_blind (ru.List s) c = or_blind (before (of_row s c) (part (ru.More s) ∷ [])) (ch.Absent ∷ []) refl
row_is_blind (ru.More s) c = at_blind si.Comma c (ch.Open ∷ []) (ch.Absent ∷ []) (part (ru.BehindComma s) ∷ []) refl
row_is_blind (ru.BehindComma s) c = or_blind (led_by (ch.Drop ∷ []) (before (of_row s c) (part (ru.More s) ∷ [])))
    (ch.Close ki.TrailingComma ∷ []) refl
row_is_blind ru.Elements c = or_blind (before (level_row 1 c) (part ru.MoreElements ∷ [])) (ch.Absent ∷ ch.Absent ∷ []) refl
row_is_blind ru.MoreElements (cl.Sign si.Comma) = refl
row_is_blind ru.MoreElements (cl.Sign _) = refl
row_is_blind ru.MoreElements _ = refl
row_is_blind ru.BehindElementComma c = or_blind (led_by (ch.Drop ∷ ch.Drop ∷ []) (before (level_row 1 c) (part ru.MoreElements ∷ [])))
    (ch.Close ki.TrailingComma ∷ ch.Lift ∷ []) refl
row_is_blind ru.LastComma (cl.Sign si.Comma) = refl
row_is_blind ru.LastComma (cl.Sign _) = refl
row_is_blind ru.LastComma _ = refl
row_is_blind (ru.PathRest k) (cl.Sign si.PathMark) = refl
row_is_blind (ru.PathRest k) (cl.Sign _) = refl
row_is_blind (ru.PathRest k) _ = refl
row_is_blind ru.PathOrStruct (cl.Sign si.PathMark) = refl
row_is_blind ru.PathOrStruct (cl.Sign _) = refl
row_is_blind ru.PathOrStruct _ = refl
row_is_blind ru.PathName cl.Name = refl
row_is_blind ru.PathName _ = refl
row_is_blind ru.InBracket (cl.Sign si.RightBracket) = refl
row_is_blind ru.InBracket c = before_blind (length_row c) (rest_of 2 ki.TypeArray) (sure_blind (length_row c) (length_sure c))
row_is_blind ru.FirstMember (cl.Sign si.Dots) = refl
row_is_blind ru.FirstMember c = before_blind (type_row c) (part ru.AfterType ∷ []) (sure_blind (type_row c) (type_sure c))
row_is_blind ru.AfterType (cl.Sign si.Comma) = refl
row_is_blind ru.AfterType (cl.Sign _) = refl
row_is_blind ru.AfterType _ = refl
row_is_blind ru.AfterSpread (cl.Sign si.Bar) = refl
row_is_blind ru.AfterSpread (cl.Sign _) = refl
row_is_blind ru.AfterSpread _ = refl
row_is_blind (ru.Climb l j) c = climb_blind l j c
row_is_blind ru.AfterValue (cl.Sign si.Comma) = refl
row_is_blind ru.AfterValue (cl.Sign _) = refl
row_is_blind ru.AfterValue _ = refl
row_is_blind ru.InIndex (cl.Sign si.DotDot) = refl
row_is_blind ru.InIndex c = before_blind (level_row 1 c) (part ru.AfterIndex ∷ []) (sure_blind (level_row 1 c) (level_sure 1 c))
row_is_blind ru.AfterIndex (cl.Sign si.DotDot) = refl
row_is_blind ru.AfterIndex (cl.Sign _) = refl
row_is_blind ru.AfterIndex _ = refl
row_is_blind ru.AfterYield (cl.Sign si.Colon) = refl
row_is_blind ru.AfterYield c = or_blind (before (level_row 1 c) (sy.Close ki.Yield ∷ [])) (ch.Absent ∷ ch.Close ki.Yield ∷ []) refl
row_is_blind ru.ForHead (cl.Sign si.Let) = refl
row_is_blind ru.ForHead c = led_blind (ch.Absent ∷ []) (before (level_row 1 c) (rest_of 5 ki.For)) refl
    (before_blind (level_row 1 c) (rest_of 5 ki.For) (sure_blind (level_row 1 c) (level_sure 1 c)))
row_is_blind ru.AfterForName (cl.Sign si.Colon) = refl
row_is_blind ru.AfterForName (cl.Sign _) = refl
row_is_blind ru.AfterForName _ = refl
row_is_blind ru.DeclWord c = sure_blind (decl_word_row c) (word_sure c)
row_is_blind ru.UseStart cl.Name = refl
row_is_blind ru.UseStart _ = refl
row_is_blind ru.AfterUseName (cl.Sign si.Equals) = refl
row_is_blind ru.AfterUseName c = use_part_blind c
row_is_blind ru.AfterUseMark cl.Name = refl
row_is_blind ru.AfterUseMark (cl.Sign si.LeftBrace) = refl
row_is_blind ru.AfterUseMark (cl.Sign _) = refl
row_is_blind ru.AfterUseMark _ = refl
row_is_blind ru.AfterUsePart c = use_part_blind c

-- ---- steps

-- where nothing is waited for, the trees are the same whatever the token
pub same_end : (f : ℕ) (t t' : Token) (c : Class) (st : List Symbol) (gs made : List Group) → step f t c st gs ≡ Ends made →
    step f t' c st gs ≡ Ends made
unfolding step
same_end f t t' c [] gs made e = e
same_end f t t' c (sy.Close k ∷ st) gs made e = same_end f t t' c st (close k gs) made e
same_end f t t' c (sy.Want d ∷ st) gs made e = by (has_sign d c) e
  where
    by : (b : Bool) → wanted b (Goes st gs) ≡ Ends made → wanted b (Goes st gs) ≡ Ends made
    by b i = i
same_end f t t' c (sy.Part n ∷ st) gs made e = by (row n c) (row_is_blind n c) e (λ hs j. same_end f t t' c st hs made j)
  where
    by : (r : Row) → row_blind r ≡ true → acted r f t st gs (λ hs. step f t c st hs) ≡ Ends made →
        ((hs : List Group) → step f t c st hs ≡ Ends made → step f t' c st hs ≡ Ends made) →
        acted r f t' st gs (λ hs. step f t' c st hs) ≡ Ends made
    by Fault b i k = cc
    by (Skips cs) b i k = ap (λ hs. step f t' c st hs) (sym (blind_changes f t t' cs gs b)) ∙ k _ i
    by (Uses cs ss) b i k = cc
