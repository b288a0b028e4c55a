-- What a step leaves can be closed, where what it began with could be.
use Rattle.std.proofs.Common.{◌≡◌, ℕ, List, [], ◌∷◌, ◌++◌, Bool, true, false, ◌&&◌, not, codes, refl, subst, if◌then◌else◌}
use Rattle.std.specs.Prelude.{nat_le}
use Rattle.hare_tree.specs.declared.kind.Kind.TheVariants as ki
use Rattle.hare_tree.specs.declared.token.Token.{Token}
use Rattle.hare_tree.specs.declared.form.Sign.{Sign}
use Rattle.hare_tree.specs.declared.form.Sign.TheVariants as si
use Rattle.hare_tree.specs.declared.form.Own.{Own}
use Rattle.hare_tree.specs.declared.form.Own.TheVariants as ow
use Rattle.hare_tree.specs.declared.form.Sort.{Sort}
use Rattle.hare_tree.specs.declared.form.Sort.TheVariants as so
use Rattle.hare_tree.specs.Words.{is_listed}
use Rattle.hare_tree.specs.Levels.{operators, operator_level}
use Rattle.hare_automaton.specs.declared.class.Class.{Class}
use Rattle.hare_automaton.specs.declared.class.Class.TheVariants as cl
use Rattle.hare_automaton.specs.declared.rule.Rule.{Rule}
use Rattle.hare_automaton.specs.declared.rule.Rule.TheVariants as ru
use Rattle.hare_automaton.specs.declared.rule.Symbol.{Symbol}
use Rattle.hare_automaton.specs.declared.rule.Symbol.TheVariants as sy
use Rattle.hare_automaton.specs.declared.rule.Change.TheVariants as ch
use Rattle.hare_automaton.specs.Classes.{class_of}
use Rattle.hare_automaton.specs.Rows.{Row, Fault, Skips, Uses, of, part, before, led_by, has_sign, rest_of}
use Rattle.hare_automaton.specs.TypeRows.{type_row, length_row}
use Rattle.hare_automaton.specs.ExpressionRows.{level_row}
use Rattle.hare_automaton.specs.DeclarationRows.{of_row}
use Rattle.hare_automaton.specs.Table.{row}
use Rattle.hare_automaton.specs.Engine.{Group, close, Goes, wanted, acted, step}
use Rattle.hare_automaton.proofs.Spelled.Paths.{split}
use Rattle.hare_prefixes.proofs.Soundness.Seen.{binary_is}
use Rattle.hare_prefixes.proofs.Completion.Endings.{quiet, is_fault, ender, sort_ok, led_ok, ok, next, good, ender_quiet}
use Rattle.hare_prefixes.proofs.Completion.GoodSorts.{good_append, row_ok, before_ok, led_row_ok, or_ok, at_ok, type_ok, length_ok, level_ok, proper, climb_ok, word_ok, of_ok}

-- ---- all rules

own_ok : (o : Own) (c e : Class) → row_ok (row (ru.Own o) c) e ≡ true
own_ok ow.Name cl.Name e = refl
own_ok ow.Name _ e = refl
own_ok ow.Member cl.Name e = refl
own_ok ow.Member cl.Number e = refl
own_ok ow.Member _ e = refl
own_ok ow.Label (cl.Sign si.Colon) e = refl
own_ok ow.Label (cl.Sign _) e = refl
own_ok ow.Label _ e = refl
own_ok _ c e = refl

led_sort : (a : Sign) (s : Sort) (e : Class) → led_ok a s e ≡ true → sort_ok s e ≡ true
led_sort a so.Message e h = refl
led_sort a _ e h = h

use_part_ok : (c e : Class) → row_ok (row ru.AfterUsePart c) e ≡ true
use_part_ok (cl.Sign si.PathMark) e = refl
use_part_ok (cl.Sign si.Semicolon) e = refl
use_part_ok (cl.Sign _) e = refl
use_part_ok _ e = refl

pub row_good : (n : Rule) (c e : Class) → ok n e ≡ true → proper c ≡ true → row_ok (row n c) e ≡ true
row_good (ru.Of s) c e h p = of_ok s c e h
row_good (ru.Own o) c e h p = own_ok o c e
row_good (ru.Optional s) c e h p = or_ok (of_row s c) (ch.Absent ∷ []) e (of_ok s c e (split (is_fault (of_row s e)) (sort_ok s e) h).1)
row_good (ru.Led a s) c e h p = at_ok a c [] (ch.Absent ∷ []) (of s ∷ []) e (rw (led_sort a s e h) refl)
row_good (ru.Each s) c e h p = or_ok (before (of_row s c) (part (ru.Each s) ∷ [])) [] e
    (before_ok (of_row s c) (part (ru.Each s) ∷ []) e (of_ok s c e (split (ender e) (sort_ok s e) h).1) (rw h refl))
row_good (ru.EachLed a s) c e h p = at_ok a c [] [] (of s ∷ part (ru.EachLed a s) ∷ []) e
    (let q = split (not (has_sign a e)) (sort_ok s e) h in rw (q.0, q.1) refl)
row_good (ru.EachFollowed s a) c e h p =
    let q = split (ender e) (sort_ok s (cl.Sign a)) h in
    let ss : List Symbol = sy.Want a ∷ part (ru.EachFollowed s a) ∷ [] in
    or_ok (before (of_row s c) ss) [] e (before_ok (of_row s c) ss e (of_ok s c (cl.Sign a) q.1) (rw (q.0, q.1) refl))
row_good (ru.List s) c e h p = or_ok (before (of_row s c) (part (ru.More s) ∷ [])) (ch.Absent ∷ []) e
    (before_ok (of_row s c) (part (ru.More s) ∷ []) e (of_ok s c e (split (ender e) (sort_ok s e) h).1) (rw h refl))
row_good (ru.More s) c e h p = at_ok si.Comma c (ch.Open ∷ []) (ch.Absent ∷ []) (part (ru.BehindComma s) ∷ []) e (rw h refl)
row_good (ru.BehindComma s) c e h p = or_ok (led_by (ch.Drop ∷ []) (before (of_row s c) (part (ru.More s) ∷ [])))
    (ch.Close ki.TrailingComma ∷ []) e (led_row_ok (ch.Drop ∷ []) (before (of_row s c) (part (ru.More s) ∷ [])) e
    (before_ok (of_row s c) (part (ru.More s) ∷ []) e (of_ok s c e (split (ender e) (sort_ok s e) h).1) (rw h refl)))
row_good ru.Elements c e h p = or_ok (before (level_row 1 c) (part ru.MoreElements ∷ [])) (ch.Absent ∷ ch.Absent ∷ []) e
    (before_ok (level_row 1 c) (part ru.MoreElements ∷ []) e (level_ok 1 c e refl refl (ender_quiet e h)) (rw h refl))
row_good ru.MoreElements (cl.Sign si.Comma) e h p = rw h refl
row_good ru.MoreElements (cl.Sign si.Dots) e h p = rw h refl
row_good ru.MoreElements (cl.Sign _) e h p = refl
row_good ru.MoreElements _ e h p = refl
row_good ru.BehindElementComma c e h p = or_ok (led_by (ch.Drop ∷ ch.Drop ∷ []) (before (level_row 1 c) (part ru.MoreElements ∷ [])))
    (ch.Close ki.TrailingComma ∷ ch.Lift ∷ []) e
    (led_row_ok (ch.Drop ∷ ch.Drop ∷ []) (before (level_row 1 c) (part ru.MoreElements ∷ [])) e
    (before_ok (level_row 1 c) (part ru.MoreElements ∷ []) e (level_ok 1 c e refl refl (ender_quiet e h)) (rw h refl)))
row_good ru.LastComma (cl.Sign si.Comma) e h p = refl
row_good ru.LastComma (cl.Sign _) e h p = refl
row_good ru.LastComma _ e h p = refl
row_good (ru.PathRest k) (cl.Sign si.PathMark) e h p = rw h refl
row_good (ru.PathRest k) (cl.Sign _) e h p = refl
row_good (ru.PathRest k) _ e h p = refl
row_good ru.PathOrStruct (cl.Sign si.PathMark) e h p = rw h refl
row_good ru.PathOrStruct (cl.Sign si.LeftBrace) e h p = refl
row_good ru.PathOrStruct (cl.Sign _) e h p = refl
row_good ru.PathOrStruct _ e h p = refl
row_good ru.PathName cl.Name e h p = refl
row_good ru.PathName cl.PathWord e h p = refl
row_good ru.PathName _ e h p = refl
row_good ru.InBracket (cl.Sign si.RightBracket) e h p = rw h refl
row_good ru.InBracket c e h p = before_ok (length_row c) (rest_of 2 ki.TypeArray) e (length_ok c (cl.Sign si.RightBracket) refl) (rw h refl)
row_good ru.FirstMember (cl.Sign si.Dots) e h p = refl
row_good ru.FirstMember c e h p = before_ok (type_row c) (part ru.AfterType ∷ []) e (type_ok c (cl.Sign si.Comma) refl) refl
row_good ru.AfterType (cl.Sign si.Comma) e h p = refl
row_good ru.AfterType (cl.Sign si.Bar) e h p = refl
row_good ru.AfterType (cl.Sign _) e h p = refl
row_good ru.AfterType _ e h p = refl
row_good ru.AfterSpread (cl.Sign si.Bar) e h p = refl
row_good ru.AfterSpread (cl.Sign _) e h p = refl
row_good ru.AfterSpread _ e h p = refl
row_good (ru.Climb l j) c e h p =
    let q = split (nat_le 1 l && nat_le l 16) (quiet e) h in let r = split (nat_le 1 l) (nat_le l 16) q.0 in climb_ok l j c e r.0 r.1 q.1 p
row_good ru.AfterValue (cl.Sign si.RightParen) e h p = refl
row_good ru.AfterValue (cl.Sign si.Comma) e h p = refl
row_good ru.AfterValue (cl.Sign _) e h p = refl
row_good ru.AfterValue _ e h p = refl
row_good ru.InIndex (cl.Sign si.DotDot) e h p = refl
row_good ru.InIndex c e h p = before_ok (level_row 1 c) (part ru.AfterIndex ∷ []) e (level_ok 1 c (cl.Sign si.RightBracket) refl refl refl)
    refl
row_good ru.AfterIndex (cl.Sign si.RightBracket) e h p = refl
row_good ru.AfterIndex (cl.Sign si.DotDot) e h p = refl
row_good ru.AfterIndex (cl.Sign _) e h p = refl
row_good ru.AfterIndex _ e h p = refl
row_good ru.AfterYield (cl.Sign si.Colon) e h p = rw h refl
row_good ru.AfterYield c e h p = or_ok (before (level_row 1 c) (sy.Close ki.Yield ∷ [])) (ch.Absent ∷ ch.Close ki.Yield ∷ []) e
    (before_ok (level_row 1 c) (sy.Close ki.Yield ∷ []) e (level_ok 1 c e refl refl h) refl)
row_good ru.ForHead (cl.Sign si.Let) e h p = rw h refl
row_good ru.ForHead c e h p = led_row_ok (ch.Absent ∷ []) (before (level_row 1 c) (rest_of 5 ki.For)) e
    (before_ok (level_row 1 c) (rest_of 5 ki.For) e (level_ok 1 c (cl.Sign si.Semicolon) refl refl refl) (rw h refl))
row_good ru.AfterForName (cl.Sign si.Colon) e h p = rw h refl
row_good ru.AfterForName (cl.Sign si.Equals) e h p = rw h refl
row_good ru.AfterForName (cl.Sign si.DotDot) e h p = rw h refl
row_good ru.AfterForName (cl.Sign si.Ampersand) e h p = rw h refl
row_good ru.AfterForName (cl.Sign _) e h p = refl
row_good ru.AfterForName _ e h p = refl
row_good ru.DeclWord c e h p = word_ok c e
row_good ru.UseStart cl.Name e h p = refl
row_good ru.UseStart _ e h p = refl
row_good ru.AfterUseName (cl.Sign si.Equals) e h p = refl
row_good ru.AfterUseName c e h p = use_part_ok c e
row_good ru.AfterUseMark cl.Name e h p = refl
row_good ru.AfterUseMark cl.PathWord e h p = refl
row_good ru.AfterUseMark (cl.Sign si.LeftBrace) e h p = refl
row_good ru.AfterUseMark (cl.Sign _) e h p = refl
row_good ru.AfterUseMark _ e h p = refl
row_good ru.AfterUsePart c e h p = use_part_ok c e

-- ---- steps

went : (st st' : List Symbol) (gs gs' : List Group) (e : Class) → Goes st gs ≡ Goes st' gs' → good st e ≡ true → good st' e ≡ true
went st st' gs gs' e i g = let x : st ≡ st' = cc in subst (λ y. good y e ≡ true) x g

pub step_good : (f : ℕ) (t : Token) (c : Class) (st st' : List Symbol) (gs gs' : List Group) (e : Class) → good st e ≡ true →
    proper c ≡ true → step f t c st gs ≡ Goes st' gs' → good st' e ≡ true
unfolding step
step_good f t c [] st' gs gs' e g p i = cc
step_good f t c (sy.Close k ∷ st) st' gs gs' e g p i = step_good f t c st st' (close k gs) gs' e g p i
step_good f t c (sy.Want d ∷ st) st' gs gs' e g p i = by (has_sign d c) i
  where
    by : (b : Bool) → wanted b (Goes st gs) ≡ Goes st' gs' → good st' e ≡ true
    by true i = went st st' gs gs' e i g
    by false i = cc
step_good f t c (sy.Part n ∷ st) st' gs gs' e g p i =
    let q = split (ok n (next st e)) (good st e) g in
    by (row n c) (row_good n c (next st e) q.0 p) i (λ hs j. step_good f t c st st' hs gs' e q.1 p j) q.1
  where
    by : (r : Row) → row_ok r (next st e) ≡ true → acted r f t st gs (λ hs. step f t c st hs) ≡ Goes st' gs' →
        ((hs : List Group) → step f t c st hs ≡ Goes st' gs' → good st' e ≡ true) → good st e ≡ true → good st' e ≡ true
    by Fault a i k z = cc
    by (Skips cs) a i k z = k _ i
    by (Uses cs ss) a i k z = went (ss ++ st) st' _ gs' e i (good_append ss st e a z)

-- ---- the classes of tokens

level_top : (x : List ℕ) → nat_le (operator_level x) 15 ≡ true
level_top x = by (is_listed (codes "*" ∷ codes "/" ∷ codes "%" ∷ []) x) (is_listed (codes "+" ∷ codes "-" ∷ []) x)
    (is_listed (operators ki.Shift) x) (is_listed (codes "&" ∷ []) x) (is_listed (codes "^" ∷ []) x) (is_listed (codes "|" ∷ []) x)
    (is_listed (operators ki.Less) x) (is_listed (operators ki.Equal) x) (is_listed (codes "&&" ∷ []) x) (is_listed (codes "^^" ∷ []) x)
  where
    by : (a b c d e f g h i j : Bool) → nat_le
        (if a then 12 else if b then 11 else if c then 10 else if d then 9 else if e then 8 else if f then 7 else if g then 6 else if h then
        5 else if i then 4 else if j then 3 else 2) 15 ≡ true
    by true b c d e f g h i j = refl
    by false true c d e f g h i j = refl
    by false false true d e f g h i j = refl
    by false false false true e f g h i j = refl
    by false false false false true f g h i j = refl
    by false false false false false true g h i j = refl
    by false false false false false false true h i j = refl
    by false false false false false false false true i j = refl
    by false false false false false false false false true j = refl
    by false false false false false false false false false true = refl
    by false false false false false false false false false false = refl

pub class_proper : (t : Token) → proper (class_of t) ≡ true
class_proper t = by (class_of t) refl
  where
    by : (c : Class) → class_of t ≡ c → proper c ≡ true
    by (cl.Binary m) i = let b = binary_is t m i in subst (λ y. nat_le y 15 ≡ true) b.level (level_top t.text)
    by _ i = refl
