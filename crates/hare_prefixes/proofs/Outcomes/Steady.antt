-- A rule that may be over in front of one token faults at none: where a run is over at some token, it is stuck at no other.
use Rattle.std.proofs.Common.{◌≡◌, ℕ, List, [], ◌∷◌, Bool, true, false, ◌&&◌, not, refl, if◌then◌else◌}
use Rattle.std.specs.Prelude.{nat_le}
use Rattle.hare_tree.specs.declared.kind.Kind.TheVariants as ki
use Rattle.hare_tree.specs.declared.token.Token.{Token}
use Rattle.hare_tree.specs.declared.form.Sign.{Sign}
use Rattle.hare_tree.specs.declared.form.Sign.TheVariants as si
use Rattle.hare_tree.specs.declared.form.Own.{Own}
use Rattle.hare_tree.specs.declared.form.Own.TheVariants as ow
use Rattle.hare_tree.specs.declared.form.Sort.TheVariants as so
use Rattle.hare_automaton.specs.declared.class.Class.{Class}
use Rattle.hare_automaton.specs.declared.class.Class.TheVariants as cl
use Rattle.hare_automaton.specs.declared.rule.Rule.{Rule}
use Rattle.hare_automaton.specs.declared.rule.Rule.TheVariants as ru
use Rattle.hare_automaton.specs.declared.rule.Symbol.{Symbol}
use Rattle.hare_automaton.specs.declared.rule.Symbol.TheVariants as sy
use Rattle.hare_automaton.specs.declared.rule.Change.{Change}
use Rattle.hare_automaton.specs.declared.rule.Change.TheVariants as ch
use Rattle.hare_automaton.specs.Rows.{Row, Fault, Skips, Uses, of, part, before, led_by, or_skips, has_sign, at_sign, rest_of}
use Rattle.hare_automaton.specs.TypeRows.{type_row, length_row}
use Rattle.hare_automaton.specs.ExpressionRows.{level_row, climbs, assigns, binary_at, behind_operand, climb_row}
use Rattle.hare_automaton.specs.DeclarationRows.{of_row, decl_word_row}
use Rattle.hare_automaton.specs.Table.{row}
use Rattle.hare_automaton.specs.Engine.{Group, close, Goes, Ends, Stuck, wanted, acted, step}
use Rattle.hare_prefixes.proofs.Outcomes.Blind.{row_sure, before_sure, led_sure, type_sure, length_sure, level_sure, word_sure, of_sure}

-- ---- rows

-- the rule may be over before it uses a token
abbrev may_end : Rule → Bool
may_end (ru.Own ow.Label) = true
may_end (ru.Optional s) = true
may_end (ru.Led a s) = true
may_end (ru.Each s) = true
may_end (ru.EachLed a s) = true
may_end (ru.EachFollowed s a) = true
may_end (ru.List s) = true
may_end (ru.More s) = true
may_end (ru.BehindComma s) = true
may_end ru.Elements = true
may_end ru.MoreElements = true
may_end ru.BehindElementComma = true
may_end ru.LastComma = true
may_end (ru.PathRest k) = true
may_end ru.PathOrStruct = true
may_end (ru.Climb l h) = true
may_end ru.AfterYield = true
may_end _ = false

-- a rule that may be over has no fault, and each other is not over
abbrev is_steady : Bool → Row → Bool
is_steady b Fault = not b
is_steady b (Skips cs) = b
is_steady b (Uses cs ss) = true

sure_stays : (r : Row) → row_sure r ≡ true → is_steady false r ≡ true
sure_stays Fault e = refl
sure_stays (Skips cs) e = cc
sure_stays (Uses cs ss) e = refl

or_ends : (r : Row) (ds : List Change) → is_steady true (or_skips r ds) ≡ true
or_ends Fault ds = refl
or_ends (Skips cs) ds = refl
or_ends (Uses cs rs) ds = refl

at_ends : (a : Sign) (c : Class) (cs ds : List Change) (ss : List Symbol) → is_steady true (at_sign a c (Uses cs ss) (Skips ds)) ≡ true
at_ends a c cs ds ss = by (has_sign a c)
  where
    by : (b : Bool) → is_steady true (if b then Uses cs ss else Skips ds) ≡ true
    by true = refl
    by false = refl

before_ends : (r : Row) (ss : List Symbol) → is_steady true r ≡ true → is_steady true (before r ss) ≡ true
before_ends Fault ss a = cc
before_ends (Skips cs) ss a = refl
before_ends (Uses cs rs) ss a = refl

climbs_steady : (l h m : ℕ) (r : Row) → is_steady true r ≡ true → is_steady true (climbs l h m r) ≡ true
climbs_steady l h m r g = by (nat_le l m && nat_le m h)
  where
    by : (z : Bool) → is_steady true (if z then before r (part (ru.Climb l m) ∷ []) else Skips []) ≡ true
    by true = before_ends r (part (ru.Climb l m) ∷ []) g
    by false = refl

assigns_steady : (l h : ℕ) (r : Row) → is_steady true r ≡ true → is_steady true (assigns l h r) ≡ true
assigns_steady l h r g = by (nat_le l 1 && nat_le 14 h)
  where
    by : (z : Bool) → is_steady true (if z then before r (part (ru.Climb l 1) ∷ []) else Skips []) ≡ true
    by true = before_ends r (part (ru.Climb l 1) ∷ []) g
    by false = refl

climb_steady : (l h : ℕ) (c : Class) → is_steady true (climb_row l h c) ≡ true
climb_steady l h (cl.Binary m) = climbs_steady l h m (binary_at m) refl
climb_steady l h cl.OpAssign = assigns_steady l h (Uses (ch.Over ∷ ch.Take ∷ []) (of (so.Level 1) ∷ sy.Close ki.OpAssign ∷ [])) refl
climb_steady l h (cl.Sign si.Equals) = assigns_steady l h (behind_operand ki.Assign) refl
climb_steady l h (cl.Sign si.Star) = climbs_steady l h 12 (binary_at 12) refl
climb_steady l h (cl.Sign si.Minus) = climbs_steady l h 11 (binary_at 11) refl
climb_steady l h (cl.Sign si.Ampersand) = climbs_steady l h 9 (binary_at 9) refl
climb_steady l h (cl.Sign si.Bar) = climbs_steady l h 7 (binary_at 7) refl
climb_steady l h (cl.Sign si.Colon) = climbs_steady l h 13 (behind_operand ki.Cast) refl
climb_steady l h (cl.Sign si.As) = climbs_steady l h 13 (behind_operand ki.As) refl
climb_steady l h (cl.Sign si.Is) = climbs_steady l h 13 (behind_operand ki.Is) refl
climb_steady l h (cl.Sign si.LeftParen) = climbs_steady l h 15 (behind_operand ki.Call) refl
climb_steady l h (cl.Sign si.LeftBracket) = climbs_steady l h 15 (Uses (ch.Over ∷ []) (part ru.InIndex ∷ [])) refl
climb_steady l h (cl.Sign si.Dot) = climbs_steady l h 15 (behind_operand ki.Field) refl
climb_steady l h (cl.Sign si.Question) = climbs_steady l h 15 (behind_operand ki.Try) refl
climb_steady l h (cl.Sign si.Bang) = climbs_steady l h 15 (behind_operand ki.Force) refl
climb_steady l h (cl.Sign _) = refl
climb_steady l h _ = refl

-- ---- all rules

own_steady : (o : Own) (c : Class) → is_steady (may_end (ru.Own o)) (row (ru.Own o) c) ≡ true
own_steady ow.Name cl.Name = refl
own_steady ow.Name _ = refl
own_steady ow.Member cl.Name = refl
own_steady ow.Member cl.Number = refl
own_steady ow.Member _ = refl
own_steady ow.Label (cl.Sign si.Colon) = refl
own_steady ow.Label (cl.Sign _) = refl
own_steady ow.Label _ = refl
own_steady _ c = refl

use_part_steady : (c : Class) → is_steady false (row ru.AfterUsePart c) ≡ true
use_part_steady (cl.Sign si.PathMark) = refl
use_part_steady (cl.Sign _) = refl
use_part_steady _ = refl

row_steady : (n : Rule) (c : Class) → is_steady (may_end n) (row n c) ≡ true
row_steady (ru.Of s) c = sure_stays (of_row s c) (of_sure s c)
row_steady (ru.Own o) c = own_steady o c
row_steady (ru.Optional s) c = or_ends (of_row s c) (ch.Absent ∷ [])
row_steady (ru.Led a s) c = at_ends a c [] (ch.Absent ∷ []) (of s ∷ [])
row_steady (ru.Each s) c = or_ends (before (of_row s c) (part (ru.Each s) ∷ [])) []
row_steady (ru.EachLed a s) c = at_ends a c [] [] (of s ∷ part (ru.EachLed a s) ∷ [])
row_steady (ru.EachFollowed s a) c = or_ends (before (of_row s c) (sy.Want a ∷ part (ru.EachFollowed s a) ∷ [])) []
row_steady (ru.List s) c = or_ends (before (of_row s c) (part (ru.More s) ∷ [])) (ch.Absent ∷ [])
row_steady (ru.More s) c = at_ends si.Comma c (ch.Open ∷ []) (ch.Absent ∷ []) (part (ru.BehindComma s) ∷ [])
row_steady (ru.BehindComma s) c = or_ends (led_by (ch.Drop ∷ []) (before (of_row s c) (part (ru.More s) ∷ [])))
    (ch.Close ki.TrailingComma ∷ [])
row_steady ru.Elements c = or_ends (before (level_row 1 c) (part ru.MoreElements ∷ [])) (ch.Absent ∷ ch.Absent ∷ [])
row_steady ru.MoreElements (cl.Sign si.Comma) = refl
row_steady ru.MoreElements (cl.Sign _) = refl
row_steady ru.MoreElements _ = refl
row_steady ru.BehindElementComma c = or_ends (led_by (ch.Drop ∷ ch.Drop ∷ []) (before (level_row 1 c) (part ru.MoreElements ∷ [])))
    (ch.Close ki.TrailingComma ∷ ch.Lift ∷ [])
row_steady ru.LastComma (cl.Sign si.Comma) = refl
row_steady ru.LastComma (cl.Sign _) = refl
row_steady ru.LastComma _ = refl
row_steady (ru.PathRest k) (cl.Sign si.PathMark) = refl
row_steady (ru.PathRest k) (cl.Sign _) = refl
row_steady (ru.PathRest k) _ = refl
row_steady ru.PathOrStruct (cl.Sign si.PathMark) = refl
row_steady ru.PathOrStruct (cl.Sign _) = refl
row_steady ru.PathOrStruct _ = refl
row_steady ru.PathName cl.Name = refl
row_steady ru.PathName _ = refl
row_steady ru.InBracket (cl.Sign si.RightBracket) = refl
row_steady ru.InBracket c = sure_stays (before (length_row c) (rest_of 2 ki.TypeArray))
    (before_sure (length_row c) (rest_of 2 ki.TypeArray) (length_sure c))
row_steady ru.FirstMember (cl.Sign si.Dots) = refl
row_steady ru.FirstMember c = sure_stays (before (type_row c) (part ru.AfterType ∷ []))
    (before_sure (type_row c) (part ru.AfterType ∷ []) (type_sure c))
row_steady ru.AfterType (cl.Sign si.Comma) = refl
row_steady ru.AfterType (cl.Sign _) = refl
row_steady ru.AfterType _ = refl
row_steady ru.AfterSpread (cl.Sign si.Bar) = refl
row_steady ru.AfterSpread (cl.Sign _) = refl
row_steady ru.AfterSpread _ = refl
row_steady (ru.Climb l j) c = climb_steady l j c
row_steady ru.AfterValue (cl.Sign si.Comma) = refl
row_steady ru.AfterValue (cl.Sign _) = refl
row_steady ru.AfterValue _ = refl
row_steady ru.InIndex (cl.Sign si.DotDot) = refl
row_steady ru.InIndex c = sure_stays (before (level_row 1 c) (part ru.AfterIndex ∷ []))
    (before_sure (level_row 1 c) (part ru.AfterIndex ∷ []) (level_sure 1 c))
row_steady ru.AfterIndex (cl.Sign si.DotDot) = refl
row_steady ru.AfterIndex (cl.Sign _) = refl
row_steady ru.AfterIndex _ = refl
row_steady ru.AfterYield (cl.Sign si.Colon) = refl
row_steady ru.AfterYield c = or_ends (before (level_row 1 c) (sy.Close ki.Yield ∷ [])) (ch.Absent ∷ ch.Close ki.Yield ∷ [])
row_steady ru.ForHead (cl.Sign si.Let) = refl
row_steady ru.ForHead c = sure_stays (led_by (ch.Absent ∷ []) (before (level_row 1 c) (rest_of 5 ki.For)))
    (led_sure (ch.Absent ∷ []) (before (level_row 1 c) (rest_of 5 ki.For))
    (before_sure (level_row 1 c) (rest_of 5 ki.For) (level_sure 1 c)))
row_steady ru.AfterForName (cl.Sign si.Colon) = refl
row_steady ru.AfterForName (cl.Sign _) = refl
row_steady ru.AfterForName _ = refl
row_steady ru.DeclWord c = sure_stays (decl_word_row c) (word_sure c)
row_steady ru.UseStart cl.Name = refl
row_steady ru.UseStart _ = refl
row_steady ru.AfterUseName (cl.Sign si.Equals) = refl
row_steady ru.AfterUseName c = use_part_steady c
row_steady ru.AfterUseMark cl.Name = refl
row_steady ru.AfterUseMark (cl.Sign si.LeftBrace) = refl
row_steady ru.AfterUseMark (cl.Sign _) = refl
row_steady ru.AfterUseMark _ = refl
row_steady ru.AfterUsePart c = use_part_steady c

-- ---- steps

-- where the run is over in front of a token, it is stuck at no other
pub end_not_stuck : (f : ℕ) (t t' : Token) (c c' : Class) (st : List Symbol) (gs gs' made : List Group) → step f t c st gs ≡ Ends made →
    step f t' c' st gs' ≡ Stuck → ⊥
unfolding step
end_not_stuck f t t' c c' [] gs gs' made e i = cc
end_not_stuck f t t' c c' (sy.Close k ∷ st) gs gs' made e i = end_not_stuck f t t' c c' st (close k gs) (close k gs') made e i
end_not_stuck f t t' c c' (sy.Want d ∷ st) gs gs' made e i = by (has_sign d c) e
  where
    by : (b : Bool) → wanted b (Goes st gs) ≡ Ends made → ⊥
    by true j = cc
    by false j = cc
end_not_stuck f t t' c c' (sy.Part n ∷ st) gs gs' made e i =
    by (may_end n) (row n c) (row n c') (row_steady n c) (row_steady n c') e i (λ hs hs' j k. end_not_stuck f t t' c c' st hs hs' made j k)
  where
    by : (b : Bool) (r r' : Row) → is_steady b r ≡ true → is_steady b r' ≡ true → acted r f t st gs (λ hs. step f t c st hs) ≡ Ends made →
        acted r' f t' st gs' (λ hs. step f t' c' st hs) ≡ Stuck →
        ((hs hs' : List Group) → step f t c st hs ≡ Ends made → step f t' c' st hs' ≡ Stuck → ⊥) → ⊥
    by b Fault r' x y j k l = cc
    by b (Uses cs ss) r' x y j k l = cc
    by true (Skips cs) Fault x y j k l = cc
    by false (Skips cs) Fault x y j k l = cc
    by b (Skips cs) (Skips ds) x y j k l = l _ _ j k
    by b (Skips cs) (Uses ds ss) x y j k l = cc
