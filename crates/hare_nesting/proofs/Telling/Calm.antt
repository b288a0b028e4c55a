-- The tokens that close a stack are used by calm rows.
use Rattle.std.proofs.Common.{◌≡◌, ℕ, ◌<◌, ◌≤◌, List, [], ◌∷◌, ◌++◌, Bool, true, false, ◌&&◌, not, refl, ap, ◌∙◌, arith, if◌then◌else◌}
use Rattle.std.proofs.lemmas.List.{map-append}
use Rattle.std.specs.Prelude.{nat_le}
use denote.Enum.Bare.{true_same}
use Rattle.hare_tree.specs.contracts.form.Sign.{the_type}
use Rattle.hare_tree.specs.declared.kind.Kind.{Kind}
use Rattle.hare_tree.specs.declared.kind.Kind.TheVariants as ki
use Rattle.hare_tree.specs.declared.token.Token.{Token}
use Rattle.hare_tree.specs.declared.form.Sign.{Sign}
use Rattle.hare_tree.specs.declared.form.Sign.TheVariants as si
use Rattle.hare_tree.specs.declared.form.Own.TheVariants as ow
use Rattle.hare_tree.specs.declared.form.Sort.{Sort}
use Rattle.hare_tree.specs.declared.form.Sort.TheVariants as so
use Rattle.hare_automaton.specs.declared.class.Class.{Class}
use Rattle.hare_automaton.specs.declared.class.Class.TheVariants as cl
use Rattle.hare_automaton.specs.declared.rule.Rule.{Rule}
use Rattle.hare_automaton.specs.declared.rule.Rule.TheVariants as ru
use Rattle.hare_automaton.specs.declared.rule.Symbol.{Symbol}
use Rattle.hare_automaton.specs.declared.rule.Symbol.TheVariants as sy
use Rattle.hare_automaton.specs.declared.rule.Change.TheVariants as ch
use Rattle.hare_automaton.specs.Classes.{class_of}
use Rattle.hare_automaton.specs.Rows.{Row, Fault, Skips, Uses, of, part, before, led_by, or_skips, has_sign}
use Rattle.hare_automaton.specs.DeclarationRows.{of_row}
use Rattle.hare_automaton.specs.Table.{row}
use Rattle.hare_automaton.specs.Engine.{Group, close, Goes, wanted, acted, step}
use Rattle.hare_automaton.proofs.Machine.Tokens.{class_sign}
use Rattle.hare_automaton.proofs.Spelled.Paths.{split}
use Rattle.hare_automaton.proofs.Machine.Edges.{pull, true_le, climb_skips}
use Rattle.hare_prefixes.proofs.Completion.Endings.{sign, ending_of, ending, closing, quiet, ender, no_mark, is_fault, sort_ok, ok, first_class, next, good, not_true, ender_quiet, quiet_pull, ender_comma, ender_fault}
use Rattle.hare_prefixes.proofs.Outcomes.Alike.{classes}
use Rattle.hare_nesting.proofs.Telling.Claims.{is_calm, calm_row, calm_step, calm_after, Calm, ClosingsAreCalm}

-- ---- calm by the classes alone

-- where the row uses the token, this holds of the symbols that are left
abbrev pub row_leaves : Row → List Symbol → (List Symbol → Bool) → Bool → Bool
row_leaves Fault st p again = true
row_leaves (Skips cs) st p again = again
row_leaves (Uses cs ss) st p again = p (ss ++ st)

-- where a token of the class is used, this holds of the symbols that are left
unfoldable pub leaves : Class → List Symbol → (List Symbol → Bool) → Bool
leaves c [] p = true
leaves c (sy.Close k ∷ st) p = leaves c st p
leaves c (sy.Want s ∷ st) p = if has_sign s c then p st else true
leaves c (sy.Part n ∷ st) p = row_leaves (row n c) st p (leaves c st p)

-- tokens of these classes are used by calm rows
unfoldable pub calms : List Class → List Symbol → Bool
calms [] st = true
calms (c ∷ w) st = calm_step c st && leaves c st (λ st'. calms w st')

leaves_after : (f : ℕ) (t : Token) (c : Class) (p : List Symbol → Bool) (P : List Symbol → List Group → Type 0) →
    ((st : List Symbol) (gs : List Group) → p st ≡ true → P st gs) → (st : List Symbol) (gs : List Group) → leaves c st p ≡ true →
    calm_after (step f t c st gs) P
unfolding leaves step
leaves_after f t c p P k [] gs e = tt
leaves_after f t c p P k (sy.Close d ∷ st) gs e = leaves_after f t c p P k st (close d gs) e
leaves_after f t c p P k (sy.Want s ∷ st) gs e = by (has_sign s c) e
  where
    by : (b : Bool) → (if b then p st else true) ≡ true → calm_after (wanted b (Goes st gs)) P
    by true i = k st gs i
    by false i = tt
leaves_after f t c p P k (sy.Part n ∷ st) gs e = by (row n c) e (λ hs i. leaves_after f t c p P k st hs i)
  where
    by : (r : Row) → row_leaves r st p (leaves c st p) ≡ true →
        ((hs : List Group) → leaves c st p ≡ true → calm_after (step f t c st hs) P) →
        calm_after (acted r f t st gs (λ hs. step f t c st hs)) P
    by Fault i z = tt
    by (Skips cs) i z = z _ i
    by (Uses cs ss) i z = k (ss ++ st) _ i

calm_from : (f : ℕ) (u : List Token) (st : List Symbol) (gs : List Group) → calms (classes u) st ≡ true → Calm f u st gs
unfolding calms Calm
calm_from f [] st gs e = tt
calm_from f (t ∷ u) st gs e =
    let p = split (calm_step (class_of t) st) (leaves (class_of t) st (λ st'. calms (classes u) st')) e in (
      p.0,
      leaves_after f t (class_of t) (λ st'. calms (classes u) st') (λ st' gs'. Calm f u st' gs') (λ st' gs' i. calm_from f u st' gs' i)
          st gs p.1,
    )

-- ---- rules that are over in front of a token

-- the class that comes next, where `e` stands behind all
abbrev pub first : Class → List Class → Class
first e [] = e
first e (c ∷ w) = c

abbrev pub uses_none : Row → Bool
uses_none Fault = true
uses_none (Skips cs) = true
uses_none (Uses cs ss) = false

-- a rule that is over hands on to what is waited for behind it
over_calms : (e : Class) (w : List Class) (st : List Symbol) (n : Rule) → uses_none (row n (first e w)) ≡ true → calms w st ≡ true →
    calms w (part n ∷ st) ≡ true
unfolding calms leaves calm_step
over_calms e [] st n u h = refl
over_calms e (c ∷ w) st n u h = by (row n c) u
  where
    by : (r : Row) → uses_none r ≡ true → (calm_row r (is_calm n c) (calm_step c st) && row_leaves r st (λ st'. calms w st')
        (leaves c st (λ st'. calms w st'))) ≡ true
    by Fault i = refl
    by (Skips cs) i = h
    by (Uses cs ss) i = cc

close_calms : (w : List Class) (st : List Symbol) (k : Kind) → calms w st ≡ true → calms w (sy.Close k ∷ st) ≡ true
unfolding calms leaves calm_step
close_calms [] st k h = refl
close_calms (c ∷ w) st k h = h

climb_over : (l h : ℕ) (c : Class) → nat_le 1 l ≡ true → quiet c ≡ true → uses_none (row (ru.Climb l h) c) ≡ true
climb_over l h c a q =
    let p : 1 ≤ l = true_le 1 l a in
    let z : pull c < l = omega (arith, quiet_pull c q) in
    ap uses_none (climb_skips l h c p z)

path_over : (k : Kind) (c : Class) → no_mark c ≡ true → uses_none (row (ru.PathRest k) c) ≡ true
path_over k (cl.Sign si.PathMark) e = cc
path_over k (cl.Sign _) e = refl
path_over k _ e = refl

expression_path_over : (c : Class) → quiet c ≡ true → uses_none (row ru.PathOrStruct c) ≡ true
expression_path_over (cl.Sign si.PathMark) e = cc
expression_path_over (cl.Sign si.LeftBrace) e = cc
expression_path_over (cl.Sign _) e = refl
expression_path_over _ e = refl

label_over : (c : Class) → has_sign si.Colon c ≡ false → uses_none (row (ru.Own ow.Label) c) ≡ true
label_over (cl.Sign si.Colon) e = cc
label_over (cl.Sign _) e = refl
label_over _ e = refl

more_elements_over : (c : Class) → ender c ≡ true → uses_none (row ru.MoreElements c) ≡ true
more_elements_over (cl.Sign si.Comma) e = cc
more_elements_over (cl.Sign si.Dots) e = cc
more_elements_over (cl.Sign _) e = refl
more_elements_over _ e = refl

last_comma_over : (c : Class) → ender c ≡ true → uses_none (row ru.LastComma c) ≡ true
last_comma_over (cl.Sign si.Comma) e = cc
last_comma_over (cl.Sign _) e = refl
last_comma_over _ e = refl

optional_over : (r : Row) (b : Bool) → (is_fault r && b) ≡ true → uses_none (or_skips r (ch.Absent ∷ [])) ≡ true
optional_over Fault b e = refl
optional_over (Skips cs) b e = refl
optional_over (Uses cs ss) b e = cc

each_over : (s : Sort) (ss : List Symbol) (c : Class) → ender c ≡ true → uses_none (or_skips (before (of_row s c) ss) []) ≡ true
each_over s ss c e = ap (λ r. uses_none (or_skips (before r ss) [])) (ender_fault s c e)

list_over : (s : Sort) (c : Class) → ender c ≡ true → uses_none (row (ru.List s) c) ≡ true
list_over s c e = ap (λ r. uses_none (or_skips (before r (part (ru.More s) ∷ [])) (ch.Absent ∷ []))) (ender_fault s c e)

each_led_over : (a : Sign) (s : Sort) (c : Class) → has_sign a c ≡ false → uses_none (row (ru.EachLed a s) c) ≡ true
each_led_over a s c e = rw e refl

more_over : (s : Sort) (c : Class) → ender c ≡ true → uses_none (row (ru.More s) c) ≡ true
more_over s c e = rw (ender_comma c e) refl

-- ---- the tokens of a rule

module _ (e : Class) (w : List Class) (st : List Symbol) (h : calms w st ≡ true) where
  closed : (k : Kind) → calms w (sy.Close k ∷ st) ≡ true
  closed k = close_calms w st k h

  -- an operand, and the end of the tree round it
  operand_closed : (k : Kind) → quiet (first e w) ≡ true → calms w (part (ru.Climb 1 16) ∷ sy.Close k ∷ st) ≡ true
  operand_closed k q = over_calms e w (sy.Close k ∷ st) (ru.Climb 1 16) (climb_over 1 16 (first e w) refl q) (closed k)

  statements_closed : (k : Kind) → ender (first e w) ≡ true →
      calms w (part (ru.EachFollowed so.Statement si.Semicolon) ∷ sy.Close k ∷ st) ≡ true
  statements_closed k q = over_calms e w (sy.Close k ∷ st) (ru.EachFollowed so.Statement si.Semicolon)
      (each_over so.Statement (sy.Want si.Semicolon ∷ part (ru.EachFollowed so.Statement si.Semicolon) ∷ []) (first e w) q) (closed k)

  values_closed : ender (first e w) ≡ true → calms w (part (ru.Climb 1 16) ∷ part (ru.More (so.Level 1)) ∷ sy.Close ki.Values ∷ st) ≡ true
  values_closed q =
      over_calms e w (part (ru.More (so.Level 1)) ∷ sy.Close ki.Values ∷ st) (ru.Climb 1 16)
      (climb_over 1 16 (first e w) refl (ender_quiet (first e w) q))
      (over_calms e w (sy.Close ki.Values ∷ st) (ru.More (so.Level 1)) (more_over (so.Level 1) (first e w) q) (closed ki.Values))

  over_now : (n : Rule) → uses_none (row n (first e w)) ≡ true → calms w (part n ∷ st) ≡ true
  over_now n u = over_calms e w st n u h

  sort_calms : (s : Sort) → sort_ok s (first e w) ≡ true → calms (classes (ending_of s) ++ w) (of s ∷ st) ≡ true
  unfolding calms leaves calm_step
  sort_calms so.Type g = h
  sort_calms so.BareType g = h
  sort_calms so.Member g = h
  sort_calms so.TypePath g = over_now (ru.PathRest ki.TypePath) (path_over ki.TypePath (first e w) g)
  sort_calms so.Length g = h
  sort_calms so.Message g = h
  sort_calms (so.Level l) g =
      let p = split (nat_le 1 l && nat_le l 16) (quiet (first e w)) g in
      let q = split (nat_le 1 l) (nat_le l 16) p.0 in
      rw (q.1) (over_now (ru.Climb l 16) (climb_over l 16 (first e w) q.0 p.1))
  sort_calms so.Statement g = over_now (ru.Climb 1 16) (climb_over 1 16 (first e w) refl g)
  sort_calms so.Values g = values_closed g
  sort_calms so.Name g = h
  sort_calms so.PathName g = h
  sort_calms so.ImportPath g = over_calms e w (sy.Close ki.ImportPath ∷ st) (ru.EachLed si.PathMark so.PathName)
      (each_led_over si.PathMark so.PathName (first e w) (not_true _ g)) (closed ki.ImportPath)
  sort_calms so.Export g = h
  sort_calms so.Dots g = h
  sort_calms so.ByRef g = h
  sort_calms so.Pattern g = h
  sort_calms so.Params g = closed ki.Params
  sort_calms so.Param g = closed ki.Param
  sort_calms so.StructField g = closed ki.StructField
  sort_calms so.FieldValue g = operand_closed ki.FieldValue g
  sort_calms so.Let g = operand_closed ki.Let g
  sort_calms so.Binding g = closed ki.Binding
  sort_calms so.Case g = statements_closed ki.Case g
  sort_calms so.SwitchCase g = statements_closed ki.SwitchCase g
  sort_calms so.Use g = h
  sort_calms so.Decl g = closed ki.TypeDecl
  sort_calms so.Left g = cc
  sort_calms so.Right g = cc

  -- a sign and a tree behind it
  led_calms : (a : Sign) (s : Sort) → sort_ok s (first e w) ≡ true →
      calms (class_of (sign a) ∷ classes (ending_of s) ++ w) (part (ru.Led a s) ∷ st) ≡ true
  unfolding calms leaves calm_step
  led_calms a s g = rw (class_sign 0 a, true_same the_type a a refl) (sort_calms s g)

  rule_calms : (n : Rule) → ok n (first e w) ≡ true → calms (classes (ending n) ++ w) (part n ∷ st) ≡ true
  unfolding calms leaves calm_step
  rule_calms (ru.Of s) g = sort_calms s g
  rule_calms (ru.Own ow.Name) g = h
  rule_calms (ru.Own ow.Member) g = h
  rule_calms (ru.Own ow.Label) g = over_now (ru.Own ow.Label) (label_over (first e w) (not_true _ g))
  rule_calms (ru.Own _) g = cc
  rule_calms (ru.Optional s) g = over_now (ru.Optional s) (optional_over (of_row s (first e w)) (sort_ok s (first e w)) g)
  rule_calms (ru.Led a so.Message) g = over_now (ru.Led a so.Message) (rw (not_true (has_sign a (first e w)) g) refl)
  rule_calms (ru.Led a s) g = led_calms a s g
  rule_calms (ru.Each s) g = over_now (ru.Each s)
      (each_over s (part (ru.Each s) ∷ []) (first e w) (split (ender (first e w)) (sort_ok s (first e w)) g).0)
  rule_calms (ru.EachLed a s) g = over_now (ru.EachLed a s)
      (each_led_over a s (first e w) (not_true _ (split (not (has_sign a (first e w))) (sort_ok s (first e w)) g).0))
  rule_calms (ru.EachFollowed s a) g = over_now (ru.EachFollowed s a)
      (each_over s (sy.Want a ∷ part (ru.EachFollowed s a) ∷ []) (first e w) (split (ender (first e w)) (sort_ok s (cl.Sign a)) g).0)
  rule_calms (ru.List s) g = over_now (ru.List s) (list_over s (first e w) (split (ender (first e w)) (sort_ok s (first e w)) g).0)
  rule_calms (ru.More s) g = over_now (ru.More s) (more_over s (first e w) (split (ender (first e w)) (sort_ok s (first e w)) g).0)
  rule_calms (ru.BehindComma s) g = over_now (ru.BehindComma s)
      (ap (λ r. uses_none (or_skips (led_by (ch.Drop ∷ []) (before r (part (ru.More s) ∷ []))) (ch.Close ki.TrailingComma ∷ [])))
      (ender_fault s (first e w) (split (ender (first e w)) (sort_ok s (first e w)) g).0))
  rule_calms ru.Elements g = over_now ru.Elements
      (ap (λ r. uses_none (or_skips (before r (part ru.MoreElements ∷ [])) (ch.Absent ∷ ch.Absent ∷ [])))
      (ender_fault (so.Level 1) (first e w) g))
  rule_calms ru.MoreElements g = over_now ru.MoreElements (more_elements_over (first e w) g)
  rule_calms ru.BehindElementComma g = over_now ru.BehindElementComma
      (ap (λ r. uses_none (or_skips (led_by (ch.Drop ∷ ch.Drop ∷ []) (before r (part ru.MoreElements ∷ [])))
      (ch.Close ki.TrailingComma ∷ ch.Lift ∷ []))) (ender_fault (so.Level 1) (first e w) g))
  rule_calms ru.LastComma g = over_now ru.LastComma (last_comma_over (first e w) g)
  rule_calms (ru.PathRest k) g = over_now (ru.PathRest k) (path_over k (first e w) g)
  rule_calms ru.PathOrStruct g = over_now ru.PathOrStruct (expression_path_over (first e w) g)
  rule_calms ru.PathName g = h
  rule_calms ru.InBracket g = closed ki.TypeSlice
  rule_calms ru.FirstMember g = closed ki.TypeTuple
  rule_calms ru.AfterType g = closed ki.TypeTuple
  rule_calms ru.AfterSpread g = closed ki.TypeUnion
  rule_calms (ru.Climb l j) g =
      let p = split (nat_le 1 l && nat_le l 16) (quiet (first e w)) g in
      over_now (ru.Climb l j) (climb_over l j (first e w) (split (nat_le 1 l) (nat_le l 16) p.0).0 p.1)
  rule_calms ru.AfterValue g = h
  rule_calms ru.InIndex g = h
  rule_calms ru.AfterIndex g = h
  rule_calms ru.AfterYield g = operand_closed ki.Yield g
  rule_calms ru.ForHead g = operand_closed ki.For g
  rule_calms ru.AfterForName g = operand_closed ki.ForEach g
  rule_calms ru.DeclWord g = closed ki.TypeDecl
  rule_calms ru.UseStart g = h
  rule_calms ru.AfterUseName g = h
  rule_calms ru.AfterUseMark g = h
  rule_calms ru.AfterUsePart g = h

-- ---- whole stacks

first_behind : (u : List Token) (e : Class) (w : List Class) → first e (classes u ++ w) ≡ first_class u (first e w)
first_behind [] e w = refl
first_behind (t ∷ u) e w = refl

-- the class that comes next is that with which the closing of the stack begins
next_first : (e : Class) (st : List Symbol) → first e (classes (closing st)) ≡ next st e
next_first e [] = refl
next_first e (sy.Close k ∷ st) = next_first e st
next_first e (sy.Want d ∷ st) = class_sign 0 d
next_first e (sy.Part n ∷ st) = ap (first e) (map-append class_of (ending n) (closing st)) ∙ first_behind (ending n) e
    (classes (closing st)) ∙ ap (first_class (ending n)) (next_first e st)

closing_calms : (e : Class) (st : List Symbol) → good st e ≡ true → calms (classes (closing st)) st ≡ true
unfolding calms leaves calm_step
closing_calms e [] g = refl
closing_calms e (sy.Close k ∷ st) g = close_calms (classes (closing st)) st k (closing_calms e st g)
closing_calms e (sy.Want d ∷ st) g = rw (class_sign 0 d, true_same the_type d d refl) (closing_calms e st g)
closing_calms e (sy.Part n ∷ st) g =
    let p = split (ok n (next st e)) (good st e) g in
    let w = classes (closing st) in
    ap (λ u. calms u (part n ∷ st)) (map-append class_of (ending n) (closing st))
    ∙ rule_calms e w st (closing_calms e st p.1) n (ap (ok n) (next_first e st) ∙ p.0)

pub closings_are_calm : ClosingsAreCalm
closings_are_calm f e st gs u g c = calm_from f u st gs (ap (λ w. calms w st) c ∙ closing_calms e st g)
