-- Every stack whose rules end before what follows them is closed by the tokens of its rules.
use Rattle.std.proofs.Common.{◌≡◌, ℕ, ◌<◌, ◌≤◌, List, [], ◌∷◌, ◌++◌, Bool, true, false, ◌&&◌, not, refl, ap, ◌∙◌, arith, append_assoc}
use Rattle.std.specs.Prelude.{nat_le}
use Rattle.hare_tree.specs.declared.kind.Kind.{Kind}
use Rattle.hare_tree.specs.declared.kind.Kind.TheVariants as ki
use Rattle.hare_tree.specs.declared.token.Token.{Token}
use Rattle.hare_tree.specs.declared.form.Sign.{Sign}
use Rattle.hare_tree.specs.declared.form.Sign.TheVariants as si
use Rattle.hare_tree.specs.declared.form.Own.TheVariants as ow
use Rattle.hare_tree.specs.declared.form.Sort.{Sort}
use Rattle.hare_tree.specs.declared.form.Sort.TheVariants as so
use denote.Enum.Bare.{true_same}
use Rattle.hare_tree.specs.contracts.form.Sign.{the_type}
use Rattle.hare_automaton.specs.declared.class.Class.{Class}
use Rattle.hare_automaton.specs.declared.class.Class.TheVariants as cl
use Rattle.hare_automaton.specs.declared.rule.Rule.{Rule}
use Rattle.hare_automaton.specs.declared.rule.Rule.TheVariants as ru
use Rattle.hare_automaton.specs.declared.rule.Symbol.{Symbol}
use Rattle.hare_automaton.specs.declared.rule.Symbol.TheVariants as sy
use Rattle.hare_automaton.specs.declared.rule.Change.{Change}
use Rattle.hare_automaton.specs.declared.rule.Change.TheVariants as ch
use Rattle.hare_automaton.specs.Classes.{class_of}
use Rattle.hare_automaton.specs.Rows.{Row, Fault, Skips, Uses, of, part, before, led_by, or_skips, has_sign, rest_of}
use Rattle.hare_automaton.specs.DeclarationRows.{of_row}
use Rattle.hare_automaton.specs.Table.{row}
use Rattle.hare_automaton.specs.Engine.{Group, all_changed, close, run}
use Rattle.hare_automaton.proofs.Machine.Steps.{front, run_close, run_uses, run_skips, run_want}
use Rattle.hare_automaton.proofs.Machine.Tokens.{class_sign}
use Rattle.hare_automaton.proofs.Spelled.Paths.{split}
use Rattle.hare_automaton.proofs.Machine.Edges.{pull, true_le, climb_skips}
use Rattle.hare_prefixes.proofs.Completion.Endings.{sign, name_token, scalar_token, text_token, number_token, ending_of, ending, closing, quiet, ender, no_mark, is_fault, sort_ok, ok, first_class, next, good, not_true, ender_quiet, quiet_pull, ender_comma, ender_fault}

-- ---- the tokens bring the rule to its end

-- the run comes to `st` by these tokens, with some trees
pub record Comes (f : ℕ) (u w : List Token) (ss st : List Symbol) (gs : List Group) : Type 0 where
  pub trees : List Group
  pub is : run f (u ++ w) ss gs ≡ run f w st trees

on : (f : ℕ) (u v w : List Token) (ss ss' st : List Symbol) (gs gs' : List Group) → run f (u ++ w) ss gs ≡ run f (v ++ w) ss' gs' →
    Comes f v w ss' st gs' → Comes f u w ss st gs
on f u v w ss ss' st gs gs' e c = record { trees = c.trees; is = e ∙ c.is }

there : (f : ℕ) (w : List Token) (st : List Symbol) (gs : List Group) → Comes f [] w st st gs
there f w st gs = record { trees = gs; is = refl }

-- a token that a rule uses
uses : (f : ℕ) (t : Token) (u w : List Token) (n : Rule) (st0 st : List Symbol) (gs : List Group) (cs : List Change) (ss : List Symbol) →
    row n (class_of t) ≡ Uses cs ss → Comes f u w (ss ++ st0) st (all_changed f t cs gs) → Comes f (t ∷ u) w (part n ∷ st0) st gs
uses f t u w n st0 st gs cs ss e c = on f (t ∷ u) u w (part n ∷ st0) (ss ++ st0) st gs (all_changed f t cs gs)
    (run_uses f t (u ++ w) n st0 gs cs ss e) c

wants : (f : ℕ) (d : Sign) (u w : List Token) (st0 st : List Symbol) (gs : List Group) → Comes f u w st0 st gs →
    Comes f (sign d ∷ u) w (sy.Want d ∷ st0) st gs
wants f d u w st0 st gs c = on f (sign d ∷ u) u w (sy.Want d ∷ st0) st0 st gs gs (run_want f (sign d) (u ++ w) d st0 gs (class_sign 0 d)) c

closes_one : (f : ℕ) (k : Kind) (u w : List Token) (st0 st : List Symbol) (gs : List Group) → Comes f u w st0 st (close k gs) →
    Comes f u w (sy.Close k ∷ st0) st gs
closes_one f k u w st0 st gs c = on f u u w (sy.Close k ∷ st0) st0 st gs (close k gs) (run_close f (u ++ w) k st0 gs) c

-- a rule that is over before what follows
pub record Over (f : ℕ) (w : List Token) (n : Rule) (st : List Symbol) (gs : List Group) : Type 0 where
  pub trees : List Group
  pub is : run f w (part n ∷ st) gs ≡ run f w st trees

pub over : (f : ℕ) (w : List Token) (n : Rule) (st : List Symbol) (gs : List Group) (cs : List Change) → row n (front w) ≡ Skips cs →
    Over f w n st gs
unfolding run
over f [] n st gs cs e = record { trees = gs; is = refl }
over f (t ∷ w) n st gs cs e = record { trees = all_changed f t cs gs; is = run_skips f t w n st gs cs e }

skips : (f : ℕ) (u w : List Token) (n : Rule) (st0 st : List Symbol) (gs : List Group) (cs : List Change) →
    row n (front (u ++ w)) ≡ Skips cs → ((hs : List Group) → Comes f u w st0 st hs) → Comes f u w (part n ∷ st0) st gs
skips f u w n st0 st gs cs e c = let o = over f (u ++ w) n st0 gs cs e in on f u u w (part n ∷ st0) st0 st gs o.trees o.is (c o.trees)

climbed : (f : ℕ) (u w : List Token) (l h : ℕ) (st0 st : List Symbol) (gs : List Group) → nat_le 1 l ≡ true →
    quiet (front (u ++ w)) ≡ true → ((hs : List Group) → Comes f u w st0 st hs) → Comes f u w (part (ru.Climb l h) ∷ st0) st gs
climbed f u w l h st0 st gs a q c =
    let p : 1 ≤ l = true_le 1 l a in
    let z : pull (front (u ++ w)) < l = omega (arith, quiet_pull (front (u ++ w)) q) in
    skips f u w (ru.Climb l h) st0 st gs [] (climb_skips l h (front (u ++ w)) p z) c

path_over : (k : Kind) (c : Class) → no_mark c ≡ true → row (ru.PathRest k) c ≡ Skips (ch.Close k ∷ [])
path_over k (cl.Sign si.PathMark) e = cc
path_over k (cl.Sign _) e = refl
path_over k _ e = refl

path_end : (c : Class) → quiet c ≡ true → row ru.PathOrStruct c ≡ Skips (ch.Close ki.Path ∷ ch.Lift ∷ [])
path_end (cl.Sign si.PathMark) e = cc
path_end (cl.Sign si.LeftBrace) e = cc
path_end (cl.Sign _) e = refl
path_end _ e = refl

-- the first token stands in front of what follows
abbrev At : List Token → (Class → Bool) → Type 0
At w p = p (front w) ≡ true

statements_over : (c : Class) → ender c ≡ true → row (ru.EachFollowed so.Statement si.Semicolon) c ≡ Skips []
statements_over c e = ap (λ r. or_skips (before r (sy.Want si.Semicolon ∷ part (ru.EachFollowed so.Statement si.Semicolon) ∷ [])) [])
    (ender_fault so.Statement c e)

more_over : (s : Sort) (c : Class) → has_sign si.Comma c ≡ false → row (ru.More s) c ≡ Skips (ch.Absent ∷ [])
more_over s c e = rw e refl

each_led_over : (a : Sign) (s : Sort) (c : Class) → has_sign a c ≡ false → row (ru.EachLed a s) c ≡ Skips []
each_led_over a s c e = rw e refl

module _ (f : ℕ) (w : List Token) (st : List Symbol) where
  -- a type of one word
  scalar_comes : (n : Rule) (st0 : List Symbol) (u : List Token) (gs : List Group) →
      row n (class_of scalar_token) ≡ Uses (ch.Leaf ki.TypeScalar ∷ []) [] → ((hs : List Group) → Comes f u w st0 st hs) →
      Comes f (scalar_token ∷ u) w (part n ∷ st0) st gs
  scalar_comes n st0 u gs e c = uses f scalar_token u w n st0 st gs (ch.Leaf ki.TypeScalar ∷ []) [] e (c _)

  -- an expression of one number
  number_comes : (u : List Token) (st0 : List Symbol) (gs : List Group) → At (u ++ w) quiet → ((hs : List Group) → Comes f u w st0 st hs) →
      Comes f (number_token ∷ u) w (of (so.Level 1) ∷ st0) st gs
  number_comes u st0 gs q c = uses f number_token u w (ru.Of (so.Level 1)) st0 st gs (ch.Leaf ki.Number ∷ []) (part (ru.Climb 1 16) ∷ [])
      refl (climbed f u w 1 16 st0 st _ refl q c)

  name_comes : (u : List Token) (st0 : List Symbol) (gs : List Group) → ((hs : List Group) → Comes f u w st0 st hs) →
      Comes f (name_token ∷ u) w (of so.Name ∷ st0) st gs
  name_comes u st0 gs c = uses f name_token u w (ru.Of so.Name) st0 st gs (ch.Leaf ki.Name ∷ []) [] refl (c _)

  -- what stands behind the word of a type declaration
  type_decl_comes : (gs : List Group) → Comes f (name_token ∷ sign si.Equals ∷ scalar_token ∷ sign si.Semicolon ∷ []) w
      (rest_of 2 ki.TypeDecl ++ st) st gs
  type_decl_comes gs = name_comes _ _ gs (λ hs. wants f si.Equals _ w _ st hs
      (scalar_comes (ru.Of so.Type) _ _ hs refl
      (λ hs. wants f si.Semicolon [] w _ st hs (closes_one f ki.TypeDecl [] w st st hs (there f w st _)))))

  sort_comes : (s : Sort) (gs : List Group) → sort_ok s (front w) ≡ true → Comes f (ending_of s) w (of s ∷ st) st gs
  sort_comes so.Type gs h = scalar_comes (ru.Of so.Type) st [] gs refl (λ hs. there f w st hs)
  sort_comes so.BareType gs h = scalar_comes (ru.Of so.BareType) st [] gs refl (λ hs. there f w st hs)
  sort_comes so.Member gs h = scalar_comes (ru.Of so.Member) st [] gs refl (λ hs. there f w st hs)
  sort_comes so.TypePath gs h = uses f name_token [] w (ru.Of so.TypePath) st st gs (ch.Open ∷ ch.Take ∷ [])
      (part (ru.PathRest ki.TypePath) ∷ []) refl
      (skips f [] w (ru.PathRest ki.TypePath) st st _ (ch.Close ki.TypePath ∷ []) (path_over ki.TypePath (front w) h)
      (λ hs. there f w st hs))
  sort_comes so.Length gs h = uses f number_token [] w (ru.Of so.Length) st st gs (ch.Leaf ki.Number ∷ []) [] refl (there f w st _)
  sort_comes so.Message gs h = uses f text_token [] w (ru.Of so.Message) st st gs (ch.Leaf ki.Message ∷ []) [] refl (there f w st _)
  sort_comes (so.Level l) gs h =
      let p = split (nat_le 1 l && nat_le l 16) (quiet (front w)) h in
      let q = split (nat_le 1 l) (nat_le l 16) p.0 in
      uses f number_token [] w (ru.Of (so.Level l)) st st gs (ch.Leaf ki.Number ∷ []) (part (ru.Climb l 16) ∷ []) (rw (q.1) refl)
      (climbed f [] w l 16 st st _ q.0 p.1 (λ hs. there f w st hs))
  sort_comes so.Statement gs h = uses f number_token [] w (ru.Of so.Statement) st st gs (ch.Leaf ki.Number ∷ []) (part (ru.Climb 1 16) ∷ [])
      refl (climbed f [] w 1 16 st st _ refl h (λ hs. there f w st hs))
  sort_comes so.Values gs h = uses f number_token [] w (ru.Of so.Values) st st gs (ch.Open ∷ ch.Leaf ki.Number ∷ [])
      (part (ru.Climb 1 16) ∷ rest_of 1 ki.Values) refl
      (climbed f [] w 1 16 _ st _ refl (ender_quiet (front w) h)
      (λ hs. skips f [] w (ru.More (so.Level 1)) _ st hs (ch.Absent ∷ []) (more_over (so.Level 1) (front w) (ender_comma (front w) h))
      (λ hs. closes_one f ki.Values [] w st st hs (there f w st _))))
  sort_comes so.Name gs h = name_comes [] st gs (λ hs. there f w st hs)
  sort_comes so.PathName gs h = uses f name_token [] w (ru.Of so.PathName) st st gs (ch.Leaf ki.Name ∷ []) [] refl (there f w st _)
  sort_comes so.ImportPath gs h = uses f name_token [] w (ru.Of so.ImportPath) st st gs (ch.Open ∷ ch.Leaf ki.Name ∷ [])
      (rest_of 1 ki.ImportPath) refl (skips f [] w (ru.EachLed si.PathMark so.PathName) _ st _ []
      (each_led_over si.PathMark so.PathName (front w) (not_true _ h)) (λ hs. closes_one f ki.ImportPath [] w st st hs (there f w st _)))
  sort_comes so.Export gs h = uses f (sign si.Export) [] w (ru.Of so.Export) st st gs (ch.Mark ki.Export ∷ []) [] refl (there f w st _)
  sort_comes so.Dots gs h = uses f (sign si.Dots) [] w (ru.Of so.Dots) st st gs (ch.Mark ki.Dots ∷ []) [] refl (there f w st _)
  sort_comes so.ByRef gs h = uses f (sign si.Ampersand) [] w (ru.Of so.ByRef) st st gs (ch.Mark ki.ByRef ∷ []) [] refl (there f w st _)
  sort_comes so.Pattern gs h = uses f (sign si.Null) [] w (ru.Of so.Pattern) st st gs (ch.Mark ki.PatternNull ∷ []) [] refl (there f w st _)
  sort_comes so.Params gs h = uses f (sign si.LeftParen) (sign si.RightParen ∷ []) w (ru.Of so.Params) st st gs (ch.Open ∷ [])
      (rest_of 1 ki.Params) refl (skips f (sign si.RightParen ∷ []) w (ru.List so.Param) _ st _ (ch.Absent ∷ []) refl
      (λ hs. wants f si.RightParen [] w _ st hs (closes_one f ki.Params [] w st st hs (there f w st _))))
  sort_comes so.Param gs h = uses f name_token _ w (ru.Of so.Param) st st gs (ch.Open ∷ ch.Take ∷ []) (rest_of 1 ki.Param) refl
      (wants f si.Colon _ w _ st _ (scalar_comes (ru.Of so.Type) _ [] _ refl (λ hs. closes_one f ki.Param [] w st st hs (there f w st _))))
  sort_comes so.StructField gs h = uses f name_token _ w (ru.Of so.StructField) st st gs (ch.Open ∷ ch.Take ∷ []) (rest_of 1 ki.StructField)
      refl (wants f si.Colon _ w _ st _ (scalar_comes (ru.Of so.Type) _ [] _ refl
      (λ hs. closes_one f ki.StructField [] w st st hs (there f w st _))))
  sort_comes so.FieldValue gs h = uses f name_token _ w (ru.Of so.FieldValue) st st gs (ch.Open ∷ ch.Take ∷ []) (rest_of 1 ki.FieldValue)
      refl (wants f si.Equals _ w _ st _ (number_comes [] _ _ h (λ hs. closes_one f ki.FieldValue [] w st st hs (there f w st _))))
  sort_comes so.Let gs h = uses f (sign si.Let) _ w (ru.Of so.Let) st st gs (ch.Open ∷ []) (rest_of 1 ki.Let) refl
      (uses f name_token _ w (ru.Own ow.Name) _ st _ (ch.Take ∷ []) [] refl
      (skips f _ w (ru.Led si.Colon so.Type) _ st _ (ch.Absent ∷ []) refl
      (λ hs. wants f si.Equals _ w _ st hs (number_comes [] _ hs h (λ hs. closes_one f ki.Let [] w st st hs (there f w st _))))))
  sort_comes so.Binding gs h = uses f (sign si.Let) _ w (ru.Of so.Binding) st st gs (ch.Open ∷ []) (rest_of 1 ki.Binding) refl
      (uses f name_token _ w (ru.Own ow.Name) _ st _ (ch.Take ∷ []) [] refl
      (skips f (sign si.DotDot ∷ []) w (ru.Optional so.ByRef) _ st _ (ch.Absent ∷ []) refl
      (λ hs. wants f si.DotDot [] w _ st hs (closes_one f ki.Binding [] w st st hs (there f w st _)))))
  sort_comes so.Case gs h = uses f (sign si.Case) _ w (ru.Of so.Case) st st gs (ch.Open ∷ []) (rest_of 1 ki.Case) refl
      (skips f (sign si.Arrow ∷ []) w (ru.Optional so.Pattern) _ st _ (ch.Absent ∷ []) refl
      (λ hs. wants f si.Arrow [] w _ st hs (skips f [] w (ru.EachFollowed so.Statement si.Semicolon) _ st hs []
      (statements_over (front w) h) (λ hs. closes_one f ki.Case [] w st st hs (there f w st _)))))
  sort_comes so.SwitchCase gs h = uses f (sign si.Case) _ w (ru.Of so.SwitchCase) st st gs (ch.Open ∷ []) (rest_of 1 ki.SwitchCase) refl
      (skips f (sign si.Arrow ∷ []) w (ru.Optional so.Values) _ st _ (ch.Absent ∷ []) refl
      (λ hs. wants f si.Arrow [] w _ st hs (skips f [] w (ru.EachFollowed so.Statement si.Semicolon) _ st hs []
      (statements_over (front w) h) (λ hs. closes_one f ki.SwitchCase [] w st st hs (there f w st _)))))
  sort_comes so.Use gs h = uses f (sign si.Use) _ w (ru.Of so.Use) st st gs (ch.Open ∷ []) (part ru.UseStart ∷ []) refl
      (uses f name_token _ w ru.UseStart st st _ (ch.Open ∷ ch.Leaf ki.Name ∷ []) (part ru.AfterUseName ∷ []) refl
      (uses f (sign si.Semicolon) [] w ru.AfterUseName st st _ (ch.Close ki.ImportPath ∷ ch.Close ki.Use ∷ []) [] refl (there f w st _)))
  sort_comes so.Decl gs h = uses f (sign si.Type) _ w (ru.Of so.Decl) st st gs (ch.Open ∷ ch.Absent ∷ []) (rest_of 2 ki.TypeDecl) refl
      (type_decl_comes _)
  sort_comes so.Left gs h = cc
  sort_comes so.Right gs h = cc

  list_over : (s : Sort) → ender (front w) ≡ true → row (ru.List s) (front w) ≡ Skips (ch.Absent ∷ [])
  list_over s e = ap (λ r. or_skips (before r (part (ru.More s) ∷ [])) (ch.Absent ∷ [])) (ender_fault s (front w) e)

  over_then : (n : Rule) (cs : List Change) (gs : List Group) → row n (front w) ≡ Skips cs → Comes f [] w (part n ∷ st) st gs
  over_then n cs gs e = skips f [] w n st st gs cs e (λ hs. there f w st hs)

  more_elements_end : (c : Class) → ender c ≡ true → row ru.MoreElements c ≡ Skips (ch.Absent ∷ ch.Absent ∷ [])
  more_elements_end (cl.Sign si.Comma) e = cc
  more_elements_end (cl.Sign si.Dots) e = cc
  more_elements_end (cl.Sign _) e = refl
  more_elements_end _ e = refl

  last_comma_end : (c : Class) → ender c ≡ true → row ru.LastComma c ≡ Skips (ch.Absent ∷ [])
  last_comma_end (cl.Sign si.Comma) e = cc
  last_comma_end (cl.Sign _) e = refl
  last_comma_end _ e = refl

  label_end : (c : Class) → has_sign si.Colon c ≡ false → row (ru.Own ow.Label) c ≡ Skips []
  label_end (cl.Sign si.Colon) e = cc
  label_end (cl.Sign _) e = refl
  label_end _ e = refl

  fault_is : (r : Row) → is_fault r ≡ true → r ≡ Fault
  fault_is Fault e = refl
  fault_is (Skips cs) e = cc
  fault_is (Uses cs ss) e = cc

  -- a sign and a tree behind it
  led_comes : (a : Sign) (s : Sort) (gs : List Group) → row (ru.Led a s) (cl.Sign a) ≡ Uses [] (of s ∷ []) → sort_ok s (front w) ≡ true →
      Comes f (sign a ∷ ending_of s) w (part (ru.Led a s) ∷ st) st gs
  led_comes a s gs e h = uses f (sign a) (ending_of s) w (ru.Led a s) st st gs [] (of s ∷ []) (rw (class_sign 0 a) e) (sort_comes s gs h)

  -- `)` and the body of a loop
  body_comes : (gs : List Group) → At w quiet →
      Comes f (sign si.RightParen ∷ number_token ∷ []) w (sy.Want si.RightParen ∷ of (so.Level 1) ∷ sy.Close ki.For ∷ st) st gs
  body_comes gs q = wants f si.RightParen _ w _ st gs (number_comes [] _ gs q (λ hs. closes_one f ki.For [] w st st hs (there f w st _)))

  rule_comes : (n : Rule) (gs : List Group) → ok n (front w) ≡ true → Comes f (ending n) w (part n ∷ st) st gs
  rule_comes (ru.Of s) gs h = sort_comes s gs h
  rule_comes (ru.Own ow.Name) gs h = uses f name_token [] w (ru.Own ow.Name) st st gs (ch.Take ∷ []) [] refl (there f w st _)
  rule_comes (ru.Own ow.Member) gs h = uses f name_token [] w (ru.Own ow.Member) st st gs (ch.Take ∷ []) [] refl (there f w st _)
  rule_comes (ru.Own ow.Label) gs h = over_then (ru.Own ow.Label) [] gs (label_end (front w) (not_true _ h))
  rule_comes (ru.Own _) gs h = cc
  rule_comes (ru.Optional s) gs h = over_then (ru.Optional s) (ch.Absent ∷ []) gs
      (ap (λ r. or_skips r (ch.Absent ∷ []))
      (fault_is (of_row s (front w)) (split (is_fault (of_row s (front w))) (sort_ok s (front w)) h).0))
  rule_comes (ru.Led a so.Message) gs h = over_then (ru.Led a so.Message) (ch.Absent ∷ []) gs (rw (not_true (has_sign a (front w)) h) refl)
  rule_comes (ru.Led a s) gs h = led_comes a s gs (rw (true_same the_type a a refl) refl) h
  rule_comes (ru.Each s) gs h = over_then (ru.Each s) [] gs
      (ap (λ r. or_skips (before r (part (ru.Each s) ∷ [])) [])
      (ender_fault s (front w) (split (ender (front w)) (sort_ok s (front w)) h).0))
  rule_comes (ru.EachLed a s) gs h = over_then (ru.EachLed a s) [] gs
      (each_led_over a s (front w) (not_true _ (split (not (has_sign a (front w))) (sort_ok s (front w)) h).0))
  rule_comes (ru.EachFollowed s a) gs h = over_then (ru.EachFollowed s a) [] gs
      (ap (λ r. or_skips (before r (sy.Want a ∷ part (ru.EachFollowed s a) ∷ [])) [])
      (ender_fault s (front w) (split (ender (front w)) (sort_ok s (cl.Sign a)) h).0))
  rule_comes (ru.List s) gs h = over_then (ru.List s) (ch.Absent ∷ []) gs (list_over s (split (ender (front w)) (sort_ok s (front w)) h).0)
  rule_comes (ru.More s) gs h = over_then (ru.More s) (ch.Absent ∷ []) gs
      (more_over s (front w) (ender_comma (front w) (split (ender (front w)) (sort_ok s (front w)) h).0))
  rule_comes (ru.BehindComma s) gs h = over_then (ru.BehindComma s) (ch.Close ki.TrailingComma ∷ []) gs
      (ap (λ r. or_skips (led_by (ch.Drop ∷ []) (before r (part (ru.More s) ∷ []))) (ch.Close ki.TrailingComma ∷ []))
      (ender_fault s (front w) (split (ender (front w)) (sort_ok s (front w)) h).0))
  rule_comes ru.Elements gs h = over_then ru.Elements (ch.Absent ∷ ch.Absent ∷ []) gs
      (ap (λ r. or_skips (before r (part ru.MoreElements ∷ [])) (ch.Absent ∷ ch.Absent ∷ [])) (ender_fault (so.Level 1) (front w) h))
  rule_comes ru.MoreElements gs h = over_then ru.MoreElements (ch.Absent ∷ ch.Absent ∷ []) gs (more_elements_end (front w) h)
  rule_comes ru.BehindElementComma gs h = over_then ru.BehindElementComma (ch.Close ki.TrailingComma ∷ ch.Lift ∷ []) gs
      (ap (λ r. or_skips (led_by (ch.Drop ∷ ch.Drop ∷ []) (before r (part ru.MoreElements ∷ [])))
      (ch.Close ki.TrailingComma ∷ ch.Lift ∷ [])) (ender_fault (so.Level 1) (front w) h))
  rule_comes ru.LastComma gs h = over_then ru.LastComma (ch.Absent ∷ []) gs (last_comma_end (front w) h)
  rule_comes (ru.PathRest k) gs h = over_then (ru.PathRest k) (ch.Close k ∷ []) gs (path_over k (front w) h)
  rule_comes ru.PathOrStruct gs h = over_then ru.PathOrStruct (ch.Close ki.Path ∷ ch.Lift ∷ []) gs (path_end (front w) h)
  rule_comes ru.PathName gs h = uses f name_token [] w ru.PathName st st gs (ch.Join ∷ []) [] refl (there f w st _)
  rule_comes ru.InBracket gs h = uses f (sign si.RightBracket) _ w ru.InBracket st st gs [] (rest_of 2 ki.TypeSlice) refl
      (scalar_comes (ru.Of so.Type) _ [] _ refl (λ hs. closes_one f ki.TypeSlice [] w st st hs (there f w st _)))
  rule_comes ru.FirstMember gs h = uses f scalar_token _ w ru.FirstMember st st gs (ch.Leaf ki.TypeScalar ∷ []) (part ru.AfterType ∷ [])
      refl (tuple_comes _)
    where
      tuple_comes : (gs : List Group) → Comes f (sign si.Comma ∷ scalar_token ∷ sign si.RightParen ∷ []) w (part ru.AfterType ∷ st) st gs
      tuple_comes gs = uses f (sign si.Comma) _ w ru.AfterType st st gs [] (rest_of 3 ki.TypeTuple) refl
          (scalar_comes (ru.Of so.Type) _ _ gs refl
          (λ hs. skips f (sign si.RightParen ∷ []) w (ru.More so.Type) _ st hs (ch.Absent ∷ []) refl
          (λ hs. wants f si.RightParen [] w _ st hs (closes_one f ki.TypeTuple [] w st st hs (there f w st _)))))
  rule_comes ru.AfterType gs h = uses f (sign si.Comma) _ w ru.AfterType st st gs [] (rest_of 3 ki.TypeTuple) refl
      (scalar_comes (ru.Of so.Type) _ _ gs refl
      (λ hs. skips f (sign si.RightParen ∷ []) w (ru.More so.Type) _ st hs (ch.Absent ∷ []) refl
      (λ hs. wants f si.RightParen [] w _ st hs (closes_one f ki.TypeTuple [] w st st hs (there f w st _)))))
  rule_comes ru.AfterSpread gs h = uses f (sign si.Bar) _ w ru.AfterSpread st st gs [] (rest_of 3 ki.TypeUnion) refl
      (scalar_comes (ru.Of so.Member) _ _ gs refl
      (λ hs. skips f (sign si.RightParen ∷ []) w (ru.EachLed si.Bar so.Member) _ st hs [] refl
      (λ hs. wants f si.RightParen [] w _ st hs (closes_one f ki.TypeUnion [] w st st hs (there f w st _)))))
  rule_comes (ru.Climb l j) gs h =
      let p = split (nat_le 1 l && nat_le l 16) (quiet (front w)) h in
      climbed f [] w l j st st gs (split (nat_le 1 l) (nat_le l 16) p.0).0 p.1 (λ hs. there f w st hs)
  rule_comes ru.AfterValue gs h = uses f (sign si.RightParen) [] w ru.AfterValue st st gs (ch.Close ki.Paren ∷ []) [] refl (there f w st _)
  rule_comes ru.InIndex gs h = uses f number_token _ w ru.InIndex st st gs (ch.Leaf ki.Number ∷ [])
      (part (ru.Climb 1 16) ∷ part ru.AfterIndex ∷ []) refl
      (climbed f (sign si.RightBracket ∷ []) w 1 16 _ st _ refl refl
      (λ hs. uses f (sign si.RightBracket) [] w ru.AfterIndex st st hs (ch.Close ki.Index ∷ []) [] refl (there f w st _)))
  rule_comes ru.AfterIndex gs h = uses f (sign si.RightBracket) [] w ru.AfterIndex st st gs (ch.Close ki.Index ∷ []) [] refl
      (there f w st _)
  rule_comes ru.AfterYield gs h = uses f number_token [] w ru.AfterYield st st gs (ch.Leaf ki.Number ∷ [])
      (part (ru.Climb 1 16) ∷ sy.Close ki.Yield ∷ []) refl
      (climbed f [] w 1 16 _ st _ refl h (λ hs. closes_one f ki.Yield [] w st st hs (there f w st _)))
  rule_comes ru.ForHead gs h = uses f number_token _ w ru.ForHead st st gs (ch.Absent ∷ ch.Leaf ki.Number ∷ [])
      (part (ru.Climb 1 16) ∷ rest_of 5 ki.For) refl
      (climbed f (sign si.RightParen ∷ number_token ∷ []) w 1 16 _ st _ refl refl
      (λ hs. skips f (sign si.RightParen ∷ number_token ∷ []) w (ru.Led si.Semicolon (so.Level 1)) _ st hs (ch.Absent ∷ []) refl
      (λ hs. body_comes hs h)))
  rule_comes ru.AfterForName gs h = uses f (sign si.DotDot) _ w ru.AfterForName st st gs (ch.Absent ∷ ch.Close ki.Binding ∷ [])
      (rest_of 4 ki.ForEach) refl (number_comes (sign si.RightParen ∷ number_token ∷ []) _ _ refl
      (λ hs. wants f si.RightParen _ w _ st hs (number_comes [] _ hs h (λ hs. closes_one f ki.ForEach [] w st st hs (there f w st _)))))
  rule_comes ru.DeclWord gs h = uses f (sign si.Type) _ w ru.DeclWord st st gs [] (rest_of 2 ki.TypeDecl) refl (type_decl_comes gs)
  rule_comes ru.UseStart gs h = uses f name_token _ w ru.UseStart st st gs (ch.Open ∷ ch.Leaf ki.Name ∷ []) (part ru.AfterUseName ∷ []) refl
      (uses f (sign si.Semicolon) [] w ru.AfterUseName st st _ (ch.Close ki.ImportPath ∷ ch.Close ki.Use ∷ []) [] refl (there f w st _))
  rule_comes ru.AfterUseName gs h = uses f (sign si.Semicolon) [] w ru.AfterUseName st st gs (ch.Close ki.ImportPath ∷ ch.Close ki.Use ∷ [])
      [] refl (there f w st _)
  rule_comes ru.AfterUseMark gs h = uses f name_token _ w ru.AfterUseMark st st gs (ch.Leaf ki.Name ∷ []) (part ru.AfterUsePart ∷ []) refl
      (uses f (sign si.Semicolon) [] w ru.AfterUsePart st st _ (ch.Close ki.ImportPath ∷ ch.Close ki.Use ∷ []) [] refl (there f w st _))
  rule_comes ru.AfterUsePart gs h = uses f (sign si.Semicolon) [] w ru.AfterUsePart st st gs (ch.Close ki.ImportPath ∷ ch.Close ki.Use ∷ [])
      [] refl (there f w st _)

-- ---- whole stacks

first_front : (u : List Token) (w : List Token) → front (u ++ w) ≡ first_class u (front w)
first_front [] w = refl
first_front (t ∷ u) w = refl

pub next_front : (st : List Symbol) (w : List Token) → front (closing st ++ w) ≡ next st (front w)
next_front [] w = refl
next_front (sy.Close k ∷ st) w = next_front st w
next_front (sy.Want d ∷ st) w = class_sign 0 d
next_front (sy.Part n ∷ st) w = ap front (append_assoc (ending n) (closing st) w) ∙ first_front (ending n) (closing st ++ w) ∙ ap
    (first_class (ending n)) (next_front st w)

-- every good stack is closed by its closing
pub closes : (f : ℕ) (st : List Symbol) (w : List Token) (gs : List Group) → good st (front w) ≡ true → Comes f (closing st) w st [] gs
closes f [] w gs g = there f w [] gs
closes f (sy.Close k ∷ st) w gs g =
    let c = closes f st w (close k gs) g in record { trees = c.trees; is = run_close f (closing st ++ w) k st gs ∙ c.is }
closes f (sy.Want d ∷ st) w gs g =
    let c = closes f st w gs g in record { trees = c.trees; is = run_want f (sign d) (closing st ++ w) d st gs (class_sign 0 d) ∙ c.is }
closes f (sy.Part n ∷ st) w gs g =
    let p = split (ok n (next st (front w))) (good st (front w)) g in
    let r = rule_comes f (closing st ++ w) st n gs (ap (ok n) (next_front st w) ∙ p.0) in
    let c = closes f st w r.trees p.1 in
    record { trees = c.trees; is = ap (λ u. run f u (part n ∷ st) gs) (append_assoc (ending n) (closing st) w) ∙ r.is ∙ c.is }
