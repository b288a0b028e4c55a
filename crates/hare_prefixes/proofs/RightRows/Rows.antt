-- Each row of the table is right: what it and its symbols read is what its rule means, and so where the rule is over.
use Rattle.std.proofs.Common.{◌≡◌, ℕ, List, [], ◌∷◌, Bool, true, false, ◌&&◌, if◌then◌else◌, refl, ap, sym, ◌∙◌, subst}
use Rattle.std.specs.Prelude.{nat_le}
use Rattle.std.proofs.lemmas.List.{append-nil}
use Rattle.hare_tree.specs.declared.kind.Kind.{Kind}
use Rattle.hare_tree.specs.declared.kind.Kind.TheVariants as ki
use Rattle.hare_tree.specs.declared.token.Token.{Token}
use Rattle.hare_tree.specs.declared.form.Sign.{Sign}
use Rattle.hare_tree.specs.declared.form.Sign.TheVariants as si
use Rattle.hare_tree.specs.declared.form.Sort.{Sort}
use Rattle.hare_tree.specs.declared.form.Sort.TheVariants as so
use Rattle.hare_tree.specs.Node.{none}
use Rattle.hare_tree.specs.Forms.{expr}
use Rattle.hare_tree.specs.Spell.{spell}
use Rattle.hare_tree.specs.Shape.{is_shaped}
use Rattle.hare_tree.specs.Grammar.{HasPlaces}
use Rattle.hare_automaton.specs.declared.class.Class.{Class}
use Rattle.hare_automaton.specs.declared.class.Class.TheVariants as cl
use Rattle.hare_automaton.specs.declared.rule.Rule.{Rule}
use Rattle.hare_automaton.specs.declared.rule.Rule.TheVariants as ru
use Rattle.hare_automaton.specs.declared.rule.Symbol.{Symbol}
use Rattle.hare_automaton.specs.declared.rule.Symbol.TheVariants as sy
use Rattle.hare_automaton.specs.declared.rule.Change.{Change}
use Rattle.hare_automaton.specs.declared.rule.Change.TheVariants as ch
use Rattle.hare_automaton.specs.Classes.{class_of}
use Rattle.hare_automaton.specs.Rows.{Row, Fault, Skips, Uses, of, part, before, led_by, or_skips, has_sign, rest_of, at_sign}
use Rattle.hare_automaton.specs.ExpressionRows.{level_row, climb_row, in_index_row, for_head_row, climbs, assigns, binary_at, behind_operand as operand_row}
use Rattle.hare_automaton.specs.DeclarationRows.{of_row}
use Rattle.hare_automaton.specs.TypeRows.{bracket_row, first_row}
use Rattle.hare_automaton.specs.Table.{row}
use Rattle.hare_automaton.specs.Engine.{Group, close, all_changed}
use Rattle.hare_automaton.proofs.Machine.Steps.{front}
use Rattle.hare_automaton.proofs.Spelled.Lists.{is_skips}
use Rattle.hare_automaton.proofs.Spelled.Kids.{never, level_never, before_never, led_never}
use Rattle.hare_prefixes.proofs.Soundness.Trees.{Source, IsTree, as_sort}
use Rattle.hare_prefixes.proofs.Soundness.Means.{absent, present, lacks, Means}
use Rattle.hare_prefixes.proofs.Soundness.Stacks.{Used, used_or}
use Rattle.hare_prefixes.proofs.Soundness.Paths.{joined_nothing, path_rest_means, path_name_means}
use Rattle.hare_prefixes.proofs.RightRows.TypeRows.{bracket_means, first_means, after_means, spread_means}
use Rattle.hare_prefixes.proofs.RightRows.OwnRows.{own_means, own_skips}
use Rattle.hare_prefixes.proofs.RightRows.SideRows.{each_means, followed_means, led_means, each_led_means}
use Rattle.hare_prefixes.proofs.RightRows.ListRows.{more_means, more_skips, behind_comma_means, behind_comma_skips, list_means, list_skips, elements_means, elements_skips, more_elements_means, more_elements_skips, behind_element_comma_means, behind_element_comma_skips, last_comma_means, last_comma_skips}
use Rattle.hare_prefixes.proofs.RightRows.StartRows.{level_means}
use Rattle.hare_prefixes.proofs.RightRows.ClimbRows.{level_down, climb_means}
use Rattle.hare_prefixes.proofs.RightRows.IndexRows.{after_value_means, in_index_means, after_index_means}
use Rattle.hare_prefixes.proofs.RightRows.LoopRows.{for_head_means, after_for_name_means}
use Rattle.hare_prefixes.proofs.RightRows.YieldRows.{after_yield_means, after_yield_skips}
use Rattle.hare_prefixes.proofs.RightRows.DeclRows.{decl_word_means, use_start_means, after_use_name_means, after_use_mark_means, after_use_part_means}
use Rattle.hare_prefixes.proofs.RightRows.SortRows.{no_names, path_or_struct_means, path_or_struct_skips, of_means}

-- ---- each row that uses a token

pub row_means : (x : Source) (n : Rule) (c : Class) (t : Token) (gs : List Group) (m : ℕ) (u w : List Token) (gs' : List Group) →
    class_of t ≡ c → Used x (row n c) t gs m u w gs' → Means x n gs m (t ∷ u) w gs'
row_means x (ru.Of s) c t gs m u w gs' e h = λ o. of_means x s c t gs m u w gs' o e h
row_means x (ru.Own o) c t gs m u w gs' e h = own_means x o c t gs m u w gs' e h
row_means x (ru.Optional s) c t gs m u w gs' e h =
    λ o. present (of_means x s c t gs m u w gs' o e (used_or x (of_row s c) (ch.Absent ∷ []) t gs m u w gs' h))
row_means x (ru.Led a s) c t gs m u w gs' e h = led_means x s a c t gs m u w gs' e h
row_means x (ru.Each s) c t gs m u w gs' e h = each_means x s (of_means x s) c t gs m u w gs' e h
row_means x (ru.EachLed a s) c t gs m u w gs' e h = each_led_means x s a c t gs m u w gs' e h
row_means x (ru.EachFollowed s a) c t gs m u w gs' e h = followed_means x s a (of_means x s) c t gs m u w gs' e h
row_means x (ru.List s) c t gs m u w gs' e h = list_means x s (of_means x s) c t gs m u w gs' e h
row_means x (ru.More s) c t gs m u w gs' e h = more_means x s c t gs m u w gs' e h
row_means x (ru.BehindComma s) c t gs m u w gs' e h = behind_comma_means x s (of_means x s) c t gs m u w gs' e h
row_means x ru.Elements c t gs m u w gs' e h = elements_means x (level_means x 1) c t gs m u w gs' e h
row_means x ru.MoreElements c t gs m u w gs' e h = more_elements_means x c t gs m u w gs' e h
row_means x ru.BehindElementComma c t gs m u w gs' e h = behind_element_comma_means x (level_means x 1) c t gs m u w gs' e h
row_means x ru.LastComma c t gs m u w gs' e h = last_comma_means x c t gs m u w gs' e h
row_means x (ru.PathRest k) c t gs m u w gs' e h = path_rest_means x k c t gs m u w gs' e h
row_means x ru.PathOrStruct c t gs m u w gs' e h = path_or_struct_means x c t gs m u w gs' e h
row_means x ru.PathName c t gs m u w gs' e h = path_name_means x c t gs m u w gs' e h
row_means x ru.InBracket c t gs m u w gs' e h = bracket_means x c t gs m u w gs' e h
row_means x ru.FirstMember c t gs m u w gs' e h = first_means x c t gs m u w gs' e h
row_means x ru.AfterType c t gs m u w gs' e h = after_means x c t gs m u w gs' e h
row_means x ru.AfterSpread c t gs m u w gs' e h = spread_means x c t gs m u w gs' e h
row_means x (ru.Climb l j) c t gs m u w gs' e h = climb_means x l j c t gs m u w gs' e h
row_means x ru.AfterValue c t gs m u w gs' e h = after_value_means x c t gs m u w gs' e h
row_means x ru.InIndex c t gs m u w gs' e h = in_index_means x c t gs m u w gs' e h
row_means x ru.AfterIndex c t gs m u w gs' e h = after_index_means x c t gs m u w gs' e h
row_means x ru.AfterYield c t gs m u w gs' e h = after_yield_means x c t gs m u w gs' e h
row_means x ru.ForHead c t gs m u w gs' e h = for_head_means x c t gs m u w gs' e h
row_means x ru.AfterForName c t gs m u w gs' e h = after_for_name_means x c t gs m u w gs' e h
row_means x ru.DeclWord c t gs m u w gs' e h = decl_word_means x c t gs m u w gs' e h
row_means x ru.UseStart c t gs m u w gs' e h = use_start_means x c t gs m u w gs' e h
row_means x ru.AfterUseName c t gs m u w gs' e h = after_use_name_means x c t gs m u w gs' e h
row_means x ru.AfterUseMark c t gs m u w gs' e h = after_use_mark_means x c t gs m u w gs' e h
row_means x ru.AfterUsePart c t gs m u w gs' e h = after_use_part_means x c t gs m u w gs' e h

-- ---- each row that is over

of_never : (s : Sort) (c : Class) → is_skips (of_row s c) ≡ false
of_never (so.Level l) c = level_never l c
of_never so.Left c = refl
of_never so.Right c = refl
of_never s c = never s c refl

not_over : (r : Row) (cs : List Change) → is_skips r ≡ false → r ≡ Skips cs → ⊥
not_over r cs n e = let y : is_skips r ≡ true = ap is_skips e in cc

-- the changes of a rule that is over
or_is : (r : Row) (ds cs : List Change) → is_skips r ≡ false → or_skips r ds ≡ Skips cs → cs ≡ ds
or_is Fault ds cs n e = cc
or_is (Skips bs) ds cs n e = cc
or_is (Uses bs rs) ds cs n e = cc

at_is : (a : Sign) (c : Class) (bs : List Change) (ss : List Symbol) (ds cs : List Change) →
    at_sign a c (Uses bs ss) (Skips ds) ≡ Skips cs → (has_sign a c ≡ false) × (cs ≡ ds)
at_is a c bs ss ds cs e = by (has_sign a c) refl e
  where
    by : (b : Bool) → has_sign a c ≡ b → (if b then Uses bs ss else Skips ds) ≡ Skips cs → (has_sign a c ≡ false) × (cs ≡ ds)
    by true i e = cc
    by false i e = (i, cc)

skips_same : (ds cs : List Change) → Skips ds ≡ Skips cs → cs ≡ ds
skips_same ds cs e = cc

climbs_over : (l j m : ℕ) (r : Row) (cs : List Change) → is_skips r ≡ false → climbs l j m r ≡ Skips cs → cs ≡ []
climbs_over l j m r cs n e = by (nat_le l m && nat_le m j) e
  where
    by : (b : Bool) → (if b then before r (part (ru.Climb l m) ∷ []) else Skips []) ≡ Skips cs → cs ≡ []
    by true e = absurd (not_over (before r (part (ru.Climb l m) ∷ [])) cs (before_never r (part (ru.Climb l m) ∷ []) n) e)
    by false e = skips_same [] cs e

assigns_over : (l j : ℕ) (r : Row) (cs : List Change) → is_skips r ≡ false → assigns l j r ≡ Skips cs → cs ≡ []
assigns_over l j r cs n e = by (nat_le l 1 && nat_le 14 j) e
  where
    by : (b : Bool) → (if b then before r (part (ru.Climb l 1) ∷ []) else Skips []) ≡ Skips cs → cs ≡ []
    by true e = absurd (not_over (before r (part (ru.Climb l 1) ∷ [])) cs (before_never r (part (ru.Climb l 1) ∷ []) n) e)
    by false e = skips_same [] cs e

pub climb_over : (l j : ℕ) (c : Class) (cs : List Change) → climb_row l j c ≡ Skips cs → cs ≡ []
climb_over l j (cl.Binary m) cs e = climbs_over l j m (binary_at m) cs refl e
climb_over l j cl.OpAssign cs e = assigns_over l j (Uses (ch.Over ∷ ch.Take ∷ []) (of expr ∷ sy.Close ki.OpAssign ∷ [])) cs refl e
climb_over l j (cl.Sign si.Equals) cs e = assigns_over l j (operand_row ki.Assign) cs refl e
climb_over l j (cl.Sign si.Star) cs e = climbs_over l j 12 (binary_at 12) cs refl e
climb_over l j (cl.Sign si.Minus) cs e = climbs_over l j 11 (binary_at 11) cs refl e
climb_over l j (cl.Sign si.Ampersand) cs e = climbs_over l j 9 (binary_at 9) cs refl e
climb_over l j (cl.Sign si.Bar) cs e = climbs_over l j 7 (binary_at 7) cs refl e
climb_over l j (cl.Sign si.Colon) cs e = climbs_over l j 13 (operand_row ki.Cast) cs refl e
climb_over l j (cl.Sign si.As) cs e = climbs_over l j 13 (operand_row ki.As) cs refl e
climb_over l j (cl.Sign si.Is) cs e = climbs_over l j 13 (operand_row ki.Is) cs refl e
climb_over l j (cl.Sign si.LeftParen) cs e = climbs_over l j 15 (operand_row ki.Call) cs refl e
climb_over l j (cl.Sign si.LeftBracket) cs e = climbs_over l j 15 (Uses (ch.Over ∷ []) (part ru.InIndex ∷ [])) cs refl e
climb_over l j (cl.Sign si.Dot) cs e = climbs_over l j 15 (operand_row ki.Field) cs refl e
climb_over l j (cl.Sign si.Question) cs e = climbs_over l j 15 (operand_row ki.Try) cs refl e
climb_over l j (cl.Sign si.Bang) cs e = climbs_over l j 15 (operand_row ki.Force) cs refl e
climb_over l j (cl.Sign _) cs e = skips_same [] cs e
climb_over l j _ cs e = skips_same [] cs e

-- the operand stays as it is
climb_skips : (x : Source) (l j : ℕ) (gs : List Group) (m : ℕ) (w : List Token) (gs' : List Group) → gs' ≡ gs →
    Means x (ru.Climb l j) gs m [] w gs'
climb_skips x l j gs m w gs' i a hs n v o p g q at = record {
  t = a;
  is = subst (λ y. IsTree x (so.Level l) n y w a) (sym (append-nil v)) (as_sort x (so.Level j) (so.Level l) n v w a (level_down l j p) q);
  adds = i ∙ g;
}

-- a rule that never is over
never_over : {A : Type 0} (r : Row) (cs : List Change) → is_skips r ≡ false → r ≡ Skips cs → A
never_over r cs n e = absurd (not_over r cs n e)

bracket_never : (c : Class) → is_skips (bracket_row c) ≡ false
bracket_never (cl.Sign si.RightBracket) = refl
bracket_never c = before_never (of_row so.Length c) (rest_of 2 ki.TypeArray) (of_never so.Length c)

first_never : (c : Class) → is_skips (first_row c) ≡ false
first_never (cl.Sign si.Dots) = refl
first_never c = before_never (of_row so.Type c) (part ru.AfterType ∷ []) (of_never so.Type c)

in_index_never : (c : Class) → is_skips (in_index_row c) ≡ false
in_index_never (cl.Sign si.DotDot) = refl
in_index_never c = before_never (level_row 1 c) (part ru.AfterIndex ∷ []) (level_never 1 c)

for_head_never : (c : Class) → is_skips (for_head_row c) ≡ false
for_head_never (cl.Sign si.Let) = refl
for_head_never c = led_never (before (level_row 1 c) (rest_of 5 ki.For)) (ch.Absent ∷ [])
    (before_never (level_row 1 c) (rest_of 5 ki.For) (level_never 1 c))

-- the changes of the rules that end lists and paths
more_elements_over : (c : Class) (cs : List Change) → row ru.MoreElements c ≡ Skips cs → cs ≡ ch.Absent ∷ ch.Absent ∷ []
more_elements_over (cl.Sign si.Comma) cs e = cc
more_elements_over (cl.Sign si.Dots) cs e = cc
more_elements_over (cl.Sign _) cs e = skips_same (ch.Absent ∷ ch.Absent ∷ []) cs e
more_elements_over _ cs e = skips_same (ch.Absent ∷ ch.Absent ∷ []) cs e

last_comma_over : (c : Class) (cs : List Change) → row ru.LastComma c ≡ Skips cs → cs ≡ ch.Absent ∷ []
last_comma_over (cl.Sign si.Comma) cs e = cc
last_comma_over (cl.Sign _) cs e = skips_same (ch.Absent ∷ []) cs e
last_comma_over _ cs e = skips_same (ch.Absent ∷ []) cs e

path_rest_over : (k : Kind) (c : Class) (cs : List Change) → row (ru.PathRest k) c ≡ Skips cs → cs ≡ ch.Close k ∷ []
path_rest_over k (cl.Sign si.PathMark) cs e = cc
path_rest_over k (cl.Sign _) cs e = skips_same (ch.Close k ∷ []) cs e
path_rest_over k _ cs e = skips_same (ch.Close k ∷ []) cs e

path_or_struct_over : (c : Class) (cs : List Change) → row ru.PathOrStruct c ≡ Skips cs → cs ≡ ch.Close ki.Path ∷ ch.Lift ∷ []
path_or_struct_over (cl.Sign si.PathMark) cs e = cc
path_or_struct_over (cl.Sign si.LeftBrace) cs e = cc
path_or_struct_over (cl.Sign _) cs e = skips_same (ch.Close ki.Path ∷ ch.Lift ∷ []) cs e
path_or_struct_over _ cs e = skips_same (ch.Close ki.Path ∷ ch.Lift ∷ []) cs e

after_yield_over : (c : Class) (cs : List Change) → row ru.AfterYield c ≡ Skips cs → cs ≡ ch.Absent ∷ ch.Close ki.Yield ∷ []
after_yield_over (cl.Sign si.Colon) cs e = cc
after_yield_over c cs e = or_is (before (level_row 1 c) (sy.Close ki.Yield ∷ [])) (ch.Absent ∷ ch.Close ki.Yield ∷ []) cs
    (before_never (level_row 1 c) (sy.Close ki.Yield ∷ []) (level_never 1 c)) e

-- the rules that are never over: what begins a form was read, and more must come
abbrev stays : Rule → Bool
stays ru.PathName = true
stays ru.InBracket = true
stays ru.FirstMember = true
stays ru.AfterType = true
stays ru.AfterSpread = true
stays ru.AfterValue = true
stays ru.InIndex = true
stays ru.AfterIndex = true
stays ru.ForHead = true
stays ru.AfterForName = true
stays ru.DeclWord = true
stays ru.UseStart = true
stays ru.AfterUseName = true
stays ru.AfterUseMark = true
stays ru.AfterUsePart = true
stays (ru.Of s) = true
stays _ = false

after_use_never : (c : Class) → is_skips (row ru.AfterUsePart c) ≡ false
after_use_never (cl.Sign si.PathMark) = refl
after_use_never (cl.Sign si.Semicolon) = refl
after_use_never (cl.Sign _) = refl
after_use_never _ = refl

spread_never : (c : Class) → is_skips (row ru.AfterSpread c) ≡ false
spread_never (cl.Sign si.Bar) = refl
spread_never (cl.Sign _) = refl
spread_never _ = refl

pub stays_never : (n : Rule) (c : Class) → stays n ≡ true → is_skips (row n c) ≡ false
stays_never (ru.Of s) c i = of_never s c
stays_never ru.PathName cl.Name i = refl
stays_never ru.PathName cl.PathWord i = refl
stays_never ru.PathName _ i = refl
stays_never ru.InBracket c i = bracket_never c
stays_never ru.FirstMember c i = first_never c
stays_never ru.AfterType (cl.Sign si.Comma) i = refl
stays_never ru.AfterType c i = spread_never c
stays_never ru.AfterSpread c i = spread_never c
stays_never ru.AfterValue (cl.Sign si.RightParen) i = refl
stays_never ru.AfterValue (cl.Sign si.Comma) i = refl
stays_never ru.AfterValue (cl.Sign _) i = refl
stays_never ru.AfterValue _ i = refl
stays_never ru.InIndex c i = in_index_never c
stays_never ru.AfterIndex (cl.Sign si.RightBracket) i = refl
stays_never ru.AfterIndex (cl.Sign si.DotDot) i = refl
stays_never ru.AfterIndex (cl.Sign _) i = refl
stays_never ru.AfterIndex _ i = refl
stays_never ru.ForHead c i = for_head_never c
stays_never ru.AfterForName (cl.Sign si.Colon) i = refl
stays_never ru.AfterForName (cl.Sign si.Equals) i = refl
stays_never ru.AfterForName (cl.Sign si.DotDot) i = refl
stays_never ru.AfterForName (cl.Sign si.Ampersand) i = refl
stays_never ru.AfterForName (cl.Sign _) i = refl
stays_never ru.AfterForName _ i = refl
stays_never ru.DeclWord (cl.Sign si.Def) i = refl
stays_never ru.DeclWord (cl.Sign si.Let) i = refl
stays_never ru.DeclWord (cl.Sign si.Const) i = refl
stays_never ru.DeclWord (cl.Sign si.Type) i = refl
stays_never ru.DeclWord (cl.Sign si.Fn) i = refl
stays_never ru.DeclWord (cl.Sign _) i = refl
stays_never ru.DeclWord _ i = refl
stays_never ru.UseStart cl.Name i = refl
stays_never ru.UseStart _ i = refl
stays_never ru.AfterUseName (cl.Sign si.Equals) i = refl
stays_never ru.AfterUseName c i = after_use_never c
stays_never ru.AfterUseMark cl.Name i = refl
stays_never ru.AfterUseMark cl.PathWord i = refl
stays_never ru.AfterUseMark (cl.Sign si.LeftBrace) i = refl
stays_never ru.AfterUseMark (cl.Sign _) i = refl
stays_never ru.AfterUseMark _ i = refl
stays_never ru.AfterUsePart c i = after_use_never c
stays_never _ c i = cc

-- the same trees by the changes that they were made by
by_changes : (x : Source) (n : Rule) (t : Token) (gs : List Group) (m : ℕ) (w : List Token) (cs ds : List Change) → cs ≡ ds →
    Means x n gs m [] w (all_changed x.file t ds gs) → Means x n gs m [] w (all_changed x.file t cs gs)
by_changes x n t gs m w cs ds i q = subst (λ y. Means x n gs m [] w (all_changed x.file t y gs)) (sym i) q

pub skip_means : (x : Source) (n : Rule) (c : Class) (t : Token) (gs : List Group) (m : ℕ) (w : List Token) (cs : List Change) →
    front w ≡ c → row n c ≡ Skips cs → Means x n gs m [] w (all_changed x.file t cs gs)
unfolding is_shaped spell HasPlaces
skip_means x (ru.Own o) c t gs m w cs f e = own_skips x o c t gs m w cs e
skip_means x (ru.Optional s) c t gs m w cs f e =
    by_changes x (ru.Optional s) t gs m w cs (ch.Absent ∷ []) (or_is (of_row s c) (ch.Absent ∷ []) cs (of_never s c) e)
    (λ o. absent refl refl)
skip_means x (ru.Led a s) c t gs m w cs f e =
    let p = at_is a c [] (of s ∷ []) (ch.Absent ∷ []) cs e in
    by_changes x (ru.Led a s) t gs m w cs (ch.Absent ∷ []) p.1 (λ o. lacks refl (ap (has_sign a) f ∙ p.0) refl)
skip_means x (ru.Each s) c t gs m w cs f e =
    by_changes x (ru.Each s) t gs m w cs [] (or_is (before (of_row s c) (part (ru.Each s) ∷ [])) [] cs
    (before_never (of_row s c) (part (ru.Each s) ∷ []) (of_never s c)) e)
    (λ o. record { ts = none; kids = λ k. refl; ends = refl; spelled = λ h. refl; placed = λ h. tt; adds = refl })
skip_means x (ru.EachLed a s) c t gs m w cs f e =
    by_changes x (ru.EachLed a s) t gs m w cs [] (at_is a c [] (of s ∷ part (ru.EachLed a s) ∷ []) [] cs e).1
    (λ y o. record { ts = none; kids = λ k. refl; ends = refl; spelled = λ h. refl; placed = λ h. tt; adds = refl })
skip_means x (ru.EachFollowed s a) c t gs m w cs f e =
    by_changes x (ru.EachFollowed s a) t gs m w cs []
    (or_is (before (of_row s c) (sy.Want a ∷ part (ru.EachFollowed s a) ∷ [])) [] cs
    (before_never (of_row s c) (sy.Want a ∷ part (ru.EachFollowed s a) ∷ []) (of_never s c)) e)
    (λ y o. record { ts = none; kids = λ k. refl; ends = refl; spelled = λ h. refl; placed = λ h. tt; adds = refl })
skip_means x (ru.List s) c t gs m w cs f e =
    by_changes x (ru.List s) t gs m w cs (ch.Absent ∷ [])
    (or_is (before (of_row s c) (part (ru.More s) ∷ [])) (ch.Absent ∷ []) cs
    (before_never (of_row s c) (part (ru.More s) ∷ []) (of_never s c)) e) (list_skips x s gs m w)
skip_means x (ru.More s) c t gs m w cs f e =
    by_changes x (ru.More s) t gs m w cs (ch.Absent ∷ [])
    (at_is si.Comma c (ch.Open ∷ []) (part (ru.BehindComma s) ∷ []) (ch.Absent ∷ []) cs e).1 (more_skips x s gs m w)
skip_means x (ru.BehindComma s) c t gs m w cs f e =
    by_changes x (ru.BehindComma s) t gs m w cs (ch.Close ki.TrailingComma ∷ [])
    (or_is (led_by (ch.Drop ∷ []) (before (of_row s c) (part (ru.More s) ∷ []))) (ch.Close ki.TrailingComma ∷ []) cs
    (led_never (before (of_row s c) (part (ru.More s) ∷ [])) (ch.Drop ∷ [])
    (before_never (of_row s c) (part (ru.More s) ∷ []) (of_never s c))) e) (behind_comma_skips x s gs m w)
skip_means x ru.Elements c t gs m w cs f e =
    by_changes x ru.Elements t gs m w cs (ch.Absent ∷ ch.Absent ∷ [])
    (or_is (before (level_row 1 c) (part ru.MoreElements ∷ [])) (ch.Absent ∷ ch.Absent ∷ []) cs
    (before_never (level_row 1 c) (part ru.MoreElements ∷ []) (level_never 1 c)) e) (elements_skips x gs m w)
skip_means x ru.MoreElements c t gs m w cs f e =
    by_changes x ru.MoreElements t gs m w cs (ch.Absent ∷ ch.Absent ∷ []) (more_elements_over c cs e) (more_elements_skips x gs m w)
skip_means x ru.BehindElementComma c t gs m w cs f e =
    by_changes x ru.BehindElementComma t gs m w cs (ch.Close ki.TrailingComma ∷ ch.Lift ∷ [])
    (or_is (led_by (ch.Drop ∷ ch.Drop ∷ []) (before (level_row 1 c) (part ru.MoreElements ∷ []))) (ch.Close ki.TrailingComma ∷ ch.Lift ∷ [])
    cs (led_never (before (level_row 1 c) (part ru.MoreElements ∷ [])) (ch.Drop ∷ ch.Drop ∷ [])
    (before_never (level_row 1 c) (part ru.MoreElements ∷ []) (level_never 1 c))) e) (behind_element_comma_skips x gs m w)
skip_means x ru.LastComma c t gs m w cs f e =
    by_changes x ru.LastComma t gs m w cs (ch.Absent ∷ []) (last_comma_over c cs e) (last_comma_skips x gs m w)
skip_means x (ru.PathRest k) c t gs m w cs f e =
    by_changes x (ru.PathRest k) t gs m w cs (ch.Close k ∷ []) (path_rest_over k c cs e)
    (λ g hs i. (no_names, ap (close k) (i ∙ ap (λ y. y ∷ hs) (sym (joined_nothing g)))))
skip_means x ru.PathOrStruct c t gs m w cs f e =
    by_changes x ru.PathOrStruct t gs m w cs (ch.Close ki.Path ∷ ch.Lift ∷ []) (path_or_struct_over c cs e) (path_or_struct_skips x gs m w)
skip_means x (ru.Climb l j) c t gs m w cs f e =
    by_changes x (ru.Climb l j) t gs m w cs [] (climb_over l j c cs e) (climb_skips x l j gs m w gs refl)
skip_means x ru.AfterYield c t gs m w cs f e =
    by_changes x ru.AfterYield t gs m w cs (ch.Absent ∷ ch.Close ki.Yield ∷ []) (after_yield_over c cs e) (after_yield_skips x gs m w)
skip_means x n c t gs m w cs f e = never_over (row n c) cs (stays_never n c refl) e
