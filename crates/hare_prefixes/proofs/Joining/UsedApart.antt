-- Which tokens a run uses: none that no tree is spelled by, and no two strings side by side.
use Rattle.std.proofs.Common.{◌≡◌, ℕ, List, [], ◌∷◌, ◌++◌, Bool, true, false, ◌&&◌, not, refl, ap, subst}
use Rattle.hare_tree.specs.declared.kind.Kind.TheVariants as ki
use Rattle.hare_tree.specs.declared.token.Token.{Token}
use Rattle.hare_tree.specs.declared.form.Sign.TheVariants as si
use Rattle.hare_tree.specs.declared.form.Own.{Own}
use Rattle.hare_tree.specs.declared.form.Own.TheVariants as ow
use Rattle.hare_tree.specs.declared.form.Sort.{Sort}
use Rattle.hare_automaton.specs.declared.class.Class.{Class}
use Rattle.hare_automaton.specs.declared.class.Class.TheVariants as cl
use Rattle.hare_automaton.specs.declared.rule.Rule.{Rule}
use Rattle.hare_automaton.specs.declared.rule.Rule.TheVariants as ru
use Rattle.hare_automaton.specs.declared.rule.Symbol.{Symbol}
use Rattle.hare_automaton.specs.declared.rule.Symbol.TheVariants as sy
use Rattle.hare_automaton.specs.declared.rule.Change.TheVariants as ch
use Rattle.hare_automaton.specs.Classes.{class_of}
use Rattle.hare_automaton.specs.Rows.{Row, Fault, Skips, Uses, of, part, before, led_by, or_skips, has_sign, rest_of}
use Rattle.hare_automaton.specs.TypeRows.{type_row, length_row}
use Rattle.hare_automaton.specs.ExpressionRows.{level_row}
use Rattle.hare_automaton.specs.DeclarationRows.{of_row}
use Rattle.hare_automaton.specs.Table.{row}
use Rattle.hare_automaton.specs.Engine.{Group, close, Step, Goes, Ends, Stuck, wanted, acted, step, Done, Fails, after, run}
use Rattle.hare_automaton.proofs.Spelled.Paths.{split}
use Rattle.hare_prefixes.proofs.Soundness.TokenKinds.{is_junk}
use Rattle.hare_prefixes.proofs.Completion.Endings.{is_fault}
use Rattle.hare_prefixes.proofs.Joining.Apart.{is_text, refuses, apt_rule, apt, passes, refuses_append, apt_append, row_apt, row_refuses, no_use, before_apt, before_refuses, led_apt, led_refuses, or_apt, or_refuses, at_apt, type_apt, length_apt, level_apt, climb_apt, word_apt, of_apt, of_refuses, of_junk}

-- ---- all rules

own_apt : (o : Own) (c : Class) → row_apt (row (ru.Own o) c) ≡ true
own_apt ow.Name cl.Name = refl
own_apt ow.Name _ = refl
own_apt ow.Member cl.Name = refl
own_apt ow.Member cl.Number = refl
own_apt ow.Member _ = refl
own_apt ow.Label (cl.Sign si.Colon) = refl
own_apt ow.Label (cl.Sign _) = refl
own_apt ow.Label _ = refl
own_apt _ c = refl

use_part_apt : (c : Class) → row_apt (row ru.AfterUsePart c) ≡ true
use_part_apt (cl.Sign si.PathMark) = refl
use_part_apt (cl.Sign _) = refl
use_part_apt _ = refl

-- where no tree of the sort begins with a string, none stands behind the list of such trees
each_refuses : (s : Sort) → is_fault (of_row s cl.Text) ≡ true → refuses (part (ru.Each s) ∷ []) ≡ true
each_refuses s h = by (of_row s cl.Text) h
  where
    by : (r : Row) → is_fault r ≡ true → passes (or_skips (before r (part (ru.Each s) ∷ [])) []) true ≡ true
    by Fault e = refl
    by (Skips cs) e = cc
    by (Uses cs ss) e = cc

each_fault : (s : Sort) (ss : List Symbol) → is_fault (of_row s cl.Text) ≡ true →
    row_refuses (or_skips (before (of_row s cl.Text) ss) []) ≡ true
each_fault s ss h = by (of_row s cl.Text) h
  where
    by : (r : Row) → is_fault r ≡ true → row_refuses (or_skips (before r ss) []) ≡ true
    by Fault e = refl
    by (Skips cs) e = cc
    by (Uses cs ss) e = cc

more_refuses : (s : Sort) → refuses (part (ru.More s) ∷ []) ≡ true
more_refuses s = refl

row_is_apt : (n : Rule) (c : Class) → apt_rule n ≡ true → row_apt (row n c) ≡ true
row_is_apt (ru.Of s) c h = of_apt s c
row_is_apt (ru.Own o) c h = own_apt o c
row_is_apt (ru.Optional s) c h = or_apt (of_row s c) (ch.Absent ∷ []) (of_apt s c)
row_is_apt (ru.Led a s) c h = at_apt a c [] (ch.Absent ∷ []) (of s ∷ []) refl
row_is_apt (ru.Each s) c h = or_apt (before (of_row s c) (part (ru.Each s) ∷ [])) []
    (before_apt (of_row s c) (part (ru.Each s) ∷ []) (of_apt s c) (rw h refl) (each_refuses s h))
row_is_apt (ru.EachLed a s) c h = at_apt a c [] [] (of s ∷ part (ru.EachLed a s) ∷ []) refl
row_is_apt (ru.EachFollowed s a) c h = or_apt (before (of_row s c) (sy.Want a ∷ part (ru.EachFollowed s a) ∷ [])) []
    (before_apt (of_row s c) (sy.Want a ∷ part (ru.EachFollowed s a) ∷ []) (of_apt s c) refl refl)
row_is_apt (ru.List s) c h = or_apt (before (of_row s c) (part (ru.More s) ∷ [])) (ch.Absent ∷ [])
    (before_apt (of_row s c) (part (ru.More s) ∷ []) (of_apt s c) refl refl)
row_is_apt (ru.More s) c h = at_apt si.Comma c (ch.Open ∷ []) (ch.Absent ∷ []) (part (ru.BehindComma s) ∷ []) refl
row_is_apt (ru.BehindComma s) c h = or_apt (led_by (ch.Drop ∷ []) (before (of_row s c) (part (ru.More s) ∷ [])))
    (ch.Close ki.TrailingComma ∷ []) (led_apt (ch.Drop ∷ []) (before (of_row s c) (part (ru.More s) ∷ []))
    (before_apt (of_row s c) (part (ru.More s) ∷ []) (of_apt s c) refl refl))
row_is_apt ru.Elements c h = or_apt (before (level_row 1 c) (part ru.MoreElements ∷ [])) (ch.Absent ∷ ch.Absent ∷ [])
    (before_apt (level_row 1 c) (part ru.MoreElements ∷ []) (level_apt 1 c) refl refl)
row_is_apt ru.MoreElements (cl.Sign si.Comma) h = refl
row_is_apt ru.MoreElements (cl.Sign _) h = refl
row_is_apt ru.MoreElements _ h = refl
row_is_apt ru.BehindElementComma c h = or_apt (led_by (ch.Drop ∷ ch.Drop ∷ []) (before (level_row 1 c) (part ru.MoreElements ∷ [])))
    (ch.Close ki.TrailingComma ∷ ch.Lift ∷ [])
    (led_apt (ch.Drop ∷ ch.Drop ∷ []) (before (level_row 1 c) (part ru.MoreElements ∷ []))
    (before_apt (level_row 1 c) (part ru.MoreElements ∷ []) (level_apt 1 c) refl refl))
row_is_apt ru.LastComma (cl.Sign si.Comma) h = refl
row_is_apt ru.LastComma (cl.Sign _) h = refl
row_is_apt ru.LastComma _ h = refl
row_is_apt (ru.PathRest k) (cl.Sign si.PathMark) h = refl
row_is_apt (ru.PathRest k) (cl.Sign _) h = refl
row_is_apt (ru.PathRest k) _ h = refl
row_is_apt ru.PathOrStruct (cl.Sign si.PathMark) h = refl
row_is_apt ru.PathOrStruct (cl.Sign _) h = refl
row_is_apt ru.PathOrStruct _ h = refl
row_is_apt ru.PathName cl.Name h = refl
row_is_apt ru.PathName _ h = refl
row_is_apt ru.InBracket (cl.Sign si.RightBracket) h = refl
row_is_apt ru.InBracket c h = before_apt (length_row c) (rest_of 2 ki.TypeArray) (length_apt c) refl refl
row_is_apt ru.FirstMember (cl.Sign si.Dots) h = refl
row_is_apt ru.FirstMember c h = before_apt (type_row c) (part ru.AfterType ∷ []) (type_apt c) refl refl
row_is_apt ru.AfterType (cl.Sign si.Comma) h = refl
row_is_apt ru.AfterType (cl.Sign _) h = refl
row_is_apt ru.AfterType _ h = refl
row_is_apt ru.AfterSpread (cl.Sign si.Bar) h = refl
row_is_apt ru.AfterSpread (cl.Sign _) h = refl
row_is_apt ru.AfterSpread _ h = refl
row_is_apt (ru.Climb l j) c h = climb_apt l j c
row_is_apt ru.AfterValue (cl.Sign si.Comma) h = refl
row_is_apt ru.AfterValue (cl.Sign _) h = refl
row_is_apt ru.AfterValue _ h = refl
row_is_apt ru.InIndex (cl.Sign si.DotDot) h = refl
row_is_apt ru.InIndex c h = before_apt (level_row 1 c) (part ru.AfterIndex ∷ []) (level_apt 1 c) refl refl
row_is_apt ru.AfterIndex (cl.Sign si.DotDot) h = refl
row_is_apt ru.AfterIndex (cl.Sign _) h = refl
row_is_apt ru.AfterIndex _ h = refl
row_is_apt ru.AfterYield (cl.Sign si.Colon) h = refl
row_is_apt ru.AfterYield c h = or_apt (before (level_row 1 c) (sy.Close ki.Yield ∷ [])) (ch.Absent ∷ ch.Close ki.Yield ∷ [])
    (before_apt (level_row 1 c) (sy.Close ki.Yield ∷ []) (level_apt 1 c) refl refl)
row_is_apt ru.ForHead (cl.Sign si.Let) h = refl
row_is_apt ru.ForHead c h = led_apt (ch.Absent ∷ []) (before (level_row 1 c) (rest_of 5 ki.For))
    (before_apt (level_row 1 c) (rest_of 5 ki.For) (level_apt 1 c) refl refl)
row_is_apt ru.AfterForName (cl.Sign si.Colon) h = refl
row_is_apt ru.AfterForName (cl.Sign _) h = refl
row_is_apt ru.AfterForName _ h = refl
row_is_apt ru.DeclWord c h = word_apt c
row_is_apt ru.UseStart cl.Name h = refl
row_is_apt ru.UseStart _ h = refl
row_is_apt ru.AfterUseName (cl.Sign si.Equals) h = refl
row_is_apt ru.AfterUseName c h = use_part_apt c
row_is_apt ru.AfterUseMark cl.Name h = refl
row_is_apt ru.AfterUseMark (cl.Sign si.LeftBrace) h = refl
row_is_apt ru.AfterUseMark (cl.Sign _) h = refl
row_is_apt ru.AfterUseMark _ h = refl
row_is_apt ru.AfterUsePart c h = use_part_apt c

-- behind a string that a rule uses stands no other
row_then_refuses : (n : Rule) → apt_rule n ≡ true → row_refuses (row n cl.Text) ≡ true
row_then_refuses (ru.Of s) h = of_refuses s
row_then_refuses (ru.Own ow.Label) h = refl
row_then_refuses (ru.Own _) h = refl
row_then_refuses (ru.Optional s) h = or_refuses (of_row s cl.Text) (ch.Absent ∷ []) (of_refuses s)
row_then_refuses (ru.Each s) h = each_fault s (part (ru.Each s) ∷ []) h
row_then_refuses (ru.EachFollowed s a) h = or_refuses (before (of_row s cl.Text) (sy.Want a ∷ part (ru.EachFollowed s a) ∷ [])) []
    (before_refuses (of_row s cl.Text) (sy.Want a ∷ part (ru.EachFollowed s a) ∷ []) (of_refuses s) refl)
row_then_refuses (ru.List s) h = or_refuses (before (of_row s cl.Text) (part (ru.More s) ∷ [])) (ch.Absent ∷ [])
    (before_refuses (of_row s cl.Text) (part (ru.More s) ∷ []) (of_refuses s) refl)
row_then_refuses (ru.BehindComma s) h = or_refuses (led_by (ch.Drop ∷ []) (before (of_row s cl.Text) (part (ru.More s) ∷ [])))
    (ch.Close ki.TrailingComma ∷ []) (led_refuses (ch.Drop ∷ []) (before (of_row s cl.Text) (part (ru.More s) ∷ []))
    (before_refuses (of_row s cl.Text) (part (ru.More s) ∷ []) (of_refuses s) refl))
row_then_refuses _ h = refl

row_junk : (n : Rule) → no_use (row n cl.Junk) ≡ true
row_junk (ru.Of s) = ap no_use (of_junk s)
row_junk (ru.Own ow.Label) = refl
row_junk (ru.Own _) = refl
row_junk (ru.Optional s) = ap (λ r. no_use (or_skips r (ch.Absent ∷ []))) (of_junk s)
row_junk (ru.Each s) = ap (λ r. no_use (or_skips (before r (part (ru.Each s) ∷ [])) [])) (of_junk s)
row_junk (ru.EachFollowed s a) = ap (λ r. no_use (or_skips (before r (sy.Want a ∷ part (ru.EachFollowed s a) ∷ [])) [])) (of_junk s)
row_junk (ru.List s) = ap (λ r. no_use (or_skips (before r (part (ru.More s) ∷ [])) (ch.Absent ∷ []))) (of_junk s)
row_junk (ru.BehindComma s) = ap (λ r. no_use
    (or_skips (led_by (ch.Drop ∷ []) (before r (part (ru.More s) ∷ []))) (ch.Close ki.TrailingComma ∷ []))) (of_junk s)
row_junk _ = refl

-- ---- steps

went : (p : List Symbol → Bool) (st st' : List Symbol) (gs gs' : List Group) → Goes st gs ≡ Goes st' gs' → p st ≡ true → p st' ≡ true
went p st st' gs gs' i g = let x : st ≡ st' = cc in subst (λ y. p y ≡ true) x g

step_apt : (f : ℕ) (t : Token) (c : Class) (st st' : List Symbol) (gs gs' : List Group) → apt st ≡ true → step f t c st gs ≡ Goes st' gs' →
    apt st' ≡ true
unfolding step
step_apt f t c [] st' gs gs' a i = cc
step_apt f t c (sy.Close k ∷ st) st' gs gs' a i = step_apt f t c st st' (close k gs) gs' a i
step_apt f t c (sy.Want d ∷ st) st' gs gs' a i = by (has_sign d c) i
  where
    by : (b : Bool) → wanted b (Goes st gs) ≡ Goes st' gs' → apt st' ≡ true
    by true i = went apt st st' gs gs' i a
    by false i = cc
step_apt f t c (sy.Part n ∷ st) st' gs gs' a i =
    let p = split (apt_rule n) (refuses st && apt st) a in
    let q = split (refuses st) (apt st) p.1 in
    by (row n c) (row_is_apt n c p.0) i (λ hs j. step_apt f t c st st' hs gs' q.1 j) q.0 q.1
  where
    by : (r : Row) → row_apt r ≡ true → acted r f t st gs (λ hs. step f t c st hs) ≡ Goes st' gs' →
        ((hs : List Group) → step f t c st hs ≡ Goes st' gs' → apt st' ≡ true) → refuses st ≡ true → apt st ≡ true → apt st' ≡ true
    by Fault g i k b d = cc
    by (Skips cs) g i k b d = k _ i
    by (Uses cs ss) g i k b d = went apt (ss ++ st) st' _ gs' i (apt_append ss st g d b)

-- behind a string that is used no other can stand
step_refuses : (f : ℕ) (t : Token) (st st' : List Symbol) (gs gs' : List Group) → apt st ≡ true → step f t cl.Text st gs ≡ Goes st' gs' →
    refuses st' ≡ true
unfolding step
step_refuses f t [] st' gs gs' a i = cc
step_refuses f t (sy.Close k ∷ st) st' gs gs' a i = step_refuses f t st st' (close k gs) gs' a i
step_refuses f t (sy.Want d ∷ st) st' gs gs' a i = cc
step_refuses f t (sy.Part n ∷ st) st' gs gs' a i =
    let p = split (apt_rule n) (refuses st && apt st) a in
    let q = split (refuses st) (apt st) p.1 in
    by (row n cl.Text) (row_then_refuses n p.0) i (λ hs j. step_refuses f t st st' hs gs' q.1 j) q.0
  where
    by : (r : Row) → row_refuses r ≡ true → acted r f t st gs (λ hs. step f t cl.Text st hs) ≡ Goes st' gs' →
        ((hs : List Group) → step f t cl.Text st hs ≡ Goes st' gs' → refuses st' ≡ true) → refuses st ≡ true → refuses st' ≡ true
    by Fault g i k b = cc
    by (Skips cs) g i k b = k _ i
    by (Uses cs ss) g i k b = went refuses (ss ++ st) st' _ gs' i (refuses_append ss st g b)

-- where no string can stand, none is used
step_refused : (f : ℕ) (t : Token) (st st' : List Symbol) (gs gs' : List Group) → refuses st ≡ true →
    step f t cl.Text st gs ≡ Goes st' gs' → ⊥
unfolding step
step_refused f t [] st' gs gs' a i = cc
step_refused f t (sy.Close k ∷ st) st' gs gs' a i = step_refused f t st st' (close k gs) gs' a i
step_refused f t (sy.Want d ∷ st) st' gs gs' a i = cc
step_refused f t (sy.Part n ∷ st) st' gs gs' a i = by (row n cl.Text) a i (λ hs b j. step_refused f t st st' hs gs' b j)
  where
    by : (r : Row) → passes r (refuses st) ≡ true → acted r f t st gs (λ hs. step f t cl.Text st hs) ≡ Goes st' gs' →
        ((hs : List Group) → refuses st ≡ true → step f t cl.Text st hs ≡ Goes st' gs' → ⊥) → ⊥
    by Fault b i k = cc
    by (Skips cs) b i k = k _ b i
    by (Uses cs ss) b i k = cc

step_junk : (f : ℕ) (t : Token) (st st' : List Symbol) (gs gs' : List Group) → step f t cl.Junk st gs ≡ Goes st' gs' → ⊥
unfolding step
step_junk f t [] st' gs gs' i = cc
step_junk f t (sy.Close k ∷ st) st' gs gs' i = step_junk f t st st' (close k gs) gs' i
step_junk f t (sy.Want d ∷ st) st' gs gs' i = cc
step_junk f t (sy.Part n ∷ st) st' gs gs' i = by (row n cl.Junk) (row_junk n) i (λ hs j. step_junk f t st st' hs gs' j)
  where
    by : (r : Row) → no_use r ≡ true → acted r f t st gs (λ hs. step f t cl.Junk st hs) ≡ Goes st' gs' →
        ((hs : List Group) → step f t cl.Junk st hs ≡ Goes st' gs' → ⊥) → ⊥
    by Fault b i k = cc
    by (Skips cs) b i k = k _ i
    by (Uses cs ss) b i k = cc

-- ---- runs

-- a token of this class may be used, where `b` says that no string can stand there
abbrev pub usable : Bool → Class → Bool
usable b c = not (is_junk c) && not (b && is_text c)

-- no token is Junk, and no two strings stand side by side
abbrev pub apart : Bool → List Token → Bool
apart b [] = true
apart b (t ∷ u) = usable b (class_of t) && apart (is_text (class_of t)) u

-- the tokens that a run has used
pub record UsesApart (b : Bool) (w v : List Token) : Type 0 where
  pub used : List Token
  pub is : w ≡ used ++ v
  pub apart : apart b used ≡ true

step_usable : (f : ℕ) (t : Token) (c : Class) (b : Bool) (st st' : List Symbol) (gs gs' : List Group) → (b ≡ true → refuses st ≡ true) →
    step f t c st gs ≡ Goes st' gs' → usable b c ≡ true
step_usable f t cl.Junk b st st' gs gs' r i = absurd (step_junk f t st st' gs gs' i)
step_usable f t cl.Text true st st' gs gs' r i = absurd (step_refused f t st st' gs gs' (r refl) i)
step_usable f t cl.Text false st st' gs gs' r i = refl
step_usable f t _ true st st' gs gs' r i = refl
step_usable f t _ false st st' gs gs' r i = refl

step_next : (f : ℕ) (t : Token) (c : Class) (st st' : List Symbol) (gs gs' : List Group) → apt st ≡ true → step f t c st gs ≡ Goes st' gs' →
    is_text c ≡ true → refuses st' ≡ true
step_next f t cl.Text st st' gs gs' a i e = step_refuses f t st st' gs gs' a i
step_next f t _ st st' gs gs' a i e = cc

pub run_apart : (f : ℕ) (w v : List Token) (b : Bool) (st : List Symbol) (gs made : List Group) → apt st ≡ true →
    (b ≡ true → refuses st ≡ true) → run f w st gs ≡ Done v made → UsesApart b w v
unfolding run
run_apart f [] v b st gs made a r e = cc
run_apart f (t ∷ w) v b st gs made a r e = by (step f t (class_of t) st gs) refl e
    (λ b' st' gs' a' r' q. run_apart f w v b' st' gs' made a' r' q)
  where
    by : (z : Step) → step f t (class_of t) st gs ≡ z → after z t w (λ st' gs'. run f w st' gs') ≡ Done v made →
        ((b' : Bool) (st' : List Symbol) (gs' : List Group) → apt st' ≡ true → (b' ≡ true → refuses st' ≡ true) →
        run f w st' gs' ≡ Done v made → UsesApart b' w v) → UsesApart b (t ∷ w) v
    by (Goes st' gs') i e k =
        let q = k (is_text (class_of t)) st' gs' (step_apt f t (class_of t) st st' gs gs' a i)
        (λ x. step_next f t (class_of t) st st' gs gs' a i x) e in
        record { used = t ∷ q.used; is = ap (λ l. t ∷ l) q.is; apart = rw (step_usable f t (class_of t) b st st' gs gs' r i, q.apart) refl }
    by (Ends gs') i e k = let x : t ∷ w ≡ v = cc in record { used = []; is = x; apart = refl }
    by Stuck i e k = cc

-- the same where all tokens are used
pub used_up_apart : (f : ℕ) (w : List Token) (b : Bool) (st : List Symbol) (gs : List Group) → apt st ≡ true →
    (b ≡ true → refuses st ≡ true) → run f w st gs ≡ Fails [] → apart b w ≡ true
unfolding run
used_up_apart f [] b st gs a r e = refl
used_up_apart f (t ∷ w) b st gs a r e = by (step f t (class_of t) st gs) refl e (λ b' st' gs' a' r' q. used_up_apart f w b' st' gs' a' r' q)
  where
    by : (z : Step) → step f t (class_of t) st gs ≡ z → after z t w (λ st' gs'. run f w st' gs') ≡ Fails [] →
        ((b' : Bool) (st' : List Symbol) (gs' : List Group) → apt st' ≡ true → (b' ≡ true → refuses st' ≡ true) →
        run f w st' gs' ≡ Fails [] → apart b' w ≡ true) → apart b (t ∷ w) ≡ true
    by (Goes st' gs') i e k =
        let q = k (is_text (class_of t)) st' gs' (step_apt f t (class_of t) st st' gs gs' a i)
        (λ x. step_next f t (class_of t) st st' gs gs' a i x) e in
        rw (step_usable f t (class_of t) b st st' gs gs' r i, q) refl
    by (Ends gs') i e k = cc
    by Stuck i e k = cc

-- each of such tokens is one that some tree is spelled by
pub apart_proper : (b : Bool) (u : List Token) (t : Token) (v : List Token) → apart b (u ++ t ∷ v) ≡ true →
    not (is_junk (class_of t)) ≡ true
apart_proper b [] t v e =
    let p = split (usable b (class_of t)) (apart (is_text (class_of t)) v) e in
    (split (not (is_junk (class_of t))) (not (b && is_text (class_of t))) p.0).0
apart_proper b (y ∷ u) t v e = apart_proper (is_text (class_of y)) u t v
    (split (usable b (class_of y)) (apart (is_text (class_of y)) (u ++ t ∷ v)) e).1
