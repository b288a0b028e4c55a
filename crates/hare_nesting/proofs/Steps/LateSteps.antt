-- Steps by the rules that decide late what a tree under way is: behind the name of a loop, and behind the first name of an import.
use Rattle.std.proofs.Common.{◌≡◌, ℕ, suc, List, [], ◌∷◌, ◌++◌, Bool, true, false, map, refl, arith}
use Rattle.hare_tree.specs.declared.kind.Kind.TheVariants as ki
use Rattle.hare_tree.specs.declared.form.Sign.TheVariants as si
use Rattle.hare_tree.specs.declared.form.Sort.TheVariants as so
use Rattle.hare_tree.specs.declared.token.Token.{Token}
use Rattle.hare_tree.specs.Spell.{start_of}
use Rattle.hare_tree.specs.Forms.{expr}
use Rattle.hare_automaton.specs.declared.class.Class.{Class}
use Rattle.hare_automaton.specs.declared.class.Class.TheVariants as cl
use Rattle.hare_automaton.specs.declared.rule.Rule.TheVariants as ru
use Rattle.hare_automaton.specs.declared.rule.Symbol.{Symbol}
use Rattle.hare_automaton.specs.declared.rule.Symbol.TheVariants as sy
use Rattle.hare_automaton.specs.declared.rule.Change.{Change}
use Rattle.hare_automaton.specs.declared.rule.Change.TheVariants as ch
use Rattle.hare_automaton.specs.Rows.{Skips, Uses, of, part, rest_of}
use Rattle.hare_automaton.specs.Table.{row}
use Rattle.hare_automaton.specs.Engine.{Group, bare_leaf, with_kids, add, lift, all_changed}
use Rattle.hare_nesting.specs.Gauge.{nodes_in, found}
use Rattle.hare_nesting.proofs.UnderWay.Stacks.{mark, frames, stack_faults, follows, Held}
use Rattle.hare_nesting.proofs.Telling.Claims.{calm_step, Stepped}
use Rattle.hare_nesting.proofs.UnderWay.Lists.{gains_refl, gains_then}
use Rattle.hare_nesting.proofs.UnderWay.Seen.{frames_add}
use Rattle.hare_nesting.proofs.UnderWay.Changes.{absent_gains}
use Rattle.hare_nesting.proofs.UnderWay.Idle.{lift_gains, turn_gains}
use Rattle.hare_nesting.proofs.CheckedRows.Slots.{uses_ok, ends_stack}
use Rattle.hare_nesting.proofs.Steps.Stands.{Stands, stands_next, absent_stands}
use Rattle.hare_nesting.proofs.Steps.Tame.{grows_none}
use Rattle.hare_nesting.proofs.UnderWay.Lifted.{empty_idle, idle_put, lift_stands}
use Rattle.hare_nesting.proofs.Steps.Follow.{follows_next}
use Rattle.hare_nesting.proofs.Steps.Stepped.{uses_same, held_stands, grown_stepped, told_stepped, used_stepped}

-- ---- the head of a loop

-- what is waited for behind the name where the tree is a `let`
abbrev valued : List Symbol
valued = of expr ∷ sy.Close ki.Let ∷ sy.Want si.Semicolon ∷ of expr ∷ rest_of 5 ki.For

abbrev typed : List Symbol
typed = of so.Type ∷ sy.Want si.Equals ∷ valued

turned : (n m : ℕ) (bs : List Bool) (gs : List Group) → Stands n m (false ∷ bs) (frames gs) → Stands n m (true ∷ bs) (frames gs)
turned n m bs gs s = record { fitting = s.fitting; ordered = s.ordered; below = s.below; placed = s.placed }

typed_stepped : (f : ℕ) (t : Token) (st : List Symbol) (gs : List Group) → Held t.place.line (part ru.AfterForName ∷ st) (frames gs) →
    Stepped t.place.line (cl.Sign si.Colon) (part ru.AfterForName ∷ st) gs (typed ++ st) gs
unfolding nodes_in follows calm_step
typed_stepped f t st [] e = absurd (omega (arith, e.fitting))
typed_stepped f t st (g ∷ hs) e =
    let n = t.place.line in
    let s = part ru.AfterForName in
    let bs = true ∷ nodes_in st in
    let z = stands_next n (false ∷ bs) (frames (g ∷ hs)) (held_stands n (s ∷ st) (g ∷ hs) e) in
    told_stepped n (cl.Sign si.Colon) (s ∷ st) (typed ++ st) (g ∷ hs) (g ∷ hs)
    (turn_gains bs g hs (empty_idle (map mark g.kids) e.readied) e.fitting) (turned n (suc n) bs (g ∷ hs) z)
    (follows_next s [] typed st refl e.following refl (λ j. refl)) refl (λ j. cc)

valued_stepped : (f : ℕ) (t : Token) (st : List Symbol) (gs : List Group) → Held t.place.line (part ru.AfterForName ∷ st) (frames gs) →
    Stepped t.place.line (cl.Sign si.Equals) (part ru.AfterForName ∷ st) gs (valued ++ st) (add (bare_leaf ki.None (start_of f)) gs)
unfolding nodes_in follows calm_step
valued_stepped f t st [] e = absurd (omega (arith, e.fitting))
valued_stepped f t st (g ∷ hs) e =
    let n = t.place.line in
    let s = part ru.AfterForName in
    let bs = true ∷ nodes_in st in
    let gs = g ∷ hs in
    let none_typed = bare_leaf ki.None (start_of f) in
    let made = with_kids g (g.kids ++ none_typed ∷ []) in
    let z = stands_next n (false ∷ bs) (frames gs) (held_stands n (s ∷ st) gs e) in
    let y : Stands n (suc n) (false ∷ bs) (frames (made ∷ hs)) =
    rw (frames_add none_typed gs) (absent_stands n (suc n) (false ∷ bs) (frames gs) z) in
    let a = absent_gains (false ∷ bs) f gs e.fitting in
    let b = turn_gains bs made hs (idle_put g.kids none_typed (empty_idle (map mark g.kids) e.readied) refl) y.fitting in
    told_stepped n (cl.Sign si.Equals) (s ∷ st) (valued ++ st) gs (made ∷ hs)
    (gains_then (stack_faults (false ∷ bs) gs) (stack_faults (false ∷ bs) (made ∷ hs)) (stack_faults (true ∷ bs) (made ∷ hs))
    (found (true ∷ bs) (frames (made ∷ hs))) a b) (turned n (suc n) bs (made ∷ hs) y)
    (follows_next s [] valued st refl e.following refl (λ j. refl)) refl (λ j. cc)

data NameUse (c : Class) (cs : List Change) (ss : List Symbol) : Type 0 where
  with_type : c ≡ cl.Sign si.Colon → cs ≡ [] → ss ≡ typed → NameUse c cs ss
  with_value : c ≡ cl.Sign si.Equals → cs ≡ ch.Absent ∷ [] → ss ≡ valued → NameUse c cs ss
  over_items : uses_ok (false ∷ true ∷ []) (Uses cs ss) ≡ true → ends_stack cs ss ≡ true → NameUse c cs ss

name_use : (c : Class) (cs : List Change) (ss : List Symbol) → row ru.AfterForName c ≡ Uses cs ss → NameUse c cs ss
unfolding nodes_in follows
name_use (cl.Sign si.Colon) cs ss e = let u = uses_same cs _ ss _ e in with_type refl u.0 u.1
name_use (cl.Sign si.Equals) cs ss e = let u = uses_same cs _ ss _ e in with_value refl u.0 u.1
name_use (cl.Sign si.DotDot) cs ss e = let u = uses_same cs _ ss _ e in over_items (rw (u.0, u.1) refl) (rw (u.0, u.1) refl)
name_use (cl.Sign si.Ampersand) cs ss e = let u = uses_same cs _ ss _ e in over_items (rw (u.0, u.1) refl) (rw (u.0, u.1) refl)
name_use (cl.Sign _) cs ss e = cc
name_use _ cs ss e = cc

pub for_name_never_over : (c : Class) (cs : List Change) → row ru.AfterForName c ≡ Skips cs → ⊥
for_name_never_over (cl.Sign si.Colon) cs e = cc
for_name_never_over (cl.Sign si.Equals) cs e = cc
for_name_never_over (cl.Sign si.DotDot) cs e = cc
for_name_never_over (cl.Sign si.Ampersand) cs e = cc
for_name_never_over (cl.Sign _) cs e = cc
for_name_never_over _ cs e = cc

pub for_name_stepped : (f : ℕ) (t : Token) (c : Class) (cs : List Change) (ss st : List Symbol) (gs : List Group) →
    row ru.AfterForName c ≡ Uses cs ss → Held t.place.line (part ru.AfterForName ∷ st) (frames gs) →
    Stepped t.place.line c (part ru.AfterForName ∷ st) gs (ss ++ st) (all_changed f t cs gs)
unfolding nodes_in
for_name_stepped f t c cs ss st gs i e = by (name_use c cs ss i)
  where
    by : NameUse c cs ss → Stepped t.place.line c (part ru.AfterForName ∷ st) gs (ss ++ st) (all_changed f t cs gs)
    by (with_type d a b) = rw (d, a, b) (typed_stepped f t st gs e)
    by (with_value d a b) = rw (d, a, b) (valued_stepped f t st gs e)
    by (over_items o ends) =
        let n = t.place.line in
        let s = part ru.AfterForName in
        let bs = nodes_in (s ∷ st) in
        used_stepped f t c s (false ∷ true ∷ []) cs ss st gs gs refl e.following o (λ j. ends) (gains_refl (stack_faults bs gs))
        (stands_next n bs (frames gs) (held_stands n (s ∷ st) gs e))

-- ---- imports

-- `=` makes the name an alias, of which the path is yet to come
alias_stepped : (f : ℕ) (t : Token) (c : Class) (st : List Symbol) (gs : List Group) →
    Held t.place.line (part ru.AfterUseName ∷ st) (frames gs) →
    Stepped t.place.line c (part ru.AfterUseName ∷ st) gs (rest_of 3 ki.UseAlias ++ st) (lift gs)
unfolding nodes_in follows
alias_stepped f t c st [] e = absurd (omega (arith, e.fitting))
alias_stepped f t c st (g ∷ []) e = absurd (omega (arith, e.fitting))
alias_stepped f t c st (g ∷ h ∷ hs) e =
    let n = t.place.line in
    let s = part ru.AfterUseName in
    let bs = false ∷ nodes_in st in
    let gs = g ∷ h ∷ hs in
    let z = stands_next n (false ∷ bs) (frames gs) (held_stands n (s ∷ st) gs e) in
    grown_stepped n c (s ∷ st) (rest_of 3 ki.UseAlias ++ st) gs (lift gs)
    (grows_none n (stack_faults (false ∷ bs) gs) (stack_faults bs (lift gs)) (found bs (frames (lift gs)))
    (lift_gains bs g h hs e.fitting e.readied)) (lift_stands n (suc n) bs g h hs e.readied z)
    (follows_next s [] (rest_of 3 ki.UseAlias) st refl e.following refl (λ j. cc)) refl

data ImportUse (cs : List Change) (ss : List Symbol) : Type 0 where
  alias : cs ≡ ch.Lift ∷ [] → ss ≡ rest_of 3 ki.UseAlias → ImportUse cs ss
  further : uses_ok (false ∷ false ∷ []) (Uses cs ss) ≡ true → ImportUse cs ss

import_use : (c : Class) (cs : List Change) (ss : List Symbol) → row ru.AfterUseName c ≡ Uses cs ss → ImportUse cs ss
unfolding nodes_in follows
import_use (cl.Sign si.Equals) cs ss e = let u = uses_same cs _ ss _ e in alias u.0 u.1
import_use (cl.Sign si.PathMark) cs ss e = let u = uses_same cs _ ss _ e in further (rw (u.0, u.1) refl)
import_use (cl.Sign si.Semicolon) cs ss e = let u = uses_same cs _ ss _ e in further (rw (u.0, u.1) refl)
import_use (cl.Sign _) cs ss e = cc
import_use _ cs ss e = cc

pub import_never_over : (c : Class) (cs : List Change) → row ru.AfterUseName c ≡ Skips cs → ⊥
import_never_over (cl.Sign si.Equals) cs e = cc
import_never_over (cl.Sign si.PathMark) cs e = cc
import_never_over (cl.Sign si.Semicolon) cs e = cc
import_never_over (cl.Sign _) cs e = cc
import_never_over _ cs e = cc

pub import_stepped : (f : ℕ) (t : Token) (c : Class) (cs : List Change) (ss st : List Symbol) (gs : List Group) →
    row ru.AfterUseName c ≡ Uses cs ss → Held t.place.line (part ru.AfterUseName ∷ st) (frames gs) →
    Stepped t.place.line c (part ru.AfterUseName ∷ st) gs (ss ++ st) (all_changed f t cs gs)
unfolding nodes_in
import_stepped f t c cs ss st gs i e = by (import_use c cs ss i)
  where
    by : ImportUse cs ss → Stepped t.place.line c (part ru.AfterUseName ∷ st) gs (ss ++ st) (all_changed f t cs gs)
    by (alias a b) = rw (a, b) (alias_stepped f t c st gs e)
    by (further o) =
        let n = t.place.line in
        let s = part ru.AfterUseName in
        let bs = nodes_in (s ∷ st) in
        used_stepped f t c s (false ∷ false ∷ []) cs ss st gs gs refl e.following o (λ j. cc) (gains_refl (stack_faults bs gs))
        (stands_next n bs (frames gs) (held_stands n (s ∷ st) gs e))
