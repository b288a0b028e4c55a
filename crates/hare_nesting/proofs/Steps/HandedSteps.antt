-- Steps by the rules that hand on what the next symbol needs: a tree's own text, and a name behind `::`.
use Rattle.std.proofs.Common.{◌≡◌, ℕ, suc, List, [], ◌∷◌, ◌++◌, true, refl, ap, sym, ◌∙◌, subst}
use Rattle.std.specs.List.{list_all}
use Rattle.hare_tree.specs.declared.form.Sign.TheVariants as si
use Rattle.hare_tree.specs.declared.form.Own.{Own}
use Rattle.hare_tree.specs.declared.form.Own.TheVariants as ow
use Rattle.hare_tree.specs.declared.token.Token.{Token}
use Rattle.hare_automaton.specs.declared.class.Class.{Class}
use Rattle.hare_automaton.specs.declared.class.Class.TheVariants as cl
use Rattle.hare_automaton.specs.declared.rule.Rule.TheVariants as ru
use Rattle.hare_automaton.specs.declared.rule.Symbol.{Symbol}
use Rattle.hare_automaton.specs.declared.rule.Symbol.TheVariants as sy
use Rattle.hare_automaton.specs.declared.rule.Change.{Change}
use Rattle.hare_automaton.specs.declared.rule.Change.TheVariants as ch
use Rattle.hare_automaton.specs.Rows.{Skips, Uses, part}
use Rattle.hare_automaton.specs.Table.{row}
use Rattle.hare_automaton.specs.Engine.{Group, all_changed}
use Rattle.hare_automaton.proofs.Spelled.Paths.{split}
use Rattle.hare_nesting.specs.Gauge.{nodes_in, found}
use Rattle.hare_nesting.proofs.UnderWay.Stacks.{frames, stack_faults, ready, may_follow, follows, Held}
use Rattle.hare_nesting.proofs.Telling.Claims.{Stepped}
use Rattle.hare_nesting.proofs.UnderWay.Lists.{gains_refl, gains_none}
use Rattle.hare_nesting.proofs.CheckedRows.Slots.{is_still, hands_on}
use Rattle.hare_nesting.proofs.Steps.Stands.{Stands, stands_next}
use Rattle.hare_nesting.proofs.Steps.Tame.{grows_none, still_same}
use Rattle.hare_nesting.proofs.Steps.Follow.{follows_tail, ready_handed}
use Rattle.hare_nesting.proofs.Steps.Stepped.{uses_same, held_stands, grown_stepped, Skipped}

handed_nodes : (s : Symbol) (st : List Symbol) → hands_on s ≡ true → nodes_in (s ∷ st) ≡ nodes_in st
unfolding nodes_in
handed_nodes (sy.Part ru.PathName) st e = refl
handed_nodes (sy.Part (ru.Own o)) st e = refl
handed_nodes _ st e = cc

-- the token is text, of which no limit hears
text_stepped : (f : ℕ) (t : Token) (c : Class) (s : Symbol) (cs : List Change) (st : List Symbol) (gs : List Group) → hands_on s ≡ true →
    list_all is_still cs ≡ true → Held t.place.line (s ∷ st) (frames gs) → Stepped t.place.line c (s ∷ st) gs st (all_changed f t cs gs)
text_stepped f t c s cs st gs p e h =
    let n = t.place.line in
    let hs = all_changed f t cs gs in
    let i = handed_nodes s st p in
    let y = still_same f t cs (nodes_in st) gs e in
    let z : Stands n (suc n) (nodes_in st) (frames hs) =
    rw y.1 (subst (λ l. Stands n (suc n) l (frames gs)) i (stands_next n (nodes_in (s ∷ st)) (frames gs) (held_stands n (s ∷ st) gs h)))
    in
    let same : stack_faults (nodes_in (s ∷ st)) gs ≡ stack_faults (nodes_in st) hs = ap (λ l. stack_faults l gs) i ∙ sym y.0 in
    grown_stepped n c (s ∷ st) st gs hs (grows_none n (stack_faults (nodes_in (s ∷ st)) gs) (stack_faults (nodes_in st) hs)
    (found (nodes_in st) (frames hs)) (gains_none _ _ same)) z (follows_tail s st h.following)
    (rw y.1 (ready_handed s st (frames gs) p h.following h.readied))

-- ---- own texts

data OwnUse (o : Own) (cs : List Change) (ss : List Symbol) : Type 0 where
  text : cs ≡ ch.Take ∷ [] → ss ≡ [] → OwnUse o cs ss
  label : o ≡ ow.Label → cs ≡ [] → ss ≡ part (ru.Own ow.Name) ∷ [] → OwnUse o cs ss

own_use : (o : Own) (c : Class) (cs : List Change) (ss : List Symbol) → row (ru.Own o) c ≡ Uses cs ss → OwnUse o cs ss
own_use ow.Name cl.Name cs ss e = let u = uses_same cs _ ss _ e in text u.0 u.1
own_use ow.Name _ cs ss e = cc
own_use ow.Member cl.Name cs ss e = let u = uses_same cs _ ss _ e in text u.0 u.1
own_use ow.Member cl.Number cs ss e = let u = uses_same cs _ ss _ e in text u.0 u.1
own_use ow.Member _ cs ss e = cc
own_use ow.Label (cl.Sign si.Colon) cs ss e = let u = uses_same cs _ ss _ e in label refl u.0 u.1
own_use ow.Label (cl.Sign _) cs ss e = cc
own_use ow.Label _ cs ss e = cc
own_use _ c cs ss e = cc

own_over : (o : Own) (c : Class) (cs : List Change) → row (ru.Own o) c ≡ Skips cs → cs ≡ []
own_over ow.Name cl.Name cs e = cc
own_over ow.Name _ cs e = cc
own_over ow.Member cl.Name cs e = cc
own_over ow.Member cl.Number cs e = cc
own_over ow.Member _ cs e = cc
own_over ow.Label (cl.Sign si.Colon) cs e = cc
own_over ow.Label (cl.Sign _) cs e = cc
own_over ow.Label _ cs e = cc
own_over _ c cs e = cc

label_follows : (d : Symbol) → may_follow (part (ru.Own ow.Label)) d ≡ true → may_follow (part (ru.Own ow.Name)) d ≡ true
label_follows (sy.Part (ru.Climb l h)) e = e
label_follows (sy.Part (ru.BehindComma r)) e = e
label_follows (sy.Part ru.BehindElementComma) e = e
label_follows (sy.Part ru.AfterUseName) e = e
label_follows (sy.Part ru.PathName) e = e
label_follows (sy.Part (ru.Own o)) e = e
label_follows (sy.Part ru.PathOrStruct) e = e
label_follows (sy.Part ru.AfterForName) e = cc
label_follows _ e = refl

-- behind the colon of a label its name is waited for
label_stepped : (f : ℕ) (t : Token) (c : Class) (st : List Symbol) (gs : List Group) →
    Held t.place.line (part (ru.Own ow.Label) ∷ st) (frames gs) →
    Stepped t.place.line c (part (ru.Own ow.Label) ∷ st) gs (part (ru.Own ow.Name) ∷ st) gs
unfolding nodes_in follows
label_stepped f t c st gs h =
    let n = t.place.line in
    grown_stepped n c (part (ru.Own ow.Label) ∷ st) (part (ru.Own ow.Name) ∷ st) gs gs
    (grows_none n (stack_faults (nodes_in st) gs) (stack_faults (nodes_in st) gs) (found (nodes_in st) (frames gs))
    (gains_refl (stack_faults (nodes_in st) gs)))
    (stands_next n (nodes_in st) (frames gs) (held_stands n (part (ru.Own ow.Label) ∷ st) gs h)) (next st h.following)
    (kept st h.readied)
  where
    next : (st : List Symbol) → follows (part (ru.Own ow.Label) ∷ st) ≡ true → follows (part (ru.Own ow.Name) ∷ st) ≡ true
    next [] e = refl
    next (d ∷ st) e = let p = split (may_follow (part (ru.Own ow.Label)) d) (follows (d ∷ st)) e in rw (label_follows d p.0, p.1) refl

    kept : (st : List Symbol) → ready (part (ru.Own ow.Label) ∷ st) (frames gs) ≡ true →
        ready (part (ru.Own ow.Name) ∷ st) (frames gs) ≡ true
    kept [] e = refl
    kept (d ∷ st) e = e

pub own_stepped : (f : ℕ) (t : Token) (c : Class) (o : Own) (cs : List Change) (ss st : List Symbol) (gs : List Group) →
    row (ru.Own o) c ≡ Uses cs ss → Held t.place.line (part (ru.Own o) ∷ st) (frames gs) →
    Stepped t.place.line c (part (ru.Own o) ∷ st) gs (ss ++ st) (all_changed f t cs gs)
own_stepped f t c o cs ss st gs i h = by (own_use o c cs ss i)
  where
    by : OwnUse o cs ss → Stepped t.place.line c (part (ru.Own o) ∷ st) gs (ss ++ st) (all_changed f t cs gs)
    by (text a b) = rw (a, b) (text_stepped f t c (part (ru.Own o)) (ch.Take ∷ []) st gs refl refl h)
    by (label d a b) = rw (a, b, d) (label_stepped f t c st gs (subst (λ x. Held t.place.line (part (ru.Own x) ∷ st) (frames gs)) d h))

pub own_skipped : (f : ℕ) (t : Token) (c : Class) (o : Own) (cs : List Change) (st : List Symbol) (gs : List Group) →
    row (ru.Own o) c ≡ Skips cs → Held t.place.line (part (ru.Own o) ∷ st) (frames gs) →
    Skipped t.place.line (part (ru.Own o) ∷ st) gs st (all_changed f t cs gs)
unfolding nodes_in
own_skipped f t c o cs st gs i h =
    let s = part (ru.Own o) in
    rw (own_over o c cs i) record {
      held = record {
        fitting = h.fitting;
        ordered = h.ordered;
        below = h.below;
        following = follows_tail s st h.following;
        readied =
            ready_handed s st (frames gs) refl h.following h.readied;
      };
      gains = gains_refl (stack_faults (nodes_in st) gs);
    }

-- ---- names behind `::`

name_use : (c : Class) (cs : List Change) (ss : List Symbol) → row ru.PathName c ≡ Uses cs ss → (cs ≡ ch.Join ∷ []) × (ss ≡ [])
name_use cl.Name cs ss e = uses_same cs _ ss _ e
name_use cl.PathWord cs ss e = uses_same cs _ ss _ e
name_use _ cs ss e = cc

pub name_never_over : (c : Class) (cs : List Change) → row ru.PathName c ≡ Skips cs → ⊥
name_never_over cl.Name cs e = cc
name_never_over cl.PathWord cs e = cc
name_never_over _ cs e = cc

pub name_stepped : (f : ℕ) (t : Token) (c : Class) (cs : List Change) (ss st : List Symbol) (gs : List Group) →
    row ru.PathName c ≡ Uses cs ss → Held t.place.line (part ru.PathName ∷ st) (frames gs) →
    Stepped t.place.line c (part ru.PathName ∷ st) gs (ss ++ st) (all_changed f t cs gs)
name_stepped f t c cs ss st gs i h =
    let u = name_use c cs ss i in
    rw (u.0, u.1) (text_stepped f t c (part ru.PathName) (ch.Join ∷ []) st gs refl refl h)
