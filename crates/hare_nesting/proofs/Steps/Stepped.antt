-- Steps by rules that need nothing of the trees under way: what they gain is their token, if it is used, and the gauge finds it.
use Rattle.std.proofs.Common.{◌≡◌, ℕ, suc, List, [], ◌∷◌, ◌++◌, Bool, true, false, ◌⊎◌, inl, inr, ◌&&◌, refl, ap, sym, ◌∙◌, subst}
use Rattle.std.specs.List.{list_all}
use Rattle.hare_tree.specs.declared.kind.Kind.{Kind}
use Rattle.hare_tree.specs.declared.token.Token.{Token}
use Rattle.hare_tree.specs.Depth.{is_node}
use Rattle.hare_tree.specs.Grammar.{IsOn}
use Rattle.hare_automaton.specs.declared.class.Class.{Class}
use Rattle.hare_automaton.specs.declared.rule.Rule.{Rule}
use Rattle.hare_automaton.specs.declared.rule.Symbol.{Symbol}
use Rattle.hare_automaton.specs.declared.rule.Symbol.TheVariants as sy
use Rattle.hare_automaton.specs.declared.rule.Change.{Change}
use Rattle.hare_automaton.specs.declared.rule.Change.TheVariants as ch
use Rattle.hare_automaton.specs.Rows.{Skips, Uses}
use Rattle.hare_automaton.specs.Table.{row}
use Rattle.hare_automaton.specs.Engine.{Group, close, changed, all_changed}
use Rattle.hare_automaton.proofs.Spelled.Paths.{split}
use Rattle.hare_nesting.specs.Marks as seen
use Rattle.hare_nesting.specs.Gauge.{nodes_of_rule, nodes_in, found}
use Rattle.hare_nesting.proofs.UnderWay.Stacks.{frames, stack_faults, Gains, ready_frames, ready, ends_operand, follows, Held}
use Rattle.hare_nesting.proofs.Telling.Claims.{calm_step, Stepped}
use Rattle.hare_nesting.proofs.UnderWay.Lists.{gains_refl, gains_then}
use Rattle.hare_nesting.proofs.UnderWay.Seen.{frames_close, frames_all_changed}
use Rattle.hare_nesting.proofs.UnderWay.Changes.{absent_gains}
use Rattle.hare_nesting.proofs.UnderWay.Found.{found_holds}
use Rattle.hare_nesting.proofs.CheckedRows.Slots.{all_undone, tame, is_over, is_put, ends_in, is_plain, made_for, hands_on, prepared}
use Rattle.hare_nesting.proofs.CheckedRows.Slots.{same_bools, uses_ok, row_ok, ends_stack, ends_row}
use Rattle.hare_nesting.proofs.CheckedRows.SlotForms.{same_equal, nodes_append, plain_hands, tame_append}
use Rattle.hare_nesting.proofs.CheckedRows.SlotRows.{rule_ok, rule_ends}
use Rattle.hare_nesting.proofs.Steps.Stands.{Stands, below_placed, stands_next, absent_stands, close_stands}
use Rattle.hare_nesting.proofs.Steps.Tame.{Grows, grows_behind, moved, closes, Made, tame_grows}
use Rattle.hare_nesting.proofs.Steps.Ready.{operand_on_top, close_on_top, operand_made, made_ready, prepared_ready}
use Rattle.hare_nesting.proofs.Steps.Follow.{ready_next, follows_tail, follows_next}

pub uses_same : (cs ds : List Change) (ss rs : List Symbol) → Uses ds rs ≡ Uses cs ss → (cs ≡ ds) × (ss ≡ rs)
uses_same cs ds ss rs e =
    let a : cs ≡ ds = cc in
    let b : ss ≡ rs = cc in
    (a, b)

pub skips_same : (cs ds : List Change) → Skips ds ≡ Skips cs → cs ≡ ds
skips_same cs ds e = cc

pub held_stands : (n : ℕ) (st : List Symbol) (gs : List Group) → Held n st (frames gs) → Stands n n (nodes_in st) (frames gs)
held_stands n st gs h = record { fitting = h.fitting; ordered = h.ordered; below = h.below; placed = below_placed n (frames gs) h.below }

-- ---- a token that is used

-- what a used token leaves, where what it gains is found
pub grown_stepped : (n : ℕ) (c : Class) (st st' : List Symbol) (gs gs' : List Group) →
    Grows n (stack_faults (nodes_in st) gs) (stack_faults (nodes_in st') gs') (found (nodes_in st') (frames gs')) →
    Stands n (suc n) (nodes_in st') (frames gs') → follows st' ≡ true → ready st' (frames gs') ≡ true → Stepped n c st gs st' gs'
grown_stepped n c st st' gs gs' g s f r =
    record {
      held = record { fitting = s.fitting; ordered = s.ordered; below = s.below; following = f; readied = r };
      gains = record { kept = g.kept; gained = λ x i. found_holds (nodes_in st') gs' s.fitting x i; only = λ x i. told x (g.only x i) };
      calm = λ e x i. new x (g.only x i);
    }
  where
    told : (x : ℕ) → IsOn x (stack_faults (nodes_in st) gs) ⊎ ((x ≡ n) × IsOn x (found (nodes_in st') (frames gs'))) →
        IsOn x (stack_faults (nodes_in st) gs) ⊎ IsOn x (found (nodes_in st') (frames gs'))
    told x (inl i) = inl i
    told x (inr i) = inr i.1

    new : (x : ℕ) → IsOn x (stack_faults (nodes_in st) gs) ⊎ ((x ≡ n) × IsOn x (found (nodes_in st') (frames gs'))) →
        IsOn x (stack_faults (nodes_in st) gs) ⊎ (x ≡ n)
    new x (inl i) = inl i
    new x (inr i) = inr i.0

-- The same where more than the token is gained, by a row that is not calm.
pub told_stepped : (n : ℕ) (c : Class) (st st' : List Symbol) (gs gs' : List Group) →
    Gains (stack_faults (nodes_in st) gs) (stack_faults (nodes_in st') gs') (found (nodes_in st') (frames gs')) →
    Stands n (suc n) (nodes_in st') (frames gs') → follows st' ≡ true → ready st' (frames gs') ≡ true → (calm_step c st ≡ true → ⊥) →
    Stepped n c st gs st' gs'
told_stepped n c st st' gs gs' g s f r e = record {
  held = record { fitting = s.fitting; ordered = s.ordered; below = s.below; following = f; readied = r };
  gains = g;
  calm = λ i x j.
      absurd (e i);
}

-- what the changes of a checked row leave
pub record Used (n : ℕ) (cs : List Change) (bs os : List Bool) (gs hs : List Group) : Type 0 where
  pub made : Made n bs os gs hs
  pub readied : (d : Symbol) → made_for cs d ≡ true → ready_frames d (frames hs) ≡ true
  pub operand : ends_in is_put cs ≡ true → operand_on_top (frames hs) ≡ true

pub row_used : (f : ℕ) (t : Token) (os bs : List Bool) (cs : List Change) (ss : List Symbol) (gs : List Group) →
    uses_ok os (Uses cs ss) ≡ true → Stands t.place.line (suc t.place.line) (os ++ bs) (frames gs) →
    Used t.place.line cs (os ++ bs) (nodes_in ss ++ bs) gs (all_changed f t cs gs)
row_used f t os bs cs ss gs e s =
    let n = t.place.line in
    let p = split (tame cs (nodes_in ss) && same_bools (all_undone cs (nodes_in ss)) os) (follows ss && prepared cs ss) e in
    let q = split (tame cs (nodes_in ss)) (same_bools (all_undone cs (nodes_in ss)) os) p.0 in
    let a = tame_append cs (nodes_in ss) bs q.0 in
    let u : all_undone cs (nodes_in ss ++ bs) ≡ os ++ bs = a.1 ∙ ap (λ l. l ++ bs) (same_equal (all_undone cs (nodes_in ss)) os q.1) in
    let z : Stands n (suc n) (all_undone cs (nodes_in ss ++ bs)) (frames gs) = subst (λ l. Stands n (suc n) l (frames gs)) (sym u) s in
    record {
      made = subst (λ l. Made n l (nodes_in ss ++ bs) gs (all_changed f t cs gs)) u (tame_grows f t cs (nodes_in ss ++ bs) gs a.0 z);
      readied = λ d i. ap (ready_frames d) (frames_all_changed f t cs gs) ∙ made_ready n (nodes_in ss ++ bs) cs (frames gs) d a.0 i z;
      operand = λ i. ap operand_on_top (frames_all_changed f t cs gs) ∙ operand_made n (nodes_in ss ++ bs) cs (frames gs) a.0 i z;
    }

-- ---- a rule that is over

-- the same token is looked at again, and nothing is gained
pub record Skipped (n : ℕ) (st : List Symbol) (gs : List Group) (st' : List Symbol) (gs' : List Group) : Type 0 where
  pub held : Held n st' (frames gs')
  pub gains : Gains (stack_faults (nodes_in st) gs) (stack_faults (nodes_in st') gs') []

pub close_skipped : (n : ℕ) (k : Kind) (st : List Symbol) (gs : List Group) → Held n (sy.Close k ∷ st) (frames gs) →
    Skipped n (sy.Close k ∷ st) gs st (close k gs)
unfolding nodes_in
close_skipped n k st gs h =
    let s = held_stands n (sy.Close k ∷ st) gs h in
    let z = close_stands n n k (nodes_in st) (frames gs) s in
    let e = frames_close k gs in
    record {
      held = record {
        fitting = rw e z.fitting;
        ordered = rw e z.ordered;
        below = rw e z.below;
        following = follows_tail (sy.Close k) st
            h.following;
        readied = rw e (ready_next (sy.Close k) st (seen.close k (frames gs)) refl h.following
            (λ i. close_on_top k (frames gs) i h.ordered));
      };
      gains = closes k n n (nodes_in st) gs s;
    }

over_append : (cs : List Change) (bs : List Bool) → list_all is_over cs ≡ true → all_undone cs bs ≡ all_undone cs [] ++ bs
over_append [] bs e = refl
over_append (ch.Absent ∷ cs) bs e = over_append cs bs e
over_append (ch.Close k ∷ cs) bs e = ap (λ l. is_node k ∷ l) (over_append cs bs e)
over_append (c ∷ cs) bs e = cc

over_tame : (cs : List Change) (bs : List Bool) → list_all is_over cs ≡ true → tame cs bs ≡ true
over_tame [] bs e = refl
over_tame (ch.Absent ∷ cs) bs e = over_tame cs bs e
over_tame (ch.Close k ∷ cs) bs e = over_tame cs bs e
over_tame (c ∷ cs) bs e = cc

-- what is absent is put, and trees are closed
record Left (n : ℕ) (bs os : List Bool) (gs hs : List Group) : Type 0 where
  gains : Gains (stack_faults bs gs) (stack_faults os hs) []
  stands : Stands n n os (frames hs)

over_left : (f : ℕ) (t : Token) (cs : List Change) (bs : List Bool) (gs : List Group) → list_all is_over cs ≡ true →
    Stands t.place.line t.place.line (all_undone cs bs) (frames gs) → Left t.place.line (all_undone cs bs) bs gs (all_changed f t cs gs)
over_left f t [] bs gs e s = record { gains = gains_refl (stack_faults bs gs); stands = s }
over_left f t (ch.Absent ∷ cs) bs gs e s =
    let n = t.place.line in
    let us = all_undone cs bs in
    let hs = changed f t ch.Absent gs in
    let r = over_left f t cs bs hs e (moved f t ch.Absent n us gs (absent_stands n n us (frames gs) s)) in
    record {
      gains = gains_then (stack_faults us gs) (stack_faults us hs) (stack_faults bs (all_changed f t cs hs)) []
          (absent_gains us f gs s.fitting) r.gains;
      stands = r.stands;
    }
over_left f t (ch.Close k ∷ cs) bs gs e s =
    let n = t.place.line in
    let us = all_undone cs bs in
    let hs = close k gs in
    let r = over_left f t cs bs hs e (moved f t (ch.Close k) n us gs (close_stands n n k us (frames gs) s)) in
    record {
      gains = gains_then (stack_faults (is_node k ∷ us) gs) (stack_faults us hs) (stack_faults bs (all_changed f t cs hs)) []
          (closes k n n us gs s) r.gains;
      stands = r.stands;
    }
over_left f t (c ∷ cs) bs gs e s = cc

-- a rule that is over after such changes
pub over_skipped : (f : ℕ) (t : Token) (s : Symbol) (cs : List Change) (st : List Symbol) (gs : List Group) → hands_on s ≡ false →
    list_all is_over cs ≡ true → all_undone cs (nodes_in st) ≡ nodes_in (s ∷ st) → (ends_operand s ≡ true → ends_in is_put cs ≡ true) →
    Held t.place.line (s ∷ st) (frames gs) → Skipped t.place.line (s ∷ st) gs st (all_changed f t cs gs)
over_skipped f t s cs st gs p o u ends h =
    let n = t.place.line in
    let bs = nodes_in st in
    let z : Stands n n (all_undone cs bs) (frames gs) = subst (λ l. Stands n n l (frames gs)) (sym u) (held_stands n (s ∷ st) gs h) in
    let l : Left n (nodes_in (s ∷ st)) bs gs (all_changed f t cs gs) =
    subst (λ l. Left n l bs gs (all_changed f t cs gs)) u (over_left f t cs bs gs o z) in
    let operand : ends_operand s ≡ true → operand_on_top (frames (all_changed f t cs gs)) ≡ true =
    λ j. ap operand_on_top (frames_all_changed f t cs gs) ∙ operand_made n bs cs (frames gs) (over_tame cs bs o) (ends j)
    (stands_next n (all_undone cs bs) (frames gs) z) in
    record {
      held = record {
        fitting = l.stands.fitting;
        ordered = l.stands.ordered;
        below = l.stands.below;
        following = follows_tail s st
            h.following;
        readied = ready_next s st (frames (all_changed f t cs gs)) p h.following operand;
      };
      gains = l.gains;
    }

pub rule_skipped : (f : ℕ) (t : Token) (c : Class) (r : Rule) (cs : List Change) (st : List Symbol) (gs : List Group) →
    is_plain (sy.Part r) ≡ true → row r c ≡ Skips cs → Held t.place.line (sy.Part r ∷ st) (frames gs) →
    Skipped t.place.line (sy.Part r ∷ st) gs st (all_changed f t cs gs)
unfolding nodes_in
rule_skipped f t c r cs st gs p i h =
    let o = split (list_all is_over cs) (same_bools (all_undone cs []) (nodes_of_rule r))
    (subst (λ y. row_ok (nodes_of_rule r) y ≡ true) i (rule_ok r c p)) in
    over_skipped f t (sy.Part r) cs st gs (plain_hands (sy.Part r) p) o.0
    (over_append cs (nodes_in st) o.0 ∙ ap (λ l. l ++ nodes_in st) (same_equal (all_undone cs []) (nodes_of_rule r) o.1))
    (λ j. subst (λ y. ends_row y ≡ true) i (rule_ends r c p j)) h

-- ---- a rule that uses the token

-- a checked row, behind changes that gain nothing
pub used_stepped : (f : ℕ) (t : Token) (c : Class) (s : Symbol) (os : List Bool) (cs : List Change) (ss st : List Symbol)
    (gs hs : List Group) → hands_on s ≡ false → follows (s ∷ st) ≡ true → uses_ok os (Uses cs ss) ≡ true →
    (ends_operand s ≡ true → ends_stack cs ss ≡ true) →
    Gains (stack_faults (nodes_in (s ∷ st)) gs) (stack_faults (os ++ nodes_in st) hs) [] →
    Stands t.place.line (suc t.place.line) (os ++ nodes_in st) (frames hs) →
    Stepped t.place.line c (s ∷ st) gs (ss ++ st) (all_changed f t cs hs)
used_stepped f t c s os cs ss st gs hs p e o ends g z =
    let n = t.place.line in
    let made = all_changed f t cs hs in
    let q = split (follows ss) (prepared cs ss)
    (split (tame cs (nodes_in ss) && same_bools (all_undone cs (nodes_in ss)) os) (follows ss && prepared cs ss) o).1 in
    let u = row_used f t os (nodes_in st) cs ss hs o z in
    let m : Made n (os ++ nodes_in st) (nodes_in (ss ++ st)) hs made =
    subst (λ l. Made n (os ++ nodes_in st) l hs made) (sym (nodes_append ss st)) u.made in
    let grows = grows_behind n (stack_faults (nodes_in (s ∷ st)) gs) (stack_faults (os ++ nodes_in st) hs)
    (stack_faults (nodes_in (ss ++ st)) made) (found (nodes_in (ss ++ st)) (frames made)) g m.grows in
    grown_stepped n c (s ∷ st) (ss ++ st) gs made grows m.stands (follows_next s cs ss st p e q.0 ends)
    (readied ss q.1 ends u.readied u.operand)
  where
    readied : (ss : List Symbol) → prepared cs ss ≡ true → (ends_operand s ≡ true → ends_stack cs ss ≡ true) →
        ((d : Symbol) → made_for cs d ≡ true → ready_frames d (frames (all_changed f t cs hs)) ≡ true) →
        (ends_in is_put cs ≡ true → operand_on_top (frames (all_changed f t cs hs)) ≡ true) →
        ready (ss ++ st) (frames (all_changed f t cs hs)) ≡ true
    readied [] i ends made operand = ready_next s st (frames (all_changed f t cs hs)) p e (λ j. operand (ends j))
    readied (d ∷ ss) i ends made operand = prepared_ready cs d ss st (frames (all_changed f t cs hs)) i made

pub rule_stepped : (f : ℕ) (t : Token) (c : Class) (r : Rule) (cs : List Change) (ss st : List Symbol) (gs : List Group) →
    is_plain (sy.Part r) ≡ true → row r c ≡ Uses cs ss → Held t.place.line (sy.Part r ∷ st) (frames gs) →
    Stepped t.place.line c (sy.Part r ∷ st) gs (ss ++ st) (all_changed f t cs gs)
unfolding nodes_in
rule_stepped f t c r cs ss st gs p i h =
    let n = t.place.line in
    let bs = nodes_in (sy.Part r ∷ st) in
    let o : uses_ok (nodes_of_rule r) (Uses cs ss) ≡ true = subst (λ y. row_ok (nodes_of_rule r) y ≡ true) i (rule_ok r c p) in
    used_stepped f t c (sy.Part r) (nodes_of_rule r) cs ss st gs gs (plain_hands (sy.Part r) p) h.following o
    (λ j. subst (λ y. ends_row y ≡ true) i (rule_ends r c p j)) (gains_refl (stack_faults bs gs))
    (stands_next n bs (frames gs) (held_stands n (sy.Part r ∷ st) gs h))
