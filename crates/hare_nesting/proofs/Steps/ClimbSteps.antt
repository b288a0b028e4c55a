-- Steps at operators: what is passed there is what the gauge finds.
use Rattle.std.proofs.Common.{◌≡◌, ℕ, suc, List, [], ◌∷◌, ◌++◌, Bool, true, false, ◌&&◌, refl, ap, ◌∙◌, subst, arith, if◌then◌else◌}
use Rattle.std.specs.Prelude.{nat_le}
use Rattle.std.specs.List.{list_all}
use Rattle.hare_tree.specs.declared.kind.Kind.TheVariants as ki
use Rattle.hare_tree.specs.declared.form.Sign.TheVariants as si
use Rattle.hare_tree.specs.declared.token.Token.{Token}
use Rattle.hare_tree.specs.Depth.{is_node}
use Rattle.hare_tree.specs.Forms.{expr}
use Rattle.hare_automaton.specs.declared.class.Class.{Class}
use Rattle.hare_automaton.specs.declared.class.Class.TheVariants as cl
use Rattle.hare_automaton.specs.declared.rule.Rule.TheVariants as ru
use Rattle.hare_automaton.specs.declared.rule.Symbol.{Symbol}
use Rattle.hare_automaton.specs.declared.rule.Symbol.TheVariants as sy
use Rattle.hare_automaton.specs.declared.rule.Change.{Change}
use Rattle.hare_automaton.specs.declared.rule.Change.TheVariants as ch
use Rattle.hare_automaton.specs.Rows.{Row, Fault, Skips, Uses, of, part, before}
use Rattle.hare_automaton.specs.ExpressionRows.{climbs, assigns, behind_operand, binary_kind, binary_at, climb_row}
use Rattle.hare_automaton.specs.Table.{row}
use Rattle.hare_automaton.specs.Engine.{Group, over, all_changed}
use Rattle.hare_automaton.proofs.Spelled.Paths.{split}
use Rattle.hare_automaton.proofs.Machine.Edges.{le_true}
use Rattle.hare_prefixes.proofs.Outcomes.Breaks.{both}
use Rattle.hare_nesting.specs.Marks.{Frame}
use Rattle.hare_nesting.specs.Marks as seen
use Rattle.hare_nesting.specs.Gauge.{nodes_in, found}
use Rattle.hare_nesting.proofs.UnderWay.Stacks.{frame_of, frames, stack_faults, Gains, ends_in_operand, ready, follows, Held}
use Rattle.hare_nesting.proofs.Telling.Claims.{calm_step, Stepped}
use Rattle.hare_nesting.proofs.CheckedRows.Slots.{is_still, prepared, same_bools, ends_stack}
use Rattle.hare_nesting.proofs.UnderWay.Lists.{gains_refl}
use Rattle.hare_nesting.proofs.UnderWay.Seen.{frames_over}
use Rattle.hare_nesting.proofs.UnderWay.Below.{below_later, over_below}
use Rattle.hare_nesting.proofs.UnderWay.Over.{over_gains}
use Rattle.hare_nesting.proofs.UnderWay.Orders.{over_ordered}
use Rattle.hare_nesting.proofs.CheckedRows.SlotForms.{same_equal, nodes_append}
use Rattle.hare_nesting.proofs.Steps.Stands.{at_most, Stands}
use Rattle.hare_nesting.proofs.Steps.Tame.{still_same}
use Rattle.hare_nesting.proofs.Steps.Ready.{operand_on_top, needless_ready}
use Rattle.hare_nesting.proofs.Steps.Follow.{ready_next, follows_tail, follows_next}
use Rattle.hare_nesting.proofs.Steps.Stepped.{held_stands, told_stepped, Skipped}

-- ---- the rows

abbrev climb_ok : Row → Bool
climb_ok Fault = true
climb_ok (Skips []) = true
climb_ok (Skips (c ∷ cs)) = false
climb_ok (Uses (ch.Over ∷ cs) ss) = (list_all is_still cs && same_bools (nodes_in ss) (true ∷ [])) &&
    (follows ss && (prepared [] ss && ends_stack [] ss))
climb_ok (Uses _ ss) = false

climbs_ok : (l h m : ℕ) (r : Row) → climb_ok (before r (part (ru.Climb l m) ∷ [])) ≡ true → climb_ok (climbs l h m r) ≡ true
climbs_ok l h m r e = by (nat_le l m && nat_le m h)
  where
    by : (z : Bool) → climb_ok (if z then before r (part (ru.Climb l m) ∷ []) else Skips []) ≡ true
    by true = e
    by false = refl

assigns_ok : (l h : ℕ) (r : Row) → climb_ok (before r (part (ru.Climb l 1) ∷ [])) ≡ true → climb_ok (assigns l h r) ≡ true
assigns_ok l h r e = by (nat_le l 1 && nat_le 14 h)
  where
    by : (z : Bool) → climb_ok (if z then before r (part (ru.Climb l 1) ∷ []) else Skips []) ≡ true
    by true = e
    by false = refl

binary_node : (m : ℕ) → is_node (binary_kind m) ≡ true
binary_node m = by (nat_le m 4) (nat_le m 5) (nat_le m 6) (nat_le 10 m && nat_le m 10)
  where
    by : (a b c d : Bool) → is_node (if a then ki.Logic else if b then ki.Equal else if c then ki.Less else if d then ki.Shift else
        ki.Arith) ≡ true
    by true b c d = refl
    by false true c d = refl
    by false false true d = refl
    by false false false true = refl
    by false false false false = refl

binary_ok : (l h m : ℕ) → climb_ok (climbs l h m (binary_at m)) ≡ true
unfolding nodes_in follows
binary_ok l h m = climbs_ok l h m (binary_at m) (rw (binary_node m) refl)

row_climbs : (l h : ℕ) (c : Class) → climb_ok (climb_row l h c) ≡ true
unfolding nodes_in follows
row_climbs l h (cl.Binary m) = binary_ok l h m
row_climbs l h cl.OpAssign = assigns_ok l h (Uses (ch.Over ∷ ch.Take ∷ []) (of expr ∷ sy.Close ki.OpAssign ∷ [])) refl
row_climbs l h (cl.Sign si.Equals) = assigns_ok l h (behind_operand ki.Assign) refl
row_climbs l h (cl.Sign si.Star) = binary_ok l h 12
row_climbs l h (cl.Sign si.Minus) = binary_ok l h 11
row_climbs l h (cl.Sign si.Ampersand) = binary_ok l h 9
row_climbs l h (cl.Sign si.Bar) = binary_ok l h 7
row_climbs l h (cl.Sign si.Colon) = climbs_ok l h 13 (behind_operand ki.Cast) refl
row_climbs l h (cl.Sign si.As) = climbs_ok l h 13 (behind_operand ki.As) refl
row_climbs l h (cl.Sign si.Is) = climbs_ok l h 13 (behind_operand ki.Is) refl
row_climbs l h (cl.Sign si.LeftParen) = climbs_ok l h 15 (behind_operand ki.Call) refl
row_climbs l h (cl.Sign si.LeftBracket) = climbs_ok l h 15 (Uses (ch.Over ∷ []) (part ru.InIndex ∷ [])) refl
row_climbs l h (cl.Sign si.Dot) = climbs_ok l h 15 (behind_operand ki.Field) refl
row_climbs l h (cl.Sign si.Question) = climbs_ok l h 15 (behind_operand ki.Try) refl
row_climbs l h (cl.Sign si.Bang) = climbs_ok l h 15 (behind_operand ki.Force) refl
row_climbs l h (cl.Sign _) = refl
row_climbs l h _ = refl

-- ---- trees under way with an operator over the last kid

over_stands : (n : ℕ) (bs : List Bool) (f : Frame) (fs : List Frame) → ends_in_operand f.at f.kids ≡ true → Stands n n bs (f ∷ fs) →
    Stands n (suc n) (true ∷ bs) (seen.over n (f ∷ fs))
over_stands n bs f fs e s =
    record {
      fitting = ap suc s.fitting;
      ordered = over_ordered n f fs e s.below s.ordered;
      below = over_below n (suc n) (f ∷ fs) (omega arith) (below_later n (suc n) (f ∷ fs) (omega arith) s.below);
      placed = both (nat_le n n) (at_most n (f ∷ fs)) (le_true n n (omega arith)) s.placed;
    }

-- ---- the step

-- a rule for operators is over without a change
pub climb_skipped : (f : ℕ) (t : Token) (c : Class) (l h : ℕ) (cs : List Change) (st : List Symbol) (gs : List Group) →
    row (ru.Climb l h) c ≡ Skips cs → Held t.place.line (part (ru.Climb l h) ∷ st) (frames gs) →
    Skipped t.place.line (part (ru.Climb l h) ∷ st) gs st (all_changed f t cs gs)
unfolding nodes_in
climb_skipped f t c l h cs st gs i e = by cs (subst (λ y. climb_ok y ≡ true) i (row_climbs l h c))
  where
    on_top : (gs : List Group) → Held t.place.line (part (ru.Climb l h) ∷ st) (frames gs) → operand_on_top (frames gs) ≡ true
    on_top [] e = refl
    on_top (g ∷ gs) e = e.readied

    by : (cs : List Change) → climb_ok (Skips cs) ≡ true → Skipped t.place.line (part (ru.Climb l h) ∷ st) gs st (all_changed f t cs gs)
    by (c ∷ cs) o = cc
    by [] o = record {
      held = record {
        fitting = e.fitting;
        ordered = e.ordered;
        below = e.below;
        following = follows_tail (part (ru.Climb l h)) st
            e.following;
        readied = ready_next (part (ru.Climb l h)) st (frames gs) refl e.following (λ j. on_top gs e);
      };
      gains = gains_refl (stack_faults (nodes_in st) gs);
    }

not_calm : (l h : ℕ) (c : Class) (cs : List Change) (ss st : List Symbol) → row (ru.Climb l h) c ≡ Uses cs ss →
    calm_step c (part (ru.Climb l h) ∷ st) ≡ true → ⊥
unfolding calm_step
not_calm l h c cs ss st i e = let a = rw i at e in cc

operator_stepped : (f : ℕ) (t : Token) (c : Class) (l h : ℕ) (cs : List Change) (ss st : List Symbol) (gs : List Group) →
    climb_ok (Uses (ch.Over ∷ cs) ss) ≡ true → (calm_step c (part (ru.Climb l h) ∷ st) ≡ true → ⊥) →
    Held t.place.line (part (ru.Climb l h) ∷ st) (frames gs) →
    Stepped t.place.line c (part (ru.Climb l h) ∷ st) gs (ss ++ st) (all_changed f t (ch.Over ∷ cs) gs)
unfolding nodes_in
operator_stepped f t c l h cs ss st [] o b e = absurd (omega (arith, e.fitting))
operator_stepped f t c l h cs ss st (g ∷ hs) o b e =
    let n = t.place.line in
    let bs = nodes_in st in
    let s = part (ru.Climb l h) in
    let p = split (list_all is_still cs && same_bools (nodes_in ss) (true ∷ [])) (follows ss && (prepared [] ss && ends_stack [] ss)) o in
    let q = split (list_all is_still cs) (same_bools (nodes_in ss) (true ∷ [])) p.0 in
    let r = split (follows ss) (prepared [] ss && ends_stack [] ss) p.1 in
    let u = split (prepared [] ss) (ends_stack [] ss) r.1 in
    let made = over t.place (g ∷ hs) in
    let y = still_same f t cs (true ∷ bs) made q.0 in
    let all = all_changed f t cs made in
    let nodes : nodes_in (ss ++ st) ≡ true ∷ bs = nodes_append ss st ∙ ap (λ l. l ++ bs) (same_equal (nodes_in ss) (true ∷ []) q.1) in
    let z : Stands n (suc n) (true ∷ bs) (frames all) =
    rw (y.1, frames_over t.place (g ∷ hs)) (over_stands n bs (frame_of g) (frames hs) e.readied (held_stands n (s ∷ st) (g ∷ hs) e)) in
    let told : Gains (stack_faults bs (g ∷ hs)) (stack_faults (true ∷ bs) all) (found (true ∷ bs) (frames all)) =
    rw (y.0, y.1) (over_gains bs t.place g hs e.fitting e.readied e.below) in
    told_stepped n c (s ∷ st) (ss ++ st) (g ∷ hs) all (rw nodes told) (rw nodes z) (follows_next s [] ss st refl e.following r.0 (λ j. u.1))
    (readied ss q.1 u.0 (frames all)) b
  where
    readied : (ss : List Symbol) → same_bools (nodes_in ss) (true ∷ []) ≡ true → prepared [] ss ≡ true → (fs : List Frame) →
        ready (ss ++ st) fs ≡ true
    readied [] a i fs = cc
    readied (d ∷ ss) a i fs = needless_ready d ss st fs i

pub climb_stepped : (f : ℕ) (t : Token) (c : Class) (l h : ℕ) (cs : List Change) (ss st : List Symbol) (gs : List Group) →
    row (ru.Climb l h) c ≡ Uses cs ss → Held t.place.line (part (ru.Climb l h) ∷ st) (frames gs) →
    Stepped t.place.line c (part (ru.Climb l h) ∷ st) gs (ss ++ st) (all_changed f t cs gs)
climb_stepped f t c l h cs ss st gs i e = by cs (subst (λ y. climb_ok y ≡ true) i (row_climbs l h c)) (not_calm l h c cs ss st i)
  where
    by : (cs : List Change) → climb_ok (Uses cs ss) ≡ true → (calm_step c (part (ru.Climb l h) ∷ st) ≡ true → ⊥) →
        Stepped t.place.line c (part (ru.Climb l h) ∷ st) gs (ss ++ st) (all_changed f t cs gs)
    by (ch.Over ∷ cs) o b = operator_stepped f t c l h cs ss st gs o b e
    by _ o b = cc
