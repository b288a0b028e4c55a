-- Runs of the gauge with heights up to 256.
use Rattle.std.proofs.Common.{◌≡◌, ℕ, List, [], ◌∷◌, min, Bool, true, false, Option, refl, sym, ap, ◌∙◌, arith}
use Rattle.std.specs.Prelude.{nat_le, if◌then◌else◌, ◌&&◌, Some, None}
use Rattle.hare_automaton.specs.declared.rule.Symbol.{Symbol}
use Rattle.hare_nesting.specs.Marks.{Mark, Frame, lies_before}
use Rattle.hare_nesting.specs.Gauge.{opened, deep_frame, deep_last, high_operand, found, Step, Goes, Ends, Stuck, step, Seen, Gauged}
use Rattle.hare_nesting.specs.Gauge.{with_faults, after, gauge, nodes_in}
use Rattle.hare_ll_table.specs.declared.answer.Answer.TheVariants as an
use Rattle.hare_recogniser.specs.Capped.{cap_marks, cap_frame, capped, capped_step}
use Rattle.hare_recogniser.specs.Gauged.{Answers}
use Rattle.hare_recogniser.specs.Least.{lesser, least}
use Rattle.hare_recogniser.proofs.Marks.Capping.{first_capped}
use Rattle.hare_recogniser.proofs.Steps.SteppedMarks.{step_alike}
use Rattle.hare_recogniser.proofs.Told.Least.{lesser_assoc, least_append}

-- ---- what is told does not depend on heights above 256

high_capped : (h : ℕ) → nat_le 256 (min h 256) ≡ nat_le 256 h
high_capped h = grind arith

deep_frame_capped : (bs : List Bool) (f : Frame) → deep_frame bs (cap_frame f) ≡ deep_frame bs f
deep_frame_capped [] f = refl
deep_frame_capped (false ∷ bs) f = refl
deep_frame_capped (true ∷ bs) f = ap (λ n. if nat_le 256 (opened bs) then n ∷ [] else []) (first_capped f.at f.kids)

deep_last_capped : (n : ℕ) (ms : List Mark) → deep_last n (cap_marks ms) ≡ deep_last n ms
unfolding deep_last
deep_last_capped n [] = refl
deep_last_capped n (m ∷ []) = refl
deep_last_capped n (m ∷ (p ∷ ms)) = deep_last_capped n (p ∷ ms)

high_operand_capped : (n : ℕ) (ms : List Mark) → high_operand n (cap_marks ms) ≡ high_operand n ms
high_operand_capped n [] = refl
high_operand_capped n (m ∷ []) = ap (λ b. if lies_before m n && b then n ∷ [] else []) (high_capped m.height)
high_operand_capped n (m ∷ (p ∷ ms)) = refl

found_capped : (bs : List Bool) (fs : List Frame) → found bs (capped fs) ≡ found bs fs
found_capped bs [] = refl
found_capped bs (f ∷ fs) =
    let a = deep_frame_capped bs f in
    let b = deep_last_capped (opened bs) f.kids in
    let d = high_operand_capped f.at f.kids in
    cc

found_alike : (bs : List Bool) (fs gs : List Frame) → capped fs ≡ capped gs → found bs fs ≡ found bs gs
found_alike bs fs gs e = sym (found_capped bs fs) ∙ ap (found bs) e ∙ found_capped bs gs

-- ---- nor does what comes of the tokens

after_alike : (x y : Step) (t : Seen) (w : List Seen) (go : List Symbol → List Frame → Gauged) →
    ((st : List Symbol) (fs gs : List Frame) → capped fs ≡ capped gs → go st fs ≡ go st gs) →
    capped_step x ≡ capped_step y → after x t w go ≡ after y t w go
after_alike (Goes st fs) (Goes st' gs) t w go h e =
    let a : st ≡ st' = cc in
    let b : capped fs ≡ capped gs = cc in
    let d = found_alike (nodes_in st) fs gs b in
    let g = h st fs gs b in
    rw (← a) (ap (λ ns. with_faults ns (go st fs)) d ∙ ap (with_faults (found (nodes_in st) gs)) g)
after_alike (Goes st fs) (Ends gs) t w go h e = cc
after_alike (Goes st fs) Stuck t w go h e = cc
after_alike (Ends fs) (Goes st gs) t w go h e = cc
after_alike (Ends fs) (Ends gs) t w go h e = refl
after_alike (Ends fs) Stuck t w go h e = cc
after_alike Stuck (Goes st gs) t w go h e = cc
after_alike Stuck (Ends gs) t w go h e = cc
after_alike Stuck Stuck t w go h e = refl

gauge_alike : (w : List Seen) (st : List Symbol) (fs gs : List Frame) → capped fs ≡ capped gs → gauge w st fs ≡ gauge w st gs
unfolding gauge
gauge_alike [] st fs gs e = refl
gauge_alike (t ∷ w) st fs gs e =
    after_alike (step t.number t.class st fs) (step t.number t.class st gs) t w (λ st' hs. gauge w st' hs)
    (λ st' xs ys h. gauge_alike w st' xs ys h) (step_alike t.number t.class st fs gs e)

-- ---- a run so far as it is made

-- what the whole comes to, where these tokens were told and this is left
pub record Continues (whole : Gauged) (told : Option ℕ) (left : Gauged) : Type 0 where
  pub faults : least whole.faults ≡ lesser told (least left.faults)
  pub rest : whole.rest ≡ left.rest
  pub over : whole.over ≡ left.over

after_goes : (x : Step) (t : Seen) (w : List Seen) (st : List Symbol) (fs : List Frame) → Answers (capped_step x) an.Goes st (capped fs) →
    after x t w (λ st' hs. gauge w st' hs) ≡ with_faults (found (nodes_in st) fs) (gauge w st fs)
after_goes (Goes st' gs) t w st fs a =
    after_alike (Goes st' gs) (Goes st fs) t w (λ st' hs. gauge w st' hs) (λ st' xs ys h. gauge_alike w st' xs ys h)
    (same_step st' st (capped gs) (capped fs) (sym a.1) (sym a.2))
  where
    same_step : (ss rs : List Symbol) (hs ks : List Frame) → ss ≡ rs → hs ≡ ks → Goes ss hs ≡ Goes rs ks
    same_step ss rs hs ks e h = cc
after_goes (Ends gs) t w st fs a = cc
after_goes Stuck t w st fs a = cc

pub goes_on : (whole : Gauged) (told : Option ℕ) (t : Seen) (w : List Seen) (st st' : List Symbol) (fs fs' : List Frame) →
    Continues whole told (gauge (t ∷ w) st fs) →
    Answers (capped_step (step t.number t.class st fs)) an.Goes st' (capped fs') →
    Continues whole (lesser told (least (found (nodes_in st') fs'))) (gauge w st' fs')
unfolding gauge
goes_on whole told t w st st' fs fs' r a =
    let e = after_goes (step t.number t.class st fs) t w st' fs' a in
    let n = found (nodes_in st') fs' in
    record {
      faults = r.faults ∙ ap (λ g. lesser told (least g.faults)) e ∙ ap (lesser told) (least_append n (gauge w st' fs').faults) ∙ sym
          (lesser_assoc told (least n) (least (gauge w st' fs').faults));
      rest = r.rest ∙ ap (λ g. g.rest) e;
      over = r.over ∙ ap (λ g. g.over) e;
    }

-- ---- where a run stands still

-- what the whole comes to, where this was told and these tokens are left
pub record Halts (whole : Gauged) (least_told : Option ℕ) (left : List Seen) (all : Bool) : Type 0 where
  pub least_is : least_told ≡ least whole.faults
  pub rest : whole.rest ≡ left
  pub over : whole.over ≡ all

lesser_none : (a : Option ℕ) → a ≡ lesser a None
lesser_none None = refl
lesser_none (Some m) = refl

halts : (whole : Gauged) (told : Option ℕ) (rest : List Seen) (over : Bool) (left : Gauged) → Continues whole told left →
    left ≡ record { faults = []; rest = rest; over = over } →
    Halts whole told rest over
halts whole told rest over left r e =
    record {
      least_is = lesser_none told ∙ sym (r.faults ∙ ap (λ g. lesser told (least g.faults)) e);
      rest = r.rest ∙ ap (λ g. g.rest) e;
      over = r.over ∙ ap (λ g. g.over) e;
    }

after_ends : (x : Step) (t : Seen) (w : List Seen) (go : List Symbol → List Frame → Gauged) (st : List Symbol) (fs : List Frame) →
    Answers (capped_step x) an.Ends st fs →
    after x t w go ≡ record { faults = []; rest = t ∷ w; over = true }
after_ends (Goes st' gs) t w go st fs a = cc
after_ends (Ends gs) t w go st fs a = refl
after_ends Stuck t w go st fs a = cc

after_stuck : (x : Step) (t : Seen) (w : List Seen) (go : List Symbol → List Frame → Gauged) (st : List Symbol) (fs : List Frame) →
    Answers (capped_step x) an.Stuck st fs →
    after x t w go ≡ record { faults = []; rest = t ∷ w; over = false }
after_stuck (Goes st' gs) t w go st fs a = cc
after_stuck (Ends gs) t w go st fs a = cc
after_stuck Stuck t w go st fs a = refl

pub over_at : (whole : Gauged) (told : Option ℕ) (t : Seen) (w : List Seen) (st st' : List Symbol) (fs fs' : List Frame) →
    Continues whole told (gauge (t ∷ w) st fs) →
    Answers (capped_step (step t.number t.class st fs)) an.Ends st' fs' → Halts whole told (t ∷ w) true
unfolding gauge
over_at whole told t w st st' fs fs' r a = halts whole told (t ∷ w) true _ r
    (after_ends (step t.number t.class st fs) t w (λ ss hs. gauge w ss hs) st' fs' a)

pub stuck_at : (whole : Gauged) (told : Option ℕ) (t : Seen) (w : List Seen) (st st' : List Symbol) (fs fs' : List Frame) →
    Continues whole told (gauge (t ∷ w) st fs) →
    Answers (capped_step (step t.number t.class st fs)) an.Stuck st' fs' → Halts whole told (t ∷ w) false
unfolding gauge
stuck_at whole told t w st st' fs fs' r a = halts whole told (t ∷ w) false _ r
    (after_stuck (step t.number t.class st fs) t w (λ ss hs. gauge w ss hs) st' fs' a)

pub used_up : (whole : Gauged) (told : Option ℕ) (st : List Symbol) (fs : List Frame) → Continues whole told (gauge [] st fs) →
    Halts whole told [] false
unfolding gauge
used_up whole told st fs r = halts whole told [] false _ r refl
