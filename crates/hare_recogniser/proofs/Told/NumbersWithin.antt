-- The numbers of tokens that a run of the gauge tells are among those that it has seen.
use Rattle.std.proofs.Common.{◌≡◌, ℕ, suc, ◌+◌, ◌<◌, ◌≤◌, List, [], ◌∷◌, ◌++◌, map, length, Bool, true, false, sym, ap, ◌∙◌, arith, drop}
use Rattle.std.proofs.Common.{length-drop, Option}
use Rattle.std.specs.Prelude.{nat_le, if◌then◌else◌, ◌&&◌, Some}
use Rattle.std.specs.List.{AllByRecursion}
use Rattle.hare_tree.specs.declared.kind.Kind.{Kind}
use Rattle.hare_tree.specs.declared.token.Token.{Token}
use Rattle.hare_automaton.specs.declared.class.Class.{Class}
use Rattle.hare_automaton.specs.declared.rule.Symbol.{Symbol}
use Rattle.hare_automaton.specs.declared.rule.Symbol.TheVariants as sy
use Rattle.hare_automaton.specs.declared.rule.Change.{Change}
use Rattle.hare_automaton.specs.declared.rule.Change.TheVariants as ch
use Rattle.hare_automaton.specs.Rows.{Row, Fault, Skips, Uses, has_sign}
use Rattle.hare_automaton.specs.Table.{row}
use Rattle.hare_tree.specs.Grammar.{is_proper_string, joined_to, joined}
use Rattle.hare_prefixes.proofs.Joining.Used.{merged}
use Rattle.hare_nesting.specs.Marks.{Mark, Frame, lies_before, first_in, mark_as, last_mark, but_last_mark, put, close, over, lift, changed}
use Rattle.hare_nesting.specs.Marks.{all_changed}
use Rattle.hare_nesting.specs.Gauge.{opened, nodes_in, deep_frame, deep_last, high_operand, found, Step, Goes, Ends, Stuck, wanted, acted}
use Rattle.hare_nesting.specs.Gauge.{step, Seen, Gauged, after, gauge, start, numbered, seen_in, seen}
use Rattle.hare_recogniser.specs.Gauged.{gauged_from, seen_from}
use Rattle.hare_recogniser.specs.Least.{least}
use Rattle.hare_recogniser.proofs.Told.Least.{least_within}

each_append : {A : Type 0} (P : A → Type 0) (xs ys : List A) → AllByRecursion P xs → AllByRecursion P ys → AllByRecursion P (xs ++ ys)
each_append P [] ys h k = k
each_append P (x ∷ xs) ys h k = (h.0, each_append P xs ys h.1 k)

-- the numbers in trees under way are all such
module _ (P : ℕ → Type 0) where
  abbrev MarkIn : Mark → Type 0
  MarkIn m = P m.first

  abbrev FrameIn : Frame → Type 0
  FrameIn f = P f.at × AllByRecursion MarkIn f.kids

  abbrev FramesIn : List Frame → Type 0
  FramesIn fs = AllByRecursion FrameIn fs

  abbrev StepIn : Step → Type 0
  StepIn (Goes st fs) = FramesIn fs
  StepIn (Ends fs) = FramesIn fs
  StepIn Stuck = Unit {0}

  -- ---- changes

  chosen_in : (b : Bool) (m n : ℕ) → P m → P n → P (if b then m else n)
  chosen_in true m n h k = h
  chosen_in false m n h k = k

  first_is_in : (n : ℕ) (ms : List Mark) → P n → AllByRecursion MarkIn ms → P (first_in n ms)
  first_is_in n [] h k = h
  first_is_in n (m ∷ ms) h k = chosen_in (lies_before m n) m.first n k.0 h

  put_in : (m : Mark) (fs : List Frame) → MarkIn m → FramesIn fs → FramesIn (put m fs)
  put_in m [] h k = tt
  put_in m (f ∷ fs) h k = ((k.0.0, each_append MarkIn f.kids (m ∷ []) k.0.1 (h, tt)), k.1)

  close_in : (k : Kind) (fs : List Frame) → FramesIn fs → FramesIn (close k fs)
  close_in k [] h = tt
  close_in k (f ∷ fs) h = put_in (mark_as k f.at f.kids) fs (first_is_in f.at f.kids h.0.0 h.0.1) h.1

  last_in : (ms : List Mark) → AllByRecursion MarkIn ms → AllByRecursion MarkIn (last_mark ms)
  last_in [] h = tt
  last_in (m ∷ []) h = h
  last_in (m ∷ (n ∷ ms)) h = last_in (n ∷ ms) h.1

  but_last_in : (ms : List Mark) → AllByRecursion MarkIn ms → AllByRecursion MarkIn (but_last_mark ms)
  but_last_in [] h = tt
  but_last_in (m ∷ []) h = tt
  but_last_in (m ∷ (n ∷ ms)) h = (h.0, but_last_in (n ∷ ms) h.1)

  over_in : (n : ℕ) (fs : List Frame) → P n → FramesIn fs → FramesIn (over n fs)
  over_in n [] h k = tt
  over_in n (f ∷ fs) h k = ((h, last_in f.kids k.0.1), ((k.0.0, but_last_in f.kids k.0.1), k.1))

  lift_in : (fs : List Frame) → FramesIn fs → FramesIn (lift fs)
  lift_in [] h = tt
  lift_in (f ∷ []) h = tt
  lift_in (f ∷ (g ∷ fs)) h = ((h.1.0.0, each_append MarkIn g.kids f.kids h.1.0.1 h.0.1), h.1.1)

  changed_in : (n : ℕ) (c : Change) (fs : List Frame) → P 1 → P n → FramesIn fs → FramesIn (changed n c fs)
  changed_in n ch.Absent fs o h k = put_in _ fs o k
  changed_in n (ch.Mark l) fs o h k = put_in _ fs h k
  changed_in n (ch.Leaf l) fs o h k = put_in _ fs h k
  changed_in n ch.Open fs o h k = ((h, tt), k)
  changed_in n ch.Over fs o h k = over_in n fs h k
  changed_in n ch.Take fs o h k = k
  changed_in n ch.Join fs o h k = k
  changed_in n (ch.Close l) fs o h k = close_in l fs k
  changed_in n ch.Lift fs o h k = lift_in fs k
  changed_in n ch.Drop [] o h k = tt
  changed_in n ch.Drop (f ∷ fs) o h k = k.1

  all_changed_in : (n : ℕ) (cs : List Change) (fs : List Frame) → P 1 → P n → FramesIn fs → FramesIn (all_changed n cs fs)
  unfolding all_changed
  all_changed_in n [] fs o h k = k
  all_changed_in n (c ∷ cs) fs o h k = all_changed_in n cs (changed n c fs) o h (changed_in n c fs o h k)

  -- ---- steps

  wanted_in : (b : Bool) (st : List Symbol) (fs : List Frame) → FramesIn fs → StepIn (wanted b (Goes st fs))
  wanted_in true st fs h = h
  wanted_in false st fs h = tt

  acted_in : (r : Row) (n : ℕ) (st : List Symbol) (fs : List Frame) (again : List Frame → Step) →
      ((gs : List Frame) → FramesIn gs → StepIn (again gs)) → P 1 → P n → FramesIn fs →
      StepIn (acted r n st fs again)
  acted_in Fault n st fs again h o p k = tt
  acted_in (Skips cs) n st fs again h o p k = h (all_changed n cs fs) (all_changed_in n cs fs o p k)
  acted_in (Uses cs ss) n st fs again h o p k = all_changed_in n cs fs o p k

  step_in : (n : ℕ) (c : Class) (st : List Symbol) (fs : List Frame) → P 1 → P n → FramesIn fs → StepIn (step n c st fs)
  unfolding step
  step_in n c [] fs o p k = k
  step_in n c (sy.Close l ∷ st) fs o p k = step_in n c st (close l fs) o p (close_in l fs k)
  step_in n c (sy.Want s ∷ st) fs o p k = wanted_in (has_sign s c) st fs k
  step_in n c (sy.Part r ∷ st) fs o p k = acted_in (row r c) n st fs (λ gs. step n c st gs) (λ gs h. step_in n c st gs o p h) o p k

  -- ---- what is told

  told_in : (b : Bool) (n : ℕ) → P n → AllByRecursion P (if b then n ∷ [] else [])
  told_in true n h = (h, tt)
  told_in false n h = tt

  deep_frame_in : (bs : List Bool) (f : Frame) → FrameIn f → AllByRecursion P (deep_frame bs f)
  deep_frame_in [] f h = tt
  deep_frame_in (false ∷ bs) f h = tt
  deep_frame_in (true ∷ bs) f h = told_in (nat_le 256 (opened bs)) (first_in f.at f.kids) (first_is_in f.at f.kids h.0 h.1)

  deep_last_in : (n : ℕ) (ms : List Mark) → AllByRecursion MarkIn ms → AllByRecursion P (deep_last n ms)
  unfolding deep_last
  deep_last_in n [] h = tt
  deep_last_in n (m ∷ []) h = told_in (m.node && nat_le 256 n) m.first h.0
  deep_last_in n (m ∷ (p ∷ ms)) h = deep_last_in n (p ∷ ms) h.1

  high_operand_in : (n : ℕ) (ms : List Mark) → P n → AllByRecursion P (high_operand n ms)
  high_operand_in n [] h = tt
  high_operand_in n (m ∷ []) h = told_in (lies_before m n && nat_le 256 m.height) n h
  high_operand_in n (m ∷ (p ∷ ms)) h = tt

  found_in : (bs : List Bool) (fs : List Frame) → FramesIn fs → AllByRecursion P (found bs fs)
  found_in bs [] h = tt
  found_in bs (f ∷ fs) h =
      each_append P (deep_frame bs f) (deep_last (opened bs) f.kids ++ high_operand f.at f.kids) (deep_frame_in bs f h.0)
      (each_append P (deep_last (opened bs) f.kids) (high_operand f.at f.kids) (deep_last_in (opened bs) f.kids h.0.1)
      (high_operand_in f.at f.kids h.0.0))

  after_in : (x : Step) (t : Seen) (w : List Seen) (go : List Symbol → List Frame → Gauged) →
      ((st : List Symbol) (fs : List Frame) → FramesIn fs → AllByRecursion P (go st fs).faults) → StepIn x →
      AllByRecursion P (after x t w go).faults
  after_in (Goes st fs) t w go h k = each_append P (found (nodes_in st) fs) (go st fs).faults (found_in (nodes_in st) fs k) (h st fs k)
  after_in (Ends fs) t w go h k = tt
  after_in Stuck t w go h k = tt

  gauge_in : (w : List Seen) (st : List Symbol) (fs : List Frame) → P 1 → AllByRecursion (λ s. P s.number) w → FramesIn fs →
      AllByRecursion P (gauge w st fs).faults
  unfolding gauge
  gauge_in [] st fs o h k = tt
  gauge_in (t ∷ w) st fs o h k =
      after_in (step t.number t.class st fs) t w (λ ss hs. gauge w ss hs) (λ ss hs m. gauge_in w ss hs o h.1 m)
      (step_in t.number t.class st fs o h.0 k)

  -- ---- the numbers of tokens

  abbrev LineIn : Token → Type 0
  LineIn t = P t.place.line

  joined_to_in : (t : Token) (js : List Token) → LineIn t → AllByRecursion LineIn js → AllByRecursion LineIn (joined_to t js)
  joined_to_in t [] h k = (h, tt)
  joined_to_in t (u ∷ us) h k = by (is_proper_string t) (is_proper_string u) where
    by : (b d : Bool) → AllByRecursion LineIn (if b then (if d then merged t u ∷ us else t ∷ u ∷ us) else t ∷ u ∷ us)
    by true true = (h, k.1)
    by true false = (h, k)
    by false d = (h, k)

  joined_in : (ts : List Token) → AllByRecursion LineIn ts → AllByRecursion LineIn (joined ts)
  joined_in [] h = tt
  joined_in (t ∷ ts) h = joined_to_in t (joined ts) h.0 (joined_in ts h.1)

  seen_in_each : (ts : List Token) → AllByRecursion LineIn ts → AllByRecursion (λ s. P s.number) (map seen_in ts)
  seen_in_each [] h = tt
  seen_in_each (t ∷ ts) h = (h.0, seen_in_each ts h.1)

  numbered_in : (n : ℕ) (ts : List Token) → ((m : ℕ) → n ≤ m → m < n + length ts → P m) → AllByRecursion LineIn (numbered n ts)
  numbered_in n [] h = tt
  numbered_in n (t ∷ ts) h = (h n (omega arith) (omega arith), numbered_in (suc n) ts (λ m a b. h m (omega arith) (omega arith)))

-- the numbers that are told of the tokens of a list
faults_within : (ts : List Token) (st : List Symbol) → AllByRecursion (λ n. (0 < n) × (n ≤ length ts)) (gauge (seen ts) st start).faults
unfolding gauge
faults_within [] st = tt
faults_within (t ∷ ts) st =
    let P : ℕ → Type 0 = λ n. (0 < n) × (n ≤ length (t ∷ ts)) in
    let o : P 1 = (omega arith, omega arith) in
    let l = numbered_in P 1 (t ∷ ts) (λ m a b. (omega arith, omega arith)) in
    gauge_in P (seen (t ∷ ts)) st start o (seen_in_each P (joined (numbered 1 (t ∷ ts))) (joined_in P (numbered 1 (t ∷ ts)) l))
    ((o, tt), tt)

pub told_within : (ts : List Token) (from : ℕ) (st : List Symbol) (n : ℕ) → least (gauged_from ts from st).faults ≡ Some n → (0 < n) ×
    (from + n ≤ length ts)
told_within ts from st n e =
    let w = least_within (gauged_from ts from st).faults (length (drop from ts)) n (faults_within (drop from ts) st) e in
    let l = length-drop from ts in
    (w.0, omega (arith, w.0, w.1, l))

-- what a run from the start tells
pub told_from_start : (ts : List Token) (from : ℕ) (st st' : List Symbol) (fs : List Frame) (told o : Option ℕ) →
    told ≡ least (gauge (seen_from 1 (drop from ts)) st' fs).faults → st' ≡ st → fs ≡ start →
    told ≡ o → least (gauged_from ts from st).faults ≡ o
told_from_start ts from st st' fs told o e h k g =
    let us = seen_from 1 (drop from ts) in
    sym (e ∙ ap (λ ss. least (gauge us ss fs).faults) h ∙ ap (λ hs. least (gauge us st hs).faults) k) ∙ g
