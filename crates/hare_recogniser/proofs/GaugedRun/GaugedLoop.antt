-- A run of the gauge over the tokens of a list, at one of them.
use Rattle.std.proofs.Common.{◌≡◌, ℕ, ◌+◌, ◌-◌, ◌≤◌, List, ◌∷◌, drop, Bool, true, false, Option, sym, ap, ◌∙◌, subst}
use Rattle.std.specs.Prelude.{slice_get, Some, None}
use Rattle.hare_tree.specs.declared.token.Token.{Token}
use Rattle.hare_automaton.specs.declared.class.Class.{Class}
use Rattle.hare_automaton.specs.declared.rule.Symbol.{Symbol}
use Rattle.hare_automaton.specs.Classes.{class_of}
use Rattle.hare_nesting.specs.Marks.{Frame}
use Rattle.hare_nesting.specs.Gauge.{Seen, Gauged, step, gauge, found, nodes_in}
use Rattle.hare_ll_table.specs.declared.answer.Answer.{Answer}
use Rattle.hare_ll_table.specs.declared.answer.Answer.TheVariants as an
use Rattle.hare_recogniser.specs.Capped.{capped, capped_step}
use Rattle.hare_recogniser.specs.declared.run.Stop.{Stop}
use Rattle.hare_recogniser.specs.Gauged.{Answers, seen_from, is_over, place_in, Stops}
use Rattle.hare_ll_table.specs.Places.{IsPlace}
use Rattle.hare_recogniser.specs.Least.{lesser, least}
use Rattle.hare_recogniser.specs.Width.{width}
use Rattle.hare_recogniser.proofs.GaugedRun.GaugedRuns.{Continues, Halts, goes_on, over_at, stuck_at, used_up}
use Rattle.hare_recogniser.proofs.GaugedRun.Numbers.{seen_at, seen_past}

-- the token is read with this answer
pub record ReadsAt (ts : List Token) (from at next : ℕ) (a : Answer) (st : List Symbol) (fs : List Frame) (st' : List Symbol)
    (fs' : List Frame) : Type 0 where
  pub token : Token
  pub number : ℕ
  pub class : Class
  pub stands : slice_get ts at ≡ Some token
  pub next_is : next ≡ at + width (drop at ts)
  pub behind : from ≤ at
  pub number_is : number ≡ at - from + 1
  pub class_is : class ≡ class_of token
  pub answers : Answers (capped_step (step number class st fs)) a st' (capped fs')

abbrev seen_here : ℕ → ℕ → Token → Seen
seen_here from at t = record { class = class_of t; number = at - from + 1 }

begins : (ts : List Token) (from at next : ℕ) (a : Answer) (st : List Symbol) (fs : List Frame) (st' : List Symbol) (fs' : List Frame)
    (r : ReadsAt ts from at next a st fs st' fs') →
    seen_from (at - from + 1) (drop at ts) ≡ seen_here from at r.token ∷ seen_from (next - from + 1) (drop next ts)
begins ts from at next a st fs st' fs' r = seen_at ts from at next r.token r.stands r.next_is r.behind

answered : (ts : List Token) (from at next : ℕ) (a b : Answer) (st : List Symbol) (fs : List Frame) (st' : List Symbol) (fs' : List Frame)
    (r : ReadsAt ts from at next a st fs st' fs') → a ≡ b →
    Answers (capped_step (step (at - from + 1) (class_of r.token) st fs)) b st' (capped fs')
answered ts from at next a b st fs st' fs' r e =
    let P : Answer → Type 0 = λ x. Answers (capped_step (step (at - from + 1) (class_of r.token) st fs)) x st' (capped fs') in
    let Q : Class → Type 0 = λ x. Answers (capped_step (step (at - from + 1) x st fs)) a st' (capped fs') in
    let R : ℕ → Type 0 = λ n. Answers (capped_step (step n r.class st fs)) a st' (capped fs') in
    subst P e (subst Q r.class_is (subst R r.number_is r.answers))

pub goes_at : (ts : List Token) (from at next : ℕ) (a : Answer) (whole : Gauged) (told found' told' : Option ℕ) (nodes : List Bool)
    (st st' : List Symbol) (fs fs' : List Frame) →
    ReadsAt ts from at next a st fs st' fs' → a ≡ an.Goes → nodes ≡ nodes_in st' → found' ≡ least (found nodes fs') →
    told' ≡ lesser told found' →
    Continues whole told (gauge (seen_from (at - from + 1) (drop at ts)) st fs) →
    Continues whole told' (gauge (seen_from (next - from + 1) (drop next ts)) st' fs')
goes_at ts from at next a whole told found' told' nodes st st' fs fs' r e b f g i =
    let P : List Seen → Type 0 = λ us. Continues whole told (gauge us st fs) in
    let j = subst P (begins ts from at next a st fs st' fs' r) i in
    let t : told' ≡ lesser told (least (found (nodes_in st') fs')) = g ∙ ap (lesser told) (f ∙ ap (λ bs. least (found bs fs')) b) in
    let Q : Option ℕ → Type 0 = λ o. Continues whole o (gauge (seen_from (next - from + 1) (drop next ts)) st' fs') in
    subst Q (sym t) (goes_on whole told (seen_here from at r.token) (seen_from (next - from + 1) (drop next ts)) st st' fs fs' j
    (answered ts from at next a an.Goes st fs st' fs' r e))

pub ends_here : (ts : List Token) (from at next : ℕ) (a : Answer) (whole : Gauged) (told : Option ℕ) (st st' : List Symbol)
    (fs fs' : List Frame) → ReadsAt ts from at next a st fs st' fs' → a ≡ an.Ends →
    Continues whole told (gauge (seen_from (at - from + 1) (drop at ts)) st fs) →
    Halts whole told (seen_from (at - from + 1) (drop at ts)) true
ends_here ts from at next a whole told st st' fs fs' r e i =
    let b = begins ts from at next a st fs st' fs' r in
    let P : List Seen → Type 0 = λ us. Continues whole told (gauge us st fs) in
    let Q : List Seen → Type 0 = λ us. Halts whole told us true in
    subst Q (sym b) (over_at whole told (seen_here from at r.token) (seen_from (next - from + 1) (drop next ts)) st st' fs (capped fs')
    (subst P b i) (answered ts from at next a an.Ends st fs st' fs' r e))

pub stuck_here : (ts : List Token) (from at next : ℕ) (a : Answer) (whole : Gauged) (told : Option ℕ) (st st' : List Symbol)
    (fs fs' : List Frame) → ReadsAt ts from at next a st fs st' fs' → a ≡ an.Stuck →
    Continues whole told (gauge (seen_from (at - from + 1) (drop at ts)) st fs) →
    Halts whole told (seen_from (at - from + 1) (drop at ts)) false
stuck_here ts from at next a whole told st st' fs fs' r e i =
    let b = begins ts from at next a st fs st' fs' r in
    let P : List Seen → Type 0 = λ us. Continues whole told (gauge us st fs) in
    let Q : List Seen → Type 0 = λ us. Halts whole told us false in
    subst Q (sym b) (stuck_at whole told (seen_here from at r.token) (seen_from (next - from + 1) (drop next ts)) st st' fs (capped fs')
    (subst P b i) (answered ts from at next a an.Stuck st fs st' fs' r e))

pub used_up_here : (ts : List Token) (at n : ℕ) (whole : Gauged) (told : Option ℕ) (st : List Symbol) (fs : List Frame) →
    slice_get ts at ≡ None →
    Continues whole told (gauge (seen_from n (drop at ts)) st fs) → Halts whole told (seen_from n (drop at ts)) false
used_up_here ts at n whole told st fs h i =
    let b = seen_past ts at n h in
    let P : List Seen → Type 0 = λ us. Continues whole told (gauge us st fs) in
    let Q : List Seen → Type 0 = λ us. Halts whole told us false in
    subst Q (sym b) (used_up whole told st fs (subst P b i))

-- ---- where it stands still

pub stops_at : (ts : List Token) (from at : ℕ) (whole : Gauged) (told : Option ℕ) (stop : Stop) →
    Halts whole told (seen_from (at - from + 1) (drop at ts)) (is_over stop) → IsPlace ts from at →
    place_in stop ≡ at → Stops ts from whole stop
stops_at ts from at whole told stop h p e =
    record {
      over = h.over;
      place = (let P : ℕ → Type 0 = λ n. IsPlace ts from n in subst P (sym e) p);
      rest = h.rest ∙ ap (λ n. seen_from (n - from + 1) (drop n ts)) (sym e);
    }
