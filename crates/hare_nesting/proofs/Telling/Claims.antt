-- The parts of the proof that the gauge tells where the limits are passed, as statements.
use Rattle.std.proofs.Common.{◌≡◌, ℕ, suc, ◌<◌, ◌≤◌, List, [], ◌∷◌, Bool, true, false, ◌⊎◌, map, length}
use Rattle.hare_tree.specs.declared.token.Token.{Token}
use Rattle.hare_tree.specs.declared.form.Sort.{Sort}
use Rattle.hare_tree.specs.Node.{Node}
use Rattle.hare_tree.specs.Spell.{spell}
use Rattle.hare_tree.specs.Shape.{is_shaped}
use Rattle.hare_tree.specs.Depth.{deep_root}
use Rattle.hare_tree.specs.Grammar.{IsOn, HasPlaces, place_of}
use Rattle.hare_automaton.specs.declared.class.Class.{Class}
use Rattle.hare_automaton.specs.declared.class.Class.TheVariants as cl
use Rattle.hare_tree.specs.declared.form.Sign.TheVariants as si
use Rattle.hare_automaton.specs.declared.rule.Rule.{Rule}
use Rattle.hare_automaton.specs.declared.rule.Rule.TheVariants as ru
use Rattle.hare_automaton.specs.declared.rule.Symbol.{Symbol}
use Rattle.hare_automaton.specs.declared.rule.Symbol.TheVariants as sy
use Rattle.hare_automaton.specs.Classes.{class_of}
use Rattle.hare_automaton.specs.Rows.{Row, Fault, Skips, Uses}
use Rattle.hare_automaton.specs.Table.{row}
use Rattle.hare_automaton.specs.Engine.{Group, Goes, Ends, Stuck, step}
use Rattle.hare_automaton.specs.Engine as engine
use Rattle.hare_prefixes.specs.Viable.{has_trees}
use Rattle.hare_prefixes.proofs.Completion.Endings.{good, closing}
use Rattle.hare_prefixes.proofs.Outcomes.Alike.{classes}
use Rattle.hare_nesting.specs.Gauge.{Gauged, Seen, seen_in, with_faults, nodes_in, found, gauge}
use Rattle.hare_nesting.specs.Gauge as gauges
use Rattle.hare_nesting.proofs.UnderWay.Stacks.{frames, faults_of, stack_faults, Gains, Held}

-- ---- trees: the letter, and as they are read

-- the numbers of tokens rise, and none is 0
abbrev pub Rises : List Token → Type 0
Rises ts = ((k : ℕ) → k < length ts → 0 < (place_of ts k).line) ×
    ((j k : ℕ) → j < k → k < length ts → (place_of ts j).line < (place_of ts k).line)

-- A shaped tree of tokens whose places are numbers passes the limits at the same tokens by the letter as it does as it is read.
abbrev pub FaultsAgree : Type 0
FaultsAgree =
    (s : Sort) → has_trees s ≡ true → (f : ℕ) (ts : List Token) (t : Node) → Rises ts → is_shaped s t ≡ true →
    length (spell 0 t) ≤ length ts → HasPlaces f ts 0 t → Gains (map (λ k. (place_of ts k).line) (deep_root t)) (faults_of 0 t) []

-- ---- the gauge is the machine without trees

-- what a step leaves, as the gauge sees it
abbrev pub seen_step : engine.Step → gauges.Step
seen_step (Goes st gs) = gauges.Goes st (frames gs)
seen_step (Ends gs) = gauges.Ends (frames gs)
seen_step Stuck = gauges.Stuck

abbrev pub StepsAreSeen : Type 0
StepsAreSeen =
    (f : ℕ) (t : Token) (c : Class) (st : List Symbol) (gs : List Group) →
    gauges.step t.place.line c st (frames gs) ≡ seen_step (step f t c st gs)

-- ---- steps

-- the row makes nothing begin earlier than at its token: no operator is put over an operand, and no tree that was begun turns out to be a
-- node
abbrev pub is_calm : Rule → Class → Bool
is_calm ru.PathOrStruct (cl.Sign si.LeftBrace) = false
is_calm ru.AfterForName (cl.Sign si.Colon) = false
is_calm ru.AfterForName (cl.Sign si.Equals) = false
is_calm (ru.Climb l h) c = is_no_use (row (ru.Climb l h) c)
  where
    is_no_use : Row → Bool
    is_no_use (Uses cs ss) = false
    is_no_use _ = true
is_calm r c = true

abbrev pub calm_row : Row → Bool → Bool → Bool
calm_row Fault calm next = true
calm_row (Skips cs) calm next = next
calm_row (Uses cs ss) calm next = calm

-- the row by which a token of the class is used is calm
unfoldable pub calm_step : Class → List Symbol → Bool
calm_step c [] = true
calm_step c (sy.Close k ∷ st) = calm_step c st
calm_step c (sy.Want s ∷ st) = true
calm_step c (sy.Part r ∷ st) = calm_row (row r c) (is_calm r c) (calm_step c st)

-- what a token that is used leaves
pub record Stepped (n : ℕ) (c : Class) (st : List Symbol) (gs : List Group) (st' : List Symbol) (gs' : List Group) : Type 0 where
  pub held : Held (suc n) st' (frames gs')
  pub gains : Gains (stack_faults (nodes_in st) gs) (stack_faults (nodes_in st') gs') (found (nodes_in st') (frames gs'))
  pub calm : calm_step c st ≡ true → (x : ℕ) → IsOn x (stack_faults (nodes_in st') gs') → IsOn x (stack_faults (nodes_in st) gs) ⊎ (x ≡ n)

abbrev pub StepsGain : Type 0
StepsGain =
    (f : ℕ) (t : Token) (st st' : List Symbol) (gs gs' : List Group) → Held t.place.line st (frames gs) →
    step f t (class_of t) st gs ≡ Goes st' gs' → Stepped t.place.line (class_of t) st gs st' gs'

-- where nothing more is waited for, the last trees are closed
abbrev pub StepsEnd : Type 0
StepsEnd =
    (f : ℕ) (t : Token) (st : List Symbol) (gs made : List Group) → Held t.place.line st (frames gs) →
    step f t (class_of t) st gs ≡ Ends made → Gains (stack_faults (nodes_in st) gs) (stack_faults [] made) []

-- ---- the tokens that bring a stack to its end

abbrev pub calm_after : engine.Step → (List Symbol → List Group → Type 0) → Type 0
calm_after (Goes st gs) go = go st gs
calm_after (Ends gs) go = Unit {0}
calm_after Stuck go = Unit {0}

-- each token of the list is used by a calm row
unfoldable pub Calm : ℕ → List Token → List Symbol → List Group → Type 0
Calm f [] st gs = Unit {0}
Calm f (t ∷ u) st gs = (calm_step (class_of t) st ≡ true) × calm_after (step f t (class_of t) st gs) (λ st' gs'. Calm f u st' gs')

abbrev pub ClosingsAreCalm : Type 0
ClosingsAreCalm =
    (f : ℕ) (e : Class) (st : List Symbol) (gs : List Group) (u : List Token) → good st e ≡ true → classes u ≡ classes (closing st) →
    Calm f u st gs
