-- Where the limits are passed in trees whose places are numbers of tokens, and in stacks of trees under way. Here a left operand has as
-- many nodes open round it as its operator, as it has while it is read; that one more is open once its operator is there is told at the
-- operator.
use Rattle.std.proofs.Common.{◌≡◌, ℕ, suc, ◌+◌, List, [], ◌∷◌, ◌++◌, Bool, true, false, ◌&&◌, ◌⊎◌, not, map, length}
use Rattle.std.specs.Prelude.{nat_le, ◌==◌, if◌then◌else◌}
use Rattle.std.specs.List.{list_all}
use Rattle.hare_tree.specs.declared.form.Own.TheVariants as ow
use Rattle.hare_tree.specs.Node.{Node, Nodes, branch, none, more, nodes_of}
use Rattle.hare_tree.specs.Depth.{is_node}
use Rattle.hare_tree.specs.Grammar.{IsOn}
use Rattle.hare_automaton.specs.declared.rule.Rule.TheVariants as ru
use Rattle.hare_automaton.specs.declared.rule.Symbol.{Symbol}
use Rattle.hare_automaton.specs.declared.rule.Symbol.TheVariants as sy
use Rattle.hare_automaton.specs.Engine.{Group}
use Rattle.hare_nesting.specs.Marks.{Mark, Frame, lies_before, first_in, mark_as}
use Rattle.hare_nesting.specs.Gauge.{nodes_in, opened}

-- ---- the marks of trees

abbrev mutual
  pub mark : Node → Mark
  mark (branch h ts) = mark_as h.kind h.place.line (marks ts)

  pub marks : Nodes → List Mark
  marks none = []
  marks (more t ts) = mark t ∷ marks ts

abbrev pub frame_of : Group → Frame
frame_of g = record { at = g.place.line; kids = map mark g.kids }

abbrev pub frames : List Group → List Frame
frames gs = map frame_of gs

-- ---- the tokens at which a limit is passed

-- at an operator that has its place at `n`, with its left operand first among its kids, where `o` nodes are open round it
abbrev pub left_faults : ℕ → ℕ → List Mark → List ℕ
left_faults o n [] = []
left_faults o n (m ∷ ms) = if lies_before m n then (if nat_le 255 o then m.first ∷ [] else []) ++
    (if nat_le 256 m.height then n ∷ [] else []) else []

-- at a tree by itself, which is a node or not
abbrev pub own_faults : Bool → ℕ → ℕ → List Mark → List ℕ
own_faults b o n ms = (if b && nat_le 256 o then first_in n ms ∷ [] else []) ++ left_faults o n ms

-- the nodes open round the kids of a tree round which `o` are open
abbrev pub around : Bool → ℕ → ℕ
around true o = suc o
around false o = o

unfoldable mutual
  -- at a tree, with `o` nodes open round it, and at all in it
  pub faults_of : ℕ → Node → List ℕ
  faults_of o (branch h ts) = own_faults (is_node h.kind) o h.place.line (marks ts) ++ first_faults h.place.line o (is_node h.kind) ts

  -- at the kids of a tree that has its place at `n`
  pub first_faults : ℕ → ℕ → Bool → Nodes → List ℕ
  first_faults n o b none = []
  first_faults n o b (more t ts) = faults_of (if lies_before (mark t) n then o else around b o) t ++ kid_faults (around b o) ts

  pub kid_faults : ℕ → Nodes → List ℕ
  kid_faults o none = []
  kid_faults o (more t ts) = faults_of o t ++ kid_faults o ts

-- at a tree under way, and at all in it
abbrev pub group_faults : Bool → ℕ → Group → List ℕ
group_faults b o g = own_faults b o g.place.line (map mark g.kids) ++ first_faults g.place.line o b (nodes_of g.kids)

-- at all trees under way, of which the list says whether they are nodes
unfoldable pub stack_faults : List Bool → List Group → List ℕ
stack_faults bs [] = []
stack_faults [] (g ∷ gs) = group_faults false 0 g
stack_faults (b ∷ bs) (g ∷ gs) = group_faults b (opened bs) g ++ stack_faults bs gs

-- what is on one list is on the other, with these and no others
pub record Gains (old new others : List ℕ) : Type 0 where
  pub kept : (x : ℕ) → IsOn x old → IsOn x new
  pub gained : (x : ℕ) → IsOn x others → IsOn x new
  pub only : (x : ℕ) → IsOn x new → IsOn x old ⊎ IsOn x others

-- ---- what holds of all stacks that a run comes to

-- there is a tree under way for each symbol that brings one to its end, and one for what is read
abbrev pub fits : List Bool → List Frame → Type 0
fits bs fs = length fs ≡ suc (length bs)

abbrev pub is_empty : List Mark → Bool
is_empty [] = true
is_empty (m ∷ ms) = false

-- no node is in any of these
abbrev pub idle : List Mark → Bool
idle ms = list_all (λ m. m.height == 0) ms

-- a tree under way begins no earlier than the place of the tree round it, of which it is the first kid
unfoldable pub is_ordered : List Frame → Bool
is_ordered [] = true
is_ordered (f ∷ []) = true
is_ordered (f ∷ g ∷ fs) = (if is_empty g.kids then nat_le g.at (first_in f.at f.kids) else true) && is_ordered (g ∷ fs)

-- all nodes among the kids begin in front of the token `n`
abbrev pub kids_below : ℕ → List Mark → Bool
kids_below n ms = list_all (λ m. if m.node then nat_le (m.first + 1) n else true) ms

-- the tree begins no later than at the token `n`, and the nodes among its kids in front of it
abbrev pub frame_below : ℕ → Frame → Bool
frame_below n f = nat_le f.at n && kids_below n f.kids

-- All trees under way begin in front of the token `n`, and the nodes among their kids. The last tree, which holds what is read and is never
-- closed, has its place at the first token, even where that is not yet read.
unfoldable pub all_below : ℕ → List Frame → Bool
all_below n [] = true
all_below n (f ∷ []) = frame_below n f
all_below n (f ∷ g ∷ fs) = nat_le (f.at + 1) n && kids_below n f.kids && all_below n (g ∷ fs)

-- the last kid is a node, and no left operand by itself
unfoldable pub last_is_node : List Mark → Bool
last_is_node [] = false
last_is_node (m ∷ []) = m.node
last_is_node (m ∷ p ∷ ms) = last_is_node (p ∷ ms)

abbrev pub ends_in_operand : ℕ → List Mark → Bool
ends_in_operand n [] = false
ends_in_operand n (m ∷ []) = m.node && not (lies_before m n)
ends_in_operand n (m ∷ p ∷ ms) = last_is_node (p ∷ ms)

-- what the rule on top needs of the trees under way
abbrev pub ready_frames : Symbol → List Frame → Bool
ready_frames (sy.Part (ru.Climb l h)) (f ∷ fs) = ends_in_operand f.at f.kids
ready_frames (sy.Part (ru.BehindComma s)) (f ∷ fs) = is_empty f.kids
ready_frames (sy.Part ru.BehindElementComma) (f ∷ g ∷ fs) = is_empty f.kids && idle g.kids
ready_frames (sy.Part ru.PathOrStruct) (f ∷ g ∷ fs) = is_empty f.kids && is_empty g.kids && f.at == g.at
ready_frames (sy.Part ru.AfterForName) (f ∷ fs) = is_empty f.kids
ready_frames (sy.Part ru.AfterUseName) (f ∷ fs) = idle f.kids
ready_frames _ fs = true

-- a rule on top that keeps the kids hands on what the next one needs
abbrev pub ready : List Symbol → List Frame → Bool
ready (sy.Part ru.PathName ∷ s ∷ st) fs = ready_frames s fs
ready (sy.Part (ru.Own o) ∷ s ∷ st) fs = ready_frames s fs
ready (s ∷ st) fs = ready_frames s fs
ready [] fs = true

-- a symbol that brings an operand to its end
abbrev pub ends_operand : Symbol → Bool
ends_operand (sy.Close k) = is_node k
ends_operand (sy.Part (ru.Climb l h)) = true
ends_operand (sy.Part ru.AfterValue) = true
ends_operand (sy.Part ru.InIndex) = true
ends_operand (sy.Part ru.AfterIndex) = true
ends_operand (sy.Part ru.AfterYield) = true
ends_operand (sy.Part ru.ForHead) = true
ends_operand (sy.Part ru.AfterForName) = true
ends_operand (sy.Part ru.PathOrStruct) = true
ends_operand _ = false

-- The second symbol may stand behind the first. A rule that needs something of the trees under way stands on top, or behind one that sees
-- to it.
-- The rules that hand on what the next one needs stand on top alone.
abbrev pub may_follow : Symbol → Symbol → Bool
may_follow s (sy.Part (ru.Climb l h)) = ends_operand s
may_follow s (sy.Part (ru.BehindComma r)) = false
may_follow s (sy.Part ru.BehindElementComma) = false
may_follow s (sy.Part ru.AfterUseName) = false
may_follow s (sy.Part ru.PathName) = false
may_follow s (sy.Part (ru.Own o)) = false
may_follow (sy.Part ru.PathName) (sy.Part ru.PathOrStruct) = true
may_follow s (sy.Part ru.PathOrStruct) = false
may_follow (sy.Part (ru.Own ow.Name)) (sy.Part ru.AfterForName) = true
may_follow s (sy.Part ru.AfterForName) = false
may_follow s d = true

unfoldable pub follows : List Symbol → Bool
follows [] = true
follows (s ∷ []) = true
follows (s ∷ d ∷ st) = may_follow s d && follows (d ∷ st)

-- what holds of the symbols and the trees under way where the next token has the number `n`
pub record Held (n : ℕ) (st : List Symbol) (fs : List Frame) : Type 0 where
  pub fitting : fits (nodes_in st) fs
  pub ordered : is_ordered fs ≡ true
  pub below : all_below n fs ≡ true
  pub following : follows st ≡ true
  pub readied : ready st fs ≡ true
