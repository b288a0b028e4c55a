-- The gauge of depth: the grammar's machine over the classes and numbers of tokens, which keeps marks in place of trees and tells the
-- tokens at which a limit on depth is passed.
use Rattle.std.specs.Prelude.{ℕ, suc, List, [], ◌∷◌, ◌++◌, map, Bool, true, false, ◌&&◌, nat_le, if◌then◌else◌}
use Rattle.hare_tree.specs.declared.token.Token.{Token}
use Rattle.hare_tree.specs.Depth.{is_node}
use Rattle.hare_automaton.specs.declared.class.Class.{Class}
use Rattle.hare_automaton.specs.declared.rule.Rule.{Rule}
use Rattle.hare_automaton.specs.declared.rule.Rule.TheVariants as ru
use Rattle.hare_automaton.specs.declared.rule.Symbol.{Symbol}
use Rattle.hare_automaton.specs.declared.rule.Symbol.TheVariants as sy
use Rattle.hare_automaton.specs.Classes.{class_of}
use Rattle.hare_automaton.specs.Rows.{Row, Fault, Skips, Uses, has_sign}
use Rattle.hare_automaton.specs.Table.{row}
use Rattle.hare_tree.specs.Grammar.{joined}
use Rattle.hare_nesting.specs.Marks.{Mark, Frame, lies_before, first_in, close, all_changed}

-- ---- which of the trees under way are nodes

-- For the trees under way that a rule brings to their end, the innermost first, whether each is a node. The `let` of a `for` may yet be a
-- binding, and the tree round a path may yet be none: they count from the token on that decides it.
abbrev pub nodes_of_rule : Rule → List Bool
nodes_of_rule (ru.BehindComma s) = false ∷ []
nodes_of_rule ru.BehindElementComma = false ∷ false ∷ []
nodes_of_rule (ru.PathRest k) = is_node k ∷ []
nodes_of_rule ru.PathOrStruct = true ∷ false ∷ []
nodes_of_rule ru.InBracket = true ∷ []
nodes_of_rule ru.FirstMember = true ∷ []
nodes_of_rule ru.AfterType = true ∷ []
nodes_of_rule ru.AfterSpread = true ∷ []
nodes_of_rule ru.AfterValue = true ∷ []
nodes_of_rule ru.InIndex = true ∷ []
nodes_of_rule ru.AfterIndex = true ∷ []
nodes_of_rule ru.AfterYield = true ∷ []
nodes_of_rule ru.ForHead = true ∷ []
nodes_of_rule ru.AfterForName = false ∷ true ∷ []
nodes_of_rule ru.DeclWord = false ∷ []
nodes_of_rule ru.UseStart = false ∷ []
nodes_of_rule ru.AfterUseName = false ∷ false ∷ []
nodes_of_rule ru.AfterUseMark = false ∷ false ∷ []
nodes_of_rule ru.AfterUsePart = false ∷ false ∷ []
nodes_of_rule _ = []

abbrev pub nodes_of_symbol : Symbol → List Bool
nodes_of_symbol (sy.Want s) = []
nodes_of_symbol (sy.Part r) = nodes_of_rule r
nodes_of_symbol (sy.Close k) = is_node k ∷ []

-- for all trees under way but the last, which holds what is read, whether each is a node
unfoldable pub nodes_in : List Symbol → List Bool
nodes_in [] = []
nodes_in (s ∷ st) = nodes_of_symbol s ++ nodes_in st

-- how many nodes are open
unfoldable pub opened : List Bool → ℕ
opened [] = 0
opened (true ∷ bs) = suc (opened bs)
opened (false ∷ bs) = opened bs

-- ---- the limits

-- the innermost tree under way is a node with 256 nodes open round it
abbrev pub deep_frame : List Bool → Frame → List ℕ
deep_frame [] f = []
deep_frame (false ∷ bs) f = []
deep_frame (true ∷ bs) f = if nat_le 256 (opened bs) then first_in f.at f.kids ∷ [] else []

-- the last kid is a node with 256 nodes open round it
unfoldable pub deep_last : ℕ → List Mark → List ℕ
deep_last n [] = []
deep_last n (m ∷ []) = if m.node && nat_le 256 n then m.first ∷ [] else []
deep_last n (m ∷ p ∷ ms) = deep_last n (p ∷ ms)

-- the tree is an operator that was begun just now, behind a left operand of height 256
abbrev pub high_operand : ℕ → List Mark → List ℕ
high_operand n (m ∷ []) = if lies_before m n && nat_le 256 m.height then n ∷ [] else []
high_operand n _ = []

-- the tokens at which a limit is passed, as far as the innermost tree under way shows it
abbrev pub found : List Bool → List Frame → List ℕ
found bs [] = []
found bs (f ∷ fs) = deep_frame bs f ++ (deep_last (opened bs) f.kids ++ high_operand f.at f.kids)

-- ---- steps and runs

-- what comes of a token
pub data Step : Type 0 where
  -- it is used, and these symbols are waited for
  Goes : List Symbol → List Frame → Step
  -- nothing is waited for
  Ends : List Frame → Step
  -- it cannot stand here
  Stuck : Step

abbrev pub wanted : Bool → Step → Step
wanted true s = s
wanted false s = Stuck

abbrev pub acted : Row → ℕ → List Symbol → List Frame → (List Frame → Step) → Step
acted Fault n st fs again = Stuck
acted (Skips cs) n st fs again = again (all_changed n cs fs)
acted (Uses cs ss) n st fs again = Goes (ss ++ st) (all_changed n cs fs)

unfoldable pub step : ℕ → Class → List Symbol → List Frame → Step
step n c [] fs = Ends fs
step n c (sy.Close k ∷ st) fs = step n c st (close k fs)
step n c (sy.Want s ∷ st) fs = wanted (has_sign s c) (Goes st fs)
step n c (sy.Part r ∷ st) fs = acted (row r c) n st fs (λ gs. step n c st gs)

-- all that the gauge sees of a token
pub record Seen : Type 0 where
  pub class : Class
  pub number : ℕ

-- what a run comes to
pub record Gauged : Type 0 where
  -- the tokens at which a limit is passed
  pub faults : List ℕ
  -- the tokens from the one that is not used
  pub rest : List Seen
  -- whether all is read, so that nothing more is waited for
  pub over : Bool

abbrev pub with_faults : List ℕ → Gauged → Gauged
with_faults ns g = record { faults = ns ++ g.faults; rest = g.rest; over = g.over }

abbrev pub after : Step → Seen → List Seen → (List Symbol → List Frame → Gauged) → Gauged
after (Goes st fs) t w go = with_faults (found (nodes_in st) fs) (go st fs)
after (Ends fs) t w go = record { faults = []; rest = t ∷ w; over = true }
after Stuck t w go = record { faults = []; rest = t ∷ w; over = false }

unfoldable pub gauge : List Seen → List Symbol → List Frame → Gauged
gauge [] st fs = record { faults = []; rest = []; over = false }
gauge (t ∷ w) st fs = after (step t.number t.class st fs) t w (λ st' fs'. gauge w st' fs')

-- nothing is under way
abbrev pub start : List Frame
start = record { at = 1; kids = [] } ∷ []

-- ---- the tokens of a file

-- the tokens, of which each has its number in the list, from `n` on, in place of its line
abbrev pub numbered : ℕ → List Token → List Token
numbered n [] = []
numbered n (t ∷ ts) =
    record { kind = t.kind; place = record { file = 0; line = n; column = 1 }; text = t.text; number = t.number; suffix = t.suffix } ∷
    numbered (suc n) ts

abbrev pub seen_in : Token → Seen
seen_in t = record { class = class_of t; number = t.place.line }

-- what the gauge sees of the tokens of a file, of which strings side by side are one, with the number of the first of them
abbrev pub seen : List Token → List Seen
seen ts = map seen_in (joined (numbered 1 ts))
