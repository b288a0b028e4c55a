-- A check of rows of the table: the symbols that a row puts on the stack fit the changes that it makes to the trees under way.
use Rattle.std.proofs.Common.{List, [], ◌∷◌, Bool, true, false, ◌&&◌, ◌||◌, not, if◌then◌else◌}
use Rattle.std.specs.List.{list_all}
use Rattle.hare_tree.specs.declared.kind.Kind.TheVariants as ki
use Rattle.hare_tree.specs.Depth.{is_node}
use Rattle.hare_automaton.specs.declared.rule.Rule.TheVariants as ru
use Rattle.hare_automaton.specs.declared.rule.Symbol.{Symbol}
use Rattle.hare_automaton.specs.declared.rule.Symbol.TheVariants as sy
use Rattle.hare_automaton.specs.declared.rule.Change.{Change}
use Rattle.hare_automaton.specs.declared.rule.Change.TheVariants as ch
use Rattle.hare_automaton.specs.Rows.{Row, Fault, Skips, Uses}
use Rattle.hare_nesting.specs.Gauge.{nodes_in}
use Rattle.hare_nesting.proofs.UnderWay.Stacks.{ends_operand, follows}

-- ---- which trees under way are nodes, in front of changes and behind them

-- in front of a change, for those behind it
abbrev pub undone : Change → List Bool → List Bool
undone ch.Open [] = []
undone ch.Open (b ∷ bs) = bs
undone ch.Over [] = []
undone ch.Over (b ∷ bs) = bs
undone (ch.Close k) bs = is_node k ∷ bs
undone ch.Lift bs = false ∷ bs
undone ch.Drop bs = false ∷ bs
undone _ bs = bs

abbrev pub all_undone : List Change → List Bool → List Bool
all_undone [] bs = bs
all_undone (c ∷ cs) bs = undone c (all_undone cs bs)

-- nothing begins at the token that is a node, where the list says which trees are under way behind the change
abbrev pub is_quiet : Change → List Bool → Bool
is_quiet ch.Absent bs = true
is_quiet (ch.Mark k) bs = not (is_node k)
is_quiet (ch.Leaf k) bs = not (is_node k)
is_quiet ch.Open (b ∷ bs) = not b
is_quiet ch.Take bs = true
is_quiet ch.Join bs = true
is_quiet (ch.Close k) bs = true
is_quiet _ bs = false

-- something begins at the token
abbrev pub is_loud : Change → List Bool → Bool
is_loud (ch.Mark k) bs = true
is_loud (ch.Leaf k) bs = true
is_loud ch.Open (b ∷ bs) = true
is_loud _ bs = false

-- only the text of a tree changes
abbrev pub is_still : Change → Bool
is_still ch.Take = true
is_still ch.Join = true
is_still _ = false

-- at most the last of the changes but those of texts begins a node
abbrev pub tame : List Change → List Bool → Bool
tame [] bs = true
tame (c ∷ cs) bs = if is_quiet c (all_undone cs bs) then tame cs bs else is_loud c (all_undone cs bs) && list_all is_still cs

-- a rule that is over puts what is absent, or closes
abbrev pub is_over : Change → Bool
is_over ch.Absent = true
is_over (ch.Close k) = true
is_over _ = false

-- the last tree that is put is a node
abbrev pub is_operand : Change → Bool
is_operand (ch.Mark k) = is_node k
is_operand (ch.Leaf k) = is_node k
is_operand (ch.Close k) = is_node k
is_operand _ = false

abbrev pub is_put : List Change → Bool
is_put [] = false
is_put (c ∷ cs) = is_operand c && list_all is_still cs

-- some last part of the list passes the test
abbrev pub ends_in : (List Change → Bool) → List Change → Bool
ends_in p [] = p []
ends_in p (c ∷ cs) = p (c ∷ cs) || ends_in p cs

abbrev pub puts_operand : List Change → Bool
puts_operand cs = ends_in is_put cs

-- ---- the symbols of rows

-- the symbol needs nothing of the trees under way, and stands behind any
abbrev pub is_plain : Symbol → Bool
is_plain (sy.Part (ru.Climb l h)) = false
is_plain (sy.Part (ru.BehindComma s)) = false
is_plain (sy.Part ru.BehindElementComma) = false
is_plain (sy.Part ru.AfterUseName) = false
is_plain (sy.Part ru.PathName) = false
is_plain (sy.Part (ru.Own o)) = false
is_plain (sy.Part ru.PathOrStruct) = false
is_plain (sy.Part ru.AfterForName) = false
is_plain _ = true

abbrev pub is_plain_first : List Symbol → Bool
is_plain_first [] = false
is_plain_first (s ∷ ss) = is_plain s

-- two trees begin, one in the other
abbrev pub is_twice : List Change → Bool
is_twice (ch.Open ∷ ch.Open ∷ cs) = list_all is_still cs
is_twice _ = false

-- a tree begins
abbrev pub is_begun : List Change → Bool
is_begun (ch.Open ∷ []) = true
is_begun _ = false

-- a tree begins in one that holds what is absent
abbrev pub is_begun_behind : List Change → Bool
is_begun_behind (ch.Open ∷ ch.Absent ∷ ch.Open ∷ []) = true
is_begun_behind _ = false

-- a tree begins with a name
abbrev pub is_named : List Change → Bool
is_named (ch.Open ∷ ch.Leaf ki.Name ∷ []) = true
is_named _ = false

-- the changes make what the symbol needs
abbrev pub made_for : List Change → Symbol → Bool
made_for cs (sy.Part (ru.Climb l h)) = puts_operand cs
made_for cs (sy.Part ru.PathOrStruct) = ends_in is_twice cs
made_for cs (sy.Part (ru.BehindComma s)) = ends_in is_begun cs
made_for cs (sy.Part ru.BehindElementComma) = ends_in is_begun_behind cs
made_for cs (sy.Part ru.AfterForName) = ends_in is_begun cs
made_for cs (sy.Part ru.AfterUseName) = ends_in is_named cs
made_for cs _ = true

-- the rule keeps the kids for the next symbol
abbrev pub hands_on : Symbol → Bool
hands_on (sy.Part ru.PathName) = true
hands_on (sy.Part (ru.Own o)) = true
hands_on _ = false

-- the changes make what the first of the symbols needs, or what it hands on to the second
abbrev pub prepared : List Change → List Symbol → Bool
prepared cs [] = true
prepared cs (s ∷ []) = if hands_on s then false else made_for cs s
prepared cs (s ∷ d ∷ ss) = if hands_on s then made_for cs d else made_for cs s

-- ---- the check

abbrev pub same_bools : List Bool → List Bool → Bool
same_bools [] [] = true
same_bools (true ∷ bs) (true ∷ os) = same_bools bs os
same_bools (false ∷ bs) (false ∷ os) = same_bools bs os
same_bools _ _ = false

-- the row uses the token or faults, and behind its symbols as many trees are under way as in front of it but for these
abbrev pub uses_ok : List Bool → Row → Bool
uses_ok os Fault = true
uses_ok os (Skips cs) = false
uses_ok os (Uses cs ss) = (tame cs (nodes_in ss) && same_bools (all_undone cs (nodes_in ss)) os) && (follows ss && prepared cs ss)

-- the same of a row that may be over
abbrev pub row_ok : List Bool → Row → Bool
row_ok os (Skips cs) = list_all is_over cs && same_bools (all_undone cs []) os
row_ok os r = uses_ok os r

-- what the row leaves ends an operand
abbrev pub ends_stack : List Change → List Symbol → Bool
ends_stack cs [] = puts_operand cs
ends_stack cs (s ∷ []) = ends_operand s
ends_stack cs (s ∷ d ∷ ss) = ends_stack cs (d ∷ ss)

abbrev pub ends_row : Row → Bool
ends_row Fault = true
ends_row (Skips cs) = puts_operand cs
ends_row (Uses cs ss) = ends_stack cs ss
