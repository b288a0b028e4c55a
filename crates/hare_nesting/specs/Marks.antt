-- What the limits on depth ask of the trees that are read: whether a tree is a node, at which token it begins, and how high it is. Tokens
-- are numbered from 1.
use Rattle.std.specs.Prelude.{ℕ, ◌+◌, max, List, [], ◌∷◌, ◌++◌, Bool, ◌&&◌, nat_le, if◌then◌else◌}
use Rattle.hare_tree.specs.declared.kind.Kind.{Kind}
use Rattle.hare_tree.specs.declared.kind.Kind.TheVariants as ki
use Rattle.hare_tree.specs.Depth.{is_node, counted}
use Rattle.hare_automaton.specs.declared.rule.Change.{Change}
use Rattle.hare_automaton.specs.declared.rule.Change.TheVariants as ch

-- a tree that is whole
pub record Mark : Type 0 where
  -- whether it is a type, an expression or a statement
  pub node : Bool
  -- the number of its first token
  pub first : ℕ
  pub height : ℕ

-- a tree under way
pub record Frame : Type 0 where
  -- the number of the token at which it has its place
  pub at : ℕ
  -- its kids so far
  pub kids : List Mark

-- the tree is a node that begins in front of this token
abbrev pub lies_before : Mark → ℕ → Bool
lies_before m n = m.node && nat_le (m.first + 1) n

-- The first token of a tree that has its place at `n`: an operator stands behind its left operand, with which the tree begins.
abbrev pub first_in : ℕ → List Mark → ℕ
first_in n [] = n
first_in n (m ∷ ms) = if lies_before m n then m.first else n

abbrev pub highest : List Mark → ℕ
highest [] = 0
highest (m ∷ ms) = max m.height (highest ms)

abbrev pub mark_as : Kind → ℕ → List Mark → Mark
mark_as k n ms = record { node = is_node k; first = first_in n ms; height = counted k + highest ms }

-- a tree with nothing in it
abbrev pub leaf_mark : Kind → ℕ → Mark
leaf_mark k n = mark_as k n []

-- ---- the changes of the grammar's machine, as the marks show them

abbrev pub last_mark : List Mark → List Mark
last_mark [] = []
last_mark (m ∷ []) = m ∷ []
last_mark (m ∷ n ∷ ms) = last_mark (n ∷ ms)

abbrev pub but_last_mark : List Mark → List Mark
but_last_mark [] = []
but_last_mark (m ∷ []) = []
but_last_mark (m ∷ n ∷ ms) = m ∷ but_last_mark (n ∷ ms)

abbrev pub put : Mark → List Frame → List Frame
put m [] = []
put m (f ∷ fs) = record { at = f.at; kids = f.kids ++ m ∷ [] } ∷ fs

abbrev pub close : Kind → List Frame → List Frame
close k [] = []
close k (f ∷ fs) = put (mark_as k f.at f.kids) fs

abbrev pub over : ℕ → List Frame → List Frame
over n [] = []
over n (f ∷ fs) = record { at = n; kids = last_mark f.kids } ∷ record { at = f.at; kids = but_last_mark f.kids } ∷ fs

abbrev pub lift : List Frame → List Frame
lift [] = []
lift (f ∷ []) = []
lift (f ∷ g ∷ fs) = record { at = g.at; kids = g.kids ++ f.kids } ∷ fs

abbrev pub let_go : List Frame → List Frame
let_go [] = []
let_go (f ∷ fs) = fs

-- a change at the token with this number
abbrev pub changed : ℕ → Change → List Frame → List Frame
changed n ch.Absent fs = put (leaf_mark ki.None 1) fs
changed n (ch.Mark k) fs = put (leaf_mark k n) fs
changed n (ch.Leaf k) fs = put (leaf_mark k n) fs
changed n ch.Open fs = record { at = n; kids = [] } ∷ fs
changed n ch.Over fs = over n fs
changed n ch.Take fs = fs
changed n ch.Join fs = fs
changed n (ch.Close k) fs = close k fs
changed n ch.Lift fs = lift fs
changed n ch.Drop fs = let_go fs

unfoldable pub all_changed : ℕ → List Change → List Frame → List Frame
all_changed n [] fs = fs
all_changed n (c ∷ cs) fs = all_changed n cs (changed n c fs)
