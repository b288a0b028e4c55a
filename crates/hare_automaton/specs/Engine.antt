-- The machine that the table drives: symbols that are waited for, and the trees under way, the innermost first. Each token is used once, so
-- a run needs no bound.
use Rattle.std.specs.Prelude.{ℕ, List, [], ◌∷◌, ◌++◌, Bool, true, false}
use Rattle.hare_tree.specs.declared.place.Place.{Place}
use Rattle.hare_tree.specs.declared.token.Suffix.{Suffix}
use Rattle.hare_tree.specs.declared.token.Suffix.TheVariants as suffix
use Rattle.hare_tree.specs.declared.token.Token.{Token}
use Rattle.hare_tree.specs.Node.{Head, Node, branch, none, nodes_of}
use Rattle.hare_tree.specs.Spell.{start_of}
use Rattle.hare_tree.specs.declared.kind.Kind.{Kind}
use Rattle.hare_tree.specs.declared.kind.Kind.TheVariants as ki
use Rattle.hare_automaton.specs.declared.class.Class.{Class}
use Rattle.hare_automaton.specs.declared.rule.Symbol.{Symbol}
use Rattle.hare_automaton.specs.declared.rule.Symbol.TheVariants as sy
use Rattle.hare_automaton.specs.declared.rule.Change.{Change}
use Rattle.hare_automaton.specs.declared.rule.Change.TheVariants as ch
use Rattle.hare_automaton.specs.Classes.{class_of}
use Rattle.hare_automaton.specs.Rows.{Row, Fault, Skips, Uses, has_sign}
use Rattle.hare_automaton.specs.Table.{row}

-- ---- trees under way

-- a tree of which the kind is not yet known, with the kids so far
pub record Group : Type 0 where
  pub place : Place
  pub text : List ℕ
  pub number : ℕ
  pub suffix : Suffix
  pub kids : List Node

-- a tree that begins here
abbrev pub begun : Place → List Node → Group
begun p ts = record { place = p; text = []; number = 0; suffix = suffix.None; kids = ts }

abbrev pub with_kids : Group → List Node → Group
with_kids g ts = record { place = g.place; text = g.text; number = g.number; suffix = g.suffix; kids = ts }

abbrev pub head_in : Kind → Group → Head
head_in k g = record { kind = k; place = g.place; text = g.text; number = g.number; suffix = g.suffix }

-- the tree is the next kid of the innermost tree under way
abbrev pub add : Node → List Group → List Group
add t [] = []
add t (g ∷ gs) = with_kids g (g.kids ++ t ∷ []) ∷ gs

abbrev pub close : Kind → List Group → List Group
close k [] = []
close k (g ∷ gs) = add (branch (head_in k g) (nodes_of g.kids)) gs

-- a tree with nothing in it
abbrev pub bare_leaf : Kind → Place → Node
bare_leaf k p = branch (head_in k (begun p [])) none

-- a tree of the token alone
abbrev pub full_leaf : Kind → Token → Node
full_leaf k t = branch (record { kind = k; place = t.place; text = t.text; number = t.number; suffix = t.suffix }) none

abbrev pub take_text : Token → List Group → List Group
take_text t [] = []
take_text t (g ∷ gs) = record { place = g.place; text = t.text; number = t.number; suffix = t.suffix; kids = g.kids } ∷ gs

abbrev pub join_text : Token → List Group → List Group
join_text t [] = []
join_text t (g ∷ gs) = record { place = g.place; text = g.text ++ t.text; number = g.number; suffix = g.suffix; kids = g.kids } ∷ gs

-- the last of a list in a list of its own, and the others
abbrev pub last_kid : List Node → List Node
last_kid [] = []
last_kid (x ∷ []) = x ∷ []
last_kid (x ∷ y ∷ ys) = last_kid (y ∷ ys)

abbrev pub but_last : List Node → List Node
but_last [] = []
but_last (x ∷ []) = []
but_last (x ∷ y ∷ ys) = x ∷ but_last (y ∷ ys)

abbrev pub over : Place → List Group → List Group
over p [] = []
over p (g ∷ gs) = begun p (last_kid g.kids) ∷ with_kids g (but_last g.kids) ∷ gs

abbrev pub lift : List Group → List Group
lift [] = []
lift (g ∷ []) = []
lift (g ∷ h ∷ gs) = with_kids h (h.kids ++ g.kids) ∷ gs

abbrev pub let_go : List Group → List Group
let_go [] = []
let_go (g ∷ gs) = gs

-- a change at a token of the file
abbrev pub changed : ℕ → Token → Change → List Group → List Group
changed f t ch.Absent gs = add (bare_leaf ki.None (start_of f)) gs
changed f t (ch.Mark k) gs = add (bare_leaf k t.place) gs
changed f t (ch.Leaf k) gs = add (full_leaf k t) gs
changed f t ch.Open gs = begun t.place [] ∷ gs
changed f t ch.Over gs = over t.place gs
changed f t ch.Take gs = take_text t gs
changed f t ch.Join gs = join_text t gs
changed f t (ch.Close k) gs = close k gs
changed f t ch.Lift gs = lift gs
changed f t ch.Drop gs = let_go gs

abbrev pub all_changed : ℕ → Token → List Change → List Group → List Group
all_changed f t [] gs = gs
all_changed f t (d ∷ ds) gs = all_changed f t ds (changed f t d gs)

-- ---- steps

-- what comes of a token
pub data Step : Type 0 where
  -- it is used, and these symbols are waited for
  Goes : List Symbol → List Group → Step
  -- nothing is waited for
  Ends : List Group → Step
  -- it cannot stand here
  Stuck : Step

abbrev pub wanted : Bool → Step → Step
wanted true s = s
wanted false s = Stuck

-- The last argument is what comes of the same token where the rule is over, by the trees that there are then.
abbrev pub acted : Row → ℕ → Token → List Symbol → List Group → (List Group → Step) → Step
acted Fault f t st gs again = Stuck
acted (Skips cs) f t st gs again = again (all_changed f t cs gs)
acted (Uses cs ss) f t st gs again = Goes (ss ++ st) (all_changed f t cs gs)

unfoldable pub step : ℕ → Token → Class → List Symbol → List Group → Step
step f t c [] gs = Ends gs
step f t c (sy.Close k ∷ st) gs = step f t c st (close k gs)
step f t c (sy.Want s ∷ st) gs = wanted (has_sign s c) (Goes st gs)
step f t c (sy.Part n ∷ st) gs = acted (row n c) f t st gs (λ hs. step f t c st hs)

-- ---- runs

pub data Outcome : Type 0 where
  -- all is read: the tokens from the one that was not used, and the trees
  Done : List Token → List Group → Outcome
  -- the tokens from the one that cannot stand there, or nothing where the tokens are used up
  Fails : List Token → Outcome

abbrev pub after : Step → Token → List Token → (List Symbol → List Group → Outcome) → Outcome
after (Goes st gs) t w go = go st gs
after (Ends gs) t w go = Done (t ∷ w) gs
after Stuck t w go = Fails (t ∷ w)

unfoldable pub run : ℕ → List Token → List Symbol → List Group → Outcome
run f [] st gs = Fails []
run f (t ∷ w) st gs = after (step f t (class_of t) st gs) t w (λ st' gs'. run f w st' gs')

-- nothing is under way
abbrev pub bottom : List Group
bottom = begun (start_of 0) [] ∷ []
