-- What a rule does at a class of token, and how rows are made from forms.
use Rattle.std.specs.Prelude.{ℕ, List, [], ◌∷◌, ◌++◌, drop, Bool, false, if◌then◌else◌}
use denote.Enum.Bare.{sameb}
use Rattle.hare_tree.specs.contracts.form.Sign.{the_type}
use Rattle.hare_tree.specs.declared.kind.Kind.{Kind}
use Rattle.hare_tree.specs.declared.form.Sign.{Sign}
use Rattle.hare_tree.specs.declared.form.Sort.{Sort}
use Rattle.hare_tree.specs.declared.form.Piece.{Piece}
use Rattle.hare_tree.specs.declared.form.Piece.TheVariants as pi
use Rattle.hare_tree.specs.Forms.{form_of}
use Rattle.hare_automaton.specs.declared.class.Class.{Class}
use Rattle.hare_automaton.specs.declared.class.Class.TheVariants as cl
use Rattle.hare_automaton.specs.declared.rule.Rule.{Rule}
use Rattle.hare_automaton.specs.declared.rule.Rule.TheVariants as ru
use Rattle.hare_automaton.specs.declared.rule.Symbol.{Symbol}
use Rattle.hare_automaton.specs.declared.rule.Symbol.TheVariants as sy
use Rattle.hare_automaton.specs.declared.rule.Change.{Change}
use Rattle.hare_automaton.specs.declared.rule.Change.TheVariants as ch

pub data Row : Type 0 where
  -- the token cannot stand here
  Fault : Row
  -- the rule is over after these changes, and the token is looked at again
  Skips : List Change → Row
  -- the token is used: these changes, and then these symbols are waited for
  Uses : List Change → List Symbol → Row

abbrev pub of : Sort → Symbol
of s = sy.Part (ru.Of s)

abbrev pub part : Rule → Symbol
part n = sy.Part n

-- the row, and then these symbols
abbrev pub before : Row → List Symbol → Row
before Fault ss = Fault
before (Skips cs) ss = Skips cs
before (Uses cs rs) ss = Uses cs (rs ++ ss)

-- these changes first
abbrev pub led_by : List Change → Row → Row
led_by ds Fault = Fault
led_by ds (Skips cs) = Skips (ds ++ cs)
led_by ds (Uses cs rs) = Uses (ds ++ cs) rs

-- the row where it uses the token, or else an end after these changes
abbrev pub or_skips : Row → List Change → Row
or_skips Fault ds = Skips ds
or_skips (Skips cs) ds = Skips ds
or_skips (Uses cs rs) ds = Uses cs rs

-- the class is this sign
abbrev pub has_sign : Sign → Class → Bool
has_sign s (cl.Sign r) = sameb the_type s r
has_sign s _ = false

-- ---- rows from forms

-- What is waited for in order to read these pieces. A kid with a sign behind it, the value of a `yield`, and what follows the first element
-- of an array are read by rules of their own.
abbrev pub symbols : List Piece → List Symbol
symbols [] = []
symbols (pi.Fixed s ∷ ps) = sy.Want s ∷ symbols ps
symbols (pi.Own o ∷ ps) = part (ru.Own o) ∷ symbols ps
symbols (pi.Kid s ∷ ps) = of s ∷ symbols ps
symbols (pi.Optional s ∷ ps) = part (ru.Optional s) ∷ symbols ps
symbols (pi.Led a s ∷ ps) = part (ru.Led a s) ∷ symbols ps
symbols (pi.Followed s a ∷ ps) = symbols ps
symbols (pi.Value s ∷ ps) = symbols ps
symbols (pi.Each s ∷ ps) = part (ru.Each s) ∷ symbols ps
symbols (pi.EachLed a s ∷ ps) = part (ru.EachLed a s) ∷ symbols ps
symbols (pi.EachFollowed s a ∷ ps) = part (ru.EachFollowed s a) ∷ symbols ps
symbols (pi.More s ∷ ps) = part (ru.More s) ∷ symbols ps
symbols (pi.List s ∷ ps) = part (ru.List s) ∷ symbols ps
symbols (pi.Elements s ∷ ps) = part ru.Elements ∷ symbols ps
symbols (pi.MoreElements s ∷ ps) = part ru.MoreElements ∷ symbols ps

-- what is left of a form behind its first pieces, and its end
abbrev pub rest_of : ℕ → Kind → List Symbol
rest_of n k = symbols (drop n (form_of k)) ++ sy.Close k ∷ []

-- a tree of this kind begins at the token, which is the first piece of its form
abbrev pub opens : Kind → Row
opens k = Uses (ch.Open ∷ []) (rest_of 1 k)

-- the token is the tree
abbrev pub leaf : Kind → Row
leaf k = Uses (ch.Leaf k ∷ []) []

abbrev pub mark : Kind → Row
mark k = Uses (ch.Mark k ∷ []) []

-- the token is the text of a tree that begins there
abbrev pub names : Kind → Row
names k = Uses (ch.Open ∷ ch.Take ∷ []) (rest_of 1 k)

-- a path begins
abbrev pub path : Kind → Row
path k = Uses (ch.Open ∷ ch.Take ∷ []) (part (ru.PathRest k) ∷ [])

-- one row where the class is the sign, and else another
abbrev pub at_sign : Sign → Class → Row → Row → Row
at_sign s c r other = if has_sign s c then r else other
