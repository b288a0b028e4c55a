-- Where yielded values may go while a walk stands among the kids of a node.
use Rattle.std.specs.Prelude.{◌≡◌, ℕ, zero, suc, ◌≤◌, List, [], ◌∷◌, length, map, take}
use Rattle.hare_tree.specs.declared.kind.Kind.{Kind}
use Rattle.hare_tree.specs.declared.token.Suffix.TheVariants as suffix
use Rattle.hare_tree.specs.Node.{Head}
use Rattle.hare_types.specs.Store.{Store}
use Rattle.hare_rules.specs.declared.hint.Hint.{Hint}
use Rattle.hare_rules.specs.declared.inside.Target.{Target}
use Rattle.hare_rules.specs.Context.{Open}
use Rattle.hare_rules.specs.Above.{Above, labels_by}
use Rattle.hare_rules.specs.Flow.{Yielded}
use Rattle.hare_walk.specs.Spots.{Spot}
use Rattle.hare_check.specs.Fits.{AreOpenTo}

-- ---- labels

-- what of a label says where a value may go
pub record Way : Type 0 where
  pub target : Target
  pub hint : Hint

abbrev pub way_of : Open → Way
way_of l = record { target = l.target; hint = l.hint }

abbrev pub ways : List Open → List Way
ways = map way_of

-- a node of this kind, of which no more is said
abbrev pub nameless : Kind → Head
nameless k = record { kind = k; place = record { file = 0; line = 0; column = 0 }; text = []; number = 0; suffix = suffix.None }

-- The labels round kid number i of a node of this kind. What the node is called, and which number it has, says nothing of where values may
-- go.
abbrev pub labels_round : Above → Kind → (place : ℕ) → List Open
labels_round a k i = labels_by a (nameless k) 0 i k

-- those round the last kid that is done, and those of the node where none is
abbrev pub labels_behind : Above → Kind → (done : ℕ) → List Open
labels_behind a k zero = a.inside.labels
labels_behind a k (suc i) = labels_round a k i

-- ---- values

-- So many values had been yielded when the node began, and may go to what stands round it; all may go to what stands round its last kid
-- that is done.
pub record IsSpotted (s : Store) (p : Spot) (a : Above) (from : ℕ) (ys : List Yielded) : Type 0 where
  pub within : from ≤ length ys
  pub before : AreOpenTo s a.inside.labels (take from ys)
  pub behind : AreOpenTo s (labels_behind a p.kind p.done) ys

-- The same of the nodes round a tree over which this stands, the innermost first, of what had been yielded when the tree began. The tree is
-- the next kid of the innermost.
abbrev pub AreRound : Store → Above → List Spot → List Above → (froms : List ℕ) → List Yielded → Type 0
AreRound s b [] [] [] ys = Unit {0}
AreRound s b (p ∷ ps) (a ∷ rest) (n ∷ ns) ys =
    (ways b.inside.labels ≡ ways (labels_round a p.kind p.done)) × IsSpotted s p a n ys × AreRound s a ps rest ns (take n ys)
AreRound s b _ _ _ ys = ⊥

-- the same of the tree at hand and of those round it
abbrev pub AreSpotted : Store → List Spot → List Above → (froms : List ℕ) → List Yielded → Type 0
AreSpotted s (p ∷ ps) (a ∷ rest) (n ∷ ns) ys = IsSpotted s p a n ys × AreRound s a ps rest ns (take n ys)
AreSpotted s _ _ _ ys = ⊥
