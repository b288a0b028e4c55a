-- What is known when the turn of a node is over.
use Rattle.std.specs.Prelude.{◌≡◌, List, map}
use Rattle.hare_tree.specs.Node.{Node, head, kids_of}
use Rattle.hare_types.specs.Store.{Store}
use Rattle.hare_types.specs.Later.{IsLater}
use Rattle.hare_typed.specs.Typed.{TypedNode, Mark}
use Rattle.hare_rules.specs.Context.{Setting, Context}
use Rattle.hare_rules.specs.Above.{Above}
use Rattle.hare_rules.specs.Flow.{Flow, count, meaning_of, context, flow_after}
use Rattle.hare_rules.specs.Values.{value_of}
use Rattle.hare_rules.specs.Finished.{bare}
use Rattle.hare_walk.specs.Walks.{AreInHand, AreInferred}
use Rattle.hare_find.specs.declared.finding.Finding.{Finding}
use Rattle.hare_find.specs.Findings.{IsFound}
use Rattle.hare_find.specs.Listed.{coated_each}
use Rattle.hare_find.specs.Settling.{option_in}

-- the context of a node over which this stands, with kids in hand
abbrev pub context_at : (Store → Setting) → Above → Node → List TypedNode → Flow → Store → Context
context_at w a n xs f l = context (w l) a (head n) (map bare xs) f

-- This has been found of a node with these kids, where this has been seen; behind its turn that has been, and its mark and its kids are
-- these.
pub record IsClosed (w : Store → Setting) (s : Store) (a : Above) (n : Node) (xs : List TypedNode) (f g : Flow) (x : Finding) (m : Mark)
    (ys : List TypedNode) : Type 0 where
  pub inferred : AreInferred w s a (head n) (kids_of n) xs f
  pub hand : AreInHand f xs
  pub found : IsFound w s a (head n) xs f x
  pub flow : (l : Store) → IsLater s l → g ≡ flow_after (w l) a (head n) (map bare xs) f
  pub kids : ys ≡ coated_each xs (map option_in x.kids)
  pub node : m.node ≡ count f
  pub ty : m.ty ≡ x.ty
  pub own : m.coerce ≡ x.own
  pub meaning : (l : Store) → IsLater s l → m.meaning ≡ meaning_of (w l) (head n)
  pub value : (l : Store) → IsLater s l → m.value ≡ value_of (context_at w a n xs f l)
