-- What holds of the trees under way within a step is kept where a tree without nodes is let go or lifted.
use Rattle.std.proofs.Common.{◌≡◌, ℕ, List, [], ◌∷◌, ◌++◌, Bool, true, false, ◌==◌, map, refl, ap, ◌∙◌, arith}
use Rattle.std.specs.Prelude.{nat_le}
use Rattle.std.proofs.lemmas.List.{map-append}
use Rattle.std.proofs.lemmas.List.Folds.{list_all-append}
use Rattle.hare_tree.specs.Node.{Node}
use Rattle.hare_automaton.specs.Engine.{Group, lift}
use Rattle.hare_automaton.proofs.Spelled.Paths.{split}
use Rattle.hare_nesting.specs.Marks.{Mark, Frame}
use Rattle.hare_nesting.proofs.UnderWay.Stacks.{mark, frames, is_empty, idle}
use Rattle.hare_nesting.proofs.UnderWay.Seen.{frames_lift}
use Rattle.hare_nesting.proofs.UnderWay.Below.{drop_below, lift_below}
use Rattle.hare_nesting.proofs.UnderWay.Orders.{drop_ordered, lifted_ordered}
use Rattle.hare_nesting.proofs.Steps.Stands.{at_most, Stands}

pub empty_idle : (ms : List Mark) → is_empty ms ≡ true → idle ms ≡ true
empty_idle [] e = refl
empty_idle (m ∷ ms) e = cc

-- a tree without nodes more
pub idle_put : (ts : List Node) (t : Node) → idle (map mark ts) ≡ true → ((mark t).height == 0) ≡ true →
    idle (map mark (ts ++ t ∷ [])) ≡ true
idle_put ts t i e = ap idle (map-append mark ts (t ∷ [])) ∙ list_all-append (λ m. m.height == 0) (map mark ts) (mark t ∷ []) ∙
    (rw (i, e) refl)

pub drop_stands : (n m : ℕ) (bs : List Bool) (f : Frame) (fs : List Frame) → Stands n m (false ∷ bs) (f ∷ fs) → Stands n m bs fs
drop_stands n m bs f fs s = record {
  fitting = omega (arith, s.fitting);
  ordered = drop_ordered (f ∷ fs) s.ordered;
  below = drop_below m
      (f ∷ fs) s.below;
  placed = (split (nat_le f.at n) (at_most n fs) s.placed).1;
}

pub lift_stands : (n m : ℕ) (bs : List Bool) (g h : Group) (hs : List Group) → idle (map mark g.kids) ≡ true →
    Stands n m (false ∷ bs) (frames (g ∷ h ∷ hs)) → Stands n m bs (frames (lift (g ∷ h ∷ hs)))
lift_stands n m bs g h hs i s =
    let e = frames_lift (g ∷ h ∷ hs) in
    record {
      fitting = omega (arith, s.fitting);
      ordered = lifted_ordered g h hs i s.ordered;
      below = (rw e (lift_below m (frames (g ∷ h ∷ hs)) s.below));
      placed = (split (nat_le g.place.line n) (at_most n (frames (h ∷ hs))) s.placed).1;
    }
