-- Over one store the phases behind names have one first fault, and none where none of them finds one.
use Rattle.std.proofs.Common.{◌≡◌, ℕ, List, map, Some, sym, ◌∙◌, subst}
use Rattle.hare_tree.specs.declared.place.Fault.{Fault}
use Rattle.hare_types.specs.Store.{Store}
use Rattle.hare_typed.specs.Typed.{TypedNode}
use Rattle.hare_typed.specs.Erased.{erase}
use Rattle.hare_depends.specs.Circles.{CircleFaultsAreOne, IsCircleFault}
use Rattle.hare_depends.specs.Order.{OrdersAreOne, OrdersHaveNoCircles}
use Rattle.hare_whole.specs.Listing.{Listing, saids}
use Rattle.hare_whole.specs.Judged.{AreTyped}
use Rattle.hare_whole.specs.Limits.{IsEntry, IsLimitFault}
use Rattle.hare_whole.specs.Turns.{Stage, AreJudged, IsDeclarationFault}
use Rattle.hare_limits.proofs.LimitsPassed.Within.{limits-sound}
use Rattle.hare_whole.specs.Judged.{AreFaultless, IsFaultOfPhases, of_circles, of_declarations, of_bodies, of_limits}
use Rattle.hare_sole.specs.Checked.{AreChecked, PhaseFaultsAreOne, CheckedOrFaulty, LimitsAreLeft, TypedTreesAreOne}
use Rattle.hare_sole.proofs.OneFault.Steps.{Inference}
use Rattle.hare_sole.proofs.OneFault.Course.{declaration-once, declaration-or-judged}
use Rattle.hare_sole.proofs.OneFault.Bodies.{body-once, body-or-faultless}
use Rattle.hare_sole.proofs.OneFault.Limits.{limit-once}
use Rattle.hare_sole.proofs.OneTree.Parts.{Trees}
use Rattle.hare_sole.proofs.OneProgram.Order.{typed-once}

-- what the laws of circles and orders say
pub record Orders : Type 0 where
  pub circle : CircleFaultsAreOne
  pub order : OrdersAreOne
  pub circles : OrdersHaveNoCircles

pub trees_are_one : Trees → TypedTreesAreOne
trees_are_one l p s order ds es o h j = typed-once l p s ds es h j order o

-- ---- the phases behind names

module _ (k : Inference) (l : Trees) (o : Orders) (paths : List (List ℕ)) (p : Listing) (s : Store) where
  circle-or-judged : (g : Stage) (f : Fault) → AreJudged p s g → IsCircleFault (saids p) f → ⊥
  circle-or-judged g f h j = o.circles (saids p) h.all.order j.decl h.all.is_order j.circular

  circle-or-declaration : (f e : Fault) → IsCircleFault (saids p) f → IsDeclarationFault p s e → ⊥
  circle-or-declaration f e h j = o.circles (saids p) j.all.order h.decl j.all.is_order h.circular

  faultless-trees : (ds es : List TypedNode) → AreFaultless p s → AreTyped p s ds → AreTyped p s es → ds ≡ es
  faultless-trees ds es a h j = trees_are_one l p s a.judged.all.order ds es a.judged.all.is_order h j

  pub phase-once : (f g : Fault) → IsFaultOfPhases paths p s f → IsFaultOfPhases paths p s g → f ≡ g
  phase-once f g (of_circles h) (of_circles j) = o.circle (saids p) f g h j
  phase-once f g (of_circles h) (of_declarations i j) = absurd (circle-or-declaration f g h j)
  phase-once f g (of_circles h) (of_bodies i j) = absurd (circle-or-judged j.stage f j.judged h)
  phase-once f g (of_circles h) (of_limits ds i a t j) = absurd (circle-or-judged a.stage f a.judged h)
  phase-once f g (of_declarations i h) (of_circles j) = absurd (circle-or-declaration g f j h)
  phase-once f g (of_declarations i h) (of_declarations q j) = declaration-once k o.order p s f g h j
  phase-once f g (of_declarations i h) (of_bodies q j) = absurd (declaration-or-judged k o.order p s j.stage f j.judged h)
  phase-once f g (of_declarations i h) (of_limits ds q a t j) = absurd (declaration-or-judged k o.order p s a.stage f a.judged h)
  phase-once f g (of_bodies i h) (of_circles j) = absurd (circle-or-judged h.stage g h.judged j)
  phase-once f g (of_bodies i h) (of_declarations q j) = absurd (declaration-or-judged k o.order p s h.stage g h.judged j)
  phase-once f g (of_bodies i h) (of_bodies q j) = body-once k o.order p s f g h j
  phase-once f g (of_bodies i h) (of_limits ds q a t j) = absurd (body-or-faultless k o.order p s f a h)
  phase-once f g (of_limits ds i a t h) (of_circles j) = absurd (circle-or-judged a.stage g a.judged j)
  phase-once f g (of_limits ds i a t h) (of_declarations q j) = absurd (declaration-or-judged k o.order p s a.stage g a.judged j)
  phase-once f g (of_limits ds i a t h) (of_bodies q j) = absurd (body-or-faultless k o.order p s g a j)
  phase-once f g (of_limits ds i a t h) (of_limits es q b u j) =
      limit-once paths s es f g (subst (λ (xs : List TypedNode). IsLimitFault paths s xs f) (faultless-trees ds es a t u) h) j

  pub limits-left : (ds : List TypedNode) (f : Fault) → AreFaultless p s → AreTyped p s ds → IsFaultOfPhases paths p s f →
      IsLimitFault paths s ds f
  limits-left ds f a t (of_circles h) = absurd (circle-or-judged a.stage f a.judged h)
  limits-left ds f a t (of_declarations i h) = absurd (declaration-or-judged k o.order p s a.stage f a.judged h)
  limits-left ds f a t (of_bodies i h) = absurd (body-or-faultless k o.order p s f a h)
  limits-left ds f a t (of_limits es i b u h) = subst (λ (xs : List TypedNode). IsLimitFault paths s xs f) (faultless-trees es ds a u t) h

  pub checked-or-phase : (ds : List TypedNode) (entry : ℕ) (f : Fault) → AreChecked paths p s ds entry → ¬ IsFaultOfPhases paths p s f
  checked-or-phase ds entry f c h = limits-sound paths s ds entry f c.limits (limits-left ds f c.faultless c.typed h)

  same-entry : (n m : ℕ) (xs : List TypedNode) → IsEntry paths (map erase xs) n → IsEntry paths (map erase xs) m → n ≡ m
  same-entry n m xs h j = let both : Some n ≡ Some m = sym h.main ∙ j.main in cc

  pub checked-once : (ds es : List TypedNode) (n m : ℕ) → AreChecked paths p s ds n → AreChecked paths p s es m → (es ≡ ds) × (m ≡ n)
  checked-once ds es n m c d =
      let same : es ≡ ds = faultless-trees es ds c.faultless d.typed c.typed in
      (same, same-entry m n ds (subst (λ (xs : List TypedNode). IsEntry paths (map erase xs) m) same d.limits.entry_is) c.limits.entry_is)

pub phase_faults_are_one : Inference → Trees → Orders → PhaseFaultsAreOne
phase_faults_are_one k l o paths p s f g h j = phase-once k l o paths p s f g h j

pub checked_or_faulty : Inference → Trees → Orders → CheckedOrFaulty
checked_or_faulty k l o paths p s ds entry f c h = checked-or-phase k l o paths p s ds entry f c h

pub limits_are_left : Inference → Trees → Orders → LimitsAreLeft
limits_are_left k l o paths p s ds f a t h = limits-left k l o paths p s ds f a t h
