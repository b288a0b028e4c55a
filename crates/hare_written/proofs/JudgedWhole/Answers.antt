-- What is said of a whole written type.
use Rattle.std.proofs.Common.{◌≡◌, ℕ, [], ◌∷◌, refl}
use Rattle.hare_tree.specs.declared.place.Fault.{Fault}
use Rattle.hare_tree.specs.declared.stop.Stop.{Stop}
use Rattle.hare_tree.specs.declared.stop.Stop.TheVariants.{Fault as Refused, Memory}
use Rattle.hare_tree.specs.Node.{Node}
use Rattle.hare_types.specs.Store.{Store}
use Rattle.hare_typed.specs.Typed.{TypedNode}
use Rattle.hare_typed.specs.Order.{check_order}
use Rattle.hare_rules.specs.Context.{Setting, Role}
use Rattle.hare_inference.specs.Inferred.{found, infer}
use Rattle.hare_inference.proofs.Decided.{exact}
use Rattle.hare_inference.proofs.Found.{finds}
use Rattle.hare_walk.specs.Walks.{IsStop}
use Rattle.hare_whole.specs.Declared.{over_type, before_type}
use Rattle.hare_written.specs.Judged.{IsJudged, IsStopped}
use Rattle.hare_written.specs.Nodes.{coercions_of, seen_of}
use Rattle.hare_written.specs.Trees.{HasFault, IsWrittenTree, IsWrittenStop}
use Rattle.hare_written.proofs.Fitting.Fits.{all-fit, fit-all, stand-all, first-large}

-- where inference stops there is the fault
stop-fault : (w : Store → Setting) (f : Store) (n : ℕ) (role : Role) (t : Node) (e : Fault) →
    IsStop (Refused e) (infer (w f) (over_type (w f) n role) t before_type) → HasFault w f n role t e
stop-fault w f n role t e (q, c, i, j) = (q, c, ((exact (w f) (over_type (w f) n role) before_type).fails t q c).1 i, j)

pub written-tree : (w : Store → Setting) (s : Store) (n : ℕ) (role : Role) (t : Node) (x : TypedNode) → IsJudged w s role t 0 x →
    IsWrittenTree w s n role t x
written-tree w s n role t x i = record {
  erases = i.erases;
  plain = i.plain;
  stands = stand-all s x i.stands;
  fits = fit-all s x i.fits;
  carries = λ f l k.
      let a = over_type (w f) n role in
      (finds (w f) a t before_type (found x (seen_of (coercions_of (check_order x))))
      (i.infers f l (all-fit f x k) a [] refl refl)).carries;
  large = λ f k y l h. stop-fault w f n role t _ (i.large f y l (first-large f x k y h) (over_type (w f) n role) [] refl refl);
}

pub written-stop : (w : Store → Setting) (s : Store) (n : ℕ) (role : Role) (t : Node) (e : Stop Fault) → IsStopped w s role t 0 e →
    IsWrittenStop w s n role t e
written-stop w s n role t Memory i = tt
written-stop w s n role t (Refused e) i = λ f l m. stop-fault w f n role t e (i f l m (over_type (w f) n role) [] refl refl)
