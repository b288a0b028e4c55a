-- What a judge finds of the node at hand.
use Rattle.std.proofs.Common.{◌≡◌, true, List, length, map, refl, sym, Result, Ok, Err}
use Rattle.std.specs.Prelude.{IfOk, IfErr}
use Rattle.hare_tree.specs.declared.kind.Kind.TheVariants as ki
use Rattle.hare_tree.specs.declared.place.Fault.{Fault}
use Rattle.hare_tree.specs.declared.stop.Stop.{Stop}
use Rattle.hare_tree.specs.Node.{head}
use Rattle.hare_types.specs.Store.{Store}
use Rattle.hare_types.specs.Sound.{IsStore}
use Rattle.hare_types.specs.Later.{IsLater}
use Rattle.hare_types.proofs.LaterLemmas.{later_here}
use Rattle.hare_rules.specs.Context.{Setting, Given}
use Rattle.hare_rules.specs.Above.{Above}
use Rattle.hare_rules.specs.Flow.{Flow}
use Rattle.hare_told.specs.Told.{has_judge}
use Rattle.hare_walk.specs.Walks.{IsTurnedBack}
use Rattle.rule_judge.specs.declared.turn.Turn.{Turn}
use Rattle.rule_judge.specs.Turns.{kind_in}
use Rattle.hare_judge.specs.Kinds.{is_judged_kind}
use Rattle.hare_find.specs.declared.finding.Finding.{Finding}
use Rattle.hare_find.specs.Findings.{IsAtTurn, IsFound, IsFoundAt, IsDefinedFinding}
use Rattle.hare_find.specs.Looked.{MeansInside}
use Rattle.hare_find.specs.Settling.{option_in}
use Rattle.hare_find.proofs.YieldsSeen.Meant.{met_inside}
use Rattle.hare_check.specs.declared.walker.Walker.{Walker}
use Rattle.hare_check.specs.Keeps.{AreKeptTrees}
use Rattle.hare_check.specs.Nodes.{program_of, above_of, IsTakenAt, IsFindingOf, IsStopOf, kids_behind}
use Rattle.hare_check.specs.Turned.{context_at}
use Rattle.hare_check.proofs.FoundOfNode.Finding.{IsFoundOf, type-found, own-found}
use Rattle.hare_check.proofs.Kept.Judged.{kept-judged}

-- The turn of the node at hand has come, in a store in which its kids are kept; what it hands on is taken, where it means a block or a
-- case.
pub record IsJudgedAt (r : Store) (w : Walker) (t : Turn) (gs : List Given) : Type 0 where
  pub sound : IsStore r
  pub kind : is_judged_kind (kind_in t) ≡ true
  pub role : has_judge (above_of w).inside.role ≡ true
  pub kept : AreKeptTrees r t.kids.now
  pub hand : t.kids.now ≡ (context_at (program_of w) (above_of w) t.node.now t.kids.now w.seen r).kids
  pub turn : IsAtTurn (program_of w) r (above_of w) w.seen t gs
  pub void :
      kind_in t ≡ ki.Yield → (l : Store) → IsLater r l →
      MeansInside (context_at (program_of w) (above_of w) t.node.now t.kids.now w.seen l) →
      IsTakenAt r w t.node.now t.kids.now

judged-finding : (r : Store) (w : Walker) (t : Turn) (gs : List Given) (x : Finding) → IsJudgedAt r w t gs →
    IsFoundOf r w t.node.now t.kids.now x → IsFindingOf r w t.node.now t.kids.now x
judged-finding r w t gs x q f =
    let l = later_here r q.sound in
    let c = context_at (program_of w) (above_of w) t.node.now t.kids.now w.seen r in
    let k : IsFoundAt c t.kids.now w.seen.coercions x = f.found r l in
    record {
      found = f.found;
      many = f.many;
      defined = f.defined;
      void = λ e. q.void e r l (met_inside c e q.role k.failing);
      kept = λ m p o d.
          kept-judged r c (head t.node.now) m t.kids.now (kids_behind t.kids.now x)
          (record {
            kind = q.kind;
            role = q.role;
            head = refl;
            kids = sym q.hand;
            kept = q.kept;
            type = type-found r w t.node.now t.kids.now x m q.sound f p;
            own = own-found r w t.node.now t.kids.now x m q.sound f p o;
            settled = (map option_in x.kids, refl);
            types = d;
          });
    }

pub judged-answer : (r : Store) (w : Walker) (t : Turn) (gs : List Given) (q : Result Finding (Stop Fault)) → IsJudgedAt r w t gs →
    IfOk q (λ x. (v : Store → Setting) (a : Above) (f : Flow) → IsAtTurn v r a f t gs → IsFound v r a (head t.node.now) t.kids.now f x) →
    IfOk q (λ x. length x.kids ≡ length t.kids.now) → IfOk q (λ x. IsDefinedFinding r x) →
    IfOk q (λ x. IsFindingOf r w t.node.now t.kids.now x)
judged-answer r w t gs (Err e) k f m d = tt
judged-answer r w t gs (Ok x) k f m d =
    judged-finding r w t gs x k (record { found = f (program_of w) (above_of w) w.seen k.turn; many = m; defined = d })

pub judged-stop : (r : Store) (w : Walker) (t : Turn) (gs : List Given) (q : Result Finding (Stop Fault)) →
    IsAtTurn (program_of w) r (above_of w) w.seen t gs →
    IfErr q (λ e. (v : Store → Setting) (a : Above) (f : Flow) → IsAtTurn v r a f t gs →
    IsTurnedBack v r a (head t.node.now) t.kids.now f e) →
    IfErr q (λ e. IsStopOf r w t.node.now t.kids.now e)
judged-stop r w t gs (Ok x) k f = tt
judged-stop r w t gs (Err e) k f = f (program_of w) (above_of w) w.seen k
