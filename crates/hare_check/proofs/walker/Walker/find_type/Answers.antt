use Rattle.std.proofs.Common.{map, refl}
use Rattle.hare_tree.specs.declared.place.Fault.{Fault}
use Rattle.hare_tree.specs.declared.stop.Stop.{Stop}
use Rattle.hare_rules.specs.Context.{Setting}
use Rattle.hare_rules.specs.Above.{Above}
use Rattle.hare_rules.specs.Finished.{bare}
use Rattle.hare_rules.specs.Flow.{Flow}
use Rattle.hare_types.specs.Store.{Store}
use Rattle.hare_walk.specs.Walks.{IsTurnedBack}
use Rattle.rule_types.specs.declared.written.Written.{Written}
use Rattle.rule_types.specs.Contexts.{head_in}
use Rattle.hare_find.specs.declared.finding.Finding.{Finding}
use Rattle.hare_find.specs.Findings.{IsFound}
use Rattle.hare_find.specs.Written.{IsAtType}
use Rattle.hare_check.specs.Nodes.{program_of, above_of, IsStopOf}
use Rattle.hare_check.proofs.FoundOfNode.Finding.{type-answer}
use Rattle.hare_check.proofs.FoundOfNode.Answers.{ok-map, err-map}
use Rattle.hare_check.proofs.NodeAtHand.Types.{told-type, defined-type}
use Rattle.hare_check.proofs.walker.Walker.find_type.Goals as goal

pub find_written-requires-clause-told : goal.find_written-requires-clause-told
find_written-requires-clause-told c =
    let s = c.args.s.now in
    let w = c.requires.node.walks.1 in
    told-type s c.args.self.now _ c.requires.node c.requires.kind
    (λ k. c.means_type.ensures.meant c.if-not-means_type.false k s c.declarations-law.ensures.sound w.known w.decls)

pub find_written-requires-clause-names : goal.find_written-requires-clause-names
find_written-requires-clause-names c =
    let s = c.args.s.now in
    let w = c.requires.node.walks.1 in
    let v : Setting = program_of c.args.self.now s in
    defined-type s c.args.self.now v _ (map bare c.args.kids.now) c.requires.node c.requires.kind (c.path_meaning-meaning.ensures v refl)
    (λ k. c.means_type.ensures.defined c.if-not-means_type.false k s w.known w.decls)

pub returns-clause-ok : goal.returns-clause-ok
returns-clause-ok c =
    let w = c.args.self.now in
    let r = c.find_written.new.s in
    let t : Written =
    record {
      decls = c.args.self.now.decls;
      meaning = c.path_meaning-meaning.result;
      bound = c.args.bound;
      node = c.args.node;
      kids =
          c.args.kids;
    } in
    let at : IsAtType (program_of w) r (above_of w) w.seen t =
    record {
      store = λ l. refl;
      decls = λ l. refl;
      hand = c.requires.node.hand;
      role = c.requires.role;
      meaning = λ l d. c.path_meaning-meaning.ensures (program_of w l) refl;
    } in
    let found =
    ok-map (λ (x : Finding). (v : Store → Setting) (a : Above) (f : Flow) → IsAtType v r a f t → IsFound v r a (head_in t) t.kids.now f x)
    (λ (x : Finding). IsFound (program_of w) r (above_of w) (head_in t) t.kids.now w.seen x) c.find_written.result c.find_written.ensures.ok
    (λ x f. f (program_of w) (above_of w) w.seen at) in
    type-answer r w c.args.node.now c.args.kids.now c.find_written.result c.requires.kind found c.find_written.ensures.many
    c.find_written.ensures.typed c.find_written.ensures.known c.find_written.ensures.defined

pub returns-clause-err : goal.returns-clause-err
returns-clause-err c =
    let w = c.args.self.now in
    let r = c.find_written.new.s in
    let t : Written =
    record {
      decls = c.args.self.now.decls;
      meaning = c.path_meaning-meaning.result;
      bound = c.args.bound;
      node = c.args.node;
      kids =
          c.args.kids;
    } in
    let at : IsAtType (program_of w) r (above_of w) w.seen t =
    record {
      store = λ l. refl;
      decls = λ l. refl;
      hand = c.requires.node.hand;
      role = c.requires.role;
      meaning = λ l d. c.path_meaning-meaning.ensures (program_of w l) refl;
    } in
    err-map (λ (e : Stop Fault). (v : Store → Setting) (a : Above) (f : Flow) → IsAtType v r a f t →
    IsTurnedBack v r a (head_in t) t.kids.now f e)
    (λ (e : Stop Fault). IsStopOf r w c.args.node.now c.args.kids.now e) c.find_written.result c.find_written.ensures.err
    (λ e f. f (program_of w) (above_of w) w.seen at)
