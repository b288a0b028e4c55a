-- When a value can be judged by what is ready.
use Rattle.std.proofs.Common.{◌≡◌, List, Bool, true, refl}
use Rattle.std.specs.Prelude.{IsTrue, Result, Ok, Err, IfOk}
use Rattle.hare_tree.specs.declared.kind.Kind.{Kind}
use Rattle.hare_tree.specs.declared.kind.Kind.TheVariants as ki
use Rattle.hare_tree.specs.declared.place.Place.{Place}
use Rattle.hare_tree.specs.declared.token.Meaning.{Meaning}
use Rattle.hare_tree.specs.declared.tree.FileTree.{FileTree}
use Rattle.hare_tree.specs.Node.{Node}
use Rattle.hare_types.specs.Store.{Store}
use Rattle.hare_rules.specs.declared.declared.DeclType.{DeclType}
use Rattle.hare_rules.specs.declared.hint.Hint.{Hint}
use Rattle.hare_rules.specs.Aggregates.{is_path}
use Rattle.hare_rules.specs.Flow.{is_path_kind}
use Rattle.hare_rules.specs.Words.{nomem}
use Rattle.hare_ready.specs.Ready.{AreReady}
use Rattle.hare_readable.specs.Taken.{AreEnough}
use Rattle.hare_steps.specs.Plans.{listing}
use Rattle.hare_turns.specs.Stages.{AreReadable}
use Rattle.rule_judge.specs.Defined.{IsDefinedHint, IsDefinedName}
use Rattle.hare_values.specs.Judging.{CanJudge}
use Rattle.hare_values.proofs.ReadyToJudge.Ready.{known-ready, decls-ready}

-- a path of an expression is a path
path-kind : (k : Kind) → is_path k ≡ true → is_path_kind k ≡ true
path-kind ki.Path e = refl
path-kind _ e = absurd cc

pub can-judge-ok : {E : Type 0} (names : List (Place × Meaning)) (files : List FileTree) (known ready : List DeclType) (s : Store)
    (h : Hint) (t : Node) (r : Result Bool E) → AreReadable (listing names files) known t → AreEnough names known ready t →
    IsDefinedName s nomem → AreReady s ready → IfOk r (λ b. IsTrue b → IsDefinedHint s h) →
    IfOk r (λ b. IsTrue b → CanJudge (listing names files) known ready s h t)
can-judge-ok names files known ready s h t (Ok b) says enough named all k = λ e. record {
  readable = says;
  enough = λ x n c i m. enough x n c (path-kind x.kind i) m;
  known = known-ready s ready named all;
  decls = decls-ready s ready all;
  hint = k e;
}
can-judge-ok names files known ready s h t (Err q) says enough named all k = tt
