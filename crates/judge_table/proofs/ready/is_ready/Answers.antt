use Rattle.std.proofs.Common.{◌≡◌, rules, ap, ◌∙◌, IsTrue}
use Rattle.hare_tree.specs.Node.{head}
use Rattle.hare_judge.specs.Kinds.{has_cases}
use Rattle.rule_judge.specs.Turns.{kind_in}
use Rattle.judge_table.proofs.ReadyLemmas.{trees-defined, yields-defined, behind-typed, kids-erase}
use Rattle.judge_table.proofs.ready.is_ready.Goals as goal

pub returns-clause-ready : goal.returns-clause-ready
returns-clause-ready c =
    λ yes.
    let t = c.args.t.now in
    let s = c.args.s.now in
    let told = c.in_ok-are_defined.ensures yes in
    let formed : IsTrue c.is_formed.result = search rules in
    let kind : c.node.inside.kind ≡ kind_in t = ap (λ n. (head n).kind) c.node.view_is in
    record {
      turn = record {
        shaped = c.requires.shaped;
        kids = kids-erase t.kids.now _ c.requires.kids;
        types = trees-defined s t.kids.now told.kids;
        hint = told.hint;
        yields = yields-defined s t.case.now.yields told.yields;
      };
      ready = record {
        nomem = told.nomem;
        meant = told.meant;
        result = told.result;
        typed = c.is_formed.ensures.typed formed;
        cases = λ h. behind-typed t.kids.now (c.is_formed.ensures.cases formed (ap has_cases kind ∙ h));
      };
    }
