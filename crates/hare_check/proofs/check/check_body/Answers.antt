use Rattle.std.proofs.Common.{rules, ◌≡◌, Some, nat_eq, sym, ◌∙◌, ap}
use Rattle.std.specs.Prelude.{find, option_copied}
use denote.Enum.Bare.{differs_false}
use Rattle.hare_tree.specs.declared.kind.Kind.TheVariants as ki
use Rattle.hare_tree.specs.contracts.kind.Kind.{the_type}
use Rattle.hare_tree.specs.Node.{head}
use Rattle.hare_check.specs.Answers.{over_body, before_body}
use Rattle.hare_check.proofs.Walks.Steps.{function-known}
use Rattle.hare_check.proofs.Walks.Values.{judged-trees, judged-answers, over-body, before-body}
use Rattle.hare_check.proofs.check.check_body.Goals as goal

pub check_by-requires-clause-ready : goal.check_by-requires-clause-ready
check_by-requires-clause-ready c =
    let s = c.args.s.now in
    let ds = c.args.env.now.decls.now in
    let d = c.in-Some.d.now in
    let kind : d.kind ≡ ki.Fn = differs_false the_type (search rules) _ _ (sym c.ne.ensures ∙ c.if-ne.false) in
    let found : find (λ e. nat_eq e.decl c.args.env.now.own) ds ≡ Some d = sym c.find.ensures ∙ ap option_copied c.in-Some.is in
    c.in_ok-w.ensures.walks s c.requires.known c.requires.decls (function-known s ds c.args.env.now.own d found kind c.requires.decls)
    (λ i t e. c.requires.known.params c.args.env.now.own i t d found e) (head c.args.body.now).kind

pub returns-clause-ok : goal.returns-clause-ok
returns-clause-ok c =
    let e = c.args.env.now in
    let t = c.args.body.now in
    let d = c.in-Some.d.now in
    let w = c.in_ok-w.w in
    let found : find (λ x. nat_eq x.decl e.own) e.decls.now ≡ Some d = sym c.find.ensures ∙ ap option_copied c.in-Some.is in
    judged-trees c.check_by.new.s t e.names.now w.names.now e.decls.now w.decls.now (λ l. over_body e) w.standing.above
    (before_body e t) w.seen c.check_by.result
    (λ l k. record {
      names = c.in_ok-w.ensures.names;
      decls = c.in_ok-w.ensures.decls;
      above = c.in_ok-w.ensures.above ∙ over-body e.decls.now e.own d found;
      flow = c.in_ok-w.ensures.seen ∙ before-body e.decls.now e.own d t found;
    })
    c.check_by.ensures.ok

pub returns-clause-err : goal.returns-clause-err
returns-clause-err c =
    let e = c.args.env.now in
    let t = c.args.body.now in
    let d = c.in-Some.d.now in
    let w = c.in_ok-w.w in
    let found : find (λ x. nat_eq x.decl e.own) e.decls.now ≡ Some d = sym c.find.ensures ∙ ap option_copied c.in-Some.is in
    judged-answers c.check_by.new.s t e.names.now w.names.now e.decls.now w.decls.now (λ l. over_body e) w.standing.above
    (before_body e t) w.seen c.check_by.result
    (λ l k. record {
      names = c.in_ok-w.ensures.names;
      decls = c.in_ok-w.ensures.decls;
      above = c.in_ok-w.ensures.above ∙ over-body e.decls.now e.own d found;
      flow = c.in_ok-w.ensures.seen ∙ before-body e.decls.now e.own d t found;
    })
    c.check_by.ensures.err
