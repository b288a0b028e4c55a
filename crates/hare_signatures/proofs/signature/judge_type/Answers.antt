use Rattle.std.proofs.Common.{rules, ◌≡◌, true}
use Rattle.rule_types.specs.Contexts.{role_of}
use Rattle.hare_signatures.proofs.TypeLemmas.{type-of}
use Rattle.hare_signatures.proofs.signature.judge_type.Goals as goal

pub returns-clause-ok : goal.returns-clause-ok
returns-clause-ok c =
    let e = c.args.env.now in
    let yes : c.is_readable.result ≡ true = search (rules, c.if-not-is_readable.false) in
    type-of e.names.now e.files.now e.known.now c.judge_written-judged.new.s e.own (role_of c.args.bound, c.args.t.now) c.in_ok-typed.typed
    c.in_ok-typed.ensures.ok (c.is_readable.ensures.value yes)
