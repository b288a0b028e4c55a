use Rattle.std.proofs.Common.{refl, ap, sym, ◌∙◌}
use Rattle.hare_tree.specs.Node.{head}
use Rattle.hare_typed.specs.Typed.{Mark, marked, typed_nodes}
use Rattle.hare_rules.specs.Flow.{context}
use Rattle.hare_rules.specs.Settles.{same}
use Rattle.hare_written.specs.Nodes.{seen_of}
use Rattle.hare_written.specs.Program.{program_of}
use Rattle.hare_written.proofs.PartOfType.Kinds.{written-meaning, role-length}
use Rattle.hare_written.proofs.PartOfType.Turn.{turned}
use Rattle.hare_written.proofs.turn.turn.Goals as goal

pub returns-clause-ok : goal.returns-clause-ok
returns-clause-ok c =
    let env = c.args.env.now in
    let w = program_of env in
    let h = head c.args.node.now in
    let xs = c.args.kids in
    let ty = c.in_ok-ty.ty in
    let l = c.own_meaning-meaning.result in
    let v = c.in_ok-value.value in
    let m : Mark = record { node = c.args.number; ty = ty; coerce = same ty; meaning = l; value = v } in
    let found = c.in_ok-ty.ensures.ok in (
      m,
      c.in_ok-tree.ensures ∙ ap (λ k. marked h k (typed_nodes xs)) c.found-found.ensures,
      turned w c.find.new.s c.args.role h xs c.args.number ty l v found (λ f. c.own_meaning-meaning.ensures (w f) refl)
          (λ f a cs.
          c.in_ok-value.ensures (context (w f) a h xs (seen_of cs)) refl refl
          (λ k. written-meaning h.kind found.kind (w f) h xs ∙ sym (c.own_meaning-meaning.ensures (w f) refl)))
          c.in_ok-ty.ensures.known (λ e. c.in_ok-ty.ensures.length (role-length c.args.role e)),
    )
