use Rattle.std.proofs.Common.{refl, sym, ◌∙◌}
use Rattle.hare_tree.specs.Node.{head}
use Rattle.hare_written.specs.Program.{program_of}
use Rattle.hare_written.proofs.PartOfType.Found.{other-found, length-found}
use Rattle.hare_written.proofs.PartOfType.Kinds.{counted-path}
use Rattle.hare_written.proofs.PartOfType.Known.{length-shaped}
use Rattle.hare_written.proofs.lengths.find_counted.Goals as goal

pub returns-then-means_other-clause-ok : goal.returns-then-means_other-clause-ok
returns-then-means_other-clause-ok c =
    let env = c.args.env.now in
    let h = head c.args.node.now in
    let m = c.own_meaning-meaning.result in
    let path = c.means_other.ensures.path c.if-means_other.true in
    let w = program_of env c.args.s.now in
    let kind = counted-path w h h.kind path.0 refl c.requires.kind (sym (c.own_meaning-meaning.ensures w refl) ∙ path.1) in
    other-found env.names.now env.decls.now c.word.new.s h c.args.kids.now c.requires.kids.1.judged.plain m c.in_ok-void.void kind
    (λ f. c.own_meaning-meaning.ensures (program_of env f) refl)
    (λ f. c.means_other.ensures.other c.if-means_other.true (program_of env f) refl)
    c.in_ok-void.ensures.defined c.in_ok-void.ensures.id

pub returns-clause-ok : goal.returns-clause-ok
returns-clause-ok c =
    let env = c.args.env.now in
    length-found env.names.now env.decls.now c.find_length.new.s (head c.args.node.now) c.args.kids.now c.requires.kids.1.judged.plain
    c.in_ok-found.found
    c.in_ok-found.ensures.defined c.own_meaning-meaning.result c.requires.kind (λ f. c.own_meaning-meaning.ensures (program_of env f) refl)
    c.in_ok-found.ensures.ok
