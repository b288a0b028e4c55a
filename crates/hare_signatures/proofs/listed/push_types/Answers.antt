use Rattle.std.proofs.Common.{◌≡◌, ◌∙◌, map, sym, ap}
use Rattle.hare_tree.specs.declared.kind.Kind.TheVariants as ki
use Rattle.hare_tree.specs.Node.{head}
use Rattle.hare_modules.specs.Uses.{kids}
use Rattle.hare_modules.proofs.Trees.{kids-seen}
use Rattle.hare_signatures.specs.Listed.{written_of}
use Rattle.hare_signatures.proofs.ListLemmas.{types-of_function}
use Rattle.hare_signatures.proofs.listed.push_types.Goals as goal

pub returns-in_ok-push_one-in-Fn : goal.returns-in_ok-push_one-in-Fn
returns-in_ok-push_one-in-Fn c =
    let t = c.args.decl.now in
    let kind : (head t).kind ≡ ki.Fn = sym (ap (λ u. (head u).kind) c.decl.view_is) ∙ c.in-Fn.is in
    let params = ap kids (sym c.kid-tree.ensures) ∙ kids-seen _ _ _ c.tree.view_is in
    let old = map written_of c.args.written.now.items in
    let done = map written_of c.push_params.new.written.items in
    let new = map written_of c.push_one-in-Fn.new.written.items in
    types-of_function t c.kid.result.now c.tree.inside.kids old done new kind params c.kid.ensures c.in_ok-push_params-in-Fn.ensures
    c.in_ok-push_one-in-Fn.ensures
