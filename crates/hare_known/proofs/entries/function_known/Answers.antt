use Rattle.std.proofs.Common.{List, false, ap, ◌∙◌, ℕ, arith}
use Rattle.hare_tree.specs.declared.kind.Kind.TheVariants as ki
use Rattle.hare_typed.specs.declared.constant.Const.TheVariants as constant
use Rattle.hare_rules.specs.Aggregates.{but_last}
use Rattle.std.specs.Prelude.{map}
use Rattle.hare_whole.specs.Parts.{written_id, known_as}
use Rattle.hare_known.proofs.OneMore.WrittenTypes.{written-last}
use Rattle.hare_known.proofs.entries.function_known.Goals as goal

pub returns : goal.returns
returns c =
    let ts = c.args.types.now in
    let ty = written-last ts c.in_ok-ty.ty c.saturating_sub.result (omega arith) c.in_ok-ty.ensures in
    ap (λ (us : List ℕ). known_as c.args.own ki.Fn c.in_ok-ty.ty us false constant.Absent) c.in_ok-params.ensures
    ∙ ap (λ (u : ℕ). known_as c.args.own ki.Fn u (map written_id (but_last ts)) false constant.Absent) ty
