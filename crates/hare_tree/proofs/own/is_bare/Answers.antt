use Rattle.std.proofs.Common.{◌≡◌, ◌≢◌, ℕ, zero, suc, true, false, length, refl, sym, ◌∙◌, arith}
use Rattle.std.specs.Prelude.{◌==◌}
use Rattle.hare_tree.proofs.Spelling.Owned.{leaf-kids}
use Rattle.hare_tree.proofs.own.is_bare.Goals as goal

is-false : (n : ℕ) → n ≢ 0 → (n == 0) ≡ false
is-false zero e = absurd (e refl)
is-false (suc n) e = grind arith

pub returns-else-len-eq0 : goal.returns-else-len-eq0
returns-else-len-eq0 c =
    let some : length c.t.inside.kids ≢ 0 = λ e. c.if-len-eq0.false (c.len.ensures ∙ e) in
    is-false c.len.result c.if-len-eq0.false ∙ sym (leaf-kids (λ k. true) _ c.t.inside.kids c.args.t.now c.t.view_is some)
