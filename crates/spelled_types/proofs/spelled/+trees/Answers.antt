-- The types of the parts stay in the store as the types of later parts are taken in.
use Rattle.std.proofs.Common.{◌≡◌, length, ap, sym, ◌∙◌, subst, arith}
use Rattle.hare_types.specs.Rows.{AllBelow}
use Rattle.hare_types.proofs.TreeLemmas.{AllBelow-le}
use Rattle.spelled_types.proofs.BelowLemmas.{AllBelow-push}
use Rattle.spelled_types.proofs.spelled.+trees.Goals as goal
use Rattle.spelled_types.proofs.spelled.+trees.Goals.{types_of-in-Some+then-bears_type+in_ok-t+in_ok-push, types_of-in-Some+else-bears_type, types_of-in_default}

pub types_of-loop-i-preserved : goal.types_of-loop-i-preserved
types_of-loop-i-preserved t c =
    let n = length c.match-get.table.store.rows in
    elim c.match-get.branch [
      | types_of-in-Some+then-bears_type+in_ok-t+in_ok-push w ↦
          let same : n ≡ length w.type_of.new.table.store.rows = ap (λ a. length a.store.rows) w.table-is in
          record {
            grows = omega (arith, same, c.loop-i.invariant.grows, w.in_ok-t.ensures.grows);
            below = subst (λ is. AllBelow n is) (sym (w.types-is ∙ w.in_ok-push.ensures.ok))
                (AllBelow-push n c.loop-i.types w.in_ok-t.t
                (AllBelow-le (length c.loop-i.table.store.rows) n (omega (arith, same, w.in_ok-t.ensures.grows)) c.loop-i.types
                c.loop-i.invariant.below)
                (omega (arith, same, w.in_ok-t.ensures.within)));
          }
      | types_of-in-Some+else-bears_type w ↦
          let same : n ≡ length c.loop-i.table.store.rows = ap (λ a. length a.store.rows) w.table-is in
          record {
            grows = omega (arith, same, c.loop-i.invariant.grows);
            below = subst (λ is. AllBelow n is) (sym w.types-is)
                (subst (λ m. AllBelow m c.loop-i.types) (sym same) c.loop-i.invariant.below);
          }
      | types_of-in_default w ↦
          let same : n ≡ length c.loop-i.table.store.rows = ap (λ a. length a.store.rows) w.table-is in
          record {
            grows = omega (arith, same, c.loop-i.invariant.grows);
            below = subst (λ is. AllBelow n is) (sym w.types-is)
                (subst (λ m. AllBelow m c.loop-i.types) (sym same) c.loop-i.invariant.below);
          }
    ]
