use Rattle.std.proofs.Common.{◌≡◌, map, None, ap, sym, ◌∙◌}
use Rattle.hare_typed.specs.Typed.{TypedNode}
use Rattle.hare_typed.specs.Erased.{erase}
use Rattle.hare_modules.specs.Order.{fault}
use Rattle.hare_modules.specs.Uses.{place_of}
use Rattle.hare_whole.specs.Limits.{main_of, no_main, odd_main}
use Rattle.hare_limits.proofs.EntryFound.Kids.{erased-there}
use Rattle.hare_limits.proofs.EntryFound.Home.{main-same}
use Rattle.hare_limits.proofs.entries.entry.Goals as goal

pub returns-in_default-clause-err : goal.returns-in_default-clause-err
returns-in_default-clause-err c =
    let same = main-same c.args.paths.now c.in_ok-homes.homes.first.items c.in_ok-homes.homes.kept.items (map erase c.args.decls.now)
    c.in_ok-homes.ensures in
    let none : main_of c.args.paths.now (map erase c.args.decls.now) ≡ None = sym same ∙ sym c.main_among.ensures ∙ c.in_default.is in
    no_main none c.bad_entry.ensures

pub returns-then-is_entry_shaped-clause-ok : goal.returns-then-is_entry_shaped-clause-ok
returns-then-is_entry_shaped-clause-ok c =
    let same = main-same c.args.paths.now c.in_ok-homes.homes.first.items c.in_ok-homes.homes.kept.items (map erase c.args.decls.now)
    c.in_ok-homes.ensures in
    record {
      main = sym same ∙ sym c.in-Some.ensures;
      tree = erase c.in-Some-get.decl.now;
      is_there = erased-there c.args.decls.now c.in-Some.number c.in-Some-get.decl.now c.in-Some-get.ensures.found;
      shaped = sym c.is_entry_shaped.ensures ∙ c.if-is_entry_shaped.true;
    }

pub returns-clause-err : goal.returns-clause-err
returns-clause-err c =
    let same = main-same c.args.paths.now c.in_ok-homes.homes.first.items c.in_ok-homes.homes.kept.items (map erase c.args.decls.now)
    c.in_ok-homes.ensures in
    odd_main c.in-Some.number (erase c.in-Some-get.decl.now) (sym same ∙ sym c.in-Some.ensures)
    (erased-there c.args.decls.now c.in-Some.number c.in-Some-get.decl.now c.in-Some-get.ensures.found) (sym c.is_entry_shaped.ensures
    ∙ c.if-is_entry_shaped.false)
    (c.bad_entry-else-is_entry_shaped.ensures
    ∙ ap (λ (u : TypedNode). fault 46 (place_of (erase u))) c.behind-decl.view_is ∙ ap (λ u. fault 46 (place_of u)) c.name_in.ensures)
