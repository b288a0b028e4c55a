use Rattle.std.proofs.Common.{length, map, fold, subst, ap, ◌∙◌}
use Rattle.hare_modules.specs.Modules.{module_of}
use Rattle.hare_modules.specs.Takings as takings
use Rattle.hare_modules.specs.Taken.{tables_of, tables_with, first_tables, repeated_faults, member_fault}
use Rattle.hare_modules.specs.Order.{TellsFirst, first_in}
use Rattle.hare_modules.specs.CirclesIn.{imports_graph, IsCircleIn}
use Rattle.std.specs.List.{filter_map}
use Rattle.hare_modules.proofs.SourceLemmas.{usings-within}
use Rattle.hare_directory.proofs.ByNumbers.Look.{look-tables, look-first}
use Rattle.hare_directory.proofs.program.look.Goals as goal

pub first_circle-requires : goal.first_circle-requires
first_circle-requires c =
    let ps = c.args.paths.now in
    let ts = c.args.files.now in
    let known = c.in_ok-known.known in
    let hs = c.in_ok-known.homes.items in
    let n = c.in_ok-known.ensures in
    let us = ap (map takings.using) c.as_slice-4.ensures.value ∙ c.in_ok-uses.ensures
    ∙ ap (λ h. takings.usings known h ts) c.as_slice.ensures.value in
    rw (us, c.len-3.ensures) (usings-within (map module_of ps) known hs ps hs ts n n.homes_are)

pub returns-clause-tables : goal.returns-clause-tables
returns-clause-tables c =
    let ps = c.args.paths.now in
    let ts = c.args.files.now in
    let known = c.in_ok-known.known in
    let hs = c.in_ok-known.homes.items in
    let t = tables_of c.take_all.new.taken in
    let ks = ap (map takings.taking) c.as_slice-3.ensures.value ∙ c.in_ok-claims.ensures
    ∙ ap (λ h. takings.takings known 0 0 h ts) c.as_slice-2.ensures.value in
    let start = c.in_ok-taken.ensures ∙ ap (λ m. first_tables m c.len-2.result) c.len.ensures
    ∙ ap (first_tables (length known)) c.len-2.ensures in
    let filled = c.in_ok-repeated.ensures.taken ∙ ap (λ u. fold tables_with u (map takings.taking c.as_slice-3.result.now)) start
    ∙ ap (fold tables_with (first_tables (length known) (length ts))) ks in
    look-tables ps ts known hs t record { files = c.requires; numbers = c.in_ok-known.ensures; filled = filled }

pub returns-clause-first : goal.returns-clause-first
returns-clause-first c =
    let ps = c.args.paths.now in
    let ts = c.args.files.now in
    let known = c.in_ok-known.known in
    let hs = c.in_ok-known.homes.items in
    let t = tables_of c.take_all.new.taken in
    let us = c.in_ok-uses.ensures ∙ ap (λ h. takings.usings known h ts) c.as_slice.ensures.value in
    let us-4 = ap (map takings.using) c.as_slice-4.ensures.value ∙ us in
    let us-6 = ap (map takings.using) c.as_slice-6.ensures.value ∙ us in
    let ks = c.in_ok-claims.ensures ∙ ap (λ h. takings.takings known 0 0 h ts) c.as_slice-2.ensures.value in
    let ks-3 = ap (map takings.taking) c.as_slice-3.ensures.value ∙ ks in
    let ks-8 = ap (map takings.taking) c.as_slice-8.ensures.value ∙ ks in
    let start = c.in_ok-taken.ensures ∙ ap (λ m. first_tables m c.len-2.result) c.len.ensures
    ∙ ap (first_tables (length known)) c.len-2.ensures in
    let filled = c.in_ok-repeated.ensures.taken ∙ ap (λ u. fold tables_with u (map takings.taking c.as_slice-3.result.now)) start
    ∙ ap (fold tables_with (first_tables (length known) (length ts))) ks-3 in
    let cycle : TellsFirst (IsCircleIn (imports_graph (length known) (takings.usings known hs ts)) (takings.usings known hs ts))
    c.in_ok-circle.circle =
    subst (λ v. TellsFirst (IsCircleIn (imports_graph (length known) v) v) c.in_ok-circle.circle) us-4
    (subst (λ m. TellsFirst (IsCircleIn (imports_graph m (map takings.using c.as_slice-4.result.now))
    (map takings.using c.as_slice-4.result.now)) c.in_ok-circle.circle) c.len-3.ensures c.in_ok-circle.ensures) in
    let again = c.in_ok-repeated.ensures.first ∙ ap (λ u. first_in (repeated_faults u (map takings.taking c.as_slice-3.result.now))) start
    ∙ ap (λ k. first_in (repeated_faults (first_tables (length known) (length ts)) k)) ks-3 in
    let file = c.runtime_file-runtime.ensures ∙ ap (λ h. first_in (takings.runtime_files h ts)) c.as_slice-5.ensures.value in
    let member = c.unknown_member-member.ensures ∙ ap (λ u. first_in
    (filter_map (member_fault u) (map takings.taking c.as_slice-8.result.now))) c.as_slice-7.ensures.value
    ∙ ap (λ k. first_in (filter_map (member_fault t.items) k)) ks-8 in
    let other = c.unknown_module-module.ensures ∙ ap (λ v. first_in (filter_map takings.unknown_module v)) us-6 in
    rw (c.earlier_of-first.ensures, c.earlier_of-3.ensures, c.earlier_of-2.ensures, c.earlier_of.ensures)
    (look-first ps ts known hs t record { files = c.requires; numbers = c.in_ok-known.ensures; filled = filled } c.in_ok-circle.circle
    c.in_ok-repeated.repeated c.runtime_file-runtime.result c.unknown_member-member.result c.unknown_module-module.result cycle again
    file member other)
