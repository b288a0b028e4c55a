-- What a run that ends says of a sort, and of files.
use Rattle.std.proofs.Common.{◌≡◌, [], ◌∷◌, ◌++◌, true, map, length, refl, ap, sym, ◌∙◌, subst, arith}
use Rattle.std.specs.List.{list_all}
use Rattle.std.proofs.lemmas.List.{length-map, map-append}
use Rattle.hare_tree.specs.declared.form.Sort.{Sort}
use Rattle.hare_tree.specs.declared.form.Sort.TheVariants as so
use Rattle.hare_tree.specs.declared.form.Lead.TheVariants as le
use Rattle.hare_tree.specs.declared.form.Piece.TheVariants as pi
use Rattle.hare_tree.specs.Node.{Nodes, none, more}
use Rattle.hare_tree.specs.Spell.{start_of, all_led, spells}
use Rattle.hare_tree.specs.Shape.{is_shaped, are_kids}
use Rattle.hare_tree.specs.Depth.{begins_led}
use Rattle.hare_tree.specs.Grammar.{HavePlaces, unplaced}
use Rattle.hare_tree.specs.declared.kind.Kind.TheVariants as ki
use Rattle.hare_tree.specs.Node.{Head}
use Rattle.hare_automaton.specs.declared.rule.Rule.TheVariants as ru
use Rattle.hare_automaton.specs.Rows.{of}
use Rattle.hare_automaton.specs.Engine.{begun, head_in, bottom}
use Rattle.hare_automaton.specs.OneTree.{file_symbols}
use Rattle.hare_automaton.proofs.Spelled.Paths.{split}
use Rattle.hare_prefixes.specs.Reading.{RunsReadTrees, RunsReadFiles}
use Rattle.hare_prefixes.proofs.Soundness.Trees.{Source, add_all, list_of, back, all_kids}
use Rattle.hare_prefixes.proofs.Soundness.Means.{has_first}
use Rattle.hare_prefixes.proofs.Soundness.Stacks.{last_part}
use Rattle.hare_prefixes.proofs.Soundness.Sound.{run_reads}

pub runs_read_trees : RunsReadTrees
runs_read_trees s file ts rest made e =
    let x : Source = record { file = file; tokens = ts } in
    let r = run_reads x [] ts (of s ∷ []) bottom rest made refl e in
    let q = last_part x (ru.Of s) bottom 0 r.u rest made r.reads (has_first (begun (start_of 0) []) []) in
    record { tree = q.t; used = r.u; split = r.is; shaped = q.is.shaped; spelled = q.is.spelled; placed = q.is.placed; is_made = q.adds }

-- the kids of `{tree}` are all of the sort
all_of : (s : Sort) (ts : Nodes) → are_kids 0 (pi.Each s ∷ []) ts ≡ true → list_all (is_shaped s) (list_of ts) ≡ true
unfolding is_shaped
all_of s none e = refl
all_of s (more t ts) e = let p = split (is_shaped s t) (are_kids 0 (pi.Each s ∷ []) ts) e in rw (p.0, all_of s ts p.1) refl

any_head : Head
any_head = head_in ki.None (begun (start_of 0) [])

pub runs_read_files : RunsReadFiles
runs_read_files file ts rest made e =
    let x : Source = record { file = file; tokens = ts } in
    let g = begun (start_of 0) [] in
    let r = run_reads x [] ts file_symbols bottom rest made refl e in
    let p = r.reads in
    let u = p.part (has_first g []) in
    let us = list_of u.ts in
    let mid : p.hs ≡ begun (start_of 0) us ∷ [] = u.adds ∙ all_kids u.ts g [] in
    let d = last_part x (ru.Each so.Decl) p.hs p.n p.v' rest made p.rest (record { g = begun (start_of 0) us; hs = []; is = mid }) in
    let ds = list_of d.ts in
    let all : made ≡ begun (start_of 0) (us ++ ds) ∷ [] = d.adds ∙ ap (add_all d.ts) mid ∙ all_kids d.ts (begun (start_of 0) us) [] in
    let words : all_led 0 le.Nothing (spells 0 u.ts) ≡ map unplaced p.v = u.spelled any_head in
    let words' : all_led 0 le.Nothing (spells 0 d.ts) ≡ map unplaced p.v' = d.spelled any_head in
    let at : p.n ≡ length (all_led 0 le.Nothing (spells 0 u.ts)) = omega (arith, p.at, ap length words, length-map p.v unplaced) in
    record {
      uses = us;
      decls = ds;
      used = r.u;
      split = r.is;
      uses_shaped = all_of so.Use u.ts (u.kids 0);
      decls_shaped = all_of so.Decl d.ts (d.kids 0);
      spelled = rw (back u.ts, back d.ts) (ap (λ y. y ++ all_led 0 le.Nothing (spells 0 d.ts)) words ∙ ap (λ y. map unplaced p.v ++ y)
          words' ∙ sym (map-append unplaced p.v p.v') ∙ ap (map unplaced) (sym p.is));
      uses_placed = rw (back u.ts) (u.placed any_head);
      decls_placed = rw (back u.ts, back d.ts)
          (subst (λ y. HavePlaces file ts (begins_led le.Nothing y (spells 0 d.ts)) d.ts) at (d.placed any_head));
      is_made = all;
    }
