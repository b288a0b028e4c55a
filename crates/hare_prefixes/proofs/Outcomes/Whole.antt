-- Whole files and the runs over their tokens.
use Rattle.std.proofs.Common.{◌≡◌, List, [], ◌∷◌, ◌++◌, map, refl, ap, sym, ◌∙◌, subst, append_assoc}
use Rattle.std.specs.List.{list_all}
use Rattle.std.proofs.lemmas.List.{map-append}
use Rattle.hare_tree.specs.declared.token.TokenKind.TheVariants as tk
use Rattle.hare_tree.specs.declared.token.Token.{Token}
use Rattle.hare_tree.specs.declared.form.Sort.TheVariants as so
use Rattle.hare_tree.specs.declared.tree.FileTree.{FileTree}
use Rattle.hare_tree.specs.Node.{nodes_of}
use Rattle.hare_tree.specs.Spell.{word_token, spell_all, spell_file}
use Rattle.hare_tree.specs.Shape.{is_shaped}
use Rattle.hare_tree.specs.Grammar.{unplaced, joined}
use Rattle.hare_automaton.specs.Engine.{Group, Outcome, Done, Fails, bottom}
use Rattle.hare_automaton.specs.OneTree.{file_symbols}
use Rattle.hare_automaton.proofs.Spelled.Files.{read_file}
use Rattle.hare_prefixes.specs.Whole.{WholeRunsMakeFiles, FilesHaveWholeRuns}
use Rattle.hare_prefixes.proofs.Soundness.Readings.{runs_read_files}
use Rattle.hare_prefixes.proofs.Outcomes.Alike.{classes, Alike, alike}
use Rattle.hare_prefixes.proofs.Completion.Viable.{end, same_classes}
use Rattle.hare_prefixes.proofs.Outcomes.Breaks.{both, last_of, last_behind, file_last}
use Rattle.hare_prefixes.proofs.Outcomes.Moved.{side_moved}

pub whole_runs_make_files : WholeRunsMakeFiles
whole_runs_make_files file ts made q =
    let r = runs_read_files file (joined ts) (q.end ∷ []) made q.done in
    let tree : FileTree = record { file = file; uses = r.uses; decls = r.decls } in
    let x = spell_all file r.uses in
    let y = spell_all file r.decls in
    let k = word_token file tk.End [] in
    let words : map unplaced (x ++ y) ≡ map unplaced r.used =
    map-append unplaced x y ∙ ap (λ l. l ++ map unplaced y) (side_moved file (nodes_of r.uses)) ∙ ap (λ l. spell_all 0 r.uses ++ l)
    (side_moved file (nodes_of r.decls)) ∙ r.spelled in
    let all : map unplaced (x ++ (y ++ k ∷ [])) ≡ map unplaced (joined ts) =
    ap (map unplaced) (sym (append_assoc x y (k ∷ []))) ∙ map-append unplaced (x ++ y) (k ∷ []) ∙ ap (λ l. l ++ end ∷ []) words ∙ ap
    (λ z. map unplaced r.used ++ z ∷ []) (sym q.is_end) ∙ sym (map-append unplaced r.used (q.end ∷ [])) ∙ ap (map unplaced)
    (sym r.split) in
    record {
      tree = tree;
      spells = record {
        file_is = refl;
        shaped = both (list_all (is_shaped so.Use) r.uses) (list_all (is_shaped so.Decl) r.decls)
            r.uses_shaped r.decls_shaped;
        spelled = all;
        placed = record { uses = r.uses_placed; decls = r.decls_placed };
      };
      is_made = r.is_made;
    }

-- a run that is like one that is done in front of one token
done_one : (o o' : Outcome) (t : Token) (hs : List Group) → o' ≡ Done (t ∷ []) hs → Alike o o' → (z : Token) × (gs : List Group) ×
    (o ≡ Done (z ∷ []) gs)
done_one (Done [] gs) o' t hs e a = let b : classes [] ≡ classes (t ∷ []) = subst (λ y. Alike (Done [] gs) y) e a in cc
done_one (Done (z ∷ []) gs) o' t hs e a = (z, gs, refl)
done_one (Done (z ∷ (y ∷ v)) gs) o' t hs e a =
    let b : classes (z ∷ (y ∷ v)) ≡ classes (t ∷ []) = subst (λ x. Alike (Done (z ∷ (y ∷ v)) gs) x) e a in cc
done_one (Fails v) o' t hs e a = let b : Alike (Fails v) (Done (t ∷ []) hs) = subst (λ y. Alike (Fails v) y) e a in absurd b

pub files_have_whole_runs : FilesHaveWholeRuns
files_have_whole_runs file ts tree h s =
    let e : classes (joined ts) ≡ classes (spell_file tree) =
    sym (same_classes (joined ts)) ∙ ap classes (sym s) ∙ same_classes (spell_file tree) in
    let d = done_one _ _ _ _ (read_file tree h) (alike file tree.file (joined ts) (spell_file tree) file_symbols bottom bottom e) in
    let r = runs_read_files file (joined ts) (d.0 ∷ []) d.1 d.2 in
    let i : map unplaced (spell_file tree) ≡ map unplaced r.used ++ unplaced d.0 ∷ [] =
    s ∙ ap (map unplaced) r.split ∙ map-append unplaced r.used (d.0 ∷ []) in
    record {
      made = d.1;
      whole = record {
        end = d.0;
        done = d.2;
        is_end = sym (last_behind d.0 (map unplaced r.used) (unplaced d.0)) ∙ ap
            (last_of d.0) (sym i) ∙ file_last d.0 tree;
      };
    }
