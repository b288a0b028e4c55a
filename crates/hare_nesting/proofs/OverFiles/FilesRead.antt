-- Files are read by the grammar's machine, and pass the limits where what it makes does.
use Rattle.std.proofs.Common.{◌≡◌, ℕ, ◌+◌, List, [], ◌∷◌, ◌++◌, true, map, length, refl, ap, sym, ◌∙◌, subst, append_assoc, arith}
use Rattle.std.specs.List.{list_all}
use Rattle.std.proofs.lemmas.List.{append-nil, length-append, length-map, append_cancel_right, map-append}
use Rattle.hare_tree.specs.declared.token.Token.{Token}
use Rattle.hare_tree.specs.declared.token.TokenKind.TheVariants as tk
use Rattle.hare_tree.specs.declared.form.Sort.TheVariants as so
use Rattle.hare_tree.specs.declared.tree.FileTree.{FileTree}
use Rattle.hare_tree.specs.Node.{Node, nodes_of}
use Rattle.hare_tree.specs.Spell.{word_token, spell_all, spell_file}
use Rattle.hare_tree.specs.Shape.{is_shaped, is_shaped_file}
use Rattle.hare_tree.specs.Grammar.{Spells, files, unplaced, joined}
use Rattle.hare_automaton.specs.Engine.{Group, Done, run, bottom}
use Rattle.hare_automaton.specs.OneTree.{file_symbols}
use Rattle.hare_automaton.proofs.Spelled.Files.{read_file, files_have_one_tree}
use Rattle.hare_prefixes.proofs.Outcomes.Alike.{classes}
use Rattle.hare_prefixes.proofs.Completion.Viable.{end}
use Rattle.hare_prefixes.proofs.Outcomes.Breaks.{both}
use Rattle.hare_prefixes.proofs.Joining.Used.{not_nil}
use Rattle.hare_prefixes.proofs.Soundness.Readings.{runs_read_files}
use Rattle.hare_prefixes.proofs.Outcomes.Moved.{side_moved}
use Rattle.hare_prefixes.proofs.FirstFault.Faults.{file_loose}
use Rattle.hare_nesting.specs.Gauge.{numbered, nodes_in}
use Rattle.hare_nesting.proofs.UnderWay.Stacks.{stack_faults, Gains}
use Rattle.hare_nesting.proofs.UnderWay.AtStart.{files_at_start, none_at_start}
use Rattle.hare_nesting.proofs.ByTheLetter.LetterFiles.{Placed, deep_file, file_stacks_agree}
use Rattle.hare_nesting.proofs.ByTheLetter.Placeless.{files_pass_alike, file_limits}
use Rattle.hare_nesting.proofs.ByTheLetter.InsideFiles.{file_inside}
use Rattle.hare_nesting.proofs.Telling.Gaining.{Ascends}
use Rattle.hare_nesting.proofs.OverFiles.Numbers.{unplaced_both, plain_classes, joined_ascends}
use Rattle.hare_nesting.proofs.OverFiles.Lines.{line_of, rises}
use Rattle.hare_nesting.proofs.Telling.Runs.{last_same, done_like}
use Rattle.hare_nesting.proofs.OverFiles.Languages.{faulty_alike, Faulty, Read, Reread, Reads}

-- ---- what a run makes

-- imports and declarations of the file with this number
abbrev pub file_of : ℕ → List Node → List Node → FileTree
file_of f uses decls = record { file = f; uses = uses; decls = decls }

-- the imports and declarations that are made from these tokens
pub record MadeFile (u : List Token) (z : Token) (made : List Group) : Type 0 where
  pub uses : List Node
  pub decls : List Node
  pub shaped : is_shaped_file (file_of 0 uses decls) ≡ true
  pub spelled : spell_all 0 uses ++ spell_all 0 decls ≡ map unplaced u
  pub faulty : Faulty files u z (file_of 0 uses decls) made

pub made_file : (u : List Token) (z : Token) (top : ℕ) (made : List Group) → Ascends 1 (u ++ z ∷ []) top →
    run 0 (u ++ z ∷ []) file_symbols bottom ≡ Done (z ∷ []) made → MadeFile u z made
made_file u z top made a d =
    let w = u ++ z ∷ [] in
    let r = runs_read_files 0 w (z ∷ []) made d in
    let i : r.used ≡ u = append_cancel_right r.used u (z ∷ []) (sym r.split) in
    let e : spell_all 0 r.uses ++ spell_all 0 r.decls ≡ map unplaced u = r.spelled ∙ ap (map unplaced) i in
    let n : length (spell_all 0 r.uses ++ spell_all 0 r.decls) ≡ length u = ap length e ∙ length-map u unplaced in
    let p : Placed 0 w r.uses r.decls = record {
      uses_shaped = r.uses_shaped;
      decls_shaped = r.decls_shaped;
      within = omega (arith, n, length-append u (z ∷ []));
      uses_placed =
          r.uses_placed;
      decls_placed = r.decls_placed;
    } in
    let g = subst (λ hs. Gains (map (line_of w) (deep_file r.uses r.decls)) (stack_faults [] hs) []) (sym r.is_made)
    (file_stacks_agree 0 w r.uses r.decls (rises w top a) p) in
    record {
      uses = r.uses;
      decls = r.decls;
      shaped = both (list_all (is_shaped so.Use) r.uses) (list_all (is_shaped so.Decl) r.decls) r.uses_shaped r.decls_shaped;
      spelled = e;
      faulty = record {
        faults = g;
        within = λ k x. let y = file_inside r.uses r.decls r.uses_shaped r.decls_shaped k x in omega (arith, y, n);
      };
    }

-- ---- files are read, and read again

-- imports and declarations that are spelled alike pass the limits alike
pub same_files : (us ds us' ds' : List Node) → is_shaped_file (file_of 0 us ds) ≡ true → is_shaped_file (file_of 0 us' ds') ≡ true →
    spell_all 0 us ++ spell_all 0 ds ≡ spell_all 0 us' ++ spell_all 0 ds' → deep_file us ds ≡ deep_file us' ds'
same_files us ds us' ds' h h' e =
    let w : spell_file (file_of 0 us ds) ≡ spell_file (file_of 0 us' ds') =
    sym (append_assoc (spell_all 0 us) (spell_all 0 ds) (end ∷ [])) ∙ ap (λ l. l ++ end ∷ []) e ∙ append_assoc (spell_all 0 us')
    (spell_all 0 ds') (end ∷ []) in
    files_pass_alike (file_of 0 us ds) (file_of 0 us' ds') (files_have_one_tree (file_of 0 us ds) (file_of 0 us' ds') refl h h' w)

-- what is made from the tokens of a file passes its limits
pub made_passes : (u : List Token) (z : Token) (made : List Group) (m : MadeFile u z made) (t : FileTree) → is_shaped_file t ≡ true →
    map unplaced u ≡ spell_all 0 t.uses ++ spell_all 0 t.decls → deep_file m.uses m.decls ≡ files.deep_of t
made_passes u z made m t h e = same_files m.uses m.decls t.uses t.decls m.shaped h (m.spelled ∙ e) ∙ sym (file_limits t)

-- the tokens of a file, at the start of file 0
file_tokens : (t : FileTree) → map unplaced (spell_file t) ≡ (spell_all 0 t.uses ++ spell_all 0 t.decls) ++ end ∷ []
file_tokens t =
    let x = spell_all t.file t.uses in
    let y = spell_all t.file t.decls in
    ap (map unplaced) (sym (append_assoc x y (word_token t.file tk.End [] ∷ []))) ∙ map-append unplaced (x ++ y)
    (word_token t.file tk.End [] ∷ [])
    ∙ ap (λ l. l ++ end ∷ []) (map-append unplaced x y ∙ ap (λ l. l ++ map unplaced y) (side_moved t.file (nodes_of t.uses)) ∙ ap
    (λ l. spell_all 0 t.uses ++ l) (side_moved t.file (nodes_of t.decls)))

-- a list of tokens that has End last, but for places
record Ended (w front : List Token) : Type 0 where
  before : List Token
  last : Token
  is : w ≡ before ++ last ∷ []
  same : map unplaced before ≡ front
  is_end : unplaced last ≡ end

-- a list that has tokens has a last one
with_last : (t : Token) (w : List Token) → (before : List Token) × (last : Token) × (t ∷ w ≡ before ++ last ∷ [])
with_last t [] = ([], t, refl)
with_last t (u ∷ w) = let r = with_last u w in (t ∷ r.0, r.1, ap (λ l. t ∷ l) r.2)

ended : (w front : List Token) → map unplaced w ≡ front ++ end ∷ [] → Ended w front
ended [] front e = absurd (not_nil front end [] e)
ended (t ∷ w) front e =
    let r = with_last t w in
    let i = last_same (map unplaced r.0) front (unplaced r.1) end
    (sym (map-append unplaced r.0 (r.1 ∷ [])) ∙ sym (ap (map unplaced) r.2) ∙ e) in
    record { before = r.0; last = r.1; is = r.2; same = i.0; is_end = i.1 }

reread_from : (ts : List Token) (t : FileTree) → is_shaped_file t ≡ true →
    map unplaced (joined (numbered 1 ts)) ≡ map unplaced (spell_file t) →
    Ended (joined (numbered 1 ts)) (spell_all 0 t.uses ++ spell_all 0 t.decls) → Reread files file_symbols ts t
reread_from ts t h e x =
    let w = x.before ++ x.last ∷ [] in
    let c : classes w ≡ classes (spell_file t) = plain_classes w (spell_file t) (ap (map unplaced) (sym x.is) ∙ e) in
    let d = done_like 0 t.file x.before (spell_file t) x.last (word_token t.file tk.End []) file_symbols bottom bottom _ c
    (read_file t h) in
    let a : Ascends 1 w (1 + length ts) = subst (λ l. Ascends 1 l (1 + length ts)) x.is (joined_ascends 1 ts) in
    let m = made_file x.before x.last (1 + length ts) d.0 a d.1 in
    let p = made_passes x.before x.last d.0 m t h x.same in
    record {
      used = x.before;
      last = x.last;
      top = 1 + length ts;
      extra = [];
      split = append-nil (joined (numbered 1 ts)) ∙ x.is;
      ascends = a;
      made = d.0;
      done = d.1;
      faulty = faulty_alike files x.before x.last (file_of 0 m.uses m.decls) t d.0 p m.faulty;
    }

pub reread_file : (ts : List Token) (t : FileTree) → is_shaped_file t ≡ true → Spells (spell_file t) ts → Reread files file_symbols ts t
reread_file ts t h e =
    let w : map unplaced (joined (numbered 1 ts)) ≡ map unplaced (spell_file t) = unplaced_both 1 ts ∙ sym e in
    reread_from ts t h w (ended (joined (numbered 1 ts)) (spell_all 0 t.uses ++ spell_all 0 t.decls) (w ∙ file_tokens t))

file_none : stack_faults (nodes_in file_symbols) bottom ≡ []
unfolding nodes_in
file_none = none_at_start

pub reads_files : Reads files file_symbols
reads_files = record {
  held = files_at_start;
  none = file_none;
  is_good = refl;
  is_loose = λ t h. file_loose t h;
  reads = λ u z top made a i d. read_file_of u z made (made_file u z top made a d);
  rereads = λ ts t h e. reread_file ts t h e;
}
  where
    read_file_of : (u : List Token) (z : Token) (made : List Group) → MadeFile u z made → Read files u z made
    read_file_of u z made m = record {
      tree = file_of 0 m.uses m.decls;
      tail = end ∷ [];
      shaped = m.shaped;
      spelled = file_tokens (file_of 0 m.uses m.decls) ∙ ap (λ l. l ++ end ∷ []) m.spelled ∙ sym (map-append unplaced u (end ∷ []));
      faulty = m.faulty;
    }
