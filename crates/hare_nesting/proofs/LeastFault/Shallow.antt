-- What is read while the gauge tells nothing keeps the limits.
use Rattle.std.proofs.Common.{◌≡◌, ℕ, suc, ◌+◌, List, [], ◌∷◌, ◌++◌, true, false, ◌⊎◌, inl, inr, map, length, take, refl, ap, sym, ◌∙◌}
use Rattle.std.proofs.Common.{subst, append_assoc, arith}
use Rattle.std.proofs.Math.Seq.{take-append_seam}
use Rattle.std.proofs.lemmas.List.{length-append, length-map, map-append}
use Rattle.hare_tree.specs.declared.token.Token.{Token}
use Rattle.hare_tree.specs.Node.{Node}
use Rattle.hare_tree.specs.declared.form.Sort.{Sort}
use Rattle.hare_tree.specs.declared.form.Sort.TheVariants as so
use Rattle.hare_tree.specs.Spell.{start_of, spell, spell_all}
use Rattle.hare_tree.specs.Shape.{is_shaped, is_shaped_file}
use Rattle.std.specs.List.{list_all}
use Rattle.hare_prefixes.specs.Viable.{has_trees}
use Rattle.hare_tree.specs.Depth.{deep, deep_root, deep_all}
use Rattle.hare_tree.specs.Grammar.{Language, IsOn, trees_of, files, unplaced, joined}
use Rattle.hare_automaton.specs.declared.rule.Symbol.{Symbol}
use Rattle.hare_automaton.specs.Rows.{of}
use Rattle.hare_automaton.specs.Engine.{Group, add, begun, Done, run, bottom}
use Rattle.hare_automaton.specs.OneTree.{file_symbols}
use Rattle.hare_automaton.proofs.Unambiguous.OneTree.{sorts_have_one_tree}
use Rattle.hare_prefixes.proofs.Outcomes.Alike.{Alike, alike}
use Rattle.hare_prefixes.proofs.Completion.Viable.{done_there}
use Rattle.hare_prefixes.proofs.Outcomes.Breaks.{both, trees_sort}
use Rattle.hare_prefixes.proofs.Soundness.Readings.{runs_read_trees, runs_read_files}
use Rattle.hare_nesting.specs.Gauge.{numbered, seen, seen_in, start, gauge}
use Rattle.hare_nesting.specs.Depth.{gauged, gauged_file, GaugedTreesFit, GaugedFilesFit}
use Rattle.hare_nesting.proofs.UnderWay.Stacks.{stack_faults, Gains}
use Rattle.hare_nesting.proofs.Telling.Claims.{StepsGain, StepsEnd}
use Rattle.hare_nesting.proofs.Telling.Reaches.{run_reaches}
use Rattle.hare_nesting.proofs.Telling.Halts.{stops_done}
use Rattle.hare_nesting.proofs.Telling.Gaining.{Ascends}
use Rattle.hare_nesting.proofs.ByTheLetter.LetterFiles.{deep_file}
use Rattle.hare_nesting.proofs.ByTheLetter.Placeless.{roots_pass_alike, file_limits}
use Rattle.hare_nesting.proofs.OverFiles.Numbers.{unplaced_both, plain_classes, joined_ascends}
use Rattle.hare_nesting.proofs.OverFiles.Fronts.{IsFront}
use Rattle.hare_nesting.proofs.OverFiles.Lines.{ascends_apart}
use Rattle.hare_nesting.proofs.OverFiles.Languages.{Reads}
use Rattle.hare_nesting.proofs.Telling.Runs.{done_somewhere, first_token, whole}
use Rattle.hare_nesting.proofs.LeastFault.Least.{told_on}
use Rattle.hare_nesting.proofs.OverFiles.TreesRead.{made_tree, reads_trees}
use Rattle.hare_nesting.proofs.OverFiles.FilesRead.{file_of, made_file, made_passes, reads_files}

-- ---- the same run over numbered tokens

-- the run over the numbered tokens of the file that uses the same tokens, up to the first that it does not use
pub record SameRun (st : List Symbol) (ts used : List Token) : Type 0 where
  pub front : List Token
  pub last : Token
  pub top : ℕ
  pub made : List Group
  pub ascends : Ascends 1 (front ++ last ∷ []) top
  pub is_front : IsFront front (joined (numbered 1 ts))
  pub done : run 0 (front ++ last ∷ []) st bottom ≡ Done (last ∷ []) made
  pub same : map unplaced front ≡ map unplaced used

fronts_same : (a b c d : List Token) → length b ≡ length d → a ++ b ≡ c ++ d → a ≡ c
fronts_same a b c d n e =
    let m : length a ≡ length c = omega (arith, n, ap length e, length-append a b, length-append c d) in
    sym (take-append_seam a b) ∙ ap (take (length a)) e ∙ ap (λ k. take k (c ++ d)) m ∙ take-append_seam c d

same_run : (file : ℕ) (st : List Symbol) (ts used : List Token) (t : Token) (rest : List Token) (made : List Group) →
    run file (joined ts) st bottom ≡ Done (t ∷ rest) made → joined ts ≡ used ++ t ∷ rest → SameRun st ts used
same_run file st ts used t rest made d i =
    let u = joined (numbered 1 ts) in
    let a : Alike (run 0 u st bottom) (Done (t ∷ rest) made) =
    subst (λ o. Alike (run 0 u st bottom) o) d
    (alike 0 file u (joined ts) st bottom bottom (plain_classes u (joined ts) (unplaced_both 1 ts))) in
    let r = first_token (run 0 u st bottom) t rest made a in
    let z = r.0 in
    let s = stops_done 0 u st bottom z r.1 r.2 r.3 in
    let e : map unplaced s.used ++ map unplaced (z ∷ r.1) ≡ map unplaced used ++ map unplaced (t ∷ rest) =
    sym (map-append unplaced s.used (z ∷ r.1)) ∙ ap (map unplaced) (sym s.split) ∙ unplaced_both 1 ts ∙ ap (map unplaced) i ∙ map-append
    unplaced used (t ∷ rest) in
    let n : length (map unplaced (z ∷ r.1)) ≡ length (map unplaced (t ∷ rest)) =
    length-map (z ∷ r.1) unplaced ∙ ap suc r.4 ∙ sym (length-map (t ∷ rest) unplaced) in
    let w : u ≡ (s.used ++ z ∷ []) ++ r.1 = s.split ∙ sym (append_assoc s.used (z ∷ []) r.1) in
    let p = ascends_apart 1 (s.used ++ z ∷ []) r.1 (1 + length ts) (subst (λ l. Ascends 1 l (1 + length ts)) w (joined_ascends 1 ts)) in
    record {
      front = s.used;
      last = z;
      top = p.0;
      made = r.2;
      ascends = p.1;
      is_front = record { more = map seen_in (z ∷ r.1); is = ap (map seen_in) s.split ∙ map-append seen_in s.used (z ∷ r.1) };
      done = run_reaches 0 s.used st s.next bottom s.trees s.told s.reaches (z ∷ []) ∙ done_there 0 z [] s.next s.trees r.2 s.stops;
      same = fronts_same _ _ _ _ n e;
    }

-- where nothing is told, nothing is passed in what is made
none_made : {T : Type 0} → StepsGain → StepsEnd → (l : Language T) (st : List Symbol) → Reads l st →
    (ts used : List Token) (r : SameRun st ts used) → (gauge (seen ts) st start).faults ≡ [] → (x : ℕ) → IsOn x (stack_faults [] r.made) → ⊥
none_made sg se l st s ts used r n x i =
    let w = whole sg se st s.held s.none r.front r.last r.top r.made r.ascends r.done in
    by w.told (w.gains.only x i) (λ j. told_on st w.next r.front ts w.trees w.told x w.reaches r.is_front j)
  where
    by : (ws : List ℕ) → IsOn x [] ⊎ IsOn x ws → (IsOn x ws → IsOn x (gauge (seen ts) st start).faults) → ⊥
    by ws (inl j) k = j
    by ws (inr j) k = subst (IsOn x) n (k j)

no_faults : (g : ℕ → ℕ) (ks ps : List ℕ) → Gains (map g ks) ps [] → ((x : ℕ) → IsOn x ps → ⊥) → ks ≡ []
no_faults g [] ps h n = refl
no_faults g (k ∷ ks) ps h n = absurd (n (g k) (h.kept (g k) (inl refl)))

abbrev kids_made : List Group → List Node
kids_made [] = []
kids_made (g ∷ gs) = g.kids

-- ---- sorts

one_kid : (t u : Node) → t ∷ [] ≡ u ∷ [] → t ≡ u
one_kid t u e = cc

read_shallow : StepsGain → StepsEnd → (s : Sort) → has_trees s ≡ true → (ts used : List Token) → SameRun (of s ∷ []) ts used →
    (tree : Node) → is_shaped s tree ≡ true → spell 0 tree ≡ map unplaced used → (gauged s ts).faults ≡ [] → deep_root tree ≡ []
read_shallow sg se s c ts used q tree h e n =
    let m = made_tree s c q.front q.last q.top q.made q.ascends q.done in
    sym (roots_pass_alike m.tree tree (sorts_have_one_tree 0 s (trees_sort s c) m.tree tree m.shaped h (m.spelled ∙ q.same ∙ sym e)))
    ∙ no_faults _ (deep_root m.tree) (stack_faults [] q.made) m.faulty.faults
    (none_made sg se (trees_of s) (of s ∷ []) (reads_trees s c) ts used q n)

tree_fits : StepsGain → StepsEnd → (s : Sort) → has_trees s ≡ true →
    (file : ℕ) (ts : List Token) (t : Token) (rest : List Token) (tree : Node) →
    run file (joined ts) (of s ∷ []) bottom ≡ Done (t ∷ rest) (add tree bottom) → (gauged s ts).faults ≡ [] → deep_root tree ≡ []
tree_fits sg se s c file ts t rest tree d n =
    let r = runs_read_trees s file (joined ts) (t ∷ rest) (add tree bottom) d in
    let q = same_run file (of s ∷ []) ts r.used t rest (add tree bottom) d r.split in
    ap deep_root (one_kid tree r.tree (ap kids_made r.is_made)) ∙ read_shallow sg se s c ts r.used q r.tree r.shaped r.spelled n

pub trees_fit : StepsGain → StepsEnd → GaugedTreesFit
trees_fit sg se s c file ts [] tree d n = absurd (done_somewhere file (joined ts) (of s ∷ []) bottom (add tree bottom) d)
trees_fit sg se s c file ts (t ∷ rest) tree d n = tree_fits sg se s c file ts t rest tree d n

-- ---- files

-- trees side by side pass limits as two lists of them do
deep_apart : (n : ℕ) (us vs : List Node) → deep_all n (us ++ vs) ≡ deep_all n us ++ deep_all (n + length (spell_all 0 us)) vs
unfolding deep spell
deep_apart n [] vs = ap (λ k. deep_all k vs) (let e : n ≡ n + 0 = omega arith in e)
deep_apart n (u ∷ us) vs =
    let m = n + length (spell 0 u) in
    let e : m + length (spell_all 0 us) ≡ n + length (spell_all 0 (u ∷ us)) = omega (arith, length-append (spell 0 u) (spell_all 0 us)) in
    ap (λ l. deep (n + 0) 0 false u ++ l) (deep_apart m us vs ∙ ap (λ k. deep_all m us ++ deep_all k vs) e) ∙ sym
    (append_assoc (deep (n + 0) 0 false u) (deep_all m us) (deep_all (n + length (spell_all 0 (u ∷ us))) vs))

deep_together : (us vs us' vs' : List Node) → us ++ vs ≡ us' ++ vs' → deep_file us vs ≡ deep_file us' vs'
deep_together us vs us' vs' e =
    let a : 0 + length (spell_all 0 us) ≡ length (spell_all 0 us) = omega arith in
    let b : 0 + length (spell_all 0 us') ≡ length (spell_all 0 us') = omega arith in
    ap (λ k. deep_all 0 us ++ deep_all k vs) (sym a) ∙ sym (deep_apart 0 us vs) ∙ ap (deep_all 0) e ∙ deep_apart 0 us' vs' ∙ ap
    (λ k. deep_all 0 us' ++ deep_all k vs') b

read_file_shallow : StepsGain → StepsEnd → (ts used : List Token) → SameRun file_symbols ts used → (uses decls : List Node) →
    is_shaped_file (file_of 0 uses decls) ≡ true → spell_all 0 uses ++ spell_all 0 decls ≡ map unplaced used →
    (gauged_file ts).faults ≡ [] → deep_file uses decls ≡ []
read_file_shallow sg se ts used q uses decls h e n =
    let m = made_file q.front q.last q.top q.made q.ascends q.done in
    sym (made_passes q.front q.last q.made m (file_of 0 uses decls) h (q.same ∙ sym e))
    ∙ no_faults _ (deep_file m.uses m.decls) (stack_faults [] q.made) m.faulty.faults
    (none_made sg se files file_symbols reads_files ts used q n)

file_fits : StepsGain → StepsEnd → (file : ℕ) (ts : List Token) (t : Token) (rest : List Token) (uses decls : List Node) →
    run file (joined ts) file_symbols bottom ≡ Done (t ∷ rest) (begun (start_of 0) (uses ++ decls) ∷ []) → (gauged_file ts).faults ≡ [] →
    files.deep_of (file_of file uses decls) ≡ []
file_fits sg se file ts t rest uses decls d n =
    let r = runs_read_files file (joined ts) (t ∷ rest) (begun (start_of 0) (uses ++ decls) ∷ []) d in
    let q = same_run file file_symbols ts r.used t rest _ d r.split in
    let h = both (list_all (is_shaped so.Use) r.uses) (list_all (is_shaped so.Decl) r.decls) r.uses_shaped r.decls_shaped in
    file_limits (file_of file uses decls) ∙ deep_together uses decls r.uses r.decls (ap kids_made r.is_made) ∙ read_file_shallow sg se ts
    r.used q r.uses r.decls h r.spelled n

pub files_fit : StepsGain → StepsEnd → GaugedFilesFit
files_fit sg se file ts [] uses decls d n = absurd (done_somewhere file (joined ts) file_symbols bottom _ d)
files_fit sg se file ts (t ∷ rest) uses decls d n = file_fits sg se file ts t rest uses decls d n
