-- The trees of a sort are read by the grammar's machine, and pass the limits where what it makes does.
use Rattle.std.proofs.Common.{◌≡◌, ℕ, ◌+◌, ◌<◌, ◌≤◌, List, [], ◌∷◌, ◌++◌, Bool, true, false, map, length, refl, ap, sym, ◌∙◌, subst, arith}
use Rattle.std.proofs.lemmas.List.{append-nil, length-append, length-map, append_cancel_right, map-append}
use Rattle.hare_tree.specs.declared.token.Token.{Token}
use Rattle.hare_tree.specs.declared.form.Sort.{Sort}
use Rattle.hare_tree.specs.Node.{Node, branch, head}
use Rattle.hare_tree.specs.Spell.{sign_token, spell}
use Rattle.hare_tree.specs.Shape.{is_shaped}
use Rattle.hare_tree.specs.Depth.{is_node, deep_root}
use Rattle.hare_tree.specs.Grammar.{Spells, trees_of, unplaced, joined}
use Rattle.hare_automaton.specs.Rows.{of}
use Rattle.hare_automaton.specs.Engine.{Group, add, Done, run, bottom}
use Rattle.hare_automaton.proofs.Spelled.Kids.{closer}
use Rattle.hare_automaton.proofs.Unambiguous.OneTree.{read_whole, sorts_have_one_tree}
use Rattle.hare_prefixes.specs.Viable.{has_trees}
use Rattle.hare_prefixes.proofs.Outcomes.Alike.{classes}
use Rattle.hare_prefixes.proofs.Outcomes.Breaks.{trees_sort, trees_end}
use Rattle.hare_prefixes.proofs.Soundness.Readings.{runs_read_trees}
use Rattle.hare_prefixes.proofs.Outcomes.Moved.{spell_moved}
use Rattle.hare_prefixes.proofs.FirstFault.Faults.{tree_loose}
use Rattle.hare_nesting.specs.Gauge.{numbered, nodes_in}
use Rattle.hare_nesting.proofs.UnderWay.Stacks.{mark, faults_of, stack_faults, Gains}
use Rattle.hare_nesting.proofs.UnderWay.AtStart.{sort_at_start, none_at_start, plain_alone, tree_alone}
use Rattle.hare_nesting.proofs.ByTheLetter.FormKids.{shaped_has_form, node_some}
use Rattle.hare_nesting.proofs.ByTheLetter.Letter.{faults_agree, agrees}
use Rattle.hare_nesting.proofs.ByTheLetter.Placeless.{roots_pass_alike}
use Rattle.hare_nesting.proofs.ByTheLetter.Inside.{root_inside}
use Rattle.hare_nesting.proofs.Telling.Gaining.{Ascends}
use Rattle.hare_nesting.proofs.OverFiles.Numbers.{with_number, unplaced_both, plain_classes, ascends_append, joined_ascends}
use Rattle.hare_nesting.proofs.OverFiles.Lines.{line_of, rises}
use Rattle.hare_nesting.proofs.Telling.Runs.{done_like}
use Rattle.hare_nesting.proofs.OverFiles.Languages.{faulty_alike, Faulty, Read, Reread, Reads}

-- ---- the stack of one tree

stack_of_tree : (t : Node) → ((mark t).node ≡ true → 0 < (mark t).first) → stack_faults [] (add t bottom) ≡ faults_of 0 t
stack_of_tree t f = by (mark t).node refl
  where
    by : (b : Bool) → (mark t).node ≡ b → stack_faults [] (add t bottom) ≡ faults_of 0 t
    by true e = let p = f e in tree_alone t (omega (arith, p))
    by false e = plain_alone t e

node_mark : (t : Node) → (mark t).node ≡ is_node (head t).kind
node_mark (branch h us) = refl

-- ---- what a run makes

-- the tree that is made from these tokens
pub record MadeTree (s : Sort) (u : List Token) (z : Token) (made : List Group) : Type 0 where
  pub tree : Node
  pub shaped : is_shaped s tree ≡ true
  pub spelled : spell 0 tree ≡ map unplaced u
  pub faulty : Faulty (trees_of s) u z tree made

pub made_tree : (s : Sort) → has_trees s ≡ true → (u : List Token) (z : Token) (top : ℕ) (made : List Group) → Ascends 1 (u ++ z ∷ []) top →
    run 0 (u ++ z ∷ []) (of s ∷ []) bottom ≡ Done (z ∷ []) made → MadeTree s u z made
made_tree s c u z top made a d =
    let w = u ++ z ∷ [] in
    let r = runs_read_trees s 0 w (z ∷ []) made d in
    let i : r.used ≡ u = append_cancel_right r.used u (z ∷ []) (sym r.split) in
    let e : spell 0 r.tree ≡ map unplaced u = r.spelled ∙ ap (map unplaced) i in
    let n : length (spell 0 r.tree) ≡ length u = ap length e ∙ length-map u unplaced in
    let within : length (spell 0 r.tree) ≤ length w = omega (arith, n, length-append u (z ∷ [])) in
    let rise = rises w top a in
    let g = agrees 0 w 0 r.tree rise (shaped_has_form s r.tree r.shaped) (omega (arith, within)) r.placed in
    let first : (mark r.tree).node ≡ true → 0 < (mark r.tree).first =
    λ b. (let q = sym (node_mark r.tree) ∙ b in let x = node_some r.tree q in let y = rise.0 0 (omega (arith, x, within)) in subst
    (λ k. 0 < k) (sym (g.first q)) y) in
    let p : stack_faults [] made ≡ faults_of 0 r.tree = ap (stack_faults []) r.is_made ∙ stack_of_tree r.tree first in
    record {
      tree = r.tree;
      shaped = r.shaped;
      spelled = e;
      faulty = record {
        faults = subst (λ l. Gains (map (line_of w) (deep_root r.tree)) l []) (sym p)
            (faults_agree s c 0 w r.tree rise r.shaped within r.placed);
        within = λ k x. let y = root_inside s r.tree r.shaped k x in omega (arith, y, n);
      };
    }

-- ---- trees are read again

abbrev reread_end : Sort → List Token → Token
reread_end s ts = with_number (1 + length ts) (sign_token 0 (closer s))

reread_ascends : (s : Sort) (ts : List Token) → Ascends 1 (joined (numbered 1 ts) ++ reread_end s ts ∷ []) (2 + length ts)
unfolding Ascends
reread_ascends s ts = ascends_append 1 (joined (numbered 1 ts)) (1 + length ts) (reread_end s ts ∷ []) (2 + length ts) (joined_ascends 1 ts)
    (omega arith, omega arith)

-- the tokens of the tree, but for places
reread_tokens : (s : Sort) → has_trees s ≡ true → (ts : List Token) (t : Node) → is_shaped s t ≡ true → Spells (spell 0 t) ts →
    map unplaced (joined (numbered 1 ts)) ≡ spell 0 t
reread_tokens s c ts t h e = unplaced_both 1 ts ∙ sym e ∙ spell_moved 0 t

reread_classes : (s : Sort) (ts : List Token) (t : Node) → map unplaced (joined (numbered 1 ts)) ≡ spell 0 t →
    classes (joined (numbered 1 ts) ++ reread_end s ts ∷ []) ≡ classes (spell 0 t ++ sign_token 0 (closer s) ∷ [])
reread_classes s ts t e =
    let z = sign_token 0 (closer s) in
    plain_classes _ _ (map-append unplaced (joined (numbered 1 ts)) (reread_end s ts ∷ []) ∙ ap (λ l. l ++ z ∷ [])
    (e ∙ sym (spell_moved 0 t)) ∙ sym (map-append unplaced (spell 0 t) (z ∷ [])))

pub reread_tree : (s : Sort) → has_trees s ≡ true → (ts : List Token) (t : Node) → is_shaped s t ≡ true → Spells (spell 0 t) ts →
    Reread (trees_of s) (of s ∷ []) ts t
reread_tree s c ts t h e =
    let o = trees_sort s c in
    let u = joined (numbered 1 ts) in
    let z = reread_end s ts in
    let i = reread_tokens s c ts t h e in
    let d = done_like 0 0 u (spell 0 t ++ sign_token 0 (closer s) ∷ []) z (sign_token 0 (closer s)) (of s ∷ []) bottom bottom _
    (reread_classes s ts t i) (read_whole 0 s t o h) in
    let a = reread_ascends s ts in
    let m = made_tree s c u z (2 + length ts) d.0 a d.1 in
    let p = roots_pass_alike m.tree t (sorts_have_one_tree 0 s o m.tree t m.shaped h (m.spelled ∙ i)) in
    record {
      used = u;
      last = z;
      top = 2 + length ts;
      extra = z ∷ [];
      split = refl;
      ascends = a;
      made = d.0;
      done = d.1;
      faulty = faulty_alike (trees_of s) u z m.tree t d.0 p m.faulty;
    }

sort_none : (s : Sort) → stack_faults (nodes_in (of s ∷ [])) bottom ≡ []
unfolding nodes_in
sort_none s = none_at_start

pub reads_trees : (s : Sort) → has_trees s ≡ true → Reads (trees_of s) (of s ∷ [])
reads_trees s c = record {
  held = sort_at_start s;
  none = sort_none s;
  is_good = trees_end s c;
  is_loose = λ t h. tree_loose s t (trees_sort s c) h;
  reads = λ u z top made a i d. read_tree u z made (made_tree s c u z top made a d);
  rereads = λ ts t h e. reread_tree s c ts t h e;
}
  where
    read_tree : (u : List Token) (z : Token) (made : List Group) → MadeTree s u z made → Read (trees_of s) u z made
    read_tree u z made m = record {
      tree = m.tree;
      tail = [];
      shaped = m.shaped;
      spelled = spell_moved 0 m.tree ∙ m.spelled ∙ ap
          (map unplaced) (sym (append-nil u));
      faulty = m.faulty;
    }
