-- The ways of a file again, where the commas that are added stand in its tree.
use Rattle.std.proofs.Common.{◌≡◌, ℕ, ◌+◌, List, [], ◌∷◌, ◌++◌, inl, inr, Bool, true, false, map, length, drop, refl, sym, ap, ◌∙◌, subst, arith}
use Rattle.std.specs.List.{list_all}
use Rattle.std.proofs.lemmas.Bool.{and_parts}
use Rattle.std.proofs.lemmas.List.{append-nil}
use Rattle.hare_tree.specs.declared.kind.Kind.TheVariants as ki
use Rattle.hare_tree.specs.declared.form.Sort.{Sort}
use Rattle.hare_tree.specs.declared.form.Sort.TheVariants as so
use Rattle.hare_tree.specs.declared.form.Lead.TheVariants as le
use Rattle.hare_tree.specs.Node.{Node, Nodes, branch, none, more, nodes_of}
use Rattle.hare_tree.specs.Shape.{is_shaped}
use Rattle.hare_tree.specs.Depth.{is_shallow}
use Rattle.hare_tree.specs.declared.tree.FileTree.{FileTree}
use Rattle.hare_tree.specs.declared.token.TokenKind.TheVariants as tk
use Rattle.hare_tree.specs.Spell.{word_token, all_led, spells, spell_all, spell_file}
use Rattle.hare_ways.specs.declared.way.Start.TheVariants.{Begins}
use Rattle.hare_ways.specs.declared.way.Way.{Way}
use Rattle.hare_ways.specs.Ways.{end_way, roots_ways, file_ways}
use Rattle.hare_ways.specs.Walk.{row_ways}
use Rattle.hare_ways.proofs.Walked.{roots-walk}
use Rattle.hare_commas.specs.Commas.{with_commas, tokens_with, AreSpread, without_comma, head_without, without_commas, kids_without, CommasStandInTrees}
use Rattle.hare_commas.proofs.AddedCommas.Spread.{spread-left, spread-next, with_commas-append}
use Rattle.hare_commas.proofs.AddedCommas.Tokens.{with-append}
use Rattle.hare_commas.proofs.WaysAgain.Kin.{Adds, Kin, IsNothing, comma_for}
use Rattle.hare_commas.proofs.WaysAgain.Kids.{row-again}
use Rattle.hare_commas.proofs.WaysAgain.Parts.{row_length}
use Rattle.hare_commas.proofs.WaysAgain.ListForms.{AreRegular}
use Rattle.hare_commas.proofs.WaysAgain.Trees.{kids-again}
use Rattle.hare_commas.proofs.StillShaped.Keeps.{both}
use Rattle.hare_commas.proofs.StillShaped.Shaped.{adds-keeps}
use Rattle.hare_commas.proofs.StillShaped.Deep.{deep-kept}
use Rattle.hare_commas.proofs.StillShaped.Regular.{shaped-regular}

-- ---- the same tree, but for commas

comma-without : (t : Node) → IsNothing t → without_commas (comma_for t) ≡ without_commas t
comma-without (branch h none) e =
    ap (λ k. branch (record { kind = k; place = h.place; text = h.text; number = h.number; suffix = h.suffix }) none)
    (sym (ap without_comma e))
comma-without (branch h (more t ts)) e = absurd e

mutual
  adds-without : (t u : Node) → Adds t u → without_commas u ≡ without_commas t
  adds-without (branch h ts) (branch k us) (e, inl n) =
      ap (λ g. branch (head_without g) (kids_without us)) (sym e) ∙ ap (branch (head_without h)) (kin-without false ts us n)
  adds-without (branch h ts) (branch k us) (e, inr n) =
      ap (λ g. branch (head_without g) (kids_without us)) (sym e) ∙ ap (branch (head_without h)) (kin-without true ts us n.2)

  pub kin-without : (e : Bool) (ts us : Nodes) → Kin e ts us → kids_without us ≡ kids_without ts
  kin-without e none none n = refl
  kin-without e none (more u us) n = absurd n
  kin-without e (more t ts) none n = absurd n
  kin-without e (more t ts) (more u us) (inl n) = λ i. more (adds-without t u n.1 i) (kin-without e ts us n.2 i)
  kin-without e (more t ts) (more u us) (inr n) =
      ap (λ x. more (without_commas u) (kids_without x)) (n.3 ∙ sym n.2)
      ∙ ap (λ x. more x (kids_without ts)) (ap without_commas n.4 ∙ comma-without t n.1)

-- ---- trees side by side

abbrev list_of : Nodes → List Node
list_of none = []
list_of (more t ts) = t ∷ list_of ts

nodes-list : (ts : Nodes) → nodes_of (list_of ts) ≡ ts
nodes-list none = refl
nodes-list (more t ts) = ap (more t) (nodes-list ts)

first_of_nodes : Node → Nodes → Node
first_of_nodes d none = d
first_of_nodes d (more t ts) = t

rest_of_nodes : Nodes → Nodes
rest_of_nodes none = none
rest_of_nodes (more t ts) = ts

list-without : (ts us : List Node) → kids_without (nodes_of us) ≡ kids_without (nodes_of ts) → map without_commas us ≡ map without_commas ts
unfolding first_of_nodes rest_of_nodes
list-without [] [] e = refl
list-without [] (u ∷ us) e = cc
list-without (t ∷ ts) [] e = cc
list-without (t ∷ ts) (u ∷ us) e = λ i. first_of_nodes (without_commas t) (e i) ∷ list-without ts us (ap rest_of_nodes e) i

regular-roots : (s : Sort) (ts : List Node) → list_all (is_shaped s) ts ≡ true → AreRegular (nodes_of ts)
regular-roots s [] e = tt
regular-roots s (t ∷ ts) e =
    let a = and_parts _ _ e in
    (shaped-regular s t a.0, regular-roots s ts a.1)

roots-keep : (p : Node → Bool) → ((t u : Node) → Adds t u → p t ≡ true → p u ≡ true) → (ts : List Node) (us : Nodes) →
    Kin false (nodes_of ts) us
    → list_all p ts ≡ true → list_all p (list_of us) ≡ true
roots-keep p f [] none k e = refl
roots-keep p f [] (more u us) k e = absurd k
roots-keep p f (t ∷ ts) none k e = absurd k
roots-keep p f (t ∷ ts) (more u us) (inl k) e =
    let a = and_parts (p t) (list_all p ts) e in both (p u) (list_all p (list_of us)) (f t u k.1 a.0) (roots-keep p f ts us k.2 a.1)
roots-keep p f (t ∷ ts) (more u us) (inr k) e = cc

-- ---- files

abbrev roots : List ℕ → ℕ → Nodes → List Way
roots cs n ts = row_ways cs ki.None Begins le.Nothing n ts

-- the trees behind `n` tokens again
record RootsAgain (cs ds : List ℕ) (n m : ℕ) (ts : List Node) : Type 0 where
  again : List Node
  same : map without_commas again ≡ map without_commas ts
  shaped : (s : Sort) → list_all (is_shaped s) ts ≡ true → list_all (is_shaped s) again ≡ true
  shallow : list_all is_shallow ts ≡ true → list_all is_shallow again ≡ true
  ways_are : roots_ways ds m again ≡ with_commas (roots cs n (nodes_of ts))
  spelled : spell_all 0 again ≡ tokens_with (roots cs n (nodes_of ts)) (spell_all 0 ts)

roots-again : (cs ds : List ℕ) (n m : ℕ) (ts : List Node) (s : Sort) → list_all (is_shaped s) ts ≡ true
    → AreSpread (roots cs n (nodes_of ts)) (drop n cs) (drop m ds) → RootsAgain cs ds n m ts
roots-again cs ds n m ts s e x =
    let a = row-again cs ds ki.None Begins le.Nothing n m (nodes_of ts) (kids-again cs ds (nodes_of ts) (regular-roots s ts e)) x in
    record {
      again = list_of a.kids;
      same = list-without ts (list_of a.kids) (ap kids_without (nodes-list a.kids) ∙ kin-without false (nodes_of ts) a.kids a.kin);
      shaped = λ r. roots-keep (is_shaped r) (λ t u k. (adds-keeps t u k).shaped r) ts a.kids a.kin;
      shallow = roots-keep is_shallow (λ t u k. deep-kept t u k 0 0 0 false) ts a.kids a.kin;
      ways_are = roots-walk ds m (list_of a.kids) ∙ ap (roots ds m) (nodes-list a.kids) ∙ a.ways_are
          ∙ append-nil (with_commas (roots cs n (nodes_of ts)));
      spelled = ap (λ us. all_led 0 le.Nothing (spells 0 us)) (nodes-list a.kids) ∙ a.spelled
          ∙ append-nil (tokens_with (roots cs n (nodes_of ts)) (spell_all 0 ts));
    }

-- how many tokens trees have
roots-length : (cs : List ℕ) (n : ℕ) (ts : List Node) → length (spell_all 0 ts) ≡ length (roots cs n (nodes_of ts))
roots-length cs n ts = sym (row_length cs ki.None Begins le.Nothing n (nodes_of ts))

again-length : (ds : List ℕ) (m : ℕ) (ts : List Node) (ws : List Way) → roots_ways ds m ts ≡ ws → length (spell_all 0 ts) ≡ length ws
again-length ds m ts ws e = roots-length ds m ts ∙ ap length (sym (roots-walk ds m ts)) ∙ ap length e

file-spelled : (t : FileTree) (uses decls : List Node) (u v : List Way) → t.file ≡ 0 → spell_all 0 uses ≡ tokens_with u (spell_all 0 t.uses)
    → spell_all 0 decls ≡ tokens_with v (spell_all 0 t.decls) → length u ≡ length (spell_all 0 t.uses)
    → length v ≡ length (spell_all 0 t.decls)
    → spell_file (record { file = t.file; uses = uses; decls = decls }) ≡ tokens_with (u ++ (v ++ end_way ∷ [])) (spell_file t)
file-spelled t uses decls u v e a b l k =
    let end = word_token 0 tk.End [] ∷ [] in
    let one = spell_all 0 t.uses in
    let two = spell_all 0 t.decls in
    ap (λ f. spell_file (record { file = f; uses = uses; decls = decls })) e
    ∙ (λ i. a i ++ (b i ++ end))
    ∙ ap (λ x. tokens_with u one ++ x) (sym (with-append v (end_way ∷ []) two end k))
    ∙ sym (with-append u (v ++ end_way ∷ []) one (two ++ end) l)
    ∙ ap (λ f. tokens_with (u ++ (v ++ end_way ∷ [])) (spell_file (record { file = f; uses = t.uses; decls = t.decls }))) (sym e)

zero-plus : (a : ℕ) → 0 + a ≡ a
zero-plus a = omega arith

pub commas-stand-in-trees : CommasStandInTrees
commas-stand-in-trees cs ds t shaped x =
    let s = and_parts _ _ shaped in
    let uses = roots cs 0 (nodes_of t.uses) in
    let n = length uses in
    let m = length (with_commas uses) in
    let decls = roots cs n (nodes_of t.decls) in
    let walk : file_ways cs t ≡ uses ++ (decls ++ end_way ∷ []) =
    ap (λ ws. ws ++ (roots_ways cs (length (spell_all 0 t.uses)) t.decls ++ end_way ∷ [])) (roots-walk cs 0 t.uses)
    ∙ ap (λ k. uses ++ (roots_ways cs k t.decls ++ end_way ∷ [])) (roots-length cs 0 t.uses)
    ∙ ap (λ ws. uses ++ (ws ++ end_way ∷ [])) (roots-walk cs n t.decls) in
    let spread = subst (λ ws. AreSpread ws cs ds) walk x in
    let behind = subst (λ k. AreSpread (decls ++ end_way ∷ []) (drop n cs) (drop k ds)) (zero-plus m)
    (subst (λ k. AreSpread (decls ++ end_way ∷ []) (drop k cs) (drop (0 + m) ds)) (zero-plus n)
    (spread-next uses (decls ++ end_way ∷ []) 0 0 cs ds spread)) in
    let a = roots-again cs ds 0 0 t.uses so.Use s.0 (spread-left uses (decls ++ end_way ∷ []) cs ds spread) in
    let b = roots-again cs ds n m t.decls so.Decl s.1 (spread-left decls (end_way ∷ []) (drop n cs) (drop m ds) behind) in
    let long : length (spell_all 0 a.again) ≡ m = again-length ds 0 a.again (with_commas uses) a.ways_are in
    record {
      again = record { file = t.file; uses = a.again; decls = b.again };
      same = λ i. record { file = t.file; uses = a.same i; decls = b.same i };
      fits = λ e.
          let f = and_parts _ _ e in
          let g = and_parts _ _ f.0 in
          let h = and_parts _ _ g.0 in
          both _ _ (both _ _ (both _ _ (a.shaped so.Use h.0) (b.shaped so.Decl h.1)) (a.shallow g.1)) (b.shallow f.1);
      ways_are = ap (λ ws. ws ++ (roots_ways ds (length (spell_all 0 a.again)) b.again ++ end_way ∷ [])) a.ways_are
          ∙ ap (λ k. with_commas uses ++ (roots_ways ds k b.again ++ end_way ∷ [])) long
          ∙ ap (λ ws. with_commas uses ++ (ws ++ end_way ∷ [])) b.ways_are
          ∙ ap (λ ws. with_commas uses ++ ws) (sym (with_commas-append decls (end_way ∷ [])))
          ∙ sym (with_commas-append uses (decls ++ end_way ∷ [])) ∙ ap with_commas (sym walk);
      spelled = λ e. file-spelled t a.again b.again uses decls e a.spelled b.spelled (sym (roots-length cs 0 t.uses))
          (sym (roots-length cs n t.decls)) ∙ ap (λ ws. tokens_with ws (spell_file t)) (sym walk);
    }
