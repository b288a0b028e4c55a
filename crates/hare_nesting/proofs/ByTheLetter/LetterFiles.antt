-- By the letter and as they are read, the imports and declarations of a file pass the limits at the same tokens.
use Rattle.std.proofs.Common.{◌≡◌, ℕ, ◌+◌, ◌≤◌, List, [], ◌∷◌, ◌++◌, Bool, true, false, map, length, refl, ap, sym, ◌∙◌, subst, arith}
use Rattle.std.proofs.Common.{if◌then◌else◌}
use Rattle.std.specs.Prelude.{◌||◌}
use Rattle.std.specs.List.{list_all}
use Rattle.std.proofs.lemmas.List.{length-append}
use Rattle.hare_tree.specs.declared.kind.Kind.{Kind}
use Rattle.hare_tree.specs.declared.kind.Kind.TheVariants as ki
use Rattle.hare_tree.specs.declared.token.Token.{Token}
use Rattle.hare_tree.specs.declared.form.Sort.{Sort}
use Rattle.hare_tree.specs.declared.form.Sort.TheVariants as so
use Rattle.hare_tree.specs.declared.form.Lead.TheVariants as le
use Rattle.hare_tree.specs.Node.{Node, branch, nodes_of}
use Rattle.hare_tree.specs.Levels.{admits}
use Rattle.hare_tree.specs.Spell.{start_of, spells, spell_all}
use Rattle.hare_tree.specs.Shape.{is_shaped}
use Rattle.hare_tree.specs.Depth.{is_node, begins_led, deep_all}
use Rattle.hare_tree.specs.Grammar.{place_of, HavePlaces}
use Rattle.hare_automaton.specs.Engine.{begun}
use Rattle.hare_automaton.proofs.Spelled.Paths.{split}
use Rattle.hare_automaton.proofs.Spelled.Lists.{shape}
use Rattle.hare_nesting.specs.Marks.{lies_before}
use Rattle.hare_nesting.proofs.UnderWay.Stacks.{mark, left_faults, faults_of, first_faults, kid_faults, stack_faults, Gains}
use Rattle.hare_nesting.proofs.Telling.Claims.{Rises}
use Rattle.hare_nesting.proofs.ByTheLetter.Begins.{side_within}
use Rattle.hare_nesting.proofs.ByTheLetter.FormKids.{all_have_forms}
use Rattle.hare_nesting.proofs.ByTheLetter.OnList.{on, on_append, on_map, same_or, same_numbers}
use Rattle.hare_nesting.proofs.ByTheLetter.LetterTrees.{line, kids_agree}
use Rattle.hare_nesting.proofs.ByTheLetter.Letter.{all_agree}

-- What is read of a file: imports and declarations, with the places of their tokens.
pub record Placed (f : ℕ) (ts : List Token) (uses decls : List Node) : Type 0 where
  pub uses_shaped : list_all (is_shaped so.Use) uses ≡ true
  pub decls_shaped : list_all (is_shaped so.Decl) decls ≡ true
  pub within : length (spell_all 0 uses ++ spell_all 0 decls) ≤ length ts
  pub uses_placed : HavePlaces f ts (begins_led le.Nothing 0 (spells 0 (nodes_of uses))) (nodes_of uses)
  pub decls_placed : HavePlaces f ts (begins_led le.Nothing (length (spell_all 0 uses)) (spells 0 (nodes_of decls))) (nodes_of decls)

abbrev pub deep_file : List Node → List Node → List ℕ
deep_file uses decls = deep_all 0 uses ++ deep_all (length (spell_all 0 uses)) decls

abbrev pub FileFaultsAgree : Type 0
FileFaultsAgree =
    (f : ℕ) (ts : List Token) (uses decls : List Node) → Rises ts → Placed f ts uses decls →
    Gains (map (λ k. (place_of ts k).line) (deep_file uses decls)) (first_faults 1 0 false (nodes_of (uses ++ decls))) []

-- as the stack of a whole file has them
abbrev pub FileStacksAgree : Type 0
FileStacksAgree =
    (f : ℕ) (ts : List Token) (uses decls : List Node) → Rises ts → Placed f ts uses decls →
    Gains (map (λ k. (place_of ts k).line) (deep_file uses decls)) (stack_faults [] (begun (start_of 0) (uses ++ decls) ∷ [])) []

-- ---- trees side by side

side_by_side : (f : ℕ) (ts : List Token) (s : Sort) (n : ℕ) (us : List Node) → Rises ts → list_all (is_shaped s) us ≡ true →
    n + length (spell_all 0 us) ≤ length ts → HavePlaces f ts (begins_led le.Nothing n (spells 0 (nodes_of us))) (nodes_of us) → (x : ℕ) →
    on x (map (line ts) (deep_all n us)) ≡ on x (kid_faults 0 (nodes_of us))
side_by_side f ts s n us r e l p x =
    let ss = spells 0 (nodes_of us) in
    let ns = begins_led le.Nothing n ss in
    let high = n + length (spell_all 0 us) in
    kids_agree ts ns (nodes_of us) (all_agree f ts n high ns (nodes_of us) r (all_have_forms s us e) (side_within n ss) l p) 0 x

on_both : (o x : ℕ) (us vs : List Node) → on x (kid_faults o (nodes_of (us ++ vs))) ≡
    (on x (kid_faults o (nodes_of us)) || on x (kid_faults o (nodes_of vs)))
unfolding faults_of
on_both o x [] vs = refl
on_both o x (u ∷ us) vs =
    let a = faults_of o u in
    let b = kid_faults o (nodes_of us) in
    let c = kid_faults o (nodes_of vs) in
    on_append x a (kid_faults o (nodes_of (us ++ vs)))
    ∙ same_or (on x a) _ _ _ refl (on_both o x us vs)
    ∙ regroup (on x a) (on x b) (on x c)
    ∙ ap (λ z. z || on x c) (sym (on_append x a b))
  where
    regroup : (a b c : Bool) → (a || (b || c)) ≡ ((a || b) || c)
    regroup true b c = refl
    regroup false b c = refl

-- no node is open round trees side by side
first_of_all : (us : List Node) → first_faults 1 0 false (nodes_of us) ≡ kid_faults 0 (nodes_of us)
unfolding faults_of
first_of_all [] = refl
first_of_all (u ∷ us) = by (lies_before (mark u) 1)
  where
    by : (b : Bool) → faults_of (if b then 0 else 0) u ++ kid_faults 0 (nodes_of us) ≡ faults_of 0 u ++ kid_faults 0 (nodes_of us)
    by true = refl
    by false = refl

pub file_faults_agree : FileFaultsAgree
file_faults_agree f ts uses decls r p =
    let n = length (spell_all 0 uses) in
    let l = p.within in
    let a = length-append (spell_all 0 uses) (spell_all 0 decls) in
    same_numbers _ _ (λ x.
    on_map (line ts) x (deep_all 0 uses) (deep_all n decls)
    ∙ same_or _ _ _ _ (side_by_side f ts so.Use 0 uses r p.uses_shaped (omega (arith, l, a)) p.uses_placed x)
    (side_by_side f ts so.Decl n decls r p.decls_shaped (omega (arith, l, a)) p.decls_placed x)
    ∙ sym (ap (on x) (first_of_all (uses ++ decls)) ∙ on_both 0 x uses decls))

-- ---- the stack of a whole file

no_node : (s : Sort) (t : Node) → is_shaped s t ≡ true → ((k : Kind) (x : List ℕ) → admits s k x ≡ true → is_node k ≡ false) →
    (mark t).node ≡ false
no_node s (branch h ts) e k = k h.kind h.text (shape s h ts e).admitted

use_is_no_node : (k : Kind) (x : List ℕ) → admits so.Use k x ≡ true → is_node k ≡ false
use_is_no_node ki.Use x e = refl
use_is_no_node _ x e = cc

decl_is_no_node : (k : Kind) (x : List ℕ) → admits so.Decl k x ≡ true → is_node k ≡ false
decl_is_no_node ki.Fn x e = refl
decl_is_no_node _ x e = cc

no_left : (uses decls : List Node) → list_all (is_shaped so.Use) uses ≡ true → list_all (is_shaped so.Decl) decls ≡ true →
    left_faults 0 1 (map mark (uses ++ decls)) ≡ []
no_left [] [] e f = refl
no_left [] (t ∷ ts) e f = rw (no_node so.Decl t (split (is_shaped so.Decl t) (list_all (is_shaped so.Decl) ts) f).0 decl_is_no_node) refl
no_left (t ∷ ts) decls e f = rw (no_node so.Use t (split (is_shaped so.Use t) (list_all (is_shaped so.Use) ts) e).0 use_is_no_node) refl

pub file_stacks_agree : FileStacksAgree
unfolding stack_faults
file_stacks_agree f ts uses decls r p =
    subst (λ z. Gains (map (line ts) (deep_file uses decls)) (z ++ first_faults 1 0 false (nodes_of (uses ++ decls))) [])
    (sym (no_left uses decls p.uses_shaped p.decls_shaped)) (file_faults_agree f ts uses decls r p)
