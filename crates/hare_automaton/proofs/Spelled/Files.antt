-- Files: imports and then declarations are read from their tokens, so that tokens are those of one file.
use Rattle.std.proofs.Common.{◌≡◌, ℕ, ◌≤◌, List, [], ◌∷◌, ◌++◌, Bool, true, false, map, length, if◌then◌else◌, refl, ap, sym, ◌∙◌, subst, arith, append_assoc}
use Rattle.std.specs.List.{list_all}
use Rattle.hare_tree.specs.declared.token.TokenKind.TheVariants as tk
use Rattle.hare_tree.specs.declared.token.Token.{Token}
use Rattle.hare_tree.specs.declared.kind.Kind.{Kind}
use Rattle.hare_tree.specs.declared.kind.Kind.TheVariants as ki
use Rattle.hare_tree.specs.declared.form.Sign.{Sign}
use Rattle.hare_tree.specs.declared.form.Sign.TheVariants as si
use Rattle.hare_tree.specs.declared.form.Sort.{Sort}
use Rattle.hare_tree.specs.declared.form.Sort.TheVariants as so
use Rattle.hare_tree.specs.declared.form.Lead.TheVariants as le
use Rattle.hare_tree.specs.declared.tree.FileTree.{FileTree}
use Rattle.hare_tree.specs.Node.{Node, Nodes, branch, none, more, head, nodes_of, size_of}
use Rattle.hare_tree.specs.Levels.{admits}
use Rattle.hare_tree.specs.Signs.{is_sign}
use Rattle.hare_tree.specs.Spell.{start_of, word_token, spell, spells, spell_all, spell_file}
use Rattle.hare_tree.specs.Shape.{is_shaped, is_shaped_file, stops}
use Rattle.hare_tree.specs.Depth.{begins_led}
use Rattle.hare_tree.proofs.Low.Fitting.{fits_file_parts}
use Rattle.hare_tree.specs.Grammar.{HavePlaces, unplaced, joined}
use Rattle.hare_automaton.specs.declared.class.Class.{Class}
use Rattle.hare_automaton.specs.declared.class.Class.TheVariants as cl
use Rattle.hare_automaton.specs.declared.rule.Rule.TheVariants as ru
use Rattle.hare_automaton.specs.declared.rule.Symbol.{Symbol}
use Rattle.hare_automaton.specs.declared.rule.Change.{Change}
use Rattle.hare_automaton.specs.Classes.{class_of}
use Rattle.hare_automaton.specs.Rows.{Fault, Skips, Uses, part, before, or_skips}
use Rattle.hare_automaton.specs.DeclarationRows.{of_row}
use Rattle.hare_automaton.specs.Table.{row}
use Rattle.hare_automaton.specs.Engine.{Group, begun, with_kids, Outcome, Done, run, bottom}
use Rattle.hare_automaton.specs.OneTree.{plain, plains, plain_head, plain_file, is_sort as covered, file_symbols, FilesHaveOneTree, TokensHaveOneFile}
use Rattle.hare_automaton.proofs.Machine.Steps.{front, run_skip, run_done}
use Rattle.hare_automaton.proofs.Spelled.Paths.{split}
use Rattle.hare_automaton.proofs.Spelled.Lists.{plain_list, filled, fill_more, fill_none, run_group, shape}
use Rattle.hare_automaton.proofs.Machine.Edges.{pull, bound, closed_by, stops_calm, read_kid}
use Rattle.hare_automaton.proofs.Spelled.Kids.{begins, run_or}
use Rattle.hare_automaton.proofs.Spelled.Expressions.{reads}
use Rattle.hare_automaton.proofs.Machine.Still.{put_at, Still, still_append, still_led, still_spells}
use Rattle.hare_automaton.proofs.Unambiguous.Places.{spells_plain, have_places_decide}

-- ---- trees side by side

-- what may stand behind a declaration, and behind an import
abbrev begins_decl : Class → Bool
begins_decl (cl.Sign si.Export) = true
begins_decl (cl.Sign si.Def) = true
begins_decl (cl.Sign si.Let) = true
begins_decl (cl.Sign si.Const) = true
begins_decl (cl.Sign si.Type) = true
begins_decl (cl.Sign si.Fn) = true
begins_decl cl.Junk = true
begins_decl _ = false

abbrev begins_any : Class → Bool
begins_any (cl.Sign si.Use) = true
begins_any c = begins_decl c

decl_any : (c : Class) → begins_decl c ≡ true → begins_any c ≡ true
decl_any (cl.Sign si.Use) e = refl
decl_any (cl.Sign _) e = e
decl_any _ e = e

any_pull : (c : Class) → begins_any c ≡ true → pull c ≡ 0
any_pull (cl.Sign si.Use) e = refl
any_pull (cl.Sign si.Export) e = refl
any_pull (cl.Sign si.Def) e = refl
any_pull (cl.Sign si.Let) e = refl
any_pull (cl.Sign si.Const) e = refl
any_pull (cl.Sign si.Type) e = refl
any_pull (cl.Sign si.Fn) e = refl
any_pull (cl.Sign _) e = cc
any_pull cl.Junk e = refl
any_pull _ e = cc

any_calm : (d : Sign) → begins_any (cl.Sign d) ≡ true → (is_sign si.Else d ≡ false) × (is_sign si.Comma d ≡ false)
any_calm si.Use e = (refl, refl)
any_calm si.Export e = (refl, refl)
any_calm si.Def e = (refl, refl)
any_calm si.Let e = (refl, refl)
any_calm si.Const e = (refl, refl)
any_calm si.Type e = (refl, refl)
any_calm si.Fn e = (refl, refl)
any_calm _ e = cc

-- a sort of the trees of a file, and what may stand behind one
record Tops (s : Sort) (may : Class → Bool) : Type 0 where
  sort : covered s ≡ true
  wide : bound s ≡ 18
  anywhere : (c : Class) → closed_by s c ≡ true
  first : (c : Class) (cs : List Change) (ss : List Symbol) → of_row s c ≡ Uses cs ss → may c ≡ true
  any : (c : Class) → may c ≡ true → begins_any c ≡ true

use_first : (c : Class) (cs : List Change) (ss : List Symbol) → of_row so.Use c ≡ Uses cs ss → begins_any c ≡ true
use_first (cl.Sign si.Use) cs ss e = refl
use_first (cl.Sign _) cs ss e = cc
use_first _ cs ss e = cc

decl_first : (c : Class) (cs : List Change) (ss : List Symbol) → of_row so.Decl c ≡ Uses cs ss → begins_decl c ≡ true
decl_first (cl.Sign si.Export) cs ss e = refl
decl_first (cl.Sign si.Def) cs ss e = refl
decl_first (cl.Sign si.Let) cs ss e = refl
decl_first (cl.Sign si.Const) cs ss e = refl
decl_first (cl.Sign si.Type) cs ss e = refl
decl_first (cl.Sign si.Fn) cs ss e = refl
decl_first (cl.Sign _) cs ss e = cc
decl_first _ cs ss e = cc

uses_top : Tops so.Use begins_any
uses_top = record { sort = refl; wide = refl; anywhere = λ c. refl; first = use_first; any = λ c e. e }

decls_top : Tops so.Decl begins_decl
decls_top = record { sort = refl; wide = refl; anywhere = λ c. refl; first = decl_first; any = decl_any }

-- trees that are read, and what stands in front of them
record Side (f : ℕ) (s : Sort) (may : Class → Bool) (w : List Token) (ts : List Node) (st : List Symbol) (g : Group)
    (gs : List Group) : Type 0 where
  next : may (front (spell_all f ts ++ w)) ≡ true
  runs : run f (spell_all f ts ++ w) (part (ru.Each s) ∷ st) (g ∷ gs) ≡ run f w st (filled f g (nodes_of ts) ∷ gs)

read_each : (f : ℕ) (s : Sort) (may : Class → Bool) → Tops s may → (ts : List Node) → list_all (is_shaped s) ts ≡ true →
    (w : List Token) (st : List Symbol) (g : Group) (gs : List Group) → may (front w) ≡ true → of_row s (front w) ≡ Fault →
    Side f s may w ts st g gs
unfolding spell
read_each f s may q [] h w st g gs m o =
    let r : row (ru.Each s) (front w) ≡ Skips [] = ap (λ y. or_skips (before y (part (ru.Each s) ∷ [])) []) o in
    record { next = m; runs = run_skip f w (ru.Each s) st (g ∷ gs) r ∙ run_group f w st gs _ _ (sym (fill_none f g)) }
read_each f s may q (t ∷ ts) h w st g gs m o =
    let p = split (is_shaped s t) (list_all (is_shaped s) ts) h in
    let r = read_each f s may q ts p.1 w st (with_kids g (g.kids ++ plain f t ∷ [])) gs m o in
    let v = spell_all f ts in
    let b = begins f (size_of t) (reads f (size_of t)) s t (omega arith) q.sort p.0 in
    let y = q.any (front (v ++ w)) r.next in
    let fits : pull (front (v ++ w)) ≤ bound s = rw (any_pull (front (v ++ w)) y, q.wide) (omega arith) in
    let calm : (d : Sign) → front (v ++ w) ≡ cl.Sign d → stops d t ≡ true = λ d i. let c =
    any_calm d (subst (λ z. begins_any z ≡ true) i y) in stops_calm d c.0 c.1 t in
    record {
      next = rw (append_assoc (spell f t) v w, b.is) (q.first (class_of b.head) b.changes b.symbols b.uses);
      runs = rw (append_assoc (spell f t) v w)
          (run_or f s (ru.Each s) [] (part (ru.Each s) ∷ []) (spell f t) (v ++ w) st (g ∷ gs) (λ c. refl) b
          ∙ read_kid f (size_of t) (reads f (size_of t)) s t (omega arith) q.sort p.0 (v ++ w) _ g gs fits calm
          (q.anywhere (front (v ++ w)))
          ∙ r.runs
          ∙ run_group f w st gs _ _ (fill_more f g t (nodes_of ts)));
    }

-- ---- a whole file

decl_is_no_use : (c : Class) → begins_decl c ≡ true → of_row so.Use c ≡ Fault
decl_is_no_use (cl.Sign si.Use) e = cc
decl_is_no_use (cl.Sign _) e = refl
decl_is_no_use _ e = refl

-- the end of a file
abbrev end : ℕ → Token
end f = word_token f tk.End []

pub read_file : (t : FileTree) → is_shaped_file t ≡ true →
    run t.file (spell_file t) file_symbols bottom ≡
    Done (end t.file ∷ []) (begun (start_of 0) (plain_list t.file (nodes_of t.uses) ++ plain_list t.file (nodes_of t.decls)) ∷ [])
read_file t h =
    let f = t.file in
    let p = split (list_all (is_shaped so.Use) t.uses) (list_all (is_shaped so.Decl) t.decls) h in
    let g = begun (start_of 0) [] in
    let d = read_each f so.Decl begins_decl decls_top t.decls p.1 (end f ∷ []) [] (filled f g (nodes_of t.uses)) [] refl refl in
    let u = read_each f so.Use begins_any uses_top t.uses p.0 (spell_all f t.decls ++ end f ∷ []) (part (ru.Each so.Decl) ∷ []) g []
    (decl_any (front (spell_all f t.decls ++ end f ∷ [])) d.next) (decl_is_no_use (front (spell_all f t.decls ++ end f ∷ [])) d.next) in
    u.runs ∙ d.runs ∙ run_done f (end f) [] _

-- ---- imports and declarations side by side can be told apart

abbrev is_use : Node → Bool
is_use t = admits so.Use (head t).kind []

abbrev imports_in : List Node → List Node
imports_in [] = []
imports_in (t ∷ ts) = if is_use t then t ∷ imports_in ts else []

abbrev others_in : List Node → List Node
others_in [] = []
others_in (t ∷ ts) = if is_use t then others_in ts else t ∷ ts

shaped_use : (t : Node) → is_shaped so.Use t ≡ true → is_use t ≡ true
shaped_use (branch h ts) e = by h.kind h.text (shape so.Use h ts e).admitted
  where
    by : (k : Kind) (x : List ℕ) → admits so.Use k x ≡ true → admits so.Use k [] ≡ true
    by ki.Use x a = refl
    by ki.UseAlias x a = refl
    by ki.UseNames x a = refl
    by _ x a = cc

shaped_decl : (t : Node) → is_shaped so.Decl t ≡ true → is_use t ≡ false
shaped_decl (branch h ts) e = by h.kind h.text (shape so.Decl h ts e).admitted
  where
    by : (k : Kind) (x : List ℕ) → admits so.Decl k x ≡ true → admits so.Use k [] ≡ false
    by ki.Use x a = cc
    by ki.UseAlias x a = cc
    by ki.UseNames x a = cc
    by _ x a = refl

plain_kind : (f : ℕ) (t : Node) → is_use (plain f t) ≡ is_use t
plain_kind f (branch h ts) = refl

told_apart : (f : ℕ) (us ds : List Node) → list_all (is_shaped so.Use) us ≡ true → list_all (is_shaped so.Decl) ds ≡ true →
    (imports_in (plain_list f (nodes_of us) ++ plain_list f (nodes_of ds)) ≡ plain_list f (nodes_of us)) ×
    (others_in (plain_list f (nodes_of us) ++ plain_list f (nodes_of ds)) ≡ plain_list f (nodes_of ds))
told_apart f [] [] a b = (refl, refl)
told_apart f [] (d ∷ ds) a b =
    let p = split (is_shaped so.Decl d) (list_all (is_shaped so.Decl) ds) b in
    rw (plain_kind f d, shaped_decl d p.0) (refl, refl)
told_apart f (u ∷ us) ds a b =
    let p = split (is_shaped so.Use u) (list_all (is_shaped so.Use) us) a in
    let r = told_apart f us ds p.1 b in
    rw (plain_kind f u, shaped_use u p.0) (ap (λ l. plain f u ∷ l) r.0, r.1)

-- ---- files have one tree

same_file : (t t' : FileTree) → t.file ≡ t'.file → t.uses ≡ t'.uses → t.decls ≡ t'.decls → t ≡ t'
same_file t t' a b c =
    ap (λ y. let x : FileTree = record { file = y; uses = t.uses; decls = t.decls } in x) a
    ∙ ap (λ y. let x : FileTree = record { file = t'.file; uses = y; decls = t.decls } in x) b
    ∙ ap (λ y. let x : FileTree = record { file = t'.file; uses = t'.uses; decls = y } in x) c

plain_map : (f : ℕ) (ts : List Node) → plain_list f (nodes_of ts) ≡ map (plain f) ts
plain_map f [] = refl
plain_map f (t ∷ ts) = ap (λ l. plain f t ∷ l) (plain_map f ts)

abbrev kids_in : Outcome → List Node
kids_in (Done u (g ∷ gs)) = g.kids
kids_in _ = []

pub files_have_one_tree : FilesHaveOneTree
files_have_one_tree t t' i h h' e =
    let f = t.file in
    let a = read_file t h in
    let b = read_file t' h' in
    let p = split (list_all (is_shaped so.Use) t.uses) (list_all (is_shaped so.Decl) t.decls) h in
    let p' = split (list_all (is_shaped so.Use) t'.uses) (list_all (is_shaped so.Decl) t'.decls) h' in
    let d : run f (spell_file t) file_symbols bottom ≡ run t'.file (spell_file t') file_symbols bottom =
    ap (λ u. run f u file_symbols bottom) e ∙ ap (λ y. run y (spell_file t') file_symbols bottom) i in
    let k : plain_list f (nodes_of t.uses) ++ plain_list f (nodes_of t.decls) ≡
    plain_list t'.file (nodes_of t'.uses) ++ plain_list t'.file (nodes_of t'.decls) = ap kids_in (sym a ∙ d ∙ b) in
    let x = told_apart f t.uses t.decls p.0 p.1 in
    let x' = told_apart t'.file t'.uses t'.decls p'.0 p'.1 in
    let us : map (plain f) t.uses ≡ map (plain t'.file) t'.uses =
    sym (plain_map f t.uses) ∙ sym x.0 ∙ ap imports_in k ∙ x'.0 ∙ plain_map t'.file t'.uses in
    let ds : map (plain f) t.decls ≡ map (plain t'.file) t'.decls =
    sym (plain_map f t.decls) ∙ sym x.1 ∙ ap others_in k ∙ x'.1 ∙ plain_map t'.file t'.decls in
    same_file (plain_file t) (plain_file t') i us ds

-- ---- the same with places

mutual
  plain_plain : (f : ℕ) (t : Node) → plain 0 (plain f t) ≡ plain 0 t
  plain_plain f (branch h ts) = ap (branch (plain_head 0 h)) (plains_plains f ts)

  plains_plains : (f : ℕ) (ts : Nodes) → plains 0 (plains f ts) ≡ plains 0 ts
  plains_plains f none = refl
  plains_plains f (more t ts) = rw (plain_plain f t, plains_plains f ts) refl

abbrev list_in : Nodes → List Node
list_in none = []
list_in (more t ts) = t ∷ list_in ts

list_back : (ts : List Node) → list_in (nodes_of ts) ≡ ts
list_back [] = refl
list_back (t ∷ ts) = ap (λ l. t ∷ l) (list_back ts)

nodes_plain : (f : ℕ) (ts : List Node) → nodes_of (map (plain f) ts) ≡ plains f (nodes_of ts)
nodes_plain f [] = refl
nodes_plain f (t ∷ ts) = ap (more (plain f t)) (nodes_plain f ts)

-- trees side by side are equal where they are so but for places and have their places
side_by_side : (f : ℕ) (ts : List Token) (n n' : ℕ) (us us' : List Node) → n ≡ n' → map (plain f) us ≡ map (plain f) us' →
    HavePlaces f ts (begins_led le.Nothing n (spells 0 (nodes_of us))) (nodes_of us) →
    HavePlaces f ts (begins_led le.Nothing n' (spells 0 (nodes_of us'))) (nodes_of us') → us ≡ us'
side_by_side f ts n n' us us' i e p p' =
    let a : plains f (nodes_of us) ≡ plains f (nodes_of us') = sym (nodes_plain f us) ∙ ap nodes_of e ∙ nodes_plain f us' in
    let b : plains 0 (nodes_of us) ≡ plains 0 (nodes_of us') =
    sym (plains_plains f (nodes_of us)) ∙ ap (plains 0) a ∙ plains_plains f (nodes_of us') in
    let c : spells 0 (nodes_of us') ≡ spells 0 (nodes_of us) =
    sym (spells_plain 0 0 (nodes_of us')) ∙ ap (spells 0) (sym b) ∙ spells_plain 0 0 (nodes_of us) in
    let q = subst (λ y. HavePlaces f ts (begins_led le.Nothing y (spells 0 (nodes_of us'))) (nodes_of us')) (sym i) p' in
    let q' = subst (λ y. HavePlaces f ts (begins_led le.Nothing n y) (nodes_of us')) c q in
    sym (list_back us) ∙ ap list_in (have_places_decide f ts (begins_led le.Nothing n (spells 0 (nodes_of us))) (nodes_of us) (nodes_of us')
    b p q') ∙ list_back us'

-- a list of tokens says what it says but for places
still_file : (t : FileTree) → Still t.file (spell_file t)
still_file t =
    let f = t.file in
    still_append f (spell_all f t.uses) (spell_all f t.decls ++ end f ∷ [])
    (still_led f le.Nothing (spells f (nodes_of t.uses)) (still_spells f (nodes_of t.uses)))
    (still_append f (spell_all f t.decls) (end f ∷ [])
    (still_led f le.Nothing (spells f (nodes_of t.decls)) (still_spells f (nodes_of t.decls))) refl)

put_unplaced : (f : ℕ) (u : List Token) → map (put_at f) (map unplaced u) ≡ map (put_at f) u
put_unplaced f [] = refl
put_unplaced f (x ∷ u) = ap (λ l. put_at f x ∷ l) (put_unplaced f u)

pub tokens_have_one_file : TokensHaveOneFile
tokens_have_one_file file ts t t' p p' =
    let i : t.file ≡ t'.file = p.file_is ∙ sym p'.file_is in
    let e : spell_file t ≡ spell_file t' =
    sym (still_file t) ∙ sym (put_unplaced t.file (spell_file t)) ∙ ap (λ u. map (put_at t.file) u) (p.spelled ∙ sym p'.spelled) ∙
    put_unplaced t.file (spell_file t') ∙ ap (λ y. map (put_at y) (spell_file t')) i ∙ still_file t' in
    let q = files_have_one_tree t t' i (fits_file_parts t p.fits).0 (fits_file_parts t' p'.fits).0 e in
    let us : map (plain file) t.uses ≡ map (plain file) t'.uses =
    subst (λ y. map (plain y) t.uses ≡ map (plain file) t'.uses) p.file_is
    (subst (λ y. map (plain t.file) t.uses ≡ map (plain y) t'.uses) p'.file_is (ap (λ y. y.uses) q)) in
    let ds : map (plain file) t.decls ≡ map (plain file) t'.decls =
    subst (λ y. map (plain y) t.decls ≡ map (plain file) t'.decls) p.file_is
    (subst (λ y. map (plain t.file) t.decls ≡ map (plain y) t'.decls) p'.file_is (ap (λ y. y.decls) q)) in
    let pu = subst (λ y. HavePlaces y (joined ts) (begins_led le.Nothing 0 (spells 0 (nodes_of t.uses))) (nodes_of t.uses)) p.file_is
    p.placed.uses in
    let pu' = subst (λ y. HavePlaces y (joined ts) (begins_led le.Nothing 0 (spells 0 (nodes_of t'.uses))) (nodes_of t'.uses)) p'.file_is
    p'.placed.uses in
    let n = length (spell_all 0 t.uses) in
    let n' = length (spell_all 0 t'.uses) in
    let pd = subst (λ y. HavePlaces y (joined ts) (begins_led le.Nothing n (spells 0 (nodes_of t.decls))) (nodes_of t.decls)) p.file_is
    p.placed.decls in
    let pd' = subst (λ y. HavePlaces y (joined ts) (begins_led le.Nothing n' (spells 0 (nodes_of t'.decls))) (nodes_of t'.decls)) p'.file_is
    p'.placed.decls in
    let a = side_by_side file (joined ts) 0 0 t.uses t'.uses refl us pu pu' in
    let b = side_by_side file (joined ts) n n' t.decls t'.decls (ap (λ y. length (spell_all 0 y)) a) ds pd pd' in
    same_file t t' i a b
