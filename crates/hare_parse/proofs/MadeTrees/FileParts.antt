-- The parts of a file are told apart by the kinds of its trees.
use Rattle.std.proofs.Common.{◌≡◌, ℕ, List, [], ◌∷◌, ◌++◌, true, false, refl, ap, sym, ◌∙◌}
use Rattle.std.specs.List.{list_all}
use Rattle.hare_tree.specs.declared.kind.Kind.{Kind}
use Rattle.hare_tree.specs.declared.kind.Kind.TheVariants as ki
use Rattle.hare_tree.specs.declared.form.Sort.{Sort}
use Rattle.hare_tree.specs.declared.form.Sort.TheVariants as so
use Rattle.hare_tree.specs.Node.{Node, branch, head}
use Rattle.hare_tree.specs.Levels.{admits}
use Rattle.hare_tree.specs.Shape.{is_shaped}
use Rattle.hare_automaton.proofs.Spelled.Paths.{split}
use Rattle.hare_automaton.proofs.Spelled.Nodes.{whole}
use Rattle.hare_parse.specs.Files.{is_import, imports, others, HaveSorts}

use_kind : (k : Kind) (x : List ℕ) → admits so.Use k x ≡ true → is_import k ≡ true
use_kind ki.Use x e = refl
use_kind ki.UseAlias x e = refl
use_kind ki.UseNames x e = refl
use_kind _ x e = cc

decl_kind : (k : Kind) (x : List ℕ) → admits so.Decl k x ≡ true → is_import k ≡ false
decl_kind ki.Use x e = cc
decl_kind ki.UseAlias x e = cc
decl_kind ki.UseNames x e = cc
decl_kind _ x e = refl

admitted : (s : Sort) (t : Node) → is_shaped s t ≡ true → admits s (head t).kind (head t).text ≡ true
admitted s (branch h ts) e = (whole s h ts e).admitted

is_use : (t : Node) → is_shaped so.Use t ≡ true → is_import (head t).kind ≡ true
is_use t e = use_kind (head t).kind (head t).text (admitted so.Use t e)

is_no_use : (t : Node) → is_shaped so.Decl t ≡ true → is_import (head t).kind ≡ false
is_no_use t e = decl_kind (head t).kind (head t).text (admitted so.Decl t e)

imports_are : (us ds : List Node) → list_all (is_shaped so.Use) us ≡ true → list_all (is_shaped so.Decl) ds ≡ true → imports (us ++ ds) ≡ us
imports_are [] [] a b = refl
imports_are [] (d ∷ ds) a b =
    let p = split (is_shaped so.Decl d) (list_all (is_shaped so.Decl) ds) b in
    rw (is_no_use d p.0) (imports_are [] ds a p.1)
imports_are (u ∷ us) ds a b =
    let p = split (is_shaped so.Use u) (list_all (is_shaped so.Use) us) a in
    rw (is_use u p.0) (ap (λ l. u ∷ l) (imports_are us ds p.1 b))

others_are : (us ds : List Node) → list_all (is_shaped so.Use) us ≡ true → list_all (is_shaped so.Decl) ds ≡ true → others (us ++ ds) ≡ ds
others_are [] [] a b = refl
others_are [] (d ∷ ds) a b =
    let p = split (is_shaped so.Decl d) (list_all (is_shaped so.Decl) ds) b in
    rw (is_no_use d p.0) (ap (λ l. d ∷ l) (others_are [] ds a p.1))
others_are (u ∷ us) ds a b =
    let p = split (is_shaped so.Use u) (list_all (is_shaped so.Use) us) a in
    rw (is_use u p.0) (others_are us ds p.1 b)

pub imports_in : (us ds : List Node) → HaveSorts us ds → imports (us ++ ds) ≡ us
imports_in us ds s = imports_are us ds s.uses_shaped s.decls_shaped

pub others_in : (us ds : List Node) → HaveSorts us ds → others (us ++ ds) ≡ ds
others_in us ds s = others_are us ds s.uses_shaped s.decls_shaped

-- so a list of trees is imports and declarations in one way
pub parts_once : (us ds vs es : List Node) → HaveSorts us ds → HaveSorts vs es → us ++ ds ≡ vs ++ es → (us ≡ vs) × (ds ≡ es)
parts_once us ds vs es s t e =
    (sym (imports_in us ds s) ∙ ap imports e ∙ imports_in vs es t, sym (others_in us ds s) ∙ ap others e ∙ others_in vs es t)
