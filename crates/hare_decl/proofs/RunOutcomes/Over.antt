-- Where imports and declarations are read: what the token behind them makes of the file.
use Rattle.std.proofs.Common.{◌≡◌, ℕ, suc, ◌<◌, List, [], ◌∷◌, true, false, drop, length, refl, ap, sym, ◌∙◌, subst}
use Rattle.std.specs.List.{list_all}
use Rattle.hare_tree.specs.declared.token.Token.{Token}
use Rattle.hare_tree.specs.declared.form.Sort.TheVariants as so
use Rattle.hare_tree.specs.declared.tree.FileTree.{FileTree}
use Rattle.hare_tree.specs.Node.{Node}
use Rattle.hare_tree.specs.Shape.{is_shaped, is_shaped_file}
use Rattle.hare_tree.specs.Grammar.{files, IsFirstFault, is_proper_string, joined, StandsAt}
use Rattle.hare_automaton.specs.Engine.{Group, Done}
use Rattle.hare_automaton.proofs.Spelled.Paths.{split}
use Rattle.hare_prefixes.proofs.Joining.Joined.{Head, head}
use Rattle.hare_parse.specs.Files.{HaveSorts, file_made}
use Rattle.hare_parse.proofs.MadeTrees.FileParts.{parts_once}
use Rattle.hare_decl.specs.Answers.{IsEnd, IsLastEnd, IsReadLow, IsOver, IsFile}
use Rattle.hare_decl.proofs.RunOutcomes.Runs.{no_end_first, behind_end_first, whole_made, whole_is_file}

-- ---- the token behind them

-- End is no string
end_proper : (t : Token) → IsEnd t → is_proper_string t ≡ false
end_proper t e = ap is_proper_string e

-- the first joined token is End where the first token is
end_joined : (t : Token) (behind : List Token) (h : Head t behind) → IsEnd t → IsEnd h.first
end_joined t behind h e = subst IsEnd (sym (h.same (end_proper t e))) e

-- and only there
joined_end : (t : Token) (behind : List Token) (h : Head t behind) → IsEnd h.first → IsEnd t
joined_end t behind h e = subst IsEnd (h.same (sym h.proper ∙ end_proper h.first e)) e

pub over_no_end : (file : ℕ) (ts : List Token) (uses decls : List Node) (n : ℕ) (t : Token) (behind : List Token) →
    IsOver file ts uses decls n → drop n ts ≡ t ∷ behind → (IsEnd t → ⊥) → IsFirstFault files ts 8 n
over_no_end file ts uses decls n t behind o d e =
    let h = head t behind in
    let us : joined (drop n ts) ≡ h.first ∷ h.rest = ap joined d ∙ h.is in
    no_end_first file ts n h.first h.rest (file_made uses decls) o.shallow (o.run_is ∙ ap (λ y. Done y (file_made uses decls)) us)
    (subst (StandsAt ts n) us o.stands) (λ i. e (joined_end t behind h i))

pub over_behind_end : (file : ℕ) (ts : List Token) (uses decls : List Node) (n : ℕ) (t : Token) (behind : List Token) →
    IsOver file ts uses decls n → drop n ts ≡ t ∷ behind → IsEnd t → suc n < length ts → IsFirstFault files ts 8 (suc n)
over_behind_end file ts uses decls n t behind o d e l =
    let h = head t behind in
    let us : joined (drop n ts) ≡ h.first ∷ h.rest = ap joined d ∙ h.is in
    behind_end_first file ts n h.first h.rest (file_made uses decls) o.shallow (o.run_is ∙ ap (λ y. Done y (file_made uses decls)) us)
    (subst (StandsAt ts n) us o.stands) (end_joined t behind h e) l

-- ---- whole files

file_sorts : (t : FileTree) → is_shaped_file t ≡ true → HaveSorts t.uses t.decls
file_sorts t e =
    let p = split (list_all (is_shaped so.Use) t.uses) (list_all (is_shaped so.Decl) t.decls)
    e in record { uses_shaped = p.0; decls_shaped = p.1 }

file_same : (x : FileTree) (f : ℕ) (us ds : List Node) → x.file ≡ f → us ≡ x.uses → ds ≡ x.decls →
    x ≡ record { file = f; uses = us; decls = ds }
file_same x f us ds a b c = rw (sym a, b, c) refl

abbrev kids_of : List Group → List Node
kids_of [] = []
kids_of (g ∷ gs) = g.kids

-- the file that is read in front of End alone
pub low_whole : (file : ℕ) (ts : List Token) (uses decls : List Node) (n : ℕ) → IsReadLow file ts uses decls n → IsLastEnd ts n →
    IsFile file ts (record { file = file; uses = uses; decls = decls })
low_whole file ts uses decls n o e =
    let us : joined (drop n ts) ≡ e.token ∷ [] = ap joined e.last in
    let made = file_made uses decls in
    let m = whole_made file ts e.token made (o.run_is ∙ ap (λ y. Done y made) us) e.ends in
    let p = parts_once uses decls m.tree.uses m.tree.decls o.sorts (file_sorts m.tree m.spells.shaped) (ap kids_of m.is_made) in
    let i = file_same m.tree file uses decls m.spells.file_is p.0 p.1 in
    subst (IsFile file ts) i (whole_is_file file ts made m (ap files.deep_of i ∙ o.limits))

pub over_whole : (file : ℕ) (ts : List Token) (uses decls : List Node) (n : ℕ) (t : Token) → IsOver file ts uses decls n →
    drop n ts ≡ t ∷ [] → IsEnd t → IsFile file ts (record { file = file; uses = uses; decls = decls })
over_whole file ts uses decls n t o d e =
    low_whole file ts uses decls n (record { run_is = o.run_is; sorts = o.sorts; limits = o.limits })
    (record { token = t; last = d; ends = e })
