-- What is noted of declarations and files, one by one, and the room for the numbers of bindings.
use Rattle.std.proofs.Common.{◌≡◌, ℕ, ◌+◌, ◌≤◌, List, [], ◌∷◌, fold, drop, length, slice_get, Option, Some, sym, ap, ◌∙◌, suc, zero, arith}
use Rattle.std.specs.Prelude.{sum_by}
use Rattle.std.specs.List.{flat_map}
use Rattle.std.proofs.lemmas.List.Sums.{sum_by-cons, fold-append}
use Rattle.hare_tree.specs.declared.place.Fault.{Fault}
use Rattle.hare_tree.specs.declared.tree.FileTree.{FileTree}
use Rattle.hare_tree.specs.Node.{Node, nodes_of}
use Rattle.hare_modules.specs.Order.{earlier}
use Rattle.hare_modules.specs.Directory.{Directory}
use Rattle.hare_modules.proofs.ListLemmas.{drop-there, drop-past}
use Rattle.hare_names.specs.declared.notes.Notes.{Notes}
use Rattle.hare_names.specs.Scopes.{bindings_in, bindings_among}
use Rattle.hare_names.specs.Noted.{decl_noted, files_noted}

-- a declaration has no more bindings than all
pub decl-le : (ts : List Node) (i : ℕ) (t : Node) → slice_get ts i ≡ Some t → bindings_in t ≤ bindings_among (nodes_of ts)
decl-le [] i t e = absurd cc
decl-le (u ∷ us) zero t e = let same : u ≡ t = cc in omega (arith, ap bindings_in same)
decl-le (u ∷ us) (suc i) t e = omega (arith, decl-le us i t e)

-- a file has no more than all files
pub file-le : (ts : List FileTree) (i : ℕ) (t : FileTree) → slice_get ts i ≡ Some t →
    bindings_among (nodes_of t.decls) ≤ sum_by (λ u. bindings_among (nodes_of u.decls)) ts
file-le [] i t e = absurd cc
file-le (u ∷ us) zero t e = let same : u ≡ t = cc in omega
    (arith, ap (λ v. bindings_among (nodes_of v.decls)) same, sum_by-cons (λ v. bindings_among (nodes_of v.decls)) u us)
file-le (u ∷ us) (suc i) t e = omega (arith, file-le us i t e, sum_by-cons (λ v. bindings_among (nodes_of v.decls)) u us)

pub decls-on : (d : Directory) (f : ℕ) (ts : List Node) (i : ℕ) (t : Node) (now next all : Notes) → slice_get ts i ≡ Some t →
    next ≡ decl_noted d f now t → fold (decl_noted d f) now (drop i ts) ≡ all → fold (decl_noted d f) next (drop (i + 1) ts) ≡ all
decls-on d f ts i t now next all e k h =
    ap (λ n. fold (decl_noted d f) n (drop (i + 1) ts)) k ∙ sym (ap (fold (decl_noted d f) now) (drop-there ts i t e)) ∙ h

pub decls-done : (d : Directory) (f : ℕ) (ts : List Node) (i : ℕ) (now all : Notes) → length ts ≤ i →
    fold (decl_noted d f) now (drop i ts) ≡ all → now ≡ all
decls-done d f ts i now all l h = sym (ap (fold (decl_noted d f) now) (drop-past ts i l)) ∙ h

pub files-on : (d : Directory) (ts : List FileTree) (i : ℕ) (t : FileTree) (now next all : Notes) → slice_get ts i ≡ Some t →
    next ≡ fold (decl_noted d i) now t.decls → files_noted d i now (drop i ts) ≡ all → files_noted d (i + 1) next (drop (i + 1) ts) ≡ all
files-on d ts i t now next all e k h =
    ap (λ n. files_noted d (i + 1) n (drop (i + 1) ts)) k ∙ sym (ap (files_noted d i now) (drop-there ts i t e)) ∙ h

pub files-done : (d : Directory) (ts : List FileTree) (i : ℕ) (now all : Notes) → length ts ≤ i → files_noted d i now (drop i ts) ≡ all →
    now ≡ all
files-done d ts i now all l h = sym (ap (files_noted d i now) (drop-past ts i l)) ∙ h

-- ---- the faults of each of a list

pub faults-on : {A : Type 0} (g : A → List Fault) (ts : List A) (i : ℕ) (t : A) (now next all : Option Fault) → slice_get ts i ≡ Some t →
    next ≡ fold earlier now (g t) → fold earlier now (flat_map g (drop i ts)) ≡ all →
    fold earlier next (flat_map g (drop (i + 1) ts)) ≡ all
faults-on g ts i t now next all e k h =
    ap (λ n. fold earlier n (flat_map g (drop (i + 1) ts))) k ∙ sym (fold-append earlier now (g t) (flat_map g (drop (i + 1) ts)))
    ∙ sym (ap (λ us. fold earlier now (flat_map g us)) (drop-there ts i t e)) ∙ h

pub faults-done : {A : Type 0} (g : A → List Fault) (ts : List A) (i : ℕ) (now all : Option Fault) → length ts ≤ i →
    fold earlier now (flat_map g (drop i ts)) ≡ all → now ≡ all
faults-done g ts i now all l h = sym (ap (λ us. fold earlier now (flat_map g us)) (drop-past ts i l)) ∙ h
