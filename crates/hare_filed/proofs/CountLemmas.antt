-- How many declarations files have, and how many bytes their texts.
use Rattle.std.proofs.Common.{◌≡◌, ℕ, ◌+◌, ◌≤◌, List, [], ◌∷◌, length, sum_by, refl, sym, ap, ◌∙◌, suc, arith}
use Rattle.std.proofs.lemmas.List.Sums.{sum_by-append, sum_by-cons}
use Rattle.hare_tree.specs.declared.tree.FileTree.{FileTree}
use Rattle.hare_tree.specs.Node.{Node, nodes_of}
use Rattle.hare_tree.specs.Size.{text_bytes, texts_bytes, file_text_bytes}
use Rattle.hare_decl.proofs.SourceTrees.Sources.{sources_have_few_texts}
use Rattle.hare_sources.specs.Files.{most_of_all, AreReadFrom}
use Rattle.hare_filed.proofs.FileLemmas.{decls_from}

texts-of : (ts : List Node) → texts_bytes (nodes_of ts) ≡ sum_by text_bytes ts
unfolding text_bytes
texts-of [] = refl
texts-of (t ∷ ts) = ap (λ n. text_bytes t + n) (texts-of ts) ∙ sym (sum_by-cons text_bytes t ts)

file-texts-le : (f : FileTree) → sum_by text_bytes f.decls ≤ file_text_bytes f
file-texts-le f = omega (arith, texts-of f.decls)

-- the texts of files have at most as many bytes as all files may have
pub texts-le : (before file : ℕ) (ss : List (List ℕ)) (fs : List FileTree) → before ≤ most_of_all → AreReadFrom before file ss fs →
    before + sum_by text_bytes (decls_from fs) ≤ most_of_all
texts-le before file [] [] l h = omega (arith, l)
texts-le before file [] (f ∷ fs) l h = absurd h
texts-le before file (s ∷ ss) [] l h = absurd h
texts-le before file (s ∷ ss) (f ∷ fs) l h =
    let a : before + length s ≤ most_of_all = h.0.small.together in
    let b : (before + length s) + sum_by text_bytes (decls_from fs) ≤ most_of_all = texts-le (before + length s) (suc file) ss fs a h.1 in
    let c : sum_by text_bytes f.decls ≤ file_text_bytes f = file-texts-le f in
    let d : file_text_bytes f ≤ length s = sources_have_few_texts file s f h.0.source in
    omega (arith, sum_by-append text_bytes f.decls (decls_from fs))
