-- Files within their limits have few declarations and bindings.
use Rattle.std.proofs.Common.{◌≡◌, ℕ, ◌+◌, ◌-◌, ◌*◌, ◌^◌, ◌<◌, ◌≤◌, List, [], ◌∷◌, Bool, true, false, length, sum_by, if◌then◌else◌, suc, subst, lit<, arith}
use Rattle.std.proofs.lemmas.List.Sums.{sum_by-cons, sum_by-le-sum_by}
use Rattle.hare_tree.specs.declared.tree.FileTree.{FileTree}
use Rattle.hare_tree.specs.Node.{Node, Nodes, branch, none, more, nodes_of}
use Rattle.hare_tree.specs.Size.{node_count, kid_count, file_count}
use Rattle.hare_decl.proofs.SourceTrees.Sources.{sources_have_few_nodes}
use Rattle.hare_names.specs.Scopes.{is_binding, bindings_in, bindings_among}
use Rattle.hare_names.specs.Answers.{IsFileOf, AreFiles}
use Rattle.hare_sources.specs.Files.{most_of_all, bytes_of, AreReadFrom, AreRead}
use Rattle.hare_sources.specs.Named.{ArePaired}
use Rattle.hare_sources.proofs.ReadLemmas.{read-within, length-read, files-of}

-- ---- of one tree

at-most-one : (b : Bool) → (if b then 1 else 0) ≤ 1
at-most-one true = omega arith
at-most-one false = omega arith

mutual
  unfolding node_count

  bindings_in-le : (t : Node) → bindings_in t ≤ node_count t
  bindings_in-le (branch h ts) =
      let a : (if is_binding h.kind then 1 else 0) ≤ 1 = at-most-one (is_binding h.kind) in
      let b : bindings_among ts ≤ kid_count ts = bindings_among-le ts in omega arith

  bindings_among-le : (ts : Nodes) → bindings_among ts ≤ kid_count ts
  bindings_among-le none = omega arith
  bindings_among-le (more t ts) =
      let a : bindings_in t ≤ node_count t = bindings_in-le t in
      let b : bindings_among ts ≤ kid_count ts = bindings_among-le ts in omega arith

one-node : (t : Node) → 1 ≤ node_count t
unfolding node_count
one-node (branch h ts) = omega arith

length-le : (ts : List Node) → length ts ≤ kid_count (nodes_of ts)
unfolding node_count
length-le [] = omega arith
length-le (t ∷ ts) =
    let a : 1 ≤ node_count t = one-node t in
    let b : length ts ≤ kid_count (nodes_of ts) = length-le ts in omega arith

-- ---- of all

-- each byte gives at most eight nodes, and each file eight more
nodes-le : (before file : ℕ) (ss : List (List ℕ)) (ts : List FileTree) → AreReadFrom before file ss ts →
    sum_by file_count ts ≤ 8 * (bytes_of ss + length ss)
nodes-le before file [] [] h = omega arith
nodes-le before file [] (u ∷ us) h = absurd h
nodes-le before file (x ∷ xs) [] h = absurd h
nodes-le before file (x ∷ xs) (u ∷ us) h =
    let a : file_count u ≤ 8 * (length x + 1) = sources_have_few_nodes file x u h.0.source in
    let b : sum_by file_count us ≤ 8 * (bytes_of xs + length xs) = nodes-le (before + length x) (suc file) xs us h.1 in
    omega (arith, sum_by-cons file_count u us, sum_by-cons length x xs)

-- 8 * (4194304 + 65536)
few-nodes : (srcs : List (List ℕ)) (ts : List FileTree) → length srcs ≤ 65536 → AreRead srcs ts → sum_by file_count ts ≤ 34078720
few-nodes srcs ts l h =
    let a : 0 + bytes_of srcs ≤ most_of_all = read-within 0 0 srcs ts (omega arith) h in
    let b : sum_by file_count ts ≤ 8 * (bytes_of srcs + length srcs) = nodes-le 0 0 srcs ts h in
    omega arith

few : (n : ℕ) → n ≤ 34078720 → n < 2 ^ 32 - 1
few n l = let b : 34078720 < 2 ^ 32 - 1 = lit< tt in omega arith

-- the declarations of a file, and its bindings
abbrev decls_of : FileTree → ℕ
decls_of t = length t.decls

abbrev bindings_of : FileTree → ℕ
bindings_of t = bindings_among (nodes_of t.decls)

decls-le : (t : FileTree) → decls_of t ≤ file_count t
decls-le t = let a : length t.decls ≤ kid_count (nodes_of t.decls) = length-le t.decls in omega arith

bindings-le : (t : FileTree) → bindings_of t ≤ file_count t
bindings-le t =
    let a : bindings_among (nodes_of t.decls) ≤ kid_count (nodes_of t.decls) = bindings_among-le (nodes_of t.decls) in omega arith

no-file-before : (k : ℕ) (t : FileTree) → IsFileOf (0 + k) t → IsFileOf k t
no-file-before k t f = let e : 0 + k ≡ k = omega arith in subst (λ n. IsFileOf n t) e f

-- what is read meets what the rules of names ask
pub files-are : (paths srcs : List (List ℕ)) (ts : List FileTree) → ArePaired paths srcs → AreRead srcs ts → AreFiles paths ts
files-are paths srcs ts p h =
    let n : sum_by file_count ts ≤ 34078720 = few-nodes srcs ts (omega (arith, p.paired, p.few)) h in
    let d : sum_by decls_of ts ≤ sum_by file_count ts = sum_by-le-sum_by decls_of file_count ts decls-le in
    let b : sum_by bindings_of ts ≤ sum_by file_count ts = sum_by-le-sum_by bindings_of file_count ts bindings-le in
    record {
      paired = omega (arith, length-read 0 0 srcs ts h, p.paired);
      files = λ k t e. no-file-before k t (files-of 0 0 srcs ts h k t e);
      few_decls = few (sum_by decls_of ts) (omega arith);
      few_bindings = few (sum_by bindings_of ts) (omega arith);
    }
