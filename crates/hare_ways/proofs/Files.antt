-- The ways of a file's tokens, put one root after the other.
use Rattle.std.proofs.Common.{◌≡◌, ℕ, ◌+◌, ◌<◌, List, [], ◌∷◌, ◌++◌, length, ap, sym, ◌∙◌, arith, length-append, append_assoc}
use Rattle.hare_tree.specs.declared.kind.Kind.TheVariants as ki
use Rattle.hare_tree.specs.declared.form.Lead.TheVariants as le
use Rattle.hare_tree.specs.declared.tree.FileTree.{FileTree}
use Rattle.hare_tree.specs.Node.{Node, nodes_of}
use Rattle.hare_tree.specs.Spell.{spell_all}
use Rattle.hare_ways.specs.declared.way.Start.TheVariants.{Begins}
use Rattle.hare_ways.specs.declared.way.Way.{Way}
use Rattle.hare_ways.specs.Ways.{roots_ways, file_ways, end_way}
use Rattle.hare_ways.specs.Walk.{at_depth, row_ways}
use Rattle.hare_ways.proofs.Counted.{roots_length}
use Rattle.hare_ways.proofs.Depths.{at_depth-zero}
use Rattle.hare_ways.proofs.Walked.{roots-walk}

-- trees side by side
pub roots-room : (cs : List ℕ) (m : ℕ) (old : List Way) (ts : List Node) → length old + length (roots_ways cs (length old) ts) < m
    → length old + length (row_ways cs ki.None Begins le.Nothing (length old) (nodes_of ts)) < m
roots-room cs m old ts h = omega (arith, h, ap length (roots-walk cs (length old) ts))

pub roots-put : (cs : List ℕ) (old next : List Way) (ts : List Node)
    → next ≡ old ++ at_depth 0 (row_ways cs ki.None Begins le.Nothing (length old) (nodes_of ts))
    → next ≡ old ++ roots_ways cs (length old) ts
roots-put cs old next ts e =
    e ∙ ap (λ ws. old ++ ws)
    (at_depth-zero (row_ways cs ki.None Begins le.Nothing (length old) (nodes_of ts)) ∙ sym (roots-walk cs (length old) ts))

-- ---- files

first-length : (cs : List ℕ) (t : FileTree) (old one : List Way) → old ≡ [] → one ≡ old ++ roots_ways cs (length old) t.uses
    → length one ≡ length (spell_all 0 t.uses)
first-length cs t old one e f = ap length f ∙ ap (λ ws. length (ws ++ roots_ways cs (length ws) t.uses)) e ∙ roots_length cs 0 t.uses

pub uses-room : (cs : List ℕ) (m : ℕ) (t : FileTree) (old : List Way) → old ≡ [] → length (file_ways cs t) < m
    → length old + length (roots_ways cs (length old) t.uses) < m
uses-room cs m t old e h =
    let empty : length old + length (roots_ways cs (length old) t.uses) ≡ 0 + length (roots_ways cs 0 t.uses) =
    ap (λ (ws : List Way). length ws + length (roots_ways cs (length ws) t.uses)) e in
    omega (
      arith,
      h,
      empty,
      length-append (roots_ways cs 0 t.uses) (roots_ways cs (length (spell_all 0 t.uses)) t.decls ++ end_way ∷ []),
    )

pub decls-room : (cs : List ℕ) (m : ℕ) (t : FileTree) (old one : List Way) → old ≡ [] → one ≡ old ++ roots_ways cs (length old) t.uses
    → length (file_ways cs t) < m → length one + length (roots_ways cs (length one) t.decls) < m
decls-room cs m t old one e f h =
    let many = first-length cs t old one e f in
    let same : length (roots_ways cs (length one) t.decls) ≡ length (roots_ways cs (length (spell_all 0 t.uses)) t.decls) =
    ap (λ n. length (roots_ways cs n t.decls)) many in
    omega (
      arith,
      h,
      many,
      same,
      roots_length cs 0 t.uses,
      length-append (roots_ways cs 0 t.uses) (roots_ways cs (length (spell_all 0 t.uses)) t.decls ++ end_way ∷ []),
      length-append (roots_ways cs (length (spell_all 0 t.uses)) t.decls) (end_way ∷ []),
    )

pub file-put : (cs : List ℕ) (t : FileTree) (old one two three : List Way) (w : Way) → old ≡ []
    → one ≡ old ++ roots_ways cs (length old) t.uses → two ≡ one ++ roots_ways cs (length one) t.decls → three ≡ two ++ w ∷ []
    → w ≡ end_way → three ≡ file_ways cs t
file-put cs t old one two three w e f g h k =
    let many = first-length cs t old one e f in
    let first : one ≡ roots_ways cs 0 t.uses = f ∙ ap (λ (ws : List Way). ws ++ roots_ways cs (length ws) t.uses) e in
    let decls = roots_ways cs (length (spell_all 0 t.uses)) t.decls in
    h ∙ ap (λ v. two ++ v ∷ []) k
    ∙ ap (λ ws. ws ++ end_way ∷ []) (g ∙ ap (λ n. one ++ roots_ways cs n t.decls) many ∙ ap (λ ws. ws ++ decls) first)
    ∙ append_assoc (roots_ways cs 0 t.uses) decls (end_way ∷ [])
