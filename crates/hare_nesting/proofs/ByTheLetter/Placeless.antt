-- The tokens at which trees and files pass the limits do not depend on their places.
use Rattle.std.proofs.Common.{◌≡◌, ℕ, List, [], ◌∷◌, ◌++◌, Bool, false, map, length, refl, ap, sym, ◌∙◌}
use Rattle.std.proofs.lemmas.List.{length-map}
use Rattle.hare_tree.specs.declared.form.Lead.TheVariants as le
use Rattle.hare_tree.specs.declared.tree.FileTree.{FileTree}
use Rattle.hare_tree.specs.Node.{Head, Node, Nodes, branch, none, more, nodes_of}
use Rattle.hare_tree.specs.Forms.{form_of}
use Rattle.hare_tree.specs.Spell.{all_led, spells, spell_all}
use Rattle.hare_tree.specs.Depth.{is_operator, begins, height, greatest_height, node_faults, open_within, deep, deep_each, deep_root, deep_all, begins_led, first_number, numbers_behind}
use Rattle.hare_tree.specs.Grammar.{unplaced, files}
use Rattle.hare_automaton.specs.OneTree.{plain, plains, plain_head, plain_file}
use Rattle.hare_automaton.proofs.Unambiguous.Places.{spell_plain, spells_plain}
use Rattle.hare_prefixes.proofs.Outcomes.Moved.{side_moved}
use Rattle.hare_nesting.proofs.ByTheLetter.LetterFiles.{deep_file}

-- ---- trees

mutual
  unfolding height

  height_plain : (g : ℕ) (t : Node) → height (plain g t) ≡ height t
  height_plain g (branch h ts) = rw (greatest_plain g ts) refl

  greatest_plain : (g : ℕ) (ts : Nodes) → greatest_height (plains g ts) ≡ greatest_height ts
  greatest_plain g none = refl
  greatest_plain g (more t ts) = rw (height_plain g t, greatest_plain g ts) refl

node_plain : (g n o : ℕ) (h : Head) (ts : Nodes) → node_faults n o (plain_head g h) (plains g ts) ≡ node_faults n o h ts
node_plain g n o h none = refl
node_plain g n o h (more t ts) = rw (height_plain g t, spell_plain 0 g t) refl

mutual
  unfolding deep

  deep_plain : (g n o : ℕ) (l : Bool) (t : Node) → deep n o l (plain g t) ≡ deep n o l t
  deep_plain g n o l (branch h ts) = rw (
    node_plain g n o h ts,
    spells_plain 0 g ts,
    each_plain g
        (begins h (form_of h.kind) n (spells 0 ts)) (open_within o l h.kind) (is_operator h.kind) ts,
  ) refl

  each_plain : (g : ℕ) (ns : List ℕ) (o : ℕ) (l : Bool) (ts : Nodes) → deep_each ns o l (plains g ts) ≡ deep_each ns o l ts
  each_plain g ns o l none = refl
  each_plain g ns o l (more t ts) = rw (deep_plain g (first_number ns) o l t, each_plain g (numbers_behind ns) o false ts) refl

pub roots_pass_alike : (t t' : Node) → plain 0 t ≡ plain 0 t' → deep_root t ≡ deep_root t'
roots_pass_alike t t' e = sym (deep_plain 0 0 0 false t) ∙ ap deep_root e ∙ deep_plain 0 0 0 false t'

-- ---- files

nodes_plain : (g : ℕ) (ts : List Node) → nodes_of (map (plain g) ts) ≡ plains g (nodes_of ts)
nodes_plain g [] = refl
nodes_plain g (t ∷ ts) = ap (more (plain g t)) (nodes_plain g ts)

spelled_plain : (f g : ℕ) (ts : List Node) → spells f (nodes_of (map (plain g) ts)) ≡ spells f (nodes_of ts)
spelled_plain f g ts = ap (spells f) (nodes_plain g ts) ∙ spells_plain f g (nodes_of ts)

all_plain : (g n : ℕ) (ts : List Node) → deep_all n (map (plain g) ts) ≡ deep_all n ts
all_plain g n ts =
    let ns = begins_led le.Nothing n (spells 0 (nodes_of ts)) in
    ap (λ us. deep_each (begins_led le.Nothing n us) 0 false (nodes_of (map (plain g) ts))) (spelled_plain 0 g ts)
    ∙ ap (deep_each ns 0 false) (nodes_plain g ts)
    ∙ each_plain g ns 0 false (nodes_of ts)

file_plain : (t : FileTree) → files.deep_of (plain_file t) ≡ files.deep_of t
file_plain t =
    ap (λ us. deep_all 0 (map (plain t.file) t.uses) ++ deep_all (length (all_led t.file le.Nothing us)) (map (plain t.file) t.decls))
    (spelled_plain t.file t.file t.uses)
    ∙ ap (λ ns. ns ++ deep_all (length (spell_all t.file t.uses)) (map (plain t.file) t.decls)) (all_plain t.file 0 t.uses)
    ∙ ap (λ ns. deep_all 0 t.uses ++ ns) (all_plain t.file (length (spell_all t.file t.uses)) t.decls)

pub files_pass_alike : (t t' : FileTree) → plain_file t ≡ plain_file t' → files.deep_of t ≡ files.deep_of t'
files_pass_alike t t' e = sym (file_plain t) ∙ ap files.deep_of e ∙ file_plain t'

-- nor on the number of the file
length_moved : (f : ℕ) (ts : List Node) → length (spell_all f ts) ≡ length (spell_all 0 ts)
length_moved f ts = sym (length-map (spell_all f ts) unplaced) ∙ ap length (side_moved f (nodes_of ts))

pub file_limits : (t : FileTree) → files.deep_of t ≡ deep_file t.uses t.decls
file_limits t = ap (λ n. deep_all 0 t.uses ++ deep_all n t.decls) (length_moved t.file t.uses)
