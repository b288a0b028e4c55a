-- How many nodes a tree has, and how many bytes its strings.
use Rattle.std.specs.Prelude.{◌≡◌, ℕ, suc, ◌+◌, ◌*◌, ◌≤◌, List, Bool, true, false, length, sum_by, if◌then◌else◌}
use Rattle.hare_tree.specs.declared.kind.Kind.{Kind}
use Rattle.hare_tree.specs.declared.kind.Kind.TheVariants as ki
use Rattle.hare_tree.specs.declared.token.Token.{Token}
use Rattle.hare_tree.specs.declared.form.Sort.{Sort}
use Rattle.hare_tree.specs.declared.tree.FileTree.{FileTree}
use Rattle.hare_tree.specs.Node.{Node, Nodes, branch, none, more, head, nodes_of}
use Rattle.hare_tree.specs.Spell.{spell, spell_file}
use Rattle.hare_tree.specs.Shape.{is_none, is_shaped, is_shaped_file}
use Rattle.hare_tree.specs.Grammar.{is_string}

-- ---- nodes

-- the nodes of a tree, and among them those that stand in the place of what is not there
unfoldable mutual
  pub node_count : Node → ℕ
  node_count (branch h ts) = suc (kid_count ts)

  pub kid_count : Nodes → ℕ
  kid_count none = 0
  kid_count (more t ts) = node_count t + kid_count ts

-- the nodes of a file
abbrev pub file_count : FileTree → ℕ
file_count t = kid_count (nodes_of t.uses) + kid_count (nodes_of t.decls)

-- a shaped tree has at most eight nodes for each of its tokens; what stands for nothing has no token
abbrev pub ShapedTreesAreSmall : Type 0
ShapedTreesAreSmall =
    (f : ℕ) (s : Sort) (t : Node) → is_shaped s t ≡ true → is_none (head t).kind ≡ false → node_count t ≤ 8 * length (spell f t)

abbrev pub ShapedFilesAreSmall : Type 0
ShapedFilesAreSmall = (t : FileTree) → is_shaped_file t ≡ true → file_count t ≤ 8 * length (spell_file t)

-- ---- strings

-- strings, and the messages of `abort` and `assert`
abbrev pub is_text : Kind → Bool
is_text ki.Str = true
is_text ki.Message = true
is_text _ = false

-- the bytes of all strings and messages of a tree
unfoldable mutual
  pub text_bytes : Node → ℕ
  text_bytes (branch h ts) = (if is_text h.kind then length h.text else 0) + texts_bytes ts

  pub texts_bytes : Nodes → ℕ
  texts_bytes none = 0
  texts_bytes (more t ts) = text_bytes t + texts_bytes ts

-- the bytes of all strings and messages of a file
abbrev pub file_text_bytes : FileTree → ℕ
file_text_bytes t = texts_bytes (nodes_of t.uses) + texts_bytes (nodes_of t.decls)

-- the bytes of all strings among tokens
abbrev pub string_bytes_in : List Token → ℕ
string_bytes_in ts = sum_by (λ t. if is_string t.kind then length t.text else 0) ts

-- the strings and messages of a shaped file are among its tokens
abbrev pub TextsAreSpelled : Type 0
TextsAreSpelled = (t : FileTree) → is_shaped_file t ≡ true → file_text_bytes t ≤ string_bytes_in (spell_file t)
