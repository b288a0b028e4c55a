-- Programs whose declarations are shaped.
use Rattle.std.specs.Prelude.{◌≡◌, true, slice_get, Some}
use Rattle.std.specs.List.{list_all}
use Rattle.hare_tree.specs.declared.form.Sort.TheVariants as so
use Rattle.hare_tree.specs.declared.tree.FileTree.{FileTree}
use Rattle.hare_tree.specs.Shape.{is_shaped}
use Rattle.hare_sources.specs.declared.named.Named.{Named}

-- each declaration of the first file is
abbrev pub IsShaped : Named → Type 0
IsShaped n = (t : FileTree) → slice_get n.files 0 ≡ Some t → list_all (is_shaped so.Decl) t.decls ≡ true
