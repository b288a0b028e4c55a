-- Trees that are shaped.
use Rattle.std.specs.Prelude.{◌≡◌, true}
use Rattle.hare_tree.specs.declared.form.Sort.{Sort}
use Rattle.hare_tree.specs.Node.{Node}
use Rattle.hare_tree.specs.Shape.{is_shaped}

-- of some sort
abbrev pub IsShaped : Node → Type 0
IsShaped t = (s : Sort) × (is_shaped s t ≡ true)
