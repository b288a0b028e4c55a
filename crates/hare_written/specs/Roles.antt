-- What a part of a written type is to its parent.
use Rattle.std.specs.Prelude.{Bool, true, false}
use Rattle.hare_tree.specs.declared.kind.Kind.{Kind}
use Rattle.hare_tree.specs.declared.kind.Kind.TheVariants as ki
use Rattle.hare_rules.specs.Context as context
use Rattle.hare_written.specs.declared.roles.Role.{Role}
use Rattle.hare_written.specs.declared.roles.Role.TheVariants.{Ordinary, BindingType, Length}

abbrev pub role_in : Role → context.Role
role_in Ordinary = context.Ordinary
role_in BindingType = context.BindingType
role_in Length = context.Length
