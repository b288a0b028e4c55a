-- What has been found of a node, as its mark.
use Rattle.hare_typed.specs.Typed.{Mark}
use Rattle.hare_find.specs.declared.marks.Found.{Found}

abbrev pub mark_of : Found → Mark
mark_of f = record { node = f.node; ty = f.ty; coerce = f.own; meaning = f.meaning; value = f.value }
