-- The weight of a node: what its evaluation may cost, and how much code it may take. It rests on the node's mark and on the marks of its
-- kids alone.
use Rattle.std.specs.Prelude.{ℕ, ◌+◌, ◌-◌, ◌==◌, if◌then◌else◌}
use Rattle.hare_tree.specs.declared.kind.Kind.{Kind}
use Rattle.hare_tree.specs.declared.kind.Kind.TheVariants as kind
use Rattle.hare_types.specs.declared.coercion.Coercion.{Coercion}
use Rattle.hare_types.specs.Store.{Store}
use Rattle.hare_typed.specs.Typed.{TypedNode, TypedNodes, marked, typed_none, typed_more}
use Rattle.hare_typed.specs.Given.{first_given, is_str, members_in, followed}

-- 4 for what calls a function of the runtime, and for an equality of texts, which reads them; 1 for any other node
abbrev pub begins_with : Store → Kind → TypedNodes → ℕ
begins_with s kind.Slice ts = 4
begins_with s kind.ForEach ts = 4
begins_with s kind.Alloc ts = 4
begins_with s kind.Free ts = 4
begins_with s kind.Append ts = 4
begins_with s kind.Delete ts = 4
begins_with s kind.Equal ts = if is_str s (first_given ts) then 4 else 1
begins_with s _ ts = 1

-- the members of the union that a coercion gives; the ninth row of the table of assignability is the one that gives a union
abbrev pub coerced : Store → Coercion → ℕ
coerced s c = if c.row == 9 then members_in s c.to else 0

-- the members of the union that the node takes apart; a nullable has none
abbrev pub handled : Store → Kind → TypedNodes → ℕ
handled s kind.As ts = members_in s (first_given ts)
handled s kind.Is ts = members_in s (first_given ts)
handled s kind.Match ts = members_in s (first_given ts)
handled s kind.Try ts = members_in s (first_given ts)
handled s kind.Force ts = members_in s (first_given ts)
handled s _ ts = 0

abbrev pub count : TypedNodes → ℕ
count typed_none = 0
count (typed_more t ts) = 1 + count ts

-- The items of a literal, as they are written. Beside them a struct literal has its path and a place for a comma, a tuple one for a comma,
-- an array one for `...` and one for a comma.
abbrev pub items_of : Kind → TypedNodes → ℕ
items_of kind.StructLit ts = count ts - 2
items_of kind.Tuple ts = count ts - 1
items_of kind.Array ts = count ts - 2
items_of _ ts = 0

-- the pointers through which the node goes
abbrev pub passed : Store → Kind → TypedNodes → ℕ
passed s kind.Field ts = followed s (first_given ts)
passed s kind.Index ts = followed s (first_given ts)
passed s kind.Slice ts = followed s (first_given ts)
passed s _ ts = 0

abbrev pub weight_of : Store → TypedNode → ℕ
weight_of s (marked h m ts) =
    begins_with s h.kind ts + coerced s m.coerce + handled s h.kind ts + items_of h.kind ts + passed s h.kind ts
