-- Where trees end, piece by piece of their forms. No public clause cites it.
use Rattle.std.specs.Prelude.{ℕ, ◌+◌, Bool, true, false, Option, Some, None, if◌then◌else◌}
use Rattle.hare_tree.specs.declared.kind.Kind.{Kind}
use Rattle.hare_tree.specs.declared.form.Sign.{Sign}
use Rattle.hare_tree.specs.declared.form.Sign.TheVariants as si
use Rattle.hare_tree.specs.declared.form.Piece.{Piece}
use Rattle.hare_tree.specs.declared.form.Piece.TheVariants as pi
use Rattle.hare_tree.specs.Node.{Head, Nodes, none, more}
use Rattle.hare_tree.specs.Signs.{is_sign}
use Rattle.hare_tree.specs.Shape.{stops, is_none, is_empty}
use Rattle.hare_tree.specs.Judged.{nodes_from}
use Rattle.hare_ways.specs.declared.edge.End.{End}
use Rattle.hare_ways.specs.declared.edge.End.TheVariants.{Here, Kid}
use Rattle.hare_ways.specs.declared.edge.Seen.{Seen}
use Rattle.hare_ways.specs.Parts.{first_kind}

-- whether the first of some kids ends before a comma; what is not there does
abbrev pub first_ends : Nodes → Bool
first_ends none = true
first_ends (more t ts) = stops si.Comma t

-- what is told of a form with these kids
abbrev pub end_told : End → Nodes → Bool
end_told (Here ends) ts = ends
end_told (Kid i) ts = first_ends (nodes_from i ts)

-- behind the first of these kids, which has the number `i`
abbrev pub behind_kid : Nodes → ℕ → End → Option Seen
behind_kid none i end = None
behind_kid (more t ts) i end = Some record { kid = i + 1; end = end }

-- one end where nothing stands in the place of a kid, and the other where something does
abbrev pub end_or : Kind → End → End → End
end_or k absent there = if is_none k then absent else there

-- the end of what could go on with a sign
abbrev pub end_led : End → Sign → End
end_led end s = if is_sign s si.Comma then Here false else end

-- what is told behind a piece of a form, in front of which these kids are left
abbrev pub end_behind : Head → Piece → Nodes → Seen → Option Seen
end_behind h (pi.Fixed s) ts seen = Some record { kid = seen.kid; end = Here true }
end_behind h (pi.Own o) ts seen = Some record { kid = seen.kid; end = Here true }
end_behind h (pi.Kid s) ts seen = behind_kid ts seen.kid (Kid seen.kid)
end_behind h (pi.Optional s) ts seen = behind_kid ts seen.kid (end_or (first_kind ts) seen.end (Kid seen.kid))
end_behind h (pi.Led c s) ts seen = behind_kid ts seen.kid (end_or (first_kind ts) (end_led seen.end c) (Kid seen.kid))
end_behind h (pi.Followed s c) ts seen = behind_kid ts seen.kid (end_or (first_kind ts) seen.end (Here true))
end_behind h (pi.Value s) ts seen = behind_kid ts seen.kid (end_or (first_kind ts) (Here (is_empty h.text)) (Kid seen.kid))
end_behind h _ ts seen = None
