-- The constant that a node carries: at a value of a case and at the value of a declaration its own, at any other path to a def that of
-- the def.
use Rattle.std.specs.Prelude.{Bool, true, false, Option, Some, None}
use Rattle.hare_tree.specs.declared.kind.Kind.{Kind}
use Rattle.hare_tree.specs.declared.kind.Kind.TheVariants as ki
use Rattle.hare_tree.specs.declared.place.Place.{Place}
use Rattle.hare_tree.specs.declared.token.Meaning.{Meaning}
use Rattle.hare_tree.specs.declared.token.Meaning.TheVariants as means
use Rattle.hare_types.specs.declared.coercion.Ty.{Ty}
use Rattle.hare_types.specs.declared.coercion.Coercion.{Coercion}
use Rattle.hare_types.specs.Store.{Store}
use Rattle.hare_typed.specs.declared.constant.Const.{Const}
use Rattle.hare_typed.specs.declared.constant.Const.TheVariants as constant
use Rattle.hare_typed.specs.Typed.{TypedNode, marked, typed_nodes}
use Rattle.hare_typed.specs.Coats.{with_coercion}
use Rattle.hare_typed.specs.Folded.{folded, inconstant}
use Rattle.hare_rules.specs.declared.declared.DeclType.{DeclType}
use Rattle.hare_rules.specs.declared.hint.Hint.{Hint}
use Rattle.hare_rules.specs.declared.hint.Hint.TheVariants as hint
use Rattle.hare_rules.specs.Words.{default_in}
use Rattle.hare_rules.specs.Context.{Setting, Context, Role, Ordinary, Callee, Length, BindingType, CaseValue, DeclaredValue, declaration, store_of, own_type, place_or}
use Rattle.hare_rules.specs.Control.{has_written_type, value_kid}
use Rattle.hare_rules.specs.Settles.{own_coercion, to_type, settled_kids}
use Rattle.hare_rules.specs.Types.{type_of}

-- ---- the value of a def

abbrev pub value_of_decl : Option DeclType → Const
value_of_decl None = constant.Absent
value_of_decl (Some d) = d.value

abbrev pub value_of_meaning : Setting → Meaning → Const
value_of_meaning w (means.Decl n) = value_of_decl (declaration w n)
value_of_meaning w _ = constant.Absent

-- that of a path; any other node names nothing
abbrev pub value_of_path : Context → Kind → Const
value_of_path c ki.Path = value_of_meaning c.setting c.meaning
value_of_path c _ = constant.Absent

abbrev pub value_named : Context → Const
value_named c = value_of_path c c.head.kind

-- ---- a node's own constant

-- a value goes to its default
abbrev pub to_default : Store → Ty → Coercion
to_default s a = to_type s a (default_in s a)

-- the coercion that the value of a declaration has in the end: to the written type, which is its hint, or to its default
abbrev pub declared_coercion : Store → Hint → Ty → Coercion
declared_coercion s hint.None a = to_default s a
declared_coercion s h a = own_coercion s h a

-- the node as it will be, with this type and coercion: the kids have those that it settles
abbrev pub finished : Context → Ty → Coercion → TypedNode
finished c a r = marked c.head (record { node = c.node; ty = a; coerce = r; meaning = c.meaning; value = value_named c })
    (typed_nodes (settled_kids c))

abbrev pub value_as : Context → Role → Ty → Const
value_as c CaseValue a = folded (store_of c) c.inside.own (finished c a (own_coercion (store_of c) c.hint a))
value_as c DeclaredValue a = folded (store_of c) c.inside.own (finished c a (declared_coercion (store_of c) c.hint a))
value_as c Ordinary a = value_named c
value_as c Callee a = value_named c
value_as c Length a = value_named c
value_as c BindingType a = value_named c

abbrev pub value_by_type : Context → Option Ty → Const
value_by_type c None = constant.Absent
value_by_type c (Some a) = value_as c c.inside.role a

abbrev pub value_of : Context → Const
value_of c = value_by_type c (type_of c)

-- ---- where a declaration is not constant

-- the value of a declaration, with the coercion that it has in the end
abbrev pub declared_value : Context → TypedNode
declared_value c = if_written (has_written_type c) (value_kid c)
    (with_coercion (to_default (store_of c) (own_type (value_kid c))) (value_kid c))
  where
    if_written : Bool → TypedNode → TypedNode → TypedNode
    if_written true x y = x
    if_written false x y = y

-- the place of the first node of its value that is not constant or would abort
abbrev pub inconstant_place : Place → Context → Place
inconstant_place p c = place_or p (inconstant (store_of c) c.inside.own (declared_value c))
