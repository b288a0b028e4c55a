-- Places, and which of them may be assigned to.
use Rattle.std.specs.Prelude.{Bool, true, false, ◌||◌, List, slice_get, is_some, Option, Some, None}
use Rattle.hare_tree.specs.declared.kind.Kind.{Kind}
use Rattle.hare_tree.specs.declared.kind.Kind.TheVariants as ki
use Rattle.hare_tree.specs.declared.token.Meaning.{Meaning}
use Rattle.hare_tree.specs.declared.token.Meaning.TheVariants as means
use Rattle.hare_types.specs.declared.coercion.Ty.{Ty}
use Rattle.hare_types.specs.Store.{Store}
use Rattle.hare_typed.specs.Typed.{TypedNode, TypedNodes, marked, typed_none, typed_more}
use Rattle.hare_rules.specs.declared.declared.DeclType.{DeclType}
use Rattle.hare_typed.specs.Coercions.{element_of_slice as slice_element}
use Rattle.hare_typed.specs.Given.{base_row, pointee_in}
use Rattle.hare_rules.specs.Context.{Setting, Entry, Known, declaration}
use Rattle.hare_typed.specs.Given.{given as seen}

-- a global
abbrev pub is_global : Kind → Bool
is_global ki.GlobalLet = true
is_global ki.GlobalConst = true
is_global _ = false

abbrev pub is_global_decl : Option DeclType → Bool
is_global_decl None = false
is_global_decl (Some d) = is_global d.kind

abbrev pub is_mutable_decl : Option DeclType → Bool
is_mutable_decl None = false
is_mutable_decl (Some d) = d.mutable

-- what a path means is a local or a global
abbrev pub means_place : Setting → Meaning → Bool
means_place w (means.Local n) = true
means_place w (means.Decl n) = is_global_decl (declaration w n)
means_place w _ = false

abbrev pub is_mutable_entry : Option Entry → Bool
is_mutable_entry (Some (Known l)) = l.mutable
is_mutable_entry _ = false

-- it is one that may be assigned to
abbrev pub means_mutable : Setting → List Entry → Meaning → Bool
means_mutable w ls (means.Local n) = is_mutable_entry (slice_get ls n)
means_mutable w ls (means.Decl n) = is_mutable_decl (declaration w n)
means_mutable w ls _ = false

-- the value is a pointer that cannot be null, by its base
abbrev pub is_pointer : Store → Ty → Bool
is_pointer s a = is_some (pointee_in (base_row s a))

-- the value is a slice, or a pointer that cannot be null
abbrev pub leads_away : Store → Ty → Bool
leads_away s a = is_some (slice_element (base_row s a)) || is_pointer s a

-- what is asked of the operand of `[ ]` and `.`: that it is so, or that a slice or a pointer stands between
abbrev pub first_leads : Store → TypedNodes → Bool
first_leads s typed_none = false
first_leads s (typed_more t ts) = leads_away s (seen t)

abbrev pub first_points : Store → TypedNodes → Bool
first_points s typed_none = false
first_points s (typed_more t ts) = is_pointer s (seen t)

abbrev pub place_by : Store → Kind → Bool → TypedNodes → Bool → Bool
place_by s ki.Path named ts inner = named
place_by s ki.Deref named ts inner = true
place_by s ki.Index named ts inner = first_leads s ts || inner
place_by s ki.Field named ts inner = first_points s ts || inner
place_by s ki.Paren named ts inner = inner
place_by s _ named ts inner = false

abbrev mutual
  -- A place: a path to a local or a global, what a pointer leads to, an element of a place or of what a slice or a pointer leads to, a
  -- member of a place or of what a pointer leads to, and each of these in parentheses.
  pub is_place : Setting → TypedNode → Bool
  is_place w (marked h m ts) = place_by w.store h.kind (means_place w m.meaning) ts (is_first_place w ts)

  pub is_first_place : Setting → TypedNodes → Bool
  is_first_place w typed_none = false
  is_first_place w (typed_more t ts) = is_place w t

abbrev mutual
  -- A place that may be assigned to: no `const` binding is reached without a slice or a pointer between.
  pub is_mutable : Setting → List Entry → TypedNode → Bool
  is_mutable w ls (marked h m ts) = place_by w.store h.kind (means_mutable w ls m.meaning) ts (is_first_mutable w ls ts)

  pub is_first_mutable : Setting → List Entry → TypedNodes → Bool
  is_first_mutable w ls typed_none = false
  is_first_mutable w ls (typed_more t ts) = is_mutable w ls t
