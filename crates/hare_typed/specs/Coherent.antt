-- The objects of strings and of constants in a typed tree, and that those with one number have the same cells.
use Rattle.std.specs.Prelude.{◌≡◌, ℕ, Bool, true, false, ◌||◌, List, [], ◌∷◌}
use Rattle.hare_tree.specs.declared.kind.Kind.{Kind}
use Rattle.hare_tree.specs.declared.kind.Kind.TheVariants as kind
use Rattle.hare_types.specs.Store.{Store}
use Rattle.hare_typed.specs.declared.constant.ConstObject.{ConstObject}
use Rattle.hare_typed.specs.Objects.{Object}
use Rattle.hare_typed.specs.Typed.{TypedNode, TypedNodes, marked, typed_none, typed_more}
use Rattle.hare_typed.specs.Given.{first_given, is_str}
use Rattle.hare_typed.specs.State.{Scope}
use Rattle.hare_typed.specs.ConstantValues.{statics, statics_of_each}
use Rattle.hare_typed.specs.Texts.{AreCoherent}

-- ---- objects

-- where the value of a declaration is evaluated
abbrev pub scope_in : (own : ℕ) → Scope
scope_in own = record { own = own; first = 0; locals = [] }

-- named objects as a constant lists them
abbrev pub held : List (ℕ × Object) → List ConstObject
held [] = []
held (o ∷ os) = record { object = o.0; cells = o.1.cells } ∷ held os

abbrev pub statics_in : (own : ℕ) → TypedNode → List ConstObject
statics_in own t = held (statics (scope_in own) t)

abbrev pub statics_in_each : (own : ℕ) → TypedNodes → List ConstObject
statics_in_each own ts = held (statics_of_each (scope_in own) ts)

-- ---- trees that compare texts

-- a node of the kind compares texts
abbrev pub is_text_equality : Store → Kind → TypedNodes → Bool
is_text_equality s kind.Equal ts = is_str s (first_given ts)
is_text_equality s _ ts = false

-- an equality of texts stands in the tree
abbrev mutual
  pub compares_texts : Store → TypedNode → Bool
  compares_texts s (marked h m ts) = is_text_equality s h.kind ts || compares_texts_each s ts

  pub compares_texts_each : Store → TypedNodes → Bool
  compares_texts_each s typed_none = false
  compares_texts_each s (typed_more t ts) = compares_texts s t || compares_texts_each s ts

-- Where a tree compares texts, its objects with one number have the same cells: so it does not matter in which of them a text is looked up.
abbrev pub IsCoherent : Store → (own : ℕ) → TypedNode → Type 0
IsCoherent s own t = compares_texts s t ≡ true → AreCoherent (statics_in own t)
