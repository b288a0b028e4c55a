-- What a judge is told of a node, of all that is known of it. It is told of no binding that is not known, of no hint that a label has,
-- and not which node it is; a value that is yielded without a type is told as void.
use Rattle.std.specs.Prelude.{◌≡◌, ℕ, Bool, true, false, List, [], ◌∷◌, map, slice_get, find, Option, Some, None, IsSome}
use Rattle.hare_tree.specs.declared.kind.Kind.TheVariants as ki
use Rattle.hare_tree.specs.declared.token.Meaning.TheVariants as means
use Rattle.hare_types.specs.declared.coercion.Ty.{Ty}
use Rattle.hare_types.specs.declared.coercion.Ty.TheVariants as ty
use Rattle.hare_types.specs.declared.row.Row.TheVariants as row
use Rattle.hare_types.specs.declared.row.Scalar.TheVariants as keyword
use Rattle.hare_types.specs.Store.{Store}
use Rattle.hare_types.specs.Trees.{Scalar}
use Rattle.hare_types.specs.Assign.{type_at}
use Rattle.hare_types.specs.ByIds.{row_at}
use Rattle.hare_rules.specs.declared.hint.Hint.TheVariants as hint
use Rattle.hare_rules.specs.declared.row_id.RowId.TheVariants as asked
use Rattle.hare_rules.specs.declared.inside.Label.{Label}
use Rattle.hare_rules.specs.declared.declared.Local.{Local}
use Rattle.hare_rules.specs.declared.declared.DeclType.{DeclType}
use Rattle.hare_rules.specs.declared.judged.Case.{Case}
use Rattle.hare_rules.specs.declared.judged.Yielded.{Yielded}
use Rattle.hare_rules.specs.Words.{word_id}
use Rattle.hare_rules.specs.Context.{Context, Entry, Later, Known, Odd, Open, Given, Role, Ordinary, Callee, Length, BindingType, CaseValue, DeclaredValue, store_of}
use Rattle.hare_rules.specs.Joined.{void_fits, is_end}
use Rattle.hare_rules.specs.Rows.{holds}

-- ---- bindings

-- A binding of which nothing is known is told with any type, as one that may not be assigned to.
abbrev pub IsToldEntry : Entry → Local → Type 0
IsToldEntry (Known l) m = m ≡ l
IsToldEntry Later m = m.mutable ≡ false
IsToldEntry (Odd p) m = m.mutable ≡ false

-- each in its place
abbrev pub AreToldEntries : List Entry → List Local → Type 0
AreToldEntries [] [] = Unit {0}
AreToldEntries [] (m ∷ ms) = ⊥
AreToldEntries (e ∷ es) [] = ⊥
AreToldEntries (e ∷ es) (m ∷ ms) = IsToldEntry e m × AreToldEntries es ms

-- ---- labels

abbrev pub told_label : Open → Label
told_label l = record { name = l.name; target = l.target; node = l.node; deferred = l.deferred }

-- ---- yielded values

-- the type void of the store
pub record IsVoidOf (s : Store) (v : ℕ) : Type 0 where
  pub word : word_id s keyword.Void ≡ Some v
  pub row : row_at s v ≡ Some (row.Scalar keyword.Void)
  pub tree : type_at s v ≡ Scalar keyword.Void

-- the type itself, and void where there is none
abbrev pub IsToldType : Store → Option Ty → Ty → Type 0
IsToldType s (Some a) b = b ≡ a
IsToldType s None b = (v : ℕ) × (b ≡ ty.Of v) × IsVoidOf s v

abbrev pub IsToldYield : Store → Given → Yielded → Type 0
IsToldYield s g y = (y.place ≡ g.place) × IsToldType s g.ty y.ty

-- in their order
abbrev pub AreToldYields : Store → List Given → List Yielded → Type 0
AreToldYields s [] [] = Unit {0}
AreToldYields s [] (y ∷ ys) = ⊥
AreToldYields s (g ∷ gs) [] = ⊥
AreToldYields s (g ∷ gs) (y ∷ ys) = IsToldYield s g y × AreToldYields s gs ys

-- ---- a node

-- a judge is asked of what has rows and is no written type
abbrev pub has_judge : Role → Bool
has_judge Ordinary = true
has_judge CaseValue = true
has_judge DeclaredValue = true
has_judge BindingType = false
has_judge Callee = false
has_judge Length = false

-- what the judge is told of the node
pub record IsTold (c : Context) (ds : List DeclType) (ls : List Local) (q : Case) : Type 0 where
  pub decls : ds ≡ c.setting.decls
  pub locals : AreToldEntries c.locals ls
  pub hint : q.hint ≡ c.hint
  pub meaning : q.meaning ≡ c.meaning
  pub own : q.inside.own ≡ c.inside.own
  pub result : q.inside.result ≡ c.inside.result
  pub deferred : q.inside.deferred ≡ c.inside.deferred
  pub body : q.inside.body ≡ c.inside.body
  pub labels : q.inside.labels ≡ map told_label c.inside.labels
  pub yields : AreToldYields (store_of c) c.yields q.yields
  pub role : has_judge c.inside.role ≡ true

-- What the walk looks at itself, since a judge is not told of it: a path to a local means one that is known; a `yield` without a value is
-- taken by what it means, if it means something; and so has been whatever was yielded to the node without one.
pub record IsLookedAt (c : Context) : Type 0 where
  pub path : (n : ℕ) → c.head.kind ≡ ki.Path → c.meaning ≡ means.Local n → (l : Local) × (slice_get c.locals n ≡ Some (Known l))
  pub value : c.head.kind ≡ ki.Yield → holds asked.YieldTarget c ≡ true → holds asked.YieldInside c ≡ true →
      holds asked.YieldNoValue c ≡ true
  pub taken : (t : ℕ) → c.hint ≡ hint.Of t → IsSome (find is_end c.yields) → void_fits (store_of c) t ≡ true
