-- The third and the fourth phase: declarations in their order, and then bodies in that of the source; and the first fault of each.
--
-- One store is spoken of throughout, that with which the checking ends. At each turn no more of it is seen than the definitions of the
-- types that are done.
use Rattle.std.specs.Prelude.{◌≡◌, ◌⊎◌, ℕ, ◌<◌, List, [], ◌∷◌, ◌++◌, Bool, true, false, not, ◌||◌, cond, filter, length, map, nat_eq, Option, Some, None, Contains}
use Rattle.std.specs.Option.{unwrap_or}
use Rattle.std.specs.Map.{lookup}
use Rattle.hare_tree.specs.declared.kind.Kind.{Kind}
use Rattle.hare_tree.specs.declared.kind.Kind.TheVariants as ki
use Rattle.hare_tree.specs.declared.place.Fault.{Fault}
use Rattle.hare_tree.specs.Node.{Node, head}
use Rattle.hare_types.specs.Store.{Store, definition_of}
use Rattle.hare_types.specs.Unions.{ascending}
use Rattle.hare_seen.specs.Seen.{seen_by}
use Rattle.hare_typed.specs.Typed.{TypedNode, marked, typed_none}
use Rattle.hare_typed.specs.Erased.{erase}
use Rattle.hare_typed.specs.Order.{missing, tree_from_front, backwards}
use Rattle.hare_rules.specs.declared.declared.DeclType.{DeclType}
use Rattle.hare_rules.specs.declared.row_id.RowId.{RowId}
use Rattle.hare_rules.specs.declared.hint.Hint.{Hint}
use Rattle.hare_rules.specs.declared.hint.Hint.TheVariants as hint
use Rattle.hare_rules.specs.Aggregates.{but_last}
use Rattle.hare_rules.specs.Words.{id_in, is_among, nomem}
use Rattle.hare_rules.specs.Context.{Setting, Context, declaration, own_type}
use Rattle.hare_rules.specs.Above.{hint_to}
use Rattle.hare_rules.specs.Rows.{first_failing, fault_of}
use Rattle.hare_rules.specs.Finished.{bare, AllCarry, IsWell, FailsIn}
use Rattle.hare_modules.specs.Uses.{kid}
use Rattle.hare_depends.specs.declared.said.Sort.{Sort}
use Rattle.hare_depends.specs.declared.said.Sort.TheVariants as so
use Rattle.hare_depends.specs.Sorts.{sort_of, is_global, has_value}
use Rattle.hare_depends.specs.Said.{paths_in, numbers_at}
use Rattle.hare_depends.specs.Dependence.{is_at}
use Rattle.hare_depends.specs.Order.{IsOrder}
use Rattle.hare_whole.specs.Listing.{Listing, saids, IsDecl, Written, written_types}
use Rattle.hare_whole.specs.Parts.{type_known, function_known, def_known, global_known, written_id}
use Rattle.hare_whole.specs.Declared.{over_type, over_value, over_body, before_type, before_value, before_body, plain_mark, own_context}

-- ---- the steps, in their order

-- a step of the third phase
pub data Step : Type 0 where
  Types : ℕ → Step  -- the types that are written in a declaration
  Value : ℕ → Step  -- the value of a def or a global, and then the declaration itself
  Done : ℕ → Step  -- the declaration is done: types that hold it by value may be known by it

-- the globals with a type that a value names, in the order of the source
abbrev pub globals_named : Listing → Node → List ℕ
globals_named p v = ascending (filter (is_at is_global (saids p)) (numbers_at (length p.decls) p.means (paths_in v)))

-- The written types of such a global are judged right before the first value that names it, or at its own turn where that comes first.
abbrev pub early : Listing → (judged : List ℕ) → Node → List ℕ
early p js t = cond (has_value (sort_of t)) (filter (λ g. not (is_among g js)) (globals_named p (kid t 3))) []

abbrev pub value_steps : Sort → ℕ → List Step
value_steps so.Type n = []
value_steps so.Function n = []
value_steps so.Constant n = Value n ∷ []
value_steps so.Global n = Value n ∷ []

-- the turn of a declaration, where the written types of these have been judged
abbrev pub turn : Listing → (judged : List ℕ) → ℕ → Node → List Step
turn p js n t =
    cond (is_among n js) [] (Types n ∷ []) ++ map Types (early p (n ∷ js) t) ++ value_steps (sort_of t) n ++ Done n ∷ []

-- the steps of these declarations, one after another
pub data AreSteps (p : Listing) : (judged order : List ℕ) → List Step → Type 0 where
  no_more : (js : List ℕ) → AreSteps p js [] []
  next : (js : List ℕ) (n : ℕ) (t : Node) (ns : List ℕ) (xs : List Step) → IsDecl p n t → AreSteps p (n ∷ early p (n ∷ js) t ++ js) ns xs →
      AreSteps p js (n ∷ ns) (turn p js n t ++ xs)

-- ---- what is known at a step

pub record Stage : Type 0 where
  pub done : List ℕ  -- the declarations that are done
  pub known : List DeclType  -- what is known of declarations
  pub typed : List (ℕ × List TypedNode)  -- of declarations whose written types have been judged, these with their types

abbrev pub start : Stage
start = record { done = []; known = []; typed = [] }

-- the store, of whose definitions no more is seen than those of these types, and that of `rt::nomem`
abbrev pub is_seen : List ℕ → ℕ → Bool
is_seen done d = is_among d done || nat_eq d nomem

abbrev pub seen : Store → List ℕ → Store
seen s done = seen_by (is_seen done) s

abbrev pub setting_at : Listing → Store → Stage → Setting
setting_at p s g = record { store = seen s g.done; decls = g.known; means = p.means }

abbrev pub typed_at : Stage → ℕ → List TypedNode
typed_at g n = unwrap_or (lookup (nat_eq n) g.typed) []

-- ---- written types

-- the type is well typed where it stands, and this is its tree
pub record IsTyped (w : Setting) (n : ℕ) (r : Written) (t : TypedNode) : Type 0 where
  pub erases : erase t ≡ r.1
  pub plain : bare t ≡ t
  pub carries : AllCarry w (over_type w n r.0) t before_type

abbrev pub AreTyped : Setting → ℕ → List Written → List TypedNode → Type 0
AreTyped w n [] [] = Unit {0}
AreTyped w n [] (t ∷ ts) = ⊥
AreTyped w n (r ∷ rs) [] = ⊥
AreTyped w n (r ∷ rs) (t ∷ ts) = IsTyped w n r t × AreTyped w n rs ts

-- the fault of the first row that fails at the first node that fails
abbrev pub IsTypeFault : Setting → ℕ → Written → Fault → Type 0
IsTypeFault w n r f = (q : RowId) × (c : Context) × FailsIn w (over_type w n r.0) r.1 before_type q c × (f ≡ fault_of q c)

abbrev pub IsTypesFault : Setting → ℕ → List Written → Fault → Type 0
IsTypesFault w n [] f = ⊥
IsTypesFault w n (r ∷ rs) f = IsTypeFault w n r f ⊎ ((t : TypedNode) × IsTyped w n r t × IsTypesFault w n rs f)

-- What is known by its written types: of a type and of a function all, of a global its type. A def is known by its value, as is a global
-- without a type.
abbrev pub known_by_types : Store → ℕ → Kind → Sort → List TypedNode → List DeclType
known_by_types s n k so.Type ts = type_known s n ∷ []
known_by_types s n k so.Function ts = function_known n (but_last ts) (tree_from_front 0 (backwards ts)) ∷ []
known_by_types s n k so.Constant ts = []
known_by_types s n k so.Global ts = global_known s n k (tree_from_front 0 ts) missing ∷ []

abbrev pub with_types : Store → Stage → ℕ → Node → List TypedNode → Stage
with_types s g n t ts = record g { known = g.known ++ known_by_types s n (head t).kind (sort_of t) ts; typed = (n, ts) ∷ g.typed }

-- ---- values

-- a value is asked for the written type, where there is one
abbrev pub hint_by : List TypedNode → Hint
hint_by [] = hint.None
hint_by (t ∷ ts) = hint_to (id_in (own_type t))

abbrev pub plain_of : Setting → Node → TypedNode
plain_of w t = marked (head t) (plain_mark w 0) typed_none

abbrev pub type_or_plain : Setting → Node → List TypedNode → TypedNode
type_or_plain w t [] = plain_of w t
type_or_plain w t (x ∷ xs) = x

-- the node of the declaration, with this value
abbrev pub context_of : Setting → ℕ → Node → List TypedNode → TypedNode → Context
context_of w n t ts v = own_context w n (head t) (plain_of w (kid t 0) ∷ plain_of w (kid t 1) ∷ type_or_plain w (kid t 2) ts ∷ v ∷ [])

-- the value is well typed
pub record IsTypedValue (w : Setting) (n : ℕ) (t : Node) (ts : List TypedNode) (v : TypedNode) : Type 0 where
  pub erases : erase v ≡ kid t 3
  pub well : IsWell w (over_value w n (hint_by ts)) (before_value (kid t 3)) v

-- the first fault of the value, or where it is well typed that of the declaration
pub data IsValueFault (w : Setting) (n : ℕ) (t : Node) (ts : List TypedNode) (f : Fault) : Type 0 where
  inside : (q : RowId) (c : Context) → FailsIn w (over_value w n (hint_by ts)) (kid t 3) (before_value (kid t 3)) q c → f ≡ fault_of q c →
      IsValueFault w n t ts f
  itself : (v : TypedNode) (q : RowId) → IsTypedValue w n t ts v → first_failing (context_of w n t ts v) ≡ Some q →
      f ≡ fault_of q (context_of w n t ts v) →
      IsValueFault w n t ts f

abbrev pub is_def : Kind → Bool
is_def ki.Def = true
is_def _ = false

-- what is known by its value: of a global with a type nothing more
abbrev pub known_by_value : Store → ℕ → Kind → Sort → (type value : TypedNode) → List DeclType
known_by_value s n k so.Type t v = []
known_by_value s n k so.Function t v = []
known_by_value s n k so.Constant t v = cond (is_def k) (def_known s n t v) (global_known s n k t v) ∷ []
known_by_value s n k so.Global t v = []

abbrev pub with_value : Setting → Store → Stage → ℕ → Node → TypedNode → Stage
with_value w s g n t v =
    record g { known = g.known ++ known_by_value s n (head t).kind (sort_of t) (type_or_plain w (kid t 2) (typed_at g n)) v }

-- ---- types that are done

-- in the store a type is defined as its declaration's type
abbrev pub IsDefinedAs : Store → ℕ → Sort → List TypedNode → Type 0
IsDefinedAs s n so.Type ts = definition_of s n ≡ Some (written_id (tree_from_front 0 ts))
IsDefinedAs s n so.Function ts = Unit {0}
IsDefinedAs s n so.Constant ts = Unit {0}
IsDefinedAs s n so.Global ts = Unit {0}

abbrev pub with_done : Stage → ℕ → Stage
with_done g n = record g { done = n ∷ g.done }

-- what was judged before is still well typed with what is known now, so that no type behind a pointer has turned out to be too large
abbrev pub StaysTyped : Listing → Store → Stage → Type 0
StaysTyped p s g =
    (m : ℕ) (t : Node) (ts : List TypedNode) → Contains g.typed (m, ts) → IsDecl p m t → AreTyped (setting_at p s g) m (written_types t) ts

-- the fault of a declaration that was judged before, in its types
pub record IsLateFault (p : Listing) (s : Store) (g : Stage) (m : ℕ) (f : Fault) : Type 0 where
  pub tree : Node
  pub types : List TypedNode
  pub is_there : IsDecl p m tree
  pub judged : Contains g.typed (m, types)
  pub fails : IsTypesFault (setting_at p s g) m (written_types tree) f

-- ---- going on, and the first fault

-- a step is passed, and more is known
pub data Passes (p : Listing) (s : Store) (g : Stage) : Step → Stage → Type 0 where
  types : (n : ℕ) (t : Node) (ts : List TypedNode) → IsDecl p n t → AreTyped (setting_at p s g) n (written_types t) ts →
      Passes p s g (Types n) (with_types s g n t ts)
  value : (n : ℕ) (t : Node) (v : TypedNode) → IsDecl p n t → IsTypedValue (setting_at p s g) n t (typed_at g n) v →
      first_failing (context_of (setting_at p s g) n t (typed_at g n) v) ≡ None →
      Passes p s g (Value n) (with_value (setting_at p s g) s g n t v)
  done : (n : ℕ) (t : Node) → IsDecl p n t → IsDefinedAs s n (sort_of t) (typed_at g n) → StaysTyped p s (with_done g n) →
      Passes p s g (Done n) (with_done g n)

-- all of these steps are passed
pub data Goes (p : Listing) (s : Store) : Stage → List Step → Stage → Type 0 where
  nowhere : (g : Stage) → Goes p s g [] g
  on : (g h k : Stage) (x : Step) (xs : List Step) → Passes p s g x h → Goes p s h xs k → Goes p s g (x ∷ xs) k

-- The fault of a step. Of types that a declaration completes the first in the order of the source counts.
pub data Fails (p : Listing) (s : Store) (g : Stage) (f : Fault) : Step → Type 0 where
  types : (n : ℕ) (t : Node) → IsDecl p n t → IsTypesFault (setting_at p s g) n (written_types t) f → Fails p s g f (Types n)
  value : (n : ℕ) (t : Node) → IsDecl p n t → IsValueFault (setting_at p s g) n t (typed_at g n) f → Fails p s g f (Value n)
  done : (n m : ℕ) (t : Node) → IsDecl p n t → IsDefinedAs s n (sort_of t) (typed_at g n) → IsLateFault p s (with_done g n) m f →
      ((k : ℕ) (e : Fault) → k < m → ¬ IsLateFault p s (with_done g n) k e) → Fails p s g f (Done n)

-- all steps of all declarations, in their order
pub record AreAllSteps (p : Listing) (xs : List Step) : Type 0 where
  pub order : List ℕ
  pub is_order : IsOrder (saids p) order
  pub steps : AreSteps p [] order xs

-- the first fault of declarations
pub record IsDeclarationFault (p : Listing) (s : Store) (f : Fault) : Type 0 where
  pub before : List Step
  pub step : Step
  pub behind : List Step
  pub all : AreAllSteps p (before ++ step ∷ behind)
  pub stage : Stage
  pub goes : Goes p s start before stage
  pub fails : Fails p s stage f step

-- all declarations have been judged
pub record AreJudged (p : Listing) (s : Store) (g : Stage) : Type 0 where
  pub steps : List Step
  pub all : AreAllSteps p steps
  pub goes : Goes p s start steps g

-- ---- bodies

abbrev pub params_in : Option DeclType → List ℕ
params_in None = []
params_in (Some d) = d.params

abbrev pub result_in : Option DeclType → ℕ
result_in None = 0
result_in (Some d) = d.ty

-- the body of a function is well typed
pub record HasWellBody (w : Setting) (n : ℕ) (t : Node) : Type 0 where
  pub tree : TypedNode
  pub erases : erase tree ≡ kid t 4
  pub well :
      IsWell w (over_body n (result_in (declaration w n)) (length (params_in (declaration w n))))
      (before_body (params_in (declaration w n)) (kid t 4)) tree

-- the fault of the first row that fails at the first node of a body that fails
abbrev pub IsFaultOfBody : Setting → ℕ → Node → Fault → Type 0
IsFaultOfBody w n t f =
    (q : RowId) × (c : Context)
    × FailsIn w (over_body n (result_in (declaration w n)) (length (params_in (declaration w n)))) (kid t 4)
    (before_body (params_in (declaration w n)) (kid t 4)) q c
    × (f ≡ fault_of q c)

-- the first fault of bodies, where all declarations have been judged: that of the first function whose body has one
pub record IsBodyFault (p : Listing) (s : Store) (f : Fault) : Type 0 where
  pub stage : Stage
  pub judged : AreJudged p s stage
  pub decl : ℕ
  pub tree : Node
  pub is_there : IsDecl p decl tree
  pub function : sort_of tree ≡ so.Function
  pub fault : IsFaultOfBody (setting_at p s stage) decl tree f
  pub before : (n : ℕ) (t : Node) → n < decl → IsDecl p n t → sort_of t ≡ so.Function → HasWellBody (setting_at p s stage) n t
