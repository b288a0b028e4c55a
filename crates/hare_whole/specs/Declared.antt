-- What a well-typed declaration is. Its parts are judged by the rules each for itself: written types, a value, a body; and then the
-- declaration.
use Rattle.std.specs.Prelude.{◌≡◌, ◌⊎◌, ℕ, suc, List, [], ◌∷◌, ◌++◌, Bool, true, false, length, map, replicate, Option, None}
use Rattle.std.specs.Option.{unwrap_or}
use Rattle.hare_tree.specs.declared.kind.Kind.{Kind}
use Rattle.hare_tree.specs.declared.kind.Kind.TheVariants as ki
use Rattle.hare_tree.specs.declared.token.Meaning.TheVariants as means
use Rattle.hare_tree.specs.Node.{Head, Node}
use Rattle.hare_types.specs.declared.coercion.Ty.{Ty}
use Rattle.hare_types.specs.declared.coercion.Ty.TheVariants as ty
use Rattle.hare_types.specs.declared.row.Scalar.TheVariants as keyword
use Rattle.hare_typed.specs.declared.constant.Const.TheVariants as constant
use Rattle.hare_typed.specs.Typed.{TypedNode, TypedNodes, Mark, marked, typed_none, typed_more, typed_nodes, head_of}
use Rattle.hare_typed.specs.Coats.{with_coercion}
use Rattle.hare_typed.specs.Erased.{erase}
use Rattle.hare_typed.specs.Numbers.{kind_of, parameters_of}
use Rattle.hare_rules.specs.declared.hint.Hint.{Hint}
use Rattle.hare_rules.specs.declared.hint.Hint.TheVariants as hint
use Rattle.hare_rules.specs.Words.{id_in, word_id, typed_as}
use Rattle.hare_rules.specs.Context.{Setting, Context, Inside, Role, Ordinary, BindingType, DeclaredValue, Entry, Later, Known, is_there, own_type}
use Rattle.hare_rules.specs.Above.{Above, hint_to, trees_in}
use Rattle.hare_rules.specs.Flow.{Flow, flow_at}
use Rattle.hare_rules.specs.Settles.{same}
use Rattle.hare_rules.specs.Rows.{first_failing}
use Rattle.hare_rules.specs.Values.{declared_coercion}
use Rattle.hare_rules.specs.Finished.{bare, AllCarry, IsWell}
use Rattle.hare_whole.specs.Parts.{bindings_of, id_or_zero, written_id, type_of_param}

-- ---- what stands over a part

abbrev pub inside : ℕ → (result : ℕ) → (body : Bool) → Role → Inside
inside n result body role = record { own = n; result = result; labels = []; deferred = false; body = body; role = role }

-- in types and values nothing can be returned
abbrev pub never_id : Setting → ℕ
never_id w = id_or_zero (word_id w.store keyword.Never)

abbrev pub over_type : Setting → ℕ → Role → Above
over_type w n role = record { hint = hint.None; values = hint.None; inside = inside n (never_id w) false role; first = 0; begins = 0 }

abbrev pub over_value : Setting → ℕ → Hint → Above
over_value w n h = record { hint = h; values = hint.None; inside = inside n (never_id w) false DeclaredValue; first = 0; begins = 0 }

-- a body has the result as its hint, and the parameters as its first bindings
abbrev pub over_body : ℕ → (result params : ℕ) → Above
over_body n result params = record {
  hint = hint.Of result;
  values = hint.None;
  inside = inside n result true Ordinary;
  first = params;
  begins = 0;
}

-- ---- what is known before it

abbrev pub unknown_locals : Node → List Entry
unknown_locals t = replicate (bindings_of t) Later

abbrev pub before_type : Flow
before_type = flow_at []

abbrev pub before_value : Node → Flow
before_value t = flow_at (unknown_locals t)

-- parameters may be assigned to
abbrev pub before_body : List ℕ → Node → Flow
before_body ps t = flow_at (map (λ p. Known (record { ty = p; mutable = true })) ps ++ unknown_locals t)

-- ---- marks without meaning

abbrev pub void_type : Setting → Ty
void_type w = unwrap_or (typed_as (word_id w.store keyword.Void)) ty.Null

-- what a tree carries of which nothing is asked: it is void, and has no meaning and no constant
abbrev pub plain_mark : Setting → ℕ → Mark
plain_mark w node = record { node = node; ty = void_type w; coerce = same (void_type w); meaning = means.None; value = constant.Absent }

-- `export`, a name, a comma, or what stands in the place of what is left out
abbrev pub IsPlain : Setting → TypedNode → Type 0
IsPlain w t = t ≡ marked (head_of t) (plain_mark w 0) typed_none

-- ---- written types

-- The nodes of types have no numbers in a declaration.
abbrev mutual
  pub unnumbered : TypedNode → TypedNode
  unnumbered (marked h m ts) = marked h (record m { node = 0 }) (unnumbered_each ts)

  pub unnumbered_each : TypedNodes → TypedNodes
  unnumbered_each typed_none = typed_none
  unnumbered_each (typed_more t ts) = typed_more (unnumbered t) (unnumbered_each ts)

-- the type is well typed as a tree of its own, and each of its nodes goes to its own type
pub record IsWellType (w : Setting) (n : ℕ) (role : Role) (t : TypedNode) : Type 0 where
  pub tree : TypedNode
  pub carries : AllCarry w (over_type w n role) tree before_type
  pub plain : bare tree ≡ tree
  pub is : t ≡ unnumbered tree

-- the written type of a def or a global, which may be left out
abbrev pub IsWellTypePart : Setting → ℕ → TypedNode → Type 0
IsWellTypePart w n t = ((is_there t ≡ false) × IsPlain w t) ⊎ ((is_there t ≡ true) × IsWellType w n BindingType t)

-- ---- defs and globals

-- a value is asked for what is written
abbrev pub hint_of_part : TypedNode → Hint
hint_of_part t = hint_to (written (is_there t))
  where
    written : Bool → Option ℕ
    written true = id_in (own_type t)
    written false = None

-- the node of the declaration, of which these are the kids
abbrev pub own_context : Setting → ℕ → Head → List TypedNode → Context
own_context w n h ts =
    record {
      setting = w;
      locals = [];
      head = h;
      node = 0;
      meaning = means.None;
      hint = hint.None;
      inside = inside n (never_id w) false Ordinary;
      kids = ts;
      yields = [];
    }

-- The value is well typed by itself, and the declaration settles what it goes to: what is written, or its default.
pub record IsWellValue (w : Setting) (n : ℕ) (h : Hint) (v : TypedNode) : Type 0 where
  pub tree : TypedNode
  pub well : IsWell w (over_value w n h) (before_value (erase v)) tree
  pub is : v ≡ with_coercion (declared_coercion w.store h (own_type tree)) tree

pub record IsWellBinding (w : Setting) (n : ℕ) (d : TypedNode) : Type 0 where
  pub export_is : TypedNode
  pub name : TypedNode
  pub type : TypedNode
  pub value : TypedNode
  pub shape : d ≡ marked (head_of d) (plain_mark w 0) (typed_nodes (export_is ∷ name ∷ type ∷ value ∷ []))
  pub plain_export : IsPlain w export_is
  pub plain_name : IsPlain w name
  pub well_type : IsWellTypePart w n type
  pub well_value : IsWellValue w n (hint_of_part type) value
  pub rows : first_failing (own_context w n (head_of d) (export_is ∷ name ∷ type ∷ well_value.tree ∷ [])) ≡ None

-- ---- types

pub record IsWellTypeDecl (w : Setting) (n : ℕ) (d : TypedNode) : Type 0 where
  pub export_is : TypedNode
  pub name : TypedNode
  pub type : TypedNode
  pub shape : d ≡ marked (head_of d) (plain_mark w 0) (typed_nodes (export_is ∷ name ∷ type ∷ []))
  pub plain_export : IsPlain w export_is
  pub plain_name : IsPlain w name
  pub well_type : IsWellType w n Ordinary type

-- ---- functions

abbrev pub is_param : Kind → Bool
is_param ki.Param = true
is_param _ = false

-- a parameter with its number; commas among them have none
abbrev pub IsWellParam : Setting → ℕ → (number : ℕ) → TypedNode → Type 0
IsWellParam w n k p =
    (t : TypedNode) × (p ≡ marked (head_of p) (plain_mark w k) (typed_nodes (t ∷ []))) × IsWellType w n BindingType t

abbrev pub AreWellParams : Setting → ℕ → (number : ℕ) → List TypedNode → Type 0
AreWellParams w n k [] = Unit {0}
AreWellParams w n k (p ∷ ps) =
    ((is_param (kind_of p) ≡ true) × IsWellParam w n k p × AreWellParams w n (suc k) ps)
    ⊎ ((is_param (kind_of p) ≡ false) × IsPlain w p × AreWellParams w n k ps)

-- the types of the parameters of a function
abbrev pub param_ids : TypedNode → List ℕ
param_ids d = map (λ p. written_id (type_of_param p)) (parameters_of d)

-- The parameters are numbered behind the nodes of the body.
pub record IsWellFunction (w : Setting) (n : ℕ) (d : TypedNode) : Type 0 where
  pub export_is : TypedNode
  pub name : TypedNode
  pub params : List TypedNode
  pub params_head : Head
  pub result : TypedNode
  pub body : TypedNode
  pub shape :
      d ≡ marked (head_of d) (plain_mark w 0)
      (typed_nodes (export_is ∷ name ∷ marked params_head (plain_mark w 0) (typed_nodes params) ∷ result ∷ body ∷ []))
  pub plain_export : IsPlain w export_is
  pub plain_name : IsPlain w name
  pub well_params : AreWellParams w n (trees_in (erase body)) params
  pub well_result : IsWellType w n Ordinary result
  pub well_body :
      IsWell w (over_body n (written_id result) (length (param_ids d))) (before_body (param_ids d) (erase body)) body

-- ---- declarations

abbrev pub IsWellBy : Setting → ℕ → Kind → TypedNode → Type 0
IsWellBy w n ki.TypeDecl d = IsWellTypeDecl w n d
IsWellBy w n ki.Fn d = IsWellFunction w n d
IsWellBy w n ki.Def d = IsWellBinding w n d
IsWellBy w n ki.GlobalLet d = IsWellBinding w n d
IsWellBy w n ki.GlobalConst d = IsWellBinding w n d
IsWellBy w n _ d = ⊥

-- declaration number n is well typed
abbrev pub IsWellDecl : Setting → ℕ → TypedNode → Type 0
IsWellDecl w n d = IsWellBy w n (kind_of d) d
