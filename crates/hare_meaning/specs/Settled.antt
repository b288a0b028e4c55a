-- What evaluation and lowering use of a typed tree, node by node: the kids that its kind has, how the types of a node and of its kids meet,
-- what is in scope, where a jump goes, and which members of unions have tags. Nothing here asks how types are found: there are no hints, no
-- faults and no rows of typing rules. So a tree that a checker found and one that was made of it by unwinding can both be settled, and
-- whoever evaluates or lowers trees asks for this alone.
use Rattle.std.specs.Prelude.{◌≡◌, ◌⊎◌, ℕ, suc, Bool, true, false, List, length, map}
use Rattle.hare_tree.specs.declared.kind.Kind.{Kind}
use Rattle.hare_tree.specs.declared.kind.Kind.TheVariants as kind
use Rattle.hare_tree.specs.Forms.{expr}
use Rattle.hare_typed.specs.Objects.{Object, Global, Constant}
use Rattle.hare_typed.specs.Typed.{TypedNode, TypedNodes, marked, typed_none, typed_more}
use Rattle.hare_typed.specs.Order.{kid_from_front}
use Rattle.hare_typed.specs.Constants.{own_kind}
use Rattle.hare_typed.specs.Numbers.{parameters_of}
use Rattle.hare_typed.specs.Given.{given}
use Rattle.hare_typed.specs.Evaluated.{is_evaluated}
use Rattle.hare_meaning.specs.Code.{Code, declaration}
use Rattle.hare_meaning.specs.Steps.{is_void}
use Rattle.hare_meaning.specs.Calls.{type_of_parameter}
use Rattle.hare_meaning.specs.Around.{Around, around_kid, around_function, result_of_function}
use Rattle.hare_meaning.specs.Within.{LeadsWithin}
use Rattle.hare_meaning.specs.Each.{Each}
use Rattle.hare_meaning.specs.SettledTypes.{IsMarked, IsAdmittedTy, is_sized}
use Rattle.hare_meaning.specs.SettledForm.{is_of, has_form}
use Rattle.hare_meaning.specs.SettledValues as v
use Rattle.hare_meaning.specs.SettledParts as p
use Rattle.hare_meaning.specs.SettledControl as c

-- ---- a node

-- what a node of the kind is among its kids; what is not evaluated is asked for nothing
abbrev pub IsKind : Around → TypedNode → Kind → Type 0
IsKind a t kind.Number = v.IsNumber a.code.types t
IsKind a t kind.RuneLit = v.IsRune a.code.types t
IsKind a t kind.Str = v.IsText a t
IsKind a t kind.Bool = v.IsTruth a.code.types t
IsKind a t kind.Null = v.IsNull t
IsKind a t kind.Void = v.IsVoid a.code.types t
IsKind a t kind.Path = v.IsPath a t
IsKind a t kind.Paren = v.IsParen t
IsKind a t kind.Neg = v.IsUnary a.code.types t
IsKind a t kind.Not = v.IsUnary a.code.types t
IsKind a t kind.Bang = v.IsBang a.code.types t
IsKind a t kind.Arith = v.IsArith a.code.types t
IsKind a t kind.Shift = v.IsShift a.code.types t
IsKind a t kind.Less = v.IsLess a.code.types t
IsKind a t kind.Equal = v.IsEqual a.code.types t
IsKind a t kind.Logic = v.IsLogic a.code.types t
IsKind a t kind.Cast = v.IsCast a.code.types t
IsKind a t kind.Size = v.IsMeasure a.code.types t
IsKind a t kind.Align = v.IsMeasure a.code.types t
IsKind a t kind.Len = v.IsLength a.code.types t
IsKind a t kind.StructLit = v.IsStructLiteral a.code.types t
IsKind a t kind.FieldValue = Unit {0}
IsKind a t kind.Tuple = v.IsTupleLiteral a.code.types t
IsKind a t kind.Array = v.IsArrayLiteral a.code.types t
IsKind a t kind.Call = v.IsCall a.code t
IsKind a t kind.Deref = p.IsDeref a.code.types t
IsKind a t kind.Addr = p.IsAddr a.code.types t
IsKind a t kind.Index = p.IsIndex a.code.types t
IsKind a t kind.Slice = p.IsSlice a.code.types t
IsKind a t kind.Field = p.IsField a.code.types t
IsKind a t kind.Offset = p.IsOffset a.code.types t
IsKind a t kind.Assign = p.IsAssign a.code.types t
IsKind a t kind.OpAssign = p.IsOpAssign a.code.types t
IsKind a t kind.Let = p.IsLet a.code.types t
IsKind a t kind.Const = p.IsLet a.code.types t
IsKind a t kind.As = p.IsAs a.code.types t
IsKind a t kind.Is = p.IsIs a.code.types t
IsKind a t kind.Try = p.IsTry a.code.types a.result t
IsKind a t kind.Force = p.IsLeft a.code.types t
IsKind a t kind.Alloc = p.IsAlloc a.code.types t
IsKind a t kind.Free = p.IsFree a.code.types t
IsKind a t kind.Append = p.IsAppend a.code.types t
IsKind a t kind.Delete = p.IsDelete a.code.types t
IsKind a t kind.Abort = c.IsAbort a.code.types t
IsKind a t kind.Assert = c.IsAssert a.code.types t
IsKind a t kind.If = c.IsIf a.code.types t
IsKind a t kind.For = c.IsFor a.code.types t
IsKind a t kind.ForEach = c.IsForEach a.code.types t
IsKind a t kind.Break = c.IsBreak a t
IsKind a t kind.Continue = c.IsContinue a t
IsKind a t kind.Yield = c.IsYield a t
IsKind a t kind.Return = c.IsReturn a t
IsKind a t kind.Block = c.IsBlock a.code.types t
IsKind a t kind.Defer = c.IsDefer a.code.types t
IsKind a t kind.Match = c.IsMatch a.code.types t
IsKind a t kind.Case = c.IsCase a.code.types t
IsKind a t kind.Switch = c.IsSwitch a.code t
IsKind a t kind.SwitchCase = c.IsCase a.code.types t
IsKind a t kind.None = Unit {0}
IsKind a t kind.Use = Unit {0}
IsKind a t kind.UseAlias = Unit {0}
IsKind a t kind.UseNames = Unit {0}
IsKind a t kind.ImportPath = Unit {0}
IsKind a t kind.Def = Unit {0}
IsKind a t kind.GlobalLet = Unit {0}
IsKind a t kind.GlobalConst = Unit {0}
IsKind a t kind.TypeDecl = Unit {0}
IsKind a t kind.Fn = Unit {0}
IsKind a t kind.Params = Unit {0}
IsKind a t kind.Param = Unit {0}
IsKind a t kind.StructField = Unit {0}
IsKind a t kind.Name = Unit {0}
IsKind a t kind.Export = Unit {0}
IsKind a t kind.TrailingComma = Unit {0}
IsKind a t kind.Dots = Unit {0}
IsKind a t kind.ByRef = Unit {0}
IsKind a t kind.TypeScalar = Unit {0}
IsKind a t kind.TypePath = Unit {0}
IsKind a t kind.TypePointer = Unit {0}
IsKind a t kind.TypeNullable = Unit {0}
IsKind a t kind.TypeSlice = Unit {0}
IsKind a t kind.TypeError = Unit {0}
IsKind a t kind.TypeArray = Unit {0}
IsKind a t kind.TypeStruct = Unit {0}
IsKind a t kind.TypeTuple = Unit {0}
IsKind a t kind.TypeUnion = Unit {0}
IsKind a t kind.Spread = Unit {0}
IsKind a t kind.Message = Unit {0}
IsKind a t kind.Binding = Unit {0}
IsKind a t kind.PatternLet = Unit {0}
IsKind a t kind.PatternNull = Unit {0}
IsKind a t kind.Values = Unit {0}

-- ---- the kids that are looked into

-- how a node treats its kid number i: it evaluates it, or only what stands in it, or neither
pub data Use : Type 0 where
  Evaluates LooksInto Ignores : Use

abbrev pub use_by : Bool → Use
use_by true = Evaluates
use_by false = Ignores

-- The path of what is called is not evaluated, nor what stands in `offset`. Of the element or range that is deleted the operand and the
-- bounds are. Of all other kids it is those of kinds that are evaluated.
abbrev pub use_of : (kind own : Kind) → ℕ → Use
use_of kind.Call k ℕ.zero = Ignores
use_of kind.Offset k i = Ignores
use_of kind.Delete k i = LooksInto
use_of _ k i = use_by (is_evaluated k)

-- what is asked of a kid: all, of what stands in it, or nothing
abbrev pub by_use : Use → Type 0 → Type 0 → Type 0
by_use Evaluates whole parts = whole
by_use LooksInto whole parts = parts
by_use Ignores whole parts = Unit {0}

-- ---- a tree

abbrev mutual
  pub IsSettled : Around → TypedNode → Type 0
  IsSettled a (marked h m ts) =
      IsMarked a.code.types m
      × IsKind a (marked h m ts) h.kind
      × (has_form (marked h m ts) ≡ true)
      × AreSettled a (marked h m ts) h.kind 0 ts

  -- the kids of a node, from number i on
  pub AreSettled : Around → TypedNode → Kind → ℕ → TypedNodes → Type 0
  AreSettled a t k i typed_none = Unit {0}
  AreSettled a t k i (typed_more (marked h m us) ts) =
      by_use (use_of k h.kind i)
      (IsSettled (around_kid a t i) (marked h m us))
      (AreSettled (around_kid a t i) (marked h m us) h.kind 0 us)
      × AreSettled a t k (suc i) ts

-- ---- a program

-- Types of values have sizes; the body is an expression that gives the result, and is settled where it stands.
pub record IsSettledFunction (c : Code) (d : ℕ) : Type 0 where
  pub result : IsAdmittedTy c.types (result_of_function (declaration c.declarations d))
  pub parameters : Each (λ p. IsAdmittedTy c.types (type_of_parameter p)) (parameters_of (declaration c.declarations d))
  pub sized : Each (λ p. is_sized c.types (type_of_parameter p) ≡ true) (parameters_of (declaration c.declarations d))
  pub expression : is_of expr (own_kind (kid_from_front 4 (declaration c.declarations d))) ≡ true
  pub gives : given (kid_from_front 4 (declaration c.declarations d)) ≡ result_of_function (declaration c.declarations d)
  pub body : IsSettled (around_function c d) (kid_from_front 4 (declaration c.declarations d))

-- an object that stands from the start with these: neither a scope nor `free` ends it, and its pointers lead within them
pub record IsStatic (objects : List Object) (o : Object) : Type 0 where
  pub alive : o.alive ≡ true
  pub kind : (o.kind ≡ Global) ⊎ (o.kind ≡ Constant)
  pub leads : Each (LeadsWithin objects) o.cells

-- Each function of the code is settled, and a run begins with one that takes nothing and gives nothing.
pub record IsSettledCode (c : Code) : Type 0 where
  pub functions : (d : ℕ) → own_kind (declaration c.declarations d) ≡ kind.Fn → IsSettledFunction c d
  pub statics : Each (λ s. IsStatic (map (λ s. s.1) c.statics) s.1) c.statics
  pub entry : own_kind (declaration c.declarations c.entry) ≡ kind.Fn
  pub no_parameters : length (parameters_of (declaration c.declarations c.entry)) ≡ 0
  pub no_result : is_void c.types (result_of_function (declaration c.declarations c.entry)) ≡ true
