-- What holds of each kind of defs and globals: which types are written, what the rows read of them, and what is known by them.
use Rattle.std.proofs.Common.{◌≡◌, ℕ, List, [], ◌∷◌, ◌++◌, Bool, true, false, not, cond, sym, ap, ◌∙◌, subst, arith, refl, Some, None}
use Rattle.std.specs.Prelude.{Option, Contains}
use Rattle.hare_tree.specs.declared.kind.Kind.{Kind}
use Rattle.hare_tree.specs.declared.kind.Kind.TheVariants as ki
use Rattle.hare_tree.specs.Node.{Head, Node}
use Rattle.hare_types.specs.declared.coercion.Coercion.{Coercion}
use Rattle.hare_types.specs.declared.coercion.Ty.{Ty}
use Rattle.hare_types.specs.Store.{Store}
use Rattle.hare_typed.specs.declared.constant.Const.TheVariants as constant
use Rattle.hare_typed.specs.Typed.{TypedNode, Mark, marked, typed_nodes}
use Rattle.hare_typed.specs.Coats.{with_coercion}
use Rattle.hare_typed.specs.Order.{missing}
use Rattle.hare_rules.specs.declared.row_id.RowId.{RowId}
use Rattle.hare_rules.specs.declared.row_id.RowId.TheVariants as row
use Rattle.hare_rules.specs.Context.{Setting, Context, BindingType, is_there, own_type}
use Rattle.hare_rules.specs.Control.{is_scalar}
use Rattle.hare_rules.specs.Words.{default_in}
use Rattle.hare_rules.specs.Rows.{holds, first_failing}
use Rattle.hare_modules.specs.Uses.{kid}
use Rattle.hare_depends.specs.Sorts.{sort_by, sort_of_global, has_type, has_value}
use Rattle.hare_whole.specs.Listing.{Written, written_by}
use Rattle.hare_whole.specs.Parts.{declared_id, id_or_zero, written_id, known_as, is_mutable, def_known, global_known, known_by}
use Rattle.hare_whole.specs.Declared.{unnumbered, own_context, IsWellBinding, IsWellBy}
use Rattle.hare_whole.specs.Turns.{known_by_types, known_by_value, is_def}
use Rattle.hare_finish.specs.Made.{is_binding}
use Rattle.hare_finish.proofs.PutTogether.Copies.{own_type-unnumbered}

-- ---- rows

-- the rows of a declaration of this kind read nothing of the numbers in its type
abbrev SameRows : Kind → Type 0
SameRows k =
    (w : Setting) (n : ℕ) (h : Head) (a b x v : TypedNode) → h.kind ≡ k →
    first_failing (own_context w n h (a ∷ b ∷ unnumbered x ∷ v ∷ [])) ≡ first_failing (own_context w n h (a ∷ b ∷ x ∷ v ∷ []))

-- that holds of any head of the kind, where it holds of one that is written with it
rows-by-kind : (k : Kind) (w : Setting) (n : ℕ) (h : Head) (a b x v : TypedNode) → h.kind ≡ k →
    first_failing (own_context w n (record h { kind = k }) (a ∷ b ∷ unnumbered x ∷ v ∷ []))
    ≡ first_failing (own_context w n (record h { kind = k }) (a ∷ b ∷ x ∷ v ∷ [])) →
    first_failing (own_context w n h (a ∷ b ∷ unnumbered x ∷ v ∷ [])) ≡ first_failing (own_context w n h (a ∷ b ∷ x ∷ v ∷ []))
rows-by-kind k w n h a b x v e s =
    let P : Head → Type 0 =
    λ g. first_failing (own_context w n g (a ∷ b ∷ unnumbered x ∷ v ∷ [])) ≡ first_failing (own_context w n g (a ∷ b ∷ x ∷ v ∷ [])) in
    subst P (sym (ap (λ j. record h { kind = j }) e)) s

declared-unnumbered : (b : Bool) (x v : TypedNode) → own_type (cond b (unnumbered x) v) ≡ own_type (cond b x v)
declared-unnumbered true x v = own_type-unnumbered x
declared-unnumbered false x v = refl

-- the last row of a def reads the type that is written, or else that of the value
rows-def : SameRows ki.Def
rows-def w n h a b (marked hx mx xs) v e =
    let x : TypedNode = marked hx mx xs in
    let c : Context = own_context w n (record h { kind = ki.Def }) (a ∷ b ∷ x ∷ v ∷ []) in
    let Q : Ty → Option RowId =
    λ y. cond (not (holds row.BindingDefault c)) (Some row.BindingDefault)
    (cond (not (holds row.BindingHasSize c)) (Some row.BindingHasSize)
    (cond (not (holds row.BindingConstant c)) (Some row.BindingConstant)
    (cond (not (is_scalar w.store y)) (Some row.DefScalar) None))) in
    rows-by-kind ki.Def w n h a b x v e (ap Q (declared-unnumbered (is_there x) x v))

rows-let : SameRows ki.GlobalLet
rows-let w n h a b (marked hx mx xs) v e = rows-by-kind ki.GlobalLet w n h a b (marked hx mx xs) v e refl

rows-const : SameRows ki.GlobalConst
rows-const w n h a b (marked hx mx xs) v e = rows-by-kind ki.GlobalConst w n h a b (marked hx mx xs) v e refl

-- ---- the declared type

declared_id-unnumbered : (s : Store) (x v : TypedNode) (r : Coercion) → declared_id s (unnumbered x) (with_coercion r v) ≡ declared_id s x v
declared_id-unnumbered s (marked hx mx xs) (marked hv mv vs) r = refl

declared_id-coerced : (s : Store) (x v : TypedNode) (r : Coercion) → declared_id s x (with_coercion r v) ≡ declared_id s x v
declared_id-coerced s x (marked hv mv vs) r = refl

declared_id-there : (s : Store) (x v : TypedNode) → is_there x ≡ true → declared_id s x v ≡ written_id x
declared_id-there s x v e = ap (λ b. cond b (written_id x) (id_or_zero (default_in s (own_type v)))) e

-- ---- what is known

global-known : (s : Store) (n : ℕ) (k : Kind) (x v y u : TypedNode) → declared_id s x v ≡ declared_id s y u →
    global_known s n k x v ≡ global_known s n k y u
global-known s n k x v y u e = ap (λ i. known_as n k i [] (is_mutable k) constant.Absent) e

def-known : (s : Store) (n : ℕ) (x y v : TypedNode) (r : Coercion) → declared_id s x v ≡ declared_id s y (with_coercion r v) →
    def_known s n x v ≡ def_known s n y (with_coercion r v)
def-known s n x y (marked hv mv vs) r e = ap (λ i. known_as n ki.Def i [] false mv.value) e

one : {A : Type 0} (x y : A) → x ≡ y → Contains (x ∷ []) y
one x y e = (0, omega arith, e)

-- what the parts of a declaration of this kind say, where the type is written, is what is known by it
abbrev SaysWritten : Kind → Type 0
SaysWritten k =
    (s : Store) (n : ℕ) (t : Node) (h : Head) (m : Mark) (a b x v : TypedNode) (r : Coercion) → has_type t ≡ true → is_there x ≡ true →
    Contains (known_by_types s n k (sort_by k t) (x ∷ []) ++ known_by_value s n k (sort_by k t) x v)
    (known_by s n k (marked h m (typed_nodes (a ∷ b ∷ unnumbered x ∷ with_coercion r v ∷ []))))

-- the same, where the type is left out
abbrev SaysLeftOut : Kind → Type 0
SaysLeftOut k =
    (s : Store) (n : ℕ) (t : Node) (h : Head) (m : Mark) (a b x v : TypedNode) (r : Coercion) → has_type t ≡ false →
    Contains (known_by_types s n k (sort_by k t) [] ++ known_by_value s n k (sort_by k t) x v)
    (known_by s n k (marked h m (typed_nodes (a ∷ b ∷ x ∷ with_coercion r v ∷ []))))

def-written : SaysWritten ki.Def
def-written s n t h m a b x v r e g =
    one (def_known s n x v) (def_known s n (unnumbered x) (with_coercion r v))
    (def-known s n x (unnumbered x) v r (sym (declared_id-unnumbered s x v r)))

def-left_out : SaysLeftOut ki.Def
def-left_out s n t h m a b x v r e =
    one (def_known s n x v) (def_known s n x (with_coercion r v)) (def-known s n x x v r (sym (declared_id-coerced s x v r)))

module _ (s : Store) (n : ℕ) (k : Kind) (t : Node) (x v : TypedNode) (r : Coercion) where
  -- what the parts of a global say, by whether its type is written
  abbrev SaysGlobal : (types : List TypedNode) → TypedNode → Bool → Type 0
  SaysGlobal ts y b =
      Contains (known_by_types s n k (sort_of_global b) ts ++ known_by_value s n k (sort_of_global b) x v)
      (global_known s n k y (with_coercion r v))

  global-written : has_type t ≡ true → is_there x ≡ true → SaysGlobal (x ∷ []) (unnumbered x) (has_type t)
  global-written e g =
      subst (SaysGlobal (x ∷ []) (unnumbered x)) (sym e)
      (one (global_known s n k x missing) (global_known s n k (unnumbered x) (with_coercion r v))
      (global-known s n k x missing (unnumbered x) (with_coercion r v)
      (declared_id-there s x missing g ∙ sym (declared_id-there s x v g) ∙ sym (declared_id-unnumbered s x v r))))

  global-left_out : is_def k ≡ false → has_type t ≡ false → SaysGlobal [] x (has_type t)
  global-left_out d e =
      let y = global_known s n k x (with_coercion r v) in
      subst (SaysGlobal [] x) (sym e)
      (subst (λ b. Contains (cond b (def_known s n x v) (global_known s n k x v) ∷ []) y) (sym d)
      (one (global_known s n k x v) y (global-known s n k x v x (with_coercion r v) (sym (declared_id-coerced s x v r)))))

-- ---- kinds

-- the types that are written in a def or a global
abbrev pub types_of : Node → List Written
types_of t = cond (has_type t) ((BindingType, kid t 2) ∷ []) []

-- what is asked of a kind of defs or globals
pub record IsBindingKind (k : Kind) : Type 0 where
  pub valued : (t : Node) → has_value (sort_by k t) ≡ true
  pub types : (t : Node) → written_by (sort_by k t) t ≡ types_of t
  pub rows : SameRows k
  pub written : SaysWritten k
  pub left_out : SaysLeftOut k
  pub well : (w : Setting) (n : ℕ) (d : TypedNode) → IsWellBinding w n d → IsWellBy w n k d

valued-global : (b : Bool) → has_value (sort_of_global b) ≡ true
valued-global true = refl
valued-global false = refl

types-global : (t : Node) (b : Bool) → has_type t ≡ b → written_by (sort_of_global b) t ≡ cond b ((BindingType, kid t 2) ∷ []) []
types-global t true e = refl
types-global t false e = ap (λ b. cond b ((BindingType, kid t 2) ∷ []) []) e

of-def : IsBindingKind ki.Def
of-def = record {
  valued = λ t. refl;
  types = λ t. refl;
  rows = rows-def;
  written = def-written;
  left_out = def-left_out;
  well = λ w n d h. h;
}

of-let : IsBindingKind ki.GlobalLet
of-let = record {
  valued = λ t. valued-global (has_type t);
  types = λ t. types-global t (has_type t) refl;
  rows = rows-let;
  written = λ s n t h m a b x v r e g. global-written s n ki.GlobalLet t x v r e g;
  left_out = λ s n t h m a b x v r e. global-left_out s n ki.GlobalLet t x v r refl e;
  well = λ w n d h. h;
}

of-const : IsBindingKind ki.GlobalConst
of-const = record {
  valued = λ t. valued-global (has_type t);
  types = λ t. types-global t (has_type t) refl;
  rows = rows-const;
  written = λ s n t h m a b x v r e g. global-written s n ki.GlobalConst t x v r e g;
  left_out = λ s n t h m a b x v r e. global-left_out s n ki.GlobalConst t x v r refl e;
  well = λ w n d h. h;
}

-- what the test of the kind says
pub by-kind : (k : Kind) → is_binding k ≡ true → IsBindingKind k
by-kind ki.Def e = of-def
by-kind ki.GlobalLet e = of-let
by-kind ki.GlobalConst e = of-const
by-kind _ e = absurd cc
