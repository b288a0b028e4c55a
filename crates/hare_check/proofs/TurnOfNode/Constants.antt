-- The constant of a node is that of its tree, with what is settled of its kids, by its role.
use Rattle.std.proofs.Common.{◌≡◌, List, ap, sym, ◌∙◌, Some}
use Rattle.hare_types.specs.declared.coercion.Ty.{Ty}
use Rattle.hare_types.specs.declared.coercion.Coercion.{Coercion}
use Rattle.hare_typed.specs.Typed.{TypedNode, Mark, marked, typed_nodes}
use Rattle.hare_typed.specs.Folded.{folded}
use Rattle.hare_rules.specs.Context.{Context, Role, Ordinary, Callee, Length, BindingType, CaseValue, DeclaredValue, store_of}
use Rattle.hare_rules.specs.Settles.{own_coercion, settled_kids}
use Rattle.hare_rules.specs.Types.{type_of}
use Rattle.hare_rules.specs.Values.{declared_coercion, finished, value_as, value_by_type, value_named, value_of}
use Rattle.hare_check.specs.Folding.{constant_in}

-- The mark and the kids are those that the tree of this context has when it is folded, but for its coercion.
pub record IsFinishing (c : Context) (a : Ty) (m : Mark) (ys : List TypedNode) : Type 0 where
  pub type : type_of c ≡ Some a
  pub ty : m.ty ≡ a
  pub node : m.node ≡ c.node
  pub meaning : m.meaning ≡ c.meaning
  pub value : m.value ≡ value_named c
  pub kids : ys ≡ settled_kids c

mark-finished : (c : Context) (a : Ty) (m : Mark) (r : Coercion) → m.ty ≡ a → m.node ≡ c.node → m.meaning ≡ c.meaning →
    m.value ≡ value_named c →
    record m { coerce = r } ≡ record { node = c.node; ty = a; coerce = r; meaning = c.meaning; value = value_named c }
mark-finished c a m r e n i v = cc

-- so is the tree with this coercion
tree-finished : (c : Context) (a : Ty) (m : Mark) (ys : List TypedNode) (r : Coercion) → IsFinishing c a m ys →
    marked c.head (record m { coerce = r }) (typed_nodes ys) ≡ finished c a r
tree-finished c a m ys r q =
    let n : Mark = record { node = c.node; ty = a; coerce = r; meaning = c.meaning; value = value_named c } in
    ap (λ (z : Mark). marked c.head z (typed_nodes ys)) (mark-finished c a m r q.ty q.node q.meaning q.value)
    ∙ ap (λ zs. marked c.head n (typed_nodes zs)) q.kids

value-in : (c : Context) (a : Ty) (m : Mark) (ys : List TypedNode) → IsFinishing c a m ys → (r : Role) →
    constant_in r (store_of c) c.hint c.inside.own (marked c.head m (typed_nodes ys)) ≡ value_as c r a
value-in c a m ys q CaseValue =
    ap (folded (store_of c) c.inside.own) (tree-finished c a m ys (own_coercion (store_of c) c.hint m.ty) q)
    ∙ ap (λ z. folded (store_of c) c.inside.own (finished c a (own_coercion (store_of c) c.hint z))) q.ty
value-in c a m ys q DeclaredValue =
    ap (folded (store_of c) c.inside.own) (tree-finished c a m ys (declared_coercion (store_of c) c.hint m.ty) q)
    ∙ ap (λ z. folded (store_of c) c.inside.own (finished c a (declared_coercion (store_of c) c.hint z))) q.ty
value-in c a m ys q Ordinary = q.value
value-in c a m ys q Callee = q.value
value-in c a m ys q Length = q.value
value-in c a m ys q BindingType = q.value

pub finishing-value : (c : Context) (a : Ty) (m : Mark) (ys : List TypedNode) → IsFinishing c a m ys →
    constant_in c.inside.role (store_of c) c.hint c.inside.own (marked c.head m (typed_nodes ys)) ≡ value_of c
finishing-value c a m ys q = value-in c a m ys q c.inside.role ∙ sym (ap (value_by_type c) q.type)
