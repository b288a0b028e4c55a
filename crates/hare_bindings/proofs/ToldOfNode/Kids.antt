-- The kids of the node of a declaration.
use Rattle.std.proofs.Common.{◌≡◌, ℕ, Bool, true, false, cond, List, [], ◌∷◌, length, map, Some, refl, ap, sym, ◌∙◌, arith}
use Rattle.std.specs.Prelude.{slice_get, Result, Ok, Err, IfOk}
use Rattle.hare_tree.specs.declared.kind.Kind.{Kind}
use Rattle.hare_tree.specs.declared.kind.Kind.TheVariants as ki
use Rattle.hare_tree.specs.Node.{Head, Node, Nodes, branch, nodes_of, head, kids_of}
use Rattle.hare_typed.specs.Typed.{TypedNode, typed_nodes}
use Rattle.hare_typed.specs.Erased.{erase, erase_each}
use Rattle.hare_rules.specs.Context.{BindingType}
use Rattle.rule_ctl.specs.Declaring.{declares}
use Rattle.hare_modules.specs.Uses.{kid}
use Rattle.hare_depends.specs.Sorts.{sort_by, sort_of_global, has_type}
use Rattle.hare_whole.specs.Listing.{Written, written_types, written_by}
use Rattle.hare_bindings.specs.Own.{void_leaf, type_or_leaf, kids_with}

-- ---- kids of trees

-- a tree with four kids has these
four_listed : (h : Head) (ts : List Node) → length ts ≡ 4 →
    nodes_of ts
    ≡ (let t = branch h (nodes_of ts) in nodes_of (kid t 0 ∷ kid t 1 ∷ kid t 2 ∷ kid t 3 ∷ []))
four_listed h [] n = absurd (omega (arith, n))
four_listed h (a ∷ []) n = absurd (omega (arith, n))
four_listed h (a ∷ b ∷ []) n = absurd (omega (arith, n))
four_listed h (a ∷ b ∷ c ∷ []) n = absurd (omega (arith, n))
four_listed h (a ∷ b ∷ c ∷ d ∷ []) n = refl
four_listed h (a ∷ b ∷ c ∷ d ∷ e ∷ ts) n = absurd (omega (arith, n))

pub four_kids : (h : Head) (ts : List Node) (t : Node) → branch h (nodes_of ts) ≡ t → length ts ≡ 4 →
    nodes_of (kid t 0 ∷ kid t 1 ∷ kid t 2 ∷ kid t 3 ∷ []) ≡ kids_of t
four_kids h ts t e n =
    sym (ap (λ u. nodes_of (kid u 0 ∷ kid u 1 ∷ kid u 2 ∷ kid u 3 ∷ [])) e) ∙ sym (four_listed h ts n) ∙ ap kids_of e

-- ---- the written type

by_type : (b : Bool) (t : Node) (x : TypedNode) (xs : List TypedNode) →
    map erase (x ∷ xs) ≡ map (λ (r : Written). r.1) (cond b ((BindingType, kid t 2) ∷ []) []) → erase x ≡ kid t 2
by_type true t x xs e = cc
by_type false t x xs e = absurd cc

by_global : (b : Bool) (t : Node) (x : TypedNode) (xs : List TypedNode) →
    map erase (x ∷ xs) ≡ map (λ (r : Written). r.1) (written_by (sort_of_global b) t) → erase x ≡ kid t 2
by_global true t x xs e = cc
by_global false t x xs e = by_type (has_type t) t x xs e

by_kind : (k : Kind) (t : Node) (x : TypedNode) (xs : List TypedNode) → declares k ≡ true →
    map erase (x ∷ xs) ≡ map (λ (r : Written). r.1) (written_by (sort_by k t) t) → erase x ≡ kid t 2
by_kind ki.Def t x xs d e = by_type (has_type t) t x xs e
by_kind ki.GlobalLet t x xs d e = by_global (has_type t) t x xs e
by_kind ki.GlobalConst t x xs d e = by_global (has_type t) t x xs e
by_kind _ t x xs d e = absurd cc

-- the first of the types is that which is written
pub first_written : (t : Node) (ts : List TypedNode) → declares (head t).kind ≡ true →
    map erase ts ≡ map (λ (r : Written). r.1) (written_types t) → (x : TypedNode) → slice_get ts 0 ≡ Some x → erase x ≡ kid t 2
first_written t [] d e x g = absurd cc
first_written t (y ∷ ys) d e x g = let is : y ≡ x = cc in sym (ap erase is) ∙ by_kind (head t).kind t y ys d e

-- ---- four kids

pub four_same : {E : Type 0} (r : Result (List TypedNode) E) (a b c d : TypedNode) (ys : List TypedNode) →
    IfOk r (λ xs. xs ≡ a ∷ b ∷ c ∷ d ∷ []) → a ∷ b ∷ c ∷ d ∷ [] ≡ ys → IfOk r (λ xs. xs ≡ ys)
four_same (Err e) a b c d ys h k = tt
four_same (Ok xs) a b c d ys h k = h ∙ k

pub four_erased : {E : Type 0} (r : Result (List TypedNode) E) (a b c d : TypedNode) (us : Nodes) →
    IfOk r (λ xs. xs ≡ a ∷ b ∷ c ∷ d ∷ []) → erase_each (typed_nodes (a ∷ b ∷ c ∷ d ∷ [])) ≡ us →
    IfOk r (λ xs. erase_each (typed_nodes xs) ≡ us)
four_erased (Err e) a b c d us h k = tt
four_erased (Ok xs) a b c d us h k = ap (λ ys. erase_each (typed_nodes ys)) h ∙ k

module _ (t : Node) (a b c d : TypedNode) where
  pub kids_are : (void : ℕ) (ts : List TypedNode) (v : TypedNode) → a ≡ void_leaf void (kid t 0) → b ≡ void_leaf void (kid t 1) →
      c ≡ type_or_leaf void (kid t 2) ts → d ≡ v → a ∷ b ∷ c ∷ d ∷ [] ≡ kids_with void t ts v
  kids_are void ts v e f g h = cc

  pub erased_are : erase a ≡ kid t 0 → erase b ≡ kid t 1 → erase c ≡ kid t 2 → erase d ≡ kid t 3 →
      erase_each (typed_nodes (a ∷ b ∷ c ∷ d ∷ [])) ≡ nodes_of (kid t 0 ∷ kid t 1 ∷ kid t 2 ∷ kid t 3 ∷ [])
  erased_are e f g h = cc
