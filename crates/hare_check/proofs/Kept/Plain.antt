-- That a tree is kept of whose node no judge is asked.
use Rattle.std.proofs.Common.{◌≡◌, inl, inr, ℕ, Bool, true, false, ◌&&◌, cond, List, [], ◌∷◌, Option, Some, None, IsSome, refl, ap, sym}
use Rattle.std.proofs.Common.{◌∙◌, subst}
use Rattle.hare_tree.specs.declared.kind.Kind.{Kind}
use Rattle.hare_tree.specs.declared.kind.Kind.TheVariants as ki
use Rattle.hare_tree.specs.declared.form.Own.TheVariants as ow
use Rattle.hare_tree.specs.declared.form.Sort.TheVariants as so
use Rattle.hare_tree.specs.declared.form.Piece.TheVariants as pi
use Rattle.hare_tree.specs.Forms.{form_of}
use Rattle.hare_tree.specs.Levels.{level, admits, is_type}
use Rattle.hare_tree.specs.Node.{Head, Node, Nodes, branch, none, more, head, kids_of}
use Rattle.hare_tree.specs.Shape.{is_shaped, are_kids, kid_pieces, is_leaf, is_none_or_comma, is_own}
use Rattle.hare_tree.proofs.TreeKids.KidSorts.{shaped_kids}
use Rattle.hare_tree.proofs.TreeKids.ShapedKids.{shaped_admits}
use Rattle.hare_types.specs.declared.coercion.Coercion.{Coercion}
use Rattle.hare_types.specs.declared.coercion.Ty.{Ty}
use Rattle.hare_types.specs.declared.coercion.Ty.TheVariants as ty
use Rattle.hare_types.specs.Store.{Store}
use Rattle.hare_types.specs.Sound.{IsStore}
use Rattle.hare_types.specs.ByIds.{base_at}
use Rattle.hare_typed.specs.Typed.{TypedNode, TypedNodes, Mark, marked, typed_nodes, listed_nodes}
use Rattle.hare_typed.specs.Erased.{erase_each}
use Rattle.hare_typed.specs.Order.{tree_from_front}
use Rattle.hare_rules.specs.Constants.{means_def}
use Rattle.hare_rules.specs.Context.{Context, Callee, Length, store_of, own_type}
use Rattle.hare_rules.specs.Flow.{own_settled}
use Rattle.hare_rules.specs.Operators.{path_type}
use Rattle.hare_rules.specs.Table.{rows_of}
use Rattle.hare_rules.specs.Types.{length_type, type_in_role, type_of}
use Rattle.hare_rules.specs.Words.{id_in, word_id}
use Rattle.hare_types.specs.declared.row.Scalar.TheVariants as keyword
use Rattle.hare_find.specs.Listed.{coated_each}
use Rattle.hare_walk.specs.Walks.{IsPart}
use Rattle.rule_judge.specs.Defined.{IsDefinedTy, IsDefinedTree}
use Rattle.rule_judge.proofs.BaseLemmas.{base_there}
use Rattle.rule_mem.specs.Needs.{leads_by, has_first_form}
use Rattle.rule_types.specs.Known.{IsKnown, IsKnownTy, IsBasedTy, IsKnownBy}
use Rattle.hare_check.specs.Keeps.{is_case, IsKeptTree, AreKeptTrees}
use Rattle.hare_check.proofs.Kept.Judged.{typed_id, path_id, settled_id}

-- ---- written types

-- what is known of what a written type writes is known of it as a part, and the other way round
type-known : (s : Store) (k : Kind) (x : TypedNode) → is_type k ≡ true → IsKnownTy s (own_type x) → IsKnownBy s k x
type-known s ki.TypeScalar x e h = h
type-known s ki.TypePath x e h = h
type-known s ki.TypePointer x e h = h
type-known s ki.TypeNullable x e h = h
type-known s ki.TypeSlice x e h = h
type-known s ki.TypeError x e h = h
type-known s ki.TypeArray x e h = h
type-known s ki.TypeStruct x e h = h
type-known s ki.TypeTuple x e h = h
type-known s ki.TypeUnion x e h = h
type-known s _ x e h = cc

known-type : (s : Store) (k : Kind) (x : TypedNode) → is_type k ≡ true → IsKnownBy s k x → IsKnownTy s (own_type x)
known-type s ki.TypeScalar x e h = h
known-type s ki.TypePath x e h = h
known-type s ki.TypePointer x e h = h
known-type s ki.TypeNullable x e h = h
known-type s ki.TypeSlice x e h = h
known-type s ki.TypeError x e h = h
known-type s ki.TypeArray x e h = h
known-type s ki.TypeStruct x e h = h
known-type s ki.TypeTuple x e h = h
known-type s ki.TypeUnion x e h = h
known-type s _ x e h = cc

-- no written type can be a place, and none is a case
type-leads : (k : Kind) (b : Bool) → is_type k ≡ true → leads_by k b ≡ false
type-leads ki.Path b e = cc
type-leads ki.Deref b e = cc
type-leads ki.Index b e = cc
type-leads ki.Field b e = cc
type-leads ki.Paren b e = cc
type-leads _ b e = refl

type-case : (k : Kind) → is_type k ≡ true → is_case k ≡ false
type-case ki.Case e = cc
type-case ki.SwitchCase e = cc
type-case _ e = refl

not_both : {A : Type 0} (b : Bool) → b ≡ false → b ≡ true → A
not_both true e d = cc
not_both false e d = cc

-- a written type is kept, where what it writes is known
pub kept-written : (s : Store) (h : Head) (m : Mark) (ts : TypedNodes) (u : ℕ) → is_type h.kind ≡ true → m.ty ≡ ty.Of u → IsKnown s u →
    IsDefinedTree s (marked h m ts) →
    IsKeptTree s (marked h m ts)
kept-written s h m ts u e d k t = record {
  types = t;
  place = not_both (leads_by h.kind (has_first_form ts)) (type-leads h.kind (has_first_form ts) e);
  case = not_both (is_case h.kind) (type-case h.kind e);
  part = type-known s h.kind (marked h m ts) e (subst (IsKnownTy s) (sym d) k);
}

-- ---- nodes of kinds without rows

-- no node without rows can be a place, and none is a case
rowless-leads : (k : Kind) (b : Bool) → rows_of k ≡ [] → leads_by k b ≡ false
rowless-leads ki.Path b e = cc
rowless-leads ki.Deref b e = cc
rowless-leads ki.Index b e = cc
rowless-leads ki.Field b e = cc
rowless-leads ki.Paren b e = cc
rowless-leads _ b e = refl

rowless-case : (k : Kind) → rows_of k ≡ [] → is_case k ≡ false
rowless-case ki.Case e = cc
rowless-case ki.SwitchCase e = cc
rowless-case _ e = refl

and-both : (a b : Bool) → (a && b) ≡ true → (a ≡ true) × (b ≡ true)
and-both true b e = (refl, e)
and-both false b e = cc

-- the first kid, where it is a written type
type_kid : (s : Store) (n : ℕ) (xs : List TypedNode) → are_kids n (pi.Kid so.Type ∷ []) (erase_each (typed_nodes xs)) ≡ true →
    AreKeptTrees s xs →
    IsKnownTy s (own_type (tree_from_front 0 xs))
unfolding is_shaped
type_kid s n [] e k = cc
type_kid s n (marked h m ts ∷ xs) e k =
    known-type s h.kind (marked h m ts) (shaped_admits so.Type h (erase_each ts) (and-both _ _ e).0) k.0.part

path-known : (s : Store) (k : Kind) (x : TypedNode) (text : List ℕ) → admits so.TypePath k text ≡ true → IsKnownBy s k x →
    IsKnownTy s (own_type x)
path-known s ki.TypePath x text e h = h
path-known s _ x text e h = cc

based_base : (s : Store) (t : ℕ) (o : Option ℕ) → base_at s t ≡ o → (base_at s t ≡ None → ⊥) → IsSome (base_at s t)
based_base s t None e h = absurd (h e)
based_base s t (Some b) e h = subst IsSome (sym e) refl

-- the base is known of what mentions no name that is not defined
based-known : (s : Store) → IsStore s → (a : Ty) → IsKnownTy s a → IsDefinedTy s a → IsBasedTy s a
based-known s v (ty.Of t) k d = record { within = k.within; based = based_base s t (base_at s t) refl (base_there s v (ty.Of t) t refl d) }
based-known s v (ty.Iconst n) k d = absurd k
based-known s v ty.Null k d = absurd k
based-known s v ty.Empty k d = absurd k

-- the first kid, where it is a path to a type
path_kid : (s : Store) → IsStore s → (n : ℕ) (xs : List TypedNode) →
    are_kids n (pi.Kid so.TypePath ∷ []) (erase_each (typed_nodes xs)) ≡ true → AreKeptTrees s xs →
    IsBasedTy s (own_type (tree_from_front 0 xs))
unfolding is_shaped
path_kid s v n [] e k = cc
path_kid s v n (marked h m ts ∷ xs) e k =
    let known = path-known s h.kind (marked h m ts) h.text (shaped_admits so.TypePath h (erase_each ts) (and-both _ _ e).0) k.0.part in
    based-known s v m.ty known k.0.types.0

-- ---- parts

-- what is settled of the first kid leaves its own type
own-coated : (xs : List TypedNode) (os : List (Option Coercion)) →
    own_type (tree_from_front 0 (coated_each xs os)) ≡ own_type (tree_from_front 0 xs)
own-coated [] os = refl
own-coated (x ∷ xs) [] = refl
own-coated (x ∷ xs) (None ∷ os) = refl
own-coated (marked h m ts ∷ xs) (Some r ∷ os) = refl

listed-typed : (xs : List TypedNode) → listed_nodes (typed_nodes xs) ≡ xs
listed-typed [] = refl
listed-typed (x ∷ xs) = ap (λ ys. x ∷ ys) (listed-typed xs)

-- the first kid of a tree whose kids have got their coercions
own-first : (xs ys : List TypedNode) (os : List (Option Coercion)) → ys ≡ coated_each xs os →
    own_type (tree_from_front 0 (listed_nodes (typed_nodes ys))) ≡ own_type (tree_from_front 0 xs)
own-first xs ys os e = ap (λ zs. own_type (tree_from_front 0 zs)) (listed-typed ys ∙ e) ∙ own-coated xs os

-- A node of a kind without rows: it is a part of the grammar, and its kids were kept.
pub record IsPlainTree (s : Store) (n : Node) (m : Mark) (xs ys : List TypedNode) : Type 0 where
  pub sound : IsStore s
  pub rows : rows_of (head n).kind ≡ []
  pub part : IsPart n
  pub erased : erase_each (typed_nodes xs) ≡ kids_of n
  pub kept : AreKeptTrees s xs
  pub settled : (os : List (Option Coercion)) × (ys ≡ coated_each xs os)
  pub types : IsDefinedTree s (marked (head n) m (typed_nodes ys))

leaf_kind : (p : Kind → Bool) (h : Head) (ts : Nodes) (k : Kind) → is_leaf p (branch h ts) ≡ true → h.kind ≡ k → p k ≡ true
leaf_kind p h none k e d = subst (λ j. p j ≡ true) d (and-both (p h.kind) (is_own ow.Nothing h) e).0
leaf_kind p h (more t ts) k e d = cc

-- the kids are those of the form of the kind
kids_by : (h : Head) (ts : Nodes) (k : Kind) → IsPart (branch h ts) → h.kind ≡ k → is_none_or_comma k ≡ false →
    (n : ℕ) × (are_kids n (kid_pieces (form_of k)) ts ≡ true)
kids_by h ts k (inl q) d f =
    (level h.kind h.text, subst (λ j. are_kids (level h.kind h.text) (kid_pieces (form_of j)) ts ≡ true) d (shaped_kids q.0 h ts q.1))
kids_by h ts k (inr q) d f = not_both (is_none_or_comma k) f (leaf_kind is_none_or_comma h ts k q d)

-- a field is known by its type, and what is spread by its base
part-plain : (s : Store) (h : Head) (ts : Nodes) (m : Mark) (xs ys : List TypedNode) (k : Kind) → h.kind ≡ k → rows_of k ≡ [] →
    IsPlainTree s (branch h ts) m xs ys →
    IsKnownBy s k (marked h m (typed_nodes ys))
part-plain s h ts m xs ys ki.StructField d e q =
    let f = kids_by h ts ki.StructField q.part d refl in
    let r : are_kids f.0 (pi.Kid so.Type ∷ []) (erase_each (typed_nodes xs)) ≡ true =
    ap (are_kids f.0 (pi.Kid so.Type ∷ [])) q.erased ∙ f.1 in
    subst (IsKnownTy s) (sym (own-first xs ys q.settled.0 q.settled.1)) (type_kid s f.0 xs r q.kept)
part-plain s h ts m xs ys ki.Spread d e q =
    let f = kids_by h ts ki.Spread q.part d refl in
    let r : are_kids f.0 (pi.Kid so.TypePath ∷ []) (erase_each (typed_nodes xs)) ≡ true =
    ap (are_kids f.0 (pi.Kid so.TypePath ∷ [])) q.erased ∙ f.1 in
    subst (IsBasedTy s) (sym (own-first xs ys q.settled.0 q.settled.1)) (path_kid s q.sound f.0 xs r q.kept)
part-plain s h ts m xs ys ki.TypeScalar d e q = cc
part-plain s h ts m xs ys ki.TypePath d e q = cc
part-plain s h ts m xs ys ki.TypePointer d e q = cc
part-plain s h ts m xs ys ki.TypeNullable d e q = cc
part-plain s h ts m xs ys ki.TypeSlice d e q = cc
part-plain s h ts m xs ys ki.TypeError d e q = cc
part-plain s h ts m xs ys ki.TypeArray d e q = cc
part-plain s h ts m xs ys ki.TypeStruct d e q = cc
part-plain s h ts m xs ys ki.TypeTuple d e q = cc
part-plain s h ts m xs ys ki.TypeUnion d e q = cc
part-plain s h ts m xs ys _ d e q = tt

-- such a node is kept
pub kept-plain : (s : Store) (n : Node) (m : Mark) (xs ys : List TypedNode) → IsPlainTree s n m xs ys →
    IsKeptTree s (marked (head n) m (typed_nodes ys))
kept-plain s (branch h ts) m xs ys q = record {
  types = q.types;
  place =
      not_both (leads_by h.kind (has_first_form (typed_nodes ys))) (rowless-leads h.kind (has_first_form (typed_nodes ys)) q.rows);
  case = not_both (is_case h.kind) (rowless-case h.kind q.rows);
  part = part-plain s h ts m xs ys h.kind refl q.rows q;
}

-- ---- paths that are called, and lengths

-- what has been found of a node that is not judged by itself
pub record IsLeftTree (s : Store) (c : Context) (h : Head) (m : Mark) (ts : TypedNodes) : Type 0 where
  pub head : c.head ≡ h
  pub type : type_of c ≡ Some m.ty
  pub own : own_settled c m.ty ≡ m.coerce
  pub types : IsDefinedTree s (marked h m ts)

-- the numbers and paths that stand for lengths
abbrev pub is_length : Kind → Bool
is_length ki.Number = true
is_length ki.Path = true
is_length _ = false

-- the void of a path that is called has an id, and so has the type of a def
void_id : (c : Context) (a : Ty) → type_in_role c Callee ≡ Some a → IsSome (id_in a)
void_id c a e = typed_id (word_id (store_of c) keyword.Void) a e

def_id : (c : Context) (b : Bool) (a : Ty) → cond b (path_type c c.meaning) (type_in_role c Callee) ≡ Some a → IsSome (id_in a)
def_id c true a e = path_id c c.meaning a e
def_id c false a e = void_id c a e

length_id : (c : Context) (k : Kind) (b : Bool) (a : Ty) → is_length k ≡ true → length_type c k ≡ Some a → leads_by k b ≡ true →
    IsSome (id_in a)
length_id c ki.Path b a e d l = def_id c (means_def c.setting c.meaning) a d
length_id c ki.Number b a e d l = cc
length_id c _ b a e d l = cc

length-case : (k : Kind) → is_length k ≡ true → is_case k ≡ false
length-case ki.Number e = refl
length-case ki.Path e = refl
length-case _ e = cc

length-part : (s : Store) (k : Kind) (x : TypedNode) → is_length k ≡ true → IsKnownBy s k x
length-part s ki.Number x e = tt
length-part s ki.Path x e = tt
length-part s _ x e = cc

path-length : (k : Kind) → k ≡ ki.Path → is_length k ≡ true
path-length k e = ap is_length e

-- a path that is called is kept
pub kept-callee : (s : Store) (c : Context) (h : Head) (m : Mark) (ts : TypedNodes) → h.kind ≡ ki.Path → c.inside.role ≡ Callee →
    IsLeftTree s c h m ts →
    IsKeptTree s (marked h m ts)
kept-callee s c h m ts e r q = record {
  types = q.types;
  place = λ d.
      subst (λ (o : Coercion). IsSome (id_in o.to)) q.own (settled_id c m.ty (void_id c m.ty (ap (type_in_role c) (sym r) ∙ q.type)));
  case = not_both (is_case h.kind) (length-case h.kind (path-length h.kind e));
  part = length-part s h.kind (marked h m ts) (path-length h.kind e);
}

-- and so is a length: a whole number without a type can be no place
pub kept-length : (s : Store) (c : Context) (h : Head) (m : Mark) (ts : TypedNodes) → is_length h.kind ≡ true → c.inside.role ≡ Length →
    IsLeftTree s c h m ts →
    IsKeptTree s (marked h m ts)
kept-length s c h m ts e r q =
    let same : length_type c h.kind ≡ Some m.ty =
    ap (λ (g : Head). length_type c g.kind) (sym q.head) ∙ ap (type_in_role c) (sym r) ∙ q.type in
    record {
      types = q.types;
      place = λ d.
          subst (λ (o : Coercion). IsSome (id_in o.to)) q.own
          (settled_id c m.ty (length_id c h.kind (has_first_form ts) m.ty e same d));
      case = not_both (is_case h.kind) (length-case h.kind e);
      part = length-part s h.kind (marked h m ts) e;
    }
