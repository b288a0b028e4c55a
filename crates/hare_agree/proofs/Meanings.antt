-- What of a node reads what is known of declarations: a path that is no written type, a call by its callee, what asks for a place by its
-- operand, and an array type by its length. All of these read a path of one kind, so that a written type is read by its name alone.
use Rattle.std.proofs.Common.{◌≡◌, ℕ, zero, suc, Bool, true, false, ◌||◌, ◌&&◌, List, [], ◌∷◌, ◌++◌, map, refl, ap, sym, ◌∙◌}
use Rattle.std.specs.Prelude.{None, cond, option_and_then}
use Rattle.hare_tree.specs.declared.kind.Kind.{Kind}
use Rattle.hare_tree.specs.declared.kind.Kind.TheVariants as ki
use Rattle.hare_tree.specs.declared.token.Meaning.{Meaning}
use Rattle.hare_tree.specs.declared.token.Meaning.TheVariants as means
use Rattle.hare_types.specs.declared.coercion.Coercion.{Coercion}
use Rattle.hare_types.specs.Store.{Store}
use Rattle.hare_typed.specs.Typed.{TypedNode, TypedNodes, marked, typed_none, typed_more, typed_nodes, listed_nodes}
use Rattle.hare_typed.specs.Order.{tree_from_front, kid_from_front}
use Rattle.hare_typed.specs.Numbers.{kind_of}
use Rattle.hare_typed.specs.Coats.{coat, coat_each}
use Rattle.hare_rules.specs.declared.declared.DeclType.{DeclType}
use Rattle.hare_rules.specs.Context.{Setting, Context, Entry, declaration, kid}
use Rattle.hare_rules.specs.Places.{place_by, means_place, is_place, is_first_place, is_global_decl, is_mutable_decl, means_mutable, is_mutable, is_first_mutable}
use Rattle.hare_rules.specs.Operators.{names_value, declares_type, declares_value, has_void_base, named_id, path_type, type_of_declaration}
use Rattle.hare_rules.specs.Aggregates.{is_path, signature_of, called, callee, callee_meaning, function_called}
use Rattle.hare_rules.specs.Constants.{is_def, means_def, natural, number_of_type, length_by, length_of, unless_long}
use Rattle.hare_rules.specs.Words.{has_integer_base}
use Rattle.hare_rules.specs.Values.{value_of_decl, value_of_meaning}

-- ---- what is known, replaced

-- the setting with this known of declarations
abbrev pub knowing : List DeclType → Setting → Setting
knowing ds w = record w { decls = ds }

-- what is known of the declaration that this means is the same in both
abbrev pub IsKnownAlike : Setting → Setting → Meaning → Type 0
IsKnownAlike w v m = (n : ℕ) → m ≡ means.Decl n → declaration w n ≡ declaration v n

-- ---- what a meaning comes to

called-alike : (ds : List DeclType) (w : Setting) (m : Meaning) → IsKnownAlike w (knowing ds w) m → called (knowing ds w) m ≡ called w m
called-alike ds w (means.Decl n) k = ap (option_and_then signature_of) (sym (k n refl))
called-alike ds w _ k = refl

means_place-alike : (ds : List DeclType) (w : Setting) (m : Meaning) → IsKnownAlike w (knowing ds w) m →
    means_place (knowing ds w) m ≡ means_place w m
means_place-alike ds w (means.Decl n) k = ap is_global_decl (sym (k n refl))
means_place-alike ds w _ k = refl

means_mutable-alike : (ds : List DeclType) (w : Setting) (ls : List Entry) (m : Meaning) → IsKnownAlike w (knowing ds w) m →
    means_mutable (knowing ds w) ls m ≡ means_mutable w ls m
means_mutable-alike ds w ls (means.Decl n) k = ap is_mutable_decl (sym (k n refl))
means_mutable-alike ds w ls _ k = refl

pub names_value-alike : (ds : List DeclType) (w : Setting) (m : Meaning) → IsKnownAlike w (knowing ds w) m →
    names_value (knowing ds w) m ≡ names_value w m
names_value-alike ds w (means.Decl n) k =
    ap (λ o. declares_value o || (declares_type o n && has_void_base w.store (named_id w n))) (sym (k n refl))
names_value-alike ds w _ k = refl

pub means_def-alike : (ds : List DeclType) (w : Setting) (m : Meaning) → IsKnownAlike w (knowing ds w) m →
    means_def (knowing ds w) m ≡ means_def w m
means_def-alike ds w (means.Decl n) k = ap is_def (sym (k n refl))
means_def-alike ds w _ k = refl

pub value_of_meaning-alike : (ds : List DeclType) (w : Setting) (m : Meaning) → IsKnownAlike w (knowing ds w) m →
    value_of_meaning (knowing ds w) m ≡ value_of_meaning w m
value_of_meaning-alike ds w (means.Decl n) k = ap value_of_decl (sym (k n refl))
value_of_meaning-alike ds w _ k = refl

pub path_type-alike : (ds : List DeclType) (c : Context) (m : Meaning) → IsKnownAlike c.setting (knowing ds c.setting) m →
    path_type (record c { setting = knowing ds c.setting }) m ≡ path_type c m
path_type-alike ds c (means.Decl n) k = ap (λ o. type_of_declaration c.setting o n) (sym (k n refl))
path_type-alike ds c _ k = refl

-- ---- trees that have been judged

abbrev mutual
  -- what is known of the declarations that the paths of the tree mean is the same in both
  pub IsTreeAlike : Setting → Setting → TypedNode → Type 0
  IsTreeAlike w v (marked h m ts) = (is_path h.kind ≡ true → IsKnownAlike w v m.meaning) × AreKidsAlike w v ts

  pub AreKidsAlike : Setting → Setting → TypedNodes → Type 0
  AreKidsAlike w v typed_none = Unit {0}
  AreKidsAlike w v (typed_more t ts) = IsTreeAlike w v t × AreKidsAlike w v ts

abbrev pub AreTreesAlike : Setting → Setting → List TypedNode → Type 0
AreTreesAlike w v [] = Unit {0}
AreTreesAlike w v (t ∷ ts) = IsTreeAlike w v t × AreTreesAlike w v ts

pub AreTreesAlike-append : (w v : Setting) (xs ys : List TypedNode) → AreTreesAlike w v xs → AreTreesAlike w v ys →
    AreTreesAlike w v (xs ++ ys)
AreTreesAlike-append w v [] ys j k = k
AreTreesAlike-append w v (x ∷ xs) ys j k = (j.0, AreTreesAlike-append w v xs ys j.1 k)

pub AreKidsAlike-typed_nodes : (w v : Setting) (xs : List TypedNode) → AreTreesAlike w v xs → AreKidsAlike w v (typed_nodes xs)
AreKidsAlike-typed_nodes w v [] k = tt
AreKidsAlike-typed_nodes w v (x ∷ xs) k = (k.0, AreKidsAlike-typed_nodes w v xs k.1)

AreTreesAlike-listed_nodes : (w v : Setting) (ts : TypedNodes) → AreKidsAlike w v ts → AreTreesAlike w v (listed_nodes ts)
AreTreesAlike-listed_nodes w v typed_none k = tt
AreTreesAlike-listed_nodes w v (typed_more t ts) k = (k.0, AreTreesAlike-listed_nodes w v ts k.1)

pub IsTreeAlike-tree_from_front : (w v : Setting) (n : ℕ) (xs : List TypedNode) → AreTreesAlike w v xs →
    IsTreeAlike w v (tree_from_front n xs)
IsTreeAlike-tree_from_front w v n [] k = (λ e. cc, tt)
IsTreeAlike-tree_from_front w v zero (x ∷ xs) k = k.0
IsTreeAlike-tree_from_front w v (suc n) (x ∷ xs) k = IsTreeAlike-tree_from_front w v n xs k.1

pub IsTreeAlike-kid_from_front : (w v : Setting) (n : ℕ) (t : TypedNode) → IsTreeAlike w v t → IsTreeAlike w v (kid_from_front n t)
IsTreeAlike-kid_from_front w v n (marked h m ts) k =
    IsTreeAlike-tree_from_front w v n (listed_nodes ts) (AreTreesAlike-listed_nodes w v ts k.1)

mutual
  pub IsTreeAlike-coat : (w v : Setting) (cs : List Coercion) (t : TypedNode) → IsTreeAlike w v t → IsTreeAlike w v (coat cs t)
  IsTreeAlike-coat w v cs (marked h m ts) k = (k.0, AreKidsAlike-coat_each w v cs ts k.1)

  AreKidsAlike-coat_each : (w v : Setting) (cs : List Coercion) (ts : TypedNodes) → AreKidsAlike w v ts →
      AreKidsAlike w v (coat_each cs ts)
  AreKidsAlike-coat_each w v cs typed_none k = tt
  AreKidsAlike-coat_each w v cs (typed_more t ts) k = (IsTreeAlike-coat w v cs t k.0, AreKidsAlike-coat_each w v cs ts k.1)

pub AreTreesAlike-coat : (w v : Setting) (cs : List Coercion) (xs : List TypedNode) → AreTreesAlike w v xs →
    AreTreesAlike w v (map (coat cs) xs)
AreTreesAlike-coat w v cs [] k = tt
AreTreesAlike-coat w v cs (x ∷ xs) k = (IsTreeAlike-coat w v cs x k.0, AreTreesAlike-coat w v cs xs k.1)

-- ---- what a judged tree comes to

-- only of a path it is looked at what it names
place_by-named : (s : Store) (k : Kind) (a b : Bool) (ts : TypedNodes) (inner : Bool) → (is_path k ≡ true → a ≡ b) →
    place_by s k a ts inner ≡ place_by s k b ts inner
place_by-named s ki.Path a b ts inner e = e refl
place_by-named s _ a b ts inner e = refl

mutual
  pub is_place-alike : (ds : List DeclType) (w : Setting) (t : TypedNode) → IsTreeAlike w (knowing ds w) t →
      is_place (knowing ds w) t ≡ is_place w t
  is_place-alike ds w (marked h m ts) k =
      place_by-named w.store h.kind (means_place (knowing ds w) m.meaning) (means_place w m.meaning) ts (is_first_place (knowing ds w) ts)
      (λ e. means_place-alike ds w m.meaning (k.0 e))
      ∙ ap (place_by w.store h.kind (means_place w m.meaning) ts) (is_first_place-alike ds w ts k.1)

  is_first_place-alike : (ds : List DeclType) (w : Setting) (ts : TypedNodes) → AreKidsAlike w (knowing ds w) ts →
      is_first_place (knowing ds w) ts ≡ is_first_place w ts
  is_first_place-alike ds w typed_none k = refl
  is_first_place-alike ds w (typed_more t ts) k = is_place-alike ds w t k.0

mutual
  pub is_mutable-alike : (ds : List DeclType) (w : Setting) (ls : List Entry) (t : TypedNode) → IsTreeAlike w (knowing ds w) t →
      is_mutable (knowing ds w) ls t ≡ is_mutable w ls t
  is_mutable-alike ds w ls (marked h m ts) k =
      place_by-named w.store h.kind (means_mutable (knowing ds w) ls m.meaning) (means_mutable w ls m.meaning) ts
      (is_first_mutable (knowing ds w) ls ts)
      (λ e. means_mutable-alike ds w ls m.meaning (k.0 e))
      ∙ ap (place_by w.store h.kind (means_mutable w ls m.meaning) ts) (is_first_mutable-alike ds w ls ts k.1)

  is_first_mutable-alike : (ds : List DeclType) (w : Setting) (ls : List Entry) (ts : TypedNodes) → AreKidsAlike w (knowing ds w) ts →
      is_first_mutable (knowing ds w) ls ts ≡ is_first_mutable w ls ts
  is_first_mutable-alike ds w ls typed_none k = refl
  is_first_mutable-alike ds w ls (typed_more t ts) k = is_mutable-alike ds w ls t k.0

-- the meaning of what is called is one of a path
pub IsKnownAlike-callee : (w v : Setting) (x : TypedNode) → IsTreeAlike w v x → IsKnownAlike w v (callee_meaning x)
IsKnownAlike-callee w v (marked h m ts) k = by_path (is_path h.kind) k.0 where
  by_path : (b : Bool) → (b ≡ true → IsKnownAlike w v m.meaning) → IsKnownAlike w v (cond b m.meaning means.None)
  by_path true j = j refl
  by_path false j = λ n e. cc

pub callee-alike : (ds : List DeclType) (w : Setting) (x : TypedNode) → IsTreeAlike w (knowing ds w) x →
    callee (knowing ds w) x ≡ callee w x
callee-alike ds w x k = called-alike ds w (callee_meaning x) (IsKnownAlike-callee w (knowing ds w) x k)

pub function_called-alike : (ds : List DeclType) (c : Context) → IsKnownAlike c.setting (knowing ds c.setting) c.meaning →
    function_called (record c { setting = knowing ds c.setting }) ≡ function_called c
function_called-alike ds c k = ap (λ o. cond (is_path (kind_of (kid c 0))) o None) (called-alike ds c.setting c.meaning k)

pub length_of-alike : (ds : List DeclType) (w : Setting) (x : TypedNode) → IsTreeAlike w (knowing ds w) x →
    length_of (knowing ds w) x ≡ length_of w x
length_of-alike ds w (marked h m ts) k = ap (option_and_then unless_long) (by_kind h.kind k.0) where
  by_kind : (i : Kind) → (is_path i ≡ true → IsKnownAlike w (knowing ds w) m.meaning) →
      length_by (knowing ds w) i (marked h m ts) ≡ length_by w i (marked h m ts)
  by_kind ki.Path j =
      ap (λ b. cond (b && has_integer_base w.store m.ty) (option_and_then natural (number_of_type w.store m.ty m.value)) None)
      (means_def-alike ds w m.meaning (j refl))
  by_kind _ j = refl
