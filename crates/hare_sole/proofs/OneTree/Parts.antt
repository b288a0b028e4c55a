-- The parts of a declaration over two settings of one store that say the same of what they name: there is one tree of each.
use Rattle.std.proofs.Common.{◌≡◌, inl, inr, ℕ, suc, List, [], ◌∷◌, ◌++◌, Bool, true, not, refl, ap, sym, ◌∙◌, subst}
use Rattle.std.specs.Prelude.{Contains}
use Rattle.hare_tree.specs.declared.place.Place.{Place}
use Rattle.hare_tree.specs.declared.kind.Kind.{Kind}
use Rattle.hare_tree.specs.declared.token.Meaning.{Meaning}
use Rattle.hare_tree.specs.declared.token.Meaning.TheVariants as means
use Rattle.hare_tree.specs.Node.{Head, Node, branch, none, more, head}
use Rattle.hare_tree.specs.Shape.{is_none}
use Rattle.hare_types.specs.declared.coercion.Coercion.{Coercion}
use Rattle.hare_types.specs.Store.{Store}
use Rattle.hare_typed.specs.Typed.{TypedNode, marked, typed_none, typed_nodes, head_of}
use Rattle.hare_typed.specs.Erased.{erase, erase_each, heads, heads_each}
use Rattle.hare_typed.specs.Coats.{with_coercion}
use Rattle.hare_typed.specs.Numbers.{kind_of}
use Rattle.hare_rules.specs.declared.declared.DeclType.{DeclType}
use Rattle.hare_rules.specs.declared.hint.Hint.{Hint}
use Rattle.hare_rules.specs.Context.{Setting, Role, BindingType, is_there, own_type}
use Rattle.hare_rules.specs.Above.{Above}
use Rattle.hare_rules.specs.Flow.{Flow}
use Rattle.hare_rules.specs.Aggregates.{is_path}
use Rattle.hare_rules.specs.Values.{declared_coercion}
use Rattle.hare_rules.specs.Finished.{AllCarry, IsWell}
use Rattle.hare_inference.specs.Laws.{OneTree, InferenceIsExact}
use Rattle.hare_agree.specs.Laws.{IsAgreed, ValuesAreEnough}
use Rattle.hare_depends.proofs.ListLemmas.{Contains-left, Contains-right}
use Rattle.hare_turns.specs.Stages.{known_of}
use Rattle.hare_whole.specs.Declared.{over_type, over_value, before_type, before_value, plain_mark, unnumbered, is_param, IsPlain, IsWellType, IsWellTypePart, IsWellValue, IsWellParam, AreWellParams}
use Rattle.hare_sole.proofs.OneTree.Borrowed.{one_bare, erase-unnumbered}

-- what the laws say of trees
pub record Trees : Type 0 where
  pub exact : InferenceIsExact
  pub tree : OneTree
  pub enough : ValuesAreEnough

-- two lists of what is known of declarations, over one store
pub record Pair : Type 0 where
  pub store : Store
  pub means : Place → Meaning
  pub first : List DeclType
  pub second : List DeclType

abbrev pub one : Pair → Setting
one k = record { store = k.store; decls = k.first; means = k.means }

abbrev pub two : Pair → Setting
two k = record { store = k.store; decls = k.second; means = k.means }

-- both say the same of a declaration
abbrev pub SaySame : Pair → ℕ → Type 0
SaySame k n = known_of k.first n ≡ known_of k.second n

-- they say the same of each declaration that a path among these means which is no written type
abbrev pub AgreeAmong : Pair → List Head → Type 0
AgreeAmong k hs = (h : Head) (n : ℕ) → Contains hs h → is_path h.kind ≡ true → k.means h.place ≡ means.Decl n → SaySame k n

pub agree-left : (k : Pair) (hs is : List Head) → AgreeAmong k (hs ++ is) → AgreeAmong k hs
agree-left k hs is a h n c e i = a h n (Contains-left h hs is c) e i

pub agree-right : (k : Pair) (hs is : List Head) → AgreeAmong k (hs ++ is) → AgreeAmong k is
agree-right k hs is a h n c e i = a h n (Contains-right h hs is c) e i

-- ---- heads

pub head-erased : (t : TypedNode) → head_of t ≡ head (erase t)
head-erased (marked h m ts) = refl

pub heads-same : (t u : TypedNode) → erase t ≡ erase u → head_of t ≡ head_of u
heads-same t u e = head-erased t ∙ ap head e ∙ sym (head-erased u)

-- what one is the other is
pub tests-same : (f : Kind → Bool) (t u : TypedNode) → erase t ≡ erase u → f (kind_of t) ≡ f (kind_of u)
tests-same f t u e = ap (λ (h : Head). f h.kind) (heads-same t u e)

module _ (l : Trees) (k : Pair) where
  agreed : (a : Above) (f : Flow) (t : Node) → AgreeAmong k (heads t) → IsAgreed (one k) (two k) a f t
  agreed a f t g = l.enough (one k) (two k) a f t (record { store = refl; means = refl }) g

  -- ---- what has no meaning

  pub plain-same : (t u : TypedNode) → erase t ≡ erase u → IsPlain (one k) t → IsPlain (two k) u → t ≡ u
  plain-same t u e h j = h ∙ ap (λ (x : Head). marked x (plain_mark (one k) 0) typed_none) (heads-same t u e) ∙ sym j

  -- ---- types

  pub type-same : (n : ℕ) (r : Role) (t u : TypedNode) → erase t ≡ erase u → AgreeAmong k (heads (erase t)) → IsWellType (one k) n r t →
      IsWellType (two k) n r u → t ≡ u
  type-same n r t u e g h j =
      let a = over_type (one k) n r in
      let p : erase h.tree ≡ erase t = sym (erase-unnumbered h.tree) ∙ sym (ap erase h.is) in
      let q : erase j.tree ≡ erase u = sym (erase-unnumbered j.tree) ∙ sym (ap erase j.is) in
      let moved : AllCarry (two k) a h.tree before_type = (agreed a before_type (erase t) g).there.carries h.tree p h.carries in
      let same = one_bare l.exact (two k) a before_type h.tree j.tree (p ∙ e ∙ sym q) h.plain j.plain moved j.carries in
      h.is ∙ ap unnumbered same ∙ sym j.is

  is_there-same : (t u : TypedNode) → erase t ≡ erase u → is_there t ≡ is_there u
  is_there-same t u e = tests-same (λ (x : Kind). not (is_none x)) t u e

  pub part-same : (n : ℕ) (t u : TypedNode) → erase t ≡ erase u → AgreeAmong k (heads (erase t)) → IsWellTypePart (one k) n t →
      IsWellTypePart (two k) n u → t ≡ u
  part-same n t u e g (inl h) (inl j) = plain-same t u e h.1 j.1
  part-same n t u e g (inl h) (inr j) = let o = is_there-same t u e in let p = h.0 in let q = j.0 in absurd cc
  part-same n t u e g (inr h) (inl j) = let o = is_there-same t u e in let p = h.0 in let q = j.0 in absurd cc
  part-same n t u e g (inr h) (inr j) = type-same n BindingType t u e g h.1 j.1

  -- ---- values

  erase-with_coercion : (r : Coercion) (x : TypedNode) → erase (with_coercion r x) ≡ erase x
  erase-with_coercion r (marked h m ts) = refl

  pub well-same : (a : Above) (f : Flow) (t u : TypedNode) → erase t ≡ erase u → AgreeAmong k (heads (erase t)) → IsWell (one k) a f t →
      IsWell (two k) a f u → t ≡ u
  well-same a f t u e g h j = l.tree (two k) a f t u e ((agreed a f (erase t) g).there.well t refl h) j

  pub value-same : (n : ℕ) (o : Hint) (t u : TypedNode) → erase t ≡ erase u → AgreeAmong k (heads (erase t)) → IsWellValue (one k) n o t →
      IsWellValue (two k) n o u → t ≡ u
  value-same n o t u e g h j =
      let a = over_value (one k) n o in
      let p : erase t ≡ erase h.tree = ap erase h.is ∙ erase-with_coercion (declared_coercion k.store o (own_type h.tree)) h.tree in
      let q : erase u ≡ erase j.tree = ap erase j.is ∙ erase-with_coercion (declared_coercion k.store o (own_type j.tree)) j.tree in
      let well : IsWell (two k) a (before_value (erase t)) j.tree =
      subst (λ (x : Node). IsWell (two k) a (before_value x) j.tree) (sym e) j.well in
      let same = well-same a (before_value (erase t)) h.tree j.tree (sym p ∙ e ∙ q) (subst (λ (x : Node). AgreeAmong k (heads x)) p g)
      h.well well in
      h.is ∙ ap (λ (x : TypedNode). with_coercion (declared_coercion k.store o (own_type x)) x) same ∙ sym j.is

  -- ---- parameters

  param-same : (n i : ℕ) (p q : TypedNode) → erase p ≡ erase q → AgreeAmong k (heads (erase p)) → IsWellParam (one k) n i p →
      IsWellParam (two k) n i q → p ≡ q
  param-same n i p q e g h j =
      let m = plain_mark (one k) i in
      let a : erase p ≡ branch (head_of p) (more (erase h.0) none) = ap erase h.1 in
      let b : erase q ≡ branch (head_of q) (more (erase j.0) none) = ap erase j.1 in
      let both = sym a ∙ e ∙ b in
      let kids : erase h.0 ≡ erase j.0 = cc in
      let within : AgreeAmong k ((heads (erase h.0) ++ []) ++ head_of p ∷ []) = subst (λ (x : Node). AgreeAmong k (heads x)) a g in
      let own = agree-left k (heads (erase h.0)) [] (agree-left k (heads (erase h.0) ++ []) (head_of p ∷ []) within) in
      let same = type-same n BindingType h.0 j.0 kids own h.2 j.2 in
      h.1 ∙ ap (λ (x : Head). marked x m (typed_nodes (h.0 ∷ []))) (heads-same p q e)
      ∙ ap (λ (x : TypedNode). marked (head_of q) m (typed_nodes (x ∷ []))) same ∙ sym j.1

  pub params-same : (n i : ℕ) (ps qs : List TypedNode) → erase_each (typed_nodes ps) ≡ erase_each (typed_nodes qs) →
      AgreeAmong k (heads_each (erase_each (typed_nodes ps))) → AreWellParams (one k) n i ps → AreWellParams (two k) n i qs → ps ≡ qs
  params-same n i [] [] e g h j = refl
  params-same n i [] (q ∷ qs) e g h j = absurd cc
  params-same n i (p ∷ ps) [] e g h j = absurd cc
  params-same n i (p ∷ ps) (q ∷ qs) e g (inl h) (inl j) =
      let first : erase p ≡ erase q = cc in
      let others : erase_each (typed_nodes ps) ≡ erase_each (typed_nodes qs) = cc in
      let left = agree-left k (heads (erase p)) (heads_each (erase_each (typed_nodes ps))) g in
      let right = agree-right k (heads (erase p)) (heads_each (erase_each (typed_nodes ps))) g in
      let a : p ≡ q = param-same n i p q first left h.1 j.1 in
      let b : ps ≡ qs = params-same n (suc i) ps qs others right h.2 j.2 in
      cc
  params-same n i (p ∷ ps) (q ∷ qs) e g (inl h) (inr j) =
      let first : erase p ≡ erase q = cc in
      let o = tests-same is_param p q first in
      let a = h.0 in
      let b = j.0 in
      absurd cc
  params-same n i (p ∷ ps) (q ∷ qs) e g (inr h) (inl j) =
      let first : erase p ≡ erase q = cc in
      let o = tests-same is_param p q first in
      let a = h.0 in
      let b = j.0 in
      absurd cc
  params-same n i (p ∷ ps) (q ∷ qs) e g (inr h) (inr j) =
      let first : erase p ≡ erase q = cc in
      let others : erase_each (typed_nodes ps) ≡ erase_each (typed_nodes qs) = cc in
      let right = agree-right k (heads (erase p)) (heads_each (erase_each (typed_nodes ps))) g in
      let a : p ≡ q = plain-same p q first h.1 j.1 in
      let b : ps ≡ qs = params-same n i ps qs others right h.2 j.2 in
      cc
