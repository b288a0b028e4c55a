-- Declarations over two settings of one store that say the same of what these name: the same is known of each, and there is one tree.
use Rattle.std.proofs.Common.{◌≡◌, ◌≢◌, ℕ, [], Bool, true, false, cond, ap, sym, ◌∙◌, subst, refl}
use Rattle.hare_tree.specs.declared.kind.Kind.{Kind}
use Rattle.hare_tree.specs.declared.kind.Kind.TheVariants as ki
use Rattle.hare_tree.specs.Node.{Head, Node}
use Rattle.hare_typed.specs.declared.constant.Const.TheVariants as constant
use Rattle.hare_typed.specs.Typed.{TypedNode}
use Rattle.hare_typed.specs.Erased.{erase}
use Rattle.hare_typed.specs.Numbers.{kind_of}
use Rattle.hare_rules.specs.Words.{default_in}
use Rattle.hare_rules.specs.Context.{is_there, own_type}
use Rattle.hare_depends.specs.declared.said.Sort.TheVariants as so
use Rattle.hare_depends.specs.Sorts.{sort_of, sort_by, sort_of_global, has_type}
use Rattle.hare_whole.specs.Parts.{type_part, value_part, written_id, def_known, global_known, known_by, known_as, is_mutable, declared_id, id_or_zero}
use Rattle.hare_whole.specs.Declared.{IsWellBinding, IsWellBy, IsWellDecl}
use Rattle.hare_sole.proofs.OneTree.Parts.{Trees, Pair, one, two, SaySame, head-erased, heads-same}
use Rattle.hare_sole.proofs.OneTree.Bindings.{AgreeOnKid, type_part-same, value_part-same, binding-same, type-there, type_decl-same}
use Rattle.hare_sole.proofs.OneTree.Functions.{function_known-same, function-same}

-- both say the same of what these two parts of a declaration name
pub record AgreeOnParts (k : Pair) (t : Node) : Type 0 where
  pub second : AgreeOnKid k t 2
  pub third : AgreeOnKid k t 3

-- ---- sorts

no-type : (b : Bool) → sort_of_global b ≡ so.Type → ⊥
no-type true i = absurd cc
no-type false i = absurd cc

global-has-type : (b : Bool) → sort_of_global b ≡ so.Global → b ≡ true
global-has-type true i = refl
global-has-type false i = absurd cc

sort-by : (d : TypedNode) (c : Kind) → kind_of d ≡ c → sort_of (erase d) ≡ sort_by c (erase d)
sort-by d c i = ap (λ (x : Kind). sort_by x (erase d)) (ap (λ (h : Head). h.kind) (sym (head-erased d)) ∙ i)

module _ (l : Trees) (k : Pair) (n : ℕ) (d e : TypedNode) (erased : erase d ≡ erase e) where
  kinds-same : kind_of d ≡ kind_of e
  kinds-same = ap (λ (h : Head). h.kind) (heads-same d e erased)

  moved : IsWellDecl (one k) n d → IsWellBy (one k) n (kind_of e) d
  moved h = subst (λ (x : Kind). IsWellBy (one k) n x d) kinds-same h

  -- ---- what is known of a declaration

  global-known : (c : Kind) → IsWellBinding (one k) n d → IsWellBinding (two k) n e → AgreeOnParts k (erase d) →
      global_known k.store n c (type_part d) (value_part d) ≡ global_known k.store n c (type_part e) (value_part e)
  global-known c h j g =
      ap (λ (x : TypedNode). global_known k.store n c x (value_part d)) (type_part-same l k n d e erased h j g.second)
      ∙ ap (λ (x : TypedNode). global_known k.store n c (type_part e) x) (value_part-same l k n d e erased h j g.second g.third)

  known-by : (sort_of (erase d) ≢ so.Type → AgreeOnParts k (erase d)) → (c : Kind) → kind_of d ≡ c → IsWellBy (one k) n c d →
      IsWellBy (two k) n c e → known_by k.store n c d ≡ known_by k.store n c e
  known-by a ki.TypeDecl i h j = refl
  known-by a ki.Fn i h j =
      let g = a (λ o. let p = sort-by d ki.Fn i in absurd cc) in function_known-same l k n d e erased h j g.second g.third
  known-by a ki.Def i h j =
      let g = a (λ o. let p = sort-by d ki.Def i in absurd cc) in
      ap (λ (x : TypedNode). def_known k.store n x (value_part d)) (type_part-same l k n d e erased h j g.second)
      ∙ ap (λ (x : TypedNode). def_known k.store n (type_part e) x) (value_part-same l k n d e erased h j g.second g.third)
  known-by a ki.GlobalLet i h j =
      global-known ki.GlobalLet h j (a (λ o. no-type (has_type (erase d)) (sym (sort-by d ki.GlobalLet i) ∙ o)))
  known-by a ki.GlobalConst i h j =
      global-known ki.GlobalConst h j (a (λ o. no-type (has_type (erase d)) (sym (sort-by d ki.GlobalConst i) ∙ o)))
  known-by a _ i h j = absurd h

  -- what is known of the declaration is the same
  pub known-same : (sort_of (erase d) ≢ so.Type → AgreeOnParts k (erase d)) → IsWellDecl (one k) n d → IsWellDecl (two k) n e →
      known_by k.store n (kind_of d) d ≡ known_by k.store n (kind_of e) e
  known-same a h j =
      ap (λ (c : Kind). known_by k.store n c d) kinds-same ∙ known-by a (kind_of e) kinds-same (moved h) j

  -- ---- globals with a type

  written-known : (c : Kind) → IsWellBinding (one k) n d → IsWellBinding (two k) n e → AgreeOnKid k (erase d) 2 →
      has_type (erase d) ≡ true →
      global_known k.store n c (type_part d) (value_part d) ≡ global_known k.store n c (type_part e) (value_part e)
  written-known c h j g i =
      let there : is_there (type_part d) ≡ true = type-there l k n d e erased h j ∙ i in
      let same = type_part-same l k n d e erased h j g in
      let there_too : is_there (type_part e) ≡ true = sym (ap is_there same) ∙ there in
      ap (λ (t : ℕ). known_as n c t [] (is_mutable c) constant.Absent)
      (by (type_part d) (value_part d) there ∙ ap written_id same ∙ sym (by (type_part e) (value_part e) there_too))
    where
      by : (t v : TypedNode) → is_there t ≡ true → declared_id k.store t v ≡ written_id t
      by t v i = ap (λ (b : Bool). cond b (written_id t) (id_or_zero (default_in k.store (own_type v)))) i

  global-by : sort_of (erase d) ≡ so.Global → AgreeOnKid k (erase d) 2 → (c : Kind) → kind_of d ≡ c → IsWellBy (one k) n c d →
      IsWellBy (two k) n c e → known_by k.store n c d ≡ known_by k.store n c e
  global-by o g ki.TypeDecl i h j = refl
  global-by o g ki.Fn i h j = let p = sort-by d ki.Fn i in absurd cc
  global-by o g ki.Def i h j = let p = sort-by d ki.Def i in absurd cc
  global-by o g ki.GlobalLet i h j =
      written-known ki.GlobalLet h j g (global-has-type (has_type (erase d)) (sym (sort-by d ki.GlobalLet i) ∙ o))
  global-by o g ki.GlobalConst i h j =
      written-known ki.GlobalConst h j g (global-has-type (has_type (erase d)) (sym (sort-by d ki.GlobalConst i) ∙ o))
  global-by o g _ i h j = absurd h

  -- of a global with a type it is by that alone
  pub global-known-same : sort_of (erase d) ≡ so.Global → AgreeOnKid k (erase d) 2 → IsWellDecl (one k) n d → IsWellDecl (two k) n e →
      known_by k.store n (kind_of d) d ≡ known_by k.store n (kind_of e) e
  global-known-same o g h j =
      ap (λ (c : Kind). known_by k.store n c d) kinds-same ∙ global-by o g (kind_of e) kinds-same (moved h) j

  -- ---- the whole

  whole-by : ((m : ℕ) → SaySame k m) → (c : Kind) → IsWellBy (one k) n c d → IsWellBy (two k) n c e → d ≡ e
  whole-by a ki.TypeDecl h j = type_decl-same l k n d e erased h j (λ x m c i p. a m)
  whole-by a ki.Fn h j = function-same l k n d e erased h j (λ x m c i p. a m) (λ x m c i p. a m) (λ x m c i p. a m)
  whole-by a ki.Def h j = binding-same l k n d e erased h j (λ x m c i p. a m) (λ x m c i p. a m)
  whole-by a ki.GlobalLet h j = binding-same l k n d e erased h j (λ x m c i p. a m) (λ x m c i p. a m)
  whole-by a ki.GlobalConst h j = binding-same l k n d e erased h j (λ x m c i p. a m) (λ x m c i p. a m)
  whole-by a _ h j = absurd h

  -- where they say the same of all declarations there is one tree
  pub decl-same : ((m : ℕ) → SaySame k m) → IsWellDecl (one k) n d → IsWellDecl (two k) n e → d ≡ e
  decl-same a h j = whole-by a (kind_of e) (moved h) j
