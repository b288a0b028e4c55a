-- What a node that meets its rows has by each of them, and what its kids give.
use Rattle.std.proofs.Common.{◌≡◌, ℕ, zero, suc, ◌+◌, Bool, true, false, not, ◌⊎◌, ◌≢◌, inl, inr, List, [], ◌∷◌, map, refl, ap, sym, ◌∙◌, subst, arith}
use Rattle.std.specs.Prelude.{cond, find, Option, Some, None}
use Rattle.hare_tree.specs.declared.kind.Kind.{Kind}
use Rattle.hare_tree.specs.declared.kind.Kind.TheVariants as kind
use Rattle.hare_types.specs.declared.coercion.Ty.TheVariants as ty
use Rattle.hare_typed.specs.Typed.{TypedNode, marked, head_of, mark_of, kids_of, listed_nodes}
use Rattle.hare_typed.specs.Order.{tree_from_front, kid_from_front}
use Rattle.hare_typed.specs.Given.{given}
use Rattle.hare_typed.specs.Constants.{own_kind}
use Rattle.hare_rules.specs.declared.row_id.RowId.{RowId}
use Rattle.hare_rules.specs.Aggregates.{is_path}
use Rattle.hare_rules.specs.Context.{Context, Role, Ordinary, Callee, Length, BindingType, CaseValue, DeclaredValue, store_of, kid, own_type}
use Rattle.hare_rules.specs.Rows.{holds, first_failing}
use Rattle.hare_rules.specs.Settles.{to_type, target_of, kid_coercion, settled_kid, settled_from, settled_kids}
use Rattle.hare_rules.specs.Table.{rows_of}
use Rattle.hare_rules.specs.Types.{type_by, type_of}
use Rattle.hare_constancy.specs.Met.{is_number, is_in_role, shown, IsJudged}

-- ---- rows

-- no row of these fails
abbrev pub AllHold : Context → List RowId → Type 0
AllHold c rs = find (λ r. not (holds r c)) rs ≡ None

pub row_holds : (c : Context) (r : RowId) (rs : List RowId) → AllHold c (r ∷ rs) → (holds r c ≡ true) × AllHold c rs
row_holds c r rs e = by (holds r c) refl
  where
    by : (b : Bool) → holds r c ≡ b → (holds r c ≡ true) × AllHold c rs
    by true h = (h, sym (ap (λ (b : Bool). cond (not b) (Some r) (find (λ q. not (holds q c)) rs)) h) ∙ e)
    by false h = absurd cc

-- ---- roles

-- what is neither a path nor a number is judged by the rows of its kind
pub record StandsAlone (c : Context) (k : Kind) : Type 0 where
  pub rows : AllHold c (rows_of k)
  pub type : type_of c ≡ type_by c k

pub stands_alone : (c : Context) (k : Kind) → c.head.kind ≡ k → is_in_role c.inside.role k ≡ true → is_path k ≡ false →
    is_number k ≡ false → first_failing c ≡ None → StandsAlone c k
stands_alone c k h r p n e = by c.inside.role refl r
  where
    by : (o : Role) → c.inside.role ≡ o → is_in_role o k ≡ true → StandsAlone c k
    by Callee f q = absurd cc
    by Length f q = absurd cc
    by Ordinary f q = record { rows = cc; type = cc }
    by BindingType f q = record { rows = cc; type = cc }
    by CaseValue f q = record { rows = cc; type = cc }
    by DeclaredValue f q = record { rows = cc; type = cc }

-- ---- kids

pub shown-front : (xs ys : List TypedNode) → map shown xs ≡ map shown ys → (i : ℕ) →
    shown (tree_from_front i xs) ≡ shown (tree_from_front i ys)
shown-front [] [] e i = refl
shown-front [] (y ∷ ys) e i = absurd cc
shown-front (x ∷ xs) [] e i = absurd cc
shown-front (x ∷ xs) (y ∷ ys) e zero = cc
shown-front (x ∷ xs) (y ∷ ys) e (suc i) = let rest : map shown xs ≡ map shown ys = cc in shown-front xs ys rest i

head-settled : (c : Context) (i : ℕ) (o : Option ℕ) (x : TypedNode) → head_of (settled_kid c i o x) ≡ head_of x
head-settled c i None x = refl
head-settled c i (Some u) (marked h m ts) = refl

type-settled : (c : Context) (i : ℕ) (o : Option ℕ) (x : TypedNode) → own_type (settled_kid c i o x) ≡ own_type x
type-settled c i None x = refl
type-settled c i (Some u) (marked h m ts) = refl

pub head-front : (c : Context) (xs : List TypedNode) (j i : ℕ) →
    head_of (tree_from_front i (settled_from c j xs)) ≡ head_of (tree_from_front i xs)
head-front c [] j i = refl
head-front c (x ∷ xs) j zero = head-settled c j (target_of c c.head.kind j) x
head-front c (x ∷ xs) j (suc i) = head-front c xs (suc j) i

pub type-front : (c : Context) (xs : List TypedNode) (j i : ℕ) →
    own_type (tree_from_front i (settled_from c j xs)) ≡ own_type (tree_from_front i xs)
type-front c [] j i = refl
type-front c (x ∷ xs) j zero = type-settled c j (target_of c c.head.kind j) x
type-front c (x ∷ xs) j (suc i) = type-front c xs (suc j) i

meaning-settled : (c : Context) (i : ℕ) (o : Option ℕ) (x : TypedNode) → (mark_of (settled_kid c i o x)).meaning ≡ (mark_of x).meaning
meaning-settled c i None x = refl
meaning-settled c i (Some u) (marked h m ts) = refl

meaning-front : (c : Context) (xs : List TypedNode) (j i : ℕ) →
    (mark_of (tree_from_front i (settled_from c j xs))).meaning ≡ (mark_of (tree_from_front i xs)).meaning
meaning-front c [] j i = refl
meaning-front c (x ∷ xs) j zero = meaning-settled c j (target_of c c.head.kind j) x
meaning-front c (x ∷ xs) j (suc i) = meaning-front c xs (suc j) i

value-settled : (c : Context) (i : ℕ) (o : Option ℕ) (x : TypedNode) → (mark_of (settled_kid c i o x)).value ≡ (mark_of x).value
value-settled c i None x = refl
value-settled c i (Some u) (marked h m ts) = refl

value-front : (c : Context) (xs : List TypedNode) (j i : ℕ) →
    (mark_of (tree_from_front i (settled_from c j xs))).value ≡ (mark_of (tree_from_front i xs)).value
value-front c [] j i = refl
value-front c (x ∷ xs) j zero = value-settled c j (target_of c c.head.kind j) x
value-front c (x ∷ xs) j (suc i) = value-front c xs (suc j) i

given-settled : (c : Context) (i : ℕ) (o : Option ℕ) (x : TypedNode) → o ≡ None → given (settled_kid c i o x) ≡ given x
given-settled c i None x e = refl
given-settled c i (Some u) x e = absurd cc

given-front : (c : Context) (xs : List TypedNode) (j i : ℕ) → target_of c c.head.kind (j + i) ≡ None →
    given (tree_from_front i (settled_from c j xs)) ≡ given (tree_from_front i xs)
given-front c [] j i e = refl
given-front c (x ∷ xs) j zero e =
    let n : j + 0 ≡ j = omega arith in
    given-settled c j (target_of c c.head.kind j) x (ap (target_of c c.head.kind) (sym n) ∙ e)
given-front c (x ∷ xs) j (suc i) e =
    let n : j + suc i ≡ suc j + i = omega arith in
    given-front c xs (suc j) i (ap (target_of c c.head.kind) (sym n) ∙ e)

coerced-settled : (c : Context) (i u : ℕ) (o : Option ℕ) (x : TypedNode) → o ≡ Some u → given (settled_kid c i o x) ≡ (kid_coercion c i).to
coerced-settled c i u None x e = absurd cc
coerced-settled c i u (Some v) (marked h m ts) e = refl

-- a kid that is settled gives what its coercion says, and one that is not there an array of no items
coerced-front : (c : Context) (xs : List TypedNode) (j i u : ℕ) → target_of c c.head.kind (j + i) ≡ Some u →
    (given (tree_from_front i (settled_from c j xs)) ≡ (kid_coercion c (j + i)).to)
    ⊎ (given (tree_from_front i (settled_from c j xs)) ≡ ty.Empty)
coerced-front c [] j i u e = inr refl
coerced-front c (x ∷ xs) j zero u e =
    let n : j + 0 ≡ j = omega arith in
    inl (coerced-settled c j u (target_of c c.head.kind j) x (ap (target_of c c.head.kind) (sym n) ∙ e)
    ∙ ap (λ k. (kid_coercion c k).to) (sym n))
coerced-front c (x ∷ xs) j (suc i) u e =
    let n : j + suc i ≡ suc j + i = omega arith in
    subst (λ k. (given (tree_from_front i (settled_from c (suc j) xs)) ≡ (kid_coercion c k).to)
    ⊎ (given (tree_from_front i (settled_from c (suc j) xs)) ≡ ty.Empty)) (sym n)
    (coerced-front c xs (suc j) i u (ap (target_of c c.head.kind) (sym n) ∙ e))

module _ (c : Context) (t : TypedNode) (j : IsJudged c t) (k : own_kind t ≢ kind.Yield) where
  kids_shown : (i : ℕ) → shown (kid_from_front i t) ≡ shown (tree_from_front i (settled_kids c))
  kids_shown i = shown-front (listed_nodes (kids_of t)) (settled_kids c) (j.kids k) i

  pub kid_head : (i : ℕ) → head_of (kid_from_front i t) ≡ head_of (kid c i)
  kid_head i = ap (λ p. p.0) (kids_shown i) ∙ head-front c c.kids 0 i

  pub kid_type : (i : ℕ) → own_type (kid_from_front i t) ≡ own_type (kid c i)
  kid_type i = ap (λ p. p.1.ty) (kids_shown i) ∙ type-front c c.kids 0 i

  pub kid_meaning : (i : ℕ) → (mark_of (kid_from_front i t)).meaning ≡ (mark_of (kid c i)).meaning
  kid_meaning i = ap (λ p. p.1.meaning) (kids_shown i) ∙ meaning-front c c.kids 0 i

  pub kid_value : (i : ℕ) → (mark_of (kid_from_front i t)).value ≡ (mark_of (kid c i)).value
  kid_value i = ap (λ p. p.1.value) (kids_shown i) ∙ value-front c c.kids 0 i

  given_shown : (i : ℕ) → given (kid_from_front i t) ≡ given (tree_from_front i (settled_kids c))
  given_shown i = ap (λ p. p.1.coerce.to) (kids_shown i)

  -- where nothing is settled of the kid it gives what it gave
  pub kid_given : (i : ℕ) → target_of c c.head.kind i ≡ None → given (kid_from_front i t) ≡ given (kid c i)
  kid_given i e =
      let n : 0 + i ≡ i = omega arith in
      given_shown i ∙ given-front c c.kids 0 i (ap (target_of c c.head.kind) n ∙ e)

  pub kid_coerced : (i u : ℕ) → target_of c c.head.kind i ≡ Some u →
      (given (kid_from_front i t) ≡ (to_type (store_of c) (own_type (kid c i)) (Some u)).to) ⊎ (given (kid_from_front i t) ≡ ty.Empty)
  kid_coerced i u e = by (subst P n (coerced-front c c.kids 0 i u (ap (target_of c c.head.kind) n ∙ e)))
    where
      n : 0 + i ≡ i
      n = omega arith

      P : ℕ → Type 0
      P k = (given (tree_from_front i (settled_kids c)) ≡ (kid_coercion c k).to) ⊎ (given (tree_from_front i (settled_kids c)) ≡ ty.Empty)

      by : (given (tree_from_front i (settled_kids c)) ≡ (kid_coercion c i).to) ⊎ (given (tree_from_front i (settled_kids c)) ≡ ty.Empty) →
          (given (kid_from_front i t) ≡ (to_type (store_of c) (own_type (kid c i)) (Some u)).to) ⊎ (given (kid_from_front i t) ≡ ty.Empty)
      by (inl g) = inl (given_shown i ∙ g ∙ ap (λ o. (to_type (store_of c) (own_type (kid c i)) o).to) e)
      by (inr g) = inr (given_shown i ∙ g)
