-- The number of a kid says which node stands above it: those of a tree lie between its beginning and its own, in the order of its kids.
use Rattle.std.proofs.Common.{◌≡◌, ◌∙◌, sym, subst, refl, ℕ, suc, ◌<◌, ◌≤◌, ◌⊎◌, inl, inr, List, [], ◌∷◌, ◌++◌, arith}
use Rattle.hare_tree.specs.declared.kind.Kind.{Kind}
use Rattle.hare_tree.specs.declared.kind.Kind.TheVariants as kind
use Rattle.hare_tree.specs.Node.{Head}
use Rattle.hare_types.specs.declared.coercion.Ty.{Ty}
use Rattle.hare_typed.specs.Typed.{TypedNode, TypedNodes, marked, typed_none, typed_more, typed_nodes}
use Rattle.hare_typed.specs.Erased.{erase, erase_each}
use Rattle.hare_typed.specs.Numbers.{number_of}
use Rattle.hare_typed.specs.ConstantForms.{own_type}
use Rattle.hare_rules.specs.Above.{Above, over_kid}
use Rattle.hare_rules.specs.Context.{Setting}
use Rattle.hare_rules.specs.Finished.{bare, bare_each, behind, behind_each, AllCarry, EachCarries}
use Rattle.hare_rules.specs.Flow.{Flow, count, flow_before}
use Rattle.hare_inference.proofs.Orders.{number_of-root, count-flow_before, count-behind}

-- ---- the numbers of a tree

-- each tree has its numbers from this one on to its own, its kids one behind another
abbrev mutual
  pub IsRanged : ℕ → TypedNode → Type 0
  IsRanged lo (marked h m ts) = AreRanged lo m.node ts

  pub AreRanged : (lo hi : ℕ) → TypedNodes → Type 0
  AreRanged lo hi typed_none = lo ≤ hi
  AreRanged lo hi (typed_more t ts) = IsRanged lo t × AreRanged (suc (number_of t)) hi ts

mutual
  pub ranged-le : (lo : ℕ) (t : TypedNode) → IsRanged lo t → lo ≤ number_of t
  ranged-le lo (marked h m ts) r = ranged_each-le lo m.node ts r

  pub ranged_each-le : (lo hi : ℕ) (ts : TypedNodes) → AreRanged lo hi ts → lo ≤ hi
  ranged_each-le lo hi typed_none r = r
  ranged_each-le lo hi (typed_more t ts) r =
      let p = ranged-le lo t r.0 in
      let q = ranged_each-le (suc (number_of t)) hi ts r.1 in
      omega (arith, p, q)

mutual
  pub ranged : (w : Setting) (a : Above) (t : TypedNode) (f : Flow) → AllCarry w a t f → IsRanged (count f) t
  ranged w a (marked h m ts) f k = subst (λ (n : ℕ). AreRanged (count f) n ts) (sym k.1.node) (ranged_each w a h [] ts f k.0)

  pub ranged_each : (w : Setting) (a : Above) (h : Head) (xs : List TypedNode) (ts : TypedNodes) (f : Flow) → EachCarries w a h xs ts f →
      AreRanged (count f) (count (behind_each w a h xs ts f)) ts
  ranged_each w a h xs typed_none f k = omega arith
  ranged_each w a h xs (typed_more t ts) f k =
      let o = over_kid w a h xs (erase t) (erase_each ts) in
      let g = flow_before w a h xs f in
      let b = behind w o t g in
      let hi = count (behind_each w a h (xs ++ bare t ∷ []) ts b) in
      let e : count b ≡ suc (number_of t) = count-behind w o t g ∙ sym (number_of-root w o t g k.0) in (
        subst (λ (n : ℕ). IsRanged n t) (count-flow_before w a h xs f) (ranged w o t g k.0),
        subst (λ (n : ℕ). AreRanged n hi ts) e (ranged_each w a h (xs ++ bare t ∷ []) ts b k.1),
      )

-- ---- what a number says

-- of each kid in the tree: where this is its number, it is what a `yield` hands on, and has this type
abbrev mutual
  pub IsYielded : ℕ → Ty → TypedNode → Type 0
  IsYielded n a (marked h m ts) = AreYielded n a h.kind ts

  -- the same of the kids of a node of the kind, and of all that stands in them
  pub AreYielded : ℕ → Ty → Kind → TypedNodes → Type 0
  AreYielded n a k typed_none = Unit {0}
  AreYielded n a k (typed_more t ts) =
      (n ≡ number_of t → (k ≡ kind.Yield) × (own_type t ≡ a)) × IsYielded n a t × AreYielded n a k ts

-- no kid in the tree has the number
mutual
  outside : (n : ℕ) (a : Ty) (lo : ℕ) (t : TypedNode) → IsRanged lo t → (n < lo) ⊎ (number_of t ≤ n) → IsYielded n a t
  outside n a lo (marked h m ts) r o = outside_each n a lo m.node h.kind ts r o

  outside_each : (n : ℕ) (a : Ty) (lo hi : ℕ) (k : Kind) (ts : TypedNodes) → AreRanged lo hi ts → (n < lo) ⊎ (hi ≤ n) →
      AreYielded n a k ts
  outside_each n a lo hi k typed_none r o = tt
  outside_each n a lo hi k (typed_more t ts) r (inl l) =
      let p = ranged-le lo t r.0 in
      let q = ranged_each-le (suc (number_of t)) hi ts r.1 in (
        λ e. absurd (omega (arith, e, l, p)),
        outside n a lo t r.0 (inl l),
        outside_each n a (suc (number_of t)) hi k ts r.1 (inl (omega (arith, l, p))),
      )
  outside_each n a lo hi k (typed_more t ts) r (inr l) =
      let p = ranged-le lo t r.0 in
      let q = ranged_each-le (suc (number_of t)) hi ts r.1 in (
        λ e. absurd (omega (arith, e, l, q)),
        outside n a lo t r.0 (inr (omega (arith, l, q))),
        outside_each n a (suc (number_of t)) hi k ts r.1 (inr l),
      )

-- ---- what a tree yields

-- what each `yield` hands on is so, by its number and its type
module _ (E : ℕ → Ty → Type 0) where
  abbrev pub FirstIs : TypedNodes → Type 0
  FirstIs typed_none = Unit {0}
  FirstIs (typed_more t ts) = E (number_of t) (own_type t)

  abbrev mutual
    pub EachYield : TypedNode → Type 0
    EachYield (marked h m ts) = (h.kind ≡ kind.Yield → FirstIs ts) × EachYieldOf ts

    pub EachYieldOf : TypedNodes → Type 0
    EachYieldOf typed_none = Unit {0}
    EachYieldOf (typed_more t ts) = EachYield t × EachYieldOf ts

  first-yielded : (lo hi : ℕ) (k : Kind) (ts : TypedNodes) → AreRanged lo hi ts → k ≡ kind.Yield →
      ((n : ℕ) (a : Ty) → lo ≤ n → n < hi → AreYielded n a k ts → E n a) → FirstIs ts
  first-yielded lo hi k typed_none r y e = tt
  first-yielded lo hi k (typed_more t ts) r y e =
      let n = number_of t in
      let a = own_type t in
      let p = ranged-le lo t r.0 in
      let q = ranged_each-le (suc n) hi ts r.1 in
      e n a p (omega (arith, q))
      (λ u. (y, refl), outside n a lo t r.0 (inr (omega arith)), outside_each n a (suc n) hi k ts r.1 (inl (omega arith)))

  -- Each is so of whose number the tree says that it is yielded.
  mutual
    pub each-yield : (lo : ℕ) (t : TypedNode) → IsRanged lo t →
        ((n : ℕ) (a : Ty) → lo ≤ n → n < number_of t → IsYielded n a t → E n a) → EachYield t
    each-yield lo (marked h m ts) r e =
        (λ y. first-yielded lo m.node h.kind ts r y e, each-yield_of lo m.node h.kind ts r e)

    pub each-yield_of : (lo hi : ℕ) (k : Kind) (ts : TypedNodes) → AreRanged lo hi ts →
        ((n : ℕ) (a : Ty) → lo ≤ n → n < hi → AreYielded n a k ts → E n a) → EachYieldOf ts
    each-yield_of lo hi k typed_none r e = tt
    each-yield_of lo hi k (typed_more t ts) r e =
        let p = ranged-le lo t r.0 in
        let q = ranged_each-le (suc (number_of t)) hi ts r.1 in (
          each-yield lo t r.0
              (λ n a l u y. e n a l (omega (arith, u, q))
              (λ z. absurd (omega (arith, z, u)), y, outside_each n a (suc (number_of t)) hi k ts r.1 (inl (omega (arith, u))))),
          each-yield_of (suc (number_of t)) hi k ts r.1
              (λ n a l u y. e n a (omega (arith, l, p)) u
              (λ z. absurd (omega (arith, z, l)), outside n a lo t r.0 (inr (omega (arith, l))), y)),
        )

-- ---- a bare tree has the same numbers

mutual
  pub yielded-bare : (n : ℕ) (a : Ty) (t : TypedNode) → IsYielded n a t → IsYielded n a (bare t)
  yielded-bare n a (marked h m ts) y = yielded_each-bare n a h.kind ts y

  pub yielded_each-bare : (n : ℕ) (a : Ty) (k : Kind) (ts : TypedNodes) → AreYielded n a k ts → AreYielded n a k (typed_nodes (bare_each ts))
  yielded_each-bare n a k typed_none y = tt
  yielded_each-bare n a k (typed_more (marked h m us) ts) y =
      (y.0, yielded-bare n a (marked h m us) y.1, yielded_each-bare n a k ts y.2)
