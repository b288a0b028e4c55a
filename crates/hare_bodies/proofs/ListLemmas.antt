-- The bodies of the functions among some declarations.
use Rattle.std.proofs.Common.{◌≡◌, ◌≢◌, ℕ, zero, suc, ◌+◌, ◌<◌, List, [], ◌∷◌, ◌++◌, length, take, slice_get, Some, Bool, true, false, refl, sym, ap, ◌∙◌, subst, arith}
use Rattle.hare_tree.specs.declared.kind.Kind.{Kind}
use Rattle.hare_tree.specs.declared.kind.Kind.TheVariants as ki
use Rattle.hare_tree.specs.declared.place.Fault.{Fault}
use Rattle.hare_tree.specs.declared.place.Place.{Place}
use Rattle.hare_tree.specs.declared.stop.Stop.{Stop}
use Rattle.hare_tree.specs.declared.stop.Stop.TheVariants.{Fault as Refused, Memory}
use Rattle.hare_tree.specs.declared.token.Meaning.{Meaning}
use Rattle.hare_tree.specs.Node.{Node, head}
use Rattle.hare_types.specs.Store.{Store}
use Rattle.hare_types.specs.Later.{IsLater}
use Rattle.hare_types.proofs.LaterLemmas.{later_trans}
use Rattle.hare_typed.specs.Typed.{TypedNode}
use Rattle.hare_rules.specs.declared.declared.DeclType.{DeclType}
use Rattle.hare_depends.specs.declared.said.Sort.TheVariants as so
use Rattle.hare_names.specs.Answers.{meaning_in}
use Rattle.hare_bodies.specs.Functions.{IsTreeOf, IsStopOf}
use Rattle.hare_depends.specs.Sorts.{sort_of, sort_by, sort_of_global, has_type}
use Rattle.hare_whole.specs.Listing.{Listing}
use Rattle.hare_turns.specs.Ends.{IsBodyOf, AreBodies, IsBodyStop}

-- ---- by kinds

-- a declaration of the kind of functions is one
pub is-function : (t : Node) → (head t).kind ≡ ki.Fn → sort_of t ≡ so.Function
is-function t e = ap (λ k. sort_by k t) e

no-global : (b : Bool) → sort_of_global b ≡ so.Function → ⊥
no-global true e = cc
no-global false e = cc

-- no other is
pub no-function : (t : Node) → ¬ ((head t).kind ≡ ki.Fn) → sort_of t ≢ so.Function
no-function t = by (head t).kind
  where
    by : (k : Kind) → ¬ (k ≡ ki.Fn) → sort_by k t ≢ so.Function
    by ki.Fn f = λ e. f refl
    by ki.GlobalLet f = λ e. no-global (has_type t) e
    by ki.GlobalConst f = λ e. no-global (has_type t) e
    by _ f = λ e. cc

-- ---- the first of a list

take-behind : {X : Type 0} (ts : List X) (i : ℕ) (t : X) → slice_get ts i ≡ Some t → take (suc i) ts ≡ take i ts ++ t ∷ []
take-behind [] i t e = absurd cc
take-behind (u ∷ us) zero t e = let h : u ≡ t = cc in ap (λ z. z ∷ []) h
take-behind (u ∷ us) (suc i) t e = ap (λ zs. u ∷ zs) (take-behind us i t e)

take-next : {X : Type 0} (ts : List X) (i : ℕ) (t : X) → slice_get ts i ≡ Some t → take (i + 1) ts ≡ take i ts ++ t ∷ []
take-next ts i t e = let n : i + 1 ≡ suc i = omega arith in ap (λ k. take k ts) n ∙ take-behind ts i t e

take-size : {X : Type 0} (ts : List X) (i : ℕ) (t : X) → slice_get ts i ≡ Some t → length (take i ts) ≡ i
take-size [] i t e = absurd cc
take-size (u ∷ us) zero t e = refl
take-size (u ∷ us) (suc i) t e = ap suc (take-size us i t e)

take-there : {X : Type 0} (ts : List X) (i n : ℕ) (u : X) → n < i → slice_get ts n ≡ Some u → slice_get (take i ts) n ≡ Some u
take-there [] i n u l e = absurd cc
take-there (t ∷ ts) zero n u l e = absurd (omega arith)
take-there (t ∷ ts) (suc i) zero u l e = e
take-there (t ∷ ts) (suc i) (suc n) u l e = take-there ts i n u (omega arith) e

-- ---- bodies

module _ (p : Listing) (ds : List DeclType) where
  -- a body has its tree in each later store
  pub body-later : (s r : Store) → IsLater s r → (n : ℕ) (t : Node) (x : TypedNode) → IsBodyOf p ds s n t x → IsBodyOf p ds r n t x
  body-later s r l n t x b = record { erases = b.erases; well = λ f k. b.well f (later_trans s r f l k) }

  -- so have all
  pub bodies-later : (s r : Store) → IsLater s r → {n : ℕ} {ts : List Node} {xs : List TypedNode} → AreBodies p ds s n ts xs →
      AreBodies p ds r n ts xs
  bodies-later s r l (AreBodies.none n) = AreBodies.none n
  bodies-later s r l (AreBodies.function n t x ts xs f b rest) =
      AreBodies.function n t x ts xs f (body-later s r l n t x b) (bodies-later s r l rest)
  bodies-later s r l (AreBodies.other n t ts xs f rest) = AreBodies.other n t ts xs f (bodies-later s r l rest)

  module _ (s : Store) where
    -- one function more, with its body
    pub one-function : {n : ℕ} {ts : List Node} {xs : List TypedNode} (t : Node) (x : TypedNode) → AreBodies p ds s n ts xs →
        sort_of t ≡ so.Function →
        IsBodyOf p ds s (n + length ts) t x → AreBodies p ds s n (ts ++ t ∷ []) (xs ++ x ∷ [])
    one-function t x (AreBodies.none n) f b =
        let e : n + 0 ≡ n = omega arith in
        AreBodies.function n t x [] [] f (subst (λ m. IsBodyOf p ds s m t x) e b) (AreBodies.none (suc n))
    one-function t x (AreBodies.function n u y ts xs g a rest) f b =
        let e : n + suc (length ts) ≡ suc n + length ts = omega arith in
        AreBodies.function n u y (ts ++ t ∷ []) (xs ++ x ∷ []) g a
        (one-function t x rest f (subst (λ m. IsBodyOf p ds s m t x) e b))
    one-function t x (AreBodies.other n u ts xs g rest) f b =
        let e : n + suc (length ts) ≡ suc n + length ts = omega arith in
        AreBodies.other n u (ts ++ t ∷ []) (xs ++ x ∷ []) g
        (one-function t x rest f (subst (λ m. IsBodyOf p ds s m t x) e b))

    -- one declaration more, which is no function
    pub one-other : {n : ℕ} {ts : List Node} {xs : List TypedNode} (t : Node) → AreBodies p ds s n ts xs → sort_of t ≢ so.Function →
        AreBodies p ds s n (ts ++ t ∷ []) xs
    one-other t (AreBodies.none n) f = AreBodies.other n t [] [] f (AreBodies.none (suc n))
    one-other t (AreBodies.function n u y ts xs g a rest) f =
        AreBodies.function n u y (ts ++ t ∷ []) xs g a (one-other t rest f)
    one-other t (AreBodies.other n u ts xs g rest) f = AreBodies.other n u (ts ++ t ∷ []) xs g (one-other t rest f)

    -- each function among them has its body
    pub has-body : {n : ℕ} {ts : List Node} {xs : List TypedNode} → AreBodies p ds s n ts xs → (i : ℕ) (t : Node) →
        slice_get ts i ≡ Some t →
        sort_of t ≡ so.Function → (x : TypedNode) × IsBodyOf p ds s (n + i) t x
    has-body (AreBodies.none n) i t g f = absurd cc
    has-body (AreBodies.function n u y ts xs k a rest) zero t g f =
        let e : u ≡ t = cc in
        let m : n ≡ n + 0 = omega arith in
        (y, subst (λ m. IsBodyOf p ds s m t y) m (subst (λ w. IsBodyOf p ds s n w y) e a))
    has-body (AreBodies.function n u y ts xs k a rest) (suc i) t g f =
        let r = has-body rest i t g f in
        let m : suc n + i ≡ n + suc i = omega arith in
        (r.0, subst (λ m. IsBodyOf p ds s m t r.0) m r.1)
    has-body (AreBodies.other n u ts xs k rest) zero t g f =
        let e : u ≡ t = cc in
        absurd (k (ap sort_of e ∙ f))
    has-body (AreBodies.other n u ts xs k rest) (suc i) t g f =
        let r = has-body rest i t g f in
        let m : suc n + i ≡ n + suc i = omega arith in
        (r.0, subst (λ m. IsBodyOf p ds s m t r.0) m r.1)

  -- ---- from one declaration to the next

  module _ (names : List (Place × Meaning)) (means : p.means ≡ meaning_in names) (s r : Store) (l : IsLater s r) (ts : List Node) (i : ℕ)
      (t : Node)
      (there : slice_get ts i ≡ Some t) (xs : List TypedNode) (h : AreBodies p ds s 0 (take i ts) xs) where
    -- the next is a function, and has this body
    pub next-function : (x : TypedNode) (ys : List TypedNode) → (head t).kind ≡ ki.Fn → IsTreeOf names ds r i t x → ys ≡ xs ++ x ∷ [] →
        AreBodies p ds r 0 (take (i + 1) ts) ys
    next-function x ys k b e =
        let n : 0 + length (take i ts) ≡ i = omega (arith, take-size ts i t there) in
        subst (λ us. AreBodies p ds r 0 us ys) (sym (take-next ts i t there))
        (subst (λ zs. AreBodies p ds r 0 (take i ts ++ t ∷ []) zs) (sym e)
        (one-function r t x (bodies-later s r l h) (is-function t k)
        (subst (λ m. IsBodyOf p ds r m t x) (sym n) (b p means))))

    -- the next is a function whose body has a fault
    pub next-stop : (q : Stop Fault) → ts ≡ p.decls → (head t).kind ≡ ki.Fn → IsStopOf names ds r i t q → IsBodyStop p ds r q
    next-stop Memory d k f = tt
    next-stop (Refused q) d k f = record {
      decl = i;
      tree = t;
      is_there = ap (λ us. slice_get us i) (sym d) ∙ there;
      function = is-function t k;
      fault = f p means;
      before = λ n u below is g.
          let w = has-body r (bodies-later s r l h) n u (take-there ts i n u below (ap (λ us. slice_get us n) d ∙ is)) g in
          let z : 0 + n ≡ n = omega arith in
          (w.0, subst (λ m. IsBodyOf p ds r m u w.0) z w.1);
    }

  -- the next is no function
  pub next-other : (s : Store) (ts : List Node) (i : ℕ) (t : Node) → slice_get ts i ≡ Some t → (xs : List TypedNode) →
      AreBodies p ds s 0 (take i ts) xs →
      ¬ ((head t).kind ≡ ki.Fn) → AreBodies p ds s 0 (take (i + 1) ts) xs
  next-other s ts i t there xs h k = subst (λ us. AreBodies p ds s 0 us xs) (sym (take-next ts i t there))
      (one-other s t h (no-function t k))
