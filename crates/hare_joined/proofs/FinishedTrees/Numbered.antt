-- The finished trees of all declarations, by their numbers.
use Rattle.std.proofs.Common.{◌≡◌, ◌≢◌, ℕ, zero, suc, ◌+◌, List, [], ◌∷◌, map, Option, Some, None, refl, subst, arith}
use Rattle.std.specs.Prelude.{slice_get}
use Rattle.hare_tree.specs.Node.{Node}
use Rattle.hare_types.specs.Store.{Store}
use Rattle.hare_typed.specs.Typed.{TypedNode}
use Rattle.hare_typed.specs.Erased.{erase}
use Rattle.hare_rules.specs.declared.declared.DeclType.{DeclType}
use Rattle.hare_depends.specs.declared.said.Sort.TheVariants as so
use Rattle.hare_depends.specs.Sorts.{sort_of}
use Rattle.hare_whole.specs.Listing.{Listing}
use Rattle.hare_turns.specs.Ends.{IsBodyOf, AreBodies}
use Rattle.hare_finish.specs.Finished.{IsFinished}
use Rattle.hare_declarations.specs.declared.parts.Parts.{Parts}
use Rattle.hare_joined.specs.Joined.{AreFinished}

-- the tree of declaration number n is finished of these parts, and of the body of the function
pub record IsFinishedAs (p : Listing) (ks : List DeclType) (r f : Store) (n : ℕ) (t : Node) (q : Parts) (d : TypedNode) : Type 0 where
  pub body : Option TypedNode
  pub finished : IsFinished f t q.types q.value body d
  pub is_body : sort_of t ≡ so.Function → (b : TypedNode) × (body ≡ Some b) × IsBodyOf p ks r n t b

-- these are, and the first has this number
pub data AreEach (p : Listing) (ks : List DeclType) (r f : Store) : ℕ → List Node → List Parts → List TypedNode → Type 0 where
  none : (n : ℕ) → AreEach p ks r f n [] [] []
  more : (n : ℕ) (t : Node) (q : Parts) (d : TypedNode) (ts : List Node) (qs : List Parts) (ds : List TypedNode) →
      IsFinishedAs p ks r f n t q d → AreEach p ks r f (suc n) ts qs ds → AreEach p ks r f n (t ∷ ts) (q ∷ qs) (d ∷ ds)

-- the first of these declarations is a function, and this is its body
record IsFirstBody (p : Listing) (ks : List DeclType) (r : Store) (n : ℕ) (t : Node) (ts : List Node) (b : TypedNode) (bs : List TypedNode)
    : Type 0 where
  own : IsBodyOf p ks r n t b
  rest : AreBodies p ks r (suc n) ts bs

module _ (p : Listing) (ks : List DeclType) (r f : Store) where
  body-first : (n : ℕ) (t : Node) (ts : List Node) (b : TypedNode) (bs : List TypedNode) → sort_of t ≡ so.Function →
      AreBodies p ks r n (t ∷ ts) (b ∷ bs) → IsFirstBody p ks r n t ts b bs
  body-first n t ts b bs e (AreBodies.function m u c us cs i own rest) = record { own = own; rest = rest }
  body-first n t ts b bs e (AreBodies.other m u us cs i rest) = absurd (i e)

  bodies-other : (n : ℕ) (t : Node) (ts : List Node) (bs : List TypedNode) → sort_of t ≢ so.Function → AreBodies p ks r n (t ∷ ts) bs →
      AreBodies p ks r (suc n) ts bs
  bodies-other n t ts bs e (AreBodies.function m u c us cs i own rest) = absurd (e i)
  bodies-other n t ts bs e (AreBodies.other m u us cs i rest) = rest

  pub each-finished : {ts : List Node} {qs : List Parts} {bs ds : List TypedNode} → AreFinished f ts qs bs ds → (n : ℕ) →
      AreBodies p ks r n ts bs → AreEach p ks r f n ts qs ds
  each-finished AreFinished.none n h = AreEach.none n
  each-finished (AreFinished.function t q b d ts qs bs ds i own rest) n h =
      let first = body-first n t ts b bs i h in
      AreEach.more n t q d ts qs ds (record { body = Some b; finished = own; is_body = λ e. (b, refl, first.own) })
      (each-finished rest (suc n) first.rest)
  each-finished (AreFinished.other t q d ts qs bs ds i own rest) n h =
      AreEach.more n t q d ts qs ds (record { body = None; finished = own; is_body = λ e. absurd (i e) })
      (each-finished rest (suc n) (bodies-other n t ts bs i h))

-- ---- by number

-- the finished tree that stands at this place is that of the declaration and the parts that stand there
pub record IsEachAt (p : Listing) (ks : List DeclType) (r f : Store) (ts : List Node) (qs : List Parts) (i n : ℕ) (d : TypedNode)
    : Type 0 where
  pub tree : Node
  pub parts : Parts
  pub is_there : slice_get ts i ≡ Some tree
  pub has_parts : slice_get qs i ≡ Some parts
  pub own : IsFinishedAs p ks r f n tree parts d

module _ (p : Listing) (ks : List DeclType) (r f : Store) where
  pub each-at : {n : ℕ} {ts : List Node} {qs : List Parts} {ds : List TypedNode} → AreEach p ks r f n ts qs ds → (i m : ℕ) → n + i ≡ m →
      (d : TypedNode) → slice_get ds i ≡ Some d → IsEachAt p ks r f ts qs i m d
  each-at (AreEach.none n) i m e d h = absurd cc
  each-at (AreEach.more n t q x ts qs ds own rest) zero m e d h =
      let same : x ≡ d = cc in
      let here : n ≡ m = omega arith in
      let moved = subst (λ (k : ℕ). IsFinishedAs p ks r f k t q x) here own in
      record {
        tree = t;
        parts = q;
        is_there = refl;
        has_parts = refl;
        own = subst (λ (z : TypedNode). IsFinishedAs p ks r f m t q z) same moved;
      }
  each-at (AreEach.more n t q x ts qs ds own rest) (suc i) m e d h =
      let k = each-at rest i m (omega arith) d h in
      record { tree = k.tree; parts = k.parts; is_there = k.is_there; has_parts = k.has_parts; own = k.own }

  -- there are as many
  pub each-beyond : {n : ℕ} {ts : List Node} {qs : List Parts} {ds : List TypedNode} → AreEach p ks r f n ts qs ds → (i : ℕ) →
      slice_get ds i ≡ None → slice_get ts i ≡ None
  each-beyond (AreEach.none n) i h = refl
  each-beyond (AreEach.more n t q x ts qs ds own rest) zero h = absurd cc
  each-beyond (AreEach.more n t q x ts qs ds own rest) (suc i) h = each-beyond rest i h

  -- where each has its untyped tree, all have theirs
  pub each-erased : {n : ℕ} {ts : List Node} {qs : List Parts} {ds : List TypedNode} → AreEach p ks r f n ts qs ds →
      ((i : ℕ) (t : Node) (d : TypedNode) → slice_get ts i ≡ Some t → slice_get ds i ≡ Some d → erase d ≡ t) → map erase ds ≡ ts
  each-erased (AreEach.none n) h = refl
  each-erased (AreEach.more n t q x ts qs ds own rest) h =
      let first = h 0 t x refl refl in
      let others = each-erased rest (λ i y z a b. h (suc i) y z a b) in
      cc
