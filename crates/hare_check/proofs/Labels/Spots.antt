-- Where yielded values may go as a walk goes on, step by step.
use Rattle.std.proofs.Common.{◌≡◌, ◌⊎◌, ℕ, zero, suc, ◌≤◌, Bool, true, false, cond, List, [], ◌∷◌, ◌++◌, map, take, length, Option, Some, None, refl, ap, sym, ◌∙◌, subst, inl, inr, arith, add-one}
use Rattle.std.specs.Prelude.{filter, find, IsSome}
use Rattle.std.proofs.lemmas.List.{take-take, length-take-le, take-append-le}
use Rattle.std.proofs.Math.Seq.{take-length}
use Rattle.hare_tree.specs.declared.kind.Kind.{Kind}
use Rattle.hare_tree.specs.declared.kind.Kind.TheVariants as ki
use Rattle.hare_tree.specs.Node.{Head, Node, Nodes, head}
use Rattle.hare_types.specs.Store.{Store}
use Rattle.hare_types.specs.Later.{IsLater}
use Rattle.hare_typed.specs.Typed.{TypedNode}
use Rattle.hare_typed.specs.Copies.{has_defers as takes_yields}
use Rattle.hare_typed.specs.Order.{tree_from_front}
use Rattle.hare_rules.specs.declared.hint.Hint.TheVariants as hint
use Rattle.hare_rules.specs.Context.{Setting, Open, store_of}
use Rattle.hare_rules.specs.Control.{is_loop, yield_level, block_meant, hint_of_open}
use Rattle.hare_rules.specs.Joined.{void_fits, is_end}
use Rattle.hare_rules.specs.Above.{Above, labels_by, number_above, over_kid}
use Rattle.hare_rules.specs.Flow.{Flow, Yielded, is_at, yields_to, yielded, add_yield, yields_after, context}
use Rattle.hare_walk.specs.Grown.{IsGrown}
use Rattle.hare_walk.specs.Spots.{Spot, spot, one_more}
use Rattle.hare_walk.proofs.Grows.{later-grown}
use Rattle.hare_check.specs.Fits.{IsVoidTaken, AreOpenTo}
use Rattle.hare_check.specs.Spotted.{ways, nameless, labels_round, labels_behind, IsSpotted, AreRound, AreSpotted}
use Rattle.hare_check.proofs.Labels.Meant.{yield-open}
use Rattle.hare_check.proofs.Labels.Places.{each_open-ways, ways-last, ways-outside, each_open-more, each_open-loop, is_past, each_open-filter, each_open-taken, take-filter, filter-open, each_open-push, each_open-later, ends-last}

-- ---- labels round a kid

-- They are those of its node, but for marks, or one more, which is a loop, or one of a node to which values are yielded.
IsRound : Above → Kind → List Open → Type 0
IsRound a k ls =
    (ways ls ≡ ways a.inside.labels)
    ⊎ ((l : Open) × (ls ≡ a.inside.labels ++ l ∷ []) × (l.hint ≡ a.hint) × ((is_loop l.target ≡ true) ⊎ (takes_yields k ≡ true)))

round : (a : Above) (h : Head) (n i : ℕ) (k : Kind) → IsRound a k (labels_by a h n i k)
unfolding IsRound
round a h n i ki.For = inr (_, refl, refl, inl refl)
round a h n zero ki.ForEach = inl refl
round a h n (suc i) ki.ForEach = inr (_, refl, refl, inl refl)
round a h n i ki.Block = inr (_, refl, refl, inr refl)
round a h n zero ki.Case = inl refl
round a h n (suc i) ki.Case = inr (_, refl, refl, inr refl)
round a h n zero ki.SwitchCase = inl refl
round a h n (suc i) ki.SwitchCase = inr (_, refl, refl, inr refl)
round a h n i ki.Defer = inl (ways-outside a.inside.labels)
round a h n i _ = inl refl

behind : (a : Above) (k : Kind) (d : ℕ) → IsRound a k (labels_behind a k d)
unfolding IsRound
behind a k zero = inl refl
behind a k (suc i) = round a (nameless k) 0 i k

-- the name and the number of the node say nothing of where values may go
ways-by : (a : Above) (h g : Head) (n m i : ℕ) (k : Kind) → ways (labels_by a h n i k) ≡ ways (labels_by a g m i k)
ways-by a h g n m i ki.For = ways-last a.inside.labels _ _ refl
ways-by a h g n m zero ki.ForEach = refl
ways-by a h g n m (suc i) ki.ForEach = ways-last a.inside.labels _ _ refl
ways-by a h g n m i ki.Block = ways-last a.inside.labels _ _ refl
ways-by a h g n m zero ki.Case = refl
ways-by a h g n m (suc i) ki.Case = ways-last a.inside.labels _ _ refl
ways-by a h g n m zero ki.SwitchCase = refl
ways-by a h g n m (suc i) ki.SwitchCase = ways-last a.inside.labels _ _ refl
ways-by a h g n m i ki.Defer = refl
ways-by a h g n m i _ = refl

-- what may go to the labels round the last kid may go to those round the next one
behind-next : (s : Store) (a : Above) (ys : List Yielded) (d : ℕ) (k : Kind) → AreOpenTo s (labels_behind a k d) ys →
    AreOpenTo s (labels_round a k d) ys
behind-next s a ys zero ki.For o = each_open-more s a.inside.labels _ ys o
behind-next s a ys (suc i) ki.For o = o
behind-next s a ys zero ki.ForEach o = o
behind-next s a ys (suc zero) ki.ForEach o = each_open-more s a.inside.labels _ ys o
behind-next s a ys (suc (suc i)) ki.ForEach o = o
behind-next s a ys zero ki.Block o = each_open-more s a.inside.labels _ ys o
behind-next s a ys (suc i) ki.Block o = o
behind-next s a ys zero ki.Case o = o
behind-next s a ys (suc zero) ki.Case o = each_open-more s a.inside.labels _ ys o
behind-next s a ys (suc (suc i)) ki.Case o = o
behind-next s a ys zero ki.SwitchCase o = o
behind-next s a ys (suc zero) ki.SwitchCase o = each_open-more s a.inside.labels _ ys o
behind-next s a ys (suc (suc i)) ki.SwitchCase o = o
behind-next s a ys zero ki.Defer o = each_open-ways s a.inside.labels _ ys (sym (ways-outside a.inside.labels)) o
behind-next s a ys (suc i) ki.Defer o = o
behind-next s a ys zero _ o = o
behind-next s a ys (suc i) _ o = o

kid-ways : (w : Setting) (k : Kind) (d : ℕ) (a b : Above) (h : Head) (xs : List TypedNode) (t : Node) (rest : Nodes) →
    b ≡ over_kid w a h xs t rest →
    h.kind ≡ k → length xs ≡ d → ways b.inside.labels ≡ ways (labels_round a k d)
kid-ways w k d a b h xs t rest e p q =
    ap (λ (x : Above). ways x.inside.labels) e
    ∙ ap (λ j. ways (labels_by a h (number_above a xs t rest) (length xs) j)) p
    ∙ ap (λ i. ways (labels_by a h (number_above a xs t rest) i k)) q
    ∙ ways-by a h (nameless k) (number_above a xs t rest) 0 d k

-- ---- how many there are

-- of the tree at hand it is known how many values had been yielded when it began
pub spotted-first : (s : Store) (p : Spot) (ps : List Spot) (a : Above) (outer : List Above) (ms : List ℕ) (ys : List Yielded) →
    AreSpotted s (p ∷ ps) (a ∷ outer) ms ys → (n : ℕ) × (ns : List ℕ) × (ms ≡ n ∷ ns)
spotted-first s p ps a outer [] ys o = absurd o
spotted-first s p ps a outer (n ∷ ns) ys o = (n, ns, refl)

-- a tree round which a node stands has what stands over that node above it
pub spotted-outer : (s : Store) (q p : Spot) (ps : List Spot) (b : Above) (outer : List Above) (ms : List ℕ) (ys : List Yielded) →
    AreSpotted s (q ∷ p ∷ ps) (b ∷ outer) ms ys →
    (a : Above) × (rest : List Above) × (n : ℕ) × (ns : List ℕ) × (outer ≡ a ∷ rest) × (ms ≡ n ∷ ns)
spotted-outer s q p ps b outer [] ys o = absurd o
spotted-outer s q p ps b [] (n ∷ ns) ys o = absurd o.1
spotted-outer s q p ps b (a ∷ rest) (n ∷ ns) ys o = (a, rest, n, ns, refl, refl)

-- ---- steps

-- before a body nothing has been yielded
pub spotted-start : (s : Store) (k : Kind) (a : Above) → AreSpotted s (spot k 0 ∷ []) (a ∷ []) (0 ∷ []) []
spotted-start s k a = (record { within = omega arith; before = tt; behind = tt }, tt)

-- a step to the next kid
pub spotted-enter : (s : Store) (w : Setting) (k : Kind) (d : ℕ) (ps : List Spot) (a b : Above) (outer : List Above) (ns : List ℕ)
    (ys : List Yielded) (h : Head) (xs : List TypedNode) (t : Node) (rest : Nodes) →
    b ≡ over_kid w a h xs t rest → h.kind ≡ k → length xs ≡ d →
    AreSpotted s (spot k d ∷ ps) (a ∷ outer) ns ys →
    AreSpotted s (spot (head t).kind 0 ∷ spot k d ∷ ps) (b ∷ a ∷ outer) (length ys ∷ ns) ys
spotted-enter s w k d ps a b outer [] ys h xs t rest e p q o = absurd o
spotted-enter s w k d ps a b outer (n ∷ ns) ys h xs t rest e p q o =
    let same = kid-ways w k d a b h xs t rest e p q in
    let all : AreOpenTo s b.inside.labels ys =
    each_open-ways s (labels_round a k d) b.inside.labels ys (sym same) (behind-next s a ys d k o.0.behind) in
    let whole : take (length ys) ys ≡ ys = take-length ys in
    let here : IsSpotted s (spot (head t).kind 0) b (length ys) ys =
    record { within = omega arith; before = subst (AreOpenTo s b.inside.labels) (sym whole) all; behind = all } in
    let round : AreRound s b (spot k d ∷ ps) (a ∷ outer) (n ∷ ns) ys = (same, o.0, o.1) in
    (here, subst (AreRound s b (spot k d ∷ ps) (a ∷ outer) (n ∷ ns)) (sym whole) round)

-- a step back to the node round a tree
pub spotted-leave : (s : Store) (k : Kind) (p : Spot) (ps : List Spot) (a b : Above) (outer : List Above) (n : ℕ) (ns : List ℕ)
    (ys : List Yielded) →
    AreSpotted s (spot k 0 ∷ p ∷ ps) (b ∷ a ∷ outer) (n ∷ ns) ys → AreSpotted s (one_more p ∷ ps) (a ∷ outer) ns ys
spotted-leave s k p ps a b outer n [] ys o = absurd o.1
spotted-leave s k p ps a b outer n (m ∷ ns) ys o =
    let inner = o.0.within in
    let own = o.1.1.within in
    let len = length-take-le n ys inner in
    let fewer : m ≤ n = omega (arith, own, len) in
    let same : take m (take n ys) ≡ take m ys = take-take m n ys fewer in
    let round : AreOpenTo s (labels_round a p.kind p.done) ys = each_open-ways s b.inside.labels _ ys o.1.0 o.0.behind in
    let here : IsSpotted s (one_more p) a m ys =
    record {
      within = omega (arith, fewer, inner);
      before = subst (AreOpenTo s a.inside.labels) same o.1.1.before;
      behind = rw add-one round;
    } in
    (here, subst (AreRound s a ps outer ns) same o.1.2)

-- ---- a node's turn

after : (k : Kind) (ls : List Open) (h : Head) (xs : List TypedNode) (ys : List Yielded) →
    (k ≡ ki.Yield) ⊎ (yields_after k ls h xs ys ≡ cond (takes_yields k) (filter (is_past ls) ys) ys)
after ki.Yield ls h xs ys = inl refl
after _ ls h xs ys = inr refl

-- what may go to the labels round the kids, and is left behind the turn, may go to those of the node
left-open : (s : Store) (a : Above) (k : Kind) (ls : List Open) (ys : List Yielded) (b : Bool) → takes_yields k ≡ b → IsRound a k ls →
    AreOpenTo s ls ys → AreOpenTo s a.inside.labels (cond b (filter (is_past a.inside.labels) ys) ys)
unfolding IsRound
left-open s a k ls ys true e (inl r) o =
    each_open-filter s a.inside.labels (is_past a.inside.labels) ys (each_open-ways s ls a.inside.labels ys r o)
left-open s a k ls ys false e (inl r) o = each_open-ways s ls a.inside.labels ys r o
left-open s a k ls ys true e (inr (l, r, i, j)) o =
    each_open-taken s a.inside.labels l ys (subst (λ (ms : List Open). AreOpenTo s ms ys) r o)
left-open s a k ls ys false e (inr (l, r, i, inl j)) o =
    each_open-loop s a.inside.labels l ys j (subst (λ (ms : List Open). AreOpenTo s ms ys) r o)
left-open s a k ls ys false e (inr (l, r, i, inr j)) o = cc

-- the first values stay
left-first : (s : Store) (ls : List Open) (n : ℕ) (ys : List Yielded) (b : Bool) → AreOpenTo s ls (take n ys) →
    take n (cond b (filter (is_past ls) ys) ys) ≡ take n ys
left-first s ls n ys true o = take-filter s ls n ys o
left-first s ls n ys false o = refl

within-first : (n : ℕ) (ys zs : List Yielded) → n ≤ length ys → take n zs ≡ take n ys → n ≤ length zs
within-first zero ys zs h e = omega arith
within-first (suc n) [] zs h e = absurd (omega arith)
within-first (suc n) (y ∷ ys) [] h e = cc
within-first (suc n) (y ∷ ys) (z ∷ zs) h e =
    let k : take n zs ≡ take n ys = cc in
    let r = within-first n ys zs (omega arith) k in
    omega (arith, r)

-- what a node's turn leaves of what has been yielded
record IsLeft (s : Store) (ls : List Open) (n : ℕ) (ys zs : List Yielded) : Type 0 where
  first : take n zs ≡ take n ys
  all : AreOpenTo s ls zs

turn-left : (s : Store) (k : Kind) (d n : ℕ) (a : Above) (ys : List Yielded) → IsSpotted s (spot k d) a n ys →
    IsLeft s a.inside.labels n ys (cond (takes_yields k) (filter (is_past a.inside.labels) ys) ys)
turn-left s k d n a ys o =
    record {
      first = left-first s a.inside.labels n ys (takes_yields k) o.before;
      all = left-open s a k (labels_behind a k d) ys (takes_yields k) refl (behind a k d) o.behind;
    }

turn-added : (s : Store) (ls : List Open) (h : Head) (xs : List TypedNode) (n : ℕ) (ys : List Yielded) → n ≤ length ys → AreOpenTo s ls ys →
    IsVoidTaken s (hint_of_open (block_meant h.text ls)) (yielded h (tree_from_front 0 xs)) →
    IsLeft s ls n ys (yields_after ki.Yield ls h xs ys)
turn-added s ls h xs n ys i o v = by_level (yield_level h.text ls) refl where
  by_level : (q : Option ℕ) → yield_level h.text ls ≡ q → IsLeft s ls n ys (add_yield h xs q ys)
  by_level None e = record { first = refl; all = o }
  by_level (Some m) e =
      let y : Yielded = record { level = m; given = yielded h (tree_from_front 0 xs) } in
      record { first = take-append-le n ys (y ∷ []) i; all = each_open-push s ls ys y o (yield-open s h.text ls m y.given e v) }

yield-labels : (s : Store) (a : Above) (d : ℕ) (k : Kind) (ys : List Yielded) → k ≡ ki.Yield → AreOpenTo s (labels_behind a k d) ys →
    AreOpenTo s a.inside.labels ys
yield-labels s a zero k ys e o = o
yield-labels s a (suc i) k ys e o = subst (λ j. AreOpenTo s (labels_round a j i) ys) e o

-- A node's turn. What a `yield` without a value hands on is taken by what it means.
pub spotted-turn : (s : Store) (k : Kind) (d : ℕ) (ps : List Spot) (a : Above) (outer : List Above) (ns : List ℕ) (ys : List Yielded)
    (h : Head) (xs : List TypedNode) →
    (k ≡ ki.Yield → IsVoidTaken s (hint_of_open (block_meant h.text a.inside.labels)) (yielded h (tree_from_front 0 xs))) →
    AreSpotted s (spot k d ∷ ps) (a ∷ outer) ns ys → AreSpotted s (spot k 0 ∷ ps) (a ∷ outer) ns (yields_after k a.inside.labels h xs ys)
spotted-turn s k d ps a outer [] ys h xs v o = absurd o
spotted-turn s k d ps a outer (n ∷ ns) ys h xs v o = by_kind (after k a.inside.labels h xs ys) where
  goes_on : (zs : List Yielded) → IsLeft s a.inside.labels n ys zs → AreSpotted s (spot k 0 ∷ ps) (a ∷ outer) (n ∷ ns) zs
  goes_on zs l = (
    record {
      within = within-first n ys zs o.0.within l.first;
      before = subst (AreOpenTo s a.inside.labels) (sym l.first) o.0.before;
      behind = l.all;
    },
    subst (AreRound s a ps outer ns) (sym l.first) o.1,
  )

  by_kind : (k ≡ ki.Yield) ⊎ (yields_after k a.inside.labels h xs ys ≡ cond (takes_yields k) (filter (is_past a.inside.labels) ys) ys) →
      AreSpotted s (spot k 0 ∷ ps) (a ∷ outer) (n ∷ ns) (yields_after k a.inside.labels h xs ys)
  by_kind (inl e) =
      let all = yield-labels s a d k ys e o.0.behind in
      let l = turn-added s a.inside.labels h xs n ys o.0.within all (v e) in
      goes_on _ (subst (λ j. IsLeft s a.inside.labels n ys (yields_after j a.inside.labels h xs ys)) (sym e) l)
  by_kind (inr e) = goes_on _ (subst (IsLeft s a.inside.labels n ys) (sym e) (turn-left s k d n a ys o.0))

-- ---- later stores

spot-later : (s r : Store) (p : Spot) (a : Above) (n : ℕ) (ys : List Yielded) → ((f : Store) → IsLater r f → IsLater s f) →
    IsSpotted s p a n ys →
    IsSpotted r p a n ys
spot-later s r p a n ys k o =
    record {
      within = o.within;
      before = each_open-later s r a.inside.labels (take n ys) k o.before;
      behind = each_open-later s r (labels_behind a p.kind p.done) ys k o.behind;
    }

round-later : (s r : Store) (b : Above) (ps : List Spot) (outer : List Above) (ns : List ℕ) (ys : List Yielded) →
    ((f : Store) → IsLater r f → IsLater s f) → AreRound s b ps outer ns ys → AreRound r b ps outer ns ys
round-later s r b [] [] [] ys k o = tt
round-later s r b (p ∷ ps) (a ∷ outer) (n ∷ ns) ys k o =
    (o.0, spot-later s r p a n ys k o.1, round-later s r a ps outer ns (take n ys) k o.2)
round-later s r b _ _ _ ys k o = absurd o

-- what is later than a store that keeps what is known is later than that before
pub spotted-later : (s r : Store) (ps : List Spot) (outer : List Above) (ns : List ℕ) (ys : List Yielded) →
    ((f : Store) → IsLater r f → IsLater s f) → AreSpotted s ps outer ns ys → AreSpotted r ps outer ns ys
spotted-later s r (p ∷ ps) (a ∷ outer) (n ∷ ns) ys k o = (spot-later s r p a n ys k o.0, round-later s r a ps outer ns (take n ys) k o.1)
spotted-later s r _ _ _ ys k o = absurd o

pub spotted-grown : (s r : Store) (ps : List Spot) (outer : List Above) (ns : List ℕ) (ys : List Yielded) → IsGrown s r →
    AreSpotted s ps outer ns ys → AreSpotted r ps outer ns ys
spotted-grown s r ps outer ns ys g o = spotted-later s r ps outer ns ys (λ f l. later-grown s r f g l) o

-- ---- what is asked at a node's turn

-- none of the values that had been yielded when the node began was handed to it
pub spotted-from : (s : Store) (p : Spot) (ps : List Spot) (a : Above) (outer : List Above) (n : ℕ) (ns : List ℕ) (ys : List Yielded) →
    AreSpotted s (p ∷ ps) (a ∷ outer) (n ∷ ns) ys → filter (is_at (length a.inside.labels)) (take n ys) ≡ []
spotted-from s p ps a outer n ns ys o = filter-open s a.inside.labels (take n ys) o.0.before

ends-taken : (s f : Store) (a : Above) (k : Kind) (ls : List Open) (ys : List Yielded) (t : ℕ) (b : Bool) → takes_yields k ≡ b →
    IsRound a k ls →
    AreOpenTo s ls ys → IsLater s f → a.hint ≡ hint.Of t →
    IsSome (find is_end (cond b (map (λ y. y.given) (filter (is_at (length a.inside.labels)) ys)) [])) → void_fits f t ≡ true
unfolding IsRound
ends-taken s f a k ls ys t false e r o l h i = cc
ends-taken s f a k ls ys t true e (inl r) o l h i =
    let none = filter-open s a.inside.labels ys (each_open-ways s ls a.inside.labels ys r o) in
    let j = subst (λ (zs : List Yielded). IsSome (find is_end (map (λ (y : Yielded). y.given) zs))) none i in
    cc
ends-taken s f a k ls ys t true e (inr (m, r, j, q)) o l h i =
    ends-last s f a.inside.labels m ys t (j ∙ h) l (subst (λ (ms : List Open). AreOpenTo s ms ys) r o) i

-- where a node is asked for a type, and something was yielded to it without a value, void fits that type
pub spotted-taken : (s : Store) (w : Setting) (k : Kind) (d : ℕ) (ps : List Spot) (a : Above) (outer : List Above) (ns : List ℕ) (h : Head)
    (xs : List TypedNode) (f : Flow) → h.kind ≡ k → IsLater s w.store → AreSpotted s (spot k d ∷ ps) (a ∷ outer) ns f.yields → (t : ℕ) →
    (context w a h xs f).hint ≡ hint.Of t → IsSome (find is_end (context w a h xs f).yields) →
    void_fits (store_of (context w a h xs f)) t ≡ true
spotted-taken s w k d ps a outer [] h xs f e l o t g i = absurd o
spotted-taken s w k d ps a outer (n ∷ ns) h xs f e l o t g i =
    let j = subst (λ q. IsSome (find is_end (yields_to q (length a.inside.labels) f.yields))) e i in
    ends-taken s w.store a k (labels_behind a k d) f.yields t (takes_yields k) refl (behind a k d) o.0.behind l g j
