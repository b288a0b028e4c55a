-- The parameters of a function: their types are well typed, and they erase to what they stand for.
use Rattle.std.proofs.Common.{◌≡◌, ℕ, ◌+◌, ◌<◌, suc, List, [], ◌∷◌, ◌++◌, Bool, true, false, cond, filter, length, map, drop, Some}
use Rattle.std.proofs.Common.{refl, sym, ap, ◌∙◌, subst, inl, inr, arith, add-one, add-zero, append_assoc}
use Rattle.std.specs.Prelude.{slice_get}
use borrow.Author.Count.{below_more}
use Rattle.hare_tree.specs.Node.{Node, branch, none, more, head, nodes_of}
use Rattle.hare_types.specs.declared.row.Scalar.TheVariants as keyword
use Rattle.hare_typed.specs.Typed.{TypedNode, marked, typed_nodes}
use Rattle.hare_typed.specs.Erased.{erase_each}
use Rattle.hare_typed.specs.Numbers.{is_param, params_among}
use Rattle.hare_typed.specs.Order.{tree_from_front}
use Rattle.hare_rules.specs.Context.{Setting, BindingType}
use Rattle.hare_rules.specs.Words.{word_id}
use Rattle.hare_modules.specs.Uses.{kid, kids}
use Rattle.hare_whole.specs.Listing.{Written}
use Rattle.hare_whole.specs.Parts.{written_id, type_of_param}
use Rattle.hare_whole.specs.Declared.{unnumbered, plain_mark, AreWellParams}
use Rattle.hare_whole.specs.Turns.{IsTyped, AreTyped}
use Rattle.hare_finish.specs.Made.{void_mark, plain_as, IsLeaf, IsPartShaped, ArePartsShaped, taken_by, part_as, parts_as}
use Rattle.hare_finish.proofs.PutTogether.PlainNodes.{void_plain, plain_as-IsPlain, erase-plain_as, one-kid}
use Rattle.hare_finish.proofs.PutTogether.Copies.{erase-unnumbered, written_id-unnumbered}
use Rattle.hare_finish.proofs.OneByOne.Lists.{drop-next, drop-more, first-there}
use Rattle.hare_finish.proofs.PutTogether.WrittenTypes.{unnumbered-well}

-- ---- parts

-- the types of the parameters among some trees
abbrev pub types_in : List Node → List Written
types_in ns = map (λ p. (BindingType, kid p 0)) (filter (λ p. is_param (head p).kind) ns)

-- The parts are well typed, the first parameter with this number; their types have the ids of these, and they erase to these trees.
pub record ArePartsWell (w : Setting) (n k : ℕ) (ns : List Node) (us ps : List TypedNode) : Type 0 where
  pub well : AreWellParams w n k ps
  pub ids : map (λ p. written_id (type_of_param p)) (params_among (typed_nodes ps)) ≡ map written_id us
  pub erases : erase_each (typed_nodes ps) ≡ nodes_of ns

module _ (w : Setting) (n v : ℕ) (void : word_id w.store keyword.Void ≡ Some v) where
  -- one parameter more
  parameter-well : (k : ℕ) (t : Node) (ns : List Node) (u : TypedNode) (us ps : List TypedNode) → is_param (head t).kind ≡ true →
      length (kids t) ≡ 1 → IsTyped w n (BindingType, kid t 0) u → ArePartsWell w n (k + 1) ns us ps →
      ArePartsWell w n k (t ∷ ns) (u ∷ us) (marked (head t) (void_mark v k) (typed_nodes (unnumbered u ∷ [])) ∷ ps)
  parameter-well k t ns u us ps e c h rest =
      let p : TypedNode = marked (head t) (void_mark v k) (typed_nodes (unnumbered u ∷ [])) in
      let shape : p ≡ marked (head t) (plain_mark w k) (typed_nodes (unnumbered u ∷ [])) =
      ap (λ m. marked (head t) m (typed_nodes (unnumbered u ∷ []))) (sym (void_plain w v k void)) in
      record {
        well =
            inl (
              e,
              (unnumbered u, shape, unnumbered-well w n BindingType (kid t 0) u h),
              subst (λ i. AreWellParams w n i ps) (add-one k)
                  rest.well,
            );
        ids =
            ap (λ b. map (λ q. written_id (type_of_param q)) (cond b (p ∷ []) [] ++ params_among (typed_nodes ps))) e
            ∙ ap (λ i. i ∷ map (λ q. written_id (type_of_param q)) (params_among (typed_nodes ps))) (written_id-unnumbered u)
            ∙ ap (λ is. written_id u ∷ is) rest.ids;
        erases =
            ap (λ x. more (branch (head t) (more x none)) (erase_each (typed_nodes ps))) (erase-unnumbered u ∙ h.erases)
            ∙ ap (λ x. more x (erase_each (typed_nodes ps))) (one-kid t c)
            ∙ ap (more t) rest.erases;
      }

  -- one part more that is no parameter
  plain-well : (k : ℕ) (t : Node) (ns : List Node) (us ps : List TypedNode) → is_param (head t).kind ≡ false → IsLeaf t →
      ArePartsWell w n k ns us ps → ArePartsWell w n k (t ∷ ns) us (plain_as v t ∷ ps)
  plain-well k t ns us ps e c rest = record {
    well = inr (e, plain_as-IsPlain w v t void, rest.well);
    ids = ap (λ b. map (λ q. written_id (type_of_param q)) (cond b (plain_as v t ∷ []) [] ++ params_among (typed_nodes ps))) e ∙ rest.ids;
    erases = ap (λ x. more x (erase_each (typed_nodes ps))) (erase-plain_as v t c) ∙ ap (more t) rest.erases;
  }

  -- the first part, by whether it is a parameter
  abbrev part_by : (k : ℕ) → Node → List TypedNode → Bool → TypedNode
  part_by k t ts b = cond b (marked (head t) (void_mark v k) (typed_nodes (unnumbered (tree_from_front 0 ts) ∷ []))) (plain_as v t)

  abbrev IsStep : (k : ℕ) → Node → List Node → (us rest : List TypedNode) → Bool → Type 0
  IsStep k t ns us rest b =
      ArePartsWell w n k (t ∷ ns) us (part_by k t (us ++ rest) b ∷ parts_as v (k + cond b 1 0) ns (drop (cond b 1 0) (us ++ rest)))

  abbrev types_by : Node → List Node → Bool → List Written
  types_by t ns b =
      map (λ p. (BindingType, kid p 0)) (cond b (t ∷ filter (λ p. is_param (head p).kind) ns) (filter (λ p. is_param (head p).kind) ns))

  abbrev Rest : List Node → (rest : List TypedNode) → Type 0
  Rest ns rest = (k : ℕ) (us : List TypedNode) → AreTyped w n (types_in ns) us → ArePartsWell w n k ns us (parts_as v k ns (us ++ rest))

  parts-step : (k : ℕ) (t : Node) (ns : List Node) (us rest : List TypedNode) (b : Bool) → is_param (head t).kind ≡ b →
      length (kids t) ≡ cond b 1 0 → AreTyped w n (types_by t ns b) us → Rest ns rest → IsStep k t ns us rest b
  parts-step k t ns [] rest true e c h r = absurd h
  parts-step k t ns (u ∷ us) rest true e c h r =
      parameter-well k t ns u us (parts_as v (k + 1) ns (us ++ rest)) e c h.0 (r (k + 1) us h.1)
  parts-step k t ns us rest false e c h r =
      subst (λ i. ArePartsWell w n k (t ∷ ns) us (plain_as v t ∷ parts_as v i ns (us ++ rest))) (sym (add-zero k))
      (plain-well k t ns us (parts_as v k ns (us ++ rest)) e c (r k us h))

  -- all parts, where some types stand behind theirs
  pub parts-well : (ns : List Node) (rest : List TypedNode) → ArePartsShaped ns → (k : ℕ) (us : List TypedNode) →
      AreTyped w n (types_in ns) us → ArePartsWell w n k ns us (parts_as v k ns (us ++ rest))
  parts-well [] rest s k [] h = record { well = tt; ids = refl; erases = refl }
  parts-well [] rest s k (u ∷ us) h = absurd h
  parts-well (t ∷ ns) rest s k us h =
      parts-step k t ns us rest (is_param (head t).kind) refl (s 0 t refl) h (parts-well ns rest (λ i u g. s (suc i) u g))

-- ---- part by part

-- one tree more, and one part less that is left
pub parts-next : (v first taken more_taken number i : ℕ) (ns : List Node) (ts trees more_trees all : List TypedNode) (t : Node)
    (x : TypedNode) → slice_get ns i ≡ Some t → number ≡ first + taken → x ≡ part_as v number t (drop taken ts) →
    more_trees ≡ trees ++ x ∷ [] → more_taken ≡ taken + taken_by (head t).kind →
    trees ++ parts_as v (first + taken) (drop i ns) (drop taken ts) ≡ all →
    more_trees ++ parts_as v (first + more_taken) (drop (i + 1) ns) (drop more_taken ts) ≡ all
parts-next v first taken more_taken number i ns ts trees more_trees all t x there n e p m inv =
    let k = taken_by (head t).kind in
    let us = drop (i + 1) ns in
    let sum : first + more_taken ≡ first + taken + k = omega (arith, m) in
    let left : drop more_taken ts ≡ drop k (drop taken ts) = ap (λ j. drop j ts) m ∙ drop-more taken k ts in
    ap (λ zs. zs ++ parts_as v (first + more_taken) us (drop more_taken ts)) p
    ∙ append_assoc trees (x ∷ []) (parts_as v (first + more_taken) us (drop more_taken ts))
    ∙ ap (λ j. trees ++ x ∷ parts_as v j us (drop more_taken ts)) sum
    ∙ ap (λ zs. trees ++ x ∷ parts_as v (first + taken + k) us zs) left
    ∙ ap (λ y. trees ++ y ∷ parts_as v (first + taken + k) us (drop k (drop taken ts))) (e ∙ ap (λ j. part_as v j t (drop taken ts)) n)
    ∙ ap (λ zs. trees ++ parts_as v (first + taken) zs (drop taken ts)) (sym (drop-next ns i t there))
    ∙ inv

-- one part more that is shaped
pub shaped-next : (ns : List Node) (i : ℕ) (t : Node) → slice_get ns i ≡ Some t → IsPartShaped t →
    ((k : ℕ) (u : Node) → k < i → slice_get ns k ≡ Some u → IsPartShaped u) →
    (k : ℕ) (u : Node) → k < i + 1 → slice_get ns k ≡ Some u → IsPartShaped u
shaped-next ns i t there s below k u l g =
    below_more (λ j. (y : Node) → slice_get ns j ≡ Some y → IsPartShaped y) i (λ j h y e. below j y h e)
    (λ y e. let same : t ≡ y = cc in subst IsPartShaped same s) k l u g

-- a parameter with the next of the types
pub part-param : (v k taken : ℕ) (t : Node) (ts : List TypedNode) (y : TypedNode) → is_param (head t).kind ≡ true →
    slice_get ts taken ≡ Some y → marked (head t) (void_mark v k) (typed_nodes (unnumbered y ∷ [])) ≡ part_as v k t (drop taken ts)
part-param v k taken t ts y e g =
    let z = tree_from_front 0 (drop taken ts) in
    ap (λ q. marked (head t) (void_mark v k) (typed_nodes (unnumbered q ∷ []))) (sym (first-there ts taken y g))
    ∙ ap (λ b. cond b (marked (head t) (void_mark v k) (typed_nodes (unnumbered z ∷ []))) (plain_as v t)) (sym e)
