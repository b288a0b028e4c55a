-- What is found in the graph of dependence, and what it says of circles.
use Rattle.std.proofs.Common.{◌≡◌, ◌↔◌, IsTrue, ℕ, ◌+◌, ◌<◌, ◌≤◌, List, [], ◌∷◌, ◌⊎◌, inl, inr, Bool, true, false, length, get_or, take, replicate, Option, Some, None, is_some, if◌then◌else◌, refl, sym, ap, ◌∙◌, subst, zero, suc, arith}
use Rattle.std.specs.Prelude.{Contains}
use Rattle.std.proofs.lemmas.List.{take_more}
use Rattle.std.proofs.lemmas.List.Elements.{Contains-push_cases}
use Rattle.hare_graph.specs.Graphs.{Graph, Reached, at_start, along, label_of, Spreads}
use Rattle.hare_graph.specs.Ranks.{StaysWithin, IsReverse}
use Rattle.hare_graph.proofs.Elements.{Other, other}
use Rattle.hare_graph.proofs.ReachLemmas.{reached-by-labels}
use Rattle.hare_depends.specs.declared.said.Said.{Said}
use Rattle.hare_depends.specs.declared.edges.Edge.{Edge}
use Rattle.hare_depends.specs.Dependence.{needed_by, DependsOn, needed, mentioned, LeadsTo, at_once, further}
use Rattle.hare_depends.specs.Circles.{AllWithin, HasConstant, CircleNumber, of_constant, of_type, IsCircleFault, TellsCircle}
use Rattle.hare_depends.specs.Edges.{edges_of, nodes, forward_of, backward_of, TellsReturn, TellsReached, HasConstantIn, HasLabelled, place_in, circle_fault}
use Rattle.hare_depends.proofs.ListLemmas.{there-within, there-below}
use Rattle.hare_depends.proofs.EdgeLemmas.{AreGraphs, graphs-are}
use Rattle.hare_depends.proofs.LeadLemmas.{reach-on, reach-first, reach-back, Onward, number-said, reached-leads, leads-reached}

-- ---- lists that are gone through

pub Contains-index : (xs : List ℕ) (i : ℕ) → i < length xs → Contains xs (get_or xs i 0)
Contains-index xs i l = (i, l, any-default xs i l)
  where
    any-default : (xs : List ℕ) (i : ℕ) → i < length xs → get_or xs i (get_or xs i 0) ≡ get_or xs i 0
    any-default [] i l = absurd (omega arith)
    any-default (y ∷ ys) zero l = refl
    any-default (y ∷ ys) (suc i) l = any-default ys i (omega arith)

take-past : (xs : List ℕ) (i : ℕ) → length xs ≤ i → take i xs ≡ xs
take-past [] zero l = refl
take-past [] (suc i) l = refl
take-past (y ∷ ys) zero l = absurd (omega arith)
take-past (y ∷ ys) (suc i) l = ap (λ zs. y ∷ zs) (take-past ys i (omega arith))

-- of none so far it is so, and not of the next
pub none-more : (P : ℕ → Type 0) (xs : List ℕ) (i : ℕ) → i < length xs → ((x : ℕ) → Contains (take i xs) x → P x → ⊥) →
    (P (get_or xs i 0) → ⊥) → (x : ℕ) → Contains (take (i + 1) xs) x → P x → ⊥
none-more P xs i l n m x c p = by (Contains-push_cases (take i xs) (get_or xs i 0) x (subst (λ ys. Contains ys x) (take_more xs i 0 l) c))
  where
    by : Contains (take i xs) x ⊎ (get_or xs i 0 ≡ x) → ⊥
    by (inl d) = n x d p
    by (inr e) = m (subst P (sym e) p)

-- it is so of none
pub none-at-all : (P : ℕ → Type 0) (xs : List ℕ) (i : ℕ) → length xs ≤ i → ((x : ℕ) → Contains (take i xs) x → P x → ⊥) → (x : ℕ) →
    Contains xs x → P x → ⊥
none-at-all P xs i l n x c p = n x (subst (λ ys. Contains ys x) (sym (take-past xs i l)) c) p

pub none-below : (P : ℕ → Type 0) (n : ℕ) → ((e : ℕ) → e < n → P e → ⊥) → (P n → ⊥) → (e : ℕ) → e < n + 1 → P e → ⊥
none-below P n f m e l p = by (other e n)
  where
    by : Other e n → ⊥
    by (inl q) = m (subst P q p)
    by (inr q) = f e (omega arith) p

-- ---- labels

some-label : (o : Option ℕ) → is_some o ≡ true → (l : ℕ) × (o ≡ Some l)
some-label None e = absurd cc
some-label (Some l) e = (l, refl)

pub tells-reached : (g : Graph) (start k : ℕ) (old new : List (Option ℕ)) → old ≡ replicate (length g) None → StaysWithin g →
    start < length g → Spreads g start k old new → TellsReached g start new
tells-reached g start k old new free stays there s b =
    let r : IsTrue (is_some (label_of new b)) ↔ Reached g start b =
    reached-by-labels g start k old new free stays there s b (label_of new b) (is_some (label_of new b)) refl refl in
    (λ l. r.0 (ap is_some l.1), λ q. some-label (label_of new b) (r.1 q))

pub constants-common : (ds : List Said) (g h : Graph) (d : ℕ) (ls ks : List (Option ℕ)) (r : Bool) → TellsReached g d ls →
    TellsReached h d ks → IsReverse g h → IsReverse h g → IsTrue r ↔ HasLabelled ds ls ks → IsTrue r ↔ HasConstantIn ds g d
constants-common ds g h d ls ks r a b back forth i =
    (λ t. to (i.0 t), λ c. i.1 (from c))
  where
    to : HasLabelled ds ls ks → HasConstantIn ds g d
    to c = (c.0, c.1, c.2, (a c.0).0 c.3, reach-back h g (λ x y e. forth.back x y e) d c.0 ((b c.0).0 c.4))

    from : HasConstantIn ds g d → HasLabelled ds ls ks
    from c = (c.0, c.1, c.2, (a c.0).1 c.3, (b c.0).1 (reach-back g h (λ x y e. back.back x y e) c.0 d c.4))

-- ---- graphs

pub graphs-at : (ds : List Said) (es us : List Edge) (g h : Graph) → AllWithin ds → g ≡ forward_of (nodes ds) es →
    h ≡ backward_of (nodes ds) us → es ≡ edges_of ds → us ≡ edges_of ds → AreGraphs ds g h
graphs-at ds es us g h w e f p q =
    subst (λ x. AreGraphs ds x h) (sym (e ∙ ap (forward_of (nodes ds)) p))
    (subst (λ y. AreGraphs ds (forward_of (nodes ds) (edges_of ds)) y) (sym (f ∙ ap (backward_of (nodes ds)) q)) (graphs-are ds w))

pub within-graph : (ds : List Said) (g h : Graph) (d : ℕ) → AreGraphs ds g h → d < length ds → d < length g
within-graph ds g h d a l = omega (arith, a.forward.length_is)

-- ---- circles

pub depends-there : (ds : List Said) (d e : ℕ) → DependsOn ds d e → d < length ds
depends-there ds d e (needed f c) = let n = number-said ds (λ z. needed_by ds z.sort z) d e c in there-within ds d n.0 n.1
depends-there ds d e (mentioned f t v c m) = let n = number-said ds (λ z. needed_by ds z.sort z) d f c in there-within ds d n.0 n.1

leads-there : (ds : List Said) (d e : ℕ) → LeadsTo ds d e → d < length ds
leads-there ds d e (at_once f k) = depends-there ds d e k
leads-there ds d e (further f u l k) = leads-there ds d f l

reach-onward : (g : Graph) (a b c : ℕ) → Reached g a b → Onward g b c → Onward g a c
reach-onward g a b c at_start o = o
reach-onward g a b c (along x y r e) o = reach-onward g a x c r (b, e, reach-first g b o.0 c o.1 o.2)

onward-reach : (g : Graph) (a b c : ℕ) → Onward g a b → Reached g b c → Onward g a c
onward-reach g a b c o r = (o.0, o.1, reach-on g o.0 b c o.2 r)

module _ (ds : List Said) (w : AllWithin ds) (g h : Graph) (a : AreGraphs ds g h) where
  pub circular-none : TellsReturn g (length ds) None → TellsCircle ds None
  circular-none t d k = t d (leads-there ds d d k) (leads-reached ds g h a d d k)

  module _ (d : ℕ) (t : TellsReturn g (length ds) (Some d)) where
    lead : (e : ℕ) → e < length ds → Onward g d e → LeadsTo ds d e
    lead e l o = reached-leads ds w d g h a e t.0 l o

    with-constant : HasConstantIn ds g d → HasConstant ds d
    with-constant c =
        (c.0, c.2, lead c.0 c.1 (onward-reach g d d c.0 t.1 c.3), reached-leads ds w c.0 g h a d c.1 t.0 (reach-onward g c.0 d d c.4 t.1))

    without-constant : (HasConstantIn ds g d → ⊥) → HasConstant ds d → ⊥
    without-constant n c = n (c.0, leads-there ds c.0 d c.3, c.1, reached d c.0 c.2, reached c.0 d c.3)
      where
        reached : (x y : ℕ) → LeadsTo ds x y → Reached g x y
        reached x y l = let o = leads-reached ds g h a x y l in reach-first g x o.0 y o.1 o.2

    number-of : (b : Bool) → IsTrue b ↔ HasConstantIn ds g d → CircleNumber ds d (if b then 23 else 17)
    number-of true i = of_constant (with-constant (i.0 refl))
    number-of false i = of_type (without-constant (λ c. let e : false ≡ true = i.1 c in absurd cc))

    pub circular-first : (b : Bool) → IsTrue b ↔ HasConstantIn ds g d → IsCircleFault ds (circle_fault ds d b)
    circular-first b i =
        let s = there-below ds d t.0 in
        record {
          decl = d;
          said = s.0;
          is_there = s.1;
          circular = lead d t.0 t.1;
          first = λ e l k. t.2 e l (leads-reached ds g h a e e k);
          number = number-of b i;
          place = ap place_in s.1;
        }
