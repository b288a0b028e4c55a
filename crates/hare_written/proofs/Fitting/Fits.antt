-- Types that fit, in this store and in later ones.
use Rattle.std.proofs.Common.{◌≡◌, ℕ, ◌<◌, List, [], ◌∷◌, ◌++◌, length, Option, Some, refl, ap, sym, ◌∙◌, subst, append-nil}
use Rattle.std.specs.Prelude.{nat_eq, option_map, option_and_then, Contains}
use Rattle.std.specs.Map.{lookup}
use Rattle.hare_types.specs.declared.declared.Declared.{Declared}
use Rattle.hare_types.specs.declared.extent.Extent.{Extent}
use Rattle.hare_types.specs.declared.coercion.Ty.{Ty}
use Rattle.hare_types.specs.declared.coercion.Ty.TheVariants as ty
use Rattle.hare_types.specs.Store.{Store, definition_of}
use Rattle.hare_types.specs.Sound.{IsStore}
use Rattle.hare_types.specs.Later.{IsLater}
use Rattle.hare_types.proofs.LaterLemmas.{later_here}
use Rattle.hare_tree.specs.Node.{Head}
use Rattle.hare_tree.specs.declared.kind.Kind.{Kind}
use Rattle.hare_typed.specs.Typed.{TypedNode}
use Rattle.hare_typed.specs.Numbers.{kind_of}
use Rattle.hare_typed.specs.Order.{check_order}
use Rattle.hare_rules.specs.Aggregates.{is_small}
use Rattle.hare_rules.specs.Context.{own_type}
use Rattle.hare_seen.specs.Seen.{DefinesTheSame, MeasuresTheSame}
use Rattle.hare_seen.specs.Sizes.{FitsAs, FitsNode, IsLargeNode, AllFit, StandIn, IsFirstLarge, size_row_by, nodes_of_types}
use Rattle.hare_seen.specs.Laws.{BytesFollowDefinitions}
use Rattle.hare_walk.specs.Grown.{IsGrown}
use Rattle.hare_walk.specs.Walks.{Each}
use Rattle.hare_walk.proofs.Grows.{later-grown}
use Rattle.rule_judge.proofs.DefinedLemmas.{row_stays, within_stays}
use Rattle.hare_written.specs.Nodes.{IsIn, StandsIn, IsFirst}
use Rattle.hare_written.proofs.Fitting.NodeLists.{each-map, each-both, each-from, each-of, first-at}

-- ---- growth

pub grown-later : (s r : Store) → IsGrown s r → IsStore r → IsLater s r
grown-later s r g v = later-grown s r r g (later_here r v)

-- a store that grows knows no more of the bytes of types
pub grown-measures : BytesFollowDefinitions → (s r : Store) → IsGrown s r → IsStore s → IsStore r → MeasuresTheSame s r
grown-measures b s r g v w =
    b s r v (grown-later s r g w) (λ d. ap (λ (ds : List (ℕ × Declared)). option_and_then (λ e. e.definition) (lookup (nat_eq d) ds))
    g.declared)

pub measures-trans : (s r f : Store) → IsStore s → IsLater s r → MeasuresTheSame s r → MeasuresTheSame r f → MeasuresTheSame s f
measures-trans s r f v l a b u h = b u (within_stays s r v l u h) ∙ a u h

-- ---- types that stand in a store, and fit

module _ (s f : Store) (v : IsStore s) (l : IsLater s f) where
  pub stand-stays : (y : TypedNode) → StandsIn s y → StandsIn f y
  stand-stays y h u e = within_stays s f v l u (h u e)

  pub stands-stay : (ys : List TypedNode) → Each (StandsIn s) ys → Each (StandsIn f) ys
  stands-stay ys h = each-map (StandsIn s) (StandsIn f) ys stand-stays h

  module _ (m : MeasuresTheSame s f) where
    pub as-stays : (k : Kind) (u : ℕ) → u < length s.rows → FitsAs s k u → FitsAs f k u
    as-stays k u w h r q =
        ap (λ (o : Option Extent). is_small (option_map (λ x. x.size) o)) (m u w) ∙ h r
        (ap (size_row_by k) (sym (row_stays s f v l u w)) ∙ q)

    pub fit-stays : (y : TypedNode) → StandsIn s y → FitsNode s y → FitsNode f y
    fit-stays y w h u e = as-stays (kind_of y) u (w u e) (h u e)

    pub fits-stay : (ys : List TypedNode) → Each (StandsIn s) ys → Each (FitsNode s) ys → Each (FitsNode f) ys
    fits-stay ys w h = each-both (StandsIn s) (FitsNode s) (FitsNode f) ys fit-stays w h

-- ---- one tree

one_tree : (x : TypedNode) → nodes_of_types (x ∷ []) ≡ check_order x
one_tree x = append-nil (check_order x)

pub all-fit : (f : Store) (x : TypedNode) → AllFit f (x ∷ []) → Each (FitsNode f) (check_order x)
all-fit f x h = each-from (FitsNode f) (check_order x) (λ y c. h y (subst (λ (ys : List TypedNode). Contains ys y) (sym (one_tree x)) c))

pub fit-all : (f : Store) (x : TypedNode) → Each (FitsNode f) (check_order x) → AllFit f (x ∷ [])
fit-all f x h y c = each-of (FitsNode f) (check_order x) h y (subst (λ (ys : List TypedNode). Contains ys y) (one_tree x) c)

pub stand-all : (s : Store) (x : TypedNode) → Each (StandsIn s) (check_order x) → StandIn s (x ∷ [])
stand-all s x h y u c e = each-of (StandsIn s) (check_order x) h y (subst (λ (ys : List TypedNode). Contains ys y) (one_tree x) c) u e

pub first-large : (f : Store) (x : TypedNode) (i : ℕ) (y : TypedNode) → IsFirstLarge f (x ∷ []) i y → IsFirst f (check_order x) y
first-large f x i y h =
    subst (λ (ys : List TypedNode). IsFirst f ys y) (sym h.nodes ∙ one_tree x)
    (first-at f h.before h.behind y (each-from (FitsNode f) h.before h.fit) h.large)
