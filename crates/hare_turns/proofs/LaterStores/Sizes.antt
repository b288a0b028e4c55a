-- Which written types are too large, in a later store in which no more is known of the bytes of types.
use Rattle.std.proofs.Common.{◌≡◌, ℕ, ◌<◌, List, ◌∷◌, ◌++◌, length, ap, sym, ◌∙◌, subst}
use Rattle.std.specs.Prelude.{Contains, option_map}
use Rattle.std.proofs.lemmas.List.Elements.{Contains-append_left, Contains-append_right}
use Rattle.hare_tree.specs.declared.kind.Kind.{Kind}
use Rattle.hare_types.specs.Store.{Store}
use Rattle.hare_types.specs.Sound.{IsStore}
use Rattle.hare_types.specs.Later.{IsLater, TypesStay}
use Rattle.hare_typed.specs.Typed.{TypedNode}
use Rattle.hare_rules.specs.Aggregates.{is_small}
use Rattle.hare_seen.specs.Seen.{MeasuresTheSame}
use Rattle.hare_seen.specs.Sizes.{is_small_at, size_row, size_row_by, FitsAs, IsLargeNode, nodes_of_types, AllFit, StandIn, IsFirstLarge}
use Rattle.hare_turns.proofs.LaterStores.Lists.{Contains-head}
use Rattle.hare_turns.proofs.LaterStores.Stores.{row_at-later, within-later}

-- the types stand in each later store
pub StandIn-later : (s f : Store) → IsLater s f → (ts : List TypedNode) → StandIn s ts → StandIn f ts
StandIn-later s f l ts n = λ y u c e. within-later s f l u (n y u c e)

module _ (stay : TypesStay) (s f : Store) (v : IsStore s) (l : IsLater s f) (m : MeasuresTheSame s f) where
  size_row-later : (k : Kind) (u : ℕ) → u < length s.rows → size_row f k u ≡ size_row s k u
  size_row-later k u h = ap (size_row_by k) (row_at-later stay s f v l u h)

  is_small_at-later : (u : ℕ) → u < length s.rows → is_small_at f u ≡ is_small_at s u
  is_small_at-later u h = ap (λ o. is_small (option_map (λ x. x.size) o)) (m u h)

  FitsAs-later : (k : Kind) (u : ℕ) → u < length s.rows → FitsAs s k u → FitsAs f k u
  FitsAs-later k u h fits = λ r e. is_small_at-later u h ∙ fits r (sym (size_row-later k u h) ∙ e)

  pub AllFit-later : (ts : List TypedNode) → StandIn s ts → AllFit s ts → AllFit f ts
  AllFit-later ts n fits = λ y c u e. FitsAs-later _ u (n y u c e) (fits y c u e)

  IsLargeNode-later : (ts : List TypedNode) (y : TypedNode) → StandIn s ts → Contains (nodes_of_types ts) y → IsLargeNode s y →
      IsLargeNode f y
  IsLargeNode-later ts y n c h =
      let within = n y h.id c h.type in
      record {
        id = h.id;
        row = h.row;
        type = h.type;
        asks = size_row-later _ h.id within ∙ h.asks;
        large = is_small_at-later h.id within ∙ h.large;
      }

  pub IsFirstLarge-later : (ts : List TypedNode) (i : ℕ) (y : TypedNode) → StandIn s ts → IsFirstLarge s ts i y → IsFirstLarge f ts i y
  IsFirstLarge-later ts i y n h =
      let among : (x : TypedNode) → Contains (h.before ++ y ∷ h.behind) x → Contains (nodes_of_types ts) x =
      λ x c. subst (λ ys. Contains ys x) (sym h.nodes) c in
      let itself = among y (Contains-append_right h.before (y ∷ h.behind) y (Contains-head y h.behind)) in
      record {
        before = h.before;
        behind = h.behind;
        nodes = h.nodes;
        count = h.count;
        fit = λ x c u e. FitsAs-later _ u (n x u (among x (Contains-append_left h.before (y ∷ h.behind) x c)) e) (h.fit x c u e);
        large = IsLargeNode-later ts y n itself h.large;
      }
