-- Types and values of declarations stay judged in later stores.
use Rattle.std.proofs.Common.{◌≡◌, ℕ, ◌<◌, List, length, ap, sym, ◌∙◌}
use Rattle.std.specs.Prelude.{option_map}
use Rattle.hare_tree.specs.declared.kind.Kind.{Kind}
use Rattle.hare_tree.specs.Node.{Node}
use Rattle.hare_types.specs.Store.{Store}
use Rattle.hare_types.specs.Sound.{IsStore}
use Rattle.hare_types.specs.Later.{IsLater}
use Rattle.hare_types.proofs.LaterLemmas.{later_trans}
use Rattle.hare_typed.specs.Typed.{TypedNode}
use Rattle.hare_seen.specs.Seen.{MeasuresTheSame}
use Rattle.hare_seen.specs.Sizes.{AllFit, FitsAs, StandIn, is_small_at, size_row, size_row_by}
use Rattle.hare_rules.specs.declared.declared.DeclType.{DeclType}
use Rattle.hare_rules.specs.Aggregates.{is_small}
use Rattle.rule_judge.proofs.DefinedLemmas.{row_stays, within_stays}
use Rattle.hare_whole.specs.Listing.{Listing}
use Rattle.hare_turns.specs.Stages.{AreTypesOf, IsValueOf}

module _ (s f : Store) (v : IsStore s) (l : IsLater s f) where
  pub stand-later : (ts : List TypedNode) → StandIn s ts → StandIn f ts
  stand-later ts n y u c e = within_stays s f v l u (n y u c e)

  fits-later : MeasuresTheSame s f → (k : Kind) (u : ℕ) → u < length s.rows → FitsAs s k u → FitsAs f k u
  fits-later m k u h fits r e =
      let rows : size_row f k u ≡ size_row s k u = ap (size_row_by k) (row_stays s f v l u h) in
      let small : is_small_at f u ≡ is_small_at s u = ap (λ o. is_small (option_map (λ x. x.size) o)) (m u h) in
      small ∙ fits r (sym rows ∙ e)

  pub fit-later : MeasuresTheSame s f → (ts : List TypedNode) → StandIn s ts → AllFit s ts → AllFit f ts
  fit-later m ts n fits y c u e = fits-later m _ u (n y u c e) (fits y c u e)

  pub types-later : (p : Listing) (ds : List DeclType) (n : ℕ) (t : Node) (ts : List TypedNode) → AreTypesOf p ds s n t ts →
      AreTypesOf p ds f n t ts
  types-later p ds n t ts h = record {
    stand = stand-later ts h.stand;
    typed = λ x k fit. h.typed x (later_trans s f x l k) fit;
    large = λ x i y k first. h.large x i y (later_trans s f x l k) first;
    readable = h.readable;
  }

  pub value-later : (p : Listing) (ds : List DeclType) (n : ℕ) (t : Node) (ts : List TypedNode) (x : TypedNode) →
      IsValueOf p ds s n t ts x →
      IsValueOf p ds f n t ts x
  value-later p ds n t ts x h = record {
    typed = λ g k. h.typed g (later_trans s f g l k);
    rows = λ g k. h.rows g (later_trans s f g l k);
    readable = h.readable;
  }
