-- What a judge of declarations is told of a node, and what its answer says of it.
use Rattle.std.proofs.Common.{◌≡◌, ℕ, true, List, [], Option, sym, ◌∙◌, subst}
use Rattle.hare_tree.specs.declared.form.Sort.TheVariants as sorts
use Rattle.hare_tree.specs.declared.place.Fault.{Fault}
use Rattle.hare_tree.specs.declared.place.Place.{Place}
use Rattle.hare_tree.specs.declared.stop.Stop.{Stop}
use Rattle.hare_tree.specs.declared.stop.Stop.TheVariants.{Fault as Refused, Memory}
use Rattle.hare_tree.specs.Node.{Node, head, kids_of}
use Rattle.hare_tree.specs.Shape.{is_shaped}
use Rattle.hare_types.specs.Store.{Store}
use Rattle.hare_types.specs.Sound.{IsStore}
use Rattle.hare_types.specs.Later.{IsLater}
use Rattle.hare_typed.specs.Typed.{TypedNode, typed_nodes}
use Rattle.hare_typed.specs.Erased.{erase_each}
use Rattle.hare_tree.specs.declared.token.Meaning.TheVariants as means
use Rattle.hare_rules.specs.declared.declared.DeclType.{DeclType}
use Rattle.hare_rules.specs.declared.declared.Local.{Local}
use Rattle.hare_rules.specs.declared.judged.Case.{Case}
use Rattle.hare_rules.specs.declared.judged.Verdict.{Verdict}
use Rattle.hare_rules.specs.Context.{Setting}
use Rattle.rule_ctl.specs.Declaring.{declares, IsInconstantNode}
use Rattle.rule_judge.specs.Defined.{AreDefinedTrees}
use Rattle.rule_judge.specs.Told.{IsToldNode, IsJudgedNode, IsStoppedNode}
use Rattle.rule_judge.proofs.DefinedLemmas.{trees_stay}
use Rattle.hare_bindings.specs.Own.{case_of, IsPlaceAmong, MeetsRows, IsRowsStop}
use Rattle.hare_bindings.proofs.ToldOfNode.Rows.{first_same, fails_at, absent_value, place_is}

-- ---- what is told

-- the node is told with its kids
pub told_node : (now later : Store) → IsStore now → IsLater now later → (t : Node) (xs : List TypedNode) (own r : ℕ) (c : Case) →
    c ≡ case_of own r → is_shaped sorts.Decl t ≡ true → erase_each (typed_nodes xs) ≡ kids_of t → AreDefinedTrees now (typed_nodes xs) →
    IsToldNode later c t xs
told_node now later v l t xs own r c e shaped kids types =
    let told : IsToldNode later (case_of own r) t xs
    = record {
      shaped = (sorts.Decl, shaped);
      kids = kids;
      types = trees_stay now later v l (typed_nodes xs) types;
      hint = tt;
      yields = tt;
    } in
    subst (λ (x : Case). IsToldNode later x t xs) (sym e) told

module _ (P : List DeclType → List Local → Case → Type 0) (ds : List DeclType) (ls : List Local) (c d : Case) where
  -- nothing is known of declarations and bindings, and this is the case
  onto : ds ≡ [] → ls ≡ [] → c ≡ d → P ds ls c → P [] [] d
  onto e f g p = subst (λ (x : Case). P [] [] x) g (subst (λ (x : List Local). P [] x c) f (subst (λ (x : List DeclType). P x ls c) e p))

  from : ds ≡ [] → ls ≡ [] → c ≡ d → P [] [] d → P ds ls c
  from e f g p =
      subst (λ (x : List DeclType). P x ls c) (sym e)
      (subst (λ (x : List Local). P [] x c) (sym f) (subst (λ (x : Case). P [] [] x) (sym g) p))

module _ (own r : ℕ) (t : Node) (xs : List TypedNode) (declared : declares (head t).kind ≡ true) where
  module _ (s : Store) (o : Option Place) (p : IsPlaceAmong s own xs o) where
    place_here : IsInconstantNode s [] [] (case_of own r) (head t) xs o
    place_here f l e =
        let w : Setting = record { store = f; decls = []; means = λ q. means.None } in
        p (absent_value w own r xs (head t) (head t).kind declared e) f l ∙ place_is w own r xs (head t) (head t).kind declared

    -- where the value is not constant is told right
    pub place_told : (ds : List DeclType) (ls : List Local) (c : Case) → ds ≡ [] → ls ≡ [] → c ≡ case_of own r →
        IsInconstantNode s ds ls c (head t) xs o
    place_told ds ls c e f g = from (λ x y z. IsInconstantNode s x y z (head t) xs o) ds ls c (case_of own r) e f g place_here

  -- ---- the answer

  module _ (s : Store) (ds : List DeclType) (ls : List Local) (c : Case) (e : ds ≡ []) (f : ls ≡ []) (g : c ≡ case_of own r) where
    -- what is judged meets its rows
    pub meets : (v : Verdict) → IsJudgedNode s ds ls c t xs v → MeetsRows s own t xs
    meets v j w l =
        let here = onto (λ x y z. IsJudgedNode s x y z t xs v) ds ls c (case_of own r) e f g j in
        sym (first_same w own r xs (head t) (head t).kind declared) ∙ (here w.store l).rows

    -- what is refused fails one
    pub stops : (q : Stop Fault) → IsStoppedNode s ds ls c t xs q → IsRowsStop s own t xs q
    stops Memory j = tt
    stops (Refused y) j =
        let here = onto (λ x y' z. IsStoppedNode s x y' z t xs (Refused y)) ds ls c (case_of own r) e f g j in
        λ w l. fails_at w own r xs (head t) y declared (here w.store l)
