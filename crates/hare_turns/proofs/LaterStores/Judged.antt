-- What has been judged stays so in later stores, and so does a stage.
use Rattle.std.proofs.Common.{ℕ, List, sym, ◌∙◌}
use Rattle.hare_tree.specs.Node.{Node}
use Rattle.hare_types.specs.declared.row.Row.TheVariants as row
use Rattle.hare_types.specs.declared.row.Scalar.TheVariants as keyword
use Rattle.hare_types.specs.Store.{Store}
use Rattle.hare_types.specs.Sound.{IsStore}
use Rattle.hare_types.specs.Later.{IsLater, TypesStay}
use Rattle.hare_typed.specs.Typed.{TypedNode}
use Rattle.hare_seen.specs.Laws.{BytesFollowDefinitions}
use Rattle.hare_rules.specs.declared.declared.DeclType.{DeclType}
use Rattle.hare_rules.specs.Words.{nomem}
use Rattle.hare_whole.specs.Listing.{Listing, IsDeclared, DefinesNomem}
use Rattle.hare_whole.specs.Turns.{seen}
use Rattle.hare_turns.specs.Stages.{AreTypesOf, IsValueOf}
use Rattle.hare_turns.specs.Laws.{DeclaresTheSame, EndsAreSeen, StagesStay}
use Rattle.hare_turns.specs.Ends.{BodiesStop}
use Rattle.hare_turns.proofs.LaterStores.Stores.{IsLater-trans}
use Rattle.hare_turns.proofs.LaterStores.Sizes.{StandIn-later, AllFit-later}

-- ---- in later stores

pub AreTypesOf-later : (p : Listing) (ds : List DeclType) (s f : Store) → IsLater s f → (m : ℕ) (t : Node) (ts : List TypedNode) →
    AreTypesOf p ds s m t ts → AreTypesOf p ds f m t ts
AreTypesOf-later p ds s f l m t ts h = record {
  stand = StandIn-later s f l ts h.stand;
  typed = λ x k fit. h.typed x (IsLater-trans s f x l k) fit;
  large = λ x i y k first. h.large x i y (IsLater-trans s f x l k) first;
  readable = h.readable;
}

pub IsValueOf-later : (p : Listing) (ds : List DeclType) (s f : Store) → IsLater s f → (m : ℕ) (t : Node) (ts : List TypedNode)
    (v : TypedNode) → IsValueOf p ds s m t ts v → IsValueOf p ds f m t ts v
IsValueOf-later p ds s f l m t ts v h = record {
  typed = λ x k. h.typed x (IsLater-trans s f x l k);
  rows = λ x k. h.rows x (IsLater-trans s f x l k);
  readable = h.readable;
}

pub IsDeclared-later : (p : Listing) (s r : Store) → IsStore r → DeclaresTheSame s r → IsDeclared s p → IsDeclared r p
IsDeclared-later p s r v e h = record {
  sound = v;
  sized = λ n t d i u. e n ∙ h.sized n t d i u;
  unsized = λ n t d i u. e n ∙ h.unsized n t d i u;
  no_other = λ n b i. h.no_other n b (sym (e n) ∙ i);
}

pub DefinesNomem-later : TypesStay → (s r : Store) → IsStore s → IsLater s r → DefinesNomem s → DefinesNomem r
DefinesNomem-later stay s r v l (e, i, d, a, b) =
    let k = stay s r v l in (e, i, l.grows.defined nomem e d, k.row e (row.Error i) a, k.row i (row.Scalar keyword.Void) b)

-- ---- stages

pub stages_stay : TypesStay → BytesFollowDefinitions → StagesStay
stages_stay stay bytes p s r g vs h k = record {
  sound = k.sound;
  declared = IsDeclared-later p s r k.sound k.declared h.declared;
  nomem = DefinesNomem-later stay s r h.sound k.later h.nomem;
  only = λ d t e. h.only d t (sym (k.same d) ∙ e);
  done = λ n t c d i. k.same n ∙ h.done n t c d i;
  there = h.there;
  types = λ m t ts c d. AreTypesOf-later p g.known s r k.later m t ts (h.types m t ts c d);
  fit = λ m ts c. let d = h.there m ts c in
      AllFit-later stay s r h.sound k.later (bytes s r h.sound k.later k.same) ts (h.types m d.0 ts c d.1).stand (h.fit m ts c);
  values = λ m t v c d. IsValueOf-later p g.known s r k.later m t _ v (h.values m t v c d);
}

-- ---- bodies

pub bodies_stop : StagesStay → EndsAreSeen → BodiesStop
bodies_stop stays ends p s r l g vs f all k first e =
    let at = ends p r l g vs (stays p s r g vs all.stage k) e in
    record {
      stage = g;
      judged = all.judged l (record { later = IsLater-trans s r l k.later e.later; final = e.final });
      decl = first.decl;
      tree = first.tree;
      is_there = first.is_there;
      function = first.function;
      fault = first.fault (seen l g.done) at.later;
      before = λ n t lt d i. let x = first.before n t lt d i in
          record { tree = x.0; erases = x.1.erases; well = x.1.well (seen l g.done) at.later };
    }
