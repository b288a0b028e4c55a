-- What a walk relies on of itself stays as the store grows.
use Rattle.std.proofs.Common.{ℕ, List, ◌∷◌, ap}
use Rattle.std.specs.Prelude.{reverse}
use Rattle.hare_tree.specs.declared.kind.Kind.{Kind}
use Rattle.hare_tree.specs.declared.kind.Kind.TheVariants as ki
use Rattle.hare_types.specs.Store.{Store}
use Rattle.hare_types.specs.Sound.{IsStore}
use Rattle.hare_types.specs.Later.{IsLater}
use Rattle.hare_types.proofs.LaterLemmas.{later_here, later_trans}
use Rattle.hare_rules.specs.declared.declared.DeclType.{DeclType}
use Rattle.hare_rules.specs.declared.declared.Local.{Local}
use Rattle.hare_rules.specs.Flow.{Flow}
use Rattle.rule_judge.specs.Defined.{IsDefinedName}
use Rattle.rule_judge.specs.Grown as judged
use Rattle.rule_judge.specs.Meant.{IsKnownKind}
use Rattle.rule_judge.proofs.DefinedLemmas.{defined_stays}
use Rattle.hare_walk.specs.Grown.{IsGrown}
use Rattle.hare_walk.specs.Spots.{Spot}
use Rattle.hare_walk.proofs.Grows.{later-grown}
use Rattle.hare_above.specs.Ready.{IsKnown}
use Rattle.hare_above.specs.Stands.{Stands}
use Rattle.hare_above.proofs.ReadyLemmas.{ready_stays}
use Rattle.hare_find.proofs.YieldsSeen.DefinedTypes.{locals_stay, yielded_stay}
use Rattle.hare_check.specs.Walking.{AreKnownDecls, IsWalking}
use Rattle.hare_check.proofs.Labels.Spots.{spotted-later}

module _ (now later : Store) (v : IsStore now) (l : IsLater now later) where
  name_stays : (d : ℕ) → IsDefinedName now d → IsDefinedName later d
  name_stays d h = (h.0, l.grows.defined d h.0 h.1, defined_stays now later v l h.0 h.2)

  kind_stays : (n : ℕ) (d : DeclType) (k : Kind) → IsKnownKind now n d k → IsKnownKind later n d k
  kind_stays n d ki.TypeDecl h = name_stays n h
  kind_stays n d _ h = defined_stays now later v l d.ty h

  pub known_stays : (ds : List DeclType) → IsKnown now ds → IsKnown later ds
  known_stays ds h =
      record {
        nomem = name_stays _ h.nomem;
        params = λ n i t d e g. defined_stays now later v l t (h.params n i t d e g);
      }

  pub decls_stay : (ds : List DeclType) → AreKnownDecls now ds → AreKnownDecls later ds
  decls_stay ds h = λ n d e. kind_stays n d d.kind (h n d e)

  pub walking-later : (ps : List Spot) (ds : List DeclType) (st : Stands) (f : Flow) (told : List Local) (begun : List ℕ) →
      IsWalking now ps ds st f told begun → IsWalking later ps ds st f told begun
  walking-later ps ds st f told begun h =
      record {
        standing = ready_stays now later v l st h.standing;
        known = known_stays ds h.known;
        decls = decls_stay ds h.decls;
        entries = h.entries;
        locals = locals_stay now later v l told h.locals;
        yields = yielded_stay now later v l f.yields h.yields;
        spots =
            spotted-later now later ps (st.above ∷ st.outer) (reverse begun) f.yields (λ r m. later_trans now later r l m) h.spots;
      }

-- ---- how a store grows

-- a store that has grown in types alone has grown
pub grown-types : (s r : Store) → judged.IsGrown s r → IsGrown s r
grown-types s r g = record { grows = g.grows; declared = ap (λ t. t.declared) g.rest }

-- a sound store that has grown is later
pub grown-later : (s r : Store) → IsStore r → IsGrown s r → IsLater s r
grown-later s r v g = later-grown s r r g (later_here r v)

pub walking-grown : (s r : Store) → IsStore s → IsStore r → IsGrown s r → (ps : List Spot) (ds : List DeclType) (st : Stands) (f : Flow)
    (told : List Local) (begun : List ℕ) → IsWalking s ps ds st f told begun → IsWalking r ps ds st f told begun
walking-grown s r v w g = walking-later s r v (grown-later s r w g)
