-- What is known of names, and of what paths mean, stays known as the store grows.
use Rattle.std.proofs.Common.{ℕ, List, Option, Some, None}
use Rattle.std.specs.Prelude.{slice_get}
use Rattle.hare_tree.specs.declared.kind.Kind.{Kind}
use Rattle.hare_tree.specs.declared.kind.Kind.TheVariants as ki
use Rattle.hare_tree.specs.declared.token.Meaning.{Meaning}
use Rattle.hare_tree.specs.declared.token.Meaning.TheVariants as means
use Rattle.hare_types.specs.Store.{Store}
use Rattle.hare_types.specs.Sound.{IsStore}
use Rattle.hare_types.specs.Later.{IsLater}
use Rattle.hare_rules.specs.declared.declared.Local.{Local}
use Rattle.hare_rules.specs.declared.declared.DeclType.{DeclType}
use Rattle.hare_rules.specs.Context.{declaration}
use Rattle.rule_judge.specs.Defined.{IsDefinedName}
use Rattle.rule_judge.specs.Meant.{IsKnownKind, IsKnownDecl, IsKnownLocal, IsMeant}
use Rattle.rule_judge.specs.Settings.{setting_of}
use Rattle.rule_judge.proofs.DefinedLemmas.{defined_stays}

module _ (now later : Store) (v : IsStore now) (l : IsLater now later) where
  pub name_stays : (d : ℕ) → IsDefinedName now d → IsDefinedName later d
  name_stays d (t, e, h) = (t, l.grows.defined d t e, defined_stays now later v l t h)

  kind_stays : (n : ℕ) (d : DeclType) (k : Kind) → IsKnownKind now n d k → IsKnownKind later n d k
  kind_stays n d ki.TypeDecl h = name_stays n h
  kind_stays n d _ h = defined_stays now later v l d.ty h

  decl_stays : (n : ℕ) (o : Option DeclType) → IsKnownDecl now n o → IsKnownDecl later n o
  decl_stays n None h = h
  decl_stays n (Some d) h = kind_stays n d d.kind h

  local_stays : (o : Option Local) → IsKnownLocal now o → IsKnownLocal later o
  local_stays None h = h
  local_stays (Some b) h = defined_stays now later v l b.ty h

  pub meant_stays : (decls : List DeclType) (locals : List Local) (m : Meaning) → IsMeant now decls locals m → IsMeant later decls locals m
  meant_stays decls locals (means.Local n) h = local_stays (slice_get locals n) h
  meant_stays decls locals (means.Decl n) h = decl_stays n (declaration (setting_of now decls) n) h
  meant_stays decls locals (means.Rt n) h = tt
  meant_stays decls locals means.None h = tt
