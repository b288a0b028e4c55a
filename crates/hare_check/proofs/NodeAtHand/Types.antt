-- What a judge of written types is told of the node at hand.
use Rattle.std.proofs.Common.{◌≡◌, ◌⊎◌, inl, inr, true, List, [], ◌∷◌, refl, sym, ◌∙◌, subst}
use Rattle.hare_tree.specs.declared.kind.Kind.{Kind}
use Rattle.hare_tree.specs.declared.kind.Kind.TheVariants as ki
use Rattle.hare_tree.specs.declared.token.Meaning.TheVariants as means
use Rattle.hare_tree.specs.Levels.{is_type}
use Rattle.hare_tree.specs.Node.{Head, head}
use Rattle.hare_types.specs.Store.{Store}
use Rattle.hare_typed.specs.Order.{tree_from_front}
use Rattle.hare_typed.specs.Typed.{TypedNode, marked}
use Rattle.hare_rules.specs.Context.{Setting, own_type}
use Rattle.hare_rules.specs.Flow.{path_meaning}
use Rattle.rule_judge.specs.Defined.{IsDefinedTy}
use Rattle.rule_types.specs.declared.written.Written.{Written}
use Rattle.rule_types.specs.Contexts.{kind_in}
use Rattle.rule_types.specs.Known.{IsTypeMeant, IsDefinedMeaning, IsToldType, IsDefinedWritten}
use Rattle.hare_check.specs.declared.walker.Walker.{Walker}
use Rattle.hare_check.specs.Keeps.{AreKeptTrees}
use Rattle.hare_check.specs.Nodes.{IsAtNode}
use Rattle.hare_check.proofs.Kept.Relied.{parts-known, trees-defined}
use Rattle.hare_check.proofs.NodeAtHand.Ready.{type-shaped}

pub first-defined : (s : Store) (xs : List TypedNode) → AreKeptTrees s xs → IsDefinedTy s (own_type (tree_from_front 0 xs))
first-defined s [] k = tt
first-defined s (marked h m ts ∷ xs) k = k.0.types.0

-- a written type that is no path means nothing
pub type-meaning : (w : Setting) (h : Head) (xs : List TypedNode) (k : Kind) → h.kind ≡ k → is_type k ≡ true →
    (k ≡ ki.TypePath) ⊎ (path_meaning w h k xs ≡ means.None)
type-meaning w h xs ki.TypePath d e = inl refl
type-meaning w h xs ki.Path d e = cc
type-meaning w h xs ki.Call d e = cc
type-meaning w h xs ki.StructLit d e = cc
type-meaning w h xs _ d e = inr (rw d refl)

pub told-type : (s : Store) (w : Walker) (t : Written) → IsAtNode s w t.node.now t.kids.now → is_type (kind_in t) ≡ true →
    (kind_in t ≡ ki.TypePath → IsTypeMeant s t.meaning) → IsToldType s t
told-type s w t a e m =
    record {
      shaped = type-shaped t.node.now a.part e;
      kids = a.whole;
      parts = parts-known s t.kids.now a.kept;
      meant = m;
      length = λ d. first-defined s t.kids.now a.kept;
    }

pub defined-type : (s : Store) (w : Walker) (v : Setting) (t : Written) (zs : List TypedNode) → IsAtNode s w t.node.now t.kids.now →
    is_type (kind_in t) ≡ true → t.meaning ≡ path_meaning v (head t.node.now) (kind_in t) zs →
    (kind_in t ≡ ki.TypePath → IsDefinedMeaning s t.meaning) → IsDefinedWritten s t
defined-type s w v t zs a e p m =
    record { kids = trees-defined s t.kids.now a.kept; meant = by (type-meaning v (head t.node.now) zs (kind_in t) refl e) }
  where
    by : (kind_in t ≡ ki.TypePath) ⊎ (path_meaning v (head t.node.now) (kind_in t) zs ≡ means.None) → IsDefinedMeaning s t.meaning
    by (inl k) = m k
    by (inr k) = subst (IsDefinedMeaning s) (sym (p ∙ k)) tt
