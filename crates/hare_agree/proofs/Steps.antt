-- What stands over a kid, and what has been seen before and behind a node, where more or less is known of declarations.
use Rattle.std.proofs.Common.{◌≡◌, ℕ, zero, suc, Bool, true, false, List, [], ◌∷◌, ◌++◌, refl, ap}
use Rattle.std.specs.Prelude.{length, cond}
use Rattle.hare_tree.specs.declared.kind.Kind.{Kind}
use Rattle.hare_tree.specs.declared.kind.Kind.TheVariants as ki
use Rattle.hare_tree.specs.declared.token.Meaning.TheVariants as means
use Rattle.hare_tree.specs.Node.{Head, Node, Nodes, head}
use Rattle.hare_typed.specs.Typed.{TypedNode}
use Rattle.hare_rules.specs.declared.declared.DeclType.{DeclType}
use Rattle.hare_rules.specs.declared.hint.Hint.{Hint}
use Rattle.hare_rules.specs.Context.{Setting, Context, Open}
use Rattle.hare_rules.specs.Aggregates.{is_path}
use Rattle.hare_rules.specs.Above.{Above, hint_to, param_at, argument_hint, hint_of, unless_bare, over_kid, first}
use Rattle.hare_rules.specs.Flow.{Flow, is_path_kind, flow_after, flow_with, context, write_each, settled_type, path_meaning, meaning_of}
use Rattle.hare_rules.specs.Settles.{settles_kids}
use Rattle.hare_agree.proofs.Meanings.{knowing, IsKnownAlike, AreTreesAlike, IsTreeAlike-tree_from_front, callee-alike, AreTreesAlike-coat, IsKnownAlike-callee}
use Rattle.hare_agree.proofs.Contexts.{told, looks_up, IsNodeAlike, type_of-alike}

-- ---- over a kid

argument_hint-alike : (ds : List DeclType) (w : Setting) (xs : List TypedNode) (i : ℕ) → AreTreesAlike w (knowing ds w) xs →
    argument_hint (knowing ds w) xs i ≡ argument_hint w xs i
argument_hint-alike ds w xs zero k = refl
argument_hint-alike ds w xs (suc i) k =
    ap (λ o. hint_to (param_at o i)) (callee-alike ds w (first xs) (IsTreeAlike-tree_from_front w (knowing ds w) 0 xs k))

hint_of-alike : (ds : List DeclType) (w : Setting) (h : Head) (own values : Hint) (labels : List Open) (result : ℕ) (xs : List TypedNode)
    (t : Node) (rest : Nodes) (i : Kind) →
    AreTreesAlike w (knowing ds w) xs →
    hint_of (knowing ds w) h own values labels result xs t rest i ≡ hint_of w h own values labels result xs t rest i
hint_of-alike ds w h own values labels result xs t rest ki.Call k = argument_hint-alike ds w xs (length xs) k
hint_of-alike ds w h own values labels result xs t rest _ k = refl

pub over_kid-alike : (ds : List DeclType) (w : Setting) (a : Above) (h : Head) (xs : List TypedNode) (t : Node) (ts : Nodes) →
    AreTreesAlike w (knowing ds w) xs →
    over_kid (knowing ds w) a h xs t ts ≡ over_kid w a h xs t ts
over_kid-alike ds w a h xs t ts k =
    ap (λ x. record (over_kid w a h xs t ts) { hint = unless_bare (head t).kind x })
    (hint_of-alike ds w h a.hint a.values a.inside.labels a.inside.result xs t ts h.kind k)

-- ---- before and behind a node

-- What has been seen before a node, and its context but for the setting, read nothing of declarations: they are the same by computing.

flow_with-alike : (ds : List DeclType) (c : Context) (a : Above) (h : Head) (xs : List TypedNode) (f : Flow) → IsNodeAlike ds c →
    flow_with (told ds c) a h xs f ≡ flow_with c a h xs f
flow_with-alike ds c a h xs f k =
    ap
    (λ o. record (flow_with c a h xs f) { coercions = write_each (settles_kids c) (f.coercions ++ settled_type c o ∷ []) })
    (type_of-alike ds c k)

-- what is known of the declaration that a path means, where it is no written type, is the same
abbrev pub IsHeadAlike : Setting → Setting → Head → Type 0
IsHeadAlike w v h = is_path h.kind ≡ true → IsKnownAlike w v (w.means h.place)

pub IsKnownAlike-meaning_of : (w v : Setting) (h : Head) → is_path h.kind ≡ true → IsHeadAlike w v h → IsKnownAlike w v (meaning_of w h)
IsKnownAlike-meaning_of w v h e k = by_path (is_path_kind h.kind) where
  by_path : (b : Bool) → IsKnownAlike w v (cond b (w.means h.place) means.None)
  by_path true = k e
  by_path false = λ n i. cc

pub context-alike : (ds : List DeclType) (w : Setting) (a : Above) (h : Head) (xs : List TypedNode) (f : Flow) →
    IsHeadAlike w (knowing ds w) h →
    AreTreesAlike w (knowing ds w) xs →
    IsNodeAlike ds (context w a h xs f)
context-alike ds w a h xs f i k =
    record { own = by_kind h.kind refl; kids = AreTreesAlike-coat w (knowing ds w) f.coercions xs k } where
      by_kind : (j : Kind) → h.kind ≡ j → looks_up j ≡ true → IsKnownAlike w (knowing ds w) (path_meaning w h j xs)
      by_kind ki.Path e l = IsKnownAlike-meaning_of w (knowing ds w) h (ap is_path e) i
      by_kind ki.Call e l = IsKnownAlike-callee w (knowing ds w) (first xs) (IsTreeAlike-tree_from_front w (knowing ds w) 0 xs k)
      by_kind _ e l = cc

pub flow_after-alike : (ds : List DeclType) (w : Setting) (a : Above) (h : Head) (xs : List TypedNode) (f : Flow) →
    IsHeadAlike w (knowing ds w) h →
    AreTreesAlike w (knowing ds w) xs →
    flow_after (knowing ds w) a h xs f ≡ flow_after w a h xs f
flow_after-alike ds w a h xs f i k = flow_with-alike ds (context w a h xs f) a h xs f (context-alike ds w a h xs f i k)
