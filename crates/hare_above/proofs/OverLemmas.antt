-- What stands over the next kid, part by part.
use Rattle.std.proofs.Common.{◌≡◌, ℕ, zero, suc, ◌+◌, Bool, true, false, ◌||◌, List, ◌∷◌, map, drop, length, refl, ap, sym, ◌∙◌}
use Rattle.hare_tree.specs.declared.kind.Kind.{Kind}
use Rattle.hare_tree.specs.declared.kind.Kind.TheVariants as ki
use Rattle.hare_tree.specs.Node.{Head, Node, Nodes, nodes_of, head}
use Rattle.hare_typed.specs.Typed.{TypedNode}
use Rattle.hare_typed.specs.Copies.{is_defer}
use Rattle.hare_rules.specs.declared.hint.Hint.{Hint}
use Rattle.hare_rules.specs.declared.inside.Target.TheVariants as target
use Rattle.hare_rules.specs.Context.{Setting, Open, Role}
use Rattle.hare_rules.specs.Above.{Above, hint_of, unless_bare, labels_by, opened, number_above, role_of, values_under, over_kid}
use Rattle.hare_rules.specs.Finished.{bare}
use Rattle.hare_walk.specs.declared.counts.At.{At}
use Rattle.hare_walk.specs.Counts.{is_labelled, IsAt}
use Rattle.hare_above.specs.declared.asking.Asking.{Asking}
use Rattle.hare_above.specs.Asked.{asked, labels_in}
use Rattle.hare_above.specs.Stands.{Stands, inner}
use Rattle.hare_above.proofs.BareLemmas.{length-bare}

-- what is asked of the kid, of what the walk has in hand
pub asked-is : (w : Setting) (q : Asking) (a : Above) (node t : Node) (xs : List TypedNode) (ts : List Node) → q.own ≡ a.hint →
    q.values ≡ a.values →
    labels_in q ≡ a.inside.labels → q.result ≡ a.inside.result → q.node.now ≡ node → q.done.now ≡ xs → q.kids.now ≡ ts → q.kid.now ≡ t →
    asked w q
    ≡ unless_bare (head t).kind
    (hint_of w (head node) a.hint a.values a.inside.labels a.inside.result (map bare xs) t (nodes_of (drop (length xs + 1) ts))
    (head node).kind)
asked-is w q a node t xs ts e f g h i j k m = rw (e, f, g, h, i, j, k, m) refl

-- a node that is no label makes no use of its number
labels-number : (a : Above) (h : Head) (n m i : ℕ) (k : Kind) → (is_labelled k ≡ true → n ≡ m) → labels_by a h n i k ≡ labels_by a h m i k
labels-number a h n m i ki.For e = ap (λ x. opened a h x target.Loop) (e refl)
labels-number a h n m zero ki.ForEach e = refl
labels-number a h n m (suc i) ki.ForEach e = ap (λ x. opened a h x target.Loop) (e refl)
labels-number a h n m i ki.Block e = ap (λ x. opened a h x target.Block) (e refl)
labels-number a h n m zero ki.Case e = refl
labels-number a h n m (suc i) ki.Case e = ap (λ x. opened a h x target.Case) (e refl)
labels-number a h n m zero ki.SwitchCase e = refl
labels-number a h n m (suc i) ki.SwitchCase e = ap (λ x. opened a h x target.Case) (e refl)
labels-number a h n m i ki.Defer e = refl
labels-number a h n m i _ e = refl

-- of the node's own `inside`, with these labels round the kid
abbrev pub over_by : Above → Bool → List Open → Hint → Hint → Role → (first begins : ℕ) → Above
over_by a d os g v r f c =
    record { hint = g; values = v; inside = record a.inside { labels = os; deferred = d; body = false; role = r }; first = f; begins = c }

over-same : (a : Above) (d : Bool) (os us : List Open) (g h v u : Hint) (r q : Role) (f k c b : ℕ) → os ≡ us → g ≡ h → v ≡ u → r ≡ q →
    f ≡ k → c ≡ b →
    over_by a d os g v r f c ≡ over_by a d us h u q k b
over-same a d os us g h v u r q f k c b e1 e2 e3 e4 e5 e6 = rw (e1, e2, e3, e4, e5, e6) refl

-- what the walk puts over the kid, where each part is as the rules have it
pub over-is : (w : Setting) (a : Above) (h : Head) (xs : List TypedNode) (t : Node) (rest : Nodes) (at : At) (g v : Hint) (r : Role) →
    IsAt a h (map bare xs) t rest at →
    g ≡ unless_bare (head t).kind (hint_of w h a.hint a.values a.inside.labels a.inside.result (map bare xs) t rest h.kind) →
    v ≡ values_under w a h.kind (map bare xs) → r ≡ role_of h.kind (length xs) (head t).kind →
    over_by a (a.inside.deferred || is_defer h.kind) (labels_by a h at.number (length xs) h.kind) g v r at.first at.begins ≡ over_kid w a h
    (map bare xs) t rest
over-is w a h xs t rest at g v r i e k m =
    let place : length xs ≡ length (map bare xs) = sym (length-bare xs) in
    let labels : labels_by a h at.number (length xs) h.kind ≡ labels_by a h (number_above a (map bare xs) t rest) (length (map bare xs))
    h.kind =
    ap (λ j. labels_by a h at.number j h.kind) place
    ∙ labels-number a h at.number (number_above a (map bare xs) t rest) (length (map bare xs)) h.kind i.number in
    over-same a (a.inside.deferred || is_defer h.kind) _ _ g _ v _ r _ at.first _ at.begins _ labels e k
    (m ∙ ap (λ j. role_of h.kind j (head t).kind) place) i.first i.begins

-- as the walk has gone in, and said what stands over the kid
pub stood : (st mid new : Stands) (h : Head) (n i : ℕ) (g v : Hint) (r : Role) (f b : ℕ) → mid ≡ inner st h n i →
    new ≡ record mid {
      above = record mid.above { hint = g; values = v; inside = record mid.above.inside { body = false; role = r }; first = f; begins = b };
    } →
    new ≡ record st {
      above = over_by st.above (st.above.inside.deferred || is_defer h.kind) (labels_by st.above h n i h.kind) g v r f b;
      outer = st.above ∷ st.outer;
    }
stood st mid new h n i g v r f b e k =
    k ∙ ap (λ (m : Stands). record m {
      above = record m.above { hint = g; values = v; inside = record m.above.inside { body = false; role = r }; first = f; begins = b };
    }) e
