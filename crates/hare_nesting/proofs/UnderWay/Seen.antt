-- The marks of trees under way, as the changes of the grammar's machine leave them.
use Rattle.std.proofs.Common.{◌≡◌, ℕ, List, [], ◌∷◌, map, refl, ap, ◌∙◌}
use Rattle.std.proofs.lemmas.List.{map-append}
use Rattle.hare_tree.specs.declared.kind.Kind.{Kind}
use Rattle.hare_tree.specs.declared.place.Place.{Place}
use Rattle.hare_tree.specs.declared.token.Token.{Token}
use Rattle.hare_tree.specs.Node.{Node, branch, nodes_of}
use Rattle.hare_automaton.specs.declared.rule.Change.{Change}
use Rattle.hare_automaton.specs.declared.rule.Change.TheVariants as ch
use Rattle.hare_automaton.specs.Engine.{Group, head_in, last_kid, but_last, add}
use Rattle.hare_automaton.specs.Engine as engine
use Rattle.hare_nesting.specs.Marks.{Mark, Frame, mark_as, last_mark, but_last_mark, put}
use Rattle.hare_nesting.specs.Marks as seen
use Rattle.hare_nesting.proofs.UnderWay.Stacks.{mark, marks, frames}

pub marks_listed : (ts : List Node) → marks (nodes_of ts) ≡ map mark ts
marks_listed [] = refl
marks_listed (t ∷ ts) = ap (λ l. mark t ∷ l) (marks_listed ts)

pub last_seen : (ts : List Node) → map mark (last_kid ts) ≡ last_mark (map mark ts)
last_seen [] = refl
last_seen (t ∷ []) = refl
last_seen (t ∷ u ∷ ts) = last_seen (u ∷ ts)

pub others_seen : (ts : List Node) → map mark (but_last ts) ≡ but_last_mark (map mark ts)
others_seen [] = refl
others_seen (t ∷ []) = refl
others_seen (t ∷ u ∷ ts) = ap (λ l. mark t ∷ l) (others_seen (u ∷ ts))

pub frames_add : (t : Node) (gs : List Group) → frames (add t gs) ≡ put (mark t) (frames gs)
frames_add t [] = refl
frames_add t (g ∷ gs) = ap (λ l. record { at = g.place.line; kids = l } ∷ frames gs) (map-append mark g.kids (t ∷ []))

-- the mark of a tree that is closed
pub closed_mark : (k : Kind) (g : Group) → mark (branch (head_in k g) (nodes_of g.kids)) ≡ mark_as k g.place.line (map mark g.kids)
closed_mark k g = ap (mark_as k g.place.line) (marks_listed g.kids)

pub frames_close : (k : Kind) (gs : List Group) → frames (engine.close k gs) ≡ seen.close k (frames gs)
frames_close k [] = refl
frames_close k (g ∷ gs) = frames_add (branch (head_in k g) (nodes_of g.kids)) gs ∙ ap (λ m. put m (frames gs)) (closed_mark k g)

pub frames_over : (p : Place) (gs : List Group) → frames (engine.over p gs) ≡ seen.over p.line (frames gs)
frames_over p [] = refl
frames_over p (g ∷ gs) = ap (λ l. record { at = p.line; kids = l } ∷ record { at = g.place.line; kids = map mark (but_last g.kids) } ∷
    frames gs) (last_seen g.kids) ∙ ap (λ l. record { at = p.line; kids = last_mark (map mark g.kids) } ∷
    record { at = g.place.line; kids = l } ∷ frames gs) (others_seen g.kids)

pub frames_lift : (gs : List Group) → frames (engine.lift gs) ≡ seen.lift (frames gs)
frames_lift [] = refl
frames_lift (g ∷ []) = refl
frames_lift (g ∷ h ∷ gs) = ap (λ l. record { at = h.place.line; kids = l } ∷ frames gs) (map-append mark h.kids g.kids)

pub frames_drop : (gs : List Group) → frames (engine.let_go gs) ≡ seen.let_go (frames gs)
frames_drop [] = refl
frames_drop (g ∷ gs) = refl

pub frames_take : (t : Token) (gs : List Group) → frames (engine.take_text t gs) ≡ frames gs
frames_take t [] = refl
frames_take t (g ∷ gs) = refl

pub frames_join : (t : Token) (gs : List Group) → frames (engine.join_text t gs) ≡ frames gs
frames_join t [] = refl
frames_join t (g ∷ gs) = refl

pub frames_changed : (f : ℕ) (t : Token) (d : Change) (gs : List Group) →
    frames (engine.changed f t d gs) ≡ seen.changed t.place.line d (frames gs)
frames_changed f t ch.Absent gs = frames_add _ gs
frames_changed f t (ch.Mark k) gs = frames_add _ gs
frames_changed f t (ch.Leaf k) gs = frames_add _ gs
frames_changed f t ch.Open gs = refl
frames_changed f t ch.Over gs = frames_over t.place gs
frames_changed f t ch.Take gs = frames_take t gs
frames_changed f t ch.Join gs = frames_join t gs
frames_changed f t (ch.Close k) gs = frames_close k gs
frames_changed f t ch.Lift gs = frames_lift gs
frames_changed f t ch.Drop gs = frames_drop gs

pub frames_all_changed : (f : ℕ) (t : Token) (ds : List Change) (gs : List Group) →
    frames (engine.all_changed f t ds gs) ≡ seen.all_changed t.place.line ds (frames gs)
unfolding seen.all_changed
frames_all_changed f t [] gs = refl
frames_all_changed f t (d ∷ ds) gs = frames_all_changed f t ds (engine.changed f t d gs) ∙ ap (λ l. seen.all_changed t.place.line ds l)
    (frames_changed f t d gs)
