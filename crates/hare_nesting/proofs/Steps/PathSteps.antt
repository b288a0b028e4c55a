-- Steps behind a path, which is an expression by itself or begins a struct literal.
use Rattle.std.proofs.Common.{◌≡◌, ℕ, suc, List, [], ◌∷◌, ◌++◌, true, false, ◌&&◌, ◌==◌, map, refl, ap, sym, ◌∙◌, subst, arith}
use Rattle.hare_tree.specs.declared.kind.Kind.TheVariants as ki
use Rattle.hare_tree.specs.declared.form.Sign.TheVariants as si
use Rattle.hare_tree.specs.declared.token.Token.{Token}
use Rattle.hare_automaton.specs.declared.class.Class.{Class}
use Rattle.hare_automaton.specs.declared.class.Class.TheVariants as cl
use Rattle.hare_automaton.specs.declared.rule.Rule.TheVariants as ru
use Rattle.hare_automaton.specs.declared.rule.Symbol.{Symbol}
use Rattle.hare_automaton.specs.declared.rule.Change.{Change}
use Rattle.hare_automaton.specs.declared.rule.Change.TheVariants as ch
use Rattle.hare_automaton.specs.Rows.{Skips, Uses, part, rest_of}
use Rattle.hare_automaton.specs.Table.{row}
use Rattle.hare_automaton.specs.Engine.{Group, close, lift, join_text, all_changed}
use Rattle.hare_automaton.proofs.Spelled.Paths.{split}
use Rattle.hare_nesting.specs.Marks.{Frame, mark_as, put}
use Rattle.hare_nesting.specs.Marks as seen
use Rattle.hare_nesting.specs.Gauge.{nodes_in, found}
use Rattle.hare_nesting.proofs.UnderWay.Stacks.{mark, frame_of, frames, stack_faults, is_empty, is_ordered, all_below, follows, Held}
use Rattle.hare_nesting.proofs.Telling.Claims.{calm_step, Stepped}
use Rattle.hare_nesting.proofs.UnderWay.Lists.{gains_none}
use Rattle.hare_nesting.proofs.UnderWay.Seen.{frames_close, frames_lift, frames_join}
use Rattle.hare_nesting.proofs.UnderWay.Below.{close_below, lift_below}
use Rattle.hare_nesting.proofs.UnderWay.Changes.{join_same}
use Rattle.hare_nesting.proofs.UnderWay.PathEnds.{path_gains, struct_gains}
use Rattle.hare_nesting.proofs.UnderWay.Orders.{path_behind, lifted_path, path_ordered}
use Rattle.hare_nesting.proofs.Steps.Stands.{Stands, stands_next, close_stands}
use Rattle.hare_nesting.proofs.Steps.Tame.{grows_none}
use Rattle.hare_nesting.proofs.UnderWay.Operands.{put_operand}
use Rattle.hare_nesting.proofs.Steps.Ready.{operand_on_top}
use Rattle.hare_nesting.proofs.Steps.Follow.{ready_next, follows_tail, follows_next}
use Rattle.hare_nesting.proofs.Steps.Stepped.{uses_same, skips_same, held_stands, grown_stepped, told_stepped, Skipped}

-- ---- paths

-- the tree of a path, round a tree that may yet be none
record PathTrees (g o : Group) : Type 0 where
  inner : is_empty (map mark g.kids) ≡ true
  outer : is_empty (map mark o.kids) ≡ true
  same : g.place.line ≡ o.place.line

path_trees : (g o : Group) → (is_empty (map mark g.kids) && is_empty (map mark o.kids) && g.place.line == o.place.line) ≡ true →
    PathTrees g o
path_trees g o e =
    let p = split (is_empty (map mark g.kids) && is_empty (map mark o.kids)) (g.place.line == o.place.line) e in
    let q = split (is_empty (map mark g.kids)) (is_empty (map mark o.kids)) p.0 in
    let i = p.1 in
    record { inner = q.0; outer = q.1; same = grind (arith, i) }

-- behind a whole path nothing is left of the tree round it
lifted_frames : (g o h : Group) (hs : List Group) → PathTrees g o →
    frames (lift (close ki.Path (g ∷ o ∷ h ∷ hs))) ≡ put (mark_as ki.Path g.place.line (map mark g.kids)) (frames (h ∷ hs))
lifted_frames g o h hs p = frames_lift (close ki.Path (g ∷ o ∷ h ∷ hs)) ∙ ap seen.lift (frames_close ki.Path (g ∷ o ∷ h ∷ hs)) ∙ lifted_path
    ki.Path (frame_of g) (frame_of o) (frame_of h) (frames hs) p.outer

path_left : (n : ℕ) (st : List Symbol) (gs : List Group) → Held n (part ru.PathOrStruct ∷ st) (frames gs) →
    Skipped n (part ru.PathOrStruct ∷ st) gs st (lift (close ki.Path gs))
unfolding nodes_in
path_left n st [] e = absurd (omega (arith, e.fitting))
path_left n st (g ∷ []) e = absurd (omega (arith, e.fitting))
path_left n st (g ∷ o ∷ []) e = absurd (omega (arith, e.fitting))
path_left n st (g ∷ o ∷ h ∷ hs) e =
    let bs = nodes_in st in
    let s = part ru.PathOrStruct in
    let gs = g ∷ o ∷ h ∷ hs in
    let p = path_trees g o e.readied in
    let whole = mark_as ki.Path g.place.line (map mark g.kids) in
    let i = lifted_frames g o h hs p in
    let j = lifted_path ki.Path (frame_of g) (frame_of o) (frame_of h) (frames hs) p.outer in
    let operand : operand_on_top (put whole (frames (h ∷ hs))) ≡ true =
    put_operand whole (frame_of h) refl (path_behind ki.Path (frame_of g) (frame_of o) (frame_of h) (frames hs) p.inner p.outer p.same
    e.ordered) in
    record {
      held = rw i record {
        fitting = omega (arith, e.fitting);
        ordered = subst (λ l. is_ordered l ≡ true) j
            (path_ordered ki.Path (frame_of g) (frame_of o) (frame_of h) (frames hs) p.inner p.outer p.same e.ordered);
        below = subst (λ l. all_below n l ≡ true) j
            (lift_below n (seen.close ki.Path (frames gs)) (close_below ki.Path n (frames gs) e.below));
        following = follows_tail s st e.following;
        readied = ready_next s st (put whole (frames (h ∷ hs))) refl e.following (λ k. operand);
      };
      gains = path_gains bs g o h hs e.fitting p.inner p.outer p.same e.ordered;
    }

path_over : (c : Class) (cs : List Change) → row ru.PathOrStruct c ≡ Skips cs → cs ≡ ch.Close ki.Path ∷ ch.Lift ∷ []
path_over (cl.Sign si.PathMark) cs e = cc
path_over (cl.Sign si.LeftBrace) cs e = cc
path_over (cl.Sign _) cs e = skips_same cs _ e
path_over _ cs e = skips_same cs _ e

pub path_skipped : (f : ℕ) (t : Token) (c : Class) (cs : List Change) (st : List Symbol) (gs : List Group) →
    row ru.PathOrStruct c ≡ Skips cs → Held t.place.line (part ru.PathOrStruct ∷ st) (frames gs) →
    Skipped t.place.line (part ru.PathOrStruct ∷ st) gs st (all_changed f t cs gs)
path_skipped f t c cs st gs i e = rw (path_over c cs i) (path_left t.place.line st gs e)

-- `::` goes on with the path
further_stepped : (f : ℕ) (t : Token) (c : Class) (st : List Symbol) (gs : List Group) →
    Held t.place.line (part ru.PathOrStruct ∷ st) (frames gs) →
    Stepped t.place.line c (part ru.PathOrStruct ∷ st) gs (part ru.PathName ∷ part ru.PathOrStruct ∷ st) (join_text t gs)
unfolding nodes_in follows
further_stepped f t c st gs e =
    let n = t.place.line in
    let s = part ru.PathOrStruct in
    let bs = nodes_in (s ∷ st) in
    let i = frames_join t gs in
    grown_stepped n c (s ∷ st) (part ru.PathName ∷ s ∷ st) gs (join_text t gs)
    (grows_none n (stack_faults bs gs) (stack_faults bs (join_text t gs)) (found bs (frames (join_text t gs)))
    (gains_none (stack_faults bs gs) (stack_faults bs (join_text t gs)) (sym (join_same t bs gs))))
    (rw i (stands_next n bs (frames gs) (held_stands n (s ∷ st) gs e))) e.following (rw i e.readied)

-- `{` makes the tree round the path a struct literal
struct_stepped : (f : ℕ) (t : Token) (st : List Symbol) (gs : List Group) → Held t.place.line (part ru.PathOrStruct ∷ st) (frames gs) →
    Stepped t.place.line (cl.Sign si.LeftBrace) (part ru.PathOrStruct ∷ st) gs (rest_of 2 ki.StructLit ++ st) (close ki.TypePath gs)
unfolding nodes_in follows calm_step
struct_stepped f t st [] e = absurd (omega (arith, e.fitting))
struct_stepped f t st (g ∷ []) e = absurd (omega (arith, e.fitting))
struct_stepped f t st (g ∷ o ∷ []) e = absurd (omega (arith, e.fitting))
struct_stepped f t st (g ∷ o ∷ h ∷ hs) e =
    let n = t.place.line in
    let s = part ru.PathOrStruct in
    let gs = g ∷ o ∷ h ∷ hs in
    let p = path_trees g o e.readied in
    let y = close_stands n (suc n) ki.TypePath (false ∷ nodes_in st) (frames gs)
    (stands_next n (nodes_in (s ∷ st)) (frames gs) (held_stands n (s ∷ st) gs e)) in
    let z : Stands n (suc n) (true ∷ nodes_in st) (frames (close ki.TypePath gs)) =
    rw (frames_close ki.TypePath gs) record { fitting = y.fitting; ordered = y.ordered; below = y.below; placed = y.placed } in
    told_stepped n (cl.Sign si.LeftBrace) (s ∷ st) (rest_of 2 ki.StructLit ++ st) gs (close ki.TypePath gs)
    (struct_gains (nodes_in st) g o h hs e.fitting p.inner p.outer p.same e.ordered) z
    (follows_next s [] (rest_of 2 ki.StructLit) st refl e.following refl (λ j. refl)) refl (λ j. cc)

data PathUse (c : Class) (cs : List Change) (ss : List Symbol) : Type 0 where
  further : cs ≡ ch.Join ∷ [] → ss ≡ part ru.PathName ∷ part ru.PathOrStruct ∷ [] → PathUse c cs ss
  fields : c ≡ cl.Sign si.LeftBrace → cs ≡ ch.Close ki.TypePath ∷ [] → ss ≡ rest_of 2 ki.StructLit → PathUse c cs ss

path_use : (c : Class) (cs : List Change) (ss : List Symbol) → row ru.PathOrStruct c ≡ Uses cs ss → PathUse c cs ss
path_use (cl.Sign si.PathMark) cs ss e = let u = uses_same cs _ ss _ e in further u.0 u.1
path_use (cl.Sign si.LeftBrace) cs ss e = let u = uses_same cs _ ss _ e in fields refl u.0 u.1
path_use (cl.Sign _) cs ss e = cc
path_use _ cs ss e = cc

pub path_stepped : (f : ℕ) (t : Token) (c : Class) (cs : List Change) (ss st : List Symbol) (gs : List Group) →
    row ru.PathOrStruct c ≡ Uses cs ss → Held t.place.line (part ru.PathOrStruct ∷ st) (frames gs) →
    Stepped t.place.line c (part ru.PathOrStruct ∷ st) gs (ss ++ st) (all_changed f t cs gs)
path_stepped f t c cs ss st gs i e = by (path_use c cs ss i)
  where
    by : PathUse c cs ss → Stepped t.place.line c (part ru.PathOrStruct ∷ st) gs (ss ++ st) (all_changed f t cs gs)
    by (further a b) = rw (a, b) (further_stepped f t c st gs e)
    by (fields d a b) = rw (d, a, b) (struct_stepped f t st gs e)
