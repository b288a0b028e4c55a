-- Two trees with the same tokens are read alike, so they are one.
use Rattle.std.proofs.Common.{◌≡◌, ℕ, List, [], ◌∷◌, ◌++◌, true, ap, sym, ◌∙◌, arith}
use Rattle.hare_tree.specs.declared.form.Sort.{Sort}
use Rattle.hare_tree.specs.Node.{Node, size_of}
use Rattle.hare_tree.specs.Spell.{start_of, sign_token, spell}
use Rattle.hare_tree.specs.Shape.{is_shaped}
use Rattle.hare_automaton.specs.Rows.{of}
use Rattle.hare_automaton.specs.Engine.{begun, add, Outcome, Done, run, bottom}
use Rattle.hare_automaton.specs.OneTree.{plain, is_sort, SortsHaveOneTree}
use Rattle.hare_automaton.proofs.Machine.Steps.{run_done}
use Rattle.hare_automaton.proofs.Machine.Tokens.{class_sign}
use Rattle.hare_automaton.proofs.Machine.Edges.{stops_calm, read_kid}
use Rattle.hare_automaton.proofs.Spelled.Kids.{closer, closer_pull, closer_closes, closer_calm, same_sign}
use Rattle.hare_automaton.proofs.Spelled.Expressions.{reads}

-- a tree is read up to a sign that ends it
pub read_whole : (f : ℕ) (s : Sort) (t : Node) → is_sort s ≡ true → is_shaped s t ≡ true →
    run f (spell f t ++ sign_token f (closer s) ∷ []) (of s ∷ []) bottom ≡ Done (sign_token f (closer s) ∷ []) (add (plain f t) bottom)
read_whole f s t l h =
    let d = closer s in
    let e = class_sign f d in
    let q = closer_calm s in
    read_kid f (size_of t) (reads f (size_of t)) s t (omega arith) l h (sign_token f d ∷ []) [] (begun (start_of 0) []) []
    (rw (e, closer_pull s) (omega arith)) (λ r i. rw (← same_sign d r (sym e ∙ i)) (stops_calm d q.0 q.1 t)) (rw e (closer_closes s))
    ∙ run_done f (sign_token f d) [] (add (plain f t) bottom)

abbrev kids_in : Outcome → List Node
kids_in (Done u (g ∷ gs)) = g.kids
kids_in _ = []

pub sorts_have_one_tree : SortsHaveOneTree
sorts_have_one_tree f s l t t' h h' e =
    let a = read_whole f s t l h in
    let b = read_whole f s t' l h' in
    let x = sign_token f (closer s) in
    let d : run f (spell f t ++ x ∷ []) (of s ∷ []) bottom ≡ run f (spell f t' ++ x ∷ []) (of s ∷ []) bottom =
    ap (λ u. run f (u ++ x ∷ []) (of s ∷ []) bottom) e in
    let k : plain f t ∷ [] ≡ plain f t' ∷ [] = ap kids_in (sym a ∙ d ∙ b) in
    cc
