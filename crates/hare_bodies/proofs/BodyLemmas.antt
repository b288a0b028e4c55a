-- The body of one function: that it is an expression, and what the checker says of it.
use Rattle.std.proofs.Common.{◌≡◌, ℕ, List, [], ◌∷◌, true, length, slice_get, Some, sym, ap, ◌∙◌, subst}
use Rattle.std.specs.Prelude.{◌||◌, Result, Ok, Err, IfOk, IfErr}
use Rattle.std.proofs.lemmas.Bool.{and_parts}
use Rattle.hare_tree.specs.declared.kind.Kind.TheVariants as ki
use Rattle.hare_tree.specs.declared.form.Sort.{Sort}
use Rattle.hare_tree.specs.declared.form.Sort.TheVariants as sorts
use Rattle.hare_tree.specs.declared.form.Piece.{Piece}
use Rattle.hare_tree.specs.declared.form.Piece.TheVariants as pi
use Rattle.hare_tree.specs.declared.place.Fault.{Fault}
use Rattle.hare_tree.specs.declared.place.Place.{Place}
use Rattle.hare_tree.specs.declared.stop.Stop.{Stop}
use Rattle.hare_tree.specs.declared.stop.Stop.TheVariants.{Fault as Refused, Memory}
use Rattle.hare_tree.specs.declared.token.Meaning.{Meaning}
use Rattle.hare_tree.specs.Node.{Head, Node, Nodes, branch, none, more, nodes_of, head}
use Rattle.hare_tree.specs.Forms.{form_of}
use Rattle.hare_tree.specs.Levels.{level, sort_in}
use Rattle.hare_tree.specs.Shape.{is_shaped, is_absent, are_kids, kid_pieces}
use Rattle.hare_tree.proofs.TreeKids.KidSorts.{shaped_kids}
use Rattle.hare_types.specs.Store.{Store}
use Rattle.hare_types.specs.Sound.{IsStore}
use Rattle.hare_types.proofs.LaterLemmas.{later_here}
use Rattle.hare_typed.specs.Typed.{TypedNode}
use Rattle.hare_rules.specs.declared.declared.DeclType.{DeclType}
use Rattle.hare_rules.specs.Finished.{expression, IsWell, FailsIn}
use Rattle.hare_modules.specs.Uses.{listed, kid}
use Rattle.hare_modules.proofs.Trees.{listed-nodes_of}
use Rattle.hare_whole.specs.Declared.{over_body, before_body}
use Rattle.hare_whole.specs.Turns.{params_in, result_in}
use Rattle.hare_turns.specs.Stages.{known_of}
use Rattle.hare_walk.specs.Walks.{IsTheTreeLater, IsAnswerLater}
use Rattle.hare_check.specs.Walking.{program_over}
use Rattle.hare_bodies.specs.Functions.{IsTreeOf, IsStopOf}

-- ---- its shape

-- the first kid is of the first piece, and those behind it are of those behind
first-kid : (n : ℕ) (s : Sort) (ps : List Piece) (t : Node) (ts : Nodes) → are_kids n (pi.Kid s ∷ ps) (more t ts) ≡ true →
    (is_shaped (sort_in n s) t ≡ true) × (are_kids n ps ts ≡ true)
unfolding are_kids
first-kid n s ps t ts k = and_parts (is_shaped (sort_in n s) t) (are_kids n ps ts) k

behind-first : (n : ℕ) (s : Sort) (ps : List Piece) (t : Node) (ts : Nodes) → are_kids n (pi.Optional s ∷ ps) (more t ts) ≡ true →
    are_kids n ps ts ≡ true
unfolding are_kids
behind-first n s ps t ts k = (and_parts (is_absent t || is_shaped s t) (are_kids n ps ts) k).1

-- of the kids of a function the one behind four others is an expression
fifth-shaped : (n : ℕ) (ts : Nodes) (b : Node) → are_kids n (kid_pieces (form_of ki.Fn)) ts ≡ true → slice_get (listed ts) 4 ≡ Some b →
    is_shaped expression b ≡ true
fifth-shaped n none b k g = absurd cc
fifth-shaped n (more t none) b k g = absurd cc
fifth-shaped n (more t (more u none)) b k g = absurd cc
fifth-shaped n (more t (more u (more v none))) b k g = absurd cc
fifth-shaped n (more t (more u (more v (more w none)))) b k g = absurd cc
fifth-shaped n (more t (more u (more v (more w (more x ts))))) b k g =
    let i : x ≡ b = cc in
    let last : List Piece = pi.Kid expression ∷ [] in
    let type : List Piece = pi.Kid sorts.Type ∷ last in
    let params : List Piece = pi.Kid sorts.Params ∷ type in
    let one = behind-first n sorts.Export (pi.Kid sorts.Name ∷ params) t (more u (more v (more w (more x ts)))) k in
    let two = first-kid n sorts.Name params u (more v (more w (more x ts))) one in
    let three = first-kid n sorts.Params type v (more w (more x ts)) two.1 in
    let four = first-kid n sorts.Type last w (more x ts) three.1 in
    subst (λ y. is_shaped expression y ≡ true) i (first-kid n expression [] x ts four.1).0

-- the body of a function that is shaped is an expression
pub body-shaped : (h : Head) (ts : List Node) (t b : Node) → branch h (nodes_of ts) ≡ t → (head t).kind ≡ ki.Fn →
    is_shaped sorts.Decl t ≡ true →
    slice_get ts 4 ≡ Some b → is_shaped expression b ≡ true
body-shaped h ts t b e k s g =
    let kind : h.kind ≡ ki.Fn = ap (λ u. (head u).kind) e ∙ k in
    let shaped : is_shaped sorts.Decl (branch h (nodes_of ts)) ≡ true = ap (is_shaped sorts.Decl) e ∙ s in
    let kids = shaped_kids sorts.Decl h (nodes_of ts) shaped in
    fifth-shaped (level h.kind h.text) (nodes_of ts) b
    (subst (λ j. are_kids (level h.kind h.text) (kid_pieces (form_of j)) (nodes_of ts) ≡ true) kind kids)
    (ap (λ us. slice_get us 4) (listed-nodes_of ts) ∙ g)

-- ---- what the checker says of it

module _ (names : List (Place × Meaning)) (ds : List DeclType) (s : Store) (n : ℕ) (t b : Node) (e : b ≡ kid t 4) where
  abbrev result : ℕ
  result = result_in (known_of ds n)

  abbrev params : List ℕ
  params = params_in (known_of ds n)

  -- its tree is that of the body of the function
  pub tree-of : IsStore s → (x : TypedNode)
      → IsTheTreeLater (program_over names ds) s (over_body n result (length params)) (before_body params b) b x → IsTreeOf names ds s n t x
  tree-of v x h = λ p m. record {
    erases = (h s (later_here s v)).erases ∙ e;
    well = λ f l.
        subst (λ k. IsWell (record { store = f; decls = ds; means = p.means }) (over_body n result (length params)) (before_body params k)
        x) e
        (subst (λ q. IsWell (record { store = f; decls = ds; means = q }) (over_body n result (length params)) (before_body params b) x)
        (sym m)
        (h f l).well);
  }

  -- its first fault is that of the body of the function
  pub stop-of : (q : Stop Fault) → IsAnswerLater (program_over names ds) s (over_body n result (length params)) (before_body params b) b q →
      IsStopOf names ds s n t q
  stop-of Memory h = tt
  stop-of (Refused f) h = λ p m r l.
      let w = h r l in (
        w.row,
        w.at,
        subst (λ k. FailsIn (record { store = r; decls = ds; means = p.means }) (over_body n result (length params)) k
            (before_body params k) w.row w.at) e
            (subst (λ q. FailsIn (record { store = r; decls = ds; means = q }) (over_body n result (length params)) b (before_body params b)
            w.row w.at) (sym m)
            w.fails),
        w.is,
      )

  pub trees-of : IsStore s → (r : Result TypedNode (Stop Fault))
      → IfOk r (IsTheTreeLater (program_over names ds) s (over_body n result (length params)) (before_body params b) b) →
      IfOk r (IsTreeOf names ds s n t)
  trees-of v (Ok x) h = tree-of v x h
  trees-of v (Err q) h = tt

  pub stops-of : (r : Result TypedNode (Stop Fault))
      → IfErr r (IsAnswerLater (program_over names ds) s (over_body n result (length params)) (before_body params b) b) →
      IfErr r (IsStopOf names ds s n t)
  stops-of (Ok x) h = tt
  stops-of (Err q) h = stop-of q h
