-- The value of a def or a global is an expression.
use Rattle.std.proofs.Common.{◌≡◌, ℕ, List, [], ◌∷◌, true, slice_get, Some, refl, ap, ◌∙◌, subst}
use Rattle.std.specs.Prelude.{◌||◌, IsTrue}
use Rattle.std.proofs.lemmas.Bool.{and_parts}
use Rattle.hare_tree.specs.declared.kind.Kind.{Kind}
use Rattle.hare_tree.specs.declared.kind.Kind.TheVariants as ki
use Rattle.hare_tree.specs.declared.form.Sign.{Sign}
use Rattle.hare_tree.specs.declared.form.Sign.TheVariants as si
use Rattle.hare_tree.specs.declared.form.Sort.{Sort}
use Rattle.hare_tree.specs.declared.form.Sort.TheVariants as sorts
use Rattle.hare_tree.specs.declared.form.Piece.{Piece}
use Rattle.hare_tree.specs.declared.form.Piece.TheVariants as pi
use Rattle.hare_tree.specs.Node.{Head, Node, Nodes, branch, none, more, nodes_of, head}
use Rattle.hare_tree.specs.Forms.{form_of, declared}
use Rattle.hare_tree.specs.Levels.{level, sort_in}
use Rattle.hare_tree.specs.Shape.{is_shaped, is_absent, are_kids, kid_pieces}
use Rattle.hare_tree.proofs.TreeKids.KidSorts.{shaped_kids}
use Rattle.hare_rules.specs.Finished.{expression}
use Rattle.hare_modules.specs.Uses.{listed}
use Rattle.hare_modules.proofs.Trees.{listed-nodes_of}
use Rattle.rule_ctl.specs.Declaring.{declares}

-- the first kid is of the first piece, and those behind it are of those behind
first-kid : (n : ℕ) (s : Sort) (ps : List Piece) (t : Node) (ts : Nodes) → are_kids n (pi.Kid s ∷ ps) (more t ts) ≡ true →
    (is_shaped (sort_in n s) t ≡ true) × (are_kids n ps ts ≡ true)
unfolding are_kids
first-kid n s ps t ts k = and_parts (is_shaped (sort_in n s) t) (are_kids n ps ts) k

behind-optional : (n : ℕ) (s : Sort) (ps : List Piece) (t : Node) (ts : Nodes) → are_kids n (pi.Optional s ∷ ps) (more t ts) ≡ true →
    are_kids n ps ts ≡ true
unfolding are_kids
behind-optional n s ps t ts k = (and_parts (is_absent t || is_shaped s t) (are_kids n ps ts) k).1

behind-led : (n : ℕ) (a : Sign) (s : Sort) (ps : List Piece) (t : Node) (ts : Nodes) → are_kids n (pi.Led a s ∷ ps) (more t ts) ≡ true →
    are_kids n ps ts ≡ true
unfolding are_kids
behind-led n a s ps t ts k = (and_parts (is_absent t || is_shaped s t) (are_kids n ps ts) k).1

-- of the kids of a declaration with a value the one behind three others is an expression
fourth-shaped : (n : ℕ) (w : Sign) (ts : Nodes) (b : Node) → are_kids n (kid_pieces (declared w)) ts ≡ true →
    slice_get (listed ts) 3 ≡ Some b → is_shaped expression b ≡ true
fourth-shaped n w none b k g = absurd cc
fourth-shaped n w (more t none) b k g = absurd cc
fourth-shaped n w (more t (more u none)) b k g = absurd cc
fourth-shaped n w (more t (more u (more v none))) b k g = absurd cc
fourth-shaped n w (more t (more u (more v (more x ts)))) b k g =
    let i : x ≡ b = cc in
    let value : List Piece = pi.Kid expression ∷ [] in
    let type : List Piece = pi.Led si.Colon sorts.Type ∷ value in
    let one = behind-optional n sorts.Export (pi.Kid sorts.Name ∷ type) t (more u (more v (more x ts))) k in
    let two = first-kid n sorts.Name type u (more v (more x ts)) one in
    let three = behind-led n si.Colon sorts.Type value v (more x ts) two.1 in
    subst (λ y. is_shaped expression y ≡ true) i (first-kid n expression [] x ts three).0

-- the form of a declaration with a value
form-declares : (k : Kind) → declares k ≡ true → (w : Sign) × (form_of k ≡ declared w)
form-declares ki.Def e = (si.Def, refl)
form-declares ki.GlobalLet e = (si.Let, refl)
form-declares ki.GlobalConst e = (si.Const, refl)
form-declares _ e = absurd cc

-- the value of a declaration that is shaped is an expression
pub value-shaped : (h : Head) (ts : List Node) (t b : Node) → branch h (nodes_of ts) ≡ t → declares (head t).kind ≡ true →
    IsTrue (is_shaped sorts.Decl t) → slice_get ts 3 ≡ Some b → IsTrue (is_shaped expression b)
value-shaped h ts t b e k s g =
    let form = form-declares h.kind (ap (λ u. declares (head u).kind) e ∙ k) in
    let shaped : is_shaped sorts.Decl (branch h (nodes_of ts)) ≡ true = ap (is_shaped sorts.Decl) e ∙ s in
    let kids = shaped_kids sorts.Decl h (nodes_of ts) shaped in
    fourth-shaped (level h.kind h.text) form.0 (nodes_of ts) b
    (subst (λ x. are_kids (level h.kind h.text) (kid_pieces x) (nodes_of ts) ≡ true) form.1 kids)
    (ap (λ us. slice_get us 3) (listed-nodes_of ts) ∙ g)
