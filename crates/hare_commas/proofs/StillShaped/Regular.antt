-- Shaped trees have lists and cases with the kids of their forms.
use Rattle.std.proofs.Common.{◌≡◌, ℕ, List, [], ◌∷◌, inl, inr, true, false, refl, ◌⊎◌}
use Rattle.std.proofs.lemmas.Bool.{and_parts}
use Rattle.hare_tree.specs.declared.kind.Kind.{Kind}
use Rattle.hare_tree.specs.declared.kind.Kind.TheVariants as ki
use Rattle.hare_tree.specs.declared.form.Sign.{Sign}
use Rattle.hare_tree.specs.declared.form.Sort.{Sort}
use Rattle.hare_tree.specs.declared.form.Sort.TheVariants as so
use Rattle.hare_tree.specs.declared.form.Piece.TheVariants as pi
use Rattle.hare_tree.specs.Node.{Node, Nodes, branch, none, more, head}
use Rattle.hare_tree.specs.Forms.{form_of}
use Rattle.hare_tree.specs.Levels.{level, admits}
use Rattle.hare_tree.specs.Shape.{is_shaped, are_kids, is_none, is_leaf, is_absent, is_none_or_comma, kid_pieces}
use Rattle.hare_tree.specs.Spell.{stands_alone}
use Rattle.hare_tree.specs.Judged.{nodes_from}
use Rattle.hare_tree.proofs.TreeKids.KidSorts.{shaped_kids}
use Rattle.hare_tree.proofs.TreeKids.ShapedKids.{AllShaped, shaped_admits, kids_of_shaped}
use Rattle.hare_ways.specs.Breaks.{is_list, is_case}
use Rattle.hare_commas.proofs.WaysAgain.ListForms.{list_kids, IsOpen, EndsOpen, TakeSigns, IsRegular, AreRegular}

false-true : {A : Type 0} → false ≡ true → A
false-true h = cc

-- ---- the last kid of a list

open-kind : (k : Kind) → is_none_or_comma k ≡ true → (k ≡ ki.None) ⊎ (k ≡ ki.TrailingComma)
open-kind ki.None e = inl refl
open-kind ki.TrailingComma e = inr refl
open-kind _ e = false-true e

none-kind : (k : Kind) → is_none k ≡ true → k ≡ ki.None
none-kind ki.None e = refl
none-kind _ e = false-true e

leaf-open : (t : Node) → is_leaf is_none_or_comma t ≡ true → IsOpen t
leaf-open (branch h none) e = open-kind h.kind (and_parts _ _ e).0
leaf-open (branch h (more t ts)) e = false-true e

absent-open : (t : Node) → is_absent t ≡ true → IsOpen t
absent-open (branch h none) e = inl (none-kind h.kind (and_parts _ _ e).0)
absent-open (branch h (more t ts)) e = false-true e

more-open : (n : ℕ) (s : Sort) (ts : Nodes) → are_kids n (pi.More s ∷ []) ts ≡ true → EndsOpen ts
unfolding is_shaped
more-open n s none e = false-true e
more-open n s (more t none) e = leaf-open t e
more-open n s (more t (more u ts)) e = more-open n s (more u ts) (and_parts _ _ e).1

listed-open : (n : ℕ) (s : Sort) (ts : Nodes) → are_kids n (pi.List s ∷ []) ts ≡ true → EndsOpen ts
unfolding is_shaped
listed-open n s none e = false-true e
listed-open n s (more t none) e = absent-open t e
listed-open n s (more t (more u ts)) e = more-open n s (more u ts) (and_parts _ _ e).1

later-open : (n : ℕ) (s : Sort) (ts : Nodes) → are_kids n (pi.MoreElements s ∷ []) ts ≡ true → EndsOpen ts
unfolding is_shaped
later-open n s none e = false-true e
later-open n s (more t none) e = false-true e
later-open n s (more t (more u none)) e = leaf-open u (and_parts _ _ e).1
later-open n s (more t (more u (more v ts))) e = later-open n s (more u (more v ts)) (and_parts _ _ e).1

elements-open : (n : ℕ) (s : Sort) (ts : Nodes) → are_kids n (pi.Elements s ∷ []) ts ≡ true → EndsOpen ts
unfolding is_shaped
elements-open n s none e = false-true e
elements-open n s (more t none) e = false-true e
elements-open n s (more t (more u none)) e = absent-open u (and_parts _ _ e).1
elements-open n s (more t (more u (more v ts))) e = later-open n s (more u (more v ts)) (and_parts _ _ e).1

-- behind one kid, and behind two
one-more : (n : ℕ) (r s : Sort) (ts : Nodes) → are_kids n (pi.Kid r ∷ pi.More s ∷ []) ts ≡ true → EndsOpen (nodes_from 1 ts)
unfolding is_shaped
one-more n r s none e = false-true e
one-more n r s (more t ts) e = more-open n s ts (and_parts _ _ e).1

two-more : (n : ℕ) (q r s : Sort) (ts : Nodes) → are_kids n (pi.Kid q ∷ pi.Kid r ∷ pi.More s ∷ []) ts ≡ true
    → EndsOpen (nodes_from 1 (nodes_from 1 ts))
unfolding is_shaped
two-more n q r s none e = false-true e
two-more n q r s (more t ts) e = one-more n r s ts (and_parts _ _ e).1

one-listed : (n : ℕ) (r s : Sort) (ts : Nodes) → are_kids n (pi.Kid r ∷ pi.List s ∷ []) ts ≡ true → EndsOpen (nodes_from 1 ts)
unfolding is_shaped
one-listed n r s none e = false-true e
one-listed n r s (more t ts) e = listed-open n s ts (and_parts _ _ e).1

list-open : (k : Kind) (n : ℕ) (ts : Nodes) → is_list k ≡ true → are_kids n (kid_pieces (form_of k)) ts ≡ true → EndsOpen (list_kids k ts)
list-open ki.Params n ts l e = listed-open n _ ts e
list-open ki.Call n ts l e = one-listed n _ _ ts e
list-open ki.StructLit n ts l e = two-more n _ _ _ ts e
list-open ki.Tuple n ts l e = two-more n _ _ _ ts e
list-open ki.TypeTuple n ts l e = two-more n _ _ _ ts e
list-open ki.Array n ts l e = elements-open n _ ts e
list-open ki.UseNames n ts l e = two-more n _ _ _ ts e
list-open ki.TypeStruct n ts l e = one-more n _ _ ts e
list-open _ n ts l e = false-true l

-- ---- the statements of a case

statement-kind : (k : Kind) (x : List ℕ) → admits so.Statement k x ≡ true → stands_alone k ≡ false
statement-kind ki.None x e = false-true e
statement-kind ki.TrailingComma x e = false-true e
statement-kind ki.Dots x e = false-true e
statement-kind _ x e = refl

statement-signs : (t : Node) → is_shaped so.Statement t ≡ true → stands_alone (head t).kind ≡ false
statement-signs (branch h ts) e = statement-kind h.kind h.text (shaped_admits so.Statement h ts e)

statements-sign : (n : ℕ) (c : Sign) (ts : Nodes) → are_kids n (pi.EachFollowed so.Statement c ∷ []) ts ≡ true → TakeSigns ts
unfolding is_shaped
statements-sign n c none e = tt
statements-sign n c (more t ts) e = (statement-signs t (and_parts _ _ e).0, statements-sign n c ts (and_parts _ _ e).1)

behind-optional : (n : ℕ) (s : Sort) (c : Sign) (ts : Nodes)
    → are_kids n (pi.Optional s ∷ pi.EachFollowed so.Statement c ∷ []) ts ≡ true → TakeSigns (nodes_from 1 ts)
unfolding is_shaped
behind-optional n s c none e = false-true e
behind-optional n s c (more t ts) e = statements-sign n c ts (and_parts _ _ e).1

case-signs : (k : Kind) (n : ℕ) (ts : Nodes) → is_case k ≡ true → are_kids n (kid_pieces (form_of k)) ts ≡ true →
    TakeSigns (nodes_from 1 ts)
case-signs ki.Case n ts c e = behind-optional n _ _ ts e
case-signs ki.SwitchCase n ts c e = behind-optional n _ _ ts e
case-signs _ n ts c e = false-true c

-- ---- trees

mutual
  pub shaped-regular : (s : Sort) (t : Node) → is_shaped s t ≡ true → IsRegular t
  shaped-regular s (branch h ts) e = (
    λ l. list-open h.kind (level h.kind h.text) ts l (shaped_kids s h ts e),
    λ c. case-signs h.kind (level h.kind h.text) ts c
        (shaped_kids s h ts e),
    kids-regular ts (kids_of_shaped s h ts e).shaped,
  )

  kids-regular : (ts : Nodes) → AllShaped ts → AreRegular ts
  kids-regular none a = tt
  kids-regular (more t ts) a = (shaped-regular a.0.0 t a.0.1, kids-regular ts a.1)
