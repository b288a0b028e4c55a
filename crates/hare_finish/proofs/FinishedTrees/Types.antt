-- The finished tree of a type declaration.
use Rattle.std.proofs.Common.{◌≡◌, ℕ, List, [], ◌∷◌, sym, ap, ◌∙◌, subst, arith, refl, Some}
use Rattle.std.specs.Prelude.{Option, Contains}
use Rattle.std.proofs.lemmas.List.Elements.{Contains-append_left}
use Rattle.hare_tree.specs.declared.kind.Kind.TheVariants as ki
use Rattle.hare_tree.specs.Node.{Node, branch, none, more, head}
use Rattle.hare_types.specs.declared.row.Scalar.TheVariants as keyword
use Rattle.hare_types.specs.Store.{Store}
use Rattle.hare_typed.specs.Typed.{TypedNode, marked, typed_nodes}
use Rattle.hare_typed.specs.Erased.{erase}
use Rattle.hare_typed.specs.Numbers.{kind_of}
use Rattle.hare_typed.specs.Order.{tree_from_front}
use Rattle.hare_rules.specs.Context.{Setting, Ordinary}
use Rattle.hare_rules.specs.Words.{word_id}
use Rattle.hare_modules.specs.Uses.{kid}
use Rattle.hare_depends.specs.Sorts.{sort_of, sort_by}
use Rattle.hare_whole.specs.Listing.{written_by}
use Rattle.hare_whole.specs.Parts.{known_by, type_known}
use Rattle.hare_whole.specs.Declared.{unnumbered, IsWellTypeDecl, IsWellBy}
use Rattle.hare_whole.specs.Turns.{AreTyped, IsTyped, known_by_types}
use Rattle.hare_finish.specs.Finished.{IsFinished, said_by_value, said_by_parts}
use Rattle.hare_finish.specs.Made.{plain_as, IsVoid, IsDeclaration, IsTypeMade}
use Rattle.hare_finish.proofs.PutTogether.PlainNodes.{void_plain, plain_as-IsPlain, erase-plain_as, three-kids}
use Rattle.hare_finish.proofs.PutTogether.Copies.{erase-unnumbered}
use Rattle.hare_finish.proofs.PutTogether.WrittenTypes.{one-typed, unnumbered-well}

-- of a type declaration the type is written
pub type-typed : (w : Setting) (n : ℕ) (t : Node) (ts : List TypedNode) → (head t).kind ≡ ki.TypeDecl →
    AreTyped w n (written_by (sort_of t) t) ts → (x : TypedNode) × (ts ≡ x ∷ []) × IsTyped w n (Ordinary, kid t 2) x
type-typed w n t ts k h = one-typed w n (Ordinary, kid t 2) ts (subst (λ j. AreTyped w n (written_by (sort_by j t) t) ts) k h)

-- with the other kids it is the untyped tree
pub type-erases : (v : ℕ) (t : Node) (x d : TypedNode) → IsDeclaration v t (unnumbered x ∷ []) d → erase x ≡ kid t 2 → erase d ≡ t
type-erases v t x d m e =
    let a = erase (plain_as v (kid t 1)) in
    let y = erase (unnumbered x) in
    ap erase m.is
    ∙ ap (λ u. branch (head t) (more u (more a (more y none)))) (erase-plain_as v (kid t 0) m.export_leaf)
    ∙ ap (λ u. branch (head t) (more (kid t 0) (more u (more y none)))) (erase-plain_as v (kid t 1) m.name_leaf)
    ∙ ap (λ u. branch (head t) (more (kid t 0) (more (kid t 1) (more u none)))) (erase-unnumbered x ∙ e)
    ∙ three-kids t m.count

pub type-well : (w : Setting) (n v : ℕ) (t : Node) (x d : TypedNode) → word_id w.store keyword.Void ≡ Some v →
    IsDeclaration v t (unnumbered x ∷ []) d → IsTyped w n (Ordinary, kid t 2) x → IsWellTypeDecl w n d
type-well w n v t x d e m h =
    let us : List TypedNode = plain_as v (kid t 0) ∷ plain_as v (kid t 1) ∷ unnumbered x ∷ [] in
    subst (IsWellTypeDecl w n) (sym m.is) (record {
      export_is = plain_as v (kid t 0);
      name = plain_as v (kid t 1);
      type = unnumbered x;
      shape = ap (λ k. marked (head t) k (typed_nodes us)) (sym (void_plain w v 0 e));
      plain_export = plain_as-IsPlain w v (kid t 0) e;
      plain_name = plain_as-IsPlain w v (kid t 1) e;
      well_type = unnumbered-well w n Ordinary (kid t 2) x h;
    })

pub type-known : (w : Setting) (n : ℕ) (t : Node) (ts : List TypedNode) (o : Option TypedNode) (d : TypedNode) →
    (head t).kind ≡ ki.TypeDecl → kind_of d ≡ ki.TypeDecl → Contains (said_by_parts w n t ts o) (known_by w.store n (kind_of d) d)
type-known w n t ts o d k e =
    let x = known_by w.store n (kind_of d) d in
    Contains-append_left (known_by_types w.store n (head t).kind (sort_of t) ts) (said_by_value w n t ts o) x
    (subst (λ j. Contains (known_by_types w.store n (head t).kind (sort_by j t) ts) x) (sym k)
    (subst (λ j. Contains (type_known w.store n ∷ []) (known_by w.store n j d)) (sym e) (0, omega arith, refl)))

-- the tree that is made of a type declaration is finished
pub type-finished : (s : Store) (v : ℕ) (t : Node) (ts : List TypedNode) (o b : Option TypedNode) (d : TypedNode) → IsVoid s v →
    (head t).kind ≡ ki.TypeDecl → IsTypeMade v t ts d → IsFinished s t ts o b d
type-finished s v t ts o b d z k m w n l p =
    let e = z w.store l in
    let q = type-typed w n t ts k p.types in
    let x = q.0 in
    let y : IsDeclaration v t (unnumbered x ∷ []) d = subst (λ us. IsDeclaration v t (unnumbered (tree_from_front 0 us) ∷ []) d) q.1 m in
    let j : kind_of d ≡ ki.TypeDecl = ap kind_of m.is ∙ k in
    record {
      erases = type-erases v t x d y q.2.erases;
      well = subst (λ i. IsWellBy w n i d) (sym j) (type-well w n v t x d e y q.2);
      known = type-known w n t ts o d k j;
    }
