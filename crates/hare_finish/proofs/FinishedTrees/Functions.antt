-- The finished tree of a function.
use Rattle.std.proofs.Common.{◌≡◌, ℕ, List, [], ◌∷◌, ◌++◌, length, map, false, sym, ap, ◌∙◌, subst, arith, Some}
use Rattle.std.specs.Prelude.{Option, Contains}
use Rattle.std.proofs.lemmas.List.Elements.{Contains-append_left}
use Rattle.hare_tree.specs.declared.kind.Kind.TheVariants as ki
use Rattle.hare_tree.specs.Node.{Node, branch, none, more, head}
use Rattle.hare_types.specs.declared.row.Scalar.TheVariants as keyword
use Rattle.hare_types.specs.Store.{Store}
use Rattle.hare_typed.specs.declared.constant.Const.TheVariants as constant
use Rattle.hare_typed.specs.Typed.{TypedNode, marked, typed_nodes}
use Rattle.hare_typed.specs.Erased.{erase, erase_each}
use Rattle.hare_typed.specs.Numbers.{kind_of, params_among}
use Rattle.hare_typed.specs.Order.{tree_from_front, backwards}
use Rattle.hare_rules.specs.Aggregates.{but_last}
use Rattle.hare_rules.specs.Context.{Setting, Ordinary}
use Rattle.hare_rules.specs.Words.{word_id}
use Rattle.hare_rules.specs.Above.{trees_in}
use Rattle.hare_rules.specs.Finished.{IsWell}
use Rattle.hare_modules.specs.Uses.{kid, kids}
use Rattle.hare_depends.specs.Sorts.{sort_of, sort_by}
use Rattle.hare_whole.specs.Listing.{written_by}
use Rattle.hare_whole.specs.Parts.{known_by, known_as, function_known, written_id, type_of_param}
use Rattle.hare_whole.specs.Declared.{unnumbered, plain_mark, over_body, before_body, IsWellFunction, IsWellBy}
use Rattle.hare_whole.specs.Turns.{AreTyped, IsTyped, known_by_types}
use Rattle.hare_finish.specs.Finished.{IsBodyBy, IsFinished, said_by_value}
use Rattle.hare_finish.specs.Made.{void_mark, plain_as, parts_as, params_as, last_tree, IsVoid, IsDeclaration, IsFunctionMade}
use Rattle.hare_finish.proofs.OneByOne.Lists.{but_last-append, last-append, map-map}
use Rattle.hare_finish.proofs.PutTogether.PlainNodes.{void_plain, plain_as-IsPlain, erase-plain_as, five-kids, branch-kids}
use Rattle.hare_finish.proofs.PutTogether.Copies.{erase-unnumbered, written_id-unnumbered}
use Rattle.hare_finish.proofs.PutTogether.WrittenTypes.{IsSplit, typed-split, unnumbered-well}
use Rattle.hare_finish.proofs.FinishedTrees.Parameters.{types_in, ArePartsWell, parts-well}

-- the tree of all parameters, of these parts
abbrev params_of : (void : ℕ) → Node → List TypedNode → TypedNode
params_of v t ps = marked (head t) (void_mark v 0) (typed_nodes ps)

module _ (w : Setting) (n v : ℕ) (t : Node) (void : word_id w.store keyword.Void ≡ Some v) (us ps : List TypedNode) (x b d : TypedNode)
    (m : IsDeclaration v t (params_of v (kid t 2) ps ∷ unnumbered x ∷ b ∷ []) d) (result : IsTyped w n (Ordinary, kid t 3) x)
    (parts : ArePartsWell w n (trees_in (erase b)) (kids (kid t 2)) us ps)
    (body : IsBodyBy w n t (function_known n us x) b) where
  -- the parts are the untyped tree
  function-erases : erase d ≡ t
  function-erases =
      let q = branch (head (kid t 2)) (erase_each (typed_nodes ps)) in
      let y = erase (unnumbered x) in
      let z = erase b in
      let a = erase (plain_as v (kid t 1)) in
      ap erase m.is
      ∙ ap (λ u. branch (head t) (more u (more a (more q (more y (more z none)))))) (erase-plain_as v (kid t 0) m.export_leaf)
      ∙ ap (λ u. branch (head t) (more (kid t 0) (more u (more q (more y (more z none)))))) (erase-plain_as v (kid t 1) m.name_leaf)
      ∙ ap (λ u. branch (head t) (more (kid t 0) (more (kid t 1) (more u (more y (more z none))))))
      (ap (branch (head (kid t 2))) parts.erases ∙ branch-kids (kid t 2))
      ∙ ap (λ u. branch (head t) (more (kid t 0) (more (kid t 1) (more (kid t 2) (more u (more z none))))))
      (erase-unnumbered x ∙ result.erases)
      ∙ ap (λ u. branch (head t) (more (kid t 0) (more (kid t 1) (more (kid t 2) (more (kid t 3) (more u none)))))) body.0
      ∙ five-kids t m.count

  function-well : IsWellFunction w n d
  function-well =
      let xs : List TypedNode = plain_as v (kid t 0) ∷ plain_as v (kid t 1) ∷ params_of v (kid t 2) ps ∷ unnumbered x ∷ b ∷ [] in
      let mark = void_plain w v 0 void in
      let ids = map (λ p. written_id (type_of_param p)) (params_among (typed_nodes ps)) in
      subst (IsWellFunction w n) (sym m.is) (record {
        export_is = plain_as v (kid t 0);
        name = plain_as v (kid t 1);
        params = ps;
        params_head = head (kid t 2);
        result = unnumbered x;
        body = b;
        shape =
            ap (λ k. marked (head t) k (typed_nodes xs)) (sym mark)
            ∙ ap (λ k. marked (head t) (plain_mark w 0) (typed_nodes (plain_as v (kid t 0) ∷ plain_as v (kid t 1)
            ∷ marked (head (kid t 2)) k (typed_nodes ps) ∷ unnumbered x ∷ b ∷ []))) (sym mark);
        plain_export = plain_as-IsPlain w v (kid t 0) void;
        plain_name = plain_as-IsPlain w v (kid t 1) void;
        well_params = parts.well;
        well_result = unnumbered-well w n Ordinary (kid t 3) x result;
        well_body =
            subst (λ i. IsWell w (over_body n i (length ids)) (before_body ids (erase b)) b) (sym (written_id-unnumbered x))
            (subst (λ is. IsWell w (over_body n (written_id x) (length is)) (before_body is (erase b)) b) (sym parts.ids)
            (subst (λ u. IsWell w (over_body n (written_id x) (length (map written_id us))) (before_body (map written_id us) u) b)
            (sym body.0)
            body.1));
      })

  -- what is known by it is what its types say
  function-known : known_by w.store n ki.Fn d ≡ function_known n us x
  function-known =
      let qs = params_among (typed_nodes ps) in
      ap (known_by w.store n ki.Fn) m.is
      ∙ ap (λ i. known_as n ki.Fn i (map written_id (map type_of_param qs)) false constant.Absent) (written_id-unnumbered x)
      ∙ ap (λ is. known_as n ki.Fn (written_id x) is false constant.Absent) (map-map type_of_param written_id qs ∙ parts.ids)

-- of a function the types of its parameters are written, and then that of its result
function-typed : (w : Setting) (n : ℕ) (t : Node) (ts : List TypedNode) → (head t).kind ≡ ki.Fn →
    AreTyped w n (written_by (sort_of t) t) ts → IsSplit w n (types_in (kids (kid t 2))) (Ordinary, kid t 3) ts
function-typed w n t ts k h =
    typed-split w n (types_in (kids (kid t 2))) (Ordinary, kid t 3) ts (subst (λ j. AreTyped w n (written_by (sort_by j t) t) ts) k h)

-- the tree that is made of a function is finished
pub function-finished : (s : Store) (v : ℕ) (t : Node) (ts : List TypedNode) (o : Option TypedNode) (b d : TypedNode) → IsVoid s v →
    (head t).kind ≡ ki.Fn → IsFunctionMade v t ts b d → IsFinished s t ts o (Some b) d
function-finished s v t ts o b d z k m w n l p =
    let void = z w.store l in
    let q = function-typed w n t ts k p.types in
    let us = q.others in
    let x = q.last in
    let count = trees_in (erase b) in
    let ps = parts_as v count (kids (kid t 2)) (us ++ x ∷ []) in
    let parts = parts-well w n v void (kids (kid t 2)) (x ∷ []) m.shaped count us q.typed in
    let made : IsDeclaration v t (params_of v (kid t 2) ps ∷ unnumbered x ∷ b ∷ []) d =
    subst (λ y. IsDeclaration v t (params_of v (kid t 2) ps ∷ unnumbered y ∷ b ∷ []) d) (last-append us x)
    (subst (λ ys. IsDeclaration v t (params_as v count (kid t 2) ys ∷ unnumbered (last_tree ys) ∷ b ∷ []) d) q.is m.declaration) in
    let known : function_known n (but_last ts) (tree_from_front 0 (backwards ts)) ≡ function_known n us x =
    ap (λ ys. function_known n (but_last ys) (tree_from_front 0 (backwards ys))) q.is
    ∙ ap (λ y. function_known n (but_last (us ++ x ∷ [])) y) (last-append us x)
    ∙ ap (λ ys. function_known n ys x) (but_last-append us x) in
    let body : IsBodyBy w n t (function_known n us x) b = subst (λ y. IsBodyBy w n t y b) known (p.body (ap (λ j. sort_by j t) k)) in
    let j : kind_of d ≡ ki.Fn = ap kind_of m.declaration.is ∙ k in
    record {
      erases = function-erases w n v t void us ps x b d made q.last_typed parts body;
      well = subst (λ i. IsWellBy w n i d) (sym j) (function-well w n v t void us ps x b d made q.last_typed parts body);
      known =
          Contains-append_left (known_by_types w.store n (head t).kind (sort_of t) ts) (said_by_value w n t ts o)
          (known_by w.store n (kind_of d) d)
          (subst (λ i. Contains (known_by_types w.store n (head t).kind (sort_by i t) ts) (known_by w.store n (kind_of d) d)) (sym k)
          (subst (λ i. Contains (function_known n (but_last ts) (tree_from_front 0 (backwards ts)) ∷ []) (known_by w.store n i d)) (sym j)
          (0, omega arith, known ∙ sym (function-known w n v t void us ps x b d made q.last_typed parts body))));
    }
