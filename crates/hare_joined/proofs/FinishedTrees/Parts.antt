-- One declaration with its parts, over all that is known in the end of judging.
use Rattle.std.proofs.Common.{◌≡◌, ℕ, true, List, [], length, Option, Some, None, inl, inr, refl, sym, subst}
use Rattle.std.specs.Prelude.{Contains, IsSome, slice_get}
use Rattle.std.proofs.lemmas.List.Elements.{Contains-append_cases}
use Rattle.hare_tree.specs.Node.{Node, head}
use Rattle.hare_graph.proofs.Elements.{Contains-here, Contains-none}
use Rattle.hare_types.specs.Store.{Store}
use Rattle.hare_types.specs.Later.{IsLater}
use Rattle.hare_typed.specs.Typed.{TypedNode}
use Rattle.hare_typed.specs.Order.{tree_from_front, backwards}
use Rattle.hare_typed.specs.Numbers.{kind_of}
use Rattle.hare_rules.specs.declared.declared.DeclType.{DeclType}
use Rattle.hare_rules.specs.Aggregates.{but_last}
use Rattle.hare_rules.specs.Rows.{first_failing}
use Rattle.hare_rules.specs.Finished.{IsWell}
use Rattle.hare_modules.specs.Uses.{kid}
use Rattle.hare_depends.specs.declared.said.Sort.{Sort}
use Rattle.hare_depends.specs.declared.said.Sort.TheVariants as so
use Rattle.hare_depends.specs.Sorts.{sort_of, has_value}
use Rattle.hare_whole.specs.Listing.{Listing, IsDecl, written_types}
use Rattle.hare_whole.specs.Parts.{function_known, known_by}
use Rattle.hare_whole.specs.Declared.{over_body, before_body}
use Rattle.hare_whole.specs.Turns.{Stage, typed_at, AreTyped, IsTypedValue, context_of, type_or_plain, known_by_types, known_by_value, params_in, result_in}
use Rattle.hare_turns.specs.Stages.{IsEnd, over, known_of}
use Rattle.hare_turns.specs.Ends.{AreJudgedTo, IsBodyOf}
use Rattle.hare_turns.specs.Judged.{IsJudgedOver}
use Rattle.hare_turns.specs.Known.{IsKnownAs}
use Rattle.hare_finish.specs.Finished.{IsValued, IsBodyBy, HasBody, ArePartsOf, said_by_value, said_by_parts}
use Rattle.hare_declarations.specs.declared.parts.Parts.{Parts}
use Rattle.hare_declarations.specs.Judged.{AreParts}
use Rattle.hare_joined.proofs.FinishedTrees.Numbered.{IsFinishedAs, AreEach}

-- ---- the premises

-- All declarations have been judged with the first store, all bodies with the second and all trees finished with the third; the checking
-- ends with the last.
pub record AreJoined (p : Listing) (s r f l : Store) (g : Stage) (vs : List (ℕ × TypedNode)) (qs : List Parts) (ds : List TypedNode)
    : Type 0 where
  pub judged : AreJudgedTo p s g vs
  pub known_as : IsKnownAs p s g vs
  pub parts : AreParts p g vs qs
  pub each : AreEach p g.known r f 0 p.decls qs ds
  pub end : IsEnd p s l
  pub behind_bodies : IsLater r l
  pub behind_trees : IsLater f l

-- ---- one declaration

-- a declaration with its parts
pub record IsPartOf (p : Listing) (l : Store) (g : Stage) (vs : List (ℕ × TypedNode)) (qs : List Parts) (n : ℕ) (t : Node) (q : Parts)
    : Type 0 where
  pub is_there : IsDecl p n t
  pub has_parts : slice_get qs n ≡ Some q
  pub over_end : IsJudgedOver p l g vs n t

module _ (p : Listing) (s r f l : Store) (g : Stage) (vs : List (ℕ × TypedNode)) (qs : List Parts) (ds : List TypedNode)
    (h : AreJoined p s r f l g vs qs ds) (n : ℕ) (t : Node) (q : Parts) (k : IsPartOf p l g vs qs n t q) where
  typed_are : typed_at g n ≡ q.types
  typed_are = h.parts.at n q k.has_parts

  -- the value
  valued-by : (o : Option TypedNode) → q.value ≡ o → IsSome o → IsValued (over p g.known l) n t q.types o
  valued-by None e i = absurd cc
  valued-by (Some v) e i =
      let c = h.parts.value n q v k.has_parts e in
      subst
      (λ ts. IsTypedValue (over p g.known l) n t ts v × (first_failing (context_of (over p g.known l) n t ts v) ≡ None))
      typed_are
      (k.over_end.value v c, k.over_end.rows v c)

  valued : has_value (sort_of t) ≡ true → IsValued (over p g.known l) n t q.types q.value
  valued e = valued-by q.value refl (h.parts.valued n t q k.is_there k.has_parts e)

  -- the body
  abbrev said_of_function : DeclType
  said_of_function = function_known n (but_last q.types) (tree_from_front 0 (backwards q.types))

  function-known : sort_of t ≡ so.Function → known_of g.known n ≡ Some said_of_function
  function-known e =
      h.known_as.types l n t q.types said_of_function h.end (h.parts.types n q k.has_parts) k.is_there
      (subst (λ (x : Sort). Contains (known_by_types l n (head t).kind x q.types) said_of_function) (sym e)
      (Contains-here said_of_function []))

  body-by : (b : TypedNode) → sort_of t ≡ so.Function → IsBodyOf p g.known r n t b → IsBodyBy (over p g.known l) n t said_of_function b
  body-by b e i = (
    i.erases,
    subst
        (λ o. IsWell (over p g.known l) (over_body n (result_in o) (length (params_in o))) (before_body (params_in o) (kid t 4)) b)
        (function-known e)
        (i.well l h.behind_bodies),
  )

  has_body : (d : TypedNode) (own : IsFinishedAs p g.known r f n t q d) → sort_of t ≡ so.Function →
      HasBody (over p g.known l) n t q.types own.body
  has_body d own e =
      let b = own.is_body e in subst (λ o. HasBody (over p g.known l) n t q.types o) (sym b.1) (body-by b.0 e b.2)

  -- all parts
  pub parts_are : (d : TypedNode) (own : IsFinishedAs p g.known r f n t q d) → ArePartsOf (over p g.known l) n t q.types q.value own.body
  parts_are d own = record {
    types = subst (λ ts. AreTyped (over p g.known l) n (written_types t) ts) typed_are k.over_end.types;
    value = valued;
    body = has_body d own;
  }

  -- what is said of it is known of it
  by_value : (o : Option TypedNode) → q.value ≡ o → (x : DeclType) → Contains (said_by_value (over p g.known l) n t q.types o) x →
      known_of g.known n ≡ Some x
  by_value None e x c = absurd (Contains-none x c)
  by_value (Some v) e x c =
      h.known_as.values l (over p g.known l) n t v x h.end (h.parts.value n q v k.has_parts e) k.is_there
      (subst
      (λ ts. Contains (known_by_value l n (head t).kind (sort_of t) (type_or_plain (over p g.known l) (kid t 2) ts) v) x)
      (sym typed_are)
      c)

  by_parts : (x : DeclType) → Contains (said_by_parts (over p g.known l) n t q.types q.value) x → known_of g.known n ≡ Some x
  by_parts x c =
      let by_types = known_by_types l n (head t).kind (sort_of t) q.types in
      elim (Contains-append_cases by_types (said_by_value (over p g.known l) n t q.types q.value) x c) [
        | inl a ↦ h.known_as.types l n t q.types x h.end (h.parts.types n q k.has_parts) k.is_there a
        | inr b ↦ by_value q.value refl x b
      ]

  pub known_is : (d : TypedNode) → IsFinishedAs p g.known r f n t q d → known_of g.known n ≡ Some (known_by l n (kind_of d) d)
  known_is d own =
      by_parts (known_by l n (kind_of d) d) (own.finished (over p g.known l) n h.behind_trees (parts_are d own)).known
