-- What is found of the node at hand, whoever finds it.
use Rattle.std.proofs.Common.{◌≡◌, ℕ, suc, arith, true, List, [], ◌∷◌, length, map, refl, ap, sym, ◌∙◌, Some, Result, Ok, Err}
use Rattle.std.specs.Prelude.{nat_eq, IfOk}
use Rattle.std.proofs.lemmas.Bool.{eqb-true}
use Rattle.hare_tree.specs.declared.kind.Kind.{Kind}
use Rattle.hare_tree.specs.declared.kind.Kind.TheVariants as ki
use Rattle.hare_tree.specs.declared.place.Fault.{Fault}
use Rattle.hare_tree.specs.declared.stop.Stop.{Stop}
use Rattle.hare_tree.specs.Node.{Node, head}
use Rattle.hare_tree.specs.Levels.{is_type}
use Rattle.hare_types.specs.declared.coercion.Ty.TheVariants as ty
use Rattle.hare_types.specs.Store.{Store}
use Rattle.hare_types.specs.Sound.{IsStore}
use Rattle.hare_types.proofs.LaterLemmas.{later_here}
use Rattle.hare_typed.specs.Typed.{TypedNode, Mark, typed_nodes}
use Rattle.hare_rules.specs.Context.{Callee, Length}
use Rattle.hare_rules.specs.Flow.{own_settled}
use Rattle.hare_rules.specs.Table.{rows_of}
use Rattle.hare_rules.specs.Types.{type_of}
use Rattle.hare_walk.specs.Grown.{IsGrown}
use Rattle.rule_types.specs.Known.{IsKnown}
use Rattle.hare_find.specs.declared.finding.Finding.{Finding}
use Rattle.hare_find.specs.Findings.{IsFound, IsFoundAt, IsDefinedFinding}
use Rattle.hare_find.specs.Lengths.{is_length}
use Rattle.hare_find.specs.Plain.{is_plain}
use Rattle.hare_find.specs.Settling.{option_in}
use Rattle.hare_check.specs.declared.walker.Walker.{Walker}
use Rattle.hare_check.specs.Nodes.{program_of, above_of, IsAtNode, IsFindingOf, kids_behind}
use Rattle.hare_check.specs.Turned.{context_at}
use Rattle.hare_check.proofs.Kept.Relied.{each_kept-grown}
use Rattle.hare_check.proofs.Kept.Plain.{kept-plain, kept-callee, kept-length, kept-written}

-- what is found of a node in a store, and in it
pub record IsFoundOf (s : Store) (w : Walker) (n : Node) (xs : List TypedNode) (x : Finding) : Type 0 where
  pub found : IsFound (program_of w) s (above_of w) (head n) xs w.seen x
  pub many : length x.kids ≡ length xs
  pub defined : IsDefinedFinding s x

here : (s : Store) (w : Walker) (n : Node) (xs : List TypedNode) (x : Finding) → IsStore s → IsFoundOf s w n xs x →
    IsFoundAt (context_at (program_of w) (above_of w) n xs w.seen s) xs w.seen.coercions x
here s w n xs x v q = q.found s (later_here s v)

-- the mark of the node has the type and the coercion that are found
pub type-found : (s : Store) (w : Walker) (n : Node) (xs : List TypedNode) (x : Finding) (m : Mark) → IsStore s → IsFoundOf s w n xs x →
    m.ty ≡ x.ty → type_of (context_at (program_of w) (above_of w) n xs w.seen s) ≡ Some m.ty
type-found s w n xs x m v q e = let k = here s w n xs x v q in k.type ∙ ap Some (sym e)

pub own-found : (s : Store) (w : Walker) (n : Node) (xs : List TypedNode) (x : Finding) (m : Mark) → IsStore s → IsFoundOf s w n xs x →
    m.ty ≡ x.ty → m.coerce ≡ x.own → own_settled (context_at (program_of w) (above_of w) n xs w.seen s) m.ty ≡ m.coerce
own-found s w n xs x m v q e o =
    let k = here s w n xs x v q in
    ap (own_settled (context_at (program_of w) (above_of w) n xs w.seen s)) e ∙ k.own ∙ sym o

-- ---- nodes without rows

rows-none : (k : Kind) → is_plain k ≡ true → rows_of k ≡ []
rows-none k e = by_list (rows_of k) e where
  by_list : {A : Type 0} (rs : List A) → nat_eq (length rs) 0 ≡ true → rs ≡ []
  by_list [] d = refl
  by_list (r ∷ rs) d = let none = eqb-true (suc (length rs)) 0 d in absurd (omega (arith, none))

plain-no-yield : (k : Kind) → is_plain k ≡ true → ¬ (k ≡ ki.Yield)
plain-no-yield k e d = let f : is_plain ki.Yield ≡ true = ap is_plain (sym d) ∙ e in cc

pub plain-finding : (s r : Store) (w : Walker) (n : Node) (xs : List TypedNode) (x : Finding) → IsStore s → IsStore r → IsGrown s r →
    IsAtNode s w n xs → is_plain (head n).kind ≡ true → IsFoundOf r w n xs x → IsFindingOf r w n xs x
plain-finding s r w n xs x u v g a e q = record {
  found = q.found;
  many = q.many;
  defined = q.defined;
  void = λ d. absurd (plain-no-yield (head n).kind e d);
  kept = λ m t o d.
      kept-plain r n m xs (kids_behind xs x)
      (record {
        sound = v;
        rows = rows-none (head n).kind e;
        part = a.part;
        erased = a.whole;
        kept = each_kept-grown s r u g xs a.kept;
        settled = (map option_in x.kids, refl);
        types = d;
      });
}

-- ---- a path that is called, and a length

length-no-yield : (k : Kind) → is_length k ≡ true → ¬ (k ≡ ki.Yield)
length-no-yield k e d = let f : is_length ki.Yield ≡ true = ap is_length (sym d) ∙ e in cc

path-no-yield : (k : Kind) → k ≡ ki.Path → ¬ (k ≡ ki.Yield)
path-no-yield k e d = length-no-yield k (ap is_length e) d

pub called-finding : (r : Store) (w : Walker) (n : Node) (xs : List TypedNode) (x : Finding) → IsStore r → (head n).kind ≡ ki.Path →
    (above_of w).inside.role ≡ Callee → IsFoundOf r w n xs x → IsFindingOf r w n xs x
called-finding r w n xs x v e role q = record {
  found = q.found;
  many = q.many;
  defined = q.defined;
  void = λ d. absurd (path-no-yield (head n).kind e d);
  kept = λ m t o d.
      kept-callee r (context_at (program_of w) (above_of w) n xs w.seen r) (head n) m (typed_nodes (kids_behind xs x)) e role
      (record { head = refl; type = type-found r w n xs x m v q t; own = own-found r w n xs x m v q t o; types = d });
}

pub length-finding : (r : Store) (w : Walker) (n : Node) (xs : List TypedNode) (x : Finding) → IsStore r → is_length (head n).kind ≡ true →
    (above_of w).inside.role ≡ Length → IsFoundOf r w n xs x → IsFindingOf r w n xs x
length-finding r w n xs x v e role q = record {
  found = q.found;
  many = q.many;
  defined = q.defined;
  void = λ d. absurd (length-no-yield (head n).kind e d);
  kept = λ m t o d.
      kept-length r (context_at (program_of w) (above_of w) n xs w.seen r) (head n) m (typed_nodes (kids_behind xs x)) e role
      (record { head = refl; type = type-found r w n xs x m v q t; own = own-found r w n xs x m v q t o; types = d });
}

-- ---- a written type

type-no-yield : (k : Kind) → is_type k ≡ true → ¬ (k ≡ ki.Yield)
type-no-yield k e d = let f : is_type ki.Yield ≡ true = ap is_type (sym d) ∙ e in cc

pub type-finding : (r : Store) (w : Walker) (n : Node) (xs : List TypedNode) (x : Finding) (u : ℕ) → is_type (head n).kind ≡ true →
    x.ty ≡ ty.Of u → IsKnown r u → IsFoundOf r w n xs x → IsFindingOf r w n xs x
type-finding r w n xs x u e t k q = record {
  found = q.found;
  many = q.many;
  defined = q.defined;
  void = λ d. absurd (type-no-yield (head n).kind e d);
  kept = λ m p o d. kept-written r (head n) m (typed_nodes (kids_behind xs x)) u e (p ∙ t) k d;
}

-- the same of what a judge of written types answers
pub type-answer : (r : Store) (w : Walker) (n : Node) (xs : List TypedNode) (q : Result Finding (Stop Fault)) →
    is_type (head n).kind ≡ true →
    IfOk q (λ x. IsFound (program_of w) r (above_of w) (head n) xs w.seen x) → IfOk q (λ x. length x.kids ≡ length xs) →
    IfOk q (λ x. (u : ℕ) × (x.ty ≡ ty.Of u)) → IfOk q (λ x. (u : ℕ) → x.ty ≡ ty.Of u → IsKnown r u) → IfOk q (λ x. IsDefinedFinding r x) →
    IfOk q (λ x. IsFindingOf r w n xs x)
type-answer r w n xs (Err e) k f m t o d = tt
type-answer r w n xs (Ok x) k f m t o d =
    type-finding r w n xs x t.0 k t.1 (o t.0 t.1) (record { found = f; many = m; defined = d })
