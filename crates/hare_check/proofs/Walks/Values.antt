-- A walk before the value of a declaration.
use Rattle.std.proofs.Common.{◌≡◌, ℕ, false, List, [], ◌∷◌, length, refl, ap, sym, Some, Result, Ok, Err}
use Rattle.std.specs.Prelude.{replicate, slice_get, find, nat_eq, IfOk, IfErr}
use Rattle.hare_tree.specs.declared.kind.Kind.{Kind}
use Rattle.hare_tree.specs.declared.place.Fault.{Fault}
use Rattle.hare_tree.specs.declared.place.Place.{Place}
use Rattle.hare_tree.specs.declared.stop.Stop.{Stop}
use Rattle.hare_tree.specs.declared.token.Meaning.{Meaning}
use Rattle.hare_tree.specs.Node.{Node}
use Rattle.hare_typed.specs.Typed.{TypedNode}
use Rattle.hare_types.specs.Store.{Store}
use Rattle.hare_types.specs.Later.{IsLater}
use Rattle.hare_types.specs.declared.row.Scalar.TheVariants as keyword
use Rattle.hare_rules.specs.declared.declared.DeclType.{DeclType}
use Rattle.hare_rules.specs.declared.declared.Local.{Local}
use Rattle.hare_rules.specs.declared.hint.Hint.{Hint}
use Rattle.hare_rules.specs.Above.{Above}
use Rattle.hare_rules.specs.Context.{Setting, Later, DeclaredValue}
use Rattle.hare_rules.specs.Finished.{IsTheTree}
use Rattle.hare_rules.specs.Flow.{Flow, flow_at}
use Rattle.hare_rules.specs.Words.{word_id}
use Rattle.rule_judge.specs.Defined.{IsDefined, IsDefinedHint}
use Rattle.hare_walk.specs.Spots.{spot}
use Rattle.hare_walk.specs.Walks.{IsAnswer, IsTheTreeLater, IsAnswerLater}
use Rattle.hare_above.specs.Ready.{IsKnown}
use Rattle.hare_above.specs.Stands.{start}
use Rattle.hare_whole.specs.Declared.{over_value, over_body, before_body}
use Rattle.hare_whole.specs.Parts.{id_or_zero}
use Rattle.hare_whole.specs.Turns.{params_in, result_in}
use Rattle.hare_check.specs.Walking.{program_over, AreKnownDecls, IsWalking}
use Rattle.hare_check.proofs.Labels.Spots.{spotted-start}
use Rattle.hare_check.proofs.Walks.Steps.{begun-told, begun-defined}

-- What a walk begins with, over a value that is asked for this, where this type stands for what is returned.
pub record IsBegunValue (s : Store) (ds : List DeclType) (ty : ℕ) (h : Hint) : Type 0 where
  pub known : IsKnown s ds
  pub decls : AreKnownDecls s ds
  pub returned : IsDefined s ty
  pub hint : IsDefinedHint s h

no-types : (s : Store) (i t : ℕ) → slice_get [] i ≡ Some t → IsDefined s t
no-types s i t e = absurd cc

pub value-start : (s : Store) (k : Kind) (ds : List DeclType) (own never : ℕ) (h : Hint) (n : ℕ) → IsBegunValue s ds never h →
    IsWalking s (spot k 0 ∷ []) ds (start own never false DeclaredValue h 0) (flow_at (replicate n Later))
    (replicate n (record { ty = never; mutable = false })) (0 ∷ [])
value-start s k ds own never h n b =
    let l : Local = record { ty = never; mutable = false } in
    record {
      standing = record { above = record { hint = b.hint; values = tt; result = b.returned; labels = tt }; outer = tt };
      known = b.known;
      decls = b.decls;
      entries = begun-told [] n l refl;
      locals = begun-defined s [] n l b.returned (no-types s);
      yields = tt;
      spots = spotted-start s k (start own never false DeclaredValue h 0).above;
    }

-- what stands over a value, where this is `never`
pub over-value : (w : Setting) (own never : ℕ) (h : Hint) → word_id w.store keyword.Never ≡ Some never →
    (start own never false DeclaredValue h 0).above ≡ over_value w own h
over-value w own never h e = ap (λ o. (start own (id_or_zero o) false DeclaredValue h 0).above) (sym e)

-- ---- an answer by what is known of a walk

-- what a walk knows of a program, of what stands over a tree, and of what has been seen is what the tree is judged by
pub record IsJudgedBy (ns ms : List (Place × Meaning)) (ds es : List DeclType) (a b : Above) (f g : Flow) : Type 0 where
  pub names : ms ≡ ns
  pub decls : es ≡ ds
  pub above : b ≡ a
  pub flow : g ≡ f

pub judged-tree : (s : Store) (t : Node) (ns ms : List (Place × Meaning)) (ds es : List DeclType) (a b : Above) (f g : Flow)
    (x : TypedNode) → IsJudgedBy ns ms ds es a b f g → IsTheTree (program_over ms es s) b g t x → IsTheTree (program_over ns ds s) a f t x
judged-tree s t ns ms ds es a b f g x q h = rw (sym q.names, sym q.decls, sym q.above, sym q.flow) h

pub judged-answer : (s : Store) (t : Node) (ns ms : List (Place × Meaning)) (ds es : List DeclType) (a b : Above) (f g : Flow)
    (x : Stop Fault) → IsJudgedBy ns ms ds es a b f g → IsAnswer (program_over ms es s) b g t x → IsAnswer (program_over ns ds s) a f t x
judged-answer s t ns ms ds es a b f g x q h = rw (sym q.names, sym q.decls, sym q.above, sym q.flow) h

-- ---- the same of a whole answer, over each later store

-- a walk's answer, where what stands over the tree may be told by the store
pub judged-trees : (s : Store) (t : Node) (ns ms : List (Place × Meaning)) (ds es : List DeclType) (a : Store → Above) (b : Above)
    (f g : Flow) (r : Result TypedNode (Stop Fault)) → ((l : Store) → IsLater s l → IsJudgedBy ns ms ds es (a l) b f g) →
    IfOk r (IsTheTreeLater (program_over ms es) s b g t) →
    IfOk r (λ x. (l : Store) → IsLater s l → IsTheTree (program_over ns ds l) (a l) f t x)
judged-trees s t ns ms ds es a b f g (Ok x) q h = λ l k. judged-tree l t ns ms ds es (a l) b f g x (q l k) (h l k)
judged-trees s t ns ms ds es a b f g (Err e) q h = tt

pub judged-answers : (s : Store) (t : Node) (ns ms : List (Place × Meaning)) (ds es : List DeclType) (a : Store → Above) (b : Above)
    (f g : Flow) (r : Result TypedNode (Stop Fault)) → ((l : Store) → IsLater s l → IsJudgedBy ns ms ds es (a l) b f g) →
    IfErr r (IsAnswerLater (program_over ms es) s b g t) →
    IfErr r (λ e. (l : Store) → IsLater s l → IsAnswer (program_over ns ds l) (a l) f t e)
judged-answers s t ns ms ds es a b f g (Ok x) q h = tt
judged-answers s t ns ms ds es a b f g (Err e) q h = λ l k. judged-answer l t ns ms ds es (a l) b f g e (q l k) (h l k)

-- what stands over the body of a function that is known
pub over-body : (ds : List DeclType) (own : ℕ) (d : DeclType) → find (λ e. nat_eq e.decl own) ds ≡ Some d →
    over_body own d.ty (length d.params)
    ≡ over_body own (result_in (find (λ e. nat_eq e.decl own) ds)) (length (params_in (find (λ e. nat_eq e.decl own) ds)))
over-body ds own d e = rw e refl

pub before-body : (ds : List DeclType) (own : ℕ) (d : DeclType) (t : Node) → find (λ e. nat_eq e.decl own) ds ≡ Some d →
    before_body d.params t ≡ before_body (params_in (find (λ e. nat_eq e.decl own) ds)) t
before-body ds own d t e = rw e refl
