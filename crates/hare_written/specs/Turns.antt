-- What is found of a node of a written type at its turn, when its kids have been judged.
use Rattle.std.specs.Prelude.{◌≡◌, ℕ, true, false, List, [], ◌∷◌, ◌++◌, map, length, Some, None, Ok}
use Rattle.std.specs.List.{list_any}
use Rattle.hare_tree.specs.declared.place.Fault.{Fault}
use Rattle.hare_tree.specs.declared.stop.Stop.{Stop}
use Rattle.hare_tree.specs.Node.{Head}
use Rattle.hare_types.specs.declared.coercion.Coercion.{Coercion}
use Rattle.hare_types.specs.declared.coercion.Ty.{Ty}
use Rattle.hare_types.specs.declared.coercion.Ty.TheVariants as ty
use Rattle.hare_types.specs.Store.{Store}
use Rattle.hare_types.specs.Later.{IsLater}
use Rattle.hare_seen.specs.Sizes.{size_row, FitsAs, is_small_at, IsLargeNode}
use Rattle.hare_typed.specs.Typed.{TypedNode, Mark, marked, typed_nodes}
use Rattle.hare_typed.specs.Coats.{coat}
use Rattle.hare_rules.specs.declared.row_id.RowId.{RowId}
use Rattle.hare_rules.specs.Above.{Above}
use Rattle.hare_rules.specs.Context.{Setting, Role, Length}
use Rattle.hare_rules.specs.Flow.{context}
use Rattle.hare_rules.specs.Rows.{first_failing, is_site, rows_in_role}
use Rattle.hare_rules.specs.Settles.{same}
use Rattle.hare_rules.specs.Types.{type_of}
use Rattle.hare_inference.specs.Inferred.{found, found_kids, with_kids}
use Rattle.hare_walk.specs.Walks.{IsStop}
use Rattle.rule_judge.specs.Defined.{IsDefinedTy}
use Rattle.rule_types.specs.Known.{IsKnownPart}
use Rattle.hare_written.specs.Judged.{large_stop}
use Rattle.hare_written.specs.Nodes.{is_written, IsIn, seen_of}

-- it fits, where it is a type
abbrev pub FitsTy : Store → Head → Ty → Type 0
FitsTy s h a = (u : ℕ) → a ≡ ty.Of u → FitsAs s h.kind u

-- Over the node stands what gives it this role; its kids carry what is settled.
pub record IsAt (a : Above) (r : Role) (xs : List TypedNode) (cs : List Coercion) : Type 0 where
  pub role : a.inside.role ≡ r
  pub hand : map (coat cs) xs ≡ xs

-- This is its type. It meets its rows in each later store in which it fits, and in each other one fails the row that asks for that.
pub record IsTypeFound (w : Store → Setting) (s : Store) (r : Role) (h : Head) (xs : List TypedNode) (b : Ty) : Type 0 where
  pub kind : is_written h.kind ≡ true
  pub unasked : list_any is_site (rows_in_role r h.kind) ≡ false  -- no hint asks anything of it
  pub stands : IsIn s b
  pub fits : FitsTy s h b
  pub meets :
      (f : Store) → IsLater s f → FitsTy f h b → (a : Above) (cs : List Coercion) → IsAt a r xs cs →
      first_failing (context (w f) a h xs (seen_of cs)) ≡ None
  pub type :
      (f : Store) → IsLater s f → (a : Above) (cs : List Coercion) → IsAt a r xs cs → type_of (context (w f) a h xs (seen_of cs)) ≡ Some b
  pub large :
      (f : Store) (u : ℕ) (q : RowId) → IsLater s f → b ≡ ty.Of u → size_row f h.kind u ≡ Some q → is_small_at f u ≡ false →
      (a : Above) (cs : List Coercion) → IsAt a r xs cs → first_failing (context (w f) a h xs (seen_of cs)) ≡ Some q

-- where a fault is told, it is that of the first row that the node fails, in each later store
abbrev pub IsTurnedBack : (Store → Setting) → Store → Role → Head → List TypedNode → Stop Fault → Type 0
IsTurnedBack w s r h xs e =
    (f : Store) → IsLater s f → (a : Above) (cs : List Coercion) → IsAt a r xs cs →
    IsStop e (with_kids (w f) a h (Ok (found_kids xs (seen_of cs))))

-- The node with this mark, over its kids. In each later store in which it fits its turn comes to it; in each other one that stops there.
pub record IsTurned (w : Store → Setting) (s : Store) (r : Role) (h : Head) (xs : List TypedNode) (n : ℕ) (m : Mark) : Type 0 where
  pub plain : m.coerce ≡ same m.ty
  pub node : m.node ≡ n
  pub stands : IsIn s m.ty
  pub fits : FitsTy s h m.ty
  pub known : IsKnownPart s (marked h m (typed_nodes xs))
  pub counted : r ≡ Length → IsDefinedTy s m.ty
  pub turns :
      (f : Store) → IsLater s f → FitsTy f h m.ty → (a : Above) (cs : List Coercion) → IsAt a r xs cs → length cs ≡ n →
      with_kids (w f) a h (Ok (found_kids xs (seen_of cs))) ≡ Ok (found (marked h m (typed_nodes xs)) (seen_of (cs ++ m.coerce ∷ [])))
  pub large :
      (f : Store) → IsLater s f → IsLargeNode f (marked h m (typed_nodes xs)) → (a : Above) (cs : List Coercion) → IsAt a r xs cs →
      length cs ≡ n →
      IsStop (large_stop (marked h m (typed_nodes xs))) (with_kids (w f) a h (Ok (found_kids xs (seen_of cs))))

abbrev pub IsTurn : (Store → Setting) → Store → Role → Head → List TypedNode → ℕ → TypedNode → Type 0
IsTurn w s r h xs n x = (m : Mark) × (x ≡ marked h m (typed_nodes xs)) × IsTurned w s r h xs n m
