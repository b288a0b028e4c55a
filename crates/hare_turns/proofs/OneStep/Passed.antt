-- Steps that are passed, and the stages behind them.
use Rattle.std.proofs.Common.{◌≡◌, ℕ, cond, List, [], ◌∷◌, ◌++◌, Some, inl, inr, ap, sym, ◌∙◌, subst, nat_eq}
use Rattle.std.specs.Prelude.{Contains}
use Rattle.std.specs.Option.{unwrap_or}
use Rattle.std.specs.Map.{lookup}
use Rattle.std.proofs.lemmas.Bool.{ne_eqb}
use Rattle.hare_tree.specs.Node.{Node, head}
use Rattle.hare_types.specs.Store.{Store}
use Rattle.hare_types.specs.Later.{TypesStay}
use Rattle.hare_typed.specs.Typed.{TypedNode}
use Rattle.hare_typed.specs.Order.{tree_from_front}
use Rattle.hare_seen.specs.Sizes.{AllFit}
use Rattle.hare_rules.specs.declared.declared.DeclType.{DeclType}
use Rattle.hare_agree.specs.Laws.{ValuesAreEnough}
use Rattle.hare_modules.specs.Uses.{kid}
use Rattle.hare_depends.specs.Sorts.{sort_of}
use Rattle.hare_whole.specs.Listing.{Listing, IsDecl}
use Rattle.hare_whole.specs.Parts.{written_id}
use Rattle.hare_whole.specs.Turns.{Stage, Types, Value, seen, setting_at, typed_at, type_or_plain, known_by_types, known_by_value, with_types, with_value, Passes}
use Rattle.hare_turns.specs.Stages.{IsEnd, IsStage, AreTypesOf, IsValueOf}
use Rattle.hare_turns.specs.Laws.{EndsAreSeen, IsNewIn, TypesGoOn, ValueGoesOn}
use Rattle.hare_turns.proofs.LaterStores.Lists.{Contains-cons_cases, slice_get-same}
use Rattle.hare_turns.proofs.LaterStores.Stores.{IsLater-refl}
use Rattle.hare_turns.proofs.LaterStores.Sizes.{AllFit-later}
use Rattle.hare_turns.proofs.MoreKnown.Declarations.{AreOfProgram, known_by_types-of_program, known_by_value-of_program}
use Rattle.hare_turns.proofs.MoreKnown.Agreement.{AreTypesOf-more, IsValueOf-more}

-- the checking may end with the store as it is
pub itself_ends : (p : Listing) (s : Store) (g : Stage) (vs : List (ℕ × TypedNode)) → IsStage p s g vs → IsEnd p s s
itself_ends p s g vs h = record { later = IsLater-refl s h.sound; final = record { declared = h.declared; nomem = h.nomem } }

-- ---- written types

-- of other declarations the types stay
pub typed_at-other : (s : Store) (g : Stage) (n : ℕ) (t : Node) (ts : List TypedNode) (m : ℕ) → (m ≡ n → ⊥) →
    typed_at (with_types s g n t ts) m ≡ typed_at g m
typed_at-other s g n t ts m other = ap (λ b. unwrap_or (cond b (Some ts) (lookup (nat_eq m) g.typed)) []) (ne_eqb m n other)

module _ (enough : ValuesAreEnough) (p : Listing) (s : Store) (g : Stage) (vs : List (ℕ × TypedNode)) (n : ℕ) (t : Node)
    (ts : List TypedNode) (h : IsStage p s g vs) (d : IsDecl p n t) (new : IsNewIn g vs n) (own : AreTypesOf p g.known s n t ts)
    (fit : AllFit s ts) where
  abbrev known_then : List DeclType
  known_then = known_by_types s n (head t).kind (sort_of t) ts

  of_program : AreOfProgram p known_then
  of_program = known_by_types-of_program p s n t d (head t).kind (sort_of t) ts

  stage_with_types : IsStage p s (with_types s g n t ts) vs
  stage_with_types = record {
    sound = h.sound;
    declared = h.declared;
    nomem = h.nomem;
    only = h.only;
    done = λ m u c e i. h.done m u c e i
        ∙ ap (λ (xs : List TypedNode). Some (written_id (tree_from_front 0 xs)))
        (sym (typed_at-other s g n t ts m (λ j. new.undone (subst (λ (k : ℕ). Contains g.done k) j c))));
    there = there;
    types = types;
    fit = fits;
    values = values;
  }
    where
      there : (m : ℕ) (us : List TypedNode) → Contains ((n, ts) ∷ g.typed) (m, us) → (u : Node) × IsDecl p m u
      there m us c = elim (Contains-cons_cases (n, ts) g.typed (m, us) c) [
        | inl e ↦ (t, subst (λ (k : ℕ). IsDecl p k t) (ap (λ (z : ℕ × List TypedNode). z.0) e) d)
        | inr k ↦ h.there m us k
      ]

      more : (m : ℕ) (u : Node) (us : List TypedNode) → AllFit s us → AreTypesOf p g.known s m u us →
          AreTypesOf p (g.known ++ known_then) s m u us
      more m u us a b = AreTypesOf-more enough p g.known known_then of_program s m u us h.sound a b

      types : (m : ℕ) (u : Node) (us : List TypedNode) → Contains ((n, ts) ∷ g.typed) (m, us) → IsDecl p m u →
          AreTypesOf p (g.known ++ known_then) s m u us
      types m u us c i = elim (Contains-cons_cases (n, ts) g.typed (m, us) c) [
        | inl e ↦
            let same : t ≡ u = slice_get-same p.decls n m t u (ap (λ (z : ℕ × List TypedNode). z.0) e) d i in
            subst (λ (z : ℕ × List TypedNode). AreTypesOf p (g.known ++ known_then) s z.0 u z.1) e
            (subst (λ (x : Node). AreTypesOf p (g.known ++ known_then) s n x ts) same (more n t ts fit own))
        | inr k ↦ more m u us (h.fit m us k) (h.types m u us k i)
      ]

      fits : (m : ℕ) (us : List TypedNode) → Contains ((n, ts) ∷ g.typed) (m, us) → AllFit s us
      fits m us c = elim (Contains-cons_cases (n, ts) g.typed (m, us) c) [
        | inl e ↦ subst (λ (z : ℕ × List TypedNode). AllFit s z.1) e fit
        | inr k ↦ h.fit m us k
      ]

      values : (m : ℕ) (u : Node) (v : TypedNode) → Contains vs (m, v) → IsDecl p m u →
          IsValueOf p (g.known ++ known_then) s m u (typed_at (with_types s g n t ts) m) v
      values m u v c i =
          subst (λ (xs : List TypedNode). IsValueOf p (g.known ++ known_then) s m u xs v)
          (sym (typed_at-other s g n t ts m (λ j. new.unvalued v (subst (λ (k : ℕ). Contains vs (k, v)) j c))))
          (IsValueOf-more enough p g.known known_then of_program s m u (typed_at g m) v (h.values m u v c i))

pub types_go_on : TypesStay → ValuesAreEnough → EndsAreSeen → TypesGoOn
types_go_on stay enough ends p s g k vs n t ts h d new own fit is = record {
  passes = λ l e.
      let at = ends p s l g vs h e in
      let typed = own.typed (seen l g.done) at.later (AllFit-later stay s (seen l g.done) h.sound at.later at.same ts own.stand fit) in
      subst (λ (x : Stage). Passes p l g (Types n) x) (sym (is l e)) (Passes.types n t ts d typed);
  stage =
      subst (λ (x : Stage). IsStage p s x vs) (sym (is s (itself_ends p s g vs h)))
      (stage_with_types enough p s g vs n t ts h d new own fit);
}

-- ---- values

module _ (enough : ValuesAreEnough) (p : Listing) (s : Store) (g : Stage) (vs : List (ℕ × TypedNode)) (n : ℕ) (t : Node) (v : TypedNode)
    (h : IsStage p s g vs) (d : IsDecl p n t) (own : IsValueOf p g.known s n t (typed_at g n) v) where
  abbrev known_behind : List DeclType
  known_behind = known_by_value s n (head t).kind (sort_of t) (type_or_plain (setting_at p s g) (kid t 2) (typed_at g n)) v

  behind_of_program : AreOfProgram p known_behind
  behind_of_program =
      known_by_value-of_program p s n t d (head t).kind (sort_of t) (type_or_plain (setting_at p s g) (kid t 2) (typed_at g n)) v

  stage_with_value : IsStage p s (with_value (setting_at p s g) s g n t v) ((n, v) ∷ vs)
  stage_with_value = record {
    sound = h.sound;
    declared = h.declared;
    nomem = h.nomem;
    only = h.only;
    done = h.done;
    there = h.there;
    types = λ m u us c i.
        AreTypesOf-more enough p g.known known_behind behind_of_program s m u us h.sound (h.fit m us c) (h.types m u us c i);
    fit = h.fit;
    values = values;
  }
    where
      more : (m : ℕ) (u : Node) (x : TypedNode) → IsValueOf p g.known s m u (typed_at g m) x →
          IsValueOf p (g.known ++ known_behind) s m u (typed_at g m) x
      more m u x b = IsValueOf-more enough p g.known known_behind behind_of_program s m u (typed_at g m) x b

      values : (m : ℕ) (u : Node) (x : TypedNode) → Contains ((n, v) ∷ vs) (m, x) → IsDecl p m u →
          IsValueOf p (g.known ++ known_behind) s m u (typed_at g m) x
      values m u x c i = elim (Contains-cons_cases (n, v) vs (m, x) c) [
        | inl e ↦
            let same : t ≡ u = slice_get-same p.decls n m t u (ap (λ (z : ℕ × TypedNode). z.0) e) d i in
            subst (λ (z : ℕ × TypedNode). IsValueOf p (g.known ++ known_behind) s z.0 u (typed_at g z.0) z.1) e
            (subst (λ (y : Node). IsValueOf p (g.known ++ known_behind) s n y (typed_at g n) v) same (more n t v own))
        | inr k ↦ more m u x (h.values m u x k i)
      ]

pub value_goes_on : ValuesAreEnough → EndsAreSeen → ValueGoesOn
value_goes_on enough ends p s g k vs n t v h d unknown own is = record {
  passes = λ l e.
      let at = ends p s l g vs h e in
      subst (λ (x : Stage). Passes p l g (Value n) x) (sym (is l e))
      (Passes.value n t v d (own.typed (seen l g.done) at.later) (own.rows (seen l g.done) at.later));
  stage =
      subst (λ (x : Stage). IsStage p s x ((n, v) ∷ vs)) (sym (is s (itself_ends p s g vs h)))
      (stage_with_value enough p s g vs n t v h d own);
}
