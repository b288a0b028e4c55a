-- What is known of one more declaration.
use Rattle.std.proofs.Common.{◌≡◌, ◌≢◌, ℕ, Bool, true, false, List, [], ◌∷◌, ◌++◌, Option, Some, None, refl, ap, sym, ◌∙◌, subst, nat_eq}
use Rattle.std.specs.Prelude.{find, cond, Result, Ok, Err, OnOk, OnErr}
use Rattle.std.specs.Option.{option_or}
use Rattle.std.proofs.lemmas.List.Folds.{find-append}
use Rattle.hare_tree.specs.declared.kind.Kind.{Kind}
use Rattle.hare_tree.specs.declared.kind.Kind.TheVariants as ki
use Rattle.hare_tree.specs.Node.{Node}
use Rattle.hare_types.specs.Store.{Store}
use Rattle.hare_types.specs.Sound.{IsStore}
use Rattle.hare_types.specs.Later.{IsLater}
use Rattle.hare_types.proofs.LaterLemmas.{later_here}
use Rattle.hare_typed.specs.Typed.{TypedNode}
use Rattle.hare_typed.specs.Order.{tree_from_front, missing}
use Rattle.hare_rules.specs.declared.declared.DeclType.{DeclType}
use Rattle.hare_rules.specs.Context.{is_there, own_type}
use Rattle.hare_rules.specs.Words.{default_in}
use Rattle.hare_depends.specs.declared.said.Sort.{Sort}
use Rattle.hare_depends.specs.declared.said.Sort.TheVariants as so
use Rattle.hare_depends.specs.Sorts.{sort_by}
use Rattle.hare_walk.specs.Grown.{IsGrown}
use Rattle.hare_walk.proofs.Grows.{later-grown}
use Rattle.hare_whole.specs.Parts.{id_or_zero, written_id, declared_id, global_known}
use Rattle.hare_whole.specs.Turns.{known_by_types}
use Rattle.hare_defined.specs.Known.{AreDefined, DefinedTypesStay}
use Rattle.hare_written.specs.Program.{AreDefsDefined}
use Rattle.hare_written.proofs.PartOfType.Known.{defs-stay}
use Rattle.rule_judge.specs.Defined.{IsDefined}

-- ---- the types of defs

one_found : (p : DeclType → Bool) (d e : DeclType) → find p (d ∷ []) ≡ Some e → d ≡ e
one_found p d e h = by (p d) h
  where
    by : (b : Bool) → cond b (Some d) None ≡ Some e → d ≡ e
    by true k = cc
    by false k = absurd cc

-- they are defined still with one more declaration, where its type is, if it is a def
AreDefsDefined-more : (s : Store) (ds : List DeclType) (d : DeclType) → AreDefsDefined s ds → (d.kind ≡ ki.Def → IsDefined s d.ty) →
    AreDefsDefined s (ds ++ d ∷ [])
AreDefsDefined-more s ds d h own n e found kind = by (find p ds) refl (sym (find-append p ds (d ∷ [])) ∙ found)
  where
    p : DeclType → Bool
    p x = nat_eq x.decl n

    by : (o : Option DeclType) → find p ds ≡ o → option_or o (find p (d ∷ [])) ≡ Some e → IsDefined s e.ty
    by (Some x) f g = h n e (f ∙ g) kind
    by None f g =
        let same = one_found p d e g in
        subst (λ (x : DeclType). IsDefined s x.ty) same (own (ap (λ (x : DeclType). x.kind) same ∙ kind))

-- once a declaration has been put there, or has not
pub AreDefsDefined-push : {A E : Type 0} (r : Result A E) (s : Store) (old new : List DeclType) (d : DeclType) →
    OnOk r (new ≡ old ++ d ∷ []) → OnErr r (new ≡ old) → AreDefsDefined s old → (d.kind ≡ ki.Def → IsDefined s d.ty) → AreDefsDefined s new
AreDefsDefined-push (Ok x) s old new d ok err h own =
    subst (λ (ds : List DeclType). AreDefsDefined s ds) (sym ok) (AreDefsDefined-more s old d h own)
AreDefsDefined-push (Err x) s old new d ok err h own = subst (λ (ds : List DeclType). AreDefsDefined s ds) (sym err) h

-- ---- stores

module _ (a b : Store) (v : IsStore a) (g : IsGrown a b) (w : IsStore b) where
  grown-later : IsLater a b
  grown-later = later-grown a b b g (later_here b w)

  -- what is defined in a store is so once it has grown
  pub AreDefsDefined-grown : (ds : List DeclType) → AreDefsDefined a ds → AreDefsDefined b ds
  AreDefsDefined-grown ds h = defs-stay a b v grown-later ds h

  pub AreDefined-grown : DefinedTypesStay → (ts : List ℕ) → AreDefined a ts → AreDefined b ts
  AreDefined-grown law ts h = law a b ts v grown-later h

-- ---- sorts

-- a global with a type is no def
pub global-no_def : (k : Kind) (t : Node) → sort_by k t ≡ so.Global → k ≢ ki.Def
global-no_def k t e f = let g : sort_by ki.Def t ≡ so.Global = ap (λ x. sort_by x t) (sym f) ∙ e in absurd cc

pub known_by_types-global : (l : Store) (n : ℕ) (j k : Kind) (q : Sort) (ts : List TypedNode) (d : DeclType) → q ≡ so.Global → j ≡ k →
    d ≡ global_known l n j (tree_from_front 0 ts) missing → known_by_types l n k q ts ≡ d ∷ []
known_by_types-global l n j k q ts d e f g =
    ap (λ x. known_by_types l n k x ts) e
    ∙ ap (λ x. global_known l n x (tree_from_front 0 ts) missing ∷ []) (sym f)
    ∙ ap (λ (x : DeclType). x ∷ []) (sym g)

-- ---- the type of a def or a global

pub declared_id-written : (l : Store) (t v : TypedNode) → is_there t ≡ true → declared_id l t v ≡ written_id t
declared_id-written l t v e = ap (λ b. cond b (written_id t) (id_or_zero (default_in l (own_type v)))) e
