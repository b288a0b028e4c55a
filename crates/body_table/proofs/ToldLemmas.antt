-- One declaration more is told.
use Rattle.std.proofs.Common.{◌≡◌, ℕ, Bool, true, false, cond, List, [], ◌∷◌, ◌++◌, length, Some, None, ap, subst, arith, ◌⊎◌, inl, inr}
use Rattle.std.specs.Prelude.{find, nat_eq, slice_get}
use Rattle.std.proofs.lemmas.List.{append-nil}
use Rattle.hare_types.specs.Store.{Store}
use Rattle.hare_rules.specs.declared.declared.DeclType.{DeclType}
use Rattle.rule_judge.specs.Meant.{IsKnownKind}
use Rattle.hare_tree.specs.declared.tree.FileTree.{FileTree}
use Rattle.hare_saids.specs.Saids.{decls}
use Rattle.body_table.specs.Told.{IsTold, AreTold, AreDefinedTypes}

-- what a list gives where one of these numbers stands last
last-is : (b : Bool) (d e : DeclType) → cond b (Some d) None ≡ Some e → d ≡ e
last-is true d e h = cc
last-is false d e h = absurd cc

-- it is found among the others, or is the one more
pub found-one_more : (n : ℕ) (ds : List DeclType) (d e : DeclType) → find (λ x. nat_eq x.decl n) (ds ++ d ∷ []) ≡ Some e →
    (find (λ x. nat_eq x.decl n) ds ≡ Some e) ⊎ (d ≡ e)
found-one_more n [] d e h = inr (last-is (nat_eq d.decl n) d e h)
found-one_more n (x ∷ xs) d e h =
    elim (nat_eq x.decl n) as (λ b. cond b (Some x) (find (λ y. nat_eq y.decl n) (xs ++ d ∷ [])) ≡ Some e →
    (cond b (Some x) (find (λ y. nat_eq y.decl n) xs) ≡ Some e) ⊎ (d ≡ e)) [
      | true ↦ λ k. inl k
      | false ↦ λ k. found-one_more n xs d e k
    ] h

either : {A B C : Type 0} → (A → C) → (B → C) → A ⊎ B → C
either f g (inl a) = f a
either f g (inr b) = g b

-- one declaration more is told
pub told-one_more : (s : Store) (ds : List DeclType) (d : DeclType) → AreTold s ds → IsTold s d → AreTold s (ds ++ d ∷ [])
told-one_more s ds d known told =
    record {
      decls = λ n e h. either (known.decls n e) (λ (same : d ≡ e). subst (λ (x : DeclType). IsKnownKind s n x x.kind) same (told.kind n))
          (found-one_more n ds d e h);
      params = λ n e h. either (known.params n e) (λ (same : d ≡ e). subst (λ (x : DeclType). AreDefinedTypes s x.params) same told.params)
          (found-one_more n ds d e h);
    }

-- the declarations of one file
pub one_file : (fs : List FileTree) (t : FileTree) → length fs ≡ 1 → slice_get fs 0 ≡ Some t → length (decls fs) ≡ length t.decls
one_file [] t n e = absurd cc
one_file (f ∷ []) t n e = let same : f ≡ t = cc in rw same (ap length (append-nil t.decls))
one_file (f ∷ g ∷ fs) t n e = absurd (omega arith)
