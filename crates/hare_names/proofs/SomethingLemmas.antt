-- A path without a violation means something.
use Rattle.std.proofs.Common.{◌≡◌, ℕ, ◌+◌, List, [], ◌∷◌, ◌++◌, Bool, true, false, cond, not, map, filter, find, bytes_eq, Option, Some, None, refl, sym, ◌∙◌, subst, if◌then◌else◌}
use Rattle.std.specs.Prelude.{option_map, option_and_then}
use Rattle.std.specs.Option.{option_or}
use Rattle.std.specs.List.{enumerate_from}
use Rattle.hare_tree.specs.declared.token.Meaning.{Meaning}
use Rattle.hare_tree.specs.declared.token.Meaning.TheVariants as me
use Rattle.hare_modules.specs.Modules.{Module, Source}
use Rattle.hare_modules.specs.Uses.{Import, imports}
use Rattle.hare_modules.specs.Declarations.{Item, Declared, declarations, built_in, firsts, item_named}
use Rattle.hare_modules.specs.Admitted.{admitted, admitted_module}
use Rattle.hare_names.specs.Paths.{Path}
use Rattle.hare_names.specs.Meanings.{Meant, local_meant, local_of, item_meant, unfit_number, member_number, pair_number, number_by, violation_number, meant}
use Rattle.hare_names.proofs.AdmittedLemmas.{the_item, only, member_of, behind_of, admitted-one, admitted-pair}
use Rattle.hare_names.proofs.JudgedLemmas.{item_number, meant-is}

-- ---- what has no violation means something

unfit-some : (p : Path) (o : Option Meant) → unfit_number p o ≡ None → (m : Meant) × (o ≡ Some m)
unfit-some p None e = absurd cc
unfit-some p (Some m) e = (m, refl)

member-some : (p : Path) (o : Option Meant) (i : Option Item) → member_number p o i ≡ None → (m : Meant) × (o ≡ Some m)
member-some p o None e = absurd cc
member-some p o (Some i) e = by i.exported e
  where
    by : (b : Bool) → (if b then unfit_number p o else Some 14) ≡ None → (m : Meant) × (o ≡ Some m)
    by true d = unfit-some p o d
    by false d = absurd cc

pair-some : (all : List Source) (p : Path) (o : Option Meant) (x : List ℕ) (i : Option Import) → pair_number all p o x i ≡ None →
    (m : Meant) × (o ≡ Some m)
pair-some all p o x None e = absurd cc
pair-some all p o x (Some i) e = member-some p o (item_named all i.from x) e

pub fine-meant : (all : List Source) (s : Source) (p : Path) → violation_number all s p ≡ None → (m : Meant) × (meant all s p ≡ Some m)
fine-meant all s p e = by p.names e
  where
    by : (names : List (List ℕ)) → number_by all s p names ≡ None → (m : Meant) × (meant all s p ≡ Some m)
    by [] d = absurd cc
    by (x ∷ []) d = unfit-some p (meant all s p) d
    by (m ∷ x ∷ []) d = pair-some all p (meant all s p) x (admitted_module all s m) d
    by (m ∷ x ∷ y ∷ ys) d = absurd cc

-- ---- items mean something

abbrev IsSomething : Meaning → Type 0
IsSomething m = m ≡ me.None → ⊥

abbrev Has : Option Item → Type 0
Has None = Unit {0}
Has (Some i) = IsSomething i.meaning

abbrev Have : List Item → Type 0
Have [] = Unit {0}
Have (i ∷ is) = IsSomething i.meaning × Have is

have-find : (p : Item → Bool) (is : List Item) → Have is → Has (find p is)
have-find p [] h = tt
have-find p (i ∷ is) h = by (p i) (have-find p is h.1)
  where
    by : (b : Bool) → Has (find p is) → Has (cond b (Some i) (find p is))
    by true k = h.0
    by false k = k

have-filter : (p : Item → Bool) (is : List Item) → Have is → Have (filter p is)
have-filter p [] h = tt
have-filter p (i ∷ is) h = by (p i) (have-filter p is h.1)
  where
    by : (b : Bool) → Have (filter p is) → Have (cond b (i ∷ filter p is) (filter p is))
    by true k = (h.0, k)
    by false k = k

have-firsts : (is : List Item) → Have is → Have (firsts (λ i. i.name) is)
have-firsts [] h = tt
have-firsts (i ∷ is) h = (h.0, have-filter (λ j. not (bytes_eq i.name j.name)) (firsts (λ j. j.name) is) (have-firsts is h.1))

have-both : (is js : List Item) → Have is → Have js → Have (is ++ js)
have-both [] js h k = k
have-both (i ∷ is) js h k = (h.0, have-both is js h.1 k)

have-numbers : (n : ℕ) (ds : List Declared) → Have (map item_number (enumerate_from n ds))
have-numbers n [] = tt
have-numbers n (d ∷ ds) = ((λ e. cc), have-numbers (n + 1) ds)

have-built_in : Have built_in
have-built_in = ((λ e. cc), ((λ e. cc), ((λ e. cc), ((λ e. cc), ((λ e. cc), ((λ e. cc), ((λ e. cc), ((λ e. cc), tt))))))))

has-item : (all : List Source) (m : Module) (x : List ℕ) → Has (item_named all m x)
has-item all m x =
    have-find (λ i. bytes_eq i.name x) (firsts (λ i. i.name)
    (filter (λ i. bytes_eq i.home m) (built_in ++ map item_number (enumerate_from 0 (declarations all)))))
    (have-firsts (filter (λ i. bytes_eq i.home m) (built_in ++ map item_number (enumerate_from 0 (declarations all))))
    (have-filter (λ i. bytes_eq i.home m) (built_in ++ map item_number (enumerate_from 0 (declarations all)))
    (have-both built_in (map item_number (enumerate_from 0 (declarations all))) have-built_in (have-numbers 0 (declarations all)))))

has-only : (q : Item → Bool) (o : Option Item) → Has o → Has (option_and_then (only q) o)
has-only q None h = tt
has-only q (Some i) h = by (q i)
  where
    by : (b : Bool) → Has (if b then Some i else None)
    by true = h
    by false = tt

has-or : (o p : Option Item) → Has o → Has p → Has (option_or o p)
has-or None p h k = k
has-or (Some i) p h k = h

has-then : (f : Import → Option Item) → ((i : Import) → Has (f i)) → (o : Option Import) → Has (option_and_then f o)
has-then f h None = tt
has-then f h (Some i) = h i

module _ (all : List Source) (s : Source) where
  has-member : (x : List ℕ) (i : Import) → Has (member_of all s x i)
  has-member x i = by i.whole
    where
      by : (b : Bool) → Has (if b then None else option_and_then (only (λ e. e.exported)) (item_named all i.from x))
      by true = tt
      by false = has-only (λ e. e.exported) (item_named all i.from x) (has-item all i.from x)

  has-behind : (x : List ℕ) (i : Import) → Has (behind_of all s x i)
  has-behind x i = by i.whole
    where
      by : (b : Bool) → Has (if b then option_and_then (only (λ e. e.exported)) (item_named all i.from x) else None)
      by true = has-only (λ e. e.exported) (item_named all i.from x) (has-item all i.from x)
      by false = tt

  has-one : (x : List ℕ) → Has (option_map the_item (admitted all s (x ∷ [])))
  has-one x =
      subst Has (sym (admitted-one all s x))
      (has-or (item_named all s.home x) (option_and_then (member_of all s x) (find (λ i. bytes_eq i.name x) (imports s.tree)))
      (has-item all s.home x) (has-then (member_of all s x) (has-member x) (find (λ i. bytes_eq i.name x) (imports s.tree))))

  has-pair : (m x : List ℕ) → Has (option_map the_item (admitted all s (m ∷ x ∷ [])))
  has-pair m x = subst Has (sym (admitted-pair all s m x))
      (has-then (behind_of all s x) (has-behind x) (find (λ i. bytes_eq i.name m) (imports s.tree)))

  some-item : (o : Option Item) → Has o → (m : Meant) → option_map item_meant o ≡ Some m → IsSomething m.meaning
  some-item None h m e = absurd cc
  some-item (Some i) h m e = let same : item_meant i ≡ m = cc in subst (λ n. IsSomething n.meaning) same h

  some-name : (l : Option ℕ) (o : Option Item) → Has o → (m : Meant) →
      option_or (option_map local_meant l) (option_map item_meant o) ≡ Some m → IsSomething m.meaning
  some-name None o h m e = some-item o h m e
  some-name (Some n) o h m e = let same : local_meant n ≡ m = cc in subst (λ k. IsSomething k.meaning) same (λ d. cc)

  pub fine-something : (p : Path) → violation_number all s p ≡ None → (m : Meant) → meant all s p ≡ Some m → m.meaning ≡ me.None → ⊥
  fine-something p v m e = by p.names refl v
    where
      by : (names : List (List ℕ)) → p.names ≡ names → number_by all s p names ≡ None → IsSomething m.meaning
      by [] k d = absurd cc
      by (x ∷ []) k d = some-name (local_of p.scopes (x ∷ [])) (option_map the_item (admitted all s (x ∷ []))) (has-one x) m
          (sym (meant-is all s p (x ∷ []) k) ∙ e)
      by (y ∷ x ∷ []) k d = some-name None (option_map the_item (admitted all s (y ∷ x ∷ []))) (has-pair y x) m
          (sym (meant-is all s p (y ∷ x ∷ []) k) ∙ e)
      by (y ∷ x ∷ z ∷ zs) k d = absurd cc
