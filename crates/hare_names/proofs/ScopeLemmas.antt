-- The locals of a path are bindings of its declaration.
use Rattle.std.proofs.Common.{◌≡◌, ◌⊎◌, inl, inr, ℕ, ◌+◌, List, [], ◌∷◌, ◌++◌, Bool, true, false, ◌||◌, length, bytes_eq, slice_get, Some, refl, sym, ap, ◌∙◌, subst, suc, zero, zero-add, add-zero, arith, if◌then◌else◌}
use Rattle.std.specs.Prelude.{Contains}
use Rattle.std.proofs.lemmas.List.{length-append}
use Rattle.std.proofs.lemmas.List.Elements.{Contains-append_cases}
use Rattle.std.proofs.lemmas.Slice.Eq.{bytes_eq-Decides}
use Rattle.hare_tree.specs.Node.{Head, Node, Nodes, branch, none, more}
use Rattle.hare_modules.specs.Uses.{text_of}
use Rattle.hare_graph.proofs.Elements.{Contains-none, Contains-cases, Contains-here, Contains-behind}
use Rattle.hare_blocks.specs.Scopes.{number_of}
use Rattle.hare_names.specs.Scopes.{Local, Scopes, with_locals, visible, is_binding, is_params, is_for_each, bindings_in, bindings_among, bound_by, bound_among, bound_itself}
use Rattle.hare_names.specs.Paths.{Path, path_of, path_at, is_type_path, is_value_path, before_kids, scopes_within, paths_in, paths_among, paths_of_loop}
use Rattle.hare_names.specs.Meanings.{local_of}
use Rattle.hare_names.specs.Bindings.{bindings_of, bindings_of_all, IsInScope, LocalsAreInScope}
use Rattle.hare_names.proofs.SpotLemmas.{visible-with, visible-within}

-- the bindings are as many as they count
counted-own : (h : Head) (ts : Nodes) → length (if is_binding h.kind then branch h ts ∷ [] else []) ≡ (if is_binding h.kind then 1 else 0)
counted-own h ts = by (is_binding h.kind)
  where
    by : (b : Bool) → length (if b then branch h ts ∷ [] else []) ≡ (if b then 1 else 0)
    by true = refl
    by false = refl

mutual
  counted : (t : Node) → length (bindings_of t) ≡ bindings_in t
  counted (branch h ts) =
      let a = length-append (if is_binding h.kind then branch h ts ∷ [] else []) (bindings_of_all ts) in
      a ∙ ap (λ n. n + length (bindings_of_all ts)) (counted-own h ts) ∙ ap (λ n. (if is_binding h.kind then 1 else 0) + n) (counted-all ts)

  counted-all : (ts : Nodes) → length (bindings_of_all ts) ≡ bindings_among ts
  counted-all none = refl
  counted-all (more t ts) =
      length-append (bindings_of t) (bindings_of_all ts) ∙ ap (λ n. n + length (bindings_of_all ts)) (counted t)
      ∙ ap (λ n. bindings_in t + n) (counted-all ts)

-- ---- bindings at their numbers

-- the list stands in another from a number on
abbrev Sits : List Node → ℕ → List Node → Type 0
Sits all n bs = (i : ℕ) (b : Node) → slice_get bs i ≡ Some b → slice_get all (n + i) ≡ Some b

get-front : {A : Type 0} (xs ys : List A) (i : ℕ) (x : A) → slice_get xs i ≡ Some x → slice_get (xs ++ ys) i ≡ Some x
get-front [] ys i x e = absurd cc
get-front (z ∷ zs) ys zero x e = e
get-front (z ∷ zs) ys (suc i) x e = get-front zs ys i x e

get-back : {A : Type 0} (xs ys : List A) (i : ℕ) (x : A) → slice_get ys i ≡ Some x → slice_get (xs ++ ys) (length xs + i) ≡ Some x
get-back [] ys i x e = subst (λ k. slice_get ys k ≡ Some x) (sym (zero-add i)) e
get-back (z ∷ zs) ys i x e = let j : suc (length zs) + i ≡ suc (length zs + i) = omega arith in subst
    (λ k. slice_get (z ∷ zs ++ ys) k ≡ Some x) (sym j) (get-back zs ys i x e)

sits-front : (all : List Node) (n : ℕ) (xs ys : List Node) → Sits all n (xs ++ ys) → Sits all n xs
sits-front all n xs ys s i b e = s i b (get-front xs ys i b e)

sits-back : (all : List Node) (n m : ℕ) (xs ys : List Node) → m ≡ n + length xs → Sits all n (xs ++ ys) → Sits all m ys
sits-back all n m xs ys k s i b e =
    let j : n + (length xs + i) ≡ m + i = omega (arith, k) in subst (λ x. slice_get all x ≡ Some b) j
    (s (length xs + i) b (get-back xs ys i b e))

-- the locals are bindings at their numbers
abbrev AreBindings : List Node → List Local → Type 0
AreBindings all ls = (x : List ℕ) (n : ℕ) → Contains ls (x, n) → (b : Node) × (slice_get all n ≡ Some b) × (text_of b ≡ x)

none-are : (all : List Node) → AreBindings all []
none-are all x n c = absurd (Contains-none (x, n) c)

both-are : (all : List Node) (ls ks : List Local) → AreBindings all ls → AreBindings all ks → AreBindings all (ls ++ ks)
both-are all ls ks a b x n c = by (Contains-append_cases ls ks (x, n) c)
  where
    by : Contains ls (x, n) ⊎ Contains ks (x, n) → (t : Node) × (slice_get all n ≡ Some t) × (text_of t ≡ x)
    by (inl d) = a x n d
    by (inr d) = b x n d

abbrev local : List ℕ → ℕ → Local
local x n = (x, n)

one-is : (all : List Node) (h : Head) (ts : Nodes) (n : ℕ) → slice_get all n ≡ Some (branch h ts) → AreBindings all ((h.text, n) ∷ [])
one-is all h ts n e x m c = by (Contains-cases (h.text, n) (x, m) [] c)
  where
    same : (l : Local) → local h.text n ≡ l → (b : Node) × (slice_get all l.1 ≡ Some b) × (text_of b ≡ l.0)
    same l d = subst (λ k. (b : Node) × (slice_get all k.1 ≡ Some b) × (text_of b ≡ k.0)) d (branch h ts, e, refl)

    by : (local h.text n ≡ local x m) ⊎ Contains [] (local x m) → (b : Node) × (slice_get all m ≡ Some b) × (text_of b ≡ x)
    by (inl d) = same (x, m) d
    by (inr d) = absurd (Contains-none (x, m) d)

-- where the kids of a tree sit
kids-sit : (all : List Node) (n : ℕ) (h : Head) (ts : Nodes) → Sits all n (bindings_of (branch h ts)) →
    Sits all (before_kids n h.kind) (bindings_of_all ts)
kids-sit all n h ts s = sits-back all n (before_kids n h.kind) (if is_binding h.kind then branch h ts ∷ [] else []) (bindings_of_all ts)
    (by (is_binding h.kind)) s
  where
    by : (b : Bool) → (if b then n + 1 else n) ≡ n + length (if b then branch h ts ∷ [] else [])
    by true = refl
    by false = sym (add-zero n)

own-sits : (all : List Node) (n : ℕ) (h : Head) (ts : Nodes) → is_binding h.kind ≡ true → Sits all n (bindings_of (branch h ts)) →
    slice_get all n ≡ Some (branch h ts)
own-sits all n h ts e s = subst (λ k. slice_get all k ≡ Some (branch h ts)) (add-zero n)
    (s 0 (branch h ts) (ap (λ b. slice_get ((if b then branch h ts ∷ [] else []) ++ bindings_of_all ts) 0) e))

mutual
  bound-are : (all : List Node) (n : ℕ) (t : Node) → Sits all n (bindings_of t) → AreBindings all (bound_by n t)
  bound-are all n (branch h ts) s = by (is_binding h.kind) refl (is_params h.kind) refl
      (bound-all-are all (before_kids n h.kind) ts (kids-sit all n h ts s))
    where
      by : (b : Bool) → is_binding h.kind ≡ b → (c : Bool) → is_params h.kind ≡ c →
          AreBindings all (bound_among (before_kids n h.kind) ts) →
          AreBindings all (if b then (h.text, n) ∷ [] else if c then bound_among n ts else [])
      by true e c d k = one-is all h ts n (own-sits all n h ts e s)
      by false e true d k = subst (λ m. AreBindings all (bound_among m ts)) (ap (λ b. if b then n + 1 else n) e) k
      by false e false d k = none-are all

  bound-all-are : (all : List Node) (n : ℕ) (ts : Nodes) → Sits all n (bindings_of_all ts) → AreBindings all (bound_among n ts)
  bound-all-are all n none s = none-are all
  bound-all-are all n (more t ts) s =
      both-are all (bound_among (n + bindings_in t) ts) (bound_by n t)
      (bound-all-are all (n + bindings_in t) ts (sits-back all n (n + bindings_in t) (bindings_of t) (bindings_of_all ts)
      (ap (λ k. n + k) (sym (counted t))) s))
      (bound-are all n t (sits-front all n (bindings_of t) (bindings_of_all ts) s))

itself-is : (all : List Node) (n : ℕ) (t : Node) → Sits all n (bindings_of t) → AreBindings all (bound_itself n t)
itself-is all n (branch h ts) s = by (is_binding h.kind) refl
  where
    by : (b : Bool) → is_binding h.kind ≡ b → AreBindings all (if b then (h.text, n) ∷ [] else [])
    by true e = one-is all h ts n (own-sits all n h ts e s)
    by false e = none-are all

-- ---- paths

abbrev Fine : List Node → List Path → Type 0
Fine all ps = (p : Path) → Contains ps p → AreBindings all (visible p.scopes)

both-fine : (all : List Node) (ps qs : List Path) → Fine all ps → Fine all qs → Fine all (ps ++ qs)
both-fine all ps qs a b p c = by (Contains-append_cases ps qs p c)
  where
    by : Contains ps p ⊎ Contains qs p → AreBindings all (visible p.scopes)
    by (inl d) = a p d
    by (inr d) = b p d

with-are : (all : List Node) (ls : List Local) (ss : Scopes) → AreBindings all ls → AreBindings all (visible ss) →
    AreBindings all (visible (with_locals ls ss))
with-are all ls ss a b = subst (AreBindings all) (sym (visible-with ls ss)) (both-are all ls (visible ss) a b)

mutual
  fine-in : (all : List Node) (n : ℕ) (ss : Scopes) (t : Node) → Sits all n (bindings_of t) → AreBindings all (visible ss) →
      Fine all (paths_in n ss t)
  fine-in all n ss (branch h ts) s a =
      both-fine all (path_at h ss) (if is_for_each h.kind then paths_of_loop (before_kids n h.kind)
      (scopes_within h.kind ss) ts else paths_among (before_kids n h.kind) (scopes_within h.kind ss) ts)
      (own (is_type_path h.kind || is_value_path h.kind))
      (by (is_for_each h.kind) (fine-loop all (before_kids n h.kind) (scopes_within h.kind ss) ts (kids-sit all n h ts s) within)
      (fine-among all (before_kids n h.kind) (scopes_within h.kind ss) ts (kids-sit all n h ts s) within))
    where
      within : AreBindings all (visible (scopes_within h.kind ss))
      within = subst (AreBindings all) (sym (visible-within h.kind ss)) a

      own : (b : Bool) → Fine all (if b then path_of h ss ∷ [] else [])
      own false p c = absurd (Contains-none p c)
      own true p c = by-one (Contains-cases (path_of h ss) p [] c)
        where
          by-one : (path_of h ss ≡ p) ⊎ Contains [] p → AreBindings all (visible p.scopes)
          by-one (inl e) = subst (λ q. AreBindings all (visible q.scopes)) e a
          by-one (inr e) = absurd (Contains-none p e)

      by : (b : Bool) → Fine all (paths_of_loop (before_kids n h.kind) (scopes_within h.kind ss) ts) →
          Fine all (paths_among (before_kids n h.kind) (scopes_within h.kind ss) ts) →
          Fine all (if b then paths_of_loop (before_kids n h.kind) (scopes_within h.kind ss) ts else paths_among (before_kids n h.kind)
          (scopes_within h.kind ss) ts)
      by true x y = x
      by false x y = y

  fine-among : (all : List Node) (n : ℕ) (ss : Scopes) (ts : Nodes) → Sits all n (bindings_of_all ts) → AreBindings all (visible ss) →
      Fine all (paths_among n ss ts)
  fine-among all n ss none s a = λ p c. absurd (Contains-none p c)
  fine-among all n ss (more t ts) s a =
      let here = sits-front all n (bindings_of t) (bindings_of_all ts) s in
      both-fine all (paths_in n ss t) (paths_among (n + bindings_in t) (with_locals (bound_by n t) ss) ts) (fine-in all n ss t here a)
      (fine-among all (n + bindings_in t) (with_locals (bound_by n t) ss) ts
      (sits-back all n (n + bindings_in t) (bindings_of t) (bindings_of_all ts) (ap (λ k. n + k) (sym (counted t))) s)
      (with-are all (bound_by n t) ss (bound-are all n t here) a))

  fine-loop : (all : List Node) (n : ℕ) (ss : Scopes) (ts : Nodes) → Sits all n (bindings_of_all ts) → AreBindings all (visible ss) →
      Fine all (paths_of_loop n ss ts)
  fine-loop all n ss none s a = λ p c. absurd (Contains-none p c)
  fine-loop all n ss (more b none) s a = fine-in all n ss b (sits-front all n (bindings_of b) [] s) a
  fine-loop all n ss (more b (more over ts)) s a =
      let here = sits-front all n (bindings_of b) (bindings_of over ++ bindings_of_all ts) s in
      let rest = sits-back all n (n + bindings_in b) (bindings_of b) (bindings_of over ++ bindings_of_all ts)
      (ap (λ k. n + k) (sym (counted b))) s in
      let next = sits-back all (n + bindings_in b) (n + bindings_in b + bindings_in over) (bindings_of over) (bindings_of_all ts)
      (ap (λ k. n + bindings_in b + k) (sym (counted over))) rest in
      both-fine all (paths_in n ss b ++ paths_in (n + bindings_in b) ss over)
      (paths_among (n + bindings_in b + bindings_in over) (with_locals (bound_itself n b) ss) ts)
      (both-fine all (paths_in n ss b) (paths_in (n + bindings_in b) ss over) (fine-in all n ss b here a)
      (fine-in all (n + bindings_in b) ss over (sits-front all (n + bindings_in b) (bindings_of over) (bindings_of_all ts) rest) a))
      (fine-among all (n + bindings_in b + bindings_in over) (with_locals (bound_itself n b) ss) ts next
      (with-are all (bound_itself n b) ss (itself-is all n b here) a))

-- ---- the local of a path

number-found : (x : List ℕ) (ls : List Local) (n : ℕ) → number_of x ls ≡ Some n → Contains ls (x, n)
number-found x [] n e = absurd cc
number-found x (l ∷ ls) n e = by (bytes_eq l.0 x) refl (λ d. number-found x ls n d) e
  where
    by : (b : Bool) → bytes_eq l.0 x ≡ b → (number_of x ls ≡ Some n → Contains ls (x, n)) →
        (if b then Some l.1 else number_of x ls) ≡ Some n → Contains (l ∷ ls) (x, n)
    by false h go d = Contains-behind l (x, n) ls (go d)
    by true h go d =
        let name : l.0 ≡ x = (bytes_eq-Decides l.0 x).0 h in
        let number : l.1 ≡ n = cc in
        subst (λ k. Contains (l ∷ ls) k) (ap (λ y. (y, l.1)) name ∙ ap (λ m. (x, m)) number) (Contains-here l ls)

pub locals_are_in_scope : LocalsAreInScope
locals_are_in_scope t p n c e = by p.names refl e
  where
    fine : AreBindings (bindings_of t) (visible p.scopes)
    fine = fine-in (bindings_of t) 0 [] t (λ i b d. subst (λ k. slice_get (bindings_of t) k ≡ Some b) (sym (zero-add i)) d)
        (none-are (bindings_of t)) p c

    by : (names : List (List ℕ)) → p.names ≡ names → local_of p.scopes names ≡ Some n → IsInScope t p n
    by [] k d = absurd cc
    by (x ∷ []) k d =
        let inside = number-found x (visible p.scopes) n d in
        let b = fine x n inside in
        record { name = x; path_is = k; binding = b.0; is_there = b.1; name_is = b.2; in_scope = inside }
    by (x ∷ y ∷ ys) k d = absurd cc
