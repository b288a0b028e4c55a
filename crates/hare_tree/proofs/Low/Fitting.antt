-- Facts on files whose trees fit.
use Rattle.std.proofs.Common.{◌≡◌, ℕ, zero, suc, ◌+◌, List, [], ◌∷◌, Bool, true, false, Some, None, take, drop, length, ◌≤◌, refl, sym, ap, ◌∙◌, arith, add-one}
use Rattle.std.specs.Prelude.{◌&&◌, nat_le, slice_get}
use Rattle.std.specs.List.{list_all}
use Rattle.std.proofs.lemmas.Bool.{and_parts}
use Rattle.hare_tree.specs.declared.form.Sort.{Sort}
use Rattle.hare_tree.specs.declared.edge.Ends.{Ends}
use Rattle.hare_tree.specs.declared.form.Lead.TheVariants as le
use Rattle.hare_tree.specs.Node.{Node, nodes_of}
use Rattle.hare_tree.specs.Spell.{spells, spell_all}
use Rattle.hare_tree.specs.Grammar.{files}
use Rattle.hare_tree.specs.Shape.{is_shaped, is_shaped_file}
use Rattle.hare_tree.specs.declared.form.Sort.TheVariants as so
use Rattle.hare_tree.specs.declared.tree.FileTree.{FileTree}
use Rattle.hare_tree.specs.Depth.{fits_as, fits_file, deep, deep_each, deep_root, begins_led, first_number, numbers_behind, height, is_nil, is_shallow}
use Rattle.hare_tree.specs.Judged.{is_low, ends_of, judged_tree, keeps_low}
use Rattle.hare_tree.proofs.Low.Limits.{is_nil-low, is_nil-append, deep-place, same_test, and_true}
use Rattle.hare_tree.proofs.Low.LowTrees.{some-if, some-is, and_true'}

-- a tree that is judged fits where it keeps the limits
pub fits-some : (s : Sort) (t : Node) (e : Ends) (k : Bool) → Some e ≡ judged_tree 511 s t → k ≡ keeps_low 511 0 false t →
    k ≡ (is_shaped s t && is_shallow t)
fits-some s t e k j d =
    let p = some-is (is_low 511 s t) (ends_of t) e j in
    let q = and_parts (is_shaped s t) (nat_le (height t) 511) p.0 in
    d ∙ rw (q.0, q.1) (and_true' (is_nil (deep 0 0 false t)))

-- any other does not fit
pub fits-none : (s : Sort) (t : Node) → None ≡ judged_tree 511 s t → false ≡ (is_shaped s t && is_shallow t)
fits-none s t j =
    let l : is_low 511 s t ≡ false = some-if _ (ends_of t) j in
    same_test _ _ (λ e. absurd cc)
    (λ e. let p = and_parts (is_shaped s t) (is_shallow t) e in let f : is_low 511 s t ≡ true =
    and_true _ _ p.0 (is_nil-low t p.1) in absurd cc)

-- ---- lists

first-and : (b c : Bool) → (b && c) ≡ ((b && true) && c)
first-and true c = refl
first-and false c = refl

all-suc : {A : Type 0} (p : A → Bool) (xs : List A) (i : ℕ) →
    list_all p (drop i xs) ≡ (list_all p (take 1 (drop i xs)) && list_all p (drop (suc i) xs))
all-suc p [] zero = refl
all-suc p [] (suc i) = refl
all-suc p (x ∷ xs) zero = first-and (p x) (list_all p xs)
all-suc p (x ∷ xs) (suc i) = all-suc p xs i

pub all-first : {A : Type 0} (p : A → Bool) (xs : List A) (i : ℕ) →
    list_all p (drop i xs) ≡ (list_all p (take 1 (drop i xs)) && list_all p (drop (i + 1) xs))
all-first p xs i = rw add-one (all-suc p xs i)

pub first-there : {A : Type 0} (p : A → Bool) (xs : List A) (i : ℕ) (x : A) → slice_get xs i ≡ Some x →
    list_all p (take 1 (drop i xs)) ≡ p x
first-there p [] i x e = absurd cc
first-there p (y ∷ ys) zero x e = let h : y ≡ x = cc in rw h (and_true' (p x))
first-there p (y ∷ ys) (suc i) x e = first-there p ys i x e

pub first-past : {A : Type 0} (p : A → Bool) (xs : List A) (i : ℕ) → length xs ≤ i → list_all p (take 1 (drop i xs)) ≡ true
first-past p [] zero e = refl
first-past p [] (suc i) e = refl
first-past p (y ∷ ys) zero e = absurd (omega arith)
first-past p (y ∷ ys) (suc i) e = first-past p ys i (omega arith)

pub all-past : {A : Type 0} (p : A → Bool) (xs : List A) (i : ℕ) → length xs ≤ i → list_all p (drop i xs) ≡ true
all-past p [] zero e = refl
all-past p [] (suc i) e = refl
all-past p (y ∷ ys) zero e = absurd (omega arith)
all-past p (y ∷ ys) (suc i) e = all-past p ys i (omega arith)

and-swapped : (a b c d : Bool) → ((a && b) && (c && d)) ≡ ((a && c) && (b && d))
and-swapped true true c d = refl
and-swapped true false true d = refl
and-swapped true false false d = refl
and-swapped false b c d = refl

pub all-both : {A : Type 0} (p q : A → Bool) (xs : List A) → list_all (λ x. p x && q x) xs ≡ (list_all p xs && list_all q xs)
all-both p q [] = refl
all-both p q (x ∷ xs) = ap (λ b. (p x && q x) && b) (all-both p q xs) ∙ and-swapped (p x) (q x) (list_all p xs) (list_all q xs)

pub file-bools : (a b c d : Bool) → ((a && c) && (b && d)) ≡ (((a && b) && c) && d)
file-bools true true c d = refl
file-bools true false true d = refl
file-bools true false false d = refl
file-bools false b c d = refl

-- a file, by its imports and its declarations
file-is : (t : FileTree) → (list_all (fits_as so.Use) t.uses && list_all (fits_as so.Decl) t.decls) ≡ fits_file t
file-is t =
    rw (all-both (λ u. is_shaped so.Use u) is_shallow t.uses, all-both (λ u. is_shaped so.Decl u) is_shallow t.decls)
    (file-bools (list_all (λ u. is_shaped so.Use u) t.uses) (list_all (λ u. is_shaped so.Decl u) t.decls) (list_all is_shallow t.uses)
    (list_all is_shallow t.decls))

pub fits-file : (t : FileTree) (a b : Bool) → a ≡ list_all (fits_as so.Use) t.uses → b ≡ list_all (fits_as so.Decl) t.decls → a ≡ true →
    b ≡ fits_file t
fits-file t a b ea eb h = let both : (a && b) ≡ fits_file t = rw (ea, eb) (file-is t) in rw h at both

pub fits-no-file : (t : FileTree) (a : Bool) → a ≡ list_all (fits_as so.Use) t.uses → a ≡ false → a ≡ fits_file t
fits-no-file t a ea h =
    let both : (a && list_all (fits_as so.Decl) t.decls) ≡ fits_file t = rw ea (file-is t) in
    h ∙ rw h at both

-- ---- where trees stand side by side

shallow_all : (ns : List ℕ) (ts : List Node) → is_nil (deep_each ns 0 false (nodes_of ts)) ≡ list_all is_shallow ts
unfolding deep
shallow_all ns [] = refl
shallow_all ns (t ∷ ts) =
    is_nil-append (deep (first_number ns) 0 false t) _
    ∙ rw (deep-place (first_number ns) 0 0 false t, shallow_all (numbers_behind ns) ts) refl

-- a file passes no limit where each of its trees keeps them
pub shallow_file : (t : FileTree) → is_nil (files.deep_of t) ≡ (list_all is_shallow t.uses && list_all is_shallow t.decls)
shallow_file t =
    let us = begins_led le.Nothing 0 (spells 0 (nodes_of t.uses)) in
    let ds = begins_led le.Nothing (length (spell_all t.file t.uses)) (spells 0 (nodes_of t.decls)) in
    is_nil-append (deep_each us 0 false (nodes_of t.uses)) (deep_each ds 0 false (nodes_of t.decls))
    ∙ rw (shallow_all us t.uses, shallow_all ds t.decls) refl

is_nil-is : (ns : List ℕ) → is_nil ns ≡ true → ns ≡ []
is_nil-is [] e = refl
is_nil-is (n ∷ ns) e = cc

-- what keeps the limits passes none
pub shallow_tree : (t : Node) → is_shallow t ≡ true → deep_root t ≡ []
shallow_tree t e = is_nil-is (deep_root t) e

-- the parts of what fits
pub fits_parts : (s : Sort) (t : Node) → fits_as s t ≡ true → (is_shaped s t ≡ true) × (deep_root t ≡ [])
fits_parts s t e = let p = and_parts (is_shaped s t) (is_shallow t) e in (p.0, shallow_tree t p.1)

pub fits_tree : (s : Sort) (t : Node) → is_shaped s t ≡ true → deep_root t ≡ [] → fits_as s t ≡ true
fits_tree s t a b = rw (a, b) refl

pub fits_file_parts : (t : FileTree) → fits_file t ≡ true → (is_shaped_file t ≡ true) × (files.deep_of t ≡ [])
fits_file_parts t e =
    let p = and_parts (is_shaped_file t && list_all is_shallow t.uses) (list_all is_shallow t.decls) e in
    let q = and_parts (is_shaped_file t) (list_all is_shallow t.uses) p.0 in
    (q.0, is_nil-is (files.deep_of t) (shallow_file t ∙ and_true (list_all is_shallow t.uses) (list_all is_shallow t.decls) q.1 p.1))

pub file_fits : (t : FileTree) → is_shaped_file t ≡ true → files.deep_of t ≡ [] → fits_file t ≡ true
file_fits t a b =
    let s : (list_all is_shallow t.uses && list_all is_shallow t.decls) ≡ true = sym (shallow_file t) ∙ ap is_nil b in
    let p = and_parts (list_all is_shallow t.uses) (list_all is_shallow t.decls) s in
    and_true _ _ (and_true _ _ a p.0) p.1
