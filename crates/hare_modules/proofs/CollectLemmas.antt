-- What is collected, element by element.
use Rattle.std.proofs.Common.{◌≡◌, ℕ, ◌+◌, ◌<◌, ◌^◌, List, [], ◌∷◌, ◌++◌, Bool, true, false, cond, not, length, get_or, map, filter, drop, sum_by, slice_get, Option, Some, None, IfSome, refl, sym, ap, ◌∙◌, suc, zero, append_assoc, drop-cons, add-one, arith}
use Rattle.std.specs.List.{flat_map}
use Rattle.std.proofs.lemmas.List.Sums.{sum_by-cons}
use Rattle.hare_tree.specs.declared.tree.FileTree.{FileTree}
use Rattle.hare_tree.specs.Node.{Head, Node, branch, head, nodes_of}
use Rattle.hare_modules.specs.declared.claims.Taker.TheVariants as ta
use Rattle.hare_modules.specs.Uses.{kid, kids, path_in, last_of, is_name_tree, is_plain, is_alias, is_braced, names_brought}
use Rattle.hare_modules.specs.Entries.{entry_of}
use Rattle.hare_modules.specs.Declarations.{name_in}
use Rattle.hare_modules.specs.Takings.{Using, Taking, using_of, usings, takings, use_takings, decl_takings, named}
use Rattle.hare_modules.proofs.ListLemmas.{drop-there}

-- A list that is made of another from the front on: what the first element gives, and what those behind it give.
pub one_on : {A B : Type 0} (F : List A → List B) (xs : List A) (i : ℕ) (x : A) (here done new all : List B) → slice_get xs i ≡ Some x →
    F (x ∷ drop (i + 1) xs) ≡ here ++ F (drop (i + 1) xs) → new ≡ done ++ here → done ++ F (drop i xs) ≡ all →
    new ++ F (drop (i + 1) xs) ≡ all
one_on F xs i x here done new all e split n h =
    rw n (append_assoc done here (F (drop (i + 1) xs)) ∙ ap (λ s. done ++ s) (sym split) ∙ ap (λ ys. done ++ F ys)
    (sym (drop-there xs i x e)) ∙ h)

pub filter-front : {A : Type 0} (p : A → Bool) (x : A) (xs : List A) → filter p (x ∷ xs) ≡ filter p (x ∷ []) ++ filter p xs
filter-front p x xs = by (p x)
  where
    by : (b : Bool) → cond b (x ∷ filter p xs) (filter p xs) ≡ cond b (x ∷ []) [] ++ filter p xs
    by true = refl
    by false = refl

pub map-append : {A B : Type 0} (f : A → B) (xs ys : List A) → map f (xs ++ ys) ≡ map f xs ++ map f ys
map-append f [] ys = refl
map-append f (x ∷ xs) ys = ap (λ zs. f x ∷ zs) (map-append f xs ys)

-- ---- the last tree of a list

pub if_some : {A : Type 0} {P Q : A → Type 0} (o : Option A) → IfSome o P → ((a : A) → P a → Q a) → IfSome o Q
if_some None p f = p
if_some (Some a) p f = f a p

pub last_of-there : (ts : List Node) (n : ℕ) (t : Node) → slice_get ts n ≡ Some t → n + 1 ≡ length ts → last_of ts ≡ t ∷ []
last_of-there [] n t e l = absurd cc
last_of-there (u ∷ []) zero t e l = let h : u ≡ t = cc in ap (λ v. v ∷ []) h
last_of-there (u ∷ []) (suc n) t e l = absurd cc
last_of-there (u ∷ v ∷ us) zero t e l = absurd (omega arith)
last_of-there (u ∷ v ∷ us) (suc n) t e l = last_of-there (v ∷ us) n t e (omega arith)

-- ---- the names that an import brings in

kind_is : (h : Head) (ts : List Node) (t : Node) → branch h (nodes_of ts) ≡ t → h.kind ≡ (head t).kind
kind_is h ts t e = ap (λ u. (head u).kind) e

module _ (h : Head) (us : List Node) (u : Node) (seen : branch h (nodes_of us) ≡ u) where
  pub whole-is : (b : Bool) → b ≡ is_braced h.kind → b ≡ is_braced (head u).kind
  whole-is b e = e ∙ ap is_braced (kind_is h us u seen)

  pub brought-plain : is_plain h.kind ≡ true → names_brought u ≡ last_of (kids (path_in u))
  brought-plain p = let e : is_plain (head u).kind ≡ true = sym (ap is_plain (kind_is h us u seen)) ∙ p in rw e refl

  pub brought-alias : is_plain h.kind ≡ false → is_alias h.kind ≡ true → names_brought u ≡ kid u 0 ∷ []
  brought-alias p a =
      let e : is_plain (head u).kind ≡ false = sym (ap is_plain (kind_is h us u seen)) ∙ p in
      let f : is_alias (head u).kind ≡ true = sym (ap is_alias (kind_is h us u seen)) ∙ a in
      by (is_plain (head u).kind) (is_alias (head u).kind) e f
    where
      by : (c d : Bool) → c ≡ false → d ≡ true →
          cond c (last_of (kids (path_in u))) (cond d (kid u 0 ∷ []) (cond (is_braced (head u).kind) (filter is_name_tree (kids u)) [])) ≡
          kid u 0 ∷ []
      by true d c e = absurd cc
      by false true c e = refl
      by false false c e = absurd cc

  abbrev others : Bool → Bool → Bool → List Node
  others c d b = cond c (last_of (kids (path_in u))) (cond d (kid u 0 ∷ []) (cond b (filter is_name_tree (kids u)) []))

  pub brought-others : (b : Bool) → is_plain h.kind ≡ false → is_alias h.kind ≡ false → is_braced h.kind ≡ b →
      names_brought u ≡ cond b (filter is_name_tree (kids u)) []
  brought-others b p a k =
      ap (λ c. others c (is_alias (head u).kind) (is_braced (head u).kind)) (sym (ap is_plain (kind_is h us u seen)) ∙ p)
      ∙ ap (λ d. others false d (is_braced (head u).kind)) (sym (ap is_alias (kind_is h us u seen)) ∙ a)
      ∙ ap (λ c. others false false c) (sym (ap is_braced (kind_is h us u seen)) ∙ k)

-- ---- files

pub usings-none : (known : List (List ℕ)) (hs : List ℕ) → usings known hs [] ≡ []
usings-none known [] = refl
usings-none known (h ∷ hs) = refl

pub takings-none : (known : List (List ℕ)) (f n : ℕ) (hs : List ℕ) → takings known f n hs [] ≡ []
takings-none known f n [] = refl
takings-none known f n (h ∷ hs) = refl

drop-front : (hs : List ℕ) (i : ℕ) → i < length hs → drop i hs ≡ get_or hs i 0 ∷ drop (i + 1) hs
drop-front hs i l = rw add-one (drop-cons hs i 0 l)

-- a file more
pub usings-on : (known : List (List ℕ)) (hs : List ℕ) (ts : List FileTree) (i : ℕ) (t : FileTree) (done new all : List Using) →
    i < length hs → slice_get ts i ≡ Some t → new ≡ done ++ map (using_of known (get_or hs i 0)) t.uses →
    done ++ usings known (drop i hs) (drop i ts) ≡ all → new ++ usings known (drop (i + 1) hs) (drop (i + 1) ts) ≡ all
usings-on known hs ts i t done new all l e n h =
    let here = map (using_of known (get_or hs i 0)) t.uses in
    rw n (append_assoc done here _
    ∙ ap (λ ys. done ++ usings known ys (t ∷ drop (i + 1) ts)) (sym (drop-front hs i l))
    ∙ ap (λ ys. done ++ usings known (drop i hs) ys) (sym (drop-there ts i t e)) ∙ h)

-- the names of a file more
pub takings-on : (known : List (List ℕ)) (hs : List ℕ) (ts : List FileTree) (i n : ℕ) (t : FileTree) (done new imports all : List Taking) →
    i < length hs → slice_get ts i ≡ Some t → imports ≡ done ++ flat_map (use_takings known i (get_or hs i 0)) t.uses →
    new ≡ imports ++ decl_takings i (get_or hs i 0) n t.decls → done ++ takings known i n (drop i hs) (drop i ts) ≡ all →
    new ++ takings known (i + 1) (n + length t.decls) (drop (i + 1) hs) (drop (i + 1) ts) ≡ all
takings-on known hs ts i n t done new imports all l e m k h =
    let us = flat_map (use_takings known i (get_or hs i 0)) t.uses in
    let ds = decl_takings i (get_or hs i 0) n t.decls in
    let rest = takings known (i + 1) (n + length t.decls) (drop (i + 1) hs) (drop (i + 1) ts) in
    let whole : new ++ rest ≡ done ++ (us ++ ds ++ rest) =
    rw (k, m) (append_assoc (done ++ us) ds rest ∙ append_assoc done us (ds ++ rest) ∙ ap (λ s. done ++ s)
    (sym (append_assoc us ds rest))) in
    whole
    ∙ ap (λ ys. done ++ takings known i n ys (t ∷ drop (i + 1) ts)) (sym (drop-front hs i l))
    ∙ ap (λ ys. done ++ takings known i n (drop i hs) ys) (sym (drop-there ts i t e)) ∙ h

-- a declaration more
pub decls-on : (f h n : ℕ) (ts : List Node) (i : ℕ) (t : Node) (done new all : List Taking) → slice_get ts i ≡ Some t →
    new ≡ done ++ named f h (ta.Declaration (entry_of t n)) (name_in t) ∷ [] → done ++ decl_takings f h n (drop i ts) ≡ all →
    new ++ decl_takings f h (n + 1) (drop (i + 1) ts) ≡ all
decls-on f h n ts i t done new all e m k =
    rw m (append_assoc done (named f h (ta.Declaration (entry_of t n)) (name_in t) ∷ []) _ ∙ ap (λ ys. done ++ decl_takings f h n ys)
    (sym (drop-there ts i t e)) ∙ k)

pub few-on : (ts : List FileTree) (i n : ℕ) (t : FileTree) → slice_get ts i ≡ Some t →
    n + sum_by (λ u. length u.decls) (drop i ts) < 2 ^ 32 → n + length t.decls + sum_by (λ u. length u.decls) (drop (i + 1) ts) < 2 ^ 32
few-on ts i n t e l =
    let s : sum_by (λ u. length u.decls) (drop i ts) ≡ length t.decls + sum_by (λ u. length u.decls) (drop (i + 1) ts) =
    ap (sum_by (λ u. length u.decls)) (drop-there ts i t e) ∙ sum_by-cons (λ u. length u.decls) t (drop (i + 1) ts) in
    omega (arith, s)

-- what was taken of the names that an import brings in
pub took : (f : Bool → Node → Taking) (old new : List Taking) (b b' : Bool) (ns ns' : List Node) → new ≡ old ++ map (f (not b)) ns →
    b ≡ b' → ns' ≡ ns → new ≡ old ++ map (f (not b')) ns'
took f old new b b' ns ns' e p q = e ∙ ap (λ w. old ++ map (f (not w)) ns) p ∙ ap (λ ms. old ++ map (f (not b')) ms) (sym q)
