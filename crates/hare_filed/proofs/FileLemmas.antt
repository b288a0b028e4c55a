-- The declarations of files, numbered from a first one on: where they stand, and that they stand one behind another.
use Rattle.std.proofs.Common.{◌≡◌, ◌⊎◌, inl, inr, ℕ, ◌+◌, ◌<◌, List, [], ◌∷◌, Bool, true, false, ◌&&◌, ◌||◌, ◌==◌, length, slice_get, Some}
use Rattle.std.proofs.Common.{refl, sym, ap, ◌∙◌, subst, suc, arith}
use Rattle.std.specs.Prelude.{Contains, nat_lt}
use Rattle.std.specs.List.{flat_map}
use Rattle.std.proofs.lemmas.Bool.{lt-ltb}
use Rattle.hare_tree.specs.declared.place.Place.{Place}
use Rattle.hare_tree.specs.declared.form.Sort.TheVariants as so
use Rattle.hare_tree.specs.declared.form.Lead.TheVariants as le
use Rattle.hare_tree.specs.declared.tree.FileTree.{FileTree}
use Rattle.hare_tree.specs.Node.{Head, Node, branch, head, nodes_of}
use Rattle.hare_tree.specs.Spell.{spells}
use Rattle.hare_tree.specs.Shape.{is_shaped}
use Rattle.hare_tree.specs.Depth.{begins_led}
use Rattle.hare_lex.specs.Order.{is_before}
use Rattle.hare_typed.specs.Erased.{heads, heads_each}
use Rattle.hare_modules.specs.Uses.{place_of}
use Rattle.hare_graph.proofs.Elements.{Contains-none, Contains-here}
use Rattle.hare_depends.proofs.ListLemmas.{Contains-right, Contains-either}
use Rattle.hare_names.specs.Answers.{IsFileOf}
use Rattle.hare_names.proofs.OverTokens.Ascending.{Up}
use Rattle.hare_names.proofs.OverTokens.Standing.{Standing, standing}
use Rattle.hare_whole.specs.Programs.{StandsBefore}
use Rattle.hare_filed.proofs.ListLemmas.{Precedes, precedes-append}
use Rattle.hare_filed.proofs.HeadLemmas.{is_shaped-among, decls-in-file, roots, roots-ascend}

-- these are the files from this number on
abbrev pub AreFilesFrom : ℕ → List FileTree → Type 0
AreFilesFrom k fs = (j : ℕ) (f : FileTree) → slice_get fs j ≡ Some f → IsFileOf (k + j) f

move : (k j : ℕ) → k + suc j ≡ suc k + j
move k j = omega arith

pub files-behind : (k : ℕ) (f : FileTree) (fs : List FileTree) → AreFilesFrom k (f ∷ fs) → AreFilesFrom (suc k) fs
files-behind k f fs h j g e = subst (λ n. IsFileOf n g) (move k j) (h (suc j) g e)

pub first-file : (k : ℕ) (f : FileTree) (fs : List FileTree) → AreFilesFrom k (f ∷ fs) → IsFileOf k f
first-file k f fs h = let e : k + 0 ≡ k = omega arith in subst (λ n. IsFileOf n f) e (h 0 f refl)

abbrev pub decls_from : List FileTree → List Node
decls_from fs = flat_map (λ f. f.decls) fs

-- the file in which a declaration stands
pub record InFile (k : ℕ) (fs : List FileTree) (t : Node) : Type 0 where
  pub number : ℕ
  pub file : FileTree
  pub there : slice_get fs number ≡ Some file
  pub shaped : is_shaped so.Decl t ≡ true
  pub placed : (h : Head) → Contains (heads t) h → h.place.file ≡ k + number

in-first : (k : ℕ) (f : FileTree) (fs : List FileTree) (t : Node) → IsFileOf k f → Contains f.decls t → InFile k (f ∷ fs) t
in-first k f fs t h c =
    let s = standing k f h in
    let zero-more : k ≡ k + 0 = omega arith in
    let file : f.file ≡ k + 0 = s.file_is ∙ zero-more in
    record {
      number = 0;
      file = f;
      there = refl;
      shaped = is_shaped-among f.decls t s.shaped c;
      placed = λ g d. decls-in-file f.file s.ws s.first s.high (begins_led le.Nothing s.first (spells 0 (nodes_of f.decls))) f.decls
          (subst (λ n. Up n s.ws) (sym s.file_is) s.up) s.turns s.shaped s.placed s.enough t c g d ∙ file;
    }

pub in-file : (k : ℕ) (fs : List FileTree) (t : Node) → AreFilesFrom k fs → Contains (decls_from fs) t → InFile k fs t
in-file k [] t h c = absurd (Contains-none t c)
in-file k (f ∷ fs) t h c =
    by (λ d. in-file (suc k) fs t (files-behind k f fs h) d) (Contains-either t f.decls (decls_from fs) c)
  where
    by : (Contains (decls_from fs) t → InFile (suc k) fs t) → Contains f.decls t ⊎ Contains (decls_from fs) t → InFile k (f ∷ fs) t
    by go (inl d) = in-first k f fs t (first-file k f fs h) d
    by go (inr d) =
        let m = go d in
        record {
          number = suc m.number;
          file = m.file;
          there = m.there;
          shaped = m.shaped;
          placed = λ g e. m.placed g e ∙ sym (move k m.number);
        }

own-head : (t : Node) → Contains (heads t) (head t)
own-head (branch h ts) = Contains-right h (heads_each ts) (h ∷ []) (Contains-here h [])

pub root-file : (k : ℕ) (fs : List FileTree) (t : Node) (m : InFile k fs t) → (place_of t).file ≡ k + m.number
root-file k fs t m = m.placed (head t) (own-head t)

-- a declaration of the first file stands there
pub first-root-file : (k : ℕ) (f : FileTree) (t : Node) → IsFileOf k f → Contains f.decls t → (place_of t).file ≡ k
first-root-file k f t h c =
    let s = standing k f h in
    decls-in-file f.file s.ws s.first s.high (begins_led le.Nothing s.first (spells 0 (nodes_of f.decls))) f.decls
    (subst (λ n. Up n s.ws) (sym s.file_is) s.up) s.turns s.shaped s.placed s.enough t c (head t) (own-head t) ∙ s.file_is

-- ---- one behind another

earlier-file : (p q : Place) → p.file < q.file → is_before p q ≡ true
earlier-file p q l = first (nat_lt p.file q.file)
    (p.file == q.file && (nat_lt p.line q.line || (p.line == q.line && nat_lt p.column q.column))) (lt-ltb p.file q.file l)
  where
    first : (a b : Bool) → a ≡ true → (a || b) ≡ true
    first true b e = refl
    first false b e = absurd cc

pub decls-ascend : (k : ℕ) (fs : List FileTree) (t u : Node) → AreFilesFrom k fs → Precedes (decls_from fs) t u →
    is_before (place_of t) (place_of u) ≡ true
decls-ascend k [] t u h p = absurd p
decls-ascend k (f ∷ fs) t u h p =
    by (λ q. decls-ascend (suc k) fs t u (files-behind k f fs h) q) (precedes-append f.decls (decls_from fs) t u p)
  where
    s : Standing k f
    s = standing k f (first-file k f fs h)

    inside : Precedes f.decls t u → is_before (place_of t) (place_of u) ≡ true
    inside q =
        let l : s.high < length s.ws = s.enough in
        roots-ascend k s.ws s.first s.high f.decls t u s.up (omega arith)
        (roots f.file s.ws s.first s.high (begins_led le.Nothing s.first (spells 0 (nodes_of f.decls))) f.decls s.turns s.shaped s.placed) q

    across : Contains f.decls t → Contains (decls_from fs) u → is_before (place_of t) (place_of u) ≡ true
    across c d =
        let n = in-file (suc k) fs u (files-behind k f fs h) d in
        let a : (place_of t).file ≡ k = first-root-file k f t (first-file k f fs h) c in
        let b : (place_of u).file ≡ suc k + n.number = root-file (suc k) fs u n in
        earlier-file (place_of t) (place_of u) (omega (arith, a, b))

    by : (Precedes (decls_from fs) t u → is_before (place_of t) (place_of u) ≡ true) →
        Precedes f.decls t u ⊎ ((Contains f.decls t × Contains (decls_from fs) u) ⊎ Precedes (decls_from fs) t u) →
        is_before (place_of t) (place_of u) ≡ true
    by go (inl q) = inside q
    by go (inr (inl q)) = across q.0 q.1
    by go (inr (inr q)) = go q

pub stands_before : (p q : Place) → is_before p q ≡ true → StandsBefore p q
stands_before p q e = ap (λ b. nat_lt p.file q.file || (p.file == q.file && (nat_lt p.line q.line || (p.line == q.line && b))))
    (last (nat_lt p.column q.column) (p.column == q.column)) ∙ e
  where
    last : (a b : Bool) → (a || (b && false)) ≡ a
    last true b = refl
    last false true = refl
    last false false = refl
