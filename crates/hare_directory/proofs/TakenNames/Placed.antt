-- The names that are taken are in the modules and files of the program.
use Rattle.std.proofs.Common.{◌≡◌, ◌⊎◌, inl, inr, ℕ, ◌+◌, ◌<◌, ◌≤◌, List, [], ◌∷◌, ◌++◌, length, map, slice_get, Some, refl, sym, subst, suc, add-zero, arith}
use Rattle.std.specs.Prelude.{Contains}
use Rattle.std.specs.List.{flat_map}
use Rattle.std.proofs.lemmas.List.Elements.{Contains-append_cases}
use Rattle.hare_tree.specs.declared.tree.FileTree.{FileTree}
use Rattle.hare_tree.specs.Node.{Node, head}
use Rattle.hare_modules.specs.declared.claims.Taker.{Taker}
use Rattle.hare_modules.specs.declared.claims.Taker.TheVariants as ta
use Rattle.hare_modules.specs.Modules.{Module}
use Rattle.hare_modules.specs.Uses.{names_brought, is_braced}
use Rattle.hare_modules.specs.Declarations.{name_in}
use Rattle.hare_modules.specs.Entries.{entry_of}
use Rattle.hare_modules.specs.Numbering.{AreHomes}
use Rattle.hare_modules.specs.Takings.{Taking, named, import_taker, number_used, use_takings, decl_takings, takings}
use Rattle.hare_graph.proofs.Elements.{Contains-none, Contains-cases}
use Rattle.hare_modules.proofs.NumberLemmas.{get-within}
use Rattle.hare_modules.proofs.TellsLemmas.{IsPlaced, ArePlaced}
use Rattle.std.specs.Prelude.{not}

module _ (at : ℕ → ℕ) (modules files : ℕ) where
  one-placed : (f h : ℕ) (r : Taker) (t : Node) → at f ≡ h → h < modules → f < files → IsPlaced at modules files (named f h r t)
  one-placed f h r t e l k = record { home_within = l; file_within = k; filed = λ i. sym e }

  names-placed : (f h : ℕ) (r : Taker) (ns : List Node) → at f ≡ h → h < modules → f < files →
      ArePlaced at modules files (map (named f h r) ns)
  names-placed f h r [] e l k q c = absurd (Contains-none q c)
  names-placed f h r (t ∷ ts) e l k q c = by (names-placed f h r ts e l k q) (Contains-cases (named f h r t) q (map (named f h r) ts) c)
    where
      by : (Contains (map (named f h r) ts) q → IsPlaced at modules files q) → (named f h r t ≡ q) ⊎ Contains (map (named f h r) ts) q →
          IsPlaced at modules files q
      by more (inl d) = subst (IsPlaced at modules files) d (one-placed f h r t e l k)
      by more (inr d) = more d

  both-placed : (js ks : List Taking) → ArePlaced at modules files js → ArePlaced at modules files ks →
      ArePlaced at modules files (js ++ ks)
  both-placed js ks p q k c = by (Contains-append_cases js ks k c)
    where
      by : Contains js k ⊎ Contains ks k → IsPlaced at modules files k
      by (inl d) = p k d
      by (inr d) = q k d

  uses-placed : (known : List Module) (f h : ℕ) (us : List Node) → at f ≡ h → h < modules → f < files →
      ArePlaced at modules files (flat_map (use_takings known f h) us)
  uses-placed known f h [] e l k = λ q c. absurd (Contains-none q c)
  uses-placed known f h (u ∷ us) e l k =
      both-placed (use_takings known f h u) (flat_map (use_takings known f h) us)
      (names-placed f h (import_taker (number_used known u) (not (is_braced (head u).kind))) (names_brought u) e l k)
      (uses-placed known f h us e l k)

  decls-placed : (f h n : ℕ) (ts : List Node) → at f ≡ h → h < modules → f < files → ArePlaced at modules files (decl_takings f h n ts)
  decls-placed f h n [] e l k q c = absurd (Contains-none q c)
  decls-placed f h n (t ∷ ts) e l k q c = by (decls-placed f h (n + 1) ts e l k q) (Contains-cases one q (decl_takings f h (n + 1) ts) c)
    where
      one : Taking
      one = named f h (ta.Declaration (entry_of t n)) (name_in t)

      by : (Contains (decl_takings f h (n + 1) ts) q → IsPlaced at modules files q) → (one ≡ q) ⊎ Contains (decl_takings f h (n + 1) ts) q →
          IsPlaced at modules files q
      by more (inl d) = subst (IsPlaced at modules files) d (one-placed f h (ta.Declaration (entry_of t n)) (name_in t) e l k)
      by more (inr d) = more d

  pub takings-placed : (known : List Module) (f n : ℕ) (ms : List Module) (hs : List ℕ) (ts : List FileTree) → length known ≡ modules →
      AreHomes known ms hs → ((i h : ℕ) → slice_get hs i ≡ Some h → at (f + i) ≡ h) → f + length ts ≤ files →
      ArePlaced at modules files (takings known f n hs ts)
  takings-placed known f n ms [] ts z a e l = λ q c. absurd (Contains-none q c)
  takings-placed known f n ms (h ∷ hs) [] z a e l = λ q c. absurd (Contains-none q c)
  takings-placed known f n [] (h ∷ hs) (t ∷ ts) z a e l = absurd a
  takings-placed known f n (m ∷ ms) (h ∷ hs) (t ∷ ts) z a e l =
      let here : at f ≡ h = subst (λ i. at i ≡ h) (add-zero f) (e 0 h refl) in
      let w : h < modules = subst (λ i. h < i) z (get-within known h m a.0) in
      let k : f < files = omega arith in
      let next : (i g : ℕ) → slice_get hs i ≡ Some g → at (f + 1 + i) ≡ g = λ i g d.
      (let j : f + suc i ≡ f + 1 + i = omega arith in subst (λ v. at v ≡ g) j (e (suc i) g d)) in
      both-placed (flat_map (use_takings known f h) t.uses ++ decl_takings f h n t.decls) (takings known (f + 1) (n + length t.decls) hs ts)
      (both-placed (flat_map (use_takings known f h) t.uses) (decl_takings f h n t.decls) (uses-placed known f h t.uses here w k)
      (decls-placed f h n t.decls here w k))
      (takings-placed known (f + 1) (n + length t.decls) ms hs ts z a.1 next (omega arith))
