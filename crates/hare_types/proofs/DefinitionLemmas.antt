-- What holds of definitions, as the store grows.
use Rattle.std.proofs.Common.{◌≡◌, ◌≢◌, ℕ, ◌<◌, Bool, true, false, List, [], ◌∷◌, length, Option, Some, None, refl, ap, sym, ◌∙◌, subst, arith, cond, nat_eq, true≢false, ◌⊎◌, inl, inr}
use Rattle.std.specs.Prelude.{slice_get, slice_index_or, option_map, option_and_then}
use Rattle.std.specs.Map.{lookup}
use Rattle.std.specs.Cmp.{unsigned_Decides}
use Rattle.std.proofs.lemmas.Option.{slice_get-get_or}
use Rattle.hare_types.specs.declared.row.Row.{Row}
use Rattle.hare_types.specs.declared.row.Scalar.TheVariants as keyword
use Rattle.hare_types.specs.declared.declared.Declared.{Declared}
use Rattle.hare_types.specs.Trees.{Tree, Scalar, Pointer, Nullable, Slice, Array, Struct, Tuple, Union, Error, Named}
use Rattle.hare_types.specs.Rows.{trees}
use Rattle.hare_types.specs.ByValue.{has_size_by, Leads}
use Rattle.hare_types.proofs.TreeLemmas.{length-trees}

-- where more is known of names, more is known of types
pub has_size_by-more : (old new : ℕ → Option Bool) → ((d : ℕ) (b : Bool) → old d ≡ Some b → new d ≡ Some b) → (t : Tree) (b : Bool) →
    has_size_by old t ≡ Some b → has_size_by new t ≡ Some b
has_size_by-more old new more (Scalar k) b e = e
has_size_by-more old new more (Pointer t) b e = e
has_size_by-more old new more (Nullable t) b e = e
has_size_by-more old new more (Slice t) b e = e
has_size_by-more old new more (Array n t) b e = e
has_size_by-more old new more (Struct ns ts) b e = e
has_size_by-more old new more (Tuple ts) b e = e
has_size_by-more old new more (Union ts) b e = e
has_size_by-more old new more (Error t) b e = has_size_by-more old new more t b e
has_size_by-more old new more (Named d) b e = more d b e

-- a way goes on to lead there
pub Leads-more : (old new : ℕ → Option Tree) → ((d : ℕ) (u : Tree) → old d ≡ Some u → new d ≡ Some u) → (t : Tree) (way : List ℕ) (d : ℕ) →
    Leads old t way d → Leads new t way d
Leads-more old new more t [] d h = h
Leads-more old new more t (e ∷ way) d h = (h.0, (h.1.0, more e h.1.0 h.1.1, Leads-more old new more h.1.0 way d h.1.2))

-- a definition whose tree stays keeps its meaning
pub meaning_kept : (rows new : List Row) → ((i : ℕ) (u : Tree) → slice_get (trees rows) i ≡ Some u → slice_get (trees new) i ≡ Some u)
    → (o : Option ℕ) → ((t : ℕ) → o ≡ Some t → t < length rows) → option_and_then (λ t. slice_get (trees new) t) o ≡ option_and_then
    (λ t. slice_get (trees rows) t) o
meaning_kept rows new kept None within = refl
meaning_kept rows new kept (Some t) within =
    let n = length-trees rows in
    let l : t < length (trees rows) = omega (arith, within t refl) in
    let u = slice_index_or (trees rows) t (Scalar keyword.Void) in
    let e : slice_get (trees rows) t ≡ Some u = slice_get-get_or (trees rows) t (Scalar keyword.Void) l in
    kept t u e ∙ sym e

-- ---- one more declaration

module _ (es new : List (ℕ × Declared)) (d : ℕ) (fresh : Declared) (plain : fresh.definition ≡ None) (none : lookup (nat_eq d) es ≡ None)
    (put : (q : ℕ) → lookup (nat_eq q) new ≡ cond (nat_eq d q) (Some fresh) (lookup (nat_eq q) es)) where
  -- the names are told apart
  here_or_there : (q : ℕ) → ((d ≡ q) × (lookup (nat_eq q) es ≡ None) × (lookup (nat_eq q) new ≡ Some fresh)) ⊎
      (lookup (nat_eq q) new ≡ lookup (nat_eq q) es)
  here_or_there q = by (nat_eq d q) refl
    where
      by : (b : Bool) → nat_eq d q ≡ b → ((d ≡ q) × (lookup (nat_eq q) es ≡ None) × (lookup (nat_eq q) new ≡ Some fresh)) ⊎
          (lookup (nat_eq q) new ≡ lookup (nat_eq q) es)
      by true e =
          let same : d ≡ q = (unsigned_Decides d q).0 e in
          inl (same, subst (λ n. lookup (nat_eq n) es ≡ None) same none, put q ∙ ap (λ b. cond b (Some fresh) (lookup (nat_eq q) es)) e)
      by false e = inr (put q ∙ ap (λ b. cond b (Some fresh) (lookup (nat_eq q) es)) e)

  -- no definition comes or goes
  pub declared-definition : (q : ℕ) → option_and_then (λ e. e.definition) (lookup (nat_eq q) new) ≡ option_and_then (λ e. e.definition)
      (lookup (nat_eq q) es)
  declared-definition q = by (here_or_there q)
    where
      by : ((d ≡ q) × (lookup (nat_eq q) es ≡ None) × (lookup (nat_eq q) new ≡ Some fresh)) ⊎ (lookup (nat_eq q) new ≡ lookup (nat_eq q) es)
          → option_and_then (λ e. e.definition) (lookup (nat_eq q) new) ≡ option_and_then (λ e. e.definition) (lookup (nat_eq q) es)
      by (inl h) = ap (option_and_then (λ e. e.definition)) h.2 ∙ plain ∙ sym (ap (option_and_then (λ e. e.definition)) h.1)
      by (inr h) = ap (option_and_then (λ e. e.definition)) h

  -- what was known of sizes stays
  pub declared-sized : (q : ℕ) (b : Bool) → option_map (λ e. e.sized) (lookup (nat_eq q) es) ≡ Some b →
      option_map (λ e. e.sized) (lookup (nat_eq q) new) ≡ Some b
  declared-sized q b known = by (here_or_there q)
    where
      by : ((d ≡ q) × (lookup (nat_eq q) es ≡ None) × (lookup (nat_eq q) new ≡ Some fresh)) ⊎ (lookup (nat_eq q) new ≡ lookup (nat_eq q) es)
          → option_map (λ e. e.sized) (lookup (nat_eq q) new) ≡ Some b
      by (inl h) =
          let gone : option_map (λ e. e.sized) (lookup (nat_eq q) es) ≡ None = ap (option_map (λ e. e.sized)) h.1 in
          absurd cc
      by (inr h) = ap (option_map (λ e. e.sized)) h ∙ known

-- ---- one more definition

module _ (es new : List (ℕ × Declared)) (d t : ℕ) (entry : Declared) (was : lookup (nat_eq d) es ≡ Some entry)
    (put : (q : ℕ) → lookup (nat_eq q) new ≡ cond (nat_eq d q) (Some (record entry { definition = Some t })) (lookup (nat_eq q) es)) where
  -- the names are told apart
  pub defined_cases : (q : ℕ) → ((d ≡ q) × (lookup (nat_eq q) es ≡ Some entry) ×
      (lookup (nat_eq q) new ≡ Some (record entry { definition = Some t }))) ⊎ ((d ≢ q) × (lookup (nat_eq q) new ≡ lookup (nat_eq q) es))
  defined_cases q = by (nat_eq d q) refl
    where
      by : (b : Bool) → nat_eq d q ≡ b →
          ((d ≡ q) × (lookup (nat_eq q) es ≡ Some entry) × (lookup (nat_eq q) new ≡ Some (record entry { definition = Some t }))) ⊎
          ((d ≢ q) × (lookup (nat_eq q) new ≡ lookup (nat_eq q) es))
      by true e =
          let same : d ≡ q = (unsigned_Decides d q).0 e in
          inl (
            same,
            subst (λ n. lookup (nat_eq n) es ≡ Some entry) same was,
            put q ∙ ap
                (λ b. cond b (Some (record entry { definition = Some t })) (lookup (nat_eq q) es)) e,
          )
      by false e =
          inr (
            λ s. true≢false (sym ((unsigned_Decides d q).1 s) ∙ e),
            put q ∙ ap
                (λ b. cond b (Some (record entry { definition = Some t })) (lookup (nat_eq q) es)) e,
          )

  -- sizes stay
  pub defined-sized : (q : ℕ) → option_map (λ e. e.sized) (lookup (nat_eq q) new) ≡ option_map (λ e. e.sized) (lookup (nat_eq q) es)
  defined-sized q = by (defined_cases q)
    where
      by : ((d ≡ q) × (lookup (nat_eq q) es ≡ Some entry) × (lookup (nat_eq q) new ≡ Some (record entry { definition = Some t }))) ⊎
          ((d ≢ q) × (lookup (nat_eq q) new ≡ lookup (nat_eq q) es))
          → option_map (λ e. e.sized) (lookup (nat_eq q) new) ≡ option_map (λ e. e.sized) (lookup (nat_eq q) es)
      by (inl h) = ap (option_map (λ e. e.sized)) h.2 ∙ sym (ap (option_map (λ e. e.sized)) h.1)
      by (inr h) = ap (option_map (λ e. e.sized)) h.1

  -- the name has its definition
  pub defined-here : option_and_then (λ e. e.definition) (lookup (nat_eq d) new) ≡ Some t
  defined-here = by (defined_cases d)
    where
      by : ((d ≡ d) × (lookup (nat_eq d) es ≡ Some entry) × (lookup (nat_eq d) new ≡ Some (record entry { definition = Some t }))) ⊎
          ((d ≢ d) × (lookup (nat_eq d) new ≡ lookup (nat_eq d) es))
          → option_and_then (λ e. e.definition) (lookup (nat_eq d) new) ≡ Some t
      by (inl h) = ap (option_and_then (λ e. e.definition)) h.2
      by (inr h) = absurd (h.0 refl)

  -- and the other names have theirs
  pub defined-there : (q : ℕ) → (d ≡ q) ⊎
      (option_and_then (λ e. e.definition) (lookup (nat_eq q) new) ≡ option_and_then (λ e. e.definition) (lookup (nat_eq q) es))
  defined-there q = by (defined_cases q)
    where
      by : ((d ≡ q) × (lookup (nat_eq q) es ≡ Some entry) × (lookup (nat_eq q) new ≡ Some (record entry { definition = Some t }))) ⊎
          ((d ≢ q) × (lookup (nat_eq q) new ≡ lookup (nat_eq q) es))
          → (d ≡ q) ⊎ (option_and_then (λ e. e.definition) (lookup (nat_eq q) new) ≡ option_and_then (λ e. e.definition)
          (lookup (nat_eq q) es))
      by (inl h) = inl h.0
      by (inr h) = inr (ap (option_and_then (λ e. e.definition)) h.1)
