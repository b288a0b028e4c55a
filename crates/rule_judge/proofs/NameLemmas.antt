-- A type has a base where each name that it mentions is defined, since no name comes back to itself.
use Rattle.std.proofs.Common.{◌≡◌, ℕ, zero, suc, ◌<◌, Bool, true, false, cond, nat_eq, true≢false, List, [], ◌∷◌, length, map, Option, Some, None, IsSome, refl, ap, sym, ◌∙◌, subst, arith, ◌⊎◌, inl, inr}
use Rattle.std.specs.Prelude.{Contains, option_and_then}
use Rattle.std.specs.Cmp.{unsigned_Decides}
use Rattle.std.specs.Map.{lookup}
use Rattle.std.specs.List.{cons_option}
use Rattle.std.proofs.lemmas.List.{length-map}
use Rattle.hare_types.specs.declared.declared.Declared.{Declared}
use Rattle.hare_types.specs.declared.row.Row.{Row}
use Rattle.hare_types.specs.declared.row.Row.TheVariants as row
use Rattle.hare_types.specs.Trees.{Tree, Scalar, Pointer, Nullable, Slice, Array, Struct, Tuple, Union, Error, Named}
use Rattle.hare_types.specs.Store.{Store, tree_at, definition_of, meaning_of}
use Rattle.hare_types.specs.Sound.{IsStore}
use Rattle.hare_types.specs.ByValue.{held, Leads}
use Rattle.hare_types.specs.ByIds.{row_at, base_at}
use Rattle.hare_types.specs.Layout.{following, base_with}
use Rattle.hare_types.specs.Assign.{type_at, base}
use Rattle.hare_assign.proofs.TypeLemmas.{type_at_row, tree_at-type}
use Rattle.hare_assign.proofs.ChosenLemmas.{base_none}
use Rattle.rule_judge.specs.Defined.{Mentions, itself, through, IsDefined}
use Rattle.rule_judge.proofs.DefinedLemmas.{row_of, defined_part, defined_mentioned}

-- ---- the name in front

-- the name that a type is, behind its error marks
abbrev top : Tree → Option ℕ
top (Error t) = top t
top (Named d) = Some d
top (Scalar k) = None
top (Pointer t) = None
top (Nullable t) = None
top (Slice t) = None
top (Array n t) = None
top (Struct ns ts) = None
top (Tuple ts) = None
top (Union ts) = None

top-held : (t : Tree) (d : ℕ) → top t ≡ Some d → Contains (held t) d
top-held (Error t) d e = top-held t d e
top-held (Named n) d e = let same : n ≡ d = cc in subst (λ q. Contains (n ∷ []) q) same (0, omega arith, refl)
top-held (Scalar k) d e = absurd cc
top-held (Pointer t) d e = absurd cc
top-held (Nullable t) d e = absurd cc
top-held (Slice t) d e = absurd cc
top-held (Array n t) d e = absurd cc
top-held (Struct ns ts) d e = absurd cc
top-held (Tuple ts) d e = absurd cc
top-held (Union ts) d e = absurd cc

-- the base rests on that name alone
base-top : (named : ℕ → Option Tree) (t : Tree) → ((d : ℕ) → top t ≡ Some d → IsSome (named d)) → IsSome (base_with named t)
base-top named (Error t) h = base-top named t h
base-top named (Named d) h = h d refl
base-top named (Scalar k) h = refl
base-top named (Pointer t) h = refl
base-top named (Nullable t) h = refl
base-top named (Slice t) h = refl
base-top named (Array n t) h = refl
base-top named (Struct ns ts) h = refl
base-top named (Tuple ts) h = refl
base-top named (Union ts) h = refl

-- a way from the type to a name, from each front to the next
abbrev Tops : (ℕ → Option Tree) → Tree → List ℕ → ℕ → Type 0
Tops m t [] d = top t ≡ Some d
Tops m t (e ∷ way) d = (top t ≡ Some e) × ((u : Tree) × (m e ≡ Some u) × Tops m u way d)

Tops-lead : (m : ℕ → Option Tree) (t : Tree) (way : List ℕ) (d : ℕ) → Tops m t way d → Leads m t way d
Tops-lead m t [] d h = top-held t d h
Tops-lead m t (e ∷ way) d h = (top-held t e h.0, (h.1.0, h.1.1, Tops-lead m h.1.0 way d h.1.2))

-- ---- the names that are left

abbrev Among : List ℕ → ℕ → Type 0
Among [] q = ⊥
Among (d ∷ ds) q = (d ≡ q) ⊎ Among ds q

-- the names but the first that is d
abbrev rest_of : ℕ → List ℕ → List ℕ
rest_of d [] = []
rest_of d (e ∷ es) = cond (nat_eq d e) es (e ∷ rest_of d es)

length-rest_of : (d : ℕ) (ds : List ℕ) → Among ds d → length ds ≡ suc (length (rest_of d ds))
length-rest_of d [] h = absurd h
length-rest_of d (e ∷ es) h = by (length-rest_of d es) (nat_eq d e) refl h
  where
    by : (Among es d → length es ≡ suc (length (rest_of d es))) → (b : Bool) → nat_eq d e ≡ b → (e ≡ d) ⊎ Among es d →
        suc (length es) ≡ suc (length (rest_of d (e ∷ es)))
    by ih true g k = ap (λ b. suc (length (cond b es (e ∷ rest_of d es)))) (sym g)
    by ih false g (inl k) = absurd (true≢false (sym ((unsigned_Decides d e).1 (sym k)) ∙ g))
    by ih false g (inr k) = ap suc (ih k) ∙ ap (λ b. suc (length (cond b es (e ∷ rest_of d es)))) (sym g)

Among-rest_of : (d : ℕ) (ds : List ℕ) (q : ℕ) → Among ds q → ¬ (d ≡ q) → Among (rest_of d ds) q
Among-rest_of d [] q h other = absurd h
Among-rest_of d (e ∷ es) q h other = by (λ k. Among-rest_of d es q k other) (nat_eq d e) refl h
  where
    by : (Among es q → Among (rest_of d es) q) → (b : Bool) → nat_eq d e ≡ b → (e ≡ q) ⊎ Among es q → Among (rest_of d (e ∷ es)) q
    by ih true g (inl k) = absurd (other ((unsigned_Decides d e).0 g ∙ k))
    by ih true g (inr k) = subst (λ b. Among (cond b es (e ∷ rest_of d es)) q) (sym g) k
    by ih false g (inl k) = subst (λ b. Among (cond b es (e ∷ rest_of d es)) q) (sym g) (inl k)
    by ih false g (inr k) = subst (λ b. Among (cond b es (e ∷ rest_of d es)) q) (sym g) (inr (ih k))

-- ---- as many steps as names are left

module _ (m : ℕ → Option Tree) (finite : (d : ℕ) (u : Tree) → m d ≡ Some u → ¬ ((way : List ℕ) × Leads m u way d)) where
  -- each name that is met is one of these, and has a meaning
  abbrev Meets : List ℕ → Tree → Type 0
  Meets ds t = (way : List ℕ) (q : ℕ) → Tops m t way q → Among ds q × IsSome (m q)

  followed : (k : ℕ) (ds : List ℕ) → length ds ≡ k → (t : Tree) → Meets ds t → IsSome (following base_with m k t)
  followed zero [] l t h = base-top (λ d. None) t (λ d e. absurd (h [] d e).0)
  followed zero (d ∷ ds) l t h = absurd (omega arith)
  followed (suc k) ds l t h = base-top (λ d. option_and_then (following base_with m k) (m d)) t
      (λ d e. step (followed k) d e (m d) refl (h [] d e))
    where
      step : ((es : List ℕ) → length es ≡ k → (u : Tree) → Meets es u → IsSome (following base_with m k u)) → (d : ℕ) → top t ≡ Some d
          → (o : Option Tree) → m d ≡ o → Among ds d × IsSome o → IsSome (option_and_then (following base_with m k) o)
      step ih d e None g a = absurd (let none = a.1 in cc)
      step ih d e (Some v) g a =
          ih (rest_of d ds) (omega (arith, l, length-rest_of d ds a.0)) v
          (λ way q w. let there = h (d ∷ way) q (e, (v, g, w)) in (
            Among-rest_of d ds q there.0 (λ same. finite d v g (way, Tops-lead m v way d (subst (λ n. Tops m v way n) (sym same) w))),
            there.1,
          ))

-- ---- a store

Among-keys : (q : ℕ) (es : List (ℕ × Declared)) → IsSome (lookup (nat_eq q) es) → Among (map (λ e. e.0) es) q
Among-keys q [] h = absurd cc
Among-keys q ((d, x) ∷ es) h = by (Among-keys q es) (nat_eq q d) refl h
  where
    by : (IsSome (lookup (nat_eq q) es) → Among (map (λ e. e.0) es) q) → (b : Bool) → nat_eq q d ≡ b →
        IsSome (cond b (Some x) (lookup (nat_eq q) es))
        → (d ≡ q) ⊎ Among (map (λ e. e.0) es) q
    by ih true g k = inl (sym ((unsigned_Decides q d).0 g))
    by ih false g k = inr (ih k)

declared_among : (s : Store) (q : ℕ) → IsSome (meaning_of s q) → Among (map (λ e. e.0) s.declared) q
declared_among s q h = Among-keys q s.declared (by (lookup (nat_eq q) s.declared) h)
  where
    by : (o : Option Declared) → IsSome (option_and_then (tree_at s) (option_and_then (λ e. e.definition) o)) → IsSome o
    by None k = k
    by (Some x) k = refl

module _ (s : Store) (v : IsStore s) where
  -- the name in front of a type is mentioned
  top-mentioned : (n t : ℕ) → t < n → t < length s.rows → (d : ℕ) → top (type_at s t) ≡ Some d
      → (u : ℕ) × Mentions s t u × (row_at s u ≡ Some (row.Named d))
  top-mentioned zero t l w d e = absurd (omega arith)
  top-mentioned (suc n) t l w d e = let r = row_of s t w in by (top-mentioned n) r.0 r.1
    where
      by : ((j : ℕ) → j < n → j < length s.rows → (q : ℕ) → top (type_at s j) ≡ Some q → (u : ℕ) × Mentions s j u ×
          (row_at s u ≡ Some (row.Named q)))
          → (r : Row) → row_at s t ≡ Some r → (u : ℕ) × Mentions s t u × (row_at s u ≡ Some (row.Named d))
      by ih (row.Error j) g =
          let below : j < t = v.rows_sound.within t (row.Error j) g in
          let k = ih j (omega arith) (omega arith) d (sym (ap top (type_at_row s v t (row.Error j) g)) ∙ e) in
          (k.0, through (row.Error j) g (0, omega arith, refl) k.1, k.2)
      by ih (row.Named c) g =
          let front : Some c ≡ Some d = sym (ap top (type_at_row s v t (row.Named c) g)) ∙ e in
          let same : c ≡ d = cc in
          (t, itself, g ∙ ap (λ q. Some (row.Named q)) same)
      by ih (row.Scalar k) g = let front = sym (ap top (type_at_row s v t (row.Scalar k) g)) ∙ e in absurd cc
      by ih (row.Pointer j) g = let front = sym (ap top (type_at_row s v t (row.Pointer j) g)) ∙ e in absurd cc
      by ih (row.Nullable j) g = let front = sym (ap top (type_at_row s v t (row.Nullable j) g)) ∙ e in absurd cc
      by ih (row.Slice j) g = let front = sym (ap top (type_at_row s v t (row.Slice j) g)) ∙ e in absurd cc
      by ih (row.Array i j) g = let front = sym (ap top (type_at_row s v t (row.Array i j) g)) ∙ e in absurd cc
      by ih (row.Struct fs) g = let front = sym (ap top (type_at_row s v t (row.Struct fs) g)) ∙ e in absurd cc
      by ih (row.Tuple is) g = let front = sym (ap top (type_at_row s v t (row.Tuple is) g)) ∙ e in absurd cc
      by ih (row.Union is) g = let front = sym (ap top (type_at_row s v t (row.Union is) g)) ∙ e in absurd cc

  -- the name is defined to be a type that is as well defined
  defined_meaning : (t u d : ℕ) → IsDefined s t → Mentions s t u → row_at s u ≡ Some (row.Named d)
      → (j : ℕ) × (meaning_of s d ≡ Some (type_at s j)) × IsDefined s j
  defined_meaning t u d h m g = by (definition_of s d) refl (h.names u d m g)
    where
      by : (o : Option ℕ) → definition_of s d ≡ o → IsSome o → (j : ℕ) × (meaning_of s d ≡ Some (type_at s j)) × IsDefined s j
      by None e k = absurd cc
      by (Some j) e k =
          let there : IsDefined s u = defined_mentioned s v t u h m in
          let among : Contains (cons_option (definition_of s d) []) j =
          subst (λ o. Contains (cons_option o []) j) (sym e) (0, omega arith, refl) in (
            j,
            ap (option_and_then (tree_at s)) e ∙ tree_at-type s j (v.defined_within d j e),
            defined_part s v u (row.Named d) there g j
                among,
          )

  meets : (way : List ℕ) (t : ℕ) → IsDefined s t → (q : ℕ) → Tops (meaning_of s) (type_at s t) way q → IsSome (meaning_of s q)
  meets [] t h q e =
      let k = top-mentioned (suc t) t (omega arith) h.within q e in
      let d = defined_meaning t k.0 q h k.1 k.2 in
      subst IsSome (sym d.1) refl
  meets (e ∷ way) t h q w =
      let k = top-mentioned (suc t) t (omega arith) h.within e w.0 in
      let d = defined_meaning t k.0 e h k.1 k.2 in
      let both : Some w.1.0 ≡ Some (type_at s d.0) = sym w.1.1 ∙ d.1 in
      let same : w.1.0 ≡ type_at s d.0 = cc in
      meets way d.0 d.2 q (subst (λ u. Tops (meaning_of s) u way q) same w.1.2)

  -- the base of a type of which each name is defined is known
  pub tree_known : (t : ℕ) → IsDefined s t → IsSome (base s (type_at s t))
  tree_known t h =
      followed (meaning_of s) v.defined_finite (length s.declared) (map (λ e. e.0) s.declared) (length-map s.declared (λ e. e.0))
      (type_at s t)
      (λ way q w. let known = meets way t h q w in (declared_among s q known, known))

  pub base_known : (t : ℕ) → IsDefined s t → (b : ℕ) × (base_at s t ≡ Some b)
  base_known t h = by (base_at s t) refl
    where
      by : (o : Option ℕ) → base_at s t ≡ o → (b : ℕ) × (base_at s t ≡ Some b)
      by None e =
          let none = base_none s v t h.within e in
          let some = subst IsSome none (tree_known t h) in
          absurd cc
      by (Some b) e = (b, e)
