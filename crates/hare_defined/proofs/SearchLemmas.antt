-- A search for names without a definition: how it begins, goes on and ends.
use Rattle.std.proofs.Common.{◌≡◌, ℕ, zero, suc, ◌<◌, ◌≤◌, ◌+◌, nat_eq, List, [], ◌∷◌, length, get_or, Some, IsSome, ap, sym, ◌∙◌, subst, arith, ◌⊎◌, inl, inr}
use Rattle.std.specs.Prelude.{Contains, slice_get, slice_index_or}
use Rattle.std.proofs.lemmas.Option.{slice_get-get_or, slice_get_within}
use Rattle.std.proofs.lemmas.Bool.{cases_lt}
use Rattle.std.proofs.lemmas.Map.Steps.{length-le_from_distinct_below}
use Rattle.std.proofs.lemmas.Map.Views.{Contains-from_any}
use Rattle.std.specs.Cmp.{unsigned_Decides}
use Rattle.std.specs.List.{IsDistinct}
use Rattle.hare_types.specs.declared.row.Row.{Row}
use Rattle.hare_types.specs.declared.row.Row.TheVariants as row
use Rattle.hare_types.specs.Numbering.{Continues}
use Rattle.hare_types.specs.Store.{Store, definition_of}
use Rattle.hare_types.specs.Sound.{IsStore}
use Rattle.hare_types.specs.ByIds.{row_at}
use Rattle.hare_types.proofs.ListLemmas.{slice_get_front}
use Rattle.rule_judge.specs.Defined.{made_of, Mentions, itself, through, IsDefined}
use Rattle.rule_judge.proofs.DefinedLemmas.{defined_part}
use Rattle.hare_defined.specs.Known.{AreDefined}
use Rattle.hare_defined.specs.Search.{HasOwnDefinition, HoldsAll, TakesIn, IsLookedAt, IsSearch}
use Rattle.hare_defined.proofs.PartLemmas.{made_within, Contains-Continues, Continues-Continues}

-- ---- names

own_definition : (s : Store) (t u : ℕ) (r : Row) → IsDefined s t → Mentions s t u → row_at s u ≡ Some r → HasOwnDefinition s r
own_definition s t u (row.Named d) h m e = h.names u d m e
own_definition s t u (row.Scalar k) h m e = tt
own_definition s t u (row.Pointer i) h m e = tt
own_definition s t u (row.Nullable i) h m e = tt
own_definition s t u (row.Slice i) h m e = tt
own_definition s t u (row.Array n i) h m e = tt
own_definition s t u (row.Struct fs) h m e = tt
own_definition s t u (row.Tuple is) h m e = tt
own_definition s t u (row.Union is) h m e = tt
own_definition s t u (row.Error i) h m e = tt

-- ---- places

Contains-slice_get : (xs : List ℕ) (k u : ℕ) → slice_get xs k ≡ Some u → Contains xs u
Contains-slice_get xs k u e = (
  k,
  slice_get_within xs k u e,
  (let same : Some (slice_index_or xs k u) ≡ Some u = sym (slice_get-get_or xs k u (slice_get_within xs k u e)) ∙ e in cc),
)

slice_get-Continues : (old new : List ℕ) (k u : ℕ) → Continues old new → k < length old → slice_get new k ≡ Some u →
    slice_get old k ≡ Some u
slice_get-Continues old new k u g h e = sym (slice_get_front old g.0 k h) ∙ ap (λ l. slice_get l k) (sym g.1) ∙ e

-- what a look at the next place gives
pub next_is : (seen met : List ℕ) (n u : ℕ) → seen ≡ met → n < length seen → u ≡ get_or seen n u → slice_get met n ≡ Some u
next_is seen met n u same l e = ap (λ ks. slice_get ks n) (sym same) ∙ slice_get-get_or seen n u l ∙ ap Some (sym e)

module _ (s : Store) (t : ℕ) (known : List ℕ) where
  -- ---- the beginning

  -- what is known, and the type
  pub search_begins : (met : List ℕ) → t < length s.rows → AreDefined s known → TakesIn known met (t ∷ []) → Contains met t
      → IsSearch s t known met (length known)
  search_begins met h a g c = record {
    grows = g.grows;
    begins = c;
    within = λ u k. within u (g.only u k);
    mentioned = λ u k d. mentioned u d (g.only u k);
    done = λ k u l e. inl (Contains-slice_get known k u (slice_get-Continues known met k u g.grows l e));
  }
    where
      within : (u : ℕ) → Contains known u ⊎ Contains (t ∷ []) u → u < length s.rows
      within u (inl k) = (a u k).within
      within u (inr (zero, l, e)) = subst (λ x. x < length s.rows) e h
      within u (inr (suc k, l, e)) = absurd (omega (arith, l))

      mentioned : (u : ℕ) → IsDefined s t → Contains known u ⊎ Contains (t ∷ []) u → IsDefined s u
      mentioned u d (inl k) = a u k
      mentioned u d (inr (zero, l, e)) = subst (IsDefined s) e d
      mentioned u d (inr (suc k, l, e)) = absurd (omega (arith, l))

  -- ---- a step

  -- what is next is in the store
  pub next_within : (met : List ℕ) (n u : ℕ) → IsSearch s t known met n → slice_get met n ≡ Some u → u < length s.rows
  next_within met n u h here = h.within u (Contains-slice_get met n u here)

  module _ (v : IsStore s) (met : List ℕ) (n u : ℕ) (r : Row) (h : IsSearch s t known met n) (here : slice_get met n ≡ Some u)
      (is : row_at s u ≡ Some r) where
    is_met : Contains met u
    is_met = Contains-slice_get met n u here

    -- what the next one is made of is met
    pub search_goes_on : (new : List ℕ) → TakesIn met new (made_of s r) → HoldsAll new (made_of s r) → HasOwnDefinition s r
        → IsSearch s t known new (n + 1)
    search_goes_on new g all own = record {
      grows = Continues-Continues known met new h.grows g.grows;
      begins = Contains-Continues met new t g.grows h.begins;
      within = λ w k. within w (g.only w k);
      mentioned = λ w k d. mentioned w d (g.only w k);
      done = λ k w l e. done k w (cases_lt k n) l
          (slice_get-Continues met new k w g.grows (omega (arith, l, slice_get_within met n u here)) e);
    }
      where
        within : (w : ℕ) → Contains met w ⊎ Contains (made_of s r) w → w < length s.rows
        within w (inl k) = h.within w k
        within w (inr k) = made_within s v u r is (h.within u is_met) w k

        mentioned : (w : ℕ) → IsDefined s t → Contains met w ⊎ Contains (made_of s r) w → IsDefined s w
        mentioned w d (inl k) = h.mentioned w k d
        mentioned w d (inr k) = defined_part s v u r (h.mentioned u is_met d) is w k

        more : (w : ℕ) → Contains known w ⊎ IsLookedAt s met w → Contains known w ⊎ IsLookedAt s new w
        more w (inl k) = inl k
        more w (inr k) = inr (λ q f. ((λ x c. Contains-Continues met new x g.grows ((k q f).0 x c)), (k q f).1))

        done : (k w : ℕ) → (k < n) ⊎ (n ≤ k) → k < n + 1 → slice_get met k ≡ Some w → Contains known w ⊎ IsLookedAt s new w
        done k w (inl l) m e = more w (h.done k w l e)
        done k w (inr l) m e =
            let last : k ≡ n = omega arith in
            let same : u ≡ w = (let both : Some u ≡ Some w = sym here ∙ ap (slice_get met) (sym last) ∙ e in cc) in
            inr (λ q f. (let row : r ≡ q = (let both : Some r ≡ Some q = sym is ∙ ap (row_at s) same ∙ f in cc) in
            (subst (λ x. HoldsAll new (made_of s x)) row all, subst (HasOwnDefinition s) row own)))

    -- a name without a definition is met
    pub search_fails : ¬ HasOwnDefinition s r → ¬ IsDefined s t
    search_fails lacks d = lacks (own_definition s u u r (h.mentioned u is_met d) itself is)

  -- ---- the end

  module _ (met : List ℕ) (n : ℕ) (h : IsSearch s t known met n) (a : AreDefined s known) (all : length met ≤ n) where
    looked : (u : ℕ) → Contains met u → Contains known u ⊎ IsLookedAt s met u
    looked u c = h.done c.0 u (omega (arith, c.1)) (slice_get-get_or met c.0 u c.1 ∙ ap Some c.2)

    names : {u w : ℕ} → Contains met u → Mentions s u w → (d : ℕ) → row_at s w ≡ Some (row.Named d) → IsSome (definition_of s d)
    names {u} {w} c itself d e = by (looked u c)
      where
        by : Contains known u ⊎ IsLookedAt s met u → IsSome (definition_of s d)
        by (inl k) = (a u k).names u d itself e
        by (inr k) = (k (row.Named d) e).1
    names {u} {w} c (through {u = x} r f p m) d e = by (λ q. names q m d e) (looked u c)
      where
        by : (Contains met x → IsSome (definition_of s d)) → Contains known u ⊎ IsLookedAt s met u → IsSome (definition_of s d)
        by on (inl k) = (a u k).names w d (through r f p m) e
        by on (inr k) = on ((k r f).0 x p)

    -- where all have been looked at, all are defined
    pub search_ends : AreDefined s met
    search_ends u c = record { within = h.within u c; names = λ w d m e. names c m d e }

-- no more are met than the store has types
pub few_met : (s : Store) (t : ℕ) (known met : List ℕ) (n : ℕ) → IsDistinct nat_eq met → IsSearch s t known met n →
    length met ≤ length s.rows
few_met s t known met n once h =
    length-le_from_distinct_below met (length s.rows) once (λ u e. h.within u (Contains-from_any (λ x y. (unsigned_Decides x y).0) u met e))
