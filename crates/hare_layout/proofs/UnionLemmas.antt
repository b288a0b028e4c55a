-- Types put together into a union by their ids are what the union is reduced to that is spelled with them.
use Rattle.std.proofs.Common.{◌≡◌, ◌≢◌, ℕ, zero, suc, ◌+◌, ◌<◌, ◌≤◌, Bool, true, false, List, [], ◌∷◌, ◌++◌, length, take, get_or, Option, Some, None, refl, ap, sym, ◌∙◌, subst, arith, ◌⊎◌, inl, inr}
use Rattle.std.specs.Prelude.{slice_get, Contains, MatchOption}
use Rattle.std.specs.List.{flat_map}
use Rattle.std.proofs.lemmas.List.{take_more, take_all, append-nil, get_or_default}
use Rattle.std.proofs.lemmas.List.Elements.{Contains-append_left, Contains-append_right, Contains-append_cases, All-get_or}
use Rattle.std.proofs.lemmas.Grind.{flat_map-append}
use Rattle.std.proofs.lemmas.Option.{slice_get-get_or}
use Rattle.hare_types.specs.declared.row.Row.{Row}
use Rattle.hare_types.specs.declared.row.Row.TheVariants as row
use Rattle.hare_types.specs.declared.row.Scalar.{Scalar as Keyword}
use Rattle.hare_types.specs.declared.row.Scalar.TheVariants as keyword
use Rattle.hare_types.specs.Trees.{Tree}
use Rattle.hare_types.specs.Rows.{tree_in, tree_of, trees}
use Rattle.hare_types.specs.Store.{Store, tree_at}
use Rattle.hare_types.specs.Sound.{IsStore}
use Rattle.hare_types.specs.Unions.{joined, brought_by_word, brought_by, brought_at, left_of, reduced_of}
use Rattle.hare_types.proofs.CallerLemmas.{tree_at_row}
use Rattle.hare_types.proofs.IdLemmas.{id_tells}
use Rattle.hare_layout.specs.declared.spelled.Spelled.{Spelled}
use Rattle.hare_layout.specs.Ids.{AreBrought, AreLeftBelow, Gains, AreIds, never}
use Rattle.hare_layout.specs.Reduction.{written, is_spread, AreLeft, type_of, IsReducedTo}
use Rattle.hare_layout.specs.Unions.{IsSpelled, UnionsMean, UnionsMeanTrees}
use Rattle.hare_layout.proofs.LeftLemmas.{Gains-none, Gains-skip, Gains-push, AreLeftBelow-none, AreLeftBelow-more, AreLeft-all, member-at}
use Rattle.hare_layout.proofs.SpreadLemmas.{row_stands, brought-union, brought-alone, never-is, never-word, never-other}

-- ---- what a word brings

-- every word but never brings itself
word-itself : (t : ℕ) (k : Keyword) → ¬ (k ≡ keyword.Never) → brought_by_word k t ≡ t ∷ []
word-itself t keyword.Never other = absurd (other refl)
word-itself t keyword.Void other = refl
word-itself t keyword.Opaque other = refl
word-itself t keyword.Bool other = refl
word-itself t keyword.Rune other = refl
word-itself t keyword.Str other = refl
word-itself t keyword.I8 other = refl
word-itself t keyword.I16 other = refl
word-itself t keyword.I32 other = refl
word-itself t keyword.I64 other = refl
word-itself t keyword.U8 other = refl
word-itself t keyword.U16 other = refl
word-itself t keyword.U32 other = refl
word-itself t keyword.U64 other = refl
word-itself t keyword.Int other = refl
word-itself t keyword.Uint other = refl
word-itself t keyword.Size other = refl

-- a word is never, or it is not
never-or : (k : Keyword) → (k ≡ keyword.Never) ⊎ (¬ (k ≡ keyword.Never))
never-or keyword.Never = inl refl
never-or keyword.Void = inr (λ e. cc)
never-or keyword.Opaque = inr (λ e. cc)
never-or keyword.Bool = inr (λ e. cc)
never-or keyword.Rune = inr (λ e. cc)
never-or keyword.Str = inr (λ e. cc)
never-or keyword.I8 = inr (λ e. cc)
never-or keyword.I16 = inr (λ e. cc)
never-or keyword.I32 = inr (λ e. cc)
never-or keyword.I64 = inr (λ e. cc)
never-or keyword.U8 = inr (λ e. cc)
never-or keyword.U16 = inr (λ e. cc)
never-or keyword.U32 = inr (λ e. cc)
never-or keyword.U64 = inr (λ e. cc)
never-or keyword.Int = inr (λ e. cc)
never-or keyword.Uint = inr (λ e. cc)
never-or keyword.Size = inr (λ e. cc)

-- types of which none is never are gained as they are
Gains-whole : (s : Store) (old types : List ℕ) → ((j : ℕ) → Contains types j → tree_at s j ≢ Some never) → Gains s old (old ++ types) types
Gains-whole s old types others = record {
  kept = λ j h. Contains-append_left old types j h;
  gained = λ j h n. Contains-append_right old types j h;
  only = λ j h. from j (Contains-append_cases old types j h);
}
  where
    from : (j : ℕ) → Contains old j ⊎ Contains types j → Contains old j ⊎ (Contains types j × (tree_at s j ≢ Some never))
    from j (inl h) = inl h
    from j (inr h) = inr (h, others j h)

module _ (s : Store) (v : IsStore s) where
  -- ---- what a member brings

  -- what a member brings that is not spread, of which never is left out
  record Brought (t : ℕ) (old types : List ℕ) : Type 0 where
    all : List ℕ
    are : AreBrought s false (tree_in (trees s.rows) t) all
    gains : Gains s old (old ++ types) all

  itself : (t : ℕ) (q : Row) (old : List ℕ) → t < length s.rows → slice_get s.rows t ≡ Some q → ((is : List ℕ) → ¬ (q ≡ row.Union is)) →
      ¬ (tree_at s t ≡ Some never) → Brought t old (t ∷ [])
  itself t q old far here other some = record {
    all = t ∷ [];
    are = brought-alone s v t q far here other;
    gains = Gains-push s old old [] t (Gains-none s old) some;
  }

  word : (t : ℕ) (k : Keyword) (old : List ℕ) → t < length s.rows → slice_get s.rows t ≡ Some (row.Scalar k) →
      (k ≡ keyword.Never) ⊎ (¬ (k ≡ keyword.Never)) → Brought t old (brought_by_word k t)
  word t k old far here (inl e) = subst (λ w. Brought t old (brought_by_word w t)) (sym e) (record {
    all = t ∷ [];
    are = brought-alone s v t (row.Scalar k) far here (λ is e. absurd cc);
    gains = subst (λ new. Gains s old new (t ∷ [])) (sym (append-nil old))
        (Gains-skip s old old [] t (Gains-none s old) (never-is s v t (subst (λ w. slice_get s.rows t ≡ Some (row.Scalar w)) e here)));
  })
  word t k old far here (inr other) = subst (Brought t old) (sym (word-itself t k other))
      (itself t (row.Scalar k) old far here (λ is e. absurd cc) (never-word s v t k here other))

  other : (t : ℕ) (q : Row) (old : List ℕ) → t < length s.rows → slice_get s.rows t ≡ Some q → ((is : List ℕ) → ¬ (q ≡ row.Union is)) →
      ((k : Keyword) → ¬ (q ≡ row.Scalar k)) → Brought t old (t ∷ [])
  other t q old far here no_union no_word = itself t q old far here no_union (never-other s v t q here no_word)

  by_row : (t : ℕ) (q : Row) (old : List ℕ) → t < length s.rows → slice_get s.rows t ≡ Some q → Brought t old (brought_by t q)
  by_row t (row.Scalar k) old far here = word t k old far here (never-or k)
  by_row t (row.Union is) old far here = record {
    all = is;
    are = brought-union s v t is here;
    gains = Gains-whole s old is (λ j m e. not_never j m e);
  }
    where
      not_never : (j : ℕ) → Contains is j → ¬ (tree_at s j ≡ Some never)
      not_never j m e = by (row_stands s v j never e).0 (row_stands s v j never e).1 (row_stands s v j never e).2
        where
          by : (q : Row) → slice_get s.rows j ≡ Some q → tree_of (trees s.rows) q ≡ never → ⊥
          by (row.Scalar k) h g =
              let same : k ≡ keyword.Never = cc in
              (v.rows_sound.reduced t (row.Union is) here).not_never j m (h ∙ ap (λ w. Some (row.Scalar w)) same)
          by (row.Pointer i) h g = absurd cc
          by (row.Nullable i) h g = absurd cc
          by (row.Slice i) h g = absurd cc
          by (row.Array n i) h g = absurd cc
          by (row.Struct fs) h g = absurd cc
          by (row.Tuple js) h g = absurd cc
          by (row.Union js) h g = absurd cc
          by (row.Error i) h g = absurd cc
          by (row.Named d) h g = absurd cc
  by_row t (row.Pointer i) old far here = other t (row.Pointer i) old far here (λ is e. absurd cc) (λ k e. absurd cc)
  by_row t (row.Nullable i) old far here = other t (row.Nullable i) old far here (λ is e. absurd cc) (λ k e. absurd cc)
  by_row t (row.Slice i) old far here = other t (row.Slice i) old far here (λ is e. absurd cc) (λ k e. absurd cc)
  by_row t (row.Array n i) old far here = other t (row.Array n i) old far here (λ is e. absurd cc) (λ k e. absurd cc)
  by_row t (row.Struct fs) old far here = other t (row.Struct fs) old far here (λ is e. absurd cc) (λ k e. absurd cc)
  by_row t (row.Tuple is) old far here = other t (row.Tuple is) old far here (λ js e. absurd cc) (λ k e. absurd cc)
  by_row t (row.Error i) old far here = other t (row.Error i) old far here (λ is e. absurd cc) (λ k e. absurd cc)
  by_row t (row.Named d) old far here = other t (row.Named d) old far here (λ is e. absurd cc) (λ k e. absurd cc)

  by_id : (t : ℕ) (old : List ℕ) → t < length s.rows → Brought t old (brought_at s t)
  by_id t old far =
      let q = get_or s.rows t (row.Scalar keyword.Void) in
      let here : slice_get s.rows t ≡ Some q = slice_get-get_or s.rows t (row.Scalar keyword.Void) far in
      let same : brought_at s t ≡ brought_by t q = rw here in
      subst (Brought t old) (sym same) (by_row t q old far here)

  -- ---- all members

  module _ (r : Spelled) (is : List ℕ) (spelled : IsSpelled s r is) where
    below-more : (k : ℕ) → k < length is → AreLeftBelow s r k (flat_map (brought_at s) (take k is)) →
        AreLeftBelow s r (k + 1) (flat_map (brought_at s) (take (k + 1) is))
    below-more k l left =
        let i = get_or is k 0 in
        let far : i < length s.rows = All-get_or (λ x. x < length s.rows) is k 0 l spelled.within in
        let old = flat_map (brought_at s) (take k is) in
        let more = by_id i old far in
        let front : flat_map (brought_at s) (take (k + 1) is) ≡ old ++ brought_at s i =
        ap (flat_map (brought_at s)) (take_more is k 0 l) ∙ flat_map-append (brought_at s) (take k is) (i ∷ [])
        ∙ ap (λ xs. old ++ xs) (append-nil (brought_at s i)) in
        subst (AreLeftBelow s r (k + 1)) (sym front)
        (AreLeftBelow-more s r k (tree_in (trees s.rows) i) old (old ++ brought_at s i) more.all left
        (member-at s r is k i spelled.members spelled.within l (get_or_default is k 0 i l))
        (subst (λ b. AreBrought s b (tree_in (trees s.rows) i) more.all) (sym (spelled.plain k)) more.are) more.gains)

    below : (k : ℕ) → k ≤ length is → AreLeftBelow s r k (flat_map (brought_at s) (take k is))
    below zero l = AreLeftBelow-none s r
    below (suc k) l =
        let next : k + 1 ≡ suc k = omega arith in
        subst (λ n. AreLeftBelow s r n (flat_map (brought_at s) (take n is))) next
        (below-more k (omega (arith, l)) (below k (omega (arith, l))))

    left : AreLeft s r (left_of s is)
    left = AreLeft-all s r is (flat_map (brought_at s) is) spelled.members
        (subst (λ xs. AreLeftBelow s r (length is) (flat_map (brought_at s) xs)) (take_all (length is) is (omega arith))
        (below (length is) (omega arith)))

    -- the type of these members is that of the id that they are joined to
    joins : (ls : List ℕ) (t : ℕ) (u : Tree) → joined s ls ≡ Some t → tree_at s t ≡ Some u → type_of s ls ≡ Some u
    joins [] t u e h = absurd cc
    joins (i ∷ []) t u e h =
        let same : i ≡ t = cc in
        ap (tree_at s) same ∙ h
    joins (i ∷ j ∷ ls) t u e h =
        let here = (id_tells s v (row.Union (i ∷ j ∷ ls)) t).0 e in
        sym (tree_at_row s v t (row.Union (i ∷ j ∷ ls)) here) ∙ h

    reduced : (t : ℕ) (u : Tree) → reduced_of s is ≡ Some t → tree_at s t ≡ Some u → IsReducedTo s r u
    reduced t u e h = subst
        (λ o. MatchOption o (tree_of (trees s.rows) r.row ≡ u) (λ _. (js : List ℕ) × AreLeft s r js × (type_of s js ≡ Some u)))
        (sym spelled.members) (left_of s is, left, joins (left_of s is) t u e h)

pub unions_mean : UnionsMeanTrees
unions_mean s v r is spelled = record { left = left s v r is spelled; reduced = reduced s v r is spelled }
