-- A store goes on to be one.
use Rattle.std.proofs.Common.{◌≡◌, ℕ, ◌<◌, ◌≤◌, Bool, List, [], ◌∷◌, ◌++◌, length, Option, Some, None, refl, ap, sym, ◌∙◌, subst, arith, cond, nat_eq, ◌⊎◌, inl, inr, IsSome, IfSome, true, false}
use Rattle.std.specs.Prelude.{slice_get, option_and_then, option_map}
use Rattle.std.specs.Map.{lookup}
use Rattle.hare_types.specs.declared.lists.Field.{Field}
use Rattle.hare_types.specs.declared.row.Row.{Row}
use Rattle.hare_types.specs.declared.row.Row.TheVariants as row
use Rattle.hare_types.specs.declared.declared.Declared.{Declared}
use Rattle.hare_types.specs.Numbering.{IsOnce, most}
use Rattle.hare_types.specs.Trees.{Tree}
use Rattle.hare_types.specs.Rows.{trees, AreRows, NamesBelow}
use Rattle.hare_types.specs.Store.{Store, tree_at, sized_of, definition_of, meaning_of}
use Rattle.hare_types.specs.ByValue.{has_size, HoldsByValue}
use Rattle.hare_types.specs.ByIds.{fields_in}
use Rattle.hare_types.specs.Sound.{IsStore}
use Rattle.hare_types.proofs.DefinitionLemmas.{meaning_kept, has_size_by-more, Leads-more, declared-definition, declared-sized, defined-here, defined-there, defined-sized}
use Rattle.hare_types.proofs.ListLemmas.{slice_get_none, slice_get_push}
use Rattle.hare_types.proofs.TreeLemmas.{length-trees}
use Rattle.hare_types.proofs.FiniteLemmas.{all_finite}

-- with more rows
pub IsStore-rows : (s : Store) (new : List Row) → IsStore s → AreRows new → length new ≤ most → length s.rows ≤ length new
    → ((t : ℕ) (fs : List Field) → slice_get new t ≡ Some (row.Struct fs) → NamesBelow (length s.names) fs)
    → ((i : ℕ) (u : Tree) → slice_get (trees s.rows) i ≡ Some u → slice_get (trees new) i ≡ Some u) → IsStore (record s { rows = new })
IsStore-rows s new v sound few longer named kept = record {
  names_once = v.names_once;
  names_few = v.names_few;
  rows_sound = sound;
  rows_few = few;
  fields_named = named;
  listed_once = v.listed_once;
  listed_few = v.listed_few;
  defined_within = λ d t e. omega (arith, v.defined_within d t e);
  defined_sized = λ d u e. v.defined_sized d u (sym (same d) ∙ e);
  defined_finite = λ d u e h. v.defined_finite d u (sym (same d) ∙ e)
      (h.0, Leads-more (meaning_of (record s { rows = new })) (meaning_of s) (λ q w g. sym (same q) ∙ g) u h.0 d h.1);
}
  where
    same : (d : ℕ) → meaning_of (record s { rows = new }) d ≡ meaning_of s d
    same d = meaning_kept s.rows new kept (definition_of s d) (v.defined_within d)

-- a row whose fields have names of the store leaves it so
pub names_new : (s : Store) → IsStore s → (r : Row) (new : List Row) → (new ≡ s.rows) ⊎ (new ≡ s.rows ++ r ∷ []) →
    NamesBelow (length s.names) (fields_in r)
    → (t : ℕ) (fs : List Field) → slice_get new t ≡ Some (row.Struct fs) → NamesBelow (length s.names) fs
names_new s v r new (inl e) names t fs here = v.fields_named t fs (ap (λ l. slice_get l t) (sym e) ∙ here)
names_new s v r new (inr e) names t fs here = by (slice_get_push s.rows r t (row.Struct fs) (ap (λ l. slice_get l t) (sym e) ∙ here))
  where
    by : (slice_get s.rows t ≡ Some (row.Struct fs)) ⊎ ((t ≡ length s.rows) × (row.Struct fs ≡ r)) → NamesBelow (length s.names) fs
    by (inl h) = v.fields_named t fs h
    by (inr h) = subst (λ q. NamesBelow (length s.names) (fields_in q)) (sym h.1) names

-- with more names
pub IsStore-names : (s : Store) (new : List (List ℕ)) → IsStore s → IsOnce new → length new ≤ most → length s.names ≤ length new
    → IsStore (record s { names = new })
IsStore-names s new v once few longer = record {
  names_once = once;
  names_few = few;
  rows_sound = v.rows_sound;
  rows_few = v.rows_few;
  fields_named = λ t fs e f m. omega (arith, v.fields_named t fs e f m);
  listed_once = v.listed_once;
  listed_few = v.listed_few;
  defined_within = v.defined_within;
  defined_sized = v.defined_sized;
  defined_finite = v.defined_finite;
}

-- with more types listed
pub IsStore-listed : (s : Store) (new : List ℕ) → IsStore s → IsOnce new → length new ≤ most → IsStore (record s { listed = new })
IsStore-listed s new v once few = record {
  names_once = v.names_once;
  names_few = v.names_few;
  rows_sound = v.rows_sound;
  rows_few = v.rows_few;
  fields_named = v.fields_named;
  listed_once = once;
  listed_few = few;
  defined_within = v.defined_within;
  defined_sized = v.defined_sized;
  defined_finite = v.defined_finite;
}

-- with one more declaration
pub IsStore-declared : (s : Store) (new : List (ℕ × Declared)) (d : ℕ) (fresh : Declared) → IsStore s → fresh.definition ≡ None →
    lookup (nat_eq d) s.declared ≡ None
    → ((q : ℕ) → lookup (nat_eq q) new ≡ cond (nat_eq d q) (Some fresh) (lookup (nat_eq q) s.declared)) →
    IsStore (record s { declared = new })
IsStore-declared s new d fresh v plain none put = record {
  names_once = v.names_once;
  names_few = v.names_few;
  rows_sound = v.rows_sound;
  rows_few = v.rows_few;
  fields_named = v.fields_named;
  listed_once = v.listed_once;
  listed_few = v.listed_few;
  defined_within = λ q t e. v.defined_within q t (sym (defined q) ∙ e);
  defined_sized = λ q u e. let k = v.defined_sized q u (sym (same q) ∙ e) in
      (k.0, sized q k.0 k.1, has_size_by-more (sized_of s) (sized_of (record s { declared = new })) sized u k.0 k.2);
  defined_finite = λ q u e h. v.defined_finite q u (sym (same q) ∙ e)
      (h.0, Leads-more (meaning_of (record s { declared = new })) (meaning_of s) (λ p w g. sym (same p) ∙ g) u h.0 q h.1);
}
  where
    defined : (q : ℕ) → definition_of (record s { declared = new }) q ≡ definition_of s q
    defined = declared-definition s.declared new d fresh plain none put

    same : (q : ℕ) → meaning_of (record s { declared = new }) q ≡ meaning_of s q
    same q = ap (option_and_then (λ t. slice_get (trees s.rows) t)) (defined q)

    sized : (q : ℕ) (b : Bool) → sized_of s q ≡ Some b → sized_of (record s { declared = new }) q ≡ Some b
    sized = declared-sized s.declared new d fresh plain none put

-- with one more definition
pub IsStore-defined : (s : Store) (new : List (ℕ × Declared)) (d t : ℕ) (entry : Declared) (u : Tree) → IsStore s →
    lookup (nat_eq d) s.declared ≡ Some entry → entry.definition ≡ None
    → ((q : ℕ) → lookup (nat_eq q) new ≡ cond (nat_eq d q) (Some (record entry { definition = Some t })) (lookup (nat_eq q) s.declared))
    → t < length s.rows → tree_at s t ≡ Some u → has_size s u ≡ sized_of s d → ¬ HoldsByValue s u d → IsStore (record s { declared = new })
IsStore-defined s new d t entry u v was plain put within tree size finite = record {
  names_once = v.names_once;
  names_few = v.names_few;
  rows_sound = v.rows_sound;
  rows_few = v.rows_few;
  fields_named = v.fields_named;
  listed_once = v.listed_once;
  listed_few = v.listed_few;
  defined_within = λ q k e. within_at q k e (there q);
  defined_sized = λ q w e. sized_at q w e (there q);
  defined_finite = all_finite (meaning_of s) (meaning_of (record s { declared = new })) d u fresh
      (ap (option_and_then (tree_at s)) here ∙ tree) meaning_there finite v.defined_finite;
}
  where
    here : definition_of (record s { declared = new }) d ≡ Some t
    here = defined-here s.declared new d t entry was put

    there : (q : ℕ) → (d ≡ q) ⊎ (definition_of (record s { declared = new }) q ≡ definition_of s q)
    there = defined-there s.declared new d t entry was put

    sized : (q : ℕ) → sized_of (record s { declared = new }) q ≡ sized_of s q
    sized = defined-sized s.declared new d t entry was put

    meaning_there : (q : ℕ) → (d ≡ q) ⊎ (meaning_of (record s { declared = new }) q ≡ meaning_of s q)
    meaning_there q = by (there q)
      where
        by : (d ≡ q) ⊎ (definition_of (record s { declared = new }) q ≡ definition_of s q) →
            (d ≡ q) ⊎ (meaning_of (record s { declared = new }) q ≡ meaning_of s q)
        by (inl h) = inl h
        by (inr h) = inr (ap (option_and_then (tree_at s)) h)

    fresh : meaning_of s d ≡ None
    fresh = ap (option_and_then (tree_at s)) (ap (option_and_then (λ e. e.definition)) was ∙ plain)

    within_at : (q k : ℕ) → definition_of (record s { declared = new }) q ≡ Some k →
        (d ≡ q) ⊎ (definition_of (record s { declared = new }) q ≡ definition_of s q) → k < length s.rows
    within_at q k e (inl h) =
        let same : Some t ≡ Some k = sym here ∙ ap (definition_of (record s { declared = new })) h ∙ e in
        let number : t ≡ k = cc in
        rw (← number) within
    within_at q k e (inr h) = v.defined_within q k (sym h ∙ e)

    known : (w : Tree) (b : Bool) → has_size s w ≡ Some b → has_size (record s { declared = new }) w ≡ Some b
    known = has_size_by-more (sized_of s) (sized_of (record s { declared = new })) (λ q b e. sized q ∙ e)

    sized_at : (q : ℕ) (w : Tree) → meaning_of (record s { declared = new }) q ≡ Some w →
        (d ≡ q) ⊎ (definition_of (record s { declared = new }) q ≡ definition_of s q)
        → (b : Bool) × (sized_of (record s { declared = new }) q ≡ Some b) × (has_size (record s { declared = new }) w ≡ Some b)
    sized_at q w e (inl h) =
        let same : Some u ≡ Some w =
        sym (ap (option_and_then (tree_at s)) here ∙ tree) ∙ ap (meaning_of (record s { declared = new })) h ∙ e in
        let tree_is : u ≡ w = cc in
        let size_is : sized_of s d ≡ Some entry.sized = ap (option_map (λ e. e.sized)) was in
        (entry.sized, sized q ∙ ap (sized_of s) (sym h) ∙ size_is, known w entry.sized (ap (has_size s) (sym tree_is) ∙ size ∙ size_is))
    sized_at q w e (inr h) =
        let k = v.defined_sized q w (sym (ap (option_and_then (tree_at s)) h) ∙ e) in
        (k.0, sized q ∙ k.1, known w k.0 k.2)

-- the same, from what is asked of `define`
pub IsStore-define : (s : Store) (new : List (ℕ × Declared)) (d t : ℕ) → IsStore s → IsSome (sized_of s d) → definition_of s d ≡ None →
    IfSome (tree_at s t) (λ u. has_size s u ≡ sized_of s d)
    → t < length s.rows → IfSome (tree_at s t) (λ u. ¬ HoldsByValue s u d)
    → IfSome (lookup (nat_eq d) s.declared)
    (λ e. (q : ℕ) → lookup (nat_eq q) new ≡ cond (nat_eq d q) (Some (record e { definition = Some t })) (lookup (nat_eq q) s.declared))
    → IsStore (record s { declared = new })
IsStore-define s new d t v known fresh size within finite put = by (lookup (nat_eq d) s.declared) refl (tree_at s t) refl
  where
    by : (o : Option Declared) → lookup (nat_eq d) s.declared ≡ o → (p : Option Tree) → tree_at s t ≡ p →
        IsStore (record s { declared = new })
    by None e p f =
        let nothing : false ≡ true = subst (λ o. IsSome (option_map (λ x. x.sized) o)) e known in
        absurd cc
    by (Some entry) e None f = absurd (omega (arith, slice_get_none (trees s.rows) t f, length-trees s.rows))
    by (Some entry) e (Some u) f =
        IsStore-defined s new d t entry u v e (sym (ap (option_and_then (λ x. x.definition)) e) ∙ fresh)
        (subst (λ o. IfSome o (λ x. (q : ℕ) → lookup (nat_eq q) new ≡ cond (nat_eq d q) (Some (record x { definition = Some t }))
        (lookup (nat_eq q) s.declared))) e put)
        within f (subst (λ o. IfSome o (λ w. has_size s w ≡ sized_of s d)) f size)
        (subst (λ o. IfSome o (λ w. ¬ HoldsByValue s w d)) f finite)

-- definitions that were entered stay
pub definitions-kept : (es new : List (ℕ × Declared)) (d t : ℕ) → IsSome (option_map (λ e. e.sized) (lookup (nat_eq d) es)) →
    option_and_then (λ e. e.definition) (lookup (nat_eq d) es) ≡ None
    → IfSome (lookup (nat_eq d) es)
    (λ e. (q : ℕ) → lookup (nat_eq q) new ≡ cond (nat_eq d q) (Some (record e { definition = Some t })) (lookup (nat_eq q) es))
    → (q i : ℕ) → option_and_then (λ e. e.definition) (lookup (nat_eq q) es) ≡ Some i →
    option_and_then (λ e. e.definition) (lookup (nat_eq q) new) ≡ Some i
definitions-kept es new d t known fresh put q i e = by (lookup (nat_eq d) es) refl
  where
    at : (entry : Declared) → (d ≡ q) ⊎
        (option_and_then (λ e. e.definition) (lookup (nat_eq q) new) ≡ option_and_then (λ e. e.definition) (lookup (nat_eq q) es))
        → option_and_then (λ e. e.definition) (lookup (nat_eq q) new) ≡ Some i
    at entry (inl h) =
        let both : None ≡ Some i = sym fresh ∙ ap (λ n. option_and_then (λ e. e.definition) (lookup (nat_eq n) es)) h ∙ e in
        absurd cc
    at entry (inr h) = h ∙ e

    by : (o : Option Declared) → lookup (nat_eq d) es ≡ o → option_and_then (λ e. e.definition) (lookup (nat_eq q) new) ≡ Some i
    by None g =
        let nothing : false ≡ true = subst (λ o. IsSome (option_map (λ x. x.sized) o)) g known in
        absurd cc
    by (Some entry) g = at entry (defined-there es new d t entry g
        (subst (λ o. IfSome o (λ x. (q : ℕ) → lookup (nat_eq q) new ≡ cond (nat_eq d q) (Some (record x { definition = Some t }))
        (lookup (nat_eq q) es))) g put) q)

-- the other names' definitions are those that they had
pub definitions-there : (es new : List (ℕ × Declared)) (d t : ℕ) → IsSome (option_map (λ e. e.sized) (lookup (nat_eq d) es))
    → IfSome (lookup (nat_eq d) es)
    (λ e. (q : ℕ) → lookup (nat_eq q) new ≡ cond (nat_eq d q) (Some (record e { definition = Some t })) (lookup (nat_eq q) es))
    → (q : ℕ) → (d ≡ q) ⊎ (option_and_then (λ e. e.definition) (lookup (nat_eq q) new) ≡ option_and_then (λ e. e.definition)
    (lookup (nat_eq q) es))
definitions-there es new d t known put q = by (lookup (nat_eq d) es) refl
  where
    by : (o : Option Declared) → lookup (nat_eq d) es ≡ o →
        (d ≡ q) ⊎ (option_and_then (λ e. e.definition) (lookup (nat_eq q) new) ≡ option_and_then (λ e. e.definition) (lookup (nat_eq q) es))
    by None g =
        let nothing : false ≡ true = subst (λ o. IsSome (option_map (λ x. x.sized) o)) g known in
        absurd cc
    by (Some entry) g = defined-there es new d t entry g
        (subst (λ o. IfSome o (λ x. (q : ℕ) → lookup (nat_eq q) new ≡ cond (nat_eq d q) (Some (record x { definition = Some t }))
        (lookup (nat_eq q) es))) g put) q
