-- The turns of declarations by what these say of one another, with a table of which have been judged. No public clause cites this.
use Rattle.std.specs.Prelude.{◌≡◌, ℕ, List, [], ◌∷◌, ◌++◌, Bool, true, false, not, fold, drop, filter, length, map, slice_get, slice_index_or, slice_set, Some, if◌then◌else◌}
use Rattle.hare_types.specs.Unions.{ascending}
use Rattle.hare_tree.specs.declared.tree.FileTree.{FileTree}
use Rattle.hare_rules.specs.Words.{is_among}
use Rattle.hare_depends.specs.declared.said.Said.{Said}
use Rattle.hare_depends.specs.Sorts.{is_global, has_value}
use Rattle.hare_depends.specs.Dependence.{is_at}
use Rattle.hare_steps.specs.declared.listed.DeclPlace.{DeclPlace}
use Rattle.hare_steps.specs.Plans.{decl_at}
use Rattle.hare_whole.specs.Listing.{Listing}
use Rattle.hare_whole.specs.Turns.{Step, Types, Value, Done, AreSteps}

-- ---- which have been judged

abbrev pub is_judged : List Bool → ℕ → Bool
is_judged js n = slice_index_or js n false

abbrev pub with_judged : List Bool → ℕ → List Bool
with_judged js n = slice_set js n true

abbrev pub with_all_judged : List Bool → List ℕ → List Bool
with_all_judged js ns = fold with_judged js ns

-- the table tells of each declaration whether it is among these
abbrev pub Tells : List Bool → List ℕ → Type 0
Tells js ns = (g : ℕ) → is_judged js g ≡ is_among g ns

-- ---- turns

-- what a value names is said behind what the written type names
abbrev pub named_by_value : Said → List ℕ
named_by_value s = drop (length s.written) s.named

-- the globals with a type that a value names, in the order of the source
abbrev pub globals_of : List Said → Said → List ℕ
globals_of ds s = ascending (filter (is_at is_global ds) (named_by_value s))

-- those that have not been judged before
abbrev pub early_of : List Said → List Bool → Said → List ℕ
early_of ds js s = if has_value s.sort then filter (λ g. not (is_judged js g)) (globals_of ds s) else []

abbrev pub own_types : List Bool → ℕ → List Step
own_types js n = if is_judged js n then [] else Types n ∷ []

abbrev pub rest_of : (has_value : Bool) → ℕ → List Step
rest_of b n = (if b then Value n ∷ [] else []) ++ Done n ∷ []

abbrev pub turn_of : List Said → List Bool → ℕ → Said → List Step
turn_of ds js n s = own_types js n ++ map Types (early_of ds (with_judged js n) s) ++ rest_of (has_value s.sort) n

-- the turn of declaration n has been put behind the steps, and what was judged in it is noted
pub record TakesTurn (ds : List Said) (n : ℕ) (old : List Bool) (before : List Step) (new : List Bool) (behind : List Step) : Type 0 where
  pub steps : (s : Said) → slice_get ds n ≡ Some s → behind ≡ before ++ turn_of ds old n s
  pub judged : (s : Said) → slice_get ds n ≡ Some s → new ≡ with_all_judged (with_judged old n) (early_of ds (with_judged old n) s)

-- Where `before` are the steps of the first of all these declarations, and the others are left: what steps those take are behind them.
pub record GoesOn (p : Listing) (all left : List ℕ) (js : List Bool) (before : List Step) : Type 0 where
  pub judged : List ℕ
  pub told : Tells js judged
  pub rest : (xs : List Step) → AreSteps p judged left xs → AreSteps p [] all (before ++ xs)

-- ---- places

-- the places of the declarations of a file that has so many have been put behind others
abbrev pub PutsPlaces : (file count : ℕ) → (old new : List DeclPlace) → Type 0
PutsPlaces file count old new =
    (fs : List FileTree) (f : FileTree) → slice_get fs file ≡ Some f → length f.decls ≡ count →
    map (decl_at fs) new ≡ map (decl_at fs) old ++ map Some f.decls
