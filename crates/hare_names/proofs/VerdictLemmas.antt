-- The names of a path, from the left.
use Rattle.std.proofs.Common.{◌≡◌, ℕ, List, [], ◌∷◌, ◌++◌, Bool, true, false, cond, ◌&&◌, ◌==◌, refl, sym, ap, ◌∙◌}
use Rattle.std.specs.Prelude.{slice_index}
use Rattle.hare_tree.specs.Spell.{parts, parts_from}
use Rattle.hare_modules.specs.Directory.{Directory}
use Rattle.hare_names.specs.declared.verdict.Verdict.TheVariants.{Fails}
use Rattle.hare_names.specs.Scopes.{Local}
use Rattle.hare_names.specs.Tables.{verdict}

-- a text has a first part
parts-some : (taken : Bool) (part s : List ℕ) → (x : List ℕ) × (xs : List (List ℕ)) × (parts_from taken part s ≡ x ∷ xs)
parts-some taken part [] = (part, [], refl)
parts-some true part (c ∷ s) = parts-some false part s
parts-some false part (c ∷ s) = by (c == 58 && slice_index s 0 == 58) (parts-some false (part ++ c ∷ []) s)
  where
    by : (b : Bool) → ((x : List ℕ) × (xs : List (List ℕ)) × (parts_from false (part ++ c ∷ []) s ≡ x ∷ xs)) →
        (x : List ℕ) × (xs : List (List ℕ)) × (cond b (part ∷ parts_from true [] s) (parts_from false (part ++ c ∷ []) s) ≡ x ∷ xs)
    by true h = (part, parts_from true [] s, refl)
    by false h = h

-- a path of three names or more
pub verdict-many : (d : Directory) (f : ℕ) (b : Bool) (ls : List Local) (x y text : List ℕ) (names : List (List ℕ)) →
    names ≡ x ∷ (y ∷ parts text) → Fails 13 ≡ verdict d f b ls names
verdict-many d f b ls x y text names e = let p = parts-some false [] text in sym (ap (verdict d f b ls) (e ∙ ap (λ ps. x ∷ (y ∷ ps)) p.2))
