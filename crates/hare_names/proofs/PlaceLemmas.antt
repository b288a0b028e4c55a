-- Meanings by places, by the keys of the table.
use Rattle.std.proofs.Common.{◌≡◌, List, [], ◌∷◌, ◌++◌, Bool, true, false, cond, ◌&&◌, ◌==◌, map, Some, is_some, refl, sym, ap, ◌∙◌}
use Rattle.std.specs.Map.{lookup}
use Rattle.hare_tree.specs.declared.place.Place.{Place}
use Rattle.hare_tree.specs.declared.token.Meaning.{Meaning}
use Rattle.hare_modules.specs.Order.{same_place}
use Rattle.hare_modules.proofs.ListLemmas.{map-push}
use Rattle.hare_names.specs.Tables.{meaning_at, put}

module _ {K : Type 0} (place : K → Place) where
  abbrev seen : List (K × Meaning) → List (Place × Meaning)
  seen es = map (λ e. (place e.0, e.1)) es

  -- what is looked up at a place is what is looked up at its key
  pub lookup-seen : (p : Place) (eq : K → Bool) → ((k : K) → eq k ≡ same_place p (place k)) → (es : List (K × Meaning)) →
      lookup eq es ≡ meaning_at p (seen es)
  lookup-seen p eq agree [] = refl
  lookup-seen p eq agree (e ∷ es) = ap (λ b. cond b (Some e.1) (lookup eq es)) (agree e.0)
      ∙ ap (λ o. cond (same_place p (place e.0)) (Some e.1) o) (lookup-seen p eq agree es)

  -- a meaning more, at a place that has none
  pub put-new : (k : K) (m : Meaning) (p : Place) (es new : List (K × Meaning)) (old : List (Place × Meaning)) → seen es ≡ old →
      new ≡ es ++ (k, m) ∷ [] → place k ≡ p → is_some (meaning_at p old) ≡ false → seen new ≡ put old p m
  put-new k m p es new old s n b h = ap seen n ∙ map-push (λ e. (place e.0, e.1)) es (k, m) ∙ rw (s, b, h) refl

  -- the same meanings, at a place that has one
  pub put-there : (m f : Meaning) (p : Place) (es new : List (K × Meaning)) (old : List (Place × Meaning)) → seen es ≡ old → new ≡ es →
      meaning_at p old ≡ Some f → seen new ≡ put old p m
  put-there m f p es new old s n h = ap seen n ∙ s ∙ sym (ap (λ o. cond (is_some o) old (old ++ (p, m) ∷ [])) h)

-- keys are compared part by part
pub keyed : (q k p : Place) → q ≡ p → (q.file == k.file && (q.line == k.line && q.column == k.column)) ≡ same_place p k
keyed q k p e = three (q.file == k.file) (q.line == k.line) (q.column == k.column) ∙ ap (λ r. same_place r k) e
  where
    three : (a b c : Bool) → (a && (b && c)) ≡ (a && b && c)
    three true b c = refl
    three false b c = refl
