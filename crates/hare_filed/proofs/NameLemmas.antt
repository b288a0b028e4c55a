-- No two declarations of a module have one name, where no name is violated.
use Rattle.std.proofs.Common.{◌≡◌, ◌⊎◌, inl, inr, ℕ, ◌+◌, List, [], ◌∷◌, Bool, true, false, not, ◌&&◌, ◌||◌, ◌==◌, map, bytes_eq, length, slice_get, Some, refl, sym, ap, ◌∙◌, suc, arith}
use Rattle.std.specs.Prelude.{Contains}
use Rattle.std.specs.List.{flat_map}
use Rattle.std.proofs.lemmas.Slice.Eq.{bytes_eq-Decides}
use Rattle.hare_tree.specs.declared.place.Fault.{Fault}
use Rattle.hare_tree.specs.declared.tree.FileTree.{FileTree}
use Rattle.hare_tree.specs.Node.{Node}
use Rattle.hare_tree.specs.Spell.{start_of}
use Rattle.hare_modules.specs.Modules.{Module, Source, module_of, same_module, sources}
use Rattle.hare_modules.specs.Order.{fault}
use Rattle.hare_modules.specs.Uses.{imports, place_of, text_of}
use Rattle.hare_modules.specs.Declarations.{built_in, name_in}
use Rattle.hare_modules.specs.Repeated.{Claim, clash, claims_of, repeated_claims}
use Rattle.hare_modules.specs.Faults.{IsModuleFault}
use Rattle.hare_graph.proofs.Elements.{Contains-none}
use Rattle.hare_depends.proofs.ListLemmas.{Contains-left, Contains-right, Contains-either}
use Rattle.hare_names.specs.Violations.{IsViolation}
use Rattle.hare_filed.proofs.ListLemmas.{Precedes, precedes-append, precedes-left, precedes-right, precedes-across, precedes-map, precedes-contained, Contains-map, repeated-precedes}
use Rattle.hare_filed.proofs.FileLemmas.{AreFilesFrom, files-behind, first-file, decls_from, first-root-file}

-- the modules of files that are numbered from this number on, which have these paths
abbrev pub AreHomes : (ℕ → Module) → ℕ → List (List ℕ) → Type 0
AreHomes homes k ps = (j : ℕ) (p : List ℕ) → slice_get ps j ≡ Some p → homes (k + j) ≡ module_of p

homes-behind : (homes : ℕ → Module) (k : ℕ) (p : List ℕ) (ps : List (List ℕ)) → AreHomes homes k (p ∷ ps) → AreHomes homes (suc k) ps
homes-behind homes k p ps h j q e = let m : suc k + j ≡ k + suc j = omega arith in ap homes m ∙ h (suc j) q e

-- the name that a declaration takes in its module
record Claims (homes : ℕ → Module) (t : Node) (a : Claim) : Type 0 where
  home : a.home ≡ homes (place_of t).file
  name : a.name ≡ text_of (name_in t)
  declared : a.imported ≡ false

abbrev claim_of : Source → Node → Claim
claim_of s t = record { home = s.home; file = s.tree.file; imported = false; name = text_of (name_in t); place = place_of (name_in t) }

abbrev source_of : List ℕ → FileTree → Source
source_of p f = record { home = module_of p; tree = f }

abbrev imported_in : Source → List Claim
imported_in s = map (λ i. record { home = s.home; file = s.tree.file; imported = true; name = i.name; place = i.place }) (imports s.tree)

-- what is known of the files behind a first one
record AreFilesOf (homes : ℕ → Module) (k : ℕ) (ps : List (List ℕ)) (fs : List FileTree) : Type 0 where
  homes_are : AreHomes homes k ps
  files_are : AreFilesFrom k fs
  paired : length fs ≡ length ps

behind : (homes : ℕ → Module) (k : ℕ) (p : List ℕ) (ps : List (List ℕ)) (f : FileTree) (fs : List FileTree) →
    AreFilesOf homes k (p ∷ ps) (f ∷ fs) → AreFilesOf homes (suc k) ps fs
behind homes k p ps f fs h =
    record {
      homes_are = homes-behind homes k p ps h.homes_are;
      files_are = files-behind k f fs h.files_are;
      paired = omega (arith, h.paired);
    }

claims-first : (homes : ℕ → Module) (k : ℕ) (p : List ℕ) (ps : List (List ℕ)) (f : FileTree) (fs : List FileTree) (t : Node) →
    AreFilesOf homes k (p ∷ ps) (f ∷ fs) → Contains f.decls t → Claims homes t (claim_of (source_of p f) t)
claims-first homes k p ps f fs t h c =
    let z : k ≡ k + 0 = omega arith in
    record {
      home = sym (ap homes (first-root-file k f t (first-file k f fs h.files_are) c ∙ z) ∙ h.homes_are 0 p refl);
      name = refl;
      declared = refl;
    }

abbrev AllClaims : List (List ℕ) → List FileTree → List Claim
AllClaims ps fs = flat_map claims_of (sources ps fs)

record Claimed (homes : ℕ → Module) (ps : List (List ℕ)) (fs : List FileTree) (t : Node) : Type 0 where
  claim : Claim
  there : Contains (AllClaims ps fs) claim
  claims : Claims homes t claim

claimed : (homes : ℕ → Module) (k : ℕ) (ps : List (List ℕ)) (fs : List FileTree) (t : Node) → AreFilesOf homes k ps fs →
    Contains (decls_from fs) t → Claimed homes ps fs t
claimed homes k ps [] t h c = absurd (Contains-none t c)
claimed homes k [] (f ∷ fs) t h c = absurd (omega (arith, h.paired))
claimed homes k (p ∷ ps) (f ∷ fs) t h c =
    by (λ d. claimed homes (suc k) ps fs t (behind homes k p ps f fs h) d) (Contains-either t f.decls (decls_from fs) c)
  where
    s : Source
    s = source_of p f

    by : (Contains (decls_from fs) t → Claimed homes ps fs t) → Contains f.decls t ⊎ Contains (decls_from fs) t →
        Claimed homes (p ∷ ps) (f ∷ fs) t
    by go (inl d) =
        record {
          claim = claim_of s t;
          there =
              Contains-left (claim_of s t) (claims_of s) (AllClaims ps fs)
              (Contains-right (claim_of s t) (imported_in s) (map (claim_of s) f.decls) (Contains-map (claim_of s) f.decls t d));
          claims = claims-first homes k p ps f fs t h d;
        }
    by go (inr d) =
        let m = go d in record {
          claim = m.claim;
          there = Contains-right m.claim (claims_of s) (AllClaims ps fs) m.there;
          claims =
              m.claims;
        }

record TwoClaim (homes : ℕ → Module) (ps : List (List ℕ)) (fs : List FileTree) (t u : Node) : Type 0 where
  first : Claim
  second : Claim
  precede : Precedes (AllClaims ps fs) first second
  first_claims : Claims homes t first
  second_claims : Claims homes u second

two-claim : (homes : ℕ → Module) (k : ℕ) (ps : List (List ℕ)) (fs : List FileTree) (t u : Node) → AreFilesOf homes k ps fs →
    Precedes (decls_from fs) t u → TwoClaim homes ps fs t u
two-claim homes k ps [] t u h q = absurd q
two-claim homes k [] (f ∷ fs) t u h q = absurd (omega (arith, h.paired))
two-claim homes k (p ∷ ps) (f ∷ fs) t u h q =
    by (λ r. two-claim homes (suc k) ps fs t u (behind homes k p ps f fs h) r) (precedes-append f.decls (decls_from fs) t u q)
  where
    s : Source
    s = source_of p f

    rest : List Claim
    rest = AllClaims ps fs

    inside : Precedes f.decls t u → Contains f.decls t → Contains f.decls u → TwoClaim homes (p ∷ ps) (f ∷ fs) t u
    inside r c d =
        record {
          first = claim_of s t;
          second = claim_of s u;
          precede =
              precedes-left (claims_of s) rest (claim_of s t) (claim_of s u)
              (precedes-right (imported_in s) (map (claim_of s) f.decls) (claim_of s t) (claim_of s u)
              (precedes-map (claim_of s) f.decls t u r));
          first_claims = claims-first homes k p ps f fs t h c;
          second_claims = claims-first homes k p ps f fs u h d;
        }

    across : Contains f.decls t → Contains (decls_from fs) u → TwoClaim homes (p ∷ ps) (f ∷ fs) t u
    across c d =
        let m = claimed homes (suc k) ps fs u (behind homes k p ps f fs h) d in
        record {
          first = claim_of s t;
          second = m.claim;
          precede =
              precedes-across (claims_of s) rest (claim_of s t) m.claim
              (Contains-right (claim_of s t) (imported_in s) (map (claim_of s) f.decls) (Contains-map (claim_of s) f.decls t c)) m.there;
          first_claims = claims-first homes k p ps f fs t h c;
          second_claims = m.claims;
        }

    by : (Precedes (decls_from fs) t u → TwoClaim homes ps fs t u) →
        Precedes f.decls t u ⊎ ((Contains f.decls t × Contains (decls_from fs) u) ⊎ Precedes (decls_from fs) t u) →
        TwoClaim homes (p ∷ ps) (f ∷ fs) t u
    by go (inl r) = let c = precedes-contained f.decls t u r in inside r c.0 c.1
    by go (inr (inl r)) = across r.0 r.1
    by go (inr (inr r)) =
        let m = go r in
        record {
          first = m.first;
          second = m.second;
          precede = precedes-right (claims_of s) rest m.first m.second m.precede;
          first_claims = m.first_claims;
          second_claims = m.second_claims;
        }

-- ---- a violation

same-bytes : (xs ys : List ℕ) → xs ≡ ys → bytes_eq xs ys ≡ true
same-bytes xs ys e = (bytes_eq-Decides xs ys).1 e

clashes : (homes : ℕ → Module) (t u : Node) (a b : Claim) → Claims homes t a → Claims homes u b →
    homes (place_of t).file ≡ homes (place_of u).file → text_of (name_in t) ≡ text_of (name_in u) → clash a b ≡ true
clashes homes t u a b c d e f =
    all-three (same_module a.home b.home) (bytes_eq a.name b.name) (not (a.imported && b.imported) || a.file == b.file)
    (same-bytes a.home b.home (c.home ∙ e ∙ sym d.home)) (same-bytes a.name b.name (c.name ∙ f ∙ sym d.name))
    (declared a.imported b.imported (a.file == b.file) c.declared)
  where
    all-three : (x y z : Bool) → x ≡ true → y ≡ true → z ≡ true → (x && y && z) ≡ true
    all-three true true true p q r = refl
    all-three true true false p q r = absurd cc
    all-three true false z p q r = absurd cc
    all-three false y z p q r = absurd cc

    declared : (x y z : Bool) → x ≡ false → (not (x && y) || z) ≡ true
    declared true y z p = absurd cc
    declared false y z p = refl

pub names-clash : (homes : ℕ → Module) (ps : List (List ℕ)) (fs : List FileTree) (t u : Node) → AreHomes homes 0 ps → AreFilesFrom 0 fs →
    length fs ≡ length ps → Precedes (decls_from fs) t u → homes (place_of t).file ≡ homes (place_of u).file →
    text_of (name_in t) ≡ text_of (name_in u) → (f : Fault) × IsViolation (sources ps fs) f
names-clash homes ps fs t u h g l q e n =
    let m = two-claim homes 0 ps fs t u (record { homes_are = h; files_are = g; paired = l }) q in
    let c = clashes homes t u m.first m.second m.first_claims m.second_claims e n in
    let s = repeated-precedes clash
    (map (λ i. record { home = i.home; file = 0; imported = false; name = i.name; place = start_of 0 }) built_in) (AllClaims ps fs)
    m.first m.second m.precede c in (
      fault 12 s.0.place,
      IsViolation.of_modules (IsModuleFault.repeated_name (Contains-map (λ x. fault 12 x.place) (repeated_claims (sources ps fs)) s.0 s.1)),
    )
