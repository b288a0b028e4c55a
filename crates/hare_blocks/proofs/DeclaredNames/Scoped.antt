-- A scope's map tells the newest declaration of each name.
use Rattle.std.proofs.Common.{◌≡◌, ◌≢◌, ℕ, List, [], ◌∷◌, ◌++◌, Option, Some, None, Bool, true, false, cond, reverse, nat_eq, bytes_eq, refl, sym, ap, ◌∙◌}
use Rattle.std.proofs.lemmas.List.{reverse-append}
use Rattle.std.proofs.lemmas.Slice.Eq.{bytes_eq-Decides}
use Rattle.std.specs.Bool.{MatchBool}
use Rattle.std.specs.Cmp.Lexicographic.{told_text}
use Rattle.std.specs.Map.{lookup}
use Rattle.indexmap.specs.IndexMap.{insert_entry}
use lib.Pointwise.{pointwise}
use Rattle.hare_blocks.specs.declared.scope.Binding.{Binding}
use Rattle.hare_blocks.specs.Scopes.{number_of}
use Rattle.hare_blocks.specs.ScopeParts.{joined, told, named, bindings_of, HideRightly, IsScope}

-- ---- two tests of bytes

-- one holds as the other does
tests : (x y : List ℕ) → pointwise nat_eq x y ≡ bytes_eq y x
tests x y = by (pointwise nat_eq x y) (told_text x y _ refl) (bytes_eq y x) refl
  where
    by : (a : Bool) → MatchBool a (x ≡ y) (x ≢ y) → (b : Bool) → bytes_eq y x ≡ b → a ≡ b
    by true h true e = refl
    by true h false e = let k = (bytes_eq-Decides y x).1 (sym h) in cc
    by false h true e = absurd (h (sym ((bytes_eq-Decides y x).0 e)))
    by false h false e = refl

-- bytes are themselves
itself : (x : List ℕ) → bytes_eq x x ≡ true
itself x = (bytes_eq-Decides x x).1 refl

-- ---- the map behind a declaration

module _ {K : Type 0} (bytes : K → List ℕ) where
  abbrev same : K → K → Bool
  same a b = pointwise nat_eq (bytes a) (bytes b)

  -- where the key is the one of the first entry
  at_first : (x : List ℕ) (k : K) (v : Option ℕ) (e : K × Option ℕ) (es : List (K × Option ℕ)) → bytes k ≡ bytes e.0 →
      joined (cond (pointwise nat_eq x (bytes e.0)) (Some v) (lookup (λ q. pointwise nat_eq x (bytes q)) es)) ≡
      cond (bytes_eq (bytes k) x) v (told bytes x (e ∷ es))
  at_first x k v e es h = rw (tests x (bytes e.0), h) (by (bytes_eq (bytes e.0) x))
    where
      by : (b : Bool) → joined (cond b (Some v) (lookup (λ q. pointwise nat_eq x (bytes q)) es)) ≡
          cond b v (joined (cond b (Some e.1) (lookup (λ q. pointwise nat_eq x (bytes q)) es)))
      by true = refl
      by false = refl

  -- where it is another
  at_others : (x : List ℕ) (k : K) (v : Option ℕ) (e : K × Option ℕ) (es ds : List (K × Option ℕ)) → bytes k ≢ bytes e.0 →
      told bytes x ds ≡ cond (bytes_eq (bytes k) x) v (told bytes x es) →
      told bytes x (e ∷ ds) ≡ cond (bytes_eq (bytes k) x) v (told bytes x (e ∷ es))
  at_others x k v e es ds apart h = rw (tests x (bytes e.0)) (by (bytes_eq (bytes e.0) x) refl (bytes_eq (bytes k) x) refl h)
    where
      by : (a : Bool) → bytes_eq (bytes e.0) x ≡ a → (b : Bool) → bytes_eq (bytes k) x ≡ b → told bytes x ds ≡ cond b v (told bytes x es) →
          joined (cond a (Some e.1) (lookup (λ q. pointwise nat_eq x (bytes q)) ds)) ≡
          cond b v (joined (cond a (Some e.1) (lookup (λ q. pointwise nat_eq x (bytes q)) es)))
      by true p true q h = absurd (apart ((bytes_eq-Decides (bytes k) x).0 q ∙ sym ((bytes_eq-Decides (bytes e.0) x).0 p)))
      by true p false q h = refl
      by false p b q h = h

  -- the key that was put in tells its value, and the others what they told
  told_insert : (x : List ℕ) (k : K) (v : Option ℕ) (es : List (K × Option ℕ)) →
      told bytes x (insert_entry same es k v) ≡ cond (bytes_eq (bytes k) x) v (told bytes x es)
  told_insert x k v [] = rw (tests x (bytes k)) (by (bytes_eq (bytes k) x))
    where
      by : (b : Bool) → joined (cond b (Some v) None) ≡ cond b v None
      by true = refl
      by false = refl
  told_insert x k v (e ∷ es) = by (same k e.0) (told_text (bytes k) (bytes e.0) _ refl) (told_insert x k v es)
    where
      by : (b : Bool) → MatchBool b (bytes k ≡ bytes e.0) (bytes k ≢ bytes e.0) →
          told bytes x (insert_entry same es k v) ≡ cond (bytes_eq (bytes k) x) v (told bytes x es) →
          told bytes x (cond b ((e.0, v) ∷ es) (e ∷ insert_entry same es k v)) ≡ cond (bytes_eq (bytes k) x) v (told bytes x (e ∷ es))
      by true h more = at_first x k v e es h
      by false h more = at_others x k v e es (insert_entry same es k v) h more

  -- a declaration behind the others is the newest
  newest : (bs : List Binding) (b : Binding) → bindings_of (bs ++ b ∷ []) ≡ named b ∷ bindings_of bs
  newest bs b = rw (reverse-append bs (b ∷ [])) refl

  -- a scope with one declaration more
  pub scope_declared : (entries : List (K × Option ℕ)) (bs : List Binding) (b : Binding) (k : K) → IsScope bytes entries bs →
      bytes k ≡ b.name.items → b.hidden ≡ number_of b.name.items (bindings_of bs) →
      IsScope bytes (insert_entry same entries k (Some b.number)) (bs ++ b ∷ [])
  scope_declared entries bs b k s seen hides = record {
    tells = λ x. told_insert x k (Some b.number) entries ∙ rw (newest bs b, seen, s.tells x) refl;
    hides = rw (reverse-append bs (b ∷ [])) (hides, s.hides);
  }

  -- what is hidden tells as the rest does
  uncovered : (x : List ℕ) (b : Binding) (rest : List (List ℕ × ℕ)) → b.hidden ≡ number_of b.name.items rest →
      cond (bytes_eq b.name.items x) b.hidden (number_of x (named b ∷ rest)) ≡ number_of x rest
  uncovered x b rest h = by (bytes_eq b.name.items x) refl
    where
      by : (c : Bool) → bytes_eq b.name.items x ≡ c → cond c b.hidden (cond c (Some b.number) (number_of x rest)) ≡ number_of x rest
      by true e = h ∙ ap (λ y. number_of y rest) ((bytes_eq-Decides b.name.items x).0 e)
      by false e = refl

  -- a scope without its newest declaration
  pub scope_forgotten : (entries : List (K × Option ℕ)) (bs : List Binding) (b : Binding) (k : K) → IsScope bytes entries (bs ++ b ∷ []) →
      bytes k ≡ b.name.items → IsScope bytes (insert_entry same entries k b.hidden) bs
  scope_forgotten entries bs b k s seen =
      let hides : HideRightly (b ∷ reverse bs) = rw (reverse-append bs (b ∷ [])) at s.hides in
      record {
        tells = λ x. told_insert x k b.hidden entries ∙ rw (seen, s.tells x, newest bs b) (uncovered x b (bindings_of bs) hides.0);
        hides = hides.1;
      }

  -- the name of a declaration is a key of the map
  pub scope_has : (entries : List (K × Option ℕ)) (bs : List Binding) (b : Binding) → IsScope bytes entries (bs ++ b ∷ []) →
      lookup (λ q. pointwise nat_eq b.name.items (bytes q)) entries ≡ None → ⊥
  scope_has entries bs b s none =
      let tells : told bytes b.name.items entries ≡ Some b.number = s.tells b.name.items ∙ rw (newest bs b, itself b.name.items) refl in
      let nothing : told bytes b.name.items entries ≡ None = ap joined none in
      let both = sym tells ∙ nothing in
      cc
