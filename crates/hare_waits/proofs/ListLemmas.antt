-- The pairs of a name and a node that is listed under it, as lists come and go.
use Rattle.std.proofs.Common.{◌≡◌, ◌≢◌, ◌⊎◌, inl, inr, ℕ, Bool, true, false, cond, nat_eq, List, [], ◌∷◌, ◌++◌, map, Option, Some, None, refl, ap, sym, ◌∙◌, subst}
use Rattle.std.specs.Prelude.{flat_map, option_map, Contains}
use Rattle.std.specs.Map.{lookup}
use Rattle.std.specs.Option.{unwrap_or}
use Rattle.std.proofs.lemmas.Bool.{eqb-true, eqb-false, eq-eqb}
use Rattle.std.proofs.lemmas.Map.Made.{lookup-map_values}
use Rattle.std.proofs.lemmas.List.Elements.{Contains-append_left, Contains-append_right, Contains-append_cases, Contains-push}
use Rattle.hare_waits.specs.declared.waiting.Waiting.{Waiting}
use Rattle.hare_waits.specs.Lists.{listed_under, pairs_of, Adds, Takes}
use Rattle.hare_waits.proofs.ElementLemmas.{Contains-head, Contains-rest, Contains-none, Contains-cons, Contains-last}

abbrev pub Listing : Type 0
Listing = List (ℕ × List Waiting)

-- ---- pairs

Contains-paired : (m : ℕ) (ws : List Waiting) (x : ℕ × Waiting) → Contains (map (λ w. (m, w)) ws) x → (m ≡ x.0) × Contains ws x.1
Contains-paired m [] x c = absurd (Contains-none x c)
Contains-paired m (w ∷ ws) x c = by (Contains-paired m ws x) (Contains-cons (m, w) x (map (λ v. (m, v)) ws) c)
  where
    by : (Contains (map (λ v. (m, v)) ws) x → (m ≡ x.0) × Contains ws x.1) →
        (◌≡◌ {A = ℕ × Waiting} (m, w) x) ⊎ Contains (map (λ v. (m, v)) ws) x
        → (m ≡ x.0) × Contains (w ∷ ws) x.1
    by ih (inl e) = (ap (λ p. p.0) e, subst (Contains (w ∷ ws)) (ap (λ p. p.1) e) (Contains-head w ws))
    by ih (inr r) = let h = ih r in (h.0, Contains-rest w x.1 ws h.1)

paired-Contains : (m : ℕ) (ws : List Waiting) (w : Waiting) → Contains ws w → Contains {X = ℕ × Waiting} (map (λ v. (m, v)) ws) (m, w)
paired-Contains m [] w c = absurd (Contains-none w c)
paired-Contains m (v ∷ ws) w c = by (paired-Contains m ws w) (Contains-cons v w ws c)
  where
    by : (Contains ws w → Contains {X = ℕ × Waiting} (map (λ u. (m, u)) ws) (m, w)) → (v ≡ w) ⊎ Contains ws w
        → Contains {X = ℕ × Waiting} ((m, v) ∷ map (λ u. (m, u)) ws) (m, w)
    by ih (inl e) = subst (λ u. Contains {X = ℕ × Waiting} ((m, v) ∷ map (λ z. (m, z)) ws) (m, u)) e
        (Contains-head (m, v) (map (λ z. (m, z)) ws))
    by ih (inr r) = Contains-rest (m, v) (m, w) (map (λ u. (m, u)) ws) (ih r)

module _ (under : ℕ → List Waiting) where
  abbrev all_pairs : Listing → List (ℕ × Waiting)
  all_pairs es = flat_map (λ e. map (λ w. (e.0, w)) (under e.0)) es

  all_pairs-sound : (es : Listing) (x : ℕ × Waiting) → Contains (all_pairs es) x → Contains (under x.0) x.1
  all_pairs-sound [] x c = absurd (Contains-none x c)
  all_pairs-sound (e ∷ es) x c = by (all_pairs-sound es x) (Contains-append_cases (map (λ w. (e.0, w)) (under e.0)) (all_pairs es) x c)
    where
      by : (Contains (all_pairs es) x → Contains (under x.0) x.1) →
          Contains (map (λ w. (e.0, w)) (under e.0)) x ⊎ Contains (all_pairs es) x → Contains (under x.0) x.1
      by ih (inl a) = let h = Contains-paired e.0 (under e.0) x a in subst (λ m. Contains (under m) x.1) h.0 h.1
      by ih (inr b) = ih b

  -- a list of that name is there
  abbrev IsKey : Listing → ℕ → Type 0
  IsKey es n = (ws : List Waiting) × Contains es (n, ws)

  all_pairs-whole : (es : Listing) (x : ℕ × Waiting) → IsKey es x.0 → Contains (under x.0) x.1 → Contains (all_pairs es) x
  all_pairs-whole [] x k c = absurd (Contains-none (x.0, k.0) k.1)
  all_pairs-whole (e ∷ es) x k c = by (all_pairs-whole es x) (Contains-cons e (x.0, k.0) es k.1)
    where
      by : (IsKey es x.0 → Contains (under x.0) x.1 → Contains (all_pairs es) x) → (e ≡ (x.0, k.0)) ⊎ Contains es (x.0, k.0) →
          Contains (all_pairs (e ∷ es)) x
      by ih (inl p) =
          let key : x.0 ≡ e.0 = sym (ap (λ z. z.0) p) in
          subst (λ m. Contains (map (λ w. (m, w)) (under m) ++ all_pairs es) x) key
          (Contains-append_left (map (λ w. (x.0, w)) (under x.0)) (all_pairs es) x (paired-Contains x.0 (under x.0) x.1 c))
      by ih (inr r) = Contains-append_right (map (λ w. (e.0, w)) (under e.0)) (all_pairs es) x (ih (k.0, r) c)

-- a name under which something is listed has a list
key_there : (es : Listing) (n : ℕ) (w : Waiting) → Contains (listed_under es n) w → (ws : List Waiting) × Contains es (n, ws)
key_there [] n w c = absurd (Contains-none w c)
key_there (e ∷ es) n w c = by (key_there es n w) (nat_eq n e.0) refl c
  where
    by : (Contains (listed_under es n) w → (ws : List Waiting) × Contains es (n, ws)) → (b : Bool) → nat_eq n e.0 ≡ b
        → Contains (unwrap_or (cond b (Some e.1) (lookup (nat_eq n) es)) []) w → (ws : List Waiting) × Contains (e ∷ es) (n, ws)
    by ih true p d = (e.1, subst (λ m. Contains (e ∷ es) (m, e.1)) (sym (eqb-true n e.0 p)) (Contains-head e es))
    by ih false p d = let h = ih d in (h.0, Contains-rest e (n, h.0) es h.1)

-- the pairs are just those of a name with what is listed under it
pub pairs-sound : (es : Listing) (n : ℕ) (w : Waiting) → Contains (pairs_of es) (n, w) → Contains (listed_under es n) w
pairs-sound es n w c = all_pairs-sound (listed_under es) es (n, w) c

pub pairs-whole : (es : Listing) (n : ℕ) (w : Waiting) → Contains (listed_under es n) w → Contains (pairs_of es) (n, w)
pairs-whole es n w c = all_pairs-whole (listed_under es) es (n, w) (key_there es n w c) c

-- ---- a list is taken out

module _ (es fs : Listing) (name : ℕ) (under : (q : ℕ) → listed_under fs q ≡ cond (nat_eq name q) [] (listed_under es q)) where
  kept : (n : ℕ) (w : Waiting) → Contains (pairs_of es) (n, w) → n ≢ name → Contains (pairs_of fs) (n, w)
  kept n w c ne = pairs-whole fs n w (by (nat_eq name n) refl)
    where
      by : (b : Bool) → nat_eq name n ≡ b → Contains (listed_under fs n) w
      by true e = absurd (ne (sym (eqb-true name n e)))
      by false e = subst (λ l. Contains l w) (sym (under n ∙ ap (λ b. cond b [] (listed_under es n)) e)) (pairs-sound es n w c)

  only : (n : ℕ) (w : Waiting) → Contains (pairs_of fs) (n, w) → Contains (pairs_of es) (n, w) × (n ≢ name)
  only n w c = by (nat_eq name n) refl (subst (λ l. Contains l w) (under n) (pairs-sound fs n w c))
    where
      by : (b : Bool) → nat_eq name n ≡ b → Contains (cond (nat_eq name n) [] (listed_under es n)) w → Contains (pairs_of es) (n, w) ×
          (n ≢ name)
      by true e d = absurd (Contains-none w (subst (λ b. Contains (cond b [] (listed_under es n)) w) e d))
      by false e d = (pairs-whole es n w (subst (λ b. Contains (cond b [] (listed_under es n)) w) e d), λ p. eqb-false name n e (sym p))

  pub Takes-listed : (ws : List Waiting) → ws ≡ listed_under es name → Takes (pairs_of es) (pairs_of fs) name ws
  Takes-listed ws e = record {
    found = λ w c. subst (λ l. Contains l w) (sym e) (pairs-sound es name w c);
    taken = λ w c. pairs-whole es name w (subst (λ l. Contains l w) e c);
    kept = kept;
    only = only;
  }

-- ---- a list is put back, with one node more

module _ (old : List (ℕ × Waiting)) (es fs : Listing) (name : ℕ) (ws : List Waiting) (w : Waiting) (takes : Takes old (pairs_of es) name ws)
    (under : (q : ℕ) → listed_under fs q ≡ cond (nat_eq name q) (ws ++ w ∷ []) (listed_under es q)) where
  here : (v : Waiting) → Contains (ws ++ w ∷ []) v → Contains (pairs_of fs) (name, v)
  here v c = pairs-whole fs name v (subst (λ l. Contains l v)
      (sym (under name ∙ ap (λ b. cond b (ws ++ w ∷ []) (listed_under es name)) (eq-eqb name name refl))) c)

  there : (n : ℕ) (v : Waiting) → Contains (pairs_of es) (n, v) → n ≢ name → Contains (pairs_of fs) (n, v)
  there n v c ne = pairs-whole fs n v (by (nat_eq name n) refl)
    where
      by : (b : Bool) → nat_eq name n ≡ b → Contains (listed_under fs n) v
      by true e = absurd (ne (sym (eqb-true name n e)))
      by false e = subst (λ l. Contains l v) (sym (under n ∙ ap (λ b. cond b (ws ++ w ∷ []) (listed_under es n)) e)) (pairs-sound es n v c)

  still : (x : ℕ × Waiting) → Contains old x → Contains (pairs_of fs) x
  still x c = by (nat_eq x.0 name) refl
    where
      by : (b : Bool) → nat_eq x.0 name ≡ b → Contains (pairs_of fs) x
      by true e =
          let same = eqb-true x.0 name e in
          let listed = takes.found x.1 (subst (λ n. Contains old (n, x.1)) same c) in
          subst (λ n. Contains (pairs_of fs) (n, x.1)) (sym same) (here x.1 (Contains-append_left ws (w ∷ []) x.1 listed))
      by false e = let ne : x.0 ≢ name = eqb-false x.0 name e in there x.0 x.1 (takes.kept x.0 x.1 c ne) ne

  -- a node that is listed under the name was there before, or is the new one
  at_name : (n : ℕ) (v : Waiting) → name ≡ n → Contains (ws ++ w ∷ []) v → Contains old (n, v) ⊎ (◌≡◌ {A = ℕ × Waiting} (n, v) (name, w))
  at_name n v same c = by (Contains-last ws w v c)
    where
      by : Contains ws v ⊎ (w ≡ v) → Contains old (n, v) ⊎ (◌≡◌ {A = ℕ × Waiting} (n, v) (name, w))
      by (inl a) = inl (subst (λ m. Contains old (m, v)) same (takes.taken v a))
      by (inr e) = inr (λ i. (sym same i, sym e i))

  added_only : (x : ℕ × Waiting) → Contains (pairs_of fs) x → Contains old x ⊎ (x ≡ (name, w))
  added_only x c = by (nat_eq name x.0) refl (subst (λ l. Contains l x.1) (under x.0) (pairs-sound fs x.0 x.1 c))
    where
      by : (b : Bool) → nat_eq name x.0 ≡ b → Contains (cond (nat_eq name x.0) (ws ++ w ∷ []) (listed_under es x.0)) x.1 →
          Contains old x ⊎ (x ≡ (name, w))
      by true e d = at_name x.0 x.1 (eqb-true name x.0 e) (subst (λ b. Contains (cond b (ws ++ w ∷ []) (listed_under es x.0)) x.1) e d)
      by false e d = inl (takes.only x.0 x.1
          (pairs-whole es x.0 x.1 (subst (λ b. Contains (cond b (ws ++ w ∷ []) (listed_under es x.0)) x.1) e d))).0

  pub Adds-listed : Adds old (pairs_of fs) (name, w)
  Adds-listed = record { added = here w (Contains-push ws w); kept = still; only = added_only }

-- ---- as the lists are kept

module _ {V : Type 0} (items : V → List Waiting) where
  abbrev pub listing : List (ℕ × V) → Listing
  listing es = map (λ e. (e.0, items e.1)) es

  listed-listing : (es : List (ℕ × V)) (n : ℕ) → listed_under (listing es) n ≡ unwrap_or (option_map items (lookup (nat_eq n) es)) []
  listed-listing es n = ap (λ o. unwrap_or o []) (lookup-map_values items (nat_eq n) es)

  listed-cond : (b : Bool) (o p : Option V) →
      unwrap_or (option_map items (cond b o p)) [] ≡ cond b (unwrap_or (option_map items o) []) (unwrap_or (option_map items p) [])
  listed-cond true o p = refl
  listed-cond false o p = refl

  -- another look-up is another listing
  listed-updated : (es fs : List (ℕ × V)) (name : ℕ) (o : Option V) →
      ((q : ℕ) → lookup (nat_eq q) fs ≡ cond (nat_eq name q) o (lookup (nat_eq q) es))
      → (q : ℕ) → listed_under (listing fs) q ≡ cond (nat_eq name q) (unwrap_or (option_map items o) []) (listed_under (listing es) q)
  listed-updated es fs name o put q =
      listed-listing fs q ∙ ap (λ p. unwrap_or (option_map items p) []) (put q) ∙ listed-cond (nat_eq name q) o (lookup (nat_eq q) es)
      ∙ ap (cond (nat_eq name q) (unwrap_or (option_map items o) [])) (sym (listed-listing es q))

  pub taken_out : (es fs : List (ℕ × V)) (name : ℕ) → ((q : ℕ) → lookup (nat_eq q) fs ≡ cond (nat_eq name q) None (lookup (nat_eq q) es))
      → (ws : List Waiting) → ws ≡ unwrap_or (option_map items (lookup (nat_eq name) es)) [] →
      Takes (pairs_of (listing es)) (pairs_of (listing fs)) name ws
  taken_out es fs name put ws e = Takes-listed (listing es) (listing fs) name (listed-updated es fs name None put) ws
      (e ∙ sym (listed-listing es name))

  pub put_back : (old : List (ℕ × Waiting)) (es fs : List (ℕ × V)) (name : ℕ) (ws : List Waiting) (w : Waiting) (v : V) →
      items v ≡ ws ++ w ∷ []
      → Takes old (pairs_of (listing es)) name ws → ((q : ℕ) → lookup (nat_eq q) fs ≡ cond (nat_eq name q) (Some v) (lookup (nat_eq q) es))
      → Adds old (pairs_of (listing fs)) (name, w)
  put_back old es fs name ws w v e takes put =
      Adds-listed old (listing es) (listing fs) name ws w takes
      (λ q. listed-updated es fs name (Some v) put q ∙ ap (λ l. cond (nat_eq name q) l (listed_under (listing es) q)) e)
