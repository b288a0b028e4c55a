-- Tables, by the entries of maps.
use Rattle.std.proofs.Common.{◌≡◌, ℕ, List, [], ◌∷◌, ◌++◌, Bool, true, false, cond, not, ◌+◌, map, bytes_eq, position, Some, is_some, ◌||◌, if◌then◌else◌, refl, sym, ap, ◌∙◌}
use Rattle.std.specs.Map.{lookup}
use Rattle.std.specs.List.{prefix_len, position_or_len, list_any}
use Rattle.indexmap.specs.IndexMap.{insert_entry}
use Rattle.hare_modules.specs.Tables.{value_of, has, put, entered}
use Rattle.hare_modules.proofs.ListLemmas.{map-push}
use Rattle.std.proofs.lemmas.List.{length-map}

-- what a table tells of a name is what its map tells of the key
pub lookup-seen : {K T : Type 0} (bytes : K → List ℕ) (x : List ℕ) (es : List (K × T)) →
    lookup (bytes_eq x) (map (λ e. (bytes e.0, e.1)) es) ≡ lookup (λ k. bytes_eq x (bytes k)) es
lookup-seen bytes x [] = refl
lookup-seen bytes x (e ∷ es) = ap (λ r. cond (bytes_eq x (bytes e.0)) (Some e.1) r) (lookup-seen bytes x es)

-- places of what is seen are those of what it is seen from
pub prefix_len-seen : {A B : Type 0} (f : A → B) (p : B → Bool) (xs : List A) → prefix_len p (map f xs) ≡ prefix_len (λ x. p (f x)) xs
prefix_len-seen f p [] = refl
prefix_len-seen f p (x ∷ xs) = ap (λ n. cond (p (f x)) (1 + n) 0) (prefix_len-seen f p xs)

pub position_or_len-seen : {A B : Type 0} (f : A → B) (p : B → Bool) (xs : List A) →
    position_or_len p (map f xs) ≡ position_or_len (λ x. p (f x)) xs
position_or_len-seen f p xs = prefix_len-seen f (λ y. not (p y)) xs

pub position-seen : {A B : Type 0} (f : A → B) (p : B → Bool) (xs : List A) → position p (map f xs) ≡ position (λ x. p (f x)) xs
position-seen f p xs = rw (position_or_len-seen f p xs, length-map xs f) refl

pub list_any-seen : {A B : Type 0} (f : A → B) (p : B → Bool) (xs : List A) → list_any p (map f xs) ≡ list_any (λ x. p (f x)) xs
list_any-seen f p [] = refl
list_any-seen f p (x ∷ xs) = ap (λ b. p (f x) || b) (list_any-seen f p xs)

-- an entry more, under a name that has none
pub put-new : {K T : Type 0} (bytes : K → List ℕ) (k : K) (v : T) (x : List ℕ) (es new : List (K × T)) (old : List (List ℕ × T)) →
    map (λ e. (bytes e.0, e.1)) es ≡ old → new ≡ es ++ (k, v) ∷ [] → bytes k ≡ x → has x old ≡ false →
    map (λ e. (bytes e.0, e.1)) new ≡ put old x v
put-new bytes k v x es new old s n b h =
    ap (map (λ e. (bytes e.0, e.1))) n ∙ map-push (λ e. (bytes e.0, e.1)) es (k, v) ∙ rw (s, b, h) refl

-- a name more, unless it is there
pub entered-seen : {K : Type 0} (bytes : K → List ℕ) (k : K) (x : List ℕ) (ks new : List K) (old : List (List ℕ)) → map bytes ks ≡ old →
    new ≡ (if list_any (λ q. bytes_eq (bytes k) (bytes q)) ks then ks else ks ++ k ∷ []) → bytes k ≡ x → map bytes new ≡ entered old x
entered-seen bytes k x ks new old s n b =
    ap (map bytes) n ∙ by (list_any (λ q. bytes_eq (bytes k) (bytes q)) ks) (sym (list_any-seen bytes (bytes_eq (bytes k)) ks))
    ∙ rw (s, b) refl
  where
    by : (c : Bool) → c ≡ list_any (bytes_eq (bytes k)) (map bytes ks) →
        map bytes (if c then ks else ks ++ k ∷ []) ≡ entered (map bytes ks) (bytes k)
    by true e = rw (← e) refl
    by false e = rw (← e) (map-push bytes ks k)

-- the same entries, where the name has a value
pub put-there : {K T : Type 0} (bytes : K → List ℕ) (v w : T) (x : List ℕ) (es new : List (K × T)) (old : List (List ℕ × T)) →
    map (λ e. (bytes e.0, e.1)) es ≡ old → new ≡ es → value_of x old ≡ Some w → map (λ e. (bytes e.0, e.1)) new ≡ put old x v
put-there bytes v w x es new old s n h =
    ap (map (λ e. (bytes e.0, e.1))) n ∙ s ∙ sym (ap (λ o. cond (is_some o) old (old ++ (x, v) ∷ [])) h)

-- an entry that is put under a key that has one, and then the first put back
put-back : {K V : Type 0} (eq : K → K → Bool) (k : K) (v w : V) (es : List (K × V)) → lookup (eq k) es ≡ Some w →
    insert_entry eq (insert_entry eq es k v) k w ≡ es
put-back eq k v w [] h = absurd cc
put-back {K} {V} eq k v w (e ∷ es) h = by (eq k e.0) refl h (put-back eq k v w es)
  where
    by : (b : Bool) → eq k e.0 ≡ b → cond b (Some e.1) (lookup (eq k) es) ≡ Some w →
        (lookup (eq k) es ≡ Some w → insert_entry eq (insert_entry eq es k v) k w ≡ es) →
        insert_entry eq (insert_entry eq (e ∷ es) k v) k w ≡ e ∷ es
    by true s h on =
        let same : w ≡ e.1 = cc in
        ap (λ c. insert_entry eq (cond c ((e.0, v) ∷ es) (e ∷ insert_entry eq es k v)) k w) s
        ∙ ap (λ c. cond c ((e.0, w) ∷ es) ((e.0, v) ∷ insert_entry eq es k w)) s
        ∙ ap (λ x. (e.0, x) ∷ es) same
    by false s h on =
        ap (λ c. insert_entry eq (cond c ((e.0, v) ∷ es) (e ∷ insert_entry eq es k v)) k w) s
        ∙ ap (λ c. cond c ((e.0, w) ∷ insert_entry eq es k v) (e ∷ insert_entry eq (insert_entry eq es k v) k w)) s
        ∙ ap (λ xs. e ∷ xs) (on h)

pub restored : {K V : Type 0} (eq : K → K → Bool) (k : K) (v w : V) (es mid new : List (K × V)) → mid ≡ insert_entry eq es k v →
    new ≡ insert_entry eq mid k w → lookup (eq k) es ≡ Some w → new ≡ es
restored eq k v w es mid new m n h = n ∙ ap (λ xs. insert_entry eq xs k w) m ∙ put-back eq k v w es h
