-- The map of the locals tells of each name its newest one.
use Rattle.std.proofs.Common.{◌≡◌, ◌≢◌, ℕ, ◌+◌, ◌<◌, ◌≤◌, List, [], ◌∷◌, ◌++◌, Bool, true, false, cond, not, bytes_eq, length, map, reverse, Option, Some, None, refl, sym, ap, ◌∙◌, subst, suc, zero, one-add, true≢false, arith}
use Rattle.std.proofs.lemmas.List.{reverse-append}
use Rattle.std.proofs.lemmas.Slice.Eq.{bytes_eq-Decides}
use Rattle.std.specs.List.{position_or_len}
use Rattle.std.specs.Map.{lookup, keys_of}
use Rattle.std.specs.Option.{option_flatten}
use Rattle.indexmap.specs.IndexMap.{insert_entry, set_value_at}
use Rattle.hare_blocks.specs.Scopes.{number_of}
use Rattle.hare_names.specs.declared.locals.Local.{Local}
use Rattle.hare_names.specs.LocalParts.{local_of, locals_of, told, entry_of, Know, AreTold}

-- ---- two names

-- equal bytes are the same
equal : (x y : List ℕ) → bytes_eq x y ≡ true → x ≡ y
equal x y e = (bytes_eq-Decides x y).0 e

itself : (x : List ℕ) → bytes_eq x x ≡ true
itself x = (bytes_eq-Decides x x).1 refl

module _ {K : Type 0} (bytes : K → List ℕ) where
  abbrev same : K → K → Bool
  same a b = bytes_eq (bytes a) (bytes b)

  abbrev Entries : Type 0
  Entries = List (K × Option ℕ)

  -- ---- what the entries tell

  -- what a name's entry is told to be behind a first one, whose name a second one may be
  module _ (x y : List ℕ) (e : K × Option ℕ) (v : Option ℕ) (es : Entries) where
    -- the first entry takes the value
    first-told : bytes_eq y (bytes e.0) ≡ true → told bytes x ((e.0, v) ∷ es) ≡ cond (bytes_eq y x) v (told bytes x (e ∷ es))
    first-told h = by (bytes_eq x (bytes e.0)) refl (bytes_eq y x) refl
      where
        by : (a : Bool) → bytes_eq x (bytes e.0) ≡ a → (b : Bool) → bytes_eq y x ≡ b →
            option_flatten (cond a (Some v) (lookup (λ k. bytes_eq x (bytes k)) es)) ≡
            cond b v (option_flatten (cond a (Some e.1) (lookup (λ k. bytes_eq x (bytes k)) es)))
        by true p true q = refl
        by true p false q = absurd (true≢false (sym h ∙ ap (bytes_eq y) (sym (equal x (bytes e.0) p)) ∙ q))
        by false p true q = absurd (true≢false (sym h ∙ ap (λ z. bytes_eq z (bytes e.0)) (equal y x q) ∙ p))
        by false p false q = refl

    -- the others do, and the first is of another name
    others-told : (ds : Entries) → bytes_eq y (bytes e.0) ≡ false → told bytes x ds ≡ cond (bytes_eq y x) v (told bytes x es) →
        told bytes x (e ∷ ds) ≡ cond (bytes_eq y x) v (told bytes x (e ∷ es))
    others-told ds h on = by (bytes_eq x (bytes e.0)) refl (bytes_eq y x) refl on
      where
        by : (a : Bool) → bytes_eq x (bytes e.0) ≡ a → (b : Bool) → bytes_eq y x ≡ b → told bytes x ds ≡ cond b v (told bytes x es) →
            option_flatten (cond a (Some e.1) (lookup (λ k. bytes_eq x (bytes k)) ds)) ≡
            cond b v (option_flatten (cond a (Some e.1) (lookup (λ k. bytes_eq x (bytes k)) es)))
        by true p true q on = absurd (true≢false (sym p ∙ ap (λ z. bytes_eq z (bytes e.0)) (sym (equal y x q)) ∙ h))
        by true p false q on = refl
        by false p b q on = on

  -- an entry that is put in tells its value, and the others what they told
  told-insert : (x : List ℕ) (k : K) (v : Option ℕ) (es : Entries) →
      told bytes x (insert_entry same es k v) ≡ cond (bytes_eq (bytes k) x) v (told bytes x es)
  told-insert x k v [] = by (bytes_eq x (bytes k)) refl (bytes_eq (bytes k) x) refl
    where
      by : (a : Bool) → bytes_eq x (bytes k) ≡ a → (b : Bool) → bytes_eq (bytes k) x ≡ b →
          option_flatten (cond a (Some v) None) ≡ cond b v None
      by true p true q = refl
      by true p false q = absurd (true≢false (sym (itself x) ∙ ap (λ z. bytes_eq z x) (equal x (bytes k) p) ∙ q))
      by false p true q = absurd (true≢false (sym (itself (bytes k)) ∙ ap (λ z. bytes_eq z (bytes k)) (equal (bytes k) x q) ∙ p))
      by false p false q = refl
  told-insert x k v (e ∷ es) = by (same k e.0) refl (told-insert x k v es)
    where
      by : (b : Bool) → same k e.0 ≡ b → told bytes x (insert_entry same es k v) ≡ cond (bytes_eq (bytes k) x) v (told bytes x es) →
          told bytes x (cond b ((e.0, v) ∷ es) (e ∷ insert_entry same es k v)) ≡ cond (bytes_eq (bytes k) x) v (told bytes x (e ∷ es))
      by true h on = first-told x (bytes k) e v es h
      by false h on = others-told x (bytes k) e v es (insert_entry same es k v) h on

  -- so does one whose value is written
  told-written : (x y : List ℕ) (v : Option ℕ) (es : Entries) → entry_of bytes y es < length es →
      told bytes x (set_value_at es (entry_of bytes y es) v) ≡ cond (bytes_eq y x) v (told bytes x es)
  told-written x y v [] l = absurd (omega arith)
  told-written x y v (e ∷ es) l = by (bytes_eq y (bytes e.0)) refl l (told-written x y v es)
    where
      by : (b : Bool) → bytes_eq y (bytes e.0) ≡ b → cond (not b) (1 + entry_of bytes y es) 0 < length (e ∷ es) →
          (entry_of bytes y es < length es →
          told bytes x (set_value_at es (entry_of bytes y es) v) ≡ cond (bytes_eq y x) v (told bytes x es)) →
          told bytes x (set_value_at (e ∷ es) (cond (not b) (1 + entry_of bytes y es) 0) v) ≡
          cond (bytes_eq y x) v (told bytes x (e ∷ es))
      by true h m on = first-told x y e v es h
      by false h m on =
          ap (λ n. told bytes x (set_value_at (e ∷ es) n v)) (one-add (entry_of bytes y es))
          ∙ others-told x y e v es (set_value_at es (entry_of bytes y es) v) h (on (omega arith))

  -- ---- where entries stand

  -- an entry that is there keeps its place
  entry-insert : (x : List ℕ) (k : K) (v : Option ℕ) (es : Entries) → entry_of bytes x es < length es →
      entry_of bytes x (insert_entry same es k v) ≡ entry_of bytes x es
  entry-insert x k v [] l = absurd (omega arith)
  entry-insert x k v (e ∷ es) l = by (same k e.0) (behind (bytes_eq x (bytes e.0)) l (entry-insert x k v es))
    where
      behind : (b : Bool) → cond (not b) (1 + entry_of bytes x es) 0 < length (e ∷ es) →
          (entry_of bytes x es < length es → entry_of bytes x (insert_entry same es k v) ≡ entry_of bytes x es) →
          cond (not b) (1 + entry_of bytes x (insert_entry same es k v)) 0 ≡ cond (not b) (1 + entry_of bytes x es) 0
      behind true m on = refl
      behind false m on = ap (λ n. 1 + n) (on (omega arith))

      by : (a : Bool) → entry_of bytes x (e ∷ insert_entry same es k v) ≡ entry_of bytes x (e ∷ es) →
          entry_of bytes x (cond a ((e.0, v) ∷ es) (e ∷ insert_entry same es k v)) ≡ entry_of bytes x (e ∷ es)
      by true on = refl
      by false on = on

  -- and a new one stands where it was to stand
  entry-inserted : (k : K) (v : Option ℕ) (es : Entries) →
      entry_of bytes (bytes k) (insert_entry same es k v) ≡ entry_of bytes (bytes k) es
  entry-inserted k v [] = rw (itself (bytes k)) refl
  entry-inserted k v (e ∷ es) = by (same k e.0) (entry-inserted k v es)
    where
      by : (b : Bool) → entry_of bytes (bytes k) (insert_entry same es k v) ≡ entry_of bytes (bytes k) es →
          entry_of bytes (bytes k) (cond b ((e.0, v) ∷ es) (e ∷ insert_entry same es k v)) ≡ entry_of bytes (bytes k) (e ∷ es)
      by true on = refl
      by false on = ap (λ n. cond (not (same k e.0)) (1 + n) 0) on

  length-insert : (k : K) (v : Option ℕ) (es : Entries) → length es ≤ length (insert_entry same es k v)
  length-insert k v [] = omega arith
  length-insert k v (e ∷ es) = by (same k e.0) (length-insert k v es)
    where
      by : (b : Bool) → length es ≤ length (insert_entry same es k v) →
          length (e ∷ es) ≤ length (cond b ((e.0, v) ∷ es) (e ∷ insert_entry same es k v))
      by true l = omega arith
      by false l = omega arith

  entry-written : (x : List ℕ) (i : ℕ) (v : Option ℕ) (es : Entries) → entry_of bytes x (set_value_at es i v) ≡ entry_of bytes x es
  entry-written x i v [] = refl
  entry-written x zero v (e ∷ es) = refl
  entry-written x (suc i) v (e ∷ es) = ap (λ n. cond (not (bytes_eq x (bytes e.0))) (1 + n) 0) (entry-written x i v es)

  length-written : (i : ℕ) (v : Option ℕ) (es : Entries) → length (set_value_at es i v) ≡ length es
  length-written i v [] = refl
  length-written zero v (e ∷ es) = refl
  length-written (suc i) v (e ∷ es) = ap suc (length-written i v es)

  -- ---- a local more or less

  know-insert : (k : K) (v : Option ℕ) (es : Entries) (ls : List Local) → Know bytes es ls → Know bytes (insert_entry same es k v) ls
  know-insert k v es [] h = tt
  know-insert k v es (l ∷ ls) h =
      let within : entry_of bytes l.name.now es < length es = subst (λ n. n < length es) h.0 h.1 in
      let more = length-insert k v es in
      let there : l.entry < length es = h.1 in
      (h.0 ∙ sym (entry-insert l.name.now k v es within), omega (arith, more, there), h.2, know-insert k v es ls h.3)

  know-written : (i : ℕ) (v : Option ℕ) (es : Entries) (ls : List Local) → Know bytes es ls → Know bytes (set_value_at es i v) ls
  know-written i v es [] h = tt
  know-written i v es (l ∷ ls) h = (
    h.0 ∙ sym (entry-written l.name.now i v es),
    subst (λ n. l.entry < n) (sym (length-written i v es)) h.1,
    h.2,
    know-written i v es ls h.3,
  )

  -- a local behind the others is the newest
  newest : (ls : List Local) (l : Local) → locals_of (ls ++ l ∷ []) ≡ local_of l ∷ locals_of ls
  newest ls l = ap (map local_of) (reverse-append ls (l ∷ []))

  -- what a local is that is made visible
  pub record IsDeclared (es : Entries) (ls : List Local) (k : K) (l : Local) : Type 0 where
    pub name_is : bytes k ≡ l.name.now
    pub entry_is : l.entry ≡ entry_of bytes (bytes k) es
    pub within : l.entry < length (insert_entry same es k (Some l.number))
    pub hidden_is : l.hidden ≡ told bytes (bytes k) es

  pub told-declared : (es : Entries) (ls : List Local) (k : K) (l : Local) → AreTold bytes es ls → IsDeclared es ls k l →
      AreTold bytes (insert_entry same es k (Some l.number)) (ls ++ l ∷ [])
  told-declared es ls k l t d = record {
    tells = λ x. told-insert x k (Some l.number) es
        ∙ ap (λ y. cond (bytes_eq y x) (Some l.number) (told bytes x es)) d.name_is
        ∙ ap (λ o. cond (bytes_eq l.name.now x) (Some l.number) o) (t.tells x)
        ∙ sym (ap (number_of x) (newest ls l));
    know = subst (Know bytes (insert_entry same es k (Some l.number))) (sym (reverse-append ls (l ∷ []))) (
      entry,
      d.within,
      d.hidden_is ∙ t.tells (bytes k) ∙ ap (λ y. number_of y (locals_of ls)) d.name_is,
      know-insert k (Some l.number) es (reverse ls) t.know,
    );
  }
    where
      entry : l.entry ≡ entry_of bytes l.name.now (insert_entry same es k (Some l.number))
      entry = d.entry_is ∙ sym (entry-inserted k (Some l.number) es)
          ∙ ap (λ y. entry_of bytes y (insert_entry same es k (Some l.number))) d.name_is

  -- what is hidden is told as before
  uncovered : (x : List ℕ) (l : Local) (rest : List (List ℕ × ℕ)) → l.hidden ≡ number_of l.name.now rest →
      cond (bytes_eq l.name.now x) l.hidden (number_of x (local_of l ∷ rest)) ≡ number_of x rest
  uncovered x l rest h = by (bytes_eq l.name.now x) refl
    where
      by : (c : Bool) → bytes_eq l.name.now x ≡ c → cond c l.hidden (cond c (Some l.number) (number_of x rest)) ≡ number_of x rest
      by true e = h ∙ ap (λ y. number_of y rest) (equal l.name.now x e)
      by false e = refl

  pub told-forgotten : (es : Entries) (ls : List Local) (l : Local) → AreTold bytes es (ls ++ l ∷ []) →
      AreTold bytes (set_value_at es l.entry l.hidden) ls
  told-forgotten es ls l t =
      let k : Know bytes es (l ∷ reverse ls) = subst (Know bytes es) (reverse-append ls (l ∷ [])) t.know in
      let within : entry_of bytes l.name.now es < length es = subst (λ n. n < length es) k.0 k.1 in
      record {
        tells = λ x. ap (λ n. told bytes x (set_value_at es n l.hidden)) k.0
            ∙ told-written x l.name.now l.hidden es within
            ∙ ap (λ o. cond (bytes_eq l.name.now x) l.hidden o) (t.tells x ∙ ap (number_of x) (newest ls l))
            ∙ uncovered x l (locals_of ls) k.2;
        know = know-written l.entry l.hidden es (reverse ls) k.3;
      }
