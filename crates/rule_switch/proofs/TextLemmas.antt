-- Texts, read cell by cell.
use Rattle.std.proofs.Common.{◌≡◌, ◌≢◌, ℕ, zero, suc, ◌+◌, ◌-◌, ◌*◌, ◌^◌, ◌<◌, ◌≤◌, Bool, true, false, ◌&&◌, cond, nat_eq, min, pos, List, [], ◌∷◌, ◌++◌, length, take, drop, get_or, Option, Some, None, refl, ap, ap₂, sym, ◌∙◌, subst, arith, add-one, append_assoc, append-nil, length-drop, leb, ◌↔◌, IsTrue}
use Rattle.std.specs.Prelude.{find, slice_get, option_map, option_and_then, IfSome, if◌then◌else◌}
use Rattle.std.specs.Option.{option_or}
use Rattle.std.specs.Cmp.{unsigned_Decides}
use Rattle.std.proofs.Math.Seq.{drop-cons}
use Rattle.std.proofs.lemmas.Bool.{leb-true, leb-false}
use Rattle.std.proofs.lemmas.List.{length-take}
use Rattle.hx_base.specs.Memory.{le_number}
use Rattle.hx_base.specs.Numbers.{wrap}
use Rattle.hx_base.proofs.NumberLemmas.{wrap-unsigned_fits}
use Rattle.hare_typed.specs.declared.cell.Cell.{Cell}
use Rattle.hare_typed.specs.declared.cell.Cell.TheVariants as cell
use Rattle.hare_typed.specs.declared.constant.ConstObject.{ConstObject}
use Rattle.hare_typed.specs.Answers.{Answer, Gives, Aborts, IsUndefined, or_undefined, ◌then◌}
use Rattle.hare_typed.specs.Cells.{are_fragments, bytes_of, cells_within}
use Rattle.hare_typed.specs.Objects.{scalar_of}
use Rattle.hare_typed.specs.Scalars as scalars
use Rattle.hare_typed.specs.Scalars.{Scalar, Number, Pointing, address_spelled, null_spelled}
use Rattle.hare_typed.specs.Words.{Words, pointer_in, number_in, natural_of, size_in, words}
use Rattle.hare_const.specs.Numbers.{byte_in}
use Rattle.hare_rules.specs.Constants.{text_of_words, bytes_at, object_cells, cells_in}
use Rattle.rule_switch.specs.declared.texts.Pointer.{Pointer}
use Rattle.rule_switch.specs.declared.texts.Text.{Text}
use Rattle.rule_switch.specs.Texts.{is_fragment, pointer_told, pointing_told, bytes_in}

-- ---- fragments

pub fragments_first : (o d k : ℕ) (x : Cell) (cs : List Cell) (b : Bool) → true ≡ is_fragment o d k x →
    b ≡ are_fragments o d (k + 1) cs → b ≡ are_fragments o d k (x ∷ cs)
fragments_first o d k (cell.Byte n) cs b e h = cc
fragments_first o d k cell.Undef cs b e h = cc
fragments_first o d k (cell.Fragment p f l) cs b e h =
    let next : k + 1 ≡ suc k = add-one k in
    h ∙ ap (λ n. are_fragments o d n cs) next ∙ and_true (is_fragment o d k (cell.Fragment p f l)) (are_fragments o d (suc k) cs) e
  where
    and_true : (a c : Bool) → true ≡ a → c ≡ (a && c)
    and_true true c g = refl
    and_true false c g = cc

pub fragments_not : (o d k : ℕ) (x : Cell) (cs : List Cell) → false ≡ is_fragment o d k x → false ≡ are_fragments o d k (x ∷ cs)
fragments_not o d k (cell.Byte n) cs e = refl
fragments_not o d k cell.Undef cs e = refl
fragments_not o d k (cell.Fragment p f l) cs e = and_false (is_fragment o d k (cell.Fragment p f l)) (are_fragments o d (suc k) cs) e
  where
    and_false : (a c : Bool) → false ≡ a → false ≡ (a && c)
    and_false true c g = cc
    and_false false c g = refl

-- ---- pointers

other_number : (m n : ℕ) → m ≢ n → nat_eq m n ≡ false
other_number m n h = by (nat_eq m n) refl
  where
    by : (b : Bool) → nat_eq m n ≡ b → b ≡ false
    by true e = absurd (h ((unsigned_Decides m n).0 e))
    by false e = refl

same_number : (m n : ℕ) → m ≡ n → nat_eq m n ≡ true
same_number m n = (unsigned_Decides m n).1

pub address_short : (cs : List Cell) → length cs ≢ 8 → None ≡ address_spelled cs
address_short [] h = refl
address_short (cell.Byte b ∷ cs) h = refl
address_short (cell.Undef ∷ cs) h = refl
address_short (cell.Fragment o d k ∷ cs) h =
    sym (ap (λ b. if b then (if are_fragments o d 0 (cell.Fragment o d k ∷ cs) then Some (Pointing
    (scalars.Address o d)) else None) else None)
    (other_number (length cs) 7 (λ e. h (omega (arith, e)))))

pub address_found : (cs : List Cell) (x : Cell) (o d k : ℕ) (b : Bool) → length cs ≡ 8 → x ≡ get_or cs 0 x → x ≡ cell.Fragment o d k →
    b ≡ are_fragments o d 0 cs
    → (if b then Some (Pointing (scalars.Address o d)) else None) ≡ address_spelled cs
address_found [] x o d k b e g h f = absurd (omega (arith, e))
address_found (y ∷ cs) x o d k b e g h f = subst (λ z. b ≡ are_fragments o d 0 (z ∷ cs) →
    (if b then Some (Pointing (scalars.Address o d)) else None) ≡ address_spelled (z ∷ cs)) (sym (sym g ∙ h)) at f
  where
    at : b ≡ are_fragments o d 0 (cell.Fragment o d k ∷ cs) →
        (if b then Some (Pointing (scalars.Address o d)) else None) ≡ address_spelled (cell.Fragment o d k ∷ cs)
    at q =
        ap (λ c. if c then Some (Pointing (scalars.Address o d)) else None) q
        ∙ sym (ap (λ c. if c then (if are_fragments o d 0 (cell.Fragment o d k ∷ cs) then Some (Pointing
        (scalars.Address o d)) else None) else None)
        (same_number (length cs) 7 (omega (arith, e))))

pub address_not : (cs : List Cell) (x : Cell) → length cs ≡ 8 → x ≡ get_or cs 0 x → ((o d k : ℕ) → x ≢ cell.Fragment o d k) →
    None ≡ address_spelled cs
address_not [] x e g h = absurd (omega (arith, e))
address_not (cell.Byte b ∷ cs) x e g h = refl
address_not (cell.Undef ∷ cs) x e g h = refl
address_not (cell.Fragment o d k ∷ cs) x e g h = absurd (h o d k g)

pub null_short : (cs : List Cell) → length cs ≢ 8 → None ≡ null_spelled cs
null_short cs h =
    sym (ap (λ b. if b then option_and_then (λ bs. if nat_eq (le_number bs) 0 then Some (Pointing scalars.Null) else None)
    (bytes_of cs) else None)
    (other_number (length cs) 8 h))

null_by : Option ℕ → Option Scalar
null_by o = option_and_then (λ n. if nat_eq n 0 then Some (Pointing scalars.Null) else None) o

null_whole : (cs : List Cell) (o : Option ℕ) → length cs ≡ 8 → o ≡ option_map le_number (bytes_of cs) → null_by o ≡ null_spelled cs
unfolding null_by
null_whole cs o e h =
    ap null_by h ∙ by (bytes_of cs)
    ∙ sym (ap (λ b. if b then option_and_then (λ bs. if nat_eq (le_number bs) 0 then Some (Pointing scalars.Null) else None)
    (bytes_of cs) else None)
    (same_number (length cs) 8 e))
  where
    by : (q : Option (List ℕ)) → null_by (option_map le_number q) ≡ option_and_then (λ bs. if nat_eq (le_number bs) 0 then Some
        (Pointing scalars.Null) else None) q
    by None = refl
    by (Some bs) = refl

pub null_found : (cs : List Cell) (o : Option ℕ) → length cs ≡ 8 → o ≡ option_map le_number (bytes_of cs) → o ≡ Some 0 →
    Some (Pointing scalars.Null) ≡ null_spelled cs
unfolding null_by
null_found cs o e h g = sym (ap null_by g) ∙ null_whole cs o e h

pub null_not : (cs : List Cell) (o : Option ℕ) → length cs ≡ 8 → o ≡ option_map le_number (bytes_of cs) → (o ≡ Some 0 → ⊥) →
    None ≡ null_spelled cs
unfolding null_by
null_not cs o e h g = by o g ∙ null_whole cs o e h
  where
    by : (q : Option ℕ) → (q ≡ Some 0 → ⊥) → None ≡ null_by q
    by None k = refl
    by (Some zero) k = absurd (k refl)
    by (Some (suc n)) k = sym (ap (λ b. if b then Some (Pointing scalars.Null) else None) (other_number (suc n) 0 (λ z. omega (arith, z))))

-- what the cells of a word point to
abbrev PointerOf : List Cell → Answer scalars.Pointer
PointerOf cs = scalar_of scalars.Nullable cs then (λ p. Gives (pointer_in p))

pointer_by : (cs : List Cell) (o : Option Pointer) → option_map pointing_told o ≡ option_or (address_spelled cs) (null_spelled cs)
    → or_undefined 3 (option_map pointer_told o) ≡ PointerOf cs
pointer_by cs None e = ap (λ q. or_undefined 3 q then (λ p. Gives (pointer_in p))) e
pointer_by cs (Some x) e = ap (λ q. or_undefined 3 q then (λ p. Gives (pointer_in p))) e

pub pointer_address : (cs : List Cell) (x : Pointer) → Some (pointing_told x) ≡ address_spelled cs → Gives (pointer_told x) ≡ PointerOf cs
pointer_address cs x e = pointer_by cs (Some x) (ap (λ o. option_or o (null_spelled cs)) e)

pub pointer_null : (cs : List Cell) (o : Option Pointer) → None ≡ address_spelled cs → option_map pointing_told o ≡ null_spelled cs →
    or_undefined 3 (option_map pointer_told o) ≡ PointerOf cs
pointer_null cs o e h = pointer_by cs o (h ∙ ap (λ q. option_or q (null_spelled cs)) e)

-- ---- words

within_short : (cs : List Cell) (at n : ℕ) → 0 < n → length cs < at + n → length (cells_within at n cs) ≢ n
within_short cs at n p h e = omega (arith, h, length-take n (drop at cs), length-drop at cs, e)

pub pointer_past : (cs : List Cell) → length cs < 0 + 8 → IsUndefined 3 ≡ PointerOf (cells_within 0 8 cs)
pointer_past cs h =
    let short = within_short cs 0 8 (omega arith) h in
    pointer_by (cells_within 0 8 cs) None
    (null_short (cells_within 0 8 cs) short ∙
    ap (λ o. option_or o (null_spelled (cells_within 0 8 cs))) (address_short (cells_within 0 8 cs) short))

abbrev SizeBy : Bool → Option (List ℕ) → Answer ℕ
SizeBy b o = or_undefined 3 (if b then option_map (λ bs. Number (wrap (pos (le_number bs)) 64 false)) o else None) then (λ v. Gives
    (natural_of (number_in v)))

pub size_past : (cs : List Cell) (at : ℕ) → length cs < at + 8 → IsUndefined 3 ≡ size_in (cells_within at 8 cs)
size_past cs at h = sym (ap (λ b. SizeBy b (bytes_of (cells_within at 8 cs))) (other_number (length (cells_within at 8 cs)) 8
    (within_short cs at 8 (omega arith) h)))

pub size_whole : (cs : List Cell) (o : Option ℕ) → length cs ≡ 8 → o ≡ option_map le_number (bytes_of cs) →
    IfSome o (λ n. n < 256 ^ length cs) → or_undefined 3 o ≡ size_in cs
size_whole cs o e h w = ap (or_undefined 3) h ∙ by (bytes_of cs) (subst (λ q. IfSome q (λ n. n < 256 ^ length cs)) h w) ∙
    sym (ap (λ b. SizeBy b (bytes_of cs)) (same_number (length cs) 8 e))
  where
    by : (q : Option (List ℕ)) → IfSome (option_map le_number q) (λ n. n < 256 ^ length cs) →
        or_undefined 3 (option_map le_number q) ≡ SizeBy true q
    by None k = refl
    by (Some bs) k =
        let few : le_number bs < 2 ^ 64 = subst (λ n. le_number bs < 256 ^ n) e k in
        sym (ap (λ v. Gives (natural_of v)) (wrap-unsigned_fits (le_number bs) 64 few))

module _ (cs : List Cell) where
  abbrev behind : scalars.Pointer → Answer Words
  behind p =
      size_in (cells_within 8 8 cs) then λ n.
      size_in (cells_within 16 8 cs) then λ c.
      Gives (record { data_at = p; length = n; capacity = c })

  through : (a : Answer Scalar) → ((a then (λ p. Gives (pointer_in p))) then behind) ≡ (a then (λ p. behind (pointer_in p)))
  through (Gives v) = refl
  through (Aborts r) = refl
  through (IsUndefined u) = refl

  words_by : (at : Option Pointer) → or_undefined 3 (option_map pointer_told at) ≡ PointerOf (cells_within 0 8 cs) →
      words cs ≡ (or_undefined 3 (option_map pointer_told at) then behind)
  words_by at e = sym (through (scalar_of scalars.Nullable (cells_within 0 8 cs))) ∙ sym (ap (λ a. a then behind) e)

  pub no_pointer : (os : List ConstObject) (at : Option Pointer) → at ≡ None →
      or_undefined 3 (option_map pointer_told at) ≡ PointerOf (cells_within 0 8 cs)
      → None ≡ text_of_words os (words cs)
  no_pointer os at h e = sym (ap (text_of_words os) (words_by at e ∙ ap (λ o. or_undefined 3 (option_map pointer_told o) then behind) h))

  module _ (os : List ConstObject) (at : Option Pointer) (p : Pointer) (h : at ≡ Some p) (e : or_undefined 3
      (option_map pointer_told at) ≡ PointerOf (cells_within 0 8 cs)) where
    from_length : (n : Option ℕ) → or_undefined 3 n ≡ size_in (cells_within 8 8 cs)
        → words cs ≡ (or_undefined 3 n then λ n. size_in (cells_within 16 8 cs) then λ c. Gives
        (record { data_at = pointer_told p; length = n; capacity = c }))
    from_length n g =
        words_by at e ∙ ap (λ o. or_undefined 3 (option_map pointer_told o) then behind) h
        ∙ sym (ap (λ (a : Answer ℕ). a then λ n. size_in (cells_within 16 8 cs) then λ c. Gives
        (record { data_at = pointer_told p; length = n; capacity = c })) g)

    pub no_length : (n : Option ℕ) → n ≡ None → or_undefined 3 n ≡ size_in (cells_within 8 8 cs) → None ≡ text_of_words os (words cs)
    no_length n k g =
        sym (ap (text_of_words os) (from_length n g
        ∙ ap (λ (o : Option ℕ). or_undefined 3 o then λ n. size_in (cells_within 16 8 cs) then λ c. Gives
        (record { data_at = pointer_told p; length = n; capacity = c })) k))

    from_capacity : (o : Option ℕ) (n : ℕ) (q : Option ℕ) → o ≡ Some n → or_undefined 3 o ≡ size_in (cells_within 8 8 cs) →
        or_undefined 3 q ≡ size_in (cells_within 16 8 cs)
        → words cs ≡ (or_undefined 3 q then λ c. Gives (record { data_at = pointer_told p; length = n; capacity = c }))
    from_capacity o n q k g l =
        from_length o g
        ∙ ap (λ (o : Option ℕ). or_undefined 3 o then λ n. size_in (cells_within 16 8 cs) then λ c. Gives
        (record { data_at = pointer_told p; length = n; capacity = c })) k
        ∙ sym (ap (λ (a : Answer ℕ). a then λ c. Gives (record { data_at = pointer_told p; length = n; capacity = c })) l)

    pub no_capacity : (o : Option ℕ) (n : ℕ) (q : Option ℕ) → o ≡ Some n → or_undefined 3 o ≡ size_in (cells_within 8 8 cs) → q ≡ None
        → or_undefined 3 q ≡ size_in (cells_within 16 8 cs) → None ≡ text_of_words os (words cs)
    no_capacity o n q k g m l =
        sym (ap (text_of_words os) (from_capacity o n q k g l
        ∙ ap (λ (q : Option ℕ). or_undefined 3 q then λ c. Gives (record { data_at = pointer_told p; length = n; capacity = c })) m))

    pub text_whole : (o : Option ℕ) (n : ℕ) (q : Option ℕ) (c : ℕ) → o ≡ Some n → or_undefined 3 o ≡ size_in (cells_within 8 8 cs) →
        q ≡ Some c
        → or_undefined 3 q ≡ size_in (cells_within 16 8 cs) → bytes_at os (pointer_told p) n ≡ text_of_words os (words cs)
    text_whole o n q c k g m l =
        sym (ap (text_of_words os) (from_capacity o n q k g l
        ∙ ap (λ (q : Option ℕ). or_undefined 3 q then λ c. Gives (record { data_at = pointer_told p; length = n; capacity = c })) m))

-- ---- bytes

mapped : (out new : List ℕ) (b : ℕ) (o : Option (List ℕ)) → new ≡ out ++ b ∷ [] →
    option_map (λ bs. new ++ bs) o ≡ option_map (λ bs. out ++ bs) (option_map (λ bs. b ∷ bs) o)
mapped out new b None e = refl
mapped out new b (Some bs) e = ap Some (ap (λ us. us ++ bs) e ∙ append_assoc out (b ∷ []) bs)

within_next : (cs : List Cell) (i m : ℕ) (x : Cell) → slice_get cs i ≡ Some x → take (suc m) (drop i cs) ≡ x ∷ take m (drop (suc i) cs)
within_next [] i m x e = cc
within_next (y ∷ cs) zero m x e = let same : y ≡ x = cc in ap (λ z. z ∷ take m cs) same
within_next (y ∷ cs) (suc i) m x e = within_next cs i m x e

within_first : (cs : List Cell) (i n : ℕ) (x : Cell) → slice_get cs i ≡ Some x → n ≢ 0 →
    take n (drop i cs) ≡ x ∷ take (n - 1) (drop (i + 1) cs)
within_first cs i zero x e h = absurd (h refl)
within_first cs i (suc m) x e h = let less : suc m - 1 ≡ m = omega arith in rw (less, add-one) (within_next cs i m x e)

module _ (cs : List Cell) (i n : ℕ) (x : Cell) (e : slice_get cs i ≡ Some x) (h : n ≢ 0) (out : List ℕ) (all : Option (List ℕ))
    (g : option_map (λ bs. out ++ bs) (bytes_of (take n (drop i cs))) ≡ all) where
  abbrev left_over : List Cell
  left_over = take (n - 1) (drop (i + 1) cs)

  from_byte : option_map (λ bs. out ++ bs) (bytes_of (x ∷ left_over)) ≡ all
  from_byte = sym (ap (λ us. option_map (λ bs. out ++ bs) (bytes_of us)) (within_first cs i n x e h)) ∙ g

  pub byte_next : (b : ℕ) (new : List ℕ) → Some b ≡ byte_in x → new ≡ out ++ b ∷ [] →
      option_map (λ bs. new ++ bs) (bytes_of left_over) ≡ all
  byte_next b new k l = mapped out new b (bytes_of left_over) l ∙ by x k ∙ from_byte
    where
      by : (y : Cell) → Some b ≡ byte_in y →
          option_map (λ bs. out ++ bs) (option_map (λ bs. b ∷ bs) (bytes_of left_over)) ≡ option_map (λ bs. out ++ bs) (bytes_of
          (y ∷ left_over))
      by (cell.Byte d) q = let same : b ≡ d = cc in ap (λ z. option_map (λ bs. out ++ bs) (option_map (λ bs. z ∷ bs)
          (bytes_of left_over))) same
      by (cell.Fragment o d j) q = absurd cc
      by cell.Undef q = absurd cc

  pub byte_not : None ≡ byte_in x → None ≡ all
  byte_not k = by x k ∙ from_byte
    where
      by : (y : Cell) → None ≡ byte_in y → None ≡ option_map (λ bs. out ++ bs) (bytes_of (y ∷ left_over))
      by (cell.Byte b) q = absurd cc
      by (cell.Fragment o d j) q = refl
      by cell.Undef q = refl

pub bytes_none_left : (cs : List Cell) (i n : ℕ) (out : List ℕ) (all : Option (List ℕ)) → n ≡ 0 →
    option_map (λ bs. out ++ bs) (bytes_of (take n (drop i cs))) ≡ all → Some out ≡ all
bytes_none_left cs i n out all e g = subst (λ m. option_map (λ bs. out ++ bs) (bytes_of (take m (drop i cs))) ≡ all →
    Some out ≡ all) (sym e) (λ k. ap Some (sym (nil out)) ∙ k) g
  where
    nil : (us : List ℕ) → us ++ [] ≡ us
    nil [] = refl
    nil (u ∷ us) = ap (λ vs. u ∷ vs) (nil us)

past : (ds : List Cell) (j : ℕ) → length ds ≤ j → drop j ds ≡ []
past [] zero h = refl
past [] (suc j) h = refl
past (d ∷ ds) zero h = absurd (omega (arith, h))
past (d ∷ ds) (suc j) h = past ds j (omega (arith, h))

none_of_none : (m : ℕ) (ds : List Cell) → ds ≡ [] → take m ds ≡ []
none_of_none zero [] e = refl
none_of_none (suc m) [] e = refl
none_of_none m (d ∷ ds) e = absurd cc

pub bytes_end : (cs : List Cell) (i n : ℕ) (out : List ℕ) (all : Option (List ℕ)) → length cs ≤ i →
    option_map (λ bs. out ++ bs) (bytes_of (take n (drop i cs))) ≡ all → Some out ≡ all
bytes_end cs i n out all e g = ap Some (sym (append-nil out)) ∙
    sym (ap (λ us. option_map (λ bs. out ++ bs) (bytes_of us)) (none_of_none n (drop i cs) (past cs i e))) ∙ g

pub past_get : (cs : List Cell) (i : ℕ) → None ≡ slice_get cs i → length cs ≤ i
past_get [] i e = omega arith
past_get (x ∷ cs) zero e = absurd cc
past_get (x ∷ cs) (suc i) e = let h = past_get cs i e in omega (arith, h)

-- ---- read or not

pub not_within : (b : Bool) (m n : ℕ) → IsTrue b ↔ (m ≤ n) → b ≡ false → n < m
not_within b m n k e = by (leb m n) refl
  where
    by : (c : Bool) → leb m n ≡ c → n < m
    by true h = let t = k.1 (leb-true m n h) in absurd cc
    by false h = leb-false m n h

pub is_whole : (b : Bool) (at : ℕ) (cs out new : List Cell) → b ≡ true → length out ≡ 8 →
    new ≡ (if b then cells_within at (length out) cs else out) → new ≡ cells_within at 8 cs
is_whole b at cs out new e h k = k ∙ ap (λ c. if c then cells_within at (length out) cs else out) e ∙ ap (λ n. cells_within at n cs) h

-- ---- objects

module _ (os items : List ConstObject) (i n : ℕ) (x : ConstObject) (h : i < length items) (e : x ≡ get_or items i x)
    (g : object_cells os n ≡ cells_in (find (λ o. nat_eq o.object n) (drop i items))) where
  from_here : object_cells os n ≡ cells_in (cond (nat_eq x.object n) (Some x) (find (λ o. nat_eq o.object n) (drop (suc i) items)))
  from_here =
      g ∙ ap (λ us. cells_in (find (λ o. nat_eq o.object n) us)) (drop-cons items i x h ∙ ap (λ y. y ∷ drop (suc i) items) (sym e))

  pub object_here : x.object ≡ n → x.cells ≡ object_cells os n
  object_here k = sym (from_here ∙ ap (λ b. cells_in (cond b (Some x) (find (λ o. nat_eq o.object n) (drop (suc i) items))))
      (same_number x.object n k))

  pub object_next : x.object ≢ n → object_cells os n ≡ cells_in (find (λ o. nat_eq o.object n) (drop (i + 1) items))
  object_next k =
      let next : suc i ≡ i + 1 = omega arith in
      from_here ∙ ap (λ b. cells_in (cond b (Some x) (find (λ o. nat_eq o.object n) (drop (suc i) items)))) (other_number x.object n k)
      ∙ ap (λ j. cells_in (find (λ o. nat_eq o.object n) (drop j items))) next

no_objects : (items : List ConstObject) (i : ℕ) → length items ≤ i → drop i items ≡ []
no_objects [] zero h = refl
no_objects [] (suc j) h = refl
no_objects (d ∷ ds) zero h = absurd (omega (arith, h))
no_objects (d ∷ ds) (suc j) h = no_objects ds j (omega (arith, h))

pub objects_end : (os items : List ConstObject) (i n : ℕ) → length items ≤ i →
    object_cells os n ≡ cells_in (find (λ o. nat_eq o.object n) (drop i items)) → object_cells os n ≡ []
objects_end os items i n h g = g ∙ ap (λ us. cells_in (find (λ o. nat_eq o.object n) us)) (no_objects items i h)
