-- Texts whose bytes are told: their words lead to these bytes, whatever objects stand behind the static ones.
use Rattle.std.proofs.Common.{◌≡◌, ◌∙◌, ℕ, zero, suc, ◌+◌, ◌%◌, ◌<◌, ◌≤◌, Bool, true, false, List, [], ◌∷◌, ◌++◌, length, Option, Some, None, refl, ap, ap₂, sym, subst, arith, ◌⊎◌, inl, inr}
use Rattle.std.proofs.lemmas.Bool.Decides.{nat_tests}
use Rattle.std.proofs.lemmas.List.{length-take, length-drop}
use Rattle.std.proofs.lemmas.List.Elements.{Contains-append_left, Contains-append_right}
use Rattle.std.proofs.lemmas.Slice.Eq.{bytes_eq-Decides}
use Rattle.std.proofs.Math.Seq.{take-append_seam, drop-append_seam}
use Rattle.std.specs.Prelude.{◌^◌, ◌*◌, pos, not, ◌&&◌, ◌||◌, nat_eq, nat_lt, nat_le, cond, take, drop, slice_get, bytes_eq, Contains, IsSome, option_map, option_and_then, if◌then◌else◌}
use Rattle.std.specs.Option.{option_or}
use Rattle.std.specs.Cmp.{unsigned_Decides}
use Rattle.std.specs.Map.{lookup}
use Rattle.hx_base.specs.Memory.{le_bytes}
use Rattle.hx_base.specs.Numbers.{residue}
use Rattle.hx_base.proofs.Memory.Numbers.{length-le_bytes}
use Rattle.hx_base.proofs.NumberLemmas.{wrap-unsigned_fits}
use Rattle.hare_tree.specs.declared.kind.Kind.{Kind}
use Rattle.hare_tree.specs.declared.kind.Kind.TheVariants as kind
use Rattle.hare_tree.specs.Node.{Head}
use Rattle.hare_types.specs.declared.coercion.Ty.{Ty}
use Rattle.hare_types.specs.declared.coercion.Ty.TheVariants as ty
use Rattle.hare_types.specs.declared.row.Row.{Row}
use Rattle.hare_types.specs.declared.row.Row.TheVariants as row
use Rattle.hare_types.specs.declared.row.Scalar.TheVariants as keyword
use Rattle.hare_types.specs.Store.{Store}
use Rattle.hare_typed.specs.declared.cell.Cell.{Cell}
use Rattle.hare_typed.specs.declared.constant.Const.{Const}
use Rattle.hare_typed.specs.declared.constant.Const.TheVariants as constant
use Rattle.hare_typed.specs.declared.constant.ConstObject.{ConstObject}
use Rattle.hare_typed.specs.Typed.{TypedNode, TypedNodes, Mark, marked, typed_none, typed_more}
use Rattle.hare_typed.specs.Given.{base_row, is_str, is_str_row}
use Rattle.hare_typed.specs.Shapes.{shape_of_row}
use Rattle.hare_typed.specs.ConstantForms.{own_type, is_whole}
use Rattle.hare_typed.specs.Answers.{Answer, Gives, Aborts, IsUndefined, or_undefined, unless, ◌then◌}
use Rattle.hare_typed.specs.Cells.{byte_cells, bytes_of, cells_within}
use Rattle.hare_typed.specs.Scalars.{Pointer, Null, Address, Number, Pointing, Whole, Nullable, cells}
use Rattle.hare_typed.specs.Objects.{Object, Reading, reading, cells_of, read_cells, bytes_within, wrong_at, first_act}
use Rattle.hare_typed.specs.Words.{Words, three, size_cells, size_in, pointer_in, natural_of, number_in, words, same_bytes, same_text}
use Rattle.hare_typed.specs.State.{Memory}
use Rattle.hare_typed.specs.Evaluated.{is_evaluated}
use Rattle.hare_typed.specs.ConstantValues.{constant_object, listed_objects, objects_of, text_object, statics, statics_of_each}
use Rattle.hare_typed.proofs.ScalarLemmas.{bytes_of-only, bytes_of-byte_cells, length-byte_cells, cells_spell}
use Rattle.hare_const.specs.declared.outcome.Outcome.{Outcome}
use Rattle.hare_const.specs.declared.outcome.Outcome.TheVariants.{Known}
use Rattle.hare_const.specs.NodeValues.{on_cells, kid_at, object_number, slice_of, cells_known, numbered, number_of_kid, cast_value, kind_value, coerced_value, tree_value, kid_values, same_texts}
use Rattle.hare_typed.specs.Texts.{cells_found, AreCoherent, bytes_behind, bytes_at, text_of_words, text_in, keeps_text, longest, unless_long, text_by, text_of, text_of_kid, bytes_told, AreTexts}
use Rattle.hare_typed.specs.Coherent.{scope_in, held, statics_in, statics_in_each}
use Rattle.hare_const.proofs.Shown.Acts.{Has}
use Rattle.hare_const.proofs.Shown.Forms.{Compares}

-- ---- lists of objects

pub held-append : (xs ys : List (ℕ × Object)) → held (xs ++ ys) ≡ held xs ++ held ys
held-append [] ys = refl
held-append (x ∷ xs) ys = ap (λ l. record { object = x.0; cells = x.1.cells } ∷ l) (held-append xs ys)

pub held_listed : (os : List ConstObject) → held (listed_objects os) ≡ os
held_listed [] = refl
held_listed (o ∷ os) = ap (λ l. o ∷ l) (held_listed os)

listed-append : (xs ys : List ConstObject) → listed_objects (xs ++ ys) ≡ listed_objects xs ++ listed_objects ys
listed-append [] ys = refl
listed-append (x ∷ xs) ys = ap (λ l. (x.object, constant_object x.cells) ∷ l) (listed-append xs ys)

-- as a constant lists them, and with names again
abbrev again : List (ℕ × Object) → List (ℕ × Object)
again os = listed_objects (held os)

again-append : (xs ys : List (ℕ × Object)) → again (xs ++ ys) ≡ again xs ++ again ys
again-append xs ys = ap listed_objects (held-append xs ys) ∙ listed-append (held xs) (held ys)

text-again : (own : ℕ) (t : TypedNode) (k : Kind) → again (text_object (scope_in own) t k) ≡ text_object (scope_in own) t k
text-again own t kind.Str = refl
text-again own t _ = refl

objects-again : (c : Const) → again (objects_of c) ≡ objects_of c
objects-again constant.Absent = refl
objects-again (constant.Known cs os) = ap listed_objects (held_listed os)

mutual
  pub statics-again : (own : ℕ) (t : TypedNode) → listed_objects (statics_in own t) ≡ statics (scope_in own) t
  statics-again own (marked h m ts) =
      let text = text_object (scope_in own) (marked h m ts) h.kind in
      again-append (text ++ objects_of m.value) (statics_of_each (scope_in own) ts)
      ∙ ap₂ (λ xs ys. xs ++ ys) (again-append text (objects_of m.value)
      ∙ ap₂ (λ xs ys. xs ++ ys) (text-again own (marked h m ts) h.kind) (objects-again m.value)) (each-again own ts)

  each-again : (own : ℕ) (ts : TypedNodes) → listed_objects (statics_in_each own ts) ≡ statics_of_each (scope_in own) ts
  each-again own typed_none = refl
  each-again own (typed_more t ts) =
      again-append (statics (scope_in own) t) (statics_of_each (scope_in own) ts)
      ∙ ap₂ (λ xs ys. xs ++ ys) (statics-again own t) (each-again own ts)

-- ---- what is found

listed_found : (os : List ConstObject) (n : ℕ) (cs : List Cell) → cells_found os n ≡ Some cs →
    lookup (nat_eq n) (listed_objects os) ≡ Some (constant_object cs)
listed_found [] n cs e = absurd cc
listed_found (o ∷ os) n cs e = by (nat_eq n o.object) e (listed_found os n cs)
  where
    by : (b : Bool) →
        option_map (λ x. x.cells) (cond b (Some (constant_object o.cells)) (lookup (nat_eq n) (listed_objects os))) ≡ Some cs →
        (cells_found os n ≡ Some cs → lookup (nat_eq n) (listed_objects os) ≡ Some (constant_object cs)) →
        cond b (Some (constant_object o.cells)) (lookup (nat_eq n) (listed_objects os)) ≡ Some (constant_object cs)
    by true q h = let same : o.cells ≡ cs = cc in ap (λ x. Some (constant_object x)) same
    by false q h = h q

found_before : (n : ℕ) (xs ys : List (ℕ × Object)) (x : Object) → lookup (nat_eq n) xs ≡ Some x → lookup (nat_eq n) (xs ++ ys) ≡ Some x
found_before n [] ys x e = absurd cc
found_before n (y ∷ xs) ys x e = by (nat_eq n y.0) e (found_before n xs ys x)
  where
    by : (b : Bool) → cond b (Some y.1) (lookup (nat_eq n) xs) ≡ Some x →
        (lookup (nat_eq n) xs ≡ Some x → lookup (nat_eq n) (xs ++ ys) ≡ Some x) →
        cond b (Some y.1) (lookup (nat_eq n) (xs ++ ys)) ≡ Some x
    by true q h = q
    by false q h = h q

-- the first of these objects with its number is among them
pub record Among (os : List ConstObject) (n : ℕ) (cs : List Cell) : Type 0 where
  pub object : ConstObject
  pub there : Contains os object
  pub number : object.object ≡ n
  pub cells : object.cells ≡ cs

here : (o : ConstObject) (os : List ConstObject) → Contains (o ∷ os) o
here o os = (0, omega arith, refl)

behind_one : (o x : ConstObject) (os : List ConstObject) → Contains os x → Contains (o ∷ os) x
behind_one o x os c = Contains-append_right (o ∷ []) os x c

pub found_among : (os : List ConstObject) (n : ℕ) (cs : List Cell) → cells_found os n ≡ Some cs → Among os n cs
found_among [] n cs e = absurd cc
found_among (o ∷ os) n cs e = by (nat_eq n o.object) refl e (found_among os n cs)
  where
    by : (b : Bool) → nat_eq n o.object ≡ b →
        option_map (λ x. x.cells) (cond b (Some (constant_object o.cells)) (lookup (nat_eq n) (listed_objects os))) ≡ Some cs →
        (cells_found os n ≡ Some cs → Among os n cs) → Among (o ∷ os) n cs
    by true d q h =
        let same : o.cells ≡ cs = cc in
        record { object = o; there = here o os; number = sym ((unsigned_Decides n o.object).0 d); cells = same }
    by false d q h =
        let a = h q in
        record { object = a.object; there = behind_one o a.object os a.there; number = a.number; cells = a.cells }

-- ---- reading

-- the cells to which the words lead are these bytes
pub record Reads (r : Reading) (w : Words) (bs : List ℕ) : Type 0 where
  pub there : List Cell
  pub read : read_cells r w.data_at w.length 1 ≡ Gives there
  pub bytes : bytes_of there ≡ Some bs

within_object : (d n : ℕ) (cs : List Cell) (z long odd : Bool) → long ≡ false → odd ≡ false →
    unless (if z then None else first_act ((not true || long, 1) ∷ (odd || nat_lt 1 1, 4) ∷ (false && true, 2) ∷ []))
    (Gives (cells_within d n cs)) ≡ Gives (cells_within d n cs)
within_object d n cs true long odd e f = refl
within_object d n cs false true odd e f = absurd cc
within_object d n cs false false true e f = absurd cc
within_object d n cs false false false e f = refl

read_found : (r : Reading) (o d n : ℕ) (cs : List Cell) → r o ≡ Some (constant_object cs) → nat_le (d + n) (length cs) ≡ true →
    read_cells r (Address o d) n 1 ≡ Gives (cells_within d n cs)
read_found r o d n cs e h =
    let long : nat_lt (length cs) (d + n) ≡ false = grind (arith, nat_tests) in
    let none : d % 1 ≡ 0 = omega arith in
    let odd : not (nat_eq (d % 1) 0) ≡ false = ap (λ k. not (nat_eq k 0)) none in
    ap (λ x. unless (if nat_eq n 0 then None else wrong_at (record { at = Address o d; bytes = n; align = 1; stores = false }) d x)
    (Gives (cells_within d n (cells_of x)))) e
    ∙ within_object d n cs (nat_eq n 0) (nat_lt (length cs) (d + n)) (not (nat_eq (d % 1) 0)) long odd

-- bytes of which there are so many
length_within : (d n : ℕ) (cs : List Cell) (bs : List ℕ) → nat_le (d + n) (length cs) ≡ true → bytes_of (cells_within d n cs) ≡ Some bs →
    n ≡ length bs
length_within d n cs bs h e =
    let few : d + n ≤ length cs = grind (arith, nat_tests) in
    let same : length (cells_within d n cs) ≡ length bs =
    ap length (bytes_of-only (cells_within d n cs) bs e) ∙ length-byte_cells bs in
    omega (arith, few, same, length-take n (drop d cs), length-drop d cs)

-- whether two texts are equal that are read
same_told : (r : Reading) (v u : Words) (x y : List ℕ) → Reads r v x → Reads r u y → v.length ≡ length x → u.length ≡ length y →
    same_text r v u ≡ Gives (bytes_eq x y)
same_told r v u x y p q k l = by (nat_eq v.length u.length) refl
  where
    two : v.length ≡ u.length → same_bytes r v.data_at u.data_at v.length ≡ Gives (bytes_eq x y)
    two e =
        let other : read_cells r u.data_at v.length 1 ≡ Gives q.there = ap (λ n. read_cells r u.data_at n 1) e ∙ q.read in
        ap (λ a. a then λ cs. read_cells r u.data_at v.length 1 then λ ds. bytes_within cs then λ bs. bytes_within ds then λ es.
        Gives (bytes_eq bs es)) p.read
        ∙ ap (λ a. a then λ ds. bytes_within p.there then λ bs. bytes_within ds then λ es. Gives (bytes_eq bs es)) other
        ∙ ap (λ o. or_undefined 3 o then λ bs. bytes_within q.there then λ es. Gives (bytes_eq bs es)) p.bytes
        ∙ ap (λ o. or_undefined 3 o then λ es. Gives (bytes_eq x es)) q.bytes

    unlike : (b : Bool) → bytes_eq x y ≡ b → nat_eq v.length u.length ≡ false → false ≡ b
    unlike true e d =
        let same : v.length ≡ u.length = k ∙ ap length ((bytes_eq-Decides x y).0 e) ∙ sym l in
        let found : nat_eq v.length u.length ≡ true = (unsigned_Decides v.length u.length).1 same in
        absurd cc
    unlike false e d = refl

    by : (b : Bool) → nat_eq v.length u.length ≡ b →
        (if b then same_bytes r v.data_at u.data_at v.length else Gives false) ≡ Gives (bytes_eq x y)
    by true d = two ((unsigned_Decides v.length u.length).0 d)
    by false d = ap Gives (unlike (bytes_eq x y) refl d)

-- ---- three words

length_size : (n : ℕ) → length (size_cells n) ≡ 8
length_size n =
    let r = residue (2 ^ (8 * 8)) (pos n) in length-byte_cells (le_bytes 8 r) ∙ length-le_bytes 8 r

take_first : (n : ℕ) (xs ys : List Cell) → length xs ≡ n → take n (xs ++ ys) ≡ xs
take_first n xs ys e = ap (λ k. take k (xs ++ ys)) (sym e) ∙ take-append_seam xs ys

drop_first : (n : ℕ) (xs ys : List Cell) → length xs ≡ n → drop n (xs ++ ys) ≡ ys
drop_first n xs ys e = ap (λ k. drop k (xs ++ ys)) (sym e) ∙ drop-append_seam xs ys

size_told : (n : ℕ) → n < 2 ^ 64 → size_in (size_cells n) ≡ Gives n
size_told n h =
    ap (λ o. or_undefined 3 o then λ v. Gives (natural_of (number_in v)))
    (cells_spell.spells (Whole 8 false) (Number (pos n)) (wrap-unsigned_fits n 64 h))

pub words_three : (o d n : ℕ) → n < 2 ^ 64 →
    words (three (record { data_at = Address o d; length = n; capacity = n })) ≡
    Gives (record { data_at = Address o d; length = n; capacity = n })
words_three o d n h =
    let first = cells Nullable (Pointing (Address o d)) in
    let word = size_cells n in
    let second : drop 8 (first ++ word ++ word) ≡ word ++ word = refl in
    let third : drop 16 (first ++ word ++ word) ≡ word = drop_first 8 word word (length_size n) in
    ap (λ a. a then λ p. size_in (cells_within 8 8 (first ++ word ++ word)) then λ k. size_in (cells_within 16 8 (first ++ word ++ word))
    then λ c. Gives (record { data_at = pointer_in p; length = k; capacity = c }))
    (ap (or_undefined 3) (cells_spell.spells Nullable (Pointing (Address o d)) tt))
    ∙ ap (λ xs. size_in xs then λ k. size_in (cells_within 16 8 (first ++ word ++ word))
    then λ c. Gives (record { data_at = Address o d; length = k; capacity = c })) (take_first 8 word word (length_size n))
    ∙ ap (λ a. a then λ k. size_in (cells_within 16 8 (first ++ word ++ word))
    then λ c. Gives (record { data_at = Address o d; length = k; capacity = c })) (size_told n h)
    ∙ ap (λ xs. size_in (take 8 xs) then λ c. Gives (record { data_at = Address o d; length = n; capacity = c })) third
    ∙ ap (λ xs. size_in xs then λ c. Gives (record { data_at = Address o d; length = n; capacity = c }))
    (ap (take 8) (sym (append_nil word)) ∙ take_first 8 word [] (length_size n))
    ∙ ap (λ a. a then λ c. Gives (record { data_at = Address o d; length = n; capacity = c })) (size_told n h)
  where
    append_nil : (xs : List Cell) → xs ++ [] ≡ xs
    append_nil [] = refl
    append_nil (x ∷ xs) = ap (λ l. x ∷ l) (append_nil xs)

-- ---- texts

-- a coercion that keeps a text leaves its cells as they are
kept_by : (s : Store) (own : ℕ) (h : Head) (m : Mark) (ts : TypedNodes) (cs : List Cell) → keeps_text m.coerce.row ≡ true →
    coerced_value s own (marked h m ts) cs ≡ Known cs
kept_by s own h m ts cs e = go m.coerce.row e
  where
    to : (r : ℕ) (x : Ty) (is : (r ≡ 1) ⊎ (r ≡ 8)) →
        coerced_value s own (marked h (record m { coerce = record { row = r; to = x } }) ts) cs ≡ Known cs
    to r (ty.Of t) (inl q) =
        subst (λ n. coerced_value s own (marked h (record m { coerce = record { row = n; to = ty.Of t } }) ts) cs ≡ Known cs) (sym q) refl
    to r (ty.Of t) (inr q) =
        subst (λ n. coerced_value s own (marked h (record m { coerce = record { row = n; to = ty.Of t } }) ts) cs ≡ Known cs) (sym q) refl
    to r (ty.Iconst v) q = refl
    to r ty.Null q = refl
    to r ty.Empty q = refl

    which : (r : ℕ) (a b : Bool) → nat_eq r 1 ≡ a → nat_eq r 8 ≡ b → (a || b) ≡ true → (r ≡ 1) ⊎ (r ≡ 8)
    which r true b p q k = inl ((unsigned_Decides r 1).0 p)
    which r false true p q k = inr ((unsigned_Decides r 8).0 q)
    which r false false p q k = absurd cc

    go : (r : ℕ) → keeps_text r ≡ true →
        coerced_value s own (marked h (record m { coerce = record { row = r; to = m.coerce.to } }) ts) cs ≡ Known cs
    go r q = to r m.coerce.to (which r (nat_eq r 1) (nat_eq r 8) refl refl q)

-- a text is no number of so many bits
text_not_whole : (r : Option Row) → is_str_row r ≡ true → is_whole (option_and_then shape_of_row r) ≡ false
text_not_whole None e = absurd cc
text_not_whole (Some (row.Scalar keyword.Str)) e = refl
text_not_whole (Some (row.Scalar _)) e = absurd cc
text_not_whole (Some _) e = absurd cc

-- nor does a cast to a text
cast_kept : (s : Store) (t : TypedNode) (cs : List Cell) → is_str s (own_type t) ≡ true → cast_value s t cs ≡ cs
cast_kept s t cs e =
    ap (λ b. if b then numbered s t (number_of_kid s t 0 cs) else cs) (text_not_whole (base_row s (own_type t)) e)

-- ---- the static objects of kids

-- those of the kids are among those of a node, were it of a kind
kids_behind : (own : ℕ) (t : TypedNode) (m : Mark) (ts : TypedNodes) (k : Kind) (o : ConstObject) → Contains (statics_in_each own ts) o →
    Contains (held (text_object (scope_in own) t k ++ objects_of m.value ++ statics_of_each (scope_in own) ts)) o
kids_behind own t m ts k o c =
    subst (λ xs. Contains xs o)
    (sym (held-append (text_object (scope_in own) t k ++ objects_of m.value) (statics_of_each (scope_in own) ts)))
    (Contains-append_right (held (text_object (scope_in own) t k ++ objects_of m.value)) (statics_in_each own ts) o c)

pub of_kids : (own : ℕ) (h : Head) (m : Mark) (ts : TypedNodes) (o : ConstObject) → Contains (statics_in_each own ts) o →
    Contains (statics_in own (marked h m ts)) o
of_kids own h m ts o c = kids_behind own (marked h m ts) m ts h.kind o c

pub first_of : (own : ℕ) (t : TypedNode) (ts : TypedNodes) (o : ConstObject) → Contains (statics_in own t) o →
    Contains (statics_in_each own (typed_more t ts)) o
first_of own t ts o c =
    subst (λ xs. Contains xs o) (sym (held-append (statics (scope_in own) t) (statics_of_each (scope_in own) ts)))
    (Contains-append_left (statics_in own t) (statics_in_each own ts) o c)

pub rest_of : (own : ℕ) (t : TypedNode) (ts : TypedNodes) (o : ConstObject) → Contains (statics_in_each own ts) o →
    Contains (statics_in_each own (typed_more t ts)) o
rest_of own t ts o c =
    subst (λ xs. Contains xs o) (sym (held-append (statics (scope_in own) t) (statics_of_each (scope_in own) ts)))
    (Contains-append_right (statics_in own t) (statics_in_each own ts) o c)

-- ---- texts that are told

-- these objects are among all
abbrev pub Inside : (all os : List ConstObject) → Type 0
Inside all os = (o : ConstObject) → Contains os o → Contains all o

module _ (s : Store) (own : ℕ) (all : List ConstObject) (coherent : AreCoherent all) where
  -- in each memory with these objects the outcome is this text
  pub record IsText (o : Outcome) (bs : List ℕ) : Type 0 where
    pub cells_are : List Cell
    pub known : o ≡ Known cells_are
    pub says : Words
    pub told : words cells_are ≡ Gives says
    pub many : says.length ≡ length bs
    pub reads : (m : Memory) → Has all m → Reads (reading m.objects) says bs

  object_there : (n : ℕ) (cs : List Cell) → Among all n cs → (m : Memory) → Has all m → reading m.objects n ≡ Some (constant_object cs)
  object_there n cs a m p =
      let first : cells_found all n ≡ Some cs =
      ap (cells_found all) (sym a.number) ∙ coherent a.object a.there ∙ ap Some a.cells in
      ap₂ (λ made named. option_or (slice_get made n) (lookup (nat_eq n) named)) p.none_made p.named
      ∙ found_before n (listed_objects all) p.others (constant_object cs) (listed_found all n cs first)

  -- the bytes of an object that is among all
  text_there : (cs : List Cell) (says : Words) (o d : ℕ) (held : List Cell) (bs : List ℕ) → words cs ≡ Gives says →
      says.data_at ≡ Address o d → Among all o held → bytes_behind d says.length held ≡ Some bs → IsText (Known cs) bs
  text_there cs says o d held bs e f a q = by (nat_le (d + says.length) (length held)) refl q
    where
      by : (b : Bool) → nat_le (d + says.length) (length held) ≡ b →
          (if b then bytes_of (cells_within d says.length held) else None) ≡ Some bs → IsText (Known cs) bs
      by true h g = record {
        cells_are = cs;
        known = refl;
        says = says;
        told = e;
        many = length_within d says.length held bs h g;
        reads = λ m p. record {
          there = cells_within d says.length held;
          read =
              ap (λ x. read_cells (reading m.objects) x says.length 1) f
              ∙ read_found (reading m.objects) o d says.length held (object_there o held a m p) h;
          bytes = g;
        };
      }
      by false h g = absurd cc

  -- the text that a constant is
  constant_text : (c : Const) (bs : List ℕ) → text_in c ≡ Some bs → Inside all (held (objects_of c)) → IsText (Known (cells_known c)) bs
  constant_text constant.Absent bs e i = absurd cc
  constant_text (constant.Known cs os) bs e i = by (words cs) refl e
    where
      inside : Inside all os
      inside = subst (Inside all) (held_listed os) i

      found : (w : Words) (o d : ℕ) (q : Option (List Cell)) → words cs ≡ Gives w → w.data_at ≡ Address o d → cells_found os o ≡ q →
          option_and_then (bytes_behind d w.length) q ≡ Some bs → IsText (Known cs) bs
      found w o d None f g k b = absurd cc
      found w o d (Some xs) f g k b =
          let a = found_among os o xs k in
          text_there cs w o d xs bs f g
          (record { object = a.object; there = inside a.object a.there; number = a.number; cells = a.cells }) b

      at : (w : Words) (p : Pointer) → words cs ≡ Gives w → w.data_at ≡ p → bytes_at os p w.length ≡ Some bs → IsText (Known cs) bs
      at w Null f g b = absurd cc
      at w (Address o d) f g b = found w o d (cells_found os o) f g refl b

      by : (a : Answer Words) → words cs ≡ a → text_of_words os a ≡ Some bs → IsText (Known cs) bs
      by (Gives w) f b = at w w.data_at f refl b
      by (Aborts r) f b = absurd cc
      by (IsUndefined u) f b = absurd cc

  -- the text of a string
  string_text : (h : Head) (m : Mark) (ts : TypedNodes) (bs : List ℕ) → unless_long h.text ≡ Some bs →
      Inside all (held (text_object (scope_in own) (marked h m ts) kind.Str)) →
      IsText (Known (slice_of own (marked h m ts) (length h.text))) bs
  string_text h m ts bs e i = by (nat_lt (length h.text) longest) refl e
    where
      t : TypedNode
      t = marked h m ts

      object : ConstObject
      object = record { object = object_number own t; cells = byte_cells h.text }

      by : (b : Bool) → nat_lt (length h.text) longest ≡ b → (if b then Some h.text else None) ≡ Some bs →
          IsText (Known (slice_of own t (length h.text))) bs
      by true g q =
          let same : h.text ≡ bs = cc in
          let few : length h.text < 2 ^ 64 = grind (arith, nat_tests) in
          let whole : nat_le (0 + length h.text) (length (byte_cells h.text)) ≡ true =
          ap (λ n. nat_le (0 + length h.text) n) (length-byte_cells h.text) ∙ grind (arith, nat_tests) in
          let all_of : cells_within 0 (length h.text) (byte_cells h.text) ≡ byte_cells h.text =
          ap (λ n. take n (byte_cells h.text)) (sym (length-byte_cells h.text)) ∙ take_whole (byte_cells h.text) in
          text_there (slice_of own t (length h.text)) (record {
            data_at = Address (object_number own t) 0;
            length = length h.text;
            capacity = length h.text;
          }) (object_number own t) 0 (byte_cells h.text) bs
          (words_three (object_number own t) 0 (length h.text) few) refl
          (record { object = object; there = i object (here object []); number = refl; cells = refl })
          (ap (λ x. if x then bytes_of (cells_within 0 (length h.text) (byte_cells h.text)) else None) whole
          ∙ ap bytes_of all_of ∙ bytes_of-byte_cells h.text ∙ ap Some same)
        where
          take_whole : (xs : List Cell) → take (length xs) xs ≡ xs
          take_whole [] = refl
          take_whole (x ∷ xs) = ap (λ l. x ∷ l) (take_whole xs)
      by false g q = absurd cc

  -- a text whose coercion keeps it
  kept_text : (h : Head) (m : Mark) (ts : TypedNodes) (o : Outcome) (bs : List ℕ) → keeps_text m.coerce.row ≡ true → IsText o bs →
      IsText (on_cells o (coerced_value s own (marked h m ts))) bs
  kept_text h m ts o bs e x = record {
    cells_are = x.cells_are;
    known =
        ap (λ y. on_cells y (coerced_value s own (marked h m ts))) x.known
        ∙ kept_by s own h m ts x.cells_are e;
    says = x.says;
    told = x.told;
    many = x.many;
    reads = x.reads;
  }

  module _ (h : Head) (m : Mark) (ts : TypedNodes) (bs : List ℕ) where
    -- the static objects of a node, were it of a kind
    abbrev static_as : Kind → List ConstObject
    static_as k = held (text_object (scope_in own) (marked h m ts) k ++ objects_of m.value ++ statics_of_each (scope_in own) ts)

    own_first : (k : Kind) → Inside all (static_as k) →
        Inside all (held (text_object (scope_in own) (marked h m ts) k ++ objects_of m.value))
    own_first k i o c =
        i o (subst (λ xs. Contains xs o)
        (sym (held-append (text_object (scope_in own) (marked h m ts) k ++ objects_of m.value) (statics_of_each (scope_in own) ts)))
        (Contains-append_left (held (text_object (scope_in own) (marked h m ts) k ++ objects_of m.value)) (statics_in_each own ts) o c))

    text_first : (k : Kind) → Inside all (static_as k) → Inside all (held (text_object (scope_in own) (marked h m ts) k))
    text_first k i o c =
        own_first k i o (subst (λ xs. Contains xs o) (sym (held-append (text_object (scope_in own) (marked h m ts) k) (objects_of m.value)))
        (Contains-append_left (held (text_object (scope_in own) (marked h m ts) k)) (held (objects_of m.value)) o c))

    constant_next : (k : Kind) → Inside all (static_as k) → Inside all (held (objects_of m.value))
    constant_next k i o c =
        own_first k i o (subst (λ xs. Contains xs o) (sym (held-append (text_object (scope_in own) (marked h m ts) k) (objects_of m.value)))
        (Contains-append_right (held (text_object (scope_in own) (marked h m ts) k)) (held (objects_of m.value)) o c))

    kids_last : (k : Kind) → Inside all (static_as k) → Inside all (statics_in_each own ts)
    kids_last k i o c = i o (kids_behind own (marked h m ts) m ts k o c)

    by_kind : (k : Kind) → keeps_text m.coerce.row ≡ true → text_by s h m k (text_of_kid s 0 ts) ≡ Some bs → Inside all (static_as k) →
        (text_of_kid s 0 ts ≡ Some bs → Inside all (statics_in_each own ts) → IsText (kid_at 0 (kid_values s own ts)) bs) →
        IsText (if is_evaluated k then on_cells (kind_value s own (marked h m ts) k (kid_values s own ts))
        (coerced_value s own (marked h m ts)) else Known []) bs
    by_kind kind.Str e q i f = kept_text h m ts _ bs e (string_text h m ts bs q (text_first kind.Str i))
    by_kind kind.Path e q i f = kept_text h m ts _ bs e (constant_text m.value bs q (constant_next kind.Path i))
    by_kind kind.Paren e q i f =
        let x = f q (kids_last kind.Paren i) in
        kept_text h m ts (on_cells (kid_at 0 (kid_values s own ts)) Known) bs e (record {
          cells_are = x.cells_are;
          known = ap (λ y. on_cells y Known) x.known;
          says = x.says;
          told = x.told;
          many = x.many;
          reads = x.reads;
        })
    by_kind kind.Cast e q i f = by (is_str s m.ty) refl q
      where
        t : TypedNode
        t = marked h m ts

        by : (b : Bool) → is_str s m.ty ≡ b → (if b then text_of_kid s 0 ts else None) ≡ Some bs →
            IsText (on_cells (on_cells (kid_at 0 (kid_values s own ts)) λ a. Known (cast_value s t a)) (coerced_value s own t)) bs
        by true d r =
            let x = f r (kids_last kind.Cast i) in
            kept_text h m ts (on_cells (kid_at 0 (kid_values s own ts)) λ a. Known (cast_value s t a)) bs e (record {
              cells_are = x.cells_are;
              known = ap (λ y. on_cells y (λ a. Known (cast_value s t a))) x.known ∙ ap Known (cast_kept s t x.cells_are d);
              says = x.says;
              told = x.told;
              many = x.many;
              reads = x.reads;
            })
        by false d r = absurd cc
    by_kind _ e q i f = absurd cc

  mutual
    -- a text that is told is the value of its tree
    text_shown : (t : TypedNode) (bs : List ℕ) → text_of s t ≡ Some bs → Inside all (statics_in own t) → IsText (tree_value s own t) bs
    text_shown (marked h m ts) bs e i = go (keeps_text m.coerce.row) refl e (λ f j. kid_shown 0 ts bs f j)
      where
        go : (b : Bool) → keeps_text m.coerce.row ≡ b → (if b then text_by s h m h.kind (text_of_kid s 0 ts) else None) ≡ Some bs →
            (text_of_kid s 0 ts ≡ Some bs → Inside all (statics_in_each own ts) → IsText (kid_at 0 (kid_values s own ts)) bs) →
            IsText (tree_value s own (marked h m ts)) bs
        go true d q f = by_kind h m ts bs h.kind d q i f
        go false d q f = absurd cc

    kid_shown : (n : ℕ) (ts : TypedNodes) (bs : List ℕ) → text_of_kid s n ts ≡ Some bs → Inside all (statics_in_each own ts) →
        IsText (kid_at n (kid_values s own ts)) bs
    kid_shown n typed_none bs e i = absurd cc
    kid_shown zero (typed_more t ts) bs e i = text_shown t bs e (λ o c. i o (first_of own t ts o c))
    kid_shown (suc n) (typed_more t ts) bs e i = kid_shown n ts bs e (λ o c. i o (rest_of own t ts o c))

  some_text : (o : Option (List ℕ)) → IsSome o → (bs : List ℕ) × (o ≡ Some bs)
  some_text None h = absurd cc
  some_text (Some bs) h = (bs, refl)

  -- what is needed of an equality of two texts that are told
  pub compares : (ts : TypedNodes) → AreTexts s ts → Inside all (statics_in_each own ts) →
      Compares all (kid_values s own ts) (same_texts s ts)
  compares ts a i =
      let x = some_text (text_of_kid s 0 ts) a.left in
      let y = some_text (text_of_kid s 1 ts) a.right in
      let p = kid_shown 0 ts x.0 x.1 i in
      let q = kid_shown 1 ts y.0 y.1 i in
      record {
        left = p.cells_are;
        right = q.cells_are;
        first = p.known;
        second = q.known;
        left_words = p.says;
        right_words = q.says;
        left_told = p.told;
        right_told = q.told;
        told = λ m has.
            same_told (reading m.objects) p.says q.says x.0 y.0 (p.reads m has) (q.reads m has) p.many q.many
            ∙ ap₂ (λ e f. Gives (bytes_eq (bytes_told e) (bytes_told f))) (sym x.1) (sym y.1);
      }

-- ---- objects of a part

-- what is found of a list among those that are coherent is coherent
pub coherent_inside : (all os : List ConstObject) → AreCoherent all → ((o : ConstObject) → Contains os o → Contains all o) → AreCoherent os
coherent_inside all os h i o c =
    let found = found_some os o c in
    let a = found_among os o.object found.0 found.1 in
    let first : cells_found all o.object ≡ Some found.0 =
    ap (cells_found all) (sym a.number) ∙ h a.object (i a.object a.there) ∙ ap Some a.cells in
    let own_cells : cells_found all o.object ≡ Some o.cells = h o (i o c) in
    found.1 ∙ sym first ∙ own_cells
  where
    found_some : (xs : List ConstObject) (x : ConstObject) → Contains xs x → (cs : List Cell) × (cells_found xs x.object ≡ Some cs)
    found_some [] x (k, l, e) = absurd (omega (arith, l))
    found_some (y ∷ xs) x (zero, l, e) =
        let same : nat_eq x.object y.object ≡ true = (unsigned_Decides x.object y.object).1 (ap (λ z. z.object) (sym e)) in (
          y.cells,
          ap (λ b. option_map (λ z. z.cells)
              (cond b (Some (constant_object y.cells)) (lookup (nat_eq x.object) (listed_objects xs)))) same,
        )
    found_some (y ∷ xs) x (suc k, l, e) = by (nat_eq x.object y.object) (found_some xs x (k, omega (arith, l), e))
      where
        by : (b : Bool) → (cs : List Cell) × (cells_found xs x.object ≡ Some cs) →
            (cs : List Cell) × (option_map (λ z. z.cells) (cond b (Some (constant_object y.cells))
            (lookup (nat_eq x.object) (listed_objects xs))) ≡ Some cs)
        by true r = (y.cells, refl)
        by false r = r
