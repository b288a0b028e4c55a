-- The table of arguments.
use Rattle.std.proofs.Common.{◌≡◌, ℕ, ◌+◌, ◌-◌, ◌*◌, ◌<◌, ◌≤◌, List, [], ◌∷◌, ◌++◌, length, take, drop, get_or, refl, sym, ap, ◌∙◌, subst, arith}
use Rattle.std.specs.Prelude.{sum_by}
use Rattle.std.proofs.lemmas.List.{take_more, drop_more, take-append-drop}
use Rattle.std.proofs.lemmas.List.Sums.{sum_by-append, sum_by-cons}
use Rattle.hx_base.specs.Memory.{Memory, le_bytes, write, map_range}
use Rattle.hx_base.specs.Runtime.{argument_size, argument_records, arguments_start, record_size, write_arguments, with_arguments}
use Rattle.il_mem.specs.Kept.{Kept}
use Rattle.std.specs.List.{All}
use Rattle.il_load.specs.Arguments.{AreFew, ranges_with_arguments, table_size}
use Rattle.il_load.specs.Start.{LiesBefore, LiesBelow}
use Rattle.il_load.specs.Puts.{Stands, IsReady, PutsBefore}
use Rattle.il_load.proofs.StartLemmas.{before-below, inserted_all}
use Rattle.il_load.proofs.PutLemmas.{puts-both, ready-rest, ready-last, ready-part}

-- ---- sizes

pub size-at-most : (args : List (List ℕ)) → sum_by argument_size args ≤ length args + sum_by length args
size-at-most [] = omega arith
size-at-most (a ∷ args) =
    let more = size-at-most args in
    let x = sum_by-cons argument_size a args in
    let y = sum_by-cons length a args in
    omega arith

-- the arguments so far and one more
module _ (args : List (List ℕ)) (i : ℕ) (a d : List ℕ) (l : i < length args) (here : a ≡ get_or args i d) where
  pub sizes-more : sum_by argument_size (take (i + 1) args) ≡ sum_by argument_size (take i args) + argument_size a
  sizes-more =
      let e = ap (sum_by argument_size) (take_more args i d l ∙ ap (λ y. take i args ++ y ∷ []) (sym here)) in
      let s = sum_by-append argument_size (take i args) (a ∷ []) in
      let o = sum_by-cons argument_size a [] in
      let none : sum_by argument_size [] ≡ 0 = refl in
      e ∙ omega arith

  pub records-more : (at : ℕ) → argument_records at (drop i args)
      ≡ (le_bytes 8 at ++ le_bytes 8 (length a) ++ le_bytes 8 (length a)) ++ argument_records (at + argument_size a) (drop (i + 1) args)
  records-more at = ap (argument_records at) (drop_more args i d l ∙ ap (λ y. y ∷ drop (i + 1) args) (sym here))

  pub texts-more : (m : Memory) (at : ℕ) → write_arguments m at (take (i + 1) args)
      ≡ write (write_arguments m at (take i args)) (at + sum_by argument_size (take i args)) a
  texts-more m at =
      ap (write_arguments m at) (take_more args i d l ∙ ap (λ y. take i args ++ y ∷ []) (sym here)) ∙ behind (take i args) m at
    where
      behind : (xs : List (List ℕ)) (m : Memory) (at : ℕ) →
          write_arguments m at (xs ++ a ∷ []) ≡ write (write_arguments m at xs) (at + sum_by argument_size xs) a
      behind [] m at = let same : at ≡ at + 0 = omega arith in ap (λ (x : ℕ). write m x a) same
      behind (x ∷ xs) m at =
          let s = sum_by-cons argument_size x xs in
          let same : at + argument_size x + sum_by argument_size xs ≡ at + sum_by argument_size (x ∷ xs) = omega arith in
          behind xs (write m at x) (at + argument_size x)
          ∙ ap (λ (y : ℕ). write (write_arguments (write m at x) (at + argument_size x) xs) y a) same

  -- all of them fit
  pub sizes-within : sum_by argument_size (take i args) + argument_size a ≤ sum_by argument_size args
  sizes-within =
      let whole = ap (sum_by argument_size) (sym (take-append-drop (i + 1) args)) in
      let parts = sum_by-append argument_size (take (i + 1) args) (drop (i + 1) args) in
      let more = sizes-more in
      omega (arith, whole, parts, more)

  -- where the text of one is to stand is mapped, where all of them are
  pub text-ready : (it : Kept) (texts at : ℕ) (b b' : List ℕ) → at ≡ texts + sum_by argument_size (take i args) → b ≡ a → b' ≡ a →
      IsReady it (texts + sum_by argument_size args) (sum_by argument_size args) → IsReady it (at + length b) (length b')
  text-ready it texts at b b' e f g r =
      let within = sizes-within in
      let long : length a ≤ argument_size a = omega arith in
      subst (λ (x : List ℕ). IsReady it (at + length x) (length b')) (sym f)
      (subst (λ (x : List ℕ). IsReady it (at + length a) (length x)) (sym g)
      (ready-part it (texts + sum_by argument_size args) (sum_by argument_size args) at (length a) r (omega (arith, within, long, e))
      (omega (arith, e))))

  -- and there it stands
  pub text-put : (old mid new : Kept) (texts at to : ℕ) (b b' : List ℕ) → at ≡ texts + sum_by argument_size (take i args) → b ≡ a → b' ≡ a
      → ((m : Memory) → Stands old m → Stands mid (write_arguments m texts (take i args))) → PutsBefore mid new (at + length b) b' to
      → (m : Memory) → Stands old m → Stands new (write_arguments m texts (take (i + 1) args))
  text-put old mid new texts at to b b' e f g h p m s =
      let same : to ≡ texts + sum_by argument_size (take i args) =
      (let begin = p.begin in let n = ap length f in let k = ap length g in omega (arith, begin, n, k, e)) in
      subst (Stands new)
      (ap (λ (x : ℕ). write (write_arguments m texts (take i args)) x b') same
      ∙ ap (write (write_arguments m texts (take i args)) (texts + sum_by argument_size (take i args))) g ∙ sym (texts-more m texts))
      (p.puts.stands (write_arguments m texts (take i args)) (h m s))

-- ---- a record

pub record-ready : (old new : Kept) (end a : ℕ) (bs : List ℕ) → IsReady old end 24 → length bs ≡ 8 → PutsBefore old new end bs a →
    IsReady new a 16
record-ready old new end a bs r size p = ready-rest old new end 16 8 a bs r size p

-- the record of one in front of those behind it
module _ (args : List (List ℕ)) (i : ℕ) (a d : List ℕ) (l : i < length args) (here : a ≡ get_or args i d) where
  pub record-fits : (it : Kept) (at : ℕ) → IsReady it at (record_size * (i + 1)) → IsReady it at record_size
  record-fits it at r =
      let sum : record_size * (i + 1) ≡ record_size * i + record_size = omega arith in
      ready-last it at (record_size * i) record_size (subst (IsReady it at) sum r)

  pub record-rest : (old new : Kept) (at to : ℕ) (bs : List ℕ) → IsReady old at (record_size * (i + 1)) → length bs ≡ record_size →
      PutsBefore old new at bs to → IsReady new to (record_size * i)
  record-rest old new at to bs r size p =
      let sum : record_size * (i + 1) ≡ record_size * i + record_size = omega arith in
      ready-rest old new at (record_size * i) record_size to bs (subst (IsReady old at) sum r) size p

  pub record-put : (old mid new : Kept) (texts text size at to n : ℕ) → size ≡ argument_size a → n ≡ length a → size ≤ text →
      PutsBefore old mid texts (argument_records text (drop (i + 1) args)) at →
      PutsBefore mid new at (le_bytes 8 (text - size) ++ le_bytes 8 n ++ le_bytes 8 n) to →
      PutsBefore old new texts (argument_records (text - size) (drop i args)) to
  record-put old mid new texts text size at to n e f fits p q =
      let next : text - size + argument_size a ≡ text = omega (arith, e, fits) in
      let whole = records-more args i a d l here (text - size)
      ∙ ap (λ (x : ℕ). (le_bytes 8 (text - size) ++ le_bytes 8 (length a) ++ le_bytes 8 (length a))
      ++ argument_records x (drop (i + 1) args)) next in
      subst (λ bs. PutsBefore old new texts bs to)
      (ap (λ (x : ℕ). (le_bytes 8 (text - size) ++ le_bytes 8 x ++ le_bytes 8 x) ++ argument_records text (drop (i + 1) args)) f
      ∙ sym whole)
      (puts-both old mid new texts at to (le_bytes 8 (text - size) ++ le_bytes 8 n ++ le_bytes 8 n)
      (argument_records text (drop (i + 1) args)) p q)

-- ---- what is mapped first and written then

pub texts-mapped : (m : Memory) (at n to : ℕ) (args : List (List ℕ)) →
    write_arguments (map_range m at n) to args ≡ map_range (write_arguments m to args) at n
texts-mapped m at n to [] = refl
texts-mapped m at n to (a ∷ args) = texts-mapped (write m to a) at n (to + argument_size a) args

-- the table, of which all was mapped first
pub table-mapped : (m : Memory) (args : List (List ℕ)) (n a texts : ℕ) → texts ≡ arguments_start + record_size * length args →
    n ≡ record_size * length args + sum_by argument_size args → a ≡ arguments_start →
    write_arguments (write (map_range m arguments_start n) a (argument_records texts args)) texts args ≡ with_arguments m args
table-mapped m args n a texts e f g =
    texts-mapped (write m a (argument_records texts args)) arguments_start n texts args
    ∙ ap (λ (x : ℕ). map_range (write_arguments (write m a (argument_records x args)) x args) arguments_start n) e
    ∙ ap (λ (x : ℕ). map_range (write_arguments (write m x (argument_records (arguments_start + record_size * length args) args))
    (arguments_start + record_size * length args) args) arguments_start n) g
    ∙ ap (map_range (write_arguments (write m arguments_start (argument_records (arguments_start + record_size * length args) args))
    (arguments_start + record_size * length args) args) arguments_start) f

-- ---- where it lies

pub below-with_arguments : (ranges : List (ℕ × ℕ)) (args : List (List ℕ)) → AreFew args → All (LiesBefore arguments_start) ranges →
    All LiesBelow (ranges_with_arguments ranges args)
below-with_arguments ranges [] few before = before-below ranges before
below-with_arguments ranges (a ∷ args) few before =
    let most = size-at-most (a ∷ args) in
    let count = few.count in
    let bytes = few.bytes in
    inserted_all LiesBelow arguments_start (arguments_start + table_size (a ∷ args)) ranges (before-below ranges before)
    (record { some = omega arith; below = omega (arith, most, count, bytes) })
