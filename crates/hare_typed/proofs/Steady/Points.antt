-- To which objects the fragments in cells lead: no operation makes others.
use Rattle.std.proofs.Common.{ℕ, zero, suc, Bool, true, false, List, [], ◌∷◌, ◌++◌, length, take, drop, Option, Some, None}
use Rattle.std.specs.Option.{option_or}
use Rattle.std.specs.Prelude.{ℤ, pos, ◌^◌, ◌*◌, if◌then◌else◌, nat_eq, ◌||◌, option_map, option_and_then, unwrap_or}
use Rattle.hare_types.specs.declared.coercion.Ty.{Ty}
use Rattle.hare_types.specs.declared.coercion.Ty.TheVariants as kept
use Rattle.hare_types.specs.declared.coercion.Coercion.{Coercion}
use Rattle.hare_types.specs.Store.{Store}
use Rattle.hare_types.specs.ByIds.{size_at}
use Rattle.hx_base.specs.Memory.{le_bytes, le_number}
use Rattle.hx_base.specs.Numbers.{residue}
use Rattle.hare_typed.specs.declared.cell.Cell.{Cell}
use Rattle.hare_typed.specs.declared.cell.Cell.TheVariants as cell
use Rattle.hare_typed.specs.Answers.{Answer, Gives, Aborts, IsUndefined, or_undefined, ◌then◌}
use Rattle.hare_typed.specs.Cells.{byte_cells, bytes_of, fragments, are_fragments, cells_within, undefined_cells, with_cells}
use Rattle.hare_typed.specs.Scalars.{Pointer, Null, Address, Scalar, Number, Pointing, Shape, Nullable, width, cells, spelled, address_spelled, null_spelled}
use Rattle.hare_typed.specs.Objects.{scalar_of}
use Rattle.hare_typed.specs.Shapes.{shape_at}
use Rattle.hare_typed.specs.Words.{Words, three, words, size_shape, size_cells, size_in, pointer_in}
use Rattle.hare_typed.specs.Unions.{checked_by, payload, payload_of, member_by_tag, union_members, union_cells, tag_shape, tag_of}
use Rattle.hare_typed.specs.Coercions.{number_cells_at, number_cells, pointer_of, coerced_by, union_to_union, coerced_as, coerced_into, coerced, chosen_member, row_to}

module _ (P : ℕ → Type 0) where
  -- each fragment is of a pointer to an object of which P holds
  abbrev pub Points : List Cell → Type 0
  Points [] = Unit {0}
  Points (cell.Byte b ∷ cs) = Points cs
  Points (cell.Fragment o d k ∷ cs) = P o × Points cs
  Points (cell.Undef ∷ cs) = Points cs

  abbrev pub PointsTo : Pointer → Type 0
  PointsTo Null = Unit {0}
  PointsTo (Address o d) = P o

  abbrev pub PointsAnswer : Answer (List Cell) → Type 0
  PointsAnswer (Gives cs) = Points cs
  PointsAnswer (Aborts r) = Unit {0}
  PointsAnswer (IsUndefined u) = Unit {0}

  abbrev pub PointsEach : List (List Cell) → Type 0
  PointsEach [] = Unit {0}
  PointsEach (c ∷ cs) = Points c × PointsEach cs

  -- ---- lists of cells

  pub Points-byte_cells : (bs : List ℕ) → Points (byte_cells bs)
  Points-byte_cells [] = tt
  Points-byte_cells (b ∷ bs) = Points-byte_cells bs

  pub Points-append : (cs ds : List Cell) → Points cs → Points ds → Points (cs ++ ds)
  Points-append [] ds h k = k
  Points-append (cell.Byte b ∷ cs) ds h k = Points-append cs ds h k
  Points-append (cell.Fragment o d n ∷ cs) ds h k = (h.0, Points-append cs ds h.1 k)
  Points-append (cell.Undef ∷ cs) ds h k = Points-append cs ds h k

  Points-take : (n : ℕ) (cs : List Cell) → Points cs → Points (take n cs)
  Points-take zero cs h = tt
  Points-take (suc n) [] h = tt
  Points-take (suc n) (cell.Byte b ∷ cs) h = Points-take n cs h
  Points-take (suc n) (cell.Fragment o d k ∷ cs) h = (h.0, Points-take n cs h.1)
  Points-take (suc n) (cell.Undef ∷ cs) h = Points-take n cs h

  Points-drop : (n : ℕ) (cs : List Cell) → Points cs → Points (drop n cs)
  Points-drop zero cs h = h
  Points-drop (suc n) [] h = tt
  Points-drop (suc n) (cell.Byte b ∷ cs) h = Points-drop n cs h
  Points-drop (suc n) (cell.Fragment o d k ∷ cs) h = Points-drop n cs h.1
  Points-drop (suc n) (cell.Undef ∷ cs) h = Points-drop n cs h

  pub Points-within : (at n : ℕ) (cs : List Cell) → Points cs → Points (cells_within at n cs)
  Points-within at n cs h = Points-take n (drop at cs) (Points-drop at cs h)

  pub Points-undefined : (n : ℕ) → Points (undefined_cells n)
  Points-undefined zero = tt
  Points-undefined (suc n) = Points-undefined n

  pub Points-tail : (c : Cell) (cs : List Cell) → Points (c ∷ cs) → Points cs
  Points-tail (cell.Byte b) cs h = h
  Points-tail (cell.Fragment o d k) cs h = h.1
  Points-tail cell.Undef cs h = h

  Points-cons : (c : Cell) (cs ds : List Cell) → Points (c ∷ cs) → Points ds → Points (c ∷ ds)
  Points-cons (cell.Byte b) cs ds h k = k
  Points-cons (cell.Fragment o d n) cs ds h k = (h.0, k)
  Points-cons cell.Undef cs ds h k = k

  pub Points-with : (at : ℕ) (ns cs : List Cell) → Points ns → Points cs → Points (with_cells at ns cs)
  Points-with zero [] cs h k = k
  Points-with zero (n ∷ ns) [] h k = tt
  Points-with zero (n ∷ ns) (c ∷ cs) h k =
      Points-cons n ns (with_cells zero ns cs) h (Points-with zero ns cs (Points-tail n ns h) (Points-tail c cs k))
  Points-with (suc at) ns [] h k = tt
  Points-with (suc at) ns (c ∷ cs) h k = Points-cons c cs (with_cells at ns cs) k (Points-with at ns cs h (Points-tail c cs k))

  -- ---- scalars

  Points-fragments : (o d k n : ℕ) → P o → Points (fragments o d k n)
  Points-fragments o d k zero h = tt
  Points-fragments o d k (suc n) h = (h, Points-fragments o d (suc k) n h)

  pub Points-number : (shape : Shape) (v : ℤ) → Points (cells shape (Number v))
  Points-number shape v = Points-byte_cells (le_bytes (width shape) (residue (2 ^ (8 * width shape)) v))

  pub Points-pointer : (p : Pointer) → PointsTo p → Points (cells Nullable (Pointing p))
  Points-pointer Null h = tt
  Points-pointer (Address o d) h = Points-fragments o d 0 8 h

  PointsScalar : Scalar → Type 0
  PointsScalar (Number v) = Unit {0}
  PointsScalar (Pointing p) = PointsTo p

  abbrev PointsFound : Option Scalar → Type 0
  PointsFound None = Unit {0}
  PointsFound (Some v) = PointsTo (pointer_in v)

  found_if : (b : Bool) (v : Option Scalar) → PointsFound v → PointsFound (if b then v else None)
  found_if true v h = h
  found_if false v h = tt

  found_address : (cs : List Cell) → Points cs → PointsFound (address_spelled cs)
  found_address [] h = tt
  found_address (cell.Byte b ∷ cs) h = tt
  found_address (cell.Fragment o d k ∷ cs) h =
      found_if (nat_eq (length cs) 7) _ (found_if (are_fragments o d 0 (cell.Fragment o d k ∷ cs)) (Some (Pointing (Address o d))) h.0)
  found_address (cell.Undef ∷ cs) h = tt

  found_null : (cs : List Cell) → PointsFound (null_spelled cs)
  found_null cs = found_if (nat_eq (length cs) 8) _ (go (bytes_of cs))
    where
      go : (r : Option (List ℕ)) → PointsFound (option_and_then (λ bs. if nat_eq (le_number bs) 0 then Some (Pointing Null) else None) r)
      go None = tt
      go (Some bs) = found_if _ (Some (Pointing Null)) tt

  found_first : (r s : Option Scalar) → PointsFound r → PointsFound s → PointsFound (option_or r s)
  found_first None s h k = k
  found_first (Some v) s h k = h

  -- a pointer that cells spell leads where they do
  found_pointer : (cs : List Cell) → Points cs → PointsFound (spelled Nullable cs)
  found_pointer cs h = found_first (address_spelled cs) (null_spelled cs) (found_address cs h) (found_null cs)

  pub Points-pointer_of : (cs : List Cell) → Points cs → PointsTo (pointer_of cs)
  Points-pointer_of cs h = go (spelled Nullable cs) (found_pointer cs h)
    where
      go : (r : Option Scalar) → PointsFound r → PointsTo (unwrap_or (option_map pointer_in r) Null)
      go None k = tt
      go (Some v) k = k

  -- ---- three words

  abbrev pub PointsWords : Answer Words → Type 0
  PointsWords (Gives w) = PointsTo w.data_at
  PointsWords (Aborts r) = Unit {0}
  PointsWords (IsUndefined u) = Unit {0}

  pub Points-three : (w : Words) → PointsTo w.data_at → Points (three w)
  Points-three w h =
      Points-append (cells Nullable (Pointing w.data_at) ++ size_cells w.length) (size_cells w.capacity)
      (Points-append (cells Nullable (Pointing w.data_at)) (size_cells w.length) (Points-pointer w.data_at h)
      (Points-number size_shape (pos w.length))) (Points-number size_shape (pos w.capacity))

  pub Points-words : (cs : List Cell) → Points cs → PointsWords (words cs)
  Points-words cs h = go (spelled Nullable (cells_within 0 8 cs)) (found_pointer (cells_within 0 8 cs) (Points-within 0 8 cs h))
    where
      last : (p : Scalar) (n : ℕ) (c : Answer ℕ) → PointsTo (pointer_in p) →
          PointsWords (c then λ c. Gives (record { data_at = pointer_in p; length = n; capacity = c }))
      last p n (Gives c) k = k
      last p n (Aborts r) k = tt
      last p n (IsUndefined u) k = tt

      middle : (p : Scalar) (n : Answer ℕ) → PointsTo (pointer_in p) →
          PointsWords (n then λ n. size_in (cells_within 16 8 cs) then λ c. Gives
          (record { data_at = pointer_in p; length = n; capacity = c }))
      middle p (Gives n) k = last p n (size_in (cells_within 16 8 cs)) k
      middle p (Aborts r) k = tt
      middle p (IsUndefined u) k = tt

      go : (r : Option Scalar) → PointsFound r →
          PointsWords (or_undefined 3 r then λ p. size_in (cells_within 8 8 cs) then λ n. size_in (cells_within 16 8 cs) then λ c. Gives
          (record { data_at = pointer_in p; length = n; capacity = c }))
      go None k = tt
      go (Some p) k = middle p (size_in (cells_within 8 8 cs)) k

  -- ---- unions and coercions

  Points-union : (s : Store) (u m : ℕ) (cs : List Cell) → Points cs → Points (union_cells s u m cs)
  Points-union s u m cs h =
      Points-with 0 (cells tag_shape (Number (pos (tag_of s m)))) (with_cells (payload_of s u) cs (undefined_cells (size_at s u)))
      (Points-number tag_shape (pos (tag_of s m)))
      (Points-with (payload_of s u) cs (undefined_cells (size_at s u)) h (Points-undefined (size_at s u)))

  answer_then : {A : Type 0} (a : Answer A) (f : A → Answer (List Cell)) → ((x : A) → PointsAnswer (f x)) → PointsAnswer (a then f)
  answer_then (Gives x) f h = h x
  answer_then (Aborts r) f h = tt
  answer_then (IsUndefined u) f h = tt

  answer_behind : (a : Answer (List Cell)) (f : List Cell → Answer (List Cell)) → PointsAnswer a →
      ((cs : List Cell) → Points cs → PointsAnswer (f cs)) → PointsAnswer (a then f)
  answer_behind (Gives x) f h k = k x h
  answer_behind (Aborts r) f h k = tt
  answer_behind (IsUndefined u) f h k = tt

  Points-checked : (r : Option Shape) (cs : List Cell) → Points cs → PointsAnswer (checked_by r cs)
  Points-checked None cs h = h
  Points-checked (Some shape) cs h = answer_then (scalar_of shape cs) _ (λ v. h)

  Points-payload : (s : Store) (u m : ℕ) (cs : List Cell) → Points cs → PointsAnswer (payload s u m cs)
  Points-payload s u m cs h = Points-checked (shape_at s m) _ (Points-within _ _ cs h)

  pub Points-number_at : (s : Store) (t : ℕ) (v : ℤ) → Points (number_cells_at s t v)
  Points-number_at s t v = go (shape_at s t)
    where
      go : (r : Option Shape) → Points (unwrap_or (option_map (λ shape. cells shape (Number v)) r) [])
      go None = tt
      go (Some shape) = Points-number shape v

  pub Points-number_cells : (s : Store) (f : Ty) (v : ℤ) → Points (number_cells s f v)
  Points-number_cells s (kept.Of t) v = Points-number_at s t v
  Points-number_cells s (kept.Iconst u) v = tt
  Points-number_cells s kept.Null v = tt
  Points-number_cells s kept.Empty v = tt

  Points-if : (b : Bool) (cs ds : List Cell) → Points cs → Points ds → Points (if b then cs else ds)
  Points-if true cs ds h k = h
  Points-if false cs ds h k = k

  Points-coerced_by : (s : Store) (f : Ty) (r t : ℕ) (cs : List Cell) → Points cs → Points (coerced_by s f r t cs)
  Points-coerced_by s f r t cs h =
      Points-if (nat_eq r 3 || nat_eq r 4) _ _ (Points-number_at s t _) (Points-if (nat_eq r 6) _ cs tt h)

  Points-union_to_union : (s : Store) (f : Ty) (u : ℕ) (cs : List Cell) → Points cs → PointsAnswer (union_to_union s f u cs)
  Points-union_to_union s (kept.Of f) u cs h =
      answer_then (member_by_tag s f cs) _ (λ m. answer_behind (payload s f m cs) _ (Points-payload s f m cs h)
      (λ d k. Points-union s u m d k))
  Points-union_to_union s (kept.Iconst v) u cs h = h
  Points-union_to_union s kept.Null u cs h = h
  Points-union_to_union s kept.Empty u cs h = h

  Points-coerced_as : (s : Store) (f : Ty) (u : ℕ) (cs : List Cell) (m : Option ℕ) → Points cs → PointsAnswer (coerced_as s f u cs m)
  Points-coerced_as s f u cs None h = Points-union_to_union s f u cs h
  Points-coerced_as s f u cs (Some m) h = Points-union s u m _ (Points-coerced_by s f (row_to s f m) m cs h)

  answer_if : (b : Bool) (x y : Answer (List Cell)) → PointsAnswer x → PointsAnswer y → PointsAnswer (if b then x else y)
  answer_if true x y h k = h
  answer_if false x y h k = k

  Points-coerced_into : (s : Store) (f : Ty) (r : ℕ) (t : Ty) (cs : List Cell) → Points cs → PointsAnswer (coerced_into s f r t cs)
  Points-coerced_into s f r (kept.Of t) cs h =
      answer_if (nat_eq r 9) _ _ (Points-coerced_as s f t cs (chosen_member s f (union_members s t)) h) (Points-coerced_by s f r t cs h)
  Points-coerced_into s f r (kept.Iconst v) cs h = h
  Points-coerced_into s f r kept.Null cs h = h
  Points-coerced_into s f r kept.Empty cs h = h

  pub Points-coerced : (s : Store) (f : Ty) (c : Coercion) (cs : List Cell) → Points cs → PointsAnswer (coerced s f c cs)
  Points-coerced s f c cs h = Points-coerced_into s f c.row c.to cs h
