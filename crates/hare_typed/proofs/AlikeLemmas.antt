-- An operation that follows a pointer looks at the object that this names, and at no other.
use Rattle.std.proofs.Common.{◌≡◌, ℕ, ◌*◌, false, refl, ap}
use Rattle.std.specs.Prelude.{if◌then◌else◌}
use Rattle.hare_typed.specs.Answers.{Answer, Gives, Aborts, IsUndefined, ◌then◌}
use Rattle.hare_typed.specs.Scalars.{Pointer, Null, Address}
use Rattle.hare_typed.specs.Objects.{Reading, Access, wrong_to, reaches, cells_at, read_cells, scalar_of, bytes_within}
use Rattle.hare_typed.specs.Pointers.{move, is_dead, same_pointer, same_living}
use Rattle.hare_typed.specs.Words.{Words, element_at, sliced, same_bytes, same_text, within_length}
use Rattle.hare_typed.specs.Unions.{checked}
use Rattle.hare_typed.specs.Alike.{AreAlike, LooksWherePointed}

wrong_to-alike : (r r' : Reading) (a : Access) (p : Pointer) → AreAlike r r' p → wrong_to r a p ≡ wrong_to r' a p
wrong_to-alike r r' a Null h = refl
wrong_to-alike r r' a (Address o d) h = rw h refl

reaches-alike : (r r' : Reading) (a : Access) → AreAlike r r' a.at → reaches r a ≡ reaches r' a
reaches-alike r r' a h = rw (wrong_to-alike r r' a a.at h) refl

cells_at-alike : (r r' : Reading) (p : Pointer) (n : ℕ) → AreAlike r r' p → cells_at r p n ≡ cells_at r' p n
cells_at-alike r r' Null n h = refl
cells_at-alike r r' (Address o d) n h = rw h refl

read_cells-alike : (r r' : Reading) (p : Pointer) (n align : ℕ) → AreAlike r r' p → read_cells r p n align ≡ read_cells r' p n align
read_cells-alike r r' p n align h =
    rw (cells_at-alike r r' p n h, reaches-alike r r' (record { at = p; bytes = n; align = align; stores = false }) h) refl

move-alike : (r r' : Reading) (p : Pointer) (n : ℕ) → AreAlike r r' p → move r p n ≡ move r' p n
move-alike r r' Null n h = refl
move-alike r r' (Address o d) n h = rw h refl

is_dead-alike : (r r' : Reading) (p : Pointer) → AreAlike r r' p → is_dead r p ≡ is_dead r' p
is_dead-alike r r' Null h = refl
is_dead-alike r r' (Address o d) h = rw h refl

same_living-alike : (r r' : Reading) (p q : Pointer) → AreAlike r r' p → AreAlike r r' q → same_living r p q ≡ same_living r' p q
same_living-alike r r' Null Null h k = refl
same_living-alike r r' Null (Address o d) h k = refl
same_living-alike r r' (Address o d) Null h k = refl
same_living-alike r r' (Address o d) (Address p e) h k = rw (h, k) refl

same_pointer-alike : (r r' : Reading) (p q : Pointer) → AreAlike r r' p → AreAlike r r' q → same_pointer r p q ≡ same_pointer r' p q
same_pointer-alike r r' p q h k = rw (is_dead-alike r r' p h, is_dead-alike r r' q k, same_living-alike r r' p q h k) refl

-- what comes of one answer comes of an equal one
then_alike : {A B : Type 0} {x y : Answer A} (f : A → Answer B) → x ≡ y → (x then f) ≡ (y then f)
then_alike f e = ap (λ a. a then f) e

then_each : {A B : Type 0} (x : Answer A) (f g : A → Answer B) → ((a : A) → f a ≡ g a) → (x then f) ≡ (x then g)
then_each (Gives a) f g h = h a
then_each (Aborts n) f g h = refl
then_each (IsUndefined n) f g h = refl

element_at-alike : (r r' : Reading) (w : Words) (n i : ℕ) → AreAlike r r' w.data_at → element_at r w n i ≡ element_at r' w n i
element_at-alike r r' w n i h = then_each (within_length i w.length) _ _ (λ k. move-alike r r' w.data_at (k * n) h)

sliced-alike : (r r' : Reading) (w : Words) (n x y : ℕ) → AreAlike r r' w.data_at → sliced r w n x y ≡ sliced r' w n x y
sliced-alike r r' w n x y h = rw (move-alike r r' w.data_at (x * n) h) refl

same_bytes-alike : (r r' : Reading) (p q : Pointer) (n : ℕ) → AreAlike r r' p → AreAlike r r' q → same_bytes r p q n ≡ same_bytes r' p q n
same_bytes-alike r r' p q n h k = rw (read_cells-alike r r' p n 1 h, read_cells-alike r r' q n 1 k) refl

same_text-alike : (r r' : Reading) (v w : Words) → AreAlike r r' v.data_at → AreAlike r r' w.data_at → same_text r v w ≡ same_text r' v w
same_text-alike r r' v w h k = rw (same_bytes-alike r r' v.data_at w.data_at v.length h k) refl

pub looks_where_pointed : LooksWherePointed
looks_where_pointed =
    record {
      access = reaches-alike;
      cells = read_cells-alike;
      scalar = λ r r' p align shape h. then_alike (scalar_of shape) (read_cells-alike r r' p _ align h);
      bytes = λ r r' p n h. then_alike bytes_within (read_cells-alike r r' p n 1 h);
      value = λ s r r' p t h. then_alike (checked s t) (read_cells-alike r r' p _ _ h);
      moved = move-alike;
      compared = same_pointer-alike;
      element = element_at-alike;
      part = sliced-alike;
      text = same_text-alike;
    }
