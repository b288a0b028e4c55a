-- Where an operation looks: with two lists of objects that are alike there, it gives the same.
use Rattle.std.specs.Prelude.{◌≡◌, ℕ}
use Rattle.hare_types.specs.Store.{Store}
use Rattle.hare_typed.specs.Scalars.{Pointer, Null, Address, Shape}
use Rattle.hare_typed.specs.Objects.{Reading, Access, reaches, read_cells, read_scalar, read_bytes}
use Rattle.hare_typed.specs.Pointers.{move, same_pointer}
use Rattle.hare_typed.specs.Words.{Words, element_at, sliced, same_text}
use Rattle.hare_typed.specs.Evaluated.{read_type}

-- both have the same object where the pointer leads, or none, or the pointer is null
abbrev pub AreAlike : Reading → Reading → Pointer → Type 0
AreAlike r r' Null = Unit {0}
AreAlike r r' (Address o d) = r o ≡ r' o

-- An operation that follows a pointer looks at the object that this names, and at no other.
pub record LooksWherePointed : Type 0 where
  pub access : (r r' : Reading) (a : Access) → AreAlike r r' a.at → reaches r a ≡ reaches r' a
  pub cells : (r r' : Reading) (p : Pointer) (n align : ℕ) → AreAlike r r' p → read_cells r p n align ≡ read_cells r' p n align
  pub scalar : (r r' : Reading) (p : Pointer) (align : ℕ) (shape : Shape) → AreAlike r r' p →
      read_scalar r p align shape ≡ read_scalar r' p align shape
  pub bytes : (r r' : Reading) (p : Pointer) (n : ℕ) → AreAlike r r' p → read_bytes r p n ≡ read_bytes r' p n
  pub value : (s : Store) (r r' : Reading) (p : Pointer) (t : ℕ) → AreAlike r r' p → read_type s r p t ≡ read_type s r' p t
  pub moved : (r r' : Reading) (p : Pointer) (n : ℕ) → AreAlike r r' p → move r p n ≡ move r' p n
  pub compared : (r r' : Reading) (p q : Pointer) → AreAlike r r' p → AreAlike r r' q → same_pointer r p q ≡ same_pointer r' p q
  pub element : (r r' : Reading) (w : Words) (n i : ℕ) → AreAlike r r' w.data_at → element_at r w n i ≡ element_at r' w n i
  pub part : (r r' : Reading) (w : Words) (n x y : ℕ) → AreAlike r r' w.data_at → sliced r w n x y ≡ sliced r' w n x y
  pub text : (r r' : Reading) (v w : Words) → AreAlike r r' v.data_at → AreAlike r r' w.data_at → same_text r v w ≡ same_text r' v w
