-- Numbers of bytes.
use Rattle.std.proofs.Common.{◌≡◌, ◌∙◌, sym, ap, refl, ℕ, suc, ◌+◌, ◌*◌, ◌/◌, ◌%◌, ◌^◌, ◌<◌, ◌≤◌, arith, lit<, List, [], ◌∷◌, map, take, zero, to_z, of_z, Option, Some, None}
use Rattle.std.specs.Prelude.{option_map, slice_get, unwrap_or, ℤ, pos}
use Rattle.std.proofs.lemmas.List.{take-map}
use lib.IntN.{nat_abs}
use lib.Signed.{mag}
use mir.Syntax.{w128}
use Rattle.hx_base.specs.Memory.{le_bytes, le_number}
use Rattle.hx_base.specs.Numbers.{residue}
use Rattle.hare_types.specs.Store.{Store}
use Rattle.hare_types.specs.declared.coercion.Ty.{Ty}
use Rattle.hare_types.specs.declared.coercion.Ty.TheVariants as ty
use Rattle.hare_typed.specs.declared.cell.Cell.{Cell}
use Rattle.hare_typed.specs.declared.cell.Cell.TheVariants as cell
use Rattle.hare_typed.specs.Cells.{bytes_of, byte_cells}
use Rattle.hare_typed.specs.Scalars.{Number, width, cells}
use Rattle.hare_typed.specs.Shapes.{shape_at}
use Rattle.hare_typed.specs.Coercions.{number_cells}
use Rattle.hare_const.specs.declared.shape.Shape.{Shape}
use Rattle.hare_const.specs.Shapes.{shape_of}
use Rattle.hare_const.proofs.OperatorLemmas.{kept}
use Rattle.hare_const.specs.Numbers.{byte_in}
use Rattle.std.proofs.Math.Nat.{pow-succ', pow-le-pow_right}

-- one more low byte
pub below-more : (b high n m : ℕ) → n ≡ suc m → high < 256 ^ m → b < 256 → b + 256 * high < 256 ^ n
below-more b high n m e h l = rw (e, pow-succ' 256 m) (omega arith)

-- eight bytes are a number of 64 bits
pub below-eight : (v n : ℕ) → n ≤ 8 → v < 256 ^ n → v < 2 ^ 64
below-eight v n l h =
    let p : 256 ^ n ≤ 256 ^ 8 = pow-le-pow_right (lit< tt) l in
    omega arith

-- ---- bytes among cells

pub bytes_of-cons : (c : Cell) (b : ℕ) (cs : List Cell) → byte_in c ≡ Some b → bytes_of (c ∷ cs) ≡ option_map (λ bs. b ∷ bs) (bytes_of cs)
bytes_of-cons (cell.Byte x) b cs e = let k : x ≡ b = cc in ap (λ y. option_map (λ bs. y ∷ bs) (bytes_of cs)) k
bytes_of-cons (cell.Fragment o d k) b cs e = cc
bytes_of-cons cell.Undef b cs e = cc

pub bytes_of-none : (c : Cell) (cs : List Cell) → byte_in c ≡ None → bytes_of (c ∷ cs) ≡ None
bytes_of-none (cell.Byte x) cs e = cc
bytes_of-none (cell.Fragment o d k) cs e = refl
bytes_of-none cell.Undef cs e = refl

-- the number of a low byte and of what is above
pub le_number-cons :
    (c : Cell) (b : ℕ) (cs all : List Cell) (r : Option ℕ) → all ≡ c ∷ cs → byte_in c ≡ Some b → r ≡ option_map le_number (bytes_of cs)
    → option_map le_number (bytes_of all) ≡ option_map (λ n. b + 256 * n) r
le_number-cons c b cs all r e h g =
    ap (λ x. option_map le_number (bytes_of x)) e
    ∙ ap (option_map le_number) (bytes_of-cons c b cs h)
    ∙ fused (bytes_of cs)
    ∙ ap (option_map (λ n. b + 256 * n)) (sym g)
  where
    fused : (x : Option (List ℕ)) → option_map le_number (option_map (λ bs. b ∷ bs) x) ≡
        option_map (λ n. b + 256 * n) (option_map le_number x)
    fused None = refl
    fused (Some bs) = refl

-- ---- the cells of a number

-- the bytes of a number of 64 bits, as they are told one by one
pub eight_bytes : (v a b c d e f g h : ℕ) → slice_get (le_bytes 8 v) 0 ≡ Some a → slice_get (le_bytes 8 v) 1 ≡ Some b →
    slice_get (le_bytes 8 v) 2 ≡ Some c → slice_get (le_bytes 8 v) 3 ≡ Some d → slice_get (le_bytes 8 v) 4 ≡ Some e →
    slice_get (le_bytes 8 v) 5 ≡ Some f → slice_get (le_bytes 8 v) 6 ≡ Some g → slice_get (le_bytes 8 v) 7 ≡ Some h →
    map cell.Byte (a ∷ b ∷ c ∷ d ∷ e ∷ f ∷ g ∷ h ∷ []) ≡ byte_cells (le_bytes 8 v)
eight_bytes v a b c d e f g h ha hb hc hd he hf hg hh =
    ap (map cell.Byte) (told _ _ _ _ _ _ _ _ ha hb hc hd he hf hg hh)
  where
    told : (s t u w x y z r : ℕ) → Some s ≡ Some a → Some t ≡ Some b → Some u ≡ Some c → Some w ≡ Some d → Some x ≡ Some e →
        Some y ≡ Some f → Some z ≡ Some g → Some r ≡ Some h →
        a ∷ b ∷ c ∷ d ∷ e ∷ f ∷ g ∷ h ∷ [] ≡ s ∷ t ∷ u ∷ w ∷ x ∷ y ∷ z ∷ r ∷ []
    told s t u w x y z r p0 p1 p2 p3 p4 p5 p6 p7 = cc

take-le_bytes : (k n v : ℕ) → k ≤ n → take k (le_bytes n v) ≡ le_bytes k v
take-le_bytes zero n v h = refl
take-le_bytes (suc k) zero v h = absurd (omega arith)
take-le_bytes (suc k) (suc n) v h = ap (λ bs. v % 256 ∷ bs) (take-le_bytes k n (v / 256) (omega arith))

-- the first of them are those of a shorter number
pub lowest_bytes : (cs : List Cell) (n v : ℕ) → n ≤ 8 → cs ≡ take n (byte_cells (le_bytes 8 v)) → cs ≡ byte_cells (le_bytes n v)
lowest_bytes cs n v h e = e ∙ take-map cell.Byte n (le_bytes 8 v) ∙ ap byte_cells (take-le_bytes n 8 v h)

-- the bytes of the host's number are those of the number
pub host_number : (w v host : ℤ) (m : ℕ) → mag w < 2 ^ 127 → w ≡ pos (residue m host) → host ≡ v →
    nat_abs (to_z w128 (of_z w128 w)) ≡ residue m v
host_number w v host m h e f = ap nat_abs (kept w h ∙ e) ∙ ap (residue m) f

pub given_cells : (s : Store) (f : Ty) (t : ℕ) (v : ℤ) (shape : Shape) (bytes n : ℕ) (cs : List Cell) → f ≡ ty.Of t →
    Some (shape_of shape) ≡ shape_at s t →
    bytes ≡ width (shape_of shape) → n ≡ residue (2 ^ (8 * bytes)) v → cs ≡ byte_cells (le_bytes bytes n) → cs ≡ number_cells s f v
given_cells s f t v shape bytes n cs e g w r h =
    h
    ∙ ap (λ k. byte_cells (le_bytes bytes k)) r
    ∙ ap (λ k. byte_cells (le_bytes k (residue (2 ^ (8 * k)) v))) w
    ∙ ap (λ o. unwrap_or (option_map (λ u. cells u (Number v)) o) []) g
    ∙ ap (λ u. number_cells s u v) (sym e)
