-- Strings that stand in memory where the program's code looks for them.
use Rattle.std.proofs.Common.{◌≡◌, ℕ, suc, ◌+◌, ◌^◌, ◌<◌, true, List, [], ◌∷◌, ◌++◌, length, refl, arith, subst}
use Rattle.hx_base.specs.Memory.{Memory, all_mapped, bytes_at}
use Rattle.hx_base.specs.Runtime.{World, Gives, put}
use Rattle.flat_code.specs.declared.program.FlatProgram.{FlatProgram}
use Rattle.flat_code.specs.Addresses.{address_at}

module _ (p : FlatProgram) (m : Memory) where
  -- the global with this number is the string
  pub record IsText (i : ℕ) (text : List ℕ) : Type 0 where
    pub mapped : all_mapped m (address_at p i) (length text) ≡ true
    pub bytes : bytes_at m (address_at p i) (length text) ≡ text
    pub address : address_at p i < 2 ^ 64
    pub short : length text < 2 ^ 64

  -- the globals from this number on are the strings
  abbrev pub AreTexts : ℕ → List (List ℕ) → Type 0
  AreTexts i [] = Unit {0}
  AreTexts i (t ∷ ts) = IsText i t × AreTexts (suc i) ts

  pub texts_front : (i : ℕ) (a b : List (List ℕ)) → AreTexts i (a ++ b) → AreTexts i a
  texts_front i [] b h = tt
  texts_front i (t ∷ a) b h = (h.0, texts_front (suc i) a b h.1)

  pub texts_back : (i j : ℕ) (a b : List (List ℕ)) → j ≡ i + length a → AreTexts i (a ++ b) → AreTexts j b
  texts_back i j [] b e h = let k : i ≡ j = omega arith in subst (λ x. AreTexts x b) k h
  texts_back i j (t ∷ a) b e h = texts_back (suc i) j a b (omega arith) h.1

-- a string that stands in memory is put out
pub put_text : (w : World) (at : ℕ) (text : List ℕ) → all_mapped w.memory at (length text) ≡ true →
    bytes_at w.memory at (length text) ≡ text → put w at (length text) ≡ Gives 0 (length text) (record w { output = w.output ++ text })
put_text w at text e f = rw (e, f) refl
