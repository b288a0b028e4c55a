-- That yielded values fit what they are yielded to.
use Rattle.std.specs.Prelude.{◌≡◌, false, List, [], ◌∷◌, slice_get, Some}
use Rattle.hare_types.specs.Store.{Store}
use Rattle.hare_rules.specs.Context.{Open}
use Rattle.hare_rules.specs.Control.{is_loop}
use Rattle.hare_rules.specs.Flow.{Yielded}
pub use Rattle.hare_find.specs.Looked.{IsVoidTaken}

-- the value is yielded to one of these labels, which is no loop and takes it
pub record IsOpenTo (s : Store) (ls : List Open) (y : Yielded) : Type 0 where
  pub label : Open
  pub at : slice_get ls y.level ≡ Some label
  pub takes : is_loop label.target ≡ false
  pub void : IsVoidTaken s label.hint y.given

abbrev pub AreOpenTo : Store → List Open → List Yielded → Type 0
AreOpenTo s ls [] = Unit {0}
AreOpenTo s ls (y ∷ ys) = IsOpenTo s ls y × AreOpenTo s ls ys
