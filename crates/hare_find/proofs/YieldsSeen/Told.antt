-- What a judge is told of what was yielded.
use Rattle.std.proofs.Common.{◌≡◌, ℕ, zero, suc, ◌<◌, ◌≤◌, List, [], ◌∷◌, ◌++◌, length, take, get_or, refl, ap, arith, Option, Some, None}
use Rattle.std.specs.Prelude.{map}
use Rattle.hare_types.specs.declared.coercion.Ty.{Ty}
use Rattle.hare_types.specs.declared.row.Row.TheVariants as row
use Rattle.hare_types.specs.declared.row.Scalar.TheVariants as keyword
use Rattle.hare_types.specs.Store.{Store}
use Rattle.hare_types.specs.Sound.{IsStore}
use Rattle.hare_types.specs.Later.{IsLater}
use Rattle.hare_types.proofs.IdLemmas.{id_tells}
use Rattle.hare_assign.proofs.TypeLemmas.{type_at_row}
use Rattle.hare_rules.specs.Words.{word_id}
use Rattle.hare_rules.specs.Context.{Given}
use Rattle.hare_rules.specs.declared.judged.Yielded.{Yielded}
use Rattle.hare_told.specs.Told.{IsVoidOf, IsToldYield, AreToldYields}
use Rattle.rule_judge.specs.Defined.{IsDefinedTy, AreDefinedYields}
use Rattle.rule_judge.proofs.DefinedLemmas.{ty_stays}
use Rattle.hare_flow.specs.declared.yields.Handed.{Handed}
use Rattle.hare_flow.specs.Seen.{given_of}
use Rattle.hare_find.specs.Yields.{IsDefinedOption, AreDefinedGivens}

-- the type that is written `void` is that of a value without a type
pub void_here : (f : Store) → IsStore f → (v : ℕ) → word_id f keyword.Void ≡ Some v → IsVoidOf f v
void_here f s v e =
    let here = (id_tells f s (row.Scalar keyword.Void) v).0 e in
    record { word = e; row = here; tree = type_at_row f s v (row.Scalar keyword.Void) here }

-- ---- one more

pub told-append : (f : Store) (gs : List Given) (ys : List Yielded) (g : Given) (y : Yielded) → AreToldYields f gs ys → IsToldYield f g y →
    AreToldYields f (gs ++ g ∷ []) (ys ++ y ∷ [])
told-append f [] [] g y h k = (k, tt)
told-append f [] (z ∷ ys) g y h k = absurd h
told-append f (p ∷ gs) [] g y h k = absurd h
told-append f (p ∷ gs) (z ∷ ys) g y h k = (h.0, told-append f gs ys g y h.1 k)

pub defined-append : (s : Store) (ys : List Yielded) (y : Yielded) → AreDefinedYields s ys → IsDefinedTy s y.ty →
    AreDefinedYields s (ys ++ y ∷ [])
defined-append s [] y h k = (k, tt)
defined-append s (z ∷ ys) y h k = (h.0, defined-append s ys y h.1 k)

pub given_at : (s : Store) (hs : List Handed) (i : ℕ) (h : Handed) → i < length hs → AreDefinedGivens s (map given_of hs) →
    IsDefinedOption s (get_or hs i h).ty
given_at s [] i h l d = absurd (omega arith)
given_at s (p ∷ hs) zero h l d = d.0
given_at s (p ∷ hs) (suc i) h l d = given_at s hs i h (omega arith) d.1

pub given_more : (hs : List Handed) (i : ℕ) (h : Handed) → i < length hs → h ≡ get_or hs i h →
    map given_of (take (suc i) hs) ≡ map given_of (take i hs) ++ given_of h ∷ []
given_more [] i h l e = absurd (omega arith)
given_more (p ∷ hs) zero h l e = rw e refl
given_more (p ∷ hs) (suc i) h l e = ap (λ gs. given_of p ∷ gs) (given_more hs i h (omega arith) e)

pub taken_all : {A : Type 0} (hs : List A) (i : ℕ) → length hs ≤ i → take i hs ≡ hs
taken_all [] zero l = refl
taken_all [] (suc i) l = refl
taken_all (p ∷ hs) zero l = absurd (omega arith)
taken_all (p ∷ hs) (suc i) l = ap (λ gs. p ∷ gs) (taken_all hs i (omega arith))

-- the type of a value, where it has one, goes on to mention no name without a definition
pub option_stays : (now later : Store) → IsStore now → IsLater now later → (o : Option Ty) → IsDefinedOption now o → IsDefinedOption later o
option_stays now later v l None h = tt
option_stays now later v l (Some a) h = ty_stays now later v l a h

pub givens_stay : (now later : Store) → IsStore now → IsLater now later → (gs : List Given) → AreDefinedGivens now gs →
    AreDefinedGivens later gs
givens_stay now later v l [] h = tt
givens_stay now later v l (g ∷ gs) h = (option_stays now later v l g.ty h.0, givens_stay now later v l gs h.1)
