-- The first of faults, fault by fault.
use Rattle.std.proofs.Common.{◌≡◌, ℕ, ◌+◌, ◌<◌, List, [], ◌∷◌, length, get_or, map, drop, fold, slice_get, Option, Some, None, refl, sym, ap, ◌∙◌, suc, drop-cons, add-one}
use Rattle.std.specs.List.{cons_option, filter_map}
use Rattle.hare_tree.specs.declared.place.Fault.{Fault}
use Rattle.hare_tree.specs.declared.tree.FileTree.{FileTree}
use Rattle.hare_modules.specs.Order.{earlier, earlier_of}
use Rattle.hare_modules.specs.Takings.{runtime_file, runtime_files}
use Rattle.hare_modules.proofs.ListLemmas.{drop-there}

-- a fault more, if there is one
pub first-on : (found o : Option Fault) (fs : List Fault) → fold earlier found (cons_option o fs) ≡ fold earlier (earlier_of found o) fs
first-on found None fs = refl
first-on found (Some f) fs = refl

drop-front : {A : Type 0} (xs : List A) (i : ℕ) (x : A) → i < length xs → get_or xs i x ≡ x → drop i xs ≡ x ∷ drop (i + 1) xs
drop-front xs i x l e = rw add-one (drop-cons xs i x l ∙ ap (λ y. y ∷ drop (suc i) xs) e)

-- what an element more of a list gives
pub filter_map-on : {A B : Type 0} (f : B → Option Fault) (g : A → B) (xs : List A) (i : ℕ) (x : A) (found all o : Option Fault) →
    i < length xs → get_or xs i x ≡ x → o ≡ f (g x) → fold earlier found (filter_map f (map g (drop i xs))) ≡ all →
    fold earlier (earlier_of found o) (filter_map f (map g (drop (i + 1) xs))) ≡ all
filter_map-on f g xs i x found all o l e k h =
    rw k (sym (ap (λ ys. fold earlier found (filter_map f (map g ys))) (drop-front xs i x l e) ∙ first-on found (f (g x))
    (filter_map f (map g (drop (i + 1) xs)))) ∙ h)

pub runtime_files-none : (hs : List ℕ) → runtime_files hs [] ≡ []
runtime_files-none [] = refl
runtime_files-none (h ∷ hs) = refl

pub runtime_files-on : (hs : List ℕ) (ts : List FileTree) (i : ℕ) (t : FileTree) (found all o : Option Fault) → i < length hs →
    slice_get ts i ≡ Some t → o ≡ runtime_file (get_or hs i 0) t → fold earlier found (runtime_files (drop i hs) (drop i ts)) ≡ all →
    fold earlier (earlier_of found o) (runtime_files (drop (i + 1) hs) (drop (i + 1) ts)) ≡ all
runtime_files-on hs ts i t found all o l e k h =
    let d : drop i hs ≡ get_or hs i 0 ∷ drop (i + 1) hs = rw add-one (drop-cons hs i 0 l) in
    rw k (sym (first-on found (runtime_file (get_or hs i 0) t) (runtime_files (drop (i + 1) hs) (drop (i + 1) ts)))
    ∙ ap (λ ys. fold earlier found (runtime_files ys (t ∷ drop (i + 1) ts))) (sym d)
    ∙ ap (λ ys. fold earlier found (runtime_files (drop i hs) ys)) (sym (drop-there ts i t e)) ∙ h)
