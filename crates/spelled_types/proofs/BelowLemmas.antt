-- Ids of a store, one more at the end.
use Rattle.std.proofs.Common.{◌≡◌, ℕ, zero, suc, ◌<◌, length, get_or, Some, ap, sym, ◌∙◌, subst, List, [], ◌∷◌, ◌++◌}
use Rattle.std.specs.Prelude.{slice_get}
use Rattle.std.proofs.lemmas.Option.{slice_get-get_or}
use Rattle.hare_types.specs.declared.lists.Field.{Field}
use Rattle.hare_types.specs.Rows.{AllBelow, FieldsBelow}

pub AllBelow-push : (n : ℕ) (is : List ℕ) (i : ℕ) → AllBelow n is → i < n → AllBelow n (is ++ i ∷ [])
AllBelow-push n [] i h l = (l, tt)
AllBelow-push n (j ∷ js) i h l = (h.0, AllBelow-push n js i h.1 l)

pub FieldsBelow-push : (n : ℕ) (fs : List Field) (f : Field) → FieldsBelow n fs → f.ty < n → FieldsBelow n (fs ++ f ∷ [])
FieldsBelow-push n [] f h l = (l, tt)
FieldsBelow-push n (g ∷ gs) f h l = (h.0, FieldsBelow-push n gs f h.1 l)

pub AllBelow-get : (n : ℕ) (is : List ℕ) → AllBelow n is → (k p : ℕ) → slice_get is k ≡ Some p → p < n
AllBelow-get n [] h k p e = absurd cc
AllBelow-get n (i ∷ is) h zero p e =
    let same : i ≡ p = cc in
    subst (λ x. x < n) same h.0
AllBelow-get n (i ∷ is) h (suc k) p e = AllBelow-get n is h.1 k p e

pub FieldsBelow-get : (n : ℕ) (fs : List Field) → FieldsBelow n fs → (k : ℕ) (f : Field) → slice_get fs k ≡ Some f → f.ty < n
FieldsBelow-get n [] h k f e = absurd cc
FieldsBelow-get n (g ∷ gs) h zero f e =
    let same : g ≡ f = cc in
    subst (λ x. x.ty < n) same h.0
FieldsBelow-get n (g ∷ gs) h (suc k) f e = FieldsBelow-get n gs h.1 k f e

-- an element that an iterator gives
pub item-is : {A : Type 0} (xs : List A) (k : ℕ) (x : A) → k < length xs → x ≡ get_or xs k x → slice_get xs k ≡ Some x
item-is xs k x less e = slice_get-get_or xs k x less ∙ ap Some (sym e)

pub AllBelow-item : (n : ℕ) (is : List ℕ) → AllBelow n is → (k p : ℕ) → k < length is → p ≡ get_or is k p → p < n
AllBelow-item n is h k p less e = AllBelow-get n is h k p (item-is is k p less e)

pub FieldsBelow-item : (n : ℕ) (fs : List Field) → FieldsBelow n fs → (k : ℕ) (f : Field) → k < length fs → f ≡ get_or fs k f → f.ty < n
FieldsBelow-item n fs h k f less e = FieldsBelow-get n fs h k f (item-is fs k f less e)
