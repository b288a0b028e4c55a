-- The first function with a name stands at its place.
use Rattle.std.proofs.Common.{◌≡◌, ℕ, suc, Bool, true, false, List, [], ◌∷◌, ◌++◌, length, Option, None, Some, refl, sym, ap, ◌∙◌, arith, append_assoc, length-append}
use Rattle.std.specs.Prelude.{bytes_eq, slice_get, if◌then◌else◌}
use Rattle.hx_base.specs.Runtime.{lookup}
use Rattle.flat_code.specs.declared.program.FlatFn.{FlatFn}
use Rattle.flat_code.specs.Evaluation.{function_named}
use Rattle.hx_table.specs.Tables.{with_entries}
use Rattle.hx_table.proofs.TableLemmas.{lookup-with_entries}
use Rattle.il_emit.specs.Sources.{places_from}

-- the function at a place, if there is one
abbrev at_place : List FlatFn → Option ℕ → Option FlatFn
at_place fs None = None
at_place fs (Some at) = slice_get fs at

behind : (front : List FlatFn) (f : FlatFn) (fs : List FlatFn) → slice_get (front ++ f ∷ fs) (length front) ≡ Some f
behind [] f fs = refl
behind (x ∷ front) f fs = behind front f fs

placed : (front fs : List FlatFn) (name : List ℕ) →
    function_named fs name ≡ at_place (front ++ fs) (lookup name (places_from (length front) fs))
placed front [] name = refl
placed front (f ∷ fs) name = pick (bytes_eq f.name name) (placed (front ++ f ∷ []) fs name)
  where
    again : function_named fs name ≡ at_place ((front ++ f ∷ []) ++ fs) (lookup name (places_from (length (front ++ f ∷ [])) fs)) →
        function_named fs name ≡ at_place (front ++ f ∷ fs) (lookup name (places_from (suc (length front)) fs))
    again on =
        on
        ∙ ap (λ (all : List FlatFn). at_place all (lookup name (places_from (length (front ++ f ∷ [])) fs)))
        (append_assoc front (f ∷ []) fs)
        ∙ ap (λ (at : ℕ). at_place (front ++ f ∷ fs) (lookup name (places_from at fs))) (length-append front (f ∷ []) ∙ omega arith)

    pick : (b : Bool) → function_named fs name ≡ at_place ((front ++ f ∷ []) ++ fs)
        (lookup name (places_from (length (front ++ f ∷ [])) fs))
        → (if b then Some f else function_named fs name) ≡
        at_place (front ++ f ∷ fs) (if b then Some (length front) else lookup name (places_from (suc (length front)) fs))
    pick true on = sym (behind front f fs)
    pick false on = again on

pub found_none : (fs : List FlatFn) (places : List (List ℕ × ℕ)) (name : List ℕ) → places ≡ with_entries [] (places_from 0 fs) →
    None ≡ lookup name places → None ≡ function_named fs name
found_none fs places name e h =
    sym (placed [] fs name ∙ ap (at_place fs) (sym (lookup-with_entries name [] (places_from 0 fs)) ∙ ap (lookup name) (sym e) ∙ sym h))

pub found_some : (fs : List FlatFn) (places : List (List ℕ × ℕ)) (name : List ℕ) (at : ℕ) → places ≡ with_entries [] (places_from 0 fs) →
    Some at ≡ lookup name places → slice_get fs at ≡ function_named fs name
found_some fs places name at e h =
    sym (placed [] fs name ∙ ap (at_place fs) (sym (lookup-with_entries name [] (places_from 0 fs)) ∙ ap (lookup name) (sym e) ∙ sym h))
