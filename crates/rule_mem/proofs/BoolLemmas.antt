-- Tests that stop at the first that decides.
use Rattle.std.proofs.Common.{◌≡◌, Bool, true, false, not, ◌||◌, Option, Some, None, is_some, Bor, refl, ap, sym, ◌∙◌}
use Rattle.std.specs.Prelude.{option_copied}

-- the first test decides
pub or_first : (b l i : Bool) → b ≡ true → b ≡ l → b ≡ (l || i)
or_first b l i t e = t ∙ sym (ap (λ x. x || i) (sym e ∙ t))

-- the second one does
pub or_second : (b l i x : Bool) → b ≡ false → b ≡ l → x ≡ i → x ≡ (l || i)
or_second b l i x f e h = h ∙ sym (ap (λ y. y || i) (sym e ∙ f))

-- whether there is a value is seen through a reference
pub is_some-copied : {A : Type 0} (o : Option (Bor A)) → is_some o ≡ is_some (option_copied o)
is_some-copied None = refl
is_some-copied (Some x) = refl

-- where the first is so, the second has to be
pub or_rest : (b h x : Bool) → b ≡ true → b ≡ h → (not h || x) ≡ true → x ≡ true
or_rest b h x t e k = sym (ap (λ y. not y || x) (sym e ∙ t)) ∙ k
