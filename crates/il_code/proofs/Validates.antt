-- A module is valid exactly where it is shaped and breaks no rule.
use Rattle.std.proofs.Common.{◌≡◌, ◌↔◌, [], Bool, true, ◌&&◌, refl, sym, ◌∙◌, IsTrue}
use Rattle.std.proofs.lemmas.Bool.{and_parts}
use Rattle.il_code.specs.declared.types.Module.{Module}
use Rattle.il_code.specs.Print.{module_text}
use Rattle.il_code.specs.Grammar.{module_pattern, Spells}
use Rattle.il_code.specs.Rules.{IsLawful, IsValid}
use Rattle.il_code.specs.Shaped.{is_shaped, is_lawful}
use Rattle.il_code.proofs.Possible.{printed, Fits-printed, can-from_Fits, list_all-from_Tokens}
use Rattle.il_code.proofs.ShapedLemmas.{can_module}
use Rattle.il_code.proofs.TokensOfModule.{module_at}

both_true : (a b : Bool) → a ≡ true → b ≡ true → (a && b) ≡ true
both_true a b ha hb = rw (ha, hb) refl

Spells-printed : (m : Module) → is_shaped m ≡ true → Spells (module_text m) m
Spells-printed m h = record {
  tokens = printed (module_pattern m) [];
  read = module_at m h;
  fits = Fits-printed (module_pattern m)
      (can_module m ∙ h);
}

is_shaped-from_Spells : (m : Module) → Spells (module_text m) m → is_shaped m ≡ true
is_shaped-from_Spells m s = sym (can_module m) ∙ can-from_Fits (module_pattern m) s.tokens s.fits
    (list_all-from_Tokens (module_text m) s.tokens s.read)

lawful : (m : Module) → is_lawful m.items ≡ true → IsLawful m.items
unfolding is_lawful
lawful m h =
    let a = and_parts _ _ h in
    let b = and_parts _ _ a.1 in
    let c = and_parts _ _ b.1 in
    let d = and_parts _ _ c.1 in
    let e = and_parts _ _ d.1 in
    let f = and_parts _ _ e.1 in
    record { once = a.0; names = b.0; flow = c.0; operands = d.0; main = e.0; numbers = f.0; small = f.1 }

is_lawful-from : (m : Module) → IsLawful m.items → is_lawful m.items ≡ true
unfolding is_lawful
is_lawful-from m l = both_true _ _ l.once (both_true _ _ l.names
    (both_true _ _ l.flow (both_true _ _ l.operands (both_true _ _ l.main (both_true _ _ l.numbers l.small)))))

pub valid_is : (m : Module) → IsTrue (is_shaped m && is_lawful m.items) ↔ IsValid m
valid_is m = (
  (λ h. let k = and_parts (is_shaped m) (is_lawful m.items) h in record { spells = Spells-printed m k.0; lawful = lawful m k.1 }),
  (λ v. both_true (is_shaped m) (is_lawful m.items) (is_shaped-from_Spells m v.spells) (is_lawful-from m v.lawful)),
)
