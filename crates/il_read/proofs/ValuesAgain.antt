-- Operands are read as they are printed.
use Rattle.std.proofs.Common.{◌≡◌, ℕ, List, ◌∷◌, ◌++◌, Some, None, true, refl, ap, ◌∙◌, append_assoc, codes}
use Rattle.std.proofs.lemmas.Bool.{and_parts}
use Rattle.hx_base.specs.declared.Class.{Class}
use Rattle.hx_base.specs.declared.Class.TheVariants.{W, L}
use Rattle.il_code.specs.declared.types.IlParam.{IlParam}
use Rattle.il_code.specs.declared.types.IlArg.{IlArg}
use Rattle.il_code.specs.declared.types.IlValue.{IlValue}
use Rattle.il_code.specs.declared.types.IlValue.TheVariants.{Number, Temp, Symbol}
use Rattle.il_code.specs.declared.types.PhiArg.{PhiArg}
use Rattle.il_code.specs.Tokens.{is_identifier}
use Rattle.il_code.specs.Shaped.{is_value, is_param, is_arg, is_phi_arg}
use Rattle.il_code.specs.Print.{class_text, value_text, param_text, arg_text, phi_arg_text}
use Rattle.il_read.specs.Front.{behind}
use Rattle.il_read.specs.Values.{class_at, temp_at, symbol_at, label_at, temp_value_at, symbol_value_at, number_value_at, value_at, target_at, param_at, arg_at, phi_arg_at}
use Rattle.il_read.proofs.FrontsAgain.{Stops, name_again, number_again, number_is_no}

pub class_again : (c : Class) (rest : List ℕ) → class_at (class_text c ++ rest) ≡ Some (c, rest)
unfolding class_at
class_again W rest = refl
class_again L rest = refl

pub temp_again : (t rest : List ℕ) → is_identifier t ≡ true → Stops rest → temp_at (37 ∷ (t ++ rest)) ≡ Some (t, rest)
unfolding temp_at
temp_again t rest h stop = name_again t rest h stop

pub symbol_again : (t rest : List ℕ) → is_identifier t ≡ true → Stops rest → symbol_at (36 ∷ (t ++ rest)) ≡ Some (t, rest)
unfolding symbol_at
symbol_again t rest h stop = name_again t rest h stop

pub label_again : (t rest : List ℕ) → is_identifier t ≡ true → Stops rest → label_at (64 ∷ (t ++ rest)) ≡ Some (t, rest)
unfolding label_at
label_again t rest h stop = name_again t rest h stop

pub value_again : (v : IlValue) (rest : List ℕ) → is_value v ≡ true → Stops rest → value_at (value_text v ++ rest) ≡ Some (v, rest)
unfolding value_at temp_value_at symbol_value_at number_value_at
value_again (Number n) rest h stop =
    let no_temp = number_is_no n rest 37 h refl in
    let no_symbol = number_is_no n rest 36 h refl in
    let number = number_again n rest h stop in
    rw (no_temp, no_symbol, number) refl
value_again (Temp t) rest h stop = let name = name_again t rest h stop in rw name refl
value_again (Symbol s) rest h stop = let name = name_again s rest h stop in rw name refl

pub target_again : (t : List ℕ) (c : Class) (rest : List ℕ) → is_identifier t ≡ true →
    target_at (37 ∷ (t ++ (codes " =" ++ (class_text c ++ 32 ∷ rest)))) ≡ Some (record { name = t; class = c }, rest)
unfolding target_at
target_again t c rest h =
    let name = temp_again t (codes " =" ++ (class_text c ++ 32 ∷ rest)) h refl in
    let class = class_again c (32 ∷ rest) in
    rw name (rw class refl)

pub param_again : (p : IlParam) (rest : List ℕ) → is_param p ≡ true → Stops rest → param_at (param_text p ++ rest) ≡ Some (p, rest)
unfolding param_at
param_again p rest h stop =
    let text : param_text p ++ rest ≡ class_text p.class ++ (32 ∷ 37 ∷ (p.name ++ rest)) = simp append_assoc in
    let class = class_again p.class (32 ∷ 37 ∷ (p.name ++ rest)) in
    let name = temp_again p.name rest h stop in
    ap param_at text ∙ rw class (rw name refl)

pub arg_again : (a : IlArg) (rest : List ℕ) → is_arg a ≡ true → Stops rest → arg_at (arg_text a ++ rest) ≡ Some (a, rest)
unfolding arg_at
arg_again a rest h stop =
    let text : arg_text a ++ rest ≡ class_text a.class ++ (32 ∷ (value_text a.value ++ rest)) = simp append_assoc in
    let class = class_again a.class (32 ∷ (value_text a.value ++ rest)) in
    let value = value_again a.value rest h stop in
    ap arg_at text ∙ rw class (rw value refl)

pub phi_arg_again : (a : PhiArg) (rest : List ℕ) → is_phi_arg a ≡ true → Stops rest → phi_arg_at (phi_arg_text a ++ rest) ≡ Some (a, rest)
unfolding phi_arg_at
phi_arg_again a rest h stop =
    let parts = and_parts (is_identifier a.label) (is_value a.value) h in
    let text : phi_arg_text a ++ rest ≡ 64 ∷ (a.label ++ (32 ∷ (value_text a.value ++ rest))) = simp append_assoc in
    let label = label_again a.label (32 ∷ (value_text a.value ++ rest)) parts.0 refl in
    let value = value_again a.value rest parts.1 stop in
    ap phi_arg_at text ∙ rw label (rw value refl)

-- ---- a closing bracket begins no parameter and no argument

class_is_no : (c : Class) (x rest : List ℕ) → behind (codes ")") ((class_text c ++ x) ++ rest) ≡ None
class_is_no W x rest = refl
class_is_no L x rest = refl

pub param_is_no : (p : IlParam) (rest : List ℕ) → behind (codes ")") (param_text p ++ rest) ≡ None
param_is_no p rest = ap (λ x. behind (codes ")") (x ++ rest)) (append_assoc (class_text p.class) (codes " %") p.name) ∙ class_is_no p.class
    (codes " %" ++ p.name) rest

pub arg_is_no : (a : IlArg) (rest : List ℕ) → behind (codes ")") (arg_text a ++ rest) ≡ None
arg_is_no a rest = ap (λ x. behind (codes ")") (x ++ rest)) (append_assoc (class_text a.class) (codes " ") (value_text a.value)) ∙
    class_is_no a.class (codes " " ++ value_text a.value) rest
