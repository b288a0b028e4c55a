-- Items and modules are read as they are printed.
use Rattle.std.proofs.Common.{◌≡◌, ◌≢◌, ℕ, ◌<◌, ◌^◌, List, [], ◌∷◌, ◌++◌, Option, Some, None, Bool, true, false, length, refl, sym, ap, ◌∙◌, append_assoc, append-nil, arith, codes, decimal, nat_lt, ◌&&◌}
use Rattle.std.specs.List.{flat_map, list_all}
use Rattle.std.proofs.lemmas.Bool.{and_parts}
use Rattle.std.proofs.lemmas.Option.{none-some, same_Some}
use Rattle.il_code.specs.declared.stop.Stop.{Stop}
use Rattle.il_code.specs.declared.stop.Stop.TheVariants.{Fault, Memory}
use Rattle.il_read.specs.declared.taken.NotPrinted.{NotPrinted}
use Rattle.il_code.specs.declared.types.IlItem.{IlItem}
use Rattle.il_code.specs.declared.types.IlItem.TheVariants.{Data, Function}
use Rattle.il_code.specs.declared.types.Module.{Module}
use Rattle.hx_base.specs.declared.Class.{Class}
use Rattle.il_code.specs.declared.types.Block.{Block}
use Rattle.il_code.specs.declared.types.IlParam.{IlParam}
use Rattle.il_code.specs.declared.types.Part.{Part}
use Rattle.il_code.specs.Tokens.{is_identifier}
use Rattle.il_code.specs.Shaped.{is_bits, is_part, is_param, is_block, ends, is_item, is_shaped}
use Rattle.il_code.specs.Print.{block_text, param_text, with_commas, parts_text, result_class_text, item_text, module_text}
use Rattle.il_read.specs.Recoverable.{is_aligned, IsRecoverable}
use Rattle.il_read.specs.Lists.{each}
use Rattle.il_read.specs.Items.{definition_at, item_at, begins_item, module_at}
use Rattle.il_read.proofs.ListsAgain.{length-flat_map, each_again}
use Rattle.il_read.proofs.FunctionsAgain.{function_again}
use Rattle.il_read.proofs.DataAgain.{data_again}

-- an item that can be read back
abbrev is_recoverable_item : IlItem → Bool
is_recoverable_item i = is_item i && is_aligned i

-- the text of an item that is not exported, behind its word and in front of a rest
abbrev definition_text : IlItem → List ℕ → List ℕ
definition_text (Data export name align ps) rest =
    codes "data " ++ 36 ∷ (name ++ (codes " = align " ++ (decimal align ++ 32 ∷ (parts_text ps ++ 10 ∷ rest))))
definition_text (Function export class name params bs) rest =
    codes "function " ++ (result_class_text class ++ 36 ∷
    (name ++ 40 ∷ (with_commas param_text params ++ 41 ∷ (codes " {\n" ++ (flat_map block_text bs ++ (codes "}\n" ++ rest))))))

data_definition : (export : Bool) (name : List ℕ) (align : ℕ) (ps : List Part) (rest : List ℕ) →
    is_recoverable_item (Data export name align ps) ≡ true →
    definition_at export (definition_text (Data export name align ps) rest) ≡ Some (Data export name align ps, rest)
unfolding definition_at
data_definition export name align ps rest h =
    let k = and_parts (is_item (Data export name align ps)) (nat_lt align (2 ^ 32)) h in
    let p = and_parts (is_identifier name) (is_bits align && list_all is_part ps) k.0 in
    let q = and_parts (is_bits align) (list_all is_part ps) p.1 in
    data_again export name align ps rest p.0 q.0 k.1 q.1

function_definition : (export : Bool) (class : Option Class) (name : List ℕ) (params : List IlParam) (bs : List Block) (rest : List ℕ) →
    is_recoverable_item (Function export class name params bs) ≡ true →
    definition_at export (definition_text (Function export class name params bs) rest) ≡ Some (Function export class name params bs, rest)
unfolding definition_at
function_definition export class name params bs rest h =
    let k = and_parts (is_item (Function export class name params bs)) true h in
    let p = and_parts (is_identifier name) (list_all is_param params && (list_all is_block bs && ends bs)) k.0 in
    let q = and_parts (list_all is_param params) (list_all is_block bs && ends bs) p.1 in
    function_again export class name params bs rest p.0 q.0 (and_parts (list_all is_block bs) (ends bs) q.1).0

item_again : (i : IlItem) (rest : List ℕ) → is_recoverable_item i ≡ true → Unit {0} → item_at (item_text i ++ rest) ≡ Some (i, rest)
unfolding item_at
item_again (Data true name align ps) rest h u =
    let text : item_text (Data true name align ps) ++ rest ≡ codes "export " ++ definition_text (Data true name align ps) rest =
    simp append_assoc in
    ap item_at text ∙ data_definition true name align ps rest h
item_again (Data false name align ps) rest h u =
    let text : item_text (Data false name align ps) ++ rest ≡ definition_text (Data false name align ps) rest = simp append_assoc in
    ap item_at text ∙ data_definition false name align ps rest h
item_again (Function true class name params bs) rest h u =
    let text : item_text (Function true class name params bs) ++ rest ≡
    codes "export " ++ definition_text (Function true class name params bs) rest = simp append_assoc in
    ap item_at text ∙ function_definition true class name params bs rest h
item_again (Function false class name params bs) rest h u =
    let text : item_text (Function false class name params bs) ++ rest ≡ definition_text (Function false class name params bs) rest =
    simp append_assoc in
    ap item_at text ∙ function_definition false class name params bs rest h

some_item : (i : IlItem) → 0 < length (item_text i)
some_item (Data true name align ps) = omega arith
some_item (Data false name align ps) = omega arith
some_item (Function true class name params bs) = omega arith
some_item (Function false class name params bs) = omega arith

item_begins : (i : IlItem) (rest : List ℕ) → is_recoverable_item i ≡ true → begins_item (item_text i ++ rest) ≡ true
item_begins (Data true name align ps) rest h = refl
item_begins (Data false name align ps) rest h = refl
item_begins (Function true class name params bs) rest h = refl
item_begins (Function false class name params bs) rest h = refl

both_all : (is : List IlItem) → list_all is_item is ≡ true → list_all is_aligned is ≡ true → list_all is_recoverable_item is ≡ true
both_all [] h k = refl
both_all (i ∷ is) h k =
    let p = and_parts (is_item i) (list_all is_item is) h in
    let q = and_parts (is_aligned i) (list_all is_aligned is) k in
    let shaped = p.0 in
    let aligned = q.0 in
    rw (shaped, aligned) (both_all is p.1 q.1)

items_again : (is : List IlItem) → list_all is_recoverable_item is ≡ true → module_at (flat_map item_text is) ≡ Some (record { items = is })
unfolding module_at
items_again is h =
    let text = flat_map item_text is in
    let all = each_again item_at begins_item item_text is_recoverable_item (λ r. Unit {0}) item_again item_begins (λ i r k. tt) is []
    (length text) h (length-flat_map item_text some_item is) tt refl in
    let whole : each item_at begins_item (length text) text ≡ Some (is, []) =
    ap (each item_at begins_item (length text)) (sym (append-nil text)) ∙ all in
    rw whole refl

-- a recoverable module is read from its text
pub module_again : (m : Module) → IsRecoverable m → module_at (module_text m) ≡ Some m
unfolding is_shaped
module_again m h = items_again m.items (both_all m.items h.shaped h.aligned)

-- another fault than want of memory
pub no_memory : (e : Stop NotPrinted) (x : NotPrinted) → e ≡ Fault x → e ≢ Memory
no_memory e x is = λ k. let both : Fault x ≡ Memory = sym is ∙ k in absurd (cc)

-- no recoverable module has a text that is read as none
pub module_none : (src : List ℕ) (m : Module) → module_at src ≡ None → IsRecoverable m → src ≡ module_text m → ⊥
module_none src m none h e = none-some m (sym none ∙ (ap module_at e ∙ module_again m h))

-- the module that is read is the recoverable one
pub module_some : (src : List ℕ) (x m : Module) → module_at src ≡ Some x → IsRecoverable m → src ≡ module_text m → x ≡ m
module_some src x m found h e = same_Some x m (sym found ∙ (ap module_at e ∙ module_again m h))

-- so its text is the one that was read
pub module_text-again : (src : List ℕ) (x m : Module) → module_at src ≡ Some x → IsRecoverable m → src ≡ module_text m → module_text x ≡ src
module_text-again src x m found h e = ap module_text (module_some src x m found h e) ∙ sym e
