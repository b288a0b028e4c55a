-- Where the items of a module stand, one behind the other.
use Rattle.std.proofs.Common.{◌≡◌, ℕ, ◌+◌, Bool, true, false, List, [], ◌∷◌, ◌++◌, Some, refl, sym, ap, ◌∙◌, subst, cond, arith}
use Rattle.std.specs.Prelude.{◌==◌, bytes_eq, count_by}
use Rattle.std.specs.List.{list_all}
use Rattle.std.proofs.lemmas.Bool.{and_parts}
use Rattle.std.proofs.lemmas.Bool.Decides.{nat_tests}
use Rattle.std.proofs.lemmas.List.Sums.{sum_by-append, sum_by-cons}
use Rattle.std.proofs.lemmas.Slice.Eq.{bytes_eq-Decides}
use Rattle.hx_base.specs.Memory.{round_up}
use Rattle.hx_base.specs.Runtime.{lookup, or_zero, functions_start, function_step, data_start}
use Rattle.il_code.specs.declared.types.IlItem.{IlItem}
use Rattle.il_code.specs.declared.types.IlItem.TheVariants.{Data, Function}
use Rattle.il_code.specs.declared.types.Module.{Module}
use Rattle.il_code.specs.Addresses.{address, symbols_from, data_size}
use Rattle.il_code.specs.Items.{item_name}
use Rattle.il_code.specs.Rules.{IsValid, are_distinct, how_many}

-- where the functions and the data behind some items stand
abbrev pub functions_after : ℕ → List IlItem → ℕ
functions_after f [] = f
functions_after f (Function export class name params blocks ∷ items) = functions_after (f + function_step) items
functions_after f (Data export name align parts ∷ items) = functions_after f items

abbrev pub data_after : ℕ → List IlItem → ℕ
data_after d [] = d
data_after d (Function export class name params blocks ∷ items) = data_after d items
data_after d (Data export name align parts ∷ items) = data_after (round_up d align + data_size parts) items

pub data_after-append : (d : ℕ) (front rest : List IlItem) → data_after d (front ++ rest) ≡ data_after (data_after d front) rest
data_after-append d [] rest = refl
data_after-append d (Function export class name params blocks ∷ front) rest = data_after-append d front rest
data_after-append d (Data export name align parts ∷ front) rest = data_after-append (round_up d align + data_size parts) front rest

-- where an item itself stands
abbrev pub own : ℕ → ℕ → IlItem → ℕ
own f d (Data export name align parts) = round_up d align
own f d (Function export class name params blocks) = f

-- ---- an item by its name

abbrev one_if : Bool → ℕ
one_if b = cond b 1 0

abbrev Named : List ℕ → List IlItem → ℕ
Named name items = count_by (λ i. bytes_eq (item_name i) name) items

bytes_eq-self : (name : List ℕ) → bytes_eq name name ≡ true
bytes_eq-self name = grind (arith, bytes_eq-Decides)

-- the symbols of an item and those behind
symbols-cons : (f d : ℕ) (i : IlItem) (items : List IlItem) →
    symbols_from f d (i ∷ items) ≡ (item_name i, own f d i) ∷ symbols_from (functions_after f (i ∷ [])) (data_after d (i ∷ [])) items
symbols-cons f d (Data export name align parts) items = refl
symbols-cons f d (Function export class name params blocks) items = refl

functions-cons : (f : ℕ) (i : IlItem) (items : List IlItem) →
    functions_after f (i ∷ items) ≡ functions_after (functions_after f (i ∷ [])) items
functions-cons f (Data export name align parts) items = refl
functions-cons f (Function export class name params blocks) items = refl

data-cons : (d : ℕ) (i : IlItem) (items : List IlItem) → data_after d (i ∷ items) ≡ data_after (data_after d (i ∷ [])) items
data-cons d (Data export name align parts) items = refl
data-cons d (Function export class name params blocks) items = refl

lookup-here : (f d : ℕ) (i : IlItem) (items : List IlItem) → lookup (item_name i) (symbols_from f d (i ∷ items)) ≡ Some (own f d i)
lookup-here f d i items = ap (lookup (item_name i)) (symbols-cons f d i items) ∙ rw (bytes_eq-self (item_name i)) refl

named-cons : (name : List ℕ) (i : IlItem) (items : List IlItem) →
    Named name (i ∷ items) ≡ one_if (bytes_eq (item_name i) name) + Named name items
named-cons name i items = sum_by-cons (λ (x : IlItem). one_if (bytes_eq (item_name x) name)) i items

-- where none in front has its name, an item's symbol is its own
lookup-behind : (f d : ℕ) (front : List IlItem) (i : IlItem) (rest : List IlItem) → Named (item_name i) front ≡ 0 →
    lookup (item_name i) (symbols_from f d (front ++ i ∷ rest)) ≡ Some (own (functions_after f front) (data_after d front) i)
lookup-behind f d [] i rest none = lookup-here f d i rest
lookup-behind f d (j ∷ front) i rest none =
    ap (lookup (item_name i)) (symbols-cons f d j (front ++ i ∷ rest))
    ∙ pick (lookup-behind f' d' front i rest) (bytes_eq (item_name j) (item_name i)) refl
    ∙ ap (λ (n : ℕ). Some (own n (data_after (data_after d (j ∷ [])) front) i)) (sym (functions-cons f j front))
    ∙ ap (λ (n : ℕ). Some (own (functions_after f (j ∷ front)) n i)) (sym (data-cons d j front))
  where
    count : one_if (bytes_eq (item_name j) (item_name i)) + Named (item_name i) front ≡ 0
    count = sym (named-cons (item_name i) j front) ∙ none

    f' : ℕ
    f' = functions_after f (j ∷ [])

    d' : ℕ
    d' = data_after d (j ∷ [])

    pick : (Named (item_name i) front ≡ 0 → lookup (item_name i) (symbols_from f' d' (front ++ i ∷ rest))
        ≡ Some (own (functions_after f' front) (data_after d' front) i)) → (b : Bool) → bytes_eq (item_name j) (item_name i) ≡ b →
        lookup (item_name i) ((item_name j, own f d j) ∷ symbols_from f' d' (front ++ i ∷ rest))
        ≡ Some (own (functions_after f' front) (data_after d' front) i)
    pick ih true e = absurd (let c = rw e at count in omega (arith, c))
    pick ih false e =
        let c : Named (item_name i) front ≡ 0 = (let c = rw e at count in omega (arith, c)) in
        rw e (ih c)

-- of distinct names none stands in front
none-front : (front : List IlItem) (i : IlItem) (rest : List IlItem) → how_many item_name (item_name i) (front ++ i ∷ rest) ≡ 1 →
    Named (item_name i) front ≡ 0
none-front front i rest one =
    let whole = sum_by-append (λ (x : IlItem). one_if (bytes_eq (item_name x) (item_name i))) front (i ∷ rest) in
    let here = named-cons (item_name i) i rest in
    let self : one_if (bytes_eq (item_name i) (item_name i)) ≡ 1 = ap one_if (bytes_eq-self (item_name i)) in
    omega (arith, whole, here, self, one)

pub each-passes : (p : IlItem → Bool) (front : List IlItem) (i : IlItem) (rest : List IlItem) → list_all p (front ++ i ∷ rest) ≡ true →
    p i ≡ true
each-passes p [] i rest h = (and_parts (p i) (list_all p rest) h).0
each-passes p (j ∷ front) i rest h = each-passes p front i rest (and_parts (p j) (list_all p (front ++ i ∷ rest)) h).1

pub own_address : (m : Module) (front : List IlItem) (i : IlItem) (rest : List IlItem) → IsValid m → m.items ≡ front ++ i ∷ rest →
    address m (item_name i) ≡ own (functions_after functions_start front) (data_after data_start front) i
own_address m front i rest v e =
    let once : are_distinct item_name (front ++ i ∷ rest) ≡ true =
    subst (λ (items : List IlItem). are_distinct item_name items ≡ true) e v.lawful.once in
    let test = each-passes (λ x. how_many item_name (item_name x) (front ++ i ∷ rest) == 1) front i rest once in
    let one : how_many item_name (item_name i) (front ++ i ∷ rest) ≡ 1 = grind (arith, nat_tests) in
    ap (λ (items : List IlItem). or_zero (lookup (item_name i) (symbols_from functions_start data_start items))) e
    ∙ ap or_zero (lookup-behind functions_start data_start front i rest (none-front front i rest one))
