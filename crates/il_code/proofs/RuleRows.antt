-- The rules of docs/IL.md, met and broken by small modules. `valid` tells which modules are valid by its contract; here the definition is
-- computed.
use Rattle.std.proofs.Common.{◌≡◌, ℕ, Bool, true, false, ◌&&◌, List, [], ◌∷◌, ◌++◌, Option, Some, None, refl, codes}
use Rattle.std.specs.Prelude.{map}
use Rattle.std.specs.List.{list_all, list_any}
use Rattle.hx_base.specs.declared.Class.{Class}
use Rattle.hx_base.specs.declared.Class.TheVariants.{W, L}
use Rattle.il_code.specs.declared.op.IlOp.TheVariants.{Copy, Extsw}
use Rattle.il_code.specs.declared.types.IlItem.{IlItem}
use Rattle.il_code.specs.declared.types.IlItem.TheVariants.{Function}
use Rattle.il_code.specs.declared.types.Block.{Block}
use Rattle.il_code.specs.declared.types.IlValue.{IlValue}
use Rattle.il_code.specs.declared.types.IlValue.TheVariants.{Number, Symbol}
use Rattle.il_code.specs.declared.types.Inst.{Inst}
use Rattle.il_code.specs.declared.types.Inst.TheVariants.{Store, Blit, Call}
use Rattle.il_code.specs.declared.types.Jump.{Jump}
use Rattle.il_code.specs.declared.types.Jump.TheVariants.{Fall, Jmp, Jnz, Ret, Hlt}
use Rattle.il_code.specs.declared.types.Part.TheVariants as part
use Rattle.il_code.specs.declared.types.PartValue.{PartValue}
use Rattle.il_code.specs.declared.types.PartValue.TheVariants as value
use Rattle.il_code.specs.Rules.{is_runtime_call, call_is_right}
use Rattle.il_code.specs.Shaped.{is_shaped, is_lawful}
use Rattle.il_code.proofs.RunModules.{block, only_block, param, arg, phi, phi_arg, main, data_item, one, temp}

-- a module of these items is shaped and keeps the rules, which is to be valid (Validates)
abbrev passes : List IlItem → Bool
passes items = is_shaped (record { items = items }) && is_lawful items

-- each of these lists of items is a valid module
abbrev right : List (List IlItem) → Type 0
right rows = list_all passes rows ≡ true

-- none of them is
abbrev wrong : List (List IlItem) → Type 0
wrong rows = list_any passes rows ≡ false

abbrev x : List ℕ
x = codes "x"

-- `$main` of these blocks
abbrev runs_blocks : List Block → List IlItem
runs_blocks blocks = main None blocks ∷ []

-- `$main` of these instructions
abbrev runs_insts : List Inst → List IlItem
runs_insts insts = runs_blocks (only_block insts Hlt)

-- an item beside `$main`
abbrev beside : IlItem → List IlItem
beside i = i ∷ runs_insts []

abbrev number : IlValue
number = Number 1

-- ---- names

-- two data items of these names beside `$main`
abbrev names : List ℕ → List ℕ → List IlItem
names n m = data_item n 8 [] ∷ runs_insts [] ++ data_item m 8 [] ∷ []

names_right : right (names (codes "a") (codes "b") ∷ names (codes "a") (codes "A") ∷ names (codes "rt") (codes "b") ∷ [])
unfolding is_shaped is_lawful is_runtime_call call_is_right
names_right = refl

names_wrong : wrong (names (codes "a") (codes "a") ∷ names (codes "a") (codes "main") ∷ names (codes "rt.a") (codes "b") ∷ [])
unfolding is_shaped is_lawful is_runtime_call call_is_right
names_wrong = refl

-- two parameters, and two labels behind the first
abbrev params : List ℕ → List ℕ → List IlItem
params p q = beside (Function false None (codes "f") (param L p ∷ param L q ∷ []) (only_block [] Hlt))

abbrev labels : List ℕ → List ℕ → List IlItem
labels p q = runs_blocks (block (codes "start") [] [] Fall ∷ block p [] [] Fall ∷ block q [] [] Hlt ∷ [])

differ_right : right (params (codes "p") (codes "q") ∷ labels (codes "a") (codes "b") ∷ [])
unfolding is_shaped is_lawful is_runtime_call call_is_right
differ_right = refl

differ_wrong : wrong (params (codes "p") (codes "p") ∷ labels (codes "a") (codes "a") ∷ labels (codes "a") (codes "start") ∷ [])
unfolding is_shaped is_lawful is_runtime_call call_is_right
differ_wrong = refl

-- `$main` of class w returns a number; it has no parameter, is not of class l, and is no data
main_right : right ((main (Some W) (only_block [] (Ret (Some number))) ∷ []) ∷ [])
unfolding is_shaped is_lawful is_runtime_call call_is_right
main_right = refl

main_wrong : wrong (
    (main (Some L) (only_block [] (Ret (Some number))) ∷ []) ∷
    (Function true None (codes "main") (param W (codes "p") ∷ []) (only_block [] Hlt) ∷ [])
    ∷ (data_item (codes "main") 8 [] ∷ []) ∷ (data_item (codes "a") 8 [] ∷ []) ∷ [])
unfolding is_shaped is_lawful is_runtime_call call_is_right
main_wrong = refl

-- ---- jumps and phis

-- a jump of the first block, and of the second, which is named `next`
abbrev first_jump : Jump → List IlItem
first_jump j = runs_blocks (block (codes "start") [] [] j ∷ block (codes "next") [] [] Hlt ∷ [])

abbrev later_jump : Jump → List IlItem
later_jump j = runs_blocks (block (codes "start") [] [] Fall ∷ block (codes "next") [] [] j ∷ [])

abbrev four_jumps : List ℕ → List (List IlItem)
four_jumps to = first_jump (Jmp to) ∷ later_jump (Jmp to) ∷ first_jump (Jnz number to (codes "next")) ∷ later_jump
    (Jnz number (codes "next") to) ∷ []

jumps_right : right (four_jumps (codes "next") ++ later_jump (Ret None) ∷ [])
unfolding is_shaped is_lawful is_runtime_call call_is_right
jumps_right = refl

jumps_wrong : wrong (four_jumps (codes "nowhere") ++ four_jumps (codes "start") ++ later_jump Fall ∷ [])
unfolding is_shaped is_lawful is_runtime_call call_is_right
jumps_wrong = refl

-- `start` and `side` go to `join`, which has a phi with an argument for each of these labels
abbrev joins : List (List ℕ) → List IlItem
joins ls = runs_blocks (block (codes "start") [] [] (Jnz number (codes "side") (codes "join")) ∷ block (codes "side") [] [] Fall ∷ block
    (codes "join") (phi x W (map (λ l. phi_arg l number) ls) ∷ []) [] Hlt ∷ [])

phis_right : right (joins (codes "start" ∷ codes "side" ∷ []) ∷ joins (codes "side" ∷ codes "start" ∷ []) ∷ [])
unfolding is_shaped is_lawful is_runtime_call call_is_right
phis_right = refl

-- the last has a phi in the first block
phis_wrong : wrong (
    joins [] ∷ joins (codes "start" ∷ []) ∷ joins (codes "side" ∷ []) ∷ joins (codes "start" ∷ codes "side" ∷ codes "side" ∷ []) ∷ joins
    (codes "start" ∷ codes "side" ∷ codes "join" ∷ [])
    ∷ joins (codes "start" ∷ codes "side" ∷ codes "nowhere" ∷ []) ∷ runs_blocks
    (block (codes "start") (phi x W (phi_arg (codes "start") number ∷ []) ∷ []) [] Hlt ∷ []) ∷ [])
unfolding is_shaped is_lawful is_runtime_call call_is_right
phis_wrong = refl

-- ---- operands

-- a word and a long that are set
abbrev both_set : List Inst
both_set = one (codes "w") W Copy number ∷ one (codes "l") L Copy number ∷ []

-- a value as an operand at class l: in the first block and in a later one, as an address, in a phi, as an argument and as what is returned
abbrev six_places : IlValue → List (List IlItem)
six_places v =
    runs_insts (both_set ++ one x L Copy v ∷ [])
    ∷ runs_blocks (block (codes "start") [] both_set Fall ∷ block (codes "next") [] (one x L Copy v ∷ []) Hlt ∷ [])
    ∷ runs_insts (both_set ++ Store 4 number v ∷ [])
    ∷ runs_blocks (block (codes "start") [] both_set Fall ∷ block (codes "next") (phi x L (phi_arg (codes "start") v ∷ []) ∷ []) [] Hlt ∷
    [])
    ∷ runs_insts (both_set ++ Call None (codes "rt.free") (arg L v ∷ []) ∷ [])
    ∷ beside (Function false (Some L) (codes "f") [] (only_block both_set (Ret (Some v)))) ∷ []

longs_right : right (six_places number ++ six_places (temp (codes "l")) ++ six_places (Symbol (codes "main")))
unfolding is_shaped is_lawful is_runtime_call call_is_right
longs_right = refl

longs_wrong : wrong (six_places (temp (codes "w")) ++ six_places (temp (codes "u")) ++ six_places (Symbol (codes "u")))
unfolding is_shaped is_lawful is_runtime_call call_is_right
longs_wrong = refl

-- a condition, which is an operand at class w
abbrev condition : IlValue → List IlItem
condition v = runs_blocks (block (codes "start") [] both_set (Jnz v (codes "next") (codes "next")) ∷ block (codes "next") [] [] Hlt ∷ [])

words_right : right (condition number ∷ condition (temp (codes "w")) ∷ condition (temp (codes "l")) ∷ [])
unfolding is_shaped is_lawful is_runtime_call call_is_right
words_right = refl

words_wrong : wrong (condition (temp (codes "u")) ∷ condition (Symbol (codes "main")) ∷ [])
unfolding is_shaped is_lawful is_runtime_call call_is_right
words_wrong = refl

-- a temporary has one class, which its operation gives
abbrev set_twice : Class → Class → List IlItem
set_twice c d = runs_insts (one x c Copy number ∷ one x d Copy number ∷ [])

classes_right : right (set_twice L L ∷ set_twice W W ∷ runs_insts (one x L Extsw number ∷ []) ∷ [])
unfolding is_shaped is_lawful is_runtime_call call_is_right
classes_right = refl

classes_wrong : wrong (set_twice L W ∷ set_twice W L ∷ runs_insts (one x W Extsw number ∷ []) ∷ [])
unfolding is_shaped is_lawful is_runtime_call call_is_right
classes_wrong = refl

-- ---- calls and returns

-- a call in `$main`, beside `$f` with one long, which gives a word, and data `$d`
abbrev calls : Inst → List IlItem
calls c = Function false (Some W) (codes "f") (param L (codes "p") ∷ []) (only_block [] Hlt) ∷ data_item (codes "d") 8 [] ∷ runs_insts
    (c ∷ [])

-- a call with these classes of arguments
abbrev dropped : List ℕ → List Class → List IlItem
dropped target classes = calls (Call None target (map (λ c. arg c number) classes))

abbrev taken : Class → List IlItem
taken c = calls (Call (Some (param c x)) (codes "f") (arg L number ∷ []))

calls_right : right (dropped (codes "f") (L ∷ []) ∷ taken W ∷ dropped (codes "rt.exit") (W ∷ []) ∷ [])
unfolding is_shaped is_lawful is_runtime_call call_is_right
calls_right = refl

calls_wrong : wrong (
    dropped (codes "f") (W ∷ []) ∷ taken L ∷ dropped (codes "f") [] ∷ dropped (codes "f") (L ∷ L ∷ []) ∷ dropped (codes "rt.exit") (L ∷ [])
    ∷ dropped (codes "rt.nargs") (L ∷ [])
    ∷ dropped (codes "rt.none") (L ∷ []) ∷ dropped (codes "u") (L ∷ []) ∷ dropped (codes "d") (L ∷ []) ∷ [])
unfolding is_shaped is_lawful is_runtime_call call_is_right
calls_wrong = refl

-- a function of a class, if it has one, that returns a value, if there is one
abbrev returns : Option Class → Option IlValue → List IlItem
returns class v = beside (Function false class (codes "f") [] (only_block [] (Ret v)))

returns_right : right (returns None None ∷ returns (Some W) (Some number) ∷ [])
unfolding is_shaped is_lawful is_runtime_call call_is_right
returns_right = refl

returns_wrong : wrong (returns None (Some number) ∷ returns (Some W) None ∷ returns (Some W) (Some (Symbol (codes "f"))) ∷ [])
unfolding is_shaped is_lawful is_runtime_call call_is_right
returns_wrong = refl

-- ---- data and numbers

-- a value in a part of some width
abbrev valued : ℕ → PartValue → List IlItem
valued width v = beside (data_item (codes "a") 8 (part.Values width (v ∷ []) ∷ []))

-- data of some alignment
abbrev aligned : ℕ → List IlItem
aligned n = beside (data_item (codes "a") n [])

data_right : right (
    map (λ n. valued n (value.Number 1)) (1 ∷ 2 ∷ 4 ∷ 8 ∷ []) ++ valued 1 (value.Str (codes "a b")) ∷ valued 8
    (value.Symbol (codes "main") 8) ∷ map aligned (1 ∷ 2 ∷ 4 ∷ 8 ∷ 16 ∷ []))
unfolding is_shaped is_lawful is_runtime_call call_is_right
data_right = refl

data_wrong : wrong (
    map (λ n. valued n (value.Number 1)) (0 ∷ 3 ∷ []) ++ valued 2 (value.Str (codes "ab")) ∷ valued 1 (value.Str (34 ∷ [])) ∷ valued 4
    (value.Symbol (codes "main") 8) ∷ valued 8 (value.Symbol (codes "u") 8)
    ∷ map aligned (0 ∷ 3 ∷ 12 ∷ 32 ∷ []))
unfolding is_shaped is_lawful is_runtime_call call_is_right
data_wrong = refl

-- two data items of so many zeros, and a copy of so many bytes
abbrev zeros : ℕ → ℕ → List IlItem
zeros n m = data_item (codes "a") 8 (part.Zero n ∷ []) ∷ data_item (codes "b") 8 (part.Zero m ∷ []) ∷ runs_insts []

abbrev copied : ℕ → List IlItem
copied n = runs_insts (Blit (Number 0) (Number 0) n ∷ [])

sizes_right : right (zeros 1073741824 0 ∷ zeros 1073741823 1 ∷ copied 1073741824 ∷ [])
unfolding is_shaped is_lawful is_runtime_call call_is_right
sizes_right = refl

sizes_wrong : wrong (zeros 1073741825 0 ∷ zeros 1073741824 1 ∷ zeros 18446744073709551615 1 ∷ copied 1073741825 ∷ [])
unfolding is_shaped is_lawful is_runtime_call call_is_right
sizes_wrong = refl
