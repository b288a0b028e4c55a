-- Blocks of which each begins where it must: at the label of the first, or at one that a jump names.
use Rattle.std.specs.Prelude.{ℕ, Bool, true, false, not, ◌&&◌, ◌||◌, List, [], ◌∷◌, ◌++◌, map, Option, None, Some, is_some, if◌then◌else◌}
use Rattle.std.specs.List.{list_any}
use Rattle.hx_base.specs.Runtime.{lookup}
use Rattle.hx_table.specs.Tables.{with_entry}
use Rattle.hx_base.specs.declared.Class.{Class}
use Rattle.il_code.specs.declared.op.IlOp.TheVariants.{Copy}
use Rattle.il_code.specs.declared.types.Block.{Block}
use Rattle.il_code.specs.declared.types.IlItem.{IlItem}
use Rattle.il_code.specs.declared.types.IlItem.TheVariants.{Data, Function}
use Rattle.il_code.specs.declared.types.IlArg.{IlArg}
use Rattle.il_code.specs.declared.types.IlParam.{IlParam}
use Rattle.il_code.specs.declared.types.IlValue.{IlValue}
use Rattle.il_code.specs.declared.types.IlValue.TheVariants.{Number, Temp, Symbol}
use Rattle.il_code.specs.declared.types.Inst.{Inst}
use Rattle.il_code.specs.declared.types.Inst.TheVariants.{Set, Store, Blit, Call}
use Rattle.il_code.specs.declared.types.Jump.{Jump}
use Rattle.il_code.specs.declared.types.Jump.TheVariants.{Fall, Jmp, Jnz, Ret, Hlt}
use Rattle.il_code.specs.declared.types.Module.{Module}
use Rattle.il_code.specs.Rules.{targets_pass}
use Rattle.il_code.specs.Shaped.{falls}

-- ---- blocks that begin at some labels

-- a block with what control falls into behind it
abbrev pub joined : Block → Block → Block
joined a b = record a { insts = a.insts ++ b.insts; jump = b.jump }

-- Blocks, and one more that does not begin: it is joined to the last of them where control falls into it, and else dropped.
abbrev pub with_joined : List Block → Block → List Block
with_joined [] b = []
with_joined (a ∷ []) b = (if falls a.jump then joined a b else a) ∷ []
with_joined (a ∷ c ∷ bs) b = a ∷ with_joined (c ∷ bs) b

-- blocks, and one more, by whether it begins
abbrev pub with_block : List Block → Bool → Block → List Block
with_block out true b = out ++ b ∷ []
with_block out false b = with_joined out b

-- the same with each of some blocks in turn, by whether they begin. One of which that is not said begins.
abbrev pub with_blocks : List Block → List Bool → List Block → List Block
with_blocks out begins [] = out
with_blocks out [] (b ∷ bs) = with_blocks (with_block out true b) [] bs
with_blocks out (begin ∷ begins) (b ∷ bs) = with_blocks (with_block out begin b) begins bs

-- ---- which labels stay

-- names, each of which stands once
abbrev pub Known : Type 0
Known = List (List ℕ × Unit {0})

abbrev pub is_known : Known → List ℕ → Bool
is_known known l = is_some (lookup l known)

abbrev pub with_name : Known → List ℕ → Known
with_name known l = with_entry known l tt

abbrev pub with_targets : Known → Jump → Known
with_targets known Fall = known
with_targets known (Jmp l) = with_name known l
with_targets known (Jnz v a b) = with_name (with_name known a) b
with_targets known (Ret v) = known
with_targets known Hlt = known

-- labels, and all that is named by blocks to which control comes when they are gone through once
abbrev pub wanted_from : Known → (into : Bool) → List Block → Known
wanted_from known into [] = known
wanted_from known into (b ∷ bs) =
    if into || is_known known b.label
    then wanted_from (with_targets known b.jump) (falls b.jump) bs
    else wanted_from known false bs

-- a jump that stays names only labels that do
abbrev pub is_closed : (List ℕ → Bool) → (into : Bool) → List Block → Bool
is_closed stays into [] = true
is_closed stays into (b ∷ bs) =
    if into || stays b.label
    then targets_pass stays b.jump && is_closed stays (falls b.jump) bs
    else is_closed stays false bs

-- the same when they are gone through again and again, until nothing more is named
abbrev pub closed_from : (turns : List Block) → Known → List Block → Known
closed_from [] known bs = known
closed_from (t ∷ turns) known bs = if is_closed (is_known known) false bs then known else closed_from turns (wanted_from known false bs) bs

-- the labels of a function that stay: that of its first block, and those that are named where control comes from there
abbrev pub wanted : List Block → Known
wanted [] = []
wanted (first ∷ rest) = closed_from (first ∷ rest) (wanted_from (with_name [] first.label) false (first ∷ rest)) (first ∷ rest)

-- of some blocks those that stay: those with these labels, and those that control falls into
abbrev pub reached : (List ℕ → Bool) → (into : Bool) → List Block → List Block
reached stays into [] = []
reached stays into (b ∷ bs) = if into || stays b.label then b ∷ reached stays (falls b.jump) bs else reached stays false bs

-- the others
abbrev pub dropped : (List ℕ → Bool) → (into : Bool) → List Block → List Block
dropped stays into [] = []
dropped stays into (b ∷ bs) = if into || stays b.label then dropped stays (falls b.jump) bs else b ∷ dropped stays false bs

-- which blocks begin, where some labels stay
abbrev pub begins : (List ℕ → Bool) → List Block → List Bool
begins stays bs = map (λ (b : Block). stays b.label) bs

-- ---- what temporaries are set

-- an instruction that sets a temporary
abbrev pub assigns : Inst → Bool
assigns (Set temp class op a b) = true
assigns (Store width value at) = false
assigns (Blit from to bytes) = false
assigns (Call None target args) = false
assigns (Call (Some p) target args) = true

abbrev pub block_assigns : Block → Bool
block_assigns b = list_any assigns b.insts

-- what does not stay sets no temporary
abbrev pub keeps_settings : (List ℕ → Bool) → (into : Bool) → List Block → Bool
keeps_settings stays into [] = true
keeps_settings stays into (b ∷ bs) =
    if into || stays b.label
    then keeps_settings stays (falls b.jump) bs
    else not (block_assigns b) && keeps_settings stays false bs

abbrev pub with_setting : Known → Inst → Known
with_setting known (Set temp class op a b) = with_name known temp
with_setting known (Store width value at) = known
with_setting known (Blit from to bytes) = known
with_setting known (Call None target args) = known
with_setting known (Call (Some p) target args) = with_name known p.name

abbrev pub with_settings : Known → List Inst → Known
with_settings known [] = known
with_settings known (i ∷ is) = with_settings (with_setting known i) is

abbrev pub with_all_settings : Known → List Block → Known
with_all_settings known [] = known
with_all_settings known (b ∷ bs) = with_all_settings (with_settings known b.insts) bs

abbrev pub with_params : Known → List IlParam → Known
with_params known [] = known
with_params known (p ∷ ps) = with_params (with_name known p.name) ps

-- the temporaries that parameters and what stays set
abbrev pub set_by : List IlParam → (List ℕ → Bool) → List Block → Known
set_by params stays bs = with_all_settings (with_params [] params) (reached stays false bs)

-- ---- what temporaries are read

abbrev pub with_value : Known → IlValue → Known
with_value known (Number n) = known
with_value known (Temp t) = with_name known t
with_value known (Symbol s) = known

abbrev pub with_option : Known → Option IlValue → Known
with_option known None = known
with_option known (Some v) = with_value known v

abbrev pub with_args : Known → List IlArg → Known
with_args known [] = known
with_args known (a ∷ args) = with_args (with_value known a.value) args

abbrev pub with_inst : Known → Inst → Known
with_inst known (Set temp class op a b) = with_option (with_value known a) b
with_inst known (Store width value at) = with_value (with_value known value) at
with_inst known (Blit from to bytes) = with_value (with_value known from) to
with_inst known (Call result target args) = with_args known args

abbrev pub with_insts : Known → List Inst → Known
with_insts known [] = known
with_insts known (i ∷ is) = with_insts (with_inst known i) is

abbrev pub with_jump : Known → Jump → Known
with_jump known Fall = known
with_jump known (Jmp l) = known
with_jump known (Jnz v a b) = with_value known v
with_jump known (Ret v) = with_option known v
with_jump known Hlt = known

abbrev pub with_reads : Known → List Block → Known
with_reads known [] = known
with_reads known (b ∷ bs) = with_reads (with_jump (with_insts known b.insts) b.jump) bs

-- the temporaries that what stays reads
abbrev pub read_by : (List ℕ → Bool) → List Block → Known
read_by stays bs = with_reads [] (reached stays false bs)

-- ---- temporaries that are read, and that only what is dropped sets

-- a setting of a temporary to 0
abbrev pub zero : List ℕ → Class → Inst
zero temp class = Set temp class Copy (Number 0) None

-- one of a temporary that is read and not set yet
abbrev pub lacking_one : (read set : Known) → List ℕ → Class → List Inst
lacking_one read set temp class = if is_known read temp && not (is_known set temp) then zero temp class ∷ [] else []

-- of the temporary that an instruction sets
abbrev pub lacking_at : (read set : Known) → Inst → List Inst
lacking_at read set (Set temp class op a b) = lacking_one read set temp class
lacking_at read set (Store width value at) = []
lacking_at read set (Blit from to bytes) = []
lacking_at read set (Call None target args) = []
lacking_at read set (Call (Some p) target args) = lacking_one read set p.name p.class

-- those of all that instructions set, each once
abbrev pub lacking : (read set : Known) → List Inst → List Inst
lacking read set [] = []
lacking read set (i ∷ is) = lacking_at read set i ++ lacking read (with_setting set i) is

abbrev pub all_lacking : (read set : Known) → List Block → List Inst
all_lacking read set [] = []
all_lacking read set (b ∷ bs) = lacking read set b.insts ++ all_lacking read (with_settings set b.insts) bs

-- control does not fall out of blocks, of which there are some, where it does not fall into them
abbrev pub stops : (stopped : Bool) → List Block → Bool
stops stopped [] = stopped
stops stopped (b ∷ bs) = stops (not (falls b.jump)) bs

-- a block of these instructions with this label, if there are some
abbrev pub labelled : List ℕ → List Inst → List Block
labelled label [] = []
labelled label (i ∷ is) = record { label = label; phis = []; insts = i ∷ is; jump = Hlt } ∷ []

-- the same under the label of the first of some blocks
abbrev pub last_block : List Block → List Inst → List Block
last_block [] is = []
last_block (b ∷ bs) is = labelled b.label is

-- One block behind all that stays, where temporaries are read that only what is dropped sets: it sets these, and control does not come to
-- it. It stands under the label of the first block that is dropped.
abbrev pub unset : List IlParam → (List ℕ → Bool) → List Block → List Block
unset params stays bs =
    if stops false bs && not (keeps_settings stays false bs)
    then last_block (dropped stays false bs) (all_lacking (read_by stays bs) (set_by params stays bs) (dropped stays false bs))
    else []

-- ---- functions and modules

-- the labels of a function that stay
abbrev pub staying : List Block → List ℕ → Bool
staying bs = is_known (wanted bs)

-- the blocks of a function with these parameters, each of which begins where it must
abbrev pub tight : List IlParam → List Block → List Block
tight params bs = with_blocks [] (begins (staying bs) bs) bs ++ unset params (staying bs) bs

abbrev pub tight_item : IlItem → IlItem
tight_item (Data export name align parts) = Data export name align parts
tight_item (Function export class name params blocks) = Function export class name params (tight params blocks)

abbrev pub tight_module : Module → Module
tight_module m = record { items = map tight_item m.items }
