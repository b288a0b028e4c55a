-- A plain program for small texts: the module that pieces spell, or the number and the offset of the first fault that is found while they
-- are read.
use Rattle.std.proofs.Common.{ℕ, zero, suc, ◌+◌, List, [], ◌∷◌, Option, None, Some, Bool, true, false, not, ◌&&◌, nat_lt, codes, length, bytes_eq}
use Rattle.std.specs.Prelude.{if◌then◌else◌, is_some}
use Rattle.hx_base.specs.declared.Class.{Class}
use Rattle.il_code.specs.declared.types.Part.{Part}
use Rattle.il_code.specs.declared.types.Part.TheVariants.{Values, Zero}
use Rattle.il_code.specs.declared.types.PartValue.{PartValue}
use Rattle.il_code.specs.declared.types.PartValue.TheVariants as part
use Rattle.il_code.specs.declared.types.IlParam.{IlParam}
use Rattle.il_code.specs.Tokens.{IlToken, Word, TempName, SymbolName, LabelName, Numeral, Quoted, Mark, LineEnd}
use Rattle.il_code.specs.Rules.{most, is_alignment, value_size, part_size}
use Rattle.il_code.specs.Loose.{LooseItem, LooseData, LooseFunction}
use Rattle.il_code.proofs.TextPieces.{Piece, Whole, Far, Stray, End, choose}
use Rattle.il_code.proofs.TextTokens.{Reader, and_then, ◌>>=◌, done, stuck, expect, where_next, got, bad, Plain, HeadSite, only, is_the_mark, is_the_word, word_of, temp_of, symbol_of, number_of, mark, a_class, some_lines, listing}
use Rattle.il_code.proofs.TextLines.{checked_number, blocks}

-- ---- data

abbrev spaced : {A : Type 0} → Reader A → Reader A
spaced r = do
  x ← r
  _ ← some_lines
  done x

-- the next value takes so many bytes, after which the data may have passed its limit: the fault is at the part
abbrev within : {A : Type 0} → ℕ → ℕ → Reader A → Reader A
within at total more = λ s. choose (nat_lt most total) (λ _. bad 12 at) (λ _. more s)

abbrev offset_behind : Reader ℕ
offset_behind = where_next (is_the_mark 43) (do _ ← spaced (mark 43); spaced (expect Plain number_of)) (done 0)

pub data Kind : Type 0 where
  number_kind : ℕ → Kind
  string_kind : List ℕ → Kind
  symbol_kind : List ℕ → Kind

abbrev kind_of : IlToken → Option Kind
kind_of (Word w) = None
kind_of (TempName t) = None
kind_of (SymbolName s) = Some (symbol_kind s)
kind_of (LabelName l) = None
kind_of (Numeral n) = Some (number_kind n)
kind_of (Quoted b) = Some (string_kind b)
kind_of (Mark c) = None
kind_of LineEnd = None

abbrev value_behind : ℕ → ℕ → ℕ → Kind → Reader PartValue
value_behind at width total (number_kind n) = within at (total + width) (done (part.Number n))
value_behind at width total (string_kind b) = within at (total + length b) (done (part.Str b))
value_behind at width total (symbol_kind s) = within at (total + width) do
  n ← offset_behind
  done (part.Symbol s n)

abbrev values : ℕ → ℕ → ℕ → ℕ → Reader (List PartValue)
values at width zero total = stuck Plain
values at width (suc n) total = do
  k ← spaced (expect Plain kind_of)
  v ← value_behind at width total k
  where_next (λ t. is_some (kind_of t)) (do vs ← values at width n (total + value_size width v); done (v ∷ vs)) (done (v ∷ []))

abbrev zeros : ℕ → ℕ → Reader Part
zeros at total [] = stuck Plain []
zeros at total (Whole here minus t ∷ ps) = and_then (expect Plain number_of (Whole here minus t ∷ ps)) λ n s. choose
    (minus && nat_lt most n) (λ _. bad 12 here) (λ _. within at (total + n) (done (Zero n)) s)
zeros at total (Far here ∷ ps) = stuck Plain (Far here ∷ ps)
zeros at total (Stray here ∷ ps) = stuck Plain (Stray here ∷ ps)
zeros at total (End here ∷ ps) = stuck Plain (End here ∷ ps)

abbrev width_named : List ℕ → Option ℕ
width_named w = if bytes_eq w (codes "b") then Some 1 else if bytes_eq w (codes "h") then Some 2 else if bytes_eq w (codes "w") then Some 4
    else if bytes_eq w (codes "l") then Some 8 else if bytes_eq w (codes "z") then Some 0 else None

abbrev width_word : Option (List ℕ) → Option ℕ
width_word None = None
width_word (Some w) = width_named w

abbrev part_behind : ℕ → ℕ → ℕ → ℕ → Reader Part
part_behind at n total zero = spaced (zeros at total)
part_behind at n total (suc width) = do
  vs ← values at (suc width) n total
  done (Values (suc width) vs)

abbrev here_at : List Piece → ℕ
here_at [] = 0
here_at (Whole at minus t ∷ ps) = at
here_at (Far at ∷ ps) = at
here_at (Stray at ∷ ps) = at
here_at (End at ∷ ps) = at

abbrev a_part : ℕ → ℕ → Reader Part
a_part n total s = and_then (spaced (expect Plain (λ t. width_word (word_of t))) s) (λ width. part_behind (here_at s) n total width)

abbrev parts : ℕ → ℕ → ℕ → Reader (List Part)
parts m zero total = stuck Plain
parts m (suc n) total = where_next (is_the_mark 125) (done []) do
  p ← a_part m total
  where_next (is_the_mark 44) (do _ ← spaced (mark 44); ps ← parts m n (total + part_size p); done (p ∷ ps)) (done (p ∷ []))

-- ---- items

abbrev an_align : Reader ℕ
an_align = where_next (is_the_word (codes "align"))
    (do _ ← expect Plain (λ t. only (is_the_word (codes "align") t)); checked_number (λ n. not (is_alignment n))) (done 8)

abbrev data_behind : ℕ → ℕ → Bool → Reader LooseItem
data_behind n total export = do
  name ← expect Plain symbol_of
  _ ← mark 61
  align ← an_align
  _ ← spaced (mark 123)
  ps ← parts n n total
  _ ← mark 125
  done (LooseData export name align ps)

abbrev a_param : Reader IlParam
a_param = do
  c ← a_class
  t ← expect Plain temp_of
  done (record { name = t; class = c })

abbrev maybe_class : Reader (Option Class)
maybe_class = where_next (λ t. is_some (symbol_of t)) (done None) do
  c ← a_class
  done (Some c)

abbrev function_behind : ℕ → Bool → Reader LooseItem
function_behind n export = do
  class ← maybe_class
  name ← expect Plain symbol_of
  _ ← mark 40
  params ← listing a_param n
  _ ← mark 41
  _ ← some_lines
  _ ← mark 123
  _ ← some_lines
  bs ← blocks n n
  _ ← mark 125
  done (LooseFunction export class name params bs)

abbrev exports : ℕ → Reader Bool
exports zero = stuck Plain
exports (suc n) = where_next (is_the_word (codes "export")) (do _ ← expect Plain word_of; _ ← some_lines; _ ← exports n; done true)
    (done false)

abbrev item_named : List ℕ → Option Bool
item_named w = if bytes_eq w (codes "data") then Some true else if bytes_eq w (codes "function") then Some false else None

abbrev item_word : Option (List ℕ) → Option Bool
item_word None = None
item_word (Some w) = item_named w

abbrev item_behind : ℕ → ℕ → Bool → Bool → Reader LooseItem
item_behind n total export true = data_behind n total export
item_behind n total export false = function_behind n export

abbrev an_item : ℕ → ℕ → Reader LooseItem
an_item n total = do
  export ← exports n
  is_data ← expect HeadSite (λ t. item_word (word_of t))
  item_behind n total export is_data

abbrev loose_size : LooseItem → ℕ
loose_size (LooseData export name align []) = 0
loose_size (LooseData export name align (p ∷ ps)) = part_size p + loose_size (LooseData export name align ps)
loose_size (LooseFunction export class name params bs) = 0

abbrev is_end : List Piece → Bool
is_end [] = true
is_end (Whole at minus t ∷ ps) = false
is_end (Far at ∷ ps) = false
is_end (Stray at ∷ ps) = false
is_end (End at ∷ ps) = true

abbrev items : ℕ → ℕ → ℕ → Reader (List LooseItem)
items m zero total s = bad 3 0
items m (suc n) total s = choose (is_end s) (λ _. got [] s) λ _. and_then (an_item m total s) λ i.
    (do _ ← some_lines; more ← items m n (total + loose_size i); done (i ∷ more))

-- the module that the pieces spell, where nothing is found while they are read; more items than the limits of a module are no matter of
-- small texts
abbrev pub module_of : ℕ → Reader (List LooseItem)
module_of n = do
  _ ← some_lines
  items n n 0
