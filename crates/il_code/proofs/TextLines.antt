-- A plain program for small texts: the lines and the blocks of functions.
use Rattle.std.proofs.Common.{ℕ, zero, suc, List, [], ◌∷◌, Option, None, Some, Bool, true, false, ◌||◌, nat_lt, codes, bytes_eq}
use Rattle.std.specs.Prelude.{find, is_some}
use Rattle.hx_base.specs.declared.Class.{Class}
use Rattle.il_code.specs.declared.op.IlOp.{IlOp}
use Rattle.il_code.specs.declared.op.IlOp.TheVariants as op
use Rattle.il_code.specs.declared.types.IlParam.{IlParam}
use Rattle.il_code.specs.declared.types.PhiArg.{PhiArg}
use Rattle.il_code.specs.declared.types.IlValue.{IlValue}
use Rattle.il_code.specs.declared.types.IlArg.{IlArg}
use Rattle.il_code.specs.declared.types.Inst.TheVariants.{Set, Store, Blit, Call}
use Rattle.il_code.specs.declared.types.Jump.{Jump}
use Rattle.il_code.specs.declared.types.Jump.TheVariants.{Fall, Jmp, Jnz, Ret, Hlt}
use Rattle.il_code.specs.Words.{op_word}
use Rattle.il_code.specs.Classes.{op_kind, takes_two}
use Rattle.il_code.specs.Rules.{most}
use Rattle.il_code.specs.Loose.{BlockLine, PhiLine, InstLine, LooseBlock}
use Rattle.il_code.proofs.TextPieces.{Whole, Far, Stray, End, choose}
use Rattle.il_code.proofs.TextTokens.{Reader, and_then, ◌>>=◌, done, stuck, expect, where_next, got, bad, Plain, HeadSite, TargetSite, is_the_mark, word_of, temp_of, symbol_of, label_of, number_of, is_a_line, mark, a_class, a_value, a_label, lines, listing}

-- ---- lines

abbrev pub operations : List IlOp
operations =
    op.Neg ∷ op.Copy ∷ op.Alloc4 ∷ op.Alloc8 ∷ op.Alloc16 ∷ op.Extsb ∷ op.Extub ∷ op.Extsh ∷ op.Extuh ∷ op.Extsw ∷ op.Extuw ∷ op.Loadsb ∷
    op.Loadub ∷ op.Loadsh ∷ op.Loaduh ∷ op.Loadsw
    ∷ op.Loaduw ∷ op.Loadl ∷ op.Add ∷ op.Sub ∷ op.Mul ∷ op.Div ∷ op.Rem ∷ op.Udiv ∷ op.Urem ∷ op.And ∷ op.Or ∷ op.Xor ∷ op.Shl ∷ op.Shr ∷
    op.Sar ∷ op.Ceqw ∷ op.Ceql ∷ op.Cnew ∷ op.Cnel
    ∷ op.Cslew ∷ op.Cslel ∷ op.Csltw ∷ op.Csltl ∷ op.Csgew ∷ op.Csgel ∷ op.Csgtw ∷ op.Csgtl ∷ op.Culew ∷ op.Culel ∷ op.Cultw ∷ op.Cultl ∷
    op.Cugew ∷ op.Cugel ∷ op.Cugtw ∷ op.Cugtl ∷ []

-- what an assignment gives its temporary
pub data Given : Type 0 where
  a_phi : Given
  a_call : Given
  an_op : IlOp → Given

abbrev pub given_by_op : Option IlOp → Option Given
given_by_op None = None
given_by_op (Some o) = Some (an_op o)

abbrev pub given_named : List ℕ → Option Given
given_named w =
    choose (bytes_eq w (codes "phi")) (λ _. Some a_phi) λ _.
    choose (bytes_eq w (codes "call")) (λ _. Some a_call) λ _.
    choose (bytes_eq w (codes "loadw")) (λ _. Some (an_op op.Loadsw)) λ _.
    given_by_op (find (λ o. bytes_eq (op_word o) w) operations)

abbrev pub given_word : Option (List ℕ) → Option Given
given_word None = None
given_word (Some w) = given_named w

abbrev pub phi_args : ℕ → Reader (List PhiArg)
phi_args zero = stuck Plain
phi_args (suc n) = do
  l ← a_label
  v ← a_value
  where_next (is_the_mark 44) (do _ ← mark 44; xs ← phi_args n; done (record { label = l; value = v } ∷ xs))
      (done (record { label = l; value = v } ∷ []))

abbrev pub an_arg : Reader IlArg
an_arg = do
  c ← a_class
  v ← a_value
  done (record { class = c; value = v })

-- a call behind its word
abbrev pub call_behind : ℕ → Option IlParam → Reader BlockLine
call_behind n result = do
  target ← expect TargetSite symbol_of
  _ ← mark 40
  args ← listing an_arg n
  _ ← mark 41
  done (InstLine (Call result target args))

abbrev pub second_behind : Bool → Reader (Option IlValue)
second_behind false = done None
second_behind true = do
  _ ← mark 44
  v ← a_value
  done (Some v)

abbrev pub given_behind : ℕ → List ℕ → Class → Given → Reader BlockLine
given_behind n t c a_phi = do
  args ← phi_args n
  done (PhiLine (record { temp = t; class = c; args = args }))
given_behind n t c a_call = call_behind n (Some (record { name = t; class = c }))
given_behind n t c (an_op o) = do
  a ← a_value
  b ← second_behind (takes_two (op_kind o))
  done (InstLine (Set t c o a b))

abbrev pub an_assignment : ℕ → Reader BlockLine
an_assignment n = do
  t ← expect Plain temp_of
  _ ← mark 61
  c ← a_class
  g ← expect Plain (λ t. given_word (word_of t))
  given_behind n t c g

-- what a line begins with, other than a temporary
pub data Head : Type 0 where
  stores : ℕ → Head
  blits : Head
  calls : Head
  jumps : Head
  jumps_if : Head
  returns : Head
  stops : Head

abbrev pub head_named : List ℕ → Option Head
head_named w =
    choose (bytes_eq w (codes "storeb")) (λ _. Some (stores 1)) λ _.
    choose (bytes_eq w (codes "storeh")) (λ _. Some (stores 2)) λ _.
    choose (bytes_eq w (codes "storew")) (λ _. Some (stores 4)) λ _.
    choose (bytes_eq w (codes "storel")) (λ _. Some (stores 8)) λ _.
    choose (bytes_eq w (codes "blit")) (λ _. Some blits) λ _.
    choose (bytes_eq w (codes "call")) (λ _. Some calls) λ _.
    choose (bytes_eq w (codes "jmp")) (λ _. Some jumps) λ _.
    choose (bytes_eq w (codes "jnz")) (λ _. Some jumps_if) λ _.
    choose (bytes_eq w (codes "ret")) (λ _. Some returns) λ _.
    choose (bytes_eq w (codes "hlt")) (λ _. Some stops) (λ _. None)

abbrev pub head_word : Option (List ℕ) → Option Head
head_word None = None
head_word (Some w) = head_named w

abbrev pub store_behind : ℕ → Reader BlockLine
store_behind width = do
  v ← a_value
  _ ← mark 44
  a ← a_value
  done (InstLine (Store width v a))

abbrev pub is_too_many : ℕ → Bool
is_too_many n = nat_lt most n

-- a number that is refused where the test holds of it
abbrev pub checked_number : (ℕ → Bool) → Reader ℕ
checked_number refused [] = stuck Plain []
checked_number refused (Whole at minus t ∷ ps) =
    and_then (expect Plain number_of (Whole at minus t ∷ ps)) (λ n s. choose (refused n) (λ _. bad 12 at) (λ _. got n s))
checked_number refused (Far at ∷ ps) = stuck Plain (Far at ∷ ps)
checked_number refused (Stray at ∷ ps) = stuck Plain (Stray at ∷ ps)
checked_number refused (End at ∷ ps) = stuck Plain (End at ∷ ps)

abbrev pub blit_behind : Reader BlockLine
blit_behind = do
  a ← a_value
  _ ← mark 44
  b ← a_value
  _ ← mark 44
  n ← checked_number is_too_many
  done (InstLine (Blit a b n))

-- the lines of a block and its jump
abbrev pub Body : Type 0
Body = List BlockLine × Jump

abbrev pub ends_with : Jump → Reader Body
ends_with j = do
  _ ← lines
  done ([], j)

abbrev pub goes_on_with : Reader Body → BlockLine → Reader Body
goes_on_with more x = do
  _ ← lines
  r ← more
  done (x ∷ r.0, r.1)

abbrev pub body_behind : ℕ → Reader Body → Head → Reader Body
body_behind n more (stores width) = store_behind width >>= goes_on_with more
body_behind n more blits = blit_behind >>= goes_on_with more
body_behind n more calls = call_behind n None >>= goes_on_with more
body_behind n more jumps = do
  l ← a_label
  ends_with (Jmp l)
body_behind n more jumps_if = do
  v ← a_value
  _ ← mark 44
  a ← a_label
  _ ← mark 44
  b ← a_label
  ends_with (Jnz v a b)
body_behind n more returns = where_next is_a_line (ends_with (Ret None)) (a_value >>= λ v. ends_with (Ret (Some v)))
body_behind n more stops = ends_with Hlt

abbrev pub body : ℕ → ℕ → Reader Body
body m zero = stuck Plain
body m (suc n) =
    where_next (λ t. is_some (label_of t)) (done ([], Fall))
    (where_next (λ t. is_some (temp_of t)) (an_assignment m >>= goes_on_with (body m n))
    (expect HeadSite (λ t. head_word (word_of t)) >>= body_behind m (body m n)))

abbrev pub is_a_fall : Jump → Bool
is_a_fall Fall = true
is_a_fall (Jmp l) = false
is_a_fall (Jnz v a b) = false
is_a_fall (Ret v) = false
is_a_fall Hlt = false

abbrev pub blocks : ℕ → ℕ → Reader (List LooseBlock)
blocks m zero = stuck Plain
blocks m (suc n) = do
  l ← a_label
  _ ← lines
  b ← body m m
  bs ← where_next (λ t. is_a_fall b.1 || is_some (label_of t)) (blocks m n) (done [])
  done (record { label = l; lines = b.0; jump = b.1 } ∷ bs)
