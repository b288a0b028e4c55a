-- The functions of the module `rt`, and the nodes that end a program.
use Rattle.std.specs.Prelude.{ℕ, ◌/◌, pos, true, nat_eq, nat_lt, [], length, slice_index, if◌then◌else◌}
use Rattle.hare_typed.specs.Typed.{TypedNode, head_of}
use Rattle.hare_typed.specs.Answers.{Answer, Gives, Aborts}
use Rattle.hare_typed.specs.Cells.{byte_cells}
use Rattle.hare_typed.specs.Scalars.{Address}
use Rattle.hare_typed.specs.Objects.{reading, reached, read_bytes, write_cells, cells_of}
use Rattle.hare_typed.specs.Words.{Words, three, words, natural_of}
use Rattle.hare_typed.specs.State.{Memory, Scope, Exit}
use Rattle.hare_typed.specs.Acts.{end, look, put, tick, say, take_in}
use Rattle.hare_typed.specs.World.{World, answered}
use Rattle.hare_typed.specs.Sequence.{value}
use Rattle.hare_typed.specs.Evaluated.{ValueForm}
use Rattle.hare_typed.specs.ConstantForms.{number_of_kid, own_number, truth}
use Rattle.hare_meaning.specs.Steps.{with_objects, aborting}

-- ---- the functions, by their numbers

-- the bytes of a slice or a text are put out
abbrev pub put_form : World → TypedNode → Scope → ValueForm
put_form w t sc k =
    value 1 sc λ c.
    answered w (head_of t) (words c) λ v.
    tick (v.length / 64) (look λ m. answered w (head_of t) (read_bytes (reading m.objects) v.data_at v.length) λ bs. say bs (k []))

-- the buffer of a read: all of it counts as stored to, before any input is taken
abbrev pub buffer_at : Memory → Words → Answer Words
buffer_at m v =
    reached (reading m.objects) (record { at = v.data_at; bytes = v.length; align = 1; stores = true }) (Gives v)

abbrev pub read_form : World → TypedNode → Scope → ValueForm
read_form w t sc k =
    value 1 sc λ c.
    answered w (head_of t) (words c) λ v.
    look λ m. answered w (head_of t) (buffer_at m v) λ v.
    take_in v.length λ bs. tick (length bs / 64)
    (put (with_objects m (write_cells m.objects v.data_at (byte_cells bs))) (k (own_number w t (pos (length bs)))))

-- a text as a slice of its bytes: the same three words
abbrev pub bytes_form : Scope → ValueForm
bytes_form sc k = value 1 sc k

abbrev pub nargs_form : World → TypedNode → ValueForm
nargs_form w t k = k (own_number w t (pos (length w.arguments)))

-- the argument with a number: abort 0 where there is none
abbrev pub argument_within : World → ℕ → Answer ℕ
argument_within w i = if nat_lt i (length w.arguments) then Gives (slice_index w.arguments i) else Aborts 0

abbrev pub text_at : Memory → ℕ → Words
text_at m o =
    let n = length (cells_of (reading m.objects o)) in
    record { data_at = Address o 0; length = n; capacity = n }

abbrev pub arg_form : World → TypedNode → Scope → ValueForm
arg_form w t sc k =
    value 1 sc λ c.
    answered w (head_of t) (argument_within w (natural_of (number_of_kid w t 1 c))) λ o.
    look λ m. k (three (text_at m o))

abbrev pub exit_form : World → TypedNode → Scope → ValueForm
exit_form w t sc k = value 1 sc λ c. end (Exit (natural_of (number_of_kid w t 1 c)))

-- `puts`, `write`, `read`, `bytes`, `nargs`, `arg` and `exit`, in the order of their numbers
abbrev pub runtime_form : World → TypedNode → Scope → ℕ → ValueForm
runtime_form w t sc f k =
    if nat_eq f 0 then put_form w t sc k
    else (if nat_eq f 1 then put_form w t sc k
    else (if nat_eq f 2 then read_form w t sc k
    else (if nat_eq f 3 then bytes_form sc k
    else (if nat_eq f 4 then nargs_form w t k
    else (if nat_eq f 5 then arg_form w t sc k
    else exit_form w t sc k)))))

-- ---- aborts

-- 9, or 7 where the node stands for a `!` that failed
abbrev pub abort_form : World → TypedNode → ValueForm
abort_form w t k = aborting w t (if nat_eq (head_of t).number 7 then 7 else 9) 0

abbrev pub assert_form : World → TypedNode → Scope → ValueForm
assert_form w t sc k = value 0 sc λ c. if truth c then k [] else aborting w t 6 1
