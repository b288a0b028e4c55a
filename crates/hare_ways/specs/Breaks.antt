-- What is broken over lines: comma lists, braces, and the statements of a case.
use Rattle.std.specs.Prelude.{ℕ, ◌+◌, List, [], ◌∷◌, Bool, true, false, ◌&&◌, ◌||◌, not, nat_lt, length, slice_index, if◌then◌else◌}
use Rattle.hare_tree.specs.declared.kind.Kind.{Kind}
use Rattle.hare_tree.specs.declared.kind.Kind.TheVariants as ki
use Rattle.hare_tree.specs.declared.form.Sign.{Sign}
use Rattle.hare_tree.specs.declared.form.Sign.TheVariants as si
use Rattle.hare_tree.specs.declared.form.Piece.{Piece}
use Rattle.hare_tree.specs.declared.form.Piece.TheVariants as pi
use Rattle.hare_tree.specs.Node.{Head}
use Rattle.hare_tree.specs.Signs.{is_sign}
use Rattle.hare_tree.specs.Forms.{form_of}
use Rattle.hare_tree.specs.Spell.{Spelled, piece_tokens, left_behind}
use Rattle.hare_ways.specs.declared.breaks.Breaks.{Breaks}

-- ---- the kinds

-- What has a comma list between brackets: parameters, arguments, fields and their values, elements, and the names of a `use`. The
-- operands of `alloc`, `append` and `assert` and the values of a case are none, nor are the members of a union.
abbrev pub is_list : Kind → Bool
is_list ki.Params = true
is_list ki.Call = true
is_list ki.StructLit = true
is_list ki.Tuple = true
is_list ki.TypeTuple = true
is_list ki.Array = true
is_list ki.UseNames = true
is_list ki.TypeStruct = true
is_list _ = false

-- a struct type, whose list is always broken
abbrev pub is_struct : Kind → Bool
is_struct ki.TypeStruct = true
is_struct _ = false

-- what has statements or cases between braces
abbrev pub is_braced : Kind → Bool
is_braced ki.Block = true
is_braced ki.Match = true
is_braced ki.Switch = true
is_braced _ = false

abbrev pub is_case : Kind → Bool
is_case ki.Case = true
is_case ki.SwitchCase = true
is_case _ = false

-- the bracket in front of the list; a form without a list has no such sign
abbrev pub opening : Kind → Sign
opening ki.Params = si.LeftParen
opening ki.Call = si.LeftParen
opening ki.Tuple = si.LeftParen
opening ki.TypeTuple = si.LeftParen
opening ki.Array = si.LeftBracket
opening _ = si.LeftBrace

-- the bracket behind it
abbrev pub closing : Kind → Sign
closing ki.Params = si.RightParen
closing ki.Call = si.RightParen
closing ki.Tuple = si.RightParen
closing ki.TypeTuple = si.RightParen
closing ki.Array = si.RightBracket
closing _ = si.RightBrace

-- ---- the kids of a form

-- a kid as the layout of its parent needs it: its kind, and whether a comma behind it is the parent's
pub record Item : Type 0 where
  pub kind : Kind
  pub ends : Bool

-- the piece is this sign
abbrev pub is_fixed : Sign → Piece → Bool
is_fixed s (pi.Fixed t) = is_sign s t
is_fixed s _ = false

-- the kids behind the first of these signs of a form
abbrev pub kids_behind : {A : Type 0} → Sign → List Piece → List A → List A
kids_behind s [] us = us
kids_behind s (p ∷ ps) us = if is_fixed s p then us else kids_behind s ps (left_behind p us)

-- the number of the first of these signs among tokens, where the tokens of these pieces of a form stand behind `n` others
abbrev pub sign_at : Sign → Head → List Piece → ℕ → List Spelled → ℕ
sign_at s h [] n us = n
sign_at s h (p ∷ ps) n us = if is_fixed s p then n else sign_at s h ps (n + length (piece_tokens 0 h p us)) (left_behind p us)

-- ---- comments among tokens

-- A comment stands behind the first of two tokens and in front of the second, where so many comments stand in front of each token.
abbrev pub is_commented : List ℕ → ℕ → ℕ → Bool
is_commented comments i j = nat_lt (slice_index comments i) (slice_index comments j)

-- the same of the brackets of a form that begins behind `n` tokens
abbrev pub has_comment : List ℕ → Head → ℕ → List Spelled → Bool
has_comment comments h n us =
    is_commented comments (sign_at (opening h.kind) h (form_of h.kind) n us) (sign_at (closing h.kind) h (form_of h.kind) n us)

-- the same of the word `case` and what stands behind `=>`
abbrev pub has_case_comment : List ℕ → Head → ℕ → List Spelled → Bool
has_case_comment comments h n us = is_commented comments n (sign_at si.Arrow h (form_of h.kind) n us + 1)

-- ---- broken comma lists

abbrev pub is_comma : Kind → Bool
is_comma ki.TrailingComma = true
is_comma _ = false

-- a comma stands behind the last item
abbrev pub ends_in_comma : List Item → Bool
ends_in_comma [] = false
ends_in_comma (u ∷ us) = is_comma u.kind || ends_in_comma us

-- the same behind one more kid, where `ends` says that a comma behind it is not its own
abbrev pub wants_behind : Kind → Bool → Bool → Bool
wants_behind ki.None wants ends = wants
wants_behind ki.TrailingComma wants ends = false
wants_behind ki.Dots wants ends = true
wants_behind _ wants ends = ends

-- A comma may be added behind the last of these: it is `...`, or an item that does not end in a `yield` with a label and no value, which
-- would take the comma for its own.
abbrev pub wants_comma : Bool → List Item → Bool
wants_comma wants [] = wants
wants_comma wants (u ∷ us) = wants_comma (wants_behind u.kind wants u.ends) us

-- ---- a case with one statement

abbrev pub is_one : {A : Type 0} → List A → Bool
is_one [] = false
is_one (x ∷ []) = true
is_one (x ∷ y ∷ ys) = false

abbrev pub is_nil : {A : Type 0} → List A → Bool
is_nil [] = true
is_nil (x ∷ xs) = false

-- The statements of a case begin lines, unless there is one and no comment stands in front of it.
abbrev pub has_own_lines : List Item → Bool → Bool
has_own_lines statements commented = not (is_one statements && not commented)

-- ---- what is broken

-- A comma list is broken where it ends in a comma or a comment stands in it, and that of a struct type always. Braces are broken unless
-- they are empty and no comment stands in them.
abbrev pub is_broken : Kind → List Item → Bool → Bool
is_broken k inside commented =
    if is_braced k then not (is_nil inside) || commented
    else if is_list k then is_struct k || ends_in_comma inside || commented
    else false

-- how the form of a node is broken
abbrev pub breaks_of : List ℕ → Head → ℕ → List Spelled → List Item → Breaks
breaks_of comments h n us items =
    let inside = kids_behind (opening h.kind) (form_of h.kind) items in
    let brackets = is_broken h.kind inside (has_comment comments h n us) in
    record {
      kind = h.kind;
      brackets = brackets;
      statements = if is_case h.kind then has_own_lines (kids_behind si.Arrow (form_of h.kind) items)
          (has_case_comment comments h n us) else brackets;
      comma = brackets && is_list h.kind && wants_comma false inside;
    }
