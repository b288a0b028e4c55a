-- Which trees are shaped: each node has the kids of its form and, where its form has one, an operator of its kind; operators obey
-- precedence and left association, by the levels of their operands; and no kid goes on with the token that stands behind it, so that each
-- `else` belongs to the nearest `if`, and a comma behind the label of a `yield` to the `yield`. What no token is made from is empty.
use Rattle.std.specs.Prelude.{ℕ, ◌^◌, List, [], ◌∷◌, codes, Bool, true, false, ◌&&◌, ◌||◌, not, ◌==◌, nat_le, nat_lt, slice_index, Option, Some, None, if◌then◌else◌}
use Rattle.std.specs.List.{list_all}
use Rattle.std.specs.Char.{is_ascii_digit}
use Rattle.hare_tree.specs.declared.token.Suffix.{Suffix}
use Rattle.hare_tree.specs.declared.token.Suffix.TheVariants as suffix
use Rattle.hare_tree.specs.declared.kind.Kind.{Kind}
use Rattle.hare_tree.specs.declared.kind.Kind.TheVariants as ki
use Rattle.hare_tree.specs.declared.form.Sign.{Sign}
use Rattle.hare_tree.specs.declared.form.Sign.TheVariants as si
use Rattle.hare_tree.specs.declared.form.Own.{Own}
use Rattle.hare_tree.specs.declared.form.Own.TheVariants as ow
use Rattle.hare_tree.specs.declared.form.Sort.{Sort}
use Rattle.hare_tree.specs.declared.form.Sort.TheVariants as so
use Rattle.hare_tree.specs.declared.form.Piece.{Piece}
use Rattle.hare_tree.specs.declared.form.Piece.TheVariants as pi
use Rattle.hare_tree.specs.declared.tree.FileTree.{FileTree}
use Rattle.hare_tree.specs.Node.{Head, Node, Nodes, branch, none, more, head}
use Rattle.hare_tree.specs.Words.{is_listed}
use Rattle.hare_tree.specs.Signs.{is_sign}
use Rattle.hare_tree.specs.Forms.{form_of}
use Rattle.hare_tree.specs.Spell.{parts}
use Rattle.hare_tree.specs.Levels.{operators, level, admits, sort_in, is_name}

-- ---- what a node's text, number and suffix may be

abbrev pub is_empty : List ℕ → Bool
is_empty [] = true
is_empty (c ∷ s) = false

abbrev pub has_no_suffix : Suffix → Bool
has_no_suffix suffix.None = true
has_no_suffix _ = false

-- neither a number nor a suffix
abbrev pub has_text_alone : Head → Bool
has_text_alone h = h.number == 0 && has_no_suffix h.suffix

-- names, the first of which does not stand behind `::`
abbrev pub are_names : Bool → List (List ℕ) → Bool
are_names behind_path [] = true
are_names behind_path (x ∷ xs) = is_name behind_path x && are_names true xs

-- the keywords that are types: i8 i16 i32 i64 u8 u16 u32 u64 int uint size bool rune str void never opaque
abbrev pub scalars : List (List ℕ)
scalars =
    codes "i8" ∷ codes "i16" ∷ codes "i32" ∷ codes "i64" ∷ codes "u8" ∷ codes "u16" ∷ codes "u32" ∷ codes "u64" ∷ codes "int" ∷ codes "uint"
    ∷ codes "size" ∷ codes "bool" ∷ codes "rune" ∷ codes "str" ∷ codes "void" ∷ codes "never" ∷ codes "opaque" ∷ []

-- A number begins with a digit and is below 2 ^ 127. Its spelling is else the lexer's matter.
abbrev pub is_number : Head → Bool
is_number h = is_ascii_digit (slice_index h.text 0) && nat_lt h.number (2 ^ 127)

-- a Unicode scalar value
abbrev pub is_scalar_value : ℕ → Bool
is_scalar_value n = nat_lt n 55296 || (nat_le 57344 n && nat_lt n 1114112)

abbrev pub is_own : Own → Head → Bool
is_own ow.Nothing h = is_empty h.text && has_text_alone h
is_own ow.Name h = is_name false h.text && has_text_alone h
is_own ow.PathName h = is_name true h.text && has_text_alone h
is_own ow.Path h = are_names false (parts h.text) && has_text_alone h
is_own ow.Label h = (is_empty h.text || is_name false h.text) && has_text_alone h
is_own ow.Scalar h = is_listed scalars h.text && has_text_alone h
is_own ow.Bool h = is_listed (codes "true" ∷ codes "false" ∷ []) h.text && has_text_alone h
is_own ow.Number h = is_number h
is_own ow.Rune h = is_scalar_value h.number && has_no_suffix h.suffix
is_own ow.Text h = has_text_alone h
is_own ow.Operator h = is_listed (operators h.kind) h.text && has_text_alone h
is_own ow.Member h = is_number h || (is_name false h.text && has_text_alone h)

-- what of a form is made from the text, the number and the suffix
abbrev pub own_of : List Piece → Own
own_of [] = ow.Nothing
own_of (pi.Own o ∷ ps) = o
own_of (_ ∷ ps) = own_of ps

-- ---- the right edge

abbrev pub is_none : Kind → Bool
is_none ki.None = true
is_none _ = false

-- a kid's kind, and whether it ends before the sign
abbrev pub Ending : Type 0
Ending = Kind × Bool

-- the kid's own end, or where there is no kid what stands before it
abbrev pub kid_or : Bool → Ending → Bool
kid_or before e = if is_none e.0 then before else e.1

-- Whether a form ends before the sign `c`: what it is spelled by would not go on with it. `before` says that of what stands to the left, in
-- the case that nothing of the form follows. Lists stand only before the sign that closes them.
abbrev pub form_stops : Sign → Head → Bool → List Piece → List Ending → Bool
form_stops c h before [] es = before
form_stops c h before (pi.Fixed s ∷ ps) es = form_stops c h true ps es
form_stops c h before (pi.Own o ∷ ps) es = form_stops c h true ps es
form_stops c h before (pi.Kid s ∷ ps) (e ∷ es) = form_stops c h e.1 ps es
form_stops c h before (pi.Optional s ∷ ps) (e ∷ es) = form_stops c h (kid_or before e) ps es
-- an `if` without `else` goes on with one, unless its branch does
form_stops c h before (pi.Led a s ∷ ps) (e ∷ es) = form_stops c h (kid_or (before && not (is_sign a c)) e) ps es
form_stops c h before (pi.Followed s a ∷ ps) (e ∷ es) = form_stops c h (kid_or before (e.0, true)) ps es
-- a `yield` with a label and without a value goes on with a comma
form_stops c h before (pi.Value s ∷ ps) (e ∷ es) = form_stops c h (kid_or (is_empty h.text || not (is_sign si.Comma c)) e) ps es
form_stops c h before _ es = true

-- whether a tree, where it stands before this sign, ends there
unfoldable mutual
  pub stops : Sign → Node → Bool
  stops c (branch h ts) = form_stops c h true (form_of h.kind) (stops_each c ts)

  pub stops_each : Sign → Nodes → List Ending
  stops_each c none = []
  stops_each c (more t ts) = ((head t).kind, stops c t) ∷ stops_each c ts

-- a kid's kind, and whether it ends before `else` and before a comma: no other sign can go on with a kid of a form
pub record Edge : Type 0 where
  pub kind : Kind
  pub before_else : Bool
  pub before_comma : Bool

abbrev pub edges : Nodes → List Edge
edges none = []
edges (more t ts) = record { kind = (head t).kind; before_else = stops si.Else t; before_comma = stops si.Comma t } ∷ edges ts

-- the kid ends before the sign that stands behind it
abbrev pub ends_before : Option Sign → Edge → Bool
ends_before None e = true
ends_before (Some si.Else) e = e.before_else
ends_before (Some si.Comma) e = e.before_comma
ends_before (Some _) e = true

abbrev pub is_dots : Kind → Bool
is_dots ki.Dots = true
is_dots _ = false

-- what stands behind an item of a list: the comma before the next, or the last comma
abbrev pub behind_item : List Edge → Option Sign
behind_item [] = None
behind_item (e ∷ es) = if is_none e.kind then behind_item es else if is_dots e.kind then None else Some si.Comma

abbrev pub items_end : List Edge → Bool
items_end [] = true
items_end (e ∷ es) = ends_before (behind_item es) e && items_end es

-- the sign that stands behind a kid, in front of these pieces and kids
abbrev pub behind_kid : List Piece → List Edge → Option Sign
behind_kid (pi.Fixed s ∷ ps) es = Some s
behind_kid (pi.Led a s ∷ ps) (e ∷ es) = if is_none e.kind then behind_kid ps es else Some a
behind_kid (pi.More s ∷ ps) es = behind_item es
behind_kid _ es = None

-- each kid of the form ends before the sign that stands behind it
abbrev pub kids_end : List Piece → List Edge → Bool
kids_end [] es = true
kids_end (pi.Fixed s ∷ ps) es = kids_end ps es
kids_end (pi.Own o ∷ ps) es = kids_end ps es
kids_end (pi.Kid s ∷ ps) (e ∷ es) = ends_before (behind_kid ps es) e && kids_end ps es
kids_end (pi.Optional s ∷ ps) (e ∷ es) = ends_before (behind_kid ps es) e && kids_end ps es
kids_end (pi.Led a s ∷ ps) (e ∷ es) = ends_before (behind_kid ps es) e && kids_end ps es
kids_end (pi.Followed s a ∷ ps) (e ∷ es) = kids_end ps es
kids_end (pi.Value s ∷ ps) (e ∷ es) = ends_before (behind_kid ps es) e && kids_end ps es
kids_end (pi.More s ∷ ps) es = items_end es
kids_end (pi.List s ∷ ps) es = items_end es
kids_end (pi.Elements s ∷ ps) es = items_end es
kids_end (pi.MoreElements s ∷ ps) es = items_end es
kids_end _ es = true

-- ---- the left edge

-- whether the first token is the `:` of a label
abbrev pub form_begins_labelled : Head → List Piece → Bool → Bool
form_begins_labelled h (pi.Own ow.Label ∷ ps) first = not (is_empty h.text)
form_begins_labelled h (pi.Kid s ∷ ps) first = first
form_begins_labelled h _ first = false

unfoldable mutual
  pub begins_labelled : Node → Bool
  begins_labelled (branch h ts) = form_begins_labelled h (form_of h.kind) (first_labelled ts)

  pub first_labelled : Nodes → Bool
  first_labelled none = false
  first_labelled (more t ts) = begins_labelled t

abbrev pub is_yield : Kind → Bool
is_yield ki.Yield = true
is_yield _ = false

-- behind `yield` a `:` begins the label of the `yield`, so that its value does not begin with one
abbrev pub yields_label : Head → Nodes → Bool
yields_label h ts = not (is_yield h.kind && is_empty h.text && first_labelled ts)

-- ---- shape

-- a leaf of this kind that says nothing else
abbrev pub is_leaf : (Kind → Bool) → Node → Bool
is_leaf p (branch h none) = p h.kind && is_own ow.Nothing h
is_leaf p (branch h (more t ts)) = false

-- what stands in the place of a kid that is not there
abbrev pub is_absent : Node → Bool
is_absent t = is_leaf is_none t

abbrev pub is_none_or_dots : Kind → Bool
is_none_or_dots ki.None = true
is_none_or_dots ki.Dots = true
is_none_or_dots _ = false

abbrev pub is_none_or_comma : Kind → Bool
is_none_or_comma ki.None = true
is_none_or_comma ki.TrailingComma = true
is_none_or_comma _ = false

-- the pieces that stand for kids
abbrev pub kid_pieces : List Piece → List Piece
kid_pieces [] = []
kid_pieces (pi.Fixed s ∷ ps) = kid_pieces ps
kid_pieces (pi.Own o ∷ ps) = kid_pieces ps
kid_pieces (p ∷ ps) = p ∷ kid_pieces ps

unfoldable mutual
  -- the tree is of the sort and shaped
  pub is_shaped : Sort → Node → Bool
  is_shaped s (branch h ts) =
      admits s h.kind h.text && is_own (own_of (form_of h.kind)) h && are_kids (level h.kind h.text) (kid_pieces (form_of h.kind)) ts
      && kids_end (form_of h.kind) (edges ts) && yields_label h ts

  -- the kids are those of the pieces of a form with this level
  pub are_kids : ℕ → List Piece → Nodes → Bool
  are_kids n [] none = true
  are_kids n (pi.Kid s ∷ ps) (more t ts) = is_shaped (sort_in n s) t && are_kids n ps ts
  are_kids n (pi.Optional s ∷ ps) (more t ts) = (is_absent t || is_shaped s t) && are_kids n ps ts
  are_kids n (pi.Led a s ∷ ps) (more t ts) = (is_absent t || is_shaped s t) && are_kids n ps ts
  are_kids n (pi.Followed s a ∷ ps) (more t ts) = (is_absent t || is_shaped s t) && are_kids n ps ts
  are_kids n (pi.Value s ∷ ps) (more t ts) = (is_absent t || is_shaped s t) && are_kids n ps ts
  are_kids n (pi.Each s ∷ ps) none = true
  are_kids n (pi.Each s ∷ ps) (more t ts) = is_shaped s t && are_kids n (pi.Each s ∷ ps) ts
  are_kids n (pi.EachLed a s ∷ ps) none = true
  are_kids n (pi.EachLed a s ∷ ps) (more t ts) = is_shaped s t && are_kids n (pi.EachLed a s ∷ ps) ts
  are_kids n (pi.EachFollowed s a ∷ ps) none = true
  are_kids n (pi.EachFollowed s a ∷ ps) (more t ts) = is_shaped s t && are_kids n (pi.EachFollowed s a ∷ ps) ts
  are_kids n (pi.More s ∷ ps) (more t none) = is_leaf is_none_or_comma t
  are_kids n (pi.More s ∷ ps) (more t (more u ts)) = is_shaped s t && are_kids n (pi.More s ∷ ps) (more u ts)
  are_kids n (pi.List s ∷ ps) (more t none) = is_absent t
  are_kids n (pi.List s ∷ ps) (more t (more u ts)) = is_shaped s t && are_kids n (pi.More s ∷ ps) (more u ts)
  are_kids n (pi.Elements s ∷ ps) (more t (more u none)) = is_absent t && is_absent u
  are_kids n (pi.Elements s ∷ ps) (more t (more u (more v ts))) = is_shaped s t && are_kids n (pi.MoreElements s ∷ ps) (more u (more v ts))
  are_kids n (pi.MoreElements s ∷ ps) (more t (more u none)) = is_leaf is_none_or_dots t && is_leaf is_none_or_comma u
  are_kids n (pi.MoreElements s ∷ ps) (more t (more u (more v ts))) =
      is_shaped s t && are_kids n (pi.MoreElements s ∷ ps) (more u (more v ts))
  are_kids n _ _ = false

-- {use} {decl}
abbrev pub is_shaped_file : FileTree → Bool
is_shaped_file t = list_all (is_shaped so.Use) t.uses && list_all (is_shaped so.Decl) t.decls
