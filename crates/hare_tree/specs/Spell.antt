-- The tokens of a tree, from the form of its kind. They have line 1 and column 1 of the tree's file as their place.
use Rattle.std.specs.Prelude.{ℕ, List, [], ◌∷◌, ◌++◌, Bool, true, false, ◌&&◌, ◌==◌, slice_index, take, drop, if◌then◌else◌}
use Rattle.std.specs.List.{flat_map}
use Rattle.std.specs.Char.{is_ascii_digit}
use Rattle.hare_tree.specs.declared.place.Place.{Place}
use Rattle.hare_tree.specs.declared.token.TokenKind.{TokenKind}
use Rattle.hare_tree.specs.declared.token.TokenKind.TheVariants as tk
use Rattle.hare_tree.specs.declared.token.Suffix.TheVariants as suffix
use Rattle.hare_tree.specs.declared.token.Token.{Token}
use Rattle.hare_tree.specs.declared.kind.Kind.{Kind}
use Rattle.hare_tree.specs.declared.kind.Kind.TheVariants as ki
use Rattle.hare_tree.specs.declared.form.Sign.{Sign}
use Rattle.hare_tree.specs.declared.form.Sign.TheVariants as si
use Rattle.hare_tree.specs.declared.form.Own.{Own}
use Rattle.hare_tree.specs.declared.form.Own.TheVariants as ow
use Rattle.hare_tree.specs.declared.form.Piece.{Piece}
use Rattle.hare_tree.specs.declared.form.Piece.TheVariants as pi
use Rattle.hare_tree.specs.declared.form.Lead.{Lead}
use Rattle.hare_tree.specs.declared.form.Lead.TheVariants as le
use Rattle.hare_tree.specs.declared.tree.FileTree.{FileTree}
use Rattle.hare_tree.specs.Node.{Head, Node, Nodes, branch, none, more, head, kids_of, nodes_of}
use Rattle.hare_tree.specs.Signs.{sign_word, sign_kind}
use Rattle.hare_tree.specs.Forms.{form_of}

-- ---- tokens

-- line 1 and column 1 of the file
abbrev pub start_of : ℕ → Place
start_of f = record { file = f; line = 1; column = 1 }

-- a token that says no more than its spelling
abbrev pub word_token : ℕ → TokenKind → List ℕ → Token
word_token f k text = record { kind = k; place = start_of f; text = text; number = 0; suffix = suffix.None }

abbrev pub sign_token : ℕ → Sign → Token
sign_token f s = word_token f (sign_kind s) (sign_word s)

-- a token with all that the tree says
abbrev pub full_token : ℕ → TokenKind → Head → Token
full_token f k h = record { kind = k; place = start_of f; text = h.text; number = h.number; suffix = h.suffix }

-- ---- a tree's own tokens

-- The parts of a text between `::`, from the left. `part` is what stands since the last `::`, and the first colon of two marks that the
-- second is `taken`.
abbrev pub parts_from : Bool → List ℕ → List ℕ → List (List ℕ)
parts_from taken part [] = part ∷ []
parts_from true part (c ∷ s) = parts_from false part s
parts_from false part (c ∷ s) =
    if c == 58 && slice_index s 0 == 58 then part ∷ parts_from true [] s else parts_from false (part ++ c ∷ []) s

abbrev pub parts : List ℕ → List (List ℕ)
parts text = parts_from false [] text

-- names with `::` between them
abbrev pub path_tokens : ℕ → List (List ℕ) → List Token
path_tokens f [] = []
path_tokens f (part ∷ []) = word_token f tk.Name part ∷ []
path_tokens f (part ∷ part' ∷ rest) = word_token f tk.Name part ∷ sign_token f si.PathMark ∷ path_tokens f (part' ∷ rest)

-- a label: `":" name`
abbrev pub label_tokens : ℕ → List ℕ → List Token
label_tokens f [] = []
label_tokens f (c ∷ s) = sign_token f si.Colon ∷ word_token f tk.Name (c ∷ s) ∷ []

-- a member is a number where it begins with a digit
abbrev pub member_kind : List ℕ → TokenKind
member_kind text = if is_ascii_digit (slice_index text 0) then tk.Number else tk.Name

abbrev pub own_tokens : ℕ → Head → Own → List Token
own_tokens f h ow.Nothing = []
own_tokens f h ow.Name = word_token f tk.Name h.text ∷ []
own_tokens f h ow.PathName = word_token f tk.Name h.text ∷ []
own_tokens f h ow.Path = path_tokens f (parts h.text)
own_tokens f h ow.Label = label_tokens f h.text
own_tokens f h ow.Scalar = word_token f tk.Keyword h.text ∷ []
own_tokens f h ow.Bool = word_token f tk.Keyword h.text ∷ []
own_tokens f h ow.Number = full_token f tk.Number h ∷ []
own_tokens f h ow.Rune = full_token f tk.RuneLit h ∷ []
own_tokens f h ow.Text = word_token f tk.Str h.text ∷ []
own_tokens f h ow.Operator = word_token f tk.Mark h.text ∷ []
own_tokens f h ow.Member = full_token f (member_kind h.text) h ∷ []

-- ---- the kids' tokens

-- a kid: its kind and its tokens
abbrev pub Spelled : Type 0
Spelled = Kind × List Token

-- nothing, a trailing comma and `...` take no sign
abbrev pub stands_alone : Kind → Bool
stands_alone ki.None = true
stands_alone ki.TrailingComma = true
stands_alone ki.Dots = true
stands_alone _ = false

-- a kid's tokens with the sign that stands with it
abbrev pub with_lead : ℕ → Lead → Spelled → List Token
with_lead f le.Nothing u = u.1
with_lead f (le.Before s) u = if stands_alone u.0 then u.1 else sign_token f s ∷ u.1
with_lead f (le.Behind s) u = if stands_alone u.0 then u.1 else u.1 ++ sign_token f s ∷ []

abbrev pub all_led : ℕ → Lead → List Spelled → List Token
all_led f l us = flat_map (with_lead f l) us

-- at most the first kid
abbrev pub one_led : ℕ → Lead → List Spelled → List Token
one_led f l us = all_led f l (take 1 us)

-- all kids, with a comma before each but the first
abbrev pub listed : ℕ → List Spelled → List Token
listed f us = one_led f le.Nothing us ++ all_led f (le.Before si.Comma) (drop 1 us)

-- behind a label a value has a comma before it
abbrev pub value_lead : List ℕ → Lead
value_lead [] = le.Nothing
value_lead (c ∷ s) = le.Before si.Comma

-- ---- trees

-- the tokens of a piece, in front of which these kids are left
abbrev pub piece_tokens : ℕ → Head → Piece → List Spelled → List Token
piece_tokens f h (pi.Fixed s) us = sign_token f s ∷ []
piece_tokens f h (pi.Own o) us = own_tokens f h o
piece_tokens f h (pi.Kid s) us = one_led f le.Nothing us
piece_tokens f h (pi.Optional s) us = one_led f le.Nothing us
piece_tokens f h (pi.Led c s) us = one_led f (le.Before c) us
piece_tokens f h (pi.Followed s c) us = one_led f (le.Behind c) us
piece_tokens f h (pi.Value s) us = one_led f (value_lead h.text) us
piece_tokens f h (pi.Each s) us = all_led f le.Nothing us
piece_tokens f h (pi.EachLed c s) us = all_led f (le.Before c) us
piece_tokens f h (pi.EachFollowed s c) us = all_led f (le.Behind c) us
piece_tokens f h (pi.More s) us = all_led f (le.Before si.Comma) us
piece_tokens f h (pi.List s) us = listed f us
piece_tokens f h (pi.Elements s) us = listed f us
piece_tokens f h (pi.MoreElements s) us = all_led f (le.Before si.Comma) us

-- the kids that are left behind a piece
abbrev pub left_behind : {A : Type 0} → Piece → List A → List A
left_behind (pi.Fixed s) us = us
left_behind (pi.Own o) us = us
left_behind (pi.Kid s) us = drop 1 us
left_behind (pi.Optional s) us = drop 1 us
left_behind (pi.Led c s) us = drop 1 us
left_behind (pi.Followed s c) us = drop 1 us
left_behind (pi.Value s) us = drop 1 us
left_behind (pi.Each s) us = []
left_behind (pi.EachLed c s) us = []
left_behind (pi.EachFollowed s c) us = []
left_behind (pi.More s) us = []
left_behind (pi.List s) us = []
left_behind (pi.Elements s) us = []
left_behind (pi.MoreElements s) us = []

abbrev pub pieces_tokens : ℕ → Head → List Piece → List Spelled → List Token
pieces_tokens f h [] us = []
pieces_tokens f h (p ∷ ps) us = piece_tokens f h p us ++ pieces_tokens f h ps (left_behind p us)

unfoldable mutual
  pub spell : ℕ → Node → List Token
  spell f (branch h ts) = pieces_tokens f h (form_of h.kind) (spells f ts)

  pub spells : ℕ → Nodes → List Spelled
  spells f none = []
  spells f (more t ts) = ((head t).kind, spell f t) ∷ spells f ts

-- a tree as a kid
abbrev pub spelled_kid : ℕ → Node → Spelled
spelled_kid f t = ((head t).kind, spell f t)

-- the kids of a tree
abbrev pub kids_spelled : ℕ → Node → List Spelled
kids_spelled f t = spells f (kids_of t)

-- the tokens of trees side by side
abbrev pub spell_all : ℕ → List Node → List Token
spell_all f ts = all_led f le.Nothing (spells f (nodes_of ts))

-- {use} {decl}, and End
abbrev pub spell_file : FileTree → List Token
spell_file t = spell_all t.file t.uses ++ (spell_all t.file t.decls ++ word_token t.file tk.End [] ∷ [])
