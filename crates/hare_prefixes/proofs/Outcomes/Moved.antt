-- The tokens of a tree in one file are those of the tree in file 0, but for places.
use Rattle.std.proofs.Common.{◌≡◌, ℕ, List, [], ◌∷◌, ◌++◌, Bool, true, false, map, drop, refl, ap, ◌∙◌, if◌then◌else◌}
use Rattle.std.proofs.lemmas.List.{map-append}
use Rattle.hare_tree.specs.declared.token.TokenKind.TheVariants as tk
use Rattle.hare_tree.specs.declared.token.Token.{Token}
use Rattle.hare_tree.specs.declared.form.Sign.TheVariants as si
use Rattle.hare_tree.specs.declared.form.Own.{Own}
use Rattle.hare_tree.specs.declared.form.Own.TheVariants as ow
use Rattle.hare_tree.specs.declared.form.Lead.{Lead}
use Rattle.hare_tree.specs.declared.form.Lead.TheVariants as le
use Rattle.hare_tree.specs.declared.form.Piece.{Piece}
use Rattle.hare_tree.specs.declared.form.Piece.TheVariants as pi
use Rattle.hare_tree.specs.Node.{Head, Node, Nodes, branch, none, more}
use Rattle.hare_tree.specs.Forms.{form_of}
use Rattle.hare_tree.specs.Spell.{word_token, sign_token, parts, path_tokens, Spelled, stands_alone, with_lead, all_led, one_led, own_tokens, label_tokens, left_behind, value_lead, listed, piece_tokens, pieces_tokens, spell, spells}
use Rattle.hare_tree.specs.Grammar.{unplaced}

-- the same kids in file 0
abbrev kid_moved : Spelled → Spelled
kid_moved u = (u.0, map unplaced u.1)

abbrev moved : List Spelled → List Spelled
moved [] = []
moved (u ∷ us) = kid_moved u ∷ moved us

put : (a b a' b' : List Token) → map unplaced a ≡ a' → map unplaced b ≡ b' → map unplaced (a ++ b) ≡ a' ++ b'
put a b a' b' e d = map-append unplaced a b ∙ ap (λ l. l ++ map unplaced b) e ∙ ap (λ l. a' ++ l) d

lead_moved : (f : ℕ) (l : Lead) (u : Spelled) → map unplaced (with_lead f l u) ≡ with_lead 0 l (kid_moved u)
lead_moved f le.Nothing u = refl
lead_moved f (le.Before s) u = by (stands_alone u.0)
  where
    by : (b : Bool) → map unplaced (if b then u.1 else sign_token f s ∷ u.1) ≡
        (if b then map unplaced u.1 else sign_token 0 s ∷ map unplaced u.1)
    by true = refl
    by false = refl
lead_moved f (le.Behind s) u = by (stands_alone u.0)
  where
    by : (b : Bool) → map unplaced (if b then u.1 else u.1 ++ sign_token f s ∷ []) ≡
        (if b then map unplaced u.1 else map unplaced u.1 ++ sign_token 0 s ∷ [])
    by true = refl
    by false = map-append unplaced u.1 (sign_token f s ∷ [])

led_moved : (f : ℕ) (l : Lead) (us : List Spelled) → map unplaced (all_led f l us) ≡ all_led 0 l (moved us)
led_moved f l [] = refl
led_moved f l (u ∷ us) = put (with_lead f l u) (all_led f l us) _ _ (lead_moved f l u) (led_moved f l us)

one_moved : (f : ℕ) (l : Lead) (us : List Spelled) → map unplaced (one_led f l us) ≡ one_led 0 l (moved us)
one_moved f l [] = refl
one_moved f l (u ∷ us) = put (with_lead f l u) [] _ _ (lead_moved f l u) refl

drop_moved : (us : List Spelled) → moved (drop 1 us) ≡ drop 1 (moved us)
drop_moved [] = refl
drop_moved (u ∷ us) = refl

path_moved : (f : ℕ) (ps : List (List ℕ)) → map unplaced (path_tokens f ps) ≡ path_tokens 0 ps
path_moved f [] = refl
path_moved f (p ∷ []) = refl
path_moved f (p ∷ (q ∷ qs)) = ap (λ l. word_token 0 tk.Name p ∷ sign_token 0 si.PathMark ∷ l) (path_moved f (q ∷ qs))

label_moved : (f : ℕ) (x : List ℕ) → map unplaced (label_tokens f x) ≡ label_tokens 0 x
label_moved f [] = refl
label_moved f (c ∷ x) = refl

own_moved : (f : ℕ) (h : Head) (o : Own) → map unplaced (own_tokens f h o) ≡ own_tokens 0 h o
own_moved f h ow.Path = path_moved f (parts h.text)
own_moved f h ow.Label = label_moved f h.text
own_moved f h _ = refl

listed_moved : (f : ℕ) (us : List Spelled) → map unplaced (listed f us) ≡ listed 0 (moved us)
listed_moved f us = put (one_led f le.Nothing us) (all_led f (le.Before si.Comma) (drop 1 us)) _ _ (one_moved f le.Nothing us)
    (led_moved f (le.Before si.Comma) (drop 1 us) ∙ ap (all_led 0 (le.Before si.Comma)) (drop_moved us))

piece_moved : (f : ℕ) (h : Head) (p : Piece) (us : List Spelled) → map unplaced (piece_tokens f h p us) ≡ piece_tokens 0 h p (moved us)
piece_moved f h (pi.Fixed s) us = refl
piece_moved f h (pi.Own o) us = own_moved f h o
piece_moved f h (pi.Kid s) us = one_moved f le.Nothing us
piece_moved f h (pi.Optional s) us = one_moved f le.Nothing us
piece_moved f h (pi.Led c s) us = one_moved f (le.Before c) us
piece_moved f h (pi.Followed s c) us = one_moved f (le.Behind c) us
piece_moved f h (pi.Value s) us = one_moved f (value_lead h.text) us
piece_moved f h (pi.Each s) us = led_moved f le.Nothing us
piece_moved f h (pi.EachLed c s) us = led_moved f (le.Before c) us
piece_moved f h (pi.EachFollowed s c) us = led_moved f (le.Behind c) us
piece_moved f h (pi.More s) us = led_moved f (le.Before si.Comma) us
piece_moved f h (pi.List s) us = listed_moved f us
piece_moved f h (pi.Elements s) us = listed_moved f us
piece_moved f h (pi.MoreElements s) us = led_moved f (le.Before si.Comma) us

left_moved : (p : Piece) (us : List Spelled) → moved (left_behind p us) ≡ left_behind p (moved us)
left_moved (pi.Fixed s) us = refl
left_moved (pi.Own o) us = refl
left_moved (pi.Kid s) us = drop_moved us
left_moved (pi.Optional s) us = drop_moved us
left_moved (pi.Led c s) us = drop_moved us
left_moved (pi.Followed s c) us = drop_moved us
left_moved (pi.Value s) us = drop_moved us
left_moved _ us = refl

pieces_moved : (f : ℕ) (h : Head) (ps : List Piece) (us : List Spelled) →
    map unplaced (pieces_tokens f h ps us) ≡ pieces_tokens 0 h ps (moved us)
pieces_moved f h [] us = refl
pieces_moved f h (p ∷ ps) us = put (piece_tokens f h p us) (pieces_tokens f h ps (left_behind p us)) _ _ (piece_moved f h p us)
    (pieces_moved f h ps (left_behind p us) ∙ ap (pieces_tokens 0 h ps) (left_moved p us))

mutual
  unfolding spell

  pub spell_moved : (f : ℕ) (t : Node) → map unplaced (spell f t) ≡ spell 0 t
  spell_moved f (branch h ts) = pieces_moved f h (form_of h.kind) (spells f ts) ∙ ap (pieces_tokens 0 h (form_of h.kind))
      (spells_moved f ts)

  pub spells_moved : (f : ℕ) (ts : Nodes) → moved (spells f ts) ≡ spells 0 ts
  spells_moved f none = refl
  spells_moved f (more (branch h us) ts) = rw (spell_moved f (branch h us), spells_moved f ts) refl

-- the same of trees side by side
pub side_moved : (f : ℕ) (ts : Nodes) → map unplaced (all_led f le.Nothing (spells f ts)) ≡ all_led 0 le.Nothing (spells 0 ts)
side_moved f ts = led_moved f le.Nothing (spells f ts) ∙ ap (all_led 0 le.Nothing) (spells_moved f ts)
