-- The tokens of a tree stand at the start of its file.
use Rattle.std.proofs.Common.{◌≡◌, ℕ, List, [], ◌∷◌, ◌++◌, Bool, true, false, map, drop, refl, ap, ◌∙◌, subst, if◌then◌else◌}
use Rattle.std.proofs.lemmas.List.{map-append}
use Rattle.hare_tree.specs.declared.place.Place.{Place}
use Rattle.hare_tree.specs.declared.token.TokenKind.TheVariants as tk
use Rattle.hare_tree.specs.declared.token.Token.{Token}
use Rattle.hare_tree.specs.declared.form.Sign.TheVariants as si
use Rattle.hare_tree.specs.declared.form.Own.{Own}
use Rattle.hare_tree.specs.declared.form.Own.TheVariants as ow
use Rattle.hare_tree.specs.declared.form.Lead.{Lead}
use Rattle.hare_tree.specs.declared.form.Lead.TheVariants as le
use Rattle.hare_tree.specs.declared.form.Piece.{Piece}
use Rattle.hare_tree.specs.declared.form.Piece.TheVariants as pi
use Rattle.hare_tree.specs.Node.{Head, Node, Nodes, branch, none, more}
use Rattle.hare_tree.specs.Forms.{form_of}
use Rattle.hare_tree.specs.Spell.{start_of, word_token, sign_token, parts, path_tokens, Spelled, stands_alone, with_lead, all_led, one_led, own_tokens, label_tokens, left_behind, value_lead, listed, piece_tokens, pieces_tokens, spell, spells}

-- the token at the start of the file
abbrev pub put_at : ℕ → Token → Token
put_at f t = record { kind = t.kind; place = start_of f; text = t.text; number = t.number; suffix = t.suffix }

module _ (f : ℕ) where
  abbrev pub Still : List Token → Type 0
  Still u = map (put_at f) u ≡ u

  abbrev pub AllStill : List Spelled → Type 0
  AllStill [] = Unit {0}
  AllStill (u ∷ us) = Still u.1 × AllStill us

  pub still_append : (u v : List Token) → Still u → Still v → Still (u ++ v)
  still_append u v e d = map-append (put_at f) u v ∙ (rw (e, d) refl)

  still_lead : (l : Lead) (u : Spelled) → Still u.1 → Still (with_lead f l u)
  still_lead le.Nothing u e = e
  still_lead (le.Before s) u e = by (stands_alone u.0)
    where
      by : (b : Bool) → Still (if b then u.1 else sign_token f s ∷ u.1)
      by true = e
      by false = ap (λ x. sign_token f s ∷ x) e
  still_lead (le.Behind s) u e = by (stands_alone u.0)
    where
      by : (b : Bool) → Still (if b then u.1 else u.1 ++ sign_token f s ∷ [])
      by true = e
      by false = still_append u.1 (sign_token f s ∷ []) e refl

  pub still_led : (l : Lead) (us : List Spelled) → AllStill us → Still (all_led f l us)
  still_led l [] a = refl
  still_led l (u ∷ us) a = still_append (with_lead f l u) (all_led f l us) (still_lead l u a.0) (still_led l us a.1)

  still_one : (l : Lead) (us : List Spelled) → AllStill us → Still (one_led f l us)
  still_one l [] a = refl
  still_one l (u ∷ us) a = still_append (with_lead f l u) [] (still_lead l u a.0) refl

  still_drop : (us : List Spelled) → AllStill us → AllStill (drop 1 us)
  still_drop [] a = tt
  still_drop (u ∷ us) a = a.1

  still_path : (ps : List (List ℕ)) → Still (path_tokens f ps)
  still_path [] = refl
  still_path (p ∷ []) = refl
  still_path (p ∷ (q ∷ qs)) = ap (λ l. word_token f tk.Name p ∷ sign_token f si.PathMark ∷ l) (still_path (q ∷ qs))

  still_label : (x : List ℕ) → Still (label_tokens f x)
  still_label [] = refl
  still_label (c ∷ x) = refl

  still_own : (h : Head) (o : Own) → Still (own_tokens f h o)
  still_own h ow.Path = still_path (parts h.text)
  still_own h ow.Label = still_label h.text
  still_own h _ = refl

  still_listed : (us : List Spelled) → AllStill us → Still (listed f us)
  still_listed us a = still_append (one_led f le.Nothing us) (all_led f (le.Before si.Comma) (drop 1 us)) (still_one le.Nothing us a)
      (still_led (le.Before si.Comma) (drop 1 us) (still_drop us a))

  still_piece : (h : Head) (p : Piece) (us : List Spelled) → AllStill us → Still (piece_tokens f h p us)
  still_piece h (pi.Fixed s) us a = refl
  still_piece h (pi.Own o) us a = still_own h o
  still_piece h (pi.Kid s) us a = still_one le.Nothing us a
  still_piece h (pi.Optional s) us a = still_one le.Nothing us a
  still_piece h (pi.Led c s) us a = still_one (le.Before c) us a
  still_piece h (pi.Followed s c) us a = still_one (le.Behind c) us a
  still_piece h (pi.Value s) us a = still_one (value_lead h.text) us a
  still_piece h (pi.Each s) us a = still_led le.Nothing us a
  still_piece h (pi.EachLed c s) us a = still_led (le.Before c) us a
  still_piece h (pi.EachFollowed s c) us a = still_led (le.Behind c) us a
  still_piece h (pi.More s) us a = still_led (le.Before si.Comma) us a
  still_piece h (pi.List s) us a = still_listed us a
  still_piece h (pi.Elements s) us a = still_listed us a
  still_piece h (pi.MoreElements s) us a = still_led (le.Before si.Comma) us a

  still_left : (p : Piece) (us : List Spelled) → AllStill us → AllStill (left_behind p us)
  still_left (pi.Fixed s) us a = a
  still_left (pi.Own o) us a = a
  still_left (pi.Kid s) us a = still_drop us a
  still_left (pi.Optional s) us a = still_drop us a
  still_left (pi.Led c s) us a = still_drop us a
  still_left (pi.Followed s c) us a = still_drop us a
  still_left (pi.Value s) us a = still_drop us a
  still_left _ us a = tt

  still_pieces : (h : Head) (ps : List Piece) (us : List Spelled) → AllStill us → Still (pieces_tokens f h ps us)
  still_pieces h [] us a = refl
  still_pieces h (p ∷ ps) us a = still_append (piece_tokens f h p us) (pieces_tokens f h ps (left_behind p us)) (still_piece h p us a)
      (still_pieces h ps (left_behind p us) (still_left p us a))

  mutual
    unfolding spell

    pub still_spell : (t : Node) → Still (spell f t)
    still_spell (branch h ts) = still_pieces h (form_of h.kind) (spells f ts) (still_spells ts)

    pub still_spells : (ts : Nodes) → AllStill (spells f ts)
    still_spells none = tt
    still_spells (more t ts) = (still_spell t, still_spells ts)

-- the place of the first token
abbrev first_at : Place → List Token → Place
first_at p [] = p
first_at p (t ∷ ts) = t.place

pub first_place : (f : ℕ) (t : Node) (x : Token) (u : List Token) → spell f t ≡ x ∷ u → start_of f ≡ x.place
first_place f t x u e = ap (first_at (start_of f)) (subst (λ v. map (put_at f) v ≡ v) e (still_spell f t))
