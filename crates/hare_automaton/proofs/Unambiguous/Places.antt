-- Places: the tokens of a tree say nothing of them, and a tree's tokens with their places give them all.
use Rattle.std.proofs.Common.{◌≡◌, ℕ, ◌+◌, List, [], ◌∷◌, length, refl, ap, sym, ◌∙◌, subst, if◌then◌else◌}
use Rattle.hare_tree.specs.declared.place.Place.{Place}
use Rattle.hare_tree.specs.declared.token.Token.{Token}
use Rattle.hare_tree.specs.declared.form.Own.{Own}
use Rattle.hare_tree.specs.declared.form.Own.TheVariants as ow
use Rattle.hare_tree.specs.declared.form.Piece.{Piece}
use Rattle.hare_tree.specs.declared.form.Piece.TheVariants as pi
use Rattle.hare_tree.specs.Node.{Head, Node, Nodes, branch, none, more}
use Rattle.hare_tree.specs.Forms.{form_of}
use Rattle.hare_tree.specs.Spell.{start_of, Spelled, piece_tokens, pieces_tokens, spell, spells}
use Rattle.hare_tree.specs.Shape.{is_none}
use Rattle.hare_tree.specs.Spell.{own_tokens, left_behind}
use Rattle.hare_tree.specs.Depth.{begins as begin_at, begins_in, place_in, is_operator, first_number, numbers_behind}
use Rattle.hare_tree.proofs.Low.Fitting.{fits_parts}
use Rattle.hare_tree.specs.Grammar.{HasPlaces, HavePlaces, place_of, joined}
use Rattle.hare_automaton.specs.OneTree.{plain, plains, plain_head, PlacesDecideTrees, TokensHaveOneTree}
use Rattle.hare_automaton.proofs.Unambiguous.OneTree.{sorts_have_one_tree}
use Rattle.hare_automaton.proofs.Machine.Still.{still_spell}

-- ---- tokens say nothing of places

own_plain : (f g : ℕ) (h : Head) (o : Own) → own_tokens f (plain_head g h) o ≡ own_tokens f h o
own_plain f g h ow.Nothing = refl
own_plain f g h _ = refl

piece_plain : (f g : ℕ) (h : Head) (p : Piece) (us : List Spelled) → piece_tokens f (plain_head g h) p us ≡ piece_tokens f h p us
piece_plain f g h (pi.Own o) us = own_plain f g h o
piece_plain f g h (pi.Fixed s) us = refl
piece_plain f g h _ us = refl

pieces_plain : (f g : ℕ) (h : Head) (ps : List Piece) (us : List Spelled) → pieces_tokens f (plain_head g h) ps us ≡ pieces_tokens f h ps us
pieces_plain f g h [] us = refl
pieces_plain f g h (p ∷ ps) us = rw (piece_plain f g h p us, pieces_plain f g h ps (left_behind p us)) refl

mutual
  unfolding spell

  pub spell_plain : (f g : ℕ) (t : Node) → spell f (plain g t) ≡ spell f t
  spell_plain f g (branch h ts) = ap (λ us. pieces_tokens f (plain_head g h) (form_of h.kind) us) (spells_plain f g ts) ∙ pieces_plain f g h
      (form_of h.kind) (spells f ts)

  pub spells_plain : (f g : ℕ) (ts : Nodes) → spells f (plains g ts) ≡ spells f ts
  spells_plain f g none = refl
  spells_plain f g (more (branch h us) ts) = rw (spell_plain f g (branch h us), spells_plain f g ts) refl

-- ---- where the kids of a tree begin

begins_in_plain : (g : ℕ) (h : Head) (p : Piece) (n : ℕ) (us : List Spelled) → begins_in (plain_head g h) p n us ≡ begins_in h p n us
begins_in_plain g h (pi.Fixed s) n us = refl
begins_in_plain g h _ n us = refl

begins_plain : (g : ℕ) (h : Head) (ps : List Piece) (n : ℕ) (us : List Spelled) → begin_at (plain_head g h) ps n us ≡ begin_at h ps n us
begins_plain g h [] n us = refl
begins_plain g h (p ∷ ps) n us = rw (
  begins_in_plain g h p n us,
  piece_plain 0 g h p us,
  begins_plain g h ps
      (n + length (piece_tokens 0 h p us)) (left_behind p us),
) refl

-- the numbers and the place are those of the tree without places
begins_of : (n : ℕ) (h : Head) (us : Nodes) →
    begin_at h (form_of h.kind) n (spells 0 us) ≡ begin_at (plain_head 0 h) (form_of h.kind) n (spells 0 (plains 0 us))
begins_of n h us = sym (begins_plain 0 h (form_of h.kind) n (spells 0 us)) ∙ ap (begin_at (plain_head 0 h) (form_of h.kind) n)
    (sym (spells_plain 0 0 us))

place_of_plain : (h : Head) (us : Nodes) → place_in h us ≡ place_in (plain_head 0 h) (plains 0 us)
place_of_plain h none = refl
place_of_plain h (more t ts) = ap (λ u. if is_operator h.kind then length u else 0) (sym (spell_plain 0 0 t))

abbrev place_at_head : ℕ → List Token → ℕ → Head → Nodes → Place
place_at_head f ts n h us = if is_none h.kind then start_of f else place_of ts (n + place_in h us)

place_plain : (f : ℕ) (ts : List Token) (n : ℕ) (h : Head) (us : Nodes) →
    place_at_head f ts n h us ≡ place_at_head f ts n (plain_head 0 h) (plains 0 us)
place_plain f ts n h us = ap (λ m. if is_none h.kind then start_of f else place_of ts (n + m)) (place_of_plain h us)

abbrev head_at : Place → Head → Head
head_at p h = record { kind = h.kind; place = p; text = h.text; number = h.number; suffix = h.suffix }

abbrev head_in_tree : Node → Head
head_in_tree (branch h ts) = h

abbrev kids_in_tree : Node → Nodes
kids_in_tree (branch h ts) = ts

abbrev first_in : Nodes → Node → Node
first_in none t = t
first_in (more u us) t = u

abbrev others_in : Nodes → Nodes
others_in none = none
others_in (more u us) = us

mutual
  unfolding HasPlaces

  pub places_decide : PlacesDecideTrees
  places_decide f ts n (branch h us) (branch h' us') e p p' =
      let a : plain_head 0 h ≡ plain_head 0 h' = ap head_in_tree e in
      let b : plains 0 us ≡ plains 0 us' = ap kids_in_tree e in
      let at : h.place ≡ h'.place =
      p.0 ∙ place_plain f ts n h us ∙ ap (λ x. place_at_head f ts n x (plains 0 us)) a ∙ ap (λ x. place_at_head f ts n (plain_head 0 h') x)
      b ∙ sym (place_plain f ts n h' us') ∙ sym p'.0 in
      let numbers : begin_at h' (form_of h'.kind) n (spells 0 us') ≡ begin_at h (form_of h.kind) n (spells 0 us) =
      begins_of n h' us' ∙ ap (λ x. begin_at x (form_of x.kind) n (spells 0 (plains 0 us'))) (sym a) ∙ ap
      (λ x. begin_at (plain_head 0 h) (form_of h.kind) n (spells 0 x)) (sym b) ∙ sym (begins_of n h us) in
      let kids = have_places_decide f ts (begin_at h (form_of h.kind) n (spells 0 us)) us us' b p.1
      (subst (λ x. HavePlaces f ts x us') numbers p'.1) in
      let heads : h ≡ h' = ap (head_at h.place) a ∙ ap (λ x. head_at x h') at in
      ap (λ x. branch x us) heads ∙ ap (branch h') kids

  pub have_places_decide : (f : ℕ) (ts : List Token) (ns : List ℕ) (us us' : Nodes) → plains 0 us ≡ plains 0 us' → HavePlaces f ts ns us →
      HavePlaces f ts ns us' → us ≡ us'
  have_places_decide f ts ns none none e p p' = refl
  have_places_decide f ts ns none (more u' us') e p p' = cc
  have_places_decide f ts ns (more u us) none e p p' = cc
  have_places_decide f ts ns (more u us) (more u' us') e p p' =
      let a : plain 0 u ≡ plain 0 u' = ap (λ x. first_in x (plain 0 u)) e in
      let b : plains 0 us ≡ plains 0 us' = ap others_in e in
      ap (λ x. more x us) (places_decide f ts (first_number ns) u u' a p.0 p'.0) ∙ ap (more u')
      (have_places_decide f ts (numbers_behind ns) us us' b p.1 p'.1)

-- ---- the law of one tree, with places

pub tokens_have_one_tree : TokensHaveOneTree
tokens_have_one_tree s l file ts t t' p p' =
    let e : spell 0 t ≡ spell 0 t' = sym (still_spell 0 t) ∙ p.spelled ∙ sym p'.spelled ∙ still_spell 0 t' in
    places_decide file (joined ts) 0 t t' (sorts_have_one_tree 0 s l t t' (fits_parts s t p.fits).0 (fits_parts s t' p'.fits).0 e) p.placed
    p'.placed
