-- Tokens with weights: the tokens of a tree weigh as much as its own and its kids' together, or more.
use Rattle.std.proofs.Common.{◌≡◌, ℕ, ◌+◌, ◌≤◌, List, [], ◌∷◌, ◌++◌, Bool, true, false, zero-add, ap, ◌∙◌, arith, if◌then◌else◌}
use Rattle.std.specs.Prelude.{sum_by}
use Rattle.std.proofs.lemmas.Bool.{and_parts}
use Rattle.std.proofs.lemmas.List.Sums.{sum_by-append}
use Rattle.hare_tree.specs.declared.token.Token.{Token}
use Rattle.hare_tree.specs.declared.form.Sign.{Sign}
use Rattle.hare_tree.specs.declared.form.Sign.TheVariants as si
use Rattle.hare_tree.specs.declared.form.Lead.{Lead}
use Rattle.hare_tree.specs.declared.form.Lead.TheVariants as le
use Rattle.hare_tree.specs.declared.form.Piece.{Piece}
use Rattle.hare_tree.specs.declared.form.Piece.TheVariants as pi
use Rattle.hare_tree.specs.Node.{Head, Node, Nodes, none, more, head, nodes_of}
use Rattle.hare_tree.specs.Spell.{Spelled, sign_token, own_tokens, stands_alone, with_lead, all_led, one_led, listed, value_lead, spell, spells, spell_all, pieces_tokens}
use Rattle.hare_tree.specs.Shape.{are_kids, kid_pieces}

module _ (w : Token → ℕ) (f : ℕ) where
  abbrev pub weight : List Token → ℕ
  weight ts = sum_by w ts

  -- the kids
  abbrev pub kids_weight : Nodes → ℕ
  kids_weight none = 0
  kids_weight (more t ts) = weight (spell f t) + kids_weight ts

  -- what a form has of its own
  abbrev pub own_weight : Head → List Piece → ℕ
  own_weight h [] = 0
  own_weight h (pi.Fixed s ∷ ps) = w (sign_token f s) + own_weight h ps
  own_weight h (pi.Own o ∷ ps) = weight (own_tokens f h o) + own_weight h ps
  own_weight h (_ ∷ ps) = own_weight h ps

  cons_weight : (t : Token) (ts : List Token) → weight (t ∷ ts) ≡ w t + weight ts
  cons_weight t ts = sum_by-append w (t ∷ []) ts ∙ ap (λ n. n + weight ts) (zero-add (w t))

  fixed_weight : (h : Head) (s : Sign) (ps : List Piece) (us : List Spelled) → weight (pieces_tokens f h (pi.Fixed s ∷ ps) us) ≡ w
      (sign_token f s) + weight (pieces_tokens f h ps us)
  fixed_weight h s ps us = cons_weight (sign_token f s) (pieces_tokens f h ps us)

  -- a sign that stands with a kid comes on top
  lead_weight : (l : Lead) (u : Spelled) → weight u.1 ≤ weight (with_lead f l u)
  lead_weight le.Nothing u = omega arith
  lead_weight (le.Before s) u = by (stands_alone u.0)
    where
      by : (b : Bool) → weight u.1 ≤ weight (if b then u.1 else sign_token f s ∷ u.1)
      by true = omega arith
      by false = omega (arith, cons_weight (sign_token f s) u.1)
  lead_weight (le.Behind s) u = by (stands_alone u.0)
    where
      by : (b : Bool) → weight u.1 ≤ weight (if b then u.1 else u.1 ++ sign_token f s ∷ [])
      by true = omega arith
      by false = omega (arith, sum_by-append w u.1 (sign_token f s ∷ []))

  all_weight : (l : Lead) (ts : Nodes) → kids_weight ts ≤ weight (all_led f l (spells f ts))
  unfolding spell
  all_weight l none = omega arith
  all_weight l (more t ts) =
      omega (
        arith,
        lead_weight l ((head t).kind, spell f t),
        all_weight l ts,
        sum_by-append w (with_lead f l ((head t).kind, spell f t))
            (all_led f l (spells f ts)),
      )

  one_weight : (l : Lead) (t : Node) (ts : Nodes) → weight (spell f t) ≤ weight (one_led f l (spells f (more t ts)))
  unfolding spell
  one_weight l t ts = omega (arith, lead_weight l ((head t).kind, spell f t), sum_by-append w (with_lead f l ((head t).kind, spell f t)) [])

  list_weight : (ts : Nodes) → kids_weight ts ≤ weight (listed f (spells f ts))
  unfolding spell
  list_weight none = omega arith
  list_weight (more t ts) =
      omega (
        arith,
        one_weight le.Nothing t ts,
        all_weight (le.Before si.Comma) ts,
        sum_by-append w
            (one_led f le.Nothing (spells f (more t ts))) (all_led f (le.Before si.Comma) (spells f ts)),
      )

  -- without kids
  none_weight : (h : Head) (ps : List Piece) → own_weight h ps ≤ weight (pieces_tokens f h ps [])
  none_weight h [] = omega arith
  none_weight h (pi.Fixed s ∷ ps) = omega (arith, none_weight h ps, fixed_weight h s ps [])
  none_weight h (pi.Own o ∷ ps) = omega (arith, none_weight h ps, sum_by-append w (own_tokens f h o) (pieces_tokens f h ps []))
  none_weight h (_ ∷ ps) = none_weight h ps

  -- a kid that stands by itself, in front of the others
  step : (h : Head) (l : Lead) (t : Node) (ts : Nodes) (ps : List Piece) →
      own_weight h ps + kids_weight ts ≤ weight (pieces_tokens f h ps (spells f ts)) →
      own_weight h ps + kids_weight (more t ts) ≤ weight (one_led f l (spells f (more t ts)) ++ pieces_tokens f h ps (spells f ts))
  step h l t ts ps i =
      omega (arith, i, one_weight l t ts, sum_by-append w (one_led f l (spells f (more t ts))) (pieces_tokens f h ps (spells f ts)))

  -- all kids that are left
  last : (h : Head) (a : List Token) (ts : Nodes) (ps : List Piece) → kids_weight ts ≤ weight a →
      own_weight h ps + kids_weight ts ≤ weight (a ++ pieces_tokens f h ps [])
  last h a ts ps i = omega (arith, i, none_weight h ps, sum_by-append w a (pieces_tokens f h ps []))

  pub pieces_weight : (n : ℕ) (h : Head) (ps : List Piece) (ts : Nodes) → are_kids n (kid_pieces ps) ts ≡ true →
      own_weight h ps + kids_weight ts ≤ weight (pieces_tokens f h ps (spells f ts))
  unfolding spell are_kids
  pieces_weight n h [] none e = omega arith
  pieces_weight n h [] (more t ts) e = cc
  pieces_weight n h (pi.Fixed s ∷ ps) ts e = omega (arith, pieces_weight n h ps ts e, fixed_weight h s ps (spells f ts))
  pieces_weight n h (pi.Own o ∷ ps) ts e =
      omega (arith, pieces_weight n h ps ts e, sum_by-append w (own_tokens f h o) (pieces_tokens f h ps (spells f ts)))
  pieces_weight n h (pi.Kid s ∷ ps) none e = cc
  pieces_weight n h (pi.Kid s ∷ ps) (more t ts) e = step h le.Nothing t ts ps (pieces_weight n h ps ts (and_parts _ _ e).1)
  pieces_weight n h (pi.Optional s ∷ ps) none e = cc
  pieces_weight n h (pi.Optional s ∷ ps) (more t ts) e = step h le.Nothing t ts ps (pieces_weight n h ps ts (and_parts _ _ e).1)
  pieces_weight n h (pi.Led c s ∷ ps) none e = cc
  pieces_weight n h (pi.Led c s ∷ ps) (more t ts) e = step h (le.Before c) t ts ps (pieces_weight n h ps ts (and_parts _ _ e).1)
  pieces_weight n h (pi.Followed s c ∷ ps) none e = cc
  pieces_weight n h (pi.Followed s c ∷ ps) (more t ts) e = step h (le.Behind c) t ts ps (pieces_weight n h ps ts (and_parts _ _ e).1)
  pieces_weight n h (pi.Value s ∷ ps) none e = cc
  pieces_weight n h (pi.Value s ∷ ps) (more t ts) e = step h (value_lead h.text) t ts ps (pieces_weight n h ps ts (and_parts _ _ e).1)
  pieces_weight n h (pi.Each s ∷ ps) ts e = last h (all_led f le.Nothing (spells f ts)) ts ps (all_weight le.Nothing ts)
  pieces_weight n h (pi.EachLed c s ∷ ps) ts e = last h (all_led f (le.Before c) (spells f ts)) ts ps (all_weight (le.Before c) ts)
  pieces_weight n h (pi.EachFollowed s c ∷ ps) ts e = last h (all_led f (le.Behind c) (spells f ts)) ts ps (all_weight (le.Behind c) ts)
  pieces_weight n h (pi.More s ∷ ps) ts e = last h (all_led f (le.Before si.Comma) (spells f ts)) ts ps (all_weight (le.Before si.Comma) ts)
  pieces_weight n h (pi.List s ∷ ps) ts e = last h (listed f (spells f ts)) ts ps (list_weight ts)
  pieces_weight n h (pi.Elements s ∷ ps) ts e = last h (listed f (spells f ts)) ts ps (list_weight ts)
  pieces_weight n h (pi.MoreElements s ∷ ps) ts e =
      last h (all_led f (le.Before si.Comma) (spells f ts)) ts ps (all_weight (le.Before si.Comma) ts)

  -- the tokens of files side by side
  pub side_weight : (ts : List Node) → kids_weight (nodes_of ts) ≤ weight (spell_all f ts)
  side_weight ts = all_weight le.Nothing (nodes_of ts)
