-- Where the kids of a tree begin: their tokens are among the tree's own.
use Rattle.std.proofs.Common.{◌≡◌, ℕ, ◌+◌, ◌≤◌, List, [], ◌∷◌, ◌++◌, Bool, true, false, length, subst, arith, if◌then◌else◌}
use Rattle.std.specs.Prelude.{◌||◌}
use Rattle.std.proofs.lemmas.List.{append-nil, length-append}
use Rattle.hare_tree.specs.declared.token.Token.{Token}
use Rattle.hare_tree.specs.declared.form.Sign.TheVariants as si
use Rattle.hare_tree.specs.declared.form.Lead.{Lead}
use Rattle.hare_tree.specs.declared.form.Lead.TheVariants as le
use Rattle.hare_tree.specs.declared.form.Piece.{Piece}
use Rattle.hare_tree.specs.declared.form.Piece.TheVariants as pi
use Rattle.hare_tree.specs.Node.{Head, Nodes, none, more}
use Rattle.hare_tree.specs.Spell.{Spelled, sign_token, stands_alone, with_lead, all_led, listed, own_tokens, value_lead, pieces_tokens, spell, spells, spelled_kid}
use Rattle.hare_tree.specs.Shape.{is_shaped, is_absent, are_kids, kid_pieces}
use Rattle.hare_tree.specs.Levels.{sort_in}
use Rattle.hare_tree.specs.Depth.{lead_length, begins_led, begins_listed, begins, first_number, numbers_behind}
use Rattle.hare_automaton.proofs.Spelled.Paths.{split}

-- The tokens of each kid, which begin at these numbers, are among those from `low` on in front of `high`.
abbrev pub Within : ℕ → ℕ → List ℕ → List Spelled → Type 0
Within low high ns [] = Unit {0}
Within low high ns (u ∷ us) = (low ≤ first_number ns) × (first_number ns + length u.1 ≤ high) × Within low high (numbers_behind ns) us

wider : (low high a b : ℕ) (ns : List ℕ) (us : List Spelled) → a ≤ low → high ≤ b → Within low high ns us → Within a b ns us
wider low high a b ns [] e f w = tt
wider low high a b ns (u ∷ us) e f w = (omega (arith, w.0), omega (arith, w.1), wider low high a b (numbers_behind ns) us e f w.2)

-- ---- kids side by side

lead_within : (l : Lead) (u : Spelled) → lead_length l u + length u.1 ≤ length (with_lead 0 l u)
lead_within le.Nothing u = omega arith
lead_within (le.Before s) u = by (stands_alone u.0)
  where
    by : (b : Bool) → (if b then 0 else 1) + length u.1 ≤ length (if b then u.1 else sign_token 0 s ∷ u.1)
    by true = omega arith
    by false = omega arith
lead_within (le.Behind s) u = by (stands_alone u.0)
  where
    by : (b : Bool) → 0 + length u.1 ≤ length (if b then u.1 else u.1 ++ sign_token 0 s ∷ [])
    by true = omega arith
    by false = omega (arith, length-append u.1 (sign_token 0 s ∷ []))

-- in front of any other numbers
pub led_within : (l : Lead) (n : ℕ) (us : List Spelled) (ms : List ℕ) → Within n (n + length (all_led 0 l us)) (begins_led l n us ++ ms) us
led_within l n [] ms = tt
led_within l n (u ∷ us) ms =
    let a = lead_within l u in
    let b = length-append (with_lead 0 l u) (all_led 0 l us) in
    let m = n + length (with_lead 0 l u) in (
      omega arith,
      omega (arith, a, b),
      wider m (m + length (all_led 0 l us)) n _ _ us (omega arith) (omega (arith, b))
          (led_within l m us ms),
    )

-- trees side by side
pub side_within : (n : ℕ) (us : List Spelled) → Within n (n + length (all_led 0 le.Nothing us)) (begins_led le.Nothing n us) us
side_within n us =
    let ns = begins_led le.Nothing n us in
    subst (λ z. Within n (n + length (all_led 0 le.Nothing us)) z us) (append-nil ns) (led_within le.Nothing n us [])

listed_within : (n : ℕ) (us : List Spelled) (ms : List ℕ) → Within n (n + length (listed 0 us)) (begins_listed n us ++ ms) us
listed_within n [] ms = tt
listed_within n (u ∷ us) ms =
    let c = le.Before si.Comma in
    let a = length-append u.1 [] in
    let b = length-append (u.1 ++ []) (all_led 0 c us) in
    let m = n + length u.1 in (
      omega arith,
      omega (arith, a, b),
      wider m (m + length (all_led 0 c us)) n _ _ us (omega arith) (omega (arith, a, b))
          (led_within c m us ms),
    )

-- ---- the pieces of a form

-- a piece with no kid in it, of the tokens `v`, in front of the tokens `w`
behind_tokens : (n : ℕ) (v w : List Token) (ns : List ℕ) (us : List Spelled) → Within (n + length v) ((n + length v) + length w) ns us →
    Within n (n + length (v ++ w)) ns us
behind_tokens n v w ns us k = wider (n + length v) ((n + length v) + length w) n _ ns us (omega arith) (omega (arith, length-append v w)) k

-- a piece with one kid
behind_kid : (l : Lead) (n : ℕ) (u : Spelled) (w : List Token) (ns : List ℕ) (us : List Spelled) →
    Within (n + length (with_lead 0 l u ++ [])) ((n + length (with_lead 0 l u ++ [])) + length w) ns us →
    Within n (n + length ((with_lead 0 l u ++ []) ++ w)) ((n + lead_length l u) ∷ ns) (u ∷ us)
behind_kid l n u w ns us k =
    let a = length-append (with_lead 0 l u) [] in
    let b = length-append (with_lead 0 l u ++ []) w in
    (omega arith, omega (arith, lead_within l u, a, b), behind_tokens n (with_lead 0 l u ++ []) w ns us k)

-- a piece with all kids
led_in_front : (h : Head) (ps : List Piece) (l : Lead) (n : ℕ) (us : List Spelled) →
    Within n (n + length (all_led 0 l us ++ pieces_tokens 0 h ps [])) (begins_led l n us ++ begins h ps (n + length (all_led 0 l us)) []) us
led_in_front h ps l n us =
    let v = all_led 0 l us in
    let w = pieces_tokens 0 h ps [] in
    let ms = begins h ps (n + length v) [] in
    wider n (n + length v) n _ (begins_led l n us ++ ms) us (omega arith) (omega (arith, length-append v w)) (led_within l n us ms)

listed_in_front : (h : Head) (ps : List Piece) (n : ℕ) (us : List Spelled) →
    Within n (n + length (listed 0 us ++ pieces_tokens 0 h ps [])) (begins_listed n us ++ begins h ps (n + length (listed 0 us)) []) us
listed_in_front h ps n us =
    let v = listed 0 us in
    let w = pieces_tokens 0 h ps [] in
    let ms = begins h ps (n + length v) [] in
    wider n (n + length v) n _ (begins_listed n us ++ ms) us (omega arith) (omega (arith, length-append v w)) (listed_within n us ms)

pub pieces_within : (h : Head) (m : ℕ) (ps : List Piece) (n : ℕ) (ts : Nodes) → are_kids m (kid_pieces ps) ts ≡ true →
    Within n (n + length (pieces_tokens 0 h ps (spells 0 ts))) (begins h ps n (spells 0 ts)) (spells 0 ts)
unfolding is_shaped spell
pieces_within h m [] n none k = tt
pieces_within h m [] n (more t ts) k = cc
pieces_within h m (pi.Fixed s ∷ ps) n ts k =
    behind_tokens n (sign_token 0 s ∷ []) (pieces_tokens 0 h ps (spells 0 ts)) _ (spells 0 ts) (pieces_within h m ps (n + 1) ts k)
pieces_within h m (pi.Own o ∷ ps) n ts k =
    let v = own_tokens 0 h o in behind_tokens n v (pieces_tokens 0 h ps (spells 0 ts)) _ (spells 0 ts)
    (pieces_within h m ps (n + length v) ts k)
pieces_within h m (p ∷ ps) n none k = tt
pieces_within h m (pi.Kid s ∷ ps) n (more t ts) k =
    behind_kid le.Nothing n (spelled_kid 0 t) (pieces_tokens 0 h ps (spells 0 ts)) _ (spells 0 ts)
    (pieces_within h m ps _ ts (split (is_shaped (sort_in m s) t) (are_kids m (kid_pieces ps) ts) k).1)
pieces_within h m (pi.Optional s ∷ ps) n (more t ts) k =
    behind_kid le.Nothing n (spelled_kid 0 t) (pieces_tokens 0 h ps (spells 0 ts)) _ (spells 0 ts)
    (pieces_within h m ps _ ts (split (is_absent t || is_shaped s t) (are_kids m (kid_pieces ps) ts) k).1)
pieces_within h m (pi.Led a s ∷ ps) n (more t ts) k =
    behind_kid (le.Before a) n (spelled_kid 0 t) _ _ (spells 0 ts)
    (pieces_within h m ps _ ts (split (is_absent t || is_shaped s t) (are_kids m (kid_pieces ps) ts) k).1)
pieces_within h m (pi.Followed s a ∷ ps) n (more t ts) k =
    behind_kid (le.Behind a) n (spelled_kid 0 t) _ _ (spells 0 ts)
    (pieces_within h m ps _ ts (split (is_absent t || is_shaped s t) (are_kids m (kid_pieces ps) ts) k).1)
pieces_within h m (pi.Value s ∷ ps) n (more t ts) k =
    behind_kid (value_lead h.text) n (spelled_kid 0 t) _ _ (spells 0 ts)
    (pieces_within h m ps _ ts (split (is_absent t || is_shaped s t) (are_kids m (kid_pieces ps) ts) k).1)
pieces_within h m (pi.Each s ∷ ps) n (more t ts) k = led_in_front h ps le.Nothing n (spells 0 (more t ts))
pieces_within h m (pi.EachLed a s ∷ ps) n (more t ts) k = led_in_front h ps (le.Before a) n (spells 0 (more t ts))
pieces_within h m (pi.EachFollowed s a ∷ ps) n (more t ts) k = led_in_front h ps (le.Behind a) n (spells 0 (more t ts))
pieces_within h m (pi.More s ∷ ps) n (more t ts) k = led_in_front h ps (le.Before si.Comma) n (spells 0 (more t ts))
pieces_within h m (pi.MoreElements s ∷ ps) n (more t ts) k = led_in_front h ps (le.Before si.Comma) n (spells 0 (more t ts))
pieces_within h m (pi.List s ∷ ps) n (more t ts) k = listed_in_front h ps n (spells 0 (more t ts))
pieces_within h m (pi.Elements s ∷ ps) n (more t ts) k = listed_in_front h ps n (spells 0 (more t ts))
