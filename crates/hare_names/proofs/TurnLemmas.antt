-- Where the kids of a tree begin: the tokens of each stand behind those of the kids before it.
use Rattle.std.proofs.Common.{◌≡◌, ℕ, ◌+◌, ◌≤◌, List, [], ◌∷◌, ◌++◌, Bool, true, false, length, subst, arith, if◌then◌else◌}
use Rattle.std.specs.Prelude.{◌||◌}
use Rattle.std.proofs.lemmas.Bool.{and_parts}
use Rattle.std.proofs.lemmas.List.{append-nil, length-append}
use Rattle.hare_tree.specs.declared.token.Token.{Token}
use Rattle.hare_tree.specs.declared.form.Sign.TheVariants as si
use Rattle.hare_tree.specs.declared.form.Lead.{Lead}
use Rattle.hare_tree.specs.declared.form.Lead.TheVariants as le
use Rattle.hare_tree.specs.declared.form.Piece.{Piece}
use Rattle.hare_tree.specs.declared.form.Piece.TheVariants as pi
use Rattle.hare_tree.specs.Node.{Head, Nodes, none, more}
use Rattle.hare_tree.specs.Spell.{Spelled, sign_token, stands_alone, with_lead, all_led, listed, own_tokens, value_lead, pieces_tokens, spell, spells, spelled_kid}
use Rattle.hare_tree.specs.Shape.{is_shaped, is_absent, are_kids, kid_pieces}
use Rattle.hare_tree.specs.Levels.{sort_in}
use Rattle.hare_tree.specs.Depth.{lead_length, begins_led, begins_listed, begins, first_number, numbers_behind}

-- The tokens of each kid, which begin at these numbers, stand behind those of the kids before it, from `low` on and in front of `high`.
abbrev pub InTurn : ℕ → ℕ → List ℕ → List Spelled → Type 0
InTurn low high ns [] = low ≤ high
InTurn low high ns (u ∷ us) = (low ≤ first_number ns) × InTurn (first_number ns + length u.1) high (numbers_behind ns) us

pub wider : (low high a b : ℕ) (ns : List ℕ) (us : List Spelled) → a ≤ low → high ≤ b → InTurn low high ns us → InTurn a b ns us
wider low high a b ns [] e f w = omega arith
wider low high a b ns (u ∷ us) e f w = (
  omega (arith, w.0),
  wider (first_number ns + length u.1) high (first_number ns + length u.1) b
      (numbers_behind ns) us (omega arith) f w.1,
)

-- ---- kids side by side

lead_within : (l : Lead) (u : Spelled) → lead_length l u + length u.1 ≤ length (with_lead 0 l u)
lead_within le.Nothing u = omega arith
lead_within (le.Before s) u = by (stands_alone u.0)
  where
    by : (b : Bool) → (if b then 0 else 1) + length u.1 ≤ length (if b then u.1 else sign_token 0 s ∷ u.1)
    by true = omega arith
    by false = omega arith
lead_within (le.Behind s) u = by (stands_alone u.0)
  where
    by : (b : Bool) → 0 + length u.1 ≤ length (if b then u.1 else u.1 ++ sign_token 0 s ∷ [])
    by true = omega arith
    by false = omega (arith, length-append u.1 (sign_token 0 s ∷ []))

-- in front of any other numbers
led_turns : (l : Lead) (n : ℕ) (us : List Spelled) (ms : List ℕ) → InTurn n (n + length (all_led 0 l us)) (begins_led l n us ++ ms) us
led_turns l n [] ms = omega arith
led_turns l n (u ∷ us) ms =
    let a = lead_within l u in
    let b = length-append (with_lead 0 l u) (all_led 0 l us) in
    let m = n + length (with_lead 0 l u) in (
      omega arith,
      wider m (m + length (all_led 0 l us)) ((n + lead_length l u) + length u.1) _ _ us (omega (arith, a)) (omega (arith, b))
          (led_turns l m us ms),
    )

-- trees side by side
pub side_turns : (n : ℕ) (us : List Spelled) → InTurn n (n + length (all_led 0 le.Nothing us)) (begins_led le.Nothing n us) us
side_turns n us =
    let ns = begins_led le.Nothing n us in
    subst (λ z. InTurn n (n + length (all_led 0 le.Nothing us)) z us) (append-nil ns) (led_turns le.Nothing n us [])

listed_turns : (n : ℕ) (us : List Spelled) (ms : List ℕ) → InTurn n (n + length (listed 0 us)) (begins_listed n us ++ ms) us
listed_turns n [] ms = omega arith
listed_turns n (u ∷ us) ms =
    let c = le.Before si.Comma in
    let a = length-append u.1 [] in
    let b = length-append (u.1 ++ []) (all_led 0 c us) in
    let m = n + length u.1 in
    (omega arith, wider m (m + length (all_led 0 c us)) m _ _ us (omega arith) (omega (arith, a, b)) (led_turns c m us ms))

-- ---- the pieces of a form

-- a piece with no kid in it, of the tokens `v`, in front of the tokens `w`
behind_tokens : (n : ℕ) (v w : List Token) (ns : List ℕ) (us : List Spelled) → InTurn (n + length v) ((n + length v) + length w) ns us →
    InTurn n (n + length (v ++ w)) ns us
behind_tokens n v w ns us k = wider (n + length v) ((n + length v) + length w) n _ ns us (omega arith) (omega (arith, length-append v w)) k

-- a piece with one kid
behind_kid : (l : Lead) (n : ℕ) (u : Spelled) (w : List Token) (ns : List ℕ) (us : List Spelled) →
    InTurn (n + length (with_lead 0 l u ++ [])) ((n + length (with_lead 0 l u ++ [])) + length w) ns us →
    InTurn n (n + length ((with_lead 0 l u ++ []) ++ w)) ((n + lead_length l u) ∷ ns) (u ∷ us)
behind_kid l n u w ns us k =
    let a = length-append (with_lead 0 l u) [] in
    let b = length-append (with_lead 0 l u ++ []) w in
    let m = n + length (with_lead 0 l u ++ []) in (
      omega arith,
      wider m (m + length w) ((n + lead_length l u) + length u.1) _ ns us (omega (arith, lead_within l u, a))
          (omega (arith, b)) k,
    )

-- a piece with all kids
led_in_front : (h : Head) (ps : List Piece) (l : Lead) (n : ℕ) (us : List Spelled) →
    InTurn n (n + length (all_led 0 l us ++ pieces_tokens 0 h ps [])) (begins_led l n us ++ begins h ps (n + length (all_led 0 l us)) []) us
led_in_front h ps l n us =
    let v = all_led 0 l us in
    let w = pieces_tokens 0 h ps [] in
    let ms = begins h ps (n + length v) [] in
    wider n (n + length v) n _ (begins_led l n us ++ ms) us (omega arith) (omega (arith, length-append v w)) (led_turns l n us ms)

listed_in_front : (h : Head) (ps : List Piece) (n : ℕ) (us : List Spelled) →
    InTurn n (n + length (listed 0 us ++ pieces_tokens 0 h ps [])) (begins_listed n us ++ begins h ps (n + length (listed 0 us)) []) us
listed_in_front h ps n us =
    let v = listed 0 us in
    let w = pieces_tokens 0 h ps [] in
    let ms = begins h ps (n + length v) [] in
    wider n (n + length v) n _ (begins_listed n us ++ ms) us (omega arith) (omega (arith, length-append v w)) (listed_turns n us ms)

pub pieces_turns : (h : Head) (m : ℕ) (ps : List Piece) (n : ℕ) (ts : Nodes) → are_kids m (kid_pieces ps) ts ≡ true →
    InTurn n (n + length (pieces_tokens 0 h ps (spells 0 ts))) (begins h ps n (spells 0 ts)) (spells 0 ts)
unfolding is_shaped spell
pieces_turns h m [] n none k = omega arith
pieces_turns h m [] n (more t ts) k = cc
pieces_turns h m (pi.Fixed s ∷ ps) n ts k = behind_tokens n (sign_token 0 s ∷ []) (pieces_tokens 0 h ps (spells 0 ts)) _ (spells 0 ts)
    (pieces_turns h m ps (n + 1) ts k)
pieces_turns h m (pi.Own o ∷ ps) n ts k =
    let v = own_tokens 0 h o in behind_tokens n v (pieces_tokens 0 h ps (spells 0 ts)) _ (spells 0 ts)
    (pieces_turns h m ps (n + length v) ts k)
pieces_turns h m (p ∷ ps) n none k = omega arith
pieces_turns h m (pi.Kid s ∷ ps) n (more t ts) k =
    behind_kid le.Nothing n (spelled_kid 0 t) (pieces_tokens 0 h ps (spells 0 ts)) _ (spells 0 ts)
    (pieces_turns h m ps _ ts (and_parts (is_shaped (sort_in m s) t) (are_kids m (kid_pieces ps) ts) k).1)
pieces_turns h m (pi.Optional s ∷ ps) n (more t ts) k =
    behind_kid le.Nothing n (spelled_kid 0 t) (pieces_tokens 0 h ps (spells 0 ts)) _ (spells 0 ts)
    (pieces_turns h m ps _ ts (and_parts (is_absent t || is_shaped s t) (are_kids m (kid_pieces ps) ts) k).1)
pieces_turns h m (pi.Led a s ∷ ps) n (more t ts) k =
    behind_kid (le.Before a) n (spelled_kid 0 t) _ _ (spells 0 ts)
    (pieces_turns h m ps _ ts (and_parts (is_absent t || is_shaped s t) (are_kids m (kid_pieces ps) ts) k).1)
pieces_turns h m (pi.Followed s a ∷ ps) n (more t ts) k =
    behind_kid (le.Behind a) n (spelled_kid 0 t) _ _ (spells 0 ts)
    (pieces_turns h m ps _ ts (and_parts (is_absent t || is_shaped s t) (are_kids m (kid_pieces ps) ts) k).1)
pieces_turns h m (pi.Value s ∷ ps) n (more t ts) k =
    behind_kid (value_lead h.text) n (spelled_kid 0 t) _ _ (spells 0 ts)
    (pieces_turns h m ps _ ts (and_parts (is_absent t || is_shaped s t) (are_kids m (kid_pieces ps) ts) k).1)
pieces_turns h m (pi.Each s ∷ ps) n (more t ts) k = led_in_front h ps le.Nothing n (spells 0 (more t ts))
pieces_turns h m (pi.EachLed a s ∷ ps) n (more t ts) k = led_in_front h ps (le.Before a) n (spells 0 (more t ts))
pieces_turns h m (pi.EachFollowed s a ∷ ps) n (more t ts) k = led_in_front h ps (le.Behind a) n (spells 0 (more t ts))
pieces_turns h m (pi.More s ∷ ps) n (more t ts) k = led_in_front h ps (le.Before si.Comma) n (spells 0 (more t ts))
pieces_turns h m (pi.MoreElements s ∷ ps) n (more t ts) k = led_in_front h ps (le.Before si.Comma) n (spells 0 (more t ts))
pieces_turns h m (pi.List s ∷ ps) n (more t ts) k = listed_in_front h ps n (spells 0 (more t ts))
pieces_turns h m (pi.Elements s ∷ ps) n (more t ts) k = listed_in_front h ps n (spells 0 (more t ts))
