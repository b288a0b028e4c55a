-- What a parser answers for the tokens from a place of their list on, which are the whole list here: the tree of their longest front that
-- begins a tree of the sort, or their first fault.
use Rattle.std.specs.Prelude.{◌≡◌, ℕ, zero, suc, ◌+◌, ◌-◌, ◌<◌, ◌≤◌, ◌⊎◌, List, [], ◌∷◌, true, take, drop, Result, MatchResult}
use Rattle.hare_tree.specs.declared.place.Place.{Place}
use Rattle.hare_tree.specs.declared.place.Fault as fault
use Rattle.hare_tree.specs.declared.token.Token.{Token}
use Rattle.hare_tree.specs.declared.stop.Stop.{Stop}
use Rattle.hare_tree.specs.declared.stop.Stop.TheVariants.{Fault, Memory}
use Rattle.hare_tree.specs.declared.form.Sort.{Sort}
use Rattle.hare_tree.specs.Node.{Node}
use Rattle.hare_tree.specs.Spell.{spell}
use Rattle.hare_tree.specs.Shape.{is_shaped}
use Rattle.hare_tree.specs.Grammar.{Spells, trees_of, place_of, IsRun, IsDepthFault, IsTreeOf}
use Rattle.hare_parse.specs.declared.parse.Parsed.{Parsed}

-- ---- what the tokens come to

-- the number of the file of which a token is
abbrev pub file_in : List Token → ℕ → ℕ
file_in ts n = (place_of ts n).file

-- The tokens of the longest front that begins a tree are all those of a tree, which has their places and keeps the limits; no other tree
-- does, and no limit is passed.
pub record IsRead (s : Sort) (file : ℕ) (ts : List Token) (tree : Node) (n : ℕ) : Type 0 where
  pub run : IsRun (trees_of s) ts n
  pub read : IsTreeOf s file (take n ts) tree
  pub only : (other : Node) → IsTreeOf s file (take n ts) other → other ≡ tree
  pub shallow : (m : ℕ) → IsDepthFault (trees_of s) ts m → ⊥

-- E9, at the first token at which a limit is passed
pub record IsTooDeep (s : Sort) (ts : List Token) (n : ℕ) : Type 0 where
  pub passed : IsDepthFault (trees_of s) ts n
  pub first : (m : ℕ) → m < n → IsDepthFault (trees_of s) ts m → ⊥

-- E8, behind the longest front that begins a tree, where its tokens are not all those of one; no limit is passed
pub record IsBroken (s : Sort) (ts : List Token) (n : ℕ) : Type 0 where
  pub run : IsRun (trees_of s) ts n
  pub no_tree : (tree : Node) → is_shaped s tree ≡ true → Spells (spell 0 tree) (take n ts) → ⊥
  pub shallow : (m : ℕ) → IsDepthFault (trees_of s) ts m → ⊥

-- the place of a token, or where the list ends before it that of the last one
abbrev pub place_up_to : List Token → ℕ → Place
place_up_to [] n = place_of [] n
place_up_to (t ∷ []) n = t.place
place_up_to (t ∷ u ∷ us) zero = t.place
place_up_to (t ∷ u ∷ us) (suc n) = place_up_to (u ∷ us) n

-- the fault with this number there
abbrev pub fault_up_to : List Token → ℕ → ℕ → fault.Fault
fault_up_to ts number n = record { number = number; place = place_up_to ts n }

-- the fault that the tokens have
abbrev pub HasFault : Sort → List Token → fault.Fault → Type 0
HasFault s ts f =
    (n : ℕ) × (((f ≡ fault_up_to ts 9 n) × IsTooDeep s ts n) ⊎ ((f ≡ fault_up_to ts 8 n) × IsBroken s ts n))

-- ---- what the calls answer

-- the tree with the tokens up to `next`, of a list read from `at` on
abbrev pub IsParsed : Sort → List Token → ℕ → Parsed → Type 0
IsParsed s ts at p = (at ≤ p.next) × IsRead s (file_in ts at) (drop at ts) p.tree (p.next - at)

-- the call stops at a fault of the tokens, or there was not enough memory
abbrev pub Stops : Sort → List Token → ℕ → Stop fault.Fault → Type 0
Stops s ts at (Fault f) = HasFault s (drop at ts) f
Stops s ts at Memory = Unit {0}

-- the call gives this tree and the place behind it, or there was not enough memory
abbrev pub GivesTree : ℕ → Node → ℕ → Result Parsed (Stop fault.Fault) → Type 0
GivesTree at tree n result = MatchResult result (λ p. (p.tree ≡ tree) × (p.next ≡ at + n)) (λ e. e ≡ Memory)

-- the call gives this fault, or there was not enough memory
abbrev pub GivesFault : fault.Fault → Result Parsed (Stop fault.Fault) → Type 0
GivesFault f result = MatchResult result (λ p. ⊥) (λ e. (e ≡ Memory) ⊎ (e ≡ Fault f))
