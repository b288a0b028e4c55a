-- How locals are kept: a list, and a map that tells of each name the number of its newest one. No public clause cites it.
use Rattle.std.specs.Prelude.{◌≡◌, ℕ, ◌<◌, List, [], ◌∷◌, bytes_eq, length, map, reverse, Option}
use Rattle.std.specs.List.{position_or_len}
use Rattle.std.specs.Map.{lookup, keys_of}
use Rattle.std.specs.Option.{option_flatten}
use Rattle.hare_blocks.specs.Scopes.{number_of}
use Rattle.hare_names.specs.declared.locals.Local.{Local}

-- a local's name, and the number of its binding
abbrev pub local_of : Local → List ℕ × ℕ
local_of l = (l.name.now, l.number)

-- of a list that begins with the oldest, the newest first
abbrev pub locals_of : List Local → List (List ℕ × ℕ)
locals_of ls = map local_of (reverse ls)

-- the entries of a map, whose keys are seen by their bytes
module _ {K : Type 0} (bytes : K → List ℕ) where
  -- what they tell of a name
  abbrev pub told : List ℕ → List (K × Option ℕ) → Option ℕ
  told x es = option_flatten (lookup (λ k. bytes_eq x (bytes k)) es)

  -- where a name's entry stands, or will stand
  abbrev pub entry_of : List ℕ → List (K × Option ℕ) → ℕ
  entry_of x es = position_or_len (λ k. bytes_eq x (bytes k)) (keys_of es)

  -- each local, newest first, knows where the entry of its name stands, and the number that its name has before
  abbrev pub Know : List (K × Option ℕ) → List Local → Type 0
  Know es [] = Unit {0}
  Know es (l ∷ ls) =
      (l.entry ≡ entry_of l.name.now es) × (l.entry < length es) × (l.hidden ≡ number_of l.name.now (map local_of ls)) × Know es ls

  -- the entries tell of these locals, which know of the entries
  pub record AreTold (es : List (K × Option ℕ)) (ls : List Local) : Type 0 where
    pub tells : (x : List ℕ) → told x es ≡ number_of x (locals_of ls)
    pub know : Know es (reverse ls)
