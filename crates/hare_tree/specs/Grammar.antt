-- What a list of tokens is to the grammar: which trees it spells and with which places, which of its fronts are viable, and its first
-- fault.
use Rattle.std.specs.Prelude.{◌≡◌, ℕ, zero, suc, ◌+◌, ◌<◌, ◌≤◌, List, [], ◌∷◌, ◌++◌, Bool, true, false, ◌&&◌, ◌==◌, ◌⊎◌, length, take, drop, map, if◌then◌else◌}
use Rattle.hare_tree.specs.declared.place.Place.{Place}
use Rattle.hare_tree.specs.declared.place.Fault.{Fault}
use Rattle.hare_tree.specs.declared.token.TokenKind.{TokenKind}
use Rattle.hare_tree.specs.declared.token.TokenKind.TheVariants as tk
use Rattle.hare_tree.specs.declared.token.Suffix.TheVariants as suffix
use Rattle.hare_tree.specs.declared.token.Token.{Token}
use Rattle.hare_tree.specs.declared.form.Sort.{Sort}
use Rattle.hare_tree.specs.declared.form.Lead.TheVariants as le
use Rattle.hare_tree.specs.declared.tree.FileTree.{FileTree}
use Rattle.hare_tree.specs.Node.{Node, Nodes, branch, none, more, nodes_of}
use Rattle.hare_tree.specs.Forms.{form_of}
use Rattle.hare_tree.specs.Spell.{start_of, spell, spells, spell_all, spell_file}
use Rattle.hare_tree.specs.Shape.{is_shaped, is_shaped_file, is_none, has_no_suffix}
use Rattle.hare_tree.specs.Depth.{begins, begins_led, first_number, numbers_behind, place_in, deep_root, deep_all, fits_as, fits_file}

-- ---- strings side by side

abbrev pub is_string : TokenKind → Bool
is_string tk.Str = true
is_string _ = false

-- a string with nothing beside its text, neither a suffix nor a number; a token with more is none that a tree spells
abbrev pub is_proper_string : Token → Bool
is_proper_string t = is_string t.kind && has_no_suffix t.suffix && t.number == 0

-- a string at a place of the source
abbrev pub string_at : Place → List ℕ → Token
string_at p text = record { kind = tk.Str; place = p; text = text; number = 0; suffix = suffix.None }

-- a token in front of tokens: two such strings become one, which stands at the first
abbrev pub joined_to : Token → List Token → List Token
joined_to t [] = t ∷ []
joined_to t (u ∷ us) =
    if is_proper_string t then (if is_proper_string u then string_at t.place (t.text ++ u.text) ∷ us else t ∷ u ∷ us) else t ∷ u ∷ us

-- adjacent strings are one token; a string to which a suffix or a number belongs is joined with nothing
abbrev pub joined : List Token → List Token
joined [] = []
joined (t ∷ ts) = joined_to t (joined ts)

-- the token as it stands at the start of file 0
abbrev pub unplaced : Token → Token
unplaced t = record { kind = t.kind; place = start_of 0; text = t.text; number = t.number; suffix = t.suffix }

-- the tree's tokens are these but for places; adjacent strings count as one
abbrev pub Spells : List Token → List Token → Type 0
Spells spelled ts = map unplaced spelled ≡ map unplaced (joined ts)

-- ---- where the joined tokens stand in the file

abbrev pub ends_in_string : List Token → Bool
ends_in_string [] = false
ends_in_string (t ∷ []) = is_proper_string t
ends_in_string (t ∷ u ∷ us) = ends_in_string (u ∷ us)

abbrev pub begins_with_string : List Token → Bool
begins_with_string [] = false
begins_with_string (t ∷ ts) = is_proper_string t

-- these are the joined tokens behind the first `n` of the file, and no strings are joined across that place
pub record StandsAt (ts : List Token) (n : ℕ) (us : List Token) : Type 0 where
  pub behind : us ≡ joined (drop n ts)
  pub apart : (ends_in_string (take n ts) && begins_with_string (drop n ts)) ≡ false

-- ---- places

-- the place of a token of a list
abbrev pub place_of : List Token → ℕ → Place
place_of [] n = start_of 0
place_of (t ∷ ts) zero = t.place
place_of (t ∷ ts) (suc n) = place_of ts n

-- Each node of a tree that begins behind `n` of these tokens has its operator's or else its first token's place; what is not there has line
-- 1 and column 1 of the file.
unfoldable mutual
  pub HasPlaces : ℕ → List Token → ℕ → Node → Type 0
  HasPlaces f ts n (branch h us) =
      (h.place ≡ (if is_none h.kind then start_of f else place_of ts (n + place_in h us))) ×
      HavePlaces f ts (begins h (form_of h.kind) n (spells 0 us)) us

  pub HavePlaces : ℕ → List Token → List ℕ → Nodes → Type 0
  HavePlaces f ts ns none = Unit {0}
  HavePlaces f ts ns (more u us) = HasPlaces f ts (first_number ns) u × HavePlaces f ts (numbers_behind ns) us

-- A file's tree has its places over the tokens of the file: its imports begin with the first of them, and its declarations behind the
-- imports.
pub record FileHasPlaces (ts : List Token) (tree : FileTree) : Type 0 where
  pub uses : HavePlaces tree.file (joined ts) (begins_led le.Nothing 0 (spells 0 (nodes_of tree.uses))) (nodes_of tree.uses)
  pub decls : HavePlaces tree.file (joined ts) (begins_led le.Nothing (length (spell_all 0 tree.uses)) (spells 0 (nodes_of tree.decls)))
      (nodes_of tree.decls)

-- ---- the languages: what lists of tokens a sort or files have

-- a language says of a tree which tokens it has, and where it passes a limit
pub record Language (T : Type 0) : Type 0 where
  pub is_of : T → Bool
  pub tokens_of : T → List Token
  pub deep_of : T → List ℕ

-- the trees of one sort
abbrev pub trees_of : Sort → Language Node
trees_of s = record { is_of = is_shaped s; tokens_of = spell 0; deep_of = deep_root }

-- files
abbrev pub files : Language FileTree
files = record {
  is_of = is_shaped_file;
  tokens_of = spell_file;
  deep_of = λ t. deep_all 0 t.uses ++ deep_all (length (spell_all t.file t.uses)) t.decls;
}

-- a shaped tree whose tokens begin with these
pub record GoesOn {T : Type 0} (l : Language T) (front : List Token) (tree : T) : Type 0 where
  pub shaped : l.is_of tree ≡ true
  pub behind : List Token
  pub spelled : Spells (l.tokens_of tree) (front ++ behind)

-- the tokens of some shaped tree begin with these
abbrev pub IsViable : {T : Type 0} → Language T → List Token → Type 0
IsViable {T} l front = (tree : T) × GoesOn l front tree

-- E8, at the first token that ends a front which is not viable
pub record IsSyntaxFault {T : Type 0} (l : Language T) (ts : List Token) (n : ℕ) : Type 0 where
  pub within : n < length ts
  pub before : IsViable l (take n ts)
  pub ends : IsViable l (take (suc n) ts) → ⊥

-- this number is on the list
abbrev pub IsOn : ℕ → List ℕ → Type 0
IsOn n [] = ⊥
IsOn n (m ∷ ms) = (n ≡ m) ⊎ IsOn n ms

-- E9, at a token at which each shaped tree that begins with a viable front passes a limit: what is read so far forces it. Numbers of tokens
-- in a tree's spelling count adjacent strings once.
pub record IsDepthFault {T : Type 0} (l : Language T) (ts : List Token) (n : ℕ) : Type 0 where
  pub read : ℕ
  pub within : read ≤ length ts
  pub holds : n < read
  pub viable : IsViable l (take read ts)
  pub at : ℕ
  pub is_at : length (joined (take (suc n) ts)) ≡ suc at
  pub forced : (tree : T) → GoesOn l (take read ts) tree → IsOn at (l.deep_of tree)

-- The first fault of a list of tokens: E8 or E9, whichever stands first; E8 where both stand at one token.
pub record IsFirstFault {T : Type 0} (l : Language T) (ts : List Token) (number n : ℕ) : Type 0 where
  pub fault : ((number ≡ 8) × IsSyntaxFault l ts n) ⊎ ((number ≡ 9) × IsDepthFault l ts n × (IsSyntaxFault l ts n → ⊥))
  pub no_syntax : (m : ℕ) → m < n → IsSyntaxFault l ts m → ⊥
  pub no_depth : (m : ℕ) → m < n → IsDepthFault l ts m → ⊥

-- the fault with this number at a token's place
abbrev pub fault_at : List Token → ℕ → ℕ → Fault
fault_at ts number n = record { number = number; place = place_of ts n }

-- all but the last token, which is End
abbrev pub before_end : List Token → List Token
before_end [] = []
before_end (t ∷ []) = []
before_end (t ∷ u ∷ us) = t ∷ before_end (u ∷ us)

-- The least fault of a file of which a lexical fault has kept these tokens, the last of them End: the first fault of the tokens before End,
-- or where they have none the lexical fault.
abbrev pub IsLeastFault : List Token → Fault → Fault → Type 0
IsLeastFault kept lexical fault =
    ((number n : ℕ) × IsFirstFault files (before_end kept) number n × (fault ≡ fault_at kept number n))
    ⊎ (((number n : ℕ) → IsFirstFault files (before_end kept) number n → ⊥) × (fault ≡ lexical))

-- ---- what a parser answers

-- the tree of this sort in the language that spells the tokens of a file and has their places
pub record IsTreeOf (s : Sort) (file : ℕ) (ts : List Token) (tree : Node) : Type 0 where
  pub fits : fits_as s tree ≡ true
  pub spelled : Spells (spell 0 tree) ts
  pub placed : HasPlaces file (joined ts) 0 tree

-- the longest front of the tokens that is viable has this length
pub record IsRun {T : Type 0} (l : Language T) (ts : List Token) (n : ℕ) : Type 0 where
  pub within : n ≤ length ts
  pub viable : IsViable l (take n ts)
  pub longest : n < length ts → IsViable l (take (suc n) ts) → ⊥

-- the tree of a file in the language that spells the tokens of the file and has their places
pub record IsFileTree (file : ℕ) (ts : List Token) (tree : FileTree) : Type 0 where
  pub file_is : tree.file ≡ file
  pub fits : fits_file tree ≡ true
  pub spelled : Spells (spell_file tree) ts
  pub placed : FileHasPlaces ts tree
