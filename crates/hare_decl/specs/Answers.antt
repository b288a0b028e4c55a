-- What a parser answers for the tokens of a file, and for its bytes: the tree of the file, or its first fault.
use Rattle.std.specs.Prelude.{◌≡◌, ℕ, List, [], ◌∷◌, ◌++◌, ◌⊎◌, drop, Result, MatchResult}
use Rattle.hare_tree.specs.declared.place.Place.{Place}
use Rattle.hare_tree.specs.declared.place.Fault as fault
use Rattle.hare_tree.specs.declared.token.Token.{Token}
use Rattle.hare_tree.specs.declared.stop.Stop.{Stop}
use Rattle.hare_tree.specs.declared.stop.Stop.TheVariants.{Fault, Memory}
use Rattle.hare_tree.specs.declared.tree.FileTree.{FileTree}
use Rattle.hare_tree.specs.declared.token.TokenKind.TheVariants as tk
use Rattle.hare_tree.specs.Node.{Node}
use Rattle.hare_tree.specs.Spell.{start_of, word_token}
use Rattle.hare_tree.specs.Tokens.{IsTokens, IsFirstBreak, end_at}
use Rattle.hare_tree.specs.Grammar.{files, unplaced, fault_at, IsDepthFault, IsFirstFault, IsLeastFault, IsFileTree, joined, StandsAt}
use Rattle.hare_automaton.specs.Engine.{Done, run, bottom}
use Rattle.hare_automaton.specs.OneTree.{file_symbols}
use Rattle.hare_parse.specs.Files.{HaveSorts, file_made}
use Rattle.hare_decl.specs.declared.syntax.Syntax.{Syntax}
use Rattle.hare_decl.specs.declared.syntax.Syntax.TheVariants as sx

-- ---- tokens

-- the tree that spells the tokens of the file and has their places, and keeps the limits; no other tree does
pub record IsFile (file : ℕ) (ts : List Token) (tree : FileTree) : Type 0 where
  pub read : IsFileTree file ts tree
  pub only : (other : FileTree) → IsFileTree file ts other → other ≡ tree

-- The tokens begin a file at each of them, and are none: they end before its End, as no tokens do that a lexer gives.
pub record IsCut (file : ℕ) (ts : List Token) : Type 0 where
  pub no_fault : (number n : ℕ) → IsFirstFault files ts number n → ⊥
  pub no_file : (tree : FileTree) → IsFileTree file ts tree → ⊥

-- what tokens come to
abbrev pub IsSyntax : ℕ → List Token → Syntax → Type 0
IsSyntax file ts (sx.Whole tree) = IsFile file ts tree
IsSyntax file ts (sx.Faulty number n) = IsFirstFault files ts number n
IsSyntax file ts sx.Cut = IsCut file ts

-- the token ends a file
abbrev pub IsEnd : Token → Type 0
IsEnd t = unplaced t ≡ word_token 0 tk.End []

-- the last token is End
abbrev pub HasEnd : List Token → Type 0
HasEnd ts = (before : List Token) × (p : Place) × (ts ≡ before ++ end_at p ∷ [])

-- Of these tokens, which pass no limit on depth, the machine has read the imports and declarations in front of one.
pub record IsOver (file : ℕ) (ts : List Token) (uses decls : List Node) (n : ℕ) : Type 0 where
  pub run_is : run file (joined ts) file_symbols bottom ≡ Done (joined (drop n ts)) (file_made uses decls)
  pub stands : StandsAt ts n (joined (drop n ts))
  pub sorts : HaveSorts uses decls
  pub shallow : (m : ℕ) → IsDepthFault files ts m → ⊥
  pub limits : files.deep_of (record { file = file; uses = uses; decls = decls }) ≡ []

-- End stands at this place of the list, and nothing behind it.
pub record IsLastEnd (ts : List Token) (n : ℕ) : Type 0 where
  pub token : Token
  pub last : drop n ts ≡ token ∷ []
  pub ends : IsEnd token

-- Of these tokens the machine has read imports and declarations, which keep the limits on depth, in front of the token at this place.
pub record IsReadLow (file : ℕ) (ts : List Token) (uses decls : List Node) (n : ℕ) : Type 0 where
  pub run_is : run file (joined ts) file_symbols bottom ≡ Done (joined (drop n ts)) (file_made uses decls)
  pub sorts : HaveSorts uses decls
  pub limits : files.deep_of (record { file = file; uses = uses; decls = decls }) ≡ []

-- the place of the last token, or where there is none the start of the file
abbrev pub last_place : ℕ → List Token → Place
last_place file [] = start_of file
last_place file (t ∷ []) = t.place
last_place file (t ∷ u ∷ us) = last_place file (u ∷ us)

-- the first fault of the tokens of a file
abbrev pub HasFirstFault : List Token → fault.Fault → Type 0
HasFirstFault ts f = (number n : ℕ) × IsFirstFault files ts number n × (f ≡ fault_at ts number n)

-- the first fault of the tokens of a file; where they are cut off, it is E8 at the last of them
abbrev pub HasFault : ℕ → List Token → fault.Fault → Type 0
HasFault file ts f =
    HasFirstFault ts f ⊎ (IsCut file ts × (f ≡ record { number = 8; place = last_place file ts }))

-- ---- bytes

-- the tree of a file with these bytes
pub record IsSource (file : ℕ) (text : List ℕ) (tree : FileTree) : Type 0 where
  pub tokens : List Token
  pub are : IsTokens file text tokens
  pub file_is : IsFile file tokens tree

-- The first fault of the bytes of a file: that of its tokens, or where they break off the least of the break and of the first fault of the
-- tokens before it.
abbrev pub HasSourceFault : ℕ → List ℕ → fault.Fault → Type 0
HasSourceFault file text f =
    ((ts : List Token) × IsTokens file text ts × HasFirstFault ts f)
    ⊎ ((lexical : fault.Fault) × (kept : List Token) × IsFirstBreak file text lexical kept × IsLeastFault kept lexical f)

-- ---- what the calls answer

-- the call stops at a fault that these have, or there was not enough memory
abbrev pub Stops : (fault.Fault → Type 0) → Stop fault.Fault → Type 0
Stops has (Fault f) = has f
Stops has Memory = Unit {0}

-- the call gives this tree, or there was not enough memory
abbrev pub GivesTree : FileTree → Result FileTree (Stop fault.Fault) → Type 0
GivesTree tree result = MatchResult result (λ t. t ≡ tree) (λ e. e ≡ Memory)

-- the call gives this fault, or there was not enough memory
abbrev pub GivesFault : fault.Fault → Result FileTree (Stop fault.Fault) → Type 0
GivesFault f result = MatchResult result (λ t. ⊥) (λ e. (e ≡ Memory) ⊎ (e ≡ Fault f))
