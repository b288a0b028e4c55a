-- What holds of the tree of a file with these bytes.
use Rattle.std.specs.Prelude.{◌≡◌, ℕ, ◌+◌, ◌*◌, ◌≤◌, List, length, true}
use Rattle.hare_tree.specs.declared.token.Token.{Token}
use Rattle.hare_tree.specs.declared.tree.FileTree.{FileTree}
use Rattle.hare_tree.specs.Tokens.{IsTokens}
use Rattle.hare_tree.specs.Depth.{fits_file}
use Rattle.hare_tree.specs.Size.{file_count, file_text_bytes}
use Rattle.hare_lex.specs.Order.{StandsOver}
use Rattle.hare_decl.specs.Answers.{IsSource}

-- it is in the language
abbrev pub SourcesFit : Type 0
SourcesFit = (file : ℕ) (text : List ℕ) (tree : FileTree) → IsSource file text tree → fits_file tree ≡ true

-- it stands over the tokens of the file
abbrev pub SourcesStandOverTokens : Type 0
SourcesStandOverTokens =
    (file : ℕ) (text : List ℕ) (tree : FileTree) → IsSource file text tree → (ts : List Token) × IsTokens file text ts × StandsOver ts tree

-- it has at most eight nodes for each byte, and eight more
abbrev pub SourcesHaveFewNodes : Type 0
SourcesHaveFewNodes =
    (file : ℕ) (text : List ℕ) (tree : FileTree) → IsSource file text tree → file_count tree ≤ 8 * (length text + 1)

-- its strings and messages have together at most as many bytes as the file
abbrev pub SourcesHaveFewTexts : Type 0
SourcesHaveFewTexts = (file : ℕ) (text : List ℕ) (tree : FileTree) → IsSource file text tree → file_text_bytes tree ≤ length text
