-- What the call that lays out a file answers.
use Rattle.std.proofs.Common.{◌≡◌, ℕ, List, Result, Ok, Err, ap, sym, subst}
use Rattle.std.specs.Prelude.{IsErrAnd}
use Rattle.hare_automaton.proofs.Spelled.Files.{tokens_have_one_file}
use Rattle.hare_decl.specs.Answers.{IsSource}
use Rattle.hare_lines.specs.Layout.{IsLaidOut}
use Rattle.hare_fmt.specs.Answer.{GivesText}
use Rattle.hare_lines.proofs.LayoutLaws.Once.{sources_have_one_layout}

-- what is laid out has a tree
pub laid_out-tree : (src text : List ℕ) (l : IsLaidOut src text) → IsSource 0 src l.tree
laid_out-tree src text l = record {
  tokens = l.tokens;
  are = l.are;
  file_is = record { read = l.file_is; only = λ other h. tokens_have_one_file 0 l.tokens other l.tree h l.file_is };
}

-- an error that is handed on
pub err_gives : {T E : Type 0} (r : Result T E) (e : E) (P : Result T E → Type 0) → IsErrAnd r (λ y. y ≡ e) → P (Err e) → P r
err_gives (Ok x) e P h k = absurd h
err_gives (Err y) e P h k = subst P (ap Err (sym h)) k

-- a text that is found is the only one
pub text-gives : (src text found : List ℕ) → IsLaidOut src found → IsLaidOut src text → GivesText text (Ok found)
text-gives src text found h g = sources_have_one_layout src found text h g
