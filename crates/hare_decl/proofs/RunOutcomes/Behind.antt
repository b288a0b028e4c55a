-- Where imports and declarations are read: the token that is got there.
use Rattle.std.proofs.Common.{◌≡◌, ℕ, suc, ◌+◌, ◌<◌, ◌≤◌, List, ◌∷◌, slice_get, Some, None, drop, length, ap, sym, ◌∙◌, subst, arith}
use Rattle.std.proofs.lemmas.List.{drop_all}
use Rattle.hare_tree.specs.declared.token.Token.{Token}
use Rattle.hare_tree.specs.Node.{Node}
use Rattle.hare_tree.specs.Grammar.{files, IsFirstFault, joined}
use Rattle.hare_automaton.specs.Engine.{bottom}
use Rattle.hare_automaton.specs.OneTree.{file_symbols}
use Rattle.hare_parse.specs.Files.{file_made}
use Rattle.hare_ll_table.proofs.SeenTokens.Joining.{read_drop, drop_past}
use Rattle.hare_parse.proofs.ClosedRun.Onward.{done_behind}
use Rattle.hare_decl.specs.Answers.{IsEnd, IsLastEnd, IsOver, IsFile}
use Rattle.hare_decl.proofs.RunOutcomes.Over.{over_no_end, over_behind_end, over_whole}

-- a token that is not End
pub over_at_other : (file : ℕ) (ts : List Token) (uses decls : List Node) (n : ℕ) (t : Token) → IsOver file ts uses decls n →
    Some t ≡ slice_get ts n → (IsEnd t → ⊥) → IsFirstFault files ts 8 n
over_at_other file ts uses decls n t o e k = over_no_end file ts uses decls n t (drop (n + 1) ts) o (read_drop ts n t e) k

-- End, with a token behind it
pub over_at_end : (file : ℕ) (ts : List Token) (uses decls : List Node) (n : ℕ) (t : Token) → IsOver file ts uses decls n →
    Some t ≡ slice_get ts n → IsEnd t → n + 1 < length ts → IsFirstFault files ts 8 (n + 1)
over_at_end file ts uses decls n t o e k h =
    let i : suc n ≡ n + 1 = omega arith in
    subst (IsFirstFault files ts 8) i (over_behind_end file ts uses decls n t (drop (n + 1) ts) o (read_drop ts n t e) k (omega (arith, h)))

-- End, and nothing behind it
pub over_at_last : (file : ℕ) (ts : List Token) (uses decls : List Node) (n : ℕ) (t : Token) → IsOver file ts uses decls n →
    Some t ≡ slice_get ts n → IsEnd t → length ts ≤ n + 1 → IsFile file ts (record { file = file; uses = uses; decls = decls })
over_at_last file ts uses decls n t o e k h =
    over_whole file ts uses decls n t o (read_drop ts n t e ∙ ap (λ l. t ∷ l) (drop_all (n + 1) ts h)) k

-- End stands there, and nothing behind it
pub last_end : (ts : List Token) (n : ℕ) (t : Token) → Some t ≡ slice_get ts n → IsEnd t → length ts ≤ n + 1 → IsLastEnd ts n
last_end ts n t e k h = record { token = t; last = read_drop ts n t e ∙ ap (λ l. t ∷ l) (drop_all (n + 1) ts h); ends = k }

-- some token is there
pub over_somewhere : (file : ℕ) (ts : List Token) (uses decls : List Node) (n : ℕ) → IsOver file ts uses decls n → None ≡ slice_get ts n → ⊥
over_somewhere file ts uses decls n o e =
    let d = done_behind file (joined ts) (joined (drop n ts)) file_symbols bottom (file_made uses decls) o.run_is in
    let none = ap joined (drop_past ts n e) in
    let some = sym none ∙ d.2 in
    cc
