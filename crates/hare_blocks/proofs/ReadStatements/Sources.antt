-- A text is a file of the class by its tokens.
use Rattle.std.proofs.Common.{◌≡◌, ◌≤◌, ◌+◌, max, ℕ, List, [], ◌∷◌, ◌++◌, codes, count_by, append_assoc, append-nil, length, cond, sym, ap, ◌∙◌, subst, arith}
use Rattle.hare_blocks.specs.declared.program.Program as read_program
use Rattle.hare_blocks.specs.declared.token.Token.{Token}
use Rattle.hare_blocks.specs.declared.token.Token.TheVariants as token
use Rattle.hare_blocks.specs.Tokens.{Spells}
use Rattle.hare_blocks.specs.Trees.{Expr, Program, exit_of, block_of, expr_tokens, runtime_tokens, front_tokens, file_tokens}
use Rattle.hare_blocks.specs.Class.{AreLimited, IsOfClass, IsSource, IsNoSource, most_open, is_operator}
use Rattle.hare_blocks.specs.Nesting.{expr_depth}
use Rattle.hare_blocks.specs.Shape.{program_of}
use Rattle.hare_blocks.specs.Grammar.{ProgramFits, IsFileOf}
use Rattle.std.proofs.lemmas.List.Sums.{sum_by-append}
use Rattle.hare_blocks.proofs.ReadExpressions.Nested.{open_expr}

-- what stands in front of the value of an exit alone, and behind it
abbrev front : List Token
front = front_tokens ++ (runtime_tokens ++ (token.Name (codes "exit") ∷ token.OpenParen ∷ token.OpenParen ∷ []))

abbrev back : List Token
back = token.CloseParen ∷ token.Colon ∷ token.U8 ∷ token.CloseParen ∷ token.Semicolon ∷ []

-- the limits of a file whose body is an exit alone are those of its expression too
exit_fits : (e : Expr) → AreLimited (file_tokens (exit_of e)) → AreLimited (expr_tokens e)
exit_fits e l =
    let spread : file_tokens (exit_of e) ≡ front ++ (expr_tokens e ++ back) =
    ap (λ t. front ++ t) (append_assoc (expr_tokens e) (token.CloseParen ∷ token.Colon ∷ token.U8 ∷ token.CloseParen ∷ [])
    (token.Semicolon ∷ [])) in
    let limit : AreLimited (front ++ (expr_tokens e ++ back)) = subst AreLimited spread l in
    let deep : most_open 2 (expr_tokens e ++ back) ≤ 64 = omega (arith, limit.nested) in
    let alone : most_open 0 (expr_tokens e) ≡ max (0 + expr_depth e) 0 = rw append-nil at (open_expr e 0 []) in
    let count : count_by is_operator (front ++ (expr_tokens e ++ back)) ≡
    count_by is_operator front + (count_by is_operator (expr_tokens e) + count_by is_operator back) =
    sum_by-append (λ t. cond (is_operator t) 1 0) front (expr_tokens e ++ back) ∙ ap (λ n. count_by is_operator front + n)
    (sum_by-append (λ t. cond (is_operator t) 1 0) (expr_tokens e) back) in
    record {
      nested = omega (arith, deep, alone, open_expr e 2 back);
      operators = omega (arith, limit.operators, count);
    }

-- a program of the class keeps the limits of its trees
fits_class : (size : ℕ) (p : Program) → IsOfClass size p → ProgramFits p
fits_class size (exit_of e) h = exit_fits e h.limited
fits_class size (block_of ss) h = record { blocks = h.blocks; limited = h.limited }

-- ---- no file

module _ (text : List ℕ) where
  -- no tokens spell the text
  pub no_tokens : ((ts : List Token) → Spells ts text → ⊥) → IsNoSource text
  no_tokens none p h = none (file_tokens p) h.spelled

  module _ (ts : List Token) (only : (us : List Token) → Spells us text → ts ≡ us) where
    -- the tokens are those of the program
    source_tokens : (p : Program) → IsSource text p → IsFileOf ts p
    source_tokens p h = record { spelled = only (file_tokens p) h.spelled; fits = fits_class (length text) p h.of_class }

    -- they are of no program
    pub no_program : ((p : Program) → IsFileOf ts p → ⊥) → IsNoSource text
    no_program none p h = none p (source_tokens p h)

    module _ (q : read_program.Program) (whole : (p : Program) → IsFileOf ts p → program_of q ≡ p) where
      pub same_program : (p : Program) → IsSource text p → program_of q ≡ p
      same_program p h = whole p (source_tokens p h)

      -- their program is not of the class
      pub other_program : (IsOfClass (length text) (program_of q) → ⊥) → IsNoSource text
      other_program none p h = none (subst (IsOfClass (length text)) (sym (same_program p h)) h.of_class)
