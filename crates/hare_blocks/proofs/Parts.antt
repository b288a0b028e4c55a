-- The parts of trees are less than what they stand in. A recursion over the program's trees names these lemmas in its attribute.
use Rattle.std.proofs.Common.{◌≡◌, ℕ, zero, suc, ◌<◌, ◌≤◌, List, [], ◌∷◌, length, drop, Some, refl, arith}
use Rattle.std.specs.Prelude.{slice_get}
use Rattle.hare_blocks.specs.declared.expr.SignedTerm.{SignedTerm}
use Rattle.hare_blocks.specs.declared.expr.Factor as read_factor
use Rattle.hare_blocks.specs.declared.expr.Expr.TheDeep.{deep-Factor}
use Rattle.hare_blocks.specs.declared.program.Statement as read_statement
use Rattle.hare_blocks.specs.declared.program.Statements.TheDeep.{deep-Statement}
use Rattle.hare_blocks.specs.Trees.{Statement}
use Rattle.hare_blocks.specs.Sizes.{terms_size, term_size, factors_size, statement_size, statements_size, list_of_statements}
use Rattle.hare_blocks.specs.Shape.{terms_of, factors_of, statement_of}
use Rattle.hare_blocks.specs.Falls.{terms_size-signed, deep_le-factor_size, deep_le-statement_size}

-- a further term is less than the further terms
pub term_deep : (ts : List SignedTerm) (i : ℕ) (t : SignedTerm) → slice_get ts i ≡ Some t →
    suc (term_size t.term) < terms_size (terms_of ts)
term_deep [] i t e = cc
term_deep (x ∷ ts) zero t e = let h : x ≡ t = cc in rw (← h) (omega (arith, terms_size-signed x.sign x.term (terms_of ts)))
term_deep (x ∷ ts) (suc i) t e = omega (arith, term_deep ts i t e, terms_size-signed x.sign x.term (terms_of ts))

-- a further factor is less than the further factors
pub factor_deep : (fs : List read_factor.Factor) (i : ℕ) (f : read_factor.Factor) → slice_get fs i ≡ Some f →
    deep-Factor f < factors_size (factors_of fs)
factor_deep [] i f e = cc
factor_deep (x ∷ fs) zero f e = let h : x ≡ f = cc in rw (← h) (omega (arith, deep_le-factor_size x))
factor_deep (x ∷ fs) (suc i) f e = omega (arith, factor_deep fs i f e)

statement_less : (ss : List Statement) (i : ℕ) (s : Statement) → slice_get ss i ≡ Some s →
    suc (statement_size s) ≤ statements_size (list_of_statements ss)
statement_less [] i s e = cc
statement_less (x ∷ ss) zero s e = let h : x ≡ s = cc in rw (← h) (omega arith)
statement_less (x ∷ ss) (suc i) s e = omega (arith, statement_less ss i s e)

-- a statement is no more than the block that it stands in
pub statement_deep : (ss : List Statement) (i : ℕ) (s : read_statement.Statement) → slice_get ss i ≡ Some (statement_of s) →
    deep-Statement s ≤ statements_size (list_of_statements ss)
statement_deep ss i s e = omega (arith, statement_less ss i (statement_of s) e, deep_le-statement_size s)

-- a statement stands in front of those behind it
pub drop_statement : (ss : List Statement) (i : ℕ) (s : Statement) → slice_get ss i ≡ Some s → drop i ss ≡ s ∷ drop (suc i) ss
drop_statement [] i s e = cc
drop_statement (x ∷ ss) zero s e = cc
drop_statement (x ∷ ss) (suc i) s e = drop_statement ss i s e

-- nothing stands behind the last
pub drop_last : (ss : List Statement) (i : ℕ) → length ss ≤ i → drop i ss ≡ []
drop_last [] zero h = refl
drop_last [] (suc i) h = refl
drop_last (x ∷ ss) zero h = absurd (omega arith)
drop_last (x ∷ ss) (suc i) h = drop_last ss i (omega arith)
