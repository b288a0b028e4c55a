-- Where statements leave those behind them.
use Rattle.std.proofs.Common.{◌≡◌, ℕ, ◌+◌, ◌<◌, ◌≤◌, List, [], ◌∷◌, ◌++◌, length, refl, sym, ap, ◌∙◌, arith, append_assoc}
use Rattle.std.proofs.lemmas.List.{length-append}
use Rattle.hare_blocks.specs.Trees.{Statement, Statements, declares, assigns, chooses, chooses_one, repeats, puts, exits, nothing, first}
use Rattle.low_blocks.specs.Expressions.{expr_steps, condition_piece}
use Rattle.low_blocks.specs.Statements.{Site, Lowered, past, outside, statement_code, statements_code, statement_texts, statements_texts}
use Rattle.low_blocks.proofs.Temporaries.Scopes.{Below, below_more, Extends}
use Rattle.low_blocks.proofs.Temporaries.Pieces.{expr_from, piece_from, condition_grows}

-- ---- scopes

-- statements leave the variables that stand in front of them
mutual
  statement_extends : (s : Site) (t : Statement) → Extends s.scope (statement_code s t).behind.scope
  statement_extends s (declares x e) = ((x, (expr_steps s.scope s.next e).next) ∷ [], refl)
  statement_extends s (assigns x e) = ([], refl)
  statement_extends s (chooses c body) = ([], refl)
  statement_extends s (chooses_one c body other) = ([], refl)
  statement_extends s (repeats c body) = ([], refl)
  statement_extends s (puts text) = ([], refl)
  statement_extends s (exits e) = ([], refl)

  pub statements_extend : (s : Site) (ts : Statements) → Extends s.scope (statements_code s ts).behind.scope
  statements_extend s nothing = ([], refl)
  statements_extend s (first t ts) =
      let x = statement_extends s t in
      let y = statements_extend (statement_code s t).behind ts in
      (y.0 ++ x.0, y.1 ∙ ap (λ z. y.0 ++ z) x.1 ∙ sym (append_assoc y.0 x.0 s.scope))

-- ---- sites

-- the variables have temporaries in front of the next one, and none that of tests
pub record IsSited (site : Site) : Type 0 where
  pub some : 0 < site.next
  pub below : Below site.next site.scope

-- what stands behind lowered statements with these strings
pub record IsBehind (site : Site) (low : Lowered) (texts : List (List ℕ)) : Type 0 where
  pub grows : site.next ≤ low.behind.next
  pub sited : IsSited low.behind
  pub counts : low.behind.texts ≡ site.texts + length texts

-- another temporary may be the next one
pub sited_past : (site : Site) (next : ℕ) → IsSited site → site.next ≤ next → IsSited (past site next)
sited_past site next h le = record { some = omega (arith, h.some); below = below_more site.next next site.scope le h.below }

-- the variables in front of a block stand behind it
pub sited_outside : (site within : Site) → IsSited site → site.next ≤ within.next → IsSited (outside site within)
sited_outside site within h le = record { some = omega (arith, h.some); below = below_more site.next within.next site.scope le h.below }

mutual
  pub statement_behind : (site : Site) (s : Statement) → IsSited site → IsBehind site (statement_code site s) (statement_texts s)
  statement_behind site (declares x e) h =
      let f = expr_from site.scope site.next h.some h.below site.next e (omega arith) in
      let v = expr_steps site.scope site.next e in
      record {
        grows = omega (arith, f.grows);
        sited = record {
          some = omega arith;
          below =
              (omega (arith, f.grows, h.some), omega arith, below_more site.next v.next site.scope f.grows h.below);
        };
        counts = omega arith;
      }
  statement_behind site (assigns x e) h =
      let f = expr_from site.scope site.next h.some h.below site.next e (omega arith) in
      record { grows = f.grows; sited = sited_past site _ h f.grows; counts = omega arith }
  statement_behind site (chooses c body) h =
      let g = condition_grows site.scope site.next h.some h.below site.next c (omega arith) in
      let b = statements_behind (past site (condition_piece site.scope site.next c).next) body (sited_past site _ h g) in
      let k : site.next ≤ (statements_code (past site (condition_piece site.scope site.next c).next) body).behind.next =
      omega (arith, g, b.grows) in
      record {
        grows = k;
        sited = sited_outside site (statements_code (past site (condition_piece site.scope site.next c).next) body).behind
            h k;
        counts = b.counts;
      }
  statement_behind site (chooses_one c body other) h =
      let g = condition_grows site.scope site.next h.some h.below site.next c (omega arith) in
      let within = (statements_code (past site (condition_piece site.scope site.next c).next) body).behind in
      let b = statements_behind (past site (condition_piece site.scope site.next c).next) body (sited_past site _ h g) in
      let k : site.next ≤ within.next = omega (arith, g, b.grows) in
      let o = statements_behind (outside site within) other (sited_outside site within h k) in
      let l : site.next ≤ (statements_code (outside site within) other).behind.next = omega (arith, k, o.grows) in
      record {
        grows = l;
        sited = sited_outside site (statements_code (outside site within) other).behind h l;
        counts =
            omega (arith, b.counts, o.counts, length-append (statements_texts body) (statements_texts other));
      }
  statement_behind site (repeats c body) h =
      let g = condition_grows site.scope site.next h.some h.below site.next c (omega arith) in
      let b = statements_behind (past site (condition_piece site.scope site.next c).next) body (sited_past site _ h g) in
      let k : site.next ≤ (statements_code (past site (condition_piece site.scope site.next c).next) body).behind.next =
      omega (arith, g, b.grows) in
      record {
        grows = k;
        sited = sited_outside site (statements_code (past site (condition_piece site.scope site.next c).next) body).behind
            h k;
        counts = b.counts;
      }
  statement_behind site (puts text) h =
      record { grows = omega arith; sited = record { some = h.some; below = h.below }; counts = omega arith }
  statement_behind site (exits e) h =
      let f = piece_from site.scope site.next h.some h.below site.next e (omega arith) in
      record { grows = f.grows; sited = sited_past site _ h f.grows; counts = omega arith }

  pub statements_behind : (site : Site) (ss : Statements) → IsSited site → IsBehind site (statements_code site ss) (statements_texts ss)
  statements_behind site nothing h = record { grows = omega arith; sited = h; counts = omega arith }
  statements_behind site (first s ss) h =
      let a = statement_behind site s h in
      let b = statements_behind (statement_code site s).behind ss a.sited in
      record {
        grows = omega (arith, a.grows, b.grows);
        sited = b.sited;
        counts = omega (arith, a.counts, b.counts, length-append (statement_texts s) (statements_texts ss));
      }
