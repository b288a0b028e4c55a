-- What the readers of blocks and of their statements find.
use Rattle.std.proofs.Common.{◌≡◌, ◌≢◌, ℕ, ◌+◌, ◌-◌, ◌<◌, ◌≤◌, max, List, [], ◌∷◌, ◌++◌, Option, Some, None, refl, sym, ap, ◌∙◌, append_assoc, subst, arith}
use Rattle.hare_blocks.specs.declared.token.Token.{Token}
use Rattle.hare_blocks.specs.declared.token.Token.TheVariants as token
use Rattle.hare_blocks.specs.Trees.{Statement, Statements, declares, assigns, chooses, chooses_one, repeats, puts, exits, nothing, first, statement_tokens, statements_tokens}
use Rattle.hare_blocks.specs.Class.{statement_exprs, statements_exprs, statement_blocks, statements_blocks}
use Rattle.hare_blocks.specs.Sizes.{list_of_statements}
use Rattle.hare_blocks.specs.Parsing.{Reads, IsRead}
use Rattle.hare_blocks.specs.Grammar.{StatementsFit, Anything, closed_tokens}
use Rattle.hare_blocks.proofs.ReadStatements.Simple.{ReadsStatement, IsStatementRead}
use Rattle.hare_blocks.proofs.ReadStatements.Blocks.{all_left, all_right, all_both, IsBlockRead}

-- statements that were read, and those that are still to read
abbrev pub joined_statements : List Statement → Statements → Statements
joined_statements [] us = us
joined_statements (x ∷ xs) us = first x (joined_statements xs us)

joined_statements-push : (xs : List Statement) (x : Statement) (us : Statements) →
    joined_statements (xs ++ x ∷ []) us ≡ joined_statements xs (first x us)
joined_statements-push [] x us = refl
joined_statements-push (y ∷ xs) x us = ap (first y) (joined_statements-push xs x us)

joined_statements-end : (xs : List Statement) → joined_statements xs nothing ≡ list_of_statements xs
joined_statements-end [] = refl
joined_statements-end (x ∷ xs) = ap (first x) (joined_statements-end xs)

-- no statement begins with a brace
not_brace : (s : Statement) (behind rest : List Token) → token.CloseBrace ∷ behind ≡ statement_tokens s ++ rest → ⊥
not_brace (declares x e) behind rest h = cc
not_brace (assigns x e) behind rest h = cc
not_brace (chooses c body) behind rest h = cc
not_brace (chooses_one c body other) behind rest h = cc
not_brace (repeats c body) behind rest h = cc
not_brace (puts text) behind rest h = cc
not_brace (exits e) behind rest h = cc

module _ (n : ℕ) where
  abbrev pub ReadsClosed : Statements → List Token → List Token → Type 0
  ReadsClosed = Reads closed_tokens (StatementsFit n)

  abbrev pub IsClosedRead : Option Statements → List Token → List Token → Type 0
  IsClosedRead = IsRead closed_tokens (StatementsFit n) Anything

  -- the tokens of a statement in front of others
  spread : (s : Statement) (ss : Statements) (rest : List Token) →
      closed_tokens (first s ss) ++ rest ≡ statement_tokens s ++ (token.Semicolon ∷ (closed_tokens ss ++ rest))
  spread s ss rest = ap (λ t. t ++ rest) (append_assoc (statement_tokens s) (token.Semicolon ∷ statements_tokens ss)
      (token.CloseBrace ∷ [])) ∙ append_assoc (statement_tokens s) (token.Semicolon ∷ closed_tokens ss) rest

  record Preceded (us : Statements) (tokens rest : List Token) : Type 0 where
    statement : Statement
    others : Statements
    is : us ≡ first statement others
    reads : ReadsStatement n statement tokens (token.Semicolon ∷ (closed_tokens others ++ rest))
    more : ReadsClosed others (closed_tokens others ++ rest) rest

  -- where no brace closes, a statement stands in front of others
  preceded : (us : Statements) (tokens rest : List Token) → ReadsClosed us tokens rest →
      ((behind : List Token) → tokens ≢ token.CloseBrace ∷ behind) → Preceded us tokens rest
  preceded nothing tokens rest h other = absurd (other rest h.spelled)
  preceded (first s ss) tokens rest h other =
      let deep : max (statement_blocks s) (statements_blocks ss) ≤ n = h.fits.blocks in
      record {
        statement = s;
        others = ss;
        is = refl;
        reads = record {
          spelled = h.spelled ∙ spread s ss rest;
          fits =
              record { blocks = omega (arith, deep); limited = all_left (statement_exprs s) (statements_exprs ss) h.fits.limited };
        };
        more = record {
          spelled = refl;
          fits =
              record { blocks = omega (arith, deep); limited = all_right (statement_exprs s) (statements_exprs ss) h.fits.limited };
        };
      }

  first_read : (s : Statement) (ss : Statements) (tokens mid behind rest : List Token) → ReadsStatement n s tokens mid →
      mid ≡ token.Semicolon ∷ behind → ReadsClosed ss behind rest → ReadsClosed (first s ss) tokens rest
  first_read s ss tokens mid behind rest r f q = record {
    spelled = r.spelled ∙ rw (f, q.spelled) (sym (spread s ss rest));
    fits = record {
      blocks = omega (arith, r.fits.blocks, q.fits.blocks);
      limited = all_both (statement_exprs s) (statements_exprs ss)
          r.fits.limited q.fits.limited;
    };
  }

  -- where a brace closes there are no statements
  no_statements : (us : Statements) (behind rest : List Token) → token.CloseBrace ∷ behind ≡ closed_tokens us ++ rest → (us ≡ nothing) ×
      (behind ≡ rest)
  no_statements nothing behind rest h = (refl, cc)
  no_statements (first s ss) behind rest h =
      absurd (not_brace s behind (token.Semicolon ∷ (closed_tokens ss ++ rest)) (h ∙ spread s ss rest))

  -- statements so far: what is still to read makes them whole
  pub record StatementsSoFar (xs : List Statement) (tokens left : List Token) : Type 0 where
    pub sound : (us : Statements) (rest : List Token) → ReadsClosed us left rest → ReadsClosed (joined_statements xs us) tokens rest
    pub whole : (ss : Statements) (rest : List Token) → ReadsClosed ss tokens rest → (us : Statements) × (ss ≡ joined_statements xs us) ×
        ReadsClosed us left rest

  pub statements_begin : (tokens : List Token) → StatementsSoFar [] tokens tokens
  statements_begin tokens = record { sound = λ us rest q. q; whole = λ ss rest h. (ss, refl, h) }

  module _ (xs : List Statement) (tokens left : List Token) (so : StatementsSoFar xs tokens left)
      (open_brace : (behind : List Token) → left ≢ token.CloseBrace ∷ behind) where
    pub statements_more : (s : Statement) (mid end : List Token) → IsStatementRead n (Some s) left mid → mid ≡ token.Semicolon ∷ end →
        StatementsSoFar (xs ++ s ∷ []) tokens end
    statements_more s mid end r f = record {
      sound = λ us rest q. rw (joined_statements-push xs s us) (so.sound (first s us) rest (first_read s us left mid end rest r.sound f q));
      whole = λ ss rest h.
          let k = so.whole ss rest h in
          let p = preceded k.0 left rest k.2 open_brace in
          let m = r.whole p.statement (token.Semicolon ∷ (closed_tokens p.others ++ rest)) p.reads refl in
          let same = sym f ∙ m.1 in
          let behind : end ≡ closed_tokens p.others ++ rest = cc in (
            p.others,
            k.1 ∙ ap (joined_statements xs) (p.is ∙ ap (λ x. first x p.others) (sym m.0)) ∙ sym
                (joined_statements-push xs s p.others),
            subst (λ l. ReadsClosed p.others l rest) (sym behind) p.more,
          );
    }

    pub statements_break : (mid end : List Token) → IsStatementRead n None left mid → IsClosedRead None tokens end
    statements_break mid end r = record {
      sound = tt;
      whole = λ ss rest h stop.
          let k = so.whole ss rest h in
          let p = preceded k.0 left rest k.2 open_brace in
          r.whole p.statement (token.Semicolon ∷ (closed_tokens p.others ++ rest)) p.reads refl;
    }

    pub statements_unended : (s : Statement) (mid end : List Token) → IsStatementRead n (Some s) left mid →
        ((behind : List Token) → mid ≢ token.Semicolon ∷ behind) → IsClosedRead None tokens end
    statements_unended s mid end r other = record {
      sound = tt;
      whole = λ ss rest h stop.
          let k = so.whole ss rest h in
          let p = preceded k.0 left rest k.2 open_brace in
          other (closed_tokens p.others ++ rest) (r.whole p.statement (token.Semicolon ∷ (closed_tokens p.others ++ rest)) p.reads refl).1;
    }

  pub statements_end : (xs : List Statement) (tokens left end : List Token) → StatementsSoFar xs tokens left →
      left ≡ token.CloseBrace ∷ end → IsClosedRead (Some (list_of_statements xs)) tokens end
  statements_end xs tokens left end so f = record {
    sound = rw (← joined_statements-end xs) (so.sound nothing end
        (record { spelled = f; fits = record { blocks = omega arith; limited = tt } }));
    whole = λ ss rest h stop.
        let k = so.whole ss rest h in
        let none = no_statements k.0 end rest (sym f ∙ k.2.spelled) in
        (sym (k.1 ∙ ap (joined_statements xs) none.0 ∙ joined_statements-end xs), none.1);
  }

-- ---- blocks

pub block_too_deep : (n : ℕ) (tokens end : List Token) → n ≡ 0 → IsBlockRead n None tokens end
block_too_deep n tokens end none = record {
  sound = tt;
  whole = λ ss rest h stop. let k : 1 + statements_blocks ss ≤ n =
      h.fits.blocks in omega (arith, k, none);
}

pub block_unopened : (n : ℕ) (tokens end : List Token) → ((behind : List Token) → tokens ≢ token.OpenBrace ∷ behind) →
    IsBlockRead n None tokens end
block_unopened n tokens end other = record {
  sound = tt;
  whole = λ ss rest h stop. other (closed_tokens ss ++ rest) h.spelled;
}

-- a block is what closes behind the brace that opens it
pub block_opened : (n : ℕ) (o : Option Statements) (tokens behind end : List Token) → 0 < n → tokens ≡ token.OpenBrace ∷ behind →
    IsClosedRead (n - 1) o behind end → IsBlockRead n o tokens end
block_opened n None tokens behind end some f r = record {
  sound = tt;
  whole = λ ss rest h stop.
      let k : 1 + statements_blocks ss ≤ n = h.fits.blocks in
      let e = sym f ∙ h.spelled in
      r.whole ss rest (record { spelled = cc; fits = record { blocks = omega (arith, k); limited = h.fits.limited } }) tt;
}
block_opened n (Some x) tokens behind end some f r = record {
  sound = record {
    spelled = f ∙ ap (λ t. token.OpenBrace ∷ t) r.sound.spelled;
    fits =
        record { blocks = (let k = r.sound.fits.blocks in omega (arith, k, some)); limited = r.sound.fits.limited };
  };
  whole = λ ss rest h stop.
      let k : 1 + statements_blocks ss ≤ n = h.fits.blocks in
      let e = sym f ∙ h.spelled in
      r.whole ss rest (record { spelled = cc; fits = record { blocks = omega (arith, k); limited = h.fits.limited } }) tt;
}
