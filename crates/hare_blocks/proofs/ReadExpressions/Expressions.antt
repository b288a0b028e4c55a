-- What the readers of expressions and terms find, from what the readers of their parts find.
use Rattle.std.proofs.Common.{◌≡◌, ℕ, ◌+◌, ◌≤◌, max, List, [], ◌∷◌, ◌++◌, Some, None, refl, sym, ap, ◌∙◌, append_assoc, subst, arith}
use Rattle.hare_blocks.specs.declared.expr.Sign.{Sign}
use Rattle.hare_blocks.specs.declared.expr.Sign.TheVariants as sign
use Rattle.hare_blocks.specs.declared.expr.SignedTerm.{SignedTerm}
use Rattle.hare_blocks.specs.declared.token.Token.{Token}
use Rattle.hare_blocks.specs.Trees.{Expr, Terms, Term, Factors, Factor, sum_of, no_term, plus, minus, no_factor, times, expr_tokens, terms_tokens, term_tokens, factors_tokens, factor_tokens}
use Rattle.hare_blocks.specs.Nesting.{terms_depth, term_depth}
use Rattle.hare_blocks.specs.Shape.{signed, terms_of}
use Rattle.hare_blocks.specs.Parsing.{sign_token, IsNoPath, IsNoFactor, IsNoTerm, BeginsUnsigned, Reads, IsRead, ExprNests, TermsNest, TermNests, FactorsNest, FactorNests}

-- ---- further terms

-- terms that were read, and those that are still to read
abbrev pub joined_terms : List SignedTerm → Terms → Terms
joined_terms [] us = us
joined_terms (x ∷ xs) us = signed x.sign x.term (joined_terms xs us)

joined_terms-push : (xs : List SignedTerm) (x : SignedTerm) (us : Terms) →
    joined_terms (xs ++ x ∷ []) us ≡ joined_terms xs (signed x.sign x.term us)
joined_terms-push [] x us = refl
joined_terms-push (y ∷ xs) x us = ap (signed y.sign y.term) (joined_terms-push xs x us)

joined_terms-end : (xs : List SignedTerm) → joined_terms xs no_term ≡ terms_of xs
joined_terms-end [] = refl
joined_terms-end (x ∷ xs) = ap (signed x.sign x.term) (joined_terms-end xs)

terms_tokens-signed : (s : Sign) (t : Term) (ts : Terms) → terms_tokens (signed s t ts) ≡ sign_token s ∷ (term_tokens t ++ terms_tokens ts)
terms_tokens-signed sign.Plus t ts = refl
terms_tokens-signed sign.Minus t ts = refl

terms_depth-signed : (s : Sign) (t : Term) (ts : Terms) → terms_depth (signed s t ts) ≡ max (term_depth t) (terms_depth ts)
terms_depth-signed sign.Plus t ts = refl
terms_depth-signed sign.Minus t ts = refl

-- what follows a term goes on with no factor
no_factor_behind : (ts : Terms) (rest : List Token) → IsNoTerm rest → IsNoFactor (terms_tokens ts ++ rest)
no_factor_behind no_term [] stop = tt
no_factor_behind no_term (t ∷ rest) stop = (stop.0, stop.1)
no_factor_behind (plus t ts) rest stop = (λ h. cc, λ h. cc)
no_factor_behind (minus t ts) rest stop = (λ h. cc, λ h. cc)

-- what follows a factor goes on with no path
pub no_path_behind : (fs : Factors) (rest : List Token) → IsNoFactor rest → IsNoPath (factors_tokens fs ++ rest)
no_path_behind no_factor [] stop = tt
no_path_behind no_factor (t ∷ rest) stop = stop.0
no_path_behind (times f fs) rest stop = λ h. cc

module _ (depth : ℕ) where
  abbrev pub ReadsExpr : Expr → List Token → List Token → Type 0
  ReadsExpr = Reads expr_tokens (ExprNests depth)

  abbrev pub ReadsTerms : Terms → List Token → List Token → Type 0
  ReadsTerms = Reads terms_tokens (TermsNest depth)

  abbrev pub ReadsTerm : Term → List Token → List Token → Type 0
  ReadsTerm = Reads term_tokens (TermNests depth)

  abbrev pub ReadsFactors : Factors → List Token → List Token → Type 0
  ReadsFactors = Reads factors_tokens (FactorsNest depth)

  abbrev pub ReadsFactor : Factor → List Token → List Token → Type 0
  ReadsFactor = Reads factor_tokens (FactorNests depth)

  -- ---- expressions

  sum_read : (t : Term) (ts : Terms) (tokens mid rest : List Token) → ReadsTerm t tokens mid → ReadsTerms ts mid rest →
      ReadsExpr (sum_of t ts) tokens rest
  sum_read t ts tokens mid rest r q = record {
    spelled = r.spelled ∙ rw q.spelled (sym (append_assoc (term_tokens t) (terms_tokens ts) rest));
    fits = omega (arith, r.fits, q.fits);
  }

  signed_read : (s : Sign) (t : Term) (ts : Terms) (tokens behind mid rest : List Token) → tokens ≡ sign_token s ∷ behind →
      ReadsTerm t behind mid → ReadsTerms ts mid rest → ReadsTerms (signed s t ts) tokens rest
  signed_read s t ts tokens behind mid rest front r q = record {
    spelled = front ∙ rw (r.spelled, q.spelled, terms_tokens-signed s t ts)
        (ap (λ x. sign_token s ∷ x) (sym (append_assoc (term_tokens t) (terms_tokens ts) rest)));
    fits = let d = terms_depth-signed s t ts in omega (arith, r.fits, q.fits, d);
  }

  -- a term in front of further ones, each where it stands
  record Parted (t : Term) (ts : Terms) (tokens rest : List Token) : Type 0 where
    first : ReadsTerm t tokens (terms_tokens ts ++ rest)
    others : ReadsTerms ts (terms_tokens ts ++ rest) rest
    stops : IsNoFactor (terms_tokens ts ++ rest)

  parted : (t : Term) (ts : Terms) (tokens rest : List Token) → tokens ≡ (term_tokens t ++ terms_tokens ts) ++ rest →
      depth + max (term_depth t) (terms_depth ts) ≤ 64 → IsNoTerm rest → Parted t ts tokens rest
  parted t ts tokens rest h fits stop = record {
    first = record { spelled = h ∙ append_assoc (term_tokens t) (terms_tokens ts) rest; fits = omega (arith, fits) };
    others = record { spelled = refl; fits = omega (arith, fits) };
    stops = no_factor_behind ts rest stop;
  }

  record Summands (e : Expr) (tokens rest : List Token) : Type 0 where
    term : Term
    terms : Terms
    is : e ≡ sum_of term terms
    parts : Parted term terms tokens rest

  summands : (e : Expr) (tokens rest : List Token) → ReadsExpr e tokens rest → IsNoTerm rest → Summands e tokens rest
  summands (sum_of t ts) tokens rest r stop =
      record { term = t; terms = ts; is = refl; parts = parted t ts tokens rest r.spelled r.fits stop }

  record Signs (s : Sign) (us : Terms) (behind rest : List Token) : Type 0 where
    term : Term
    terms : Terms
    is : us ≡ signed s term terms
    parts : Parted term terms behind rest

  -- no sign stands behind an expression
  no_sign : (s : Sign) (behind rest : List Token) → sign_token s ∷ behind ≡ rest → IsNoTerm rest → ⊥
  no_sign sign.Plus behind rest h stop = (subst IsNoTerm (sym h) stop).2 refl
  no_sign sign.Minus behind rest h stop = (subst IsNoTerm (sym h) stop).3 refl

  -- further terms that begin with a sign are a term behind it, and further terms
  signs : (s : Sign) (us : Terms) (behind rest : List Token) → sign_token s ∷ behind ≡ terms_tokens us ++ rest →
      depth + terms_depth us ≤ 64 → IsNoTerm rest → Signs s us behind rest
  signs s no_term behind rest h fits stop = absurd (no_sign s behind rest h stop)
  signs sign.Plus (plus t ts) behind rest h fits stop =
      record { term = t; terms = ts; is = refl; parts = parted t ts behind rest (cc) fits stop }
  signs sign.Plus (minus t ts) behind rest h fits stop = absurd cc
  signs sign.Minus (plus t ts) behind rest h fits stop = absurd cc
  signs sign.Minus (minus t ts) behind rest h fits stop =
      record { term = t; terms = ts; is = refl; parts = parted t ts behind rest (cc) fits stop }

  -- where no sign stands there are no further terms
  no_terms : (us : Terms) (tokens rest : List Token) → BeginsUnsigned tokens → tokens ≡ terms_tokens us ++ rest → (us ≡ no_term) ×
      (tokens ≡ rest)
  no_terms no_term tokens rest n h = (refl, h)
  no_terms (plus t ts) tokens rest n h = absurd ((subst BeginsUnsigned h n).0 refl)
  no_terms (minus t ts) tokens rest n h = absurd ((subst BeginsUnsigned h n).1 refl)

  -- further terms so far: what is still to read makes them whole
  pub record TermsSoFar (xs : List SignedTerm) (tokens left : List Token) : Type 0 where
    pub sound : (us : Terms) (rest : List Token) → ReadsTerms us left rest → ReadsTerms (joined_terms xs us) tokens rest
    pub whole : (ts : Terms) (rest : List Token) → ReadsTerms ts tokens rest → IsNoTerm rest → (us : Terms) × (ts ≡ joined_terms xs us) ×
        ReadsTerms us left rest

  pub terms_begin : (tokens : List Token) → TermsSoFar [] tokens tokens
  terms_begin tokens = record { sound = λ us rest q. q; whole = λ ts rest h stop. (ts, refl, h) }

  pub terms_more : (xs : List SignedTerm) (s : Sign) (t : Term) (tokens left behind end : List Token) → TermsSoFar xs tokens left →
      left ≡ sign_token s ∷ behind → IsRead term_tokens (TermNests depth) IsNoFactor (Some t) behind end →
      TermsSoFar (xs ++ (record { sign = s; term = t }) ∷ []) tokens end
  terms_more xs s t tokens left behind end so front r = record {
    sound = λ us rest q. rw (joined_terms-push xs (record { sign = s; term = t }) us)
        (so.sound (signed s t us) rest (signed_read s t us left behind end rest front r.sound q));
    whole = λ ts rest h stop.
        let k = so.whole ts rest h stop in
        let p = signs s k.0 behind rest (sym front ∙ k.2.spelled) k.2.fits stop in
        let f = r.whole p.term (terms_tokens p.terms ++ rest) p.parts.first p.parts.stops in (
          p.terms,
          k.1 ∙ ap (joined_terms xs) (p.is ∙ ap (λ x. signed s x p.terms) (sym f.0)) ∙ sym
              (joined_terms-push xs (record { sign = s; term = t }) p.terms),
          subst (λ l. ReadsTerms p.terms l rest) (sym f.1)
              p.parts.others,
        );
  }

  pub terms_break : (xs : List SignedTerm) (s : Sign) (tokens left behind mid end : List Token) → TermsSoFar xs tokens left →
      left ≡ sign_token s ∷ behind → IsRead term_tokens (TermNests depth) IsNoFactor None behind mid →
      IsRead terms_tokens (TermsNest depth) IsNoTerm None tokens end
  terms_break xs s tokens left behind mid end so front r = record {
    sound = tt;
    whole = λ ts rest h stop.
        let k = so.whole ts rest h stop in
        let p = signs s k.0 behind rest (sym front ∙ k.2.spelled) k.2.fits stop in
        r.whole p.term (terms_tokens p.terms ++ rest) p.parts.first p.parts.stops;
  }

  pub terms_end : (xs : List SignedTerm) (tokens left : List Token) → depth ≤ 64 → TermsSoFar xs tokens left → BeginsUnsigned left →
      IsRead terms_tokens (TermsNest depth) IsNoTerm (Some (terms_of xs)) tokens left
  terms_end xs tokens left within so n = record {
    sound = rw (← joined_terms-end xs) (so.sound no_term left (record { spelled = refl; fits = omega (arith, within) }));
    whole = λ ts rest h stop.
        let k = so.whole ts rest h stop in
        let none = no_terms k.0 left rest n k.2.spelled in
        (sym (k.1 ∙ ap (joined_terms xs) none.0 ∙ joined_terms-end xs), none.1);
  }

  -- ---- a term and further terms

  pub no_head_term : (tokens left end : List Token) → IsRead term_tokens (TermNests depth) IsNoFactor None tokens left →
      IsRead expr_tokens (ExprNests depth) IsNoTerm None tokens end
  no_head_term tokens left end r = record {
    sound = tt;
    whole = λ e rest h stop. let p = summands e tokens rest h stop in r.whole p.term (terms_tokens p.terms ++ rest) p.parts.first
        p.parts.stops;
  }

  pub no_further_terms : (head : Term) (tokens mid left end : List Token) →
      IsRead term_tokens (TermNests depth) IsNoFactor (Some head) tokens mid →
      IsRead terms_tokens (TermsNest depth) IsNoTerm None mid left → IsRead expr_tokens (ExprNests depth) IsNoTerm None tokens end
  no_further_terms head tokens mid left end r q = record {
    sound = tt;
    whole = λ e rest h stop.
        let p = summands e tokens rest h stop in
        let k = r.whole p.term (terms_tokens p.terms ++ rest) p.parts.first p.parts.stops in
        q.whole p.terms rest (subst (λ l. ReadsTerms p.terms l rest) (sym k.1) p.parts.others) stop;
  }

  pub expr_read : (head : Term) (ts : Terms) (tokens mid left : List Token) →
      IsRead term_tokens (TermNests depth) IsNoFactor (Some head) tokens mid →
      IsRead terms_tokens (TermsNest depth) IsNoTerm (Some ts) mid left →
      IsRead expr_tokens (ExprNests depth) IsNoTerm (Some (sum_of head ts)) tokens left
  expr_read head ts tokens mid left r q = record {
    sound = sum_read head ts tokens mid left r.sound q.sound;
    whole = λ e rest h stop.
        let p = summands e tokens rest h stop in
        let k = r.whole p.term (terms_tokens p.terms ++ rest) p.parts.first p.parts.stops in
        let m = q.whole p.terms rest (subst (λ l. ReadsTerms p.terms l rest) (sym k.1) p.parts.others) stop in
        (ap (λ t. sum_of t ts) k.0 ∙ ap (sum_of p.term) m.0 ∙ sym p.is, m.1);
  }
