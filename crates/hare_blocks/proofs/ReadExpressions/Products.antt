-- What the reader of terms finds, from what the reader of factors finds.
use Rattle.std.proofs.Common.{◌≡◌, ◌≢◌, ℕ, ◌+◌, ◌≤◌, max, List, [], ◌∷◌, ◌++◌, length, Some, None, refl, sym, ap, ◌∙◌, append_assoc, subst, arith}
use Rattle.std.proofs.lemmas.List.{length-append}
use Rattle.hare_blocks.specs.declared.expr.Factor as read_factor
use Rattle.hare_blocks.specs.declared.token.Token.{Token}
use Rattle.hare_blocks.specs.declared.token.Token.TheVariants as token
use Rattle.hare_blocks.specs.Trees.{Term, Factors, Factor, product_of, no_factor, times, term_tokens, factors_tokens, factor_tokens}
use Rattle.hare_blocks.specs.Nesting.{factor_depth, factors_depth}
use Rattle.hare_blocks.specs.Shape.{factor_of, factors_of}
use Rattle.hare_blocks.specs.Parsing.{IsNoPath, IsNoFactor, Reads, IsRead, TermNests, FactorsNest, FactorNests}
use Rattle.hare_blocks.proofs.ReadExpressions.Expressions.{no_path_behind, ReadsTerm, ReadsFactors, ReadsFactor}

-- ---- further factors

-- factors that were read, and those that are still to read
abbrev pub joined_factors : List read_factor.Factor → Factors → Factors
joined_factors [] us = us
joined_factors (x ∷ xs) us = times (factor_of x) (joined_factors xs us)

joined_factors-push : (xs : List read_factor.Factor) (x : read_factor.Factor) (us : Factors) →
    joined_factors (xs ++ x ∷ []) us ≡ joined_factors xs (times (factor_of x) us)
joined_factors-push [] x us = refl
joined_factors-push (y ∷ xs) x us = ap (times (factor_of y)) (joined_factors-push xs x us)

joined_factors-end : (xs : List read_factor.Factor) → joined_factors xs no_factor ≡ factors_of xs
joined_factors-end [] = refl
joined_factors-end (x ∷ xs) = ap (times (factor_of x)) (joined_factors-end xs)

-- what is left behind a part that was read is no longer than the tokens
pub rest_no_longer : {A : Type 0} (spell : A → List Token) (Fits : A → Type 0) (x : A) (tokens rest : List Token) →
    Reads spell Fits x tokens rest → length rest ≤ length tokens
rest_no_longer spell Fits x tokens rest r = omega (arith, ap length r.spelled, length-append (spell x) rest)

module _ (depth : ℕ) where
  product_read : (f : Factor) (fs : Factors) (tokens mid rest : List Token) → ReadsFactor depth f tokens mid →
      ReadsFactors depth fs mid rest → ReadsTerm depth (product_of f fs) tokens rest
  product_read f fs tokens mid rest r q = record {
    spelled = r.spelled ∙ rw q.spelled (sym (append_assoc (factor_tokens f) (factors_tokens fs) rest));
    fits = omega (arith, r.fits, q.fits);
  }

  times_read : (f : Factor) (fs : Factors) (tokens behind mid rest : List Token) → tokens ≡ token.Star ∷ behind →
      ReadsFactor depth f behind mid → ReadsFactors depth fs mid rest → ReadsFactors depth (times f fs) tokens rest
  times_read f fs tokens behind mid rest front r q = record {
    spelled = front ∙ rw (r.spelled, q.spelled) (ap (λ x. token.Star ∷ x) (sym (append_assoc (factor_tokens f) (factors_tokens fs) rest)));
    fits = omega (arith, r.fits, q.fits);
  }

  -- a factor in front of further ones, each where it stands
  record Parted (f : Factor) (fs : Factors) (tokens rest : List Token) : Type 0 where
    first : ReadsFactor depth f tokens (factors_tokens fs ++ rest)
    others : ReadsFactors depth fs (factors_tokens fs ++ rest) rest
    stops : IsNoPath (factors_tokens fs ++ rest)

  parted : (f : Factor) (fs : Factors) (tokens rest : List Token) → tokens ≡ (factor_tokens f ++ factors_tokens fs) ++ rest →
      depth + max (factor_depth f) (factors_depth fs) ≤ 64 → IsNoFactor rest → Parted f fs tokens rest
  parted f fs tokens rest h fits stop = record {
    first = record { spelled = h ∙ append_assoc (factor_tokens f) (factors_tokens fs) rest; fits = omega (arith, fits) };
    others = record { spelled = refl; fits = omega (arith, fits) };
    stops = no_path_behind fs rest stop;
  }

  record Multiplicands (t : Term) (tokens rest : List Token) : Type 0 where
    factor : Factor
    factors : Factors
    is : t ≡ product_of factor factors
    parts : Parted factor factors tokens rest

  multiplicands : (t : Term) (tokens rest : List Token) → ReadsTerm depth t tokens rest → IsNoFactor rest → Multiplicands t tokens rest
  multiplicands (product_of f fs) tokens rest r stop =
      record { factor = f; factors = fs; is = refl; parts = parted f fs tokens rest r.spelled r.fits stop }

  record Stars (us : Factors) (behind rest : List Token) : Type 0 where
    factor : Factor
    factors : Factors
    is : us ≡ times factor factors
    parts : Parted factor factors behind rest

  -- further factors that begin with a star are a factor behind it, and further factors
  stars : (us : Factors) (behind rest : List Token) → token.Star ∷ behind ≡ factors_tokens us ++ rest → depth + factors_depth us ≤ 64 →
      IsNoFactor rest → Stars us behind rest
  stars no_factor behind rest h fits stop = absurd ((subst IsNoFactor (sym h) stop).1 refl)
  stars (times f fs) behind rest h fits stop =
      record { factor = f; factors = fs; is = refl; parts = parted f fs behind rest (cc) fits stop }

  -- where no star stands there are no further factors
  no_factors : (us : Factors) (tokens rest : List Token) → ((behind : List Token) → tokens ≢ token.Star ∷ behind) →
      tokens ≡ factors_tokens us ++ rest → (us ≡ no_factor) × (tokens ≡ rest)
  no_factors no_factor tokens rest n h = (refl, h)
  no_factors (times f fs) tokens rest n h = absurd (n ((factor_tokens f ++ factors_tokens fs) ++ rest) h)

  -- further factors so far: what is still to read makes them whole
  pub record FactorsSoFar (xs : List read_factor.Factor) (tokens left : List Token) : Type 0 where
    pub sound : (us : Factors) (rest : List Token) → ReadsFactors depth us left rest → ReadsFactors depth (joined_factors xs us) tokens rest
    pub whole : (fs : Factors) (rest : List Token) → ReadsFactors depth fs tokens rest → IsNoFactor rest → (us : Factors) ×
        (fs ≡ joined_factors xs us) × ReadsFactors depth us left rest

  pub factors_begin : (tokens : List Token) → FactorsSoFar [] tokens tokens
  factors_begin tokens = record { sound = λ us rest q. q; whole = λ fs rest h stop. (fs, refl, h) }

  pub factors_more : (xs : List read_factor.Factor) (x : read_factor.Factor) (tokens left behind end : List Token) →
      FactorsSoFar xs tokens left → left ≡ token.Star ∷ behind →
      IsRead factor_tokens (FactorNests depth) IsNoPath (Some (factor_of x)) behind end → FactorsSoFar (xs ++ x ∷ []) tokens end
  factors_more xs x tokens left behind end so front r = record {
    sound = λ us rest q. rw (joined_factors-push xs x us)
        (so.sound (times (factor_of x) us) rest (times_read (factor_of x) us left behind end rest front r.sound q));
    whole = λ fs rest h stop.
        let k = so.whole fs rest h stop in
        let p = stars k.0 behind rest (sym front ∙ k.2.spelled) k.2.fits stop in
        let f = r.whole p.factor (factors_tokens p.factors ++ rest) p.parts.first p.parts.stops in (
          p.factors,
          k.1 ∙ ap (joined_factors xs) (p.is ∙ ap (λ y. times y p.factors) (sym f.0)) ∙ sym (joined_factors-push xs x p.factors),
          subst (λ l. ReadsFactors depth p.factors l rest) (sym f.1) p.parts.others,
        );
  }

  pub factors_break : (xs : List read_factor.Factor) (tokens left behind mid end : List Token) → FactorsSoFar xs tokens left →
      left ≡ token.Star ∷ behind → IsRead factor_tokens (FactorNests depth) IsNoPath None behind mid →
      IsRead factors_tokens (FactorsNest depth) IsNoFactor None tokens end
  factors_break xs tokens left behind mid end so front r = record {
    sound = tt;
    whole = λ fs rest h stop.
        let k = so.whole fs rest h stop in
        let p = stars k.0 behind rest (sym front ∙ k.2.spelled) k.2.fits stop in
        r.whole p.factor (factors_tokens p.factors ++ rest) p.parts.first p.parts.stops;
  }

  pub factors_end : (xs : List read_factor.Factor) (tokens left : List Token) → depth ≤ 64 → FactorsSoFar xs tokens left →
      ((behind : List Token) → left ≢ token.Star ∷ behind) →
      IsRead factors_tokens (FactorsNest depth) IsNoFactor (Some (factors_of xs)) tokens left
  factors_end xs tokens left within so n = record {
    sound = rw (← joined_factors-end xs) (so.sound no_factor left (record { spelled = refl; fits = omega (arith, within) }));
    whole = λ fs rest h stop.
        let k = so.whole fs rest h stop in
        let none = no_factors k.0 left rest n k.2.spelled in
        (sym (k.1 ∙ ap (joined_factors xs) none.0 ∙ joined_factors-end xs), none.1);
  }

  -- ---- a factor and further factors

  pub no_head_factor : (tokens left end : List Token) → IsRead factor_tokens (FactorNests depth) IsNoPath None tokens left →
      IsRead term_tokens (TermNests depth) IsNoFactor None tokens end
  no_head_factor tokens left end r = record {
    sound = tt;
    whole = λ t rest h stop. let p = multiplicands t tokens rest h stop in r.whole p.factor (factors_tokens p.factors ++ rest) p.parts.first
        p.parts.stops;
  }

  pub no_further_factors : (head : Factor) (tokens mid left end : List Token) →
      IsRead factor_tokens (FactorNests depth) IsNoPath (Some head) tokens mid →
      IsRead factors_tokens (FactorsNest depth) IsNoFactor None mid left → IsRead term_tokens (TermNests depth) IsNoFactor None tokens end
  no_further_factors head tokens mid left end r q = record {
    sound = tt;
    whole = λ t rest h stop.
        let p = multiplicands t tokens rest h stop in
        let k = r.whole p.factor (factors_tokens p.factors ++ rest) p.parts.first p.parts.stops in
        q.whole p.factors rest (subst (λ l. ReadsFactors depth p.factors l rest) (sym k.1) p.parts.others) stop;
  }

  pub term_read : (head : Factor) (fs : Factors) (tokens mid left : List Token) →
      IsRead factor_tokens (FactorNests depth) IsNoPath (Some head) tokens mid →
      IsRead factors_tokens (FactorsNest depth) IsNoFactor (Some fs) mid left →
      IsRead term_tokens (TermNests depth) IsNoFactor (Some (product_of head fs)) tokens left
  term_read head fs tokens mid left r q = record {
    sound = product_read head fs tokens mid left r.sound q.sound;
    whole = λ t rest h stop.
        let p = multiplicands t tokens rest h stop in
        let k = r.whole p.factor (factors_tokens p.factors ++ rest) p.parts.first p.parts.stops in
        let m = q.whole p.factors rest (subst (λ l. ReadsFactors depth p.factors l rest) (sym k.1) p.parts.others) stop in
        (ap (λ x. product_of x fs) k.0 ∙ ap (product_of p.factor) m.0 ∙ sym p.is, m.1);
  }
