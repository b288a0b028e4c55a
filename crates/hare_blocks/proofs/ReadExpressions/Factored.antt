-- What the reader of factors finds: numbers, variables, the number of arguments, and expressions in parentheses.
use Rattle.std.proofs.Common.{◌≡◌, ◌≢◌, ℕ, ◌+◌, ◌<◌, ◌≤◌, List, [], ◌∷◌, ◌++◌, Option, Some, None, codes, refl, sym, ap, ◌∙◌, append_assoc, subst, arith}
use Rattle.hare_blocks.specs.declared.token.Token.{Token}
use Rattle.hare_blocks.specs.declared.token.Token.TheVariants as token
use Rattle.hare_blocks.specs.Trees.{Expr, Factor, number, arg_count, variable, group, expr_tokens, factor_tokens}
use Rattle.hare_blocks.specs.Nesting.{expr_depth}
use Rattle.hare_blocks.specs.Parsing.{IsNoPath, IsNoTerm, Reads, IsRead, ExprNests, FactorNests}

-- the tokens behind `rt::` in a factor
abbrev arguments : List Token
arguments = token.Name (codes "nargs") ∷ token.OpenParen ∷ token.CloseParen ∷ []

module _ (depth : ℕ) where
  abbrev pub IsFactorRead : Option Factor → List Token → List Token → Type 0
  IsFactorRead = IsRead factor_tokens (FactorNests depth) IsNoPath

  -- a factor begins with a number, with a name or with a parenthesis
  begins_factor : (f : Factor) (first : Token) (behind rest : List Token) → first ∷ behind ≡ factor_tokens f ++ rest →
      ((n : ℕ) → first ≢ token.Number n) → first ≢ token.OpenParen → ((x : List ℕ) → first ≢ token.Name x) → ⊥
  begins_factor (number n) first behind rest h a b c = a n cc
  begins_factor arg_count first behind rest h a b c = c (codes "rt") cc
  begins_factor (variable x) first behind rest h a b c = c x cc
  begins_factor (group e) first behind rest h a b c = b cc

  pub other_factor : (first : Token) (tokens behind left : List Token) → tokens ≡ first ∷ behind → ((n : ℕ) → first ≢ token.Number n) →
      first ≢ token.OpenParen → ((x : List ℕ) → first ≢ token.Name x) → IsFactorRead None tokens left
  other_factor first tokens behind left front a b c =
      record { sound = tt; whole = λ f rest h stop. begins_factor f first behind rest (sym front ∙ h.spelled) a b c }

  -- a factor has a token
  no_factor_of_nothing : (f : Factor) (rest : List Token) → [] ≡ factor_tokens f ++ rest → ⊥
  no_factor_of_nothing (number n) rest h = cc
  no_factor_of_nothing arg_count rest h = cc
  no_factor_of_nothing (variable x) rest h = cc
  no_factor_of_nothing (group e) rest h = cc

  pub factor_of_nothing : (tokens left : List Token) → tokens ≡ [] → IsFactorRead None tokens left
  factor_of_nothing tokens left none = record { sound = tt; whole = λ f rest h stop. no_factor_of_nothing f rest (sym none ∙ h.spelled) }

  -- ---- numbers

  number_only : (f : Factor) (n : ℕ) (behind rest : List Token) → token.Number n ∷ behind ≡ factor_tokens f ++ rest → (number n ≡ f) ×
      (behind ≡ rest)
  number_only (number k) n behind rest h = (cc, cc)
  number_only arg_count n behind rest h = absurd cc
  number_only (variable x) n behind rest h = absurd cc
  number_only (group e) n behind rest h = absurd cc

  pub number_read : (n : ℕ) (tokens behind : List Token) → depth ≤ 64 → tokens ≡ token.Number n ∷ behind →
      IsFactorRead (Some (number n)) tokens behind
  number_read n tokens behind within front = record {
    sound = record { spelled = front; fits = omega (arith, within) };
    whole = λ f rest h stop. number_only f n behind rest (sym front ∙ h.spelled);
  }

  -- ---- expressions in parentheses

  record Grouped (f : Factor) (behind rest : List Token) : Type 0 where
    expr : Expr
    is : f ≡ group expr
    inner : Reads expr_tokens (ExprNests (depth + 1)) expr behind (token.CloseParen ∷ rest)

  grouped : (f : Factor) (behind rest : List Token) → Reads factor_tokens (FactorNests depth) f (token.OpenParen ∷ behind) rest →
      Grouped f behind rest
  grouped (number n) behind rest h = let k = h.spelled in absurd cc
  grouped arg_count behind rest h = let k = h.spelled in absurd cc
  grouped (variable x) behind rest h = let k = h.spelled in absurd cc
  grouped (group e) behind rest h = record {
    expr = e;
    is = refl;
    inner = record {
      spelled =
          let s = h.spelled in let k : behind ≡ (expr_tokens e ++ token.CloseParen ∷ []) ++ rest =
          cc in k ∙ append_assoc (expr_tokens e) (token.CloseParen ∷ []) rest;
      fits = omega (arith, h.fits);
    };
  }

  -- a parenthesis that closes goes on with no term
  closes : (rest : List Token) → IsNoTerm (token.CloseParen ∷ rest)
  closes rest = (λ h. cc, λ h. cc, λ h. cc, λ h. cc)

  pub group_too_deep : (behind left : List Token) → 64 ≤ depth → IsFactorRead None (token.OpenParen ∷ behind) left
  group_too_deep behind left deep = record {
    sound = tt;
    whole = λ f rest h stop. let p = grouped f behind rest h in let n : depth + 1 + expr_depth p.expr ≤ 64 =
        p.inner.fits in omega (arith, deep, n);
  }

  pub group_of_nothing : (behind mid left : List Token) → IsRead expr_tokens (ExprNests (depth + 1)) IsNoTerm None behind mid →
      IsFactorRead None (token.OpenParen ∷ behind) left
  group_of_nothing behind mid left r = record {
    sound = tt;
    whole = λ f rest h stop. let p = grouped f behind rest h in r.whole p.expr (token.CloseParen ∷ rest) p.inner (closes rest);
  }

  pub group_open : (e : Expr) (behind mid left : List Token) → IsRead expr_tokens (ExprNests (depth + 1)) IsNoTerm (Some e) behind mid →
      ((rest : List Token) → mid ≢ token.CloseParen ∷ rest) → IsFactorRead None (token.OpenParen ∷ behind) left
  group_open e behind mid left r unclosed = record {
    sound = tt;
    whole = λ f rest h stop. let p = grouped f behind rest h in unclosed rest
        (r.whole p.expr (token.CloseParen ∷ rest) p.inner (closes rest)).1;
  }

  pub group_read : (e : Expr) (behind mid left : List Token) → IsRead expr_tokens (ExprNests (depth + 1)) IsNoTerm (Some e) behind mid →
      mid ≡ token.CloseParen ∷ left → IsFactorRead (Some (group e)) (token.OpenParen ∷ behind) left
  group_read e behind mid left r close = record {
    sound = record {
      spelled = ap (λ x. token.OpenParen ∷ x)
          (r.sound.spelled ∙ rw close (sym (append_assoc (expr_tokens e) (token.CloseParen ∷ []) left)));
      fits = let n : depth + 1 + expr_depth e ≤ 64 = r.sound.fits in omega (arith, n);
    };
    whole = λ f rest h stop.
        let p = grouped f behind rest h in
        let k = r.whole p.expr (token.CloseParen ∷ rest) p.inner (closes rest) in
        let same = sym close ∙ k.1 in
        (ap group k.0 ∙ sym p.is, cc);
  }

  -- ---- names

  variable_only : (f : Factor) (x : List ℕ) (behind rest : List Token) → token.Name x ∷ behind ≡ factor_tokens f ++ rest →
      ((more : List Token) → behind ≢ token.PathSeparator ∷ more) → (variable x ≡ f) × (behind ≡ rest)
  variable_only (number n) x behind rest h alone = absurd cc
  variable_only arg_count x behind rest h alone = absurd (alone (arguments ++ rest) (cc))
  variable_only (variable y) x behind rest h alone = (cc, cc)
  variable_only (group e) x behind rest h alone = absurd cc

  pub variable_read : (x y : List ℕ) (behind left : List Token) → depth ≤ 64 → y ≡ x → left ≡ behind →
      ((more : List Token) → behind ≢ token.PathSeparator ∷ more) → IsFactorRead (Some (variable y)) (token.Name x ∷ behind) left
  variable_read x y behind left within same kept alone = record {
    sound = record { spelled = rw (same, kept) refl; fits = omega (arith, within) };
    whole = λ f rest h stop. let k = variable_only f x behind rest h.spelled alone in (ap variable same ∙ k.0, kept ∙ k.1);
  }

  -- behind a path stands the number of arguments
  path_is : (f : Factor) (x : List ℕ) (behind rest : List Token) →
      Reads factor_tokens (FactorNests depth) f (token.Name x ∷ token.PathSeparator ∷ behind) rest → IsNoPath rest → (f ≡ arg_count) ×
      (x ≡ codes "rt") × (behind ≡ arguments ++ rest) × (depth + 1 ≤ 64)
  path_is (number n) x behind rest h stop = let k = h.spelled in absurd cc
  path_is arg_count x behind rest h stop = let k = h.spelled in (refl, cc, cc, h.fits)
  path_is (variable y) x behind rest h stop =
      let k : token.PathSeparator ∷ behind ≡ rest = let s = h.spelled in cc in absurd (subst IsNoPath (sym k) stop refl)
  path_is (group e) x behind rest h stop = let k = h.spelled in absurd cc

  pub path_too_deep : (x : List ℕ) (behind more left : List Token) → behind ≡ token.PathSeparator ∷ more → 64 ≤ depth →
      IsFactorRead None (token.Name x ∷ behind) left
  path_too_deep x behind more left front deep =
      rw front (record { sound = tt; whole = λ f rest h stop. let k = (path_is f x more rest h stop).3 in omega (arith, deep, k) })

  pub path_of_other : (x : List ℕ) (behind more left : List Token) → behind ≡ token.PathSeparator ∷ more → x ≢ codes "rt" →
      IsFactorRead None (token.Name x ∷ behind) left
  path_of_other x behind more left front other =
      rw front (record { sound = tt; whole = λ f rest h stop. other (path_is f x more rest h stop).1 })

  pub path_to_other : (x : List ℕ) (behind more left : List Token) → behind ≡ token.PathSeparator ∷ more →
      ((rest : List Token) → more ≢ arguments ++ rest) → IsFactorRead None (token.Name x ∷ behind) left
  path_to_other x behind more left front other =
      rw front (record { sound = tt; whole = λ f rest h stop. other rest (path_is f x more rest h stop).2 })

  pub arg_count_read : (x : List ℕ) (behind more left : List Token) → behind ≡ token.PathSeparator ∷ more → x ≡ codes "rt" →
      more ≡ arguments ++ left → depth < 64 → IsFactorRead (Some arg_count) (token.Name x ∷ behind) left
  arg_count_read x behind more left front is args within = rw front (record {
    sound = record { spelled = rw (is, args) refl; fits = omega (arith, within) };
    whole = λ f rest h stop. let k = path_is f x more rest h stop in let same = sym args ∙ k.2 in (sym k.0, cc);
  })
