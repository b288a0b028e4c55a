-- What the readers of outermost expressions and of conditions find.
use Rattle.std.proofs.Common.{◌≡◌, ◌≢◌, ◌-◌, List, [], ◌∷◌, ◌++◌, length, take, Some, None, refl, sym, ap, ◌∙◌, append_assoc, subst, arith}
use Rattle.std.proofs.Math.Seq.{take-append_seam}
use Rattle.std.proofs.lemmas.List.{length-append}
use Rattle.hare_blocks.specs.declared.token.Token.{Token}
use Rattle.hare_blocks.specs.declared.token.Token.TheVariants as token
use Rattle.hare_blocks.specs.Trees.{Expr, Relation, less, less_equal, greater, greater_equal, equal, differ, Condition, always, compares, sum_of, product_of, number, arg_count, variable, group, expr_tokens, condition_tokens, relation_token}
use Rattle.hare_blocks.specs.Class.{AreLimited}
use Rattle.hare_blocks.specs.Parsing.{IsNoTerm, Reads, IsRead, ExprNests}
use Rattle.hare_blocks.specs.Grammar.{IsLimited, ConditionFits, Anything}
use Rattle.hare_blocks.proofs.ReadExpressions.Nested.{depth_of_limited}

-- ---- outermost expressions

-- an expression that keeps the limits is not nested too deep
nested : (e : Expr) (tokens rest : List Token) → Reads expr_tokens IsLimited e tokens rest → Reads expr_tokens (ExprNests 0) e tokens rest
nested e tokens rest r = record { spelled = r.spelled; fits = depth_of_limited e r.fits }

pub outer_none : (tokens left end : List Token) → IsRead expr_tokens (ExprNests 0) IsNoTerm None tokens left →
    IsRead expr_tokens IsLimited IsNoTerm None tokens end
outer_none tokens left end r = record { sound = tt; whole = λ e rest h stop. r.whole e rest (nested e tokens rest h) stop }

-- the tokens that were taken
pub taken : (e : Expr) (tokens left : List Token) → tokens ≡ expr_tokens e ++ left →
    take (length tokens - length left) tokens ≡ expr_tokens e
taken e tokens left h =
    let n : length tokens - length left ≡ length (expr_tokens e) = omega (arith, ap length h, length-append (expr_tokens e) left) in
    rw (n, h) (take-append_seam (expr_tokens e) left)

pub outer_unlimited : (e : Expr) (tokens left end : List Token) → IsRead expr_tokens (ExprNests 0) IsNoTerm (Some e) tokens left →
    (AreLimited (expr_tokens e) → ⊥) → IsRead expr_tokens IsLimited IsNoTerm None tokens end
outer_unlimited e tokens left end r broken = record {
  sound = tt;
  whole = λ x rest h stop. let k = r.whole x rest (nested x tokens rest h) stop in broken (subst IsLimited (sym k.0) h.fits);
}

pub outer_read : (e : Expr) (tokens left : List Token) → IsRead expr_tokens (ExprNests 0) IsNoTerm (Some e) tokens left →
    AreLimited (expr_tokens e) → IsRead expr_tokens IsLimited IsNoTerm (Some e) tokens left
outer_read e tokens left r l = record {
  sound = record { spelled = r.sound.spelled; fits = l };
  whole = λ x rest h stop. r.whole x rest (nested x tokens rest h) stop;
}

-- ---- conditions

-- no expression begins with `true`
not_true : (e : Expr) (behind rest : List Token) → token.True ∷ behind ≡ expr_tokens e ++ rest → ⊥
not_true (sum_of (product_of (number n) fs) ts) behind rest h = cc
not_true (sum_of (product_of arg_count fs) ts) behind rest h = cc
not_true (sum_of (product_of (variable x) fs) ts) behind rest h = cc
not_true (sum_of (product_of (group e) fs) ts) behind rest h = cc

-- a relation goes on with no term
relation_stops : (r : Relation) (rest : List Token) → IsNoTerm (relation_token r ∷ rest)
relation_stops less rest = (λ h. cc, λ h. cc, λ h. cc, λ h. cc)
relation_stops less_equal rest = (λ h. cc, λ h. cc, λ h. cc, λ h. cc)
relation_stops greater rest = (λ h. cc, λ h. cc, λ h. cc, λ h. cc)
relation_stops greater_equal rest = (λ h. cc, λ h. cc, λ h. cc, λ h. cc)
relation_stops equal rest = (λ h. cc, λ h. cc, λ h. cc, λ h. cc)
relation_stops differ rest = (λ h. cc, λ h. cc, λ h. cc, λ h. cc)

-- relations are told apart by their tokens
relation_token-inj : (r s : Relation) → relation_token r ≡ relation_token s → r ≡ s
relation_token-inj less less h = refl
relation_token-inj less_equal less_equal h = refl
relation_token-inj greater greater h = refl
relation_token-inj greater_equal greater_equal h = refl
relation_token-inj equal equal h = refl
relation_token-inj differ differ h = refl
relation_token-inj _ _ h = absurd cc

pub record Compared (c : Condition) (tokens rest : List Token) : Type 0 where
  pub left : Expr
  pub relation : Relation
  pub right : Expr
  pub is : c ≡ compares left relation right
  pub first : Reads expr_tokens IsLimited left tokens (relation_token relation ∷ (expr_tokens right ++ rest))
  pub second : Reads expr_tokens IsLimited right (expr_tokens right ++ rest) rest
  pub stops : IsNoTerm (relation_token relation ∷ (expr_tokens right ++ rest))

-- a condition that does not begin with `true` compares
pub compared : (c : Condition) (tokens rest : List Token) → Reads condition_tokens ConditionFits c tokens rest →
    ((more : List Token) → tokens ≢ token.True ∷ more) → Compared c tokens rest
compared always tokens rest h other = absurd (other rest h.spelled)
compared (compares a r b) tokens rest h other = record {
  left = a;
  relation = r;
  right = b;
  is = refl;
  first = record { spelled = h.spelled ∙ append_assoc (expr_tokens a) (relation_token r ∷ expr_tokens b) rest; fits = h.fits.0 };
  second = record { spelled = refl; fits = h.fits.1.0 };
  stops = relation_stops r (expr_tokens b ++ rest);
}

always_only : (c : Condition) (behind rest : List Token) → token.True ∷ behind ≡ condition_tokens c ++ rest → (always ≡ c) × (behind ≡ rest)
always_only always behind rest h = (refl, cc)
always_only (compares a r b) behind rest h =
    absurd (not_true a behind ((relation_token r ∷ expr_tokens b) ++ rest)
    (h ∙ append_assoc (expr_tokens a) (relation_token r ∷ expr_tokens b) rest))

pub always_read : (tokens left : List Token) → tokens ≡ token.True ∷ left →
    IsRead condition_tokens ConditionFits IsNoTerm (Some always) tokens left
always_read tokens left front = record {
  sound = record { spelled = front; fits = tt };
  whole = λ c rest h stop. always_only c left rest (sym front ∙ h.spelled);
}

module _ (tokens end : List Token) (other : (more : List Token) → tokens ≢ token.True ∷ more) where
  pub no_left : (mid : List Token) → IsRead expr_tokens IsLimited IsNoTerm None tokens mid →
      IsRead condition_tokens ConditionFits IsNoTerm None tokens end
  no_left mid r = record { sound = tt; whole = λ c rest h stop. let p = compared c tokens rest h other in r.whole p.left _ p.first p.stops }

  pub no_relation : (a : Expr) (mid : List Token) → IsRead expr_tokens IsLimited IsNoTerm (Some a) tokens mid →
      ((r : Relation) (rest : List Token) → mid ≢ relation_token r ∷ rest) → IsRead condition_tokens ConditionFits IsNoTerm None tokens end
  no_relation a mid r none = record {
    sound = tt;
    whole = λ c rest h stop.
        let p = compared c tokens rest h other in
        none p.relation (expr_tokens p.right ++ rest)
        (r.whole p.left (relation_token p.relation ∷ (expr_tokens p.right ++ rest)) p.first p.stops).1;
  }

  -- what stands behind the relation
  record Behind (a : Expr) (s : Relation) (c : Condition) (behind rest : List Token) : Type 0 where
    right : Expr
    is : c ≡ compares a s right
    second : Reads expr_tokens IsLimited right behind rest

  behind_relation : (a : Expr) (s : Relation) (mid behind : List Token) → IsRead expr_tokens IsLimited IsNoTerm (Some a) tokens mid →
      mid ≡ relation_token s ∷ behind → (c : Condition) (rest : List Token) → Reads condition_tokens ConditionFits c tokens rest →
      Behind a s c behind rest
  behind_relation a s mid behind r sign c rest h =
      let p = compared c tokens rest h other in
      let k = r.whole p.left (relation_token p.relation ∷ (expr_tokens p.right ++ rest)) p.first p.stops in
      let same = sym sign ∙ k.1 in
      let kind : relation_token s ≡ relation_token p.relation = cc in
      let left : behind ≡ expr_tokens p.right ++ rest = cc in
      record {
        right = p.right;
        is = p.is ∙ ap (λ x. compares x p.relation p.right) (sym k.0) ∙ ap (λ x. compares a x p.right)
            (sym (relation_token-inj s p.relation kind));
        second = subst (λ l. Reads expr_tokens IsLimited p.right l rest) (sym left) p.second;
      }

  pub no_right : (a : Expr) (s : Relation) (mid behind last : List Token) → IsRead expr_tokens IsLimited IsNoTerm (Some a) tokens mid →
      mid ≡ relation_token s ∷ behind → IsRead expr_tokens IsLimited IsNoTerm None behind last →
      IsRead condition_tokens ConditionFits IsNoTerm None tokens end
  no_right a s mid behind last r sign q = record {
    sound = tt;
    whole = λ c rest h stop. let p = behind_relation a s mid behind r sign c rest h in q.whole p.right rest p.second stop;
  }

  pub compares_read : (a : Expr) (s : Relation) (b : Expr) (mid behind : List Token) →
      IsRead expr_tokens IsLimited IsNoTerm (Some a) tokens mid → mid ≡ relation_token s ∷ behind →
      IsRead expr_tokens IsLimited IsNoTerm (Some b) behind end →
      IsRead condition_tokens ConditionFits IsNoTerm (Some (compares a s b)) tokens end
  compares_read a s b mid behind r sign q = record {
    sound = record {
      spelled = r.sound.spelled ∙ rw (sign, q.sound.spelled) (sym (append_assoc (expr_tokens a) (relation_token s ∷ expr_tokens b) end));
      fits = (r.sound.fits, (q.sound.fits, tt));
    };
    whole = λ c rest h stop.
        let p = behind_relation a s mid behind r sign c rest h in
        let k = q.whole p.right rest p.second stop in
        (ap (compares a s) k.0 ∙ sym p.is, k.1);
  }

-- ---- in parentheses

-- what stands behind equal tokens in front of equal tokens is equal
pub append_cancel_left : (s a b : List Token) → s ++ a ≡ s ++ b → a ≡ b
append_cancel_left [] a b h = h
append_cancel_left (x ∷ s) a b h = append_cancel_left s a b cc

-- a parenthesis that closes goes on with no term
pub closes : (rest : List Token) → IsNoTerm (token.CloseParen ∷ rest)
closes rest = (λ h. cc, λ h. cc, λ h. cc, λ h. cc)

-- a part between tokens that the grammar fixes
module _ {A : Type 0} (spell : A → List Token) (Fits : A → Type 0) (front back : List Token)
    (closed : (rest : List Token) → IsNoTerm (back ++ rest)) where
  abbrev pub around : A → List Token
  around x = front ++ (spell x ++ back)

  -- where the tokens in front do not stand
  pub not_around : (tokens end : List Token) → ((rest : List Token) → tokens ≢ front ++ rest) → IsRead around Fits Anything None tokens end
  not_around tokens end other = record {
    sound = tt;
    whole = λ x rest h stop. other ((spell x ++ back) ++ rest)
        (h.spelled ∙ append_assoc front (spell x ++ back) rest);
  }

  -- what stands behind the tokens in front
  within : (x : A) (tokens behind rest : List Token) → tokens ≡ front ++ behind → Reads around Fits x tokens rest →
      Reads spell Fits x behind (back ++ rest)
  within x tokens behind rest f h =
      let same : front ++ behind ≡ front ++ (spell x ++ (back ++ rest)) =
      sym f ∙ h.spelled ∙ append_assoc front (spell x ++ back) rest ∙ ap (λ y. front ++ y) (append_assoc (spell x) back rest) in
      record { spelled = append_cancel_left front behind (spell x ++ (back ++ rest)) same; fits = h.fits }

  pub none_around : (tokens behind mid end : List Token) → tokens ≡ front ++ behind → IsRead spell Fits IsNoTerm None behind mid →
      IsRead around Fits Anything None tokens end
  none_around tokens behind mid end f r = record
      { sound = tt; whole = λ x rest h stop. r.whole x (back ++ rest) (within x tokens behind rest f h) (closed rest) }

  pub unclosed_around : (y : A) (tokens behind mid end : List Token) → tokens ≡ front ++ behind →
      IsRead spell Fits IsNoTerm (Some y) behind mid → ((rest : List Token) → mid ≢ back ++ rest) →
      IsRead around Fits Anything None tokens end
  unclosed_around y tokens behind mid end f r other =
      record {
        sound = tt;
        whole = λ x rest h stop. other rest
            (r.whole x (back ++ rest) (within x tokens behind rest f h) (closed rest)).1;
      }

  pub around_read : (y : A) (tokens behind mid end : List Token) → tokens ≡ front ++ behind →
      IsRead spell Fits IsNoTerm (Some y) behind mid → mid ≡ back ++ end → IsRead around Fits Anything (Some y) tokens end
  around_read y tokens behind mid end f r b = record {
    sound = record {
      spelled = f ∙ rw (r.sound.spelled, b)
          (sym (append_assoc front (spell y ++ back) end ∙ ap (λ z. front ++ z) (append_assoc (spell y) back end)));
      fits = r.sound.fits;
    };
    whole = λ x rest h stop.
        let k = r.whole x (back ++ rest) (within x tokens behind rest f h) (closed rest) in
        (k.0, append_cancel_left back end rest (sym b ∙ k.1));
  }
