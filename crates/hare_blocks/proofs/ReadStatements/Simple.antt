-- What the readers of declarations, assignments and calls find.
use Rattle.std.proofs.Common.{◌≡◌, ◌≢◌, ℕ, List, [], ◌∷◌, ◌++◌, Option, Some, None, codes, refl, sym, ap, ◌∙◌, get_or, ◌⊎◌, inl, inr, arith}
use Rattle.hare_blocks.specs.declared.token.Token.{Token}
use Rattle.hare_blocks.specs.declared.token.Token.TheVariants as token
use Rattle.hare_blocks.specs.Trees.{Expr, Statement, declares, assigns, chooses, chooses_one, repeats, puts, exits, expr_tokens, statement_tokens}
use Rattle.hare_blocks.specs.Class.{AreLimited}
use Rattle.hare_blocks.specs.Parsing.{IsNoTerm, Reads, IsRead}
use Rattle.hare_blocks.specs.Grammar.{IsLimited, StatementFits, Anything, IsEnded, status_tokens}

-- the first token, where it is a name
first_name : List Token → List ℕ
first_name (token.Name x ∷ ts) = x
first_name ts = []

-- two names that begin otherwise
exit_or_puts : (a b : List Token) → token.Name (codes "exit") ∷ a ≡ token.Name (codes "puts") ∷ b → ⊥
unfolding first_name
exit_or_puts a b h =
    let letters : 101 ≡ 112 = ap (λ t. get_or (first_name t) 0 0) h in
    omega (arith, letters)

-- a semicolon goes on with no term
pub ended_stops : (rest : List Token) → IsEnded rest → IsNoTerm rest
ended_stops [] stop = absurd stop
ended_stops (t ∷ rest) stop = rw stop (λ h. cc, λ h. cc, λ h. cc, λ h. cc)

module _ (n : ℕ) where
  abbrev pub ReadsStatement : Statement → List Token → List Token → Type 0
  ReadsStatement = Reads statement_tokens (StatementFits n)

  abbrev pub IsStatementRead : Option Statement → List Token → List Token → Type 0
  IsStatementRead = IsRead statement_tokens (StatementFits n) IsEnded

  -- ---- declarations

  record Declared (s : Statement) (behind rest : List Token) : Type 0 where
    name : List ℕ
    value : Expr
    is : s ≡ declares name value
    front : behind ≡ token.Name name ∷ token.Assign ∷ (expr_tokens value ++ rest)
    limited : AreLimited (expr_tokens value)

  declared : (s : Statement) (behind rest : List Token) → ReadsStatement s (token.Let ∷ behind) rest → Declared s behind rest
  declared (declares x e) behind rest h = record
      { name = x; value = e; is = refl; front = (let k = h.spelled in cc); limited = h.fits.limited.0 }
  declared (assigns x e) behind rest h = let k = h.spelled in absurd cc
  declared (chooses c body) behind rest h = let k = h.spelled in absurd cc
  declared (chooses_one c body other) behind rest h = let k = h.spelled in absurd cc
  declared (repeats c body) behind rest h = let k = h.spelled in absurd cc
  declared (puts text) behind rest h = let k = h.spelled in absurd cc
  declared (exits e) behind rest h = let k = h.spelled in absurd cc

  pub let_no_name : (behind end : List Token) → ((x : List ℕ) (rest : List Token) → behind ≢ token.Name x ∷ rest) →
      IsStatementRead None (token.Let ∷ behind) end
  let_no_name behind end other = record {
    sound = tt;
    whole = λ s rest h stop. let p = declared s behind rest h in other p.name
        (token.Assign ∷ (expr_tokens p.value ++ rest)) p.front;
  }

  pub let_no_assign : (x : List ℕ) (behind mid end : List Token) → behind ≡ token.Name x ∷ mid →
      ((rest : List Token) → mid ≢ token.Assign ∷ rest) → IsStatementRead None (token.Let ∷ behind) end
  let_no_assign x behind mid end front other = record {
    sound = tt;
    whole = λ s rest h stop. let p = declared s behind rest h in let k = sym front ∙ p.front in other (expr_tokens p.value ++ rest) cc;
  }

  -- the value behind a name and `=`
  value_behind : (x : List ℕ) (s : Statement) (behind mid last rest : List Token) → behind ≡ token.Name x ∷ mid →
      mid ≡ token.Assign ∷ last → (p : Declared s behind rest) → (x ≡ p.name) × Reads expr_tokens IsLimited p.value last rest
  value_behind x s behind mid last rest f g p =
      let k : token.Name x ∷ token.Assign ∷ last ≡ token.Name p.name ∷ token.Assign ∷ (expr_tokens p.value ++ rest) =
      sym (f ∙ ap (λ m. token.Name x ∷ m) g) ∙ p.front in
      (cc, record { spelled = cc; fits = p.limited })

  pub let_no_value : (x : List ℕ) (behind mid last left end : List Token) → behind ≡ token.Name x ∷ mid → mid ≡ token.Assign ∷ last →
      IsRead expr_tokens IsLimited IsNoTerm None last left → IsStatementRead None (token.Let ∷ behind) end
  let_no_value x behind mid last left end f g r = record {
    sound = tt;
    whole = λ s rest h stop. let p = declared s behind rest h in r.whole p.value rest (value_behind x s behind mid last rest f g p).1
        (ended_stops rest stop);
  }

  pub let_read : (x y : List ℕ) (e : Expr) (behind mid last end : List Token) → y ≡ x → behind ≡ token.Name x ∷ mid →
      mid ≡ token.Assign ∷ last → IsRead expr_tokens IsLimited IsNoTerm (Some e) last end →
      IsStatementRead (Some (declares y e)) (token.Let ∷ behind) end
  let_read x y e behind mid last end same f g r = record {
    sound = record {
      spelled = ap (λ t. token.Let ∷ t) (f ∙ rw (same, g, r.sound.spelled) refl);
      fits = record { blocks = omega arith; limited = (r.sound.fits, tt) };
    };
    whole = λ s rest h stop.
        let p = declared s behind rest h in
        let v = value_behind x s behind mid last rest f g p in
        let k = r.whole p.value rest v.1 (ended_stops rest stop) in
        (ap (λ z. declares z e) (same ∙ v.0) ∙ ap (declares p.name) k.0 ∙ sym p.is, k.1);
  }

  -- ---- assignments

  record Assigned (x : List ℕ) (s : Statement) (behind rest : List Token) : Type 0 where
    value : Expr
    is : s ≡ assigns x value
    reads : Reads expr_tokens IsLimited value behind rest

  assigned : (x : List ℕ) (s : Statement) (behind rest : List Token) → ReadsStatement s (token.Name x ∷ token.Assign ∷ behind) rest →
      Assigned x s behind rest
  assigned x (declares y e) behind rest h = let k = h.spelled in absurd cc
  assigned x (assigns y e) behind rest h =
      let k = h.spelled in let same : x ≡ y =
      cc in record { value = e; is = ap (λ z. assigns z e) (sym same); reads = record { spelled = cc; fits = h.fits.limited.0 } }
  assigned x (chooses c body) behind rest h = let k = h.spelled in absurd cc
  assigned x (chooses_one c body other) behind rest h = let k = h.spelled in absurd cc
  assigned x (repeats c body) behind rest h = let k = h.spelled in absurd cc
  assigned x (puts text) behind rest h = let k = h.spelled in absurd cc
  assigned x (exits e) behind rest h = let k = h.spelled in absurd cc

  pub assign_no_value : (x : List ℕ) (behind left end : List Token) → IsRead expr_tokens IsLimited IsNoTerm None behind left →
      IsStatementRead None (token.Name x ∷ token.Assign ∷ behind) end
  assign_no_value x behind left end r = record
      { sound = tt; whole = λ s rest h stop. let p = assigned x s behind rest h in r.whole p.value rest p.reads (ended_stops rest stop) }

  pub assign_read : (x y : List ℕ) (e : Expr) (behind end : List Token) → y ≡ x →
      IsRead expr_tokens IsLimited IsNoTerm (Some e) behind end →
      IsStatementRead (Some (assigns y e)) (token.Name x ∷ token.Assign ∷ behind) end
  assign_read x y e behind end same r = record {
    sound = record { spelled = rw (same, r.sound.spelled) refl; fits = record { blocks = omega arith; limited = (r.sound.fits, tt) } };
    whole = λ s rest h stop.
        let p = assigned x s behind rest h in
        let k = r.whole p.value rest p.reads (ended_stops rest stop) in
        (ap (λ z. assigns z e) same ∙ ap (assigns x) k.0 ∙ sym p.is, k.1);
  }

  -- ---- names at the front

  abbrev IsNamed : List ℕ → List Token → Type 0
  IsNamed x behind = ((more : List Token) × (behind ≡ token.Assign ∷ more)) ⊎
      ((x ≡ codes "rt") × ((more : List Token) × (behind ≡ token.PathSeparator ∷ more)))

  named : (x : List ℕ) (s : Statement) (behind rest : List Token) → ReadsStatement s (token.Name x ∷ behind) rest → IsNamed x behind
  named x (declares y e) behind rest h = let k = h.spelled in absurd cc
  named x (assigns y e) behind rest h = let k = h.spelled in inl (expr_tokens e ++ rest, cc)
  named x (chooses c body) behind rest h = let k = h.spelled in absurd cc
  named x (chooses_one c body other) behind rest h = let k = h.spelled in absurd cc
  named x (repeats c body) behind rest h = let k = h.spelled in absurd cc
  named x (puts text) behind rest h =
      let k = h.spelled in inr (cc, (token.Name (codes "puts") ∷ token.OpenParen ∷ token.Text text ∷ token.CloseParen ∷ rest, cc))
  named x (exits e) behind rest h = let k = h.spelled in inr (cc, (token.Name (codes "exit") ∷ (status_tokens e ++ rest), cc))

  pub name_alone : (x : List ℕ) (behind end : List Token) → ((more : List Token) → behind ≢ token.Assign ∷ more) →
      ((more : List Token) → behind ≢ token.PathSeparator ∷ more) → IsStatementRead None (token.Name x ∷ behind) end
  name_alone x behind end a b = record { sound = tt; whole = λ s rest h stop. by (named x s behind rest h) }
    where
      by : IsNamed x behind → ⊥
      by (inl k) = a k.0 k.1
      by (inr k) = b k.1.0 k.1.1

  pub name_of_other : (x : List ℕ) (behind end : List Token) → ((more : List Token) → behind ≢ token.Assign ∷ more) → x ≢ codes "rt" →
      IsStatementRead None (token.Name x ∷ behind) end
  name_of_other x behind end a b = record { sound = tt; whole = λ s rest h stop. by (named x s behind rest h) }
    where
      by : IsNamed x behind → ⊥
      by (inl k) = a k.0 k.1
      by (inr k) = b k.0

  -- ---- calls

  record Exited (s : Statement) (behind rest : List Token) : Type 0 where
    value : Expr
    is : s ≡ exits value
    front : behind ≡ token.Name (codes "exit") ∷ (status_tokens value ++ rest)
    limited : AreLimited (expr_tokens value)

  record Put (s : Statement) (behind rest : List Token) : Type 0 where
    text : List ℕ
    is : s ≡ puts text
    front : behind ≡ token.Name (codes "puts") ∷ token.OpenParen ∷ token.Text text ∷ token.CloseParen ∷ rest

  called : (s : Statement) (behind rest : List Token) → ReadsStatement s (token.Name (codes "rt") ∷ token.PathSeparator ∷ behind) rest →
      Exited s behind rest ⊎ Put s behind rest
  called (declares y e) behind rest h = let k = h.spelled in absurd cc
  called (assigns y e) behind rest h = let k = h.spelled in absurd cc
  called (chooses c body) behind rest h = let k = h.spelled in absurd cc
  called (chooses_one c body other) behind rest h = let k = h.spelled in absurd cc
  called (repeats c body) behind rest h = let k = h.spelled in absurd cc
  called (puts text) behind rest h = let k = h.spelled in inr (record { text = text; is = refl; front = cc })
  called (exits e) behind rest h = let k = h.spelled in inl (record { value = e; is = refl; front = cc; limited = h.fits.limited.0 })

  -- behind `exit` stands its value
  exit_behind : (s : Statement) (behind mid rest : List Token) → behind ≡ token.Name (codes "exit") ∷ mid →
      ReadsStatement s (token.Name (codes "rt") ∷ token.PathSeparator ∷ behind) rest → (e : Expr) × (s ≡ exits e) ×
      Reads status_tokens IsLimited e mid rest
  exit_behind s behind mid rest f h = by (called s behind rest h)
    where
      by : Exited s behind rest ⊎ Put s behind rest → (e : Expr) × (s ≡ exits e) × Reads status_tokens IsLimited e mid rest
      by (inl p) = let k = sym f ∙ p.front in (p.value, p.is, record { spelled = cc; fits = p.limited })
      by (inr p) = absurd (exit_or_puts mid (token.OpenParen ∷ token.Text p.text ∷ token.CloseParen ∷ rest) (sym f ∙ p.front))

  pub exit_no_status : (behind mid left end : List Token) → behind ≡ token.Name (codes "exit") ∷ mid →
      IsRead status_tokens IsLimited Anything None mid left →
      IsStatementRead None (token.Name (codes "rt") ∷ token.PathSeparator ∷ behind) end
  exit_no_status behind mid left end f r = record
      { sound = tt; whole = λ s rest h stop. let p = exit_behind s behind mid rest f h in r.whole p.0 rest p.2 tt }

  pub exit_read : (e : Expr) (behind mid end : List Token) → behind ≡ token.Name (codes "exit") ∷ mid →
      IsRead status_tokens IsLimited Anything (Some e) mid end →
      IsStatementRead (Some (exits e)) (token.Name (codes "rt") ∷ token.PathSeparator ∷ behind) end
  exit_read e behind mid end f r = record {
    sound = record { spelled = rw (f, r.sound.spelled) refl; fits = record { blocks = omega arith; limited = (r.sound.fits, tt) } };
    whole = λ s rest h stop.
        let p = exit_behind s behind mid rest f h in
        let k = r.whole p.0 rest p.2 tt in
        (ap exits k.0 ∙ sym p.1, k.1);
  }

  pub call_of_other : (behind end : List Token) → ((rest : List Token) → behind ≢ token.Name (codes "exit") ∷ rest) →
      ((rest : List Token) → behind ≢ token.Name (codes "puts") ∷ rest) →
      IsStatementRead None (token.Name (codes "rt") ∷ token.PathSeparator ∷ behind) end
  call_of_other behind end a b = record { sound = tt; whole = λ s rest h stop. by s rest (called s behind rest h) }
    where
      by : (s : Statement) (rest : List Token) → Exited s behind rest ⊎ Put s behind rest → ⊥
      by s rest (inl p) = a (status_tokens p.value ++ rest) p.front
      by s rest (inr p) = b (token.OpenParen ∷ token.Text p.text ∷ token.CloseParen ∷ rest) p.front

  -- behind `puts` stands its string
  puts_behind : (s : Statement) (behind mid rest : List Token) → behind ≡ token.Name (codes "puts") ∷ mid →
      ReadsStatement s (token.Name (codes "rt") ∷ token.PathSeparator ∷ behind) rest → (text : List ℕ) × (s ≡ puts text) ×
      (mid ≡ token.OpenParen ∷ token.Text text ∷ token.CloseParen ∷ rest)
  puts_behind s behind mid rest f h = by (called s behind rest h)
    where
      by : Exited s behind rest ⊎ Put s behind rest → (text : List ℕ) × (s ≡ puts text) ×
          (mid ≡ token.OpenParen ∷ token.Text text ∷ token.CloseParen ∷ rest)
      by (inl p) = absurd (exit_or_puts (status_tokens p.value ++ rest) mid (sym p.front ∙ f))
      by (inr p) = let k = sym f ∙ p.front in (p.text, p.is, cc)

  module _ (behind mid end : List Token) (f : behind ≡ token.Name (codes "puts") ∷ mid) where
    pub puts_unopened : ((rest : List Token) → mid ≢ token.OpenParen ∷ rest) →
        IsStatementRead None (token.Name (codes "rt") ∷ token.PathSeparator ∷ behind) end
    puts_unopened other = record {
      sound = tt;
      whole = λ s rest h stop. let p = puts_behind s behind mid rest f h in other
          (token.Text p.0 ∷ token.CloseParen ∷ rest) p.2;
    }

    pub puts_no_text : (last : List Token) → mid ≡ token.OpenParen ∷ last →
        ((x : List ℕ) (rest : List Token) → last ≢ token.Text x ∷ rest) →
        IsStatementRead None (token.Name (codes "rt") ∷ token.PathSeparator ∷ behind) end
    puts_no_text last g other = record {
      sound = tt;
      whole = λ s rest h stop. let p = puts_behind s behind mid rest f h in let k = sym g ∙
          p.2 in other p.0 (token.CloseParen ∷ rest) cc;
    }

    pub puts_unclosed : (x : List ℕ) (last back : List Token) → mid ≡ token.OpenParen ∷ last → last ≡ token.Text x ∷ back →
        ((rest : List Token) → back ≢ token.CloseParen ∷ rest) →
        IsStatementRead None (token.Name (codes "rt") ∷ token.PathSeparator ∷ behind) end
    puts_unclosed x last back g t other = record {
      sound = tt;
      whole = λ s rest h stop. let p = puts_behind s behind mid rest f h in let k = sym
          (g ∙ ap (λ m. token.OpenParen ∷ m) t) ∙ p.2 in other rest cc;
    }

    pub puts_read : (x y : List ℕ) (last back : List Token) → y ≡ x → mid ≡ token.OpenParen ∷ last → last ≡ token.Text x ∷ back →
        back ≡ token.CloseParen ∷ end → IsStatementRead (Some (puts y)) (token.Name (codes "rt") ∷ token.PathSeparator ∷ behind) end
    puts_read x y last back same g t b = record {
      sound = record { spelled = rw (f, g, t, b, same) refl; fits = record { blocks = omega arith; limited = tt } };
      whole = λ s rest h stop.
          let p = puts_behind s behind mid rest f h in
          let k : token.OpenParen ∷ token.Text x ∷ token.CloseParen ∷ end ≡ token.OpenParen ∷ token.Text p.0 ∷ token.CloseParen ∷ rest =
          sym (g ∙ ap (λ m. token.OpenParen ∷ m) (t ∙ ap (λ m. token.Text x ∷ m) b)) ∙ p.2 in
          let text : x ≡ p.0 = cc in
          (ap puts (same ∙ text) ∙ sym p.1, cc);
    }
