-- What the readers of branches, loops, blocks and their statements find.
use Rattle.std.proofs.Common.{◌≡◌, ◌≢◌, ℕ, ◌+◌, ◌≤◌, max, List, [], ◌∷◌, ◌++◌, Option, Some, None, codes, refl, sym, ap, ◌∙◌, append_assoc, subst, ◌⊎◌, inl, inr, arith}
use Rattle.hare_blocks.specs.declared.token.Token.{Token}
use Rattle.hare_blocks.specs.declared.token.Token.TheVariants as token
use Rattle.hare_blocks.specs.Trees.{Expr, Condition, Statement, Statements, declares, assigns, chooses, chooses_one, repeats, puts, exits, statement_tokens}
use Rattle.hare_blocks.specs.Class.{condition_exprs, statements_exprs, statements_blocks}
use Rattle.hare_blocks.specs.Parsing.{Reads, IsRead}
use Rattle.hare_blocks.specs.Grammar.{AllLimited, ConditionFits, BlockFits, Anything, IsEnded, test_tokens, block_tokens}
use Rattle.hare_blocks.proofs.ReadStatements.Simple.{ReadsStatement, IsStatementRead}

-- ---- expressions of parts

pub all_left : (a b : List Expr) → AllLimited (a ++ b) → AllLimited a
all_left [] b h = tt
all_left (x ∷ a) b h = (h.0, all_left a b h.1)

pub all_right : (a b : List Expr) → AllLimited (a ++ b) → AllLimited b
all_right [] b h = h
all_right (x ∷ a) b h = all_right a b h.1

pub all_both : (a b : List Expr) → AllLimited a → AllLimited b → AllLimited (a ++ b)
all_both [] b h k = k
all_both (x ∷ a) b h k = (h.0, all_both a b h.1 k)

-- no semicolon is an `else`
no_else : (rest more : List Token) → IsEnded rest → rest ≢ token.Else ∷ more
no_else [] more stop h = absurd stop
no_else (t ∷ rest) more stop h = cc

module _ (n : ℕ) where
  abbrev pub ReadsBlock : Statements → List Token → List Token → Type 0
  ReadsBlock = Reads block_tokens (BlockFits n)

  abbrev pub IsBlockRead : Option Statements → List Token → List Token → Type 0
  IsBlockRead = IsRead block_tokens (BlockFits n) Anything

  abbrev pub IsTestRead : Option Condition → List Token → List Token → Type 0
  IsTestRead = IsRead test_tokens ConditionFits Anything

  -- ---- branches

  -- what stands behind the first block of a branch
  record Chosen (s : Statement) (behind rest : List Token) : Type 0 where
    test : Condition
    body : Statements
    tail : List Token
    tests : Reads test_tokens ConditionFits test behind (block_tokens body ++ tail)
    blocks : ReadsBlock body (block_tokens body ++ tail) tail
    ends : ((s ≡ chooses test body) × (tail ≡ rest)) ⊎
        ((other : Statements) × (s ≡ chooses_one test body other) × (tail ≡ token.Else ∷ (block_tokens other ++ rest)) × BlockFits n other)

  chosen : (s : Statement) (behind rest : List Token) → ReadsStatement n s (token.If ∷ behind) rest → Chosen s behind rest
  chosen (declares x e) behind rest h = let k = h.spelled in absurd cc
  chosen (assigns x e) behind rest h = let k = h.spelled in absurd cc
  chosen (chooses c body) behind rest h = record {
    test = c;
    body = body;
    tail = rest;
    tests = record {
      spelled =
          let k = h.spelled in let l : behind ≡ (test_tokens c ++ block_tokens body) ++ rest =
          cc in l ∙ append_assoc (test_tokens c) (block_tokens body) rest;
      fits = all_left (condition_exprs c) (statements_exprs body) h.fits.limited;
    };
    blocks = record {
      spelled = refl;
      fits =
          record { blocks = h.fits.blocks; limited = all_right (condition_exprs c) (statements_exprs body) h.fits.limited };
    };
    ends = inl (refl, refl);
  }
  chosen (chooses_one c body other) behind rest h =
      let blocks = all_right (condition_exprs c) (statements_exprs body ++ statements_exprs other) h.fits.limited in
      let deep : 1 + max (statements_blocks body) (statements_blocks other) ≤ n = h.fits.blocks in
      record {
        test = c;
        body = body;
        tail = token.Else ∷ (block_tokens other ++ rest);
        tests = record {
          spelled =
              let k = h.spelled in let l : behind ≡ (test_tokens c ++ (block_tokens body ++ (token.Else ∷ block_tokens other))) ++ rest =
              cc in l ∙ append_assoc (test_tokens c) (block_tokens body ++ (token.Else ∷ block_tokens other)) rest ∙ ap
              (λ y. test_tokens c ++ y) (append_assoc (block_tokens body) (token.Else ∷ block_tokens other) rest);
          fits = all_left (condition_exprs c) (statements_exprs body ++ statements_exprs other) h.fits.limited;
        };
        blocks = record {
          spelled = refl;
          fits =
              record { blocks = omega (arith, deep); limited = all_left (statements_exprs body) (statements_exprs other) blocks };
        };
        ends = inr (
          other,
          refl,
          refl,
          record
              { blocks = omega (arith, deep); limited = all_right (statements_exprs body) (statements_exprs other) blocks },
        );
      }
  chosen (repeats c body) behind rest h = let k = h.spelled in absurd cc
  chosen (puts text) behind rest h = let k = h.spelled in absurd cc
  chosen (exits e) behind rest h = let k = h.spelled in absurd cc

  pub if_no_test : (behind left end : List Token) → IsTestRead None behind left → IsStatementRead n None (token.If ∷ behind) end
  if_no_test behind left end r = record {
    sound = tt;
    whole = λ s rest h stop. let p = chosen s behind rest h in r.whole p.test
        (block_tokens p.body ++ p.tail) p.tests tt;
  }

  module _ (c : Condition) (behind mid : List Token) (r : IsTestRead (Some c) behind mid) where
    -- the test that was read, and what stands behind it
    tested : (s : Statement) (rest : List Token) (p : Chosen s behind rest) → (c ≡ p.test) × ReadsBlock p.body mid p.tail
    tested s rest p =
        let k = r.whole p.test (block_tokens p.body ++ p.tail) p.tests tt in
        (k.0, subst (λ l. ReadsBlock p.body l p.tail) (sym k.1) p.blocks)

    pub if_no_body : (left end : List Token) → IsBlockRead None mid left → IsStatementRead n None (token.If ∷ behind) end
    if_no_body left end q = record {
      sound = tt;
      whole = λ s rest h stop. let p = chosen s behind rest h in q.whole p.body p.tail
          (tested s rest p).1 tt;
    }

    module _ (body : Statements) (last : List Token) (q : IsBlockRead (Some body) mid last) where
      pub if_read : (end : List Token) → ((more : List Token) → last ≢ token.Else ∷ more) → end ≡ last →
          IsStatementRead n (Some (chooses c body)) (token.If ∷ behind) end
      if_read end alone same = record {
        sound = record {
          spelled = ap (λ t. token.If ∷ t) (r.sound.spelled ∙ rw (q.sound.spelled, same)
              (sym (append_assoc (test_tokens c) (block_tokens body) last)));
          fits = record {
            blocks = q.sound.fits.blocks;
            limited = all_both (condition_exprs c) (statements_exprs body) r.sound.fits
                q.sound.fits.limited;
          };
        };
        whole = λ s rest h stop.
            let p = chosen s behind rest h in
            let t = tested s rest p in
            let k = q.whole p.body p.tail t.1 tt in
            by s rest p (ap (λ x. chooses x body) t.0 ∙ ap (chooses p.test) k.0) k.1 p.ends;
      }
        where
          by : (s : Statement) (rest : List Token) (p : Chosen s behind rest) → chooses c body ≡ chooses p.test p.body → last ≡ p.tail →
              ((s ≡ chooses p.test p.body) × (p.tail ≡ rest)) ⊎
              ((other : Statements) × (s ≡ chooses_one p.test p.body other) × (p.tail ≡ token.Else ∷ (block_tokens other ++ rest)) ×
              BlockFits n other) → (chooses c body ≡ s) × (end ≡ rest)
          by s rest p e l (inl m) = (e ∙ sym m.0, same ∙ l ∙ m.1)
          by s rest p e l (inr m) = absurd (alone (block_tokens m.0 ++ rest) (l ∙ m.2))

      -- behind `else` stands the other block
      other_behind : (s : Statement) (back rest : List Token) → last ≡ token.Else ∷ back → IsEnded rest →
          ReadsStatement n s (token.If ∷ behind) rest → (other : Statements) × (s ≡ chooses_one c body other) × ReadsBlock other back rest
      other_behind s back rest f stop h =
          let p = chosen s behind rest h in
          let t = tested s rest p in
          let k = q.whole p.body p.tail t.1 tt in
          by p t.0 k.0 (sym f ∙ k.1) p.ends
        where
          by : (p : Chosen s behind rest) → c ≡ p.test → body ≡ p.body → token.Else ∷ back ≡ p.tail →
              ((s ≡ chooses p.test p.body) × (p.tail ≡ rest)) ⊎
              ((other : Statements) × (s ≡ chooses_one p.test p.body other) × (p.tail ≡ token.Else ∷ (block_tokens other ++ rest)) ×
              BlockFits n other) → (other : Statements) × (s ≡ chooses_one c body other) × ReadsBlock other back rest
          by p a b l (inl m) = absurd (no_else rest back stop (sym (l ∙ m.1)))
          by p a b l (inr m) =
              let e = l ∙ m.2 in (
                m.0,
                m.1 ∙ ap (λ x. chooses_one x p.body m.0) (sym a) ∙ ap (λ x. chooses_one c x m.0) (sym b),
                record { spelled = cc; fits = m.3 },
              )

      pub if_no_other : (back left end : List Token) → last ≡ token.Else ∷ back → IsBlockRead None back left →
          IsStatementRead n None (token.If ∷ behind) end
      if_no_other back left end f o = record
          { sound = tt; whole = λ s rest h stop. let p = other_behind s back rest f stop h in o.whole p.0 rest p.2 tt }

      pub if_else_read : (other : Statements) (back end : List Token) → last ≡ token.Else ∷ back → IsBlockRead (Some other) back end →
          IsStatementRead n (Some (chooses_one c body other)) (token.If ∷ behind) end
      if_else_read other back end f o = record {
        sound = record {
          spelled = ap (λ t. token.If ∷ t) (r.sound.spelled ∙ rw (q.sound.spelled, f, o.sound.spelled)
              (sym (append_assoc (test_tokens c) (block_tokens body ++ (token.Else ∷ block_tokens other)) end ∙ ap (λ y. test_tokens c ++ y)
              (append_assoc (block_tokens body) (token.Else ∷ block_tokens other) end))));
          fits = record {
            blocks =
                let a : 1 + statements_blocks body ≤ n = q.sound.fits.blocks in let b : 1 + statements_blocks other ≤ n =
                o.sound.fits.blocks in omega (arith, a, b);
            limited = all_both (condition_exprs c) (statements_exprs body ++ statements_exprs other) r.sound.fits
                (all_both (statements_exprs body) (statements_exprs other) q.sound.fits.limited o.sound.fits.limited);
          };
        };
        whole = λ s rest h stop.
            let p = other_behind s back rest f stop h in
            let k = o.whole p.0 rest p.2 tt in
            (ap (chooses_one c body) k.0 ∙ sym p.1, k.1);
      }

  -- ---- loops

  record Repeated (s : Statement) (behind rest : List Token) : Type 0 where
    test : Condition
    body : Statements
    is : s ≡ repeats test body
    tests : Reads test_tokens ConditionFits test behind (block_tokens body ++ rest)
    blocks : ReadsBlock body (block_tokens body ++ rest) rest

  repeated : (s : Statement) (behind rest : List Token) → ReadsStatement n s (token.For ∷ behind) rest → Repeated s behind rest
  repeated (declares x e) behind rest h = let k = h.spelled in absurd cc
  repeated (assigns x e) behind rest h = let k = h.spelled in absurd cc
  repeated (chooses c body) behind rest h = let k = h.spelled in absurd cc
  repeated (chooses_one c body other) behind rest h = let k = h.spelled in absurd cc
  repeated (repeats c body) behind rest h = record {
    test = c;
    body = body;
    is = refl;
    tests = record {
      spelled =
          let k = h.spelled in let l : behind ≡ (test_tokens c ++ block_tokens body) ++ rest =
          cc in l ∙ append_assoc (test_tokens c) (block_tokens body) rest;
      fits = all_left (condition_exprs c) (statements_exprs body) h.fits.limited;
    };
    blocks = record {
      spelled = refl;
      fits =
          record { blocks = h.fits.blocks; limited = all_right (condition_exprs c) (statements_exprs body) h.fits.limited };
    };
  }
  repeated (puts text) behind rest h = let k = h.spelled in absurd cc
  repeated (exits e) behind rest h = let k = h.spelled in absurd cc

  pub for_no_test : (behind left end : List Token) → IsTestRead None behind left → IsStatementRead n None (token.For ∷ behind) end
  for_no_test behind left end r = record {
    sound = tt;
    whole = λ s rest h stop. let p = repeated s behind rest h in r.whole p.test
        (block_tokens p.body ++ rest) p.tests tt;
  }

  pub for_no_body : (c : Condition) (behind mid left end : List Token) → IsTestRead (Some c) behind mid → IsBlockRead None mid left →
      IsStatementRead n None (token.For ∷ behind) end
  for_no_body c behind mid left end r q = record {
    sound = tt;
    whole = λ s rest h stop.
        let p = repeated s behind rest h in
        let k = r.whole p.test (block_tokens p.body ++ rest) p.tests tt in
        q.whole p.body rest (subst (λ l. ReadsBlock p.body l rest) (sym k.1) p.blocks) tt;
  }

  pub for_read : (c : Condition) (body : Statements) (behind mid end : List Token) → IsTestRead (Some c) behind mid →
      IsBlockRead (Some body) mid end → IsStatementRead n (Some (repeats c body)) (token.For ∷ behind) end
  for_read c body behind mid end r q = record {
    sound = record {
      spelled = ap (λ t. token.For ∷ t) (r.sound.spelled ∙ rw q.sound.spelled (sym (append_assoc (test_tokens c) (block_tokens body) end)));
      fits = record {
        blocks = q.sound.fits.blocks;
        limited = all_both (condition_exprs c) (statements_exprs body) r.sound.fits
            q.sound.fits.limited;
      };
    };
    whole = λ s rest h stop.
        let p = repeated s behind rest h in
        let k = r.whole p.test (block_tokens p.body ++ rest) p.tests tt in
        let m = q.whole p.body rest (subst (λ l. ReadsBlock p.body l rest) (sym k.1) p.blocks) tt in
        (ap (λ x. repeats x body) k.0 ∙ ap (repeats p.test) m.0 ∙ sym p.is, m.1);
  }

  -- ---- statements

  -- what a statement begins with
  pub other_statement : (t : Token) (tokens behind end : List Token) → tokens ≡ t ∷ behind → t ≢ token.Let → t ≢ token.If → t ≢ token.For →
      ((x : List ℕ) → t ≢ token.Name x) → IsStatementRead n None tokens end
  other_statement t tokens behind end f a b d e = record { sound = tt; whole = λ s rest h stop. by s rest (sym f ∙ h.spelled) }
    where
      by : (s : Statement) (rest : List Token) → t ∷ behind ≡ statement_tokens s ++ rest → ⊥
      by (declares x v) rest h = a cc
      by (assigns x v) rest h = e x cc
      by (chooses c body) rest h = b cc
      by (chooses_one c body other) rest h = b cc
      by (repeats c body) rest h = d cc
      by (puts text) rest h = e (codes "rt") cc
      by (exits v) rest h = e (codes "rt") cc

  pub statement_of_nothing : (tokens end : List Token) → tokens ≡ [] → IsStatementRead n None tokens end
  statement_of_nothing tokens end none = record { sound = tt; whole = λ s rest h stop. by s rest (sym none ∙ h.spelled) }
    where
      by : (s : Statement) (rest : List Token) → [] ≡ statement_tokens s ++ rest → ⊥
      by (declares x v) rest h = cc
      by (assigns x v) rest h = cc
      by (chooses c body) rest h = cc
      by (chooses_one c body other) rest h = cc
      by (repeats c body) rest h = cc
      by (puts text) rest h = cc
      by (exits v) rest h = cc
