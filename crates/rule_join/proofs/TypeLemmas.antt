-- The types of nodes that meet their rows.
use Rattle.std.proofs.Common.{◌≡◌, suc, true, false, ◌==◌, cond, List, [], ◌∷◌, ◌++◌, length, Option, Some, None, refl, ap, sym, ◌∙◌, arith}
use Rattle.std.specs.Prelude.{is_none}
use Rattle.std.specs.Cmp.{unsigned_Decides}
use Rattle.hare_tree.specs.declared.kind.Kind.{Kind}
use Rattle.hare_tree.specs.declared.kind.Kind.TheVariants as ki
use Rattle.hare_types.specs.declared.row.Scalar.TheVariants as keyword
use Rattle.hare_rules.specs.declared.judged.Yielded.{Yielded}
use Rattle.hare_rules.specs.declared.row_id.RowId.TheVariants as row
use Rattle.hare_rules.specs.Context.{Context, Given, store_of}
use Rattle.hare_rules.specs.Words.{word_id, typed_as}
use Rattle.hare_rules.specs.Joined.{joined, first_lacking}
use Rattle.hare_rules.specs.Judged.{givens_from}
use Rattle.hare_rules.specs.Control.{is_open, branches, end_behind, block_values, block_type, block_type_by}
use Rattle.hare_rules.specs.Types.{type_by}
use Rattle.rule_judge.specs.Asked.{own_failing}
use Rattle.rule_judge.proofs.RowLemmas.{row_met}
use Rattle.rule_join.specs.Kinds.{is_block}

none_is : {A : Type 0} (o : Option A) → is_none o ≡ true → o ≡ None
none_is None e = refl
none_is (Some a) e = cc

-- ---- the first value that goes on has a default

pub branches_default : (c : Context) → c.head.kind ≡ ki.If → own_failing c ≡ None → first_lacking (store_of c) c.hint (branches c) ≡ None
branches_default c e n = none_is (first_lacking (store_of c) c.hint (branches c)) (row_met c ki.If 0 row.IfFirstDefault e refl n)

pub yields_default : (c : Context) → true ≡ is_block c.head.kind → own_failing c ≡ None →
    first_lacking (store_of c) c.hint (block_values c) ≡ None
yields_default c h n = by c.head.kind refl h
  where
    by : (k : Kind) → c.head.kind ≡ k → true ≡ is_block k → first_lacking (store_of c) c.hint (block_values c) ≡ None
    by ki.Block e g = none_is (first_lacking (store_of c) c.hint (block_values c)) (row_met c ki.Block 1 row.BlockFirstDefault e refl n)
    by ki.Case e g = none_is (first_lacking (store_of c) c.hint (block_values c)) (row_met c ki.Case 0 row.CaseFirstDefault e refl n)
    by ki.SwitchCase e g = none_is (first_lacking (store_of c) c.hint (block_values c))
        (row_met c ki.SwitchCase 0 row.CaseFirstDefault e refl n)
    by _ e g = cc

-- ---- blocks

pub block_typed : (c : Context) (k : Kind) → true ≡ is_block k → type_by c k ≡ block_type c
block_typed c ki.Block e = refl
block_typed c ki.Case e = refl
block_typed c ki.SwitchCase e = refl
block_typed c _ e = cc

module _ (c : Context) where
  joined_by : (vs rest : List Given) → (vs ≡ [] → ⊥) → block_type_by c (vs ++ rest) ≡ joined (store_of c) c.hint (vs ++ rest)
  joined_by [] rest h = absurd (h refl)
  joined_by (v ∷ vs) rest h = refl

  some_given : (ys : List Yielded) → false ≡ (length ys == 0) → givens_from 0 ys ≡ [] → ⊥
  some_given [] e h = absurd cc
  some_given (y ∷ ys) e h = let no : true ≡ false = cc in absurd cc

  -- where anything was yielded
  pub block_joined : (ys : List Yielded) → c.yields ≡ givens_from 0 ys → false ≡ (length ys == 0) →
      block_type c ≡ typed_as (joined (store_of c) c.hint (block_values c))
  block_joined ys e h = ap typed_as (joined_by c.yields (end_behind c c.yields) (λ n. some_given ys h (sym e ∙ n)))

  no_values : (ys : List Yielded) → c.yields ≡ givens_from 0 ys → true ≡ (length ys == 0) → block_values c ≡ []
  no_values [] e h = ap (λ vs. vs ++ end_behind c vs) e
  no_values (y ∷ ys) e h = absurd (omega (arith, (unsigned_Decides (suc (length ys)) 0).0 (sym h)))

  -- and where nothing was
  pub block_unyielded : (ys : List Yielded) → c.yields ≡ givens_from 0 ys → true ≡ (length ys == 0)
      → block_type c ≡ typed_as (word_id (store_of c) (cond (is_open c) keyword.Void keyword.Never))
  block_unyielded ys e h = ap (λ vs. typed_as (block_type_by c vs)) (no_values ys e h)
