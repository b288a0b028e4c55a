-- What is found of a node that settles nothing.
use Rattle.std.proofs.Common.{◌≡◌, ℕ, zero, suc, false, cond, List, [], ◌∷◌, ◌++◌, map, ap, sym, ◌∙◌, Option, Some, None}
use Rattle.std.specs.Prelude.{replicate}
use Rattle.hare_types.specs.declared.coercion.Coercion.{Coercion}
use Rattle.hare_types.specs.declared.coercion.Ty.{Ty}
use Rattle.hare_types.specs.Store.{Store}
use Rattle.hare_typed.specs.Typed.{TypedNode}
use Rattle.hare_rules.specs.Context.{Context, store_of}
use Rattle.hare_rules.specs.Flow.{own_settled, write_each}
use Rattle.hare_rules.specs.Rows.{first_failing, is_judged}
use Rattle.hare_rules.specs.Settles.{same, own_coercion, target_of, settles_kids, settled_kids, settles_late}
use Rattle.hare_rules.specs.Types.{type_of}
use Rattle.hare_find.specs.declared.finding.Finding.{Finding}
use Rattle.hare_find.specs.Settling.{option_in}
use Rattle.hare_find.specs.Late.{settled_in}
use Rattle.hare_find.specs.Findings.{IsFoundAt, AreDefinedSettlings}
use Rattle.hare_find.specs.Unsettled.{IsUnsettled}
use Rattle.hare_find.specs.Listed.{written_each, coated_each}
use Rattle.hare_find.proofs.Verdicts.Found.{none_settled, none_moved, nones_written, nones_coated}

-- the kids go as is found of them
pub record AreFound (c : Context) (xs : List TypedNode) (cs : List Coercion) (os : List (Option Coercion)) : Type 0 where
  pub kids : (r : Coercion) → write_each (settles_kids c) (cs ++ r ∷ []) ≡ write_each (written_each xs os) (cs ++ r ∷ [])
  pub coated : settled_kids c ≡ coated_each xs os

-- where nothing is settled of them, each stays as it is
pub found_none : (c : Context) (xs : List TypedNode) (cs : List Coercion) (os : List (Option Coercion)) (n : ℕ) →
    ((d : Context) (i : ℕ) → target_of d c.head.kind i ≡ None) → c.kids ≡ xs → os ≡ replicate n None → AreFound c xs cs os
found_none c xs cs os n none e h =
    record {
      kids = λ r.
          let ds = cs ++ r ∷ [] in
          ap (λ ss. write_each ss ds) (none_settled c 0 c.kids none ∙ sym (nones_written n xs) ∙ ap (written_each xs) (sym h));
      coated = none_moved c 0 c.kids none ∙ e ∙ sym (nones_coated n xs) ∙ ap (coated_each xs) (sym h);
    }

-- ---- the node

-- a node asks nothing of its value, settles nothing of its kids, and nothing when the body is done
pub record SettlesNothing (c : Context) : Type 0 where
  pub judged : is_judged c ≡ false
  pub kids : (d : Context) (i : ℕ) → target_of d c.head.kind i ≡ None
  pub late : settles_late c c.head.kind ≡ []

-- what is found of it stays as it is
pub found_unsettled : (c : Context) (xs : List TypedNode) (cs : List Coercion) (a : Ty) (n : ℕ) (x : Finding) → IsUnsettled a n x →
    SettlesNothing c → first_failing c ≡ None → type_of c ≡ Some a → c.kids ≡ xs → IsFoundAt c xs cs x
found_unsettled c xs cs a n x u q e t k =
    let none = found_none c xs cs (map option_in x.kids) n q.kids k u.kids in
    record {
      failing = e;
      type = t ∙ ap Some (sym u.ty);
      own = ap (own_settled c) u.ty ∙ ap (λ b. cond b (own_coercion (store_of c) c.hint a) (same a)) q.judged ∙ sym u.own;
      kids = none.kids;
      coated = none.coated;
      late = q.late ∙ sym (ap (map settled_in) u.late);
    }

-- ---- types

pub nones_defined : (s : Store) (n : ℕ) → AreDefinedSettlings s (replicate n None)
nones_defined s zero = tt
nones_defined s (suc n) = (tt, nones_defined s n)
