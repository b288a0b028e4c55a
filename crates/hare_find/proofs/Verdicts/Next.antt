-- What a verdict lists for one kid more.
use Rattle.std.proofs.Common.{◌≡◌, ℕ, zero, suc, ◌+◌, ◌<◌, true, false, cond, List, [], ◌∷◌, ◌++◌, length, drop, refl, ap, sym, ◌∙◌, arith, Option, Some, None, add-one}
use Rattle.std.specs.Prelude.{slice_get}
use Rattle.hare_types.specs.declared.coercion.Coercion.{Coercion}
use Rattle.hare_types.specs.Store.{Store}
use Rattle.hare_types.specs.Sound.{IsStore}
use Rattle.hare_types.specs.Later.{IsLater}
use Rattle.hare_typed.specs.Typed.{TypedNode}
use Rattle.hare_rules.specs.declared.judged.Yielded.{Yielded}
use Rattle.hare_rules.specs.Context.{Context}
use Rattle.hare_rules.specs.Settles.{kid_coercion}
use Rattle.hare_rules.specs.Judged.{was_hinted, unless, coercions_from}
use Rattle.hare_rules.specs.Words.{nomem}
use Rattle.rule_judge.specs.declared.turn.Turn.{Turn}
use Rattle.rule_judge.specs.Asked.{listed}
use Rattle.rule_judge.proofs.DefinedLemmas.{defined_stays}
use Rattle.rule_judge.proofs.MeantLemmas.{name_stays, meant_stays}
use Rattle.rule_judge.proofs.TurnLemmas.{turn_stays}
use Rattle.hare_judge.specs.Needs.{IsReadyTurn}
use Rattle.hare_find.specs.Listed.{listed_each, listed_behind, yields_listed}

-- ---- lists

pub first_dropped : {A : Type 0} (xs ys : List A) (n : ℕ) (y : A) → drop n xs ≡ y ∷ ys → slice_get xs n ≡ Some y
first_dropped [] ys zero y e = cc
first_dropped [] ys (suc n) y e = cc
first_dropped (x ∷ xs) ys zero y e = cc
first_dropped (x ∷ xs) ys (suc n) y e = first_dropped xs ys n y e

pub next_dropped : {A : Type 0} (xs ys : List A) (n : ℕ) (y : A) → drop n xs ≡ y ∷ ys → drop (suc n) xs ≡ ys
next_dropped [] ys zero y e = cc
next_dropped [] ys (suc n) y e = cc
next_dropped (x ∷ xs) ys zero y e = cc
next_dropped (x ∷ xs) ys (suc n) y e = next_dropped xs ys n y e

first_kid : (xs : List TypedNode) (i : ℕ) → i < length xs → (x : TypedNode) × (drop i xs ≡ x ∷ drop (suc i) xs)
first_kid [] i h = absurd (omega arith)
first_kid (x ∷ xs) zero h = (x, refl)
first_kid (x ∷ xs) (suc i) h = first_kid xs i (omega arith)

-- ---- a kid that was asked for no type

by_kid : (c : Context) (i : ℕ) (ys : List Yielded) → i < length c.kids →
    listed_behind c i ys ≡ unless (was_hinted c i) (kid_coercion c i) ++ listed_behind c (suc i) ys
by_kid c i ys h =
    let k = first_kid c.kids i h in
    ap (λ xs. coercions_from c i xs ++ yields_listed c ys) k.1
    ∙ append_assoc' (unless (was_hinted c i) (kid_coercion c i)) (coercions_from c (suc i) (drop (suc i) c.kids)) (yields_listed c ys)
  where
    append_assoc' : (ps bs cs : List Coercion) → (ps ++ bs) ++ cs ≡ ps ++ (bs ++ cs)
    append_assoc' [] bs cs = refl
    append_assoc' (p ∷ ps) bs cs = ap (λ zs. p ∷ zs) (append_assoc' ps bs cs)

pub listed_there : (c : Context) (i n : ℕ) (ys : List Yielded) (cs : List Coercion) → i < length c.kids → was_hinted c i ≡ false →
    drop n cs ≡ listed_behind c i ys → slice_get cs n ≡ Some (kid_coercion c i)
listed_there c i n ys cs h b e =
    first_dropped cs (listed_behind c (suc i) ys) n (kid_coercion c i)
    (e ∙ by_kid c i ys h ∙ ap (λ z. unless z (kid_coercion c i) ++ listed_behind c (suc i) ys) b)

pub listed_unhinted : (c : Context) (i : ℕ) → was_hinted c i ≡ false → listed c i ≡ Some (kid_coercion c i)
listed_unhinted c i b = ap (λ z. cond z None (Some (kid_coercion c i))) b

pub listed_hinted : (c : Context) (i : ℕ) → was_hinted c i ≡ true → listed c i ≡ None
listed_hinted c i b = ap (λ z. cond z None (Some (kid_coercion c i))) b

-- what is left behind it
pub left_hinted : (c : Context) (i n : ℕ) (ys : List Yielded) (cs : List Coercion) → i < length c.kids → was_hinted c i ≡ true →
    drop n cs ≡ listed_behind c i ys → drop n cs ≡ listed_behind c (i + 1) ys
left_hinted c i n ys cs h b e =
    rw add-one (e ∙ by_kid c i ys h ∙ ap (λ z. unless z (kid_coercion c i) ++ listed_behind c (suc i) ys) b)

pub left_unhinted : (c : Context) (i n : ℕ) (ys : List Yielded) (cs : List Coercion) → i < length c.kids → was_hinted c i ≡ false →
    drop n cs ≡ listed_behind c i ys → drop (n + 1) cs ≡ listed_behind c (i + 1) ys
left_unhinted c i n ys cs h b e =
    rw (add-one, add-one)
    (next_dropped cs (listed_behind c (suc i) ys) n (kid_coercion c i)
    (e ∙ by_kid c i ys h ∙ ap (λ z. unless z (kid_coercion c i) ++ listed_behind c (suc i) ys) b))

-- what is put behind what was listed
pub listed_put : (c : Context) (i : ℕ) (os new all : List (Option Coercion)) → i < length c.kids → new ≡ os ++ listed c i ∷ [] →
    os ++ listed_each c i (drop i c.kids) ≡ all → new ++ listed_each c (i + 1) (drop (i + 1) c.kids) ≡ all
listed_put c i os new all h k e =
    let f = first_kid c.kids i h in
    let p : os ++ listed c i ∷ listed_each c (suc i) (drop (suc i) c.kids) ≡ all = ap (λ xs. os ++ listed_each c i xs) (sym f.1) ∙ e in
    rw (add-one, k) (moved os (listed c i) (listed_each c (suc i) (drop (suc i) c.kids)) ∙ p)
  where
    moved : (ps : List (Option Coercion)) (b : Option Coercion) (bs : List (Option Coercion)) → (ps ++ b ∷ []) ++ bs ≡ ps ++ b ∷ bs
    moved [] b bs = refl
    moved (p ∷ ps) b bs = ap (λ zs. p ∷ zs) (moved ps b bs)

-- ---- what a judge relies on stays

pub ready_stays : (now later : Store) → IsStore now → IsLater now later → (t : Turn) → IsReadyTurn now t → IsReadyTurn later t
ready_stays now later v l t h =
    record {
      turn = turn_stays now later v l t h.turn;
      ready =
          record {
            nomem = name_stays now later v l nomem h.ready.nomem;
            meant = meant_stays now later v l t.decls.now t.locals.now t.case.now.meaning h.ready.meant;
            result = defined_stays now later v l t.case.now.inside.result h.ready.result;
            typed = h.ready.typed;
            cases = h.ready.cases;
          };
    }
