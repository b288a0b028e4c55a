-- When the turn of a node has come, its judge may be asked.
use Rattle.std.proofs.Common.{◌≡◌, ℕ, suc, true, false, List, [], ◌∷◌, map, length, refl, ap, sym, ◌∙◌, subst}
use Rattle.hare_tree.specs.declared.kind.Kind.{Kind}
use Rattle.hare_tree.specs.declared.kind.Kind.TheVariants as ki
use Rattle.hare_tree.specs.Node.{kids_of}
use Rattle.hare_types.specs.Store.{Store}
use Rattle.hare_types.specs.Sound.{IsStore}
use Rattle.hare_types.specs.Later.{IsLater}
use Rattle.hare_types.proofs.LaterLemmas.{later_here}
use Rattle.hare_typed.specs.Typed.{TypedNode, marked}
use Rattle.hare_typed.specs.Coats.{coat}
use Rattle.hare_rules.specs.Context.{Setting, Context, Given, store_of}
use Rattle.hare_rules.specs.Above.{Above}
use Rattle.hare_rules.specs.Flow.{Flow, count, yields_to, context}
use Rattle.hare_rules.specs.Judged.{context_of}
use Rattle.hare_rules.specs.Finished.{bare}
use Rattle.hare_inference.specs.Inferred.{found_kids}
use Rattle.hare_told.specs.Told.{IsTold, IsLookedAt, AreToldYields}
use Rattle.hare_told.specs.Enough.{told}
use Rattle.hare_told.specs.Settled.{AreApart, AreAsIs, HandNothingOn}
use Rattle.hare_told.proofs.Verdicts.{seen, told-seen}
use Rattle.hare_walk.specs.Walks.{AreInHand}
use Rattle.rule_judge.specs.declared.turn.Turn.{Turn}
use Rattle.rule_judge.specs.Turns.{context_in, head_in, kind_in, IsTurn}
use Rattle.hare_find.specs.Findings.{lists, IsAtTurn}
use Rattle.hare_find.proofs.Asked.Kids.{IsRising, rising-apart, EachOver, IsKidFound, AreKidsFound, kids-found}
use Rattle.hare_find.proofs.Asked.Hints.{as_is-from}
use Rattle.hare_find.proofs.Asked.Values.{is_switch_case, hand-nothing}

-- Over a node stands this, and this has been seen: a judge is told of it, and what it lists for the kids is what the node settles of them.
pub record IsAsked (w : Store → Setting) (s : Store) (a : Above) (f : Flow) (t : Turn) (gs : List Given) : Type 0 where
  pub store : (l : Store) → (w l).store ≡ l
  pub hand : AreInHand f t.kids.now
  pub told : (l : Store) → IsLater s l → IsTold (context (w l) a (head_in t) (map bare t.kids.now) f) t.decls.now t.locals.now t.case.now
  pub looked : (l : Store) → IsLater s l → IsLookedAt (context (w l) a (head_in t) (map bare t.kids.now) f)
  pub yields : yields_to (kind_in t) (length a.inside.labels) f.yields ≡ gs
  pub apart : AreApart t.kids.now
  pub hands : lists (kind_in t) ≡ true → HandNothingOn t.kids.now
  pub as_is : lists (kind_in t) ≡ true → (l : Store) → IsLater s l → AreAsIs (context_in l t) 0 t.kids.now f.coercions

abbrev pub context_at : (Store → Setting) → Above → Flow → Turn → Store → Context
context_at w a f t l = context (w l) a (head_in t) (map bare t.kids.now) f

-- the context that the judge is told is that of the node, as far as it is told
pub told_context : (w : Store → Setting) (a : Above) (f : Flow) (t : Turn) (l : Store) → (w l).store ≡ l → AreInHand f t.kids.now →
    context_in l t ≡ told (context_at w a f t l) t.decls.now t.locals.now t.case.now
told_context w a f t l e h =
    ap (λ z. context_of z t.decls.now t.locals.now t.case.now (head_in t) t.kids.now) (sym e)
    ∙ ap (context_of (store_of (context_at w a f t l)) t.decls.now t.locals.now t.case.now (head_in t)) h

-- ---- what is told

told-at : (w : Store → Setting) (s : Store) (a : Above) (f : Flow) (t : Turn) (gs : List Given) (l : Store) → IsAtTurn w s a f t gs →
    IsLater s l →
    IsTold (context_at w a f t l) t.decls.now t.locals.now t.case.now
told-at w s a f t gs l q d =
    record {
      decls = sym (q.decls l);
      locals = q.locals;
      hint = q.hint;
      meaning = q.meaning l d;
      own = q.own;
      result = q.result;
      deferred = q.deferred;
      body = q.body;
      labels = q.labels;
      yields =
          subst (λ (hs : List Given). AreToldYields (w l).store hs t.case.now.yields) (sym q.yields)
          (subst (λ (z : Store). AreToldYields z gs t.case.now.yields) (sym (q.store l)) (q.given l d));
      role = q.role;
    }

-- ---- the kids

found-at : (w : Store → Setting) (s : Store) (a : Above) (f : Flow) (t : Turn) (gs : List Given) (l : Store)
    (q : IsAtTurn w s a f t gs) → IsLater s l →
    AreKidsFound (w l) a (head_in t) [] (kids_of t.node.now) q.inferred.0 (map bare t.kids.now) f
found-at w s a f t gs l q d =
    kids-found (w l) a (head_in t) [] (kids_of t.node.now) q.inferred.0 (found_kids (map bare t.kids.now) f) (q.inferred.1 l d)

rising-bare : (n : ℕ) (xs : List TypedNode) → IsRising n (map bare xs) → IsRising n xs
rising-bare n [] k = tt
rising-bare n (marked h m ts ∷ xs) k = (k.0, rising-bare (suc m.node) xs k.1)

apart-at : (w : Store → Setting) (s : Store) (a : Above) (f : Flow) (t : Turn) (gs : List Given) → IsStore s → IsAtTurn w s a f t gs →
    AreApart t.kids.now
apart-at w s a f t gs v q =
    let k = found-at w s a f t gs s q (later_here s v) in
    let n = count q.inferred.0 in
    rising-apart n t.kids.now (rising-bare n t.kids.now (subst (λ (ys : List TypedNode). IsRising n ys) (sym k.split) k.rising))

pub each-at : (w : Store → Setting) (s : Store) (a : Above) (f : Flow) (t : Turn) (gs : List Given) (l : Store) → IsAtTurn w s a f t gs →
    IsLater s l →
    EachOver (IsKidFound (w l) f.coercions) (w l) a (head_in t) [] (map bare t.kids.now)
each-at w s a f t gs l q d =
    let k = found-at w s a f t gs l q d in
    subst (λ (ys : List TypedNode). EachOver (IsKidFound (w l) f.coercions) (w l) a (head_in t) [] ys) (sym k.split) k.each

-- a kind whose verdicts list what it settles has no values of a case
no_switch_case : (k : Kind) → lists k ≡ true → is_switch_case k ≡ false
no_switch_case ki.SwitchCase e = cc
no_switch_case _ e = refl

hands-at : (r : Store) (t : Turn) → IsTurn r t → lists (kind_in t) ≡ true → HandNothingOn t.kids.now
hands-at r t i e = hand-nothing i.shaped.0 t.node.now t.kids.now (no_switch_case (kind_in t) e) i.shaped.1 i.kids

as_is-at : (w : Store → Setting) (r s : Store) (a : Above) (f : Flow) (t : Turn) (gs : List Given) (l : Store) → IsTurn r t →
    IsAtTurn w s a f t gs →
    lists (kind_in t) ≡ true → IsLater s l → AreAsIs (context_in l t) 0 t.kids.now f.coercions
as_is-at w r s a f t gs l i q e d =
    let c = context_at w a f t l in
    let ls = t.locals.now in
    let ys = t.case.now.yields in
    let all = map bare t.kids.now in
    let hands = subst (λ (xs : List TypedNode). HandNothingOn xs) q.hand (hands-at r t i e) in
    let k : AreAsIs (seen ls ys c) 0 (map (coat f.coercions) all) f.coercions =
    as_is-from (w l) a (head_in t) all f ls ys 0 [] t.kids.now e refl refl hands (λ b. refl) (each-at w s a f t gs l q d) in
    let here : context_in l t ≡ seen ls ys c =
    told_context w a f t l (q.store l) q.hand ∙ told-seen c t.decls.now ls t.case.now (told-at w s a f t gs l q d) in
    subst (λ (z : Context). AreAsIs z 0 t.kids.now f.coercions) (sym here)
    (subst (λ (xs : List TypedNode). AreAsIs (seen ls ys c) 0 xs f.coercions) (sym q.hand) k)

pub asked-at : (w : Store → Setting) (r s : Store) (a : Above) (f : Flow) (t : Turn) (gs : List Given) → IsStore s → IsTurn r t →
    IsAtTurn w s a f t gs →
    IsAsked w s a f t gs
asked-at w r s a f t gs v i q =
    record {
      store = q.store;
      hand = q.hand;
      told = λ l d. told-at w s a f t gs l q d;
      looked = q.looked;
      yields = q.yields;
      apart = apart-at w s a f t gs v q;
      hands = hands-at r t i;
      as_is = λ e l d. as_is-at w r s a f t gs l i q e d;
    }
