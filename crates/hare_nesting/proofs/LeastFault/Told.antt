-- Each token that the gauge tells is one at which a limit is passed in every tree that goes on with what is read.
use Rattle.std.proofs.Common.{◌≡◌, ℕ, suc, ◌+◌, ◌<◌, ◌≤◌, List, [], ◌∷◌, ◌++◌, ◌⊎◌, inl, inr, length, take, ap, sym, ◌∙◌, subst, arith}
use Rattle.std.proofs.lemmas.Bool.{cases_lt}
use Rattle.std.proofs.lemmas.List.{length-append, length-take-le}
use Rattle.hare_tree.specs.declared.token.Token.{Token}
use Rattle.hare_tree.specs.Grammar.{Language, IsOn, IsDepthFault, GoesOn, joined}
use Rattle.hare_automaton.specs.declared.rule.Symbol.{Symbol}
use Rattle.hare_automaton.specs.Engine.{Group, bottom}
use Rattle.hare_nesting.specs.Gauge.{numbered, seen, start, gauge}
use Rattle.hare_nesting.proofs.UnderWay.Stacks.{stack_faults}
use Rattle.hare_nesting.proofs.Telling.Claims.{StepsGain, StepsEnd}
use Rattle.hare_nesting.proofs.UnderWay.Lists.{on_map, gains_back}
use Rattle.hare_nesting.proofs.Telling.Reaches.{Reaches}
use Rattle.hare_nesting.proofs.Telling.Halts.{halting, halting_faults}
use Rattle.hare_nesting.proofs.Telling.Gaining.{Ascends}
use Rattle.hare_nesting.proofs.OverFiles.Numbers.{ascends_to, joined_ascends, is_numbered}
use Rattle.hare_nesting.proofs.OverFiles.Fronts.{IsFront, front_numbered}
use Rattle.hare_nesting.proofs.OverFiles.Lines.{line_of, line_once, line_before, line_behind, around_at, front_line, front_short}
use Rattle.hare_nesting.proofs.OverFiles.Languages.{Reread, Reads}
use Rattle.hare_nesting.proofs.Telling.Runs.{Whole, whole, not_all_used, told_in_front}
use Rattle.hare_nesting.proofs.OverFiles.GoesOn.{FrontAt, front_at, goes_on_with, take_twice, front_of_reread}
use Rattle.hare_nesting.proofs.Telling.Closings.{Closed, closed}

-- ---- a tree that goes on is read again

-- what is told behind a front is a fault of each tree that goes on with it
pub told_again : {T : Type 0} → StepsGain → StepsEnd → (l : Language T) (st : List Symbol) → Reads l st →
    (u : List Token) (next : List Symbol) (trees : List Group) (told : List ℕ) (k : ℕ) → Reaches 0 u st bottom next trees told →
    k < length u → IsOn (line_of u k) told → (ts : List Token) (tree : T) → (r : Reread l st ts tree) → IsFront u (r.used ++ r.last ∷ []) →
    IsOn k (l.deep_of tree)
told_again sg se l st s u next trees told k r e i ts tree q f = by (cases_lt (length q.used) (length u))
  where
    w : Whole st q.used q.made
    w = whole sg se st s.held s.none q.used q.last q.top q.made q.ascends q.done

    -- the fault stands at the same index
    same : (j : ℕ) → IsOn j (l.deep_of tree) → line_of u k ≡ line_of (q.used ++ q.last ∷ []) j → length u ≤ length q.used →
        IsOn k (l.deep_of tree)
    same j y d m =
        let b = q.faulty.within j y in
        let c = length-append q.used (q.last ∷ []) in
        let n : j ≡ k = line_once 1 (q.used ++ q.last ∷ []) q.top j k q.ascends (omega (arith, b, c)) (omega (arith, e, m, c))
        (sym d ∙ sym (front_line u (q.used ++ q.last ∷ []) f k e)) in
        subst (λ x. IsOn x (l.deep_of tree)) n y

    by : (length q.used < length u) ⊎ (length u ≤ length q.used) → IsOn k (l.deep_of tree)
    by (inl m) = absurd (not_all_used st next u q.used q.last trees q.made told r f m q.done)
    by (inr m) =
        let x = told_in_front st next w.next u q.used trees w.trees told w.told r w.reaches (front_short u q.used (q.last ∷ []) f m)
        (line_of u k) i in
        let y = (gains_back _ (stack_faults [] q.made) q.faulty.faults).kept (line_of u k) (w.gains.gained (line_of u k) x) in
        let j = on_map (line_of (q.used ++ q.last ∷ [])) (line_of u k) (l.deep_of tree) y in
        same j.0 j.1 j.2 m

-- ---- the law

-- the token `n` of the file is the first of those that the joined token with this index is made from
pub record First (q u : List Token) (n : ℕ) : Type 0 where
  pub at : ℕ
  pub within : at < length u
  pub line : line_of u at ≡ suc n
  pub read : n < length q
  pub count : length (joined (take (suc n) q)) ≡ suc at

pub first_at : (q u : List Token) (n k : ℕ) → u ≡ joined (numbered 1 q) → k < length u → line_of u k ≡ suc n → First q u n
first_at q u n k e d i =
    let v = around_at u k d in
    let b = is_numbered q v.before v.token v.behind (sym e ∙ v.is) in
    let m : b.at ≡ n = omega (arith, i, v.line, b.line) in
    record {
      at = k;
      within = d;
      line = i;
      read = subst (λ x. x < length q) m b.within;
      count = ap (λ x. length (joined (take (suc x) q))) (sym m) ∙ b.count ∙ ap suc v.count;
    }

-- what is told stands among the tokens that are used
told_first : {T : Type 0} (l : Language T) (q u : List Token) (told : List ℕ) (high n : ℕ) → u ≡ joined (numbered 1 q) →
    Closed l u told high → suc n < high → IsOn (suc n) told → First q u n
told_first l q u told high n e c d i = by (on_map (line_of (u ++ c.after)) (suc n) (l.deep_of c.tree) (c.forced (suc n) i))
  where
    by : (k : ℕ) × IsOn k (l.deep_of c.tree) × (suc n ≡ line_of (u ++ c.after) k) → First q u n
    by m = test (cases_lt m.0 (length u))
      where
        test : (m.0 < length u) ⊎ (length u ≤ m.0) → First q u n
        test (inl x) = first_at q u n m.0 e x (sym (line_before u c.after m.0 x) ∙ sym m.2)
        test (inr x) = let y = line_behind u c.after high c.top m.0 c.ascends x (c.within m.0 m.1) in absurd (omega (arith, y, m.2, d))

-- all that is told behind tokens that are used
told_there : {T : Type 0} → StepsGain → StepsEnd → (l : Language T) (st : List Symbol) → Reads l st →
    (ts u : List Token) (next : List Symbol) (trees : List Group) (told : List ℕ) (n : ℕ) → Reaches 0 u st bottom next trees told →
    IsOn (suc n) told → FrontAt ts u → IsDepthFault l ts n
told_there sg se l st s ts u next trees told n r i f =
    let q = take f.read ts in
    let size : length q ≡ f.read = length-take-le f.read ts f.within in
    let high = suc (suc n) + f.read in
    let asc : Ascends 1 u high = subst (λ v. Ascends 1 v high) (sym f.is)
    (ascends_to 1 (joined (numbered 1 q)) (1 + length q) high (omega (arith, size)) (joined_ascends 1 q)) in
    let c = closed sg se l st s u next trees told high asc r in
    let a = told_first l q u told high n f.is c (omega arith) i in
    let g = goes_on_with l st s q u c.behind c.tree c.shaped f.is c.spelled in
    let t : take (suc n) q ≡ take (suc n) ts = take_twice (suc n) f.read ts (omega (arith, a.read, size)) f.within in
    record {
      read = f.read;
      within = f.within;
      holds = omega (arith, a.read, size);
      viable = (c.tree, g);
      at = a.at;
      is_at = ap (λ x. length (joined x)) (sym t) ∙ a.count;
      forced = λ tree h. again q a tree h (s.rereads (q ++ h.behind) tree h.shaped h.spelled) f.is;
    }
  where
    again : (q : List Token) (a : First q u n) (tree : _) (h : GoesOn l q tree) → Reread l st (q ++ h.behind) tree →
        u ≡ joined (numbered 1 q) → IsOn a.at (l.deep_of tree)
    again q a tree h k e =
        let x : IsFront u (joined (numbered 1 (q ++ h.behind))) =
        subst (λ v. IsFront v (joined (numbered 1 (q ++ h.behind)))) (sym e) (front_numbered q h.behind) in
        told_again sg se l st s u next trees told a.at r a.within (subst (λ y. IsOn y told) (sym a.line) i) (q ++ h.behind) tree k
        (front_of_reread l st u (q ++ h.behind) tree k x)

pub told_faults : {T : Type 0} → StepsGain → StepsEnd → (l : Language T) (st : List Symbol) → Reads l st → (ts : List Token) (n : ℕ) →
    IsOn (suc n) (gauge (seen ts) st start).faults → IsDepthFault l ts n
told_faults sg se l st s ts n i =
    let h = halting 0 (joined (numbered 1 ts)) st bottom in
    told_there sg se l st s ts h.used h.next h.trees h.told n h.reaches
    (subst (IsOn (suc n)) (halting_faults 0 (joined (numbered 1 ts)) st bottom h) i) (front_at ts h.used h.rest h.split)
