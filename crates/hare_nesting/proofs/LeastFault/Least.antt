-- The least depth fault of a file's tokens is told by the gauge: what is not told is not passed in some tree that goes on.
use Rattle.std.proofs.Common.{◌≡◌, ℕ, zero, suc, ◌+◌, ◌<◌, ◌≤◌, List, [], ◌∷◌, ◌++◌, ◌⊎◌, inl, inr, length, take, drop, refl, ap, sym, ◌∙◌}
use Rattle.std.proofs.Common.{subst, arith}
use Rattle.std.proofs.lemmas.Bool.{cases_lt}
use Rattle.std.proofs.lemmas.List.{length-take-le, take-append-drop}
use Rattle.hare_tree.specs.declared.token.Token.{Token}
use Rattle.hare_tree.specs.Grammar.{Language, IsOn, IsDepthFault, GoesOn, joined}
use Rattle.hare_automaton.specs.declared.rule.Symbol.{Symbol}
use Rattle.hare_automaton.specs.Engine.{Group, bottom}
use Rattle.hare_nesting.specs.Gauge.{numbered, seen, start, gauge}
use Rattle.hare_nesting.proofs.UnderWay.Stacks.{stack_faults}
use Rattle.hare_nesting.proofs.Telling.Claims.{StepsGain, StepsEnd}
use Rattle.hare_nesting.proofs.UnderWay.Lists.{on_left, map_on}
use Rattle.hare_nesting.proofs.Telling.Reaches.{Reaches, gauge_reaches}
use Rattle.hare_nesting.proofs.Telling.Gaining.{Ascends}
use Rattle.hare_nesting.proofs.OverFiles.Numbers.{unplaced_both, plain_lengths, ascends_to, joined_ascends}
use Rattle.hare_nesting.proofs.OverFiles.Fronts.{IsFront, front_numbered}
use Rattle.hare_nesting.proofs.OverFiles.Lines.{line_of, line_within, line_before, front_line, front_shorter, front_then, front_short}
use Rattle.hare_nesting.proofs.OverFiles.Lines.{front_long}
use Rattle.hare_nesting.proofs.OverFiles.Languages.{Reread, Reads}
use Rattle.hare_nesting.proofs.Telling.Runs.{Whole, whole, Through, through}
use Rattle.hare_nesting.proofs.Telling.Closings.{Closed, closed}
use Rattle.hare_nesting.proofs.OverFiles.GoesOn.{goes_on_with, take_twice, front_of_reread}

-- what is told behind a front of the file is told
pub told_on : (st next : List Symbol) (u ts : List Token) (trees : List Group) (told : List ℕ) (x : ℕ) →
    Reaches 0 u st bottom next trees told → IsFront u (joined (numbered 1 ts)) → IsOn x told → IsOn x (gauge (seen ts) st start).faults
told_on st next u ts trees told x r f i =
    let g = ap (λ v. gauge v st start) f.is ∙ gauge_reaches 0 u st next bottom trees told r f.more in
    subst (λ y. IsOn x y.faults) (sym g) (on_left x told _ i)

-- where the first tokens of a front are this many joined ones, the last of these stands among them
pub record LastOf (q : List Token) (n k : ℕ) : Type 0 where
  pub within : k < length (joined (numbered 1 q))
  pub positive : 0 < line_of (joined (numbered 1 q)) k
  pub below : line_of (joined (numbered 1 q)) k ≤ suc n

pub last_of : (q : List Token) (n k : ℕ) → n < length q → length (joined (take (suc n) q)) ≡ suc k → LastOf q n k
last_of q n k d e =
    let a = take (suc n) q in
    let u = joined (numbered 1 a) in
    let f : IsFront u (joined (numbered 1 q)) =
    subst (λ v. IsFront u (joined (numbered 1 v))) (take-append-drop (suc n) q) (front_numbered a (drop (suc n) q)) in
    let m : length u ≡ suc k = plain_lengths u (joined a) (unplaced_both 1 a) ∙ e in
    let w : k < length u = omega (arith, m) in
    let i = front_line u (joined (numbered 1 q)) f k w in
    let b = line_within 1 u (1 + length a) k (joined_ascends 1 a) w in
    let c = length-take-le (suc n) q (omega (arith, d)) in
    let h = front_shorter u (joined (numbered 1 q)) f in
    record { within = omega (arith, w, h); positive = omega (arith, i, b.0); below = omega (arith, i, b.1, c) }

-- Where the run of a tree uses all tokens of the front, the gauge tells there what each tree that goes on passes: a tree that is closed
-- with tokens of higher numbers passes nothing else so early.
told_short : {T : Type 0} → StepsGain → StepsEnd → (l : Language T) (st : List Symbol) → Reads l st → (ts q : List Token) (n k : ℕ) →
    LastOf q n k → IsFront (joined (numbered 1 q)) (joined (numbered 1 ts)) → (ws : List ℕ) → Through st (joined (numbered 1 q)) ws →
    ((tree : T) → GoesOn l q tree → IsOn k (l.deep_of tree)) → IsOn (line_of (joined (numbered 1 q)) k) (gauge (seen ts) st start).faults
told_short sg se l st s ts q n k a f ws t forced =
    let u = joined (numbered 1 q) in
    let high = suc (suc n) + length q in
    let asc : Ascends 1 u high = ascends_to 1 u (1 + length q) high (omega arith) (joined_ascends 1 q) in
    let c = closed sg se l st s u t.next t.trees t.sooner high asc t.reaches in
    let i = forced c.tree (goes_on_with l st s q u c.behind c.tree c.shaped refl c.spelled) in
    told_on st t.next u ts t.trees t.sooner (line_of u k) t.reaches f
    (by c (line_before u c.after k a.within)
    (c.only (line_of (u ++ c.after) k) (map_on (line_of (u ++ c.after)) k (l.deep_of c.tree) i)))
  where
    by : (c : Closed l (joined (numbered 1 q)) t.sooner (suc (suc n) + length q)) →
        line_of (joined (numbered 1 q) ++ c.after) k ≡ line_of (joined (numbered 1 q)) k →
        IsOn (line_of (joined (numbered 1 q) ++ c.after) k) t.sooner ⊎
        (suc (suc n) + length q ≤ line_of (joined (numbered 1 q) ++ c.after) k) → IsOn (line_of (joined (numbered 1 q)) k) t.sooner
    by c e (inl x) = subst (λ y. IsOn y t.sooner) e x
    by c e (inr x) = let y = a.below in absurd (omega (arith, x, e, y))

-- The tokens `u` are a front of a file and of the tokens of a tree, which passes a limit at their token `k` and is whole in front of their
-- end.
record WholeWithin {T : Type 0} (l : Language T) (st : List Symbol) (ts u xs : List Token) (k : ℕ) (tree : T) : Type 0 where
  -- the run that reads the tree
  again : Reread l st xs tree
  -- the token is one of these
  within : k < length u
  -- they begin the file
  front : IsFront u (joined (numbered 1 ts))
  -- they begin what the run uses, and the token behind it
  shared : IsFront u (again.used ++ again.last ∷ [])
  -- the run is over in front of their end
  over : length again.used < length u
  -- the tree passes a limit there
  passes : IsOn k (l.deep_of tree)

-- where it is over in front of the last of them, the tree is whole with the front
told_whole : {T : Type 0} → StepsGain → StepsEnd → (l : Language T) (st : List Symbol) → Reads l st →
    (ts u xs : List Token) (k : ℕ) (tree : T) → WholeWithin l st ts u xs k tree → IsOn (line_of u k) (gauge (seen ts) st start).faults
told_whole sg se l st s ts u xs k tree o =
    let r = o.again in
    let w = whole sg se st s.held s.none r.used r.last r.top r.made r.ascends r.done in
    let all = r.used ++ r.last ∷ [] in
    let x = r.faulty.faults.kept (line_of all k) (map_on (line_of all) k (l.deep_of tree) o.passes) in
    let h = front_then r.used u (joined (numbered 1 ts)) (front_long u r.used (r.last ∷ []) o.shared (omega (arith, o.over))) o.front in
    told_on st w.next r.used ts w.trees w.told (line_of u k) w.reaches h
    (by w (subst (λ y. IsOn y (stack_faults [] r.made)) (front_line u all o.shared k o.within) x))
  where
    by : (w : Whole st o.again.used o.again.made) → IsOn (line_of u k) (stack_faults [] o.again.made) → IsOn (line_of u k) w.told
    by w x = or (w.gains.only (line_of u k) x)
      where
        or : IsOn (line_of u k) [] ⊎ IsOn (line_of u k) w.told → IsOn (line_of u k) w.told
        or (inl y) = absurd y
        or (inr y) = y

pub least_faults : {T : Type 0} → StepsGain → StepsEnd → (l : Language T) (st : List Symbol) → Reads l st → (ts : List Token) (n : ℕ) →
    IsDepthFault l ts n → (m : ℕ) × (m ≤ n) × IsOn (suc m) (gauge (seen ts) st start).faults
least_faults sg se l st s ts n d =
    let q = take d.read ts in
    let u = joined (numbered 1 q) in
    let size : length q ≡ d.read = length-take-le d.read ts d.within in
    let tree = d.viable.0 in
    let g = d.viable.1 in
    let t : take (suc n) q ≡ take (suc n) ts = take_twice (suc n) d.read ts (omega (arith, d.holds)) d.within in
    let a = last_of q n d.at (omega (arith, d.holds, size)) (ap (λ x. length (joined x)) t ∙ d.is_at) in
    let r = s.rereads (q ++ g.behind) tree g.shaped g.spelled in
    let f : IsFront u (joined (numbered 1 ts)) =
    subst (λ x. IsFront u (joined (numbered 1 x))) (take-append-drop d.read ts) (front_numbered q (drop d.read ts)) in
    by a r f (front_of_reread l st u (q ++ g.behind) tree r (front_numbered q g.behind)) (cases_lt (length r.used) (length u))
  where
    number : (q : List Token) → LastOf q n d.at → (x : ℕ) → x ≡ line_of (joined (numbered 1 q)) d.at →
        IsOn (line_of (joined (numbered 1 q)) d.at) (gauge (seen ts) st start).faults → (m : ℕ) × (m ≤ n) ×
        IsOn (suc m) (gauge (seen ts) st start).faults
    number q a zero e i = let y = a.positive in absurd (omega (arith, e, y))
    number q a (suc m) e i = let y = a.below in (m, omega (arith, e, y), subst (λ z. IsOn z (gauge (seen ts) st start).faults) (sym e) i)

    by : LastOf (take d.read ts) n d.at → (r : Reread l st (take d.read ts ++ d.viable.1.behind) d.viable.0) →
        IsFront (joined (numbered 1 (take d.read ts))) (joined (numbered 1 ts)) →
        IsFront (joined (numbered 1 (take d.read ts))) (r.used ++ r.last ∷ []) →
        (length r.used < length (joined (numbered 1 (take d.read ts)))) ⊎ (length (joined (numbered 1 (take d.read ts))) ≤ length r.used) →
        (m : ℕ) × (m ≤ n) × IsOn (suc m) (gauge (seen ts) st start).faults
    by a r f h (inl m) = number (take d.read ts) a _ refl
        (told_whole sg se l st s ts (joined (numbered 1 (take d.read ts))) (take d.read ts ++ d.viable.1.behind) d.at d.viable.0 (record {
          again = r;
          within = a.within;
          front = f;
          shared = h;
          over = m;
          passes = d.forced d.viable.0 d.viable.1;
        }))
    by a r f h (inr m) =
        let u = joined (numbered 1 (take d.read ts)) in
        let w = whole sg se st s.held s.none r.used r.last r.top r.made r.ascends r.done in
        let t = through st u r.used w.next w.trees w.told w.reaches (front_short u r.used (r.last ∷ []) h m) in
        number (take d.read ts) a _ refl (told_short sg se l st s ts (take d.read ts) n d.at a f w.told t d.forced)
