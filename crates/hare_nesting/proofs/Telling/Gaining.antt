-- What trees under way gain over tokens whose numbers rise: the faults that the gauge tells, and over calm rows none but at these tokens.
use Rattle.std.proofs.Common.{◌≡◌, ℕ, suc, ◌+◌, ◌≤◌, List, [], ◌∷◌, ◌++◌, Bool, true, false, ◌&&◌, map, refl, subst, sym, ◌⊎◌, inl, inr}
use Rattle.std.proofs.Common.{arith, if◌then◌else◌}
use Rattle.std.specs.Prelude.{nat_le}
use Rattle.hare_tree.specs.declared.token.Token.{Token}
use Rattle.hare_tree.specs.Grammar.{IsOn}
use Rattle.hare_automaton.specs.declared.rule.Symbol.{Symbol}
use Rattle.hare_automaton.specs.Engine.{Group}
use Rattle.hare_automaton.proofs.Machine.Edges.{le_true, true_le}
use Rattle.hare_automaton.proofs.Spelled.Paths.{split}
use Rattle.hare_prefixes.proofs.Outcomes.Breaks.{both}
use Rattle.hare_nesting.specs.Marks.{Mark, Frame}
use Rattle.hare_nesting.specs.Gauge.{nodes_in, found}
use Rattle.hare_nesting.proofs.UnderWay.Stacks.{frames, stack_faults, Gains, kids_below, all_below, Held}
use Rattle.hare_nesting.proofs.UnderWay.Lists.{on_left, on_right, on_either, gains_refl}
use Rattle.hare_nesting.proofs.Telling.Claims.{StepsGain, calm_after, Calm}
use Rattle.hare_nesting.proofs.Telling.Reaches.{Reaches, stays, goes_onward}

-- ---- numbers that rise

-- the numbers of the tokens rise from `n` on, and all are below `m`
unfoldable pub Ascends : ℕ → List Token → ℕ → Type 0
Ascends n [] m = n ≤ m
Ascends n (t ∷ w) m = (n ≤ t.place.line) × Ascends (suc t.place.line) w m

le_more : (a n m : ℕ) → n ≤ m → nat_le a n ≡ true → nat_le a m ≡ true
le_more a n m l e = let x = true_le a n e in le_true a m (omega arith)

kids_below_more : (n m : ℕ) → n ≤ m → (ks : List Mark) → kids_below n ks ≡ true → kids_below m ks ≡ true
kids_below_more n m l [] e = refl
kids_below_more n m l (k ∷ ks) e =
    let p = split (if k.node then nat_le (k.first + 1) n else true) (kids_below n ks) e in
    both (if k.node then nat_le (k.first + 1) m else true) (kids_below m ks) (by k.node p.0) (kids_below_more n m l ks p.1)
  where
    by : (b : Bool) → (if b then nat_le (k.first + 1) n else true) ≡ true → (if b then nat_le (k.first + 1) m else true) ≡ true
    by true i = le_more (k.first + 1) n m l i
    by false i = refl

below_more : (n m : ℕ) → n ≤ m → (fs : List Frame) → all_below n fs ≡ true → all_below m fs ≡ true
unfolding all_below
below_more n m l [] e = refl
below_more n m l (f ∷ []) e =
    let p = split (nat_le f.at n) (kids_below n f.kids) e in
    both (nat_le f.at m) (kids_below m f.kids) (le_more f.at n m l p.0) (kids_below_more n m l f.kids p.1)
below_more n m l (f ∷ g ∷ fs) e =
    let p = split (nat_le (f.at + 1) n && kids_below n f.kids) (all_below n (g ∷ fs)) e in
    let q = split (nat_le (f.at + 1) n) (kids_below n f.kids) p.0 in
    let r = both (nat_le (f.at + 1) m) (kids_below m f.kids) (le_more (f.at + 1) n m l q.0) (kids_below_more n m l f.kids q.1) in
    both (nat_le (f.at + 1) m && kids_below m f.kids) (all_below m (g ∷ fs)) r (below_more n m l (g ∷ fs) p.1)

pub held_more : (n m : ℕ) (st : List Symbol) (fs : List Frame) → n ≤ m → Held n st fs → Held m st fs
held_more n m st fs l h = record {
  fitting = h.fitting;
  ordered = h.ordered;
  below = below_more n m l fs h.below;
  following = h.following;
  readied = h.readied;
}

-- ---- over the tokens

gains_in_turn : (a b c x y : List ℕ) → Gains a b x → Gains b c y → Gains a c (x ++ y)
gains_in_turn a b c x y g h = record {
  kept = λ n i. h.kept n (g.kept n i);
  gained = λ n i. gained n (on_either n x y i);
  only = λ n i. only
      n (h.only n i);
}
  where
    gained : (n : ℕ) → IsOn n x ⊎ IsOn n y → IsOn n c
    gained n (inl i) = h.kept n (g.gained n i)
    gained n (inr i) = h.gained n i

    sooner : (n : ℕ) → IsOn n a ⊎ IsOn n x → IsOn n a ⊎ IsOn n (x ++ y)
    sooner n (inl i) = inl i
    sooner n (inr i) = inr (on_left n x y i)

    only : (n : ℕ) → IsOn n b ⊎ IsOn n y → IsOn n a ⊎ IsOn n (x ++ y)
    only n (inl i) = sooner n (g.only n i)
    only n (inr i) = inr (on_right n x y i)

-- what the tokens leave in front of a token with the number `m`
pub record Gained (m : ℕ) (st : List Symbol) (gs : List Group) (st' : List Symbol) (gs' : List Group) (ns : List ℕ) : Type 0 where
  pub held : Held m st' (frames gs')
  pub gains : Gains (stack_faults (nodes_in st) gs) (stack_faults (nodes_in st') gs') ns

pub reaches_gained : StepsGain → (f : ℕ) (w : List Token) (st st' : List Symbol) (gs gs' : List Group) (ns : List ℕ) (n m : ℕ) →
    Ascends n w m → Held n st (frames gs) → Reaches f w st gs st' gs' ns → Gained m st gs st' gs' ns
unfolding Ascends
reaches_gained g f [] st st' gs gs' ns n m a h r =
    let s = stays f st st' gs gs' ns r in
    rw (sym s.symbols, sym s.trees, s.tells)
    (record { held = held_more n m st (frames gs) a h; gains = gains_refl (stack_faults (nodes_in st) gs) })
reaches_gained g f (t ∷ w) st st' gs gs' ns n m a h r =
    let o = goes_onward f t w st st' gs gs' ns r in
    let s = g f t st o.next gs o.trees (held_more n t.place.line st (frames gs) a.0 h) o.steps in
    let q = reaches_gained g f w o.next st' o.trees gs' o.later (suc t.place.line) m a.1 s.held o.goes in
    record {
      held = q.held;
      gains = subst (Gains (stack_faults (nodes_in st) gs) (stack_faults (nodes_in st') gs')) (sym o.tells)
          (gains_in_turn (stack_faults (nodes_in st) gs) (stack_faults (nodes_in o.next) o.trees) (stack_faults (nodes_in st') gs')
          (found (nodes_in o.next) (frames o.trees)) o.later s.gains q.gains);
    }

-- the numbers of tokens
abbrev pub lines : List Token → List ℕ
lines w = map (λ t. t.place.line) w

-- over calm rows no limit is passed but at the tokens themselves
pub reaches_calm : StepsGain → (f : ℕ) (w : List Token) (st st' : List Symbol) (gs gs' : List Group) (ns : List ℕ) (n m : ℕ) →
    Ascends n w m → Held n st (frames gs) → Reaches f w st gs st' gs' ns → Calm f w st gs → (x : ℕ) →
    IsOn x (stack_faults (nodes_in st') gs') → IsOn x (stack_faults (nodes_in st) gs) ⊎ IsOn x (lines w)
unfolding Ascends Calm
reaches_calm g f [] st st' gs gs' ns n m a h r c x i = let s = stays f st st' gs gs' ns r in inl (rw (s.symbols, s.trees) i)
reaches_calm g f (t ∷ w) st st' gs gs' ns n m a h r c x i =
    let o = goes_onward f t w st st' gs gs' ns r in
    let s = g f t st o.next gs o.trees (held_more n t.place.line st (frames gs) a.0 h) o.steps in
    let d : Calm f w o.next o.trees = subst (λ z. calm_after z (λ st1 gs1. Calm f w st1 gs1)) o.steps c.1 in
    by (stack_faults (nodes_in o.next) o.trees) (s.calm c.0 x)
    (reaches_calm g f w o.next st' o.trees gs' o.later (suc t.place.line) m a.1 s.held o.goes d x i)
  where
    here : IsOn x (stack_faults (nodes_in st) gs) ⊎ (x ≡ t.place.line) → IsOn x (stack_faults (nodes_in st) gs) ⊎ IsOn x (lines (t ∷ w))
    here (inl j) = inl j
    here (inr e) = inr (inl e)

    by : (ms : List ℕ) → (IsOn x ms → IsOn x (stack_faults (nodes_in st) gs) ⊎ (x ≡ t.place.line)) → IsOn x ms ⊎ IsOn x (lines w) →
        IsOn x (stack_faults (nodes_in st) gs) ⊎ IsOn x (lines (t ∷ w))
    by ms k (inl j) = here (k j)
    by ms k (inr j) = inr (inr j)
