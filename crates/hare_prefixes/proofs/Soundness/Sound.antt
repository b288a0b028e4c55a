-- What a run reads is what the stack means.
use Rattle.std.proofs.Common.{◌≡◌, ℕ, ◌+◌, List, [], ◌∷◌, ◌++◌, Bool, true, false, length, refl, ap, sym, ◌∙◌, subst, arith, append_assoc}
use Rattle.std.proofs.lemmas.List.{length-append}
use Rattle.hare_tree.specs.declared.token.Token.{Token}
use Rattle.hare_tree.specs.Grammar.{place_of}
use Rattle.hare_automaton.specs.declared.rule.Symbol.{Symbol}
use Rattle.hare_automaton.specs.declared.rule.Symbol.TheVariants as sy
use Rattle.hare_automaton.specs.Classes.{class_of}
use Rattle.hare_automaton.specs.Rows.{Row, Fault, Skips, Uses, before, has_sign}
use Rattle.hare_automaton.specs.Table.{row}
use Rattle.hare_automaton.specs.Engine.{Group, close, all_changed, Step, Goes as StepGoes, Ends, Stuck, wanted, acted, step, Done, after, run}
use Rattle.hare_prefixes.proofs.Soundness.Trees.{Source}
use Rattle.hare_prefixes.proofs.Soundness.Stacks.{Reads, join, Goes, Used}
use Rattle.hare_prefixes.proofs.RightRows.SideRows.{sign_of}
use Rattle.hare_prefixes.proofs.RightRows.Rows.{row_means, skip_means}

-- ---- steps

-- a token that is used
pub step_reads : (x : Source) (t : Token) (st st' : List Symbol) (gs hs : List Group) (m : ℕ) (u w : List Token) (gs' : List Group) →
    place_of x.tokens m ≡ t.place → step x.file t (class_of t) st gs ≡ StepGoes st' hs → Reads x st' hs (m + 1) u w gs' →
    Reads x st gs m (t ∷ u) w gs'
unfolding step
step_reads x t [] st' gs hs m u w gs' p e r = cc
step_reads x t (sy.Close k ∷ st) st' gs hs m u w gs' p e r = step_reads x t st st' (close k gs) hs m u w gs' p e r
step_reads x t (sy.Want d ∷ st) st' gs hs m u w gs' p e r = by (has_sign d (class_of t)) refl e
  where
    by : (b : Bool) → has_sign d (class_of t) ≡ b → wanted b (StepGoes st gs) ≡ StepGoes st' hs →
        Reads x (sy.Want d ∷ st) gs m (t ∷ u) w gs'
    by true i e =
        let a : st' ≡ st = cc in
        let b : hs ≡ gs = cc in
        record {
          t = t;
          v = u;
          n = m + 1;
          is = refl;
          begun = record { class = sign_of d (class_of t) i; place = p; next = refl };
          rest =
              subst (λ y. Reads x y gs (m + 1) u w gs') a (subst (λ y. Reads x st' y (m + 1) u w gs') b r);
        }
    by false i e = cc
step_reads x t (sy.Part n ∷ st) st' gs hs m u w gs' p e r =
    by (row n (class_of t)) refl e (λ gs1 q. step_reads x t st st' gs1 hs m u w gs' p q r)
  where
    by : (z : Row) → row n (class_of t) ≡ z → acted z x.file t st gs (λ gs1. step x.file t (class_of t) st gs1) ≡ StepGoes st' hs →
        ((gs1 : List Group) → step x.file t (class_of t) st gs1 ≡ StepGoes st' hs → Reads x st gs1 m (t ∷ u) w gs') →
        Reads x (sy.Part n ∷ st) gs m (t ∷ u) w gs'
    by Fault i e f = cc
    by (Skips cs) i e f = record {
      v = [];
      v' = t ∷ u;
      n = m;
      hs = all_changed x.file t cs gs;
      is = refl;
      at = omega arith;
      part =
          skip_means x n (class_of t) t gs m (t ∷ (u ++ w)) cs refl i;
      rest = f (all_changed x.file t cs gs) e;
    }
    by (Uses cs ss) i e f =
        let a : st' ≡ ss ++ st = cc in
        let b : hs ≡ all_changed x.file t cs gs = cc in
        let r' = subst (λ y. Reads x y (all_changed x.file t cs gs) (m + 1) u w gs') a (subst (λ y. Reads x st' y (m + 1) u w gs') b r) in
        let j = join x ss st (all_changed x.file t cs gs) (m + 1) u w gs' r' in
        let g : Goes x ss (all_changed x.file t cs gs) t m j.v (j.v' ++ w) j.hs =
        record { n = m + 1; place = p; at = refl; reads = j.first } in
        let k = row_means x n (class_of t) t gs m j.v (j.v' ++ w) j.hs refl (subst (λ y. Used x y t gs m j.v (j.v' ++ w) j.hs) (sym i) g) in
        record { v = t ∷ j.v; v' = j.v'; n = j.n; hs = j.hs; is = ap (λ y. t ∷ y) j.is; at = omega (arith, j.at); part = k; rest = j.rest }

-- a token at which nothing more is waited for
pub end_reads : (x : Source) (t : Token) (st : List Symbol) (gs : List Group) (m : ℕ) (w : List Token) (gs' : List Group) →
    step x.file t (class_of t) st gs ≡ Ends gs' → Reads x st gs m [] (t ∷ w) gs'
unfolding step
end_reads x t [] gs m w gs' e = let a : gs' ≡ gs = cc in (refl, a)
end_reads x t (sy.Close k ∷ st) gs m w gs' e = end_reads x t st (close k gs) m w gs' e
end_reads x t (sy.Want d ∷ st) gs m w gs' e = by (has_sign d (class_of t)) e
  where
    by : (b : Bool) → wanted b (StepGoes st gs) ≡ Ends gs' → Reads x (sy.Want d ∷ st) gs m [] (t ∷ w) gs'
    by true e = cc
    by false e = cc
end_reads x t (sy.Part n ∷ st) gs m w gs' e = by (row n (class_of t)) refl e (λ gs1 q. end_reads x t st gs1 m w gs' q)
  where
    by : (z : Row) → row n (class_of t) ≡ z → acted z x.file t st gs (λ gs1. step x.file t (class_of t) st gs1) ≡ Ends gs' →
        ((gs1 : List Group) → step x.file t (class_of t) st gs1 ≡ Ends gs' → Reads x st gs1 m [] (t ∷ w) gs') →
        Reads x (sy.Part n ∷ st) gs m [] (t ∷ w) gs'
    by Fault i e f = cc
    by (Skips cs) i e f = record {
      v = [];
      v' = [];
      n = m;
      hs = all_changed x.file t cs gs;
      is = refl;
      at = omega arith;
      part = skip_means x
          n (class_of t) t gs m (t ∷ w) cs refl i;
      rest = f (all_changed x.file t cs gs) e;
    }
    by (Uses cs ss) i e f = cc

-- ---- runs

place_at : (before : List Token) (t : Token) (w : List Token) → place_of (before ++ t ∷ w) (length before) ≡ t.place
place_at [] t w = refl
place_at (y ∷ before) t w = place_at before t w

-- the tokens that were used, and what they say
pub record Ran (x : Source) (st : List Symbol) (gs : List Group) (m : ℕ) (w v : List Token) (gs' : List Group) : Type 0 where
  pub u : List Token
  pub is : w ≡ u ++ v
  pub reads : Reads x st gs m u v gs'

pub run_reads : (x : Source) (before w : List Token) (st : List Symbol) (gs : List Group) (v : List Token) (gs' : List Group) →
    x.tokens ≡ before ++ w → run x.file w st gs ≡ Done v gs' → Ran x st gs (length before) w v gs'
unfolding run
run_reads x before [] st gs v gs' i e = cc
run_reads x before (t ∷ w) st gs v gs' i e =
    by (step x.file t (class_of t) st gs) refl e
    (λ st' hs q. run_reads x (before ++ t ∷ []) w st' hs v gs' (i ∙ sym (append_assoc before (t ∷ []) w)) q)
  where
    by : (s : Step) → step x.file t (class_of t) st gs ≡ s → after s t w (λ st' hs. run x.file w st' hs) ≡ Done v gs' →
        ((st' : List Symbol) (hs : List Group) → run x.file w st' hs ≡ Done v gs' → Ran x st' hs (length (before ++ t ∷ [])) w v gs') →
        Ran x st gs (length before) (t ∷ w) v gs'
    by (StepGoes st' hs) j e f =
        let r = f st' hs e in
        let at : length (before ++ t ∷ []) ≡ length before + 1 = length-append before (t ∷ []) in
        let p : place_of x.tokens (length before) ≡ t.place = ap (λ y. place_of y (length before)) i ∙ place_at before t w in
        record {
          u = t ∷ r.u;
          is = ap (λ y. t ∷ y) r.is;
          reads = step_reads x t st st' gs hs (length before) r.u v gs' p j
              (subst (λ y. Reads x st' hs y r.u v gs') at r.reads);
        }
    by (Ends hs) j e f =
        let a : t ∷ w ≡ v = cc in
        let b : hs ≡ gs' = cc in
        record {
          u = [];
          is = a;
          reads = subst (λ y. Reads x st gs (length before) [] y gs') a
              (end_reads x t st gs (length before) w gs' (j ∙ ap Ends b));
        }
    by Stuck j e f = cc
