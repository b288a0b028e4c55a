-- What a run has read is closed: the tree that is made passes limits where the gauge told it, and else only at the tokens that close it.
use Rattle.std.proofs.Common.{◌≡◌, ℕ, suc, ◌+◌, ◌<◌, ◌≤◌, List, [], ◌∷◌, ◌++◌, true, ◌⊎◌, inl, inr, map, length, refl, ap, sym, ◌∙◌, subst}
use Rattle.std.proofs.Common.{append_assoc, arith}
use Rattle.std.proofs.lemmas.List.{length-append, map-append}
use Rattle.hare_tree.specs.declared.token.Token.{Token}
use Rattle.hare_tree.specs.Grammar.{Language, IsOn, unplaced}
use Rattle.hare_automaton.specs.declared.class.Class.TheVariants as cl
use Rattle.hare_automaton.specs.declared.rule.Symbol.{Symbol}
use Rattle.hare_automaton.specs.Engine.{Group, Done, run, bottom}
use Rattle.hare_automaton.proofs.Machine.Steps.{run_done}
use Rattle.hare_prefixes.proofs.Completion.Endings.{good, closing}
use Rattle.hare_prefixes.proofs.Completion.Closing.{closes}
use Rattle.hare_prefixes.proofs.Outcomes.Alike.{classes}
use Rattle.hare_prefixes.proofs.Completion.Viable.{end}
use Rattle.hare_nesting.specs.Gauge.{numbered, nodes_in, seen_in}
use Rattle.hare_nesting.proofs.UnderWay.Stacks.{frames, stack_faults, Gains, Held}
use Rattle.hare_nesting.proofs.Telling.Claims.{StepsGain, StepsEnd}
use Rattle.hare_nesting.proofs.UnderWay.Lists.{gains_back}
use Rattle.hare_nesting.proofs.Telling.Calm.{closings_are_calm}
use Rattle.hare_nesting.proofs.Telling.Reaches.{Reaches, run_reaches, reaches_good}
use Rattle.hare_nesting.proofs.Telling.Halts.{stops_done}
use Rattle.hare_nesting.proofs.Telling.Gaining.{Ascends, reaches_gained, reaches_calm, lines}
use Rattle.hare_nesting.proofs.OverFiles.Numbers.{with_number, numbered_append, unplaced_numbered, plain_classes, ascends_to}
use Rattle.hare_nesting.proofs.OverFiles.Numbers.{ascends_append, numbered_ascends}
use Rattle.hare_nesting.proofs.OverFiles.Fronts.{IsFront}
use Rattle.hare_nesting.proofs.OverFiles.Lines.{line_of, ascends_apart, ascends_first}
use Rattle.hare_nesting.proofs.Telling.Runs.{last_same, done_like, whole, told_in_front}
use Rattle.hare_nesting.proofs.OverFiles.Languages.{Reads}

-- ---- the tokens that close

-- the tokens that close a stack, by numbers from `n` on, and what stands behind all tokens
abbrev pub closers : ℕ → List Symbol → List Token
closers n st = numbered n (closing st)

abbrev pub closed_end : ℕ → List Symbol → Token
closed_end n st = with_number (n + length (closing st)) end

closers_end : (n : ℕ) (st : List Symbol) → numbered n (closing st ++ end ∷ []) ≡ closers n st ++ closed_end n st ∷ []
closers_end n st = numbered_append n (closing st) (end ∷ [])

closers_ascend : (n : ℕ) (st : List Symbol) → Ascends n (closers n st ++ closed_end n st ∷ []) (n + length (closing st ++ end ∷ []))
closers_ascend n st = subst (λ l. Ascends n l (n + length (closing st ++ end ∷ []))) (closers_end n st)
    (numbered_ascends n (closing st ++ end ∷ []))

close_done : (n : ℕ) (st : List Symbol) (gs : List Group) → good st cl.Junk ≡ true → (made : List Group) ×
    (run 0 (closers n st ++ closed_end n st ∷ []) st gs ≡ Done (closed_end n st ∷ []) made)
close_done n st gs g =
    let c = closes 0 st (end ∷ []) gs g in
    let d : run 0 (closing st ++ end ∷ []) st gs ≡ Done (end ∷ []) c.trees = c.is ∙ run_done 0 end [] c.trees in
    let k : classes (closers n st ++ closed_end n st ∷ []) ≡ classes (closing st ++ end ∷ []) =
    ap classes (sym (closers_end n st)) ∙ plain_classes _ _ (unplaced_numbered n (closing st ++ end ∷ [])) in
    done_like 0 0 (closers n st) (closing st ++ end ∷ []) (closed_end n st) end st gs gs c.trees k d

-- a token of a list with such a number
lines_from : (n : ℕ) (w : List Token) (m x : ℕ) → Ascends n w m → IsOn x (lines w) → n ≤ x
unfolding Ascends
lines_from n [] m x a i = absurd i
lines_from n (t ∷ w) m x a (inl e) = omega (arith, a.0, e)
lines_from n (t ∷ w) m x a (inr i) = let r = lines_from (suc t.place.line) w m x a.1 i in omega (arith, a.0, r)

-- what is made passes no limits but those that are passed in the stack, and at the tokens that close it
close_adds : StepsGain → StepsEnd → (n : ℕ) (st : List Symbol) (gs made : List Group) → good st cl.Junk ≡ true → Held n st (frames gs) →
    run 0 (closers n st ++ closed_end n st ∷ []) st gs ≡ Done (closed_end n st ∷ []) made → (x : ℕ) → IsOn x (stack_faults [] made) →
    IsOn x (stack_faults (nodes_in st) gs) ⊎ (n ≤ x)
close_adds sg se n st gs made g h d x i =
    let c = closers n st in
    let z = closed_end n st in
    let s = stops_done 0 (c ++ z ∷ []) st gs z [] made d in
    let e : s.used ≡ c = sym (last_same c s.used z z s.split).0 in
    let r : Reaches 0 c st gs s.next s.trees s.told = subst (λ l. Reaches 0 l st gs s.next s.trees s.told) e s.reaches in
    let p = ascends_apart n c (z ∷ []) _ (closers_ascend n st) in
    let a : Ascends n c z.place.line = ascends_to n c p.0 z.place.line (ascends_first p.0 z [] _ p.2) p.1 in
    let k = reaches_gained sg 0 c st s.next gs s.trees s.told n z.place.line a h r in
    let q = gains_back (stack_faults (nodes_in s.next) s.trees) (stack_faults [] made) (se 0 z s.next s.trees made k.held s.stops) in
    let calm = closings_are_calm 0 cl.Junk st gs c g (plain_classes c (closing st) (unplaced_numbered n (closing st))) in
    by a (reaches_calm sg 0 c st s.next gs s.trees s.told n z.place.line a h r calm x (q.kept x i))
  where
    by : Ascends n (closers n st) (closed_end n st).place.line → IsOn x (stack_faults (nodes_in st) gs) ⊎ IsOn x (lines (closers n st)) →
        IsOn x (stack_faults (nodes_in st) gs) ⊎ (n ≤ x)
    by a (inl j) = inl j
    by a (inr j) = inr (lines_from n (closers n st) _ x a j)

-- ---- what is read, closed

-- A tree goes on with the tokens `u`, behind which the gauge has told these numbers; the tokens that it goes on with have numbers from
-- `high` on.
pub record Closed {T : Type 0} (l : Language T) (u : List Token) (told : List ℕ) (high : ℕ) : Type 0 where
  pub tree : T
  pub shaped : l.is_of tree ≡ true
  pub behind : List Token
  pub spelled : map unplaced (l.tokens_of tree) ≡ map unplaced (u ++ behind)
  pub after : List Token
  pub top : ℕ
  pub ascends : Ascends high after top
  pub forced : (x : ℕ) → IsOn x told → IsOn x (map (line_of (u ++ after)) (l.deep_of tree))
  pub only : (x : ℕ) → IsOn x (map (line_of (u ++ after)) (l.deep_of tree)) → IsOn x told ⊎ (high ≤ x)
  pub within : (k : ℕ) → IsOn k (l.deep_of tree) → k < length (u ++ after)

pub closed : {T : Type 0} → StepsGain → StepsEnd → (l : Language T) (st : List Symbol) → Reads l st →
    (u : List Token) (next : List Symbol) (trees : List Group) (told : List ℕ) (high : ℕ) → Ascends 1 u high →
    Reaches 0 u st bottom next trees told → Closed l u told high
closed sg se l st s u next trees told high a r =
    let c = closers high next in
    let z = closed_end high next in
    let g = reaches_good 0 u st next bottom trees told s.is_good r in
    let d = close_done high next trees g in
    let made = d.0 in
    let e : (u ++ c) ++ z ∷ [] ≡ u ++ (c ++ z ∷ []) = append_assoc u c (z ∷ []) in
    let run_all : run 0 ((u ++ c) ++ z ∷ []) st bottom ≡ Done (z ∷ []) made =
    ap (λ v. run 0 v st bottom) e ∙ run_reaches 0 u st next bottom trees told r (c ++ z ∷ []) ∙ d.1 in
    let top = high + length (closing next ++ end ∷ []) in
    let asc : Ascends 1 ((u ++ c) ++ z ∷ []) top =
    subst (λ v. Ascends 1 v top) (sym e) (ascends_append 1 u high (c ++ z ∷ []) top a (closers_ascend high next)) in
    let t = s.reads (u ++ c) z top made asc refl run_all in
    let w = whole sg se st s.held s.none (u ++ c) z top made asc run_all in
    let b : IsFront u (u ++ c) = record { more = map seen_in c; is = map-append seen_in u c } in
    let f : Gains (map (line_of (u ++ (c ++ z ∷ []))) (l.deep_of t.tree)) (stack_faults [] made) [] =
    subst (λ v. Gains (map (line_of v) (l.deep_of t.tree)) (stack_faults [] made) []) e t.faulty.faults in
    let q = reaches_gained sg 0 u st next bottom trees told 1 high a s.held r in
    record {
      tree = t.tree;
      shaped = t.shaped;
      behind = c ++ t.tail;
      spelled = t.spelled ∙ ap (map unplaced) (append_assoc u c t.tail);
      after = c ++ z ∷ [];
      top = top;
      ascends = closers_ascend high next;
      forced = λ x i. (gains_back _ (stack_faults [] made) f).kept x
          (w.gains.gained x (told_in_front st next w.next u (u ++ c) trees w.trees told w.told r w.reaches b x i));
      only = λ x i. told_or x (q.gains.only x) (close_adds sg se high next trees made g q.held d.1 x (f.kept x i));
      within = λ k i. let y = t.faulty.within k i in omega (arith, y, ap length e, length-append (u ++ c) (z ∷ []));
    }
  where
    told_or : (x : ℕ) → (IsOn x (stack_faults (nodes_in next) trees) → IsOn x (stack_faults (nodes_in st) bottom) ⊎ IsOn x told) →
        IsOn x (stack_faults (nodes_in next) trees) ⊎ (high ≤ x) → IsOn x told ⊎ (high ≤ x)
    told_or x k (inr h) = inr h
    told_or x k (inl i) = by (k i)
      where
        by : IsOn x (stack_faults (nodes_in st) bottom) ⊎ IsOn x told → IsOn x told ⊎ (high ≤ x)
        by (inl j) = absurd (subst (IsOn x) s.none j)
        by (inr j) = inl j
