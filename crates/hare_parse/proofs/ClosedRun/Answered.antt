-- What the machine's run over tokens, with End behind them, says of the tree of the tokens and of their first fault.
use Rattle.std.proofs.Common.{◌≡◌, ℕ, suc, ◌-◌, ◌<◌, ◌≤◌, ◌⊎◌, inl, inr, Some, List, [], ◌∷◌, Bool, true, false, ◌&&◌, take, drop, length, length-drop, ap, sym, ◌∙◌, subst, arith}
use Rattle.std.proofs.lemmas.List.{take-append-le, drop-append-le, length-append}
use Rattle.hare_tree.specs.declared.place.Fault as fault
use Rattle.hare_tree.specs.declared.token.Token.{Token}
use Rattle.hare_tree.specs.declared.form.Sort.{Sort}
use Rattle.hare_tree.specs.Node.{Node}
use Rattle.hare_tree.specs.Spell.{spell}
use Rattle.hare_tree.specs.Shape.{is_shaped}
use Rattle.hare_tree.specs.Grammar.{Spells, HasPlaces, joined, trees_of, IsViable, IsRun, IsSyntaxFault, IsDepthFault, IsTreeOf, ends_in_string, begins_with_string, StandsAt}
use Rattle.hare_automaton.specs.Rows.{of}
use Rattle.hare_automaton.specs.Engine.{Group, add, Done, Fails, run, bottom}
use Rattle.hare_automaton.proofs.Unambiguous.Places.{tokens_have_one_tree}
use Rattle.hare_prefixes.specs.Viable.{has_trees}
use Rattle.hare_prefixes.proofs.Outcomes.Breaks.{trees_sort}
use Rattle.hare_prefixes.proofs.FirstFault.Faults.{runs_fault, runs_fault_in_trees, runs_read_fronts}
use Rattle.hare_prefixes.proofs.Joining.Places.{cut}
use Rattle.hare_prefixes.proofs.Joining.Joined.{head}
use Rattle.hare_prefixes.proofs.Completion.Viable.{end}
use Rattle.hare_nesting.specs.Depth.{closed}
use Rattle.hare_recogniser.specs.Limits.{IsFirstDepth, TreesFit}
use Rattle.hare_ll_table.specs.Places.{IsPlace}
use Rattle.hare_tree.proofs.Low.Fitting.{fits_tree}
use Rattle.hare_ll_table.proofs.SeenTokens.Places.{and_false, drop_to}
use Rattle.hare_parse.proofs.ClosedRun.Onward.{done_behind}
use Rattle.hare_parse.specs.Answers.{IsRead, IsBroken, HasFault, fault_up_to}
use Rattle.hare_parse.proofs.ClosedRun.Placed.{place_dropped}

-- ---- lists with End behind them

front_closed : (ts : List Token) (n : ℕ) → n ≤ length ts → take n (closed ts) ≡ take n ts
front_closed ts n h = take-append-le n ts (end ∷ []) h

-- the longest front that begins a tree is the same, as it ends in front of End at the latest
run_closed : (s : Sort) (ts : List Token) (n : ℕ) → n ≤ length ts → IsSyntaxFault (trees_of s) (closed ts) n → IsRun (trees_of s) ts n
run_closed s ts n h f =
    record {
      within = h;
      viable = subst (λ y. IsViable (trees_of s) y) (front_closed ts n h) f.before;
      longest = λ i v. f.ends (subst (λ y. IsViable (trees_of s) y) (sym (front_closed ts (suc n) (omega (arith, i)))) v);
    }

abbrev top_kids : List Group → List Node
top_kids [] = []
top_kids (g ∷ gs) = g.kids

same_added : (a b : Node) → add a bottom ≡ add b bottom → a ≡ b
same_added a b e = let k : a ∷ [] ≡ b ∷ [] = ap top_kids e in cc

-- ---- trees

pub done_is_read : (s : Sort) → has_trees s ≡ true → (file : ℕ) (ts us : List Token) (tree : Node) (n : ℕ) →
    run file (joined (closed ts)) (of s ∷ []) bottom ≡ Done us (add tree bottom) → StandsAt (closed ts) n us → n ≤ length ts →
    ((m : ℕ) → IsDepthFault (trees_of s) ts m → ⊥) → TreesFit s ts → IsRead s file ts tree n
done_is_read s c file ts us tree n e q h d fit =
    let b = done_behind file (joined (closed ts)) us (of s ∷ []) bottom (add tree bottom) e in
    let q' : StandsAt (closed ts) n (b.0 ∷ b.1) = subst (λ y. StandsAt (closed ts) n y) b.2 q in
    let r = runs_read_fronts s c file (closed ts) n b.0 b.1 (add tree bottom) (e ∙ ap (λ y. Done y (add tree bottom)) b.2) q' in
    let i : r.tree ≡ tree = same_added r.tree tree (sym r.is_made) in
    let front = front_closed ts n h in
    let shaped : is_shaped s tree ≡ true = subst (λ t. is_shaped s t ≡ true) i r.shaped in
    let spelled : Spells (spell 0 tree) (take n ts) =
    subst (λ t. Spells (spell 0 t) (take n ts)) i (subst (λ y. Spells (spell 0 r.tree) y) front r.spelled) in
    let placed : HasPlaces file (joined (take n ts)) 0 tree =
    subst (λ t. HasPlaces file (joined (take n ts)) 0 t) i (subst (λ y. HasPlaces file (joined y) 0 r.tree) front r.placed) in
    let t : IsTreeOf s file (take n ts) tree =
    record { fits = fits_tree s tree shaped (fit file us tree e); spelled = spelled; placed = placed } in
    record {
      run = run_closed s ts n h r.ends;
      read = t;
      only = λ other o. tokens_have_one_tree s (trees_sort s c) file (take n ts) other
          tree o t;
      shallow = d;
    }

-- ---- faults

-- the joined tokens from a place in front of the last End on are at least one
pub some_behind : (ts us : List Token) (n : ℕ) → StandsAt (closed ts) n us → n ≤ length ts → (t : Token) × (rest : List Token) ×
    (us ≡ t ∷ rest)
some_behind ts us n q h =
    let c = cut (closed ts) n (omega (arith, h, length-append ts (end ∷ []))) in
    let k = head c.first c.behind in
    (k.first, k.rest, q.behind ∙ ap joined c.rest ∙ k.is)

pub stuck_is_broken : (s : Sort) → has_trees s ≡ true → (file : ℕ) (ts us : List Token) (n : ℕ) →
    run file (joined (closed ts)) (of s ∷ []) bottom ≡ Fails us → StandsAt (closed ts) n us → n ≤ length ts →
    ((m : ℕ) → IsDepthFault (trees_of s) ts m → ⊥) → IsBroken s ts n
stuck_is_broken s c file ts us n e q h d =
    let b = some_behind ts us n q h in
    let q' : StandsAt (closed ts) n (b.0 ∷ b.1) = subst (λ y. StandsAt (closed ts) n y) b.2 q in
    let e' : run file (joined (closed ts)) (of s ∷ []) bottom ≡ Fails (b.0 ∷ b.1) = e ∙ ap Fails b.2 in
    record {
      run = run_closed s ts n h (runs_fault s c file (closed ts) n b.0 b.1 e' q');
      no_tree = λ tree a i. runs_fault_in_trees s c file (closed ts) n b.0 b.1 e' q' tree a
          (subst (λ y. Spells (spell 0 tree) y) (sym (front_closed ts n h)) i);
      shallow = d;
    }

-- ---- places, with End behind the list

-- the tokens behind a front begin with a string where they do without End
same_begin : (a : Bool) (us : List Token) → (a && begins_with_string us) ≡ false → (a && begins_with_string (closed us)) ≡ false
same_begin a [] e = and_false a
same_begin a (t ∷ us) e = e

stands_closed : (xs ys : List Token) (k : ℕ) → k ≤ length xs → ys ≡ drop k xs → StandsAt xs k (joined ys) →
    StandsAt (closed xs) k (joined (closed ys))
stands_closed xs ys k h e s =
    let d : drop k (closed xs) ≡ closed (drop k xs) = drop-append-le k xs (end ∷ []) h in
    record {
      behind = ap (λ y. joined (closed y)) e ∙ ap joined (sym d);
      apart = rw (front_closed xs k h, d) (same_begin (ends_in_string (take k xs)) (drop k xs) s.apart);
    }

-- a place of a list stands there too
pub place_closed : (ts : List Token) (at n : ℕ) → at < length ts → IsPlace ts at n →
    StandsAt (closed (drop at ts)) (n - at) (joined (closed (drop n ts))) × (n - at ≤ length (drop at ts))
place_closed ts at n h p =
    let w : n ≤ length ts = by p.within in
    let l : n - at ≤ length (drop at ts) = rw (length-drop at ts) (omega (arith, w)) in
    (stands_closed (drop at ts) (drop n ts) (n - at) l (sym (drop_to ts at n p.behind)) p.stands, l)
  where
    by : (n ≡ at) ⊎ (n ≤ length ts) → n ≤ length ts
    by (inl e) = omega (arith, e, h)
    by (inr i) = i

-- ---- answers

-- the fault with a number at a place of the list, as the list from `at` on has it
fault_dropped : (ts : List Token) (at number n : ℕ) → at < length ts → at ≤ n →
    fault_up_to ts number n ≡ fault_up_to (drop at ts) number (n - at)
fault_dropped ts at number n h i = ap (λ p. record { number = number; place = p }) (sym (place_dropped ts at n h i))

pub told_is_fault : (s : Sort) (ts : List Token) (at n : ℕ) (f : fault.Fault) → at < length ts →
    IsFirstDepth (trees_of s) (drop at ts) at (Some n) → f ≡ fault_up_to ts 9 n → HasFault s (drop at ts) f
told_is_fault s ts at n f h d e = (n - at, inl (e ∙ fault_dropped ts at 9 n h d.0, record { passed = d.1; first = d.2 }))

pub stuck_is_fault : (s : Sort) → has_trees s ≡ true → (file : ℕ) (ts : List Token) (at n : ℕ) (f : fault.Fault) → at < length ts →
    run file (joined (closed (drop at ts))) (of s ∷ []) bottom ≡ Fails (joined (closed (drop n ts))) → IsPlace ts at n →
    ((m : ℕ) → IsDepthFault (trees_of s) (drop at ts) m → ⊥) → f ≡ fault_up_to ts 8 n → HasFault s (drop at ts) f
stuck_is_fault s c file ts at n f h e p d i =
    let q = place_closed ts at n h p in (
      n - at,
      inr (
        i ∙ fault_dropped ts at 8 n h p.behind,
        stuck_is_broken s c file (drop at ts) (joined (closed (drop n ts))) (n - at) e q.0
            q.1 d,
      ),
    )

pub done_is_parsed : (s : Sort) → has_trees s ≡ true → (file : ℕ) (ts : List Token) (at n : ℕ) (tree : Node) → at < length ts →
    run file (joined (closed (drop at ts))) (of s ∷ []) bottom ≡ Done (joined (closed (drop n ts))) (add tree bottom) → IsPlace ts at n →
    ((m : ℕ) → IsDepthFault (trees_of s) (drop at ts) m → ⊥) → TreesFit s (drop at ts) → (at ≤ n) × IsRead s file (drop at ts) tree (n - at)
done_is_parsed s c file ts at n tree h e p d fit =
    let q = place_closed ts at n h p in
    (p.behind, done_is_read s c file (drop at ts) (joined (closed (drop n ts))) tree (n - at) e q.0 q.1 d fit)
