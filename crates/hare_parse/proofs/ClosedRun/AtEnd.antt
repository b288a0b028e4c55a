-- What comes of End behind the tokens of a list.
use Rattle.std.proofs.Common.{◌≡◌, ℕ, ◌<◌, ◌≤◌, List, [], ◌∷◌, ◌++◌, Bool, true, false, ◌&&◌, drop, length, refl, ap, sym, ◌∙◌, subst}
use Rattle.std.proofs.lemmas.List.{drop_all}
use Rattle.hare_tree.specs.declared.token.Token.{Token}
use Rattle.hare_automaton.specs.declared.class.Class.{Class}
use Rattle.hare_automaton.specs.declared.class.Class.TheVariants as cl
use Rattle.hare_automaton.specs.declared.rule.Symbol.{Symbol}
use Rattle.hare_automaton.specs.Classes.{class_of}
use Rattle.hare_automaton.specs.Engine.{Group, Step, Goes, Ends, Stuck, step, Outcome, Done, Fails, after, run, bottom}
use Rattle.hare_tree.specs.Grammar.{joined, ends_in_string}
use Rattle.hare_prefixes.proofs.Joining.Places.{cut}
use Rattle.hare_prefixes.proofs.Joining.Joined.{head, joined_append}
use Rattle.hare_prefixes.proofs.Completion.Viable.{end}
use Rattle.hare_nesting.proofs.Telling.Claims.{seen_step}
use Rattle.hare_nesting.proofs.UnderWay.Stacks.{frames}
use Rattle.hare_nesting.proofs.UnderWay.SeenSteps.{steps_are_seen}
use Rattle.hare_nesting.proofs.OverFiles.Unused.{step_unused}
use Rattle.hare_ll_table.specs.declared.answer.Answer.{Answer}
use Rattle.hare_ll_table.specs.declared.answer.Answer.TheVariants as an
use Rattle.hare_parse.specs.Steps.{Says}
use Rattle.hare_parse.specs.declared.run.Reached.{Reached}
use Rattle.hare_parse.specs.declared.run.Reached.TheVariants as re
use Rattle.hare_nesting.specs.Depth.{closed}
use Rattle.hare_parse.specs.Runs.{outcome_at_end, IsUsedUp}
use Rattle.hare_parse.proofs.ClosedRun.Onward.{done_behind, done_more, fails_more}

-- the outcome of a run that stops there
abbrev pub outcome_at : Bool → List Token → List Group → Outcome
outcome_at true us gs = Done (joined us) gs
outcome_at false us gs = Fails (joined us)

no_string : (b : Bool) → (b && false) ≡ false
no_string true = refl
no_string false = refl

-- End stands by itself behind joined tokens
pub joined_closed : (ts : List Token) → joined (closed ts) ≡ joined ts ++ closed []
joined_closed ts = joined_append ts (end ∷ []) (no_string (ends_in_string ts))

-- no step uses End
end_unused : (f : ℕ) (st st' : List Symbol) (gs gs' : List Group) → step f end cl.Junk st gs ≡ Goes st' gs' → ⊥
end_unused f st st' gs gs' e = step_unused end.place.line st st' (frames gs) (frames gs')
    (steps_are_seen f end cl.Junk st gs ∙ ap seen_step e)

-- whether the answer is that nothing is waited for
abbrev pub is_ends : Answer → Bool
is_ends an.Ends = true
is_ends _ = false

pub at_end : (f : ℕ) (st : List Symbol) (gs : List Group) (a : Answer) (st' : List Symbol) (gs' : List Group) →
    Says (step f end (class_of end) st gs) a st' gs' → run f (closed []) st gs ≡ outcome_at_end (is_ends a) gs'
unfolding run
at_end f st gs a st' gs' s = by (step f end (class_of end) st gs) refl s
  where
    by : (z : Step) → step f end (class_of end) st gs ≡ z → Says z a st' gs' →
        after z end [] (λ b c. run f [] b c) ≡ outcome_at_end (is_ends a) gs'
    by (Goes b c) e i = absurd (end_unused f st b gs c e)
    by (Ends c) e i = rw (i.0, i.1) refl
    by Stuck e i = rw i refl

-- what a step at End says, where the token, its class and the answer are told by equations
pub says_at : (f : ℕ) (t : Token) (c : Class) (st : List Symbol) (gs : List Group) (a b : Answer) (st' : List Symbol) (gs' : List Group) →
    t ≡ end → c ≡ class_of t → a ≡ b → Says (step f t c st gs) a st' gs' → Says (step f end (class_of end) st gs) b st' gs'
says_at f t c st gs a b st' gs' e k i s =
    let x : Says (step f t c st gs) b st' gs' = subst (λ y. Says (step f t c st gs) y st' gs') i s in
    let y : Says (step f t (class_of t) st gs) b st' gs' = subst (λ z. Says (step f t z st gs) b st' gs') k x in
    subst (λ z. Says (step f z (class_of z) st gs) b st' gs') e y

-- ---- runs up to a place of a list, and End behind it

-- what is left where the list is used up
past : (ts : List Token) (n : ℕ) → length ts ≤ n → drop n ts ≡ []
past ts n h = drop_all n ts h

-- the tokens from a place within the list on are some
pub some_left : (ts : List Token) (n : ℕ) → n < length ts → (t : Token) × (rest : List Token) × (joined (drop n ts) ≡ t ∷ rest)
some_left ts n h =
    let c = cut ts n h in
    let k = head c.first c.behind in
    (k.first, k.rest, ap joined c.rest ∙ k.is)

-- a run that is done at a token of the list
pub done_closed : (f : ℕ) (ts : List Token) (n : ℕ) (us : List Token) (st : List Symbol) (made : List Group) →
    run f (joined us) st bottom ≡ Done (joined (drop n ts)) made →
    run f (joined (closed us)) st bottom ≡ Done (joined (closed (drop n ts))) made
done_closed f ts n us st made e =
    let b = done_behind f (joined us) (joined (drop n ts)) st bottom made e in
    let d = done_more f (joined us) (closed []) st bottom b.0 b.1 made (e ∙ ap (λ y. Done y made) b.2) in
    ap (λ y. run f y st bottom) (joined_closed us) ∙ d ∙ ap (λ y. Done (y ++ closed []) made) (sym b.2) ∙ ap (λ y. Done y made)
    (sym (joined_closed (drop n ts)))

-- a run that fails at a token of the list
pub fails_closed : (f : ℕ) (ts : List Token) (n : ℕ) (us : List Token) (st : List Symbol) → n < length ts →
    run f (joined us) st bottom ≡ Fails (joined (drop n ts)) → run f (joined (closed us)) st bottom ≡ Fails (joined (closed (drop n ts)))
fails_closed f ts n us st h e =
    let b = some_left ts n h in
    let d = fails_more f (joined us) (closed []) st bottom b.0 b.1 (e ∙ ap Fails b.2) in
    ap (λ y. run f y st bottom) (joined_closed us) ∙ d ∙ ap (λ y. Fails (y ++ closed [])) (sym b.2) ∙ ap Fails
    (sym (joined_closed (drop n ts)))

-- a run that has used up the list
pub used_closed : (f : ℕ) (ts : List Token) (n : ℕ) (us : List Token) (st st' : List Symbol) (gs : List Group) (ends : Bool)
    (made : List Group) → length ts ≤ n → run f (joined us ++ closed []) st bottom ≡ run f (closed []) st' gs →
    run f (closed []) st' gs ≡ outcome_at_end ends made → run f (joined (closed us)) st bottom ≡ outcome_at ends (closed (drop n ts)) made
used_closed f ts n us st st' gs ends made h e a =
    ap (λ y. run f y st bottom) (joined_closed us) ∙ e ∙ a ∙ by ends ∙ ap (λ y. outcome_at ends (closed y) made) (sym (past ts n h))
  where
    by : (b : Bool) → outcome_at_end b made ≡ outcome_at b (closed []) made
    by true = refl
    by false = refl

pub is_used_up : (r : Reached) (n : ℕ) (ts : List Token) → r ≡ re.Stuck n → length ts ≤ n → IsUsedUp r ts
is_used_up r n ts e h = rw e h
