-- One step of the engine, as an equation each.
use Rattle.std.proofs.Common.{◌≡◌, ℕ, List, [], ◌∷◌, ◌++◌, refl, ap, ◌∙◌}
use denote.Enum.Bare.{true_same}
use Rattle.hare_tree.specs.contracts.form.Sign.{the_type}
use Rattle.hare_tree.specs.declared.kind.Kind.{Kind}
use Rattle.hare_tree.specs.declared.kind.Kind.TheVariants as ki
use Rattle.hare_tree.specs.declared.token.Token.{Token}
use Rattle.hare_tree.specs.declared.form.Sign.{Sign}
use Rattle.hare_tree.specs.Spell.{start_of}
use Rattle.hare_automaton.specs.declared.class.Class.{Class}
use Rattle.hare_automaton.specs.declared.class.Class.TheVariants as cl
use Rattle.hare_automaton.specs.declared.rule.Rule.{Rule}
use Rattle.hare_automaton.specs.declared.rule.Symbol.{Symbol}
use Rattle.hare_automaton.specs.declared.rule.Symbol.TheVariants as sy
use Rattle.hare_automaton.specs.declared.rule.Change.{Change}
use Rattle.hare_automaton.specs.declared.rule.Change.TheVariants as ch
use Rattle.hare_automaton.specs.Classes.{class_of}
use Rattle.hare_automaton.specs.Rows.{Row, Fault, Skips, Uses, part}
use Rattle.hare_automaton.specs.Table.{row}
use Rattle.hare_automaton.specs.Engine.{Group, add, close, bare_leaf, changed, all_changed, Goes, wanted, acted, step, Done, Fails, after, run}

-- the class of the token that comes next
abbrev pub front : List Token → Class
front [] = cl.Junk
front (t ∷ w) = class_of t

pub run_close : (f : ℕ) (w : List Token) (k : Kind) (st : List Symbol) (gs : List Group) →
    run f w (sy.Close k ∷ st) gs ≡ run f w st (close k gs)
unfolding run step
run_close f [] k st gs = refl
run_close f (t ∷ w) k st gs = refl

pub run_row : (f : ℕ) (t : Token) (w : List Token) (n : Rule) (st : List Symbol) (gs : List Group) (r : Row) → row n (class_of t) ≡ r →
    run f (t ∷ w) (part n ∷ st) gs ≡ after (acted r f t st gs (λ hs. step f t (class_of t) st hs)) t w (λ st' gs'. run f w st' gs')
unfolding run step
run_row f t w n st gs r e = ap (λ z. after (acted z f t st gs (λ hs. step f t (class_of t) st hs)) t w (λ st' gs'. run f w st' gs')) e

-- the token is used
pub run_uses : (f : ℕ) (t : Token) (w : List Token) (n : Rule) (st : List Symbol) (gs : List Group) (cs : List Change) (ss : List Symbol) →
    row n (class_of t) ≡ Uses cs ss → run f (t ∷ w) (part n ∷ st) gs ≡ run f w (ss ++ st) (all_changed f t cs gs)
run_uses f t w n st gs cs ss e = run_row f t w n st gs (Uses cs ss) e

-- the rule is over
pub run_skips : (f : ℕ) (t : Token) (w : List Token) (n : Rule) (st : List Symbol) (gs : List Group) (cs : List Change) →
    row n (class_of t) ≡ Skips cs → run f (t ∷ w) (part n ∷ st) gs ≡ run f (t ∷ w) st (all_changed f t cs gs)
unfolding run
run_skips f t w n st gs cs e = run_row f t w n st gs (Skips cs) e

pub run_skip : (f : ℕ) (w : List Token) (n : Rule) (st : List Symbol) (gs : List Group) → row n (front w) ≡ Skips [] →
    run f w (part n ∷ st) gs ≡ run f w st gs
unfolding run
run_skip f [] n st gs e = refl
run_skip f (t ∷ w) n st gs e = run_skips f t w n st gs [] e

pub run_absent : (f : ℕ) (w : List Token) (n : Rule) (st : List Symbol) (gs : List Group) → row n (front w) ≡ Skips (ch.Absent ∷ []) →
    run f w (part n ∷ st) gs ≡ run f w st (add (bare_leaf ki.None (start_of f)) gs)
unfolding run
run_absent f [] n st gs e = refl
run_absent f (t ∷ w) n st gs e = run_skips f t w n st gs (ch.Absent ∷ []) e

pub run_ends : (f : ℕ) (w : List Token) (n : Rule) (k : Kind) (st : List Symbol) (gs : List Group) →
    row n (front w) ≡ Skips (ch.Close k ∷ []) → run f w (part n ∷ st) gs ≡ run f w st (close k gs)
unfolding run
run_ends f [] n k st gs e = refl
run_ends f (t ∷ w) n k st gs e = run_skips f t w n st gs (ch.Close k ∷ []) e

-- a rule that cannot stand there
pub run_faults : (f : ℕ) (t : Token) (w : List Token) (n : Rule) (st : List Symbol) (gs : List Group) → row n (class_of t) ≡ Fault →
    run f (t ∷ w) (part n ∷ st) gs ≡ Fails (t ∷ w)
run_faults f t w n st gs e = run_row f t w n st gs Fault e

pub run_done : (f : ℕ) (t : Token) (w : List Token) (gs : List Group) → run f (t ∷ w) [] gs ≡ Done (t ∷ w) gs
unfolding run step
run_done f t w gs = refl

-- a sign that is waited for
pub run_want : (f : ℕ) (t : Token) (w : List Token) (s : Sign) (st : List Symbol) (gs : List Group) → class_of t ≡ cl.Sign s →
    run f (t ∷ w) (sy.Want s ∷ st) gs ≡ run f w st gs
unfolding run step
run_want f t w s st gs e = rw e (ap (λ b. after (wanted b (Goes st gs)) t w (λ st' gs'. run f w st' gs')) (true_same the_type s s refl))

pub run_groups : (f : ℕ) (w : List Token) (st : List Symbol) (gs gs' : List Group) → gs ≡ gs' → run f w st gs ≡ run f w st gs'
run_groups f w st gs gs' e = ap (λ x. run f w st x) e

-- changes side by side
pub all_changed-append : (f : ℕ) (t : Token) (cs ds : List Change) (gs : List Group) →
    all_changed f t (cs ++ ds) gs ≡ all_changed f t ds (all_changed f t cs gs)
all_changed-append f t [] ds gs = refl
all_changed-append f t (c ∷ cs) ds gs = all_changed-append f t cs ds (changed f t c gs)

-- the same with changes that do not look at the token
pub run_changes : (f : ℕ) (w : List Token) (n : Rule) (st : List Symbol) (gs hs : List Group) (cs : List Change) →
    row n (front w) ≡ Skips cs → ((t : Token) → all_changed f t cs gs ≡ hs) → run f w (part n ∷ st) gs ≡ run f w st hs
unfolding run
run_changes f [] n st gs hs cs e h = refl
run_changes f (t ∷ w) n st gs hs cs e h = run_skips f t w n st gs cs e ∙ ap (λ x. run f (t ∷ w) st x) (h t)
