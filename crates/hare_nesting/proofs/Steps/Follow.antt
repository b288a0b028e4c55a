-- What stands behind a symbol that hands on nothing, and behind what its row puts in its place.
use Rattle.std.proofs.Common.{◌≡◌, ℕ, List, [], ◌∷◌, ◌++◌, true, false, ◌⊎◌, inl, inr, refl, ap, sym, ◌∙◌, subst}
use Rattle.std.proofs.lemmas.List.{append-nil}
use Rattle.hare_automaton.specs.declared.rule.Rule.TheVariants as ru
use Rattle.hare_automaton.specs.declared.rule.Symbol.{Symbol}
use Rattle.hare_automaton.specs.declared.rule.Symbol.TheVariants as sy
use Rattle.hare_automaton.specs.declared.rule.Change.{Change}
use Rattle.hare_automaton.proofs.Spelled.Paths.{split}
use Rattle.hare_nesting.specs.Marks.{Frame}
use Rattle.hare_nesting.proofs.UnderWay.Stacks.{ready_frames, ready, ends_operand, may_follow, follows}
use Rattle.hare_nesting.proofs.CheckedRows.Slots.{is_plain, hands_on, ends_stack}
use Rattle.hare_nesting.proofs.CheckedRows.SlotForms.{plain_hands, joins, joins_plain, joins_climb, follows_append}
use Rattle.hare_nesting.proofs.Steps.Ready.{operand_on_top, operand_ready, ready_first, ready_second}

-- operators stand behind the symbol, which ends an operand
pub record TakesOperand (s d : Symbol) : Type 0 where
  pub low : ℕ
  pub high : ℕ
  pub is : d ≡ sy.Part (ru.Climb low high)
  pub ends : ends_operand s ≡ true

path_behind : (s : Symbol) → hands_on s ≡ false → may_follow s (sy.Part ru.PathOrStruct) ≡ false
path_behind (sy.Part ru.PathName) e = cc
path_behind s e = refl

name_behind : (s : Symbol) → hands_on s ≡ false → may_follow s (sy.Part ru.AfterForName) ≡ false
name_behind (sy.Part (ru.Own o)) e = cc
name_behind s e = refl

pub next_plain : (s d : Symbol) → hands_on s ≡ false → may_follow s d ≡ true → (is_plain d ≡ true) ⊎ TakesOperand s d
next_plain s (sy.Part (ru.Climb l h)) p e = inr (record { low = l; high = h; is = refl; ends = e })
next_plain s (sy.Part (ru.BehindComma r)) p e = cc
next_plain s (sy.Part ru.BehindElementComma) p e = cc
next_plain s (sy.Part ru.AfterUseName) p e = cc
next_plain s (sy.Part ru.PathName) p e = cc
next_plain s (sy.Part (ru.Own o)) p e = cc
next_plain s (sy.Part ru.PathOrStruct) p e = let a = path_behind s p in cc
next_plain s (sy.Part ru.AfterForName) p e = let a = name_behind s p in cc
next_plain s _ p e = inl refl

plain_ready : (d : Symbol) (st : List Symbol) (fs : List Frame) → is_plain d ≡ true → ready (d ∷ st) fs ≡ true
plain_ready d st fs e = ready_first d st fs (plain_hands d e) ∙ by d e
  where
    by : (d : Symbol) → is_plain d ≡ true → ready_frames d fs ≡ true
    by (sy.Part (ru.Climb l h)) e = cc
    by (sy.Part (ru.BehindComma r)) e = cc
    by (sy.Part ru.BehindElementComma) e = cc
    by (sy.Part ru.AfterUseName) e = cc
    by (sy.Part ru.PathOrStruct) e = cc
    by (sy.Part ru.AfterForName) e = cc
    by _ e = refl

-- what stands behind is ready where the symbol has left an operand, if it ends one
pub ready_next : (s : Symbol) (st : List Symbol) (fs : List Frame) → hands_on s ≡ false → follows (s ∷ st) ≡ true →
    (ends_operand s ≡ true → operand_on_top fs ≡ true) → ready st fs ≡ true
unfolding follows
ready_next s [] fs p e o = refl
ready_next s (d ∷ st) fs p e o = by (next_plain s d p (split (may_follow s d) (follows (d ∷ st)) e).0)
  where
    by : (is_plain d ≡ true) ⊎ TakesOperand s d → ready (d ∷ st) fs ≡ true
    by (inl i) = plain_ready d st fs i
    by (inr t) = subst (λ x. ready (x ∷ st) fs ≡ true) (sym t.is) (operand_ready t.low t.high fs (o t.ends))

pub follows_tail : (s : Symbol) (st : List Symbol) → follows (s ∷ st) ≡ true → follows st ≡ true
unfolding follows
follows_tail s [] e = refl
follows_tail s (d ∷ st) e = (split (may_follow s d) (follows (d ∷ st)) e).1

-- the symbols of a row stand in front of what stands behind its rule
pub follows_next : (s : Symbol) (cs : List Change) (ss st : List Symbol) → hands_on s ≡ false → follows (s ∷ st) ≡ true →
    follows ss ≡ true → (ends_operand s ≡ true → ends_stack cs ss ≡ true) → follows (ss ++ st) ≡ true
unfolding follows
follows_next s cs ss [] p e f o = ap follows (append-nil ss) ∙ f
follows_next s cs ss (d ∷ st) p e f o =
    let q = split (may_follow s d) (follows (d ∷ st)) e in
    follows_append ss d st f (by (next_plain s d p q.0)) q.1
  where
    by : (is_plain d ≡ true) ⊎ TakesOperand s d → joins ss d ≡ true
    by (inl i) = joins_plain ss d i
    by (inr t) = subst (λ x. joins ss x ≡ true) (sym t.is) (joins_climb cs ss t.low t.high (o t.ends))

-- ---- behind a rule that hands on

hands_nothing : (s d : Symbol) → may_follow s d ≡ true → hands_on d ≡ false
hands_nothing s (sy.Part ru.PathName) e = cc
hands_nothing s (sy.Part (ru.Own o)) e = cc
hands_nothing s _ e = refl

-- what it hands on is there where it is over
pub ready_handed : (s : Symbol) (st : List Symbol) (fs : List Frame) → hands_on s ≡ true → follows (s ∷ st) ≡ true →
    ready (s ∷ st) fs ≡ true → ready st fs ≡ true
unfolding follows
ready_handed s [] fs p e r = refl
ready_handed s (d ∷ st) fs p e r = ready_first d st fs (hands_nothing s d (split (may_follow s d) (follows (d ∷ st)) e).0) ∙ sym
    (ready_second s d st fs p) ∙ r
