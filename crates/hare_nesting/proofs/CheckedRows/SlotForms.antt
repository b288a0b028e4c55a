-- The check of rows is closed under what rows are made by.
use Rattle.std.proofs.Common.{◌≡◌, ℕ, List, [], ◌∷◌, ◌++◌, Bool, true, false, ◌&&◌, ◌||◌, refl, ap, sym, ◌∙◌, subst, if◌then◌else◌}
use Rattle.std.proofs.Common.{append_assoc}
use Rattle.std.specs.List.{list_all}
use Rattle.hare_tree.specs.declared.form.Sign.{Sign}
use Rattle.hare_automaton.specs.declared.class.Class.{Class}
use Rattle.hare_automaton.specs.declared.rule.Rule.TheVariants as ru
use Rattle.hare_automaton.specs.declared.rule.Symbol.{Symbol}
use Rattle.hare_automaton.specs.declared.rule.Symbol.TheVariants as sy
use Rattle.hare_automaton.specs.declared.rule.Change.{Change}
use Rattle.hare_automaton.specs.declared.rule.Change.TheVariants as ch
use Rattle.hare_automaton.specs.Rows.{Row, Fault, Skips, Uses, before, led_by, or_skips, has_sign, at_sign}
use Rattle.hare_automaton.proofs.Spelled.Paths.{split}
use Rattle.hare_prefixes.proofs.Outcomes.Breaks.{both}
use Rattle.hare_nesting.specs.Gauge.{nodes_of_symbol, nodes_in}
use Rattle.hare_nesting.proofs.UnderWay.Stacks.{may_follow, follows}
use Rattle.hare_nesting.proofs.CheckedRows.Slots.{undone, all_undone, is_quiet, is_loud, is_still, tame, is_put, ends_in, is_plain}
use Rattle.hare_nesting.proofs.CheckedRows.Slots.{is_plain_first, is_twice, is_begun, is_begun_behind, is_named, made_for, hands_on}
use Rattle.hare_nesting.proofs.CheckedRows.Slots.{prepared, same_bools, uses_ok, row_ok, ends_stack, ends_row}

-- ---- equal lists

pub same_equal : (bs os : List Bool) → same_bools bs os ≡ true → bs ≡ os
same_equal [] [] e = refl
same_equal [] (o ∷ os) e = cc
same_equal (true ∷ bs) [] e = cc
same_equal (false ∷ bs) [] e = cc
same_equal (true ∷ bs) (true ∷ os) e = ap (λ l. true ∷ l) (same_equal bs os e)
same_equal (true ∷ bs) (false ∷ os) e = cc
same_equal (false ∷ bs) (true ∷ os) e = cc
same_equal (false ∷ bs) (false ∷ os) e = ap (λ l. false ∷ l) (same_equal bs os e)

pub same_refl : (bs : List Bool) → same_bools bs bs ≡ true
same_refl [] = refl
same_refl (true ∷ bs) = same_refl bs
same_refl (false ∷ bs) = same_refl bs

-- ---- symbols one above the other

pub nodes_append : (rs ss : List Symbol) → nodes_in (rs ++ ss) ≡ nodes_in rs ++ nodes_in ss
unfolding nodes_in
nodes_append [] ss = refl
nodes_append (s ∷ rs) ss = ap (λ l. nodes_of_symbol s ++ l) (nodes_append rs ss) ∙ sym
    (append_assoc (nodes_of_symbol s) (nodes_in rs) (nodes_in ss))

-- a plain symbol stands behind any
pub plain_follows : (s d : Symbol) → is_plain d ≡ true → may_follow s d ≡ true
plain_follows s (sy.Part (ru.Climb l h)) e = cc
plain_follows s (sy.Part (ru.BehindComma r)) e = cc
plain_follows s (sy.Part ru.BehindElementComma) e = cc
plain_follows s (sy.Part ru.AfterUseName) e = cc
plain_follows s (sy.Part ru.PathName) e = cc
plain_follows s (sy.Part (ru.Own o)) e = cc
plain_follows s (sy.Part ru.PathOrStruct) e = cc
plain_follows s (sy.Part ru.AfterForName) e = cc
plain_follows s _ e = refl

-- the symbol may stand behind the last of the list
abbrev pub joins : List Symbol → Symbol → Bool
joins [] d = true
joins (s ∷ []) d = may_follow s d
joins (s ∷ r ∷ ss) d = joins (r ∷ ss) d

pub joins_plain : (rs : List Symbol) (d : Symbol) → is_plain d ≡ true → joins rs d ≡ true
joins_plain [] d e = refl
joins_plain (s ∷ []) d e = plain_follows s d e
joins_plain (s ∷ r ∷ rs) d e = joins_plain (r ∷ rs) d e

pub joins_climb : (cs : List Change) (rs : List Symbol) (l h : ℕ) → ends_stack cs rs ≡ true → joins rs (sy.Part (ru.Climb l h)) ≡ true
joins_climb cs [] l h e = refl
joins_climb cs (s ∷ []) l h e = e
joins_climb cs (s ∷ r ∷ rs) l h e = joins_climb cs (r ∷ rs) l h e

pub follows_append : (rs : List Symbol) (d : Symbol) (ss : List Symbol) → follows rs ≡ true → joins rs d ≡ true → follows (d ∷ ss) ≡ true →
    follows (rs ++ d ∷ ss) ≡ true
unfolding follows
follows_append [] d ss a j b = b
follows_append (s ∷ []) d ss a j b = both (may_follow s d) (follows (d ∷ ss)) j b
follows_append (s ∷ r ∷ rs) d ss a j b =
    let p = split (may_follow s r) (follows (r ∷ rs)) a in
    both (may_follow s r) (follows (r ∷ (rs ++ d ∷ ss))) p.0 (follows_append (r ∷ rs) d ss p.1 j b)

plain_made : (cs : List Change) (d : Symbol) → is_plain d ≡ true → made_for cs d ≡ true
plain_made cs (sy.Part (ru.Climb l h)) e = cc
plain_made cs (sy.Part (ru.BehindComma r)) e = cc
plain_made cs (sy.Part ru.BehindElementComma) e = cc
plain_made cs (sy.Part ru.AfterUseName) e = cc
plain_made cs (sy.Part ru.PathOrStruct) e = cc
plain_made cs (sy.Part ru.AfterForName) e = cc
plain_made cs _ e = refl

pub plain_hands : (d : Symbol) → is_plain d ≡ true → hands_on d ≡ false
plain_hands (sy.Part ru.PathName) e = cc
plain_hands (sy.Part (ru.Own o)) e = cc
plain_hands _ e = refl

prepared_append : (cs : List Change) (s : Symbol) (rs ss : List Symbol) → prepared cs (s ∷ rs) ≡ true → prepared cs (s ∷ (rs ++ ss)) ≡ true
prepared_append cs s (r ∷ rs) ss e = e
prepared_append cs s [] [] e = e
prepared_append cs s [] (d ∷ ss) e = by (hands_on s) e
  where
    by : (b : Bool) → (if b then false else made_for cs s) ≡ true → (if b then made_for cs d else made_for cs s) ≡ true
    by true i = cc
    by false i = i

prepared_plain : (cs : List Change) (ss : List Symbol) → is_plain_first ss ≡ true → prepared cs ss ≡ true
prepared_plain cs [] e = refl
prepared_plain cs (s ∷ []) e = rw (plain_hands s e, plain_made cs s e) refl
prepared_plain cs (s ∷ d ∷ ss) e = rw (plain_hands s e, plain_made cs s e) refl

-- ---- changes, with more trees under way

-- changes of texts undo nothing
pub still_undone : (cs : List Change) (bs : List Bool) → list_all is_still cs ≡ true → all_undone cs bs ≡ bs
still_undone [] bs e = refl
still_undone (ch.Take ∷ cs) bs e = still_undone cs bs e
still_undone (ch.Join ∷ cs) bs e = still_undone cs bs e
still_undone (c ∷ cs) bs e = cc

quiet_append : (c : Change) (bs os : List Bool) → is_quiet c bs ≡ true → (is_quiet c (bs ++ os) ≡ true) ×
    (undone c (bs ++ os) ≡ undone c bs ++ os)
quiet_append ch.Absent bs os e = (refl, refl)
quiet_append (ch.Mark k) bs os e = (e, refl)
quiet_append (ch.Leaf k) bs os e = (e, refl)
quiet_append ch.Open [] os e = cc
quiet_append ch.Open (b ∷ bs) os e = (e, refl)
quiet_append ch.Take bs os e = (refl, refl)
quiet_append ch.Join bs os e = (refl, refl)
quiet_append (ch.Close k) bs os e = (refl, refl)
quiet_append _ bs os e = cc

loud_append : (c : Change) (bs os : List Bool) → is_loud c bs ≡ true → (is_loud c (bs ++ os) ≡ true) ×
    (is_quiet c (bs ++ os) ≡ is_quiet c bs) × (undone c (bs ++ os) ≡ undone c bs ++ os)
loud_append (ch.Mark k) bs os e = (refl, refl, refl)
loud_append (ch.Leaf k) bs os e = (refl, refl, refl)
loud_append ch.Open [] os e = cc
loud_append ch.Open (b ∷ bs) os e = (refl, refl, refl)
loud_append _ bs os e = cc

-- tame changes look at no trees but those that they make, and leave the others
pub tame_append : (cs : List Change) (bs os : List Bool) → tame cs bs ≡ true → (tame cs (bs ++ os) ≡ true) ×
    (all_undone cs (bs ++ os) ≡ all_undone cs bs ++ os)
tame_append [] bs os e = (refl, refl)
tame_append (c ∷ cs) bs os e = by (is_quiet c (all_undone cs bs)) refl e (λ i. tame_append cs bs os i)
  where
    by : (b : Bool) → is_quiet c (all_undone cs bs) ≡ b →
        (if b then tame cs bs else is_loud c (all_undone cs bs) && list_all is_still cs) ≡ true →
        (tame cs bs ≡ true → (tame cs (bs ++ os) ≡ true) × (all_undone cs (bs ++ os) ≡ all_undone cs bs ++ os)) →
        (tame (c ∷ cs) (bs ++ os) ≡ true) × (all_undone (c ∷ cs) (bs ++ os) ≡ all_undone (c ∷ cs) bs ++ os)
    by true q i k =
        let r = k i in
        let p = quiet_append c (all_undone cs bs) os q in
        (rw (r.1, p.0, r.0) refl, rw (r.1, p.1) refl)
    by false q i k =
        let s = split (is_loud c (all_undone cs bs)) (list_all is_still cs) i in
        let u = still_undone cs (bs ++ os) s.1 in
        let v = still_undone cs bs s.1 in
        let p = loud_append c bs os (subst (λ l. is_loud c l ≡ true) v s.0) in
        let n : is_quiet c bs ≡ false = subst (λ l. is_quiet c l ≡ false) v q in
        (rw (u, p.1, n, p.0, s.1) refl, rw (u, v, p.2) refl)

-- ---- rows

pub uses_before : (r : Row) (d : Symbol) (ss : List Symbol) → uses_ok [] r ≡ true → is_plain d ≡ true → follows (d ∷ ss) ≡ true →
    uses_ok (nodes_in (d ∷ ss)) (before r (d ∷ ss)) ≡ true
uses_before Fault d ss a b c = refl
uses_before (Skips cs) d ss a b c = cc
uses_before (Uses cs rs) d ss a b c =
    let p = split (tame cs (nodes_in rs) && same_bools (all_undone cs (nodes_in rs)) []) (follows rs && prepared cs rs) a in
    let q = split (tame cs (nodes_in rs)) (same_bools (all_undone cs (nodes_in rs)) []) p.0 in
    let r = split (follows rs) (prepared cs rs) p.1 in
    let t = tame_append cs (nodes_in rs) (nodes_in (d ∷ ss)) q.0 in
    rw (
      nodes_append rs (d ∷ ss),
      t.0,
      t.1,
      same_equal (all_undone cs (nodes_in rs)) [] q.1,
      same_refl (nodes_in (d ∷ ss)),
      follows_append
          rs d ss r.0 (joins_plain rs d b) c,
      head rs r.1,
    ) refl
  where
    head : (rs : List Symbol) → prepared cs rs ≡ true → prepared cs (rs ++ d ∷ ss) ≡ true
    head [] e = prepared_plain cs (d ∷ ss) b
    head (s ∷ rs) e = prepared_append cs s rs (d ∷ ss) e

-- the same of symbols of which the first is plain
pub uses_behind : (r : Row) (ss : List Symbol) → uses_ok [] r ≡ true → is_plain_first ss ≡ true → follows ss ≡ true →
    uses_ok (nodes_in ss) (before r ss) ≡ true
uses_behind r [] a b c = cc
uses_behind r (d ∷ ss) a b c = uses_before r d ss a b c

-- ---- changes in front of a row

or_right : (a b : Bool) → b ≡ true → (a || b) ≡ true
or_right true b e = refl
or_right false b e = e

made_led : (d : Change) (cs : List Change) (s : Symbol) → made_for cs s ≡ true → made_for (d ∷ cs) s ≡ true
made_led d cs (sy.Part (ru.Climb l h)) e = or_right (is_put (d ∷ cs)) (ends_in is_put cs) e
made_led d cs (sy.Part ru.PathOrStruct) e = or_right (is_twice (d ∷ cs)) (ends_in is_twice cs) e
made_led d cs (sy.Part (ru.BehindComma s)) e = or_right (is_begun (d ∷ cs)) (ends_in is_begun cs) e
made_led d cs (sy.Part ru.BehindElementComma) e = or_right (is_begun_behind (d ∷ cs)) (ends_in is_begun_behind cs) e
made_led d cs (sy.Part ru.AfterForName) e = or_right (is_begun (d ∷ cs)) (ends_in is_begun cs) e
made_led d cs (sy.Part ru.AfterUseName) e = or_right (is_named (d ∷ cs)) (ends_in is_named cs) e
made_led d cs _ e = refl

prepared_led : (d : Change) (cs : List Change) (ss : List Symbol) → prepared cs ss ≡ true → prepared (d ∷ cs) ss ≡ true
prepared_led d cs [] e = refl
prepared_led d cs (s ∷ []) e = by (hands_on s) e
  where
    by : (b : Bool) → (if b then false else made_for cs s) ≡ true → (if b then false else made_for (d ∷ cs) s) ≡ true
    by true i = i
    by false i = made_led d cs s i
prepared_led d cs (s ∷ r ∷ ss) e = by (hands_on s) e
  where
    by : (b : Bool) → (if b then made_for cs r else made_for cs s) ≡ true → (if b then made_for (d ∷ cs) r else made_for (d ∷ cs) s) ≡ true
    by true i = made_led d cs r i
    by false i = made_led d cs s i

pub uses_led : (d : Change) (os bs : List Bool) (r : Row) → undone d os ≡ bs → is_quiet d os ≡ true → uses_ok os r ≡ true →
    uses_ok bs (led_by (d ∷ []) r) ≡ true
uses_led d os bs Fault u q a = refl
uses_led d os bs (Skips cs) u q a = cc
uses_led d os bs (Uses cs ss) u q a =
    let p = split (tame cs (nodes_in ss) && same_bools (all_undone cs (nodes_in ss)) os) (follows ss && prepared cs ss) a in
    let t = split (tame cs (nodes_in ss)) (same_bools (all_undone cs (nodes_in ss)) os) p.0 in
    let f = split (follows ss) (prepared cs ss) p.1 in
    rw (same_equal (all_undone cs (nodes_in ss)) os t.1, q, t.0, u, same_refl bs, f.0, prepared_led d cs ss f.1) refl

-- ---- rows that may be over

pub uses_row : (os : List Bool) (r : Row) → uses_ok os r ≡ true → row_ok os r ≡ true
uses_row os Fault a = refl
uses_row os (Skips cs) a = cc
uses_row os (Uses cs ss) a = a

pub or_ok : (os : List Bool) (r : Row) (ds : List Change) → uses_ok os r ≡ true → row_ok os (Skips ds) ≡ true →
    row_ok os (or_skips r ds) ≡ true
or_ok os Fault ds a b = b
or_ok os (Skips cs) ds a b = b
or_ok os (Uses cs ss) ds a b = a

pub at_ok : (os : List Bool) (a : Sign) (c : Class) (cs ds : List Change) (ss : List Symbol) → uses_ok os (Uses cs ss) ≡ true →
    row_ok os (Skips ds) ≡ true → row_ok os (at_sign a c (Uses cs ss) (Skips ds)) ≡ true
at_ok os a c cs ds ss u s = by (has_sign a c)
  where
    by : (b : Bool) → row_ok os (if b then Uses cs ss else Skips ds) ≡ true
    by true = u
    by false = s

-- ---- rows that leave an operand

-- what binds operators behind it
pub uses_climb : (r : Row) (l h : ℕ) → uses_ok [] r ≡ true → ends_row r ≡ true → uses_ok [] (before r (sy.Part (ru.Climb l h) ∷ [])) ≡ true
unfolding nodes_in follows
uses_climb Fault l h a e = refl
uses_climb (Skips cs) l h a e = cc
uses_climb (Uses cs rs) l h a e =
    let d : Symbol = sy.Part (ru.Climb l h) in
    let p = split (tame cs (nodes_in rs) && same_bools (all_undone cs (nodes_in rs)) []) (follows rs && prepared cs rs) a in
    let q = split (tame cs (nodes_in rs)) (same_bools (all_undone cs (nodes_in rs)) []) p.0 in
    let r = split (follows rs) (prepared cs rs) p.1 in
    let t = tame_append cs (nodes_in rs) [] q.0 in
    rw (
      nodes_append rs (d ∷ []),
      t.0,
      t.1,
      same_equal (all_undone cs (nodes_in rs)) [] q.1,
      follows_append rs d [] r.0
          (joins_climb cs rs l h e) refl,
      head rs r.1 e,
    ) refl
  where
    head : (rs : List Symbol) → prepared cs rs ≡ true → ends_stack cs rs ≡ true → prepared cs (rs ++ sy.Part (ru.Climb l h) ∷ []) ≡ true
    head [] i j = j
    head (s ∷ rs) i j = prepared_append cs s rs (sy.Part (ru.Climb l h) ∷ []) i

pub ends_append : (cs : List Change) (rs : List Symbol) (d : Symbol) (ss : List Symbol) →
    ends_stack cs (rs ++ d ∷ ss) ≡ ends_stack cs (d ∷ ss)
ends_append cs [] d ss = refl
ends_append cs (s ∷ []) d ss = refl
ends_append cs (s ∷ r ∷ rs) d ss = ends_append cs (r ∷ rs) d ss

ends_any : (cs ds : List Change) (d : Symbol) (ss : List Symbol) → ends_stack cs (d ∷ ss) ≡ ends_stack ds (d ∷ ss)
ends_any cs ds d [] = refl
ends_any cs ds d (s ∷ ss) = ends_any cs ds s ss

pub ends_before : (os : List Bool) (r : Row) (d : Symbol) (ss : List Symbol) → uses_ok os r ≡ true → ends_stack [] (d ∷ ss) ≡ true →
    ends_row (before r (d ∷ ss)) ≡ true
ends_before os Fault d ss a e = refl
ends_before os (Skips cs) d ss a e = cc
ends_before os (Uses cs rs) d ss a e = ends_append cs rs d ss ∙ ends_any cs [] d ss ∙ e
