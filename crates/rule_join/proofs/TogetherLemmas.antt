-- The values that come together in a node, as they are listed and as the table has them.
use Rattle.std.proofs.Common.{◌≡◌, ℕ, suc, Bool, true, false, not, ◌&&◌, cond, nat_lt, List, [], ◌∷◌, ◌++◌, length, Option, Some, None, refl, ap, sym, ◌∙◌, arith, append-nil, map, drop}
use Rattle.std.specs.Prelude.{find, option_map, is_none}
use Rattle.std.specs.Option.{option_or}
use Rattle.std.proofs.lemmas.Bool.{lt-ltb}
use Rattle.hare_tree.specs.declared.place.Place.{Place}
use Rattle.hare_types.specs.declared.row.Scalar.TheVariants as keyword
use Rattle.hare_types.specs.Store.{Store}
use Rattle.hare_typed.specs.Typed.{TypedNode}
use Rattle.hare_typed.specs.Order.{tree_from_front}
use Rattle.hare_rules.specs.declared.hint.Hint.TheVariants as hint
use Rattle.hare_rules.specs.declared.judged.Yielded.{Yielded}
use Rattle.hare_rules.specs.Words.{is_never, has_default, default_in, fits, word_id}
use Rattle.hare_rules.specs.Context.{Context, Given, is_there}
use Rattle.hare_rules.specs.Control.{is_open, end_of, end_behind}
use Rattle.hare_rules.specs.Joined as table
use Rattle.hare_rules.specs.Joined.{given_by, void_at, void_fits, goes_on, given_fits, is_end, default_of_first, first_lacking, first_misfit, joined}
use Rattle.hare_rules.specs.Judged.{givens_from}
use Rattle.rule_judge.specs.declared.turn.Turn.{Turn}
use Rattle.rule_judge.specs.Turns.{context_in}
use Rattle.rule_join.specs.declared.values.Source.{Source}
use Rattle.rule_join.specs.declared.values.Source.TheVariants as source
use Rattle.rule_join.specs.Together.{together, handed, listed_in, ends, going, place_in, place_told, without_default, if_lacking, end_misfit, lacking, misfit, two_branches}

-- ---- one by one

abbrev told_as : Option ℕ → Yielded → Given
told_as n y = record { place = y.place; ty = Some y.ty; node = n }

-- the values but the end, and what is told of them
abbrev Alike : List Given → List Yielded → Type 0
Alike [] [] = Unit {0}
Alike [] (y ∷ ys) = ⊥
Alike (g ∷ gs) [] = ⊥
Alike (g ∷ gs) (y ∷ ys) = (g ≡ told_as g.node y) × Alike gs ys

alike_yields : (n : ℕ) (ys : List Yielded) → Alike (givens_from n ys) ys
alike_yields n [] = tt
alike_yields n (y ∷ ys) = (refl, alike_yields (suc n) ys)

alike_branches : (b : Bool) (xs : List TypedNode) →
    Alike (cond b (given_by (tree_from_front 1 xs) ∷ given_by (tree_from_front 2 xs) ∷ []) []) (two_branches b xs)
alike_branches true xs = (refl, (refl, tt))
alike_branches false xs = tt

alike_cases : (xs : List TypedNode) → Alike (map given_by xs) (map handed xs)
alike_cases [] = tt
alike_cases (x ∷ xs) = (refl, alike_cases xs)

record IsListed (vs : List Given) (ys : List Yielded) (b : Bool) (p : Place) : Type 0 where
  values : List Given
  like : Alike values ys
  all : vs ≡ values ++ end_of b p

end_counts : (c : Context) (vs : List Given) → end_behind c vs ≡ end_of (nat_lt 0 (length vs) && is_open c) c.head.place
end_counts c [] = refl
end_counts c (v ∷ vs) = ap (λ b. end_of (b && is_open c) c.head.place) (sym (lt-ltb 0 (suc (length vs)) (omega arith)))

is_listed : (f : Store) (v : Source) (t : Turn) →
    IsListed (together v (context_in f t)) (listed_in v t) (ends v (context_in f t)) (context_in f t).head.place
is_listed f source.Branches t =
    let vs = together source.Branches (context_in f t) in
    record { values = vs; like = alike_branches (is_there (tree_from_front 2 t.kids.now)) t.kids.now; all = sym (append-nil vs) }
is_listed f source.Yields t =
    let c = context_in f t in
    record { values = c.yields; like = alike_yields 0 t.case.now.yields; all = ap (λ ws. c.yields ++ ws) (end_counts c c.yields) }
is_listed f source.Cases t =
    let vs = together source.Cases (context_in f t) in
    record { values = vs; like = alike_cases (drop 1 t.kids.now); all = sym (append-nil vs) }

-- ---- the first that goes on

abbrev default_from : Store → Option Yielded → Option ℕ → Option ℕ
default_from f None o = o
default_from f (Some y) o = default_in f y.ty

default_found : (f : Store) (gs : List Given) (ys : List Yielded) → Alike gs ys → (rest : List Given)
    → default_of_first f (find (goes_on f) (gs ++ rest)) ≡ default_from f (going f ys) (default_of_first f (find (goes_on f) rest))
default_found f [] [] l rest = refl
default_found f [] (y ∷ ys) l rest = absurd l
default_found f (g ∷ gs) [] l rest = absurd l
default_found f (g ∷ gs) (y ∷ ys) l rest =
    ap (λ h. default_of_first f (find (goes_on f) (h ∷ (gs ++ rest)))) l.0 ∙ by (default_found f gs ys l.1 rest) (is_never f y.ty)
  where
    by : default_of_first f (find (goes_on f) (gs ++ rest)) ≡ default_from f (going f ys) (default_of_first f (find (goes_on f) rest)) →
        (b : Bool)
        → default_of_first f (cond (not b) (Some (told_as g.node y)) (find (goes_on f) (gs ++ rest)))
        ≡ default_from f (cond (not b) (Some y) (going f ys)) (default_of_first f (find (goes_on f) rest))
    by ih true = ih
    by ih false = refl

end_default : (f : Store) (p : Place) (b : Bool) →
    default_of_first f (find (goes_on f) (end_of b p)) ≡ word_id f (cond b keyword.Void keyword.Never)
end_default f p true = refl
end_default f p false = refl

lacking_found : (f : Store) (p : Place) (b : Bool) (gs : List Given) (ys : List Yielded) → Alike gs ys
    → option_map place_in (table.without_default (find (goes_on f) (gs ++ end_of b p))) ≡
    option_map place_told (without_default (going f ys))
lacking_found f p true [] [] l = refl
lacking_found f p false [] [] l = refl
lacking_found f p b [] (y ∷ ys) l = absurd l
lacking_found f p b (g ∷ gs) [] l = absurd l
lacking_found f p b (g ∷ gs) (y ∷ ys) l =
    ap (λ h. option_map place_in (table.without_default (find (goes_on f) (h ∷ (gs ++ end_of b p))))) l.0 ∙ by
    (lacking_found f p b gs ys l.1) (is_never f y.ty)
  where
    at : (d : Bool) → option_map place_in (table.if_lacking d (told_as g.node y)) ≡ option_map place_told (if_lacking d y)
    at true = refl
    at false = refl

    by : option_map place_in (table.without_default (find (goes_on f) (gs ++ end_of b p))) ≡
        option_map place_told (without_default (going f ys)) → (n : Bool)
        → option_map place_in (table.without_default (cond (not n) (Some (told_as g.node y)) (find (goes_on f) (gs ++ end_of b p))))
        ≡ option_map place_told (without_default (cond (not n) (Some y) (going f ys)))
    by ih true = ih
    by ih false = at (has_default y.ty)

-- ---- the first that does not fit

end_at : (f : Store) (to : ℕ) (p : Place) (b d : Bool) →
    option_map place_in (cond (not d) (Some (void_at p)) None) ≡ cond (true && not d) (Some p) None
end_at f to p b true = refl
end_at f to p b false = refl

misfit_found : (f : Store) (to : ℕ) (p : Place) (b : Bool) (gs : List Given) (ys : List Yielded) → Alike gs ys
    → option_map place_in (find (λ g. not (given_fits f to g)) (gs ++ end_of b p))
    ≡ option_or (option_map place_told (find (λ y. not (fits f y.ty to)) ys)) (cond (b && not (void_fits f to)) (Some p) None)
misfit_found f to p true [] [] l = end_at f to p true (void_fits f to)
misfit_found f to p false [] [] l = refl
misfit_found f to p b [] (y ∷ ys) l = absurd l
misfit_found f to p b (g ∷ gs) [] l = absurd l
misfit_found f to p b (g ∷ gs) (y ∷ ys) l =
    ap (λ h. option_map place_in (find (λ k. not (given_fits f to k)) (h ∷ (gs ++ end_of b p)))) l.0 ∙ by (misfit_found f to p b gs ys l.1)
    (fits f y.ty to)
  where
    by : option_map place_in (find (λ h. not (given_fits f to h)) (gs ++ end_of b p))
        ≡ option_or (option_map place_told (find (λ z. not (fits f z.ty to)) ys)) (cond (b && not (void_fits f to)) (Some p) None)
        → (d : Bool)
        → option_map place_in (cond (not d) (Some (told_as g.node y)) (find (λ h. not (given_fits f to h)) (gs ++ end_of b p)))
        ≡ option_or (option_map place_told (cond (not d) (Some y) (find (λ z. not (fits f z.ty to)) ys)))
        (cond (b && not (void_fits f to)) (Some p) None)
    by ih true = ih
    by ih false = refl

-- of the values the end alone has no type
end_found : (b : Bool) (p : Place) (gs : List Given) (ys : List Yielded) → Alike gs ys →
    find is_end (gs ++ end_of b p) ≡ find is_end (end_of b p)
end_found b p [] ys l = refl
end_found b p (g ∷ gs) [] l = absurd l
end_found b p (g ∷ gs) (y ∷ ys) l = ap (λ h. find is_end (h ∷ (gs ++ end_of b p))) l.0 ∙ end_found b p gs ys l.1

end_alone : (p : Place) (b d : Bool) → option_map place_in (table.unless d (find is_end (end_of b p))) ≡ cond (b && not d) (Some p) None
end_alone p true true = refl
end_alone p true false = refl
end_alone p false true = refl
end_alone p false false = refl

-- ---- of a node

module _ (f : Store) (v : Source) (t : Turn) where
  abbrev c : Context
  c = context_in f t

  abbrev ys : List Yielded
  ys = listed_in v t

  parts : IsListed (together v c) ys (ends v c) c.head.place
  parts = is_listed f v t

  free : joined f hint.None (together v c) ≡ default_from f (going f ys) (word_id f (cond (ends v c) keyword.Void keyword.Never))
  free =
      ap (joined f hint.None) parts.all ∙ default_found f parts.values ys parts.like (end_of (ends v c) c.head.place)
      ∙ ap (default_from f (going f ys)) (end_default f c.head.place (ends v c))

  free_lacking : option_map place_in (first_lacking f hint.None (together v c)) ≡ option_map place_told (without_default (going f ys))
  free_lacking =
      ap (λ vs. option_map place_in (first_lacking f hint.None vs)) parts.all ∙ lacking_found f c.head.place (ends v c) parts.values ys
      parts.like

  pub joined_some : (y : Yielded) (o : Option ℕ) → Some y ≡ going f ys → o ≡ default_in f y.ty → o ≡ joined f hint.None (together v c)
  joined_some y o e h = h ∙ sym (free ∙ ap (λ q. default_from f q (word_id f (cond (ends v c) keyword.Void keyword.Never))) (sym e))

  pub joined_none : (u : ℕ) → None ≡ going f ys → word_id f (cond (ends v c) keyword.Void keyword.Never) ≡ Some u →
      Some u ≡ joined f hint.None (together v c)
  joined_none u e h = sym (free ∙ ap (λ q. default_from f q (word_id f (cond (ends v c) keyword.Void keyword.Never))) (sym e) ∙ h)

  mapped : (o : Option Given) → is_none (option_map place_in o) ≡ is_none o
  mapped None = refl
  mapped (Some g) = refl

  lacks : (y : Yielded) (d : Bool) → is_none (option_map place_told (if_lacking d y)) ≡ d
  lacks y true = refl
  lacks y false = refl

  none_lacking : (q : Option Yielded) → q ≡ going f ys →
      is_none (first_lacking f hint.None (together v c)) ≡ is_none (option_map place_told (without_default q))
  none_lacking q e =
      sym (mapped (first_lacking f hint.None (together v c))) ∙ ap is_none
      (free_lacking ∙ ap (λ z. option_map place_told (without_default z)) (sym e))

  -- where the first that goes on has a default there is a type
  pub there_some : (y : Yielded) (b : Bool) → Some y ≡ going f ys → b ≡ has_default y.ty →
      b ≡ is_none (first_lacking f hint.None (together v c))
  there_some y b e h = h ∙ sym (none_lacking (Some y) e ∙ lacks y (has_default y.ty))

  pub there_none : None ≡ going f ys → true ≡ is_none (first_lacking f hint.None (together v c))
  there_none e = sym (none_lacking None e)

  pub lacking_free : (o : Option Yielded) (r : Option Place) → t.case.now.hint ≡ hint.None → o ≡ going f ys →
      r ≡ option_map place_told (without_default o) → r ≡ lacking v c
  lacking_free o r h e k =
      k ∙ ap (λ q. option_map place_told (without_default q)) e ∙ sym free_lacking
      ∙ ap (λ g. option_map place_in (first_lacking f g (together v c))) (sym h)

  -- a value that was found first, or else the end
  pub misfit_listed : (to : ℕ) (p : Place) → Some p ≡ option_map place_told (find (λ y. not (fits f y.ty to)) ys)
      → Some p ≡ option_map place_in (find (λ g. not (given_fits f to g)) (together v c))
  misfit_listed to p e =
      sym (ap (λ vs. option_map place_in (find (λ g. not (given_fits f to g)) vs)) parts.all ∙ misfit_found f to c.head.place (ends v c)
      parts.values ys parts.like
      ∙ ap (λ o. option_or o (end_misfit v c to)) (sym e))

  pub misfit_end : (to : ℕ) (o : Option Place) → None ≡ option_map place_told (find (λ y. not (fits f y.ty to)) ys) → o ≡ end_misfit v c to
      → o ≡ option_map place_in (find (λ g. not (given_fits f to g)) (together v c))
  misfit_end to o e h =
      h ∙ sym (ap (λ vs. option_map place_in (find (λ g. not (given_fits f to g)) vs)) parts.all ∙ misfit_found f to c.head.place (ends v c)
      parts.values ys parts.like
      ∙ ap (λ q. option_or q (end_misfit v c to)) (sym e))

  -- under a hint of a type
  pub misfit_hinted : (to : ℕ) (o : Option Place) → t.case.now.hint ≡ hint.Of to → o ≡ end_misfit v c to → o ≡ misfit v c
  misfit_hinted to o h e =
      e ∙ sym (ap (λ g. option_map place_in (first_misfit f g (together v c))) h
      ∙ ap (λ vs. option_map place_in (table.unless (void_fits f to) (find is_end vs))) parts.all
      ∙ ap (λ q. option_map place_in (table.unless (void_fits f to) q)) (end_found (ends v c) c.head.place parts.values ys parts.like)
      ∙ end_alone c.head.place (ends v c) (void_fits f to))

  pub misfit_dropped : t.case.now.hint ≡ hint.Drop → None ≡ misfit v c
  misfit_dropped h = sym (ap (λ g. option_map place_in (first_misfit f g (together v c))) h)

  -- under none, by the type that all are joined to
  pub misfit_joined : (to : ℕ) (o : Option Place) → Some to ≡ joined f hint.None (together v c) →
      o ≡ option_map place_in (find (λ g. not (given_fits f to g)) (together v c))
      → o ≡ option_map place_in (first_misfit f hint.None (together v c))
  misfit_joined to o e h = h ∙ ap (λ q. option_map place_in (table.misfit_to f q (together v c))) e

  pub misfit_unjoined : None ≡ joined f hint.None (together v c) → None ≡ option_map place_in (first_misfit f hint.None (together v c))
  misfit_unjoined e = ap (λ q. option_map place_in (table.misfit_to f q (together v c))) e
