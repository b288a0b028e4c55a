-- The turn of a declaration, by its tree and by what it says.
use Rattle.std.proofs.Common.{◌≡◌, ℕ, ◌+◌, ◌<◌, ◌≤◌, Bool, true, false, cond, not, List, [], ◌∷◌, ◌++◌, length, map, drop, filter, replicate, Option, Some, None, refl, arith, ap, sym, subst, ◌∙◌, append_assoc}
use Rattle.std.specs.Prelude.{slice_get, Contains, option_map}
use Rattle.std.specs.List.{flat_map}
use Rattle.std.proofs.lemmas.List.{append-nil, length-map}
use Rattle.std.proofs.lemmas.Option.{slice_get-map, slice_get_within}
use Rattle.std.proofs.Math.ListN.{length-set}
use Rattle.std.proofs.lemmas.Grind.{flat_map-append}
use Rattle.std.proofs.Math.Seq.{drop-append_seam}
use Rattle.hare_tree.specs.declared.place.Place.{Place}
use Rattle.hare_tree.specs.declared.token.Meaning.{Meaning}
use Rattle.hare_tree.specs.Node.{Node}
use Rattle.hare_types.specs.Unions.{ascending}
use Rattle.hare_types.proofs.MeaningsLemmas.{ids_ascend}
use Rattle.hare_rules.specs.Words.{is_among}
use Rattle.hare_modules.specs.Uses.{kid}
use Rattle.hare_modules.proofs.ListLemmas.{drop-there, drop-past}
use Rattle.hare_depends.specs.declared.said.Said.{Said}
use Rattle.hare_depends.specs.declared.said.Sort.{Sort}
use Rattle.hare_depends.specs.declared.said.Sort.TheVariants as so
use Rattle.hare_depends.specs.Sorts.{sort_of, is_global, has_value}
use Rattle.hare_depends.specs.Dependence.{is_said, is_at}
use Rattle.hare_depends.proofs.ListLemmas.{there-below, filter-from}
use Rattle.hare_depends.specs.Said.{paths_in, number_in, numbers_at, parts_by, written_by, said_of}
use Rattle.hare_whole.specs.Listing.{Listing, saids, IsDecl}
use Rattle.hare_whole.specs.Turns.{Step, Types, Done, globals_named, early, value_steps, turn, AreSteps, no_more, next}
use Rattle.hare_steps.specs.Taken.{is_judged, with_judged, named_by_value, globals_of, early_of, rest_of, turn_of, with_all_judged, Tells, TakesTurn, GoesOn}
use Rattle.hare_steps.proofs.TurnByTurn.Judged.{tells-none, tells-with, tells-middle, tells-with_all, length-with_all}

-- ---- what a value names

module _ (count : ℕ) (means : Place → Meaning) where
  numbers-append : (ps qs : List Place) → numbers_at count means (ps ++ qs) ≡ numbers_at count means ps ++ numbers_at count means qs
  numbers-append ps qs = flat_map-append (λ p. number_in count (means p)) ps qs

  behind : (ps qs : List Place) → drop (length (numbers_at count means (ps ++ []))) (numbers_at count means (ps ++ (qs ++ []))) ≡
      numbers_at count means qs
  behind ps qs =
      ap (λ l. drop (length (numbers_at count means l)) (numbers_at count means (ps ++ (qs ++ [])))) (append-nil ps)
      ∙ ap (λ l. drop (length (numbers_at count means ps)) (numbers_at count means (ps ++ l))) (append-nil qs)
      ∙ ap (drop (length (numbers_at count means ps))) (numbers-append ps qs)
      ∙ drop-append_seam (numbers_at count means ps) (numbers_at count means qs)

  behind-written : (t : Node) (s : Sort) → has_value s ≡ true
      → drop (length (numbers_at count means (flat_map paths_in (written_by s t))))
      (numbers_at count means (flat_map paths_in (parts_by s t)))
      ≡ numbers_at count means (paths_in (kid t 3))
  behind-written t so.Type e = absurd cc
  behind-written t so.Function e = absurd cc
  behind-written t so.Constant e = behind (paths_in (kid t 2)) (paths_in (kid t 3))
  behind-written t so.Global e = behind (paths_in (kid t 2)) (paths_in (kid t 3))

-- ---- turns

rest-is : (s : Sort) (n : ℕ) → rest_of (has_value s) n ≡ value_steps s n ++ Done n ∷ []
rest-is so.Type n = refl
rest-is so.Function n = refl
rest-is so.Constant n = refl
rest-is so.Global n = refl

module _ (p : Listing) (t : Node) where
  said : Said
  said = said_of (length p.decls) p.means t

  said-of : (n : ℕ) → IsDecl p n t → slice_get (saids p) n ≡ Some said
  unfolding said
  said-of n e = slice_get-map (said_of (length p.decls) p.means) p.decls n ∙ ap (option_map (said_of (length p.decls) p.means)) e

  globals-are : has_value (sort_of t) ≡ true → globals_of (saids p) said ≡ globals_named p (kid t 3)
  unfolding said
  globals-are e = ap (λ ns. ascending (filter (is_at is_global (saids p)) ns)) (behind-written (length p.decls) p.means t (sort_of t) e)

  early-is : (js : List Bool) (ns : List ℕ) → Tells js ns → early_of (saids p) js said ≡ early p ns t
  unfolding said
  early-is js ns told = by (has_value (sort_of t)) refl
    where
      by : (b : Bool) → has_value (sort_of t) ≡ b → early_of (saids p) js said ≡ early p ns t
      by false e =
          ap (λ c. cond c (filter (λ g. not (is_judged js g)) (globals_of (saids p) said)) []) e
          ∙ sym (ap (λ c. cond c (filter (λ g. not (is_among g ns)) (globals_named p (kid t 3))) []) e)
      by true e =
          ap (λ c. cond c (filter (λ g. not (is_judged js g)) (globals_of (saids p) said)) []) e
          ∙ ap (filter (λ g. not (is_judged js g))) (globals-are e)
          ∙ (λ i. filter (λ g. not (told g i)) (globals_named p (kid t 3)))
          ∙ sym (ap (λ c. cond c (filter (λ g. not (is_among g ns)) (globals_named p (kid t 3))) []) e)

  turn-is : (js : List Bool) (ns : List ℕ) (n : ℕ) → Tells js ns → n < length js → turn_of (saids p) js n said ≡ turn p ns n t
  unfolding said
  turn-is js ns n told h =
      let own = ap (λ b. cond b [] (Types n ∷ [])) (told n) in
      let types = ap (map Types) (early-is (with_judged js n) (n ∷ ns) (tells-with js ns n told h)) in
      ap (λ xs. xs ++ map Types (early_of (saids p) (with_judged js n) said) ++ rest_of (has_value (sort_of t)) n) own
      ∙ ap (λ xs. cond (is_among n ns) [] (Types n ∷ []) ++ xs ++ rest_of (has_value (sort_of t)) n) types
      ∙ ap (λ xs. cond (is_among n ns) [] (Types n ∷ []) ++ map Types (early p (n ∷ ns) t) ++ xs) (rest-is (sort_of t) n)
      ∙ sym (append_assoc (cond (is_among n ns) [] (Types n ∷ []) ++ map Types (early p (n ∷ ns) t)) (value_steps (sort_of t) n)
      (Done n ∷ []))

-- ---- what is judged early is there

global-within : (ds : List Said) (g : ℕ) → is_at is_global ds g ≡ true → g < length ds
global-within ds g e = by (slice_get ds g) refl e
  where
    by : (o : Option Said) → slice_get ds g ≡ o → is_said is_global o ≡ true → g < length ds
    by None f k = absurd cc
    by (Some s) f k = slice_get_within ds g s f

early-within : (ds : List Said) (js : List Bool) (s : Said) (g : ℕ) → Contains (early_of ds js s) g → g < length ds
early-within ds js s g c = by (has_value s.sort) c
  where
    by : (b : Bool) → Contains (cond b (filter (λ g. not (is_judged js g)) (globals_of ds s)) []) g → g < length ds
    by false k = absurd (omega (arith, k.1))
    by true k =
        let among = (filter-from (λ g. not (is_judged js g)) (globals_of ds s) g k).0 in
        let named = ((ids_ascend (filter (is_at is_global ds) (named_by_value s))).same g).0 among in
        global-within ds g (filter-from (is_at is_global ds) (named_by_value s) g named).1

-- ---- one turn after another

pub goes-begins : (p : Listing) (all : List ℕ) (n : ℕ) → GoesOn p all all (replicate n false) []
goes-begins p all n = record { judged = []; told = tells-none n; rest = λ xs h. h }

module _ (p : Listing) (all : List ℕ) (i : ℕ) (js : List Bool) (before : List Step) (g : GoesOn p all (drop i all) js before) where
  pub goes-ends : length all ≤ i → AreSteps p [] all before
  goes-ends h =
      subst (AreSteps p [] all) (append-nil before)
      (g.rest [] (subst (λ ns. AreSteps p g.judged ns []) (sym (drop-past all i h)) (no_more g.judged)))

  on : (n : ℕ) → slice_get all i ≡ Some n → n < length (saids p) → length js ≡ length (saids p) → (new : List Bool) (behind : List Step)
      → TakesTurn (saids p) n js before new behind → GoesOn p all (drop (i + 1) all) new behind
  on n e l few new behind h =
      let d = there-below p.decls n (subst (λ k. n < k) (length-map p.decls (said_of (length p.decls) p.means)) l) in
      let t = d.0 in
      let there = said-of p t n d.1 in
      let first = tells-with js g.judged n g.told (subst (λ k. n < k) (sym few) l) in
      let types = early-is p t (with_judged js n) (n ∷ g.judged) first in
      let size : length (with_judged js n) ≡ length (saids p) = length-set js n true ∙ few in
      let all-told = tells-with_all (with_judged js n) (n ∷ g.judged) (early_of (saids p) (with_judged js n) (said p t)) first
      (λ q c. subst (λ k. q < k) (sym size) (early-within (saids p) (with_judged js n) (said p t) q c)) in
      record {
        judged = n ∷ early p (n ∷ g.judged) t ++ g.judged;
        told = subst (λ bs. Tells bs (n ∷ early p (n ∷ g.judged) t ++ g.judged)) (sym (h.judged (said p t) there))
            (tells-middle (with_all_judged (with_judged js n) (early_of (saids p) (with_judged js n) (said p t))) (early p (n ∷ g.judged) t)
            g.judged n
            (subst (λ gs. Tells (with_all_judged (with_judged js n) (early_of (saids p) (with_judged js n) (said p t)))
            (gs ++ n ∷ g.judged)) types all-told));
        rest = λ xs k.
            let from = subst (λ ns. AreSteps p g.judged ns (turn p g.judged n t ++ xs)) (sym (drop-there all i n e))
            (next g.judged n t (drop (i + 1) all) xs d.1 k) in
            let steps = h.steps (said p t) there ∙ ap (λ ys. before ++ ys)
            (turn-is p t js g.judged n g.told (subst (λ k. n < k) (sym few) l)) in
            subst (AreSteps p [] all) (sym (ap (λ ys. ys ++ xs) steps ∙ append_assoc before (turn p g.judged n t) xs))
            (g.rest (turn p g.judged n t ++ xs) from);
      }

pub turn-sized : (ds : List Said) (n : ℕ) (js : List Bool) (before : List Step) (new : List Bool) (behind : List Step) → n < length ds
    → TakesTurn ds n js before new behind → length new ≡ length js
turn-sized ds n js before new behind l h =
    let s = there-below ds n l in
    ap length (h.judged s.0 s.1) ∙ length-with_all (with_judged js n) (early_of ds (with_judged js n) s.0) ∙ length-set js n true

pub said-same : (ds : List Said) (n : ℕ) (r s : Said) → slice_get ds n ≡ Some r → slice_get ds n ≡ Some s → r ≡ s
said-same ds n r s e f = let both : Some r ≡ Some s = sym e ∙ f in cc

-- the parts of a turn, one behind another
pub turn-joined : (a own types rest b c d : List Step) → b ≡ a ++ own → c ≡ b ++ types → d ≡ c ++ rest → d ≡ a ++ (own ++ types ++ rest)
turn-joined a own types rest b c d e f g =
    g ∙ ap (λ xs. xs ++ rest) (f ∙ ap (λ xs. xs ++ types) e ∙ append_assoc a own types) ∙ append_assoc a (own ++ types) rest

pub goes-next : (p : Listing) (all : List ℕ) (i : ℕ) (js : List Bool) (before : List Step) (ds : List Said) → saids p ≡ ds
    → GoesOn p all (drop i all) js before → (n : ℕ) → slice_get all i ≡ Some n → n < length ds → length js ≡ length ds →
    (new : List Bool) (behind : List Step)
    → TakesTurn ds n js before new behind → GoesOn p all (drop (i + 1) all) new behind
goes-next p all i js before ds same g n e l few new behind h =
    on p all i js before g n e (subst (λ d. n < length d) (sym same) l) (few ∙ ap length (sym same)) new behind
    (subst (λ d. TakesTurn d n js before new behind) (sym same) h)
