-- Values that may go to labels.
use Rattle.std.proofs.Common.{◌≡◌, ◌⊎◌, ℕ, zero, suc, Bool, true, false, not, cond, List, [], ◌∷◌, ◌++◌, map, take, length, Option, Some, None, refl, ap, sym, ◌∙◌, subst, inl, inr, arith}
use Rattle.std.specs.Prelude.{◌==◌, ◌≢◌, filter, find, slice_get, is_none, IsSome}
use Rattle.std.proofs.lemmas.List.{map-append}
use Rattle.std.proofs.lemmas.Bool.Decides.{eqb_tells}
use Rattle.std.proofs.lemmas.Option.{slice_get_within}
use Rattle.hare_types.specs.declared.coercion.Ty.{Ty}
use Rattle.hare_types.specs.Store.{Store}
use Rattle.hare_types.specs.Later.{IsLater}
use Rattle.hare_types.proofs.ListLemmas.{slice_get_front, slice_get_end, slice_get_push}
use Rattle.hare_rules.specs.declared.hint.Hint.{Hint}
use Rattle.hare_rules.specs.declared.hint.Hint.TheVariants as hint
use Rattle.hare_rules.specs.Context.{Open, Given}
use Rattle.hare_rules.specs.Control.{is_loop}
use Rattle.hare_rules.specs.Joined.{void_fits, is_end}
use Rattle.hare_rules.specs.Above.{outside}
use Rattle.hare_rules.specs.Flow.{Yielded, is_at}
use Rattle.hare_check.specs.Fits.{IsVoidTaken, IsOpenTo, AreOpenTo}
use Rattle.hare_check.specs.Spotted.{Way, way_of, ways}

-- ---- ways

same-at : (ls ms : List Open) (i : ℕ) (l : Open) → ways ls ≡ ways ms → slice_get ls i ≡ Some l →
    (m : Open) × (slice_get ms i ≡ Some m) × (way_of m ≡ way_of l)
same-at [] ms i l e g = cc
same-at (u ∷ us) [] i l e g = cc
same-at (u ∷ us) (v ∷ vs) zero l e g =
    let p : way_of u ≡ way_of v = cc in
    let q : u ≡ l = cc in
    (v, refl, sym p ∙ ap way_of q)
same-at (u ∷ us) (v ∷ vs) (suc i) l e g =
    let rest : ways us ≡ ways vs = cc in
    same-at us vs i l rest g

-- where a value may go is said by the ways of the labels
pub open-ways : (s : Store) (ls ms : List Open) (y : Yielded) → ways ls ≡ ways ms → IsOpenTo s ls y → IsOpenTo s ms y
open-ways s ls ms y e o =
    let m = same-at ls ms y.level o.label e o.at in
    record {
      label = m.0;
      at = m.1;
      takes = ap (λ (w : Way). is_loop w.target) m.2 ∙ o.takes;
      void = subst (λ (h : Hint). IsVoidTaken s h y.given) (sym (ap (λ (w : Way). w.hint) m.2)) o.void;
    }

pub each_open-ways : (s : Store) (ls ms : List Open) (ys : List Yielded) → ways ls ≡ ways ms → AreOpenTo s ls ys → AreOpenTo s ms ys
each_open-ways s ls ms [] e o = tt
each_open-ways s ls ms (y ∷ ys) e o = (open-ways s ls ms y e o.0, each_open-ways s ls ms ys e o.1)

pub ways-last : (ls : List Open) (l m : Open) → way_of l ≡ way_of m → ways (ls ++ l ∷ []) ≡ ways (ls ++ m ∷ [])
ways-last ls l m e = map-append way_of ls (l ∷ []) ∙ ap (λ w. ways ls ++ w ∷ []) e ∙ sym (map-append way_of ls (m ∷ []))

pub ways-outside : (ls : List Open) → ways (map outside ls) ≡ ways ls
ways-outside [] = refl
ways-outside (l ∷ ls) = ap (λ ws. way_of l ∷ ws) (ways-outside ls)

-- ---- one label more

open-more : (s : Store) (ls ms : List Open) (y : Yielded) → IsOpenTo s ls y → IsOpenTo s (ls ++ ms) y
open-more s ls ms y o =
    record {
      label = o.label;
      at = slice_get_front ls ms y.level (slice_get_within ls y.level o.label o.at) ∙ o.at;
      takes = o.takes;
      void = o.void;
    }

pub each_open-more : (s : Store) (ls ms : List Open) (ys : List Yielded) → AreOpenTo s ls ys → AreOpenTo s (ls ++ ms) ys
each_open-more s ls ms [] o = tt
each_open-more s ls ms (y ∷ ys) o = (open-more s ls ms y o.0, each_open-more s ls ms ys o.1)

-- what does not go to the last label
open-less : (s : Store) (ls : List Open) (l : Open) (y : Yielded) → (y.level ≡ length ls → ⊥) → IsOpenTo s (ls ++ l ∷ []) y →
    IsOpenTo s ls y
open-less s ls l y k o = by_place (slice_get_push ls l y.level o.label o.at) where
  by_place : (slice_get ls y.level ≡ Some o.label) ⊎ ((y.level ≡ length ls) × (o.label ≡ l)) → IsOpenTo s ls y
  by_place (inl e) = record { label = o.label; at = e; takes = o.takes; void = o.void }
  by_place (inr e) = absurd (k e.0)

-- of which loop it is, nothing goes to it
loop-level : (s : Store) (ls : List Open) (l : Open) (y : Yielded) → is_loop l.target ≡ true → IsOpenTo s (ls ++ l ∷ []) y →
    y.level ≡ length ls → ⊥
loop-level s ls l y e o k =
    let p : Some l ≡ Some o.label = sym (slice_get_end ls l []) ∙ ap (slice_get (ls ++ l ∷ [])) (sym k) ∙ o.at in
    let q : l ≡ o.label = cc in
    let r : true ≡ false = sym e ∙ ap (λ (x : Open). is_loop x.target) q ∙ o.takes in
    cc

pub each_open-loop : (s : Store) (ls : List Open) (l : Open) (ys : List Yielded) → is_loop l.target ≡ true → AreOpenTo s (ls ++ l ∷ []) ys →
    AreOpenTo s ls ys
each_open-loop s ls l [] e o = tt
each_open-loop s ls l (y ∷ ys) e o = (open-less s ls l y (loop-level s ls l y e o.0) o.0, each_open-loop s ls l ys e o.1)

-- ---- what is taken away

-- what may go to labels goes to none behind them
pub open-level : (s : Store) (ls : List Open) (y : Yielded) → IsOpenTo s ls y → is_at (length ls) y ≡ false
open-level s ls y o = by_place (eqb_tells y.level (length ls)) where
  by_place : ((y.level == length ls ≡ true) × (y.level ≡ length ls)) ⊎ ((y.level == length ls ≡ false) × (y.level ≢ length ls)) →
      is_at (length ls) y ≡ false
  by_place (inl e) =
      let h = slice_get_within ls y.level o.label o.at in
      let k = e.1 in
      absurd (omega (arith, h, k))
  by_place (inr e) = e.0

-- ---- what is taken away

-- what goes to none of some labels
abbrev pub is_past : List Open → Yielded → Bool
is_past ls y = not (is_at (length ls) y)

filter-by : (p : Yielded → Bool) (b : Bool) (y : Yielded) (ys : List Yielded) → p y ≡ b →
    filter p (y ∷ ys) ≡ cond b (y ∷ filter p ys) (filter p ys)
filter-by p b y ys e = ap (λ c. cond c (y ∷ filter p ys) (filter p ys)) e

pub each_open-filter : (s : Store) (ls : List Open) (p : Yielded → Bool) (ys : List Yielded) → AreOpenTo s ls ys →
    AreOpenTo s ls (filter p ys)
each_open-filter s ls p [] o = tt
each_open-filter s ls p (y ∷ ys) o = by_test (p y) (each_open-filter s ls p ys o.1) where
  by_test : (b : Bool) → AreOpenTo s ls (filter p ys) → AreOpenTo s ls (cond b (y ∷ filter p ys) (filter p ys))
  by_test true k = (o.0, k)
  by_test false k = k

-- what goes to the last label has been taken away
pub each_open-taken : (s : Store) (ls : List Open) (l : Open) (ys : List Yielded) → AreOpenTo s (ls ++ l ∷ []) ys →
    AreOpenTo s ls (filter (is_past ls) ys)
each_open-taken s ls l [] o = tt
each_open-taken s ls l (y ∷ ys) o = by_place (eqb_tells y.level (length ls)) (each_open-taken s ls l ys o.1) where
  by_place : ((y.level == length ls ≡ true) × (y.level ≡ length ls)) ⊎ ((y.level == length ls ≡ false) × (y.level ≢ length ls)) →
      AreOpenTo s ls (filter (is_past ls) ys) → AreOpenTo s ls (filter (is_past ls) (y ∷ ys))
  by_place (inl e) k = subst (AreOpenTo s ls) (sym (filter-by (is_past ls) false y ys (ap not e.0))) k
  by_place (inr e) k = subst (AreOpenTo s ls) (sym (filter-by (is_past ls) true y ys (ap not e.0))) (open-less s ls l y e.1 o.0, k)

-- the first values stay, none of which goes there
pub take-filter : (s : Store) (ls : List Open) (n : ℕ) (ys : List Yielded) → AreOpenTo s ls (take n ys) →
    take n (filter (is_past ls) ys) ≡ take n ys
take-filter s ls zero ys o = refl
take-filter s ls (suc n) [] o = refl
take-filter s ls (suc n) (y ∷ ys) o =
    ap (take (suc n)) (filter-by (is_past ls) true y ys (ap not (open-level s ls y o.0))) ∙ ap (λ zs. y ∷ zs) (take-filter s ls n ys o.1)

pub filter-open : (s : Store) (ls : List Open) (ys : List Yielded) → AreOpenTo s ls ys → filter (is_at (length ls)) ys ≡ []
filter-open s ls [] o = refl
filter-open s ls (y ∷ ys) o = filter-by (is_at (length ls)) false y ys (open-level s ls y o.0) ∙ filter-open s ls ys o.1

-- ---- more values, fewer values, later stores

pub each_open-push : (s : Store) (ls : List Open) (ys : List Yielded) (y : Yielded) → AreOpenTo s ls ys → IsOpenTo s ls y →
    AreOpenTo s ls (ys ++ y ∷ [])
each_open-push s ls [] y o k = (k, tt)
each_open-push s ls (z ∷ zs) y o k = (o.0, each_open-push s ls zs y o.1 k)

void-later : (s r : Store) (h : Hint) (g : Given) → ((f : Store) → IsLater r f → IsLater s f) → IsVoidTaken s h g → IsVoidTaken r h g
void-later s r h g k v e t i f l = v e t i f (k f l)

pub each_open-later : (s r : Store) (ls : List Open) (ys : List Yielded) → ((f : Store) → IsLater r f → IsLater s f) → AreOpenTo s ls ys →
    AreOpenTo r ls ys
each_open-later s r ls [] k o = tt
each_open-later s r ls (y ∷ ys) k o =
    let v = o.0 in
    let void = void-later s r v.label.hint y.given k v.void in
    let here : IsOpenTo r ls y = record { label = v.label; at = v.at; takes = v.takes; void = void } in
    (here, each_open-later s r ls ys k o.1)

-- ---- the void that goes to the last label

void-last : (s f : Store) (ls : List Open) (l : Open) (y : Yielded) (t : ℕ) → l.hint ≡ hint.Of t → IsLater s f →
    IsOpenTo s (ls ++ l ∷ []) y →
    y.level ≡ length ls → is_end y.given ≡ true → void_fits f t ≡ true
void-last s f ls l y t e k o p i =
    let q : Some l ≡ Some o.label = sym (slice_get_end ls l []) ∙ ap (slice_get (ls ++ l ∷ [])) (sym p) ∙ o.at in
    let r : l ≡ o.label = cc in
    o.void (none_at y.given.ty i) t (ap (λ (x : Open). x.hint) (sym r) ∙ e) f k
  where
    none_at : (o : Option Ty) → is_none o ≡ true → o ≡ None
    none_at None e = refl
    none_at (Some a) e = cc

-- where an end is among what goes to the last label, of which a type is asked, void fits that type
pub ends-last : (s f : Store) (ls : List Open) (l : Open) (ys : List Yielded) (t : ℕ) → l.hint ≡ hint.Of t → IsLater s f →
    AreOpenTo s (ls ++ l ∷ []) ys → IsSome (find is_end (map (λ y. y.given) (filter (is_at (length ls)) ys))) → void_fits f t ≡ true
ends-last s f ls l [] t e k o i = cc
ends-last s f ls l (y ∷ ys) t e k o i = by_place (eqb_tells y.level (length ls)) (ends-last s f ls l ys t e k o.1) i where
  given_of : Yielded → Given
  given_of z = z.given

  rest : List Yielded
  rest = filter (is_at (length ls)) ys

  by_end : (b : Bool) → is_end y.given ≡ b → y.level ≡ length ls → (IsSome (find is_end (map given_of rest)) → void_fits f t ≡ true) →
      IsSome (cond b (Some y.given) (find is_end (map given_of rest))) → void_fits f t ≡ true
  by_end true d p g j = void-last s f ls l y t e k o.0 p d
  by_end false d p g j = g j

  by_place : ((y.level == length ls ≡ true) × (y.level ≡ length ls)) ⊎ ((y.level == length ls ≡ false) × (y.level ≢ length ls)) →
      (IsSome (find is_end (map given_of rest)) → void_fits f t ≡ true) →
      IsSome (find is_end (map given_of (filter (is_at (length ls)) (y ∷ ys)))) → void_fits f t ≡ true
  by_place (inl d) g j =
      let m = subst (λ (zs : List Yielded). IsSome (find is_end (map given_of zs))) (filter-by (is_at (length ls)) true y ys d.0) j in
      by_end (is_end y.given) refl d.1 g m
  by_place (inr d) g j =
      g (subst (λ (zs : List Yielded). IsSome (find is_end (map given_of zs))) (filter-by (is_at (length ls)) false y ys d.0) j)
