-- Values that are yielded without a type count as void: they come together in the same type, and fit it alike.
use Rattle.std.proofs.Common.{◌≡◌, ◌⊎◌, ℕ, suc, Bool, true, false, not, ◌||◌, List, [], ◌∷◌, ◌++◌, refl, ap, sym, ◌∙◌, inl, inr}
use Rattle.std.specs.Prelude.{find, Option, Some, None, is_some, is_none, option_map, cond, IsSome}
use Rattle.hare_tree.specs.declared.kind.Kind.{Kind}
use Rattle.hare_tree.specs.declared.kind.Kind.TheVariants as ki
use Rattle.hare_tree.specs.declared.place.Place.{Place}
use Rattle.hare_types.specs.declared.coercion.Ty.{Ty}
use Rattle.hare_types.specs.declared.coercion.Ty.TheVariants as ty
use Rattle.hare_types.specs.declared.row.Scalar.TheVariants as keyword
use Rattle.hare_types.specs.Store.{Store}
use Rattle.hare_types.specs.Assign.{first_row, type_at, Of as OfTree}
use Rattle.hare_rules.specs.declared.row_id.RowId.{RowId}
use Rattle.hare_rules.specs.declared.row_id.RowId.TheVariants as row
use Rattle.hare_rules.specs.declared.hint.Hint.{Hint}
use Rattle.hare_rules.specs.declared.hint.Hint.TheVariants as hint
use Rattle.hare_rules.specs.declared.judged.Yielded.{Yielded}
use Rattle.hare_rules.specs.Words.{is_word, typed_as}
use Rattle.hare_rules.specs.Context.{Context, Given, store_of}
use Rattle.hare_rules.specs.Joined.{void_fits, goes_on, type_goes_on, type_has_default, type_default, type_fits, given_fits, is_end, default_of_first, joined, without_default, if_lacking, first_lacking, misfit_to, first_misfit, unless}
use Rattle.hare_rules.specs.Control.{block_values, end_behind, block_type_by}
use Rattle.hare_rules.specs.Judged.{givens_from}
use Rattle.hare_rules.specs.Types.{type_by, type_of}
use Rattle.hare_rules.specs.Rows.{holds, stands, place_of_given, is_bound, type_sized, fits_hint, may_drop}
use Rattle.hare_told.specs.Told.{IsVoidOf, IsToldType, IsToldYield, AreToldYields}

-- ---- one value

-- the type itself, or void in the place of none
IsLikeType : Store → Option Ty → Option Ty → Type 0
IsLikeType s o p = (p ≡ o) ⊎ ((v : ℕ) × (o ≡ None) × (p ≡ Some (ty.Of v)) × IsVoidOf s v)

IsLike : Store → Given → Given → Type 0
IsLike s g h = (h.place ≡ g.place) × IsLikeType s g.ty h.ty

like-same : (s : Store) (g : Given) → IsLike s g g
unfolding IsLike IsLikeType
like-same s g = (refl, inl refl)

like-told : (s : Store) (g : Given) (y : Yielded) (n : ℕ) → IsToldYield s g y →
    IsLike s g (record { place = y.place; ty = Some y.ty; node = Some n })
unfolding IsLike IsLikeType
like-told s g y n h = (h.0, by_type g.ty h.1) where
  by_type : (o : Option Ty) → IsToldType s o y.ty → (Some y.ty ≡ o) ⊎ ((v : ℕ) × (o ≡ None) × (Some y.ty ≡ Some (ty.Of v)) × IsVoidOf s v)
  by_type (Some a) k = inl (ap Some k)
  by_type None (v, e, i) = inr (v, refl, ap Some e, i)

type_goes_on-like : (s : Store) (o p : Option Ty) → IsLikeType s o p → type_goes_on s p ≡ type_goes_on s o
unfolding IsLikeType
type_goes_on-like s o p (inl e) = ap (type_goes_on s) e
type_goes_on-like s o p (inr (v, e, d, i)) = rw (e, d) (ap (λ r. not (is_word keyword.Never r)) i.row)

type_has_default-like : (s : Store) (o p : Option Ty) → IsLikeType s o p → type_has_default p ≡ type_has_default o
unfolding IsLikeType
type_has_default-like s o p (inl e) = ap type_has_default e
type_has_default-like s o p (inr (v, e, d, i)) = rw (e, d) refl

type_default-like : (s : Store) (o p : Option Ty) → IsLikeType s o p → type_default s p ≡ type_default s o
unfolding IsLikeType
type_default-like s o p (inl e) = ap (type_default s) e
type_default-like s o p (inr (v, e, d, i)) = rw (e, d) (sym i.word)

is_some-map : {A B : Type 0} (f : A → B) (o : Option A) → is_some (option_map f o) ≡ is_some o
is_some-map f None = refl
is_some-map f (Some x) = refl

type_fits-like : (s : Store) (o p : Option Ty) (t : ℕ) → IsLikeType s o p → type_fits s p t ≡ type_fits s o t
unfolding IsLikeType
type_fits-like s o p t (inl e) = ap (λ x. type_fits s x t) e
type_fits-like s o p t (inr (v, e, d, i)) =
    rw (e, d) (is_some-map _ (first_row s (OfTree (type_at s v)) (type_at s t))
    ∙ ap (λ u. is_some (first_row s (OfTree u) (type_at s t))) i.tree)

-- ---- some values

AreLike : Store → List Given → List Given → Type 0
AreLike s [] [] = Unit {0}
AreLike s [] (h ∷ hs) = ⊥
AreLike s (g ∷ gs) [] = ⊥
AreLike s (g ∷ gs) (h ∷ hs) = IsLike s g h × AreLike s gs hs

IsLikeOption : Store → Option Given → Option Given → Type 0
IsLikeOption s None None = Unit {0}
IsLikeOption s None (Some h) = ⊥
IsLikeOption s (Some g) None = ⊥
IsLikeOption s (Some g) (Some h) = IsLike s g h

each-like-same : (s : Store) (gs : List Given) → AreLike s gs gs
unfolding AreLike
each-like-same s [] = tt
each-like-same s (g ∷ gs) = (like-same s g, each-like-same s gs)

each-like-told : (s : Store) (gs : List Given) (ys : List Yielded) (n : ℕ) → AreToldYields s gs ys → AreLike s gs (givens_from n ys)
unfolding AreLike
each-like-told s [] [] n h = tt
each-like-told s [] (y ∷ ys) n h = absurd h
each-like-told s (g ∷ gs) [] n h = absurd h
each-like-told s (g ∷ gs) (y ∷ ys) n h = (like-told s g y n h.0, each-like-told s gs ys (suc n) h.1)

like-append : (s : Store) (gs hs is js : List Given) → AreLike s gs hs → AreLike s is js → AreLike s (gs ++ is) (hs ++ js)
unfolding AreLike
like-append s [] [] is js h k = k
like-append s [] (x ∷ hs) is js h k = absurd h
like-append s (g ∷ gs) [] is js h k = absurd h
like-append s (g ∷ gs) (x ∷ hs) is js h k = (h.0, like-append s gs hs is js h.1 k)

found-like : (s : Store) (b : Bool) (g h : Given) (o p : Option Given) → IsLike s g h → IsLikeOption s o p →
    IsLikeOption s (cond b (Some g) o) (cond b (Some h) p)
unfolding IsLikeOption
found-like s true g h o p k l = k
found-like s false g h o p k l = l

find-like : (s : Store) (p : Given → Bool) (gs hs : List Given) → ((g h : Given) → IsLike s g h → p h ≡ p g) → AreLike s gs hs →
    IsLikeOption s (find p gs) (find p hs)
unfolding AreLike IsLikeOption
find-like s p [] [] k l = tt
find-like s p [] (h ∷ hs) k l = absurd l
find-like s p (g ∷ gs) [] k l = absurd l
find-like s p (g ∷ gs) (h ∷ hs) k l = rw (k g h l.0) (found-like s (p g) g h (find p gs) (find p hs) l.0 (find-like s p gs hs k l.1))

goes_on-like : (s : Store) (g h : Given) → IsLike s g h → goes_on s h ≡ goes_on s g
unfolding IsLike
goes_on-like s g h k = type_goes_on-like s g.ty h.ty k.1

default_of_first-like : (s : Store) (o p : Option Given) → IsLikeOption s o p → default_of_first s p ≡ default_of_first s o
unfolding IsLikeOption IsLike
default_of_first-like s None None k = refl
default_of_first-like s None (Some h) k = absurd k
default_of_first-like s (Some g) None k = absurd k
default_of_first-like s (Some g) (Some h) k = type_default-like s g.ty h.ty k.1

joined-like : (s : Store) (i : Hint) (gs hs : List Given) → AreLike s gs hs → joined s i hs ≡ joined s i gs
joined-like s (hint.Of t) gs hs k = refl
joined-like s hint.Drop gs hs k = refl
joined-like s hint.None gs hs k =
    default_of_first-like s (find (goes_on s) gs) (find (goes_on s) hs) (find-like s (goes_on s) gs hs (goes_on-like s) k)

lacking-like : (s : Store) (b : Bool) (g h : Given) → IsLike s g h → IsLikeOption s (if_lacking b g) (if_lacking b h)
unfolding IsLikeOption
lacking-like s true g h k = tt
lacking-like s false g h k = k

without_default-like : (s : Store) (o p : Option Given) → IsLikeOption s o p → IsLikeOption s (without_default o) (without_default p)
unfolding IsLikeOption IsLike
without_default-like s None None k = tt
without_default-like s None (Some h) k = absurd k
without_default-like s (Some g) None k = absurd k
without_default-like s (Some g) (Some h) k = rw (type_has_default-like s g.ty h.ty k.1) (lacking-like s (type_has_default g.ty) g h k)

first_lacking-like : (s : Store) (i : Hint) (gs hs : List Given) → AreLike s gs hs →
    IsLikeOption s (first_lacking s i gs) (first_lacking s i hs)
unfolding IsLikeOption
first_lacking-like s (hint.Of t) gs hs k = tt
first_lacking-like s hint.Drop gs hs k = tt
first_lacking-like s hint.None gs hs k =
    without_default-like s (find (goes_on s) gs) (find (goes_on s) hs) (find-like s (goes_on s) gs hs (goes_on-like s) k)

misfit-like : (s : Store) (o : Option ℕ) (gs hs : List Given) → AreLike s gs hs → IsLikeOption s (misfit_to s o gs) (misfit_to s o hs)
unfolding IsLikeOption IsLike
misfit-like s None gs hs k = tt
misfit-like s (Some t) gs hs k = find-like s (λ g. not (given_fits s t g)) gs hs (λ g h l. ap not (type_fits-like s g.ty h.ty t l.1)) k

-- ---- the end

find-append : {A : Type 0} (p : A → Bool) (xs ys : List A) → find p xs ≡ None → find p (xs ++ ys) ≡ find p ys
find-append p [] ys e = refl
find-append p (x ∷ xs) ys e = by_test (p x) (find p xs) (find p (xs ++ ys)) e (find-append p xs ys) where
  by_test : (b : Bool) (o q : Option _) → cond b (Some x) o ≡ None → (o ≡ None → q ≡ find p ys) → cond b (Some x) q ≡ find p ys
  by_test true o q d k = cc
  by_test false o q d k = k d

no_end : (n : ℕ) (ys : List Yielded) → find is_end (givens_from n ys) ≡ None
no_end n [] = refl
no_end n (y ∷ ys) = no_end (suc n) ys

unless-like : (s : Store) (b : Bool) (o p : Option Given) → IsLikeOption s o p ⊎ (b ≡ true) → IsLikeOption s (unless b o) (unless b p)
unfolding IsLikeOption
unless-like s true o p k = tt
unless-like s false o p (inl k) = k
unless-like s false o p (inr e) = cc

same-option : (s : Store) (o : Option Given) → IsLikeOption s o o
unfolding IsLikeOption
same-option s None = tt
same-option s (Some g) = like-same s g

ends-like : (s : Store) (t n : ℕ) (gs ends : List Given) (ys : List Yielded) → (IsSome (find is_end gs) → void_fits s t ≡ true) →
    IsLikeOption s (find is_end (gs ++ ends)) (find is_end (givens_from n ys ++ ends)) ⊎ (void_fits s t ≡ true)
ends-like s t n gs ends ys h = by_first (find is_end gs) refl h where
  by_first : (o : Option Given) → find is_end gs ≡ o → (IsSome o → void_fits s t ≡ true) →
      IsLikeOption s (find is_end (gs ++ ends)) (find is_end (givens_from n ys ++ ends)) ⊎ (void_fits s t ≡ true)
  by_first None e k =
      inl (rw (find-append is_end gs ends e, find-append is_end (givens_from n ys) ends (no_end n ys)) (same-option s (find is_end ends)))
  by_first (Some g) e k = inr (k refl)

first_misfit-like : (s : Store) (i : Hint) (n : ℕ) (gs ends : List Given) (ys : List Yielded) → AreToldYields s gs ys →
    ((t : ℕ) → i ≡ hint.Of t → IsSome (find is_end gs) → void_fits s t ≡ true) →
    IsLikeOption s (first_misfit s i (gs ++ ends)) (first_misfit s i (givens_from n ys ++ ends))
unfolding IsLikeOption
first_misfit-like s (hint.Of t) n gs ends ys k l =
    unless-like s (void_fits s t) (find is_end (gs ++ ends)) (find is_end (givens_from n ys ++ ends)) (ends-like s t n gs ends ys
    (l t refl))
first_misfit-like s hint.Drop n gs ends ys k l = tt
first_misfit-like s hint.None n gs ends ys k l =
    let m = like-append s gs (givens_from n ys) ends ends (each-like-told s gs ys n k) (each-like-same s ends) in
    rw (joined-like s hint.None (gs ++ ends) (givens_from n ys ++ ends) m)
    (misfit-like s (joined s hint.None (gs ++ ends)) (gs ++ ends) (givens_from n ys ++ ends) m)

is_none-like : (s : Store) (o p : Option Given) → IsLikeOption s o p → is_none p ≡ is_none o
unfolding IsLikeOption
is_none-like s None None k = refl
is_none-like s None (Some h) k = absurd k
is_none-like s (Some g) None k = absurd k
is_none-like s (Some g) (Some h) k = refl

place-like : (s : Store) (q : Place) (o p : Option Given) → IsLikeOption s o p → place_of_given q p ≡ place_of_given q o
unfolding IsLikeOption IsLike
place-like s q None None k = refl
place-like s q None (Some h) k = absurd k
place-like s q (Some g) None k = absurd k
place-like s q (Some g) (Some h) k = k.0

-- ---- rows

abbrev pub with_told : List Yielded → Context → Context
with_told ys c = record c { yields = givens_from 0 ys }

-- what was yielded to the node without a value fits what is asked of it
abbrev pub IsTaken : Context → Type 0
IsTaken c = (t : ℕ) → c.hint ≡ hint.Of t → IsSome (find is_end c.yields) → void_fits (store_of c) t ≡ true

end_behind-told : (c : Context) (gs : List Given) (ys : List Yielded) → AreToldYields (store_of c) gs ys →
    end_behind c (givens_from 0 ys) ≡ end_behind c gs
end_behind-told c [] [] h = refl
end_behind-told c [] (y ∷ ys) h = absurd h
end_behind-told c (g ∷ gs) [] h = absurd h
end_behind-told c (g ∷ gs) (y ∷ ys) h = refl

values-told : (c : Context) (ys : List Yielded) → AreToldYields (store_of c) c.yields ys →
    block_values (with_told ys c) ≡ givens_from 0 ys ++ end_behind c c.yields
values-told c ys h = ap (λ l. givens_from 0 ys ++ l) (end_behind-told c c.yields ys h)

first_lacking-told : (c : Context) (ys : List Yielded) → AreToldYields (store_of c) c.yields ys →
    IsLikeOption (store_of c) (first_lacking (store_of c) c.hint (block_values c)) (first_lacking (store_of c) c.hint (block_values
    (with_told ys c)))
first_lacking-told c ys h =
    let s = store_of c in
    let ends = end_behind c c.yields in
    let k = like-append s c.yields (givens_from 0 ys) ends ends (each-like-told s c.yields ys 0 h) (each-like-same s ends) in
    rw (values-told c ys h) (first_lacking-like s c.hint (block_values c) (givens_from 0 ys ++ ends) k)

first_misfit-told : (c : Context) (ys : List Yielded) → AreToldYields (store_of c) c.yields ys → IsTaken c →
    IsLikeOption (store_of c) (first_misfit (store_of c) c.hint (block_values c)) (first_misfit (store_of c) c.hint (block_values
    (with_told ys c)))
first_misfit-told c ys h k = rw (values-told c ys h) (first_misfit-like (store_of c) c.hint 0 c.yields (end_behind c c.yields) ys h k)

pub joined-told : (c : Context) (i : Hint) (ys : List Yielded) → AreToldYields (store_of c) c.yields ys →
    joined (store_of c) i (block_values (with_told ys c)) ≡ joined (store_of c) i (block_values c)
joined-told c i ys h =
    let s = store_of c in
    let ends = end_behind c c.yields in
    let k = like-append s c.yields (givens_from 0 ys) ends ends (each-like-told s c.yields ys 0 h) (each-like-same s ends) in
    rw (values-told c ys h) (joined-like s i (block_values c) (givens_from 0 ys ++ ends) k)

block_type_by-like : (c : Context) (gs hs : List Given) → AreLike (store_of c) gs hs → block_type_by c hs ≡ block_type_by c gs
unfolding AreLike
block_type_by-like c [] [] k = refl
block_type_by-like c [] (h ∷ hs) k = absurd k
block_type_by-like c (g ∷ gs) [] k = absurd k
block_type_by-like c (g ∷ gs) (h ∷ hs) k = joined-like (store_of c) c.hint (g ∷ gs) (h ∷ hs) k

block_type-told : (c : Context) (ys : List Yielded) → AreToldYields (store_of c) c.yields ys →
    block_type_by c (block_values (with_told ys c)) ≡ block_type_by c (block_values c)
block_type-told c ys h =
    let s = store_of c in
    let ends = end_behind c c.yields in
    let k = like-append s c.yields (givens_from 0 ys) ends ends (each-like-told s c.yields ys 0 h) (each-like-same s ends) in
    rw (values-told c ys h) (block_type_by-like c (block_values c) (givens_from 0 ys ++ ends) k)

pub type_by-told : (k : Kind) (ys : List Yielded) (c : Context) → AreToldYields (store_of c) c.yields ys →
    type_by (with_told ys c) k ≡ type_by c k
type_by-told ki.Block ys c h = ap (λ o. typed_as o) (block_type-told c ys h)
type_by-told ki.Case ys c h = ap (λ o. typed_as o) (block_type-told c ys h)
type_by-told ki.SwitchCase ys c h = ap (λ o. typed_as o) (block_type-told c ys h)
type_by-told _ ys c h = refl

pub holds-told : (r : RowId) (ys : List Yielded) (c : Context) → AreToldYields (store_of c) c.yields ys → IsTaken c →
    type_of (with_told ys c) ≡ type_of c → holds r (with_told ys c) ≡ holds r c
holds-told row.BlockFirstDefault ys c h k t = is_none-like _ _ _ (first_lacking-told c ys h)
holds-told row.CaseFirstDefault ys c h k t = is_none-like _ _ _ (first_lacking-told c ys h)
holds-told row.BlockRestFits ys c h k t = is_none-like _ _ _ (first_misfit-told c ys h k)
holds-told row.CaseRestFits ys c h k t = is_none-like _ _ _ (first_misfit-told c ys h k)
holds-told row.Bound ys c h k t = ap (λ o. not (is_bound c.inside.role) || type_sized (store_of c) o) t
holds-told row.Site ys c h k t = ap (fits_hint (store_of c) c.hint) t
holds-told row.Kept ys c h k t = ap (may_drop (store_of c) c.hint) t
holds-told _ ys c h k t = refl

pub stands-told : (r : RowId) (ys : List Yielded) (c : Context) → AreToldYields (store_of c) c.yields ys → IsTaken c →
    stands r (with_told ys c) ≡ stands r c
stands-told row.BlockFirstDefault ys c h k = place-like _ c.head.place _ _ (first_lacking-told c ys h)
stands-told row.CaseFirstDefault ys c h k = place-like _ c.head.place _ _ (first_lacking-told c ys h)
stands-told row.BlockRestFits ys c h k = place-like _ c.head.place _ _ (first_misfit-told c ys h k)
stands-told row.CaseRestFits ys c h k = place-like _ c.head.place _ _ (first_misfit-told c ys h k)
stands-told _ ys c h k = refl
