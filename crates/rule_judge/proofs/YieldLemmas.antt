-- The values that are yielded to a node, and their coercions.
use Rattle.std.proofs.Common.{◌≡◌, ℕ, zero, suc, ◌+◌, ◌<◌, Bool, true, false, not, ◌&&◌, ◌==◌, cond, nat_lt, List, [], ◌∷◌, ◌++◌, length, map, take, get_or, Option, Some, None, refl, ap, sym, ◌∙◌, subst, arith, append_assoc}
use Rattle.std.specs.Prelude.{find, option_map}
use Rattle.std.proofs.lemmas.Bool.{lt-ltb}
use Rattle.std.proofs.lemmas.List.{take_more, map_push}
use Rattle.hare_tree.specs.declared.place.Place.{Place}
use Rattle.hare_types.specs.declared.coercion.Ty.{Ty}
use Rattle.hare_types.specs.declared.coercion.Coercion.{Coercion}
use Rattle.hare_types.specs.declared.row.Scalar.TheVariants as keyword
use Rattle.hare_types.specs.Store.{Store}
use Rattle.hare_rules.specs.declared.judged.Yielded.{Yielded}
use Rattle.hare_rules.specs.Words.{is_never, default_in, word_id}
use Rattle.hare_rules.specs.Context.{Context, Given}
use Rattle.hare_rules.specs.Control.{is_open, end_of, end_behind, block_values}
use Rattle.hare_rules.specs.Joined.{goes_on, default_of_first}
use Rattle.hare_rules.specs.declared.hint.Hint.{Hint}
use Rattle.hare_rules.specs.declared.hint.Hint.TheVariants as hint
use Rattle.hare_rules.specs.Judged.{givens_from, is_type_hint, yield_coercions}
use Rattle.rule_judge.specs.Defined.{IsDefinedTy, AreDefinedYields, AreDefinedCoercions}
use Rattle.hare_rules.specs.Settles.{to_type}
use Rattle.rule_judge.specs.Yields.{first_going, end_word}

-- a yielded value at a place
pub yield_defined : (s : Store) (ys : List Yielded) (i : ℕ) (y : Yielded) → AreDefinedYields s ys → i < length ys → y ≡ get_or ys i y →
    IsDefinedTy s y.ty
yield_defined s [] i y h l e = absurd (omega arith)
yield_defined s (z ∷ ys) zero y h l e = subst (λ x. IsDefinedTy s x.ty) (sym e) h.0
yield_defined s (z ∷ ys) (suc i) y h l e = yield_defined s ys i y h.1 (omega arith) e

pub coercions_push : (s : Store) (rs : List Coercion) (r : Coercion) → AreDefinedCoercions s rs → IsDefinedTy s r.to →
    AreDefinedCoercions s (rs ++ r ∷ [])
coercions_push s [] r h k = (k, tt)
coercions_push s (q ∷ rs) r h k = (h.0, coercions_push s rs r h.1 k)

-- ---- the first that goes on

abbrev default_or : Store → Option Ty → Option ℕ → Option ℕ
default_or f None o = o
default_or f (Some a) o = default_in f a

first_default : (f : Store) (n : ℕ) (ys : List Yielded) (rest : List Given)
    → default_of_first f (find (goes_on f) (givens_from n ys ++ rest)) ≡
    default_or f (first_going f ys) (default_of_first f (find (goes_on f) rest))
first_default f n [] rest = refl
first_default f n (y ∷ ys) rest = by (first_default f (suc n) ys rest) (is_never f y.ty)
  where
    by : default_of_first f (find (goes_on f) (givens_from (suc n) ys ++ rest)) ≡
        default_or f (first_going f ys) (default_of_first f (find (goes_on f) rest)) → (b : Bool)
        → default_of_first f (cond (not b) (Some (record { place = y.place; ty = Some y.ty; node = Some n }))
        (find (goes_on f) (givens_from (suc n) ys ++ rest)))
        ≡ default_or f (option_map (λ z. z.ty) (cond (not b) (Some y) (find (λ z. not (is_never f z.ty)) ys)))
        (default_of_first f (find (goes_on f) rest))
    by ih true = ih
    by ih false = refl

end_default : (f : Store) (p : Place) (b : Bool) →
    default_of_first f (find (goes_on f) (end_of b p)) ≡ word_id f (cond b keyword.Void keyword.Never)
end_default f p true = refl
end_default f p false = refl

module _ (f : Store) (c : Context) (ys : List Yielded) (yields : c.yields ≡ givens_from 0 ys) where
  behind : (vs : List Given) → default_of_first f (find (goes_on f) (end_behind c vs)) ≡
      word_id f (cond (nat_lt 0 (length vs) && is_open c) keyword.Void keyword.Never)
  behind [] = refl
  behind (v ∷ vs) = end_default f c.head.place (is_open c) ∙ ap (λ b. word_id f (cond (b && is_open c) keyword.Void keyword.Never))
      (sym (lt-ltb 0 (suc (length vs)) (omega arith)))

  all : default_of_first f (find (goes_on f) (block_values c)) ≡ default_or f (first_going f ys) (word_id f (end_word c))
  all =
      ap (λ vs. default_of_first f (find (goes_on f) (vs ++ end_behind c c.yields))) yields ∙ first_default f 0 ys (end_behind c c.yields)
      ∙ ap (default_or f (first_going f ys)) (behind c.yields)

  pub joined_some : (a : Ty) (o : Option ℕ) → Some a ≡ first_going f ys → o ≡ default_in f a →
      o ≡ default_of_first f (find (goes_on f) (block_values c))
  joined_some a o e h = h ∙ sym (all ∙ ap (λ p. default_or f p (word_id f (end_word c))) (sym e))

  pub joined_none : (t : ℕ) → None ≡ first_going f ys → word_id f (end_word c) ≡ Some t →
      Some t ≡ default_of_first f (find (goes_on f) (block_values c))
  joined_none t e h = sym (all ∙ ap (λ p. default_or f p (word_id f (end_word c))) (sym e) ∙ h)

-- ---- coercions

-- one more
pub put_more : (f : Store) (old done new : List Coercion) (ys : List Yielded) (i : ℕ) (y : Yielded) (r : Coercion) (o : Option ℕ)
    → done ≡ old ++ map (λ z. to_type f z.ty o) (take i ys) → i < length ys → y ≡ get_or ys i y → r ≡ to_type f y.ty o →
    new ≡ done ++ r ∷ []
    → new ≡ old ++ map (λ z. to_type f z.ty o) (take (i + 1) ys)
put_more f old done new ys i y r o before l e g k =
    let more = ap (map (λ z. to_type f z.ty o)) (take_more ys i y l ∙ ap (λ z. take i ys ++ z ∷ []) (sym e)) ∙ map_push
    (λ z. to_type f z.ty o) (take i ys) y in
    k ∙ ap (λ q. done ++ q ∷ []) g ∙ ap (λ d. d ++ to_type f y.ty o ∷ []) before ∙ append_assoc old
    (map (λ z. to_type f z.ty o) (take i ys)) (to_type f y.ty o ∷ [])
    ∙ sym (ap (λ xs. old ++ xs) more)

-- ---- the end

some_given : (n : ℕ) (ys : List Yielded) → false ≡ (length ys == 0) → nat_lt 0 (length (givens_from n ys)) ≡ true
some_given n [] e = absurd cc
some_given n (y ∷ ys) e = lt-ltb 0 (suc (length (givens_from (suc n) ys))) (omega arith)

pub end_void : (c : Context) (ys : List Yielded) → c.yields ≡ givens_from 0 ys → false ≡ (length ys == 0) → true ≡ is_open c →
    keyword.Void ≡ end_word c
end_void c ys e some reached =
    let given : nat_lt 0 (length c.yields) ≡ true = ap (λ vs. nat_lt 0 (length vs)) e ∙ some_given 0 ys some in
    sym (ap (λ b. cond (b && is_open c) keyword.Void keyword.Never) given ∙ ap (λ b. cond b keyword.Void keyword.Never) (sym reached))

-- under no hint of a type each yielded value has a coercion
pub unhinted : (f : Store) (h : Hint) (o : Option ℕ) (ys : List Yielded) → is_type_hint h ≡ false →
    yield_coercions f h o ys ≡ map (λ y. to_type f y.ty o) ys
unhinted f (hint.Of t) o ys e = absurd cc
unhinted f hint.Drop o ys e = refl
unhinted f hint.None o ys e = refl
