-- Values of unions that keep their member.
use Rattle.std.proofs.Common.{◌≡◌, ◌∙◌, sym, ap, subst, refl, ℕ, zero, suc, ◌+◌, ◌<◌, arith, Bool, true, false, List, [], ◌∷◌, length, drop, get_or, Option, Some, None, IsSome}
use Rattle.std.specs.Prelude.{pos, ℤ, nat_eq, IfSome, find, cond, option_and_then, unwrap_or}
use Rattle.std.proofs.lemmas.Bool.Decides.{nat_tests}
use Rattle.hare_types.specs.declared.coercion.Ty.TheVariants as ty
use Rattle.hare_types.specs.declared.row.Row.TheVariants as row
use Rattle.hare_types.specs.Store.{Store}
use Rattle.hare_types.specs.Sound.{IsStore}
use Rattle.hare_types.specs.ByIds.{row_at, base_at, members_of, members_at}
use Rattle.hare_typed.specs.declared.cell.Cell.{Cell}
use Rattle.hare_typed.specs.Answers.{Gives, or_undefined, ◌then◌}
use Rattle.hare_typed.specs.Cells.{cells_within}
use Rattle.hare_typed.specs.Scalars.{Scalar, Number, Shape, spelled}
use Rattle.hare_typed.specs.Shapes.{shape_at}
use Rattle.hare_typed.specs.Given.{base_row}
use Rattle.hare_typed.specs.Words.{number_in, natural_of}
use Rattle.hare_typed.specs.Folded.{tagged_by_id}
use Rattle.hare_typed.specs.Unions.{tag_shape, union_members, has_tag, is_number, member_tagged, member_by_tag, checked_by, checked, payload}
use Rattle.hare_const.specs.Numbers.{number_of_scalar, number_by}
use Rattle.hare_typed.specs.Joined.{AreTold, IsToldUnion}
use Rattle.hare_typed.specs.Sizes.{Fits}
use Rattle.hare_const.proofs.JoinedLemmas.{told_found}
use Rattle.hare_const.proofs.LaterUnions.{members_same, payload_cells}
use Rattle.hare_const.proofs.Tagged.{tagged_later, tag_by_id}

-- a type with the row of a union for its base has its members
pub members_by_row : (s : Store) (t : ℕ) (is : List ℕ) → base_row s (ty.Of t) ≡ Some (row.Union is) → members_at s t ≡ Some is
members_by_row s t is e = by (base_at s t) refl
  where
    by : (o : Option ℕ) → base_at s t ≡ o → members_at s t ≡ Some is
    by None g = let both : None ≡ Some (row.Union is) = sym (ap (option_and_then (row_at s)) g) ∙ e in absurd cc
    by (Some b) g =
        ap (option_and_then (λ i. option_and_then members_of (row_at s i))) g
        ∙ ap (option_and_then members_of) (sym (ap (option_and_then (row_at s)) g) ∙ e)

-- ---- payloads

number-known : (o : Option Scalar) (v : ℤ) → number_of_scalar o ≡ Some v → (x : Scalar) × (o ≡ Some x)
number-known None v e = absurd cc
number-known (Some x) v e = (x, refl)

value-known : (o : Option Shape) (cs : List Cell) (v : ℤ) → number_by o cs ≡ Some v → Gives cs ≡ checked_by o cs
value-known None cs v e = refl
value-known (Some shape) cs v e =
    let known = number-known (spelled shape cs) v e in
    sym (ap (λ o. or_undefined 3 o then λ x. Gives cs) known.1)

-- cells that spell a number are a value, and so are those of what is no scalar
pub is_value : (s : Store) (t : ℕ) (cs : List Cell) (n : Option ℤ) → n ≡ number_by (shape_at s t) cs → IsSome n → Gives cs ≡ checked s t cs
is_value s t cs None e h = absurd cc
is_value s t cs (Some v) e h = value-known (shape_at s t) cs v (sym e)

-- cells that spell a scalar of the type's shape are a value of it
pub spelled_value : (s : Store) (t : ℕ) (cs : List Cell) (shape : Shape) → shape_at s t ≡ Some shape → IsSome (spelled shape cs) →
    Gives cs ≡ checked s t cs
spelled_value s t cs shape e h = by (spelled shape cs) refl h
  where
    by : (o : Option Scalar) → spelled shape cs ≡ o → IsSome o → Gives cs ≡ checked s t cs
    by None f k = absurd cc
    by (Some x) f k = sym (ap (λ o. checked_by o cs) e ∙ ap (λ o. or_undefined 3 o then λ y. Gives cs) f)

pub no_scalar : (s : Store) (t : ℕ) (cs : List Cell) → shape_at s t ≡ None → Gives cs ≡ checked s t cs
no_scalar s t cs e = sym (ap (λ o. checked_by o cs) e)

module _ (s : Store) (v : IsStore s) where
  -- a member has the tag that is one more than its id
  pub tag_of_member : (n m : ℕ) → m < length s.rows → has_tag (tagged_by_id s) n m ≡ nat_eq (suc m) n
  tag_of_member n m h = ap (is_number n) (tag_by_id s v m h)

  -- the member that the tag says
  pub member_told : (u n m : ℕ) (cs : List Cell) → IsToldUnion s u → spelled tag_shape (cells_within 0 4 cs) ≡ Some (Number (pos n)) →
      (ms : List ℕ) → members_at s u ≡ Some ms → find (has_tag (tagged_by_id s) n) ms ≡ Some m →
      (Gives m ≡ member_by_tag (tagged_by_id s) u cs) × (IsSome (base_at s m) × Fits s m)
  member_told u n m cs k e ms g f =
      let l = tagged_by_id s in
      let is : union_members l u ≡ ms = members_same s l v (tagged_later s v) u k ∙ ap (λ o. unwrap_or o []) g in
      let same : k.members ≡ ms = let both = sym k.union ∙ g in cc in (
        sym (ap (λ o. or_undefined 3 o then λ x. member_tagged l (union_members l u) (natural_of (number_in x))) e
            ∙ ap (λ js. member_tagged l js n) is ∙ ap (or_undefined 8) f),
        told_found s (has_tag l n) ms m (subst (AreTold s) same k.told) f,
      )

  pub payload_there : (u m : ℕ) (cs ds : List Cell) → IsToldUnion s u → IsSome (base_at s m) × Fits s m → Gives ds ≡ payload s u m cs →
      Gives ds ≡ payload (tagged_by_id s) u m cs
  payload_there u m cs ds k h e = e ∙ sym (payload_cells s (tagged_by_id s) v (tagged_later s v) u m cs k h)

-- ---- lists

-- what is found of the types from one on
pub find_at : (p : ℕ → Bool) (ms : List ℕ) (k m : ℕ) → k < length ms → m ≡ get_or ms k m →
    find p (drop k ms) ≡ cond (p m) (Some m) (find p (drop (k + 1) ms))
find_at p ms k m h e =
    let next : suc k ≡ k + 1 = omega arith in
    go ms k h e ∙ ap (λ i. cond (p m) (Some m) (find p (drop i ms))) next
  where
    go : (js : List ℕ) (i : ℕ) → i < length js → m ≡ get_or js i m → find p (drop i js) ≡ cond (p m) (Some m) (find p (drop (suc i) js))
    go [] i l g = absurd (omega arith)
    go (j ∷ js) zero l g = ap (λ x. cond (p x) (Some x) (find p js)) (sym g)
    go (j ∷ js) (suc i) l g = go js i (omega arith) g

-- ---- members by their tags

module _ (s : Store) (v : IsStore s) (n : ℕ) (ms : List ℕ) (k m : ℕ) (h : k < length ms) (e : m ≡ get_or ms k m)
    (w : m < length s.rows) where
  abbrev has : ℕ → Bool
  has = has_tag (tagged_by_id s) n

  -- one with another tag is passed over
  pub tag_missed : ¬ (m + 1 ≡ n) → find has (drop (k + 1) ms) ≡ find has (drop k ms)
  tag_missed other =
      let no : nat_eq (suc m) n ≡ false = unlike (nat_eq (suc m) n) refl in
      sym (find_at has ms k m h e ∙ ap (λ b. cond b (Some m) (find has (drop (k + 1) ms))) (tag_of_member s v n m w ∙ no))
    where
      unlike : (b : Bool) → nat_eq (suc m) n ≡ b → nat_eq (suc m) n ≡ false
      unlike true g = let same : suc m ≡ n = grind (arith, nat_tests, g) in absurd (other (omega (arith, same)))
      unlike false g = g

  -- one with the tag is found
  pub tag_met : m + 1 ≡ n → Some m ≡ find has (drop k ms)
  tag_met same =
      let yes : nat_eq (suc m) n ≡ true = grind (arith, nat_tests, same) in
      sym (find_at has ms k m h e ∙ ap (λ b. cond b (Some m) (find has (drop (k + 1) ms))) (tag_of_member s v n m w ∙ yes))

-- what a search by a tag finds is told
pub told_of_tag : (s : Store) (u n : ℕ) (ms : List ℕ) (o : Option ℕ) → IsToldUnion s u → members_at s u ≡ Some ms →
    o ≡ find (has_tag (tagged_by_id s) n) ms → IfSome o (λ m. IsSome (base_at s m) × Fits s m)
told_of_tag s u n ms None k g e = tt
told_of_tag s u n ms (Some m) k g e =
    let same : k.members ≡ ms = let both = sym k.union ∙ g in cc in
    told_found s (has_tag (tagged_by_id s) n) ms m (subst (AreTold s) same k.told) (sym e)

-- and it is the member that the tag says
pub member_of_tag : (s : Store) (v : IsStore s) (u n : ℕ) (cs : List Cell) (ms : List ℕ) (o : Option ℕ) → IsToldUnion s u →
    spelled tag_shape (cells_within 0 4 cs) ≡ Some (Number (pos n)) → members_at s u ≡ Some ms →
    o ≡ find (has_tag (tagged_by_id s) n) ms → IfSome o (λ m. Gives m ≡ member_by_tag (tagged_by_id s) u cs)
member_of_tag s v u n cs ms None k e g f = tt
member_of_tag s v u n cs ms (Some m) k e g f = (member_told s v u n m cs k e ms g (sym f)).0
