-- Members of unions, and unions that hold one another.
use Rattle.std.proofs.Common.{◌≡◌, ℕ, zero, suc, ◌<◌, Bool, true, false, List, [], ◌∷◌, length, Some, refl, ap, sym, ◌∙◌, subst, arith, get_or}
use Rattle.std.specs.Prelude.{IsTrue, ◌↔◌}
use Rattle.std.proofs.lemmas.Option.{get_or_from_slice_get}
use Rattle.hare_types.specs.declared.coercion.Ty.{Ty}
use Rattle.hare_types.specs.declared.coercion.Ty.TheVariants as ty
use Rattle.hare_types.specs.declared.row.Scalar.TheVariants as keyword
use Rattle.hare_types.specs.Trees.{Trees, Scalar, Union, AllAmong}
use Rattle.hare_types.specs.Rows.{trees, AllBelow}
use Rattle.hare_types.specs.Store.{Store, tree_at}
use Rattle.hare_types.specs.Assign.{type_at, value_at, holds_of, all_among, base, is_part, members_among}
use Rattle.hare_layout.specs.Members.{IsUnion, HoldsMembers}
use Rattle.hare_layout.proofs.MemberLemmas.{union_within}
use Rattle.hare_assign.specs.Shapes.{members_of}
use Rattle.hare_assign.proofs.TypeLemmas.{tree_at-type}
use Rattle.hare_assign.proofs.SameLemmas.{all_among-Decides}

pub AllBelow-at : (n : ℕ) (is : List ℕ) (k d : ℕ) → AllBelow n is → k < length is → get_or is k d < n
AllBelow-at n [] k d h l = absurd (omega arith)
AllBelow-at n (i ∷ is) zero d h l = h.0
AllBelow-at n (i ∷ is) (suc k) d h l = AllBelow-at n is k d h.1 (omega arith)

-- the id at a place of these, which are all below n
pub below : (n : ℕ) (is : List ℕ) (k i : ℕ) → AllBelow n is → k < length is → i ≡ get_or is k i → i < n
below n is k i h l e = subst (λ m. m < n) (sym e) (AllBelow-at n is k i h l)

-- ---- unions

pub IsUnion-type : (s : Store) (t : ℕ) (ts : Trees) → t < length s.rows → type_at s t ≡ Union ts → IsUnion s t
IsUnion-type s t ts h e = (ts, tree_at-type s t h ∙ ap Some e)

all_among-subset : (s : Store) (a b : ℕ) (r : Bool) (ts us : Trees) → a < length s.rows → b < length s.rows → type_at s a ≡ Union ts →
    type_at s b ≡ Union us
    → IsTrue r ↔ HoldsMembers s a b → r ≡ all_among ts us
all_among-subset s a b r ts us l m e g h = by r refl (all_among ts us) refl
  where
    here : tree_at s a ≡ Some (Union ts)
    here = tree_at-type s a l ∙ ap Some e

    there : tree_at s b ≡ Some (Union us)
    there = tree_at-type s b m ∙ ap Some g

    back : HoldsMembers s a b → all_among ts us ≡ true
    back w =
        let one = sym w.2 ∙ here in
        let two = sym w.3 ∙ there in
        let first : w.0 ≡ ts = cc in
        let second : w.1 ≡ us = cc in
        (all_among-Decides ts us).1 (subst (λ x. AllAmong x us) first (subst (λ x. AllAmong w.0 x) second w.4))

    by : (x : Bool) → r ≡ x → (y : Bool) → all_among ts us ≡ y → x ≡ y
    by true f true k = refl
    by true f false k =
        let yes = back (h.0 f) in
        absurd cc
    by false f true k =
        let yes : IsTrue r = h.1 (ts, us, here, there, (all_among-Decides ts us).0 k) in
        absurd cc
    by false f false k = refl

pub is_part-subset : (s : Store) (from : Ty) (f b u : ℕ) (ts : Trees) (r : Bool) → from ≡ ty.Of f →
    Some (type_at s b) ≡ base s (type_at s f) → type_at s b ≡ Union ts → b < length s.rows
    → IsUnion s u → IsTrue r ↔ HoldsMembers s b u → r ≡ is_part s (value_at s from) (members_of (type_at s u))
is_part-subset s from f b u ts r e g h l union subset =
    let there : type_at s u ≡ Union union.0 = get_or_from_slice_get (trees s.rows) u (Union union.0) (Scalar keyword.Void) union.1 in
    let value = ap (λ x. is_part s (value_at s x) (members_of (type_at s u))) e in
    let under = ap (holds_of (members_among (members_of (type_at s u)))) (sym g) in
    let parts = ap (members_among (members_of (type_at s u))) h in
    let whole = ap (λ x. all_among ts (members_of x)) there in
    all_among-subset s b u r ts union.0 l (union_within s u union) h there subset ∙ sym whole ∙ sym parts ∙ sym under ∙ sym value
