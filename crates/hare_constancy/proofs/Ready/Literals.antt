-- Numbers and runes of a shaped tree are small.
use Rattle.std.proofs.Common.{◌≡◌, ◌<◌, ◌^◌, refl, ℕ, Bool, true, false, ◌&&◌, ◌||◌, arith, ltb-true}
use Rattle.std.specs.Prelude.{nat_lt, nat_le, slice_index}
use Rattle.std.specs.Char.{is_ascii_digit}
use Rattle.std.proofs.lemmas.Bool.{and_parts}
use Rattle.hare_tree.specs.declared.kind.Kind.{Kind}
use Rattle.hare_tree.specs.declared.kind.Kind.TheVariants as kind
use Rattle.hare_tree.specs.declared.form.Sort.{Sort}
use Rattle.hare_tree.specs.Forms.{form_of}
use Rattle.hare_tree.specs.Node.{Head, Nodes, branch}
use Rattle.hare_tree.specs.Shape.{is_scalar_value, is_own, own_of, is_shaped}
use Rattle.hare_tree.proofs.TreeKids.ShapedKids.{AllShaped, kids_of_shaped}
use Rattle.hare_typed.specs.Typed.{TypedNode, TypedNodes, marked, typed_none, typed_more}
use Rattle.hare_typed.specs.Erased.{erase, erase_each}
use Rattle.hare_constancy.specs.Laws.{IsSmall, HasSmallLiterals, HaveSmallLiterals}

shaped_own : (s : Sort) (h : Head) (ts : Nodes) → is_shaped s (branch h ts) ≡ true → is_own (own_of (form_of h.kind)) h ≡ true
unfolding is_shaped
shaped_own s h ts e =
    let a = and_parts _ _ e in
    let b = and_parts _ _ a.0 in
    let c = and_parts _ _ b.0 in
    (and_parts _ _ c.0).1

scalar_small : (n : ℕ) → is_scalar_value n ≡ true → n < 2 ^ 127
scalar_small n e = by (nat_lt n 55296) refl e
  where
    by : (b : Bool) → nat_lt n 55296 ≡ b → (b || (nat_le 57344 n && nat_lt n 1114112)) ≡ true → n < 2 ^ 127
    by true f g = omega (arith, ltb-true n 55296 f)
    by false f g = let l = ltb-true n 1114112 (and_parts (nat_le 57344 n) (nat_lt n 1114112) g).1 in omega (arith, l)

small_literal : (k : Kind) (h : Head) → is_own (own_of (form_of k)) h ≡ true → IsSmall k h.number
small_literal kind.Number h e = ltb-true h.number (2 ^ 127) (and_parts (is_ascii_digit (slice_index h.text 0)) (nat_lt h.number (2 ^ 127)) e).1
small_literal kind.RuneLit h e = scalar_small h.number (and_parts (is_scalar_value h.number) _ e).0
small_literal _ h e = tt

mutual
  pub small_literals : (o : Sort) (t : TypedNode) → is_shaped o (erase t) ≡ true → HasSmallLiterals t
  small_literals o (marked h m ts) e =
      (small_literal h.kind h (shaped_own o h (erase_each ts) e), small_literals_each ts (kids_of_shaped o h (erase_each ts) e).shaped)

  small_literals_each : (ts : TypedNodes) → AllShaped (erase_each ts) → HaveSmallLiterals ts
  small_literals_each typed_none e = tt
  small_literals_each (typed_more t ts) e = (small_literals e.0.0 t e.0.1, small_literals_each ts e.1)
