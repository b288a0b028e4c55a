-- Trees that are no higher than 256 keep both limits on depth.
use Rattle.std.proofs.Common.{◌≡◌, ℕ, ◌+◌, ◌≤◌, inl, inr, List, [], ◌∷◌, ◌++◌, Bool, true, false, length, refl, arith, if◌then◌else◌}
use Rattle.std.specs.Prelude.{◌&&◌, not, nat_le}
use Rattle.hare_tree.specs.declared.kind.Kind.{Kind}
use Rattle.hare_tree.specs.declared.kind.Kind.TheVariants as ki
use Rattle.hare_tree.specs.declared.form.Lead.TheVariants as le
use Rattle.hare_tree.specs.Node.{Head, Node, Nodes, branch, none, more, nodes_of}
use Rattle.hare_tree.specs.Forms.{form_of}
use Rattle.hare_tree.specs.Spell.{spells, spell_all}
use Rattle.hare_tree.specs.Grammar.{files}
use Rattle.hare_tree.specs.Depth.{is_node, is_operator, counted, height, greatest_height, left_height, begins, begins_led, first_number}
use Rattle.hare_tree.specs.Depth.{numbers_behind, place_in, node_faults, open_within, deep, deep_each}
use Rattle.hare_tree.proofs.Low.Limits.{may-stand}
use Rattle.hare_parse.proofs.Kids.Heights.{high, high_append}

operator_is_node : (k : Kind) → is_operator k ≡ true → is_node k ≡ true
operator_is_node ki.Arith e = refl
operator_is_node ki.Shift e = refl
operator_is_node ki.Less e = refl
operator_is_node ki.Equal e = refl
operator_is_node ki.Logic e = refl
operator_is_node ki.OpAssign e = refl
operator_is_node ki.Assign e = refl
operator_is_node ki.Cast e = refl
operator_is_node ki.As e = refl
operator_is_node ki.Is e = refl
operator_is_node ki.Call e = refl
operator_is_node ki.Index e = refl
operator_is_node ki.Slice e = refl
operator_is_node ki.Field e = refl
operator_is_node ki.Try e = refl
operator_is_node ki.Force e = refl
operator_is_node _ e = cc

node_counts : (k : Kind) → is_node k ≡ true → counted k ≡ 1
node_counts k e = rw e refl

left_below : (ts : Nodes) → left_height ts ≤ greatest_height ts
unfolding height
left_below none = omega arith
left_below (more t ts) = omega arith

none_where : (b : Bool) (n : ℕ) → b ≡ false → (if b then n ∷ [] else []) ≡ []
none_where b n e = rw e refl

-- nothing is told of a node that is low enough
no_faults : (n o : ℕ) (h : Head) (ts : Nodes) → counted h.kind + greatest_height ts + o ≤ 256 → node_faults n o h ts ≡ []
no_faults n o h ts le = rw (none_where _ n not_open, none_where _ (n + place_in h ts) not_left) refl
  where
    by_open : (b : Bool) → is_node h.kind ≡ b → (is_node h.kind && nat_le 256 o) ≡ false
    by_open true e = may-stand (is_node h.kind) o (inl (e, omega (arith, node_counts h.kind e, le)))
    by_open false e = may-stand (is_node h.kind) o (inr e)

    not_open : (is_node h.kind && nat_le 256 o) ≡ false
    not_open = by_open (is_node h.kind) refl

    by_left : (b : Bool) → is_operator h.kind ≡ b → (is_operator h.kind && nat_le 256 (left_height ts)) ≡ false
    by_left true e =
        may-stand (is_operator h.kind) (left_height ts)
        (inl (e, omega (arith, node_counts h.kind (operator_is_node h.kind e), left_below ts, le)))
    by_left false e = may-stand (is_operator h.kind) (left_height ts) (inr e)

    not_left : (is_operator h.kind && nat_le 256 (left_height ts)) ≡ false
    not_left = by_left (is_operator h.kind) refl

-- a node opens one more
open_few : (o : ℕ) (l : Bool) (k : Kind) → open_within o l k ≤ counted k + o
open_few o l k = by (is_node k) l
  where
    by : (b c : Bool) → (if b && not c then o + 1 else o) ≤ (if b then 1 else 0) + o
    by true true = omega arith
    by true false = omega arith
    by false c = omega arith

mutual
  unfolding height deep

  none_deep : (n o : ℕ) (l : Bool) (t : Node) → height t + o ≤ 256 → deep n o l t ≡ []
  none_deep n o l (branch h ts) le =
      rw (
        no_faults n o h ts le,
        none_deep_each (begins h (form_of h.kind) n (spells 0 ts)) (open_within o l h.kind) (is_operator h.kind) ts
            (omega (arith, open_few o l h.kind, le)),
      ) refl

  none_deep_each : (ns : List ℕ) (o : ℕ) (l : Bool) (ts : Nodes) → greatest_height ts + o ≤ 256 → deep_each ns o l ts ≡ []
  none_deep_each ns o l none le = refl
  none_deep_each ns o l (more t ts) le =
      rw (
        none_deep (first_number ns) o l t (omega (arith, le)),
        none_deep_each (numbers_behind ns) o false ts (omega (arith, le)),
      ) refl

-- a file passes no limit where its trees are that low
pub low_files : (file : ℕ) (uses decls : List Node) → high (uses ++ decls) ≤ 256 →
    files.deep_of (record { file = file; uses = uses; decls = decls }) ≡ []
low_files file uses decls low =
    let us = begins_led le.Nothing 0 (spells 0 (nodes_of uses)) in
    let ds = begins_led le.Nothing (length (spell_all file uses)) (spells 0 (nodes_of decls)) in
    rw (
      none_deep_each us 0 false (nodes_of uses) (omega (arith, high_append uses decls, low)),
      none_deep_each ds 0 false (nodes_of decls) (omega (arith, high_append uses decls, low)),
    ) refl
