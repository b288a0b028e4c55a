-- That the cases of a `match` or a `switch` have types, where its kids were kept.
use Rattle.std.proofs.Common.{◌≡◌, ℕ, Bool, true, false, ◌&&◌, List, [], ◌∷◌, drop, refl, sym, subst}
use Rattle.hare_tree.specs.declared.kind.Kind.{Kind}
use Rattle.hare_tree.specs.declared.kind.Kind.TheVariants as ki
use Rattle.hare_tree.specs.declared.form.Sort.{Sort}
use Rattle.hare_tree.specs.declared.form.Sort.TheVariants as so
use Rattle.hare_tree.specs.declared.form.Piece.TheVariants as pi
use Rattle.hare_tree.specs.Forms.{form_of, expr}
use Rattle.hare_tree.specs.Levels.{level, admits}
use Rattle.hare_tree.specs.Node.{Node, branch, head, kids_of}
use Rattle.hare_tree.specs.Shape.{is_shaped, are_kids, kid_pieces}
use Rattle.hare_tree.proofs.TreeKids.KidSorts.{shaped_kids}
use Rattle.hare_tree.proofs.TreeKids.ShapedKids.{shaped_admits}
use Rattle.hare_types.specs.Store.{Store}
use Rattle.hare_typed.specs.Typed.{TypedNode, marked, typed_nodes}
use Rattle.hare_typed.specs.Erased.{erase_each}
use Rattle.hare_judge.specs.Kinds.{has_cases}
use Rattle.rule_join.specs.Cases.{AreTyped}
use Rattle.hare_check.specs.Keeps.{is_case, AreKeptTrees}

and-both : (a b : Bool) → (a && b) ≡ true → (a ≡ true) × (b ≡ true)
and-both true b e = (refl, e)
and-both false b e = cc

-- what stands behind the first kid
abbrev case_sort : Bool → Sort
case_sort true = so.Case
case_sort false = so.SwitchCase

case-admitted : (b : Bool) (k : Kind) (text : List ℕ) → admits (case_sort b) k text ≡ true → is_case k ≡ true
case-admitted true ki.Case text e = refl
case-admitted true _ text e = cc
case-admitted false ki.SwitchCase text e = refl
case-admitted false _ text e = cc

each_case : (s : Store) (b : Bool) (n : ℕ) (xs : List TypedNode) →
    are_kids n (pi.Each (case_sort b) ∷ []) (erase_each (typed_nodes xs)) ≡ true → AreKeptTrees s xs →
    AreTyped xs
unfolding is_shaped
each_case s b n [] e k = tt
each_case s b n (marked h m ts ∷ xs) e k =
    let q = and-both _ _ e in
    (k.0.case (case-admitted b h.kind h.text (shaped_admits (case_sort b) h (erase_each ts) q.0)), each_case s b n xs q.1 k.1)

behind_operand : (s : Store) (b : Bool) (n : ℕ) (xs : List TypedNode) →
    are_kids n (pi.Kid expr ∷ pi.Each (case_sort b) ∷ []) (erase_each (typed_nodes xs)) ≡ true → AreKeptTrees s xs →
    AreTyped (drop 1 xs)
unfolding is_shaped
behind_operand s b n [] e k = cc
behind_operand s b n (x ∷ xs) e k = each_case s b n xs (and-both _ _ e).1 k.1

-- the cases of a node of this kind
cases_of : (s : Store) (k : Kind) (n : ℕ) (xs : List TypedNode) → has_cases k ≡ true →
    are_kids n (kid_pieces (form_of k)) (erase_each (typed_nodes xs)) ≡ true → AreKeptTrees s xs →
    AreTyped (drop 1 xs)
cases_of s ki.Match n xs e d h = behind_operand s true n xs d h
cases_of s ki.Switch n xs e d h = behind_operand s false n xs d h
cases_of s _ n xs e d h = cc

-- each case has a type
pub cases-typed : (s : Store) (sort : Sort) (n : Node) (xs : List TypedNode) → is_shaped sort n ≡ true → has_cases (head n).kind ≡ true →
    erase_each (typed_nodes xs) ≡ kids_of n → AreKeptTrees s xs →
    AreTyped (drop 1 xs)
cases-typed s sort (branch h ts) xs e k d p =
    cases_of s h.kind (level h.kind h.text) xs k
    (subst (λ us. are_kids (level h.kind h.text) (kid_pieces (form_of h.kind)) us ≡ true) (sym d) (shaped_kids sort h ts e)) p
