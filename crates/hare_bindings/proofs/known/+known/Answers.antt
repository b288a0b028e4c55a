use Rattle.std.proofs.Common.{rules, ◌≡◌, ℕ, ◌+◌, ◌<◌, List, Some, drop, sym, subst, arith}
use Rattle.std.specs.Prelude.{slice_get}
use Rattle.hare_types.specs.Store.{Store}
use Rattle.hare_typed.specs.Typed.{TypedNode, typed_nodes, size_of, sizes_of}
use Rattle.hare_typed.proofs.ExitLemmas.{drop-get}
use Rattle.hare_typed.proofs.KidLemmas.{kid_size}
use Rattle.rule_judge.specs.Defined.{IsDefinedTree, AreDefinedTrees}
use Rattle.hare_bindings.proofs.known.+known.Goals as goal

-- the kids from one on, where it is known and those behind it are
known_more : (s : Store) (ts : List TypedNode) (i : ℕ) (x : TypedNode) (G : Type 0) → slice_get ts i ≡ Some x → IsDefinedTree s x →
    (AreDefinedTrees s (typed_nodes (drop i ts)) → G) → AreDefinedTrees s (typed_nodes (drop (i + 1) ts)) → G
known_more s ts i x G e p go rest = go (subst (λ l. AreDefinedTrees s (typed_nodes l)) (sym (drop-get ts i x e)) (p, rest))

pub are_known-is_known-requires : goal.are_known-is_known-requires
are_known-is_known-requires t c =
    let h : size_of c.in-Some.kid.now < sizes_of (typed_nodes c.args.kids.now) =
    kid_size c.args.kids.now c.loop-i.i c.in-Some.kid.now c.in-Some.ensures.found in
    (omega arith, c.loop-i.invariant.defined)

pub are_known-loop-i-preserved : goal.are_known-loop-i-preserved
are_known-loop-i-preserved t c =
    record {
      defined = c.is_known.ensures.known;
      rest =
          known_more c.args.s.now c.args.kids.now c.loop-i.i c.in-Some.kid.now (AreDefinedTrees c.args.s.now (typed_nodes c.args.kids.now))
          c.in-Some.ensures.found (c.in_ok-is_known.ensures.value (search (rules, c.if-not-branch.false))) c.loop-i.invariant.rest;
    }
