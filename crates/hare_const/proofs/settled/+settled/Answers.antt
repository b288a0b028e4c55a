use Rattle.std.proofs.Common.{◌<◌, ◌≡◌, ◌∙◌, subst, sym, arith, false}
use Rattle.std.specs.Prelude.{is_some}
use Rattle.hare_typed.specs.Typed.{typed_nodes, size_of, sizes_of, kids_of}
use Rattle.hare_typed.specs.Constancy.{first_inconstant_of}
use Rattle.hare_typed.specs.ConstantForms.{own_type}
use Rattle.hare_typed.proofs.KidLemmas.{kid_size}
use Rattle.hare_typed.specs.Settled.{AreSettled}
use Rattle.hare_const.proofs.LaterTypes.{in_store}
use Rattle.hare_const.proofs.SettledLemmas.{settled_tree, settled_node, settled_kids}
use Rattle.hare_const.proofs.RefusedLemmas.{finds_first, finds_more, finds_not, finds_all}
use Rattle.hare_const.proofs.settled.+settled.Goals as goal

-- ---- a tree

pub refused_in-returns-in-None : goal.refused_in-returns-in-None
refused_in-returns-in-None t c p =
    let s = c.args.s.now in
    c.in-None.ensures (subst (λ y. AreSettled s (kids_of y)) (sym c.t.view_is) (settled_kids s c.args.t.now p))

pub refused_in-is_settled_node-requires : goal.refused_in-is_settled_node-requires
refused_in-is_settled_node-requires t c =
    let s = c.args.s.now in
    record {
      kids = subst (λ y. AreSettled s (kids_of y)) c.t.view_is c.in-Some.ensures.settled;
      refused = subst (λ y. c.in-Some.within ≡ is_some (first_inconstant_of s (λ u. false) (kids_of y))) c.t.view_is
          c.in-Some.ensures.refused;
    }

pub refused_in-returns-then-not-is_settled_node : goal.refused_in-returns-then-not-is_settled_node
refused_in-returns-then-not-is_settled_node t c p =
    let both = sym c.if-not-is_settled_node.true ∙ c.is_settled_node.ensures.1 (settled_node c.args.s.now c.args.t.now p) in
    absurd cc

pub refused_in-is_refused-requires : goal.refused_in-is_refused-requires
refused_in-is_refused-requires t c =
    let s = c.args.s.now in
    record {
      types = in_store s (own_type c.args.t.now) (c.is_settled_node.ensures.0 c.if-not-is_settled_node.false).own;
      within = subst (λ y. c.in-Some.within ≡ is_some (first_inconstant_of s (λ u. false) (kids_of y))) c.t.view_is
          c.in-Some.ensures.refused;
    }

pub refused_in-returns-else-not-is_settled_node : goal.refused_in-returns-else-not-is_settled_node
refused_in-returns-else-not-is_settled_node t c =
    let s = c.args.s.now in
    record {
      settled = settled_tree s c.args.t.now (c.is_settled_node.ensures.0 c.if-not-is_settled_node.false)
          (subst (λ y. AreSettled s (kids_of y)) c.t.view_is c.in-Some.ensures.settled);
      refused = c.is_refused.ensures;
    }

-- ---- some trees

pub refused_among-loop-i-init : goal.refused_among-loop-i-init
refused_among-loop-i-init t c = finds_first c.args.s.now c.args.kids.now

pub refused_among-refused_in-requires : goal.refused_among-refused_in-requires
refused_among-refused_in-requires t c =
    let h : size_of c.in_ok-kid.kid.now < sizes_of (typed_nodes c.args.kids.now) =
    kid_size c.args.kids.now c.loop-i.i c.in_ok-kid.kid.now c.in_ok-kid.ensures.found in
    omega arith

pub refused_among-returns-in-None : goal.refused_among-returns-in-None
refused_among-returns-in-None t c =
    finds_not c.args.s.now c.args.kids.now c.loop-i.i c.in_ok-kid.kid.now c.loop-i.refused c.in_ok-kid.ensures.found c.loop-i.invariant
    c.in-None.ensures

pub refused_among-loop-i-preserved : goal.refused_among-loop-i-preserved
refused_among-loop-i-preserved t c =
    finds_more c.args.s.now c.args.kids.now c.loop-i.i c.in_ok-kid.kid.now c.loop-i.refused c.in-Some.here c.either-refused.result
    c.in_ok-kid.ensures.found c.in-Some.ensures c.either-refused.ensures c.loop-i.invariant

pub refused_among-returns : goal.refused_among-returns
refused_among-returns t c =
    finds_all c.args.s.now c.args.kids.now c.loop-i.i c.loop-i.refused (omega arith) c.loop-i.invariant
