use Rattle.std.proofs.Common.{◌≡◌, ℕ, Some, sym, ◌∙◌, subst, arith}
use Rattle.hare_types.specs.Store.{Store}
use Rattle.hare_types.specs.ByIds.{row_at, base_at}
use Rattle.hare_layout.proofs.MeansLemmas.{offsets_mean}
use Rattle.hare_layout.proofs.OffsetLemmas.{Starts, starts}
use Rattle.hare_layout.proofs.SpreadLemmas.{id-tree_at}
use Rattle.hare_layout.proofs.offset.offset_of.Goals as goal

pub start_of-requires : goal.start_of-requires
start_of-requires c = record { within = (id-tree_at c.args.s.now c.in-Some.base c.in-Some.ensures.some.1 c.in-Some.ensures.some.3).0 }

-- the row of the base
row_here : (s : Store) (t k b : ℕ) (p : Starts s t k) → Some b ≡ base_at s t → row_at s b ≡ Some p.row
row_here s t k b p e =
    let both = e ∙ p.there in
    let same : b ≡ p.base = cc in
    subst (λ i. row_at s i ≡ Some p.row) (sym same) p.here

pub overflow_cast-result : goal.overflow_cast-result
overflow_cast-result c =
    let p = starts c.args.s.now c.base.ensures.sound c.args.t c.args.k c.requires.small c.requires.field in
    let row = row_here c.args.s.now c.args.t c.args.k c.in-Some.base p c.in-Some.ensures.value in
    let both = c.in-Some-start_of.ensures.value p.row p.extents row p.known ∙ p.begins in
    let same : c.in-Some-start_of.start ≡ p.start = cc in
    let few = p.within in
    omega arith

pub returns-clause-at : goal.returns-clause-at
returns-clause-at c =
    let p = starts c.args.s.now c.base.ensures.sound c.args.t c.args.k c.requires.small c.requires.field in
    let row = row_here c.args.s.now c.args.t c.args.k c.in-Some.base p c.in-Some.ensures.value in
    p.at ∙ sym (c.in-Some-start_of.ensures.value p.row p.extents row p.known ∙ p.begins)

pub returns-clause-value : goal.returns-clause-value
returns-clause-value c = ((offsets_mean c.args.s.now c.base.ensures.sound).field c.args.t c.args.k c.in-Some-start_of.start).0
    (returns-clause-at c)

pub unreachable-requires : goal.unreachable-requires
unreachable-requires c =
    let p = starts c.args.s.now c.base.ensures.sound c.args.t c.args.k c.requires.small c.requires.field in
    let row = row_here c.args.s.now c.args.t c.args.k c.in-Some.base p c.in-Some.ensures.value in
    let both = c.in-None-start_of.ensures.value p.row p.extents row p.known ∙ p.begins in
    cc

pub unreachable-requires-in-None : goal.unreachable-requires-in-None
unreachable-requires-in-None c =
    let p = starts c.args.s.now c.base.ensures.sound c.args.t c.args.k c.requires.small c.requires.field in
    let both = c.in-None.ensures.value ∙ p.there in
    cc
