use Rattle.std.proofs.Common.{◌≡◌, ◌∙◌, ap, subst, suc, ◌+◌, List, rules, arith, ◌<◌, ◌≤◌, ◌^◌, length}
use Rattle.std.specs.Prelude.{IfOk, Some, unwrap_or}
use Rattle.hare_types.specs.ByIds.{payload_at, size_at}
use Rattle.hare_typed.specs.declared.cell.Cell.{Cell}
use Rattle.hare_typed.specs.Folded.{tagged_by_id}
use Rattle.hare_typed.specs.Unions.{payload_of, tag_of}
use Rattle.hare_const.proofs.LaterTypes.{keeps}
use Rattle.hare_const.proofs.LaterUnions.{size_same}
use Rattle.hare_const.proofs.Tagged.{tagged_later, tag_by_id}
use Rattle.hare_const.proofs.UnionLemmas.{union_given}
use Rattle.hare_const.proofs.unions.union_cells.Goals as goal

pub returns : goal.returns
returns c =
    let s = c.args.s.now in
    let u = c.args.of_union in
    let v = c.declarations-law.ensures.sound in
    let l = tagged_by_id s in
    let later = tagged_later s v in
    let next : suc c.args.member ≡ c.args.member + 1 = omega arith in
    let tag_is : tag_of l c.args.member ≡ c.args.member + 1 =
    ap (λ o. unwrap_or o 0) (tag_by_id s v c.args.member c.requires.member) ∙ next in
    let short : c.args.member + 1 < 2 ^ 32 = omega (arith, c.requires.member, v.rows_few) in
    let payload_is : payload_at l u ≡ Some c.payload_of-payload.result =
    (keeps s l v later).payload u c.payload_of-payload.result c.payload_of-payload.ensures in
    let start : payload_of l u ≡ c.payload_of-payload.result = ap (λ o. unwrap_or o 0) payload_is in
    let size_is : size_at l u ≡ c.size_of-size.result = size_same s l v later u c.requires.fits ∙ c.size_of-size.ensures.value in
    let behind : 4 ≤ payload_of l u = omega (arith, start, c.if-payload-lt-TAG_CELLS.false) in
    let within : payload_of l u + length c.args.cells.now ≤ size_at l u =
    omega (arith, start, size_is, c.if-size-payload.false, c.if-size-payload-2.false, c.len.ensures) in
    let given = union_given l u c.args.member c.args.cells.now c.in_ok-tagged.tagged c.in_ok-whole.whole c.append.new.self
    (c.args.member + 1) c.payload_of-payload.result c.size_of-size.result c.len-2.result record {
      named = tag_is;
      short = short;
      payload = payload_is;
      size = size_is;
      behind = behind;
      within = within;
      first = search rules;
      next = search rules;
      last = c.in_ok-append.ensures.ok;
      long = c.len-2.ensures;
    } in
    subst (λ (x : List Cell). IfOk c.with_undefined-2.result (λ whole. whole ≡ x)) given c.with_undefined-2.ensures
