use Rattle.std.proofs.Common.{ℕ, List, Some, length, vec_len, ◌<◌, ◌≤◌, ap, refl, sym, ◌∙◌, subst, arith, ◌≡◌}
use Rattle.std.specs.Prelude.{Contains}
use Rattle.hare_tree.specs.Node.{head}
use Rattle.hare_tree.specs.declared.kind.Kind.TheVariants as ki
use Rattle.hare_types.specs.declared.row.Row.TheVariants as ro
use Rattle.hare_types.specs.Unions.{ascending, joined}
use Rattle.hare_types.proofs.LaterLemmas.{later_here, later_trans}
use Rattle.rule_types.specs.Answers.{IsOwnStop}
use Rattle.rule_types.specs.Joinable.{AreJoinable, IsLoneKnown}
use Rattle.rule_types.proofs.OwnLemmas.{fault_at}
use Rattle.rule_types.proofs.UnionLemmas.{joinable, lone_known, all_defined}
use Rattle.rule_types.proofs.UnionRows.{no_place, is_zero, is_more, odd_member, member_unsized, none_left, too_wide, union_large, lone_is, union_is}
use Rattle.rule_types.proofs.unions.union_type.Goals as goal

pub returns-in-Some-clause-err : goal.returns-in-Some-clause-err
returns-in-Some-clause-err c =
    subst (IsOwnStop c.args.s.now c.args.t.now ki.TypeUnion) (sym c.stop.ensures)
    (odd_member c.args.s.now c.args.t.now (fault_at 35 c.in-Some.place) c.in-Some.place refl
    (λ f l. sym c.in-Some.is ∙ c.odd_spread.ensures f l))

pub returns-then-not-are_sized-clause-err : goal.returns-then-not-are_sized-clause-err
returns-then-not-are_sized-clause-err c =
    let p = c.node.inside.place in
    subst (IsOwnStop c.args.s.now c.args.t.now ki.TypeUnion) (sym c.stop-then-not-are_sized.ensures)
    (member_unsized c.args.s.now c.args.t.now (λ f l. no_place c.odd_spread.result c.in_default.not-Some ∙ c.odd_spread.ensures f l)
    (fault_at 17 p) p refl
    (λ f. sym (ap (λ n. (head n).place) c.node.view_is)) (λ f l. sym c.if-not-are_sized.true ∙ c.are_sized.ensures f l))

pub returns-then-is_empty-clause-err : goal.returns-then-is_empty-clause-err
returns-then-is_empty-clause-err c =
    let p = c.node.inside.place in
    let z = is_zero (vec_len c.in_ok-left.left) (sym c.is_empty.ensures ∙ c.if-is_empty.true) in
    let none : length c.in_ok-left.left.items ≡ 0 = omega (arith, z) in
    let all = c.in_ok-left.ensures.all (omega arith) in
    subst (IsOwnStop c.args.s.now c.args.t.now ki.TypeUnion) (sym c.stop-then-is_empty.ensures)
    (none_left c.args.s.now c.args.t.now (λ f l. no_place c.odd_spread.result c.in_default.not-Some ∙ c.odd_spread.ensures f l)
    (λ f l. sym c.if-not-are_sized.false ∙ c.are_sized.ensures f l) c.as_slice.result.now
    (λ f l. c.as_slice.ensures.value ∙ c.in_ok-brought.ensures f l) (fault_at 19 p) p refl
    (λ f. sym (ap (λ n. (head n).place) c.node.view_is)) (sym (ap length all) ∙ none))

pub returns-then-len-gt-MOST_MEMBERS-clause-err : goal.returns-then-len-gt-MOST_MEMBERS-clause-err
returns-then-len-gt-MOST_MEMBERS-clause-err c =
    let p = c.node.inside.place in
    let many = c.in_ok-left.ensures.more (omega (arith, c.len.ensures, c.if-len-gt-MOST_MEMBERS.true)) in
    subst (IsOwnStop c.args.s.now c.args.t.now ki.TypeUnion) (sym c.stop-then-len-gt-MOST_MEMBERS.ensures)
    (too_wide c.args.s.now c.args.t.now (λ f l. no_place c.odd_spread.result c.in_default.not-Some ∙ c.odd_spread.ensures f l)
    (λ f l. sym c.if-not-are_sized.false ∙ c.are_sized.ensures f l) c.as_slice.result.now
    (λ f l. c.as_slice.ensures.value ∙ c.in_ok-brought.ensures f l) (omega (arith, many)) (fault_at 20 p) p refl
    (λ f. sym (ap (λ n. (head n).place) c.node.view_is)) many)

pub joined-requires-clause-joinable : goal.joined-requires-clause-joinable
joined-requires-clause-joinable c =
    let few : length c.in_ok-left.left.items ≤ 64 = omega (arith, c.len.ensures, c.if-len-gt-MOST_MEMBERS.false) in
    let all = c.in_ok-left.ensures.all few in
    let v = c.declarations-law.ensures.sound in
    let here = c.as_slice.ensures.value ∙ c.in_ok-brought.ensures c.args.s.now (later_here c.args.s.now v) in
    subst (AreJoinable c.args.s.now) (sym (c.as_slice-2.ensures.value ∙ all ∙ ap ascending here))
    (joinable c.args.s.now v c.args.t.now.kids.now c.requires)

pub returns-then-len-eq1-clause-ok : goal.returns-then-len-eq1-clause-ok
returns-then-len-eq1-clause-ok c =
    let few : length c.in_ok-left.left.items ≤ 64 = omega (arith, c.len.ensures, c.if-len-gt-MOST_MEMBERS.false) in
    let all = c.in_ok-left.ensures.all few in
    let list = c.as_slice-2.ensures.value ∙ all in
    let some : 0 < length (ascending c.as_slice.result.now) =
    omega (arith, is_more (vec_len c.in_ok-left.left) (sym c.is_empty.ensures ∙ c.if-is_empty.false), ap length all) in
    let v = c.declarations-law.ensures.sound in
    let here = c.as_slice.ensures.value ∙ c.in_ok-brought.ensures c.args.s.now (later_here c.args.s.now v) in
    let known = c.in_ok-made.ensures.known (subst (IsLoneKnown c.args.s.now) (sym (list ∙ ap ascending here))
    (lone_known c.args.s.now v c.args.t.now.kids.now c.requires)) in
    lone_is c.joined.new.s c.args.t.now (λ f l. no_place c.odd_spread.result c.in_default.not-Some ∙ c.odd_spread.ensures f
    (later_trans c.args.s.now c.joined.new.s f c.joined.ensures.grown.later l))
    (λ f l. sym c.if-not-are_sized.false ∙ c.are_sized.ensures f (later_trans c.args.s.now c.joined.new.s f c.joined.ensures.grown.later l))
    c.as_slice.result.now (λ f l. c.as_slice.ensures.value ∙ c.in_ok-brought.ensures f
    (later_trans c.args.s.now c.joined.new.s f c.joined.ensures.grown.later l)) some (subst (λ (js : List ℕ). length js ≤ 64) all few)
    c.in_ok-made.made (λ f l. ap (joined f) (sym list) ∙ c.in_ok-made.ensures.id f l)
    (omega (arith, ap length all, c.len-2.ensures, c.if-len-eq1.true)) c.joined.ensures.grown.later.sound known
    (c.in_ok-made.ensures.member (omega (arith, ap length c.as_slice-2.ensures.value, c.len-2.ensures, c.if-len-eq1.true)))

pub returns-then-not-is_small-clause-err : goal.returns-then-not-is_small-clause-err
returns-then-not-is_small-clause-err c =
    let p = c.node.inside.place in
    let few : length c.in_ok-left.left.items ≤ 64 = omega (arith, c.len.ensures, c.if-len-gt-MOST_MEMBERS.false) in
    let all = c.in_ok-left.ensures.all few in
    let list = c.as_slice-2.ensures.value ∙ all in
    let some : 0 < length (ascending c.as_slice.result.now) =
    omega (arith, is_more (vec_len c.in_ok-left.left) (sym c.is_empty.ensures ∙ c.if-is_empty.false), ap length all) in
    subst (IsOwnStop c.joined.new.s c.args.t.now ki.TypeUnion) (sym c.stop-then-not-is_small.ensures)
    (union_large c.joined.new.s c.args.t.now
    (λ f l. no_place c.odd_spread.result c.in_default.not-Some ∙ c.odd_spread.ensures f
    (later_trans c.args.s.now c.joined.new.s f c.joined.ensures.grown.later l))
    (λ f l. sym c.if-not-are_sized.false ∙ c.are_sized.ensures f (later_trans c.args.s.now c.joined.new.s f c.joined.ensures.grown.later l))
    c.as_slice.result.now (λ f l. c.as_slice.ensures.value ∙ c.in_ok-brought.ensures f
    (later_trans c.args.s.now c.joined.new.s f c.joined.ensures.grown.later l)) some (subst (λ (js : List ℕ). length js ≤ 64) all few)
    c.in_ok-made.made (λ f l. ap (joined f) (sym list) ∙ c.in_ok-made.ensures.id f l)
    (fault_at 18 p) p refl (λ f. sym (ap (λ n. (head n).place) c.node.view_is))
    (omega (arith, ap length all, c.len-2.ensures, c.if-len-eq1.false, some))
    (λ f l. c.is_small.ensures.large c.if-not-is_small.true f l))

pub returns-clause-ok : goal.returns-clause-ok
returns-clause-ok c =
    let few : length c.in_ok-left.left.items ≤ 64 = omega (arith, c.len.ensures, c.if-len-gt-MOST_MEMBERS.false) in
    let all = c.in_ok-left.ensures.all few in
    let list = c.as_slice-2.ensures.value ∙ all in
    let some : 0 < length (ascending c.as_slice.result.now) =
    omega (arith, is_more (vec_len c.in_ok-left.left) (sym c.is_empty.ensures ∙ c.if-is_empty.false), ap length all) in
    let v = c.declarations-law.ensures.sound in
    let here = c.as_slice.ensures.value ∙ c.in_ok-brought.ensures c.args.s.now (later_here c.args.s.now v) in
    let known = c.in_ok-made.ensures.known (subst (IsLoneKnown c.args.s.now) (sym (list ∙ ap ascending here))
    (lone_known c.args.s.now v c.args.t.now.kids.now c.requires)) in
    let many : 1 < length (ascending c.as_slice.result.now) = omega (arith, ap length all, c.len-2.ensures, c.if-len-eq1.false, some) in
    union_is c.joined.new.s c.args.t.now (λ f l. no_place c.odd_spread.result c.in_default.not-Some ∙ c.odd_spread.ensures f
    (later_trans c.args.s.now c.joined.new.s f c.joined.ensures.grown.later l))
    (λ f l. sym c.if-not-are_sized.false ∙ c.are_sized.ensures f (later_trans c.args.s.now c.joined.new.s f c.joined.ensures.grown.later l))
    c.as_slice.result.now (λ f l. c.as_slice.ensures.value ∙ c.in_ok-brought.ensures f
    (later_trans c.args.s.now c.joined.new.s f c.joined.ensures.grown.later l)) some (subst (λ (js : List ℕ). length js ≤ 64) all few)
    c.in_ok-made.made (λ f l. ap (joined f) (sym list) ∙ c.in_ok-made.ensures.id f l)
    many known (c.in_ok-made.ensures.row (subst (λ (js : List ℕ). 1 < length js) (sym list) many) ∙ ap (λ (js : List ℕ). Some (ro.Union js))
    list) (c.is_small.ensures.small c.if-not-is_small.false)

pub returns-then-len-eq1-clause-defined : goal.returns-then-len-eq1-clause-defined
returns-then-len-eq1-clause-defined c d =
    let few : length c.in_ok-left.left.items ≤ 64 = omega (arith, c.len.ensures, c.if-len-gt-MOST_MEMBERS.false) in
    let all = c.in_ok-left.ensures.all few in
    let list = c.as_slice-2.ensures.value ∙ all in
    let some : 0 < length (ascending c.as_slice.result.now) =
    omega (arith, is_more (vec_len c.in_ok-left.left) (sym c.is_empty.ensures ∙ c.if-is_empty.false), ap length all) in
    let v = c.declarations-law.ensures.sound in
    let here = c.as_slice.ensures.value ∙ c.in_ok-brought.ensures c.args.s.now (later_here c.args.s.now v) in
    c.in_ok-made.ensures.defined (λ i m. all_defined c.args.s.now v c.args.t.now.kids.now d i
    (subst (λ (js : List ℕ). Contains js i) (list ∙ ap ascending here) m))

pub returns-clause-defined : goal.returns-clause-defined
returns-clause-defined c d =
    let few : length c.in_ok-left.left.items ≤ 64 = omega (arith, c.len.ensures, c.if-len-gt-MOST_MEMBERS.false) in
    let all = c.in_ok-left.ensures.all few in
    let list = c.as_slice-2.ensures.value ∙ all in
    let some : 0 < length (ascending c.as_slice.result.now) =
    omega (arith, is_more (vec_len c.in_ok-left.left) (sym c.is_empty.ensures ∙ c.if-is_empty.false), ap length all) in
    let v = c.declarations-law.ensures.sound in
    let here = c.as_slice.ensures.value ∙ c.in_ok-brought.ensures c.args.s.now (later_here c.args.s.now v) in
    c.in_ok-made.ensures.defined (λ i m. all_defined c.args.s.now v c.args.t.now.kids.now d i
    (subst (λ (js : List ℕ). Contains js i) (list ∙ ap ascending here) m))
