use Rattle.std.proofs.Common.{◌≡◌, ◌++◌, sym, ◌∙◌, ap, arith, true, false}
use Rattle.std.proofs.lemmas.Option.{slice_get_within}
use Rattle.hare_tree.specs.Grammar.{is_proper_string, string_at}
use Rattle.hare_ll_table.proofs.SeenTokens.Joining.{first_so_far, more_so_far, ends_at, ends_past}
use Rattle.hare_ll_table.proofs.SeenTokens.Places.{strings_end_at, strings_end_past}
use Rattle.hare_ll_table.proofs.strings.strings_at.Goals as goal

pub place_behind-next-requires : goal.place_behind-next-requires
place_behind-next-requires c = slice_get_within c.args.tokens.now c.args.at c.args.first.now c.requires.stands

pub loop-token-init : goal.loop-token-init
loop-token-init c =
    let w = slice_get_within c.args.tokens.now c.args.at c.args.first.now c.requires.stands in
    record {
      so_far = first_so_far c.args.tokens.now c.args.at c.place_behind-next.result c.args.first.now c.in_ok-text.text
          (sym c.requires.stands) c.requires.proper c.place_behind-next.ensures (c.in_ok-text.ensures ∙ c.bytes.ensures);
      behind = omega (arith, c.place_behind-next.ensures);
      within = omega (arith, c.place_behind-next.ensures, w);
    }

pub returns-then-not-is_proper_string : goal.returns-then-not-is_proper_string
returns-then-not-is_proper_string c =
    let i = c.loop-token.invariant in
    let e : is_proper_string c.in-Some.token.now ≡ false = cc in
    let s = string_at c.args.first.now.place c.loop-token.text in
    rw (c.as_one.ensures.token, c.as_one.ensures.next)
    (strings_end_at c.args.tokens.now c.args.at c.loop-token.next s c.in-Some.token.now
    (ends_at c.args.tokens.now c.args.at c.loop-token.next s c.in-Some.token.now i.so_far c.in-Some.ensures e) c.in-Some.ensures e
    i.behind i.within)

pub place_behind-next-requires-in-Some : goal.place_behind-next-requires-in-Some
place_behind-next-requires-in-Some c = slice_get_within c.args.tokens.now c.loop-token.next c.in-Some.token.now (sym c.in-Some.ensures)

pub loop-token-smaller : goal.loop-token-smaller
loop-token-smaller c =
    let w = slice_get_within c.args.tokens.now c.loop-token.next c.in-Some.token.now (sym c.in-Some.ensures) in
    omega (arith, c.place_behind-next-in-Some.ensures, w)

pub loop-token-preserved : goal.loop-token-preserved
loop-token-preserved c =
    let i = c.loop-token.invariant in
    let w = slice_get_within c.args.tokens.now c.loop-token.next c.in-Some.token.now (sym c.in-Some.ensures) in
    let e : is_proper_string c.in-Some.token.now ≡ true = cc in
    let t : c.extend.new.self ≡ c.loop-token.text ++ c.in-Some.token.now.text =
    c.in_ok-extend.ensures.ok ∙ ap (λ z. c.loop-token.text ++ z) c.bytes-in-Some.ensures in
    record {
      so_far = more_so_far c.args.tokens.now c.args.at c.loop-token.next c.place_behind-next-in-Some.result c.args.first.now.place
          c.loop-token.text c.extend.new.self c.in-Some.token.now i.so_far c.in-Some.ensures e c.place_behind-next-in-Some.ensures t;
      behind = omega (arith, c.place_behind-next-in-Some.ensures, i.behind);
      within = omega (arith, c.place_behind-next-in-Some.ensures, w);
    }

pub returns : goal.returns
returns c =
    let i = c.loop-token.invariant in
    let s = string_at c.args.first.now.place c.loop-token.text in
    rw (c.as_one-2.ensures.token, c.as_one-2.ensures.next)
    (strings_end_past c.args.tokens.now c.args.at c.loop-token.next s
    (ends_past c.args.tokens.now c.args.at c.loop-token.next s i.so_far c.in_default.ensures) c.in_default.ensures i.behind i.within)
