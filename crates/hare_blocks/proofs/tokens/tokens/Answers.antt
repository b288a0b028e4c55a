use Rattle.std.proofs.Common.{◌≡◌, ◌<◌, ◌++◌, [], ◌∷◌, List, length, Some, refl, sym, ap, ◌∙◌, subst, append-nil, arith}
use Rattle.std.proofs.lemmas.Bool.Decides.{nat_tests}
use Rattle.hare_blocks.specs.declared.token.Token.{Token}
use Rattle.hare_blocks.specs.Tokens.{Spells}
use Rattle.hare_blocks.specs.Lexing.{unblanked, token_at}
use Rattle.hare_blocks.specs.Found.{found_token}
use Rattle.hare_blocks.proofs.FirstTokens.Spelled.{spells_end, spells_blanks, spells_none, spells_more, spells_first, spells_shorter}
use Rattle.hare_blocks.proofs.FirstTokens.Spelled.{all_pushed}
use Rattle.hare_blocks.proofs.tokens.tokens.Goals as goal

pub returns-then-is_empty-clause-sound : goal.returns-then-is_empty-clause-sound
returns-then-is_empty-clause-sound c =
    let n : length (unblanked c.rest.rest.now) ≡ 0 = grind (arith, nat_tests) in
    rw append-nil at (c.rest.invariant.sound [] (spells_blanks c.rest.rest.now n))

pub returns-then-is_empty-clause-whole : goal.returns-then-is_empty-clause-whole
returns-then-is_empty-clause-whole c = λ ts h.
    let n : length (unblanked c.rest.rest.now) ≡ 0 = grind (arith, nat_tests) in
    let k = c.rest.invariant.whole ts h in
    let none = spells_end k.0 c.rest.rest.now k.2 n in
    sym (k.1 ∙ ap (λ us. c.rest.tokens.items ++ us) none ∙ append-nil c.rest.tokens.items)

pub returns-in_default-clause-whole : goal.returns-in_default-clause-whole
returns-in_default-clause-whole c = λ ts h.
    let n : 0 < length (unblanked c.rest.rest.now) = grind (arith, nat_tests) in
    let k = c.rest.invariant.whole ts h in
    spells_none k.0 c.rest.rest.now k.2 n (ap token_at (sym c.unblanked-front.ensures) ∙ sym c.in_default.ensures)

pub rest-smaller : goal.rest-smaller
rest-smaller c = spells_shorter c.rest.rest.now (found_token c.in-Some.found) c.in-Some.behind.now
    (ap token_at (sym c.unblanked-front.ensures) ∙ sym c.in-Some.ensures)

pub rest-preserved : goal.rest-preserved
rest-preserved c =
    let rest = c.rest.rest.now in
    let items = c.rest.tokens.items in
    let token = found_token c.in-Some.found in
    let behind = c.in-Some.behind.now in
    let n : 0 < length (unblanked rest) = grind (arith, nat_tests) in
    let first : token_at (unblanked rest) ≡ Some (token, behind) = ap token_at (sym c.unblanked-front.ensures) ∙ sym c.in-Some.ensures in
    let all = λ (ts us others : List Token) (h : ts ≡ items ++ us) (more : us ≡ token ∷ others). all_pushed ts items us
    c.push.new.self.items others token h more (rw c.in_ok-token.ensures at c.in_ok-push.ensures.items) in
    record {
      sound = λ us h. subst (λ ts. Spells ts c.args.text.now) (all _ (token ∷ us) us refl refl)
          (c.rest.invariant.sound (token ∷ us) (spells_first us rest token behind first h));
      whole = λ ts h.
          let k = c.rest.invariant.whole ts h in
          let m = spells_more k.0 rest token behind k.2 n first in
          (m.0, all ts k.0 m.0 k.1 m.1, m.2);
    }
