use Rattle.std.proofs.Common.{◌≡◌, ◌+◌, ◌-◌, ◌*◌, ◌++◌, [], ◌∷◌, ℕ, List, None, length, take, replicate, true, refl, sym, ◌∙◌, ap, subst, arith, length-append, vec_len}
use Rattle.std.specs.Prelude.{Result, Ok, Err, Some, is_ok, not, nat_eq, OnOk, if◌then◌else◌}
use Rattle.std.specs.HashMap.{get}
use Rattle.std.proofs.lemmas.List.{take_all, length-replicate}
use Rattle.il_mem.specs.Kept.{Held, page_size, place_in}
use Rattle.il_mem.proofs.PageLists.{entered-push, held, held_same}
use Rattle.il_mem.proofs.pages.Pages.add.Goals as goal

-- what holds where a call succeeded
ok_holds : {T E : Type 0} (r : Result T E) (P : Type 0) → is_ok r ≡ true → OnOk r P → P
ok_holds (Ok x) P e h = h
ok_holds (Err x) P e h = cc

-- bytes that are filled up by a page
resized : (old new : List ℕ) (room size fill : ℕ) → new ≡ take (room + 4096) old ++ replicate (room + 4096 - size) fill → room ≡ size →
    length old ≡ size →
    new ≡ old ++ replicate 4096 fill
resized old new room size fill e f g =
    let rest : room + 4096 - size ≡ 4096 = omega (arith, f) in
    e ∙ rw (take_all (room + 4096) old (omega (arith, f, g)), rest) refl

pub invariant_of-self-else-is_err-2 : goal.invariant_of-self-else-is_err-2
invariant_of-self-else-is_err-2 c =
    let old = c.self.inside in
    let ok : is_ok c.push.result ≡ true = c.is_err.ensures.negation ∙ ap not c.if-is_err.false in
    let ok' : is_ok c.insert.result ≡ true = c.is_err-2.ensures.negation ∙ ap not c.if-is_err-2.false in
    let pushed : c.push.new.self.items ≡ old.numbers.items ++ c.args.page ∷ [] = rw ok at c.push.ensures.items in
    let grown = resized old.bytes.items c.resize.new.self.items c.len-room.result
    (vec_len old.bytes) old.fill c.in_ok-resize.ensures.items c.len-room.ensures
    (omega (arith, old.bytes.ok.0)) in
    let fresh = subst (λ (h : Held). place_in h.pages c.args.page ≡ None) (sym c.self.view_is) c.requires in
    let size : c.len-place.result ≡ length old.numbers.items = omega (arith, c.len-place.ensures, old.numbers.ok.0) in
    let updates = (ok_holds c.insert.result _ ok' c.insert.ensures.updates).0 in
    let updates' = subst (λ (n : ℕ). (p : ℕ) →
    get nat_eq c.insert.new.self p ≡ (if nat_eq c.args.page p then Some n else get nat_eq old.places p)) size updates in
    let entered = entered-push old.places c.insert.new.self old.numbers.items c.args.page c.self.invariant.entered fresh updates' in
    let long : length (old.bytes.items ++ replicate 4096 old.fill) ≡ page_size * length (old.numbers.items ++ c.args.page ∷ []) =
    length-append old.bytes.items (replicate 4096 old.fill)
    ∙ rw (length-append old.numbers.items (c.args.page ∷ []), length-replicate 4096 old.fill, c.self.invariant.sized) (omega arith) in
    rw (pushed, grown) (record { entered = entered; sized = long })

pub returns-clause-ok : goal.returns-clause-ok
returns-clause-ok c =
    let old = c.self.inside in
    let now = c.args.self.now in
    let ok : is_ok c.push.result ≡ true = c.is_err.ensures.negation ∙ ap not c.if-is_err.false in
    let pushed : c.push.new.self.items ≡ old.numbers.items ++ c.args.page ∷ [] = rw ok at c.push.ensures.items in
    let grown = resized old.bytes.items c.resize.new.self.items c.len-room.result
    (vec_len old.bytes) old.fill c.in_ok-resize.ensures.items c.len-room.ensures
    (omega (arith, old.bytes.ok.0)) in
    let all = held_same old.fill old.fill c.push.new.self.items (old.numbers.items ++ c.args.page ∷ []) c.resize.new.self.items
    (old.bytes.items ++ replicate 4096 old.fill) refl pushed grown in
    all ∙ ap (λ (h : Held). held h.fill (h.pages ++ c.args.page ∷ []) (h.bytes ++ replicate 4096 h.fill)) c.self.view_is
