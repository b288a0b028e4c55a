use Rattle.std.proofs.Common.{◌≡◌, true, false, ◌++◌, ◌∷◌, [], List, map, ap, sym, ◌∙◌, Option}
use Rattle.std.specs.Option.{option_copied}
use Rattle.hare_types.specs.declared.coercion.Coercion.{Coercion}
use Rattle.hare_types.proofs.LaterLemmas.{later_here, later_trans}
use Rattle.hare_rules.specs.Judged.{was_hinted}
use Rattle.rule_judge.specs.Turns.{context_in, yields_in}
use Rattle.hare_find.specs.Settling.{option_in}
use Rattle.hare_find.proofs.Verdicts.Next.{listed_there, listed_unhinted, left_hinted, left_unhinted}
use Rattle.hare_find.proofs.listed.list_next.Goals as goal

pub unreachable-requires : goal.unreachable-requires
unreachable-requires c =
    let t = c.args.t.now in
    let s = c.was_hinted.new.s in
    let grown = c.was_hinted.ensures.grown.later in
    let l = later_here s grown.sound in
    let w : was_hinted (context_in s t) c.args.i ≡ false = sym (c.in_ok-was_hinted.ensures.value s l) ∙ c.if-branch.false in
    let e = listed_there (context_in s t) c.args.i c.args.count (yields_in t) c.args.v.now.coerce c.requires.within w
    (c.requires.rest s (later_trans c.args.s.now s s grown l)) in
    let p = sym (ap option_copied c.in_default.is) ∙ c.get.ensures ∙ e in
    cc

pub returns-then-branch-clause-rest : goal.returns-then-branch-clause-rest
returns-then-branch-clause-rest c f l =
    let t = c.args.t.now in
    let s = c.was_hinted.new.s in
    let w : was_hinted (context_in f t) c.args.i ≡ true = sym (c.in_ok-was_hinted.ensures.value f l) ∙ c.if-branch.true in
    left_hinted (context_in f t) c.args.i c.args.count (yields_in t) c.args.v.now.coerce c.requires.within w
    (c.requires.rest f (later_trans c.args.s.now s f c.was_hinted.ensures.grown.later l))

pub returns-clause-rest : goal.returns-clause-rest
returns-clause-rest c f l =
    let t = c.args.t.now in
    let s = c.was_hinted.new.s in
    let w : was_hinted (context_in f t) c.args.i ≡ false = sym (c.in_ok-was_hinted.ensures.value f l) ∙ c.if-branch.false in
    left_unhinted (context_in f t) c.args.i c.args.count (yields_in t) c.args.v.now.coerce c.requires.within w
    (c.requires.rest f (later_trans c.args.s.now s f c.was_hinted.ensures.grown.later l))

pub returns-clause-kids : goal.returns-clause-kids
returns-clause-kids c f l =
    let t = c.args.t.now in
    let s = c.was_hinted.new.s in
    let w : was_hinted (context_in f t) c.args.i ≡ false = sym (c.in_ok-was_hinted.ensures.value f l) ∙ c.if-branch.false in
    let e = listed_there (context_in f t) c.args.i c.args.count (yields_in t) c.args.v.now.coerce c.requires.within w
    (c.requires.rest f (later_trans c.args.s.now s f c.was_hinted.ensures.grown.later l)) in
    let p = sym (ap option_copied c.in-Some.is) ∙ c.get.ensures ∙ e ∙ sym (listed_unhinted (context_in f t) c.args.i w) in
    c.in_ok-put_coercion.ensures
    ∙ ap (λ (o : Option Coercion). let os : List (Option Coercion) = map option_in c.args.kids.now ++ o ∷ [] in os) p
