use Rattle.std.proofs.Common.{◌≡◌, ℕ, Bool, true, false, [], ◌∷◌, refl, sym, ◌∙◌, subst}
use Rattle.std.specs.Prelude.{Ok, if◌then◌else◌}
use Rattle.std.specs.Int.{from_bool}
use Rattle.hx_runtime.specs.declared.runtime.RuntimeFunction.TheVariants as function
use Rattle.il_acts.specs.declared.acted.Acted.TheVariants as acted
use Rattle.il_acts.specs.Acts.{AnswersAlone}
use Rattle.il_acts.proofs.Answering.{same_done, same_wild}
use Rattle.il_acts.proofs.bytes.same_bytes.Goals as goal

-- a truth value as a number
one_or_none : (b : Bool) → from_bool b ≡ (if b then 1 else 0)
one_or_none true = refl
one_or_none false = refl

pub returns-in-Ok-clause-done : goal.returns-in-Ok-clause-done
returns-in-Ok-clause-done c = λ heap.
    let it = c.args.memory.now in
    let args = c.args.a ∷ c.args.b ∷ c.args.n ∷ [] in
    subst (λ (v : ℕ). AnswersAlone it it heap heap function.Same args (Ok (acted.Gives v c.args.n)))
    (sym (c.from.ensures ∙ one_or_none c.in-Ok.equal))
    (same_done it heap c.args.a c.args.b c.args.n c.in-Ok.equal c.in-Ok.ensures)

pub returns-in-Err-clause-done : goal.returns-in-Err-clause-done
returns-in-Err-clause-done c = λ heap.
    same_wild c.args.memory.now heap c.args.a c.args.b c.args.n c.in-Err.field-0 c.in-Err.ensures
