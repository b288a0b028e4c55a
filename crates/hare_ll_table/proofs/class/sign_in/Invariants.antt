use Rattle.std.proofs.Common.{◌≡◌, drop}
use Rattle.hare_automaton.specs.declared.class.Class.{Class}
use Rattle.hare_automaton.specs.Classes.{sign_or}
use Rattle.hare_ll_table.proofs.class.sign_in.Given as goal

abbrev pub invariant-loop-sign : goal.invariant-loop-sign
invariant-loop-sign l = (other : Class) → sign_or other l.signs l.text ≡ sign_or other (drop l.sign-index l.signs) l.text
