use Rattle.hare_unit.proofs.laws.law_faults_meet.Goals as goal

pub returns-clause-one : goal.returns-clause-one
returns-clause-one c = λ paths p s r l f g h k i j. c.law_one_fault_of_phases.ensures.one paths p l f g (h.each l i) (k.each l j)

pub returns-clause-left : goal.returns-clause-left
returns-clause-left c = λ paths p s r l ds f h k i j.
    let here = h.each l i in
    c.law_one_fault_of_phases.ensures.left paths p l ds f here.faultless here.typed (k.each l j)
