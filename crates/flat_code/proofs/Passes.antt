-- What is tested is that the program is well formed.
use Rattle.std.proofs.Common.{◌≡◌, ◌↔◌, Bool, true, ◌&&◌, refl, IsTrue}
use Rattle.std.proofs.lemmas.Bool.{and_parts}
use Rattle.flat_code.specs.declared.program.FlatProgram.{FlatProgram}
use Rattle.flat_code.specs.WellFormed.{IsWellFormed, passes}

both_true : (a b : Bool) → a ≡ true → b ≡ true → (a && b) ≡ true
both_true a b ha hb = rw (ha, hb) refl

to : (p : FlatProgram) → passes p ≡ true → IsWellFormed p
unfolding passes
to p h =
    let a = and_parts _ _ h in
    let b = and_parts _ _ a.1 in
    let c = and_parts _ _ b.1 in
    let d = and_parts _ _ c.1 in
    let e = and_parts _ _ d.1 in
    let f = and_parts _ _ e.1 in
    let g = and_parts _ _ f.1 in
    record {
      functions_differ = a.0;
      globals_differ = b.0;
      main = c.0;
      functions = d.0;
      globals = e.0;
      few_functions = f.0;
      few_globals =
          g.0;
      few_bytes = g.1;
    }

from : (p : FlatProgram) → IsWellFormed p → passes p ≡ true
unfolding passes
from p w = both_true _ _ w.functions_differ (both_true _ _ w.globals_differ
    (both_true _ _ w.main (both_true _ _ w.functions
    (both_true _ _ w.globals (both_true _ _ w.few_functions (both_true _ _ w.few_globals w.few_bytes))))))

pub passes_is : (p : FlatProgram) → IsTrue (passes p) ↔ IsWellFormed p
passes_is p = (to p, from p)
