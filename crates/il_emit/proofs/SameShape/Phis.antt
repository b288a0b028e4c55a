-- No block of an emitted function has a phi.
use Rattle.std.proofs.Common.{List, [], ◌∷◌, ◌++◌, map, refl, sym, subst}
use Rattle.flat_code.specs.declared.program.Data.{Data}
use Rattle.flat_code.specs.declared.program.FlatFn.{FlatFn}
use Rattle.flat_code.specs.declared.program.FlatProgram.{FlatProgram}
use Rattle.il_tight.proofs.SameRuns.Runs.{NoPhis}
use Rattle.il_tight.proofs.SameRuns.Twins.{Plain}
use Rattle.il_emit.specs.Emitted.{data_item, blocks_of, function_item, module_of}
use Rattle.il_emit.specs.Lines.{Line, Label, Do, End, function_lines}
use Rattle.il_emit.proofs.Lines.Places.{line_blocks, function_blocks}

lines_plain : (ls : List Line) → Plain (line_blocks ls)
lines_plain [] = tt
lines_plain (Label n ∷ ls) = (refl, lines_plain ls)
lines_plain (Do i ∷ ls) = lines_plain ls
lines_plain (End j ∷ ls) = lines_plain ls

pub blocks_plain : (p : FlatProgram) (f : FlatFn) → Plain (blocks_of p f)
blocks_plain p f = subst Plain (sym (function_blocks p f)) (lines_plain (function_lines p f))

functions_plain : (p : FlatProgram) (fs : List FlatFn) → NoPhis (map (function_item p) fs)
functions_plain p [] = tt
functions_plain p (f ∷ fs) = (blocks_plain p f, functions_plain p fs)

items_plain : (p : FlatProgram) (ds : List Data) (fs : List FlatFn) → NoPhis (map data_item ds ++ map (function_item p) fs)
items_plain p [] fs = functions_plain p fs
items_plain p (d ∷ ds) fs = items_plain p ds fs

pub module_plain : (p : FlatProgram) → NoPhis (module_of p).items
module_plain p = items_plain p p.globals p.functions
