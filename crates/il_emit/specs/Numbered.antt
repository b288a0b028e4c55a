-- Numbers of names that a text can hold.
use Rattle.std.specs.Prelude.{suc, ◌<◌, ◌^◌, true}
use Rattle.flat_code.specs.declared.program.FlatFn.{FlatFn}
use Rattle.flat_code.specs.Shape.{code_of}
use Rattle.il_emit.specs.Lines.{labels_in, addresses_in}

-- labels, addresses and temporaries of a function have numbers of 64 bits, and so has its frame
pub record HasFewNames (f : FlatFn) : Type 0 where
  pub labels : suc (labels_in (code_of f.body) true) < 2 ^ 64
  pub addresses : addresses_in (code_of f.body) < 2 ^ 64
  pub temps : f.temps < 2 ^ 64
  pub frame : f.frame < 2 ^ 64
