-- What comes of a file that is to be laid out, by its bytes: its layout, or its fault.
use Rattle.std.specs.Prelude.{◌≡◌, ℕ, ◌<◌, ◌≤◌, List, length}
use Rattle.hare_tree.specs.declared.place.Fault.{Fault}
use Rattle.hare_decl.specs.Answers.{HasSourceFault}
use Rattle.hare_lines.specs.Layout.{IsLaidOut}
use Rattle.hare_sources.specs.Files.{most_of_file}

-- The text is the layout of these bytes, and the only one; and the bytes have no fault of tokens and syntax. There are not too many.
pub record HasLayout (source text : List ℕ) : Type 0 where
  pub small : length source ≤ most_of_file
  pub laid : IsLaidOut source text
  pub only : (other : List ℕ) → IsLaidOut source other → other ≡ text
  pub faultless : (f : Fault) → ¬ HasSourceFault 0 source f

-- the fault of a file with too many bytes: E1 at its start
abbrev pub too_large_fault : Fault
too_large_fault = record { number = 1; place = record { file = 0; line = 1; column = 1 } }

-- the fault of a file that is to be laid out: that it is too large; or else the first of its tokens and syntax, E3 to E10
pub data IsLayoutFault (source : List ℕ) (f : Fault) : Type 0 where
  too_large : most_of_file < length source → f ≡ too_large_fault → IsLayoutFault source f
  of_source : length source ≤ most_of_file → HasSourceFault 0 source f → IsLayoutFault source f

-- The bytes have this fault, and no other; and where they are not too many, they have no layout.
pub record HasNoLayout (source : List ℕ) (f : Fault) : Type 0 where
  pub fault : IsLayoutFault source f
  pub only : (other : Fault) → IsLayoutFault source other → other ≡ f
  pub none : (text : List ℕ) → length source ≤ most_of_file → ¬ IsLaidOut source text
