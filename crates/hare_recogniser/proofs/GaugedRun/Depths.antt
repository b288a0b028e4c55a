-- What the gauge tells is the first limit that is passed.
use Rattle.std.proofs.Common.{◌≡◌, ℕ, suc, ◌-◌, List, [], ◌∷◌, true, Some, None, Option, ◌∙◌, subst, arith}
use Rattle.hare_tree.specs.declared.token.Token.{Token}
use Rattle.hare_tree.specs.declared.form.Sort.{Sort}
use Rattle.hare_tree.specs.Grammar.{Language, IsOn}
use Rattle.hare_automaton.specs.Rows.{of}
use Rattle.hare_prefixes.specs.Viable.{has_trees}
use Rattle.hare_nesting.specs.Depth.{TellsDepth, gauged, gauged_file}
use Rattle.hare_nesting.specs.Gauge.{Gauged, start}
use Rattle.hare_nesting.proofs.LeastFault.Gauges.{gauged_trees_fit, gauged_files_fit}
use Rattle.hare_nesting.proofs.OverFiles.Unused.{gauge_closed}
use Rattle.hare_nesting.specs.Depth.{closed}
use Rattle.hare_recogniser.specs.Gauged.{IsLeastOf}
use Rattle.hare_recogniser.specs.Limits.{IsFirstDepth, TreesFit, FilesFit}

pub first_told : {T : Type 0} (l : Language T) (ts : List Token) (g : Gauged) → TellsDepth l ts g → (at : ℕ) (d : Option ℕ) →
    IsLeastOf g.faults at d → IsFirstDepth l ts at d
first_told l ts g t at None h = λ m f. let q = t.least m f in subst (λ y. IsOn (suc q.0) y) h q.2
first_told l ts g t at (Some n) h =
    (h.0, t.told (n - at) h.1, λ m i f. let q = t.least m f in absurd (omega (arith, i, q.1, h.2 (suc q.0) q.2)))

-- where nothing is told, trees and files that are read keep the limits
pub trees_fit : (s : Sort) → has_trees s ≡ true → (ts : List Token) (at : ℕ) (d : Option ℕ) → IsLeastOf (gauged s ts).faults at d →
    d ≡ None → TreesFit s ts
trees_fit s c ts at d h e =
    let g = subst (IsLeastOf (gauged s ts).faults at) e h in
    λ file rest tree i. gauged_trees_fit s c file (closed ts) rest tree i (gauge_closed ts (of s ∷ []) start ∙ g)

pub files_fit : (ts : List Token) (at : ℕ) (d : Option ℕ) → IsLeastOf (gauged_file ts).faults at d → d ≡ None → FilesFit ts
files_fit ts at d h e =
    let g = subst (IsLeastOf (gauged_file ts).faults at) e h in
    λ file rest uses decls i. gauged_files_fit file ts rest uses decls i g
