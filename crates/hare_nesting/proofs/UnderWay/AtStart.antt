-- Where nothing is read yet, and where a whole tree stands there alone.
use Rattle.std.proofs.Common.{◌≡◌, ◌≤◌, [], ◌∷◌, true, false, refl}
use Rattle.hare_tree.specs.declared.form.Sort.{Sort}
use Rattle.hare_tree.specs.Node.{Node}
use Rattle.hare_tree.specs.Spell.{start_of}
use Rattle.hare_automaton.specs.Rows.{of}
use Rattle.hare_automaton.specs.Engine.{add, bottom, begun}
use Rattle.hare_automaton.specs.OneTree.{file_symbols}
use Rattle.hare_nesting.specs.Gauge.{nodes_in, start}
use Rattle.hare_nesting.proofs.UnderWay.Stacks.{mark, faults_of, first_faults, stack_faults, is_ordered, all_below, follows, Held}
use Rattle.hare_nesting.proofs.UnderWay.Grown.{is_behind, behind_plain, behind_later, grown}

pub sort_at_start : (s : Sort) → Held 1 (of s ∷ []) start
unfolding nodes_in is_ordered all_below follows
sort_at_start s = record { fitting = refl; ordered = refl; below = refl; following = refl; readied = refl }

pub files_at_start : Held 1 file_symbols start
unfolding nodes_in is_ordered all_below follows
files_at_start = record { fitting = refl; ordered = refl; below = refl; following = refl; readied = refl }

pub none_at_start : stack_faults [] bottom ≡ []
unfolding stack_faults first_faults
none_at_start = refl

-- ---- a whole tree

alone : (t : Node) → is_behind 1 [] (mark t) ≡ true → stack_faults [] (add t bottom) ≡ faults_of 0 t
unfolding stack_faults first_faults
alone t e = grown false 0 (begun (start_of 0) []) t e

pub plain_alone : (t : Node) → (mark t).node ≡ false → stack_faults [] (add t bottom) ≡ faults_of 0 t
plain_alone t e = alone t (behind_plain 1 [] (mark t) e)

pub tree_alone : (t : Node) → 1 ≤ (mark t).first → stack_faults [] (add t bottom) ≡ faults_of 0 t
tree_alone t e = alone t (behind_later 1 [] (mark t) e)
