use Rattle.std.proofs.Common.{◌≡◌, ◌++◌, drop, length, map, Some}
use Rattle.std.specs.Prelude.{slice_get}
use Rattle.hare_tree.specs.declared.tree.FileTree.{FileTree}
use Rattle.std.proofs.Common.{List}
use Rattle.hare_steps.specs.Plans.{decl_at}
use Rattle.hare_steps.proofs.listed.push_places.Given as goal

-- what has been put, and what is left to be put
abbrev pub invariant-loop-decl : goal.invariant-loop-decl
invariant-loop-decl l =
    (fs : List FileTree) (f : FileTree) → slice_get fs l.file ≡ Some f → length f.decls ≡ l.count
    → map (decl_at fs) l.places.items ++ map Some (drop l.decl f.decls) ≡ map (decl_at fs) l.initial.places.items ++ map Some f.decls
