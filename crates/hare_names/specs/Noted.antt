-- What is noted of the paths of the declarations of files. No public clause cites it.
use Rattle.std.specs.Prelude.{ℕ, ◌+◌, List, [], ◌∷◌, fold}
use Rattle.hare_tree.specs.declared.tree.FileTree.{FileTree}
use Rattle.hare_tree.specs.Node.{Node}
use Rattle.hare_modules.specs.Directory.{Directory}
use Rattle.hare_names.specs.declared.notes.Notes.{Notes}
use Rattle.hare_names.specs.Spots.{noted, spots_in}

-- the notes with the paths of a declaration more
abbrev pub decl_noted : Directory → ℕ → Notes → Node → Notes
decl_noted d f n t = fold (noted d f) n (spots_in 0 [] t)

-- with those of files, of which the first has this number
abbrev pub files_noted : Directory → ℕ → Notes → List FileTree → Notes
files_noted d f n [] = n
files_noted d f n (t ∷ ts) = files_noted d (f + 1) (fold (decl_noted d f) n t.decls) ts
