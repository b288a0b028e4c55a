-- Lines behind lines.
use Rattle.std.proofs.Common.{◌≡◌, List, [], ◌∷◌, ◌++◌, refl}
use Rattle.il_emit.specs.declared.draft.Draft.{Draft}
use Rattle.il_emit.specs.Lines.{Line}
use Rattle.il_emit.specs.Drafts.{add, add_all}

pub add_all_append : (d : Draft) (xs ys : List Line) → add_all d (xs ++ ys) ≡ add_all (add_all d xs) ys
add_all_append d [] ys = refl
add_all_append d (x ∷ xs) ys = add_all_append (add d x) xs ys
