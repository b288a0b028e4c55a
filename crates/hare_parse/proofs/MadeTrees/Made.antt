-- What is under way where a run is done: one whole tree, or a file.
use Rattle.std.proofs.Common.{◌≡◌, ℕ, ◌≤◌, List, [], ◌∷◌, ◌++◌, ap, sym, ◌∙◌, subst, arith}
use Rattle.hare_tree.specs.declared.token.Token.{Token}
use Rattle.hare_tree.specs.declared.form.Sort.{Sort}
use Rattle.hare_tree.specs.Node.{Node}
use Rattle.hare_tree.specs.Spell.{start_of}
use Rattle.hare_automaton.specs.Rows.{of}
use Rattle.hare_automaton.specs.Engine.{Group, begun, Done, run, bottom}
use Rattle.hare_automaton.specs.OneTree.{file_symbols}
use Rattle.hare_prefixes.proofs.Soundness.Readings.{runs_read_trees, runs_read_files}
use Rattle.hare_parse.specs.Heights.{IsBound}
use Rattle.hare_parse.specs.Runs.{HoldsTree}
use Rattle.hare_parse.specs.Files.{imports, others, HaveSorts, HoldsFile, file_made}
use Rattle.hare_parse.proofs.MadeTrees.FileParts.{imports_in, others_in}
use Rattle.hare_parse.proofs.Kids.Heights.{high}

pub holds_tree : (s : Sort) (file : ℕ) (ts rest : List Token) (gs : List Group) → run file ts (of s ∷ []) bottom ≡ Done rest gs →
    HoldsTree gs
holds_tree s file ts rest gs e = let r = runs_read_trees s file ts rest gs e in record { tree = r.tree; is = r.is_made }

pub holds_file : (file : ℕ) (ts rest : List Token) (gs : List Group) → run file ts file_symbols bottom ≡ Done rest gs → HoldsFile gs
holds_file file ts rest gs e =
    let r = runs_read_files file ts rest gs e in
    record { uses = r.uses; decls = r.decls; sorts = record { uses_shaped = r.uses_shaped; decls_shaped = r.decls_shaped }; is = r.is_made }

-- the kids of the innermost tree under way
kids_on : List Group → List Node
kids_on [] = []
kids_on (g ∷ gs) = g.kids

-- the parts of a file are those by which its trees are told apart
pub file_is : (gs : List Group) (ts us ds : List Node) → HoldsFile gs → gs ≡ begun (start_of 0) ts ∷ [] → us ≡ imports ts → ds ≡ others ts →
    (gs ≡ file_made us ds) × HaveSorts us ds
unfolding kids_on
file_is gs ts us ds h e a b =
    let k : ts ≡ h.uses ++ h.decls = ap kids_on (sym e ∙ h.is) in
    let u : us ≡ h.uses = a ∙ ap imports k ∙ imports_in h.uses h.decls h.sorts in
    let d : ds ≡ h.decls = b ∙ ap others k ∙ others_in h.uses h.decls h.sorts in
    rw (u, d) (h.is, h.sorts)

pub file_read : (file : ℕ) (ts rest : List Token) (gs : List Group) (us ds trees : List Node) →
    run file ts file_symbols bottom ≡ Done rest gs →
    gs ≡ begun (start_of 0) trees ∷ [] → us ≡ imports trees → ds ≡ others trees →
    (run file ts file_symbols bottom ≡ Done rest (file_made us ds)) × HaveSorts us ds
file_read file ts rest gs us ds trees e m a b =
    let i = file_is gs trees us ds (holds_file file ts rest gs e) m a b in
    (e ∙ ap (Done rest) i.0, i.1)

-- the trees of a file are as low as the innermost tree under way tells
pub file_low : (gs rest : List Group) (us ds : List Node) (g : Group) (b : ℕ) → gs ≡ file_made us ds → gs ≡ g ∷ rest →
    IsBound b (high g.kids) → b ≤ 256 → high (us ++ ds) ≤ 256
unfolding kids_on
file_low gs rest us ds g b e k i le =
    let kids : g.kids ≡ us ++ ds = ap kids_on (sym k ∙ e) in
    let h : high (us ++ ds) ≤ b = subst (λ ts. high ts ≤ b) kids (i.up_to le) in
    omega (arith, h, le)
