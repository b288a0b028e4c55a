-- A file is laid out as before.
use Rattle.std.proofs.Common.{◌≡◌, ℕ, List, [], ◌∷◌, ◌++◌, false, length, refl, sym, ap, ◌∙◌, subst, append_assoc}
use Rattle.std.proofs.lemmas.Bool.{and_parts}
use Rattle.hare_tree.specs.declared.tree.FileTree.{FileTree}
use Rattle.hare_tree.specs.Spell.{spell_all}
use Rattle.hare_ways.specs.declared.way.Way.{Way}
use Rattle.hare_ways.specs.Ways.{end_way, roots_ways, file_ways}
use Rattle.hare_ways.proofs.Counted.{files_have_ways}
use Rattle.hare_commas.proofs.AddedCommas.Flags.{IsPlain}
use Rattle.hare_commas.proofs.AddedCommas.Plain.{file-plain}
use Rattle.hare_commas.proofs.WholeFiles.Files.{commas-stand-in-trees}
use Rattle.hare_lines.specs.Read.{seen, comments_before}
use Rattle.hare_lines.specs.Gaps.{at_start, placed, next_way, laid}
use Rattle.hare_lines.specs.Layout.{with_end, laid_bytes}
use Rattle.hare_again.specs.Again.{layout_seen, LayoutsStay, SourcesStay}
use Rattle.hare_again.proofs.LaidAsBefore.PiecesAgain.{pieces-stay}
use Rattle.hare_again.proofs.LaidAsBefore.Sources.{sources-count}
use Rattle.hare_again.proofs.LaidAsBefore.Counts.{EndsPlain, counts-spread}

first-way : (ws : List Way) → IsPlain ws → (next_way ws).comma ≡ false
first-way [] p = refl
first-way (w ∷ ws) p = p

last-way : (ws : List Way) (w : Way) → w.comma ≡ false → EndsPlain (ws ++ w ∷ [])
last-way [] w e = e
last-way (v ∷ []) w e = e
last-way (v ∷ u ∷ ws) w e = last-way (u ∷ ws) w e

file-ends : (cs : List ℕ) (t : FileTree) → EndsPlain (file_ways cs t)
file-ends cs t =
    let uses = roots_ways cs 0 t.uses in
    let decls = roots_ways cs (length (spell_all 0 t.uses)) t.decls in
    subst EndsPlain (append_assoc uses decls (end_way ∷ [])) (last-way (uses ++ decls) end_way refl)

pub layouts-stay : LayoutsStay
layouts-stay tree xs file shaped many =
    let cs = comments_before 0 false xs in
    let ws = file_ways cs tree in
    let ds = comments_before 0 false (layout_seen tree xs) in
    let spread = counts-spread ws xs (many ∙ sym (files_have_ways cs tree file)) (file-ends cs tree) in
    let a = commas-stand-in-trees cs ds tree shaped spread in
    record {
      again = a.again;
      same = a.same;
      spelled = a.spelled file;
      fits = a.fits;
      stays = ap (λ us. with_end (laid_bytes (laid at_start (placed false 0 us (layout_seen tree xs))))) a.ways_are
          ∙ ap (λ l. with_end (laid_bytes l)) (pieces-stay ws xs (first-way ws (file-plain cs tree)));
    }

pub sources-stay : SourcesStay
sources-stay src text l =
    let xs = seen src l.pieces in
    let shaped = (and_parts _ _ (and_parts _ _ l.file_is.fits).0).0 in
    let s = layouts-stay l.tree xs l.file_is.file_is shaped (sources-count src l.tokens l.tree l.pieces l.are l.file_is.spelled l.cut) in
    record { again = s.again; same = s.same; spelled = s.spelled; fits = s.fits l.file_is.fits; stays = s.stays ∙ sym l.text_is }
