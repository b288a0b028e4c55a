-- The tokens at which the imports and declarations of a file pass a limit are their own.
use Rattle.std.proofs.Common.{◌≡◌, ℕ, ◌+◌, ◌<◌, List, ◌++◌, true, false, inl, inr, length, arith}
use Rattle.std.specs.List.{list_all}
use Rattle.std.proofs.lemmas.List.{length-append}
use Rattle.hare_tree.specs.declared.form.Sort.{Sort}
use Rattle.hare_tree.specs.declared.form.Sort.TheVariants as so
use Rattle.hare_tree.specs.declared.form.Lead.TheVariants as le
use Rattle.hare_tree.specs.Node.{Node, nodes_of}
use Rattle.hare_tree.specs.Spell.{spells, spell_all}
use Rattle.hare_tree.specs.Shape.{is_shaped}
use Rattle.hare_tree.specs.Depth.{begins_led, deep_all}
use Rattle.hare_tree.specs.Grammar.{IsOn}
use Rattle.hare_nesting.proofs.UnderWay.Lists.{on_either}
use Rattle.hare_nesting.proofs.ByTheLetter.Begins.{side_within}
use Rattle.hare_nesting.proofs.ByTheLetter.FormKids.{all_have_forms}
use Rattle.hare_nesting.proofs.ByTheLetter.LetterFiles.{deep_file}
use Rattle.hare_nesting.proofs.ByTheLetter.Inside.{each_inside}

-- trees side by side
all_inside : (s : Sort) (n : ℕ) (us : List Node) → list_all (is_shaped s) us ≡ true → (k : ℕ) → IsOn k (deep_all n us) →
    k < n + length (spell_all 0 us)
all_inside s n us e k i =
    let ss = spells 0 (nodes_of us) in
    each_inside n (n + length (spell_all 0 us)) (begins_led le.Nothing n ss) 0 k false (nodes_of us) (all_have_forms s us e)
    (side_within n ss) i

pub file_inside : (uses decls : List Node) → list_all (is_shaped so.Use) uses ≡ true → list_all (is_shaped so.Decl) decls ≡ true → (k : ℕ) →
    IsOn k (deep_file uses decls) → k < length (spell_all 0 uses ++ spell_all 0 decls)
file_inside uses decls e f k i =
    let n = length (spell_all 0 uses) in
    let a = length-append (spell_all 0 uses) (spell_all 0 decls) in
    elim (on_either k (deep_all 0 uses) (deep_all n decls) i) [
      | inl j ↦ let b = all_inside so.Use 0 uses e k j in omega (arith, a, b)
      | inr j ↦ let b = all_inside so.Decl n decls f k j in omega (arith, a, b)
    ]
