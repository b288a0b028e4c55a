-- What files and names say of the declarations of a program.
use Rattle.std.proofs.Common.{◌≡◌, ◌⊎◌, inl, inr, ℕ, zero, suc, ◌+◌, ◌<◌, ◌≤◌, List, [], ◌∷◌, slice_get, Some, refl, sym, ap, ◌∙◌, subst, arith}
use Rattle.std.proofs.lemmas.List.Concat.{length-flat_map}
use Rattle.std.proofs.lemmas.Option.{slice_get_within}
use Rattle.hare_tree.specs.declared.place.Place.{Place}
use Rattle.hare_tree.specs.declared.token.Meaning.{Meaning}
use Rattle.hare_tree.specs.declared.tree.FileTree.{FileTree}
use Rattle.hare_tree.specs.Node.{Node}
use Rattle.hare_modules.specs.Modules.{module_of}
use Rattle.hare_modules.specs.Uses.{place_of, text_of}
use Rattle.hare_modules.specs.Declarations.{name_in}
use Rattle.hare_names.specs.Answers.{AreFiles, IsFileOf}
use Rattle.hare_sources.specs.Files.{most_of_all}
use Rattle.hare_sources.specs.Named.{ArePaired, AreNamed}
use Rattle.hare_sources.proofs.CountLemmas.{files-are}
use Rattle.hare_whole.specs.Limits.{home_of}
use Rattle.hare_filed.specs.Filed.{home_in, AreFiled, ProgramsAreFiled}
use Rattle.hare_filed.proofs.ListLemmas.{precedes-at}
use Rattle.hare_filed.proofs.FileLemmas.{AreFilesFrom, decls_from, in-file, root-file, decls-ascend, stands_before}
use Rattle.hare_filed.proofs.NameLemmas.{AreHomes, names-clash}
use Rattle.hare_filed.proofs.CountLemmas.{texts-le}

-- two numbers are one, or one of them is smaller
apart : (i j : ℕ) → (i ≡ j) ⊎ ((i < j) ⊎ (j < i))
apart zero zero = inl refl
apart zero (suc j) = inr (inl (omega arith))
apart (suc i) zero = inr (inr (omega arith))
apart (suc i) (suc j) = by (apart i j)
  where
    by : (i ≡ j) ⊎ ((i < j) ⊎ (j < i)) → (suc i ≡ suc j) ⊎ ((suc i < suc j) ⊎ (suc j < suc i))
    by (inl e) = inl (ap suc e)
    by (inr (inl l)) = inr (inl (omega (arith, l)))
    by (inr (inr l)) = inr (inr (omega (arith, l)))

home-at : (paths : List (List ℕ)) (j : ℕ) (p : List ℕ) → slice_get paths j ≡ Some p → home_of paths j ≡ module_of p
home-at [] j p e = absurd cc
home-at (q ∷ paths) zero p e = let h : q ≡ p = cc in ap module_of h
home-at (q ∷ paths) (suc j) p e = home-at paths j p e

homes-are : (paths : List (List ℕ)) → AreHomes (home_of paths) 0 paths
homes-are paths j p e = let z : 0 + j ≡ j = omega arith in ap (home_of paths) z ∙ home-at paths j p e

module _ (paths srcs : List (List ℕ)) (trees : List FileTree) (means : Place → Meaning) (paired : ArePaired paths srcs)
    (named : AreNamed paths srcs trees means) where
  files : AreFiles paths trees
  files = files-are paths srcs trees paired named.read

  from-first : AreFilesFrom 0 trees
  from-first k f e = let z : k ≡ 0 + k = omega arith in subst (λ n. IsFileOf n f) z (files.files k f e)

  differ : (i j : ℕ) (t u : Node) → i < j → slice_get (decls_from trees) i ≡ Some t → slice_get (decls_from trees) j ≡ Some u →
      home_in paths t ≡ home_in paths u → text_of (name_in t) ≡ text_of (name_in u) → ⊥
  differ i j t u l e f h n =
      let v = names-clash (home_of paths) paths trees t u (homes-are paths) from-first files.paired
      (precedes-at (decls_from trees) i j t u l e f) h n in
      named.sound v.0 v.1

  one : (i j : ℕ) (t u : Node) → slice_get (decls_from trees) i ≡ Some t → slice_get (decls_from trees) j ≡ Some u →
      home_in paths t ≡ home_in paths u → text_of (name_in t) ≡ text_of (name_in u) → i ≡ j
  one i j t u e f h n = by (apart i j)
    where
      by : (i ≡ j) ⊎ ((i < j) ⊎ (j < i)) → i ≡ j
      by (inl s) = s
      by (inr (inl l)) = absurd (differ i j t u l e f h n)
      by (inr (inr l)) = absurd (differ j i u t l f e (sym h) (sym n))

  are-filed : AreFiled paths (decls_from trees)
  are-filed =
      record {
        shaped = λ t c. (in-file 0 trees t from-first c).shaped;
        few = omega (arith, length-flat_map (λ f. f.decls) trees, files.few_decls);
        files = λ t c.
            let m = in-file 0 trees t from-first c in
            omega (arith, root-file 0 trees t m, slice_get_within trees m.number m.file m.there, files.paired);
        whole = λ t h c d. let m = in-file 0 trees t from-first c in m.placed h d ∙ sym (root-file 0 trees t m);
        ascend = λ i j t u l e f.
            stands_before (place_of t) (place_of u) (decls-ascend 0 trees t u from-first (precedes-at (decls_from trees) i j t u l e f));
        names_differ = one;
        few_texts = let l : 0 ≤ most_of_all = omega arith in omega (arith, texts-le 0 0 srcs trees l named.read);
      }

pub programs_are_filed : ProgramsAreFiled
programs_are_filed paths srcs trees means p n = are-filed paths srcs trees means p n
