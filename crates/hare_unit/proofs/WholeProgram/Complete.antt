-- What makes a program complete.
use Rattle.std.proofs.Common.{◌≡◌, ℕ, ◌+◌, ◌≤◌, List, [], ◌∷◌, map, sum_by, slice_get, Some, refl, sym, subst, ap, ◌∙◌}
use Rattle.std.specs.Prelude.{Contains, option_map}
use Rattle.std.proofs.lemmas.Option.{slice_get-map}
use Rattle.std.proofs.lemmas.List.Sums.{sum_by-cons}
use Rattle.hare_tree.specs.Node.{Node}
use Rattle.hare_tree.specs.Size.{text_bytes}
use Rattle.hare_types.specs.Store.{Store}
use Rattle.hare_types.specs.Sound.{IsStore}
use Rattle.hare_typed.specs.Typed.{TypedNode}
use Rattle.hare_typed.specs.Erased.{erase}
use Rattle.hare_filed.specs.Filed.{AreFiled}
use Rattle.hare_filed.proofs.ListLemmas.{Contains-map}
use Rattle.hare_whole.specs.Listing.{Listing}
use Rattle.hare_whole.specs.Judged.{IsFinal, AreTyped}
use Rattle.hare_whole.specs.Limits.{AreWithinLimits}
use Rattle.hare_whole.specs.Programs.{AreInFiles, NamesDiffer, IsComplete, bytes_of_texts, most_of_texts}
use Rattle.hare_whole.specs.Tags.{tag_list}

texts-map : (ds : List TypedNode) → bytes_of_texts ds ≡ sum_by text_bytes (map erase ds)
texts-map [] = refl
texts-map (d ∷ ds) =
    sum_by-cons (λ e. text_bytes (erase e)) d ds ∙ ap (λ n. text_bytes (erase d) + n) (texts-map ds)
    ∙ sym (sum_by-cons text_bytes (erase d) (map erase ds))

module _ (paths : List (List ℕ)) (ts : List Node) (ds : List TypedNode) (filed : AreFiled paths ts) (same : map erase ds ≡ ts) where
  among : (d : TypedNode) → Contains ds d → Contains ts (erase d)
  among d c = subst (λ us. Contains us (erase d)) same (Contains-map erase ds d c)

  at : (i : ℕ) (d : TypedNode) → slice_get ds i ≡ Some d → slice_get ts i ≡ Some (erase d)
  at i d e = ap (λ us. slice_get us i) (sym same) ∙ slice_get-map erase ds i ∙ ap (λ o. option_map erase o) e

  in-files : AreInFiles paths ds
  in-files = record {
    files = λ d c. filed.files (erase d) (among d c);
    whole = λ d h c k. filed.whole (erase d) h (among d c) k;
    ascend = λ i j d e l a b. filed.ascend i j (erase d) (erase e) l (at i d a) (at j e b);
  }

  names-differ : NamesDiffer paths ds
  names-differ i j d e a b m n = filed.names_differ i j (erase d) (erase e) (at i d a) (at j e b) m n

  few-texts : bytes_of_texts ds ≤ most_of_texts
  few-texts = subst (λ n. n ≤ most_of_texts) (sym (texts-map ds ∙ ap (λ us. sum_by text_bytes us) same)) filed.few_texts

-- what has been seen of a program by its end
pub record IsSeen (paths : List (List ℕ)) (p : Listing) (s : Store) (ds : List TypedNode) (entry : ℕ) : Type 0 where
  pub filed : AreFiled paths p.decls
  pub sound : IsStore s
  pub final : IsFinal p s
  pub typed : AreTyped p s ds
  pub tags : s.listed ≡ tag_list s ds
  pub limits : AreWithinLimits paths s ds entry

pub is-complete : (paths : List (List ℕ)) (p : Listing) (s : Store) (ds : List TypedNode) (entry : ℕ) → IsSeen paths p s ds entry →
    IsComplete s paths ds p.means entry
is-complete paths p s ds entry k = record {
  sound = k.sound;
  shaped = λ d c. k.filed.shaped (erase d) (among paths p.decls ds k.filed k.typed.erases d c);
  in_files = in-files paths p.decls ds k.filed k.typed.erases;
  names_differ = names-differ paths p.decls ds k.filed k.typed.erases;
  few_texts = few-texts paths p.decls ds k.filed k.typed.erases;
  well = k.typed.well;
  defined = k.typed.defined;
  nomem_defined = k.final.nomem;
  tags = k.tags;
  limits = k.limits;
}
