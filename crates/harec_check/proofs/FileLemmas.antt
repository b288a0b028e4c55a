-- Bytes of files.
use Rattle.std.proofs.Common.{◌≡◌, ℕ, ◌+◌, ◌<◌, ◌≤◌, List, [], ◌∷◌, ◌++◌, length, take, get_or, Option, IfSome, sym, subst}
use Rattle.std.proofs.lemmas.List.Elements.{all_zip_more, length_all_zip}
use Rattle.hare_sources.specs.Named.{ArePaired}
use Rattle.harec_check.specs.Files.{AreTold}

module _ (content : List ℕ → Option (List ℕ)) (paths : List (List ℕ)) where
  -- one file more
  pub AreTold-more : (srcs new : List (List ℕ)) (i : ℕ) (path src : List ℕ) → i < length paths → path ≡ get_or paths i path →
      AreTold content (take i paths) srcs → new ≡ srcs ++ src ∷ [] → IfSome (content path) (λ told. src ≡ told) →
      AreTold content (take (i + 1) paths) new
  AreTold-more srcs new i path src within here told e more =
      subst (AreTold content (take (i + 1) paths)) (sym e)
      (all_zip_more (λ p s. IfSome (content p) (λ t. s ≡ t)) paths srcs i path src within here told more)

  -- one list of bytes for each path
  pub length-AreTold : (srcs : List (List ℕ)) → AreTold content paths srcs → length srcs ≡ length paths
  length-AreTold srcs told = sym (length_all_zip (λ p s. IfSome (content p) (λ t. s ≡ t)) paths srcs told)

  pub AreTold-paired : (srcs : List (List ℕ)) → length paths ≤ 65536 → AreTold content paths srcs → ArePaired paths srcs
  AreTold-paired srcs few told = record { paired = length-AreTold srcs told; few = few }
