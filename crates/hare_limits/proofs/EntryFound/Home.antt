-- Which files belong to the module of the first.
use Rattle.std.proofs.Common.{◌≡◌, ℕ, Bool, List, Some, None, Option, refl, ap, ◌∙◌}
use Rattle.std.specs.Prelude.{slice_get, option_map, position, bytes_eq, codes, ◌&&◌}
use Rattle.std.proofs.lemmas.Option.{slice_get-map}
use Rattle.hare_tree.specs.Node.{Node, head}
use Rattle.hare_modules.specs.Modules.{Module, module_of, same_module}
use Rattle.hare_modules.specs.Uses.{place_of, text_of}
use Rattle.hare_modules.specs.Declarations.{name_in}
use Rattle.hare_whole.specs.Limits.{home_of, is_main, is_function, main_of}
use Rattle.hare_limits.proofs.EntryFound.First.{position-same}
use Rattle.hare_limits.specs.Homes.{belonging, kept_or, is_home, AreHomes, is_main_by}

-- what is kept of a file is whether it belongs to the module
home-kept : (first : Module) (paths : List (List ℕ)) (file : ℕ)
    → is_home first (belonging first paths) file ≡ same_module (home_of paths file) first
home-kept first paths file = by (slice_get paths file) refl
  where
    by : (o : Option (List ℕ)) → slice_get paths file ≡ o
        → is_home first (belonging first paths) file ≡ same_module (home_of paths file) first
    by None q = ap (kept_or first) (slice_get-map (λ p. same_module (module_of p) first) paths file
        ∙ ap (option_map (λ p. same_module (module_of p) first)) q) ∙ rw q refl
    by (Some p) q = ap (kept_or first) (slice_get-map (λ p. same_module (module_of p) first) paths file
        ∙ ap (option_map (λ p. same_module (module_of p) first)) q) ∙ rw q refl

homes-kept : (paths : List (List ℕ)) (first : Module) (kept : List Bool) (file : ℕ) → AreHomes paths first kept
    → is_home first kept file ≡ same_module (home_of paths file) (home_of paths 0)
homes-kept paths first kept file h =
    ap (λ ks. is_home first ks file) h.kept_is ∙ home-kept first paths file ∙ ap (same_module (home_of paths file)) h.first_is

main-kept : (paths : List (List ℕ)) (first : Module) (kept : List Bool) (t : Node) → AreHomes paths first kept
    → is_main_by first kept t ≡ is_main paths t
main-kept paths first kept t h =
    ap (λ b. (is_function (head t).kind && bytes_eq (text_of (name_in t)) (codes "main")) && b)
    (homes-kept paths first kept (place_of t).file h)

-- the first `main` by what is kept is the `main` of the program
pub main-same : (paths : List (List ℕ)) (first : Module) (kept : List Bool) (ts : List Node) → AreHomes paths first kept
    → position (is_main_by first kept) ts ≡ main_of paths ts
main-same paths first kept ts h = position-same (is_main_by first kept) (is_main paths) ts (λ t. main-kept paths first kept t h)
