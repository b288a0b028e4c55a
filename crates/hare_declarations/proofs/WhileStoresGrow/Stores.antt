-- Stores that grow, and stores that define one name more.
use Rattle.std.proofs.Common.{ℕ, refl, ap, sym, ◌∙◌, nat_eq}
use Rattle.std.specs.Prelude.{option_map, option_and_then}
use Rattle.std.specs.Map.{lookup}
use Rattle.hare_types.specs.declared.row.Row.TheVariants as row
use Rattle.hare_types.specs.declared.row.Scalar.TheVariants as keyword
use Rattle.hare_types.specs.Store.{Store}
use Rattle.hare_types.specs.Sound.{IsStore}
use Rattle.hare_types.specs.Later.{IsLater}
use Rattle.hare_types.proofs.LaterLemmas.{types_stay, later_here}
use Rattle.hare_rules.specs.Words.{nomem}
use Rattle.hare_whole.specs.Listing.{Listing, IsDeclared, DefinesNomem}
use Rattle.hare_turns.specs.Laws.{DeclaresTheSame, IsGrownTo, DefinesOneMore}
use Rattle.hare_walk.specs.Grown.{IsGrown}
use Rattle.hare_walk.proofs.Grows.{later-grown}
use Rattle.hare_waits.specs.Waits.{DefinesAlso}

-- what a walk leaves has grown
pub grown-to : (s r : Store) → IsStore r → IsGrown s r → IsGrownTo s r
grown-to s r v g = record {
  later = later-grown s r r g (later_here r v);
  declared = λ d. ap (λ es. option_map (λ e. e.sized) (lookup (nat_eq d) es)) g.declared;
  same = λ d. ap (λ es. option_and_then (λ e. e.definition) (lookup (nat_eq d) es)) g.declared;
  sound = v;
}

pub grown_to-refl : (s : Store) → IsStore s → IsGrownTo s s
grown_to-refl s v = record { later = later_here s v; declared = λ d. refl; same = λ d. refl; sound = v }

-- ---- what is declared

pub declared-later : (p : Listing) (s r : Store) → IsStore r → DeclaresTheSame s r → IsDeclared s p → IsDeclared r p
declared-later p s r v e h = record {
  sound = v;
  sized = λ n t d i u. e n ∙ h.sized n t d i u;
  unsized = λ n t d i u. e n ∙ h.unsized n t d i u;
  no_other = λ n b i. h.no_other n b (sym (e n) ∙ i);
}

pub nomem-later : (s r : Store) → IsStore s → IsLater s r → DefinesNomem s → DefinesNomem r
nomem-later s r v l (e, i, d, a, b) =
    let k = types_stay s r v l in (e, i, l.grows.defined nomem e d, k.row e (row.Error i) a, k.row i (row.Scalar keyword.Void) b)

-- ---- one name more

-- what is defined is told to what waits
pub defines-also : (s r : Store) (n u : ℕ) → DefinesOneMore s r n u → DefinesAlso s r n
defines-also s r n u h = record { later = h.later; others = h.others }
