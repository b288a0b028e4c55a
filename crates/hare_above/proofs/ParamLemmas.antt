-- The parameters of functions that are declared.
use Rattle.std.proofs.Common.{◌≡◌, ℕ, zero, suc, Bool, true, false, cond, List, [], ◌∷◌, map, Option, Some, None, nat_eq, refl, sym, ◌∙◌}
use Rattle.std.specs.Prelude.{slice_get, option_and_then, find, IfSome}
use Rattle.hare_tree.specs.declared.token.Meaning.TheVariants as means
use Rattle.hare_types.specs.Store.{Store}
use Rattle.hare_rules.specs.declared.declared.DeclType.{DeclType}
use Rattle.hare_rules.specs.Above.{param_at}
use Rattle.hare_rules.specs.Aggregates.{called, signature_of, is_function}
use Rattle.rule_judge.specs.Defined.{IsDefined}
use Rattle.rule_judge.specs.Settings.{setting_of}
use Rattle.hare_above.specs.Ready.{IsKnown}

get-some : (ts : List ℕ) (i : ℕ) → option_and_then (λ (o : Option ℕ). o) (slice_get (map Some ts) i) ≡ slice_get ts i
get-some [] i = refl
get-some (t ∷ ts) zero = refl
get-some (t ∷ ts) (suc i) = get-some ts i

some-known : (s : Store) (ds : List DeclType) (n i : ℕ) (d : DeclType) (o : Option ℕ) → IsKnown s ds →
    find (λ e. nat_eq e.decl n) ds ≡ Some d → o ≡ slice_get d.params i → IfSome o (IsDefined s)
some-known s ds n i d None k f e = tt
some-known s ds n i d (Some t) k f e = k.params n i t d f (sym e)

known-by : (s : Store) (ds : List DeclType) (n i : ℕ) (d : DeclType) (b : Bool) (o : Option ℕ) → IsKnown s ds →
    find (λ e. nat_eq e.decl n) ds ≡ Some d →
    o ≡ param_at (cond b (Some (record { params = map Some d.params; result = Some d.ty })) None) i → IfSome o (IsDefined s)
known-by s ds n i d true o k f e = some-known s ds n i d o k f (e ∙ get-some d.params i)
known-by s ds n i d false o k f e = rw e tt

known-of : (s : Store) (ds : List DeclType) (n i : ℕ) (x : Option DeclType) (o : Option ℕ) → IsKnown s ds →
    find (λ e. nat_eq e.decl n) ds ≡ x →
    o ≡ param_at (option_and_then signature_of x) i → IfSome o (IsDefined s)
known-of s ds n i None o k f e = rw e tt
known-of s ds n i (Some d) o k f e = known-by s ds n i d (is_function d.kind) o k f e

pub known-param : (s : Store) (ds : List DeclType) (n i : ℕ) (o : Option ℕ) → IsKnown s ds →
    o ≡ param_at (called (setting_of s ds) (means.Decl n)) i → IfSome o (IsDefined s)
known-param s ds n i o k e = known-of s ds n i (find (λ d. nat_eq d.decl n) ds) o k refl e
