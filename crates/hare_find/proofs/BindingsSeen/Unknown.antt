-- A path to a binding that is not known.
use Rattle.std.proofs.Common.{◌≡◌, ℕ, false, not, cond, List, ◌∷◌, ap, ◌∙◌, subst, Option, Some}
use Rattle.std.specs.Prelude.{find}
use Rattle.hare_tree.specs.declared.kind.Kind.TheVariants as ki
use Rattle.hare_tree.specs.declared.place.Place.{Place}
use Rattle.hare_rules.specs.declared.row_id.RowId.{RowId}
use Rattle.hare_rules.specs.declared.row_id.RowId.TheVariants as asked
use Rattle.hare_rules.specs.Context.{Context, Entry, Odd}
use Rattle.hare_rules.specs.Operators.{binding_known, entry_is_known}
use Rattle.hare_rules.specs.Table.{rows_of, asked as last_rows}
use Rattle.hare_rules.specs.Rows.{holds, odd_place, binding_place_of, rows_in_role}
use Rattle.hare_rules.specs.Judged.{IsRefusal}
use Rattle.hare_find.specs.Looked.{MeansLocal}
use Rattle.hare_find.proofs.FoundOfNode.Judged.{judged_role}

first_unknown : (c : Context) (rest : List RowId) → holds asked.PathBindingKnown c ≡ false →
    find (λ r. not (holds r c)) (asked.PathBindingKnown ∷ rest) ≡ Some asked.PathBindingKnown
first_unknown c rest e = ap (λ b. cond (not b) (Some asked.PathBindingKnown) (find (λ r. not (holds r c)) rest)) e

pub unknown_refused : (c : Context) (n : ℕ) (p : Place) (o : Option Entry) → MeansLocal c n p o → entry_is_known o ≡ false →
    IsRefusal c (record { number = 33; place = odd_place p o })
unknown_refused c n p o m e =
    let unknown : holds asked.PathBindingKnown c ≡ false = ap (binding_known c) m.meaning ∙ ap entry_is_known m.entry ∙ e in
    let rows : rows_in_role c.inside.role c.head.kind ≡ rows_of ki.Path = judged_role c.inside.role c.head.kind m.role ∙
    ap rows_of m.kind in
    record {
      row = asked.PathBindingKnown;
      first = ap (find (λ r. not (holds r c))) rows ∙ first_unknown c (asked.PathNamed ∷ last_rows) unknown;
      is =
          ap (λ q. record { number = 33; place = q })
          (ap (binding_place_of c) m.meaning ∙ ap (odd_place c.head.place) m.entry ∙ ap (λ q. odd_place q o) m.place);
    }

-- the binding of a loop over what is no array and no slice
pub odd_refused : (c : Context) (n : ℕ) (p q : Place) (o : Option Entry) → MeansLocal c n p o → o ≡ Some (Odd q) →
    IsRefusal c (record { number = 33; place = q })
odd_refused c n p q o m e =
    subst (λ (x : Place). IsRefusal c (record { number = 33; place = x })) (ap (odd_place p) e)
    (unknown_refused c n p o m (ap entry_is_known e))
