-- What a judge of written types is told is enough.
use Rattle.std.proofs.Common.{◌≡◌, Bool, true, false, not, cond, List, [], ◌∷◌, Some, refl, ap, sym, ◌∙◌}
use Rattle.std.specs.Prelude.{find, ◌||◌}
use Rattle.hare_tree.specs.declared.kind.Kind.{Kind}
use Rattle.hare_tree.specs.declared.kind.Kind.TheVariants as ki
use Rattle.hare_tree.specs.Levels.{is_type}
use Rattle.hare_rules.specs.declared.row_id.RowId.{RowId}
use Rattle.hare_rules.specs.declared.row_id.RowId.TheVariants as row
use Rattle.hare_rules.specs.Context.{Context, store_of}
use Rattle.hare_rules.specs.Table.{rows_of}
use Rattle.hare_rules.specs.Types.{type_by, type_of, type_in_role}
use Rattle.hare_rules.specs.Rows.{holds, fault_of, first_failing, rows_in_role, type_sized, is_bound}
use Rattle.rule_types.specs.Contexts.{role_of}
use Rattle.rule_types.specs.Enough.{told, IsSameType, TypesAreTold}

abbrev Same : Context → Context → RowId → Type 0
Same c j r = (holds r j ≡ holds r c) × (fault_of r j ≡ fault_of r c)

abbrev AllSame : Context → Context → List RowId → Type 0
AllSame c j [] = Unit {0}
AllSame c j (r ∷ rs) = Same c j r × AllSame c j rs

find-same : (c j : Context) (rs : List RowId) → AllSame c j rs → find (λ r. not (holds r j)) rs ≡ find (λ r. not (holds r c)) rs
find-same c j [] h = refl
find-same c j (r ∷ rs) h = ap (λ b. cond (not b) (Some r) (find (λ q. not (holds q j)) rs)) h.0.0 ∙ ap
    (λ o. cond (not (holds r c)) (Some r) o) (find-same c j rs h.1)

fault-same : (c j : Context) (rs : List RowId) → AllSame c j rs → (r : RowId) → find (λ q. not (holds q c)) rs ≡ Some r →
    fault_of r j ≡ fault_of r c
fault-same c j [] h r e = absurd cc
fault-same c j (q ∷ qs) h r e = by (fault-same c j qs h.1 r) (holds q c) e
  where
    by : (find (λ x. not (holds x c)) qs ≡ Some r → fault_of r j ≡ fault_of r c) → (b : Bool) →
        cond (not b) (Some q) (find (λ x. not (holds x c)) qs) ≡ Some r → fault_of r j ≡ fault_of r c
    by ih true g = ih g
    by ih false g = let same : q ≡ r = cc in ap (λ x. fault_of x j) (sym same) ∙ h.0.1 ∙ ap (λ x. fault_of x c) same

rows_by : (b : Bool) (k : Kind) → rows_in_role (role_of b) k ≡ rows_of k
rows_by true k = refl
rows_by false k = refl

type_by_role : (c : Context) (b : Bool) → type_in_role c (role_of b) ≡ type_by c c.head.kind
type_by_role c true = refl
type_by_role c false = refl

module _ (c : Context) (b : Bool) (role : c.inside.role ≡ role_of b) where
  abbrev j : Context
  j = told c b

  abbrev SameAt : Kind → Type 0
  SameAt k = (type_by j k ≡ type_by c k) × (type_by j k ≡ type_by c k → type_of j ≡ type_of c → AllSame c j (rows_of k))

  bound : type_of j ≡ type_of c → Same c j row.Bound
  bound e = (
    ap (λ o. not (is_bound (role_of b)) || type_sized (store_of c) o) e ∙ sym
        (ap (λ x. not (is_bound x) || type_sized (store_of c) (type_of c)) role),
    refl,
  )

  same_at : (k : Kind) → is_type k ≡ true → SameAt k
  same_at ki.TypeScalar h = (refl, λ e g. (bound g, tt))
  same_at ki.TypePath h = (refl, λ e g. (bound g, tt))
  same_at ki.TypePointer h = (refl, λ e g. (bound g, tt))
  same_at ki.TypeNullable h = (refl, λ e g. (bound g, tt))
  same_at ki.TypeError h = (refl, λ e g. (bound g, tt))
  same_at ki.TypeSlice h = (refl, λ e g. ((refl, refl), (bound g, tt)))
  same_at ki.TypeArray h = (refl, λ e g. ((refl, refl), ((refl, refl), ((refl, refl), (bound g, tt)))))
  same_at ki.TypeStruct h = (refl, λ e g. ((refl, refl), ((refl, refl), (bound g, tt))))
  same_at ki.TypeTuple h = (refl, λ e g. ((refl, refl), ((refl, refl), (bound g, tt))))
  same_at ki.TypeUnion h = (refl, λ e g. ((refl, refl), ((refl, refl), ((refl, refl), ((refl, refl), ((refl, refl), (bound g, tt)))))))
  same_at _ h = absurd cc

  same_type : is_type c.head.kind ≡ true → type_of j ≡ type_of c
  same_type h = type_by_role j b ∙ (same_at c.head.kind h).0 ∙ sym (type_by_role c b) ∙ sym (ap (type_in_role c) role)

  rows_same : (d : Context) → d.inside.role ≡ role_of b → first_failing d ≡ find (λ r. not (holds r d)) (rows_of d.head.kind)
  rows_same d e = ap (λ x. find (λ r. not (holds r d)) (rows_in_role x d.head.kind)) e ∙ ap (find (λ r. not (holds r d)))
      (rows_by b d.head.kind)

  pub same : is_type c.head.kind ≡ true → IsSameType c j
  same h =
      let all = (same_at c.head.kind h).1 (same_at c.head.kind h).0 (same_type h) in
      let failing : first_failing j ≡ first_failing c =
      rows_same j refl ∙ find-same c j (rows_of c.head.kind) all ∙ sym (rows_same c role) in
      record {
        failing = failing;
        refusal = λ e k. record {
          row = k.row;
          first = sym failing ∙ k.first;
          is = sym (fault-same c j (rows_of c.head.kind) all k.row (sym (rows_same c role) ∙ sym failing ∙ k.first)) ∙ k.is;
        };
        type = same_type h;
      }

pub types_are_told : TypesAreTold
types_are_told c b h role = same c b role h
