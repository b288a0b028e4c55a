-- What is relied on: each type that is asked for is in the store, and mentions no name that is not defined.
use Rattle.std.specs.Prelude.{◌≡◌, ℕ, nat_eq, List, [], ◌∷◌, find, slice_get, Some}
use Rattle.hare_types.specs.Store.{Store}
use Rattle.hare_rules.specs.declared.declared.DeclType.{DeclType}
use Rattle.hare_rules.specs.Context.{Open}
use Rattle.hare_rules.specs.Above.{Above}
use Rattle.hare_rules.specs.Words.{nomem}
use Rattle.rule_judge.specs.Defined.{IsDefined, IsDefinedHint, IsDefinedName}
use Rattle.hare_above.specs.Stands.{Stands}

-- of each label
abbrev pub AreDefinedOpens : Store → List Open → Type 0
AreDefinedOpens s [] = Unit {0}
AreDefinedOpens s (l ∷ ls) = IsDefinedHint s l.hint × AreDefinedOpens s ls

pub record IsDefinedAbove (s : Store) (a : Above) : Type 0 where
  pub hint : IsDefinedHint s a.hint
  pub values : IsDefinedHint s a.values
  pub result : IsDefined s a.inside.result
  pub labels : AreDefinedOpens s a.inside.labels

abbrev pub AreDefinedAboves : Store → List Above → Type 0
AreDefinedAboves s [] = Unit {0}
AreDefinedAboves s (a ∷ rest) = IsDefinedAbove s a × AreDefinedAboves s rest

pub record IsReady (s : Store) (st : Stands) : Type 0 where
  pub above : IsDefinedAbove s st.above
  pub outer : AreDefinedAboves s st.outer

-- of a program: the refusal of memory, and the parameters of functions
pub record IsKnown (s : Store) (decls : List DeclType) : Type 0 where
  pub nomem : IsDefinedName s nomem
  pub params : (n i t : ℕ) (d : DeclType) → find (λ e. nat_eq e.decl n) decls ≡ Some d → slice_get d.params i ≡ Some t → IsDefined s t
