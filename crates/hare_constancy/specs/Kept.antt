-- That what is known of defs agrees still when one constant more is known, so that later values may rest on it.
use Rattle.std.specs.Prelude.{◌≡◌, ◌≢◌, ◌⊎◌, ◌<◌, ◌+◌, ◌*◌, ◌^◌, ℕ, Contains, Some}
use Rattle.hare_typed.specs.declared.constant.Const.{Const}
use Rattle.hare_typed.specs.declared.constant.ConstObject.{ConstObject}
use Rattle.hare_rules.specs.declared.declared.DeclType.{DeclType}
use Rattle.hare_rules.specs.Context.{Setting, declaration}
use Rattle.hare_constancy.specs.Coherent.{listed, DefsAgree}

-- ---- what a constant lists

-- the object has the number of a node of this declaration
abbrev pub IsOfNode : (own : ℕ) → ConstObject → Type 0
IsOfNode own o = (i : ℕ) × (i < 2 ^ 32) × (o.object ≡ (own + 1) * 2 ^ 32 + i)

-- what is known of some declaration lists the object
abbrev pub IsListed : Setting → ConstObject → Type 0
IsListed w o = (n : ℕ) × (d : DeclType) × (declaration w n ≡ Some d) × Contains (listed d.value) o

-- A constant of this declaration lists objects of its nodes, and such as are listed with what is known, and one list of cells with a number.
pub record ListsSoundly (w : Setting) (own : ℕ) (v : Const) : Type 0 where
  pub one : (o p : ConstObject) → Contains (listed v) o → Contains (listed v) p → o.object ≡ p.object → o.cells ≡ p.cells
  pub from : (o : ConstObject) → Contains (listed v) o → IsOfNode own o ⊎ IsListed w o

-- ---- what is known

-- Later this declaration has the constant, and of each other the same is known as before.
pub record Knows (w later : Setting) (own : ℕ) (v : Const) : Type 0 where
  pub this : (d : DeclType) → declaration later own ≡ Some d → d.value ≡ v
  pub others : (n : ℕ) → n ≢ own → declaration later n ≡ declaration w n

-- ---- the law

-- With such a constant what is known agrees as before, for the value of each other declaration.
abbrev pub DefsStayInAgreement : Type 0
DefsStayInAgreement =
    (w later : Setting) (own other : ℕ) (v : Const) → Knows w later own v → ListsSoundly w own v → DefsAgree w own → DefsAgree w other →
    own ≢ other → DefsAgree later other
