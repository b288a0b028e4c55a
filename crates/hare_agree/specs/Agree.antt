-- When two settings say the same of the declarations that a tree names. Declarations are judged one after another, each with what is known
-- by then, and behind each more is known.
use Rattle.std.specs.Prelude.{◌≡◌, ℕ, true, Contains, Option, Some, None, ◌⊎◌}
use Rattle.hare_tree.specs.declared.kind.Kind.{Kind}
use Rattle.hare_tree.specs.declared.kind.Kind.TheVariants as ki
use Rattle.hare_tree.specs.declared.token.Meaning.TheVariants as means
use Rattle.hare_tree.specs.Node.{Head, Node}
use Rattle.hare_typed.specs.Erased.{heads}
use Rattle.hare_rules.specs.declared.declared.DeclType.{DeclType}
use Rattle.hare_rules.specs.Context.{Setting, declaration}
use Rattle.hare_rules.specs.Operators.{is_type_decl}
use Rattle.hare_rules.specs.Aggregates.{is_path}
use Rattle.hare_rules.specs.Flow.{is_path_kind}

-- the two have one store, and paths mean the same in both
pub record AreAlike (w v : Setting) : Type 0 where
  pub store : v.store ≡ w.store
  pub means : v.means ≡ w.means

-- What is known of one declaration is the same. In a written type a type that is not known yet counts as one that is: its name alone is
-- read.
abbrev pub SaysTheSame : Kind → (o p : Option DeclType) → Type 0
SaysTheSame ki.TypePath o p = (o ≡ p) ⊎ ((o ≡ None) × ((d : DeclType) × (p ≡ Some d) × (is_type_decl d.kind ≡ true)))
SaysTheSame _ o p = o ≡ p

-- the two say the same of each declaration that a path of the tree means
abbrev pub AgreeOn : Setting → Setting → Node → Type 0
AgreeOn w v t =
    (h : Head) (n : ℕ) → Contains (heads t) h → is_path_kind h.kind ≡ true → w.means h.place ≡ means.Decl n →
    SaysTheSame h.kind (declaration w n) (declaration v n)

-- they do of each that a path means which is no written type; of what written types name nothing is read
abbrev pub AgreeOnValues : Setting → Setting → Node → Type 0
AgreeOnValues w v t =
    (h : Head) (n : ℕ) → Contains (heads t) h → is_path h.kind ≡ true → w.means h.place ≡ means.Decl n → declaration w n ≡ declaration v n
