-- Defs, globals and types over two settings of one store that say the same of what these name: there is one tree of each.
use Rattle.std.proofs.Common.{◌≡◌, not, ℕ, ap, sym, ◌∙◌, subst}
use Rattle.hare_tree.specs.Node.{Head, Node, branch, none, more}
use Rattle.hare_tree.specs.Shape.{is_none}
use Rattle.hare_typed.specs.Typed.{TypedNode, head_of}
use Rattle.hare_typed.specs.Erased.{erase, heads}
use Rattle.hare_rules.specs.Context.{Ordinary, is_there}
use Rattle.hare_modules.specs.Uses.{kid}
use Rattle.hare_depends.specs.Sorts.{has_type}
use Rattle.hare_whole.specs.Parts.{type_part, value_part}
use Rattle.hare_whole.specs.Declared.{hint_of_part, IsWellValue, IsWellBinding, IsWellTypeDecl}
use Rattle.hare_sole.proofs.OneTree.Parts.{Trees, Pair, one, two, AgreeAmong, head-erased, plain-same, type-same, part-same, value-same}

-- both say the same of what this kid of a tree names
abbrev pub AgreeOnKid : Pair → Node → ℕ → Type 0
AgreeOnKid k t i = AgreeAmong k (heads (kid t i))

module _ (l : Trees) (k : Pair) (n : ℕ) (d e : TypedNode) (erased : erase d ≡ erase e) where
  -- ---- defs and globals

  module _ (h : IsWellBinding (one k) n d) (j : IsWellBinding (two k) n e) where
    kids-erased : branch (head_of d) (more (erase h.export_is) (more (erase h.name) (more (erase h.type) (more (erase h.value) none))))
        ≡ branch (head_of e) (more (erase j.export_is) (more (erase j.name) (more (erase j.type) (more (erase j.value) none))))
    kids-erased = sym (ap erase h.shape) ∙ erased ∙ ap erase j.shape

    types-are : AgreeOnKid k (erase d) 2 → h.type ≡ j.type
    types-are g =
        let both = kids-erased in
        let same : erase h.type ≡ erase j.type = cc in
        let own = subst (λ (x : Node). AgreeAmong k (heads x)) (ap (λ (z : TypedNode). kid (erase z) 2) h.shape) g in
        part-same l k n h.type j.type same own h.well_type j.well_type

    values-are : AgreeOnKid k (erase d) 2 → AgreeOnKid k (erase d) 3 → h.value ≡ j.value
    values-are f g =
        let both = kids-erased in
        let same : erase h.value ≡ erase j.value = cc in
        let own = subst (λ (x : Node). AgreeAmong k (heads x)) (ap (λ (z : TypedNode). kid (erase z) 3) h.shape) g in
        let well = subst (λ (x : TypedNode). IsWellValue (two k) n (hint_of_part x) j.value) (sym (types-are f)) j.well_value in
        value-same l k n (hint_of_part h.type) h.value j.value same own h.well_value well

    pub type_part-same : AgreeOnKid k (erase d) 2 → type_part d ≡ type_part e
    type_part-same f = ap type_part h.shape ∙ types-are f ∙ sym (ap type_part j.shape)

    pub value_part-same : AgreeOnKid k (erase d) 2 → AgreeOnKid k (erase d) 3 → value_part d ≡ value_part e
    value_part-same f g = ap value_part h.shape ∙ values-are f g ∙ sym (ap value_part j.shape)

    pub binding-same : AgreeOnKid k (erase d) 2 → AgreeOnKid k (erase d) 3 → d ≡ e
    binding-same f g =
        let both = kids-erased in
        let head : head_of d ≡ head_of e = cc in
        let export : h.export_is ≡ j.export_is = plain-same l k h.export_is j.export_is (cc) h.plain_export j.plain_export in
        let name : h.name ≡ j.name = plain-same l k h.name j.name (cc) h.plain_name j.plain_name in
        let type = types-are f in
        let value = values-are f g in
        cc

    -- whether it has a written type shows in its tree
    pub type-there : is_there (type_part d) ≡ has_type (erase d)
    type-there =
        ap (λ (z : TypedNode). is_there (type_part z)) h.shape ∙ ap (λ (x : Head). not (is_none x.kind)) (head-erased h.type)
        ∙ sym (ap (λ (z : TypedNode). has_type (erase z)) h.shape)

  -- ---- types

  module _ (h : IsWellTypeDecl (one k) n d) (j : IsWellTypeDecl (two k) n e) where
    pub type_decl-same : AgreeOnKid k (erase d) 2 → d ≡ e
    type_decl-same g =
        let both : branch (head_of d) (more (erase h.export_is) (more (erase h.name) (more (erase h.type) none)))
        ≡ branch (head_of e) (more (erase j.export_is) (more (erase j.name) (more (erase j.type) none))) =
        sym (ap erase h.shape) ∙ erased ∙ ap erase j.shape in
        let head : head_of d ≡ head_of e = cc in
        let export : h.export_is ≡ j.export_is = plain-same l k h.export_is j.export_is (cc) h.plain_export j.plain_export in
        let name : h.name ≡ j.name = plain-same l k h.name j.name (cc) h.plain_name j.plain_name in
        let own = subst (λ (x : Node). AgreeAmong k (heads x)) (ap (λ (z : TypedNode). kid (erase z) 2) h.shape) g in
        let type : h.type ≡ j.type = type-same l k n Ordinary h.type j.type (cc) own h.well_type j.well_type in
        cc
