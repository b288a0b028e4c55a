-- A list of tokens has one answer: one tree, or one first fault, or it is cut off.
use Rattle.std.proofs.Common.{◌≡◌, ℕ, inl, inr, List, [], ◌++◌, take, drop, ap, sym, ◌∙◌, subst}
use Rattle.std.proofs.lemmas.List.{append-nil, take-append-drop}
use Rattle.hare_tree.specs.declared.place.Fault as fault
use Rattle.hare_tree.specs.declared.token.Token.{Token}
use Rattle.hare_tree.specs.declared.tree.FileTree.{FileTree}
use Rattle.hare_tree.specs.Spell.{spell_file}
use Rattle.hare_tree.specs.Grammar.{Spells, files, IsOn, IsViable, IsDepthFault, IsFirstFault, IsFileTree, fault_at}
use Rattle.hare_tree.proofs.Low.Fitting.{fits_file_parts}
use Rattle.hare_nesting.proofs.LeastFault.Firsts.{viable_no_first, one_first}
use Rattle.hare_decl.specs.Answers.{HasFault}

-- a file goes on with each front of its tokens
file_viable : (file : ℕ) (ts : List Token) (tree : FileTree) → IsFileTree file ts tree → IsViable files ts
file_viable file ts tree t = (
  tree,
  record {
    shaped = (fits_file_parts tree t.fits).0;
    behind = [];
    spelled = subst
        (λ y. Spells (spell_file tree) y) (sym (append-nil ts)) t.spelled;
  },
)

-- the tokens behind a front
front_behind : (ts : List Token) (n : ℕ) → take n ts ++ drop n ts ≡ ts
front_behind ts n = take-append-drop n ts

-- where the tree keeps the limits, nothing that is read forces that one is passed
file_shallow : (file : ℕ) (ts : List Token) (tree : FileTree) → IsFileTree file ts tree → (m : ℕ) → IsDepthFault files ts m → ⊥
file_shallow file ts tree t m d =
    let on : IsOn d.at (files.deep_of tree) =
    d.forced tree (record {
      shaped = (fits_file_parts tree t.fits).0;
      behind = drop d.read ts;
      spelled = subst
          (λ y. Spells (spell_file tree) y) (sym (front_behind ts d.read)) t.spelled;
    }) in
    subst (λ y. IsOn d.at y) (fits_file_parts tree t.fits).1 on

pub file_no_first : (file : ℕ) (ts : List Token) (tree : FileTree) (number n : ℕ) → IsFileTree file ts tree →
    IsFirstFault files ts number n → ⊥
file_no_first file ts tree number n t f = viable_no_first files ts number n (file_viable file ts tree t) (file_shallow file ts tree t) f

-- tokens of a file have no fault
pub file_no_fault : (file : ℕ) (ts : List Token) (tree : FileTree) (f : fault.Fault) → IsFileTree file ts tree → HasFault file ts f → ⊥
file_no_fault file ts tree f t (inl h) = file_no_first file ts tree h.0 h.1 t h.2
file_no_fault file ts tree f t (inr h) = h.0.no_file tree t

-- the fault is one
pub one_fault : (file : ℕ) (ts : List Token) (f g : fault.Fault) → HasFault file ts f → HasFault file ts g → f ≡ g
one_fault file ts f g (inl a) (inl b) =
    let e = one_first files ts a.0 a.1 b.0 b.1 a.2 b.2 in
    a.3 ∙ ap (λ k. fault_at ts k a.1) e.0 ∙ ap (λ k. fault_at ts b.0 k) e.1 ∙ sym b.3
one_fault file ts f g (inl a) (inr b) = absurd (b.0.no_fault a.0 a.1 a.2)
one_fault file ts f g (inr a) (inl b) = absurd (a.0.no_fault b.0 b.1 b.2)
one_fault file ts f g (inr a) (inr b) = a.1 ∙ sym b.1
