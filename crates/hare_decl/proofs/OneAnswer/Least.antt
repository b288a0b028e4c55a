-- The least fault of a lexical fault and of the tokens before it.
use Rattle.std.proofs.Common.{◌≡◌, ℕ, inl, inr, List, refl, ap, sym, ◌∙◌, subst}
use Rattle.hare_tree.specs.declared.place.Place.{Place}
use Rattle.hare_tree.specs.declared.place.Fault.{Fault}
use Rattle.hare_tree.specs.declared.token.Token.{Token}
use Rattle.hare_tree.specs.declared.tree.FileTree.{FileTree}
use Rattle.hare_tree.specs.Grammar.{files, fault_at, before_end, IsFirstFault, IsLeastFault}
use Rattle.hare_decl.specs.Answers.{IsSyntax}
use Rattle.hare_decl.specs.declared.syntax.Syntax.{Syntax}
use Rattle.hare_decl.specs.declared.syntax.Syntax.TheVariants as sx
use Rattle.hare_decl.proofs.OneAnswer.OneOutcome.{file_no_first}
use Rattle.hare_decl.proofs.OneAnswer.Places.{first_within, place_before_end}

-- the first fault of the tokens before End
pub least_of_tokens : (kept front : List Token) (lexical f : Fault) (number n : ℕ) → front ≡ before_end kept →
    IsFirstFault files front number n → f ≡ fault_at front number n → IsLeastFault kept lexical f
least_of_tokens kept front lexical f number n e h i =
    let first : IsFirstFault files (before_end kept) number n = subst (λ ts. IsFirstFault files ts number n) e h in
    let at : Place → Fault = λ p. record { number = number; place = p } in
    inl (
      number,
      n,
      first,
      i ∙ ap (λ ts. fault_at ts number n) e ∙ ap at
          (place_before_end kept n (first_within files (before_end kept) number n first)),
    )

-- where they have none, the lexical fault
least_is_break : (kept front : List Token) (lexical : Fault) → front ≡ before_end kept →
    ((number n : ℕ) → IsFirstFault files front number n → ⊥) → IsLeastFault kept lexical lexical
least_is_break kept front lexical e k = inr (λ number n h. k number n (subst (λ ts. IsFirstFault files ts number n) (sym e) h), refl)

pub least_of_syntax : (file : ℕ) (kept front : List Token) (lexical f : Fault) (s : Syntax) (number n : ℕ) → front ≡ before_end kept →
    IsSyntax file front s → s ≡ sx.Faulty number n → f ≡ fault_at front number n → IsLeastFault kept lexical f
least_of_syntax file kept front lexical f s number n e h k i =
    least_of_tokens kept front lexical f number n e (subst (IsSyntax file front) k h) i

-- they are a file
pub least_behind_file : (file : ℕ) (kept front : List Token) (lexical : Fault) (s : Syntax) (tree : FileTree) → front ≡ before_end kept →
    IsSyntax file front s → s ≡ sx.Whole tree → IsLeastFault kept lexical lexical
least_behind_file file kept front lexical s tree e h k =
    let w = subst (IsSyntax file front) k h in
    least_is_break kept front lexical e (λ number n. file_no_first file front tree number n w.read)

-- they begin one
pub least_behind_front : (file : ℕ) (kept front : List Token) (lexical : Fault) (s : Syntax) → front ≡ before_end kept →
    IsSyntax file front s → s ≡ sx.Cut → IsLeastFault kept lexical lexical
least_behind_front file kept front lexical s e h k =
    let w = subst (IsSyntax file front) k h in
    least_is_break kept front lexical e w.no_fault
