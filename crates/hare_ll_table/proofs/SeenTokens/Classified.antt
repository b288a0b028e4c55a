-- The class of a token by its kind.
use Rattle.std.proofs.Common.{◌≡◌, List, ℕ, Bool, ◌∙◌, sym, ap, subst}
use Rattle.std.specs.Prelude.{Option, None}
use Rattle.hare_tree.specs.declared.form.Sign.{Sign}
use Rattle.hare_tree.specs.declared.token.TokenKind.TheVariants as tk
use Rattle.hare_tree.specs.declared.token.Token.{Token}
use Rattle.hare_tree.specs.Shape.{has_text_alone}
use Rattle.hare_automaton.specs.declared.class.Class.{Class}
use Rattle.hare_ll_table.specs.Seen.{sign_or_else}
use Rattle.hare_automaton.specs.Classes.{class_of, class_in, head_of, when, name_class, word_class, sign_or, keyword_signs}

when_same : (a b : Bool) (x y : Class) → a ≡ b → x ≡ y → when a x ≡ when b y
when_same a b x y e h = cc

pub class_of_name : (t : Token) (text : List ℕ) (b : Bool) (x r : Class) → t.kind ≡ tk.Name → text ≡ t.text →
    b ≡ has_text_alone (head_of t) →
    x ≡ name_class text → r ≡ when b x → r ≡ class_of t
class_of_name t text b x r k e h g a =
    a ∙ when_same b (has_text_alone (head_of t)) x (name_class t.text) h (g ∙ ap name_class e) ∙ sym (ap (λ k. class_in k (head_of t)) k)

pub class_of_keyword : (t : Token) (text : List ℕ) (b : Bool) (x r : Class) → t.kind ≡ tk.Keyword → text ≡ t.text →
    b ≡ has_text_alone (head_of t) →
    x ≡ sign_or (word_class text) keyword_signs text → r ≡ when b x → r ≡ class_of t
class_of_keyword t text b x r k e h g a =
    a
    ∙ when_same b (has_text_alone (head_of t)) x (sign_or (word_class t.text) keyword_signs t.text) h
    (g ∙ ap (λ y. sign_or (word_class y) keyword_signs y) e)
    ∙ sym (ap (λ k. class_in k (head_of t)) k)

-- where no sign has the spelling, the class is the other one
pub sign_or_other : (found : Option Sign) (signs : List Sign) (x : List ℕ) (w r : Class) →
    ((other : Class) → sign_or_else found other ≡ sign_or other signs x) →
    found ≡ None → r ≡ w → r ≡ sign_or w signs x
sign_or_other found signs x w r h n e = e ∙ subst (λ f. sign_or_else f w ≡ sign_or w signs x) n (h w)
