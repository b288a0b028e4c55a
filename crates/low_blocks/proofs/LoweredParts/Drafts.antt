-- What the parts of an expression add together.
use Rattle.std.proofs.Common.{◌≡◌, ℕ, zero, suc, ◌≤◌, length, List, [], ◌∷◌, ◌++◌, drop, Some, refl, sym, ap, ◌∙◌, arith, append_assoc}
use Rattle.std.specs.Prelude.{slice_get}
use Rattle.flat_code.specs.declared.op.Op.{Op}
use Rattle.flat_code.specs.declared.op.Op.TheVariants.{Add, Sub, Mul}
use Rattle.flat_code.specs.declared.value.Value.{Value}
use Rattle.flat_code.specs.declared.value.Value.TheVariants.{Temp}
use Rattle.flat_code.specs.Code.{Code}
use Rattle.hare_blocks.specs.declared.expr.Sign.{Sign}
use Rattle.hare_blocks.specs.declared.expr.Sign.TheVariants.{Plus, Minus}
use Rattle.hare_blocks.specs.declared.expr.SignedTerm.{SignedTerm}
use Rattle.hare_blocks.specs.declared.expr.Factor as read
use Rattle.hare_blocks.specs.Trees.{Terms, Term, Factors, no_term, plus, minus, no_factor, times}
use Rattle.hare_blocks.specs.Shape.{signed, terms_of, factor_of, factors_of}
use Rattle.low_blocks.specs.declared.draft.Draft.{Draft}
use Rattle.low_blocks.specs.declared.last.Last.{Last}
use Rattle.low_blocks.specs.declared.last.Last.TheVariants.{Operand, Operation, ArgCount}
use Rattle.low_blocks.specs.Expressions.{Scope, last_set, Steps, Piece, settled, operand_of, operated, terms_steps, term_steps, factors_steps, factor_steps}
use Rattle.low_blocks.specs.Drafts.{sign_op, steps_of, steps_behind, piece_of, behind}

-- ---- steps behind other code

settled_behind : (cs : List Code) (last : Last) (code : List Code) (next : ℕ) →
    settled last (cs ++ code) next ≡ behind cs (settled last code next)
settled_behind cs (Operand v) code next = refl
settled_behind cs (Operation op a b) code next = ap (λ x. record { code = x; value = Temp next; next = suc next })
    (append_assoc cs code (last_set next (Operation op a b) ∷ []))
settled_behind cs ArgCount code next =
    ap (λ x. record { code = x; value = Temp next; next = suc next }) (append_assoc cs code (last_set next ArgCount ∷ []))

pub operand_behind : (cs : List Code) (steps : Steps) → operand_of (steps_behind cs steps) ≡ behind cs (operand_of steps)
operand_behind cs steps = settled_behind cs steps.last steps.code steps.next

operated_behind : (op : Op) (cs : List Code) (a b : Piece) → operated op (behind cs a) b ≡ steps_behind cs (operated op a b)
operated_behind op cs a b =
    ap (λ x. record { code = x; last = Operation op a.value b.value; next = b.next }) (append_assoc cs a.code b.code)

pub terms_behind : (scope : Scope) (cs : List Code) (left : Steps) (ts : Terms) →
    terms_steps scope (steps_behind cs left) ts ≡ steps_behind cs (terms_steps scope left ts)
terms_behind scope cs left no_term = refl
terms_behind scope cs left (plus a ts) =
    let x = operand_of left in
    let y = operand_of (term_steps scope x.next a) in
    ap (λ (z : Piece). terms_steps scope (operated Add z (operand_of (term_steps scope z.next a))) ts) (operand_behind cs left) ∙
    ap (λ z. terms_steps scope z ts) (operated_behind Add cs x y) ∙ terms_behind scope cs (operated Add x y) ts
terms_behind scope cs left (minus a ts) =
    let x = operand_of left in
    let y = operand_of (term_steps scope x.next a) in
    ap (λ (z : Piece). terms_steps scope (operated Sub z (operand_of (term_steps scope z.next a))) ts) (operand_behind cs left) ∙
    ap (λ z. terms_steps scope z ts) (operated_behind Sub cs x y) ∙ terms_behind scope cs (operated Sub x y) ts

pub factors_behind : (scope : Scope) (cs : List Code) (left : Steps) (fs : Factors) →
    factors_steps scope (steps_behind cs left) fs ≡ steps_behind cs (factors_steps scope left fs)
factors_behind scope cs left no_factor = refl
factors_behind scope cs left (times f fs) =
    let x = operand_of left in
    let y = operand_of (factor_steps scope x.next f) in
    ap (λ (z : Piece). factors_steps scope (operated Mul z (operand_of (factor_steps scope z.next f))) fs) (operand_behind cs left) ∙
    ap (λ z. factors_steps scope z fs) (operated_behind Mul cs x y) ∙ factors_behind scope cs (operated Mul x y) fs

-- the operand of steps that were put at the end
pub operand_grows : (cs : List Code) (steps : Steps) (last : Last) (v : Value) (d0 d1 : Draft) → steps_of d0 last ≡ steps_behind cs steps →
    piece_of d1 v ≡ operand_of (steps_of d0 last) → piece_of d1 v ≡ behind cs (operand_of steps)
operand_grows cs steps last v d0 d1 e g = g ∙ ap operand_of e ∙ operand_behind cs steps

-- ---- one more term or factor

-- an operation on what stands on the left and steps behind it
operation_grows : (op : Op) (k : ℕ → Steps) (left right : Last) (a b : Value) (d0 d1 d2 d3 : Draft) →
    piece_of d1 a ≡ operand_of (steps_of d0 left) → steps_of d2 right ≡ steps_behind d1.code (k d1.next) →
    piece_of d3 b ≡ operand_of (steps_of d2 right)
    → steps_of d3 (Operation op a b) ≡ operated op (operand_of (steps_of d0 left)) (operand_of (k (operand_of (steps_of d0 left)).next))
operation_grows op k left right a b d0 d1 d2 d3 e f g =
    let all = operand_grows d1.code (k d1.next) right b d2 d3 f g in
    let code : d3.code ≡ d1.code ++ (operand_of (k d1.next)).code = ap (λ (p : Piece). p.code) all in
    let value : b ≡ (operand_of (k d1.next)).value = ap (λ (p : Piece). p.value) all in
    let next : d3.next ≡ (operand_of (k d1.next)).next = ap (λ (p : Piece). p.next) all in
    let here : steps_of d3 (Operation op a b) ≡ operated op (piece_of d1 a) (operand_of (k d1.next)) = rw (code, value, next) refl in
    here ∙ ap (λ (z : Piece). operated op z (operand_of (k z.next))) e

signed_steps : (scope : Scope) (left : Steps) (s : Sign) (a : Term) (ts : Terms) →
    terms_steps scope left (signed s a ts) ≡ terms_steps scope
    (operated (sign_op s) (operand_of left) (operand_of (term_steps scope (operand_of left).next a))) ts
signed_steps scope left Plus a ts = refl
signed_steps scope left Minus a ts = refl

pub drop_item : {X : Type 0} (xs : List X) (i : ℕ) (x : X) → slice_get xs i ≡ Some x → drop i xs ≡ x ∷ drop (suc i) xs
drop_item [] i x e = cc
drop_item (y ∷ xs) zero x e = cc
drop_item (y ∷ xs) (suc i) x e = drop_item xs i x e

pub term_more : (scope : Scope) (items : List SignedTerm) (i : ℕ) (t : SignedTerm) (left right : Last) (a b : Value) (d0 d1 d2 d3 : Draft) →
    slice_get items i ≡ Some t → piece_of d1 a ≡ operand_of (steps_of d0 left)
    → steps_of d2 right ≡ steps_behind d1.code (term_steps scope d1.next t.term) → piece_of d3 b ≡ operand_of (steps_of d2 right)
    → terms_steps scope (steps_of d3 (Operation (sign_op t.sign) a b)) (terms_of (drop (suc i) items)) ≡ terms_steps scope
    (steps_of d0 left) (terms_of (drop i items))
term_more scope items i t left right a b d0 d1 d2 d3 at e f g =
    rw (drop_item items i t at) (ap (λ x. terms_steps scope x (terms_of (drop (suc i) items)))
    (operation_grows (sign_op t.sign) (λ n. term_steps scope n t.term) left right a b d0 d1 d2 d3 e f g) ∙ sym
    (signed_steps scope (steps_of d0 left) t.sign t.term (terms_of (drop (suc i) items))))

pub factor_more : (scope : Scope) (items : List read.Factor) (i : ℕ) (f : read.Factor) (left right : Last) (a b : Value)
    (d0 d1 d2 d3 : Draft) → slice_get items i ≡ Some f → piece_of d1 a ≡ operand_of (steps_of d0 left)
    → steps_of d2 right ≡ steps_behind d1.code (factor_steps scope d1.next (factor_of f)) → piece_of d3 b ≡ operand_of (steps_of d2 right)
    → factors_steps scope (steps_of d3 (Operation Mul a b)) (factors_of (drop (suc i) items)) ≡ factors_steps scope (steps_of d0 left)
    (factors_of (drop i items))
factor_more scope items i f left right a b d0 d1 d2 d3 at e h g =
    rw (drop_item items i f at) (ap (λ x. factors_steps scope x (factors_of (drop (suc i) items)))
    (operation_grows Mul (λ n. factor_steps scope n (factor_of f)) left right a b d0 d1 d2 d3 e h g))

pub drop_past : {X : Type 0} (xs : List X) (i : ℕ) → length xs ≤ i → drop i xs ≡ []
drop_past [] zero h = refl
drop_past [] (suc i) h = refl
drop_past (x ∷ xs) zero h = absurd (omega arith)
drop_past (x ∷ xs) (suc i) h = drop_past xs i (omega arith)

-- ---- whole expressions

-- behind the last term, the steps are those of the expression
pub terms_done : (scope : Scope) (items : List SignedTerm) (i : ℕ) (p p0 a : Steps) (cs : List Code) → length items ≤ i
    → terms_steps scope p (terms_of (drop i items)) ≡ terms_steps scope p0 (terms_of items) → p0 ≡ steps_behind cs a →
    p ≡ steps_behind cs (terms_steps scope a (terms_of items))
terms_done scope items i p p0 a cs past e f =
    let none = drop_past items i past in
    let done : p ≡ terms_steps scope p0 (terms_of items) = rw none at e in
    done ∙ ap (λ x. terms_steps scope x (terms_of items)) f ∙ terms_behind scope cs a (terms_of items)

pub factors_done : (scope : Scope) (items : List read.Factor) (i : ℕ) (p p0 a : Steps) (cs : List Code) → length items ≤ i
    → factors_steps scope p (factors_of (drop i items)) ≡ factors_steps scope p0 (factors_of items) → p0 ≡ steps_behind cs a →
    p ≡ steps_behind cs (factors_steps scope a (factors_of items))
factors_done scope items i p p0 a cs past e f =
    let none = drop_past items i past in
    let done : p ≡ factors_steps scope p0 (factors_of items) = rw none at e in
    done ∙ ap (λ x. factors_steps scope x (factors_of items)) f ∙ factors_behind scope cs a (factors_of items)
