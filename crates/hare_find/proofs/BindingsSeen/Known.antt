-- What is known of bindings behind their nodes, and what judges are told of them.
use Rattle.std.proofs.Common.{◌≡◌, ℕ, zero, suc, true, false, cond, List, [], ◌∷◌, refl, ap, sym, ◌∙◌, Option, None}
use Rattle.std.specs.Prelude.{slice_get, slice_set}
use Rattle.hare_tree.specs.declared.kind.Kind.{Kind}
use Rattle.hare_tree.specs.declared.kind.Kind.TheVariants as ki
use Rattle.hare_types.specs.declared.coercion.Ty.{Ty}
use Rattle.hare_typed.specs.Typed.{TypedNode}
use Rattle.hare_typed.specs.Order.{tree_from_front}
use Rattle.hare_flow.specs.declared.seen.Binding.{Binding}
use Rattle.hare_flow.specs.Seen.{entry_of}
use Rattle.hare_rules.specs.declared.declared.Local.{Local}
use Rattle.hare_rules.specs.Context.{Context, Entry, is_there, own_type, store_of}
use Rattle.hare_rules.specs.Control.{type_kid_of, type_kid, value_kid, has_written_type, binding_type}
use Rattle.hare_rules.specs.Flow.{known_as, locals_after}
use Rattle.hare_rules.specs.Words.{id_in, default_in}
use Rattle.hare_told.specs.Told.{IsToldEntry, AreToldEntries}

-- ---- what judges are told

pub told_set : (es : List Entry) (ls : List Local) (n : ℕ) (e : Entry) (l : Local) → IsToldEntry e l → AreToldEntries es ls →
    AreToldEntries (slice_set es n e) (slice_set ls n l)
told_set [] [] zero e l h k = k
told_set [] [] (suc n) e l h k = k
told_set [] (m ∷ ms) n e l h k = absurd k
told_set (d ∷ es) [] n e l h k = absurd k
told_set (d ∷ es) (m ∷ ms) zero e l h k = (h, k.1)
told_set (d ∷ es) (m ∷ ms) (suc n) e l h k = (k.0, told_set es ms n e l h k.1)

-- there is no such binding
pub told_past : (es : List Entry) (ls : List Local) (n : ℕ) (e : Entry) → slice_get ls n ≡ None → AreToldEntries es ls →
    AreToldEntries (slice_set es n e) ls
told_past [] [] zero e h k = k
told_past [] [] (suc n) e h k = k
told_past [] (m ∷ ms) n e h k = absurd k
told_past (d ∷ es) [] n e h k = absurd k
told_past (d ∷ es) (m ∷ ms) zero e h k = cc
told_past (d ∷ es) (m ∷ ms) (suc n) e h k = (k.0, told_past es ms n e h k.1)

-- ---- the type of a binding

written_kid : (c : Context) (xs : List TypedNode) → c.kids ≡ xs → type_kid_of c.head.kind ≡ 0 → type_kid c ≡ tree_from_front 0 xs
written_kid c xs e k = ap (λ n. tree_from_front n c.kids) k ∙ ap (tree_from_front 0) e

valued_kid : (c : Context) (xs : List TypedNode) → c.kids ≡ xs → type_kid_of c.head.kind ≡ 0 → value_kid c ≡ tree_from_front 1 xs
valued_kid c xs e k = ap (λ n. tree_from_front (suc n) c.kids) k ∙ ap (tree_from_front 1) e

pub written_binding : (c : Context) (xs : List TypedNode) (a : Ty) (o : Option ℕ) → c.kids ≡ xs → type_kid_of c.head.kind ≡ 0 →
    is_there (tree_from_front 0 xs) ≡ true → a ≡ own_type (tree_from_front 0 xs) → o ≡ id_in a → o ≡ binding_type c
written_binding c xs a o e k h d g =
    let t = written_kid c xs e k in
    let w : has_written_type c ≡ true = ap is_there t ∙ h in
    let r = ap (λ b. cond b (id_in (own_type (type_kid c))) (default_in (store_of c) (own_type (value_kid c)))) w in
    g ∙ ap id_in (d ∙ ap own_type (sym t)) ∙ sym r

pub valued_binding : (c : Context) (xs : List TypedNode) (a : Ty) (o : Option ℕ) → c.kids ≡ xs → type_kid_of c.head.kind ≡ 0 →
    is_there (tree_from_front 0 xs) ≡ false → a ≡ own_type (tree_from_front 1 xs) → o ≡ default_in (store_of c) a → o ≡ binding_type c
valued_binding c xs a o e k h d g =
    let t = written_kid c xs e k in
    let w : has_written_type c ≡ false = ap is_there t ∙ h in
    let r = ap (λ b. cond b (id_in (own_type (type_kid c))) (default_in (store_of c) (own_type (value_kid c)))) w in
    g ∙ ap (default_in (store_of c)) (d ∙ ap own_type (sym (valued_kid c xs e k))) ∙ sym r

-- ---- bindings behind a node

pub let_known : (c : Context) (k : Kind) (o : Option ℕ) (b : Binding) (n : ℕ) (ls : List Entry) → k ≡ ki.Let → o ≡ binding_type c →
    entry_of b ≡ known_as true o → locals_after c k n ls ≡ slice_set ls n (entry_of b)
let_known c k o b n ls e d g = ap (λ x. locals_after c x n ls) e ∙ ap (slice_set ls n) (ap (known_as true) (sym d) ∙ sym g)

pub const_known : (c : Context) (k : Kind) (o : Option ℕ) (b : Binding) (n : ℕ) (ls : List Entry) → k ≡ ki.Const → o ≡ binding_type c →
    entry_of b ≡ known_as false o → locals_after c k n ls ≡ slice_set ls n (entry_of b)
const_known c k o b n ls e d g = ap (λ x. locals_after c x n ls) e ∙ ap (slice_set ls n) (ap (known_as false) (sym d) ∙ sym g)

pub pattern_known : (c : Context) (k : Kind) (xs : List TypedNode) (a : Ty) (o : Option ℕ) (b : Binding) (n : ℕ) (ls : List Entry) →
    k ≡ ki.PatternLet → c.kids ≡ xs → a ≡ own_type (tree_from_front 0 xs) → o ≡ id_in a → entry_of b ≡ known_as true o →
    locals_after c k n ls ≡ slice_set ls n (entry_of b)
pattern_known c k xs a o b n ls e q d g f =
    let t : id_in (own_type (tree_from_front 0 c.kids)) ≡ o = ap (λ ys. id_in (own_type (tree_from_front 0 ys))) q ∙ ap id_in (sym d) ∙
    sym g in
    ap (λ x. locals_after c x n ls) e ∙ ap (slice_set ls n) (ap (known_as true) t ∙ sym f)

pub none_known : (c : Context) (k : Kind) (n : ℕ) (ls : List Entry) → ¬ (k ≡ ki.Let) → ¬ (k ≡ ki.Const) → ¬ (k ≡ ki.PatternLet) →
    locals_after c k n ls ≡ ls
none_known c ki.Let n ls p q r = absurd (p refl)
none_known c ki.Const n ls p q r = absurd (q refl)
none_known c ki.PatternLet n ls p q r = absurd (r refl)
none_known c _ n ls p q r = refl
