-- The parts of a string, up to its closing quote or to its first wrong escape.
use Rattle.std.proofs.Common.{◌≡◌, ℕ, zero, suc, List, [], ◌∷◌, ◌++◌, Option, Some, None, Bool, true, false, ◌&&◌, not, eqb, length, take, drop, refl, sym, ap, ◌∙◌, subst, inl, inr, append_assoc, take-append-drop, encode_utf8}
use Rattle.std.proofs.Math.Logic.{⊎_elim}
use Rattle.std.specs.List.{AllByRecursion}
use Rattle.hare_tree.specs.Spelling.{IsEscape, IsPart, spelled, decoded}
use Rattle.hare_tree.specs.Tokens.{holds}
use Rattle.hare_lex.specs.Lexing.{escape, bad_escape, unescaped}
use Rattle.hare_lex.proofs.Fronts.Lists.{and_left, and_right}
use Rattle.hare_lex.proofs.Literals.Escapes.{escape_read, escape_holds, eq_of}

-- ---- parts

-- a part of a string closes it nowhere
part_holds : (p : List ℕ × List ℕ) (t : List ℕ) → IsPart p → holds 34 false (p.0 ++ t) ≡ holds 34 false t
part_holds p t h = ⊎_elim
    (λ a. rw (a.1, a.3, a.4) refl)
    (λ a. escape_holds 34 p.0 t a.0 (inl refl) a.1)
    h

-- the parts of a string close it nowhere
pub parts_hold : (ps : List (List ℕ × List ℕ)) (t : List ℕ) → AllByRecursion IsPart ps → holds 34 false (spelled ps ++ t) ≡ holds 34 false t
parts_hold [] t h = refl
parts_hold (p ∷ ps) t h = rw (append_assoc p.0 (spelled ps) t) (part_holds p (spelled ps ++ t) h.0 ∙ parts_hold ps t h.1)

-- text that is all parts, with what it decodes to
pub record Parts (s text : List ℕ) : Type 0 where
  pub parts : List (List ℕ × List ℕ)
  pub each : AllByRecursion IsPart parts
  pub spelled_by : s ≡ spelled parts
  pub decoded_is : text ≡ decoded parts

-- one part more in front of parts
one_more : (p : List ℕ × List ℕ) (s t text more : List ℕ) → IsPart p → s ≡ p.0 ++ t → text ≡ p.1 ++ more → Parts t more → Parts s text
one_more p s t text more h e k r = record {
  parts = p ∷ r.parts;
  each = (h, r.each);
  spelled_by = e ∙ ap (λ l. p.0 ++ l) r.spelled_by;
  decoded_is = k ∙ ap (λ l. p.1 ++ l) r.decoded_is;
}

-- a byte other than the backslash stays
pub unescaped_plain : (c : ℕ) (s : List ℕ) → eqb c 92 ≡ false → unescaped 0 (c ∷ s) ≡ c ∷ unescaped 0 s
unescaped_plain c s h = rw (unescaped, h) refl

-- an escape is replaced by its character
pub unescaped_escape : (c : ℕ) (s : List ℕ) (v n : ℕ) → eqb c 92 ≡ true → escape s ≡ Some (v, n) →
    unescaped 0 (c ∷ s) ≡ encode_utf8 v ++ unescaped n s
unescaped_escape c s v n h e = rw (unescaped, h) (rw e refl)

-- an escape at the front is a part
record EscapePart (c : ℕ) (s : List ℕ) (v n : ℕ) : Type 0 where
  part : IsPart (c ∷ take n s, encode_utf8 v)
  split : c ∷ s ≡ (c ∷ take n s) ++ drop n s
  closed : holds 34 false (c ∷ s) ≡ holds 34 false (drop n s)

-- an escape that is read at the front is a part, and closes nothing
escape_part : (c : ℕ) (s : List ℕ) (v n : ℕ) → eqb c 92 ≡ true → escape s ≡ Some (v, n) → EscapePart c s v n
escape_part c s v n e h =
    let r = escape_read s v n h in
    let same : 92 ≡ c = sym (eq_of c 92 e) in
    let is : IsEscape (c ∷ take n s) v = subst (λ q. IsEscape (q ∷ take n s) v) same r.is in
    let split : c ∷ s ≡ (c ∷ take n s) ++ drop n s = ap (λ l. c ∷ l) (sym (take-append-drop n s)) in
    record {
      part = inr (v, is, refl);
      split = split;
      closed = ap (holds 34 false) split ∙ escape_holds 34 (c ∷ take n s) (drop n s) v
          (inl refl) is;
    }

-- no wrong escape begins at a byte other than the backslash
pub bad_plain : (c : ℕ) (s : List ℕ) → eqb c 92 ≡ false → bad_escape 0 (c ∷ s) ≡ bad_escape 0 s
bad_plain c s e = rw e refl

-- behind an escape that is read the next wrong one is looked for
pub bad_behind : (c : ℕ) (s : List ℕ) (v n : ℕ) → eqb c 92 ≡ true → escape s ≡ Some (v, n) → bad_escape 0 (c ∷ s) ≡ bad_escape n s
bad_behind c s v n e h = rw (e, h) refl

-- a backslash that begins no escape is the wrong one
pub bad_here : (c : ℕ) (s : List ℕ) → eqb c 92 ≡ true → escape s ≡ None → bad_escape 0 (c ∷ s) ≡ Some (suc (length s))
bad_here c s e h = rw (e, h) refl

-- a byte other than the backslash takes nothing with it
plain_holds : (c : ℕ) (s : List ℕ) → eqb c 92 ≡ false → holds 34 false (c ∷ s) ≡ (not (eqb c 34) && holds 34 false s)
plain_holds c s e = rw e refl

-- what is not true is false
not_true : (b : Bool) → not b ≡ true → b ≡ false
not_true false h = refl
not_true true h = absurd (cc)

-- a byte other than the quote and the backslash is a part
plain_part : (c : ℕ) (s : List ℕ) → eqb c 92 ≡ false → holds 34 false (c ∷ s) ≡ true → IsPart (c ∷ [], c ∷ []) × (holds 34 false s ≡ true)
plain_part c s e k =
    let k2 : (not (eqb c 34) && holds 34 false s) ≡ true = sym (plain_holds c s e) ∙ k in
    (inl (c, refl, refl, not_true (eqb c 34) (and_left _ _ k2), e), and_right _ _ k2)

-- by the first byte: where no escape is wrong the text is all parts
good_at : (c : ℕ) (s : List ℕ) (b : Bool) (o : Option (ℕ × ℕ)) → eqb c 92 ≡ b → escape s ≡ o → bad_escape 0 (c ∷ s) ≡ None →
    holds 34 false (c ∷ s) ≡ true → ((n : ℕ) → bad_escape n s ≡ None → holds 34 false (drop n s) ≡ true →
    Parts (drop n s) (unescaped n s)) → Parts (c ∷ s) (unescaped 0 (c ∷ s))
good_at c s false o e f h k more =
    let p = plain_part c s e k in
    one_more (c ∷ [], c ∷ []) (c ∷ s) s (unescaped 0 (c ∷ s)) (unescaped 0 s) p.0 refl (unescaped_plain c s e)
    (more 0 (sym (bad_plain c s e) ∙ h) p.1)
good_at c s true None e f h k more = let both : None ≡ Some (suc (length s)) = sym h ∙ bad_here c s e f in absurd (cc)
good_at c s true (Some r) e f h k more =
    let p = escape_part c s r.0 r.1 e f in
    one_more (c ∷ take r.1 s, encode_utf8 r.0) (c ∷ s) (drop r.1 s) (unescaped 0 (c ∷ s)) (unescaped r.1 s) p.part p.split
    (unescaped_escape c s r.0 r.1 e f) (more r.1 (sym (bad_behind c s r.0 r.1 e f) ∙ h) (sym p.closed ∙ k))

-- where no escape is bad the text is all parts
pub good_parts : (n : ℕ) (s : List ℕ) → bad_escape n s ≡ None → holds 34 false (drop n s) ≡ true → Parts (drop n s) (unescaped n s)
good_parts zero [] h k = record { parts = []; each = tt; spelled_by = refl; decoded_is = refl }
good_parts (suc n) [] h k = record { parts = []; each = tt; spelled_by = refl; decoded_is = refl }
good_parts (suc n) (c ∷ s) h k = good_parts n s h k
good_parts zero (c ∷ s) h k = good_at c s (eqb c 92) (escape s) refl refl h k (λ n a b. good_parts n s a b)

-- ---- a backslash that begins no escape

-- parts, and then a backslash that begins no escape
pub record BadParts (s : List ℕ) (left : ℕ) : Type 0 where
  pub parts : List (List ℕ × List ℕ)
  pub each : AllByRecursion IsPart parts
  pub bad : List ℕ
  pub split : s ≡ spelled parts ++ 92 ∷ bad
  pub left_is : left ≡ suc (length bad)
  pub none : escape bad ≡ None

-- one part more in front of parts and a wrong escape
one_before : (p : List ℕ × List ℕ) (s t : List ℕ) (left : ℕ) → IsPart p → s ≡ p.0 ++ t → BadParts t left → BadParts s left
one_before p s t left h e r = record {
  parts = p ∷ r.parts;
  each = (h, r.each);
  bad = r.bad;
  split = e ∙ ap (λ l. p.0 ++ l) r.split ∙ sym (append_assoc p.0 (spelled r.parts) (92 ∷ r.bad));
  left_is = r.left_is;
  none = r.none;
}

-- by the first byte: the text is parts up to its wrong escape
bad_at : (c : ℕ) (s : List ℕ) (left : ℕ) (b : Bool) (o : Option (ℕ × ℕ)) → eqb c 92 ≡ b → escape s ≡ o → bad_escape 0 (c ∷ s) ≡ Some left →
    holds 34 false (c ∷ s) ≡ true → ((n : ℕ) → bad_escape n s ≡ Some left → holds 34 false (drop n s) ≡ true → BadParts (drop n s) left) →
    BadParts (c ∷ s) left
bad_at c s left false o e f h k more =
    let p = plain_part c s e k in
    one_before (c ∷ [], c ∷ []) (c ∷ s) s left p.0 refl (more 0 (sym (bad_plain c s e) ∙ h) p.1)
bad_at c s left true None e f h k more =
    let both : Some (suc (length s)) ≡ Some left = sym (bad_here c s e f) ∙ h in
    let same : suc (length s) ≡ left = cc in
    record { parts = []; each = tt; bad = s; split = ap (λ q. q ∷ s) (eq_of c 92 e); left_is = sym same; none = f }
bad_at c s left true (Some r) e f h k more =
    let p = escape_part c s r.0 r.1 e f in
    one_before (c ∷ take r.1 s, encode_utf8 r.0) (c ∷ s) (drop r.1 s) left p.part p.split
    (more r.1 (sym (bad_behind c s r.0 r.1 e f) ∙ h) (sym p.closed ∙ k))

-- where an escape is wrong the text is parts up to it
pub bad_parts : (n : ℕ) (s : List ℕ) (left : ℕ) → bad_escape n s ≡ Some left → holds 34 false (drop n s) ≡ true → BadParts (drop n s) left
bad_parts zero [] left h k = absurd (cc)
bad_parts (suc n) [] left h k = absurd (cc)
bad_parts (suc n) (c ∷ s) left h k = bad_parts n s left h k
bad_parts zero (c ∷ s) left h k = bad_at c s left (eqb c 92) (escape s) refl refl h k (λ n a b. bad_parts n s left a b)
