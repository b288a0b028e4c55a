-- The tokens of jumps are those of one alone.
use Rattle.std.proofs.Common.{◌≡◌, ℕ, List, [], ◌∷◌, ◌++◌, Option, None, Some, Bool, true, false, cond, refl, sym, ap, ◌∙◌, codes, bytes_eq}
use Rattle.std.proofs.lemmas.Bool.{false≢true}
use Rattle.il_code.specs.declared.types.IlValue.{IlValue}
use Rattle.il_code.specs.declared.types.IlValue.TheVariants.{Number, Temp, Symbol}
use Rattle.il_code.specs.declared.types.Jump.{Jump}
use Rattle.il_code.specs.declared.types.Jump.TheVariants.{Fall, Jmp, Jnz, Ret, Hlt}
use Rattle.il_code.specs.Tokens.{IlToken, Word, TempName, SymbolName, LabelName, Numeral, Mark, LineEnd}
use Rattle.il_code.specs.Grammar.{Pattern, token, word, both, row, lines, on_line, comma, Fits, value_pattern, returned_pattern, jump_pattern}
use Rattle.il_code.proofs.Unique.{ahead-begins, Unique, ahead, begins, fails, seen_as, weaker, next, begun, last, one_token, if_there, maybe, front_both, front_token}
use Rattle.il_code.proofs.UniqueLists.{no_line, unique_line_of}
use Rattle.il_code.proofs.UniqueOperands.{unique_value, unique_label}

-- ---- what stands behind a block

-- a label, or a bracket
abbrev pub is_behind_block : IlToken → Bool
is_behind_block (LabelName l) = true
is_behind_block (Mark m) = true
is_behind_block t = false

abbrev pub behind_block : List IlToken → Bool
behind_block = ahead is_behind_block

pub behind_block-no_line : (r : List IlToken) → behind_block r ≡ true → no_line r ≡ true
behind_block-no_line [] h = refl
behind_block-no_line (LineEnd ∷ r) h = absurd (false≢true h)
behind_block-no_line (t ∷ r) h = refl

-- ---- jumps

data JumpLine : Type 0 where
  NoJump JmpLine JnzLine RetLine HltLine : JumpLine

abbrev jump_line_of : List IlToken → JumpLine
jump_line_of (Word w ∷ ts) = cond (bytes_eq w (codes "jmp")) JmpLine
    (cond (bytes_eq w (codes "jnz")) JnzLine (cond (bytes_eq w (codes "ret")) RetLine HltLine))
jump_line_of ts = NoJump

abbrev line_of_jump : Jump → JumpLine
line_of_jump Fall = NoJump
line_of_jump (Jmp l) = JmpLine
line_of_jump (Jnz v a b) = JnzLine
line_of_jump (Ret v) = RetLine
line_of_jump Hlt = HltLine

behind_block-no_jump : (r : List IlToken) → behind_block r ≡ true → jump_line_of r ≡ NoJump
behind_block-no_jump [] h = refl
behind_block-no_jump (Word w ∷ r) h = absurd (false≢true h)
behind_block-no_jump (t ∷ r) h = refl

-- what a line that begins with a word shows
pub front_word : {V : Type 0} (E : List IlToken → V) (v : V) (w : List ℕ) (q : Pattern) → ((r : List IlToken) → E (Word w ∷ r) ≡ v) →
    (b r : List IlToken) → Fits (on_line (both (word w) q)) b → E (b ++ r) ≡ v
front_word E v w q k = front_both E v (both (word w) q) lines (front_both E v (word w) q (front_token E v (Word w) k))

jump_line : (j : Jump) (a r : List IlToken) → Fits (jump_pattern false j) a → behind_block r ≡ true → jump_line_of (a ++ r) ≡ line_of_jump j
jump_line Fall a r h k = ap (λ z. jump_line_of (z ++ r)) h ∙ behind_block-no_jump r k
jump_line (Jmp l) a r h k = front_word jump_line_of JmpLine (codes "jmp") (row (token (LabelName l) ∷ [])) (λ s. refl) a r h
jump_line (Jnz v x y) a r h k = front_word jump_line_of JnzLine (codes "jnz")
    (row (value_pattern v ∷ comma ∷ token (LabelName x) ∷ comma ∷ token (LabelName y) ∷ [])) (λ s. refl) a r h
jump_line (Ret v) a r h k = front_word jump_line_of RetLine (codes "ret") (row (returned_pattern v ∷ [])) (λ s. refl) a r h
jump_line Hlt a r h k = front_both jump_line_of HltLine (word (codes "hlt")) lines
    (front_token jump_line_of HltLine (Word (codes "hlt")) (λ s. refl)) a r h

unique_jmp : Unique (List ℕ) (λ l. jump_pattern false (Jmp l)) no_line
unique_jmp = unique_line_of (begun (Word (codes "jmp")) (last unique_label)) (λ r. refl)

unique_jnz : Unique (IlValue × (List ℕ × List ℕ)) (λ z. jump_pattern false (Jnz z.0 z.1.0 z.1.1)) no_line
unique_jnz = unique_line_of (begun (Word (codes "jnz"))
    (next unique_value (begun (Mark 44) (next unique_label (begun (Mark 44) (last unique_label)))))) (λ r. refl)

abbrev is_value : IlToken → Bool
is_value (Numeral n) = true
is_value (TempName t) = true
is_value (SymbolName s) = true
is_value t = false

value_opens : (v : IlValue) (a r : List IlToken) → Fits (value_pattern v) a → ahead (fails is_value) r ≡ true →
    begins is_value (a ++ r) ≡ true
value_opens (Number n) a r h k = ap (λ z. begins is_value (z ++ r)) h
value_opens (Temp t) a r h k = ap (λ z. begins is_value (z ++ r)) h
value_opens (Symbol s) a r h k = ap (λ z. begins is_value (z ++ r)) h

returned_fits : (v : Option IlValue) (b : List IlToken) → Fits (returned_pattern v) b → Fits (if_there value_pattern v) b × (v ≡ v)
returned_fits None b h = (h, refl)
returned_fits (Some v) b h = (h, refl)

unique_returned : Unique (Option IlValue) returned_pattern (ahead (fails is_value))
unique_returned = seen_as returned_pattern (λ v. v) (λ v. v) returned_fits
    (maybe (begins is_value) value_opens (ahead-begins is_value) (weaker (ahead (fails is_value)) (λ r h. refl) unique_value))

unique_ret : Unique (Option IlValue) (λ v. jump_pattern false (Ret v)) no_line
unique_ret = unique_line_of (begun (Word (codes "ret")) (last unique_returned)) (λ r. refl)

unique_hlt : Unique (Unit {0}) (λ u. jump_pattern false Hlt) no_line
unique_hlt = unique_line_of (one_token (Word (codes "hlt"))) (λ r. refl)

jump_same : (i j : Jump) (a b r s : List IlToken) → Fits (jump_pattern false i) a → Fits (jump_pattern false j) b → a ++ r ≡ b ++ s →
    no_line r ≡ true → no_line s ≡ true → line_of_jump i ≡ line_of_jump j → (i ≡ j) × (r ≡ s)
jump_same Fall Fall a b r s fi fj e nr ns k = (refl, ap (λ z. z ++ r) (sym fi) ∙ e ∙ ap (λ z. z ++ s) fj)
jump_same (Jmp l) (Jmp m) a b r s fi fj e nr ns k = let z = unique_jmp.same l m a b r s fi fj e nr ns in (ap Jmp z.0, z.1)
jump_same (Jnz v l m) (Jnz w n o) a b r s fi fj e nr ns k =
    let z = unique_jnz.same (v, (l, m)) (w, (n, o)) a b r s fi fj e nr ns in (ap (λ j. Jnz j.0 j.1.0 j.1.1) z.0, z.1)
jump_same (Ret v) (Ret w) a b r s fi fj e nr ns k = let z = unique_ret.same v w a b r s fi fj e nr ns in (ap Ret z.0, z.1)
jump_same Hlt Hlt a b r s fi fj e nr ns k = let z = unique_hlt.same tt tt a b r s fi fj e nr ns in (refl, z.1)
jump_same i j a b r s fi fj e nr ns k = absurd (cc)

pub unique_jump : Unique Jump (jump_pattern false) behind_block
unique_jump = record {
  same = λ i j a b r s fi fj e kr ks. jump_same i j a b r s fi fj e (behind_block-no_line r kr)
      (behind_block-no_line s ks) (sym (jump_line i a r fi kr) ∙ ap jump_line_of e ∙ jump_line j b s fj ks);
}
