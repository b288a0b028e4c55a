-- The tokens of blocks and the blocks of a function are those of one alone.
use Rattle.std.proofs.Common.{◌≡◌, List, [], ◌∷◌, ◌++◌, Bool, true, false, ◌||◌, refl, sym, ap, ◌∙◌, codes, append_assoc, append-nil, map}
use Rattle.std.proofs.lemmas.Bool.{false≢true}
use Rattle.il_code.specs.declared.types.Block.{Block}
use Rattle.il_code.specs.declared.types.Phi.{Phi}
use Rattle.il_code.specs.declared.types.Inst.{Inst}
use Rattle.il_code.specs.declared.types.Inst.TheVariants.{Set, Store, Blit, Call}
use Rattle.il_code.specs.declared.types.Jump.{Jump}
use Rattle.il_code.specs.declared.types.Jump.TheVariants.{Fall, Jmp, Jnz, Ret, Hlt}
use Rattle.il_code.specs.Tokens.{IlToken, Word, TempName, SymbolName, LabelName, Numeral, Quoted, Mark, LineEnd}
use Rattle.il_code.specs.Grammar.{Pattern, nothing, token, word, both, row, lines, on_line, comma, Fits, value_pattern, phi_args_pattern, phi_pattern, inst_pattern, returned_pattern, jump_pattern, block_pattern, blocks_pattern}
use Rattle.il_code.proofs.Unique.{Unique, begins, seen_as, then, last, front_both, front_token}
use Rattle.il_code.proofs.UniqueLists.{Repeats, row_leads, unique_row, no_line, unique_line_of}
use Rattle.il_code.proofs.UniqueCommas.{closes}
use Rattle.il_code.proofs.UniqueOperands.{unique_label}
use Rattle.il_code.proofs.UniqueJumps.{behind_block, behind_block-no_line, front_word, unique_jump}
use Rattle.il_code.proofs.UniqueCode.{Line, PhiLine, SetLine, CallLine, StoreLine, BlitLine, LastLine, line_of, line_of_inst, line_of_target, inst_line, unique_inst, unique_phi}

-- ---- the lines of a block

abbrev is_phi : Line → Bool
is_phi PhiLine = true
is_phi l = false

abbrev is_last : Line → Bool
is_last LastLine = true
is_last l = false

abbrev is_inst : Line → Bool
is_inst SetLine = true
is_inst CallLine = true
is_inst StoreLine = true
is_inst BlitLine = true
is_inst l = false

-- in front of instructions, or of what stands behind them
abbrev is_rest : Line → Bool
is_rest l = is_inst l || is_last l

abbrev is_some_line : Line → Bool
is_some_line l = is_phi l || is_rest l

some_no_line : (r : List IlToken) → is_some_line (line_of r) ≡ true → no_line r ≡ true
some_no_line [] h = refl
some_no_line (LineEnd ∷ r) h = absurd (false≢true h)
some_no_line (t ∷ r) h = refl

phi_is_some : (l : Line) → is_phi l ≡ true → is_some_line l ≡ true
phi_is_some PhiLine h = refl
phi_is_some l h = absurd (false≢true h)

rest_is_some : (l : Line) → is_rest l ≡ true → is_some_line l ≡ true
rest_is_some PhiLine h = refl
rest_is_some l h = h

inst_is_rest : (l : Line) → is_inst l ≡ true → is_rest l ≡ true
inst_is_rest l h = rw h refl

last_is_rest : (l : Line) → is_last l ≡ true → is_rest l ≡ true
last_is_rest LastLine h = refl
last_is_rest l h = absurd (false≢true h)

rest_no_phi : (l : Line) → is_rest l ≡ true → is_phi l ≡ false
rest_no_phi PhiLine h = absurd (false≢true h)
rest_no_phi l h = refl

last_no_inst : (l : Line) → is_last l ≡ true → is_inst l ≡ false
last_no_inst LastLine h = refl
last_no_inst l h = absurd (false≢true h)

abbrev at_phi : List IlToken → Bool
at_phi r = is_phi (line_of r)

abbrev at_inst : List IlToken → Bool
at_inst r = is_inst (line_of r)

abbrev at_rest : List IlToken → Bool
at_rest r = is_rest (line_of r)

abbrev at_last : List IlToken → Bool
at_last r = is_last (line_of r)

phi_line : (p : Phi) (a r : List IlToken) → Fits (phi_pattern p) a → line_of (a ++ r) ≡ PhiLine
phi_line p a r h = line_of_target (p.temp, p.class) (word (codes "phi")) (both (phi_args_pattern p.args) nothing) a r (codes "phi") h h.4.3

inst_at_inst : (i : Inst) → is_inst (line_of_inst i) ≡ true
inst_at_inst (Set t c o x y) = refl
inst_at_inst (Store m x y) = refl
inst_at_inst (Blit x y m) = refl
inst_at_inst (Call p t xs) = refl

repeats_phi : Repeats Phi (λ p. on_line (phi_pattern p)) no_line at_phi at_rest
repeats_phi = record {
  one = unique_line_of unique_phi (λ r. refl);
  opens = λ p. front_both at_phi true (phi_pattern p) lines (λ a r h. ap is_phi (phi_line p a r h));
  apart = λ r h. rest_no_phi (line_of r) h;
  inside = λ r h. some_no_line r (phi_is_some (line_of r) h);
  over = λ r h. some_no_line r (rest_is_some (line_of r) h);
}

repeats_inst : Repeats Inst (λ i. on_line (inst_pattern i)) no_line at_inst at_last
repeats_inst = record {
  one = unique_line_of unique_inst (λ r. refl);
  opens = λ i. front_both at_inst true (inst_pattern i) lines (λ a r h. ap is_inst (inst_line i a r h) ∙ inst_at_inst i);
  apart = λ r h. last_no_inst (line_of r) h;
  inside = λ r h. some_no_line r (rest_is_some (line_of r) (inst_is_rest (line_of r) h));
  over = λ r h. some_no_line r (rest_is_some (line_of r) (last_is_rest (line_of r) h));
}

-- ---- blocks

behind_block-last : (r : List IlToken) → behind_block r ≡ true → at_last r ≡ true
behind_block-last [] h = refl
behind_block-last (LabelName l ∷ r) h = refl
behind_block-last (Mark m ∷ r) h = refl
behind_block-last (Word w ∷ r) h = absurd (false≢true h)
behind_block-last (TempName w ∷ r) h = absurd (false≢true h)
behind_block-last (SymbolName w ∷ r) h = absurd (false≢true h)
behind_block-last (Numeral w ∷ r) h = absurd (false≢true h)
behind_block-last (Quoted w ∷ r) h = absurd (false≢true h)
behind_block-last (LineEnd ∷ r) h = absurd (false≢true h)

abbrev jump_row : Jump → Pattern
jump_row j = both (jump_pattern false j) nothing

abbrev insts_row : List Inst × Jump → Pattern
insts_row z = both (row (map (λ i. on_line (inst_pattern i)) z.0)) (jump_row z.1)

abbrev phis_row : List Phi × (List Inst × Jump) → Pattern
phis_row z = both (row (map (λ p. on_line (phi_pattern p)) z.0)) (insts_row z.1)

jump_leads : (j : Jump) (b r : List IlToken) → Fits (jump_row j) b → behind_block r ≡ true → at_last (b ++ r) ≡ true
jump_leads Fall b r h k = ap (λ z. at_last (z ++ r)) (h.2 ∙ ap (λ z. z ++ h.1) h.3 ∙ h.4) ∙ behind_block-last r k
jump_leads (Jmp l) b r h k = front_both at_last true (jump_pattern false (Jmp l)) nothing
    (front_word at_last true (codes "jmp") (row (token (LabelName l) ∷ [])) (λ s. refl)) b r h
jump_leads (Jnz v x y) b r h k = front_both at_last true (jump_pattern false (Jnz v x y)) nothing
    (front_word at_last true (codes "jnz") (row (value_pattern v ∷ comma ∷ token (LabelName x) ∷ comma ∷ token (LabelName y) ∷ []))
    (λ s. refl)) b r h
jump_leads (Ret v) b r h k = front_both at_last true (jump_pattern false (Ret v)) nothing
    (front_word at_last true (codes "ret") (row (returned_pattern v ∷ [])) (λ s. refl)) b r h
jump_leads Hlt b r h k = front_both at_last true (jump_pattern false Hlt) nothing
    (front_both at_last true (word (codes "hlt")) lines (front_token at_last true (Word (codes "hlt")) (λ s. refl))) b r h

-- behind a first part, what a second part leads with
second_leads : (H : List IlToken → Bool) (x y : List IlToken) (b r : List IlToken) → b ≡ x ++ y → H (x ++ (y ++ r)) ≡ true →
    H (b ++ r) ≡ true
second_leads H x y b r e h = ap (λ z. H (z ++ r)) e ∙ ap H (append_assoc x y r) ∙ h

insts_lead : (z : List Inst × Jump) (b r : List IlToken) → Fits (insts_row z) b → behind_block r ≡ true → at_rest (b ++ r) ≡ true
insts_lead z b r h k = second_leads at_rest h.0 h.1 b r h.2
    (row_leads repeats_inst at_rest (λ s l. inst_is_rest (line_of s) l) (λ s l. last_is_rest (line_of s) l) z.0 h.0 (h.1 ++ r) h.3
    (jump_leads z.1 h.1 r h.4 k))

phis_lead : (z : List Phi × (List Inst × Jump)) (b r : List IlToken) → Fits (phis_row z) b → behind_block r ≡ true → no_line (b ++ r) ≡ true
phis_lead z b r h k = second_leads no_line h.0 h.1 b r h.2
    (row_leads repeats_phi no_line repeats_phi.inside repeats_phi.over z.0 h.0 (h.1 ++ r) h.3 (insts_lead z.1 h.1 r h.4 k))

unique_insts_row : Unique (List Inst × Jump) insts_row behind_block
unique_insts_row = then (λ _ j. jump_row j) behind_block (unique_row repeats_inst) (λ _. last unique_jump)
    (λ _ j b r h k. jump_leads j b r h k)

unique_phis_row : Unique (List Phi × (List Inst × Jump)) phis_row behind_block
unique_phis_row = then (λ _ z. insts_row z) behind_block (unique_row repeats_phi) (λ _. unique_insts_row)
    (λ _ z b r h k. insts_lead z b r h k)

unique_block : Unique Block (block_pattern false) behind_block
unique_block = seen_as (block_pattern false) (λ b. (b.label, (b.phis, (b.insts, b.jump))))
    (λ z. record { label = z.0; phis = z.1.0; insts = z.1.1.0; jump = z.1.1.1 }) (λ y b h. (h, refl))
    (then (λ _ z. phis_row z) behind_block (unique_line_of unique_label (λ r. refl)) (λ _. unique_phis_row)
    (λ _ z b r h k. phis_lead z b r h k))

-- ---- the blocks of a function

abbrev is_label : IlToken → Bool
is_label (LabelName l) = true
is_label t = false

label_behind_block : (r : List IlToken) → begins is_label r ≡ true → behind_block r ≡ true
label_behind_block [] h = refl
label_behind_block (LabelName l ∷ r) h = refl
label_behind_block (t ∷ r) h = absurd (false≢true h)

closes-behind_block : (r : List IlToken) → closes r ≡ true → behind_block r ≡ true
closes-behind_block [] h = refl
closes-behind_block (Mark m ∷ r) h = refl
closes-behind_block (t ∷ r) h = absurd (false≢true h)

closes-no_label : (r : List IlToken) → closes r ≡ true → begins is_label r ≡ false
closes-no_label [] h = refl
closes-no_label (LabelName l ∷ r) h = absurd (false≢true h)
closes-no_label (t ∷ r) h = refl

repeats_block : Repeats Block (block_pattern false) behind_block (begins is_label) closes
repeats_block = record {
  one = unique_block;
  opens = λ b. front_both (begins is_label) true (on_line (token (LabelName b.label))) (phis_row (b.phis, (b.insts, b.jump)))
      (front_both (begins is_label) true (token (LabelName b.label)) lines
      (front_token (begins is_label) true (LabelName b.label) (λ r. refl)));
  apart = closes-no_label;
  inside = label_behind_block;
  over = closes-behind_block;
}

jump_fits : (final : Bool) (j : Jump) (a : List IlToken) → Fits (jump_pattern final j) a → Fits (jump_pattern false j) a
jump_fits false j a h = h
jump_fits true Fall a h = absurd h
jump_fits true (Jmp l) a h = h
jump_fits true (Jnz v x y) a h = h
jump_fits true (Ret v) a h = h
jump_fits true Hlt a h = h

-- a last block is written as any other
last_block_fits : (b : Block) (a : List IlToken) → Fits (block_pattern true b) a → Fits (block_pattern false b) a
last_block_fits b a h =
    let phis = h.4 in
    let insts = phis.4 in
    let jump = insts.4 in (
      h.0,
      h.1,
      h.2,
      h.3,
      (
        phis.0,
        phis.1,
        phis.2,
        phis.3,
        (insts.0, insts.1, insts.2, insts.3, (jump.0, jump.1, jump.2, jump_fits true b.jump jump.0 jump.3, jump.4)),
      ),
    )

pub blocks_fits : (bs : List Block) (a : List IlToken) → Fits (blocks_pattern bs) a → Fits (row (map (block_pattern false) bs)) a
blocks_fits [] a h = absurd h
blocks_fits (b ∷ []) a h = (a, [], sym (append-nil a), last_block_fits b a h, refl)
blocks_fits (b ∷ c ∷ bs) a h = (h.0, h.1, h.2, h.3, blocks_fits (c ∷ bs) h.1 h.4)

pub unique_blocks : Unique (List Block) blocks_pattern closes
unique_blocks = seen_as blocks_pattern (λ bs. bs) (λ bs. bs) (λ bs a h. (blocks_fits bs a h, refl)) (unique_row repeats_block)

-- no NL stands in front of blocks
pub blocks_lead : (bs : List Block) (b r : List IlToken) → Fits (blocks_pattern bs) b → closes r ≡ true → no_line (b ++ r) ≡ true
blocks_lead bs b r h k = row_leads repeats_block no_line (λ s l. behind_block-no_line s (label_behind_block s l))
    (λ s l. behind_block-no_line s (closes-behind_block s l)) bs b r (blocks_fits bs b h) k
