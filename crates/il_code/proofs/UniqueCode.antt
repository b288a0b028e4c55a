-- The tokens of instructions and phis are those of one alone.
use Rattle.std.proofs.Common.{◌≡◌, ℕ, List, [], ◌∷◌, ◌++◌, Option, None, Some, Bool, true, false, cond, refl, sym, ap, ◌∙◌, codes, bytes_eq, map}
use Rattle.std.specs.Option.{is_some}
use Rattle.hx_base.specs.declared.Class.{Class}
use Rattle.hx_base.specs.declared.Class.TheVariants.{W, L}
use Rattle.il_code.specs.declared.op.IlOp.{IlOp}
use Rattle.il_code.specs.declared.types.IlParam.{IlParam}
use Rattle.il_code.specs.declared.types.Phi.{Phi}
use Rattle.il_code.specs.declared.types.PhiArg.{PhiArg}
use Rattle.il_code.specs.declared.types.IlValue.{IlValue}
use Rattle.il_code.specs.declared.types.IlArg.{IlArg}
use Rattle.il_code.specs.declared.types.Inst.{Inst}
use Rattle.il_code.specs.declared.types.Inst.TheVariants.{Set, Store, Blit, Call}
use Rattle.il_code.specs.Classes.{op_kind, takes_two}
use Rattle.il_code.specs.Tokens.{IlToken, Word, TempName, SymbolName, LabelName, Mark}
use Rattle.il_code.specs.Grammar.{Pattern, never, nothing, token, word, both, row, equals, comma, listed, Fits, class_pattern, value_pattern, target_pattern, arg_pattern, phi_arg_pattern, phi_args_pattern, phi_pattern, op_pattern, second_pattern, result_pattern, store_pattern, inst_pattern}
use Rattle.il_code.proofs.Unique.{ahead-begins, Unique, any, ahead, begins, fails, begins-first, seen_as, weaker, then, begun, last, choice, or_else, if_there, maybe, next, ended, ahead-first}
use Rattle.il_code.proofs.UniqueLists.{Repeats, unique_row}
use Rattle.il_code.proofs.UniqueCommas.{is_comma, unique_listed, behind_comma_fits, parted, joined}
use Rattle.il_code.proofs.UniqueOperands.{unique_value, unique_target, unique_symbol, unique_numeral, unique_op, unique_phi_arg, args_listed, by_word, IsWordFor, op_of, op_is, width_in, by_width_is}

-- ---- which line stands next

-- the lines of a block, and what stands behind them
pub data Line : Type 0 where
  PhiLine SetLine CallLine StoreLine BlitLine LastLine NoLine : Line

abbrev pub store_width : List ℕ → Option ℕ
store_width = width_in (codes "storeb") (codes "storeh") (codes "storew") (codes "storel")

abbrev pub line_of_word : List ℕ → Line
line_of_word w = cond (is_some (store_width w)) StoreLine
    (cond (bytes_eq w (codes "blit")) BlitLine (cond (bytes_eq w (codes "call")) CallLine LastLine))

-- what stands behind a temporary with its class
abbrev pub line_behind : List ℕ → Line
line_behind w = cond (is_some (op_of w)) SetLine (cond (bytes_eq w (codes "call")) CallLine PhiLine)

abbrev pub line_of : List IlToken → Line
line_of [] = LastLine
line_of (Word w ∷ ts) = line_of_word w
line_of (TempName t ∷ e ∷ c ∷ Word w ∷ ts) = line_behind w
line_of (LabelName l ∷ ts) = LastLine
line_of (Mark m ∷ ts) = LastLine
line_of ts = NoLine

-- ---- instructions

second_same : (two : Bool) (x y : Option IlValue) (a b r s : List IlToken) → Fits (second_pattern two x) a → Fits (second_pattern two y) b →
    a ++ r ≡ b ++ s → (x ≡ y) × (r ≡ s)
second_same true (Some x) (Some y) a b r s fx fy e =
    let z = (begun (Mark 44) unique_value).same x y a b r s fx fy e refl refl in (ap Some z.0, z.1)
second_same true (Some x) None a b r s fx fy e = absurd fy
second_same true None y a b r s fx fy e = absurd fx
second_same false (Some x) y a b r s fx fy e = absurd fx
second_same false None (Some y) a b r s fx fy e = absurd fy
second_same false None None a b r s fx fy e = (refl, ap (λ z. z ++ r) (sym fx) ∙ e ∙ ap (λ z. z ++ s) fy)

unique_second : (two : Bool) → Unique (Option IlValue) (second_pattern two) any
unique_second two = record { same = λ x y a b r s fx fy e fr fs. second_same two x y a b r s fx fy e }

unique_set : Unique ((List ℕ × Class) × (IlOp × (IlValue × Option IlValue))) (λ z. inst_pattern (Set z.0.0 z.0.1 z.1.0 z.1.1.0 z.1.1.1)) any
unique_set = next unique_target (then (λ o y. both (value_pattern y.0) (both (second_pattern (takes_two (op_kind o)) y.1) nothing)) any
    unique_op (λ o. next unique_value (last (unique_second (takes_two (op_kind o))))) (λ x y b r h k. refl))

store_word : (n : ℕ) (a : List IlToken) → Fits (store_pattern n) a → IsWordFor store_width n a
store_word = by_width_is (codes "storeb") (codes "storeh") (codes "storew") (codes "storel") refl refl refl refl

unique_store : Unique (ℕ × (IlValue × IlValue)) (λ z. inst_pattern (Store z.0 z.1.0 z.1.1)) any
unique_store = next (by_word store_pattern store_width store_word) (next unique_value (begun (Mark 44) (last unique_value)))

unique_blit : Unique (IlValue × (IlValue × ℕ)) (λ z. inst_pattern (Blit z.0 z.1.0 z.1.1)) any
unique_blit = begun (Word (codes "blit")) (next unique_value (begun (Mark 44) (next unique_value (begun (Mark 44) (last unique_numeral)))))

-- ---- calls

abbrev is_temp : IlToken → Bool
is_temp (TempName t) = true
is_temp t = false

abbrev no_temp : List IlToken → Bool
no_temp = ahead (fails is_temp)

target_opens : (z : List ℕ × Class) (b r : List IlToken) → Fits (target_pattern z.0 z.1) b → no_temp r ≡ true →
    begins is_temp (b ++ r) ≡ true
target_opens z b r h k = begins-first is_temp (TempName z.0) (both equals (class_pattern z.1)) b r refl h

abbrev result_view : Option IlParam → Option (List ℕ × Class)
result_view None = None
result_view (Some p) = Some (p.name, p.class)

abbrev result_back : Option (List ℕ × Class) → Option IlParam
result_back None = None
result_back (Some z) = Some (record { name = z.0; class = z.1 })

result_fits : (p : Option IlParam) (b : List IlToken) → Fits (result_pattern p) b →
    Fits (if_there (λ (z : List ℕ × Class). target_pattern z.0 z.1) (result_view p)) b × (result_back (result_view p) ≡ p)
result_fits None b h = (h, refl)
result_fits (Some p) b h = (h, refl)

unique_result : Unique (Option IlParam) result_pattern no_temp
unique_result = seen_as result_pattern result_view result_back result_fits
    (maybe (begins is_temp) target_opens (ahead-begins is_temp) (weaker no_temp (λ r h. refl) unique_target))

-- the target and the arguments of a call
abbrev callee_pattern : List ℕ × List IlArg → Pattern
callee_pattern y = row (token (SymbolName y.0) ∷ token (Mark 40) ∷ listed (map arg_pattern y.1) ∷ token (Mark 41) ∷ [])

unique_call : Unique (Option IlParam × (List ℕ × List IlArg)) (λ z. inst_pattern (Call z.0 z.1.0 z.1.1)) any
unique_call =
    let arguments : Unique (List IlArg) (λ xs. row (listed (map arg_pattern xs) ∷ token (Mark 41) ∷ [])) any =
    ended (Mark 41) (λ r. refl) (unique_listed args_listed) in
    let callee : Unique (List ℕ × List IlArg) callee_pattern any = next unique_symbol (begun (Mark 40) arguments) in
    then (λ _ y. both (word (codes "call")) (callee_pattern y)) any unique_result (λ _. begun (Word (codes "call")) callee)
    (λ x y b r h k. ahead-first (fails is_temp) (Word (codes "call")) (callee_pattern y) b r refl h)

-- ---- each instruction stands on a line of its kind

abbrev pub line_of_inst : Inst → Line
line_of_inst (Set temp class op a b) = SetLine
line_of_inst (Store width value at) = StoreLine
line_of_inst (Blit from to bytes) = BlitLine
line_of_inst (Call result target args) = CallLine

class_tokens : (c : Class) (a : List IlToken) → Fits (class_pattern c) a → (v : List ℕ) × (a ≡ Word v ∷ [])
class_tokens W a h = (codes "w", h)
class_tokens L a h = (codes "l", h)

joined_are : (b c d x y : List IlToken) → b ≡ c ++ d → c ≡ x → d ≡ y → b ≡ x ++ y
joined_are b c d x y e k l = e ∙ ap (λ z. z ++ d) k ∙ ap (λ z. x ++ z) l

target_tokens : (z : List ℕ × Class) (a : List IlToken) → Fits (target_pattern z.0 z.1) a → (v : List ℕ) ×
    (a ≡ TempName z.0 ∷ Mark 61 ∷ Word v ∷ [])
target_tokens z a h =
    let behind = h.4 in
    let class = class_tokens z.1 behind.1 behind.4 in (
      class.0,
      joined_are a h.0 h.1 (TempName z.0 ∷ []) (Mark 61 ∷ Word class.0 ∷ []) h.2 h.3
          (joined_are h.1 behind.0 behind.1 (Mark 61 ∷ []) (Word class.0 ∷ []) behind.2 behind.3 class.1),
    )

-- a line that begins with a temporary is told by the word behind its class
pub line_of_target : (z : List ℕ × Class) (p q : Pattern) (b r : List IlToken) (w : List ℕ)
    (h : Fits (both (target_pattern z.0 z.1) (both p q)) b) → h.4.0 ≡ Word w ∷ [] → line_of (b ++ r) ≡ line_behind w
line_of_target z p q b r w h k =
    let target = target_tokens z h.0 h.3 in
    let behind = h.4 in
    let front = TempName z.0 ∷ Mark 61 ∷ Word target.0 ∷ [] in
    ap (λ x. line_of (x ++ r)) (joined_are b h.0 h.1 front (Word w ∷ behind.1) h.2 target.1
    (joined_are h.1 behind.0 behind.1 (Word w ∷ []) behind.1 behind.2 k refl))

word_first : (b c d r : List IlToken) (w : List ℕ) → b ≡ c ++ d → c ≡ Word w ∷ [] → line_of (b ++ r) ≡ line_of_word w
word_first b c d r w e k = ap (λ z. line_of (z ++ r)) (e ∙ ap (λ z. z ++ d) k)

pub inst_line : (i : Inst) (a r : List IlToken) → Fits (inst_pattern i) a → line_of (a ++ r) ≡ line_of_inst i
inst_line (Set temp class op x y) a r h =
    let word = op_is op h.4.0 h.4.3 in line_of_target (temp, class) (op_pattern op)
    (both (value_pattern x) (both (second_pattern (takes_two (op_kind op)) y) nothing)) a r word.0 h word.1 ∙ rw (word.2) refl
inst_line (Store width value at) a r h = let word = store_word width h.0 h.3 in word_first a h.0 h.1 r word.0 h.2 word.1 ∙ rw (word.2) refl
inst_line (Blit from to bytes) a r h = word_first a h.0 h.1 r (codes "blit") h.2 h.3
inst_line (Call None target args) a r h = word_first a h.4.0 h.4.1 r (codes "call") (h.2 ∙ ap (λ z. z ++ h.1) h.3 ∙ h.4.2) h.4.3
inst_line (Call (Some p) target args) a r h =
    line_of_target (p.name, p.class) (word (codes "call")) (callee_pattern (target, args)) a r (codes "call") h h.4.3

inst_same : (i j : Inst) (a b r s : List IlToken) → Fits (inst_pattern i) a → Fits (inst_pattern j) b → a ++ r ≡ b ++ s →
    line_of_inst i ≡ line_of_inst j → (i ≡ j) × (r ≡ s)
inst_same (Set t c o x y) (Set u d p v w) a b r s fi fj e k =
    let z = unique_set.same ((t, c), (o, (x, y))) ((u, d), (p, (v, w))) a b r s fi fj e refl
    refl in (ap (λ i. Set i.0.0 i.0.1 i.1.0 i.1.1.0 i.1.1.1) z.0, z.1)
inst_same (Store m x y) (Store n v w) a b r s fi fj e k =
    let z = unique_store.same (m, (x, y)) (n, (v, w)) a b r s fi fj e refl refl in (ap (λ i. Store i.0 i.1.0 i.1.1) z.0, z.1)
inst_same (Blit x y m) (Blit v w n) a b r s fi fj e k =
    let z = unique_blit.same (x, (y, m)) (v, (w, n)) a b r s fi fj e refl refl in (ap (λ i. Blit i.0 i.1.0 i.1.1) z.0, z.1)
inst_same (Call p t xs) (Call q u ys) a b r s fi fj e k =
    let z = unique_call.same (p, (t, xs)) (q, (u, ys)) a b r s fi fj e refl refl in (ap (λ i. Call i.0 i.1.0 i.1.1) z.0, z.1)
inst_same i j a b r s fi fj e k = absurd (cc)

pub unique_inst : Unique Inst inst_pattern any
unique_inst = record {
  same = λ i j a b r s fi fj e fr fs. inst_same i j a b r s fi fj e
      (sym (inst_line i a r fi) ∙ ap line_of e ∙ inst_line j b s fj);
}

-- ---- phis

repeats_phi_args : Repeats PhiArg (λ x. both comma (phi_arg_pattern x)) any (begins is_comma) (ahead (fails is_comma))
repeats_phi_args = record {
  one = begun (Mark 44) unique_phi_arg;
  opens = λ x a r h. begins-first is_comma (Mark 44) (phi_arg_pattern x) a r refl h;
  apart = λ r h. ahead-begins is_comma r h;
  inside = λ r h. refl;
  over = λ r h. refl;
}

abbrev phi_args_parts : PhiArg × List PhiArg → Pattern
phi_args_parts z = both (phi_arg_pattern z.0) (row (map (λ x. both comma (phi_arg_pattern x)) z.1))

phi_args_fits : (xs : List PhiArg) (b : List IlToken) → Fits (phi_args_pattern xs) b →
    Fits (choice phi_args_parts (λ (u : Unit {0}). never) (parted xs)) b × (joined (parted xs) ≡ xs)
phi_args_fits [] b h = absurd h
phi_args_fits (x ∷ xs) b h = ((h.0, h.1, h.2, h.3, behind_comma_fits phi_arg_pattern xs h.1 h.4), refl)

unique_phi_args : Unique (List PhiArg) phi_args_pattern (ahead (fails is_comma))
unique_phi_args = seen_as phi_args_pattern parted joined phi_args_fits
    (or_else any (λ x a r h k. refl) (λ y b r h k. absurd h) (next unique_phi_arg (unique_row repeats_phi_args))
    (record { same = λ x y a b r s fx fy e fr fs. absurd fx }))

pub unique_phi : Unique Phi phi_pattern (ahead (fails is_comma))
unique_phi = seen_as phi_pattern (λ p. ((p.temp, p.class), p.args)) (λ z. record { temp = z.0.0; class = z.0.1; args = z.1 })
    (λ y b h. (h, refl)) (next unique_target (begun (Word (codes "phi")) (last unique_phi_args)))
