-- Each text of a module has a bearing token for each list of its marks.
use Rattle.std.proofs.Common.{◌≡◌, ℕ, ◌+◌, List, [], ◌∷◌, ◌++◌, Option, None, Some, Bool, true, false, cond, ◌==◌, length, codes, refl, sym, ap, ◌∙◌, subst, inl, inr, ◌⊎◌, arith, append-nil, append_assoc}
use Rattle.std.specs.Prelude.{map, count_by, if◌then◌else◌}
use Rattle.std.specs.List.{flat_map, AllByRecursion}
use Rattle.std.proofs.lemmas.List.{length-append}
use Rattle.std.proofs.lemmas.List.Sums.{sum_by-append}
use Rattle.hx_base.specs.declared.Class.{Class}
use Rattle.hx_base.specs.declared.Class.TheVariants.{W, L}
use Rattle.il_code.specs.declared.op.IlOp.{IlOp}
use Rattle.il_code.specs.declared.op.IlOp.TheVariants as op
use Rattle.il_code.specs.declared.types.IlItem.{IlItem}
use Rattle.il_code.specs.declared.types.IlParam.{IlParam}
use Rattle.il_code.specs.declared.types.Block.{Block}
use Rattle.il_code.specs.declared.types.Phi.{Phi}
use Rattle.il_code.specs.declared.types.PhiArg.{PhiArg}
use Rattle.il_code.specs.declared.types.IlValue.{IlValue}
use Rattle.il_code.specs.declared.types.IlValue.TheVariants.{Number, Temp, Symbol}
use Rattle.il_code.specs.declared.types.IlArg.{IlArg}
use Rattle.il_code.specs.declared.types.Inst.{Inst}
use Rattle.il_code.specs.declared.types.Inst.TheVariants.{Set, Store, Blit, Call}
use Rattle.il_code.specs.declared.types.Jump.{Jump}
use Rattle.il_code.specs.declared.types.Jump.TheVariants.{Fall, Jmp, Jnz, Ret, Hlt}
use Rattle.il_code.specs.Classes.{op_kind, takes_two, first_class, second_class}
use Rattle.il_code.specs.Tokens.{IlToken, Word, TempName, SymbolName, LabelName, Numeral, Mark, LineEnd}
use Rattle.il_code.specs.Grammar.{Pattern, never, nothing, token, both, either, many, Fits, row, word, lines, may_lines, usual_lines, comma, behind_comma, listed, class_pattern, value_pattern, target_pattern, arg_pattern, op_pattern, second_pattern, result_pattern, store_pattern, inst_pattern, phi_arg_pattern, phi_args_pattern, phi_pattern, on_line, returned_pattern, jump_pattern}
use Rattle.il_code.specs.Rules.{stored_class}
use Rattle.il_code.specs.Loose.{BlockLine, PhiLine, InstLine}
use Rattle.il_code.specs.Marks.{Numbers, bears, each_behind, value_marks, maybe_marks, label_marks, result_marks, inst_marks, phi_marks, line_marks, return_marks, jump_marks}

-- ---- patterns

-- what fits the pattern has a bearing token for each of these lists
pub record Bears (p : Pattern) (ms : List Numbers) : Type 0 where
  pub count : (ts : List IlToken) → Fits p ts → count_by bears ts ≡ length ms

pub bears_never : (ms : List Numbers) → Bears never ms
bears_never ms = record { count = λ ts f. absurd f }

pub bears_nothing : Bears nothing []
bears_nothing = record { count = λ ts f. ap (count_by bears) f }

one_token : (t : IlToken) (b : Bool) → bears t ≡ b → count_by bears (t ∷ []) ≡ cond b 1 0
one_token t b h = ap (λ c. 0 + cond c 1 0) h ∙ by b
  where
    by : (c : Bool) → 0 + cond c 1 0 ≡ cond c 1 0
    by true = omega arith
    by false = omega arith

pub bearing : (t : IlToken) (m : Numbers) → bears t ≡ true → Bears (token t) (m ∷ [])
bearing t m h = record { count = λ ts f. ap (count_by bears) f ∙ one_token t true h }

pub plain : (t : IlToken) → bears t ≡ false → Bears (token t) []
plain t h = record { count = λ ts f. ap (count_by bears) f ∙ one_token t false h }

pub bears_both : {p q : Pattern} {a b : List Numbers} → Bears p a → Bears q b → Bears (both p q) (a ++ b)
bears_both {a = a} {b = b} x y = record {
  count = λ ts f. ap (count_by bears) f.2 ∙ sum_by-append (λ t. cond (bears t) 1 0) f.0 f.1 ∙ rw
      (x.count f.0 f.3, y.count f.1 f.4) (sym (length-append a b));
}

pub bears_either : {p q : Pattern} {ms : List Numbers} → Bears p ms → Bears q ms → Bears (either p q) ms
bears_either {p = p} {q = q} {ms = ms} x y = record { count = λ ts f. by ts f }
  where
    by : (ts : List IlToken) → Fits p ts ⊎ Fits q ts → count_by bears ts ≡ length ms
    by ts (inl f) = x.count ts f
    by ts (inr f) = y.count ts f

-- the last has no bearing token
pub bears_then : {p q : Pattern} {a : List Numbers} → Bears p a → Bears q [] → Bears (both p q) a
bears_then {p = p} {q = q} {a = a} x y = subst (λ ms. Bears (both p q) ms) (append-nil a) (bears_both x y)

pub bears_many : {p : Pattern} → Bears p [] → Bears (many p) []
bears_many {p = p} x = record { count = λ ts f. ap (count_by bears) f.1 ∙ each f.0 f.2 }
  where
    each : (parts : List (List IlToken)) → AllByRecursion (Fits p) parts → count_by bears (flat_map (λ part. part) parts) ≡ 0
    each [] h = refl
    each (part ∷ parts) h = sum_by-append (λ t. cond (bears t) 1 0) part (flat_map (λ z. z) parts) ∙ rw (x.count part h.0, each parts h.1)
        (omega arith)

pub bears_if : (b : Bool) {p q : Pattern} {ms : List Numbers} → Bears p ms → Bears q ms → Bears (if b then p else q) ms
bears_if true x y = x
bears_if false x y = y

pub bears_lines : Bears lines []
bears_lines = bears_both (plain LineEnd refl) (bears_many (plain LineEnd refl))

pub bears_may_lines : Bears may_lines []
bears_may_lines = bears_many (plain LineEnd refl)

pub bears_usual_lines : Bears usual_lines []
bears_usual_lines = bears_either bears_lines bears_nothing

pub bears_comma : Bears comma []
bears_comma = plain (Mark 44) refl

-- ---- lists

pub bears_row : {A : Type 0} (g : A → Pattern) (f : A → List Numbers) → ((x : A) → Bears (g x) (f x)) → (xs : List A) →
    Bears (row (map g xs)) (flat_map f xs)
bears_row g f h [] = bears_nothing
bears_row g f h (x ∷ xs) = bears_both (h x) (bears_row g f h xs)

bears_row_behind : {A : Type 0} (g : A → Pattern) (f : List A → A → List Numbers) → ((before : List A) (x : A) → Bears (g x) (f before x)) →
    (before xs : List A) → Bears (row (map g xs)) (each_behind f before xs)
bears_row_behind g f h before [] = bears_nothing
bears_row_behind g f h before (x ∷ xs) = bears_both (h before x) (bears_row_behind g f h (before ++ x ∷ []) xs)

bears_behind_comma : {A : Type 0} (g : A → Pattern) (f : A → List Numbers) → ((x : A) → Bears (g x) (f x)) → (xs : List A) →
    Bears (behind_comma (map g xs)) (flat_map f xs)
bears_behind_comma g f h [] = bears_nothing
bears_behind_comma g f h (x ∷ xs) = bears_both bears_comma (bears_both (h x) (bears_behind_comma g f h xs))

bears_listed : {A : Type 0} (g : A → Pattern) (f : A → List Numbers) → ((x : A) → Bears (g x) (f x)) → (xs : List A) →
    Bears (listed (map g xs)) (flat_map f xs)
bears_listed g f h [] = bears_nothing
bears_listed g f h (x ∷ xs) = bears_then (bears_both (h x) (bears_behind_comma g f h xs)) (bears_either bears_nothing bears_comma)

bears_behind_comma_behind : {A : Type 0} (g : A → Pattern) (f : List A → A → List Numbers) →
    ((before : List A) (x : A) → Bears (g x) (f before x)) → (before xs : List A) →
    Bears (behind_comma (map g xs)) (each_behind f before xs)
bears_behind_comma_behind g f h before [] = bears_nothing
bears_behind_comma_behind g f h before (x ∷ xs) =
    bears_both bears_comma (bears_both (h before x) (bears_behind_comma_behind g f h (before ++ x ∷ []) xs))

pub bears_listed_behind : {A : Type 0} (g : A → Pattern) (f : List A → A → List Numbers) →
    ((before : List A) (x : A) → Bears (g x) (f before x)) → (xs : List A) → Bears (listed (map g xs)) (each_behind f [] xs)
bears_listed_behind g f h [] = bears_nothing
bears_listed_behind g f h (x ∷ xs) = bears_then (bears_both (h [] x) (bears_behind_comma_behind g f h (x ∷ []) xs))
    (bears_either bears_nothing bears_comma)

-- ---- operands

pub bears-class : (c : Class) → Bears (class_pattern c) []
bears-class W = plain (Word (codes "w")) refl
bears-class L = plain (Word (codes "l")) refl

bears-target : (temp : List ℕ) (class : Class) (m : Numbers) → Bears (target_pattern temp class) (m ∷ [])
bears-target temp class m = bears_both (bearing (TempName temp) m refl) (bears_both (plain (Mark 61) refl) (bears-class class))

bears-op : (m : Numbers) (o : IlOp) → Bears (op_pattern o) (m ∷ [])
bears-op m op.Neg = bearing _ m refl
bears-op m op.Copy = bearing _ m refl
bears-op m op.Alloc4 = bearing _ m refl
bears-op m op.Alloc8 = bearing _ m refl
bears-op m op.Alloc16 = bearing _ m refl
bears-op m op.Extsb = bearing _ m refl
bears-op m op.Extub = bearing _ m refl
bears-op m op.Extsh = bearing _ m refl
bears-op m op.Extuh = bearing _ m refl
bears-op m op.Extsw = bearing _ m refl
bears-op m op.Extuw = bearing _ m refl
bears-op m op.Loadsb = bearing _ m refl
bears-op m op.Loadub = bearing _ m refl
bears-op m op.Loadsh = bearing _ m refl
bears-op m op.Loaduh = bearing _ m refl
bears-op m op.Loadsw = bears_either (bearing _ m refl) (bearing _ m refl)
bears-op m op.Loaduw = bearing _ m refl
bears-op m op.Loadl = bearing _ m refl
bears-op m op.Add = bearing _ m refl
bears-op m op.Sub = bearing _ m refl
bears-op m op.Mul = bearing _ m refl
bears-op m op.Div = bearing _ m refl
bears-op m op.Rem = bearing _ m refl
bears-op m op.Udiv = bearing _ m refl
bears-op m op.Urem = bearing _ m refl
bears-op m op.And = bearing _ m refl
bears-op m op.Or = bearing _ m refl
bears-op m op.Xor = bearing _ m refl
bears-op m op.Shl = bearing _ m refl
bears-op m op.Shr = bearing _ m refl
bears-op m op.Sar = bearing _ m refl
bears-op m op.Ceqw = bearing _ m refl
bears-op m op.Ceql = bearing _ m refl
bears-op m op.Cnew = bearing _ m refl
bears-op m op.Cnel = bearing _ m refl
bears-op m op.Cslew = bearing _ m refl
bears-op m op.Cslel = bearing _ m refl
bears-op m op.Csltw = bearing _ m refl
bears-op m op.Csltl = bearing _ m refl
bears-op m op.Csgew = bearing _ m refl
bears-op m op.Csgel = bearing _ m refl
bears-op m op.Csgtw = bearing _ m refl
bears-op m op.Csgtl = bearing _ m refl
bears-op m op.Culew = bearing _ m refl
bears-op m op.Culel = bearing _ m refl
bears-op m op.Cultw = bearing _ m refl
bears-op m op.Cultl = bearing _ m refl
bears-op m op.Cugew = bearing _ m refl
bears-op m op.Cugel = bearing _ m refl
bears-op m op.Cugtw = bearing _ m refl
bears-op m op.Cugtl = bearing _ m refl

bears-store : (m : Numbers) (width : ℕ) → Bears (store_pattern width) (m ∷ [])
bears-store m width = bears_if (width == 1) (bearing (Word (codes "storeb")) m refl)
    (bears_if (width == 2) (bearing (Word (codes "storeh")) m refl)
    (bears_if (width == 4) (bearing (Word (codes "storew")) m refl)
    (bears_if (width == 8) (bearing (Word (codes "storel")) m refl) (bears_never (m ∷ [])))))

module _ (items : List IlItem) (params : List IlParam) (blocks : List Block) where
  bears-value : (class : Class) (v : IlValue) → Bears (value_pattern v) (value_marks items params blocks class v)
  bears-value class (Number n) = plain (Numeral n) refl
  bears-value class (Temp t) = bearing (TempName t) _ refl
  bears-value class (Symbol s) = bearing (SymbolName s) _ refl

  bears-second : (class : Class) (two : Bool) (v : Option IlValue) → Bears (second_pattern two v) (maybe_marks items params blocks class v)
  bears-second class true (Some v) = bears_both bears_comma (bears-value class v)
  bears-second class true None = bears_never []
  bears-second class false (Some v) = bears_never _
  bears-second class false None = bears_nothing

  bears-arg : (a : IlArg) → Bears (arg_pattern a) (value_marks items params blocks a.class a.value)
  bears-arg a = bears_both (bears-class a.class) (bears-value a.class a.value)

  bears-phi_arg : (class : Class) (a : PhiArg) →
      Bears (phi_arg_pattern a) (label_marks blocks a.label ∷ value_marks items params blocks class a.value)
  bears-phi_arg class a = bears_both (bearing (LabelName a.label) _ refl) (bears-value class a.value)

  bears-phi_args : (class : Class) (args : List PhiArg) →
      Bears (phi_args_pattern args) (flat_map (λ (a : PhiArg). label_marks blocks a.label ∷ value_marks items params blocks class a.value)
      args)
  bears-phi_args class [] = bears_never []
  bears-phi_args class (a ∷ more) = bears_both (bears-phi_arg class a)
      (bears_behind_comma phi_arg_pattern (λ (x : PhiArg). label_marks blocks x.label ∷ value_marks items params blocks class x.value)
      (bears-phi_arg class) more)

  -- ---- lines

  module _ (sets : List IlParam) where
    bears-result : (result : Option IlParam) → Bears (result_pattern result) (result_marks sets result)
    bears-result None = bears_nothing
    bears-result (Some p) = bears-target p.name p.class _

    bears-inst : (i : Inst) → Bears (inst_pattern i) (inst_marks items params blocks sets i)
    bears-inst (Set temp class o a b) = bears_both (bears-target temp class _)
        (bears_both (bears-op _ o) (bears_both (bears-value (first_class (op_kind o) class) a)
        (bears_then (bears-second (second_class (op_kind o) class) (takes_two (op_kind o)) b) bears_nothing)))
    bears-inst (Store width value at) = bears_both (bears-store _ width)
        (bears_both (bears-value (stored_class width) value) (bears_both bears_comma (bears_then (bears-value L at) bears_nothing)))
    bears-inst (Blit from to bytes) = bears_both (bearing (Word (codes "blit")) _ refl)
        (bears_both (bears-value L from) (bears_both bears_comma
        (bears_then (bears-value L to) (bears_both bears_comma (bears_then (plain (Numeral bytes) refl) bears_nothing)))))
    bears-inst (Call result target args) = subst (λ ms. Bears (inst_pattern (Call result target args)) ms)
        (sym (append_assoc (result_marks sets result) _ _))
        (bears_both (bears-result result) (bears_both (bearing (Word (codes "call")) _ refl)
        (bears_both (bearing (SymbolName target) _ refl)
        (bears_both (plain (Mark 40) refl) (bears_then
        (bears_listed arg_pattern (λ (a : IlArg). value_marks items params blocks a.class a.value) bears-arg args)
        (bears_then (plain (Mark 41) refl) bears_nothing))))))

    bears-phi : (out : Bool) (label : List ℕ) (p : Phi) → Bears (phi_pattern p) (phi_marks items params blocks sets out label p)
    bears-phi out label p = bears_both (bears-target p.temp p.class _)
        (bears_both (bearing (Word (codes "phi")) _ refl) (bears_then (bears-phi_args p.class p.args) bears_nothing))

    pub bears_phis : (first : Bool) (label : List ℕ) (before : List BlockLine) (phis : List Phi) →
        Bears (row (map (λ p. on_line (phi_pattern p)) phis))
        (each_behind (line_marks items params blocks sets first label) before (map (λ p. PhiLine p) phis))
    bears_phis first label before [] = bears_nothing
    bears_phis first label before (p ∷ phis) =
        bears_both (bears_then (bears-phi _ label p) bears_lines) (bears_phis first label (before ++ PhiLine p ∷ []) phis)

    pub bears_insts : (first : Bool) (label : List ℕ) (before : List BlockLine) (insts : List Inst) →
        Bears (row (map (λ i. on_line (inst_pattern i)) insts))
        (each_behind (line_marks items params blocks sets first label) before (map (λ i. InstLine i) insts))
    bears_insts first label before [] = bears_nothing
    bears_insts first label before (i ∷ insts) =
        bears_both (bears_then (bears-inst i) bears_lines) (bears_insts first label (before ++ InstLine i ∷ []) insts)

  bears-returned : (class : Option Class) (v : Option IlValue) →
      Bears (row (word (codes "ret") ∷ returned_pattern v ∷ [])) (return_marks items params blocks class v)
  bears-returned None None = bears_both (bearing (Word (codes "ret")) _ refl) (bears_both bears_nothing bears_nothing)
  bears-returned None (Some v) = bears_both (bearing (Word (codes "ret")) _ refl) (bears_then (bears-value L v) bears_nothing)
  bears-returned (Some c) None = bears_both (bearing (Word (codes "ret")) _ refl) (bears_both bears_nothing bears_nothing)
  bears-returned (Some c) (Some v) = bears_both (bearing (Word (codes "ret")) _ refl) (bears_then (bears-value c v) bears_nothing)

  pub bears-jump : (class : Option Class) (last : Bool) (j : Jump) → Bears (jump_pattern last j) (jump_marks items params blocks class j)
  bears-jump class true Fall = bears_never []
  bears-jump class false Fall = bears_nothing
  bears-jump class true (Jmp l) = bears_then
      (bears_both (bearing (Word (codes "jmp")) _ refl) (bears_then (bearing (LabelName l) _ refl) bears_nothing)) bears_lines
  bears-jump class false (Jmp l) = bears_then
      (bears_both (bearing (Word (codes "jmp")) _ refl) (bears_then (bearing (LabelName l) _ refl) bears_nothing)) bears_lines
  bears-jump class true (Jnz v a b) = bears_then
      (bears_both (bearing (Word (codes "jnz")) _ refl)
      (bears_both (bears-value W v) (bears_both bears_comma
      (bears_both (bearing (LabelName a) _ refl) (bears_both bears_comma (bears_then (bearing (LabelName b) _ refl) bears_nothing))))))
      bears_lines
  bears-jump class false (Jnz v a b) = bears_then
      (bears_both (bearing (Word (codes "jnz")) _ refl)
      (bears_both (bears-value W v) (bears_both bears_comma
      (bears_both (bearing (LabelName a) _ refl) (bears_both bears_comma (bears_then (bearing (LabelName b) _ refl) bears_nothing))))))
      bears_lines
  bears-jump class true (Ret v) = bears_then (bears-returned class v) bears_lines
  bears-jump class false (Ret v) = bears_then (bears-returned class v) bears_lines
  bears-jump class true Hlt = bears_then (bearing (Word (codes "hlt")) _ refl) bears_lines
  bears-jump class false Hlt = bears_then (bearing (Word (codes "hlt")) _ refl) bears_lines
