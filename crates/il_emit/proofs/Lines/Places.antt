-- Where the machine stands before some lines of a function.
use Rattle.std.proofs.Common.{◌≡◌, ℕ, ◌<◌, ◌^◌, Bool, true, false, List, [], ◌∷◌, ◌++◌, refl, sym, ap, ◌∙◌, subst, arith, append_assoc, append-nil, suc}
use Rattle.std.specs.Prelude.{bytes_eq}
use Rattle.flat_code.specs.declared.program.FlatFn.{FlatFn}
use Rattle.flat_code.specs.declared.program.FlatProgram.{FlatProgram}
use Rattle.flat_code.specs.Shape.{code_of}
use Rattle.il_code.specs.declared.types.Block.{Block}
use Rattle.il_code.specs.declared.types.Inst.{Inst}
use Rattle.il_code.specs.declared.types.Jump.{Jump}
use Rattle.il_code.specs.declared.types.Jump.TheVariants as jump
use Rattle.il_code.specs.State.{Place, place_at, blocks_from}
use Rattle.il_emit.specs.Names.{label_name}
use Rattle.il_emit.specs.Lines.{Line, Label, Do, End, inner_lines, end_value, function_lines, labels_in}
use Rattle.il_emit.specs.Drafts.{add_all}
use Rattle.il_emit.specs.Emitted.{blocks_of}
use Rattle.il_emit.proofs.Lines.Counts.{weight}
use Rattle.il_emit.proofs.Lines.Blocks.{draft, block, tidy, lines_labelled, labelled_append}
use Rattle.il_emit.proofs.NamesAndNumbers.NumberedNames.{bytes_same, label_eq}
use Rattle.il_emit.proofs.NamesAndNumbers.Numbering.{inner_tidy, inner_labels, within_in, one}

-- ---- blocks made of lines

-- the instructions up to the first label or jump
abbrev pub insts_of : List Line → List Inst
insts_of [] = []
insts_of (Label n ∷ ls) = []
insts_of (Do i ∷ ls) = i ∷ insts_of ls
insts_of (End j ∷ ls) = []

-- the jump behind them, which is a fall at a label
abbrev pub jump_of : List Line → Jump
jump_of [] = jump.Fall
jump_of (Label n ∷ ls) = jump.Fall
jump_of (Do i ∷ ls) = jump_of ls
jump_of (End j ∷ ls) = j

-- the blocks that begin among lines, one at each label
abbrev pub line_blocks : List Line → List Block
line_blocks [] = []
line_blocks (Label n ∷ ls) = block (label_name n) (insts_of ls) (jump_of ls) ∷ line_blocks ls
line_blocks (Do i ∷ ls) = line_blocks ls
line_blocks (End j ∷ ls) = line_blocks ls

-- the place before lines, where control came from a block and stands in a block with these labels
abbrev pub place_of : (from label : List ℕ) → List Line → Place
place_of from label ls = place_at from label [] (insts_of ls) (jump_of ls) (line_blocks ls)

-- ---- the blocks of a function are those of its lines

mutual
  open_blocks : (bs : List Block) (s : List ℕ) (is : List Inst) (lines : List Line) (j : Jump) → tidy true lines ≡ true
      → (add_all (draft bs s is true) (lines ++ End j ∷ [])).blocks ≡ bs ++
      block s (is ++ insts_of (lines ++ End j ∷ [])) (jump_of (lines ++ End j ∷ [])) ∷ line_blocks (lines ++ End j ∷ [])
  open_blocks bs s is [] j h = ap (λ (x : List Inst). bs ++ block s x j ∷ []) (sym (append-nil is))
  open_blocks bs s is (Do i ∷ lines) j h =
      open_blocks bs s (is ++ i ∷ []) lines j h
      ∙ ap (λ (x : List Inst). bs ++ block s x (jump_of (lines ++ End j ∷ [])) ∷ line_blocks (lines ++ End j ∷ []))
      (append_assoc is (i ∷ []) (insts_of (lines ++ End j ∷ [])))
  open_blocks bs s is (Label n ∷ lines) j h =
      open_blocks (bs ++ block s is jump.Fall ∷ []) (label_name n) [] lines j h
      ∙ append_assoc bs (block s is jump.Fall ∷ []) _
      ∙ ap (λ (x : List Inst). bs ++ block s x jump.Fall ∷ line_blocks (Label n ∷ (lines ++ End j ∷ []))) (sym (append-nil is))
  open_blocks bs s is (End i ∷ lines) j h =
      closed_blocks (bs ++ block s is i ∷ []) s lines j h
      ∙ append_assoc bs (block s is i ∷ []) _
      ∙ ap (λ (x : List Inst). bs ++ block s x i ∷ line_blocks (lines ++ End j ∷ [])) (sym (append-nil is))

  closed_blocks : (bs : List Block) (s : List ℕ) (lines : List Line) (j : Jump) → tidy false lines ≡ true →
      (add_all (draft bs s [] false) (lines ++ End j ∷ [])).blocks ≡ bs ++ line_blocks (lines ++ End j ∷ [])
  closed_blocks bs s [] j h = cc
  closed_blocks bs s (Do i ∷ lines) j h = cc
  closed_blocks bs s (End i ∷ lines) j h = cc
  closed_blocks bs s (Label n ∷ lines) j h = open_blocks bs (label_name n) [] lines j h

pub function_blocks : (p : FlatProgram) (f : FlatFn) → blocks_of p f ≡ line_blocks (function_lines p f)
function_blocks p f = open_blocks [] (label_name 0) [] (inner_lines p f) (jump.Ret (end_value f.result)) (inner_tidy p f)

-- ---- the block of a label

-- lines stand at the end of all
pub record Inside (all ls : List Line) : Type 0 where
  pub front : List Line
  pub is : all ≡ front ++ ls

pub inside_all : (all : List Line) → Inside all all
inside_all all = record { front = []; is = refl }

-- the lines behind some
pub inside_behind : (all xs ls : List Line) → Inside all (xs ++ ls) → Inside all ls
inside_behind all xs ls h = record { front = h.front ++ xs; is = h.is ∙ sym (append_assoc h.front xs ls) }

pub inside_next : (all ls : List Line) (x : Line) → Inside all (x ∷ ls) → Inside all ls
inside_next all ls x h = inside_behind all (x ∷ []) ls h

pub inside_regroup : (all xs ys ls : List Line) → Inside all ((xs ++ ys) ++ ls) → Inside all (xs ++ (ys ++ ls))
inside_regroup all xs ys ls h = record { front = h.front; is = h.is ∙ ap (λ (z : List Line). h.front ++ z) (append_assoc xs ys ls) }

-- lines of five parts and those behind them
pub five_parts : (vs xs bs cs ds rest : List Line) → ((vs ++ xs) ++ (bs ++ (cs ++ ds))) ++ rest ≡ vs ++ (xs ++ (bs ++ (cs ++ (ds ++ rest))))
five_parts vs xs bs cs ds rest =
    append_assoc (vs ++ xs) (bs ++ (cs ++ ds)) rest
    ∙ append_assoc vs xs ((bs ++ (cs ++ ds)) ++ rest)
    ∙ ap (λ (z : List Line). vs ++ (xs ++ z)) (append_assoc bs (cs ++ ds) rest ∙ ap (λ (z : List Line). bs ++ z) (append_assoc cs ds rest))

-- control that jumps to a label comes to the lines behind it
pub record Finds (all : List Line) (n : ℕ) (ls : List Line) : Type 0 where
  pub blocks : blocks_from (label_name n) (line_blocks all) ≡ line_blocks (Label n ∷ ls)

here_found : (n : ℕ) (ls : List Line) → blocks_from (label_name n) (line_blocks (Label n ∷ ls)) ≡ line_blocks (Label n ∷ ls)
here_found n ls = rw (bytes_same (label_name n)) refl

past : (x : ℕ) (xs ls : List Line) → lines_labelled (label_name x) xs ≡ 0 → blocks_from (label_name x) (line_blocks (xs ++ ls)) ≡
    blocks_from (label_name x) (line_blocks ls)
past x [] ls h = refl
past x (Do i ∷ xs) ls h = past x xs ls h
past x (End j ∷ xs) ls h = past x xs ls h
past x (Label n ∷ xs) ls h = pick (bytes_eq (label_name n) (label_name x)) refl (λ k. past x xs ls k)
  where
    pick : (b : Bool) → bytes_eq (label_name n) (label_name x) ≡ b →
        (lines_labelled (label_name x) xs ≡ 0 → blocks_from (label_name x) (line_blocks (xs ++ ls)) ≡ blocks_from (label_name x)
        (line_blocks ls)) → blocks_from (label_name x) (line_blocks (Label n ∷ (xs ++ ls))) ≡ blocks_from (label_name x) (line_blocks ls)
    pick true e on = let w : weight (bytes_eq (label_name n) (label_name x)) ≡ 1 = rw e refl in absurd (omega (arith, h, w))
    pick false e on = let w : weight (bytes_eq (label_name n) (label_name x)) ≡ 0 = rw e refl in rw e (on (omega (arith, h, w)))

module _ (p : FlatProgram) (f : FlatFn) (few : suc (labels_in (code_of f.body) true) < 2 ^ 64) where
  label_once : (x : ℕ) → x < suc (labels_in (code_of f.body) true) → lines_labelled (label_name x) (function_lines p f) ≡ 1
  label_once x h =
      let c = code_of f.body in
      let e : weight (bytes_eq (label_name 0) (label_name x)) ≡ one x 0 = ap weight (label_eq 0 x (omega arith) (omega arith)) in
      omega (
        arith,
        e,
        labelled_append (label_name x) (inner_lines p f) (End (jump.Ret (end_value f.result)) ∷ []),
        inner_labels p x (omega arith) f (omega arith),
        within_in x 0 (suc (labels_in c true)) (omega arith) (omega arith),
      )

  pub finds : (x : ℕ) (ls : List Line) → x < suc (labels_in (code_of f.body) true) → Inside (function_lines p f) (Label x ∷ ls) →
      Finds (function_lines p f) x ls
  finds x ls h at =
      let once : lines_labelled (label_name x) (at.front ++ (Label x ∷ ls)) ≡ 1 =
      subst (λ (all : List Line). lines_labelled (label_name x) all ≡ 1) at.is (label_once x h) in
      let own : weight (bytes_eq (label_name x) (label_name x)) ≡ 1 = rw (bytes_same (label_name x)) refl in
      let none : lines_labelled (label_name x) at.front ≡ 0 =
      omega (arith, once, own, labelled_append (label_name x) at.front (Label x ∷ ls)) in
      record {
        blocks = ap (λ (all : List Line). blocks_from (label_name x) (line_blocks all)) at.is ∙ past x at.front (Label x ∷ ls) none ∙
            here_found x ls;
      }
