-- What holds of the lines of a function holds of its blocks.
use Rattle.std.proofs.Common.{◌≡◌, ℕ, ◌+◌, Bool, true, false, cond, not, ◌&&◌, ◌||◌, List, [], ◌∷◌, ◌++◌, length, refl, sym, ap, ◌∙◌, subst, arith}
use Rattle.std.specs.Prelude.{bytes_eq, ◌==◌}
use Rattle.std.specs.List.{list_all, list_any}
use Rattle.std.proofs.lemmas.Bool.{and_parts}
use Rattle.std.proofs.lemmas.Bool.Decides.{nat_tests}
use Rattle.std.proofs.lemmas.List.Folds.{list_any-append}
use Rattle.il_code.specs.declared.types.Block.{Block}
use Rattle.il_code.specs.declared.types.Inst.{Inst}
use Rattle.il_code.specs.declared.types.Jump.{Jump}
use Rattle.il_code.specs.declared.types.Jump.TheVariants.{Fall}
use Rattle.il_code.specs.Rules.{how_many, targets_pass, start_is_no_target, phis_are_placed}
use Rattle.il_code.specs.Shaped.{ends, falls}
use Rattle.il_emit.specs.declared.draft.Draft.{Draft}
use Rattle.il_emit.specs.Names.{label_name}
use Rattle.il_emit.specs.Lines.{Line, Label, Do, End}
use Rattle.il_emit.specs.Drafts.{add_all, finished}
use Rattle.il_emit.proofs.Lines.Counts.{both_true, all_append, all_more, count_append, sum_cons}
use Rattle.il_emit.proofs.Lines.Drafts.{add_all_append}

abbrev pub draft : List Block → List ℕ → List Inst → Bool → Draft
draft bs s is b = record { blocks = bs; label = s; insts = is; is_open = b }

abbrev pub block : List ℕ → List Inst → Jump → Block
block s is j = record { label = s; phis = []; insts = is; jump = j }

-- Lines that stand where a block is open or not: nothing but a label stands behind a jump. Where `wanted` says so, they end in an open one.
abbrev pub tidy_to : (wanted b : Bool) → List Line → Bool
tidy_to wanted b [] = not wanted || b
tidy_to wanted b (Label n ∷ rest) = tidy_to wanted true rest
tidy_to wanted b (Do i ∷ rest) = b && tidy_to wanted b rest
tidy_to wanted b (End j ∷ rest) = b && tidy_to wanted false rest

-- those that end in an open one
abbrev pub tidy : Bool → List Line → Bool
tidy b lines = tidy_to true b lines

tidy_opened : (wanted : Bool) (ys : List Line) → tidy_to wanted false ys ≡ true → tidy_to wanted true ys ≡ true
tidy_opened true [] h = cc
tidy_opened false [] h = refl
tidy_opened wanted (Label n ∷ ys) h = h
tidy_opened wanted (Do i ∷ ys) h = cc
tidy_opened wanted (End j ∷ ys) h = cc

tidy_from : (middle wanted b : Bool) (ys : List Line) → (not middle || b) ≡ true → tidy_to wanted middle ys ≡ true →
    tidy_to wanted b ys ≡ true
tidy_from true wanted true ys h k = k
tidy_from true wanted false ys h k = cc
tidy_from false wanted true ys h k = tidy_opened wanted ys k
tidy_from false wanted false ys h k = k

pub tidy_append : (middle wanted b : Bool) (xs ys : List Line) → tidy_to middle b xs ≡ true → tidy_to wanted middle ys ≡ true →
    tidy_to wanted b (xs ++ ys) ≡ true
tidy_append middle wanted b [] ys h k = tidy_from middle wanted b ys h k
tidy_append middle wanted b (Label n ∷ xs) ys h k = tidy_append middle wanted true xs ys h k
tidy_append middle wanted b (Do i ∷ xs) ys h k =
    let p = and_parts b (tidy_to middle b xs) h in both_true b _ p.0 (tidy_append middle wanted b xs ys p.1 k)
tidy_append middle wanted b (End j ∷ xs) ys h k =
    let p = and_parts b (tidy_to middle false xs) h in both_true b _ p.0 (tidy_append middle wanted false xs ys p.1 k)

-- ---- tests of each line and each block

abbrev pub line_passes : (ℕ → Bool) → (Inst → Bool) → (Jump → Bool) → Line → Bool
line_passes label inst jump (Label n) = label n
line_passes label inst jump (Do i) = inst i
line_passes label inst jump (End j) = jump j

module _ (label : ℕ → Bool) (inst : Inst → Bool) (jump : Jump → Bool) (falling : jump Fall ≡ true) (test : Block → Bool)
    (on : (s : List ℕ) (n : ℕ) (is : List Inst) (j : Jump) → s ≡ label_name n → label n ≡ true → list_all inst is ≡ true → jump j ≡ true →
    test (block s is j) ≡ true) where
  block_more : (bs : List Block) (s : List ℕ) (n : ℕ) (is : List Inst) (j : Jump) → s ≡ label_name n → label n ≡ true →
      list_all inst is ≡ true → jump j ≡ true → list_all test bs ≡ true → list_all test (bs ++ block s is j ∷ []) ≡ true
  block_more bs s n is j e l h k all =
      all_append test bs (block s is j ∷ []) all (both_true (test (block s is j)) true (on s n is j e l h k) refl)

  pub blocks_pass : (bs : List Block) (s : List ℕ) (n : ℕ) (is : List Inst) (b : Bool) (lines : List Line) → s ≡ label_name n →
      label n ≡ true → list_all inst is ≡ true → list_all test bs ≡ true
      → list_all (line_passes label inst jump) lines ≡ true → list_all test (add_all (draft bs s is b) lines).blocks ≡ true
  blocks_pass bs s n is b [] e l h all p = all
  blocks_pass bs s n is b (Do i ∷ lines) e l h all p =
      let k = and_parts (inst i) (list_all (line_passes label inst jump) lines) p in
      blocks_pass bs s n (is ++ i ∷ []) b lines e l (all_append inst is (i ∷ []) h (both_true (inst i) true k.0 refl)) all k.1
  blocks_pass bs s n is b (End j ∷ lines) e l h all p =
      let k = and_parts (jump j) (list_all (line_passes label inst jump) lines) p in
      blocks_pass (bs ++ block s is j ∷ []) s n [] false lines e l refl (block_more bs s n is j e l h k.0 all) k.1
  blocks_pass bs s n is true (Label m ∷ lines) e l h all p =
      let k = and_parts (label m) (list_all (line_passes label inst jump) lines) p in
      blocks_pass (bs ++ block s is Fall ∷ []) (label_name m) m [] true lines refl k.0 refl (block_more bs s n is Fall e l h falling all)
      k.1
  blocks_pass bs s n is false (Label m ∷ lines) e l h all p =
      let k = and_parts (label m) (list_all (line_passes label inst jump) lines) p in
      blocks_pass bs (label_name m) m [] true lines refl k.0 refl all k.1

-- ---- some instruction

abbrev pub lines_any : (Inst → Bool) → List Line → Bool
lines_any q [] = false
lines_any q (Label n ∷ rest) = lines_any q rest
lines_any q (Do i ∷ rest) = q i || lines_any q rest
lines_any q (End j ∷ rest) = lines_any q rest

regroup : (a c r : Bool) → ((a || (c || false)) || r) ≡ (a || (c || r))
regroup true c r = refl
regroup false true r = refl
regroup false false r = refl

module _ (q : Inst → Bool) (r : Block → Bool) (on : (s : List ℕ) (is : List Inst) (j : Jump) → r (block s is j) ≡ list_any q is) where
  last_any : (bs : List Block) (s : List ℕ) (is : List Inst) (j : Jump) →
      list_any r (bs ++ block s is j ∷ []) ≡ (list_any r bs || (list_any q is || false))
  last_any bs s is j = list_any-append r bs (block s is j ∷ []) ∙ ap (λ (x : Bool). list_any r bs || (x || false)) (on s is j)

  any_more : (bs : List Block) (s : List ℕ) (is : List Inst) (j : Jump) (x : Bool) →
      (list_any r (bs ++ block s is j ∷ []) || x) ≡ (list_any r bs || (list_any q is || x))
  any_more bs s is j x = ap (λ (y : Bool). y || x) (last_any bs s is j) ∙ regroup (list_any r bs) (list_any q is) x

  mutual
    pub any_open : (bs : List Block) (s : List ℕ) (is : List Inst) (lines : List Line) (j : Jump) → tidy true lines ≡ true
        → list_any r (add_all (draft bs s is true) (lines ++ End j ∷ [])).blocks ≡ (list_any r bs || (list_any q is || lines_any q lines))
    any_open bs s is [] j h = last_any bs s is j
    any_open bs s is (Do i ∷ lines) j h =
        any_open bs s (is ++ i ∷ []) lines j h
        ∙ ap (λ (x : Bool). list_any r bs || (x || lines_any q lines)) (list_any-append q is (i ∷ []))
        ∙ ap (λ (x : Bool). list_any r bs || x) (regroup (list_any q is) (q i) (lines_any q lines))
    any_open bs s is (Label n ∷ lines) j h =
        any_open (bs ++ block s is Fall ∷ []) (label_name n) [] lines j h ∙ any_more bs s is Fall (lines_any q lines)
    any_open bs s is (End i ∷ lines) j h = any_closed (bs ++ block s is i ∷ []) s lines j h ∙ any_more bs s is i (lines_any q lines)

    any_closed : (bs : List Block) (s : List ℕ) (lines : List Line) (j : Jump) → tidy false lines ≡ true
        → list_any r (add_all (draft bs s [] false) (lines ++ End j ∷ [])).blocks ≡ (list_any r bs || lines_any q lines)
    any_closed bs s [] j h = cc
    any_closed bs s (Do i ∷ lines) j h = cc
    any_closed bs s (End i ∷ lines) j h = cc
    any_closed bs s (Label n ∷ lines) j h = any_open bs (label_name n) [] lines j h

pub any_append : (q : Inst → Bool) (xs ys : List Line) → lines_any q (xs ++ ys) ≡ (lines_any q xs || lines_any q ys)
any_append q [] ys = refl
any_append q (Label n ∷ xs) ys = any_append q xs ys
any_append q (End j ∷ xs) ys = any_append q xs ys
any_append q (Do i ∷ xs) ys = ap (λ (x : Bool). q i || x) (any_append q xs ys) ∙ apart (q i) (lines_any q xs) (lines_any q ys)
  where
    apart : (a b c : Bool) → (a || (b || c)) ≡ ((a || b) || c)
    apart true b c = refl
    apart false b c = refl

-- ---- how often a label stands

abbrev pub lines_labelled : List ℕ → List Line → ℕ
lines_labelled l [] = 0
lines_labelled l (Label n ∷ rest) = cond (bytes_eq (label_name n) l) 1 0 + lines_labelled l rest
lines_labelled l (Do i ∷ rest) = lines_labelled l rest
lines_labelled l (End j ∷ rest) = lines_labelled l rest

module _ (l : List ℕ) where
  abbrev pub labelled : List Block → ℕ
  labelled bs = how_many (λ (b : Block). b.label) l bs

  one_more : (bs : List Block) (s : List ℕ) (is : List Inst) (j : Jump) → labelled (bs ++ block s is j ∷ []) ≡ labelled bs + cond
      (bytes_eq s l) 1 0
  one_more bs s is j = count_append (λ (b : Block). bytes_eq b.label l) bs (block s is j ∷ []) ∙ omega
      (arith, sum_cons (λ (b : Block). cond (bytes_eq b.label l) 1 0) (block s is j) [])

  mutual
    pub count_open : (bs : List Block) (s : List ℕ) (is : List Inst) (lines : List Line) (j : Jump) → tidy true lines ≡ true
        → labelled (add_all (draft bs s is true) (lines ++ End j ∷ [])).blocks ≡ labelled bs + cond (bytes_eq s l) 1 0 + lines_labelled l
        lines
    count_open bs s is [] j h = one_more bs s is j ∙ omega arith
    count_open bs s is (Do i ∷ lines) j h = count_open bs s (is ++ i ∷ []) lines j h
    count_open bs s is (Label n ∷ lines) j h =
        count_open (bs ++ block s is Fall ∷ []) (label_name n) [] lines j h ∙ omega (arith, one_more bs s is Fall)
    count_open bs s is (End i ∷ lines) j h = count_closed (bs ++ block s is i ∷ []) s lines j h ∙ omega (arith, one_more bs s is i)

    count_closed : (bs : List Block) (s : List ℕ) (lines : List Line) (j : Jump) → tidy false lines ≡ true
        → labelled (add_all (draft bs s [] false) (lines ++ End j ∷ [])).blocks ≡ labelled bs + lines_labelled l lines
    count_closed bs s [] j h = cc
    count_closed bs s (Do i ∷ lines) j h = cc
    count_closed bs s (End i ∷ lines) j h = cc
    count_closed bs s (Label n ∷ lines) j h = count_open bs (label_name n) [] lines j h ∙ omega arith

pub labelled_append : (l : List ℕ) (xs ys : List Line) → lines_labelled l (xs ++ ys) ≡ lines_labelled l xs + lines_labelled l ys
labelled_append l [] ys = omega arith
labelled_append l (Label n ∷ xs) ys = omega (arith, labelled_append l xs ys)
labelled_append l (Do i ∷ xs) ys = labelled_append l xs ys
labelled_append l (End j ∷ xs) ys = labelled_append l xs ys

-- ---- the first block and the last

abbrev pub Starts : List ℕ → List Block → Type 0
Starts s [] = ⊥
Starts s (b ∷ bs) = b.label ≡ s

starts_append : (s : List ℕ) (xs ys : List Block) → Starts s xs → Starts s (xs ++ ys)
starts_append s [] ys h = absurd h
starts_append s (x ∷ xs) ys h = h

starts_stay : (s : List ℕ) (bs : List Block) (t : List ℕ) (is : List Inst) (b : Bool) (lines : List Line) → Starts s bs →
    Starts s (add_all (draft bs t is b) lines).blocks
starts_stay s bs t is b [] h = h
starts_stay s bs t is b (Do i ∷ lines) h = starts_stay s bs t (is ++ i ∷ []) b lines h
starts_stay s bs t is b (End j ∷ lines) h =
    starts_stay s (bs ++ block t is j ∷ []) t [] false lines (starts_append s bs (block t is j ∷ []) h)
starts_stay s bs t is true (Label n ∷ lines) h =
    starts_stay s (bs ++ block t is Fall ∷ []) (label_name n) [] true lines (starts_append s bs (block t is Fall ∷ []) h)
starts_stay s bs t is false (Label n ∷ lines) h = starts_stay s bs (label_name n) [] true lines h

pub starts_open : (s : List ℕ) (is : List Inst) (lines : List Line) (j : Jump) →
    Starts s (add_all (draft [] s is true) (lines ++ End j ∷ [])).blocks
starts_open s is [] j = refl
starts_open s is (Do i ∷ lines) j = starts_open s (is ++ i ∷ []) lines j
starts_open s is (End i ∷ lines) j = starts_stay s (block s is i ∷ []) s [] false (lines ++ End j ∷ []) refl
starts_open s is (Label n ∷ lines) j = starts_stay s (block s is Fall ∷ []) (label_name n) [] true (lines ++ End j ∷ []) refl

pub no_target : (s : List ℕ) (bs : List Block) → Starts s bs → list_all (λ (b : Block). targets_pass (λ l. not (bytes_eq l s)) b.jump) bs ≡
    true → start_is_no_target bs ≡ true
no_target s [] h k = refl
no_target s (first ∷ rest) h k =
    subst (λ (t : List ℕ). list_all (λ (b : Block). targets_pass (λ l. not (bytes_eq l t)) b.jump) (first ∷ rest) ≡ true) (sym h) k

ends_in : (bs : List Block) (b : Block) → ends (bs ++ b ∷ []) ≡ not (falls b.jump)
ends_in [] b = refl
ends_in (x ∷ []) b = refl
ends_in (x ∷ y ∷ bs) b = ends_in (y ∷ bs) b

pub blocks_end : (d : Draft) (lines : List Line) (j : Jump) → falls j ≡ false → ends (add_all d (lines ++ End j ∷ [])).blocks ≡ true
blocks_end d lines j h =
    ap (λ (x : Draft). ends x.blocks) (add_all_append d lines (End j ∷ []))
    ∙ ends_in (add_all d lines).blocks (finished (add_all d lines) j) ∙ ap not h

-- blocks without phis
pub no_phis_placed : (bs : List Block) → list_all (λ (b : Block). length b.phis == 0) bs ≡ true → phis_are_placed bs ≡ true
no_phis_placed [] h = refl
no_phis_placed (first ∷ rest) h =
    let k = and_parts (length first.phis == 0) _ h in
    both_true (length first.phis == 0) _ k.0 (all_more (λ (b : Block). length b.phis == 0) _ (λ b e. none b.phis _ e) rest k.1)
  where
    none : {A : Type 0} (xs : List A) (test : A → Bool) → (length xs == 0) ≡ true → list_all test xs ≡ true
    none [] test e = refl
    none (x ∷ xs) test e = absurd (grind (arith, nat_tests))
