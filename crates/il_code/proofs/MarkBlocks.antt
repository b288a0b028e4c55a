-- The tokens of lines, blocks, functions and data are unmarked exactly where these keep the rules.
use Rattle.std.proofs.Common.{◌≡◌, ℕ, suc, List, [], ◌∷◌, ◌++◌, Option, Bool, true, false, ◌&&◌, ◌||◌, not, ◌==◌, length, bytes_eq, refl, sym, ap, ◌∙◌, arith, tests, append-nil, append_assoc}
use Rattle.std.specs.Prelude.{map}
use Rattle.std.specs.List.{list_all, list_any}
use Rattle.std.proofs.Math.Bool.{and_assoc}
use Rattle.std.proofs.lemmas.Bool.Decides.{nat_tests}
use Rattle.std.proofs.lemmas.List.Folds.{list_all-append}
use Rattle.hx_base.specs.declared.Class.{Class}
use Rattle.il_code.specs.declared.types.IlItem.{IlItem}
use Rattle.il_code.specs.declared.types.IlParam.{IlParam}
use Rattle.il_code.specs.declared.types.Block.{Block}
use Rattle.il_code.specs.declared.types.Phi.{Phi}
use Rattle.il_code.specs.declared.types.Inst.{Inst}
use Rattle.il_code.specs.Rules.{has_named, has_label, targets_pass, phi_labels_known, block_labels_known, phi_is_placed, inst_is_right, phi_is_right, jump_is_right, block_is_right}
use Rattle.il_code.specs.Loose.{BlockLine, PhiLine, InstLine, LooseBlock, loose_block}
use Rattle.il_code.specs.Marks.{each_behind, line_sets, is_inst_line, line_marks, is_start, jump_marks, block_marks}
use Rattle.il_code.specs.MarkLaws.{is_clean}
use Rattle.il_code.proofs.MarkLists.{same_when, list_all-and, list_any-append, all_behind, all_behind-each, is_clean-when}
use Rattle.il_code.proofs.MarkNames.{is_as_first}
use Rattle.il_code.proofs.MarkTokens.{clear, clear-inst, clear-phi, clear-jump}

all_behind-append : {A : Type 0} (p : List A → A → Bool) (before xs ys : List A) →
    all_behind p before (xs ++ ys) ≡ (all_behind p before xs && all_behind p (before ++ xs) ys)
all_behind-append p before [] ys = rw (append-nil before) refl
all_behind-append p before (x ∷ xs) ys = rw (all_behind-append p (before ++ x ∷ []) xs ys, append_assoc before (x ∷ []) xs)
    (sym (and_assoc (p before x) (all_behind p (before ++ x ∷ []) xs) (all_behind p (before ++ x ∷ xs) ys)))

pub list_any-map : {A B : Type 0} (p : B → Bool) (f : A → B) (xs : List A) → list_any p (map f xs) ≡ list_any (λ x. p (f x)) xs
list_any-map p f [] = refl
list_any-map p f (x ∷ xs) = ap (λ b. p (f x) || b) (list_any-map p f xs)

-- ---- the lines of a block

module _ (items : List IlItem) (params : List IlParam) (blocks : List Block) (sets : List IlParam) where
  abbrev phi_is_clear : Bool → List ℕ → Phi → Bool
  phi_is_clear out label p = list_all (is_as_first sets) (line_sets (PhiLine p)) &&
      ((not out && phi_is_placed blocks label p) && (phi_labels_known blocks p && phi_is_right items params blocks p))

  abbrev inst_is_clear : Inst → Bool
  inst_is_clear i = list_all (is_as_first sets) (line_sets (InstLine i)) && inst_is_right items params blocks i

  abbrev line_is_clear : Bool → List ℕ → List BlockLine → BlockLine → Bool
  line_is_clear first label before l = clear (line_marks items params blocks sets first label before l)

  or-false : (a : Bool) → (a || false) ≡ a
  or-false true = refl
  or-false false = refl

  clear-phis : (first : Bool) (label : List ℕ) (before : List BlockLine) (phis : List Phi) → list_any is_inst_line before ≡ false →
      all_behind (line_is_clear first label) before (map (λ p. PhiLine p) phis) ≡ list_all (phi_is_clear first label) phis
  clear-phis first label before [] h = refl
  clear-phis first label before (p ∷ phis) h =
      let out : (first || list_any is_inst_line before) ≡ first = ap (λ b. first || b) h ∙ or-false first in
      let more : list_any is_inst_line (before ++ PhiLine p ∷ []) ≡ false =
      list_any-append is_inst_line before (PhiLine p ∷ []) ∙ ap (λ b. b || false) h in
      let here : clear (line_marks items params blocks sets first label before (PhiLine p)) ≡ phi_is_clear first label p =
      clear-phi items params blocks sets (first || list_any is_inst_line before) label p ∙ ap (λ b. phi_is_clear b label p) out in
      rw (here, clear-phis first label (before ++ PhiLine p ∷ []) phis more) refl

  clear-insts : (first : Bool) (label : List ℕ) (before : List BlockLine) (insts : List Inst) →
      all_behind (line_is_clear first label) before (map (λ i. InstLine i) insts) ≡ list_all inst_is_clear insts
  clear-insts first label before [] = refl
  clear-insts first label before (i ∷ insts) =
      rw (clear-inst items params blocks sets i, clear-insts first label (before ++ InstLine i ∷ []) insts) refl

  clear-lines : (first : Bool) (b : Block) →
      clear (each_behind (line_marks items params blocks sets first b.label) [] (loose_block b).lines) ≡
      (list_all (phi_is_clear first b.label) b.phis && list_all inst_is_clear b.insts)
  clear-lines first b =
      all_behind-each is_clean (line_marks items params blocks sets first b.label) [] (loose_block b).lines
      ∙ all_behind-append (line_is_clear first b.label) [] (map (λ p. PhiLine p) b.phis) (map (λ i. InstLine i) b.insts)
      ∙ rw (clear-phis first b.label [] b.phis refl, clear-insts first b.label (map (λ p. PhiLine p) b.phis) b.insts) refl

  -- ---- blocks

  -- what a block sets, as the first time
  abbrev pub sets_as_first : Block → Bool
  sets_as_first b = list_all (λ p. list_all (is_as_first sets) (line_sets (PhiLine p))) b.phis && list_all
      (λ i. list_all (is_as_first sets) (line_sets (InstLine i))) b.insts

  abbrev pub passes_start : Block → Bool
  passes_start b = targets_pass (λ l. not (is_start blocks l)) b.jump

  abbrev pub phis_placed : Bool → Block → Bool
  phis_placed first b = list_all (λ p. not first && phi_is_placed blocks b.label p) b.phis

  -- what a block must keep beside its label
  abbrev pub keeps : Option Class → Bool → Block → Bool
  keeps class first b = sets_as_first b && (block_labels_known blocks b &&
      (passes_start b && (phis_placed first b && block_is_right items params blocks class b)))

  shuffle : (a b c d e f g h i : Bool) → (((a && (b && (c && d))) && (e && f)) && (g && (h && i))) ≡
      ((a && e) && ((h && c) && (g && (b && (d && (f && i))))))
  shuffle a b c d e f g h i = same_when _ _ (λ k. grind (arith, tests)) (λ k. grind (arith, tests))

  clear-body : (class : Option Class) (first : Bool) (b : Block) →
      (clear (each_behind (line_marks items params blocks sets first b.label) [] (loose_block b).lines) && clear
      (jump_marks items params blocks class b.jump)) ≡ keeps class first b
  clear-body class first b =
      let ps : list_all (phi_is_clear first b.label) b.phis ≡
      (list_all (λ p. list_all (is_as_first sets) (line_sets (PhiLine p))) b.phis &&
      (phis_placed first b && (list_all (phi_labels_known blocks) b.phis && list_all (phi_is_right items params blocks) b.phis))) =
      list_all-and (λ p. list_all (is_as_first sets) (line_sets (PhiLine p)))
      (λ p. (not first && phi_is_placed blocks b.label p) && (phi_labels_known blocks p && phi_is_right items params blocks p)) b.phis
      ∙ ap (λ z. list_all (λ p. list_all (is_as_first sets) (line_sets (PhiLine p))) b.phis && z)
      (list_all-and (λ p. not first && phi_is_placed blocks b.label p)
      (λ p. phi_labels_known blocks p && phi_is_right items params blocks p) b.phis ∙ ap (λ z. phis_placed first b && z)
      (list_all-and (phi_labels_known blocks) (phi_is_right items params blocks) b.phis)) in
      let is : list_all inst_is_clear b.insts ≡
      (list_all (λ i. list_all (is_as_first sets) (line_sets (InstLine i))) b.insts && list_all (inst_is_right items params blocks)
      b.insts) =
      list_all-and (λ i. list_all (is_as_first sets) (line_sets (InstLine i))) (inst_is_right items params blocks) b.insts in
      rw (clear-lines first b, ps, is, clear-jump items params blocks class b.jump)
      (shuffle (list_all (λ p. list_all (is_as_first sets) (line_sets (PhiLine p))) b.phis) (phis_placed first b)
      (list_all (phi_labels_known blocks) b.phis) (list_all (phi_is_right items params blocks) b.phis)
      (list_all (λ i. list_all (is_as_first sets) (line_sets (InstLine i))) b.insts)
      (list_all (inst_is_right items params blocks) b.insts) (passes_start b) (targets_pass (has_label blocks) b.jump)
      (jump_is_right items params blocks class b.jump))

  same_length : (before : List Block) → (length (map loose_block before) == 0) ≡ (length before == 0)
  same_length [] = refl
  same_length (b ∷ before) = none_more (length (map loose_block before)) ∙ sym (none_more (length before))
    where
      none_more : (n : ℕ) → (suc n == 0) ≡ false
      none_more n = grind (arith, nat_tests)

  pub clear-block : (class : Option Class) (before : List Block) (b : Block) →
      clear (block_marks items class params blocks sets (map loose_block before) (loose_block b)) ≡
      (not (has_named (λ (x : Block). x.label) b.label before) && keeps class (length before == 0) b)
  clear-block class before b =
      let named : has_named (λ (x : LooseBlock). x.label) b.label (map loose_block before) ≡
      has_named (λ (x : Block). x.label) b.label before =
      list_any-map (λ (x : LooseBlock). bytes_eq x.label b.label) loose_block before in
      rw (
        is_clean-when (has_named (λ (x : LooseBlock). x.label) b.label (map loose_block before)) 5,
        named,
        list_all-append is_clean
            (each_behind (line_marks items params blocks sets (length (map loose_block before) == 0) b.label) [] (loose_block b).lines)
            (jump_marks items params blocks class b.jump),
        same_length before,
        clear-body class (length before == 0) b,
      ) refl
