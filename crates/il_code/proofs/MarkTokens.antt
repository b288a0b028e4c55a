-- The tokens of operands, instructions, phis and jumps are unmarked exactly where these are right.
use Rattle.std.proofs.Common.{◌≡◌, ℕ, List, [], ◌∷◌, ◌++◌, Option, None, Some, Bool, true, false, ◌&&◌, ◌||◌, not, bytes_eq, refl, sym, ap, ◌∙◌, arith, tests}
use Rattle.std.specs.Prelude.{find, is_some}
use Rattle.std.specs.List.{list_all, flat_map}
use Rattle.std.proofs.Math.Bool.{and-true, and_assoc}
use Rattle.std.proofs.lemmas.List.Folds.{list_all-append}
use Rattle.hx_base.specs.declared.Class.{Class}
use Rattle.hx_base.specs.declared.Class.TheVariants.{W, L}
use Rattle.il_code.specs.declared.types.IlItem.{IlItem}
use Rattle.il_code.specs.declared.types.IlParam.{IlParam}
use Rattle.il_code.specs.declared.types.Block.{Block}
use Rattle.il_code.specs.declared.types.Phi.{Phi}
use Rattle.il_code.specs.declared.types.PhiArg.{PhiArg}
use Rattle.il_code.specs.declared.types.IlValue.{IlValue}
use Rattle.il_code.specs.declared.types.IlValue.TheVariants.{Number, Temp, Symbol}
use Rattle.il_code.specs.declared.types.IlArg.{IlArg}
use Rattle.il_code.specs.declared.types.Inst.{Inst}
use Rattle.il_code.specs.declared.types.Inst.TheVariants.{Set, Store, Blit, Call}
use Rattle.il_code.specs.declared.types.Jump.{Jump}
use Rattle.il_code.specs.declared.types.Jump.TheVariants.{Fall, Jmp, Jnz, Ret, Hlt}
use Rattle.hx_runtime.specs.Functions.{runtime_function}
use Rattle.hx_runtime.specs.declared.runtime.RuntimeFunction.{RuntimeFunction}
use Rattle.il_code.specs.Items.{Code, function_named}
use Rattle.il_code.specs.Classes.{op_kind, first_class, second_class, may_give}
use Rattle.il_code.specs.Rules.{item_name, has_named, has_label, phi_labels_known, targets_pass, phi_is_placed, is_set, is_long, is_right, is_runtime_call, is_runtime_call_of, is_call_of, is_call_right, second_is_right, stored_class, call_is_right, inst_is_right, phi_is_right, return_is_right, jump_is_right}
use Rattle.il_code.specs.Loose.{PhiLine, InstLine}
use Rattle.il_code.specs.Marks.{Numbers, temp_marks, symbol_marks, value_marks, maybe_marks, label_marks, line_sets, is_first_class, set_marks, is_callable, call_marks, result_marks, inst_marks, phi_marks, is_start, return_marks, jump_marks}
use Rattle.il_code.specs.MarkLaws.{is_clean}
use Rattle.il_code.proofs.MarkLists.{same_when, not-not, not-or, list_all-same, list_all-and, list_all-flat_map, is_clean-when, is_clean-unless, is_clean-whens}
use Rattle.il_code.proofs.MarkNames.{is_as_first}

-- no rule is broken at these tokens
abbrev pub clear : List Numbers → Bool
clear ms = list_all is_clean ms

-- ---- calls

-- a right call is of a function that is there
callable_from : (items : List IlItem) (result : Option IlParam) (target : List ℕ) (args : List IlArg) →
    is_call_right items result target args ≡ true → is_callable items target ≡ true
unfolding is_runtime_call
callable_from items result target args h = pick (function_named items target) h
  where
    of_runtime : (g : Option RuntimeFunction) → is_runtime_call_of result args g ≡ true → is_some g ≡ true
    of_runtime (Some g) h = refl
    of_runtime None h = h

    pick : (f : Option Code) → is_call_of result target args f ≡ true → (is_some f || is_some (runtime_function target)) ≡ true
    pick (Some f) h = refl
    pick None h = of_runtime (runtime_function target) h

clear-call : (items : List IlItem) (result : Option IlParam) (target : List ℕ) (args : List IlArg) →
    clear (call_marks items result target args) ≡ is_call_right items result target args
clear-call items result target args =
    rw (
      is_clean-when (is_callable items target && not (is_call_right items result target args)) 8,
      is_clean-unless
          (is_callable items target) 9,
    )
    (by (is_callable items target) (is_call_right items result target args) (callable_from items result target args))
  where
    by : (a b : Bool) → (b ≡ true → a ≡ true) → (not (a && not b) && (a && true)) ≡ b
    by true true h = refl
    by true false h = refl
    by false true h = h refl
    by false false h = refl

-- ---- operands

module _ (items : List IlItem) (params : List IlParam) (blocks : List Block) where
  clear-temp : (class : Class) (t : List ℕ) → is_clean (temp_marks params blocks class t) ≡ is_right items params blocks class (Temp t)
  clear-temp W t = is_clean-whens (not (is_set params blocks t W || is_set params blocks t L)) false 7 8 ∙ by
      (is_set params blocks t W || is_set params blocks t L)
    where
      by : (a : Bool) → (not (not a) && true) ≡ a
      by true = refl
      by false = refl
  clear-temp L t = is_clean-whens (not (is_set params blocks t W || is_set params blocks t L)) (is_set params blocks t W) 7 8 ∙ by
      (is_set params blocks t W) (is_set params blocks t L)
    where
      by : (a b : Bool) → (not (not (a || b)) && not a) ≡ (b && not a)
      by true true = refl
      by true false = refl
      by false true = refl
      by false false = refl

  clear-symbol : (fits : Bool) (s : List ℕ) → is_clean (symbol_marks items fits s) ≡ (fits && has_named item_name s items)
  clear-symbol fits s = is_clean-whens (not fits) (not (has_named item_name s items)) 8 9 ∙ rw
      (not-not fits, not-not (has_named item_name s items)) refl

  pub clear-value : (class : Class) (v : IlValue) → clear (value_marks items params blocks class v) ≡ is_right items params blocks class v
  clear-value class (Number n) = refl
  clear-value class (Temp t) = and-true _ ∙ clear-temp class t
  clear-value class (Symbol s) = and-true _ ∙ clear-symbol (is_long class) s

  clear-maybe : (class : Class) (v : Option IlValue) →
      clear (maybe_marks items params blocks class v) ≡ second_is_right items params blocks class v
  clear-maybe class None = refl
  clear-maybe class (Some v) = clear-value class v

  clear-args : (args : List IlArg) → clear (flat_map (λ (a : IlArg). value_marks items params blocks a.class a.value) args) ≡
      list_all (λ (a : IlArg). is_right items params blocks a.class a.value) args
  clear-args args = list_all-flat_map is_clean (λ (a : IlArg). value_marks items params blocks a.class a.value) args ∙ list_all-same _ _
      (λ (a : IlArg). clear-value a.class a.value) args

  -- ---- instructions

  module _ (sets : List IlParam) where
    pub clear-set : (name : List ℕ) (class : Class) →
        is_clean (set_marks sets name class) ≡ is_first_class class (find (λ p. bytes_eq p.name name) sets)
    clear-set name class = is_clean-unless _ 8

    clear-result : (result : Option IlParam) (target : List ℕ) (args : List IlArg) →
        clear (result_marks sets result) ≡ list_all (is_as_first sets) (line_sets (InstLine (Call result target args)))
    clear-result None target args = refl
    clear-result (Some p) target args = ap (λ b. b && true) (clear-set p.name p.class)

    pub clear-inst : (i : Inst) → clear (inst_marks items params blocks sets i) ≡
        (list_all (is_as_first sets) (line_sets (InstLine i)) && inst_is_right items params blocks i)
    unfolding call_is_right
    clear-inst (Set temp class op a b) =
        rw (
          clear-set temp class,
          is_clean-unless (may_give (op_kind op) class) 8,
          list_all-append is_clean
              (value_marks items params blocks (first_class (op_kind op) class) a)
              (maybe_marks items params blocks (second_class (op_kind op) class) b),
          clear-value (first_class (op_kind op) class) a,
          clear-maybe (second_class (op_kind op) class) b,
        )
        (ap (λ c. c && (may_give (op_kind op) class &&
        (is_right items params blocks (first_class (op_kind op) class) a && second_is_right items params blocks
        (second_class (op_kind op) class) b))) (sym (and-true _)))
    clear-inst (Store width value at) = list_all-append is_clean (value_marks items params blocks (stored_class width) value)
        (value_marks items params blocks L at) ∙ rw (clear-value (stored_class width) value, clear-value L at) refl
    clear-inst (Blit from to bytes) = list_all-append is_clean (value_marks items params blocks L from)
        (value_marks items params blocks L to) ∙ rw (clear-value L from, clear-value L to) refl
    clear-inst (Call result target args) =
        list_all-append is_clean (result_marks sets result ++ call_marks items result target args)
        (flat_map (λ (a : IlArg). value_marks items params blocks a.class a.value) args)
        ∙ rw (
          list_all-append is_clean (result_marks sets result) (call_marks items result target args),
          clear-result result target args,
          clear-call items result target args,
          clear-args args,
        )
        (and_assoc (list_all (is_as_first sets) (line_sets (InstLine (Call result target args)))) (is_call_right items result target args)
        (list_all (λ (a : IlArg). is_right items params blocks a.class a.value) args))

    clear-phi_args : (class : Class) (args : List PhiArg) →
        clear (flat_map (λ (a : PhiArg). label_marks blocks a.label ∷ value_marks items params blocks class a.value) args) ≡
        (list_all (λ (a : PhiArg). has_label blocks a.label) args && list_all (λ (a : PhiArg). is_right items params blocks class a.value)
        args)
    clear-phi_args class args =
        list_all-flat_map is_clean (λ (a : PhiArg). label_marks blocks a.label ∷ value_marks items params blocks class a.value) args
        ∙ list_all-same _ (λ (a : PhiArg). has_label blocks a.label && is_right items params blocks class a.value)
        (λ (a : PhiArg). rw (is_clean-unless (has_label blocks a.label) 6, clear-value class a.value) refl) args
        ∙ list_all-and (λ (a : PhiArg). has_label blocks a.label) (λ (a : PhiArg). is_right items params blocks class a.value) args

    pub clear-phi : (out : Bool) (label : List ℕ) (p : Phi) →
        clear (phi_marks items params blocks sets out label p) ≡
        (list_all (is_as_first sets) (line_sets (PhiLine p)) &&
        ((not out && phi_is_placed blocks label p) && (phi_labels_known blocks p && phi_is_right items params blocks p)))
    clear-phi out label p =
        rw (
          clear-set p.temp p.class,
          is_clean-when (out || not (phi_is_placed blocks label p)) 10,
          clear-phi_args p.class p.args,
          not-or
              out (not (phi_is_placed blocks label p)),
          not-not (phi_is_placed blocks label p),
        )
        (ap (λ c. c && ((not out && phi_is_placed blocks label p) && (phi_labels_known blocks p && phi_is_right items params blocks p)))
        (sym (and-true _)))

  -- ---- jumps

  clear-return : (class : Option Class) (value : Option IlValue) →
      clear (return_marks items params blocks class value) ≡ return_is_right items params blocks class value
  clear-return None None = refl
  clear-return None (Some v) = refl
  clear-return (Some c) None = refl
  clear-return (Some c) (Some v) = clear-value c v

  pub clear-jump : (class : Option Class) (j : Jump) →
      clear (jump_marks items params blocks class j) ≡
      (targets_pass (λ l. not (is_start blocks l)) j && (targets_pass (has_label blocks) j && jump_is_right items params blocks class j))
  clear-jump class Fall = refl
  clear-jump class (Jmp l) = rw (is_clean-when (is_start blocks l) 11, is_clean-unless (has_label blocks l) 6) refl
  clear-jump class (Jnz v a b) =
      rw (
        is_clean-when (is_start blocks a || is_start blocks b) 11,
        list_all-append is_clean (value_marks items params blocks W v)
            (label_marks blocks a ∷ label_marks blocks b ∷ []),
        clear-value W v,
        is_clean-unless (has_label blocks a) 6,
        is_clean-unless
            (has_label blocks b) 6,
        not-or (is_start blocks a) (is_start blocks b),
      )
      (by (not (is_start blocks a) && not (is_start blocks b)) (is_right items params blocks W v) (has_label blocks a) (has_label blocks b))
    where
      by : (s v a b : Bool) → (s && (v && (a && (b && true)))) ≡ (s && ((a && b) && v))
      by false v a b = refl
      by true v a b = same_when _ _ (λ h. grind (arith, tests)) (λ h. grind (arith, tests))
  clear-jump class (Ret v) = clear-return class v
  clear-jump class Hlt = refl
