-- An operation wants and gives in the intermediate language what it does in flat code, and so do the functions of the runtime.
use Rattle.std.proofs.Common.{◌≡◌, ℕ, Bool, true, false, ◌&&◌, ◌||◌, List, [], ◌∷◌, Option, None, Some, refl, sym, ap, ◌∙◌, subst, arith}
use Rattle.std.specs.Prelude.{bytes_eq, ◌==◌}
use Rattle.std.specs.List.{list_all}
use Rattle.std.proofs.lemmas.Bool.{and_parts}
use Rattle.std.proofs.lemmas.Bool.Decides.{nat_tests}
use Rattle.std.proofs.lemmas.Slice.Eq.{bytes_eq-Decides}
use Rattle.hx_base.specs.declared.Class.{Class}
use Rattle.hx_base.specs.declared.Class.TheVariants.{L}
use Rattle.hx_base.specs.Runtime.{lookup}
use Rattle.flat_code.specs.declared.op.LoadKind.{LoadKind}
use Rattle.flat_code.specs.declared.op.LoadKind.TheVariants as how
use Rattle.flat_code.specs.declared.op.Op.{Op}
use Rattle.flat_code.specs.declared.op.Op.TheVariants as flat
use Rattle.flat_code.specs.Kinds.{op_kind, takes_two, first_class, second_class, may_give}
use Rattle.hx_runtime.specs.Functions.{runtime_params, runtime_result, runtime_function, runtime_names}
use Rattle.hx_runtime.specs.declared.runtime.RuntimeFunction.{RuntimeFunction}
use Rattle.flat_code.specs.WellFormed.{is_width, stored_class}
use Rattle.il_code.specs.declared.op.IlOp.{IlOp}
use Rattle.il_code.specs.declared.types.IlArg.{IlArg}
use Rattle.il_code.specs.declared.types.IlParam.{IlParam}
use Rattle.il_code.specs.Addresses.{width_bytes}
use Rattle.il_code.specs.Classes as il
use Rattle.il_code.specs.Rules as rule
use Rattle.il_code.specs.Rules.{takes_result, has_classes, is_runtime_call, is_runtime_call_of}
use Rattle.il_code.specs.Tokens.{is_identifier}
use Rattle.il_code.specs.Shaped.{is_second as is_second_shaped}
use Rattle.il_emit.specs.Ops.{il_op, load_op}

-- ---- operations

pub takes_is : (o : Op) → il.takes_two (il.op_kind (il_op o)) ≡ takes_two (op_kind o)
takes_is flat.Neg = refl
takes_is _ = refl

pub first_is : (o : Op) (class : Class) → il.first_class (il.op_kind (il_op o)) class ≡ first_class (op_kind o) class
first_is flat.Neg class = refl
first_is _ class = refl

pub second_is : (o : Op) (class : Class) → il.second_class (il.op_kind (il_op o)) class ≡ second_class (op_kind o) class
second_is flat.Neg class = refl
second_is _ class = refl

pub may_is : (o : Op) (class : Class) → il.may_give (il.op_kind (il_op o)) class ≡ may_give (op_kind o) class
may_is flat.Neg class = refl
may_is _ class = refl

-- ---- loads and stores

-- what loads gives a long, and wants one operand, a long
pub record IsLoad (op : IlOp) : Type 0 where
  pub one : is_second_shaped (il.takes_two (il.op_kind op)) None ≡ true
  pub gives : il.may_give (il.op_kind op) L ≡ true
  pub wants : il.first_class (il.op_kind op) L ≡ L

pub load_is : (h : LoadKind) → IsLoad (load_op h)
load_is how.Sb = record { one = refl; gives = refl; wants = refl }
load_is how.Ub = record { one = refl; gives = refl; wants = refl }
load_is how.Sh = record { one = refl; gives = refl; wants = refl }
load_is how.Uh = record { one = refl; gives = refl; wants = refl }
load_is how.Sw = record { one = refl; gives = refl; wants = refl }
load_is how.Uw = record { one = refl; gives = refl; wants = refl }
load_is how.L = record { one = refl; gives = refl; wants = refl }

narrow : (a : Bool) → (a || false) ≡ true → a ≡ true
narrow true h = refl
narrow false h = cc

-- a store takes its value at the same class
pub stored_is : (width : ℕ) → is_width width ≡ true → rule.stored_class width ≡ stored_class width
stored_is width h = pick (width == 8) refl
  where
    pick : (b : Bool) → (width == 8) ≡ b → rule.stored_class width ≡ stored_class width
    pick true e =
        let s : width ≡ 8 = grind (arith, nat_tests) in
        subst (λ (n : ℕ). rule.stored_class n ≡ stored_class n) (sym s) refl
    pick false e =
        let few = narrow (width == 1 || width == 2 || width == 4) (rw e at h) in
        rw (few, e) refl

-- and stores as many bytes
pub width_is : (width : ℕ) → is_width width ≡ true → width_bytes width ≡ width
width_is width h = pick (width == 8) refl
  where
    pick : (b : Bool) → (width == 8) ≡ b → width_bytes width ≡ width
    pick true e = let s : width ≡ 8 = grind (arith, nat_tests) in subst (λ (n : ℕ). width_bytes n ≡ n) (sym s) refl
    pick false e = let few = narrow (width == 1 || width == 2 || width == 4) (rw e at h) in rw few refl

-- ---- calls of the runtime

-- calls of this name, with the result and the parameters of the function
pub record IsNamed (name : List ℕ) (g : RuntimeFunction) : Type 0 where
  pub identifier : is_identifier name ≡ true
  pub call : (result : Option IlParam) (args : List IlArg) → (takes_result result (runtime_result g) && has_classes args (runtime_params g))
      ≡ true → is_runtime_call result name args ≡ true

-- each name is an identifier
found : (name : List ℕ) (g : RuntimeFunction) (names : List (List ℕ × RuntimeFunction)) →
    list_all (λ (x : List ℕ × RuntimeFunction). is_identifier x.0) names ≡ true → lookup name names ≡ Some g → is_identifier name ≡ true
found name g [] h e = cc
found name g (x ∷ xs) h e = pick (bytes_eq x.0 name) refl (λ t. found name g xs k.1 t)
  where
    k : (is_identifier x.0 ≡ true) × (list_all (λ (y : List ℕ × RuntimeFunction). is_identifier y.0) xs ≡ true)
    k = and_parts (is_identifier x.0) (list_all (λ (y : List ℕ × RuntimeFunction). is_identifier y.0) xs) h

    pick : (b : Bool) → bytes_eq x.0 name ≡ b → (lookup name xs ≡ Some g → is_identifier name ≡ true) → is_identifier name ≡ true
    pick true n on = subst (λ (y : List ℕ). is_identifier y ≡ true) ((bytes_eq-Decides x.0 name).0 n) k.0
    pick false n on = let t : lookup name xs ≡ Some g = rw n at e in on t

pub named_call : (name : List ℕ) (g : RuntimeFunction) → runtime_function name ≡ Some g → IsNamed name g
unfolding is_runtime_call
named_call name g e =
    record { identifier = found name g runtime_names refl e; call = λ result args h. ap (is_runtime_call_of result args) e ∙ h }
