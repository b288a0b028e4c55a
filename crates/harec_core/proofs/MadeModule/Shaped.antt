-- The module of flat code with a program's shape has the outline of the program.
use Rattle.std.proofs.Common.{◌≡◌, ℕ, suc, ◌≤◌, Bool, true, false, List, [], ◌∷◌, ◌++◌, map, length, Option, None, Some, refl, sym, ap, ◌∙◌, subst, arith}
use Rattle.std.specs.Prelude.{codes, bytes_eq, sum_by}
use Rattle.std.proofs.lemmas.List.{length-map}
use Rattle.std.proofs.lemmas.List.Sums.{sum_by-cons}
use Rattle.flat_code.specs.declared.program.Data.{Data}
use Rattle.flat_code.specs.declared.program.FlatFn.{FlatFn}
use Rattle.flat_code.specs.declared.program.FlatProgram.{FlatProgram}
use Rattle.flat_code.specs.Contents.{loops_in, calls_in}
use Rattle.flat_code.specs.Evaluation as flat
use Rattle.flat_code.specs.Shape.{code_of}
use Rattle.il_code.specs.declared.types.IlItem.{IlItem}
use Rattle.il_code.specs.declared.types.IlItem.TheVariants as item
use Rattle.il_code.specs.declared.types.Module.{Module}
use Rattle.il_code.specs.State as il
use Rattle.il_emit.specs.Shape.{backward_jumps, calls_of, outlined}
use Rattle.il_emit.specs.Shape as emit
use Rattle.hare_blocks.specs.Trees.{Program}
use Rattle.low_blocks.specs.Programs.{program_texts}
use Rattle.low_blocks.specs.Shape.{program_fors, HasItsLoops, text_names}
use Rattle.low_blocks.specs.Shape as low
use Rattle.harec_core.specs.Class.{outline_of}
use Rattle.harec_core.specs.Shape.{Body, functions_of, data_count, HasShape}

-- ---- the items

-- items of which one is a function
record HasOneFunction (items : List IlItem) (name : List ℕ) (others : ℕ) : Type 0 where
  body : Body
  functions : functions_of items ≡ body ∷ []
  named : body.name ≡ name
  count : data_count items ≡ others

first_same : {A : Type 0} (x y : A) (xs ys : List A) → x ∷ xs ≡ y ∷ ys → x ≡ y
first_same x y xs ys e = cc

rest_same : {A : Type 0} (x y : A) (xs ys : List A) → x ∷ xs ≡ y ∷ ys → xs ≡ ys
rest_same x y xs ys e = cc

none_some : {A : Type 0} (x : A) (xs : List A) → [] ≡ x ∷ xs → ⊥
none_some x xs e = cc

some_same : {A : Type 0} (x y : A) → Some x ≡ Some y → x ≡ y
some_same x y e = cc

no_function : false ≡ true → ⊥
no_function e = cc

-- a data item for each global, and behind them a function
one_function : (items : List IlItem) (ds : List Data) (name : List ℕ) →
    map outlined items ≡ map (λ (d : Data). (d.name, false)) ds ++ (name, true) ∷ [] → HasOneFunction items name (length ds)
one_function [] [] name e = absurd (none_some _ _ e)
one_function [] (d ∷ ds) name e = absurd (none_some _ _ e)
one_function (item.Data export n align parts ∷ items) [] name e =
    absurd (no_function (ap (λ (p : List ℕ × Bool). p.1) (first_same _ _ _ _ e)))
one_function (item.Function export class n params blocks ∷ []) [] name e = record {
  body = record { name = n; params = params; blocks = blocks };
  functions = refl;
  named = ap (λ (p : List ℕ × Bool). p.0) (first_same _ _ _ _ e);
  count = refl;
}
one_function (item.Function export class n params blocks ∷ x ∷ items) [] name e = absurd (none_some _ _ (sym (rest_same _ _ _ _ e)))
one_function (item.Data export n align parts ∷ items) (d ∷ ds) name e =
    let on = one_function items ds name (rest_same _ _ _ _ e) in
    record { body = on.body; functions = on.functions; named = on.named; count = omega (arith, on.count) }
one_function (item.Function export class n params blocks ∷ items) (d ∷ ds) name e =
    absurd (no_function (sym (ap (λ (p : List ℕ × Bool). p.1) (first_same _ _ _ _ e))))

-- no name means a function where there is none
none_named : (items : List IlItem) (name : List ℕ) (c : il.Code) → functions_of items ≡ [] → il.function_named items name ≡ Some c → ⊥
none_named [] name c e h = cc
none_named (item.Data export n align parts ∷ items) name c e h = pick (bytes_eq n name) refl (none_named items name c e)
  where
    all : List IlItem
    all = item.Data export n align parts ∷ items

    pick : (b : Bool) → bytes_eq n name ≡ b → (il.function_named items name ≡ Some c → ⊥) → ⊥
    pick true k on = let g : il.function_named all name ≡ None = rw k refl in cc
    pick false k on = let g : il.function_named all name ≡ il.function_named items name = rw k refl in on (sym g ∙ h)
none_named (item.Function export class n params blocks ∷ items) name c e h = none_some _ _ (sym e)

-- what a name means is the one function
one_named : (items : List IlItem) (name : List ℕ) (c : il.Code) (b : Body) → functions_of items ≡ b ∷ [] →
    il.function_named items name ≡ Some c → c.blocks ≡ b.blocks
one_named [] name c b e h = absurd (none_some _ _ e)
one_named (item.Data export n align parts ∷ items) name c b e h = pick (bytes_eq n name) refl (one_named items name c b e)
  where
    all : List IlItem
    all = item.Data export n align parts ∷ items

    pick : (t : Bool) → bytes_eq n name ≡ t → (il.function_named items name ≡ Some c → c.blocks ≡ b.blocks) → c.blocks ≡ b.blocks
    pick true k on = let g : il.function_named all name ≡ None = rw k refl in absurd (cc)
    pick false k on = let g : il.function_named all name ≡ il.function_named items name = rw k refl in on (sym g ∙ h)
one_named (item.Function export class n params blocks ∷ items) name c b e h = pick (bytes_eq n name) refl
  where
    all : List IlItem
    all = item.Function export class n params blocks ∷ items

    code : il.Code
    code = record { name = n; class = class; params = params; blocks = blocks }

    body : blocks ≡ b.blocks
    body = ap (λ (x : Body). x.blocks) (first_same _ _ _ _ e)

    pick : (t : Bool) → bytes_eq n name ≡ t → c.blocks ≡ b.blocks
    pick true k =
        let g : il.function_named all name ≡ Some code = rw k refl in
        let same : code ≡ c = some_same code c (sym g ∙ h) in
        sym (ap (λ (x : il.Code). x.blocks) same) ∙ body
    pick false k =
        let g : il.function_named all name ≡ il.function_named items name = rw k refl in
        absurd (none_named items name c (rest_same _ _ _ _ e) (sym g ∙ h))

length-text_names : (i : ℕ) (ts : List (List ℕ)) → length (text_names i ts) ≡ length ts
length-text_names i [] = refl
length-text_names i (t ∷ ts) = omega (arith, length-text_names (suc i) ts)

-- ---- loops

loops_alone : (gs : List FlatFn) (g : FlatFn) → gs ≡ g ∷ [] →
    sum_by (λ (x : FlatFn). loops_in (code_of x.body)) gs ≡ loops_in (code_of g.body)
loops_alone gs g e =
    let count : FlatFn → ℕ = λ x. loops_in (code_of x.body) in
    ap (λ (xs : List FlatFn). sum_by count xs) e ∙ sum_by-cons count g [] ∙ omega arith

-- ---- the shape

module _ (p : Program) (f : FlatProgram) (m : Module) (shaped : emit.HasShape f m) (lowered : low.HasShape p f)
    (loops : HasItsLoops p f) where
  abbrev main : List ℕ
  main = codes "main"

  items : map outlined m.items ≡ map (λ (d : Data). (d.name, false)) f.globals ++ (main, true) ∷ []
  items = shaped.items
      ∙ ap (λ (gs : List FlatFn). map (λ (d : Data). (d.name, false)) f.globals ++ map (λ (g : FlatFn). (g.name, true)) gs) lowered.only
      ∙ ap (λ (n : List ℕ). map (λ (d : Data). (d.name, false)) f.globals ++ (n, true) ∷ []) lowered.name

  one : HasOneFunction m.items main (length f.globals)
  one = one_function m.items f.globals main items

  found : flat.function_named f.functions main ≡ Some lowered.main
  found = ap (λ (gs : List FlatFn). flat.function_named gs main) lowered.only ∙ named
    where
      named : flat.function_named (lowered.main ∷ []) main ≡ Some lowered.main
      named = rw lowered.name refl

  -- the function of the module has no loop and no call that the flat code does not have
  record IsWithin (b : Body) : Type 0 where
    jumps : backward_jumps b.blocks ≤ loops_in (code_of lowered.main.body)
    calls : calls_of main b.blocks ≤ calls_in main (code_of lowered.main.body)

  within : IsWithin one.body
  within = pick (il.function_named m.items main) refl
      (subst (λ (x : Option FlatFn). emit.AreAlike x (il.function_named m.items main)) found (shaped.functions main))
    where
      pick : (o : Option il.Code) → il.function_named m.items main ≡ o → emit.AreAlike (Some lowered.main) o → IsWithin one.body
      pick None e h = absurd h
      pick (Some c) e h =
          let same = one_named m.items main c one.body one.functions e in
          record { jumps = rw (← same) h.jumps; calls = rw (← same) (h.calls main) }

  globals : data_count m.items ≡ length (program_texts p)
  globals = one.count ∙ sym (length-map f.globals (λ (d : Data). d.name)) ∙ ap length lowered.globals
      ∙ length-text_names 0 (program_texts p)

  all_loops : loops_in (code_of lowered.main.body) ≡ program_fors p
  all_loops = sym (loops_alone f.functions lowered.main lowered.only) ∙ loops

  pub outline_shape : HasShape (outline_of p) m
  outline_shape = record {
    functions = rw one.functions (
      record {
        name = one.named;
        jumps = omega (arith, within.jumps, all_loops);
        calls = (
          rw one.named (omega (arith, within.calls, lowered.calls)),
          tt,
        );
      },
      tt,
    );
    globals = omega arith;
    others = omega (arith, globals);
  }
