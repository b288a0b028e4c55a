-- Functions by their names: those of the module are those of the program.
use Rattle.std.proofs.Common.{◌≡◌, ℕ, ◌≤◌, Bool, true, false, not, ◌||◌, List, [], ◌∷◌, ◌++◌, map, length, Option, None, Some, refl, sym, ap, ◌∙◌, subst, arith, ◌+◌}
use Rattle.std.specs.Prelude.{bytes_eq, codes, nat_le, count_by, ◌==◌, if◌then◌else◌}
use Rattle.std.specs.List.{list_all, list_any, AllByRecursion}
use Rattle.std.proofs.lemmas.Bool.{and_parts}
use Rattle.std.proofs.lemmas.Bool.Decides.{nat_tests}
use Rattle.std.proofs.lemmas.Slice.Eq.{bytes_eq-Decides}
use Rattle.flat_code.specs.declared.program.Data.{Data}
use Rattle.flat_code.specs.declared.program.FlatFn.{FlatFn}
use Rattle.flat_code.specs.declared.program.FlatProgram.{FlatProgram}
use Rattle.flat_code.specs.Evaluation as flat
use Rattle.flat_code.specs.Shape.{code_of}
use Rattle.flat_code.specs.WellFormed.{IsWellFormed, how_many, deepest, is_symbol, is_identifier, is_reserved, is_main, is_main_right, is_function_right, nests_within, is_right, params_have_one_class}
use Rattle.il_code.specs.State as il
use Rattle.il_emit.specs.Emitted.{data_item, params_of, blocks_of, function_item}
use Rattle.il_emit.specs.Numbered.{HasFewNames}
use Rattle.il_emit.proofs.Lines.Counts.{weight, sum_cons}

-- ---- functions by name

-- the function of the module for one of the program
abbrev pub emitted : FlatProgram → Option FlatFn → Option il.Code
emitted p None = None
emitted p (Some f) = Some (record { name = f.name; class = f.result; params = params_of 0 f.params; blocks = blocks_of p f })

functions_named : (p : FlatProgram) (fs : List FlatFn) (name : List ℕ) → il.function_named (map (function_item p) fs) name ≡
    emitted p (flat.function_named fs name)
functions_named p [] name = refl
functions_named p (f ∷ fs) name = pick (bytes_eq f.name name) refl (functions_named p fs name)
  where
    pick : (b : Bool) → bytes_eq f.name name ≡ b → il.function_named (map (function_item p) fs) name ≡ emitted p
        (flat.function_named fs name)
        → il.function_named (map (function_item p) (f ∷ fs)) name ≡ emitted p (flat.function_named (f ∷ fs) name)
    pick true e on = rw e refl
    pick false e on = rw e on

count_cons : {A : Type 0} (q : A → Bool) (x : A) (xs : List A) → count_by q (x ∷ xs) ≡ weight (q x) + count_by q xs
count_cons q x xs = sum_cons (λ y. weight (q y)) x xs

-- no global hides a function where none has its name
past_globals : (p : FlatProgram) (ds : List Data) (fs : List FlatFn) (name : List ℕ) → count_by (λ (d : Data). bytes_eq d.name name) ds ≡ 0
    → il.function_named (map data_item ds ++ map (function_item p) fs) name ≡ emitted p (flat.function_named fs name)
past_globals p [] fs name h = functions_named p fs name
past_globals p (d ∷ ds) fs name h = pick (bytes_eq d.name name) refl (past_globals p ds fs name)
  where
    pick : (b : Bool) → bytes_eq d.name name ≡ b
        → (count_by (λ (x : Data). bytes_eq x.name name) ds ≡ 0 → il.function_named (map data_item ds ++ map (function_item p) fs)
        name ≡ emitted p (flat.function_named fs name))
        → il.function_named (map data_item (d ∷ ds) ++ map (function_item p) fs) name ≡ emitted p (flat.function_named fs name)
    pick true e on = absurd (omega (arith, h, count_cons (λ (x : Data). bytes_eq x.name name) d ds, ap weight e))
    pick false e on = rw e (on (omega (arith, h, count_cons (λ (x : Data). bytes_eq x.name name) d ds)))

-- and where no function has a name, none is found
none_behind : (p : FlatProgram) (ds : List Data) (fs : List FlatFn) (name : List ℕ) → flat.function_named fs name ≡ None →
    il.function_named (map data_item ds ++ map (function_item p) fs) name ≡ None
none_behind p [] fs name h = functions_named p fs name ∙ ap (emitted p) h
none_behind p (d ∷ ds) fs name h = pick (bytes_eq d.name name) refl (none_behind p ds fs name h)
  where
    pick : (b : Bool) → bytes_eq d.name name ≡ b → il.function_named (map data_item ds ++ map (function_item p) fs) name ≡ None
        → il.function_named (map data_item (d ∷ ds) ++ map (function_item p) fs) name ≡ None
    pick true e on = rw e refl
    pick false e on = rw e on

-- a function that is found stands among them, and has the name
record IsAmong (test : FlatFn → Bool) (name : List ℕ) (fs : List FlatFn) (f : FlatFn) : Type 0 where
  named : f.name ≡ name
  passes : test f ≡ true
  counted : 1 ≤ count_by (λ (x : FlatFn). bytes_eq x.name name) fs

is_among : (test : FlatFn → Bool) (name : List ℕ) (fs : List FlatFn) (f : FlatFn) → list_all test fs ≡ true →
    flat.function_named fs name ≡ Some f → IsAmong test name fs f
is_among test name [] f h e = cc
is_among test name (x ∷ fs) f h e = pick (bytes_eq x.name name) refl e (is_among test name fs f (and_parts (test x) (list_all test fs) h).1)
  where
    pick : (b : Bool) → bytes_eq x.name name ≡ b → (if b then Some x else flat.function_named fs name) ≡ Some f →
        (flat.function_named fs name ≡ Some f → IsAmong test name fs f) → IsAmong test name (x ∷ fs) f
    pick true n e' on =
        let same : x ≡ f = cc in
        let k = count_cons (λ (y : FlatFn). bytes_eq y.name name) x fs in
        record {
          named = ap (λ (y : FlatFn). y.name) (sym same) ∙ (bytes_eq-Decides x.name name).0 n;
          passes = subst (λ (y : FlatFn). test y ≡ true) same (and_parts (test x) (list_all test fs) h).0;
          counted = omega (arith, k, ap weight n);
        }
    pick false n e' on =
        let r = on e' in
        let c = r.counted in
        record { named = r.named; passes = r.passes; counted = omega (arith, count_cons (λ (y : FlatFn). bytes_eq y.name name) x fs, c) }

pub items_named : (p : FlatProgram) → IsWellFormed p → (name : List ℕ) →
    il.function_named (map data_item p.globals ++ map (function_item p) p.functions) name ≡ emitted p
    (flat.function_named p.functions name)
items_named p w name = pick (flat.function_named p.functions name) refl
  where
    once : (n : ℕ) → (n == 1) ≡ true → n ≡ 1
    once n h = grind (arith, nat_tests)

    pick : (o : Option FlatFn) → flat.function_named p.functions name ≡ o →
        il.function_named (map data_item p.globals ++ map (function_item p) p.functions) name ≡ emitted p
        (flat.function_named p.functions name)
    pick None e = none_behind p p.globals p.functions name e ∙ sym (ap (emitted p) e)
    pick (Some f) e =
        let k = is_among (λ (x : FlatFn). how_many p x.name == 1) name p.functions f w.functions_differ e in
        let one : how_many p name ≡ 1 = once (how_many p name) (subst (λ (s : List ℕ). (how_many p s == 1) ≡ true) k.named k.passes) in
        let c = k.counted in
        past_globals p p.globals p.functions name (omega arith)

-- what is known of the functions of a well formed program is known of one that is found
pub found_right : (p : FlatProgram) (name : List ℕ) (f : FlatFn) → IsWellFormed p → flat.function_named p.functions name ≡ Some f →
    is_function_right p f ≡ true
found_right p name f w e = (is_among (is_function_right p) name p.functions f w.functions e).passes

-- a name that is called is an identifier
pub found_identifier : (p : FlatProgram) (name : List ℕ) (f : FlatFn) → IsWellFormed p → flat.function_named p.functions name ≡ Some f →
    is_identifier name ≡ true
found_identifier p name f w e =
    let k = is_among (is_function_right p) name p.functions f w.functions e in
    let own = (and_parts (is_identifier f.name) (not (is_reserved f.name)) (and_parts (is_symbol f.name) _ k.passes).0).0 in
    subst (λ (s : List ℕ). is_identifier s ≡ true) k.named own

pub found_few : (name : List ℕ) (fs : List FlatFn) (f : FlatFn) → AllByRecursion HasFewNames fs → flat.function_named fs name ≡ Some f →
    HasFewNames f
found_few name [] f few e = cc
found_few name (x ∷ fs) f few e = pick (bytes_eq x.name name) e (found_few name fs f few.1)
  where
    pick : (b : Bool) → (if b then Some x else flat.function_named fs name) ≡ Some f →
        (flat.function_named fs name ≡ Some f → HasFewNames f) → HasFewNames f
    pick true e' on = let same : x ≡ f = cc in subst HasFewNames same few.0
    pick false e' on = on e'

-- there is a `main`
pub main_there : (fs : List FlatFn) → list_any is_main fs ≡ true → flat.function_named fs (codes "main") ≡ None → ⊥
main_there [] h e = cc
main_there (f ∷ fs) h e = pick (bytes_eq f.name (codes "main")) refl h e (main_there fs)
  where
    pick : (b : Bool) → bytes_eq f.name (codes "main") ≡ b → (b || list_any is_main fs) ≡ true →
        (if b then Some f else flat.function_named fs (codes "main")) ≡ None →
        (list_any is_main fs ≡ true → flat.function_named fs (codes "main") ≡ None → ⊥) → ⊥
    pick true n h' e' on = cc
    pick false n h' e' on = on h' e'

-- ---- one function

-- what its being right says
pub record Parts (p : FlatProgram) (f : FlatFn) : Type 0 where
  pub few_params : length f.params ≤ f.temps
  pub code : is_right p f 0 (code_of f.body) ≡ true

pub parts : (p : FlatProgram) (f : FlatFn) → is_function_right p f ≡ true → Parts p f
parts p f h =
    let a = and_parts (is_symbol f.name) _ h in
    let b = and_parts (is_main_right f) _ a.1 in
    let c = and_parts (nat_le (length f.params) f.temps) _ b.1 in
    let d = and_parts (nests_within (code_of f.body) deepest) _ c.1 in
    let g = and_parts (params_have_one_class p f 0 f.params) (is_right p f 0 (code_of f.body)) d.1 in
    record { few_params = at_most c.0; code = g.1 }
  where
    at_most : nat_le (length f.params) f.temps ≡ true → length f.params ≤ f.temps
    at_most e = grind (arith, nat_tests)
