-- Which function a name calls.
use Rattle.std.proofs.Common.{◌≡◌, ℕ, zero, suc, ◌+◌, ◌<◌, ◌≤◌, Bool, true, false, List, [], ◌∷◌, length, Some, None, refl, ap, ◌∙◌, subst, arith, rules}
use Rattle.std.specs.Prelude.{◌==◌, not, count_by, All, slice_index_or, bytes_eq, if◌then◌else◌}
use Rattle.std.specs.List.{list_all}
use Rattle.std.proofs.lemmas.Bool.{and_parts}
use Rattle.std.proofs.lemmas.Bool.Decides.{nat_tests}
use Rattle.std.proofs.lemmas.List.Sums.{sum_by-cons}
use Rattle.std.proofs.lemmas.List.Elements.{All-contains, All-cons}
use Rattle.std.proofs.lemmas.Slice.Eq.{bytes_eq-Decides}
use Rattle.hx_base.specs.Runtime.{lookup}
use Rattle.hx_runtime.specs.Functions.{is_reserved, runtime_names}
use Rattle.hx_runtime.specs.declared.runtime.RuntimeFunction.{RuntimeFunction}
use Rattle.flat_code.specs.declared.program.FlatFn.{FlatFn}
use Rattle.flat_code.specs.declared.program.FlatProgram.{FlatProgram}
use Rattle.flat_code.specs.Evaluation.{function_named}
use Rattle.flat_code.specs.WellFormed.{is_function_right, is_symbol, is_identifier, how_many}
use Rattle.flat_laws.specs.Names.{RuntimeIsNotTaken, FunctionsAreFound}

-- ---- names of the runtime

-- each name of a list is reserved
reserved_names : List (List ℕ × RuntimeFunction) → Type 0
reserved_names [] = Unit {0}
reserved_names (x ∷ xs) = (is_reserved x.0 ≡ true) × reserved_names xs

all_reserved : reserved_names runtime_names
unfolding reserved_names
all_reserved = (refl, (refl, (refl, (refl, (refl, (refl, (refl, (refl, (refl, (refl, (refl, tt)))))))))))

found_reserved : (xs : List (List ℕ × RuntimeFunction)) (name : List ℕ) (g : RuntimeFunction) → reserved_names xs →
    lookup name xs ≡ Some g → is_reserved name ≡ true
unfolding reserved_names
found_reserved [] name g h e = absurd (let x : None ≡ Some g = e in cc)
found_reserved (x ∷ xs) name g h e = pick (bytes_eq x.0 name) refl (found_reserved xs name g h.1)
  where
    pick : (b : Bool) → bytes_eq x.0 name ≡ b → (lookup name xs ≡ Some g → is_reserved name ≡ true) → is_reserved name ≡ true
    pick true i on = subst (λ (n : List ℕ). is_reserved n ≡ true) ((bytes_eq-Decides x.0 name).0 i) h.0
    pick false i on = on (rw i at e)

-- a function that is right has no reserved name
not_reserved : (p : FlatProgram) (f : FlatFn) → is_function_right p f ≡ true → is_reserved f.name ≡ false
not_reserved p f h =
    pick (is_reserved f.name) refl (and_parts (is_identifier f.name) (not (is_reserved f.name)) (and_parts (is_symbol f.name) _ h).0).1
  where
    pick : (b : Bool) → is_reserved f.name ≡ b → not (is_reserved f.name) ≡ true → is_reserved f.name ≡ false
    pick true e n = absurd (let x = rw e at n in cc)
    pick false e n = e

-- so a reserved name is none of such functions'
none_named : (p : FlatProgram) (fs : List FlatFn) (name : List ℕ) → list_all (is_function_right p) fs ≡ true →
    is_reserved name ≡ true → function_named fs name ≡ None
none_named p [] name h r = refl
none_named p (f ∷ fs) name h r =
    let parts = and_parts (is_function_right p f) (list_all (is_function_right p) fs) h in
    pick (bytes_eq f.name name) refl (not_reserved p f parts.0) (none_named p fs name parts.1 r)
  where
    pick : (b : Bool) → bytes_eq f.name name ≡ b → is_reserved f.name ≡ false → function_named fs name ≡ None →
        function_named (f ∷ fs) name ≡ None
    pick true e n on =
        let same : f.name ≡ name = (bytes_eq-Decides f.name name).0 e in
        absurd (let x : is_reserved name ≡ false = subst (λ (m : List ℕ). is_reserved m ≡ false) same n in cc)
    pick false e n on = rw e on

pub runtime_is_not_taken : RuntimeIsNotTaken
runtime_is_not_taken p name g w e =
    none_named p p.functions name w.functions (found_reserved runtime_names name g all_reserved e)

-- ---- names of functions

-- how many functions of a list have a name
abbrev named : List FlatFn → List ℕ → ℕ
named fs name = count_by (λ (f : FlatFn). bytes_eq f.name name) fs

-- one that is there is counted
counted : (fs : List FlatFn) (name : List ℕ) (f : FlatFn) (k : ℕ) → k < length fs → slice_index_or fs k f ≡ f → f.name ≡ name →
    1 ≤ named fs name
counted [] name f k l e i = absurd (omega arith)
counted (g ∷ gs) name f zero l e i =
    let same : g ≡ f = e in
    let b : bytes_eq g.name name ≡ true = (bytes_eq-Decides g.name name).1 (ap (λ (x : FlatFn). x.name) same ∙ i) in
    let c = sum_by-cons (λ (x : FlatFn). if bytes_eq x.name name then 1 else 0) g gs in
    rw (c, b) (omega arith)
counted (g ∷ gs) name f (suc k) l e i =
    let c = sum_by-cons (λ (x : FlatFn). if bytes_eq x.name name then 1 else 0) g gs in
    let on = counted gs name f k (omega arith) e i in
    rw c (omega (arith, on))

-- where one alone has a name, it is the first that has it
found : (fs : List FlatFn) (name : List ℕ) (f : FlatFn) (k : ℕ) → k < length fs → slice_index_or fs k f ≡ f → f.name ≡ name →
    named fs name ≤ 1 → function_named fs name ≡ Some f
found [] name f k l e i few = absurd (omega arith)
found (g ∷ gs) name f zero l e i few =
    let same : g ≡ f = e in
    let b : bytes_eq g.name name ≡ true = (bytes_eq-Decides g.name name).1 (ap (λ (x : FlatFn). x.name) same ∙ i) in
    rw b (ap Some same)
found (g ∷ gs) name f (suc k) l e i few =
    pick (bytes_eq g.name name) refl (found gs name f k (omega arith) e i) (counted gs name f k (omega arith) e i)
  where
    sum : (if bytes_eq g.name name then 1 else 0) + named gs name ≤ 1
    sum = subst (λ (n : ℕ). n ≤ 1) (sum_by-cons (λ (x : FlatFn). if bytes_eq x.name name then 1 else 0) g gs) few

    pick : (b : Bool) → bytes_eq g.name name ≡ b → (named gs name ≤ 1 → function_named gs name ≡ Some f) → 1 ≤ named gs name →
        function_named (g ∷ gs) name ≡ Some f
    pick true b on c = absurd (let s : 1 + named gs name ≤ 1 = rw b at sum in omega (arith, s, c))
    pick false b on c = let s : 0 + named gs name ≤ 1 = rw b at sum in rw b (on (omega (arith, s)))

one_alone : (p : FlatProgram) (f : FlatFn) → (how_many p f.name == 1) ≡ true → named p.functions f.name ≤ 1
one_alone p f e = let s : how_many p f.name ≡ 1 = grind (arith, nat_tests) in omega (arith, s)

each_differs : (p : FlatProgram) (fs : List FlatFn) → list_all (λ (f : FlatFn). how_many p f.name == 1) fs ≡ true →
    All (λ (f : FlatFn). named p.functions f.name ≤ 1) fs
each_differs p [] h = search rules
each_differs p (f ∷ fs) h =
    let parts = and_parts (how_many p f.name == 1) (list_all (λ (g : FlatFn). how_many p g.name == 1) fs) h in
    All-cons (λ (g : FlatFn). named p.functions g.name ≤ 1) f fs (one_alone p f parts.0) (each_differs p fs parts.1)

pub functions_are_found : FunctionsAreFound
functions_are_found p f w h =
    let each = each_differs p p.functions w.functions_differ in
    found p.functions f.name f h.0 h.1 h.2 refl (All-contains (λ (g : FlatFn). named p.functions g.name ≤ 1) p.functions f each h)
