-- Dependence, circles and orders of small programs, worked out by hand.
use Rattle.std.proofs.Common.{◌≡◌, ℕ, List, [], ◌∷◌, refl, arith}
use Rattle.std.specs.Prelude.{Contains}
use Rattle.hare_depends.specs.declared.said.Said.{Said}
use Rattle.hare_depends.specs.declared.said.Sort.TheVariants as so
use Rattle.hare_depends.specs.Dependence.{needs, types_named, by_name, needed, mentioned, LeadsTo, at_once, further}
use Rattle.hare_depends.specs.Circles.{IsCircleFault, of_constant}
use Rattle.hare_depends.proofs.Samples.{at, says}
use Rattle.hare_graph.proofs.Elements.{Contains-here}

-- the only element of a list
one : (x : ℕ) → Contains (x ∷ []) x
one x = Contains-here x []

-- ---- `def a: int = b; def b: int = a;`: E23 at the `a`

abbrev two_defs : List Said
two_defs = says so.Constant 5 [] (1 ∷ []) [] ∷ says so.Constant 21 [] (0 ∷ []) [] ∷ []

two_defs_circle : LeadsTo two_defs 0 0
two_defs_circle = further 1 0 (at_once 1 (needed 1 (one 1))) (needed 0 (one 0))

two_defs_fault : IsCircleFault two_defs (record { number = 23; place = at 5 })
two_defs_fault = record {
  decl = 0;
  said = says so.Constant 5 [] (1 ∷ []) [];
  is_there = refl;
  circular = two_defs_circle;
  first = λ e l. absurd (omega arith);
  number = of_constant (0, refl, two_defs_circle, two_defs_circle);
  place = refl;
}

-- ---- `def n: size = size(t); type t = struct { p: *u }; type u = [n]int;`: what is mentioned behind a pointer counts for a value, so E23
-- at the `n`

abbrev behind_pointer : List Said
behind_pointer = says so.Constant 5 [] (1 ∷ []) [] ∷ says so.Type 30 [] (2 ∷ []) [] ∷ says so.Type 60 (0 ∷ []) (0 ∷ []) [] ∷ []

behind_pointer_circle : LeadsTo behind_pointer 0 0
behind_pointer_circle = further 2 0 (at_once 2 (mentioned 1 2 refl (one 1) (by_name 2 (one 2)))) (needed 0 (one 0))

behind_pointer_fault : IsCircleFault behind_pointer (record { number = 23; place = at 5 })
behind_pointer_fault = record {
  decl = 0;
  said = says so.Constant 5 [] (1 ∷ []) [];
  is_there = refl;
  circular = behind_pointer_circle;
  first = λ e l. absurd (omega arith);
  number = of_constant (0, refl, behind_pointer_circle, behind_pointer_circle);
  place = refl;
}

-- ---- globals with types that point at each other need nothing of one another

abbrev two_globals : List Said
two_globals = says so.Global 5 [] (1 ∷ []) [] ∷ says so.Global 25 [] (0 ∷ []) [] ∷ []

two_globals_need : (needs two_globals 0 ≡ []) × (needs two_globals 1 ≡ [])
two_globals_need = (refl, refl)

-- ---- a global with a type needs what the type of one that it names names, and not that global

abbrev looked_through : List Said
looked_through = says so.Global 5 [] (1 ∷ 3 ∷ []) [] ∷ says so.Global 25 [] (2 ∷ 3 ∷ []) (2 ∷ []) ∷ says so.Type 40 [] [] [] ∷ says
    so.Constant 60 [] [] [] ∷ []

looked_through_needs : needs looked_through 0 ≡ 2 ∷ 3 ∷ []
looked_through_needs = refl

-- a def needs the global itself
abbrev def_of_global : List Said
def_of_global = says so.Constant 5 [] (1 ∷ []) [] ∷ says so.Global 25 [] [] [] ∷ []

def_of_global_needs : needs def_of_global 0 ≡ 1 ∷ []
def_of_global_needs = refl

-- ---- a type and a signature need what they hold, and only types are mentioned

abbrev held : List Said
held = says so.Type 5 (1 ∷ []) (1 ∷ 2 ∷ 3 ∷ []) [] ∷ says so.Type 25 [] [] [] ∷ says so.Constant 40 [] [] [] ∷ says so.Type 60 [] [] [] ∷ []

held_needs : needs held 0 ≡ 1 ∷ []
held_needs = refl

held_mentions : types_named held 0 ≡ 1 ∷ 3 ∷ []
held_mentions = refl

-- past the last nothing is needed
past_needs : needs held 4 ≡ []
past_needs = refl
