-- Rows of blocks, of what is deferred in them, and of the jumps that leave them.
use Rattle.std.proofs.Common.{◌≡◌, [], ◌∷◌, codes, refl}
use Rattle.hare_tree.specs.declared.kind.Kind.TheVariants as kind
use Rattle.hare_typed.specs.Typed.{TypedNode}
use Rattle.hare_typed.specs.State.{Exit, Undefined}
use Rattle.hare_meaning.proofs.Samples.{void, never, bool, u8, int, byte_pointer, failure, void_or_failure, bad, bool_or_bad}
use Rattle.hare_meaning.proofs.Trees.{place, at, to, either, absent, node, one, main, function, call, puts, later, block, giving, labelled, outcome, output, ends, shows, exit, bind, local, hand, set, leave, again, give, loop, yes, no, n8, num, plus, times, type_node}

-- ---- blocks

nothing : outcome (main [] ∷ []) 0 ≡ Exit 0
nothing = refl

statements_in_order : shows (puts 0 (codes "a") ∷ puts 1 (codes "b") ∷ []) 0 ≡ codes "ab"
statements_in_order = refl

-- a block gives what is yielded to it, and what stands behind does not run
yielded : ends (exit (giving u8 (hand (n8 7) ∷ exit (n8 8) ∷ [])) ∷ []) 0 ≡ Exit 7
yielded = refl

-- a yield with a label leaves the blocks between
yielded_by_label : ends (exit (labelled (codes "a") (giving u8 (giving u8 (labelled (codes "a") (hand (n8 7)) ∷ []) ∷ hand (n8 8)
    ∷ []))) ∷ []) 0 ≡ Exit 7
yielded_by_label = refl

yielded_to_the_nearest : ends (exit (labelled (codes "a") (giving u8 (giving u8 (hand (n8 7) ∷ []) ∷ hand (n8 8) ∷ []))) ∷ []) 0 ≡ Exit 8
yielded_to_the_nearest = refl

-- a binding is seen behind it, and an inner one of its name is another
inner_binding : ends (bind (n8 1) ∷ block (bind (n8 2) ∷ set (local 1 u8) (n8 3) ∷ []) ∷ exit (local 0 u8) ∷ []) 0 ≡ Exit 1
inner_binding = refl

outer_binding : ends (bind (n8 1) ∷ block (set (local 0 u8) (n8 3) ∷ []) ∷ exit (local 0 u8) ∷ []) 0 ≡ Exit 3
outer_binding = refl

-- ---- deferred expressions

last_first : shows (later (puts 0 (codes "a")) ∷ later (puts 1 (codes "b")) ∷ puts 2 (codes "c") ∷ []) 0 ≡ codes "cba"
last_first = refl

at_the_end : shows (block (later (puts 0 (codes "a")) ∷ puts 1 (codes "b") ∷ []) ∷ puts 2 (codes "c") ∷ []) 0 ≡ codes "bac"
at_the_end = refl

by_yield : shows (giving void (later (puts 0 (codes "a")) ∷ node kind.Yield [] 0 never (absent ∷ []) ∷ puts 1 (codes "b") ∷ []) ∷ []) 0
    ≡ codes "a"
by_yield = refl

by_break : shows (loop absent yes absent (block (later (puts 0 (codes "a")) ∷ leave ∷ [])) ∷ puts 1 (codes "b") ∷ []) 1 ≡ codes "ab"
by_break = refl

by_continue : shows (bind no ∷ loop absent (node kind.Bang [] 0 2 (local 0 2 ∷ [])) absent
    (block (later (puts 0 (codes "a")) ∷ set (local 0 2) yes ∷ again ∷ puts 1 (codes "b") ∷ [])) ∷ []) 2 ≡ codes "a"
by_continue = refl

by_return : shows (block (later (puts 0 (codes "a")) ∷ give absent ∷ []) ∷ puts 1 (codes "b") ∷ []) 0 ≡ codes "a"
by_return = refl

-- a returned error runs what is deferred in both blocks, the inner first
by_try : output
    (main (one kind.Force void (call 1 void_or_failure []) ∷ [])
    ∷ function [] void_or_failure
    (giving void_or_failure (later (puts 0 (codes "a"))
    ∷ block (later (puts 1 (codes "b"))
    ∷ one kind.Try void (to 9 void_or_failure (node kind.Cast [] 0 failure (node kind.Void [] 0 void [] ∷ type_node failure ∷ [])))
    ∷ puts 2 (codes "c") ∷ [])
    ∷ puts 3 (codes "d") ∷ []))
    ∷ []) 1 ≡ codes "ba"
by_try = refl

-- what was not reached does not run
not_reached : shows (block (later (puts 0 (codes "a")) ∷ give absent ∷ later (puts 1 (codes "b")) ∷ []) ∷ []) 0 ≡ codes "a"
not_reached = refl

-- the value that is handed on was computed before
value_before : ends (bind (n8 1) ∷ bind (giving u8 (later (set (local 0 u8) (n8 2)) ∷ hand (local 0 u8) ∷ []))
    ∷ exit (plus (times (local 1 u8) (n8 16)) (local 0 u8)) ∷ []) 0 ≡ Exit 18
value_before = refl

returned_before : outcome
    (main (exit (call 1 u8 []) ∷ [])
    ∷ function [] u8 (giving u8 (bind (n8 1) ∷ later (set (local 0 u8) (n8 2)) ∷ give (local 0 u8) ∷ [])) ∷ []) 1 ≡ Exit 1
returned_before = refl

-- so it is of an error that is returned: what is deferred makes a value of it, too late
returned_error_before : outcome
    (main (exit (either u8 (node kind.Is [] 0 bool (call 1 bool_or_bad [] ∷ type_node bool ∷ [])) (n8 1) (n8 2)) ∷ [])
    ∷ function [] bool_or_bad (giving bool_or_bad (bind (to 9 bool_or_bad (node kind.Cast [] 0 bad (num int 5 ∷ type_node bad ∷ [])))
    ∷ later (set (local 0 bool_or_bad) (to 9 bool_or_bad yes)) ∷ one kind.Try bool (local 0 bool_or_bad)
    ∷ hand (to 9 bool_or_bad yes) ∷ [])) ∷ []) 1 ≡ Exit 2
returned_error_before = refl

-- an exit, an abort and an undefined act run none
none_by_exit : shows (later (puts 0 (codes "a")) ∷ exit (n8 1) ∷ []) 0 ≡ []
none_by_exit = refl

none_by_abort : shows (later (puts 0 (codes "a")) ∷ node kind.Abort [] 0 never (absent ∷ []) ∷ []) 0 ≡ []
none_by_abort = refl

none_by_an_undefined_act : shows (later (puts 0 (codes "a"))
    ∷ one kind.Deref u8 (giving byte_pointer (bind (n8 2) ∷ hand (one kind.Addr byte_pointer (local 0 u8)) ∷ [])) ∷ []) 0 ≡ []
none_by_an_undefined_act = refl

-- one that ends the program does so, and those left do not run
exit_in_deferred : ends (later (exit (n8 1)) ∷ later (exit (n8 2)) ∷ []) 0 ≡ Exit 2
exit_in_deferred = refl

-- each runs in a scope of its own: what is bound in it is gone
scope_of_deferred : ends (bind (n8 5) ∷ later (block (bind (n8 6) ∷ exit (local 1 u8) ∷ [])) ∷ []) 0 ≡ Exit 6
scope_of_deferred = refl

-- it sees what was bound where it stands
names_of_deferred : ends (bind (n8 5) ∷ later (exit (local 0 u8)) ∷ bind (n8 6) ∷ []) 0 ≡ Exit 5
names_of_deferred = refl

-- ---- void that stands in no node

-- it is coerced where it arrives: here to a member of a union

abbrev is_void : TypedNode → TypedNode
is_void e = exit (either u8 (node kind.Is [] 0 bool (e ∷ type_node void ∷ [])) (n8 1) (n8 2))

end_as_a_member : ends (is_void (giving void_or_failure []) ∷ []) 0 ≡ Exit 1
end_as_a_member = refl

yield_as_a_member : ends (is_void (giving void_or_failure (hand absent ∷ [])) ∷ []) 0 ≡ Exit 1
yield_as_a_member = refl

end_of_a_case_as_a_member : ends (is_void (node kind.Match [] 0 void_or_failure (giving void_or_failure []
    ∷ node kind.Case [] 0 void_or_failure (absent ∷ []) ∷ [])) ∷ []) 0 ≡ Exit 1
end_of_a_case_as_a_member = refl

return_as_a_member : outcome
    (main (is_void (call 1 void_or_failure []) ∷ [])
    ∷ function [] void_or_failure (to 2 void_or_failure (node kind.Block [] 0 never (give absent ∷ []))) ∷ []) 1 ≡ Exit 1
return_as_a_member = refl

-- ---- the end of a scope

-- an object dies with its block
dead_behind_its_block : ends (bind (one kind.Addr byte_pointer (giving u8 (hand (n8 1) ∷ [])))
    ∷ block (bind (n8 2) ∷ set (local 0 byte_pointer) (one kind.Addr byte_pointer (local 1 u8)) ∷ [])
    ∷ exit (at 7 (one kind.Deref u8 (local 0 byte_pointer))) ∷ []) 0 ≡ Undefined 1 (place 7)
dead_behind_its_block = refl

-- a value that is used as a place lives as long as the scope round it
value_as_a_place : ends (bind (one kind.Addr byte_pointer (giving u8 (hand (n8 9) ∷ [])))
    ∷ exit (one kind.Deref u8 (local 0 byte_pointer)) ∷ []) 0 ≡ Exit 9
value_as_a_place = refl

-- the object that a block's value leads to is dead behind it
value_that_leads_within : ends (exit (at 7 (one kind.Deref u8 (giving byte_pointer (bind (n8 2)
    ∷ hand (one kind.Addr byte_pointer (local 0 u8)) ∷ [])))) ∷ []) 0
    ≡ Undefined 1 (place 7)
value_that_leads_within = refl
