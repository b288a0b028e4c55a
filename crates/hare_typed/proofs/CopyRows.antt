-- How often a call has copies that stands in a deferred expression, worked out.
use Rattle.std.proofs.Common.{◌≡◌, ℕ, List, [], ◌∷◌, Bool, true, false, codes, map, refl}
use Rattle.std.specs.Prelude.{filter}
use Rattle.hare_tree.specs.declared.kind.Kind.{Kind}
use Rattle.hare_tree.specs.declared.kind.Kind.TheVariants as kind
use Rattle.hare_typed.specs.Typed.{TypedNode}
use Rattle.hare_typed.specs.Numbers.{kind_of}
use Rattle.hare_typed.specs.Copies.{counted, copies_of}
use Rattle.hare_typed.proofs.ExampleTrees.{tree, at, call, when, defer, block, block_called, loop, loop_called, each, returning, trying, breaking, continuing, yielding, case, matching, switch_case, switching, param, function, bool}

abbrev is_call : Kind → Bool
is_call kind.Call = true
is_call _ = false

-- the copies of each call of a function with this body, in check order
abbrev calls : TypedNode → List ℕ
calls t = map (λ x. x.times) (filter (λ x. is_call (kind_of x.tree)) (counted (function (param bool ∷ []) t)))

-- the same of a block of these statements
abbrev in_block : List TypedNode → List ℕ
in_block ts = calls (block ts)

abbrev a : List ℕ
a = codes "a"

abbrev b : List ℕ
b = codes "b"

-- ---- one defer

-- `{ f(); }`
alone : in_block (call ∷ []) ≡ 1 ∷ []
alone = refl

-- `{ defer f(); }`: at the end of the block
at_the_end : in_block (defer call ∷ []) ≡ 1 ∷ []
at_the_end = refl

-- `{ defer f(); if (a) return; }`
at_a_return : in_block (defer call ∷ when returning ∷ []) ≡ 2 ∷ []
at_a_return = refl

-- `{ if (a) return; defer f(); }`: what stands before the defer runs nothing
behind_a_return : in_block (when returning ∷ defer call ∷ []) ≡ 1 ∷ []
behind_a_return = refl

-- `{ defer f(); x?; }`
at_a_try : in_block (defer call ∷ trying ∷ []) ≡ 2 ∷ []
at_a_try = refl

-- `{ defer f(); return; }`: the end counts, though it is not reached
end_not_reached : in_block (defer call ∷ returning ∷ []) ≡ 2 ∷ []
end_not_reached = refl

-- `{ defer f(); return; f(); }`: a call behind what leaves is one call
behind_what_leaves : in_block (defer call ∷ returning ∷ call ∷ []) ≡ 2 ∷ 1 ∷ []
behind_what_leaves = refl

-- `{ defer f(); if (a) return; if (a) return; x?; }`
at_each : in_block (defer call ∷ when returning ∷ when returning ∷ trying ∷ []) ≡ 4 ∷ []
at_each = refl

-- `{ defer f(); return x?; }`
try_in_a_return : in_block (defer call ∷ tree kind.Return bool (trying ∷ []) ∷ []) ≡ 3 ∷ []
try_in_a_return = refl

-- `{ f(); defer f(); f(); }`: what is not deferred has one copy
not_deferred : in_block (call ∷ defer call ∷ call ∷ []) ≡ 1 ∷ 1 ∷ 1 ∷ []
not_deferred = refl

-- ---- yields

-- `{ defer f(); yield; }`: a yield to the block itself leaves it
yield_to_the_block : in_block (defer call ∷ yielding [] ∷ []) ≡ 2 ∷ []
yield_to_the_block = refl

-- `{ defer f(); { yield; }; }`: a yield to a block inside does not
yield_inside : in_block (defer call ∷ block (yielding [] ∷ []) ∷ []) ≡ 1 ∷ []
yield_inside = refl

-- `:a { defer f(); { yield :a; }; }`
yield_by_label : calls (block_called a (defer call ∷ block (yielding a ∷ []) ∷ [])) ≡ 2 ∷ []
yield_by_label = refl

-- `:a { { defer f(); yield :a; }; }`: a yield to an outer block
yield_to_outer : calls (block_called a (block (defer call ∷ yielding a ∷ []) ∷ [])) ≡ 2 ∷ []
yield_to_outer = refl

-- `{ defer f(); :a { yield :a; }; }`
yield_to_inner_label : in_block (defer call ∷ block_called a (yielding a ∷ []) ∷ []) ≡ 1 ∷ []
yield_to_inner_label = refl

-- `:a { defer f(); :b { yield :a; }; }`: the label of another block is passed
yield_past_a_label : calls (block_called a (defer call ∷ block_called b (yielding a ∷ []) ∷ [])) ≡ 2 ∷ []
yield_past_a_label = refl

-- `{ defer f(); for (a) yield; }`: a loop is no block
yield_out_of_a_loop : in_block (defer call ∷ loop (yielding []) ∷ []) ≡ 2 ∷ []
yield_out_of_a_loop = refl

-- ---- breaks

-- `for (a) { defer f(); if (a) break; }`: out of the loop round it
break_out : calls (loop (block (defer call ∷ when (breaking []) ∷ []))) ≡ 2 ∷ []
break_out = refl

-- `for (a) { defer f(); if (a) continue; }`
continue_out : calls (loop (block (defer call ∷ when (continuing []) ∷ []))) ≡ 2 ∷ []
continue_out = refl

-- `{ defer f(); for (a) break; }`: a break of a loop inside
break_inside : in_block (defer call ∷ loop (breaking []) ∷ []) ≡ 1 ∷ []
break_inside = refl

-- `{ defer f(); for (let e .. x) continue; }`
continue_inside : in_block (defer call ∷ each (continuing []) ∷ []) ≡ 1 ∷ []
continue_inside = refl

-- `for :a (a) { defer f(); for (a) break :a; }`
break_by_label : calls (loop_called a (block (defer call ∷ loop (breaking a) ∷ []))) ≡ 2 ∷ []
break_by_label = refl

-- `{ defer f(); for :a (a) for (a) break :a; }`
break_to_inner_label : in_block (defer call ∷ loop_called a (loop (breaking a)) ∷ []) ≡ 1 ∷ []
break_to_inner_label = refl

-- `{ defer f(); for :a (a) { return; }; }`: a return leaves each loop
return_out_of_a_loop : in_block (defer call ∷ loop_called a (block (returning ∷ [])) ∷ []) ≡ 2 ∷ []
return_out_of_a_loop = refl

-- `for (a) { defer f(); :a { break; }; }`: a block stops no break
break_out_of_a_block : calls (loop (block (defer call ∷ block_called a (breaking [] ∷ []) ∷ []))) ≡ 2 ∷ []
break_out_of_a_block = refl

-- ---- cases

-- `match (x) { case => defer f(); }`: a case is a block
in_a_case : calls (matching (case (defer call ∷ []) ∷ [])) ≡ 1 ∷ []
in_a_case = refl

-- `match (x) { case => defer f(); yield; }`
yield_in_a_case : calls (matching (case (defer call ∷ yielding [] ∷ []) ∷ [])) ≡ 2 ∷ []
yield_in_a_case = refl

-- `switch (x) { case => defer f(); return; }`
return_in_a_switch : calls (switching (switch_case (defer call ∷ returning ∷ []) ∷ [])) ≡ 2 ∷ []
return_in_a_switch = refl

-- `{ defer f(); match (x) { case => yield; case => yield; }; }`: these go to their cases
yields_in_cases : in_block (defer call ∷ matching (case (yielding [] ∷ []) ∷ case (yielding [] ∷ []) ∷ []) ∷ []) ≡ 1 ∷ []
yields_in_cases = refl

-- `:a { defer f(); switch (x) { case => yield :a; }; }`: a case has no label
yield_out_of_a_case : calls (block_called a (defer call ∷ switching (switch_case (yielding a ∷ []) ∷ []) ∷ [])) ≡ 2 ∷ []
yield_out_of_a_case = refl

-- ---- defers within one another, and beside one another

-- `{ defer { defer f(); }; }`
defer_in_a_defer : in_block (defer (block (defer call ∷ [])) ∷ []) ≡ 1 ∷ []
defer_in_a_defer = refl

-- `{ defer { defer f(); if (a) yield; }; if (a) return; }`: twice in each of two
defers_multiply : in_block (defer (block (defer call ∷ when (yielding []) ∷ [])) ∷ when returning ∷ []) ≡ 4 ∷ []
defers_multiply = refl

-- `{ defer f(); defer f(); if (a) return; }`
two_defers : in_block (defer call ∷ defer call ∷ when returning ∷ []) ≡ 2 ∷ 2 ∷ []
two_defers = refl

-- `{ defer f(); if (a) return; defer f(); if (a) return; }`
defers_apart : in_block (defer call ∷ when returning ∷ defer call ∷ when returning ∷ []) ≡ 3 ∷ 2 ∷ []
defers_apart = refl

-- `{ defer f(); { defer f(); if (a) return; }; }`: the return leaves both blocks
two_blocks : in_block (defer call ∷ block (defer call ∷ when returning ∷ []) ∷ []) ≡ 2 ∷ 2 ∷ []
two_blocks = refl

-- `{ defer { if (a) yield; f(); }; if (a) return; }`: a yield in a deferred expression stays there
yield_in_a_defer : in_block (defer call ∷ defer (block (when (yielding []) ∷ call ∷ [])) ∷ when returning ∷ []) ≡ 2 ∷ 2 ∷ []
yield_in_a_defer = refl

-- ---- by number

-- the only node with the number 5 is the call
by_number : copies_of (function (param bool ∷ []) (block (defer (at 5 call) ∷ when returning ∷ []))) 5 ≡ 2
by_number = refl

-- a parameter has one copy
of_a_parameter : copies_of (function (at 9 (param bool) ∷ []) (block (defer call ∷ when returning ∷ []))) 9 ≡ 1
of_a_parameter = refl
