-- A body with a deferred expression, and one in which it was copied by hand to the two exits that run it. Bindings of both are numbered by
-- place, so that each copy has its own, and its paths have those numbers.
use Rattle.std.proofs.Common.{◌≡◌, ℕ, List, [], ◌∷◌, codes, refl, rules}
use Rattle.hare_tree.specs.declared.kind.Kind.TheVariants as kind
use Rattle.hare_typed.specs.Cells.{byte_cells}
use Rattle.hare_typed.specs.Typed.{TypedNode}
use Rattle.hare_typed.specs.State.{Exit}
use Rattle.hare_meaning.specs.Settled.{IsSettledFunction}
use Rattle.hare_meaning.proofs.Samples.{void, bool, u8}
use Rattle.hare_meaning.proofs.Trees.{known, labelled, node, absent, n8, yes, no, local, global, set, bind, block, giving, later, when, hand, call, exit, main, function, outcome, program, plus, times}

-- `let x = g; g = x + 1;`, where x has this number
abbrev counted_up : ℕ → TypedNode
counted_up x = block (bind (global 2 u8) ∷ set (global 2 u8) (plus (local x u8) (n8 1)) ∷ [])

-- `{ defer { let x = g; g = x + 1; }; if (c) yield 7; g = 3; yield 8; }`, where c is binding 0 and x is 1
abbrev deferred : TypedNode
deferred =
    giving u8
    (later (counted_up 1) ∷ when (local 0 bool) (hand (n8 7)) absent ∷ set (global 2 u8) (n8 3) ∷ hand (n8 8) ∷ [])

-- gives a value to the block, whatever block stands between
abbrev out : TypedNode → TypedNode
out v = labelled (codes "out") (hand v)

-- The value of each exit is bound, by 1 and by 3, and behind it stands a copy, whose x is 2 and 4.
abbrev copied : TypedNode
copied =
    labelled (codes "out")
    (giving u8
    (when (local 0 bool) (block (bind (n8 7) ∷ counted_up 2 ∷ out (local 1 u8) ∷ [])) absent
    ∷ set (global 2 u8) (n8 3) ∷ bind (n8 8) ∷ counted_up 4 ∷ out (local 3 u8) ∷ []))

-- `exit(f(c) * 16 + g)`
abbrev tells : TypedNode → TypedNode → List TypedNode
tells c body =
    main (bind (call 1 u8 (c ∷ [])) ∷ exit (plus (times (local 0 u8) (n8 16)) (global 2 u8)) ∷ [])
    ∷ function (bool ∷ []) u8 body
    ∷ node kind.GlobalLet [] 0 void (absent ∷ absent ∷ absent ∷ known (byte_cells (5 ∷ [])) (n8 5) ∷ [])
    ∷ []

-- 7 and 6
deferred_first : outcome (tells yes deferred) 1 ≡ Exit 118
deferred_first = refl

copied_first : outcome (tells yes copied) 1 ≡ Exit 118
copied_first = refl

-- 8 and 4
deferred_second : outcome (tells no deferred) 1 ≡ Exit 132
deferred_second = refl

copied_second : outcome (tells no copied) 1 ≡ Exit 132
copied_second = refl

deferred_settled : IsSettledFunction (program (tells yes deferred)) 1
deferred_settled = search rules

copied_settled : IsSettledFunction (program (tells yes copied)) 1
copied_settled = search rules
