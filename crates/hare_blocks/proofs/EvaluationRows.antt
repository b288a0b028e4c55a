-- Worked runs of programs.
use Rattle.std.proofs.Common.{◌≡◌, [], codes, refl}
use Rattle.hare_blocks.specs.Trees.{Expr, Factor, sum_of, no_term, plus, minus, product_of, no_factor, times, number, arg_count, variable, less, greater, Condition, always, compares, Statement, declares, assigns, chooses, chooses_one, repeats, puts, exits, nothing, first, Program, block_of}
use Rattle.hare_blocks.specs.Evaluation.{Exit, Spent, run}

-- an expression of one factor, of two added, and of two multiplied
abbrev one : Factor → Expr
one f = sum_of (product_of f no_factor) no_term

abbrev added : Factor → Factor → Expr
added a b = sum_of (product_of a no_factor) (plus (product_of b no_factor) no_term)

abbrev multiplied : Factor → Factor → Expr
multiplied a b = sum_of (product_of a (times b no_factor)) no_term

abbrev i : Factor
i = variable (codes "i")

abbrev j : Factor
j = variable (codes "j")

-- i = i + 1z
abbrev counts : Statement
counts = assigns (codes "i") (added i (number 1))

abbrev below : Factor → Factor → Condition
below a b = compares (one a) less (one b)

-- let i = 0z; for (i < rt::nargs()) { rt::puts("ab"); i = i + 1z; }; rt::exit((i * 2z): u8);
abbrev puts_each : Program
puts_each = block_of (first (declares (codes "i") (one (number 0)))
    (first (repeats (below i arg_count) (first (puts (codes "ab")) (first counts nothing)))
    (first (exits (multiplied i (number 2))) nothing)))

-- three arguments: it needs four turns, one of which only tests
row_puts_each : run 3 puts_each 4 ≡ (Exit 6, codes "ababab")
row_puts_each = refl

row_three_turns : run 3 puts_each 3 ≡ (Spent, codes "ababab")
row_three_turns = refl

row_one_turn : run 3 puts_each 1 ≡ (Spent, codes "ab")
row_one_turn = refl

row_no_arguments : run 0 puts_each 1 ≡ (Exit 0, [])
row_no_arguments = refl

-- for (true) { rt::puts("x"); };
row_without_end : run 0 (block_of (first (repeats always (first (puts (codes "x")) nothing)) nothing)) 5 ≡ (Spent, codes "xxxxx")
row_without_end = refl

row_no_turn : run 0 (block_of (first (repeats always (first (puts (codes "x")) nothing)) nothing)) 0 ≡ (Spent, [])
row_no_turn = refl

-- { }
row_empty : run 0 (block_of nothing) 0 ≡ (Exit 0, [])
row_empty = refl

-- let i = 1z; if (true) { let i = 2z; i = 3z; }; rt::exit((i): u8);
row_shadowed : run 0 (block_of (first (declares (codes "i") (one (number 1)))
    (first (chooses always (first (declares (codes "i") (one (number 2))) (first (assigns (codes "i") (one (number 3))) nothing)))
    (first (exits (one i)) nothing)))) 0 ≡ (Exit 1, [])
row_shadowed = refl

-- let i = 1z; if (true) { i = 3z; }; rt::exit((i): u8);
row_outer : run 0 (block_of (first (declares (codes "i") (one (number 1)))
    (first (chooses always (first (assigns (codes "i") (one (number 3))) nothing)) (first (exits (one i)) nothing)))) 0 ≡ (Exit 3, [])
row_outer = refl

-- let i = 5z; let i = i + 1z; rt::exit((i): u8);
row_declared_again : run 0 (block_of (first (declares (codes "i") (one (number 5)))
    (first (declares (codes "i") (added i (number 1))) (first (exits (one i)) nothing)))) 0 ≡ (Exit 6, [])
row_declared_again = refl

-- if (1z < 0z) { rt::puts("then"); } else { rt::puts("else"); };
row_else : run 0 (block_of (first (chooses_one (below (number 1) (number 0)) (first (puts (codes "then")) nothing)
    (first (puts (codes "else")) nothing)) nothing)) 0 ≡ (Exit 0, codes "else")
row_else = refl

-- if (0z < 1z) { rt::puts("then"); } else { rt::puts("else"); };
row_then : run 0 (block_of (first (chooses_one (below (number 0) (number 1)) (first (puts (codes "then")) nothing)
    (first (puts (codes "else")) nothing)) nothing)) 0 ≡ (Exit 0, codes "then")
row_then = refl

-- if (0z - 1z > 1z) { rt::exit((255z + 2z): u8); };
row_wraps : run 0 (block_of (first (chooses (compares
    (sum_of (product_of (number 0) no_factor) (minus (product_of (number 1) no_factor) no_term)) greater (one (number 1)))
    (first (exits (added (number 255) (number 2))) nothing)) nothing)) 0 ≡ (Exit 1, [])
row_wraps = refl

-- let i = 0z; for (i < 2z) { let j = 0z; for (j < 2z) { rt::puts("*"); j = j + 1z; }; rt::puts("|"); i = i + 1z; };
abbrev rows_of_stars : Program
rows_of_stars = block_of (first (declares (codes "i") (one (number 0)))
    (first (repeats (below i (number 2)) (first (declares (codes "j") (one (number 0)))
    (first (repeats (below j (number 2)) (first (puts (codes "*")) (first (assigns (codes "j") (added j (number 1))) nothing)))
    (first (puts (codes "|")) (first counts nothing))))) nothing))

-- the second turn of the outer loop and the turns within it stand in the first one's place: five turns are enough
row_nested : run 0 rows_of_stars 5 ≡ (Exit 0, codes "**|**|")
row_nested = refl

row_nested_spent : run 0 rows_of_stars 3 ≡ (Spent, codes "**")
row_nested_spent = refl
