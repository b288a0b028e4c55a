-- Ways of kids side by side that are put behind others.
use Rattle.std.proofs.Common.{◌≡◌, ℕ, ◌+◌, ◌<◌, List, ◌++◌, length, refl, ap, sym, ◌∙◌, arith, length-append}
use Rattle.std.proofs.lemmas.List.{append-nil}
use Rattle.hare_tree.specs.declared.kind.Kind.{Kind}
use Rattle.hare_tree.specs.declared.form.Lead.{Lead}
use Rattle.hare_tree.specs.declared.form.Lead.TheVariants as le
use Rattle.hare_tree.specs.declared.form.Sign.TheVariants as si
use Rattle.hare_tree.specs.Node.{Node, Nodes, none, more}
use Rattle.hare_tree.specs.Judged.{nodes_from}
use Rattle.hare_ways.specs.declared.way.Start.{Start}
use Rattle.hare_ways.specs.declared.way.Way.{Way}
use Rattle.hare_ways.specs.Walk.{at_depth, first_ways, row_ways, listed_walk}
use Rattle.hare_ways.proofs.Depths.{length-at_depth}
use Rattle.hare_ways.proofs.Puts.{length-put, put-left, put-two, room-first}

pub length-all : (d : ℕ) (out ws : List Way) → length (out ++ at_depth d ws) ≡ length out + length ws
length-all d out ws = omega (arith, length-append out (at_depth d ws), length-at_depth d ws)

-- ---- all kids

-- the first, and those behind it
row-first : (cs : List ℕ) (k : Kind) (s : Start) (l : Lead) (n : ℕ) (us : Nodes) (t : Node) (ts : Nodes) → us ≡ more t ts
    → row_ways cs k s l n us ≡ first_ways cs k s l n us ++ row_ways cs k s l (n + length (first_ways cs k s l n us)) ts
row-first cs k s l n us t ts e = rw e refl

pub row-room : (cs : List ℕ) (k : Kind) (s : Start) (l : Lead) (d m : ℕ) (out all : List Way) (us : Nodes) (t : Node) (ts : Nodes)
    → us ≡ more t ts → out ++ at_depth d (row_ways cs k s l (length out) us) ≡ all → length all < m
    → length out + length (first_ways cs k s l (length out) us) < m
row-room cs k s l d m out all us t ts e i h =
    room-first d m out (first_ways cs k s l (length out) us)
    (row_ways cs k s l (length out + length (first_ways cs k s l (length out) us)) ts) all
    (ap (λ ws. out ++ at_depth d ws) (sym (row-first cs k s l (length out) us t ts e)) ∙ i) h

pub row-next : (cs : List ℕ) (k : Kind) (s : Start) (l : Lead) (d : ℕ) (out out' all : List Way) (us : Nodes) (t : Node) (ts : Nodes)
    → us ≡ more t ts → out' ≡ out ++ at_depth d (first_ways cs k s l (length out) us)
    → out ++ at_depth d (row_ways cs k s l (length out) us) ≡ all → out' ++ at_depth d (row_ways cs k s l (length out') ts) ≡ all
row-next cs k s l d out out' all us t ts e p i =
    let here = first_ways cs k s l (length out) us in
    ap (λ m. out' ++ at_depth d (row_ways cs k s l m ts)) (length-put d out out' here p)
    ∙ put-left d out out' here (row_ways cs k s l (length out + length here) ts) all p
    (ap (λ ws. out ++ at_depth d ws) (sym (row-first cs k s l (length out) us t ts e)) ∙ i)

pub row-end : (cs : List ℕ) (k : Kind) (s : Start) (l : Lead) (d : ℕ) (out all : List Way) (us : Nodes) → us ≡ none
    → out ++ at_depth d (row_ways cs k s l (length out) us) ≡ all → out ≡ all
row-end cs k s l d out all us e i = sym (append-nil out) ∙ ap (λ vs. out ++ at_depth d (row_ways cs k s l (length out) vs)) (sym e) ∙ i

-- ---- a list

pub listed-room : (cs : List ℕ) (k : Kind) (s : Start) (m : ℕ) (out : List Way) (us : Nodes)
    → length out + length (listed_walk cs k s (length out) us) < m → length out + length (first_ways cs k s le.Nothing (length out) us) < m
listed-room cs k s m out us h =
    omega (
      arith,
      h,
      length-append (first_ways cs k s le.Nothing (length out) us)
          (row_ways cs k s (le.Before si.Comma) (length out + length (first_ways cs k s le.Nothing (length out) us)) (nodes_from 1 us)),
    )

pub listed-others : (cs : List ℕ) (k : Kind) (s : Start) (d m : ℕ) (out out' : List Way) (us ts : Nodes) → ts ≡ nodes_from 1 us
    → out' ≡ out ++ at_depth d (first_ways cs k s le.Nothing (length out) us)
    → length out + length (listed_walk cs k s (length out) us) < m
    → length out' + length (row_ways cs k s (le.Before si.Comma) (length out') ts) < m
listed-others cs k s d m out out' us ts e p h =
    let here = first_ways cs k s le.Nothing (length out) us in
    let many = length-put d out out' here p in
    let same : length (row_ways cs k s (le.Before si.Comma) (length out') ts)
    ≡ length (row_ways cs k s (le.Before si.Comma) (length out + length here) (nodes_from 1 us)) =
    ap (λ n. length (row_ways cs k s (le.Before si.Comma) n ts)) many
    ∙ ap (λ vs. length (row_ways cs k s (le.Before si.Comma) (length out + length here) vs)) e in
    omega (arith, h, many, same, length-append here (row_ways cs k s (le.Before si.Comma) (length out + length here) (nodes_from 1 us)))

pub listed-put : (cs : List ℕ) (k : Kind) (s : Start) (d : ℕ) (out one two : List Way) (us ts : Nodes) → ts ≡ nodes_from 1 us
    → one ≡ out ++ at_depth d (first_ways cs k s le.Nothing (length out) us)
    → two ≡ one ++ at_depth d (row_ways cs k s (le.Before si.Comma) (length one) ts)
    → two ≡ out ++ at_depth d (listed_walk cs k s (length out) us)
listed-put cs k s d out one two us ts e p q =
    let here = first_ways cs k s le.Nothing (length out) us in
    let many = length-put d out one here p in
    put-two d out one two here (row_ways cs k s (le.Before si.Comma) (length out + length here) (nodes_from 1 us)) p
    (q ∙ ap (λ n. one ++ at_depth d (row_ways cs k s (le.Before si.Comma) n ts)) many
    ∙ ap (λ vs. one ++ at_depth d (row_ways cs k s (le.Before si.Comma) (length out + length here) vs)) e)

pub listed-none : (cs : List ℕ) (k : Kind) (s : Start) (d : ℕ) (out : List Way) (us : Nodes) → us ≡ none
    → out ≡ out ++ at_depth d (listed_walk cs k s (length out) us)
listed-none cs k s d out us e = sym (append-nil out) ∙ ap (λ vs. out ++ at_depth d (listed_walk cs k s (length out) vs)) (sym e)
