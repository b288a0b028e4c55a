-- The nodes among the trees under way that symbols bring to their end.
use Rattle.std.proofs.Math.Seq.{drop-length}
use Rattle.std.proofs.lemmas.List.{drop_more}
use Rattle.std.proofs.Common.{◌≡◌, ℕ, ◌+◌, ◌-◌, ◌<◌, ◌≤◌, List, [], ◌∷◌, ◌++◌, drop, length, get_or, Bool, true, false, refl, sym, ap, ◌∙◌}
use Rattle.std.proofs.Common.{append_assoc, append-nil, arith}
use Rattle.hare_tree.specs.declared.kind.Kind.{Kind}
use Rattle.hare_tree.specs.declared.form.Piece.{Piece}
use Rattle.hare_tree.specs.declared.form.Piece.TheVariants as pi
use Rattle.hare_tree.specs.Forms.{form_of}
use Rattle.hare_tree.specs.Depth.{is_node}
use Rattle.hare_automaton.specs.declared.rule.Symbol.{Symbol}
use Rattle.hare_automaton.specs.Rows.{symbols, rest_of}
use Rattle.hare_nesting.specs.Gauge.{nodes_of_symbol, nodes_in, opened}
use Rattle.hare_ll_table.specs.declared.row.Wait.{Wait}
use Rattle.hare_ll_table.specs.Seen.{symbols_in, waited}

-- no more are nodes than there are trees
pub opened_le : (bs : List Bool) → opened bs ≤ length bs
unfolding opened
opened_le [] = omega arith
opened_le (true ∷ bs) = let h = opened_le bs in omega arith
opened_le (false ∷ bs) = let h = opened_le bs in omega arith

pub nodes_in_append : (ss rs : List Symbol) → nodes_in (ss ++ rs) ≡ nodes_in ss ++ nodes_in rs
unfolding nodes_in
nodes_in_append [] rs = refl
nodes_in_append (s ∷ ss) rs = ap (λ l. nodes_of_symbol s ++ l) (nodes_in_append ss rs) ∙ sym
    (append_assoc (nodes_of_symbol s) (nodes_in ss) (nodes_in rs))

pub nodes_in_one : (s : Symbol) → nodes_in (s ∷ []) ≡ nodes_of_symbol s
unfolding nodes_in
nodes_in_one s = append-nil (nodes_of_symbol s)

-- the pieces of a form bring no tree to its end
nodes_in_pieces : (ps : List Piece) (st : List Symbol) → nodes_in (symbols ps ++ st) ≡ nodes_in st
unfolding nodes_in
nodes_in_pieces [] st = refl
nodes_in_pieces (pi.Fixed s ∷ ps) st = nodes_in_pieces ps st
nodes_in_pieces (pi.Own o ∷ ps) st = nodes_in_pieces ps st
nodes_in_pieces (pi.Kid s ∷ ps) st = nodes_in_pieces ps st
nodes_in_pieces (pi.Optional s ∷ ps) st = nodes_in_pieces ps st
nodes_in_pieces (pi.Led a s ∷ ps) st = nodes_in_pieces ps st
nodes_in_pieces (pi.Followed s a ∷ ps) st = nodes_in_pieces ps st
nodes_in_pieces (pi.Value s ∷ ps) st = nodes_in_pieces ps st
nodes_in_pieces (pi.Each s ∷ ps) st = nodes_in_pieces ps st
nodes_in_pieces (pi.EachLed a s ∷ ps) st = nodes_in_pieces ps st
nodes_in_pieces (pi.EachFollowed s a ∷ ps) st = nodes_in_pieces ps st
nodes_in_pieces (pi.More s ∷ ps) st = nodes_in_pieces ps st
nodes_in_pieces (pi.List s ∷ ps) st = nodes_in_pieces ps st
nodes_in_pieces (pi.Elements s ∷ ps) st = nodes_in_pieces ps st
nodes_in_pieces (pi.MoreElements s ∷ ps) st = nodes_in_pieces ps st

pub nodes_in_rest : (n : ℕ) (k : Kind) → nodes_in (rest_of n k) ≡ is_node k ∷ []
unfolding nodes_in
nodes_in_rest n k = nodes_in_pieces (drop n (form_of k)) _

-- ---- waits

pub nodes_in_none : (ws : List Wait) → nodes_in (waited (drop (length ws) ws)) ≡ []
unfolding nodes_in
nodes_in_none ws = ap (λ l. nodes_in (waited l)) (drop-length ws)

-- one more wait, in front of those behind it
nodes_in_more : (ws : List Wait) (n : ℕ) (d : Wait) → 0 < n → n ≤ length ws →
    nodes_in (waited (drop (n - 1) ws)) ≡ nodes_in (symbols_in (get_or ws (n - 1) d)) ++ nodes_in (waited (drop n ws))
nodes_in_more ws n d h w = more_of (n - 1) (omega arith) (omega arith) where
  more_of : (m : ℕ) → m < length ws → n ≡ m + 1 →
      nodes_in (waited (drop m ws)) ≡ nodes_in (symbols_in (get_or ws m d)) ++ nodes_in (waited (drop n ws))
  more_of m v e = rw e (ap (λ l. nodes_in (waited l)) (drop_more ws m d v) ∙ nodes_in_append (symbols_in (get_or ws m d))
      (waited (drop (m + 1) ws)))

-- behind the first symbol
pub nodes_in_next : (s : Symbol) (st : List Symbol) → drop (length (nodes_of_symbol s)) (nodes_in (s ∷ st)) ≡ nodes_in st
unfolding nodes_in
nodes_in_next s st = drop_front (nodes_of_symbol s) (nodes_in st) where
  drop_front : (bs cs : List Bool) → drop (length bs) (bs ++ cs) ≡ cs
  drop_front [] cs = refl
  drop_front (b ∷ bs) cs = drop_front bs cs

-- one more wait on a stack
pub nodes_pushed : (ws : List Wait) (n : ℕ) (d : Wait) (new one old first : List Bool) → 0 < n → n ≤ length ws → new ≡ one ++ old →
    one ≡ nodes_in (symbols_in (get_or ws (n - 1) d)) →
    old ≡ nodes_in (waited (drop n ws)) ++ first → new ≡ nodes_in (waited (drop (n - 1) ws)) ++ first
nodes_pushed ws n d new one old first h w e f g =
    rw (e, f, g, nodes_in_more ws n d h w) (sym
    (append_assoc (nodes_in (symbols_in (get_or ws (n - 1) d))) (nodes_in (waited (drop n ws))) first))
