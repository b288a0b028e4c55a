-- Ways that are put behind others, part by part of a form.
use Rattle.std.proofs.Common.{◌≡◌, ℕ, ◌+◌, ◌<◌, ◌≤◌, List, [], ◌∷◌, ◌++◌, Bool, true, false, length, get_or, refl, ap, sym, ◌∙◌, arith, length-append, append_assoc, if◌then◌else◌}
use Rattle.std.specs.Prelude.{set, ◌&&◌}
use Rattle.std.proofs.Math.Seq.{set-append_seam}
use Rattle.hare_tree.specs.declared.kind.Kind.{Kind}
use Rattle.hare_tree.specs.declared.form.Sign.{Sign}
use Rattle.hare_tree.specs.declared.form.Own.{Own}
use Rattle.hare_tree.specs.declared.form.Piece.{Piece}
use Rattle.hare_tree.specs.declared.form.Lead.{Lead}
use Rattle.hare_tree.specs.declared.form.Lead.TheVariants as le
use Rattle.hare_tree.specs.Node.{Head, Node, Nodes, head}
use Rattle.hare_tree.specs.Spell.{stands_alone}
use Rattle.hare_tree.specs.Judged.{nodes_from}
use Rattle.hare_ways.specs.declared.way.Start.{Start}
use Rattle.hare_ways.specs.declared.way.Way.{Way}
use Rattle.hare_ways.specs.declared.breaks.Breaks.{Breaks}
use Rattle.hare_ways.specs.declared.part.Part.{Part}
use Rattle.hare_ways.specs.declared.part.Part.TheVariants as pa
use Rattle.hare_ways.specs.Ways.{ways, starting, within_brackets, sign_way, fixed_way, own_ways}
use Rattle.hare_ways.specs.Parts.{part_of, nodes_behind}
use Rattle.hare_ways.specs.Walk.{at_depth, depth_within, kid_ways, first_ways, row_ways, listed_walk, start_of, part_ways, inside_behind_part, pieces_walk}
use Rattle.hare_ways.proofs.Counted.{within_if}
use Rattle.hare_ways.proofs.Depths.{at_depth-append, length-at_depth, at_depth-within}

-- ---- lengths

pub length-put : (d : ℕ) (out out' ws : List Way) → out' ≡ out ++ at_depth d ws → length out' ≡ length out + length ws
length-put d out out' ws e = omega (arith, ap length e, length-append out (at_depth d ws), length-at_depth d ws)

length-within : (d : ℕ) (b : Breaks) (inside : Bool) (ws : List Way) → length (at_depth d (within_brackets b inside ws)) ≡ length ws
length-within d b inside ws = length-at_depth d (within_brackets b inside ws) ∙ within_if (b.brackets && inside) ws

-- what is put in two steps
pub put-two : (d : ℕ) (out one two ws vs : List Way) → one ≡ out ++ at_depth d ws → two ≡ one ++ at_depth d vs
    → two ≡ out ++ at_depth d (ws ++ vs)
put-two d out one two ws vs a b =
    b ∙ ap (λ xs. xs ++ at_depth d vs) a ∙ append_assoc out (at_depth d ws) (at_depth d vs)
    ∙ ap (λ xs. out ++ xs) (sym (at_depth-append d ws vs))

-- what is put, and behind it what is left, are the whole
pub put-left : (d : ℕ) (out one ws vs all : List Way) → one ≡ out ++ at_depth d ws → out ++ at_depth d (ws ++ vs) ≡ all
    → one ++ at_depth d vs ≡ all
put-left d out one ws vs all a b =
    ap (λ xs. xs ++ at_depth d vs) a ∙ append_assoc out (at_depth d ws) (at_depth d vs)
    ∙ ap (λ xs. out ++ xs) (sym (at_depth-append d ws vs)) ∙ b

-- there is room for what comes first of what is left
pub room-first : (d m : ℕ) (out ws vs all : List Way) → out ++ at_depth d (ws ++ vs) ≡ all → length all < m → length out + length ws < m
room-first d m out ws vs all e h =
    omega (arith, ap length e, h, length-append out (at_depth d (ws ++ vs)), length-at_depth d (ws ++ vs), length-append ws vs)

-- ---- parts

-- a part of a form, in front of which `out` is put and these kids are left, is put
pub record IsPut (cs : List ℕ) (h : Head) (b : Breaks) (d : ℕ) (p : Piece) : Type 0 where
  pub part : Part
  pub start : Start
  pub inside : Bool
  pub next_inside : Bool
  pub kids : Nodes
  pub next_kids : Nodes
  pub out : List Way
  pub next_out : List Way
  pub part_is : part ≡ part_of p h.text
  pub start_is : start ≡ start_of b inside p
  pub put : next_out ≡ out ++ at_depth d (within_brackets b inside (part_ways cs h b inside start part (length out) kids))
  pub inside_is : next_inside ≡ inside_behind_part b inside part
  pub kids_are : next_kids ≡ nodes_behind part kids

pub put-many : (cs : List ℕ) (h : Head) (b : Breaks) (d : ℕ) (p : Piece) (x : IsPut cs h b d p)
    → length x.next_out ≡ length x.out + length (part_ways cs h b x.inside x.start x.part (length x.out) x.kids)
put-many cs h b d p x =
    let here = part_ways cs h b x.inside x.start x.part (length x.out) x.kids in
    omega (arith, ap length x.put, length-append x.out (at_depth d (within_brackets b x.inside here)), length-within d b x.inside here)

-- the first piece, and those behind it
walk-first : (cs : List ℕ) (h : Head) (b : Breaks) (d : ℕ) (p : Piece) (ps : List Piece) (x : IsPut cs h b d p)
    → pieces_walk cs h b x.inside (p ∷ ps) (length x.out) x.kids
    ≡ within_brackets b x.inside (part_ways cs h b x.inside x.start x.part (length x.out) x.kids)
    ++ pieces_walk cs h b x.next_inside ps (length x.next_out) x.next_kids
walk-first cs h b d p ps x =
    let n = length x.out in
    let walk = λ (s : Start) (q : Part). within_brackets b x.inside (part_ways cs h b x.inside s q n x.kids)
    ++ pieces_walk cs h b (inside_behind_part b x.inside q) ps (n + length (part_ways cs h b x.inside s q n x.kids))
    (nodes_behind q x.kids) in
    let here = within_brackets b x.inside (part_ways cs h b x.inside x.start x.part n x.kids) in
    ap (λ s. walk s (part_of p h.text)) (sym x.start_is)
    ∙ ap (walk x.start) (sym x.part_is)
    ∙ ap (λ i. here ++ pieces_walk cs h b i ps (n + length (part_ways cs h b x.inside x.start x.part n x.kids))
    (nodes_behind x.part x.kids))
    (sym x.inside_is)
    ∙ ap (λ m. here ++ pieces_walk cs h b x.next_inside ps m (nodes_behind x.part x.kids)) (sym (put-many cs h b d p x))
    ∙ ap (λ ts. here ++ pieces_walk cs h b x.next_inside ps (length x.next_out) ts) (sym x.kids_are)

-- what is put, and behind it what is left, are the whole
pub walk-next : (cs : List ℕ) (h : Head) (b : Breaks) (d : ℕ) (p : Piece) (qs ps : List Piece) (all : List Way) (x : IsPut cs h b d p)
    → qs ≡ p ∷ ps → x.out ++ at_depth d (pieces_walk cs h b x.inside qs (length x.out) x.kids) ≡ all
    → x.next_out ++ at_depth d (pieces_walk cs h b x.next_inside ps (length x.next_out) x.next_kids) ≡ all
walk-next cs h b d p qs ps all x e i =
    let here = within_brackets b x.inside (part_ways cs h b x.inside x.start x.part (length x.out) x.kids) in
    let first = walk-first cs h b d p ps x in
    put-left d x.out x.next_out here (pieces_walk cs h b x.next_inside ps (length x.next_out) x.next_kids) all x.put
    (ap (λ ws. x.out ++ at_depth d ws) (sym first)
    ∙ ap (λ rs. x.out ++ at_depth d (pieces_walk cs h b x.inside rs (length x.out) x.kids)) (sym e) ∙ i)

-- there is room for a part
pub walk-room : (cs : List ℕ) (h : Head) (b : Breaks) (d m : ℕ) (p : Piece) (qs ps : List Piece) (inside : Bool) (s : Start) (q : Part)
    (out all : List Way) (ts : Nodes) → qs ≡ p ∷ ps → q ≡ part_of p h.text → s ≡ start_of b inside p
    → out ++ at_depth d (pieces_walk cs h b inside qs (length out) ts) ≡ all → length all < m
    → length out + length (part_ways cs h b inside s q (length out) ts) < m
walk-room cs h b d m p qs ps inside s q out all ts e a c i l =
    let n = length out in
    let here = part_ways cs h b inside (start_of b inside p) (part_of p h.text) n ts in
    let rest = pieces_walk cs h b (inside_behind_part b inside (part_of p h.text)) ps (n + length here) (nodes_behind
    (part_of p h.text) ts) in
    let first = room-first d m out (within_brackets b inside here) rest all
    (ap (λ rs. out ++ at_depth d (pieces_walk cs h b inside rs n ts)) (sym e) ∙ i) l in
    let long : length (within_brackets b inside here) ≡ length here = within_if (b.brackets && inside) here in
    let same : length (part_ways cs h b inside s q n ts) ≡ length here =
    ap (λ u. length (part_ways cs h b inside u q n ts)) c ∙ ap (λ r. length (part_ways cs h b inside (start_of b inside p) r n ts)) a in
    omega (arith, first, long, same)

-- ---- how many brackets are open

deeper-by : (cs : List ℕ) (h : Head) (b : Breaks) (inside next : Bool) (s : Start) (q : Part) (n m d : ℕ) (ts : Nodes)
    → next ≡ inside_behind_part b inside q → m ≡ n + length (part_ways cs h b inside s q n ts) → d ≤ n → (inside ≡ true → d < n)
    → next ≡ true → d < m
deeper-by cs h b inside next s (pa.Sign c) n m d ts e k w f i =
    let one : m ≡ n + 1 = k in
    omega (arith, one, w)
deeper-by cs h b inside next s (pa.Own o) n m d ts e k w f i = omega (arith, k, f (sym e ∙ i))
deeper-by cs h b inside next s (pa.One l) n m d ts e k w f i = omega (arith, k, f (sym e ∙ i))
deeper-by cs h b inside next s (pa.All l) n m d ts e k w f i = omega (arith, k, f (sym e ∙ i))
deeper-by cs h b inside next s pa.Listed n m d ts e k w f i = omega (arith, k, f (sym e ∙ i))

-- inside brackets fewer are open than tokens are put
pub put-deeper : (cs : List ℕ) (h : Head) (b : Breaks) (d : ℕ) (p : Piece) (x : IsPut cs h b d p) → d ≤ length x.out
    → (x.inside ≡ true → d < length x.out) → x.next_inside ≡ true → d < length x.next_out
put-deeper cs h b d p x w f i =
    deeper-by cs h b x.inside x.next_inside x.start x.part (length x.out) (length x.next_out) d x.kids x.inside_is
    (put-many cs h b d p x) w f i

-- a part is put, inside broken brackets one deeper
pub put-within : (b : Breaks) (inside : Bool) (d e : ℕ) (out next ws vs : List Way) → e ≡ depth_within b inside d
    → next ≡ out ++ at_depth e ws → ws ≡ vs → next ≡ out ++ at_depth d (within_brackets b inside vs)
put-within b inside d e out next ws vs h k l =
    k ∙ ap (λ m. out ++ at_depth m ws) h ∙ ap (λ us. out ++ us) (at_depth-within b inside d ws)
    ∙ ap (λ us. out ++ at_depth d (within_brackets b inside us)) l

-- ---- kids with their signs

add-zero : (n : ℕ) → n + 0 ≡ n
add-zero n = omega arith

pub kid-nothing : (cs : List ℕ) (k : Kind) (s : Start) (n : ℕ) (t : Node) → kid_ways cs k s le.Nothing n t ≡ starting s (ways cs n t)
kid-nothing cs k s n t = ap (λ m. starting s (ways cs m t)) (add-zero n)

pub before-alone : (cs : List ℕ) (k : Kind) (s : Start) (c : Sign) (n : ℕ) (t : Node) → stands_alone (head t).kind ≡ true
    → kid_ways cs k s (le.Before c) n t ≡ ways cs n t
before-alone cs k s c n t e = rw e (ap (λ m. ways cs m t) (add-zero n))

pub behind-alone : (cs : List ℕ) (k : Kind) (s : Start) (c : Sign) (n : ℕ) (t : Node) → stands_alone (head t).kind ≡ true
    → kid_ways cs k s (le.Behind c) n t ≡ ways cs n t
behind-alone cs k s c n t e = rw e (ap (λ m. ways cs m t) (add-zero n))

pub before-sign : (cs : List ℕ) (k : Kind) (s : Start) (c : Sign) (n : ℕ) (t : Node) → stands_alone (head t).kind ≡ false
    → kid_ways cs k s (le.Before c) n t ≡ sign_way k c ∷ starting s (ways cs (n + 1) t)
before-sign cs k s c n t e = rw e refl

pub behind-sign : (cs : List ℕ) (k : Kind) (s : Start) (c : Sign) (n : ℕ) (t : Node) → stands_alone (head t).kind ≡ false
    → kid_ways cs k s (le.Behind c) n t ≡ starting s (ways cs n t) ++ sign_way k c ∷ []
behind-sign cs k s c n t e = rw e (ap (λ m. starting s (ways cs m t) ++ sign_way k c ∷ []) (add-zero n))

-- ---- beginning a line

begins-at : (out front : List Way) (w v : Way) (ws : List Way) (first : ℕ) → out ≡ front ++ w ∷ ws → length front ≡ first
    → set out first v ≡ front ++ v ∷ ws
begins-at out front w v ws first e k =
    ap (λ xs. set xs first v) e ∙ ap (λ i. set (front ++ w ∷ ws) i v) (sym k) ∙ set-append_seam front w ws v

get-seam : (front : List Way) (w d : Way) (ws : List Way) → get_or (front ++ w ∷ ws) (length front) d ≡ w
get-seam [] w d ws = refl
get-seam (x ∷ xs) w d ws = get-seam xs w d ws

-- the token at a place begins a line so
pub starting-set : (s : Start) (out next front rest : List Way) (v d : Way) (first : ℕ) → first < length out → v ≡ get_or out first d
    → next ≡ set out first record {
      start = s;
      depth = v.depth;
      joins_before = v.joins_before;
      joins_behind = v.joins_behind;
      comma =
          v.comma;
    }
    → out ≡ front ++ rest → length front ≡ first → next ≡ front ++ starting s rest
starting-set s out next front [] v d first h e n o k = absurd (omega (arith, h, ap length o, length-append front [], k))
starting-set s out next front (w ∷ ws) v d first h e n o k =
    let is : v ≡ w = e ∙ ap (λ xs. get_or xs first d) o ∙ ap (λ i. get_or (front ++ w ∷ ws) i d) (sym k) ∙ get-seam front w d ws in
    n ∙ begins-at out front w _ ws first o k
    ∙ ap (λ (x : Way). front ++ record {
      start = s;
      depth = x.depth;
      joins_before = x.joins_before;
      joins_behind = x.joins_behind;
      comma = x.comma;
    } ∷ ws)
    is

-- where there is none
pub starting-none : (s : Start) (out front rest : List Way) (first : ℕ) → length out ≤ first → out ≡ front ++ rest → length front ≡ first
    → out ≡ front ++ starting s rest
starting-none s out front [] first h o k = o
starting-none s out front (w ∷ ws) first h o k = absurd (omega (arith, h, ap length o, length-append front (w ∷ ws), k))

-- ---- a part by its sort

pub sign-is : (cs : List ℕ) (h : Head) (b : Breaks) (inside : Bool) (s : Start) (q : Part) (c : Sign) (n : ℕ) (ts : Nodes) → q ≡ pa.Sign c
    → part_ways cs h b inside s q n ts ≡ fixed_way b inside c ∷ []
sign-is cs h b inside s q c n ts e = rw e refl

pub own-is : (cs : List ℕ) (h : Head) (b : Breaks) (inside : Bool) (s : Start) (q : Part) (o : Own) (n : ℕ) (ts : Nodes) → q ≡ pa.Own o
    → part_ways cs h b inside s q n ts ≡ own_ways h o
own-is cs h b inside s q o n ts e = rw e refl

pub one-is : (cs : List ℕ) (h : Head) (b : Breaks) (inside : Bool) (s : Start) (q : Part) (l : Lead) (n i : ℕ) (k : Kind) (ts us : Nodes)
    → q ≡ pa.One l → k ≡ h.kind → ts ≡ us → part_ways cs h b inside s q n (nodes_from i ts) ≡ first_ways cs k s l n (nodes_from i us)
one-is cs h b inside s q l n i k ts us e f g = rw (e, f, g) refl

pub all-is : (cs : List ℕ) (h : Head) (b : Breaks) (inside : Bool) (s : Start) (q : Part) (l : Lead) (n i : ℕ) (k : Kind) (ts us : Nodes)
    → q ≡ pa.All l → k ≡ h.kind → ts ≡ us → part_ways cs h b inside s q n (nodes_from i ts) ≡ row_ways cs k s l n (nodes_from i us)
all-is cs h b inside s q l n i k ts us e f g = rw (e, f, g) refl

pub listed-is : (cs : List ℕ) (h : Head) (b : Breaks) (inside : Bool) (s : Start) (q : Part) (n i : ℕ) (k : Kind) (ts us : Nodes)
    → q ≡ pa.Listed → k ≡ h.kind → ts ≡ us → part_ways cs h b inside s q n (nodes_from i ts) ≡ listed_walk cs k s n (nodes_from i us)
listed-is cs h b inside s q n i k ts us e f g = rw (e, f, g) refl

depth-if : (x y : Bool) (d n : ℕ) → d ≤ n → (y ≡ true → d < n) → (if x && y then d + 1 else d) ≤ n
depth-if true true d n w f = omega (arith, f refl)
depth-if true false d n w f = w
depth-if false y d n w f = w

-- no more brackets are open than tokens are put
pub depth-fits : (b : Breaks) (inside : Bool) (d e n : ℕ) → e ≡ depth_within b inside d → d ≤ n → (inside ≡ true → d < n) → e ≤ n
depth-fits b inside d e n k w f = omega (arith, k, depth-if b.brackets inside d n w f)

pub never-inside : (d n : ℕ) → false ≡ true → d < n
never-inside d n e = cc
