-- How far the walk over a text has come.
use Rattle.std.proofs.Common.{◌≡◌, ℕ, zero, suc, ◌+◌, ◌<◌, ◌≤◌, List, [], ◌∷◌, ◌++◌, Bool, true, false, length, take, drop, refl, sym, ap}
use Rattle.std.proofs.Common.{◌∙◌, subst, arith, append_assoc, append-nil, length-append}
use Rattle.hare_tree.specs.declared.token.TokenKind.{TokenKind}
use Rattle.hare_tree.specs.declared.token.Suffix.{Suffix}
use Rattle.hare_tree.specs.declared.token.Token.{Token}
use Rattle.hare_tree.specs.Tokens.{Reads, Stands, Break, IsTokens, is_path_mark, no_gap, place_at, end_at}
use Rattle.hare_tree.specs.Grammar.{before_end}
use Rattle.hare_lex.specs.Fronts.{token_at, Standing}
use Rattle.hare_lex.specs.Lexing.{skipped}
use Rattle.hare_lex.proofs.Fronts.Lists.{front_is, behind_is}
use Rattle.hare_lex.proofs.Fronts.Firsts.{first_of_kind}
use Rattle.hare_lex.proofs.Turns.Gaps.{gap_is}
use Rattle.hare_lex.proofs.Turns.Turn.{path_mark_text}
use Rattle.hare_lex.proofs.Whole.Tokens.{break_stands}
use Rattle.hare_lex.proofs.Whole.Unique.{one_token}
use Rattle.hare_pieces.specs.declared.piece.Piece.{Piece}
use Rattle.hare_pieces.specs.Pieces.{ConsistsOf, HasTokens, ArePieces, are_blank}
use Rattle.hare_pieces.specs.Walk.{Leads}
use Rattle.hare_pieces.proofs.OneList.Fronts.{token_front}
use Rattle.hare_pieces.proofs.Walk.Passed.{leads_skip}

-- The text has tokens, of which these are left. What those before them and the comments among them are is put; the rest is read as those
-- that are left, and begins behind so many bytes.
pub record Walked (src : List ℕ) (b : Bool) (at : ℕ) (pieces : List Piece) (rest : List ℕ) : Type 0 where
  pub tokens : List Token
  pub are : IsTokens 0 src tokens
  pub left : List Token
  pub before : List ℕ
  pub at_path : Bool
  pub reads : Reads 0 before b left rest [] at_path
  pub at_is : at + length rest ≡ length src
  pub goes_on : (more : List Piece) → ConsistsOf at b rest left more → ConsistsOf 0 false src (before_end tokens) (pieces ++ more)

before_last : (ts : List Token) (t : Token) → before_end (ts ++ t ∷ []) ≡ ts
before_last [] t = refl
before_last (u ∷ []) t = refl
before_last (u ∷ v ∷ vs) t = ap (λ l. u ∷ l) (before_last (v ∷ vs) t)

pub walked_start : (src : List ℕ) → HasTokens src → Walked src false 0 [] src
walked_start src h =
    let are = h.1 in
    let all : before_end h.0 ≡ are.spelled_by = ap before_end are.tokens_are ∙ before_last are.spelled_by (end_at (place_at 0 src)) in
    record {
      tokens = h.0;
      are = are;
      left = are.spelled_by;
      before = [];
      at_path = are.at_path;
      reads = are.reads;
      at_is = omega arith;
      goes_on = λ more c. subst (λ l. ConsistsOf 0 false src l more) (sym all) c;
    }

-- a turn of the walk: behind the blanks and comments that were passed stands this text
pub record Behind (src : List ℕ) (b : Bool) (at : ℕ) (old : List Piece) (s : List ℕ) (mid : List Piece) (k : ℕ)
    (text : List ℕ) : Type 0 where
  pub walked : Walked src b at old s
  pub leads : Leads at s old mid k
  pub fresh : no_gap (drop k s) ≡ true
  pub text_is : text ≡ drop k s

gap_passed : (src : List ℕ) (b : Bool) (at : ℕ) (old : List Piece) (s : List ℕ) (mid : List Piece) (k : ℕ) (text : List ℕ)
    → Behind src b at old s mid k text → skipped false s ≡ text
gap_passed src b at old s mid k text h = leads_skip at s old mid k h.leads h.fresh ∙ sym h.text_is

-- ---- a token is next

-- the token that stands in front of a text, the first of those that are left, and what is read behind it
record Turn (b : Bool) (left : List Token) (text : List ℕ) (at_path : Bool) : Type 0 where
  token : Token
  more : List Token
  left_is : left ≡ token ∷ more
  word : List ℕ
  rest : List ℕ
  split : text ≡ word ++ rest
  stands : Stands b token word rest
  before : List ℕ
  reads : Reads 0 before (is_path_mark token.kind token.text) more rest [] at_path

turn_of : (before : List ℕ) (b : Bool) (left : List Token) (s text : List ℕ) (at_path : Bool) → Reads 0 before b left s [] at_path
    → skipped false s ≡ text → 0 < length text → Turn b left text at_path
turn_of before b [] s text at_path r e h =
    let none = ap length (sym e ∙ gap_is r.0 s [] r.1) in absurd (omega (arith, h, none))
turn_of before b (t ∷ ts) s text at_path r e h = record {
  token = t;
  more = ts;
  left_is = refl;
  word = r.1;
  rest = r.2;
  split = sym e ∙ gap_is r.0 s (r.1 ++ r.2) r.4;
  stands = r.7;
  before = before ++ (r.3 ++ r.1);
  reads = r.8;
}

turn : (src : List ℕ) (b : Bool) (at : ℕ) (old : List Piece) (s : List ℕ) (mid : List Piece) (k : ℕ) (text : List ℕ)
    → (h : Behind src b at old s mid k text) → 0 < length text → Turn b h.walked.left text h.walked.at_path
turn src b at old s mid k text h some =
    let w = h.walked in turn_of w.before b w.left s text w.at_path w.reads (gap_passed src b at old s mid k text h) some

-- no fault stands there
pub no_fault : (src : List ℕ) (b : Bool) (at : ℕ) (old : List Piece) (s : List ℕ) (mid : List Piece) (k : ℕ) (text : List ℕ) (n offset : ℕ)
    → Behind src b at old s mid k text → 0 < length text → Break b text n offset → ⊥
no_fault src b at old s mid k text n offset h some f =
    let r = turn src b at old s mid k text h some in break_stands b r.token r.word r.rest text n offset r.split r.stands f

-- what stands there, by its bytes
pub record Cuts (text spelling behind : List ℕ) (len : ℕ) : Type 0 where
  pub front : spelling ≡ take len text
  pub back : behind ≡ drop len text

-- the token is that which is next
record Next (b : Bool) (left : List Token) (at_path : Bool) (k : TokenKind) (text spelling behind : List ℕ) (len : ℕ) : Type 0 where
  turn : Turn b left text at_path
  len_is : len ≡ length turn.word
  behind_is : behind ≡ turn.rest
  path : is_path_mark k spelling ≡ is_path_mark turn.token.kind turn.token.text

next_is : (b : Bool) (left : List Token) (at_path : Bool) (kind : TokenKind) (len n : ℕ) (x : Suffix) (text spelling behind : List ℕ)
    → Turn b left text at_path → Standing b text kind len n x → Cuts text spelling behind len
    → Next b left at_path kind text spelling behind len
next_is b left at_path kind len n x text spelling behind r st c =
    let place = r.token.place in
    let one = one_token b (token_at kind place st.word n x) r.token st.word r.word st.rest r.rest (st.stands place) r.stands
    (sym st.split ∙ r.split) refl in
    let word : spelling ≡ st.word = c.front ∙ ap (λ i. take i text) (sym st.len_is) ∙ front_is text st.word st.rest st.split in
    record {
      turn = r;
      len_is = sym st.len_is ∙ ap length one.spelling;
      behind_is = c.back ∙ ap (λ i. drop i text) (sym st.len_is) ∙ behind_is text st.word st.rest st.split ∙ one.behind;
      path = ap (is_path_mark kind) word ∙ sym (path_mark_text kind st.word) ∙ ap (λ (t : Token). is_path_mark t.kind t.text) one.token;
    }

length-parts : (s : List ℕ) (k : ℕ) → k ≤ length s → length (drop k s) + k ≡ length s
length-parts s zero h = omega arith
length-parts [] (suc k) h = absurd (omega arith)
length-parts (c ∷ s) (suc k) h = let i = length-parts s k (omega arith) in omega (arith, i)

-- one more token is cut
pub walked_more : (src : List ℕ) (b : Bool) (at : ℕ) (old : List Piece) (s : List ℕ) (mid : List Piece) (k : ℕ) (text : List ℕ)
    (kind : TokenKind) (len n : ℕ) (x : Suffix) (spelling behind : List ℕ)
    → Behind src b at old s mid k text → k ≤ length s → 0 < length text → Standing b text kind len n x → Cuts text spelling behind len
    → Walked src (is_path_mark kind spelling) ((at + k) + len) (mid ++ record { from = at + k; to = (at + k) + len; comment = false } ∷ [])
    behind
walked_more src b at old s mid k text kind len n x spelling behind h f some st c =
    let w = h.walked in
    let from = at + k in
    let to = from + len in
    let piece : Piece = record { from = from; to = to; comment = false } in
    let z = next_is b w.left w.at_path kind len n x text spelling behind (turn src b at old s mid k text h some) st c in
    let r = z.turn in
    let fresh : no_gap (r.word ++ r.rest) ≡ true = ap no_gap (sym r.split ∙ h.text_is) ∙ h.fresh in
    let to_is : to ≡ from + length r.word = ap (λ i. from + i) z.len_is in
    let sizes = ap length (sym h.text_is) ∙ ap length r.split ∙ length-append r.word r.rest in
    let parts = length-parts s k f in
    let all : at + length s ≡ length src = w.at_is in
    let at_is : to + length r.rest ≡ length src = omega (arith, all, sizes, parts, to_is) in
    let walked : Walked src (is_path_mark r.token.kind r.token.text) to (mid ++ piece ∷ []) r.rest = record {
      tokens = w.tokens;
      are = w.are;
      left = r.more;
      before = r.before;
      at_path = w.at_path;
      reads = r.reads;
      at_is = at_is;
      goes_on = λ more d.
          let one = token_front from to b r.token r.word r.rest r.more more fresh r.stands to_is d in
          let here = subst (λ l. ConsistsOf from b l (r.token ∷ r.more) (piece ∷ more)) (sym r.split ∙ h.text_is) one in
          let led = h.leads.goes_on b (r.token ∷ r.more) (piece ∷ more) here in
          let whole = w.goes_on (h.leads.found ++ piece ∷ more)
          (subst (λ l. ConsistsOf at b s l (h.leads.found ++ piece ∷ more)) (sym r.left_is) led) in
          subst (λ l. ConsistsOf 0 false src (before_end w.tokens) l)
          (sym (ap (λ l. (l ++ piece ∷ []) ++ more) h.leads.new_is ∙ append_assoc (old ++ h.leads.found) (piece ∷ []) more
          ∙ append_assoc old h.leads.found (piece ∷ more)))
          whole;
    } in
    subst (λ q. Walked src q to (mid ++ piece ∷ []) behind) (sym z.path)
    (subst (λ l. Walked src (is_path_mark r.token.kind r.token.text) to (mid ++ piece ∷ []) l) (sym z.behind_is) walked)

-- ---- the end

none_left : (before : List ℕ) (b : Bool) (left : List Token) (s : List ℕ) (at_path : Bool) → Reads 0 before b left s [] at_path
    → skipped false s ≡ [] → left ≡ []
none_left before b [] s at_path r e = refl
none_left before b (t ∷ ts) s at_path r e =
    let some = (first_of_kind t.kind t.text t.number t.suffix r.1 r.7.fits.spells).0 in
    let none = ap length (sym e ∙ gap_is r.0 s (r.1 ++ r.2) r.4) ∙ length-append r.1 r.2 in
    absurd (omega (arith, some, none))

is_nil : (s : List ℕ) → length s ≡ 0 → s ≡ []
is_nil [] h = refl
is_nil (c ∷ s) h = absurd (omega arith)

pub walked_end : (src : List ℕ) (b : Bool) (at : ℕ) (old : List Piece) (s : List ℕ) (new : List Piece) (k : ℕ) (text : List ℕ)
    → Behind src b at old s new k text → length text ≡ 0 → ArePieces src new
walked_end src b at old s new k text h e =
    let w = h.walked in
    let over : text ≡ [] = is_nil text e in
    let none = none_left w.before b w.left s w.at_path w.reads (gap_passed src b at old s new k text h ∙ over) in
    let last : ConsistsOf (at + k) b (drop k s) [] [] = (refl, ap are_blank (sym h.text_is ∙ over)) in
    let led = h.leads.goes_on b [] [] last in
    let whole = w.goes_on (h.leads.found ++ []) (subst (λ (ts : List Token). ConsistsOf at b s ts (h.leads.found ++ [])) (sym none) led) in
    record {
      tokens = w.tokens;
      are = w.are;
      consists = subst (λ p. ConsistsOf 0 false src (before_end w.tokens) p)
          (ap (λ p. old ++ p) (append-nil h.leads.found) ∙ sym h.leads.new_is) whole;
    }
