-- Each row of the first token of an expression is right.
use Rattle.std.proofs.Common.{◌≡◌, ℕ, ◌+◌, List, [], ◌∷◌, ◌++◌, Bool, true, false, ◌&&◌, ◌||◌, map, length, refl, ap, sym, ◌∙◌, subst, arith, append_assoc, if◌then◌else◌}
use Rattle.std.specs.Prelude.{nat_le}
use Rattle.hare_tree.specs.declared.kind.Kind.{Kind}
use Rattle.hare_tree.specs.declared.kind.Kind.TheVariants as ki
use Rattle.hare_tree.specs.declared.place.Place.{Place}
use Rattle.hare_tree.specs.declared.token.Token.{Token}
use Rattle.hare_tree.specs.declared.form.Sign.{Sign}
use Rattle.hare_tree.specs.declared.form.Sign.TheVariants as si
use Rattle.hare_tree.specs.declared.form.Own.TheVariants as ow
use Rattle.hare_tree.specs.declared.form.Sort.TheVariants as so
use Rattle.hare_tree.specs.declared.form.Piece.{Piece}
use Rattle.hare_tree.specs.declared.form.Piece.TheVariants as pi
use Rattle.hare_tree.specs.Node.{Node}
use Rattle.hare_tree.specs.Forms.{form_of, expr, unary}
use Rattle.hare_tree.specs.Levels.{is_name, admits}
use Rattle.hare_tree.specs.Spell.{sign_token, label_tokens, own_tokens}
use Rattle.hare_tree.specs.Shape.{is_own, is_empty, is_none, has_text_alone}
use Rattle.hare_tree.specs.Grammar.{place_of, unplaced}
use Rattle.hare_automaton.specs.declared.class.Class.{Class}
use Rattle.hare_automaton.specs.declared.class.Class.TheVariants as cl
use Rattle.hare_automaton.specs.declared.rule.Rule.TheVariants as ru
use Rattle.hare_automaton.specs.declared.rule.Symbol.TheVariants as sy
use Rattle.hare_automaton.specs.Classes.{class_of}
use Rattle.std.proofs.lemmas.List.{length-append, map-append}
use Rattle.hare_automaton.specs.Rows.{Fault, part, before, symbols, rest_of}
use Rattle.hare_automaton.specs.ExpressionRows.{start_level, start_row, level_row}
use Rattle.hare_automaton.specs.Engine.{Group, begun, head_in, add, close, lift}
use Rattle.hare_automaton.proofs.Spelled.Paths.{split, further, joined_by}
use Rattle.hare_prefixes.proofs.Soundness.Seen.{sign_is, number_is, rune_is, text_is, bool_is}
use Rattle.hare_prefixes.proofs.Soundness.Trees.{Source, IsTree, Tree, Begun, Owned}
use Rattle.hare_prefixes.proofs.Soundness.Means.{has_first, Names, with_kid, closed_as, fields, Literal, PathEnd, path, literal, LoopBegun}
use Rattle.hare_prefixes.proofs.Soundness.Stacks.{Reads, last_part, Goes, Used, used_before}
use Rattle.hare_prefixes.proofs.Soundness.Kids.{Simple, wanted_kid}
use Rattle.hare_prefixes.proofs.Soundness.Pieces.{ended_fixed, ended_kid}
use Rattle.hare_prefixes.proofs.Soundness.Forms.{Ordinary, Form, form_tree, form_kid, ended_form, PlainRest, named}
use Rattle.hare_prefixes.proofs.Soundness.Paths.{first_of, path_form}
use Rattle.hare_prefixes.proofs.RightRows.TypeRows.{leaf_means, mark_means, opens_means, wants, RowMeans}

-- ---- paths and struct literals

-- the path that a struct literal begins with is a tree
path_tree : (x : Source) (t : Token) (m : ℕ) (u w : List Token) → place_of x.tokens m ≡ t.place → class_of t ≡ cl.Name → (q : Names u) →
    IsTree x so.TypePath m (t ∷ u) w (closed_as ki.TypePath (joined_by (further q.names) (first_of t)))
path_tree x t m u w p e q =
    form_kid x so.TypePath ki.TypePath t.place m (t ∷ u) w (closed_as ki.TypePath (joined_by (further q.names) (first_of t))) refl
    (λ h ts i. refl) (path_form x ki.TypePath t (begun t.place [] ∷ []) m u w refl
    (record { none = refl; operator = refl; yield = refl }) p e q)

expression : (x : Source) (k : Kind) (j : ℕ) (gs : List Group) (m : ℕ) (u w : List Token) (gs' : List Group) → is_none k ≡ false →
    ((y : List ℕ) → admits (so.Level j) k y ≡ true) → Form x k gs m u w gs' → Tree x (so.Level j) gs m u w gs'
expression x k j gs m u w gs' n a f = form_tree x (so.Level j) k gs m u w gs' n a f

literal_tree : (x : Source) (t : Token) (hs : List Group) (m n : ℕ) (u w : List Token) (gs' : List Group) → place_of x.tokens m ≡ t.place →
    class_of t ≡ cl.Name → n ≡ m + 1 → Literal x (first_of t) (begun t.place []) hs n u w gs' → Tree x (so.Level 16) hs m (t ∷ u) w gs'
literal_tree x t hs m n u w gs' p e at q =
    let g = begun t.place [] in
    let pt = path_tree x t m q.path (q.brace ∷ (q.v ++ w)) p e q.names in
    let tree = closed_as ki.TypePath (joined_by (further q.names.names) (first_of t)) in
    let brace : Begun x si.LeftBrace q.brace (n + length q.path) q.n =
    record { class = q.class; place = q.place; next = omega (arith, q.at) } in
    let e1 = ended_fixed x ki.StructLit si.LeftBrace fields (with_kid g tree) hs (n + length q.path) q.n q.brace q.v w gs' brace q.ended in
    let e2 = ended_kid x ki.StructLit (pi.Kid so.TypePath) (pi.Fixed si.LeftBrace ∷ fields) g hs m (n + length q.path) (t ∷ q.path)
    (q.brace ∷ q.v) w gs' tree (wanted_kid x so.TypePath (pi.Fixed si.LeftBrace ∷ fields) m (t ∷ q.path) (q.brace ∷ (q.v ++ w)) tree
    refl pt) (omega (arith, at)) e1 in
    let f = ended_form x ki.StructLit g hs m ((t ∷ q.path) ++ (q.brace ∷ q.v)) w gs' (record { none = refl; operator = refl; yield = refl })
    (record { text = refl; number = refl; suffix = refl }) refl p e2 in
    expression x ki.StructLit 16 hs m (t ∷ u) w gs' refl (λ y. refl) (subst (λ l. Form x ki.StructLit hs m (t ∷ l) w gs') (sym q.is) f)

lifted : (t : Node) (p : Place) (gs : List Group) → lift (add t (begun p [] ∷ gs)) ≡ add t gs
lifted t p [] = refl
lifted t p (g ∷ gs) = refl

path_start : (x : Source) (t : Token) (gs : List Group) (m n : ℕ) (u w : List Token) (gs' : List Group) → place_of x.tokens m ≡ t.place →
    class_of t ≡ cl.Name → n ≡ m + 1 → PathEnd x (first_of t) (begun t.place []) gs n u w gs' → Tree x (so.Level 16) gs m (t ∷ u) w gs'
path_start x t gs m n u w gs' p e at (literal q) = literal_tree x t gs m n u w gs' p e at q
path_start x t gs m n u w gs' p e at (path q i) =
    let f = path_form x ki.Path t gs m u w refl (record { none = refl; operator = refl; yield = refl }) p e q in
    let j : gs' ≡ close ki.Path (joined_by (further q.names) (first_of t) ∷ gs) =
    i ∙ lifted (closed_as ki.Path (joined_by (further q.names) (first_of t))) t.place gs in
    expression x ki.Path 16 gs m (t ∷ u) w gs' refl (λ y. refl) (subst (λ l. Form x ki.Path gs m (t ∷ u) w l) (sym j) f)

-- ---- blocks

abbrev block_pieces : List Piece
block_pieces = pi.Fixed si.LeftBrace ∷ pi.EachFollowed so.Statement si.Semicolon ∷ pi.Fixed si.RightBrace ∷ []

block_rest : PlainRest ki.Block (pi.Own ow.Label ∷ block_pieces) block_pieces
block_rest = record {
  form = refl;
  ordinary = record { none = refl; operator = refl; yield = refl };
  simple = (refl, tt);
  textless = refl;
}

block_start : (x : Source) (t : Token) (gs : List Group) (m : ℕ) (u w : List Token) (gs' : List Group) → class_of t ≡ cl.Sign si.LeftBrace →
    Goes x (rest_of 2 ki.Block) (begun t.place [] ∷ gs) t m u w gs' → Tree x (so.Level 16) gs m (t ∷ u) w gs'
block_start x t gs m u w gs' e h =
    let r = wants x si.LeftBrace (rest_of 2 ki.Block) t (begun t.place [] ∷ gs) m u w gs' e h in
    expression x ki.Block 16 gs m (t ∷ u) w gs' refl (λ y. refl)
    (named x ki.Block ow.Label block_pieces (begun t.place []) gs m m [] (t ∷ u) w gs' block_rest
    (record { kids = refl; own = refl; spelled = refl; place = h.place; next = omega arith }) r)

-- `:` and a name are a label
pub labelled : (k : Kind) (t : Token) (g g' : Group) (v : List Token) → class_of t ≡ cl.Sign si.Colon → Owned ow.Name g v g' →
    (is_own ow.Label (head_in k g') ≡ true) × (own_tokens 0 (head_in k g') ow.Label ≡ map unplaced (t ∷ v))
labelled k t g g' v e q =
    let p = split (is_name false g'.text) (has_text_alone (head_in k g')) (q.own k) in (
      both (is_empty g'.text) (is_name false g'.text) (has_text_alone (head_in k g')) p.0 p.1,
      spelled g'.text p.0 ∙ ap
          (λ y. sign_token 0 si.Colon ∷ y) (q.spelled k) ∙ ap (λ y. y ∷ map unplaced v) (sym (sign_is t si.Colon e)),
    )
  where
    both : (a b c : Bool) → b ≡ true → c ≡ true → ((a || b) && c) ≡ true
    both true b c p q = q
    both false b c p q = rw (p, q) refl

    spelled : (y : List ℕ) → is_name false y ≡ true →
        label_tokens 0 y ≡ sign_token 0 si.Colon ∷ own_tokens 0
        (record { kind = k; place = g'.place; text = y; number = g'.number; suffix = g'.suffix }) ow.Name
    spelled [] p = cc
    spelled (c ∷ y) p = refl

label_start : (x : Source) (t : Token) (gs : List Group) (m : ℕ) (u w : List Token) (gs' : List Group) → class_of t ≡ cl.Sign si.Colon →
    Goes x (part (ru.Own ow.Name) ∷ rest_of 1 ki.Block) (begun t.place [] ∷ gs) t m u w gs' → Tree x (so.Level 16) gs m (t ∷ u) w gs'
label_start x t gs m u w gs' e h =
    let g = begun t.place [] in
    let r = h.reads in
    let q = r.part g gs refl (record { text = refl; number = refl; suffix = refl }) in
    let l = labelled ki.Block t g q.0 r.v e q.2 in
    let rest = subst (λ y. Reads x (rest_of 1 ki.Block) y r.n r.v' w gs') q.1 r.rest in
    let f = named x ki.Block ow.Label block_pieces q.0 gs m r.n (t ∷ r.v) r.v' w gs' block_rest (record {
      kids = q.2.kids;
      own = l.0;
      spelled = l.1;
      place = h.place ∙ sym q.2.place;
      next = omega (arith, r.at, h.at);
    }) rest in
    expression x ki.Block 16 gs m (t ∷ u) w gs' refl (λ y. refl) (subst (λ y. Form x ki.Block gs m (t ∷ y) w gs') (sym r.is) f)

-- ---- loops

-- a label, or none
for_start : (x : Source) (t : Token) (gs : List Group) (m : ℕ) (u w : List Token) (gs' : List Group) → class_of t ≡ cl.Sign si.For →
    Goes x (part (ru.Own ow.Label) ∷ sy.Want si.LeftParen ∷ part ru.ForHead ∷ []) (begun t.place [] ∷ gs) t m u w gs' →
    Tree x expr gs m (t ∷ u) w gs'
for_start x t gs m u w gs' e h =
    let g = begun t.place [] in
    let r = h.reads in
    let q = r.part g gs refl (record { text = refl; number = refl; suffix = refl }) in
    let k = r.rest in
    let v = t ∷ (r.v ++ k.t ∷ []) in
    let b : LoopBegun x q.0 m k.n v = record {
      kids = q.2.kids;
      own = q.2.own ki.For;
      spelled = ap (λ y. y ∷ map unplaced (r.v ++ k.t ∷ [])) (sign_is t si.For e) ∙ ap (λ y. sign_token 0 si.For ∷ y)
          (map-append unplaced r.v (k.t ∷ []) ∙ ap (λ y. y ++ unplaced k.t ∷ []) (sym (q.2.spelled ki.For)) ∙ ap
          (λ y. label_tokens 0 q.0.text ++ y ∷ []) (sign_is k.t si.LeftParen k.begun.class));
      place = h.place ∙ sym q.2.place;
      at = omega (arith, r.at, h.at, k.begun.next, length-append r.v (k.t ∷ []));
    } in
    let rest = last_part x ru.ForHead r.hs k.n k.v w gs' k.rest q.0 gs m v q.1 b in
    let is : t ∷ u ≡ v ++ k.v = ap (λ l. t ∷ l) (r.is ∙ ap (λ l. r.v ++ l) k.is ∙ sym (append_assoc r.v (k.t ∷ []) k.v)) in
    subst (λ y. Tree x expr gs m y w gs') (sym is) rest

-- ---- the first token

-- a form that a word or a mark opens
opens : (x : Source) (k : Kind) (j : ℕ) (d : Sign) (ps : List Piece) (t : Token) (gs : List Group) (m : ℕ) (u w : List Token)
    (gs' : List Group) → form_of k ≡ pi.Fixed d ∷ ps → Ordinary k → Simple ps → ((y : List ℕ) → admits (so.Level j) k y ≡ true) →
    class_of t ≡ cl.Sign d → Goes x (symbols ps ++ sy.Close k ∷ []) (begun t.place [] ∷ gs) t m u w gs' →
    Tree x (so.Level j) gs m (t ∷ u) w gs'
opens x k j d ps t gs m u w gs' f y c a e h = expression x k j gs m (t ∷ u) w gs' y.none a (opens_means x k d ps t gs m u w gs' f y c e h)

pub start_means : (x : Source) (c : Class) (t : Token) (gs : List Group) (m : ℕ) (u w : List Token) (gs' : List Group) → class_of t ≡ c →
    Used x (start_row c) t gs m u w gs' → Tree x (so.Level (start_level c)) gs m (t ∷ u) w gs'
start_means x cl.Name t gs m u w gs' e h = path_start x t gs m h.n u w gs' h.place e h.at
    (last_part x ru.PathOrStruct (first_of t ∷ begun t.place [] ∷ gs) h.n u w gs' h.reads (first_of t) (begun t.place []) gs refl)
start_means x cl.Number t gs m u w gs' e h =
    let p = number_is t e in
    expression x ki.Number 16 gs m (t ∷ u) w gs' refl (λ y. refl)
    (leaf_means x ki.Number ow.Number t gs m u w gs' refl (record { none = refl; operator = refl; yield = refl }) refl p.1
    (ap (λ y. y ∷ []) (sym p.0)) h)
start_means x cl.Rune t gs m u w gs' e h =
    let p = rune_is t e in
    expression x ki.RuneLit 16 gs m (t ∷ u) w gs' refl (λ y. refl)
    (leaf_means x ki.RuneLit ow.Rune t gs m u w gs' refl (record { none = refl; operator = refl; yield = refl }) refl p.1
    (ap (λ y. y ∷ []) (sym p.0)) h)
start_means x cl.Text t gs m u w gs' e h =
    let p = text_is t e in
    expression x ki.Str 16 gs m (t ∷ u) w gs' refl (λ y. refl)
    (leaf_means x ki.Str ow.Text t gs m u w gs' refl (record { none = refl; operator = refl; yield = refl }) refl p.alone
    (ap (λ y. y ∷ []) (sym p.is)) h)
start_means x cl.Bool t gs m u w gs' e h =
    let p = bool_is t e in
    expression x ki.Bool 16 gs m (t ∷ u) w gs' refl (λ y. refl)
    (leaf_means x ki.Bool ow.Bool t gs m u w gs' refl (record { none = refl; operator = refl; yield = refl }) refl
    (rw (p.listed, p.plain.alone) refl) (ap (λ y. y ∷ []) (sym p.plain.is)) h)
start_means x (cl.Sign si.Null) t gs m u w gs' e h =
    expression x ki.Null 16 gs m (t ∷ u) w gs' refl (λ y. refl)
    (mark_means x ki.Null si.Null t gs m u w gs' refl (record { none = refl; operator = refl; yield = refl }) e h)
start_means x (cl.Sign si.Void) t gs m u w gs' e h =
    expression x ki.Void 16 gs m (t ∷ u) w gs' refl (λ y. refl)
    (mark_means x ki.Void si.Void t gs m u w gs' refl (record { none = refl; operator = refl; yield = refl }) e h)
start_means x (cl.Sign si.LeftParen) t gs m u w gs' e h =
    let r = h.reads in
    let q = r.part (has_first (begun t.place []) gs) in
    let a = last_part x ru.AfterValue r.hs r.n r.v' w gs' r.rest t m h.n gs q.t r.v q.adds
    (record { class = e; place = h.place; next = h.at }) q.is r.at in
    subst (λ l. Tree x (so.Level 16) gs m (t ∷ l) w gs') (sym r.is) a
start_means x (cl.Sign si.LeftBrace) t gs m u w gs' e h = block_start x t gs m u w gs' e h
start_means x (cl.Sign si.Colon) t gs m u w gs' e h = label_start x t gs m u w gs' e h
start_means x (cl.Sign si.For) t gs m u w gs' e h = for_start x t gs m u w gs' e h
start_means x (cl.Sign si.Yield) t gs m u w gs' e h =
    last_part x ru.AfterYield (begun t.place [] ∷ gs) h.n u w gs' h.reads t m gs refl (record { class = e; place = h.place; next = h.at })
start_means x (cl.Sign si.LeftBracket) t gs m u w gs' e h =
    opens x ki.Array 16 si.LeftBracket (pi.Elements expr ∷ pi.Fixed si.RightBracket ∷ []) t gs m u w gs' refl
    (record { none = refl; operator = refl; yield = refl }) (refl, refl, tt) (λ y. refl) e h
start_means x (cl.Sign si.Minus) t gs m u w gs' e h =
    opens x ki.Neg 14 si.Minus (pi.Kid unary ∷ []) t gs m u w gs' refl (record { none = refl; operator = refl; yield = refl }) (refl, tt)
    (λ y. refl) e h
start_means x (cl.Sign si.Tilde) t gs m u w gs' e h =
    opens x ki.Not 14 si.Tilde (pi.Kid unary ∷ []) t gs m u w gs' refl (record { none = refl; operator = refl; yield = refl }) (refl, tt)
    (λ y. refl) e h
start_means x (cl.Sign si.Bang) t gs m u w gs' e h =
    opens x ki.Bang 14 si.Bang (pi.Kid unary ∷ []) t gs m u w gs' refl (record { none = refl; operator = refl; yield = refl }) (refl, tt)
    (λ y. refl) e h
start_means x (cl.Sign si.Star) t gs m u w gs' e h =
    opens x ki.Deref 14 si.Star (pi.Kid unary ∷ []) t gs m u w gs' refl (record { none = refl; operator = refl; yield = refl }) (refl, tt)
    (λ y. refl) e h
start_means x (cl.Sign si.Ampersand) t gs m u w gs' e h =
    opens x ki.Addr 14 si.Ampersand (pi.Kid unary ∷ []) t gs m u w gs' refl (record { none = refl; operator = refl; yield = refl })
    (refl, tt) (λ y. refl) e h
start_means x (cl.Sign si.Free) t gs m u w gs' e h =
    opens x ki.Free 16 si.Free (pi.Fixed si.LeftParen ∷ pi.Kid expr ∷ pi.Fixed si.RightParen ∷ []) t gs m u w gs' refl
    (record { none = refl; operator = refl; yield = refl }) (refl, tt) (λ y. refl) e h
start_means x (cl.Sign si.Delete) t gs m u w gs' e h =
    opens x ki.Delete 16 si.Delete (pi.Fixed si.LeftParen ∷ pi.Kid expr ∷ pi.Fixed si.RightParen ∷ []) t gs m u w gs' refl
    (record { none = refl; operator = refl; yield = refl }) (refl, tt) (λ y. refl) e h
start_means x (cl.Sign si.Len) t gs m u w gs' e h =
    opens x ki.Len 16 si.Len (pi.Fixed si.LeftParen ∷ pi.Kid expr ∷ pi.Fixed si.RightParen ∷ []) t gs m u w gs' refl
    (record { none = refl; operator = refl; yield = refl }) (refl, tt) (λ y. refl) e h
start_means x (cl.Sign si.Offset) t gs m u w gs' e h =
    opens x ki.Offset 16 si.Offset (pi.Fixed si.LeftParen ∷ pi.Kid expr ∷ pi.Fixed si.RightParen ∷ []) t gs m u w gs' refl
    (record { none = refl; operator = refl; yield = refl }) (refl, tt) (λ y. refl) e h
start_means x (cl.Sign si.Size) t gs m u w gs' e h =
    opens x ki.Size 16 si.Size (pi.Fixed si.LeftParen ∷ pi.Kid so.Type ∷ pi.Fixed si.RightParen ∷ []) t gs m u w gs' refl
    (record { none = refl; operator = refl; yield = refl }) (refl, tt) (λ y. refl) e h
start_means x (cl.Sign si.Align) t gs m u w gs' e h =
    opens x ki.Align 16 si.Align (pi.Fixed si.LeftParen ∷ pi.Kid so.Type ∷ pi.Fixed si.RightParen ∷ []) t gs m u w gs' refl
    (record { none = refl; operator = refl; yield = refl }) (refl, tt) (λ y. refl) e h
start_means x (cl.Sign si.Alloc) t gs m u w gs' e h =
    opens x ki.Alloc 16 si.Alloc (pi.Fixed si.LeftParen ∷ pi.Kid expr ∷ pi.Led si.Comma expr ∷ pi.Fixed si.RightParen ∷ []) t gs m u w gs'
    refl (record { none = refl; operator = refl; yield = refl }) (refl, (refl, refl, tt)) (λ y. refl) e h
start_means x (cl.Sign si.Append) t gs m u w gs' e h =
    opens x ki.Append 16 si.Append (pi.Fixed si.LeftParen ∷ pi.Kid expr ∷ pi.Fixed si.Comma ∷ pi.Kid expr ∷ pi.Optional so.Dots ∷ pi.Fixed
    si.RightParen ∷ []) t gs m u w gs' refl (record { none = refl; operator = refl; yield = refl }) (refl, (refl, (refl, tt))) (λ y. refl) e
    h
start_means x (cl.Sign si.Abort) t gs m u w gs' e h =
    opens x ki.Abort 16 si.Abort (pi.Fixed si.LeftParen ∷ pi.Optional so.Message ∷ pi.Fixed si.RightParen ∷ []) t gs m u w gs' refl
    (record { none = refl; operator = refl; yield = refl }) (refl, tt) (λ y. refl) e h
start_means x (cl.Sign si.Assert) t gs m u w gs' e h =
    opens x ki.Assert 16 si.Assert (pi.Fixed si.LeftParen ∷ pi.Kid expr ∷ pi.Led si.Comma so.Message ∷ pi.Fixed si.RightParen ∷ []) t gs m u
    w gs' refl (record { none = refl; operator = refl; yield = refl }) (refl, (refl, refl, tt)) (λ y. refl) e h
start_means x (cl.Sign si.If) t gs m u w gs' e h =
    opens x ki.If 1 si.If (pi.Fixed si.LeftParen ∷ pi.Kid expr ∷ pi.Fixed si.RightParen ∷ pi.Kid expr ∷ pi.Led si.Else expr ∷ []) t gs m u w
    gs' refl (record { none = refl; operator = refl; yield = refl }) (refl, (refl, (refl, refl, tt))) (λ y. refl) e h
start_means x (cl.Sign si.Break) t gs m u w gs' e h =
    opens x ki.Break 1 si.Break (pi.Own ow.Label ∷ []) t gs m u w gs' refl (record { none = refl; operator = refl; yield = refl })
    (refl, tt) (λ y. refl) e h
start_means x (cl.Sign si.Continue) t gs m u w gs' e h =
    opens x ki.Continue 1 si.Continue (pi.Own ow.Label ∷ []) t gs m u w gs' refl (record { none = refl; operator = refl; yield = refl })
    (refl, tt) (λ y. refl) e h
start_means x (cl.Sign si.Return) t gs m u w gs' e h =
    opens x ki.Return 1 si.Return (pi.Optional expr ∷ []) t gs m u w gs' refl (record { none = refl; operator = refl; yield = refl })
    (refl, tt) (λ y. refl) e h
start_means x (cl.Sign si.Match) t gs m u w gs' e h =
    opens x ki.Match 16 si.Match (pi.Fixed si.LeftParen ∷ pi.Kid expr ∷ pi.Fixed si.RightParen ∷ pi.Fixed si.LeftBrace ∷ pi.Each so.Case ∷
    pi.Fixed si.RightBrace ∷ []) t gs m u w gs' refl (record { none = refl; operator = refl; yield = refl }) (refl, (refl, tt)) (λ y. refl)
    e h
start_means x (cl.Sign si.Switch) t gs m u w gs' e h =
    opens x ki.Switch 16 si.Switch (pi.Fixed si.LeftParen ∷ pi.Kid expr ∷ pi.Fixed si.RightParen ∷ pi.Fixed si.LeftBrace ∷ pi.Each
    so.SwitchCase ∷ pi.Fixed si.RightBrace ∷ []) t gs m u w gs' refl (record { none = refl; operator = refl; yield = refl })
    (refl, (refl, tt)) (λ y. refl) e h
start_means x (cl.Sign _) t gs m u w gs' e h = absurd h
start_means x _ t gs m u w gs' e h = absurd h

-- an expression of a level
pub level_means : (x : Source) (l : ℕ) → RowMeans x (level_row l) (so.Level l)
level_means x l c t gs m u w gs' o e h = by (nat_le l (start_level c)) refl h
  where
    by : (b : Bool) → nat_le l (start_level c) ≡ b →
        Used x (if b then before (start_row c) (part (ru.Climb l (start_level c)) ∷ []) else Fault) t gs m u w gs' →
        Tree x (so.Level l) gs m (t ∷ u) w gs'
    by false i h = absurd h
    by true i h =
        let b = used_before x (start_row c) (part (ru.Climb l (start_level c)) ∷ []) t gs m u w gs' h in
        let q = start_means x c t gs m b.v (b.v' ++ w) b.hs e b.first in
        let r = last_part x (ru.Climb l (start_level c)) b.hs b.n b.v' w gs' b.rest q.t gs m (t ∷ b.v) o i q.adds q.is
        (omega (arith, b.at)) in
        subst (λ y. Tree x (so.Level l) gs m (t ∷ y) w gs') (sym b.is) r
