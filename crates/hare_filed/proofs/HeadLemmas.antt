-- Each node of a declaration stands in the file of the declaration, and declarations stand one behind another.
use Rattle.std.proofs.Common.{◌≡◌, ◌⊎◌, inl, inr, ℕ, ◌+◌, ◌<◌, ◌≤◌, List, [], ◌∷◌, Bool, true, false, length, refl, sym, ap, ◌∙◌, subst}
use Rattle.std.proofs.Common.{suc, add-zero, arith, if◌then◌else◌}
use Rattle.std.specs.Prelude.{Contains}
use Rattle.std.specs.List.{list_all}
use Rattle.std.proofs.lemmas.Bool.{and_parts}
use Rattle.hare_tree.specs.declared.kind.Kind.{Kind}
use Rattle.hare_tree.specs.declared.kind.Kind.TheVariants as ki
use Rattle.hare_tree.specs.declared.token.Token.{Token}
use Rattle.hare_tree.specs.declared.form.Sort.TheVariants as so
use Rattle.hare_tree.specs.Node.{Head, Node, Nodes, branch, none, more, nodes_of}
use Rattle.hare_tree.specs.Forms.{form_of}
use Rattle.hare_tree.specs.Levels.{level}
use Rattle.hare_tree.specs.Spell.{start_of, spell, spells, pieces_tokens}
use Rattle.hare_tree.specs.Shape.{is_none, is_shaped, kid_pieces}
use Rattle.hare_tree.specs.Depth.{begins, first_number, numbers_behind, place_in, is_operator}
use Rattle.hare_tree.specs.Grammar.{place_of, HasPlaces, HavePlaces}
use Rattle.hare_lex.specs.Order.{is_before}
use Rattle.hare_nesting.proofs.ByTheLetter.FormKids.{has_form, have_forms, kids_have_forms, shaped_has_form, pieces_some}
use Rattle.hare_typed.specs.Erased.{heads, heads_each}
use Rattle.hare_modules.specs.Uses.{place_of as place_of_node}
use Rattle.hare_graph.proofs.Elements.{Contains-none, Contains-cases}
use Rattle.hare_depends.proofs.ListLemmas.{Contains-either}
use Rattle.hare_names.proofs.TurnLemmas.{InTurn, pieces_turns}
use Rattle.hare_names.proofs.OverTokens.Ascending.{Up, file-place_of, is_before-place_of}
use Rattle.hare_filed.proofs.ListLemmas.{Precedes}

-- ---- places of heads

least : (low high : ℕ) (ns : List ℕ) (us : Nodes) → InTurn low high ns (spells 0 us) → low ≤ high
unfolding spell
least low high ns none w = w
least low high ns (more u us) w =
    let a : low ≤ first_number ns = w.0 in
    let b : first_number ns + length (spell 0 u) ≤ high = least (first_number ns + length (spell 0 u)) high (numbers_behind ns) us w.1 in
    omega arith

-- the place of a node stands within its tokens, or right behind them
place_in-within : (h : Head) (n high : ℕ) (ns : List ℕ) (us : Nodes) → InTurn n high ns (spells 0 us) → n + place_in h us ≤ high
unfolding spell
place_in-within h n high ns none w = let a : n ≤ high = w in omega arith
place_in-within h n high ns (more u us) w = by (is_operator h.kind)
  where
    a : n ≤ first_number ns
    a = w.0

    b : first_number ns + length (spell 0 u) ≤ high
    b = least (first_number ns + length (spell 0 u)) high (numbers_behind ns) us w.1

    by : (o : Bool) → n + (if o then length (spell 0 u) else 0) ≤ high
    by true = omega (arith, a, b)
    by false = omega (arith, a, b)

mutual
  unfolding HasPlaces spell

  pub heads-in-file : (f : ℕ) (ws : List Token) (n : ℕ) (t : Node) → Up f ws → has_form t ≡ true → HasPlaces f ws n t →
      n + length (spell 0 t) < length ws → (h : Head) → Contains (heads t) h → h.place.file ≡ f
  heads-in-file f ws n (branch g ts) u k p l h c =
      by
      (λ d. all-heads-in-file f ws n high (begins g (form_of g.kind) n (spells 0 ts)) ts u turns forms p.1 l h d)
      (Contains-either h (heads_each ts) (g ∷ []) c)
    where
      high : ℕ
      high = n + length (spell 0 (branch g ts))

      turns : InTurn n high (begins g (form_of g.kind) n (spells 0 ts)) (spells 0 ts)
      turns = pieces_turns g (level g.kind g.text) (form_of g.kind) n ts k

      forms : have_forms ts ≡ true
      forms = kids_have_forms (level g.kind g.text) (kid_pieces (form_of g.kind)) ts k

      own : (b : Bool) → g.place ≡ (if b then start_of f else place_of ws (n + place_in g ts)) → g.place.file ≡ f
      own true e = ap (λ q. q.file) e
      own false e =
          let a : n + place_in g ts ≤ high = place_in-within g n high (begins g (form_of g.kind) n (spells 0 ts)) ts turns in
          let m : high < length ws = l in
          ap (λ q. q.file) e ∙ file-place_of f ws (n + place_in g ts) u (omega arith)

      last : (g ≡ h) ⊎ Contains [] h → h.place.file ≡ f
      last (inl e) = subst (λ x. x.place.file ≡ f) e (own (is_none g.kind) p.0)
      last (inr d) = absurd (Contains-none h d)

      by : (Contains (heads_each ts) h → h.place.file ≡ f) → Contains (heads_each ts) h ⊎ Contains (g ∷ []) h → h.place.file ≡ f
      by go (inl d) = go d
      by go (inr d) = last (Contains-cases g h [] d)

  all-heads-in-file : (f : ℕ) (ws : List Token) (low high : ℕ) (ns : List ℕ) (ts : Nodes) → Up f ws → InTurn low high ns (spells 0 ts) →
      have_forms ts ≡ true → HavePlaces f ws ns ts → high < length ws → (h : Head) → Contains (heads_each ts) h → h.place.file ≡ f
  all-heads-in-file f ws low high ns none u w k p l h c = absurd (Contains-none h c)
  all-heads-in-file f ws low high ns (more t ts) u w k p l h c =
      by (λ d. heads-in-file f ws (first_number ns) t u q.0 p.0 within h d)
      (λ d. all-heads-in-file f ws (first_number ns + length (spell 0 t)) high (numbers_behind ns) ts u w.1 q.1 p.1 l h d)
      (Contains-either h (heads t) (heads_each ts) c)
    where
      q : (has_form t ≡ true) × (have_forms ts ≡ true)
      q = and_parts (has_form t) (have_forms ts) k

      within : first_number ns + length (spell 0 t) < length ws
      within =
          let a : first_number ns + length (spell 0 t) ≤ high =
          least (first_number ns + length (spell 0 t)) high (numbers_behind ns) ts w.1 in
          let b : high < length ws = l in omega arith

      by : (Contains (heads t) h → h.place.file ≡ f) → (Contains (heads_each ts) h → h.place.file ≡ f) →
          Contains (heads t) h ⊎ Contains (heads_each ts) h → h.place.file ≡ f
      by x y (inl d) = x d
      by x y (inr d) = y d

-- ---- declarations side by side

pub is_shaped-among : (ts : List Node) (t : Node) → list_all (is_shaped so.Decl) ts ≡ true → Contains ts t → is_shaped so.Decl t ≡ true
is_shaped-among [] t s c = absurd (Contains-none t c)
is_shaped-among (u ∷ ts) t s c = by (λ d. is_shaped-among ts t q.1 d) (Contains-cases u t ts c)
  where
    q : (is_shaped so.Decl u ≡ true) × (list_all (is_shaped so.Decl) ts ≡ true)
    q = and_parts (is_shaped so.Decl u) (list_all (is_shaped so.Decl) ts) s

    by : (Contains ts t → is_shaped so.Decl t ≡ true) → (u ≡ t) ⊎ Contains ts t → is_shaped so.Decl t ≡ true
    by go (inl e) = subst (λ x. is_shaped so.Decl x ≡ true) e q.0
    by go (inr d) = go d

pub decls-in-file : (f : ℕ) (ws : List Token) (low high : ℕ) (ns : List ℕ) (ts : List Node) → Up f ws →
    InTurn low high ns (spells 0 (nodes_of ts)) → list_all (is_shaped so.Decl) ts ≡ true → HavePlaces f ws ns (nodes_of ts) →
    high < length ws → (t : Node) → Contains ts t → (h : Head) → Contains (heads t) h → h.place.file ≡ f
unfolding HasPlaces spell
decls-in-file f ws low high ns [] u w s p l t c h d = absurd (Contains-none t c)
decls-in-file f ws low high ns (x ∷ ts) u w s p l t c h d =
    by (λ e. decls-in-file f ws (first_number ns + length (spell 0 x)) high (numbers_behind ns) ts u w.1 q.1 p.1 l t e h d)
    (Contains-cases x t ts c)
  where
    q : (is_shaped so.Decl x ≡ true) × (list_all (is_shaped so.Decl) ts ≡ true)
    q = and_parts (is_shaped so.Decl x) (list_all (is_shaped so.Decl) ts) s

    within : first_number ns + length (spell 0 x) < length ws
    within =
        let a : first_number ns + length (spell 0 x) ≤ high =
        least (first_number ns + length (spell 0 x)) high (numbers_behind ns) (nodes_of ts) w.1 in
        let b : high < length ws = l in omega arith

    by : (Contains ts t → h.place.file ≡ f) → (x ≡ t) ⊎ Contains ts t → h.place.file ≡ f
    by go (inl e) =
        heads-in-file f ws (first_number ns) x u (shaped_has_form so.Decl x q.0) p.0 within h (subst (λ y. Contains (heads y) h) (sym e) d)
    by go (inr e) = go e

-- ---- roots of declarations

-- what is known of the kind of a declaration: it stands at its first token
record IsDeclKind (k : Kind) : Type 0 where
  present : is_none k ≡ false
  leads : is_operator k ≡ false
  some : (h : Head) (us : Nodes) → 1 ≤ length (pieces_tokens 0 h (form_of k) (spells 0 us))

-- a head of this kind
abbrev head_as : Kind → Head → Head
head_as k h = record { kind = k; place = h.place; text = h.text; number = h.number; suffix = h.suffix }

decl-kind : (k : Kind) (h : Head) (us : Nodes) → is_shaped so.Decl (branch (head_as k h) us) ≡ true → IsDeclKind k
unfolding is_shaped
decl-kind ki.Def h us e = record { present = refl; leads = refl; some = λ g vs. pieces_some g (form_of ki.Def) (spells 0 vs) refl }
decl-kind ki.GlobalLet h us e = record {
  present = refl;
  leads = refl;
  some = λ g vs. pieces_some g (form_of ki.GlobalLet) (spells 0 vs)
      refl;
}
decl-kind ki.GlobalConst h us e = record {
  present = refl;
  leads = refl;
  some = λ g vs. pieces_some g (form_of ki.GlobalConst) (spells 0 vs) refl;
}
decl-kind ki.TypeDecl h us e = record {
  present = refl;
  leads = refl;
  some = λ g vs. pieces_some g (form_of ki.TypeDecl) (spells 0 vs)
      refl;
}
decl-kind ki.Fn h us e = record { present = refl; leads = refl; some = λ g vs. pieces_some g (form_of ki.Fn) (spells 0 vs) refl }
decl-kind _ h us e = absurd cc

first-token : (h : Head) (us : Nodes) → is_operator h.kind ≡ false → place_in h us ≡ 0
first-token h none e = refl
first-token h (more u us) e = rw e refl

-- the root of a declaration stands at its first token, and it has one
record Rooted (ws : List Token) (n : ℕ) (t : Node) : Type 0 where
  place_is : place_of_node t ≡ place_of ws n
  some : 1 ≤ length (spell 0 t)

rooted : (f : ℕ) (ws : List Token) (n : ℕ) (t : Node) → is_shaped so.Decl t ≡ true → HasPlaces f ws n t → Rooted ws n t
unfolding HasPlaces spell
rooted f ws n (branch h us) s p =
    let k = decl-kind h.kind h us s in
    record {
      place_is =
          p.0 ∙ ap (λ b. if b then start_of f else place_of ws (n + place_in h us)) k.present
          ∙ ap (λ m. place_of ws (n + m)) (first-token h us k.leads) ∙ ap (place_of ws) (add-zero n);
      some = k.some h us;
    }

-- declarations side by side, each at a token in front of `high`, behind all tokens of the one before it
abbrev Roots : List Token → ℕ → ℕ → List Node → Type 0
Roots ws low high [] = low ≤ high
Roots ws low high (t ∷ ts) = (k : ℕ) × (low ≤ k) × (place_of_node t ≡ place_of ws k) × Roots ws (suc k) high ts

lower : (ws : List Token) (a b high : ℕ) (ts : List Node) → a ≤ b → Roots ws b high ts → Roots ws a high ts
lower ws a b high [] l r = let m : b ≤ high = r in omega arith
lower ws a b high (t ∷ ts) l r = let m : b ≤ r.0 = r.1 in (r.0, omega arith, r.2, r.3)

pub roots : (f : ℕ) (ws : List Token) (low high : ℕ) (ns : List ℕ) (ts : List Node) → InTurn low high ns (spells 0 (nodes_of ts)) →
    list_all (is_shaped so.Decl) ts ≡ true → HavePlaces f ws ns (nodes_of ts) → Roots ws low high ts
unfolding HasPlaces spell
roots f ws low high ns [] w s p = w
roots f ws low high ns (t ∷ ts) w s p =
    let q = and_parts (is_shaped so.Decl t) (list_all (is_shaped so.Decl) ts) s in
    let r = rooted f ws (first_number ns) t q.0 p.0 in
    let some : 1 ≤ length (spell 0 t) = r.some in (
      first_number ns,
      w.0,
      r.place_is,
      lower ws (suc (first_number ns)) (first_number ns + length (spell 0 t)) high ts (omega arith)
          (roots f ws (first_number ns + length (spell 0 t)) high (numbers_behind ns) ts w.1 q.1 p.1),
    )

least-root : (ws : List Token) (low high : ℕ) (ts : List Node) → Roots ws low high ts → low ≤ high
least-root ws low high [] r = r
least-root ws low high (t ∷ ts) r =
    let a : low ≤ r.0 = r.1 in let b : suc r.0 ≤ high = least-root ws (suc r.0) high ts r.3 in omega arith

record Root (ws : List Token) (low high : ℕ) (t : Node) : Type 0 where
  number : ℕ
  from : low ≤ number
  below : number < high
  place_is : place_of_node t ≡ place_of ws number

root-of : (ws : List Token) (low high : ℕ) (ts : List Node) (t : Node) → Roots ws low high ts → Contains ts t → Root ws low high t
root-of ws low high [] t r c = absurd (Contains-none t c)
root-of ws low high (u ∷ ts) t r c = by (λ d. root-of ws (suc r.0) high ts t r.3 d) (Contains-cases u t ts c)
  where
    by : (Contains ts t → Root ws (suc r.0) high t) → (u ≡ t) ⊎ Contains ts t → Root ws low high t
    by go (inl e) =
        let b : suc r.0 ≤ high = least-root ws (suc r.0) high ts r.3 in
        record { number = r.0; from = r.1; below = omega arith; place_is = ap place_of_node (sym e) ∙ r.2 }
    by go (inr d) =
        let m = go d in
        let a : suc r.0 ≤ m.number = m.from in
        let b : low ≤ r.0 = r.1 in
        record { number = m.number; from = omega arith; below = m.below; place_is = m.place_is }

-- ---- one before another

pub roots-ascend : (f : ℕ) (ws : List Token) (low high : ℕ) (ts : List Node) (t u : Node) → Up f ws → high ≤ length ws →
    Roots ws low high ts → Precedes ts t u → is_before (place_of_node t) (place_of_node u) ≡ true
roots-ascend f ws low high [] t u up l r c = absurd c
roots-ascend f ws low high (z ∷ ts) t u up l r (inl c) =
    let m = root-of ws (suc r.0) high ts u r.3 c.1 in
    let a : suc r.0 ≤ m.number = m.from in
    let b : m.number < high = m.below in
    subst (λ x. is_before x (place_of_node u) ≡ true) (sym (ap place_of_node (sym c.0) ∙ r.2))
    (subst (λ x. is_before (place_of ws r.0) x ≡ true) (sym m.place_is)
    (is_before-place_of f ws r.0 m.number up (omega arith) (omega arith)))
roots-ascend f ws low high (z ∷ ts) t u up l r (inr c) = roots-ascend f ws (suc r.0) high ts t u up l r.3 c
