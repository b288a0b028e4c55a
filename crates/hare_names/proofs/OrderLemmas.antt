-- The paths of a file stand in it, in the order in which they are listed.
use Rattle.std.proofs.Common.{◌≡◌, ◌⊎◌, inl, inr, ℕ, ◌+◌, ◌<◌, ◌≤◌, List, [], ◌∷◌, ◌++◌, Bool, true, false, ◌&&◌, ◌||◌, map, length, refl}
use Rattle.std.proofs.Common.{sym, ap, ◌∙◌, subst, suc, add-zero, true≢false, arith, if◌then◌else◌}
use Rattle.std.specs.Prelude.{Contains}
use Rattle.std.specs.List.{flat_map}
use Rattle.std.proofs.lemmas.Bool.{and_parts}
use Rattle.hare_tree.specs.declared.kind.Kind.{Kind}
use Rattle.hare_tree.specs.declared.kind.Kind.TheVariants as ki
use Rattle.hare_tree.specs.declared.place.Place.{Place}
use Rattle.hare_tree.specs.declared.token.Token.{Token}
use Rattle.hare_tree.specs.declared.form.Lead.TheVariants as le
use Rattle.hare_tree.specs.declared.form.Own.TheVariants as ow
use Rattle.hare_tree.specs.declared.form.Piece.TheVariants as pi
use Rattle.hare_tree.specs.declared.form.Sign.TheVariants as si
use Rattle.hare_tree.specs.declared.form.Sort.TheVariants as so
use Rattle.hare_tree.specs.declared.tree.FileTree.{FileTree}
use Rattle.hare_tree.specs.Node.{Head, Node, Nodes, branch, none, more, nodes_of}
use Rattle.hare_tree.specs.Forms.{form_of, expr}
use Rattle.hare_tree.specs.Levels.{level}
use Rattle.hare_tree.specs.Spell.{Spelled, start_of, spell, spells, pieces_tokens}
use Rattle.hare_tree.specs.Shape.{is_none, is_shaped, are_kids, kid_pieces}
use Rattle.hare_tree.specs.Depth.{begins, begins_led, first_number, numbers_behind, place_in, is_node, is_operator}
use Rattle.hare_tree.specs.Grammar.{place_of, HasPlaces, HavePlaces}
use Rattle.hare_lex.specs.Order.{is_before}
use Rattle.hare_nesting.proofs.ByTheLetter.FormKids.{has_form, have_forms, kids_have_forms, all_have_forms, node_some}
use Rattle.hare_modules.specs.Uses.{place_of as place_of_node}
use Rattle.hare_graph.proofs.Elements.{Contains-none, Contains-cases, Contains-here, Contains-behind}
use Rattle.hare_names.specs.Scopes.{Scopes, with_locals, is_binding, is_for_each, bindings_in, bound_by, bound_itself}
use Rattle.hare_names.specs.Paths.{Path, path_of, is_type_path, is_value_path, before_kids, scopes_within, paths_in, paths_among}
use Rattle.hare_names.specs.Paths.{paths_of_loop, paths_of}
use Rattle.hare_names.specs.Rises.{Rises, IsOrdered}
use Rattle.hare_names.specs.Answers.{IsFileOf}
use Rattle.hare_names.specs.Bindings.{bindings_of, bindings_of_all, Ascend, BindingsAscend}
use Rattle.hare_names.proofs.TurnLemmas.{InTurn, wider, pieces_turns}
use Rattle.hare_names.proofs.OverTokens.Ascending.{Up, file-place_of, is_before-place_of}
use Rattle.hare_names.proofs.OverTokens.Standing.{Standing, standing}

-- ---- paths by numbers

module _ {A : Type 0} (place : A → Place) where
  -- each stands before those behind it
  abbrev Ascending : List A → Type 0
  Ascending [] = Unit {0}
  Ascending (p ∷ ps) = ((q : A) → Contains ps q → is_before (place p) (place q) ≡ true) × Ascending ps

  -- each element stands at a token behind that of the one before it, from `low` on and in front of `high`
  abbrev pub StandIn : List Token → ℕ → ℕ → List A → Type 0
  StandIn ws low high [] = low ≤ high
  StandIn ws low high (p ∷ ps) = (k : ℕ) × (low ≤ k) × (place p ≡ place_of ws k) × StandIn ws (suc k) high ps

  lower : (ws : List Token) (a b c : ℕ) (ps : List A) → a ≤ b → StandIn ws b c ps → StandIn ws a c ps
  lower ws a b c [] l s = omega arith
  lower ws a b c (p ∷ ps) l s = let m : b ≤ s.0 = s.1 in (s.0, omega arith, s.2, s.3)

  both-stand : (ws : List Token) (a b c : ℕ) (ps qs : List A) → StandIn ws a b ps → StandIn ws b c qs → StandIn ws a c (ps ++ qs)
  both-stand ws a b c [] qs s t = lower ws a b c qs s t
  both-stand ws a b c (p ∷ ps) qs s t = (s.0, s.1, s.2, both-stand ws (suc s.0) b c ps qs s.3 t)

  raise : (ws : List Token) (a b c : ℕ) (ps : List A) → b ≤ c → StandIn ws a b ps → StandIn ws a c ps
  raise ws a b c [] l s = omega arith
  raise ws a b c (p ∷ ps) l s = (s.0, s.1, s.2, raise ws (suc s.0) b c ps l s.3)

  least-most : (ws : List Token) (low high : ℕ) (ps : List A) → StandIn ws low high ps → low ≤ high
  least-most ws low high [] s = s
  least-most ws low high (p ∷ ps) s = let a : low ≤ s.0 = s.1 in let b : suc s.0 ≤ high = least-most ws (suc s.0) high ps s.3 in omega arith

  record Numbered (ws : List Token) (low high : ℕ) (p : A) : Type 0 where
    number : ℕ
    least : low ≤ number
    most : number < high
    place_is : place p ≡ place_of ws number

  number-of : (ws : List Token) (low high : ℕ) (ps : List A) (p : A) → StandIn ws low high ps → Contains ps p → Numbered ws low high p
  number-of ws low high [] p s c = absurd (Contains-none p c)
  number-of ws low high (q ∷ ps) p s c = by (λ d. number-of ws (suc s.0) high ps p s.3 d) (Contains-cases q p ps c)
    where
      by : (Contains ps p → Numbered ws (suc s.0) high p) → (q ≡ p) ⊎ Contains ps p → Numbered ws low high p
      by go (inl e) =
          let l : suc s.0 ≤ high = least-most ws (suc s.0) high ps s.3 in
          record { number = s.0; least = s.1; most = omega arith; place_is = ap place (sym e) ∙ s.2 }
      by go (inr d) =
          let n = go d in
          let a : suc s.0 ≤ n.number = n.least in
          let b : low ≤ s.0 = s.1 in
          record { number = n.number; least = omega arith; most = n.most; place_is = n.place_is }

  stand-rises : (f : ℕ) (ws : List Token) (low high : ℕ) (ps : List A) → Up f ws → high ≤ length ws → StandIn ws low high ps → Ascending ps
  stand-rises f ws low high [] u l s = tt
  stand-rises f ws low high (p ∷ ps) u l s = (
    (λ q c. (let n = number-of ws (suc s.0) high ps q s.3 c in let a : suc s.0 ≤ n.number = n.least in let b : n.number < high = n.most in
        subst (λ x. is_before x (place q) ≡ true) (sym s.2)
        (subst (λ x. is_before (place_of ws s.0) x ≡ true) (sym n.place_is)
        (is_before-place_of f ws s.0 n.number u (omega arith) (omega arith))))),
    stand-rises f ws (suc s.0) high ps u l s.3,
  )

abbrev path_place : Path → Place
path_place p = p.place

abbrev node_place : Node → Place
node_place t = place_of_node t

-- ---- trees

-- a path has no kids
no-pieces : (k : Kind) → (is_type_path k || is_value_path k) ≡ true → kid_pieces (form_of k) ≡ []
no-pieces ki.TypePath e = refl
no-pieces ki.Path e = refl
no-pieces _ e = absurd (true≢false (sym e))

path-is_node : (k : Kind) → (is_type_path k || is_value_path k) ≡ true → (is_node k ≡ true) × (is_none k ≡ false)
path-is_node ki.TypePath e = (refl, refl)
path-is_node ki.Path e = (refl, refl)
path-is_node _ e = absurd (true≢false (sym e))

childless : (n : ℕ) (ts : Nodes) → are_kids n [] ts ≡ true → ts ≡ none
unfolding is_shaped
childless n none e = refl
childless n (more t ts) e = absurd (true≢false (sym e))

path-kids : (h : Head) (ts : Nodes) → (is_type_path h.kind || is_value_path h.kind) ≡ true → has_form (branch h ts) ≡ true → ts ≡ none
path-kids h ts e k = childless (level h.kind h.text) ts (subst (λ ps. are_kids (level h.kind h.text) ps ts ≡ true) (no-pieces h.kind e) k)

-- the place of a node that is no operator and not absent, as a path is
leaf-place : (f : ℕ) (ws : List Token) (n : ℕ) (h : Head) → is_none h.kind ≡ false →
    h.place ≡ (if is_none h.kind then start_of f else place_of ws (n + place_in h none)) → h.place ≡ place_of ws n
leaf-place f ws n h i e = e ∙ ap (λ b. if b then start_of f else place_of ws (n + 0)) i ∙ ap (place_of ws) (add-zero n)

mutual
  unfolding HasPlaces spell

  stand-in : (f : ℕ) (ws : List Token) (n m : ℕ) (ss : Scopes) (t : Node) → has_form t ≡ true → HasPlaces f ws n t →
      StandIn path_place ws n (n + length (spell 0 t)) (paths_in m ss t)
  stand-in f ws n m ss (branch h ts) k p =
      own (is_type_path h.kind || is_value_path h.kind) refl
      (by (is_for_each h.kind)
      (stand-loop f ws n (n + length (spell 0 (branch h ts))) (before_kids m h.kind) (scopes_within h.kind ss)
      (begins h (form_of h.kind) n (spells 0 ts)) ts turns forms p.1)
      (stand-among f ws n (n + length (spell 0 (branch h ts))) (before_kids m h.kind) (scopes_within h.kind ss)
      (begins h (form_of h.kind) n (spells 0 ts)) ts turns forms p.1))
    where
      turns : InTurn n (n + length (spell 0 (branch h ts))) (begins h (form_of h.kind) n (spells 0 ts)) (spells 0 ts)
      turns = pieces_turns h (level h.kind h.text) (form_of h.kind) n ts k

      forms : have_forms ts ≡ true
      forms = kids_have_forms (level h.kind h.text) (kid_pieces (form_of h.kind)) ts k

      kids : List Path
      kids = if is_for_each h.kind then paths_of_loop (before_kids m h.kind) (scopes_within h.kind ss) ts else paths_among
          (before_kids m h.kind) (scopes_within h.kind ss) ts

      by : (b : Bool) →
          StandIn path_place ws n (n + length (spell 0 (branch h ts))) (paths_of_loop (before_kids m h.kind) (scopes_within h.kind ss) ts) →
          StandIn path_place ws n (n + length (spell 0 (branch h ts))) (paths_among (before_kids m h.kind) (scopes_within h.kind ss) ts) →
          StandIn path_place ws n (n + length (spell 0 (branch h ts)))
          (if b then paths_of_loop (before_kids m h.kind) (scopes_within h.kind ss) ts else paths_among (before_kids m h.kind)
          (scopes_within h.kind ss) ts)
      by true a b = a
      by false a b = b

      no-paths : ts ≡ none → kids ≡ []
      no-paths e = ap (λ us. if is_for_each h.kind then paths_of_loop (before_kids m h.kind) (scopes_within h.kind ss) us else paths_among
          (before_kids m h.kind) (scopes_within h.kind ss) us) e ∙ neither (is_for_each h.kind)
        where
          neither : (b : Bool) →
              (if b then paths_of_loop (before_kids m h.kind) (scopes_within h.kind ss) none else paths_among (before_kids m h.kind)
              (scopes_within h.kind ss) none) ≡ []
          neither true = refl
          neither false = refl

      own : (b : Bool) → (is_type_path h.kind || is_value_path h.kind) ≡ b →
          StandIn path_place ws n (n + length (spell 0 (branch h ts))) kids →
          StandIn path_place ws n (n + length (spell 0 (branch h ts))) ((if b then path_of h ss ∷ [] else []) ++ kids)
      own false e s = s
      own true e s =
          let none-left = path-kids h ts e k in
          let is = path-is_node h.kind e in
          let some : 1 ≤ length (spell 0 (branch h ts)) = node_some (branch h ts) is.0 in
          let at = leaf-place f ws n h is.1 (subst (λ us. h.place ≡
          (if is_none h.kind then start_of f else place_of ws (n + place_in h us))) none-left p.0) in
          subst (λ ps. StandIn path_place ws n (n + length (spell 0 (branch h ts))) (path_of h ss ∷ ps)) (sym (no-paths none-left))
          (n, omega arith, at, omega arith)

  stand-among : (f : ℕ) (ws : List Token) (low high m : ℕ) (ss : Scopes) (ns : List ℕ) (ts : Nodes) → InTurn low high ns (spells 0 ts) →
      have_forms ts ≡ true → HavePlaces f ws ns ts → StandIn path_place ws low high (paths_among m ss ts)
  stand-among f ws low high m ss ns none w k p = w
  stand-among f ws low high m ss ns (more t ts) w k p =
      let q = and_parts (has_form t) (have_forms ts) k in
      both-stand path_place ws low (first_number ns + length (spell 0 t)) high (paths_in m ss t)
      (paths_among (m + bindings_in t) (with_locals (bound_by m t) ss) ts)
      (lower path_place ws low (first_number ns) (first_number ns + length (spell 0 t)) (paths_in m ss t) w.0
      (stand-in f ws (first_number ns) m ss t q.0 p.0))
      (stand-among f ws (first_number ns + length (spell 0 t)) high (m + bindings_in t) (with_locals (bound_by m t) ss)
      (numbers_behind ns) ts w.1 q.1 p.1)

  stand-loop : (f : ℕ) (ws : List Token) (low high m : ℕ) (ss : Scopes) (ns : List ℕ) (ts : Nodes) → InTurn low high ns (spells 0 ts) →
      have_forms ts ≡ true → HavePlaces f ws ns ts → StandIn path_place ws low high (paths_of_loop m ss ts)
  stand-loop f ws low high m ss ns none w k p = w
  stand-loop f ws low high m ss ns (more b none) w k p =
      let q = and_parts (has_form b) true k in
      raise path_place ws low (first_number ns + length (spell 0 b)) high (paths_in m ss b) w.1
      (lower path_place ws low (first_number ns) (first_number ns + length (spell 0 b)) (paths_in m ss b) w.0
      (stand-in f ws (first_number ns) m ss b q.0 p.0))
  stand-loop f ws low high m ss ns (more b (more over ts)) w k p =
      let q = and_parts (has_form b) (has_form over && have_forms ts) k in
      let r = and_parts (has_form over) (have_forms ts) q.1 in
      let ms = numbers_behind ns in
      let n = first_number ns in
      let j = first_number ms in
      both-stand path_place ws low (j + length (spell 0 over)) high (paths_in m ss b ++ paths_in (m + bindings_in b) ss over)
      (paths_among (m + bindings_in b + bindings_in over) (with_locals (bound_itself m b) ss) ts)
      (both-stand path_place ws low (n + length (spell 0 b)) (j + length (spell 0 over)) (paths_in m ss b)
      (paths_in (m + bindings_in b) ss over)
      (lower path_place ws low n (n + length (spell 0 b)) (paths_in m ss b) w.0 (stand-in f ws n m ss b q.0 p.0))
      (lower path_place ws (n + length (spell 0 b)) j (j + length (spell 0 over)) (paths_in (m + bindings_in b) ss over) w.1.0
      (stand-in f ws j (m + bindings_in b) ss over r.0 p.1.0)))
      (stand-among f ws (j + length (spell 0 over)) high (m + bindings_in b + bindings_in over) (with_locals (bound_itself m b) ss)
      (numbers_behind ms) ts w.1.1 r.1 p.1.1)

-- ---- files

stand-decls : (f : ℕ) (ws : List Token) (low high : ℕ) (ns : List ℕ) (ts : List Node) → InTurn low high ns (spells 0 (nodes_of ts)) →
    have_forms (nodes_of ts) ≡ true → HavePlaces f ws ns (nodes_of ts) → StandIn path_place ws low high (flat_map paths_of ts)
unfolding HasPlaces spell
stand-decls f ws low high ns [] w k p = w
stand-decls f ws low high ns (t ∷ ts) w k p =
    let q = and_parts (has_form t) (have_forms (nodes_of ts)) k in
    both-stand path_place ws low (first_number ns + length (spell 0 t)) high (paths_of t) (flat_map paths_of ts)
    (lower path_place ws low (first_number ns) (first_number ns + length (spell 0 t)) (paths_of t) w.0
    (stand-in f ws (first_number ns) 0 [] t q.0 p.0))
    (stand-decls f ws (first_number ns + length (spell 0 t)) high (numbers_behind ns) ts w.1 q.1 p.1)

-- ---- bindings

-- the kids of a binding begin behind its first token
binding-turns : (h : Head) (k : Kind) (n m : ℕ) (us : Nodes) → is_binding k ≡ true → are_kids m (kid_pieces (form_of k)) us ≡ true →
    InTurn (suc n) (n + length (pieces_tokens 0 h (form_of k) (spells 0 us))) (begins h (form_of k) n (spells 0 us)) (spells 0 us)
binding-turns h ki.Param n m us e k = wider (n + 1) _ (suc n) _ _ (spells 0 us) (omega arith) (omega arith)
    (pieces_turns h m (pi.Fixed si.Colon ∷ pi.Kid so.Type ∷ []) (n + 1) us k)
binding-turns h ki.Let n m us e k = wider (n + 1) _ (suc n) _ _ (spells 0 us) (omega arith) (omega arith)
    (pieces_turns h m (pi.Own ow.Name ∷ pi.Led si.Colon so.Type ∷ pi.Fixed si.Equals ∷ pi.Kid expr ∷ []) (n + 1) us k)
binding-turns h ki.Const n m us e k = wider (n + 1) _ (suc n) _ _ (spells 0 us) (omega arith) (omega arith)
    (pieces_turns h m (pi.Own ow.Name ∷ pi.Led si.Colon so.Type ∷ pi.Fixed si.Equals ∷ pi.Kid expr ∷ []) (n + 1) us k)
binding-turns h ki.Binding n m us e k = wider (n + 1) _ (suc n) _ _ (spells 0 us) (omega arith) (omega arith)
    (pieces_turns h m (pi.Own ow.Name ∷ pi.Optional so.ByRef ∷ pi.Fixed si.DotDot ∷ []) (n + 1) us k)
binding-turns h ki.PatternLet n m us e k = wider (n + 1) _ (suc n) _ _ (spells 0 us) (omega arith) (omega arith)
    (pieces_turns h m (pi.Own ow.Name ∷ pi.Fixed si.Colon ∷ pi.Kid so.Type ∷ []) (n + 1) us k)
binding-turns h _ n m us e k = absurd (true≢false (sym e))

-- it stands at its first token
binding-kind : (k : Kind) → is_binding k ≡ true → (is_none k ≡ false) × (is_operator k ≡ false)
binding-kind ki.Param e = (refl, refl)
binding-kind ki.Let e = (refl, refl)
binding-kind ki.Const e = (refl, refl)
binding-kind ki.Binding e = (refl, refl)
binding-kind ki.PatternLet e = (refl, refl)
binding-kind _ e = absurd (true≢false (sym e))

first-token : (h : Head) (us : Nodes) → is_operator h.kind ≡ false → place_in h us ≡ 0
first-token h none e = refl
first-token h (more u us) e = rw e refl

binding-place : (f : ℕ) (ws : List Token) (n : ℕ) (h : Head) (us : Nodes) → is_binding h.kind ≡ true →
    h.place ≡ (if is_none h.kind then start_of f else place_of ws (n + place_in h us)) → h.place ≡ place_of ws n
binding-place f ws n h us e p =
    let is = binding-kind h.kind e in
    p ∙ ap (λ b. if b then start_of f else place_of ws (n + place_in h us)) is.0 ∙ ap (λ k. place_of ws (n + k)) (first-token h us is.1)
    ∙ ap (place_of ws) (add-zero n)

mutual
  unfolding HasPlaces spell

  bindings-stand : (f : ℕ) (ws : List Token) (n : ℕ) (t : Node) → has_form t ≡ true → HasPlaces f ws n t →
      StandIn node_place ws n (n + length (spell 0 t)) (bindings_of t)
  bindings-stand f ws n (branch h ts) k p =
      by (is_binding h.kind) refl
      (λ low turns. all-bindings-stand f ws low (n + length (spell 0 (branch h ts))) (begins h (form_of h.kind) n (spells 0 ts)) ts turns
      (kids_have_forms (level h.kind h.text) (kid_pieces (form_of h.kind)) ts k) p.1)
    where
      by : (b : Bool) → is_binding h.kind ≡ b →
          ((low : ℕ) → InTurn low (n + length (spell 0 (branch h ts))) (begins h (form_of h.kind) n (spells 0 ts)) (spells 0 ts) →
          StandIn node_place ws low (n + length (spell 0 (branch h ts))) (bindings_of_all ts)) →
          StandIn node_place ws n (n + length (spell 0 (branch h ts))) ((if b then branch h ts ∷ [] else []) ++ bindings_of_all ts)
      by true e go = (n, omega arith, binding-place f ws n h ts e p.0, go (suc n) (binding-turns h h.kind n (level h.kind h.text) ts e k))
      by false e go = go n (pieces_turns h (level h.kind h.text) (form_of h.kind) n ts k)

  all-bindings-stand : (f : ℕ) (ws : List Token) (low high : ℕ) (ns : List ℕ) (ts : Nodes) → InTurn low high ns (spells 0 ts) →
      have_forms ts ≡ true → HavePlaces f ws ns ts → StandIn node_place ws low high (bindings_of_all ts)
  all-bindings-stand f ws low high ns none w k p = w
  all-bindings-stand f ws low high ns (more t ts) w k p =
      let q = and_parts (has_form t) (have_forms ts) k in
      both-stand node_place ws low (first_number ns + length (spell 0 t)) high (bindings_of t) (bindings_of_all ts)
      (lower node_place ws low (first_number ns) (first_number ns + length (spell 0 t)) (bindings_of t) w.0
      (bindings-stand f ws (first_number ns) t q.0 p.0))
      (all-bindings-stand f ws (first_number ns + length (spell 0 t)) high (numbers_behind ns) ts w.1 q.1 p.1)

-- ---- one declaration of a file

-- a declaration begins behind so many tokens
record Begins (f : ℕ) (ws : List Token) (high : ℕ) (t : Node) : Type 0 where
  at : ℕ
  has : has_form t ≡ true
  placed : HasPlaces f ws at t
  within : at + length (spell 0 t) ≤ high

turns-least : (low high : ℕ) (ns : List ℕ) (us : List Spelled) → InTurn low high ns us → low ≤ high
turns-least low high ns [] w = w
turns-least low high ns (u ∷ us) w = let a : low ≤ first_number ns = w.0 in let b : first_number ns + length u.1 ≤ high = turns-least
    (first_number ns + length u.1) high (numbers_behind ns) us w.1 in omega arith

decl-begins : (f : ℕ) (ws : List Token) (low high : ℕ) (ns : List ℕ) (ts : List Node) (t : Node) →
    InTurn low high ns (spells 0 (nodes_of ts)) → have_forms (nodes_of ts) ≡ true → HavePlaces f ws ns (nodes_of ts) → Contains ts t →
    Begins f ws high t
unfolding HasPlaces spell
decl-begins f ws low high ns [] t w k p c = absurd (Contains-none t c)
decl-begins f ws low high ns (u ∷ us) t w k p c =
    let q = and_parts (has_form u) (have_forms (nodes_of us)) k in
    by q.0 (λ d. decl-begins f ws (first_number ns + length (spell 0 u)) high (numbers_behind ns) us t w.1 q.1 p.1 d)
    (Contains-cases u t us c)
  where
    by : has_form u ≡ true → (Contains us t → Begins f ws high t) → (u ≡ t) ⊎ Contains us t → Begins f ws high t
    by e go (inr d) = go d
    by e go (inl same) =
        subst (Begins f ws high) same
        record {
          at = first_number ns;
          has = e;
          placed = p.0;
          within = turns-least (first_number ns + length (spell 0 u)) high
              (numbers_behind ns) (spells 0 (nodes_of us)) w.1;
        }

ascends : (ns : List Node) → Ascending node_place ns → Ascend (map node_place ns)
ascends [] a = tt
ascends (n ∷ ns) a = ((λ q c. by q (among ns q c)), ascends ns a.1)
  where
    among : (ms : List Node) (q : Place) → Contains (map node_place ms) q → (m : Node) × Contains ms m × (node_place m ≡ q)
    among [] q c = absurd (Contains-none q c)
    among (m ∷ ms) q c = by-cases (λ d. among ms q d) (Contains-cases (node_place m) q (map node_place ms) c)
      where
        by-cases : (Contains (map node_place ms) q → (r : Node) × Contains ms r × (node_place r ≡ q)) →
            (node_place m ≡ q) ⊎ Contains (map node_place ms) q → (r : Node) × Contains (m ∷ ms) r × (node_place r ≡ q)
        by-cases go (inl e) = (m, Contains-here m ms, e)
        by-cases go (inr d) = let r = go d in (r.0, Contains-behind m r.0 ms r.1, r.2)

    by : (q : Place) → ((m : Node) × Contains ns m × (node_place m ≡ q)) → is_before (node_place n) q ≡ true
    by q m = subst (λ x. is_before (node_place n) x ≡ true) m.2 (a.0 m.0 m.1)

pub ordered : (number : ℕ) (tree : FileTree) → IsFileOf number tree → IsOrdered number tree
ordered number tree h = record {
  of_file = λ p c. (let n = number-of path_place k.ws k.first k.high
      (flat_map paths_of tree.decls) p stands c in let m : n.number < k.high = n.most in let l : k.high < length k.ws = k.enough in ap
      (λ x. x.file) n.place_is ∙ file-place_of number k.ws n.number k.up (omega arith));
  rises = paths-rise (flat_map paths_of tree.decls) (stand-rises path_place number k.ws k.first k.high
      (flat_map paths_of tree.decls) k.up enough stands);
}
  where
    k : Standing number tree
    k = standing number tree h

    enough : k.high ≤ length k.ws
    enough = let l : k.high < length k.ws = k.enough in omega arith

    stands : StandIn path_place k.ws k.first k.high (flat_map paths_of tree.decls)
    stands = stand-decls tree.file k.ws k.first k.high
        (begins_led le.Nothing k.first (spells 0 (nodes_of tree.decls))) tree.decls k.turns
        (all_have_forms so.Decl tree.decls k.shaped) k.placed

    paths-rise : (ps : List Path) → Ascending path_place ps → Rises ps
    paths-rise [] a = tt
    paths-rise (p ∷ ps) a = (a.0, paths-rise ps a.1)

pub bindings_ascend : BindingsAscend
bindings_ascend number tree t h c =
    let k = standing number tree h in
    let b = decl-begins tree.file k.ws k.first k.high (begins_led le.Nothing k.first (spells 0 (nodes_of tree.decls))) tree.decls t
    k.turns (all_have_forms so.Decl tree.decls k.shaped) k.placed c in
    let within : b.at + length (spell 0 t) ≤ k.high = b.within in
    let enough : k.high < length k.ws = k.enough in
    ascends (bindings_of t) (stand-rises node_place number k.ws b.at (b.at + length (spell 0 t)) (bindings_of t) k.up (omega arith)
    (bindings-stand tree.file k.ws b.at t b.has b.placed))
