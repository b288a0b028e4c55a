-- What stacks read, and what a row reads of which the token is used: what their rules mean, one behind the other.
use Rattle.std.proofs.Common.{◌≡◌, ℕ, ◌+◌, List, [], ◌∷◌, ◌++◌, length, refl, ap, sym, ◌∙◌, subst, arith, append_assoc}
use Rattle.std.proofs.lemmas.List.{append-nil, length-append}
use Rattle.hare_tree.specs.declared.token.Token.{Token}
use Rattle.hare_tree.specs.declared.form.Sign.{Sign}
use Rattle.hare_tree.specs.Grammar.{place_of}
use Rattle.hare_automaton.specs.declared.rule.Rule.{Rule}
use Rattle.hare_automaton.specs.declared.rule.Symbol.{Symbol}
use Rattle.hare_automaton.specs.declared.rule.Symbol.TheVariants as sy
use Rattle.hare_automaton.specs.declared.rule.Change.{Change}
use Rattle.hare_automaton.specs.Rows.{Row, Fault, Skips, Uses, part, before, led_by, or_skips}
use Rattle.hare_automaton.specs.Engine.{Group, close, all_changed}
use Rattle.hare_automaton.proofs.Machine.Steps.{all_changed-append}
use Rattle.hare_prefixes.proofs.Soundness.Trees.{Source, Begun}
use Rattle.hare_prefixes.proofs.Soundness.Means.{Means}

-- ---- stacks

-- a sign that was waited for
pub record Wanted (x : Source) (d : Sign) (gs : List Group) (m : ℕ) (u w : List Token) (gs' : List Group)
    (M : List Group → ℕ → List Token → List Token → List Group → Type 0) : Type 0 where
  pub t : Token
  pub v : List Token
  pub n : ℕ
  pub is : u ≡ t ∷ v
  pub begun : Begun x d t m n
  pub rest : M gs n v w gs'

-- what a rule read
pub record Parted (x : Source) (r : Rule) (gs : List Group) (m : ℕ) (u w : List Token) (gs' : List Group)
    (M : List Group → ℕ → List Token → List Token → List Group → Type 0) : Type 0 where
  pub v : List Token
  pub v' : List Token
  pub n : ℕ
  pub hs : List Group
  pub is : u ≡ v ++ v'
  pub at : n ≡ m + length v
  pub part : Means x r gs m v (v' ++ w) hs
  pub rest : M hs n v' w gs'

-- the symbols read these tokens, in front of `w`
abbrev pub Reads : Source → List Symbol → List Group → ℕ → List Token → List Token → List Group → Type 0
Reads x [] gs m u w gs' = (u ≡ []) × (gs' ≡ gs)
Reads x (sy.Close k ∷ st) gs m u w gs' = Reads x st (close k gs) m u w gs'
Reads x (sy.Want d ∷ st) gs m u w gs' = Wanted x d gs m u w gs' (Reads x st)
Reads x (sy.Part r ∷ st) gs m u w gs' = Parted x r gs m u w gs' (Reads x st)

-- what two stacks read, one above the other
pub record Joined (x : Source) (ss st : List Symbol) (gs : List Group) (m : ℕ) (u w : List Token) (gs' : List Group) : Type 0 where
  pub v : List Token
  pub v' : List Token
  pub n : ℕ
  pub hs : List Group
  pub is : u ≡ v ++ v'
  pub at : n ≡ m + length v
  pub first : Reads x ss gs m v (v' ++ w) hs
  pub rest : Reads x st hs n v' w gs'

pub join : (x : Source) (ss st : List Symbol) (gs : List Group) (m : ℕ) (u w : List Token) (gs' : List Group) →
    Reads x (ss ++ st) gs m u w gs' → Joined x ss st gs m u w gs'
join x [] st gs m u w gs' h = record { v = []; v' = u; n = m; hs = gs; is = refl; at = omega arith; first = (refl, refl); rest = h }
join x (sy.Close k ∷ ss) st gs m u w gs' h =
    let r = join x ss st (close k gs) m u w gs'
    h in record { v = r.v; v' = r.v'; n = r.n; hs = r.hs; is = r.is; at = r.at; first = r.first; rest = r.rest }
join x (sy.Want d ∷ ss) st gs m u w gs' h =
    let r = join x ss st gs h.n h.v w gs' h.rest in
    record {
      v = h.t ∷ r.v;
      v' = r.v';
      n = r.n;
      hs = r.hs;
      is = h.is ∙ ap (λ l. h.t ∷ l) r.is;
      at = omega (arith, r.at, h.begun.next);
      first = record { t = h.t; v = r.v; n = h.n; is = refl; begun = h.begun; rest = r.first };
      rest = r.rest;
    }
join x (sy.Part p ∷ ss) st gs m u w gs' h =
    let r = join x ss st h.hs h.n h.v' w gs' h.rest in
    let e : h.v' ++ w ≡ r.v ++ (r.v' ++ w) = ap (λ l. l ++ w) r.is ∙ append_assoc r.v r.v' w in
    record {
      v = h.v ++ r.v;
      v' = r.v';
      n = r.n;
      hs = r.hs;
      is = h.is ∙ ap (λ l. h.v ++ l) r.is ∙ sym (append_assoc h.v r.v r.v');
      at = omega (arith, r.at, h.at, length-append h.v r.v);
      first = record {
        v = h.v;
        v' = r.v;
        n = h.n;
        hs = h.hs;
        is = refl;
        at = h.at;
        part = subst (λ z. Means x p gs m h.v z h.hs) e h.part;
        rest = r.first;
      };
      rest = r.rest;
    }

-- the last rule of a stack
pub last_part : (x : Source) (r : Rule) (gs : List Group) (m : ℕ) (u w : List Token) (gs' : List Group) →
    Reads x (part r ∷ []) gs m u w gs' → Means x r gs m u w gs'
last_part x r gs m u w gs' h =
    let e : h.v' ≡ [] = h.rest.0 in
    let i : u ≡ h.v = h.is ∙ ap (λ l. h.v ++ l) e ∙ append-nil h.v in
    let a : Means x r gs m h.v w h.hs = subst (λ l. Means x r gs m h.v (l ++ w) h.hs) e h.part in
    let b : Means x r gs m u w h.hs = subst (λ l. Means x r gs m l w h.hs) (sym i) a in
    subst (λ l. Means x r gs m u w l) (sym h.rest.1) b

-- ---- rows

-- the token `t` is used, and these symbols read what stands behind it
pub record Goes (x : Source) (ss : List Symbol) (hs : List Group) (t : Token) (m : ℕ) (u w : List Token) (gs' : List Group) : Type 0 where
  pub n : ℕ
  pub place : place_of x.tokens m ≡ t.place
  pub at : n ≡ m + 1
  pub reads : Reads x ss hs n u w gs'

-- the row uses the token `t`
abbrev pub Used : Source → Row → Token → List Group → ℕ → List Token → List Token → List Group → Type 0
Used x Fault t gs m u w gs' = ⊥
Used x (Skips cs) t gs m u w gs' = ⊥
Used x (Uses cs ss) t gs m u w gs' = Goes x ss (all_changed x.file t cs gs) t m u w gs'

-- the place of the token
pub used_place : (x : Source) (r : Row) (t : Token) (gs : List Group) (m : ℕ) (u w : List Token) (gs' : List Group) →
    Used x r t gs m u w gs' → place_of x.tokens m ≡ t.place
used_place x Fault t gs m u w gs' h = absurd h
used_place x (Skips cs) t gs m u w gs' h = absurd h
used_place x (Uses cs ss) t gs m u w gs' h = h.place

-- the row by itself, and what stands behind it
pub record Before (x : Source) (r : Row) (ss : List Symbol) (t : Token) (gs : List Group) (m : ℕ) (u w : List Token)
    (gs' : List Group) : Type 0 where
  pub v : List Token
  pub v' : List Token
  pub n : ℕ
  pub hs : List Group
  pub is : u ≡ v ++ v'
  pub at : n ≡ m + (length v + 1)
  pub first : Used x r t gs m v (v' ++ w) hs
  pub rest : Reads x ss hs n v' w gs'

pub used_before : (x : Source) (r : Row) (ss : List Symbol) (t : Token) (gs : List Group) (m : ℕ) (u w : List Token) (gs' : List Group) →
    Used x (before r ss) t gs m u w gs' → Before x r ss t gs m u w gs'
used_before x Fault ss t gs m u w gs' h = absurd h
used_before x (Skips cs) ss t gs m u w gs' h = absurd h
used_before x (Uses cs rs) ss t gs m u w gs' h =
    let r = join x rs ss (all_changed x.file t cs gs) h.n u w gs' h.reads in
    record {
      v = r.v;
      v' = r.v';
      n = r.n;
      hs = r.hs;
      is = r.is;
      at = omega (arith, r.at, h.at);
      first =
          record { n = h.n; place = h.place; at = h.at; reads = r.first };
      rest = r.rest;
    }

-- a row that uses the token after some changes
pub used_led : (x : Source) (ds : List Change) (r : Row) (t : Token) (gs : List Group) (m : ℕ) (u w : List Token) (gs' : List Group) →
    Used x (led_by ds r) t gs m u w gs' → Used x r t (all_changed x.file t ds gs) m u w gs'
used_led x ds Fault t gs m u w gs' h = h
used_led x ds (Skips cs) t gs m u w gs' h = h
used_led x ds (Uses cs rs) t gs m u w gs' h =
    record {
      n = h.n;
      place = h.place;
      at = h.at;
      reads = subst (λ y. Reads x rs y h.n u w gs') (all_changed-append x.file t ds cs gs)
          h.reads;
    }

pub used_or : (x : Source) (r : Row) (ds : List Change) (t : Token) (gs : List Group) (m : ℕ) (u w : List Token) (gs' : List Group) →
    Used x (or_skips r ds) t gs m u w gs' → Used x r t gs m u w gs'
used_or x Fault ds t gs m u w gs' h = h
used_or x (Skips cs) ds t gs m u w gs' h = h
used_or x (Uses cs rs) ds t gs m u w gs' h = h
