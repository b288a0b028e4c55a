-- Labels without their hints: a jump means the same, and stands inside the same.
use Rattle.std.proofs.Common.{◌≡◌, ℕ, Bool, true, false, List, [], ◌∷◌, ◌++◌, map, reverse, refl, ap, sym, ◌∙◌}
use Rattle.std.specs.Prelude.{find, Option, Some, None, is_some, option_map, cond}
use Rattle.std.proofs.lemmas.List.{map-append, reverse-append}
use Rattle.hare_tree.specs.declared.kind.Kind.{Kind}
use Rattle.hare_tree.specs.declared.kind.Kind.TheVariants as ki
use Rattle.hare_rules.specs.declared.row_id.RowId.{RowId}
use Rattle.hare_rules.specs.declared.row_id.RowId.TheVariants as row
use Rattle.hare_rules.specs.declared.hint.Hint.TheVariants as hint
use Rattle.hare_rules.specs.Context.{Context, Inside, Open}
use Rattle.hare_rules.specs.Control.{nearest, is_loop_named, takes_yield, loop_meant, block_meant, is_inside}
use Rattle.hare_rules.specs.Types.{type_by}
use Rattle.hare_rules.specs.Rows.{holds, stands}

abbrev pub blank : Open → Open
blank l = record l { hint = hint.None }

abbrev pub with_blanks : Context → Context
with_blanks c = record c { inside = record c.inside { labels = map blank c.inside.labels } }

-- ---- lists

reverse-map : {A B : Type 0} (f : A → B) (xs : List A) → reverse (map f xs) ≡ map f (reverse xs)
reverse-map f [] = refl
reverse-map f (x ∷ xs) =
    reverse-append (f x ∷ []) (map f xs)
    ∙ ap (λ l. l ++ f x ∷ []) (reverse-map f xs)
    ∙ sym (map-append f (reverse xs) (x ∷ []))
    ∙ ap (map f) (sym (reverse-append (x ∷ []) xs))

found-map : {A B : Type 0} (f : A → B) (x : A) (b : Bool) (p : Option B) (q : Option A) → p ≡ option_map f q →
    cond b (Some (f x)) p ≡ option_map f (cond b (Some x) q)
found-map f x true p q e = refl
found-map f x false p q e = e

find-map : {A B : Type 0} (f : A → B) (p : B → Bool) (q : A → Bool) (xs : List A) → ((x : A) → p (f x) ≡ q x) →
    find p (map f xs) ≡ option_map f (find q xs)
find-map f p q [] h = refl
find-map f p q (x ∷ xs) h = rw (h x) (found-map f x (q x) (find p (map f xs)) (find q xs) (find-map f p q xs h))

nearest-blanks : (p : Open → Bool) (ls : List Open) → ((l : Open) → p (blank l) ≡ p l) →
    nearest p (map blank ls) ≡ option_map blank (nearest p ls)
nearest-blanks p ls h = ap (find p) (reverse-map blank ls) ∙ find-map blank p p (reverse ls) h

loop_meant-blanks : (name : List ℕ) (ls : List Open) → loop_meant name (map blank ls) ≡ option_map blank (loop_meant name ls)
loop_meant-blanks name ls = nearest-blanks (is_loop_named name) ls (λ l. refl)

pub block_meant-blanks : (name : List ℕ) (ls : List Open) → block_meant name (map blank ls) ≡ option_map blank (block_meant name ls)
block_meant-blanks name ls = nearest-blanks (takes_yield name) ls (λ l. refl)

is_some-map : {A B : Type 0} (f : A → B) (o : Option A) → is_some (option_map f o) ≡ is_some o
is_some-map f None = refl
is_some-map f (Some x) = refl

is_inside-blank : (i : Inside) (o : Option Open) → is_inside i (option_map blank o) ≡ is_inside i o
is_inside-blank i None = refl
is_inside-blank i (Some l) = refl

-- ---- rows

-- the row that asks whether a `yield` without a value is taken
abbrev pub asks_value : RowId → Bool
asks_value row.YieldNoValue = true
asks_value _ = false

pub holds-blanks : (r : RowId) (c : Context) → asks_value r ≡ false → holds r (with_blanks c) ≡ holds r c
holds-blanks row.YieldNoValue c e = cc
holds-blanks row.JumpTarget c e = ap is_some (loop_meant-blanks c.head.text c.inside.labels)
    ∙ is_some-map blank (loop_meant c.head.text c.inside.labels)
holds-blanks row.JumpInside c e =
    ap (is_inside c.inside) (loop_meant-blanks c.head.text c.inside.labels)
    ∙ is_inside-blank c.inside (loop_meant c.head.text c.inside.labels)
holds-blanks row.YieldTarget c e = ap is_some (block_meant-blanks c.head.text c.inside.labels)
    ∙ is_some-map blank (block_meant c.head.text c.inside.labels)
holds-blanks row.YieldInside c e =
    ap (is_inside c.inside) (block_meant-blanks c.head.text c.inside.labels)
    ∙ is_inside-blank c.inside (block_meant c.head.text c.inside.labels)
holds-blanks _ c e = refl

pub stands-blanks : (r : RowId) (c : Context) → stands r (with_blanks c) ≡ stands r c
stands-blanks row.PathBindingKnown c = refl
stands-blanks _ c = refl

pub type_by-blanks : (k : Kind) (c : Context) → type_by (with_blanks c) k ≡ type_by c k
type_by-blanks ki.Number c = refl
type_by-blanks _ c = refl
