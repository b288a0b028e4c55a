-- The classes of the tokens that trees are spelled by.
use Rattle.std.proofs.Common.{◌≡◌, ℕ, List, [], ◌∷◌, Bool, true, false, ◌||◌, refl, ap, subst, ◌⊎◌, inl, inr}
use Rattle.std.specs.Prelude.{bytes_eq}
use Rattle.std.proofs.lemmas.Slice.Eq.{bytes_eq-Decides}
use Rattle.hare_tree.specs.declared.kind.Kind.TheVariants as ki
use Rattle.hare_tree.specs.declared.token.TokenKind.TheVariants as tk
use Rattle.hare_tree.specs.declared.form.Sign.{Sign}
use Rattle.hare_tree.specs.declared.form.Sign.TheVariants as si
use Rattle.hare_tree.specs.declared.form.Own.TheVariants as ow
use Rattle.hare_tree.specs.Node.{Head}
use Rattle.hare_tree.specs.Words.{is_listed}
use Rattle.hare_tree.specs.Levels.{is_name}
use Rattle.hare_tree.specs.Spell.{word_token, sign_token, full_token}
use Rattle.hare_tree.specs.Shape.{is_own, scalars}
use Rattle.hare_automaton.specs.declared.class.Class.TheVariants as cl
use Rattle.hare_automaton.specs.Classes.{class_of, when}
use Rattle.hare_automaton.specs.Rows.{leaf}
use Rattle.hare_automaton.specs.TypeRows.{bare_row, type_row, member_row}

pub class_sign : (f : ℕ) (s : Sign) → class_of (sign_token f s) ≡ cl.Sign s
class_sign f si.Abort = refl
class_sign f _ = refl

pub class_name : (f : ℕ) (x : List ℕ) → is_name false x ≡ true → class_of (word_token f tk.Name x) ≡ cl.Name
class_name f x e = rw e refl

-- a name behind `::` is a name, or `nomem`
pub class_path_name : (f : ℕ) (x : List ℕ) → is_name true x ≡ true →
    (class_of (word_token f tk.Name x) ≡ cl.Name) ⊎ (class_of (word_token f tk.Name x) ≡ cl.PathWord)
class_path_name f x e = by (is_name false x) refl
  where
    by : (b : Bool) → is_name false x ≡ b → (class_of (word_token f tk.Name x) ≡ cl.Name) ⊎
        (class_of (word_token f tk.Name x) ≡ cl.PathWord)
    by true d = inl (class_name f x d)
    by false d = inr (rw (d, e) refl)

pub class_number : (f : ℕ) (h : Head) → is_own ow.Number h ≡ true → class_of (full_token f tk.Number h) ≡ cl.Number
class_number f h e = ap (λ b. when b cl.Number) e

-- ---- words of a list

abbrev pub AllOf : (List ℕ → Type 0) → List (List ℕ) → Type 0
AllOf P [] = Unit {0}
AllOf P (w ∷ ws) = P w × AllOf P ws

pub of_listed : (P : List ℕ → Type 0) (ws : List (List ℕ)) (x : List ℕ) → is_listed ws x ≡ true → AllOf P ws → P x
of_listed P [] x e a = cc
of_listed P (w ∷ ws) x e a = by (bytes_eq w x) refl e (λ e'. of_listed P ws x e' a.1)
  where
    by : (b : Bool) → bytes_eq w x ≡ b → (b || is_listed ws x) ≡ true → (is_listed ws x ≡ true → P x) → P x
    by true d e k = subst P ((bytes_eq-Decides w x).0 d) a.0
    by false d e k = k e

-- a word that is a type is read as one wherever types stand
abbrev pub ScalarRows : List ℕ → Type 0
ScalarRows x = (bare_row (class_of (word_token 0 tk.Keyword x)) ≡ leaf ki.TypeScalar) ×
    (type_row (class_of (word_token 0 tk.Keyword x)) ≡ leaf ki.TypeScalar) ×
    (member_row (class_of (word_token 0 tk.Keyword x)) ≡ leaf ki.TypeScalar)

pub scalar_rows : (x : List ℕ) → is_listed scalars x ≡ true → ScalarRows x
scalar_rows x e =
    of_listed ScalarRows scalars x e (
      (refl, refl, refl),
      (
        (refl, refl, refl),
        (
          (refl, refl, refl),
          (
            (refl, refl, refl),
            (
              (refl, refl, refl),
              (
                (refl, refl, refl),
                (
                  (refl, refl, refl),
                  (
                    (refl, refl, refl),
                    (
                      (refl, refl, refl),
                      (
                        (refl, refl, refl),
                        (
                          (refl, refl, refl),
                          (
                            (refl, refl, refl),
                            (
                              (refl, refl, refl),
                              (
                                (refl, refl, refl),
                                ((refl, refl, refl), ((refl, refl, refl), ((refl, refl, refl), tt))),
                              ),
                            ),
                          ),
                        ),
                      ),
                    ),
                  ),
                ),
              ),
            ),
          ),
        ),
      ),
    )
