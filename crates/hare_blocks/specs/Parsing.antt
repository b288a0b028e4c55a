-- What a reader of one part of a program finds at the front of the tokens.
use Rattle.std.specs.Prelude.{◌≡◌, ◌≢◌, ℕ, ◌+◌, ◌≤◌, List, [], ◌∷◌, ◌++◌, Option, None, Some, IfSome, codes}
use Rattle.hare_blocks.specs.declared.cursor.Fixed.{Fixed}
use Rattle.hare_blocks.specs.declared.cursor.Fixed.TheVariants as fixed
use Rattle.hare_blocks.specs.declared.expr.Sign.{Sign}
use Rattle.hare_blocks.specs.declared.expr.Sign.TheVariants as sign
use Rattle.hare_blocks.specs.declared.token.Token.{Token}
use Rattle.hare_blocks.specs.declared.token.Token.TheVariants as token
use Rattle.hare_blocks.specs.Trees.{Expr, Terms, Term, Factors, Factor}
use Rattle.hare_blocks.specs.Nesting.{expr_depth, terms_depth, term_depth, factors_depth, factor_depth}

-- ---- tokens

abbrev pub fixed_token : Fixed → Token
fixed_token fixed.Use = token.Use
fixed_token fixed.Export = token.Export
fixed_token fixed.Function = token.Function
fixed_token fixed.Void = token.Void
fixed_token fixed.U8 = token.U8
fixed_token fixed.True = token.True
fixed_token fixed.Else = token.Else
fixed_token fixed.Semicolon = token.Semicolon
fixed_token fixed.OpenParen = token.OpenParen
fixed_token fixed.CloseParen = token.CloseParen
fixed_token fixed.OpenBrace = token.OpenBrace
fixed_token fixed.CloseBrace = token.CloseBrace
fixed_token fixed.Assign = token.Assign
fixed_token fixed.Colon = token.Colon
fixed_token fixed.PathSeparator = token.PathSeparator
fixed_token fixed.Star = token.Star
fixed_token fixed.Runtime = token.Name (codes "rt")
fixed_token fixed.Main = token.Name (codes "main")
fixed_token fixed.Exit = token.Name (codes "exit")
fixed_token fixed.Puts = token.Name (codes "puts")
fixed_token fixed.ArgCount = token.Name (codes "nargs")

abbrev pub sign_token : Sign → Token
sign_token sign.Plus = token.Plus
sign_token sign.Minus = token.Minus

-- ---- where a part ends

-- What follows goes on with no path, with no factor, or with no term. So what a part of an expression ends with is settled by the next
-- token.
abbrev pub IsNoPath : List Token → Type 0
IsNoPath [] = Unit {0}
IsNoPath (t ∷ ts) = t ≢ token.PathSeparator

abbrev pub IsNoFactor : List Token → Type 0
IsNoFactor [] = Unit {0}
IsNoFactor (t ∷ ts) = (t ≢ token.PathSeparator) × (t ≢ token.Star)

abbrev pub IsNoTerm : List Token → Type 0
IsNoTerm [] = Unit {0}
IsNoTerm (t ∷ ts) = (t ≢ token.PathSeparator) × (t ≢ token.Star) × (t ≢ token.Plus) × (t ≢ token.Minus)

-- the tokens begin with no sign
abbrev pub BeginsUnsigned : List Token → Type 0
BeginsUnsigned [] = Unit {0}
BeginsUnsigned (t ∷ ts) = (t ≢ token.Plus) × (t ≢ token.Minus)

-- ---- what a reader finds

-- the tokens begin with what spells a part that fits, and the others stand behind it
pub record Reads {A : Type 0} (spell : A → List Token) (Fits : A → Type 0) (part : A) (tokens rest : List Token) : Type 0 where
  pub spelled : tokens ≡ spell part ++ rest
  pub fits : Fits part

-- a reader finds this part, and leaves these tokens
abbrev pub Finds : {A : Type 0} → Option A → A → List Token → List Token → Type 0
Finds None part left rest = ⊥
Finds (Some x) part left rest = (x ≡ part) × (left ≡ rest)

-- What a reader of a part that ends so finds at the front of the tokens, and which tokens it leaves: a part that stands there, and every
-- part that stands there. Where it finds none, none stands there, and the tokens that it leaves say nothing.
pub record IsRead {A : Type 0} (spell : A → List Token) (Fits : A → Type 0) (Ends : List Token → Type 0) (found : Option A)
    (tokens left : List Token) : Type 0 where
  pub sound : IfSome found (λ x. Reads spell Fits x tokens left)
  pub whole : (x : A) (rest : List Token) → Reads spell Fits x tokens rest → Ends rest → Finds found x left rest

-- at most 64 parentheses are open at once in a part, with those that are open in front of it
abbrev pub ExprNests : ℕ → Expr → Type 0
ExprNests depth e = depth + expr_depth e ≤ 64

abbrev pub TermsNest : ℕ → Terms → Type 0
TermsNest depth ts = depth + terms_depth ts ≤ 64

abbrev pub TermNests : ℕ → Term → Type 0
TermNests depth t = depth + term_depth t ≤ 64

abbrev pub FactorsNest : ℕ → Factors → Type 0
FactorsNest depth fs = depth + factors_depth fs ≤ 64

abbrev pub FactorNests : ℕ → Factor → Type 0
FactorNests depth f = depth + factor_depth f ≤ 64
