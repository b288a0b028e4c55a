-- Trees that go on with a front of a file's tokens.
use Rattle.std.proofs.Common.{◌≡◌, ℕ, ◌≤◌, List, [], ◌∷◌, ◌++◌, true, map, length, take, drop, ap, sym, ◌∙◌, subst, arith}
use Rattle.std.proofs.Math.Seq.{take-length}
use Rattle.std.proofs.lemmas.List.{append-nil, length-take-le, map-append, take-append-drop, take-append-le}
use Rattle.hare_tree.specs.declared.token.Token.{Token}
use Rattle.hare_tree.specs.Grammar.{Language, GoesOn, joined, unplaced}
use Rattle.hare_automaton.specs.declared.rule.Symbol.{Symbol}
use Rattle.hare_prefixes.proofs.FirstFault.Faults.{goes_back}
use Rattle.hare_nesting.specs.Gauge.{numbered}
use Rattle.hare_nesting.proofs.OverFiles.Numbers.{unplaced_both, is_numbered}
use Rattle.hare_nesting.proofs.OverFiles.Fronts.{IsFront}
use Rattle.hare_nesting.proofs.OverFiles.Lines.{front_append}
use Rattle.hare_nesting.proofs.OverFiles.Languages.{Reread, Reads}

-- ---- fronts of the file

-- these joined tokens are those of a front of the file
pub record FrontAt (ts u : List Token) : Type 0 where
  pub read : ℕ
  pub within : read ≤ length ts
  pub is : u ≡ joined (numbered 1 (take read ts))

pub front_at : (ts u v : List Token) → joined (numbered 1 ts) ≡ u ++ v → FrontAt ts u
front_at ts u [] e = record {
  read = length ts;
  within = omega arith;
  is = sym (append-nil u) ∙ sym e ∙ ap (λ l. joined (numbered 1 l))
      (sym (take-length ts));
}
front_at ts u (y ∷ v) e = let n = is_numbered ts u y v e in record { read = n.at; within = omega (arith, n.within); is = n.front }

-- a tree whose tokens go on with these joined ones goes on with the front
pub goes_on_with : {T : Type 0} (l : Language T) (st : List Symbol) → Reads l st → (front u behind : List Token) (tree : T) →
    l.is_of tree ≡ true → u ≡ joined (numbered 1 front) → map unplaced (l.tokens_of tree) ≡ map unplaced (u ++ behind) → GoesOn l front tree
goes_on_with l st s front u behind tree h i e =
    let j : map unplaced u ≡ map unplaced (joined front) = ap (map unplaced) i ∙ unplaced_both 1 front in
    let k : map unplaced (u ++ behind) ≡ map unplaced (joined front ++ behind) =
    map-append unplaced u behind ∙ ap (λ v. v ++ map unplaced behind) j ∙ sym (map-append unplaced (joined front) behind) in
    record { shaped = h; behind = behind; spelled = goes_back (l.tokens_of tree) front behind (s.is_loose tree h) (e ∙ k) }

pub take_twice : (n r : ℕ) (ts : List Token) → n ≤ r → r ≤ length ts → take n (take r ts) ≡ take n ts
take_twice n r ts d e =
    let i = length-take-le r ts e in sym (take-append-le n (take r ts) (drop r ts) (omega (arith, d, i))) ∙ ap (take n)
    (take-append-drop r ts)

-- the tokens of the run that reads the tree again begin with those of the front
pub front_of_reread : {T : Type 0} (l : Language T) (st : List Symbol) (q ts : List Token) (tree : T) → (r : Reread l st ts tree) →
    IsFront q (joined (numbered 1 ts)) → IsFront q (r.used ++ r.last ∷ [])
front_of_reread l st q ts tree r f = subst (IsFront q) r.split (front_append q (joined (numbered 1 ts)) r.extra f)
