-- What the proof of the gauge's law asks of a language: its trees are read by the grammar's machine from one stack on, and the tree that is
-- read has the faults of what the machine makes.
use Rattle.std.proofs.Common.{◌≡◌, ℕ, ◌<◌, List, [], ◌∷◌, ◌++◌, true, false, map, length, sym, subst}
use Rattle.hare_tree.specs.declared.token.Token.{Token}
use Rattle.hare_tree.specs.Grammar.{Language, IsOn, Spells, unplaced, joined}
use Rattle.hare_automaton.specs.declared.class.Class.TheVariants as cl
use Rattle.hare_automaton.specs.declared.rule.Symbol.{Symbol}
use Rattle.hare_automaton.specs.Engine.{Group, Done, run, bottom}
use Rattle.hare_prefixes.proofs.Completion.Endings.{good}
use Rattle.hare_prefixes.proofs.Completion.Viable.{end}
use Rattle.hare_prefixes.proofs.Joining.Loose.{loose}
use Rattle.hare_nesting.specs.Gauge.{numbered, nodes_in}
use Rattle.hare_nesting.proofs.UnderWay.Stacks.{frames, stack_faults, Gains, Held}
use Rattle.hare_nesting.proofs.Telling.Gaining.{Ascends}
use Rattle.hare_nesting.proofs.OverFiles.Lines.{line_of}

-- The tree passes limits at these tokens where what is made does, and at none behind them; behind them stands the token `z`.
pub record Faulty {T : Type 0} (l : Language T) (u : List Token) (z : Token) (tree : T) (made : List Group) : Type 0 where
  pub faults : Gains (map (line_of (u ++ z ∷ [])) (l.deep_of tree)) (stack_faults [] made) []
  pub within : (k : ℕ) → IsOn k (l.deep_of tree) → k < length u

-- another tree that passes limits at the same tokens
pub faulty_alike : {T : Type 0} (l : Language T) (u : List Token) (z : Token) (t t' : T) (made : List Group) → l.deep_of t ≡ l.deep_of t' →
    Faulty l u z t made → Faulty l u z t' made
faulty_alike l u z t t' made e f = record {
  faults = subst (λ ks. Gains (map (line_of (u ++ z ∷ [])) ks) (stack_faults [] made) []) e
      f.faults;
  within = λ k x. f.within k (subst (IsOn k) (sym e) x);
}

-- the tree that is read from these tokens, which are all of its own or all but those of the tail
pub record Read {T : Type 0} (l : Language T) (u : List Token) (z : Token) (made : List Group) : Type 0 where
  pub tree : T
  pub tail : List Token
  pub shaped : l.is_of tree ≡ true
  pub spelled : map unplaced (l.tokens_of tree) ≡ map unplaced (u ++ tail)
  pub faulty : Faulty l u z tree made

-- The tree is read again from its tokens in a file, by their numbers. The run is done in front of a token, which is the last of the tree's,
-- as the
-- End of a file is, or stands behind them.
pub record Reread {T : Type 0} (l : Language T) (st : List Symbol) (ts : List Token) (tree : T) : Type 0 where
  pub used : List Token
  pub last : Token
  pub top : ℕ
  pub extra : List Token
  pub split : joined (numbered 1 ts) ++ extra ≡ used ++ last ∷ []
  pub ascends : Ascends 1 (used ++ last ∷ []) top
  pub made : List Group
  pub done : run 0 (used ++ last ∷ []) st bottom ≡ Done (last ∷ []) made
  pub faulty : Faulty l used last tree made

-- The machine reads the trees of the language from these symbols on. Nothing is under way there and no limit passed; and in the tokens of a
-- tree no strings stand side by side.
pub record Reads {T : Type 0} (l : Language T) (st : List Symbol) : Type 0 where
  pub held : Held 1 st (frames bottom)
  pub none : stack_faults (nodes_in st) bottom ≡ []
  pub is_good : good st cl.Junk ≡ true
  pub is_loose : (tree : T) → l.is_of tree ≡ true → loose false (l.tokens_of tree) ≡ true
  pub reads : (u : List Token) (z : Token) (top : ℕ) (made : List Group) → Ascends 1 (u ++ z ∷ []) top → unplaced z ≡ end →
      run 0 (u ++ z ∷ []) st bottom ≡ Done (z ∷ []) made → Read l u z made
  pub rereads : (ts : List Token) (tree : T) → l.is_of tree ≡ true → Spells (l.tokens_of tree) ts → Reread l st ts tree
