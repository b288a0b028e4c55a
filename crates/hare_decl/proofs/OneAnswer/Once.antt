-- What the calls give is what there is: tokens, or bytes, have one tree or one first fault.
use Rattle.std.proofs.Common.{◌≡◌, ℕ, ◌⊎◌, inl, inr, List, Result, Ok, Err, IfOk, IfErr, refl, ap, sym, ◌∙◌, subst}
use Rattle.hare_tree.specs.declared.place.Fault as fault
use Rattle.hare_tree.specs.declared.token.Token.{Token}
use Rattle.hare_tree.specs.declared.stop.Stop.{Stop}
use Rattle.hare_tree.specs.declared.stop.Stop.TheVariants as stop
use Rattle.hare_tree.specs.declared.tree.FileTree.{FileTree}
use Rattle.hare_tree.specs.Tokens.{IsTokens, IsFirstBreak}
use Rattle.hare_tree.specs.Grammar.{files, fault_at, before_end, IsLeastFault}
use Rattle.hare_lex.specs.declared.stop.LexStop.TheVariants as lex
use Rattle.hare_lex.proofs.Whole.Unique.{only_tokens, only_break}
use Rattle.hare_nesting.proofs.LeastFault.Firsts.{one_first}
use Rattle.hare_decl.specs.Answers.{IsFile, IsSource, HasFirstFault, HasFault, HasSourceFault, Stops, GivesTree, GivesFault}
use Rattle.hare_decl.proofs.OneAnswer.OneOutcome.{file_no_fault, one_fault}

-- ---- tokens

pub only_tree : (file : ℕ) (ts : List Token) (result : Result FileTree (Stop fault.Fault)) → IfOk result (λ t. IsFile file ts t) →
    IfErr result (λ e. Stops (HasFault file ts) e) → (tree : FileTree) → IsFile file ts tree → GivesTree tree result
only_tree file ts (Ok t) h g tree k = k.only t h.read
only_tree file ts (Err stop.Memory) h g tree k = refl
only_tree file ts (Err (stop.Fault f)) h g tree k = absurd (file_no_fault file ts tree f k.read g)

pub only_fault : (file : ℕ) (ts : List Token) (result : Result FileTree (Stop fault.Fault)) → IfOk result (λ t. IsFile file ts t) →
    IfErr result (λ e. Stops (HasFault file ts) e) → (f : fault.Fault) → HasFault file ts f → GivesFault f result
only_fault file ts (Ok t) h g f k = file_no_fault file ts t f h.read k
only_fault file ts (Err stop.Memory) h g f k = inl refl
only_fault file ts (Err (stop.Fault x)) h g f k = inr (ap stop.Fault (one_fault file ts x f g k))

-- ---- bytes

-- bytes have one list of tokens
tokens_once : (file : ℕ) (text : List ℕ) (ts us : List Token) → IsTokens file text ts → IsTokens file text us → ts ≡ us
tokens_once file text ts us h g = only_tokens file text (Ok ts) h tt us g

-- or a first break
tokens_or_break : (file : ℕ) (text : List ℕ) (ts kept : List Token) (lexical : fault.Fault) → IsTokens file text ts →
    IsFirstBreak file text lexical kept → ⊥
tokens_or_break file text ts kept lexical h g = only_break file text (Ok ts) h tt lexical kept g

-- which is one, with one list of kept tokens
record OneBreak (f g : fault.Fault) (kept other : List Token) : Type 0 where
  fault : f ≡ g
  tokens : kept ≡ other

break_once : (file : ℕ) (text : List ℕ) (f g : fault.Fault) (kept other : List Token) → IsFirstBreak file text f kept →
    IsFirstBreak file text g other → OneBreak f g kept other
break_once file text f g kept other h k = by (only_break file text (Err (lex.Fault f kept)) tt h g other k)
  where
    by : (lex.Fault f kept ≡ lex.Memory) ⊎ (lex.Fault f kept ≡ lex.Fault g other) → OneBreak f g kept other
    by (inl e) = cc
    by (inr e) = let a : f ≡ g = cc in let b : kept ≡ other = cc in record { fault = a; tokens = b }

-- the first fault of tokens is one
first_once : (ts : List Token) (f g : fault.Fault) → HasFirstFault ts f → HasFirstFault ts g → f ≡ g
first_once ts f g a b = one_fault 0 ts f g (inl a) (inl b)

-- and so is the least fault of kept tokens and a break
least_once : (kept : List Token) (lexical f g : fault.Fault) → IsLeastFault kept lexical f → IsLeastFault kept lexical g → f ≡ g
least_once kept lexical f g (inl a) (inl b) =
    let e = one_first files (before_end kept) a.0 a.1 b.0 b.1 a.2 b.2 in
    a.3 ∙ ap (λ k. fault_at kept k a.1) e.0 ∙ ap (λ k. fault_at kept b.0 k) e.1 ∙ sym b.3
least_once kept lexical f g (inl a) (inr b) = absurd (b.0 a.0 a.1 a.2)
least_once kept lexical f g (inr a) (inl b) = absurd (a.0 b.0 b.1 b.2)
least_once kept lexical f g (inr a) (inr b) = a.1 ∙ sym b.1

-- bytes have one tree
source_once : (file : ℕ) (text : List ℕ) (tree other : FileTree) → IsSource file text tree → IsSource file text other → tree ≡ other
source_once file text tree other h k =
    let e = tokens_once file text h.tokens k.tokens h.are k.are in
    k.file_is.only tree (subst (λ ts. IsFile file ts tree) e h.file_is).read

-- or a first fault
source_no_fault : (file : ℕ) (text : List ℕ) (tree : FileTree) (f : fault.Fault) → IsSource file text tree → HasSourceFault file text f → ⊥
source_no_fault file text tree f h (inl k) =
    let e = tokens_once file text h.tokens k.0 h.are k.1 in
    file_no_fault file k.0 tree f (subst (λ ts. IsFile file ts tree) e h.file_is).read (inl k.2)
source_no_fault file text tree f h (inr k) = tokens_or_break file text h.tokens k.1 k.0 h.are k.2

-- which is one
source_fault_once : (file : ℕ) (text : List ℕ) (f g : fault.Fault) → HasSourceFault file text f → HasSourceFault file text g → f ≡ g
source_fault_once file text f g (inl a) (inl b) =
    first_once b.0 f g (subst (λ ts. HasFirstFault ts f) (tokens_once file text a.0 b.0 a.1 b.1) a.2) b.2
source_fault_once file text f g (inl a) (inr b) = absurd (tokens_or_break file text a.0 b.1 b.0 a.1 b.2)
source_fault_once file text f g (inr a) (inl b) = absurd (tokens_or_break file text b.0 a.1 a.0 b.1 a.2)
source_fault_once file text f g (inr a) (inr b) =
    let e = break_once file text a.0 b.0 a.1 b.1 a.2 b.2 in
    least_once b.1 b.0 f g (subst (λ ts. IsLeastFault ts b.0 f) e.tokens (subst (λ x. IsLeastFault a.1 x f) e.fault a.3)) b.3

pub only_source : (file : ℕ) (text : List ℕ) (result : Result FileTree (Stop fault.Fault)) → IfOk result (λ t. IsSource file text t) →
    IfErr result (λ e. Stops (HasSourceFault file text) e) → (tree : FileTree) → IsSource file text tree → GivesTree tree result
only_source file text (Ok t) h g tree k = source_once file text t tree h k
only_source file text (Err stop.Memory) h g tree k = refl
only_source file text (Err (stop.Fault f)) h g tree k = absurd (source_no_fault file text tree f k g)

pub only_source_fault : (file : ℕ) (text : List ℕ) (result : Result FileTree (Stop fault.Fault)) → IfOk result (λ t. IsSource file text t) →
    IfErr result (λ e. Stops (HasSourceFault file text) e) → (f : fault.Fault) → HasSourceFault file text f → GivesFault f result
only_source_fault file text (Ok t) h g f k = source_no_fault file text t f h k
only_source_fault file text (Err stop.Memory) h g f k = inl refl
only_source_fault file text (Err (stop.Fault x)) h g f k = inr (ap stop.Fault (source_fault_once file text x f g k))

-- a stop at the least fault of the break and of the tokens before it is one at the first fault of the bytes
pub least_stops : (file : ℕ) (text : List ℕ) (lexical : fault.Fault) (kept : List Token) (s : Stop fault.Fault) →
    IsFirstBreak file text lexical kept → Stops (IsLeastFault kept lexical) s → Stops (HasSourceFault file text) s
least_stops file text lexical kept stop.Memory b h = tt
least_stops file text lexical kept (stop.Fault f) b h = inr (lexical, kept, b, h)
