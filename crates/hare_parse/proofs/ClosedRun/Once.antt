-- The tokens from a place on have one answer: one tree, or one fault.
use Rattle.std.proofs.Common.{◌≡◌, ℕ, suc, ◌-◌, ◌<◌, inl, inr, List, Result, Ok, Err, IfOk, IfErr, take, drop, refl, ap, sym, ◌∙◌, subst}
use Rattle.std.proofs.Common.{arith}
use Rattle.hare_tree.specs.declared.place.Fault as fault
use Rattle.hare_tree.specs.declared.token.Token.{Token}
use Rattle.hare_tree.specs.declared.stop.Stop.{Stop}
use Rattle.hare_tree.specs.declared.stop.Stop.TheVariants.{Fault, Memory}
use Rattle.hare_tree.specs.declared.form.Sort.{Sort}
use Rattle.hare_tree.specs.Node.{Node}
use Rattle.hare_tree.specs.Grammar.{Language, IsRun, IsTreeOf}
use Rattle.hare_tree.proofs.Low.Fitting.{fits_parts}
use Rattle.hare_nesting.proofs.LeastFault.Firsts.{viable_front, same_place}
use Rattle.hare_parse.specs.declared.parse.Parsed.{Parsed}
use Rattle.hare_parse.specs.Answers.{IsRead, HasFault, fault_up_to, file_in, IsParsed, Stops, GivesTree, GivesFault}

-- no front that is viable is longer than the longest
run_no_less : {T : Type 0} (l : Language T) (ts : List Token) (n m : ℕ) → IsRun l ts n → IsRun l ts m → n < m → ⊥
run_no_less l ts n m a b h = a.longest (omega (arith, h, b.within)) (viable_front l ts (suc n) m (omega (arith, h)) b.viable)

pub run_once : {T : Type 0} (l : Language T) (ts : List Token) (n m : ℕ) → IsRun l ts n → IsRun l ts m → n ≡ m
run_once l ts n m a b = same_place n m (run_no_less l ts n m a b) (run_no_less l ts m n b a)

pub read_once : (s : Sort) (file : ℕ) (ts : List Token) (a b : Node) (n m : ℕ) → IsRead s file ts a n → IsRead s file ts b m → (b ≡ a) ×
    (m ≡ n)
read_once s file ts a b n m x y =
    let e = run_once _ ts m n y.run x.run in
    (x.only b (subst (λ k. IsTreeOf s file (take k ts) b) e y.read), e)

pub read_no_fault : (s : Sort) (file : ℕ) (ts : List Token) (a : Node) (n : ℕ) (f : fault.Fault) → IsRead s file ts a n → HasFault s ts f →
    ⊥
read_no_fault s file ts a n f x (m, inl d) = x.shallow m d.1.passed
read_no_fault s file ts a n f x (m, inr d) =
    let e = run_once _ ts n m x.run d.1.run in
    let t = subst (λ k. IsTreeOf s file (take k ts) a) e x.read in
    d.1.no_tree a (fits_parts s a t.fits).0 t.spelled

pub fault_once : (s : Sort) (ts : List Token) (f g : fault.Fault) → HasFault s ts f → HasFault s ts g → f ≡ g
fault_once s ts f g (n, inl a) (m, inl b) =
    let e = same_place n m (λ h. b.1.first n h a.1.passed) (λ h. a.1.first m h b.1.passed) in
    a.0 ∙ ap (fault_up_to ts 9) e ∙ sym b.0
fault_once s ts f g (n, inl a) (m, inr b) = absurd (b.1.shallow n a.1.passed)
fault_once s ts f g (n, inr a) (m, inl b) = absurd (a.1.shallow m b.1.passed)
fault_once s ts f g (n, inr a) (m, inr b) = a.0 ∙ ap (fault_up_to ts 8) (run_once _ ts n m a.1.run b.1.run) ∙ sym b.0

-- ---- what a call gives

-- the one tree, where there is one
pub only_tree : (s : Sort) (ts : List Token) (at : ℕ) (result : Result Parsed (Stop fault.Fault)) → IfOk result (λ p. IsParsed s ts at p) →
    IfErr result (λ e. Stops s ts at e) → (tree : Node) (n : ℕ) → IsRead s (file_in ts at) (drop at ts) tree n → GivesTree at tree n result
only_tree s ts at (Ok p) ok err tree n r =
    let e = read_once s (file_in ts at) (drop at ts) tree p.tree n (p.next - at) r ok.1 in
    (e.0, omega (arith, e.1, ok.0))
only_tree s ts at (Err (Fault f)) ok err tree n r = absurd (read_no_fault s (file_in ts at) (drop at ts) tree n f r err)
only_tree s ts at (Err Memory) ok err tree n r = refl

-- the one fault, where there is one
pub only_fault : (s : Sort) (ts : List Token) (at : ℕ) (result : Result Parsed (Stop fault.Fault)) → IfOk result (λ p. IsParsed s ts at p) →
    IfErr result (λ e. Stops s ts at e) → (f : fault.Fault) → HasFault s (drop at ts) f → GivesFault f result
only_fault s ts at (Ok p) ok err f h = read_no_fault s (file_in ts at) (drop at ts) p.tree (p.next - at) f ok.1 h
only_fault s ts at (Err (Fault g)) ok err f h = inr (ap Fault (fault_once s (drop at ts) g f err h))
only_fault s ts at (Err Memory) ok err f h = inl refl
