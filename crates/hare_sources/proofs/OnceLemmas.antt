-- There is one list of trees, or one first fault.
use Rattle.std.proofs.Common.{◌≡◌, ℕ, ◌+◌, ◌<◌, ◌≤◌, List, [], ◌∷◌, Bool, true, false, ◌||◌, ◌&&◌, ◌==◌, nat_lt, length, IfOk, IfErr, refl, sym, ap, ◌∙◌, subst, ◌⊎◌, inl, inr, suc, Result, Ok, Err, arith}
use Rattle.std.proofs.lemmas.Bool.{cases_lt, lt-ltb, le-ltb, ltb-false, eq-eqb}
use Rattle.hare_tree.specs.declared.place.Place.{Place}
use Rattle.hare_tree.specs.declared.place.Fault as fault
use Rattle.hare_tree.specs.declared.token.Meaning.{Meaning}
use Rattle.hare_tree.specs.declared.stop.Stop.{Stop}
use Rattle.hare_tree.specs.declared.stop.Stop.TheVariants.{Fault, Memory}
use Rattle.hare_tree.specs.declared.tree.FileTree.{FileTree}
use Rattle.hare_decl.specs.Answers.{Stops}
use Rattle.hare_decl.proofs.OneAnswer.Once.{only_source, only_source_fault}
use Rattle.hare_modules.specs.Order.{decides, counts_before, IsFirst}
use Rattle.hare_modules.specs.Modules.{sources}
use Rattle.hare_names.specs.Violations.{IsViolation}
use Rattle.hare_names.specs.Answers.{StopsAtFirst}
use Rattle.hare_sources.specs.Files.{IsRead, IsFaultOfFile, too_large, too_many, of_source, AreReadFrom, IsFaultFrom, AreRead, IsFaultOfFiles, GivesTrees, GivesFault}
use Rattle.hare_sources.specs.Named.{AreNamed, IsEarlyFault, of_files, of_names}

-- ---- the first of faults is one

-- neither of two numbers decides: they are equal, and so neither of what comes next does
neither : (a b : ℕ) (n m : Bool) → decides a b n ≡ false → decides b a m ≡ false → (a ≡ b) × (n ≡ false) × (m ≡ false)
neither a b n m x y = by (cases_lt a b) (cases_lt b a)
  where
    less : (a b : ℕ) (n : Bool) → a < b → decides a b n ≡ false → ⊥
    less a b n l x = let e : (nat_lt a b || (a == b && n)) ≡ true = ap (λ z. z || (a == b && n)) (lt-ltb a b l) in cc

    next : (a b : ℕ) (n : Bool) → a ≡ b → b ≤ a → decides a b n ≡ false → n ≡ false
    next a b n e l x =
        let p : nat_lt a b ≡ false = le-ltb a b l in
        let q : (a == b) ≡ true = eq-eqb a b e in
        let r : (nat_lt a b || (a == b && n)) ≡ (a == b && n) = ap (λ z. z || (a == b && n)) p in
        let s : (a == b && n) ≡ n = ap (λ z. z && n) q in sym s ∙ sym r ∙ x

    by : (a < b) ⊎ (b ≤ a) → (b < a) ⊎ (a ≤ b) → (a ≡ b) × (n ≡ false) × (m ≡ false)
    by (inl l) k = absurd (less a b n l x)
    by (inr l) (inl k) = absurd (less b a m k y)
    by (inr l) (inr k) = let e : a ≡ b = omega arith in (e, next a b n e l x, next b a m (sym e) k y)

abbrev fault_with : (number file line column : ℕ) → fault.Fault
fault_with number file line column = record { number = number; place = record { file = file; line = line; column = column } }

-- of two faults neither of which counts before the other, both are one
neither-before : (f g : fault.Fault) → counts_before f g ≡ false → counts_before g f ≡ false → f ≡ g
neither-before f g x y =
    let a = neither f.place.file g.place.file _ _ x y in
    let b = neither f.place.line g.place.line _ _ a.1 a.2 in
    let c = neither f.place.column g.place.column _ _ b.1 b.2 in
    same f.number g.number f.place g.place (same-number f.number g.number c.1 c.2) a.0 b.0 c.0
  where
    same-number : (a b : ℕ) → nat_lt a b ≡ false → nat_lt b a ≡ false → a ≡ b
    same-number a b x y = let l : b ≤ a = ltb-false a b x in let k : a ≤ b = ltb-false b a y in omega arith

    same : (n m : ℕ) (p q : Place) → n ≡ m → p.file ≡ q.file → p.line ≡ q.line → p.column ≡ q.column →
        fault_with n p.file p.line p.column ≡ fault_with m q.file q.line q.column
    same n m p q a b c d =
        ap (λ z. fault_with z p.file p.line p.column) a ∙ ap (λ z. fault_with m z p.line p.column) b
        ∙ ap (λ z. fault_with m q.file z p.column) c ∙ ap (λ z. fault_with m q.file q.line z) d

first-once : (P : fault.Fault → Type 0) (f g : fault.Fault) → IsFirst P f → IsFirst P g → f ≡ g
first-once P f g a b = neither-before f g (b.none_before f a.stands) (a.none_before g b.stands)

-- ---- one file

-- a file has a tree or a fault
fault-or-tree : (before file : ℕ) (text : List ℕ) (t : FileTree) (f : fault.Fault) → IsRead before file text t →
    IsFaultOfFile before file text f → ⊥
fault-or-tree before file text t f r (too_large l e) = omega (arith, r.small.alone)
fault-or-tree before file text t f r (too_many l m e) = omega (arith, r.small.together)
fault-or-tree before file text t f r (of_source s h) = only_source_fault file text (Ok t) r.source tt f h

the-fault : (f g : fault.Fault) → GivesFault {A = FileTree} g (Err (Fault f)) → f ≡ g
the-fault f g (inl e) = absurd cc
the-fault f g (inr e) = cc

fault-once : (before file : ℕ) (text : List ℕ) (f g : fault.Fault) → IsFaultOfFile before file text f →
    IsFaultOfFile before file text g → f ≡ g
fault-once before file text f g (too_large l e) (too_large k d) = e ∙ sym d
fault-once before file text f g (too_large l e) (too_many k m d) = absurd (omega arith)
fault-once before file text f g (too_large l e) (of_source s h) = absurd (omega (arith, s.alone))
fault-once before file text f g (too_many l m e) (too_large k d) = absurd (omega arith)
fault-once before file text f g (too_many l m e) (too_many k n d) = e ∙ sym d
fault-once before file text f g (too_many l m e) (of_source s h) = absurd (omega (arith, s.together))
fault-once before file text f g (of_source s h) (too_large k d) = absurd (omega (arith, s.alone))
fault-once before file text f g (of_source s h) (too_many k m d) = absurd (omega (arith, s.together))
fault-once before file text f g (of_source s h) (of_source r k) = the-fault f g (only_source_fault file text (Err (Fault f)) tt h g k)

tree-once : (before file : ℕ) (text : List ℕ) (t u : FileTree) → IsRead before file text t → IsRead before file text u → t ≡ u
tree-once before file text t u r q = only_source file text (Ok t) r.source tt u q.source

-- ---- all files

trees-once : (before file : ℕ) (ss : List (List ℕ)) (ts us : List FileTree) → AreReadFrom before file ss ts →
    AreReadFrom before file ss us → ts ≡ us
trees-once before file [] [] [] h k = refl
trees-once before file [] [] (u ∷ us) h k = absurd k
trees-once before file [] (t ∷ ts) us h k = absurd h
trees-once before file (s ∷ ss) [] us h k = absurd h
trees-once before file (s ∷ ss) (t ∷ ts) [] h k = absurd k
trees-once before file (s ∷ ss) (t ∷ ts) (u ∷ us) h k =
    let a = tree-once before file s t u h.0 k.0 in
    let b = trees-once (before + length s) (suc file) ss ts us h.1 k.1 in
    ap (λ x. x ∷ ts) a ∙ ap (λ xs. u ∷ xs) b

no-fault : (before file : ℕ) (ss : List (List ℕ)) (ts : List FileTree) (f : fault.Fault) → AreReadFrom before file ss ts →
    IsFaultFrom before file ss f → ⊥
no-fault before file [] ts f h k = k
no-fault before file (s ∷ ss) [] f h k = h
no-fault before file (s ∷ ss) (t ∷ ts) f h (inl k) = fault-or-tree before file s t f h.0 k
no-fault before file (s ∷ ss) (t ∷ ts) f h (inr k) = no-fault (before + length s) (suc file) ss ts f h.1 k.2

faults-once : (before file : ℕ) (ss : List (List ℕ)) (f g : fault.Fault) → IsFaultFrom before file ss f → IsFaultFrom before file ss g →
    f ≡ g
faults-once before file [] f g h k = absurd h
faults-once before file (s ∷ ss) f g (inl h) (inl k) = fault-once before file s f g h k
faults-once before file (s ∷ ss) f g (inl h) (inr k) = absurd (fault-or-tree before file s k.0 f k.1 h)
faults-once before file (s ∷ ss) f g (inr h) (inl k) = absurd (fault-or-tree before file s h.0 g h.1 k)
faults-once before file (s ∷ ss) f g (inr h) (inr k) = faults-once (before + length s) (suc file) ss f g h.2 k.2

pub trees_are_one : (srcs : List (List ℕ)) (ts us : List FileTree) → AreRead srcs ts → AreRead srcs us → ts ≡ us
trees_are_one srcs ts us h k = trees-once 0 0 srcs ts us h k

-- ---- what calls give

pub only-trees : (srcs : List (List ℕ)) (result : Result (List FileTree) (Stop fault.Fault)) → IfOk result (λ ts. AreRead srcs ts) →
    IfErr result (Stops (IsFaultOfFiles srcs)) → (ts : List FileTree) → AreRead srcs ts → GivesTrees ts result
only-trees srcs (Ok us) h k ts r = trees_are_one srcs us ts h r
only-trees srcs (Err Memory) h k ts r = refl
only-trees srcs (Err (Fault f)) h k ts r = absurd (no-fault 0 0 srcs ts f r k)

pub only-fault : (srcs : List (List ℕ)) (result : Result (List FileTree) (Stop fault.Fault)) → IfOk result (λ ts. AreRead srcs ts) →
    IfErr result (Stops (IsFaultOfFiles srcs)) → (f : fault.Fault) → IsFaultOfFiles srcs f → GivesFault f result
only-fault srcs (Ok us) h k f r = no-fault 0 0 srcs us f h r
only-fault srcs (Err Memory) h k f r = inl refl
only-fault srcs (Err (Fault g)) h k f r = inr (ap Fault (faults-once 0 0 srcs g f k r))

-- ---- files and names

-- where the files have trees, a stop at the first violation of names is one at the first fault
pub names-stop : (paths srcs : List (List ℕ)) (ts : List FileTree) → AreRead srcs ts → (e : Stop fault.Fault) →
    StopsAtFirst (sources paths ts) e → Stops (IsEarlyFault paths srcs) e
names-stop paths srcs ts r (Fault f) k = of_names ts r k
names-stop paths srcs ts r Memory k = tt

pub early_faults_are_one : (paths srcs : List (List ℕ)) (f g : fault.Fault) → IsEarlyFault paths srcs f → IsEarlyFault paths srcs g →
    f ≡ g
early_faults_are_one paths srcs f g (of_files h) (of_files k) = faults-once 0 0 srcs f g h k
early_faults_are_one paths srcs f g (of_files h) (of_names ts r k) = absurd (no-fault 0 0 srcs ts f r h)
early_faults_are_one paths srcs f g (of_names ts r h) (of_files k) = absurd (no-fault 0 0 srcs ts g r k)
early_faults_are_one paths srcs f g (of_names ts r h) (of_names us q k) =
    let b = subst (λ xs. IsFirst (IsViolation (sources paths xs)) f) (trees_are_one srcs ts us r q) h in
    first-once (IsViolation (sources paths us)) f g b k

pub named_or_faulty : (paths srcs : List (List ℕ)) (ts : List FileTree) (means : Place → Meaning) (f : fault.Fault) →
    AreNamed paths srcs ts means → ¬ IsEarlyFault paths srcs f
named_or_faulty paths srcs ts means f n (of_files h) = no-fault 0 0 srcs ts f n.read h
named_or_faulty paths srcs ts means f n (of_names us q h) =
    n.sound f (subst (λ xs. IsViolation (sources paths xs) f) (trees_are_one srcs us ts q n.read) h.stands)

pub only-early : {A : Type 0} (paths srcs : List (List ℕ)) (trees : A → List FileTree) (means : A → Place → Meaning)
    (result : Result A (Stop fault.Fault)) → IfOk result (λ a. AreNamed paths srcs (trees a) (means a)) →
    IfErr result (Stops (IsEarlyFault paths srcs)) → (f : fault.Fault) → IsEarlyFault paths srcs f → GivesFault f result
only-early paths srcs trees means (Ok a) h k f r = named_or_faulty paths srcs (trees a) (means a) f h r
only-early paths srcs trees means (Err Memory) h k f r = inl refl
only-early paths srcs trees means (Err (Fault g)) h k f r = inr (ap Fault (early_faults_are_one paths srcs g f k r))
