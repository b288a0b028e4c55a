-- What is known of an answer.
use Rattle.std.proofs.Common.{Result, Ok, Err}
use Rattle.std.specs.Prelude.{IfOk, IfErr, OnOk}

pub ok-map : {A E : Type 0} (P Q : A → Type 0) (r : Result A E) → IfOk r P → ((x : A) → P x → Q x) → IfOk r Q
ok-map P Q (Ok x) p f = f x p
ok-map P Q (Err e) p f = tt

pub err-map : {A E : Type 0} (P Q : E → Type 0) (r : Result A E) → IfErr r P → ((e : E) → P e → Q e) → IfErr r Q
err-map P Q (Ok x) p f = tt
err-map P Q (Err e) p f = f e p

pub ok-both : {A E : Type 0} (P Q : A → Type 0) (r : Result A E) → IfOk r P → IfOk r Q → IfOk r (λ x. P x × Q x)
ok-both P Q (Ok x) p q = (p, q)
ok-both P Q (Err e) p q = tt

pub on-map : {A E : Type 0} (P Q : Type 0) (r : Result A E) → OnOk r P → (P → Q) → OnOk r Q
on-map P Q (Ok x) p f = f p
on-map P Q (Err e) p f = tt
