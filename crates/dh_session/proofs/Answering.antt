-- What holds of an answer, if there is one.
use Rattle.std.specs.Prelude.{◌≡◌, Result, Ok, Err, IfOk, IfErr}
use Rattle.std.proofs.Common.{sym, ◌∙◌}
use Rattle.dh_session.specs.declared.answers.SessionFault.{SessionFault}
use Rattle.dh_session.specs.declared.answers.SessionFault.TheVariants as faults

pub ok_map : {A E : Type 0} (r : Result A E) (P Q : A → Type 0) → ((a : A) → P a → Q a) → IfOk r P → IfOk r Q
ok_map (Ok a) P Q f p = f a p
ok_map (Err e) P Q f p = p

pub ok_both : {A E : Type 0} (r : Result A E) (P Q R : A → Type 0) → ((a : A) → P a → Q a → R a) → IfOk r P → IfOk r Q → IfOk r R
ok_both (Ok a) P Q R f p q = f a p q
ok_both (Err e) P Q R f p q = p

-- want of memory is not that the keys are too many
apart : {B : Type 0} (f : SessionFault) → f ≡ faults.Memory → f ≡ faults.TooMany → B
apart f memory many = absurd (cc)

pub no_fault : {A : Type 0} (B : Type 0) (r : Result A SessionFault) → IfErr r (λ f. f ≡ faults.Memory) → IfErr r (λ f. f ≡ faults.TooMany → B)
no_fault B (Ok a) h = h
no_fault B (Err f) h = apart f h
