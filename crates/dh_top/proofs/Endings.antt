-- What holds of a fault, if there is one.
use Rattle.std.specs.Prelude.{Result, Ok, Err, IfErr}

pub if_err : {A E : Type 0} {P Q : E → Type 0} (r : Result A E) → ((e : E) → P e → Q e) → IfErr r P → IfErr r Q
if_err (Ok a) f h = h
if_err (Err e) f h = f e h
