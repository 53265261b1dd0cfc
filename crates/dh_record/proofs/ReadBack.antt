-- What found bytes spell is the expression that a table keeps of them.
use Rattle.std.specs.Prelude.{◌≡◌, ℕ, List, Option, Some, Result, Ok, Err, IfOk}
use Rattle.dh_syntax.specs.Expressions.Tree.{Term}
use Rattle.dh_imports.specs.Records.{Found}
use Rattle.dh_ports.specs.declared.worlds.Got.TheVariants as gots
use Rattle.dh_record.specs.declared.news.Noted.{Noted}
use Rattle.dh_record.specs.declared.news.Noted.TheVariants as noteds
use Rattle.dh_record.specs.Rows.{noted_by}

pub ok_with : {A E : Type 0} {P Q : A → Type 0} (r : Result A E) → ((a : A) → P a → Q a) → IfOk r P → IfOk r Q
ok_with (Ok a) f h = f a h
ok_with (Err e) f h = h

pub found_is : (got : Noted) (x : Term) (bytes : List ℕ) (allow : Option (List ℕ)) (e : Term) → noted_by got (Some (Ok x)) ≡ Found bytes allow (Ok e) → x ≡ e
found_is (noteds.Got (gots.Found f)) x bytes allow e h = cc
found_is (noteds.Got gots.Absent) x bytes allow e h = cc
found_is (noteds.Got (gots.Broken n)) x bytes allow e h = cc
found_is noteds.Failed x bytes allow e h = cc
