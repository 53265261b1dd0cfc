-- Heads that are found again, and a machine that keeps them, on expressions whose runs the checker computes.
use Rattle.std.specs.Prelude.{◌≡◌, ◌⊎◌, Bool, true, false, List, Option, Some, None, [], ◌∷◌, codes, refl}
use Rattle.std.proofs.Common.{inl, inr}
use Rattle.dh_syntax.specs.declared.operators.BinOp.TheVariants as bins
use Rattle.dh_syntax.specs.declared.operators.Builtin.TheVariants as builtins
use Rattle.dh_syntax.specs.Expressions.Forms as form
use Rattle.dh_syntax.specs.Normalising.Heads.{Whole, Found, Deep, run}
use Rattle.dh_syntax.specs.Names.Nameless.{Core, Bare, Free}
use Rattle.dh_syntax.specs.Normalising.NamelessRuns.{nameless_eq, cores, bares}
use Rattle.dh_syntax.specs.Normalising.Normal.{units_left, endless}
use Rattle.dh_syntax.specs.Expressions.Tree.{Leaf}
use Rattle.dh_laws.specs.KeptRuns.{Sound, Run, Go, Stop, steps}
use Rattle.dh_laws.specs.KeptHeads.{Heads, Lag, endless_run, head_run}
use Rattle.dh_laws.proofs.Normalising.NamelessAgain.{bares_law, cores_again}
use Rattle.dh_laws.proofs.Normalising.KeepingMachine.{machine, Finds, machine-lag}
use Rattle.dh_laws.proofs.Normalising.NamelessTests.{bare_test}

abbrev x : Core
x = Leaf (Free (codes "x") 0)

abbrev sum : Core
sum = form.operator bins.Plus (form.natural 1) (form.natural 1)

abbrev subtracted : Core → Core
subtracted a = form.call builtins.NaturalSubtract (a ∷ x ∷ [])

-- `Natural/subtract (1 + 1) x` has the head `Natural/subtract 2 x`: the function of the application has an argument of it inside
found : head_run cores (subtracted sum) 2 4 ≡ Found (subtracted (form.natural 2)) 1
found = refl

found_at_once : head_run cores (subtracted (form.natural 2)) 2 2 ≡ Found (subtracted (form.natural 2)) 0
found_at_once = refl

-- fewer heights do not suffice
one_height : head_run cores (subtracted (form.natural 2)) 1 4 ≡ Deep 4
one_height = refl

is_head : Heads cores (subtracted sum) (subtracted (form.natural 2))
is_head = cores_again (subtracted sum) (subtracted (form.natural 2)) 2 4 1 found

-- ---- a machine with a list of kept heads, on expressions without names

abbrev Kept : Type 0
Kept = List (Bare × Bare)

abbrev if_same : Bool → Bare → Option Bare → Option Bare
if_same true h rest = Some h
if_same false h rest = rest

abbrev kept : Kept → Bare → Option Bare
kept [] d = None
kept (p ∷ st) d = if_same (nameless_eq d p.0) p.1 (kept st d)

abbrev keep : Kept → Bare → Bare → Kept
keep st e h = (e, h) ∷ st

kept-keep : (st : Kept) (e h d x : Bare) → kept (keep st e h) d ≡ Some x → (kept st d ≡ Some x) ⊎ ((d ≡ e) × (x ≡ h))
kept-keep st e h d x p = by (nameless_eq d e) refl p
  where
    by : (b : Bool) → nameless_eq d e ≡ b → if_same b h (kept st d) ≡ Some x → (kept st d ≡ Some x) ⊎ ((d ≡ e) × (x ≡ h))
    by true q r = inr ((bare_test d e).0 q, (let t = r in cc))
    by false q r = inl r

nothing_kept : Sound bares Kept kept keep []
nothing_kept e h p = absurd cc

-- a list with one sum twice: the plain run counts five units, the machine four
abbrev twice : Bare
twice = form.list (form.operator bins.Plus (form.natural 1) (form.natural 1) ∷ form.operator bins.Plus (form.natural 1) (form.natural 1) ∷ [])

plain_cost : units_left (run (endless bares) 3 Whole 20 twice) ≡ Some 15
plain_cost = refl

kept_cost : units_left (machine bares Kept kept keep 3 Whole 20 [] twice) ≡ Some 16
kept_cost = refl

behind : Lag 3 (Finds bares Kept kept keep) (λ h u. endless_run bares h Whole u twice) 20 (machine bares Kept kept keep 3 Whole 20 [] twice)
behind = machine-lag bares Kept kept keep bares_law kept-keep 3 Whole 20 [] twice nothing_kept

-- with frames: as many steps suffice, and more change nothing
frames_stop : steps bares Kept kept keep 100 (Go 3 (Run Whole twice) 20 [] []) ≡ Stop (machine bares Kept kept keep 3 Whole 20 [] twice)
frames_stop = refl
