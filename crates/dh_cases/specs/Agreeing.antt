-- When a run did what is wanted of it.
use Rattle.std.specs.Prelude.{◌≡◌, ℕ, List, map, length, IfSome, MatchOption}
use Rattle.dh_cases.specs.declared.answers.Ran.{Ran}
use Rattle.dh_cases.specs.declared.cases.Case.{Case}
use Rattle.dh_cases.specs.declared.cases.Entry.{Entry}
use Rattle.dh_cases.specs.declared.cases.Row.{Row}

-- an entry: its digest and its bytes
abbrev pub pair_of : Entry → List ℕ × List ℕ
pair_of e = (e.digest, e.bytes.items)

-- these entries were kept, in this order; or so many, where that alone is said
abbrev pub HasKept : Case → List Entry → Type 0
HasKept case kept = MatchOption case.keeps (map pair_of case.kept.items ≡ map pair_of kept) (λ count. count ≡ length kept)

-- the run ended and wrote as the row has it, and asked for and kept what the case has, where it has that
abbrev pub Agrees : Case → Row → Ran → Type 0
Agrees case row ran =
    (ran.status ≡ row.status) × (ran.out.items ≡ row.out.items) × (ran.err.items ≡ row.err.items) × IfSome case.asked (λ count. count ≡ ran.asked) × HasKept case ran.kept.items
