-- How far the walk of the text of a key is known to come.
use Rattle.std.specs.Prelude.{◌≡◌, ℕ, List, Option, Some}
use Rattle.dh_syntax.specs.declared.locations.Key.{Key}
use Rattle.dh_syntax.specs.Expressions.Tree.{Term}
use Rattle.dh_imports.specs.Records.{Record}
use Rattle.dh_imports.specs.Resolver.{Walks, plan}
use Rattle.dh_imports.specs.Walk.{Ask}
use Rattle.dh_demand.specs.declared.headways.Headway.{Headway}
use Rattle.dh_demand.specs.declared.headways.Headway.TheVariants as headway
use Rattle.dh_demand.specs.Headways.{IsStraightPast}

-- the text of this key is recorded, no `?` stands in it, and so many of its imports are passed
pub record IsPast (r : Record) (ask : Ask) (k : Key) (imports passed : ℕ) : Type 0 where
  pub code : Term
  pub allow : Option (List ℕ)
  pub plan_is : plan r k ≡ Walks code allow
  pub past : IsStraightPast (Some k.loc) ask code imports passed

-- so far comes the walk of the text of this key, by what is recorded and by these outcomes
abbrev pub IsWay : Record → Ask → Key → Headway → Type 0
IsWay r ask k headway.Unknown = Unit {0}
IsWay r ask k headway.Branching = Unit {0}
IsWay r ask k (headway.Straight imports passed) = IsPast r ask k imports passed
