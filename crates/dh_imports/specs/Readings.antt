-- Texts as a run read them, with the outcomes by which each of their imports has a value.
use Rattle.std.specs.Prelude.{◌≡◌, ℕ, List, Option, Some, None, Ok}
use Rattle.dh_syntax.specs.declared.locations.Key.{Key}
use Rattle.dh_syntax.specs.Expressions.Tree.{Term}
use Rattle.dh_imports.specs.Outcomes.{Outcome}
use Rattle.dh_imports.specs.Records.{Record, Found, text_at}
use Rattle.dh_imports.specs.Resolver.{Resolves}
use Rattle.dh_imports.specs.Walk.{Ask, Ready, walk}

-- these outcomes are ones that the resolver gives
abbrev pub AreOutcomes : Record → Ask → Type 0
AreOutcomes r ask = (k : Key) (o : Outcome) → ask k ≡ Some o → Resolves r k o

-- The text of an item, the expression that it spells, and outcomes of keys. The item is that of a key, or the root.
pub record Reading : Type 0 where
  pub at : Option Key
  pub text : List ℕ
  pub spelled : Term
  pub ask : Ask

-- the root in the text that spells it
abbrev pub root_reading : List ℕ → Term → Ask → Reading
root_reading text root ask = record { at = None; text = text; spelled = root; ask = ask }

-- by these outcomes, which are the resolver's, the expression is this one with a value for each import
pub record HasValue (r : Record) (i : Reading) (value : Term) : Type 0 where
  pub asks : AreOutcomes r i.ask
  pub ready : walk i.at i.ask i.spelled ≡ Ready value

-- so it is with a text that was found at the location of a key
pub record IsReading (r : Record) (i : Reading) (value : Term) : Type 0 where
  pub key : Key
  pub is_at : i.at ≡ Some key
  pub allow : Option (List ℕ)
  pub found : text_at r key.loc ≡ Some (Found i.text allow (Ok i.spelled))
  pub valued : HasValue r i value
