-- Types that were found of codes that stand by themselves.
use Rattle.std.specs.Prelude.{◌≡◌, ◌<◌, ◌++◌, ℕ, List, [], ◌∷◌, map, length, reverse}
use Rattle.dh_syntax.specs.Names.Nameless.{Core}
use Rattle.dh_store.specs.declared.codes.Codes.{Codes}
use Rattle.dh_store.specs.Growth.{count}
use Rattle.dh_infer.specs.declared.facts.Fact.{Fact}
use Rattle.dh_infer.specs.Inside.Debts.{whole, HasFound}
use Rattle.dh_infer.specs.Inside.Levels.{IsOf, AreOf}

-- In the following, `g` is what codes stand for.

-- a code by itself has this type, where the variables that have numbers have these types, the last number first
abbrev pub IsTypeOf : (ℕ → Core) → List ℕ → ℕ → ℕ → Type 0
IsTypeOf g ls c t = IsOf (length (map g ls)) (g c) × HasFound (whole (map g ls) (g c)) (g t)

-- the fact is true: its code has its type, where the numbered variables have the types that it records
abbrev pub IsFact : (ℕ → Core) → Fact → Type 0
IsFact g f = IsTypeOf g (reverse f.levels.items) f.code f.typed

-- each of these facts is true
abbrev pub AreFacts : (ℕ → Core) → List Fact → Type 0
AreFacts g [] = Unit {0}
AreFacts g (f ∷ fs) = IsFact g f × AreFacts g fs

-- so it has, if the types of those variables are types where they may stand
abbrev pub IsTyped : (ℕ → Core) → List ℕ → ℕ → ℕ → Type 0
IsTyped g ls c t = AreOf (map g ls) → IsTypeOf g ls c t

-- it tells the type of this code, which is there, where the variables that have numbers have these types: those of the first numbers
-- are its own
pub record IsFactFor (cs : Codes) (ls : List ℕ) (c : ℕ) (f : Fact) : Type 0 where
  pub code : f.code ≡ c
  pub there : f.typed < count cs
  pub above : List ℕ
  pub levels : ls ≡ above ++ reverse f.levels.items
