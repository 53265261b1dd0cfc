-- Codes that are made over older ones.
use Rattle.std.specs.Prelude.{◌≡◌, ◌<◌, ◌≤◌, ℕ, None}
use Rattle.dh_syntax.specs.Names.Nameless.{Core}
use Rattle.dh_store.specs.declared.codes.CodeKid.{CodeKid}
use Rattle.dh_store.specs.declared.codes.Codes.{Codes}
use Rattle.dh_store.specs.Cells.{code_core, AreCoded}
use Rattle.dh_store.specs.Growth.{count}

-- the second codes hold what the first ones hold, and maybe more
pub record Grows (old new : Codes) : Type 0 where
  pub coded : AreCoded new
  pub more : count old ≤ count new
  pub cores : (c : ℕ) → c < count old → code_core new c ≡ code_core old c

-- the code is there, and stands for e
pub record Stands (cs : Codes) (c : ℕ) (e : Core) : Type 0 where
  pub there : c < count cs
  pub core : code_core cs c ≡ e

-- a part under no binder
abbrev pub plain_kid : ℕ → CodeKid
plain_kid c = record { binder = None; code = c }
