-- What may be answered in place of a normal form.
use Rattle.std.specs.Prelude.{◌≡◌, ℕ}
use Rattle.dh_syntax.specs.Expressions.Nesting.{nesting}
use Rattle.dh_syntax.specs.Names.Nameless.{Core}
use Rattle.dh_syntax.specs.Normalising.NamelessRuns.{cores}
use Rattle.dh_syntax.specs.Normalising.Normal.{IsLicensed}
use Rattle.dh_norm.specs.References.{Apart, opened}
use Rattle.dh_syntax.specs.declared.faults.NormFault.{NormFault}

-- each reference of it is that of an expression of the program
abbrev pub Within : Apart → Core → Type 0
Within s e = (d : Core) × (e ≡ opened s d)

-- the fault may be answered for the expression in place of its normal form, with so many units
abbrev pub IsLicensedHalt : ℕ → Core → NormFault → Type 0
IsLicensedHalt units e f = IsLicensed cores nesting units e f
