-- No fault that decides a key or the root is want of memory.
use Rattle.std.specs.Prelude.{◌≡◌, Some}
use Rattle.dh_syntax.specs.declared.faults.TypeFault.TheVariants as type
use Rattle.dh_syntax.specs.declared.locations.Key.{Key}
use Rattle.dh_syntax.specs.Expressions.Tree.{Term}
use Rattle.dh_imports.specs.declared.outcomes.Blame.{Blame}
use Rattle.dh_imports.specs.declared.outcomes.Why.{Why}
use Rattle.dh_imports.specs.declared.outcomes.Why.TheVariants.{Typing}
use Rattle.dh_imports.specs.Outcomes.{Bad}
use Rattle.dh_imports.specs.Records.{Record, limit_at}
use Rattle.dh_imports.specs.Resolver.{Resolves, ResolvesRoot}
use Rattle.dh_imports.specs.Walk.{Fails}

-- want of memory while an expression was typed
abbrev pub memory : Why
memory = Typing type.Memory

-- no limit on record is one
abbrev pub LimitsNeedNone : Record → Type 0
LimitsNeedNone r = (k : Key) (w : Why) → limit_at r k ≡ Some w → ¬ (w ≡ memory)

-- Over such a record the resolver blames no key for it,
abbrev pub KeysNeedNone : Type 0
KeysNeedNone = (r : Record) (k : Key) (b : Blame) → LimitsNeedNone r → Resolves r k (Bad b) → ¬ (b.why ≡ memory)

-- nor anything for which the root fails.
abbrev pub RootsNeedNone : Type 0
RootsNeedNone = (r : Record) (root : Term) (b : Blame) → LimitsNeedNone r → ResolvesRoot r root (Fails b) → ¬ (b.why ≡ memory)
