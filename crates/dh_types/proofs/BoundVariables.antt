-- Whether a variable is that of a binder above.
use Rattle.std.specs.Prelude.{◌≡◌, ℕ, false, nat_eq, Some, None, pred, if◌then◌else◌}
use Rattle.std.proofs.Common.{ap, sym, ◌∙◌}
use Rattle.dh_syntax.specs.Expressions.Tree.{Leaf}
use Rattle.dh_syntax.specs.Names.Nameless as ref
use Rattle.dh_syntax.specs.Names.Nameless.{Core, ren}
use Rattle.dh_syntax.specs.Typing.NamelessTyping.{down, mentions}
use Rattle.dh_syntax.proofs.NativeTests.{eq-native}
use Rattle.dh_types.specs.Closed.{IsClosedBelow}
use Rattle.dh_types.proofs.ClosedCores.{outside-itself}

pub mentions-bound : (e : Core) (i n k : ℕ) → e ≡ Leaf (ref.Bound i) → n ≡ i → nat_eq n k ≡ mentions k e
mentions-bound e i n k p q = ap (λ m. nat_eq m k) q ∙ sym (eq-native i k) ∙ sym (ap (mentions k) p)

pub outside-down : (e : Core) → IsClosedBelow e → mentions 0 e ≡ false → Some e ≡ down e
outside-down e p m = sym (ap (λ b. if b then None else Some (ren pred e)) m ∙ ap Some (outside-itself e p m))
