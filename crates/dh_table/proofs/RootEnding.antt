-- How the root of a table ends, against the end of its walk.
use Rattle.std.specs.Prelude.{◌≡◌, ℕ, Bool, true, false, if◌then◌else◌, List, [], Option, Some, None, IfSome, refl}
use Rattle.std.proofs.Common.{sym, subst}
use Rattle.dh_syntax.specs.declared.expressions.Expr.{Expr}
use Rattle.dh_syntax.specs.declared.locations.Digest.{Digest}
use Rattle.dh_imports.specs.declared.outcomes.Blame.{Blame}
use Rattle.dh_imports.specs.declared.outcomes.Why.TheVariants as whys
use Rattle.dh_syntax.specs.Expressions.Bridge.{term}
use Rattle.dh_syntax.specs.Expressions.Tree.{Term}
use Rattle.dh_imports.specs.Keeps.{AreKeeps}
use Rattle.dh_imports.specs.Machine.{State, root_walk}
use Rattle.dh_imports.specs.Replay.{RootEnd, too_many, has_too_many, root_end, end_of}
use Rattle.dh_imports.specs.Resolver.{resolve}
use Rattle.dh_imports.specs.Walk.{Walked, Ready, Fails, Turns, Needs}
use Rattle.dh_table.specs.declared.answers.roots.Ended.{Ended}
use Rattle.dh_table.specs.declared.answers.roots.Ended.TheVariants as ends
use Rattle.dh_record.specs.Due.{IsBlame}
use Rattle.dh_table.specs.Kept.{IsKeeping}
use Rattle.dh_table.specs.Roots.{IsEnd}

abbrev Ends : Option RootEnd → Ended → Type 0
Ends o e = IfSome o (λ x. IsEnd x e)

by_walk : (s : State) (e : Ended) → has_too_many s ≡ false → Ends (end_of (root_walk s)) e → IfSome (root_end s) (λ x. IsEnd x e)
by_walk s e h k = subst (λ b. Ends (if b then Some too_many else end_of (root_walk s)) e) (sym h) k

pub many_end : (s : State) → has_too_many s ≡ true → IfSome (root_end s) (λ x. IsEnd x (ends.Bad (record { at = None; why = whys.TooMany })))
many_end s h = subst (λ b. Ends (if b then Some too_many else end_of (root_walk s)) (ends.Bad (record { at = None; why = whys.TooMany }))) (sym h) refl

pub ready_end : (s : State) (v : Term) (e : Expr) → has_too_many s ≡ false → root_walk s ≡ Ready v → term e ≡ v → IfSome (root_end s) (λ x. IsEnd x (ends.Ready e))
ready_end s v e h w p = by_walk s (ends.Ready e) h (subst (λ x. Ends (end_of x) (ends.Ready e)) (sym w) p)

blamed_end : (w : Walked Term) (b : Blame) → IsBlame w b → Ends (end_of w) (ends.Bad b)
blamed_end (Fails c) b (p, q) = p
blamed_end (Turns j) b p = p
blamed_end (Ready v) b p = absurd p
blamed_end (Needs k) b p = absurd p

pub bad_end : (s : State) (b : Blame) → has_too_many s ≡ false → IsBlame (root_walk s) b → IfSome (root_end s) (λ x. IsEnd x (ends.Bad b))
bad_end s b h p = by_walk s (ends.Bad b) h (blamed_end (root_walk s) b p)

-- ---- what is kept

abbrev Keeps : State → Bool → Walked Term → List (Digest × List ℕ) → Type 0
Keeps s b w kept = IsKeeping s (if b then Some too_many else end_of w) kept

pub many_keep : (s : State) (kept : List (Digest × List ℕ)) → has_too_many s ≡ true → kept ≡ [] → IsKeeping s (root_end s) kept
many_keep s kept h p = subst (λ b. Keeps s b (root_walk s) kept) (sym h) p

pub ready_keep : (s : State) (v : Term) (kept : List (Digest × List ℕ)) → has_too_many s ≡ false → root_walk s ≡ Ready v → (n : ℕ) × AreKeeps s.recorded (resolve s.recorded n []) s.root kept → IsKeeping s (root_end s) kept
ready_keep s v kept h w k = subst (λ b. Keeps s b (root_walk s) kept) (sym h) (subst (λ x. Keeps s false x kept) (sym w) k)
