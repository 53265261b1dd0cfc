-- The parts of what has no loose variable.
use Rattle.std.specs.Prelude.{◌≡◌, ℕ, suc, List, [], ◌∷◌, Option, Some, None}
use Rattle.std.proofs.Common.{ap, sym, ◌∙◌}
use Rattle.dh_syntax.specs.declared.expressions.Op.{Op}
use Rattle.dh_syntax.specs.Expressions.Forms.{forall}
use Rattle.dh_syntax.specs.Expressions.Tree.{Row, Node, kid, Name}
use Rattle.dh_syntax.specs.Names.Moves.{moved_row}
use Rattle.dh_syntax.specs.Names.Nameless.{Ref, Core, ren, renaming}
use Rattle.dh_store.specs.declared.codes.CodeKid.{CodeKid}
use Rattle.dh_store.specs.Cells.{code_row}
use Rattle.dh_types.specs.Closed.{AreClosed, IsClosed, IsClosedBelow, IsClosedIn}
use Rattle.dh_types.proofs.ClosedCores.{node-once, part-once, rest-once}

closed-kid : (b : Option Name) (e : Core) (r : Row Ref Name) → moved_row renaming (λ i. suc i) (kid b e r) ≡ kid b e r → IsClosedIn b e
closed-kid None e r p = part-once None _ _ _ _ p
closed-kid (Some x) e r p = part-once (Some x) _ _ _ _ p

closed-rest : (b : Option Name) (e : Core) (r : Row Ref Name) → moved_row renaming (λ i. suc i) (kid b e r) ≡ kid b e r → moved_row renaming (λ i. suc i) r ≡ r
closed-rest None e r p = rest-once None _ _ _ _ p
closed-rest (Some x) e r p = rest-once (Some x) _ _ _ _ p

closed-row : (f : ℕ → Core) (ks : List CodeKid) → moved_row renaming (λ i. suc i) (code_row f ks) ≡ code_row f ks → AreClosed f ks
closed-row f [] p = tt
closed-row f (k ∷ ks) p = (closed-kid k.binder (f k.code) (code_row f ks) p, closed-row f ks (closed-rest k.binder (f k.code) (code_row f ks) p))

pub closed-node : (e : Core) (op : Op) (f : ℕ → Core) (ks : List CodeKid) → e ≡ Node op (code_row f ks) → IsClosed e → AreClosed f ks
closed-node e op f ks p h = closed-row f ks (node-once op _ _ (ap (ren (λ i. suc i)) (sym p) ∙ h ∙ p))

pub forall-closed : (x : Name) (d b : Core) → IsClosed d → IsClosedBelow b → IsClosed (forall x d b)
forall-closed x d b p q = both-parts _ _ _ _ p q
  where
    both-parts : (d d' b b' : Core) → d ≡ d' → b ≡ b' → forall x d b ≡ forall x d' b'
    both-parts d d' b b' p q = cc
