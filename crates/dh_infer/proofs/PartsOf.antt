-- The parts of what has variables of lower numbers alone, and what is put into it.
use Rattle.std.specs.Prelude.{◌≡◌, ◌+◌, ◌^◌, ℕ, suc, nat_lt, true, [], codes, Some, None, refl}
use Rattle.std.proofs.lemmas.Bool.Decides.{nat_tests}
use Rattle.std.proofs.Common.{ap, sym, ◌∙◌, arith}
use Rattle.dh_syntax.specs.declared.expressions.Op.{Op}
use Rattle.dh_syntax.specs.declared.expressions.Op.TheVariants as ops
use Rattle.dh_syntax.specs.Expressions.Forms as form
use Rattle.dh_syntax.specs.Expressions.Tree.{Row, Leaf, Node, end, kid, Name}
use Rattle.dh_syntax.specs.Names.Moves.{moved_row}
use Rattle.dh_syntax.specs.Names.Nameless.{Ref, Free, Core, sub, first}
use Rattle.dh_norm.specs.References.{Apart, lower, renamer, opened}
use Rattle.dh_norm.proofs.Opening.{renamer-binders}
use Rattle.dh_infer.specs.Inside.Levels.{moving, IsOf, IsOfBelow}
use Rattle.dh_infer.specs.Inside.OpenTyping.{level}
use Rattle.dh_infer.proofs.Agreeing.{row-of, part-plain, rest-plain, part-bound, plain-kid, bound-kid}
use Rattle.dh_infer.proofs.LevelTypes.{low-number, of_below-more}

-- parts with variables of lower numbers alone
abbrev pub AreRowOf : ℕ → Row Ref Name → Type 0
AreRowOf n r = moved_row renamer (moving n) r ≡ r

pub of-node : (n : ℕ) (op : Op) (r : Row Ref Name) → IsOf n (Node op r) → AreRowOf n r
of-node n op r h = row-of op _ _ h

pub of-first : (n : ℕ) (e : Core) (r : Row Ref Name) → AreRowOf n (kid None e r) → IsOf n e
of-first n e r h = part-plain _ _ _ _ h

pub of-rest : (n : ℕ) (e : Core) (r : Row Ref Name) → AreRowOf n (kid None e r) → AreRowOf n r
of-rest n e r h = rest-plain _ _ _ _ h

pub of-bound : (n : ℕ) (x : Name) (e : Core) (r : Row Ref Name) → AreRowOf n (kid (Some x) e r) → IsOfBelow n e
of-bound n x e r h = part-bound x _ _ _ _ h

-- ---- bodies

put-renamed : (s : Apart) (a b : Core) → sub (first (opened s a)) (opened (lower s) b) ≡ opened s (sub (first a) b)
put-renamed s a b = (renamer-binders (codes "x") (codes "a") (codes "as")).put s (codes "x") a b

-- a body with a value put in
pub of-put : (n : ℕ) (a b : Core) → IsOf n a → IsOfBelow n b → IsOf n (sub (first a) b)
of-put n a b h k = sym (put-renamed (moving n) a b) ∙ ap (λ z. sub (first z) (opened (lower (moving n)) b)) h ∙ ap (sub (first a)) k

below-next : (n : ℕ) → nat_lt (n + 2 ^ 32) (suc n + 2 ^ 32) ≡ true
below-next n = grind (arith, nat_tests)

-- a variable with a number, among more variables
pub of-level : (n : ℕ) → IsOf (suc n) (Leaf (level n))
of-level n = ap (λ m. Leaf (Free [] m)) (low-number (suc n + 2 ^ 32) (n + 2 ^ 32) (below-next n))

pub of-opened_body : (n : ℕ) (b : Core) → IsOfBelow n b → IsOf (suc n) (sub (first (Leaf (level n))) b)
of-opened_body n b k = of-put (suc n) (Leaf (level n)) b (of-level n) (of_below-more n (suc n) b (omega arith) k)

-- ---- nodes over parts

pub of-pair : (n : ℕ) (op : Op) (a b : Core) → IsOf n (Node op (kid None a (kid None b end))) → IsOf n a × IsOf n b
of-pair n op a b h = let r = of-node n op _ h in (of-first n a _ r, of-first n b _ (of-rest n a _ r))

pub of-binding : (n : ℕ) (op : Op) (x : Name) (a b : Core) → IsOf n (Node op (kid None a (kid (Some x) b end))) → IsOf n a × IsOfBelow n b
of-binding n op x a b h = let r = of-node n op _ h in (of-first n a _ r, of-bound n x b _ (of-rest n a _ r))

pub of-twice : (n : ℕ) (op : Op) (x : Name) (t a b : Core) → IsOf n (Node op (kid None t (kid None a (kid (Some x) b end)))) → IsOf n t × IsOf n a × IsOfBelow n b
of-twice n op x t a b h =
    let r = of-node n op _ h in
    let q = of-rest n t _ r in
    (of-first n t _ r, of-first n a _ q, of-bound n x b _ (of-rest n a _ q))

pub of-forall : (n : ℕ) (x : Name) (a b : Core) → IsOf n a → IsOfBelow n b → IsOf n (form.forall x a b)
of-forall n x a b h k = ap (Node ops.Pi) (plain-kid _ _ _ _ h (bound-kid x _ _ _ _ k refl))
