-- Typing commutes with a move, where what typing does with names and binders does.
use Rattle.std.specs.Prelude.{◌≡◌, ℕ, zero, suc, option_map, refl}
use Rattle.std.proofs.Common.{ap, sym, ◌∙◌, subst as along}
use Rattle.dh_syntax.specs.declared.expressions.Op.{Op}
use Rattle.dh_syntax.specs.declared.operators.Builtin.TheVariants as builtins
use Rattle.dh_syntax.specs.Typing.Inference.{Inference}
use Rattle.dh_syntax.specs.Names.Moves.{Move, moved, moved_row, entered}
use Rattle.dh_syntax.specs.Typing.Scopes.{Scopes, Context, enter}
use Rattle.dh_syntax.specs.Expressions.Tree.{Tree, Row, Leaf, Node, end, kid}
use Rattle.dh_syntax.specs.Typing.TypeRules as rule
use Rattle.dh_syntax.specs.Typing.TypeViews.{is_constant}
use Rattle.dh_syntax.specs.Typing.Typing as typings
use Rattle.dh_laws.proofs.Normalising.RunsAlike.{plus}
use Rattle.dh_typing_laws.specs.KeptTypes.{typing_over}
use Rattle.dh_typing_laws.proofs.Ruling.TypedRules.{ScopesMove}
use Rattle.dh_typing_laws.proofs.Ruling.TypedViews.{is_constant-moved}
use Rattle.dh_typing_laws.proofs.Ruling.Typings.{RowOver, row_of, Expressions, Courses, by_context, typing-is_over, given_type-alike, typing-alike}

plus-zero : (n : ℕ) → plus n 0 ≡ n
plus-zero zero = refl
plus-zero (suc n) = ap suc (plus-zero n)

leaf-equal : {A B : Type 0} (a b : A) (e : Tree A B) → e ≡ Leaf a → e ≡ Leaf b → a ≡ b
leaf-equal a b e h k = cc

module _ {S A B C D : Type 0} (m : Move S A B C D) where
  -- the first one is the second one, moved
  abbrev pub IsMoved : S → Tree C D → Tree A B → Type 0
  IsMoved s d e = d ≡ moved m s e

  over : (s : S) (r : Row A B) → RowOver m IsMoved s r
  over s end = tt
  over s (kid b e r) = ((moved m (entered m s b) e, refl), over s r)

  row-moved : (s : S) (r : Row A B) (p : RowOver m IsMoved s r) → row_of m IsMoved s r p ≡ moved_row m s r
  row-moved s end p = refl
  row-moved s (kid b e r) p = let h = p.0.1 in let k = row-moved s r p.1 in cc

  moved-node : (s : S) (op : Op) (q : Row C D) (e : Tree A B) → Node op q ≡ moved m s e
      → (r : Row A B) × (p : RowOver m IsMoved s r) × (e ≡ Node op r) × (q ≡ row_of m IsMoved s r p)
  moved-node s op q (Leaf a) h = absurd cc
  moved-node s op q (Node op' r) h = let k = row-moved s r (over s r) in (r, over s r, cc, cc)

  module _ (from : Scopes A B) (to : Scopes C D) (h : ScopesMove m from to)
      (puts : (s : S) (x : B) (a b : Tree A B) → to.put (m.binder x) (moved m s a) (moved m (m.enter s x) b) ≡ moved m s (from.put x a b)) where
    pub moved-expressions : Expressions m IsMoved from to
    moved-expressions = record {
      known = λ s e. refl;
      node = moved-node;
      made = λ s op r p. ap (Node op) (row-moved s r p);
      put = λ s x a' a b' b p q. ap (λ z. to.put (m.binder x) z b') p ∙ ap (to.put (m.binder x) (moved m s a)) q ∙ puts s x a b;
      sort = λ s d e p. ap (is_constant builtins.Sort) p ∙ is_constant-moved m s builtins.Sort e;
    }

    module _ (G : S → Context C D → Context A B → Type 0) (Q : S → Inference (Tree C D) → Inference (Tree A B) → Type 0) (q : Courses m IsMoved Q)
        (entering : (s : S) (x : B) (t : Tree A B) (c' : Context C D) (c : Context A B) → G s c' c → G (m.enter s x) (enter to (m.binder x) (moved m s t) c') (enter from x t c))
        (looks : (s : S) (c' : Context C D) (c : Context A B) (a : A) → G s c' c → to.type_in c' (m.leaf s a) ≡ option_map (moved m s) (from.type_in c a)) where
      moved-leaf : (depth : ℕ) (s : S) (c' : Context C D) (c : Context A B) (a : C) (e : Tree A B) → G s c' c → IsMoved s (Leaf a) e
          → Q s (by_context to depth c' a) (typings.typing from (suc (plus depth 0)) c e)
      moved-leaf depth s c' c a (Leaf b) g p =
          given_type-alike m IsMoved G Q from to h moved-expressions q entering s _ _ rule.UnboundVariable (ap (to.type_in c') (leaf-equal a (m.leaf s b) (Leaf a) refl p) ∙ looks s c' c b g)
      moved-leaf depth s c' c a (Node op r) g p = absurd cc

      pub typing-moved : (depth : ℕ) (s : S) (c' : Context C D) (c : Context A B) (e : Tree A B) → G s c' c
          → Q s (typings.typing to depth c' (moved m s e)) (typings.typing from depth c e)
      typing-moved depth s c' c e g =
          along (λ z. Q s z (typings.typing from depth c e)) (sym (typing-is_over to depth c' (moved m s e)))
          (along (λ z. Q s (typing_over to (by_context to) depth c' (moved m s e)) (typings.typing from z c e)) (plus-zero depth)
          (typing-alike m IsMoved G Q from to h moved-expressions q entering 0 (by_context to) (λ t k' k d f i j. q.deeper t) moved-leaf depth s c' c (moved m s e) e g refl))
