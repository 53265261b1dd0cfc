-- What every move keeps, and when two moves are one.
use Rattle.std.specs.Prelude.{◌≡◌, Some, None, refl}
use Rattle.std.proofs.Common.{ap}
use Rattle.dh_syntax.specs.Names.Moves.{Move, moved, moved_row, entered}
use Rattle.dh_syntax.specs.Expressions.Nesting.{nesting, parts_nesting}
use Rattle.dh_syntax.specs.Expressions.Tree.{Tree, Row, Leaf, Node, end, kid}

mutual
  pub nesting-moved : {S A B C D : Type 0} (m : Move S A B C D) (s : S) (e : Tree A B) → nesting (moved m s e) ≡ nesting e
  nesting-moved m s (Leaf a) = refl
  nesting-moved m s (Node op r) = nesting-moved_row m s r

  pub nesting-moved_row : {S A B C D : Type 0} (m : Move S A B C D) (s : S) (r : Row A B) → parts_nesting (moved_row m s r) ≡ parts_nesting r
  nesting-moved_row m s end = refl
  nesting-moved_row m s (kid b e r) =
      let p = nesting-moved m (entered m s b) e in
      let q = nesting-moved_row m s r in
      cc

-- one move and then another
abbrev pub then : {S T A B C D E F : Type 0} → Move S A B C D → Move T C D E F → Move (S × T) A B E F
then m n = record {
  leaf = λ s a. n.leaf s.1 (m.leaf s.0 a);
  binder = λ b. n.binder (m.binder b);
  enter = λ s b. (m.enter s.0 b, n.enter s.1 (m.binder b));
}

mutual
  pub moved-then : {S T A B C D E F : Type 0} (m : Move S A B C D) (n : Move T C D E F) (s : S) (t : T) (e : Tree A B)
      → moved n t (moved m s e) ≡ moved (then m n) (s, t) e
  moved-then m n s t (Leaf a) = refl
  moved-then m n s t (Node op r) = ap (Node op) (moved_row-then m n s t r)

  pub moved_row-then : {S T A B C D E F : Type 0} (m : Move S A B C D) (n : Move T C D E F) (s : S) (t : T) (r : Row A B)
      → moved_row n t (moved_row m s r) ≡ moved_row (then m n) (s, t) r
  moved_row-then m n s t end = refl
  moved_row-then m n s t (kid None e r) = let p = moved-then m n s t e in let q = moved_row-then m n s t r in cc
  moved_row-then m n s t (kid (Some b) e r) = let p = moved-then m n (m.enter s b) (n.enter t (m.binder b)) e in let q = moved_row-then m n s t r in cc

-- Two moves agree from states that are related: they make the same of leaves and binders, and stay related below a binder.
pub record Agree {S T A B C D : Type 0} (m : Move S A B C D) (n : Move T A B C D) (R : S → T → Type 0) : Type 0 where
  pub leaf : (s : S) (t : T) (a : A) → R s t → m.leaf s a ≡ n.leaf t a
  pub binder : (b : B) → m.binder b ≡ n.binder b
  pub enter : (s : S) (t : T) (b : B) → R s t → R (m.enter s b) (n.enter t b)

mutual
  pub moved-agree : {S T A B C D : Type 0} {m : Move S A B C D} {n : Move T A B C D} {R : S → T → Type 0} (h : Agree m n R) (s : S) (t : T) (e : Tree A B)
      → R s t → moved m s e ≡ moved n t e
  moved-agree h s t (Leaf a) k = ap Leaf (h.leaf s t a k)
  moved-agree h s t (Node op r) k = ap (Node op) (moved_row-agree h s t r k)

  pub moved_row-agree : {S T A B C D : Type 0} {m : Move S A B C D} {n : Move T A B C D} {R : S → T → Type 0} (h : Agree m n R) (s : S) (t : T) (r : Row A B)
      → R s t → moved_row m s r ≡ moved_row n t r
  moved_row-agree h s t end k = refl
  moved_row-agree h s t (kid None e r) k = let p = moved-agree h s t e k in let q = moved_row-agree h s t r k in cc
  moved_row-agree {m = m} {n = n} h s t (kid (Some b) e r) k =
      let p = moved-agree h _ _ e (h.enter s t b k) in
      let q = moved_row-agree h s t r k in
      let c = h.binder b in
      cc

-- the move that changes nothing
abbrev pub staying : {A B : Type 0} → Move (Unit {0}) A B A B
staying = record { leaf = λ s a. a; binder = λ b. b; enter = λ s b. tt }

mutual
  pub moved-staying : {A B : Type 0} (e : Tree A B) → moved staying tt e ≡ e
  moved-staying (Leaf a) = refl
  moved-staying (Node op r) = ap (Node op) (moved_row-staying r)

  pub moved_row-staying : {A B : Type 0} (r : Row A B) → moved_row staying tt r ≡ r
  moved_row-staying end = refl
  moved_row-staying (kid None e r) = let p = moved-staying e in let q = moved_row-staying r in cc
  moved_row-staying (kid (Some b) e r) = let p = moved-staying e in let q = moved_row-staying r in cc
