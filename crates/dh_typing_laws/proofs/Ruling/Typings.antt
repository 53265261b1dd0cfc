-- Typing in two kinds of expressions: where contexts and leaves are alike, the courses of all inferences are.
use Rattle.std.specs.Prelude.{◌≡◌, ℕ, zero, suc, Bool, true, false, ◌&&◌, if◌then◌else◌, List, [], ◌∷◌, Option, Some, None, option_map, option_and_then, slice_get, codes, refl}
use Rattle.std.proofs.Common.{ap, sym, subst as along}
use Rattle.std.proofs.Math.Path.{fun_ext}
use Rattle.dh_syntax.specs.declared.expressions.Op.{Op}
use Rattle.dh_syntax.specs.declared.expressions.Op.TheVariants as ops
use Rattle.dh_syntax.specs.declared.operators.BinOp.TheVariants as bins
use Rattle.dh_syntax.specs.declared.operators.Builtin.TheVariants as builtins
use Rattle.dh_syntax.specs.Expressions.Forms as form
use Rattle.dh_syntax.specs.Typing.Inference.{Inference, Gives, Fails, Deeper, FromNormal, FromPart, Aside, Instead}
use Rattle.dh_syntax.specs.Names.Moves.{Move, moved, moved_binder, entered}
use Rattle.dh_syntax.specs.Typing.Scopes.{Scopes, Context, enter}
use Rattle.dh_syntax.specs.Expressions.Tree.{Tree, Row, Leaf, Node, end, kid}
use Rattle.dh_syntax.specs.Typing.TypeRules as rule
use Rattle.dh_syntax.specs.Typing.TypeRules.{Rule}
use Rattle.dh_syntax.specs.Typing.TypeRuling.{prepend_type, Ruling, Takes, Forms, Refuses, WithNormal, WithUniverse}
use Rattle.dh_syntax.specs.Typing.TypeViews.{first_of, is_constant}
use Rattle.dh_syntax.specs.Typing.Typing as typings
use Rattle.dh_syntax.specs.Typing.Universes.{as_universe, function_check}
use Rattle.dh_syntax.specs.Expressions.Views.{bodies}
use Rattle.dh_typing_laws.specs.KeptTypes.{typing_over}
use Rattle.dh_typing_laws.proofs.Ruling.MovedViews.{moved_list}
use Rattle.dh_laws.proofs.Normalising.RunsAlike.{plus}
use Rattle.dh_typing_laws.proofs.Ruling.TypedRules.{ScopesMove, OptionsAlike, RulesAlike, operator_ruling-alike, record_ruling-alike}
use Rattle.dh_typing_laws.proofs.Ruling.TypedViews.{get-moved, is_constant-moved, as_universe-moved, universe-moved, moved_forall, as_forall-moved}

-- what leaves answer in `Typing`
abbrev pub by_context : {A B : Type 0} → Scopes A B → ℕ → Context A B → A → Inference (Tree A B)
by_context S depth context a = typings.given_type (S.type_in context a) rule.UnboundVariable

pub typing-is_over : {A B : Type 0} (S : Scopes A B) (depth : ℕ) (context : Context A B) (e : Tree A B)
    → typings.typing S depth context e ≡ typing_over S (by_context S) depth context e
typing-is_over S zero context e = refl
typing-is_over S (suc depth) context (Leaf a) = refl
typing-is_over S (suc depth) context (Node op r) =
    ap (λ below. typings.node S below context op r) (fun_ext (λ c. fun_ext (λ e. typing-is_over S depth c e)))

first_of-alike : {X Y : Type 0} (R : X → Y → Type 0) (o : Option X) (p : Option Y) (o' : Option X) (p' : Option Y)
    → OptionsAlike R o p → OptionsAlike R o' p' → OptionsAlike R (first_of o o') (first_of p p')
first_of-alike R (Some x) (Some y) o' p' h k = h
first_of-alike R None None o' p' h k = k
first_of-alike R (Some x) None o' p' h k = absurd h
first_of-alike R None (Some y) o' p' h k = absurd h

-- Types of the first kind are those of the second one, moved. Expressions are related by `E`, contexts by `G`, and
-- inferences by `Q`, each below what stands above.
module _ {S A B C D : Type 0} (m : Move S A B C D) (E : S → Tree C D → Tree A B → Type 0) where
  -- as many parts, each related
  abbrev pub RowOver : S → Row A B → Type 0
  RowOver s end = Unit {0}
  RowOver s (kid b e r) = ((d : Tree C D) × E (entered m s b) d e) × RowOver s r

  abbrev pub row_of : (s : S) (r : Row A B) → RowOver s r → Row C D
  row_of s end p = end
  row_of s (kid b e r) p = kid (moved_binder m b) p.0.0 (row_of s r p.1)

  abbrev pub ListsAlike : S → List (Tree C D) → List (Tree A B) → Type 0
  ListsAlike s [] [] = Unit {0}
  ListsAlike s (d ∷ ds) (e ∷ es) = E s d e × ListsAlike s ds es
  ListsAlike s _ _ = ⊥

  -- what is asked of the relation of expressions
  pub record Expressions (from : Scopes A B) (to : Scopes C D) : Type 0 where
    -- a type is an expression
    pub known : (s : S) (e : Tree A B) → E s (moved m s e) e
    -- a node is related to nodes alone, with related parts, and to all of these
    pub node : (s : S) (op : Op) (q : Row C D) (e : Tree A B) → E s (Node op q) e → (r : Row A B) × (p : RowOver s r) × (e ≡ Node op r) × (q ≡ row_of s r p)
    pub made : (s : S) (op : Op) (r : Row A B) (p : RowOver s r) → E s (Node op (row_of s r p)) (Node op r)
    pub put : (s : S) (x : B) (a' : Tree C D) (a : Tree A B) (b' : Tree C D) (b : Tree A B)
        → E s a' a → E (m.enter s x) b' b → E s (to.put (m.binder x) a' b') (from.put x a b)
    -- whether it is the constant `Sort` is seen on both sides
    pub sort : (s : S) (d : Tree C D) (e : Tree A B) → E s d e → is_constant builtins.Sort d ≡ is_constant builtins.Sort e

  -- what is asked of the relation of inferences
  pub record Courses (Q : S → Inference (Tree C D) → Inference (Tree A B) → Type 0) : Type 0 where
    pub gives : (s : S) (t : Tree A B) → Q s (Gives (moved m s t)) (Gives t)
    pub fails : (s : S) (r : Rule) → Q s (Fails r) (Fails r)
    pub deeper : (s : S) → Q s Deeper Deeper
    pub from_normal : (s : S) (d : Tree C D) (e : Tree A B) (x : Tree C D → Inference (Tree C D)) (y : Tree A B → Inference (Tree A B))
        → E s d e → ((t : Tree A B) → Q s (x (moved m s t)) (y t)) → Q s (FromNormal d x) (FromNormal e y)
    pub from_part : (s t : S) (k : ℕ) (i : Inference (Tree C D)) (j : Inference (Tree A B)) (x : Tree C D → Inference (Tree C D)) (y : Tree A B → Inference (Tree A B))
        → Q t i j → ((u : Tree A B) → Q s (x (moved m t u)) (y u)) → Q s (FromPart k i x) (FromPart k j y)
    pub aside : (s : S) (i : Inference (Tree C D)) (j : Inference (Tree A B)) (x : Option (Tree C D) → Inference (Tree C D)) (y : Option (Tree A B) → Inference (Tree A B))
        → Q s i j → ((o : Option (Tree A B)) → Q s (x (option_map (moved m s) o)) (y o)) → Q s (Aside i x) (Aside j y)
    pub instead : (s : S) (i : Inference (Tree C D)) (j : Inference (Tree A B)) (r : Rule) → Q s i j → Q s (Instead i r) (Instead j r)

  module _ (G : S → Context C D → Context A B → Type 0) (Q : S → Inference (Tree C D) → Inference (Tree A B) → Type 0)
      (from : Scopes A B) (to : Scopes C D) (h : ScopesMove m from to) (ex : Expressions from to) (q : Courses Q)
      (entering : (s : S) (x : B) (t : Tree A B) (c' : Context C D) (c : Context A B) → G s c' c → G (m.enter s x) (enter to (m.binder x) (moved m s t) c') (enter from x t c)) where
    -- ---- what follows a test

    given_form-alike : {X Y : Type 0} (s : S) (R : Y → X → Type 0) (o' : Option Y) (o : Option X) (r : Rule) (x : Y → Inference (Tree C D)) (y : X → Inference (Tree A B))
        → OptionsAlike R o' o → ((b : Y) (a : X) → R b a → Q s (x b) (y a)) → Q s (typings.given_form o' r x) (typings.given_form o r y)
    given_form-alike s R (Some b) (Some a) r x y p k = k b a p
    given_form-alike s R None None r x y p k = q.fails s r
    given_form-alike s R (Some b) None r x y p k = absurd p
    given_form-alike s R None (Some a) r x y p k = absurd p

    given_map-alike : {X Y : Type 0} (s : S) (g : X → Y) (o' : Option Y) (o : Option X) (r : Rule) (x : Y → Inference (Tree C D)) (y : X → Inference (Tree A B))
        → o' ≡ option_map g o → ((a : X) → Q s (x (g a)) (y a)) → Q s (typings.given_form o' r x) (typings.given_form o r y)
    given_map-alike s g o' (Some a) r x y p k = along (λ c. Q s (typings.given_form c r x) (y a)) (sym p) (k a)
    given_map-alike s g o' None r x y p k = along (λ c. Q s (typings.given_form c r x) (Fails r)) (sym p) (q.fails s r)

    given_same-alike : {X : Type 0} (s : S) (o' o : Option X) (r : Rule) (x : X → Inference (Tree C D)) (y : X → Inference (Tree A B))
        → o' ≡ o → ((a : X) → Q s (x a) (y a)) → Q s (typings.given_form o' r x) (typings.given_form o r y)
    given_same-alike s o' (Some a) r x y p k = along (λ c. Q s (typings.given_form c r x) (y a)) (sym p) (k a)
    given_same-alike s o' None r x y p k = along (λ c. Q s (typings.given_form c r x) (Fails r)) (sym p) (q.fails s r)

    pub given_type-alike : (s : S) (o' : Option (Tree C D)) (o : Option (Tree A B)) (r : Rule) → o' ≡ option_map (moved m s) o → Q s (typings.given_type o' r) (typings.given_type o r)
    given_type-alike s o' (Some t) r p = along (λ c. Q s (typings.given_type c r) (Gives t)) (sym p) (q.gives s t)
    given_type-alike s o' None r p = along (λ c. Q s (typings.given_type c r) (Fails r)) (sym p) (q.fails s r)

    if-alike : (s : S) (b' b : Bool) (x x' : Inference (Tree C D)) (y y' : Inference (Tree A B)) → b' ≡ b → Q s x y → Q s x' y' → Q s (if b' then x else x') (if b then y else y')
    if-alike s b' true x x' y y' p k l = along (λ c. Q s (if c then x else x') y) (sym p) k
    if-alike s b' false x x' y y' p k l = along (λ c. Q s (if c then x else x') y') (sym p) l

    get-alike : (s : S) (ds : List (Tree C D)) (es : List (Tree A B)) → ListsAlike s ds es → (k : ℕ) → OptionsAlike (E s) (slice_get ds k) (slice_get es k)
    get-alike s [] [] p k = tt
    get-alike s (d ∷ ds) (e ∷ es) p zero = p.0
    get-alike s (d ∷ ds) (e ∷ es) p (suc k) = get-alike s ds es p.1 k
    get-alike s [] (e ∷ es) p k = absurd p
    get-alike s (d ∷ ds) [] p k = absurd p

    prepended-alike : (s : S) (d : Tree C D) (e : Tree A B) (o' : Option (List (Tree C D))) (o : Option (List (Tree A B)))
        → E s d e → OptionsAlike (ListsAlike s) o' o → OptionsAlike (ListsAlike s) (option_map (λ ds. d ∷ ds) o') (option_map (λ es. e ∷ es) o)
    prepended-alike s d e (Some ds) (Some es) p k = (p, k)
    prepended-alike s d e None None p k = tt
    prepended-alike s d e (Some ds) None p k = absurd k
    prepended-alike s d e None (Some es) p k = absurd k

    bodies-alike : (s : S) (r : Row A B) (p : RowOver s r) → OptionsAlike (ListsAlike s) (bodies (row_of s r p)) (bodies r)
    bodies-alike s end p = tt
    bodies-alike s (kid None e r) p = prepended-alike s p.0.0 e _ _ p.0.1 (bodies-alike s r p.1)
    bodies-alike s (kid (Some x) e r) p = tt

    types : (s : S) → List (Tree A B) → List (Tree C D)
    types s ts = moved_list m s ts

    module _ (below' : Context C D → Tree C D → Inference (Tree C D)) (below : Context A B → Tree A B → Inference (Tree A B))
        (b : (s : S) (c' : Context C D) (c : Context A B) (d : Tree C D) (e : Tree A B) → G s c' c → E s d e → Q s (below' c' d) (below c e))
        (s : S) (c' : Context C D) (c : Context A B) (g : G s c' c) where
      -- ---- rules on nodes whose parts are typed

      settled-alike : (ds : List (Tree C D)) (es : List (Tree A B)) → ListsAlike s ds es → (ts : List (Tree A B)) (x : Ruling (Tree C D)) (y : Ruling (Tree A B)) → RulesAlike m s x y
          → Q s (typings.settled to below' c' ds (moved_list m s ts) x) (typings.settled from below c es ts y)
      settled-alike ds es l ts (Takes t) (Takes u) p = along (λ z. Q s (Gives z) (Gives u)) (sym p) (q.gives s u)
      settled-alike ds es l ts (Forms t) (Forms u) p =
          q.from_normal s t u _ _ (along (λ z. E s z u) (sym p) (ex.known s u)) (λ v. q.gives s v)
      settled-alike ds es l ts (Refuses r) (Refuses r') p = along (λ z. Q s (Fails r) (Fails z)) p (q.fails s r)
      settled-alike ds es l ts (WithNormal k x) (WithNormal k' y) p =
          along (λ z. Q s (typings.settled to below' c' ds (moved_list m s ts) (WithNormal k x)) (typings.settled from below c es ts (WithNormal z y))) p.0
          (given_form-alike s (E s) _ _ _ _ _ (get-alike s ds es l k) λ d e pe.
          q.from_normal s d e _ _ pe (λ v. settled-alike ds es l ts (x (moved m s v)) (y v) (p.1 v)))
      settled-alike ds es l ts (WithUniverse k x) (WithUniverse k' y) p =
          along (λ z. Q s (typings.settled to below' c' ds (moved_list m s ts) (WithUniverse k x)) (typings.settled from below c es ts (WithUniverse z y))) p.0
          (given_map-alike s (moved m s) _ _ _ _ _ (get-moved m s ts k) λ t.
          q.aside s _ _ _ _ (b s c' c (moved m s t) t g (ex.known s t)) λ o.
          along (λ z. Q s (typings.settled to below' c' ds (moved_list m s ts) (x z)) (typings.settled from below c es ts (y (option_and_then as_universe o)))) (sym (universe-moved m s o))
          (settled-alike ds es l ts (x (option_and_then as_universe o)) (y (option_and_then as_universe o)) (p.1 (option_and_then as_universe o))))
      settled-alike ds es l ts (Takes t) (Forms u) p = absurd p
      settled-alike ds es l ts (Takes t) (Refuses r) p = absurd p
      settled-alike ds es l ts (Takes t) (WithNormal k y) p = absurd p
      settled-alike ds es l ts (Takes t) (WithUniverse k y) p = absurd p
      settled-alike ds es l ts (Forms t) (Takes u) p = absurd p
      settled-alike ds es l ts (Forms t) (Refuses r) p = absurd p
      settled-alike ds es l ts (Forms t) (WithNormal k y) p = absurd p
      settled-alike ds es l ts (Forms t) (WithUniverse k y) p = absurd p
      settled-alike ds es l ts (Refuses r) (Takes u) p = absurd p
      settled-alike ds es l ts (Refuses r) (Forms u) p = absurd p
      settled-alike ds es l ts (Refuses r) (WithNormal k y) p = absurd p
      settled-alike ds es l ts (Refuses r) (WithUniverse k y) p = absurd p
      settled-alike ds es l ts (WithNormal k x) (Takes u) p = absurd p
      settled-alike ds es l ts (WithNormal k x) (Forms u) p = absurd p
      settled-alike ds es l ts (WithNormal k x) (Refuses r) p = absurd p
      settled-alike ds es l ts (WithNormal k x) (WithUniverse k' y) p = absurd p
      settled-alike ds es l ts (WithUniverse k x) (Takes u) p = absurd p
      settled-alike ds es l ts (WithUniverse k x) (Forms u) p = absurd p
      settled-alike ds es l ts (WithUniverse k x) (Refuses r) p = absurd p
      settled-alike ds es l ts (WithUniverse k x) (WithNormal k' y) p = absurd p

      unless-alike : (u : Bool) (k : ℕ) (d : Tree C D) (e : Tree A B) → E s d e → (x : Option (Tree C D) → Inference (Tree C D)) (y : Option (Tree A B) → Inference (Tree A B))
          → ((o : Option (Tree A B)) → Q s (x (option_map (moved m s) o)) (y o)) → Q s (typings.unless_untyped to below' c' u k d x) (typings.unless_untyped from below c u k e y)
      unless-alike true k d e p x y n = n None
      unless-alike false k d e p x y n = q.from_part s s k _ _ _ _ (b s c' c d e g p) (λ t. n (Some t))

      part-alike : (op : Op) (k : ℕ) (d : Tree C D) (e : Tree A B) → E s d e → (x : Option (Tree C D) → Inference (Tree C D)) (y : Option (Tree A B) → Inference (Tree A B))
          → ((o : Option (Tree A B)) → Q s (x (option_map (moved m s) o)) (y o)) → Q s (typings.from_part to below' c' op k d x) (typings.from_part from below c op k e y)
      part-alike op k d e p x y n =
          along (λ z. Q s (typings.unless_untyped to below' c' (typings.is_annotation to below' c' op k && z) k d x) (typings.from_part from below c op k e y)) (sym (ex.sort s d e p))
          (unless-alike _ k d e p x y n)

      prepended_type : (o : Option (Tree A B)) (ts : List (Tree A B)) → prepend_type (option_map (moved m s) o) (moved_list m s ts) ≡ moved_list m s (prepend_type o ts)
      prepended_type (Some t) ts = refl
      prepended_type None ts = refl

      parts-alike : (op : Op) (k : ℕ) (ds : List (Tree C D)) (es : List (Tree A B)) → ListsAlike s ds es → (x : List (Tree C D) → Inference (Tree C D)) (y : List (Tree A B) → Inference (Tree A B))
          → ((ts : List (Tree A B)) → Q s (x (moved_list m s ts)) (y ts)) → Q s (typings.from_parts to below' c' op k ds x) (typings.from_parts from below c op k es y)
      parts-alike op k [] [] l x y n = n []
      parts-alike op k (d ∷ ds) (e ∷ es) l x y n =
          part-alike op k d e l.0 _ _ λ o. parts-alike op (suc k) ds es l.1 _ _ λ ts.
          along (λ z. Q s (x z) (y (prepend_type o ts))) (sym (prepended_type o ts)) (n (prepend_type o ts))
      parts-alike op k [] (e ∷ es) l x y n = absurd l
      parts-alike op k (d ∷ ds) [] l x y n = absurd l

      grouped-alike : (op : Op) (ds : List (Tree C D)) (es : List (Tree A B)) → ListsAlike s ds es → Q s (typings.grouped to below' c' op ds) (typings.grouped from below c op es)
      grouped-alike op ds es l =
          parts-alike op 0 ds es l _ _ λ ts.
          given_form-alike s (RulesAlike m s) _ _ _ _ _
          (first_of-alike (RulesAlike m s) _ _ _ _ (operator_ruling-alike m s from to h op ts) (record_ruling-alike m s from to h op ts)) λ x y r.
          settled-alike ds es l ts x y r

      -- ---- rules that stand for themselves

      lambda-alike : (x : B) (a' : Tree C D) (a : Tree A B) (d : Tree C D) (e : Tree A B) → E s a' a → E (m.enter s x) d e
          → Q s (typings.lambda to below' c' (m.binder x) a' d) (typings.lambda from below c x a e)
      lambda-alike x a' a d e p k =
          q.from_part s s 0 _ _ _ _ (b s c' c a' a g p) λ t.
          given_same-alike s _ _ _ _ _ (as_universe-moved m s t) λ u.
          q.from_normal s a' a _ _ p λ v.
          q.from_part s (m.enter s x) 1 _ _ _ _ (b (m.enter s x) _ _ d e (entering s x v c' c g) k) λ r.
          if-alike s _ _ _ _ _ _ (is_constant-moved m (m.enter s x) builtins.Sort r) (q.fails s rule.LambdaBody)
          (q.from_normal s (form.forall (m.binder x) (moved m s v) (moved m (m.enter s x) r)) (form.forall x v r) _ _ (ex.known s (form.forall x v r)) (λ w. q.gives s w))

      forall-alike : (x : B) (a' : Tree C D) (a : Tree A B) (d : Tree C D) (e : Tree A B) → E s a' a → E (m.enter s x) d e
          → Q s (typings.forall to below' c' (m.binder x) a' d) (typings.forall from below c x a e)
      forall-alike x a' a d e p k =
          q.from_part s s 0 _ _ _ _ (b s c' c a' a g p) λ t.
          given_same-alike s _ _ _ _ _ (as_universe-moved m s t) λ u.
          q.from_normal s a' a _ _ p λ v.
          q.from_part s (m.enter s x) 1 _ _ _ _ (b (m.enter s x) _ _ d e (entering s x v c' c g) k) λ r.
          given_same-alike s _ _ _ _ _ (as_universe-moved m (m.enter s x) r) λ w.
          q.gives s (form.builtin (function_check u w))

      application-alike : (d : Tree C D) (e : Tree A B) (a' : Tree C D) (a : Tree A B) → E s d e → E s a' a
          → Q s (typings.application to below' c' d a') (typings.application from below c e a)
      application-alike d e a' a p k =
          q.from_part s s 0 _ _ _ _ (b s c' c d e g p) λ t.
          q.from_part s s 1 _ _ _ _ (b s c' c a' a g k) λ u.
          given_map-alike s (moved_forall m s) _ _ _ _ _ (as_forall-moved m s t) λ w.
          if-alike s _ _ _ _ _ _ (h.same s u w.0)
          (q.from_normal s _ _ _ _ (ex.put s w.1 a' a (moved m (m.enter s w.1) w.2) w.2 k (ex.known (m.enter s w.1) w.2)) (λ r. q.gives s r))
          (q.fails s rule.WrongArgument)

      let_body-alike : (n : ℕ) (x : B) (a' : Tree C D) (a : Tree A B) (d : Tree C D) (e : Tree A B) → E s a' a → E (m.enter s x) d e
          → Q s (typings.let_body to below' c' n (m.binder x) a' d) (typings.let_body from below c n x a e)
      let_body-alike n x a' a d e p k =
          q.from_normal s a' a _ _ p λ v.
          q.from_part s s n _ _ _ _ (b s c' c _ _ g (ex.put s x (moved m s v) v d e (ex.known s v) k)) λ t. q.gives s t

      let_in-alike : (x : B) (a' : Tree C D) (a : Tree A B) (d : Tree C D) (e : Tree A B) → E s a' a → E (m.enter s x) d e
          → Q s (typings.let_in to below' c' (m.binder x) a' d) (typings.let_in from below c x a e)
      let_in-alike x a' a d e p k = q.from_part s s 0 _ _ _ _ (b s c' c a' a g p) λ t. let_body-alike 1 x a' a d e p k

      let_typed-alike : (x : B) (t' : Tree C D) (t : Tree A B) (a' : Tree C D) (a : Tree A B) (d : Tree C D) (e : Tree A B) → E s t' t → E s a' a → E (m.enter s x) d e
          → Q s (typings.let_typed to below' c' (m.binder x) t' a' d) (typings.let_typed from below c x t a e)
      let_typed-alike x t' t a' a d e p k l =
          part-alike (ops.Let true) 0 t' t p _ _ λ o.
          q.from_part s s 1 _ _ _ _ (b s c' c a' a g k) λ u.
          q.from_normal s t' t _ _ p λ v.
          if-alike s _ _ _ _ _ _ (h.same s u v) (let_body-alike 2 x a' a d e k l) (q.fails s rule.LetAnnotation)

      completion-alike : (t' : Tree C D) (t : Tree A B) (d : Tree C D) (e : Tree A B) → E s t' t → E s d e
          → Q s (typings.completion to below' c' t' d) (typings.completion from below c t e)
      completion-alike t' t d e p k =
          q.from_part s s 0 _ _ _ _ (b s c' c t' t g p) λ u.
          q.from_part s s 1 _ _ _ _ (b s c' c d e g k) λ v.
          q.instead s _ _ _
          (b s c' c _ _ g
          (ex.made s ops.Annot (kid None _ (kid None _ end)) (
            (_, ex.made s (ops.Bin bins.Prefer) (kid None _ (kid None _ end)) ((_, ex.made s (ops.Field (codes "default")) (kid None _ end) ((_, p), tt)), ((_, k), tt))),
            ((_, ex.made s (ops.Field (codes "Type")) (kid None _ end) ((_, p), tt)), tt),
          )))

      -- ---- an expression

      generic-alike : (op : Op) (r : Row A B) (p : RowOver s r)
          → Q s (typings.given_form (bodies (row_of s r p)) rule.NotResolved (λ ds. typings.grouped to below' c' op ds)) (typings.given_form (bodies r) rule.NotResolved (λ es. typings.grouped from below c op es))
      generic-alike op r p = given_form-alike s (ListsAlike s) _ _ _ _ _ (bodies-alike s r p) (grouped-alike op)

      pub node-alike : (op : Op) (r : Row A B) (p : RowOver s r) → Q s (typings.node to below' c' op (row_of s r p)) (typings.node from below c op r)
      node-alike (ops.Builtin k) r p = given_type-alike s _ _ _ (h.type_of s k)
      node-alike (ops.Bool k) r p = q.gives s (form.builtin builtins.Bool)
      node-alike (ops.Nat n) r p = q.gives s (form.builtin builtins.Natural)
      node-alike (ops.Int z) r p = q.gives s (form.builtin builtins.Integer)
      node-alike ops.Lam (kid None a (kid (Some x) e end)) p = lambda-alike x _ a _ e p.0.1 p.1.0.1
      node-alike ops.Pi (kid None a (kid (Some x) e end)) p = forall-alike x _ a _ e p.0.1 p.1.0.1
      node-alike (ops.Let false) (kid None a (kid (Some x) e end)) p = let_in-alike x _ a _ e p.0.1 p.1.0.1
      node-alike (ops.Let true) (kid None t (kid None a (kid (Some x) e end))) p = let_typed-alike x _ t _ a _ e p.0.1 p.1.0.1 p.1.1.0.1
      node-alike ops.App (kid None e (kid None a end)) p = application-alike _ e _ a p.0.1 p.1.0.1
      node-alike (ops.Bin bins.Complete) (kid None t (kid None e end)) p = completion-alike _ t _ e p.0.1 p.1.0.1
      node-alike op r p = generic-alike op r p

    -- ---- the law

    -- The second typing may have `more` depth. Where the first one has none, `shallow` relates it to any.
    pub typing-alike : (more : ℕ) (look : ℕ → Context C D → C → Inference (Tree C D))
        → ((s : S) (c' : Context C D) (c : Context A B) (d : Tree C D) (e : Tree A B) → G s c' c → E s d e → Q s Deeper (typings.typing from more c e))
        → ((depth : ℕ) (s : S) (c' : Context C D) (c : Context A B) (a : C) (e : Tree A B) → G s c' c → E s (Leaf a) e → Q s (look depth c' a) (typings.typing from (suc (plus depth more)) c e))
        → (depth : ℕ) (s : S) (c' : Context C D) (c : Context A B) (d : Tree C D) (e : Tree A B) → G s c' c → E s d e
        → Q s (typing_over to look depth c' d) (typings.typing from (plus depth more) c e)
    typing-alike more look shallow leaf zero s c' c d e g p = shallow s c' c d e g p
    typing-alike more look shallow leaf (suc depth) s c' c (Leaf a) e g p = leaf depth s c' c a e g p
    typing-alike more look shallow leaf (suc depth) s c' c (Node op r') e g p =
        let n = ex.node s op r' e p in
        along (λ z. Q s (typings.node to (typing_over to look depth) c' op r') (typings.typing from (suc (plus depth more)) c z)) (sym n.2)
        (along (λ z. Q s (typings.node to (typing_over to look depth) c' op z) (typings.node from (typings.typing from (plus depth more)) c op n.0)) (sym n.3)
        (node-alike (typing_over to look depth) (typings.typing from (plus depth more)) (λ t k' k x y i j. typing-alike more look shallow leaf depth t k' k x y i j) s c' c g op n.0 n.1))
