-- An expression that has a type in the empty context has no free variable.
--
-- The rules of typing ask for the type of each part, and a variable that is not bound has none. It is shown of nameless
-- forms, whose substitution leaves free variables as they are.
use Rattle.std.specs.Prelude.{◌≡◌, ℕ, zero, suc, Bool, true, false, ◌&&◌, List, [], ◌∷◌, Option, Some, None, option_map, if◌then◌else◌, ◌⊎◌, IsTrue, refl}
use Rattle.std.proofs.Common.{ap, sym, ◌∙◌, inl, inr, subst as along}
use Rattle.dh_syntax.specs.declared.expressions.Op.{Op}
use Rattle.dh_syntax.specs.declared.expressions.Op.TheVariants as ops
use Rattle.dh_syntax.specs.declared.operators.BinOp.TheVariants as bins
use Rattle.dh_syntax.specs.declared.operators.Builtin.TheVariants as builtins
use Rattle.dh_syntax.specs.Expressions.Arity.{plain, IsWellFormed, AreWellFormed}
use Rattle.dh_syntax.specs.Expressions.Tree.{Row, Leaf, Node, end, kid, Name, Term}
use Rattle.dh_syntax.specs.Expressions.Views.{bodies}
use Rattle.dh_imports.specs.Records.{IsTyped}
use Rattle.dh_syntax.specs.Names.Nameless.{Ref, Bound, Free, Core, going_nameless, to_core, sub, sub_row, sub_below, first}
use Rattle.dh_syntax.specs.Normalising.Heads.{Answer, Found, Wide, Deep, Over, Whole, run}
use Rattle.dh_syntax.specs.Normalising.NamelessRuns.{cores}
use Rattle.dh_syntax.specs.Normalising.Normal.{endless}
use Rattle.dh_syntax.specs.Typing.Inference.{Inference, Gives, Fails, Deeper, FromNormal, FromPart, Aside, Instead, Judgment, Has, Ill, IsWide, IsDeep, IsOver, IsOverAside, IsShallow, after_normal, after_part, judged}
use Rattle.dh_syntax.specs.Typing.NamedTyping.{infer}
use Rattle.dh_syntax.specs.Typing.NamelessTyping.{core_scopes}
use Rattle.dh_syntax.specs.Typing.Scopes.{Context, enter}
use Rattle.dh_syntax.specs.Typing.TypeRules as rule
use Rattle.dh_syntax.specs.Typing.TypeRules.{Rule}
use Rattle.dh_syntax.specs.Typing.TypeViews.{is_constant, as_forall}
use Rattle.dh_syntax.specs.Typing.Typing as typings
use Rattle.dh_syntax.specs.Typing.Typing.{typing}
use Rattle.dh_syntax.specs.Typing.Universes.{as_universe}
use Rattle.dh_syntax.proofs.Numbers.{and-true_right}
use Rattle.dh_typing_laws.specs.Judgments.{judgment_map}
use Rattle.dh_typing_laws.proofs.Typing.Weakenings.{nameless_judgments}
use Rattle.dh_terms.proofs.Shapes.{well_formed-moved}
use Rattle.dh_work.specs.Inside.Frees.{has_free, has_free_row}

-- ---- no free variable

abbrev is_literal : Op → Bool
is_literal (ops.Builtin b) = true
is_literal (ops.Bool b) = true
is_literal (ops.Nat n) = true
is_literal (ops.Int z) = true
is_literal op = false

abbrev mutual
  -- no variable is free; the parts of a literal, which has none, are not looked at
  pub Sealed : Core → Type 0
  Sealed (Leaf (Bound i)) = Unit {0}
  Sealed (Leaf (Free x n)) = ⊥
  Sealed (Node op r) = is_literal op ≡ false → Sealed_row r

  pub Sealed_row : Row Ref Name → Type 0
  Sealed_row end = Unit {0}
  Sealed_row (kid b e r) = Sealed e × Sealed_row r

abbrev AllSealed : List Core → Type 0
AllSealed [] = Unit {0}
AllSealed (e ∷ es) = Sealed e × AllSealed es

not-true : {P : Type 0} → true ≡ false → P
not-true h = absurd cc

-- what is put for bound variables takes no free variable away
mutual
  sealed-sub : (s : ℕ → Core) (e : Core) → Sealed (sub s e) → Sealed e
  sealed-sub s (Leaf (Bound i)) h = tt
  sealed-sub s (Leaf (Free x n)) h = h
  sealed-sub s (Node op r) h = λ p. sealed-sub_row s r (h p)

  sealed-sub_row : (s : ℕ → Core) (r : Row Ref Name) → Sealed_row (sub_row s r) → Sealed_row r
  sealed-sub_row s end h = tt
  sealed-sub_row s (kid b e r) h = (sealed-sub (sub_below b s) e h.0, sealed-sub_row s r h.1)

constant-sealed : (e : Core) → is_constant builtins.Sort e ≡ true → Sealed e
constant-sealed (Node (ops.Builtin c) r) h = λ p. not-true p
constant-sealed _ h = not-true (sym h)

none-some : {X : Type 0} {P : Type 0} (x : X) → None ≡ Some x → P
none-some x h = absurd cc

the-some : {X : Type 0} (x y : X) → Some x ≡ Some y → x ≡ y
the-some x y h = cc

-- the parts are those of the list
cons-sealed : (e : Core) (r : Row Ref Name) (es : List Core) → ((ds : List Core) → bodies r ≡ Some ds → AllSealed ds → Sealed_row r)
    → (o : Option (List Core)) → bodies r ≡ o → option_map (λ ds. e ∷ ds) o ≡ Some es → AllSealed es → Sealed_row (kid None e r)
cons-sealed e r es rest None p q k = none-some es q
cons-sealed e r es rest (Some ds) p q k =
    let all : AllSealed (e ∷ ds) = along AllSealed (sym (the-some (e ∷ ds) es q)) k in
    (all.0, rest ds p all.1)

bodies-sealed : (r : Row Ref Name) (es : List Core) → bodies r ≡ Some es → AllSealed es → Sealed_row r
bodies-sealed end es h k = tt
bodies-sealed (kid (Some x) e r) es h k = none-some es h
bodies-sealed (kid None e r) es h k = cons-sealed e r es (bodies-sealed r) (bodies r) refl h k

-- ---- what comes to a type

module _ (normal : ℕ → Core → Answer Core) where
  -- with some units and some purse it comes to a type
  record HasSome (i : Inference Core) : Type 0 where
    pub purse : ℕ
    pub units : ℕ
    pub type : Core
    pub left : ℕ
    pub comes : judged normal purse units i ≡ Has type left

  some-of : (i : Inference Core) (purse units : ℕ) (t : Core) (left : ℕ) → judged normal purse units i ≡ Has t left → HasSome i
  some-of i purse units t left h = record { purse = purse; units = units; type = t; left = left; comes = h }

  -- what is asked for comes to a type, and so does what follows
  part-some : (k : ℕ) (i : Inference Core) (next : Core → Inference Core) → HasSome (FromPart k i next) → HasSome i × ((u : Core) × HasSome (next u))
  part-some k i next h = at (judged normal h.purse h.units i) refl h.comes
    where
      at : (j : Judgment Core) → judged normal h.purse h.units i ≡ j → after_part k j (λ u rest. judged normal h.purse rest (next u)) ≡ Has h.type h.left
          → HasSome i × ((u : Core) × HasSome (next u))
      at (Has u rest) p q = (some-of i h.purse h.units u rest p, (u, some-of (next u) h.purse rest h.type h.left q))
      at (Ill path rule) p q = absurd cc
      at IsWide p q = absurd cc
      at IsDeep p q = absurd cc
      at IsOver p q = absurd cc
      at IsOverAside p q = absurd cc
      at IsShallow p q = absurd cc

  normal-some : (e : Core) (next : Core → Inference Core) → HasSome (FromNormal e next) → (f : Core) × HasSome (next f)
  normal-some e next h = at (normal h.units e) h.comes
    where
      at : (a : Answer Core) → after_normal a (λ f rest. judged normal h.purse rest (next f)) ≡ Has h.type h.left → (f : Core) × HasSome (next f)
      at (Found f rest) q = (f, some-of (next f) h.purse rest h.type h.left q)
      at (Wide rest) q = absurd cc
      at (Deep rest) q = absurd cc
      at Over q = absurd cc

  fails-some : {P : Type 0} (r : Rule) → HasSome (Fails r) → P
  fails-some r h = absurd (let p = h.comes in cc)

  deeper-some : {P : Type 0} → HasSome Deeper → P
  deeper-some h = absurd (let p = h.comes in cc)

  form-some : {X : Type 0} (o : Option X) (r : Rule) (next : X → Inference Core) → HasSome (typings.given_form o r next) → (x : X) × (o ≡ Some x) × HasSome (next x)
  form-some (Some x) r next h = (x, refl, h)
  form-some None r next h = fails-some r h

  type-some : (o : Option Core) (r : Rule) → HasSome (typings.given_type o r) → (t : Core) × (o ≡ Some t)
  type-some (Some t) r h = (t, refl)
  type-some None r h = fails-some r h

  if-some : (b : Bool) (i j : Inference Core) → HasSome (if b then i else j) → HasSome i ⊎ HasSome j
  if-some true i j h = inl h
  if-some false i j h = inr h

  -- ---- nodes, where what is typed below has no free variable

  module _ (below : Context Ref Name → Core → Inference Core) (typed : (c : Context Ref Name) (e : Core) → HasSome (below c e) → Sealed e) (c : Context Ref Name) where
    unless-sealed : (b : Bool) (k : ℕ) (e : Core) (next : Option Core → Inference Core) → (b ≡ true → Sealed e)
        → HasSome (typings.unless_untyped core_scopes below c b k e next) → Sealed e × ((o : Option Core) × HasSome (next o))
    unless-sealed true k e next s h = (s refl, (None, h))
    unless-sealed false k e next s h =
        let (p, (t, q)) = part-some k (below c e) (λ t. next (Some t)) h in
        (typed c e p, (Some t, q))

    part-sealed : (op : Op) (k : ℕ) (e : Core) (next : Option Core → Inference Core)
        → HasSome (typings.from_part core_scopes below c op k e next) → Sealed e × ((o : Option Core) × HasSome (next o))
    part-sealed op k e next h =
        unless-sealed (typings.is_annotation core_scopes below c op k && is_constant builtins.Sort e) k e next
        (λ p. constant-sealed e (and-true_right (typings.is_annotation core_scopes below c op k) (is_constant builtins.Sort e) p)) h

    parts-sealed : (op : Op) (k : ℕ) (es : List Core) (next : List Core → Inference Core) → HasSome (typings.from_parts core_scopes below c op k es next) → AllSealed es
    parts-sealed op k [] next h = tt
    parts-sealed op k (e ∷ es) next h =
        let (p, (t, q)) = part-sealed op k e _ h in
        (p, parts-sealed op (suc k) es _ q)

    grouped-sealed : (op : Op) (r : Row Ref Name)
        → HasSome (typings.given_form (bodies r) rule.NotResolved (λ es. typings.grouped core_scopes below c op es)) → Sealed_row r
    grouped-sealed op r h =
        let (es, p, q) = form-some (bodies r) rule.NotResolved _ h in
        bodies-sealed r es p (parts-sealed op 0 es _ q)

    lambda-sealed : (x : Name) (a b : Core) → HasSome (typings.lambda core_scopes below c x a b) → Sealed a × Sealed b
    lambda-sealed x a b h =
        let (p, (t, q)) = part-some 0 (below c a) _ h in
        let (u, _, r) = form-some (as_universe t) rule.LambdaDomain _ q in
        let (a', s) = normal-some a _ r in
        let (w, _) = part-some 1 (below (enter core_scopes x a' c) b) _ s in
        (typed c a p, typed (enter core_scopes x a' c) b w)

    forall-sealed : (x : Name) (a b : Core) → HasSome (typings.forall core_scopes below c x a b) → Sealed a × Sealed b
    forall-sealed x a b h =
        let (p, (t, q)) = part-some 0 (below c a) _ h in
        let (u, _, r) = form-some (as_universe t) rule.ForallDomain _ q in
        let (a', s) = normal-some a _ r in
        let (w, _) = part-some 1 (below (enter core_scopes x a' c) b) _ s in
        (typed c a p, typed (enter core_scopes x a' c) b w)

    application-sealed : (f a : Core) → HasSome (typings.application core_scopes below c f a) → Sealed f × Sealed a
    application-sealed f a h =
        let (p, (t, q)) = part-some 0 (below c f) _ h in
        let (r, _) = part-some 1 (below c a) _ q in
        (typed c f p, typed c a r)

    let_body-sealed : (k : ℕ) (x : Name) (a b : Core) → HasSome (typings.let_body core_scopes below c k x a b) → Sealed b
    let_body-sealed k x a b h =
        let (a', p) = normal-some a _ h in
        let (q, _) = part-some k (below c (sub (first a') b)) _ p in
        sealed-sub (first a') b (typed c (sub (first a') b) q)

    let_in-sealed : (x : Name) (a b : Core) → HasSome (typings.let_in core_scopes below c x a b) → Sealed a × Sealed b
    let_in-sealed x a b h =
        let (p, (t, q)) = part-some 0 (below c a) _ h in
        (typed c a p, let_body-sealed 1 x a b q)

    let_typed-sealed : (x : Name) (t a b : Core) → HasSome (typings.let_typed core_scopes below c x t a b) → Sealed t × Sealed a × Sealed b
    let_typed-sealed x t a b h =
        let (p, (o, q)) = part-sealed (ops.Let true) 0 t _ h in
        let (r, (u, s)) = part-some 1 (below c a) _ q in
        let (t', w) = normal-some t _ s in
        (p, typed c a r, of-if (if-some (core_scopes.same u t') _ _ w))
      where
        of-if : HasSome (typings.let_body core_scopes below c 2 x a b) ⊎ HasSome (Fails rule.LetAnnotation) → Sealed b
        of-if (inl y) = let_body-sealed 2 x a b y
        of-if (inr y) = fails-some rule.LetAnnotation y

    completion-sealed : (t r : Core) → HasSome (typings.completion core_scopes below c t r) → Sealed t × Sealed r
    completion-sealed t r h =
        let (p, (u, q)) = part-some 0 (below c t) _ h in
        let (s, _) = part-some 1 (below c r) _ q in
        (typed c t p, typed c r s)

    node-sealed : (op : Op) (r : Row Ref Name) → HasSome (typings.node core_scopes below c op r) → is_literal op ≡ false → Sealed_row r
    node-sealed (ops.Builtin b) r h = λ p. not-true p
    node-sealed (ops.Bool b) r h = λ p. not-true p
    node-sealed (ops.Nat n) r h = λ p. not-true p
    node-sealed (ops.Int z) r h = λ p. not-true p
    node-sealed ops.Lam (kid None a (kid (Some x) b end)) h = λ p. let q = lambda-sealed x a b h in (q.0, (q.1, tt))
    node-sealed ops.Pi (kid None a (kid (Some x) b end)) h = λ p. let q = forall-sealed x a b h in (q.0, (q.1, tt))
    node-sealed (ops.Let false) (kid None a (kid (Some x) b end)) h = λ p. let q = let_in-sealed x a b h in (q.0, (q.1, tt))
    node-sealed (ops.Let true) (kid None t (kid None a (kid (Some x) b end))) h = λ p. let q = let_typed-sealed x t a b h in (q.0, (q.1, (q.2, tt)))
    node-sealed ops.App (kid None f (kid None a end)) h = λ p. let q = application-sealed f a h in (q.0, (q.1, tt))
    node-sealed (ops.Bin bins.Complete) (kid None t (kid None r end)) h = λ p. let q = completion-sealed t r h in (q.0, (q.1, tt))
    node-sealed op r h = λ p. grouped-sealed op r h

  -- ---- an expression

  typing-sealed : (depth : ℕ) (c : Context Ref Name) (e : Core) → HasSome (typing core_scopes depth c e) → Sealed e
  typing-sealed zero c e h = deeper-some h
  typing-sealed (suc depth) c (Leaf (Bound i)) h = tt
  typing-sealed (suc depth) c (Leaf (Free x n)) h = fails-some rule.UnboundVariable h
  typing-sealed (suc depth) c (Node op r) h = node-sealed (typing core_scopes depth) (typing-sealed depth) c op r h

-- ---- with its parts

literal-empty : (r : Row Ref Name) → IsTrue (plain 0 r) → has_free_row r ≡ false
literal-empty end h = refl
literal-empty (kid None e r) h = absurd cc
literal-empty (kid (Some x) e r) h = absurd cc

mutual
  sealed-none : (e : Core) → IsWellFormed e → Sealed e → has_free e ≡ false
  sealed-none (Leaf (Bound i)) w h = refl
  sealed-none (Leaf (Free x n)) w h = absurd h
  sealed-none (Node (ops.Builtin b) r) w h = literal-empty r w.0
  sealed-none (Node (ops.Bool b) r) w h = literal-empty r w.0
  sealed-none (Node (ops.Nat n) r) w h = literal-empty r w.0
  sealed-none (Node (ops.Int z) r) w h = literal-empty r w.0
  sealed-none (Node op r) w h = sealed-none_row r w.1 (h refl)

  sealed-none_row : (r : Row Ref Name) → AreWellFormed r → Sealed_row r → has_free_row r ≡ false
  sealed-none_row end w h = refl
  sealed-none_row (kid b e r) w h = let p = sealed-none e w.0 h.0 in let q = sealed-none_row r w.1 h.1 in rw (p, q) refl

-- ---- with names

core-typed : (heights purse depth units : ℕ) (e t : Term) (left : ℕ) → infer heights purse depth [] units e ≡ Has t left
    → judged (λ u c. run (endless cores) heights Whole u c) purse units (typing core_scopes depth [] (to_core e)) ≡ Has (to_core t) left
core-typed heights purse depth units e t left h = nameless_judgments heights purse depth [] units e ∙ ap (judgment_map to_core) h

-- what has a type has no free variable
pub typed_core : (e : Term) → IsWellFormed e → IsTyped e → has_free (to_core e) ≡ false
typed_core e w (units, t, left, (depth, (heights, purse, h))) =
    sealed-none (to_core e) (well_formed-moved going_nameless [] e w)
    (typing-sealed (λ u c. run (endless cores) heights Whole u c) depth [] (to_core e)
    (some-of (λ u c. run (endless cores) heights Whole u c) (typing core_scopes depth [] (to_core e)) purse units (to_core t) left (core-typed heights purse depth units e t left h)))
