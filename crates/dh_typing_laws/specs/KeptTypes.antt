-- Typing in which a `let` puts the value of its variable into the context, and what it keeps of each value that it types.
use Rattle.std.specs.Prelude.{◌≡◌, ℕ, zero, suc, ◌+◌, Bool, true, false, map, List, [], ◌∷◌, Option, Some, None, option_map, ⊤}
use Rattle.dh_syntax.specs.declared.faults.TypeFault.TheVariants as fault
use Rattle.dh_syntax.specs.declared.operators.Builtin.{Builtin}
use Rattle.dh_syntax.specs.declared.operators.Builtin.TheVariants as builtins
use Rattle.dh_syntax.specs.Expressions.Nesting.{nesting}
use Rattle.dh_syntax.specs.Expressions.Tree.{Tree, Row, Leaf, Node, end, kid, Name, Var, Term}
use Rattle.dh_syntax.specs.Names.Moves.{Move, moved}
use Rattle.dh_syntax.specs.Names.Nameless.{Ref, Bound, Free, Core, to_core, core_below, renamed_ref, lifted, ren, sub, first}
use Rattle.dh_syntax.specs.Normalising.Heads.{Lang, Answer, Found, Wide, Deep, Over}
use Rattle.dh_syntax.specs.Normalising.NamelessRuns.{cores, nameless_eq}
use Rattle.dh_syntax.specs.Normalising.Normal.{Normalises, IsWideLicensed, IsDeepLicensed}
use Rattle.dh_syntax.specs.Typing.BuiltinTypes.{type_of}
use Rattle.dh_syntax.specs.Typing.Inference.{Inference, Gives, Fails, Deeper, FromNormal, FromPart, Aside, Instead, Judgment, Has, Ill, IsWide, IsDeep, IsOver, IsOverAside, IsShallow, judged, ComesTo, IsRefused, MeetsLimit, MeetsNormal}
use Rattle.dh_syntax.specs.Limits.{purse_aside}
use Rattle.dh_syntax.specs.Typing.NamedTyping.{Infers, IsIll, IsTypeFault}
use Rattle.dh_syntax.specs.Typing.NamelessTyping.{down, type_in, core_scopes}
use Rattle.dh_syntax.specs.Typing.Scopes.{Scopes, Context, enter}
use Rattle.dh_syntax.specs.Typing.TypeRules as rule
use Rattle.dh_syntax.specs.Typing.TypeRules.{Rule, rule_number}
use Rattle.dh_syntax.specs.Typing.TypeViews.{is_constant}
use Rattle.dh_syntax.specs.Typing.Typing as typings
use Rattle.dh_typing_laws.specs.NamelessTyping.{names_of, core_context}

-- ---- expressions with values

-- a leaf of an expression whose context holds values: a variable, or a variable whose value is this normal form
pub data Cell (B : Type 0) : Type 0 where
  Plain : Ref → Cell B
  Value : Tree Ref B → Cell B

-- an expression with values in its context
abbrev pub Coded : Type 0 → Type 0
Coded B = Tree (Cell B) B

module _ {B : Type 0} where
  -- an expression without values
  abbrev pub embedding : Move (Unit {0}) Ref B (Cell B) B
  embedding = record { leaf = λ s r. Plain r; binder = λ y. y; enter = λ s y. tt }

  abbrev pub embed : Tree Ref B → Coded B
  embed e = moved embedding tt e

  abbrev mutual
    -- what it stands for: the values put in
    pub meaning : Coded B → Tree Ref B
    meaning (Leaf (Plain r)) = Leaf r
    meaning (Leaf (Value v)) = v
    meaning (Node op r) = Node op (meaning_row r)

    pub meaning_row : Row (Cell B) B → Row Ref B
    meaning_row end = end
    meaning_row (kid b e r) = kid b (meaning e) (meaning_row r)

  abbrev mutual
    -- no value is the constant `Sort`: whether an annotation is that is seen without looking at values
    pub Sortless : Coded B → Type 0
    Sortless (Leaf (Plain r)) = Unit {0}
    Sortless (Leaf (Value v)) = is_constant builtins.Sort v ≡ false
    Sortless (Node op r) = Sortless_row r

    pub Sortless_row : Row (Cell B) B → Type 0
    Sortless_row end = Unit {0}
    Sortless_row (kid b e r) = Sortless e × Sortless_row r

  -- a value; the constant `Sort`, which no well-typed value is, is put in
  abbrev pub valued : Bool → Tree Ref B → Coded B
  valued true v = embed v
  valued false v = Leaf (Value v)

  abbrev pub value : Tree Ref B → Coded B
  value v = valued (is_constant builtins.Sort v) v

  abbrev pub cell_ren : Move (ℕ → ℕ) (Cell B) B (Cell B) B
  cell_ren = record { leaf = λ f c. elim c [ Plain r ↦ Plain (renamed_ref f r) | Value v ↦ Value (ren f v) ]; binder = λ y. y; enter = λ f y. lifted f }

  abbrev pub cells_raised : (ℕ → Coded B) → ℕ → Coded B
  cells_raised s zero = Leaf (Plain (Bound 0))
  cells_raised s (suc i) = moved cell_ren (λ k. suc k) (s i)

  abbrev pub cells_below : Option B → (ℕ → Coded B) → ℕ → Coded B
  cells_below None s = s
  cells_below (Some y) s = cells_raised s

  abbrev mutual
    pub cell_sub : (ℕ → Coded B) → Coded B → Coded B
    cell_sub s (Leaf (Plain (Bound i))) = s i
    cell_sub s (Leaf (Plain (Free x n))) = Leaf (Plain (Free x n))
    cell_sub s (Leaf (Value v)) = value (sub (λ i. meaning (s i)) v)
    cell_sub s (Node op r) = Node op (cell_sub_row s r)

    pub cell_sub_row : (ℕ → Coded B) → Row (Cell B) B → Row (Cell B) B
    cell_sub_row s end = end
    cell_sub_row s (kid b e r) = kid b (cell_sub (cells_below b s) e) (cell_sub_row s r)

  -- this value for the variable of the nearest binder, which is taken away
  abbrev pub held : Tree Ref B → ℕ → Coded B
  held v zero = value v
  held v (suc i) = Leaf (Plain (Bound i))

  -- it stands for e, and no value of it is the constant `Sort`
  abbrev pub StandsFor : Unit {0} → Coded B → Tree Ref B → Type 0
  StandsFor s d e = (meaning d ≡ e) × Sortless d

-- ---- typing them

-- typing in which leaves answer by `look`, and nodes have the rules of `Typing`
abbrev pub typing_over : {A B : Type 0} → Scopes A B → (ℕ → Context A B → A → Inference (Tree A B)) → ℕ → Context A B → Tree A B → Inference (Tree A B)
typing_over S look zero context e = Deeper
typing_over S look (suc depth) context (Leaf a) = look depth context a
typing_over S look (suc depth) context (Node op r) = typings.node S (typing_over S look depth) context op r

module _ {B : Type 0} where
  -- the context of opened binders, which have types
  abbrev pub coded_context : Context Ref B → Context (Cell B) B
  coded_context c = map (λ (y, t). (y, embed t)) c

  abbrev pub plain_context : Context (Cell B) B → Context Ref B
  plain_context c = map (λ (y, t). (y, meaning t)) c

  -- what a leaf answers: an opened variable has its type, and a variable with a value what `answers` says of that value
  abbrev pub looking : (ℕ → Context Ref B → Tree Ref B → Inference (Coded B)) → ℕ → Context (Cell B) B → Cell B → Inference (Coded B)
  looking answers depth c (Plain r) = typings.given_type (option_map embed (type_in (plain_context c) r)) rule.UnboundVariable
  looking answers depth c (Value v) = answers depth (plain_context c) v

  module _ (types : Builtin → Option (Tree Ref B)) (binder : Name → B) where
    -- what typing does with names and binders where contexts hold values; only `put` makes one
    abbrev pub cell_scopes : Scopes (Cell B) B
    cell_scopes = record {
      type_of = λ b. option_map embed (types b);
      type_in = λ c a. None;
      binder = binder;
      up = λ y t. embed (ren (λ k. suc k) (meaning t));
      down = λ y t. option_map embed (down (meaning t));
      put = λ y a d. cell_sub (held (meaning a)) d;
      same = λ t u. nameless_eq (meaning t) (meaning u);
    }

    -- typing in which a `let` puts its value into the context
    abbrev pub kept_typing : (ℕ → Context Ref B → Tree Ref B → Inference (Coded B)) → ℕ → Context Ref B → Coded B → Inference (Coded B)
    kept_typing answers depth c d = typing_over cell_scopes (looking answers) depth (coded_context c) d

-- ---- what is kept

-- what is kept of a value once it is typed: its type, or the place in it where no type can be derived and the rule
pub data Kept (T : Type 0) : Type 0 where
  Is : T → Kept T
  At : List ℕ → Rule → Kept T
  -- nothing yet
  Unknown : Kept T

-- the inference that is this refusal
abbrev pub failing : {T : Type 0} → List ℕ → Rule → Inference T
failing [] rule = Fails rule
failing (k ∷ path) rule = FromPart k (failing path rule) (λ t. Gives t)

-- what is kept, if anything is, is what the inference comes to, whatever it costs
abbrev pub IsKept : {T : Type 0} → Lang T → Inference T → Kept T → Type 0
IsKept L j (Is t) = (n : ℕ) × ComesTo L n j (Has t 0)
IsKept L j (At path rule) = IsRefused L j path rule
IsKept L j Unknown = ⊤

module _ {B : Type 0} where
  -- the same course of questions, of expressions with values
  abbrev pub embedded : Inference (Tree Ref B) → Inference (Coded B)
  embedded (Gives t) = Gives (embed t)
  embedded (Fails rule) = Fails rule
  embedded Deeper = Deeper
  embedded (FromNormal e next) = FromNormal (embed e) (λ t. embedded (next (meaning t)))
  embedded (FromPart k m next) = FromPart k (embedded m) (λ t. embedded (next (meaning t)))
  embedded (Aside m next) = Aside (embedded m) (λ o. embedded (next (option_map meaning o)))
  embedded (Instead m rule) = Instead (embedded m) rule

  -- what a use of a value answers: what is kept, and where nothing is, the typing of the value there
  abbrev pub answer : Kept (Tree Ref B) → Inference (Tree Ref B) → Inference (Coded B)
  answer (Is t) j = Gives (embed t)
  answer (At path rule) j = failing path rule
  answer Unknown j = embedded j

  -- what is kept of a value, seen from below one more binder
  abbrev pub kept_below : Kept (Tree Ref B) → Kept (Tree Ref B)
  kept_below (Is t) = Is (ren (λ k. suc k) t)
  kept_below (At path rule) = At path rule
  kept_below Unknown = Unknown

-- ---- against the plain count

module _ {T : Type 0} (L : Lang T) (wide deep : T → Type 0) where
  -- What a normaliser may answer that takes no more than the plain count: f of the normal form, or a limit that is licensed.
  abbrev pub NormalLag : {U : Type 0} → (T → U) → ℕ → T → Answer U → Type 0
  NormalLag f u e (Found t l) = (v : T) × (t ≡ f v) × (extra : ℕ) × Normalises L (u + extra) e (Found v l)
  NormalLag f u e (Wide l) = wide e
  NormalLag f u e (Deep l) = deep e
  NormalLag f u e Over = Normalises L u e Over

  -- what a typing may answer that takes no more than the plain count, and whose typings aside have this purse; with too little
  -- depth nothing is said
  abbrev pub TypingLag : {U : Type 0} → ℕ → (T → U) → ℕ → Inference T → Judgment U → Type 0
  TypingLag purse f u j (Has t l) = (v : T) × (t ≡ f v) × (extra : ℕ) × ComesTo L (u + extra) j (Has v l)
  TypingLag purse f u j (Ill path rule) = IsRefused L j path rule
  TypingLag purse f u j IsWide = MeetsNormal L wide j
  TypingLag purse f u j IsDeep = MeetsNormal L deep j
  TypingLag purse f u j IsOver = ComesTo L u j IsOver
  TypingLag purse f u j IsOverAside = MeetsLimit L (λ e. ⊥) (λ i. ComesTo L purse i IsOver) j
  TypingLag purse f u j IsShallow = ⊤

-- ---- the laws

-- a normaliser of expressions with values, of which none is `Sort`, that takes no more than the plain count
abbrev pub IsNormaliser : (ℕ → Coded Name → Answer (Coded Name)) → Type 0
IsNormaliser normal =
    (units : ℕ) (d : Coded Name) → Sortless d → NormalLag cores (IsWideLicensed cores nesting) (IsDeepLicensed cores nesting) embed units (meaning d) (normal units d)

-- with more than so much depth, what is kept of each value in each context, if anything is, is right
abbrev pub AreKept : ℕ → (Context Ref Name → Core → Kept Core) → Type 0
AreKept more kept = (depth : ℕ) (c : Context Ref Name) (v : Core) → IsKept cores (typings.typing core_scopes (suc (depth + more)) c v) (kept c v)

-- what a typing comes to that uses what is kept, over a normaliser, where d stands for an expression
abbrev pub judged_kept : (ℕ → Coded Name → Answer (Coded Name)) → ℕ → (Context Ref Name → Core → Kept Core) → ℕ → Context Ref Name → ℕ → Coded Name → Judgment (Coded Name)
judged_kept normal more kept depth c units d =
    judged normal purse_aside units
    (kept_typing (λ b. option_map to_core (type_of b)) (λ x. x) (λ i k v. answer (kept k v) (typings.typing core_scopes (suc (i + more)) k v)) depth c d)

-- The body of a `let` is typed with the value in the context, each use of which answers what is kept of it. Each answer may be given
-- for the body with the value put for the variable: a type, for no more units, a refusal, or a limit.
abbrev pub Substitution : Type 0
Substitution =
    (normal : ℕ → Coded Name → Answer (Coded Name)) (more : ℕ) (kept : Context Ref Name → Core → Kept Core) → IsNormaliser normal → AreKept more kept
    → (depth : ℕ) (c : Context Ref Name) (v b : Core) (units : ℕ)
    → TypingLag cores (IsWideLicensed cores nesting) (IsDeepLicensed cores nesting) purse_aside embed units
    (typings.typing core_scopes (depth + more) c (sub (first v) b)) (judged_kept normal more kept depth c units (cell_sub (held v) (embed b)))

-- What may be answered for the typing of e in the context with so many units, with the type's names kept. With too little depth
-- nothing is said.
abbrev pub MayAnswer : Context Var Name → ℕ → Term → Judgment (Coded Name) → Type 0
MayAnswer c units e (Has t left) = (v : Term) × (t ≡ embed (core_below (names_of c) v)) × (extra : ℕ) × Infers c (units + extra) e (Has v left)
MayAnswer c units e (Ill path rule) = IsIll c e path (rule_number rule)
MayAnswer c units e IsWide = IsTypeFault c units e fault.Wide
MayAnswer c units e IsDeep = IsTypeFault c units e fault.Deep
MayAnswer c units e IsOver = IsTypeFault c units e fault.Spent
MayAnswer c units e IsOverAside = IsTypeFault c units e fault.Spent
MayAnswer c units e IsShallow = ⊤

-- A typing of d, which stands for e with its values put in, uses what is kept, over a normaliser that takes no more than the plain
-- count. It answers only what may be answered for e, for at most its units.
abbrev pub KeptTyping : Type 0
KeptTyping =
    (normal : ℕ → Coded Name → Answer (Coded Name)) (more : ℕ) (kept : Context Ref Name → Core → Kept Core) → IsNormaliser normal → AreKept more kept
    → (depth : ℕ) (c : Context Var Name) (e : Term) (d : Coded Name) → Sortless d → meaning d ≡ core_below (names_of c) e → (units : ℕ)
    → MayAnswer c units e (judged_kept normal more kept depth (core_context c) units d)

-- What is kept of a value is kept, shifted, of the shifted value below one more binder.
abbrev pub KeptBelow : Type 0
KeptBelow =
    (depth : ℕ) (y : Name) (t : Core) (c : Context Ref Name) (v : Core) (k : Kept Core) → IsKept cores (typings.typing core_scopes depth c v) k
    → IsKept cores (typings.typing core_scopes depth (enter core_scopes y t c) (ren (λ i. suc i) v)) (kept_below k)

-- It is kept with more depth.
abbrev pub KeptDeeper : Type 0
KeptDeeper =
    (depth more : ℕ) (c : Context Ref Name) (v : Core) (k : Kept Core) → IsKept cores (typings.typing core_scopes depth c v) k
    → IsKept cores (typings.typing core_scopes (depth + more) c v) k
