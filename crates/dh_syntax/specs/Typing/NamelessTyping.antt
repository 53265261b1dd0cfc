-- Typing of nameless expressions.
use Rattle.std.specs.Prelude.{ℕ, zero, suc, pred, Bool, false, ◌||◌, [], ◌∷◌, Option, Some, None, option_map, if◌then◌else◌}
use Rattle.dh_syntax.specs.declared.operators.Builtin.{Builtin}
use Rattle.dh_syntax.specs.Typing.BuiltinTypes.{type_of}
use Rattle.dh_syntax.specs.Names.Nameless.{Ref, Bound, Free, to_core, bare, ren, sub, first}
use Rattle.dh_syntax.specs.Normalising.NamelessRuns.{nameless_eq}
use Rattle.dh_syntax.specs.Expressions.Numbers.{eq}
use Rattle.dh_syntax.specs.Typing.Scopes.{Scopes, Context}
use Rattle.dh_syntax.specs.Expressions.Tree.{Tree, Row, Leaf, Node, end, kid, Name}

-- whether a variable is that of the binder so many above the nearest one
abbrev pub is_bound : ℕ → Ref → Bool
is_bound k (Bound i) = eq i k
is_bound k (Free x n) = false

module _ {B : Type 0} where
  -- so many binders above, in a part that may be under one more
  abbrev pub above : Option B → ℕ → ℕ
  above None k = k
  above (Some y) k = suc k

  abbrev mutual
    -- whether an expression mentions the variable of the binder so many above
    pub mentions : ℕ → Tree Ref B → Bool
    mentions k (Leaf r) = is_bound k r
    mentions k (Node op r) = mentions_row k r

    pub mentions_row : ℕ → Row Ref B → Bool
    mentions_row k end = false
    mentions_row k (kid b e r) = mentions (above b k) e || mentions_row k r

  -- an expression that stands below a binder, seen from outside
  abbrev pub down : Tree Ref B → Option (Tree Ref B)
  down c = if mentions 0 c then None else Some (ren pred c)

  abbrev pub nth_type : Context Ref B → ℕ → Option (Tree Ref B)
  nth_type [] i = None
  nth_type ((y, t) ∷ context) zero = Some t
  nth_type ((y, t) ∷ context) (suc i) = nth_type context i

  abbrev pub type_in : Context Ref B → Ref → Option (Tree Ref B)
  type_in context (Bound i) = nth_type context i
  type_in context (Free x n) = None

  -- with the types of the built-ins, and a binder of a given name
  abbrev pub nameless_scopes : (Builtin → Option (Tree Ref B)) → (Name → B) → Scopes Ref B
  nameless_scopes types binder = record {
    type_of = types;
    type_in = type_in;
    binder = binder;
    up = λ y c. ren (λ k. suc k) c;
    down = λ y c. down c;
    put = λ y c d. sub (first c) d;
    same = nameless_eq;
  }

-- with the names of binders, and without them
abbrev pub core_scopes : Scopes Ref Name
core_scopes = nameless_scopes (λ b. option_map to_core (type_of b)) (λ x. x)

-- what typing does with nameless expressions without the names of their binders
abbrev pub bare_scopes : Scopes Ref (Unit {0})
bare_scopes = nameless_scopes (λ b. option_map bare (type_of b)) (λ x. tt)
