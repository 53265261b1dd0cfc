-- The JSON value of an expression, or the first place that has none. Values are those of RFC 8259, sections 3 to 7; which expression
-- has which value is this project's own.
--
-- The definition looks at no variable and at no name of a binder. So expressions that differ in the names of binders alone have the
-- same value.
use Rattle.std.specs.Prelude.{ℕ, zero, suc, ◌^◌, nat_lt, ℤ, pos, negsuc, Bool, true, false, if◌then◌else◌, List, [], ◌∷◌, Option, Some, None, Result, Ok, Err}
use Rattle.serde_json.specs.Data.{Data, unsigned, negative, null, boolean, number, string, array, object, Items, no_items, item, Members, no_members, put}
use Rattle.dh_syntax.specs.declared.expressions.Alt.{Alt}
use Rattle.dh_syntax.specs.declared.expressions.Op.{Op}
use Rattle.dh_syntax.specs.declared.expressions.Op.TheVariants as ops
use Rattle.dh_syntax.specs.Expressions.Numbers.{bytes_eq}
use Rattle.dh_syntax.specs.Expressions.Tree.{Tree, Row, Leaf, Node, end, kid, Name}
use Rattle.dh_syntax.specs.Expressions.Views.{as_alternative, as_union, first_part, is_none}

-- how a node has its value
pub data Case : Type 0 where
  -- it is this one
  Whole : Data → Case
  -- it is the array of the values of the parts
  Elements : Case
  -- it is the object of the values of the parts under these labels
  Fields : List Name → Case
  -- it is that of the part with this number
  Part : ℕ → Case
  -- it has none
  NoCase : Case

-- a value that a node has without regard to its parts, or none
abbrev pub whole : Option Data → Case
whole None = NoCase
whole (Some d) = Whole d

-- a natural number of 64 bits
abbrev pub natural : ℕ → Option Data
natural n = if nat_lt n (2 ^ 64) then Some (number (unsigned n)) else None

-- an integer from -2^63 to 2^64 - 1
abbrev pub integer : ℤ → Option Data
integer (pos n) = natural n
integer (negsuc n) = if nat_lt n (2 ^ 63) then Some (number (negative (negsuc n))) else None

-- whether the alternative has a type, if it is one of these
abbrev pub alternative : Name → List Alt → Option Bool
alternative x [] = None
alternative x (a ∷ as') = if bytes_eq x a.label then Some a.typed else alternative x as'

-- an alternative without a type
abbrev pub empty_alternative : Name → Option Bool → Case
empty_alternative x (Some false) = Whole (string x)
empty_alternative x (Some true) = NoCase
empty_alternative x None = NoCase

-- an alternative with a type, applied
abbrev pub typed_alternative : Option Bool → Case
typed_alternative (Some true) = Part 1
typed_alternative (Some false) = NoCase
typed_alternative None = NoCase

-- `u.x`
abbrev pub selection : Name → Option (List Alt) → Case
selection x (Some alts) = empty_alternative x (alternative x alts)
selection x None = NoCase

-- `u.x a`, where `u.x` is this
abbrev pub applied : Option (Name × List Alt) → Case
applied (Some a) = typed_alternative (alternative a.0 a.1)
applied None = NoCase

-- a text of these pieces: one piece, and so no interpolation
abbrev pub text_case : List (List ℕ) → Case
text_case (p ∷ []) = Whole (string p)
text_case _ = NoCase

module _ {A B : Type 0} where
  -- `f a`: `None t`, or an alternative of a union
  abbrev pub application : Tree A B → Case
  application f = if is_none f then Whole null else applied (as_alternative f)

  -- the same, where there is such a part
  abbrev pub application_in : Option (Tree A B) → Case
  application_in None = NoCase
  application_in (Some f) = application f

  abbrev pub selection_in : Name → Option (Tree A B) → Case
  selection_in x None = NoCase
  selection_in x (Some u) = selection x (as_union u)

  abbrev pub case_of : Op → Row A B → Case
  case_of (ops.Bool b) r = Whole (boolean b)
  case_of (ops.Nat n) r = whole (natural n)
  case_of (ops.Int z) r = whole (integer z)
  case_of (ops.Text ps) r = text_case ps
  case_of ops.EmptyList r = Whole (array no_items)
  case_of ops.List r = Elements
  case_of (ops.Record xs) r = Fields xs
  case_of ops.Some r = Part 0
  case_of ops.App r = application_in (first_part r)
  case_of (ops.Field x) r = selection_in x (first_part r)
  case_of _ _ = NoCase

-- a value, or the numbers of the parts on the way to the first place that has none
abbrev pub Answer : Type 0
Answer = Result Data (List ℕ)

-- an answer whose value goes through a function
abbrev pub answer_map : {A B : Type 0} → (A → B) → Result A (List ℕ) → Result B (List ℕ)
answer_map f (Ok a) = Ok (f a)
answer_map f (Err p) = Err p

-- the answer of the part with this number, seen from its node
abbrev pub from_part : ℕ → Answer → Answer
from_part i (Ok d) = Ok d
from_part i (Err p) = Err (i ∷ p)

-- the values of parts, which are numbered from here
abbrev pub elements : ℕ → List Answer → Result Items (List ℕ)
elements i [] = Ok no_items
elements i (Ok d ∷ as') = answer_map (item d) (elements (suc i) as')
elements i (Err p ∷ as') = Err (i ∷ p)

-- the values of parts under their labels, with those that stand there already
abbrev pub members : ℕ → List Name → Members → List Answer → Result Members (List ℕ)
members i [] ms as' = Ok ms
members i (x ∷ xs) ms [] = Ok ms
members i (x ∷ xs) ms (Ok d ∷ as') = members (suc i) xs (put x d ms) as'
members i (x ∷ xs) ms (Err p ∷ as') = Err (i ∷ p)

-- the answer of the part of this number, reached through that part
abbrev pub part_at : ℕ → ℕ → List Answer → Answer
part_at i n [] = Err []
part_at i zero (a ∷ as') = from_part i a
part_at i (suc n) (a ∷ as') = part_at i n as'

-- the value of a node by how it comes about and by those of its parts
abbrev pub by_case : Case → List Answer → Answer
by_case (Whole d) as' = Ok d
by_case Elements as' = answer_map array (elements 0 as')
by_case (Fields xs) as' = answer_map object (members 0 xs no_members as')
by_case (Part i) as' = part_at i i as'
by_case NoCase as' = Err []

abbrev mutual
  -- the JSON value of an expression
  pub json : {A B : Type 0} → Tree A B → Answer
  json (Leaf a) = Err []
  json (Node op r) = by_case (case_of op r) (jsons r)

  -- the JSON values of the parts of a node
  pub jsons : {A B : Type 0} → Row A B → List Answer
  jsons end = []
  jsons (kid b e r) = json e ∷ jsons r
