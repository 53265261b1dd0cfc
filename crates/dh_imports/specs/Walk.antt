-- The walk through the imports of an expression, from left to right (the standard's "Import resolution").
--
-- At each import it asks sanity, then the outcome of its key, then the cross-origin test. In `l ? r` it asks `r` only
-- where the fault that decides `l` is one after which a run may go on.
use Rattle.std.specs.Prelude.{Bool, true, if◌then◌else◌, List, [], ◌∷◌, ◌++◌, filter, Option, Some, None, is_none}
use Rattle.dh_syntax.specs.declared.expressions.Op.{Op}
use Rattle.dh_syntax.specs.declared.expressions.Op.TheVariants as ops
use Rattle.dh_syntax.specs.declared.locations.Import.{Import}
use Rattle.dh_syntax.specs.declared.locations.Key.{Key}
use Rattle.dh_syntax.specs.declared.locations.Loc.{Loc}
use Rattle.dh_syntax.specs.declared.operators.BinOp.TheVariants as bins
use Rattle.dh_syntax.specs.Imports.Locations.{sane, cors}
use Rattle.dh_syntax.specs.Expressions.Tree.{Row, Leaf, Node, end, kid, Name, Var, Term}
use Rattle.dh_syntax.specs.Normalising.Trees.{replace_row}
use Rattle.dh_syntax.specs.Imports.Keys.{chained}
use Rattle.dh_imports.specs.declared.outcomes.Blame.{Blame}
use Rattle.dh_imports.specs.declared.outcomes.Origin.{Origin}
use Rattle.dh_imports.specs.declared.outcomes.Origin.TheVariants.{Fetched}
use Rattle.dh_imports.specs.declared.outcomes.Why.TheVariants.{Insane, Cors}
use Rattle.dh_imports.specs.Outcomes.{Outcome, Good, Bad, Loop, may_go_on}

-- the outcomes that are known
abbrev pub Ask : Type 0
Ask = Key → Option Outcome

-- the location of the text that has this key; none for the input
abbrev pub place : Option Key → Option Loc
place None = None
place (Some k) = Some k.loc

-- what a node is to a walk
pub data Form : Type 0 where
  importing : Import → Form
  choosing : Form
  other : Form

-- whether a node is an import, a choice between alternatives, or another
abbrev pub form_of : Op → Form
form_of (ops.Import i) = importing i
form_of (ops.Bin bins.Fallback) = choosing
form_of _ = other

-- ---- the walk

-- what a walk comes to: each import has a value, a fault or a loop decides, or a key has no outcome yet
pub data Walked (X : Type 0) : Type 0 where
  -- each import has a value: what is left with the values in their places
  Ready : X → Walked X
  -- the fault that decides
  Fails : Blame → Walked X
  -- the loop that decides, by its least key
  Turns : Key → Walked X
  -- the first key that has no outcome yet
  Needs : Key → Walked X

-- what follows from the result of a walk, where it came to one
abbrev pub and_then : {X Y : Type 0} → Walked X → (X → Walked Y) → Walked Y
and_then (Ready x) next = next x
and_then (Fails b) next = Fails b
and_then (Turns j) next = Turns j
and_then (Needs k) next = Needs k

-- the walk of a choice: that of its right side where the left one has a fault that allows it
abbrev pub or_else : Walked Term → Walked Term → Walked Term
or_else (Fails b) w = if may_go_on b.why then w else Fails b
or_else (Ready e) w = Ready e
or_else (Turns j) w = Turns j
or_else (Needs k) w = Needs k

-- the walks of several parts, one after another, to the first that does not come to a value
abbrev pub in_order : List (Walked Term) → Walked (List Term)
in_order [] = Ready []
in_order (w ∷ ws) = and_then w (λ e. and_then (in_order ws) (λ es. Ready (e ∷ es)))

-- a value that was fetched from another origin allows the parent's
abbrev pub allowed : Option Key → Key → Origin → Bool
allowed parent k (Fetched allow) = cors (place parent) k.loc allow
allowed parent k _ = true

-- an import by what its key came to
abbrev pub by_outcome : Option Key → Key → Option Outcome → Walked Term
by_outcome parent k None = Needs k
by_outcome parent k (Some (Good v o)) = if allowed parent k o then Ready v else Fails (record { at = parent; why = Cors k.loc })
by_outcome parent k (Some (Bad b)) = Fails b
by_outcome parent k (Some (Loop j)) = Turns j

-- whether the location and mode of a key may be imported from this parent
abbrev pub is_sane : Option Key → Key → Bool
is_sane parent k = sane (place parent) k.loc k.mode

-- what the import of a key comes to, which is a fault if it is not sane
abbrev pub walk_key : Option Key → Ask → Key → Walked Term
walk_key parent ask k = if is_sane parent k then by_outcome parent k (ask k) else Fails (record { at = parent; why = Insane k.loc })

-- a node by the walks of its parts
abbrev pub walk_node : Option Key → Ask → Op → Row Var Name → Form → List (Walked Term) → Walked Term
walk_node parent ask op r (importing i) ws = walk_key parent ask (chained (place parent) i)
walk_node parent ask op r choosing (l ∷ m ∷ []) = or_else l m
walk_node parent ask op r _ ws = and_then (in_order ws) (λ es. Ready (Node op (replace_row r es)))

-- the walk of an expression in the text of this key, or in the input, and the walks of its parts
abbrev mutual
  -- the walk of an expression in the text of this key, or in the input
  pub walk : Option Key → Ask → Term → Walked Term
  walk parent ask (Leaf v) = Ready (Leaf v)
  walk parent ask (Node op r) = walk_node parent ask op r (form_of op) (walks parent ask r)

  pub walks : Option Key → Ask → Row Var Name → List (Walked Term)
  walks parent ask end = []
  walks parent ask (kid b e r) = walk parent ask e ∷ walks parent ask r

-- ---- the keys that it asks

-- how the walk ends, where each key without an outcome turns out good and passes the cross-origin test
pub data Ending : Type 0 where
  Goes : Ending
  Stops : Blame → Ending
  Circles : Ending

-- the keys that a walk asks, in their order, and how it ends
pub record Course : Type 0 where
  pub asked : List Key
  pub ending : Ending

-- the course of one walk after another
abbrev pub after : Course → Course → Course
after c d = record { asked = c.asked ++ d.asked; ending = d.ending }

-- the course of one walk and then another, which comes to it only where the first goes on
abbrev pub then_by : Ending → Course → Course → Course
then_by Goes c d = after c d
then_by _ c d = c

-- the course of a choice: the right side is walked where the fault of the left allows it
abbrev pub else_by : Ending → Course → Course → Course
else_by (Stops b) c d = if may_go_on b.why then after c d else c
else_by _ c d = c

-- the course of several walks, one after another, to the first that does not go on
abbrev pub all_courses : List Course → Course
all_courses [] = record { asked = []; ending = Goes }
all_courses (c ∷ cs) = then_by c.ending c (all_courses cs)

-- how a key ends a course by its outcome: a value that the parent may use, and no outcome, go on
abbrev pub ending_by : Option Key → Key → Option Outcome → Ending
ending_by parent k None = Goes
ending_by parent k (Some (Good v o)) = if allowed parent k o then Goes else Stops (record { at = parent; why = Cors k.loc })
ending_by parent k (Some (Bad b)) = Stops b
ending_by parent k (Some (Loop j)) = Circles

-- the course of the import of a key, which is asked only if it is sane
abbrev pub course_key : Option Key → Ask → Key → Course
course_key parent ask k =
    if is_sane parent k then record { asked = k ∷ []; ending = ending_by parent k (ask k) }
    else record { asked = []; ending = Stops (record { at = parent; why = Insane k.loc }) }

-- the course of a node by its form and the courses of its parts
abbrev pub course_node : Option Key → Ask → Form → List Course → Course
course_node parent ask (importing i) cs = course_key parent ask (chained (place parent) i)
course_node parent ask choosing (c ∷ d ∷ []) = else_by c.ending c d
course_node parent ask _ cs = all_courses cs

-- the courses of walks on which each key without an outcome turns out good and passes the cross-origin test
abbrev mutual
  -- the course of a walk on which each key without an outcome turns out good and passes the cross-origin test
  pub course : Option Key → Ask → Term → Course
  course parent ask (Leaf v) = record { asked = []; ending = Goes }
  course parent ask (Node op r) = course_node parent ask (form_of op) (courses parent ask r)

  pub courses : Option Key → Ask → Row Var Name → List Course
  courses parent ask end = []
  courses parent ask (kid b e r) = course parent ask e ∷ courses parent ask r

-- the keys without an outcome
abbrev pub undecided : Ask → List Key → List Key
undecided ask ks = filter (λ k. is_none (ask k)) ks

-- the wants of a walk: the keys without an outcome that it asks if each of these turns out good and passes
abbrev pub wants : Option Key → Ask → Term → List Key
wants parent ask e = undecided ask (course parent ask e).asked

-- ---- the keys of an expression

-- the key of a node that is an import
abbrev pub keys_of_form : Option Loc → Form → List Key
keys_of_form at (importing i) = chained at i ∷ []
keys_of_form at _ = []

-- the keys of all imports of an expression, or of the parts of a node, in a text at this location
abbrev mutual
  -- the keys of all imports of an expression in a text at this location
  pub keys_of : Option Loc → Term → List Key
  keys_of at (Leaf v) = []
  keys_of at (Node op r) = keys_of_form at (form_of op) ++ keys_of_row at r

  pub keys_of_row : Option Loc → Row Var Name → List Key
  keys_of_row at end = []
  keys_of_row at (kid b e r) = keys_of at e ++ keys_of_row at r
