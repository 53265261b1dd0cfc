-- One walk for all: what is written at each import to which it comes.
use Rattle.std.specs.Prelude.{◌≡◌, ℕ, Bool, true, false, ◌&&◌, List, [], ◌∷◌, ◌++◌, length, drop, replicate, Option, Some, None}
use Rattle.dh_syntax.specs.declared.locations.Key.{Key}
use Rattle.dh_syntax.specs.declared.locations.Loc.{Loc}
use Rattle.dh_syntax.specs.Imports.Keys.{chained}
use Rattle.dh_syntax.specs.Expressions.Tree.{Row as Parts, Leaf, Node, end, kid, Name, Var, Term}
use Rattle.dh_imports.specs.Freezing.{goes_on}
use Rattle.dh_imports.specs.Walk.{Ask, Form, importing, choosing, other, form_of, Walked, Ready, and_then, walk, keys_of}
use Rattle.dh_demand.specs.declared.scans.Edge.{Edge}
use Rattle.dh_demand.specs.declared.ends.Next.{Next}
use Rattle.dh_demand.specs.Results.{Row}
use Rattle.dh_demand.specs.Scans.{text_key, Begins, imports}
use Rattle.dh_demand.specs.Nexts.{IsNext}

-- Who walks: where the text stands, the outcomes that it goes by, and what it writes at an import by how many are left from there.
pub record Sight (S : Type 0) : Type 0 where
  pub parent : Option Loc
  pub rows : List Row
  pub ask : Ask
  pub note : ℕ → Key → List S → List S

-- the rule of a choice, or of other nodes
abbrev pub form_by : Bool → Form
form_by true = choosing
form_by false = other

-- Whether a node with these parts is walked as a choice. No text spells a choice of other than two parts, nor an import with parts:
-- `unspelled` says whether the walk goes through such choices too, and looks into such imports.
abbrev pub chooses : Bool → Form → Parts Var Name → Bool
chooses unspelled choosing (kid b e (kid c f end)) = true
chooses unspelled choosing r = unspelled
chooses unspelled (importing i) r = false
chooses unspelled other r = false

-- whether the walk comes to the first part of a node
abbrev pub begins : Bool → Form → Bool
begins unspelled (importing i) = unspelled
begins unspelled choosing = true
begins unspelled other = true

-- the key of a node in a text at this location, where it is an import
abbrev pub own_key : Option Loc → Form → List (Option Key)
own_key at (importing i) = Some (chained at i) ∷ []
own_key at choosing = []
own_key at other = []

-- of so many imports none is seen where the walk does not come
abbrev pub where_it_comes : Bool → ℕ → List (Option Key) → List (Option Key)
where_it_comes true n vs = vs
where_it_comes false n vs = replicate n None

abbrev mutual
  -- for each import of an expression its key, where the walk comes to it
  pub seen : {S : Type 0} → Sight S → Bool → Term → List (Option Key)
  seen s unspelled (Leaf v) = []
  seen s unspelled (Node op r) = own_key s.parent (form_of op) ++ seen_row s unspelled (chooses unspelled (form_of op) r) (begins unspelled (form_of op)) r

  -- for each import in the parts of a node its key, where the walk comes to it
  pub seen_row : {S : Type 0} → Sight S → Bool → Bool → Bool → Parts Var Name → List (Option Key)
  seen_row s unspelled choice here end = []
  seen_row s unspelled choice here (kid b e r) =
      where_it_comes here (imports e) (seen s unspelled e) ++ seen_row s unspelled choice (here && goes_on (form_by choice) (walk (text_key s.parent) s.ask e)) r

-- how a walk ends, whatever it is ready with
abbrev pub end_of : Walked Term → Walked (Unit {0})
end_of w = and_then w (λ e. Ready tt)

-- how walks end one after the other: the end of the last one to which one comes
abbrev pub last : Bool → Bool → Walked (Unit {0}) → List (Walked Term) → Walked (Unit {0})
last choice here before [] = before
last choice true before (w ∷ ws) = last choice (goes_on (form_by choice) w) (end_of w) ws
last choice false before (w ∷ ws) = last choice false before ws

-- what stands written after these imports, which have these edges
abbrev pub written : {S : Type 0} → Sight S → List Edge → List (Option Key) → List S → List S
written s es [] slots = slots
written s es (None ∷ vs) slots = written s (drop 1 es) vs slots
written s es (Some k ∷ vs) slots = written s (drop 1 es) vs (s.note (length es) k slots)

-- where a walk came to, and what it wrote
pub record Came {S X : Type 0} (s : Sight S) (es : List Edge) (vs : List (Option Key)) (w : Walked X) (before : List S) (n : Next) (slots : List S) : Type 0 where
  pub next_is : IsNext s.parent s.rows w n
  pub slots_are : slots ≡ written s es vs before

-- that of an expression
abbrev pub WalksIn : {S : Type 0} → Sight S → Bool → List Edge → Term → List S → Next → List S → Type 0
WalksIn s unspelled es e before n slots =
    Begins s.parent s.rows (keys_of s.parent e) es → Came s es (seen s unspelled e) (walk (text_key s.parent) s.ask e) before n slots
