-- The binders that stand above, and what is known of their variables.
use Rattle.std.specs.Prelude.{◌≡◌, ◌<◌, ℕ, Bool, true, false, List, [], ◌∷◌, map, length, Option, Some, None, IfSome}
use Rattle.dh_syntax.specs.Expressions.Tree.{Leaf}
use Rattle.dh_syntax.specs.Names.Nameless.{Bound, Core, raised, sub}
use Rattle.dh_store.specs.declared.codes.Codes.{Codes}
use Rattle.dh_store.specs.Cells.{bound, code_core}
use Rattle.dh_store.specs.Growth.{count}
use Rattle.dh_infer.specs.declared.frames.Entry.{Entry}
use Rattle.dh_infer.specs.Inside.Debts.{Family, whole, HasFound}
use Rattle.dh_infer.specs.Inside.Levels.{IsOf}

-- In the following, `g` is what codes stand for.

-- It gives what these codes stand for, and for further codes anything. So what is said of all such functions is said of these codes
-- alone, and stays as codes are added.
abbrev pub Models : Codes → (ℕ → Core) → Type 0
Models codes g = (c : ℕ) → c < count codes → g c ≡ code_core codes c

-- what stands for the variables
abbrev pub env : (ℕ → Core) → List Entry → ℕ → Core
env g [] = λ i. Leaf (Bound i)
env g (e ∷ es) = bound (g e.value) (env g es)

-- what a code stands for there
abbrev pub in_scope : (ℕ → Core) → List Entry → ℕ → Core
in_scope g es k = sub (env g es) (g k)

-- and below one more binder
abbrev pub below_scope : (ℕ → Core) → List Entry → ℕ → Core
below_scope g es k = sub (raised (env g es)) (g k)

-- the type of a value, if it is known
abbrev pub IsTyped : (ℕ → Core) → Family → Option ℕ → Type 0
IsTyped g family None = Unit {0}
IsTyped g family (Some t) = HasFound family (g t)

-- an entry, where the variables that have numbers have these types
pub record Knows (g : ℕ → Core) (ts : List Core) (e : Entry) : Type 0 where
  pub value : IsOf (length ts) (g e.value)
  pub typed : IsTyped g (whole ts (g e.value)) e.typed

-- what stands below an entry; below a variable with a number, its type is not there
abbrev pub behind : Bool → (ℕ → Core) → (List ℕ → Type 0) → List ℕ → Type 0
behind true g rest [] = ⊥
behind true g rest (l ∷ ls) = IsOf (length (map g ls)) (g l) × rest ls
behind false g rest ls = rest ls

-- these binders stand above, and the variables that have numbers have these types, the last number first
abbrev pub IsScope : (ℕ → Core) → List Entry → List ℕ → Type 0
IsScope g [] [] = Unit {0}
IsScope g [] (l ∷ ls) = ⊥
IsScope g (e ∷ es) ls = Knows g (map g ls) e × behind e.opened g (IsScope g es) ls

-- ---- the codes are there

-- the codes of an entry, its value and its type if known, are below n
abbrev pub IsEntryThere : ℕ → Entry → Type 0
IsEntryThere n e = (e.value < n) × IfSome e.typed (λ t. t < n)

-- the codes of each entry are below n
abbrev pub AreEntriesThere : ℕ → List Entry → Type 0
AreEntriesThere n [] = Unit {0}
AreEntriesThere n (e ∷ es) = IsEntryThere n e × AreEntriesThere n es
