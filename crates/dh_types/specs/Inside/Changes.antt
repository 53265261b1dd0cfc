-- A code with other leaves, each by how many binders stand above it.
use Rattle.std.specs.Prelude.{◌≡◌, ◌<◌, ℕ, Some, IsTrue, if◌then◌else◌}
use Rattle.dh_syntax.specs.Expressions.Arity.{fits}
use Rattle.dh_syntax.specs.Expressions.Tree.{Row, Leaf, Node, end, kid, Name}
use Rattle.dh_syntax.specs.Names.Nameless.{Ref, Bound, Core}
use Rattle.dh_syntax.specs.Typing.NamelessTyping.{above, is_bound}
use Rattle.dh_store.specs.declared.codes.Codes.{Codes}
use Rattle.dh_store.specs.Cells.{code_core, code_row, nothing, AreKidsBelow}
use Rattle.dh_store.specs.Growth.{count}
use Rattle.dh_types.specs.declared.changes.Change.{Change}
use Rattle.dh_types.specs.declared.changes.Change.TheVariants as changes
use Rattle.dh_types.specs.declared.changes.Plan.{Plan}
use Rattle.dh_types.specs.declared.changes.Plan.TheVariants as plans
use Rattle.dh_types.specs.declared.memos.Memo.{Memo}
use Rattle.dh_types.specs.Binding.{bound_ref}
use Rattle.dh_types.specs.Growing.{Stands}
use Rattle.dh_types.specs.Memos.{entry}

-- a code, and the parts of one, with other leaves by how many binders stand above
abbrev mutual
  -- g tells what a leaf becomes so many binders below
  pub changed : (ℕ → Ref → Core) → ℕ → Core → Core
  changed g k (Leaf r) = g k r
  changed g k (Node op r) = Node op (changed_row g k r)

  pub changed_row : (ℕ → Ref → Core) → ℕ → Row Ref Name → Row Ref Name
  changed_row g k end = end
  changed_row g k (kid b e r) = kid b (changed g (above b k) e) (changed_row g k r)

-- a in place of the variable of the binder so many above
abbrev pub put_ref : Core → ℕ → Ref → Core
put_ref a k r = if is_bound k r then a else Leaf r

-- what a leaf becomes, where a number stands for `f` of it
abbrev pub leaf_by : (ℕ → Core) → Change → ℕ → Ref → Core
leaf_by f (changes.Binds n) k r = Leaf (bound_ref n k r)
leaf_by f (changes.Puts c) k r = put_ref (f c) k r

-- what the variable that is changed becomes
abbrev pub found_by : (ℕ → Core) → Change → ℕ → Core
found_by f (changes.Binds n) k = Leaf (Bound k)
found_by f (changes.Puts c) k = f c

-- the code that is put is there
abbrev pub IsChangeBelow : ℕ → Change → Type 0
IsChangeBelow n (changes.Binds v) = Unit {0}
IsChangeBelow n (changes.Puts c) = c < n

-- what was kept for codes and binders above them: each is there, and so is what it becomes
pub record AreChanged (cs : Codes) (change : Change) (m : Memo ℕ) : Type 0 where
  pub below : (c k d : ℕ) → entry m c k ≡ Some d → c < count cs
  pub made : (c k d : ℕ) → entry m c k ≡ Some d → Stands cs d (changed (leaf_by (code_core cs) change) k (code_core cs c))

-- the same, of what numbers stand for alone
abbrev pub Maps : (ℕ → Core) → (ℕ → Ref → Core) → Memo ℕ → Type 0
Maps f g m = (c k d : ℕ) → entry m c k ≡ Some d → f d ≡ changed g k (f c)

-- all codes that a memory has are below n
abbrev pub AreEntriesBelow : ℕ → Memo ℕ → Type 0
AreEntriesBelow n m = (c k d : ℕ) → entry m c k ≡ Some d → d < n

-- what is to be made of an expression so many binders below
abbrev pub IsPlan : Codes → Change → ℕ → Core → Plan → Type 0
IsPlan cs change k e plans.Keep = changed (leaf_by (code_core cs) change) k e ≡ e
IsPlan cs change k e plans.Replace = changed (leaf_by (code_core cs) change) k e ≡ found_by (code_core cs) change k
IsPlan cs change k e (plans.Rebuild op ks) =
    (changed (leaf_by (code_core cs) change) k e ≡ Node op (code_row (code_core cs) ks)) × AreKidsBelow (count cs) ks × IsTrue (fits op (code_row (λ c. nothing) ks))
