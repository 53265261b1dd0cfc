-- Joining record types, pair by pair.
use Rattle.std.specs.Prelude.{◌≡◌, ◌<◌, ℕ, List, [], ◌∷◌, map, length, Option, Some, option_map, IfSome, IsTrue}
use Rattle.dh_syntax.specs.declared.expressions.Op.TheVariants as ops
use Rattle.dh_syntax.specs.Expressions.Forms.{Fields, plain_row}
use Rattle.dh_syntax.specs.Expressions.Labels.{field_at, prepend_field}
use Rattle.dh_syntax.specs.Expressions.Order.{ascending}
use Rattle.dh_syntax.specs.Expressions.Tree.{Node, Name}
use Rattle.dh_syntax.specs.Names.Nameless.{Ref, Core}
use Rattle.dh_syntax.specs.Typing.TypeRulesRecords.{joined, joined_field}
use Rattle.dh_store.specs.declared.codes.Codes.{Codes}
use Rattle.dh_store.specs.Cells.{code_core, AreBelow}
use Rattle.dh_store.specs.Growth.{count}
use Rattle.dh_types.specs.declared.memos.Memo.{Memo}
use Rattle.dh_types.specs.Memos.{entry}

-- the fields of one record type, each joined with that of another one that has its label
abbrev pub joined_all : Fields Ref Name → Fields Ref Name → Option (Fields Ref Name)
joined_all [] gs = Some []
joined_all ((x, t) ∷ fs) gs = prepend_field x (joined_field (λ u. joined t u) t (field_at x gs)) (joined_all fs gs)

-- the record type with these labels and types
abbrev pub record_of : (ℕ → Core) → List Name × List ℕ → Core
record_of f p = Node (ops.RecordType p.0) (plain_row (map f p.1))

-- so it is one, of types that are among the first n
abbrev pub IsRecordBelow : ℕ → List Name × List ℕ → Type 0
IsRecordBelow n p = AreBelow n p.1 × IsTrue (ascending p.0) × (length p.0 ≡ length p.1)

-- what was kept for pairs of types is what they are joined, where a number stands for `f` of it
abbrev pub Joins : (ℕ → Core) → Memo (Option ℕ) → Type 0
Joins f m = (a b : ℕ) (o : Option ℕ) → entry m a b ≡ Some o → option_map f o ≡ joined (f a) (f b)

-- all codes that a memory of joined types has are below n
abbrev pub AreFoundBelow : ℕ → Memo (Option ℕ) → Type 0
AreFoundBelow n m = (a b : ℕ) (o : Option ℕ) → entry m a b ≡ Some o → IfSome o (λ c. c < n)

-- and each of these types is there
pub record AreJoined (cs : Codes) (m : Memo (Option ℕ)) : Type 0 where
  pub below : (a b : ℕ) (o : Option ℕ) → entry m a b ≡ Some o → (a < count cs) × (b < count cs)
  pub found : AreFoundBelow (count cs) m
  pub joins : Joins (code_core cs) m
