-- What the machine is given: the types of its parts, and what is made of them.
use Rattle.std.specs.Prelude.{ℕ, ℤ, Bool, List, Option, Some, None, []}
use Rattle.dh_syntax.specs.declared.locations.Digest.{Digest}
use Rattle.dh_syntax.specs.declared.locations.Mode.{Mode}
use Rattle.dh_syntax.specs.declared.operators.BinOp.{BinOp}
use Rattle.dh_syntax.specs.declared.operators.Builtin.{Builtin}
use Rattle.dh_syntax.specs.declared.tokens.TextForm.{TextForm}
use Rattle.dh_syntax.specs.Text.Derivation.{NameToken, Key, Keys, ImportType}

-- the types of its parts: derivation trees and their parts, or expressions
pub record Sorts : Type 1 where
  pub tree : Type 0
  pub note : Type 0
  pub lets : Type 0
  pub chunks : Type 0
  pub items : Type 0
  pub alternatives : Type 0
  pub fields : Type 0
  pub entry : Type 0
  pub entries : Type 0

-- what is made of each production of the grammar
pub record Making (K : Sorts) : Type 0 where
  -- the level, and the labels so far
  pub binds : K.tree → ℕ
  pub field_labels : K.fields → List (List ℕ)
  pub alternative_labels : K.alternatives → List (List ℕ)
  pub natural : ℕ → K.tree
  pub integer : ℤ → K.tree
  pub truth : Bool → K.tree
  pub builtin : Builtin → K.tree
  pub variable : NameToken → Option ℕ → K.tree
  pub import : ImportType → Option Digest → Mode → K.tree
  pub operation : BinOp → K.tree → K.tree → K.tree
  pub application : K.tree → K.tree → K.tree
  pub merging : K.tree → K.tree → K.tree
  pub some_of : K.tree → K.tree
  pub to_map : K.tree → K.tree
  pub updating : K.tree → Keys → K.tree → K.tree
  pub quantify : Bool → NameToken → K.tree → K.tree → K.tree
  pub arrow : K.tree → K.tree → K.tree
  pub choice : K.tree → K.tree → K.tree → K.tree
  pub lets : K.lets → K.tree → K.tree
  -- an annotation, or that of `merge` or `toMap`
  pub noting : K.tree → K.tree → K.tree
  pub empty_list : Bool → K.tree → K.tree
  pub assertion : K.tree → K.tree
  pub brackets : K.tree → K.tree
  pub field : K.tree → Key → K.tree
  pub project_none : K.tree → Bool → K.tree
  pub project : K.tree → Bool → Keys → Bool → K.tree
  pub project_by : K.tree → K.tree → K.tree
  pub text : TextForm → K.chunks → K.tree
  pub list : Bool → K.items → Bool → K.tree
  pub union_none : Bool → K.tree
  pub union : Bool → K.alternatives → Bool → K.tree
  pub record_type_none : Bool → K.tree
  pub record_type : Bool → K.fields → Bool → K.tree
  pub record_none : Bool → Bool → K.tree
  pub record_of : Bool → K.entries → Bool → K.tree
  pub untyped : K.note
  pub typed : K.tree → K.note
  pub add_let : Option (K.lets) → NameToken → K.note → K.tree → K.lets
  pub start : Option (List ℕ) → K.chunks
  pub more_chunks : K.chunks → K.tree → Option (List ℕ) → K.chunks
  pub add_item : Option (K.items) → K.tree → K.items
  pub add_alternative : Option (K.alternatives) → Key → K.note → K.alternatives
  pub add_field : Option (K.fields) → Key → K.tree → K.fields
  pub alone : Key → K.entry
  pub given : Keys → K.tree → K.entry
  pub add_entry : Option (K.entries) → K.entry → K.entries

-- a function applied to what may be there
abbrev pub option_map : {A B : Type 0} → (A → B) → Option A → Option B
option_map f None = None
option_map f (Some a) = Some (f a)

-- those so far
abbrev pub so_far : {X : Type 0} → Option (List X) → List X
so_far None = []
so_far (Some xs) = xs
