-- What the parts that a builder makes stand for.
use Rattle.std.specs.Prelude.{Option, Some, None}
use Rattle.dh_grammar.specs.Making.{Sorts}

-- what each kind of part that a builder makes stands for
pub record Views (Tree Note Lets Chunks Items Alternatives Fields Entry Entries : Type 0) (K : Sorts) : Type 0 where
  pub tree : Tree → K.tree
  pub note : Note → K.note
  pub lets : Lets → K.lets
  pub chunks : Chunks → K.chunks
  pub items : Items → K.items
  pub alternatives : Alternatives → K.alternatives
  pub fields : Fields → K.fields
  pub entry : Entry → K.entry
  pub entries : Entries → K.entries

-- a value under a label, with the one that stood there before
abbrev pub with_old : {X : Type 0} → (X → X → X) → Option X → X → X
with_old join None x = x
with_old join (Some old) x = join old x
