-- What stands of a node whose parts are gathered one at a time.
use Rattle.std.specs.Prelude.{ℕ, suc, max, true, false, [], ◌∷◌, Option, Some, None}
use Rattle.dh_syntax.specs.declared.expressions.Op.{Op}
use Rattle.dh_syntax.specs.declared.expressions.Op.TheVariants as ops
use Rattle.dh_syntax.specs.Expressions.Bridge.{row_of}
use Rattle.dh_syntax.specs.Expressions.Rows.{◌+++◌}
use Rattle.dh_syntax.specs.Expressions.Tree.{Row, end, kid, Var, Name}
use Rattle.dh_grammar.specs.Stubs.{Part, Parts}
use Rattle.dh_operands.specs.declared.gathering.Gathering.{Gathering}

-- the parts so far, and how deep a node of them nests
pub record Gathered : Type 0 where
  pub parts : Row Var Name
  pub nests : ℕ

-- no parts, which nest not at all
abbrev pub nothing : Gathered
nothing = record { parts = end; nests = 0 }

-- one part more, and several
abbrev pub and_part : Gathered → Option Name → Part → Gathered
and_part g b p = record { parts = g.parts +++ kid b p.expression end; nests = max g.nests (suc p.nests) }

-- the gathered parts with more of them, each under its binder if it has one
abbrev pub and_parts : Gathered → Parts → Gathered
and_parts g [] = g
and_parts g (p ∷ ps) = and_parts (and_part g p.0 p.1) ps

-- what the program has gathered: its parts, and how deep a node of them nests
abbrev pub gathered_of : Gathering → Gathered
gathered_of g = record { parts = row_of g.kids; nests = g.nests }

-- `merge` or `toMap` with an annotation, where it is one of them without
abbrev pub with_annotation : Op → Option Op
with_annotation (ops.Merge false) = Some (ops.Merge true)
with_annotation (ops.ToMap false) = Some (ops.ToMap true)
with_annotation _ = None
