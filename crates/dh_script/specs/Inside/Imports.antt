-- The location of an import as code, without a digest, that is not `missing`.
use Rattle.std.specs.Prelude.{Option, Some, None}
use Rattle.dh_syntax.specs.declared.expressions.Op.{Op}
use Rattle.dh_syntax.specs.declared.expressions.Op.TheVariants as ops
use Rattle.dh_syntax.specs.declared.locations.Digest.{Digest}
use Rattle.dh_syntax.specs.declared.locations.Import.{Import}
use Rattle.dh_syntax.specs.declared.locations.Loc.{Loc}
use Rattle.dh_syntax.specs.declared.locations.Loc.TheVariants as locs
use Rattle.dh_syntax.specs.declared.locations.Mode.{Mode}
use Rattle.dh_syntax.specs.declared.locations.Mode.TheVariants as modes
use Rattle.dh_syntax.specs.Expressions.Tree.{Leaf, Node, Row, Name, Var, Term, end, kid}
use Rattle.dh_syntax.specs.Imports.Locations.{chain}

-- a location, unless it is `missing`
abbrev pub somewhere : Loc → Option Loc
somewhere locs.Missing = None
somewhere l = Some l

-- the location of an import with this mode and digest, where it is one as code without a digest and not `missing`
abbrev pub plain_of : Mode → Option Digest → Loc → Option Loc
plain_of modes.Code None l = somewhere l
plain_of _ _ l = None

-- the location of an import as code, without a digest, that is not `missing`
abbrev pub plain_import : Import → Option Loc
plain_import i = plain_of i.mode i.digest i.loc

-- the import of a node, where it is one
abbrev pub imported : Op → Option Import
imported (ops.Import i) = Some i
imported _ = None

-- the location of an import that may be none, where it is as code, without a digest and not `missing`
abbrev pub plain_if : Option Import → Option Loc
plain_if None = None
plain_if (Some i) = plain_import i

-- the location of a node without parts that is an import as code, without a digest, and not `missing`
abbrev pub plain_node : Op → Row Var Name → Option Loc
plain_node op end = plain_if (imported op)
plain_node op (kid b e r) = None

-- the location of an expression that is such an import
abbrev pub plain : Term → Option Loc
plain (Leaf x) = None
plain (Node op r) = plain_node op r

-- it is made canonical
abbrev pub chained : Option Loc → Option Loc
chained None = None
chained (Some l) = Some (chain None l)
