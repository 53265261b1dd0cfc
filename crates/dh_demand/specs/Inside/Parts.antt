-- What a node is to a walk.
use Rattle.std.specs.Prelude.{Option, Some, None}
use Rattle.dh_syntax.specs.declared.expressions.Op.{Op}
use Rattle.dh_syntax.specs.declared.locations.Import.{Import as Written}
use Rattle.dh_imports.specs.Walk.{Form, importing, choosing, other, form_of}
use Rattle.dh_demand.specs.declared.parts.Part.{Part}
use Rattle.dh_demand.specs.declared.parts.Part.TheVariants.{Import, Choice, Other}

-- what a node of this form is: an import, a choice, or another one
abbrev pub by_form : Form → Part
by_form (importing i) = Import
by_form choosing = Choice
by_form other = Other

-- what a node with this operator is: an import, a choice, or another one
abbrev pub part_of : Op → Part
part_of op = by_form (form_of op)

-- the import that a node is
abbrev pub import_of_form : Form → Option Written
import_of_form (importing i) = Some i
import_of_form choosing = None
import_of_form other = None
