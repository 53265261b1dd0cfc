-- The plain tree that a nameless expression of the program is.
use Rattle.std.specs.Prelude.{List, [], ◌∷◌, Option}
use Rattle.dh_syntax.specs.Expressions.Tree as tree
use Rattle.dh_syntax.specs.Expressions.Tree.{Row, Leaf, end, kid, Name}
use Rattle.dh_syntax.specs.Names.Nameless as nameless_form
use Rattle.dh_syntax.specs.Names.Nameless.{Ref}
use Rattle.dh_terms.specs.declared.cores.Core.{Core}
use Rattle.dh_terms.specs.declared.cores.Core.TheOpen.{Core-F, CoreKid-F}
use Rattle.dh_terms.specs.declared.cores.Core.TheOpen as level
use Rattle.dh_terms.specs.declared.cores.Core.TheFolds.{fold-Core}
use Rattle.dh_terms.specs.declared.cores.CoreKid.{CoreKid}

-- a part of a nameless node, as a plain tree under its binder
abbrev pub Part : Type 0
Part = Option Name × nameless_form.Core

-- the row of these parts
abbrev pub row : List Part → Row Ref Name
row [] = end
row (p ∷ ps) = kid p.0 p.1 (row ps)

-- one level of a nameless expression, whose parts are plain trees already
abbrev pub core_step : Core-F nameless_form.Core Part → nameless_form.Core
core_step (level.Bound i) = Leaf (nameless_form.Bound i)
core_step (level.Free x n) = Leaf (nameless_form.Free x n)
core_step (level.Node op kids) = tree.Node op (row kids)

-- a part with its binder, whose expression is a plain tree already
abbrev pub kid_step : CoreKid-F nameless_form.Core Part → Part
kid_step k = (k.binder, k.body)

-- the plain tree of a nameless expression
unfoldable pub nameless : Core → nameless_form.Core
nameless = fold-Core nameless_form.Core Part core_step kid_step

-- the parts of a nameless node as plain trees
abbrev pub parts : List CoreKid → List Part
parts [] = []
parts (k ∷ ks) = (k.binder, nameless k.body) ∷ parts ks

-- the parts of a nameless node
unfoldable pub nameless_row : List CoreKid → Row Ref Name
nameless_row ks = row (parts ks)
