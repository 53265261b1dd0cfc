-- Which imports of the root get a digest when it is frozen: each that is taken as code or as text and has none, if the walk comes to it
-- and it has a value.
use Rattle.std.specs.Prelude.{Bool, true, false, ◌&&◌, if◌then◌else◌, List, [], ◌∷◌, ◌++◌, Option, Some, None, is_none}
use Rattle.dh_syntax.specs.declared.locations.Digest.{Digest}
use Rattle.dh_syntax.specs.declared.locations.Import.{Import}
use Rattle.dh_syntax.specs.declared.locations.Mode.{Mode}
use Rattle.dh_syntax.specs.declared.locations.Mode.TheVariants as modes
use Rattle.dh_syntax.specs.Expressions.Tree.{Row, Leaf, Node, end, kid, Name, Var, Term}
use Rattle.dh_syntax.specs.Imports.Keys.{chained}
use Rattle.dh_syntax.specs.Bytes.Digests.{digest_of}
use Rattle.dh_imports.specs.Outcomes.{may_go_on}
use Rattle.dh_imports.specs.Walk.{Ask, Form, importing, choosing, form_of, Walked, Ready, Fails, Turns, Needs, walk, walk_key}

-- whether an import takes the content of its location, as code or as text
abbrev pub takes_content : Mode → Bool
takes_content modes.Code = true
takes_content modes.Text = true
takes_content modes.Location = false

-- the digest to write behind an import that is walked to this end
abbrev pub digest_behind : Import → Walked Term → Option Digest
digest_behind i (Ready v) = if is_none i.digest && takes_content i.mode then Some (digest_of v) else None
digest_behind i _ = None

-- the parts of a node are walked in order as long as each has a value; the right side of a choice is walked after a fault that allows it
abbrev pub goes_on : Form → Walked Term → Bool
goes_on choosing (Fails b) = may_go_on b.why
goes_on choosing _ = false
goes_on _ (Ready e) = true
goes_on _ _ = false

-- for an import the digest to write behind it, if the walk comes to it and finds a value; nothing for other nodes
abbrev pub own_digest : Ask → Bool → Form → List (Option Digest)
own_digest ask here (importing i) = (if here then digest_behind i (walk_key None ask (chained None i)) else None) ∷ []
own_digest ask here _ = []

-- for each import in an expression or the parts of a node, in their order, the digest to write behind it
abbrev mutual
  -- for each import in an expression of the root, in the order of the nodes, the digest to write behind it; whether the walk comes here
  pub digests_behind : Ask → Bool → Term → List (Option Digest)
  digests_behind ask here (Leaf v) = []
  digests_behind ask here (Node op r) = own_digest ask here (form_of op) ++ digests_behind_row ask (form_of op) here r

  pub digests_behind_row : Ask → Form → Bool → Row Var Name → List (Option Digest)
  digests_behind_row ask f here end = []
  digests_behind_row ask f here (kid b e r) = digests_behind ask here e ++ digests_behind_row ask f (here && goes_on f (walk None ask e)) r
