-- Which parts each node has: so many, and no others, with the last one under a binder where the node has one.
use Rattle.std.specs.Prelude.{◌≡◌, ℕ, zero, suc, pos, Bool, true, false, List, [], ◌∷◌, map, Some, None, codes, refl}
use Rattle.dh_syntax.specs.declared.expressions.Op.{Op}
use Rattle.dh_syntax.specs.declared.expressions.Op.TheVariants as ops
use Rattle.dh_syntax.specs.declared.locations.Loc.{Loc}
use Rattle.dh_syntax.specs.declared.locations.Loc.TheVariants as locs
use Rattle.dh_syntax.specs.declared.locations.Mode.TheVariants as modes
use Rattle.dh_syntax.specs.declared.operators.BinOp.TheVariants as bins
use Rattle.dh_syntax.specs.declared.operators.Builtin.TheVariants as builtins
use Rattle.dh_syntax.specs.Expressions.Arity.{fits, loc_fits}
use Rattle.dh_examples.specs.Vocabulary.{typed, untyped, x, x0, y}
use Rattle.dh_syntax.specs.Expressions.Tree.{Row, end, kid, Name, Var}

-- so many parts, and so many with one more under a binder
abbrev plain : ℕ → Row Var Name
plain zero = end
plain (suc n) = kid None x0 (plain n)

-- a row of so many parts without a binder, and a last one under a binder of `x`
abbrev binding : ℕ → Row Var Name
binding zero = kid (Some x) x0 end
binding (suc n) = kid None x0 (binding n)

-- whether a node may have no part, one, two, three and four, and one under a binder with none, one and two before it
abbrev allowed : Op → List Bool
allowed op = map (λ r. fits op r) (plain 0 ∷ plain 1 ∷ plain 2 ∷ plain 3 ∷ plain 4 ∷ binding 0 ∷ binding 1 ∷ binding 2 ∷ [])

-- each of these nodes allows the same, part number by part number
abbrev AllAllow : List Op → List Bool → Type 0
AllAllow ops allows = map allowed ops ≡ map (λ o. allows) ops

-- the node of the import `missing`
abbrev missing : Op
missing = ops.Import (record { loc = locs.Missing; mode = modes.Code; digest = None })

no_part :
    AllAllow (ops.Builtin builtins.Sort ∷ ops.Bool true ∷ ops.Nat 1 ∷ ops.Int (pos 1) ∷ ops.Text (x ∷ []) ∷ missing ∷ ops.RecordType [] ∷ ops.Record [] ∷ ops.Union []
    ∷ ops.Union (untyped x ∷ untyped y ∷ []) ∷ [])
    (true ∷ false ∷ false ∷ false ∷ false ∷ false ∷ false ∷ false ∷ [])
no_part = refl

one_part :
    AllAllow (ops.Text (x ∷ y ∷ []) ∷ ops.EmptyList ∷ ops.Some ∷ ops.RecordType (x ∷ []) ∷ ops.Record (x ∷ []) ∷ ops.Field x ∷ ops.Project [] ∷ ops.Project (x ∷ y ∷ [])
    ∷ ops.Union (untyped x ∷ typed y ∷ []) ∷ ops.Assert ∷ ops.ToMap false ∷ [])
    (false ∷ true ∷ false ∷ false ∷ false ∷ false ∷ false ∷ false ∷ [])
one_part = refl

two_parts :
    AllAllow (ops.Text (x ∷ [] ∷ [] ∷ []) ∷ ops.App ∷ ops.Bin bins.Plus ∷ ops.Merge false ∷ ops.RecordType (x ∷ y ∷ []) ∷ ops.Record (x ∷ y ∷ []) ∷ ops.ProjectType
    ∷ ops.Union (typed x ∷ typed y ∷ []) ∷ ops.Annot ∷ ops.ToMap true ∷ ops.With (x ∷ []) ∷ ops.With (y ∷ x ∷ y ∷ []) ∷ [])
    (false ∷ false ∷ true ∷ false ∷ false ∷ false ∷ false ∷ false ∷ [])
two_parts = refl

three_parts : AllAllow (ops.If ∷ ops.Merge true ∷ []) (false ∷ false ∷ false ∷ true ∷ false ∷ false ∷ false ∷ false ∷ [])
three_parts = refl

one_part_or_more : AllAllow (ops.List ∷ []) (false ∷ true ∷ true ∷ true ∷ true ∷ false ∷ false ∷ false ∷ [])
one_part_or_more = refl

one_part_and_a_body : AllAllow (ops.Lam ∷ ops.Pi ∷ ops.Let false ∷ []) (false ∷ false ∷ false ∷ false ∷ false ∷ false ∷ true ∷ false ∷ [])
one_part_and_a_body = refl

two_parts_and_a_body : AllAllow (ops.Let true ∷ []) (false ∷ false ∷ false ∷ false ∷ false ∷ false ∷ false ∷ true ∷ [])
two_parts_and_a_body = refl

-- the labels of records, projections and unions ascend, an update has one or more, a text has a piece, a path a component
never :
    AllAllow (ops.RecordType (y ∷ x ∷ []) ∷ ops.Record (x ∷ x ∷ []) ∷ ops.Project (y ∷ x ∷ []) ∷ ops.Union (untyped y ∷ untyped x ∷ []) ∷ ops.With [] ∷ ops.Text []
    ∷ ops.Import (record { loc = locs.Here []; mode = modes.Code; digest = None }) ∷ [])
    (false ∷ false ∷ false ∷ false ∷ false ∷ false ∷ false ∷ false ∷ [])
never = refl

-- the location at the host `h` over http with these components
abbrev at_host : List Name → Loc
at_host cs = locs.Http (record { host = codes "h"; comps = cs; query = None })

-- the location at the host `h` over https with these components
abbrev at_secure_host : List Name → Loc
at_secure_host cs = locs.Https (record { host = codes "h"; comps = cs; query = None })

paths_have_components :
    map loc_fits (locs.Abs [] ∷ locs.Here [] ∷ locs.Parent [] ∷ locs.Home [] ∷ at_host [] ∷ at_secure_host [] ∷ [])
    ≡ false ∷ false ∷ false ∷ false ∷ false ∷ false ∷ []
paths_have_components = refl

locations_fit :
    map loc_fits (locs.Abs (x ∷ []) ∷ locs.Here (x ∷ []) ∷ locs.Parent (x ∷ []) ∷ locs.Home (x ∷ []) ∷ at_host ([] ∷ []) ∷ at_secure_host (x ∷ y ∷ []) ∷ locs.Env [] ∷ locs.Missing ∷ [])
    ≡ true ∷ true ∷ true ∷ true ∷ true ∷ true ∷ true ∷ true ∷ []
locations_fit = refl
