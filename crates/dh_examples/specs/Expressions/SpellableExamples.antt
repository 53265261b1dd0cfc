-- What can be spelled: labels, parts of locations, nodes and whole expressions, and the limits.
use Rattle.std.specs.Prelude.{◌≡◌, ℕ, Bool, true, false, List, [], ◌∷◌, map, Option, Some, None, pos, codes, refl}
use Prim.Native.String.{String}
use Rattle.dh_syntax.specs.declared.expressions.Op.TheVariants as ops
use Rattle.dh_syntax.specs.declared.locations.Loc.TheVariants as locs
use Rattle.dh_syntax.specs.declared.locations.Mode.TheVariants as modes
use Rattle.dh_syntax.specs.declared.locations.Url.{Url}
use Rattle.dh_syntax.specs.Expressions.Nesting.{nesting}
use Rattle.dh_syntax.specs.Expressions.Spellable.{is_label, is_component, is_environment, is_segment, is_query, is_host, location_spellable, op_spellable, names_spellable}
use Rattle.dh_syntax.specs.Limits.{most_nesting}
use Rattle.dh_syntax.specs.Limits.{most_index}
use Rattle.dh_examples.specs.Vocabulary.{typed, untyped, var, x, x0}
use Rattle.dh_syntax.specs.Expressions.Forms.{app, lambda, natural, some}
use Rattle.dh_syntax.specs.Expressions.Tree.{Node, end, Name}

-- each of these texts passes the test
abbrev AllPass : (List ℕ → Bool) → List String → Type 0
AllPass test texts = map (λ t. test (codes t)) texts ≡ map (λ t. true) texts

-- none of these texts passes the test
abbrev NonePass : (List ℕ → Bool) → List String → Type 0
NonePass test texts = map (λ t. test (codes t)) texts ≡ map (λ t. false) texts

limits : most_nesting ∷ most_index ∷ [] ≡ 500 ∷ 2147483647 ∷ []
limits = refl

-- what has no parts nests 0 deep, with an empty list of parts too; the deepest part counts, wherever it stands
nested :
    map nesting (x0 ∷ natural 0 ∷ Node (ops.Record []) end ∷ some x0 ∷ app x0 (natural 0) ∷ app (some x0) x0 ∷ app x0 (some x0) ∷ lambda x x0 (app (some x0) x0) ∷ [])
    ≡ 0 ∷ 0 ∷ 0 ∷ 1 ∷ 1 ∷ 2 ∷ 2 ∷ 3 ∷ []
nested = refl

-- ---- labels, components, names of environment variables

labels : AllPass is_label ("" ∷ "x" ∷ "if" ∷ " ~" ∷ "a\"b/\\" ∷ [])
labels = refl

no_labels : NonePass is_label ("`" ∷ "a`" ∷ "\t" ∷ "\u{1f}" ∷ "\u{7f}" ∷ "é" ∷ [])
no_labels = refl

components : AllPass is_component ("x" ∷ "." ∷ " ~" ∷ "`\\" ∷ [])
components = refl

no_components : NonePass is_component ("" ∷ "a\"b" ∷ "a/b" ∷ "\u{1f}" ∷ "\u{7f}" ∷ "é" ∷ [])
no_components = refl

environment_names : AllPass is_environment ("x" ∷ "1" ∷ " ~" ∷ "`/" ∷ [])
environment_names = refl

no_environment_names : NonePass is_environment ("" ∷ "a\"b" ∷ "a\\b" ∷ "a=b" ∷ "\u{1f}" ∷ "\u{7f}" ∷ "é" ∷ [])
no_environment_names = refl

-- ---- URLs

segments : AllPass is_segment ("" ∷ "azAZ09-._~!$&'*+;=:@" ∷ "%4a%FFx" ∷ [])
segments = refl

no_segments : NonePass is_segment ("/" ∷ "?" ∷ "," ∷ "(" ∷ "#" ∷ " " ∷ "%" ∷ "%4" ∷ "%4g" ∷ "%g4" ∷ "a%" ∷ "é" ∷ [])
no_segments = refl

queries : AllPass is_query ("" ∷ "a=b/?c" ∷ "%20@" ∷ [])
queries = refl

no_queries : NonePass is_query ("," ∷ "#" ∷ "[" ∷ " " ∷ "%2" ∷ "%zz" ∷ [])
no_queries = refl

hosts : AllPass is_host ("h" ∷ "1.2.3.4:80" ∷ "a-b.c--d." ∷ "h:" ∷ "h.:0042" ∷ "A9" ∷ [])
hosts = refl

no_hosts : NonePass is_host ("" ∷ "." ∷ "-a" ∷ "a-" ∷ "a-.b" ∷ "a-:1" ∷ "a..b" ∷ "a.-b" ∷ ":80" ∷ "h:x" ∷ "h.:x" ∷ "h:80:" ∷ "a_b" ∷ "u@h" ∷ "[::1]" ∷ "h/" ∷ [])
no_hosts = refl

-- the address of a host with one component and a query, if there is one
abbrev web : String → String → Option Name → Url
web host component query = record { host = codes host; comps = codes component ∷ []; query = query }

-- an empty component is one of a URL alone
locations :
    map location_spellable (locs.Abs (x ∷ []) ∷ locs.Here (x ∷ []) ∷ locs.Parent (x ∷ []) ∷ locs.Home (x ∷ []) ∷ locs.Http (web "h" "" None)
    ∷ locs.Https (web "h" "x" (Some (codes "q"))) ∷ locs.Env x ∷ locs.Missing ∷ [])
    ≡ true ∷ true ∷ true ∷ true ∷ true ∷ true ∷ true ∷ true ∷ []
locations = refl

no_locations :
    map location_spellable (locs.Abs (x ∷ [] ∷ []) ∷ locs.Here ([] ∷ x ∷ []) ∷ locs.Parent ([] ∷ []) ∷ locs.Home ([] ∷ []) ∷ locs.Http (web "-" "x" None)
    ∷ locs.Http (web "h" "," None) ∷ locs.Https (web "h" "x" (Some (codes "#"))) ∷ locs.Https (web "" "x" None) ∷ locs.Env [] ∷ [])
    ≡ false ∷ false ∷ false ∷ false ∷ false ∷ false ∷ false ∷ false ∷ false ∷ []
no_locations = refl

-- ---- nodes and expressions

-- a label that cannot be spelled
abbrev bad : Name
bad = codes "`"

no_nodes :
    map op_spellable (ops.Import (record { loc = locs.Env []; mode = modes.Code; digest = None }) ∷ ops.RecordType (x ∷ bad ∷ []) ∷ ops.Record (bad ∷ []) ∷ ops.Field bad
    ∷ ops.Project (bad ∷ x ∷ []) ∷ ops.Union (typed x ∷ untyped bad ∷ []) ∷ ops.With (x ∷ bad ∷ []) ∷ [])
    ≡ false ∷ false ∷ false ∷ false ∷ false ∷ false ∷ false ∷ []
no_nodes = refl

-- any bytes may stand in a text
nodes :
    map op_spellable (ops.Text (bad ∷ codes "\t" ∷ []) ∷ ops.Nat 0 ∷ ops.Int (pos 0) ∷ ops.Import (record { loc = locs.Missing; mode = modes.Code; digest = None }) ∷ ops.RecordType [] ∷ ops.Record (x ∷ [])
    ∷ ops.Field [] ∷ ops.Project [] ∷ ops.Union (untyped x ∷ []) ∷ ops.With (x ∷ x ∷ []) ∷ [])
    ≡ true ∷ true ∷ true ∷ true ∷ true ∷ true ∷ true ∷ true ∷ true ∷ true ∷ []
nodes = refl

variables :
    map names_spellable (var x 2147483647 ∷ var [] 0 ∷ var x 2147483648 ∷ var bad 0 ∷ [])
    ≡ true ∷ true ∷ false ∷ false ∷ []
variables = refl

-- each part and each binder counts
in_parts :
    map names_spellable (app x0 x0 ∷ app (var bad 0) x0 ∷ app x0 (var bad 0) ∷ lambda x x0 x0 ∷ lambda bad x0 x0 ∷ [])
    ≡ true ∷ false ∷ false ∷ true ∷ false ∷ []
in_parts = refl
