-- What the parts, places and frames of the program stand for.
use Rattle.std.specs.Prelude.{ℕ, Box, List, [], ◌∷◌, map, Option, Some, None, option_map}
use Rattle.std.specs.Borrow.{Bor}
use Rattle.std.specs.declared.alloc.Global.{Global}
use Rattle.std.specs.BTreeMap.{BTreeMap}
use Rattle.dh_syntax.specs.Expressions.Bridge.{term}
use Rattle.dh_syntax.specs.Expressions.Tree.{Name}
use Rattle.dh_binary.specs.Machine as machine
use Rattle.dh_binary.specs.Stubs.{Kept}
use Rattle.dh_syntax.specs.declared.locations.Digest.{Digest}
use Rattle.dh_decode.specs.Inside.Forms.{op_of}
use Rattle.dh_decode.specs.declared.parts.Part.{Part}
use Rattle.dh_decode.specs.declared.places.Binding.{Binding}
use Rattle.dh_decode.specs.declared.places.Frame.{Frame}
use Rattle.dh_decode.specs.declared.places.OpenItem.{OpenItem}
use Rattle.dh_decode.specs.declared.places.OpenItem.TheVariants as places
use Rattle.dh_decode.specs.declared.places.RowKind.{RowKind}
use Rattle.dh_decode.specs.declared.places.RowKind.TheVariants as kinds
use Rattle.dh_decode.specs.declared.places.Start.{Start}
use Rattle.dh_decode.specs.declared.places.Value.{Value}
use Rattle.dh_decode.specs.declared.places.Value.TheVariants as values

-- an expression that was read, as the plain reader keeps it
abbrev pub part_of : Part → Kept
part_of p = record { expression = term p.held.value.expression; nests = p.held.value.nests }

-- a text that the program holds
abbrev pub Text : Type 0
Text = Bor (List ℕ)

-- a label and its value, as the plain reader keeps them
abbrev pub entry_of : Text × Option Part → machine.Entry Kept
entry_of e = record { name = e.0.now; value = option_map part_of e.1 }

-- labels and their values, as the plain reader keeps them
abbrev pub entries_of : List (Text × Option Part) → List (machine.Entry Kept)
entries_of es = map entry_of es

-- the labels of entries without values
abbrev pub names_of : List (Text × Unit {0}) → List Name
names_of es = map (λ e. e.0.now) es

-- the digest in its box, if there is one
abbrev pub digest_of : Option (Box Digest Global) → Option Digest
digest_of d = option_map (λ b. b.value) d

-- what was read last, as the plain reader keeps it
abbrev pub value_of : Value → machine.Value Kept
value_of values.Nothing = machine.nothing
value_of (values.Holds p) = machine.holds (part_of p)
value_of (values.Called x) = machine.called x.now
value_of (values.Counted n) = machine.counted n
value_of (values.Indexed n) = machine.indexed n
value_of (values.Signed z) = machine.signed z
value_of (values.Coded n k) = machine.coded n k
value_of (values.By o) = machine.by o
value_of (values.Hashed d) = machine.hashed (digest_of d)
value_of (values.Taken how) = machine.taken how
value_of (values.Queried q) = machine.queried (option_map (λ x. x.now) q)
value_of (values.Path ks) = machine.names ks
value_of (values.Entries m) = machine.entries (entries_of m.entries)

-- a `let` binding, as the plain reader keeps it
abbrev pub binding_of : Binding → machine.Binding Kept
binding_of b = record { name = b.name.now; type = option_map part_of b.annotation; value = part_of b.value }

-- the digest and the mode with which an import starts, as the plain reader keeps them
abbrev pub start_of : Start → machine.Start
start_of s = record { digest = digest_of s.digest; mode = s.mode }

-- what a row is of, as the plain reader says it: types, values or alternatives
abbrev pub kind_of : RowKind → machine.RowKind
kind_of kinds.Types = machine.types
kind_of kinds.Values = machine.values
kind_of kinds.Alternatives = machine.alternatives

-- a place in an open item, as the plain reader keeps it
abbrev pub place_of : OpenItem → machine.Place Kept
place_of places.First = machine.first
place_of (places.Finished t) = machine.finished (part_of t)
place_of (places.Applying f) = machine.applying (option_map part_of f)
place_of (places.Operands f es) = machine.operands (op_of f) (map part_of es)
place_of (places.Binder f) = machine.binder (op_of f)
place_of (places.Quantify f x a) = machine.quantify (op_of f) x.now (option_map part_of a)
place_of places.Operating = machine.operating
place_of places.Emptied = machine.emptied
place_of (places.Skipping f) = machine.skipping (op_of f)
place_of (places.Rowing k) = machine.rowing (kind_of k)
place_of places.Selecting = machine.selecting
place_of (places.Selected t) = machine.selected (part_of t)
place_of places.Projecting = machine.projecting
place_of (places.Projected t) = machine.projected (part_of t)
place_of (places.Labelled t m) = machine.labelled (part_of t) (names_of m.entries)
place_of places.Numeral = machine.numeral
place_of places.SignedNumeral = machine.signed_numeral
place_of (places.Piece ps es) = machine.piece ps (map part_of es)
place_of (places.Between ps es) = machine.between ps (map part_of es)
place_of places.Importing = machine.importing
place_of (places.Moding d) = machine.moding (digest_of d)
place_of (places.Locating h) = machine.locating (start_of h)
place_of (places.Components h k cs) = machine.components (start_of h) k cs
place_of (places.Headers h s) = machine.headers (start_of h) s
place_of (places.Hosting h s) = machine.hosting (start_of h) s
place_of (places.Segments h s host cs) = machine.segments (start_of h) s host.now cs
place_of (places.Environment h) = machine.environment (start_of h)
place_of (places.LetName bs) = machine.let_name (map binding_of bs)
place_of (places.LetType bs x) = machine.let_type (map binding_of bs) x.now
place_of (places.LetValue bs x t) = machine.let_value (map binding_of bs) x.now (option_map part_of t)
place_of places.Updating = machine.updating
place_of (places.UpdatePath e) = machine.update_path (part_of e)
place_of (places.UpdateValue e ks) = machine.update_value (part_of e) ks
place_of (places.Indexing x) = machine.indexing x.now
place_of (places.Labels ks) = machine.labels ks
place_of places.Boxing = machine.boxing
place_of (places.Key nulls m) = machine.key nulls (entries_of m.entries)
place_of (places.Value nulls m x) = machine.value nulls (entries_of m.entries) x.now

-- an open item, as the plain reader keeps it
abbrev pub frame_of : Frame → machine.Frame Kept
frame_of f = record { place = place_of f.place; left = f.left }

-- the open items, as the plain reader keeps them
abbrev pub frames_of : List Frame → List (machine.Frame Kept)
frames_of [] = []
frames_of (f ∷ fs) = frame_of f ∷ frames_of fs
