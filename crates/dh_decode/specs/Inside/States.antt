-- The state of the program as the machine's.
use Rattle.std.specs.Prelude.{ℕ, Bool, List, [], ◌∷◌, Option, Some, None}
use Rattle.std.specs.Str.{is_utf8}
use Rattle.dh_syntax.specs.Expressions.Spellable.{is_label, is_component, is_environment, is_segment, is_host}
use Rattle.dh_syntax.specs.Expressions.Tree.{Name}
use Rattle.dh_binary.specs.Machine as machine
use Rattle.dh_binary.specs.Machine.{State, reading, done}
use Rattle.dh_binary.specs.Stubs.{Kept}
use Rattle.dh_decode.specs.Inside.Views.{value_of, place_of, frames_of}
use Rattle.dh_decode.specs.declared.places.Frame.{Frame}
use Rattle.dh_decode.specs.declared.places.Test.{Test}
use Rattle.dh_decode.specs.declared.places.Test.TheVariants as tests
use Rattle.dh_decode.specs.declared.places.Value.{Value}
use Rattle.dh_decode.specs.declared.places.Want.{Want}
use Rattle.dh_decode.specs.declared.places.Want.TheVariants as wants

-- what a test asks of a text
abbrev pub test_of : Test → List ℕ → Bool
test_of tests.Named = machine.is_named
test_of tests.Label = is_label
test_of tests.Utf8 = is_utf8
test_of tests.Component = is_component
test_of tests.Host = is_host
test_of tests.Segment = is_segment
test_of tests.Environment = is_environment

-- the labels of a projection, and the entries of a map, on top
abbrev pub labels_in : machine.Place Kept → List Name
labels_in (machine.labelled t xs) = xs
labels_in p = []

-- the entries that are there where the key of another one is read
abbrev pub keys_in : machine.Place Kept → List (machine.Entry Kept)
keys_in (machine.key nulls es) = es
keys_in p = []

-- the labels in the place of the innermost frame
abbrev pub labels_on : List (machine.Frame Kept) → List Name
labels_on [] = []
labels_on (f ∷ st) = labels_in f.place

-- the entries in the place of the innermost frame, where a key is read
abbrev pub keys_on : List (machine.Frame Kept) → List (machine.Entry Kept)
keys_on [] = []
keys_on (f ∷ st) = keys_in f.place

-- what the plain reader wants next, by what is open
abbrev pub want_of : Want → List (machine.Frame Kept) → machine.Want
want_of wants.Term st = machine.term
want_of wants.Whole st = machine.whole
want_of wants.Nullable st = machine.nullable
want_of (wants.Opening n) st = machine.opening n
want_of (wants.Spelled t) st = machine.spelled (test_of t)
want_of wants.FreshLabel st = machine.spelled (machine.fresh (labels_on st))
want_of wants.FreshKey st = machine.spelled (machine.fresh_key (keys_on st))
want_of wants.Null st = machine.null
want_of wants.Index st = machine.index
want_of wants.OperatorCode st = machine.operator_code
want_of wants.Digest st = machine.digest
want_of wants.Mode st = machine.mode
want_of (wants.Scheme n) st = machine.scheme n
want_of wants.Query st = machine.query
want_of wants.Natural st = machine.natural
want_of wants.Integer st = machine.integer
want_of wants.BigNatural st = machine.big_natural
want_of (wants.BigInteger t) st = machine.big_integer t
want_of wants.Path st = machine.path
want_of wants.Boxed st = machine.boxed
want_of (wants.Rows nulls) st = machine.rows nulls
want_of wants.None st = machine.none

-- the state of the plain reader, by what is wanted and what is open
abbrev pub state_of : Want → List Frame → State Kept
state_of w fs = reading (want_of w (frames_of fs)) (frames_of fs)

-- the state behind an item: the value of the whole, or what is read next
abbrev pub outcome_of : Option Value → Want → List Frame → State Kept
outcome_of None w fs = state_of w fs
outcome_of (Some v) w fs = done (value_of v)
