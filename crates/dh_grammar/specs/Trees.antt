-- The machine over derivation trees.
use Rattle.std.specs.Prelude.{ℕ, Bool, true, false, List, Option, Some, None}
use Rattle.dh_syntax.specs.declared.locations.Digest.{Digest}
use Rattle.dh_syntax.specs.declared.operators.BinOp.{BinOp}
use Rattle.dh_syntax.specs.declared.tokens.TokenKind.{TokenKind}
use Rattle.dh_syntax.specs.Text.Derivation.{NameToken, Key, Keys, Derivation, lambda, pi, arrow, choice, lets, updates, merge_as, to_map_as, empty_list, assertion, annotation, operation, application, merging, some_of, to_map, import, field, project_none, project, project_by, natural, integer, truth, builtin, variable, text, brackets, list, union_none, union, record_type_none, record_type, record_none, record_of, Note, untyped, typed, Lets, one_let, more_lets, one_update, more_updates, Chunks, start, more_chunks, Items, one_item, more_items, Alternatives, one_alternative, more_alternatives, Fields, one_field, more_fields, Entry, alone, given, Entries, one_entry, more_entries}
use Rattle.dh_syntax.specs.Text.Derived.{binds, field_labels, alternative_labels}
use Rattle.dh_syntax.specs.Text.Yield.{Written}
use Rattle.dh_grammar.specs.Machine as machine
use Rattle.dh_grammar.specs.Making.{Sorts, Making}

-- derivation trees and their parts
abbrev pub tree_sorts : Sorts
tree_sorts = record { tree = Derivation; note = Note; lets = Lets; chunks = Chunks; items = Items; alternatives = Alternatives; fields = Fields; entry = Entry; entries = Entries }

-- an open frame over derivation trees
abbrev pub Open : Type 0
Open = machine.Open tree_sorts

-- what stands before the next piece of a text, over derivation trees
abbrev pub Front : Type 0
Front = machine.Front tree_sorts

-- a frame over derivation trees that a token ends
abbrev pub Shut : Type 0
Shut = machine.Shut tree_sorts

-- a frame over derivation trees
abbrev pub Frame : Type 0
Frame = machine.Frame tree_sorts

-- an operand over derivation trees that may go on
abbrev pub Held : Type 0
Held = machine.Held tree_sorts

-- an awaited token of a production over derivation trees
abbrev pub Wait : Type 0
Wait = machine.Wait tree_sorts

-- a stack of frames over derivation trees
abbrev pub Stack : Type 0
Stack = machine.Stack tree_sorts

-- a state of the machine over derivation trees
abbrev pub State : Type 0
State = machine.State tree_sorts

-- the tree of a function, or of a function type
abbrev pub quantify : Bool → NameToken → Derivation → Derivation → Derivation
quantify true w a b = lambda w a b
quantify false w a b = pi w a b

-- one more update by `with`
abbrev pub updating : Derivation → Keys → Derivation → Derivation
updating (updates us) ks v = updates (more_updates us ks v)
updating x ks v = updates (one_update x ks v)

-- the tree of an annotation, which `merge` and `toMap` take as their own
abbrev pub noting : Derivation → Derivation → Derivation
noting (merging t u) a = merge_as t u a
noting (to_map t) a = to_map_as t a
noting t a = annotation t a

-- one more binding behind those so far
abbrev pub add_let : Option Lets → NameToken → Note → Derivation → Lets
add_let None w a v = one_let w a v
add_let (Some ls) w a v = more_lets ls w a v

-- one more item behind those so far
abbrev pub add_item : Option Items → Derivation → Items
add_item None x = one_item x
add_item (Some is) x = more_items is x

-- one more alternative behind those so far
abbrev pub add_alternative : Option Alternatives → Key → Note → Alternatives
add_alternative None k a = one_alternative k a
add_alternative (Some as') k a = more_alternatives as' k a

-- one more field behind those so far
abbrev pub add_field : Option Fields → Key → Derivation → Fields
add_field None k a = one_field k a
add_field (Some fs) k a = more_fields fs k a

-- one more entry behind those so far
abbrev pub add_entry : Option Entries → Entry → Entries
add_entry None e = one_entry e
add_entry (Some es) e = more_entries es e

-- the making of derivation trees
abbrev pub trees : Making tree_sorts
trees = record {
  binds = binds;
  field_labels = field_labels;
  alternative_labels = alternative_labels;
  natural = natural;
  integer = integer;
  truth = truth;
  builtin = builtin;
  variable = variable;
  import = import;
  operation = operation;
  application = application;
  merging = merging;
  some_of = some_of;
  to_map = to_map;
  updating = updating;
  quantify = quantify;
  arrow = arrow;
  choice = choice;
  lets = lets;
  noting = noting;
  empty_list = empty_list;
  assertion = assertion;
  brackets = brackets;
  field = field;
  project_none = project_none;
  project = project;
  project_by = project_by;
  text = text;
  list = list;
  union_none = union_none;
  union = union;
  record_type_none = record_type_none;
  record_type = record_type;
  record_none = record_none;
  record_of = record_of;
  untyped = untyped;
  typed = typed;
  add_let = add_let;
  start = start;
  more_chunks = more_chunks;
  add_item = add_item;
  add_alternative = add_alternative;
  add_field = add_field;
  alone = alone;
  given = given;
  add_entry = add_entry;
}

-- the tree of an open frame, with what was read in its place
abbrev pub build : Open → Derivation → Derivation
build = machine.build trees

-- the tree of an operand that is held
abbrev pub finish : Held → Derivation
finish = machine.finish trees

-- the pieces of a text up to this one, or up to an end without one
abbrev pub sealed : Front → Option (List ℕ) → Chunks
sealed = machine.sealed trees

-- the operand joined with the open frames above the topmost shut one that bind at least as tightly as k
abbrev pub join : ℕ → Stack → Derivation → State
join = machine.join trees

-- a state whose operand is joined with the open frames that bind at least as tightly as k
abbrev pub joined : ℕ → State → State
joined = machine.joined trees

-- `]` where an item may stand
abbrev pub no_item : Stack → State
no_item = machine.no_item trees

-- `,` where an item may stand
abbrev pub item_comma : Stack → State
item_comma = machine.item_comma trees

-- a token where an operand or an expression begins
abbrev pub begin : TokenKind → Stack → State
begin = machine.begin trees

-- an operator, `.`, `→`, `:` and `with` behind an operand
abbrev pub operate : BinOp → State → State
operate = machine.operate trees

-- `.` behind an operand
abbrev pub select : State → State
select = machine.select trees

-- `→` behind an operand
abbrev pub point : State → State
point = machine.point trees

-- `:` behind an operand
abbrev pub annotate : State → State
annotate = machine.annotate trees

-- `with` behind a tree
abbrev pub start_update : Stack → Derivation → State
start_update = machine.start_update trees

-- `with` behind an operand
abbrev pub renew : State → State
renew = machine.renew trees

-- the token of an argument, or of the second operand of `merge`
abbrev pub argue_on : TokenKind → Stack → Derivation → State
argue_on = machine.argue_on trees

-- the token of an argument behind an operand
abbrev pub argue : TokenKind → State → State
argue = machine.argue trees

-- a token that ends the place of a frame
abbrev pub closed : TokenKind → Shut → Derivation → Stack → State
closed = machine.closed trees

-- a token behind a tree that ends the place of the topmost frame
abbrev pub close_on : TokenKind → Stack → Derivation → State
close_on = machine.close_on trees

-- a token behind an operand that ends the place of the topmost frame
abbrev pub close : TokenKind → State → State
close = machine.close trees

-- `@`, a digest and `as`
abbrev pub index_on : Stack → Held → State
index_on = machine.index_on trees

-- a digest behind an import
abbrev pub digest_on : Digest → Stack → Held → State
digest_on = machine.digest_on trees

-- `as` behind an import
abbrev pub mode_on : Stack → Held → State
mode_on = machine.mode_on trees

-- a token behind an operand
abbrev pub extend : TokenKind → Stack → Held → State
extend = machine.extend trees

-- the end of an entry that is a label alone, and of the first key of a record that is a field's
abbrev pub lone : Option (Entries) → Keys → (Entries → State) → State
lone = machine.lone trees

-- a token within a production
abbrev pub waited : Wait → TokenKind → Stack → State
waited = machine.waited trees

-- the state of the machine over derivation trees after one more token
abbrev pub after : TokenKind → State → State
after = machine.after trees

-- how tightly the tree of an open frame binds, and how tightly its place asks
abbrev pub level : Open → ℕ
level = machine.level {K = tree_sorts}

-- the least level of a tree in the place of an open frame
abbrev pub asks : Open → ℕ
asks = machine.asks {K = tree_sorts}

-- the least level of a tree in a place that a token ends
abbrev pub shut_asks : Shut → ℕ
shut_asks = machine.shut_asks {K = tree_sorts}

-- how tightly the tree binds whose place a token ends
abbrev pub shut_level : Shut → ℕ
shut_level = machine.shut_level {K = tree_sorts}

-- the least level that may stand on a stack
abbrev pub least : Stack → ℕ
least = machine.least {K = tree_sorts}

-- whether white space is needed before the place of an open frame
abbrev pub open_gap : Open → Bool
open_gap = machine.open_gap {K = tree_sorts}

-- whether white space is needed before a place that a token ends
abbrev pub shut_gap : Shut → Bool
shut_gap = machine.shut_gap {K = tree_sorts}

-- whether white space is needed where an operand begins on a stack
abbrev pub gap_on : Stack → Bool
gap_on = machine.gap_on {K = tree_sorts}

-- how many productions `expr` stand open in the place of a frame where n stand open outside
abbrev pub open_depth : Open → ℕ → ℕ
open_depth = machine.open_depth {K = tree_sorts}

-- how many productions `expr` stand open in a place that a token ends, where n stand open outside
abbrev pub shut_depth : Shut → ℕ → ℕ
shut_depth = machine.shut_depth {K = tree_sorts}

-- how many productions `expr` stand open in the topmost place of a stack
abbrev pub depth_on : Stack → ℕ
depth_on = machine.depth_on {K = tree_sorts}

-- the same at the token that ends the topmost place which a token ends
abbrev pub depth_out : Stack → ℕ
depth_out = machine.depth_out {K = tree_sorts}

-- go on with a name, or stop where there is none
abbrev pub with_name : (NameToken → State) → Option NameToken → State
with_name = machine.with_name {K = tree_sorts}

-- go on with a key, or stop where there is none
abbrev pub with_key : (Key → State) → Option Key → State
with_key = machine.with_key {K = tree_sorts}

-- where a tree of this level may stand
abbrev pub fits : ℕ → Stack → State → State
fits = machine.fits {K = tree_sorts}

-- where a whole expression may stand
abbrev pub expression : Stack → State → State
expression = machine.expression {K = tree_sorts}

-- a key that is repeated is refused
abbrev pub unless : Bool → State → State
unless = machine.unless {K = tree_sorts}

-- a record type can begin only where no entry came before and one key stands alone
abbrev pub first_field : Option (Entries) → Keys → (Key → State) → State
first_field = machine.first_field {K = tree_sorts}

-- whether white space is needed before the token that is awaited
abbrev pub wait_gap : Wait → Bool
wait_gap = machine.wait_gap {K = tree_sorts}

-- whether white space is needed before this token in a state
abbrev pub gap_at : State → TokenKind → Bool
gap_at = machine.gap_at {K = tree_sorts}

-- how many expressions stand open at a token where an operand may begin
abbrev pub begin_depth : TokenKind → Stack → ℕ
begin_depth = machine.begin_depth {K = tree_sorts}

-- how many expressions stand open at a token behind an operand
abbrev pub extend_depth : TokenKind → Stack → ℕ
extend_depth = machine.extend_depth {K = tree_sorts}

-- how many expressions stand open at this token in a state
abbrev pub depth_at : State → TokenKind → ℕ
depth_at = machine.depth_at {K = tree_sorts}

-- a token with its depth and the gap that it needs in a state
abbrev pub written : State → TokenKind → Written
written = machine.written {K = tree_sorts}
