-- Labels and entries in their order, as the program keeps them.
use Rattle.std.specs.Prelude.{ℕ, Bool, List, [], ◌∷◌, map, Option, Some, None}
use Rattle.std.specs.Borrow.{Bor}
use Rattle.std.specs.Map.{lookup}
use Rattle.std.specs.Ordering.{is_eq}
use Rattle.std.specs.declared.cmp.Ordering.{Ordering}
use Rattle.std.specs.Cmp.Lexicographic.{slice_cmp}
use Rattle.std.specs.Ordering.{nat_cmp}
use Rattle.dh_syntax.specs.declared.expressions.Alt.{Alt}
use Rattle.dh_syntax.specs.Bytes.BinaryLeaves.{inserted}
use Rattle.dh_syntax.specs.Expressions.Tree.{Name}
use Rattle.dh_binary.specs.Machine.{Entry, is_some, or_same}
use Rattle.dh_binary.specs.Stubs.{Kept, stubs}

-- the order of labels
abbrev pub order : Bor (List ℕ) → Bor (List ℕ) → Ordering
order x y = slice_cmp nat_cmp x.now y.now

-- whether a map has a label
abbrev pub has_label : {X : Type 0} → List (Bor (List ℕ) × X) → Name → Bool
has_label es x = is_some (lookup (λ k. is_eq (slice_cmp nat_cmp x k.now)) es)

-- labels with one more, where they have not got it
abbrev pub with_name : Name → List Name → List Name
with_name x xs = or_same stubs (inserted (λ y. y) x xs) xs

-- entries with one more, where they have not got its label
abbrev pub with_entry : Name → Option Kept → List (Entry Kept) → List (Entry Kept)
with_entry x v es = or_same stubs (inserted (λ e. e.name) (record { name = x; value = v }) es) es

-- the labels of these entries
abbrev pub labels_of : List (Entry Kept) → List Name
labels_of es = map (λ e. e.name) es

-- the alternatives of a union with these entries, with a type where there is a value
abbrev pub alternatives_of : List (Entry Kept) → List Alt
alternatives_of es = map (λ e. record { label = e.name; typed = is_some e.value }) es
