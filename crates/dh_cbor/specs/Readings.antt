-- What the program reads at an offset, as what the definitions read at the front of the bytes from there on.
use Rattle.std.specs.Prelude.{◌≡◌, ℕ, List, drop, Result, Ok, Err}
use Rattle.dh_cbor.specs.declared.faults.CborFault.{CborFault}
use Rattle.dh_cbor.specs.declared.faults.CborFault.TheVariants as faults
use Rattle.dh_cbor.specs.declared.heads.Head as program
use Rattle.dh_cbor.specs.declared.marks.Atom as program_atoms
use Rattle.dh_cbor.specs.declared.marks.Atom.TheVariants as atoms
use Rattle.dh_cbor.specs.declared.marks.Mark as program_marks
use Rattle.dh_cbor.specs.declared.marks.Mark.TheVariants as marks
use Rattle.dh_cbor.specs.declared.marks.Marked as program_marked
use Rattle.dh_syntax.specs.Bytes.BinaryHeads.{HeadFault, cut, indefinite, float, foreign_tag, too_wide, Head, head_at, Atom, unsigned, negative, octets, characters, simple, Mark, atom, array, map, tag, Marked, mark_at}

-- why a head cannot be read
abbrev pub reason : CborFault → HeadFault
reason (faults.Cut at) = cut
reason (faults.Indefinite at) = indefinite
reason (faults.Float at) = float
reason (faults.Tag at) = foreign_tag
reason (faults.Wide at) = too_wide

-- where it would begin
abbrev pub place : CborFault → ℕ
place (faults.Cut at) = at
place (faults.Indefinite at) = at
place (faults.Float at) = at
place (faults.Tag at) = at
place (faults.Wide at) = at

-- the head of these bytes that the program gives
abbrev pub the_head : List ℕ → program.Head → Head
the_head bytes h = record { major = h.major; value = h.value; after = drop h.next bytes }

-- what the definition gives for the bytes from this offset on, and what the program gives
abbrev pub GivesHead : List ℕ → ℕ → Result Head HeadFault → Result program.Head CborFault → Type 0
GivesHead bytes at r (Ok h) = r ≡ Ok (the_head bytes h)
GivesHead bytes at r (Err f) = (r ≡ Err (reason f)) × (place f ≡ at)

-- the head at this offset, or why there is none
abbrev pub ReadsHead : List ℕ → ℕ → Result program.Head CborFault → Type 0
ReadsHead bytes at r = GivesHead bytes at (head_at (drop at bytes)) r

-- an item without parts that the program gives, as the definitions have it
abbrev pub the_atom : program_atoms.Atom → Atom
the_atom (atoms.Unsigned n) = unsigned n
the_atom (atoms.Negative n) = negative n
the_atom (atoms.Octets bs) = octets bs.now
the_atom (atoms.Characters bs) = characters bs.now
the_atom (atoms.Simple n) = simple n

-- the head with its string that the program gives
abbrev pub the_mark : program_marks.Mark → Mark
the_mark (marks.Atom a) = atom (the_atom a)
the_mark (marks.Array n) = array n
the_mark (marks.Map n) = map n
the_mark (marks.Tag t) = tag t

-- a head that the program gives, with the bytes that are behind it
abbrev pub the_marked : List ℕ → program_marked.Marked → Marked
the_marked bytes m = record { mark = the_mark m.mark; after = drop m.next bytes }

-- the head, or its fault at this offset, that the program gives is what the definitions read
abbrev pub GivesMark : List ℕ → ℕ → Result Marked HeadFault → Result program_marked.Marked CborFault → Type 0
GivesMark bytes at r (Ok m) = r ≡ Ok (the_marked bytes m)
GivesMark bytes at r (Err f) = (r ≡ Err (reason f)) × (place f ≡ at)

-- the head at this offset with its string, or why there is none
abbrev pub ReadsMark : List ℕ → ℕ → Result program_marked.Marked CborFault → Type 0
ReadsMark bytes at r = GivesMark bytes at (mark_at (drop at bytes)) r
