-- What reading any bytes as an expression answers: the expression, or the first item at fault.
use Rattle.std.specs.Prelude.{◌≡◌, ℕ, ◌-◌, ◌<◌, Bool, true, false, ◌⊎◌, IsTrue, List, [], ◌∷◌, ◌++◌, length, Some, Result, Ok, Err, ⊤}
use Rattle.dh_syntax.specs.declared.faults.DecodeFault.{DecodeFault}
use Rattle.dh_syntax.specs.declared.faults.DecodeFault.TheVariants as fault
use Rattle.dh_syntax.specs.Expressions.Arity.{has_some}
use Rattle.dh_syntax.specs.Bytes.BinaryHeads.{HeadFault, cut, indefinite, float, foreign_tag, too_wide, unsigned, octets, Mark, atom, tag, mark_at}
use Rattle.dh_syntax.specs.Bytes.BinaryItems.{Item, item_marks, at_start, after_marks, open_at, opens_at_most}
use Rattle.dh_syntax.specs.Bytes.BinaryRead.{expression, Begins, Reads}
use Rattle.dh_syntax.specs.Expressions.Nesting.{nesting}
use Rattle.dh_syntax.specs.Expressions.Tree.{Term}
use Rattle.dh_syntax.specs.Limits.{most_nesting, most_open_items}

-- Some item that begins with these heads is an expression, however deep it nests. Where `beyond` is set, numbers beyond
-- their ranges are taken too.
abbrev pub CanGoOn : Bool → List Mark → Type 0
CanGoOn beyond ms = (more : List Mark) × (i : Item) × (e : Term) × (item_marks i ≡ ms ++ more) × (expression beyond i ≡ Some e)

-- no item that begins with these heads is an expression, whatever the ranges of numbers
abbrev pub BeginsNone : List Mark → Type 0
BeginsNone ms = (beyond : Bool) → ¬ CanGoOn beyond ms

-- the offset of the bytes that are left
abbrev pub offset : List ℕ → List ℕ → ℕ
offset bytes after = length bytes - length after

-- these heads stand first with no fault at any of them, they are no whole item yet, and these bytes come after them
pub record Reached (bytes : List ℕ) (ms : List Mark) (after : List ℕ) : Type 0 where
  pub begins : Begins bytes ms after
  pub sound : CanGoOn false ms
  pub unfinished : IsTrue (has_some (after_marks ms at_start))
  pub within : IsTrue (opens_at_most most_open_items ms at_start)

-- the next head cannot be read
pub record HeadFails (bytes : List ℕ) (f : HeadFault) (at : ℕ) : Type 0 where
  pub ms : List Mark
  pub after : List ℕ
  pub reached : Reached bytes ms after
  pub place : at ≡ offset bytes after
  pub fails : mark_at after ≡ Err f

-- an index, or a bignum of a tag and a string
abbrev pub IsNumber : List Mark → Type 0
IsNumber (atom (unsigned n) ∷ []) = ⊤
IsNumber (tag t ∷ atom (octets bs) ∷ []) = ⊤
IsNumber _ = ⊥

-- a number stands next that is beyond its range, and would be taken but for that
pub record NumberTooWide (bytes : List ℕ) (at : ℕ) : Type 0 where
  pub ms : List Mark
  pub after : List ℕ
  pub number : List Mark
  pub rest : List ℕ
  pub reached : Reached bytes ms after
  pub place : at ≡ offset bytes after
  pub is_number : IsNumber number
  pub next : Begins after number rest
  pub fits : CanGoOn true (ms ++ number)
  pub wide : ¬ CanGoOn false (ms ++ number)

-- a head stands next that can be read, and that no expression has there
pub record FitsNowhere (bytes : List ℕ) (at : ℕ) : Type 0 where
  pub ms : List Mark
  pub after : List ℕ
  pub mark : Mark
  pub rest : List ℕ
  pub reached : Reached bytes ms after
  pub place : at ≡ offset bytes after
  pub next : Begins after (mark ∷ []) rest
  pub misfit : BeginsNone (ms ++ mark ∷ [])

-- at the next head, which is sound, too many arrays and maps stand open
pub record OpensTooMany (bytes : List ℕ) : Type 0 where
  pub ms : List Mark
  pub after : List ℕ
  pub mark : Mark
  pub rest : List ℕ
  pub reached : Reached bytes ms after
  pub next : Begins after (mark ∷ []) rest
  pub sound : CanGoOn false (ms ++ mark ∷ [])
  pub too_many : most_open_items < open_at mark (after_marks ms at_start)

-- a whole item stands first with no fault at any head, it is this expression, and these bytes come after it
pub record Whole (bytes : List ℕ) (e : Term) (after : List ℕ) : Type 0 where
  pub item : Item
  pub begins : Begins bytes (item_marks item) after
  pub is_expression : expression false item ≡ Some e
  pub within : IsTrue (opens_at_most most_open_items (item_marks item) at_start)

-- a whole expression stands first, and bytes follow it
pub record BytesLeft (bytes : List ℕ) (at : ℕ) : Type 0 where
  pub e : Term
  pub after : List ℕ
  pub whole : Whole bytes e after
  pub left : ¬ (after ≡ [])
  pub place : at ≡ offset bytes after

-- the bytes are a whole expression, which nests deeper than the limit
pub record NestsTooDeep (bytes : List ℕ) : Type 0 where
  pub e : Term
  pub whole : Whole bytes e []
  pub deep : most_nesting < nesting e

-- What reading these bytes answers. Of the heads up to the end of the item, the first one at fault counts. Where none
-- is, bytes after the item are the fault, and then an expression that nests too deep.
abbrev pub DecodesTo : List ℕ → Result Term DecodeFault → Type 0
DecodesTo bytes (Ok e) = Reads bytes e
DecodesTo bytes (Err (fault.Cut at)) = HeadFails bytes cut at
DecodesTo bytes (Err (fault.Indefinite at)) = HeadFails bytes indefinite at
DecodesTo bytes (Err (fault.Float at)) = HeadFails bytes float at
DecodesTo bytes (Err (fault.Tag at)) = HeadFails bytes foreign_tag at
DecodesTo bytes (Err (fault.Wide at)) = HeadFails bytes too_wide at ⊎ NumberTooWide bytes at
DecodesTo bytes (Err (fault.Shape at)) = FitsNowhere bytes at
DecodesTo bytes (Err (fault.Rest at)) = BytesLeft bytes at
DecodesTo bytes (Err fault.TooNested) = OpensTooMany bytes ⊎ NestsTooDeep bytes
DecodesTo bytes (Err fault.Memory) = ⊥
