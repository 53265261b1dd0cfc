-- The heads of CBOR items as they are read, in every length (RFC 7049 §2.1): the major type in the three high bits of
-- the first byte, and the number in its five low bits or in the 1, 2, 4 or 8 bytes after it, the high ones first.
use Rattle.std.specs.Prelude.{ℕ, zero, suc, ◌+◌, ◌*◌, ◌/◌, ◌%◌, ◌==◌, Bool, ◌&&◌, ◌||◌, not, nat_lt, if◌then◌else◌, List, [], ◌∷◌, length, take, drop, fold, Result, Ok, Err}

-- why no head can be read
pub data HeadFault : Type 0 where
  -- the bytes end within it
  cut : HeadFault
  -- no length is given
  indefinite : HeadFault
  -- a floating-point number
  float : HeadFault
  -- a tag other than those of the binary form
  foreign_tag : HeadFault
  -- a number of more than 64 bits
  too_wide : HeadFault

-- a head, and the bytes after it
pub record Head : Type 0 where
  pub major : ℕ
  pub value : ℕ
  pub after : List ℕ

-- the number that these bytes say, the high ones first
abbrev pub big_endian : List ℕ → ℕ
big_endian bs = fold (λ n b. 256 * n + b) 0 bs

-- a positive bignum, a negative one, and the mark of CBOR itself (RFC 7049 §2.4.2, §2.4.5)
abbrev pub is_known_tag : ℕ → Bool
is_known_tag t = t == 2 || t == 3 || t == 55799

-- a head, refused where it is a tag that the binary form does not know
abbrev pub known : Head → Result Head HeadFault
known h = if h.major == 6 && not (is_known_tag h.value) then Err foreign_tag else Ok h

-- a head whose number stands in the next bytes, of which there are so many; a float where it is a simple value of
-- more than one byte
abbrev pub long_head : ℕ → ℕ → List ℕ → Result Head HeadFault
long_head major n bs =
    if nat_lt (length bs) n then Err cut
    else if major == 7 && nat_lt 1 n then Err float
    else known (record { major = major; value = big_endian (take n bs); after = drop n bs })

-- a head by its major type and the five low bits of its first byte
abbrev pub head_by : ℕ → ℕ → List ℕ → Result Head HeadFault
head_by major low bs =
    if nat_lt low 24 then known (record { major = major; value = low; after = bs })
    else if low == 24 then long_head major 1 bs
    else if low == 25 then long_head major 2 bs
    else if low == 26 then long_head major 4 bs
    else if low == 27 then long_head major 8 bs
    else if low == 31 then Err indefinite
    else Err too_wide

-- the head at the front of the bytes
abbrev pub head_at : List ℕ → Result Head HeadFault
head_at [] = Err cut
head_at (b ∷ bs) = head_by (b / 32) (b % 32) bs

-- ---- heads with their strings

-- a head that is an item by itself: the number n, the number -1 - n, a string of bytes or of text, a simple value
pub data Atom : Type 0 where
  unsigned : ℕ → Atom
  negative : ℕ → Atom
  octets : List ℕ → Atom
  characters : List ℕ → Atom
  simple : ℕ → Atom

-- a head, with the bytes of its string
pub data Mark : Type 0 where
  atom : Atom → Mark
  -- an array of so many items, a map of so many pairs
  array : ℕ → Mark
  map : ℕ → Mark
  tag : ℕ → Mark

-- a head with its string, and the bytes after them
pub record Marked : Type 0 where
  pub mark : Mark
  pub after : List ℕ

-- this head has been read, and these bytes come after it
abbrev pub marked : Mark → List ℕ → Result Marked HeadFault
marked m after = Ok (record { mark = m; after = after })

-- a string takes as many bytes as its head says
abbrev pub string_at : (List ℕ → Atom) → Head → Result Marked HeadFault
string_at kind h = if nat_lt (length h.after) h.value then Err cut else marked (atom (kind (take h.value h.after))) (drop h.value h.after)

-- a head with its string, by its major type
abbrev pub mark_of : Head → Result Marked HeadFault
mark_of h =
    if h.major == 0 then marked (atom (unsigned h.value)) h.after
    else if h.major == 1 then marked (atom (negative h.value)) h.after
    else if h.major == 2 then string_at octets h
    else if h.major == 3 then string_at characters h
    else if h.major == 4 then marked (array h.value) h.after
    else if h.major == 5 then marked (map h.value) h.after
    else if h.major == 6 then marked (tag h.value) h.after
    else marked (atom (simple h.value)) h.after

-- the head at the front of the bytes, with its string
abbrev pub mark_by : Result Head HeadFault → Result Marked HeadFault
mark_by (Ok h) = mark_of h
mark_by (Err f) = Err f

-- the head at the front of the bytes with its string, or why none can be read
abbrev pub mark_at : List ℕ → Result Marked HeadFault
mark_at bs = mark_by (head_at bs)

-- the first heads, and the bytes after them
pub record Begun : Type 0 where
  pub marks : List Mark
  pub after : List ℕ

-- one more head before those that follow it, unless these have a fault
abbrev pub before_begun : Mark → Result Begun HeadFault → Result Begun HeadFault
before_begun m (Ok b) = Ok (record { marks = m ∷ b.marks; after = b.after })
before_begun m (Err f) = Err f

-- heads by the first one, and by those of the bytes after it
abbrev pub begun_by : Result Marked HeadFault → (List ℕ → Result Begun HeadFault) → Result Begun HeadFault
begun_by (Ok m) rest = before_begun m.mark (rest m.after)
begun_by (Err f) rest = Err f

-- so many heads from the front of the bytes
abbrev pub begun : ℕ → List ℕ → Result Begun HeadFault
begun zero bs = Ok (record { marks = []; after = bs })
begun (suc k) bs = begun_by (mark_at bs) (λ after. begun k after)
