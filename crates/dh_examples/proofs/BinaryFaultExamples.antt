-- Worked examples of bytes that are no expression, for each fault.
use Rattle.std.specs.Prelude.{◌≡◌, ℕ, ◌^◌, pos, true, false, Bool, cond, List, [], ◌∷◌, ◌++◌, take, drop, Option, Some, None, Err, codes, refl}
use Rattle.std.proofs.Common.{subst, inl, inr, arith}
use Rattle.dh_syntax.specs.declared.expressions.Op.TheVariants as ops
use Rattle.dh_syntax.specs.declared.faults.DecodeFault.TheVariants as fault
use Rattle.dh_syntax.specs.declared.operators.BinOp.TheVariants as op
use Rattle.dh_syntax.specs.Bytes.BinaryFaults.{CanGoOn, BeginsNone, Reached, DecodesTo, offset}
use Rattle.dh_syntax.specs.Bytes.BinaryHeads.{Atom, Mark, atom, tag, unsigned, negative, octets, characters, simple}
use Rattle.dh_syntax.specs.Bytes.BinaryHeads as head
use Rattle.dh_syntax.specs.Bytes.BinaryItems.{Item, single, map_of, tagged, item_marks}
use Rattle.dh_syntax.specs.Bytes.BinaryLeaves.{unsigned_of}
use Rattle.dh_syntax.specs.Bytes.BinaryRead.{Value, row, array_by, entered, holds, part, expression, value_of, Begins}
use Rattle.dh_examples.specs.Bytes.ExampleBytes.{hex, u, minus, t, array, map}
use Rattle.dh_syntax.specs.Expressions.Tree.{Node, Term}
use Rattle.dh_examples.specs.Vocabulary.{two_parts, underscore, var, x, x0, y}
use Rattle.dh_syntax.specs.Expressions.Forms.{integer, natural, operator}
use Rattle.dh_syntax.proofs.BinaryHeadsOf.{is_atom, is_tagged_atom, is_pair, is_empty_array, is_array_of_one, is_map_of_two, is_map, is_tagged}

-- ---- heads that cannot be read

-- `1 + 2`
abbrev sum_item : Item
sum_item = array (u 3 ∷ u 4 ∷ array (u 15 ∷ u 1 ∷ []) ∷ array (u 15 ∷ u 2 ∷ []) ∷ [])

abbrev sum : Term
sum = operator op.Plus (natural 1) (natural 2)

abbrev sum_bytes : List ℕ
sum_bytes = hex "84 03 04 82 0F 01 82 0F 02"

-- so many heads of the sum can go on
sum_goes_on : (k : ℕ) → item_marks sum_item ≡ take k (item_marks sum_item) ++ drop k (item_marks sum_item) → CanGoOn false (take k (item_marks sum_item))
sum_goes_on k h = (drop k (item_marks sum_item), sum_item, sum, h, refl)

cut_at_0 : DecodesTo (take 0 sum_bytes) (Err (fault.Cut 0))
cut_at_0 = record { ms = take 0 (item_marks sum_item); after = []; reached = record { begins = refl; sound = sum_goes_on 0 refl; unfinished = refl; within = refl }; place = refl; fails = refl }

cut_at_1 : DecodesTo (take 1 sum_bytes) (Err (fault.Cut 1))
cut_at_1 = record { ms = take 1 (item_marks sum_item); after = []; reached = record { begins = refl; sound = sum_goes_on 1 refl; unfinished = refl; within = refl }; place = refl; fails = refl }

cut_at_2 : DecodesTo (take 2 sum_bytes) (Err (fault.Cut 2))
cut_at_2 = record { ms = take 2 (item_marks sum_item); after = []; reached = record { begins = refl; sound = sum_goes_on 2 refl; unfinished = refl; within = refl }; place = refl; fails = refl }

cut_at_3 : DecodesTo (take 3 sum_bytes) (Err (fault.Cut 3))
cut_at_3 = record { ms = take 3 (item_marks sum_item); after = []; reached = record { begins = refl; sound = sum_goes_on 3 refl; unfinished = refl; within = refl }; place = refl; fails = refl }

cut_at_4 : DecodesTo (take 4 sum_bytes) (Err (fault.Cut 4))
cut_at_4 = record { ms = take 4 (item_marks sum_item); after = []; reached = record { begins = refl; sound = sum_goes_on 4 refl; unfinished = refl; within = refl }; place = refl; fails = refl }

cut_at_5 : DecodesTo (take 5 sum_bytes) (Err (fault.Cut 5))
cut_at_5 = record { ms = take 5 (item_marks sum_item); after = []; reached = record { begins = refl; sound = sum_goes_on 5 refl; unfinished = refl; within = refl }; place = refl; fails = refl }

cut_at_6 : DecodesTo (take 6 sum_bytes) (Err (fault.Cut 6))
cut_at_6 = record { ms = take 6 (item_marks sum_item); after = []; reached = record { begins = refl; sound = sum_goes_on 6 refl; unfinished = refl; within = refl }; place = refl; fails = refl }

cut_at_7 : DecodesTo (take 7 sum_bytes) (Err (fault.Cut 7))
cut_at_7 = record { ms = take 7 (item_marks sum_item); after = []; reached = record { begins = refl; sound = sum_goes_on 7 refl; unfinished = refl; within = refl }; place = refl; fails = refl }

cut_at_8 : DecodesTo (take 8 sum_bytes) (Err (fault.Cut 8))
cut_at_8 = record { ms = take 8 (item_marks sum_item); after = []; reached = record { begins = refl; sound = sum_goes_on 8 refl; unfinished = refl; within = refl }; place = refl; fails = refl }

-- at the front of any bytes an expression can begin
at_front : (bytes : List ℕ) → Reached bytes [] bytes
at_front bytes = record { begins = refl; sound = (item_marks sum_item, sum_item, sum, refl, refl); unfinished = refl; within = refl }

-- a head of three bytes, of which two are there
long_head_cut : DecodesTo (hex "19 01") (Err (fault.Cut 0))
long_head_cut = record { ms = []; after = hex "19 01"; reached = at_front (hex "19 01"); place = refl; fails = refl }

-- a text of four bytes, of which three are there
string_cut : DecodesTo (hex "64 42 6F 6F") (Err (fault.Cut 0))
string_cut = record { ms = []; after = hex "64 42 6F 6F"; reached = at_front (hex "64 42 6F 6F"); place = refl; fails = refl }

long_string_cut : DecodesTo (hex "7B FF FF FF FF FF FF FF FF 42") (Err (fault.Cut 0))
long_string_cut = record { ms = []; after = hex "7B FF FF FF FF FF FF FF FF 42"; reached = at_front (hex "7B FF FF FF FF FF FF FF FF 42"); place = refl; fails = refl }

-- a float of which a byte is wanting
float_cut : DecodesTo (hex "F9 3C") (Err (fault.Cut 0))
float_cut = record { ms = []; after = hex "F9 3C"; reached = at_front (hex "F9 3C"); place = refl; fails = refl }

indefinite_array : DecodesTo (hex "9F FF") (Err (fault.Indefinite 0))
indefinite_array = record { ms = []; after = hex "9F FF"; reached = at_front (hex "9F FF"); place = refl; fails = refl }

indefinite_text : DecodesTo (hex "7F 61 78 FF") (Err (fault.Indefinite 0))
indefinite_text = record { ms = []; after = hex "7F 61 78 FF"; reached = at_front (hex "7F 61 78 FF"); place = refl; fails = refl }

indefinite_tag : DecodesTo (hex "DF") (Err (fault.Indefinite 0))
indefinite_tag = record { ms = []; after = hex "DF"; reached = at_front (hex "DF"); place = refl; fails = refl }

break : DecodesTo (hex "FF") (Err (fault.Indefinite 0))
break = record { ms = []; after = hex "FF"; reached = at_front (hex "FF"); place = refl; fails = refl }

half_float : DecodesTo (hex "F9 3C 00") (Err (fault.Float 0))
half_float = record { ms = []; after = hex "F9 3C 00"; reached = at_front (hex "F9 3C 00"); place = refl; fails = refl }

float : DecodesTo (hex "FA 3F 80 00 00") (Err (fault.Float 0))
float = record { ms = []; after = hex "FA 3F 80 00 00"; reached = at_front (hex "FA 3F 80 00 00"); place = refl; fails = refl }

double_float : DecodesTo (hex "FB 3F F0 00 00 00 00 00 00") (Err (fault.Float 0))
double_float = record { ms = []; after = hex "FB 3F F0 00 00 00 00 00 00"; reached = at_front (hex "FB 3F F0 00 00 00 00 00 00"); place = refl; fails = refl }

date_tag : DecodesTo (hex "C0 61 78") (Err (fault.Tag 0))
date_tag = record { ms = []; after = hex "C0 61 78"; reached = at_front (hex "C0 61 78"); place = refl; fails = refl }

long_tag : DecodesTo (hex "D8 18 41 00") (Err (fault.Tag 0))
long_tag = record { ms = []; after = hex "D8 18 41 00"; reached = at_front (hex "D8 18 41 00"); place = refl; fails = refl }

-- a head of more than 64 bits
wide_head : DecodesTo (hex "1C") (Err (fault.Wide 0))
wide_head = inl (record { ms = []; after = hex "1C"; reached = at_front (hex "1C"); place = refl; fails = refl })

-- ---- numbers beyond their ranges

misread : (k : Bool) (i j : Item) (e : Term) → i ≡ j → expression k i ≡ Some e → expression k j ≡ None → ⊥
misread k i j e p x0 n = let y : expression k j ≡ Some e = subst (λ z. expression k z ≡ Some e) p x0 in cc

no_such_index : ¬ CanGoOn false (atom (unsigned 2147483648) ∷ [])
no_such_index (more, i, e, h, x0) = misread false i (u 2147483648) e (is_atom (unsigned 2147483648) i more h) x0 refl

-- `_@2147483648`
wide_index : DecodesTo (hex "1A 80 00 00 00") (Err (fault.Wide 0))
wide_index = inr (record {
  ms = [];
  after = hex "1A 80 00 00 00";
  number = atom (unsigned 2147483648) ∷ [];
  rest = [];
  reached = at_front (hex "1A 80 00 00 00");
  place = refl;
  is_number = tt;
  next = refl;
  fits = ([], u 2147483648, var underscore 2147483648, refl, refl);
  wide = no_such_index;
})

-- the two heads before a number of an array of two
abbrev before_natural : List Mark
before_natural = head.array 2 ∷ atom (unsigned 15) ∷ []

abbrev before_integer : List Mark
before_integer = head.array 2 ∷ atom (unsigned 16) ∷ []

in_number : (bytes after : List ℕ) (n : ℕ) → Begins bytes (head.array 2 ∷ atom (unsigned n) ∷ []) after → CanGoOn false (head.array 2 ∷ atom (unsigned n) ∷ [])
    → Reached bytes (head.array 2 ∷ atom (unsigned n) ∷ []) after
in_number bytes after n h s = record { begins = h; sound = s; unfinished = refl; within = refl }

natural_goes_on : CanGoOn false before_natural
natural_goes_on = (atom (unsigned 0) ∷ [], array (u 15 ∷ u 0 ∷ []), natural 0, refl, refl)

integer_goes_on : CanGoOn false before_integer
integer_goes_on = (atom (unsigned 0) ∷ [], array (u 16 ∷ u 0 ∷ []), integer (pos 0), refl, refl)

-- an array of the number of a row and a bignum
bignum_in : (n t : ℕ) (bs : List ℕ) (i : Item) (more : List Mark) → item_marks i ≡ head.array 2 ∷ atom (unsigned n) ∷ tag t ∷ atom (octets bs) ∷ more → i ≡ array (u n ∷ tagged t (single (octets bs)) ∷ [])
bignum_in n t bs i more h =
    let (j, p, h₁) = is_pair (unsigned n) i (tag t ∷ atom (octets bs) ∷ more) h in
    let q = is_tagged_atom t (octets bs) j more h₁ in
    cc

-- 2 ^ 128
abbrev too_long : List ℕ
too_long = hex "01 00 00 00 00 00 00 00 00 00 00 00 00 00 00 00 00"

no_such_natural : ¬ CanGoOn false (before_natural ++ tag 2 ∷ atom (octets too_long) ∷ [])
no_such_natural (more, i, e, h, x0) = misread false i (array (u 15 ∷ tagged 2 (single (octets too_long)) ∷ [])) e (bignum_in 15 2 too_long i more h) x0 refl

wide_natural : DecodesTo (hex "82 0F C2 51 01 00 00 00 00 00 00 00 00 00 00 00 00 00 00 00 00") (Err (fault.Wide 2))
wide_natural = inr (record {
  ms = before_natural;
  after = 0xC2 ∷ 0x51 ∷ too_long;
  number = tag 2 ∷ atom (octets too_long) ∷ [];
  rest = [];
  reached = in_number (0x82 ∷ 0x0F ∷ 0xC2 ∷ 0x51 ∷ too_long) (0xC2 ∷ 0x51 ∷ too_long) 15 refl natural_goes_on;
  place = refl;
  is_number = tt;
  next = refl;
  fits = ([], array (u 15 ∷ tagged 2 (single (octets too_long)) ∷ []), natural (2 ^ 128), refl, refl);
  wide = no_such_natural;
})

-- 2 ^ 127
abbrev half : List ℕ
half = hex "80 00 00 00 00 00 00 00 00 00 00 00 00 00 00 00"

no_such_integer : ¬ CanGoOn false (before_integer ++ tag 2 ∷ atom (octets half) ∷ [])
no_such_integer (more, i, e, h, x0) = misread false i (array (u 16 ∷ tagged 2 (single (octets half)) ∷ [])) e (bignum_in 16 2 half i more h) x0 refl

wide_integer : DecodesTo (hex "82 10 C2 50 80 00 00 00 00 00 00 00 00 00 00 00 00 00 00 00") (Err (fault.Wide 2))
wide_integer = inr (record {
  ms = before_integer;
  after = 0xC2 ∷ 0x50 ∷ half;
  number = tag 2 ∷ atom (octets half) ∷ [];
  rest = [];
  reached = in_number (0x82 ∷ 0x10 ∷ 0xC2 ∷ 0x50 ∷ half) (0xC2 ∷ 0x50 ∷ half) 16 refl integer_goes_on;
  place = refl;
  is_number = tt;
  next = refl;
  fits = ([], array (u 16 ∷ tagged 2 (single (octets half)) ∷ []), integer (pos (2 ^ 127)), refl, refl);
  wide = no_such_integer;
})

-- ---- heads that fit nowhere

-- at the first head
nothing_begins : (bytes rest : List ℕ) (m : Mark) → Begins bytes (m ∷ []) rest → BeginsNone (m ∷ []) → DecodesTo bytes (Err (fault.Shape 0))
nothing_begins bytes rest m h n = record { ms = []; after = bytes; mark = m; rest = rest; reached = at_front bytes; place = omega arith; next = h; misfit = n }

-- `undefined`
undefined : DecodesTo (hex "F7") (Err (fault.Shape 0))
undefined = nothing_begins (hex "F7") [] (atom (simple 23)) refl (λ k (more, i, e, h, x0). misread k i (single (simple 23)) e (is_atom (simple 23) i more h) x0 refl)

-- a name that is no built-in
no_builtin : DecodesTo (hex "61 78") (Err (fault.Shape 0))
no_builtin = nothing_begins (hex "61 78") [] (atom (characters x)) refl (λ k (more, i, e, h, x0). misread k i (t "x") e (is_atom (characters x) i more h) x0 refl)

-- a number below zero
below_zero : DecodesTo (hex "20") (Err (fault.Shape 0))
below_zero = nothing_begins (hex "20") [] (atom (negative 0)) refl (λ k (more, i, e, h, x0). misread k i (minus 0) e (is_atom (negative 0) i more h) x0 refl)

-- a map
no_map : DecodesTo (hex "A0") (Err (fault.Shape 0))
no_map = nothing_begins (hex "A0") [] (head.map 0) refl (λ k (more, i, e, h, x0). let (ps, p) = is_map 0 i more h in misread k i (map_of ps) e p x0 refl)

-- a bignum that stands for no number of a row
lone_bignum : DecodesTo (hex "C2 41 01") (Err (fault.Shape 0))
lone_bignum = nothing_begins (hex "C2 41 01") (hex "41 01") (tag 2) refl (λ k (more, i, e, h, x0). let (j, p) = is_tagged 2 i more h in misread k i (tagged 2 j) e p x0 refl)

-- an array without items
no_array : DecodesTo (hex "80") (Err (fault.Shape 0))
no_array = nothing_begins (hex "80") [] (head.array 0) refl (λ k (more, i, e, h, x0). misread k i (array []) e (is_empty_array i more h) x0 refl)

-- an array of one item
same : {A : Type 0} (c : Bool) (x0 : A) → cond c x0 x0 ≡ x0
same true x0 = refl
same false x0 = refl

row_of_nothing : (k : Bool) (n : ℕ) → row k n [] ≡ None
row_of_nothing k n = simp same

by_number : (k : Bool) (o : Option ℕ) (j : Item) → array_by k o j [] ≡ None
by_number k (Some n) j = row_of_nothing k n
by_number k None j = refl

array_of_one : DecodesTo (hex "81") (Err (fault.Shape 0))
array_of_one = nothing_begins (hex "81") [] (head.array 1) refl
    (λ k (more, i, e, h, x0). let (j, p) = is_array_of_one i more h in misread k i (array (j ∷ [])) e p x0 (by_number k (unsigned_of (part k j).item) (part k j).item))

-- ---- at a later head

-- in an array of two items, behind these heads
misfit : (bytes after rest : List ℕ) (ms : List Mark) (m : Mark) (at : ℕ) → Reached bytes ms after → at ≡ offset bytes after → Begins after (m ∷ []) rest → BeginsNone (ms ++ m ∷ []) → DecodesTo bytes (Err (fault.Shape at))
misfit bytes after rest ms m at r p h n = record { ms = ms; after = after; mark = m; rest = rest; reached = r; place = p; next = h; misfit = n }

pair_goes_on : CanGoOn false (head.array 2 ∷ [])
pair_goes_on = (atom (unsigned 15) ∷ atom (unsigned 0) ∷ [], array (u 15 ∷ u 0 ∷ []), natural 0, refl, refl)

in_pair : (after : List ℕ) → Reached (0x82 ∷ after) (head.array 2 ∷ []) after
in_pair after = record { begins = refl; sound = pair_goes_on; unfinished = refl; within = refl }

-- an array of two items that begins with this one
no_pair_with : (a : Atom) → ((k : Bool) (j : Item) → expression k (array (single a ∷ j ∷ [])) ≡ None) → BeginsNone (head.array 2 ∷ atom a ∷ [])
no_pair_with a n k (more, i, e, h, x0) = let (j, p, h₁) = is_pair a i more h in misread k i (array (single a ∷ j ∷ [])) e p x0 (n k j)

-- a number that no row has
no_row : DecodesTo (hex "82 0C 00") (Err (fault.Shape 1))
no_row = misfit (hex "82 0C 00") (hex "0C 00") (hex "00") (head.array 2 ∷ []) (atom (unsigned 12)) 1 (in_pair (hex "0C 00")) refl refl (no_pair_with (unsigned 12) (λ k j. refl))

no_wide_row : DecodesTo (hex "82 1A FF FF FF FF 00") (Err (fault.Shape 1))
no_wide_row =
    misfit (hex "82 1A FF FF FF FF 00") (hex "1A FF FF FF FF 00") (hex "00") (head.array 2 ∷ []) (atom (unsigned 0xFFFF_FFFF)) 1 (in_pair (hex "1A FF FF FF FF 00")) refl refl
    (no_pair_with (unsigned 0xFFFF_FFFF) (λ k j. refl))

-- a row of three items
no_row_of_two : DecodesTo (hex "82 05 F6") (Err (fault.Shape 1))
no_row_of_two = misfit (hex "82 05 F6") (hex "05 F6") (hex "F6") (head.array 2 ∷ []) (atom (unsigned 5)) 1 (in_pair (hex "05 F6")) refl refl (no_pair_with (unsigned 5) (λ k j. refl))

-- `["_", 0]`
written_underscore : DecodesTo (hex "82 61 5F 00") (Err (fault.Shape 1))
written_underscore =
    misfit (hex "82 61 5F 00") (hex "61 5F 00") (hex "00") (head.array 2 ∷ []) (atom (characters underscore)) 1 (in_pair (hex "61 5F 00")) refl refl
    (no_pair_with (characters underscore) (λ k j. refl))

-- a label with a backtick
no_label : DecodesTo (hex "82 61 60 00") (Err (fault.Shape 1))
no_label =
    misfit (hex "82 61 60 00") (hex "61 60 00") (hex "00") (head.array 2 ∷ []) (atom (characters (codes "`"))) 1 (in_pair (hex "61 60 00")) refl refl
    (no_pair_with (characters (codes "`")) (λ k j. refl))

-- `[15, -1]`
no_negative_natural : DecodesTo (hex "82 0F 20") (Err (fault.Shape 2))
no_negative_natural =
    misfit (hex "82 0F 20") (hex "20") [] before_natural (atom (negative 0)) 2 (in_number (hex "82 0F 20") (hex "20") 15 refl natural_goes_on) refl refl
    (λ k (more, i, e, h, x0). let (j, p, h₁) = is_pair (unsigned 15) i (atom (negative 0) ∷ more) h in let q = is_atom (negative 0) j more h₁ in misread k i (array (u 15 ∷ minus 0 ∷ [])) e (cc) x0 refl)

-- a bignum in range with more than 16 bytes
abbrev padded : List ℕ
padded = hex "00 00 00 00 00 00 00 00 00 00 00 00 00 00 00 00 01"

long_bignum : DecodesTo (0x82 ∷ 0x0F ∷ 0xC2 ∷ 0x51 ∷ padded) (Err (fault.Shape 3))
long_bignum =
    misfit (0x82 ∷ 0x0F ∷ 0xC2 ∷ 0x51 ∷ padded) (0x51 ∷ padded) [] (before_natural ++ tag 2 ∷ []) (atom (octets padded)) 3
    (record { begins = refl; sound = (atom (octets []) ∷ [], array (u 15 ∷ tagged 2 (single (octets [])) ∷ []), natural 0, refl, refl); unfinished = refl; within = refl }) refl refl
    (λ k (more, i, e, h, x0). misread k i (array (u 15 ∷ tagged 2 (single (octets padded)) ∷ [])) e (bignum_in 15 2 padded i more h) x0 refl)

-- the tag of CBOR within an expression
inner_tag : DecodesTo (hex "82 0F D9 D9 F7 01") (Err (fault.Shape 2))
inner_tag =
    misfit (hex "82 0F D9 D9 F7 01") (hex "D9 D9 F7 01") (hex "01") before_natural (tag 55799) 2 (in_number (hex "82 0F D9 D9 F7 01") (hex "D9 D9 F7 01") 15 refl natural_goes_on) refl refl
    (λ k (more, i, e, h, x0). let (j, p, h₁) = is_pair (unsigned 15) i (tag 55799 ∷ more) h in let (l, q) = is_tagged 55799 j more h₁ in misread k i (array (u 15 ∷ tagged 55799 l ∷ [])) e (cc) x0 refl)

-- a label that stands in a record twice
abbrev record_start : List Mark
record_start = head.array 2 ∷ atom (unsigned 8) ∷ head.map 2 ∷ atom (characters x) ∷ atom (unsigned 1) ∷ []

record_goes_on : CanGoOn false record_start
record_goes_on = (atom (characters y) ∷ atom (unsigned 0) ∷ [], array (u 8 ∷ map (t "x" ∷ u 1 ∷ t "y" ∷ u 0 ∷ []) ∷ []), Node (ops.Record (x ∷ y ∷ [])) (two_parts (var underscore 1) (var underscore 0)), refl, refl)

abbrev repeated : Item → Item
repeated v = array (u 8 ∷ map (t "x" ∷ u 1 ∷ t "x" ∷ v ∷ []) ∷ [])

by_value : (o : Option Value) → entered (Some x) (Some (holds (var underscore 1))) (entered (Some x) o (Some [])) ≡ None
by_value None = refl
by_value (Some v) = refl

repeated_no_record : (k : Bool) (v : Item) → expression k (repeated v) ≡ None
repeated_no_record k v = rw (by_value (value_of v (part k v).term))

not_repeated : (k : Bool) (more : List Mark) (i : Item) (e : Term) → item_marks i ≡ record_start ++ atom (characters x) ∷ more → expression k i ≡ Some e → ⊥
not_repeated k more i e h x0 =
    let (j, p, h₁) = is_pair (unsigned 8) i (head.map 2 ∷ atom (characters x) ∷ atom (unsigned 1) ∷ atom (characters x) ∷ more) h in
    let (v, q) = is_map_of_two (characters x) (unsigned 1) (characters x) j more h₁ in
    misread k i (repeated v) e (cc) x0 (repeated_no_record k v)

repeated_label : DecodesTo (hex "82 08 A2 61 78 01 61 78") (Err (fault.Shape 6))
repeated_label =
    misfit (hex "82 08 A2 61 78 01 61 78") (hex "61 78") [] record_start (atom (characters x)) 6 (record { begins = refl; sound = record_goes_on; unfinished = refl; within = refl }) refl refl
    (λ k (more, i, e, h, x0). not_repeated k more i e h x0)

-- ---- bytes left

byte_left : DecodesTo (sum_bytes ++ 0 ∷ []) (Err (fault.Rest 9))
byte_left = record { e = sum; after = 0 ∷ []; whole = record { item = sum_item; begins = refl; is_expression = refl; within = refl }; left = λ h. cc; place = refl }
