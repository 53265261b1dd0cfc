-- The equations of a reader's loop: what is read of a token and the rest, by what one step of the machine does.
use Rattle.std.specs.Prelude.{◌≡◌, ℕ, suc, not, ◌||◌, true, false, List, ◌∷◌}
use Rattle.dh_syntax.specs.declared.tokens.Token.{Token}
use Rattle.dh_grammar.specs.Depths.{Within, opens_many}
use Rattle.dh_grammar.specs.Machine.{Sorts, Making, State, stopped, after, gap_at}
use Rattle.dh_grammar.specs.Reading.{refused, nested, runs_still, reading, reading_at}

-- the white space that the token needs is wanting
abbrev pub LacksGap : {K : Sorts} → Making K → Type 0
LacksGap {K} m = (s : State K) (t : Token) (ts : List Token) → (not (gap_at s t.kind) || t.gap) ≡ false → reading m s (t ∷ ts) ≡ refused t.from

-- the token cannot stand there
abbrev pub CannotStand : {K : Sorts} → Making K → Type 0
CannotStand {K} m = (s : State K) (t : Token) (ts : List Token) → after m t.kind s ≡ stopped → reading m s (t ∷ ts) ≡ refused t.from

-- it can, and opens too many expressions
abbrev pub OpensTooMany : {K : Sorts} → Making K → Type 0
OpensTooMany {K} m =
    (s : State K) (t : Token) (ts : List Token) (on : State K) → Within s → (not (gap_at s t.kind) || t.gap) ≡ true → after m t.kind s ≡ on → runs_still on ≡ true → opens_many s t.kind ≡ true
    → reading m s (t ∷ ts) ≡ nested

-- it is read, and the rest goes on from there
abbrev pub GoesOn : {K : Sorts} → Making K → Type 0
GoesOn {K} m =
    (s : State K) (t : Token) (ts : List Token) (on : State K) → Within s → (not (gap_at s t.kind) || t.gap) ≡ true → after m t.kind s ≡ on → runs_still on ≡ true → opens_many s t.kind ≡ false
    → (reading m s (t ∷ ts) ≡ reading m on ts) × Within on

-- ---- the same, where what a step makes depends on the number of the token that it reads

-- a token without the white space that it needs ends a reading with a fault at it
abbrev pub LacksGapAt : {K : Sorts} → (ℕ → Making K) → Type 0
LacksGapAt {K} m = (n : ℕ) (s : State K) (t : Token) (ts : List Token) → (not (gap_at s t.kind) || t.gap) ≡ false → reading_at m n s (t ∷ ts) ≡ refused t.from

-- a token that cannot stand where it is ends a reading with a fault at it
abbrev pub CannotStandAt : {K : Sorts} → (ℕ → Making K) → Type 0
CannotStandAt {K} m = (n : ℕ) (s : State K) (t : Token) (ts : List Token) → after (m n) t.kind s ≡ stopped → reading_at m n s (t ∷ ts) ≡ refused t.from

-- a token at which too many expressions stand open ends a reading with that fault
abbrev pub OpensTooManyAt : {K : Sorts} → (ℕ → Making K) → Type 0
OpensTooManyAt {K} m =
    (n : ℕ) (s : State K) (t : Token) (ts : List Token) (on : State K) → Within s → (not (gap_at s t.kind) || t.gap) ≡ true → after (m n) t.kind s ≡ on → runs_still on ≡ true → opens_many s t.kind ≡ true
    → reading_at m n s (t ∷ ts) ≡ nested

-- a token that can stand where it is, with its white space and few enough open, is read over
abbrev pub GoesOnAt : {K : Sorts} → (ℕ → Making K) → Type 0
GoesOnAt {K} m =
    (n : ℕ) (s : State K) (t : Token) (ts : List Token) (on : State K) → Within s → (not (gap_at s t.kind) || t.gap) ≡ true → after (m n) t.kind s ≡ on → runs_still on ≡ true → opens_many s t.kind ≡ false
    → (reading_at m n s (t ∷ ts) ≡ reading_at m (suc n) on ts) × Within on
