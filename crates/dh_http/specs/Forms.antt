-- What is read of a reply, form by form, or that it is not there.
use Rattle.std.specs.Prelude.{◌≡◌, ◌≢◌, ℕ, ◌≤◌, Bool, true, false, List, ◌++◌, length, Option, Some, None, IfSome}
use Rattle.httparse.specs.Grammar.{ChunkLine, IsChunkLine, print_chunk_line, chunk_size}
use Rattle.dh_http.specs.Bodies.{most_line, HasLine, HasTrailer}
use Rattle.dh_http.specs.Reading.{Place, Took, ahead}

-- some bytes were read
abbrev pub Went : Place → Place → Type 0
Went old new = (bytes : List ℕ) × Took old new bytes

-- where the stream is known, it is so
abbrev pub WhereKnown : Place → (List ℕ → Type 0) → Type 0
WhereKnown p P = IfSome (ahead p.left p.inbox) P

-- these bytes were read, or something else is there
abbrev pub TakesBytes : Place → Place → List ℕ → Bool → Type 0
TakesBytes old new bytes true = Took old new bytes
TakesBytes old new bytes false = Went old new × WhereKnown old (λ stream. (rest : List ℕ) → stream ≢ bytes ++ rest)

-- a chunk line with this size was read, or none is there
abbrev pub TakesLine : Place → Place → Option ℕ → Type 0
TakesLine old new (Some size) =
    (l : ChunkLine) × Took old new (print_chunk_line l) × IsChunkLine l × (length (print_chunk_line l) ≤ most_line)
    × (size ≡ chunk_size l)
TakesLine old new None =
    Went old new × WhereKnown old (λ stream. (l : ChunkLine) (rest : List ℕ) → ¬ (HasLine stream l rest))

-- a trailer was read, or none is there
abbrev pub TakesTrailer : Place → Place → Bool → Type 0
TakesTrailer old new true = Went old new × WhereKnown old HasTrailer
TakesTrailer old new false = Went old new × WhereKnown old (λ stream. ¬ (HasTrailer stream))
