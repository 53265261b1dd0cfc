-- The body of a reply (RFC 9112, sections 6 and 7.1).
use Rattle.std.specs.Prelude.{◌≡◌, ℕ, ◌<◌, ◌≤◌, ◌⊎◌, List, [], ◌∷◌, ◌++◌, length}
use Rattle.std.specs.List.{flat_map}
use Rattle.httparse.specs.Ascii.{crlf_bytes}
use Rattle.httparse.specs.Grammar.{LineEnd, Field, print_section, ReadsSection, ChunkLine, chunk_size, print_chunk_line, ReadsChunkLine}
use Rattle.dh_http.specs.declared.framings.Framing.{Framing}
use Rattle.dh_http.specs.declared.framings.Framing.TheVariants.{ToEnd, Stated, Chunked, Unclear}

-- the bytes of a head, of a chunk line and of a trailer section, at most: a limit of this project
abbrev pub most_line : ℕ
most_line = 65536

-- the stream begins with this chunk line, and the rest follows
abbrev pub HasLine : List ℕ → ChunkLine → List ℕ → Type 0
HasLine stream l rest = ReadsChunkLine stream l rest × (length (print_chunk_line l) ≤ most_line)

-- the stream begins with a trailer section
abbrev pub HasTrailer : List ℕ → Type 0
HasTrailer stream =
    (fields : List Field) × (last : LineEnd) × (rest : List ℕ)
    × ReadsSection stream fields last rest × (length (print_section fields last) ≤ most_line)

-- the stream begins with a chunk of this data
abbrev pub HasChunk : List ℕ → List ℕ → List ℕ → Type 0
HasChunk stream piece rest =
    (l : ChunkLine) × HasLine stream l (piece ++ (crlf_bytes ++ rest)) × (chunk_size l ≡ length piece) × (0 < length piece)

-- the stream begins with chunks of these data, one after the other
abbrev pub HasChunks : List ℕ → List (List ℕ) → List ℕ → Type 0
HasChunks stream [] rest = stream ≡ rest
HasChunks stream (piece ∷ more) rest = (after : List ℕ) × HasChunk stream piece after × HasChunks after more rest

-- the stream begins with the last chunk, which is empty, and the trailer section
abbrev pub HasLastChunk : List ℕ → Type 0
HasLastChunk stream = (l : ChunkLine) × (after : List ℕ) × HasLine stream l after × (chunk_size l ≡ 0) × HasTrailer after

-- the stream begins with a chunk, whose data begin with this part
abbrev pub HasChunkPart : List ℕ → List ℕ → Type 0
HasChunkPart stream part =
    (l : ChunkLine) × (after : List ℕ) × HasLine stream l (part ++ after) × (length part ≤ chunk_size l)

-- the parts of a body as one
abbrev pub joined : List (List ℕ) → List ℕ
joined parts = flat_map (λ part. part) parts

-- the body is whole
abbrev pub IsWhole : Framing → List ℕ → List ℕ → Type 0
IsWhole ToEnd stream body = stream ≡ body
IsWhole (Stated n) stream body = (length body ≡ n) × ((rest : List ℕ) × (stream ≡ body ++ rest))
IsWhole Chunked stream body =
    (parts : List (List ℕ)) × (rest : List ℕ) × HasChunks stream parts rest × HasLastChunk rest × (body ≡ joined parts)
IsWhole Unclear stream body = ⊥

-- these first bytes of the body stand in the stream
abbrev pub Stands : Framing → List ℕ → List ℕ → Type 0
Stands ToEnd stream first = (rest : List ℕ) × (stream ≡ first ++ rest)
Stands (Stated n) stream first = (length first ≤ n) × ((rest : List ℕ) × (stream ≡ first ++ rest))
Stands Chunked stream first =
    (parts : List (List ℕ)) × (rest : List ℕ) × (part : List ℕ)
    × HasChunks stream parts rest × HasChunkPart rest part × (first ≡ joined parts ++ part)
Stands Unclear stream first = ⊥

-- The body is whole and shorter than so many bytes, or so many first bytes of it stand in the stream, whatever follows.
abbrev pub HasBody : ℕ → Framing → List ℕ → List ℕ → Type 0
HasBody most f stream body = (IsWhole f stream body × (length body < most)) ⊎ (Stands f stream body × (length body ≡ most))
