-- What is read of a body, piece by piece, or that something else is there.
use Rattle.std.specs.Prelude.{◌≡◌, ℕ, ◌-◌, ◌<◌, ◌≤◌, Bool, true, false, List, ◌++◌, ◌+◌, length, Option, Some, None}
use Rattle.httparse.specs.Ascii.{crlf_bytes}
use Rattle.std.specs.Io.KnownBytes.{Consumes}
use Rattle.dh_ports.specs.Desks.{IsShort}
use Rattle.dh_ports.specs.declared.worlds.Got.{Got}
use Rattle.dh_http.specs.Bodies.{HasBody}
use Rattle.dh_http.specs.Forms.{Went, WhereKnown}
use Rattle.dh_http.specs.Reading.{Place, Took}
use Rattle.dh_http.specs.Reply.{most_found, Answers, Replies}
use Rattle.dh_http.specs.declared.bodies.Chunk.{Chunk}
use Rattle.dh_http.specs.declared.bodies.Chunk.TheVariants.{More, Last, Other}
use Rattle.dh_http.specs.declared.framings.Framing.{Framing}
use Rattle.dh_http.specs.declared.framings.Framing.TheVariants.{Chunked, Stated, ToEnd}

-- what may still be found of a body, of which these bytes were
abbrev pub room : List ℕ → ℕ
room body = most_found - length body

-- neither the first n bytes of a chunk of this size are there, nor the whole chunk and its line end
pub record LacksData (n size : ℕ) (stream : List ℕ) : Type 0 where
  pub part : (first rest : List ℕ) → stream ≡ first ++ rest → length first ≡ n → ¬ (length first ≤ size)
  pub whole : (piece rest : List ℕ) → stream ≡ piece ++ (crlf_bytes ++ rest) → length piece ≡ size → ¬ (length piece ≤ n)

-- the data of a chunk of this size were read and added, with the line end or up to the most that is found
abbrev pub TakesData : Place → Place → List ℕ → List ℕ → ℕ → Chunk → Type 0
TakesData old new body_old body_new size More =
    (bytes : List ℕ) × Took old new (bytes ++ crlf_bytes) × (body_new ≡ body_old ++ bytes) × (length bytes ≡ size)
    × (length body_new < most_found)
TakesData old new body_old body_new size Last =
    (bytes : List ℕ) × Took old new bytes × (body_new ≡ body_old ++ bytes) × (length bytes ≤ size)
    × (length body_new ≡ most_found)
TakesData old new body_old body_new size Other =
    Went old new × WhereKnown old (LacksData (room body_old) size)

-- the bodies of one stream are these bytes and then those of another
pub record Leaves (n : ℕ) (stream rest bytes : List ℕ) : Type 0 where
  pub from : (body : List ℕ) → HasBody n Chunked stream body
      → (more : List ℕ) × (body ≡ bytes ++ more) × HasBody (n - length bytes) Chunked rest more
  pub back : (more : List ℕ) → HasBody (n - length bytes) Chunked rest more → HasBody n Chunked stream (bytes ++ more)

-- a chunk was read and added, or the body ends with it, or something else is there
abbrev pub TakesChunk : Place → Place → List ℕ → List ℕ → Chunk → Type 0
TakesChunk old new body_old body_new More =
    Went old new × ((bytes : List ℕ) × (body_new ≡ body_old ++ bytes) × (0 < length bytes) × (length body_new < most_found)
    × WhereKnown old (λ s. WhereKnown new (λ r. Leaves (room body_old) s r bytes)))
TakesChunk old new body_old body_new Last =
    Went old new × ((bytes : List ℕ) × (body_new ≡ body_old ++ bytes) × (length body_new ≤ most_found)
    × WhereKnown old (λ s. HasBody (room body_old) Chunked s bytes))
TakesChunk old new body_old body_new Other =
    Went old new × WhereKnown old (λ s. (body : List ℕ) → ¬ (HasBody (room body_old) Chunked s body))

-- a body of so many bytes, or up to the end
abbrev pub plain : Option ℕ → Framing
plain (Some n) = Stated n
plain None = ToEnd

-- the body was read, as far as it is found, or something else is there
abbrev pub TakesBody : Framing → Place → Place → List ℕ → Bool → Type 0
TakesBody f old new body true =
    Went old new × (length body ≤ most_found) × WhereKnown old (λ s. HasBody most_found f s body)
TakesBody f old new body false =
    Went old new × WhereKnown old (λ s. (b : List ℕ) → ¬ (HasBody most_found f s b))

-- what follows a head was read
pub record ReadsAnswer (status : ℕ) (f : Framing) (allow : Option (List ℕ)) (old new : Place) (got : Got) : Type 0 where
  pub went : Went old new
  pub answers : WhereKnown old (λ s. Answers status f allow s got)
  pub short : IsShort got

-- a reply was read
pub record ReadsReply (old new : Place) (got : Got) : Type 0 where
  pub went : Went old new
  pub replies : WhereKnown old (λ s. Replies s got)
  pub short : IsShort got

-- some bytes were received, in at most one call more than there were bytes
pub record ReceivesFew (left_old left_new : Option (List ℕ)) (receives_old receives_new : ℕ) : Type 0 where
  pub moved : List ℕ
  pub received : Consumes left_old left_new moved
  pub count : receives_new ≤ receives_old + length moved + 1
