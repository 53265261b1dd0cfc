-- What a stream, up to its end, answers to a request (RFC 9112, sections 2.1, 4 and 6.3). The limits are this project's own: 64 fields
-- and 65,536 bytes of a head, and 1,048,577 bytes of a body.
use Rattle.std.specs.Prelude.{◌≡◌, ◌≢◌, ℕ, ◌≤◌, ◌⊎◌, suc, List, length, map, Option}
use Rattle.httparse.specs.Grammar.{ResponseHead, print_response, ReadsResponse, status_code}
use Rattle.httparse.specs.Spans.{name_and_value}
use Rattle.dh_syntax.specs.Limits.{most_bytes}
use Rattle.dh_ports.specs.declared.worlds.Got.{Got}
use Rattle.dh_ports.specs.declared.worlds.Got.TheVariants.{Found, Absent, Broken}
use Rattle.dh_http.specs.Bodies.{most_line, HasBody}
use Rattle.dh_http.specs.Fields.{Named, framing, allowed}
use Rattle.dh_http.specs.declared.framings.Framing.{Framing}

-- the fields of a head, at most
abbrev pub most_fields : ℕ
most_fields = 64

-- the bytes of a body that are found, at most: one more than a text may have
abbrev pub most_found : ℕ
most_found = suc most_bytes

-- the stream begins with this head
abbrev pub HasHead : List ℕ → ResponseHead → List ℕ → Type 0
HasHead stream h rest =
    ReadsResponse stream h rest × (length (print_response h) ≤ most_line) × (length h.fields ≤ most_fields)

-- the names and values of the fields of a head
abbrev pub fields_of : ResponseHead → List Named
fields_of h = map name_and_value h.fields

-- what follows a head with status 200: a body, or something else
abbrev pub Holds : Framing → Option (List ℕ) → List ℕ → Got → Type 0
Holds f allow stream got =
    ((body : List ℕ) × HasBody most_found f stream body × (got ≡ Found (record { bytes = body; allow = allow })))
    ⊎ (((body : List ℕ) → ¬ (HasBody most_found f stream body)) × (got ≡ Broken 0))

-- what the rest of the stream answers, by the status
abbrev pub Answers : ℕ → Framing → Option (List ℕ) → List ℕ → Got → Type 0
Answers status f allow stream got =
    ((status ≡ 404) × (got ≡ Absent))
    ⊎ (((status ≡ 200) × Holds f allow stream got)
    ⊎ ((status ≢ 404) × (status ≢ 200) × (got ≡ Broken status)))

-- what a head and the rest of the stream answer
abbrev pub AnswersTo : ResponseHead → List ℕ → Got → Type 0
AnswersTo h stream got = Answers (status_code h) (framing (fields_of h)) (allowed (fields_of h)) stream got

-- what the stream answers: what its head says, or nothing that can be used
abbrev pub Replies : List ℕ → Got → Type 0
Replies stream got =
    ((h : ResponseHead) × (rest : List ℕ) × HasHead stream h rest × AnswersTo h rest got)
    ⊎ (((h : ResponseHead) (rest : List ℕ) → ¬ (HasHead stream h rest)) × (got ≡ Broken 0))
