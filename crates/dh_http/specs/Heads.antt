-- What is read of a head, or that none is there.
use Rattle.std.specs.Prelude.{◌≡◌, ℕ, ◌≤◌, List, length, Option, Some, None}
use Rattle.httparse.specs.Grammar.{ResponseHead, IsResponseHead, print_response, ReadsResponse, HasNoResponse, status_code}
use Rattle.httparse.specs.Spans.{ResponseOverflows}
use Rattle.dh_http.specs.Bodies.{most_line}
use Rattle.dh_http.specs.Fields.{framing, allowed}
use Rattle.dh_http.specs.Forms.{Went, WhereKnown}
use Rattle.dh_http.specs.Reading.{Place, Took}
use Rattle.dh_http.specs.Reply.{HasHead, most_fields, fields_of}
use Rattle.dh_http.specs.declared.heads.Head.{Head}
use Rattle.dh_http.specs.declared.heads.Seen.{Seen}
use Rattle.dh_http.specs.declared.heads.Seen.TheVariants.{Whole, Part, Other}

-- what is kept of a head
pub record Says (head : Head) (h : ResponseHead) : Type 0 where
  pub fields : length h.fields ≤ most_fields
  pub status : head.status ≡ status_code h
  pub framing : head.framing ≡ framing (fields_of h)
  pub allow : head.allow ≡ allowed (fields_of h)

-- the window shows this head as a whole, no whole head yet, or one with too many fields
abbrev pub FindsHead : List ℕ → Seen → Type 0
FindsHead window (Whole head) =
    (h : ResponseHead) × (rest : List ℕ) × ReadsResponse window h rest × (head.len ≡ length (print_response h)) × Says head h
FindsHead window Part = HasNoResponse window
FindsHead window Other = ResponseOverflows most_fields window

-- this head was read, or none is there
abbrev pub TakesHead : Place → Place → Option Head → Type 0
TakesHead old new (Some head) =
    (h : ResponseHead) × Took old new (print_response h) × IsResponseHead h × (length (print_response h) ≤ most_line)
    × Says head h
TakesHead old new None =
    Went old new × WhereKnown old (λ stream. (h : ResponseHead) (rest : List ℕ) → ¬ (HasHead stream h rest))
