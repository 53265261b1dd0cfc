-- What stands in the window where a trailer section is awaited.
use Rattle.std.specs.Prelude.{ℕ, List}
use Rattle.httparse.specs.Grammar.{HasNoSection}
use Rattle.httparse.specs.Spans.{IsSectionOf, SectionOverflows}
use Rattle.httparse.specs.declared.spans.HeaderSpan.{HeaderSpan}
use Rattle.dh_http.specs.declared.lines.Trailer.{Trailer}
use Rattle.dh_http.specs.declared.lines.Trailer.TheVariants.{Whole, Part, Other}

-- the fields of a trailer section, at most: each has a name, a colon and a line end
abbrev pub most_trailers : ℕ
most_trailers = 21845

-- the section, no section yet, or none whatever follows
abbrev pub FindsTrailer : List ℕ → Trailer → Type 0
FindsTrailer window Whole = (spans : List HeaderSpan) × (r : ℕ × ℕ) × IsSectionOf window 0 spans r
FindsTrailer window Part = HasNoSection window
FindsTrailer window Other = SectionOverflows most_trailers window
