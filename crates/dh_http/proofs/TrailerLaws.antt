-- Trailer sections at the front of a stream, from what stands in the window.
use Rattle.std.proofs.Common.{◌≡◌, ℕ, ◌*◌, ◌-◌, ◌<◌, ◌≤◌, ◌⊎◌, List, [], ◌∷◌, ◌++◌, length, take, drop, All, true, false, sym, ap, ◌∙◌, arith, subst}
use Rattle.std.proofs.lemmas.List.{length-append, length-take}
use Rattle.std.proofs.lemmas.List.Elements.{All-head, All-tail}
use Rattle.std.specs.List.{flat_map}
use Rattle.httparse.specs.declared.spans.HeaderSpan.{HeaderSpan}
use Rattle.httparse.specs.Grammar.{LineEnd, crlf, lf, print_end, Field, IsField, print_field, print_section, ReadsSection, HasNoSection}
use Rattle.httparse.specs.Spans.{IsSectionOf, SectionOverflows}
use Rattle.httparse.proofs.GrammarLemmas.{ReadsSection-append}
use Rattle.dh_http.specs.Bodies.{most_line, HasTrailer}
use Rattle.dh_http.specs.Forms.{WhereKnown, TakesTrailer}
use Rattle.dh_http.specs.Reading.{Place, Took}
use Rattle.dh_http.proofs.FormLaws.{where_known, known_first, window_cut, take_front, whole_window, length_front}

end_long : (e : LineEnd) → 1 ≤ length (print_end e)
end_long crlf = omega arith
end_long lf = omega arith

field_long : (f : Field) → IsField f → 3 ≤ length (print_field f)
field_long f h =
    omega (arith, h.name.0, end_long f.end, length-append (f.name ++ 58 ∷ f.raw) (print_end f.end), length-append f.name (58 ∷ f.raw))

pub fields_long : (fields : List Field) → All IsField fields → 3 * length fields ≤ length (flat_map print_field fields)
fields_long [] h = omega arith
fields_long (f ∷ fs) h =
    omega (arith, field_long f (All-head IsField f fs h), fields_long fs (All-tail IsField f fs h), length-append (print_field f) (flat_map print_field fs))

-- a section that is short enough has room in the table
section_fields : (fields : List Field) (last : LineEnd) → All IsField fields → length (print_section fields last) ≤ most_line
    → length fields ≤ 21845
section_fields fields last h short =
    omega (arith, fields_long fields h, length-append (flat_map print_field fields) (print_end last), short)

same_first : (a b : Place) → Took a b [] → (P : List ℕ → Type 0) → WhereKnown b P → WhereKnown a P
same_first a b took P h = known_first a b [] P P took h (λ s q. q)

pub trailer_there : (a b : Place) (spans : List HeaderSpan) (r : ℕ × ℕ) → Took a b [] → IsSectionOf (take most_line b.inbox.bytes) 0 spans r → TakesTrailer a b true
trailer_there a b spans r took at =
    let window = take most_line b.inbox.bytes in
    let short : length (print_section at.0 at.1) ≤ length window = length_front window _ _ at.2.reads.1 in
    let small : length (print_section at.0 at.1) ≤ most_line = omega (arith, short, length-take most_line b.inbox.bytes) in (
      ([], took),
      same_first a b took HasTrailer (where_known b HasTrailer (λ left e. (
        at.0,
        at.1,
        drop r.0 window ++ (drop most_line b.inbox.bytes ++ left),
        subst (λ t. ReadsSection t at.0 at.1 (drop r.0 window ++ (drop most_line b.inbox.bytes ++ left))) (sym (whole_window b.inbox.bytes left))
            (ReadsSection-append window at.0 at.1 _ (drop most_line b.inbox.bytes ++ left) at.2.reads),
        small,
      ))),
    )

pub no_trailer_end : (a b : Place) → Took a b [] → SectionOverflows 21845 (take most_line b.inbox.bytes) → TakesTrailer a b false
no_trailer_end a b took over = (
  ([], took),
  same_first a b took _ (where_known b _ (λ left e has.
      let long : 21845 < length has.0 = over (drop most_line b.inbox.bytes ++ left) has.0 has.1 has.2
      (subst (λ t. ReadsSection t has.0 has.1 has.2) (whole_window b.inbox.bytes left) has.3) in
      absurd (omega (arith, long, section_fields has.0 has.1 has.3.0 has.4)))),
)

pub no_trailer_cut : (a b : Place) → Took a b [] → (most_line ≤ length b.inbox.bytes) ⊎ (b.inbox.ended ≡ true)
    → HasNoSection (take most_line b.inbox.bytes) → TakesTrailer a b false
no_trailer_cut a b took full none = (
  ([], took),
  same_first a b took _ (where_known b _ (λ left e has.
      none has.0 has.1 (take (most_line - length (print_section has.0 has.1)) has.2) (
        has.3.0,
        sym (window_cut b took.fits full left e) ∙ ap (take most_line) has.3.1
            ∙ take_front (print_section has.0 has.1) has.2 most_line has.4,
      ))),
)
