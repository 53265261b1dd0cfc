-- URLs before what may follow them, but for their hosts.
use Rattle.std.proofs.Common.{◌≡◌, ℕ, zero, suc, ◌+◌, Bool, true, false, ◌||◌, ◌&&◌, ◌==◌, eqb, if◌then◌else◌, List, [], ◌∷◌, ◌++◌, length, take, slice_index, Some, None, append_assoc, length-append, refl, sym, ap, ◌∙◌, arith}
use Rattle.std.proofs.lemmas.Bool.{and_parts, both_ways, eqb-true}
use Rattle.std.proofs.lemmas.Bool.Decides.{nat_tests}
use Rattle.std.specs.Char.{is_ascii_hexdigit}
use Rattle.std.specs.List.{list_all}
use Rattle.dh_syntax.specs.Text.Characters.{first, is_segment_byte, is_query_byte}
use Rattle.dh_syntax.specs.Text.LexLocations.{Components, no_components, by_component, components, a_component_more, segment, url_chars_len, by_url_char, begins_percent, query_of}
use Rattle.dh_syntax.specs.Imports.Locations.{slashed}
use Rattle.dh_syntax.specs.Expressions.Spellable.{is_encoded, is_segment}
use Rattle.dh_layout.proofs.Reading.Ends.{is_ending, is_seam}
use Rattle.dh_layout.proofs.Reading.Paths.{skipped}
use Rattle.dh_layout.proofs.Reading.Seams.{take_front}

-- bytes of a class and `%` with two digits, before what is neither
chars_run : (test : ℕ → Bool) (skip : ℕ) (x rest : List ℕ) → test 37 ≡ false → is_encoded test skip x ≡ true → url_chars_len test 0 rest ≡ 0 → url_chars_len test skip (x ++ rest) ≡ length x
chars_run test zero [] rest p h e = e
chars_run test (suc n) [] rest p h e = absurd (both_ways false refl h)
chars_run test (suc n) (b ∷ x) rest p h e = ap suc (chars_run test n x rest p (and_parts (is_ascii_hexdigit b) (is_encoded test n x) h).1 e)
chars_run test zero (b ∷ x) rest p h e = by (test b) refl (λ q. chars_run test 0 x rest p q e) (λ q. chars_run test 2 x rest p q e)
  where
    digits : (x : List ℕ) → is_encoded test 2 x ≡ true → (is_ascii_hexdigit (slice_index (37 ∷ x ++ rest) 1) && is_ascii_hexdigit (slice_index (37 ∷ x ++ rest) 2)) ≡ true
    digits [] h = absurd (both_ways false refl h)
    digits (c ∷ []) h = absurd (both_ways false refl (and_parts (is_ascii_hexdigit c) false h).1)
    digits (c ∷ k ∷ x) h =
        let parts = and_parts (is_ascii_hexdigit c) (is_ascii_hexdigit k && is_encoded test 0 x) h in
        ap (λ (t : Bool). t && is_ascii_hexdigit k) parts.0 ∙ (and_parts (is_ascii_hexdigit k) (is_encoded test 0 x) parts.1).0

    plain_case : (a c d : Bool) → ((a && c) || (true && d)) ≡ true → (a ≡ true → ⊥) → d ≡ true
    plain_case true c d h never = absurd (never refl)
    plain_case false c d h never = h

    escaped_case : (a c d : Bool) → ((a && c) || (false && d)) ≡ true → (a ≡ true) × (c ≡ true)
    escaped_case true true d h = (refl, refl)
    escaped_case true false d h = absurd (both_ways false refl h)
    escaped_case false c d h = absurd (both_ways false refl h)

    by : (t : Bool) → test b ≡ t → (is_encoded test 0 x ≡ true → url_chars_len test 0 (x ++ rest) ≡ length x) → (is_encoded test 2 x ≡ true → url_chars_len test 2 (x ++ rest) ≡ length x) → url_chars_len test 0 (b ∷ x ++ rest) ≡ suc (length x)
    by true is plain escaped =
        let h' = sym (ap (λ (t : Bool). (eqb b 37 && is_encoded test 2 x) || (t && is_encoded test 0 x)) is) ∙ h in
        let here = plain_case (eqb b 37) (is_encoded test 2 x) (is_encoded test 0 x) h' (λ q. both_ways (test 37) p (sym (ap test (eqb-true b 37 q)) ∙ is)) in
        ap (λ (t : Bool). by_url_char (if t then 1 else if begins_percent (b ∷ x ++ rest) then 3 else 0) (λ n. url_chars_len test n (x ++ rest))) is ∙ ap suc (plain here)
    by false is plain escaped =
        let h' = sym (ap (λ (t : Bool). (eqb b 37 && is_encoded test 2 x) || (t && is_encoded test 0 x)) is) ∙ h in
        let here = escaped_case (eqb b 37) (is_encoded test 2 x) (is_encoded test 0 x) h' in
        let begun : begins_percent (b ∷ x ++ rest) ≡ true =
        ap (λ (t : Bool). t && is_ascii_hexdigit (slice_index (37 ∷ x ++ rest) 1) && is_ascii_hexdigit (slice_index (37 ∷ x ++ rest) 2)) here.0 ∙ digits x here.1 in
        ap (λ (t : Bool). by_url_char (if t then 1 else if begins_percent (b ∷ x ++ rest) then 3 else 0) (λ n. url_chars_len test n (x ++ rest))) is
        ∙ ap (λ (t : Bool). by_url_char (if t then 3 else 0) (λ n. url_chars_len test n (x ++ rest))) begun
        ∙ ap suc (escaped here.1)

-- where characters of a segment and of a query end
stops : (test : ℕ → Bool) (rest : List ℕ) → test (first rest) ≡ false → (first rest == 37) ≡ false → url_chars_len test 0 rest ≡ 0
stops test [] t p = refl
stops test (b ∷ rest) t p =
    ap (λ (q : Bool). by_url_char (if q then 1 else if begins_percent (b ∷ rest) then 3 else 0) (λ n. url_chars_len test n rest)) t
    ∙ ap (λ (q : Bool). by_url_char (if q && is_ascii_hexdigit (slice_index (b ∷ rest) 1) && is_ascii_hexdigit (slice_index (b ∷ rest) 2) then 3 else 0) (λ n. url_chars_len test n rest)) p

-- behind a segment
abbrev pub ends_segment : List ℕ → Bool
ends_segment bs = is_ending (first bs) || first bs == 47 || first bs == 63

segment_stops : (rest : List ℕ) → ends_segment rest ≡ true → url_chars_len is_segment_byte 0 rest ≡ 0
segment_stops rest h = let c = first rest in stops is_segment_byte rest (grind (arith, nat_tests)) (grind (arith, nat_tests))

pub segment_read : (c rest : List ℕ) → is_segment c ≡ true → ends_segment rest ≡ true → segment (c ++ rest) ≡ Some (record { text = c; len = length c })
segment_read c rest h e =
    let run = chars_run is_segment_byte 0 c rest refl h (segment_stops rest e) in
    ap (λ n. Some (record { text = take n (c ++ rest); len = n })) run ∙ ap (λ t. Some (record { text = t; len = length c })) (take_front c rest)

pub query_read : (q rest : List ℕ) → is_encoded is_query_byte 0 q ≡ true → is_seam 15 rest ≡ true → query_of (63 ∷ q ++ rest) ≡ Some q
query_read q rest h s =
    let c = first rest in
    let stop = stops is_query_byte rest (grind (arith, nat_tests)) (grind (arith, nat_tests)) in
    ap (λ n. Some (take n (q ++ rest))) (chars_run is_query_byte 0 q rest refl h stop) ∙ ap Some (take_front q rest)

segments_end : (cs : List (List ℕ)) (rest : List ℕ) → ends_segment rest ≡ true → ends_segment (slashed cs ++ rest) ≡ true
segments_end [] rest e = e
segments_end (c ∷ cs) rest e = refl

no_more : (rest : List ℕ) → eqb (first rest) 47 ≡ false → components segment 0 rest ≡ no_components
no_more [] s = refl
no_more (b ∷ rest) s = ap (λ (t : Bool). by_component (if t then segment rest else None) (λ n. components segment n rest)) s

-- all components of a URL
pub segments_read : (cs : List (List ℕ)) (rest : List ℕ) → list_all is_segment cs ≡ true → ends_segment rest ≡ true → eqb (first rest) 47 ≡ false → components segment 0 (slashed cs ++ rest) ≡ record { texts = cs; total = length (slashed cs) }
segments_read [] rest h e s = no_more rest s
segments_read (c ∷ cs) rest h e s =
    let parts = and_parts (is_segment c) (list_all is_segment cs) h in
    let more = slashed cs in
    let bs = c ++ (more ++ rest) in
    let size : suc (length c + length more) ≡ suc (length (c ++ more)) = let e = length-append c more in omega (arith, e) in
    ap (λ t. components segment 0 (47 ∷ t)) (append_assoc c more rest)
    ∙ ap (λ o. by_component o (λ n. components segment n bs)) (segment_read c (more ++ rest) parts.0 (segments_end cs rest e))
    ∙ ap (a_component_more c) (skipped segment c (more ++ rest))
    ∙ ap (λ (k : Components). record { texts = c ∷ k.texts; total = suc (length c + k.total) }) (segments_read cs rest parts.1 e s)
    ∙ ap (λ n. record { texts = c ∷ cs; total = n }) size
