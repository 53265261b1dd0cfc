-- Paths before what may follow them.
use Rattle.std.proofs.Common.{◌≡◌, ℕ, suc, ◌+◌, Bool, true, false, ◌||◌, ◌&&◌, ◌==◌, eqb, if◌then◌else◌, nat_eq, nat_lt, List, [], ◌∷◌, ◌++◌, length, take, get_or, slice_index, map, Option, Some, None, append_assoc, length-append, one-add, refl, sym, ap, subst, ◌∙◌, arith}
use Rattle.std.proofs.lemmas.Bool.{and_parts, both_ways, lt-ltb}
use Rattle.std.proofs.lemmas.Bool.Decides.{nat_tests}
use Rattle.std.specs.List.{list_all, prefix_len, starts_with}
use Rattle.dh_syntax.specs.declared.locations.Loc.{Loc}
use Rattle.dh_syntax.specs.declared.locations.Loc.TheVariants as locs
use Rattle.dh_syntax.specs.declared.tokens.Mark.TheVariants as marks
use Rattle.dh_syntax.specs.declared.tokens.TokenKind.TheVariants as kinds
use Rattle.dh_syntax.specs.Expressions.Arity.{has_some}
use Rattle.dh_syntax.specs.Text.Characters.{first, is_quoted_path_byte}
use Rattle.dh_syntax.specs.Text.LexForms.{Is, Form, form, longest}
use Rattle.dh_syntax.specs.Text.LexLocations.{Component, Components, no_components, by_component, components, a_component_more, path_component, plain_component, quoted_component, path_form, path}
use Rattle.dh_syntax.specs.Text.LexMarks.{mark, mark_form, brackets, separators, binders, operators, operators_twice}
use Rattle.dh_syntax.specs.declared.operators.BinOp.TheVariants as binary
use Rattle.dh_syntax.specs.Imports.Locations.{is_path_character, local_component, local_text, quoted}
use Rattle.dh_syntax.specs.Expressions.Spellable.{is_component}
use Rattle.dh_tokens.specs.Inside.Forms.{joined}
use Rattle.dh_tokens.proofs.FrontBytes.{code_form-dot, code_form-slash, code_form-tilde, longer-first, longest-joined_all}
use Rattle.dh_tokens.proofs.FormLaws.{form-some}
use Rattle.dh_layout.proofs.Reading.Ends.{is_ending, is_seam}
use Rattle.dh_layout.proofs.Reading.Imports.{LocReads}
use Rattle.dh_layout.proofs.Reading.Seams.{run_len, take_front}
use Rattle.dh_layout.proofs.Reading.Walk.{give}

-- what may stand behind a component
abbrev ends_component : List ℕ → Bool
ends_component bs = is_ending (first bs) || first bs == 47

seam_ends : (rest : List ℕ) → is_seam 15 rest ≡ true → ends_component rest ≡ true
seam_ends rest h = let c = first rest in grind (arith, nat_tests)

not_path : (rest : List ℕ) → ends_component rest ≡ true → is_path_character (first rest) ≡ false
not_path rest h = let c = first rest in grind (arith, nat_tests)

not_slash : (rest : List ℕ) → is_seam 15 rest ≡ true → eqb (first rest) 47 ≡ false
not_slash rest h = let c = first rest in grind (arith, nat_tests)

-- components with so many bytes more before them
abbrev pub bytes_more : ℕ → Components → Components
bytes_more n cs = record { texts = cs.texts; total = n + cs.total }

pub skipped : (f : List ℕ → Option Component) (x rest : List ℕ) → components f (length x) (x ++ rest) ≡ bytes_more (length x) (components f 0 rest)
skipped f [] rest = let e : (components f 0 rest).total ≡ 0 + (components f 0 rest).total = omega arith in ap (λ n. let cs = components f 0 rest in record { texts = cs.texts; total = n }) e
skipped f (b ∷ x) rest =
    let cs = components f 0 rest in
    let e : suc (length x + cs.total) ≡ suc (length x) + cs.total = omega arith in
    ap (λ (c : Components). record { texts = c.texts; total = suc c.total }) (skipped f x rest) ∙ ap (λ n. record { texts = cs.texts; total = n }) e

path_start : (b : ℕ) → is_path_character b ≡ true → (b == 34) ≡ false
path_start b h = grind (arith, nat_tests)

-- one component, as it is printed
component_read : (c rest : List ℕ) → is_component c ≡ true → ends_component rest ≡ true → path_component (local_component c ++ rest) ≡ Some (record { text = c; len = length (local_component c) })
component_read [] rest h e = absurd (both_ways false refl h)
component_read (b ∷ c) rest h e = by (list_all is_path_character (b ∷ c)) refl
  where
    x : List ℕ
    x = b ∷ c

    later : (y : List ℕ) → get_or (y ++ 34 ∷ rest) (length y) 0 ≡ 34
    later [] = refl
    later (z ∷ y) = later y

    closed : path_component ((34 ∷ (b ∷ c ++ 34 ∷ [])) ++ rest) ≡ Some (record { text = b ∷ c; len = suc (length (b ∷ c ++ 34 ∷ [])) })
    closed =
        let x = b ∷ c in
        let n = length x in
        let tail = x ++ 34 ∷ rest in
        let bs = 34 ∷ tail in
        let bytes = (and_parts (has_some x) (list_all is_quoted_path_byte x) h).1 in
        let run : prefix_len is_quoted_path_byte tail ≡ n = run_len is_quoted_path_byte x (34 ∷ rest) bytes refl refl in
        let by' : ℕ → Option Component = λ k. if nat_lt 0 k && slice_index bs (1 + k) == 34 then Some (record { text = take k tail; len = 2 + k }) else None in
        let after : slice_index bs (1 + n) ≡ 34 = ap (slice_index bs) (one-add n) ∙ later x in
        let size : 2 + n ≡ suc (length (x ++ 34 ∷ [])) = let s = length-append x (34 ∷ []) in omega (arith, s) in
        ap (λ t. path_component (34 ∷ t)) (append_assoc x (34 ∷ []) rest)
        ∙ ap by' run
        ∙ ap (λ (t : Bool). if t && slice_index bs (1 + n) == 34 then Some (record { text = take n tail; len = 2 + n }) else None) (lt-ltb 0 n (omega arith))
        ∙ ap (λ k. if k == 34 then Some (record { text = take n tail; len = 2 + n }) else None) after
        ∙ ap (λ t. Some (record { text = t; len = 2 + n })) (take_front x (34 ∷ rest))
        ∙ ap (λ l. Some (record { text = x; len = l })) size

    plain : list_all is_path_character (b ∷ c) ≡ true → path_component (b ∷ c ++ rest) ≡ Some (record { text = b ∷ c; len = suc (length c) })
    plain all =
        let bs = b ∷ c ++ rest in
        let n = suc (length c) in
        let run : prefix_len is_path_character bs ≡ n = run_len is_path_character (b ∷ c) rest all (not_path rest e) refl in
        ap (λ (t : Bool). if t then quoted_component bs else plain_component bs) (path_start b (and_parts (is_path_character b) (list_all is_path_character c) all).0)
        ∙ ap (λ k. if nat_lt 0 k then Some (record { text = take k bs; len = k }) else None) run
        ∙ ap (λ (t : Bool). if t then Some (record { text = take n bs; len = n }) else None) (lt-ltb 0 n (omega arith))
        ∙ ap (λ t. Some (record { text = t; len = n })) (take_front (b ∷ c) rest)

    by : (t : Bool) → list_all is_path_character (b ∷ c) ≡ t → path_component (local_component (b ∷ c) ++ rest) ≡ Some (record { text = b ∷ c; len = length (local_component (b ∷ c)) })
    by true is =
        let P : Bool → Type 0 = λ t. let w = if t then b ∷ c else quoted (b ∷ c) in path_component (w ++ rest) ≡ Some (record { text = b ∷ c; len = length w }) in
        subst P (sym is) (plain is)
    by false is =
        let P : Bool → Type 0 = λ t. let w = if t then b ∷ c else quoted (b ∷ c) in path_component (w ++ rest) ≡ Some (record { text = b ∷ c; len = length w }) in
        subst P (sym is) closed

slashed_ends : (cs : List (List ℕ)) (rest : List ℕ) → is_seam 15 rest ≡ true → ends_component (local_text cs ++ rest) ≡ true
slashed_ends [] rest s = seam_ends rest s
slashed_ends (c ∷ cs) rest s = refl

end_none : (rest : List ℕ) → is_seam 15 rest ≡ true → components path_component 0 rest ≡ no_components
end_none [] s = refl
end_none (b ∷ rest) s = ap (λ (t : Bool). by_component (if t then path_component rest else None) (λ n. components path_component n rest)) (not_slash (b ∷ rest) s)

-- all components
components_read : (cs : List (List ℕ)) (rest : List ℕ) → list_all is_component cs ≡ true → is_seam 15 rest ≡ true → components path_component 0 (local_text cs ++ rest) ≡ record { texts = cs; total = length (local_text cs) }
components_read [] rest h s = end_none rest s
components_read (c ∷ cs) rest h s =
    let parts = and_parts (is_component c) (list_all is_component cs) h in
    let w = local_component c in
    let more = local_text cs in
    let bs = w ++ (more ++ rest) in
    let size : suc (length w + length more) ≡ suc (length (w ++ more)) = let e = length-append w more in omega (arith, e) in
    ap (λ t. components path_component 0 (47 ∷ t)) (append_assoc w more rest)
    ∙ ap (λ o. by_component o (λ n. components path_component n bs)) (component_read c (more ++ rest) parts.0 (slashed_ends cs rest s))
    ∙ ap (a_component_more c) (skipped path_component w (more ++ rest))
    ∙ ap (λ (k : Components). record { texts = c ∷ k.texts; total = suc (length w + k.total) }) (components_read cs rest parts.1 s)
    ∙ ap (λ n. record { texts = c ∷ cs; total = n }) size

-- the form of a path, after the bytes before its first slash
path_is : (kind : List (List ℕ) → Loc) (before : ℕ) (cs : List (List ℕ)) (rest : List ℕ) → has_some cs ≡ true → list_all is_component cs ≡ true → is_seam 15 rest ≡ true
    → path_form kind before (components path_component 0 (local_text cs ++ rest)) ≡ form (Is (kinds.Path (kind cs))) (before + length (local_text cs))
path_is kind before [] rest some h s = absurd (both_ways false refl some)
path_is kind before (c ∷ cs) rest some h s =
    ap (path_form kind before) (components_read (c ∷ cs) rest h s)
    ∙ ap (λ (t : Bool). if t then form (Is (kinds.Path (kind (c ∷ cs)))) (before + length (local_text (c ∷ cs))) else None) (lt-ltb 0 (length (local_text (c ∷ cs))) (omega arith))

pub here_reads : (cs : List (List ℕ)) → has_some cs ≡ true → list_all is_component cs ≡ true → LocReads (locs.Here cs)
here_reads [] some h p g rest n ws c s after = absurd (both_ways false refl some)
here_reads (x ∷ cs) some h p g rest n ws c s after =
    let t = local_text (x ∷ cs) in
    let size : 1 + length t ≡ suc (length t) = omega arith in
    give p g 46 t rest (kinds.Path (locs.Here (x ∷ cs))) n ws c (λ b. tt) refl refl
    (code_form-dot (46 ∷ t ++ rest) refl
    ∙ ap (λ f. joined (longest (f ∷ None ∷ None ∷ None ∷ [])) (mark (46 ∷ t ++ rest))) (path_is locs.Here 1 (x ∷ cs) rest refl h s)
    ∙ ap (λ f. joined f (mark (46 ∷ t ++ rest))) (longest_one (form (Is (kinds.Path (locs.Here (x ∷ cs)))) (1 + length t)))
    ∙ longer-first (Is (kinds.Path (locs.Here (x ∷ cs)))) (Is (kinds.Mark marks.Dot)) 1 (1 + length t) (omega arith) (omega arith)
    ∙ form-some (Is (kinds.Path (locs.Here (x ∷ cs)))) (1 + length t) (omega arith)
    ∙ ap (λ l. Some (record { found = Is (kinds.Path (locs.Here (x ∷ cs))); len = l })) size)
    (λ at. after)
  where
    longest_one : (f : Option Form) → longest (f ∷ None ∷ None ∷ None ∷ []) ≡ f
    longest_one None = refl
    longest_one (Some f) = refl

pub parent_reads : (cs : List (List ℕ)) → has_some cs ≡ true → list_all is_component cs ≡ true → LocReads (locs.Parent cs)
parent_reads [] some h p g rest n ws c s after = absurd (both_ways false refl some)
parent_reads (x ∷ cs) some h p g rest n ws c s after =
    let t = local_text (x ∷ cs) in
    let size : 2 + length t ≡ suc (suc (length t)) = omega arith in
    give p g 46 (46 ∷ t) rest (kinds.Path (locs.Parent (x ∷ cs))) n ws c (λ b. tt) refl refl
    (code_form-dot (46 ∷ 46 ∷ t ++ rest) refl
    ∙ ap (λ f. joined (longest (None ∷ f ∷ None ∷ None ∷ [])) (mark (46 ∷ 46 ∷ t ++ rest))) (path_is locs.Parent 2 (x ∷ cs) rest refl h s)
    ∙ ap (λ f. joined f (mark (46 ∷ 46 ∷ t ++ rest))) (longest_one (form (Is (kinds.Path (locs.Parent (x ∷ cs)))) (2 + length t)))
    ∙ longer-first (Is (kinds.Path (locs.Parent (x ∷ cs)))) (Is (kinds.Mark marks.Dot)) 1 (2 + length t) (omega arith) (omega arith)
    ∙ form-some (Is (kinds.Path (locs.Parent (x ∷ cs)))) (2 + length t) (omega arith)
    ∙ ap (λ l. Some (record { found = Is (kinds.Path (locs.Parent (x ∷ cs))); len = l })) size)
    (λ at. after)
  where
    longest_one : (f : Option Form) → longest (None ∷ f ∷ None ∷ None ∷ []) ≡ f
    longest_one None = refl
    longest_one (Some f) = refl

pub home_reads : (cs : List (List ℕ)) → has_some cs ≡ true → list_all is_component cs ≡ true → LocReads (locs.Home cs)
home_reads [] some h p g rest n ws c s after = absurd (both_ways false refl some)
home_reads (x ∷ cs) some h p g rest n ws c s after =
    let t = local_text (x ∷ cs) in
    let size : 1 + length t ≡ suc (length t) = omega arith in
    give p g 126 t rest (kinds.Path (locs.Home (x ∷ cs))) n ws c (λ b. tt) refl refl
    (code_form-tilde (126 ∷ t ++ rest) refl
    ∙ ap (λ f. joined (longest (None ∷ None ∷ f ∷ None ∷ [])) None) (path_is locs.Home 1 (x ∷ cs) rest refl h s)
    ∙ longest_one (form (Is (kinds.Path (locs.Home (x ∷ cs)))) (1 + length t))
    ∙ form-some (Is (kinds.Path (locs.Home (x ∷ cs)))) (1 + length t) (omega arith)
    ∙ ap (λ l. Some (record { found = Is (kinds.Path (locs.Home (x ∷ cs))); len = l })) size)
    (λ at. after)
  where
    longest_one : (f : Option Form) → joined (longest (None ∷ None ∷ f ∷ None ∷ [])) None ≡ f
    longest_one None = refl
    longest_one (Some f) = refl

-- a slash before a component is no mark
slash_mark : (b : ℕ) (t : List ℕ) → eqb 47 b ≡ false → eqb 92 b ≡ false → mark (47 ∷ b ∷ t) ≡ None
slash_mark b t slash back =
    let combine : Bool → Option Form = λ q. if q then form (Is (kinds.Mark (marks.Operator binary.Combine))) 2 else None in
    let prefer : Bool → Option Form = λ q. if q then form (Is (kinds.Mark (marks.Operator binary.Prefer))) 2 else None in
    let types : Bool → Option Form = λ q. if q then form (Is (kinds.Mark (marks.Operator binary.CombineTypes))) 4 else None in
    longest-joined_all (map (mark_form (47 ∷ b ∷ t)) (brackets ++ separators ++ binders ++ operators ++ operators_twice))
    ∙ ap (λ q. joined (combine (q && true)) (joined (prefer (eqb 47 b && true)) (joined (types (eqb 47 b && starts_with nat_eq t (92 ∷ 92 ∷ []))) None))) back
    ∙ ap (λ q. joined (prefer (q && true)) (joined (types (q && starts_with nat_eq t (92 ∷ 92 ∷ []))) None)) slash

component_front : (c rest : List ℕ) (P : List ℕ → Type 0) → is_component c ≡ true → ((b : ℕ) (t : List ℕ) → is_path_character b ≡ true → P (b ∷ t)) → ((t : List ℕ) → P (34 ∷ t)) → P (local_component c ++ rest)
component_front [] rest P h plain closed = absurd (both_ways false refl h)
component_front (b ∷ c) rest P h plain closed = by (list_all is_path_character (b ∷ c)) refl
  where
    by : (t : Bool) → list_all is_path_character (b ∷ c) ≡ t → P (local_component (b ∷ c) ++ rest)
    by true is = subst (λ t. P ((if t then b ∷ c else quoted (b ∷ c)) ++ rest)) (sym is) (plain b (c ++ rest) (and_parts (is_path_character b) (list_all is_path_character c) is).0)
    by false is = subst (λ t. P ((if t then b ∷ c else quoted (b ∷ c)) ++ rest)) (sym is) (closed ((b ∷ c ++ 34 ∷ []) ++ rest))

no_slash : (b : ℕ) → is_path_character b ≡ true → (eqb 47 b ≡ false) × (eqb 92 b ≡ false)
no_slash b h = (grind (arith, nat_tests), grind (arith, nat_tests))

pub absolute_reads : (cs : List (List ℕ)) → has_some cs ≡ true → list_all is_component cs ≡ true → LocReads (locs.Abs cs)
absolute_reads [] some h p g rest n ws c s after = absurd (both_ways false refl some)
absolute_reads (x ∷ cs) some h p g rest n ws c s after =
    let t = local_text (x ∷ cs) in
    let w = local_component x ++ local_text cs in
    let size : 0 + length t ≡ suc (length w) = omega arith in
    let bs = 47 ∷ w ++ rest in
    let no_mark : mark bs ≡ None =
    subst (λ u. mark (47 ∷ u) ≡ None) (sym (append_assoc (local_component x) (local_text cs) rest))
    (component_front x (local_text cs ++ rest) (λ u. mark (47 ∷ u) ≡ None) (and_parts (is_component x) (list_all is_component cs) h).0 (λ b u k. slash_mark b u (no_slash b k).0 (no_slash b k).1) (λ u. slash_mark 34 u refl refl)) in
    give p g 47 w rest (kinds.Path (locs.Abs (x ∷ cs))) n ws c (λ b. tt) refl refl
    (code_form-slash bs refl
    ∙ ap (λ m. joined (path bs) m) no_mark
    ∙ ap (λ f. joined (longest (None ∷ None ∷ None ∷ f ∷ [])) None) (path_is locs.Abs 0 (x ∷ cs) rest refl h s)
    ∙ longest_one (form (Is (kinds.Path (locs.Abs (x ∷ cs)))) (0 + length t))
    ∙ form-some (Is (kinds.Path (locs.Abs (x ∷ cs)))) (0 + length t) (omega arith)
    ∙ ap (λ l. Some (record { found = Is (kinds.Path (locs.Abs (x ∷ cs))); len = l })) size)
    (λ at. after)
  where
    longest_one : (f : Option Form) → joined (longest (None ∷ None ∷ None ∷ f ∷ [])) None ≡ f
    longest_one None = refl
    longest_one (Some f) = refl
