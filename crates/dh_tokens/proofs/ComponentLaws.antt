-- Laws of components.
use Rattle.std.proofs.Common.{◌≡◌, ℕ, zero, suc, ◌+◌, ◌<◌, ◌≤◌, Bool, List, [], ◌∷◌, ◌++◌, length, drop, get_or, Option, Some, sym, ap, ◌∙◌, append_assoc, arith}
use Rattle.std.proofs.lemmas.List.{drop_more, drop-drop}
use Rattle.dh_syntax.specs.Text.LexLocations.{Component, Components, a_component_more, by_component, by_url_char, components, url_char_len, url_chars_len}
use Rattle.dh_syntax.proofs.LexingLaws.{components-skip, more_bytes, url_chars_len-skip}
use Rattle.dh_tokens.proofs.Runs.{byte_within}

-- components behind others that take so many bytes
abbrev pub before : List (List ℕ) → ℕ → Components → Components
before texts n cs = record { texts = texts ++ cs.texts; total = n + cs.total }

-- one character of a URL further on
pub url_chars-step : (plain : ℕ → Bool) (bs : List ℕ) (n : ℕ) → 0 < n → n ≤ length bs → n ≡ url_char_len plain bs → url_chars_len plain 0 bs ≡ n + url_chars_len plain 0 (drop n bs)
url_chars-step plain [] n some within e = absurd (omega (arith, some, within))
url_chars-step plain (b ∷ bs) zero some within e = absurd (omega (arith, some))
url_chars-step plain (b ∷ bs) (suc n) some within e =
    let s : suc (n + url_chars_len plain 0 (drop n bs)) ≡ suc n + url_chars_len plain 0 (drop n bs) = omega arith in
    ap (λ k. by_url_char k (λ m. url_chars_len plain m bs)) (sym e) ∙ ap suc (url_chars_len-skip plain n bs (omega (arith, within))) ∙ s

-- a loop's step
pub url_chars-loop : (plain : ℕ → Bool) (bs here : List ℕ) (at n : ℕ) → here ≡ drop at bs → 0 < n → n ≤ length here → n ≡ url_char_len plain here
    → url_chars_len plain 0 bs ≡ at + url_chars_len plain 0 (drop at bs) → url_chars_len plain 0 bs ≡ at + n + url_chars_len plain 0 (drop (at + n) bs)
url_chars-loop plain bs here at n here_is some within e so_far =
    let next = url_chars_len plain 0 (drop n here) in
    let s : at + (n + next) ≡ at + n + next = omega arith in
    so_far
    ∙ ap (λ t. at + url_chars_len plain 0 t) (sym here_is)
    ∙ ap (λ k. at + k) (url_chars-step plain here n some within e)
    ∙ s
    ∙ ap (λ t. at + n + url_chars_len plain 0 t) (ap (drop n) here_is ∙ drop-drop n at bs)

-- a slash and a component
slash-step : (component : List ℕ → Option Component) (bs text : List ℕ) (len : ℕ) → component bs ≡ Some (record { text = text; len = len }) → len ≤ length bs
    → components component 0 (47 ∷ bs) ≡ a_component_more text (more_bytes len (components component 0 (drop len bs)))
slash-step component bs text len e within =
    ap (λ c. by_component c (λ n. components component n bs)) e ∙ ap (a_component_more text) (components-skip component len bs within)

before-component : (texts : List (List ℕ)) (text : List ℕ) (at len : ℕ) (cs : Components) → before texts at (a_component_more text (more_bytes len cs)) ≡ before (texts ++ text ∷ []) (at + (1 + len)) cs
before-component texts text at len cs =
    let texts_are : texts ++ text ∷ cs.texts ≡ (texts ++ text ∷ []) ++ cs.texts = sym (append_assoc texts (text ∷ []) cs.texts) in
    let total_is : at + suc (len + cs.total) ≡ at + (1 + len) + cs.total = omega arith in
    let shown : List (List ℕ) → ℕ → Components = λ ts n. record { texts = ts; total = n } in
    ap (λ ts. shown ts (at + suc (len + cs.total))) texts_are ∙ ap (shown ((texts ++ text ∷ []) ++ cs.texts)) total_is

-- a loop's step
pub components-loop : (component : List ℕ → Option Component) (bs here text piece : List ℕ) (texts texts' : List (List ℕ)) (at len : ℕ)
    → here ≡ drop (at + 1) bs → get_or bs at 0 ≡ 47 → Some (record { text = text; len = len }) ≡ component here → len ≤ length here → piece ≡ text → texts' ≡ texts ++ piece ∷ []
    → components component 0 bs ≡ before texts at (components component 0 (drop at bs))
    → components component 0 bs ≡ before texts' (at + (1 + len)) (components component 0 (drop (at + (1 + len)) bs))
components-loop component bs here text piece texts texts' at len here_is slash found within piece_is texts'_are so_far =
    let rest = components component 0 (drop len here) in
    let same_place : at + 1 + len ≡ at + (1 + len) = omega arith in
    so_far
    ∙ ap (λ t. before texts at (components component 0 t)) (drop_more bs at 0 (byte_within bs at (omega (arith, slash))) ∙ ap (λ b. b ∷ drop (at + 1) bs) slash ∙ ap (λ t. 47 ∷ t) (sym here_is))
    ∙ ap (before texts at) (slash-step component here text len (sym found) within)
    ∙ before-component texts text at len rest
    ∙ ap (λ ts. before ts (at + (1 + len)) rest) (ap (λ p. texts ++ p ∷ []) (sym piece_is) ∙ sym texts'_are)
    ∙ ap (λ t. before texts' (at + (1 + len)) (components component 0 t)) (ap (drop len) here_is ∙ drop-drop len (at + 1) bs ∙ ap (λ k. drop k bs) same_place)
