-- Laws of URLs at one place.
use Rattle.std.proofs.Common.{◌≡◌, ℕ, zero, suc, ◌+◌, ◌<◌, ◌≤◌, List, ◌∷◌, length, take, drop, get_or, Option, Some, Result, IfOk, IfSome, sym, ap, subst, ◌∙◌, arith}
use Rattle.std.proofs.lemmas.List.{drop_more, drop-drop}
use Rattle.dh_syntax.specs.declared.locations.Loc.{Loc}
use Rattle.dh_syntax.specs.declared.locations.Url.{Url}
use Rattle.dh_syntax.specs.declared.tokens.TokenKind.TheVariants as kinds
use Rattle.dh_syntax.specs.Text.LexForms.{Found, Form, Is, form}
use Rattle.dh_syntax.specs.Text.LexLocations.{Components, after_dot, components, label_len, more_labels, one_or_more, query_len, query_of, segment, url_form}
use Rattle.dh_syntax.proofs.LexingLaws.{more_labels-skip}
use Rattle.dh_tokens.specs.declared.forms.Form as read
use Rattle.dh_tokens.specs.declared.urls.Scheme.{Scheme}
use Rattle.dh_tokens.specs.declared.urls.Scheme.TheVariants as schemes
use Rattle.dh_tokens.specs.Inside.Forms.{IsWithin}
use Rattle.dh_tokens.specs.Inside.Urls.{scheme_len}
use Rattle.dh_tokens.proofs.FormLaws.{form-some}
use Rattle.dh_tokens.proofs.Runs.{byte_within}

dot-step : (bs : List ℕ) (n : ℕ) → 0 < n → n ≤ length bs → n ≡ label_len bs → more_labels 0 (46 ∷ bs) ≡ 1 + n + more_labels 0 (drop n bs)
dot-step bs zero some within e = absurd (omega (arith, some))
dot-step bs (suc n) some within e =
    let s : suc (suc n + more_labels 0 (drop (suc n) bs)) ≡ 1 + suc n + more_labels 0 (drop (suc n) bs) = omega arith in
    ap (λ k. after_dot k (λ m. more_labels m bs)) (sym e) ∙ ap suc (more_labels-skip (suc n) bs within) ∙ s

-- a loop's step
pub more_labels-loop : (bs here : List ℕ) (at n : ℕ) → here ≡ drop (at + 1) bs → get_or bs at 0 ≡ 46 → 0 < n → n ≤ length here → n ≡ label_len here
    → more_labels 0 bs ≡ at + more_labels 0 (drop at bs) → more_labels 0 bs ≡ at + (1 + n) + more_labels 0 (drop (at + (1 + n)) bs)
more_labels-loop bs here at n here_is dot some within e so_far =
    let next = more_labels 0 (drop n here) in
    let s : at + (1 + n + next) ≡ at + (1 + n) + next = omega arith in
    let same_place : at + 1 + n ≡ at + (1 + n) = omega arith in
    so_far
    ∙ ap (λ t. at + more_labels 0 t) (drop_more bs at 0 (byte_within bs at (omega (arith, dot))) ∙ ap (λ b. b ∷ drop (at + 1) bs) dot ∙ ap (λ t. 46 ∷ t) (sym here_is))
    ∙ ap (λ k. at + k) (dot-step here n some within e)
    ∙ s
    ∙ ap (λ t. at + (1 + n) + more_labels 0 t) (ap (drop n) here_is ∙ drop-drop n (at + 1) bs ∙ ap (λ k. drop k bs) same_place)

-- a URL by its parts
pub url_form-read : (kind : Url → Loc) (before n total : ℕ) (bs behind rest host : List ℕ) (comps comps' : List (List ℕ)) (query : Option (List ℕ)) (len : ℕ) (loc : Loc)
    → behind ≡ drop n bs → record { texts = comps; total = total } ≡ components segment 0 behind → rest ≡ drop total behind → query ≡ query_of rest → len ≡ query_len (query_of rest)
    → host ≡ take n bs → comps' ≡ one_or_more comps → loc ≡ kind (record { host = host; comps = comps'; query = query }) → 0 < before
    → Some (record { found = Is (kinds.Url loc); len = before + n + total + len }) ≡ url_form kind before n bs
url_form-read kind before n total bs behind rest host comps comps' query len loc behind_is comps_are rest_is query_is len_is host_is comps'_are loc_is some =
    let url_of : List ℕ → List (List ℕ) → Option (List ℕ) → Found = λ h cs q. Is (kinds.Url (kind (record { host = h; comps = cs; query = q }))) in
    let shown : Found → ℕ → Option Form = λ f l. Some (record { found = f; len = before + n + total + l }) in
    let by_components : Components → Option Form = λ cs.
    form (url_of (take n bs) (one_or_more cs.texts) (query_of (drop (n + cs.total) bs))) (before + n + cs.total + query_len (query_of (drop (n + cs.total) bs))) in
    let same_place = rest_is ∙ ap (drop total) behind_is ∙ drop-drop total n bs in
    let query' = query_of (drop (n + total) bs) in
    let more : 0 < before + n + total + query_len query' = omega (arith, some) in
    ap (λ l. shown (Is (kinds.Url l)) len) loc_is
    ∙ ap (λ h. shown (url_of h comps' query) len) host_is
    ∙ ap (λ cs. shown (url_of (take n bs) cs query) len) comps'_are
    ∙ ap (λ q. shown (url_of (take n bs) (one_or_more comps) q) len) (query_is ∙ ap query_of same_place)
    ∙ ap (shown (url_of (take n bs) (one_or_more comps) query')) (len_is ∙ ap (λ t. query_len (query_of t)) same_place)
    ∙ sym (form-some (url_of (take n bs) (one_or_more comps) query') (before + n + total + query_len query') more)
    ∙ ap by_components (comps_are ∙ ap (components segment 0) behind_is)

-- a scheme takes some bytes
pub scheme-some : (s : Scheme) → 0 < scheme_len s
scheme-some schemes.Http = omega arith
scheme-some schemes.Https = omega arith

-- within as many bytes
pub within_same : {E : Type 0} (r : Result (Option read.Form) E) (m n : ℕ) → m ≡ n → IfOk r (λ f. IfSome f (λ g. IsWithin g m)) → IfOk r (λ f. IfSome f (λ g. IsWithin g n))
within_same {E} r m n e h =
    let P : ℕ → Type 0 = λ k. IfOk r (λ f. IfSome f (λ g. IsWithin g k)) in
    subst P e h

-- the length of a URL by that of its scheme
pub url_len : (loc : Loc) (scheme before n total len : ℕ) → scheme ≡ before
    → ◌≡◌ {A = Option Form} (Some (record { found = Is (kinds.Url loc); len = scheme + n + total + len })) (Some (record { found = Is (kinds.Url loc); len = before + n + total + len }))
url_len loc scheme before n total len e =
    let shown : ℕ → Option Form = λ k. Some (record { found = Is (kinds.Url loc); len = k + n + total + len }) in
    ap shown e
