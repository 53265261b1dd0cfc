-- A location or a digest is longer than the name at its start.
use Rattle.std.proofs.Common.{◌≡◌, ℕ, ◌+◌, ◌<◌, Bool, true, false, if◌then◌else◌, ◌&&◌, ◌==◌, ltb, slice_index, List, [], ◌∷◌, ◌++◌, take, drop, codes, Option, Some, None, IfSome, refl, sym, ap, ◌∙◌, arith}
use Rattle.std.proofs.lemmas.Bool.{lt-ltb}
use Rattle.std.specs.List.{prefix_len}
use Rattle.dh_syntax.specs.declared.locations.Loc.{Loc}
use Rattle.dh_syntax.specs.declared.locations.Loc.TheVariants as locs
use Rattle.dh_syntax.specs.declared.locations.Url.{Url}
use Rattle.dh_syntax.specs.declared.tokens.TokenKind.TheVariants as kinds
use Rattle.dh_syntax.specs.Text.Characters.{first, begins, is_environment_byte, is_environment_start, is_quoted_environment_byte}
use Rattle.dh_syntax.specs.Text.LexForms.{Is, LeftOut, Form, form, longest}
use Rattle.dh_syntax.specs.Text.LexLocations.{after_env, after_scheme, after_sha256, components, digest, host_len, one_or_more, query_len, query_of, segment, url_form, environment, plain_environment, quoted_environment, url}
use Rattle.dh_syntax.specs.Text.LexNames.{name}
use Rattle.dh_tokens.proofs.FormProperties.{form-has, has-at, if-has, when-has}
use Rattle.dh_tokens.proofs.FrontBytes.{at_front}
use Rattle.dh_tokens.proofs.FrontLaws.{digest-has}

abbrev IsLonger : ℕ → Form → Type 0
IsLonger n f = n < f.len

-- the forms at a word
abbrev pub word_forms : List ℕ → Option Form
word_forms bs = longest (name bs ∷ url bs ∷ environment bs ∷ digest bs ∷ [])

url_form-long : (kind : Url → Loc) (before n : ℕ) (bs : List ℕ) → 5 < before → IfSome (url_form kind before n bs) (IsLonger 5)
url_form-long kind before n bs some =
    let cs = components segment 0 (drop n bs) in
    let query = query_of (drop (n + cs.total) bs) in
    let len = before + n + cs.total + query_len query in
    let found = Is (kinds.Url (kind (record { host = take n bs; comps = one_or_more cs.texts; query = query }))) in
    let long : 0 < len → 5 < len = λ more. omega arith in
    form-has (IsLonger 5) found len long

after_scheme-long : (kind : Url → Loc) (before : ℕ) (bs : List ℕ) → 5 < before → IfSome (after_scheme kind before bs) (IsLonger 5)
after_scheme-long kind before bs some =
    let P : Form → Type 0 = IsLonger 5 in
    let n = host_len bs in
    let bracket = form LeftOut (1 + before) in
    let user = form LeftOut (1 + before + n) in
    let whole = url_form kind before n bs in
    let by_host = if slice_index bs n == 64 then user else whole in
    let bracketed : (0 < 1 + before) → 5 < 1 + before = λ more. omega arith in
    let with_user : (0 < 1 + before + n) → 5 < 1 + before + n = λ more. omega arith in
    if-has P (first bs == 91) bracket (if n == 0 then None else by_host) (λ yes'. form-has P LeftOut (1 + before) bracketed)
    (λ no'. if-has P (n == 0) None by_host (λ none. tt) (λ some'. if-has P (slice_index bs n == 64) user whole (λ at. form-has P LeftOut (1 + before + n) with_user) (λ plain. url_form-long kind before n bs some)))

url-long : (bs : List ℕ) → IfSome (url bs) (IsLonger 5)
url-long bs =
    let secure = if begins "https://" bs then after_scheme locs.Https 8 (drop 8 bs) else None in
    if-has (IsLonger 5) (begins "http://" bs) (after_scheme locs.Http 7 (drop 7 bs)) secure (λ yes'. after_scheme-long locs.Http 7 (drop 7 bs) (omega arith))
    (λ no'. when-has (IsLonger 5) (begins "https://" bs) (after_scheme locs.Https 8 (drop 8 bs)) (λ yes'. after_scheme-long locs.Https 8 (drop 8 bs) (omega arith)))

plain_environment-long : (bs : List ℕ) → IfSome (plain_environment bs) (IsLonger 3)
plain_environment-long bs =
    let P : Form → Type 0 = IsLonger 3 in
    let n = prefix_len is_environment_byte bs in
    let long : 0 < 4 + n → 3 < 4 + n = λ more. omega arith in
    let found = Is (kinds.Environment (take n bs)) in
    when-has P (is_environment_start (first bs)) (form found (4 + n)) (λ starts. form-has P found (4 + n) long)

quoted_environment-long : (bs : List ℕ) → IfSome (quoted_environment bs) (IsLonger 3)
quoted_environment-long bs =
    let P : Form → Type 0 = IsLonger 3 in
    let n = prefix_len is_quoted_environment_byte (drop 1 bs) in
    let long : 0 < 6 + n → 3 < 6 + n = λ more. omega arith in
    let found = Is (kinds.Environment (take n (drop 1 bs))) in
    let closed = ltb 0 n && slice_index bs (1 + n) == 34 in
    if-has P (slice_index bs (1 + n) == 92) (form LeftOut (6 + n)) (if closed then form found (6 + n) else None) (λ escapes. form-has P LeftOut (6 + n) long)
    (λ plain. when-has P closed (form found (6 + n)) (λ closes. form-has P found (6 + n) long))

environment-long : (bs : List ℕ) → IfSome (environment bs) (IsLonger 3)
environment-long bs =
    let rest = drop 4 bs in
    when-has (IsLonger 3) (begins "env:" bs) (after_env rest)
    (λ yes'. if-has (IsLonger 3) (first rest == 34) (quoted_environment rest) (plain_environment rest) (λ quoted. quoted_environment-long rest) (λ plain. plain_environment-long rest))

digest-long : (bs : List ℕ) → IfSome (digest bs) (IsLonger 6)
digest-long bs = let part : (n : ℕ) → 6 < 7 + n = λ n. omega arith in digest-has (IsLonger 6) bs (omega arith) part

longer-wins : (f g : Form) → f.len < g.len → Some (if ltb f.len g.len then g else f) ≡ Some g
longer-wins f g long = ap (λ (b : Bool). Some (if b then g else f)) (lt-ltb f.len g.len long)

-- the name of so many bytes that these are
abbrev name_of : List ℕ → ℕ → Form
name_of bs n = record { found = Is (kinds.Name bs); len = n }

http-word : (t : List ℕ) (f : Form) → url (codes "http://" ++ t) ≡ Some f → word_forms (codes "http://" ++ t) ≡ Some f
http-word t f e =
    let bs = codes "http://" ++ t in
    let long : 5 < f.len = has-at (IsLonger 5) (url bs) f (url-long bs) e in
    ap (λ u. longest (name bs ∷ u ∷ environment bs ∷ digest bs ∷ [])) e ∙ longer-wins (name_of (codes "http") 4) f (omega (arith, long))

https-word : (t : List ℕ) (f : Form) → url (codes "https://" ++ t) ≡ Some f → word_forms (codes "https://" ++ t) ≡ Some f
https-word t f e =
    let bs = codes "https://" ++ t in
    let long : 5 < f.len = has-at (IsLonger 5) (url bs) f (url-long bs) e in
    ap (λ u. longest (name bs ∷ u ∷ environment bs ∷ digest bs ∷ [])) e ∙ longer-wins (name_of (codes "https") 5) f (omega (arith, long))

url-by : (bs : List ℕ) (f : Form) (plain secure : Bool) → begins "http://" bs ≡ plain → begins "https://" bs ≡ secure → url bs ≡ Some f → word_forms bs ≡ Some f
url-by bs f true secure p s e = at_front (λ t. url t ≡ Some f → word_forms t ≡ Some f) (codes "http://") (λ t. http-word t f) bs p e
url-by bs f false true p s e = at_front (λ t. url t ≡ Some f → word_forms t ≡ Some f) (codes "https://") (λ t. https-word t f) bs s e
url-by bs f false false p s e =
    let by : Bool → Bool → Option Form = λ a b. if a then after_scheme locs.Http 7 (drop 7 bs) else if b then after_scheme locs.Https 8 (drop 8 bs) else None in
    let none : None ≡ Some f = sym (ap (λ a. by a (begins "https://" bs)) p ∙ ap (by false) s) ∙ e in
    absurd (cc)

pub word-url : (bs : List ℕ) (f : Form) → url bs ≡ Some f → word_forms bs ≡ Some f
word-url bs f e = url-by bs f (begins "http://" bs) (begins "https://" bs) refl refl e

passes : (test : Bool) (f : Option Form) (g : Form) → (if test then f else None) ≡ Some g → test ≡ true
passes true f g e = refl
passes false f g e = absurd (cc)

environment-word : (t : List ℕ) (f : Form) → environment (codes "env:" ++ t) ≡ Some f → word_forms (codes "env:" ++ t) ≡ Some f
environment-word t f e =
    let bs = codes "env:" ++ t in
    let long : 3 < f.len = has-at (IsLonger 3) (environment bs) f (environment-long bs) e in
    ap (λ v. longest (name bs ∷ url bs ∷ v ∷ digest bs ∷ [])) e ∙ longer-wins (name_of (codes "env") 3) f long

pub word-environment : (bs : List ℕ) (f : Form) → environment bs ≡ Some f → word_forms bs ≡ Some f
word-environment bs f e =
    at_front (λ t. environment t ≡ Some f → word_forms t ≡ Some f) (codes "env:") (λ t. environment-word t f) bs (passes (begins "env:" bs) (after_env (drop 4 bs)) f e) e

digest-word : (t : List ℕ) (f : Form) → digest (codes "sha256:" ++ t) ≡ Some f → word_forms (codes "sha256:" ++ t) ≡ Some f
digest-word t f e =
    let bs = codes "sha256:" ++ t in
    let long : 6 < f.len = has-at (IsLonger 6) (digest bs) f (digest-long bs) e in
    ap (λ d. longest (name bs ∷ url bs ∷ environment bs ∷ d ∷ [])) e ∙ longer-wins (name_of (codes "sha256") 6) f long

pub word-digest : (bs : List ℕ) (f : Form) → digest bs ≡ Some f → word_forms bs ≡ Some f
word-digest bs f e =
    at_front (λ t. digest t ≡ Some f → word_forms t ≡ Some f) (codes "sha256:") (λ t. digest-word t f) bs (passes (begins "sha256:" bs) (after_sha256 (drop 7 bs)) f e) e
