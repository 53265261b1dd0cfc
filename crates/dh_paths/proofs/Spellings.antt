-- A chained location can be spelled.
use Rattle.std.proofs.Common.{◌≡◌, ℕ, ◌/◌, ◌%◌, ◌<◌, ◌==◌, Bool, true, false, not, ◌&&◌, ◌||◌, if◌then◌else◌, List, [], ◌∷◌, ◌++◌, Option, Some, None, IsTrue, map, codes, refl, ◌∙◌, subst, ⊎_elim, arith}
use Rattle.std.specs.Char.{is_ascii_hexdigit}
use Rattle.std.specs.Fmt.{digit_glyph}
use Rattle.std.specs.List.{list_all}
use Rattle.std.proofs.lemmas.Bool.{agree_below, agree_below_at, cases_Bool}
use Rattle.std.proofs.lemmas.Bool.Decides.{nat_tests}
use Rattle.std.proofs.lemmas.List.Folds.{list_all-append}
use Rattle.dh_syntax.specs.declared.locations.Loc.{Loc}
use Rattle.dh_syntax.specs.declared.locations.Loc.TheVariants as locs
use Rattle.dh_syntax.specs.declared.locations.Url.{Url}
use Rattle.dh_syntax.specs.Expressions.Arity.{has_some}
use Rattle.dh_syntax.specs.Text.Characters.{is_quoted_path_byte}
use Rattle.dh_syntax.specs.Imports.Locations.{Comps, folder, file, is_dot, is_up, before_folder, canon_folder, canon_path, relative, canon, canon_url, joined_url, is_kept_in_url, percent_escape, url_component, joined, from_parent, chain}
use Rattle.dh_syntax.specs.Expressions.Spellable.{is_component, is_encoded, is_segment, is_host, query_spellable, url_spellable, location_spellable}
use Rattle.dh_syntax.proofs.Numbers.{and-true_left, and-true_right}
use Rattle.dh_paths.proofs.Escaping.{kept_more, escaped_more}
use Rattle.dh_paths.specs.LocationLaws.{parent_spellable}

and_from : (a b : Bool) → a ≡ true → b ≡ true → (a && b) ≡ true
and_from true b h k = k
and_from false b h k = h

-- ---- what holds of all components of a path holds of those that stay

all-append : (P : List ℕ → Bool) (f cs : Comps) → list_all P f ≡ true → list_all P cs ≡ true → list_all P (f ++ cs) ≡ true
all-append P f cs h k = list_all-append P f cs ∙ and_from (list_all P f) (list_all P cs) h k

all-folder : (P : List ℕ → Bool) (cs : Comps) → list_all P cs ≡ true → list_all P (folder cs) ≡ true
all-folder P [] h = refl
all-folder P (c ∷ []) h = refl
all-folder P (c ∷ d ∷ cs) h =
    and_from (P c) (list_all P (folder (d ∷ cs))) (and-true_left (P c) (list_all P (d ∷ cs)) h) (all-folder P (d ∷ cs) (and-true_right (P c) (list_all P (d ∷ cs)) h))

all-file : (P : List ℕ → Bool) (cs : Comps) → list_all P cs ≡ true → list_all P (file cs) ≡ true
all-file P [] h = refl
all-file P (c ∷ []) h = h
all-file P (c ∷ d ∷ cs) h = all-file P (d ∷ cs) (and-true_right (P c) (list_all P (d ∷ cs)) h)

all-if : (P : List ℕ → Bool) (b : Bool) (xs ys : Comps) → list_all P xs ≡ true → list_all P ys ≡ true → list_all P (if b then xs else ys) ≡ true
all-if P true xs ys h k = h
all-if P false xs ys h k = k

all-before : (P : List ℕ → Bool) (c : List ℕ) (f : Comps) → P c ≡ true → list_all P f ≡ true → list_all P (before_folder c f) ≡ true
all-before P c [] h k = all-if P (is_dot c) [] (c ∷ []) refl (and_from (P c) true h refl)
all-before P c (d ∷ ds) h k =
    all-if P (is_dot c) (d ∷ ds) (if is_up d && not (is_up c) then ds else c ∷ d ∷ ds) k
    (all-if P (is_up d && not (is_up c)) ds (c ∷ d ∷ ds) (and-true_right (P d) (list_all P ds) k) (and_from (P c) (list_all P (d ∷ ds)) h k))

all-canon_folder : (P : List ℕ → Bool) (cs : Comps) → list_all P cs ≡ true → list_all P (canon_folder cs) ≡ true
all-canon_folder P [] h = refl
all-canon_folder P (c ∷ cs) h =
    all-before P c (canon_folder cs) (and-true_left (P c) (list_all P cs) h) (all-canon_folder P cs (and-true_right (P c) (list_all P cs) h))

all-canon_path : (P : List ℕ → Bool) (cs : Comps) → list_all P cs ≡ true → list_all P (canon_path cs) ≡ true
all-canon_path P cs h =
    all-append P (canon_folder (folder cs)) (file cs) (all-canon_folder P (folder cs) (all-folder P cs h)) (all-file P cs h)

all-joined : (P : List ℕ → Bool) (ps cs : Comps) → list_all P ps ≡ true → list_all P cs ≡ true → list_all P (joined ps cs) ≡ true
all-joined P ps cs h k = all-canon_path P (folder ps ++ cs) (all-append P (folder ps) cs (all-folder P ps h) k)

relative-spellable : (cs : Comps) → list_all is_component cs ≡ true → location_spellable (relative cs) ≡ true
relative-spellable [] h = refl
relative-spellable (c ∷ []) h = h
relative-spellable (c ∷ d ∷ cs) h =
    elim (is_up c) as (λ b. location_spellable (if b then locs.Parent (d ∷ cs) else locs.Here (c ∷ d ∷ cs)) ≡ true) [
      | true ↦ and-true_right (is_component c) (list_all is_component (d ∷ cs)) h
      | false ↦ h
    ]

-- ---- escaped components

digits_checked : agree_below (λ d. is_ascii_hexdigit (digit_glyph true d)) (λ _. true) 16 ≡ true
digits_checked = refl

glyph_is_digit : (d : ℕ) → d < 16 → is_ascii_hexdigit (digit_glyph true d) ≡ true
glyph_is_digit d h = agree_below_at (λ n. is_ascii_hexdigit (digit_glyph true n)) (λ _. true) 16 d digits_checked h

or_left : (a b : Bool) → a ≡ true → (a || b) ≡ true
or_left true b h = refl
or_left false b h = cc

or_right : (a b : Bool) → b ≡ true → (a || b) ≡ true
or_right true b h = refl
or_right false b h = h

kept-encoded : (b : ℕ) (bs : List ℕ) → is_kept_in_url b ≡ true → is_segment bs ≡ true → is_segment (b ∷ bs) ≡ true
kept-encoded b bs k h =
    or_right (b == 37 && is_encoded is_kept_in_url 2 bs) (is_kept_in_url b && is_segment bs) (and_from (is_kept_in_url b) (is_segment bs) k h)

escape-encoded : (b : ℕ) (bs : List ℕ) → b < 256 → is_segment bs ≡ true → is_segment (percent_escape b ++ bs) ≡ true
escape-encoded b bs small h =
    let high = digit_glyph true (b / 16) in
    let low = digit_glyph true (b % 16) in
    let digits : (is_ascii_hexdigit high && (is_ascii_hexdigit low && is_segment bs)) ≡ true =
    and_from (is_ascii_hexdigit high) (is_ascii_hexdigit low && is_segment bs) (glyph_is_digit (b / 16) (omega arith)) (and_from (is_ascii_hexdigit low) (is_segment bs) (glyph_is_digit (b % 16) (omega arith)) h)
    in or_left (is_ascii_hexdigit high && (is_ascii_hexdigit low && is_segment bs)) (is_kept_in_url 37 && is_segment (high ∷ low ∷ bs)) digits

small-byte : (b : ℕ) → is_quoted_path_byte b ≡ true → b < 256
small-byte b h = grind (arith, nat_tests)

component-segment : (c : List ℕ) → list_all is_quoted_path_byte c ≡ true → is_segment (url_component c) ≡ true
component-segment [] h = refl
component-segment (b ∷ bs) h =
    let rest = component-segment bs (and-true_right (is_quoted_path_byte b) (list_all is_quoted_path_byte bs) h) in
    let small = small-byte b (and-true_left (is_quoted_path_byte b) (list_all is_quoted_path_byte bs) h) in
    ⊎_elim
    (λ e. subst (λ l. is_segment l ≡ true) (kept_more b bs e) (kept-encoded b (url_component bs) e rest))
    (λ e. subst (λ l. is_segment l ≡ true) (escaped_more b bs e) (escape-encoded b (url_component bs) small rest))
    (cases_Bool (is_kept_in_url b))

segments : (cs : Comps) → list_all is_component cs ≡ true → list_all is_segment (map url_component cs) ≡ true
segments [] h = refl
segments (c ∷ cs) h =
    let first = and-true_right (has_some c) (list_all is_quoted_path_byte c) (and-true_left (is_component c) (list_all is_component cs) h) in
    and_from (is_segment (url_component c)) (list_all is_segment (map url_component cs)) (component-segment c first) (segments cs (and-true_right (is_component c) (list_all is_component cs) h))

-- ---- locations

url-parts : (u : Url) → url_spellable u ≡ true → (is_host u.host ≡ true) × (list_all is_segment u.comps ≡ true) × (query_spellable u.query ≡ true)
url-parts u h =
    let front = and-true_left (is_host u.host && list_all is_segment u.comps) (query_spellable u.query) h in
    (and-true_left (is_host u.host) (list_all is_segment u.comps) front, and-true_right (is_host u.host) (list_all is_segment u.comps) front, and-true_right (is_host u.host && list_all is_segment u.comps) (query_spellable u.query) h)

url-whole : (u : Url) → is_host u.host ≡ true → list_all is_segment u.comps ≡ true → query_spellable u.query ≡ true → url_spellable u ≡ true
url-whole u h k q = and_from (is_host u.host && list_all is_segment u.comps) (query_spellable u.query) (and_from (is_host u.host) (list_all is_segment u.comps) h k) q

canon_url-spellable : (u : Url) → url_spellable u ≡ true → url_spellable (canon_url u) ≡ true
canon_url-spellable u h = let parts = url-parts u h in url-whole (canon_url u) parts.0 (all-canon_path is_segment u.comps parts.1) parts.2

joined_url-spellable : (u : Url) (cs : Comps) → url_spellable u ≡ true → list_all is_component cs ≡ true → url_spellable (joined_url u cs) ≡ true
joined_url-spellable u cs h k =
    let parts = url-parts u h in url-whole (joined_url u cs) parts.0 (all-joined is_segment u.comps (map url_component cs) parts.1 (segments cs k)) refl

canon-spellable : (l : Loc) → location_spellable l ≡ true → location_spellable (canon l) ≡ true
canon-spellable (locs.Abs cs) h = all-canon_path is_component cs h
canon-spellable (locs.Here cs) h = relative-spellable (canon_path cs) (all-canon_path is_component cs h)
canon-spellable (locs.Parent cs) h = all-canon_path is_component cs h
canon-spellable (locs.Home cs) h = all-canon_path is_component cs h
canon-spellable (locs.Http u) h = canon_url-spellable u h
canon-spellable (locs.Https u) h = canon_url-spellable u h
canon-spellable (locs.Env x) h = h
canon-spellable locs.Missing h = h

from_parent-spellable : (p child : Loc) (cs : Comps) → location_spellable p ≡ true → location_spellable child ≡ true → list_all is_component cs ≡ true → location_spellable (from_parent p child cs) ≡ true
from_parent-spellable (locs.Abs ps) child cs p c h = all-joined is_component ps cs p h
from_parent-spellable (locs.Here ps) child cs p c h = relative-spellable (joined ps cs) (all-joined is_component ps cs p h)
from_parent-spellable (locs.Parent ps) child cs p c h = relative-spellable (joined (codes ".." ∷ ps) cs) (all-joined is_component (codes ".." ∷ ps) cs p h)
from_parent-spellable (locs.Home ps) child cs p c h = all-joined is_component ps cs p h
from_parent-spellable (locs.Http u) child cs p c h = joined_url-spellable u cs p h
from_parent-spellable (locs.Https u) child cs p c h = joined_url-spellable u cs p h
from_parent-spellable (locs.Env x) child cs p c h = canon-spellable child c
from_parent-spellable locs.Missing child cs p c h = canon-spellable child c

pub chain-spellable : (p : Option Loc) (child : Loc) → IsTrue (parent_spellable p) → IsTrue (location_spellable child) → IsTrue (location_spellable (chain p child))
chain-spellable None child p h = canon-spellable child h
chain-spellable (Some parent) (locs.Here cs) p h = from_parent-spellable parent (locs.Here cs) cs p h h
chain-spellable (Some parent) (locs.Parent cs) p h = from_parent-spellable parent (locs.Parent cs) (codes ".." ∷ cs) p h h
chain-spellable (Some parent) (locs.Abs cs) p h = canon-spellable (locs.Abs cs) h
chain-spellable (Some parent) (locs.Home cs) p h = canon-spellable (locs.Home cs) h
chain-spellable (Some parent) (locs.Http u) p h = canon-spellable (locs.Http u) h
chain-spellable (Some parent) (locs.Https u) p h = canon-spellable (locs.Https u) h
chain-spellable (Some parent) (locs.Env x) p h = h
chain-spellable (Some parent) locs.Missing p h = h
