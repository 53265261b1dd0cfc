-- Laws of paths at one place.
use Rattle.std.proofs.Common.{◌≡◌, ℕ, ◌+◌, ◌<◌, Bool, if◌then◌else◌, List, drop, Option, Some, None, sym, ap, ◌∙◌, arith}
use Rattle.std.proofs.lemmas.Bool.{lt-ltb}
use Rattle.dh_syntax.specs.declared.locations.Loc.{Loc}
use Rattle.dh_syntax.specs.declared.tokens.TokenKind.TheVariants as kinds
use Rattle.dh_syntax.specs.Text.LexForms.{Form, Is, form}
use Rattle.dh_syntax.specs.Text.LexLocations.{Components, components, path, path_component, path_form}
use Rattle.dh_tokens.specs.declared.paths.Root.{Root}
use Rattle.dh_tokens.specs.Inside.Paths.{path_in, root_len, root_loc}
use Rattle.dh_tokens.proofs.FormLaws.{form-some}

-- a path with some component
path_form-some : (kind : List (List ℕ) → Loc) (before : ℕ) (cs : Components) → 0 < cs.total → Some (record { found = Is (kinds.Path (kind cs.texts)); len = before + cs.total }) ≡ path_form kind before cs
path_form-some kind before cs some =
    let found = Is (kinds.Path (kind cs.texts)) in
    let n = before + cs.total in
    let more : 0 < n = omega (arith, some) in
    sym (ap (λ (b : Bool). if b then form found n else None) (lt-ltb 0 cs.total some) ∙ form-some found n more)

-- a path by its root and its components
pub path_read : (root : Root) (bs here : List ℕ) (loc : Loc) (before total : ℕ) (comps : List (List ℕ)) → path bs ≡ path_in root bs → before ≡ root_len root → here ≡ drop before bs
    → record { texts = comps; total = total } ≡ components path_component 0 here → 0 < total → loc ≡ root_loc root comps
    → Some (record { found = Is (kinds.Path loc); len = before + total }) ≡ path bs
path_read root bs here loc before total comps path_is before_is here_is comps_are some loc_is =
    let cs : Components = record { texts = comps; total = total } in
    let shown : Loc → ℕ → Option Form = λ l n. Some (record { found = Is (kinds.Path l); len = n + total }) in
    ap (λ l. shown l before) loc_is
    ∙ ap (shown (root_loc root comps)) before_is
    ∙ path_form-some (root_loc root) (root_len root) cs some
    ∙ ap (path_form (root_loc root) (root_len root)) (comps_are ∙ ap (components path_component 0) (here_is ∙ ap (λ n. drop n bs) before_is))
    ∙ sym path_is
