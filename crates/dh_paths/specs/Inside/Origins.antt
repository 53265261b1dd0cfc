-- Origins as the tests on imports hold them.
use Rattle.std.specs.Prelude.{ℕ, Bool, true, false, List, ◌++◌, codes}
use Rattle.dh_paths.specs.declared.checks.WebOrigin.{WebOrigin}

-- the scheme of an origin, with `://` behind it
abbrev pub scheme_text : Bool → List ℕ
scheme_text true = codes "https://"
scheme_text false = codes "http://"

-- the text of an origin
abbrev pub origin_text : WebOrigin → List ℕ
origin_text o = scheme_text o.secure ++ o.host.now
