-- URLs by their scheme.
use Rattle.std.specs.Prelude.{ℕ}
use Rattle.dh_syntax.specs.declared.locations.Loc.{Loc}
use Rattle.dh_syntax.specs.declared.locations.Loc.TheVariants as locs
use Rattle.dh_syntax.specs.declared.locations.Url.{Url}
use Rattle.dh_tokens.specs.declared.urls.Scheme.{Scheme}
use Rattle.dh_tokens.specs.declared.urls.Scheme.TheVariants as schemes

-- how many bytes a scheme takes with `://`
abbrev pub scheme_len : Scheme → ℕ
scheme_len schemes.Http = 7
scheme_len schemes.Https = 8

-- the location with this scheme
abbrev pub scheme_loc : Scheme → Url → Loc
scheme_loc schemes.Http = locs.Http
scheme_loc schemes.Https = locs.Https
