-- Places of the program as places of the definition.
use Rattle.std.specs.Prelude.{ℕ, zero, suc, List, [], ◌∷◌, Option, Some, None}
use Rattle.std.specs.Str.{IsCharBoundary}
use Rattle.dh_syntax.specs.declared.tokens.TokenKind.TheVariants as kinds
use Rattle.dh_syntax.specs.Text.LexForms.{Found, Is}
use Rattle.dh_syntax.specs.Text.Lexing.{Place, Outside, Interpolated, Among}
use Rattle.dh_tokens.specs.declared.forms.Found as read
use Rattle.dh_tokens.specs.declared.places.Literal.{Literal}
use Rattle.dh_tokens.specs.declared.places.Open.{Open}
use Rattle.dh_tokens.specs.declared.places.Open.TheVariants as opens
use Rattle.dh_tokens.specs.declared.places.Place as places
use Rattle.dh_tokens.specs.Inside.Forms.{EndsCharacter}

-- an interpolation with one more brace open
abbrev pub braced : Place → Place
braced Outside = Outside
braced (Interpolated braces f from place) = Interpolated (suc braces) f from place
braced (Among f from place) = Among f from place

-- a place with something more open in it
abbrev pub opening : Open → Place → Place
opening (opens.Interpolation l) place = Interpolated zero l.form l.from place
opening opens.Brace place = braced place

-- a place with these open in it, the outermost first
abbrev pub within : List Open → Place → Place
within [] place = place
within (o ∷ os) place = within os (opening o place)

-- the place where these are open, among the characters of a literal or not
abbrev pub placed : Option Literal → List Open → Place
placed None os = within os Outside
placed (Some l) os = Among l.form l.from (within os Outside)

-- a place
abbrev pub place_of : places.Place → Place
place_of p = placed p.among p.open.items

-- what is open outermost is an interpolation
abbrev pub IsRooted : List Open → Type 0
IsRooted [] = Unit {0}
IsRooted (opens.Interpolation l ∷ os) = Unit {0}
IsRooted (opens.Brace ∷ os) = ⊥

-- a place among the characters of a text stands where one of them begins
abbrev pub IsWhole : Place → ℕ → List ℕ → Type 0
IsWhole Outside at bs = Unit {0}
IsWhole (Interpolated braces f from place) at bs = Unit {0}
IsWhole (Among f from place) at bs = IsCharBoundary bs at

-- where a token of so many bytes among the characters of a text ends, one of them ends
abbrev pub EndsAmong : Place → read.Found → ℕ → List ℕ → Type 0
EndsAmong Outside found n bs = Unit {0}
EndsAmong (Interpolated braces f from place) found n bs = Unit {0}
EndsAmong (Among f from place) found n bs = EndsCharacter found n bs

-- a form that opens no text
abbrev pub OpensNoText : Found → Type 0
OpensNoText (Is (kinds.TextOpen f)) = ⊥
OpensNoText found = Unit {0}

-- a form may stand at a place: no text opens among the characters of another one
abbrev pub MayStand : Place → Found → Type 0
MayStand Outside found = Unit {0}
MayStand (Interpolated braces f from place) found = Unit {0}
MayStand (Among f from place) found = OpensNoText found
