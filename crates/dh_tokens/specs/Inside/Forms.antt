-- Forms of the program as forms of the definition.
use Rattle.std.specs.Prelude.{ℕ, ◌<◌, ◌≤◌, List, Option, Some, None}
use Rattle.std.specs.Str.{IsCharBoundary}
use Rattle.dh_syntax.specs.Text.LexForms as forms
use Rattle.dh_tokens.specs.declared.forms.Form.{Form}
use Rattle.dh_tokens.specs.declared.forms.Found.{Found}
use Rattle.dh_tokens.specs.declared.forms.Found.TheVariants as found

-- what a form is
abbrev pub found_of : Found → forms.Found
found_of found.White = forms.White
found_of found.SkippedLine = forms.SkippedLine
found_of (found.Is kind) = forms.Is kind
found_of found.LeftOut = forms.LeftOut
found_of found.TooWide = forms.TooWide
found_of (found.Faulty n) = forms.Faulty n
found_of found.Unclosed = forms.Unclosed

-- a form
abbrev pub form_of : Form → forms.Form
form_of f = record { found = found_of f.found; len = f.len }

-- the longer of two forms that may not be there, the first one where they are equally long
abbrev pub joined : Option forms.Form → Option forms.Form → Option forms.Form
joined None other = other
joined (Some f) other = Some (forms.longer f other)

-- a form takes some of so many bytes
abbrev pub IsWithin : Form → ℕ → Type 0
IsWithin f n = (0 < f.len) × (f.len ≤ n)

-- where a form of so many bytes that is no fault ends, a character ends
abbrev pub EndsCharacter : Found → ℕ → List ℕ → Type 0
EndsCharacter found.White n bs = IsCharBoundary bs n
EndsCharacter found.SkippedLine n bs = IsCharBoundary bs n
EndsCharacter (found.Is kind) n bs = IsCharBoundary bs n
EndsCharacter found.LeftOut n bs = Unit {0}
EndsCharacter found.TooWide n bs = Unit {0}
EndsCharacter (found.Faulty further) n bs = Unit {0}
EndsCharacter found.Unclosed n bs = Unit {0}

-- the place of a fault stands within its form
abbrev pub HasFaultWithin : forms.Found → ℕ → Type 0
HasFaultWithin (forms.Faulty further) n = further < n
HasFaultWithin found n = Unit {0}

-- a form whose fault, where it is one, stands within it
abbrev pub IsSound : forms.Form → Type 0
IsSound f = HasFaultWithin f.found f.len
