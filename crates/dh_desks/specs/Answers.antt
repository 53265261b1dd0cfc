-- What errors of the system mean, and what is answered where no file needs to be asked.
use Rattle.std.specs.Prelude.{◌≡◌, ◌⊎◌, ⊤, Result, MatchResult, IsErr}
use Rattle.std.specs.declared.io.ErrorKind.{ErrorKind}
use Rattle.std.specs.declared.io.ErrorKind.TheVariants.{NotFound, NotADirectory, IsADirectory}
use Rattle.dh_ports.specs.declared.desks.DeskError.{DeskError}
use Rattle.dh_ports.specs.declared.desks.DeskError.TheVariants.{Memory}
use Rattle.dh_ports.specs.declared.worlds.Got.{Got}
use Rattle.dh_ports.specs.declared.worlds.Got.TheVariants.{Absent, Broken}
use Rattle.dh_desks.specs.declared.places.Source.{Source}
use Rattle.dh_desks.specs.declared.places.Source.TheVariants as at

-- nothing has that name, a file stands where the path has a folder, or the name is that of a folder
abbrev pub MeansNoFile : ErrorKind → Type 0
MeansNoFile kind = (kind ≡ NotFound) ⊎ (kind ≡ NotADirectory) ⊎ (kind ≡ IsADirectory)

-- the answer, unless memory is wanting
abbrev pub AnswersOnly : {A : Type 0} → Result A DeskError → A → Type 0
AnswersOnly r x = MatchResult r (λ y. y ≡ x) (λ e. e ≡ Memory)

-- what a place alone decides of the answer
abbrev pub DecidedBy : Source → Result Got DeskError → Type 0
DecidedBy (at.File path) r = ⊤
DecidedBy (at.Variable name) r = ⊤
DecidedBy at.Nowhere r = AnswersOnly r Absent
DecidedBy (at.Web u) r = ⊤
DecidedBy at.Barred r = AnswersOnly r (Broken 0)
DecidedBy at.Untold r = IsErr r
