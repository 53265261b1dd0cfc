-- What two runs of `steps` on one input write where no step leads on from their ends.
use Rattle.std.specs.Prelude.{◌≡◌, ℕ, List, ◌++◌, Ok}
use Rattle.dh_command.specs.declared.commands.Command.{Command}
use Rattle.dh_command.specs.declared.verbs.Verb.TheVariants as verb
use Rattle.dh_command.specs.Answer.{CommandAnswer}
use Rattle.dh_command.specs.Responses.{Response, line}
use Rattle.dh_command.specs.Words.{Word, command_of}
use Rattle.dh_imports.specs.Records.{Record}
use Rattle.dh_steps.specs.StepLines.{settled_line}

-- the words are a command line of `steps`, by which the input is answered with this line and then `normal`
abbrev pub TellsSettled : List Word → List ℕ → List ℕ → Type 0
TellsSettled words input text =
    (c : Command) × (rs : List Record) × (w : Response) × (command_of words ≡ Ok c) × (c.verb ≡ verb.Steps) × CommandAnswer words input rs w
    × (w.out ≡ line text ++ line settled_line)

-- Whatever places two command lines name, if both are answered with `normal` in the second line, they have the same first line.
abbrev pub SettledRuns : Type 0
SettledRuns = (words others : List Word) (input text other : List ℕ) → TellsSettled words input text → TellsSettled others input other → text ≡ other
