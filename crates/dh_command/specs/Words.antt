-- The words of the command line, the program's name left out.
use Rattle.std.specs.Prelude.{ℕ, Bool, true, false, ◌&&◌, ◌||◌, not, nat_le, ◌==◌, if◌then◌else◌, List, [], ◌∷◌, drop, Option, Some, None, option_map, find, Result, Ok, Err, IsOk, MatchBool, codes}
use Rattle.std.specs.Char.{is_ascii_digit}
use Rattle.std.specs.List.{list_all}
use Rattle.std.specs.Str.{byte}
use Rattle.std.specs.Str.Parse.{digits_value}
use Rattle.dh_command.specs.declared.commands.Command.{Command}
use Rattle.dh_command.specs.declared.verbs.Verb.{Verb}
use Rattle.dh_command.specs.declared.verbs.Verb.TheVariants as verb
use Rattle.dh_explain.specs.RuleWords.{operand_text}
use Rattle.dh_files.specs.FileWords.{operand_files}
use Rattle.dh_gen.specs.NumberWords.{operand_number}
use Rattle.dh_syntax.specs.Expressions.Numbers.{bytes_eq}
use Rattle.dh_steps.specs.StepWords.{most_places, operand_places}
use Rattle.dh_syntax.specs.Limits.{most_workers, default_workers}

-- a word, as its bytes
abbrev pub Word : Type 0
Word = List ℕ

-- ---- the commands

-- each word that names a command, with the command
abbrev pub named : List (Word × Verb)
named =
    (codes "encode", verb.Encode) ∷ (codes "decode", verb.Decode) ∷ (codes "resolve", verb.Resolve) ∷ (codes "type", verb.Type) ∷ (codes "normalize", verb.Normalize)
    ∷ (codes "hash", verb.Hash) ∷ (codes "to-json", verb.ToJson) ∷ (codes "freeze", verb.Freeze) ∷ (codes "batch", verb.Batch)
    ∷ (codes "steps", verb.Steps)
    ∷ (codes "gen", verb.Gen)
    ∷ (codes "explain", verb.Explain) ∷ (codes "help", verb.Help) ∷ (codes "--help", verb.Help) ∷ (codes "-h", verb.Help) ∷ (codes "--version", verb.Version) ∷ []

-- which commands read their input
abbrev pub reads : Verb → Bool
reads verb.Encode = true
reads verb.Decode = true
reads verb.Resolve = true
reads verb.Type = true
reads verb.Normalize = true
reads verb.Hash = true
reads verb.ToJson = true
reads verb.Freeze = true
reads verb.Batch = false
reads verb.Steps = true
reads verb.Gen = false
reads verb.Explain = false
reads verb.Help = false
reads verb.Version = false

-- which commands resolve the imports of their input
abbrev pub resolves : Verb → Bool
resolves verb.Encode = false
resolves verb.Decode = false
resolves verb.Resolve = true
resolves verb.Type = true
resolves verb.Normalize = true
resolves verb.Hash = true
resolves verb.ToJson = true
resolves verb.Freeze = true
resolves verb.Batch = false
resolves verb.Steps = false
resolves verb.Gen = false
resolves verb.Explain = false
resolves verb.Help = false
resolves verb.Version = false

-- which of them infer a type
abbrev pub types : Verb → Bool
types verb.Encode = false
types verb.Decode = false
types verb.Resolve = false
types verb.Type = true
types verb.Normalize = true
types verb.Hash = true
types verb.ToJson = true
types verb.Freeze = false
types verb.Batch = false
types verb.Steps = false
types verb.Gen = false
types verb.Explain = false
types verb.Help = false
types verb.Version = false

-- which of them find a normal form too
abbrev pub takes_form : Verb → Bool
takes_form verb.Encode = false
takes_form verb.Decode = false
takes_form verb.Resolve = false
takes_form verb.Type = false
takes_form verb.Normalize = true
takes_form verb.Hash = true
takes_form verb.ToJson = true
takes_form verb.Freeze = false
takes_form verb.Batch = false
takes_form verb.Steps = false
takes_form verb.Gen = false
takes_form verb.Explain = false
takes_form verb.Help = false
takes_form verb.Version = false

-- how many places may be the operands of a command
abbrev pub most_operands : Verb → ℕ
most_operands verb.Encode = 0
most_operands verb.Decode = 0
most_operands verb.Resolve = 0
most_operands verb.Type = 0
most_operands verb.Normalize = 0
most_operands verb.Hash = 0
most_operands verb.ToJson = 0
most_operands verb.Freeze = 0
most_operands verb.Batch = 0
most_operands verb.Steps = most_places
most_operands verb.Gen = 0
most_operands verb.Explain = 0
most_operands verb.Help = 0
most_operands verb.Version = 0

-- whether the operand of a command is the number of a rule of typing
abbrev pub takes_rule : Verb → Bool
takes_rule verb.Encode = false
takes_rule verb.Decode = false
takes_rule verb.Resolve = false
takes_rule verb.Type = false
takes_rule verb.Normalize = false
takes_rule verb.Hash = false
takes_rule verb.ToJson = false
takes_rule verb.Freeze = false
takes_rule verb.Batch = false
takes_rule verb.Steps = false
takes_rule verb.Gen = false
takes_rule verb.Explain = true
takes_rule verb.Help = false
takes_rule verb.Version = false

-- whether the operands of a command are files
abbrev pub takes_files : Verb → Bool
takes_files verb.Encode = false
takes_files verb.Decode = false
takes_files verb.Resolve = false
takes_files verb.Type = false
takes_files verb.Normalize = false
takes_files verb.Hash = false
takes_files verb.ToJson = false
takes_files verb.Freeze = false
takes_files verb.Batch = true
takes_files verb.Steps = false
takes_files verb.Gen = false
takes_files verb.Explain = false
takes_files verb.Help = false
takes_files verb.Version = false

-- whether the operand of a command is the number of a generated text
abbrev pub takes_number : Verb → Bool
takes_number verb.Gen = true
takes_number _ = false

-- which commands use desks: those that resolve the imports of their input, or the imports that files are
abbrev pub uses_desks : Verb → Bool
uses_desks v = resolves v || takes_files v

-- the command that a word names
abbrev pub verb_of : Word → Option Verb
verb_of w = option_map (λ p. p.1) (find (λ p. bytes_eq p.0 w) named)

-- ---- command lines

-- a number of workers in decimal, without leading zeros
abbrev pub is_count : Word → Bool
is_count [] = false
is_count (b ∷ bs) = not (b == byte "0") && list_all is_ascii_digit (b ∷ bs)

-- how many workers a word asks for, from 1 to the most
abbrev pub workers_of : Word → Option ℕ
workers_of w = if is_count w && nat_le (digits_value 10 w) most_workers then Some (digits_value 10 w) else None

-- a command whose operands name something
abbrev pub with_operands : {X : Type 0} → Command → Result X ℕ → Result Command ℕ
with_operands c (Ok named) = Ok c
with_operands c (Err k) = Err k

-- The operands of a command, which begin at the word of this number, from 1: the places of `steps`, the rule of `explain`, the files
-- of `batch`, or the number of `gen`. No other command has any.
abbrev pub operands : Verb → ℕ → ℕ → List Word → Result Command ℕ
operands v workers at ws =
    if takes_rule v
    then with_operands (record { verb = v; workers = workers }) (operand_text at ws)
    else if takes_files v
    then with_operands (record { verb = v; workers = workers }) (operand_files at ws)
    else if takes_number v
    then with_operands (record { verb = v; workers = workers }) (operand_number at ws)
    else with_operands (record { verb = v; workers = workers }) (operand_places (most_operands v) at ws)

-- a number of workers, and then operands
abbrev pub counted : Verb → List Word → Result Command ℕ
counted v [] = Err 3
counted v (w ∷ ws) = elim (workers_of w) [ None ↦ Err 3 | Some n ↦ operands v n 4 ws ]

-- what stands behind the name of a command: possibly `--workers` and a number, and then operands
abbrev pub options : Verb → List Word → Result Command ℕ
options v [] = operands v default_workers 2 []
options v (w ∷ ws) = if bytes_eq w (codes "--workers") then counted v ws else operands v default_workers 2 (w ∷ ws)

-- What the words ask for, or the number, from 1, of the first word that makes the list no prefix of a command line,
-- one more than the count where words are wanting.
abbrev pub command_of : List Word → Result Command ℕ
command_of [] = Err 1
command_of (w ∷ ws) = elim (verb_of w) [ None ↦ Err 1 | Some v ↦ options v ws ]

-- ---- the operands of a command line

-- what stands behind `--workers` and its number, where these stand first
abbrev pub behind_workers : List Word → List Word
behind_workers [] = []
behind_workers (w ∷ ws) = if bytes_eq w (codes "--workers") then drop 1 ws else w ∷ ws

-- the operands of a command line
abbrev pub operand_words : List Word → List Word
operand_words [] = []
operand_words (w ∷ ws) = behind_workers ws

-- operands that suit the command: a rule at most, files, a number, or so many places at most
abbrev pub AreFit : Verb → List Word → Type 0
AreFit v ops =
    MatchBool (takes_rule v) (IsOk (operand_text 1 ops)) (MatchBool (takes_files v) (IsOk (operand_files 1 ops))
    (MatchBool (takes_number v) (IsOk (operand_number 1 ops)) (IsOk (operand_places (most_operands v) 1 ops))))
