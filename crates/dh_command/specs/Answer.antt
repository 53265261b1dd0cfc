-- What the command writes and how it ends, for every list of words and every input.
use Rattle.std.specs.Prelude.{◌≡◌, ◌≤◌, ◌<◌, ◌⊎◌, ℕ, IsTrue, List, [], ◌∷◌, ◌++◌, codes, drop, length, Option, Some, None, Result, Ok, Err, ⊤}
use Rattle.dh_command.specs.declared.commands.Command.{Command}
use Rattle.dh_syntax.specs.declared.faults.DecodeFault.{DecodeFault}
use Rattle.dh_syntax.specs.declared.faults.Ill.{Ill}
use Rattle.dh_syntax.specs.declared.faults.NormFault.{NormFault}
use Rattle.dh_syntax.specs.declared.faults.NormFault.TheVariants as limit
use Rattle.dh_syntax.specs.declared.faults.ParseFault.{ParseFault}
use Rattle.dh_syntax.specs.declared.faults.ParseFault.TheVariants as parse
use Rattle.dh_syntax.specs.declared.locations.Digest.{Digest}
use Rattle.dh_syntax.specs.declared.locations.Key.{Key}
use Rattle.dh_imports.specs.declared.outcomes.Blame.{Blame}
use Rattle.dh_imports.specs.declared.outcomes.Why.TheVariants as why
use Rattle.dh_command.specs.declared.statuses.Status.{Status}
use Rattle.dh_command.specs.declared.statuses.Status.TheVariants as status
use Rattle.dh_command.specs.declared.verbs.Verb.{Verb}
use Rattle.dh_command.specs.declared.verbs.Verb.TheVariants as verb
use Rattle.dh_syntax.specs.Bytes.Binary.{enc}
use Rattle.dh_syntax.specs.Bytes.BinaryFaults.{DecodesTo}
use Rattle.dh_syntax.specs.FaultLines.{decode_fault_line, norm_fault_line}
use Rattle.dh_command.specs.Responses.{Response, answer, fault, line, misspelt, misused, without_memory}
use Rattle.dh_imports.specs.FrozenTexts.{IsFrozenText}
use Rattle.dh_imports.specs.ImportFaults.{ill_of, in_item, why_line}
use Rattle.dh_command.specs.Statuses.{why_status}
use Rattle.dh_command.specs.PlacedFaults.{ill_line_at}
use Rattle.dh_command.specs.Telling.{help_text, version_text}
use Rattle.dh_command.specs.StepsReplies.{AreNamed, OperandsSucceed, steps_response}
use Rattle.dh_steps.specs.StepsAnswer.{StepsAnswer, StepsReply}
use Rattle.dh_command.specs.Words.{Word, command_of, operand_words, resolves, types, takes_form}
use Rattle.dh_explain.specs.RuleWords.{operand_text}
use Rattle.dh_files.specs.FileWords.{file_text}
use Rattle.dh_gen.specs.Generated.{list_text}
use Rattle.dh_gen.specs.NumberWords.{operand_number}
use Rattle.dh_json.specs.FaultLines.{no_json_line}
use Rattle.dh_json.specs.JsonValue.{json}
use Rattle.dh_syntax.specs.Expressions.Nesting.{nesting}
use Rattle.dh_syntax.specs.Expressions.Tree.{Term}
use Rattle.dh_syntax.specs.Bytes.Digests.{digest_of}
use Rattle.dh_imports.specs.Readings.{Reading, HasValue, IsReading, root_reading}
use Rattle.dh_imports.specs.Records.{Record}
use Rattle.dh_imports.specs.Replay.{ready, bad, looped, too_many}
use Rattle.dh_imports.specs.RootEnds.{EndsBy}
use Rattle.dh_imports.specs.TextPaths.{text_path}
use Rattle.dh_imports.specs.Walk.{Ask}
use Rattle.dh_syntax.specs.Limits.{most_bytes, most_nesting, whole_purse}
use Rattle.dh_syntax.specs.Normalising.Heads as heads
use Rattle.dh_syntax.specs.Normalising.Named.{names}
use Rattle.dh_syntax.specs.Normalising.Normal.{HasNormalForm, Normalises, IsLicensed, IsDeepLicensed}
use Rattle.dh_syntax.specs.Text.Printed.{digest_text, text_of}
use Rattle.dh_syntax.specs.Text.Spans.{Spans, SpellsAt}
use Rattle.dh_syntax.specs.Text.Spelling.{ParsesTo}
use Rattle.dh_syntax.specs.Typing.NamedTyping.{HasType, IsIll, IsTypeLimit}
use Rattle.serde_json.specs.Data.{Data}
use Rattle.serde_json.specs.Written.{compact_text}

-- the record where nothing is resolved
abbrev pub nothing_found : Record
nothing_found = record { texts = []; looks = []; limits = [] }

-- ---- the commands

-- `encode` writes the binary form of the expression that the input spells, or the fault of the input
abbrev pub encoded : Result Term ParseFault → Response
encoded (Ok e) = answer (enc e)
encoded (Err f) = misspelt f

-- `decode` writes the printed text of the expression that the input is the binary form of, or the fault of the input
abbrev pub decoded : Result Term DecodeFault → Response
decoded (Ok e) = answer (line (text_of e))
decoded (Err f) = fault (decode_fault_line f) status.Text

-- ---- `resolve`, `type`, `normalize`, `hash`, `to-json` and `freeze`

-- some number of units gives the expression this type
abbrev pub IsTyped : Term → Term → Type 0
IsTyped e t = (units : ℕ) × HasType [] e t units

-- `sha256:` and the digits
abbrev pub digest_line : Digest → List ℕ
digest_line d = drop 1 (digest_text (Some d))

-- what is printed of an expression of this type: the type, the normal form, or the JSON text or the digest of the normal form
pub data Prints (e t : Term) : Verb → List ℕ → Type 0 where
  its_type : nesting t ≤ most_nesting → Prints e t verb.Type (text_of t)
  its_form : (f : Term) → HasNormalForm names e f → nesting f ≤ most_nesting → Prints e t verb.Normalize (text_of f)
  its_value : (f : Term) (d : Data) → HasNormalForm names e f → nesting f ≤ most_nesting → json f ≡ Ok d → Prints e t verb.ToJson (compact_text d)
  its_digest : (f : Term) → HasNormalForm names e f → nesting f ≤ most_nesting → Prints e t verb.Hash (digest_line (digest_of f))

-- the limit may be named: for the typing, or for the normal form of what has a type
abbrev pub IsLimit : Verb → Term → NormFault → Type 0
IsLimit v e l = IsTypeLimit [] whole_purse e l ⊎ (IsTrue (takes_form v) × ((t : Term) × IsTyped e t) × IsLicensed names nesting whole_purse e l)

-- the line of a type fault that is found in an item with the values of its imports, at the place in the item's own text
pub record IsIllLine (i : Reading) (f : Ill) (bytes : List ℕ) : Type 0 where
  pub nodes : Spans
  pub stand : SpellsAt i.text i.spelled nodes
  pub line_is : bytes ≡ in_item i.at (ill_line_at i.text nodes (text_path i.at i.ask i.spelled f.path) f)

-- What is written of an expression with its values, by a command that infers its type.
pub data TypedAnswer (v : Verb) (i : Reading) (e : Term) (w : Response) : Type 0 where
  prints : (t : Term) (bytes : List ℕ) → IsTyped e t → Prints e t v bytes → w ≡ answer (line bytes) → TypedAnswer v i e w
  -- the first place that has no type, with its place in the text
  refuses : (f : Ill) (bytes : List ℕ) → IsIll [] e f.path f.rule → IsIllLine i f bytes → w ≡ fault bytes status.Ill → TypedAnswer v i e w
  limited : (l : NormFault) → ¬ (l ≡ limit.Memory) → IsLimit v e l → w ≡ fault (norm_fault_line l) status.Limit → TypedAnswer v i e w
  -- the first place of the normal form that has no JSON value
  no_value : (t f : Term) (place : List ℕ) → v ≡ verb.ToJson → IsTyped e t → HasNormalForm names e f → nesting f ≤ most_nesting → json f ≡ Err place
      → w ≡ fault (no_json_line place) status.NoJson → TypedAnswer v i e w

-- What is written of an expression with its values: `resolve` prints it, `freeze` writes its text with the digests of its imports and
-- no line feed, and the others infer its type.
pub data ValuedAnswer (v : Verb) (i : Reading) (e : Term) (w : Response) : Type 0 where
  itself : v ≡ verb.Resolve → w ≡ answer (line (text_of e)) → ValuedAnswer v i e w
  frozen : (bytes : List ℕ) → v ≡ verb.Freeze → IsFrozenText i.text i.spelled i.ask bytes → w ≡ answer bytes → ValuedAnswer v i e w
  typed : IsTrue (types v) → TypedAnswer v i e w → ValuedAnswer v i e w

-- the line of a fault of an item; a place without a type is told in the item's text
pub data BlameLine (r : Record) (b : Blame) (bytes : List ℕ) : Type 0 where
  why_alone : ill_of b.why ≡ None → bytes ≡ in_item b.at (why_line b.why) → BlameLine r b bytes
  with_place : (f : Ill) (i : Reading) (value : Term) → ill_of b.why ≡ Some f → i.at ≡ b.at → IsReading r i value → IsIll [] value f.path f.rule
      → IsIllLine i f bytes → BlameLine r b bytes

-- what is written where an item at fault decides
pub data FaultAnswer (r : Record) (b : Blame) (w : Response) : Type 0 where
  at_fault : (bytes : List ℕ) → BlameLine r b bytes → w ≡ fault bytes (why_status b.why) → FaultAnswer r b w

-- a loop is a fault of its least key, and too many keys are one of no key
abbrev pub cycle_at : Key → Blame
cycle_at j = record { at = Some j; why = why.Cycle }

-- the fault of having too many keys, which is at no key
abbrev pub too_many_keys : Blame
too_many_keys = record { at = None; why = why.TooMany }

-- What is written of the expression that a text spells, over what the run found: the answer to the expression with a value for each
-- import, or the fault that decides it.
pub data ResolvedAnswer (v : Verb) (text : List ℕ) (root : Term) (r : Record) (w : Response) : Type 0 where
  valued : (e : Term) (ask : Ask) → EndsBy r root (ready e) → HasValue r (root_reading text root ask) e → ValuedAnswer v (root_reading text root ask) e w
      → ResolvedAnswer v text root r w
  faulty : (b : Blame) → EndsBy r root (bad b) → FaultAnswer r b w → ResolvedAnswer v text root r w
  circular : (j : Key) → EndsBy r root (looped j) → FaultAnswer r (cycle_at j) w → ResolvedAnswer v text root r w
  overfull : EndsBy r root too_many → FaultAnswer r too_many_keys w → ResolvedAnswer v text root r w

-- what a command with these operands writes of its input, over what the run found
pub data Does (v : Verb) (ops : List Word) (input : List ℕ) (r : Record) (w : Response) : Type 0 where
  encodes : (e : Result Term ParseFault) → v ≡ verb.Encode → ParsesTo input e → w ≡ encoded e → Does v ops input r w
  decodes : (e : Result Term DecodeFault) → v ≡ verb.Decode → length input ≤ most_bytes → DecodesTo input e → w ≡ decoded e → Does v ops input r w
  -- more bytes than a text may have are no binary form either
  decodes_none : v ≡ verb.Decode → most_bytes < length input → w ≡ misspelt parse.TooLarge → Does v ops input r w
  spells : (e : Term) → IsTrue (resolves v) → ParsesTo input (Ok e) → ResolvedAnswer v input e r w → Does v ops input r w
  spells_none : (f : ParseFault) → IsTrue (resolves v) → ParsesTo input (Err f) → w ≡ misspelt f → Does v ops input r w
  takes_steps : (places : List (List ℕ)) (s : StepsReply) → v ≡ verb.Steps → AreNamed ops places → StepsAnswer places input s → w ≡ steps_response s → Does v ops input r w
  -- of the program itself, whatever the input
  explains : (text : List ℕ) → v ≡ verb.Explain → operand_text 1 ops ≡ Ok text → w ≡ answer text → Does v ops input r w
  helps : v ≡ verb.Help → w ≡ answer help_text → Does v ops input r w
  tells_version : v ≡ verb.Version → w ≡ answer version_text → Does v ops input r w

-- ---- `batch`

-- what is written of the file that a word names: what `hash` writes of its import, over what was found for it; or, where memory was
-- wanting for that, what is written then
pub data FileAnswer (word : Word) (r : Record) (w : Response) : Type 0 where
  hashes_file : Does verb.Hash [] (file_text word) r w → FileAnswer word r w
  file_lacks_memory : r ≡ nothing_found → w ≡ without_memory → FileAnswer word r w

-- the same for each file, in their order
pub data FileAnswers : List Word → List Record → List Response → Type 0 where
  no_file : FileAnswers [] [] []
  a_file : {word : Word} {words : List Word} {r : Record} {rs : List Record} {w : Response} {ws : List Response}
      → FileAnswer word r w → FileAnswers words rs ws → FileAnswers (word ∷ words) (r ∷ rs) (w ∷ ws)

-- the line of a file: the word that names it, and its digest or what is told of its fault
abbrev pub file_line : Word → Response → List ℕ
file_line word w = word ++ codes ": " ++ (w.out ++ w.err)

-- the lines of files
abbrev pub file_lines : List Word → List Response → List ℕ
file_lines (word ∷ words) (w ∷ ws) = file_line word w ++ file_lines words ws
file_lines _ _ = []

-- a status, or what follows where all is well
abbrev pub unless_ok : Status → Status → Status
unless_ok status.Ok s = s
unless_ok t s = t

-- the status of the first file that is not answered by its digest
abbrev pub first_fault : List Response → Status
first_fault [] = status.Ok
first_fault (w ∷ ws) = unless_ok w.status (first_fault ws)

-- the lines of all files on standard output, those of faults too
abbrev pub batched : List Word → List Response → Response
batched words ws = record { out = file_lines words ws; err = []; status = first_fault ws }

-- ---- all commands

-- What a command with these operands writes, over what the run found: one record for its input, or one for each of its files.
pub data DoesAll (v : Verb) (ops : List Word) (input : List ℕ) (rs : List Record) (w : Response) : Type 0 where
  on_input : (r : Record) → rs ≡ r ∷ [] → Does v ops input r w → DoesAll v ops input rs w
  on_files : (ws : List Response) → v ≡ verb.Batch → FileAnswers ops rs ws → w ≡ batched ops ws → DoesAll v ops input rs w

-- the answer to these words and this input, over what the run found
pub data CommandAnswer (words : List Word) (input : List ℕ) (rs : List Record) (w : Response) : Type 0 where
  usage : (k : ℕ) → command_of words ≡ Err k → w ≡ misused k → CommandAnswer words input rs w
  does : (c : Command) → command_of words ≡ Ok c → DoesAll c.verb (operand_words words) input rs w → CommandAnswer words input rs w

-- it has a type, and no limit may be named for its typing
abbrev pub IsTypedInTime : Term → Type 0
IsTypedInTime e = ((t : Term) × IsTyped e t) × ((l : NormFault) → ¬ (l ≡ limit.Memory) → ¬ IsTypeLimit [] whole_purse e l)

-- the purse suffices for the normal form, and it is not too deep
abbrev pub IsNormalInTime : Term → Type 0
IsNormalInTime e = ((f : Term) × (left : ℕ) × Normalises names whole_purse e (heads.Found f left)) × ¬ IsDeepLicensed names nesting e

-- its normal form has a JSON value
abbrev pub HasJson : Term → Type 0
HasJson e = (f : Term) × (d : Data) × HasNormalForm names e f × (json f ≡ Ok d)

-- the command answers this expression with its values by status 0
abbrev pub SucceedsOn : Verb → Term → Type 0
SucceedsOn verb.Encode e = ⊥
SucceedsOn verb.Decode e = ⊥
SucceedsOn verb.Resolve e = ⊤
SucceedsOn verb.Type e = IsTypedInTime e
SucceedsOn verb.Normalize e = IsTypedInTime e × IsNormalInTime e
SucceedsOn verb.Hash e = IsTypedInTime e × IsNormalInTime e
SucceedsOn verb.ToJson e = IsTypedInTime e × IsNormalInTime e × HasJson e
SucceedsOn verb.Freeze e = ⊤
SucceedsOn verb.Batch e = ⊥
SucceedsOn verb.Steps e = ⊥
SucceedsOn verb.Gen e = ⊥
SucceedsOn verb.Explain e = ⊥
SucceedsOn verb.Help e = ⊥
SucceedsOn verb.Version e = ⊥

-- the text spells an expression whose imports have values, and the command answers that
abbrev pub SucceedsBy : Verb → List ℕ → Record → Type 0
SucceedsBy v input r = (root : Term) × (e : Term) × ParsesTo input (Ok root) × EndsBy r root (ready e) × SucceedsOn v e

-- the command with these operands answers its input with status 0, over what was found for that
abbrev pub SucceedsOnInput : Verb → List Word → List ℕ → Record → Type 0
SucceedsOnInput verb.Encode ops input r = (e : Term) × ParsesTo input (Ok e)
SucceedsOnInput verb.Decode ops input r = (e : Term) × (length input ≤ most_bytes) × DecodesTo input (Ok e)
SucceedsOnInput verb.Resolve ops input r = SucceedsBy verb.Resolve input r
SucceedsOnInput verb.Type ops input r = SucceedsBy verb.Type input r
SucceedsOnInput verb.Normalize ops input r = SucceedsBy verb.Normalize input r
SucceedsOnInput verb.Hash ops input r = SucceedsBy verb.Hash input r
SucceedsOnInput verb.ToJson ops input r = SucceedsBy verb.ToJson input r
SucceedsOnInput verb.Freeze ops input r = SucceedsBy verb.Freeze input r
SucceedsOnInput verb.Batch ops input r = ⊥
SucceedsOnInput verb.Steps ops input r = OperandsSucceed ops input
SucceedsOnInput verb.Gen ops input r = ⊥
SucceedsOnInput verb.Explain ops input r = ⊤
SucceedsOnInput verb.Help ops input r = ⊤
SucceedsOnInput verb.Version ops input r = ⊤

-- each of these files has a digest, over what was found for it
abbrev pub FilesSucceed : List Word → List Record → Type 0
FilesSucceed [] [] = ⊤
FilesSucceed (word ∷ words) (r ∷ rs) = SucceedsBy verb.Hash (file_text word) r × FilesSucceed words rs
FilesSucceed _ _ = ⊥

-- the command with these operands answers with status 0, over what the run found
pub data Succeeds (v : Verb) (ops : List Word) (input : List ℕ) (rs : List Record) : Type 0 where
  input_succeeds : (r : Record) → rs ≡ r ∷ [] → SucceedsOnInput v ops input r → Succeeds v ops input rs
  files_succeed : v ≡ verb.Batch → FilesSucceed ops rs → Succeeds v ops input rs
  -- the list of the generated imports has a digest
  list_succeeds : (n : ℕ) (r : Record) → v ≡ verb.Gen → operand_number 1 ops ≡ Ok n → rs ≡ r ∷ [] → SucceedsBy verb.Hash (list_text n) r → Succeeds v ops input rs
