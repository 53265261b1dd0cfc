-- Worked examples of words, of the lines that faults have, and of what is written.
use Rattle.std.specs.Prelude.{◌≡◌, true, false, [], ◌∷◌, map, None, Ok, Err, codes, refl}
use Rattle.std.specs.Fmt.{digits}
use Rattle.dh_syntax.specs.declared.expressions.Op.TheVariants as ops
use Rattle.dh_syntax.specs.declared.faults.DecodeFault.TheVariants as decode
use Rattle.dh_syntax.specs.declared.faults.ParseFault.TheVariants as fault
use Rattle.dh_command.specs.declared.statuses.Status.TheVariants as status
use Rattle.dh_command.specs.Answer.{encoded, decoded}
use Rattle.dh_command.specs.Responses.{misused, unread, without_memory}
use Rattle.dh_syntax.specs.FaultLines.{parse_fault_line, decode_fault_line}
use Rattle.dh_command.specs.Lines.{usage_line, read_line, write_line, memory_line}
use Rattle.dh_command.specs.Statuses.{code_of}
use Rattle.dh_syntax.specs.Expressions.Tree.{Node, end}
use Rattle.dh_command.specs.StepsReplies.{AreNamed}
use Rattle.dh_command.specs.Words.{command_of, operand_words, workers_of}
use Rattle.dh_files.specs.FileWords.{is_file, operand_files}
use Rattle.dh_command.specs.declared.verbs.Verb.TheVariants as verb

no_words : command_of [] ≡ Err 1
no_words = refl

-- four workers where the words ask for none
encode_alone : command_of (codes "encode" ∷ []) ≡ Ok (record { verb = verb.Encode; workers = 4 })
encode_alone = refl

decode_with_workers : command_of (codes "decode" ∷ codes "--workers" ∷ codes "64" ∷ []) ≡ Ok (record { verb = verb.Decode; workers = 64 })
decode_with_workers = refl

normalize_alone : command_of (codes "normalize" ∷ []) ≡ Ok (record { verb = verb.Normalize; workers = 4 })
normalize_alone = refl

type_alone : command_of (codes "type" ∷ []) ≡ Ok (record { verb = verb.Type; workers = 4 })
type_alone = refl

hash_with_workers : command_of (codes "hash" ∷ codes "--workers" ∷ codes "1" ∷ []) ≡ Ok (record { verb = verb.Hash; workers = 1 })
hash_with_workers = refl

freeze_with_workers : command_of (codes "freeze" ∷ codes "--workers" ∷ codes "8" ∷ []) ≡ Ok (record { verb = verb.Freeze; workers = 8 })
freeze_with_workers = refl

to_json_alone : command_of (codes "to-json" ∷ []) ≡ Ok (record { verb = verb.ToJson; workers = 4 })
to_json_alone = refl

-- files are the operands of `batch`: at least one, each a location
batch_alone : command_of (codes "batch" ∷ []) ≡ Err 2
batch_alone = refl

batch_of_files : command_of (codes "batch" ∷ codes "a" ∷ codes "../b/c" ∷ []) ≡ Ok (record { verb = verb.Batch; workers = 4 })
batch_of_files = refl

batch_of_no_file : command_of (codes "batch" ∷ codes "a" ∷ codes "b/" ∷ []) ≡ Err 3
batch_of_no_file = refl

batch_with_workers_alone : command_of (codes "batch" ∷ codes "--workers" ∷ codes "2" ∷ []) ≡ Err 4
batch_with_workers_alone = refl

-- the texts that words of files stand for
files_named :
    operand_files 2 (codes "a" ∷ codes "./b" ∷ codes "../c" ∷ codes "~/d" ∷ codes "/e/f" ∷ codes "..g" ∷ codes "\"a b\"" ∷ [])
    ≡ Ok (codes "./a" ∷ codes "./b" ∷ codes "../c" ∷ codes "~/d" ∷ codes "/e/f" ∷ codes "./..g" ∷ codes "./\"a b\"" ∷ [])
files_named = refl

no_files : map is_file (codes "" ∷ codes "/" ∷ codes "a//b" ∷ codes "a b" ∷ codes "a?" ∷ codes "\"" ∷ []) ≡ false ∷ false ∷ false ∷ false ∷ false ∷ false ∷ []
no_files = refl

-- places are the operands of `steps`
steps_alone : command_of (codes "steps" ∷ []) ≡ Ok (record { verb = verb.Steps; workers = 4 })
steps_alone = refl

steps_at_places : command_of (codes "steps" ∷ codes "root" ∷ codes "0/1" ∷ []) ≡ Ok (record { verb = verb.Steps; workers = 4 })
steps_at_places = refl

no_place : command_of (codes "steps" ∷ codes "root" ∷ codes "00" ∷ []) ≡ Err 3
no_place = refl

no_place_behind_workers : command_of (codes "steps" ∷ codes "--workers" ∷ codes "2" ∷ codes "root/0" ∷ []) ≡ Err 4
no_place_behind_workers = refl

operands_behind_workers : operand_words (codes "steps" ∷ codes "--workers" ∷ codes "2" ∷ codes "root" ∷ []) ≡ codes "root" ∷ []
operands_behind_workers = refl

places_named : AreNamed (codes "root" ∷ codes "1/0" ∷ []) ([] ∷ (1 ∷ 0 ∷ []) ∷ [])
places_named = refl

-- words that tell of the program
help_words : map command_of ((codes "help" ∷ []) ∷ (codes "--help" ∷ []) ∷ (codes "-h" ∷ []) ∷ (codes "--version" ∷ []) ∷ [])
    ≡ Ok (record { verb = verb.Help; workers = 4 }) ∷ Ok (record { verb = verb.Help; workers = 4 }) ∷ Ok (record { verb = verb.Help; workers = 4 })
    ∷ Ok (record { verb = verb.Version; workers = 4 }) ∷ []
help_words = refl

help_and_more : command_of (codes "--help" ∷ codes "x" ∷ []) ≡ Err 2
help_and_more = refl

no_long_word : command_of (codes "version" ∷ []) ≡ Err 1
no_long_word = refl

encode_and_more : command_of (codes "encode" ∷ codes "x" ∷ []) ≡ Err 2
encode_and_more = refl

workers_wanting : command_of (codes "encode" ∷ codes "--workers" ∷ []) ≡ Err 3
workers_wanting = refl

-- no number of workers
bad_workers :
    map workers_of (codes "0" ∷ codes "65" ∷ codes "04" ∷ codes "+4" ∷ codes "4x" ∷ codes "" ∷ codes "1000000000000000000000" ∷ [])
    ≡ None ∷ None ∷ None ∷ None ∷ None ∷ None ∷ None ∷ []
bad_workers = refl

workers_and_more : command_of (codes "encode" ∷ codes "--workers" ∷ codes "1" ∷ codes "x" ∷ []) ≡ Err 4
workers_and_more = refl

no_command : command_of (codes "Encode" ∷ codes "x" ∷ []) ≡ Err 1
no_command = refl

empty_word : command_of ([] ∷ []) ≡ Err 1
empty_word = refl

-- ---- the lines of faults

lines_of_places :
    map parse_fault_line (fault.NotUtf8 0 ∷ fault.Syntax 12 ∷ fault.Wide 7 ∷ fault.Out 1048575 ∷ [])
    ≡ map codes ("not UTF-8 at 0" ∷ "syntax at 12" ∷ "number too wide at 7" ∷ "left out of this profile at 1048575" ∷ [])
unfolding digits
lines_of_places = refl

lines_without_place :
    map parse_fault_line (fault.TooLarge ∷ fault.TooNested ∷ fault.Memory ∷ [])
    ≡ map codes ("larger than 1048576 bytes" ∷ "nested deeper than 500" ∷ "out of memory" ∷ [])
lines_without_place = refl

lines_of_bytes :
    map decode_fault_line (decode.Cut 9 ∷ decode.Indefinite 0 ∷ decode.Float 0 ∷ decode.Tag 1 ∷ decode.Wide 2 ∷ decode.Shape 6 ∷ decode.Rest 9 ∷ decode.TooNested ∷ [])
    ≡ map codes ("cut at 9" ∷ "indefinite length at 0" ∷ "float at 0" ∷ "tag at 1" ∷ "number too wide at 2" ∷ "shape at 6" ∷ "bytes left at 9" ∷ "nested deeper than 500" ∷ [])
unfolding digits
lines_of_bytes = refl

lines_of_the_outside : read_line ∷ write_line ∷ memory_line ∷ [] ≡ map codes ("read failed" ∷ "write failed" ∷ "out of memory" ∷ [])
lines_of_the_outside = refl

word_1 : usage_line 1 ≡ codes "usage: word 1"
unfolding digits
word_1 = refl

-- ---- what is written, and the statuses

statuses :
    map code_of (status.Ok ∷ status.Text ∷ status.Ill ∷ status.Import ∷ status.Limit ∷ status.Usage ∷ status.Read ∷ status.Write ∷ status.Desk ∷ status.Memory
    ∷ status.NoJson ∷ status.Step ∷ [])
    ≡ 0 ∷ 1 ∷ 2 ∷ 3 ∷ 4 ∷ 5 ∷ 6 ∷ 7 ∷ 8 ∷ 9 ∷ 10 ∷ 11 ∷ []
statuses = refl

-- nothing to standard output, one line to standard error
refused_word : misused 2 ≡ record { out = []; err = codes "usage: word 2\n"; status = status.Usage }
unfolding digits
refused_word = refl

failed_input : unread ≡ record { out = []; err = codes "read failed\n"; status = status.Read }
failed_input = refl

no_memory : without_memory ≡ record { out = []; err = codes "out of memory\n"; status = status.Memory }
no_memory = refl

-- the input `"`
faulty_input : encoded (Err (fault.Syntax 0)) ≡ record { out = []; err = codes "syntax at 0\n"; status = status.Text }
unfolding digits
faulty_input = refl

-- `True`, without a line feed
truth : encoded (Ok (Node (ops.Bool true) end)) ≡ record { out = 0xF5 ∷ []; err = []; status = status.Ok }
truth = refl

-- the same, decoded, with a line feed
printed : decoded (Ok (Node (ops.Bool true) end)) ≡ record { out = codes "True\n"; err = []; status = status.Ok }
printed = refl
