-- What the program tells of itself.
use Rattle.std.specs.Prelude.{ℕ, List, ◌++◌, codes}

-- the commands with what they do, and the exit statuses, a line each
abbrev pub help_text : List ℕ
help_text =
    codes "dhall COMMAND [--workers N]: reads standard input, with N workers for its imports, 1 to 64 (4)\n"
    ++ codes "encode: writes the binary form of the expression\n"
    ++ codes "decode: prints the expression of which the input is the binary form\n"
    ++ codes "resolve: prints the expression with a value for each import\n"
    ++ codes "type: prints its type\n"
    ++ codes "normalize: prints its normal form\n"
    ++ codes "hash: prints the digest of its normal form\n"
    ++ codes "to-json: prints the JSON text of its normal form\n"
    ++ codes "freeze: writes the input with a digest after each import that has none\n"
    ++ codes "batch FILE..: prints the name of each file, and the digest of its normal form or why it has none; reads no input\n"
    ++ codes "steps PLACE..: prints the expression after one step at each place, and whether it is normal\n"
    ++ codes "gen N: prints how many imports and fetches the generated texts 0 to N take, N at most 4000, and the digest of their list; reads no input\n"
    ++ codes "explain [RULE]: prints what a rule of typing wants, or the list of the rules; reads no input\n"
    ++ codes "help, --help, -h: prints this page\n"
    ++ codes "--version: prints the version of the program and of the standard\n"
    ++ codes "status 0: the answer was written\n"
    ++ codes "status 1: the input or an import is no expression\n"
    ++ codes "status 2: the input or an import has no type\n"
    ++ codes "status 3: an import has no value\n"
    ++ codes "status 4: a limit was met\n"
    ++ codes "status 5: the words are no command line\n"
    ++ codes "status 6: the input could not be read\n"
    ++ codes "status 7: an output could not be written\n"
    ++ codes "status 8: an import could not be read\n"
    ++ codes "status 9: out of memory\n"
    ++ codes "status 10: the normal form has no JSON value\n"
    ++ codes "status 11: a step cannot be made\n"

-- the name and the version of the program, and the version of the standard
abbrev pub version_text : List ℕ
version_text = codes "dhall 0.1.0, standard 23\n"
