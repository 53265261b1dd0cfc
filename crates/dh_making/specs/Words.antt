-- What the names, keys and kinds of import of the program stand for.
use Rattle.std.specs.Prelude.{List, [], ◌∷◌}
use Rattle.dh_syntax.specs.Text.Derivation.{NameToken, plain, quoted, Key, name_key, truth_key, builtin_key, some_key, Keys, one_key, more_keys, ImportType, path, url, environment, missing}
use Rattle.dh_making.specs.declared.sources.Source.{Source}
use Rattle.dh_making.specs.declared.sources.Source.TheVariants as sources
use Rattle.dh_making.specs.declared.keys.Keys as rust_keys
use Rattle.dh_making.specs.declared.words.EntryKey.{EntryKey}
use Rattle.dh_making.specs.declared.words.EntryKey.TheVariants as keys
use Rattle.dh_making.specs.declared.words.Word.{Word}
use Rattle.dh_making.specs.declared.words.Word.TheVariants as words

-- the name of the program as a name token, quoted or not
abbrev pub word_of : Word → NameToken
word_of (words.Plain x) = plain x
word_of (words.Quoted x) = quoted x

-- the key of an entry of the program
abbrev pub key_of : EntryKey → Key
key_of (keys.Name w) = name_key (word_of w)
key_of (keys.Truth b) = truth_key b
key_of (keys.Builtin b) = builtin_key b
key_of keys.Some = some_key

-- the kind of import of the program: a path, a URL, an environment variable or `missing`
abbrev pub source_of : Source → ImportType
source_of (sources.Path l) = path l
source_of (sources.Url l) = url l
source_of (sources.Environment x) = environment x
source_of sources.Missing = missing

-- keys with more of them behind
abbrev pub keys_on : Keys → List EntryKey → Keys
keys_on ks [] = ks
keys_on ks (k ∷ more) = keys_on (more_keys ks (key_of k)) more

-- the keys of the program in their order
abbrev pub keys_of : rust_keys.Keys → Keys
keys_of ks = keys_on (one_key (key_of ks.first)) ks.more.items
