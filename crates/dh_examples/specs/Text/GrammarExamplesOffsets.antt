-- Where the imports of a text stand.
use Rattle.std.specs.Prelude.{◌≡◌, ℕ, true, false, List, [], ◌∷◌, map, None, Result, Ok, Err, pos, codes, refl}
use Prim.Native.String.{String}
use Rattle.dh_syntax.specs.declared.locations.Loc.TheVariants as locs
use Rattle.dh_syntax.specs.declared.locations.Loc.{Loc}
use Rattle.dh_syntax.specs.declared.locations.Mode.TheVariants as modes
use Rattle.dh_syntax.specs.declared.operators.BinOp.TheVariants as binary
use Rattle.dh_syntax.specs.declared.operators.Builtin.TheVariants as builtins
use Rattle.dh_syntax.specs.declared.tokens.TextForm.TheVariants as forms
use Rattle.dh_syntax.specs.declared.tokens.Token.{Token}
use Rattle.dh_syntax.specs.Text.Derivation.{path, url, environment, missing, Derivation, lambda, pi, arrow, choice, lets, updates, merge_as, to_map_as, empty_list, assertion, annotation, operation, application, merging, some_of, to_map, import, field, project_none, project, project_by, natural, integer, truth, builtin, variable, text, brackets, list, union_none, union, record_type_none, record_type, record_none, record_of, untyped, typed, one_let, more_lets, one_update, more_updates, start, more_chunks, one_item, more_items, one_key, more_keys, one_alternative, more_alternatives, one_field, more_fields, alone, given, one_entry, more_entries, Entry}
use Rattle.dh_examples.specs.Text.GrammarExamples.{tokens_of, name, key}
use Rattle.dh_syntax.specs.Text.Lexing.{LexFault, lex}
use Rattle.dh_syntax.specs.Text.Noting.{noted}
use Rattle.dh_syntax.specs.Text.Offsets.{import_offsets, locating, SpellsWith}
use Rattle.dh_syntax.specs.Text.Meaning.{meaning}
use Rattle.std.proofs.lemmas.Bool.{leb-true}
use lib.Utf8.{encode}

-- where the imports of a text with this tree stand
abbrev found : Derivation → Result (List Token) LexFault → List ℕ
found d (Ok tokens) = import_offsets tokens d
found d (Err fault) = []

-- `./x`
abbrev here : String → Derivation
here x = import (path (locs.Here (codes x ∷ []))) None modes.Code

-- the entry `x = d` of a record
abbrev equals : String → Derivation → Entry
equals x d = given (one_key (key x)) d

in_list : found (list false (more_items (one_item (here "a")) (import (path (locs.Here (codes "b" ∷ []))) None modes.Text)) false) (tokens_of "[./a , ./b as Text] -- x") ≡ 4 ∷ 10 ∷ []
unfolding tokens_of
in_list = refl

in_let : found (lets (one_let (name "x") (typed (here "a")) (here "b")) (operation binary.Fallback (import missing None modes.Code) (here "c"))) (tokens_of "let x : ./a = ./b in missing ? ./c") ≡ 11 ∷ 17 ∷ 28 ∷ 34 ∷ []
unfolding tokens_of
in_let = refl

-- the order is that of the labels
in_record : found (record_of false (more_entries (one_entry (equals "b" (here "x"))) (equals "a" (here "y"))) false) (tokens_of "{ b = ./x, a = ./y }") ≡ 18 ∷ 9 ∷ []
unfolding tokens_of
in_record = refl

in_joined_entries :
    found (record_of false (more_entries (more_entries (one_entry (equals "a" (here "x"))) (equals "b" (here "y"))) (equals "a" (here "z"))) false)
    (tokens_of "{ a = ./x, b = ./y, a = ./z }")
    ≡ 9 ∷ 27 ∷ 18 ∷ []
unfolding tokens_of
in_joined_entries = refl

-- `http://h/a`
abbrev web : Loc
web = locs.Http (record { host = codes "h"; comps = codes "a" ∷ []; query = None })

-- a URL and an environment variable have a place too
of_each_kind :
    found (list false (more_items (more_items (one_item (import (url web) None modes.Code)) (import (environment (codes "X")) None modes.Code)) (here "a")) false)
    (tokens_of "[ http://h/a , env:X, ./a ]")
    ≡ 12 ∷ 20 ∷ 25 ∷ []
unfolding tokens_of
of_each_kind = refl

-- ---- the order of the nodes

-- `missing`
abbrev m : Derivation
m = import missing None modes.Code

-- the numbers of the tokens that are a tree's locations, in the order of the nodes
abbrev Finds : Derivation → List ℕ → Type 0
Finds d numbers = (noted locating d 0).0 ≡ numbers

-- where the parts stand in the order of the nodes: forms with one part, two and three
one_part :
    map (λ d. (noted locating d 0).0) (m ∷ empty_list false m ∷ assertion m ∷ some_of m ∷ to_map m ∷ field m (key "x") ∷ project_none m false
    ∷ project m false (one_key (key "x")) false ∷ brackets m ∷ [])
    ≡ (0 ∷ []) ∷ (3 ∷ []) ∷ (2 ∷ []) ∷ (1 ∷ []) ∷ (1 ∷ []) ∷ (0 ∷ []) ∷ (0 ∷ []) ∷ (0 ∷ []) ∷ (1 ∷ []) ∷ []
one_part = refl

-- `{ y = missing, x = missing }`, nine tokens, whose locations are turned round
abbrev r : Derivation
r = record_of false (more_entries (one_entry (equals "y" m)) (equals "x" m)) false

two_parts :
    map (λ d. (noted locating d 0).0) (lambda (name "x") r m ∷ pi (name "x") r m ∷ arrow r m ∷ to_map_as r m ∷ annotation r m ∷ operation binary.Plus r m
    ∷ application r m ∷ merging r m ∷ project_by r m ∷ [])
    ≡ (11 ∷ 7 ∷ 15 ∷ []) ∷ (11 ∷ 7 ∷ 15 ∷ []) ∷ (7 ∷ 3 ∷ 10 ∷ []) ∷ (8 ∷ 4 ∷ 11 ∷ []) ∷ (7 ∷ 3 ∷ 10 ∷ []) ∷ (7 ∷ 3 ∷ 10 ∷ []) ∷ (7 ∷ 3 ∷ 9 ∷ []) ∷ (8 ∷ 4 ∷ 10 ∷ []) ∷ (7 ∷ 3 ∷ 11 ∷ []) ∷ []
two_parts = refl

three_parts : Finds (choice m r m) (1 ∷ 10 ∷ 6 ∷ 13 ∷ [])
three_parts = refl

annotated_merge : Finds (merge_as m r m) (1 ∷ 9 ∷ 5 ∷ 12 ∷ [])
annotated_merge = refl

several_lets : Finds (lets (more_lets (one_let (name "x") (typed r) m) (name "y") (typed m) m) m) (10 ∷ 6 ∷ 13 ∷ 17 ∷ 19 ∷ 21 ∷ [])
several_lets = refl

several_updates : Finds (updates (more_updates (one_update r (one_key (key "x")) m) (one_key (key "y")) m)) (7 ∷ 3 ∷ 12 ∷ 16 ∷ [])
several_updates = refl

in_text : Finds (text forms.DoubleQuoted (more_chunks (more_chunks (start None) r None) m None)) (9 ∷ 5 ∷ 13 ∷ [])
in_text = refl

in_longer_list : Finds (list false (more_items (more_items (one_item r) m) r) false) (8 ∷ 4 ∷ 11 ∷ 20 ∷ 16 ∷ [])
in_longer_list = refl

-- `< y : missing | z | x : missing >`
in_union : Finds (union false (more_alternatives (more_alternatives (one_alternative (key "y") (typed m)) (key "z") untyped) (key "x") (typed m)) false) (9 ∷ 3 ∷ [])
in_union = refl

-- `{ y : missing, x : missing }`
in_record_type : Finds (record_type false (more_fields (one_field (key "y") m) (key "x") m) false) (7 ∷ 3 ∷ [])
in_record_type = refl

-- `{ y = missing, x, x.z = missing, a.y = missing, y = missing }`
in_entries :
    Finds (record_of false
    (more_entries
    (more_entries (more_entries (more_entries (one_entry (equals "y" m)) (alone (key "x"))) (given (more_keys (one_key (key "x")) (key "z")) m))
    (given (more_keys (one_key (key "a")) (key "y")) m))
    (equals "y" m))
    false)
    (17 ∷ 11 ∷ 3 ∷ 21 ∷ [])
in_entries = refl

-- no import
without_parts :
    map (λ d. (noted locating d 0).0) (natural 1 ∷ integer (pos 1) ∷ truth true ∷ builtin builtins.Bool ∷ variable (name "x") None ∷ union_none false ∷ record_type_none false
    ∷ record_none false false ∷ text forms.DoubleQuoted (start None) ∷ [])
    ≡ [] ∷ [] ∷ [] ∷ [] ∷ [] ∷ [] ∷ [] ∷ [] ∷ [] ∷ []
without_parts = refl

-- ---- a text with its imports: `./a + ./b`, where the offsets are behind the locations

two_imports : SpellsWith (codes "./a + ./b") (meaning (operation binary.Plus (here "a") (here "b"))) (3 ∷ 9 ∷ [])
unfolding lex encode
two_imports = (
  record {
    is_text = (leb-true _ _ refl, (codes "./a + ./b", (refl, refl)));
    tokens = _;
    lexed = refl;
    tree = operation binary.Plus (here "a") (here "b");
    derives = record { derived = refl; written = ((refl, refl), ((refl, refl), ((refl, refl), ((refl, refl), tt)))) };
    few_open = refl;
    means = refl;
    spellable = ((refl, ((refl, tt), ((refl, tt), tt))), leb-true _ _ refl, refl);
  },
  refl,
)
