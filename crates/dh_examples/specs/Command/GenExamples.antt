-- Worked examples of the words of `gen`, and of what it writes.
use Rattle.std.specs.Prelude.{◌≡◌, [], ◌∷◌, map, Ok, Err, codes, refl}
use Rattle.std.specs.Fmt.{digits}
use Rattle.dh_command.specs.Generating.{count_lines}
use Rattle.dh_command.specs.Words.{command_of, operand_words}
use Rattle.dh_command.specs.declared.verbs.Verb.TheVariants as verb
use Rattle.dh_gen.specs.Generated.{list_text, text_of}
use Rattle.dh_gen.specs.NumberWords.{operand_number}

gen_a_text : command_of (codes "gen" ∷ codes "0" ∷ []) ≡ Ok (record { verb = verb.Gen; workers = 4 })
gen_a_text = refl

gen_with_workers : command_of (codes "gen" ∷ codes "--workers" ∷ codes "8" ∷ codes "4000" ∷ []) ≡ Ok (record { verb = verb.Gen; workers = 8 })
gen_with_workers = refl

no_number_of_a_text :
    map (λ w. command_of (codes "gen" ∷ w ∷ [])) (codes "4001" ∷ codes "04" ∷ codes "x" ∷ codes "4x" ∷ codes "+4" ∷ [] ∷ codes "4294967297" ∷ [])
    ≡ Err 2 ∷ Err 2 ∷ Err 2 ∷ Err 2 ∷ Err 2 ∷ Err 2 ∷ Err 2 ∷ []
no_number_of_a_text = refl

no_word : map command_of ((codes "gen" ∷ []) ∷ (codes "gen" ∷ codes "--workers" ∷ codes "8" ∷ []) ∷ []) ≡ Err 2 ∷ Err 4 ∷ []
no_word = refl

a_word_behind : command_of (codes "gen" ∷ codes "4" ∷ codes "5" ∷ []) ≡ Err 3
a_word_behind = refl

-- other commands take no number of a text
no_number_for_others : command_of (codes "hash" ∷ codes "4" ∷ []) ≡ Err 2
no_number_for_others = refl

named : operand_number 1 (operand_words (codes "gen" ∷ codes "--workers" ∷ codes "8" ∷ codes "12" ∷ [])) ≡ Ok 12
named = refl

text_seven : text_of 7 ≡ codes "./g3 + ./g2 + 7"
unfolding digits
text_seven = refl

three_imports : list_text 2 ≡ codes "[./g0, ./g1, ./g2]"
unfolding digits
three_imports = refl

two_counts : count_lines 5 12 ≡ codes "imports 5\nasked 12\n"
unfolding digits
two_counts = refl
