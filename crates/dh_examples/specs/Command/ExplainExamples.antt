-- Worked examples of what is told of the rules of typing, and of the words that ask for it.
use Rattle.std.specs.Prelude.{◌≡◌, [], ◌∷◌, ◌++◌, map, Some, None, Ok, Err, codes, refl}
use Rattle.std.specs.Fmt.{digits}
use Rattle.dh_command.specs.Words.{command_of, operand_words}
use Rattle.dh_command.specs.declared.verbs.Verb.TheVariants as verb
use Rattle.dh_explain.specs.Explained.{explained}
use Rattle.dh_explain.specs.RuleTexts.{explanation, rule_list}
use Rattle.dh_explain.specs.RuleWords.{operand_text}

right_side :
    explanation 14
    ≡ Some (codes "type rule 14: right side of an operator\n"
    ++ codes "The right side of `+` and `*` must be a `Natural`, that of `++` a `Text`, and that of `||`, `&&`, `==` and `!=` a `Bool`.\n"
    ++ codes "The right side of `#` must be a list of the same type as the left side.\n"
    ++ codes "A number with a sign, as `+1`, is an `Integer` and no `Natural`.\n"
    ++ codes "fails: 1 + True\n"
    ++ codes "types: 1 + 2\n")
unfolding explanation explained digits
right_side = refl

-- no text fails by the last rule
without_text :
    explanation 56
    ≡ Some (codes "type rule 56: not resolved\n"
    ++ codes "An import has no type, and neither has `l ? r`. Before a text is typed, each of them has its value in its place.\n"
    ++ codes "So no text fails by this rule. Only an entry of the cache can hold a `?`, if another program wrote it so.\n"
    ++ codes "types: missing ? 1\n")
unfolding explanation explained digits
without_text = refl

no_rules : explanation 0 ∷ explanation 57 ∷ [] ≡ None ∷ None ∷ []
unfolding explanation
no_rules = refl

explain_alone : command_of (codes "explain" ∷ []) ≡ Ok (record { verb = verb.Explain; workers = 4 })
explain_alone = refl

explain_a_rule : command_of (codes "explain" ∷ codes "56" ∷ []) ≡ Ok (record { verb = verb.Explain; workers = 4 })
unfolding explanation
explain_a_rule = refl

explain_with_workers : command_of (codes "explain" ∷ codes "--workers" ∷ codes "2" ∷ codes "7" ∷ []) ≡ Ok (record { verb = verb.Explain; workers = 2 })
unfolding explanation
explain_with_workers = refl

no_number_of_a_rule :
    map (λ w. command_of (codes "explain" ∷ w ∷ [])) (codes "0" ∷ codes "57" ∷ codes "01" ∷ codes "x" ∷ codes "1x" ∷ codes "+1" ∷ [] ∷ codes "4294967310" ∷ [])
    ≡ Err 2 ∷ Err 2 ∷ Err 2 ∷ Err 2 ∷ Err 2 ∷ Err 2 ∷ Err 2 ∷ Err 2 ∷ []
unfolding explanation
no_number_of_a_rule = refl

a_word_behind : command_of (codes "explain" ∷ codes "14" ∷ codes "15" ∷ []) ≡ Err 3
unfolding explanation
a_word_behind = refl

a_word_behind_workers : command_of (codes "explain" ∷ codes "--workers" ∷ codes "2" ∷ codes "14" ∷ codes "15" ∷ []) ≡ Err 5
unfolding explanation
a_word_behind_workers = refl

-- other commands take no rule
no_rule_for_others : command_of (codes "type" ∷ codes "14" ∷ []) ≡ Err 2
no_rule_for_others = refl

list_told : operand_text 1 (operand_words (codes "explain" ∷ [])) ≡ Ok rule_list
list_told = refl
