-- Runs of `steps` on one input from whose ends no step leads on write the same.
use Rattle.std.specs.Prelude.{◌≡◌, ℕ, suc, zero, IsTrue, true, List, [], ◌∷◌, ◌++◌, codes, Ok, Err, Result, refl}
use Rattle.std.proofs.Common.{ap, sym, ◌∙◌, arith, true≢false, subst as along}
use Rattle.std.proofs.lemmas.List.{append_assoc, append_cancel_right}
use Rattle.dh_command.specs.declared.commands.Command.{Command}
use Rattle.dh_command.specs.declared.verbs.Verb.{Verb}
use Rattle.dh_command.specs.declared.verbs.Verb.TheVariants as verb
use Rattle.dh_command.specs.Answer.{CommandAnswer, usage, does, on_input, on_files, Does, encodes, decodes, decodes_none, spells, spells_none, takes_steps, explains, helps, tells_version}
use Rattle.dh_command.specs.Responses.{Response, line}
use Rattle.dh_command.specs.StepsReplies.{steps_response}
use Rattle.dh_command.specs.Words.{Word, command_of, operand_words}
use Rattle.dh_imports.specs.Records.{Record}
use Rattle.dh_steps.proofs.Replies.{one_end_printed}
use Rattle.dh_steps.specs.StepLines.{settled_line, unsettled_line}
use Rattle.dh_steps.specs.StepsAnswer as replies
use Rattle.dh_steps.specs.StepsAnswer.{StepsAnswer, StepsReply, Printed}
use Rattle.dh_syntax.specs.Text.Printed.{text_of}
use Rattle.dh_top.proofs.RunLaws.{apart}
use Rattle.dh_top.specs.SettledRuns.{TellsSettled, SettledRuns}

-- ---- the end of a line

abbrev final : List ℕ → ℕ
final [] = 0
final (b ∷ []) = b
final (b ∷ c ∷ bs) = final (c ∷ bs)

final-last : (bs : List ℕ) (b : ℕ) → final (bs ++ b ∷ []) ≡ b
final-last [] b = refl
final-last (c ∷ []) b = refl
final-last (c ∷ d ∷ bs) b = final-last (d ∷ bs) b

-- what ends by `normal` is not empty
not-empty : (text : List ℕ) → [] ≡ line text ++ line settled_line → ⊥
not-empty text h =
    let p : 0 ≡ 10 = ap final (h ∙ sym (append_assoc (line text) settled_line (10 ∷ []))) ∙ final-last (line text ++ settled_line) 10 in
    absurd (omega (arith, p))

-- and does not end by `not normal`
not-unsettled : (t text : List ℕ) → line t ++ line unsettled_line ≡ line text ++ line settled_line → ⊥
not-unsettled t text h =
    let p : line t ++ codes "not " ≡ line text =
    append_cancel_right (line t ++ codes "not ") (line text) (line settled_line) (append_assoc (line t) (codes "not ") (line settled_line) ∙ h) in
    let q : 32 ≡ 10 =
    sym (final-last (line t ++ codes "not") 32) ∙ ap final (append_assoc (line t) (codes "not") (32 ∷ []) ∙ p) ∙ final-last text 10 in
    absurd (omega (arith, q))

lines-equal : (t text : List ℕ) → line t ++ line settled_line ≡ line text ++ line settled_line → t ≡ text
lines-equal t text h = append_cancel_right t text (10 ∷ []) (append_cancel_right (line t) (line text) (line settled_line) h)

-- ---- what is told

step-told : (places : List (List ℕ)) (input text : List ℕ) (s : StepsReply) → StepsAnswer places input s → (steps_response s).out ≡ line text ++ line settled_line
    → StepsAnswer places input (Printed text settled_line)
step-told places input text s (replies.spells_none f p w) h = absurd (not-empty text (sym (ap (λ x. (steps_response x).out) w) ∙ h))
step-told places input text s (replies.is_outside e place p o w) h = absurd (not-empty text (sym (ap (λ x. (steps_response x).out) w) ∙ h))
step-told places input text s (replies.has_no_rule e n p o q w) h = absurd (not-empty text (sym (ap (λ x. (steps_response x).out) w) ∙ h))
step-told places input text s (replies.grows e n p o q w) h = absurd (not-empty text (sym (ap (λ x. (steps_response x).out) w) ∙ h))
step-told places input text s (replies.is_normal e f p o q k i w) h =
    replies.is_normal e f p o q k i
    (ap (λ t. Printed t settled_line) (sym (lines-equal (text_of f) text (sym (ap (λ x. (steps_response x).out) w) ∙ h))))
step-told places input text s (replies.is_not_normal e f p o q k i w) h = absurd (not-unsettled (text_of f) text (sym (ap (λ x. (steps_response x).out) w) ∙ h))

run-told : (v : Verb) (ops : List Word) (input text : List ℕ) (r : Record) (w : Response) → v ≡ verb.Steps → Does v ops input r w → w.out ≡ line text ++ line settled_line
    → (places : List (List ℕ)) × StepsAnswer places input (Printed text settled_line)
run-told verb.Steps ops input text r w v (encodes e h p q) k = absurd (apart _ _ h (λ n. omega (arith, n)))
run-told verb.Steps ops input text r w v (decodes e h l p q) k = absurd (apart _ _ h (λ n. omega (arith, n)))
run-told verb.Steps ops input text r w v (decodes_none h l q) k = absurd (apart _ _ h (λ n. omega (arith, n)))
run-told verb.Steps ops input text r w v (spells e h p a) k = absurd (true≢false (sym h))
run-told verb.Steps ops input text r w v (spells_none f h p q) k = absurd (true≢false (sym h))
run-told verb.Steps ops input text r w v (takes_steps places s h n a q) k = (places, step-told places input text s a (sym (ap (λ (x : Response). x.out) q) ∙ k))
run-told verb.Steps ops input text r w v (explains told h n q) k = absurd (apart _ _ h (λ n. omega (arith, n)))
run-told verb.Steps ops input text r w v (helps h q) k = absurd (apart _ _ h (λ n. omega (arith, n)))
run-told verb.Steps ops input text r w v (tells_version h q) k = absurd (apart _ _ h (λ n. omega (arith, n)))
run-told verb.Encode ops input text r w v d k = absurd (apart _ _ v (λ n. omega (arith, n)))
run-told verb.Decode ops input text r w v d k = absurd (apart _ _ v (λ n. omega (arith, n)))
run-told verb.Resolve ops input text r w v d k = absurd (apart _ _ v (λ n. omega (arith, n)))
run-told verb.Type ops input text r w v d k = absurd (apart _ _ v (λ n. omega (arith, n)))
run-told verb.Normalize ops input text r w v d k = absurd (apart _ _ v (λ n. omega (arith, n)))
run-told verb.Hash ops input text r w v d k = absurd (apart _ _ v (λ n. omega (arith, n)))
run-told verb.Freeze ops input text r w v d k = absurd (apart _ _ v (λ n. omega (arith, n)))
run-told verb.ToJson ops input text r w v d k = absurd (apart _ _ v (λ n. omega (arith, n)))
run-told verb.Explain ops input text r w v d k = absurd (apart _ _ v (λ n. omega (arith, n)))
run-told verb.Help ops input text r w v d k = absurd (apart _ _ v (λ n. omega (arith, n)))
run-told verb.Version ops input text r w v d k = absurd (apart _ _ v (λ n. omega (arith, n)))
run-told verb.Gen ops input text r w v d k = absurd (apart _ _ v (λ n. omega (arith, n)))
run-told verb.Batch ops input text r w v d k = absurd (apart _ _ v (λ n. omega (arith, n)))

commands-equal : (c d : Command) → ◌≡◌ {A = Result Command ℕ} (Ok c) (Ok d) → c ≡ d
commands-equal c d h = cc

line-told : (words : List Word) (input text : List ℕ) → TellsSettled words input text → (places : List (List ℕ)) × StepsAnswer places input (Printed text settled_line)
line-told words input text (c, rs, w, p, v, usage k q u, o) = absurd cc
line-told words input text (c, rs, w, p, v, does d q (on_input r one a), o) =
    let same : d ≡ c = commands-equal d c (sym q ∙ p) in
    run-told d.verb (operand_words words) input text r w (ap (λ (x : Command). x.verb) same ∙ v) a o
line-told words input text (c, rs, w, p, v, does d q (on_files ws b a u), o) =
    let same : d ≡ c = commands-equal d c (sym q ∙ p) in
    absurd (apart verb.Batch verb.Steps (sym b ∙ (ap (λ (x : Command). x.verb) same ∙ v)) (λ n. omega (arith, n)))

pub settled_runs : SettledRuns
settled_runs words others input text other h k =
    let (places, a) = line-told words input text h in
    let (more, b) = line-told others input other k in
    one_end_printed input places more text other a b
