-- Replies of `steps`.
use Rattle.std.proofs.Common.{◌≡◌, ◌⊎◌, ℕ, zero, suc, ◌+◌, ◌≤◌, List, [], ◌∷◌, ◌++◌, length, Bool, true, false, true≢false, Option, Some, None, Result, Ok, Err, IfOk, if◌then◌else◌, refl, sym, ap, ◌∙◌, subst, arith}
use Rattle.std.specs.Prelude.{IsOk, IsTrue}
use Rattle.std.specs.Result.{result_ok}
use Rattle.std.specs.declared.alloc.AllocError.{AllocError}
use Rattle.dh_command.specs.declared.statuses.Status.TheVariants as status
use Rattle.dh_command.specs.Responses.{Response, answer, line, misspelt}
use Rattle.dh_command.specs.Answer.{Does, nothing_found, takes_steps}
use Rattle.dh_command.specs.StepsReplies.{AreNamed, OperandsSucceed, steps_response}
use Rattle.dh_command.specs.declared.statuses.Status.{Status}
use Rattle.dh_command.specs.declared.verbs.Verb.TheVariants as verb
use Rattle.dh_syntax.specs.declared.faults.ParseFault.{ParseFault}
use Rattle.dh_steps.specs.StepsAnswer as replies
use Rattle.dh_steps.specs.StepsAnswer.{StepsAnswer, StepsReply}
use Rattle.dh_steps.specs.StepLines.{outside_line, no_rule_line, grown_line, settled_line, unsettled_line}
use Rattle.dh_confluence.proofs.OneEnd.{settled_decides}
use Rattle.dh_confluence.specs.FragmentSteps.{is_settled}
use Rattle.dh_laws.proofs.KeyOrder.{none-some, some-equal}
use Rattle.dh_laws.proofs.Names.FreeIndices.{indices-free}
use Rattle.dh_steps.specs.Room.{IsRoomy}
use Rattle.dh_syntax.proofs.SpellableIndices.{spellable-indices}
use Rattle.dh_syntax.specs.Expressions.Spellable.{IsSpellable}
use Rattle.dh_steps.specs.declared.faults.StepFault.{StepFault}
use Rattle.dh_steps.specs.declared.faults.StepFault.TheVariants as fault
use Rattle.dh_steps.specs.Outside.{first_outside}
use Rattle.dh_steps.specs.StepRuns.{Outcome, Ends, NoRow, Grows, outcome, IsAnswerFor, IsEnd}
use Rattle.dh_steps.specs.StepWords.{most_places, operand_places}
use Rattle.dh_syntax.specs.Expressions.Tree.{Term}
use Rattle.dh_syntax.specs.Normalising.Named.{put}
use Rattle.dh_syntax.specs.Text.Printed.{text_of}
use Rattle.dh_syntax.specs.Text.Spelling.{ParsesTo}
use Rattle.dh_top.specs.declared.replies.Reply.{Reply}
use Rattle.dh_top.specs.Replies.{written, IsStepFault, Tells}
use Rattle.dh_top.proofs.Spelled.{not_both, same_term}

-- what a text spells has room for steps
pub has_room : (e : Term) → IsSpellable e → IsRoomy e
has_room e s = (indices-free 2147483648 [] e (spellable-indices e s.2), s.1)

-- ---- operands that name places

-- words that are places name them
pub named_by : {A : Type 0} (r : Result (List A) ℕ) → IsOk r → result_ok r ≡ None → ⊥
named_by (Ok places) ok none = none-some none refl
named_by (Err k) ok none = true≢false (sym ok)

-- ---- what is written

pub steps_misspelt : (r : Result Reply AllocError) (places : List (List ℕ)) (text : List ℕ) (f : ParseFault) → ParsesTo text (Err f) → IfOk r (λ x. written x ≡ misspelt f)
    → IfOk r (λ x. Tells places text (written x))
steps_misspelt (Err x) places text f p w = tt
steps_misspelt (Ok x) places text f p w = (replies.Misspelt f, replies.spells_none f p refl, w)

pub steps_faulted : (r : Result Reply AllocError) (places : List (List ℕ)) (text : List ℕ) (e : Term) (f : StepFault) → ParsesTo text (Ok e) → IsAnswerFor e places (Err f)
    → IfOk r (λ x. IsStepFault f (written x)) → IfOk r (λ x. Tells places text (written x))
steps_faulted (Err x) places text e f p a w = tt
steps_faulted (Ok x) places text e (fault.Outside at) p a w = (replies.Stuck (outside_line at), replies.is_outside e at p a refl, w)
steps_faulted (Ok x) places text e (fault.NoRule n) p a w = (replies.Stuck (no_rule_line n), replies.has_no_rule e n p a.0 a.1 refl, w)
steps_faulted (Ok x) places text e (fault.Grown n) p a w = (replies.TooLarge (grown_line n), replies.grows e n p a.0 a.1 refl, w)
steps_faulted (Ok x) places text e fault.Memory p a w = absurd w

settled_by : (b : Bool) (places : List (List ℕ)) (text : List ℕ) (e f : Term) (w : Response) → is_settled put f ≡ b → ParsesTo text (Ok e) → first_outside e ≡ None → outcome 0 places e ≡ Ends f
    → IsEnd e places f → w ≡ answer (line (text_of f) ++ line (if b then settled_line else unsettled_line)) → Tells places text w
settled_by true places text e f w is p i ends end told =
    (replies.Printed (text_of f) settled_line, replies.is_normal e f p i ends end ((settled_decides f end.1).0 is) refl, told)
settled_by false places text e f w is p i ends end told =
    (replies.Printed (text_of f) unsettled_line, replies.is_not_normal e f p i ends end (λ s. true≢false (sym ((settled_decides f end.1).1 s) ∙ is)) refl, told)

pub steps_settled : (r : Result Reply AllocError) (places : List (List ℕ)) (text : List ℕ) (e f : Term) → ParsesTo text (Ok e) → (first_outside e ≡ None) × (outcome 0 places e ≡ Ends f) → IsEnd e places f
    → IfOk r (λ x. written x ≡ answer (line (text_of f) ++ line (if is_settled put f then settled_line else unsettled_line))) → IfOk r (λ x. Tells places text (written x))
steps_settled (Err x) places text e f p a end told = tt
steps_settled (Ok x) places text e f p a end told = settled_by (is_settled put f) places text e f (written x) refl p a.0 a.1 end told

-- the answer of the command
pub steps_done : (r : Result Reply AllocError) (ops places : List (List ℕ)) (text : List ℕ) → AreNamed ops places → IfOk r (λ x. Tells places text (written x))
    → IfOk r (λ x. Does verb.Steps ops text nothing_found (written x))
steps_done (Err x) ops places text named told = tt
steps_done (Ok x) ops places text named (s, a, w) = takes_steps places s refl named a w

-- ---- where every step can be made, the end is written

abbrev is_end : Outcome → Bool
is_end (Ends f) = true
is_end _ = false

status_of : (s : StepsReply) (w : Response) (t : Status) → w ≡ steps_response s → (steps_response s).status ≡ t → w.status ≡ t
status_of s w t u e = ap (λ w. w.status) u ∙ e

ends_here : (places : List (List ℕ)) (text : List ℕ) (e f : Term) (s : StepsReply) (w : Response) → ParsesTo text (Ok e) → first_outside e ≡ None → outcome 0 places e ≡ Ends f → StepsAnswer places text s
    → w ≡ steps_response s → w.status ≡ status.Ok
ends_here places text e f s w p inside ends (replies.spells_none g q u) told = absurd (not_both text e g p q)
ends_here places text e f s w p inside ends (replies.is_outside d at q o u) told = none-some (ap first_outside (same_term text d e q p) ∙ inside) o
ends_here places text e f s w p inside ends (replies.has_no_rule d n q i r u) told = absurd (true≢false (ap is_end (sym (ap (outcome 0 places) (same_term text d e q p) ∙ ends) ∙ r)))
ends_here places text e f s w p inside ends (replies.grows d n q i r u) told = absurd (true≢false (ap is_end (sym (ap (outcome 0 places) (same_term text d e q p) ∙ ends) ∙ r)))
ends_here places text e f s w p inside ends (replies.is_normal d g q i r end t u) told = status_of s w status.Ok told (ap (λ s. (steps_response s).status) u)
ends_here places text e f s w p inside ends (replies.is_not_normal d g q i r end t u) told = status_of s w status.Ok told (ap (λ s. (steps_response s).status) u)

pub steps_end_ok : (ops places : List (List ℕ)) (text : List ℕ) (s : StepsReply) (w : Response) → OperandsSucceed ops text → AreNamed ops places → StepsAnswer places text s → w ≡ steps_response s
    → w.status ≡ status.Ok
steps_end_ok ops places text s w (others, n, (e, f, p, inside, ends)) m a told =
    ends_here places text e f s w p inside (ap (λ ps. outcome 0 ps e) (some-equal (sym m ∙ n)) ∙ ends) a told
