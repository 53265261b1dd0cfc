-- What is told of steps is one thing, and where no step leads on, one text.
use Rattle.std.specs.Prelude.{◌≡◌, ℕ, Bool, true, false, if◌then◌else◌, IsTrue, List, length, Option, Some, None, Result, Ok, Err, refl}
use Rattle.std.proofs.Common.{ap, sym, ◌∙◌, arith, subst as along}
use Rattle.dh_syntax.specs.declared.faults.ParseFault.{ParseFault}
use Rattle.dh_syntax.specs.Expressions.Tree.{Term}
use Rattle.dh_syntax.specs.Normalising.Named.{names, put}
use Rattle.dh_syntax.specs.Normalising.Steps.{IsSettled, in_fragment}
use Rattle.dh_syntax.specs.Text.Printed.{text_of}
use Rattle.dh_syntax.specs.Text.Spelling.{ParsesTo}
use Rattle.dh_grammar.proofs.Results.Answering.{parses_once}
use Rattle.dh_confluence.specs.FragmentSteps.{is_settled}
use Rattle.dh_confluence.proofs.OneEnd.{settled_decides}
use Rattle.dh_steps.specs.Outside.{first_outside}
use Rattle.dh_steps.specs.StepLaws.{OneEndPrinted, OneReply}
use Rattle.dh_steps.specs.StepLines.{outside_line, no_rule_line, grown_line, settled_line, unsettled_line}
use Rattle.dh_steps.specs.StepRuns.{Outcome, Ends, NoRow, Grows, outcome, IsEnd}
use Rattle.dh_steps.specs.StepsAnswer.{StepsReply, Misspelt, Stuck, TooLarge, Printed, StepsAnswer, spells_none, is_outside, has_no_rule, grows, is_normal, is_not_normal}

lines_differ : settled_line ≡ unsettled_line → ⊥
lines_differ h = let lengths : 6 ≡ 10 = ap length h in absurd (omega (arith, lengths))

-- ---- the printed text of an end

abbrev EndsAt : List (List ℕ) → List ℕ → List ℕ → Type 0
EndsAt places input text = (e : Term) × (f : Term) × ParsesTo input (Ok e) × IsEnd e places f × IsSettled names f × (text ≡ text_of f)

texts_equal : (s t u v : List ℕ) → Printed s t ≡ Printed u v → (s ≡ u) × (t ≡ v)
texts_equal s t u v h = (cc, cc)

end_of : (places : List (List ℕ)) (input text : List ℕ) → StepsAnswer places input (Printed text settled_line) → EndsAt places input text
end_of places input text (spells_none f p w) = absurd cc
end_of places input text (is_outside e place p o w) = absurd cc
end_of places input text (has_no_rule e n p o q w) = absurd cc
end_of places input text (grows e n p o q w) = absurd cc
end_of places input text (is_normal e f p o q k s w) = (e, f, p, k, s, (texts_equal text settled_line (text_of f) settled_line w).0)
end_of places input text (is_not_normal e f p o q k s w) = absurd (lines_differ (texts_equal text settled_line (text_of f) unsettled_line w).1)

oks_equal : (e d : Term) → ◌≡◌ {A = Result Term ParseFault} (Ok e) (Ok d) → e ≡ d
oks_equal e d h = cc

ends_equal : (places others : List (List ℕ)) (e f g : Term) → IsEnd e places f → IsSettled names f → IsEnd e others g → IsSettled names g → g ≡ f
ends_equal places others e f g h s k t = (h.2 s).0 g (others, k.0) t

pub one_end_printed : OneEndPrinted
one_end_printed input places others text other h k =
    let (e, f, p, q, s, w) = end_of places input text h in
    let (d, g, o, r, t, v) = end_of others input other k in
    let same : d ≡ e = oks_equal d e (parses_once input (Ok d) (Ok e) o p) in
    let r' : IsEnd e others g = along (λ x. IsEnd x others g) same r in
    w ∙ sym (ap text_of (ends_equal places others e f g q s r' t)) ∙ sym v

-- ---- one reply

abbrev told_end : Outcome → StepsReply
told_end (Ends f) = Printed (text_of f) (if is_settled put f then settled_line else unsettled_line)
told_end (NoRow n) = Stuck (no_rule_line n)
told_end (Grows n) = TooLarge (grown_line n)

abbrev told_of : Option (List ℕ) → Outcome → StepsReply
told_of (Some place) o = Stuck (outside_line place)
told_of None o = told_end o

abbrev told : List (List ℕ) → Result Term ParseFault → StepsReply
told places (Err f) = Misspelt f
told places (Ok e) = told_of (first_outside e) (outcome 0 places e)

told_none : (places : List (List ℕ)) (e : Term) (o : Outcome) → first_outside e ≡ None → outcome 0 places e ≡ o → told_end o ≡ told places (Ok e)
told_none places e o p q = sym (ap (λ x. told_of x (outcome 0 places e)) p ∙ ap told_end q)

not_settled : (f : Term) (b : Bool) → is_settled put f ≡ b → IsTrue (in_fragment f) → ¬ IsSettled names f → b ≡ false
not_settled f true p i s = absurd (s ((settled_decides f i).0 p))
not_settled f false p i s = refl

is_told : (places : List (List ℕ)) (input : List ℕ) (w : StepsReply) → StepsAnswer places input w → (r : Result Term ParseFault) × ParsesTo input r × (w ≡ told places r)
is_told places input w (spells_none f p h) = (Err f, p, h)
is_told places input w (is_outside e place p o h) = (Ok e, p, h ∙ ap (λ x. told_of x (outcome 0 places e)) (sym o))
is_told places input w (has_no_rule e n p o q h) = (Ok e, p, h ∙ told_none places e (NoRow n) o q)
is_told places input w (grows e n p o q h) = (Ok e, p, h ∙ told_none places e (Grows n) o q)
is_told places input w (is_normal e f p o q k s h) =
    let settled : is_settled put f ≡ true = (settled_decides f k.1).1 s in
    (Ok e, p, h ∙ ap (λ b. Printed (text_of f) (if b then settled_line else unsettled_line)) (sym settled) ∙ told_none places e (Ends f) o q)
is_told places input w (is_not_normal e f p o q k s h) =
    let settled : is_settled put f ≡ false = not_settled f (is_settled put f) refl k.1 s in
    (Ok e, p, h ∙ ap (λ b. Printed (text_of f) (if b then settled_line else unsettled_line)) (sym settled) ∙ told_none places e (Ends f) o q)

pub one_reply : OneReply
one_reply input places v w h k =
    let (r, p, q) = is_told places input v h in
    let (s, o, t) = is_told places input w k in
    q ∙ ap (told places) (parses_once input r s p o) ∙ sym t
