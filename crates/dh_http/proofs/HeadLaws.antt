-- Heads at the front of a stream, from what stands in the window.
use Rattle.std.proofs.Common.{◌≡◌, ℕ, ◌-◌, ◌<◌, ◌≤◌, ◌⊎◌, List, [], ◌++◌, length, take, drop, Some, None, true, sym, ap, ◌∙◌, arith, subst}
use Rattle.httparse.specs.Grammar.{ResponseHead, print_response, ReadsResponse, HasNoResponse}
use Rattle.httparse.specs.Spans.{ResponseOverflows}
use Rattle.dh_http.specs.Bodies.{most_line}
use Rattle.dh_http.specs.Forms.{WhereKnown}
use Rattle.dh_http.specs.Heads.{FindsHead, TakesHead}
use Rattle.dh_http.specs.Reading.{InboxState, Place, Took}
use Rattle.dh_http.specs.Reply.{HasHead, most_fields}
use Rattle.dh_http.specs.declared.heads.Head.{Head}
use Rattle.dh_http.specs.declared.heads.Seen.TheVariants.{Whole}
use Rattle.dh_http.proofs.FormLaws.{where_known, known_first, window_cut, take_front, whole_window, Fronts, front_at, took_front}

pub head_front : (bytes : List ℕ) (head : Head) → FindsHead (take most_line bytes) (Whole head)
    → (h : ResponseHead) × Fronts bytes (print_response h) head.len
head_front bytes head f = (f.0, front_at bytes (print_response f.0) f.1 head.len f.2.1 f.3)

pub took_head : (a b : Place) (new : InboxState) (head : Head) → Took a b [] → FindsHead (take most_line b.inbox.bytes) (Whole head)
    → new ≡ record b.inbox { bytes = drop head.len b.inbox.bytes } → TakesHead a (record b { inbox = new }) (Some head)
took_head a b new head took f e =
    let front : Fronts b.inbox.bytes (print_response f.0) head.len = front_at b.inbox.bytes (print_response f.0) f.1 head.len f.2.1 f.3 in
    (f.0, took_front a b new (print_response f.0) head.len took front e, f.2.0, front.short, f.4)

no_head_later : (a b : Place) → Took a b [] → WhereKnown b (λ s. (h : ResponseHead) (rest : List ℕ) → ¬ (HasHead s h rest)) → TakesHead a b None
no_head_later a b took none = (([], took), known_first a b [] _ _ took none (λ s q. q))

pub no_head_end : (a b : Place) → Took a b [] → ResponseOverflows most_fields (take most_line b.inbox.bytes) → TakesHead a b None
no_head_end a b took over = no_head_later a b took (where_known b _ (λ left e h rest has.
    let long : most_fields < length h.fields = over (drop most_line b.inbox.bytes ++ left) h rest
    (subst (λ t. ReadsResponse t h rest) (whole_window b.inbox.bytes left) has.0) in
    absurd (omega (arith, long, has.2))))

pub no_head_cut : (a b : Place) → Took a b [] → (most_line ≤ length b.inbox.bytes) ⊎ (b.inbox.ended ≡ true)
    → HasNoResponse (take most_line b.inbox.bytes) → TakesHead a b None
no_head_cut a b took full none = no_head_later a b took (where_known b _ (λ left e h rest has.
    none h (take (most_line - length (print_response h)) rest)
    (has.0.0, sym (window_cut b took.fits full left e) ∙ ap (take most_line) has.0.1 ∙ take_front (print_response h) rest most_line has.1)))
