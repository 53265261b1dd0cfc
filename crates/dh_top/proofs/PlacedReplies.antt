-- The reply that tells a place without a type.
use Rattle.std.proofs.Common.{◌≡◌, ℕ, List, Option, Result, Ok, Err, IfOk, refl, sym, ap, ◌∙◌, subst}
use Rattle.std.specs.declared.alloc.AllocError.{AllocError}
use Rattle.dh_syntax.specs.declared.faults.Ill.{Ill}
use Rattle.dh_syntax.specs.declared.locations.Key.{Key}
use Rattle.dh_command.specs.declared.statuses.Status.TheVariants as status
use Rattle.dh_command.specs.Responses.{Response, fault}
use Rattle.dh_imports.specs.ImportFaults.{in_item}
use Rattle.dh_command.specs.PlacedFaults.{placed_line, ill_line_at}
use Rattle.dh_syntax.specs.Expressions.Tree.{Term}
use Rattle.dh_syntax.specs.Text.Places.{start_of, line_at, column_at}
use Rattle.dh_syntax.specs.Text.Spans.{Spans, SpellsAt}
use Rattle.dh_syntax.specs.Text.Spelling.{ParsesTo}
use Rattle.dh_top.specs.declared.replies.Reply.{Reply}
use Rattle.dh_top.specs.Replies.{written, TellsPlace}
use Rattle.dh_top.proofs.Spelled.{same_term}

pub told_at : (r : Result Reply AllocError) (at : Option Key) (text : List ℕ) (d : Term) (nodes : Spans) (path : List ℕ) (f : Ill) (l c : ℕ) (bytes : List ℕ)
    → SpellsAt text d nodes → l ≡ line_at text (start_of nodes path) → c ≡ column_at text (start_of nodes path) → bytes ≡ placed_line f l c
    → IfOk r (λ x. written x ≡ fault (in_item at bytes) status.Ill) → IfOk r (λ x. (e : Term) → ParsesTo text (Ok e) → TellsPlace at text e path f (written x))
told_at (Err x) at text d nodes path f l c bytes s p q b w = tt
told_at (Ok x) at text d nodes path f l c bytes s p q b w = λ e parsed.
    let all : bytes ≡ ill_line_at text nodes path f = b ∙ ap (λ l. placed_line f l c) p ∙ ap (λ c. placed_line f (line_at text (start_of nodes path)) c) q in
    record {
      nodes = nodes;
      stand = subst (λ d. SpellsAt text d nodes) (same_term text d e s.0 parsed) s;
      written_is = w ∙ ap (λ b. fault (in_item at b) status.Ill) all;
    }
