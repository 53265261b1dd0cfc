-- One step more of a history.
use Rattle.std.specs.Prelude.{◌≡◌, List, [], ◌∷◌, ◌++◌}
use Rattle.std.proofs.Common.{ap, sym, ◌∙◌, subst}
use Rattle.dh_syntax.specs.Expressions.Tree.{Term}
use Rattle.dh_imports.specs.Machine.{Task, State, Event, News, May, effect, after_all}
use Rattle.dh_imports.specs.Replay.{Step, step_of, steps, late_news, Replays}

-- a history and a state that are one step further
pub further : (root : Term) (drawn : List Task) (news : List News) (history : List Step) (s : State) → Replays root drawn news history s
    → (e : Event) → May e s → (t : State) (news' : List News) (history' : List Step) → t ≡ effect e s → news' ≡ news ++ late_news e → history' ≡ history ++ step_of drawn e ∷ []
    → Replays root t.drawn news' history' t
further root drawn news history s r e may t news' history' p q h =
    let now : effect e (after_all root r.events) ≡ t = ap (effect e) r.state_is ∙ sym p in
    record {
      events = e ∷ r.events;
      lawful = (r.lawful, subst (May e) (sym r.state_is) may);
      history_is = ap (λ d. steps root r.events ++ step_of d e ∷ []) r.drawn_is ∙ ap (λ x. x ++ step_of drawn e ∷ []) r.history_is ∙ sym h;
      drawn_is = ap (λ (x : State). x.drawn) now;
      news_is = ap (λ x. x ++ late_news e) r.news_is ∙ sym q;
      state_is = now;
    }
