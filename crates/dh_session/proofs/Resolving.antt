-- A table whose root is decided ends as the resolver has it.
use Rattle.std.specs.Prelude.{◌≡◌, Bool, true, false, List, Option, Some, None, IsSome, IfSome, if◌then◌else◌, refl}
use Rattle.std.proofs.Common.{ap, sym, ◌∙◌, subst, inl, inr}
use Rattle.dh_syntax.specs.Expressions.Tree.{Term}
use Rattle.dh_imports.specs.Machine.{Task, News, State, Event, root_walk, after_all, Lawful}
use Rattle.dh_imports.specs.Replay.{Step, Replays, RootEnd, too_many, has_too_many, end_of, root_end}
use Rattle.dh_imports.specs.Resolver.{ResolvesRoot}
use Rattle.dh_imports.specs.RootEnds.{EndsBy, resolved, overflows}
use Rattle.dh_imports.specs.Walk.{Walked, Ready, Fails, Turns, Needs}
use Rattle.dh_import_laws.specs.ImportLaws.{IsDecided}
use Rattle.dh_import_laws.proofs.Laws.{root_is_resolved}
use Rattle.dh_table.specs.Shown.{Shown}
use Rattle.dh_table.specs.States.{IsReplayed, state_of}

decided : (w : Walked Term) (e : RootEnd) → end_of w ≡ Some e → IsDecided w
decided (Ready v) e is = tt
decided (Fails b) e is = tt
decided (Turns j) e is = tt
decided (Needs k) e is = absurd (cc)

walks : (root : Term) (es : List Event) (s : State) (e : RootEnd) → Lawful root es → after_all root es ≡ s → s.root ≡ root → has_too_many s ≡ false → end_of (root_walk s) ≡ Some e
    → EndsBy s.recorded s.root e
walks root es s e lawful is same few end =
    resolved (root_walk s) few
    (subst (λ r. ResolvesRoot s.recorded r (root_walk s)) (sym same)
    (subst (λ t. ResolvesRoot t.recorded root (root_walk t)) is
    (root_is_resolved root es lawful (subst (λ t. IsDecided (root_walk t)) (sym is) (decided (root_walk s) e end)))))
    end

ended : (root : Term) (es : List Event) (s : State) (e : RootEnd) → Lawful root es → after_all root es ≡ s → s.root ≡ root → (many : Bool) → has_too_many s ≡ many
    → (if many then Some too_many else end_of (root_walk s)) ≡ Some e → EndsBy s.recorded s.root e
ended root es s e lawful is same true many end = subst (EndsBy s.recorded s.root) (cc) (overflows many)
ended root es s e lawful is same false few end = walks root es s e lawful is same few end

-- how the root of a table ends, where it ends
at_end : {E : Type 0} (P : E → Type 0) (o : Option E) → ((e : E) → o ≡ Some e → P e) → IfSome o P
at_end P None all = tt
at_end P (Some e) all = all e refl

pub resolves : (t : Shown) → IsReplayed t → IfSome (root_end (state_of t)) (EndsBy (state_of t).recorded (state_of t).root)
resolves t r = at_end (EndsBy (state_of t).recorded (state_of t).root) (root_end (state_of t))
    (λ e is. ended (state_of t).root r.events (state_of t) e r.lawful r.state_is refl (has_too_many (state_of t)) refl is)
