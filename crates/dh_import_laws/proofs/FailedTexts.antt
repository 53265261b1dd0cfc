-- Where a failed device decides, a failure is recorded.
use Rattle.std.specs.Prelude.{◌≡◌, List, Some}
use Rattle.std.proofs.Common.{ap, ◌∙◌, subst}
use Rattle.dh_syntax.specs.declared.locations.Key.{Key}
use Rattle.dh_syntax.specs.declared.locations.Loc.{Loc}
use Rattle.dh_imports.specs.declared.outcomes.Blame.{Blame}
use Rattle.dh_imports.specs.declared.outcomes.Why.{Why}
use Rattle.dh_imports.specs.declared.outcomes.Why.TheVariants.{Typing, Failed}
use Rattle.dh_syntax.specs.Expressions.Tree.{Term}
use Rattle.dh_imports.specs.Machine.{Event, Lawful, after_all}
use Rattle.dh_imports.specs.Records as found
use Rattle.dh_imports.specs.Records.{Record, text_at, limit_at, IsLimitOf}
use Rattle.dh_imports.specs.Walk.{Ask}
use Rattle.dh_import_laws.specs.Failures.{FailuresAreRecorded, RootFailuresAreRecorded}
use Rattle.dh_import_laws.proofs.Facts.{limits_are_licensed}
use Rattle.dh_import_laws.proofs.Keep.{lawful-keeps}
use Rattle.dh_import_laws.proofs.Sources.{IsOfWalks, IsOfKey, Source, walked, keyed, limited, typed, source, root_source}

abbrev IsTyping : Why → Type 0
IsTyping (Typing f) = Unit {0}
IsTyping _ = ⊥

failed_there : (r : Record) (ask : Ask) (b : Blame) → ((k : Key) (w : Why) → limit_at r k ≡ Some w → (x : Term) × IsLimitOf x w) → b.why ≡ Failed → Source r ask b
    → (l : Loc) × (text_at r l ≡ Some found.Failed)
failed_there r ask b limits e (walked h) = absurd (subst IsOfWalks e h)
failed_there r ask b limits e (keyed k h) = (k.loc, subst (IsOfKey r k) e h)
failed_there r ask b limits e (limited k h) = let l = limits k b.why h in absurd (subst (IsLimitOf l.0) e l.1)
failed_there r ask b limits e (typed k x v allow f p h i q) = absurd (subst IsTyping (ap (λ (c : Blame). c.why) q ∙ e) tt)

licensed : (root : Term) (es : List Event) → Lawful root es → (k : Key) (w : Why) → limit_at (after_all root es).recorded k ≡ Some w → (x : Term) × IsLimitOf x w
licensed root es h k w e = let l = limits_are_licensed root es k w h e in (l.0, l.3)

pub failures_are_recorded : FailuresAreRecorded
failures_are_recorded root es k b h e failed =
    let s = after_all root es in failed_there s.recorded _ b (licensed root es h) failed (source s.recorded (lawful-keeps root es h).log k b e)

pub root_failures_are_recorded : RootFailuresAreRecorded
root_failures_are_recorded root es b h e failed =
    let s = after_all root es in failed_there s.recorded _ b (licensed root es h) failed (root_source s.recorded (lawful-keeps root es h).log s.root b e)
