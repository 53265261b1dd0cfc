-- The laws of the resolver and of the table.
use Rattle.std.specs.Prelude.{◌≡◌, ℕ, List, [], ◌∷◌, None, refl}
use Rattle.std.proofs.Common.{◌∙◌, subst}
use Rattle.dh_syntax.specs.Expressions.Tree.{Term}
use Rattle.dh_import_laws.specs.ImportLaws.{KeysTotal, KeysTransitive, KeysAntisymmetric, OneOutcome, MoreToSpend, MoreRecorded, OutcomesAreResolved, RootIsResolved, GoesOn, FetchesAreWanted, FrozenLeadAfterLooks, InFlightOnce}
use Rattle.dh_imports.specs.Machine.{outcome_of, Event, after_all}
use Rattle.dh_imports.specs.Records as found
use Rattle.dh_imports.specs.Records.{Record, Noted, Seen, text_at, look_at, limit_at, lookup, IsParsed, IsGood, IsLimitOf}
use Rattle.dh_imports.specs.Resolver.{resolve}
use Rattle.dh_imports.specs.Walk.{walk}
use Rattle.dh_laws.proofs.KeyOrder.{key_le-total, key_le-transitive, key_le-antisymmetric}
use Rattle.dh_import_laws.proofs.Grow.{resolve-rises, resolve-grown, resolves-one}
use Rattle.dh_import_laws.proofs.Sound.{decided, walk-decided}
use Rattle.dh_import_laws.proofs.Plans.{IsNoEntry, fetch-wanted, frozen-leads}
use Rattle.dh_import_laws.proofs.Facts.{decided_same, root_step}
use Rattle.dh_import_laws.proofs.Keep.{lawful-keeps}
use Rattle.dh_import_laws.proofs.Progress.{goes_on}

pub keys_total : KeysTotal
keys_total = key_le-total

pub keys_transitive : KeysTransitive
keys_transitive = key_le-transitive

pub keys_antisymmetric : KeysAntisymmetric
keys_antisymmetric = key_le-antisymmetric

pub one_outcome : OneOutcome
one_outcome = resolves-one

pub more_to_spend : MoreToSpend
more_to_spend = resolve-rises

pub more_recorded : MoreRecorded
more_recorded r r' h k o (n, e) = (n, resolve-grown r r' (record { texts = h.texts; looks = h.looks }) h.limits n [] k o e)

pub outcomes_are_resolved : OutcomesAreResolved
outcomes_are_resolved root es k o h e =
    let s = after_all root es in decided s.recorded s.outcomes (lawful-keeps root es h).log k o e

pub root_is_resolved : RootIsResolved
root_is_resolved root es h d =
    let s = after_all root es in
    let f = walk-decided s.recorded s.outcomes (lawful-keeps root es h).log None s.root in
    (f.0, subst (λ e. walk None (resolve s.recorded f.0 []) e ≡ walk None (outcome_of s) s.root) (root_stays root es) (decided_same (resolve s.recorded f.0 []) (walk None (outcome_of s) s.root) (walk None (resolve s.recorded f.0 []) s.root) f.1 d))
  where
    root_stays : (root : Term) (es : List Event) → (after_all root es).root ≡ root
    root_stays root [] = refl
    root_stays root (e ∷ es) = root_step e (after_all root es) ∙ root_stays root es

pub claims_go_on : GoesOn
claims_go_on s y idle none h = goes_on s idle none y h

pub fetches_are_wanted : FetchesAreWanted
fetches_are_wanted s worker l o =
    let f = fetch-wanted s l o.due in (f.0, f.1, f.2, (f.3).unfrozen, (f.3).read, (f.3).fetched, f.4)

no_entry : (look : Seen) → IsNoEntry look → (bytes : List ℕ) (e : Term) → ¬ (look ≡ found.Good bytes e)
no_entry look h bytes e p = absurd (subst IsNoEntry p h)

pub frozen_lead_after_looks : FrozenLeadAfterLooks
frozen_lead_after_looks s j d k e m = let f = frozen-leads s j d k e m in (f.0, f.1.0, f.1.1, no_entry f.1.0 f.1.2)

pub in_flight_once : InFlightOnce
in_flight_once root es m n t h a b = (lawful-keeps root es h).once m n t a b
