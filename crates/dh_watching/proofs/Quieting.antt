-- Runs in which no device fails.
use Rattle.std.proofs.Common.{◌≡◌, ◌∙◌, ◌⊎◌, inl, inr, ℕ, ◌-◌, ◌^◌, ◌≤◌, ◌<◌, List, [], ◌∷◌, Some, refl, ap, subst, arith}
use Rattle.dh_command.specs.declared.statuses.Status.{Status}
use Rattle.dh_command.specs.declared.statuses.Status.TheVariants as status
use Rattle.dh_command.specs.Responses.{Response, fault}
use Rattle.dh_imports.specs.Machine.{IsAmong}
use Rattle.dh_ports.specs.Counts.{Rose}
use Rattle.dh_script.specs.declared.faults.ScriptFault.{ScriptFault}
use Rattle.dh_script.specs.Faults.{IsRefused, fault_line}
use Rattle.dh_script_laws.specs.Answering.{Refusal, Failed, TooMany, Memory}
use Rattle.dh_script_laws.specs.Scripts.{refusal_status, refusal_text}
use Rattle.dh_streams.specs.Streams.{Gains, Input, IsTaken, Output}
use Rattle.dh_watch_laws.specs.ScriptLines.{IsScript, Order}
use Rattle.dh_watching.specs.QuietRuns as quiet
use Rattle.dh_watching.specs.QuietRuns.{AreQuiet, QuietRuns, Writes}
use Rattle.dh_streams.specs.Deliveries as deliveries
use Rattle.dh_watching.specs.Runs as runs
use Rattle.dh_streams.specs.Deliveries.{Delivers}
use Rattle.dh_watching.specs.Runs.{Ends, EndsWith, Refuses, RoseBy, Runs, failures, fault_status}
use Rattle.dh_watching.specs.Steps.{State}

-- asks none of which was refused since a device failed
none_failed : (fs : List Refusal) → failures fs ≡ 0 → (f : Refusal) → IsAmong f fs → ¬ (f ≡ Failed)
none_failed [] n f m e = m
none_failed (Failed ∷ fs) n f m e = absurd (omega (arith, n))
none_failed (TooMany ∷ fs) n f (inl p) e = let no : TooMany ≡ Failed = p ∙ e in cc
none_failed (TooMany ∷ fs) n f (inr q) e = none_failed fs n f q e
none_failed (Memory ∷ fs) n f (inl p) e = let no : Memory ≡ Failed = p ∙ e in cc
none_failed (Memory ∷ fs) n f (inr q) e = none_failed fs n f q e

-- a count that did not rise
no_rise : (n a b : ℕ) → b ≡ a → a < 2 ^ 64 - 1 → RoseBy n a b → n ≡ 0
no_rise n a b e h (inl p) = omega (arith, e, p)
no_rise n a b e h (inr p) = absurd (omega (arith, e, h, p))

no_rose : (n a b c : ℕ) → b ≡ a → a < 2 ^ 64 - 1 → RoseBy n a c → c ≤ b → ¬ Rose c b
no_rose n a b c e h (inl p) le (inl q) = omega (arith, e, p, q)
no_rose n a b c e h (inr p) le r = omega (arith, e, h, p, le)
no_rose n a b c e h (inl p) le (inr q) = let last = q.1 in omega (arith, e, h, last)

abbrev Answer : Input → Output → Output → Status → Type 0
Answer input out err s = (s ≡ status.Memory) ⊎ ((text : List ℕ) × IsTaken text input × Writes text out err s)

module _ (input : Input) (a b : State) (out err : Output) (s : Status) (told : a.told ≡ Some []) (kept : a.kept ≡ []) (q : AreQuiet input a b out err) where
  -- what was delivered was written whole
  delivered : {P : Type 0} (w : Response) → Delivers w out err s → (Gains out w.out → Gains err w.err → s ≡ w.status → P) → P
  delivered w (deliveries.whole g h e) next = next g h e
  delivered w (deliveries.out_failed g h e) next = absurd (q.writes g.failed)
  delivered w (deliveries.err_failed g h e) next = absurd (q.tells h.failed)

  of_fault : (text : List ℕ) (f : ScriptFault) (w : Response) → IsTaken text input → IsRefused text f → w ≡ fault (fault_line f) (fault_status f) → Delivers w out err s → Answer input out err s
  of_fault text f w taken refused is d =
      delivered w d (λ g h e. inr (text, taken, quiet.fault f refused (subst (λ (x : Response). Gains out x.out) is g) (subst (λ (x : Response). Gains err x.err) is h) (e ∙ ap (λ (x : Response). x.status) is)))

  of_refusal : (w : Response) → Refuses [] input w → Delivers w out err s → Answer input out err s
  of_refusal w (runs.has_words some left is) d = absurd (some refl)
  of_refusal w (runs.cannot_read none rose is) d = absurd (q.reads rose)
  of_refusal w (runs.no_script text f none taken refused is) d = of_fault text f w taken refused is d
  of_refusal w (runs.lacks_memory none is) d = delivered w d (λ g h e. inl (e ∙ ap (λ (x : Response). x.status) is))

  of_end : (f : Refusal) → (f ≡ Failed → ⊥) → (f ≡ Failed) ⊎ (f ≡ Memory) → (text : List ℕ) → EndsWith text (refusal_status f) err s → s ≡ status.Memory
  of_end f never (inl p) text e = absurd (never p)
  of_end f never (inr p) text (inl e) = e.1 ∙ ap refusal_status p
  of_end f never (inr p) text (inr e) = absurd (q.tells e.0.failed)

  of_ends : (text : List ℕ) (orders : List Order) → IsTaken text input → IsScript text orders → Ends orders a b out err s → Answer input out err s
  of_ends text orders taken script (runs.through out_told d g h) =
      inr (text, taken, quiet.orders orders out_told d.refused script (d.tried told kept) (none_failed d.refused (no_rise (failures d.refused) a.faults b.faults q.files q.counts d.counted)) g h)
  of_ends text orders taken script (runs.refused before after o c out_told t f cut edit d kind same le rose g ends) =
      inl (of_end f (λ p. no_rose (failures d.refused) a.faults b.faults c.faults q.files q.counts d.counted le (rose p)) kind (refusal_text f) ends)
  of_ends text orders taken script (runs.cut before after out_told t cut d stops tries e) = absurd (q.writes stops.failed)

  of_run : Runs [] input a b out err s → Answer input out err s
  of_run (runs.refuses w refused same d) = of_refusal w refused d
  of_run (runs.follows text orders none taken script e) = of_ends text orders taken script e

pub quiet_runs : QuietRuns
quiet_runs input a b out err s r told kept q = of_run input a b out err s told kept q r
