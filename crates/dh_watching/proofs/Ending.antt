-- How a run ends, by how far its orders were gone through.
use Rattle.std.proofs.Common.{◌≡◌, ◌⊎◌, inl, inr, ℕ, List, [], ◌∷◌, ◌++◌, Option, Some, None, refl, sym, subst}
use Rattle.dh_command.specs.declared.statuses.Status.{Status}
use Rattle.dh_command.specs.declared.statuses.Status.TheVariants as status
use Rattle.dh_ports.specs.Counts.{Rose}
use Rattle.dh_ports.specs.declared.desks.DeskError.{DeskError}
use Rattle.dh_ports.specs.declared.desks.DeskError.TheVariants as errors
use Rattle.dh_script_laws.specs.Answering.{Failed, Memory}
use Rattle.dh_streams.specs.Streams.{Gains, Output, Stops}
use Rattle.dh_watch_laws.specs.ScriptLines.{Order}
use Rattle.dh_watching.specs.declared.following.Gone.{Gone}
use Rattle.dh_watching.specs.declared.following.Halt.{Halt}
use Rattle.dh_watching.specs.declared.following.Halt.TheVariants as halts
use Rattle.dh_watching.specs.Inside.Gone.{IsGone, IsGoneTo}
use Rattle.dh_watching.specs.Inside.Read.{IsEnded, IsEndedBy, refusal_of_desk}
use Rattle.dh_watching.specs.Runs.{Does, Ends, EndsWith, through, refused, cut}
use Rattle.dh_watching.specs.Steps.{State}
use Rattle.dh_watching.proofs.Trying.{does_of}

kind : (e : DeskError) → (refusal_of_desk e ≡ Failed) ⊎ (refusal_of_desk e ≡ Memory)
kind errors.Failed = inl refl
kind errors.Memory = inr refl

rose : (e : DeskError) (m n : ℕ) → (e ≡ errors.Failed → Rose m n) → refusal_of_desk e ≡ Failed → Rose m n
rose errors.Failed m n h p = h refl
rose errors.Memory m n h p = cc

ends_at : (orders : List Order) (a b : State) (out err : Output) (s t : Status) (halt : Option Halt) → IsGoneTo a b orders out t halt → IsEndedBy t halt err s → Ends orders a b out err s
ends_at orders a b out err s t None h k =
    through h.told (subst (Does a b orders h.told) (sym k.1) (does_of a b orders h.told t h.refused h.goes)) h.gains k.0
ends_at orders a b out err s t (Some (halts.Refused e)) h k =
    refused h.before h.after h.order h.middle h.gone.told t (refusal_of_desk e) h.cut h.refused.edit (does_of a h.middle h.before h.gone.told t h.gone.refused h.gone.goes)
    (kind e) h.refused.unchanged h.refused.counted (rose e h.middle.faults b.faults h.refused.failed) h.gone.gains k
ends_at orders a b out err s t (Some halts.Cut) h k = cut h.before h.after h.told h.status h.cut (does_of a b h.before h.told h.status h.refused h.goes) h.stops k.0 k.1

pub ends_of : (orders : List Order) (a b : State) (out err : Output) (s : Status) (g : Gone) → IsGone a b orders out g → IsEnded g err s → Ends orders a b out err s
ends_of orders a b out err s g h k = ends_at orders a b out err s g.status g.halt h k

-- the last line of a run, whose text and whose line feed are written one after the other
module _ (text bytes : List ℕ) (same : bytes ≡ text) (t : Status) (err : Output) where
  pub told_last : (s : Status) → Gains err (bytes ++ 10 ∷ []) → s ≡ t → EndsWith text t err s
  told_last s g e = inl (subst (λ b. Gains err (b ++ 10 ∷ [])) same g, e)

  pub cut_last : Stops err (bytes ++ 10 ∷ []) → EndsWith text t err status.Write
  cut_last g = inr (subst (λ b. Stops err (b ++ 10 ∷ [])) same g, refl)
