-- Lines of values.
use Rattle.std.specs.Prelude.{◌≡◌, ◌≤◌, ◌+◌, ◌-◌, ◌^◌, ℕ, List, [], Result, Ok, Err, IfOk, refl}
use Rattle.std.proofs.Common.{sym, ap, ◌∙◌, subst, inl, inr, arith}
use Rattle.std.specs.declared.alloc.AllocError.{AllocError}
use Rattle.dh_command.specs.Answer.{IsTyped, digest_line}
use Rattle.dh_command.specs.declared.statuses.Status.{Status}
use Rattle.dh_command.specs.declared.statuses.Status.TheVariants as status
use Rattle.dh_script_laws.specs.Asks.{ValueLine, digest, ill, limited}
use Rattle.dh_syntax.specs.Bytes.Digests.{digest_of}
use Rattle.dh_syntax.specs.declared.faults.Ill.{Ill}
use Rattle.dh_syntax.specs.declared.faults.NormFault.{NormFault}
use Rattle.dh_syntax.specs.declared.faults.NormFault.TheVariants as limit
use Rattle.dh_syntax.specs.declared.faults.TypeFault.{TypeFault}
use Rattle.dh_syntax.specs.declared.faults.TypeFault.TheVariants as type
use Rattle.dh_syntax.specs.declared.locations.Digest.{Digest}
use Rattle.dh_syntax.specs.Expressions.Nesting.{nesting}
use Rattle.dh_syntax.specs.Expressions.Tree.{Term}
use Rattle.dh_syntax.specs.FaultLines.{ill_line, norm_fault_line}
use Rattle.dh_syntax.specs.Limits.{most_nesting, whole_purse}
use Rattle.dh_syntax.specs.Names.Indices.{IndicesBelow}
use Rattle.dh_syntax.specs.Normalising.Named.{names}
use Rattle.dh_syntax.specs.Normalising.Normal.{HasNormalForm, IsLicensed}
use Rattle.dh_syntax.specs.Typing.NamedTyping.{IsIll, IsTypeFault, IsTypeLimit}
use Rattle.dh_terms.proofs.KidItems.{indices-more}
use Rattle.dh_watch_lines.specs.declared.lines.Told.{Told}
use Rattle.dh_watch_lines.specs.Lines.{IsTold}

told_line : (e : Term) (t : Told) (line : List ℕ) (s : Status) → IsTold t line s → ValueLine e line s → ValueLine e t.text t.status
told_line e t line s w h = subst (λ l. ValueLine e l t.status) (sym w.0) (subst (λ z. ValueLine e line z) (sym w.1) h)

pub digest_line_told : (r : Result Told AllocError) (e f : Term) (d : Digest) → (t : Term) × IsTyped e t → HasNormalForm names e f → nesting f ≤ most_nesting → d ≡ digest_of f
    → IfOk r (λ t. IsTold t (digest_line d) status.Ok) → IfOk r (λ t. ValueLine e t.text t.status)
digest_line_told (Ok t) e f d has h n same w = told_line e t (digest_line d) status.Ok w (subst (λ z. ValueLine e (digest_line z) status.Ok) (sym same) (digest has.0 f has.1 h n))
digest_line_told (Err x) e f d has h n same w = tt

pub form_limit_told : (r : Result Told AllocError) (e : Term) (l : NormFault) → (t : Term) × IsTyped e t → IsLicensed names nesting whole_purse e l
    → IfOk r (λ t. (l ≡ limit.Memory → ⊥) × IsTold t (norm_fault_line l) status.Limit) → IfOk r (λ t. ValueLine e t.text t.status)
form_limit_told (Ok t) e l has h w = told_line e t (norm_fault_line l) status.Limit w.1 (limited l w.0 (inr (refl, has, h)))
form_limit_told (Err x) e l has h w = tt

-- it is told for each expression that is not typed so
abbrev pub TellsFault : TypeFault → Told → Type 0
TellsFault f t = (e : Term) → IsTypeFault [] whole_purse e f → ValueLine e t.text t.status

pub ill_line_told : (r : Result Told AllocError) (f : TypeFault) (i : Ill) → f ≡ type.Ill i → IfOk r (λ t. IsTold t (ill_line i) status.Ill) → IfOk r (TellsFault f)
ill_line_told (Ok t) f i is w = λ e h. told_line e t (ill_line i) status.Ill w (ill i (subst (IsTypeFault [] whole_purse e) is h))
ill_line_told (Err x) f i is w = tt

pub limit_line_told : (r : Result Told AllocError) (f : TypeFault) (l : NormFault) → (l ≡ limit.Memory → ⊥) → ((e : Term) → IsTypeFault [] whole_purse e f → IsTypeLimit [] whole_purse e l)
    → IfOk r (λ t. IsTold t (norm_fault_line l) status.Limit) → IfOk r (TellsFault f)
limit_line_told (Ok t) f l n means w = λ e h. told_line e t (norm_fault_line l) status.Limit w (limited l n (inl (means e h)))
limit_line_told (Err x) f l n means w = tt

pub for_value : (r : Result Told AllocError) (f : TypeFault) (e : Term) → IsTypeFault [] whole_purse e f → IfOk r (TellsFault f) → IfOk r (λ t. ValueLine e t.text t.status)
for_value (Ok t) f e h w = w e h
for_value (Err x) f e h w = tt

-- a normal form fits the digest
pub form_indices : (f : Term) → nesting f ≤ most_nesting → IndicesBelow (2 ^ 31 + most_nesting) f → IndicesBelow (2 ^ 32 - nesting f) f
form_indices f n h = indices-more (2 ^ 31 + most_nesting) (2 ^ 32 - nesting f) f (omega (arith, n)) h
