-- `t::r`.
use Rattle.std.specs.Prelude.{◌≡◌, ◌<◌, ℕ, suc, map, length, reverse, refl}
use Rattle.std.proofs.Common.{ap, sym, ◌∙◌, subst as along}
use Rattle.dh_syntax.specs.declared.expressions.Op.TheVariants.{Bin}
use Rattle.dh_syntax.specs.declared.operators.BinOp.TheVariants.{Complete}
use Rattle.dh_syntax.specs.Names.Nameless.{Core, sub}
use Rattle.dh_syntax.specs.Typing.Inference.{Instead, Ill}
use Rattle.dh_syntax.specs.Typing.TypeRules as rule
use Rattle.dh_store.specs.declared.codes.Codes.{Codes}
use Rattle.dh_store.specs.Cells.{code_core}
use Rattle.dh_store.specs.Growth.{count}
use Rattle.dh_norm.specs.References.{opened}
use Rattle.dh_types.specs.Growing.{Grows, Stands}
use Rattle.dh_infer.specs.declared.frames.Failure.{Failure}
use Rattle.dh_infer.specs.declared.frames.Frame.TheVariants as frames
use Rattle.dh_infer.specs.declared.frames.State.{State}
use Rattle.dh_infer.specs.declared.frames.State.TheVariants as states
use Rattle.dh_infer.specs.declared.frames.Typer.{Typer}
use Rattle.dh_infer.specs.Inside.Debts.{whole, Comes}
use Rattle.dh_infer.specs.Inside.Forms.{IsNodeOf, IsPair}
use Rattle.dh_infer.specs.Inside.Levels.{moving, IsOf}
use Rattle.dh_infer.specs.Inside.Machine.{debts, IsReady, Advances, IsRefusal, with_frame}
use Rattle.dh_infer.specs.Inside.Rests as rests
use Rattle.dh_infer.specs.Inside.Rests.{longer}
use Rattle.dh_infer.specs.Inside.Scopes.{Models, env, in_scope}
use Rattle.dh_infer.proofs.Leading.{leads-part, leads-other}
use Rattle.dh_infer.proofs.Modelled.{models-before}
use Rattle.dh_infer.proofs.PartsOf.{of-pair}
use Rattle.dh_infer.proofs.Readiness.{pushes}
use Rattle.dh_infer.proofs.Returning.{returns, returns-pushing}
use Rattle.dh_infer.proofs.Starting.{deeper, pair-shape}

pub begins-completion : (m : Typer) (k u : ℕ) → IsReady m (states.Type k) → (t r : ℕ) → t < count m.codes → r < count m.codes
    → ((g : ℕ → Core) → Models m.codes g → IsNodeOf g (g k) (Bin Complete) (λ q. IsPair g q t r))
    → Advances m (with_frame (frames.CompletedType t r) m) (states.Type k) (states.Type t) u u
begins-completion m k u ready t r t-there r-there is =
    pushes m (states.Type k) ready (frames.CompletedType t r) t u u refl refl (t-there, r-there) t-there
    (λ g l s.
    let p = of-pair (length (map g m.levels)) (Bin Complete) (in_scope g m.scope t) (in_scope g m.scope r)
    (along (IsOf (length (map g m.levels))) (pair-shape m k u ready t r t-there r-there (Bin Complete) is g l) s.state) in
    (p, p.0))
    (λ g l s root w.
    leads-part (Comes root (debts g m.scope m.levels m.frames)) u (λ d. whole (map g m.levels) (in_scope g m.scope k) (suc d)) (deeper root m g k u w) 0 (whole (map g m.levels) (in_scope g m.scope t))
    (rests.completion_next (map g m.levels) (in_scope g m.scope t) (in_scope g m.scope r))
    (λ d. ap (λ z. whole (map g m.levels) z (suc d)) (pair-shape m k u ready t r t-there r-there (Bin Complete) is g l)))

pub after-type : (m : Typer) (t r v u : ℕ) → IsReady (with_frame (frames.CompletedType t r) m) (states.Typed v)
    → Advances (with_frame (frames.CompletedType t r) m) (with_frame (frames.CompletedRecord t r) m) (states.Typed v) (states.Type r) u u
after-type m t r v u ready =
    returns-pushing m (frames.CompletedType t r) (states.Typed v) refl refl ready (frames.CompletedRecord t r) r u u refl refl ready.frames.0 ready.frames.0.1
    (λ g k s. (s.frames.0, s.frames.0.1))
    (λ g k s root w.
    leads-part (Comes root (debts g m.scope m.levels m.frames)) u (rests.completion_next (map g m.levels) (in_scope g m.scope t) (in_scope g m.scope r) (g v)) w 1 (whole (map g m.levels) (in_scope g m.scope r))
    (rests.completed (map g m.levels) (in_scope g m.scope t) (in_scope g m.scope r)) (λ d. refl))

of-longer : (n : ℕ) (t r : Core) → IsOf n t → IsOf n r → IsOf n (longer t r)
of-longer n t r h k = ap (λ z. longer z (opened (moving n) r)) h ∙ ap (longer t) k

pub after-record : (m : Typer) (t r v c u : ℕ) → IsReady (with_frame (frames.CompletedRecord t r) m) (states.Typed v) → c < count m.codes
    → ((g : ℕ → Core) → Models m.codes g → g c ≡ longer (g t) (g r))
    → Advances (with_frame (frames.CompletedRecord t r) m) (with_frame frames.Completion m) (states.Typed v) (states.Type c) u u
after-record m t r v c u ready there is =
    returns-pushing m (frames.CompletedRecord t r) (states.Typed v) refl refl ready frames.Completion c u u refl refl tt there
    (λ g k s. (
      tt,
      along (IsOf (length (map g m.levels))) (sym (seen g k))
          (of-longer (length (map g m.levels)) (in_scope g m.scope t) (in_scope g m.scope r) s.frames.0.0 s.frames.0.1),
    ))
    (λ g k s root w.
    leads-other (Comes root (debts g m.scope m.levels m.frames)) u (rests.completed (map g m.levels) (in_scope g m.scope t) (in_scope g m.scope r) (g v)) w (whole (map g m.levels) (in_scope g m.scope c))
    rule.CompletionHasNoType (λ d. ap (λ z. Instead (whole (map g m.levels) z d) rule.CompletionHasNoType) (sym (seen g k))))
  where
    seen : (g : ℕ → Core) → Models m.codes g → in_scope g m.scope c ≡ longer (in_scope g m.scope t) (in_scope g m.scope r)
    seen g k = ap (sub (env g m.scope)) (is g k)

pub after-completion : (m : Typer) (t u : ℕ) → IsReady (with_frame frames.Completion m) (states.Typed t)
    → Advances (with_frame frames.Completion m) m (states.Typed t) (states.Typed t) u u
after-completion m t u ready = returns m frames.Completion (states.Typed t) refl refl ready (states.Typed t) u u ready.state (λ g k s. s.state) (λ g k s root w. w)

pub completion-fails : (m : Typer) (f : Failure) (s : State) (u : ℕ) → IsReady (with_frame frames.Completion m) (states.Failed f) → IsRefusal 53 s
    → Advances (with_frame frames.Completion m) m (states.Failed f) s u u
completion-fails m f s u ready (d, p, e, n) =
    along (λ z. Advances (with_frame frames.Completion m) m (states.Failed f) z u u) (sym p)
    (returns m frames.Completion (states.Failed f) refl refl ready (states.Failed d) u u tt (λ g k s. tt)
    (λ g k s root w. (
      rule.CompletionHasNoType,
      n,
      along (λ z. Comes root (debts g m.scope m.levels m.frames) (Ill z rule.CompletionHasNoType)) (sym (ap reverse e)) w.2,
    )))

pub longer-of : (old new : Codes) (g : ℕ → Core) → Models new g → Grows old new → (t r c : ℕ) → t < count old → r < count old → Stands new c (longer (code_core old t) (code_core old r))
    → g c ≡ longer (g t) (g r)
longer-of old new g k grows t r c a b made =
    let before = models-before old new g grows k in
    k c made.there ∙ made.core ∙ sym (ap (λ z. longer z (g r)) (before t a) ∙ ap (longer (code_core old t)) (before r b))
