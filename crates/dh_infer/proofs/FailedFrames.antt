-- What waits for a type learns that there is none.
use Rattle.std.specs.Prelude.{◌≡◌, ℕ, true, List, [], ◌∷◌, drop, Option, Some, None, IfSome, IfNone}
use Rattle.std.proofs.Common.{ap, sym, ◌∙◌, subst as along}
use Rattle.dh_syntax.specs.Names.Nameless.{Core}
use Rattle.dh_infer.specs.declared.frames.Failure.{Failure}
use Rattle.dh_infer.specs.declared.frames.Frame.{Frame}
use Rattle.dh_infer.specs.declared.frames.Frame.TheVariants as frames
use Rattle.dh_infer.specs.declared.frames.State.{State}
use Rattle.dh_infer.specs.declared.frames.State.TheVariants as states
use Rattle.dh_infer.specs.declared.frames.Typer.{Typer}
use Rattle.dh_infer.specs.Inside.Debts.{Family, Part}
use Rattle.dh_infer.specs.Inside.Leaving.{outside_binder, outside_let, IsFailedBelow}
use Rattle.dh_infer.specs.Inside.Machine.{debt_of, outer_scope, outer_levels, IsSound, IsReady, IsNearest, Advances, with_frame}
use Rattle.dh_infer.proofs.Unwinding.{unwinds, unwinds-body, unwinds-let}

-- the newest item is taken away
pub popped : {X : Type 0} (o : Option X) (old new : List X) → IfSome o (λ x. old ≡ x ∷ new) → IfNone o (old ≡ []) → IfNone o (new ≡ []) → new ≡ drop 1 old
popped (Some x) old new a b c = sym (ap (drop 1) a)
popped None old new a b c = c ∙ sym (ap (drop 1) b)

-- what is said of a frame is said of an equal one
pub by-frame : (m new : Typer) (v s : State) (u l : ℕ) (fr e : Frame) → fr ≡ e → (IsReady (with_frame e m) v → Advances (with_frame e m) new v s u l) → IsReady (with_frame fr m) v
    → Advances (with_frame fr m) new v s u l
by-frame m new v s u l fr e p h = along (λ z. IsReady (with_frame z m) v → Advances (with_frame z m) new v s u l) (sym p) h

module _ (m : Typer) (at u : ℕ) (f : Failure) (s : State) (b : IsFailedBelow at f s) where
  pub fails-part : (e : Frame) → outer_scope e m.scope ≡ m.scope → outer_levels e m.levels ≡ m.levels → ((g : ℕ → Core) → (next : Core → Family) × (debt_of g m.scope m.levels e ≡ Part at next))
      → IsReady (with_frame e m) (states.Failed f) → Advances (with_frame e m) m (states.Failed f) s u u
  fails-part e es ls is r = let (d, p, i) = b in along (λ z. Advances (with_frame e m) m (states.Failed f) z u u) (sym p) (unwinds at f d i m e u r es ls is)

  pub fails-body : (e : Frame) → outer_scope e m.scope ≡ drop 1 m.scope → outer_levels e m.levels ≡ drop 1 m.levels
      → ((g : ℕ → Core) → IsSound g (with_frame e m) (states.Failed f) → IsNearest true m.scope)
      → ((g : ℕ → Core) → (next : Core → Family) × (debt_of g m.scope m.levels e ≡ Part at next))
      → IsReady (with_frame e m) (states.Failed f) → Advances (with_frame e m) (outside_binder m) (states.Failed f) s u u
  fails-body e es ls nearest is r =
      let (d, p, i) = b in along (λ z. Advances (with_frame e m) (outside_binder m) (states.Failed f) z u u) (sym p) (unwinds-body at f d i m u e r es ls nearest is)

  pub fails-let : IsReady (with_frame (frames.LetBody at) m) (states.Failed f) → Advances (with_frame (frames.LetBody at) m) (outside_let m) (states.Failed f) s u u
  fails-let r = let (d, p, i) = b in along (λ z. Advances (with_frame (frames.LetBody at) m) (outside_let m) (states.Failed f) z u u) (sym p) (unwinds-let at f d i m u r)
