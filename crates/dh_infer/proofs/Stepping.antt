-- One step of the machine after the others, and its end.
use Rattle.std.specs.Prelude.{◌≡◌, ℕ, List, [], ◌∷◌, refl}
use Rattle.std.proofs.Common.{ap, sym, subst as along}
use Rattle.dh_syntax.specs.declared.purses.Purse.{Purse}
use Rattle.dh_store.specs.declared.codes.Codes.{Codes}
use Rattle.dh_store.specs.Cells.{code_core}
use Rattle.dh_infer.specs.declared.frames.Failure.{Failure}
use Rattle.dh_infer.specs.declared.frames.Frame.{Frame}
use Rattle.dh_infer.specs.declared.frames.State.{State}
use Rattle.dh_infer.specs.declared.frames.State.TheVariants as states
use Rattle.dh_infer.specs.declared.frames.Typer.{Typer}
use Rattle.dh_syntax.specs.declared.faults.NormFault.{NormFault}
use Rattle.dh_infer.specs.declared.steps.Ending.TheVariants as endings
use Rattle.dh_infer.specs.Inside.Debts.{Root}
use Rattle.dh_infer.specs.Inside.Machine.{debts, IsOwed, IsReady, Advances, IsHalted, Halts, with_frame}
use Rattle.dh_infer.specs.Inside.Scopes.{Models}
use Rattle.dh_infer.specs.Inside.Steps.{IsAtWork, Ends}
use Rattle.dh_infer.proofs.Readiness.{with_frames}

models-own : (cs : Codes) → Models cs (code_core cs)
models-own cs c l = refl

-- ---- steps

pub advances-itself : (m : Typer) (s : State) (u : ℕ) → IsReady m s → Advances m m s s u u
advances-itself m s u r = record { ready = λ root w. r; models = λ g k. k; works = λ g k root w. w }

pub advances-after : (a b c : Typer) (s t w : State) (u v l : ℕ) → Advances a b s t u v → Advances b c t w v l → Advances a c s w u l
advances-after a b c s t w u v l x y = record {
  ready = λ root work. y.ready root (λ g k. x.works g (y.models g k) root (work g k));
  models = λ g k. x.models g (y.models g k);
  works = λ g k root work. y.works g k root (x.works g (y.models g k) root work);
}

pub ready-after : (a b : Typer) (s t : State) (u v : ℕ) → (root : Root) × IsAtWork root a s u → Advances a b s t u v → IsReady b t
ready-after a b s t u v (root, work) x = x.ready root (λ g k. work g (x.models g k))

pub halts-after : (a b : Typer) (s t : State) (u v : ℕ) (h : NormFault) → Advances a b s t u v → Halts b t v h → (root : Root) → IsAtWork root a s u → IsHalted root h
halts-after a b s t u v h x y root work =
    let g = code_core b.codes in
    let k = models-own b.codes in
    y g k root (x.works g k root (work g (x.models g k)))

-- ---- a frame is taken

pub taken : (m : Typer) (f : Frame) (fs : List Frame) → m.frames ≡ f ∷ fs → m ≡ with_frame f (with_frames fs m)
taken m f fs e = ap (λ z. with_frames z m) e

pub advances-taken : (a m : Typer) (f : Frame) (fs : List Frame) (s t w : State) (u v : ℕ) → m.frames ≡ f ∷ fs → w ≡ t → Advances a m s w u v → Advances a (with_frame f (with_frames fs m)) s t u v
advances-taken a m f fs s t w u v e p x = along (λ z. Advances a z s t u v) (taken m f fs e) (along (λ z. Advances a m s z u v) p x)

pub advances-in : (a m : Typer) (s t w : State) (u v : ℕ) → w ≡ t → Advances a m s w u v → Advances a m s t u v
advances-in a m s t w u v p x = along (λ z. Advances a m s z u v) p x

-- ---- no frame waits

module _ (a m : Typer) (s : State) (u v : ℕ) (none : m.frames ≡ []) where
  owed : (t : State) → Advances a m s t u v → (root : Root) → IsAtWork root a s u → IsOwed root [] (code_core m.codes) m.scope m.levels t v
  owed t x root work =
      let g = code_core m.codes in
      let k = models-own m.codes in
      along (λ fs. IsOwed root (debts g m.scope m.levels fs) g m.scope m.levels t v) none (x.works g k root (work g (x.models g k)))

  ends-typed_here : (t : ℕ) → Advances a m s (states.Typed t) u v → (root : Root) → IsAtWork root a s u → Ends root m v (endings.Typed t)
  ends-typed_here t x root work =
      let r = ready-after a m s (states.Typed t) u v (root, work) x in
      record { coded = r.coded; there = r.state; answer = owed (states.Typed t) x root work }

  ends-failed_here : (f : Failure) → Advances a m s (states.Failed f) u v → (root : Root) → IsAtWork root a s u → Ends root m v (endings.Failed f)
  ends-failed_here f x root work =
      let r = ready-after a m s (states.Failed f) u v (root, work) x in
      record { coded = r.coded; there = tt; answer = owed (states.Failed f) x root work }

  -- whatever stands in the place of the empty stack
  module _ (fs : List Frame) where
    pub ends-typed : (t : ℕ) → Advances a m s (states.Typed t) u v → (root : Root) → IsAtWork root a s u → Ends root (with_frames fs m) v (endings.Typed t)
    ends-typed t x root work = let e = ends-typed_here t x root work in record { coded = e.coded; there = e.there; answer = e.answer }

    pub ends-failed : (f : Failure) → Advances a m s (states.Failed f) u v → (root : Root) → IsAtWork root a s u → Ends root (with_frames fs m) v (endings.Failed f)
    ends-failed f x root work = let e = ends-failed_here f x root work in record { coded = e.coded; there = e.there; answer = e.answer }

-- the machine, the units and the state under other names
pub joined : (init a b : Typer) (s t r : State) (u : ℕ) (p q : Purse) → a ≡ b → p ≡ q → t ≡ r → Advances init b s r u q.left → Advances init a s t u p.left
joined init a b s t r u p q e f g x =
    along (λ z. Advances init z s t u p.left) (sym e) (along (λ (z : Purse). Advances init b s t u z.left) (sym f) (along (λ z. Advances init b s z u q.left) (sym g) x))
