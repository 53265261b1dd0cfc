-- What has no type is no type of what it is a part of.
use Rattle.std.specs.Prelude.{◌≡◌, ℕ, true, List, [], ◌∷◌, drop, reverse, refl}
use Rattle.std.proofs.Common.{ap, sym, ◌∙◌, subst as along}
use Rattle.std.proofs.lemmas.List.{reverse-append}
use Rattle.dh_syntax.specs.Names.Nameless.{Core}
use Rattle.dh_syntax.specs.Typing.Inference.{Gives, Ill}
use Rattle.dh_syntax.specs.Typing.TypeRules.{Rule, rule_number}
use Rattle.dh_infer.specs.declared.frames.Failure.{Failure}
use Rattle.dh_infer.specs.declared.frames.Frame.{Frame}
use Rattle.dh_infer.specs.declared.frames.Frame.TheVariants as frames
use Rattle.dh_infer.specs.declared.frames.State.TheVariants as states
use Rattle.dh_infer.specs.declared.frames.Typer.{Typer}
use Rattle.dh_infer.specs.Inside.Debts.{Family, Debt, Part, Root, Comes}
use Rattle.dh_infer.specs.Inside.Leaving.{IsBelow}
use Rattle.dh_infer.specs.Inside.Machine.{debt_of, debts, outer_scope, outer_levels, IsSound, IsReady, IsNearest, IsOwed, Advances, with_frame}
use Rattle.dh_infer.proofs.Holding.{let_go, leaves}
use Rattle.dh_infer.proofs.Returning.{closed, returns, returns-closed}

module _ (at : ℕ) (f d : Failure) (below : IsBelow at f d) where
  path-below : reverse d.path.items ≡ at ∷ reverse f.path.items
  path-below = ap reverse below.path ∙ reverse-append f.path.items (at ∷ [])

  comes-below : (root : Root) (ds : List Debt) (next : Core → Family)
      → (r : Rule) × (f.rule ≡ rule_number r) × Comes root (Part at next ∷ ds) (Ill (reverse f.path.items) r)
      → (r : Rule) × (d.rule ≡ rule_number r) × Comes root ds (Ill (reverse d.path.items) r)
  comes-below root ds next w = (w.0, below.rule ∙ w.1, along (λ z. Comes root ds (Ill z w.0)) (sym path-below) w.2)

  module _ (m : Typer) (e : Frame) (u : ℕ) (ready : IsReady (with_frame e m) (states.Failed f)) where
    pub unwinds : outer_scope e m.scope ≡ m.scope → outer_levels e m.levels ≡ m.levels → ((g : ℕ → Core) → (next : Core → Family) × (debt_of g m.scope m.levels e ≡ Part at next))
        → Advances (with_frame e m) m (states.Failed f) (states.Failed d) u u
    unwinds same-scope same-levels is =
        returns m e (states.Failed f) same-scope same-levels ready (states.Failed d) u u tt (λ g a s. tt)
        (λ g a s root w.
        let (next, p) = is g in
        comes-below root (debts g m.scope m.levels m.frames) next
        (along (λ z. IsOwed root (z ∷ debts g m.scope m.levels m.frames) g m.scope m.levels (states.Failed f) u) p w))

  module _ (m : Typer) (u : ℕ) where
    pub unwinds-body : (e : Frame) → IsReady (with_frame e m) (states.Failed f) → outer_scope e m.scope ≡ drop 1 m.scope → outer_levels e m.levels ≡ drop 1 m.levels
        → ((g : ℕ → Core) → IsSound g (with_frame e m) (states.Failed f) → IsNearest true m.scope)
        → ((g : ℕ → Core) → (next : Core → Family) × (debt_of g m.scope m.levels e ≡ Part at next))
        → Advances (with_frame e m) (closed m) (states.Failed f) (states.Failed d) u u
    unwinds-body e ready closes-scope closes-levels nearest is =
        returns-closed m e (states.Failed f) closes-scope closes-levels ready (states.Failed d) u u tt (λ g a s. nearest g s) (λ g a s. tt)
        (λ g a s root w.
        let (next, p) = is g in
        comes-below root (debts g (drop 1 m.scope) (drop 1 m.levels) m.frames) next
        (along (λ z. IsOwed root (z ∷ debts g (drop 1 m.scope) (drop 1 m.levels) m.frames) g m.scope m.levels (states.Failed f) u) p w))

    pub unwinds-let : IsReady (with_frame (frames.LetBody at) m) (states.Failed f) → Advances (with_frame (frames.LetBody at) m) (let_go m) (states.Failed f) (states.Failed d) u u
    unwinds-let ready =
        leaves m at (states.Failed f) ready (states.Failed d) u u tt (λ g a s. tt)
        (λ g a s root w. comes-below root (debts g (drop 1 m.scope) m.levels m.frames) (λ t d. Gives t) w)

-- a value that has no type where it is used
pub unwinds-used : (m : Typer) (i u : ℕ) (f : Failure) → IsReady (with_frame (frames.Used i) m) (states.Failed f)
    → Advances (with_frame (frames.Used i) m) m (states.Failed f) (states.Failed f) u u
unwinds-used m i u f ready =
    returns m (frames.Used i) (states.Failed f) refl refl ready (states.Failed f) u u tt (λ g a s. tt) (λ g a s root w. (w.0, w.1, w.2.1))
