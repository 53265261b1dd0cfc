-- ∀.
use Rattle.std.specs.Prelude.{◌≡◌, ◌<◌, ◌+◌, ℕ, suc, true, [], ◌∷◌, map, length, drop, reverse, Option, Some, None, refl}
use Rattle.std.proofs.Common.{ap, sym, ◌∙◌, subst as along}
use Rattle.dh_syntax.specs.declared.operators.Builtin.{Builtin}
use Rattle.dh_syntax.specs.Expressions.Forms as form
use Rattle.dh_syntax.specs.Expressions.Tree.{Leaf, Name}
use Rattle.dh_syntax.specs.Names.Nameless.{Core}
use Rattle.dh_syntax.specs.Typing.Inference.{Gives, FromNormal, FromPart, Has, Ill}
use Rattle.dh_syntax.specs.Typing.NamelessTyping.{core_scopes}
use Rattle.dh_syntax.specs.Typing.Scopes.{enter}
use Rattle.dh_syntax.specs.Typing.TypeRules as rule
use Rattle.dh_syntax.specs.Typing.TypeRules.{Rule, rule_number}
use Rattle.dh_syntax.specs.Typing.Typing as typings
use Rattle.dh_syntax.specs.Typing.Universes.{as_universe, function_check}
use Rattle.dh_store.specs.Growth.{count}
use Rattle.dh_norm.specs.Answers.{IsNormal}
use Rattle.dh_types.specs.Binding.{binding, bound_in}
use Rattle.dh_typing_laws.proofs.Ruling.TypedViews.{as_universe-moved}
use Rattle.dh_infer.specs.declared.frames.Frame.TheVariants as frames
use Rattle.dh_infer.specs.declared.frames.State.{State}
use Rattle.dh_infer.specs.declared.frames.State.TheVariants as states
use Rattle.dh_infer.specs.declared.frames.Typer.{Typer}
use Rattle.dh_syntax.specs.declared.faults.NormFault.{NormFault}
use Rattle.dh_infer.specs.Inside.Debts.{Family, whole, Comes, Goes}
use Rattle.dh_infer.specs.Inside.Levels.{IsOf}
use Rattle.dh_infer.specs.Inside.Machine.{debts, IsReady, Advances, Halts, IsRefusal, with_frame}
use Rattle.dh_infer.specs.Inside.Normals.{IsLicensedHalt}
use Rattle.dh_infer.specs.Inside.OpenTyping.{level, typing_in}
use Rattle.dh_infer.specs.Inside.Rests as rests
use Rattle.dh_infer.specs.Inside.Scopes.{Models, in_scope, below_scope}
use Rattle.dh_types.specs.Growing.{Stands}
use Rattle.dh_infer.proofs.Binding.{opened, scope-opened, body-in_scope}
use Rattle.dh_infer.proofs.Leading.{leads-body, leads-fails, leads-gives}
use Rattle.dh_infer.proofs.PartsOf.{of-opened_body}
use Rattle.dh_infer.proofs.RenamedJudgments.{normal-of}
use Rattle.dh_infer.proofs.Returning.{closed, returns, returns-closed, halts-normal, goes-normal}
use Rattle.dh_infer.proofs.Scoping.{scope-of}

-- ---- the domain of a ∀ is typed

module _ (m : Typer) (x : Name) (a b c u l : ℕ) (r : IsReady (with_frame (frames.ForallDomain x a b) m) (states.Typed c)) where
  abbrev domain_family : (ℕ → Core) → Family
  domain_family g = rests.forall_domain_next (map g m.levels) x (in_scope g m.scope a) (below_scope g m.scope b) (g c)

  abbrev after_domain : (ℕ → Core) → Builtin → Core → Family
  after_domain g w e d = FromPart 1 (typing_in (map g m.levels) d (enter core_scopes x e []) (below_scope g m.scope b)) (λ t. rests.range_next (map g m.levels) w t d)

  pub forall-no_universe : (s : State) → IsRefusal 5 s → ((g : ℕ → Core) → Models m.codes g → as_universe (g c) ≡ None) → Advances (with_frame (frames.ForallDomain x a b) m) m (states.Typed c) s u u
  forall-no_universe s (f, p, e, n) none =
      along (λ z. Advances (with_frame (frames.ForallDomain x a b) m) m (states.Typed c) z u u) (sym p)
      (returns m (frames.ForallDomain x a b) (states.Typed c) refl refl r (states.Failed f) u u tt (λ g k s. tt)
      (λ g k s root w. (
        rule.ForallDomain,
        n,
        along (λ z. Comes root (debts g m.scope m.levels m.frames) (Ill z rule.ForallDomain)) (sym (ap reverse e))
            (leads-fails (Comes root (debts g m.scope m.levels m.frames)) u (domain_family g) w rule.ForallDomain
            (λ d. ap (λ z. typings.given_form z rule.ForallDomain (λ w. FromNormal (in_scope g m.scope a) (λ e. after_domain g w e d))) (none g k))),
      )))

  module _ (v : Builtin) (yes' : (g : ℕ → Core) → Models m.codes g → as_universe (g c) ≡ Some v) where
    by-domain : (g : ℕ → Core) → Models m.codes g → (d : ℕ) → domain_family g d ≡ FromNormal (in_scope g m.scope a) (λ e. after_domain g v e d)
    by-domain g k d = ap (λ z. typings.given_form z rule.ForallDomain (λ w. FromNormal (in_scope g m.scope a) (λ e. after_domain g w e d))) (yes' g k)

    pub forall-halts : (h : NormFault) → ((g : ℕ → Core) → Models m.codes g → IsLicensedHalt u (in_scope g m.scope a) h) → Halts (with_frame (frames.ForallDomain x a b) m) (states.Typed c) u h
    forall-halts h n g k root w =
        halts-normal root (debts g m.scope m.levels m.frames) (domain_family g) u (in_scope g m.scope a) (after_domain g v) (by-domain g k) w h (n g k)

    pub forall-opened : (e n : ℕ) → e < count m.codes → n < count m.codes
        → ((g : ℕ → Core) → Models m.codes g → IsNormal u l (in_scope g m.scope a) (g e))
        → ((g : ℕ → Core) → Models m.codes g → g n ≡ Leaf (level (length m.levels)))
        → Advances (with_frame (frames.ForallDomain x a b) m) (opened m n e (frames.ForallRange v)) (states.Typed c) (states.Type b) u l
    forall-opened e n e-there n-there normal is = record {
      ready = λ root w. record {
        coded = r.coded;
        entries = ((n-there, e-there), r.entries);
        levels = (e-there, r.levels);
        frames = (tt, r.frames.1);
        state = r.frames.0.1;
        sound = λ g k. (let s = r.sound g k in record {
          scope = scope-opened g m.scope m.levels s.scope n e (is g k) (of g k);
          frames = (refl, s.frames.1);
          state = along (IsOf (suc (length (map g m.levels)))) (body-in_scope g m.scope m.levels s.scope n e (is g k) (of g k) b)
              (of-opened_body (length (map g m.levels)) (below_scope g m.scope b) s.frames.0.1);
        });
      };
      models = λ g k. k;
      works = λ g k root w. (let s = r.sound g k in
          along (λ z. Goes root (debts g (record { value = n; typed = Some e; opened = true } ∷ m.scope) (e ∷ m.levels) (frames.ForallRange v ∷ m.frames)) (whole (g e ∷ map g m.levels) z) l)
          (body-in_scope g m.scope m.levels s.scope n e (is g k) (of g k) b)
          (leads-body (Comes root (debts g m.scope m.levels m.frames)) l (after_domain g v (g e))
          (goes-normal root (debts g m.scope m.levels m.frames) (domain_family g) u l (in_scope g m.scope a) (g e) (after_domain g v) (by-domain g k) w (normal g k))
          (map g m.levels) (scope-of g m.scope m.levels s.scope) x (g e) (of g k) (below_scope g m.scope b) s.frames.0.1 1 (λ t. rests.range_next (map g m.levels) v t) (λ d. refl)));
    }
      where
        of : (g : ℕ → Core) → Models m.codes g → IsOf (length (map g m.levels)) (g e)
        of g k = let q = normal g k in normal-of (length (map g m.levels)) (in_scope g m.scope a) (g e) (u + q.extra) l ((r.sound g k).frames.0.0) q.cost

-- ---- the range is typed

module _ (m : Typer) (v : Builtin) (c u : ℕ) (r : IsReady (with_frame (frames.ForallRange v) m) (states.Typed c)) where
  abbrev number : (ℕ → Core) → ℕ
  number g = length (map g (drop 1 m.levels))

  abbrev range_family : (ℕ → Core) → Family
  range_family g = rests.range_next (map g m.levels) v (bound_in (number g) (g c))

  by-universe : (g : ℕ → Core) (o : Option Builtin) → as_universe (g c) ≡ o → (d : ℕ)
      → range_family g d ≡ typings.given_form o rule.ForallRange (λ w. Gives (form.builtin (function_check v w)))
  by-universe g o p d = ap (λ z. typings.given_form z rule.ForallRange (λ w. Gives (form.builtin (function_check v w)))) (as_universe-moved (binding (number g)) 0 (g c) ∙ p)

  pub range-no_universe : (s : State) → IsRefusal 6 s → ((g : ℕ → Core) → Models m.codes g → as_universe (g c) ≡ None)
      → Advances (with_frame (frames.ForallRange v) m) (closed m) (states.Typed c) s u u
  range-no_universe s (f, p, e, q) none =
      along (λ z. Advances (with_frame (frames.ForallRange v) m) (closed m) (states.Typed c) z u u) (sym p)
      (returns-closed m (frames.ForallRange v) (states.Typed c) refl refl r (states.Failed f) u u tt (λ g k s. s.frames.0) (λ g k s. tt)
      (λ g k s root w. (
        rule.ForallRange,
        q,
        along (λ z. Comes root (debts g (drop 1 m.scope) (drop 1 m.levels) m.frames) (Ill z rule.ForallRange)) (sym (ap reverse e))
            (leads-fails (Comes root (debts g (drop 1 m.scope) (drop 1 m.levels) m.frames)) u (range_family g) w rule.ForallRange (by-universe g None (none g k))),
      )))

  pub range-typed : (w : Builtin) → ((g : ℕ → Core) → Models m.codes g → as_universe (g c) ≡ Some w) → (t : ℕ) → Stands m.codes t (form.builtin (function_check v w))
      → Advances (with_frame (frames.ForallRange v) m) (closed m) (states.Typed c) (states.Typed t) u u
  range-typed w is t st =
      returns-closed m (frames.ForallRange v) (states.Typed c) refl refl r (states.Typed t) u u st.there (λ g k s. s.frames.0)
      (λ g k s. along (IsOf (number g)) (sym (k t st.there ∙ st.core)) refl)
      (λ g k s root q.
      along (λ z. Comes root (debts g (drop 1 m.scope) (drop 1 m.levels) m.frames) (Has z u)) (sym (k t st.there ∙ st.core))
      (leads-gives (Comes root (debts g (drop 1 m.scope) (drop 1 m.levels) m.frames)) u (range_family g) q (form.builtin (function_check v w)) (by-universe g (Some w) (is g k))))
