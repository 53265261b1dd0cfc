-- λ and ∀.
use Rattle.std.specs.Prelude.{◌≡◌, ◌<◌, ◌+◌, ℕ, suc, Bool, true, false, List, [], ◌∷◌, map, length, drop, reverse, Some, None, if◌then◌else◌, refl}
use Rattle.std.proofs.Common.{ap, sym, ◌∙◌, arith, subst as along}
use Rattle.dh_syntax.specs.declared.operators.Builtin.{Builtin}
use Rattle.dh_syntax.specs.declared.operators.Builtin.TheVariants as builtins
use Rattle.dh_syntax.specs.Expressions.Forms as form
use Rattle.dh_syntax.specs.Expressions.Tree.{Leaf, Name}
use Rattle.dh_syntax.specs.Names.Nameless.{Core, sub, first}
use Rattle.dh_syntax.specs.Normalising.NamelessRuns.{cores}
use Rattle.dh_syntax.specs.Typing.Inference.{Gives, Fails, FromNormal, FromPart, Has, Ill, judged_within}
use Rattle.dh_syntax.specs.Typing.NamelessTyping.{core_scopes}
use Rattle.dh_syntax.specs.Typing.Scopes.{enter}
use Rattle.dh_syntax.specs.Typing.TypeRules as rule
use Rattle.dh_syntax.specs.Typing.TypeRules.{Rule, rule_number}
use Rattle.dh_syntax.specs.Typing.TypeViews.{is_constant}
use Rattle.dh_syntax.specs.Typing.Typing as typings
use Rattle.dh_syntax.specs.Typing.Universes.{as_universe}
use Rattle.dh_store.specs.Cells.{bound}
use Rattle.dh_store.specs.Growth.{count}
use Rattle.dh_norm.specs.Answers.{IsNormal}
use Rattle.dh_norm.proofs.Entrances.{opened as body-opened}
use Rattle.dh_types.specs.Binding.{binding, bound_in}
use Rattle.dh_typing_laws.proofs.Ruling.TypedViews.{is_constant-moved}
use Rattle.dh_infer.specs.declared.frames.Entry.{Entry}
use Rattle.dh_infer.specs.declared.frames.Frame.{Frame}
use Rattle.dh_infer.specs.declared.frames.Frame.TheVariants as frames
use Rattle.dh_infer.specs.declared.frames.State.{State}
use Rattle.dh_infer.specs.declared.frames.State.TheVariants as states
use Rattle.dh_infer.specs.declared.frames.Typer.{Typer}
use Rattle.dh_syntax.specs.declared.faults.NormFault.{NormFault}
use Rattle.dh_infer.specs.Inside.Debts.{Family, whole, HasFound, Comes, Goes}
use Rattle.dh_infer.specs.Inside.Levels.{IsOf}
use Rattle.dh_infer.specs.Inside.Machine.{debts, IsReady, Advances, Halts, IsRefusal, with_frame}
use Rattle.dh_infer.specs.Inside.Normals.{IsLicensedHalt}
use Rattle.dh_infer.specs.Inside.OpenTyping.{level, typing_in}
use Rattle.dh_infer.specs.Inside.Rests as rests
use Rattle.dh_infer.specs.Inside.Scopes.{Models, env, in_scope, below_scope, IsScope}
use Rattle.dh_infer.proofs.Leading.{leads-body, leads-fails, leads-gives}
use Rattle.dh_infer.proofs.LevelTypes.{level-type}
use Rattle.dh_infer.proofs.Closing.{of-bound_in}
use Rattle.dh_infer.proofs.PartsOf.{of-level, of-opened_body, of-forall}
use Rattle.dh_infer.proofs.RenamedJudgments.{normal-of}
use Rattle.dh_infer.proofs.Returning.{closed, one-number_more, returns, returns-closed, halts-normal, goes-normal}
use Rattle.dh_infer.proofs.Scoping.{scope-of, map-length}

-- ---- a variable that gets a number

-- the machine below one more binder, whose variable has the next number
abbrev pub opened : Typer → ℕ → ℕ → Frame → Typer
opened m v t f = record m { scope = record { value = v; typed = Some t; opened = true } ∷ m.scope; levels = t ∷ m.levels; frames = f ∷ m.frames }

-- a variable with a number has its type
level-found : (t : Core) (ts : List Core) → HasFound (whole (t ∷ ts) (Leaf (level (length ts)))) t
level-found t ts = (1, λ more. (0, (0, 0, by more)))
  where
    by : (more : ℕ) → judged_within cores 0 0 0 (whole (t ∷ ts) (Leaf (level (length ts))) (more + 1)) ≡ Has t 0
    by more =
        ap (λ d. judged_within cores 0 0 0 (whole (t ∷ ts) (Leaf (level (length ts))) d)) (let e : more + 1 ≡ suc more = omega arith in e)
        ∙ ap (λ o. judged_within cores 0 0 0 (typings.given_type o rule.UnboundVariable)) (level-type t ts)

module _ (g : ℕ → Core) (es : List Entry) (ls : List ℕ) (scope : IsScope g es ls) (v t : ℕ) (is : g v ≡ Leaf (level (length ls))) (of : IsOf (length (map g ls)) (g t)) where
  is-level : g v ≡ Leaf (level (length (map g ls)))
  is-level = is ∙ ap (λ n. Leaf (level n)) (sym (map-length g ls))

  pub scope-opened : IsScope g (record { value = v; typed = Some t; opened = true } ∷ es) (t ∷ ls)
  scope-opened = (
    record {
      value = along (IsOf (suc (length (map g ls)))) (sym is-level) (of-level (length (map g ls)));
      typed = along (λ e. HasFound (whole (g t ∷ map g ls) e) (g t)) (sym is-level) (level-found (g t) (map g ls));
    },
    (of, scope),
  )

  -- a body is one in which the variable stands for that of the binder
  pub body-in_scope : (b : ℕ) → sub (first (Leaf (level (length (map g ls))))) (below_scope g es b) ≡ in_scope g (record { value = v; typed = Some t; opened = true } ∷ es) b
  body-in_scope b = body-opened (Leaf (level (length (map g ls)))) (env g es) (g b) ∙ ap (λ z. sub (bound z (env g es)) (g b)) (sym is-level)

-- ---- the domain is typed

module _ (m : Typer) (x : Name) (a b c u l : ℕ) (r : IsReady (with_frame (frames.LambdaDomain x a b) m) (states.Typed c)) where
  abbrev domain_family : (ℕ → Core) → Family
  domain_family g = rests.lambda_domain_next (map g m.levels) x (in_scope g m.scope a) (below_scope g m.scope b) (g c)

  abbrev after_domain : (ℕ → Core) → Core → Family
  after_domain g e d = FromPart 1 (typing_in (map g m.levels) d (enter core_scopes x e []) (below_scope g m.scope b)) (λ t. rests.lambda_body_next (map g m.levels) x e t d)

  pub lambda-no_universe : (s : State) → IsRefusal 3 s → ((g : ℕ → Core) → Models m.codes g → as_universe (g c) ≡ None) → Advances (with_frame (frames.LambdaDomain x a b) m) m (states.Typed c) s u u
  lambda-no_universe s (f, p, e, n) none =
      along (λ z. Advances (with_frame (frames.LambdaDomain x a b) m) m (states.Typed c) z u u) (sym p)
      (returns m (frames.LambdaDomain x a b) (states.Typed c) refl refl r (states.Failed f) u u tt (λ g k s. tt)
      (λ g k s root w. (
        rule.LambdaDomain,
        n,
        along (λ z. Comes root (debts g m.scope m.levels m.frames) (Ill z rule.LambdaDomain)) (sym (ap reverse e))
            (leads-fails (Comes root (debts g m.scope m.levels m.frames)) u (domain_family g) w rule.LambdaDomain
            (λ d. ap (λ z. typings.given_form z rule.LambdaDomain (λ u. FromNormal (in_scope g m.scope a) (λ e. after_domain g e d))) (none g k))),
      )))

  module _ (v : Builtin) (yes' : (g : ℕ → Core) → Models m.codes g → as_universe (g c) ≡ Some v) where
    by-domain : (g : ℕ → Core) → Models m.codes g → (d : ℕ) → domain_family g d ≡ FromNormal (in_scope g m.scope a) (λ e. after_domain g e d)
    by-domain g k d = ap (λ z. typings.given_form z rule.LambdaDomain (λ u. FromNormal (in_scope g m.scope a) (λ e. after_domain g e d))) (yes' g k)

    pub lambda-halts : (h : NormFault) → ((g : ℕ → Core) → Models m.codes g → IsLicensedHalt u (in_scope g m.scope a) h) → Halts (with_frame (frames.LambdaDomain x a b) m) (states.Typed c) u h
    lambda-halts h n g k root w =
        halts-normal root (debts g m.scope m.levels m.frames) (domain_family g) u (in_scope g m.scope a) (after_domain g) (by-domain g k) w h (n g k)

    pub lambda-opened : (e n : ℕ) → e < count m.codes → n < count m.codes
        → ((g : ℕ → Core) → Models m.codes g → IsNormal u l (in_scope g m.scope a) (g e))
        → ((g : ℕ → Core) → Models m.codes g → g n ≡ Leaf (level (length m.levels)))
        → Advances (with_frame (frames.LambdaDomain x a b) m) (opened m n e (frames.LambdaBody x e (length m.levels))) (states.Typed c) (states.Type b) u l
    lambda-opened e n e-there n-there normal is = record {
      ready = λ root w. record {
        coded = r.coded;
        entries = ((n-there, e-there), r.entries);
        levels = (e-there, r.levels);
        frames = (e-there, r.frames.1);
        state = r.frames.0.1;
        sound = λ g k. (let s = r.sound g k in record {
          scope = scope-opened g m.scope m.levels s.scope n e (is g k) (of g k);
          frames = ((refl, refl, of g k), s.frames.1);
          state = along (IsOf (suc (length (map g m.levels)))) (body-in_scope g m.scope m.levels s.scope n e (is g k) (of g k) b)
              (of-opened_body (length (map g m.levels)) (below_scope g m.scope b) s.frames.0.1);
        });
      };
      models = λ g k. k;
      works = λ g k root w. (let s = r.sound g k in
          along (λ z. Goes root (debts g (record { value = n; typed = Some e; opened = true } ∷ m.scope) (e ∷ m.levels) (frames.LambdaBody x e (length m.levels) ∷ m.frames)) (whole (g e ∷ map g m.levels) z) l)
          (body-in_scope g m.scope m.levels s.scope n e (is g k) (of g k) b)
          (leads-body (Comes root (debts g m.scope m.levels m.frames)) l (after_domain g (g e))
          (goes-normal root (debts g m.scope m.levels m.frames) (domain_family g) u l (in_scope g m.scope a) (g e) (after_domain g) (by-domain g k) w (normal g k))
          (map g m.levels) (scope-of g m.scope m.levels s.scope) x (g e) (of g k) (below_scope g m.scope b) s.frames.0.1 1 (λ t. rests.lambda_body_next (map g m.levels) x (g e) t) (λ d. refl)));
    }
      where
        of : (g : ℕ → Core) → Models m.codes g → IsOf (length (map g m.levels)) (g e)
        of g k = let q = normal g k in normal-of (length (map g m.levels)) (in_scope g m.scope a) (g e) (u + q.extra) l ((r.sound g k).frames.0.0) q.cost

-- ---- the body is typed

module _ (m : Typer) (x : Name) (a n c u : ℕ) (r : IsReady (with_frame (frames.LambdaBody x a n) m) (states.Typed c)) where
  abbrev number : (ℕ → Core) → ℕ
  number g = length (map g (drop 1 m.levels))

  abbrev body_family : (ℕ → Core) → Family
  body_family g = rests.lambda_body_next (map g m.levels) x (g a) (bound_in (number g) (g c))

  by-sort : (g : ℕ → Core) (s : Bool) → is_constant builtins.Sort (g c) ≡ s → (d : ℕ)
      → body_family g d ≡ (if s then Fails rule.LambdaBody else FromNormal (form.forall x (g a) (bound_in (number g) (g c))) (λ f. Gives f))
  by-sort g s p d =
      ap (λ z. if z then Fails rule.LambdaBody else FromNormal (form.forall x (g a) (bound_in (number g) (g c))) (λ f. Gives f))
      (is_constant-moved (binding (number g)) 0 builtins.Sort (g c) ∙ p)

  pub lambda-of_sort : (s : State) → IsRefusal 4 s → ((g : ℕ → Core) → Models m.codes g → is_constant builtins.Sort (g c) ≡ true)
      → Advances (with_frame (frames.LambdaBody x a n) m) (closed m) (states.Typed c) s u u
  lambda-of_sort s (f, p, e, q) y =
      along (λ z. Advances (with_frame (frames.LambdaBody x a n) m) (closed m) (states.Typed c) z u u) (sym p)
      (returns-closed m (frames.LambdaBody x a n) (states.Typed c) refl refl r (states.Failed f) u u tt (λ g k s. s.frames.0.0) (λ g k s. tt)
      (λ g k s root w. (
        rule.LambdaBody,
        q,
        along (λ z. Comes root (debts g (drop 1 m.scope) (drop 1 m.levels) m.frames) (Ill z rule.LambdaBody)) (sym (ap reverse e))
            (leads-fails (Comes root (debts g (drop 1 m.scope) (drop 1 m.levels) m.frames)) u (body_family g) w rule.LambdaBody (by-sort g true (y g k))),
      )))

  module _ (unlike : (g : ℕ → Core) → Models m.codes g → is_constant builtins.Sort (g c) ≡ false) where
    pub lambda-typed : (t l : ℕ) → t < count m.codes → ((g : ℕ → Core) → Models m.codes g → IsNormal u l (form.forall x (g a) (bound_in (number g) (g c))) (g t))
        → Advances (with_frame (frames.LambdaBody x a n) m) (closed m) (states.Typed c) (states.Typed t) u l
    lambda-typed t l there normal =
        returns-closed m (frames.LambdaBody x a n) (states.Typed c) refl refl r (states.Typed t) u l there (λ g k s. s.frames.0.0)
        (λ g k s.
        let q = normal g k in
        let more = one-number_more g m.scope m.levels s.frames.0.0 s.scope in
        let below = of-bound_in (number g) (g c) (along (λ z. IsOf z (g c)) more s.state) in
        normal-of (number g) (form.forall x (g a) (bound_in (number g) (g c))) (g t) (u + q.extra) l (of-forall (number g) x (g a) (bound_in (number g) (g c)) s.frames.0.2 below) q.cost)
        (λ g k s root w.
        leads-gives (Comes root (debts g (drop 1 m.scope) (drop 1 m.levels) m.frames)) l (λ d. Gives (g t))
        (goes-normal root (debts g (drop 1 m.scope) (drop 1 m.levels) m.frames) (body_family g) u l (form.forall x (g a) (bound_in (number g) (g c))) (g t) (λ f d. Gives f) (by-sort g false (unlike g k)) w (normal g k))
        (g t) (λ d. refl))

    pub lambda-type_halts : (h : NormFault) → ((g : ℕ → Core) → Models m.codes g → IsLicensedHalt u (form.forall x (g a) (bound_in (number g) (g c))) h)
        → Halts (with_frame (frames.LambdaBody x a n) m) (states.Typed c) u h
    lambda-type_halts h lic g k root w =
        halts-normal root (debts g (drop 1 m.scope) (drop 1 m.levels) m.frames) (body_family g) u (form.forall x (g a) (bound_in (number g) (g c))) (λ f d. Gives f) (by-sort g false (unlike g k)) w h (lic g k)
