-- How the typing of a code begins.
use Rattle.std.specs.Prelude.{◌≡◌, ◌<◌, ◌≤◌, ◌-◌, ℕ, zero, suc, Bool, true, false, List, [], ◌∷◌, map, length, reverse, Option, Some, None, option_map, IfSome, slice_get, refl}
use Rattle.std.proofs.Common.{ap, sym, ◌∙◌, arith, subst as along}
use Rattle.dh_syntax.specs.declared.expressions.Op.{Op}
use Rattle.dh_syntax.specs.declared.expressions.Op.TheVariants as ops
use Rattle.dh_syntax.specs.declared.operators.Builtin.{Builtin}
use Rattle.dh_syntax.specs.declared.operators.Builtin.TheVariants as builtins
use Rattle.dh_syntax.specs.Expressions.Forms as form
use Rattle.dh_syntax.specs.Expressions.Tree.{Leaf, Node, end, kid, Name}
use Rattle.dh_syntax.specs.Names.Nameless as ref
use Rattle.dh_syntax.specs.Names.Nameless.{Ref, Core, raised, sub, sub_row, to_core}
use Rattle.dh_syntax.specs.Typing.BuiltinTypes.{type_of}
use Rattle.dh_syntax.specs.Typing.Inference.{Gives, Fails, FromPart, Ill}
use Rattle.dh_syntax.specs.Typing.NamelessTyping.{core_scopes}
use Rattle.dh_syntax.specs.Typing.Typing as typings
use Rattle.dh_syntax.specs.Typing.TypeRules as rule
use Rattle.dh_syntax.specs.Typing.TypeRules.{Rule, rule_number}
use Rattle.dh_syntax.specs.Typing.TypeViews.{is_constant}
use Rattle.dh_store.specs.Cells.{code_core, AreBelow}
use Rattle.dh_store.specs.Growth.{count}
use Rattle.dh_types.specs.Growing.{Stands}
use Rattle.dh_infer.specs.declared.frames.Entry.{Entry}
use Rattle.dh_infer.specs.declared.frames.Frame.TheVariants as frames
use Rattle.dh_infer.specs.declared.frames.State.{State}
use Rattle.dh_infer.specs.declared.frames.State.TheVariants as states
use Rattle.dh_infer.specs.declared.frames.Typer.{Typer}
use Rattle.dh_infer.specs.declared.forms.Form.TheVariants as forms
use Rattle.dh_infer.specs.Inside.Debts.{Family, whole, HasFound, Used, Root, Comes, Goes}
use Rattle.dh_infer.specs.Inside.Forms.{IsForm, IsNodeOf, IsBinding, IsTwiceBinding, IsPair, IsLiteral}
use Rattle.dh_infer.specs.Inside.Levels.{moving, IsOf, IsOfBelow}
use Rattle.dh_infer.specs.Inside.Machine.{debts, IsSound, IsReady, Works, Advances, IsRefusal}
use Rattle.dh_infer.specs.Inside.OpenTyping.{level, typing_in, typing_at}
use Rattle.dh_infer.specs.Inside.Rests as rests
use Rattle.dh_infer.specs.Inside.Scopes.{Models, env, in_scope, below_scope, IsTyped, Knows, IsEntryThere, AreEntriesThere}
use Rattle.dh_infer.proofs.Leading.{leads-next, leads-gives, leads-fails, leads-found, leads-part, leads-used, found-of}
use Rattle.dh_infer.proofs.LevelTypes.{of-sub, named-none}
use Rattle.dh_norm.specs.References.{opened}
use Rattle.dh_infer.proofs.RenamedTyping.{type_of-renamed}
use Rattle.dh_infer.proofs.PartsOf.{of-binding, of-pair, of-twice}
use Rattle.dh_infer.proofs.Readiness.{stays, pushes}
use Rattle.dh_infer.proofs.Scoping.{scope-of, scope-knows, env-there, env-past, number-type, number-none, number-of}

-- ---- the end of an inference at its beginning

-- ---- what is there

pub entry-there : (n : ℕ) (es : List Entry) (i : ℕ) (e : Entry) → slice_get es i ≡ Some e → AreEntriesThere n es → IsEntryThere n e
entry-there n [] i e p h = absurd cc
entry-there n (d ∷ es) zero e p h = let q : d ≡ e = cc in along (IsEntryThere n) q h.0
entry-there n (d ∷ es) (suc i) e p h = entry-there n es i e p h.1

item-there : (n : ℕ) (cs : List ℕ) (i c : ℕ) → slice_get cs i ≡ Some c → AreBelow n cs → c < n
item-there n [] i c p h = absurd cc
item-there n (d ∷ cs) zero c p h = let q : d ≡ c = cc in along (λ z. z < n) q h.0
item-there n (d ∷ cs) (suc i) c p h = item-there n cs i c p h.1

item-within : (es : List Entry) (i : ℕ) (e : Entry) → slice_get es i ≡ Some e → i < length es
item-within [] i e p = absurd cc
item-within (d ∷ es) zero e p = omega arith
item-within (d ∷ es) (suc i) e p = let l = item-within es i e p in omega arith

pub some-there : (n : ℕ) (o : Option ℕ) (t : ℕ) → o ≡ Some t → IfSome o (λ c. c < n) → t < n
some-there n o t p h = along (λ z. IfSome z (λ c. c < n)) p h

typed-there : (n : ℕ) (e : Entry) (t : ℕ) → e.typed ≡ Some t → IsEntryThere n e → t < n
typed-there n e t p h = some-there n e.typed t p h.1

-- the type of a built-in has no variable that no binder binds
some-once : {X : Type 0} (x y : X) → Some x ≡ Some y → x ≡ y
some-once x y h = cc

builtin-of : (b : Builtin) (t : Core) → Some t ≡ option_map to_core (type_of b) → (n : ℕ) → IsOf n t
builtin-of b t p n = some-once _ _ (ap (option_map (opened (moving n))) p ∙ sym (type_of-renamed (moving n) b) ∙ sym p)

-- ---- the depth that a node takes

pub deeper : (root : Root) (m : Typer) (g : ℕ → Core) (k u : ℕ) → Works g root m (states.Type k) u → Goes root (debts g m.scope m.levels m.frames) (λ d. whole (map g m.levels) (in_scope g m.scope k) (suc d)) u
deeper root m g k u w = leads-next (Comes root (debts g m.scope m.levels m.frames)) u (whole (map g m.levels) (in_scope g m.scope k)) w

module _ (m : Typer) (k u : ℕ) (ready : IsReady m (states.Type k)) where
  -- the inference of a code
  abbrev family : (ℕ → Core) → Family
  family g d = whole (map g m.levels) (in_scope g m.scope k) (suc d)

  pub begins-refused : (s : State) (r : Rule) → IsRefusal (rule_number r) s
      → ((g : ℕ → Core) → Models m.codes g → (d : ℕ) → family g d ≡ Fails r)
      → Advances m m (states.Type k) s u u
  begins-refused s r (f, p, q, n) h =
      along (λ t. Advances m m (states.Type k) t u u) (sym p)
      (stays m (states.Type k) ready (states.Failed f) u u tt (λ g l o. tt)
      (λ g l o root w. (
        r,
        n,
        along (λ z. Comes root (debts g m.scope m.levels m.frames) (Ill z r)) (sym (ap reverse q))
            (leads-fails (Comes root (debts g m.scope m.levels m.frames)) u (family g) (deeper root m g k u w) r (h g l)),
      )))

  pub begins-gives : (t : ℕ) → t < count m.codes → ((g : ℕ → Core) → Models m.codes g → IsSound g m (states.Type k) → IsOf (length (map g m.levels)) (g t))
      → ((g : ℕ → Core) → Models m.codes g → (d : ℕ) → family g d ≡ Gives (g t))
      → Advances m m (states.Type k) (states.Typed t) u u
  begins-gives t there sound h =
      stays m (states.Type k) ready (states.Typed t) u u there sound
      (λ g l o root w. leads-gives (Comes root (debts g m.scope m.levels m.frames)) u (family g) (deeper root m g k u w) (g t) (h g l))

  -- ---- a variable

  module _ (i : ℕ) (is : (g : ℕ → Core) → Models m.codes g → g k ≡ Leaf (ref.Bound i)) where
    value-of : (g : ℕ → Core) → Models m.codes g → in_scope g m.scope k ≡ env g m.scope i
    value-of g l = ap (sub (env g m.scope)) (is g l)

    pub variable-unbound : (s : State) → IsRefusal 1 s → slice_get m.scope i ≡ None → Advances m m (states.Type k) s u u
    variable-unbound s r h =
        begins-refused s rule.UnboundVariable r (λ g l d. let (j, q) = env-past g m.scope i h in ap (λ e. whole (map g m.levels) e (suc d)) (value-of g l ∙ q))

    module _ (e : Entry) (at : slice_get m.scope i ≡ Some e) where
      knows : (g : ℕ → Core) → IsSound g m (states.Type k) → Knows g (map g m.levels) e
      knows g s = scope-knows g m.scope m.levels s.scope i e at

      has-value : (g : ℕ → Core) → Models m.codes g → in_scope g m.scope k ≡ g e.value
      has-value g l = value-of g l ∙ env-there g m.scope i e at

      pub variable-typed : (t : ℕ) → e.typed ≡ Some t → Advances m m (states.Type k) (states.Typed t) u u
      variable-typed t p =
          stays m (states.Type k) ready (states.Typed t) u u (typed-there (count m.codes) e t p (entry-there (count m.codes) m.scope i e at ready.entries))
          (λ g l s. found-of (map g m.levels) (scope-of g m.scope m.levels s.scope) (g e.value) (g t) (knows g s).value (typed-found g s t p))
          (λ g l s root w.
          leads-found (Comes root (debts g m.scope m.levels m.frames)) u (whole (map g m.levels) (in_scope g m.scope k)) w (g t)
          (along (λ z. HasFound (whole (map g m.levels) z) (g t)) (sym (has-value g l)) (typed-found g s t p)))
        where
          typed-found : (g : ℕ → Core) → IsSound g m (states.Type k) → (t : ℕ) → e.typed ≡ Some t → HasFound (whole (map g m.levels) (g e.value)) (g t)
          typed-found g s t p = along (IsTyped g (whole (map g m.levels) (g e.value))) p (knows g s).typed

      pub variable-used : e.typed ≡ None → Advances m (record m { frames = frames.Used i ∷ m.frames }) (states.Type k) (states.Type e.value) u u
      variable-used p =
          pushes m (states.Type k) ready (frames.Used i) e.value u u refl refl tt (entry-there (count m.codes) m.scope i e at ready.entries).0
          (λ g l s. (item-within m.scope i e at, along (IsOf (length (map g m.levels))) (sym (of-sub (length (map g m.levels)) (env g m.scope) (g e.value) (knows g s).value)) (knows g s).value))
          (λ g l s root w.
          let F = whole (map g m.levels) (env g m.scope i) in
          let same : env g m.scope i ≡ in_scope g m.scope e.value = env-there g m.scope i e at ∙ sym (of-sub (length (map g m.levels)) (env g m.scope) (g e.value) (knows g s).value) in
          along (λ z. Goes root (Used F ∷ debts g m.scope m.levels m.frames) (whole (map g m.levels) z) u) same
          (leads-used (Comes root (debts g m.scope m.levels m.frames)) u F (along (λ z. Goes root (debts g m.scope m.levels m.frames) (whole (map g m.levels) z) u) (value-of g l) w)))

  -- ---- a variable with a number, and one that is none's

  module _ (n : ℕ) (is : (g : ℕ → Core) → Models m.codes g → g k ≡ Leaf (level n)) where
    pub level-typed : (t : ℕ) → n < length m.levels → slice_get m.levels (length m.levels - 1 - n) ≡ Some t → Advances m m (states.Type k) (states.Typed t) u u
    level-typed t l p =
        begins-gives t (item-there (count m.codes) m.levels (length m.levels - 1 - n) t p ready.levels)
        (λ g o s. number-of g m.levels (scope-of g m.scope m.levels s.scope) (length m.levels - 1 - n) t p)
        (λ g o d. ap (λ e. whole (map g m.levels) (sub (env g m.scope) e) (suc d)) (is g o) ∙ ap (λ z. typings.given_type z rule.UnboundVariable) (number-type g m.levels n t l p))

    pub level-unbound : (s : State) → IsRefusal 1 s → length m.levels ≤ n → Advances m m (states.Type k) s u u
    level-unbound s r l =
        begins-refused s rule.UnboundVariable r
        (λ g o d. ap (λ e. whole (map g m.levels) (sub (env g m.scope) e) (suc d)) (is g o) ∙ ap (λ z. typings.given_type z rule.UnboundVariable) (number-none g m.levels n l))

  pub free-unbound : (s : State) → IsRefusal 1 s → ((g : ℕ → Core) → Models m.codes g → IsForm g (g k) forms.Free) → Advances m m (states.Type k) s u u
  free-unbound s r is =
      begins-refused s rule.UnboundVariable r
      (λ g o d. let (b, x, n, e) = is g o in ap (λ z. whole (map g m.levels) (sub (env g m.scope) z) (suc d)) e ∙ ap (λ z. typings.given_type z rule.UnboundVariable) (named-none (map g m.levels) x n b))

  -- ---- a built-in and a literal

  module _ (b : Builtin) (is : (g : ℕ → Core) → Models m.codes g → IsForm g (g k) (forms.Builtin b)) where
    builtin-family : (g : ℕ → Core) → Models m.codes g → (d : ℕ) → family g d ≡ typings.given_type (option_map to_core (type_of b)) rule.SortHasNoType
    builtin-family g o d = let (r, e, t) = is g o in ap (λ z. whole (map g m.levels) (sub (env g m.scope) z) (suc d)) e

    pub builtin-typed : (t : ℕ) → t < count m.codes → Some (code_core m.codes t) ≡ option_map to_core (type_of b) → Advances m m (states.Type k) (states.Typed t) u u
    builtin-typed t there p =
        begins-gives t there
        (λ g o s. along (IsOf (length (map g m.levels))) (sym (o t there)) (builtin-of b (code_core m.codes t) p (length (map g m.levels))))
        (λ g o d. builtin-family g o d ∙ ap (λ z. typings.given_type z rule.SortHasNoType) (sym p) ∙ ap Gives (sym (o t there)))

    pub builtin-refused : (s : State) → IsRefusal 2 s → None ≡ option_map to_core (type_of b) → Advances m m (states.Type k) s u u
    builtin-refused s r p = begins-refused s rule.SortHasNoType r (λ g o d. builtin-family g o d ∙ ap (λ z. typings.given_type z rule.SortHasNoType) (sym p))

  pub literal-typed : (b : Builtin) (t : ℕ) → ((g : ℕ → Core) → Models m.codes g → IsLiteral (g k) b) → Stands m.codes t (form.builtin b) → Advances m m (states.Type k) (states.Typed t) u u
  literal-typed b t is st =
      begins-gives t st.there
      (λ g o s. along (IsOf (length (map g m.levels))) (sym (o t st.there ∙ st.core)) refl)
      (λ g o d. is g o (map g m.levels) (env g m.scope) d ∙ ap Gives (sym (o t st.there ∙ st.core)))

  -- ---- nodes with rules of their own

  module _ (x : Name) (a b : ℕ) (a-there : a < count m.codes) (b-there : b < count m.codes) where
    binding-shape : (op : Op) → ((g : ℕ → Core) → Models m.codes g → IsNodeOf g (g k) op (λ r. IsBinding g r x a b))
        → (g : ℕ → Core) → Models m.codes g → in_scope g m.scope k ≡ Node op (kid None (in_scope g m.scope a) (kid (Some x) (below_scope g m.scope b) end))
    binding-shape op is g l = let (r, e, q) = is g l in ap (sub (env g m.scope)) (e ∙ ap (Node op) q)

    binding-parts : (op : Op) → ((g : ℕ → Core) → Models m.codes g → IsNodeOf g (g k) op (λ r. IsBinding g r x a b))
        → (g : ℕ → Core) → Models m.codes g → IsSound g m (states.Type k) → IsOf (length (map g m.levels)) (in_scope g m.scope a) × IsOfBelow (length (map g m.levels)) (below_scope g m.scope b)
    binding-parts op is g l s = of-binding (length (map g m.levels)) op x (in_scope g m.scope a) (below_scope g m.scope b) (along (IsOf (length (map g m.levels))) (binding-shape op is g l) s.state)

    pub begins-lambda : ((g : ℕ → Core) → Models m.codes g → IsNodeOf g (g k) ops.Lam (λ r. IsBinding g r x a b))
        → Advances m (record m { frames = frames.LambdaDomain x a b ∷ m.frames }) (states.Type k) (states.Type a) u u
    begins-lambda is =
        pushes m (states.Type k) ready (frames.LambdaDomain x a b) a u u refl refl (a-there, b-there) a-there
        (λ g l s. let p = binding-parts ops.Lam is g l s in (p, p.0))
        (λ g l s root w.
        leads-part (Comes root (debts g m.scope m.levels m.frames)) u (family g) (deeper root m g k u w) 0 (whole (map g m.levels) (in_scope g m.scope a))
        (rests.lambda_domain_next (map g m.levels) x (in_scope g m.scope a) (below_scope g m.scope b)) (λ d. ap (λ z. whole (map g m.levels) z (suc d)) (binding-shape ops.Lam is g l)))

    pub begins-forall : ((g : ℕ → Core) → Models m.codes g → IsNodeOf g (g k) ops.Pi (λ r. IsBinding g r x a b))
        → Advances m (record m { frames = frames.ForallDomain x a b ∷ m.frames }) (states.Type k) (states.Type a) u u
    begins-forall is =
        pushes m (states.Type k) ready (frames.ForallDomain x a b) a u u refl refl (a-there, b-there) a-there
        (λ g l s. let p = binding-parts ops.Pi is g l s in (p, p.0))
        (λ g l s root w.
        leads-part (Comes root (debts g m.scope m.levels m.frames)) u (family g) (deeper root m g k u w) 0 (whole (map g m.levels) (in_scope g m.scope a))
        (rests.forall_domain_next (map g m.levels) x (in_scope g m.scope a) (below_scope g m.scope b)) (λ d. ap (λ z. whole (map g m.levels) z (suc d)) (binding-shape ops.Pi is g l)))

  module _ (a b : ℕ) (a-there : a < count m.codes) (b-there : b < count m.codes) where
    let-shape : ((g : ℕ → Core) → Models m.codes g → IsNodeOf g (g k) (ops.Let false) (λ r. (x : Name) × IsBinding g r x a b))
        → (g : ℕ → Core) → Models m.codes g → (x : Name) × (in_scope g m.scope k ≡ Node (ops.Let false) (kid None (in_scope g m.scope a) (kid (Some x) (below_scope g m.scope b) end)))
    let-shape is g l = let (r, e, q) = is g l in (q.0, ap (sub (env g m.scope)) (e ∙ ap (Node (ops.Let false)) q.1))

    pub begins-let : ((g : ℕ → Core) → Models m.codes g → IsNodeOf g (g k) (ops.Let false) (λ r. (x : Name) × IsBinding g r x a b))
        → Advances m (record m { frames = frames.Value a b ∷ m.frames }) (states.Type k) (states.Type a) u u
    begins-let is =
        pushes m (states.Type k) ready (frames.Value a b) a u u refl refl (a-there, b-there) a-there
        (λ g l s.
        let (x, e) = let-shape is g l in
        let p = of-binding (length (map g m.levels)) (ops.Let false) x (in_scope g m.scope a) (below_scope g m.scope b) (along (IsOf (length (map g m.levels))) e s.state) in
        (p, p.0))
        (λ g l s root w.
        leads-part (Comes root (debts g m.scope m.levels m.frames)) u (family g) (deeper root m g k u w) 0 (whole (map g m.levels) (in_scope g m.scope a))
        (rests.value_next (map g m.levels) (in_scope g m.scope a) (below_scope g m.scope b)) (λ d. ap (λ z. whole (map g m.levels) z (suc d)) (let-shape is g l).1))

    pub pair-shape : (op : Op) → ((g : ℕ → Core) → Models m.codes g → IsNodeOf g (g k) op (λ r. IsPair g r a b))
        → (g : ℕ → Core) → Models m.codes g → in_scope g m.scope k ≡ Node op (kid None (in_scope g m.scope a) (kid None (in_scope g m.scope b) end))
    pair-shape op is g l = let (r, e, q) = is g l in ap (sub (env g m.scope)) (e ∙ ap (Node op) q)

    pub begins-application : ((g : ℕ → Core) → Models m.codes g → IsNodeOf g (g k) ops.App (λ r. IsPair g r a b))
        → Advances m (record m { frames = frames.Function b ∷ m.frames }) (states.Type k) (states.Type a) u u
    begins-application is =
        pushes m (states.Type k) ready (frames.Function b) a u u refl refl b-there a-there
        (λ g l s.
        let p = of-pair (length (map g m.levels)) ops.App (in_scope g m.scope a) (in_scope g m.scope b) (along (IsOf (length (map g m.levels))) (pair-shape ops.App is g l) s.state) in
        (p.1, p.0))
        (λ g l s root w.
        leads-part (Comes root (debts g m.scope m.levels m.frames)) u (family g) (deeper root m g k u w) 0 (whole (map g m.levels) (in_scope g m.scope a))
        (rests.function_next (map g m.levels) (in_scope g m.scope b)) (λ d. ap (λ z. whole (map g m.levels) z (suc d)) (pair-shape ops.App is g l)))

  module _ (t a b : ℕ) (t-there : t < count m.codes) (a-there : a < count m.codes) (b-there : b < count m.codes)
      (is : (g : ℕ → Core) → Models m.codes g → IsNodeOf g (g k) (ops.Let true) (λ r. IsTwiceBinding g r t a b)) where
    twice-shape : (g : ℕ → Core) → Models m.codes g
        → (x : Name) × (in_scope g m.scope k ≡ Node (ops.Let true) (kid None (in_scope g m.scope t) (kid None (in_scope g m.scope a) (kid (Some x) (below_scope g m.scope b) end))))
    twice-shape g l = let (r, e, q) = is g l in (q.0, ap (sub (env g m.scope)) (e ∙ ap (Node (ops.Let true)) q.1))

    twice-parts : (g : ℕ → Core) → Models m.codes g → IsSound g m (states.Type k)
        → IsOf (length (map g m.levels)) (in_scope g m.scope t) × IsOf (length (map g m.levels)) (in_scope g m.scope a) × IsOfBelow (length (map g m.levels)) (below_scope g m.scope b)
    twice-parts g l s =
        let (x, e) = twice-shape g l in
        of-twice (length (map g m.levels)) (ops.Let true) x (in_scope g m.scope t) (in_scope g m.scope a) (below_scope g m.scope b) (along (IsOf (length (map g m.levels))) e s.state)

    -- what follows from the type of the annotation
    abbrev let_next : (g : ℕ → Core) → Core → Family
    let_next g c = rests.let_annotation_next (map g m.levels) (in_scope g m.scope t) (in_scope g m.scope a) (below_scope g m.scope b) c

    typed-family : (g : ℕ → Core) → Models m.codes g → (s : Bool) → is_constant builtins.Sort (in_scope g m.scope t) ≡ s → (d : ℕ)
        → family g d ≡ typings.unless_untyped core_scopes (typing_in (map g m.levels) d) [] s 0 (in_scope g m.scope t)
        (λ c. FromPart 1 (typing_at (map g m.levels) d (in_scope g m.scope a)) (λ v. rests.let_value_next (map g m.levels) (in_scope g m.scope t) (in_scope g m.scope a) (below_scope g m.scope b) v d))
    typed-family g l s p d =
        ap (λ z. whole (map g m.levels) z (suc d)) (twice-shape g l).1
        ∙ ap (λ z. typings.unless_untyped core_scopes (typing_in (map g m.levels) d) [] z 0 (in_scope g m.scope t)
        (λ c. FromPart 1 (typing_at (map g m.levels) d (in_scope g m.scope a)) (λ v. rests.let_value_next (map g m.levels) (in_scope g m.scope t) (in_scope g m.scope a) (below_scope g m.scope b) v d))) p

    pub begins-let_typed : ((g : ℕ → Core) → Models m.codes g → is_constant builtins.Sort (in_scope g m.scope t) ≡ false)
        → Advances m (record m { frames = frames.LetAnnotation t a b ∷ m.frames }) (states.Type k) (states.Type t) u u
    begins-let_typed unlike =
        pushes m (states.Type k) ready (frames.LetAnnotation t a b) t u u refl refl (t-there, a-there, b-there) t-there
        (λ g l s. let p = twice-parts g l s in (p, p.0))
        (λ g l s root w.
        leads-part (Comes root (debts g m.scope m.levels m.frames)) u (family g) (deeper root m g k u w) 0 (whole (map g m.levels) (in_scope g m.scope t))
        (let_next g) (typed-family g l false (unlike g l)))

    pub begins-let_sort : ((g : ℕ → Core) → Models m.codes g → is_constant builtins.Sort (in_scope g m.scope t) ≡ true)
        → Advances m (record m { frames = frames.LetValue t a b ∷ m.frames }) (states.Type k) (states.Type a) u u
    begins-let_sort yes' =
        pushes m (states.Type k) ready (frames.LetValue t a b) a u u refl refl (t-there, a-there, b-there) a-there
        (λ g l s. let p = twice-parts g l s in (p, p.1))
        (λ g l s root w.
        leads-part (Comes root (debts g m.scope m.levels m.frames)) u (family g) (deeper root m g k u w) 1 (whole (map g m.levels) (in_scope g m.scope a))
        (rests.let_value_next (map g m.levels) (in_scope g m.scope t) (in_scope g m.scope a) (below_scope g m.scope b)) (typed-family g l true (yes' g l)))
