-- A closed table as an answer: its root with values, or the fault that decides it.
use Rattle.std.proofs.Common.{◌≡◌, ◌⊎◌, inl, inr, ℕ, ◌+◌, ◌^◌, ◌≤◌, ◌<◌, List, Bool, true, false, true≢false, if◌then◌else◌, Option, Some, None, IfSome, Ok, refl, sym, ap, ◌∙◌, subst, arith}
use Rattle.std.specs.Prelude.{IsSome}
use Rattle.dh_syntax.specs.declared.expressions.Expr.{Expr}
use Rattle.dh_syntax.specs.declared.faults.Ill.{Ill}
use Rattle.dh_imports.specs.declared.outcomes.Blame.{Blame}
use Rattle.dh_command.specs.declared.verbs.Verb.{Verb}
use Rattle.dh_command.specs.Answer.{FaultAnswer, ResolvedAnswer, ValuedAnswer, valued, faulty, circular, overfull}
use Rattle.dh_command.specs.Responses.{Response}
use Rattle.dh_imports.specs.ImportFaults.{ill_of}
use Rattle.dh_syntax.specs.Expressions.Arity.{IsWellFormed}
use Rattle.dh_syntax.specs.Expressions.Bridge.{term}
use Rattle.dh_syntax.specs.Expressions.Nesting.{nesting}
use Rattle.dh_syntax.specs.Expressions.Spellable.{IsSpellable}
use Rattle.dh_syntax.specs.Expressions.Tree.{Term}
use Rattle.dh_imports.specs.Machine.{State, outcome_of, root_walk}
use Rattle.dh_imports.specs.Readings.{HasValue, root_reading}
use Rattle.dh_imports.specs.Replay.{RootEnd, ready, bad, looped, too_many, has_too_many, end_of, root_end}
use Rattle.dh_imports.specs.Resolver.{Resolves}
use Rattle.dh_imports.specs.RootEnds.{EndsBy}
use Rattle.dh_imports.specs.Walk.{Walked, Ready, Fails, Turns, Needs}
use Rattle.dh_syntax.specs.Names.Indices.{IndicesBelow}
use Rattle.dh_syntax.proofs.SpellableIndices.{spellable-indices}
use Rattle.dh_laws.proofs.KeyOrder.{none-some, some-equal}
use Rattle.dh_import_laws.specs.Blames.{StandsIn}
use Rattle.dh_import_laws.proofs.Blamed.{root_faults_stand}
use Rattle.dh_import_laws.proofs.Laws.{outcomes_are_resolved}
use Rattle.dh_table.specs.declared.answers.roots.Ended.{Ended}
use Rattle.dh_table.specs.declared.answers.roots.Ended.TheVariants as ends
use Rattle.dh_table.specs.Roots.{IsEnd, IsFitEnd}
use Rattle.dh_table.specs.Shown.{Shown}
use Rattle.dh_table.specs.States.{IsReplayed, record_of, state_of}
use Rattle.dh_top.specs.Replies.{IsClosed}

-- ---- the end of the root and its walk

abbrev pub WalkedTo : RootEnd → Walked Term → Type 0
WalkedTo (ready v) w = w ≡ Ready v
WalkedTo (bad b) w = w ≡ Fails b
WalkedTo (looped j) w = w ≡ Turns j
WalkedTo too_many w = Unit {0}

by_walk : (w : Walked Term) (e : RootEnd) → end_of w ≡ Some e → WalkedTo e w
by_walk (Ready v) e h = subst (λ x. WalkedTo x (Ready v)) (some-equal h) refl
by_walk (Fails b) e h = subst (λ x. WalkedTo x (Fails b)) (some-equal h) refl
by_walk (Turns j) e h = subst (λ x. WalkedTo x (Turns j)) (some-equal h) refl
by_walk (Needs k) e h = none-some refl h

by_end : (many : Bool) (w : Walked Term) (e : RootEnd) → (if many then Some too_many else end_of w) ≡ Some e → WalkedTo e w
by_end true w e h = subst (λ x. WalkedTo x w) (some-equal h) tt
by_end false w e h = by_walk w e h

pub walked : (s : State) (e : RootEnd) → root_end s ≡ Some e → WalkedTo e (root_walk s)
walked s e h = by_end (has_too_many s) (root_walk s) e h

-- ---- a closed table

closed_at : (t : Shown) (ended : Ended) (o : Option RootEnd) → root_end (state_of t) ≡ o → IsSome o → IfSome o (λ e. IsEnd e ended)
    → IfSome o (EndsBy (record_of t) (state_of t).root) → IsFitEnd (state_of t).root ended → IsClosed t ended
closed_at t ended None is some at by fits = absurd (true≢false (sym some))
closed_at t ended (Some e) is some at by fits = record { end = e; at_end = is; by = by; is_end = at; fits = fits }

pub closed : (t : Shown) (ended : Ended) (root : Term) → (state_of t).root ≡ root → IsSome (root_end (state_of t)) → IfSome (root_end (state_of t)) (λ e. IsEnd e ended)
    → IfSome (root_end (state_of t)) (EndsBy (record_of t) root) → IsFitEnd root ended → IsClosed t ended
closed t ended root same some at by fits =
    closed_at t ended (root_end (state_of t)) refl some at (subst (λ r. IfSome (root_end (state_of t)) (EndsBy (record_of t) r)) (sym same) by) (subst (λ r. IsFitEnd r ended) (sym same) fits)

-- ---- a fault

stands_at : (t : Shown) (b : Blame) → IsReplayed t → (e : RootEnd) → WalkedTo e (root_walk (state_of t)) → IsEnd e (ends.Bad b)
    → (f : Ill) → ill_of b.why ≡ Some f → StandsIn (record_of t) (outcome_of (state_of t)) b f
stands_at t b r (ready v) w is f told = absurd is
stands_at t b r (bad d) w is f told =
    subst (λ x. StandsIn (record_of t) (outcome_of (state_of t)) x f) (sym is)
    (subst (λ s. StandsIn s.recorded (outcome_of s) d f) r.state_is
    (root_faults_stand (state_of t).root r.events d f r.lawful (subst (λ s. root_walk s ≡ Fails d) (sym r.state_is) w) (subst (λ (x : Blame). ill_of x.why ≡ Some f) is told)))
stands_at t b r (looped j) w is f told = none-some (ap (λ (x : Blame). ill_of x.why) is) told
stands_at t b r too_many w is f told = none-some (ap (λ (x : Blame). ill_of x.why) is) told

-- where the fault that decides a closed table is a place without a type, it stands in a text
pub fault_stands : (t : Shown) (b : Blame) → IsReplayed t → IsClosed t (ends.Bad b) → (f : Ill) → ill_of b.why ≡ Some f → StandsIn (record_of t) (outcome_of (state_of t)) b f
fault_stands t b r c = stands_at t b r c.end (walked (state_of t) c.end c.at_end) c.is_end

faulty_at : (v : Verb) (text : List ℕ) (t : Shown) (b : Blame) (w : Response) → FaultAnswer (record_of t) b w → (e : RootEnd) → EndsBy (record_of t) (state_of t).root e → IsEnd e (ends.Bad b)
    → ResolvedAnswer v text (state_of t).root (record_of t) w
faulty_at v text t b w a (ready x) by is = absurd is
faulty_at v text t b w a (bad d) by is = faulty d by (subst (λ x. FaultAnswer (record_of t) x w) is a)
faulty_at v text t b w a (looped j) by is = circular j by (subst (λ x. FaultAnswer (record_of t) x w) is a)
faulty_at v text t b w a too_many by is = overfull by (subst (λ x. FaultAnswer (record_of t) x w) is a)

pub faulty_ended : (v : Verb) (text : List ℕ) (t : Shown) (b : Blame) (w : Response) → IsClosed t (ends.Bad b) → FaultAnswer (record_of t) b w
    → ResolvedAnswer v text (state_of t).root (record_of t) w
faulty_ended v text t b w c a = faulty_at v text t b w a c.end c.by c.is_end

-- ---- values

has_value : (text : List ℕ) (t : Shown) (v : Term) → IsReplayed t → root_walk (state_of t) ≡ Ready v → HasValue (record_of t) (root_reading text (state_of t).root (outcome_of (state_of t))) v
has_value text t v r w = record {
  asks = λ k o known.
      subst (λ s. Resolves s.recorded k o) r.state_is
      (outcomes_are_resolved (state_of t).root r.events k o r.lawful (subst (λ s. outcome_of s k ≡ Some o) (sym r.state_is) known));
  ready = w;
}

valued_at : (v : Verb) (text : List ℕ) (t : Shown) (x : Term) (w : Response) → IsReplayed t → ValuedAnswer v (root_reading text (state_of t).root (outcome_of (state_of t))) x w
    → (e : RootEnd) → WalkedTo e (root_walk (state_of t)) → EndsBy (record_of t) (state_of t).root e → (y : Expr) → term y ≡ x → IsEnd e (ends.Ready y)
    → ResolvedAnswer v text (state_of t).root (record_of t) w
valued_at v text t x w r a (ready z) walk by y same is =
    let here : z ≡ x = sym is ∙ same in
    valued x (outcome_of (state_of t)) (subst (λ e. EndsBy (record_of t) (state_of t).root (ready e)) here by)
    (has_value text t x r (subst (λ e. root_walk (state_of t) ≡ Ready e) here walk)) a
valued_at v text t x w r a (bad d) walk by y same is = absurd is
valued_at v text t x w r a (looped j) walk by y same is = absurd is
valued_at v text t x w r a too_many walk by y same is = absurd is

pub valued_ended : (v : Verb) (text : List ℕ) (t : Shown) (y : Expr) (w : Response) → IsReplayed t → IsClosed t (ends.Ready y)
    → ValuedAnswer v (root_reading text (state_of t).root (outcome_of (state_of t))) (term y) w → ResolvedAnswer v text (state_of t).root (record_of t) w
valued_ended v text t y w r c a = valued_at v text t (term y) w r a c.end (walked (state_of t) c.end c.at_end) c.by y refl c.is_end

-- ---- what the root with its values is fit for

pub value_formed : (t : Shown) (y : Expr) → IsSpellable (state_of t).root → IsClosed t (ends.Ready y) → IsWellFormed (term y)
value_formed t y s c = c.fits.well_formed s.0

pub value_shallow : (t : Shown) (y : Expr) → IsSpellable (state_of t).root → IsClosed t (ends.Ready y) → nesting (term y) < 2 ^ 32
value_shallow t y s c = let h = c.fits.shallow in let g = s.1 in omega (arith, h, g)

pub value_indices : (t : Shown) (y : Expr) → IsSpellable (state_of t).root → IsClosed t (ends.Ready y) → IndicesBelow (2 ^ 31) (term y)
value_indices t y s c = c.fits.indices (2 ^ 31) (omega arith) (spellable-indices (state_of t).root s.2)
