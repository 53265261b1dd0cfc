-- Lines of roots.
use Rattle.std.specs.Prelude.{◌≡◌, ◌<◌, ℕ, zero, suc, List, [], ◌∷◌, length, Option, Some, None, Result, Ok, Err, IfOk, refl}
use Rattle.std.proofs.Common.{sym, ap, ◌∙◌, subst}
use Rattle.std.specs.declared.alloc.AllocError.{AllocError}
use Rattle.dh_command.specs.Answer.{BlameLine, cycle_at}
use Rattle.dh_command.specs.declared.statuses.Status.{Status}
use Rattle.dh_command.specs.Statuses.{why_status}
use Rattle.dh_imports.specs.declared.outcomes.Blame.{Blame}
use Rattle.dh_imports.specs.declared.outcomes.Origin.{Origin}
use Rattle.dh_imports.specs.declared.outcomes.Outcome as program
use Rattle.dh_imports.specs.declared.outcomes.Outcome.TheVariants as variants
use Rattle.dh_imports.specs.declared.outcomes.Why.{Why}
use Rattle.dh_imports.specs.declared.outcomes.Why.TheVariants as whys
use Rattle.dh_imports.specs.ImportFaults.{ill_of}
use Rattle.dh_imports.specs.Outcomes.{Bad, Good, Loop, Outcome, of_blame, plain}
use Rattle.dh_imports.specs.Records.{Record}
use Rattle.dh_imports.specs.Resolver.{Resolves}
use Rattle.dh_import_laws.specs.Blames.{StandsIn}
use Rattle.dh_laws.proofs.KeyOrder.{none-some}
use Rattle.dh_record.specs.declared.rows.recorded.Entrant.{Entrant}
use Rattle.dh_record.specs.Entering.{keys_in}
use Rattle.dh_record.specs.Rows.{key_named}
use Rattle.dh_script_laws.specs.Asks.{RootLine, ValueLine, circular, faulty, root_key, root_of, valued}
use Rattle.dh_script_laws.proofs.Answering.{roots_are_keys}
use Rattle.dh_syntax.specs.declared.expressions.Expr.{Expr}
use Rattle.dh_syntax.specs.declared.faults.Ill.{Ill}
use Rattle.dh_syntax.specs.declared.locations.Key.{Key}
use Rattle.dh_syntax.specs.declared.locations.Loc.{Loc}
use Rattle.dh_syntax.specs.Expressions.Bridge.{term}
use Rattle.dh_syntax.specs.Expressions.Tree.{Term}
use Rattle.dh_watch_laws.specs.Kept.{IsSound, Kept, known}
use Rattle.dh_watch_laws.proofs.Holding.{kept_are_resolved}
use Rattle.dh_watch_laws.proofs.Standing.{faults_of_kept_stand}
use Rattle.dh_watch_lines.specs.declared.lines.Told.{Told}
use Rattle.dh_watch_lines.specs.Lines.{TellsBlame}
use Rattle.dh_watch_runs.specs.Resolving.{named}

-- ---- what is told by an outcome

-- it is told of each root whose key resolves so
abbrev pub TellsOutcome : Record → Outcome → Told → Type 0
TellsOutcome r o t = (l : Loc) → Resolves r (root_key l) o → RootLine r (root_of l) t.text t.status

pub value_told : (x : Result Told AllocError) (r : Record) (o : program.Outcome) (v : Expr) (g : Origin) → o ≡ variants.Good v g → IfOk x (λ t. ValueLine (term v) t.text t.status)
    → IfOk x (TellsOutcome r (plain o))
value_told (Ok t) r o v g is w = λ l h. valued (term v) ((roots_are_keys r l).0 (term v) g (subst (λ z. Resolves r (root_key l) (plain z)) is h)) w
value_told (Err e) r o v g is w = tt

-- what the program says of a fault is a fault, or a loop
blame_line : (r : Record) (l : Loc) (at : Option Key) (w : Why) (line : List ℕ) → BlameLine r (record { at = at; why = w }) line → Resolves r (root_key l) (of_blame at w)
    → RootLine r (root_of l) line (why_status w)
blame_line r l (Some j) whys.Cycle line b h = circular j ((roots_are_keys r l).2 j h) b
blame_line r l at w line b h = faulty (record { at = at; why = w }) ((roots_are_keys r l).1 (record { at = at; why = w }) h) b

pub blame_told : (x : Result Told AllocError) (r : Record) (o : program.Outcome) (b : Blame) → o ≡ variants.Bad b → IfOk x (TellsBlame r b) → IfOk x (TellsOutcome r (plain o))
blame_told (Ok t) r o b is w = λ l h. subst (RootLine r (root_of l) t.text) (sym w.1) (blame_line r l b.at b.why t.text w.0 (subst (λ z. Resolves r (root_key l) (plain z)) is h))
blame_told (Err e) r o b is w = tt

-- a place without a type is no loop
blamed_bad : (at : Option Key) (w : Why) (f : Ill) → ill_of w ≡ Some f → of_blame at w ≡ Bad (record { at = at; why = w })
blamed_bad (Some j) whys.Cycle f h = none-some refl h
blamed_bad at w f h = refl

pub blame_stands : (s : Kept) (o : program.Outcome) (b : Blame) → IsSound s → o ≡ variants.Bad b → (k : Key) × (known s.outcomes k ≡ Some (plain o)) → (f : Ill) → ill_of b.why ≡ Some f
    → StandsIn s.recorded (known s.outcomes) b f
blame_stands s o b h is (k, e) f told = faults_of_kept_stand s k b f h (e ∙ ap (λ z. Some (plain z)) is ∙ ap (λ z. Some z) (blamed_bad b.at b.why f told)) told

-- ---- what is told of a root

-- it is told of each root that has this key
abbrev pub TellsKey : Record → Key → Told → Type 0
TellsKey r k t = (l : Loc) → k ≡ root_key l → RootLine r (root_of l) t.text t.status

pub decided_told : (x : Result Told AllocError) (s : Kept) (k : Key) (o : Outcome) → IsSound s → known s.outcomes k ≡ Some o → IfOk x (TellsOutcome s.recorded o) → IfOk x (TellsKey s.recorded k)
decided_told (Ok t) s k o h e w = λ l same. w l (subst (λ z. Resolves s.recorded z o) same (kept_are_resolved s h k o e))
decided_told (Err x) s k o h e w = tt

pub loop_told : (x : Result Told AllocError) (r : Record) (k j : Key) → Resolves r k (Loop j) → IfOk x (TellsBlame r (cycle_at j)) → IfOk x (TellsKey r k)
loop_told (Ok t) r k j h w = λ l same. subst (RootLine r (root_of l) t.text) (sym w.1) (circular j ((roots_are_keys r l).2 j (subst (λ z. Resolves r z (Loop j)) same h)) w.0)
loop_told (Err e) r k j h w = tt

-- ---- numbers of keys

pub named-key : (es : List Entrant) (n : ℕ) → named (keys_in es) n ≡ key_named es n
named-key [] n = refl
named-key (e ∷ es) zero = refl
named-key (e ∷ es) (suc n) = named-key es n
