-- What a machine that keeps heads answers for expressions with names.
use Rattle.std.specs.Prelude.{◌≡◌, ℕ, ◌+◌, Option, []}
use Rattle.std.proofs.Common.{ap, sym, ◌∙◌, subst as along}
use Rattle.dh_syntax.specs.Expressions.Nesting.{nesting}
use Rattle.dh_syntax.specs.Expressions.Tree.{Term}
use Rattle.dh_syntax.specs.Names.Nameless.{Core, to_core, from_core}
use Rattle.dh_syntax.specs.Normalising.Heads.{Whole, Answer, Found, Wide, Deep, Over}
use Rattle.dh_syntax.specs.Normalising.Named.{names}
use Rattle.dh_syntax.specs.Normalising.NamelessRuns.{cores}
use Rattle.dh_syntax.specs.Normalising.Normal.{Normalises, HasNormalForm}
use Rattle.dh_laws.specs.KeptHeads.{Lag, endless_run}
use Rattle.dh_laws.specs.KeptRuns.{Sound, KeepsHeads, Run, Go, Stop, steps, MayAnswer, StaysSound, KeepingAnswers}
use Rattle.dh_laws.proofs.Names.Cores.{term_below-core_below}
use Rattle.dh_laws.proofs.Normalising.FramesStop.{stops}
use Rattle.dh_laws.proofs.Normalising.KeepingMachine.{machine, Finds, machine-lag}
use Rattle.dh_laws.proofs.Normalising.NamedLags.{Behind, found-named, wide-named, spent-named, deep-named}
use Rattle.dh_laws.proofs.Normalising.NamelessAgain.{cores_law}

-- with what is found alone
abbrev first_of : {X Y : Type 0} → Answer (X × Y) → Answer X
first_of (Found z left) = Found z.0 left
first_of (Wide left) = Wide left
first_of (Deep left) = Deep left
first_of Over = Over

module _ (Store : Type 0) (kept : Store → Core → Option Core) (keep : Store → Core → Core → Store) (keeps : KeepsHeads cores Store kept keep)
    (hh units : ℕ) (st : Store) (sound : Sound cores Store kept keep st) (e : Term) where
  abbrev answer : Answer (Core × Store)
  answer = machine cores Store kept keep hh Whole units st (to_core e)

  abbrev IsBehind : Answer (Core × Store) → Type 0
  IsBehind a = Lag hh (Finds cores Store kept keep) (λ h u. endless_run cores h Whole u (to_core e)) units a

  behind-of : (a : Answer (Core × Store)) → IsBehind a → Behind hh units e (first_of a)
  behind-of (Found z left) (x, extra, p, q) = (x, extra, p.0, q)
  behind-of (Wide left) l = l
  behind-of (Deep left) l = l
  behind-of Over l = l

  may_answer : (a : Answer (Core × Store)) → IsBehind a → MayAnswer hh units e a
  may_answer (Found (c, st') left) l =
      let (f, t, n, (extra, q)) = found-named hh units e left c (behind-of (Found (c, st') left) l) in
      let r : f ≡ from_core c = sym (term_below-core_below [] f) ∙ ap from_core t in
      (along (λ z. HasNormalForm names e z) r n, (extra, along (λ z. Normalises names (units + extra) e (Found z left)) r q))
  may_answer (Wide left) l = wide-named hh units e left nesting l
  may_answer (Deep left) l = deep-named hh units e left l
  may_answer Over l = spent-named hh units e l

  stays_sound : (a : Answer (Core × Store)) → IsBehind a → StaysSound (Sound cores Store kept keep) a
  stays_sound (Found (c, st') left) (x, extra, p, q) = p.1
  stays_sound (Wide left) l = tt
  stays_sound (Deep left) l = tt
  stays_sound Over l = tt

  pub answers : (n : ℕ) × (a : Answer (Core × Store)) × (steps cores Store kept keep n (Go hh (Run Whole (to_core e)) units st []) ≡ Stop a)
      × MayAnswer hh units e a × StaysSound (Sound cores Store kept keep) a
  answers =
      let l = machine-lag cores Store kept keep cores_law keeps hh Whole units st (to_core e) sound in
      let (n, p) = stops cores Store kept keep hh Whole units st (to_core e) in
      (n, answer, p, may_answer answer l, stays_sound answer l)

pub keeping_answers : (Store : Type 0) → KeepingAnswers Store
keeping_answers Store kept keep keeps hh units st e sound = answers Store kept keep keeps hh units st sound e
