-- The laws of the machine.
use Rattle.std.proofs.Common.{◌≡◌, Bool, true, false, List, [], ◌∷◌, ◌++◌, take, length, refl, sym, ◌∙◌, ap, subst, append-nil, arith}
use Rattle.std.specs.Prelude.{IsTrue, not, ◌||◌, if◌then◌else◌}
use Rattle.dh_syntax.specs.declared.tokens.Token.{Token}
use Rattle.dh_syntax.specs.declared.tokens.TokenKind.{TokenKind}
use Rattle.dh_syntax.specs.declared.tokens.TokenKind.TheVariants as kinds
use Rattle.dh_syntax.specs.Text.Derivation.{Derivation}
use Rattle.dh_syntax.specs.Text.Derived.{derived}
use Rattle.dh_syntax.specs.Text.Spelling.{AreTokens, Derives, IsPrefixOfDerived, OpensTooMany, opens_too_many}
use Rattle.dh_syntax.specs.Text.Yield.{Written, token, free, yield, text_yield}
use Rattle.dh_grammar.specs.Inside.Before.{Text, before}
use Rattle.dh_grammar.specs.Laws.Derivations.{Accepts, DerivationIsUnique, NoDeadStates, KnowsDepths, KnowsNesting}
use Rattle.dh_grammar.specs.Machine.{need, have, wait, done, stopped}
use Rattle.dh_grammar.specs.Trees.{State, after, close, gap_at, written}
use Rattle.dh_grammar.specs.Running.{IsRunning, run, runs, step, steps, spelled, runs_on}
use Rattle.dh_grammar.specs.Inside.Valid.{Valid}
use Rattle.dh_grammar.proofs.Grammar.Completeness.{reads}
use Rattle.dh_grammar.proofs.Grammar.ReadLists.{part_then}
use Rattle.dh_grammar.proofs.Grammar.ReadTokens.{read_on}
use Rattle.dh_grammar.proofs.Grammar.Leading.{Reads}
use Rattle.dh_grammar.proofs.Grammar.Progress.{finishes}
use Rattle.dh_grammar.proofs.Grammar.Soundness.{after_leads}
use Rattle.dh_grammar.proofs.TruthValues.{by_test}

-- ---- runs

pub steps_stopped : (ts : List Token) → steps stopped ts ≡ stopped
steps_stopped [] = refl
steps_stopped (t ∷ ts) = ap (λ s. steps s ts) (by_test (λ s. s ≡ stopped) (not free || t.gap) stopped stopped (λ e. refl) (λ e. refl)) ∙ steps_stopped ts

runs_on_stopped : (ts : List Token) → runs_on stopped ts ≡ stopped
runs_on_stopped [] = refl
runs_on_stopped (t ∷ ts) = runs_on_stopped ts

was_running : (s : State) (ts : List Token) → IsRunning (runs_on s ts) → IsRunning s
was_running (need st) ts p = tt
was_running (have st x) ts p = tt
was_running (wait w st) ts p = tt
was_running (done d) ts p = tt
was_running stopped ts p = subst IsRunning (runs_on_stopped ts) p

pub was_stepping : (s : State) (ts : List Token) → IsRunning (steps s ts) → IsRunning s
was_stepping (need st) ts p = tt
was_stepping (have st x) ts p = tt
was_stepping (wait w st) ts p = tt
was_stepping (done d) ts p = tt
was_stepping stopped ts p = subst IsRunning (steps_stopped ts) p

pub steps-append : (s : State) (ts us : List Token) → steps s (ts ++ us) ≡ steps (steps s ts) us
steps-append s [] us = refl
steps-append s (t ∷ ts) us = steps-append (step s t) ts us

running_reads : (t : Text) (s : State) → IsRunning s → Reads t s → (r : List Written) → t r ≡ before s r
running_reads t (need st) p h = h
running_reads t (have st x) p h = h
running_reads t (wait w st) p h = h
running_reads t (done d) p h = h
running_reads t stopped p h = absurd p

-- ---- what is read is what is written

record HasRead (s : State) (ts : List Token) : Type 0 where
  pub valid : Valid (runs_on s ts)
  pub same : (r : List Written) → before s (spelled s ts ++ r) ≡ before (runs_on s ts) r

has_read : (s : State) (ts : List Token) → Valid s → IsRunning (runs_on s ts) → HasRead s ts
has_read s [] v p = record { valid = v; same = λ r. refl }
has_read s (t ∷ ts) v p =
    let h = after_leads t.kind s v in
    let rest = has_read (after t.kind s) ts h.0 p in
    let one = running_reads (λ r. before s (written s t.kind ∷ r)) (after t.kind s) (was_running (after t.kind s) ts p) h.1 in
    record { valid = rest.valid; same = λ r. one (spelled (after t.kind s) ts ++ r) ∙ rest.same r }

by_kinds : (ws : List Written) (ts : List Token) (s : State) → AreTokens ws ts → run s ws ≡ runs_on s ts
by_kinds [] [] s h = refl
by_kinds [] (t ∷ ts) s h = absurd h
by_kinds (w ∷ ws) [] s h = absurd h
by_kinds (w ∷ ws) (t ∷ ts) s h = ap (λ k. run (after k s) ws) (sym h.0.0) ∙ by_kinds ws ts (after t.kind s) h.1

with_gaps : (ts : List Token) (s : State) → AreTokens (spelled s ts) ts → steps s ts ≡ runs_on s ts
with_gaps [] s h = refl
with_gaps (t ∷ ts) s h = ap (λ b. steps (if b then after t.kind s else stopped) ts) h.0.1 ∙ with_gaps ts (after t.kind s) h.1

pub record HasGaps (s : State) (ts : List Token) : Type 0 where
  pub is : steps s ts ≡ runs_on s ts
  pub gaps : AreTokens (spelled s ts) ts

first_gap : (t : Token) (ts : List Token) (s : State) (b : Bool) → (not (gap_at s t.kind) || t.gap) ≡ b → IsRunning (steps (if b then after t.kind s else stopped) ts) → (IsRunning (steps (after t.kind s) ts) → HasGaps (after t.kind s) ts) → HasGaps s (t ∷ ts)
first_gap t ts s true e p f = let h = f p in record { is = ap (λ b. steps (if b then after t.kind s else stopped) ts) e ∙ h.is; gaps = ((refl, e), h.gaps) }
first_gap t ts s false e p f = absurd (subst IsRunning (steps_stopped ts) p)

pub has_gaps : (ts : List Token) (s : State) → IsRunning (steps s ts) → HasGaps s ts
has_gaps [] s p = record { is = refl; gaps = tt }
has_gaps (t ∷ ts) s p = first_gap t ts s (not (gap_at s t.kind) || t.gap) refl p (has_gaps ts (after t.kind s))

reads_text : (d : Derivation) → IsTrue (derived d) → run (need []) (text_yield d) ≡ done d
reads_text d h = part_then (need []) (yield 1 free d) [] (token 0 free kinds.End) (done d) (read_on kinds.End 0 (close kinds.End) _ [] d (λ st h. refl) (reads d [] 1 free 0 h (omega arith) (omega arith)))

reads_derived : (ts : List Token) (d : Derivation) → Derives ts d → runs_on (need []) ts ≡ done d
reads_derived ts d h = sym (by_kinds (text_yield d) ts (need []) h.written) ∙ reads_text d h.derived

done_writes : (ts : List Token) (d : Derivation) → runs_on (need []) ts ≡ done d → (text_yield d ≡ spelled (need []) ts) × IsTrue (derived d)
done_writes ts d e =
    let h = has_read (need []) ts tt (subst IsRunning (sym e) tt) in
    (sym (sym (append-nil (spelled (need []) ts)) ∙ h.same [] ∙ ap (λ s. before s []) e ∙ append-nil (text_yield d)), subst Valid e h.valid)

pub knows_depths : KnowsDepths
knows_depths ts d h = (done_writes ts d (reads_derived ts d h)).0

derives_steps : (ts : List Token) (d : Derivation) → Derives ts d → steps (need []) ts ≡ done d
derives_steps ts d h = with_gaps ts (need []) (subst (λ ws. AreTokens ws ts) (knows_depths ts d h) h.written) ∙ reads_derived ts d h

steps_derive : (ts : List Token) (d : Derivation) → steps (need []) ts ≡ done d → Derives ts d
steps_derive ts d e =
    let g = has_gaps ts (need []) (subst IsRunning (sym e) tt) in
    let w = done_writes ts d (sym g.is ∙ e) in
    record { derived = w.1; written = subst (λ ws. AreTokens ws ts) (sym w.0) g.gaps }

pub accepts : Accepts
accepts ts d = (steps_derive ts d, derives_steps ts d)

done_is : (d e : Derivation) → ◌≡◌ {A = State} (done d) (done e) → d ≡ e
done_is d e h = cc

pub derivation_is_unique : DerivationIsUnique
derivation_is_unique ts d e h k = done_is d e (sym (derives_steps ts d h) ∙ derives_steps ts e k)

-- ---- no dead states

all_spaced : List TokenKind → List Token
all_spaced [] = []
all_spaced (k ∷ ks) = record { kind = k; from = 0; to = 0; gap = true } ∷ all_spaced ks

or_true : (b : Bool) → (b || true) ≡ true
or_true true = refl
or_true false = refl

steps_spaced : (ks : List TokenKind) (s : State) → steps s (all_spaced ks) ≡ runs s ks
unfolding all_spaced
steps_spaced [] s = refl
steps_spaced (k ∷ ks) s = ap (λ b. steps (if b then after k s else stopped) (all_spaced ks)) (or_true (not (gap_at s k))) ∙ steps_spaced ks (after k s)

running_prefix : (ts : List Token) → IsRunning (steps (need []) ts) → IsPrefixOfDerived ts
running_prefix ts p =
    let g = has_gaps ts (need []) p in
    let v = subst Valid (sym g.is) (has_read (need []) ts tt (subst IsRunning g.is p)).valid in
    let f = finishes (steps (need []) ts) v p in
    record { more = all_spaced f.more; tree = f.tree; derives = steps_derive (ts ++ all_spaced f.more) f.tree (steps-append (need []) ts (all_spaced f.more) ∙ steps_spaced f.more (steps (need []) ts) ∙ f.ends) }

prefix_running : (ts : List Token) → IsPrefixOfDerived ts → IsRunning (steps (need []) ts)
prefix_running ts h =
    was_stepping (steps (need []) ts) h.more (subst IsRunning (sym (derives_steps (ts ++ h.more) h.tree h.derives) ∙ steps-append (need []) ts h.more) tt)

pub no_dead_states : NoDeadStates
no_dead_states ts = (running_prefix ts, prefix_running ts)

-- ---- how many expressions stand open

spelled-take : (ts us : List Token) (s : State) → take (length ts) (spelled s (ts ++ us)) ≡ spelled s ts
spelled-take [] us s = refl
spelled-take (t ∷ ts) us s = ap (λ ws. written s t.kind ∷ ws) (spelled-take ts us (after t.kind s))

opened : (ts more : List Token) (d : Derivation) → Derives (ts ++ more) d → opens_too_many (take (length ts) (text_yield d)) ≡ opens_too_many (spelled (need []) ts)
opened ts more d h = ap (λ ws. opens_too_many (take (length ts) ws)) (knows_depths (ts ++ more) d h) ∙ ap opens_too_many (spelled-take ts more (need []))

pub opens_at : (ts : List Token) → IsRunning (steps (need []) ts) → IsTrue (opens_too_many (spelled (need []) ts)) → OpensTooMany ts
opens_at ts p e =
    let h = running_prefix ts p in
    record { more = h.more; tree = h.tree; derives = h.derives; many_open = opened ts h.more h.tree h.derives ∙ e }

pub opens_only : (ts : List Token) → OpensTooMany ts → IsTrue (opens_too_many (spelled (need []) ts))
opens_only ts h = sym (opened ts h.more h.tree h.derives) ∙ h.many_open

pub knows_nesting : KnowsNesting
knows_nesting ts p = (opens_at ts p, opens_only ts)
