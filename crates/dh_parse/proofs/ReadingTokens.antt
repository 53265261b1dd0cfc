-- One token read of several.
use Rattle.std.proofs.Common.{◌≡◌, ℕ, suc, true, false, List, [], ◌∷◌, length, inl, inr, refl, ap, sym, ◌∙◌, subst}
use Rattle.std.specs.Prelude.{not, ◌||◌, ◌⊎◌, nat_lt, if◌then◌else◌}
use Rattle.dh_syntax.specs.Limits.{most_open}
use Rattle.dh_syntax.specs.declared.faults.ParseFault.TheVariants as faults
use Rattle.dh_syntax.specs.declared.tokens.Token.{Token}
use Rattle.dh_syntax.specs.declared.tokens.TokenKind.TheVariants as kinds
use Rattle.dh_reader.specs.States.{state_of}
use Rattle.dh_reader.specs.declared.frames.stack.Frames.{Frames}
use Rattle.dh_reader.specs.declared.tops.Held.{Held}
use Rattle.dh_reader.specs.declared.tops.Top.{Top}
use Rattle.dh_reader.specs.declared.tops.Top.TheVariants.{Need, Have, Wait, Done}
use Rattle.dh_reader.specs.declared.tops.Wait.{Wait as Waiting}
use Rattle.dh_grammar.proofs.Results.Ending.{end_ends}
use Rattle.dh_grammar.proofs.Results.ReadingSteps as law
use Rattle.dh_grammar.specs.Depths.{Within, opens_many}
use Rattle.dh_grammar.specs.Ends.{EndsLast, IsEnded}
use Rattle.dh_grammar.specs.Machine.{Sorts, Making, State, stopped, after, gap_at, depth_at}
use Rattle.dh_grammar.specs.Reading.{Outcome, refused, nested, runs_still, step, reading, reading_at}
use Rattle.dh_making.specs.Views.{Views}
use Rattle.dh_making.specs.declared.making.Makes.{Ghosts}
use Rattle.dh_parse.specs.Inside.Steps.{Reads, Refuses, EndsOn}

-- a state of the program is never stopped
pub runs : {M Tree Note Lets Chunks Items Alternatives Fields Entry Entries : Type 0} {K : Sorts} (v : Views Tree Note Lets Chunks Items Alternatives Fields Entry Entries K)
    {G : Ghosts M Tree Note Lets Chunks Items Alternatives Fields Entry Entries} (fs : Frames M Tree Note Lets Chunks Items Alternatives Fields Entry Entries G) (p : Top M Tree Note Lets Chunks Items Alternatives Fields Entry Entries) → runs_still (state_of v fs p) ≡ true
runs v fs Need = refl
runs v fs (Have h) = refl
runs v fs (Wait w) = refl
runs v fs (Done x) = refl

-- where the machine has ended, so has the program
pub awaits : {M Tree Note Lets Chunks Items Alternatives Fields Entry Entries : Type 0} {K : Sorts} (v : Views Tree Note Lets Chunks Items Alternatives Fields Entry Entries K)
    {G : Ghosts M Tree Note Lets Chunks Items Alternatives Fields Entry Entries} (fs : Frames M Tree Note Lets Chunks Items Alternatives Fields Entry Entries G) (p : Top M Tree Note Lets Chunks Items Alternatives Fields Entry Entries)
    → (p ≡ Need) ⊎ (((h : Held M Tree Note Lets Chunks Items Alternatives Fields Entry Entries) × (p ≡ Have h)) ⊎ ((w : Waiting M Tree Note Lets Chunks Items Alternatives Fields Entry Entries) × (p ≡ Wait w))) → IsEnded (state_of v fs p) → ⊥
awaits v fs p (inl e) h = subst (λ p. IsEnded (state_of v fs p)) e h
awaits v fs p (inr (inl (x, e))) h = subst (λ p. IsEnded (state_of v fs p)) e h
awaits v fs p (inr (inr (w, e))) h = subst (λ p. IsEnded (state_of v fs p)) e h

module _ {K : Sorts} (m : ℕ → Making K) where
  pub lacks_gap : (n : ℕ) (s : State K) (t : Token) → (not (gap_at s t.kind) || t.gap) ≡ false → Refuses m n s t (faults.Syntax t.from)
  lacks_gap n s t g = λ rest. law.lacks_gap_at m n s t rest g

  pub cannot_stand : (n : ℕ) (s : State K) (t : Token) → after (m n) t.kind s ≡ stopped → Refuses m n s t (faults.Syntax t.from)
  cannot_stand n s t e = λ rest. law.cannot_stand_at m n s t rest e

  pub opens_too_many : (n : ℕ) (s on : State K) (t : Token) → Within s → (not (gap_at s t.kind) || t.gap) ≡ true → after (m n) t.kind s ≡ on → runs_still on ≡ true → opens_many s t.kind ≡ true
      → Refuses m n s t faults.TooNested
  opens_too_many n s on t w g e r d = λ rest. law.opens_too_many_at m n s t rest on w g e r d

  pub goes_on : (n : ℕ) (s on : State K) (t : Token) → Within s → (not (gap_at s t.kind) || t.gap) ≡ true → after (m n) t.kind s ≡ on → runs_still on ≡ true → opens_many s t.kind ≡ false
      → Reads m n s t on
  goes_on n s on t w g e r d =
      record {
        goes_on = λ rest. (law.goes_on_at m n s t rest on w g e r d).0;
        within = (law.goes_on_at m n s t [] on w g e r d).1;
        ended = λ k. subst IsEnded (ap (λ k. after (m n) k s) (sym k) ∙ e) (end_ends (m n) s);
      }

  -- what a loop over the tokens reads
  pub reads_on : (n next : ℕ) (s on : State K) (t : Token) (left rest : List Token) (outcome : Outcome (K.tree)) → next ≡ suc n → left ≡ t ∷ rest → Reads m n s t on → reading_at m n s left ≡ outcome → reading_at m next on rest ≡ outcome
  reads_on n next s on t left rest outcome e l r h = ap (λ n. reading_at m n on rest) e ∙ sym (r.goes_on rest) ∙ ap (reading_at m n s) (sym l) ∙ h

-- ---- the end of the tokens

pub ends_first : {K : Sorts} (s : State K) (ts : List Token) → EndsLast ts → EndsOn s ts
ends_first s [] h = absurd h
ends_first s (t ∷ ts) h = h

pub ends_behind : {K : Sorts} (s on : State K) (t : Token) (ts : List Token) → EndsOn s (t ∷ ts) → (t.kind ≡ kinds.End → IsEnded on) → EndsOn on ts
ends_behind s on t [] h f = f h
ends_behind s on t (u ∷ us) h f = h

pub ends_so : {K : Sorts} (s : State K) (ts : List Token) → length ts ≡ 0 → EndsOn s ts → IsEnded s
ends_so s [] e h = h
ends_so s (t ∷ ts) e h = absurd cc

-- ---- the numbers of the tokens

-- where each token makes the same, their numbers do not matter
pub by_kinds : {K : Sorts} (k : Making K) (n : ℕ) (s : State K) (ts : List Token) → reading_at (λ i. k) n s ts ≡ reading k s ts
by_kinds k n s [] = refl
by_kinds k n s (t ∷ ts) =
    ap (λ r. if runs_still (step k s t) then (if nat_lt most_open (depth_at s t.kind) then nested else r) else refused t.from) (by_kinds k (suc n) (step k s t) ts)
