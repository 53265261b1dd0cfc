-- Runs of any of the machines, and what they come to.
use Rattle.std.specs.Prelude.{ℕ, suc, Bool, true, false, not, nat_lt, ◌||◌, if◌then◌else◌, List, [], ◌∷◌}
use Rattle.dh_syntax.specs.declared.tokens.Token.{Token}
use Rattle.dh_syntax.specs.Limits.{most_open}
use Rattle.dh_grammar.specs.Making.{Sorts, Making}
use Rattle.dh_grammar.specs.Machine.{State, done, stopped, after, gap_at, depth_at}

-- what is read, or why not
pub data Outcome (A : Type 0) : Type 0 where
  accepted : A → Outcome A
  -- the tokens end too early
  unfinished : Outcome A
  -- a token cannot stand at this offset
  refused : ℕ → Outcome A
  -- too many expressions stand open
  nested : Outcome A

-- a function applied to what is accepted
abbrev pub outcome_map : {A B : Type 0} → (A → B) → Outcome A → Outcome B
outcome_map f (accepted a) = accepted (f a)
outcome_map f unfinished = unfinished
outcome_map f (refused n) = refused n
outcome_map f nested = nested

-- whether a state is not stopped
abbrev pub runs_still : {K : Sorts} → State K → Bool
runs_still stopped = false
runs_still s = true

-- the outcome where the tokens end
abbrev pub outcome_of : {K : Sorts} → State K → Outcome (K.tree)
outcome_of (done x) = accepted x
outcome_of s = unfinished

module _ {K : Sorts} (m : Making K) where
  -- a token read, if the white space that it needs is there
  abbrev pub step : State K → Token → State K
  step s t = if not (gap_at s t.kind) || t.gap then after m t.kind s else stopped

  -- the outcome at the first token that has a fault: one that cannot stand there is refused, one that can is counted
  abbrev pub reading : State K → List Token → Outcome (K.tree)
  reading s [] = outcome_of s
  reading s (t ∷ ts) =
      let on = reading (step s t) ts in
      if runs_still (step s t) then (if nat_lt most_open (depth_at s t.kind) then nested else on) else refused t.from

module _ {K : Sorts} (m : ℕ → Making K) where
  -- the same, where what a step makes depends on the number of the token that it reads
  abbrev pub reading_at : ℕ → State K → List Token → Outcome (K.tree)
  reading_at n s [] = outcome_of s
  reading_at n s (t ∷ ts) =
      let on = reading_at (suc n) (step (m n) s t) ts in
      if runs_still (step (m n) s t) then (if nat_lt most_open (depth_at s t.kind) then nested else on) else refused t.from
