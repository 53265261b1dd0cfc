-- What one task adds to the counts of a worker.
use Rattle.std.proofs.Common.{◌≡◌, ℕ, ◌+◌, ◌-◌, ◌^◌, ◌<◌, ◌≤◌, ◌⊎◌, inl, inr, Bool, true, false, refl, ap, arith}
use Rattle.std.proofs.lemmas.Bool.{false≢true}
use Rattle.std.specs.Prelude.{if◌then◌else◌, List, Option}
use Rattle.dh_syntax.specs.declared.locations.Digest.{Digest}
use Rattle.dh_ports.specs.Counts.{Rose}
use Rattle.dh_record.specs.Brought.{brings_failure, news_of}
use Rattle.dh_record.specs.declared.news.News.{News}
use Rattle.dh_shared.specs.Held.{Held}
use Rattle.dh_work.specs.Brings.{TellsFailure}
use Rattle.dh_session.specs.Inside.{failures_told, Goes}
use Rattle.dh_session.specs.Works.{AtLast, Fails}

-- a failure that is told is a fault
one_failure : (fails : Bool) (before after failed failed' : ℕ) → (fails ≡ true → Rose before after) → before ≤ after → failed' ≤ failed + (if fails then 1 else 0)
    → AtLast after ⊎ (failed' + before ≤ failed + after)
one_failure false before after failed failed' rose grew more = inr (omega arith)
one_failure true before after failed failed' rose grew more = go (rose refl)
  where
    go : Rose before after → AtLast after ⊎ (failed' + before ≤ failed + after)
    go (inl lt) = inr (omega (arith, lt, more))
    go (inr last) = inl (let e = last.1 in omega (arith, e))

pub fails_by : (n : News) (before after : ℕ) (old new : Held) → before ≤ after → TellsFailure n before after → new.failed ≤ old.failed + failures_told n → Fails before after old new
fails_by n before after old new grew tells more = (grew, one_failure (brings_failure (news_of n)) before after old.failed new.failed tells grew more)

-- without news no failure is told
pub fails_none : (before after : ℕ) (old new : Held) → before ≤ after → new.failed ≤ old.failed → Fails before after old new
fails_none before after old new grew more = (grew, inr (omega arith))

-- faults and failures of one task after another
pub fails_after : (a b c : ℕ) (h i j : Held) → Fails a b h i → Fails b c i j → Fails a c h j
fails_after a b c h i j (p, inl last) (q, s) = (omega arith, inl (omega arith))
fails_after a b c h i j (p, inr le) (q, inl last) = (omega arith, inl last)
fails_after a b c h i j (p, inr le) (q, inr le') = (omega arith, inr (omega arith))

-- a claim that changes nothing does not find the run over
pub same_overs : (h i : Held) → i ≡ h → i.overs ≡ h.overs + 0
same_overs h i same = omega (arith, ap (λ (k : Held). k.overs) same)

-- a worker that did not begin
pub rests : (asked faults : ℕ) (filed : Option (List (Digest × List ℕ))) (h : Held) → Goes false asked asked faults faults filed filed h h
rests asked faults filed h = record {
  over = λ e. absurd (false≢true e);
  early = λ e. (refl, omega arith);
  frees = λ e. absurd (false≢true e);
  delivers = λ e. absurd (false≢true e);
  asks = λ e. absurd (false≢true e);
  fails = (omega arith, inr (omega arith));
  files = refl;
}
