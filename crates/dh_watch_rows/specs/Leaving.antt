-- What is kept after texts were taken away, and what a sweep leaves of it.
use Rattle.std.specs.Prelude.{◌≡◌}
use Rattle.dh_watch_laws.specs.Kept.{Kept, IsSound}
use Rattle.dh_watch_laws.specs.Sweeping.{AreOf, swept}

-- texts are gone from what was sound, and nothing else
pub record IsLeft (s : Kept) : Type 0 where
  pub whole : Kept
  pub sound : IsSound whole
  pub texts : AreOf s.recorded.texts whole.recorded.texts
  pub looks : s.recorded.looks ≡ whole.recorded.looks
  pub limits : s.recorded.limits ≡ whole.recorded.limits
  pub outcomes : s.outcomes ≡ whole.outcomes

-- the outcomes whose last step is still due, with their limits
abbrev pub swept_now : Kept → Kept
swept_now s = swept s.recorded.texts s
