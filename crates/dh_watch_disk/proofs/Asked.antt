-- Locations that are asked one after the other, with what is shown of them.
use Rattle.std.proofs.Common.{◌≡◌, ℕ, ◌+◌, ◌≤◌, true, false, List, [], ◌∷◌, ◌++◌, Option, Some, Ok, Err, sym, subst, arith, refl}
use Rattle.std.specs.List.{slice_get}
use Rattle.std.specs.Str.{bytes_eq}
use Rattle.dh_ports.specs.Counts.{Rose}
use Rattle.dh_streams.specs.Streams.{Gains, Output, Stops, output}
use Rattle.dh_streams.proofs.Joining.{gains-both, gains-nothing, gains-stops}
use Rattle.dh_syntax.specs.declared.locations.Loc.{Loc}
use Rattle.dh_watching.specs.declared.watches.Line.{Line}
use Rattle.dh_watching.specs.declared.watches.WatchFault.{WatchFault}
use Rattle.dh_watching.specs.declared.watches.WatchFault.TheVariants as faults
use Rattle.dh_watching.specs.Steps as steps
use Rattle.dh_watching.specs.Steps.{AsksOneMore, IsAnswer, IsRefusal, State, refusal_of}
use Rattle.dh_watch_disk.specs.declared.told.Told.{Told}
use Rattle.dh_watch_disk.specs.declared.told.Told.TheVariants as tolds
use Rattle.dh_watch_disk.specs.declared.told.Halt.{Halt}
use Rattle.dh_watch_disk.specs.declared.told.Halt.TheVariants as halts
use Rattle.dh_watch_disk.specs.Showing.{begins, goes_on, IsTold, shown, told_line, told_text}
use Rattle.dh_watch_disk.specs.Inside.Rounds.{AfterAsk, HasAsked, HasHalted}

-- ---- one location

module _ (a b : State) (l : Loc) (told : b.told ≡ a.told) (le : a.faults ≤ b.faults) where
  pub answered : (line : Line) → IsAnswer a.told a.kept l b.kept line → b.asked ≤ a.asked + line.asked → IsTold a b l (tolds.Line line)
  answered line is most = steps.answers l line is told most le

  pub refused : (f : WatchFault) → IsRefusal a.told a.kept l b.kept f → AsksOneMore a.kept b.kept a.asked b.asked → (f ≡ faults.Failed → Rose a.faults b.faults)
      → IsTold a b l (tolds.Refused f)
  refused f is most fails = steps.refuses l f is told most le fails

-- where the same text was told before, nothing is shown, and else the line
pub shown_same : (l : Loc) (before now : Told) → true ≡ bytes_eq (told_text before) (told_text now) → shown l (Some before) now ≡ []
shown_same l before now e = rw (sym e) refl

pub shown_other : (l : Loc) (before now : Told) → false ≡ bytes_eq (told_text before) (told_text now) → shown l (Some before) now ≡ told_line l now
shown_other l before now e = rw (sym e) refl

-- ---- many

module _ (locs : List Loc) (before : List Told) where
  pub nothing_asked : (a : State) (w : Option (List ℕ)) (f : ℕ) → HasAsked locs before a a 0 (output w w f f) []
  nothing_asked a w f = record { bytes = []; asks = begins; gains = gains-nothing w f }

  module _ (a b c : State) (n : ℕ) (now : List Told) (w0 w1 w2 : Option (List ℕ)) (f0 f1 f2 : ℕ) (h : HasAsked locs before a b n (output w0 w1 f0 f1) now) (l : Loc) (at : slice_get locs n ≡ Some l) where
    module _ (p : Option Told) (same : p ≡ slice_get before n) where
      -- one more is asked
      pub one_asked : (t : Told) → AfterAsk b c l p (output w1 w2 f1 f2) (Ok t) → HasAsked locs before a c (n + 1) (output w0 w2 f0 f2) (now ++ t ∷ [])
      one_asked t k = record {
        bytes = h.bytes ++ shown l (slice_get before n) t;
        asks = goes_on l t h.asks at k.0;
        gains = gains-both w0 w1 w2 f0 f1 f2 h.bytes (shown l (slice_get before n) t) h.gains (subst (λ q. Gains (output w1 w2 f1 f2) (shown l q t)) same k.1);
      }

      -- and there it halts
      pub ask_halted : (halt : Halt) → AfterAsk b c l p (output w1 w2 f1 f2) (Err halt) → HasHalted locs before a c (output w0 w2 f0 f2) halt
      ask_halted halts.Cut (t, told, stops) = record {
        n = n + 1;
        last = c;
        now = now ++ t ∷ [];
        bytes = h.bytes ++ shown l (slice_get before n) t;
        asks = goes_on l t h.asks at told;
        writes = gains-stops w0 w1 w2 f0 f1 f2 h.bytes (shown l (slice_get before n) t) h.gains (subst (λ q. Stops (output w1 w2 f1 f2) (shown l q t)) same stops);
        halting = refl;
      }
      ask_halted halts.Failed k = absurd k
      ask_halted halts.Memory k = absurd k

  -- it halts for want of memory, after this
  pub halted_after : (a b : State) (n : ℕ) (now : List Told) (out : Output) → HasAsked locs before a b n out now → HasHalted locs before a b out halts.Memory
  halted_after a b n now out h = record { n = n; last = b; now = now; bytes = h.bytes; asks = h.asks; writes = h.gains; halting = omega arith }
