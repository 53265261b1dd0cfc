-- The text that an input is, where no more of it is read than one byte past what a script may have.
use Rattle.std.proofs.Common.{◌≡◌, ◌∙◌, inl, inr, ℕ, ◌≤◌, List, [], ◌∷◌, length, map, take, Option, Some, None, IfSome, refl, ap, subst, arith, length-take, take_all}
use Rattle.std.specs.List.{slice_get}
use Rattle.std.specs.Io.KnownBytes.{Consumes}
use Rattle.dh_command.specs.declared.statuses.Status.{Status}
use Rattle.dh_script.specs.declared.faults.ScriptFault.{ScriptFault}
use Rattle.dh_script.specs.declared.faults.ScriptFault.TheVariants as faults
use Rattle.dh_script.specs.Faults.{IsRefused}
use Rattle.dh_streams.specs.Streams.{Input, IsLeft, IsTaken, Output, most_read, reading}
use Rattle.dh_syntax.specs.Limits.{most_bytes}
use Rattle.dh_watch_laws.specs.ScriptLines.{IsScript, Order}
use Rattle.dh_watching.specs.Inside.Read as inside
use Rattle.dh_watching.specs.Inside.Read.{FollowsOrders, FollowsText, ToldFault}
use Rattle.dh_watching.specs.Runs as runs
use Rattle.dh_watching.specs.Runs.{Runs}
use Rattle.dh_watching.specs.Steps.{State}

-- ---- a text of which the first bytes were read

module _ (text bytes : List ℕ) (first : bytes ≡ take most_read text) where
  same_if_small : length bytes ≤ most_bytes → bytes ≡ text
  same_if_small h =
      let cut = ap length first ∙ length-take most_read text in
      first ∙ take_all most_read text (omega (arith, cut, h))

  script_of : {orders : List Order} → IsScript bytes orders → IsScript text orders
  script_of {orders} s = subst (λ t. IsScript t orders) (same_if_small s.small) s

  refused_of : (f : ScriptFault) → IsRefused bytes f → IsRefused text f
  refused_of faults.TooLarge h = let cut = ap length first ∙ length-take most_read text in omega (arith, cut, h)
  refused_of (faults.NotUtf8 at) h = subst (λ t. IsRefused t (faults.NotUtf8 at)) (same_if_small h.0) h
  refused_of (faults.Line n) h = subst (λ t. IsRefused t (faults.Line n)) (same_if_small h.0.0) h
  refused_of faults.Memory h = tt

-- ---- runs without words

module _ (words : List (List ℕ)) (none : words ≡ []) (a b : State) (out err : Output) (s : Status) where
  runs_of : (input : Input) (text : List ℕ) → IsTaken text input → FollowsText text a b out err s → Runs words input a b out err s
  runs_of input text taken (inside.ends orders script e) = runs.follows text orders none taken script e
  runs_of input text taken (inside.no_script f refused same d) = runs.refuses _ (runs.no_script text f none taken refused refl) same d
  runs_of input text taken (inside.lacks same d) = runs.refuses _ (runs.lacks_memory none refl) same d

  follows_whole : (text bytes : List ℕ) → bytes ≡ take most_read text → FollowsText bytes a b out err s → FollowsText text a b out err s
  follows_whole text bytes first (inside.ends orders script e) = inside.ends orders (script_of text bytes first script) e
  follows_whole text bytes first (inside.no_script f refused same d) = inside.no_script f (refused_of text bytes first f refused) same d
  follows_whole text bytes first (inside.lacks same d) = inside.lacks same d

  pub follows_read : (before after : Option (List ℕ)) (f g : ℕ) (bytes : List ℕ) → Consumes before after bytes → IfSome before (λ left. bytes ≡ take most_read left) → g ≡ f
      → FollowsText bytes a b out err s → Runs words (reading before after f g) a b out err s
  follows_read None after f g bytes p first quiet k = runs_of (reading None after f g) bytes (tt, tt, quiet) k
  follows_read (Some left) after f g bytes p first quiet k =
      runs_of (reading (Some left) after f g) left (refl, subst (Consumes (Some left) after) first p, quiet) (follows_whole left bytes first k)

  -- the same of a slice of the bytes
  pub follows_slice : (before after : Option (List ℕ)) (f g : ℕ) (bytes slice : List ℕ) → slice ≡ bytes → Consumes before after bytes
      → IfSome before (λ left. bytes ≡ take most_read left) → g ≡ f → FollowsText slice a b out err s → Runs words (reading before after f g) a b out err s
  follows_slice before after f g bytes slice same p first quiet k = follows_read before after f g bytes p first quiet (subst (λ t. FollowsText t a b out err s) same k)

module _ (text : List ℕ) (a b : State) (out err : Output) (s : Status) where
  pub text_of_orders : (orders : List Order) → IsScript text orders → FollowsOrders orders a b out err s → FollowsText text a b out err s
  text_of_orders orders script (inl e) = inside.ends orders script e
  text_of_orders orders script (inr (same, d)) = inside.lacks same d

  pub text_refused : (f : ScriptFault) → IsRefused text f → b ≡ a → ToldFault f out err s → FollowsText text a b out err s
  text_refused f refused same (inl d) = inside.no_script f refused same d
  text_refused f refused same (inr d) = inside.lacks same d

-- ---- words

pub no_words : {W : Type 0} (text : W → List ℕ) (ws : List W) → None ≡ slice_get ws 0 → map text ws ≡ []
no_words text [] e = refl
no_words text (w ∷ ws) e = cc

pub some_words : {W : Type 0} (text : W → List ℕ) (ws : List W) (w : W) → Some w ≡ slice_get ws 0 → ¬ (map text ws ≡ [])
some_words text [] w h e = cc
some_words text (v ∷ ws) w h e = cc

-- an input that is not read
pub left_alone : (w : Option (List ℕ)) (f : ℕ) → IsLeft (reading w w f f)
left_alone None f = (tt, refl)
left_alone (Some x) f = (refl, refl)
