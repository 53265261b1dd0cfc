-- Worked histories of the table.
use Rattle.std.specs.Prelude.{◌≡◌, List, [], ◌∷◌, None, refl}
use Rattle.dh_examples.specs.Imports.ImportExamples.{a_, b_, code, import, one, says}
use Rattle.dh_imports.specs.LastStep.{Code}
use Rattle.dh_imports.specs.Machine.{stage_of, root_walk, Event, Claim, Fetched, Finished, Cycled, after_all, Fetch, Finish}
use Rattle.dh_imports.specs.Outcomes.{Good}
use Rattle.dh_imports.specs.declared.outcomes.Origin.TheVariants as origins
use Rattle.dh_imports.specs.Replay as replay
use Rattle.dh_imports.specs.Replay.{steps, keys, distinct, fetching, finishing}
use Rattle.dh_imports.specs.Resolver.{Has, Meets, Waits}
use Rattle.dh_imports.specs.Walk.{Ready, Turns}

-- the text `1` is fetched for `./a`, and the key is finished
abbrev one_text : List Event
one_text =
    Finished 2 (code a_) (Has (Code one None)) None (Good one (origins.Fetched None)) ∷ Claim 0 (Finish (code a_)) ∷ Fetched 1 a_ (says one)
    ∷ Claim 0 (Fetch a_) ∷ []

ready : root_walk (after_all (import a_) one_text) ≡ Ready one
ready = refl

history : steps (import a_) one_text ≡ replay.Claim 0 fetching 1 ∷ replay.Fetched 1 ∷ replay.Claim 0 finishing 2 ∷ replay.Finished 2 ∷ []
history = refl

-- `./a` is `./b`, and `./b` is `./a`: both texts are there, and each key waits for the other
abbrev two_texts : List Event
two_texts = Fetched 2 b_ (says (import a_)) ∷ Claim 0 (Fetch b_) ∷ Fetched 1 a_ (says (import b_)) ∷ Claim 0 (Fetch a_) ∷ []

a_waits : stage_of (after_all (import a_) two_texts) (code a_) ≡ Waits (code b_)
a_waits = refl

b_waits : stage_of (after_all (import a_) two_texts) (code b_) ≡ Waits (code a_)
b_waits = refl

-- once the loop is marked the root has it, and the finish of the other key is due
root_turns : root_walk (after_all (import a_) (Cycled (code a_) ∷ two_texts)) ≡ Turns (code a_)
root_turns = refl

b_meets : stage_of (after_all (import a_) (Cycled (code a_) ∷ two_texts)) (code b_) ≡ Meets (code a_)
b_meets = refl

known_keys : distinct (keys (after_all (import a_) two_texts)) ≡ code a_ ∷ code b_ ∷ []
known_keys = refl
