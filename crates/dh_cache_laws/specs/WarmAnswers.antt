-- What a command writes with a cache that was honestly written, and without a cache.
use Rattle.std.specs.Prelude.{◌≡◌, ℕ, IsTrue, List, [], Ok}
use Rattle.dh_command.specs.declared.statuses.Status.TheVariants as status
use Rattle.dh_command.specs.declared.verbs.Verb.{Verb}
use Rattle.dh_command.specs.declared.verbs.Verb.TheVariants as verb
use Rattle.dh_command.specs.Responses.{Response, line}
use Rattle.dh_command.specs.Answer.{Does}
use Rattle.dh_command.specs.Words.{Word, resolves}
use Rattle.dh_syntax.specs.Expressions.Tree.{Term}
use Rattle.dh_imports.specs.Records.{Record}
use Rattle.dh_syntax.specs.Names.Alpha.{IsSame}
use Rattle.dh_syntax.specs.Text.Printed.{text_of}
use Rattle.dh_syntax.specs.Text.Spelling.{ParsesTo}
use Rattle.dh_cache_laws.specs.WarmCache.{IsWarm}

-- lines of two expressions that differ only in the names of their binders
pub record AreLinesOfSame (a b : List ℕ) : Type 0 where
  pub first : Term
  pub second : Term
  pub same : IsSame first second
  pub first_is : a ≡ line (text_of first)
  pub second_is : b ≡ line (text_of second)

-- `hash`, `to-json` and `freeze` write the same bytes; `resolve`, `type` and `normalize` write expressions that differ only in the
-- names of binders
abbrev pub AreSameLines : Verb → List ℕ → List ℕ → Type 0
AreSameLines verb.Encode a b = ⊥
AreSameLines verb.Decode a b = ⊥
AreSameLines verb.Resolve a b = AreLinesOfSame a b
AreSameLines verb.Type a b = AreLinesOfSame a b
AreSameLines verb.Normalize a b = AreLinesOfSame a b
AreSameLines verb.Hash a b = a ≡ b
AreSameLines verb.ToJson a b = a ≡ b
AreSameLines verb.Freeze a b = a ≡ b
AreSameLines verb.Steps a b = ⊥
AreSameLines verb.Gen a b = ⊥
AreSameLines verb.Explain a b = ⊥
AreSameLines verb.Help a b = ⊥
AreSameLines verb.Version a b = ⊥
AreSameLines verb.Batch a b = ⊥

-- Where the answer without the cache has the status 0, so has the answer over what the run found with the cache, unless that names a
-- limit, and both write the same but for the names of binders.
abbrev pub WarmAnswers : Type 0
WarmAnswers =
    (v : Verb) (ops : List Word) (text : List ℕ) (r plain : Record) (w p : Response) → IsTrue (resolves v)
    → ((root : Term) → ParsesTo text (Ok root) → IsWarm r root plain)
    → Does v ops text plain p → p.status ≡ status.Ok
    → Does v ops text r w → ¬ (w.status ≡ status.Limit)
    → (w.status ≡ status.Ok) × (w.err ≡ []) × AreSameLines v p.out w.out
