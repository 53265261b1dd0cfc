-- What a run of the command writes with a cache that was honestly written.
use Rattle.std.specs.Prelude.{◌≡◌, ℕ, IsTrue, List, [], ◌∷◌, Some, None, Ok}
use Rattle.dh_command.specs.declared.commands.Command.{Command}
use Rattle.dh_syntax.specs.declared.locations.Key.{Key}
use Rattle.dh_syntax.specs.declared.locations.Loc.{Loc}
use Rattle.dh_imports.specs.declared.outcomes.Why.{Why}
use Rattle.dh_command.specs.declared.statuses.Status.{Status}
use Rattle.dh_command.specs.declared.statuses.Status.TheVariants as status
use Rattle.dh_command.specs.declared.verbs.Verb.{Verb}
use Rattle.dh_command.specs.Responses.{Response}
use Rattle.dh_command.specs.Answer.{Does}
use Rattle.dh_command.specs.Statuses.{why_status}
use Rattle.dh_command.specs.Words.{Word, command_of, operand_words, resolves}
use Rattle.dh_syntax.specs.Expressions.Tree.{Term}
use Rattle.dh_imports.specs.Records.{Record, Noted, text_at, limit_at}
use Rattle.dh_imports.specs.Resolver.{resolve}
use Rattle.dh_imports.specs.Walk.{walk}
use Rattle.dh_syntax.specs.Text.Spelling.{ParsesTo}
use Rattle.dh_top.specs.Outside.{Outside}
use Rattle.dh_streams.specs.Streams.{Input, Output, Gains}
use Rattle.dh_top.specs.Runs.{Runs, Makes, answers, generates, cannot_read, lacks_memory}
use Rattle.dh_cache_laws.specs.WarmAnswers.{AreSameLines}
use Rattle.dh_imports.specs.HonestCache.{AreHonest}
use Rattle.dh_import_laws.specs.ImportLaws.{IsDecided}

-- The run that found this had a cache that was honestly written: with so much to spend its root is decided, and the good entries
-- that it asks by then are what the resolver gives over a record without good entries, which says the same of each location where
-- both say something.
pub record IsHonestRun (r : Record) (root : Term) (plain : Record) : Type 0 where
  pub texts : (l : Loc) (t u : Noted) → text_at plain l ≡ Some t → text_at r l ≡ Some u → u ≡ t
  pub limits : (k : Key) (w : Why) → limit_at plain k ≡ Some w → why_status w ≡ status.Limit
  pub spend : ℕ
  pub decided : IsDecided (walk None (resolve r spend []) root)
  pub honest : AreHonest r (resolve r spend []) root plain

-- Without a cache the command with these operands answers this text by status 0 and these bytes, over a record by which the cache
-- of the run was honestly written.
pub record HasPlainRun (v : Verb) (ops : List Word) (text : List ℕ) (r : Record) (bytes : List ℕ) : Type 0 where
  pub plain : Record
  pub honest : (root : Term) → ParsesTo text (Ok root) → IsHonestRun r root plain
  pub answer : Response
  pub does : Does v ops text plain answer
  pub succeeds : answer.status ≡ status.Ok
  pub writes : answer.out ≡ bytes

-- the same of the record of a run, if it has one record
abbrev pub HasPlainRunOf : Verb → List Word → List ℕ → List Record → List ℕ → Type 0
HasPlainRunOf v ops text rs bytes = (r : Record) → rs ≡ r ∷ [] → HasPlainRun v ops text r bytes

-- the run ends by one of these, unless it names a limit
pub data EndsWarmly : Status → Type 0 where
  well : EndsWarmly status.Ok
  unread : EndsWarmly status.Read
  unwritten : EndsWarmly status.Write
  lacking : EndsWarmly status.Memory

-- the outputs grew by what is written without the cache, but for the names of binders
pub record WritesSame (v : Verb) (bytes : List ℕ) (out err : Output) : Type 0 where
  pub written : List ℕ
  pub gains : Gains out written
  pub quiet : Gains err []
  pub same : AreSameLines v bytes written

-- this is the text that is answered, if one is
abbrev pub Answers : {words : List Word} {input : Input} {o : Outside} {rs : List Record} {w : Response} → Makes words input o rs w → List ℕ → Type 0
Answers (answers t h f q) text = t ≡ text
Answers (generates c n r asked h g named one left alone s a) text = Unit {0}
Answers (cannot_read c h rose alone q) text = Unit {0}
Answers (lacks_memory h q) text = Unit {0}

-- Where the command would succeed without the cache on the text that a run with it answers, the run ends well unless a device fails,
-- memory is wanting or it names a limit; and then it writes the same, but for the names of binders.
abbrev pub RunsWarmly : List Word → Input → Outside → Output → Output → Status → Type 0
RunsWarmly words input o out err s =
    (run : Runs words input o out err s) (c : Command) (text bytes : List ℕ)
    → command_of words ≡ Ok c → IsTrue (resolves c.verb) → Answers run.makes text → HasPlainRunOf c.verb (operand_words words) text run.found bytes → ¬ (s ≡ status.Limit)
    → EndsWarmly s × (s ≡ status.Ok → WritesSame c.verb bytes out err)

-- wherever the command would succeed without the cache and no limit is named, a run that ends well writes the same but for binder names
abbrev pub WarmRunsOn : Type 0
WarmRunsOn = (words : List Word) (input : Input) (o : Outside) (out err : Output) (s : Status) → RunsWarmly words input o out err s

-- The same where the input tells its text.
abbrev pub WarmRuns : Type 0
WarmRuns =
    (words : List Word) (input : Input) (o : Outside) (out err : Output) (s : Status) (run : Runs words input o out err s) (c : Command) (text bytes : List ℕ)
    → command_of words ≡ Ok c → IsTrue (resolves c.verb) → input.before ≡ Some text → HasPlainRunOf c.verb (operand_words words) text run.found bytes → ¬ (s ≡ status.Limit)
    → EndsWarmly s × (s ≡ status.Ok → WritesSame c.verb bytes out err)
