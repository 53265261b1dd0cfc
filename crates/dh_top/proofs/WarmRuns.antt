-- A run with a cache that was honestly written.
use Rattle.std.specs.Prelude.{◌≡◌, ℕ, true, IsTrue, IfSome, MatchBool, List, [], ◌∷◌, Option, Some, None, Result, Ok, Err, refl}
use Rattle.std.proofs.Common.{true≢false, ap, sym, ◌∙◌, subst}
use Rattle.dh_command.specs.declared.commands.Command.{Command}
use Rattle.dh_syntax.specs.declared.faults.NormFault.TheVariants as norms
use Rattle.dh_syntax.specs.declared.faults.TypeFault.TheVariants as types
use Rattle.dh_syntax.specs.declared.locations.Key.{Key}
use Rattle.dh_imports.specs.declared.outcomes.Why.{Why}
use Rattle.dh_imports.specs.declared.outcomes.Why.TheVariants as whys
use Rattle.dh_command.specs.declared.statuses.Status.{Status}
use Rattle.dh_command.specs.declared.statuses.Status.TheVariants as status
use Rattle.dh_command.specs.declared.verbs.Verb.{Verb}
use Rattle.dh_command.specs.declared.verbs.Verb.TheVariants as verb
use Rattle.dh_command.specs.Responses.{Response}
use Rattle.dh_command.specs.Answer.{CommandAnswer, usage, does, on_input, on_files, Does, nothing_found}
use Rattle.dh_command.specs.Words.{Word, command_of, operand_words, resolves, reads}
use Rattle.dh_command.specs.Statuses.{why_status}
use Rattle.dh_syntax.specs.Expressions.Tree.{Term}
use Rattle.dh_imports.specs.Records.{Record, limit_at, IsLimitOf}
use Rattle.dh_laws.proofs.KeyOrder.{none-some}
use Rattle.dh_top.specs.Outside.{Outside, IsFound, Shelving, Telling}
use Rattle.dh_streams.specs.Deliveries.{Delivers, whole, out_failed, err_failed}
use Rattle.dh_streams.specs.Streams.{Input, Output, Gains, IsTaken, IsLeft}
use Rattle.dh_top.specs.Runs.{IsRead, FindsFor, Makes, answers, generates, cannot_read, lacks_memory}
use Rattle.dh_cache_laws.specs.WarmAnswers.{AreSameLines}
use Rattle.dh_top.specs.WarmRuns as warm
use Rattle.dh_cache_laws.specs.WarmCache.{IsWarm}
use Rattle.dh_top.specs.WarmRuns.{IsHonestRun, HasPlainRun, HasPlainRunOf, EndsWarmly, WritesSame, WarmRunsOn, WarmRuns}
use Rattle.dh_imports.specs.Resolver.{resolve}
use Rattle.dh_cache_laws.proofs.WarmAnswers.{warm_answers}
use Rattle.dh_top.proofs.EachFound.{EachRecord, each_found}
use Rattle.dh_cache_laws.proofs.WarmRoots.{honest_entries}

pub ends-as : (s t : Status) → s ≡ t → EndsWarmly t → EndsWarmly s
ends-as s t p h = subst EndsWarmly (sym p) h

pub memory-ok : {A : Type 0} → status.Memory ≡ status.Ok → A
memory-ok h = absurd cc

pub read-ok : {A : Type 0} → status.Read ≡ status.Ok → A
read-ok h = absurd cc

pub write-ok : {A : Type 0} → status.Write ≡ status.Ok → A
write-ok h = absurd cc

abbrev pub command_in : Command → Result Command ℕ → Command
command_in e (Ok d) = d
command_in e (Err n) = e

abbrev pub IsCommand : Result Command ℕ → Type 0
IsCommand (Ok d) = Unit {0}
IsCommand (Err n) = ⊥

reads-too : (v : Verb) → IsTrue (resolves v) → reads v ≡ true
reads-too verb.Resolve h = refl
reads-too verb.Type h = refl
reads-too verb.Normalize h = refl
reads-too verb.Hash h = refl
reads-too verb.ToJson h = refl
reads-too verb.Freeze h = refl
reads-too verb.Encode h = refl
reads-too verb.Decode h = refl
reads-too verb.Steps h = refl
reads-too verb.Gen h = absurd cc
reads-too verb.Explain h = absurd cc
reads-too verb.Help h = absurd cc
reads-too verb.Version h = absurd cc
reads-too verb.Batch h = absurd cc

pub limit_of-status : (e : Term) (w : Why) → IsLimitOf e w → why_status w ≡ status.Limit
limit_of-status e (whys.Typing types.Wide) h = refl
limit_of-status e (whys.Typing types.Spent) h = refl
limit_of-status e (whys.Typing types.Deep) h = refl
limit_of-status e (whys.Typing (types.Ill f)) h = absurd h
limit_of-status e (whys.Typing types.Memory) h = absurd h
limit_of-status e (whys.Norm norms.Wide) h = refl
limit_of-status e (whys.Norm norms.Spent) h = refl
limit_of-status e (whys.Norm norms.Deep) h = refl
limit_of-status e (whys.Norm norms.Memory) h = absurd h
limit_of-status e (whys.Parse f) h = absurd h
limit_of-status e whys.Absent h = absurd h
limit_of-status e whys.Missing h = absurd h
limit_of-status e (whys.Broken n) h = absurd h
limit_of-status e whys.Https h = absurd h
limit_of-status e whys.Failed h = absurd h
limit_of-status e (whys.Differs wanted got) h = absurd h
limit_of-status e (whys.Insane l) h = absurd h
limit_of-status e (whys.Cors l) h = absurd h
limit_of-status e whys.Cycle h = absurd h
limit_of-status e whys.TooMany h = absurd h

-- what a run found for a limit is one
abbrev pub HasLimits : Record → Type 0
HasLimits r = (k : Key) (w : Why) → limit_at r k ≡ Some w → why_status w ≡ status.Limit

pub found-limits : (told : Telling) (shelved : Shelving) (r : Record) → IsFound told shelved r → HasLimits r
found-limits told shelved r f l w q = let limited = f.limits l w q in limit_of-status limited.code w limited.licensed

pub nothing-limits : HasLimits nothing_found
nothing-limits l w q = none-some refl q

pub warm-of : (r : Record) (root : Term) (plain : Record) → HasLimits r → IsHonestRun r root plain → IsWarm r root plain
warm-of r root plain limits h = record {
  agree = record { texts = h.texts; limits = limits; plain_limits = h.limits };
  spend = h.spend;
  decided = h.decided;
  entries = honest_entries r (resolve r h.spend []) root plain h.honest;
}

module _ (words : List Word) (input : Input) (o : Outside) (out err : Output) (s : Status) (rs : List Record) (w : Response) (c : Command) (text bytes : List ℕ)
    (hc : command_of words ≡ Ok c) (rv : IsTrue (resolves c.verb)) (p : HasPlainRunOf c.verb (operand_words words) text rs bytes) (free : ¬ (s ≡ status.Limit)) where
  abbrev Ends : Type 0
  Ends = EndsWarmly s × (s ≡ status.Ok → WritesSame c.verb bytes out err)

  unwritten : s ≡ status.Write → Ends
  unwritten h = (ends-as s status.Write h warm.unwritten, λ k. write-ok (sym h ∙ k))

  -- a response with another status
  early : (t : Status) → EndsWarmly t → ((A : Type 0) → t ≡ status.Ok → A) → w.status ≡ t → Delivers w out err s → Ends
  early t e n h (whole g k q) = (ends-as s t (q ∙ h) e, λ x. n (WritesSame c.verb bytes out err) (sym h ∙ sym q ∙ x))
  early t e n h (out_failed g k q) = unwritten q
  early t e n h (err_failed g k q) = unwritten q

  answered : (r : Record) → HasPlainRun c.verb (operand_words words) text r bytes → HasLimits r → Does c.verb (operand_words words) text r w → Delivers w out err s → Ends
  answered r p l d (whole g k q) =
      let (ok, nothing, same) =
      warm_answers c.verb (operand_words words) text r p.plain w p.answer rv (λ root h. warm-of r root p.plain l (p.honest root h)) p.does p.succeeds d (λ h. free (q ∙ h)) in (
        ends-as s status.Ok (q ∙ ok) warm.well,
        λ h. record { written = w.out; gains = g; quiet = subst (Gains err) nothing k; same = subst (λ b. AreSameLines c.verb b w.out) p.writes same },
      )
  answered r p l d (out_failed g k q) = unwritten q
  answered r p l d (err_failed g k q) = unwritten q

  same_command : (b : Command) → command_of words ≡ Ok b → b ≡ c
  same_command b h = ap (command_in c) (sym h ∙ hc)

  answered_by : (t : List ℕ) → t ≡ text → EachRecord HasLimits rs → CommandAnswer words t rs w → Delivers w out err s → Ends
  answered_by t e l (usage n h q) d = absurd (subst IsCommand (sym hc ∙ h) tt)
  answered_by t e l (does b h (on_input r one q)) d =
      answered r (p r one) (subst (EachRecord HasLimits) one l).0
      (subst (λ x. Does x.verb (operand_words words) text r w) (same_command b h) (subst (λ x. Does b.verb (operand_words words) x r w) e q)) d
  answered_by t e l (does b h (on_files ws f a u)) d =
      absurd (true≢false (sym (subst (λ v. resolves v ≡ true) (ap (λ (x : Command). x.verb) (sym (same_command b h)) ∙ f) rv)))

  made : (m : Makes words input o rs w) → warm.Answers m text → Delivers w out err s → Ends
  made (answers t h f q) e d =
      answered_by t e (each_found HasLimits nothing-limits found-limits c.verb (operand_words words) t o rs (subst (λ x. FindsFor x (operand_words words) t o rs) hc f)) q d
  made (generates b n r asked h g named one left alone s a) e d =
      absurd (true≢false (sym (subst (λ v. resolves v ≡ true) (ap (λ (x : Command). x.verb) (sym (same_command b h)) ∙ g) rv)))
  made (cannot_read b h f k q) e d = early status.Read warm.unread (λ A x. read-ok x) (ap (λ x. x.status) q) d
  made (lacks_memory h q) e d = early status.Memory warm.lacking (λ A x. memory-ok x) (ap (λ x. x.status) q) d

pub warm_runs_on : WarmRunsOn
warm_runs_on words input o out err s run c text bytes hc rv e p free =
    made words input o out err s run.found run.written c text bytes hc rv p free run.makes e run.delivers

module _ (words : List Word) (input : Input) (o : Outside) (rs : List Record) (w : Response) (c : Command) (text : List ℕ)
    (hc : command_of words ≡ Ok c) (rv : IsTrue (resolves c.verb)) (told : input.before ≡ Some text) where
  taken : (t : List ℕ) → IsRead (command_of words) t input → t ≡ text
  taken t h =
      let read : MatchBool (reads c.verb) (IsTaken t input) (IsLeft input) = subst (λ x. IsRead x t input) hc h in
      let is_taken : IsTaken t input = subst (λ b. MatchBool b (IsTaken t input) (IsLeft input)) (reads-too c.verb rv) read in
      subst (λ b. IfSome b (λ left. t ≡ left)) told is_taken.0

  told-answers : (m : Makes words input o rs w) → warm.Answers m text
  told-answers (answers t h f q) = taken t h
  told-answers (generates b n r asked h g named one left alone s a) = tt
  told-answers (cannot_read b h f k q) = tt
  told-answers (lacks_memory h q) = tt

pub warm_runs : WarmRuns
warm_runs words input o out err s run c text bytes hc rv told p free =
    warm_runs_on words input o out err s run c text bytes hc rv (told-answers words input o run.found run.written c text hc rv told run.makes) p free
