-- A run of `batch` with a cache that was honestly written.
use Rattle.std.specs.Prelude.{◌≡◌, ◌⊎◌, ℕ, IsTrue, true, List, [], ◌∷◌, ◌++◌, codes, Result, Ok, Err, refl}
use Rattle.std.proofs.Common.{inl, inr, ap, sym, ◌∙◌, subst, arith}
use Rattle.std.proofs.lemmas.List.{append-nil}
use Rattle.dh_command.specs.declared.commands.Command.{Command}
use Rattle.dh_command.specs.declared.statuses.Status.{Status}
use Rattle.dh_command.specs.declared.statuses.Status.TheVariants as status
use Rattle.dh_command.specs.declared.verbs.Verb.{Verb}
use Rattle.dh_command.specs.declared.verbs.Verb.TheVariants as verb
use Rattle.dh_command.specs.Answer.{CommandAnswer, usage, does, on_input, on_files, FileAnswer, FileAnswers, hashes_file, file_lacks_memory, Does, file_line, file_lines, first_fault, unless_ok}
use Rattle.dh_command.specs.Answer as files
use Rattle.dh_command.specs.Responses.{Response}
use Rattle.dh_command.specs.Words.{Word, command_of, operand_words}
use Rattle.dh_files.specs.FileWords.{file_text}
use Rattle.dh_imports.specs.Records.{Record}
use Rattle.dh_cache_laws.proofs.WarmAnswers.{warm_answers}
use Rattle.dh_top.proofs.EachFound.{EachRecord, each_found}
use Rattle.dh_top.proofs.RunLaws.{apart, files_only}
use Rattle.dh_top.proofs.WarmRuns.{HasLimits, ends-as, found-limits, nothing-limits, warm-of, memory-ok, read-ok, write-ok, command_in, IsCommand}
use Rattle.dh_top.specs.Outside.{Outside}
use Rattle.dh_streams.specs.Deliveries.{Delivers, whole, out_failed, err_failed}
use Rattle.dh_streams.specs.Streams.{Input, Output, Gains}
use Rattle.dh_top.specs.Runs.{FindsFor, Makes, answers, generates, cannot_read, lacks_memory}
use Rattle.dh_top.specs.WarmBatches as plain
use Rattle.dh_top.specs.WarmBatches.{HavePlainRuns, WarmBatches, digest_lines}
use Rattle.dh_top.specs.WarmRuns as warm
use Rattle.dh_top.specs.WarmRuns.{EndsWarmly, HasPlainRun}

is-limit : (s : Status) → (s ≡ status.Limit) ⊎ ¬ (s ≡ status.Limit)
is-limit status.Limit = inl refl
is-limit status.Ok = inr (λ h. absurd cc)
is-limit status.Text = inr (λ h. absurd cc)
is-limit status.Ill = inr (λ h. absurd cc)
is-limit status.Import = inr (λ h. absurd cc)
is-limit status.Usage = inr (λ h. absurd cc)
is-limit status.Read = inr (λ h. absurd cc)
is-limit status.Write = inr (λ h. absurd cc)
is-limit status.Desk = inr (λ h. absurd cc)
is-limit status.Memory = inr (λ h. absurd cc)
is-limit status.NoJson = inr (λ h. absurd cc)
is-limit status.Step = inr (λ h. absurd cc)

-- a file is answered by its digest, or by a limit or out of memory
data Ends (word : Word) (bytes : List ℕ) (w : Response) : Type 0 where
  well : w.status ≡ status.Ok → file_line word w ≡ word ++ codes ": " ++ bytes → Ends word bytes w
  limit : w.status ≡ status.Limit → Ends word bytes w
  memory : w.status ≡ status.Memory → Ends word bytes w

file-ends : (word : Word) (r : Record) (bytes : List ℕ) (w : Response) → HasLimits r → HasPlainRun verb.Hash [] (file_text word) r bytes → FileAnswer word r w → Ends word bytes w
file-ends word r bytes w l p (file_lacks_memory none u) = memory (ap (λ (x : Response). x.status) u)
file-ends word r bytes w l p (hashes_file d) = by (is-limit w.status)
  where
    by : (w.status ≡ status.Limit) ⊎ ¬ (w.status ≡ status.Limit) → Ends word bytes w
    by (inl h) = limit h
    by (inr free) =
        let (ok, nothing, same) =
        warm_answers verb.Hash [] (file_text word) r p.plain w p.answer refl (λ root h. warm-of r root p.plain l (p.honest root h)) p.does p.succeeds d free in
        well ok (ap (λ b. word ++ codes ": " ++ (w.out ++ b)) nothing ∙ (ap (λ b. word ++ codes ": " ++ b) (append-nil w.out) ∙ ap (λ b. word ++ codes ": " ++ b) (sym same ∙ p.writes)))

-- all files have these lines, or the first fault is a limit or out of memory
data AllEnd (words : List Word) (digests : List (List ℕ)) (ws : List Response) : Type 0 where
  all_well : first_fault ws ≡ status.Ok → file_lines words ws ≡ digest_lines words digests → AllEnd words digests ws
  a_limit : first_fault ws ≡ status.Limit → AllEnd words digests ws
  a_memory : first_fault ws ≡ status.Memory → AllEnd words digests ws

then-others : {word : Word} {words : List Word} {bytes : List ℕ} {digests : List (List ℕ)} (w : Response) (ws : List Response) → Ends word bytes w → AllEnd words digests ws
    → AllEnd (word ∷ words) (bytes ∷ digests) (w ∷ ws)
then-others {word} {words} {bytes} {digests} w ws (well ok line) (all_well h lines) =
    all_well (ap (λ s. unless_ok s (first_fault ws)) ok ∙ h) (ap (λ b. b ++ file_lines words ws) line ∙ ap (λ b. (word ++ codes ": " ++ bytes) ++ b) lines)
then-others w ws (well ok line) (a_limit h) = a_limit (ap (λ s. unless_ok s (first_fault ws)) ok ∙ h)
then-others w ws (well ok line) (a_memory h) = a_memory (ap (λ s. unless_ok s (first_fault ws)) ok ∙ h)
then-others w ws (limit h) rest = a_limit (ap (λ s. unless_ok s (first_fault ws)) h)
then-others w ws (memory h) rest = a_memory (ap (λ s. unless_ok s (first_fault ws)) h)

all-end : {words : List Word} {rs : List Record} {ws : List Response} {digests : List (List ℕ)} → EachRecord HasLimits rs → FileAnswers words rs ws → HavePlainRuns words rs digests → AllEnd words digests ws
all-end l files.no_file plain.no_file = all_well refl refl
all-end l (files.a_file {word = word} {r = r} {w = w} {ws = ws} a others) (plain.a_file {bytes = bytes} p rest) =
    then-others w ws (file-ends word r bytes w l.0 p a) (all-end l.1 others rest)

module _ (words : List Word) (input : Input) (o : Outside) (out err : Output) (s : Status) (rs : List Record) (w : Response) (c : Command) (digests : List (List ℕ))
    (hc : command_of words ≡ Ok c) (batch : c.verb ≡ verb.Batch) (p : HavePlainRuns (operand_words words) rs digests) (free : ¬ (s ≡ status.Limit)) where
  abbrev Warmly : Type 0
  Warmly = EndsWarmly s × (s ≡ status.Ok → Gains out (digest_lines (operand_words words) digests) × Gains err [])

  unwritten : s ≡ status.Write → Warmly
  unwritten h = (ends-as s status.Write h warm.unwritten, λ k. write-ok (sym h ∙ k))

  -- a response with another status
  early : (t : Status) → EndsWarmly t → ((A : Type 0) → t ≡ status.Ok → A) → w.status ≡ t → Delivers w out err s → Warmly
  early t e n h (whole g k q) = (ends-as s t (q ∙ h) e, λ x. n _ (sym h ∙ (sym q ∙ x)))
  early t e n h (out_failed g k q) = unwritten q
  early t e n h (err_failed g k q) = unwritten q

  limited : w.status ≡ status.Limit → Delivers w out err s → Warmly
  limited h (whole g k q) = absurd (free (q ∙ h))
  limited h (out_failed g k q) = unwritten q
  limited h (err_failed g k q) = unwritten q

  lined : (ws : List Response) → w.out ≡ file_lines (operand_words words) ws → w.err ≡ [] → w.status ≡ first_fault ws → AllEnd (operand_words words) digests ws → Delivers w out err s → Warmly
  lined ws to_out to_err is (all_well h lines) (whole g k q) =
      (ends-as s status.Ok (q ∙ (is ∙ h)) warm.well, λ x. (subst (Gains out) (to_out ∙ lines) g, subst (Gains err) to_err k))
  lined ws to_out to_err is (all_well h lines) (out_failed g k q) = unwritten q
  lined ws to_out to_err is (all_well h lines) (err_failed g k q) = unwritten q
  lined ws to_out to_err is (a_limit h) d = limited (is ∙ h) d
  lined ws to_out to_err is (a_memory h) d = early status.Memory warm.lacking (λ A x. memory-ok x) (is ∙ h) d

  same_command : (b : Command) → command_of words ≡ Ok b → b ≡ c
  same_command b h = ap (command_in c) (sym h ∙ hc)

  answered : (t : List ℕ) → EachRecord HasLimits rs → CommandAnswer words t rs w → Delivers w out err s → Warmly
  answered t l (usage n h q) d = absurd (subst IsCommand (sym hc ∙ h) tt)
  answered t l (does b h (on_input r one q)) d = absurd (files_only b.verb (operand_words words) t r w (ap (λ (x : Command). x.verb) (same_command b h) ∙ batch) q)
  answered t l (does b h (on_files ws f a u)) d =
      lined ws (ap (λ (x : Response). x.out) u) (ap (λ (x : Response). x.err) u) (ap (λ (x : Response). x.status) u) (all-end l a p) d

  made : Makes words input o rs w → Delivers w out err s → Warmly
  made (answers t h f q) d =
      answered t (each_found HasLimits nothing-limits found-limits c.verb (operand_words words) t o rs (subst (λ x. FindsFor x (operand_words words) t o rs) hc f)) q d
  made (generates b n r asked h g named one left alone f a) d =
      absurd (apart verb.Batch verb.Gen (sym batch ∙ (ap (λ (x : Command). x.verb) (sym (same_command b h)) ∙ g)) (λ k. omega (arith, k)))
  made (cannot_read b h f k q) d = early status.Read warm.unread (λ A x. read-ok x) (ap (λ (x : Response). x.status) q) d
  made (lacks_memory h q) d = early status.Memory warm.lacking (λ A x. memory-ok x) (ap (λ (x : Response). x.status) q) d

pub warm_batches : WarmBatches
warm_batches words input o out err s run c digests hc batch p free = made words input o out err s run.found run.written c digests hc batch p free run.makes run.delivers
