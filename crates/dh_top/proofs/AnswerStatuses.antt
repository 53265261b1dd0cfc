-- Which statuses an answer has, and which come from words and streams alone.
use Rattle.std.proofs.Common.{◌≡◌, ◌⊎◌, inl, inr, ℕ, List, [], ◌∷◌, Bool, true, false, true≢false, Result, Ok, Err, refl, sym, ap, ◌∙◌, subst, arith}
use Rattle.std.specs.Prelude.{IsErr, IsTrue}
use Rattle.dh_ports.specs.Counts.{Rose}
use Rattle.dh_syntax.specs.declared.faults.DecodeFault.{DecodeFault}
use Rattle.dh_syntax.specs.declared.faults.ParseFault.{ParseFault}
use Rattle.dh_syntax.specs.declared.faults.TypeFault.TheVariants as type_faults
use Rattle.dh_imports.specs.declared.outcomes.Why.{Why}
use Rattle.dh_imports.specs.declared.outcomes.Why.TheVariants as whys
use Rattle.dh_command.specs.declared.statuses.Status.{Status}
use Rattle.dh_command.specs.declared.statuses.Status.TheVariants as status
use Rattle.dh_command.specs.declared.verbs.Verb.{Verb}
use Rattle.dh_command.specs.declared.verbs.Verb.TheVariants as verb
use Rattle.dh_command.specs.Answer.{CommandAnswer, usage, does, DoesAll, on_input, on_files, FileAnswer, FileAnswers, hashes_file, file_lacks_memory, no_file, a_file, first_fault, unless_ok, Does, encodes, decodes, decodes_none, spells, spells_none, takes_steps, explains, helps, tells_version, encoded, decoded, ResolvedAnswer, valued, faulty, circular, overfull, FaultAnswer, at_fault, ValuedAnswer, itself, frozen, typed, TypedAnswer, prints, refuses, limited, no_value}
use Rattle.dh_command.specs.Generating.{GenAnswer, counts, faults}
use Rattle.dh_command.specs.Lines.{read_line}
use Rattle.dh_command.specs.Responses.{Response, line}
use Rattle.dh_command.specs.Statuses.{why_status}
use Rattle.dh_command.specs.StepsReplies.{steps_response}
use Rattle.dh_command.specs.Words.{Word, command_of}
use Rattle.dh_imports.specs.Readings.{Reading}
use Rattle.dh_imports.specs.Records.{Record}
use Rattle.dh_steps.specs.StepsAnswer as replies
use Rattle.dh_steps.specs.StepsAnswer.{StepsReply}
use Rattle.dh_syntax.specs.Expressions.Tree.{Term}
use Rattle.dh_top.specs.Outside.{Outside}
use Rattle.dh_top.specs.Replies.{IsMade}
use Rattle.dh_streams.specs.Deliveries.{Delivers, whole, out_failed, err_failed}
use Rattle.dh_streams.specs.Streams.{Input, Output, Gains}
use Rattle.dh_top.specs.Runs.{AreMisused, Makes, answers, generates, cannot_read, lacks_memory, ReadFailed}
use Rattle.dh_top.proofs.Devices.{other_status}
use Rattle.dh_top.proofs.Gathering.{fault_is}

-- no fault of words or of a stream
abbrev answers_by : Status → Bool
answers_by status.Usage = false
answers_by status.Read = false
answers_by status.Write = false
answers_by _ = true

told_as : (w : Response) (s : Status) → w.status ≡ s → IsTrue (answers_by s) → IsTrue (answers_by w.status)
told_as w s e h = subst (λ t. IsTrue (answers_by t)) (sym e) h

why_answers : (w : Why) → IsTrue (answers_by (why_status w))
why_answers (whys.Parse g) = refl
why_answers (whys.Typing (type_faults.Ill f)) = refl
why_answers (whys.Typing type_faults.Wide) = refl
why_answers (whys.Typing type_faults.Spent) = refl
why_answers (whys.Typing type_faults.Deep) = refl
why_answers (whys.Typing type_faults.Memory) = refl
why_answers (whys.Norm g) = refl
why_answers whys.Absent = refl
why_answers whys.Missing = refl
why_answers (whys.Broken k) = refl
why_answers whys.Https = refl
why_answers whys.Failed = refl
why_answers (whys.Differs a b) = refl
why_answers (whys.Insane l) = refl
why_answers (whys.Cors l) = refl
why_answers whys.Cycle = refl
why_answers whys.TooMany = refl

typed_answers : (v : Verb) (i : Reading) (e : Term) (w : Response) → TypedAnswer v i e w → IsTrue (answers_by w.status)
typed_answers v i e w (prints t bytes h p u) = told_as w status.Ok (ap (λ (x : Response). x.status) u) refl
typed_answers v i e w (refuses f bytes h l u) = told_as w status.Ill (ap (λ (x : Response). x.status) u) refl
typed_answers v i e w (limited l m h u) = told_as w status.Limit (ap (λ (x : Response). x.status) u) refl
typed_answers v i e w (no_value t f at same h n d j u) = told_as w status.NoJson (ap (λ (x : Response). x.status) u) refl

valued_answers : (v : Verb) (i : Reading) (e : Term) (w : Response) → ValuedAnswer v i e w → IsTrue (answers_by w.status)
valued_answers v i e w (itself h u) = told_as w status.Ok (ap (λ (x : Response). x.status) u) refl
valued_answers v i e w (frozen bytes h z u) = told_as w status.Ok (ap (λ (x : Response). x.status) u) refl
valued_answers v i e w (typed t a) = typed_answers v i e w a

resolved_answers : (v : Verb) (text : List ℕ) (root : Term) (r : Record) (w : Response) → ResolvedAnswer v text root r w → IsTrue (answers_by w.status)
resolved_answers v text root r w (valued e ask by h a) = valued_answers v _ e w a
resolved_answers v text root r w (faulty b by (at_fault bytes l u)) = told_as w (why_status b.why) (ap (λ (x : Response). x.status) u) (why_answers b.why)
resolved_answers v text root r w (circular j by (at_fault bytes l u)) = told_as w status.Import (ap (λ (x : Response). x.status) u) refl
resolved_answers v text root r w (overfull by (at_fault bytes l u)) = told_as w status.Limit (ap (λ (x : Response). x.status) u) refl

encoded_answers : (w : Response) (o : Result Term ParseFault) → w ≡ encoded o → IsTrue (answers_by w.status)
encoded_answers w (Ok e) u = told_as w status.Ok (ap (λ (x : Response). x.status) u) refl
encoded_answers w (Err f) u = told_as w status.Text (ap (λ (x : Response). x.status) u) refl

decoded_answers : (w : Response) (o : Result Term DecodeFault) → w ≡ decoded o → IsTrue (answers_by w.status)
decoded_answers w (Ok e) u = told_as w status.Ok (ap (λ (x : Response). x.status) u) refl
decoded_answers w (Err f) u = told_as w status.Text (ap (λ (x : Response). x.status) u) refl

steps_answers : (s : StepsReply) (w : Response) → w ≡ steps_response s → IsTrue (answers_by w.status)
steps_answers (replies.Misspelt f) w u = told_as w status.Text (ap (λ (x : Response). x.status) u) refl
steps_answers (replies.Stuck text) w u = told_as w status.Step (ap (λ (x : Response). x.status) u) refl
steps_answers (replies.TooLarge text) w u = told_as w status.Limit (ap (λ (x : Response). x.status) u) refl
steps_answers (replies.Printed a b) w u = told_as w status.Ok (ap (λ (x : Response). x.status) u) refl

does_answers : (v : Verb) (ops : List Word) (text : List ℕ) (r : Record) (w : Response) → Does v ops text r w → IsTrue (answers_by w.status)
does_answers v ops text r w (encodes o h p q) = encoded_answers w o q
does_answers v ops text r w (decodes o h l p q) = decoded_answers w o q
does_answers v ops text r w (decodes_none h l q) = told_as w status.Text (ap (λ (x : Response). x.status) q) refl
does_answers v ops text r w (spells e h p a) = resolved_answers v text e r w a
does_answers v ops text r w (spells_none f h p q) = told_as w status.Text (ap (λ (x : Response). x.status) q) refl
does_answers v ops text r w (takes_steps places s h k a u) = steps_answers s w u
does_answers v ops text r w (explains told h k q) = told_as w status.Ok (ap (λ (x : Response). x.status) q) refl
does_answers v ops text r w (helps h q) = told_as w status.Ok (ap (λ (x : Response). x.status) q) refl
does_answers v ops text r w (tells_version h q) = told_as w status.Ok (ap (λ (x : Response). x.status) q) refl

first_answers : (s t : Status) → IsTrue (answers_by s) → IsTrue (answers_by t) → IsTrue (answers_by (unless_ok s t))
first_answers s t h k = elim (fault_is s t (unless_ok s t) refl) [
  | inl e ↦ subst (λ x. IsTrue (answers_by x)) e.1 k
  | inr e ↦ subst (λ x. IsTrue (answers_by x)) e h
]

file_answers : (word : Word) (r : Record) (w : Response) → FileAnswer word r w → IsTrue (answers_by w.status)
file_answers word r w (hashes_file d) = does_answers verb.Hash [] _ r w d
file_answers word r w (file_lacks_memory none u) = told_as w status.Memory (ap (λ (x : Response). x.status) u) refl

files_answer : {words : List Word} {rs : List Record} {ws : List Response} → FileAnswers words rs ws → IsTrue (answers_by (first_fault ws))
files_answer no_file = refl
files_answer (a_file {word = word} {r = r} {w = w} {ws = ws} a rest) = first_answers w.status (first_fault ws) (file_answers word r w a) (files_answer rest)

all_answers : (v : Verb) (ops : List Word) (text : List ℕ) (rs : List Record) (w : Response) → DoesAll v ops text rs w → IsTrue (answers_by w.status)
all_answers v ops text rs w (on_input r one d) = does_answers v ops text r w d
all_answers v ops text rs w (on_files ws b a u) = told_as w (first_fault ws) (ap (λ (x : Response). x.status) u) (files_answer a)

gen_answers : (n : ℕ) (r : Record) (asked : ℕ) (w : Response) → GenAnswer n r asked w → IsTrue (answers_by w.status)
gen_answers n r asked w (counts root digest p d u) = told_as w status.Ok (ap (λ (x : Response). x.status) u) refl
gen_answers n r asked w (faults d other) = does_answers verb.Hash [] _ r w d

no_answer_by : {P : Type 0} (w : Response) (s : Status) → IsTrue (answers_by w.status) → answers_by s ≡ false → w.status ≡ s → P
no_answer_by w s h n e = absurd (true≢false (sym h ∙ (ap answers_by e ∙ n)))

-- ---- what was made

usage_made : (words : List Word) (input : Input) (o : Outside) (rs : List Record) (w : Response) → Makes words input o rs w → w.status ≡ status.Usage → AreMisused words
usage_made words input o rs w (answers text read f (usage k h u)) e = subst IsErr (sym h) refl
usage_made words input o rs w (answers text read f (does c h d)) e = no_answer_by w status.Usage (all_answers _ _ text rs w d) refl e
usage_made words input o rs w (generates c n r asked h g named one left alone s a) e = no_answer_by w status.Usage (gen_answers n r asked w a) refl e
usage_made words input o rs w (cannot_read c h rose alone u) e = other_status status.Read status.Usage (sym (ap (λ (x : Response). x.status) u) ∙ e) (λ n. omega (arith, n))
usage_made words input o rs w (lacks_memory l u) e = other_status status.Memory status.Usage (sym (ap (λ (x : Response). x.status) u) ∙ e) (λ n. omega (arith, n))

write_made : {P : Type 0} (words : List Word) (input : Input) (o : Outside) (rs : List Record) (w : Response) → Makes words input o rs w → w.status ≡ status.Write → P
write_made words input o rs w (answers text read f (usage k h u)) e = other_status status.Usage status.Write (sym (ap (λ (x : Response). x.status) u) ∙ e) (λ n. omega (arith, n))
write_made words input o rs w (answers text read f (does c h d)) e = no_answer_by w status.Write (all_answers _ _ text rs w d) refl e
write_made words input o rs w (generates c n r asked h g named one left alone s a) e = no_answer_by w status.Write (gen_answers n r asked w a) refl e
write_made words input o rs w (cannot_read c h rose alone u) e = other_status status.Read status.Write (sym (ap (λ (x : Response). x.status) u) ∙ e) (λ n. omega (arith, n))
write_made words input o rs w (lacks_memory l u) e = other_status status.Memory status.Write (sym (ap (λ (x : Response). x.status) u) ∙ e) (λ n. omega (arith, n))

read_made : (words : List Word) (input : Input) (o : Outside) (rs : List Record) (w : Response) (out err : Output) → Makes words input o rs w → w.status ≡ status.Read → Gains out w.out → Gains err w.err
    → ReadFailed input out err
read_made words input o rs w out err (answers text read f (usage k h u)) e g q = other_status status.Usage status.Read (sym (ap (λ (x : Response). x.status) u) ∙ e) (λ n. omega (arith, n))
read_made words input o rs w out err (answers text read f (does c h d)) e g q = no_answer_by w status.Read (all_answers _ _ text rs w d) refl e
read_made words input o rs w out err (generates c n r asked h k named one left alone s a) e g q = no_answer_by w status.Read (gen_answers n r asked w a) refl e
read_made words input o rs w out err (cannot_read c h rose alone u) e g q =
    record { rose = rose; nothing_out = subst (Gains out) (ap (λ (x : Response). x.out) u) g; told = subst (Gains err) (ap (λ (x : Response). x.err) u) q }
read_made words input o rs w out err (lacks_memory l u) e g q = other_status status.Memory status.Read (sym (ap (λ (x : Response). x.status) u) ∙ e) (λ n. omega (arith, n))

-- ---- and how it was delivered; the bytes are seen through slices

abbrev pub written_as : List ℕ → List ℕ → Status → Response
written_as out err s = record { out = out; err = err; status = s }

module _ (words : List Word) (input : Input) (o : Outside) (w v : Response) (out err : Output) (s : Status) (made : IsMade words input o w) (same : w ≡ v) (delivered : Delivers v out err s) where
  makes : Makes words input o made.found v
  makes = subst (Makes words input o made.found) same made.makes

  pub usage_delivered : s ≡ status.Usage → AreMisused words
  usage_delivered e = by delivered
    where
      by : Delivers v out err s → AreMisused words
      by (whole g h q) = usage_made words input o made.found v makes (sym q ∙ e)
      by (out_failed g h q) = other_status status.Write status.Usage (sym q ∙ e) (λ n. omega (arith, n))
      by (err_failed g h q) = other_status status.Write status.Usage (sym q ∙ e) (λ n. omega (arith, n))

  pub read_delivered : s ≡ status.Read → ReadFailed input out err
  read_delivered e = by delivered
    where
      by : Delivers v out err s → ReadFailed input out err
      by (whole g h q) = read_made words input o made.found v out err makes (sym q ∙ e) g h
      by (out_failed g h q) = other_status status.Write status.Read (sym q ∙ e) (λ n. omega (arith, n))
      by (err_failed g h q) = other_status status.Write status.Read (sym q ∙ e) (λ n. omega (arith, n))

  pub write_delivered : s ≡ status.Write → Rose out.faults_before out.faults_after ⊎ Rose err.faults_before err.faults_after
  write_delivered e = by delivered
    where
      by : Delivers v out err s → Rose out.faults_before out.faults_after ⊎ Rose err.faults_before err.faults_after
      by (whole g h q) = write_made words input o made.found v makes (sym q ∙ e)
      by (out_failed g h q) = inl g.failed
      by (err_failed g h q) = inr h.failed
