-- Why a run ended by the status of a fault, and what it wrote.
use Rattle.std.proofs.Common.{◌≡◌, ◌⊎◌, inl, inr, ℕ, suc, List, [], ◌∷◌, Option, Some, None, Result, Ok, Err, Bool, true, false, true≢false, refl, sym, ap, ◌∙◌, subst}
use Rattle.std.specs.Prelude.{IsTrue, length}
use Rattle.dh_command.specs.declared.commands.Command.{Command}
use Rattle.dh_command.specs.declared.statuses.Status.{Status}
use Rattle.dh_command.specs.declared.statuses.Status.TheVariants as status
use Rattle.dh_command.specs.declared.verbs.Verb.{Verb}
use Rattle.dh_command.specs.declared.verbs.Verb.TheVariants as verb
use Rattle.dh_command.specs.Answer.{CommandAnswer, usage, does, DoesAll, on_input, on_files, FileAnswer, FileAnswers, hashes_file, file_lacks_memory, no_file, a_file, file_lines, first_fault, nothing_found, Does, encodes, decodes, decodes_none, spells, spells_none, takes_steps, explains, helps, tells_version, ResolvedAnswer, valued, faulty, circular, overfull, FaultAnswer, at_fault, ValuedAnswer, itself, frozen, typed, TypedAnswer, prints, refuses, limited, no_value, cycle_at, too_many_keys}
use Rattle.dh_command.specs.Generating.{GenAnswer, counts, faults}
use Rattle.dh_command.specs.Lines.{read_line, memory_line, usage_line}
use Rattle.dh_command.specs.Responses.{Response, answer, fault, line}
use Rattle.dh_command.specs.Statuses.{why_status}
use Rattle.dh_command.specs.StepsReplies.{AreNamed, steps_response}
use Rattle.dh_command.specs.Words.{Word, command_of, operand_words, resolves, types}
use Rattle.dh_files.specs.FileWords.{file_text}
use Rattle.dh_gen.specs.Generated as generated
use Rattle.dh_gen.specs.Generated.{list_text}
use Rattle.dh_imports.specs.declared.outcomes.Blame.{Blame}
use Rattle.dh_imports.specs.Readings.{Reading, root_reading}
use Rattle.dh_imports.specs.declared.outcomes.Why.{Why}
use Rattle.dh_imports.specs.declared.outcomes.Why.TheVariants as whys
use Rattle.dh_imports.specs.Records.{Record, limit_at, IsLimitOf}
use Rattle.dh_imports.specs.Replay.{RootEnd, bad, end_of}
use Rattle.dh_imports.specs.Resolver.{ResolvesRoot}
use Rattle.dh_imports.specs.RootEnds.{EndsBy, resolved, overflows}
use Rattle.dh_imports.specs.Walk.{Walked, Ready, Fails, Turns, Needs}
use Rattle.dh_import_laws.specs.WithoutMemory.{memory, LimitsNeedNone}
use Rattle.dh_import_laws.proofs.NoMemory.{roots_need_none}
use Rattle.dh_laws.proofs.KeyOrder.{none-some}
use Rattle.dh_syntax.specs.declared.faults.TypeFault.TheVariants as type_faults
use Rattle.dh_json.specs.FaultLines.{no_json_line}
use Rattle.dh_steps.specs.StepLines.{outside_line, no_rule_line, grown_line}
use Rattle.dh_steps.specs.StepsAnswer as replies
use Rattle.dh_steps.specs.StepsAnswer.{StepsAnswer, StepsReply}
use Rattle.dh_syntax.specs.FaultLines.{decode_fault_line, norm_fault_line, parse_fault_line}
use Rattle.dh_syntax.specs.declared.faults.ParseFault.TheVariants as parse
use Rattle.dh_syntax.specs.Expressions.Tree.{Term}
use Rattle.dh_syntax.specs.Text.Spelling.{ParsesTo}
use Rattle.dh_top.proofs.EachFound.{EachRecord, each_found}
use Rattle.dh_top.proofs.Gathering.{fault_is}
use Rattle.dh_top.specs.Causes as causes
use Rattle.dh_top.specs.Causes.{Cause, RunCause, Decides, FileCause, IsValued, IsCaused, TellsOneLine, TellsRefusal, has_cause, is_refusal}
use Rattle.dh_top.specs.Generating.{GenSession, no_list, on_list}
use Rattle.dh_top.specs.Outside.{Outside, IsFound, Shelving, Telling}
use Rattle.dh_streams.specs.Deliveries.{Delivers, whole, out_failed, err_failed}
use Rattle.dh_streams.specs.Streams.{Input, Output, Gains}
use Rattle.dh_top.specs.Runs.{Makes, answers, generates, cannot_read, lacks_memory, Runs, IsRead, FindsFor}

abbrev is_memory : Status → Bool
is_memory status.Memory = true
is_memory _ = false

-- what a fault writes, and why
abbrev Blamed : Verb → List Word → List ℕ → Record → Response → Type 0
Blamed v ops text r w = (told : List ℕ) × (w.out ≡ []) × (w.err ≡ line told) × Cause v ops text r w.status

of-fault : (v : Verb) (ops : List Word) (text : List ℕ) (r : Record) (w : Response) (told : List ℕ) (s : Status) → w ≡ fault told s → Cause v ops text r s → Blamed v ops text r w
of-fault v ops text r w told s u c =
    (told, ap (λ (x : Response). x.out) u, ap (λ (x : Response). x.err) u, subst (Cause v ops text r) (sym (ap (λ (x : Response). x.status) u)) c)

not-so : {P : Type 0} (f : Status → Bool) (s t : Status) → s ≡ t → f t ≡ false → IsTrue (f s) → P
not-so f s t e n h = absurd (true≢false (sym h ∙ ap f e ∙ n))

no-answer : {P : Type 0} (w : Response) (bytes : List ℕ) → w ≡ answer bytes → IsTrue (is_refusal w.status) → P
no-answer w bytes u t = not-so is_refusal w.status status.Ok (ap (λ (x : Response). x.status) u) refl t

-- ---- by cases of what the command does

of-typed : (v : Verb) (ops : List Word) (text : List ℕ) (r : Record) (i : Reading) (e : Term) (w : Response) → IsTrue (types v) → IsValued text r e → TypedAnswer v i e w
    → IsTrue (is_refusal w.status) → Blamed v ops text r w
of-typed v ops text r i e w h val (prints t bytes ty p u) n = no-answer w (line bytes) u n
of-typed v ops text r i e w h val (refuses f bytes ill l u) n = of-fault v ops text r w bytes status.Ill u (causes.no_type e f h val ill)
of-typed v ops text r i e w h val (limited l m k u) n = of-fault v ops text r w (norm_fault_line l) status.Limit u (causes.at_limit e l h val m k)
of-typed v ops text r i e w h val (no_value t f place same ty nf deep j u) n =
    of-fault v ops text r w (no_json_line place) status.NoJson u (causes.no_value e t f place same val ty nf deep j)

of-valued : (v : Verb) (ops : List Word) (text : List ℕ) (r : Record) (i : Reading) (e : Term) (w : Response) → IsValued text r e → ValuedAnswer v i e w
    → IsTrue (is_refusal w.status) → Blamed v ops text r w
of-valued v ops text r i e w val (itself h u) n = no-answer w _ u n
of-valued v ops text r i e w val (frozen bytes h z u) n = no-answer w bytes u n
of-valued v ops text r i e w val (typed h a) n = of-typed v ops text r i e w h val a n

of-blame : (v : Verb) (ops : List Word) (text : List ℕ) (r : Record) (b : Blame) (w : Response) → IsTrue (resolves v) → Decides text r b → FaultAnswer r b w → Blamed v ops text r w
of-blame v ops text r b w h d (at_fault bytes l u) = of-fault v ops text r w bytes (why_status b.why) u (causes.at_fault b h d)

of-resolved : (v : Verb) (ops : List Word) (text : List ℕ) (root : Term) (r : Record) (w : Response) → IsTrue (resolves v) → ParsesTo text (Ok root) → ResolvedAnswer v text root r w
    → IsTrue (is_refusal w.status) → Blamed v ops text r w
of-resolved v ops text root r w h p (valued e ask ends has a) n = of-valued v ops text r (root_reading text root ask) e w (root, ask, p, ends, has) a n
of-resolved v ops text root r w h p (faulty b ends a) n = of-blame v ops text r b w h (causes.an_import root p ends) a
of-resolved v ops text root r w h p (circular j ends a) n = of-blame v ops text r (cycle_at j) w h (causes.a_loop root j p ends refl) a
of-resolved v ops text root r w h p (overfull ends a) n = of-blame v ops text r too_many_keys w h (causes.all_keys root p ends refl) a

of-steps : (v : Verb) (ops : List Word) (text : List ℕ) (r : Record) (w : Response) (places : List (List ℕ)) (s : StepsReply) → v ≡ verb.Steps → AreNamed ops places
    → StepsAnswer places text s → w ≡ steps_response s → IsTrue (is_refusal w.status) → Blamed v ops text r w
of-steps v ops text r w places s h k (replies.spells_none f p u) q n =
    of-fault v ops text r w (parse_fault_line f) status.Text (q ∙ ap steps_response u) (causes.no_expression f (inr (inr h)) p)
of-steps v ops text r w places s h k (replies.is_outside e place p o u) q n =
    of-fault v ops text r w (outside_line place) status.Step (q ∙ ap steps_response u) (causes.no_fragment e place h p o)
of-steps v ops text r w places s h k (replies.has_no_rule e m p o g u) q n =
    of-fault v ops text r w (no_rule_line m) status.Step (q ∙ ap steps_response u) (causes.no_rule e places m h k p g)
of-steps v ops text r w places s h k (replies.grows e m p o g u) q n =
    of-fault v ops text r w (grown_line m) status.Limit (q ∙ ap steps_response u) (causes.grows e places m h k p g)
of-steps v ops text r w places s h k (replies.is_normal e f p o g i z u) q n = no-answer w _ (q ∙ ap steps_response u) n
of-steps v ops text r w places s h k (replies.is_not_normal e f p o g i z u) q n = no-answer w _ (q ∙ ap steps_response u) n

blamed : (v : Verb) (ops : List Word) (text : List ℕ) (r : Record) (w : Response) → Does v ops text r w → IsTrue (is_refusal w.status) → Blamed v ops text r w
blamed v ops text r w (encodes (Ok e) h p q) n = no-answer w _ q n
blamed v ops text r w (encodes (Err f) h p q) n = of-fault v ops text r w (parse_fault_line f) status.Text q (causes.no_expression f (inl h) p)
blamed v ops text r w (decodes (Ok e) h l p q) n = no-answer w _ q n
blamed v ops text r w (decodes (Err f) h l p q) n = of-fault v ops text r w (decode_fault_line f) status.Text q (causes.no_binary_form f h p)
blamed v ops text r w (decodes_none h l q) n = of-fault v ops text r w (parse_fault_line parse.TooLarge) status.Text q (causes.too_large h l)
blamed v ops text r w (spells e h p a) n = of-resolved v ops text e r w h p a n
blamed v ops text r w (spells_none f h p q) n = of-fault v ops text r w (parse_fault_line f) status.Text q (causes.no_expression f (inr (inl h)) p)
blamed v ops text r w (takes_steps places s h k a q) n = of-steps v ops text r w places s h k a q n
blamed v ops text r w (explains told h k q) n = no-answer w _ q n
blamed v ops text r w (helps h q) n = no-answer w _ q n
blamed v ops text r w (tells_version h q) n = no-answer w _ q n

-- ---- runs

caused-is-refused : (s : Status) → IsTrue (has_cause s) → IsTrue (is_refusal s)
caused-is-refused status.Ok h = absurd (true≢false (sym h))
caused-is-refused status.Text h = refl
caused-is-refused status.Ill h = refl
caused-is-refused status.Import h = refl
caused-is-refused status.Limit h = refl
caused-is-refused status.Usage h = absurd (true≢false (sym h))
caused-is-refused status.Read h = absurd (true≢false (sym h))
caused-is-refused status.Write h = absurd (true≢false (sym h))
caused-is-refused status.Desk h = refl
caused-is-refused status.Memory h = absurd (true≢false (sym h))
caused-is-refused status.NoJson h = refl
caused-is-refused status.Step h = refl

-- why the first file has no digest that has none
module _ (s : Status) (n : IsTrue (has_cause s)) where
  later : {word : Word} {words : List Word} {r : Record} {rs : List Record} (w : Response) → FileAnswer word r w → w.status ≡ status.Ok → FileCause s words rs → FileCause s (word ∷ words) (r ∷ rs)
  later w (hashes_file d) ok c = causes.later_file w d ok c
  later w (file_lacks_memory z u) ok c = not-so is_memory status.Memory status.Ok (sym (ap (λ (x : Response). x.status) u) ∙ ok) refl refl

  here : {word : Word} {words : List Word} {r : Record} {rs : List Record} (w : Response) → FileAnswer word r w → w.status ≡ s → FileCause s (word ∷ words) (r ∷ rs)
  here {word} {words} {r} w (hashes_file d) e =
      causes.this_file
      (subst (Cause verb.Hash [] (file_text word) r) e (blamed verb.Hash [] (file_text word) r w d (caused-is-refused w.status (subst (λ t. IsTrue (has_cause t)) (sym e) n))).3)
  here w (file_lacks_memory z u) e = not-so has_cause s status.Memory (sym e ∙ ap (λ (x : Response). x.status) u) refl n

  file-caused : {words : List Word} {rs : List Record} {ws : List Response} → FileAnswers words rs ws → first_fault ws ≡ s → FileCause s words rs
  file-caused no_file e = not-so has_cause s status.Ok (sym e) refl n
  file-caused (a_file {w = w} {ws = ws} a rest) e = elim (fault_is w.status (first_fault ws) s e) [
    | inl k ↦ later w a k.0 (file-caused rest k.1)
    | inr k ↦ here w a k
  ]

all-caused : (v : Verb) (ops : List Word) (text : List ℕ) (rs : List Record) (w : Response) → DoesAll v ops text rs w → IsTrue (has_cause w.status) → RunCause v ops text rs w.status
all-caused v ops text rs w (on_input r one d) n = causes.by_input r one (blamed v ops text r w d (caused-is-refused w.status n)).3
all-caused v ops text rs w (on_files ws b a u) n = causes.by_file b (file-caused w.status n a (sym (ap (λ (x : Response). x.status) u)))

-- why the list of generated imports has no digest
list-caused : (m : ℕ) (r : Record) (asked : ℕ) (w : Response) → GenAnswer m r asked w → IsTrue (has_cause w.status) → Cause verb.Hash [] (list_text m) r w.status
list-caused m r asked w (counts root digest p d u) n = not-so has_cause w.status status.Ok (ap (λ (x : Response). x.status) u) refl n
list-caused m r asked w (faults d other) n = (blamed verb.Hash [] (list_text m) r w d (caused-is-refused w.status n)).3

made-caused : (words : List Word) (input : Input) (o : Outside) (rs : List Record) (w : Response) → Makes words input o rs w → IsTrue (has_cause w.status) → IsCaused words input o w.status
made-caused words input o rs w (answers text read f (usage k h u)) n = not-so has_cause w.status status.Usage (ap (λ (x : Response). x.status) u) refl n
made-caused words input o rs w (answers text read f (does c h d)) n =
    inl
    (record {
      command = c;
      asked = h;
      text = text;
      read = subst (λ k. IsRead k text input) h read;
      found = rs;
      finds = subst (λ k. FindsFor k (operand_words words) text o rs) h f;
      cause = all-caused c.verb (operand_words words) text rs w d n;
    })
made-caused words input o rs w (generates c m r asked h g named one left alone session a) n =
    inr
    (record {
      command = c;
      asked = h;
      of_number = g;
      number = m;
      named = named;
      found = r;
      fetches = asked;
      session = session;
      cause = list-caused m r asked w a n;
    })
made-caused words input o rs w (cannot_read c h rose alone u) n = not-so has_cause w.status status.Read (ap (λ (x : Response). x.status) u) refl n
made-caused words input o rs w (lacks_memory l u) n = not-so has_cause w.status status.Memory (ap (λ (x : Response). x.status) u) refl n

pub caused : (words : List Word) (input : Input) (o : Outside) (out err : Output) (s : Status) → Runs words input o out err s → IsTrue (has_cause s) → IsCaused words input o s
caused words input o out err s run n = by run.delivers
  where
    by : Delivers run.written out err s → IsCaused words input o s
    by (whole g h e) = subst (IsCaused words input o) (sym e) (made-caused words input o run.found run.written run.makes (subst (λ t. IsTrue (has_cause t)) e n))
    by (out_failed g h e) = not-so has_cause s status.Write e refl n
    by (err_failed g h e) = not-so has_cause s status.Write e refl n

-- ---- no cause is want of memory

unlike : {P : Type 0} (s : Status) → is_memory s ≡ false → s ≡ status.Memory → P
unlike s n h = absurd (true≢false (sym (ap is_memory h) ∙ n))

why-memory : (w : Why) → why_status w ≡ status.Memory → w ≡ memory
why-memory (whys.Typing type_faults.Memory) h = refl
why-memory (whys.Typing (type_faults.Ill f)) h = unlike status.Ill refl h
why-memory (whys.Typing type_faults.Wide) h = unlike status.Limit refl h
why-memory (whys.Typing type_faults.Spent) h = unlike status.Limit refl h
why-memory (whys.Typing type_faults.Deep) h = unlike status.Limit refl h
why-memory (whys.Norm f) h = unlike status.Limit refl h
why-memory (whys.Parse f) h = unlike status.Text refl h
why-memory whys.Absent h = unlike status.Import refl h
why-memory whys.Missing h = unlike status.Import refl h
why-memory (whys.Broken n) h = unlike status.Import refl h
why-memory whys.Https h = unlike status.Import refl h
why-memory whys.Failed h = unlike status.Desk refl h
why-memory (whys.Differs wanted got) h = unlike status.Import refl h
why-memory (whys.Insane l) h = unlike status.Import refl h
why-memory (whys.Cors l) h = unlike status.Import refl h
why-memory whys.Cycle h = unlike status.Import refl h
why-memory whys.TooMany h = unlike status.Limit refl h

module _ (r : Record) (root : Term) (b : Blame) (limits : LimitsNeedNone r) where
  failed-none : (w : Walked Term) → ResolvesRoot r root w → end_of w ≡ Some (bad b) → ¬ (b.why ≡ memory)
  failed-none (Ready x) h at e = absurd cc
  failed-none (Fails c) h at e = let same : c ≡ b = cc in roots_need_none r root c limits h (ap (λ (d : Blame). d.why) same ∙ e)
  failed-none (Turns j) h at e = absurd cc
  failed-none (Needs y) h at e = absurd cc

  ended-none : (end : RootEnd) → end ≡ bad b → EndsBy r root end → ¬ (b.why ≡ memory)
  ended-none _ p (resolved w few h at) = failed-none w h (at ∙ ap Some p)
  ended-none _ p (overflows h) = absurd cc

decided-none : (text : List ℕ) (r : Record) (b : Blame) → LimitsNeedNone r → Decides text r b → ¬ (b.why ≡ memory)
decided-none text r b limits (causes.an_import root p ends) e = ended-none r root b limits (bad b) refl ends e
decided-none text r b limits (causes.a_loop root j p ends u) e = unlike status.Import refl (ap why_status (sym (ap (λ (c : Blame). c.why) u) ∙ e))
decided-none text r b limits (causes.all_keys root p ends u) e = unlike status.Limit refl (ap why_status (sym (ap (λ (c : Blame). c.why) u) ∙ e))

cause-none : (v : Verb) (ops : List Word) (text : List ℕ) (r : Record) (s : Status) → LimitsNeedNone r → Cause v ops text r s → ¬ (s ≡ status.Memory)
cause-none v ops text r _ limits (causes.no_expression f h p) e = absurd cc
cause-none v ops text r _ limits (causes.no_binary_form f h p) e = absurd cc
cause-none v ops text r _ limits (causes.too_large h l) e = absurd cc
cause-none v ops text r _ limits (causes.at_fault b h d) e = decided-none text r b limits d (why-memory b.why e)
cause-none v ops text r _ limits (causes.no_type t f h val ill) e = absurd cc
cause-none v ops text r _ limits (causes.at_limit t l h val m k) e = absurd cc
cause-none v ops text r _ limits (causes.no_value t ty f place same val is nf deep j) e = absurd cc
cause-none v ops text r _ limits (causes.no_fragment t place h p o) e = absurd cc
cause-none v ops text r _ limits (causes.no_rule t places n h k p g) e = absurd cc
cause-none v ops text r _ limits (causes.grows t places n h k p g) e = absurd cc

-- what a run finds for a limit is none either
found-none : (told : Telling) (shelved : Shelving) (r : Record) → IsFound told shelved r → LimitsNeedNone r
found-none told shelved r f l w q u = let limited = f.limits l w q in absurd (subst (IsLimitOf limited.code) u limited.licensed)

nothing-none : LimitsNeedNone nothing_found
nothing-none l w q u = none-some refl q

list-none : (m : ℕ) (r : Record) (asked : ℕ) → GenSession m r asked → LimitsNeedNone r
list-none m _ _ (on_list {r = r} session none) = found-none generated.told generated.shelved r session.is_found
list-none m _ _ no_list = nothing-none

-- ---- what a refusal writes

abbrev OneLine : Response → Type 0
OneLine w = (told : List ℕ) × (w.out ≡ []) × (w.err ≡ line told) × (w.status ≡ status.Memory → told ≡ memory_line)

line-of : (w : Response) (told : List ℕ) (s : Status) → w ≡ fault told s → (s ≡ status.Memory → told ≡ memory_line) → OneLine w
line-of w told s u h = (told, ap (λ (x : Response). x.out) u, ap (λ (x : Response). x.err) u, λ e. h (sym (ap (λ (x : Response). x.status) u) ∙ e))

list-line : (m : ℕ) (r : Record) (asked : ℕ) (w : Response) → LimitsNeedNone r → GenAnswer m r asked w → IsTrue (is_refusal w.status) → OneLine w
list-line m r asked w limits (counts root digest p d u) n = no-answer w _ u n
list-line m r asked w limits (faults d other) n =
    let (told, p, q, z) = blamed verb.Hash [] (list_text m) r w d n in (told, p, q, λ e. absurd (cause-none verb.Hash [] (list_text m) r w.status limits z e))

-- or the lines of files
record FileLines (words : List Word) (w : Response) : Type 0 where
  command : Command
  asked : command_of words ≡ Ok command
  of_files : command.verb ≡ verb.Batch
  answers_are : List Response
  one_for_each : length answers_are ≡ length (operand_words words)
  lines : w.out ≡ file_lines (operand_words words) answers_are
  quiet : w.err ≡ []

as-many : {ops : List Word} {rs : List Record} {ws : List Response} → FileAnswers ops rs ws → length ws ≡ length ops
as-many no_file = refl
as-many (a_file a rest) = ap suc (as-many rest)

made-line : (words : List Word) (input : Input) (o : Outside) (rs : List Record) (w : Response) → Makes words input o rs w → IsTrue (is_refusal w.status) → OneLine w ⊎ FileLines words w
made-line words input o rs w (answers text read f (usage k h u)) n = inl (line-of w (usage_line k) status.Usage u (λ e. unlike status.Usage refl e))
made-line words input o rs w (answers text read f (does c h (on_input r one d))) n =
    let (told, p, q, z) = blamed c.verb (operand_words words) text r w d n in
    let all = each_found LimitsNeedNone nothing-none found-none c.verb (operand_words words) text o rs (subst (λ k. FindsFor k (operand_words words) text o rs) h f) in
    let limits = (subst (EachRecord LimitsNeedNone) one all).0 in
    inl (told, p, q, λ e. absurd (cause-none c.verb (operand_words words) text r w.status limits z e))
made-line words input o rs w (answers text read f (does c h (on_files ws b a u))) n =
    inr (record { command = c; asked = h; of_files = b; answers_are = ws; one_for_each = as-many a; lines = ap (λ (x : Response). x.out) u; quiet = ap (λ (x : Response). x.err) u })
made-line words input o rs w (generates c m r asked h g named one left alone session a) n = inl (list-line m r asked w (list-none m r asked session) a n)
made-line words input o rs w (cannot_read c h rose alone u) n = inl (line-of w read_line status.Read u (λ e. unlike status.Read refl e))
made-line words input o rs w (lacks_memory l u) n = inl (line-of w memory_line status.Memory u (λ e. refl))

pub told-line : (words : List Word) (input : Input) (o : Outside) (out err : Output) (s : Status) → Runs words input o out err s → IsTrue (is_refusal s) → TellsRefusal words s out err
told-line words input o out err s run n = by run.delivers
  where
    one : (w : Response) → Gains out w.out → Gains err w.err → s ≡ w.status → OneLine w → TellsOneLine s out err
    one w g h e (told, p, q, m) = (subst (Gains out) p g, (told, λ k. m (sym e ∙ k), subst (Gains err) q h))

    told : (w : Response) → Gains out w.out → Gains err w.err → s ≡ w.status → OneLine w ⊎ FileLines words w → TellsRefusal words s out err
    told w g h e (inl line) = inl (one w g h e line)
    told w g h e (inr f) =
        inr (record { command = f.command; asked = f.asked; of_files = f.of_files; answers = f.answers_are; one_for_each = f.one_for_each; lines = subst (Gains out) f.lines g; quiet = subst (Gains err) f.quiet h })

    by : Delivers run.written out err s → TellsRefusal words s out err
    by (whole g h e) = told run.written g h e (made-line words input o run.found run.written run.makes (subst (λ t. IsTrue (is_refusal t)) e n))
    by (out_failed g h e) = not-so is_refusal s status.Write e refl n
    by (err_failed g h e) = not-so is_refusal s status.Write e refl n
