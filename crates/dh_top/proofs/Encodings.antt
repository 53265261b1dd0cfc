-- Replies as answers.
use Rattle.std.proofs.Common.{◌≡◌, ◌⊎◌, inl, inr, ℕ, ◌≤◌, ◌<◌, List, [], ◌∷◌, length, take, Option, Some, None, Result, Ok, Err, IfOk, IfSome, refl, sym, ap, ◌∙◌, subst, arith, take_all, length-take-le, Bool, true, false, true≢false, nat_lt}
use Rattle.std.specs.Prelude.{IsTrue, MatchBool, OnErr}
use Rattle.std.proofs.lemmas.Bool.{ltb-true, ltb-false}
use Rattle.std.specs.Io.KnownBytes.{Consumes, Keeps}
use Rattle.std.specs.declared.alloc.AllocError.{AllocError}
use Rattle.dh_ports.specs.Counts.{Rose}
use Rattle.dh_command.specs.declared.commands.Command.{Command}
use Rattle.dh_syntax.specs.declared.faults.DecodeFault.{DecodeFault}
use Rattle.dh_syntax.specs.declared.faults.ParseFault.{ParseFault}
use Rattle.dh_syntax.specs.declared.faults.ParseFault.TheVariants as parse
use Rattle.dh_command.specs.declared.statuses.Status.TheVariants as status
use Rattle.dh_command.specs.declared.verbs.Verb.{Verb}
use Rattle.dh_command.specs.declared.verbs.Verb.TheVariants as verb
use Rattle.dh_syntax.specs.Bytes.BinaryFaults.{DecodesTo}
use Rattle.dh_command.specs.Answer.{Does, encodes, decodes, decodes_none, spells, spells_none, takes_steps, explains, helps, tells_version, DoesAll, on_input, on_files, usage, does, encoded, decoded, nothing_found}
use Rattle.dh_command.specs.Responses.{Response, answer, misspelt, misused, unread}
use Rattle.dh_command.specs.Telling.{help_text, version_text}
use Rattle.dh_steps.specs.StepsAnswer as steps
use Rattle.dh_steps.specs.StepsAnswer.{StepsAnswer, StepsReply}
use Rattle.dh_command.specs.Words.{Word, command_of, operand_words, reads, resolves as does_resolve}
use Rattle.dh_syntax.specs.Expressions.Tree.{Term}
use Rattle.dh_imports.specs.Records.{Record}
use Rattle.dh_syntax.specs.Limits.{most_bytes}
use Rattle.dh_syntax.specs.Text.Spelling.{ParsesTo}
use Rattle.dh_top.proofs.Devices.{alone_status, desk_failed, other_statuses}
use Rattle.dh_top.specs.declared.replies.Reply.{Reply}
use Rattle.dh_top.specs.Outside.{Outside, Finds, finds, finds_each, leaves, FilesPart, files_none, files_some, files_of_each, IsLeftAlone}
use Rattle.dh_top.specs.Replies.{IsExplained, written, Answers, IsMade, Performs, Lacks}
use Rattle.dh_streams.specs.Streams.{Input, IsTaken, IsLeft, IsQuiet, reading}
use Rattle.dh_top.specs.Runs.{Makes, answers, cannot_read, FindsFor, LacksMemory, lacks_early, lacks_late, IsRead}

-- ---- the reply to what a text is parsed to, and to what bytes are decoded to

pub encodes_any : (r : Result Reply AllocError) (text : List ℕ) (o : Result Term ParseFault) → ParsesTo text o
    → IfOk r (λ x. written x ≡ encoded o) → IfOk r (λ x. (ops : List Word) → Does verb.Encode ops text nothing_found (written x))
encodes_any (Ok x) text o p w = λ ops. encodes o refl p w
encodes_any (Err e) text o p w = tt

pub decodes_any : (r : Result Reply AllocError) (bytes : List ℕ) (o : Result Term DecodeFault) → length bytes ≤ most_bytes → DecodesTo bytes o
    → IfOk r (λ x. written x ≡ decoded o) → IfOk r (λ x. (ops : List Word) → Does verb.Decode ops bytes nothing_found (written x))
decodes_any (Ok x) bytes o s p w = λ ops. decodes o refl s p w
decodes_any (Err e) bytes o s p w = tt

pub decodes_too_large : (r : Result Reply AllocError) (bytes : List ℕ) → most_bytes < length bytes
    → IfOk r (λ x. written x ≡ misspelt parse.TooLarge) → IfOk r (λ x. (ops : List Word) → Does verb.Decode ops bytes nothing_found (written x))
decodes_too_large (Ok x) bytes l w = λ ops. decodes_none refl l w
decodes_too_large (Err e) bytes l w = tt

-- ---- an input of which only a first part was read, since it is too large

-- the length of what was read
read_length : (n : ℕ) (text : List ℕ) → n ≡ 1048577 → n ≤ length text → length (take n text) ≡ 1048577
read_length n text m h = length-take-le n text h ∙ m

longer_parse : (n : ℕ) (text : List ℕ) (o : Result Term ParseFault) → n ≡ 1048577 → n ≤ length text → ParsesTo (take n text) o → ParsesTo text o
longer_parse n text (Ok e) m h p = absurd (let s = p.is_text.0 in let l = read_length n text m h in omega (arith, s, l))
longer_parse n text (Err parse.TooLarge) m h p = omega (arith, m, h)
longer_parse n text (Err (parse.NotUtf8 at)) m h p = absurd (let s = p.0 in let l = read_length n text m h in omega (arith, s, l))
longer_parse n text (Err (parse.Syntax at)) m h p = absurd (let s = p.0.0 in let l = read_length n text m h in omega (arith, s, l))
longer_parse n text (Err (parse.Wide at)) m h p = absurd (let s = p.0.0 in let l = read_length n text m h in omega (arith, s, l))
longer_parse n text (Err (parse.Out at)) m h p = absurd (let s = p.0.0 in let l = read_length n text m h in omega (arith, s, l))
longer_parse n text (Err parse.TooNested) m h p = absurd (let s = p.0.0 in let l = read_length n text m h in omega (arith, s, l))
longer_parse n text (Err parse.Memory) m h p = p

longer_steps : (places : List (List ℕ)) (n : ℕ) (text : List ℕ) (s : StepsReply) → n ≡ 1048577 → n ≤ length text → StepsAnswer places (take n text) s → StepsAnswer places text s
longer_steps places n text s m h (steps.spells_none f p u) = steps.spells_none f (longer_parse n text (Err f) m h p) u
longer_steps places n text s m h (steps.is_outside e at p q u) = absurd (let k = p.is_text.0 in let l = read_length n text m h in omega (arith, k, l))
longer_steps places n text s m h (steps.has_no_rule e i p q r u) = absurd (let k = p.is_text.0 in let l = read_length n text m h in omega (arith, k, l))
longer_steps places n text s m h (steps.grows e i p q r u) = absurd (let k = p.is_text.0 in let l = read_length n text m h in omega (arith, k, l))
longer_steps places n text s m h (steps.is_normal e f p i q r t u) = absurd (let k = p.is_text.0 in let l = read_length n text m h in omega (arith, k, l))
longer_steps places n text s m h (steps.is_not_normal e f p i q r t u) = absurd (let k = p.is_text.0 in let l = read_length n text m h in omega (arith, k, l))

longer : (v : Verb) (ops : List Word) (n : ℕ) (text : List ℕ) (r : Record) (w : Response) → n ≡ 1048577 → n ≤ length text → Does v ops (take n text) r w → Does v ops text r w
longer v ops n text r w m h (encodes o e p q) = encodes o e (longer_parse n text o m h p) q
longer v ops n text r w m h (decodes o e s p q) = absurd (let l = read_length n text m h in omega (arith, s, l))
longer v ops n text r w m h (decodes_none e l q) = decodes_none e (omega (arith, m, h)) q
longer v ops n text r w m h (spells e o p q) = absurd (let s = p.is_text.0 in let l = read_length n text m h in omega (arith, s, l))
longer v ops n text r w m h (spells_none f o p q) = spells_none f o (longer_parse n text (Err f) m h p) q
longer v ops n text r w m h (takes_steps places s e k a u) = takes_steps places s e k (longer_steps places n text s m h a) u
longer v ops n text r w m h (explains told e k q) = explains told e k q
longer v ops n text r w m h (helps e q) = helps e q
longer v ops n text r w m h (tells_version e q) = tells_version e q

-- what is parsed of it is no expression
longer_none : {P : Type 0} (n : ℕ) (text : List ℕ) (e : Term) → n ≡ 1048577 → n ≤ length text → ParsesTo (take n text) (Ok e) → P
longer_none n text e m h p = absurd (let s = p.is_text.0 in let l = read_length n text m h in omega (arith, s, l))

longer_finds : (v : Verb) (ops : List Word) (n : ℕ) (text : List ℕ) (o : Outside) (rs : List Record) → n ≡ 1048577 → n ≤ length text → Finds v ops (take n text) o rs → Finds v ops text o rs
longer_finds v ops n text o rs m h (finds r asks pairs t one s shown) = longer_none n text s.root m h s.spelled
longer_finds v ops n text o rs m h (finds_each asks pairs b s shown) = finds_each asks pairs b s shown
longer_finds v ops n text o rs m h (leaves none alone) = leaves none alone

longer_part : (v : Verb) (ops : List Word) (n : ℕ) (text : List ℕ) (o : Outside) → n ≡ 1048577 → n ≤ length text → FilesPart v ops (take n text) o → FilesPart v ops text o
longer_part v ops n text o m h (files_none same) = files_none same
longer_part v ops n text o m h (files_some r asks pairs t s shown) = longer_none n text s.root m h s.spelled
longer_part v ops n text o m h (files_of_each rs asks pairs b s shown) = files_of_each rs asks pairs b s shown

longer_all : (v : Verb) (ops : List Word) (n : ℕ) (text : List ℕ) (rs : List Record) (w : Response) → n ≡ 1048577 → n ≤ length text → DoesAll v ops (take n text) rs w → DoesAll v ops text rs w
longer_all v ops n text rs w m h (on_input r one d) = on_input r one (longer v ops n text r w m h d)
longer_all v ops n text rs w m h (on_files ws b a u) = on_files ws b a u

by_test : (m n : ℕ) (b : Bool) → nat_lt n m ≡ b → (m ≤ n) ⊎ (n ≤ m)
by_test m n true e = inr (let h = ltb-true n m e in omega arith)
by_test m n false e = inl (let h = ltb-false n m e in omega arith)

cases_le : (m n : ℕ) → (m ≤ n) ⊎ (n ≤ m)
cases_le m n = by_test m n (nat_lt n m) refl

-- what was read of an input is answered as the whole input
whole_by : (P : List ℕ → Type 0) (n : ℕ) (text bytes : List ℕ) → n ≡ 1048577 → bytes ≡ take n text → (n ≤ length text → P (take n text) → P text) → P bytes → P text
whole_by P n text bytes m e long p = elim (cases_le (length text) n) [
  | inl h ↦ subst P (e ∙ take_all n text h) p
  | inr h ↦ long h (subst P e p)
]

whole : (v : Verb) (ops : List Word) (n : ℕ) (text bytes : List ℕ) (o : Outside) (w : Response) → n ≡ 1048577 → bytes ≡ take n text → Answers v ops bytes o w → Answers v ops text o w
whole v ops n text bytes o w m e a = record {
  found = a.found;
  finds = whole_by (λ t. Finds v ops t o a.found) n text bytes m e (λ h. longer_finds v ops n text o a.found m h) a.finds;
  does = whole_by (λ t. DoesAll v ops t a.found w) n text bytes m e (λ h. longer_all v ops n text a.found w m h) a.does;
  devices = a.devices;
}

whole_part : (v : Verb) (ops : List Word) (n : ℕ) (text bytes : List ℕ) (o : Outside) → n ≡ 1048577 → bytes ≡ take n text → FilesPart v ops bytes o → FilesPart v ops text o
whole_part v ops n text bytes o m e p = whole_by (λ t. FilesPart v ops t o) n text bytes m e (λ h. longer_part v ops n text o m h) p

-- ---- a command on its input

-- a command that resolves imports reads its input
pub resolving_reads : (v : Verb) → IsTrue (does_resolve v) → reads v ≡ true
resolving_reads verb.Encode t = refl
resolving_reads verb.Decode t = refl
resolving_reads verb.Resolve t = refl
resolving_reads verb.Type t = refl
resolving_reads verb.Normalize t = refl
resolving_reads verb.Hash t = refl
resolving_reads verb.ToJson t = refl
resolving_reads verb.Freeze t = refl
resolving_reads verb.Steps t = refl
resolving_reads verb.Gen t = absurd (true≢false (sym t))
resolving_reads verb.Batch t = absurd (true≢false (sym t))
resolving_reads verb.Explain t = absurd (true≢false (sym t))
resolving_reads verb.Help t = absurd (true≢false (sym t))
resolving_reads verb.Version t = absurd (true≢false (sym t))

read_by : (b : Bool) (text : List ℕ) (input : Input) → b ≡ true → IsTaken text input → MatchBool b (IsTaken text input) (IsLeft input)
read_by true text input e t = t
read_by false text input e t = absurd (true≢false (sym e))

left_by : (b : Bool) (text : List ℕ) (input : Input) → b ≡ false → IsLeft input → MatchBool b (IsTaken text input) (IsLeft input)
left_by true text input e t = absurd (true≢false e)
left_by false text input e t = t

is_read : (words : List Word) (c : Command) (text : List ℕ) (input : Input) → command_of words ≡ Ok c → reads c.verb ≡ true → IsTaken text input → IsRead (command_of words) text input
is_read words c text input e t taken = subst (λ r. IsRead r text input) (sym e) (read_by (reads c.verb) text input t taken)

is_left : (words : List Word) (c : Command) (text : List ℕ) (input : Input) → command_of words ≡ Ok c → reads c.verb ≡ false → IsLeft input → IsRead (command_of words) text input
is_left words c text input e t kept = subst (λ r. IsRead r text input) (sym e) (left_by (reads c.verb) text input t kept)

finds_for : (words : List Word) (c : Command) (ops : List Word) (text : List ℕ) (o : Outside) (rs : List Record) → command_of words ≡ Ok c → operand_words words ≡ ops → Finds c.verb ops text o rs
    → FindsFor (command_of words) (operand_words words) text o rs
finds_for words c ops text o rs e os f = subst (λ x. FindsFor x (operand_words words) text o rs) (sym e) (subst (λ ws. Finds c.verb ws text o rs) (sym os) f)

made_of : (words : List Word) (c : Command) (ops : List Word) (text : List ℕ) (input : Input) (o : Outside) (w : Response) → command_of words ≡ Ok c → operand_words words ≡ ops → IsRead (command_of words) text input
    → Answers c.verb ops text o w → IsMade words input o w
made_of words c ops text input o w e os read a = record {
  found = a.found;
  makes = answers text read (finds_for words c ops text o a.found e os a.finds) (does c e (subst (λ ws. DoesAll c.verb ws text a.found w) (sym os) a.does));
  devices = λ d. desk_failed c.verb ops text o a.found a.finds (a.devices d);
}

made : (n : ℕ) (before after : Option (List ℕ)) (f g : ℕ) (words : List Word) (c : Command) (ops : List Word) (bytes : List ℕ) (o : Outside) (w : Response) → n ≡ 1048577 → command_of words ≡ Ok c → operand_words words ≡ ops
    → reads c.verb ≡ true → Consumes before after bytes → IfSome before (λ left. bytes ≡ take n left) → g ≡ f → Answers c.verb ops bytes o w → IsMade words (reading before after f g) o w
made n None after f g words c ops bytes o w m e os t taken all quiet r =
    let input = reading None after f g in
    made_of words c ops bytes input o w e os (is_read words c bytes input e t (tt, tt, quiet)) r
made n (Some left) after f g words c ops bytes o w m e os t taken all quiet r =
    let input = reading (Some left) after f g in
    let part : bytes ≡ take 1048577 left = subst (λ k. bytes ≡ take k left) m all in
    made_of words c ops left input o w e os (is_read words c left input e t (refl, subst (Consumes (Some left) after) part taken, quiet)) (whole c.verb ops n left bytes o w m all r)

lacks : (n : ℕ) (before after : Option (List ℕ)) (f g : ℕ) (words : List Word) (c : Command) (bytes : List ℕ) (o : Outside) → n ≡ 1048577 → command_of words ≡ Ok c → reads c.verb ≡ true
    → Consumes before after bytes → IfSome before (λ left. bytes ≡ take n left) → g ≡ f → FilesPart c.verb (operand_words words) bytes o → LacksMemory words (reading before after f g) o
lacks n None after f g words c bytes o m e t taken all quiet p = lacks_late c bytes e (read_by (reads c.verb) bytes (reading None after f g) t (tt, tt, quiet)) p
lacks n (Some left) after f g words c bytes o m e t taken all quiet p =
    let part : bytes ≡ take 1048577 left = subst (λ k. bytes ≡ take k left) m all in
    lacks_late c left e (read_by (reads c.verb) left (reading (Some left) after f g) t (refl, subst (Consumes (Some left) after) part taken, quiet))
    (whole_part c.verb (operand_words words) n left bytes o m all p)

-- a command on what was read; `bytes` is seen through a slice
pub performs_command : (c : Command) (ops : List Word) (n : ℕ) (before after : Option (List ℕ)) (f g : ℕ) (bytes seen : List ℕ) (o : Outside) (r : Result Reply AllocError) → n ≡ 1048577
    → reads c.verb ≡ true → Consumes before after bytes → IfSome before (λ left. bytes ≡ take n left) → g ≡ f → seen ≡ bytes → IfOk r (λ x. Answers c.verb ops seen o (written x))
    → IfOk r (λ x. Performs c ops (reading before after f g) o (written x))
performs_command c ops n before after f g bytes seen o (Ok x) m t taken all quiet s h =
    λ words e os. made n before after f g words c ops bytes o (written x) m e os t taken all quiet (subst (λ t. Answers c.verb ops t o (written x)) s h)
performs_command c ops n before after f g bytes seen o (Err e) m t taken all quiet s h = tt

pub lacks_command : (c : Command) (ops : List Word) (n : ℕ) (before after : Option (List ℕ)) (f g : ℕ) (bytes seen : List ℕ) (o : Outside) (r : Result Reply AllocError) → n ≡ 1048577
    → reads c.verb ≡ true → Consumes before after bytes → IfSome before (λ left. bytes ≡ take n left) → g ≡ f → seen ≡ bytes → OnErr r (FilesPart c.verb ops seen o)
    → OnErr r (Lacks c ops (reading before after f g) o)
lacks_command c ops n before after f g bytes seen o (Ok x) m t taken all quiet s h = tt
lacks_command c ops n before after f g bytes seen o (Err x) m t taken all quiet s h =
    λ words e os. lacks n before after f g words c bytes o m e t taken all quiet (subst (λ ws. FilesPart c.verb ws bytes o) (sym os) (subst (λ t. FilesPart c.verb ops t o) s h))

pub keeps_itself : (a : Option (List ℕ)) → Keeps a a
keeps_itself None = tt
keeps_itself (Some x) = refl

-- a command that leaves its input alone
pub performs_apart : (c : Command) (ops : List Word) (left : Option (List ℕ)) (f : ℕ) (text : List ℕ) (o : Outside) (r : Result Reply AllocError) → reads c.verb ≡ false
    → IfOk r (λ x. Answers c.verb ops text o (written x)) → IfOk r (λ x. Performs c ops (reading left left f f) o (written x))
performs_apart c ops left f text o (Ok x) idle a =
    λ words e os. made_of words c ops text (reading left left f f) o (written x) e os (is_left words c text (reading left left f f) e idle (keeps_itself left, refl)) a
performs_apart c ops left f text o (Err x) idle a = tt

pub lacks_apart : (c : Command) (ops : List Word) (left : Option (List ℕ)) (f : ℕ) (text : List ℕ) (o : Outside) (r : Result Reply AllocError) → reads c.verb ≡ false
    → OnErr r (FilesPart c.verb ops text o) → OnErr r (Lacks c ops (reading left left f f) o)
lacks_apart c ops left f text o (Ok x) idle p = tt
lacks_apart c ops left f text o (Err x) idle p =
    λ words e os. lacks_late c text e (left_by (reads c.verb) text (reading left left f f) idle (keeps_itself left, refl)) (subst (λ ws. FilesPart c.verb ws text o) (sym os) p)

-- an input that could not be read
pub performs_unread : (c : Command) (ops : List Word) (input : Input) (o : Outside) (r : Result Reply AllocError) → Rose input.faults_before input.faults_after → IsLeftAlone o
    → IfOk r (λ x. written x ≡ unread) → IfOk r (λ x. Performs c ops input o (written x))
performs_unread c ops input o (Ok x) rose alone h = λ words e os. record { found = nothing_found ∷ []; makes = cannot_read c e rose alone h; devices = other_statuses (written x) status.Read (ap (λ w. w.status) h) (λ n. omega (arith, n)) }
performs_unread c ops input o (Err e) rose alone h = tt

-- memory was wanting before anything was kept
pub lacks_before : {A : Type 0} (c : Command) (ops : List Word) (input : Input) (o : Outside) (r : Result A AllocError) → o.filed_after ≡ o.filed_before → OnErr r (Lacks c ops input o)
lacks_before c ops input o (Ok x) same = tt
lacks_before c ops input o (Err e) same = λ words is os. lacks_early same

-- a command by its words
pub made_by_words : (words : List Word) (c : Command) (ops : List Word) (input : Input) (o : Outside) (r : Result Reply AllocError) → command_of words ≡ Ok c → ops ≡ operand_words words
    → IfOk r (λ x. Performs c ops input o (written x)) → IfOk r (λ x. IsMade words input o (written x))
made_by_words words c ops input o (Ok x) e os h = h words e (sym os)
made_by_words words c ops input o (Err x) e os h = tt

pub lacks_by_words : (words : List Word) (c : Command) (ops : List Word) (input : Input) (o : Outside) (r : Result Reply AllocError) → command_of words ≡ Ok c → ops ≡ operand_words words
    → OnErr r (Lacks c ops input o) → OnErr r (LacksMemory words input o)
lacks_by_words words c ops input o (Ok x) e os h = tt
lacks_by_words words c ops input o (Err x) e os h = h words e (sym os)

-- words that are no command line
pub made_misused : (words : List Word) (k : ℕ) (input : Input) (o : Outside) (r : Result Reply AllocError) → command_of words ≡ Err k → Keeps input.before input.after → IsQuiet input
    → IsLeftAlone o → IfOk r (λ x. written x ≡ misused k) → IfOk r (λ x. IsMade words input o (written x))
made_misused words k input o (Ok x) e kept quiet alone h = record {
  found = nothing_found ∷ [];
  makes = answers [] (subst (λ r. IsRead r [] input) (sym e) (kept, quiet)) (subst (λ r. FindsFor r (operand_words words) [] o (nothing_found ∷ [])) (sym e) (refl, alone)) (usage k e h);
  devices = other_statuses (written x) status.Usage (ap (λ w. w.status) h) (λ n. omega (arith, n));
}
made_misused words k input o (Err x) e kept quiet alone h = tt

pub lacks_misused : (words : List Word) (input : Input) (o : Outside) (r : Result Reply AllocError) → IsLeftAlone o → OnErr r (LacksMemory words input o)
lacks_misused words input o (Ok x) alone = tt
lacks_misused words input o (Err e) alone = lacks_early alone.0

-- ---- commands that resolve nothing

pub answers_alone : (v : Verb) (ops : List Word) (text : List ℕ) (o : Outside) (r : Result Reply AllocError) → does_resolve v ≡ false → IsLeftAlone o → IfOk r (λ x. Does v ops text nothing_found (written x))
    → IfOk r (λ x. Answers v ops text o (written x))
answers_alone v ops text o (Ok x) none alone h =
    record { found = nothing_found ∷ []; finds = leaves refl alone; does = on_input nothing_found refl h; devices = alone_status v ops text nothing_found (written x) none h }
answers_alone v ops text o (Err e) none alone h = tt

pub alone_for : (v u : Verb) (ops : List Word) (text : List ℕ) (o : Outside) (r : Result Reply AllocError) → v ≡ u → does_resolve u ≡ false → IsLeftAlone o → IfOk r (λ x. Does u ops text nothing_found (written x))
    → IfOk r (λ x. Answers v ops text o (written x))
alone_for v u ops text o r same none alone h = subst (λ v. IfOk r (λ x. Answers v ops text o (written x))) (sym same) (answers_alone u ops text o r none alone h)

-- what is answered whatever the operands
pub with_operands : (v : Verb) (ops : List Word) (text : List ℕ) (r : Result Reply AllocError) → IfOk r (λ x. (ops : List Word) → Does v ops text nothing_found (written x))
    → IfOk r (λ x. Does v ops text nothing_found (written x))
with_operands v ops text (Ok x) h = h ops
with_operands v ops text (Err e) h = tt

pub part_none : {A : Type 0} (v : Verb) (ops : List Word) (text : List ℕ) (o : Outside) (r : Result A AllocError) → o.filed_after ≡ o.filed_before → OnErr r (FilesPart v ops text o)
part_none v ops text o (Ok x) same = tt
part_none v ops text o (Err e) same = files_none same

-- the same whatever the operands
pub part_none_any : {A : Type 0} (v : Verb) (text : List ℕ) (o : Outside) (r : Result A AllocError) → o.filed_after ≡ o.filed_before → OnErr r ((ops : List Word) → FilesPart v ops text o)
part_none_any v text o (Ok x) same = tt
part_none_any v text o (Err e) same = λ ops. files_none same

pub part_with : {A : Type 0} (v : Verb) (ops : List Word) (text : List ℕ) (o : Outside) (r : Result A AllocError) → OnErr r ((ops : List Word) → FilesPart v ops text o) → OnErr r (FilesPart v ops text o)
part_with v ops text o (Ok x) h = tt
part_with v ops text o (Err e) h = h ops

-- ---- what the program tells of itself

pub explains_any : (r : Result Reply AllocError) (ops : List Word) (text : List ℕ) → IfOk r (λ x. IsExplained ops (written x)) → IfOk r (λ x. Does verb.Explain ops text nothing_found (written x))
explains_any (Ok x) ops text (told, k, w) = explains told refl k w
explains_any (Err e) ops text w = tt

pub helps_any : (r : Result Reply AllocError) (ops : List Word) (text : List ℕ) → IfOk r (λ x. written x ≡ answer help_text) → IfOk r (λ x. Does verb.Help ops text nothing_found (written x))
helps_any (Ok x) ops text w = helps refl w
helps_any (Err e) ops text w = tt

pub tells_version_any : (r : Result Reply AllocError) (ops : List Word) (text : List ℕ) → IfOk r (λ x. written x ≡ answer version_text) → IfOk r (λ x. Does verb.Version ops text nothing_found (written x))
tells_version_any (Ok x) ops text w = tells_version refl w
tells_version_any (Err e) ops text w = tt
