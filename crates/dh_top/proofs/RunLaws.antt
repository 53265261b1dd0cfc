-- What a run says of its words and of its devices.
use Rattle.std.proofs.Common.{◌≡◌, ◌⊎◌, inl, inr, ℕ, ◌<◌, List, [], ◌∷◌, Option, Some, None, Result, Ok, Err, IfOk, IfSome, Bool, true, false, true≢false, refl, sym, ap, ◌∙◌, subst, arith}
use Rattle.std.specs.Prelude.{MatchBool, IsTrue, OnErr}
use Rattle.std.specs.declared.alloc.AllocError.{AllocError}
use Rattle.dh_grammar.proofs.Results.Answering.{parses_once}
use Rattle.dh_ports.specs.Counts.{Rose}
use Rattle.dh_syntax.proofs.BinaryFaultLaws.{decodes-unique}
use Rattle.dh_command.specs.declared.commands.Command.{Command}
use Rattle.dh_syntax.specs.declared.faults.DecodeFault.{DecodeFault}
use Rattle.dh_syntax.specs.declared.faults.ParseFault.{ParseFault}
use Rattle.dh_command.specs.declared.statuses.Status.{Status}
use Rattle.dh_command.specs.declared.statuses.Status.TheVariants as status
use Rattle.dh_command.specs.declared.verbs.Verb.{Verb}
use Rattle.dh_command.specs.declared.verbs.Verb.TheVariants as verb
use Rattle.dh_command.specs.Answer.{Does, ResolvedAnswer, ValuedAnswer, encodes, decodes, decodes_none, spells, spells_none, takes_steps, explains, helps, tells_version, valued, faulty, circular, overfull, itself, frozen, typed, usage, does, DoesAll, on_input, on_files, encoded, decoded, Succeeds, input_succeeds, files_succeed, list_succeeds, FilesSucceed, SucceedsOnInput, SucceedsBy, SucceedsOn, FileAnswer, FileAnswers, hashes_file, file_lacks_memory, no_file, a_file, first_fault, unless_ok, nothing_found}
use Rattle.dh_command.specs.Generating.{GenAnswer, counts, faults}
use Rattle.dh_command.specs.Responses.{Response, without_memory}
use Rattle.dh_command.specs.Words.{Word, command_of, operand_words, reads, resolves as does_resolve}
use Rattle.dh_files.specs.FileWords.{file_text}
use Rattle.dh_gen.specs.Generated.{list_text}
use Rattle.dh_gen.specs.NumberWords.{operand_number}
use Rattle.dh_syntax.specs.Expressions.Tree.{Term}
use Rattle.dh_imports.specs.Readings.{Reading, root_reading}
use Rattle.dh_imports.specs.Records.{Record}
use Rattle.dh_imports.specs.Replay.{RootEnd, ready, bad, looped, too_many, end_of}
use Rattle.dh_imports.specs.Resolver.{ResolvesRoot, resolve}
use Rattle.dh_imports.specs.RootEnds.{EndsBy, resolved, overflows}
use Rattle.dh_imports.specs.Walk.{Walked, Ready, Fails, Turns, Needs, walk}
use Rattle.dh_syntax.specs.Text.Spelling.{ParsesTo}
use Rattle.dh_laws.proofs.KeyOrder.{none-some, some-equal}
use Rattle.dh_import_laws.specs.ImportLaws.{IsDecided}
use Rattle.dh_import_laws.proofs.Facts.{decided_same}
use Rattle.dh_import_laws.proofs.Grow.{plus, rises-plus, rises-plus_left, resolve-rises}
use Rattle.dh_import_laws.proofs.Walks.{Knows, Grown, walk-grown}
use Rattle.dh_top.proofs.Devices.{told_device}
use Rattle.dh_top.proofs.Encodings.{resolving_reads}
use Rattle.dh_top.proofs.Normals.{type_ends_ok, form_ends_ok}
use Rattle.dh_top.proofs.Spelled.{not_both, same_term}
use Rattle.dh_top.proofs.StepReplies.{steps_end_ok}
use Rattle.dh_top.specs.declared.replies.Reply.{Reply}
use Rattle.dh_top.specs.Outside.{Outside}
use Rattle.dh_top.specs.Replies.{written, IsMade}
use Rattle.dh_streams.specs.Deliveries.{Delivers, whole, out_failed, err_failed}
use Rattle.dh_streams.specs.Streams.{Input, Output, IsTaken, IsLeft, reading}
use Rattle.dh_top.specs.Runs.{Makes, DeskFailed, answers, generates, cannot_read, lacks_memory, LacksMemory, Runs, Works, IsRead}

-- a command line is no misuse, and asks for one command
abbrev is_ok : Result Command ℕ → Bool
is_ok (Ok c) = true
is_ok (Err k) = false

ok_not_err : (c : Command) (k : ℕ) (r : Result Command ℕ) → r ≡ Ok c → r ≡ Err k → ⊥
ok_not_err c k r e f = true≢false (ap is_ok (sym e ∙ f))

abbrev command_or : Command → Result Command ℕ → Command
command_or c (Ok d) = d
command_or c (Err k) = c

ok_is : (c d : Command) (r : Result Command ℕ) → r ≡ Ok c → r ≡ Ok d → c ≡ d
ok_is c d r e f = ap (command_or c) (sym e ∙ f)

-- commands have numbers, so different ones are told apart
abbrev number : Verb → ℕ
number verb.Encode = 0
number verb.Decode = 1
number verb.Resolve = 2
number verb.Type = 3
number verb.Normalize = 4
number verb.Hash = 5
number verb.ToJson = 6
number verb.Freeze = 7
number verb.Steps = 8
number verb.Explain = 9
number verb.Help = 10
number verb.Version = 11
number verb.Batch = 12
number verb.Gen = 13

pub apart : (u v : Verb) → u ≡ v → (number u ≡ number v → ⊥) → ⊥
apart u v e n = n (ap number e)

taken_by : (b : Bool) (text : List ℕ) (input : Input) → b ≡ true → MatchBool b (IsTaken text input) (IsLeft input) → IsTaken text input
taken_by true text input e t = t
taken_by false text input e t = absurd (true≢false (sym e))

-- a command on an input that it answers succeeds where no device fails
ok_when_parsed : (o : Result Term ParseFault) (e : Term) → o ≡ Ok e → (encoded o).status ≡ status.Ok
ok_when_parsed o e h = ap (λ o. (encoded o).status) h

ok_when_read : (o : Result Term DecodeFault) (e : Term) → o ≡ Ok e → (decoded o).status ≡ status.Ok
ok_when_read o e h = ap (λ o. (decoded o).status) h

-- ---- a root that ends well

-- what is known with so much to spend is known with more
knows_left : (r : Record) (m n : ℕ) → Knows (resolve r m []) (resolve r (plus m n) [])
knows_left r m n k o h = rises-plus_left (λ z. resolve r z [] k) (λ z p e. resolve-rises r z [] k p e) m n o h

knows_right : (r : Record) (m n : ℕ) → Knows (resolve r n []) (resolve r (plus m n) [])
knows_right r m n k o h = rises-plus (λ z. resolve r z [] k) (λ z p e. resolve-rises r z [] k p e) m n o h

end_decided : (w : Walked Term) (e : RootEnd) → end_of w ≡ Some e → IsDecided w
end_decided (Ready v) e h = tt
end_decided (Fails b) e h = tt
end_decided (Turns j) e h = tt
end_decided (Needs k) e h = none-some refl h

one_walk : (r : Record) (root : Term) (v w : Walked Term) → IsDecided v → IsDecided w → ResolvesRoot r root v → ResolvesRoot r root w → v ≡ w
one_walk r root v w dv dw (m, p) (n, q) =
    let all = resolve r (plus m n) [] in
    let left : walk None all root ≡ v =
    decided_same all v (walk None all root) (subst (λ x. Grown all x (walk None all root)) p (walk-grown None (resolve r m []) all (knows_left r m n) root)) dv in
    let right : walk None all root ≡ w =
    decided_same all w (walk None all root) (subst (λ x. Grown all x (walk None all root)) q (walk-grown None (resolve r n []) all (knows_right r m n) root)) dw in
    sym left ∙ right

-- the root has one end
pub one_root_end : (r : Record) (root : Term) (e f : RootEnd) → EndsBy r root e → EndsBy r root f → e ≡ f
one_root_end r root e f (resolved v few p a) (resolved w less q b) =
    some-equal (sym a ∙ (ap end_of (one_walk r root v w (end_decided v e a) (end_decided w f b) p q) ∙ b))
one_root_end r root e f (resolved v few p a) (overflows many) = absurd (true≢false (sym many ∙ few))
one_root_end r root e f (overflows many) (resolved w few q b) = absurd (true≢false (sym many ∙ few))
one_root_end r root e f (overflows many) (overflows more) = refl

abbrev is_ready : RootEnd → Bool
is_ready (ready v) = true
is_ready _ = false

abbrev ready_or : Term → RootEnd → Term
ready_or d (ready v) = v
ready_or d _ = d

resolved_done : (v : Verb) (text : List ℕ) (r : Record) (root e : Term) (w : Response) → EndsBy r root (ready e)
    → ((i : Reading) → ValuedAnswer v i e w → w.status ≡ status.Ok) → ResolvedAnswer v text root r w → w.status ≡ status.Ok
resolved_done v text r root e w by ok (valued x ask here value a) =
    ok (root_reading text root ask) (subst (λ y. ValuedAnswer v (root_reading text root ask) y w) (ap (ready_or e) (one_root_end r root (ready x) (ready e) here by)) a)
resolved_done v text r root e w by ok (faulty b here a) = absurd (true≢false (ap is_ready (one_root_end r root (ready e) (bad b) by here)))
resolved_done v text r root e w by ok (circular j here a) = absurd (true≢false (ap is_ready (one_root_end r root (ready e) (looped j) by here)))
resolved_done v text r root e w by ok (overfull here a) = absurd (true≢false (ap is_ready (one_root_end r root (ready e) too_many by here)))

-- ---- a command on an input that it answers succeeds

unresolved : (u v : Verb) → does_resolve u ≡ false → IsTrue (does_resolve v) → v ≡ u → ⊥
unresolved u v n t h = true≢false (sym (subst (λ v. does_resolve v ≡ true) h t) ∙ n)

done_by : (v : Verb) (ops : List Word) (text : List ℕ) (r : Record) (w : Response) → IsTrue (does_resolve v) → SucceedsBy v text r
    → ((e : Term) → SucceedsOn v e → (i : Reading) → ValuedAnswer v i e w → w.status ≡ status.Ok) → Does v ops text r w → w.status ≡ status.Ok
done_by v ops text r w t s ok (encodes o h p q) = absurd (unresolved verb.Encode v refl t h)
done_by v ops text r w t s ok (decodes o h l p q) = absurd (unresolved verb.Decode v refl t h)
done_by v ops text r w t s ok (decodes_none h l q) = absurd (unresolved verb.Decode v refl t h)
done_by v ops text r w t (root, e, p, by, on) ok (spells d h q a) =
    resolved_done v text r d e w (subst (λ d. EndsBy r d (ready e)) (same_term text root d p q) by) (ok e on) a
done_by v ops text r w t (root, e, p, by, on) ok (spells_none f h q u) = absurd (not_both text root f p q)
done_by v ops text r w t s ok (takes_steps places x h n a u) = absurd (unresolved verb.Steps v refl t h)
done_by v ops text r w t s ok (explains told h k q) = absurd (unresolved verb.Explain v refl t h)
done_by v ops text r w t s ok (helps h q) = absurd (unresolved verb.Help v refl t h)
done_by v ops text r w t s ok (tells_version h q) = absurd (unresolved verb.Version v refl t h)

resolve_ok : (w : Response) (e : Term) → SucceedsOn verb.Resolve e → (i : Reading) → ValuedAnswer verb.Resolve i e w → w.status ≡ status.Ok
resolve_ok w e s i (itself h u) = ap (λ w. w.status) u
resolve_ok w e s i (frozen bytes h z u) = absurd (apart _ _ h (λ n. omega (arith, n)))
resolve_ok w e s i (typed t a) = absurd (true≢false (sym t))

type_ok : (w : Response) (e : Term) → SucceedsOn verb.Type e → (i : Reading) → ValuedAnswer verb.Type i e w → w.status ≡ status.Ok
type_ok w e s i (itself h u) = absurd (apart _ _ h (λ n. omega (arith, n)))
type_ok w e s i (frozen bytes h z u) = absurd (apart _ _ h (λ n. omega (arith, n)))
type_ok w e s i (typed t a) = type_ends_ok i e w s a

normalize_ok : (w : Response) (e : Term) → SucceedsOn verb.Normalize e → (i : Reading) → ValuedAnswer verb.Normalize i e w → w.status ≡ status.Ok
normalize_ok w e s i (itself h u) = absurd (apart _ _ h (λ n. omega (arith, n)))
normalize_ok w e s i (frozen bytes h z u) = absurd (apart _ _ h (λ n. omega (arith, n)))
normalize_ok w e s i (typed t a) = form_ends_ok verb.Normalize i e w s.0 s.1 (λ h. absurd (apart _ _ h (λ n. omega (arith, n)))) a

hash_ok : (w : Response) (e : Term) → SucceedsOn verb.Hash e → (i : Reading) → ValuedAnswer verb.Hash i e w → w.status ≡ status.Ok
hash_ok w e s i (itself h u) = absurd (apart _ _ h (λ n. omega (arith, n)))
hash_ok w e s i (frozen bytes h z u) = absurd (apart _ _ h (λ n. omega (arith, n)))
hash_ok w e s i (typed t a) = form_ends_ok verb.Hash i e w s.0 s.1 (λ h. absurd (apart _ _ h (λ n. omega (arith, n)))) a

json_ok : (w : Response) (e : Term) → SucceedsOn verb.ToJson e → (i : Reading) → ValuedAnswer verb.ToJson i e w → w.status ≡ status.Ok
json_ok w e s i (itself h u) = absurd (apart _ _ h (λ n. omega (arith, n)))
json_ok w e s i (frozen bytes h z u) = absurd (apart _ _ h (λ n. omega (arith, n)))
json_ok w e s i (typed t a) = form_ends_ok verb.ToJson i e w s.0 s.1 (λ h. s.2) a

freeze_ok : (w : Response) (e : Term) → SucceedsOn verb.Freeze e → (i : Reading) → ValuedAnswer verb.Freeze i e w → w.status ≡ status.Ok
freeze_ok w e s i (itself h u) = absurd (apart _ _ h (λ n. omega (arith, n)))
freeze_ok w e s i (frozen bytes h z u) = ap (λ w. w.status) u
freeze_ok w e s i (typed t a) = absurd (true≢false (sym t))

-- a command that leaves its input alone
read_not : (u v : Verb) → reads u ≡ true → reads v ≡ false → v ≡ u → ⊥
read_not u v t n e = true≢false (sym (ap reads e ∙ t) ∙ n)

told_ok : (v : Verb) (ops : List Word) (text : List ℕ) (r : Record) (w : Response) → reads v ≡ false → Does v ops text r w → w.status ≡ status.Ok
told_ok v ops text r w n (encodes o h p q) = absurd (read_not verb.Encode v refl n h)
told_ok v ops text r w n (decodes o h l p q) = absurd (read_not verb.Decode v refl n h)
told_ok v ops text r w n (decodes_none h l q) = absurd (read_not verb.Decode v refl n h)
told_ok v ops text r w n (spells d h q a) = absurd (true≢false (sym (resolving_reads v h) ∙ n))
told_ok v ops text r w n (spells_none g h q u) = absurd (true≢false (sym (resolving_reads v h) ∙ n))
told_ok v ops text r w n (takes_steps places x h k a u) = absurd (read_not verb.Steps v refl n h)
told_ok v ops text r w n (explains told h k q) = ap (λ w. w.status) q
told_ok v ops text r w n (helps h q) = ap (λ w. w.status) q
told_ok v ops text r w n (tells_version h q) = ap (λ w. w.status) q

done : (v : Verb) (ops : List Word) (text : List ℕ) (r : Record) (w : Response) → SucceedsOnInput v ops text r → Does v ops text r w → w.status ≡ status.Ok
done verb.Encode ops text r w s (encodes o h p q) = ap (λ w. w.status) q ∙ ok_when_parsed o s.0 (parses_once text o (Ok s.0) p s.1)
done verb.Encode ops text r w s (decodes o h l p q) = absurd (apart _ _ h (λ n. omega (arith, n)))
done verb.Encode ops text r w s (decodes_none h l q) = absurd (apart _ _ h (λ n. omega (arith, n)))
done verb.Encode ops text r w s (spells d h q a) = absurd (true≢false (sym h))
done verb.Encode ops text r w s (spells_none g h q u) = absurd (true≢false (sym h))
done verb.Encode ops text r w s (takes_steps places x h n a u) = absurd (apart _ _ h (λ n. omega (arith, n)))
done verb.Encode ops text r w s (explains told h k q) = absurd (apart _ _ h (λ n. omega (arith, n)))
done verb.Encode ops text r w s (helps h q) = absurd (apart _ _ h (λ n. omega (arith, n)))
done verb.Encode ops text r w s (tells_version h q) = absurd (apart _ _ h (λ n. omega (arith, n)))
done verb.Decode ops text r w s (encodes o h p q) = absurd (apart _ _ h (λ n. omega (arith, n)))
done verb.Decode ops text r w s (decodes o h l p q) = ap (λ w. w.status) q ∙ ok_when_read o s.0 (decodes-unique text o (Ok s.0) p s.2)
done verb.Decode ops text r w s (decodes_none h l q) = absurd (let k = s.1 in omega (arith, k, l))
done verb.Decode ops text r w s (spells d h q a) = absurd (true≢false (sym h))
done verb.Decode ops text r w s (spells_none g h q u) = absurd (true≢false (sym h))
done verb.Decode ops text r w s (takes_steps places x h n a u) = absurd (apart _ _ h (λ n. omega (arith, n)))
done verb.Decode ops text r w s (explains told h k q) = absurd (apart _ _ h (λ n. omega (arith, n)))
done verb.Decode ops text r w s (helps h q) = absurd (apart _ _ h (λ n. omega (arith, n)))
done verb.Decode ops text r w s (tells_version h q) = absurd (apart _ _ h (λ n. omega (arith, n)))
done verb.Resolve ops text r w s d = done_by verb.Resolve ops text r w refl s (resolve_ok w) d
done verb.Type ops text r w s d = done_by verb.Type ops text r w refl s (type_ok w) d
done verb.Normalize ops text r w s d = done_by verb.Normalize ops text r w refl s (normalize_ok w) d
done verb.Hash ops text r w s d = done_by verb.Hash ops text r w refl s (hash_ok w) d
done verb.ToJson ops text r w s d = done_by verb.ToJson ops text r w refl s (json_ok w) d
done verb.Freeze ops text r w s d = done_by verb.Freeze ops text r w refl s (freeze_ok w) d
done verb.Steps ops text r w s (encodes o h p q) = absurd (apart _ _ h (λ n. omega (arith, n)))
done verb.Steps ops text r w s (decodes o h l p q) = absurd (apart _ _ h (λ n. omega (arith, n)))
done verb.Steps ops text r w s (decodes_none h l q) = absurd (apart _ _ h (λ n. omega (arith, n)))
done verb.Steps ops text r w s (spells d h q a) = absurd (true≢false (sym h))
done verb.Steps ops text r w s (spells_none g h q u) = absurd (true≢false (sym h))
done verb.Steps ops text r w s (takes_steps places x h n a u) = steps_end_ok ops places text x w s n a u
done verb.Steps ops text r w s (explains told h k q) = absurd (apart _ _ h (λ n. omega (arith, n)))
done verb.Steps ops text r w s (helps h q) = absurd (apart _ _ h (λ n. omega (arith, n)))
done verb.Steps ops text r w s (tells_version h q) = absurd (apart _ _ h (λ n. omega (arith, n)))
done verb.Explain ops text r w s d = told_ok verb.Explain ops text r w refl d
done verb.Help ops text r w s d = told_ok verb.Help ops text r w refl d
done verb.Version ops text r w s d = told_ok verb.Version ops text r w refl d
done verb.Batch ops text r w s d = absurd s
done verb.Gen ops text r w s d = absurd s

same_text : (words : List Word) (c : Command) (text left : List ℕ) (input : Input) → reads c.verb ≡ true → input.before ≡ Some left → command_of words ≡ Ok c
    → IsRead (command_of words) text input → text ≡ left
same_text words c text left input t b e r =
    let read : IsRead (Ok c) text input = subst (λ c. IsRead c text input) e r in
    subst (λ o. IfSome o (λ l. text ≡ l)) b (taken_by (reads c.verb) text input t read).0

ends_ok : (reading : Bool) (words : List Word) (c : Command) (text left : List ℕ) (input : Input) (r : Record) (w : Response) → reads c.verb ≡ reading → input.before ≡ Some left
    → command_of words ≡ Ok c → IsRead (command_of words) text input → SucceedsOnInput c.verb (operand_words words) left r → Does c.verb (operand_words words) text r w → w.status ≡ status.Ok
ends_ok true words c text left input r w t b e read s q = done c.verb (operand_words words) left r w s (subst (λ t. Does c.verb (operand_words words) t r w) (same_text words c text left input t b e read) q)
ends_ok false words c text left input r w t b e read s q = told_ok c.verb (operand_words words) text r w t q

-- ---- files

-- files that have digests are answered by them, unless memory is wanting
files_done : {ops : List Word} {rs : List Record} {ws : List Response} → FileAnswers ops rs ws → FilesSucceed ops rs → (first_fault ws ≡ status.Ok) ⊎ (first_fault ws ≡ status.Memory)
files_done no_file s = inl refl
files_done (a_file {word = word} {r = r} {w = w} {ws = ws} a rest) s = by a (files_done rest s.1)
  where
    after : (w.status ≡ status.Ok) → (first_fault ws ≡ status.Ok) ⊎ (first_fault ws ≡ status.Memory) → (first_fault (w ∷ ws) ≡ status.Ok) ⊎ (first_fault (w ∷ ws) ≡ status.Memory)
    after ok (inl h) = inl (ap (λ x. unless_ok x (first_fault ws)) ok ∙ h)
    after ok (inr h) = inr (ap (λ x. unless_ok x (first_fault ws)) ok ∙ h)

    by : FileAnswer word r w → (first_fault ws ≡ status.Ok) ⊎ (first_fault ws ≡ status.Memory) → (first_fault (w ∷ ws) ≡ status.Ok) ⊎ (first_fault (w ∷ ws) ≡ status.Memory)
    by (hashes_file d) h = after (done verb.Hash [] (file_text word) r w s.0 d) h
    by (file_lacks_memory none u) h = inr (ap (λ (x : Response). unless_ok x.status (first_fault ws)) u)

-- nothing is written of the input by another command than those that have a constructor
none_does : (u v : Verb) (ops : List Word) (text : List ℕ) (r : Record) (w : Response) → does_resolve u ≡ false → 11 < number u → v ≡ u → Does v ops text r w → ⊥
none_does u v ops text r w none far b (encodes o h p q) = apart u verb.Encode (sym b ∙ h) (λ n. omega (arith, n, far))
none_does u v ops text r w none far b (decodes o h l p q) = apart u verb.Decode (sym b ∙ h) (λ n. omega (arith, n, far))
none_does u v ops text r w none far b (decodes_none h l q) = apart u verb.Decode (sym b ∙ h) (λ n. omega (arith, n, far))
none_does u v ops text r w none far b (spells d h q a) = unresolved u v none h b
none_does u v ops text r w none far b (spells_none g h q x) = unresolved u v none h b
none_does u v ops text r w none far b (takes_steps places x h n a y) = apart u verb.Steps (sym b ∙ h) (λ n. omega (arith, n, far))
none_does u v ops text r w none far b (explains told h k q) = apart u verb.Explain (sym b ∙ h) (λ n. omega (arith, n, far))
none_does u v ops text r w none far b (helps h q) = apart u verb.Help (sym b ∙ h) (λ n. omega (arith, n, far))
none_does u v ops text r w none far b (tells_version h q) = apart u verb.Version (sym b ∙ h) (λ n. omega (arith, n, far))

-- `batch` writes nothing of its input
pub files_only : (v : Verb) (ops : List Word) (text : List ℕ) (r : Record) (w : Response) → v ≡ verb.Batch → Does v ops text r w → ⊥
files_only v ops text r w b d = none_does verb.Batch v ops text r w refl (omega arith) b d

one_record : (r x : Record) (rs : List Record) → rs ≡ r ∷ [] → rs ≡ x ∷ [] → r ≡ x
one_record r x rs p q = let e : r ∷ [] ≡ x ∷ [] = sym p ∙ q in cc

all_ok : (words : List Word) (c : Command) (text left : List ℕ) (input : Input) (rs : List Record) (w : Response) → input.before ≡ Some left → command_of words ≡ Ok c
    → IsRead (command_of words) text input → Succeeds c.verb (operand_words words) left rs → DoesAll c.verb (operand_words words) text rs w → (w.status ≡ status.Ok) ⊎ (w.status ≡ status.Memory)
all_ok words c text left input rs w b e read (input_succeeds r one s) (on_input x two d) =
    inl (ends_ok (reads c.verb) words c text left input r w refl b e read s (subst (λ y. Does c.verb (operand_words words) text y w) (one_record x r rs two one) d))
all_ok words c text left input rs w b e read (input_succeeds r one s) (on_files ws f a u) = absurd (subst (λ v. SucceedsOnInput v (operand_words words) left r) f s)
all_ok words c text left input rs w b e read (files_succeed f s) (on_input x two d) = absurd (files_only c.verb (operand_words words) text x w f d)
all_ok words c text left input rs w b e read (list_succeeds n r g named one s) (on_input x two d) = absurd (none_does verb.Gen c.verb (operand_words words) text x w refl (omega arith) g d)
all_ok words c text left input rs w b e read (list_succeeds n r g named one s) (on_files ws f a u) = absurd (apart verb.Gen verb.Batch (sym g ∙ f) (λ k. omega (arith, k)))
all_ok words c text left input rs w b e read (files_succeed f s) (on_files ws g a u) = by (files_done a s)
  where
    is : w.status ≡ first_fault ws
    is = ap (λ (x : Response). x.status) u

    by : (first_fault ws ≡ status.Ok) ⊎ (first_fault ws ≡ status.Memory) → (w.status ≡ status.Ok) ⊎ (w.status ≡ status.Memory)
    by (inl h) = inl (is ∙ h)
    by (inr h) = inr (is ∙ h)

-- ---- the list of generated imports

one_number : (n m : ℕ) (o : Result ℕ ℕ) → o ≡ Ok n → o ≡ Ok m → n ≡ m
one_number n m o p q = let e : ◌≡◌ {A = Result ℕ ℕ} (Ok n) (Ok m) = sym p ∙ q in cc

-- a list that has a digest is answered by it
list_done : (n : ℕ) (r : Record) (asked : ℕ) (w : Response) → SucceedsBy verb.Hash (list_text n) r → GenAnswer n r asked w → w.status ≡ status.Ok
list_done n r asked w s (counts root digest p d u) = ap (λ (x : Response). x.status) u
list_done n r asked w s (faults d other) = absurd (other (done verb.Hash [] (list_text n) r w s d))

list_ok : (v : Verb) (ops : List Word) (left : List ℕ) (rs : List Record) (n : ℕ) (x : Record) (asked : ℕ) (w : Response) → v ≡ verb.Gen → operand_number 1 ops ≡ Ok n → rs ≡ x ∷ []
    → GenAnswer n x asked w → Succeeds v ops left rs → w.status ≡ status.Ok
list_ok v ops left rs n x asked w g named one a (input_succeeds r two s) = absurd (subst (λ v. SucceedsOnInput v ops left r) g s)
list_ok v ops left rs n x asked w g named one a (files_succeed f s) = absurd (apart verb.Gen verb.Batch (sym g ∙ f) (λ k. omega (arith, k)))
list_ok v ops left rs n x asked w g named one a (list_succeeds m r h again two s) =
    list_done n x asked w
    (subst (SucceedsBy verb.Hash (list_text n)) (one_record r x rs two one) (subst (λ z. SucceedsBy verb.Hash (list_text z) r) (sym (one_number n m (operand_number 1 ops) named again)) s)) a

fine : (words : List Word) (c : Command) (left : List ℕ) (input : Input) (o : Outside) (rs : List Record) (w : Response) → input.before ≡ Some left → command_of words ≡ Ok c
    → Succeeds c.verb (operand_words words) left rs → (Rose input.faults_before input.faults_after → ⊥) → Makes words input o rs w → (w.status ≡ status.Ok) ⊎ (w.status ≡ status.Memory)
fine words c left input o rs w b e s n (answers text read f (usage k h u)) = absurd (ok_not_err c k (command_of words) e h)
fine words c left input o rs w b e s n (answers text read f (does d h q)) =
    let one = ok_is c d (command_of words) e h in
    all_ok words c text left input rs w b e read s (subst (λ (d : Command). DoesAll d.verb (operand_words words) text rs w) (sym one) q)
fine words c left input o rs w b e s n (generates d m r asked h g named one kept alone session a) =
    let same = ok_is c d (command_of words) e h in inl (list_ok c.verb (operand_words words) left rs m r asked w (ap (λ (x : Command). x.verb) same ∙ g) named one a s)
fine words c left input o rs w b e s n (cannot_read d h rose alone u) = absurd (n rose)
fine words c left input o rs w b e s n (lacks_memory l u) = inr (ap (λ w. w.status) u)

fine_whole : (w : Response) (out err : Output) (s : Status) → (w.status ≡ status.Ok) ⊎ (w.status ≡ status.Memory) → (Rose out.faults_before out.faults_after → ⊥)
    → (Rose err.faults_before err.faults_after → ⊥) → Delivers w out err s → (s ≡ status.Ok) ⊎ (s ≡ status.Memory)
fine_whole w out err s (inl u) p q (whole g h e) = inl (e ∙ u)
fine_whole w out err s (inr u) p q (whole g h e) = inr (e ∙ u)
fine_whole w out err s u p q (out_failed g h e) = absurd (p g.failed)
fine_whole w out err s u p q (err_failed g h e) = absurd (q h.failed)

-- a run from what was made and how it was delivered
pub ran : (words : List Word) (input : Input) (o : Outside) (out err : Output) (r : List Record) (w v : Response) (s : Status) → Makes words input o r w → w ≡ v → Delivers v out err s
    → Runs words input o out err s
ran words input o out err r w v s m e d = record {
  found = r;
  written = v;
  makes = subst (Makes words input o r) e m;
  delivers = d;
  completes = λ c text is before succeeds works.
      fine_whole v out err s (fine words c text input o r v before is succeeds works.reads (subst (Makes words input o r) e m)) works.writes works.tells d;
}

-- the same, from the bytes of a reply
pub ran_reply : (words : List Word) (input : Input) (o : Outside) (out err : Output) (r : Result Reply AllocError) (x : Reply) (to_out to_err : List ℕ) (s : Status) → r ≡ Ok x
    → IfOk r (λ x. IsMade words input o (written x)) → to_out ≡ x.out.items → to_err ≡ x.err.items
    → Delivers (record { out = to_out; err = to_err; status = x.status }) out err s → Runs words input o out err s
ran_reply words input o out err r x to_out to_err s e m p q d =
    let made : IsMade words input o (written x) = subst (λ r. IfOk r (λ x. IsMade words input o (written x))) e m in
    let with : List ℕ → List ℕ → Response = λ a b. record { out = a; err = b; status = x.status } in
    ran words input o out err made.found (written x) (with to_out to_err) s made.makes (ap (λ a. with a x.err.items) (sym p) ∙ ap (λ b. with to_out b) (sym q)) d

-- a failed device is told only where one failed
pub ran_desk : (words : List Word) (input : Input) (o : Outside) (out err : Output) (r : Result Reply AllocError) (x : Reply) (to_out to_err : List ℕ) (s : Status) → r ≡ Ok x
    → IfOk r (λ x. IsMade words input o (written x)) → Delivers (record { out = to_out; err = to_err; status = x.status }) out err s → s ≡ status.Desk → DeskFailed o
ran_desk words input o out err r x to_out to_err s e m d is =
    let made : IsMade words input o (written x) = subst (λ r. IfOk r (λ x. IsMade words input o (written x))) e m in
    told_device (record { out = to_out; err = to_err; status = x.status }) o out err s made.devices d is

-- a run for which memory was wanting
pub ran_lacking : {A : Type 0} (words : List Word) (input : Input) (o : Outside) (out err : Output) (r : Result A AllocError) (e : AllocError) (to_out to_err : List ℕ) (s : Status) → r ≡ Err e
    → OnErr r (LacksMemory words input o) → to_out ≡ [] → to_err ≡ without_memory.err
    → Delivers (record { out = to_out; err = to_err; status = status.Memory }) out err s → Runs words input o out err s
ran_lacking words input o out err r e to_out to_err s is l p q d =
    let lacks : LacksMemory words input o = subst (λ r. OnErr r (LacksMemory words input o)) is l in
    let with : List ℕ → List ℕ → Response = λ a b. record { out = a; err = b; status = status.Memory } in
    ran words input o out err (nothing_found ∷ []) without_memory (with to_out to_err) s (lacks_memory lacks refl) (ap (λ a. with a without_memory.err) (sym p) ∙ ap (λ b. with to_out b) (sym q)) d
