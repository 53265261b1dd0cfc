-- What is found in the world of the generated texts, and what `gen` writes of it.
use Rattle.std.proofs.Common.{◌≡◌, ◌⊎◌, inl, inr, ℕ, ◌+◌, ◌≤◌, ◌<◌, List, [], ◌∷◌, ◌++◌, Bool, true, false, true≢false, if◌then◌else◌, Option, Some, None, Result, Ok, Err, IfOk, IfSome, refl, sym, ap, ◌∙◌, subst, arith}
use Rattle.std.specs.Prelude.{Any, IsOk, IsTrue, count_by, length, option_map, sum_by}
use Rattle.std.specs.declared.alloc.AllocError.{AllocError}
use Rattle.std.proofs.lemmas.List.Sums.{sum_by-cons}
use Rattle.dh_syntax.specs.declared.faults.ParseFault.{ParseFault}
use Rattle.dh_syntax.specs.declared.locations.Digest.{Digest}
use Rattle.dh_syntax.specs.declared.locations.Key.{Key}
use Rattle.dh_syntax.specs.declared.locations.Loc.{Loc}
use Rattle.dh_imports.specs.declared.outcomes.Why.{Why}
use Rattle.dh_imports.specs.declared.outcomes.Why.TheVariants as whys
use Rattle.dh_command.specs.declared.commands.Command.{Command}
use Rattle.dh_command.specs.declared.statuses.Status.{Status}
use Rattle.dh_command.specs.declared.statuses.Status.TheVariants as status
use Rattle.dh_command.specs.declared.verbs.Verb.{Verb}
use Rattle.dh_command.specs.declared.verbs.Verb.TheVariants as verb
use Rattle.dh_command.specs.Answer.{Does, ResolvedAnswer, TypedAnswer, ValuedAnswer, frozen, itself, limited, no_value, nothing_found, prints, refuses, spells, spells_none, typed}
use Rattle.dh_command.specs.Generating.{GenAnswer, count_lines, counts, faults, key_count}
use Rattle.dh_command.specs.Responses.{Response, answer, fault, line, misspelt}
use Rattle.dh_command.specs.Statuses.{code_of, why_status}
use Rattle.dh_command.specs.Words.{Word, command_of, operand_words, resolves as does_resolve}
use Rattle.dh_cache_laws.specs.OneWorld.{AreOfOneWorld, IsWithoutEntries}
use Rattle.dh_cache_laws.proofs.OneWorld.{one_world}
use Rattle.dh_cache_laws.proofs.WarmAnswers.{plain-answer}
use Rattle.dh_gen.specs.NumberWords.{operand_number}
use Rattle.dh_gen.specs.declared.desks.GenDesk.{GenDesk}
use Rattle.dh_gen.specs.Generated.{got_at, list_text, number_at, shelved, told}
use Rattle.dh_grammar.proofs.Results.Answering.{parses_once}
use Rattle.dh_imports.specs.ImportFaults.{in_item, why_line}
use Rattle.dh_imports.specs.Keeps.{HasNoEntry}
use Rattle.dh_imports.specs.Machine.{IsAmong, opening}
use Rattle.dh_imports.specs.Readings.{Reading}
use Rattle.dh_imports.specs.Records as found
use Rattle.dh_imports.specs.Records.{IsParsed, Noted, Record, Seen, limit_at, look_at, lookup, text_at}
use Rattle.dh_imports.specs.Replay.{distinct, has_too_many, keys}
use Rattle.dh_json.specs.FaultLines.{no_json_line}
use Rattle.dh_laws.proofs.KeyOrder.{none-some, some-equal}
use Rattle.dh_ports.specs.Desks.{Tells}
use Rattle.dh_ports.specs.declared.worlds.Got.{Got}
use Rattle.dh_ports.specs.declared.worlds.Got.TheVariants as gots
use Rattle.dh_session.specs.Ended.{FailsAll}
use Rattle.dh_session.specs.Works.{AtLast}
use Rattle.dh_shared.specs.Counting as counting
use Rattle.dh_syntax.proofs.SameTree.{locs_tell}
use Rattle.dh_syntax.specs.FaultLines.{norm_fault_line}
use Rattle.dh_syntax.specs.Expressions.SameTree.{digest_eq, loc_eq}
use Rattle.dh_syntax.specs.Expressions.Tree.{Term}
use Rattle.dh_syntax.specs.Text.Spelling.{ParsesTo}
use Rattle.dh_table.specs.declared.answers.roots.Ended.{Ended}
use Rattle.dh_table.specs.Shown.{Shown}
use Rattle.dh_table.specs.States.{IsReplayed, record_of, state_of}
use Rattle.dh_top.specs.Generating.{GenSession, GeneratedDigests, IsCounted, IsGenerated, no_list, on_list, with_digest, with_fault}
use Rattle.dh_top.specs.Outside.{IsFound, IsLeftAlone, IsTextTold, Outside, Pair, Session, failures, got_of, is_fetch_claim}
use Rattle.dh_top.specs.Replies.{Performs, written}
use Rattle.dh_streams.specs.Streams.{reading}
use Rattle.dh_top.specs.Runs.{generates}
use Rattle.dh_top.specs.declared.replies.Reply.{Reply}
use Rattle.dh_top.proofs.Devices.{failed_found, other_status, resolved_device}
use Rattle.dh_top.proofs.Encodings.{keeps_itself}
use Rattle.dh_top.proofs.Finding.{claims_same}
use Rattle.dh_top.proofs.Resolutions.{IsResolved, does_too_many, failure_found, the_session}
use Rattle.dh_top.proofs.WarmRuns.{limit_of-status}

-- ---- what a lookup finds is among what is listed

abbrev Listed : {A B : Type 0} → (A → A → Bool) → List (A × B) → A → B → Type 0
Listed {A} same ps a b = (k : A) × IsAmong (k, b) ps × (same k a ≡ true)

listed-by : {A B : Type 0} (same : A → A → Bool) (p : A × B) (ps : List (A × B)) (a : A) (b : B) (t : Bool) → same p.0 a ≡ t → (lookup same ps a ≡ Some b → Listed same ps a b)
    → (if t then Some p.1 else lookup same ps a) ≡ Some b → Listed same (p ∷ ps) a b
listed-by same p ps a b true e later h = (p.0, inl (ap (λ x. (p.0, x)) (some-equal h)), e)
listed-by same p ps a b false e later h = let (k, m, s) = later h in (k, inr m, s)

listed : {A B : Type 0} (same : A → A → Bool) (ps : List (A × B)) (a : A) (b : B) → lookup same ps a ≡ Some b → Listed same ps a b
listed same [] a b h = none-some refl h
listed same (p ∷ ps) a b h = listed-by same p ps a b (same p.0 a) refl (λ q. listed same ps a b q) h

-- ---- a record of the generated world

-- found there, without a failure
abbrev IsOfList : Record → Type 0
IsOfList r = IsFound told shelved r × (failures r ≡ 0)

nothing-of : IsFound told shelved nothing_found
nothing-of = record {
  one_text = λ l. omega arith;
  one_look = λ d. omega arith;
  texts = λ t m. absurd m;
  looks = λ l m. absurd m;
  parsed = λ l bytes allow p h. none-some refl h;
  good = λ d look h. none-some refl h;
  limits = λ k w h. none-some refl h;
}

of-session : (n : ℕ) (r : Record) (asked : ℕ) → GenSession n r asked → IsOfList r
of-session n _ _ (on_list s none) = (s.is_found, none)
of-session n _ _ no_list = (nothing-of, refl)

not-failed : (r : Record) → failures r ≡ 0 → (l : Loc) (t : Noted) → text_at r l ≡ Some t → ¬ (t ≡ found.Failed)
not-failed r none l t h e = let some = failed_found r l (h ∙ ap Some e) in omega (arith, none, some)

told-is : (o : Option Got) (g x : Got) → o ≡ Some g → Tells o x → Some x ≡ o
told-is o g x e h = sym (h ∙ ap (option_map (λ _. x)) e)

noted-is : (o : Option Got) (g : Got) (t : Noted) → o ≡ Some g → IfSome (got_of t) (Tells o) → ¬ (t ≡ found.Failed) → got_of t ≡ o
noted-is o g (found.Found bytes allow parsed) e h n = told-is o g _ e h
noted-is o g found.Absent e h n = told-is o g _ e h
noted-is o g (found.Broken k) e h n = told-is o g _ e h
noted-is o g found.Failed e h n = absurd (n refl)

-- each text is the one of the world
text-is : (r : Record) → IsOfList r → (l : Loc) (t : Noted) → text_at r l ≡ Some t → got_of t ≡ told l
text-is r (f, none) l t h =
    let (k, m, e) = listed loc_eq r.texts l t h in
    noted-is (told l) (got_at (number_at l)) t refl (subst (λ x. IsTextTold told (x, t)) (locs_tell.equal k l e) (f.texts (k, t) m)) (not-failed r none l t h)

parsed-of : (r : Record) → IsFound told shelved r → (l : Loc) (t : Noted) → text_at r l ≡ Some t → IsParsed t
parsed-of r f l (found.Found bytes allow parsed) h = f.parsed l bytes allow parsed h
parsed-of r f l found.Absent h = tt
parsed-of r f l (found.Broken k) h = tt
parsed-of r f l found.Failed h = tt

-- no look found an entry
none-good : (r : Record) → IsOfList r → (d : Digest) → HasNoEntry r d
none-good r (f, none) d bytes e h = let (k, m, s) = listed digest_eq r.looks d (found.Good bytes e) h in none-some refl (f.looks (k, found.Good bytes e) m)

without-entries : (r : Record) → IsOfList r → IsWithoutEntries r
without-entries r i = record {
  none_good = none-good r i;
  limits = λ k w h. let limit = i.0.limits k w h in limit_of-status limit.code w limit.licensed;
}

-- ---- two such records say the same

abbrev bytes_in : Option Got → List ℕ
bytes_in (Some (gots.Found f)) = f.bytes
bytes_in _ = []

abbrev allow_in : Option Got → Option (List ℕ)
allow_in (Some (gots.Found f)) = f.allow
allow_in _ = None

abbrev status_in : Option Got → ℕ
status_in (Some (gots.Broken k)) = k
status_in _ = 0

same-found : (a b : List ℕ) (c d : Option (List ℕ)) (p q : Result Term ParseFault) → a ≡ b → c ≡ d → ParsesTo a p → ParsesTo b q → found.Found a c p ≡ found.Found b d q
same-found a b c d p q e f x y =
    let one = parses_once b p q (subst (λ z. ParsesTo z p) e x) y in ap (λ z. found.Found z c p) e ∙ (ap (λ z. found.Found b z p) f ∙ ap (λ z. found.Found b d z) one)

same-noted : (t u : Noted) → IsParsed t → IsParsed u → got_of t ≡ got_of u → ¬ (t ≡ found.Failed) → t ≡ u
same-noted (found.Found a c p) (found.Found b d q) x y e n = same-found a b c d p q (ap bytes_in e) (ap allow_in e) x y
same-noted (found.Found a c p) found.Absent x y e n = absurd cc
same-noted (found.Found a c p) (found.Broken k) x y e n = absurd cc
same-noted (found.Found a c p) found.Failed x y e n = absurd cc
same-noted found.Absent (found.Found b d q) x y e n = absurd cc
same-noted found.Absent found.Absent x y e n = refl
same-noted found.Absent (found.Broken k) x y e n = absurd cc
same-noted found.Absent found.Failed x y e n = absurd cc
same-noted (found.Broken j) (found.Found b d q) x y e n = absurd cc
same-noted (found.Broken j) found.Absent x y e n = absurd cc
same-noted (found.Broken j) (found.Broken k) x y e n = ap found.Broken (ap status_in e)
same-noted (found.Broken j) found.Failed x y e n = absurd cc
same-noted found.Failed u x y e n = absurd (n refl)

same-texts : (r s : Record) → IsOfList r → IsOfList s → AreOfOneWorld r s
same-texts r s i j l t u h k =
    same-noted t u (parsed-of r i.0 l t h) (parsed-of s j.0 l u k) (text-is r i l t h ∙ sym (text-is s j l u k)) (not-failed r i.1 l t h)

-- The line of the digest depends on the number alone.
pub generated_digests : GeneratedDigests
generated_digests n d e (r, a, s, does) (q, b, t, other) =
    let i = of-session n r a s in
    let j = of-session n q b t in
    one_world verb.Hash [] (list_text n) q r (answer e) (answer d) refl (without-entries q j) (without-entries r i) (same-texts q r j i) other refl does refl

-- ---- an answer with status 0 stands on standard output alone

answer-of : (w : Response) (bytes : List ℕ) → w ≡ answer bytes → w ≡ answer w.out
answer-of w bytes u = u ∙ ap answer (sym (ap (λ (x : Response). x.out) u))

no-answer : {P : Type 0} (w : Response) (s : Status) (told : List ℕ) → w ≡ fault told s → (code_of s ≡ 0 → ⊥) → w.status ≡ status.Ok → P
no-answer w s told u n ok = other_status s status.Ok (sym (ap (λ (x : Response). x.status) u) ∙ ok) n

typed-out : (v : Verb) (i : Reading) (e : Term) (w : Response) → TypedAnswer v i e w → w.status ≡ status.Ok → w ≡ answer w.out
typed-out v i e w (prints t bytes h p u) ok = answer-of w (line bytes) u
typed-out v i e w (refuses f bytes h l u) ok = no-answer w status.Ill bytes u (λ n. omega (arith, n)) ok
typed-out v i e w (limited l m h u) ok = no-answer w status.Limit (norm_fault_line l) u (λ n. omega (arith, n)) ok
typed-out v i e w (no_value t f place same h x d j u) ok = no-answer w status.NoJson (no_json_line place) u (λ n. omega (arith, n)) ok

valued-out : (v : Verb) (i : Reading) (e : Term) (w : Response) → ValuedAnswer v i e w → w.status ≡ status.Ok → w ≡ answer w.out
valued-out v i e w (itself h u) ok = answer-of w _ u
valued-out v i e w (frozen bytes h z u) ok = answer-of w bytes u
valued-out v i e w (typed t a) ok = typed-out v i e w a ok

does-out : (v : Verb) (ops : List Word) (text : List ℕ) (r : Record) (w : Response) → IsTrue (does_resolve v) → Does v ops text r w → w.status ≡ status.Ok → w ≡ answer w.out
does-out v ops text r w t d ok = let plain = plain-answer v ops text r w t ok d in valued-out v _ plain.value w plain.answer ok

-- ---- no call of these desks fails

no-faults : {D : Type 0} (ds : List D) → sum_by (λ _. 0) ds ≡ 0
no-faults [] = refl
no-faults (d ∷ ds) = let more = sum_by-cons (λ _. 0) d ds in let rest = no-faults ds in omega (arith, more, rest)

none-last : {D : Type 0} (ds : List D) → Any (λ _. AtLast 0) ds → ⊥
none-last ds (i, x, small, is, last) = omega (arith, last)

pub without_failures : {D : Type 0} (before after : List D) (t : Shown) → FailsAll (λ _. 0) before after t → failures (record_of t) ≡ 0
without_failures before after t (inl last) = absurd (none-last after last)
without_failures before after t (inr sums) = let b = no-faults before in let a = no-faults after in omega (arith, sums, a, b)

-- ---- replies

pub counted_as : (hash w : Response) (i j a b : ℕ) (digest : List ℕ) → hash.status ≡ status.Ok → i ≡ j → a ≡ b → digest ≡ hash.out → w ≡ answer (count_lines i a ++ digest)
    → IsCounted j b hash w
counted_as hash w i j a b digest ok p q r u =
    with_digest ok
    (u ∙ (ap (λ k. answer (count_lines k a ++ digest)) p ∙ (ap (λ k. answer (count_lines j k ++ digest)) q ∙ ap (λ z. answer (count_lines j b ++ z)) r)))

-- what is written where this was found for the list
generated-by : (n : ℕ) (r : Record) (asked imports : ℕ) (root : Term) (hash w : Response) → GenSession n r asked → ParsesTo (list_text n) (Ok root)
    → Does verb.Hash [] (list_text n) r hash → ¬ (hash.status ≡ status.Desk) → imports ≡ key_count root r → IsCounted imports asked hash w → IsGenerated n w
generated-by n r asked imports root hash w s p d alone count (with_digest ok u) = record {
  found = r;
  asked = asked;
  session = s;
  answers = counts root hash.out p (subst (Does verb.Hash [] (list_text n) r) (does-out verb.Hash [] (list_text n) r hash refl d ok) d)
      (u ∙ ap (λ k. answer (count_lines k asked ++ hash.out)) count);
  alone = λ h. other_status status.Ok status.Desk (sym (ap (λ (x : Response). x.status) u) ∙ h) (λ k. omega (arith, k));
}
generated-by n r asked imports root hash w s p d alone count (with_fault bad u) = record {
  found = r;
  asked = asked;
  session = s;
  answers = faults (subst (Does verb.Hash [] (list_text n) r) (sym u) d) (λ h. bad (sym (ap (λ (x : Response). x.status) u) ∙ h));
  alone = λ h. alone (sym (ap (λ (x : Response). x.status) u) ∙ h);
}

-- where nothing was found: the list spells nothing, or has too many keys
generated-none : (n : ℕ) (w : Response) (s : Status) → Does verb.Hash [] (list_text n) nothing_found w → w.status ≡ s → (code_of s ≡ 0 → ⊥) → (code_of s ≡ 8 → ⊥) → IsGenerated n w
generated-none n w s d is fails other = record {
  found = nothing_found;
  asked = 0;
  session = no_list;
  answers = faults d (λ h. other_status s status.Ok (sym is ∙ h) fails);
  alone = λ h. other_status s status.Desk (sym is ∙ h) other;
}

-- a closed table of the list
listed_reply : (r : Result Reply AllocError) (text : List ℕ) (root : Term) (t : Shown) (asked : ℕ) (pairs : List Pair) → (state_of t).root ≡ root → ParsesTo text (Ok root)
    → Session told shelved text (record_of t) asked pairs → failures (record_of t) ≡ 0 → count_by counting.is_fetch_claim t.history ≡ asked
    → ((w : Response) → ResolvedAnswer verb.Hash text (state_of t).root (record_of t) w → ¬ (w.status ≡ status.Desk))
    → IfOk r (λ x. (hash : Response) × ResolvedAnswer verb.Hash text (state_of t).root (record_of t) hash
    × IsCounted (length (distinct (keys (state_of t)))) (count_by counting.is_fetch_claim t.history) hash (written x))
    → IfOk r (λ x. (n : ℕ) → text ≡ list_text n → IsGenerated n (written x))
listed_reply (Err e) text root t asked pairs at p s none same alone h = tt
listed_reply (Ok x) text root t asked pairs at p s none same alone (hash, a, c) =
    λ n is.
    generated-by n (record_of t) asked (key_count (state_of t).root (record_of t)) (state_of t).root hash (written x) (on_list (subst (λ z. Session told shelved z (record_of t) asked pairs) is s) none)
    (subst (λ z. ParsesTo z (Ok (state_of t).root)) is (subst (λ z. ParsesTo text (Ok z)) (sym at) p))
    (subst (λ z. Does verb.Hash [] z (record_of t) hash) is (spells (state_of t).root refl (subst (λ z. ParsesTo text (Ok z)) (sym at) p) a)) (alone hash a) refl
    (subst (λ k. IsCounted (key_count (state_of t).root (record_of t)) k hash (written x)) same c)

abbrev pub asked_of : GenDesk → ℕ
asked_of d = d.asked

module _ {D : Type 0} (asked : D → ℕ) (before mid : List D) (text : List ℕ) (root : Term) (t : Shown) (ended : Ended) (pairs : List Pair)
    (s : IsResolved told shelved asked (λ _. 0) (λ _. None) before mid root t ended pairs) (spelled : ParsesTo text (Ok root)) where
  no-failures : failures (record_of t) ≡ 0
  no-failures = without_failures before mid t s.fails

  session-of : Session told shelved text (record_of t) (count_by is_fetch_claim s.replayed.events) pairs
  session-of = the_session told shelved asked (λ _. 0) (λ _. None) before mid mid verb.Hash text root t ended pairs s refl refl spelled

  no-device : (w : Response) → ResolvedAnswer verb.Hash text (state_of t).root (record_of t) w → ¬ (w.status ≡ status.Desk)
  no-device w a h =
      resolved_device verb.Hash text (state_of t).root (record_of t) w a h
      (λ b by failed.
      let some = failure_found told shelved asked (λ _. 0) (λ _. None) before mid mid verb.Hash text root t ended pairs s refl refl spelled b by failed in omega (arith, some, no-failures))

  pub list_generated : (r : Result Reply AllocError)
      → IfOk r (λ x. (hash : Response) × ResolvedAnswer verb.Hash text (state_of t).root (record_of t) hash
      × IsCounted (length (distinct (keys (state_of t)))) (count_by counting.is_fetch_claim t.history) hash (written x))
      → IfOk r (λ x. (n : ℕ) → text ≡ list_text n → IsGenerated n (written x))
  list_generated r h = listed_reply r text root t (count_by is_fetch_claim s.replayed.events) pairs s.root_is spelled session-of no-failures (claims_same t s.replayed) no-device h

pub too_many_listed : (r : Result Reply AllocError) (text : List ℕ) (root : Term) (at : Option Key) → at ≡ None → ParsesTo text (Ok root) → has_too_many (opening root) ≡ true
    → IfOk r (λ x. written x ≡ fault (in_item at (why_line whys.TooMany)) (why_status whys.TooMany)) → IfOk r (λ x. (n : ℕ) → text ≡ list_text n → IsGenerated n (written x))
too_many_listed (Err e) text root at none p many h = tt
too_many_listed (Ok x) text root at none p many u =
    λ n same.
    generated-none n (written x) status.Limit (subst (λ z. Does verb.Hash [] z nothing_found (written x)) same (does_too_many verb.Hash [] text root (written x) at none refl p many u))
    (ap (λ (w : Response). w.status) u) (λ k. omega (arith, k)) (λ k. omega (arith, k))

-- a list that spells nothing
misspelt-list : (n : ℕ) (text : List ℕ) (f : ParseFault) (w : Response) → text ≡ list_text n → ParsesTo text (Err f) → w ≡ misspelt f → IsGenerated n w
misspelt-list n text f w same p u =
    generated-none n w status.Text (subst (λ z. Does verb.Hash [] z nothing_found w) same (spells_none f refl p u)) (ap (λ (w : Response). w.status) u) (λ k. omega (arith, k)) (λ k. omega (arith, k))

pub misspelt_listed : (r : Result Reply AllocError) (text : List ℕ) (f : ParseFault) → ParsesTo text (Err f) → IfOk r (λ x. written x ≡ misspelt f)
    → IfOk r (λ x. (n : ℕ) → text ≡ list_text n → IsGenerated n (written x))
misspelt_listed (Err e) text f p h = tt
misspelt_listed (Ok x) text f p u = λ n same. misspelt-list n text f (written x) same p u

-- ---- by the number that the operands name

number-is : (m n : ℕ) (o : Result ℕ ℕ) → o ≡ Ok m → o ≡ Ok n → m ≡ n
number-is m n o p q = let e : ◌≡◌ {A = Result ℕ ℕ} (Ok m) (Ok n) = sym p ∙ q in cc

abbrev Replies : List Word → Result Reply AllocError → Type 0
Replies ops r = IfOk r (λ x. (n : ℕ) → operand_number 1 ops ≡ Ok n → IsGenerated n (written x))

pub named_list : (r : Result Reply AllocError) (ops : List Word) (m : ℕ) (text : List ℕ) → operand_number 1 ops ≡ Ok m → text ≡ list_text m
    → IfOk r (λ x. (n : ℕ) → text ≡ list_text n → IsGenerated n (written x)) → Replies ops r
named_list (Err e) ops m text named is h = tt
named_list (Ok x) ops m text named is h = λ n also. h n (is ∙ ap list_text (number-is m n (operand_number 1 ops) named also))

-- ---- a command of the run

with-number : (o : Result ℕ ℕ) → IsOk o → (n : ℕ) × (o ≡ Ok n)
with-number (Ok n) ok = (n, refl)
with-number (Err k) ok = absurd (true≢false (sym ok))

performs-number : (c : Command) (ops : List Word) (left : Option (List ℕ)) (f : ℕ) (o : Outside) (w : Response) (n : ℕ) → c.verb ≡ verb.Gen → operand_number 1 ops ≡ Ok n → IsLeftAlone o
    → IsGenerated n w → Performs c ops (reading left left f f) o w
performs-number c ops left f o w n g named alone i =
    λ words e os.
    record {
      found = i.found ∷ [];
      makes = generates c n i.found i.asked e g (ap (operand_number 1) os ∙ named) refl (keeps_itself left, refl) alone i.session i.answers;
      devices = λ h. absurd (i.alone h);
    }

pub generated_performs : (c : Command) (ops : List Word) (left : Option (List ℕ)) (f : ℕ) (o : Outside) (r : Result Reply AllocError) → c.verb ≡ verb.Gen → IsOk (operand_number 1 ops) → IsLeftAlone o
    → Replies ops r → IfOk r (λ x. Performs c ops (reading left left f f) o (written x))
generated_performs c ops left f o (Err e) g ok alone h = tt
generated_performs c ops left f o (Ok x) g ok alone h = let (n, named) = with-number (operand_number 1 ops) ok in performs-number c ops left f o (written x) n g named alone (h n named)
