-- A failed device is told only where one failed.
use Rattle.std.proofs.Common.{◌≡◌, ◌⊎◌, inl, inr, ℕ, ◌+◌, ◌≤◌, ◌<◌, List, [], ◌∷◌, Bool, true, false, true≢false, if◌then◌else◌, Option, Some, None, Result, Ok, Err, refl, sym, ap, ◌∙◌, subst, arith}
use Rattle.std.specs.Prelude.{Any, IsTrue, cond, count_by}
use Rattle.std.proofs.lemmas.List.Sums.{sum_by-cons}
use Rattle.dh_syntax.specs.declared.faults.DecodeFault.{DecodeFault}
use Rattle.dh_syntax.specs.declared.faults.ParseFault.{ParseFault}
use Rattle.dh_syntax.specs.declared.faults.TypeFault.TheVariants as type_faults
use Rattle.dh_syntax.specs.declared.locations.Digest.{Digest}
use Rattle.dh_syntax.specs.declared.locations.Loc.{Loc}
use Rattle.dh_imports.specs.declared.outcomes.Blame.{Blame}
use Rattle.dh_imports.specs.declared.outcomes.Why.{Why}
use Rattle.dh_imports.specs.declared.outcomes.Why.TheVariants as whys
use Rattle.dh_command.specs.declared.statuses.Status.{Status}
use Rattle.dh_command.specs.declared.statuses.Status.TheVariants as status
use Rattle.dh_command.specs.declared.verbs.Verb.{Verb}
use Rattle.dh_command.specs.declared.verbs.Verb.TheVariants as verb
use Rattle.dh_command.specs.Answer.{Does, ResolvedAnswer, ValuedAnswer, TypedAnswer, FaultAnswer, encodes, decodes, decodes_none, spells, spells_none, takes_steps, explains, helps, tells_version, valued, faulty, circular, overfull, at_fault, itself, frozen, typed, prints, refuses, limited, no_value, encoded, decoded}
use Rattle.dh_command.specs.Responses.{Response}
use Rattle.dh_command.specs.Statuses.{why_status}
use Rattle.dh_command.specs.Statuses.{code_of}
use Rattle.dh_command.specs.StepsReplies.{steps_response}
use Rattle.dh_steps.specs.StepsAnswer as replies
use Rattle.dh_steps.specs.StepsAnswer.{StepsReply}
use Rattle.dh_command.specs.Words.{Word, resolves as does_resolve}
use Rattle.dh_syntax.specs.Expressions.SameTree.{loc_eq}
use Rattle.dh_syntax.specs.Expressions.Tree.{Term}
use Rattle.dh_imports.specs.Readings.{Reading}
use Rattle.dh_imports.specs.Records as found
use Rattle.dh_imports.specs.Records.{Record, Noted, Seen, lookup, text_at}
use Rattle.dh_imports.specs.Replay.{bad}
use Rattle.dh_imports.specs.RootEnds.{EndsBy}
use Rattle.dh_laws.proofs.KeyOrder.{none-some, some-equal}
use Rattle.dh_session.specs.Works.{AtLast}
use Rattle.dh_record.specs.Brought.{has_failed, is_failed}
use Rattle.dh_top.specs.Outside.{Outside, Finds, finds, finds_each, leaves, all_failures, failures, total}
use Rattle.dh_streams.specs.Deliveries.{Delivers, whole, out_failed, err_failed}
use Rattle.dh_streams.specs.Streams.{Output}
use Rattle.dh_top.specs.Runs.{DeskFailed}

-- ---- statuses by their numbers

pub other_status : {P : Type 0} (a b : Status) → a ≡ b → (code_of a ≡ code_of b → ⊥) → P
other_status a b e n = absurd (n (ap code_of e))

not_desk : {P : Type 0} (w : Response) (s : Status) → w.status ≡ s → (code_of s ≡ 8 → ⊥) → w.status ≡ status.Desk → P
not_desk w s is n e = other_status s status.Desk (sym is ∙ e) n

pub why_desk : (w : Why) → why_status w ≡ status.Desk → w ≡ whys.Failed
why_desk whys.Failed e = refl
why_desk (whys.Typing (type_faults.Ill f)) e = other_status _ _ e (λ n. omega (arith, n))
why_desk (whys.Typing type_faults.Wide) e = other_status _ _ e (λ n. omega (arith, n))
why_desk (whys.Typing type_faults.Spent) e = other_status _ _ e (λ n. omega (arith, n))
why_desk (whys.Typing type_faults.Deep) e = other_status _ _ e (λ n. omega (arith, n))
why_desk (whys.Typing type_faults.Memory) e = other_status _ _ e (λ n. omega (arith, n))
why_desk (whys.Parse g) e = other_status _ _ e (λ n. omega (arith, n))
why_desk (whys.Norm g) e = other_status _ _ e (λ n. omega (arith, n))
why_desk whys.Absent e = other_status _ _ e (λ n. omega (arith, n))
why_desk whys.Missing e = other_status _ _ e (λ n. omega (arith, n))
why_desk (whys.Broken k) e = other_status _ _ e (λ n. omega (arith, n))
why_desk whys.Https e = other_status _ _ e (λ n. omega (arith, n))
why_desk (whys.Differs a b) e = other_status _ _ e (λ n. omega (arith, n))
why_desk (whys.Insane l) e = other_status _ _ e (λ n. omega (arith, n))
why_desk (whys.Cors l) e = other_status _ _ e (λ n. omega (arith, n))
why_desk whys.Cycle e = other_status _ _ e (λ n. omega (arith, n))
why_desk whys.TooMany e = other_status _ _ e (λ n. omega (arith, n))

-- ---- answers that tell no device

encoded_status : {P : Type 0} (w : Response) (o : Result Term ParseFault) → w ≡ encoded o → w.status ≡ status.Desk → P
encoded_status w (Ok e) is = not_desk w status.Ok (ap (λ w. w.status) is) (λ n. omega (arith, n))
encoded_status w (Err f) is = not_desk w status.Text (ap (λ w. w.status) is) (λ n. omega (arith, n))

decoded_status : {P : Type 0} (w : Response) (o : Result Term DecodeFault) → w ≡ decoded o → w.status ≡ status.Desk → P
decoded_status w (Ok e) is = not_desk w status.Ok (ap (λ w. w.status) is) (λ n. omega (arith, n))
decoded_status w (Err f) is = not_desk w status.Text (ap (λ w. w.status) is) (λ n. omega (arith, n))

steps_status : {P : Type 0} (s : StepsReply) (w : Response) → w ≡ steps_response s → w.status ≡ status.Desk → P
steps_status (replies.Misspelt f) w u = not_desk w status.Text (ap (λ w. w.status) u) (λ n. omega (arith, n))
steps_status (replies.Stuck text) w u = not_desk w status.Step (ap (λ w. w.status) u) (λ n. omega (arith, n))
steps_status (replies.TooLarge text) w u = not_desk w status.Limit (ap (λ w. w.status) u) (λ n. omega (arith, n))
steps_status (replies.Printed a b) w u = not_desk w status.Ok (ap (λ w. w.status) u) (λ n. omega (arith, n))

resolves_none : {P : Type 0} (v : Verb) → does_resolve v ≡ false → IsTrue (does_resolve v) → P
resolves_none v n t = absurd (true≢false (sym t ∙ n))

pub alone_status : {P : Type 0} (v : Verb) (ops : List Word) (text : List ℕ) (r : Record) (w : Response) → does_resolve v ≡ false → Does v ops text r w → w.status ≡ status.Desk → P
alone_status v ops text r w n (encodes o h p q) = encoded_status w o q
alone_status v ops text r w n (decodes o h l p q) = decoded_status w o q
alone_status v ops text r w n (decodes_none h l q) = not_desk w status.Text (ap (λ w. w.status) q) (λ k. omega (arith, k))
alone_status v ops text r w n (spells e h p a) = resolves_none v n h
alone_status v ops text r w n (spells_none f h p q) = resolves_none v n h
alone_status v ops text r w n (takes_steps places s h k a u) = steps_status s w u
alone_status v ops text r w n (explains told h k q) = not_desk w status.Ok (ap (λ w. w.status) q) (λ k. omega (arith, k))
alone_status v ops text r w n (helps h q) = not_desk w status.Ok (ap (λ w. w.status) q) (λ k. omega (arith, k))
alone_status v ops text r w n (tells_version h q) = not_desk w status.Ok (ap (λ w. w.status) q) (λ k. omega (arith, k))

pub misspelt_status : {P : Type 0} (w : Response) → w.status ≡ status.Text → w.status ≡ status.Desk → P
misspelt_status w is = not_desk w status.Text is (λ n. omega (arith, n))

pub limit_status : {P : Type 0} (w : Response) → w.status ≡ status.Limit → w.status ≡ status.Desk → P
limit_status w is = not_desk w status.Limit is (λ n. omega (arith, n))

pub other_statuses : {P : Type 0} (w : Response) (s : Status) → w.status ≡ s → (code_of s ≡ 8 → ⊥) → w.status ≡ status.Desk → P
other_statuses w s is n = not_desk w s is n

typed_status : {P : Type 0} (v : Verb) (i : Reading) (e : Term) (w : Response) → TypedAnswer v i e w → w.status ≡ status.Desk → P
typed_status v i e w (prints t bytes h p u) = not_desk w status.Ok (ap (λ w. w.status) u) (λ n. omega (arith, n))
typed_status v i e w (refuses f bytes h l u) = not_desk w status.Ill (ap (λ w. w.status) u) (λ n. omega (arith, n))
typed_status v i e w (limited l m h u) = not_desk w status.Limit (ap (λ w. w.status) u) (λ n. omega (arith, n))
typed_status v i e w (no_value t f at same h n d j u) = not_desk w status.NoJson (ap (λ w. w.status) u) (λ n. omega (arith, n))

valued_status : {P : Type 0} (v : Verb) (i : Reading) (e : Term) (w : Response) → ValuedAnswer v i e w → w.status ≡ status.Desk → P
valued_status v i e w (itself h u) = not_desk w status.Ok (ap (λ w. w.status) u) (λ n. omega (arith, n))
valued_status v i e w (frozen bytes h z u) = not_desk w status.Ok (ap (λ w. w.status) u) (λ n. omega (arith, n))
valued_status v i e w (typed t a) = typed_status v i e w a

-- ---- a failure that was found

abbrev is_failing : Loc × Noted → Bool
is_failing t = has_failed t.1

count_more : (t : Loc × Noted) (ts : List (Loc × Noted)) → count_by is_failing (t ∷ ts) ≡ cond (has_failed t.1) 1 0 + count_by is_failing ts
count_more t ts = sum_by-cons (λ (q : Loc × Noted). cond (has_failed q.1) 1 0) t ts

-- a text that failed is counted, whether it stands first or later
here_counted : (t : Loc × Noted) (ts : List (Loc × Noted)) → t.1 ≡ found.Failed → 0 < count_by is_failing (t ∷ ts)
here_counted t ts e = let c = count_more t ts in let f : ◌≡◌ {A = ℕ} (cond (has_failed t.1) 1 0) 1 = ap (λ x. cond (has_failed x) 1 0) e in omega (arith, c, f)

there_counted : (t : Loc × Noted) (ts : List (Loc × Noted)) → 0 < count_by is_failing ts → 0 < count_by is_failing (t ∷ ts)
there_counted t ts k = let c = count_more t ts in omega (arith, c, k)

named_counted : (t : Loc × Noted) (ts : List (Loc × Noted)) (l : Loc) (b : Bool) → (lookup loc_eq ts l ≡ Some found.Failed → 0 < count_by is_failing ts)
    → (if b then Some t.1 else lookup loc_eq ts l) ≡ Some found.Failed → 0 < count_by is_failing (t ∷ ts)
named_counted t ts l true rest g = here_counted t ts (some-equal g)
named_counted t ts l false rest g = there_counted t ts (rest g)

counted : (ts : List (Loc × Noted)) (l : Loc) → lookup loc_eq ts l ≡ Some found.Failed → 0 < count_by is_failing ts
counted [] l h = none-some refl h
counted (t ∷ ts) l h = named_counted t ts l (loc_eq t.0 l) (counted ts l) h

pub failed_found : (r : Record) (l : Loc) → text_at r l ≡ Some found.Failed → 0 < failures r
failed_found r l h = let c = counted r.texts l h in omega (arith, c)

-- a fault that decides and is one of a device
pub resolved_device : {P : Type 0} (v : Verb) (text : List ℕ) (root : Term) (r : Record) (w : Response) → ResolvedAnswer v text root r w → w.status ≡ status.Desk
    → ((b : Blame) → EndsBy r root (bad b) → b.why ≡ whys.Failed → P) → P
resolved_device v text root r w (valued e ask by h a) d next = valued_status v _ e w a d
resolved_device v text root r w (faulty b by (at_fault bytes l u)) d next = next b by (why_desk b.why (sym (ap (λ w. w.status) u) ∙ d))
resolved_device v text root r w (circular j by (at_fault bytes l u)) d next = not_desk w status.Import (ap (λ w. w.status) u) (λ n. omega (arith, n)) d
resolved_device v text root r w (overfull by (at_fault bytes l u)) d next = not_desk w status.Limit (ap (λ w. w.status) u) (λ n. omega (arith, n)) d

-- ---- the desks

rose : (before after : List ℕ) (n : ℕ) → 0 < n → Any AtLast after ⊎ (n + total before ≤ total after) → Any AtLast after ⊎ (total before < total after)
rose before after n some (inl h) = inl h
rose before after n some (inr h) = inr (omega (arith, some, h))

pub desk_failed : (v : Verb) (ops : List Word) (text : List ℕ) (o : Outside) (rs : List Record) → Finds v ops text o rs → 0 < all_failures rs → DeskFailed o
desk_failed v ops text o rs (finds r n pairs t one s shown) some =
    rose o.faults_before o.faults_after (all_failures rs) some shown.failed
desk_failed v ops text o rs (finds_each asks pairs b s shown) some = rose o.faults_before o.faults_after (all_failures rs) some shown.failed
desk_failed v ops text o rs (leaves none alone) some = absurd (let z : all_failures rs ≡ 0 = ap all_failures none in omega (arith, z, some))

pub told_device : (w : Response) (o : Outside) (out err : Output) (s : Status) → (w.status ≡ status.Desk → DeskFailed o) → Delivers w out err s → s ≡ status.Desk → DeskFailed o
told_device w o out err s d (whole g h e) is = d (sym e ∙ is)
told_device w o out err s d (out_failed g h e) is = other_status status.Write status.Desk (sym e ∙ is) (λ n. omega (arith, n))
told_device w o out err s d (err_failed g h e) is = other_status status.Write status.Desk (sym e ∙ is) (λ n. omega (arith, n))
