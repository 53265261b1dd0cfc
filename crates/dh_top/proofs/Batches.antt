-- Files that several desks served, as the answer of `batch`.
use Rattle.std.proofs.Common.{◌≡◌, ◌⊎◌, inl, inr, ℕ, zero, suc, ◌+◌, ◌<◌, ◌≤◌, List, [], ◌∷◌, ◌++◌, length, take, drop, map, Option, Some, None, IfSome, Result, Ok, Err, IfOk, refl, sym, ap, ◌∙◌, subst, arith}
use Rattle.std.specs.Prelude.{All, Any, IsTrue, OnErr, OnOk, count_by, slice_index_or, string_bytes, sum_by}
use Rattle.std.specs.declared.alloc.AllocError.{AllocError}
use Rattle.std.proofs.lemmas.List.Sums.{sum_by-cons}
use Rattle.dh_batch.specs.Dealing.{AreServed, Chain, HaveServed, dealt}
use Rattle.dh_command.specs.declared.statuses.Status.{Status}
use Rattle.dh_command.specs.declared.statuses.Status.TheVariants as status
use Rattle.dh_command.specs.Statuses.{code_of}
use Rattle.dh_command.specs.declared.verbs.Verb.{Verb}
use Rattle.dh_command.specs.declared.verbs.Verb.TheVariants as verb
use Rattle.dh_command.specs.Answer.{Does, FileAnswer, ResolvedAnswer, batched, hashes_file, nothing_found, on_files, spells}
use Rattle.dh_command.specs.Responses.{Response}
use Rattle.dh_command.specs.Words.{Word}
use Rattle.dh_files.specs.FileWords.{file_text}
use Rattle.dh_imports.specs.Records.{Record}
use Rattle.dh_ports.specs.declared.mem_desks.CacheEntry.{CacheEntry}
use Rattle.dh_record.specs.Kept.{pair_of}
use Rattle.dh_session.specs.Ended.{NoneFell}
use Rattle.dh_session.specs.Works.{AtLast}
use Rattle.dh_syntax.specs.Expressions.Tree.{Term}
use Rattle.dh_syntax.specs.Limits.{most_entry_bytes}
use Rattle.dh_syntax.specs.Text.Spelling.{ParsesTo}
use Rattle.dh_table.specs.declared.answers.roots.Ended.{Ended}
use Rattle.dh_table.specs.Shown.{Shown}
use Rattle.dh_table.specs.States.{record_of, state_of}
use Rattle.dh_top.specs.declared.files.FileReply.{FileReply}
use Rattle.dh_top.specs.declared.replies.Reply.{Reply}
use Rattle.dh_top.specs.FileReplies.{AllSmall, IsServed, IsSmall, all_pairs, pairs_of, response_of}
use Rattle.dh_top.specs.Outside.{Pair, Session, Shelving, Telling, outside, first_of, AtFirst, FilesAll, FilesPart, FilesSome, files_of_each, finds_each, Tried, with_session, without_session, all_failures, failures, is_fetch_claim, total}
use Rattle.dh_top.specs.Replies.{Answers, written}
use Rattle.dh_top.proofs.Devices.{other_statuses, resolved_device}
use Rattle.dh_top.proofs.Filing.{small_keeps}
use Rattle.dh_top.proofs.Finding.{asks_by, failed_by, last_map, mapped, total_map}
use Rattle.dh_top.proofs.Gathering.{AllServed, Asked, gathered, has_any, none_fell, same_filed, sum_is}
use Rattle.dh_top.proofs.Resolutions.{IsResolved, Keeping, all_at_first, all_faults, failure_found, first_fell, part_at_first, rises, the_session}
use Rattle.dh_top.proofs.Rounds.{Both, Has, Rounds, both_itself, rounds_served, sum}

-- ---- one file

alone_last : (n : ℕ) → Any AtLast (n ∷ []) → AtLast n
alone_last n (zero, x, lt, is, p) = omega (arith, is, p)
alone_last n (suc i, x, lt, is, p) = absurd (omega (arith, lt))

alone_asked : (a b n : ℕ) → Any AtLast (b ∷ []) ⊎ (total (b ∷ []) ≡ total (a ∷ []) + n) → AtLast b ⊎ (b ≡ a + n)
alone_asked a b n (inl last) = inl (alone_last b last)
alone_asked a b n (inr sums) = inr (omega (arith, sums, sum_by-cons (λ n. n) a [], sum_by-cons (λ n. n) b []))

alone_failed : (a b n : ℕ) → Any AtLast (b ∷ []) ⊎ (n + total (a ∷ []) ≤ total (b ∷ [])) → AtLast b ⊎ (n + a ≤ b)
alone_failed a b n (inl last) = inl (alone_last b last)
alone_failed a b n (inr sums) = inr (omega (arith, sums, sum_by-cons (λ n. n) a [], sum_by-cons (λ n. n) b []))

module _ (told : Telling) (shelved : Shelving) {D : Type 0} (asked faults : D → ℕ) (filed : D → Option (List Pair)) (word : Word) (d d' : D) where
  -- a session that resolved the root of a file
  pub root_served : (text : List ℕ) (root : Term) (t : Shown) (ended : Ended) (a : FileReply) (x : Reply) → text ≡ file_text word → a.reply ≡ Some x
      → IsResolved told shelved asked faults filed (d ∷ []) (d' ∷ []) root t ended (pairs_of a) → ParsesTo text (Ok root)
      → ResolvedAnswer verb.Hash text (state_of t).root (record_of t) (written x) → IsServed told shelved asked faults filed word d d' a
  root_served text root t ended a x is has s spelled answer = record {
    found = record_of t;
    asks = Some (count_by is_fetch_claim s.replayed.events);
    tried = with_session
        (subst (λ tx. Session told shelved tx (record_of t) (count_by is_fetch_claim s.replayed.events) (pairs_of a)) is
        (the_session told shelved asked faults filed (d ∷ []) (d' ∷ []) (d' ∷ []) verb.Hash text root t ended (pairs_of a) s refl refl spelled));
    answer = hashes_file (subst (λ w. Does verb.Hash [] (file_text word) (record_of t) w) shown (subst (λ tx. Does verb.Hash [] tx (record_of t) (written x)) is does));
    device = λ e. resolved_device verb.Hash text (state_of t).root (record_of t) (written x) answer (ap (λ (w : Response). w.status) shown ∙ e)
        (λ b by failed. failure_found told shelved asked faults filed (d ∷ []) (d' ∷ []) (d' ∷ []) verb.Hash text root t ended (pairs_of a) s refl refl spelled b by failed);
    small = small_keeps t a.keeps a.keeps refl s.keeps;
    asked_for = alone_asked (asked d) (asked d') (count_by is_fetch_claim s.replayed.events) (asks_by asked (d ∷ []) (d' ∷ []) (d' ∷ []) t s.replayed s.asks refl);
    failed = alone_failed (faults d) (faults d') (failures (record_of t)) (mapped faults (failures (record_of t)) (d ∷ []) (d' ∷ []) s.fails);
    rose = first_fell _ _ s.fell;
    kept = ap (first_of None) s.filed_is;
  }
    where
      does : Does verb.Hash [] text (record_of t) (written x)
      does = spells root refl spelled (subst (λ r. ResolvedAnswer verb.Hash text r (record_of t) (written x)) s.root_is answer)

      shown : written x ≡ response_of a
      shown = ap (λ o. response_of (record { reply = o; keeps = a.keeps })) (sym has)

  -- nothing was found
  pub nothing_served : (a : FileReply) → a.keeps ≡ [] → FileAnswer word nothing_found (response_of a) → ((response_of a).status ≡ status.Desk → ⊥) → faults d ≤ faults d' → filed d' ≡ filed d
      → IsServed told shelved asked faults filed word d d' a
  nothing_served a none answer other up same = record {
    found = nothing_found;
    asks = None;
    tried = subst (λ es. Tried told shelved (file_text word) nothing_found None (map pair_of es)) (sym none) without_session;
    answer = answer;
    device = λ e. absurd (other e);
    small = subst (λ es. All (λ e. length e.bytes ≤ most_entry_bytes) es) (sym none) (λ k e lt. absurd (omega (arith, lt)));
    asked_for = tt;
    failed = inr (let z : failures nothing_found ≡ 0 = refl in omega (arith, z, up));
    rose = up;
    kept = same;
  }

  -- nor was anything, where the text of the file has no root to resolve, or too many keys
  pub refused_served : (a : FileReply) (x : Reply) (text : List ℕ) (st : Status) → a.keeps ≡ [] → a.reply ≡ Some x → text ≡ file_text word → Does verb.Hash [] text nothing_found (written x)
      → (written x).status ≡ st → (code_of st ≡ 8 → ⊥) → faults d ≤ faults d' → filed d' ≡ filed d → IsServed told shelved asked faults filed word d d' a
  refused_served a x text st none has is does told_as other up same =
      nothing_served a none
      (hashes_file (subst (λ w. Does verb.Hash [] (file_text word) nothing_found w) shown (subst (λ tx. Does verb.Hash [] tx nothing_found (written x)) is does)))
      (λ e. other_statuses (written x) st told_as other (ap (λ (w : Response). w.status) shown ∙ e)) up same
    where
      shown : written x ≡ response_of a
      shown = ap (λ o. response_of (record { reply = o; keeps = a.keeps })) (sym has)

-- ---- first desks and the others

split_at : {D : Type 0} (n : ℕ) (xs : List D) → take n xs ++ drop n xs ≡ xs
split_at zero xs = refl
split_at (suc n) [] = refl
split_at (suc n) (x ∷ xs) = ap (λ ys. x ∷ ys) (split_at n xs)

index_take : {D : Type 0} (n : ℕ) (xs : List D) (i : ℕ) (d : D) → i < n → slice_index_or (take n xs) i d ≡ slice_index_or xs i d
index_take zero xs i d lt = absurd (omega (arith, lt))
index_take (suc n) [] i d lt = refl
index_take (suc n) (x ∷ xs) zero d lt = refl
index_take (suc n) (x ∷ xs) (suc i) d lt = index_take n xs i d (omega (arith, lt))

take_len : {D : Type 0} (n : ℕ) (xs : List D) → n ≤ length xs → length (take n xs) ≡ n
take_len zero xs h = refl
take_len (suc n) [] h = absurd (omega (arith, h))
take_len (suc n) (x ∷ xs) h = ap suc (take_len n xs (omega (arith, h)))

module _ {D : Type 0} (P : D → D → Type 0) where
  both_by_places : (ds es : List D) → length ds ≡ length es → ((i : ℕ) (d : D) → i < length ds → P (slice_index_or ds i d) (slice_index_or es i d)) → Both P ds es
  both_by_places [] [] l h = tt
  both_by_places [] (e ∷ es) l h = absurd (omega (arith, l))
  both_by_places (d ∷ ds) [] l h = absurd (omega (arith, l))
  both_by_places (d ∷ ds) (e ∷ es) l h = (h 0 d (omega arith), both_by_places ds es (omega (arith, l)) (λ i x lt. h (suc i) x (omega (arith, lt))))

  both_more : ((d : D) → P d d) → (ds es others : List D) → Both P ds es → Both P (ds ++ others) (es ++ others)
  both_more itself [] [] others b = both_itself P itself others
  both_more itself [] (e ∷ es) others b = absurd b
  both_more itself (d ∷ ds) [] others b = absurd b
  both_more itself (d ∷ ds) (e ∷ es) others (h, b) = (h, both_more itself ds es others b)

sum_more : {D : Type 0} (count : D → ℕ) (ds others : List D) → sum count (ds ++ others) ≡ sum count ds + sum count others
sum_more count [] others = omega arith
sum_more count (d ∷ ds) others = let k = sum_more count ds others in omega (arith, k)

has_more : {D : Type 0} (P : D → Type 0) (ds others : List D) → Has P ds → Has P (ds ++ others)
has_more P [] others h = absurd h
has_more P (d ∷ ds) others (inl h) = inl h
has_more P (d ∷ ds) others (inr h) = inr (has_more P ds others h)

-- ---- all files

module _ (told : Telling) (shelved : Shelving) {D : Type 0} (asked faults : D → ℕ) (filed : D → Option (List Pair)) where
  asked_more : (ds es others : List D) (n : ℕ) → Asked asked ds es n → Asked asked (ds ++ others) (es ++ others) n
  asked_more ds es others n (b, inl h) = (both_more _ (λ d h. h) ds es others b, inl (has_more _ es others h))
  asked_more ds es others n (b, inr h) =
      (both_more _ (λ d h. h) ds es others b, inr (let p = sum_more asked ds others in let q = sum_more asked es others in omega (arith, h, p, q)))

  asks_more : (asks : Option ℕ) (ds es others : List D) → IfSome asks (Asked asked ds es) → IfSome asks (Asked asked (ds ++ others) (es ++ others))
  asks_more None ds es others h = tt
  asks_more (Some n) ds es others h = asked_more ds es others n h

  fails_more : (n : ℕ) (ds es others : List D) → Has (λ d. AtLast (faults d)) es ⊎ (n + sum faults ds ≤ sum faults es)
      → Has (λ d. AtLast (faults d)) (es ++ others) ⊎ (n + sum faults (ds ++ others) ≤ sum faults (es ++ others))
  fails_more n ds es others (inl h) = inl (has_more _ es others h)
  fails_more n ds es others (inr h) = inr (let p = sum_more faults ds others in let q = sum_more faults es others in omega (arith, h, p, q))

  -- desks that served nothing
  served_more : (ds es others : List D) (words : List Word) (replies : List FileReply) → AllServed told shelved asked faults filed ds es words replies
      → AllServed told shelved asked faults filed (ds ++ others) (es ++ others) words replies
  served_more ds es others words replies g = record {
    found = g.found;
    asks = g.asks;
    sessions = g.sessions;
    answers = g.answers;
    device = g.device;
    small = g.small;
    asked_for = asks_more g.asks ds es others g.asked_for;
    failed = fails_more (all_failures g.found) ds es others g.failed;
    rose = both_more _ (λ d. omega arith) ds es others g.rose;
    kept = both_more _ (λ d. refl) ds es others g.kept;
  }

  abbrev pub Replies : {F : Type 0} → (F → Word) → F → D → D → FileReply → Type 0
  Replies name f d e a = IsServed told shelved asked faults filed (name f) d e a

  -- what n desks of these served
  pub all_served : {F : Type 0} (name : F → Word) (n : ℕ) (before mid : List D) (fs : List F) (replies : List FileReply) → 0 < n → n ≤ length before → length mid ≡ length before
      → drop n mid ≡ drop n before → AreServed (Replies name) n before mid fs replies → AllServed told shelved asked faults filed before mid (map name fs) replies
  all_served name n before mid fs replies some enough same idle (m, chains) =
      let first : AreServed (Replies name) n (take n before) (take n mid) fs replies = (
        m,
        λ i d lt.
            subst (λ x. Chain (Replies name) x (slice_index_or (take n mid) i d) (dealt n i fs) (dealt n i replies)) (sym (index_take n before i d lt))
            (subst (λ x. Chain (Replies name) (slice_index_or before i d) x (dealt n i fs) (dealt n i replies)) (sym (index_take n mid i d lt)) (chains i d lt)),
      ) in
      let rounds = rounds_served (Replies name) n (take n before) (take n mid) fs replies some (take_len n before enough) (take_len n mid (omega (arith, enough, same))) first in
      let g = served_more (take n before) (take n mid) (drop n before) (map name fs) replies (gathered told shelved asked faults filed name rounds) in
      subst (λ ds. AllServed told shelved asked faults filed ds mid (map name fs) replies) (split_at n before)
      (subst (λ es. AllServed told shelved asked faults filed (take n before ++ drop n before) es (map name fs) replies) (ap (λ ys. take n mid ++ ys) (sym idle) ∙ split_at n mid) g)

  chain_filed : {F : Type 0} (name : F → Word) (d e : D) (fs : List F) (replies : List FileReply) → Chain (Replies name) d e fs replies → filed e ≡ filed d
  chain_filed name d e [] [] h = ap filed h
  chain_filed name d e [] (a ∷ replies) h = absurd h
  chain_filed name d e (f ∷ fs) [] h = absurd h
  chain_filed name d e (f ∷ fs) (a ∷ replies) (between, s, rest) = chain_filed name between e fs replies rest ∙ s.kept

  -- where memory was wanting for the replies, the desks have kept nothing either
  pub none_filed : {F : Type 0} (name : F → Word) (n : ℕ) (before mid : List D) → n ≤ length before → length mid ≡ length before → drop n mid ≡ drop n before
      → HaveServed (Replies name) n before mid → map filed mid ≡ map filed before
  none_filed {F} name n before mid enough same idle h =
      let p : length (take n before) ≡ n = take_len n before enough in
      let q : length (take n mid) ≡ n = take_len n mid (omega (arith, enough, same)) in
      let b : Both (λ d e. filed e ≡ filed d) (take n before) (take n mid) = both_by_places (λ d e. filed e ≡ filed d) (take n before) (take n mid) (p ∙ sym q) (λ i d lt. at i d (omega (arith, lt, p))) in
      let all = both_more (λ d e. filed e ≡ filed d) (λ d. refl) (take n before) (take n mid) (drop n before) b in
      same_filed filed before mid
      (subst (λ ds. Both (λ d e. filed e ≡ filed d) ds mid) (split_at n before)
      (subst (λ es. Both (λ d e. filed e ≡ filed d) (take n before ++ drop n before) es) (ap (λ ys. take n mid ++ ys) (sym idle) ∙ split_at n mid) all))
    where
      at : (i : ℕ) (d : D) → i < n → filed (slice_index_or (take n mid) i d) ≡ filed (slice_index_or (take n before) i d)
      at i d lt =
          let (fs, replies, chain) = h i d lt in
          ap filed (index_take n mid i d lt) ∙ (chain_filed name (slice_index_or before i d) (slice_index_or mid i d) fs replies chain ∙ ap filed (sym (index_take n before i d lt)))

  -- ---- and what was kept then

  module _ (before mid after : List D) (words : List Word) (replies : List FileReply) (g : AllServed told shelved asked faults filed before mid words replies)
      (asks_same : map asked after ≡ map asked mid) where
    fell : NoneFell (map faults before) (map faults mid)
    fell = none_fell faults before mid g.rose

    same : map filed mid ≡ map filed before
    same = same_filed filed before mid g.kept

    fails : Any (λ d. AtLast (faults d)) mid ⊎ (all_failures g.found + sum_by faults before ≤ sum_by faults mid)
    fails = by g.failed
      where
        by : Has (λ d. AtLast (faults d)) mid ⊎ (all_failures g.found + sum faults before ≤ sum faults mid)
            → Any (λ d. AtLast (faults d)) mid ⊎ (all_failures g.found + sum_by faults before ≤ sum_by faults mid)
        by (inl h) = inl (has_any (λ d. AtLast (faults d)) mid h)
        by (inr h) = inr (let p = sum_is faults before in let q = sum_is faults mid in omega (arith, h, p, q))

    asks_shown : (asks : Option ℕ) → IfSome asks (Asked asked before mid) → IfSome asks (λ n. Any AtLast (map asked after) ⊎ (total (map asked after) ≡ total (map asked before) + n))
    asks_shown None h = tt
    asks_shown (Some n) (b, inl h) = inl (subst (λ ns. Any AtLast ns) (sym asks_same) (last_map asked mid (has_any (λ d. AtLast (asked d)) mid h)))
    asks_shown (Some n) (b, inr h) =
        inr (ap total asks_same ∙ (let p = sum_is asked before in let q = sum_is asked mid in omega (arith, h, p, q, total_map asked before, total_map asked mid)))

    pub answered_each : (v : Verb) (text : List ℕ) (w : Response) → v ≡ verb.Batch → w ≡ batched words (map response_of replies)
        → Keeping faults (λ d e. FilesAll (faults d) (faults e) (filed d) (filed e) (all_pairs replies)) mid after
        → Answers v words text (outside told shelved asked faults filed before after) w
    answered_each v text w b is k = record {
      found = g.found;
      finds = finds_each g.asks (all_pairs replies) b g.sessions (record {
        asked = asks_shown g.asks g.asked_for;
        failed = failed_by faults (all_failures g.found) before mid after fails (rises faults k);
        files = all_at_first faults filed (all_pairs replies) before mid after fell same k;
        faults = all_faults faults filed (all_failures g.found) (all_pairs replies) before mid after fell same k fails;
      });
      does = on_files (map response_of replies) b g.answers is;
      devices = λ h. g.device (sym (ap (λ (x : Response). x.status) is) ∙ h);
    }

    pub part_each : (v : Verb) (text : List ℕ) → v ≡ verb.Batch → Keeping faults (λ d e. (kept : List Pair) × FilesSome (filed d) (filed e) (all_pairs replies) kept) mid after
        → FilesPart v words text (outside told shelved asked faults filed before after)
    part_each v text b k =
        let part = part_at_first faults filed (all_pairs replies) before mid after same k in
        files_of_each g.found g.asks (all_pairs replies) b g.sessions (record {
          asked = asks_shown g.asks g.asked_for;
          failed = failed_by faults (all_failures g.found) before mid after fails (rises faults k);
          kept = part.0;
          files = part.1;
        })

    pub answered_each_ok : (v : Verb) (text : List ℕ) (r : Result Reply AllocError) → v ≡ verb.Batch
        → OnOk r (Keeping faults (λ d e. FilesAll (faults d) (faults e) (filed d) (filed e) (all_pairs replies)) mid after)
        → IfOk r (λ x. written x ≡ batched words (map response_of replies)) → IfOk r (λ x. Answers v words text (outside told shelved asked faults filed before after) (written x))
    answered_each_ok v text (Ok x) b k is = answered_each v text (written x) b is k
    answered_each_ok v text (Err e) b k is = tt

    pub part_each_err : (v : Verb) (text : List ℕ) (r : Result Reply AllocError) → v ≡ verb.Batch
        → OnErr r (Keeping faults (λ d e. (kept : List Pair) × FilesSome (filed d) (filed e) (all_pairs replies) kept) mid after)
        → OnErr r (FilesPart v words text (outside told shelved asked faults filed before after))
    part_each_err v text (Ok x) b k = tt
    part_each_err v text (Err e) b k = part_each v text b k
