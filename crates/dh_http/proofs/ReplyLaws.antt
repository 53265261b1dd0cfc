-- Replies, from what was read of them.
use Rattle.std.proofs.Common.{Result, Ok, Err, IfOk, OnOk, OnErr, ◌≡◌, ◌≢◌, ℕ, inl, inr, List, [], length, Option, Some, None, IfSome, true, false, refl, sym, ap, ◌∙◌, arith, subst}
use Rattle.std.proofs.lemmas.List.{take_all}
use Rattle.std.proofs.KnownBytes.{Consumes-nil, Appends-nil, prepend_known-nil}
use Rattle.std.specs.Io.KnownBytes.{Appends}
use Rattle.httparse.specs.Grammar.{print_response, status_code}
use Rattle.dh_ports.specs.declared.worlds.Got.{Got}
use Rattle.dh_ports.specs.declared.worlds.Got.TheVariants.{Found, Absent, Broken}
use Rattle.dh_http.specs.Content.{TakesBody, ReadsAnswer, ReadsReply, ReceivesFew}
use Rattle.dh_http.specs.Fields.{framing}
use Rattle.dh_http.specs.Heads.{TakesHead}
use Rattle.dh_http.specs.Reading.{Place, place, InboxState, Stopped, Fits, ahead, to_ask}
use Rattle.dh_http.specs.Reply.{Answers, AnswersTo, Replies, fields_of}
use Rattle.dh_http.specs.Sent.{SendsPart}
use Rattle.dh_http.specs.declared.framings.Framing.{Framing}
use Rattle.dh_http.specs.declared.heads.Head.{Head}
use Rattle.dh_http.proofs.ContentLaws.{known_map}
use Rattle.dh_http.proofs.FormLaws.{where_known, known_first}
use Rattle.dh_http.proofs.Places.{Took_then, Took_none}

pub absent : (p : Place) (status : ℕ) (f : Framing) (allow : Option (List ℕ)) → Fits p.left p.inbox → status ≡ 404 → ReadsAnswer status f allow p p Absent
absent p status f allow fits h = record {
  went = ([], Took_none p fits);
  answers = where_known p _ (λ left e. inl (h, refl));
  short = omega arith;
}

pub broken : (p : Place) (status : ℕ) (f : Framing) (allow : Option (List ℕ)) → Fits p.left p.inbox → status ≢ 404 → status ≢ 200
    → ReadsAnswer status f allow p p (Broken status)
broken p status f allow fits h k = record {
  went = ([], Took_none p fits);
  answers = where_known p _ (λ left e. inr (inr (h, k, refl)));
  short = omega arith;
}

pub found : (a b : Place) (f : Framing) (allow : Option (List ℕ)) (body : List ℕ) → TakesBody f a b body true
    → ReadsAnswer 200 f allow a b (Found (record { bytes = body; allow = allow }))
found a b f allow body t = record {
  went = t.0;
  answers = known_map (ahead a.left a.inbox) _ _ t.2 (λ s h. inr (inl (refl, inl (body, h, refl))));
  short = t.1;
}

pub nothing : (a b : Place) (f : Framing) (allow : Option (List ℕ)) (body : List ℕ) → TakesBody f a b body false
    → ReadsAnswer 200 f allow a b (Broken 0)
nothing a b f allow body t = record {
  went = t.0;
  answers = known_map (ahead a.left a.inbox) _ _ t.1 (λ s none. inr (inl (refl, inr (none, refl))));
  short = omega arith;
}

pub head_reply : (a b c : Place) (head : Head) (got : Got) → TakesHead a b (Some head) → ReadsAnswer head.status head.framing head.allow b c got → ReadsReply a c got
head_reply a b c head got t r = record {
  went = (_, Took_then a b c (print_response t.0) r.went.0 t.1 r.went.1);
  replies = known_first a b (print_response t.0) _ (λ s. Answers head.status head.framing head.allow s got) t.1 r.answers (λ s answers.
      let says = t.4 in
      let first : Answers (status_code t.0) head.framing head.allow s got = subst (λ k. Answers k head.framing head.allow s got) says.status answers in
      let second : Answers (status_code t.0) (framing (fields_of t.0)) head.allow s got = subst (λ f. Answers (status_code t.0) f head.allow s got) says.framing first in
      let third : AnswersTo t.0 s got = subst (λ o. Answers (status_code t.0) (framing (fields_of t.0)) o s got) says.allow second in
      inl (t.0, s, ((t.2, refl), t.3, says.fields), third));
  short = r.short;
}

pub head_result : {E : Type 0} (a b c : Place) (head : Head) (r : Result Got E) → TakesHead a b (Some head)
    → IfOk r (ReadsAnswer head.status head.framing head.allow b c) → IfOk r (ReadsReply a c)
head_result a b c head (Ok got) t h = head_reply a b c head got t h
head_result a b c head (Err e) t h = tt

pub no_reply : (a b : Place) → TakesHead a b None → ReadsReply a b (Broken 0)
no_reply a b t = record {
  went = t.0;
  replies = known_map (ahead a.left a.inbox) _ _ t.1 (λ s none. inr (none, refl));
  short = omega arith;
}

-- ---- from an empty inbox

pub reply_known : {E : Type 0} (sent left : Option (List ℕ)) (receives faults : ℕ) (c : Place) (r : Result Got E) (i : InboxState) → i ≡ record { bytes = []; ended = false }
    → IfOk r (ReadsReply (place sent left receives faults i) c)
    → IfOk r (λ got. IfSome left (λ s. Replies s got))
reply_known sent left receives faults c (Ok got) i e h =
    subst (λ o. IfSome o (λ s. Replies s got)) (ap (ahead left) e ∙ prepend_known-nil left) h.replies
reply_known sent left receives faults c (Err f) i e h = tt

pub reply_few : {E : Type 0} (a c : Place) (r : Result Got E) → a.inbox ≡ record { bytes = []; ended = false } → IfOk r (ReadsReply a c) → OnErr r (Stopped a c)
    → ReceivesFew a.left c.left a.receives c.receives
reply_few a c (Ok got) e h k =
    let took = h.went.1 in
    record { moved = took.moved; received = took.received; count = omega (arith, took.count, ap to_ask e) }
reply_few a c (Err f) e h k = record { moved = k.moved; received = k.received; count = omega (arith, k.count, ap to_ask e) }

pub reply_sent : {E : Type 0} (a c : Place) (r : Result Got E) → IfOk r (ReadsReply a c) → OnErr r (Stopped a c) → c.sent ≡ a.sent
reply_sent a c (Ok got) h k = h.went.1.sent
reply_sent a c (Err f) h k = k.sent

pub reply_quiet : {E : Type 0} (a c : Place) (r : Result Got E) → IfOk r (ReadsReply a c) → OnOk r (c.faults ≡ a.faults)
reply_quiet a c (Ok got) h = h.went.1.quiet
reply_quiet a c (Err f) h = tt

-- ---- what was sent

pub part_none : (sent : Option (List ℕ)) (bytes : List ℕ) → SendsPart sent sent bytes
part_none sent bytes = (0, omega arith, Appends-nil sent)

pub part_all : (before after : Option (List ℕ)) (bytes : List ℕ) → Appends before after bytes → SendsPart before after bytes
part_all before after bytes h = (length bytes, omega arith, subst (Appends before after) (sym (take_all (length bytes) bytes (omega arith))) h)

pub few_none : (left : Option (List ℕ)) (receives : ℕ) → ReceivesFew left left receives receives
few_none left receives = record { moved = []; received = Consumes-nil left; count = omega arith }
