-- What the program decides at each head is what the definitions say.
use Rattle.std.specs.Prelude.{◌≡◌, ℕ, zero, suc, ◌+◌, ◌-◌, ◌<◌, ◌≤◌, Bool, true, false, not, ◌&&◌, nat_lt, nat_le, if◌then◌else◌, List, [], ◌∷◌, ◌++◌, length, drop, Option, Some, None, Result, Ok, Err, IfOk, IfErr, IsErrAnd, ⊤, ◌⊎◌, refl}
use Rattle.std.proofs.Common.{sym, ◌∙◌, ap, subst, inl, inr, arith}
use Rattle.std.proofs.lemmas.List.{length-drop}
use Rattle.dh_cbor.specs.Readings.{reason, place, the_mark, the_marked}
use Rattle.dh_cbor.specs.declared.faults.CborFault.{CborFault}
use Rattle.dh_cbor.specs.declared.marks.Marked as program
use Rattle.dh_syntax.specs.declared.expressions.Expr.{Expr}
use Rattle.dh_syntax.specs.Expressions.Bridge.{term}
use Rattle.dh_syntax.specs.declared.faults.DecodeFault.{DecodeFault}
use Rattle.dh_syntax.specs.declared.faults.DecodeFault.TheVariants as fault
use Rattle.dh_syntax.specs.Bytes.BinaryFaults.{DecodesTo, offset}
use Rattle.dh_syntax.specs.Bytes.BinaryHeads.{HeadFault, Mark, atom, array, tag, Marked, mark_at}
use Rattle.dh_syntax.specs.Bytes.BinaryHeads as head
use Rattle.dh_syntax.specs.Expressions.Arity.{IsWellFormed}
use Rattle.dh_syntax.specs.Expressions.Nesting.{nesting}
use Rattle.dh_syntax.specs.Expressions.Tree.{Term}
use Rattle.dh_syntax.specs.Limits.{most_open_items}
use Rattle.dh_binary.specs.Machine.{Value, holds, Want, Frame, State, reading, done, stopped, start, after, run, atom_as, take_atom, is_some}
use Rattle.dh_binary.specs.Stubs.{Kept, stubs, decoded, decide_kept, answer_kept, judge_kept, finish_kept}
use Rattle.dh_binary.specs.Verdict.{head_fault, refused, is_stopped, is_big, opens_with}
use Rattle.dh_binary.proofs.Alive.{Valid, Good, Awaits, after_good, atom_gives, deliver_valid}
use Rattle.dh_binary.proofs.Cutting.{decodes}
use Rattle.dh_binary.proofs.Meeting.{wants_whole}
use Rattle.dh_binary.proofs.Refusing.{wide_refused}
use Rattle.dh_decode.specs.declared.places.Frame as program_frame
use Rattle.dh_decode.specs.declared.places.Value as program_value
use Rattle.dh_decode.specs.declared.places.Want as program_want
use Rattle.dh_decode.specs.declared.stops.Stop.{Stop}
use Rattle.dh_decode.specs.declared.stops.Stop.TheVariants as stops
use Rattle.dh_decode.specs.Inside.States.{state_of, outcome_of, want_of}
use Rattle.dh_decode.specs.Inside.Steps.{IsReached, Decides, Refuses}
use Rattle.dh_decode.specs.Inside.Takings.{is_wide}
use Rattle.dh_decode.specs.Inside.Views.{frames_of}
use Rattle.dh_decode.proofs.WellFormedReading.{reads_well_formed}

-- ---- the whole

pub decodes_as : (bytes : List ℕ) (r : Result Term DecodeFault) → decoded bytes ≡ r → DecodesTo bytes r
decodes_as bytes r h = subst (DecodesTo bytes) h (decodes bytes)

pub well_formed_as : (bytes : List ℕ) (e : Term) → decoded bytes ≡ Ok e → IsWellFormed e
well_formed_as bytes e h = reads_well_formed bytes e (decodes_as bytes (Ok e) h)

pub shallow_as : (bytes : List ℕ) (e : Term) → decoded bytes ≡ Ok e → nesting e ≤ 500
shallow_as bytes e h = (decodes_as bytes (Ok e) h).3

-- ---- states that heads lead to

run_good : (s : State Kept) (ms : List Mark) → Good stubs false s → Good stubs false (run stubs false s ms)
run_good s [] g = g
run_good s (k ∷ ms) g = run_good (after stubs false k s) ms (after_good stubs false s k g)

reached_good : (s : State Kept) → IsReached s → Good stubs false s
reached_good s (ms, e) = subst (Good stubs false) e (run_good start ms (inl (wants_whole stubs false, tt)))

run_one : (ms : List Mark) (k : Mark) (s : State Kept) → run stubs false s (ms ++ k ∷ []) ≡ after stubs false k (run stubs false s ms)
run_one [] k s = refl
run_one (j ∷ ms) k s = run_one ms k (after stubs false j s)

pub reached_start : (s : State Kept) → s ≡ start → IsReached s
reached_start s e = ([], sym e)

pub reached_more : (k : Mark) (s t : State Kept) → IsReached s → after stubs false k s ≡ t → IsReached t
reached_more k s t (ms, e) h = (ms ++ k ∷ [], run_one ms k start ∙ ap (after stubs false k) e ∙ h)

awaits_by : (w : Want) (st : List (Frame Kept)) → Good stubs false (reading w st) → Awaits stubs false w st
awaits_by w st (inl v) = v.1
awaits_by w st (inr e) = cc

-- ---- a head that is refused

refused_atom : (w : Want) (st : List (Frame Kept)) (a : head.Atom) → Awaits stubs false w st → after stubs false (atom a) (reading w st) ≡ stopped → is_stopped (after stubs true (atom a) (reading w st)) ≡ not (is_wide w (atom a))
refused_atom w st a v h = by (atom_as stubs false w a) refl
  where
    by : (o : Option (Value Kept)) → atom_as stubs false w a ≡ o → is_stopped (after stubs true (atom a) (reading w st)) ≡ not (is_wide w (atom a))
    by None e = wide_refused stubs w st a v ∙ sym (ap (λ (o : Option (Value Kept)). not (not (is_some o) && is_some (atom_as stubs true w a))) e)
    by (Some u) e = absurd (subst (Valid stubs false) (sym (ap (λ (o : Option (Value Kept)). take_atom stubs o st) e) ∙ h) (deliver_valid stubs false st w u (atom_gives stubs false w a u e) v))

refused_head : (k : Mark) (w : Want) (st : List (Frame Kept)) → Awaits stubs false w st → after stubs false k (reading w st) ≡ stopped → is_stopped (after stubs true k (reading w st)) ≡ not (is_wide w k)
refused_head (atom a) w st v h = refused_atom w st a v h
refused_head (array n) w st v h = ap is_stopped h
refused_head (head.map n) w st v h = ap is_stopped h
refused_head (tag t) w st v h = ap is_stopped h

-- ---- the answer at a head

offset_at : (bytes : List ℕ) (at : ℕ) → at ≤ length bytes → offset bytes (drop at bytes) ≡ at
offset_at bytes at h = let e = length-drop at bytes in omega arith

pub decides_unread : (bytes : List ℕ) (from at k : ℕ) (w : Want) (st : List (Frame Kept)) (f : CborFault) → at ≤ length bytes → mark_at (drop at bytes) ≡ Err (reason f) → place f ≡ at →
    decide_kept (suc k) bytes from (drop at bytes) (reading w st) ≡ Err (head_fault (reason f) (place f))
decides_unread bytes from at k w st f h e p =
    ap (λ r. answer_kept (λ f r s. decide_kept k bytes f r s) bytes from (drop at bytes) w st r) e ∙ ap (λ n. Err (head_fault (reason f) n)) (offset_at bytes at h ∙ sym p)

-- the answer at a head that can be read
decides_by : (bytes : List ℕ) (from at k : ℕ) (w : Want) (st : List (Frame Kept)) (m : Marked) → mark_at (drop at bytes) ≡ Ok m →
    decide_kept (suc k) bytes from (drop at bytes) (reading w st) ≡ judge_kept (λ f r s. decide_kept k bytes f r s) bytes from (drop at bytes) w st m
decides_by bytes from at k w st m e = ap (λ r. answer_kept (λ f r s. decide_kept k bytes f r s) bytes from (drop at bytes) w st r) e

pub decides_stopped : (bytes : List ℕ) (from at k : ℕ) (w : Want) (st : List (Frame Kept)) (m : Marked) (wide : Bool) → at ≤ length bytes → IsReached (reading w st) → mark_at (drop at bytes) ≡ Ok m →
    after stubs false m.mark (reading w st) ≡ stopped → is_wide w m.mark ≡ wide →
    decide_kept (suc k) bytes from (drop at bytes) (reading w st) ≡ Err (if not wide then fault.Shape at else fault.Wide (if is_big w then from else at))
decides_stopped bytes from at k w st m wide h r e s i =
    let a = awaits_by w st (reached_good (reading w st) r) in
    let c : is_stopped (after stubs true m.mark (reading w st)) ≡ not wide = refused_head m.mark w st a s ∙ ap not i in
    decides_by bytes from at k w st m e
    ∙ ap (λ (t : State Kept). if is_stopped t then Err (refused from (offset bytes (drop at bytes)) w (after stubs true m.mark (reading w st))) else if nat_lt most_open_items (opens_with m.mark st) then Err fault.TooNested else decide_kept k bytes (offset bytes (drop at bytes)) m.after t) s
    ∙ ap (λ (b : Bool). Err (if b then fault.Shape (offset bytes (drop at bytes)) else fault.Wide (if is_big w then from else offset bytes (drop at bytes)))) c
    ∙ ap (λ (n : ℕ). Err (if not wide then fault.Shape n else fault.Wide (if is_big w then from else n))) (offset_at bytes at h)

goes_by : (bytes : List ℕ) (from at k : ℕ) (w : Want) (st : List (Frame Kept)) (m : Marked) (t : State Kept) → at ≤ length bytes → mark_at (drop at bytes) ≡ Ok m →
    after stubs false m.mark (reading w st) ≡ t → is_stopped t ≡ false →
    decide_kept (suc k) bytes from (drop at bytes) (reading w st) ≡ (if nat_lt most_open_items (opens_with m.mark st) then Err fault.TooNested else decide_kept k bytes at m.after t)
goes_by bytes from at k w st m t h e s i =
    decides_by bytes from at k w st m e
    ∙ ap (λ (t : State Kept). if is_stopped t then Err (refused from (offset bytes (drop at bytes)) w (after stubs true m.mark (reading w st))) else if nat_lt most_open_items (opens_with m.mark st) then Err fault.TooNested else decide_kept k bytes (offset bytes (drop at bytes)) m.after t) s
    ∙ ap (λ (b : Bool). if b then Err (refused from (offset bytes (drop at bytes)) w (after stubs true m.mark (reading w st))) else if nat_lt most_open_items (opens_with m.mark st) then Err fault.TooNested else decide_kept k bytes (offset bytes (drop at bytes)) m.after t) i
    ∙ ap (λ (n : ℕ). if nat_lt most_open_items (opens_with m.mark st) then Err fault.TooNested else decide_kept k bytes n m.after t) (offset_at bytes at h)

pub decides_over : (bytes : List ℕ) (from at k : ℕ) (w : Want) (st : List (Frame Kept)) (m : Marked) (t : State Kept) → at ≤ length bytes → mark_at (drop at bytes) ≡ Ok m →
    after stubs false m.mark (reading w st) ≡ t → is_stopped t ≡ false → nat_lt most_open_items (opens_with m.mark st) ≡ true →
    decide_kept (suc k) bytes from (drop at bytes) (reading w st) ≡ Err fault.TooNested
decides_over bytes from at k w st m t h e s i c =
    goes_by bytes from at k w st m t h e s i ∙ ap (λ (b : Bool). if b then Err fault.TooNested else decide_kept k bytes at m.after t) c

pub decides_on : (bytes : List ℕ) (from at k : ℕ) (w : Want) (st : List (Frame Kept)) (m : Marked) (t : State Kept) → at ≤ length bytes → mark_at (drop at bytes) ≡ Ok m →
    after stubs false m.mark (reading w st) ≡ t → is_stopped t ≡ false → nat_lt most_open_items (opens_with m.mark st) ≡ false →
    decide_kept (suc k) bytes from (drop at bytes) (reading w st) ≡ decide_kept k bytes at m.after t
decides_on bytes from at k w st m t h e s i c =
    goes_by bytes from at k w st m t h e s i ∙ ap (λ (b : Bool). if b then Err fault.TooNested else decide_kept k bytes at m.after t) c

-- ---- all heads

-- the reading of the rest, with some number of heads that is large enough
abbrev pub Goes : List ℕ → ℕ → ℕ → State Kept → Type 0
Goes bytes from at s = (k : ℕ) × (length bytes < k + at) × (decoded bytes ≡ decide_kept k bytes from (drop at bytes) s)

pub goes_first : (bytes : List ℕ) (s : State Kept) → s ≡ start → Goes bytes 0 0 s
goes_first bytes s e = (suc (length bytes), omega arith, ap (decide_kept (suc (length bytes)) bytes 0 bytes) (sym e))

pub goes_on : (bytes : List ℕ) (from at next : ℕ) (s t : State Kept) → Goes bytes from at s → at ≤ length bytes → at < next → Decides bytes from at s (λ k. decide_kept k bytes at (drop next bytes) t) → Goes bytes at next t
goes_on bytes from at next s t (zero, h, e) i j d = absurd (omega arith)
goes_on bytes from at next s t (suc k, h, e) i j d = (k, omega arith, e ∙ d k)

pub goes_wrong : (bytes : List ℕ) (from at : ℕ) (s : State Kept) (f : DecodeFault) → Goes bytes from at s → at ≤ length bytes → Decides bytes from at s (λ k. Err f) → decoded bytes ≡ Err f
goes_wrong bytes from at s f (zero, h, e) i d = absurd (omega arith)
goes_wrong bytes from at s f (suc k, h, e) i d = e ∙ d k

decide_done : (k : ℕ) (bytes : List ℕ) (from : ℕ) (a : List ℕ) (v : Value Kept) → decide_kept k bytes from a (done v) ≡ finish_kept bytes a v
decide_done zero bytes from a v = refl
decide_done (suc k) bytes from a v = refl

pub goes_out : (bytes : List ℕ) (from at : ℕ) (s : State Kept) (v : Value Kept) (r : Result Term DecodeFault) → Goes bytes from at s → s ≡ done v → finish_kept bytes (drop at bytes) v ≡ r → decoded bytes ≡ r
goes_out bytes from at s v r (k, h, e) i f = e ∙ ap (decide_kept k bytes from (drop at bytes)) i ∙ decide_done k bytes from (drop at bytes) v ∙ f

-- ---- at the end of the bytes, and at one head

pub finish_rest : (bytes : List ℕ) (at : ℕ) (p : Kept) → at < length bytes → finish_kept bytes (drop at bytes) (holds p) ≡ Err (fault.Rest at)
finish_rest bytes at p h = by (drop at bytes) refl
  where
    by : (a : List ℕ) → drop at bytes ≡ a → finish_kept bytes a (holds p) ≡ Err (fault.Rest at)
    by [] e = let f = length-drop at bytes in let g = ap (λ (a : List ℕ). length a) e in absurd (omega arith)
    by (b ∷ bs) e = ap (λ a. Err (fault.Rest (offset bytes a))) (sym e) ∙ ap (λ n. Err (fault.Rest n)) (offset_at bytes at (omega arith))

pub frames_length : (fs : List program_frame.Frame) → length (frames_of fs) ≡ length fs
frames_length [] = refl
frames_length (f ∷ fs) = ap suc (frames_length fs)

pub outcome_runs : (o : Option program_value.Value) (w : program_want.Want) (fs : List program_frame.Frame) → is_stopped (outcome_of o w fs) ≡ false
outcome_runs None w fs = refl
outcome_runs (Some v) w fs = refl

pub refusal_decides : (bytes : List ℕ) (from at : ℕ) (w : program_want.Want) (fs : List program_frame.Frame) (m : Marked) (s : Stop) (f : DecodeFault) (big : Bool)
    → at ≤ length bytes → IsReached (state_of w fs) → mark_at (drop at bytes) ≡ Ok m → Refuses m.mark w fs s → big ≡ is_big (want_of w (frames_of fs))
    → (s ≡ stops.Misfit → f ≡ fault.Shape at) → (s ≡ stops.Wide → f ≡ fault.Wide (if big then from else at)) → (s ≡ stops.Memory → f ≡ fault.Memory) → (f ≡ fault.Memory → ⊥)
    → Decides bytes from at (state_of w fs) (λ k. Err f)
refusal_decides bytes from at w fs m stops.Misfit f big h r e (s, i) b x y z n = λ k. decides_stopped bytes from at k (want_of w (frames_of fs)) (frames_of fs) m false h r e s i ∙ ap Err (sym (x refl))
refusal_decides bytes from at w fs m stops.Wide f big h r e (s, i) b x y z n =
    λ k. decides_stopped bytes from at k (want_of w (frames_of fs)) (frames_of fs) m true h r e s i ∙ ap (λ (c : Bool). Err (fault.Wide (if c then from else at))) (sym b) ∙ ap Err (sym (y refl))
refusal_decides bytes from at w fs m stops.Memory f big h r e t b x y z n = absurd (n (z refl))

-- ---- the answers of the program

pub into_ok : (r : Result Expr DecodeFault) (x y : Result Term DecodeFault) → y ≡ x → IfOk r (λ e. x ≡ Ok (term e)) → IfOk r (λ e. y ≡ Ok (term e))
into_ok (Ok e) x y d h = d ∙ h
into_ok (Err f) x y d h = h

pub into_err : (r : Result Expr DecodeFault) (x y : Result Term DecodeFault) → y ≡ x → IfErr r (λ f. (f ≡ fault.Memory → ⊥) → x ≡ Err f) → IfErr r (λ f. (f ≡ fault.Memory → ⊥) → y ≡ Err f)
into_err (Ok e) x y d h = h
into_err (Err f) x y d h = λ n. d ∙ h n

pub read_by : (bytes : List ℕ) (r : Result Expr DecodeFault) → IfOk r (λ e. decoded bytes ≡ Ok (term e)) → IfOk r (λ e. DecodesTo bytes (Ok (term e)))
read_by bytes (Ok e) h = decodes_as bytes (Ok (term e)) h
read_by bytes (Err f) h = h

pub refused_by : (bytes : List ℕ) (r : Result Expr DecodeFault) → IfErr r (λ f. (f ≡ fault.Memory → ⊥) → decoded bytes ≡ Err f) → IfErr r (λ f. (f ≡ fault.Memory → ⊥) → DecodesTo bytes (Err f))
refused_by bytes (Ok e) h = h
refused_by bytes (Err f) h = λ n. decodes_as bytes (Err f) (h n)

pub well_formed_by : (bytes : List ℕ) (r : Result Expr DecodeFault) → IfOk r (λ e. decoded bytes ≡ Ok (term e)) → IfOk r (λ e. IsWellFormed (term e))
well_formed_by bytes (Ok e) h = well_formed_as bytes (term e) h
well_formed_by bytes (Err f) h = h

pub shallow_by : (bytes : List ℕ) (r : Result Expr DecodeFault) → IfOk r (λ e. decoded bytes ≡ Ok (term e)) → IfOk r (λ e. nesting (term e) ≤ 500)
shallow_by bytes (Ok e) h = shallow_as bytes (term e) h
shallow_by bytes (Err f) h = h

-- the fault of a step is handed on
pub handed_on : (bytes : List ℕ) (r : Result Expr DecodeFault) (f : DecodeFault) → IsErrAnd r (λ g. g ≡ f) → ((f ≡ fault.Memory → ⊥) → decoded bytes ≡ Err f) → IfErr r (λ g. (g ≡ fault.Memory → ⊥) → decoded bytes ≡ Err g)
handed_on bytes (Ok e) f h d = tt
handed_on bytes (Err g) f h d = λ n. d (λ m. n (h ∙ m)) ∙ ap Err (sym h)
