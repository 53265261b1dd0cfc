-- What the machine answers is what reading the bytes answers.
use Rattle.std.specs.Prelude.{◌≡◌, ℕ, zero, suc, ◌<◌, ◌≤◌, nat_lt, nat_le, Bool, true, false, if◌then◌else◌, List, [], ◌∷◌, ◌++◌, length, Result, Ok, Err, refl}
use Rattle.std.proofs.Common.{sym, ◌∙◌, ap, subst, arith, inl, inr}
use Rattle.std.proofs.lemmas.Bool.{le-leb, leb-true, leb-false, ltb-true, ltb-false}
use Rattle.std.proofs.lemmas.List.{append_assoc}
use Rattle.dh_syntax.specs.declared.faults.DecodeFault.{DecodeFault}
use Rattle.dh_syntax.specs.declared.faults.DecodeFault.TheVariants as fault
use Rattle.dh_syntax.specs.Expressions.Arity.{has_some}
use Rattle.dh_syntax.specs.Bytes.BinaryFaults.{CanGoOn, BeginsNone, offset, Reached, HeadFails, IsNumber, NumberTooWide, FitsNowhere, OpensTooMany, Whole, DecodesTo}
use Rattle.dh_syntax.specs.Limits.{most_open_items}
use Rattle.dh_syntax.specs.Bytes.BinaryHeads.{HeadFault, cut, indefinite, float, foreign_tag, too_wide, Mark, Marked, atom, tag, unsigned, octets, mark_at}
use Rattle.dh_syntax.specs.Bytes.BinaryItems.{at_start, after_marks, open_at, opens_at_most}
use Rattle.dh_syntax.specs.Bytes.BinaryRead.{Begins}
use Rattle.dh_syntax.specs.Expressions.Nesting.{nesting}
use Rattle.dh_syntax.specs.Limits.{most_nesting}
use Rattle.dh_syntax.specs.Expressions.Tree.{Term}
use Rattle.dh_binary.specs.Machine.{Value, holds, Want, Frame, State, reading, done, stopped, after, run, start}
use Rattle.dh_binary.specs.Inside.Terms.{terms}
use Rattle.dh_binary.specs.Verdict.{opens, opens_with, head_fault, is_big, is_stopped, refused, finish, judge, answer_at, decide, verdict}
use Rattle.dh_binary.proofs.Generic.{run-append}
use Rattle.dh_binary.proofs.Laws.{IsRunning, accepted, running_goes_on, what_goes_on_runs, counts, opens_as_said, run_more, Wide, small_number, big_number, after_wide, IsSmall, Behind, small, behind_tag, after_behind}
use Rattle.dh_binary.proofs.Heads.{begins_one, begins_more, opens_more, mark_shorter}

-- what stands behind a state that wants the string of a bignum
data Past (bytes : List ℕ) (from : ℕ) (ms : List Mark) (a : List ℕ) (s : State Term) : Type 0 where
  is_small : IsSmall s → Past bytes from ms a s
  tagged : (ns : List Mark) (c : List ℕ) (t : ℕ) → Reached bytes ns c → from ≡ offset bytes c → ms ≡ ns ++ tag t ∷ [] → Begins c (tag t ∷ []) a → Past bytes from ms a s

-- heads without a fault lead to this state
record Here (bytes : List ℕ) (from : ℕ) (a : List ℕ) (s : State Term) : Type 0 where
  ms : List Mark
  begins : Begins bytes ms a
  is : run terms false start ms ≡ s
  runs : IsRunning s
  within : opens_at_most most_open_items ms at_start ≡ true
  past : Past bytes from ms a s

-- ---- the end

whole_here : (bytes : List ℕ) (from : ℕ) (a : List ℕ) (v : Value Term) → Here bytes from a (done v) → (e : Term) × (v ≡ holds e) × Whole bytes e a
whole_here bytes from a v h =
    let (i, e, p, x, y) = accepted false h.ms v h.is in
    (e, y, record { item = i; begins = subst (λ ms. Begins bytes ms a) (sym p) h.begins; is_expression = x; within = subst (λ ms. opens_at_most most_open_items ms at_start ≡ true) (sym p) h.within })

finish_right : (bytes a : List ℕ) (e : Term) → Whole bytes e a → DecodesTo bytes (finish bytes a (holds e))
finish_right bytes (b ∷ bs) e w = record { e = e; after = b ∷ bs; whole = w; left = λ h. cc; place = refl }
finish_right bytes [] e w = by (nat_le (nesting e) most_nesting) refl
  where
    by : (c : Bool) → nat_le (nesting e) most_nesting ≡ c → DecodesTo bytes (if c then Ok e else Err fault.TooNested)
    by true h = (w.item, w.begins, w.is_expression, leb-true (nesting e) most_nesting h)
    by false h = inr (record { e = e; whole = w; deep = leb-false (nesting e) most_nesting h })

-- ---- at a head

reached_here : (bytes : List ℕ) (from : ℕ) (a : List ℕ) (w : Want) (st : List (Frame Term)) (h : Here bytes from a (reading w st)) → Reached bytes h.ms a
reached_here bytes from a w st h =
    let r : IsRunning (run terms false start h.ms) = λ e. h.runs (sym h.is ∙ e) in
    record {
      begins = h.begins;
      sound = running_goes_on false h.ms r;
      unfinished = ap has_some (sym (counts false h.ms r) ∙ ap opens h.is) ∙ some_open st;
      within = h.within;
    }
  where
    some_open : (st : List (Frame Term)) → has_some (opens (reading w st)) ≡ true
    some_open [] = refl
    some_open (f ∷ st) = refl

fails : (bytes : List ℕ) (f : HeadFault) (at : ℕ) → HeadFails bytes f at → DecodesTo bytes (Err (head_fault f at))
fails bytes cut at h = h
fails bytes indefinite at h = h
fails bytes float at h = h
fails bytes foreign_tag at h = h
fails bytes too_wide at h = inl h

stops : (s : State Term) → is_stopped s ≡ true → s ≡ stopped
stops stopped h = refl
stops (done v) h = cc
stops (reading w st) h = cc

goes : (s : State Term) → is_stopped s ≡ false → IsRunning s
goes s h e = let f : is_stopped s ≡ true = ap is_stopped e in cc

module _ (bytes : List ℕ) (from : ℕ) (a : List ℕ) (w : Want) (st : List (Frame Term)) (h : Here bytes from a (reading w st)) (m : Marked) (e : mark_at a ≡ Ok m) where
  -- the states behind this head
  next_state : run terms false start (h.ms ++ m.mark ∷ []) ≡ after terms false m.mark (reading w st)
  next_state = run-append terms false start h.ms (m.mark ∷ []) ∙ ap (after terms false m.mark) h.is

  next_wide : run terms true start (h.ms ++ m.mark ∷ []) ≡ after terms true m.mark (reading w st)
  next_wide = run-append terms true start h.ms (m.mark ∷ []) ∙ ap (after terms true m.mark) (run_more h.ms start (λ e. h.runs (sym h.is ∙ e)) ∙ h.is)

  misfit : after terms false m.mark (reading w st) ≡ stopped → after terms true m.mark (reading w st) ≡ stopped → BeginsNone (h.ms ++ m.mark ∷ [])
  misfit p q false c = what_goes_on_runs false (h.ms ++ m.mark ∷ []) c (next_state ∙ p)
  misfit p q true c = what_goes_on_runs true (h.ms ++ m.mark ∷ []) c (next_wide ∙ q)

  shape : after terms false m.mark (reading w st) ≡ stopped → after terms true m.mark (reading w st) ≡ stopped → FitsNowhere bytes (offset bytes a)
  shape p q = record { ms = h.ms; after = a; mark = m.mark; rest = m.after; reached = reached_here bytes from a w st h; place = refl; next = begins_one a m e; misfit = misfit p q }

  too_wide_small : (n : ℕ) → m.mark ≡ atom (unsigned n) → after terms false m.mark (reading w st) ≡ stopped → IsRunning (after terms true m.mark (reading w st)) → NumberTooWide bytes (offset bytes a)
  too_wide_small n q p r =
      record {
        ms = h.ms;
        after = a;
        number = m.mark ∷ [];
        rest = m.after;
        reached = reached_here bytes from a w st h;
        place = refl;
        is_number = subst (λ k. IsNumber (k ∷ [])) (sym q) tt;
        next = begins_one a m e;
        fits = running_goes_on true (h.ms ++ m.mark ∷ []) (λ f. r (sym next_wide ∙ f));
        wide = λ c. what_goes_on_runs false (h.ms ++ m.mark ∷ []) c (next_state ∙ p);
      }

  too_wide_big : (bs : List ℕ) → m.mark ≡ atom (octets bs) → (ns : List Mark) (c : List ℕ) (t : ℕ) → Reached bytes ns c → from ≡ offset bytes c → h.ms ≡ ns ++ tag t ∷ [] → Begins c (tag t ∷ []) a
      → after terms false m.mark (reading w st) ≡ stopped → IsRunning (after terms true m.mark (reading w st)) → NumberTooWide bytes from
  too_wide_big bs q ns c t reached place is begins p r =
      let x : h.ms ++ m.mark ∷ [] ≡ ns ++ tag t ∷ m.mark ∷ [] = ap (λ ms. ms ++ m.mark ∷ []) is ∙ append_assoc ns (tag t ∷ []) (m.mark ∷ []) in
      record {
        ms = ns;
        after = c;
        number = tag t ∷ m.mark ∷ [];
        rest = m.after;
        reached = reached;
        place = place;
        is_number = subst (λ k. IsNumber (tag t ∷ k ∷ [])) (sym q) tt;
        next = begins_more c (tag t ∷ []) a m begins e;
        fits = subst (CanGoOn true) x (running_goes_on true (h.ms ++ m.mark ∷ []) (λ f. r (sym next_wide ∙ f)));
        wide = λ g. what_goes_on_runs false (h.ms ++ m.mark ∷ []) (subst (CanGoOn false) (sym x) g) (next_state ∙ p);
      }

  wide_by : Past bytes from h.ms a (reading w st) → after terms false m.mark (reading w st) ≡ stopped → IsRunning (after terms true m.mark (reading w st)) → Wide w m.mark → NumberTooWide bytes (if is_big w then from else offset bytes a)
  wide_by past p r (small_number n q s) = subst (λ c. NumberTooWide bytes (if c then from else offset bytes a)) (sym s) (too_wide_small n q p r)
  wide_by (is_small s) p r (big_number bs q b) = let f : true ≡ false = sym b ∙ s in cc
  wide_by (tagged ns c t reached place is begins) p r (big_number bs q b) = subst (λ c. NumberTooWide bytes (if c then from else offset bytes a)) (sym b) (too_wide_big bs q ns c t reached place is begins p r)

  refused_right : after terms false m.mark (reading w st) ≡ stopped → DecodesTo bytes (Err (refused from (offset bytes a) w (after terms true m.mark (reading w st))))
  refused_right p = by (is_stopped (after terms true m.mark (reading w st))) refl
    where
      by : (c : Bool) → is_stopped (after terms true m.mark (reading w st)) ≡ c → DecodesTo bytes (Err (if c then fault.Shape (offset bytes a) else fault.Wide (if is_big w then from else offset bytes a)))
      by true q = shape p (stops _ q)
      by false q = inr (wide_by h.past p (goes _ q) (after_wide m.mark w st p (goes _ q)))

  opens_here : opens_with m.mark st ≡ open_at m.mark (after_marks h.ms at_start)
  opens_here = opens_as_said m.mark w st ∙ ap (open_at m.mark) (sym (ap opens h.is) ∙ counts false h.ms (λ e. h.runs (sym h.is ∙ e)))

  many_right : IsRunning (after terms false m.mark (reading w st)) → most_open_items < opens_with m.mark st → OpensTooMany bytes
  many_right r l =
      record {
        ms = h.ms;
        after = a;
        mark = m.mark;
        rest = m.after;
        reached = reached_here bytes from a w st h;
        next = begins_one a m e;
        sound = running_goes_on false (h.ms ++ m.mark ∷ []) (λ f. r (sym next_state ∙ f));
        too_many = subst (λ n. most_open_items < n) opens_here l;
      }

  past_next : Behind m.mark (after terms false m.mark (reading w st)) → Past bytes (offset bytes a) (h.ms ++ m.mark ∷ []) m.after (after terms false m.mark (reading w st))
  past_next (small s) = is_small s
  past_next (behind_tag t q) =
      tagged h.ms a t (reached_here bytes from a w st h) refl (ap (λ k. h.ms ++ k ∷ []) q) (subst (λ k. Begins a (k ∷ []) m.after) q (begins_one a m e))

  next_here : IsRunning (after terms false m.mark (reading w st)) → opens_with m.mark st ≤ most_open_items → Here bytes (offset bytes a) m.after (after terms false m.mark (reading w st))
  next_here r l =
      record {
        ms = h.ms ++ m.mark ∷ [];
        begins = begins_more bytes h.ms a m h.begins e;
        is = next_state;
        runs = r;
        within = opens_more most_open_items h.ms m.mark at_start h.within (le-leb (open_at m.mark (after_marks h.ms at_start)) most_open_items (subst (λ n. n ≤ most_open_items) opens_here l));
        past = past_next (after_behind false m.mark (reading w st));
      }

  judge_right : (go : ℕ → List ℕ → State Term → Result Term DecodeFault) → (Here bytes (offset bytes a) m.after (after terms false m.mark (reading w st)) → DecodesTo bytes (go (offset bytes a) m.after (after terms false m.mark (reading w st))))
      → DecodesTo bytes (judge go bytes from a w st m)
  judge_right go right = by (is_stopped (after terms false m.mark (reading w st))) (nat_lt most_open_items (opens_with m.mark st)) refl refl
    where
      by : (c d : Bool) → is_stopped (after terms false m.mark (reading w st)) ≡ c → nat_lt most_open_items (opens_with m.mark st) ≡ d
          → DecodesTo bytes (if c then Err (refused from (offset bytes a) w (after terms true m.mark (reading w st))) else if d then Err fault.TooNested else go (offset bytes a) m.after (after terms false m.mark (reading w st)))
      by true d p q = refused_right (stops _ p)
      by false true p q = inl (many_right (goes _ p) (ltb-true most_open_items (opens_with m.mark st) q))
      by false false p q = right (next_here (goes _ p) (ltb-false most_open_items (opens_with m.mark st) q))

answer_right : (bytes : List ℕ) (from : ℕ) (a : List ℕ) (w : Want) (st : List (Frame Term)) (h : Here bytes from a (reading w st)) (go : ℕ → List ℕ → State Term → Result Term DecodeFault)
    → ((f : ℕ) (r : List ℕ) (s : State Term) → length r < length a → Here bytes f r s → DecodesTo bytes (go f r s))
    → (r : Result Marked HeadFault) → mark_at a ≡ r → DecodesTo bytes (answer_at go bytes from a w st r)
answer_right bytes from a w st h go right (Err f) e = fails bytes f (offset bytes a) (record { ms = h.ms; after = a; reached = reached_here bytes from a w st h; place = refl; fails = e })
answer_right bytes from a w st h go right (Ok m) e = judge_right bytes from a w st h m e go (right (offset bytes a) m.after _ (mark_shorter a m e))

decide_right : (k : ℕ) (bytes : List ℕ) (from : ℕ) (a : List ℕ) (s : State Term) → length a < k → Here bytes from a s → DecodesTo bytes (decide k bytes from a s)
decide_right k bytes from a (done v) l h = let (e, y, w) = whole_here bytes from a v h in subst (λ v. DecodesTo bytes (finish bytes a v)) (sym y) (finish_right bytes a e w)
decide_right zero bytes from a (reading w st) l h = absurd (omega arith)
decide_right (suc k) bytes from a (reading w st) l h = answer_right bytes from a w st h (λ f r s. decide k bytes f r s) (λ f r s j g. decide_right k bytes f r s (omega arith) g) (mark_at a) refl
decide_right k bytes from a stopped l h = absurd (h.runs refl)

-- What the machine answers on any bytes is what reading them answers.
pub answers : (bytes : List ℕ) → DecodesTo bytes (verdict bytes)
answers bytes =
    decide_right (suc (length bytes)) bytes 0 bytes start (omega arith)
    (record { ms = []; begins = refl; is = refl; runs = λ e. cc; within = refl; past = is_small refl })
