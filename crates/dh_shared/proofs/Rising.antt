-- What the calls of a table add to the counts of its steps, and what stays of its failures and of its root's end.
use Rattle.std.specs.Prelude.{◌≡◌, ℕ, ◌+◌, Bool, true, false, cond, List, [], ◌∷◌, ◌++◌, count_by, Option, Some, None, IsSome, Result, Ok, Err, IfOk, refl}
use Rattle.std.proofs.Common.{ap, sym, ◌∙◌, subst, arith}
use Rattle.std.proofs.lemmas.Bool.{false≢true}
use Rattle.std.proofs.lemmas.List.Sums.{sum_by-append}
use Rattle.dh_imports.specs.Machine as machine
use Rattle.dh_imports.specs.Machine.{State, Task, InFlight, effect}
use Rattle.dh_imports.specs.Replay as replay
use Rattle.dh_imports.specs.Replay.{kind_of, root_end}
use Rattle.dh_syntax.proofs.Bridge.{term-one_to_one}
use Rattle.dh_syntax.proofs.Numbers.{eq-itself}
use Rattle.dh_table.specs.declared.steps.claims.Claimed.{Claimed}
use Rattle.dh_table.specs.declared.steps.claims.Claimed.TheVariants as claimed
use Rattle.dh_table.specs.declared.steps.deliveries.Taken.{Taken}
use Rattle.dh_table.specs.declared.steps.deliveries.Taken.TheVariants as taken
use Rattle.dh_record.specs.declared.news.News.{News}
use Rattle.dh_record.specs.declared.news.News.TheVariants as news
use Rattle.dh_record.specs.declared.kinds.Kind.{Kind}
use Rattle.dh_record.specs.declared.kinds.Kind.TheVariants as kinds
use Rattle.dh_table.specs.declared.steps.Step.{Step}
use Rattle.dh_table.specs.declared.tables.Ticket.{Ticket}
use Rattle.dh_table.specs.declared.answers.works.Work.{Work}
use Rattle.dh_table.specs.declared.answers.works.Work.TheVariants as works
use Rattle.dh_table.specs.Calls.{Adds, HandsOut, Idles, IsOver, Claims, after_mark, MayMark, mark_steps, claim_steps, Releases, Takes, StaysDecided, failures, new_failures}
use Rattle.dh_table.specs.Shown.{Shown}
use Rattle.dh_table.specs.States.{kind_by, state_of}
use Rattle.dh_table.specs.Works.{IsWork}
use Rattle.dh_shared.specs.Counting.{is_fetch, is_claim, is_fetch_claim, is_recorded, is_release, is_late}
use Rattle.dh_shared.specs.Inside.{Rises, Flies, Draws, PutsBack, HandsIn}
use Rattle.dh_shared.specs.Turns.{IsWorkOf, fetches_of}

-- ---- lists of steps

added : (p : Step → Bool) (old new more : List Step) → new ≡ old ++ more → count_by p new ≡ count_by p old + count_by p more
added p old new more is = omega (arith, ap (λ xs. count_by p xs) is, sum_by-append (λ (x : Step). cond (p x) 1 0) old more)

-- the steps that were added, with what else is known
rises : (old new : Shown) (more : List Step) (failed : ℕ) → new.history ≡ old.history ++ more → failures (state_of new) ≡ failures (state_of old) + failed → new.root.expr ≡ old.root.expr → StaysDecided old new
    → Rises old new (count_by is_claim more) (count_by is_recorded more) (count_by is_release more) (count_by is_late more) (count_by is_fetch_claim more) failed
rises old new more failed is f r d = record {
  claims_are = added is_claim old.history new.history more is;
  kept_are = added is_recorded old.history new.history more is;
  releases_are = added is_release old.history new.history more is;
  lates_are = added is_late old.history new.history more is;
  fetches_are = added is_fetch_claim old.history new.history more is;
  failed_are = f;
  root_is = r;
  stays = d;
}

-- a table whose state has the root of another is of the root of the other
rooted : (old new : Shown) (s : State) → state_of new ≡ s → s.root ≡ (state_of old).root → new.root.expr ≡ old.root.expr
rooted old new s is e = term-one_to_one new.root.expr old.root.expr (ap (λ (x : State). x.root) is ∙ e)

same : (a b : ℕ) → a ≡ b → a ≡ b + 0
same a b e = omega arith

none_some : {A : Type 0} {B : Type 0} (x : Option A) → x ≡ None → IsSome x → B
none_some None e s = absurd (false≢true s)
none_some (Some a) e s = absurd (cc)

zero_left : (n : ℕ) → 0 + n ≡ n
zero_left n = omega arith

-- a table whose end is that of another is decided where the other is
decided_like : (old new : Shown) (s : State) → state_of new ≡ s → root_end s ≡ root_end (state_of old) → StaysDecided old new
decided_like old new s is e d = subst (λ x. IsSome x) (sym (ap root_end is ∙ e)) d

-- ---- claims

flies_now : (worker : ℕ) (s : State) (new : Shown) (ticket : Ticket) → HandsOut worker s new ticket → Flies new ticket
flies_now worker s new ticket h =
    let there : InFlight (effect (machine.Claim worker h.task) s) ticket.serial h.task = rw h.serial_is (rw (eq-itself) refl) in
    (h.task, subst (λ x. InFlight x ticket.serial h.task) (sym h.state_is) there, h.kind_is)

drawn : (worker : ℕ) (old new : Shown) (ticket : Ticket) (mark : Option ℕ) → MayMark old.keys mark (state_of old) → HandsOut worker (after_mark old.keys mark (state_of old)) new ticket
    → Adds old new (mark_steps mark ++ claim_steps worker (claimed.Task ticket)) → Draws old new (claimed.Task ticket)
drawn worker old new ticket None may h adds =
    (subst (λ n. Rises old new 1 0 0 0 n 0) (zero_left (cond (is_fetch ticket.kind) 1 0)) (rises old new _ 0 adds.history_is (same _ _ (ap failures h.state_is)) (rooted old new _ h.state_is refl) (λ d. none_some _ h.undecided d)), flies_now worker _ new ticket h)
drawn worker old new ticket (Some n) may h adds =
    (subst (λ n. Rises old new 1 0 0 0 n 0) (zero_left (cond (is_fetch ticket.kind) 1 0)) (rises old new _ 0 adds.history_is (same _ _ (ap failures h.state_is)) (rooted old new _ h.state_is refl) (λ d. none_some _ may.0 d)), flies_now worker _ new ticket h)

idles : (worker : ℕ) (old new : Shown) (mark : Option ℕ) → MayMark old.keys mark (state_of old) → Idles (after_mark old.keys mark (state_of old)) new
    → Adds old new (mark_steps mark ++ claim_steps worker claimed.Idle) → Draws old new claimed.Idle
idles worker old new None may h adds = rises old new _ 0 adds.history_is (same _ _ (ap failures h.state_is)) (rooted old new _ h.state_is refl) (λ d. none_some _ h.undecided d)
idles worker old new (Some n) may h adds = rises old new _ 0 adds.history_is (same _ _ (ap failures h.state_is)) (rooted old new _ h.state_is refl) (λ d. none_some _ may.0 d)

is_over : (worker : ℕ) (old new : Shown) (mark : Option ℕ) → MayMark old.keys mark (state_of old) → IsOver (after_mark old.keys mark (state_of old)) new
    → Adds old new (mark_steps mark ++ claim_steps worker claimed.Over) → Draws old new claimed.Over
is_over worker old new mark may h adds = let ended : IsSome (root_end (state_of new)) = subst (λ x. IsSome (root_end x)) (sym h.state_is) h.decided in (go mark may h adds ended, ended)
  where
    go : (mark : Option ℕ) → MayMark old.keys mark (state_of old) → IsOver (after_mark old.keys mark (state_of old)) new → Adds old new (mark_steps mark ++ claim_steps worker claimed.Over)
        → IsSome (root_end (state_of new)) → Rises old new 0 0 0 0 0 0
    go None may h adds ended = rises old new _ 0 adds.history_is (same _ _ (ap failures h.state_is)) (rooted old new _ h.state_is refl) (λ d. ended)
    go (Some n) may h adds ended = rises old new _ 0 adds.history_is (same _ _ (ap failures h.state_is)) (rooted old new _ h.state_is refl) (λ d. ended)

pub draws : (worker : ℕ) (old new : Shown) (answer : Claimed) → Claims worker old new answer → Draws old new answer
draws worker old new (claimed.Task ticket) c = drawn worker old new ticket c.mark c.may c.answers c.adds
draws worker old new claimed.Idle c = idles worker old new c.mark c.may c.answers c.adds
draws worker old new claimed.Over c = is_over worker old new c.mark c.may c.answers c.adds

-- ---- releases

unchanged : (old new : Shown) → new ≡ old → Rises old new 0 0 0 0 0 0
unchanged old new is = subst (λ x. Rises old x 0 0 0 0 0 0) (sym is) (record {
  claims_are = omega arith;
  kept_are = omega arith;
  releases_are = omega arith;
  lates_are = omega arith;
  fetches_are = omega arith;
  failed_are = omega arith;
  root_is = refl;
  stays = λ d. d;
})

pub puts_back : (answer : Bool) (old new : Shown) (serial : ℕ) → Releases answer old new serial → PutsBack answer old new serial
puts_back true old new serial r = rises old new _ 0 r.adds.history_is (same _ _ (ap failures r.state_is)) (rooted old new _ r.state_is refl) (decided_like old new _ r.state_is refl)
puts_back false old new serial r = (r.0, unchanged old new r.1)

-- ---- deliveries

pub hands_in : (ticket : Ticket) (n : News) (old new : Shown) (answer : Taken) → Takes ticket n old new answer → StaysDecided old new → failures (state_of new) ≡ failures (state_of old) + new_failures n answer
    → HandsIn n old new answer
hands_in ticket (news.Fetched l got scan) old new taken.Kept t d f = rises old new _ _ t.adds.history_is f (rooted old new _ t.state_is refl) d
hands_in ticket (news.Looked l look) old new taken.Kept t d f = rises old new _ _ t.adds.history_is f (rooted old new _ t.state_is refl) d
hands_in ticket (news.Finished done) old new taken.Kept t d f = rises old new _ _ t.adds.history_is f (rooted old new _ t.state_is refl) d
hands_in ticket n old new (taken.Late back m) t d f = rises old new (Step.Late ticket.serial ∷ []) 0 (ap (λ (s : Shown). s.history) t.1.shown_is) f (ap (λ (s : Shown). s.root.expr) t.1.shown_is) d
hands_in ticket n old new (taken.Memory back held) t d f = (unchanged old new t.3, t.1)

-- ---- the work of a ticket

kind_named : (k : Kind) (x : Task) (y : Task) (flights : Option Task) → flights ≡ Some x → flights ≡ Some y → kind_by k ≡ kind_of x → kind_by k ≡ kind_of y
kind_named k x y flights p q e = let same_task : x ≡ y = cc in e ∙ ap kind_of same_task

fetches : (k : Kind) → kind_by k ≡ replay.fetching → k ≡ kinds.Fetch
fetches kinds.Fetch e = refl
fetches kinds.Look e = absurd (cc)
fetches kinds.Finish e = absurd (cc)

looks : (k : Kind) → kind_by k ≡ replay.looking → k ≡ kinds.Look
looks kinds.Fetch e = absurd (cc)
looks kinds.Look e = refl
looks kinds.Finish e = absurd (cc)

finishes : (k : Kind) → kind_by k ≡ replay.finishing → k ≡ kinds.Finish
finishes kinds.Fetch e = absurd (cc)
finishes kinds.Look e = absurd (cc)
finishes kinds.Finish e = refl

kind_is : (t : Shown) (ticket : Ticket) (w : Work) → Flies t ticket → IsWork (state_of t) ticket.serial w → IsWorkOf ticket w
kind_is t ticket (works.Fetch l) f w = fetches ticket.kind (kind_named ticket.kind f.0 (machine.Fetch l) _ f.1 w f.2)
kind_is t ticket (works.Look d) f w = looks ticket.kind (kind_named ticket.kind f.0 (machine.Look d) _ f.1 w f.2)
kind_is t ticket (works.Finish i) f w = finishes ticket.kind (kind_named ticket.kind f.0 (machine.Finish i.key) _ f.1 w.0 f.2)

fetches_are : (ticket : Ticket) (w : Work) → IsWorkOf ticket w → fetches_of w ≡ cond (is_fetch ticket.kind) 1 0
fetches_are ticket (works.Fetch l) is = sym (ap (λ k. cond (is_fetch k) 1 0) is)
fetches_are ticket (works.Look d) is = sym (ap (λ k. cond (is_fetch k) 1 0) is)
fetches_are ticket (works.Finish i) is = sym (ap (λ k. cond (is_fetch k) 1 0) is)

pub own_work : {E : Type 0} (t : Shown) (ticket : Ticket) (r : Result Work E) → Flies t ticket → IfOk r (IsWork (state_of t) ticket.serial) → IfOk r (λ w. IsWorkOf ticket w)
own_work t ticket (Ok w) f is = kind_is t ticket w f is
own_work t ticket (Err e) f is = is

pub own_fetches : {E : Type 0} (t : Shown) (ticket : Ticket) (r : Result Work E) → Flies t ticket → IfOk r (IsWork (state_of t) ticket.serial) → IfOk r (λ w. fetches_of w ≡ cond (is_fetch ticket.kind) 1 0)
own_fetches t ticket (Ok w) f is = fetches_are ticket w (kind_is t ticket w f is)
own_fetches t ticket (Err e) f is = is
