-- What reading does to where a reader stands, step after step.
use Rattle.std.proofs.Common.{◌≡◌, ℕ, ◌-◌, ap₂, Result, Ok, Err, OnErr, ◌+◌, ◌≤◌, List, [], ◌++◌, length, take, drop, Option, Some, None, refl, sym, ap, ◌∙◌, arith, append-nil, append_assoc}
use Rattle.std.proofs.lemmas.List.{take-append-drop, length-append}
use Rattle.std.proofs.KnownBytes.{Consumes-nil, Consumes-trans}
use Rattle.std.specs.Io.KnownBytes.{Consumes}
use Rattle.dh_http.specs.Reading.{Place, Fits, ahead, Took, Stopped, TakesSome}

-- nothing was done
pub Took_none : (p : Place) → Fits p.left p.inbox → Took p p []
Took_none p fits = record {
  moved = [];
  received = Consumes-nil p.left;
  kept = append-nil p.inbox.bytes;
  count = omega arith;
  fits = fits;
  sent = refl;
  quiet = refl;
}

-- bytes were passed over that were there
pub Took_skip : (p : Place) (n : ℕ) → Fits p.left p.inbox
    → Took p (record p { inbox = record p.inbox { bytes = drop n p.inbox.bytes } }) (take n p.inbox.bytes)
Took_skip p n fits = record {
  moved = [];
  received = Consumes-nil p.left;
  kept = append-nil p.inbox.bytes ∙ sym (take-append-drop n p.inbox.bytes);
  count = omega arith;
  fits = fits;
  sent = refl;
  quiet = refl;
}

kept_both : (a b c m n xs ys : List ℕ) → a ++ m ≡ xs ++ b → b ++ n ≡ ys ++ c → a ++ (m ++ n) ≡ (xs ++ ys) ++ c
kept_both a b c m n xs ys p q =
    sym (append_assoc a m n) ∙ ap (λ t. t ++ n) p ∙ append_assoc xs b n ∙ ap (λ t. xs ++ t) q ∙ sym (append_assoc xs ys c)

-- one step and then another
pub Took_then : (a b c : Place) (xs ys : List ℕ) → Took a b xs → Took b c ys → Took a c (xs ++ ys)
Took_then a b c xs ys p q = record {
  moved = p.moved ++ q.moved;
  received = Consumes-trans a.left b.left c.left p.moved q.moved p.received q.received;
  kept = kept_both a.inbox.bytes b.inbox.bytes c.inbox.bytes p.moved q.moved xs ys p.kept q.kept;
  count = omega (arith, p.count, q.count, length-append p.moved q.moved);
  fits = q.fits;
  sent = q.sent ∙ p.sent;
  quiet = q.quiet ∙ p.quiet;
}

-- one step, and then one that stopped
pub Took_stop : (a b c : Place) (xs : List ℕ) → Took a b xs → Stopped b c → Stopped a c
Took_stop a b c xs p q = record {
  moved = p.moved ++ q.moved;
  received = Consumes-trans a.left b.left c.left p.moved q.moved p.received q.received;
  count = omega (arith, p.count, q.count, length-append p.moved q.moved);
  sent = q.sent ∙ p.sent;
}

-- a step with which the work ended, though it did what it should
pub Took_end : (a b : Place) (xs : List ℕ) → Took a b xs → Stopped a b
Took_end a b xs p = record {
  moved = p.moved;
  received = p.received;
  count = omega (arith, p.count);
  sent = p.sent;
}

-- the stream loses what was read
pub Took_ahead : (a b : Place) (xs : List ℕ) → Took a b xs → Consumes (ahead a.left a.inbox) (ahead b.left b.inbox) xs
Took_ahead a b xs p = at a.left b.left p.received
  where
    at : (l k : Option (List ℕ)) → Consumes l k p.moved → Consumes (ahead l a.inbox) (ahead k b.inbox) xs
    at None k r = tt
    at (Some x) None r = absurd r
    at (Some x) (Some y) r =
        ap (λ t. a.inbox.bytes ++ t) r ∙ sym (append_assoc a.inbox.bytes p.moved y) ∙ ap (λ t. t ++ y) p.kept ∙ append_assoc xs b.inbox.bytes y

pub ruleset places = (Took_none, Took_skip, Took_then, Took_stop, Took_end)

-- so many bytes were read and added so far
pub record HasMoved (first now : Place) (body_first body_now : List ℕ) (moved want : ℕ) : Type 0 where
  pub bytes : List ℕ
  pub took : Took first now bytes
  pub added : body_now ≡ body_first ++ bytes
  pub count : length bytes ≡ moved
  pub bound : moved ≤ want

pub HasMoved_then : (a b c : Place) (xs ys zs : List ℕ) (moved want n : ℕ) → HasMoved a b xs ys moved want
    → TakesSome b c ys zs (want - moved) n → HasMoved a c xs zs (moved + n) want
HasMoved_then a b c xs ys zs moved want n p q = record {
  bytes = p.bytes ++ q.bytes;
  took = Took_then a b c p.bytes q.bytes p.took q.took;
  added = q.added ∙ ap (λ t. t ++ q.bytes) p.added ∙ append_assoc xs p.bytes q.bytes;
  count = length-append p.bytes q.bytes ∙ ap₂ (λ m k. m + k) p.count q.count;
  bound = omega (arith, p.bound, q.bound);
}

pub HasMoved_stop : (a b c : Place) (xs ys : List ℕ) (moved want : ℕ) → HasMoved a b xs ys moved want → Stopped b c → Stopped a c
HasMoved_stop a b c xs ys moved want p q = Took_stop a b c p.bytes p.took q

-- what holds is true of an error
pub on_err_of : {T E P : Type 0} (r : Result T E) → P → OnErr r P
on_err_of (Ok x) p = tt
on_err_of (Err e) p = p
