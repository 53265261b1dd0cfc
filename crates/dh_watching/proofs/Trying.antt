-- What orders write, by what was done of them.
use Rattle.std.proofs.Common.{◌≡◌, ◌∙◌, ◌⊎◌, inl, inr, ℕ, ◌+◌, ◌≤◌, Bool, true, false, true≢false, if◌then◌else◌, List, [], ◌∷◌, ◌++◌, Some, None, refl, sym, ap, subst, arith, append_assoc, append-nil}
use Rattle.dh_command.specs.declared.statuses.Status.{Status}
use Rattle.dh_command.specs.declared.statuses.Status.TheVariants as status
use Rattle.dh_imports.specs.Machine.{IsAmong}
use Rattle.dh_imports.specs.Records.{lookup, Record}
use Rattle.dh_laws.proofs.KeyOrder.{bool-case, true_false}
use Rattle.dh_ports.specs.Counts.{Rose}
use Rattle.dh_script_laws.specs.Answering.{AreAmong, Refusal, Failed, TooMany, Memory}
use Rattle.dh_script_laws.specs.Asks.{IsAsked, root_key}
use Rattle.dh_script_laws.specs.Scripts.{Tried, ends, sets, drops, asks, refuses, IsGrounded, first_fault}
use Rattle.dh_syntax.specs.declared.locations.Key.{Key}
use Rattle.dh_syntax.specs.declared.locations.Loc.{Loc}
use Rattle.dh_syntax.specs.Expressions.SameTree.{loc_eq}
use Rattle.dh_syntax.proofs.SameTree.{locs_tell}
use Rattle.dh_watch_laws.specs.Contents.{Now, IsEdited, IsOver, IsTold, dropped, set}
use Rattle.dh_watch_laws.specs.Editing.{edited}
use Rattle.dh_watch_laws.specs.Overflowing.{Overflows}
use Rattle.dh_watch_laws.specs.ScriptLines.{Order}
use Rattle.dh_watching.specs.declared.watches.WatchFault.{WatchFault}
use Rattle.dh_watching.specs.declared.watches.WatchFault.TheVariants as faults
use Rattle.dh_watching.specs.Runs.{Does, RoseBy, failures}
use Rattle.dh_watching.specs.Steps as steps
use Rattle.dh_watching.specs.Steps.{Follows, Goes, State, refusal_of, stays, goes_on}

-- ---- contents that say the same

abbrev SameAs : Now → Now → Type 0
SameAs x y = (l : Loc) → lookup loc_eq x l ≡ lookup loc_eq y l

over-same : (x y : Now) (r : Record) → SameAs x y → IsOver x r → IsOver y r
over-same x y r h o = record { texts = λ l t e. subst (λ z. IsTold z t) (h l) (o.texts l t e); looks = o.looks }

abbrev asked-same : (x y : Now) (asked : List Loc) (l : Loc) (line : List ℕ) (s : Status) (n : ℕ) (new : List Loc) → SameAs x y → IsAsked x asked l line s n new
    → IsAsked y asked l line s n new
asked-same x y asked l line s n new h a = record {
  recorded = a.recorded;
  over = over-same x y a.recorded h a.over;
  units = a.units;
  decided = a.decided;
  licensed = a.licensed;
  answers = a.answers;
  once = a.once;
  members = a.members;
  count = a.count;
}

overflows-same : (x y : Now) (k : Key) → SameAs x y → Overflows x k → Overflows y k
overflows-same x y k h o = record { recorded = o.recorded; over = over-same x y o.recorded h o.over; many = o.many }

grounded : (x y : Now) (l : Loc) (f : Refusal) → SameAs x y → (f ≡ TooMany → Overflows x (root_key l)) → IsGrounded y l f
grounded x y l Failed h m = tt
grounded x y l TooMany h m = overflows-same x y (root_key l) h (m refl)
grounded x y l Memory h m = tt

-- ---- edits of contents

module _ (l : Loc) where
  look-here : (ps : Now) (p : Loc × List ℕ) (x : Loc) → loc_eq p.0 x ≡ true → lookup loc_eq (p ∷ ps) x ≡ Some p.1
  look-here ps p x e = ap (λ b. if b then Some p.1 else lookup loc_eq ps x) e

  look-on : (ps : Now) (p : Loc × List ℕ) (x : Loc) → loc_eq p.0 x ≡ false → lookup loc_eq (p ∷ ps) x ≡ lookup loc_eq ps x
  look-on ps p x e = ap (λ b. if b then Some p.1 else lookup loc_eq ps x) e

  taken : (p : Loc × List ℕ) (ps : Now) → loc_eq p.0 l ≡ true → dropped l (p ∷ ps) ≡ dropped l ps
  taken p ps e = ap (λ b. if b then dropped l ps else p ∷ dropped l ps) e

  left : (p : Loc × List ℕ) (ps : Now) → loc_eq p.0 l ≡ false → dropped l (p ∷ ps) ≡ p ∷ dropped l ps
  left p ps e = ap (λ b. if b then dropped l ps else p ∷ dropped l ps) e

  dropped-here : (ps : Now) → lookup loc_eq (dropped l ps) l ≡ None
  dropped-here [] = refl
  dropped-here (p ∷ ps) = go (bool-case (loc_eq p.0 l)) (dropped-here ps)
    where
      go : (loc_eq p.0 l ≡ true) ⊎ (loc_eq p.0 l ≡ false) → lookup loc_eq (dropped l ps) l ≡ None → lookup loc_eq (dropped l (p ∷ ps)) l ≡ None
      go (inl t) i = ap (λ z. lookup loc_eq z l) (taken p ps t) ∙ i
      go (inr f) i = ap (λ z. lookup loc_eq z l) (left p ps f) ∙ look-on (dropped l ps) p l f ∙ i

  dropped-there : (ps : Now) (x : Loc) → loc_eq l x ≡ false → lookup loc_eq (dropped l ps) x ≡ lookup loc_eq ps x
  dropped-there [] x n = refl
  dropped-there (p ∷ ps) x n = go (bool-case (loc_eq p.0 l)) (bool-case (loc_eq p.0 x)) (dropped-there ps x n)
    where
      go : (loc_eq p.0 l ≡ true) ⊎ (loc_eq p.0 l ≡ false) → (loc_eq p.0 x ≡ true) ⊎ (loc_eq p.0 x ≡ false)
          → lookup loc_eq (dropped l ps) x ≡ lookup loc_eq ps x → lookup loc_eq (dropped l (p ∷ ps)) x ≡ lookup loc_eq (p ∷ ps) x
      go (inl t) (inl y) i = true_false (subst (λ z. loc_eq z x ≡ true) (locs_tell.equal p.0 l t) y) n
      go (inl t) (inr y) i = ap (λ z. lookup loc_eq z x) (taken p ps t) ∙ i ∙ sym (look-on ps p x y)
      go (inr f) (inl y) i = ap (λ z. lookup loc_eq z x) (left p ps f) ∙ look-here (dropped l ps) p x y ∙ sym (look-here ps p x y)
      go (inr f) (inr y) i = ap (λ z. lookup loc_eq z x) (left p ps f) ∙ look-on (dropped l ps) p x y ∙ i ∙ sym (look-on ps p x y)

  module _ (x x' y : Now) (same : SameAs x y) where
    set-same : (bytes : List ℕ) → IsEdited x l (Some bytes) x' → SameAs x' (set l bytes y)
    set-same bytes put z = put z ∙ go (bool-case (loc_eq l z))
      where
        go : (loc_eq l z ≡ true) ⊎ (loc_eq l z ≡ false) → (if loc_eq l z then Some bytes else lookup loc_eq x z) ≡ lookup loc_eq (set l bytes y) z
        go (inl t) = ap (λ b. if b then Some bytes else lookup loc_eq x z) t ∙ sym (look-here (dropped l y) (l, bytes) z t)
        go (inr f) = ap (λ b. if b then Some bytes else lookup loc_eq x z) f ∙ same z ∙ sym (dropped-there y z f) ∙ sym (look-on (dropped l y) (l, bytes) z f)

    drop-same : IsEdited x l None x' → SameAs x' (dropped l y)
    drop-same put z = put z ∙ go (bool-case (loc_eq l z))
      where
        go : (loc_eq l z ≡ true) ⊎ (loc_eq l z ≡ false) → (if loc_eq l z then None else lookup loc_eq x z) ≡ lookup loc_eq (dropped l y) z
        go (inl t) =
            ap (λ b. if b then None else lookup loc_eq x z) t ∙ sym (subst (λ w. lookup loc_eq (dropped l y) w ≡ None) (locs_tell.equal l z t) (dropped-here y))
        go (inr f) = ap (λ b. if b then None else lookup loc_eq x z) f ∙ same z ∙ sym (dropped-there y z f)

-- ---- locations without one

other-way : (l z : Loc) → loc_eq z l ≡ false → loc_eq l z ≡ false
other-way l z h = turn (bool-case (loc_eq l z))
  where
    turn : (loc_eq l z ≡ true) ⊎ (loc_eq l z ≡ false) → loc_eq l z ≡ false
    turn (inr g) = g
    turn (inl g) = true_false (subst (λ v. loc_eq z v ≡ true) (sym (locs_tell.equal l z g)) (locs_tell.itself z)) h

edited-in : (l x : Loc) (ls : List Loc) → IsAmong x (edited l ls) → IsAmong x ls × (loc_eq l x ≡ false)
edited-in l x [] m = absurd m
edited-in l x (y ∷ ys) m = go (bool-case (loc_eq y l)) (λ q. edited-in l x ys q)
  where
    go : (loc_eq y l ≡ true) ⊎ (loc_eq y l ≡ false) → (IsAmong x (edited l ys) → IsAmong x ys × (loc_eq l x ≡ false)) → IsAmong x (y ∷ ys) × (loc_eq l x ≡ false)
    go (inl t) i = let w = i (subst (λ b. IsAmong x (if b then edited l ys else y ∷ edited l ys)) t m) in (inr w.0, w.1)
    go (inr f) i = by (subst (λ b. IsAmong x (if b then edited l ys else y ∷ edited l ys)) f m)
      where
        by : IsAmong x (y ∷ edited l ys) → IsAmong x (y ∷ ys) × (loc_eq l x ≡ false)
        by (inl p) = (inl p, subst (λ z. loc_eq l z ≡ false) p (other-way l y f))
        by (inr q) = let w = i q in (inr w.0, w.1)

in-edited : (l x : Loc) (ls : List Loc) → IsAmong x ls → loc_eq l x ≡ false → IsAmong x (edited l ls)
in-edited l x [] m n = m
in-edited l x (y ∷ ys) m n = go (bool-case (loc_eq y l)) m (λ q. in-edited l x ys q n)
  where
    go : (loc_eq y l ≡ true) ⊎ (loc_eq y l ≡ false) → IsAmong x (y ∷ ys) → (IsAmong x ys → IsAmong x (edited l ys)) → IsAmong x (if loc_eq y l then edited l ys else y ∷ edited l ys)
    go (inl t) (inl p) i = true_false (subst (λ z. loc_eq l z ≡ true) (sym (locs_tell.equal y l t) ∙ p) (locs_tell.itself l)) n
    go (inl t) (inr q) i = subst (λ b. IsAmong x (if b then edited l ys else y ∷ edited l ys)) (sym t) (i q)
    go (inr f) (inl p) i = subst (λ b. IsAmong x (if b then edited l ys else y ∷ edited l ys)) (sym f) (inl p)
    go (inr f) (inr q) i = subst (λ b. IsAmong x (if b then edited l ys else y ∷ edited l ys)) (sym f) (inr (i q))

edited-among : (l : Loc) (xs ys : List Loc) → AreAmong xs ys → AreAmong (edited l xs) (edited l ys)
edited-among l xs ys h x m = let w = edited-in l x xs m in in-edited l x ys (h x w.0) w.1

-- ---- one order

-- what is watched is of these contents, and keeps the texts that were asked; no others, as long as no ask was refused
record Stands (b : State) (now : Now) (asked : List Loc) (exact : Bool) : Type 0 where
  told : Now
  is : b.told ≡ Some told
  same : SameAs told now
  least : AreAmong asked b.kept
  most : exact ≡ true → AreAmong b.kept asked

-- what stands after an order, and what the order then writes before what follows it
record Next (c : State) (o : Order) (line : List ℕ) (t : Status) (more : List Refusal) (now : Now) (asked : List Loc) (exact : Bool) : Type 0 where
  then_now : Now
  then_asked : List Loc
  then_exact : Bool
  stands : Stands c then_now then_asked then_exact
  before : (rest : List Order) (out : List ℕ) (s : Status) (refused : List Refusal) → Tried then_now then_asked then_exact rest out s refused
      → Tried now asked exact (o ∷ rest) (line ++ out) (first_fault t s) (more ++ refused)

next : (b c : State) (o : Order) (line : List ℕ) (t : Status) (more : List Refusal) → Follows b c o line t more
    → (now : Now) (asked : List Loc) (exact : Bool) → Stands b now asked exact → Next c o line t more now asked exact
next b c _ _ _ _ (steps.sets l bytes ch none le) now asked exact g =
    let (then_told, is, put) = ch.put g.told g.is in
    record {
      then_now = set l bytes now;
      then_asked = edited l asked;
      then_exact = exact;
      stands = record {
        told = then_told;
        is = is;
        same = set-same l g.told then_told now g.same bytes put;
        least = λ x m. ch.keeps x (edited-among l asked b.kept g.least x m);
        most = λ e x m. edited-among l b.kept asked (g.most e) x (ch.forgets x m);
      };
      before = λ rest out s refused h. sets h;
    }
next b c _ _ _ _ (steps.drops l ch none le) now asked exact g =
    let (then_told, is, put) = ch.put g.told g.is in
    record {
      then_now = dropped l now;
      then_asked = edited l asked;
      then_exact = exact;
      stands = record {
        told = then_told;
        is = is;
        same = drop-same l g.told then_told now g.same put;
        least = λ x m. ch.keeps x (edited-among l asked b.kept g.least x m);
        most = λ e x m. edited-among l b.kept asked (g.most e) x (ch.forgets x m);
      };
      before = λ rest out s refused h. drops h;
    }
next b c _ _ _ _ (steps.answers l line is told most le) now asked exact g =
    let a = is g.told g.is asked g.least in
    record {
      then_now = now;
      then_asked = a.new ++ asked;
      then_exact = exact;
      stands = record { told = g.told; is = told ∙ g.is; same = g.same; least = a.kept; most = λ e. (a.exact (g.most e)).1 };
      before = λ rest out s refused h.
          asks (asked-same g.told now asked l line.text line.status a.most a.new g.same a.is_asked) a.few a.fewer (λ e. (a.exact (g.most e)).0) h;
    }
next b c _ _ _ _ (steps.refuses l f is told most le fails) now asked exact g =
    let r = is g.told g.is in
    record {
      then_now = now;
      then_asked = asked;
      then_exact = false;
      stands = record { told = g.told; is = told ∙ g.is; same = g.same; least = λ x m. r.kept x (g.least x m); most = λ e. absurd (true≢false (sym e)) };
      before = λ rest out s refused h. refuses (refusal_of f) (grounded g.told now l (refusal_of f) g.same r.many) h;
    }

-- ---- many orders

first_fault-assoc : (s t u : Status) → first_fault (first_fault s t) u ≡ first_fault s (first_fault t u)
first_fault-assoc status.Ok t u = refl
first_fault-assoc s t u = refl

first_fault-end : (s : Status) → first_fault s status.Ok ≡ s
first_fault-end status.Ok = refl
first_fault-end s = refl

record Reached (b : State) (orders : List Order) (out : List ℕ) (s : Status) (refused : List Refusal) : Type 0 where
  now : Now
  asked : List Loc
  exact : Bool
  stands : Stands b now asked exact
  before : (rest : List Order) (out' : List ℕ) (s' : Status) (more : List Refusal) → Tried now asked exact rest out' s' more
      → Tried [] [] true (orders ++ rest) (out ++ out') (first_fault s s') (refused ++ more)

module _ (a : State) (told : a.told ≡ Some []) (kept : a.kept ≡ []) where
  reached : (b : State) (orders : List Order) (out : List ℕ) (s : Status) (refused : List Refusal) → Goes a b orders out s refused → Reached b orders out s refused
  reached b _ _ _ _ stays = record {
    now = [];
    asked = [];
    exact = true;
    stands = record {
      told = [];
      is = told;
      same = λ l. refl;
      least = λ x m. absurd m;
      most = λ e x m. subst (IsAmong x) kept m;
    };
    before = λ rest out s more h. h;
  }
  reached c _ _ _ _ (goes_on {b = b} {orders = orders} {o = o} {out = out} {line = line} {s = s} {t = t} {refused = refused} {more = more} g f) =
      let r = reached b orders out s refused g in
      let n = next b c o line t more f r.now r.asked r.exact r.stands in
      record {
        now = n.then_now;
        asked = n.then_asked;
        exact = n.then_exact;
        stands = n.stands;
        before = λ rest out' s' more' h.
            let whole = r.before (o ∷ rest) (line ++ out') (first_fault t s') (more ++ more') (n.before rest out' s' more' h) in
            rw (append_assoc orders (o ∷ []) rest, append_assoc out line out', first_fault-assoc s t s', append_assoc refused more more') whole;
      }

  pub tried_of : (b : State) (orders : List Order) (out : List ℕ) (s : Status) (refused : List Refusal) → Goes a b orders out s refused → Tried [] [] true orders out s refused
  tried_of b orders out s refused g =
      let r = reached b orders out s refused g in
      let whole = r.before [] [] status.Ok [] ends in
      rw (append-nil orders, append-nil out, first_fault-end s, append-nil refused) at whole

-- ---- counts

failures-both : (xs ys : List Refusal) → failures (xs ++ ys) ≡ failures xs + failures ys
failures-both [] ys = omega arith
failures-both (Failed ∷ xs) ys = let e = failures-both xs ys in omega (arith, e)
failures-both (TooMany ∷ xs) ys = failures-both xs ys
failures-both (Memory ∷ xs) ys = failures-both xs ys

rises : (b c : State) (o : Order) (line : List ℕ) (t : Status) (more : List Refusal) → Follows b c o line t more → b.faults ≤ c.faults
rises b c _ _ _ _ (steps.sets l bytes ch none le) = le
rises b c _ _ _ _ (steps.drops l ch none le) = le
rises b c _ _ _ _ (steps.answers l line is told most le) = le
rises b c _ _ _ _ (steps.refuses l f is told most le fails) = le

rose-once : (b c : ℕ) → Rose b c → RoseBy 1 b c
rose-once b c (inl h) = inl (omega arith)
rose-once b c (inr h) = inr (let e = h.1 in omega (arith, e))

refused-once : (f : WatchFault) (b c : ℕ) → b ≤ c → (f ≡ faults.Failed → Rose b c) → RoseBy (failures (refusal_of f ∷ [])) b c
refused-once faults.Failed b c le h = rose-once b c (h refl)
refused-once faults.TooMany b c le h = inl (omega arith)
refused-once faults.Memory b c le h = inl (omega arith)

counted-once : (b c : State) (o : Order) (line : List ℕ) (t : Status) (more : List Refusal) → Follows b c o line t more → RoseBy (failures more) b.faults c.faults
counted-once b c _ _ _ _ (steps.sets l bytes ch none le) = inl (omega (arith, le))
counted-once b c _ _ _ _ (steps.drops l ch none le) = inl (omega (arith, le))
counted-once b c _ _ _ _ (steps.answers l line is told most le) = inl (omega (arith, le))
counted-once b c _ _ _ _ (steps.refuses l f is told most le fails) = refused-once f b.faults c.faults le fails

both : (m n a b c : ℕ) → b ≤ c → RoseBy m a b → RoseBy n b c → RoseBy (m + n) a c
both m n a b c le (inl p) (inl q) = inl (omega arith)
both m n a b c le (inl p) (inr q) = inr q
both m n a b c le (inr p) q = inr (omega (arith, p, le))

pub counted_of : (a b : State) (orders : List Order) (out : List ℕ) (s : Status) (refused : List Refusal) → Goes a b orders out s refused → RoseBy (failures refused) a.faults b.faults
counted_of a b _ _ _ _ stays = inl (omega arith)
counted_of a c _ _ _ _ (goes_on {b = b} {orders = orders} {o = o} {out = out} {line = line} {s = s} {t = t} {refused = refused} {more = more} g f) =
    let sum = failures-both refused more in
    subst (λ n. RoseBy n a.faults c.faults) (sym sum)
    (both (failures refused) (failures more) a.faults b.faults c.faults (rises b c o line t more f) (counted_of a b orders out s refused g) (counted-once b c o line t more f))

-- so these orders are done
pub does_of : (a b : State) (orders : List Order) (out : List ℕ) (s : Status) (refused : List Refusal) → Goes a b orders out s refused → Does a b orders out s
does_of a b orders out s refused g =
    record { refused = refused; goes = g; tried = λ told kept. tried_of a told kept b orders out s refused g; counted = counted_of a b orders out s refused g }
