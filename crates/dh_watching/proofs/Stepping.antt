-- Orders that are followed one after the other.
use Rattle.std.proofs.Common.{◌≡◌, ◌∙◌, ℕ, ◌+◌, ◌<◌, ◌≤◌, List, [], ◌∷◌, ◌++◌, codes, Option, Some, None, Result, Ok, Err, length, take, drop, get_or, refl, sym, ap, subst, append_assoc, append-nil, arith}
use Rattle.std.proofs.lemmas.List.{drop_more, map-append, take-append-drop, take_all, take_more}
use Rattle.dh_command.specs.declared.statuses.Status.{Status}
use Rattle.dh_command.specs.declared.statuses.Status.TheVariants as status
use Rattle.std.specs.Fmt.{decimal}
use Rattle.dh_ports.specs.Counts.{Rose}
use Rattle.dh_ports.specs.declared.desks.DeskError.{DeskError}
use Rattle.dh_ports.specs.declared.desks.DeskError.TheVariants as errors
use Rattle.dh_script.specs.declared.orders.Order as read
use Rattle.dh_script.specs.Orders.{order_of, orders_of}
use Rattle.dh_script_laws.specs.Scripts.{ask_line, first_fault, refusal_status, refusal_text, refused_line}
use Rattle.dh_streams.specs.Streams.{Gains, Output, Stops, output}
use Rattle.dh_streams.proofs.Joining.{gains-both, gains-nothing, gains-stops}
use Rattle.dh_syntax.specs.declared.locations.Loc.{Loc}
use Rattle.dh_syntax.specs.Imports.Locations.{loc_text}
use Rattle.dh_watch_laws.specs.ScriptLines.{Order, Set, Drop, Ask}
use Rattle.dh_watching.specs.declared.following.Halt.{Halt}
use Rattle.dh_watching.specs.declared.following.Halt.TheVariants as halts
use Rattle.dh_watching.specs.declared.watches.Line.{Line}
use Rattle.dh_watching.specs.declared.watches.WatchFault.{WatchFault}
use Rattle.dh_watching.specs.declared.watches.WatchFault.TheVariants as faults
use Rattle.dh_watching.specs.Inside.Gone.{AfterChange, AfterOrder, HasGone, HasHalted, HasStopped, IsCutOff, IsFollowed, IsGoneTo, IsRefusedChange, edit_of}
use Rattle.dh_watching.specs.Steps as steps
use Rattle.dh_watching.specs.Steps.{AsksOneMore, Follows, IsAnswer, IsChange, IsEdit, IsRefusal, State, goes_on, refusal_of, stays}

-- before the first order
pub nothing_gone : (a : State) (w : Option (List ℕ)) (f : ℕ) → HasGone a a [] (output w w f f) status.Ok
nothing_gone a w f = record { told = []; refused = []; goes = stays; gains = gains-nothing w f }

module _ (a b c : State) (os : List Order) (o : Order) (w0 w1 w2 : Option (List ℕ)) (f0 f1 f2 : ℕ) (s : Status) (h : HasGone a b os (output w0 w1 f0 f1) s) where
  -- one order more
  pub gone_on : (t : Status) → IsFollowed b c o (output w1 w2 f1 f2) t → HasGone a c (os ++ o ∷ []) (output w0 w2 f0 f2) (first_fault s t)
  gone_on t k = record {
    told = h.told ++ k.line;
    refused = h.refused ++ k.refused;
    goes = goes_on h.goes k.follows;
    gains = gains-both w0 w1 w2 f0 f1 f2 h.told k.line h.gains k.gains;
  }

  -- its line is not written whole
  pub cut_short : (all rest : List Order) → all ≡ os ++ o ∷ rest → IsCutOff b c o (output w1 w2 f1 f2) → HasStopped a c all (output w0 w2 f0 f2)
  cut_short all rest cut k = record {
    before = os ++ o ∷ [];
    after = rest;
    cut = cut ∙ sym (append_assoc os (o ∷ []) rest);
    told = h.told ++ k.line;
    status = first_fault s k.status;
    refused = h.refused ++ k.refused;
    goes = goes_on h.goes k.follows;
    stops = gains-stops w0 w1 w2 f0 f1 f2 h.told k.line h.gains k.stops;
  }

  -- it is a change that is refused
  pub halted : (all rest : List Order) (e : DeskError) → all ≡ os ++ o ∷ rest → IsRefusedChange b c o e → Gains (output w1 w2 f1 f2) [] → HasHalted a c all (output w0 w2 f0 f2) s e
  halted all rest e cut k g = record {
    before = os;
    order = o;
    after = rest;
    cut = cut;
    middle = b;
    gone = record {
      told = h.told;
      refused = h.refused;
      goes = h.goes;
      gains = subst (Gains (output w0 w2 f0 f2)) (append-nil h.told) (gains-both w0 w1 w2 f0 f1 f2 h.told [] h.gains g);
    };
    refused = k;
  }

module _ (a b c : State) (os : List Order) (o : Order) (w0 w1 w2 : Option (List ℕ)) (f0 f1 f2 : ℕ) (s : Status) (h : HasGone a b os (output w0 w1 f0 f1) s) where
  -- why it goes no further
  pub gone_to : (halt : Halt) (all rest : List Order) → all ≡ os ++ o ∷ rest → AfterOrder b c o (output w1 w2 f1 f2) (Err halt) → IsGoneTo a c all (output w0 w2 f0 f2) s (Some halt)
  gone_to (halts.Refused e) all rest cut k = halted a b c os o w0 w1 w2 f0 f1 f2 s h all rest e cut k.0 k.1
  gone_to halts.Cut all rest cut k = cut_short a b c os o w0 w1 w2 f0 f1 f2 s h all rest cut k

  -- it goes on
  pub gone_more : (more : List Order) (t u : Status) → more ≡ os ++ o ∷ [] → u ≡ first_fault s t → IsFollowed b c o (output w1 w2 f1 f2) t → HasGone a c more (output w0 w2 f0 f2) u
  gone_more more t u p q k =
      subst (λ x. HasGone a c x (output w0 w2 f0 f2) u) (sym p)
      (subst (HasGone a c (os ++ o ∷ []) (output w0 w2 f0 f2)) (sym q) (gone_on a b c os o w0 w1 w2 f0 f1 f2 s h t k))

-- ---- the order at a place

module _ (os : List read.Order) (i : ℕ) (o : read.Order) (h : i < length os) (at : o ≡ get_or os i o) where
  pub orders_more : orders_of (take (i + 1) os) ≡ orders_of (take i os) ++ order_of o ∷ []
  orders_more = ap orders_of (take_more os i o h ∙ ap (λ x. take i os ++ x ∷ []) (sym at)) ∙ map-append order_of (take i os) (o ∷ [])

  pub orders_around : orders_of os ≡ orders_of (take i os) ++ order_of o ∷ orders_of (drop (i + 1) os)
  orders_around =
      ap orders_of (sym (take-append-drop i os) ∙ ap (λ t. take i os ++ t) (drop_more os i o h ∙ ap (λ x. x ∷ drop (i + 1) os) (sym at)))
      ∙ map-append order_of (take i os) (o ∷ drop (i + 1) os)

-- behind the last one
pub orders_all : (os : List read.Order) (i : ℕ) → length os ≡ i → orders_of (take i os) ≡ orders_of os
orders_all os i e = ap (λ n. orders_of (take n os)) (sym e) ∙ ap orders_of (take_all (length os) os (omega arith))

-- ---- one order

-- nothing was asked for, and nothing is new
pub none_new : (kept : List Loc) (asked : ℕ) → AsksOneMore kept kept asked asked
none_new kept asked = record { locs = []; once = tt; fresh = λ l m. absurd m; kept = λ l m. absurd m; most = omega arith }

is_edit : (l : Loc) (bytes : Option (List ℕ)) → IsEdit (edit_of l bytes)
is_edit l (Some bytes) = tt
is_edit l None = tt

pub changed : (a b : State) (l : Loc) (bytes : Option (List ℕ)) → IsChange a.told a.kept l bytes b.told b.kept → b.asked ≡ a.asked → a.faults ≤ b.faults
    → Follows a b (edit_of l bytes) [] status.Ok []
changed a b l (Some bytes) ch none le = steps.sets l bytes ch none le
changed a b l None ch none le = steps.drops l ch none le

pub refused_change : (a b : State) (l : Loc) (bytes : Option (List ℕ)) (e : DeskError) → b.told ≡ a.told → b.kept ≡ a.kept → b.asked ≡ a.asked → a.faults ≤ b.faults
    → (e ≡ errors.Failed → Rose a.faults b.faults) → IsRefusedChange a b (edit_of l bytes) e
refused_change a b l bytes e told kept none le fails = record { edit = is_edit l bytes; unchanged = (told, kept, none); counted = le; failed = fails }

-- a change writes nothing
pub after_change : (a b : State) (o : Order) (w : Option (List ℕ)) (f : ℕ) (r : Result Status Halt) → AfterChange a b o r → AfterOrder a b o (output w w f f) r
after_change a b o w f (Ok s) h = record { line = []; refused = []; follows = h; gains = gains-nothing w f }
after_change a b o w f (Err (halts.Refused e)) h = (h, gains-nothing w f)
after_change a b o w f (Err halts.Cut) h = absurd h

-- a change to a copy of some bytes
pub after_set : (a b : State) (l : Loc) (copy bytes : List ℕ) (o : Order) (w : Option (List ℕ)) (f : ℕ) (r : Result Status Halt) → copy ≡ bytes → o ≡ Set l bytes
    → AfterChange a b (edit_of l (Some copy)) r → AfterOrder a b o (output w w f f) r
after_set a b l copy bytes o w f r same is h =
    subst (λ x. AfterOrder a b x (output w w f f) r) (sym is) (after_change a b (Set l bytes) w f r (subst (λ x. AfterChange a b (Set l x) r) same h))

pub after_drop : (a b : State) (l : Loc) (o : Order) (w : Option (List ℕ)) (f : ℕ) (r : Result Status Halt) → o ≡ Drop l → AfterChange a b (edit_of l None) r → AfterOrder a b o (output w w f f) r
after_drop a b l o w f r is h = subst (λ x. AfterOrder a b x (output w w f f) r) (sym is) (after_change a b (Drop l) w f r h)

-- a change for whose bytes there is no memory
pub no_bytes : (a : State) (l : Loc) (bytes : List ℕ) (w : Option (List ℕ)) (f : ℕ) → AfterOrder a a (Set l bytes) (output w w f f) (Err (halts.Refused errors.Memory))
no_bytes a l bytes w f = (record { edit = tt; unchanged = (refl, refl, refl); counted = omega arith; failed = λ e. cc }, gains-nothing w f)

module _ (a b : State) (l : Loc) (place : List ℕ) (named : place ≡ loc_text l) (told : b.told ≡ a.told) (le : a.faults ≤ b.faults) (w : Output) where
  module _ (line : Line) (is : IsAnswer a.told a.kept l b.kept line) (most : b.asked ≤ a.asked + line.asked) where
    pub answered : Gains w (place ++ (codes ": " ++ (line.text ++ (codes " (asked " ++ (decimal line.asked ++ codes ")\n"))))) → IsFollowed a b (Ask l) w line.status
    answered g = record { line = ask_line l line.text line.asked; refused = []; follows = steps.answers l line is told most le; gains = subst (λ p. Gains w (p ++ (codes ": " ++ (line.text ++ (codes " (asked " ++ (decimal line.asked ++ codes ")\n")))))) named g }

    pub answer_cut : Stops w (place ++ (codes ": " ++ (line.text ++ (codes " (asked " ++ (decimal line.asked ++ codes ")\n"))))) → IsCutOff a b (Ask l) w
    answer_cut g = record {
      line = ask_line l line.text line.asked;
      status = line.status;
      refused = [];
      follows = steps.answers l line is told most le;
      stops = subst (λ p. Stops w (p ++ (codes ": " ++ (line.text ++ (codes " (asked " ++ (decimal line.asked ++ codes ")\n")))))) named g;
    }

  module _ (f : WatchFault) (is : IsRefusal a.told a.kept l b.kept f) (most : AsksOneMore a.kept b.kept a.asked b.asked) (fails : f ≡ faults.Failed → Rose a.faults b.faults) where
    pub refused_ask : Gains w (place ++ (codes ": " ++ (refusal_text (refusal_of f) ++ codes "\n"))) → IsFollowed a b (Ask l) w (refusal_status (refusal_of f))
    refused_ask g = record {
      line = refused_line l (refusal_of f);
      refused = refusal_of f ∷ [];
      follows = steps.refuses l f is told most le fails;
      gains = subst (λ p. Gains w (p ++ (codes ": " ++ (refusal_text (refusal_of f) ++ codes "\n")))) named g;
    }

    pub refusal_cut : Stops w (place ++ (codes ": " ++ (refusal_text (refusal_of f) ++ codes "\n"))) → IsCutOff a b (Ask l) w
    refusal_cut g = record {
      line = refused_line l (refusal_of f);
      status = refusal_status (refusal_of f);
      refused = refusal_of f ∷ [];
      follows = steps.refuses l f is told most le fails;
      stops = subst (λ p. Stops w (p ++ (codes ": " ++ (refusal_text (refusal_of f) ++ codes "\n")))) named g;
    }
